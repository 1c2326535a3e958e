-- An instance can be added, and its obligations follow from those of its origin.
use Rattle.std.proofs.Common.{◌≡◌, ℕ, Bool, true, false, cond, List, [], ◌∷◌, length, is_some, bytes_eq, codes, Option, Some, None, IfSome, refl, sym, ap, ap₂, ◌∙◌, subst}
use Rattle.std.specs.Option.{option_map}
use Rattle.lisp_data.specs.Values.{Name, Val}
use Rattle.terms.specs.Primitives.{Three, choose, lookup}
use Rattle.terms.specs.Terms.{Tm, Var, Quote, Call, Tms, Done, More, count, Over, OverAll, substitute, by_args}
use Rattle.terms.specs.Definitions.{find, Interp}
use Rattle.terms.specs.Worlds.{Functions, FitsSequent, arity, arity_by, is_in, IsIn, Each, TotalFor, Total, IsTrueAt, Holds}
use Rattle.terms.specs.Measures.{mentions, call1, call2, RecursiveCall, recursive_calls, is_natural, falls, owed_by, obligations}
use Rattle.terms.specs.Formed.{with_def, FitsOver, IsFormed, AllFormed, VarsApart, ObligationsHold}
use Rattle.terms.specs.Sound.{AllHold}
use Rattle.terms.specs.declared.definition.Definition.{Definition}
use Rattle.terms.proofs.Names.{same_name, name_self, name_apart}
use Rattle.terms.proofs.Below.{Any}
use Rattle.terms.proofs.Models.{is_if}
use Rattle.terms.proofs.Extend.{over_map, arity_later}
use Rattle.terms.proofs.Meaning.{found_free, arity_defined}
use Rattle.terms.proofs.Basics.{is_less}
use Rattle.terms.proofs.Growth.{free_primitive}
use Rattle.terms.proofs.Totality.{each_to, each_of_map, over_substitute}
use Rattle.terms.specs.Maps.{NamePairs, or_name, image, rename, rename_all, renamed}
use Rattle.instance_laws.specs.Closed.{CallsOnly, IsClosed, KeepsArities}
use Rattle.terms.proofs.Found.{IsFoundFormed}
use Rattle.instance_laws.proofs.Sequents.{SequentCallsOnly, rename-count, each_mapped, each_once, once_each, image_arity, instance_true, instance_holds}
use Rattle.instance_laws.proofs.Renaming.{CallOver, calls_over, rename_substitute, image_other, rename_lacks, rename_all_lacks, same_mentions, same_nested, Refine, AllRefine, calls_refine}

-- a call of another name than f is of a function of the world, and listed where it has a definition
pub record Listed (F : Functions) (listed : List Name) (f g : Name) (k : ℕ) : Type 0 where
  pub other : bytes_eq f g ≡ false
  pub fits : arity F g ≡ Some k
  pub inside : (e : Definition) → find F.defs g ≡ Some e → is_in listed g ≡ true

abbrev pub Known : Functions → List Name → Name → Name → ℕ → Type 0
Known F listed f g k = (arity F g ≡ Some k) × (bytes_eq f g ≡ false → Listed F listed f g k)

-- each call's name under a map
module _ (P : Name → Type 0) (Q Q' : Name → ℕ → Type 0) (N : NamePairs) (step : (g : Name) (k : ℕ) → Q g k → Q' (image N g) k) where
  mutual
    rename_over : (t : Tm) → Over P Q t → Over P Q' (rename N t)
    rename_over (Var x) o = o
    rename_over (Quote v) o = tt
    rename_over (Call g ts) o = (subst (Q' (image N g)) (sym (rename-count N ts)) (step g (count ts) o.0), rename_all_over ts o.1)

    rename_all_over : (ts : Tms) → OverAll P Q ts → OverAll P Q' (rename_all N ts)
    rename_all_over Done o = tt
    rename_all_over (More t ts) o = (rename_over t o.0, rename_all_over ts o.1)

-- what is known of a definition and a map that is closed under calls
pub record CanInstantiate (F : Functions) (listed : List Name) (d : Definition) : Type 0 where
  pub found : find F.defs d.name ≡ Some d
  pub formed : IsFoundFormed F d
  pub body : Over (IsIn d.formals) (Known F listed d.name) d.body
  pub measure : IfSome d.measure (Over (IsIn d.formals) (Listed F listed d.name))

-- for all x each element, so each element for all x
each_all : {X A : Type 0} (Q : X → A → Type 0) (xs : List A) → ((x : X) → Each (Q x) xs) → Each (λ a. (x : X) → Q x a) xs
each_all Q [] h = tt
each_all Q (a ∷ xs) h = (λ x. (h x).0, each_all Q xs (λ x. (h x).1))

-- an interpretation that is total, and values of the variables
record At (F : Functions) : Type 0 where
  interp : Interp
  total : TotalFor F interp
  env : Name → Val

module _ (F : Functions) (formed : AllFormed F.vars F.defs) (total : Total F) (apart : VarsApart F) (m : NamePairs) (listed : List Name) (is : IsClosed F.defs m listed) (keeps : KeepsArities F m) (d : Definition) (can : CanInstantiate F listed d) (name : Name) (fresh : arity F name ≡ None) where
  abbrev N : NamePairs
  N = (d.name, name) ∷ m

  abbrev i : Definition
  i = renamed ((d.name, name) ∷ m) name d

  abbrev Knows : Name → ℕ → Type 0
  Knows = Known F listed d.name

  abbrev Apart : Name → ℕ → Type 0
  Apart = Listed F listed d.name

  stays : (g : Name) (k : ℕ) → Knows g k → bytes_eq d.name g ≡ false → bytes_eq name (image m g) ≡ false
  stays g k n e =
      name_apart name (image m g) (λ same.
      let l = n.1 e in
      let a = image_arity F total apart m listed is keeps g k l.inside l.fits in
      let b = subst (λ x. arity F x ≡ None) same fresh in
      absurd (cc))

  any_body : Over Any (Known F listed d.name) d.body
  any_body = over_map (IsIn d.formals) Any (Known F listed d.name) (Known F listed d.name) (λ x p. tt) (λ g k o. o) d.body can.body

  -- it can be added
  new_arity : arity (with_def F (renamed ((d.name, name) ∷ m) name d)) name ≡ Some (length d.formals)
  new_arity =
      ap (λ q. arity_by q (cond (bytes_eq name name) (Some i) (find F.defs name)) (lookup F.vars name)) (free_primitive F name fresh)
      ∙ ap (λ b. arity_by None (cond b (Some i) (find F.defs name)) (lookup F.vars name)) (name_self name)

  apart_arity : (g : Name) (k : ℕ) → Apart g k → arity F (image ((d.name, name) ∷ m) g) ≡ Some k
  apart_arity g k l = subst (λ x. arity F x ≡ Some k) (sym (image_other d.name name m g l.other)) (image_arity F total apart m listed is keeps g k l.inside l.fits)

  known_arity : (g : Name) (k : ℕ) → Knows g k → arity (with_def F (renamed ((d.name, name) ∷ m) name d)) (image ((d.name, name) ∷ m) g) ≡ Some k
  known_arity g k n = by_test (bytes_eq d.name g) refl
    where
      by_test : (b : Bool) → bytes_eq d.name g ≡ b → arity (with_def F (renamed ((d.name, name) ∷ m) name d)) (or_name g (cond b (Some name) (lookup m g))) ≡ Some k
      by_test true e =
          let own = arity_defined F formed d.name d can.found in
          let same : arity F d.name ≡ Some k = subst (λ x. arity F x ≡ Some k) (sym (same_name d.name g e)) n.0 in
          let number : Some (length d.formals) ≡ Some k = sym own ∙ same in
          new_arity ∙ number
      by_test false e =
          let l = n.1 e in
          arity_later F i fresh (image m g) k (image_arity F total apart m listed is keeps g k l.inside l.fits)

  renamed_measure : (o : Option Tm) → IfSome o (Over (IsIn d.formals) Apart) → IfSome (option_map (rename ((d.name, name) ∷ m)) o) (FitsOver F d.formals)
  renamed_measure None h = tt
  renamed_measure (Some t) h = rename_over (IsIn d.formals) Apart (λ g k. arity F g ≡ Some k) N apart_arity t h

  some_measure : (o : Option Tm) → is_some o ≡ true → is_some (option_map (rename ((d.name, name) ∷ m)) o) ≡ true
  some_measure None e = absurd (cc)
  some_measure (Some t) e = refl

  pub instance_formed : IsFormed F (renamed ((d.name, name) ∷ m) name d)
  instance_formed = record {
    fresh = fresh;
    formals = can.formed.formals;
    body = rename_over (IsIn d.formals) (Known F listed d.name) (λ g k. arity (with_def F i) g ≡ Some k) N known_arity d.body can.body;
    measure = renamed_measure d.measure can.measure;
    measured = λ e. some_measure d.measure (can.formed.measured (sym (same_mentions d.name name m Knows stays d.body any_body) ∙ e));
    flat = same_nested d.name name m Knows stays d.body any_body ∙ can.formed.flat;
  }

  -- what a recursive definition's obligations speak with stays
  module _ (if_other : bytes_eq d.name (codes "IF") ≡ false) (less_other : bytes_eq d.name (codes "<") ≡ false) (has_not : Listed F listed d.name (codes "NOT") 1) (has_natp : Listed F listed d.name (codes "NATP") 1)
      (is_not : image m (codes "NOT") ≡ codes "NOT") (is_natp : image m (codes "NATP") ≡ codes "NATP") where
    if_stays : image m (codes "IF") ≡ codes "IF"
    if_stays = is.primitives (codes "IF") (Three choose) is_if

    calls_only : (t : Tm) → Over Any Apart t → CallsOnly F.defs listed t
    calls_only t o = over_map Any Any _ _ (λ x p. p) (λ g k l. l.inside) t o

    calls_only_all : (ts : List Tm) → Each (Over Any Apart) ts → Each (CallsOnly F.defs listed) ts
    calls_only_all ts h = each_to (Over Any Apart) (CallsOnly F.defs listed) calls_only ts h

    same_tests : (Q : Tm → Type 0) (ts : List Tm) → Each (Over Any Apart) ts → Each (λ t. Q (rename ((d.name, name) ∷ m) t)) ts → Each (λ t. Q (rename m t)) ts
    same_tests Q [] o h = tt
    same_tests Q (t ∷ ts) o h = (subst Q (rename_lacks d.name name m Apart (λ g k l. l.other) t o.0) h.0, same_tests Q ts o.1 h.1)

    over_substitute_all : (us : Tms) → OverAll Any Apart us → (t : Tm) → Over Any Apart t → Over Any Apart (substitute (by_args d.formals us) t)
    over_substitute_all us o t p = over_substitute Any Any Apart (by_args d.formals us) (λ x q. by_args_over d.formals us o x) t p
      where
        by_test : (b : Bool) (u v : Tm) → Over Any Apart u → Over Any Apart v → Over Any Apart (cond b u v)
        by_test true u v g h = g
        by_test false u v g h = h

        by_args_over : (ys : List Name) (vs : Tms) → OverAll Any Apart vs → (x : Name) → Over Any Apart (by_args ys vs x)
        by_args_over [] vs q x = tt
        by_args_over (y ∷ ys) Done q x = tt
        by_args_over (y ∷ ys) (More v vs) q x = by_test (bytes_eq y x) v (by_args ys vs x) q.0 (by_args_over ys vs q.1 x)

    -- a call that has at least the tests of another, under the map
    abbrev Refines : At F → RecursiveCall → RecursiveCall → Type 0
    Refines a = Refine d.name name m Knows stays if_other if_stays has_not.other is_not (IsTrueAt F a.interp a.env)

    abbrev AllRefined : At F → List RecursiveCall → List RecursiveCall → Type 0
    AllRefined a = AllRefine d.name name m Knows stays if_other if_stays has_not.other is_not (IsTrueAt F a.interp a.env)

    abbrev IsOver : RecursiveCall → Type 0
    IsOver = CallOver d.name Any Knows Apart (λ g k e n. n.1 e) has_not

    module _ (mu : Tm) (over : Over Any (Listed F listed d.name) mu) where
      mu_same : rename ((d.name, name) ∷ m) mu ≡ rename m mu
      mu_same = rename_lacks d.name name m Apart (λ g k l. l.other) mu over

      abbrev Less : At F → RecursiveCall → Type 0
      Less a c' = Each (IsTrueAt F a.interp a.env) c'.tests → IsTrueAt F a.interp a.env (falls d.formals (rename ((d.name, name) ∷ m) mu) c').goal

      -- one call
      falls_too : (a : At F) (c c' : RecursiveCall) → Refines a c c' → IsOver c → FitsSequent F (falls d.formals mu c) → Holds F (falls d.formals mu c) → Less a c'
      falls_too a c c' r o fit h tests =
          let s = falls d.formals mu c in
          let over' = over_substitute_all c.args o.args mu over in
          let less : Listed F listed d.name (codes "<") 2 = record { other = less_other; fits = fit.goal.0; inside = λ e found. absurd (no_def e found) } in
          let calls : SequentCallsOnly F.defs listed (falls d.formals mu c) = record { universals = tt; hyps = each_once (CallsOnly F.defs listed) c.tests (calls_only_all c.tests o.tests); goal = calls_only (falls d.formals mu c).goal (less, (over', (over, tt))) } in
          let true_tests = each_once (λ t. IsTrueAt F a.interp a.env (rename m t)) c.tests (same_tests (IsTrueAt F a.interp a.env) c.tests o.tests (r.tests tests)) in
          let holds = instance_true F total apart m listed is keeps (falls d.formals mu c) fit calls h a.interp a.total tt a.env true_tests in
          let args : c'.args ≡ rename_all m c.args = r.args ∙ rename_all_lacks d.name name m Apart (λ g k l. l.other) c.args o.args in
          let goal : rename m s.goal ≡ call2 (codes "<") (substitute (by_args d.formals c'.args) (rename ((d.name, name) ∷ m) mu)) (rename ((d.name, name) ∷ m) mu) =
          ap (λ g. call2 g (rename m (substitute (by_args d.formals c.args) mu)) (rename m mu)) (is.primitives (codes "<") _ is_less)
          ∙ ap (λ x. call2 (codes "<") x (rename m mu)) (rename_substitute m d.formals c.args mu)
          ∙ ap₂ (λ x y. call2 (codes "<") (substitute (by_args d.formals x) y) y) (sym args) (sym mu_same) in
          subst (IsTrueAt F a.interp a.env) goal holds
        where
          no_def : (e : Definition) → find F.defs (codes "<") ≡ Some e → ⊥
          no_def e found = let n = found_free F.vars F.defs formed (codes "<") e found in let l = is_less in absurd (cc)

      -- all calls
      calls_too : (a : At F) (cs cs' : List RecursiveCall) → AllRefined a cs cs' → Each IsOver cs → Each (λ c. FitsSequent F (falls d.formals mu c) × Holds F (falls d.formals mu c)) cs → Each (Less a) cs'
      calls_too a [] [] r o h = tt
      calls_too a [] (c' ∷ cs') r o h = absurd r
      calls_too a (c ∷ cs) [] r o h = absurd r
      calls_too a (c ∷ cs) (c' ∷ cs') r o h = (falls_too a c c' r.0 o.0 h.0.0 h.0.1, calls_too a cs cs' r.1 o.1 h.1)

      abbrev calls' : List RecursiveCall
      calls' = recursive_calls name [] (rename ((d.name, name) ∷ m) d.body)

      natural : FitsSequent F (is_natural mu) → Holds F (is_natural mu) → Holds F (is_natural (rename ((d.name, name) ∷ m) mu))
      natural fit h =
          let s = is_natural mu in
          let calls : SequentCallsOnly F.defs listed (is_natural mu) = record { universals = tt; hyps = tt; goal = calls_only (is_natural mu).goal (has_natp, (over, tt)) } in
          let held = instance_holds F total apart m listed is keeps (is_natural mu) fit calls h in
          let goal : rename m s.goal ≡ call1 (codes "NATP") (rename ((d.name, name) ∷ m) mu) = ap₂ call1 is_natp (sym mu_same) in
          subst (λ g. Holds F (record { universals = []; hyps = []; goal = g })) goal held

      each_call : (a : At F) → Each (λ c. FitsSequent F (falls d.formals mu c) × Holds F (falls d.formals mu c)) (recursive_calls d.name [] d.body) → Each (Less a) (recursive_calls name [] (rename ((d.name, name) ∷ m) d.body))
      each_call a h =
          calls_too a (recursive_calls d.name [] d.body) calls'
          (calls_refine d.name name m Knows stays if_other if_stays has_not.other is_not (IsTrueAt F a.interp a.env) d.body any_body [] [] (λ x. tt))
          (calls_over d.name Any Knows Apart (λ g k e n. n.1 e) has_not d.body any_body can.formed.flat [] tt)
          h

      owed : AllHold F (owed_by d (Some mu)) → Each (Holds F) (owed_by (renamed ((d.name, name) ∷ m) name d) (Some (rename ((d.name, name) ∷ m) mu)))
      owed h = (natural h.0.0 h.0.1, each_mapped (Holds F) (falls d.formals (rename ((d.name, name) ∷ m) mu)) calls' falls_all)
        where
          falls_all : Each (λ c'. Holds F (falls d.formals (rename ((d.name, name) ∷ m) mu) c')) (recursive_calls name [] (rename ((d.name, name) ∷ m) d.body))
          falls_all =
              each_to (λ c'. (a : At F) → Less a c') (λ c'. Holds F (falls d.formals (rename ((d.name, name) ∷ m) mu) c'))
              (λ c' g I tot us env hs. g (record { interp = I; total = tot; env = env }) (once_each (IsTrueAt F I env) c'.tests hs))
              calls'
              (each_all Less calls' (λ a. each_call a (each_of_map (λ s. FitsSequent F s × Holds F s) (falls d.formals mu) (recursive_calls d.name [] d.body) h.1)))

    with_measure : (o : Option Tm) → IfSome o (Over (IsIn d.formals) Apart) → AllHold F (owed_by d o) → Each (Holds F) (owed_by (renamed ((d.name, name) ∷ m) name d) (option_map (rename ((d.name, name) ∷ m)) o))
    with_measure None k h = tt
    with_measure (Some mu) k h = owed mu (over_map (IsIn d.formals) Any Apart Apart (λ x p. tt) (λ g n l. l) mu k) h

  -- a definition that isn't recursive owes nothing
  pub instance_owes : AllHold F (obligations d) →
      (mentions d.name d.body ≡ true → (bytes_eq d.name (codes "IF") ≡ false) × (bytes_eq d.name (codes "<") ≡ false) × Listed F listed d.name (codes "NOT") 1 × Listed F listed d.name (codes "NATP") 1 × (image m (codes "NOT") ≡ codes "NOT") × (image m (codes "NATP") ≡ codes "NATP")) →
      ObligationsHold F (renamed ((d.name, name) ∷ m) name d)
  instance_owes owes words = by_mention (mentions d.name d.body) refl
    where
      by_mention : (b : Bool) → mentions d.name d.body ≡ b → Each (Holds F) (cond (mentions name (rename ((d.name, name) ∷ m) d.body)) (owed_by (renamed ((d.name, name) ∷ m) name d) (option_map (rename ((d.name, name) ∷ m)) d.measure)) [])
      by_mention true e =
          let w = words e in
          subst (λ b. Each (Holds F) (cond b (owed_by i (option_map (rename N) d.measure)) [])) (sym (same_mentions d.name name m Knows stays d.body any_body ∙ e))
          (with_measure w.0 w.1 w.2 w.3 w.4 w.5 d.measure can.measure (subst (λ b. AllHold F (cond b (owed_by d d.measure) [])) e owes))
      by_mention false e =
          subst (λ b. Each (Holds F) (cond b (owed_by i (option_map (rename N) d.measure)) [])) (sym (same_mentions d.name name m Knows stays d.body any_body ∙ e)) tt
