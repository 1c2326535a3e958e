-- A definition whose obligations hold leaves the world total.
use Rattle.std.proofs.Common.{◌≡◌, ◌≢◌, ℕ, zero, suc, ◌<◌, ◌≤◌, max, Bool, true, false, cond, not, ◌&&◌, List, [], ◌∷◌, ◌++◌, length, pos, is_some, bytes_eq, codes, Option, Some, None, IfSome, refl, sym, ap, ◌∙◌, subst, arith}
use Rattle.std.proofs.lemmas.Bool.{or_parts, and_parts, not-true, eq-eqb}
use Rattle.lisp_data.specs.Values.{Name, Val, Int, nil}
use Rattle.terms.specs.Primitives.{Operation, Three, choose, primitive, lookup, is_nil}
use Rattle.terms.specs.Terms.{Tm, Var, Quote, Call, Tms, Done, More, count, Over, OverAll, substitute, substitute_all, by_args}
use Rattle.terms.specs.declared.definition.Definition.{Definition}
use Rattle.terms.specs.Definitions.{find, Interp}
use Rattle.terms.specs.Evaluation.{bind, then_with, all_of, branch, call_of, value, values, resolve, variable, below, apply, eval}
use Rattle.terms.specs.Worlds.{Functions, arity, arity_by, Fits, IsIn, Each, TotalFor, Total, IsTrueAt, Holds, GivesAValue}
use Rattle.terms.specs.Measures.{mentions, mentions_in, is_nested, is_nested_in, call1, call2, RecursiveCall, Plain, Test, first_place, recursive_calls, recursive_calls_in, is_natural, falls, owed_by}
use Rattle.terms.specs.Laws.{StaysTotal}
use Rattle.terms.specs.BuiltIn.{not_def, natp_def}
use Rattle.terms.specs.Formed.{with_def, FitsOver, IsFormed, AllFormed, HasBasics, ObligationsHold}
use Rattle.terms.proofs.Names.{same_name, name_self}
pub use Rattle.terms.proofs.Lists.{each_parts, each_join, each_of_map, each_to}
use Rattle.terms.proofs.Lists.{join_to}
use Rattle.terms.proofs.Below.{Any}
use Rattle.terms.proofs.Models.{Reaches, Model, model, val, vals, vals-length, somes, call_of-somes, reaches_val, is_if}
use Rattle.terms.proofs.Extend.{over_map, apply_with, eval_with}
use Rattle.terms.proofs.Meaning.{val_same, val_substitute, bound, bind_in, args_bound, true_from, true_to, not_nil, arity_defined, arity_primitive}
use Rattle.terms.proofs.Basics.{not_true, true_natp, true_less, is_less}

-- induction on terms by one statement
abbrev pub EachTm : (Tm → Type 0) → Tms → Type 0
EachTm P Done = Unit {0}
EachTm P (More t ts) = P t × EachTm P ts

module _ (P : Tm → Type 0) (var : (x : Name) → P (Var x)) (quote : (v : Val) → P (Quote v)) (call : (g : Name) (ts : Tms) → EachTm P ts → P (Call g ts)) where
  mutual
    pub by_terms : (t : Tm) → P t
    by_terms (Var x) = var x
    by_terms (Quote v) = quote v
    by_terms (Call g ts) = call g ts (by_all_terms ts)

    pub by_all_terms : (ts : Tms) → EachTm P ts
    by_all_terms Done = tt
    by_all_terms (More t ts) = (by_terms t, by_all_terms ts)

pub substitute-count : (s : Name → Tm) (ts : Tms) → count (substitute_all s ts) ≡ count ts
substitute-count s Done = refl
substitute-count s (More t ts) = let e = substitute-count s ts in cc

-- a substitution keeps what holds of calls
module _ (P P' : Name → Type 0) (Q : Name → ℕ → Type 0) (s : Name → Tm) (each : (x : Name) → P x → Over P' Q (s x)) where
  mutual
    pub over_substitute : (t : Tm) → Over P Q t → Over P' Q (substitute s t)
    over_substitute (Var x) o = each x o
    over_substitute (Quote v) o = tt
    over_substitute (Call f ts) o = (subst (Q f) (sym (substitute-count s ts)) o.0, over_all_substitute ts o.1)

    pub over_all_substitute : (ts : Tms) → OverAll P Q ts → OverAll P' Q (substitute_all s ts)
    over_all_substitute Done o = tt
    over_all_substitute (More t ts) o = (over_substitute t o.0, over_all_substitute ts o.1)

pub over_by_args : (P : Name → Type 0) (Q : Name → ℕ → Type 0) (ys : List Name) (ts : Tms) (x : Name) → count ts ≡ length ys → OverAll P Q ts → IsIn ys x → Over P Q (by_args ys ts x)
over_by_args P Q [] ts x n o i = absurd i
over_by_args P Q (y ∷ ys) Done x n o i = absurd (omega arith)
over_by_args P Q (y ∷ ys) (More t ts) x n o i = by_test (bytes_eq y x) i (over_by_args P Q ys ts x (omega arith) o.1)
  where
    by_test : (b : Bool) → cond b (Unit {0}) (IsIn ys x) → (IsIn ys x → Over P Q (by_args ys ts x)) → Over P Q (cond b t (by_args ys ts x))
    by_test true i' ih = o.0
    by_test false i' ih = ih i'

-- what doesn't mention the new name fits without it
module _ (W : Functions) (d : Definition) where
  pub arity_back : (g : Name) (k : ℕ) → bytes_eq d.name g ≡ false → arity (with_def W d) g ≡ Some k → arity W g ≡ Some k
  arity_back g k e a = sym (ap (λ b. arity_by (primitive g) (cond b (Some d) (find W.defs g)) (lookup W.vars g)) e) ∙ a

  mutual
    pub lacks_fits : (P : Name → Type 0) (t : Tm) → mentions d.name t ≡ false → Over P (λ g k. arity (with_def W d) g ≡ Some k) t → Over P (λ g k. arity W g ≡ Some k) t
    lacks_fits P (Var x) e o = o
    lacks_fits P (Quote v) e o = o
    lacks_fits P (Call g ts) e o =
        let h = or_parts (bytes_eq d.name g) (mentions_in d.name ts) e in
        (arity_back g (count ts) h.0 o.0, lacks_all_fits P ts h.1 o.1)

    pub lacks_all_fits : (P : Name → Type 0) (ts : Tms) → mentions_in d.name ts ≡ false → OverAll P (λ g k. arity (with_def W d) g ≡ Some k) ts → OverAll P (λ g k. arity W g ≡ Some k) ts
    lacks_all_fits P Done e o = tt
    lacks_all_fits P (More t ts) e o =
        let h = or_parts (mentions d.name t) (mentions_in d.name ts) e in
        (lacks_fits P t h.0 o.0, lacks_all_fits P ts h.1 o.1)

module _ (W : Functions) (formed : AllFormed W.vars W.defs) (d : Definition) (ok : IsFormed W d) (I : Interp) (M : Model W I) where
  free_by : (p : Option Operation) (q : Option Definition) (r : Option ℕ) → arity_by p q r ≡ None → p ≡ None
  free_by None q r e = refl
  free_by (Some p) q r e = cc

  free : primitive d.name ≡ None
  free = free_by (primitive d.name) (find W.defs d.name) (lookup W.vars d.name) ok.fresh

  found : find (d ∷ W.defs) d.name ≡ Some d
  found = ap (λ b. cond b (Some d) (find W.defs d.name)) (name_self d.name)

  arity_own : arity (with_def W d) d.name ≡ Some (length d.formals)
  arity_own = ap (λ p. arity_by p (find (d ∷ W.defs) d.name) (lookup W.vars d.name)) free ∙ ap (λ q. arity_by None q (lookup W.vars d.name)) found

  -- one call of the new function
  module _ (vs : List Val) (len : length vs ≡ length d.formals) where
    abbrev IsReached : Tm → Type 0
    IsReached t = (v : Val) × Reaches (λ n. eval n (d ∷ W.defs) I t (bind d.formals vs)) v

    abbrev here : Name → Val
    here = bound d.formals vs

    lacking_reached : (t : Tm) → mentions d.name t ≡ false → FitsOver (with_def W d) d.formals t → Reaches (λ n. eval n (d ∷ W.defs) I t (bind d.formals vs)) (val M.of t here)
    lacking_reached t e o =
        let fit = lacks_fits W d (IsIn d.formals) t e o in
        let r = reaches_val W I M (IsIn d.formals) (bind d.formals vs) here (λ x i. bind_in d.formals vs x len i) t fit in
        record { start = r.start; stays = λ m le. sym (eval_with W formed d ok.fresh I (IsIn d.formals) m t (bind d.formals vs) fit) ∙ r.stays m le }

    all_lacking_reached : (ts : Tms) → mentions_in d.name ts ≡ false → OverAll (IsIn d.formals) (λ g k. arity (with_def W d) g ≡ Some k) ts → (n : ℕ) × ((m : ℕ) → n ≤ m → values (apply m (d ∷ W.defs) I) ts (bind d.formals vs) ≡ somes (vals M.of ts here))
    all_lacking_reached Done e o = (0, λ m le. refl)
    all_lacking_reached (More t ts) e o =
        let h = or_parts (mentions d.name t) (mentions_in d.name ts) e in
        let a = lacking_reached t h.0 o.0 in
        let b = all_lacking_reached ts h.1 o.1 in
        (max a.start b.0, λ m le. let x = a.stays m (omega arith) in let xs = b.1 m (omega arith) in cc)

    abbrev TrueHere : Tm → Type 0
    TrueHere t = Fits W t × (val M.of t here ≢ nil)

    -- R: the values at which the new function is known to have a value
    module _ (basics : HasBasics W) (R : List Val → Type 0) (ready : (ws : List Val) → length ws ≡ length d.formals → R ws → (v : Val) × Reaches (λ n. apply n (d ∷ W.defs) I d.name ws) v) where
      abbrev Falls : RecursiveCall → Type 0
      Falls c = Each TrueHere c.tests → OverAll (IsIn d.formals) (λ g k. arity W g ≡ Some k) c.args → count c.args ≡ length d.formals → R (vals M.of c.args here)

      abbrev Fact : Tm → Type 0
      Fact t = FitsOver (with_def W d) d.formals t → is_nested d.name t ≡ false → (tests : List Tm) → Each TrueHere tests → Each Falls (recursive_calls d.name tests t) → IsReached t

      abbrev AllReached : Tms → Type 0
      AllReached ts = (ws : List Val) × (length ws ≡ count ts) × (n : ℕ) × ((m : ℕ) → n ≤ m → values (apply m (d ∷ W.defs) I) ts (bind d.formals vs) ≡ somes ws)

      plain : (ts : Tms) → EachTm Fact ts → OverAll (IsIn d.formals) (λ g k. arity (with_def W d) g ≡ Some k) ts → is_nested_in d.name ts ≡ false → (tests : List Tm) → Each TrueHere tests → Each Falls (recursive_calls_in d.name Plain tests ts) → AllReached ts
      plain Done f o e tests h c = ([], refl, 0, λ m le. refl)
      plain (More t ts) f o e tests h c =
          let cs = each_parts Falls (recursive_calls d.name tests t) (recursive_calls_in d.name Plain tests ts) c in
          let e' = or_parts (is_nested d.name t) (is_nested_in d.name ts) e in
          let a = f.0 o.0 e'.0 tests h cs.0 in
          let b = plain ts f.1 o.1 e'.1 tests h cs.1 in
          (a.0 ∷ b.0, ap suc b.1, max a.1.start b.2, λ m le. let x = a.1.stays m (omega arith) in let xs = b.3 m (omega arith) in cc)

      -- a call of another function, whose arguments all have values
      strict_call : (g : Name) (ts : Tms) → arity W g ≡ Some (count ts) → AllReached ts → IsReached (Call g ts)
      strict_call g ts a r =
          let s = M.reached g (count ts) a r.0 r.1 in (
            M.of g r.0,
            record {
              start = max r.2 s.start;
              stays = λ m le.
                  ap (call_of (apply m (d ∷ W.defs) I) g) (r.3 m (omega arith))
                  ∙ call_of-somes (below m) (d ∷ W.defs) I g r.0 (M.of g r.0) (sym (apply_with W formed d ok.fresh I m g (count ts) a r.0) ∙ s.stays m (omega arith));
            },
          )

      -- a recursive call
      own_call : (g : Name) (ts : Tms) → d.name ≡ g → mentions_in d.name ts ≡ false → FitsOver (with_def W d) d.formals (Call g ts) → (tests : List Tm) → Each TrueHere tests → Falls (record { tests = tests; args = ts }) → IsReached (Call g ts)
      own_call g ts same e o tests h c =
          let a : arity (with_def W d) d.name ≡ Some (count ts) = subst (λ x. arity (with_def W d) x ≡ Some (count ts)) (sym same) o.0 in
          let n : count ts ≡ length d.formals = cc arity_own in
          let ws = vals M.of ts here in
          let s = ready ws (vals-length M.of ts here ∙ n) (c h (lacks_all_fits W d (IsIn d.formals) ts e o.1) n) in
          let r = all_lacking_reached ts e o.1 in
          let out : Reaches (λ n. eval n (d ∷ W.defs) I (Call d.name ts) (bind d.formals vs)) s.0 = record {
            start = max r.0 s.1.start;
            stays = λ m le.
                ap (call_of (apply m (d ∷ W.defs) I) d.name) (r.1 m (omega arith))
                ∙ call_of-somes (below m) (d ∷ W.defs) I d.name ws s.0 (s.1.stays m (omega arith));
          } in
          subst (λ x. IsReached (Call x ts)) same (s.0, out)

      -- an `if` whose test doesn't mention the new name
      if_call : (g : Name) (c a b : Tm) → bytes_eq (codes "IF") g ≡ true → mentions d.name c ≡ false → Fact a → Fact b → FitsOver (with_def W d) d.formals (Call g (More c (More a (More b Done)))) → is_nested_in d.name (More c (More a (More b Done))) ≡ false → (tests : List Tm) → Each TrueHere tests → Each Falls (recursive_calls_in d.name (Test c) tests (More c (More a (More b Done)))) → IsReached (Call g (More c (More a (More b Done))))
      if_call g c a b is lacks fact_a fact_b o e tests h calls = by_test (is_nil (val M.of c here)) refl
        where
          r : Reaches (λ n. eval n (d ∷ W.defs) I c (bind d.formals vs)) (val M.of c here)
          r = lacking_reached c lacks o.1.0

          fit : Fits W c
          fit = over_map (IsIn d.formals) Any _ _ (λ x p. tt) (λ f k q. q) c (lacks_fits W d (IsIn d.formals) c lacks o.1.0)

          ea : is_nested d.name a ≡ false
          ea = (or_parts (is_nested d.name a) (is_nested_in d.name (More b Done)) (or_parts (is_nested d.name c) (is_nested_in d.name (More a (More b Done))) e).1).0

          eb : is_nested d.name b ≡ false
          eb = (or_parts (is_nested d.name b) false (or_parts (is_nested d.name a) (is_nested_in d.name (More b Done)) (or_parts (is_nested d.name c) (is_nested_in d.name (More a (More b Done))) e).1).1).0

          after_test : Each Falls (recursive_calls d.name (tests ++ c ∷ []) a ++ (recursive_calls d.name (tests ++ call1 (codes "NOT") c ∷ []) b ++ []))
          after_test = (each_parts Falls (recursive_calls d.name tests c) _ calls).1

          after_then : Each Falls (recursive_calls d.name (tests ++ call1 (codes "NOT") c ∷ []) b ++ [])
          after_then = (each_parts Falls (recursive_calls d.name (tests ++ c ∷ []) a) _ after_test).1

          fall_a : Each Falls (recursive_calls d.name (tests ++ c ∷ []) a)
          fall_a = (each_parts Falls (recursive_calls d.name (tests ++ c ∷ []) a) _ after_test).0

          fall_b : Each Falls (recursive_calls d.name (tests ++ call1 (codes "NOT") c ∷ []) b)
          fall_b = (each_parts Falls (recursive_calls d.name (tests ++ call1 (codes "NOT") c ∷ []) b) [] after_then).0

          chosen : (t : Bool) (v : Val) (n : ℕ) → is_nil (val M.of c here) ≡ t → ((m : ℕ) → n ≤ m → cond t (eval m (d ∷ W.defs) I b (bind d.formals vs)) (eval m (d ∷ W.defs) I a (bind d.formals vs)) ≡ Some v) → IsReached (Call g (More c (More a (More b Done))))
          chosen t v n is_t s = (
            v,
            record {
              start = max n r.start;
              stays = λ m le.
                  let act = apply m (d ∷ W.defs) I in
                  let oc = value act c (bind d.formals vs) in let oa = value act a (bind d.formals vs) in let ob = value act b (bind d.formals vs) in
                  ap (λ x. cond x (branch (oc ∷ oa ∷ ob ∷ [])) (then_with (all_of (oc ∷ oa ∷ ob ∷ [])) (act g))) is
                  ∙ ap (λ o. then_with o (λ x. cond (is_nil x) ob oa)) (r.stays m (omega arith))
                  ∙ ap (λ x. cond x ob oa) is_t
                  ∙ s m (omega arith);
            },
          )

          by_test : (t : Bool) → is_nil (val M.of c here) ≡ t → IsReached (Call g (More c (More a (More b Done))))
          by_test true t =
              let x = fact_b o.1.1.1.0 eb (tests ++ call1 (codes "NOT") c ∷ []) (each_join TrueHere tests _ h (((arity_defined W formed (codes "NOT") not_def basics.has_not, (fit, tt)), not_true W I M formed basics (val M.of c here) t), tt)) fall_b in
              chosen true x.0 x.1.start t x.1.stays
          by_test false t =
              let x = fact_a o.1.1.0 ea (tests ++ c ∷ []) (each_join TrueHere tests _ h ((fit, not_nil (val M.of c here) t), tt)) fall_a in
              chosen false x.0 x.1.start t x.1.stays

      if_any : (g : Name) (c : Tm) (ts : Tms) → 2 ≡ count ts → bytes_eq (codes "IF") g ≡ true → mentions d.name c ≡ false → EachTm Fact ts → FitsOver (with_def W d) d.formals (Call g (More c ts)) → is_nested_in d.name (More c ts) ≡ false → (tests : List Tm) → Each TrueHere tests → Each Falls (recursive_calls_in d.name (Test c) tests (More c ts)) → IsReached (Call g (More c ts))
      if_any g c Done n is lacks f o e tests h calls = absurd (omega arith)
      if_any g c (More a Done) n is lacks f o e tests h calls = absurd (omega arith)
      if_any g c (More a (More b Done)) n is lacks f o e tests h calls = if_call g c a b is lacks f.0 f.1.0 o e tests h calls
      if_any g c (More a (More b (More x ts))) n is lacks f o e tests h calls = absurd (omega arith)

      other_call : (g : Name) (ts : Tms) → arity W g ≡ Some (count ts) → EachTm Fact ts → FitsOver (with_def W d) d.formals (Call g ts) → is_nested_in d.name ts ≡ false → (tests : List Tm) → Each TrueHere tests → Each Falls (recursive_calls_in d.name (first_place d.name g ts) tests ts) → IsReached (Call g ts)
      other_call g Done k f o e tests h calls = strict_call g Done k (plain Done f o.1 e tests h calls)
      other_call g (More c ts) k f o e tests h calls = by_place (bytes_eq (codes "IF") g && not (mentions d.name c)) refl
        where
          by_place : (t : Bool) → (bytes_eq (codes "IF") g && not (mentions d.name c)) ≡ t → IsReached (Call g (More c ts))
          by_place false t =
              strict_call g (More c ts) k (plain (More c ts) f o.1 e tests h
              (subst (λ x. Each Falls (recursive_calls_in d.name (cond x (Test c) Plain) tests (More c ts))) t calls))
          by_place true t =
              let parts = and_parts (bytes_eq (codes "IF") g) (not (mentions d.name c)) t in
              let k' = subst (λ x. arity W x ≡ Some (suc (count ts))) (sym (same_name (codes "IF") g parts.0)) k in
              let three : 3 ≡ suc (count ts) = cc (arity_primitive W (codes "IF") (Three choose) is_if) in
              if_any g c ts (omega arith) parts.0 (not-true (mentions d.name c) parts.1) f.1 o e tests h
              (subst (λ x. Each Falls (recursive_calls_in d.name (cond x (Test c) Plain) tests (More c ts))) t calls)

      call_fact : (g : Name) (ts : Tms) → EachTm Fact ts → Fact (Call g ts)
      call_fact g ts f o e tests h calls = by_name (bytes_eq d.name g) refl
        where
          e' : ((bytes_eq d.name g && mentions_in d.name ts) ≡ false) × (is_nested_in d.name ts ≡ false)
          e' = or_parts (bytes_eq d.name g && mentions_in d.name ts) (is_nested_in d.name ts) e

          by_name : (t : Bool) → bytes_eq d.name g ≡ t → IsReached (Call g ts)
          by_name true t =
              own_call g ts (same_name d.name g t) (ap (λ x. x && mentions_in d.name ts) (sym t) ∙ e'.0) o tests h
              (subst (λ x. Each Falls (cond x (record { tests = tests; args = ts } ∷ []) [] ++ recursive_calls_in d.name (first_place d.name g ts) tests ts)) t calls).0
          by_name false t =
              other_call g ts (arity_back W d g (count ts) t o.0) f o e'.1 tests h
              (subst (λ x. Each Falls (cond x (record { tests = tests; args = ts } ∷ []) [] ++ recursive_calls_in d.name (first_place d.name g ts) tests ts)) t calls)

      -- each part of the body has a value where the tests on the way to it are true
      pub fact : (t : Tm) → Fact t
      fact =
          by_terms Fact
          (λ x o e tests h calls. (here x, record { start = 0; stays = λ m le. bind_in d.formals vs x len o }))
          (λ v o e tests h calls. (v, record { start = 0; stays = λ m le. refl }))
          call_fact

  -- the new function has a value where its body has
  pub from_body : (vs : List Val) → length vs ≡ length d.formals → (v : Val) × Reaches (λ n. eval n (d ∷ W.defs) I d.body (bind d.formals vs)) v → (v : Val) × Reaches (λ n. apply n (d ∷ W.defs) I d.name vs) v
  from_body vs len b = (b.0, record { start = suc b.1.start; stays = deeper })
    where
      deeper : (m : ℕ) → suc b.1.start ≤ m → apply m (d ∷ W.defs) I d.name vs ≡ Some b.0
      deeper zero le = absurd (omega arith)
      deeper (suc m) le =
          let run = below (suc m) (d ∷ W.defs) I in
          let other = variable (below (suc m)) I d.name vs in
          ap (λ p. resolve p (find (d ∷ W.defs) d.name) run other vs) free
          ∙ ap (λ q. resolve None q run other vs) found
          ∙ ap (λ x. cond x (run d.body (bind d.formals vs)) None) (eq-eqb (length d.formals) (length vs) (sym len))
          ∙ b.1.stays m (omega arith)

  -- the value of the measure
  module _ (basics : HasBasics W) (m : Tm) (fit : FitsOver W d.formals m) (tot : TotalFor W I) (nat : Holds W (is_natural m)) where
    measure_of : List Val → Val
    measure_of ws = val M.of m (bound d.formals ws)

    fit_any : Fits W m
    fit_any = over_map (IsIn d.formals) Any _ _ (λ x p. tt) (λ f k q. q) m fit

    natural : (ws : List Val) → (k : ℕ) × (val M.of m (bound d.formals ws) ≡ Int (pos k))
    natural ws =
        true_natp W I M formed basics (val M.of m (bound d.formals ws))
        (true_to W I M (call1 (codes "NATP") m) (arity_defined W formed (codes "NATP") natp_def basics.has_natp, (fit_any, tt)) (bound d.formals ws)
        (nat I tot tt (bound d.formals ws) tt))

    abbrev rank : List Val → ℕ
    rank ws = (natural ws).0

    smaller : (vs : List Val) (len : length vs ≡ length d.formals) (c : RecursiveCall) → Holds W (falls d.formals m c) → Each (TrueHere vs len) c.tests → OverAll (IsIn d.formals) (λ g k. arity W g ≡ Some k) c.args → count c.args ≡ length d.formals → rank (vals M.of c.args (bound d.formals vs)) < rank vs
    smaller vs len c h tests o n =
        let here' = bound d.formals vs in
        let ws = vals M.of c.args here' in
        let m' = substitute (by_args d.formals c.args) m in
        let fit' : Fits W m' = over_map (IsIn d.formals) Any _ _ (λ x p. tt) (λ f k q. q) m' (over_substitute (IsIn d.formals) (IsIn d.formals) _ (by_args d.formals c.args) (λ x i. over_by_args (IsIn d.formals) _ d.formals c.args x n o i) m fit) in
        let all = join_to (IsTrueAt W I here') [] c.tests tt (each_to (TrueHere vs len) (IsTrueAt W I here') (λ t p. true_from W I M t p.0 here' p.1) c.tests tests) in
        let less = true_to W I M (call2 (codes "<") m' m) (arity_primitive W (codes "<") _ is_less, (fit', (fit_any, tt))) here' (h I tot tt here' all) in
        let e' : val M.of m' here' ≡ val M.of m (bound d.formals ws) =
        val_substitute M.of (by_args d.formals c.args) here' m
        ∙ val_same M.of (IsIn d.formals) (λ g k. arity W g ≡ Some k) _ _ (λ x i. args_bound M.of here' d.formals c.args x n i) m fit in
        let both : M.of (codes "<") (val M.of m' here' ∷ val M.of m here' ∷ []) ≡ M.of (codes "<") (Int (pos (rank ws)) ∷ Int (pos (rank vs)) ∷ []) =
        ap (λ x. M.of (codes "<") (x ∷ val M.of m here' ∷ [])) (e' ∙ (natural ws).1) ∙ ap (λ x. M.of (codes "<") (Int (pos (rank ws)) ∷ x ∷ [])) (natural vs).1 in
        true_less W I M formed basics (rank ws) (rank vs) (λ z. less (both ∙ z))

    -- by induction on a bound of the measure's value
    known : Each (λ c. Holds W (falls d.formals m c)) (recursive_calls d.name [] d.body) → (k : ℕ) (vs : List Val) → length vs ≡ length d.formals → rank vs < k → (v : Val) × Reaches (λ n. apply n (d ∷ W.defs) I d.name vs) v
    known fall zero vs len lt = absurd (omega arith)
    known fall (suc k) vs len lt =
        let R = λ (ws : List Val). rank ws < rank vs in
        let ready : (ws : List Val) → length ws ≡ length d.formals → R ws → (v : Val) × Reaches (λ n. apply n (d ∷ W.defs) I d.name ws) v = λ ws l r. known fall k ws l (omega arith) in
        from_body vs len (fact vs len basics R ready d.body ok.body ok.flat [] tt
        (each_to (λ c. Holds W (falls d.formals m c)) (Falls vs len basics R ready) (λ c h tests o n. smaller vs len c h tests o n) (recursive_calls d.name [] d.body) fall))

module _ (W : Functions) (formed : AllFormed W.vars W.defs) (total : Total W) (d : Definition) (ok : IsFormed W d) (basics : mentions d.name d.body ≡ true → HasBasics W) (owes : ObligationsHold W d) (I : Interp) (tot : TotalFor W I) where
  new_reaches : (vs : List Val) → length vs ≡ length d.formals → (v : Val) × Reaches (λ n. apply n (d ∷ W.defs) I d.name vs) v
  new_reaches vs len = by_test (mentions d.name d.body) refl
    where
      M : Model W I
      M = model W I (total I tot)

      with_measure : (o : Option Tm) → mentions d.name d.body ≡ true → is_some o ≡ true → IfSome o (FitsOver W d.formals) → Each (Holds W) (owed_by d o) → (v : Val) × Reaches (λ n. apply n (d ∷ W.defs) I d.name vs) v
      with_measure None e s f h = cc
      with_measure (Some m) e s f h =
          known W formed d ok I M (basics e) m f tot h.0
          (each_of_map (Holds W) (falls d.formals m) (recursive_calls d.name [] d.body) h.1)
          (suc (rank W formed d ok I M (basics e) m f tot h.0 vs)) vs len (omega arith)

      by_test : (b : Bool) → mentions d.name d.body ≡ b → (v : Val) × Reaches (λ n. apply n (d ∷ W.defs) I d.name vs) v
      by_test true e = with_measure d.measure e (ok.measured e) ok.measure (subst (λ b. Each (Holds W) (cond b (owed_by d d.measure) [])) e owes)
      by_test false e =
          from_body W formed d ok I M vs len
          (val M.of d.body (bound d.formals vs), lacking_reached W formed d ok I M vs len d.body e ok.body)

  new_total : (f : Name) (k : ℕ) → arity (with_def W d) f ≡ Some k → GivesAValue (λ n. apply n (d ∷ W.defs) I f) k
  new_total f k a vs len = by_name (bytes_eq d.name f) refl
    where
      by_name : (b : Bool) → bytes_eq d.name f ≡ b → (n : ℕ) × (v : Val) × (apply n (d ∷ W.defs) I f vs ≡ Some v)
      by_name true e =
          let same = same_name d.name f e in
          let own = arity_own W formed d ok I (model W I (total I tot)) in
          let a' = subst (λ g. arity (with_def W d) g ≡ Some k) (sym same) a in
          let n : length vs ≡ length d.formals = cc in
          let r = new_reaches vs n in
          subst (λ g. (n : ℕ) × (v : Val) × (apply n (d ∷ W.defs) I g vs ≡ Some v)) same (r.1.start, r.0, r.1.stays r.1.start (omega arith))
      by_name false e =
          let a' = arity_back W d f k e a in
          let t = total I tot f k a' vs len in
          (t.0, t.1, sym (apply_with W formed d ok.fresh I t.0 f k a' vs) ∙ t.2)

pub stays_total : StaysTotal
stays_total W formed total d ok basics owes I tot = new_total W formed total d ok basics owes I tot
