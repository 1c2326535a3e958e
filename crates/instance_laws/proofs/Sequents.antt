-- The instance of a sequent that holds holds.
use Rattle.std.proofs.Common.{◌≡◌, ℕ, true, List, [], ◌∷◌, ◌++◌, length, map, Option, Some, None, refl, sym, ap, ap₂, ◌∙◌, subst, arith}
use Rattle.lisp_data.specs.Values.{Name, Val}
use Rattle.terms.specs.Primitives.{Operation, primitive, lookup}
use Rattle.terms.specs.Terms.{Tm, Var, Quote, Call, Tms, Done, More, count, Over, OverAll}
use Rattle.terms.specs.Definitions.{find, Interp}
use Rattle.terms.specs.Evaluation.{below}
use Rattle.terms.specs.Joins.{without_repeats}
use Rattle.terms.specs.Worlds.{Functions, FitsSequent, Each, arity, arity_by, is_in, Fits, TotalFor, Total, IsTrueAt, Holds}
use Rattle.terms.specs.Formed.{VarsApart}
use Rattle.terms.specs.declared.definition.Definition.{Definition}
use Rattle.terms.specs.declared.sequent.Sequent.{Sequent}
use Rattle.terms.proofs.Below.{Any}
use Rattle.terms.proofs.Models.{model, reaches_val, eval_reaches, reaches_one}
use Rattle.terms.proofs.Extend.{over_map}
use Rattle.terms.proofs.Meaning.{true_from}
use Rattle.terms.proofs.Lists.{each_parts, each_to, each_of_map, join_parts, join_to}
use Rattle.terms.proofs.Later.{vars_apart}
use Rattle.terms.specs.Maps.{NamePairs, image, rename, rename_all}
use Rattle.terms.specs.Instances.{called, sequent_terms, renamed_sequent}
use Rattle.soft_vars.proofs.Calls.{calls_are_called}
use Rattle.instance_laws.specs.Closed.{extended, CallsOnly, IsClosed, KeepsArities, IsPart}
use Rattle.instance_laws.specs.Laws.{InstancesHold}
use Rattle.instance_laws.proofs.Values.{variable_is, instances_have_values}
use Rattle.instance_laws.proofs.Parts.{rename_same, maps_are_part}

pub rename-count : (m : NamePairs) (ts : Tms) → count (rename_all m ts) ≡ count ts
rename-count m Done = refl
rename-count m (More t ts) = let e = rename-count m ts in cc

-- the sequent calls no definition outside the list
pub record SequentCallsOnly (ds : List Definition) (listed : List Name) (s : Sequent) : Type 0 where
  pub universals : Each (CallsOnly ds listed) s.universals
  pub hyps : Each (CallsOnly ds listed) s.hyps
  pub goal : CallsOnly ds listed s.goal

-- what holds of each is what holds of each under a function
pub each_mapped : {A B : Type 0} (P : B → Type 0) (f : A → B) (xs : List A) → Each (λ x. P (f x)) xs → Each P (map f xs)
each_mapped P f [] h = tt
each_mapped P f (x ∷ xs) h = (h.0, each_mapped P f xs h.1)

-- the same for lists without repeats
pub each_once : (P : Tm → Type 0) (ts : List Tm) → Each P ts → Each P (without_repeats ts)
each_once P ts h = join_to P [] ts tt h

pub once_each : (P : Tm → Type 0) (ts : List Tm) → Each P (without_repeats ts) → Each P ts
once_each P ts h = (join_parts P [] ts h).1

each_with : (P Q R S : Tm → Type 0) → ((t : Tm) → P t → Q t → R t → S t) → (ts : List Tm) → Each P ts → Each Q ts → Each R ts → Each S ts
each_with P Q R S f [] p q r = tt
each_with P Q R S f (t ∷ ts) p q r = (f t p.0 q.0 r.0, each_with P Q R S f ts p.1 q.1 r.1)

-- under a map that is closed under calls
module _ (F : Functions) (total : Total F) (apart : VarsApart F) (m : NamePairs) (listed : List Name) (is : IsClosed F.defs m listed) (keeps : KeepsArities F m) where
  pub image_arity : (f : Name) (k : ℕ) → ((d : Definition) → find F.defs f ≡ Some d → is_in listed f ≡ true) → arity F f ≡ Some k → arity F (image m f) ≡ Some k
  image_arity f k inside a = by_primitive (primitive f) refl a
    where
      by_definition : (q : Option Definition) → find F.defs f ≡ q → arity_by None q (lookup F.vars f) ≡ Some k → arity F (image m f) ≡ Some k
      by_definition None e a' = keeps f k a'
      by_definition (Some d) e a' =
          let h = is.images f d (inside d e) e in
          ap (λ p. arity_by p (find F.defs (image m f)) (lookup F.vars (image m f))) h.not_primitive
          ∙ ap (λ q. arity_by None q (lookup F.vars (image m f))) h.found
          ∙ ap (λ ys. Some (length ys)) h.formals ∙ a'

      by_primitive : (p : Option Operation) → primitive f ≡ p → arity_by p (find F.defs f) (lookup F.vars f) ≡ Some k → arity F (image m f) ≡ Some k
      by_primitive None e a' = by_definition (find F.defs f) refl a'
      by_primitive (Some p) e a' = subst (λ g. arity F g ≡ Some k) (sym (is.primitives f p e)) a

  mutual
    pub rename_fits : (t : Tm) → CallsOnly F.defs listed t → Fits F t → Fits F (rename m t)
    rename_fits (Var x) c o = tt
    rename_fits (Quote v) c o = tt
    rename_fits (Call f ts) c o = (subst (λ n. arity F (image m f) ≡ Some n) (sym (rename-count m ts)) (image_arity f (count ts) c.0 o.0), rename_all_fits ts c.1 o.1)

    rename_all_fits : (ts : Tms) → OverAll (λ x. Unit {0}) (λ f k. (d : Definition) → find F.defs f ≡ Some d → is_in listed f ≡ true) ts → OverAll (λ x. Unit {0}) (λ f k. arity F f ≡ Some k) ts → OverAll (λ x. Unit {0}) (λ f k. arity F f ≡ Some k) (rename_all m ts)
    rename_all_fits Done c o = tt
    rename_all_fits (More t ts) c o = (rename_fits t c.0 o.0, rename_all_fits ts c.1 o.1)

  module _ (I : Interp) (tot : TotalFor F I) where
    extended_total : TotalFor F (extended F.defs m I)
    extended_total x k e vs len =
        let a = apart x k e in
        let t = total I tot (image m x) k (keeps x k e) vs len in
        (t.0, t.1, variable_is F.defs I (below t.0) x vs a.0 a.1 m ∙ t.2)

    true_renamed : (env : Name → Val) (t : Tm) → CallsOnly F.defs listed t → IsTrueAt F (extended F.defs m I) env t → IsTrueAt F I env (rename m t)
    true_renamed env t c h = (h.0, h.1, instances_have_values F.defs m listed is h.0 I t c (λ x. Some (env x)) h.1 h.2, h.3)

    renamed_true : (env : Name → Val) (t : Tm) → CallsOnly F.defs listed t → Fits F t → IsTrueAt F I env (rename m t) → IsTrueAt F (extended F.defs m I) env t
    renamed_true env t c o h =
        let M = model F (extended F.defs m I) (total (extended F.defs m I) extended_total) in
        true_from F (extended F.defs m I) M t o env (λ e.
        let r = reaches_val F (extended F.defs m I) M Any (λ x. Some (env x)) env (λ x p. refl) t o in
        let now = instances_have_values F.defs m listed is r.start I t c (λ x. Some (env x)) _ (r.stays r.start (omega arith)) in
        let a = eval_reaches r.start F.defs I (rename m t) (λ x. Some (env x)) _ now in
        let b = eval_reaches h.0 F.defs I (rename m t) (λ x. Some (env x)) _ h.2 in
        h.3 (reaches_one _ _ _ b a ∙ e))

  -- where universals and hypotheses are true under the map, the goal is
  pub instance_true : (s : Sequent) → FitsSequent F s → SequentCallsOnly F.defs listed s → Holds F s → (I : Interp) → TotalFor F I →
      Each (λ u. (env : Name → Val) → IsTrueAt F I env (rename m u)) s.universals → (env : Name → Val) → Each (λ t. IsTrueAt F I env (rename m t)) s.hyps → IsTrueAt F I env (rename m s.goal)
  instance_true s f c h I tot us env hs =
      true_renamed I tot env s.goal c.goal
      (h (extended F.defs m I) (extended_total I tot)
      (each_with (Fits F) (CallsOnly F.defs listed) (λ u. (env' : Name → Val) → IsTrueAt F I env' (rename m u)) (λ u. (env' : Name → Val) → IsTrueAt F (extended F.defs m I) env' u) (λ u o k g env'. renamed_true I tot env' u k o (g env')) s.universals f.universals c.universals us)
      env
      (each_with (Fits F) (CallsOnly F.defs listed) (λ t. IsTrueAt F I env (rename m t)) (IsTrueAt F (extended F.defs m I) env) (λ t o k g. renamed_true I tot env t k o g) s.hyps f.hyps c.hyps hs))

  pub instance_holds : (s : Sequent) → FitsSequent F s → SequentCallsOnly F.defs listed s → Holds F s → Holds F (renamed_sequent m s)
  instance_holds s f c h I tot us env hs =
      instance_true s f c h I tot
      (each_of_map (λ u. (env' : Name → Val) → IsTrueAt F I env' u) (rename m) s.universals (once_each (λ u. (env' : Name → Val) → IsTrueAt F I env' u) (map (rename m) s.universals) us))
      env
      (each_of_map (IsTrueAt F I env) (rename m) s.hyps (once_each (IsTrueAt F I env) (map (rename m) s.hyps) hs))

  pub instance_fits : (s : Sequent) → FitsSequent F s → SequentCallsOnly F.defs listed s → FitsSequent F (renamed_sequent m s)
  instance_fits s f c = record {
    universals = each_once (Fits F) (map (rename m) s.universals) (all_fit s.universals c.universals f.universals);
    hyps = each_once (Fits F) (map (rename m) s.hyps) (all_fit s.hyps c.hyps f.hyps);
    goal = rename_fits s.goal c.goal f.goal;
  }
    where
      all_fit : (ts : List Tm) → Each (CallsOnly F.defs listed) ts → Each (Fits F) ts → Each (Fits F) (map (rename m) ts)
      all_fit [] c o = tt
      all_fit (t ∷ ts) c o = (rename_fits t c.0 o.0, all_fit ts c.1 o.1)

-- a map that is part of one that is closed under calls
module _ (F : Functions) (fs : List Name) (m : NamePairs) (part : IsPart F [] fs m) where
  abbrev Among : Tm → Type 0
  Among t = Over Any (λ g k. is_in fs g ≡ true) t

  term_same : (t : Tm) → Among t → rename m t ≡ rename part.whole t
  term_same t o = rename_same m part.whole t (over_map Any Any _ _ (λ x p. p) (λ g k i. part.same g i refl) t o)

  all_same : (ts : List Tm) → Each Among ts → map (rename m) ts ≡ map (rename part.whole) ts
  all_same [] h = refl
  all_same (t ∷ ts) h = ap₂ (λ u us. u ∷ us) (term_same t h.0) (all_same ts h.1)

  calls_only : (t : Tm) → Among t → CallsOnly F.defs part.listed t
  calls_only t o = over_map Any Any _ _ (λ x p. p) (λ g k i d h. part.inside g d i refl h) t o

  module _ (s : Sequent) (calls : Each (Over Any (λ g k. is_in fs g ≡ true)) (sequent_terms s)) where
    abbrev tail : List Tm
    tail = s.hyps ++ s.goal ∷ []

    us : Each (Over Any (λ g k. is_in fs g ≡ true)) s.universals
    us = (each_parts Among s.universals tail calls).0

    hs : Each (Over Any (λ g k. is_in fs g ≡ true)) s.hyps
    hs = (each_parts Among s.hyps (s.goal ∷ []) (each_parts Among s.universals tail calls).1).0

    goal : Over Any (λ g k. is_in fs g ≡ true) s.goal
    goal = (each_parts Among s.hyps (s.goal ∷ []) (each_parts Among s.universals tail calls).1).1.0

    sequent_same : renamed_sequent m s ≡ renamed_sequent part.whole s
    sequent_same = λ i. record { universals = without_repeats (all_same s.universals us i); hyps = without_repeats (all_same s.hyps hs i); goal = term_same s.goal goal i }

    sequent_calls : SequentCallsOnly F.defs part.listed s
    sequent_calls = record {
      universals = each_to Among (CallsOnly F.defs part.listed) calls_only s.universals us;
      hyps = each_to Among (CallsOnly F.defs part.listed) calls_only s.hyps hs;
      goal = calls_only s.goal goal;
    }

pub instances_hold : InstancesHold
instances_hold W sound s fits pairs m e =
    let F = W.functions in
    let fs = called (sequent_terms s) in
    let part = maps_are_part W sound [] tt pairs fs m e in
    let calls = calls_are_called (sequent_terms s) in
    let only = sequent_calls F fs m part s calls in
    let same = sequent_same F fs m part s calls in
    record {
      fits = subst (FitsSequent F) (sym same) (instance_fits F sound.total (vars_apart W sound) part.whole part.listed part.closed part.arities s fits only);
      holds = λ h. subst (Holds F) (sym same) (instance_holds F sound.total (vars_apart W sound) part.whole part.listed part.closed part.arities s fits only h);
    }
