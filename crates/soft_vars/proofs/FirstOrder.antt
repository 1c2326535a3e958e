-- Where a world has no function variable nothing depends on one.
use Rattle.std.proofs.Common.{◌≡◌, ℕ, Bool, true, false, cond, List, [], ◌∷◌, ◌++◌, bytes_eq, Option, Some, None, refl, ap, subst, sym, ◌∙◌}
use Rattle.lisp_data.specs.Values.{Name}
use Rattle.terms.specs.Terms.{Tm, Var, Quote, Call, Tms, Done, More, tms}
use Rattle.terms.specs.Dependence.{term_dependence, terms_dependence, measure_dependence, dependence, function_dependence}
use Rattle.terms.specs.Worlds.{World}
use Rattle.terms.specs.declared.definition.Definition.{Definition}
use Rattle.terms.specs.declared.entries.Specification.{Specification}
use Rattle.worlds.specs.Entries.{are_none, is_first_order}
use Rattle.worlds.specs.Lookups.{find_spec}
use Rattle.soft_vars.specs.Dependents.{each_once, dependence_of, variables_in, variables_of}

mutual
  term : (of_name : Name → List Name) → ((f : Name) → of_name f ≡ []) → (t : Tm) → term_dependence of_name t ≡ []
  term of_name none (Var x) = refl
  term of_name none (Quote v) = refl
  term of_name none (Call f ts) = ap (λ xs. xs ++ terms_dependence of_name ts) (none f) ∙ terms of_name none ts

  terms : (of_name : Name → List Name) → ((f : Name) → of_name f ≡ []) → (ts : Tms) → terms_dependence of_name ts ≡ []
  terms of_name none Done = refl
  terms of_name none (More t ts) = ap (λ xs. xs ++ terms_dependence of_name ts) (term of_name none t) ∙ terms of_name none ts

measure : (of_name : Name → List Name) → ((f : Name) → of_name f ≡ []) → (m : Option Tm) → measure_dependence of_name m ≡ []
measure of_name none None = refl
measure of_name none (Some t) = term of_name none t

-- what a definition depends on, where its parts call names that depend on nothing
parts : (of_name : Name → List Name) → ((f : Name) → of_name f ≡ []) → (d : Definition) → term_dependence of_name d.body ++ measure_dependence of_name d.measure ≡ []
parts of_name none d = ap (λ xs. xs ++ measure_dependence of_name d.measure) (term of_name none d.body) ∙ measure of_name none d.measure

either : (b : Bool) (xs ys : List Name) → xs ≡ [] → ys ≡ [] → cond b xs ys ≡ []
either true xs ys e h = e
either false xs ys e h = h

-- by the definitions, the newest first
without : (ds : List Definition) (f : Name) → dependence [] ds f ≡ []
without [] f = refl
without (d ∷ ds) f =
    either (bytes_eq d.name f) (term_dependence (dependence [] ds) d.body ++ measure_dependence (dependence [] ds) d.measure) (dependence [] ds f)
    (parts (dependence [] ds) (without ds) d) (without ds f)

none_at_all : (vars : List (Name × ℕ)) (ds : List Definition) → are_none vars ≡ true → (f : Name) → dependence vars ds f ≡ []
none_at_all [] ds e f = without ds f
none_at_all (v ∷ vs) ds e f = absurd (cc)

pub of_terms : (W : World) (ts : List Tm) → is_first_order W ≡ true → variables_in W ts ≡ []
of_terms W ts e = ap each_once (terms (function_dependence W) (none_at_all W.functions.vars W.functions.defs e) (tms ts))

of_specification : (W : World) (s : Option Specification) (n : Name) → is_first_order W ≡ true → dependence_of W s n ≡ []
of_specification W None n e = none_at_all W.functions.vars W.functions.defs e n
of_specification W (Some s) n e = term (function_dependence W) (none_at_all W.functions.vars W.functions.defs e) s.matrix

pub of_name : (W : World) (n : Name) → is_first_order W ≡ true → variables_of W n ≡ []
of_name W n e = ap each_once (of_specification W (find_spec W.specifications n) n e)
