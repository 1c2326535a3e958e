-- What the callees of a definition of a well-formed world depend on.
use Rattle.std.proofs.Common.{◌≡◌, ℕ, true, false, cond, List, [], bytes_eq, Some, sym, subst}
use Rattle.lisp_data.specs.Values.{Name}
use Rattle.terms.specs.Terms.{Tm, Var, Quote, Call, Tms, Done, More, Over, OverAll}
use Rattle.terms.specs.Definitions.{find}
use Rattle.terms.specs.Dependence.{term_dependence, terms_dependence, measure_dependence, dependence}
use Rattle.terms.specs.Worlds.{Functions, is_in}
use Rattle.terms.specs.Formed.{AllFormed}
use Rattle.terms.specs.declared.definition.Definition.{Definition}
use Rattle.terms.proofs.Below.{Any}
use Rattle.terms.proofs.Extend.{over_map}
use Rattle.terms.proofs.Members.{in_first, in_second}
use Rattle.soft_vars.proofs.Depends.{others, defined}

-- each call satisfies both
module _ (P : Name → Type 0) (Q R : Name → ℕ → Type 0) where
  mutual
    pub over_both : (t : Tm) → Over P Q t → Over P R t → Over P (λ g k. Q g k × R g k) t
    over_both (Var x) o p = o
    over_both (Quote v) o p = tt
    over_both (Call g ts) o p = ((o.0, p.0), over_all_both ts o.1 p.1)

    over_all_both : (ts : Tms) → OverAll P Q ts → OverAll P R ts → OverAll P (λ g k. Q g k × R g k) ts
    over_all_both Done o p = tt
    over_all_both (More t ts) o p = (over_both t o.0 p.0, over_all_both ts o.1 p.1)

-- what each call of a term depends on is among what the term depends on
module _ (of_name : Name → List Name) (all : List Name) where
  abbrev Inside : Name → Type 0
  Inside g = (x : Name) → is_in (of_name g) x ≡ true → is_in all x ≡ true

  mutual
    calls_inside : (t : Tm) → ((x : Name) → is_in (term_dependence of_name t) x ≡ true → is_in all x ≡ true) → Over Any (λ g k. Inside g) t
    calls_inside (Var x) h = tt
    calls_inside (Quote v) h = tt
    calls_inside (Call g ts) h = (
      λ x e. h x (in_first (of_name g) (terms_dependence of_name ts) x e),
      all_calls_inside ts (λ x e. h x (in_second (of_name g) (terms_dependence of_name ts) x e)),
    )

    all_calls_inside : (ts : Tms) → ((x : Name) → is_in (terms_dependence of_name ts) x ≡ true → is_in all x ≡ true) → OverAll Any (λ g k. Inside g) ts
    all_calls_inside Done h = tt
    all_calls_inside (More t ts) h = (
      calls_inside t (λ x e. h x (in_first (term_dependence of_name t) (terms_dependence of_name ts) x e)),
      all_calls_inside ts (λ x e. h x (in_second (term_dependence of_name t) (terms_dependence of_name ts) x e)),
    )

-- a callee depends on no more variables
pub record DependsOnNoMore (F : Functions) (g f : Name) : Type 0 where
  pub each : (x : Name) → is_in (dependence F.vars F.defs g) x ≡ true → is_in (dependence F.vars F.defs f) x ≡ true

pub callees_depend : (F : Functions) → AllFormed F.vars F.defs → (f : Name) (d : Definition) → find F.defs f ≡ Some d → Over Any (λ g k. bytes_eq f g ≡ false → DependsOnNoMore F g f) d.body
callees_depend F formed f d e =
    over_map Any Any _ _ (λ x p. p)
    (λ g k i apart. record { each = λ x h. i x (subst (λ b. is_in (cond b [] (dependence F.vars F.defs g)) x ≡ true) (sym apart) h) })
    d.body
    (calls_inside (others (Some f) (dependence F.vars F.defs)) (dependence F.vars F.defs f) d.body
    (λ x h. subst (λ z. is_in z x ≡ true) (sym (defined F.vars F.defs formed f d e)) (in_first (term_dependence (others (Some f) (dependence F.vars F.defs)) d.body) (measure_dependence (others (Some f) (dependence F.vars F.defs)) d.measure) x h)))
