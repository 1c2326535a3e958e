-- What a defined function depends on, by what its definition calls.
use Rattle.std.proofs.Common.{◌≡◌, ℕ, Bool, true, false, cond, List, [], ◌∷◌, ◌++◌, bytes_eq, Option, Some, None, refl, sym, ap, ◌∙◌, subst}
use Rattle.std.specs.Prelude.{IfSome}
use Rattle.lisp_data.specs.Values.{Name}
use Rattle.terms.specs.Primitives.{Operation, primitive, lookup}
use Rattle.terms.specs.Terms.{Tm, Var, Quote, Call, Tms, Done, More, count, Over, OverAll}
use Rattle.terms.specs.Definitions.{find}
use Rattle.terms.specs.Dependence.{term_dependence, terms_dependence, measure_dependence, itself, dependence}
use Rattle.terms.specs.Worlds.{Functions, arity, arity_by, IsIn}
use Rattle.terms.specs.Formed.{functions, with_def, FitsOver, IsFormed, AllFormed}
use Rattle.terms.specs.declared.definition.Definition.{Definition}
use Rattle.terms.proofs.Names.{same_name, name_self}
use Rattle.terms.proofs.Extend.{other_name, arity_later, body_fits}
use Rattle.soft_vars.specs.view.Walks.{is_but}

-- what functions depend on, but for one
abbrev pub others : Option Name → (Name → List Name) → Name → List Name
others but of_name g = cond (is_but but g) [] (of_name g)

-- what a definition's body and then its measure depend on
abbrev pub parts : (Name → List Name) → Definition → List Name
parts of_name d = term_dependence of_name d.body ++ measure_dependence of_name d.measure

-- two ways to depend that are the same where a term calls
module _ (P : Name → Type 0) (h k : Name → List Name) where
  mutual
    term_same : (t : Tm) → Over P (λ g n. h g ≡ k g) t → term_dependence h t ≡ term_dependence k t
    term_same (Var x) e = refl
    term_same (Quote v) e = refl
    term_same (Call g ts) e = λ i. e.0 i ++ terms_same ts e.1 i

    terms_same : (ts : Tms) → OverAll P (λ g n. h g ≡ k g) ts → terms_dependence h ts ≡ terms_dependence k ts
    terms_same Done e = refl
    terms_same (More t ts) e = λ i. term_same t e.0 i ++ terms_same ts e.1 i

module _ (P : Name → Type 0) (Q R : Name → ℕ → Type 0) (to : (g : Name) (n : ℕ) → Q g n → R g n) where
  mutual
    over_to : (t : Tm) → Over P Q t → Over P R t
    over_to (Var x) e = e
    over_to (Quote v) e = tt
    over_to (Call g ts) e = (to g (count ts) e.0, over_all_to ts e.1)

    over_all_to : (ts : Tms) → OverAll P Q ts → OverAll P R ts
    over_all_to Done e = tt
    over_all_to (More t ts) e = (over_to t e.0, over_all_to ts e.1)

-- no name, no dependence
no_function : (p : Option Operation) (q : Option Definition) (r : Option ℕ) → arity_by p q r ≡ None → (q ≡ None) × (r ≡ None)
no_function (Some p) q r h = absurd (cc)
no_function None (Some d) r h = absurd (cc)
no_function None None r h = (refl, h)

pub not_defined : (vars : List (Name × ℕ)) (ds : List Definition) (f : Name) → find ds f ≡ None → dependence vars ds f ≡ itself f (lookup vars f)
not_defined vars [] f h = refl
not_defined vars (d ∷ ds) f h = by_test (bytes_eq d.name f) h (not_defined vars ds f)
  where
    by_test : (b : Bool) → cond b (Some d) (find ds f) ≡ None → (find ds f ≡ None → dependence vars ds f ≡ itself f (lookup vars f)) →
        cond b (parts (dependence vars ds) d) (dependence vars ds f) ≡ itself f (lookup vars f)
    by_test true k ih = absurd (cc)
    by_test false k ih = ih k

-- the measure of each definition of a well-formed world fits the world
measure_later : (vars : List (Name × ℕ)) (ds : List Definition) (c : Definition) → arity (functions vars ds) c.name ≡ None → (formals : List Name) (o : Option Tm) →
    IfSome o (FitsOver (functions vars ds) formals) → IfSome o (FitsOver (functions vars (c ∷ ds)) formals)
measure_later vars ds c fresh formals None h = h
measure_later vars ds c fresh formals (Some m) h =
    over_to (IsIn formals) (λ g k. arity (functions vars ds) g ≡ Some k) (λ g k. arity (functions vars (c ∷ ds)) g ≡ Some k) (arity_later (functions vars ds) c fresh) m h

measure_fits : (vars : List (Name × ℕ)) (ds : List Definition) → AllFormed vars ds → (f : Name) (d : Definition) → find ds f ≡ Some d → IfSome d.measure (FitsOver (functions vars ds) d.formals)
measure_fits vars [] h f d e = absurd (cc)
measure_fits vars (c ∷ ds) h f d e = by_test (bytes_eq c.name f) e (measure_fits vars ds h.1 f d)
  where
    by_test : (b : Bool) → cond b (Some c) (find ds f) ≡ Some d → (find ds f ≡ Some d → IfSome d.measure (FitsOver (functions vars ds) d.formals)) → IfSome d.measure (FitsOver (functions vars (c ∷ ds)) d.formals)
    by_test true e' ih = let same : c ≡ d = cc in subst (λ x. IfSome x.measure (FitsOver (functions vars (c ∷ ds)) x.formals)) same (measure_later vars ds c h.0.fresh c.formals c.measure h.0.measure)
    by_test false e' ih = measure_later vars ds c h.0.fresh d.formals d.measure (ih e')

-- the name of a fresh definition depended on nothing
nothing_before : (vars : List (Name × ℕ)) (ds : List Definition) (f : Name) → arity (functions vars ds) f ≡ None → dependence vars ds f ≡ []
nothing_before vars ds f h =
    let r = no_function (primitive f) (find ds f) (lookup vars f) h in
    not_defined vars ds f r.0 ∙ ap (itself f) r.1

-- a fresh definition changes nothing for the others, and adds nothing by itself
module _ (vars : List (Name × ℕ)) (ds : List Definition) (c : Definition) (fresh : arity (functions vars ds) c.name ≡ None) where
  abbrev old : Name → List Name
  old g = dependence vars ds g

  abbrev new : Name → List Name
  new g = dependence vars (c ∷ ds) g

  but_itself : (g : Name) → old g ≡ others (Some c.name) new g
  but_itself g = by_test (bytes_eq c.name g) refl
    where
      by_test : (b : Bool) → bytes_eq c.name g ≡ b → old g ≡ cond b [] (cond b (parts old c) (old g))
      by_test true e = subst (λ x. dependence vars ds x ≡ []) (same_name c.name g e) (nothing_before vars ds c.name fresh)
      by_test false e = refl

  other_same : (f g : Name) (k : ℕ) → arity (functions vars ds) g ≡ Some k → others (Some f) old g ≡ others (Some f) new g
  other_same f g k a = ap (λ z. cond (bytes_eq f g) [] z) (sym (ap (λ b. cond b (parts old c) (old g)) (other_name (functions vars ds) c fresh g k a)))

  measure_same : (f : Name) (formals : List Name) (o : Option Tm) → IfSome o (FitsOver (functions vars ds) formals) → measure_dependence (others (Some f) old) o ≡ measure_dependence (others (Some f) new) o
  measure_same f formals None h = refl
  measure_same f formals (Some m) h =
      term_same (IsIn formals) (others (Some f) old) (others (Some f) new) m
      (over_to (IsIn formals) (λ g k. arity (functions vars ds) g ≡ Some k) (λ g k. others (Some f) old g ≡ others (Some f) new g) (other_same f) m h)

  parts_same : (f : Name) (d : Definition) → FitsOver (functions vars ds) d.formals d.body → IfSome d.measure (FitsOver (functions vars ds) d.formals) → parts (others (Some f) old) d ≡ parts (others (Some f) new) d
  parts_same f d fits measure =
      let body =
      term_same (IsIn d.formals) (others (Some f) old) (others (Some f) new) d.body
      (over_to (IsIn d.formals) (λ g k. arity (functions vars ds) g ≡ Some k) (λ g k. others (Some f) old g ≡ others (Some f) new g) (other_same f) d.body fits) in
      λ i. body i ++ measure_same f d.formals d.measure measure i

-- a defined function depends on what its definition calls, but for itself
pub defined : (vars : List (Name × ℕ)) (ds : List Definition) → AllFormed vars ds → (f : Name) (d : Definition) → find ds f ≡ Some d → dependence vars ds f ≡ parts (others (Some f) (dependence vars ds)) d
defined vars [] h f d e = absurd (cc)
defined vars (c ∷ ds) h f d e = by_test (bytes_eq c.name f) refl e (defined vars ds h.1 f d)
  where
    after_it : Name → List Name
    after_it g = dependence vars (c ∷ ds) g

    by_test : (b : Bool) → bytes_eq c.name f ≡ b → cond b (Some c) (find ds f) ≡ Some d → (find ds f ≡ Some d → dependence vars ds f ≡ parts (others (Some f) (dependence vars ds)) d) →
        cond b (parts (dependence vars ds) c) (dependence vars ds f) ≡ parts (others (Some f) after_it) d
    by_test true s e' ih =
        let same : c ≡ d = cc in
        let every : dependence vars ds ≡ others (Some c.name) after_it = λ i g. but_itself vars ds c h.0.fresh g i in
        (λ i. parts (every i) (same i)) ∙ ap (λ x. parts (others (Some x) after_it) d) (same_name c.name f s)
    by_test false s e' ih =
        ih e' ∙ parts_same vars ds c h.0.fresh f d (body_fits (functions vars ds) h.1 f d e') (measure_fits vars ds h.1 f d e')
