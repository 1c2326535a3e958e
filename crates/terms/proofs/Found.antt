-- What is known of the definitions that are found in a well-formed world.
use Rattle.std.proofs.Common.{◌≡◌, ℕ, Bool, true, false, cond, List, [], ◌∷◌, is_some, bytes_eq, Option, Some, None, IfSome, refl, sym, ap, ◌∙◌, subst}
use Rattle.lisp_data.specs.Values.{Name}
use Rattle.terms.specs.Terms.{Over}
use Rattle.terms.specs.Definitions.{find}
use Rattle.terms.specs.Measures.{mentions, is_nested}
use Rattle.terms.specs.Worlds.{Functions, arity, Distinct, IsIn, Each}
use Rattle.terms.specs.Formed.{functions, FitsOver, AllFormed}
use Rattle.terms.specs.declared.definition.Definition.{Definition}
use Rattle.terms.proofs.Names.{same_name}
use Rattle.terms.proofs.Extend.{over_map, other_name, arity_later}

-- a definition that is found among well-formed ones
pub record IsFoundFormed (F : Functions) (d : Definition) : Type 0 where
  pub formals : Distinct d.formals
  pub measure : IfSome d.measure (Over (IsIn d.formals) (λ g k. (arity F g ≡ Some k) × (bytes_eq d.name g ≡ false)))
  pub measured : mentions d.name d.body ≡ true → is_some d.measure ≡ true
  pub flat : is_nested d.name d.body ≡ false

pub if_some_map : {A : Type 0} (P Q : A → Type 0) → ((x : A) → P x → Q x) → (o : Option A) → IfSome o P → IfSome o Q
if_some_map P Q f None h = tt
if_some_map P Q f (Some x) h = f x h

pub found_formed : (vars : List (Name × ℕ)) (ds : List Definition) → AllFormed vars ds → (f : Name) (d : Definition) → find ds f ≡ Some d → IsFoundFormed (functions vars ds) d
found_formed vars [] h f d e = absurd (cc)
found_formed vars (c ∷ ds) h f d e = by_test (bytes_eq c.name f) e (found_formed vars ds h.1 f d)
  where
    newer : (g : Name) (k : ℕ) → arity (functions vars ds) g ≡ Some k → arity (functions vars (c ∷ ds)) g ≡ Some k
    newer = arity_later (functions vars ds) c h.0.fresh

    here : IsFoundFormed (functions vars (c ∷ ds)) c
    here = record {
      formals = h.0.formals;
      measure = if_some_map (FitsOver (functions vars ds) c.formals) (Over (IsIn c.formals) (λ g k. (arity (functions vars (c ∷ ds)) g ≡ Some k) × (bytes_eq c.name g ≡ false))) (λ t o. over_map (IsIn c.formals) (IsIn c.formals) (λ g k. arity (functions vars ds) g ≡ Some k) (λ g k. (arity (functions vars (c ∷ ds)) g ≡ Some k) × (bytes_eq c.name g ≡ false)) (λ x p. p) (λ g k a. (newer g k a, other_name (functions vars ds) c h.0.fresh g k a)) t o) c.measure h.0.measure;
      measured = h.0.measured;
      flat = h.0.flat;
    }

    by_test : (b : Bool) → cond b (Some c) (find ds f) ≡ Some d → (find ds f ≡ Some d → IsFoundFormed (functions vars ds) d) → IsFoundFormed (functions vars (c ∷ ds)) d
    by_test true e' ih = let same : c ≡ d = cc in subst (IsFoundFormed (functions vars (c ∷ ds))) same here
    by_test false e' ih =
        let i = ih e' in
        record {
          formals = i.formals;
          measure = if_some_map (Over (IsIn d.formals) (λ g k. (arity (functions vars ds) g ≡ Some k) × (bytes_eq d.name g ≡ false))) (Over (IsIn d.formals) (λ g k. (arity (functions vars (c ∷ ds)) g ≡ Some k) × (bytes_eq d.name g ≡ false))) (λ t o. over_map (IsIn d.formals) (IsIn d.formals) (λ g k. (arity (functions vars ds) g ≡ Some k) × (bytes_eq d.name g ≡ false)) (λ g k. (arity (functions vars (c ∷ ds)) g ≡ Some k) × (bytes_eq d.name g ≡ false)) (λ x p. p) (λ g k a. (newer g k a.0, a.1)) t o) d.measure i.measure;
          measured = i.measured;
          flat = i.flat;
        }

-- the name of what is found
pub found_name : (ds : List Definition) (f : Name) (d : Definition) → find ds f ≡ Some d → d.name ≡ f
found_name [] f d e = absurd (cc)
found_name (c ∷ ds) f d e = by_test (bytes_eq c.name f) refl e (found_name ds f d)
  where
    by_test : (b : Bool) → bytes_eq c.name f ≡ b → cond b (Some c) (find ds f) ≡ Some d → (find ds f ≡ Some d → d.name ≡ f) → d.name ≡ f
    by_test true t e' ih = let same : c ≡ d = cc in ap (λ (z : Definition). z.name) (sym same) ∙ same_name c.name f t
    by_test false t e' ih = ih e'

-- what holds of each definition holds of what is found
pub each_found : (P : Definition → Type 0) (ds : List Definition) → Each P ds → (f : Name) (d : Definition) → find ds f ≡ Some d → P d
each_found P [] h f d e = absurd (cc)
each_found P (c ∷ ds) h f d e = by_test (bytes_eq c.name f) e (each_found P ds h.1 f d)
  where
    by_test : (b : Bool) → cond b (Some c) (find ds f) ≡ Some d → (find ds f ≡ Some d → P d) → P d
    by_test true e' ih = let same : c ≡ d = cc in subst P same h.0
    by_test false e' ih = ih e'
