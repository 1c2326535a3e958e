-- Truth where each name has a total function, and the sequents that follow there.
use Rattle.std.proofs.Common.{◌≡◌, ◌≢◌, ◌<◌, ℕ, true, List, [], ◌∷◌, pos, codes, Some, refl}
use Rattle.lisp_data.specs.Values.{Name, Val, Int, nil, same_val}
use Rattle.terms.specs.Primitives.{Two, primitive, primitives, truth, is_nil, choose}
use Rattle.terms.specs.Terms.{Tm}
use Rattle.terms.specs.Definitions.{Interp}
use Rattle.terms.specs.Worlds.{Functions, Each}
use Rattle.terms.specs.Formed.{AllFormed, HasBasics}
use Rattle.terms.specs.declared.sequent.Sequent.{Sequent}
use Rattle.terms.proofs.Models.{Model, val}
use Rattle.terms.proofs.Meaning.{of_primitive, of_if}
use Rattle.terms.proofs.Basics.{not_true, true_not, implies_true, true_implies, true_natp, true_less}

module _ (F : Name → List Val → Val) where
  pub record Is (env : Name → Val) (t : Tm) : Type 0 where
    pub so : val F t env ≢ nil

  abbrev pub Always : Tm → Type 0
  Always u = (env : Name → Val) → Is env u

  -- where the universals are always true: where the hypotheses are true the goal is
  pub record Follows (s : Sequent) : Type 0 where
    pub holds : Each Always s.universals → (env : Name → Val) → Each (Is env) s.hyps → Is env s.goal

  -- the functions that the rules speak with mean what they say
  pub record Logical : Type 0 where
    pub of_equal : (x y : Val) → F (codes "EQUAL") (x ∷ y ∷ []) ≡ truth (same_val x y)
    pub of_if : (x y z : Val) → F (codes "IF") (x ∷ y ∷ z ∷ []) ≡ choose x y z
    pub not_true : (x : Val) → is_nil x ≡ true → F (codes "NOT") (x ∷ []) ≢ nil
    pub true_not : (x : Val) → F (codes "NOT") (x ∷ []) ≢ nil → x ≡ nil
    pub implies_true : (x y : Val) → (x ≢ nil → y ≢ nil) → F (codes "IMPLIES") (x ∷ y ∷ []) ≢ nil
    pub true_implies : (x y : Val) → F (codes "IMPLIES") (x ∷ y ∷ []) ≢ nil → x ≢ nil → y ≢ nil
    pub true_natp : (x : Val) → F (codes "NATP") (x ∷ []) ≢ nil → (k : ℕ) × (x ≡ Int (pos k))
    pub true_less : (a b : ℕ) → F (codes "<") (Int (pos a) ∷ Int (pos b) ∷ []) ≢ nil → a < b

pub is_equal : primitive (codes "EQUAL") ≡ Some (Two (λ a b. truth (same_val a b)))
unfolding primitive primitives
is_equal = refl

-- so do the functions of a model of a world that has its basics
pub model_logical : (W : Functions) (I : Interp) (M : Model W I) → AllFormed W.vars W.defs → HasBasics W → Logical M.of
model_logical W I M formed basics = record {
  of_equal = λ x y. of_primitive W I M (codes "EQUAL") _ (x ∷ y ∷ []) (truth (same_val x y)) is_equal refl;
  of_if = of_if W I M;
  not_true = not_true W I M formed basics;
  true_not = true_not W I M formed basics;
  implies_true = implies_true W I M formed basics;
  true_implies = true_implies W I M formed basics;
  true_natp = true_natp W I M formed basics;
  true_less = true_less W I M formed basics;
}
