-- `not`, `implies`, `natp` and `<` in a model.
use Rattle.std.proofs.Common.{◌≡◌, ◌≢◌, ℕ, ◌<◌, Bool, true, false, cond, [], ◌∷◌, pos, negsuc, int_lt, ltb, codes, Some, refl, sym, ap, ◌∙◌}
use Rattle.std.proofs.lemmas.Bool.{ltb-true}
use Rattle.lisp_data.specs.Values.{Val, Int, Sym, Pair, nil}
use Rattle.terms.specs.Primitives.{One, Two, primitive, primitives, is_nil, is_int, truth, choose, number}
use Rattle.terms.specs.Definitions.{Interp}
use Rattle.terms.specs.Worlds.{Functions}
use Rattle.terms.specs.BuiltIn.{not_def, implies_def, natp_def}
use Rattle.terms.specs.Formed.{AllFormed, HasBasics}
use Rattle.terms.proofs.Models.{Model}
use Rattle.terms.proofs.Meaning.{of_primitive, of_definition, of_if, not_nil, nil_is, nil_false}

pub is_less : primitive (codes "<") ≡ Some (Two (λ a b. truth (int_lt (number a) (number b))))
unfolding primitive primitives
is_less = refl

pub is_integerp : primitive (codes "INTEGERP") ≡ Some (One (λ a. truth (is_int a)))
unfolding primitive primitives
is_integerp = refl

pub t_not_nil : Sym (codes "T") ≢ nil
t_not_nil = not_nil (Sym (codes "T")) refl

module _ (W : Functions) (I : Interp) (M : Model W I) (formed : AllFormed W.vars W.defs) (basics : HasBasics W) where
  pub of_not : (x : Val) → M.of (codes "NOT") (x ∷ []) ≡ cond (is_nil x) (Sym (codes "T")) nil
  of_not x = of_definition W I M formed (codes "NOT") not_def (x ∷ []) basics.has_not refl ∙ of_if W I M x nil (Sym (codes "T"))

  pub not_true : (x : Val) → is_nil x ≡ true → M.of (codes "NOT") (x ∷ []) ≢ nil
  not_true x e h = t_not_nil (ap (λ b. cond b (Sym (codes "T")) nil) (sym e) ∙ sym (of_not x) ∙ h)

  pub true_not : (x : Val) → M.of (codes "NOT") (x ∷ []) ≢ nil → x ≡ nil
  true_not x h = by_test (is_nil x) refl
    where
      by_test : (b : Bool) → is_nil x ≡ b → x ≡ nil
      by_test true e = nil_is x e
      by_test false e = absurd (h (of_not x ∙ ap (λ b. cond b (Sym (codes "T")) nil) e))

  pub of_implies : (x y : Val) → M.of (codes "IMPLIES") (x ∷ y ∷ []) ≡ choose x (choose y (Sym (codes "T")) nil) (Sym (codes "T"))
  of_implies x y =
      of_definition W I M formed (codes "IMPLIES") implies_def (x ∷ y ∷ []) basics.has_implies refl
      ∙ ap (λ v. M.of (codes "IF") (x ∷ v ∷ Sym (codes "T") ∷ [])) (of_if W I M y (Sym (codes "T")) nil)
      ∙ of_if W I M x (choose y (Sym (codes "T")) nil) (Sym (codes "T"))

  -- an implication is true where the second is true if the first is
  pub implies_true : (x y : Val) → (x ≢ nil → y ≢ nil) → M.of (codes "IMPLIES") (x ∷ y ∷ []) ≢ nil
  implies_true x y h e = by_test (is_nil x) refl
    where
      T : Val
      T = Sym (codes "T")

      inner : (b : Bool) → is_nil y ≡ b → y ≢ nil → cond b nil (Sym (codes "T")) ≡ nil → ⊥
      inner true t ne e' = ne (nil_is y t)
      inner false t ne e' = t_not_nil e'

      by_test : (b : Bool) → is_nil x ≡ b → ⊥
      by_test true t = t_not_nil (ap (λ b. cond b (Sym (codes "T")) (choose y (Sym (codes "T")) nil)) (sym t) ∙ sym (of_implies x y) ∙ e)
      by_test false t = inner (is_nil y) refl (h (not_nil x t)) (ap (λ b. cond b (Sym (codes "T")) (choose y (Sym (codes "T")) nil)) (sym t) ∙ sym (of_implies x y) ∙ e)

  pub true_implies : (x y : Val) → M.of (codes "IMPLIES") (x ∷ y ∷ []) ≢ nil → x ≢ nil → y ≢ nil
  true_implies x y h ne e =
      h (of_implies x y ∙ ap (λ b. cond b (Sym (codes "T")) (choose y (Sym (codes "T")) nil)) (nil_false x ne) ∙ ap (λ v. choose v (Sym (codes "T")) nil) e)

  pub of_natp : (x : Val) → M.of (codes "NATP") (x ∷ []) ≡ choose (truth (is_int x)) (cond (is_nil (truth (int_lt (number x) (pos 0)))) (Sym (codes "T")) nil) nil
  of_natp x =
      of_definition W I M formed (codes "NATP") natp_def (x ∷ []) basics.has_natp refl
      ∙ of_if W I M (M.of (codes "INTEGERP") (x ∷ [])) (M.of (codes "NOT") (M.of (codes "<") (x ∷ Int (pos 0) ∷ []) ∷ [])) nil
      ∙ ap (λ v. choose v (M.of (codes "NOT") (M.of (codes "<") (x ∷ Int (pos 0) ∷ []) ∷ [])) nil) (of_primitive W I M (codes "INTEGERP") _ (x ∷ []) (truth (is_int x)) is_integerp refl)
      ∙ ap (λ v. choose (truth (is_int x)) v nil) (ap (λ v. M.of (codes "NOT") (v ∷ [])) (of_primitive W I M (codes "<") _ (x ∷ Int (pos 0) ∷ []) (truth (int_lt (number x) (pos 0))) is_less refl) ∙ of_not (truth (int_lt (number x) (pos 0))))

  pub true_natp : (x : Val) → M.of (codes "NATP") (x ∷ []) ≢ nil → (k : ℕ) × (x ≡ Int (pos k))
  true_natp (Int (pos k)) h = (k, refl)
  true_natp (Int (negsuc k)) h = absurd (h (of_natp (Int (negsuc k))))
  true_natp (Sym s) h = absurd (h (of_natp (Sym s)))
  true_natp (Pair a b) h = absurd (h (of_natp (Pair a b)))

  pub true_less : (a b : ℕ) → M.of (codes "<") (Int (pos a) ∷ Int (pos b) ∷ []) ≢ nil → a < b
  true_less a b h = by_test (ltb a b) refl
    where
      by_test : (t : Bool) → ltb a b ≡ t → a < b
      by_test true e = ltb-true a b e
      by_test false e = absurd (h (of_primitive W I M (codes "<") _ (Int (pos a) ∷ Int (pos b) ∷ []) (truth (ltb a b)) is_less refl ∙ ap truth e))
