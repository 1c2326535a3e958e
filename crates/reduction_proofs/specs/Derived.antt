-- Proofs made of several rules.
use Rattle.std.specs.Prelude.{ℕ, suc, pos, [], ◌∷◌, bytes_eq, codes, if◌then◌else◌}
use Rattle.lisp_data.specs.Values.{Name}
use Rattle.terms.specs.BuiltIn.{no, quoted}
use Rattle.terms.specs.Measures.{call2}
use Rattle.terms.specs.Terms.{Tm, Var, Quote, Call, Tms, Done, More}
use Rattle.kernel.specs.Sequents.{equation, negation, conditional}
use Rattle.reduction.specs.Moves.{occurs}
use Rattle.reduction_proofs.specs.Trees.{Proof, Hyp, Refl, Replace, Eval, IfTrue, IfFalse, Cases, Contradict, Axiom, ImpliesOut}

-- of `(equal a b)`, `(equal b a)`
abbrev pub turned : Proof → Tm → Proof
turned P a = Replace P (Refl a) (1 ∷ [])

-- of `(equal a b)` and a, b
abbrev pub forth : Proof → Proof → Proof
forth P Q = Replace P Q []

-- of `(equal a b)` and b, a
abbrev pub back : Proof → Tm → Proof → Proof
back P a Q = Replace (turned P a) Q []

-- `(< '0 '0)`, whose value is NIL
abbrev pub zero_less : Tm
zero_less = call2 (codes "<") (quoted (pos 0)) (quoted (pos 0))

abbrev pub none_less : Proof
none_less = Axiom 24 ((codes "X", quoted (pos 0)) ∷ [])

-- of `'nil`, anything
abbrev pub from_nil : Proof → Tm → Proof
from_nil P g = Contradict (back (Eval zero_less) zero_less P) none_less g

-- `(not 'nil)`
abbrev pub not_nil : Proof
not_nil = Replace (Eval zero_less) none_less (1 ∷ [])

-- of `(not p)`, `(equal p 'nil)`
abbrev pub is_nil_by : Tm → Proof → Proof
is_nil_by p P = ImpliesOut (Axiom 2 ((codes "X", p) ∷ [])) P

-- of a call of a predicate on a, that it equals `'t`, by the predicate's axiom
abbrev pub is_t_by : ℕ → Tm → Proof → Proof
is_t_by k a P = ImpliesOut (Axiom k ((codes "X", a) ∷ [])) P

-- the same of a predicate on a and b
abbrev pub is_t_by_both : ℕ → Tm → Tm → Proof → Proof
is_t_by_both k a b P = ImpliesOut (Axiom k ((codes "X", a) ∷ (codes "Y", b) ∷ [])) P

-- a quoted value other than NIL
abbrev pub by_quote : Tm → Proof
by_quote q = Cases q (Hyp q) (from_nil (forth (Eval (equation q no)) (is_nil_by q (Hyp (negation q)))) q)

-- of the hypothesis `(not (not a))`, a
abbrev pub twice_not : Tm → Proof
twice_not a = Cases a (Hyp a) (Contradict (Hyp (negation a)) (Hyp (negation (negation a))) a)

-- of the hypothesis `(if a b 'nil)`, a
abbrev pub first_part : Tm → Tm → Proof
first_part a b = Cases a (Hyp a) (from_nil (forth (IfFalse (Hyp (negation a)) b no) (Hyp (conditional a b no))) a)

-- of the hypotheses `(if a b 'nil)` and a, b
abbrev pub second_part : Tm → Tm → Proof
second_part a b = forth (IfTrue (Hyp a) b no) (Hyp (conditional a b no))

-- Of E, which says `(equal x a)`, that a term equals the one with a for the variable x. The arguments in which x
-- stands are replaced one after the other.
abbrev mutual
  pub equate : Name → Proof → Tm → Proof
  equate x E (Var y) = if bytes_eq x y then E else Refl (Var y)
  equate x E (Quote v) = Refl (Quote v)
  equate x E (Call f ts) = equate_all x E ts 1 (Refl (Call f ts))

  pub equate_all : Name → Proof → Tms → ℕ → Proof → Proof
  equate_all x E Done n P = P
  equate_all x E (More t ts) n P =
      equate_all x E ts (suc n) (if occurs x t then Replace (equate x E t) P (2 ∷ n ∷ []) else P)
