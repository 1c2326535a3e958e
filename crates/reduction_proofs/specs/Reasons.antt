-- Proofs of what is found: for each reason, that the part equals what it becomes.
use Rattle.std.specs.Prelude.{[], ◌∷◌, bytes_eq, codes, Option, Some, None, if◌then◌else◌}
use Rattle.std.specs.Option.{option_map, unwrap_or}
use Rattle.terms.specs.BuiltIn.{no}
use Rattle.terms.specs.Measures.{call1}
use Rattle.terms.specs.Substitution.{Pairs, by_pairs}
use Rattle.terms.specs.Terms.{Tm, Var, Quote, Call, Tms, Done, More, same_tm, substitute}
use Rattle.terms.specs.Worlds.{World}
use Rattle.terms.specs.declared.sequent.Sequent.{Sequent}
use Rattle.ring_laws.specs.Expressions.{is_arithmetic}
use Rattle.kernel.specs.Conclusion.{alone}
use Rattle.kernel.specs.Sequents.{equation, negation}
use Rattle.reduction.specs.declared.found.At.{At}
use Rattle.reduction.specs.declared.found.Found.{Found}
use Rattle.reduction.specs.declared.found.Reason.{Reason}
use Rattle.reduction.specs.declared.found.Reason.TheVariants.{ByTrue, ByFalse, Refuted, Valued, Opened, Equated, Ruled, SamePolynomial, Tested}
use Rattle.reduction.specs.declared.found.Source.{Source}
use Rattle.reduction.specs.Finding.{or_else, of_one, of_two, of_three}
use Rattle.reduction.specs.Finders.{side}
use Rattle.reduction.specs.Hyps.{quoted_nil, is_true_quote}
use Rattle.hints.specs.Facts.{citing, says}
use Rattle.hints.specs.Formulas.{remains}
use Rattle.reduction_proofs.specs.Trees.{Proof, Hyp, Refl, Replace, Unfold, Eval, Substitute, IfTrue, IfFalse, Axiom, Ring, ImpliesOut}
use Rattle.reduction_proofs.specs.Derived.{turned, back, not_nil, is_nil_by, is_t_by, is_t_by_both, by_quote}

-- p, a quoted value other than NIL or a hypothesis
abbrev pub decided : Tm → Proof
decided p = if is_true_quote p then by_quote p else Hyp p

-- `(not p)`, where p is `'nil` or this is a hypothesis
abbrev pub refused : Tm → Proof
refused p = if same_tm p quoted_nil then not_nil else Hyp (negation p)

-- that `(if p b c)` equals b, or c; where the term isn't an `if`, which is never so, the proof stands for none
abbrev pub by_true : Tm → Option (Tm × Tm × Tm) → Proof
by_true t None = Refl t
by_true t (Some e) = IfTrue (decided e.0) e.1 e.2

abbrev pub by_false : Tm → Option (Tm × Tm × Tm) → Proof
by_false t None = Refl t
by_false t (Some e) = IfFalse (refused e.0) e.1 e.2

-- `(equal t u)`, of the hypothesis h, which is it or `(equal u t)`
abbrev pub equated : Tm → Tm → Tm → Proof
equated h t u = if same_tm h (equation t u) then Hyp h else turned (Hyp h) u

-- a hypothesis of a rule under s: each of its parts is decided
abbrev mutual
  pub part_proved : Pairs → Tm → Proof
  part_proved s (Var x) = decided (substitute (by_pairs s) (Var x))
  part_proved s (Quote v) = decided (Quote v)
  part_proved s (Call f ts) =
      if bytes_eq f (codes "IF") then part_in s (Call f ts) ts else decided (substitute (by_pairs s) (Call f ts))

  pub part_in : Pairs → Tm → Tms → Proof
  part_in s t (More p (More q (More r Done))) =
      if same_tm r quoted_nil
      then back (IfTrue (part_proved s p) (substitute (by_pairs s) q) no) (substitute (by_pairs s) t) (part_proved s q)
      else decided (substitute (by_pairs s) t)
  part_in s t _ = decided (substitute (by_pairs s) t)

-- of an instance of a formula, the instance of what remains of it
abbrev mutual
  pub detached : Pairs → Tm → Proof → Proof
  detached s (Var x) F = F
  detached s (Quote v) F = F
  detached s (Call f ts) F = if bytes_eq f (codes "IMPLIES") then detached_in s ts F else F

  pub detached_in : Pairs → Tms → Proof → Proof
  detached_in s (More a (More b Done)) F = detached s b (ImpliesOut F (part_proved s a))
  detached_in s _ F = F

-- of what remains, another call than of `equal`, the equation as which it is read
abbrev pub read_as : Tm → Proof → Option Proof
read_as g F =
    or_else (option_map (λ p. is_nil_by p F) (of_one (codes "NOT") g))
    (or_else (option_map (λ a. is_t_by 4 a F) (of_one (codes "CONSP") g))
    (or_else (option_map (λ a. is_t_by 5 a F) (of_one (codes "INTEGERP") g))
    (or_else (option_map (λ a. is_t_by 6 a F) (of_one (codes "SYMBOLP") g))
    (option_map (λ e. is_t_by_both 7 e.0 e.1 F) (of_two (codes "<") g)))))

abbrev pub as_equation : Tm → Proof → Proof
as_equation g F = unwrap_or (read_as g F) F

-- by the rule of an axiom or a theorem, which says this, under s
abbrev pub ruled : Pairs → Source → Option Sequent → Proof
ruled s k None = alone (citing k)
ruled s k (Some c) =
    as_equation (substitute (by_pairs s) (remains c.goal)) (detached s c.goal (Substitute (alone (citing k)) s))

-- that a side as an arithmetic term equals it
abbrev pub sided : Tm → Proof
sided a =
    if is_arithmetic a
    then Refl a
    else ImpliesOut (Axiom 23 ((codes "X", a) ∷ [])) (Hyp (call1 (codes "INTEGERP") a))

-- that an equation of the same polynomial equals `'t`
abbrev pub same_polynomial_by : Tm → Option (Tm × Tm) → Proof
same_polynomial_by t None = Refl t
same_polynomial_by t (Some e) =
    is_t_by_both 3 e.0 e.1 (Replace (sided e.1) (Replace (sided e.0) (Ring (side e.0) (side e.1)) (1 ∷ [])) (2 ∷ []))

-- `(equal t u)`, where u was found at t for this reason
abbrev pub reasoned : World → Tm → Tm → Reason → Proof
reasoned W t u ByTrue = by_true t (of_three (codes "IF") t)
reasoned W t u ByFalse = by_false t (of_three (codes "IF") t)
reasoned W t u Refuted = is_nil_by t (Hyp (negation t))
reasoned W t u Valued = Eval t
reasoned W t u Opened = Unfold t
reasoned W t u (Equated h) = equated h t u
reasoned W t u (Ruled k s) = ruled s k (says W k)
reasoned W t u SamePolynomial = same_polynomial_by t (of_two (codes "EQUAL") t)
reasoned W t u Tested = Refl t

abbrev pub by_reason : World → Tm → Found → Proof
by_reason W t f = reasoned W t f.term f.reason

-- that a term equals the one with what was found in it
abbrev pub rewritten : World → Tm → At → Proof
rewritten W t r = Replace (by_reason W r.part r.found) (Refl t) (2 ∷ r.path)
