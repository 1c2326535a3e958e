-- The rules on hypotheses, cases, implications and universals.
use Rattle.std.specs.Prelude.{◌&&◌, Bool, true, false, List, [], ◌∷◌, map, codes, Option, Some, None, if◌then◌else◌}
use Rattle.std.specs.List.{list_all}
use Rattle.terms.specs.Terms.{Tm, same_tm, substitute}
use Rattle.terms.specs.Substitution.{Pairs, by_pairs}
use Rattle.terms.specs.Evaluation.{then_with}
use Rattle.terms.specs.Worlds.{Functions}
use Rattle.terms.specs.declared.sequent.Sequent.{Sequent}
use Rattle.kernel.specs.Fitting.{fits, pairs_fit}
use Rattle.kernel.specs.Sequents.{join, without_repeats, without, negation, implication, negated_of, sides_of, joined}

-- hypothesis: a from a
abbrev pub hypothesis : Functions → Tm → Option Sequent
hypothesis W a = if fits W a then Some (record { universals = []; hyps = a ∷ []; goal = a }) else None

-- the hypotheses and the goal under a substitution
abbrev pub instance_of : Pairs → Sequent → Sequent
instance_of s p = record {
  universals = p.universals;
  hyps = without_repeats (map (substitute (by_pairs s)) p.hyps);
  goal = substitute (by_pairs s) p.goal;
}

-- substitute: p under a substitution by well-formed terms
abbrev pub substituted : Functions → Pairs → Sequent → Option Sequent
substituted W s p = if pairs_fit W s then Some (instance_of s p) else None

-- the goal of p, which q has too, from what they need beside c and `(not c)`
abbrev pub of_cases : Tm → Sequent → Sequent → Sequent
of_cases c p q = record {
  universals = join p.universals q.universals;
  hyps = join (without p.hyps c) (without q.hyps (negation c));
  goal = p.goal;
}

-- cases: p and q have the same goal, p where c is true and q where it is false
abbrev pub by_cases : Functions → Tm → Sequent → Sequent → Option Sequent
by_cases W c p q = if fits W c && same_tm p.goal q.goal then Some (of_cases c p q) else None

-- cut: q, where p proves one of its hypotheses
abbrev pub cut : Sequent → Sequent → Option Sequent
cut p q = Some (record {
  universals = join p.universals q.universals;
  hyps = join p.hyps (without q.hyps p.goal);
  goal = q.goal;
})

-- weaken: p with further hypotheses and further universals
abbrev pub weakened : Functions → List Tm → List Tm → Sequent → Option Sequent
weakened W hs us p =
    if list_all (fits W) hs && list_all (fits W) us
    then Some (record { universals = join p.universals us; hyps = join p.hyps hs; goal = p.goal })
    else None

-- contradiction: p says a and q `(not a)`, so that anything
abbrev pub contradicted : Functions → Tm → Sequent → Sequent → Option Sequent
contradicted W g p q =
    then_with (negated_of q.goal) (λ a. if same_tm a p.goal && fits W g then Some (joined p q g) else None)

-- implies in: what p says where a is true is implied by a
abbrev pub implied : Functions → Tm → Sequent → Option Sequent
implied W a p =
    if fits W a
    then Some (record { universals = p.universals; hyps = without p.hyps a; goal = implication a p.goal })
    else None

-- implies out: p says `(implies a b)` and q a, so that b
abbrev pub detached : Sequent → Sequent → Option Sequent
detached p q =
    then_with (sides_of (codes "IMPLIES") p.goal) (λ e. if same_tm e.0 q.goal then Some (joined p q e.1) else None)

-- universal: a term that is assumed to be true for all values of its variables, with terms for them
abbrev pub instantiated : Functions → Tm → Pairs → Option Sequent
instantiated W u s =
    if fits W u && pairs_fit W s
    then Some (record { universals = u ∷ []; hyps = []; goal = substitute (by_pairs s) u })
    else None

abbrev pub is_empty : List Tm → Bool
is_empty [] = true
is_empty (t ∷ ts) = false

-- discharge: q, where p proves one of its universals, and has no hypotheses
abbrev pub discharged : Sequent → Sequent → Option Sequent
discharged p q =
    if is_empty p.hyps
    then Some (record { universals = join p.universals (without q.universals p.goal); hyps = q.hyps; goal = q.goal })
    else None
