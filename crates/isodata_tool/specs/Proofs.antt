-- The proofs of the theorems of `isodata` and of what the new function owes, from proofs of the conditions.
use Rattle.std.specs.Prelude.{ℕ, List, [], ◌∷◌, ◌++◌, map, codes, Option, Some, None}
use Rattle.lisp_data.specs.Values.{Name}
use Rattle.terms.specs.BuiltIn.{no}
use Rattle.terms.specs.Links.{at_variables, conjunction}
use Rattle.terms.specs.Measures.{RecursiveCall, recursive_calls, call1}
use Rattle.terms.specs.Substitution.{Pairs}
use Rattle.terms.specs.Terms.{Tm, Var, Quote, Call, Tms, Done, More, substitute, substitute_all, by_args}
use Rattle.terms.specs.declared.definition.Definition.{Definition}
use Rattle.terms.specs.declared.sequent.Sequent.{Sequent}
use Rattle.kernel.specs.Sequents.{equation}
use Rattle.proof_builders.specs.Congruence.{each_replaced}
use Rattle.proof_builders.specs.Derived.{chained, gathered, scattered}
use Rattle.proof_builders.specs.Schemes.{hypothesis, scheme}
use Rattle.reduction_proofs.specs.Derived.{turned}
use Rattle.reduction_proofs.specs.Trees.{Proof, Hyp, Refl, Replace, Unfold, Substitute, IfTrue, Cut, ImpliesIn, ImpliesOut, Owed, OfIso}
use Rattle.isodata_tool.specs.Carried.{Mapped, find_map, back_by, forth_by, all_forth, all_in_old, all_in_new, called_body, old_at_back, new_at_forth, old_to_new}

-- What the condition k of an isomorphism says of a term, which has its first predicate's or its second's as a hypothesis:
-- 1 `(newp (forth t))`, 2 `(oldp (back t))`, 3 `(equal (back (forth t)) t)`, 4 `(equal (forth (back t)) t)`.
abbrev pub by_iso : Name → ℕ → Tm → Proof
by_iso n k t = Substitute (OfIso n k) ((codes "X", t) ∷ [])

-- of proofs of some goals, and of one that has them as hypotheses, one without these
abbrev pub cut_each : List Proof → Proof → Proof
cut_each [] Q = Q
cut_each (P ∷ ps) Q = Cut P (cut_each ps Q)

-- each mapped formal x as `(back x)`
abbrev pub backs : List Mapped → Pairs
backs ms = map (λ e. (e.formal, call1 e.iso.back (Var e.formal))) ms

-- ---- There and back
-- what stands for a formal, under forth and back
abbrev pub round_trip : Option Mapped → Tm → Tm
round_trip o t = back_by o (forth_by o t)

abbrev pub there_and_back : List Mapped → (Name → Tm) → Name → Tm
there_and_back ms s x = round_trip (find_map ms x) (s x)

-- it equals what stands for the formal
abbrev pub undone : Option Mapped → Tm → Proof
undone None t = Refl t
undone (Some e) t = by_iso e.iso.name 3 t

-- a term with round trips for its variables equals the term without, argument by argument
abbrev mutual
  pub undone_in : List Mapped → (Name → Tm) → Tm → Proof
  undone_in ms s (Var x) = undone (find_map ms x) (s x)
  undone_in ms s (Quote v) = Refl (Quote v)
  undone_in ms s (Call h ts) = each_replaced 1 (all_undone_in ms s ts) (Refl (Call h (substitute_all (there_and_back ms s) ts)))

  pub all_undone_in : List Mapped → (Name → Tm) → Tms → List Proof
  all_undone_in ms s Done = []
  all_undone_in ms s (More t ts) = undone_in ms s t ∷ all_undone_in ms s ts

-- ---- From the old function to the new one, by induction on the old one's calls
-- the theorem at each recursive call, and `(oldp x)` for each mapped formal x
abbrev pub hypotheses : Definition → Name → List Mapped → List Tm
hypotheses d g ms = scheme d (old_to_new d g ms) ++ all_in_old ms Var

-- at a recursive call the old function is the new one on the new representation, where its tests are true
abbrev pub agreement : Definition → Name → List Mapped → RecursiveCall → Sequent
agreement d g ms c = record {
  universals = [];
  hyps = hypotheses d g ms ++ c.tests;
  goal = equation (Call d.name c.args) (Call g (all_forth ms d.formals c.args));
}

abbrev pub agreements : Definition → Name → List Mapped → List Sequent
agreements d g ms = map (agreement d g ms) (recursive_calls d.name [] d.body)

-- of a proof that the call's arguments are in the old representation, one of the agreement: the theorem is a hypothesis there
abbrev pub by_hypothesis : Definition → Name → List Mapped → RecursiveCall → Proof → Proof
by_hypothesis d g ms c P =
    ImpliesOut (ImpliesOut (Hyp (hypothesis d.formals (old_to_new d g ms) c)) (gathered c.tests)) P

-- the old body is the one with the new function's calls, where the hypotheses are true
abbrev pub same_bodies : Definition → Name → List Mapped → Sequent
same_bodies d g ms = record { universals = []; hyps = hypotheses d g ms; goal = equation d.body (called_body d g ms) }

-- `(newp (forth x))` for each mapped formal x, and their conjunction
abbrev pub forth_in_new : List Mapped → List Tm
forth_in_new ms = map (λ e. call1 e.iso.newp (call1 e.iso.forth (Var e.formal))) ms

abbrev pub stays_new : List Mapped → Proof
stays_new ms = cut_each (map (λ e. by_iso e.iso.name 1 (Var e.formal)) ms) (gathered (forth_in_new ms))

-- the new function at the formals on the new representation is the old body with the new function's calls
abbrev pub new_unfolded : Definition → Name → List Mapped → Proof
new_unfolded d g ms =
    chained (Unfold (new_at_forth d g ms))
    (chained (IfTrue (stays_new ms) (substitute (there_and_back ms Var) (called_body d g ms)) no)
    (undone_in ms Var (called_body d g ms)))

-- of a proof that the bodies are the same, one that the functions are, by their definitions
abbrev pub opened : Definition → Name → List Mapped → Proof → Proof
opened d g ms C =
    chained (Unfold (at_variables d.name d.formals))
    (chained C (turned (new_unfolded d g ms) (new_at_forth d g ms)))

-- the same, on the old representation
abbrev pub unfolded : Definition → Name → List Mapped → Proof → Proof
unfolded d g ms C =
    ImpliesIn (conjunction (all_in_old ms Var))
    (scattered (all_in_old ms Var) (Hyp (conjunction (all_in_old ms Var))) (opened d g ms C))

-- ---- From the new function to the old one: the other theorem on the old representation
-- `(oldp (back x))` for each mapped formal x, each proved from `(newp x)`
abbrev pub back_in_old : List Mapped → List Tm
back_in_old ms = map (λ e. call1 e.iso.oldp (call1 e.iso.back (Var e.formal))) ms

abbrev pub each_back_in_old : List Mapped → List Proof
each_back_in_old ms = map (λ e. by_iso e.iso.name 2 (Var e.formal)) ms

-- `(equal (forth (back x)) x)` for a mapped formal x; another formal is itself
abbrev pub redone : Option Mapped → Name → Proof
redone None x = Refl (Var x)
redone (Some e) x = by_iso e.iso.name 4 (Var x)

-- of a proof from the old function to the new one, one from the new function to the old one
abbrev pub turned_round : Definition → Name → List Mapped → Proof → Proof
turned_round d g ms N =
    ImpliesIn (conjunction (all_in_new ms))
    (scattered (all_in_new ms) (Hyp (conjunction (all_in_new ms)))
    (turned
    (each_replaced 1 (map (λ x. redone (find_map ms x) x) d.formals)
    (ImpliesOut (Substitute N (backs ms)) (cut_each (each_back_in_old ms) (gathered (back_in_old ms)))))
    (old_at_back d ms)))

-- ---- What the new function owes
-- its measure is natural, as the old one's is
abbrev pub natural_there : Definition → List Mapped → Proof
natural_there d ms = Substitute (Owed d.name 0) (backs ms)

-- the old measure falls to what round trips give for s, since a proof says that what s gives is in the old representation
abbrev pub falls_by : Definition → Tm → List Mapped → ℕ → (Name → Tm) → Proof → Proof
falls_by d m ms k s P =
    scattered (all_in_old ms s) P
    (Replace (turned (undone_in ms s m) (substitute (there_and_back ms s) m)) (Owed d.name k) (1 ∷ []))

-- so it does at a call
abbrev pub falls_back : Definition → Tm → List Mapped → ℕ → RecursiveCall → Proof → Proof
falls_back d m ms k c P = falls_by d m ms k (by_args d.formals c.args) P

-- the new measure falls at a call, as the old one does on the old representation
abbrev pub falls_there : Definition → Tm → List Mapped → ℕ → RecursiveCall → Proof → Proof
falls_there d m ms k c P =
    scattered (all_in_new ms) (Hyp (conjunction (all_in_new ms)))
    (cut_each (each_back_in_old ms) (Substitute (falls_back d m ms k c P) (backs ms)))
