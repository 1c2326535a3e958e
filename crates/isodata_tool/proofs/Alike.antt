-- The old body and the one with the new function's calls are alike, and differ at the recursive calls alone.
use Rattle.std.proofs.Common.{◌≡◌, Bool, true, false, cond, List, [], ◌∷◌, ◌++◌, map, bytes_eq, refl, subst}
use Rattle.std.specs.List.{list_any}
use Rattle.std.proofs.lemmas.Bool.{or_left, or_right}
use Rattle.lisp_data.specs.Values.{Name}
use Rattle.terms.specs.Measures.{RecursiveCall, Place, next, first_place, tests_at, recursive_calls, recursive_calls_in}
use Rattle.terms.specs.Terms.{Tm, Var, Quote, Call, Tms, Done, More, same_tm}
use Rattle.terms.specs.Worlds.{World, Each}
use Rattle.terms.specs.declared.sequent.Sequent.{Sequent}
use Rattle.terms.proofs.Lists.{each_parts, each_join, each_to}
use Rattle.terms.proofs.Names.{same_name}
use Rattle.kernel.specs.Conclusion.{Conclusion}
use Rattle.plans.specs.Proving.{proves, ProvesAll}
use Rattle.proof_builders.specs.Congruence.{args_in, Alike, AlikeAll, Difference, differing, differences, differences_in, is_proved_among}
use Rattle.isodata_tool.specs.Carried.{Mapped, all_forth, with_new_calls, all_with_new_calls}
use Rattle.isodata_tool.specs.Laws.{BodiesAreAlike}
use Rattle.isodata_tool.specs.Proofs.{hypotheses, agreement}

module _ (f g : Name) (ms : List Mapped) (xs : List Name) where
  mutual
    pub alike_called : (t : Tm) → Alike f t (with_new_calls f g ms xs t)
    alike_called (Var x) = refl
    alike_called (Quote v) = refl
    alike_called (Call h ts) = at_call (bytes_eq f h) (alike_all_called ts)
      where
        at_call : (b : Bool) → AlikeAll f ts (all_with_new_calls f g ms xs ts) →
            cond b (Unit {0})
            ((Call h (args_in (cond b (Call g (all_forth ms xs ts)) (Call h (all_with_new_calls f g ms xs ts)))) ≡ cond b (Call g (all_forth ms xs ts)) (Call h (all_with_new_calls f g ms xs ts)))
            × AlikeAll f ts (args_in (cond b (Call g (all_forth ms xs ts)) (Call h (all_with_new_calls f g ms xs ts)))))
        at_call true ih = tt
        at_call false ih = (refl, ih)

    pub alike_all_called : (ts : Tms) → AlikeAll f ts (all_with_new_calls f g ms xs ts)
    alike_all_called Done = refl
    alike_all_called (More t ts) = (refl, alike_called t, alike_all_called ts)

  -- a call of f, and the one of g in its place
  abbrev pub changed : RecursiveCall → Difference
  changed c = record { tests = c.tests; old = Call f c.args; new = Call g (all_forth ms xs c.args) }

  -- the differences are at calls
  module _ (P : Difference → Type 0) where
    abbrev Changed : List RecursiveCall → Type 0
    Changed cs = Each (λ c. P (changed c)) cs

    mutual
      pub by_calls : (t : Tm) (tests : List Tm) → Changed (recursive_calls f tests t) → Each P (differences f tests t (with_new_calls f g ms xs t))
      by_calls (Var x) tests h = tt
      by_calls (Quote v) tests h = tt
      by_calls (Call k ts) tests h = at_call (bytes_eq f k) refl h (λ q. by_calls_in ts (first_place f k ts) tests q)
        where
          a_call : (b : Bool) (d : Difference) → P d → Each P (cond b [] (d ∷ []))
          a_call true d q = tt
          a_call false d q = (q, tt)

          at_call : (b : Bool) → bytes_eq f k ≡ b → Changed (cond b (record { tests = tests; args = ts } ∷ []) [] ++ recursive_calls_in f (first_place f k ts) tests ts) →
              (Changed (recursive_calls_in f (first_place f k ts) tests ts) → Each P (differences_in f (first_place f k ts) tests ts (all_with_new_calls f g ms xs ts))) →
              Each P (cond b (differing tests (Call k ts) (cond b (Call g (all_forth ms xs ts)) (Call k (all_with_new_calls f g ms xs ts))))
              (differences_in f (first_place f k ts) tests ts (args_in (cond b (Call g (all_forth ms xs ts)) (Call k (all_with_new_calls f g ms xs ts))))))
          at_call true e q rest =
              let new : Tm = Call g (all_forth ms xs ts) in
              let named : P (record { tests = tests; old = Call k ts; new = new }) = subst (λ x. P (record { tests = tests; old = Call x ts; new = new })) (same_name f k e) q.0 in
              a_call (same_tm (Call k ts) new) (record { tests = tests; old = Call k ts; new = new }) named
          at_call false e q rest = rest q

      pub by_calls_in : (ts : Tms) (p : Place) (tests : List Tm) → Changed (recursive_calls_in f p tests ts) → Each P (differences_in f p tests ts (all_with_new_calls f g ms xs ts))
      by_calls_in Done p tests h = tt
      by_calls_in (More t ts) p tests h =
          let k = each_parts (λ c. P (changed c)) (recursive_calls f (tests_at p tests) t) (recursive_calls_in f (next p) tests ts) h in
          each_join P (differences f (tests_at p tests) t (with_new_calls f g ms xs t)) (differences_in f (next p) tests ts (all_with_new_calls f g ms xs ts)) (by_calls t (tests_at p tests) k.0) (by_calls_in ts (next p) tests k.1)

-- what is proved in order has a proof of each sequent among it
pub each_among : (W : World) (s : RecursiveCall → Sequent) (cs : List RecursiveCall) (ps : List Conclusion) → ProvesAll W (map s cs) ps → Each (λ c. list_any (λ p. proves p.sequent (s c)) ps ≡ true) cs
each_among W s [] ps h = tt
each_among W s (c ∷ cs) [] h = absurd h
each_among W s (c ∷ cs) (p ∷ ps) h = (
  or_left (proves p.sequent (s c)) (list_any (λ q. proves q.sequent (s c)) ps) h.0.1,
  each_to (λ k. list_any (λ q. proves q.sequent (s k)) ps ≡ true) (λ k. list_any (λ q. proves q.sequent (s k)) (p ∷ ps) ≡ true)
      (λ k e. or_right (proves p.sequent (s k)) (list_any (λ q. proves q.sequent (s k)) ps) e) cs (each_among W s cs ps h.1),
)

pub bodies_are_alike : BodiesAreAlike
bodies_are_alike W d g ms = (
  alike_called d.name g ms d.formals d.body,
  λ ps h. by_calls d.name g ms d.formals (λ e. is_proved_among ps [] (hypotheses d g ms) e ≡ true) d.body [] (each_among W (agreement d g ms) (recursive_calls d.name [] d.body) ps h),
)
