-- The two bodies are alike, and differ at the recursive calls alone.
use Rattle.std.proofs.Common.{◌≡◌, Bool, true, false, cond, ◌&&◌, List, [], ◌∷◌, ◌++◌, map, bytes_eq, Some, None, refl, sym, ap, ◌∙◌, subst}
use Rattle.std.specs.List.{list_any}
use Rattle.std.proofs.lemmas.Bool.{or_parts, or_left, or_right}
use Rattle.lisp_data.specs.Values.{Name}
use Rattle.terms.specs.Maps.{rename, rename_all, or_name}
use Rattle.terms.specs.Measures.{mentions, mentions_in, is_nested, is_nested_in, RecursiveCall, Place, next, first_place, tests_at, recursive_calls, recursive_calls_in}
use Rattle.terms.specs.Terms.{Tm, Var, Quote, Call, Tms, Done, More, same_tm}
use Rattle.terms.specs.Worlds.{World, Each}
use Rattle.terms.specs.declared.sequent.Sequent.{Sequent}
use Rattle.terms.proofs.Lists.{each_parts, each_join, each_to}
use Rattle.terms.proofs.Names.{same_name}
use Rattle.kernel.specs.Conclusion.{Conclusion}
use Rattle.plans.specs.Proving.{proves, ProvesAll}
use Rattle.proof_builders.specs.Congruence.{Alike, AlikeAll, Difference, differing, differences, differences_in, is_proved_among}
use Rattle.restrict_tool.specs.Laws.{BodiesAreAlike}
use Rattle.restrict_tool.specs.Proofs.{hypotheses, agreement}

module _ (f g : Name) where
  -- a term without calls of f stays
  mutual
    pub stays : (t : Tm) → mentions f t ≡ false → rename ((f, g) ∷ []) t ≡ t
    stays (Var x) e = refl
    stays (Quote v) e = refl
    stays (Call h ts) e =
        let p = or_parts (bytes_eq f h) (mentions_in f ts) e in
        ap (λ b. Call (or_name h (cond b (Some g) None)) (rename_all ((f, g) ∷ []) ts)) p.0 ∙ ap (Call h) (all_stay ts p.1)

    pub all_stay : (ts : Tms) → mentions_in f ts ≡ false → rename_all ((f, g) ∷ []) ts ≡ ts
    all_stay Done e = refl
    all_stay (More t ts) e =
        let p = or_parts (mentions f t) (mentions_in f ts) e in
        let q = stays t p.0 in let r = all_stay ts p.1 in cc

  mutual
    pub alike_renamed : (t : Tm) → Alike f t (rename ((f, g) ∷ []) t)
    alike_renamed (Var x) = refl
    alike_renamed (Quote v) = refl
    alike_renamed (Call h ts) = at_call (bytes_eq f h) (alike_all_renamed ts)
      where
        at_call : (b : Bool) → AlikeAll f ts (rename_all ((f, g) ∷ []) ts) →
            cond b (Unit {0}) ((Call h (rename_all ((f, g) ∷ []) ts) ≡ Call (or_name h (cond b (Some g) None)) (rename_all ((f, g) ∷ []) ts)) × AlikeAll f ts (rename_all ((f, g) ∷ []) ts))
        at_call true ih = tt
        at_call false ih = (refl, ih)

    pub alike_all_renamed : (ts : Tms) → AlikeAll f ts (rename_all ((f, g) ∷ []) ts)
    alike_all_renamed Done = refl
    alike_all_renamed (More t ts) = (refl, alike_renamed t, alike_all_renamed ts)

  -- a call of f, and g in its place
  abbrev pub changed : RecursiveCall → Difference
  changed c = record { tests = c.tests; old = Call f c.args; new = Call g c.args }

  -- where no recursive call stands in another the differences are the calls
  module _ (P : Difference → Type 0) where
    abbrev Changed : List RecursiveCall → Type 0
    Changed cs = Each (λ c. P (changed c)) cs

    mutual
      pub by_calls : (t : Tm) (tests : List Tm) → is_nested f t ≡ false → Changed (recursive_calls f tests t) → Each P (differences f tests t (rename ((f, g) ∷ []) t))
      by_calls (Var x) tests n h = tt
      by_calls (Quote v) tests n h = tt
      by_calls (Call k ts) tests n h =
          let p = or_parts (bytes_eq f k && mentions_in f ts) (is_nested_in f ts) n in
          at_call (bytes_eq f k) refl p.0 h (λ q. by_calls_in ts (first_place f k ts) tests p.1 q)
        where
          a_call : (b : Bool) (d : Difference) → P d → Each P (cond b [] (d ∷ []))
          a_call true d q = tt
          a_call false d q = (q, tt)

          at_call : (b : Bool) → bytes_eq f k ≡ b → (b && mentions_in f ts) ≡ false → Changed (cond b (record { tests = tests; args = ts } ∷ []) [] ++ recursive_calls_in f (first_place f k ts) tests ts) →
              (Changed (recursive_calls_in f (first_place f k ts) tests ts) → Each P (differences_in f (first_place f k ts) tests ts (rename_all ((f, g) ∷ []) ts))) →
              Each P (cond b (differing tests (Call k ts) (Call (or_name k (cond b (Some g) None)) (rename_all ((f, g) ∷ []) ts))) (differences_in f (first_place f k ts) tests ts (rename_all ((f, g) ∷ []) ts)))
          at_call true e m q rest =
              let named : P (record { tests = tests; old = Call k ts; new = Call g ts }) = subst (λ x. P (record { tests = tests; old = Call x ts; new = Call g ts })) (same_name f k e) q.0 in
              subst (λ us. Each P (differing tests (Call k ts) (Call g us))) (sym (all_stay ts m)) (a_call (same_tm (Call k ts) (Call g ts)) (record { tests = tests; old = Call k ts; new = Call g ts }) named)
          at_call false e m q rest = rest q

      pub by_calls_in : (ts : Tms) (p : Place) (tests : List Tm) → is_nested_in f ts ≡ false → Changed (recursive_calls_in f p tests ts) → Each P (differences_in f p tests ts (rename_all ((f, g) ∷ []) ts))
      by_calls_in Done p tests n h = tt
      by_calls_in (More t ts) p tests n h =
          let m = or_parts (is_nested f t) (is_nested_in f ts) n in
          let k = each_parts (λ c. P (changed c)) (recursive_calls f (tests_at p tests) t) (recursive_calls_in f (next p) tests ts) h in
          each_join P (differences f (tests_at p tests) t (rename ((f, g) ∷ []) t)) (differences_in f (next p) tests ts (rename_all ((f, g) ∷ []) ts)) (by_calls t (tests_at p tests) m.0 k.0) (by_calls_in ts (next p) tests m.1 k.1)

-- what is proved in order has a proof of each sequent among it
pub each_among : (W : World) (s : RecursiveCall → Sequent) (cs : List RecursiveCall) (ps : List Conclusion) → ProvesAll W (map s cs) ps → Each (λ c. list_any (λ p. proves p.sequent (s c)) ps ≡ true) cs
each_among W s [] ps h = tt
each_among W s (c ∷ cs) [] h = absurd h
each_among W s (c ∷ cs) (p ∷ ps) h = (
  or_left (proves p.sequent (s c)) (list_any (λ q. proves q.sequent (s c)) ps) h.0.1,
  each_to (λ k. list_any (λ q. proves q.sequent (s k)) ps ≡ true) (λ k. list_any (λ q. proves q.sequent (s k)) (p ∷ ps) ≡ true)
      (λ k e. or_right (proves p.sequent (s k)) (list_any (λ q. proves q.sequent (s k)) ps) e) cs (each_among W s cs ps h.1),
)

pub bodies_are_alike : BodiesAreAlike
bodies_are_alike W d g r two flat = (
  alike_renamed d.name g d.body,
  λ ps h. by_calls d.name g (λ e. is_proved_among ps [] (hypotheses d g r) e ≡ true) d.body [] flat (each_among W (agreement d g r) (recursive_calls d.name [] d.body) ps h),
)
