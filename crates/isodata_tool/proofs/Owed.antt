-- What the new function owes is proved by what the old one does, where the conditions are proved.
use Rattle.std.proofs.Common.{◌≡◌, ℕ, zero, suc, Bool, true, false, cond, List, [], ◌∷◌, ◌++◌, length, map, slice_get, bytes_eq, codes, Option, Some, None, option_map, refl, sym, ap, ap₂, ◌∙◌, subst, arith}
use Rattle.std.proofs.lemmas.List.{map-append}
use Rattle.lisp_data.specs.Values.{Name}
use Rattle.terms.specs.Definitions.{find}
use Rattle.terms.specs.Evaluation.{then_with}
use Rattle.terms.specs.Joins.{without_repeats}
use Rattle.terms.specs.Links.{conjunction}
use Rattle.terms.specs.Measures.{mentions, RecursiveCall, recursive_calls, is_natural, falls, owed_by, obligations, call1, call2}
use Rattle.terms.specs.Sound.{Sound}
use Rattle.terms.specs.Substitution.{by_pairs}
use Rattle.terms.specs.Terms.{Tm, Var, Tms, Done, More, count, substitute, substitute_all, by_args}
use Rattle.terms.specs.Worlds.{World, Each, Fits, IsIn, arity}
use Rattle.terms.specs.declared.definition.Definition.{Definition}
use Rattle.terms.specs.declared.sequent.Sequent.{Sequent}
use Rattle.terms.proofs.Lists.{each_join, join_parts, join_to}
use Rattle.kernel.specs.Sequents.{equation}
use Rattle.kernel.proofs.Inversions.{fits_decides, fit_all_true}
use Rattle.proof_builders.proofs.DerivedRules.{goal_fits, symmetry_proves, cut_all_proves}
use Rattle.reduction_proofs.specs.Derived.{turned}
use Rattle.reduction_proofs.specs.Proving.{Within, Proves, ProvesCondition}
use Rattle.reduction_proofs.specs.Trees.{Proof, Hyp, Replace, Substitute, Owed}
use Rattle.reduction_proofs.proofs.Deduction.{wider, by_hyp, by_replace, by_instance, condition_proved, proved_condition}
use Rattle.reduction_proofs.proofs.Members.{Fit, each_self, each_within, each_left, each_right}
use Rattle.reduction_proofs.proofs.Sure.{some_is}
use Rattle.isodata_tool.specs.Carried.{Mapped, AreMapped, find_map, back_by, forth_by, with_back, all_forth, all_in_old, all_in_new, carried_over, stays_old}
use Rattle.isodata_tool.specs.Laws.{IsOwed, IsomorphicOwes}
use Rattle.isodata_tool.specs.Proofs.{cut_each, backs, there_and_back, undone_in, back_in_old, each_back_in_old, natural_there, falls_back, falls_there}
use Rattle.isodata_tool.proofs.Calling.{IsCall, is_call}
use Rattle.isodata_tool.proofs.Carrying.{carried, new_calls}
use Rattle.isodata_tool.proofs.Fitted.{FitAll}
use Rattle.isodata_tool.proofs.Formed.{formed, not_if, lacks_body, lacks_condition, backs_apart, forths_apart, new_mentions}
use Rattle.isodata_tool.proofs.Gathered.{backs_fit, conjunction_fits, all_new_fit, each_back_proves}
use Rattle.isodata_tool.proofs.Isos.{by_cut_each, by_substitute}
use Rattle.isodata_tool.proofs.Substituted.{put_alike, put_twice, map_alike, put_forth, put_back, backs_at, all_forth-count, forth_at, outside, by_place, found_inside, put_back_in_old}
use Rattle.isodata_tool.proofs.Undone.{undone_in_proves}

-- what holds of all holds of each
each_is : {A : Type 0} (P : A → Type 0) → ((x : A) → P x) → (xs : List A) → Each P xs
each_is P f [] = tt
each_is P f (x ∷ xs) = (f x, each_is P f xs)

-- arguments under a substitution
args_under : (s : Name → Tm) (xs : List Name) (ts : Tms) (y : Name) → count ts ≡ length xs → IsIn xs y → by_args xs (substitute_all s ts) y ≡ substitute s (by_args xs ts y)
args_under s [] ts y n i = absurd i
args_under s (x ∷ xs) Done y n i = absurd (omega (arith, n))
args_under s (x ∷ xs) (More t ts) y n i = by_test (bytes_eq x y) i (args_under s xs ts y (omega (arith, n)))
  where
    by_test : (b : Bool) → cond b (Unit {0}) (IsIn xs y) → (IsIn xs y → by_args xs (substitute_all s ts) y ≡ substitute s (by_args xs ts y)) → cond b (substitute s t) (by_args xs (substitute_all s ts) y) ≡ substitute s (cond b t (by_args xs ts y))
    by_test true i' ih = refl
    by_test false i' ih = ih i'

-- what stands for a variable fits where the arguments do
by_args_fit : (W : World) (xs : List Name) (ts : Tms) (y : Name) → FitAll W.functions ts → Fits W.functions (by_args xs ts y)
by_args_fit W [] ts y f = tt
by_args_fit W (x ∷ xs) Done y f = tt
by_args_fit W (x ∷ xs) (More t ts) y f = by_test (bytes_eq x y) (by_args_fit W xs ts y f.1)
  where
    by_test : (b : Bool) → Fits W.functions (by_args xs ts y) → Fits W.functions (cond b t (by_args xs ts y))
    by_test true ih = f.0
    by_test false ih = ih

-- what falls at the k-th of calls that are carried over
record Falls (xs : List Name) (m n : Tm) (carry : RecursiveCall → RecursiveCall) (cs : List RecursiveCall) (k : ℕ) (s : Sequent) : Type 0 where
  call : RecursiveCall
  called : slice_get cs k ≡ Some call
  owed : slice_get (map (falls xs m) cs) k ≡ Some (falls xs m call)
  same : falls xs n (carry call) ≡ s

at_call : (xs : List Name) (m n : Tm) (carry : RecursiveCall → RecursiveCall) (cs : List RecursiveCall) (k : ℕ) (s : Sequent) → slice_get (map (falls xs n) (map carry cs)) k ≡ Some s → Falls xs m n carry cs k s
at_call xs m n carry [] k s e = absurd (cc)
at_call xs m n carry (c ∷ cs) zero s e = record { call = c; called = refl; owed = refl; same = some_is e }
at_call xs m n carry (c ∷ cs) (suc k) s e = let p = at_call xs m n carry cs k s e in record { call = p.call; called = p.called; owed = p.owed; same = p.same }

module _ (W : World) (sound : Sound W) (d : Definition) (found : find W.functions.defs d.name ≡ Some d) (ms : List Mapped) (are : AreMapped W d.formals ms) where
  -- an obligation of the old function, under hypotheses that have its own
  owed_proves : (hs os : List Tm) (k : ℕ) (goal : Tm) → slice_get (obligations d) k ≡ Some (record { universals = []; hyps = os; goal = goal }) → Each (Within hs) os → Proves W [] hs goal (Owed d.name k)
  owed_proves hs os k goal o w = record {
    universals = [];
    hyps = os;
    concluded = ap (λ c. then_with c (λ e. slice_get (obligations e) k)) found ∙ o;
    universals_in = tt;
    hyps_in = w;
  }

  -- a variable under the pairs of `back`
  under_back : (t : Tm) → substitute (by_pairs (backs ms)) t ≡ substitute (with_back ms) t
  under_back t = put_alike (by_pairs (backs ms)) (with_back ms) (backs_at ms) t

  module _ (m : Tm) (measured : d.measure ≡ Some m) (recursive : mentions d.name d.body ≡ true) where
    obligations_are : obligations d ≡ is_natural m ∷ map (falls d.formals m) (recursive_calls d.name [] d.body)
    obligations_are = ap (λ b. cond b (owed_by d d.measure) []) recursive ∙ ap (owed_by d) measured

    natural : Proves W [] [] (call1 (codes "NATP") m) (Owed d.name 0)
    natural = owed_proves [] [] 0 (call1 (codes "NATP") m) (ap (λ os. slice_get os 0) obligations_are) tt

    measure_fits : Fits W.functions m
    measure_fits = (goal_fits W sound [] [] (call1 (codes "NATP") m) (Owed d.name 0) natural).1.0

    -- the new measure is natural
    natural_too : ProvesCondition W (is_natural (substitute (with_back ms) m)) (natural_there d ms)
    natural_too =
        condition_proved W (is_natural (substitute (with_back ms) m)) (natural_there d ms)
        (subst (λ t. Proves W [] [] (call1 (codes "NATP") t) (natural_there d ms)) (under_back m)
        (by_instance W [] [] (call1 (codes "NATP") m) (backs ms) (Owed d.name 0) natural (backs_fit W sound ms are.known)))

    module _ (c : RecursiveCall) (is : IsCall W d c) (k : ℕ) (owed : slice_get (obligations d) k ≡ Some (falls d.formals m c)) (P : Proof) (p : ProvesCondition W (stays_old d ms c) P) where
      -- the hypotheses of the condition, and the old function's arguments
      abbrev old_hyps : List Tm
      old_hyps = all_in_old ms Var ++ c.tests

      abbrev args : Name → Tm
      args = by_args d.formals c.args

      stays : Proves W [] old_hyps (conjunction (all_in_old ms args)) P
      stays =
          wider W [] (without_repeats old_hyps) old_hyps (conjunction (all_in_old ms args)) P (join_to (Within old_hyps) [] old_hyps tt (each_self old_hyps))
          (proved_condition W p.sequent (stays_old d ms c) P p.concluded p.proved)

      args_fit : (y : Name) → Fit W (by_args d.formals c.args y)
      args_fit y = (fits_decides W.functions (by_args d.formals c.args y)).1 (by_args_fit W d.formals c.args y (fit_all_true W.functions c.args is.args))

      -- from the formals in the old representation: the old measure falls to what round trips give
      falls_back_proves : Proves W [] old_hyps (call2 (codes "<") (substitute (there_and_back ms args) m) m) (falls_back d m ms k c P)
      falls_back_proves =
          let olds : List Tm = all_in_old ms args in
          let K : List Tm = old_hyps ++ olds in
          let R : Proof = undone_in ms args m in
          let a : Tm = substitute args m in
          let b : Tm = substitute (there_and_back ms args) m in
          let undone : Proves W [] K (equation b a) R = undone_in_proves W sound d.formals ms are [] K args args_fit (each_right old_hyps olds) m measure_fits in
          let tests : Each (Within K) (without_repeats c.tests) = join_to (Within K) [] c.tests tt (each_within old_hyps K c.tests (each_left old_hyps olds) (each_right (all_in_old ms Var) c.tests)) in
          cut_all_proves W sound [] old_hyps olds P (Replace (turned R b) (Owed d.name k) (1 ∷ [])) (call2 (codes "<") b m) stays
          (by_replace W [] K a b (call2 (codes "<") a m) (call2 (codes "<") b m) (turned R b) (Owed d.name k) (1 ∷ []) refl refl
          (symmetry_proves W sound [] K R b a undone)
          (owed_proves K (without_repeats c.tests) k (call2 (codes "<") a m) owed tests))

      -- the new function's arguments
      abbrev new_args : Name → Tm
      new_args = by_args d.formals (substitute_all (with_back ms) (all_forth ms d.formals c.args))

      -- round trips on the old representation are the old representation of the new arguments
      there_at : (y : Name) → substitute (by_pairs (backs ms)) (there_and_back ms (by_args d.formals c.args) y) ≡ substitute new_args (with_back ms y)
      there_at y = by_place (substitute (by_pairs (backs ms)) (there_and_back ms (by_args d.formals c.args) y) ≡ substitute new_args (with_back ms y)) d.formals y here (λ a. away a (find_map ms y) refl)
        where
          here : IsIn d.formals y → substitute (by_pairs (backs ms)) (there_and_back ms (by_args d.formals c.args) y) ≡ substitute new_args (with_back ms y)
          here i =
              let o : Option Mapped = find_map ms y in
              let u : Tm = by_args d.formals c.args y in
              let s : Name → Tm = with_back ms in
              let r : Name → Tm = by_pairs (backs ms) in
              put_back r o (forth_by o u)
              ∙ ap (back_by o) (put_forth r o u ∙ ap (forth_by o) (under_back u) ∙ sym (put_forth s o u)
              ∙ ap (substitute s) (sym (forth_at ms d.formals c.args y is.number i))
              ∙ sym (args_under s d.formals (all_forth ms d.formals c.args) y (all_forth-count ms d.formals c.args ∙ is.number) i))
              ∙ sym (put_back new_args o (Var y))

          away : (IsIn d.formals y → ⊥) → (o : Option Mapped) → find_map ms y ≡ o → substitute (by_pairs (backs ms)) (back_by o (forth_by o (by_args d.formals c.args y))) ≡ substitute new_args (back_by o (Var y))
          away a None q =
              ap (substitute (by_pairs (backs ms))) (outside d.formals c.args y a)
              ∙ backs_at ms y ∙ ap (λ o. back_by o (Var y)) q
              ∙ sym (outside d.formals (substitute_all (with_back ms) (all_forth ms d.formals c.args)) y a)
          away a (Some e) q = absurd (a (found_inside W d.formals ms are y e q))

      measure_there : substitute (by_pairs (backs ms)) (substitute (there_and_back ms args) m) ≡ substitute new_args (substitute (with_back ms) m)
      measure_there =
          put_twice (by_pairs (backs ms)) (there_and_back ms args) m
          ∙ put_alike (λ y. substitute (by_pairs (backs ms)) (there_and_back ms args y)) (λ y. substitute new_args (with_back ms y)) there_at m
          ∙ sym (put_twice new_args (with_back ms) m)

      -- the condition's hypotheses on the old representation
      hyps_there : map (substitute (by_pairs (backs ms))) old_hyps ≡ back_in_old ms ++ map (substitute (with_back ms)) c.tests
      hyps_there =
          let r : Name → Tm = by_pairs (backs ms) in
          map-append (substitute r) (all_in_old ms Var) c.tests
          ∙ ap₂ (λ xs ys. xs ++ ys) (put_back_in_old W d.formals ms are) (map_alike (substitute r) (substitute (with_back ms)) c.tests (each_is (λ t. substitute r t ≡ substitute (with_back ms) t) under_back c.tests))

      -- the new measure falls at the call
      falls_too : ProvesCondition W (falls d.formals (substitute (with_back ms) m) (carried (conjunction (all_in_new ms) ∷ []) (with_back ms) ms d.formals c)) (falls_there d m ms k c P)
      falls_too =
          let r : Name → Tm = by_pairs (backs ms) in
          let n : Tm = substitute (with_back ms) m in
          let b : Tm = substitute (there_and_back ms args) m in
          let news : List Tm = all_in_new ms in
          let olds : List Tm = back_in_old ms in
          let A : Tm = conjunction news in
          let tests : List Tm = map (substitute (with_back ms)) c.tests in
          let H : List Tm = without_repeats (A ∷ tests) in
          let K : List Tm = H ++ news in
          let L : List Tm = K ++ olds in
          let goal : Tm = call2 (codes "<") (substitute new_args n) n in
          let F : Proof = falls_back d m ms k c P in
          let S : Proof = Substitute F (backs ms) in
          let own = join_parts (Within H) [] (A ∷ tests) (each_self H) in
          let inside : Each (Within L) (olds ++ tests) = each_join (Within L) olds tests (each_right K olds) (each_within K L tests (each_left K olds) (each_within H K tests (each_left H news) own.1.1)) in
          let back : Proves W [] (map (substitute r) old_hyps) (call2 (codes "<") (substitute r b) (substitute r m)) S = by_substitute W old_hyps (call2 (codes "<") b m) (backs ms) F falls_back_proves (backs_fit W sound ms are.known) in
          let wide : Proves W [] L (call2 (codes "<") (substitute r b) (substitute r m)) S =
          wider W [] (map (substitute r) old_hyps) L (call2 (codes "<") (substitute r b) (substitute r m)) S (subst (Each (Within L)) (sym hyps_there) inside) back in
          let moved : Proves W [] L goal S = subst (λ t. Proves W [] L t S) (ap₂ (call2 (codes "<")) measure_there (under_back m)) wide in
          condition_proved W (falls d.formals n (carried (A ∷ []) (with_back ms) ms d.formals c)) (falls_there d m ms k c P)
          (cut_all_proves W sound [] H news (Hyp A) (cut_each (each_back_in_old ms) S) goal
          (by_hyp W [] H A (conjunction_fits W sound news (all_new_fit W sound ms are.known)) own.1.0)
          (by_cut_each W [] K olds (each_back_in_old ms) goal S (each_back_proves W sound ms are.known [] K (each_right H news)) moved))

module _ (W : World) (sound : Sound W) (d : Definition) (found : find W.functions.defs d.name ≡ Some d) (g : Name) (new : arity W.functions g ≡ None) (ms : List Mapped) (are : AreMapped W d.formals ms) where
  -- the old function's calls, carried over
  calls_are : recursive_calls g [] (carried_over d g ms).body ≡ map (carried (conjunction (all_in_new ms) ∷ []) (with_back ms) ms d.formals) (recursive_calls d.name [] d.body)
  calls_are =
      new_calls d g ms (not_if W sound d found g new) (lacks_condition W sound d found g new ms are)
      (backs_apart W sound d found g new ms are) (forths_apart W sound d found g new ms are) (lacks_body W sound d found g new) (formed W sound d found).flat

  with_measure : mentions d.name d.body ≡ true → (o : Option Tm) → d.measure ≡ o → (k : ℕ) (s : Sequent) → slice_get (owed_by (carried_over d g ms) (option_map (substitute (with_back ms)) o)) k ≡ Some s → IsOwed W d ms k s
  with_measure t None q k s h = absurd (cc)
  with_measure t (Some m) q zero s h = subst (λ z. ProvesCondition W z (natural_there d ms)) (some_is h) (natural_too W sound d found ms are m q t)
  with_measure t (Some m) q (suc k) s h =
      let n : Tm = substitute (with_back ms) m in
      let calls : List RecursiveCall = recursive_calls d.name [] d.body in
      let p = at_call d.formals m n (carried (conjunction (all_in_new ms) ∷ []) (with_back ms) ms d.formals) calls k s (ap (λ cs. slice_get (map (falls d.formals n) cs) k) (sym calls_are) ∙ h) in
      let owed : slice_get (obligations d) (suc k) ≡ Some (falls d.formals m p.call) = ap (λ os. slice_get os (suc k)) (obligations_are W sound d found ms are m q t) ∙ p.owed in
      record {
        measure = m;
        measured = q;
        call = p.call;
        called = p.called;
        falls = λ P c. subst (λ z. ProvesCondition W z (falls_there d m ms (suc k) p.call P)) p.same (falls_too W sound d found ms are m q t p.call (is_call W sound d found k p.call p.called) (suc k) owed P c);
      }

  owed_too : (k : ℕ) (s : Sequent) → slice_get (obligations (carried_over d g ms)) k ≡ Some s → IsOwed W d ms k s
  owed_too k s e = by_test (mentions d.name d.body) refl (ap (λ b. slice_get (cond b (owed_by (carried_over d g ms) (option_map (substitute (with_back ms)) d.measure)) []) k) (sym (new_mentions W sound d found g new ms are)) ∙ e)
    where
      by_test : (b : Bool) → mentions d.name d.body ≡ b → slice_get (cond b (owed_by (carried_over d g ms) (option_map (substitute (with_back ms)) d.measure)) []) k ≡ Some s → IsOwed W d ms k s
      by_test true t h = with_measure t d.measure refl k s h
      by_test false t h = absurd (cc)

-- the new measure is natural, and falls at each call as the old one does
pub isomorphic_owes : IsomorphicOwes
isomorphic_owes W sound d found g new ms are k s e = owed_too W sound d found g new ms are k s e
