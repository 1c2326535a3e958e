-- What the new function owes is proved by what the old one does.
use Rattle.std.proofs.Common.{◌≡◌, ℕ, zero, suc, Bool, true, false, cond, not, ◌&&◌, ◌||◌, List, [], ◌∷◌, ◌++◌, map, slice_get, codes, Option, Some, None, refl, sym, ap, ap₂, ◌∙◌, subst}
use Rattle.lisp_data.specs.Values.{Name, Val}
use Rattle.terms.specs.Definitions.{find}
use Rattle.terms.specs.Evaluation.{then_with}
use Rattle.terms.specs.Formed.{FitsOver}
use Rattle.terms.specs.Joins.{join, without_repeats}
use Rattle.terms.specs.Measures.{mentions, RecursiveCall, Test, Plain, recursive_calls, recursive_calls_in, is_natural, falls, owed_by, obligations}
use Rattle.terms.specs.Sound.{Sound}
use Rattle.terms.specs.Terms.{Tm, Quote, More, Done}
use Rattle.terms.specs.Worlds.{World, Each, arity}
use Rattle.terms.specs.declared.definition.Definition.{Definition}
use Rattle.terms.specs.declared.sequent.Sequent.{Sequent}
use Rattle.terms.proofs.Lists.{join_parts, join_to}
use Rattle.reduction_proofs.specs.Proving.{Within, ProvesCondition}
use Rattle.reduction_proofs.specs.Trees.{Owed}
use Rattle.reduction_proofs.proofs.Deduction.{condition_proved}
use Rattle.reduction_proofs.proofs.Members.{each_self}
use Rattle.restrict_tool.specs.Restrictions.{new_body, restricted}
use Rattle.restrict_tool.specs.Laws.{RestrictionOwes}
use Rattle.restrict_tool.proofs.Renamed.{no_calls, behind, calls_renamed}
use Rattle.restrict_tool.proofs.Formed.{formed, not_if, lacks_body, lacks_restriction, new_mentions}

join_none : {A : Type 0} (xs : List A) → xs ++ [] ≡ xs
join_none [] = refl
join_none (x ∷ xs) = ap (λ ys. x ∷ ys) (join_none xs)

-- a hypothesis more before those of a call leaves the others
with_test : (r : Tm) (tests : List Tm) → Each (Within (without_repeats (r ∷ tests))) (without_repeats tests)
with_test r tests =
    let all : List Tm = without_repeats (r ∷ tests) in
    let parts = join_parts (Within all) [] (r ∷ tests) (each_self all) in
    join_to (Within all) [] tests tt parts.1.1

-- the same goal under some of the hypotheses
record IsOwed (d : Definition) (k : ℕ) (s : Sequent) : Type 0 where
  hyps : List Tm
  owed : slice_get (obligations d) k ≡ Some (record { universals = []; hyps = hyps; goal = s.goal })
  within : Each (Within s.hyps) hyps
  alone : s.universals ≡ []

-- of the calls with a further test, what falls at the k-th
record Falls (ys : List Name) (m : Tm) (cs : List RecursiveCall) (r : Tm) (k : ℕ) (s : Sequent) : Type 0 where
  call : RecursiveCall
  owed : slice_get (map (falls ys m) cs) k ≡ Some (falls ys m call)
  same : falls ys m (behind (r ∷ []) call) ≡ s

some_is : {A : Type 0} {x y : A} → Some x ≡ Some y → x ≡ y
some_is e = cc

at_call : (ys : List Name) (m r : Tm) (cs : List RecursiveCall) (k : ℕ) (s : Sequent) → slice_get (map (falls ys m) (map (behind (r ∷ [])) cs)) k ≡ Some s → Falls ys m cs r k s
at_call ys m r [] k s e = absurd (cc)
at_call ys m r (c ∷ cs) zero s e = record { call = c; owed = refl; same = some_is e }
at_call ys m r (c ∷ cs) (suc k) s e = let p = at_call ys m r cs k s e in record { call = p.call; owed = p.owed; same = p.same }

module _ (W : World) (sound : Sound W) (d : Definition) (found : find W.functions.defs d.name ≡ Some d) (g : Name) (new : arity W.functions g ≡ None) (r : Tm) (fit : FitsOver W.functions d.formals r) (u : Val) where
  -- its calls are the old ones, each with the restriction as a further test
  new_calls : recursive_calls g [] (restricted d g r u).body ≡ map (behind (r ∷ [])) (recursive_calls d.name [] d.body)
  new_calls =
      let ts = More r (More (new_body d g) (More (Quote u) Done)) in
      ap₂ (λ b c. cond b (record { tests = []; args = ts } ∷ []) [] ++ recursive_calls_in g (cond (not c) (Test r) Plain) [] ts) (not_if W sound d found g new) (lacks_restriction W sound d found g new r fit u)
      ∙ ap (λ cs. cs ++ (recursive_calls g (r ∷ []) (new_body d g) ++ [])) (no_calls g r [] (lacks_restriction W sound d found g new r fit u))
      ∙ join_none (recursive_calls g (r ∷ []) (new_body d g))
      ∙ calls_renamed d.name g (r ∷ []) d.body [] (lacks_body W sound d found g new) (formed W sound d found).flat

  recursive : mentions d.name d.body ≡ true → (o : Option Tm) → d.measure ≡ o → obligations d ≡ owed_by d o
  recursive e o q = ap (λ b. cond b (owed_by d d.measure) []) e ∙ ap (owed_by d) q

  with_measure : mentions d.name d.body ≡ true → (o : Option Tm) → d.measure ≡ o → (k : ℕ) (s : Sequent) → slice_get (owed_by (restricted d g r u) o) k ≡ Some s → IsOwed d k s
  with_measure e None q k s h = absurd (cc)
  with_measure e (Some m) q zero s h = subst (IsOwed d 0) (some_is h) (record { hyps = []; owed = ap (λ os. slice_get os 0) (recursive e (Some m) q); within = tt; alone = refl })
  with_measure e (Some m) q (suc k) s h =
      let p = at_call d.formals m r (recursive_calls d.name [] d.body) k s (ap (λ cs. slice_get (map (falls d.formals m) cs) k) (sym new_calls) ∙ h) in
      subst (IsOwed d (suc k)) p.same
      (record {
        hyps = without_repeats p.call.tests;
        owed = ap (λ os. slice_get os (suc k)) (recursive e (Some m) q) ∙ p.owed;
        within = with_test r p.call.tests;
        alone = refl;
      })

  owed_too : (k : ℕ) (s : Sequent) → slice_get (obligations (restricted d g r u)) k ≡ Some s → IsOwed d k s
  owed_too k s e = by_test (mentions d.name d.body) refl (ap (λ b. slice_get (cond b (owed_by (restricted d g r u) d.measure) []) k) (sym (new_mentions W sound d found g new r fit u)) ∙ e)
    where
      by_test : (b : Bool) → mentions d.name d.body ≡ b → slice_get (cond b (owed_by (restricted d g r u) d.measure) []) k ≡ Some s → IsOwed d k s
      by_test true t h = with_measure t d.measure refl k s h
      by_test false t h = absurd (cc)

  owed_proves : (k : ℕ) (s : Sequent) → IsOwed d k s → ProvesCondition W s (Owed d.name k)
  owed_proves k s o =
      condition_proved W s (Owed d.name k)
      (record {
        universals = [];
        hyps = o.hyps;
        concluded = ap (λ c. then_with c (λ e. slice_get (obligations e) k)) found ∙ o.owed;
        universals_in = tt;
        hyps_in = o.within;
      })

-- each obligation of the new function is proved by the old one's of the same number
pub restriction_owes : RestrictionOwes
restriction_owes W sound d found g new r fit u k s e = owed_proves W sound d found g new r fit u k s (owed_too W sound d found g new r fit u k s e)
