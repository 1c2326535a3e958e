-- The terms that mapped formals give, with a proof of each and of their conjunction.
use Rattle.std.proofs.Common.{◌≡◌, true, List, [], ◌∷◌, ◌++◌, map, Some, refl}
use Rattle.lisp_data.specs.Values.{Name}
use Rattle.terms.specs.Links.{conjunction}
use Rattle.terms.specs.Measures.{call1}
use Rattle.terms.specs.Sound.{Sound}
use Rattle.terms.specs.Terms.{Tm, Var}
use Rattle.terms.specs.Worlds.{World, Fits, Each}
use Rattle.terms.proofs.Lists.{each_of_map, each_to}
use Rattle.worlds.specs.Lookups.{find_iso}
use Rattle.kernel.specs.Fitting.{pairs_fit}
use Rattle.kernel.proofs.Inversions.{fits_decides, pairs_fit_each}
use Rattle.proof_builders.specs.Derived.{gathered}
use Rattle.proof_builders.proofs.DerivedRules.{goal_fits, by_gathered, and_in_all_proves}
use Rattle.reduction_proofs.specs.Proving.{Within, Proves}
use Rattle.reduction_proofs.specs.Trees.{Proof}
use Rattle.reduction_proofs.proofs.Members.{Fit, each_fit, each_right}
use Rattle.isodata_tool.specs.Carried.{Mapped, all_in_old, all_in_new}
use Rattle.isodata_tool.specs.Proofs.{by_iso, cut_each, backs, forth_in_new, stays_new, back_in_old, each_back_in_old}
use Rattle.isodata_tool.proofs.Fitted.{old_fits, new_fits, forth_fits, back_fits}
use Rattle.isodata_tool.proofs.Isos.{EachProves, by_cut_each, image_proves, image_back_proves}

pub each_to_map : {A B : Type 0} (P : B → Type 0) (f : A → B) (xs : List A) → Each (λ x. P (f x)) xs → Each P (map f xs)
each_to_map P f [] h = tt
each_to_map P f (x ∷ xs) h = (h.0, each_to_map P f xs h.1)

pub each_of_both : {A : Type 0} (P Q R : A → Type 0) → ((x : A) → P x → Q x → R x) → (xs : List A) → Each P xs → Each Q xs → Each R xs
each_of_both P Q R f [] h k = tt
each_of_both P Q R f (x ∷ xs) h k = (f x h.0 k.0, each_of_both P Q R f xs h.1 k.1)

-- a proof of what each mapped formal gives
each_proves : (W : World) (us hs : List Tm) (f : Mapped → Tm) (P : Mapped → Proof) (ms : List Mapped) → Each (λ e. Proves W us hs (f e) (P e)) ms → EachProves W us hs (map f ms) (map P ms)
each_proves W us hs f P [] h = tt
each_proves W us hs f P (e ∷ ms) h = (h.0, each_proves W us hs f P ms h.1)

-- a conjunction of terms that fit does
pub conjunction_fits : (W : World) → Sound W → (ts : List Tm) → Each (Fits W.functions) ts → Fit W (conjunction ts)
conjunction_fits W sound ts f = (fits_decides W.functions (conjunction ts)).1 (goal_fits W sound [] ts (conjunction ts) (gathered ts) (and_in_all_proves W sound ts f))

-- a conjunction whose terms are proved
pub conjunction_proves : (W : World) → Sound W → (us hs ts : List Tm) (ps : List Proof) → Each (Fits W.functions) ts → EachProves W us hs ts ps → Proves W us hs (conjunction ts) (cut_each ps (gathered ts))
conjunction_proves W sound us hs ts ps f h = by_cut_each W us hs ts ps (conjunction ts) (gathered ts) h (by_gathered W sound us (hs ++ ts) ts (each_fit W ts f) (each_right hs ts))

module _ (W : World) (sound : Sound W) (ms : List Mapped) (known : Each (λ (e : Mapped). find_iso W.isos e.iso.name ≡ Some e.iso) ms) where
  abbrev IsKnown : Mapped → Type 0
  IsKnown e = find_iso W.isos e.iso.name ≡ Some e.iso

  -- what the mapped formals give fits
  pub all_old_fit : (s : Name → Tm) → ((y : Name) → Fits W.functions (s y)) → Each (Fits W.functions) (all_in_old ms s)
  all_old_fit s f =
      each_to_map (Fits W.functions) (λ (e : Mapped). call1 e.iso.oldp (s e.formal)) ms
      (each_to IsKnown (λ (e : Mapped). Fits W.functions (call1 e.iso.oldp (s e.formal))) (λ e k. old_fits W sound ms known e.iso k (s e.formal) (f e.formal)) ms known)

  pub all_new_fit : Each (Fits W.functions) (all_in_new ms)
  all_new_fit =
      each_to_map (Fits W.functions) (λ (e : Mapped). call1 e.iso.newp (Var e.formal)) ms
      (each_to IsKnown (λ (e : Mapped). Fits W.functions (call1 e.iso.newp (Var e.formal))) (λ e k. new_fits W sound ms known e.iso k (Var e.formal) tt) ms known)

  pub forth_in_new_fit : Each (Fits W.functions) (forth_in_new ms)
  forth_in_new_fit =
      each_to_map (Fits W.functions) (λ (e : Mapped). call1 e.iso.newp (call1 e.iso.forth (Var e.formal))) ms
      (each_to IsKnown (λ (e : Mapped). Fits W.functions (call1 e.iso.newp (call1 e.iso.forth (Var e.formal))))
      (λ e k. new_fits W sound ms known e.iso k (call1 e.iso.forth (Var e.formal)) (forth_fits W sound ms known e.iso k (Var e.formal) tt)) ms known)

  pub back_in_old_fit : Each (Fits W.functions) (back_in_old ms)
  back_in_old_fit =
      each_to_map (Fits W.functions) (λ (e : Mapped). call1 e.iso.oldp (call1 e.iso.back (Var e.formal))) ms
      (each_to IsKnown (λ (e : Mapped). Fits W.functions (call1 e.iso.oldp (call1 e.iso.back (Var e.formal))))
      (λ e k. old_fits W sound ms known e.iso k (call1 e.iso.back (Var e.formal)) (back_fits W sound ms known e.iso k (Var e.formal) tt)) ms known)

  -- the terms of the pairs of `back` fit
  pub backs_fit : pairs_fit W.functions (backs ms) ≡ true
  backs_fit =
      pairs_fit_each W.functions (backs ms)
      (each_to_map (λ (p : Name × Tm). Fits W.functions p.1) (λ (e : Mapped). (e.formal, call1 e.iso.back (Var e.formal))) ms
      (each_to IsKnown (λ (e : Mapped). Fits W.functions (call1 e.iso.back (Var e.formal))) (λ e k. back_fits W sound ms known e.iso k (Var e.formal) tt) ms known))

  -- from the formals in the old representation: they go to the new one
  pub stays_new_proves : (us hs : List Tm) → Each (Within hs) (all_in_old ms Var) → Proves W us hs (conjunction (forth_in_new ms)) (stays_new ms)
  stays_new_proves us hs olds =
      let old : Mapped → Tm = λ e. call1 e.iso.oldp (Var e.formal) in
      let new : Mapped → Tm = λ e. call1 e.iso.newp (call1 e.iso.forth (Var e.formal)) in
      let P : Mapped → Proof = λ e. by_iso e.iso.name 1 (Var e.formal) in
      conjunction_proves W sound us hs (forth_in_new ms) (map P ms) forth_in_new_fit
      (each_proves W us hs new P ms
      (each_of_both IsKnown (λ (e : Mapped). Within hs (old e)) (λ (e : Mapped). Proves W us hs (new e) (P e))
      (λ e k w. image_proves W sound e.iso k us hs (Var e.formal) refl w) ms known (each_of_map (Within hs) old ms olds)))

  -- from the formals in the new representation: they come back to the old one
  pub each_back_proves : (us hs : List Tm) → Each (Within hs) (all_in_new ms) → EachProves W us hs (back_in_old ms) (each_back_in_old ms)
  each_back_proves us hs news =
      let new : Mapped → Tm = λ e. call1 e.iso.newp (Var e.formal) in
      let old : Mapped → Tm = λ e. call1 e.iso.oldp (call1 e.iso.back (Var e.formal)) in
      let P : Mapped → Proof = λ e. by_iso e.iso.name 2 (Var e.formal) in
      each_proves W us hs old P ms
      (each_of_both IsKnown (λ (e : Mapped). Within hs (new e)) (λ (e : Mapped). Proves W us hs (old e) (P e))
      (λ e k w. image_back_proves W sound e.iso k us hs (Var e.formal) refl w) ms known (each_of_map (Within hs) new ms news))

  pub all_back_prove : (us hs : List Tm) → Each (Within hs) (all_in_new ms) → Proves W us hs (conjunction (back_in_old ms)) (cut_each (each_back_in_old ms) (gathered (back_in_old ms)))
  all_back_prove us hs news = conjunction_proves W sound us hs (back_in_old ms) (each_back_in_old ms) back_in_old_fit (each_back_proves us hs news)
