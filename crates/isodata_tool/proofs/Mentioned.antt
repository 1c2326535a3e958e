-- Where the new function is called, and that none of its calls stands in another one.
use Rattle.std.proofs.Common.{◌≡◌, ℕ, Bool, true, false, cond, ◌&&◌, ◌||◌, List, [], ◌∷◌, bytes_eq, Option, Some, None, IfSome, refl, ap, ap₂, ◌∙◌, subst}
use Rattle.std.proofs.lemmas.Bool.{or_parts}
use Rattle.lisp_data.specs.Values.{Name}
use Rattle.terms.specs.Measures.{mentions, mentions_in, is_nested, is_nested_in}
use Rattle.terms.specs.Terms.{Tm, Var, Quote, Call, Tms, Done, More, count, Over, OverAll, substitute, substitute_all}
use Rattle.terms.specs.Worlds.{Functions, Each, arity}
use Rattle.terms.proofs.Names.{same_name, name_self}
use Rattle.isodata_tool.specs.Carried.{Mapped, find_map, back_by, forth_by, with_back, all_forth, with_new_calls, all_with_new_calls}
use Rattle.isodata_tool.proofs.Kept.{of_found}

-- a term that fits mentions no unknown name
module _ (F : Functions) (g : Name) (new : arity F g ≡ None) where
  pub unknown : (h : Name) (k : ℕ) → arity F h ≡ Some k → bytes_eq g h ≡ false
  unknown h k a = by_test (bytes_eq g h) refl
    where
      by_test : (b : Bool) → bytes_eq g h ≡ b → b ≡ false
      by_test false e = refl
      by_test true e = let n : arity F h ≡ None = subst (λ x. arity F x ≡ None) (same_name g h e) new in absurd (cc)

  module _ (P : Name → Type 0) where
    mutual
      pub lacks : (t : Tm) → Over P (λ h k. arity F h ≡ Some k) t → mentions g t ≡ false
      lacks (Var x) o = refl
      lacks (Quote v) o = refl
      lacks (Call h ts) o = ap (λ b. b || mentions_in g ts) (unknown h (count ts) o.0) ∙ lacks_all ts o.1

      pub lacks_all : (ts : Tms) → OverAll P (λ h k. arity F h ≡ Some k) ts → mentions_in g ts ≡ false
      lacks_all Done o = refl
      lacks_all (More t ts) o = ap (λ b. b || mentions_in g ts) (lacks t o.0) ∙ lacks_all ts o.1

pub or_none : (b : Bool) → (b || false) ≡ b
or_none true = refl
or_none false = refl

module _ (g : Name) where
  -- a term without calls of g has none within another
  mutual
    pub no_nest : (t : Tm) → mentions g t ≡ false → is_nested g t ≡ false
    no_nest (Var x) m = refl
    no_nest (Quote v) m = refl
    no_nest (Call h ts) m =
        let r = or_parts (bytes_eq g h) (mentions_in g ts) m in
        ap (λ b. (b && mentions_in g ts) || is_nested_in g ts) r.0 ∙ no_nest_in ts r.1

    pub no_nest_in : (ts : Tms) → mentions_in g ts ≡ false → is_nested_in g ts ≡ false
    no_nest_in Done m = refl
    no_nest_in (More t ts) m =
        let r = or_parts (mentions g t) (mentions_in g ts) m in
        ap (λ b. b || is_nested_in g ts) (no_nest t r.0) ∙ no_nest_in ts r.1

  -- terms without g for the variables add no call of it
  module _ (s : Name → Tm) (without : (x : Name) → mentions g (s x) ≡ false) where
    mutual
      pub mentions_under : (t : Tm) → mentions g (substitute s t) ≡ mentions g t
      mentions_under (Var x) = without x
      mentions_under (Quote v) = refl
      mentions_under (Call h ts) = ap (λ b. bytes_eq g h || b) (mentions_all_under ts)

      pub mentions_all_under : (ts : Tms) → mentions_in g (substitute_all s ts) ≡ mentions_in g ts
      mentions_all_under Done = refl
      mentions_all_under (More t ts) = ap₂ (λ a b. a || b) (mentions_under t) (mentions_all_under ts)

    mutual
      pub nested_under : (t : Tm) → is_nested g (substitute s t) ≡ is_nested g t
      nested_under (Var x) = no_nest (s x) (without x)
      nested_under (Quote v) = refl
      nested_under (Call h ts) = ap₂ (λ a b. (bytes_eq g h && a) || b) (mentions_all_under ts) (nested_all_under ts)

      pub nested_all_under : (ts : Tms) → is_nested_in g (substitute_all s ts) ≡ is_nested_in g ts
      nested_all_under Done = refl
      nested_all_under (More t ts) = ap₂ (λ a b. a || b) (nested_under t) (nested_all_under ts)

  -- the isomorphisms' functions are others
  back_lacks : (o : Option Mapped) → IfSome o (λ e. bytes_eq g e.iso.back ≡ false) → (x : Name) → mentions g (back_by o (Var x)) ≡ false
  back_lacks None h x = refl
  back_lacks (Some e) h x = ap (λ b. b || false) h

  forth_lacks : (o : Option Mapped) → IfSome o (λ e. bytes_eq g e.iso.forth ≡ false) → (t : Tm) → mentions g t ≡ false → mentions g (forth_by o t) ≡ false
  forth_lacks None h t m = m
  forth_lacks (Some e) h t m = ap₂ (λ a b. a || (b || false)) h m

  module _ (ms : List Mapped) where
    pub lacks_back : Each (λ e. bytes_eq g e.iso.back ≡ false) ms → (x : Name) → mentions g (with_back ms x) ≡ false
    lacks_back h x = back_lacks (find_map ms x) (of_found (λ e. bytes_eq g e.iso.back ≡ false) ms h x) x

    module _ (forths : Each (λ e. bytes_eq g e.iso.forth ≡ false) ms) where
      pub lacks_forth : (xs : List Name) (ts : Tms) → mentions_in g ts ≡ false → mentions_in g (all_forth ms xs ts) ≡ false
      lacks_forth [] ts m = m
      lacks_forth (x ∷ xs) Done m = refl
      lacks_forth (x ∷ xs) (More t ts) m =
          let r = or_parts (mentions g t) (mentions_in g ts) m in
          ap₂ (λ a b. a || b) (forth_lacks (find_map ms x) (of_found (λ e. bytes_eq g e.iso.forth ≡ false) ms forths x) t r.0) (lacks_forth xs ts r.1)

      module _ (f : Name) (xs : List Name) where
        -- the new function is called where the old one was
        mutual
          pub mentions_called : (t : Tm) → mentions g t ≡ false → mentions g (with_new_calls f g ms xs t) ≡ mentions f t
          mentions_called (Var x) m = refl
          mentions_called (Quote v) m = refl
          mentions_called (Call h ts) m =
              let r = or_parts (bytes_eq g h) (mentions_in g ts) m in
              by_test (bytes_eq f h) r.0 (mentions_all_called ts r.1)
            where
              by_test : (b : Bool) → bytes_eq g h ≡ false → mentions_in g (all_with_new_calls f g ms xs ts) ≡ mentions_in f ts → mentions g (cond b (Call g (all_forth ms xs ts)) (Call h (all_with_new_calls f g ms xs ts))) ≡ (b || mentions_in f ts)
              by_test true n ih = ap (λ b. b || mentions_in g (all_forth ms xs ts)) (name_self g)
              by_test false n ih = ap₂ (λ a b. a || b) n ih

          pub mentions_all_called : (ts : Tms) → mentions_in g ts ≡ false → mentions_in g (all_with_new_calls f g ms xs ts) ≡ mentions_in f ts
          mentions_all_called Done m = refl
          mentions_all_called (More t ts) m =
              let r = or_parts (mentions g t) (mentions_in g ts) m in
              ap₂ (λ a b. a || b) (mentions_called t r.0) (mentions_all_called ts r.1)

        -- no call of it stands in another one
        mutual
          pub nested_called : (t : Tm) → mentions g t ≡ false → is_nested g (with_new_calls f g ms xs t) ≡ false
          nested_called (Var x) m = refl
          nested_called (Quote v) m = refl
          nested_called (Call h ts) m =
              let r = or_parts (bytes_eq g h) (mentions_in g ts) m in
              by_test (bytes_eq f h) r.0 (lacks_forth xs ts r.1) (nested_all_called ts r.1)
            where
              by_test : (b : Bool) → bytes_eq g h ≡ false → mentions_in g (all_forth ms xs ts) ≡ false → is_nested_in g (all_with_new_calls f g ms xs ts) ≡ false → is_nested g (cond b (Call g (all_forth ms xs ts)) (Call h (all_with_new_calls f g ms xs ts))) ≡ false
              by_test true n l ih =
                  ap (λ b. (b && mentions_in g (all_forth ms xs ts)) || is_nested_in g (all_forth ms xs ts)) (name_self g)
                  ∙ ap₂ (λ a b. a || b) l (no_nest_in (all_forth ms xs ts) l)
              by_test false n l ih = ap (λ b. (b && mentions_in g (all_with_new_calls f g ms xs ts)) || is_nested_in g (all_with_new_calls f g ms xs ts)) n ∙ ih

          pub nested_all_called : (ts : Tms) → mentions_in g ts ≡ false → is_nested_in g (all_with_new_calls f g ms xs ts) ≡ false
          nested_all_called Done m = refl
          nested_all_called (More t ts) m =
              let r = or_parts (mentions g t) (mentions_in g ts) m in
              ap₂ (λ a b. a || b) (nested_called t r.0) (nested_all_called ts r.1)
