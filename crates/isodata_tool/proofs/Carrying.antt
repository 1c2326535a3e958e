-- The recursive calls of the new function are those of the old one, carried over.
use Rattle.std.proofs.Common.{◌≡◌, Bool, true, false, cond, not, ◌&&◌, List, [], ◌∷◌, ◌++◌, map, bytes_eq, codes, refl, sym, ap, ap₂, ◌∙◌}
use Rattle.std.proofs.lemmas.Bool.{or_parts}
use Rattle.std.proofs.lemmas.List.{append-nil, append_assoc, map-append}
use Rattle.lisp_data.specs.Values.{Name}
use Rattle.terms.specs.BuiltIn.{no}
use Rattle.terms.specs.Links.{conjunction}
use Rattle.terms.specs.Measures.{mentions, mentions_in, is_nested, is_nested_in, call1, RecursiveCall, Place, Plain, Test, Then, Else, tests_at, next, first_place, recursive_calls, recursive_calls_in}
use Rattle.terms.specs.Terms.{Tm, Var, Quote, Call, Tms, Done, More, substitute, substitute_all}
use Rattle.terms.specs.Worlds.{Each}
use Rattle.terms.specs.declared.definition.Definition.{Definition}
use Rattle.terms.proofs.Names.{name_self}
use Rattle.proof_builders.proofs.Schemes.{no_calls}
use Rattle.isodata_tool.specs.Carried.{Mapped, with_back, all_forth, all_in_new, with_new_calls, all_with_new_calls, new_body, carried_over}
use Rattle.isodata_tool.proofs.Mentioned.{mentions_under, mentions_all_under, lacks_back, lacks_forth, mentions_called}

-- terms without calls of g have none that are recursive
no_calls_in : (g : Name) (ts : Tms) (p : Place) (tests : List Tm) → mentions_in g ts ≡ false → recursive_calls_in g p tests ts ≡ []
no_calls_in g Done p tests m = refl
no_calls_in g (More t ts) p tests m =
    let r = or_parts (mentions g t) (mentions_in g ts) m in
    ap (λ cs. cs ++ recursive_calls_in g (next p) tests ts) (no_calls g t (tests_at p tests) r.0) ∙ no_calls_in g ts (next p) tests r.1

-- A call of the old function, as one of the new function: with tests before its own, its arguments on the new
-- representation, and terms for the variables.
abbrev pub carried : List Tm → (Name → Tm) → List Mapped → List Name → RecursiveCall → RecursiveCall
carried pre s ms xs c = record { tests = pre ++ map (substitute s) c.tests; args = substitute_all s (all_forth ms xs c.args) }

-- where there is no call of f there is none of g
module _ (f g : Name) (ms : List Mapped) (xs : List Name) where
  mutual
    pub called_same : (t : Tm) → mentions f t ≡ false → with_new_calls f g ms xs t ≡ t
    called_same (Var x) e = refl
    called_same (Quote v) e = refl
    called_same (Call h ts) e =
        let r = or_parts (bytes_eq f h) (mentions_in f ts) e in
        ap (λ b. cond b (Call g (all_forth ms xs ts)) (Call h (all_with_new_calls f g ms xs ts))) r.0 ∙ ap (Call h) (all_called_same ts r.1)

    pub all_called_same : (ts : Tms) → mentions_in f ts ≡ false → all_with_new_calls f g ms xs ts ≡ ts
    all_called_same Done e = refl
    all_called_same (More t ts) e =
        let r = or_parts (mentions f t) (mentions_in f ts) e in
        ap₂ More (called_same t r.0) (all_called_same ts r.1)

-- terms for the variables, where an argument stands
place_under : (Name → Tm) → Place → Place
place_under s Plain = Plain
place_under s (Test c) = Test (substitute s c)
place_under s (Then c) = Then (substitute s c)
place_under s (Else c) = Else (substitute s c)

next_under : (s : Name → Tm) (p : Place) → next (place_under s p) ≡ place_under s (next p)
unfolding place_under
next_under s Plain = refl
next_under s (Test c) = refl
next_under s (Then c) = refl
next_under s (Else c) = refl

at_under : (pre : List Tm) (s : Name → Tm) (p : Place) (tests : List Tm) → tests_at (place_under s p) (pre ++ map (substitute s) tests) ≡ pre ++ map (substitute s) (tests_at p tests)
unfolding place_under
at_under pre s Plain tests = refl
at_under pre s (Test c) tests = refl
at_under pre s (Then c) tests = append_assoc pre (map (substitute s) tests) (substitute s c ∷ []) ∙ ap (λ us. pre ++ us) (sym (map-append (substitute s) tests (c ∷ [])))
at_under pre s (Else c) tests = append_assoc pre (map (substitute s) tests) (call1 (codes "NOT") (substitute s c) ∷ []) ∙ ap (λ us. pre ++ us) (sym (map-append (substitute s) tests (call1 (codes "NOT") c ∷ [])))

-- g for f under a substitution that brings no g
module _ (g : Name) (ms : List Mapped) (forths : Each (λ e. bytes_eq g e.iso.forth ≡ false) ms) (s : Name → Tm) (without : (x : Name) → mentions g (s x) ≡ false) (f : Name) (xs : List Name) where
  mentions_renewed : (t : Tm) → mentions g t ≡ false → mentions g (substitute s (with_new_calls f g ms xs t)) ≡ mentions f t
  mentions_renewed t e = mentions_under g s without (with_new_calls f g ms xs t) ∙ mentions_called g ms forths f xs t e

  -- a test that rules a branch has no f, so that it is only put under the substitution
  place_renewed : (h : Name) (ts : Tms) → mentions_in g ts ≡ false → first_place g h (substitute_all s (all_with_new_calls f g ms xs ts)) ≡ place_under s (first_place f h ts)
  unfolding place_under
  place_renewed h Done e = refl
  place_renewed h (More c ts) e =
      let r = or_parts (mentions g c) (mentions_in g ts) e in
      ap (λ b. cond (bytes_eq (codes "IF") h && not b) (Test (substitute s (with_new_calls f g ms xs c))) Plain) (mentions_renewed c r.0) ∙ by_test (mentions f c) refl (bytes_eq (codes "IF") h)
    where
      by_test : (b : Bool) → mentions f c ≡ b → (x : Bool) → cond (x && not b) (Test (substitute s (with_new_calls f g ms xs c))) Plain ≡ place_under s (cond (x && not b) (Test c) Plain)
      by_test true e' true = refl
      by_test true e' false = refl
      by_test false e' true = ap (λ t. Test (substitute s t)) (called_same f g ms xs c e')
      by_test false e' false = refl

  module _ (pre : List Tm) where
    abbrev there : List Tm → List Tm
    there tests = pre ++ map (substitute s) tests

    -- the calls of g are those of f, carried over
    mutual
      pub calls_carried : (t : Tm) (tests : List Tm) → mentions g t ≡ false → is_nested f t ≡ false → recursive_calls g (pre ++ map (substitute s) tests) (substitute s (with_new_calls f g ms xs t)) ≡ map (carried pre s ms xs) (recursive_calls f tests t)
      calls_carried (Var x) tests e n = no_calls g (s x) (pre ++ map (substitute s) tests) (without x)
      calls_carried (Quote v) tests e n = refl
      calls_carried (Call h ts) tests e n =
          let r = or_parts (bytes_eq g h) (mentions_in g ts) e in
          let q = or_parts (bytes_eq f h && mentions_in f ts) (is_nested_in f ts) n in
          by_test (bytes_eq f h) r.0 (mentions_all_under g s without (all_forth ms xs ts) ∙ lacks_forth g ms forths xs ts r.1) q.0
          (ap (λ p. recursive_calls_in g p (pre ++ map (substitute s) tests) (substitute_all s (all_with_new_calls f g ms xs ts))) (place_renewed h ts r.1) ∙ calls_in_carried ts (first_place f h ts) tests r.1 q.1)
        where
          own_call : (us : Tms) → mentions_in g us ≡ false → recursive_calls g (there tests) (Call g us) ≡ record { tests = there tests; args = us } ∷ []
          own_call us l = ap₂ (λ b cs. cond b (record { tests = there tests; args = us } ∷ []) [] ++ cs) (name_self g) (no_calls_in g us (first_place g g us) (there tests) l)

          by_test : (b : Bool) → bytes_eq g h ≡ false → mentions_in g (substitute_all s (all_forth ms xs ts)) ≡ false → (b && mentions_in f ts) ≡ false →
              recursive_calls_in g (first_place g h (substitute_all s (all_with_new_calls f g ms xs ts))) (there tests) (substitute_all s (all_with_new_calls f g ms xs ts)) ≡ map (carried pre s ms xs) (recursive_calls_in f (first_place f h ts) tests ts) →
              recursive_calls g (there tests) (substitute s (cond b (Call g (all_forth ms xs ts)) (Call h (all_with_new_calls f g ms xs ts)))) ≡ map (carried pre s ms xs) (cond b (record { tests = tests; args = ts } ∷ []) [] ++ recursive_calls_in f (first_place f h ts) tests ts)
          by_test true k l flat ih =
              own_call (substitute_all s (all_forth ms xs ts)) l
              ∙ ap (λ cs. record { tests = there tests; args = substitute_all s (all_forth ms xs ts) } ∷ map (carried pre s ms xs) cs) (sym (no_calls_in f ts (first_place f h ts) tests flat))
          by_test false k l flat ih =
              let us : Tms = substitute_all s (all_with_new_calls f g ms xs ts) in
              ap (λ b. cond b (record { tests = there tests; args = us } ∷ []) [] ++ recursive_calls_in g (first_place g h us) (there tests) us) k
              ∙ ih

      calls_in_carried : (ts : Tms) (p : Place) (tests : List Tm) → mentions_in g ts ≡ false → is_nested_in f ts ≡ false → recursive_calls_in g (place_under s p) (pre ++ map (substitute s) tests) (substitute_all s (all_with_new_calls f g ms xs ts)) ≡ map (carried pre s ms xs) (recursive_calls_in f p tests ts)
      calls_in_carried Done p tests e n = refl
      calls_in_carried (More t ts) p tests e n =
          let r = or_parts (mentions g t) (mentions_in g ts) e in
          let q = or_parts (is_nested f t) (is_nested_in f ts) n in
          let a = ap (λ us. recursive_calls g us (substitute s (with_new_calls f g ms xs t))) (at_under pre s p tests) ∙ calls_carried t (tests_at p tests) r.0 q.0 in
          let b = ap (λ z. recursive_calls_in g z (pre ++ map (substitute s) tests) (substitute_all s (all_with_new_calls f g ms xs ts))) (next_under s p) ∙ calls_in_carried ts (next p) tests r.1 q.1 in
          ap₂ (λ cs ds. cs ++ ds) a b
          ∙ sym (map-append (carried pre s ms xs) (recursive_calls f (tests_at p tests) t) (recursive_calls_in f (next p) tests ts))

-- The new function's calls: each has a first test, that the formals are in the new representation.
pub new_calls : (d : Definition) (g : Name) (ms : List Mapped) → bytes_eq g (codes "IF") ≡ false → mentions g (conjunction (all_in_new ms)) ≡ false →
    Each (λ e. bytes_eq g e.iso.back ≡ false) ms → Each (λ e. bytes_eq g e.iso.forth ≡ false) ms → mentions g d.body ≡ false → is_nested d.name d.body ≡ false →
    recursive_calls g [] (carried_over d g ms).body ≡ map (carried (conjunction (all_in_new ms) ∷ []) (with_back ms) ms d.formals) (recursive_calls d.name [] d.body)
new_calls d g ms not_if lacks_test backs forths lacks flat =
    let c : Tm = conjunction (all_in_new ms) in
    let ts = More c (More (new_body d g ms) (More no Done)) in
    ap₂ (λ a b. cond a (record { tests = []; args = ts } ∷ []) [] ++ recursive_calls_in g (cond (not b) (Test c) Plain) [] ts) not_if lacks_test
    ∙ ap (λ cs. cs ++ (recursive_calls g (c ∷ []) (new_body d g ms) ++ [])) (no_calls g c [] lacks_test)
    ∙ append-nil (recursive_calls g (c ∷ []) (new_body d g ms))
    ∙ calls_carried g ms forths (with_back ms) (lacks_back g ms backs) d.name d.formals (c ∷ []) d.body [] lacks flat
