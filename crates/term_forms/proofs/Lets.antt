-- Terms of `let` and `let*`, by their bindings.
use Rattle.std.proofs.Common.{◌≡◌, ◌<◌, ◌≤◌, ◌+◌, ℕ, zero, suc, max, List, [], ◌∷◌, ◌++◌, length, get_or, map, drop, Result, Ok, Err, refl, ap, sym, subst, ◌∙◌, arith}
use native.Mathlib.Numerals.{unary_clauses}
use Rattle.std.specs.List.{zip}
use Rattle.std.proofs.lemmas.List.{drop_all}
use Rattle.lisp_data.specs.Values.{Name}
use Rattle.lisp_data.specs.Datum.{Datum, nil_form, chain, depth}
use Rattle.lisp_data.specs.FormView.{form_of, IsProper}
use Rattle.lisp_data.specs.declared.code.Code.{Code}
use Rattle.lisp_data.specs.declared.detail.Detail.{Detail}
use Rattle.term_forms.specs.declared.translation.TermError.{TermError}
use Rattle.term_forms.specs.declared.translation.TermError.TheVariants.{Refused, Memory}
use Rattle.term_forms.specs.declared.bindings.Binding.{Binding}
use Rattle.terms.specs.Terms.{Tm, substitute}
use Rattle.terms.specs.Substitution.{Pairs, by_pairs}
use Rattle.term_forms.specs.Translation.{Takes, Scope, Outcome, and_then, map_outcome, and_rest, limited, let_of, bound_names, bound_terms, in_turn, distinct_after, with_names, translate}
use Rattle.term_forms.specs.view.TranslationView.{SaysOutcome}
use Rattle.term_forms.specs.Bindings.{names_of, binding_form, replaced_by, AreAllProper, SaysBindings}
use Rattle.term_forms.specs.Lets.{let_outcome, in_turn_outcome, after_bindings}
use Rattle.term_forms.specs.Outcomes.{each}
use Rattle.term_forms.specs.Words.{folded}
use Rattle.term_forms.proofs.Each.{each-more, each-refused, each-end, each-length}

-- how deep the forms of bindings are
abbrev pub deepest_bound : List Binding → ℕ
deepest_bound [] = 0
deepest_bound (b ∷ bs) = max (depth (form_of b.form.now) + 1) (deepest_bound bs)

pub bound-below : (bs : List Binding) (d : Datum) → d ≡ chain (map binding_form bs) nil_form → deepest_bound bs ≤ depth d
bound-below bs d e = omega (arith, below bs, ap depth e)
  where
    below : (bs : List Binding) → deepest_bound bs ≤ depth (chain (map binding_form bs) nil_form)
    below [] = omega arith
    below (b ∷ bs) = omega (arith, below bs)

pub bound-at : (bs : List Binding) (i : ℕ) (d : Binding) → i < length bs → depth (form_of (get_or bs i d).form.now) < deepest_bound bs
bound-at [] i d h = absurd (omega arith)
bound-at (b ∷ bs) zero d h = omega arith
bound-at (b ∷ bs) (suc i) d h = omega (arith, bound-at bs i d (omega arith))

pub proper-bound : (bs : List Binding) (i : ℕ) (d : Binding) → i < length bs → AreAllProper bs → IsProper (get_or bs i d).form.now
proper-bound [] i d h p = absurd (omega arith)
proper-bound (b ∷ bs) zero d h p = p.0
proper-bound (b ∷ bs) (suc i) d h p = proper-bound bs i d (omega arith) p.1

pub ruleset terms = (each-more, each-refused, each-end, bound-at, proper-bound)

module _ (takes : Takes) (scope : Scope) where
  abbrev pub part_of : Binding → Outcome Tm
  part_of b = translate takes scope (form_of b.form.now)

  bound-each : (bs : List Binding) → bound_terms takes scope (chain (map binding_form bs) nil_form) ≡ each part_of bs
  bound-each [] = refl
  bound-each (b ∷ bs) = ap (and_rest (part_of b)) (bound-each bs)

  module _ (d body : Datum) where
    -- what is done with names, distinctness and terms
    abbrev whole : Outcome (List Name) → Outcome (List Tm) → Outcome Tm
    whole names bound = and_then (let_of scope names bound (λ inner. translate takes inner body)) limited

    pub names-refused : (e : TermError) → SaysOutcome {A = List Name} (bound_names d) (Err e) → SaysOutcome {A = Tm} (let_outcome takes scope d body) (Err e)
    names-refused (Refused code detail) says = ap (λ o. whole o (bound_terms takes scope d)) says
    names-refused Memory says = tt

    module _ (bs : List Binding) (says : SaysBindings d (Ok bs)) where
      named : let_outcome takes scope d body ≡ whole (Ok (names_of bs)) (each part_of bs)
      named = ap (λ o. whole o (bound_terms takes scope d)) says.0 ∙ ap (whole (Ok (names_of bs))) (ap (bound_terms takes scope) says.1 ∙ bound-each bs)

      pub repeat-refused : (e : TermError) → SaysOutcome {A = Unit {0}} (distinct_after [] (names_of bs)) (Err e) → SaysOutcome {A = Tm} (let_outcome takes scope d body) (Err e)
      repeat-refused (Refused code detail) h =
          named ∙ ap (λ (o : Outcome (Unit {0})). and_then (and_then o (λ u. and_then (each part_of bs) (λ ts.
          map_outcome (substitute (by_pairs (zip (names_of bs) ts))) (translate takes (with_names (names_of bs) scope) body)))) limited) h
      repeat-refused Memory h = tt

      module _ (u : Unit {0}) (fresh : distinct_after [] (names_of bs) ≡ Ok u) where
        distinct : let_outcome takes scope d body ≡ and_then (and_then (each part_of bs) (λ ts.
            map_outcome (substitute (by_pairs (zip (names_of bs) ts))) (translate takes (with_names (names_of bs) scope) body))) limited
        distinct =
            named ∙ ap (λ (o : Outcome (Unit {0})). and_then (and_then o (λ u. and_then (each part_of bs) (λ ts.
            map_outcome (substitute (by_pairs (zip (names_of bs) ts))) (translate takes (with_names (names_of bs) scope) body)))) limited) fresh

        pub terms-refused : (e : TermError) → SaysOutcome {A = List Tm} (each part_of bs) (Err e) → SaysOutcome {A = Tm} (let_outcome takes scope d body) (Err e)
        terms-refused (Refused code detail) h =
            distinct ∙ ap (λ (o : Outcome (List Tm)). and_then (and_then o (λ ts.
            map_outcome (substitute (by_pairs (zip (names_of bs) ts))) (translate takes (with_names (names_of bs) scope) body))) limited) h
        terms-refused Memory h = tt

        module _ (ts : List Tm) (found : each part_of bs ≡ Ok ts) (inner : Scope) (grown : inner ≡ with_names (names_of bs) scope) where
          known : let_outcome takes scope d body ≡ and_then (map_outcome (substitute (by_pairs (zip (names_of bs) ts))) (translate takes inner body)) limited
          known =
              distinct ∙ ap (λ (o : Outcome (List Tm)). and_then (and_then o (λ ts.
              map_outcome (substitute (by_pairs (zip (names_of bs) ts))) (translate takes (with_names (names_of bs) scope) body))) limited) found
              ∙ ap (λ (s : Scope). and_then (map_outcome (substitute (by_pairs (zip (names_of bs) ts))) (translate takes s body)) limited) (sym grown)

          pub body-refused : (e : TermError) → SaysOutcome {A = Tm} (translate takes inner body) (Err e) → SaysOutcome {A = Tm} (let_outcome takes scope d body) (Err e)
          body-refused (Refused code detail) h = known ∙ ap (λ o. and_then (map_outcome (substitute (by_pairs (zip (names_of bs) ts))) o) limited) h
          body-refused Memory h = tt

          pub let-taken : (t : Tm) (us : List Tm) (r : Result Tm TermError) → translate takes inner body ≡ Ok t → us ≡ ts →
              SaysOutcome {A = Tm} (limited (substitute (by_pairs (zip (names_of bs) us)) t)) r → SaysOutcome {A = Tm} (let_outcome takes scope d body) r
          let-taken t us r h q says-r =
              let same : limited (substitute (by_pairs (zip (names_of bs) us)) t) ≡ let_outcome takes scope d body =
              ap (λ (us : List Tm). limited (substitute (by_pairs (zip (names_of bs) us)) t)) q ∙ sym (known ∙ ap (λ o. and_then (map_outcome (substitute (by_pairs (zip (names_of bs) ts))) o) limited) h) in
              subst (λ (o : Outcome Tm). SaysOutcome {A = Tm} o r) same says-r

pub ruleset lets = (bound-below, each-length)

abbrev pub wrapped : Pairs → Outcome Tm → Outcome Tm
wrapped [] o = o
wrapped (p ∷ ps) o = map_outcome (replaced_by p) (wrapped ps o)

wrapped-push : (ps : Pairs) (p : Name × Tm) (o : Outcome Tm) → wrapped (ps ++ p ∷ []) o ≡ wrapped ps (map_outcome (replaced_by p) o)
wrapped-push [] p o = refl
wrapped-push (q ∷ ps) p o = ap (map_outcome (replaced_by q)) (wrapped-push ps p o)

wrapped-refused : (ps : Pairs) (e : Code × Detail) → wrapped ps (Err e) ≡ Err e
wrapped-refused [] e = refl
wrapped-refused (p ∷ ps) e = ap (map_outcome (replaced_by p)) (wrapped-refused ps e)

wrapped-taken : (ps : Pairs) (t : Tm) → wrapped ps (Ok t) ≡ Ok (folded replaced_by ps t)
wrapped-taken [] t = refl
wrapped-taken (p ∷ ps) t = ap (map_outcome (replaced_by p)) (wrapped-taken ps t)

drop-at : (bs : List Binding) (i : ℕ) (b : Binding) → i < length bs → b ≡ get_or bs i b → drop i bs ≡ b ∷ drop (i + 1) bs
drop-at [] i b h e = absurd (omega arith)
drop-at (c ∷ bs) zero b h e = ap (λ (b : Binding). b ∷ bs) (sym e)
drop-at (c ∷ bs) (suc i) b h e = simp unary_clauses (simp unary_clauses at (drop-at bs i b (omega arith) e))

module _ (takes : Takes) (body : Datum) where
  -- what comes of the bindings from a place on, in what those before it replace
  abbrev pub from : Scope → Pairs → List Binding → ℕ → Outcome Tm
  from s ps bs i = wrapped ps (after_bindings takes s (drop i bs) body)

  from-at : (s : Scope) (ps : Pairs) (bs : List Binding) (i : ℕ) (b : Binding) → i < length bs → b ≡ get_or bs i b →
      from s ps bs i ≡ wrapped ps (and_then (part_of takes s b) (λ t. map_outcome (replaced_by (b.name, t)) (after_bindings takes (with_names (b.name ∷ []) s) (drop (i + 1) bs) body)))
  from-at s ps bs i b h e = ap (λ (cs : List Binding). wrapped ps (after_bindings takes s cs body)) (drop-at bs i b h e)

  pub turn-refused : (s : Scope) (ps : Pairs) (bs : List Binding) (i : ℕ) (b : Binding) (all : Outcome Tm) (e : TermError) → i < length bs → b ≡ get_or bs i b → from s ps bs i ≡ all →
      SaysOutcome {A = Tm} (part_of takes s b) (Err e) → SaysOutcome {A = Tm} (and_then all limited) (Err e)
  turn-refused s ps bs i b all (Refused code detail) h k p says =
      ap (λ o. and_then o limited) (sym p ∙ from-at s ps bs i b h k
      ∙ ap (λ (o : Outcome Tm). wrapped ps (and_then o (λ t. map_outcome (replaced_by (b.name, t)) (after_bindings takes (with_names (b.name ∷ []) s) (drop (i + 1) bs) body)))) says
      ∙ wrapped-refused ps (code, detail))
  turn-refused s ps bs i b all Memory h k p says = tt

  pub turn-taken : (s z : Scope) (ps qs : Pairs) (bs : List Binding) (i : ℕ) (b : Binding) (t u : Tm) (x y : Name) (all : Outcome Tm) → i < length bs → b ≡ get_or bs i b → from s ps bs i ≡ all →
      part_of takes s b ≡ Ok t → x ≡ b.name → y ≡ b.name → u ≡ t → qs ≡ ps ++ (x, u) ∷ [] → z ≡ with_names (y ∷ []) s → from z qs bs (i + 1) ≡ all
  turn-taken s z ps qs bs i b t u x y all h k p found xs ys us q grown =
      let rest : Scope → Outcome Tm = λ s. after_bindings takes s (drop (i + 1) bs) body in
      ap (λ (qs : Pairs). wrapped qs (rest z)) (q ∙ (λ j. ps ++ (xs j, us j) ∷ [])) ∙ wrapped-push ps (b.name, t) (rest z)
      ∙ ap (λ (s : Scope). wrapped ps (map_outcome (replaced_by (b.name, t)) (rest s))) (grown ∙ ap (λ y. with_names (y ∷ []) s) ys)
      ∙ sym (ap (λ (o : Outcome Tm). wrapped ps (and_then o (λ t. map_outcome (replaced_by (b.name, t)) (rest (with_names (b.name ∷ []) s))))) found)
      ∙ sym (from-at s ps bs i b h k) ∙ p

  from-end : (s : Scope) (ps : Pairs) (bs : List Binding) (i : ℕ) → length bs ≤ i → from s ps bs i ≡ wrapped ps (translate takes s body)
  from-end s ps bs i h = ap (λ (cs : List Binding). wrapped ps (after_bindings takes s cs body)) (drop_all i bs h)

  pub last-refused : (s : Scope) (ps : Pairs) (bs : List Binding) (i : ℕ) (all : Outcome Tm) (e : TermError) → length bs ≤ i → from s ps bs i ≡ all →
      SaysOutcome {A = Tm} (translate takes s body) (Err e) → SaysOutcome {A = Tm} (and_then all limited) (Err e)
  last-refused s ps bs i all (Refused code detail) h p says =
      ap (λ o. and_then o limited) (sym p ∙ from-end s ps bs i h ∙ ap (wrapped ps) says ∙ wrapped-refused ps (code, detail))
  last-refused s ps bs i all Memory h p says = tt

  pub last-taken : (s : Scope) (ps : Pairs) (bs : List Binding) (i : ℕ) (all : Outcome Tm) (t : Tm) (r : Result Tm TermError) → length bs ≤ i → from s ps bs i ≡ all →
      translate takes s body ≡ Ok t → SaysOutcome {A = Tm} (limited (folded replaced_by ps t)) r → SaysOutcome {A = Tm} (and_then all limited) r
  last-taken s ps bs i all t r h p found says =
      subst (λ (o : Outcome Tm). SaysOutcome {A = Tm} (and_then o limited) r) (sym (sym p ∙ from-end s ps bs i h ∙ ap (wrapped ps) found ∙ wrapped-taken ps t)) says

module _ (takes : Takes) (scope : Scope) (d body : Datum) where
  pub names-refused_in_turn : (e : TermError) → SaysOutcome {A = List Name} (bound_names d) (Err e) → SaysOutcome {A = Tm} (in_turn_outcome takes scope d body) (Err e)
  names-refused_in_turn (Refused code detail) says =
      ap (λ (o : Outcome (List Name)). and_then (and_then o (λ names. in_turn takes scope d (λ inner. translate takes inner body))) limited) says
  names-refused_in_turn Memory says = tt

  pub named-in_turn : (bs : List Binding) (r : Result Tm TermError) → SaysBindings d (Ok bs) →
      SaysOutcome {A = Tm} (and_then (after_bindings takes scope bs body) limited) r → SaysOutcome {A = Tm} (in_turn_outcome takes scope d body) r
  named-in_turn bs r h says =
      subst (λ (o : Outcome Tm). SaysOutcome {A = Tm} o r)
      (ap (λ (d : Datum). and_then (in_turn takes scope d (λ inner. translate takes inner body)) limited) (sym h.1)
      ∙ sym (ap (λ (o : Outcome (List Name)). and_then (and_then o (λ names. in_turn takes scope d (λ inner. translate takes inner body))) limited) h.0)) says

pub ruleset lists_in_turn = (bound-below, names-refused_in_turn)

pub ruleset turns = (bound-at, proper-bound)
