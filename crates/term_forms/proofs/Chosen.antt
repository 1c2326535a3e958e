-- Terms of `cond`, by its clauses.
use Rattle.std.proofs.Common.{◌≡◌, ◌<◌, Bool, true, false, bytes_eq, codes, List, Option, Some, None, Ok, Err, if◌then◌else◌, refl, ap, sym, ◌∙◌, arith}
use Rattle.lisp_data.specs.Datum.{Datum, IntForm, SymForm, TextForm, PairForm, depth}
use Rattle.term_forms.specs.declared.translation.TermError.{TermError}
use Rattle.term_forms.specs.declared.translation.TermError.TheVariants.{Refused, Memory}
use Rattle.terms.specs.Terms.{Tm}
use Rattle.term_forms.specs.Translation.{Takes, Scope, Outcome, Clause, and_then, map_outcome, bad_form, limited, translate, clause, is_t, chosen}
use Rattle.term_forms.specs.view.TranslationView.{SaysOutcome}
use Rattle.term_forms.specs.Shapes.{pair_of}
use Rattle.term_forms.specs.Outcomes.{each}

abbrev paired : Datum → Datum → Option (Datum × Datum)
paired a b = Some (a, b)

abbrev first_in : Datum → Option (Datum × Datum) → Datum
first_in d None = d
first_in d (Some p) = p.0

abbrev second_in : Datum → Option (Datum × Datum) → Datum
second_in d None = d
second_in d (Some p) = p.1

-- the parts of a list of two are less deep
pub pair-depth : (d a b : Datum) → paired a b ≡ pair_of d → (depth a < depth d) × (depth b < depth d)
pair-depth (IntForm z) a b h = cc
pair-depth (SymForm s) a b h = cc
pair-depth (TextForm s) a b h = cc
pair-depth (PairForm x (IntForm z)) a b h = cc
pair-depth (PairForm x (SymForm s)) a b h = cc
pair-depth (PairForm x (TextForm s)) a b h = cc
pair-depth (PairForm x (PairForm y (IntForm z))) a b h = cc
pair-depth (PairForm x (PairForm y (SymForm s))) a b h = by_test (bytes_eq s (codes "NIL")) h
  where
    by_test : (t : Bool) → paired a b ≡ (if t then paired x y else None) → (depth a < depth (PairForm x (PairForm y (SymForm s)))) × (depth b < depth (PairForm x (PairForm y (SymForm s))))
    by_test true h =
        let p : a ≡ x = ap (first_in a) h in
        let q : b ≡ y = ap (second_in b) h in
        (omega (arith, ap depth p), omega (arith, ap depth q))
    by_test false h = cc
pair-depth (PairForm x (PairForm y (TextForm s))) a b h = cc
pair-depth (PairForm x (PairForm y (PairForm z d))) a b h = cc

module _ (takes : Takes) (scope : Scope) where
  abbrev both : Datum × Datum → Outcome Clause
  both p = and_then (translate takes scope p.0) (λ test. map_outcome (λ answer. record { is_last = is_t p.0; test = test; answer = answer }) (translate takes scope p.1))

  abbrev by_pair : Option (Datum × Datum) → Outcome Clause
  by_pair None = bad_form
  by_pair (Some p) = both p

  clause-pair : (d : Datum) → clause takes scope d ≡ by_pair (pair_of d)
  clause-pair (IntForm z) = refl
  clause-pair (SymForm s) = refl
  clause-pair (TextForm s) = refl
  clause-pair (PairForm x (IntForm z)) = refl
  clause-pair (PairForm x (SymForm s)) = refl
  clause-pair (PairForm x (TextForm s)) = refl
  clause-pair (PairForm x (PairForm y (IntForm z))) = refl
  clause-pair (PairForm x (PairForm y (SymForm s))) = by_test (bytes_eq s (codes "NIL"))
    where
      by_test : (t : Bool) → (if t then both (x, y) else bad_form) ≡ by_pair (if t then paired x y else None)
      by_test true = refl
      by_test false = refl
  clause-pair (PairForm x (PairForm y (TextForm s))) = refl
  clause-pair (PairForm x (PairForm y (PairForm z d))) = refl

  pub clause-unpaired : (d : Datum) → None ≡ pair_of d → clause takes scope d ≡ bad_form
  clause-unpaired d h = clause-pair d ∙ ap by_pair (sym h)

  clause-paired : (d a b : Datum) → paired a b ≡ pair_of d → clause takes scope d ≡ both (a, b)
  clause-paired d a b h = clause-pair d ∙ ap by_pair (sym h)

  pub test-refused : (d a b : Datum) (e : TermError) → paired a b ≡ pair_of d → SaysOutcome {A = Tm} (translate takes scope a) (Err e) → SaysOutcome {A = Clause} (clause takes scope d) (Err e)
  test-refused d a b (Refused code detail) h says =
      clause-paired d a b h ∙ ap (λ (o : Outcome Tm). and_then o (λ test. map_outcome (λ answer. record { is_last = is_t a; test = test; answer = answer }) (translate takes scope b))) says
  test-refused d a b Memory h says = tt

  pub answer-refused : (d a b : Datum) (t : Tm) (e : TermError) → paired a b ≡ pair_of d → translate takes scope a ≡ Ok t →
      SaysOutcome {A = Tm} (translate takes scope b) (Err e) → SaysOutcome {A = Clause} (clause takes scope d) (Err e)
  answer-refused d a b t (Refused code detail) h k says =
      clause-paired d a b h ∙ ap (λ (o : Outcome Tm). and_then o (λ test. map_outcome (λ answer. record { is_last = is_t a; test = test; answer = answer }) (translate takes scope b))) k
      ∙ ap (map_outcome (λ answer. record { is_last = is_t a; test = t; answer = answer })) says
  answer-refused d a b t Memory h k says = tt

  pub clause-taken : (d a b : Datum) (t u : Tm) (l : Bool) → paired a b ≡ pair_of d → translate takes scope a ≡ Ok t → translate takes scope b ≡ Ok u → l ≡ is_t a →
      clause takes scope d ≡ Ok (record { is_last = l; test = t; answer = u })
  clause-taken d a b t u l h k j e =
      clause-paired d a b h ∙ ap (λ (o : Outcome Tm). and_then o (λ test. map_outcome (λ answer. record { is_last = is_t a; test = test; answer = answer }) (translate takes scope b))) k
      ∙ ap (map_outcome (λ answer. record { is_last = is_t a; test = t; answer = answer })) j
      ∙ ap (λ l. Ok (record { is_last = l; test = t; answer = u })) (sym e)

pub chosen-refused : {A : Type 0} (f : A → Outcome Clause) (xs : List A) (e : TermError) → SaysOutcome {A = List Clause} (each f xs) (Err e) →
    SaysOutcome {A = Tm} (and_then (map_outcome chosen (each f xs)) limited) (Err e)
chosen-refused f xs (Refused code detail) says = ap (λ o. and_then (map_outcome chosen o) limited) says
chosen-refused f xs Memory says = tt

pub ruleset conditions = (chosen-refused)

pub ruleset clauses = (pair-depth, clause-unpaired, test-refused, answer-refused, clause-taken)
