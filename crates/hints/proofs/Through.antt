-- Forms that are read one after the other.
use Rattle.std.proofs.Common.{◌≡◌, ℕ, ℤ, ◌+◌, ◌<◌, ◌≤◌, List, [], ◌∷◌, length, get_or, map, drop, Ok, Option, Global, refl, ap, sym, ◌∙◌, subst, arith}
use Rattle.std.proofs.lemmas.List.{drop_all, drop_more}
use Rattle.std.specs.declared.rc.Rc.{Rc}
use Rattle.lisp_data.specs.Datum.{Datum, chain}
use Rattle.lisp_data.specs.FormView.{form_of, items_of as held_by, end_of, IsProper}
use Rattle.lisp_data.specs.declared.form.Form.{Form, Int, Sym, Text, List as Listed}
use Rattle.lisp_data.specs.declared.form.Forms.{Forms}
use Rattle.lisp_data.proofs.Chains.{form_of-int, form_of-sym, form_of-text}
use Rattle.lisp_data.proofs.Proper.{proper-list, form_of-listed}
use Rattle.lisp_data.specs.Values.{Name}
use Rattle.terms.specs.Primitives.{lookup}
use Rattle.terms.specs.Terms.{Tm}
use Rattle.terms.specs.Worlds.{World}
use Rattle.term_forms.specs.Translation.{Outcome, and_then}
use Rattle.proof_texts.proofs.ItemLemmas.{proper_at}
use Rattle.hints.specs.declared.errors.HintError.{HintError}
use Rattle.hints.specs.declared.errors.HintError.TheVariants.{Refused, Memory}
use Rattle.hints.specs.Refused.{IsRefusal, bad_hint}
use Rattle.hints.specs.Steps.{through, by_number, by_name, instance_in, cited_in, use_by}

module _ {S : Type 0} (f : S → Datum → Outcome S) where
  through-item : (xs : List Form) (i : ℕ) (d : Form) (s : S) → i < length xs → through f s (map form_of (drop i xs)) ≡ and_then (f s (form_of (get_or xs i d))) (λ t. through f t (map form_of (drop (i + 1) xs)))
  through-item xs i d s h = ap (λ ys. through f s (map form_of ys)) (drop_more xs i d h)

  pub through-step : (xs : List Form) (i : ℕ) (d : Form) (s t : S) → i < length xs → f s (form_of (get_or xs i d)) ≡ Ok t → through f s (map form_of (drop i xs)) ≡ through f t (map form_of (drop (i + 1) xs))
  through-step xs i d s t h e = through-item xs i d s h ∙ ap (λ o. and_then o (λ t. through f t (map form_of (drop (i + 1) xs)))) e

  pub through-end : (xs : List Form) (i : ℕ) (s : S) → length xs ≤ i → through f s (map form_of (drop i xs)) ≡ Ok s
  through-end xs i s h = ap (λ ys. through f s (map form_of ys)) (drop_all i xs h)

  pub through-refused : (xs : List Form) (i : ℕ) (d : Form) (s : S) (o : Outcome S) (e : HintError) → i < length xs → through f s (map form_of (drop i xs)) ≡ o →
      IsRefusal (f s (form_of (get_or xs i d))) e → IsRefusal o e
  through-refused xs i d s o (Refused code detail) h g r = sym g ∙ (through-item xs i d s h ∙ ap (λ p. and_then p (λ t. through f t (map form_of (drop (i + 1) xs)))) r)
  through-refused xs i d s o Memory h g r = tt

pub ruleset through_forms = (through-step, through-end, through-refused, proper_at)

listed_fact : (W : World) (us : List Tm) (xs : List Form) (end : Datum) → 0 < length xs → cited_in W us (chain (map form_of xs) end) ≡ instance_in W us (chain (map form_of xs) end)
listed_fact W us [] end h = absurd (omega arith)
listed_fact W us (x ∷ xs) end h = refl

pub cited_in-list : (W : World) (us : List Tm) (fs : Forms) (t : Option (Rc Form Global)) → IsProper (Listed fs t) →
    cited_in W us (form_of (Listed fs t)) ≡ instance_in W us (form_of (Listed fs t))
cited_in-list W us fs t h =
    subst (λ d. cited_in W us d ≡ instance_in W us d) (sym (form_of-listed fs t)) (listed_fact W us (held_by fs) (end_of t) (proper-list fs t h).some)

pub cited_in-int : (W : World) (us : List Tm) (z : ℤ) → cited_in W us (form_of (Int z)) ≡ by_number W z
cited_in-int W us z = ap (cited_in W us) (form_of-int z)

pub cited_in-sym : (W : World) (us : List Tm) (n : Name) → cited_in W us (form_of (Sym n)) ≡ by_name W us n (lookup W.theorems n)
cited_in-sym W us n = ap (cited_in W us) (form_of-sym n)

pub cited_in-text : (W : World) (us : List Tm) (s : List ℕ) → cited_in W us (form_of (Text s)) ≡ bad_hint
cited_in-text W us s = ap (cited_in W us) (form_of-text s)

pub ruleset shapes = (cited_in-list, cited_in-int, cited_in-sym, cited_in-text)

pub use-few : (W : World) (us : List Tm) (xs : List Form) → length xs < 2 → use_by W us (map form_of xs) ≡ bad_hint
use-few W us [] h = refl
use-few W us (x ∷ []) h = refl
use-few W us (x ∷ y ∷ xs) h = absurd (omega arith)

pub use-many : (W : World) (us : List Tm) (xs : List Form) → 3 ≤ length xs → use_by W us (map form_of xs) ≡ bad_hint
use-many W us [] h = absurd (omega arith)
use-many W us (x ∷ []) h = absurd (omega arith)
use-many W us (x ∷ y ∷ []) h = absurd (omega arith)
use-many W us (x ∷ y ∷ z ∷ xs) h = refl

pub ruleset two_parts = (use-few, use-many)
