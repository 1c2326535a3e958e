-- Words of any number of parts, from the last part on.
use Rattle.std.proofs.Common.{◌≡◌, codes, ℕ, zero, suc, ◌+◌, ◌-◌, ◌<◌, ◌≤◌, Ok, Err, List, [], ◌∷◌, ◌++◌, length, get_or, take, refl, ap, sym, ◌∙◌, arith}
use Rattle.std.proofs.lemmas.List.{take_more}
use Rattle.term_forms.specs.declared.translation.TermError.{TermError}
use Rattle.term_forms.specs.declared.translation.TermError.TheVariants.{Refused, Memory}
use Rattle.term_forms.specs.declared.macros.Fold.{Fold}
use Rattle.term_forms.specs.declared.macros.Fold.TheVariants as fold
use Rattle.terms.specs.Terms.{Tm}
use Rattle.terms.specs.Measures.{call2}
use Rattle.term_forms.specs.Macros.{list_of, nil_term}
use Rattle.term_forms.specs.Translation.{limited}
use Rattle.term_forms.specs.view.TranslationView.{SaysOutcome}
use Rattle.term_forms.specs.Words.{of_parts, joined, folded}
use Rattle.term_forms.proofs.Growing.{IsWithin, limited-same, larger-refused}

folded-last : {A : Type 0} (f : A → Tm → Tm) (xs : List A) (x : A) (r : Tm) → folded f (xs ++ x ∷ []) r ≡ folded f xs (f x r)
folded-last f [] x r = refl
folded-last f (y ∷ xs) x r = ap (f y) (folded-last f xs x r)

pub folded-more : {A : Type 0} (f : A → Tm → Tm) (xs : List A) (i : ℕ) (d : A) (r : Tm) → i < length xs → folded f (take i xs) (f (get_or xs i d) r) ≡ folded f (take (i + 1) xs) r
folded-more f xs i d r h = sym (folded-last f (take i xs) (get_or xs i d) r) ∙ ap (λ ys. folded f ys r) (sym (take_more xs i d h))

within-self : (t : Tm) → IsWithin t t
within-self t = record { few = omega arith; low = omega arith }

within-through : (s t u : Tm) → IsWithin s t → IsWithin t u → IsWithin s u
within-through s t u p q = record { few = omega (arith, p.few, q.few); low = omega (arith, p.low, q.low) }

-- each step keeps all of what comes after it
abbrev pub IsGrowing : {A : Type 0} → (A → Tm → Tm) → Type 0
IsGrowing {A = A} f = (x : A) (r : Tm) → IsWithin r (f x r)

pub within-folded : {A : Type 0} (f : A → Tm → Tm) (xs : List A) (r : Tm) → IsGrowing f → IsWithin r (folded f xs r)
within-folded f [] r g = within-self r
within-folded f (x ∷ xs) r g = within-through r (folded f xs r) (f x (folded f xs r)) (within-folded f xs r g) (g x (folded f xs r))

joined-grows : (m : Fold) → IsGrowing (joined m)
joined-grows fold.And a r = record { few = omega arith; low = omega arith }
joined-grows fold.Or a r = record { few = omega arith; low = omega arith }
joined-grows fold.List a r = record { few = omega arith; low = omega arith }
joined-grows fold.Sum a r = record { few = omega arith; low = omega arith }
joined-grows fold.Product a r = record { few = omega arith; low = omega arith }
joined-grows fold.Append a r = record { few = omega arith; low = omega arith }

-- a step that is refused
pub step-refused : (m : Fold) (ts : List Tm) (i : ℕ) (d r all : Tm) (e : TermError) → i < length ts → folded (joined m) (take (i + 1) ts) r ≡ all →
    SaysOutcome {A = Tm} (limited (joined m (get_or ts i d) r)) (Err e) → SaysOutcome {A = Tm} (limited all) (Err e)
step-refused m ts i d r all (Refused code detail) h p says =
    let f = joined m in
    let whole : folded f (take i ts) (f (get_or ts i d) r) ≡ all = folded-more f ts i d r h ∙ p in
    ap limited (sym whole) ∙ larger-refused (f (get_or ts i d) r) (folded f (take i ts) (f (get_or ts i d) r)) (code, detail) (within-folded f (take i ts) (f (get_or ts i d) r) (joined-grows m)) says
step-refused m ts i d r all Memory h p says = tt

-- a step that is taken
pub step-taken : (m : Fold) (ts : List Tm) (i j : ℕ) (x r t all : Tm) → i < length ts → i + 1 ≡ j → x ≡ get_or ts i x → folded (joined m) (take j ts) r ≡ all →
    limited (joined m x r) ≡ Ok t → folded (joined m) (take i ts) t ≡ all
step-taken m ts i j x r t all h n q p e =
    let f = joined m in
    ap (folded f (take i ts)) (limited-same (f x r) t e ∙ ap (λ x. f x r) q) ∙ folded-more f ts i x r h ∙ ap (λ k. folded f (take k ts) r) n ∙ p

pub ruleset folds = (folded-more, step-refused, step-taken)

-- a list has all its parts before NIL
pub list-folded : (ts : List Tm) → list_of ts ≡ folded (joined fold.List) ts nil_term
list-folded [] = refl
list-folded (t ∷ ts) = ap (call2 (codes "CONS") t) (list-folded ts)

-- the others have the last part after the parts before it
pub others-folded : (m : Fold) (s : Tm) (ts : List Tm) (t : Tm) → (m ≡ fold.List → ⊥) → of_parts m (s ∷ (ts ++ t ∷ [])) ≡ folded (joined m) (s ∷ ts) t
others-folded fold.And s [] t h = refl
others-folded fold.Or s [] t h = refl
others-folded fold.List s [] t h = absurd (h refl)
others-folded fold.Sum s [] t h = refl
others-folded fold.Product s [] t h = refl
others-folded fold.Append s [] t h = refl
others-folded fold.And s (a ∷ ts) t h = ap (joined fold.And s) (others-folded fold.And a ts t h)
others-folded fold.Or s (a ∷ ts) t h = ap (joined fold.Or s) (others-folded fold.Or a ts t h)
others-folded fold.List s (a ∷ ts) t h = absurd (h refl)
others-folded fold.Sum s (a ∷ []) t h = refl
others-folded fold.Product s (a ∷ []) t h = refl
others-folded fold.Sum s (a ∷ b ∷ ts) t h = ap (joined fold.Sum s) (others-folded fold.Sum a (b ∷ ts) t h)
others-folded fold.Product s (a ∷ b ∷ ts) t h = ap (joined fold.Product s) (others-folded fold.Product a (b ∷ ts) t h)
others-folded fold.Append s (a ∷ ts) t h = ap (joined fold.Append s) (others-folded fold.Append a ts t h)

all-taken : {A : Type 0} (xs : List A) → take (length xs) xs ≡ xs
all-taken [] = refl
all-taken (x ∷ xs) = ap (λ r. x ∷ r) (all-taken xs)

-- the same, by the place of the last part
pub parts-folded : (m : Fold) (ts : List Tm) (d : Tm) → 2 ≤ length ts → (m ≡ fold.List → ⊥) → of_parts m ts ≡ folded (joined m) (take (length ts - 1) ts) (get_or ts (length ts - 1) d)
parts-folded m [] d h g = absurd (omega arith)
parts-folded m (s ∷ ts) d h g =
    let n = length ts - 1 in
    let long : n < length ts = omega arith in
    let whole : take n ts ++ get_or ts n d ∷ [] ≡ ts = sym (take_more ts n d long) ∙ ap (λ k. take k ts) (let e : n + 1 ≡ length ts = omega arith in e) ∙ all-taken ts in
    let place : length (s ∷ ts) - 1 ≡ suc n = omega arith in
    ap (λ us. of_parts m (s ∷ us)) (sym whole) ∙ others-folded m s (take n ts) (get_or ts n d) g
    ∙ ap (λ k. folded (joined m) (take k (s ∷ ts)) (get_or (s ∷ ts) k d)) (sym place)

pub ruleset words = (list-folded, parts-folded)
