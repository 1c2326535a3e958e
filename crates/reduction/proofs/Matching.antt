-- Patterns and terms, argument by argument.
use Rattle.std.proofs.Common.{◌≡◌, ◌≢◌, ℕ, ◌+◌, ◌<◌, ◌≤◌, Bool, true, false, bytes_eq, List, [], ◌∷◌, length, get_or, drop, Option, Some, None, refl, ap, ◌∙◌, arith}
use Rattle.std.proofs.lemmas.List.{drop_all}
use Rattle.lisp_data.specs.Values.{Name}
use Rattle.terms.specs.Substitution.{Pairs}
use Rattle.terms.specs.Terms.{Tm, Call, Tms, Done, More, tms}
use Rattle.terms.specs.Evaluation.{then_with}
use Rattle.terms.proofs.Args.{args, tms-drop}
use Rattle.reduction.specs.Finding.{only}
use Rattle.reduction.specs.Rules.{matched, matched_all}

then-none : {A B : Type 0} (o : Option A) (k : A → Option B) → ((x : A) → k x ≡ None) → then_with o k ≡ None
then-none None k h = refl
then-none (Some x) k h = h x

-- there are as many terms as patterns
pub matched-lengths : (ps ts : List Tm) (s : Pairs) → length ps ≢ length ts → matched_all (tms ps) (tms ts) s ≡ None
matched-lengths [] [] s h = absurd (h refl)
matched-lengths [] (t ∷ ts) s h = refl
matched-lengths (p ∷ ps) [] s h = refl
matched-lengths (p ∷ ps) (t ∷ ts) s h = then-none (matched p t s) (matched_all (tms ps) (tms ts)) (λ r. matched-lengths ps ts r (λ e. h (omega arith)))

-- the pattern at a place, and those after it
pub matched-more : (ps ts : List Tm) (i : ℕ) (d e : Tm) (s : Pairs) → i < length ps → length ps ≡ length ts →
    matched_all (tms (drop i ps)) (tms (drop i ts)) s ≡ then_with (matched (get_or ps i d) (get_or ts i e) s) (matched_all (tms (drop (i + 1) ps)) (tms (drop (i + 1) ts)))
matched-more ps ts i d e s h n =
    ap (λ us. matched_all us (tms (drop i ts)) s) (tms-drop ps i d h)
    ∙ ap (λ us. matched_all (More (get_or ps i d) (tms (drop (i + 1) ps))) us s) (tms-drop ts i e (omega arith))

pub matched-end : (ps ts : List Tm) (i : ℕ) (s : Pairs) → length ps ≤ i → length ps ≡ length ts → matched_all (tms (drop i ps)) (tms (drop i ts)) s ≡ Some s
matched-end ps ts i s h n =
    ap (λ us. matched_all (tms us) (tms (drop i ts)) s) (drop_all i ps h) ∙ ap (λ us. matched_all Done (tms us) s) (drop_all i ts (omega arith))

pub ruleset matching = (args, matched-lengths, matched-more, matched-end)

-- a call of another function isn't an instance
pub call-apart : (f g : Name) (ps ts : Tms) (s : Pairs) → bytes_eq f g ≡ false → matched (Call f ps) (Call g ts) s ≡ None
call-apart f g ps ts s e = ap (λ b. only b (matched_all ps ts s)) e

only-none : {A : Type 0} (b : Bool) → only {A = A} b None ≡ None
only-none true = refl
only-none false = refl

-- nor is one on another number of arguments
pub args-apart : (f g : Name) (ps ts : List Tm) (s : Pairs) → length ps ≢ length ts → matched (Call f (tms ps)) (Call g (tms ts)) s ≡ None
args-apart f g ps ts s h = ap (only (bytes_eq f g)) (matched-lengths ps ts s h) ∙ only-none (bytes_eq f g)

pub ruleset apart = (call-apart, args-apart)
