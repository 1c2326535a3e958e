-- The lines of what is made, written one part after the other.
use Rattle.std.proofs.Common.{◌≡◌, ℕ, ◌+◌, ◌<◌, codes, List, ◌∷◌, ◌++◌, length, get_or, drop, refl, ap, ◌∙◌, append_assoc, append-nil}
use Rattle.std.proofs.lemmas.List.{drop_all, drop_more}
use Rattle.terms.specs.Terms.{Tm}
use Rattle.term_forms.specs.Printing.{term_text}
use Rattle.plans.specs.declared.plan.Entry.{Entry}
use Rattle.events.specs.Shown.{further_text, texts_of, entry_lines, entries_lines}

pub names-more : (names : List (List ℕ)) (i : ℕ) (d : List ℕ) → i < length names → further_text (drop i names) ≡ codes " " ++ (get_or names i d ++ further_text (drop (i + 1) names))
names-more names i d h = ap further_text (drop_more names i d h)

pub terms-more : (ts : List Tm) (i : ℕ) (d : Tm) → i < length ts → further_text (texts_of (drop i ts)) ≡ codes " " ++ (term_text (get_or ts i d) ++ further_text (texts_of (drop (i + 1) ts)))
terms-more ts i d h = ap (λ (us : List Tm). further_text (texts_of us)) (drop_more ts i d h)

pub entries-more : (es : List Entry) (i : ℕ) (d : Entry) → i < length es → entries_lines (drop i es) ≡ entry_lines (get_or es i d) ++ entries_lines (drop (i + 1) es)
entries-more es i d h = ap entries_lines (drop_more es i d h)

-- one more part, and what follows it
more : (t u x rest whole : List ℕ) → u ≡ t ++ x → t ++ (x ++ rest) ≡ whole → u ++ rest ≡ whole
more t u x rest whole e h = ap (λ (l : List ℕ). l ++ rest) e ∙ append_assoc t x rest ∙ h

-- a text of two parts behind another one
pub two_parts : (s t u a b : List ℕ) → t ≡ s ++ a → u ≡ t ++ b → u ≡ s ++ (a ++ b)
two_parts s t u a b is_t is_u = is_u ∙ more s t a b (s ++ (a ++ b)) is_t refl

-- a text of three parts behind another one
pub three_parts : (s t u v a b d : List ℕ) → t ≡ s ++ a → u ≡ t ++ b → v ≡ u ++ d → v ≡ s ++ (a ++ (b ++ d))
three_parts s t u v a b d is_t is_u is_v = is_v ∙ more t u b d (s ++ (a ++ (b ++ d))) is_u (more s t a (b ++ d) (s ++ (a ++ (b ++ d))) is_t refl)

-- the text of a specification: what begins it, its name, what stands between, its variables, a blank, its matrix, and the end
pub specification_parts : (s t u v w x y a n b vs d m e : List ℕ) → s ≡ a → t ≡ s ++ n → u ≡ t ++ b → v ≡ u ++ vs → w ≡ v ++ d → x ≡ w ++ m → y ≡ x ++ e → y ≡ a ++ (n ++ (b ++ (vs ++ (d ++ (m ++ e)))))
specification_parts s t u v w x y a n b vs d m e is_s is_t is_u is_v is_w is_x is_y =
    let whole : List ℕ = a ++ (n ++ (b ++ (vs ++ (d ++ (m ++ e))))) in
    let begun : s ++ (n ++ (b ++ (vs ++ (d ++ (m ++ e))))) ≡ whole = ap (λ (l : List ℕ). l ++ (n ++ (b ++ (vs ++ (d ++ (m ++ e)))))) is_s in
    let named = more s t n (b ++ (vs ++ (d ++ (m ++ e)))) whole is_t begun in
    let between = more t u b (vs ++ (d ++ (m ++ e))) whole is_u named in
    let bound = more u v vs (d ++ (m ++ e)) whole is_v between in
    is_y ∙ more w x m e whole is_x (more v w d (m ++ e) whole is_w bound)

pub ruleset shown = (names-more, terms-more, entries-more, drop_all, append_assoc, append-nil)
