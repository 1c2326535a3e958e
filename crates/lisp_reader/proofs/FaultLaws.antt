-- What stands at the first fault of a book.
use Rattle.std.proofs.Common.{◌≡◌, ℕ, zero, suc, ◌+◌, ◌-◌, ◌<◌, ◌≤◌, ◌⊎◌, inl, inr, Bool, true, false, cond, ◌&&◌, nat_eq, length-drop, Option, Some, None, List, [], ◌∷◌, length, take, drop, refl, ap, sym, subst, ◌∙◌, arith}
use Rattle.std.proofs.lemmas.List.{drop-drop}
use Rattle.std.proofs.lemmas.Bool.Decides.{nat_tests}
use Rattle.lisp_data.specs.Datum.{Datum, PairForm, nil_form}
use Rattle.lisp_data.specs.Atoms.{Leaf, Integer, Named, Point, Wrong, is_odd, in_atom, leaf}
use Rattle.lisp_data.specs.declared.code.Code.{Code}
use Rattle.lisp_data.specs.declared.code.Code.TheVariants.{BadByte, UnclosedList, UnclosedText, StrayClose, BadDot, TooDeep, BookTooLong}
use Rattle.lisp_reader.specs.Spans as s
use Rattle.lisp_reader.specs.Spans.{Front, Nothing, Gap, EndlessGap, Open, Close, Quote, Text, EndlessText, Atom, Stray, front, is_gap, gap_after, begins, gaps, behind, gaps_from}
use Rattle.lisp_reader.specs.Grammar.{Read, Got, Bad, shift, mapped, and_then, quote_form, Kind, Closes, Points, Item, by_kind, leaf_read, leaf_fault, one_by, kind_of, kind, closing_by, closing, last_by, last, items, form, begins_form, next_form, book_and, before, book, parse, book_of}
use Rattle.lisp_reader.specs.Relation.{IsForm}
use Rattle.lisp_reader.specs.Answers.{Answers}
use Rattle.lisp_reader.specs.Faults.{is_endless, is_opening, is_form_or_close, IsWrongAtom, IsMisplaced, IsFault, IsBegun, none, next, IsFirstFault, wrong, full, FaultsAreFirst}
use Rattle.lisp_reader.proofs.Ends.{IsBad, none_bad}
use Rattle.lisp_reader.proofs.Steps.{list_in, mark_in, form-one}
use Rattle.lisp_reader.proofs.RelationLaws.{Found, found-form, reads-form, closes-are, free-form, place-is, short-book}
use Rattle.lisp_reader.specs.declared.limits.TheConstants.{MAX_BOOK, MAX_FORMS, MAX_NESTING}

-- Gaps.

gap-free : (skip : ℕ) (t : List ℕ) → is_gap (front (drop (gaps_from skip t) t)) ≡ false
unfolding gaps_from front
gap-free skip [] = refl
gap-free (suc skip) (b ∷ t) = let e : suc (gaps_from skip t) ≡ gaps_from skip t + 1 = omega arith in subst (λ m. is_gap (front (drop m (b ∷ t))) ≡ false) e (gap-free skip t)
gap-free zero (b ∷ t) = on (front (b ∷ t)) refl (λ n. gap-free n t)
  where
    on : (f : Front) → front (b ∷ t) ≡ f → ((n : ℕ) → is_gap (front (drop (gaps_from n t) t)) ≡ false) → is_gap (front (drop (gap_after f (λ n. gaps_from n t)) (b ∷ t))) ≡ false
    on Nothing e h = ap is_gap e
    on (Gap n) e h = let k : suc (gaps_from n t) ≡ gaps_from n t + 1 = omega arith in subst (λ m. is_gap (front (drop m (b ∷ t))) ≡ false) k (h n)
    on EndlessGap e h = ap is_gap e
    on Open e h = ap is_gap e
    on Close e h = ap is_gap e
    on Quote e h = ap is_gap e
    on (Text n) e h = ap is_gap e
    on EndlessText e h = ap is_gap e
    on (Atom n) e h = ap is_gap e
    on Stray e h = ap is_gap e

no-gap : (t : List ℕ) (n : ℕ) → front (behind t) ≡ Gap n → ⊥
no-gap t n e = let free : is_gap (front (behind t)) ≡ false = gap-free 0 t in let k : true ≡ false = sym (ap is_gap e) ∙ free in cc

gaps-fit : (skip : ℕ) (t : List ℕ) → gaps_from skip t ≤ length t
unfolding gaps_from
gaps-fit skip [] = omega arith
gaps-fit (suc skip) (b ∷ t) = omega (arith, gaps-fit skip t)
gaps-fit zero (b ∷ t) = on (front (b ∷ t)) (λ n. gaps-fit n t)
  where
    on : (f : Front) → ((n : ℕ) → gaps_from n t ≤ length t) → gap_after f (λ n. gaps_from n t) ≤ length (b ∷ t)
    on Nothing h = omega arith
    on (Gap n) h = omega (arith, h n)
    on EndlessGap h = omega arith
    on Open h = omega arith
    on Close h = omega arith
    on Quote h = omega arith
    on (Text n) h = omega arith
    on EndlessText h = omega arith
    on (Atom n) h = omega arith
    on Stray h = omega arith

-- only the empty text begins with nothing
abbrev IsToken : Front → Type 0
IsToken Nothing = ⊥
IsToken _ = Unit {0}

either-token : (c : Bool) (x y : Front) → IsToken x → IsToken y → IsToken (cond c x y)
either-token true x y h k = h
either-token false x y h k = k

text-token : (o : Option ℕ) → IsToken (s.text o)
text-token None = tt
text-token (Some n) = tt

comment-token : (o : Option ℕ) → IsToken (s.comment o)
comment-token None = tt
comment-token (Some n) = tt

some-token : (b : ℕ) (t : List ℕ) → IsToken (front (b ∷ t))
unfolding front
some-token b t =
    either-token (s.opens_block (b ∷ t)) _ _ (comment-token (s.block 0 (drop 1 t)))
    (either-token (s.is_blank b) _ _ tt (either-token (nat_eq b 59) _ _ tt (either-token (nat_eq b 40) _ _ tt (either-token (nat_eq b 41) _ _ tt (either-token (nat_eq b 39) _ _ tt
    (either-token (nat_eq b 34) _ _ (text-token (s.string t)) (either-token (in_atom b) _ _ tt tt)))))))

nothing-is-empty : (u : List ℕ) → front u ≡ Nothing → 0 ≡ length u
nothing-is-empty [] e = refl
nothing-is-empty (b ∷ u) e = absurd (subst IsToken e (some-token b u))

-- The faults of forms.

abbrev Faulty : List ℕ → Read → Type 0
Faulty t (Got f n) = Unit {0}
Faulty t (Bad c n) = IsFault c t n

-- a fault with which the text begins
here : (c : Code) (t : List ℕ) (n : ℕ) → IsMisplaced c t n → IsFault c t n
here c t n h = record { start = 0; within = omega arith; offset = n; token = inr h; there = omega arith }

wrong-here : (c : Code) (t : List ℕ) (m n : ℕ) → front t ≡ Atom n → leaf false (take (n + 1) t) ≡ Wrong c m → IsFault c t m
wrong-here c t m n e h = record { start = 0; within = omega arith; offset = m; token = inl (record { n = n; atom = e; wrong = h }); there = omega arith }

fault-shift : (t : List ℕ) (k : ℕ) (r : Read) → k ≤ length t → Faulty (drop k t) r → Faulty t (shift k r)
fault-shift t k (Got f n) le h = tt
fault-shift t k (Bad c n) le h =
    record {
      start = k + h.start;
      within = omega (arith, h.within, length-drop k t);
      offset = h.offset;
      token = subst (λ u. IsWrongAtom c u h.offset ⊎ IsMisplaced c u h.offset) (drop-drop h.start k t) h.token;
      there = omega (arith, h.there);
    }

fault-mapped : (h : Datum → Datum) (t : List ℕ) (r : Read) → Faulty t r → Faulty t (mapped h r)
fault-mapped h t (Got f n) p = tt
fault-mapped h t (Bad c n) p = p

endless : (t : List ℕ) (x : Front) (inside : Bool) → front t ≡ x → is_endless x ≡ true → IsFault (cond inside UnclosedList UnclosedText) t (length t)
endless t x true e h = here UnclosedList t (length t) refl
endless t x false e h = here UnclosedText t (length t) (ap is_endless e ∙ h, refl)

second : (t : List ℕ) (x : Front) → front t ≡ x → is_form_or_close x ≡ true → IsFault BadDot t 0
second t x e h = here BadDot t 0 (ap is_form_or_close e ∙ h, refl)

-- a form was read within the text
got-within : (k : ℕ) (inside : Bool) (t : List ℕ) (f : Datum) (n : ℕ) → form false inside k t ≡ Got f n → n < length t
got-within k inside t f n e =
    let p : IsForm k t f (drop (n + 1) t) = subst (Found (IsForm k t) t) e (found-form k inside t) in
    let r = reads-form p inside in
    let same : Got f n ≡ Got f r.n = sym e ∙ r.got in
    let number : r.n ≡ n = cc in
    subst (λ m. m < length t) number r.room

at-gaps : (c : Code) (t : List ℕ) → IsFault c (behind t) 0 → IsFault c t (gaps t)
at-gaps c t h = let e : gaps t + 0 ≡ gaps t = omega arith in subst (λ m. IsFault c t m) e (fault-shift t (gaps t) (Bad c 0) (gaps-fit 0 t) h)

faulty-closing : (f : Datum) (v : List ℕ) → Faulty v (closing false f v)
faulty-closing f v = fault-shift v (gaps v) _ (gaps-fit 0 v) (on (front (behind v)) refl)
  where
    u : List ℕ
    u = behind v

    by_odd : (n : ℕ) (c : Bool) (l : Leaf) → front u ≡ Atom n → leaf false (take (n + 1) u) ≡ l → Faulty u (cond c (leaf_fault false l) (Bad BadDot 0))
    by_odd n false l e h = second u (Atom n) e refl
    by_odd n true (Integer z) e h = second u (Atom n) e refl
    by_odd n true (Named s) e h = second u (Atom n) e refl
    by_odd n true Point e h = second u (Atom n) e refl
    by_odd n true (Wrong c m) e h = wrong-here c u m n e h

    on : (x : Front) → front u ≡ x → Faulty u (closing_by false f u x)
    on Nothing e = here UnclosedList u 0 (nothing-is-empty u e)
    on (Gap n) e = absurd (no-gap v n e)
    on EndlessGap e = endless u EndlessGap true e refl
    on Open e = second u Open e refl
    on Close e = tt
    on Quote e = second u Quote e refl
    on (Text n) e = second u (Text n) e refl
    on EndlessText e = second u EndlessText e refl
    on (Atom n) e = by_odd n (is_odd (take (n + 1) u)) (leaf false (take (n + 1) u)) e refl
    on Stray e = here BadByte u 0 (e, refl)

abbrev FormsFaulty : ℕ → Type 0
FormsFaulty k = (t : List ℕ) → Faulty t (form false true k t)

faulty-last : (k : ℕ) (w : List ℕ) → FormsFaulty k → Faulty w (last false (form false true k) w)
faulty-last k w forms = on (kind false false w) refl (form false true k w) refl (forms w)
  where
    got : (f : Datum) (n : ℕ) → form false true k w ≡ Got f n → Faulty w (shift (n + 1) (closing false f (drop (n + 1) w)))
    got f n q = fault-shift w (n + 1) _ (omega (arith, got-within k true w f n q)) (faulty-closing f (drop (n + 1) w))

    on : (x : Kind) → kind false false w ≡ x → (r : Read) → form false true k w ≡ r → Faulty w r → Faulty w (last_by false (λ _. r) w x)
    on Closes e r q p = at-gaps BadDot w (second (behind w) Close (closes-are false (behind w) (front (behind w)) e) refl)
    on Points e (Got f n) q p = got f n q
    on Points e (Bad c n) q p = p
    on Item e (Got f n) q p = got f n q
    on Item e (Bad c n) q p = p

point-room : (some : Bool) (u : List ℕ) → kind_of false some u (front u) ≡ Points → 0 < length u
unfolding front
point-room some [] h = cc
point-room some (b ∷ u) h = omega arith

faulty-items : (k : ℕ) → FormsFaulty k → (some : Bool) (skip : ℕ) (t : List ℕ) → skip ≤ length t → Faulty t (items false (form false true k) some skip t)
unfolding items
faulty-items k forms some zero [] le = here UnclosedList [] 0 refl
faulty-items k forms some (suc skip) [] le = absurd (omega arith)
faulty-items k forms some (suc skip) (b ∷ t) le = fault-shift (b ∷ t) 1 _ (omega arith) (faulty-items k forms some skip t (omega arith))
faulty-items k forms some zero (b ∷ t) le = on (kind false some (b ∷ t)) refl (form false true k (b ∷ t)) refl (forms (b ∷ t)) (λ n h. faulty-items k forms true n t h)
  where
    w : List ℕ
    w = b ∷ t

    on : (x : Kind) → kind false some w ≡ x → (r : Read) → form false true k w ≡ r → Faulty w r → ((n : ℕ) → n ≤ length t → Faulty t (items false (form false true k) true n t)) →
        Faulty w
        (by_kind x (Got nil_form (gaps w)) (shift (gaps w + 1) (last false (form false true k) (drop (gaps w + 1) w)))
        (and_then r (λ f n. mapped (PairForm f) (shift 1 (items false (form false true k) true n t)))))
    on Closes e r q p more = tt
    on Points e r q p more =
        fault-shift w (gaps w + 1) _ (omega (arith, point-room some (behind w) e, length-drop (gaps w) w)) (faulty-last k (drop (gaps w + 1) w) forms)
    on Item e (Bad c n) q p more = p
    on Item e (Got f n) q p more = fault-mapped (PairForm f) w _ (fault-shift w 1 _ (omega arith) (more n (omega (arith, got-within k true w f n q))))

opening-room : (u : List ℕ) (x : Front) → front u ≡ x → is_opening x ≡ true → 0 < length u
unfolding front
opening-room [] x e h = absurd (let k : false ≡ true = ap is_opening e ∙ h in cc)
opening-room (b ∷ u) x e h = omega arith

-- what is read after a parenthesis or a quote
faulty-list : (k : ℕ) (t : List ℕ) → ((d : ℕ) → k ≡ suc d → FormsFaulty d) → front (behind t) ≡ Open → Faulty (behind t) (list_in false k (behind t))
faulty-list zero t below e = here TooDeep (behind t) 0 (ap is_opening e, refl)
faulty-list (suc d) t below e =
    fault-shift (behind t) 1 _ (omega (arith, opening-room (behind t) Open e refl)) (faulty-items d (below d refl) false 0 (drop 1 (behind t)) (omega arith))

faulty-mark : (k : ℕ) (t : List ℕ) → ((d : ℕ) → k ≡ suc d → FormsFaulty d) → front (behind t) ≡ Quote → Faulty (behind t) (mark_in false k (behind t))
faulty-mark zero t below e = here TooDeep (behind t) 0 (ap is_opening e, refl)
faulty-mark (suc d) t below e =
    fault-shift (behind t) 1 _ (omega (arith, opening-room (behind t) Quote e refl)) (fault-mapped quote_form (drop 1 (behind t)) _ (below d refl (drop 1 (behind t))))

faulty-one : (k : ℕ) (inside : Bool) (t : List ℕ) → ((d : ℕ) → k ≡ suc d → FormsFaulty d) → Faulty t (form false inside k t)
faulty-one k inside t below = subst (Faulty t) (sym (form-one false inside k t)) (fault-shift t (gaps t) _ (gaps-fit 0 t) (on (front (behind t)) refl))
  where
    u : List ℕ
    u = behind t

    by_leaf : (n : ℕ) (l : Leaf) → front u ≡ Atom n → leaf false (take (n + 1) u) ≡ l → Faulty u (leaf_read false l n)
    by_leaf n (Integer z) e h = tt
    by_leaf n (Named s) e h = tt
    by_leaf n Point e h = second u (Atom n) e refl
    by_leaf n (Wrong c m) e h = wrong-here c u m n e h

    on : (x : Front) → front u ≡ x → Faulty u (one_by false inside (list_in false k) (mark_in false k) u x)
    on Nothing e = here UnclosedList u 0 (nothing-is-empty u e)
    on (Gap n) e = absurd (no-gap t n e)
    on EndlessGap e = endless u EndlessGap inside e refl
    on Open e = faulty-list k t below e
    on Close e = here StrayClose u 0 (e, refl)
    on Quote e = faulty-mark k t below e
    on (Text n) e = tt
    on EndlessText e = endless u EndlessText inside e refl
    on (Atom n) e = by_leaf n (leaf false (take (n + 1) u)) e refl
    on Stray e = here BadByte u 0 (e, refl)

faulty-form : (k : ℕ) (inside : Bool) (t : List ℕ) → Faulty t (form false inside k t)
faulty-form zero inside t = faulty-one zero inside t (λ d e. absurd (let k = e in cc))
faulty-form (suc k) inside t = faulty-one (suc k) inside t (λ d e. (let same : k ≡ d = cc in subst FormsFaulty same (λ s. faulty-form k true s)))

-- Whole books.

abbrev FaultBook : ℕ → ℕ → List ℕ → Answers → Type 0
FaultBook bytes left t b = (c : Code) (p : ℕ) → b.1 ≡ Some (c, p) → IsFirstFault bytes left t b.0 c p

-- one form more
prepend : {bytes left : ℕ} {t : List ℕ} {f : Datum} {middle : List ℕ} {fs : List (Datum × ℕ)} {c : Code} {p : ℕ} → IsForm MAX_NESTING t f middle → IsFirstFault bytes left middle fs c p →
    IsFirstFault bytes (suc left) t ((f, bytes - length (behind t)) ∷ fs) c p
prepend first (wrong after n rest b unread x e) = wrong after n rest (next first b) unread x e
prepend first (full rest b g c e) = full rest (next first b) g c e

no-form : (t : List ℕ) (c : Code) (n : ℕ) → form false false MAX_NESTING t ≡ Bad c n → (f : Datum) (u : List ℕ) → IsForm MAX_NESTING t f u → ⊥
no-form t c n e f u p = let r = reads-form p false in let k : Bad c n ≡ Got f r.n = sym e ∙ r.got in cc

fault-here : (bytes left place : ℕ) (t : List ℕ) (c : Code) (n : ℕ) → place + length t ≡ bytes → nat_eq (length (behind t)) 0 ≡ false → next_form false (nat_eq left 0) t ≡ Bad c n →
    IsFirstFault bytes left t [] c (place + n)
unfolding begins_form
fault-here bytes left place t c n whole some e = on (begins (front (behind t))) (nat_eq left 0) refl refl e
  where
    in_form : form false false MAX_NESTING t ≡ Bad c n → IsFirstFault bytes left t [] c (place + n)
    in_form q = wrong left n t (none t) (no-form t c n q) (subst (Faulty t) q (faulty-form MAX_NESTING false t)) (omega (arith, whole))

    on : (a m : Bool) → begins (front (behind t)) ≡ a → nat_eq left 0 ≡ m → cond ((a && true) && m) (Bad BookTooLong (gaps t)) (form false false MAX_NESTING t) ≡ Bad c n →
        IsFirstFault bytes left t [] c (place + n)
    on true true a m q =
        let none_left : left ≡ 0 = grind (arith, nat_tests) in
        let code : c ≡ BookTooLong = cc in
        let there : gaps t ≡ n = cc in
        full t (subst (λ k. IsBegun bytes left t [] k t) none_left (none t)) a code (ap (λ k. place + k) (sym there) ∙ sym (place-is bytes place t whole some))
    on true false a m q = in_form q
    on false m a l q = in_form q

fault-next : (bytes left place : ℕ) (b : ℕ) (t : List ℕ) (r : Read) → place + length (b ∷ t) ≡ bytes → nat_eq (length (behind (b ∷ t))) 0 ≡ false → next_form false (nat_eq left 0) (b ∷ t) ≡ r →
    ((n : ℕ) → (place + 1) + n + length (drop n t) ≡ bytes → FaultBook bytes (left - 1) (drop n t) (book false (left - 1) (place + 1) n t)) →
    FaultBook bytes left (b ∷ t) (book_and false r place (λ f n. before false (f, place + gaps (b ∷ t)) (book false (left - 1) (place + 1) n t)))
fault-next bytes left place b t (Bad d n) whole some e more c p h =
    let read : Code × ℕ = (d, place + n) in
    let told : Code × ℕ = (c, p) in
    let pair : read ≡ told = cc in
    let code : d ≡ c = ap (λ x. x.0) pair in
    let there : place + n ≡ p = ap (λ x. x.1) pair in
    subst (λ x. IsFirstFault bytes left (b ∷ t) [] x p) code (subst (λ x. IsFirstFault bytes left (b ∷ t) [] d x) there (fault-here bytes left place (b ∷ t) d n whole some e))
fault-next bytes zero place b t (Got f n) whole some e more c p h = absurd (subst IsBad e (none_bad false (b ∷ t)))
fault-next bytes (suc left) place b t (Got f n) whole some e more c p h =
    let w : List ℕ = b ∷ t in
    let read : form false false MAX_NESTING w ≡ Got f n = sym (free-form left w) ∙ e in
    let far : n + 1 ≡ suc n = omega arith in
    let less : suc left - 1 ≡ left = omega arith in
    let first : IsForm MAX_NESTING w f (drop (n + 1) w) = subst (Found (IsForm MAX_NESTING w) w) read (found-form MAX_NESTING false w) in
    let near : IsForm MAX_NESTING w f (drop n t) = subst (λ m. IsForm MAX_NESTING w f (drop m w)) far first in
    let room : n < length w = got-within MAX_NESTING false w f n read in
    let size : (place + 1) + n + length (drop n t) ≡ bytes = omega (arith, length-drop n t) in
    let rest : IsFirstFault bytes left (drop n t) (book false (suc left - 1) (place + 1) n t).0 c p =
    subst (λ k. IsFirstFault bytes k (drop n t) (book false (suc left - 1) (place + 1) n t).0 c p) less (more n size c p h) in
    subst (λ k. IsFirstFault bytes (suc left) w ((f, k) ∷ (book false (suc left - 1) (place + 1) n t).0) c p) (place-is bytes place w whole some) (prepend near rest)

fault-book : (bytes left place skip : ℕ) (t : List ℕ) → place + skip + length (drop skip t) ≡ bytes → FaultBook bytes left (drop skip t) (book false left place skip t)
unfolding book gaps_from
fault-book bytes left place zero [] whole c p h = cc
fault-book bytes left place (suc skip) [] whole c p h = cc
fault-book bytes left place (suc skip) (b ∷ t) whole c p h =
    let same : (place + 1) + skip + length (drop skip t) ≡ bytes = (let e : (place + 1) + skip ≡ place + suc skip = omega arith in ap (λ k. k + length (drop skip t)) e ∙ whole) in
    fault-book bytes left (place + 1) skip t same c p h
fault-book bytes left place zero (b ∷ t) whole c p h =
    on (nat_eq (length (behind (b ∷ t))) 0) refl
    (book_and false (next_form false (nat_eq left 0) (b ∷ t)) place (λ f n. before false (f, place + gaps (b ∷ t)) (book false (left - 1) (place + 1) n t)))
    (λ some. fault-next bytes left place b t (next_form false (nat_eq left 0) (b ∷ t)) start some refl (λ n size. fault-book bytes (left - 1) (place + 1) n t size)) c p h
  where
    start : place + length (b ∷ t) ≡ bytes
    start = omega (arith, whole)

    on : (c : Bool) → nat_eq (length (behind (b ∷ t))) 0 ≡ c → (y : Answers) → (nat_eq (length (behind (b ∷ t))) 0 ≡ false → FaultBook bytes left (b ∷ t) y) → FaultBook bytes left (b ∷ t) (cond c ([], None) y)
    on true e y k c p h = cc
    on false e y k c p h = k e c p h

found-fault : (text : List ℕ) (fs : List (Datum × ℕ)) (c : Code) (p : ℕ) → length text ≤ MAX_BOOK → book_of text ≡ (fs, Some (c, p)) → IsFirstFault (length text) MAX_FORMS text fs c p
found-fault text fs c p short h =
    let read : parse false text ≡ (fs, Some (c, p)) = sym (short-book text short) ∙ h in
    let whole : 0 + 0 + length text ≡ length text = omega arith in
    let found = fault-book (length text) MAX_FORMS 0 0 text whole c p (ap (λ b. b.1) read) in
    subst (λ gs. IsFirstFault (length text) MAX_FORMS text gs c p) (ap (λ b. b.0) read) found

pub faults : FaultsAreFirst
faults = record { each = found-fault }

pub ruleset fault_laws = (faults)
