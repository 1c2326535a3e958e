-- The grammar and the relation agree.
use Rattle.std.proofs.Common.{◌≡◌, ℕ, zero, suc, ◌+◌, ◌-◌, ◌<◌, Bool, true, false, cond, ◌&&◌, nat_eq, nat_lt, ◌≤◌, length-drop, Option, Some, List, [], ◌∷◌, length, take, drop, None, refl, ap, sym, subst, ◌∙◌, arith}
use Rattle.std.proofs.lemmas.List.{drop-drop}
use Rattle.std.proofs.lemmas.List.Sums.{prefix_len-le-length}
use Rattle.std.specs.Prelude.{IfSome}
use Rattle.lisp_reader.specs.Spans as s
use Rattle.lisp_reader.specs.Spans.{later}
use Rattle.lisp_data.specs.Atoms.{in_atom}
use Rattle.lisp_data.specs.Datum.{Datum, PairForm, nil_form}
use Rattle.lisp_data.specs.Atoms.{Leaf, Integer, Named, Point, Wrong, is_odd, leaf}
use Rattle.lisp_data.specs.declared.code.Code.TheVariants.{UnclosedList, BadDot, BookTooLong}
use Rattle.lisp_reader.specs.Spans.{Front, Nothing, Gap, EndlessGap, Open, Close, Quote, Text, EndlessText, Atom, Stray, front, gaps, behind, gaps_from}
use Rattle.lisp_reader.specs.Grammar.{Read, Got, Bad, shift, mapped, and_then, quote_form, Kind, Closes, Points, Item, by_kind, leaf_read, leaf_kind, leaf_fault, one_by, kind_of, kind, closing_by, closing, last_by, last, items, form, begins_form, next_form, book_and, before, book, parse, book_of}
use Rattle.lisp_reader.specs.Relation.{IsForm, integer, symbol, string, quoted, list, IsItems, end, item, last as last_item, IsBook, next, GrammarIsRelation}
use Rattle.lisp_reader.specs.Relation as relation
use Rattle.lisp_reader.specs.Answers.{Answers}
use Rattle.lisp_reader.proofs.Book.{book-and, book-nothing}
use Rattle.lisp_reader.proofs.Ends.{IsBad, none_bad, goes_on}
use Rattle.std.proofs.lemmas.Bool.Decides.{nat_tests}
use Rattle.lisp_reader.proofs.Steps.{list_in, mark_in, form-one, form-nil}
use Rattle.lisp_reader.proofs.Items.{items-close, items-points, items-next}
use Rattle.lisp_reader.specs.declared.limits.TheConstants.{MAX_BOOK, MAX_FORMS, MAX_NESTING}

-- What is read stands in the relation.

-- what is read of t, if anything, and what follows it, are in R
abbrev pub Found : (Datum → List ℕ → Type 0) → List ℕ → Read → Type 0
Found R t (Got f n) = R f (drop (n + 1) t)
Found R t (Bad c n) = Unit {0}

found-shift : (R : Datum → List ℕ → Type 0) (t : List ℕ) (k : ℕ) (r : Read) → Found R (drop k t) r → Found R t (shift k r)
found-shift R t k (Got f n) h =
    let e : k + (n + 1) ≡ (k + n) + 1 = omega arith in
    subst (R f) (drop-drop (n + 1) k t ∙ ap (λ m. drop m t) e) h
found-shift R t k (Bad c n) h = tt

found-mapped : (R S : Datum → List ℕ → Type 0) (h : Datum → Datum) (t : List ℕ) (r : Read) → ((f : Datum) (rest : List ℕ) → R f rest → S (h f) rest) → Found R t r → Found S t (mapped h r)
found-mapped R S h t (Got f n) into p = into f _ p
found-mapped R S h t (Bad c n) into p = tt

found-same : (R S : Datum → List ℕ → Type 0) (t : List ℕ) (r : Read) → ((f : Datum) (rest : List ℕ) → R f rest → S f rest) → Found R t r → Found S t r
found-same R S t (Got f n) into p = into f _ p
found-same R S t (Bad c n) into p = tt

pub closes-are : (some : Bool) (u : List ℕ) (f : Front) → kind_of false some u f ≡ Closes → f ≡ Close
closes-are some u Nothing h = cc
closes-are some u (Gap n) h = cc
closes-are some u EndlessGap h = cc
closes-are some u Open h = cc
closes-are some u Close h = refl
closes-are some u Quote h = cc
closes-are some u (Text n) h = cc
closes-are some u EndlessText h = cc
closes-are false u (Atom n) h = cc
closes-are true u (Atom n) h = on (leaf false (take (n + 1) u)) h
  where
    on : (l : Leaf) → leaf_kind false l ≡ Closes → Atom n ≡ Close
    on (Integer z) e = cc
    on (Named s) e = cc
    on Point e = cc
    on (Wrong c m) e = cc
closes-are some u Stray h = cc

record PointHere (some : Bool) (u : List ℕ) (f : Front) : Type 0 where
  behind_item : true ≡ some
  n : ℕ
  atom : f ≡ Atom n
  point : leaf false (take (n + 1) u) ≡ Point

points-are : (some : Bool) (u : List ℕ) (f : Front) → kind_of false some u f ≡ Points → PointHere some u f
points-are some u Nothing h = cc
points-are some u (Gap n) h = cc
points-are some u EndlessGap h = cc
points-are some u Open h = cc
points-are some u Close h = cc
points-are some u Quote h = cc
points-are some u (Text n) h = cc
points-are some u EndlessText h = cc
points-are false u (Atom n) h = cc
points-are true u (Atom m) h = record { behind_item = refl; n = m; atom = refl; point = on (leaf false (take (m + 1) u)) h }
  where
    on : (l : Leaf) → leaf_kind false l ≡ Points → l ≡ Point
    on (Integer z) e = cc
    on (Named s) e = cc
    on Point e = refl
    on (Wrong c m) e = cc
points-are some u Stray h = cc

-- the last form of a list, and its end
fault-found : (R : Datum → List ℕ → Type 0) (u : List ℕ) (c : Bool) (l : Leaf) → Found R u (cond c (leaf_fault false l) (Bad BadDot 0))
fault-found R u false l = tt
fault-found R u true (Integer z) = tt
fault-found R u true (Named s) = tt
fault-found R u true Point = tt
fault-found R u true (Wrong c n) = tt

found-closing : (R : Datum → List ℕ → Type 0) (f : Datum) (v : List ℕ) → (front (behind v) ≡ Close → R f (drop 1 (behind v))) → Found R v (closing false f v)
found-closing R f v h = found-shift R v (gaps v) _ (on (front (behind v)) h)
  where
    on : (x : Front) → (x ≡ Close → R f (drop 1 (behind v))) → Found R (behind v) (closing_by false f (behind v) x)
    on Nothing k = tt
    on (Gap n) k = tt
    on EndlessGap k = tt
    on Open k = tt
    on Close k = k refl
    on Quote k = tt
    on (Text n) k = tt
    on EndlessText k = tt
    on (Atom n) k = fault-found R (behind v) (is_odd (take (n + 1) (behind v))) (leaf false (take (n + 1) (behind v)))
    on Stray k = tt

abbrev FormsFound : ℕ → Type 0
FormsFound k = (t : List ℕ) → Found (IsForm k t) t (form false true k t)

found-last : (k : ℕ) (t w : List ℕ) → FormsFound k → PointHere true (behind t) (front (behind t)) → w ≡ drop 1 (behind t) → Found (IsItems k true t) w (last false (form false true k) w)
found-last k t w forms here same = on (kind false false w) (form false true k w) (forms w)
  where
    got : (f : Datum) (n : ℕ) → IsForm k w f (drop (n + 1) w) → Found (IsItems k true t) w (shift (n + 1) (closing false f (drop (n + 1) w)))
    got f n p =
        let moved : IsForm k (drop 1 (behind t)) f (drop (n + 1) w) = subst (λ x. IsForm k x f (drop (n + 1) w)) same p in
        found-shift (IsItems k true t) w (n + 1) _ (found-closing (IsItems k true t) f (drop (n + 1) w) (λ c. last_item here.n here.atom here.point moved c))

    on : (x : Kind) (r : Read) → Found (IsForm k w) w r →
        Found (IsItems k true t) w (last_by false (λ _. r) w x)
    on Closes r p = tt
    on Points (Got f n) p = got f n p
    on Points (Bad c n) p = tt
    on Item (Got f n) p = got f n p
    on Item (Bad c n) p = tt

found-items : (k : ℕ) → FormsFound k → (some : Bool) (skip : ℕ) (t : List ℕ) → Found (IsItems k some (drop skip t)) t (items false (form false true k) some skip t)
unfolding items
found-items k forms some zero [] = tt
found-items k forms some (suc skip) [] = tt
found-items k forms some (suc skip) (b ∷ t) = found-shift (IsItems k some (drop skip t)) (b ∷ t) 1 _ (found-items k forms some skip t)
found-items k forms some zero (b ∷ t) = on (kind false some (b ∷ t)) refl (form false true k (b ∷ t)) (forms (b ∷ t)) (λ n. found-items k forms true n t)
  where
    w : List ℕ
    w = b ∷ t

    far : drop 1 (behind w) ≡ drop (gaps w + 1) w
    far = drop-drop 1 (gaps w) w

    point : PointHere some (behind w) (front (behind w)) → Found (IsItems k some w) w (shift (gaps w + 1) (last false (form false true k) (drop (gaps w + 1) w)))
    point here =
        let moved : PointHere true (behind w) (front (behind w)) = record { behind_item = refl; n = here.n; atom = here.atom; point = here.point } in
        found-shift (IsItems k some w) w (gaps w + 1) _
        (subst (λ s. Found (IsItems k s w) (drop (gaps w + 1) w) (last false (form false true k) (drop (gaps w + 1) w))) here.behind_item
        (found-last k w (drop (gaps w + 1) w) forms moved (sym far)))

    on : (x : Kind) → kind false some w ≡ x → (r : Read) → Found (IsForm k w) w r → ((n : ℕ) → Found (IsItems k true (drop n t)) t (items false (form false true k) true n t)) →
        Found (IsItems k some w) w
        (by_kind x (Got nil_form (gaps w)) (shift (gaps w + 1) (last false (form false true k) (drop (gaps w + 1) w)))
        (and_then r (λ f n. mapped (PairForm f) (shift 1 (items false (form false true k) true n t)))))
    on Closes e r p more = subst (IsItems k some w nil_form) far (end w (closes-are some (behind w) (front (behind w)) e))
    on Points e r p more = point (points-are some (behind w) (front (behind w)) e)
    on Item e (Bad c n) p more = tt
    on Item e (Got f n) p more =
        let next : n + 1 ≡ suc n = omega arith in
        let first : IsForm k w f (drop n t) = subst (λ m. IsForm k w f (drop m w)) next p in
        found-mapped (IsItems k true (drop n t)) (IsItems k some w) (PairForm f) w _ (λ d rest q. item first q)
        (found-shift (IsItems k true (drop n t)) w 1 _ (more n))

-- what is read after a parenthesis or a quote
found-list : (k : ℕ) (t : List ℕ) → ((d : ℕ) → k ≡ suc d → FormsFound d) → front (behind t) ≡ Open → Found (IsForm k t) (behind t) (list_in false k (behind t))
found-list zero t below e = tt
found-list (suc d) t below e =
    found-shift (IsForm (suc d) t) (behind t) 1 _
    (found-same (IsItems d false (drop 1 (behind t))) (IsForm (suc d) t) (drop 1 (behind t)) _ (λ f rest p. list e p) (found-items d (below d refl) false 0 (drop 1 (behind t))))

found-mark : (k : ℕ) (t : List ℕ) → ((d : ℕ) → k ≡ suc d → FormsFound d) → front (behind t) ≡ Quote → Found (IsForm k t) (behind t) (mark_in false k (behind t))
found-mark zero t below e = tt
found-mark (suc d) t below e =
    found-shift (IsForm (suc d) t) (behind t) 1 _
    (found-mapped (IsForm d (drop 1 (behind t))) (IsForm (suc d) t) quote_form (drop 1 (behind t)) _ (λ f rest p. quoted e p) (below d refl (drop 1 (behind t))))

found-one : (k : ℕ) (inside : Bool) (t : List ℕ) → ((d : ℕ) → k ≡ suc d → FormsFound d) → Found (IsForm k t) t (form false inside k t)
found-one k inside t below = subst (Found (IsForm k t) t) (sym (form-one false inside k t)) (found-shift (IsForm k t) t (gaps t) _ (on (front (behind t)) refl))
  where
    by_leaf : (n : ℕ) (l : Leaf) → front (behind t) ≡ Atom n → leaf false (take (n + 1) (behind t)) ≡ l → Found (IsForm k t) (behind t) (leaf_read false l n)
    by_leaf n (Integer z) e h = integer t n z e h
    by_leaf n (Named s) e h = symbol t n s e h
    by_leaf n Point e h = tt
    by_leaf n (Wrong c m) e h = tt

    on : (x : Front) → front (behind t) ≡ x → Found (IsForm k t) (behind t) (one_by false inside (list_in false k) (mark_in false k) (behind t) x)
    on Nothing e = tt
    on (Gap n) e = tt
    on EndlessGap e = tt
    on Open e = found-list k t below e
    on Close e = tt
    on Quote e = found-mark k t below e
    on (Text n) e = string t n e
    on EndlessText e = tt
    on (Atom n) e = by_leaf n (leaf false (take (n + 1) (behind t))) e refl
    on Stray e = tt

pub found-form : (k : ℕ) (inside : Bool) (t : List ℕ) → Found (IsForm k t) t (form false inside k t)
found-form zero inside t = found-one zero inside t (λ d e. absurd (let k = e in cc))
found-form (suc k) inside t = found-one (suc k) inside t (λ d e. (let same : k ≡ d = cc in subst FormsFound same (λ s. found-form k true s)))

-- What stands in the relation is read.

pub record Reads (r : Read) (t : List ℕ) (f : Datum) (rest : List ℕ) : Type 0 where
  pub n : ℕ
  pub got : r ≡ Got f n
  pub far : rest ≡ drop (n + 1) t
  pub room : n < length t

reads-same : (r s : Read) (t : List ℕ) (f : Datum) (rest : List ℕ) → r ≡ s → Reads s t f rest → Reads r t f rest
reads-same r s t f rest e p = record { n = p.n; got = e ∙ p.got; far = p.far; room = p.room }

reads-shift : (r : Read) (t : List ℕ) (k : ℕ) (f : Datum) (rest : List ℕ) → Reads r (drop k t) f rest → Reads (shift k r) t f rest
reads-shift r t k f rest p =
    let e : k + (p.n + 1) ≡ (k + p.n) + 1 = omega arith in
    record { n = k + p.n; got = ap (shift k) p.got; far = p.far ∙ drop-drop (p.n + 1) k t ∙ ap (λ m. drop m t) e; room = omega (arith, p.room, length-drop k t) }

reads-mapped : (h : Datum → Datum) (r : Read) (t : List ℕ) (f : Datum) (rest : List ℕ) → Reads r t f rest → Reads (mapped h r) t (h f) rest
reads-mapped h r t f rest p = record { n = p.n; got = ap (mapped h) p.got; far = p.far; room = p.room }

-- There is room for what the text begins with.

abbrev Room : ℕ → Front → Type 0
Room n (Text m) = m < n
Room n (Atom m) = m < n
Room n _ = Unit {0}

either : (n : ℕ) (c : Bool) (x y : Front) → Room n x → Room n y → Room n (cond c x y)
either n true x y h k = h
either n false x y h k = k

later-room : (k n : ℕ) (o : Option ℕ) → IfSome o (λ m. m < n) → IfSome (later k o) (λ m. m < n + k)
later-room k n None h = tt
later-room k n (Some m) h = omega arith

some-either : (n : ℕ) (c : Bool) (x y : Option ℕ) → IfSome x (λ m. m < n) → IfSome y (λ m. m < n) → IfSome (cond c x y) (λ m. m < n)
some-either n true x y h k = h
some-either n false x y h k = k

string-within : (t : List ℕ) → IfSome (s.string t) (λ m. m < length t)
unfolding s.string
string-within [] = tt
string-within (b ∷ []) = some-either 1 (nat_eq b 34) (Some 0) None (omega arith) tt
string-within (b ∷ c ∷ t) =
    let two : length t + 2 ≡ length (b ∷ c ∷ t) = omega arith in
    let one : length (c ∷ t) + 1 ≡ length (b ∷ c ∷ t) = omega arith in
    some-either (length (b ∷ c ∷ t)) (nat_eq b 34) (Some 0) _ (omega arith)
    (some-either (length (b ∷ c ∷ t)) (nat_eq b 92) (later 2 (s.string t)) (later 1 (s.string (c ∷ t)))
    (subst (λ n. IfSome (later 2 (s.string t)) (λ m. m < n)) two (later-room 2 (length t) (s.string t) (string-within t)))
    (subst (λ n. IfSome (later 1 (s.string (c ∷ t))) (λ m. m < n)) one (later-room 1 (length (c ∷ t)) (s.string (c ∷ t)) (string-within (c ∷ t)))))

text-room : (n : ℕ) (o : Option ℕ) → IfSome o (λ m. m < n) → Room (n + 1) (s.text o)
text-room n None h = tt
text-room n (Some m) h = omega arith

comment-room : (n : ℕ) (o : Option ℕ) → Room n (s.comment o)
comment-room n None = tt
comment-room n (Some m) = tt

plain-room : (b : ℕ) (t : List ℕ) → Room (length t + 1) (s.plain b t)
plain-room b t =
    let n = length t + 1 in
    let run_fits : s.run t < n = omega (arith, prefix_len-le-length in_atom t) in
    either n (s.is_blank b) (Gap 0) _ tt (either n (nat_eq b 59) (Gap (s.line t)) _ tt (either n (nat_eq b 40) Open _ tt (either n (nat_eq b 41) Close _ tt (either n (nat_eq b 39) Quote _ tt
    (either n (nat_eq b 34) (s.text (s.string t)) _ (text-room (length t) (s.string t) (string-within t)) (either n (in_atom b) (Atom (s.run t)) Stray run_fits tt))))))

front-room : (u : List ℕ) → Room (length u) (front u)
unfolding front
front-room [] = tt
front-room (b ∷ t) =
    let n : length t + 1 ≡ length (b ∷ t) = omega arith in
    either (length (b ∷ t)) (s.opens_block (b ∷ t)) (s.comment (s.block 0 (drop 1 t))) (s.plain b t) (comment-room (length (b ∷ t)) (s.block 0 (drop 1 t))) (subst (λ k. Room k (s.plain b t)) n (plain-room b t))

atom-room : (u : List ℕ) (n : ℕ) → front u ≡ Atom n → n < length u
atom-room u n e = subst (Room (length u)) e (front-room u)

string-room : (u : List ℕ) (n : ℕ) → front u ≡ Text n → n < length u
string-room u n e = subst (Room (length u)) e (front-room u)

close-room : (u : List ℕ) → front u ≡ Close → 0 < length u
unfolding front
close-room [] e = cc
close-room (b ∷ u) e = omega arith

gaps-room : (t : List ℕ) → 0 < length (behind t) → gaps t < length t
gaps-room t h = omega (arith, length-drop (gaps t) t)

-- a form by what stands after its gaps
reads-front : (k : ℕ) (inside : Bool) (t : List ℕ) (x : Front) (f : Datum) (rest : List ℕ) → front (behind t) ≡ x →
    Reads (one_by false inside (list_in false k) (mark_in false k) (behind t) x) (behind t) f rest → Reads (form false inside k t) t f rest
reads-front k inside t x f rest e p =
    reads-same _ _ t f rest (form-one false inside k t ∙ ap (λ y. shift (gaps t) (one_by false inside (list_in false k) (mark_in false k) (behind t) y)) e)
    (reads-shift _ t (gaps t) f rest p)

atom-kind : (some : Bool) (t : List ℕ) (n : ℕ) (l : Leaf) → front (behind t) ≡ Atom n → leaf false (take (n + 1) (behind t)) ≡ l → leaf_kind false l ≡ Item → kind false some t ≡ Item
atom-kind false t n l e h k = ap (kind_of false false (behind t)) e
atom-kind true t n l e h k = ap (kind_of false true (behind t)) e ∙ ap (leaf_kind false) h ∙ k

form-kind : (k : ℕ) (some : Bool) (t : List ℕ) (f : Datum) (rest : List ℕ) → IsForm k t f rest → kind false some t ≡ Item
form-kind k some _ _ _ (integer t n z e h) = atom-kind some t n (Integer z) e h refl
form-kind k some _ _ _ (symbol t n s e h) = atom-kind some t n (Named s) e h refl
form-kind k some _ _ _ (string t n e) = ap (kind_of false some (behind t)) e
form-kind _ some t _ _ (quoted e p) = ap (kind_of false some (behind t)) e
form-kind _ some t _ _ (list e p) = ap (kind_of false some (behind t)) e

got-room : (k : ℕ) (t : List ℕ) (f : Datum) (n : ℕ) → form false true k t ≡ Got f n → 0 < length t
got-room k [] f n h = absurd (let none : Bad UnclosedList 0 ≡ Got f n = sym (form-nil false true k) ∙ h in cc)
got-room k (b ∷ t) f n h = omega arith

-- an item, and the items after it
reads-item : (k : ℕ) (some : Bool) (t : List ℕ) (f d : Datum) (middle rest : List ℕ) → IsForm k t f middle → Reads (form false true k t) t f middle →
    Reads (items false (form false true k) true 0 middle) middle d rest → Reads (items false (form false true k) some 0 t) t (PairForm f d) rest
reads-item k some t f d middle rest p r q =
    let F : List ℕ → Read = form false true k in
    let behind_it : Reads (items false F true 0 (drop (r.n + 1) t)) (drop (r.n + 1) t) d rest = subst (λ (m : List ℕ). Reads (items false F true 0 m) m d rest) r.far q in
    reads-same _ _ t (PairForm f d) rest (items-next false F some t f r.n (form-kind k some t f middle p) r.got (got-room k t f r.n r.got))
    (reads-mapped (PairForm f) _ t d rest (reads-shift _ t (r.n + 1) d rest behind_it))

-- a point, the last form and the end
reads-closing : (f : Datum) (v : List ℕ) → front (behind v) ≡ Close → Reads (closing false f v) v f (drop 1 (behind v))
reads-closing f v c =
    reads-same _ _ v f (drop 1 (behind v)) (ap (λ x. shift (gaps v) (closing_by false f (behind v) x)) c) (reads-shift (Got f 0) v (gaps v) f (drop 1 (behind v)) (record { n = 0; got = refl; far = refl; room = close-room (behind v) c }))

reads-last : (k : ℕ) (t : List ℕ) (n : ℕ) (f : Datum) (middle : List ℕ) → front (behind t) ≡ Atom n → leaf false (take (n + 1) (behind t)) ≡ Point → IsForm k (drop 1 (behind t)) f middle →
    Reads (form false true k (drop 1 (behind t))) (drop 1 (behind t)) f middle → front (behind middle) ≡ Close →
    Reads (items false (form false true k) true 0 t) t f (drop 1 (behind middle))
reads-last k t n f middle e h p r c =
    let F : List ℕ → Read = form false true k in
    let w : List ℕ = drop 1 (behind t) in
    let same : w ≡ drop (gaps t + 1) t = drop-drop 1 (gaps t) t in
    let rest : List ℕ = drop 1 (behind middle) in
    let point : kind false true t ≡ Points = ap (kind_of false true (behind t)) e ∙ ap (leaf_kind false) h in
    let closed : Reads (closing false f (drop (r.n + 1) w)) (drop (r.n + 1) w) f rest = subst (λ (m : List ℕ). Reads (closing false f m) m f rest) r.far (reads-closing f middle c) in
    let read : last false F w ≡ shift (r.n + 1) (closing false f (drop (r.n + 1) w)) =
    (ap (last_by false F w) (form-kind k false w f middle p) ∙ ap (λ x. and_then x (λ g m. shift (m + 1) (closing false g (drop (m + 1) w)))) r.got) in
    let ending : Reads (last false F w) w f rest = reads-same _ _ w f rest read (reads-shift _ w (r.n + 1) f rest closed) in
    reads-same _ _ t f rest (items-points false F true t point)
    (reads-shift _ t (gaps t + 1) f rest (subst (λ (x : List ℕ). Reads (last false F x) x f rest) same ending))

mutual
  pub reads-form : {k : ℕ} {t : List ℕ} {f : Datum} {rest : List ℕ} → IsForm k t f rest → (inside : Bool) → Reads (form false inside k t) t f rest
  reads-form (integer t n z e h) inside = reads-front _ inside t (Atom n) _ _ e (record { n = n; got = ap (λ l. leaf_read false l n) h; far = refl; room = atom-room (behind t) n e })
  reads-form (symbol t n s e h) inside = reads-front _ inside t (Atom n) _ _ e (record { n = n; got = ap (λ l. leaf_read false l n) h; far = refl; room = atom-room (behind t) n e })
  reads-form (string t n e) inside = reads-front _ inside t (Text n) _ _ e (record { n = n; got = refl; far = refl; room = string-room (behind t) n e })
  reads-form (quoted e p) inside =
      reads-front _ inside _ Quote _ _ e (reads-shift _ (behind _) 1 _ _ (reads-mapped quote_form _ (drop 1 (behind _)) _ _ (reads-form p true)))
  reads-form (list e p) inside = reads-front _ inside _ Open _ _ e (reads-shift _ (behind _) 1 _ _ (reads-items p))

  reads-items : {k : ℕ} {some : Bool} {t : List ℕ} {d : Datum} {rest : List ℕ} → IsItems k some t d rest → Reads (items false (form false true k) some 0 t) t d rest
  reads-items (end t e) = record { n = gaps t; got = items-close false _ _ t (ap (kind_of false _ (behind t)) e); far = drop-drop 1 (gaps t) t; room = gaps-room t (close-room (behind t) e) }
  reads-items (item p q) = reads-item _ _ _ _ _ _ _ p (reads-form p true) (reads-items q)
  reads-items (last_item n e h p c) = reads-last _ _ n _ _ e h p (reads-form p true) c

-- Whole books.

and-false : (a : Bool) → (a && false) ≡ false
and-false true = refl
and-false false = refl

-- a form may come
pub free-form : (left : ℕ) (t : List ℕ) → next_form false (nat_eq (suc left) 0) t ≡ form false false MAX_NESTING t
free-form left t =
    let some : nat_eq (suc left) 0 ≡ false = grind (arith, nat_tests) in
    ap (λ c. cond (begins_form false (behind t) && c) (Bad BookTooLong (gaps t)) (form false false MAX_NESTING t)) some
    ∙ ap (λ c. cond c (Bad BookTooLong (gaps t)) (form false false MAX_NESTING t)) (and-false (begins_form false (behind t)))

nothing-there : (u : List ℕ) → nat_eq (length u) 0 ≡ true → u ≡ []
nothing-there [] h = refl
nothing-there (b ∷ u) h = absurd (let none : nat_eq (length (b ∷ u)) 0 ≡ false = grind (arith, nat_tests) in let k : true ≡ false = sym h ∙ none in cc)

-- the place of a form is what stands before it
pub place-is : (bytes place : ℕ) (t : List ℕ) → place + length t ≡ bytes → nat_eq (length (behind t)) 0 ≡ false → bytes - length (behind t) ≡ place + gaps t
place-is bytes place t whole some =
    let long : 0 < length (behind t) = grind (arith, nat_tests) in
    omega (arith, length-drop (gaps t) t)

-- so many bytes are left after a form
left-is : (bytes place n : ℕ) (t : List ℕ) → place + length t ≡ bytes → n < length t → (place + (n + 1)) + length (drop (n + 1) t) ≡ bytes
left-is bytes place n t whole room = omega (arith, length-drop (n + 1) t)

abbrev FoundBook : ℕ → ℕ → List ℕ → Answers → Type 0
FoundBook bytes left t b = b.1 ≡ None → IsBook bytes left t b.0

form-room : (t : List ℕ) (f : Datum) (n : ℕ) (rest : List ℕ) → form false false MAX_NESTING t ≡ Got f n → IsForm MAX_NESTING t f rest → n < length t
form-room t f n rest e p =
    let r = reads-form p false in
    let same : Got f n ≡ Got f r.n = sym e ∙ r.got in
    let number : r.n ≡ n = cc in
    subst (λ m. m < length t) number r.room

-- a form of a book, and the forms after it
found-next : (bytes left place : ℕ) (b : ℕ) (t : List ℕ) (r : Read) → place + length (b ∷ t) ≡ bytes → nat_eq (length (behind (b ∷ t))) 0 ≡ false → next_form false (nat_eq left 0) (b ∷ t) ≡ r →
    ((n : ℕ) → (place + 1) + n + length (drop n t) ≡ bytes → FoundBook bytes (left - 1) (drop n t) (book false (left - 1) (place + 1) n t)) →
    FoundBook bytes left (b ∷ t) (book_and false r place (λ f n. before false (f, place + gaps (b ∷ t)) (book false (left - 1) (place + 1) n t)))
found-next bytes left place b t (Bad c n) whole some e more h = absurd (let k = h in cc)
found-next bytes zero place b t (Got f n) whole some e more h = absurd (subst IsBad e (none_bad false (b ∷ t)))
found-next bytes (suc left) place b t (Got f n) whole some e more h =
    let w : List ℕ = b ∷ t in
    let read : form false false MAX_NESTING w ≡ Got f n = sym (free-form left w) ∙ e in
    let far : n + 1 ≡ suc n = omega arith in
    let less : suc left - 1 ≡ left = omega arith in
    let first : IsForm MAX_NESTING w f (drop (n + 1) w) = subst (Found (IsForm MAX_NESTING w) w) read (found-form MAX_NESTING false w) in
    let near : IsForm MAX_NESTING w f (drop n t) = subst (λ m. IsForm MAX_NESTING w f (drop m w)) far first in
    let room : n < length w = form-room w f n (drop (n + 1) w) read first in
    let size : (place + 1) + n + length (drop n t) ≡ bytes = omega (arith, length-drop n t) in
    let rest : IsBook bytes left (drop n t) (book false (suc left - 1) (place + 1) n t).0 = subst (λ k. IsBook bytes k (drop n t) (book false (suc left - 1) (place + 1) n t).0) less (more n size h) in
    subst (λ k. IsBook bytes (suc left) w ((f, k) ∷ (book false (suc left - 1) (place + 1) n t).0)) (place-is bytes place w whole some) (next near rest)

found-book : (bytes left place skip : ℕ) (t : List ℕ) → place + skip + length (drop skip t) ≡ bytes → FoundBook bytes left (drop skip t) (book false left place skip t)
unfolding book gaps_from
found-book bytes left place zero [] whole h = relation.end [] refl
found-book bytes left place (suc skip) [] whole h = relation.end [] refl
found-book bytes left place (suc skip) (b ∷ t) whole h =
    let same : (place + 1) + skip + length (drop skip t) ≡ bytes = (let e : (place + 1) + skip ≡ place + suc skip = omega arith in ap (λ k. k + length (drop skip t)) e ∙ whole) in
    found-book bytes left (place + 1) skip t same h
found-book bytes left place zero (b ∷ t) whole h =
    on (nat_eq (length (behind (b ∷ t))) 0) refl
    (book_and false (next_form false (nat_eq left 0) (b ∷ t)) place (λ f n. before false (f, place + gaps (b ∷ t)) (book false (left - 1) (place + 1) n t)))
    (λ some. found-next bytes left place b t (next_form false (nat_eq left 0) (b ∷ t)) start some refl (λ n size. found-book bytes (left - 1) (place + 1) n t size)) h
  where
    start : place + length (b ∷ t) ≡ bytes
    start = omega (arith, whole)

    on : (c : Bool) → nat_eq (length (behind (b ∷ t))) 0 ≡ c → (y : Answers) → (nat_eq (length (behind (b ∷ t))) 0 ≡ false → FoundBook bytes left (b ∷ t) y) → FoundBook bytes left (b ∷ t) (cond c ([], None) y)
    on true e y k g = relation.end (b ∷ t) (nothing-there (behind (b ∷ t)) e)
    on false e y k g = k e g

-- and back
book-far : (left place skip : ℕ) (t : List ℕ) → book false left place skip t ≡ book false left (place + skip) 0 (drop skip t)
unfolding book
book-far left place zero [] = refl
book-far left place zero (b ∷ t) = let e : place ≡ place + 0 = omega arith in ap (λ p. book false left p 0 (b ∷ t)) e
book-far left place (suc k) [] = refl
book-far left place (suc k) (b ∷ t) =
    let e : (place + 1) + k ≡ place + suc k = omega arith in
    book-far left (place + 1) k t ∙ ap (λ p. book false left p 0 (drop k t)) e

some-front : (u : List ℕ) (x : Front) → front u ≡ x → (x ≡ Nothing → ⊥) → nat_eq (length u) 0 ≡ false
unfolding front
some-front [] x e n = absurd (n (sym e))
some-front (b ∷ u) x e n = grind (arith, nat_tests)

form-some : (k : ℕ) (t : List ℕ) (f : Datum) (rest : List ℕ) → IsForm k t f rest → nat_eq (length (behind t)) 0 ≡ false
form-some k _ _ _ (integer t n z e h) = some-front (behind t) (Atom n) e (λ q. (let k = q in cc))
form-some k _ _ _ (symbol t n s e h) = some-front (behind t) (Atom n) e (λ q. (let k = q in cc))
form-some k _ _ _ (string t n e) = some-front (behind t) (Text n) e (λ q. (let k = q in cc))
form-some _ t _ _ (quoted e p) = some-front (behind t) Quote e (λ q. (let k = q in cc))
form-some _ t _ _ (list e p) = some-front (behind t) Open e (λ q. (let k = q in cc))

reads-next : (bytes left place : ℕ) (t : List ℕ) (f : Datum) (rest : List ℕ) (fs : List (Datum × ℕ)) → place + length t ≡ bytes → nat_eq (length (behind t)) 0 ≡ false →
    (r : Reads (form false false MAX_NESTING t) t f rest) → book false left ((place + 1) + r.n) 0 rest ≡ (fs, None) → book false (suc left) place 0 t ≡ ((f, bytes - length (behind t)) ∷ fs, None)
reads-next bytes left place [] f rest fs whole some r q = absurd (let none : Bad UnclosedList 0 ≡ Got f r.n = sym (form-nil false false MAX_NESTING) ∙ r.got in cc)
reads-next bytes left place (b ∷ t) f rest fs whole some r q =
    let w : List ℕ = b ∷ t in
    let less : suc left - 1 ≡ left = omega arith in
    let far : r.n + 1 ≡ suc r.n = omega arith in
    let there : rest ≡ drop r.n t = r.far ∙ ap (λ m. drop m w) far in
    let behind_it : book false (suc left - 1) (place + 1) r.n t ≡ (fs, None) =
    (book-far (suc left - 1) (place + 1) r.n t ∙ (λ i. book false (less i) ((place + 1) + r.n) 0 (sym there i)) ∙ q) in
    book-and false (suc left) place w (Got f r.n) some (free-form left w ∙ r.got) b t refl
    ∙ ap (before false (f, place + gaps w)) behind_it ∙ ap (λ k. ((f, k) ∷ fs, None)) (sym (place-is bytes place w whole some))

size-is : (bytes place : ℕ) (t : List ℕ) (f : Datum) (rest : List ℕ) (r : Reads (form false false MAX_NESTING t) t f rest) → place + length t ≡ bytes → ((place + 1) + r.n) + length rest ≡ bytes
size-is bytes place t f rest r whole = omega (arith, ap length r.far, length-drop (r.n + 1) t, r.room, whole)

reads-book : {bytes left : ℕ} {t : List ℕ} {fs : List (Datum × ℕ)} → IsBook bytes left t fs → (place : ℕ) → place + length t ≡ bytes → book false left place 0 t ≡ (fs, None)
reads-book {bytes} {left} (relation.end t e) place whole = book-nothing false left place t (ap length e)
reads-book {bytes} (next p q) place whole =
    let r = reads-form p false in
    reads-next bytes _ place _ _ _ _ whole (form-some MAX_NESTING _ _ _ p) r (reads-book q ((place + 1) + r.n) (size-is bytes place _ _ _ r whole))

pub short-book : (text : List ℕ) → length text ≤ MAX_BOOK → book_of text ≡ parse false text
short-book text h =
    let short : nat_lt MAX_BOOK (length text) ≡ false = grind (arith, nat_tests) in
    ap (λ c. cond c (parse true (take MAX_BOOK text)) (parse false text)) short

-- a book without a fault isn't too long
ends-short : (text : List ℕ) (fs : List (Datum × ℕ)) → book_of text ≡ (fs, None) → length text ≤ MAX_BOOK
ends-short text fs h = on (nat_lt MAX_BOOK (length text)) refl h
  where
    on : (c : Bool) → nat_lt MAX_BOOK (length text) ≡ c → cond c (parse true (take MAX_BOOK text)) (parse false text) ≡ (fs, None) → length text ≤ MAX_BOOK
    on true e k = absurd (goes_on (take MAX_BOOK text) (ap (λ b. b.1) k))
    on false e k = grind (arith, nat_tests)

pub grammar : GrammarIsRelation
grammar = record {
  only = λ text fs h. (
      let short = ends-short text fs h in
      let read : parse false text ≡ (fs, None) = sym (short-book text short) ∙ h in
      let whole : 0 + 0 + length text ≡ length text = omega arith in
      let found = found-book (length text) MAX_FORMS 0 0 text whole (ap (λ b. b.1) read) in
      (short, subst (IsBook (length text) MAX_FORMS text) (ap (λ b. b.0) read) found));
  each = λ text fs short p. (let whole : 0 + length text ≡ length text = omega arith in short-book text short ∙ reads-book p 0 whole);
}

pub ruleset relation_laws = (grammar)
