-- The rest of a list, item by item.
use Rattle.std.proofs.Common.{◌≡◌, ℕ, zero, suc, ◌+◌, ◌-◌, ◌<◌, ◌≤◌, Bool, true, false, cond, nat_lt, Ok, Err, List, [], ◌∷◌, ◌++◌, length, drop, refl, ap, sym, ◌∙◌, arith, inl, inr, ◌⊎◌, length-drop}
use Rattle.std.proofs.lemmas.List.{drop-drop}
use Rattle.std.proofs.lemmas.Bool.Decides.{nat_tests}
use Rattle.lisp_data.specs.Datum.{Datum, PairForm, nil_form, chain}
use Rattle.lisp_data.specs.Atoms as atoms
use Rattle.lisp_data.specs.Atoms.{Leaf}
use Rattle.lisp_reader.specs.Spans.{front, gaps_from, gaps}
use Rattle.lisp_reader.specs.view.TokenView.{seen}
use Rattle.lisp_reader.specs.view.Says.{is_point, SaysRead, SaysPlace}
use Rattle.lisp_reader.specs.Grammar.{Read, Got, Bad, shift, mapped, and_then, Kind, Closes, Points, Item, by_kind, at_end, leaf_kind, kind_of, kind, last_by, last, closing, items, form}
use Rattle.lisp_reader.specs.view.Closes.{close, closed}
use Rattle.lisp_reader.specs.declared.read.ReadError.{ReadError}
use Rattle.lisp_reader.specs.declared.read.ReadError.TheVariants as errors
use Rattle.lisp_reader.specs.declared.token.Token.{Token}
use Rattle.lisp_reader.specs.declared.token.Token.TheVariants as tokens
use Rattle.lisp_reader.proofs.Steps.{shift-shift, shift-zero, shift-mapped, bad-here, seen-gap, token-gaps, behind-at, form-nil, form-behind, read-open, says-same}
use Rattle.lisp_reader.proofs.Lists.{close-mapped, closed-mapped, closed-bad}
use Rattle.lisp_data.specs.declared.code.Code.{Code}
use Rattle.lisp_data.specs.declared.code.Code.TheVariants.{UnclosedList, BadDot}
use Rattle.lisp_reader.specs.declared.limits.TheConstants.{MAX_NESTING}

module _ (more : Bool) where
  items-skip : (f : List ℕ → Read) (some : Bool) (skip : ℕ) (t : List ℕ) → items more f some skip t ≡ shift skip (items more f some 0 (drop skip t))
  unfolding items
  items-skip f some zero [] = sym (shift-zero (items more f some 0 []))
  items-skip f some zero (b ∷ t) = sym (shift-zero (items more f some 0 (b ∷ t)))
  items-skip f some (suc k) [] = sym (bad-here _ (suc k))
  items-skip f some (suc k) (b ∷ t) =
      let e : 1 + k ≡ suc k = omega arith in
      ap (shift 1) (items-skip f some k t) ∙ shift-shift 1 k _ ∙ ap (λ n. shift n (items more f some 0 (drop k t))) e

  pub items-close : (f : List ℕ → Read) (some : Bool) (t : List ℕ) → kind more some t ≡ Closes → items more f some 0 t ≡ Got nil_form (gaps t)
  unfolding items front gaps_from
  items-close f some [] h = cc
  items-close f some (b ∷ t) h = ap (λ k. by_kind k (Got nil_form (gaps (b ∷ t))) (shift (gaps (b ∷ t) + 1) (last more f (drop (gaps (b ∷ t) + 1) (b ∷ t)))) (and_then (f (b ∷ t)) (λ x m. mapped (PairForm x) (shift 1 (items more f true m t))))) h

  pub items-points : (f : List ℕ → Read) (some : Bool) (t : List ℕ) → kind more some t ≡ Points → items more f some 0 t ≡ shift (gaps t + 1) (last more f (drop (gaps t + 1) t))
  unfolding items front gaps_from
  items-points f some [] h = cc
  items-points f some (b ∷ t) h = ap (λ k. by_kind k (Got nil_form (gaps (b ∷ t))) (shift (gaps (b ∷ t) + 1) (last more f (drop (gaps (b ∷ t) + 1) (b ∷ t)))) (and_then (f (b ∷ t)) (λ x m. mapped (PairForm x) (shift 1 (items more f true m t))))) h

  pub items-next : (f : List ℕ → Read) (some : Bool) (t : List ℕ) (x : Datum) (n : ℕ) → kind more some t ≡ Item → f t ≡ Got x n → 0 < length t →
      items more f some 0 t ≡ mapped (PairForm x) (shift (n + 1) (items more f true 0 (drop (n + 1) t)))
  unfolding items
  items-next f some [] x n h r room = absurd (omega arith)
  items-next f some (b ∷ t) x n h r room =
      let rest : Datum → ℕ → Read = λ x m. mapped (PairForm x) (shift 1 (items more f true m t)) in
      let plus : 1 + n ≡ n + 1 = omega arith in
      let next : suc n ≡ n + 1 = omega arith in
      ap (λ k. by_kind k (Got nil_form (gaps (b ∷ t))) (shift (gaps (b ∷ t) + 1) (last more f (drop (gaps (b ∷ t) + 1) (b ∷ t)))) (and_then (f (b ∷ t)) rest)) h
      ∙ ap (λ r. and_then r rest) r
      ∙ ap (λ r. mapped (PairForm x) (shift 1 r)) (items-skip f true n t)
      ∙ ap (mapped (PairForm x)) (shift-shift 1 n _)
      ∙ ap (λ m. mapped (PairForm x) (shift m (items more f true 0 (drop n t)))) plus
      ∙ ap (λ m. mapped (PairForm x) (shift (n + 1) (items more f true 0 (drop m (b ∷ t))))) next

  pub items-item : (f : List ℕ → Read) (some : Bool) (t : List ℕ) (x : Datum) (n : ℕ) → kind more some t ≡ Item → f t ≡ Got x n → n < length t →
      items more f some 0 t ≡ mapped (PairForm x) (shift (n + 1) (items more f true 0 (drop (n + 1) t)))
  items-item f some t x n h r room = items-next f some t x n h r (omega arith)

  items-bad : (f : List ℕ → Read) (some : Bool) (t : List ℕ) (c : Code) (n : ℕ) → kind more some t ≡ Item → f [] ≡ Bad (at_end more UnclosedList) 0 → f t ≡ Bad c n →
      items more f some 0 t ≡ Bad c n
  unfolding items
  items-bad f some [] c n h z r = sym z ∙ r
  items-bad f some (b ∷ t) c n h z r =
      let rest : Datum → ℕ → Read = λ x m. mapped (PairForm x) (shift 1 (items more f true m t)) in
      ap (λ k. by_kind k (Got nil_form (gaps (b ∷ t))) (shift (gaps (b ∷ t) + 1) (last more f (drop (gaps (b ∷ t) + 1) (b ∷ t)))) (and_then (f (b ∷ t)) rest)) h
      ∙ ap (λ r. and_then r rest) r

chain-push : (fs : List Datum) (f d : Datum) → chain fs (PairForm f d) ≡ chain (fs ++ f ∷ []) d
chain-push [] f d = refl
chain-push (g ∷ fs) f d = ap (λ r. PairForm g r) (chain-push fs f d)

regroup : (fs : List Datum) (f : Datum) (at m : ℕ) (r : Read) → mapped (chain fs) (shift at (mapped (PairForm f) (shift m r))) ≡ mapped (chain (fs ++ f ∷ [])) (shift (at + m) r)
regroup fs f at m (Got d k) = let e : at + (m + k) ≡ (at + m) + k = omega arith in λ j. Got (chain-push fs f d j) (e j)
regroup fs f at m (Bad c k) = let e : at + (m + k) ≡ (at + m) + k = omega arith in ap (Bad c) e

pub unshift : (r : Read) (at last : ℕ) (f : Datum) → shift at r ≡ Got f last → r ≡ Got f (last - at)
unshift (Got g n) at last f h =
    let a : at + n ≡ last = cc in
    let b : g ≡ f = cc in
    let c : n ≡ last - at = omega arith in
    λ j. Got (b j) (c j)
unshift (Bad c n) at last f h = cc

mapped-nil : (r : Read) → mapped (chain []) r ≡ r
mapped-nil (Got d n) = refl
mapped-nil (Bad c n) = refl

module _ (more : Bool) (xs : List ℕ) where
  -- so many lists are joined: what is read where the innermost has these items before the place `at`
  abbrev pub list_at : ℕ → ℕ → Bool → List Datum → ℕ → Read
  list_at j depth some fs at = closed more xs j (mapped (chain fs) (shift at (items more (form more true (MAX_NESTING - depth)) some 0 (drop at xs))))

  pub list-start : (depth at : ℕ) → list_at 0 depth false [] at ≡ shift at (items more (form more true (MAX_NESTING - depth)) false 0 (drop at xs))
  list-start depth at = mapped-nil _

  kind-at : (some : Bool) (i place : ℕ) (token : Token) → place ≡ i + gaps (drop i xs) → seen token ≡ front (drop place xs) →
      kind more some (drop i xs) ≡ kind_of more some (drop place xs) (seen token)
  kind-at some i place token p e =
      ap (λ t. kind_of more some t (front t)) (behind-at xs i place p) ∙ ap (λ f. kind_of more some (drop place xs) f) (sym e)

  module _ (j depth : ℕ) (some : Bool) (fs : List Datum) (i place : ℕ) (token : Token) (p : place ≡ i + gaps (drop i xs)) (e : seen token ≡ front (drop place xs)) where
    abbrev here : Kind
    here = kind_of more some (drop place xs) (seen token)

    abbrev read_here : Read
    read_here = shift place (form more (nat_lt 0 depth) (MAX_NESTING - depth) (drop place xs))

    behind_gaps : 0 < depth → shift i (form more true (MAX_NESTING - depth) (drop i xs)) ≡ read_here
    behind_gaps d =
        let inside : true ≡ nat_lt 0 depth = grind (arith, nat_tests) in
        form-behind more true (MAX_NESTING - depth) xs i place token p e ∙ ap (λ b. shift place (form more b (MAX_NESTING - depth) (drop place xs))) inside

    pub list-item : (last : ℕ) (f : Datum) → 0 < depth → here ≡ Item → read_here ≡ Got f last → place ≤ last → last < length xs →
        list_at j depth some fs i ≡ list_at j depth true (fs ++ f ∷ []) (last + 1)
    list-item last f d k r le lt =
        let t = drop i xs in
        let n = last - i in
        let room : n < length t = omega (arith, length-drop i xs) in
        let far : i + (n + 1) ≡ last + 1 = omega arith in
        let rest : List ℕ → Read = items more (form more true (MAX_NESTING - depth)) true 0 in
        let read = unshift _ i last f (behind_gaps d ∙ r) in
        ap (λ r. closed more xs j (mapped (chain fs) (shift i r))) (items-item more (form more true (MAX_NESTING - depth)) some t f n (kind-at some i place token p e ∙ k) read room)
        ∙ ap (closed more xs j) (regroup fs f i (n + 1) _)
        ∙ ap (λ t. closed more xs j (mapped (chain (fs ++ f ∷ [])) (shift (i + (n + 1)) (rest t)))) (drop-drop (n + 1) i xs)
        ∙ ap (λ k. closed more xs j (mapped (chain (fs ++ f ∷ [])) (shift k (rest (drop k xs))))) far

    pub list-fault : (c : Code) (n : ℕ) → 0 < depth → here ≡ Item → read_here ≡ Bad c n → list_at j depth some fs i ≡ Bad c n
    list-fault c n d k r = on (form more true (MAX_NESTING - depth) (drop i xs)) refl (behind_gaps d ∙ r)
      where
        on : (r : Read) → form more true (MAX_NESTING - depth) (drop i xs) ≡ r → shift i r ≡ Bad c n → list_at j depth some fs i ≡ Bad c n
        on (Got f m) q h = cc
        on (Bad b m) q h =
            ap (λ r. closed more xs j (mapped (chain fs) (shift i r)))
            (items-bad more (form more true (MAX_NESTING - depth)) some (drop i xs) b m (kind-at some i place token p e ∙ k) (form-nil more true (MAX_NESTING - depth)) q)
            ∙ ap (closed more xs j) h ∙ closed-bad more xs j c n

    -- the list closes, and those around it
    pub list-close : here ≡ Closes → list_at j depth some fs i ≡ mapped (λ d. chain fs nil_form) (closed more xs j (Got nil_form place))
    list-close k =
        ap (λ r. closed more xs j (mapped (chain fs) (shift i r))) (items-close more (form more true (MAX_NESTING - depth)) some (drop i xs) (kind-at some i place token p e ∙ k))
        ∙ ap (λ n. closed more xs j (Got (chain fs nil_form) n)) (sym p)
        ∙ closed-mapped more xs j (λ d. chain fs nil_form) (Got nil_form place)

    -- a point
    pub list-point : here ≡ Points → list_at j depth some fs i ≡ closed more xs j (mapped (chain fs) (shift (place + 1) (last more (form more true (MAX_NESTING - depth)) (drop (place + 1) xs))))
    list-point k =
        let rest : List ℕ → Read = last more (form more true (MAX_NESTING - depth)) in
        let far : i + (gaps (drop i xs) + 1) ≡ place + 1 = omega arith in
        ap (λ r. closed more xs j (mapped (chain fs) (shift i r))) (items-points more (form more true (MAX_NESTING - depth)) some (drop i xs) (kind-at some i place token p e ∙ k))
        ∙ ap (λ r. closed more xs j (mapped (chain fs) r)) (shift-shift i (gaps (drop i xs) + 1) _)
        ∙ ap (λ t. closed more xs j (mapped (chain fs) (shift (i + (gaps (drop i xs) + 1)) (rest t)))) (drop-drop (gaps (drop i xs) + 1) i xs)
        ∙ ap (λ k. closed more xs j (mapped (chain fs) (shift k (rest (drop k xs))))) far

  last-and : (d i : ℕ) (r : Read) → shift i (and_then r (λ f n. shift (n + 1) (closing more f (drop (n + 1) (drop i xs))))) ≡ close more xs (shift i r)
  last-and d i (Got f n) =
      let far : i + (n + 1) ≡ i + n + 1 = omega arith in
      shift-shift i (n + 1) _ ∙ ap (λ t. shift (i + (n + 1)) (closing more f t)) (drop-drop (n + 1) i xs) ∙ ap (λ k. shift k (closing more f (drop k xs))) far
  last-and d i (Bad c n) = refl

  -- after a point: the form, and the list closes
  last-form : (d i : ℕ) (k : Kind) → kind more false (drop i xs) ≡ k → (k ≡ Closes → ⊥) →
      shift i (last more (form more true d) (drop i xs)) ≡ close more xs (shift i (form more true d (drop i xs)))
  last-form d i Closes e n = absurd (n refl)
  last-form d i Points e n = ap (λ k. shift i (last_by more (form more true d) (drop i xs) k)) e ∙ last-and d i (form more true d (drop i xs))
  last-form d i Item e n = ap (λ k. shift i (last_by more (form more true d) (drop i xs) k)) e ∙ last-and d i (form more true d (drop i xs))

  module _ (depth i place : ℕ) (token : Token) (p : place ≡ i + gaps (drop i xs)) (e : seen token ≡ front (drop place xs)) where
    abbrev last_at : ℕ → Read
    last_at at = shift at (last more (form more true (MAX_NESTING - depth)) (drop at xs))

    not_close : (token ≡ tokens.Close → ⊥) → kind_of more false (drop place xs) (seen token) ≡ Closes → ⊥
    not_close n = on token n
      where
        on : (t : Token) → (t ≡ tokens.Close → ⊥) → kind_of more false (drop place xs) (seen t) ≡ Closes → ⊥
        on tokens.Nothing n h = cc
        on tokens.EndlessGap n h = cc
        on tokens.Open n h = cc
        on tokens.Close n h = n refl
        on tokens.Quote n h = cc
        on (tokens.Text m) n h = cc
        on tokens.EndlessText n h = cc
        on (tokens.Atom m) n h = cc
        on tokens.Stray n h = cc

    pub last-other : (token ≡ tokens.Close → ⊥) → last_at i ≡ close more xs (shift place (form more true (MAX_NESTING - depth) (drop place xs)))
    last-other n =
        last-form (MAX_NESTING - depth) i _ (kind-at false i place token p e) (not_close n) ∙ ap (close more xs) (form-behind more true (MAX_NESTING - depth) xs i place token p e)

    pub last-close : token ≡ tokens.Close → last_at i ≡ Bad BadDot place
    last-close c =
        let closes : kind more false (drop i xs) ≡ Closes = kind-at false i place token p e ∙ ap (λ t. kind_of more false (drop place xs) (seen t)) c in
        ap (λ k. shift i (last_by more (form more true (MAX_NESTING - depth)) (drop i xs) k)) closes ∙ ap (Bad BadDot) (sym p)

  closes_or : (t : Token) → (t ≡ tokens.Close) ⊎ (t ≡ tokens.Close → ⊥)
  closes_or tokens.Nothing = inr (λ h. cc)
  closes_or tokens.EndlessGap = inr (λ h. cc)
  closes_or tokens.Open = inr (λ h. cc)
  closes_or tokens.Close = inl refl
  closes_or tokens.Quote = inr (λ h. cc)
  closes_or (tokens.Text m) = inr (λ h. cc)
  closes_or tokens.EndlessText = inr (λ h. cc)
  closes_or (tokens.Atom m) = inr (λ h. cc)
  closes_or tokens.Stray = inr (λ h. cc)

  module _ (j depth : ℕ) (fs : List Datum) (place : ℕ) (token : Token) (e : seen token ≡ front (drop place xs)) where
    -- what is read after a point, from the token on
    abbrev pub tail_at : Read
    tail_at = closed more xs j (mapped (chain fs) (shift place (last more (form more true (MAX_NESTING - depth)) (drop place xs))))

    abbrev pub read_in : Read
    read_in = shift place (form more (nat_lt 0 depth) (MAX_NESTING - depth) (drop place xs))

    inside_read : 0 < depth → shift place (form more true (MAX_NESTING - depth) (drop place xs)) ≡ read_in
    inside_read d = let inside : true ≡ nat_lt 0 depth = grind (arith, nat_tests) in ap (λ b. shift place (form more b (MAX_NESTING - depth) (drop place xs))) inside

    no_gaps : place ≡ place + gaps (drop place xs)
    no_gaps = let z = token-gaps token (drop place xs) e in omega arith

    pub tail-close : token ≡ tokens.Close → tail_at ≡ Bad BadDot place
    tail-close c = ap (λ r. closed more xs j (mapped (chain fs) r)) (last-close depth place place token no_gaps e c) ∙ closed-bad more xs j BadDot place

    tail-other : (token ≡ tokens.Close → ⊥) → 0 < depth → tail_at ≡ closed more xs (suc j) (mapped (chain fs) read_in)
    tail-other n d =
        ap (λ r. closed more xs j (mapped (chain fs) r)) (last-other depth place place token no_gaps e n ∙ ap (close more xs) (inside_read d))
        ∙ ap (closed more xs j) (sym (close-mapped more xs (chain fs) read_in))

    pub tail-form : (f : Datum) (n : ℕ) → (token ≡ tokens.Close → ⊥) → 0 < depth → read_in ≡ Got f n →
        tail_at ≡ mapped (λ d. chain fs f) (closed more xs (j + 1) (Got nil_form n))
    tail-form f n c d r =
        let next : suc j ≡ j + 1 = omega arith in
        tail-other c d ∙ ap (λ r. closed more xs (suc j) (mapped (chain fs) r)) r ∙ ap (λ k. closed more xs k (Got (chain fs f) n)) next
        ∙ closed-mapped more xs (j + 1) (λ d. chain fs f) (Got nil_form n)

    pub tail-fault : (c : Code) (n : ℕ) → (token ≡ tokens.Close → ⊥) → 0 < depth → read_in ≡ Bad c n → tail_at ≡ Bad c n
    tail-fault c n o d r = tail-other o d ∙ ap (λ r. closed more xs (suc j) (mapped (chain fs) r)) r ∙ closed-bad more xs j c n

    -- a list after the point: its items go on
    pub tail-join : token ≡ tokens.Open → 0 < depth → depth < MAX_NESTING → tail_at ≡ list_at (j + 1) (depth + 1) false fs (place + 1)
    tail-join o d l =
        let next : suc j ≡ j + 1 = omega arith in
        tail-other (λ c. let apart : tokens.Open ≡ tokens.Close = sym o ∙ c in cc) d
        ∙ ap (λ r. closed more xs (suc j) (mapped (chain fs) r)) (read-open more xs place depth l (ap seen (sym o) ∙ e))
        ∙ ap (λ k. list_at k (depth + 1) false fs (place + 1)) next

    -- the gaps before the token
    pub tail-behind : (i : ℕ) → place ≡ i + gaps (drop i xs) →
        closed more xs j (mapped (chain fs) (shift i (last more (form more true (MAX_NESTING - depth)) (drop i xs)))) ≡ tail_at
    tail-behind i p = ap (λ r. closed more xs j (mapped (chain fs) r)) (on (closes_or token))
      where
        on : (token ≡ tokens.Close) ⊎ (token ≡ tokens.Close → ⊥) →
            shift i (last more (form more true (MAX_NESTING - depth)) (drop i xs)) ≡ shift place (last more (form more true (MAX_NESTING - depth)) (drop place xs))
        on (inl c) = last-close depth i place token p e c ∙ sym (last-close depth place place token no_gaps e c)
        on (inr n) = last-other depth i place token p e n ∙ sym (last-other depth place place token no_gaps e n)

-- where lists close after a form, for whatever form
pub mapped-place : (h : Datum → Datum) (q r : Read) (n : ℕ) → r ≡ mapped h q → SaysPlace q (Ok n) → r ≡ Got (h nil_form) n
mapped-place h q r n e s = e ∙ ap (mapped h) s

pub mapped-fault : (h : Datum → Datum) (q r : Read) (x : ReadError) → r ≡ mapped h q → SaysPlace q (Err x) → SaysRead r (Err x)
mapped-fault h q r (errors.Refused c n) e s = e ∙ ap (mapped h) s
mapped-fault h q r errors.Memory e s = tt

pub fault-same : (h : Datum → Datum) (q r : Read) (x : ReadError) → r ≡ mapped h q → SaysRead q (Err x) → SaysRead r (Err x)
fault-same h q r (errors.Refused c n) e s = e ∙ ap (mapped h) s
fault-same h q r errors.Memory e s = tt

-- the atom is a point, or an item
pub kind-of-leaf : (more : Bool) (l : Leaf) (b : Bool) → b ≡ is_point l → leaf_kind more l ≡ cond b Points Item
kind-of-leaf more l b h = ap (λ c. c) (on l) ∙ ap (λ c. cond c Points Item) (sym h)
  where
    on : (l : Leaf) → leaf_kind more l ≡ cond (is_point l) Points Item
    on (atoms.Integer z) = refl
    on (atoms.Named s) = refl
    on atoms.Point = refl
    on (atoms.Wrong c n) = refl

pub ruleset kinds = (kind-of-leaf)

pub ruleset quotes = (form-behind, mapped-fault, fault-same)

pub ruleset tails = (tail-close, tail-form, tail-fault, mapped-place, mapped-fault, fault-same)

pub ruleset lists = (list-start, list-item, list-fault, list-close, list-point, tail-join, tail-behind, mapped-place, mapped-fault, fault-same, says-same)
