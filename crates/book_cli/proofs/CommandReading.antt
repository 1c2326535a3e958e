-- The words of a command, read one by one, and the command line that they are.
use Rattle.std.proofs.Common.{◌≡◌, ◌∙◌, ◌+◌, ◌≤◌, ◌&&◌, ℕ, zero, suc, Bool, true, false, not, List, [], ◌∷◌, ◌++◌, length, take, drop, Option, Some, None, codes, refl, ap, ap₂, sym, subst, arith, append-nil, append_assoc, length-append, true≢false}
use Rattle.std.specs.Prelude.{option_map, option_and_then, if◌then◌else◌}
use Rattle.std.specs.List.{All, filter, list_any, list_all, count_by, before_first, after_first, position_or_len}
use Rattle.std.proofs.lemmas.List.Sums.{length-filter}
use Rattle.std.proofs.lemmas.Slice.Eq.{bytes_eq-Decides}
use Rattle.std.specs.Str.{bytes_eq, chars, is_utf8, IsUtf8}
use Rattle.std.specs.Char.{encode_utf8}
use Rattle.std.proofs.lemmas.Str.{IsUtf8-from_is_utf8}
use Rattle.book_cli.specs.CommandLines.{continues, ends_flags, flags, flags_of, is_dashed, is_known, operands, shows, IsModeLine}
use Rattle.book_cli.specs.declared.words.Flags.{Flags}

abbrev pub Text : Type 0
Text = List ℕ

-- what was read so far
pub record Seen : Type 0 where
  pub continues : Bool
  pub shows : Bool
  pub operands : List Text
  pub ends : Bool

abbrev pub add : Text → List Text → Option (List Text)
add word [] = Some (word ∷ [])
add word (mode ∷ []) = Some (mode ∷ word ∷ [])
add word (mode ∷ count ∷ rest) = None

abbrev pub with_operand : Text → Seen → Option Seen
with_operand word s = option_map (λ os. record s { operands = os }) (add word s.operands)

abbrev pub with_continue : Seen → Option Seen
with_continue s = if s.continues then None else Some (record s { continues = true })

abbrev pub with_show : Seen → Option Seen
with_show s = if s.shows then None else Some (record s { shows = true })

abbrev pub with_flag : Text → Seen → Option Seen
with_flag word s =
    if bytes_eq (codes "--continue") word then with_continue s else (if bytes_eq (codes "--show") word then with_show s else None)

abbrev pub see : Seen → Text → Option Seen
see s word =
    if s.ends then with_operand word s
    else (if ends_flags word then Some (record s { ends = true }) else (if is_dashed word then with_flag word s else with_operand word s))

abbrev pub see_all : Seen → List Text → Option Seen
see_all s [] = Some s
see_all s (word ∷ words) = option_and_then (λ t. see_all t words) (see s word)

-- ---- the flags and the operands of a line, by its first word

pub before_more : {X : Type 0} (p : X → Bool) (x : X) (xs : List X) → p x ≡ false → before_first p (x ∷ xs) ≡ x ∷ before_first p xs
before_more p x xs e =
    let n : 1 + position_or_len p xs ≡ suc (position_or_len p xs) = omega arith in
    rw e (ap (λ k. take k (x ∷ xs)) n)

after_more : {X : Type 0} (p : X → Bool) (x : X) (xs : List X) → p x ≡ false → after_first p (x ∷ xs) ≡ after_first p xs
after_more p x xs e =
    let n : 1 + position_or_len p xs + 1 ≡ suc (position_or_len p xs + 1) = omega arith in
    rw e (ap (λ k. drop k (x ∷ xs)) n)

flags_end : (word : Text) (words : List Text) → ends_flags word ≡ true → flags (word ∷ words) ≡ []
flags_end word words e = rw e refl

flags_dashed : (word : Text) (words : List Text) → ends_flags word ≡ false → is_dashed word ≡ true → flags (word ∷ words) ≡ word ∷ flags words
flags_dashed word words e d = ap (filter is_dashed) (before_more ends_flags word words e) ∙ rw d refl

flags_other : (word : Text) (words : List Text) → ends_flags word ≡ false → is_dashed word ≡ false → flags (word ∷ words) ≡ flags words
flags_other word words e d = ap (filter is_dashed) (before_more ends_flags word words e) ∙ rw d refl

abbrev is_plain : Text → Bool
is_plain word = not (is_dashed word)

operands_end : (word : Text) (words : List Text) → ends_flags word ≡ true → operands (word ∷ words) ≡ words
operands_end word words e = rw e refl

operands_dashed : (word : Text) (words : List Text) → ends_flags word ≡ false → is_dashed word ≡ true → operands (word ∷ words) ≡ operands words
operands_dashed word words e d =
    ap₂ (λ xs ys. filter is_plain xs ++ ys) (before_more ends_flags word words e) (after_more ends_flags word words e) ∙ rw d refl

operands_other : (word : Text) (words : List Text) → ends_flags word ≡ false → is_dashed word ≡ false → operands (word ∷ words) ≡ word ∷ operands words
operands_other word words e d =
    ap₂ (λ xs ys. filter is_plain xs ++ ys) (before_more ends_flags word words e) (after_more ends_flags word words e) ∙ rw d refl

-- ---- how often a flag is given

count_one : (p : Text → Bool) (x : Text) (xs : List Text) → p x ≡ true → count_by p (x ∷ xs) ≡ 1 + count_by p xs
count_one p x xs e =
    let more : length (filter p (x ∷ xs)) ≡ suc (length (filter p xs)) = rw e refl in
    omega (arith, more, length-filter p (x ∷ xs), length-filter p xs)

count_none : (p : Text → Bool) (x : Text) (xs : List Text) → p x ≡ false → count_by p (x ∷ xs) ≡ count_by p xs
count_none p x xs e =
    let same : length (filter p (x ∷ xs)) ≡ length (filter p xs) = rw e refl in
    omega (arith, same, length-filter p (x ∷ xs), length-filter p xs)

-- ---- what is read is what stands on the line

abbrev pub flags_from : Bool → List Text → List Text
flags_from true words = []
flags_from false words = flags words

abbrev pub operands_from : Bool → List Text → List Text
operands_from true words = words
operands_from false words = operands words

abbrev once_where : Bool → ℕ
once_where given = if given then 1 else 0

-- these flags and operands lead from s to t
pub record Reads (s t : Seen) (fl os : List Text) : Type 0 where
  pub operands : t.operands ≡ s.operands ++ os
  pub known : list_all is_known fl ≡ true
  pub continues : once_where t.continues ≡ once_where s.continues + count_by (bytes_eq (codes "--continue")) fl
  pub shows : once_where t.shows ≡ once_where s.shows + count_by (bytes_eq (codes "--show")) fl

reads_none : (s : Seen) → Reads s s [] []
reads_none s = record {
  operands = sym (append-nil s.operands);
  known = refl;
  continues = omega arith;
  shows = omega arith;
}

add_is : (word : Text) (xs ys : List Text) → add word xs ≡ Some ys → ys ≡ xs ++ word ∷ []
add_is word [] ys e = cc
add_is word (m ∷ []) ys e = cc
add_is word (m ∷ n ∷ rest) ys e = cc

add_fits : (word : Text) (xs os : List Text) → length (xs ++ word ∷ os) ≤ 2 → add word xs ≡ Some (xs ++ word ∷ [])
add_fits word [] os h = refl
add_fits word (m ∷ []) os h = refl
add_fits word (m ∷ n ∷ rest) os h = absurd (omega (arith, length-append rest (word ∷ os)))

-- ---- one word

operand_reads : (word : Text) (s t u : Seen) (fl os : List Text) → with_operand word s ≡ Some t → Reads t u fl os → Reads s u fl (word ∷ os)
operand_reads word s t u fl os e r = go (add word s.operands) refl e
  where
    go : (o : Option (List Text)) → add word s.operands ≡ o → option_map (λ xs. record s { operands = xs }) o ≡ Some t → Reads s u fl (word ∷ os)
    go None a b = cc
    go (Some xs) a b =
        let is : t ≡ record s { operands = xs } = cc in
        let r2 = subst (λ (v : Seen). Reads v u fl os) is r in
        record {
          operands = r2.operands ∙ ap (λ ys. ys ++ os) (add_is word s.operands xs a) ∙ append_assoc s.operands (word ∷ []) os;
          known = r2.known;
          continues = r2.continues;
          shows = r2.shows;
        }

operand_ends : (word : Text) (s t : Seen) → with_operand word s ≡ Some t → t.ends ≡ s.ends
operand_ends word s t e = go (add word s.operands) e
  where
    go : (o : Option (List Text)) → option_map (λ xs. record s { operands = xs }) o ≡ Some t → t.ends ≡ s.ends
    go None b = cc
    go (Some xs) b = cc

-- the flag `--continue` isn't the flag `--show`
apart : (word : Text) → bytes_eq (codes "--continue") word ≡ true → bytes_eq (codes "--show") word ≡ false
apart word e = subst (λ w. bytes_eq (codes "--show") w ≡ false) ((bytes_eq-Decides (codes "--continue") word).0 e) refl

flag_reads : (word : Text) (s t u : Seen) (fl os : List Text) → with_flag word s ≡ Some t → Reads t u fl os → (t.ends ≡ s.ends) × Reads s u (word ∷ fl) os
flag_reads word s t u fl os e r = go (bytes_eq (codes "--continue") word) (bytes_eq (codes "--show") word) s.continues s.shows refl refl refl refl
  where
    go : (a b c h : Bool) → bytes_eq (codes "--continue") word ≡ a → bytes_eq (codes "--show") word ≡ b → s.continues ≡ c → s.shows ≡ h
        → (t.ends ≡ s.ends) × Reads s u (word ∷ fl) os
    go false false c h wa wb sc sh = let bad : None ≡ Some t = sym (rw (wa, wb) refl) ∙ e in cc
    go true b true h wa wb sc sh = let bad : None ≡ Some t = sym (rw (wa, sc) refl) ∙ e in cc
    go true b false h wa wb sc sh =
        let is : Some t ≡ Some (record s { continues = true }) = sym e ∙ rw (wa, sc) refl in
        let same : t ≡ record s { continues = true } = cc in
        let r2 = subst (λ (v : Seen). Reads v u fl os) same r in (
          ap (λ (v : Seen). v.ends) same,
          record {
            operands = r2.operands;
            known = rw wa r2.known;
            continues = omega (arith, r2.continues, count_one (bytes_eq (codes "--continue")) word fl wa, ap once_where sc);
            shows = omega (arith, r2.shows, count_none (bytes_eq (codes "--show")) word fl (apart word wa));
          },
        )
    go false true c true wa wb sc sh = let bad : None ≡ Some t = sym (rw (wa, wb, sh) refl) ∙ e in cc
    go false true c false wa wb sc sh =
        let is : Some t ≡ Some (record s { shows = true }) = sym e ∙ rw (wa, wb, sh) refl in
        let same : t ≡ record s { shows = true } = cc in
        let r2 = subst (λ (v : Seen). Reads v u fl os) same r in (
          ap (λ (v : Seen). v.ends) same,
          record {
            operands = r2.operands;
            known = rw (wa, wb) r2.known;
            continues = omega (arith, r2.continues, count_none (bytes_eq (codes "--continue")) word fl wa);
            shows = omega (arith, r2.shows, count_one (bytes_eq (codes "--show")) word fl wb, ap once_where sh);
          },
        )

-- these words lead from s to t
abbrev ReadsAll : Seen → Seen → List Text → Type 0
ReadsAll s t words = Reads s t (flags_from s.ends words) (operands_from s.ends words)

reads_by : (s t : Seen) (e : Bool) (words : List Text) → s.ends ≡ e → Reads s t (flags_from e words) (operands_from e words) → ReadsAll s t words
reads_by s t e words is r = subst (λ b. Reads s t (flags_from b words) (operands_from b words)) (sym is) r

reads_at : (s t : Seen) (e : Bool) (words : List Text) → s.ends ≡ e → ReadsAll s t words → Reads s t (flags_from e words) (operands_from e words)
reads_at s t e words is r = subst (λ b. Reads s t (flags_from b words) (operands_from b words)) is r

reads_by_lists : (s t : Seen) (f g o p : List Text) → f ≡ g → o ≡ p → Reads s t g p → Reads s t f o
reads_by_lists s t f g o p e h r = subst (λ x. Reads s t x o) (sym e) (subst (λ x. Reads s t g x) (sym h) r)

one_read : (word : Text) (words : List Text) (s t u : Seen) → see s word ≡ Some t → ReadsAll t u words → ReadsAll s u (word ∷ words)
one_read word words s t u e r = go s.ends (ends_flags word) (is_dashed word) refl refl refl
  where
    go : (a b d : Bool) → s.ends ≡ a → ends_flags word ≡ b → is_dashed word ≡ d → ReadsAll s u (word ∷ words)
    go true b d sa wb wd =
        let is : with_operand word s ≡ Some t = sym (rw sa refl) ∙ e in
        reads_by s u true (word ∷ words) sa (operand_reads word s t u [] words is (reads_at t u true words (operand_ends word s t is ∙ sa) r))
    go false true d sa wb wd =
        let is : Some (record s { ends = true }) ≡ Some t = sym (rw (sa, wb) refl) ∙ e in
        let same : t ≡ record s { ends = true } = cc in
        let r2 : Reads (record s { ends = true }) u [] words = subst (λ (v : Seen). ReadsAll v u words) same r in
        reads_by s u false (word ∷ words) sa (reads_by_lists s u (flags (word ∷ words)) [] (operands (word ∷ words)) words
        (flags_end word words wb) (operands_end word words wb) (record { operands = r2.operands; known = r2.known; continues = r2.continues; shows = r2.shows }))
    go false false true sa wb wd =
        let is : with_flag word s ≡ Some t = sym (rw (sa, wb, wd) refl) ∙ e in
        let ends = (flag_reads word s t u (flags_from t.ends words) (operands_from t.ends words) is r).0 in
        let r2 = (flag_reads word s t u (flags words) (operands words) is (reads_at t u false words (ends ∙ sa) r)).1 in
        reads_by s u false (word ∷ words) sa (reads_by_lists s u (flags (word ∷ words)) (word ∷ flags words) (operands (word ∷ words)) (operands words)
        (flags_dashed word words wb wd) (operands_dashed word words wb wd) r2)
    go false false false sa wb wd =
        let is : with_operand word s ≡ Some t = sym (rw (sa, wb, wd) refl) ∙ e in
        let r2 = operand_reads word s t u (flags words) (operands words) is (reads_at t u false words (operand_ends word s t is ∙ sa) r) in
        reads_by s u false (word ∷ words) sa (reads_by_lists s u (flags (word ∷ words)) (flags words) (operands (word ∷ words)) (word ∷ operands words)
        (flags_other word words wb wd) (operands_other word words wb wd) r2)

no_words : (s : Seen) → ReadsAll s s []
no_words s = go s.ends refl
  where
    go : (a : Bool) → s.ends ≡ a → ReadsAll s s []
    go true sa = reads_by s s true [] sa (reads_none s)
    go false sa = reads_by s s false [] sa (reads_none s)

all_read : (words : List Text) (s t : Seen) → see_all s words ≡ Some t → ReadsAll s t words
all_read [] s t e =
    let same : s ≡ t = cc in
    subst (λ (v : Seen). ReadsAll s v []) same (no_words s)
all_read (word ∷ words) s t e = go (see s word) refl e (λ v. all_read words v t)
  where
    go : (o : Option Seen) → see s word ≡ o → option_and_then (λ v. see_all v words) o ≡ Some t
        → ((v : Seen) → see_all v words ≡ Some t → ReadsAll v t words) → ReadsAll s t (word ∷ words)
    go None h b rest = cc
    go (Some v) h b rest = one_read word words s v t h (rest v b)

-- ---- what stands on the line is read

once_most : (b : Bool) → once_where b ≤ 1
once_most true = omega arith
once_most false = omega arith

once_same : (a b : Bool) → once_where a ≡ once_where b → a ≡ b
once_same true true e = refl
once_same false false e = refl
once_same true false e = absurd (omega (arith, e))
once_same false true e = absurd (omega (arith, e))

operand_back : (word : Text) (s u : Seen) (fl os : List Text) → length u.operands ≤ 2 → Reads s u fl (word ∷ os)
    → (t : Seen) × (with_operand word s ≡ Some t) × (t.ends ≡ s.ends) × Reads t u fl os
operand_back word s u fl os few r =
    let fits : add word s.operands ≡ Some (s.operands ++ word ∷ []) = add_fits word s.operands os (subst (λ xs. length xs ≤ 2) r.operands few) in (
      record s { operands = s.operands ++ word ∷ [] },
      ap (option_map (λ xs. record s { operands = xs })) fits,
      refl,
      record {
        operands = r.operands ∙ sym (append_assoc s.operands (word ∷ []) os);
        known = r.known;
        continues = r.continues;
        shows = r.shows;
      },
    )

abbrev FlagBack : Text → Seen → Seen → List Text → List Text → Type 0
FlagBack word s u fl os = (t : Seen) × (with_flag word s ≡ Some t) × (t.ends ≡ s.ends) × Reads t u fl os

flag_back : (word : Text) (s u : Seen) (fl os : List Text) → Reads s u (word ∷ fl) os → FlagBack word s u fl os
flag_back word s u fl os r = go (bytes_eq (codes "--continue") word) (bytes_eq (codes "--show") word) s.continues s.shows refl refl refl refl
  where
    go : (a b c h : Bool) → bytes_eq (codes "--continue") word ≡ a → bytes_eq (codes "--show") word ≡ b → s.continues ≡ c → s.shows ≡ h → FlagBack word s u fl os
    go false false c h wa wb sc sh = let bad : false ≡ true = sym (rw (wa, wb) refl) ∙ r.known in absurd (true≢false (sym bad))
    go true b true h wa wb sc sh =
        absurd (omega (arith, once_most u.continues, r.continues, count_one (bytes_eq (codes "--continue")) word fl wa, ap once_where sc))
    go true b false h wa wb sc sh = (
      record s { continues = true },
      rw (wa, sc) refl,
      refl,
      record {
        operands = r.operands;
        known = sym (rw wa refl) ∙ r.known;
        continues = omega (arith, r.continues, count_one (bytes_eq (codes "--continue")) word fl wa, ap once_where sc);
        shows = omega (arith, r.shows, count_none (bytes_eq (codes "--show")) word fl (apart word wa));
      },
    )
    go false true c true wa wb sc sh =
        absurd (omega (arith, once_most u.shows, r.shows, count_one (bytes_eq (codes "--show")) word fl wb, ap once_where sh))
    go false true c false wa wb sc sh = (
      record s { shows = true },
      rw (wa, wb, sh) refl,
      refl,
      record {
        operands = r.operands;
        known = sym (rw (wa, wb) refl) ∙ r.known;
        continues = omega (arith, r.continues, count_none (bytes_eq (codes "--continue")) word fl wa);
        shows = omega (arith, r.shows, count_one (bytes_eq (codes "--show")) word fl wb, ap once_where sh);
      },
    )

abbrev OneBack : Text → List Text → Seen → Seen → Type 0
OneBack word words s u = (t : Seen) × (see s word ≡ Some t) × ReadsAll t u words

one_back : (word : Text) (words : List Text) (s u : Seen) → length u.operands ≤ 2 → ReadsAll s u (word ∷ words) → OneBack word words s u
one_back word words s u few r = go s.ends (ends_flags word) (is_dashed word) refl refl refl
  where
    go : (a b d : Bool) → s.ends ≡ a → ends_flags word ≡ b → is_dashed word ≡ d → OneBack word words s u
    go true b d sa wb wd =
        let x = operand_back word s u [] words few (reads_at s u true (word ∷ words) sa r) in
        let step : see s word ≡ with_operand word s = rw sa refl in
        (x.0, step ∙ x.1, reads_by x.0 u true words (x.2 ∙ sa) x.3)
    go false true d sa wb wd =
        let r1 = reads_at s u false (word ∷ words) sa r in
        let r2 = reads_by_lists s u [] (flags (word ∷ words)) words (operands (word ∷ words)) (sym (flags_end word words wb)) (sym (operands_end word words wb)) r1 in
        let step : see s word ≡ Some (record s { ends = true }) = rw (sa, wb) refl in
        (record s { ends = true }, step, record { operands = r2.operands; known = r2.known; continues = r2.continues; shows = r2.shows })
    go false false true sa wb wd =
        let r1 = reads_at s u false (word ∷ words) sa r in
        let r2 = reads_by_lists s u (word ∷ flags words) (flags (word ∷ words)) (operands words) (operands (word ∷ words))
        (sym (flags_dashed word words wb wd)) (sym (operands_dashed word words wb wd)) r1 in
        let x = flag_back word s u (flags words) (operands words) r2 in
        let step : see s word ≡ with_flag word s = rw (sa, wb, wd) refl in
        (x.0, step ∙ x.1, reads_by x.0 u false words (x.2 ∙ sa) x.3)
    go false false false sa wb wd =
        let r1 = reads_at s u false (word ∷ words) sa r in
        let r2 = reads_by_lists s u (flags words) (flags (word ∷ words)) (word ∷ operands words) (operands (word ∷ words))
        (sym (flags_other word words wb wd)) (sym (operands_other word words wb wd)) r1 in
        let x = operand_back word s u (flags words) (operands words) few r2 in
        let step : see s word ≡ with_operand word s = rw (sa, wb, wd) refl in
        (x.0, step ∙ x.1, reads_by x.0 u false words (x.2 ∙ sa) x.3)

-- the same, but for whether the flags have ended
pub record Same (t u : Seen) : Type 0 where
  pub operands : t.operands ≡ u.operands
  pub continues : t.continues ≡ u.continues
  pub shows : t.shows ≡ u.shows

abbrev AllBack : List Text → Seen → Seen → Type 0
AllBack words s u = (t : Seen) × (see_all s words ≡ Some t) × Same t u

none_back : (s u : Seen) → Reads s u [] [] → Same s u
none_back s u r = record {
  operands = sym (append-nil s.operands) ∙ sym r.operands;
  continues = once_same s.continues u.continues (omega (arith, r.continues));
  shows = once_same s.shows u.shows (omega (arith, r.shows));
}

all_back : (words : List Text) (s u : Seen) → length u.operands ≤ 2 → ReadsAll s u words → AllBack words s u
all_back [] s u few r = go s.ends refl
  where
    go : (a : Bool) → s.ends ≡ a → AllBack [] s u
    go true sa = (s, refl, none_back s u (reads_at s u true [] sa r))
    go false sa = (s, refl, none_back s u (reads_at s u false [] sa r))
all_back (word ∷ words) s u few r =
    let x = one_back word words s u few r in
    let y = all_back words x.0 u few x.2 in
    (y.0, ap (option_and_then (λ v. see_all v words)) x.1 ∙ y.1, y.2)

-- ---- whole lines

abbrev pub start : Seen
start = record { continues = false; shows = false; operands = []; ends = false }

abbrev pub asked : Seen → Flags
asked t = record { continues = t.continues; shows = t.shows }

-- a flag is on the line, or isn't
any_counts : (p : Text → Bool) (xs : List Text) → (list_any p xs ≡ true → 1 ≤ count_by p xs) × (list_any p xs ≡ false → count_by p xs ≡ 0)
any_counts p [] = (λ e. absurd (true≢false (sym e)), λ e. refl)
any_counts p (x ∷ xs) = go (p x) refl (any_counts p xs)
  where
    go : (b : Bool) → p x ≡ b → (list_any p xs ≡ true → 1 ≤ count_by p xs) × (list_any p xs ≡ false → count_by p xs ≡ 0)
        → (list_any p (x ∷ xs) ≡ true → 1 ≤ count_by p (x ∷ xs)) × (list_any p (x ∷ xs) ≡ false → count_by p (x ∷ xs) ≡ 0)
    go true t rest = (λ e. omega (arith, count_one p x xs t), λ e. let bad : true ≡ false = sym (rw t refl) ∙ e in absurd (true≢false bad))
    go false t rest =
        let same : list_any p (x ∷ xs) ≡ list_any p xs = rw t refl in
        (λ e. omega (arith, count_none p x xs t, rest.0 (sym same ∙ e)), λ e. omega (arith, count_none p x xs t, rest.1 (sym same ∙ e)))

once_given : (p : Text → Bool) (xs : List Text) → count_by p xs ≤ 1 → count_by p xs ≡ once_where (list_any p xs)
once_given p xs few = go (list_any p xs) refl
  where
    go : (b : Bool) → list_any p xs ≡ b → count_by p xs ≡ once_where (list_any p xs)
    go true e = rw e (omega (arith, few, (any_counts p xs).0 e))
    go false e = rw e (omega (arith, (any_counts p xs).1 e))

-- no other flag is on a line whose flags are known
none_other : (flag : Text) → is_known flag ≡ false → (fl : List Text) → list_all is_known fl ≡ true → count_by (bytes_eq flag) fl ≡ 0
none_other flag other [] known = refl
none_other flag other (word ∷ fl) known = go (is_known word) refl (bytes_eq flag word) refl (none_other flag other fl)
  where
    go : (k : Bool) → is_known word ≡ k → (b : Bool) → bytes_eq flag word ≡ b → (list_all is_known fl ≡ true → count_by (bytes_eq flag) fl ≡ 0)
        → count_by (bytes_eq flag) (word ∷ fl) ≡ 0
    go false wk b wb rest = let bad : false ≡ true = sym (ap (λ x. x && list_all is_known fl) wk) ∙ known in absurd (true≢false (sym bad))
    go true wk true wb rest =
        let same : flag ≡ word = (bytes_eq-Decides flag word).0 wb in
        absurd (true≢false (sym wk ∙ ap is_known (sym same) ∙ other))
    go true wk false wb rest =
        let more : list_all is_known fl ≡ true = sym (ap (λ x. x && list_all is_known fl) wk) ∙ known in
        count_none (bytes_eq flag) word fl wb ∙ rest more

each_once : (fl : List Text) → list_all is_known fl ≡ true → count_by (bytes_eq (codes "--continue")) fl ≤ 1 → count_by (bytes_eq (codes "--show")) fl ≤ 1
    → (flag : Text) → count_by (bytes_eq flag) fl ≤ 1
each_once fl known continue_once show_once flag = go (bytes_eq (codes "--continue") flag) (bytes_eq (codes "--show") flag) refl refl
  where
    go : (a b : Bool) → bytes_eq (codes "--continue") flag ≡ a → bytes_eq (codes "--show") flag ≡ b → count_by (bytes_eq flag) fl ≤ 1
    go true b wa wb = subst (λ x. count_by (bytes_eq x) fl ≤ 1) ((bytes_eq-Decides (codes "--continue") flag).0 wa) continue_once
    go false true wa wb = subst (λ x. count_by (bytes_eq x) fl ≤ 1) ((bytes_eq-Decides (codes "--show") flag).0 wb) show_once
    go false false wa wb = omega (arith, none_other flag (rw (wa, wb) refl) fl known)

-- the line, and what it asks for
pub record Asks (words : List Text) (line : Flags) : Type 0 where
  pub is : IsModeLine words
  pub flags_are : line ≡ flags_of words

-- the words were read with `check` as the one operand
pub line_read : (words : List Text) (t : Seen) → see_all start words ≡ Some t → t.operands ≡ codes "check" ∷ [] → Asks words (asked t)
line_read words t e only =
    let r : Reads start t (flags words) (operands words) = all_read words start t e in
    let continue_once : count_by (bytes_eq (codes "--continue")) (flags words) ≤ 1 = omega (arith, r.continues, once_most t.continues) in
    let show_once : count_by (bytes_eq (codes "--show")) (flags words) ≤ 1 = omega (arith, r.shows, once_most t.shows) in
    let continue_asked : t.continues ≡ continues words =
    once_same t.continues (continues words) (omega (arith, r.continues, once_given (bytes_eq (codes "--continue")) (flags words) continue_once)) in
    let show_asked : t.shows ≡ shows words =
    once_same t.shows (shows words) (omega (arith, r.shows, once_given (bytes_eq (codes "--show")) (flags words) show_once)) in
    let same : ◌≡◌ {A = Flags} (asked t) (flags_of words) = ap₂ (λ (c s : Bool). record { continues = c; shows = s }) continue_asked show_asked in
    record {
      is = record {
        mode = sym r.operands ∙ only;
        known = r.known;
        once = each_once (flags words) r.known continue_once show_once;
      };
      flags_are = same;
    }

-- the words of a mode line are read
pub line_back : (words : List Text) → IsModeLine words → (t : Seen) × (see_all start words ≡ Some t) × (t.operands ≡ codes "check" ∷ [])
line_back words is =
    let u : Seen = record { continues = continues words; shows = shows words; operands = codes "check" ∷ []; ends = false } in
    let r : Reads start u (flags words) (operands words) = record {
      operands = sym is.mode;
      known = is.known;
      continues = omega (arith, once_given (bytes_eq (codes "--continue")) (flags words) (is.once (codes "--continue")));
      shows = omega (arith, once_given (bytes_eq (codes "--show")) (flags words) (is.once (codes "--show")));
    } in
    let x = all_back words start u (omega arith) r in
    (x.0, x.1, x.2.operands)

-- ---- the words of a mode line are text

ends_text : IsUtf8 (codes "--")
unfolding chars is_utf8 encode_utf8
ends_text = IsUtf8-from_is_utf8 (codes "--") refl

check_text : IsUtf8 (codes "check")
unfolding chars is_utf8 encode_utf8
check_text = IsUtf8-from_is_utf8 (codes "check") refl

continue_text : IsUtf8 (codes "--continue")
unfolding chars is_utf8 encode_utf8
continue_text = IsUtf8-from_is_utf8 (codes "--continue") refl

show_text : IsUtf8 (codes "--show")
unfolding chars is_utf8 encode_utf8
show_text = IsUtf8-from_is_utf8 (codes "--show") refl

known_text : (word : Text) → is_known word ≡ true → IsUtf8 word
known_text word e = go (bytes_eq (codes "--continue") word) (bytes_eq (codes "--show") word) refl refl
  where
    go : (a b : Bool) → bytes_eq (codes "--continue") word ≡ a → bytes_eq (codes "--show") word ≡ b → IsUtf8 word
    go true b wa wb = subst IsUtf8 ((bytes_eq-Decides (codes "--continue") word).0 wa) continue_text
    go false true wa wb = subst IsUtf8 ((bytes_eq-Decides (codes "--show") word).0 wb) show_text
    go false false wa wb = let bad : false ≡ true = sym (rw (wa, wb) refl) ∙ e in absurd (true≢false (sym bad))

first_known : (word : Text) (fl : List Text) → list_all is_known (word ∷ fl) ≡ true → (is_known word ≡ true) × (list_all is_known fl ≡ true)
first_known word fl e = go (is_known word) refl
  where
    go : (b : Bool) → is_known word ≡ b → (is_known word ≡ true) × (list_all is_known fl ≡ true)
    go true t = (t, sym (ap (λ b. b && list_all is_known fl) t) ∙ e)
    go false t = let bad : false ≡ true = sym (ap (λ b. b && list_all is_known fl) t) ∙ e in absurd (true≢false (sym bad))

all_more : (word : Text) (words : List Text) → IsUtf8 word → All IsUtf8 words → All IsUtf8 (word ∷ words)
all_more word words u all zero d lt = u
all_more word words u all (suc k) d lt = all k d (omega arith)

abbrev AreText : List Text → Type 0
AreText words = list_all is_known (flags words) ≡ true → All IsUtf8 (operands words) → All IsUtf8 words

are_text : (words : List Text) → AreText words
are_text [] known all = λ k d lt. absurd (omega arith)
are_text (word ∷ words) known all = go (ends_flags word) (is_dashed word) refl refl (are_text words)
  where
    go : (b d : Bool) → ends_flags word ≡ b → is_dashed word ≡ d → AreText words → All IsUtf8 (word ∷ words)
    go true d wb wd rest = all_more word words (subst IsUtf8 (sym ((bytes_eq-Decides word (codes "--")).0 wb)) ends_text)
        (subst (All IsUtf8) (operands_end word words wb) all)
    go false true wb wd rest =
        let k = first_known word (flags words) (sym (ap (list_all is_known) (flags_dashed word words wb wd)) ∙ known) in
        all_more word words (known_text word k.0) (rest k.1 (subst (All IsUtf8) (operands_dashed word words wb wd) all))
    go false false wb wd rest =
        let k : list_all is_known (flags words) ≡ true = sym (ap (list_all is_known) (flags_other word words wb wd)) ∙ known in
        let more : All IsUtf8 (word ∷ operands words) = subst (All IsUtf8) (operands_other word words wb wd) all in
        all_more word words (more 0 word (omega arith)) (rest k (λ i d lt. more (suc i) d (omega arith)))

pub line_text : (words : List Text) → IsModeLine words → All IsUtf8 words
line_text words is =
    are_text words is.known (subst (All IsUtf8) (sym is.mode) (all_more (codes "check") [] check_text (λ k d lt. absurd (omega arith))))
