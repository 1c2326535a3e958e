-- How clap walks over the words, by what was read so far.
use Rattle.std.proofs.Common.{◌≡◌, ◌∙◌, ◌==◌, ◌+◌, ◌≤◌, ◌&&◌, ◌||◌, ℕ, suc, Bool, cond, true, false, List, [], ◌∷◌, ◌++◌, length, Option, Some, None, codes, refl, ap, ap₂, sym, subst, arith, append-nil, true≢false}
use Rattle.std.specs.Prelude.{option_map, option_and_then, if◌then◌else◌, slice_get, is_some}
use Rattle.std.specs.List.{All, find, fold, list_any, before_first, after_first}
use Rattle.std.specs.Option.{option_or, option_map_or}
use Rattle.std.proofs.lemmas.List.Folds.{find-append}
use Rattle.std.proofs.lemmas.Slice.Eq.{bytes_eq-Decides}
use Rattle.std.proofs.lemmas.Bool.Decides.{Decides-eqb}
use Rattle.std.specs.Str.{bytes_eq, chars, is_utf8, IsUtf8}
use Rattle.std.specs.Char.{encode_utf8}
use Rattle.std.proofs.lemmas.Str.{is_utf8-from_IsUtf8}
use Rattle.clap.specs.Walk.{Row, Rule, Held, Walk, idle, Step, value, trailing, after_step, word_met, long_or_other, short_or_plain, at_row, without, with_values, more_values, has_row, is_pending, takes_several, positional_held, used, settled_rows, to_positional, arg_by_index, walked}
use Rattle.clap.specs.Simple.{built, filled, with_index, Shape}
use Rattle.clap.specs.Faults.{walk_fault, bundle_fault, bundle_step_fault, flag_word_fault, flags_fault, long_fault, word_fault, react_fault, positional_fault, settle_fault, use_fault, step_fault, turn_fault}
use Rattle.clap.specs.declared.parser.matches.ValueSource.TheVariants.{CommandLine}
use Rattle.clap.specs.declared.builder.value_parser.Reading.TheVariants.{AsWritten}
use Rattle.book_cli.specs.view.CommandMatches.{derive_app, mode_arg, count_arg, continue_arg, show_arg}
use Rattle.book_cli.proofs.CommandReading.{Text, Seen, before_more, with_operand, with_flag, with_continue, with_show, see, see_all}
use Rattle.book_cli.specs.CommandLines.{ends_flags, is_dashed}
use Rattle.clap.specs.Lexer.{long_of, short_of, has_byte}
use Rattle.clap.specs.Kinds.{Kinds, or_else}
use Rattle.clap.specs.declared.error.ErrorKind.{ErrorKind}
use Rattle.clap.specs.declared.error.ErrorKind.TheVariants as kind

abbrev pub shape : Shape
shape = (built derive_app).top

abbrev pub rules : List Rule
rules = shape.rules

abbrev pub mode_rule : Rule
mode_rule = with_index 1 (filled mode_arg)

abbrev pub count_rule : Rule
count_rule = with_index 2 (filled count_arg)

abbrev pub continue_rule : Rule
continue_rule = with_index 3 (filled continue_arg)

abbrev pub show_rule : Rule
show_rule = with_index 3 (filled show_arg)

abbrev pub row_at : Text → List Row → Option Row
row_at id rows = find (λ r. bytes_eq r.id id) rows

-- the row of an argument with one value
abbrev pub row : Text → Text → Row
row id v = record { id = id; values = v ∷ []; count = None; source = Some CommandLine; reading = AsWritten }

abbrev pub flag_row : Text → Bool → Option Row
flag_row id given = if given then Some (row id (codes "true")) else None

-- the rows say what was read
pub record Fits (s : Seen) (rows : List Row) : Type 0 where
  pub mode : row_at (codes "MODE") rows ≡ option_map (row (codes "MODE")) (slice_get s.operands 0)
  pub count : row_at (codes "COUNT") rows ≡ option_map (row (codes "COUNT")) (slice_get s.operands 1)
  pub continues : row_at (codes "continue") rows ≡ flag_row (codes "continue") s.continues
  pub shows : row_at (codes "show") rows ≡ flag_row (codes "show") s.shows

-- ---- rows

pub has_row-is : (id : Text) (rows : List Row) → has_row id rows ≡ is_some (row_at id rows)
has_row-is id [] = refl
has_row-is id (r ∷ rs) = go (bytes_eq r.id id) (has_row-is id rs)
  where
    go : (b : Bool) → has_row id rs ≡ is_some (row_at id rs) → (b || has_row id rs) ≡ is_some (cond b (Some r) (row_at id rs))
    go true e = refl
    go false e = e

pub has_none : (id : Text) (rows : List Row) → row_at id rows ≡ None → has_row id rows ≡ false
has_none id rows e = has_row-is id rows ∙ ap is_some e

pub has_one : (id : Text) (r : Row) (rows : List Row) → row_at id rows ≡ Some r → has_row id rows ≡ true
has_one id r rows e = has_row-is id rows ∙ ap is_some e

pub at_none : (id : Text) (change : Row → List Row) (missing : List Row) (rows : List Row) → has_row id rows ≡ false → at_row id change missing rows ≡ rows ++ missing
at_none id change missing [] e = refl
at_none id change missing (r ∷ rs) e = go (bytes_eq r.id id) refl (at_none id change missing rs)
  where
    go : (b : Bool) → bytes_eq r.id id ≡ b → (has_row id rs ≡ false → at_row id change missing rs ≡ rs ++ missing) → at_row id change missing (r ∷ rs) ≡ (r ∷ rs) ++ missing
    go true t rest = let bad : true ≡ false = sym (rw t refl) ∙ e in absurd (true≢false bad)
    go false t rest = let more : has_row id rs ≡ false = sym (rw t refl) ∙ e in rw t (ap (λ xs. r ∷ xs) (rest more))

-- an argument that wasn't used gets its row
pub joins : (id : Text) (v : Text) (rows : List Row) → row_at id rows ≡ None → with_values id AsWritten CommandLine (v ∷ []) (without id rows) ≡ rows ++ row id v ∷ []
joins id v rows e =
    let absent = has_none id rows e in
    let same : without id rows ≡ rows = at_none id (λ _. []) [] rows absent ∙ append-nil rows in
    ap (with_values id AsWritten CommandLine (v ∷ [])) same ∙ at_none id (more_values CommandLine (v ∷ [])) (row id v ∷ []) rows absent

or_none : (o : Option Row) → option_or o None ≡ o
or_none None = refl
or_none (Some x) = refl

-- another id's row isn't found there, and its own is
pub found_other : (id : Text) (r : Row) (rows : List Row) → bytes_eq r.id id ≡ false → row_at id (rows ++ r ∷ []) ≡ row_at id rows
found_other id r rows e =
    let last : row_at id (r ∷ []) ≡ None = rw e refl in
    find-append (λ q. bytes_eq q.id id) rows (r ∷ []) ∙ ap (option_or (row_at id rows)) last ∙ or_none (row_at id rows)

pub found_own : (id : Text) (r : Row) (rows : List Row) → bytes_eq r.id id ≡ true → row_at id rows ≡ None → row_at id (rows ++ r ∷ []) ≡ Some r
found_own id r rows e none =
    let last : row_at id (r ∷ []) ≡ Some r = rw e refl in
    find-append (λ q. bytes_eq q.id id) rows (r ∷ []) ∙ ap₂ option_or none last

-- ---- what was read, with one word more

pub fits_continue : (s : Seen) (rows : List Row) → Fits s rows → s.continues ≡ false → Fits (record s { continues = true }) (rows ++ row (codes "continue") (codes "true") ∷ [])
fits_continue s rows f e = record {
  mode = found_other (codes "MODE") (row (codes "continue") (codes "true")) rows refl ∙ f.mode;
  count = found_other (codes "COUNT") (row (codes "continue") (codes "true")) rows refl ∙ f.count;
  continues = found_own (codes "continue") (row (codes "continue") (codes "true")) rows refl (f.continues ∙ ap (flag_row (codes "continue")) e);
  shows = found_other (codes "show") (row (codes "continue") (codes "true")) rows refl ∙ f.shows;
}

pub fits_show : (s : Seen) (rows : List Row) → Fits s rows → s.shows ≡ false → Fits (record s { shows = true }) (rows ++ row (codes "show") (codes "true") ∷ [])
fits_show s rows f e = record {
  mode = found_other (codes "MODE") (row (codes "show") (codes "true")) rows refl ∙ f.mode;
  count = found_other (codes "COUNT") (row (codes "show") (codes "true")) rows refl ∙ f.count;
  continues = found_other (codes "continue") (row (codes "show") (codes "true")) rows refl ∙ f.continues;
  shows = found_own (codes "show") (row (codes "show") (codes "true")) rows refl (f.shows ∙ ap (flag_row (codes "show")) e);
}

abbrev pub seen : Bool → Bool → List Text → Bool → Seen
seen c h os e = record { continues = c; shows = h; operands = os; ends = e }

pub fits_mode : (c h e : Bool) (word : Text) (rows : List Row) → Fits (seen c h [] e) rows → Fits (seen c h (word ∷ []) e) (rows ++ row (codes "MODE") word ∷ [])
fits_mode c h e word rows f = record {
  mode = found_own (codes "MODE") (row (codes "MODE") word) rows refl f.mode;
  count = found_other (codes "COUNT") (row (codes "MODE") word) rows refl ∙ f.count;
  continues = found_other (codes "continue") (row (codes "MODE") word) rows refl ∙ f.continues;
  shows = found_other (codes "show") (row (codes "MODE") word) rows refl ∙ f.shows;
}

pub fits_count : (c h e : Bool) (m word : Text) (rows : List Row) → Fits (seen c h (m ∷ []) e) rows → Fits (seen c h (m ∷ word ∷ []) e) (rows ++ row (codes "COUNT") word ∷ [])
fits_count c h e m word rows f = record {
  mode = found_other (codes "MODE") (row (codes "COUNT") word) rows refl ∙ f.mode;
  count = found_own (codes "COUNT") (row (codes "COUNT") word) rows refl f.count;
  continues = found_other (codes "continue") (row (codes "COUNT") word) rows refl ∙ f.continues;
  shows = found_other (codes "show") (row (codes "COUNT") word) rows refl ∙ f.shows;
}

-- ---- where the walk stands

abbrev pub Pending : Type 0
Pending = Option (Text × List Text)

abbrev pub held : List Row → Pending → Held
held rows pending = record { rows = rows; pending = pending; skip = 0 }

abbrev pub walk_at : List Row → Pending → List Text → Bool → Walk
walk_at rows pending os e = record { held = held rows pending; waiting = idle; position = 1 + length os; is_trailing = e; stopped = None }

pub record Stands (s : Seen) (w : Walk) : Type 0 where
  pub rows : List Row
  pub pending : Pending
  pub is : w ≡ walk_at rows pending s.operands s.ends
  pub settles : settle_fault rules false (held rows pending) ≡ []
  pub fits : Fits s (settled_rows rules pending rows)
  pub few : length s.operands ≤ 2

-- ---- a positional

and_false : (b : Bool) → (b && false) ≡ false
and_false true = refl
and_false false = refl

or_false : (b : Bool) → (b || false) ≡ b
or_false true = refl
or_false false = refl

module _ (a : Rule) (one : takes_several a ≡ false) (rows : List Row) (pending : Pending) where
  one_pending : (is_pending a pending && takes_several a) ≡ false
  one_pending = ap (λ b. is_pending a pending && b) one ∙ and_false (is_pending a pending)

  positional_settles : positional_fault rules false a (held rows pending) ≡ settle_fault rules false (held rows pending)
  positional_settles = rw one_pending refl

  positional_waits : (word : Text) → positional_held rules a word (held rows pending) ≡ held (settled_rows rules pending rows) (Some (a.id, word ∷ []))
  positional_waits word = rw one_pending refl

-- a positional that wasn't used takes a value
mode_free : (word : Text) (rows : List Row) → row_at (codes "MODE") rows ≡ None → use_fault false mode_rule (word ∷ []) rows ≡ []
mode_free word rows e = rw (has_none (codes "MODE") rows e) refl

count_free : (word : Text) (rows : List Row) → row_at (codes "COUNT") rows ≡ None → use_fault false count_rule (word ∷ []) rows ≡ []
count_free word rows e = rw (has_none (codes "COUNT") rows e) refl

abbrev walk_of : ℕ → Held → Bool → Walk
walk_of position h e = record { held = h; waiting = idle; position = position; is_trailing = e; stopped = None }

abbrev Placed : Seen → List Row → Pending → Text → Option Seen → Type 0
Placed s rows pending word None = step_fault shape (1 + length s.operands) (held rows pending) value ≡ [] → ⊥
Placed s rows pending word (Some t) = (step_fault shape (1 + length s.operands) (held rows pending) value ≡ [])
    × Stands t (to_positional rules (arg_by_index rules (1 + length s.operands)) word (walk_at rows pending s.operands s.ends) (held rows pending))

placed : (c h : Bool) (os : List Text) (e : Bool) (rows : List Row) (pending : Pending) (word : Text) → length os ≤ 2 → settle_fault rules false (held rows pending) ≡ []
    → Fits (seen c h os e) (settled_rows rules pending rows) → Placed (seen c h os e) rows pending word (with_operand word (seen c h os e))
placed c h [] e rows pending word few settles fits =
    let after = settled_rows rules pending rows in (
      positional_settles mode_rule refl rows pending ∙ settles,
      record {
        rows = after;
        pending = Some (codes "MODE", word ∷ []);
        is = ap₂ (walk_of 2) (positional_waits mode_rule refl rows pending word) (or_false e);
        settles = mode_free word after fits.mode;
        fits = subst (Fits (seen c h (word ∷ []) e)) (sym (joins (codes "MODE") word after fits.mode)) (fits_mode c h e word after fits);
        few = omega arith;
      },
    )
placed c h (m ∷ []) e rows pending word few settles fits =
    let after = settled_rows rules pending rows in (
      positional_settles count_rule refl rows pending ∙ settles,
      record {
        rows = after;
        pending = Some (codes "COUNT", word ∷ []);
        is = ap₂ (walk_of 3) (positional_waits count_rule refl rows pending word) (or_false e);
        settles = count_free word after fits.count;
        fits = subst (Fits (seen c h (m ∷ word ∷ []) e)) (sym (joins (codes "COUNT") word after fits.count)) (fits_count c h e m word after fits);
        few = omega arith;
      },
    )
placed c h (m ∷ n ∷ []) e rows pending word few settles fits = λ bad. cc
placed c h (m ∷ n ∷ k ∷ os) e rows pending word few settles fits = absurd (omega (arith, few))

-- ---- one word

abbrev pub Turn : Walk → Text → Option Seen → Type 0
Turn w word None = turn_fault shape [] w word ≡ [] → ⊥
Turn w word (Some t) = (turn_fault shape [] w word ≡ []) × Stands t (walked rules [] w word)

-- a flag that wasn't given is taken, and one that was is refused
continue_free : (rows : List Row) → row_at (codes "continue") rows ≡ None → use_fault false continue_rule [] rows ≡ []
continue_free rows e = rw (has_none (codes "continue") rows e) refl

continue_twice : (rows : List Row) (r : Row) → row_at (codes "continue") rows ≡ Some r → use_fault false continue_rule [] rows ≡ kind.ArgumentConflict ∷ []
continue_twice rows r e = rw (has_one (codes "continue") r rows e) refl

show_free : (rows : List Row) → row_at (codes "show") rows ≡ None → use_fault false show_rule [] rows ≡ []
show_free rows e = rw (has_none (codes "show") rows e) refl

show_twice : (rows : List Row) (r : Row) → row_at (codes "show") rows ≡ Some r → use_fault false show_rule [] rows ≡ kind.ArgumentConflict ∷ []
show_twice rows r e = rw (has_one (codes "show") r rows e) refl

some_kind : (k : ErrorKind) (ks kinds : Kinds) → kinds ≡ k ∷ ks → kinds ≡ [] → ⊥
some_kind k ks kinds e none = let bad : k ∷ ks ≡ [] = sym e ∙ none in cc

module _ (os : List Text) (rows : List Row) (pending : Pending) (few : length os ≤ 2) (settles : settle_fault rules false (held rows pending) ≡ []) where
  flag_reacts : (a : Rule) (kinds : Kinds) → use_fault false a [] (settled_rows rules pending rows) ≡ kinds → or_else (react_fault rules false a [] (held rows pending)) [] ≡ or_else kinds []
  flag_reacts a kinds e =
      ap (λ ks. or_else (or_else ks (use_fault false a [] (settled_rows rules pending rows))) []) settles ∙ ap (λ ks. or_else ks []) e

  turn_continue : (c h : Bool) → Fits (seen c h os false) (settled_rows rules pending rows)
      → Turn (walk_at rows pending os false) (codes "--continue") (with_continue (seen c h os false))
  unfolding walked
  turn_continue true h fits =
      some_kind kind.ArgumentConflict [] _ (flag_reacts continue_rule _ (continue_twice (settled_rows rules pending rows) _ fits.continues))
  turn_continue false h fits = (
    flag_reacts continue_rule [] (continue_free (settled_rows rules pending rows) fits.continues),
    record {
      rows = used continue_rule [] (settled_rows rules pending rows);
      pending = None;
      is = refl;
      settles = refl;
      fits = subst (Fits (seen true h os false)) (sym (joins (codes "continue") (codes "true") (settled_rows rules pending rows) fits.continues))
          (fits_continue (seen false h os false) (settled_rows rules pending rows) fits refl);
      few = few;
    },
  )

  turn_show : (c h : Bool) → Fits (seen c h os false) (settled_rows rules pending rows)
      → Turn (walk_at rows pending os false) (codes "--show") (with_show (seen c h os false))
  unfolding walked
  turn_show c true fits =
      some_kind kind.ArgumentConflict [] _ (flag_reacts show_rule _ (show_twice (settled_rows rules pending rows) _ fits.shows))
  turn_show c false fits = (
    flag_reacts show_rule [] (show_free (settled_rows rules pending rows) fits.shows),
    record {
      rows = used show_rule [] (settled_rows rules pending rows);
      pending = None;
      is = refl;
      settles = refl;
      fits = subst (Fits (seen c true os false)) (sym (joins (codes "show") (codes "true") (settled_rows rules pending rows) fits.shows))
          (fits_show (seen c false os false) (settled_rows rules pending rows) fits refl);
      few = few;
    },
  )

-- ---- the characters of a short flag

no_chars : (y : ℕ) (rest : Text) → chars (y ∷ rest) ≡ [] → is_utf8 (45 ∷ y ∷ rest) ≡ false
unfolding chars is_utf8 encode_utf8
no_chars y rest e = rw e refl

chars_some : (y : ℕ) (rest : Text) → IsUtf8 (45 ∷ y ∷ rest) → (x : ℕ) × (slice_get (chars (y ∷ rest)) 0 ≡ Some x)
chars_some y rest u = go (chars (y ∷ rest)) refl
  where
    go : (cs : List ℕ) → chars (y ∷ rest) ≡ cs → (x : ℕ) × (slice_get (chars (y ∷ rest)) 0 ≡ Some x)
    go [] e = absurd (true≢false (sym (is_utf8-from_IsUtf8 (45 ∷ y ∷ rest) u) ∙ no_chars y rest e))
    go (x ∷ xs) e = (x, ap (λ ds. slice_get ds 0) e)

-- ---- a flag that isn't known

pub no_kind : (k : ErrorKind) (ks : Kinds) → k ∷ ks ≡ [] → ⊥
no_kind k ks e = cc

pub or_no_kind : (first next : Kinds) → (first ≡ [] → ⊥) → or_else first next ≡ [] → ⊥
or_no_kind [] next h e = h refl
or_no_kind (k ∷ ks) next h e = no_kind k ks e

or_is_kind : (first : Kinds) → first ≡ [] → or_else first [] ≡ []
or_is_kind first e = ap (λ ks. or_else ks []) e

-- the flag that a name has
abbrev named : Bool → Bool → Option Rule
named is_continue is_show = cond is_continue (Some continue_rule) (cond is_show (Some show_rule) None)

-- a name that no flag has, or any with a value, is refused
name_refused : (is_continue is_show has_value : Bool) (v : Text) (h : Held) → (has_value ≡ false → (is_continue ≡ false) × (is_show ≡ false))
    → long_fault rules false (named is_continue is_show) (if has_value then Some v else None) h ≡ [] → ⊥
name_refused true d true v h only = no_kind kind.TooManyValues []
name_refused false true true v h only = no_kind kind.TooManyValues []
name_refused false false true v h only = no_kind kind.UnknownArgument []
name_refused false false false v h only = no_kind kind.UnknownArgument []
name_refused true d false v h only = absurd (true≢false (only refl).0)
name_refused false true false v h only = absurd (true≢false (only refl).1)

before_none : (p : ℕ → Bool) (xs : Text) → list_any p xs ≡ false → before_first p xs ≡ xs
before_none p [] e = refl
before_none p (x ∷ xs) e = go (p x) refl (before_none p xs)
  where
    go : (b : Bool) → p x ≡ b → (list_any p xs ≡ false → before_first p xs ≡ xs) → before_first p (x ∷ xs) ≡ x ∷ xs
    go true t rest = let bad : true ≡ false = sym (rw t refl) ∙ e in absurd (true≢false bad)
    go false t rest = let more : list_any p xs ≡ false = sym (rw t refl) ∙ e in before_more p x xs t ∙ ap (λ ys. x ∷ ys) (rest more)

abbrev is_equals : ℕ → Bool
is_equals x = x == 61

-- `--name` of another name, or with a value
module _ (z : ℕ) (zs : Text) (rows : List Row) (pending : Pending) (os : List Text) where
  another : (flag : Text) → bytes_eq flag (z ∷ zs) ≡ false → has_byte 61 (z ∷ zs) ≡ false
      → (bytes_eq flag (before_first is_equals (z ∷ zs)) || false) ≡ false
  another flag e none = or_false _ ∙ ap (bytes_eq flag) (before_none is_equals (z ∷ zs) none) ∙ e

  long_refused : bytes_eq (codes "continue") (z ∷ zs) ≡ false → bytes_eq (codes "show") (z ∷ zs) ≡ false
      → turn_fault shape [] (walk_at rows pending os false) (45 ∷ 45 ∷ z ∷ zs) ≡ [] → ⊥
  long_refused not_continue not_show =
      let name = before_first is_equals (z ∷ zs) in
      or_no_kind _ _ (name_refused (bytes_eq (codes "continue") name || false) (bytes_eq (codes "show") name || false) (has_byte 61 (z ∷ zs))
      (after_first is_equals (z ∷ zs)) (held rows pending)
      (λ none. (another (codes "continue") not_continue none, another (codes "show") not_show none)))

bundle_refused : (y : ℕ) (rest : Text) (h : Held) (x : ℕ) → slice_get (chars (y ∷ rest)) 0 ≡ Some x → flags_fault rules false (suc (length rest)) (y ∷ rest) 0 h ≡ kind.UnknownArgument ∷ []
unfolding flags_fault
bundle_refused y rest h x e =
    ap (λ o. bundle_step_fault rules false o (y ∷ rest) 0 h (flags_fault rules false (length rest))) e

short_refused : (y : ℕ) (rest : Text) (rows : List Row) (pending : Pending) (os : List Text) → (y == 45) ≡ false → IsUtf8 (45 ∷ y ∷ rest)
    → turn_fault shape [] (walk_at rows pending os false) (45 ∷ y ∷ rest) ≡ [] → ⊥
short_refused y rest rows pending os other u =
    let word : Text = 45 ∷ y ∷ rest in
    let h = held rows pending in
    let no_end : bytes_eq word (codes "--") ≡ false = rw other refl in
    let no_long : long_of word ≡ None = rw other refl in
    let short : short_of word ≡ Some (y ∷ rest) = rw other refl in
    let x = chars_some y rest u in
    let refused : word_fault shape [] false idle word h ≡ kind.UnknownArgument ∷ [] =
    ap (λ b. if b then [] else flag_word_fault rules false (long_of word) word h) no_end
    ∙ ap (λ l. flag_word_fault rules false l word h) no_long
    ∙ ap (λ o. option_map_or (λ flags. bundle_fault rules false flags h) o []) short
    ∙ bundle_refused y rest h x.0 x.1 in
    or_no_kind _ _ (some_kind kind.UnknownArgument [] _ refused)

dashed_refused : (y : ℕ) (rest : Text) (rows : List Row) (pending : Pending) (os : List Text) → IsUtf8 (45 ∷ y ∷ rest)
    → bytes_eq (45 ∷ y ∷ rest) (codes "--") ≡ false → bytes_eq (codes "--continue") (45 ∷ y ∷ rest) ≡ false
    → bytes_eq (codes "--show") (45 ∷ y ∷ rest) ≡ false → turn_fault shape [] (walk_at rows pending os false) (45 ∷ y ∷ rest) ≡ [] → ⊥
dashed_refused y rest rows pending os u no_end not_continue not_show = go (y == 45) refl
  where
    long : (xs : Text) → bytes_eq (45 ∷ 45 ∷ xs) (codes "--") ≡ false → bytes_eq (codes "--continue") (45 ∷ 45 ∷ xs) ≡ false
        → bytes_eq (codes "--show") (45 ∷ 45 ∷ xs) ≡ false → turn_fault shape [] (walk_at rows pending os false) (45 ∷ 45 ∷ xs) ≡ [] → ⊥
    long [] a b d = absurd (true≢false a)
    long (z ∷ zs) a b d = long_refused z zs rows pending os b d

    go : (b : Bool) → (y == 45) ≡ b → turn_fault shape [] (walk_at rows pending os false) (45 ∷ y ∷ rest) ≡ [] → ⊥
    go false e = short_refused y rest rows pending os e u
    go true e =
        let is : y ≡ 45 = (Decides-eqb y 45).0 e in
        subst (λ x. bytes_eq (45 ∷ x ∷ rest) (codes "--") ≡ false → bytes_eq (codes "--continue") (45 ∷ x ∷ rest) ≡ false
        → bytes_eq (codes "--show") (45 ∷ x ∷ rest) ≡ false → turn_fault shape [] (walk_at rows pending os false) (45 ∷ x ∷ rest) ≡ [] → ⊥)
        (sym is) (long rest) no_end not_continue not_show

unknown_refused : (word : Text) (rows : List Row) (pending : Pending) (os : List Text) → IsUtf8 word → bytes_eq word (codes "--") ≡ false
    → bytes_eq (codes "--continue") word ≡ false → bytes_eq (codes "--show") word ≡ false → is_dashed word ≡ true
    → turn_fault shape [] (walk_at rows pending os false) word ≡ [] → ⊥
unknown_refused [] rows pending os u a b d dashed = absurd (true≢false (sym dashed))
unknown_refused (x ∷ []) rows pending os u a b d dashed = absurd (true≢false (sym dashed))
unknown_refused (x ∷ y ∷ rest) rows pending os u a b d dashed =
    let is : x ≡ 45 = (Decides-eqb x 45).0 dashed in
    subst (λ z. IsUtf8 (z ∷ y ∷ rest) → bytes_eq (z ∷ y ∷ rest) (codes "--") ≡ false → bytes_eq (codes "--continue") (z ∷ y ∷ rest) ≡ false
    → bytes_eq (codes "--show") (z ∷ y ∷ rest) ≡ false → turn_fault shape [] (walk_at rows pending os false) (z ∷ y ∷ rest) ≡ [] → ⊥)
    (sym is) (dashed_refused y rest rows pending os) u a b d

-- a word that isn't dashed is no flag
no_flag : (word : Text) → is_dashed word ≡ false → (long_of word ≡ None) × (short_of word ≡ None)
no_flag [] e = (refl, refl)
no_flag (x ∷ []) e = go (x == 45) refl
  where
    go : (b : Bool) → (x == 45) ≡ b → (long_of (x ∷ []) ≡ None) × (short_of (x ∷ []) ≡ None)
    go true t = (rw t refl, rw t refl)
    go false t = (rw t refl, rw t refl)
no_flag (x ∷ y ∷ rest) e = (rw e refl, rw e refl)

-- ---- each word

from_placed : (c h : Bool) (os : List Text) (e : Bool) (rows : List Row) (pending : Pending) (word : Text) (o : Option Seen)
    → turn_fault shape [] (walk_at rows pending os e) word ≡ step_fault shape (1 + length os) (held rows pending) value
    → walked rules [] (walk_at rows pending os e) word
    ≡ to_positional rules (arg_by_index rules (1 + length os)) word (walk_at rows pending os e) (held rows pending)
    → Placed (seen c h os e) rows pending word o → Turn (walk_at rows pending os e) word o
from_placed c h os e rows pending word None fault walks p = λ none. p (sym fault ∙ none)
from_placed c h os e rows pending word (Some t) fault walks p = (fault ∙ p.0, subst (Stands t) (sym walks) p.1)

turn_trailing : (c h : Bool) (os : List Text) (rows : List Row) (pending : Pending) → length os ≤ 2 → settle_fault rules false (held rows pending) ≡ []
    → Fits (seen c h os true) (settled_rows rules pending rows) → (word : Text) → Turn (walk_at rows pending os true) word (with_operand word (seen c h os true))
unfolding walked
turn_trailing c h os rows pending few settles fits word =
    from_placed c h os true rows pending word (with_operand word (seen c h os true)) refl refl (placed c h os true rows pending word few settles fits)

module _ (c h : Bool) (os : List Text) (rows : List Row) (pending : Pending) (few : length os ≤ 2) (settles : settle_fault rules false (held rows pending) ≡ [])
    (fits : Fits (seen c h os false) (settled_rows rules pending rows)) where
  turn_ends : Turn (walk_at rows pending os false) (codes "--") (Some (seen c h os true))
  unfolding walked
  turn_ends = (
    refl,
    record {
      rows = rows;
      pending = pending;
      is = refl;
      settles = settles;
      fits = record { mode = fits.mode; count = fits.count; continues = fits.continues; shows = fits.shows };
      few = few;
    },
  )

  turn_plain : (word : Text) → bytes_eq word (codes "--") ≡ false → long_of word ≡ None → short_of word ≡ None
      → Turn (walk_at rows pending os false) word (with_operand word (seen c h os false))
  unfolding walked
  turn_plain word no_end no_long no_short =
      let a = held rows pending in
      let w = walk_at rows pending os false in
      let met : word_met rules [] false idle (1 + length os) word a ≡ (a, value) =
      ap (λ b. if b then (a, trailing (1 + length os)) else long_or_other rules idle word (long_of word) a) no_end
      ∙ ap (λ l. long_or_other rules idle word l a) no_long ∙ ap (λ o. short_or_plain rules idle word o a) no_short in
      let passes : word_fault shape [] false idle word a ≡ [] =
      ap (λ b. if b then [] else flag_word_fault rules false (long_of word) word a) no_end
      ∙ ap (λ l. flag_word_fault rules false l word a) no_long ∙ ap (λ o. option_map_or (λ flags. bundle_fault rules false flags a) o []) no_short in
      from_placed c h os false rows pending word (with_operand word (seen c h os false))
      (ap₂ (λ first (m : Held × Step). or_else first (step_fault shape (1 + length os) m.0 m.1)) passes met)
      (ap (λ (m : Held × Step). after_step rules word w m.0 m.1) met)
      (placed c h os false rows pending word few settles fits)

  turn_dashed : (word : Text) → IsUtf8 word → bytes_eq word (codes "--") ≡ false → is_dashed word ≡ true
      → Turn (walk_at rows pending os false) word (with_flag word (seen c h os false))
  turn_dashed word u no_end dashed = go (bytes_eq (codes "--continue") word) (bytes_eq (codes "--show") word) refl refl
    where
      go : (a b : Bool) → bytes_eq (codes "--continue") word ≡ a → bytes_eq (codes "--show") word ≡ b
          → Turn (walk_at rows pending os false) word (with_flag word (seen c h os false))
      go true b wa wb =
          let is : with_flag word (seen c h os false) ≡ with_continue (seen c h os false) = rw wa refl in
          subst (Turn (walk_at rows pending os false) word) (sym is) (subst (λ x. Turn (walk_at rows pending os false) x (with_continue (seen c h os false)))
          ((bytes_eq-Decides (codes "--continue") word).0 wa) (turn_continue os rows pending few settles c h fits))
      go false true wa wb =
          let is : with_flag word (seen c h os false) ≡ with_show (seen c h os false) = rw (wa, wb) refl in
          subst (Turn (walk_at rows pending os false) word) (sym is) (subst (λ x. Turn (walk_at rows pending os false) x (with_show (seen c h os false)))
          ((bytes_eq-Decides (codes "--show") word).0 wb) (turn_show os rows pending few settles c h fits))
      go false false wa wb =
          let is : with_flag word (seen c h os false) ≡ None = rw (wa, wb) refl in
          subst (Turn (walk_at rows pending os false) word) (sym is) (unknown_refused word rows pending os u no_end wa wb dashed)

  turn_open : (word : Text) → IsUtf8 word → Turn (walk_at rows pending os false) word (see (seen c h os false) word)
  turn_open word u = go (ends_flags word) (is_dashed word) refl refl
    where
      go : (b d : Bool) → ends_flags word ≡ b → is_dashed word ≡ d → Turn (walk_at rows pending os false) word (see (seen c h os false) word)
      go true d wb wd =
          let is : see (seen c h os false) word ≡ Some (seen c h os true) = rw wb refl in
          subst (Turn (walk_at rows pending os false) word) (sym is) (subst (λ x. Turn (walk_at rows pending os false) x (Some (seen c h os true)))
          (sym ((bytes_eq-Decides word (codes "--")).0 wb)) turn_ends)
      go false true wb wd =
          let is : see (seen c h os false) word ≡ with_flag word (seen c h os false) = rw (wb, wd) refl in
          subst (Turn (walk_at rows pending os false) word) (sym is) (turn_dashed word u wb wd)
      go false false wb wd =
          let is : see (seen c h os false) word ≡ with_operand word (seen c h os false) = rw (wb, wd) refl in
          subst (Turn (walk_at rows pending os false) word) (sym is) (turn_plain word wb (no_flag word wd).0 (no_flag word wd).1)

turn_held : (c h : Bool) (os : List Text) (e : Bool) (rows : List Row) (pending : Pending) → length os ≤ 2 → settle_fault rules false (held rows pending) ≡ []
    → Fits (seen c h os e) (settled_rows rules pending rows) → (word : Text) → IsUtf8 word → Turn (walk_at rows pending os e) word (see (seen c h os e) word)
turn_held c h os true rows pending few settles fits word u = turn_trailing c h os rows pending few settles fits word
turn_held c h os false rows pending few settles fits word u = turn_open c h os rows pending few settles fits word u

turn : (s : Seen) (w : Walk) (word : Text) → IsUtf8 word → Stands s w → Turn w word (see s word)
turn s w word u st =
    subst (λ (v : Walk). Turn v word (see s word)) (sym st.is)
    (turn_held s.continues s.shows s.operands s.ends st.rows st.pending st.few st.settles st.fits word u)

-- ---- all words

abbrev pub Walked : Walk → List Text → Option Seen → Type 0
Walked w words None = walk_fault shape [] w words ≡ [] → ⊥
Walked w words (Some t) = (walk_fault shape [] w words ≡ []) × Stands t (fold (walked rules []) w words)

one_more : (w : Walk) (word : Text) (words : List Text) (o : Option Seen) → turn_fault shape [] w word ≡ [] → Walked (walked rules [] w word) words o → Walked w (word ∷ words) o
unfolding walk_fault
one_more w word words None e more = λ none. more (sym (ap (λ ks. or_else ks (walk_fault shape [] (walked rules [] w word) words)) e) ∙ none)
one_more w word words (Some t) e more = (ap (λ ks. or_else ks (walk_fault shape [] (walked rules [] w word) words)) e ∙ more.0, more.1)

stopped_there : (w : Walk) (word : Text) (words : List Text) → (turn_fault shape [] w word ≡ [] → ⊥) → walk_fault shape [] w (word ∷ words) ≡ [] → ⊥
unfolding walk_fault
stopped_there w word words h = or_no_kind (turn_fault shape [] w word) (walk_fault shape [] (walked rules [] w word) words) h

no_more : (w : Walk) → walk_fault shape [] w [] ≡ []
unfolding walk_fault
no_more w = refl

pub walks : (words : List Text) (s : Seen) (w : Walk) → All IsUtf8 words → Stands s w → Walked w words (see_all s words)
walks [] s w u st = (no_more w, st)
walks (word ∷ words) s w u st = go (see s word) (turn s w word (u 0 word (omega arith)) st) (λ t. walks words t (walked rules [] w word) (λ k d lt. u (suc k) d (omega arith)))
  where
    go : (o : Option Seen) → Turn w word o → ((t : Seen) → Stands t (walked rules [] w word) → Walked (walked rules [] w word) words (see_all t words))
        → Walked w (word ∷ words) (option_and_then (λ t. see_all t words) o)
    go None h rest = stopped_there w word words h
    go (Some t) h rest = one_more w word words (see_all t words) h.0 (rest t h.1)
