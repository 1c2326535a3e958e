-- What clap makes of all the words: its faults, and the matches.
use Rattle.std.proofs.Common.{◌≡◌, ◌∙◌, ◌≤◌, Bool, true, false, List, [], ◌∷◌, ◌++◌, length, Option, Some, None, codes, refl, ap, ap₂, sym, subst, arith, true≢false, inl, inr}
use Rattle.std.specs.Prelude.{Result, option_map, if◌then◌else◌, slice_get, is_some, IfOk, IfErr}
use Rattle.std.specs.Option.{ok_or}
use Rattle.std.specs.List.{All}
use Rattle.std.specs.Str.{bytes_eq, IsUtf8}
use Rattle.std.proofs.lemmas.Slice.Eq.{bytes_eq-Decides}
use Rattle.clap.specs.Words.{HasKind, HasMatchesOf, IsAmong, found_of, is_simple, is_simple_and_free, kind_of, rows_of, fault_of, first_of, matches_of, one_of}
use Rattle.clap.specs.Kinds.{Kinds, or_else}
use Rattle.clap.specs.Takes.{is_given}
use Rattle.clap.specs.Walk.{Row, Rule, Walk, finished, has_row, more_values, nothing_held, settled, settled_rows, walk, with_default, with_values}
use Rattle.clap.specs.Simple.{App, built, entered}
use Rattle.clap.specs.Faults.{check_fault, default_fault, defaults_fault, entered_fault, settle_fault}
use Rattle.clap.specs.Values.{bool_text}
use Rattle.clap.specs.declared.error.ErrorKind.TheVariants as kind
use Rattle.clap.specs.declared.parser.matches.ValueSource.TheVariants.{DefaultValue}
use Rattle.clap.specs.declared.builder.value_parser.Reading.TheVariants.{AsWritten}
use Rattle.book_cli.specs.CommandLines.{IsModeLine, IsRefusalOf, flags_of}
use Rattle.book_cli.specs.declared.words.UsageFault.{UsageFault}
use Rattle.book_cli.specs.declared.words.WordsError.{WordsError}
use Rattle.book_cli.specs.declared.words.WordsError.TheVariants.{Usage, Memory}
use Rattle.clap.specs.declared.error.Error.{Error}
use Rattle.clap.specs.declared.parser.ArgMatches.{ArgMatches}
use Rattle.book_cli.specs.view.CommandMatches.{HasFlags, derive_app, is_check, line_in}
use Rattle.book_cli.specs.declared.words.Flags.{Flags}
use Rattle.book_cli.proofs.CommandReading.{Asks, Text, Seen, asked, line_back, line_read, see_all, start}
use Rattle.book_cli.proofs.CommandWalk.{Fits, Pending, Stands, Walked, at_none, continue_rule, count_rule, flag_row, found_other, found_own, has_none, has_one, held, mode_rule, or_no_kind, row, row_at, rules, shape, show_rule, walk_at, walks}

-- ---- before the first word

begins : Stands start (walk_at [] None [] false)
begins = record {
  rows = [];
  pending = None;
  is = refl;
  settles = refl;
  fits = record { mode = refl; count = refl; continues = refl; shows = refl };
  few = omega arith;
}

abbrev at_end : List Text → Walk
at_end words = walk rules [] nothing_held words

-- ---- the defaults

abbrev HasFreeDefault : Rule → Type 0
HasFreeDefault a = (rows : List Row) → default_fault rows a ≡ []

mode_default : HasFreeDefault mode_rule
mode_default rows = go (has_row (codes "MODE") rows) refl
  where
    go : (b : Bool) → has_row (codes "MODE") rows ≡ b → default_fault rows mode_rule ≡ []
    go true e = rw e refl
    go false e = rw e refl

count_default : HasFreeDefault count_rule
count_default rows = go (has_row (codes "COUNT") rows) refl
  where
    go : (b : Bool) → has_row (codes "COUNT") rows ≡ b → default_fault rows count_rule ≡ []
    go true e = rw e refl
    go false e = rw e refl

continue_default : HasFreeDefault continue_rule
continue_default rows = go (has_row (codes "continue") rows) refl
  where
    go : (b : Bool) → has_row (codes "continue") rows ≡ b → default_fault rows continue_rule ≡ []
    go true e = rw e refl
    go false e = rw e refl

show_default : HasFreeDefault show_rule
show_default rows = go (has_row (codes "show") rows) refl
  where
    go : (b : Bool) → has_row (codes "show") rows ≡ b → default_fault rows show_rule ≡ []
    go true e = rw e refl
    go false e = rw e refl

one_default : (a : Rule) (rows : List Row) (rest : List Rule) → HasFreeDefault a → defaults_fault (with_default rows a) rest ≡ [] → defaults_fault rows (a ∷ rest) ≡ []
unfolding defaults_fault
one_default a rows rest free more = ap (λ ks. or_else ks (defaults_fault (with_default rows a) rest)) (free rows) ∙ more

last_default : (rows : List Row) → defaults_fault rows [] ≡ []
unfolding defaults_fault
last_default rows = refl

all_defaults : (rows : List Row) → defaults_fault rows rules ≡ []
all_defaults rows =
    let a = with_default rows mode_rule in
    let b = with_default a count_rule in
    let c = with_default b continue_rule in
    one_default mode_rule rows (count_rule ∷ continue_rule ∷ show_rule ∷ []) mode_default
    (one_default count_rule a (continue_rule ∷ show_rule ∷ []) count_default
    (one_default continue_rule b (show_rule ∷ []) continue_default
    (one_default show_rule c [] show_default (last_default (with_default c show_rule)))))

-- ---- the rows at the end

abbrev default_row : Text → Row
default_row id = record { id = id; values = codes "false" ∷ []; count = None; source = Some DefaultValue; reading = AsWritten }

-- a positional has no default
mode_same : (rows : List Row) → with_default rows mode_rule ≡ rows
mode_same rows = go (has_row (codes "MODE") rows) refl
  where
    go : (b : Bool) → has_row (codes "MODE") rows ≡ b → with_default rows mode_rule ≡ rows
    go true e = rw e refl
    go false e = rw e refl

count_same : (rows : List Row) → with_default rows count_rule ≡ rows
count_same rows = go (has_row (codes "COUNT") rows) refl
  where
    go : (b : Bool) → has_row (codes "COUNT") rows ≡ b → with_default rows count_rule ≡ rows
    go true e = rw e refl
    go false e = rw e refl

-- a flag that wasn't given is false
abbrev flag_end : Text → Bool → Row
flag_end id given = if given then row id (codes "true") else default_row id

module _ (id : Text) (a : Rule)
    (is : (rows : List Row) → with_default rows a ≡ (if has_row id rows then rows else with_values id AsWritten DefaultValue (codes "false" ∷ []) rows)) where
  default_kept : (rows : List Row) (r : Row) → row_at id rows ≡ Some r → with_default rows a ≡ rows
  default_kept rows r e = is rows ∙ ap (λ b. if b then rows else with_values id AsWritten DefaultValue (codes "false" ∷ []) rows) (has_one id r rows e)

  default_joins : (rows : List Row) → row_at id rows ≡ None → with_default rows a ≡ rows ++ default_row id ∷ []
  default_joins rows e =
      is rows ∙ ap (λ b. if b then rows else with_values id AsWritten DefaultValue (codes "false" ∷ []) rows) (has_none id rows e)
      ∙ at_none id (more_values DefaultValue (codes "false" ∷ [])) (default_row id ∷ []) rows (has_none id rows e)

  flag_other : (rows : List Row) (given : Bool) (other : Text) → row_at id rows ≡ flag_row id given → bytes_eq id other ≡ false
      → row_at other (with_default rows a) ≡ row_at other rows
  flag_other rows true other e apart = ap (row_at other) (default_kept rows _ e)
  flag_other rows false other e apart = ap (row_at other) (default_joins rows e) ∙ found_other other (default_row id) rows apart

  flag_own : (rows : List Row) (given : Bool) → row_at id rows ≡ flag_row id given → bytes_eq id id ≡ true → row_at id (with_default rows a) ≡ Some (flag_end id given)
  flag_own rows true e same = ap (row_at id) (default_kept rows _ e) ∙ e
  flag_own rows false e same = ap (row_at id) (default_joins rows e) ∙ found_own id (default_row id) rows same e

-- the rows at the end say what was read
pub record Finished (s : Seen) (rows : List Row) : Type 0 where
  pub mode : row_at (codes "MODE") rows ≡ option_map (row (codes "MODE")) (slice_get s.operands 0)
  pub count : row_at (codes "COUNT") rows ≡ option_map (row (codes "COUNT")) (slice_get s.operands 1)
  pub continues : row_at (codes "continue") rows ≡ Some (flag_end (codes "continue") s.continues)
  pub shows : row_at (codes "show") rows ≡ Some (flag_end (codes "show") s.shows)

with_flags : (s : Seen) (rows : List Row) → Fits s rows → Finished s (with_default (with_default rows continue_rule) show_rule)
with_flags s rows f =
    let more = with_default rows continue_rule in
    let shows : row_at (codes "show") more ≡ flag_row (codes "show") s.shows =
    flag_other (codes "continue") continue_rule (λ x. refl) rows s.continues (codes "show") f.continues refl ∙ f.shows in
    record {
      mode = flag_other (codes "show") show_rule (λ x. refl) more s.shows (codes "MODE") shows refl
          ∙ flag_other (codes "continue") continue_rule (λ x. refl) rows s.continues (codes "MODE") f.continues refl ∙ f.mode;
      count = flag_other (codes "show") show_rule (λ x. refl) more s.shows (codes "COUNT") shows refl
          ∙ flag_other (codes "continue") continue_rule (λ x. refl) rows s.continues (codes "COUNT") f.continues refl ∙ f.count;
      continues = flag_other (codes "show") show_rule (λ x. refl) more s.shows (codes "continue") shows refl
          ∙ flag_own (codes "continue") continue_rule (λ x. refl) rows s.continues f.continues refl;
      shows = flag_own (codes "show") show_rule (λ x. refl) more s.shows shows refl;
    }

finishes : (s : Seen) (rows : List Row) (pending : Pending) → Fits s (settled_rows rules pending rows) → Finished s (finished rules (held rows pending))
finishes s rows pending f =
    let end = settled_rows rules pending rows in
    let same : with_default (with_default end mode_rule) count_rule ≡ end = ap (λ xs. with_default xs count_rule) (mode_same end) ∙ count_same end in
    subst (λ (xs : List Row). Finished s (with_default (with_default xs continue_rule) show_rule)) (sym same) (with_flags s end f)

-- ---- whether MODE is there

abbrev mode_kinds : List Text → Kinds
mode_kinds [] = kind.MissingRequiredArgument ∷ []
mode_kinds (mode ∷ rest) = []

checked : (s : Seen) (rows : List Row) → Finished s rows → check_fault shape rows false ≡ mode_kinds s.operands
checked s rows f = go s.operands refl
  where
    go : (os : List Text) → s.operands ≡ os → check_fault shape rows false ≡ mode_kinds os
    go [] e =
        let none : is_given (codes "MODE") rows ≡ false = rw (f.mode, e) refl in
        rw none refl
    go (m ∷ rest) e =
        let given : is_given (codes "MODE") rows ≡ true = rw (f.mode, e) refl in
        rw given refl

-- ---- all the faults

abbrev faults_after : Walk → Kinds
faults_after w =
    or_else (entered_fault (built derive_app) w.stopped) (or_else (settle_fault rules false w.held)
    (or_else (defaults_fault (settled rules w.held).rows rules) (check_fault shape (finished rules w.held) (is_some (entered (built derive_app) w.stopped)))))

held_faults : (s : Seen) (rows : List Row) (pending : Pending) (os : List Text) (e : Bool) → settle_fault rules false (held rows pending) ≡ []
    → Fits s (settled_rows rules pending rows) → faults_after (walk_at rows pending os e) ≡ mode_kinds s.operands
held_faults s rows pending os e settles f =
    ap (λ ks. or_else ks (or_else (defaults_fault (settled_rows rules pending rows) rules) (check_fault shape (finished rules (held rows pending)) false))) settles
    ∙ ap (λ ks. or_else ks (check_fault shape (finished rules (held rows pending)) false)) (all_defaults (settled_rows rules pending rows))
    ∙ checked s (finished rules (held rows pending)) (finishes s rows pending f)

-- the words as they were read, and clap's faults and matches
abbrev pub Faulted : Option Seen → Kinds → List Row → Type 0
Faulted None kinds rows = kinds ≡ [] → ⊥
Faulted (Some t) kinds rows = (kinds ≡ mode_kinds t.operands) × Finished t rows × (length t.operands ≤ 2)

walked_faults : (words : List Text) (o : Option Seen) → Walked (walk_at [] None [] false) words o → Faulted o (fault_of derive_app words) (matches_of derive_app words)
walked_faults words None h = or_no_kind _ _ h
walked_faults words (Some t) h =
    let st : Stands t (at_end words) = h.1 in
    let faults : faults_after (at_end words) ≡ mode_kinds t.operands = subst (λ (w : Walk). faults_after w ≡ mode_kinds t.operands) (sym st.is)
    (held_faults t st.rows st.pending t.operands t.ends st.settles st.fits) in (
      ap (λ ks. or_else ks (faults_after (at_end words))) h.0 ∙ faults,
      subst (λ (w : Walk). Finished t (finished rules w.held)) (sym st.is) (finishes t st.rows st.pending st.fits),
      st.few,
    )

pub faults : (words : List Text) → All IsUtf8 words → Faulted (see_all start words) (fault_of derive_app words) (matches_of derive_app words)
faults words u = walked_faults words (see_all start words) (walks words start (walk_at [] None [] false) u begins)

-- ---- mode lines

-- words with a fault are no mode line
pub refused_words : (words : List Text) → All IsUtf8 words → (fault_of derive_app words ≡ [] → ⊥) → IsModeLine words → ⊥
refused_words words u fault is =
    let x = line_back words is in
    let f : Faulted (Some x.0) (fault_of derive_app words) (matches_of derive_app words) =
    subst (λ o. Faulted o (fault_of derive_app words) (matches_of derive_app words)) x.1 (faults words u) in
    fault (f.0 ∙ ap mode_kinds x.2)

-- what the matches give, where the command matches the words
pub record Matched (words : List Text) (rows : List Row) : Type 0 where
  pub flags : Flags
  pub has : HasFlags rows flags
  pub some : (line : Flags) → line_in rows flags ≡ Some line → Asks words line
  pub none : line_in rows flags ≡ None → IsModeLine words → ⊥

flag_text : (id : Text) (given : Bool) (rows : List Row) → row_at id rows ≡ Some (flag_end id given) → one_of id rows ≡ Some (bool_text given)
flag_text id true rows e = rw e refl
flag_text id false rows e = rw e refl

value_is : (id : Text) (v : Option Text) (rows : List Row) → row_at id rows ≡ option_map (row id) v → first_of id rows ≡ v
value_is id None rows e = rw e refl
value_is id (Some v) rows e = rw e refl

-- the first two operands are `check` alone
abbrev is_check_line : List Text → Bool
is_check_line os = is_check (slice_get os 0) (slice_get os 1)

only_check : (os : List Text) → length os ≤ 2 → is_check_line os ≡ true → os ≡ codes "check" ∷ []
only_check [] few e = absurd (true≢false (sym e))
only_check (m ∷ []) few e = ap (λ x. x ∷ []) ((bytes_eq-Decides m (codes "check")).0 e)
only_check (m ∷ n ∷ []) few e = absurd (true≢false (sym e))
only_check (m ∷ n ∷ k ∷ os) few e = absurd (omega (arith, few))

matched : (words : List Text) (t : Seen) → see_all start words ≡ Some t → (rows : List Row) → Finished t rows → length t.operands ≤ 2 → Matched words rows
matched words t e rows f few =
    let line : line_in rows (asked t) ≡ (if is_check_line t.operands then Some (asked t) else None) =
    ap₂ (λ m n. if is_check m n then Some (asked t) else None) (value_is (codes "MODE") _ rows f.mode) (value_is (codes "COUNT") _ rows f.count) in
    record {
      flags = asked t;
      has = record { continues = flag_text (codes "continue") t.continues rows f.continues; shows = flag_text (codes "show") t.shows rows f.shows };
      some = λ l s. given (is_check_line t.operands) refl l (sym line ∙ s);
      none = λ n is. refused (is_check_line t.operands) refl (sym line ∙ n) is;
    }
  where
    given : (b : Bool) → is_check_line t.operands ≡ b → (l : Flags) → (if b then Some (asked t) else None) ≡ Some l → Asks words l
    given true c l s = let same : asked t ≡ l = cc in subst (Asks words) same (line_read words t e (only_check t.operands few c))
    given false c l s = cc

    refused : (b : Bool) → is_check_line t.operands ≡ b → (if b then Some (asked t) else None) ≡ None → IsModeLine words → ⊥
    refused true c n is = cc
    refused false c n is =
        let x = line_back words is in
        let same : x.0 ≡ t = cc in
        true≢false (sym (ap is_check_line x.2) ∙ ap (λ (v : Seen). is_check_line v.operands) same ∙ c)

-- a match without fault gives the mode line, or the words are none
pub matched_words : (words : List Text) → All IsUtf8 words → fault_of derive_app words ≡ [] → (rows : List Row) → rows ≡ matches_of derive_app words → Matched words rows
matched_words words u fault rows is = go (see_all start words) refl (faults words u)
  where
    go : (o : Option Seen) → see_all start words ≡ o → Faulted o (fault_of derive_app words) (matches_of derive_app words) → Matched words rows
    go None e f = absurd (f fault)
    go (Some t) e f = matched words t e rows (subst (Finished t) (sym is) f.1) f.2

-- ---- what clap answers

module _ (a : App) (ws words : List Text) (is : a ≡ derive_app) (same : ws ≡ words) (text : All IsUtf8 words) where
  free : is_simple_and_free a ≡ true
  free = ap is_simple_and_free is

  same_fault : fault_of a ws ≡ fault_of derive_app words
  same_fault = ap₂ fault_of is same

  -- the command takes the words
  pub ok_words : (m : ArgMatches) → (is_simple_and_free a ≡ true → fault_of a ws ≡ []) → HasMatchesOf a ws m → Matched words (rows_of (found_of m))
  ok_words m passes has =
      matched_words words text (sym same_fault ∙ passes free) (rows_of (found_of m)) ((has (ap is_simple is)).0 ∙ ap₂ matches_of is same)

  -- clap refuses the words, or has no memory
  pub err_words : (e : Error) (r : WordsError) → (is_simple_and_free a ≡ true → HasKind (fault_of a ws) e) → (kind_of e ≡ kind.OutOfMemory → r ≡ Memory) → IsRefusalOf words r
  err_words e Memory fails memory = tt
  err_words e (Usage f) fails memory = refused_words words text (λ none. by (fails free) none)
    where
      by : HasKind (fault_of a ws) e → fault_of derive_app words ≡ [] → ⊥
      by (inl out) none = let bad : Usage f ≡ Memory = memory out in cc
      by (inr among) none = subst (IsAmong (kind_of e)) (same_fault ∙ none) among

-- the mode line that the matches give, or usage
pub record Given (words : List Text) (r : Result Flags WordsError) : Type 0 where
  pub mode : IfOk r (λ line. IsModeLine words)
  pub flags_are : IfOk r (λ line. line ≡ flags_of words)
  pub refusal : IfErr r (IsRefusalOf words)

pub line_given : (words : List Text) (rows : List Row) (m : Matched words rows) (o : Option Flags) (f : UsageFault) → o ≡ line_in rows m.flags
    → Given words (ok_or o (Usage f))
line_given words rows m (Some line) f is =
    let a = m.some line (sym is) in
    record { mode = a.is; flags_are = a.flags_are; refusal = tt }
line_given words rows m None f is = record { mode = tt; flags_are = tt; refusal = m.none (sym is) }
