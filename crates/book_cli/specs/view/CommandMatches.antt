-- The command as clap sees it, and what is read of its matches.
use Rattle.std.specs.Prelude.{◌≡◌, ℕ, Bool, true, false, List, Option, Some, None, codes, if◌then◌else◌}
use Rattle.std.specs.Str.{bytes_eq}
use Rattle.clap.specs.Words.{App, Row, Rule, first_of, one_of, new_app, new_rule, with_rule}
use Rattle.clap.specs.Simple.{on_top}
use Rattle.clap.specs.Values.{bool_text}
use Rattle.clap.specs.declared.builder.ArgAction.TheVariants.{SetTrue}
use Rattle.book_cli.specs.declared.words.Flags.{Flags}

-- the positionals and the flags
abbrev pub mode_arg : Rule
mode_arg = record (new_rule (codes "MODE")) { required = true }

abbrev pub count_arg : Rule
count_arg = new_rule (codes "COUNT")

abbrev pub continue_arg : Rule
continue_arg = record (new_rule (codes "continue")) { long = Some (codes "continue"); action = Some SetTrue }

abbrev pub show_arg : Rule
show_arg = record (new_rule (codes "show")) { long = Some (codes "show"); action = Some SetTrue }

-- the command without arguments
abbrev pub bare_app : App
bare_app = on_top (λ s. record s { no_binary_name = true; disable_help_flag = true; disable_version_flag = true }) (new_app (codes "derive"))

-- the command
abbrev pub derive_app : App
derive_app = with_rule (with_rule (with_rule (with_rule bare_app mode_arg) count_arg) continue_arg) show_arg

-- `check`, with no count
abbrev pub is_check : Option (List ℕ) → Option (List ℕ) → Bool
is_check (Some mode) None = bytes_eq mode (codes "check")
is_check _ _ = false

-- the matches say which flags were given
pub record HasFlags (rows : List Row) (flags : Flags) : Type 0 where
  pub continues : one_of (codes "continue") rows ≡ Some (bool_text flags.continues)
  pub shows : one_of (codes "show") rows ≡ Some (bool_text flags.shows)

-- the mode line that the matches give, where its flags are known
abbrev pub line_in : List Row → Flags → Option Flags
line_in rows flags = if is_check (first_of (codes "MODE") rows) (first_of (codes "COUNT") rows) then Some flags else None
