use Rattle.std.proofs.Common.{◌≡◌, ◌∙◌, Bool, Option, Some, None, List, ℕ, ap, ap₂, sym, true, false, codes}
use Rattle.std.specs.Prelude.{if◌then◌else◌}
use Rattle.clap.proofs.WalkLemmas.{first_value-rows, one_text-rows}
use Rattle.clap.specs.Words.{first_of, found_of, rows_of}
use Rattle.clap.specs.Values.{bool_text}
use Rattle.book_cli.specs.view.CommandMatches.{is_check}
use Rattle.book_cli.specs.declared.words.Flags.{Flags}
use Rattle.book_cli.proofs.words.line_of.Goals as goal

-- the flag that the getter reads
flag_is : (b : Bool) (o : Option (List ℕ)) (r : Bool) → o ≡ Some (bool_text b) → (o ≡ Some (codes "true") → r ≡ true) → (o ≡ Some (codes "false") → r ≡ false) → r ≡ b
flag_is true o r e given other = given e
flag_is false o r e given other = other e

pub returns-then-not-is_check : goal.returns-then-not-is_check
returns-then-not-is_check c flags has =
    let found = found_of c.args.matches.now in
    let test : is_check (first_of (codes "MODE") (rows_of found)) (first_of (codes "COUNT") (rows_of found)) ≡ false =
    sym (c.is_check.ensures ∙ ap₂ is_check (c.get_str.ensures ∙ first_value-rows found (codes "MODE")) (c.get_str-2.ensures ∙ first_value-rows found (codes "COUNT")))
    ∙ c.if-not-is_check.true in
    sym (ap (λ b. if b then Some flags else None) test)

pub returns : goal.returns
returns c flags has =
    let found = found_of c.args.matches.now in
    let test : is_check (first_of (codes "MODE") (rows_of found)) (first_of (codes "COUNT") (rows_of found)) ≡ true =
    sym (c.is_check.ensures ∙ ap₂ is_check (c.get_str.ensures ∙ first_value-rows found (codes "MODE")) (c.get_str-2.ensures ∙ first_value-rows found (codes "COUNT")))
    ∙ c.if-not-is_check.false in
    let continues = flag_is flags.continues _ c.get_flag.result (one_text-rows found (codes "continue") ∙ has.continues) c.get_flag.ensures.value c.get_flag.ensures.other in
    let shows = flag_is flags.shows _ c.get_flag-2.result (one_text-rows found (codes "show") ∙ has.shows) c.get_flag-2.ensures.value c.get_flag-2.ensures.other in
    let same : ◌≡◌ {A = Flags} (record { continues = c.get_flag.result; shows = c.get_flag-2.result }) flags =
    ap₂ (λ (x y : Bool). record { continues = x; shows = y }) continues shows in
    ap Some same ∙ sym (ap (λ b. if b then Some flags else None) test)
