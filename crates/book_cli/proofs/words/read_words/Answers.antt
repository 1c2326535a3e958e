use Rattle.std.proofs.Common.{◌∙◌, ap, map}
use Rattle.clap.specs.Words.{app_of, found_of, rows_of}
use Rattle.book_cli.proofs.CommandEnds.{Given, err_words, line_given, ok_words}
use Rattle.book_cli.proofs.words.read_words.Goals as goal
use Rattle.book_cli.proofs.words.read_words.Goals.{After-drop-texts-in-Ok}

-- what the matches give
given : (c : After-drop-texts-in-Ok) → Given c.args.words.now c.ok_or.result
given c =
    let same = ap (map (λ s. s.now)) c.as_slice.ensures.value ∙ c.in_ok-texts.ensures.texts in
    let m = ok_words (app_of c.in_ok-command.field-0) _ c.args.words.now c.in_ok-command.ensures same c.in_ok-texts.ensures.valid c.in-Ok.matches
    c.in-Ok.ensures.kinds c.in-Ok.ensures.matches in
    rw c.ok_or.ensures.value (line_given c.args.words.now (rows_of (found_of c.in-Ok.matches)) m c.line_of.result _ (c.line_of.ensures m.flags m.has))

pub returns-in-Ok-clause-mode : goal.returns-in-Ok-clause-mode
returns-in-Ok-clause-mode c = (given c).mode

pub returns-in-Ok-clause-flags : goal.returns-in-Ok-clause-flags
returns-in-Ok-clause-flags c = (given c).flags_are

pub returns-in-Ok-clause-refusal : goal.returns-in-Ok-clause-refusal
returns-in-Ok-clause-refusal c = (given c).refusal

pub returns-clause-refusal : goal.returns-clause-refusal
returns-clause-refusal c =
    let same = ap (map (λ s. s.now)) c.as_slice.ensures.value ∙ c.in_ok-texts.ensures.texts in
    err_words (app_of c.in_ok-command.field-0) _ c.args.words.now c.in_ok-command.ensures same c.in_ok-texts.ensures.valid c.in-Err.error c.words_error.result
    c.in-Err.ensures.kinds c.words_error.ensures.memory
