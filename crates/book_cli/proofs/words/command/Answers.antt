use Rattle.std.proofs.Common.{rules, ◌≡◌, ◌∙◌, ap, ap₂, true}
use Rattle.clap.specs.Simple.{Shape, app_of_fields, on_top}
use Rattle.clap.specs.Words.{app_of, rule_of, with_rule}
use Rattle.clap.specs.declared.builder.command.Command.{Command}
use Rattle.clap.specs.declared.builder.command.Command.TheOpen.{Command-F}
use Rattle.book_cli.specs.view.CommandMatches.{bare_app, mode_arg, count_arg, continue_arg, show_arg}
use Rattle.book_cli.proofs.words.command.Goals as goal

pub returns : goal.returns
returns c =
    let mode : rule_of c.required-mode.result ≡ mode_arg = search rules in
    let count : rule_of c.new-count.result ≡ count_arg = search rules in
    let continues : rule_of c.action-continues.result ≡ continue_arg = search rules in
    let shows : rule_of c.action-shows.result ≡ show_arg = search rules in
    let bare : app_of c.disable_version_flag.result ≡ bare_app =
    ap app_of_fields (c.disable_version_flag.ensures ∙ ap (λ (f : Command-F Command). record f { disable_version_flag = true })
    (c.disable_help_flag.ensures ∙ ap (λ (f : Command-F Command). record f { disable_help_flag = true }) c.no_binary_name.ensures))
    ∙ ap (on_top (λ (s : Shape). record s { no_binary_name = true; disable_help_flag = true; disable_version_flag = true })) c.new-4.ensures.app in
    c.in_ok-command.ensures.shape (search rules)
    ∙ ap₂ with_rule (c.in_ok-arg-3.ensures.shape (search rules)
    ∙ ap₂ with_rule (c.in_ok-arg-2.ensures.shape (search rules)
    ∙ ap₂ with_rule (c.in_ok-arg.ensures.shape (search rules) ∙ ap₂ with_rule bare mode) count) continues) shows
