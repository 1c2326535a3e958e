use Rattle.std.proofs.Common.{◌≡◌, ◌++◌, arith}
use Rattle.std.proofs.lemmas.List.{take_all}
use Rattle.term_forms.specs.view.TranslationView.{allowed}
use Rattle.term_forms.specs.Bindings.{names_of}
use Rattle.term_forms.proofs.Scopes.{with_more}
use Rattle.term_forms.proofs.bindings.Variables.with.Goals as goal

pub returns : goal.returns
returns c =
    let whole : c.loop-binding.bound ≡ c.args.self.now.bound ++ names_of c.args.bindings.now = grind (arith, take_all) in
    with_more c.args.self.now.bound (names_of c.args.bindings.now) _ (allowed c.args.self.now.outer.now) whole
