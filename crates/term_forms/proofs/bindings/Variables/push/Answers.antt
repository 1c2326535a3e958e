use Rattle.term_forms.specs.view.TranslationView.{allowed}
use Rattle.term_forms.proofs.Scopes.{with_more}
use Rattle.term_forms.proofs.bindings.Variables.push.Goals as goal

pub returns : goal.returns
returns c = with_more c.args.self.now.bound _ _ (allowed c.args.self.now.outer.now) c.in_ok-push.ensures.ok
