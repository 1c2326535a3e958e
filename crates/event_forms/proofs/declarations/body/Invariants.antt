use Rattle.std.proofs.Common.{◌≡◌, drop, map}
use Rattle.lisp_data.specs.FormView.{form_of, IsProper}
use Rattle.event_forms.specs.Declarations.{body_of}
use Rattle.event_forms.specs.Keys.{no_keys}
use Rattle.event_forms.proofs.declarations.body.Given as goal

abbrev pub invariant-loop-next : goal.invariant-loop-next
invariant-loop-next l = record {
  proper : IsProper l.part;
  same : body_of l.seen (form_of l.part) (map form_of (drop l.next-index l.rest)) ≡ body_of no_keys (form_of l.first) (map form_of l.rest);
}
