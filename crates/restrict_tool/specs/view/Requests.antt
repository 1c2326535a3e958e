-- Requests as the code has them.
use Rattle.lisp_data.specs.FormView.{form_of, IsProper}
use Rattle.lisp_data.specs.ValueView.{val_of}
use Rattle.restrict_tool.specs.Restrictions.{Request}
use Rattle.restrict_tool.specs.declared.planning.Request as code

abbrev pub request_seen : code.Request → Request
request_seen q = record {
  old = q.old.now;
  restriction = form_of q.restriction.now;
  undefined = val_of q.undefined.now;
  function = q.function.now;
  theorem = q.theorem.now;
}
