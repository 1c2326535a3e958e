-- `restrict`: a function restricted to arguments that meet a test, and the theorem that it is the old function there.
use Rattle.std.specs.Prelude.{[], ◌∷◌, ◌++◌, codes, None, true}
use Rattle.event_forms.specs.Transformations.{RestrictParts}
use Rattle.restrict_tool.specs.Restrictions.{Request, plan_of}
use Rattle.events.specs.Frames.{Frame, AsForm, coded}

abbrev pub request : RestrictParts → Request
request p = record {
  old = p.old;
  restriction = p.restriction;
  undefined = p.undefined;
  function = p.function;
  theorem = p.theorem;
}

abbrev pub restrict : RestrictParts → Frame
restrict p = record {
  title = codes "restrict " ++ p.theorem;
  shows = true;
  prints = None;
  names = p.function ∷ p.theorem ∷ [];
  repeats = AsForm;
  clauses = record { proofs = p.proofs; hows = p.hows };
  plan = λ W. coded (plan_of W (request p));
}
