-- `isodata`: a function on another representation of some of its arguments, and the theorems that lead from the one to the other.
use Rattle.std.specs.Prelude.{List, [], ◌∷◌, ◌++◌, codes, None, true}
use Rattle.lisp_data.specs.Values.{Name}
use Rattle.term_forms.specs.Translation.{Outcome, and_then}
use Rattle.event_forms.specs.Representations.{IsodataParts, maps_of}
use Rattle.isodata_tool.specs.Isomorphic.{Request, plan_of}
use Rattle.plans.specs.declared.plan.Plan.{Plan}
use Rattle.terms.specs.Worlds.{World}
use Rattle.events.specs.Frames.{Frame, AsForm, coded}

abbrev pub request : IsodataParts → List (Name × Name) → Request
request p maps = record {
  old = p.old;
  maps = maps;
  function = p.function;
  new_to_old = p.new_to_old;
  old_to_new = p.old_to_new;
}

abbrev pub isodata_plan : World → IsodataParts → Outcome Plan
isodata_plan W p = and_then (maps_of p.maps) (λ maps. plan_of W (request p maps))

abbrev pub isodata : IsodataParts → Frame
isodata p = record {
  title = codes "isodata " ++ p.old_to_new;
  shows = true;
  prints = None;
  names = p.function ∷ p.new_to_old ∷ p.old_to_new ∷ [];
  repeats = AsForm;
  clauses = record { proofs = p.proofs; hows = p.hows };
  plan = λ W. coded (isodata_plan W p);
}
