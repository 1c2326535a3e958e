-- `defiso`: an isomorphism, whose conditions are that its two functions map its two predicates into each other and undo each other.
use Rattle.std.specs.Prelude.{List, [], ◌∷◌, ◌++◌, codes, None, false}
use Rattle.lisp_data.specs.Values.{Name}
use Rattle.terms.specs.Sound.{iso_conditions}
use Rattle.terms.specs.Worlds.{World}
use Rattle.term_forms.specs.Translation.{Outcome, and_then, map_outcome}
use Rattle.terms.specs.declared.entries.Iso.{Iso}
use Rattle.terms.specs.declared.sequent.Sequent.{Sequent}
use Rattle.plans.specs.declared.plan.Condition.{Condition}
use Rattle.plans.specs.declared.plan.Plan.{Plan}
use Rattle.plans.specs.declared.plan.Entry.TheVariants.{Isomorphism}
use Rattle.event_forms.specs.Isomorphisms.{IsoParts}
use Rattle.events.specs.Functions.{unary}
use Rattle.events.specs.Frames.{Frame, AsForm, coded}

abbrev pub iso : IsoParts → Iso
iso p = record { name = p.name; oldp = p.oldp; newp = p.newp; forth = p.forth; back = p.back }

-- the isomorphism, where its predicates and then its functions may be ones
abbrev pub checked_iso : World → Iso → Outcome Iso
checked_iso W i =
    and_then (unary W i.oldp) (λ _.
    and_then (unary W i.newp) (λ _.
    and_then (unary W i.forth) (λ _.
    map_outcome (λ _. i) (unary W i.back))))

-- sequents under names, in order
abbrev pub named : List Name → List Sequent → List Condition
named (n ∷ ns) (s ∷ ss) = record { name = n; sequent = s } ∷ named ns ss
named _ _ = []

-- the four conditions of an isomorphism
abbrev pub conditions : Iso → List Condition
conditions i = named (codes ":FORTH-IMAGE" ∷ codes ":BACK-IMAGE" ∷ codes ":BACK-OF-FORTH" ∷ codes ":FORTH-OF-BACK" ∷ []) (iso_conditions i)

abbrev pub iso_plan : Iso → Plan
iso_plan i = record { entries = Isomorphism i ∷ []; conditions = conditions i; before = []; after = [] }

abbrev pub defiso : IsoParts → Frame
defiso p = record {
  title = codes "defiso " ++ p.name;
  shows = false;
  prints = None;
  names = p.name ∷ [];
  repeats = AsForm;
  clauses = record { proofs = p.proofs; hows = p.hows };
  plan = λ W. coded (map_outcome iso_plan (checked_iso W (iso p)));
}
