-- `defun-inst`: the instance of a function or of a specification, in which functions stand for function variables. It has no conditions.
use Rattle.std.specs.Prelude.{if◌then◌else◌, List, [], ◌∷◌, ◌++◌, codes, Option, Some, None, true, Ok, Err}
use Rattle.lisp_data.specs.Values.{Name}
use Rattle.lisp_data.specs.declared.code.Code.TheVariants as code
use Rattle.lisp_data.specs.declared.detail.Detail.TheVariants as detail
use Rattle.terms.specs.Definitions.{find}
use Rattle.terms.specs.Instances.{restricted, instance_map, function_instance}
use Rattle.terms.specs.Maps.{NamePairs, rename}
use Rattle.terms.specs.Pairs.{is_known}
use Rattle.terms.specs.Worlds.{World}
use Rattle.terms.specs.declared.definition.Definition.{Definition}
use Rattle.terms.specs.declared.entries.FunPair.{FunPair}
use Rattle.terms.specs.declared.entries.Specification.{Specification}
use Rattle.term_forms.specs.Translation.{Outcome, and_then, map_outcome}
use Rattle.worlds.specs.Lookups.{find_spec}
use Rattle.soft_vars.specs.Dependents.{variables_of}
use Rattle.plans.specs.declared.plan.Entry.{Entry}
use Rattle.plans.specs.declared.plan.Entry.TheVariants.{Function, Spec, Instance}
use Rattle.plans.specs.declared.plan.Plan.{Plan}
use Rattle.event_forms.specs.Instances.{InstanceParts, pairs_of}
use Rattle.event_forms.specs.Refused.{bad_part}
use Rattle.events.specs.DefunSk2.{specification}
use Rattle.events.specs.Frames.{Frame, AsForm, no_clauses, coded}

-- what an instance is made of
pub data Origin : Type 0 where
  OfFunction : (definition : Definition) → Origin
  OfSpecification : (specification : Specification) → Origin

-- a name that is neither a function's with a definition nor a specification's
abbrev pub no_origin : World → Name → Outcome Origin
no_origin W g = if is_known W g then Err (code.NotAFunction, detail.Name g) else Err (code.UnknownName, detail.Name g)

abbrev pub origin_by : World → Name → Option Definition → Option Specification → Outcome Origin
origin_by W g (Some d) s = Ok (OfFunction d)
origin_by W g None (Some s) = Ok (OfSpecification s)
origin_by W g None None = no_origin W g

abbrev pub origin : World → Name → Outcome Origin
origin W g = origin_by W g (find W.functions.defs g) (find_spec W.specifications g)

abbrev pub some_pairs : List FunPair → Outcome (List FunPair)
some_pairs [] = bad_part (codes "pairs")
some_pairs (p ∷ ps) = Ok (p ∷ ps)

-- the pairs of an event: one at least, and each fits
abbrev pub fitting_pairs : World → List FunPair → Outcome (List FunPair)
fitting_pairs W all = and_then (some_pairs all) (λ all. map_outcome (λ m. all) (instance_map W [] all))

-- the origin depends on one at least
abbrev pub some_own : List FunPair → Outcome (List FunPair)
some_own [] = Err (code.ShapeMismatch, detail.Word (codes "function-variable"))
some_own (p ∷ ps) = Ok (p ∷ ps)

-- those that count: of the variables on which the origin depends
abbrev pub own_pairs : World → InstanceParts → Outcome (List FunPair)
own_pairs W p =
    and_then (pairs_of p.pairs) (λ all. and_then (fitting_pairs W all) (λ all. some_own (restricted all (variables_of W p.of))))

-- a function's instance, and its record
abbrev pub function_entries : Name → List FunPair → Definition → List Entry
function_entries g own i = Function i ∷ Instance g own i.name ∷ []

-- a specification's instance has the same variables
abbrev pub specification_entries : Name → Specification → NamePairs → List Entry
specification_entries s origin m = Spec (specification s origin.variables (rename m origin.matrix)) ∷ []

-- the instance of a new name, under the pairs that count
abbrev pub entries_of : World → Name → List FunPair → Origin → Outcome (List Entry)
entries_of W n own (OfFunction d) = map_outcome (function_entries d.name own) (function_instance W d own n)
entries_of W n own (OfSpecification s) = map_outcome (specification_entries n s) (instance_map W (s.matrix ∷ []) own)

abbrev pub instance_plan : List Entry → Plan
instance_plan es = record { entries = es; conditions = []; before = []; after = [] }

-- the origin comes first, then the pairs, then the instance
abbrev pub instance_of : World → InstanceParts → Outcome (List Entry)
instance_of W p = and_then (origin W p.of) (λ o. and_then (own_pairs W p) (λ own. entries_of W p.name own o))

abbrev pub defun_inst : InstanceParts → Frame
defun_inst p = record {
  title = codes "defun-inst " ++ p.name;
  shows = true;
  prints = None;
  names = p.name ∷ [];
  repeats = AsForm;
  clauses = no_clauses;
  plan = λ W. coded (map_outcome instance_plan (instance_of W p));
}
