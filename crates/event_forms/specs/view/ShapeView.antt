-- What the code's events are seen as.
use Rattle.std.specs.Prelude.{map, Option, option_map, IfSome}
use Rattle.lisp_data.specs.FormView.{form_of, IsProper, AllProper}
use Rattle.event_forms.specs.Clauses.{clauses_in, hints_in}
use Rattle.event_forms.specs.Instances as instance
use Rattle.event_forms.specs.SecondOrder as order
use Rattle.event_forms.specs.Shapes as spec
use Rattle.event_forms.specs.Isomorphisms as iso
use Rattle.event_forms.specs.Representations as representation
use Rattle.event_forms.specs.Transformations as transformation
use Rattle.event_forms.specs.declared.instances.InstanceParts.{InstanceParts}
use Rattle.event_forms.specs.declared.isomorphisms.IsoParts.{IsoParts}
use Rattle.event_forms.specs.declared.second_order.SpecificationParts.{SpecificationParts}
use Rattle.event_forms.specs.declared.second_order.VariableParts.{VariableParts}
use Rattle.event_forms.specs.declared.representations.IsodataParts.{IsodataParts}
use Rattle.event_forms.specs.declared.transformations.RestrictParts.{RestrictParts}
use Rattle.event_forms.specs.declared.shapes.Event.{Event}
use Rattle.event_forms.specs.declared.shapes.FunctionParts.{FunctionParts}
use Rattle.event_forms.specs.declared.shapes.TheoremParts.{TheoremParts}
use Rattle.event_forms.specs.declared.shapes.Event.TheVariants.{InPackage, IncludeBook, Defun, Defthm, Defiso, Restrict, Isodata, Defun2, Defunvar, DefunSk2, DefunInst, DefthmInst, ValueTriple}

-- what f gives of a part that may be left out
abbrev pub if_given : {A B : Type 0} → Option A → (A → B) → Option B
if_given part f = option_map f part

abbrev pub function_seen : FunctionParts → spec.FunctionParts
function_seen f = record {
  name = f.name.now;
  formals = map form_of f.formals.now;
  body = form_of f.body.now;
  measure = if_given f.measure (λ m. form_of m.now);
  proofs = clauses_in (map form_of f.proofs.now);
  hows = hints_in (map form_of f.hows.now);
}

abbrev pub theorem_seen : TheoremParts → spec.TheoremParts
theorem_seen t = record {
  name = t.name.now;
  formula = form_of t.formula.now;
  assumed = map form_of t.assumed.now;
  proof = if_given t.proof (λ p. form_of p.now);
  how = if_given t.how (λ steps. map form_of steps.now);
}

abbrev pub iso_seen : IsoParts → iso.IsoParts
iso_seen i = record {
  name = i.name.now;
  oldp = i.oldp.now;
  newp = i.newp.now;
  forth = i.forth.now;
  back = i.back.now;
  proofs = clauses_in (map form_of i.proofs.now);
  hows = hints_in (map form_of i.hows.now);
}

abbrev pub restrict_seen : RestrictParts → transformation.RestrictParts
restrict_seen r = record {
  old = r.old.now;
  restriction = form_of r.restriction.now;
  undefined = transformation.undefined_by (if_given r.undefined (λ u. form_of u.now));
  function = r.function.now;
  theorem = r.theorem.now;
  proofs = clauses_in (map form_of r.proofs.now);
  hows = hints_in (map form_of r.hows.now);
}

abbrev pub isodata_seen : IsodataParts → representation.IsodataParts
isodata_seen i = record {
  old = i.old.now;
  maps = map form_of i.maps.now;
  function = i.function.now;
  new_to_old = i.new_to_old.now;
  old_to_new = i.old_to_new.now;
  proofs = clauses_in (map form_of i.proofs.now);
  hows = hints_in (map form_of i.hows.now);
}

abbrev pub variable_seen : VariableParts → order.VariableParts
variable_seen v = record { name = v.name.now; arity = v.arity }

abbrev pub specification_seen : SpecificationParts → order.SpecificationParts
specification_seen s = record {
  name = s.name.now;
  variables = map form_of s.variables.now;
  matrix = form_of s.matrix.now;
}

abbrev pub instance_seen : InstanceParts → instance.InstanceParts
instance_seen i = record { name = i.name.now; of = i.of.now; pairs = map form_of i.pairs.now }

abbrev pub seen : Event → spec.Event
seen InPackage = spec.InPackage
seen (IncludeBook book) = spec.IncludeBook book.now
seen (Defun function) = spec.Defun (function_seen function)
seen (Defthm theorem) = spec.Defthm (theorem_seen theorem)
seen (Defiso iso) = spec.Defiso (iso_seen iso)
seen (Restrict restriction) = spec.Restrict (restrict_seen restriction)
seen (Isodata representation) = spec.Isodata (isodata_seen representation)
seen (Defun2 function) = spec.Defun2 (function_seen function)
seen (Defunvar variable) = spec.Defunvar (variable_seen variable)
seen (DefunSk2 specification) = spec.DefunSk2 (specification_seen specification)
seen (DefunInst instance) = spec.DefunInst (instance_seen instance)
seen (DefthmInst instance) = spec.DefthmInst (instance_seen instance)
seen (ValueTriple form) = spec.ValueTriple (form_of form.now)

-- the forms in it are proper
pub record IsProperFunction (f : FunctionParts) : Type 0 where
  pub formals : AllProper f.formals.now
  pub body : IsProper f.body.now
  pub measure : IfSome f.measure (λ m. IsProper m.now)
  pub proofs : AllProper f.proofs.now
  pub hows : AllProper f.hows.now

pub record IsProperTheorem (t : TheoremParts) : Type 0 where
  pub formula : IsProper t.formula.now
  pub assumed : AllProper t.assumed.now
  pub proof : IfSome t.proof (λ p. IsProper p.now)
  pub how : IfSome t.how (λ steps. AllProper steps.now)

pub record IsProperIso (i : IsoParts) : Type 0 where
  pub proofs : AllProper i.proofs.now
  pub hows : AllProper i.hows.now

pub record IsProperRestriction (r : RestrictParts) : Type 0 where
  pub restriction : IsProper r.restriction.now
  pub undefined : IfSome r.undefined (λ u. IsProper u.now)
  pub proofs : AllProper r.proofs.now
  pub hows : AllProper r.hows.now

pub record IsProperIsodata (i : IsodataParts) : Type 0 where
  pub maps : AllProper i.maps.now
  pub proofs : AllProper i.proofs.now
  pub hows : AllProper i.hows.now

pub record IsProperSpecification (s : SpecificationParts) : Type 0 where
  pub variables : AllProper s.variables.now
  pub matrix : IsProper s.matrix.now

pub record IsProperInstance (i : InstanceParts) : Type 0 where
  pub pairs : AllProper i.pairs.now

abbrev pub HasProperParts : Event → Type 0
HasProperParts InPackage = Unit {0}
HasProperParts (IncludeBook book) = Unit {0}
HasProperParts (Defun function) = IsProperFunction function
HasProperParts (Defthm theorem) = IsProperTheorem theorem
HasProperParts (Defiso iso) = IsProperIso iso
HasProperParts (Restrict restriction) = IsProperRestriction restriction
HasProperParts (Isodata representation) = IsProperIsodata representation
HasProperParts (Defun2 function) = IsProperFunction function
HasProperParts (Defunvar variable) = Unit {0}
HasProperParts (DefunSk2 specification) = IsProperSpecification specification
HasProperParts (DefunInst instance) = IsProperInstance instance
HasProperParts (DefthmInst instance) = IsProperInstance instance
HasProperParts (ValueTriple form) = IsProper form.now
