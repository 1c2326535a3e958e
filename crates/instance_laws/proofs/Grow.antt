-- A sound world stays sound with the instance of a definition, which can be recorded there; and what is recorded is an instance later too.
use Rattle.std.proofs.Common.{◌≡◌, cond, List, Some, Ok, sym, ap, subst}
use Rattle.terms.specs.Definitions.{find}
use Rattle.terms.specs.Worlds.{World, IsIn, names}
use Rattle.terms.specs.Instances.{function_instance}
use Rattle.terms.specs.Later.{IsLater, Stays}
use Rattle.terms.specs.Sound.{Sound, add_definition}
use Rattle.terms.specs.declared.definition.Definition.{Definition}
use Rattle.terms.specs.declared.entries.FunPair.{FunPair}
use Rattle.terms.proofs.Names.{name_self}
use Rattle.terms.proofs.NamesStay.{names_apart}
use Rattle.terms.proofs.RecordsStay.{function_later, definition_later, record_stays}
use Rattle.terms.proofs.Later.{vars_apart, later_worlds_keep}
use Rattle.terms.proofs.LaterSteps.{later_self, later_definition}
use Rattle.terms.proofs.WorldsGrow.{worlds_grow}
use Rattle.instance_laws.specs.Laws.{InstanceOfDefinition, GrowsByInstance, RecordsStay, WorldsGrowByInstances}
use Rattle.instance_laws.proofs.Parts.{instance_made}
use Rattle.instance_laws.proofs.Owes.{instances_owe}

pub records_stay : RecordsStay
records_stay W V sound sound_later later = record_stays W V (names_apart W sound) sound.formed (names_apart V sound_later) later

module _ (W : World) (sound : Sound W) (d : Definition) (found : find W.functions.defs d.name ≡ Some d) (pairs : List FunPair) (i : Definition) (new : IsIn (names W) i.name → ⊥) (e : function_instance W d pairs i.name ≡ Ok i) (own : InstanceOfDefinition W i) where
  abbrev larger : World
  larger = add_definition i W

  sound_with : Sound larger
  sound_with = worlds_grow.definition W sound i own.formed new own.owes

  later : IsLater W larger
  later = later_definition W W (later_self W) i

  stays : Stays W larger
  stays = later_worlds_keep W larger sound sound_with later

  pub grown_by : GrowsByInstance W d pairs i
  grown_by = record {
    sound = sound_with;
    recorded = record {
      origin = d;
      found = definition_later W larger (vars_apart W sound) (vars_apart larger sound_with) stays later.instances sound.formed d.name d found;
      instance = i;
      made = ap (λ b. cond b (Some i) (find W.functions.defs i.name)) (name_self i.name);
      gives = function_later W larger (vars_apart W sound) (vars_apart larger sound_with) stays later.instances sound.formed d found pairs i.name i e;
    };
  }

pub worlds_grow_by_instances : WorldsGrowByInstances
worlds_grow_by_instances W sound d found pairs name fresh new i e =
    let named : i.name ≡ name = ap (λ (z : Definition). z.name) (instance_made W sound d pairs name i e).is in
    grown_by W sound d found pairs i
    (subst (λ n. IsIn (names W) n → ⊥) (sym named) new)
    (subst (λ n. function_instance W d pairs n ≡ Ok i) (sym named) e)
    (instances_owe W sound d found pairs name fresh i e)
