-- A sound world is sound with the entries that it can take.
use Rattle.std.proofs.Common.{◌≡◌, List, [], ◌∷◌}
use Rattle.terms.specs.Worlds.{World}
use Rattle.terms.specs.Sound.{Sound, add_definition}
use Rattle.terms.specs.declared.definition.Definition.{Definition}
use Rattle.terms.proofs.WorldsGrow.{worlds_grow}
use Rattle.worlds.proofs.Free.{free}
use Rattle.plans.specs.declared.plan.Entry.{Entry}
use Rattle.plans.specs.declared.plan.Entry.TheVariants.{Function, Variable, Theorem, Spec, Isomorphism, Instance, Chained}
use Rattle.plans.specs.Entries.{add_entry, Admits, IsNewDefinition}
use Rattle.plans.specs.Laws.{EntriesKeepSound}

with_new : (W : World) → Sound W → (d : Definition) → IsNewDefinition W d → Sound (add_definition d W)
with_new W sound d a =
    let f = free W d.name a.free in
    let ok = a.well_formed in
    worlds_grow.definition W sound d (record {
      fresh = f.no_function;
      formals = ok.formals;
      body = ok.body;
      measure = ok.measure;
      measured = ok.measured;
      flat = ok.flat;
    }) f.new a.owed

entry_sound : (W : World) → Sound W → (e : Entry) → Admits W e → Sound (add_entry e W)
entry_sound W sound (Function d) a = with_new W sound d a
entry_sound W sound (Variable x k) a = let f = free W x a in worlds_grow.variable W sound x k f.no_function f.new
entry_sound W sound (Theorem n s) a =
    let f = free W n a.0 in
    worlds_grow.theorem W sound n s f.unlike_primitives f.new a.1.no_hyps a.1.fits a.1.holds
entry_sound W sound (Spec s) a = let f = free W s.name a.0 in worlds_grow.specification W sound s f.unlike_primitives f.new a.1
entry_sound W sound (Isomorphism i) a = let f = free W i.name a.0 in worlds_grow.iso W sound i f.unlike_primitives f.new a.1.0 a.1.1
entry_sound W sound (Instance of pairs instance) a = worlds_grow.instance W sound of pairs instance a
entry_sound W sound (Chained n l) a = worlds_grow.link W sound n l a

pub entries_keep_sound : EntriesKeepSound
entries_keep_sound W sound [] a = sound
entries_keep_sound W sound (e ∷ es) a = entries_keep_sound (add_entry e W) (entry_sound W sound e a.0) es a.1
