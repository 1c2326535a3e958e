use Rattle.std.proofs.Common.{◌∙◌, ◌++◌, map, ap}
use Rattle.terms.specs.BuiltIn.{initial_definitions}
use Rattle.terms.specs.InitialTheorems.{initial_theorems}
use Rattle.worlds.specs.view.EntryLists.{grown, empty_world}
use Rattle.worlds.specs.declared.entry.Entry.TheVariants.{Function, Theorem}
use Rattle.worlds.proofs.Lookups.{grown-begun, grown-defined}
use Rattle.worlds.proofs.sealed.Sealed.initial.Goals as goal

pub returns : goal.returns
returns c =
    grown-begun c.in_ok-newer.newer c.in_ok-new-5.field-0.value c.in_ok-entries-2.entries c.in_ok-newer.ensures (c.in_ok-new-5.ensures.ok ∙ c.in_ok-older.ensures)
    ∙ ap (λ es. grown es empty_world) (c.in_ok-entries-2.ensures ∙ ap (λ es. map Function initial_definitions ++ es) (c.in_ok-entries.ensures ∙ ap (λ es. map (λ t. Theorem t.0 t.1) initial_theorems ++ es) c.new.ensures))
    ∙ grown-defined initial_definitions initial_theorems
