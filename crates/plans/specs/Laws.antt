-- The laws of plans.
use Rattle.std.specs.Prelude.{◌≡◌, true, List, Some}
use Rattle.terms.specs.Worlds.{World, Each, Holds}
use Rattle.terms.specs.Sound.{Sound}
use Rattle.terms.specs.declared.sequent.Sequent.{Sequent}
use Rattle.proof_objects.specs.ProofTrees.{ProofTree}
use Rattle.kernel.specs.Concludes.{concludes}
use Rattle.plans.specs.declared.plan.Entry.{Entry}
use Rattle.plans.specs.Entries.{add_entries, AdmitsAll}
use Rattle.plans.specs.Proving.{proves}

-- a sound world that can take entries is sound with them
abbrev pub EntriesKeepSound : Type 0
EntriesKeepSound = (W : World) → Sound W → (es : List Entry) → AdmitsAll W es → Sound (add_entries es W)

-- a condition holds in a sound world where a proof concludes what proves it
abbrev pub ProvedConditionsHold : Type 0
ProvedConditionsHold =
    (W : World) → Sound W → (c s : Sequent) (p : ProofTree) → concludes W p ≡ Some s → proves s c ≡ true → Holds W.functions c
