use Rattle.std.proofs.Common.{subst, sym}
use Rattle.worlds.specs.view.EntryLists.{grown}
use Rattle.worlds.specs.view.Indexes.{Answers}
use Rattle.worlds.proofs.Buckets.{added}
use Rattle.worlds.proofs.index.Index.+add_all.Goals as goal

pub returns : goal.returns
returns t c = λ W answers.
    let old = c.add_all.new.self in
    subst (λ es. Answers c.add.new.self (grown es W)) (sym c.in-Some.ensures.some)
    (added old c.add.new.self c.in-Some.newest.now.value (grown c.in-Some.older.now W) c.in_ok-add.ensures (c.in_ok-add_all.ensures W answers))
