use Rattle.std.proofs.Common.{◌≡◌, map, drop}
use Rattle.terms.specs.Worlds.{is_in}
use Rattle.reduction.proofs.openings.is_among.Given as goal

abbrev pub invariant-loop-word : goal.invariant-loop-word
invariant-loop-word l =
    is_in (map (λ w. w.now) (drop l.word-index l.words)) l.name ≡ is_in (map (λ w. w.now) l.words) l.name
