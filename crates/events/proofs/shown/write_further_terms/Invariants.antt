use Rattle.std.proofs.Common.{◌≡◌, ◌++◌, drop}
use Rattle.events.specs.Shown.{further_text, texts_of}
use Rattle.events.proofs.shown.write_further_terms.Given as goal

abbrev pub invariant-loop-term : goal.invariant-loop-term
invariant-loop-term l = l.out ++ further_text (texts_of (drop l.term-index l.terms)) ≡ l.initial.out ++ further_text (texts_of l.terms)
