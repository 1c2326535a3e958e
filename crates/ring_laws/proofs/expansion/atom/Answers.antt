use Rattle.std.proofs.Common.{[], ◌∷◌, pos, refl}
use Rattle.ring_laws.specs.view.Held.{held, numbers}
use Rattle.ring_laws.proofs.Expansions.{says_along, one_entry}
use Rattle.ring_laws.proofs.expansion.atom.Goals as goal

pub returns : goal.returns
returns c =
    says_along c.small.result 1 (held c.add.new.self.terms.entries) _ (
    one_entry (held c.add.new.self.terms.entries) (held c.zero-polynomial.result.terms.entries) (numbers c.args.atoms.now.keys (c.args.term.now ∷ [])) _ (pos 1) (pos 1) c.zero-polynomial.ensures c.in_ok-numbers_of.ensures refl c.in_ok-add.ensures
    ) c.small.ensures
