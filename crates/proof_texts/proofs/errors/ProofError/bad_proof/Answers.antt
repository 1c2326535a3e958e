use Rattle.std.proofs.Common.{refl, codes, List, ℕ}
use Rattle.lisp_data.specs.Atoms.{in_atom, is_delimiter, leaf, is_sign}
use Rattle.lisp_data.specs.SymbolText.{NamesSymbol}
use Rattle.proof_texts.proofs.errors.ProofError.bad_proof.Goals as goal

pub unreachable-requires : goal.unreachable-requires
unfolding in_atom is_delimiter leaf is_sign
unreachable-requires c =
    let none : (s : List ℕ) → NamesSymbol (codes ":PROOF") s → ⊥ = rw c.in-Err-BadText.field-0-is at (rw c.in-Err-BadText.is at c.new.ensures.symbol) in
    none (codes ":PROOF") (record { atom = refl; symbol = refl })
