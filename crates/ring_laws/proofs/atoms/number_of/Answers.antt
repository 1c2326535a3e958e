use Rattle.std.proofs.Common.{◌≡◌, ℕ, ◌+◌, ◌≤◌, Bool, true, false, cond, not, nat_lt, List, [], ◌∷◌, length, Option, Some, None, refl, ap, ap₂, ◌∙◌, arith}
use Rattle.std.proofs.lemmas.Bool.{ltb-false}
use Rattle.std.specs.List.{position, position_or_len}
use Rattle.std.specs.Option.{unwrap_or}
use Rattle.terms.specs.Terms.{Tm, same_tm}
use Rattle.ring_laws.specs.view.Held.{number_of}
use Rattle.ring_laws.proofs.atoms.number_of.Goals as goal

within : (p : Tm → Bool) (xs : List Tm) → position_or_len p xs ≤ length xs
within p [] = omega arith
within p (x ∷ xs) = by_test (not (p x)) (within p xs)
  where
    by_test : (t : Bool) → position_or_len p xs ≤ length xs → cond t (1 + position_or_len p xs) 0 ≤ length (x ∷ xs)
    by_test true ih = omega arith
    by_test false ih = omega arith

placed : (p : Tm → Bool) (xs : List Tm) (o : Option ℕ) (n r : ℕ) → o ≡ position p xs → n ≡ length xs → r ≡ unwrap_or o n → r ≡ position_or_len p xs
placed p xs o n r e f g = g ∙ ap₂ unwrap_or e f ∙ by_test (nat_lt (position_or_len p xs) (length xs)) refl
  where
    by_test : (t : Bool) → nat_lt (position_or_len p xs) (length xs) ≡ t → unwrap_or (cond t (Some (position_or_len p xs)) None) (length xs) ≡ position_or_len p xs
    by_test true h = refl
    by_test false h = let l = ltb-false (position_or_len p xs) (length xs) h in let w = within p xs in omega arith

pub returns : goal.returns
returns c =
    placed (same_tm c.in_ok-atom.atom) c.args.atoms.now.keys _ _ _ c.get_index_of.ensures.index c.len.ensures.len c.unwrap_or-number.ensures
    ∙ ap (number_of c.args.atoms.now.keys) c.in_ok-atom.ensures
