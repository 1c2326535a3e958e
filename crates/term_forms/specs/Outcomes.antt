-- Lists of outcomes.
use Rattle.std.specs.Prelude.{List, [], ◌∷◌, ◌++◌, Ok, Err}
use Rattle.term_forms.specs.Translation.{Outcome, and_rest}

-- what f gives for each, or the first refusal
abbrev pub each : {A B : Type 0} → (A → Outcome B) → List A → Outcome (List B)
each f [] = Ok []
each f (x ∷ xs) = and_rest (f x) (each f xs)

-- what was found, before the rest
abbrev pub after : {A : Type 0} → List A → Outcome (List A) → Outcome (List A)
after xs (Ok ys) = Ok (xs ++ ys)
after xs (Err e) = Err e
