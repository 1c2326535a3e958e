-- What the heads of lists stand for.
use Rattle.std.specs.Prelude.{◌≡◌, ℕ, nat_eq, bytes_eq, false, codes, Some, None, Ok}
use Rattle.lisp_data.specs.Values.{Name}
use Rattle.term_forms.specs.Macros.{is_number, macro}
use Rattle.term_forms.specs.Words.{meaning}
use Rattle.term_forms.specs.Translation.{Takes, Outcome, parts_if, call_head}
use Rattle.term_forms.specs.declared.translation.Word.{Word}
use Rattle.term_forms.specs.declared.translation.Word.TheVariants.{Quote, Let, LetInTurn, Cond, Macro, Call}

-- none of the words that bind, quote or choose
pub record IsOther (f : Name) : Type 0 where
  pub no_quote : bytes_eq f (codes "QUOTE") ≡ false
  pub no_let : bytes_eq f (codes "LET") ≡ false
  pub no_let_in_turn : bytes_eq f (codes "LET*") ≡ false
  pub no_cond : bytes_eq f (codes "COND") ≡ false

-- the name stands for it
abbrev pub IsWord : Name → Word → Type 0
IsWord f Quote = f ≡ codes "QUOTE"
IsWord f Let = f ≡ codes "LET"
IsWord f LetInTurn = f ≡ codes "LET*"
IsWord f Cond = f ≡ codes "COND"
IsWord f (Macro m) = IsOther f × (macro f ≡ Some (meaning m))
IsWord f Call = IsOther f × (macro f ≡ None)

-- what it says of the number of its parts
abbrev pub head_of : Word → Takes → Name → ℕ → Outcome (Unit {0})
head_of Quote takes f n = parts_if (nat_eq n 1)
head_of Let takes f n = parts_if (nat_eq n 2)
head_of LetInTurn takes f n = parts_if (nat_eq n 2)
head_of Cond takes f n = Ok tt
head_of (Macro m) takes f n = parts_if (is_number (meaning m).parts n)
head_of Call takes f n = call_head f (takes f) n
