-- In a world that a book makes no word of the syntax of terms is a function.
use Rattle.std.proofs.Common.{◌≡◌, Bool, true, false, ◌||◌, ◌++◌, bytes_eq, codes, Option, is_some, if◌then◌else◌, refl, sym, subst}
use Rattle.lisp_data.specs.Values.{Name}
use Rattle.term_forms.specs.Macros.{Macro, macro}
use Rattle.term_forms.specs.TranslationLaws.{is_word}
use Rattle.terms.proofs.Names.{same_name}
use Rattle.terms.specs.Worlds.{World, is_in}
use Rattle.worlds.specs.Names.{macros, binders, WordsAreNoFunctions}
use Rattle.proof_texts.specs.Laws.{ProofsAreReadAgainIn}
use Rattle.proof_texts.proofs.AgainLemmas.{proofs_again}

-- the name is one of the words that worlds keep apart
abbrev IsAmong : Name → Type 0
IsAmong f = is_in (macros ++ binders) f ≡ true

or_cases : (a b : Bool) {P : Type 0} → (a ≡ true → P) → (b ≡ true → P) → (a || b) ≡ true → P
or_cases true b first second e = first refl
or_cases false b first second e = second e

-- a name that is the same as one of them
same_as : (f x : Name) → IsAmong x → bytes_eq f x ≡ true → IsAmong f
same_as f x h e = subst IsAmong (sym (same_name f x e)) h

macro_or : (f x : Name) (here others : Option Macro) → IsAmong x → (is_some others ≡ true → IsAmong f) → is_some (if bytes_eq f x then here else others) ≡ true → IsAmong f
macro_or f x here others h next e = by_test (bytes_eq f x) refl e
  where
    by_test : (b : Bool) → bytes_eq f x ≡ b → is_some (if b then here else others) ≡ true → IsAmong f
    by_test true same e' = same_as f x h same
    by_test false same e' = next e'

macro_among : (f : Name) → is_some (macro f) ≡ true → IsAmong f
unfolding macro macros binders
macro_among f e =
    macro_or f (codes "AND") _ _ refl
    (macro_or f (codes "OR") _ _ refl
    (macro_or f (codes "LIST") _ _ refl
    (macro_or f (codes "+") _ _ refl
    (macro_or f (codes "*") _ _ refl
    (macro_or f (codes "APPEND") _ _ refl
    (macro_or f (codes "-") _ _ refl
    (macro_or f (codes "1+") _ _ refl
    (macro_or f (codes "1-") _ _ refl
    (macro_or f (codes ">") _ _ refl
    (macro_or f (codes "<=") _ _ refl
    (macro_or f (codes ">=") _ _ refl
    (macro_or f (codes "=") _ _ refl
    (macro_or f (codes "EQ") _ _ refl
    (macro_or f (codes "EQL") _ _ refl
    (macro_or f (codes "FIRST") _ _ refl
    (macro_or f (codes "REST") _ _ refl
    (macro_or f (codes "CAAR") _ _ refl
    (macro_or f (codes "CADR") _ _ refl
    (macro_or f (codes "CDAR") _ _ refl
    (macro_or f (codes "CDDR") _ _ refl
    (λ h. absurd (cc)))))))))))))))))))))) e

word_among : (f : Name) → is_word f ≡ true → IsAmong f
unfolding macros binders
word_among f e =
    or_cases _ (is_some (macro f))
    (or_cases _ (bytes_eq f (codes "COND"))
    (or_cases _ (bytes_eq f (codes "LET*"))
    (or_cases (bytes_eq f (codes "QUOTE")) (bytes_eq f (codes "LET")) (same_as f (codes "QUOTE") refl) (same_as f (codes "LET") refl))
    (same_as f (codes "LET*") refl))
    (same_as f (codes "COND") refl))
    (macro_among f) e

pub proofs_again_in : (W : World) → WordsAreNoFunctions W → ProofsAreReadAgainIn W
proofs_again_in W none = proofs_again W (λ f e. none f (word_among f e))
