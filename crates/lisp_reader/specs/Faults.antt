-- Where a book has its first fault, and what stands there.
use Rattle.std.specs.Prelude.{◌≡◌, ℕ, suc, ◌+◌, ◌-◌, ◌≤◌, ◌⊎◌, Bool, true, false, List, [], ◌∷◌, length, take, drop, Some}
use Rattle.lisp_data.specs.Datum.{Datum}
use Rattle.lisp_data.specs.Atoms.{Wrong, leaf}
use Rattle.lisp_data.specs.declared.code.Code.{Code}
use Rattle.lisp_data.specs.declared.code.Code.TheVariants.{BadByte, UnclosedList, StrayClose, BadDot, TooDeep, BookTooLong, UnclosedText}
use Rattle.lisp_reader.specs.Spans.{Front, EndlessGap, Open, Close, Quote, EndlessText, Atom, Stray, front, begins, behind}
use Rattle.lisp_reader.specs.Grammar.{book_of}
use Rattle.lisp_reader.specs.Relation.{IsForm}
use Rattle.lisp_reader.specs.declared.limits.TheConstants.{MAX_BOOK, MAX_FORMS, MAX_NESTING}

-- the text ends inside it
abbrev pub is_endless : Front → Bool
is_endless EndlessGap = true
is_endless EndlessText = true
is_endless _ = false

-- one more list or quote is open after it
abbrev pub is_opening : Front → Bool
is_opening Open = true
is_opening Quote = true
is_opening _ = false

-- what may stand in the place of a list's last form, or after it
abbrev pub is_form_or_close : Front → Bool
is_form_or_close Close = true
is_form_or_close token = begins token

-- the text begins with an atom that is wrong by itself, so many bytes after its first
pub record IsWrongAtom (code : Code) (text : List ℕ) (offset : ℕ) : Type 0 where
  pub n : ℕ
  pub atom : front text ≡ Atom n
  pub wrong : leaf false (take (n + 1) text) ≡ Wrong code offset

-- The text begins with what has this fault where it stands, so many bytes after its first: at the end of the bytes or at its first byte.
abbrev pub IsMisplaced : Code → List ℕ → ℕ → Type 0
IsMisplaced BadByte text offset = (front text ≡ Stray) × (offset ≡ 0)
IsMisplaced UnclosedList text offset = offset ≡ length text
IsMisplaced StrayClose text offset = (front text ≡ Close) × (offset ≡ 0)
IsMisplaced BadDot text offset = (is_form_or_close (front text) ≡ true) × (offset ≡ 0)
IsMisplaced TooDeep text offset = (is_opening (front text) ≡ true) × (offset ≡ 0)
IsMisplaced UnclosedText text offset = (is_endless (front text) ≡ true) × (offset ≡ length text)
IsMisplaced _ text offset = ⊥

-- the text has this fault at this place: from `start` on it begins with what is at fault
pub record IsFault (code : Code) (text : List ℕ) (place : ℕ) : Type 0 where
  pub start : ℕ
  pub within : start ≤ length text
  pub offset : ℕ
  pub token : IsWrongAtom code (drop start text) offset ⊎ IsMisplaced code (drop start text) offset
  pub there : place ≡ start + offset

-- A book of so many bytes, from its text t on, begins with these forms, which `rest` follows, where so many more may come.
pub data IsBegun : ℕ → ℕ → List ℕ → List (Datum × ℕ) → ℕ → List ℕ → Type 0 where
  none : {bytes left : ℕ} (t : List ℕ) → IsBegun bytes left t [] left t
  next : {bytes left after : ℕ} {t : List ℕ} {f : Datum} {middle rest : List ℕ} {fs : List (Datum × ℕ)} → IsForm MAX_NESTING t f middle → IsBegun bytes left middle fs after rest →
      IsBegun bytes (suc left) t ((f, bytes - length (behind t)) ∷ fs) after rest

-- The forms before the first fault, and the fault: what follows them begins with no form and has the fault in it, or it begins with a form
-- where no more may come.
pub data IsFirstFault (bytes left : ℕ) (t : List ℕ) (fs : List (Datum × ℕ)) (code : Code) (place : ℕ) : Type 0 where
  wrong : (after n : ℕ) (rest : List ℕ) → IsBegun bytes left t fs after rest → ((f : Datum) (u : List ℕ) → IsForm MAX_NESTING rest f u → ⊥) → IsFault code rest n →
      place ≡ (bytes - length rest) + n → IsFirstFault bytes left t fs code place
  full : (rest : List ℕ) → IsBegun bytes left t fs 0 rest → begins (front (behind rest)) ≡ true → code ≡ BookTooLong → place ≡ bytes - length (behind rest) →
      IsFirstFault bytes left t fs code place

-- The fault of a book within the limit of bytes.
pub record FaultsAreFirst : Type 0 where
  pub each : (text : List ℕ) (fs : List (Datum × ℕ)) (code : Code) (place : ℕ) → length text ≤ MAX_BOOK → book_of text ≡ (fs, Some (code, place)) →
      IsFirstFault (length text) MAX_FORMS text fs code place
