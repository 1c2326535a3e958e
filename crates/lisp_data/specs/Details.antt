-- How the details of refusals are written.
use Rattle.std.specs.Prelude.{ℕ, List, []}
use Rattle.std.specs.Fmt.{decimal}
use Rattle.lisp_data.specs.declared.detail.Detail.{Detail}
use Rattle.lisp_data.specs.declared.detail.Detail.TheVariants.{Absent, Name, Word, Number}

-- nothing, a name or a key as its text, a word as its bytes, a number in decimal
abbrev pub detail_text : Detail → List ℕ
detail_text Absent = []
detail_text (Name name) = name
detail_text (Word word) = word
detail_text (Number n) = decimal n
