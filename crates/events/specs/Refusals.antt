-- How refusals are written.
use Rattle.std.specs.Prelude.{ℕ, List, [], ◌++◌, codes}
use Rattle.std.specs.Fmt.{decimal}
use Rattle.lisp_data.specs.RefusalCodes.{number, word}
use Rattle.lisp_data.specs.declared.code.Code.{Code}
use Rattle.lisp_data.specs.declared.code.Code.TheVariants as code
use Rattle.lisp_data.specs.declared.detail.Detail.{Detail}
use Rattle.lisp_data.specs.declared.detail.Detail.TheVariants.{Absent, Name, Word, Number}
use Rattle.proof_objects.specs.RuleNames as rule
use Rattle.kernel.specs.declared.errors.RuleName.{RuleName}
use Rattle.kernel.specs.declared.errors.RuleName.TheVariants.{Rule, Claim}
use Rattle.events.specs.declared.refusal.Refusal.{Refusal}
use Rattle.events.specs.declared.refusal.Refusal.TheVariants.{Coded, ProofWrong, AtNode, NotProved}

-- the word of a node's rule, or of the claim that the proof doesn't prove
abbrev pub rule_word : RuleName → List ℕ
rule_word (Rule r) = rule.word r
rule_word Claim = codes ":CLAIM"

-- a detail stands behind a blank, where there is one
abbrev pub detail_after : Detail → List ℕ
detail_after Absent = []
detail_after (Name name) = codes " " ++ name
detail_after (Word word) = codes " " ++ word
detail_after (Number n) = codes " " ++ decimal n

-- a condition, and a node of its proof
abbrev pub node_text : List ℕ → ℕ → List ℕ
node_text condition node = codes " " ++ (condition ++ (codes " " ++ decimal node))

-- what a refusal names, behind its word
abbrev pub named_text : Refusal → List ℕ
named_text (Coded code detail) = detail_after detail
named_text (ProofWrong condition node rule) = node_text condition node ++ (codes " " ++ rule_word rule)
named_text (AtNode code condition node) = node_text condition node
named_text (NotProved condition leaf) = codes " " ++ condition

-- each refusal has a code of the table
abbrev pub refusal_code : Refusal → Code
refusal_code (Coded code detail) = code
refusal_code (ProofWrong condition node rule) = code.ProofWrong
refusal_code (AtNode code condition node) = code
refusal_code (NotProved condition leaf) = code.NotProved

-- code and word
abbrev pub coded_text : Code → List ℕ
coded_text code = decimal (number code) ++ (codes " " ++ word code)

-- code, word, and what the refusal names
abbrev pub refusal_text : Refusal → List ℕ
refusal_text why = coded_text (refusal_code why) ++ named_text why
