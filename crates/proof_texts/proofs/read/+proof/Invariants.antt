use Rattle.std.proofs.Common.{◌+◌, ◌*◌, max, map, ◌≡◌, drop}
use Rattle.lisp_data.specs.Datum.{depth, deepest, chain, nil_form}
use Rattle.lisp_data.specs.FormView.{form_of}
use Rattle.proof_texts.specs.ProofTexts.{read_of, nothing, cases_from, no_cases}
use Rattle.proof_texts.proofs.ReadLemmas.{parts_left}
use Rattle.proof_texts.proofs.read.+proof.Given as goal

abbrev pub invariant-each_case-loop-form : goal.invariant-each_case-loop-form
invariant-each_case-loop-form l =
    cases_from l.world l.read (chain (map form_of (drop l.form-index l.forms)) nil_form) ≡ cases_from l.world (no_cases l.fn.subproofs) (chain (map form_of l.forms) nil_form)

abbrev pub invariant-read_parts-loop-i : goal.invariant-read_parts-loop-i
invariant-read_parts-loop-i l = parts_left l.world (read_of l.read) l.kinds l.forms l.i ≡ parts_left l.world nothing l.kinds l.forms 0

abbrev pub decreases-read_proof : goal.decreases-read_proof
decreases-read_proof l = 8 * depth (form_of l.form.now) + 7

abbrev pub decreases-read_items : goal.decreases-read_items
decreases-read_items l = 8 * deepest (map form_of l.items.now) + 6

abbrev pub decreases-read_parts : goal.decreases-read_parts
decreases-read_parts l = 8 * deepest (map form_of l.forms.now) + 5

abbrev pub decreases-read_part : goal.decreases-read_part
decreases-read_part l = 8 * depth (form_of l.form.now) + 9

abbrev pub decreases-read_cases : goal.decreases-read_cases
decreases-read_cases l = 8 * depth (form_of l.form.now) + 8

abbrev pub decreases-each_case : goal.decreases-each_case
decreases-each_case l = 8 * deepest (map form_of l.forms.now) + 7

abbrev pub decreases-read_case : goal.decreases-read_case
decreases-read_case l = 8 * depth (form_of l.form.now) + 8

abbrev pub decreases-case_of_items : goal.decreases-case_of_items
decreases-case_of_items l = 8 * deepest (map form_of l.items.now) + 7

abbrev pub decreases-case_of : goal.decreases-case_of
decreases-case_of l = 8 * depth (form_of l.proof.now) + 8
