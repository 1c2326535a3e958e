-- Proofs as forms and as texts.
use Rattle.std.specs.Prelude.{ℕ, pos, if◌then◌else◌, List, [], ◌∷◌, ◌++◌, map, take, drop}
use Rattle.lisp_data.specs.Values.{Name}
use Rattle.lisp_data.specs.Datum.{Datum, IntForm, SymForm, PairForm, chain, nil_form}
use Rattle.lisp_reader.specs.Printed.{form_text}
use Rattle.terms.specs.Terms.{Tm}
use Rattle.term_forms.specs.Printing.{form_of_term}
use Rattle.terms.specs.Substitution.{Pairs}
use Rattle.terms.specs.declared.entries.FactName.{FactName}
use Rattle.terms.specs.declared.entries.FactName.TheVariants as fact
use Rattle.terms.specs.declared.entries.FunPair.{FunPair}
use Rattle.proof_objects.specs.ProofTrees.{ProofTree, By, Trees, NoMore, Also}
use Rattle.proof_objects.specs.declared.step.Step.{Step}
use Rattle.proof_objects.specs.declared.step.InductionCase.{InductionCase}
use Rattle.proof_texts.specs.Words as words
use Rattle.proof_texts.specs.Given.{word_for, parts_of}
use Rattle.proof_texts.specs.declared.words.Kind.{Kind}
use Rattle.proof_texts.specs.declared.words.Word.{Word}
use Rattle.proof_texts.specs.declared.words.Word.TheVariants as word
use Rattle.proof_texts.specs.declared.steps.Part.{Part}
use Rattle.proof_texts.specs.declared.steps.Part.TheVariants as part

-- what stands after a word
abbrev pub kinds_of : Word → List Kind
kinds_of w = words.kinds_of w

abbrev pub list_form : List Datum → Datum
list_form fs = chain fs nil_form

abbrev pub word_form : Word → Datum
word_form w = SymForm (words.text_of w)

abbrev pub number_form : ℕ → Datum
number_form n = IntForm (pos n)

-- `(x a)`
abbrev pub image_form : Name × Tm → Datum
image_form e = list_form (SymForm e.0 ∷ form_of_term e.1 ∷ [])

abbrev pub substitution_form : Pairs → Datum
substitution_form s = list_form (map image_form s)

-- `(:measure f k)`
abbrev pub numbered_form : Word → Name → ℕ → Datum
numbered_form w n k = list_form (word_form w ∷ SymForm n ∷ number_form k ∷ [])

abbrev pub fact_form : FactName → Datum
fact_form (fact.Theorem n) = SymForm n
fact_form (fact.Measure f k) = numbered_form word.Measure f k
fact_form (fact.Isomorphism n k) = numbered_form word.Isomorphism n k

-- `(?f . g)`
abbrev pub pair_form : FunPair → Datum
pair_form p = PairForm (SymForm p.variable) (SymForm p.function)

-- `(q s Q)`
abbrev pub case_form : InductionCase → Datum → Datum
case_form c f = list_form (form_of_term c.test ∷ substitution_form c.subst ∷ f ∷ [])

-- that for each case, as long as there are proofs
abbrev pub cases_forms : List InductionCase → List Datum → List Datum
cases_forms [] fs = []
cases_forms (c ∷ cs) [] = []
cases_forms (c ∷ cs) (f ∷ fs) = case_form c f ∷ cases_forms cs fs

-- a part that is no proof; the cases of an induction have the proofs that are left
abbrev pub part_form : List Datum → Part → Datum
part_form fs (part.Term t) = form_of_term t
part_form fs (part.Terms ts) = list_form (map form_of_term ts)
part_form fs (part.Path path) = list_form (map number_form path)
part_form fs (part.Number n) = number_form n
part_form fs (part.Substitution s) = substitution_form s
part_form fs (part.Name n) = SymForm n
part_form fs (part.Fact f) = fact_form f
part_form fs (part.Functions ps) = list_form (map pair_form ps)
part_form fs (part.Cases cs) = list_form (cases_forms cs fs)

-- the parts and the proofs, each in its place
abbrev pub laid : List Kind → List Part → List Datum → List Datum
laid [] ps fs = []
laid (k ∷ ks) ps fs =
    if words.is_proof k then take 1 fs ++ laid ks ps (drop 1 fs) else map (part_form fs) (take 1 ps) ++ laid ks (drop 1 ps) fs

-- a step's word, and after it its parts and the proofs
abbrev pub step_form : Step → List Datum → Datum
step_form s fs = list_form (word_form (word_for s) ∷ laid (kinds_of (word_for s)) (parts_of s) fs)

abbrev mutual
  pub form_of_proof : ProofTree → Datum
  form_of_proof (By s ps) = step_form s (forms_of_proofs ps)

  pub forms_of_proofs : Trees → List Datum
  forms_of_proofs NoMore = []
  forms_of_proofs (Also p ps) = form_of_proof p ∷ forms_of_proofs ps

-- how a proof is written
abbrev pub proof_text : ProofTree → List ℕ
proof_text p = form_text (form_of_proof p)
