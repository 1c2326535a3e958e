-- Writing terms, and reading them again.
use Rattle.std.proofs.Common.{◌≡◌, ℕ, zero, suc, ◌+◌, ◌<◌, ◌≤◌, List, [], ◌∷◌, length, get_or, drop, codes, append_assoc, refl, ap, sym, subst, arith}
use Rattle.std.proofs.lemmas.List.{drop_all}
use Rattle.lisp_data.specs.SymbolText.{IsSymbolText}
use Rattle.lisp_reader.specs.Printed.{datum_of, nesting, IsPrintable}
use Rattle.lisp_reader.specs.Texts.{IsText, IsRestText, symbol, quoted, list, end, next}
use Rattle.lisp_reader.proofs.Again.{printed-text, texts-read}
use Rattle.lisp_reader.proofs.Leaves.{names-nil, names-quote}
use Rattle.terms.specs.Terms.{Tm, Var, Quote, Call, Tms, Done, More, tms}
use Rattle.term_forms.specs.Printing.{term_text, arguments_text, form_of_term, form_of_arguments, IsPrintableTerm, IsTermAgain}
use Rattle.terms.proofs.Args.{args, tms-drop}
use Rattle.lisp_reader.specs.declared.limits.TheConstants.{MAX_NESTING}

mutual
  text-of : (t : Tm) (k : ℕ) → IsPrintableTerm t → nesting (form_of_term t) ≤ k → IsText k (form_of_term t) (term_text t)
  text-of (Var x) k p h = symbol x p
  text-of (Quote v) zero p h = absurd (omega arith)
  text-of (Quote v) (suc k) p h = quoted (printed-text (datum_of v) k p.1.0 (omega arith))
  text-of (Call f ts) zero p h = absurd (omega arith)
  text-of (Call f ts) (suc k) p h = list (symbol f p.0) (rest-of ts k p.1 (omega arith))

  rest-of : (ts : Tms) (k : ℕ) → IsPrintable (form_of_arguments ts) → nesting (form_of_arguments ts) ≤ k + 1 → IsRestText k (form_of_arguments ts) (arguments_text ts)
  rest-of Done k p h = end
  rest-of (More t ts) k p h = next (text-of t k p.0 (omega arith)) (rest-of ts k p.1 (omega arith))

pub terms-again : (t : Tm) → IsPrintableTerm t → IsTermAgain t
terms-again t p = record { read = λ h l. texts-read (form_of_term t) (term_text t) (text-of t MAX_NESTING p h) l }

-- the arguments from a place on, where the one there and those after it are printable
pub printable-from : (ts : List Tm) (i : ℕ) (d : Tm) → i < length ts → IsPrintableTerm (get_or ts i d) → IsPrintable (form_of_arguments (tms (drop (i + 1) ts))) → IsPrintable (form_of_arguments (tms (drop i ts)))
printable-from ts i d h p q = subst (λ us. IsPrintable (form_of_arguments us)) (sym (tms-drop ts i d h)) (p, q)

pub printable-past : (ts : List Tm) (i : ℕ) → length ts ≤ i → IsPrintable (form_of_arguments (tms (drop i ts)))
printable-past ts i h = subst (λ us. IsPrintable (form_of_arguments (tms us))) (sym (drop_all i ts h)) names-nil

pub printable-nil : IsSymbolText (codes "NIL")
printable-nil = names-nil

pub printable-quote : IsSymbolText (codes "QUOTE")
printable-quote = names-quote

pub ruleset prints = (args, append_assoc, printable-from, printable-nil, printable-quote)

pub ruleset again = (terms-again)
