-- The grammar as a relation: which forms a text begins with, and what follows them. Tokens are longest.
use Rattle.std.specs.Prelude.{◌≡◌, ℕ, suc, ◌+◌, ◌-◌, ◌≤◌, ℤ, Bool, true, false, List, [], ◌∷◌, length, take, drop, None}
use Rattle.lisp_data.specs.Datum.{Datum, IntForm, SymForm, TextForm, PairForm, nil_form}
use Rattle.lisp_data.specs.Atoms.{Integer, Named, Point, leaf}
use Rattle.lisp_reader.specs.Spans.{Open, Close, Quote, Text, Atom, unescaped, front, behind}
use Rattle.lisp_reader.specs.Grammar.{quote_form, book_of}
use Rattle.lisp_reader.specs.declared.limits.TheConstants.{MAX_BOOK, MAX_FORMS, MAX_NESTING}

mutual
  -- `IsForm k t f rest`: after its gaps the text t begins with the form f, in which k lists and quotes at most are open at once, and
  -- `rest` follows it.
  pub data IsForm : ℕ → List ℕ → Datum → List ℕ → Type 0 where
    integer : {k : ℕ} (t : List ℕ) (n : ℕ) (z : ℤ) → front (behind t) ≡ Atom n → leaf false (take (n + 1) (behind t)) ≡ Integer z → IsForm k t (IntForm z) (drop (n + 1) (behind t))
    symbol : {k : ℕ} (t : List ℕ) (n : ℕ) (s : List ℕ) → front (behind t) ≡ Atom n → leaf false (take (n + 1) (behind t)) ≡ Named s → IsForm k t (SymForm s) (drop (n + 1) (behind t))
    string : {k : ℕ} (t : List ℕ) (n : ℕ) → front (behind t) ≡ Text n → IsForm k t (TextForm (unescaped (take (n - 1) (drop 1 (behind t))))) (drop (n + 1) (behind t))
    quoted : {k : ℕ} {t : List ℕ} {f : Datum} {rest : List ℕ} → front (behind t) ≡ Quote → IsForm k (drop 1 (behind t)) f rest → IsForm (suc k) t (quote_form f) rest
    list : {k : ℕ} {t : List ℕ} {d : Datum} {rest : List ℕ} → front (behind t) ≡ Open → IsItems k false (drop 1 (behind t)) d rest → IsForm (suc k) t d rest

  -- `IsItems k some t d rest`: t begins with the items of a list, up to its `)`. The list is d from there on; `some` says that an item stands
  -- before them, so that a point and the last form may come.
  pub data IsItems : ℕ → Bool → List ℕ → Datum → List ℕ → Type 0 where
    end : {k : ℕ} {some : Bool} (t : List ℕ) → front (behind t) ≡ Close → IsItems k some t nil_form (drop 1 (behind t))
    item : {k : ℕ} {some : Bool} {t : List ℕ} {f d : Datum} {middle rest : List ℕ} → IsForm k t f middle → IsItems k true middle d rest → IsItems k some t (PairForm f d) rest
    last : {k : ℕ} {t : List ℕ} (n : ℕ) {f : Datum} {middle : List ℕ} → front (behind t) ≡ Atom n → leaf false (take (n + 1) (behind t)) ≡ Point →
        IsForm k (drop 1 (behind t)) f middle → front (behind middle) ≡ Close → IsItems k true t f (drop 1 (behind middle))

-- A book of so many bytes, from its text t on: forms with their places, which are so many at most.
pub data IsBook : ℕ → ℕ → List ℕ → List (Datum × ℕ) → Type 0 where
  end : {bytes left : ℕ} (t : List ℕ) → behind t ≡ [] → IsBook bytes left t []
  next : {bytes left : ℕ} {t : List ℕ} {f : Datum} {rest : List ℕ} {fs : List (Datum × ℕ)} → IsForm MAX_NESTING t f rest → IsBook bytes left rest fs →
      IsBook bytes (suc left) t ((f, bytes - length (behind t)) ∷ fs)

-- A book has no fault exactly where it is one by the relation and keeps the limit of its bytes, and its forms and their places are the relation's.
pub record GrammarIsRelation : Type 0 where
  pub only : (text : List ℕ) (fs : List (Datum × ℕ)) → book_of text ≡ (fs, None) → (length text ≤ MAX_BOOK) × IsBook (length text) MAX_FORMS text fs
  pub each : (text : List ℕ) (fs : List (Datum × ℕ)) → length text ≤ MAX_BOOK → IsBook (length text) MAX_FORMS text fs → book_of text ≡ (fs, None)
