-- What a form is translated to: a term, or the first refusal. A form is looked at from its head to its parts, these from left to
-- right, and then at the size of its term.
use Rattle.std.specs.Prelude.{ℕ, suc, max, Bool, false, ◌&&◌, ◌||◌, not, nat_eq, nat_le, bytes_eq, if◌then◌else◌, codes, List, [], ◌∷◌, Option, Some, None, Result, Ok, Err}
use Rattle.std.specs.List.{zip}
use Rattle.lisp_data.specs.Values.{Name, Val, Int, Sym, path, pairs}
use Rattle.lisp_data.specs.Datum.{Datum, IntForm, SymForm, TextForm, PairForm}
use Rattle.lisp_data.specs.declared.code.Code.{Code}
use Rattle.lisp_data.specs.declared.code.Code.TheVariants.{BadForm, TermTooLarge, UnknownName, WrongArity, UnboundVariable, RepeatedFormal}
use Rattle.lisp_data.specs.declared.detail.Detail.{Detail}
use Rattle.lisp_data.specs.declared.detail.Detail.TheVariants as detail
use Rattle.lisp_reader.specs.FormValue.{has_text, value}
use Rattle.terms.specs.Terms.{Tm, Var, Quote, Call, Tms, Done, More, tms, nodes, substitute}
use Rattle.terms.specs.Substitution.{by_pairs}
use Rattle.terms.specs.Worlds.{is_in}
use Rattle.term_forms.specs.Names.{is_constant_name, is_variable_name}
use Rattle.term_forms.specs.Macros.{Macro, macro, is_number, if_of, nil_term}
use Rattle.lisp_data.specs.declared.limits.TheConstants.{MAX_PAIRS, MAX_PATH}
use Rattle.term_forms.specs.declared.limits.TheConstants.{MAX_LEVELS, MAX_NODES}

-- how many arguments a name takes, where it may be called
abbrev pub Takes : Type 0
Takes = Name → Option ℕ

-- which variables may stand
abbrev pub Scope : Type 0
Scope = Name → Bool

-- something, or a refusal's code and detail
abbrev pub Outcome : Type 0 → Type 0
Outcome A = Result A (Code × Detail)

abbrev pub and_then : {A B : Type 0} → Outcome A → (A → Outcome B) → Outcome B
and_then (Ok x) f = f x
and_then (Err e) f = Err e

abbrev pub map_outcome : {A B : Type 0} → (A → B) → Outcome A → Outcome B
map_outcome f (Ok x) = Ok (f x)
map_outcome f (Err e) = Err e

-- the form, or a part of it, has another shape
abbrev pub bad_form : {A : Type 0} → Outcome A
bad_form = Err (BadForm, detail.Word (codes "term"))

abbrev pub too_large : {A : Type 0} → Outcome A
too_large = Err (TermTooLarge, detail.Absent)

-- how many calls lie within one another on the longest way down; one without arguments counts as well
abbrev mutual
  pub levels : Tm → ℕ
  levels (Var x) = 0
  levels (Quote v) = 0
  levels (Call f ts) = suc (levels_in ts)

  pub levels_in : Tms → ℕ
  levels_in Done = 0
  levels_in (More t ts) = max (levels t) (levels_in ts)

-- the limits of a translated term
abbrev pub is_limited : Tm → Bool
is_limited t = nat_le (nodes t) MAX_NODES && nat_le (levels t) MAX_LEVELS

abbrev pub limited : Tm → Outcome Tm
limited t = if is_limited t then Ok t else too_large

-- T, NIL and keywords are their own values; another symbol is a variable of the scope
abbrev pub atom : Scope → Name → Outcome Tm
atom scope s =
    if is_constant_name s then Ok (Quote (Sym s))
    else if not (is_variable_name s) then bad_form
    else if scope s then Ok (Var s)
    else Err (UnboundVariable, detail.Name s)

-- the limits of a value
abbrev pub is_small : Val → Bool
is_small v = nat_le (path v) MAX_PATH && nat_le (pairs v) MAX_PAIRS

abbrev pub quoted : Datum → Outcome Tm
quoted form = if has_text form then bad_form else if is_small (value form) then Ok (Quote (value form)) else too_large

-- a list without a point
abbrev pub is_list : Datum → Bool
is_list (IntForm z) = false
is_list (SymForm s) = bytes_eq s (codes "NIL")
is_list (TextForm s) = false
is_list (PairForm a d) = is_list d

-- how many items a list has
abbrev pub items : Datum → ℕ
items (IntForm z) = 0
items (SymForm s) = 0
items (TextForm s) = 0
items (PairForm a d) = suc (items d)

-- a call of a name with so many parts
abbrev pub call_head : Name → Option ℕ → ℕ → Outcome (Unit {0})
call_head f None n = Err (UnknownName, detail.Name f)
call_head f (Some k) n = if nat_eq k n then Ok tt else Err (WrongArity, detail.Name f)

abbrev pub parts_if : Bool → Outcome (Unit {0})
parts_if right = if right then Ok tt else bad_form

-- a word's number of parts, or a call's
abbrev pub word_head : Takes → Name → Option Macro → ℕ → Outcome (Unit {0})
word_head takes f (Some m) n = parts_if (is_number m.parts n)
word_head takes f None n = call_head f (takes f) n

-- what the head of a list and the number of its parts say
abbrev pub head : Takes → Name → Datum → Outcome (Unit {0})
head takes f d =
    if not (is_list d) then bad_form
    else if bytes_eq f (codes "QUOTE") then parts_if (nat_eq (items d) 1)
    else if bytes_eq f (codes "LET") then parts_if (nat_eq (items d) 2)
    else if bytes_eq f (codes "LET*") then parts_if (nat_eq (items d) 2)
    else if bytes_eq f (codes "COND") then Ok tt
    else word_head takes f (macro f) (items d)

-- the term of a word that isn't a binder, or of a call, from its parts
abbrev pub applied : Name → Option Macro → Datum → List Tm → Tm
applied f (Some m) d ts = m.term d ts
applied f None d ts = Call f (tms ts)

-- a clause of `cond`: whether its test is the symbol T, its test and its value
pub record Clause : Type 0 where
  pub is_last : Bool
  pub test : Tm
  pub answer : Tm

-- `'nil`, b for `(t b)`, or `(if a b (cond ..))`
abbrev pub chosen : List Clause → Tm
chosen [] = nil_term
chosen (c ∷ cs) = if c.is_last then c.answer else if_of c.test c.answer (chosen cs)

abbrev pub is_t : Datum → Bool
is_t (SymForm s) = bytes_eq s (codes "T")
is_t _ = false

-- the variable of a binding `(x a)`
abbrev pub bound_name : Datum → Outcome Name
bound_name (PairForm (SymForm x) (PairForm a (SymForm e))) = if is_variable_name x && bytes_eq e (codes "NIL") then Ok x else bad_form
bound_name _ = bad_form

-- the variables of a list of bindings
abbrev pub bound_names : Datum → Outcome (List Name)
bound_names (IntForm z) = bad_form
bound_names (SymForm s) = if bytes_eq s (codes "NIL") then Ok [] else bad_form
bound_names (TextForm s) = bad_form
bound_names (PairForm b d) = and_then (bound_name b) (λ x. map_outcome (λ xs. x ∷ xs) (bound_names d))

-- the first variable that stands a second time is refused
abbrev pub distinct_after : List Name → List Name → Outcome (Unit {0})
distinct_after before [] = Ok tt
distinct_after before (x ∷ xs) = if is_in before x then Err (RepeatedFormal, detail.Name x) else distinct_after (x ∷ before) xs

abbrev pub with_names : List Name → Scope → Scope
with_names xs scope x = is_in xs x || scope x

-- something before the rest, left to right
abbrev pub and_rest : {A : Type 0} → Outcome A → Outcome (List A) → Outcome (List A)
and_rest first rest = and_then first (λ x. map_outcome (λ xs. x ∷ xs) rest)

-- `let`: the terms of the bindings, then the body over their variables, which are replaced all at once
abbrev pub let_of : Scope → Outcome (List Name) → Outcome (List Tm) → (Scope → Outcome Tm) → Outcome Tm
let_of scope names bound body =
    and_then names (λ xs. and_then (distinct_after [] xs) (λ _. and_then bound (λ ts.
    map_outcome (substitute (by_pairs (zip xs ts))) (body (with_names xs scope)))))

-- What follows reads the parts of a list whose head and number of parts `head` has looked at, and bindings that `bound_names` has read: the
-- last clause of each of `terms`, `clauses`, `bound_terms` and `in_turn` is for the end of a list, and no other form comes to it.
abbrev mutual
  -- a list by its head comes after the head's own faults, and its size last
  pub translate : Takes → Scope → Datum → Outcome Tm
  translate takes scope (IntForm z) = Ok (Quote (Int z))
  translate takes scope (SymForm s) = atom scope s
  translate takes scope (TextForm s) = bad_form
  translate takes scope (PairForm (IntForm z) d) = bad_form
  translate takes scope (PairForm (SymForm f) d) = and_then (head takes f d) (λ _. and_then (by_word takes scope f d) limited)
  translate takes scope (PairForm (TextForm s) d) = bad_form
  translate takes scope (PairForm (PairForm a b) d) = bad_form

  -- a word with its parts
  pub by_word : Takes → Scope → Name → Datum → Outcome Tm
  by_word takes scope f (PairForm a d) =
      if bytes_eq f (codes "QUOTE") then quoted a
      else if bytes_eq f (codes "LET") then let_of scope (bound_names a) (bound_terms takes scope a) (λ inner. body takes inner d)
      else if bytes_eq f (codes "LET*") then and_then (bound_names a) (λ _. in_turn takes scope a (λ inner. body takes inner d))
      else if bytes_eq f (codes "COND") then map_outcome chosen (and_rest (clause takes scope a) (clauses takes scope d))
      else map_outcome (applied f (macro f) (PairForm a d)) (and_rest (translate takes scope a) (terms takes scope d))
  -- without parts: `(cond)`, or a word or call that takes none
  by_word takes scope f d = Ok (if bytes_eq f (codes "COND") then nil_term else applied f (macro f) d [])

  -- the terms of the parts
  pub terms : Takes → Scope → Datum → Outcome (List Tm)
  terms takes scope (PairForm a d) = and_rest (translate takes scope a) (terms takes scope d)
  terms takes scope _ = Ok []

  -- the clauses of `cond`
  pub clauses : Takes → Scope → Datum → Outcome (List Clause)
  clauses takes scope (PairForm c d) = and_rest (clause takes scope c) (clauses takes scope d)
  clauses takes scope _ = Ok []

  -- a clause has two parts
  pub clause : Takes → Scope → Datum → Outcome Clause
  clause takes scope (PairForm a (PairForm b (SymForm e))) =
      if bytes_eq e (codes "NIL") then
      and_then (translate takes scope a) (λ test. map_outcome (λ answer. record { is_last = is_t a; test = test; answer = answer }) (translate takes scope b))
      else bad_form
  clause takes scope _ = bad_form

  -- the terms of a list of bindings
  pub bound_terms : Takes → Scope → Datum → Outcome (List Tm)
  bound_terms takes scope (PairForm (PairForm x (PairForm a e)) d) = and_rest (translate takes scope a) (bound_terms takes scope d)
  bound_terms takes scope _ = Ok []

  -- `let*`: one binding after the other, and the body over all their variables
  pub in_turn : Takes → Scope → Datum → (Scope → Outcome Tm) → Outcome Tm
  in_turn takes scope (PairForm (PairForm (SymForm x) (PairForm a e)) d) last =
      and_then (translate takes scope a) (λ t.
      map_outcome (substitute (by_pairs ((x, t) ∷ []))) (in_turn takes (with_names (x ∷ []) scope) d last))
  in_turn takes scope _ last = last scope

  -- the part after the bindings, which `head` has counted
  pub body : Takes → Scope → Datum → Outcome Tm
  body takes scope (PairForm b e) = translate takes scope b
  body takes scope _ = bad_form
