-- The transformation `restrict`: a function whose arguments meet a restriction, and which is the old function there.
use Rattle.std.specs.Prelude.{◌≡◌, true, false, List, [], ◌∷◌, bytes_eq, map, codes}
use Rattle.lisp_data.specs.Values.{Name, Val}
use Rattle.lisp_data.specs.Datum.{Datum}
use Rattle.terms.specs.BuiltIn.{if_else}
use Rattle.terms.specs.Joins.{without_repeats}
use Rattle.terms.specs.Links.{alone, at_variables}
use Rattle.terms.specs.Maps.{rename}
use Rattle.terms.specs.Measures.{RecursiveCall, recursive_calls, obligations}
use Rattle.terms.specs.Terms.{Tm, Quote, substitute, by_args}
use Rattle.terms.specs.Worlds.{World, arity, is_in}
use Rattle.terms.specs.declared.definition.Definition.{Definition}
use Rattle.terms.specs.declared.sequent.Sequent.{Sequent}
use Rattle.terms.specs.declared.entries.Link.{Link}
use Rattle.terms.specs.declared.entries.Link.TheVariants.{Restriction}
use Rattle.worlds.specs.Names.{is_free}
use Rattle.term_forms.specs.Translation.{Outcome, and_then, map_outcome, translate}
use Rattle.kernel.specs.Sequents.{equation, implication}
use Rattle.plans.specs.declared.plan.Condition.{Condition}
use Rattle.plans.specs.declared.plan.Entry.{Entry}
use Rattle.plans.specs.declared.plan.Entry.TheVariants.{Function, Theorem, Chained}
use Rattle.plans.specs.declared.plan.Plan.{Plan}
use Rattle.plan_checks.specs.Checks.{first_order_definition, first_order_term}
use Rattle.plan_checks.specs.Numbered.{numbered}

-- what is asked for: the old function, the form of the restriction over its formals, the value outside of it, and the new names
pub record Request : Type 0 where
  pub old : Name
  pub restriction : Datum
  pub undefined : Val
  pub function : Name
  pub theorem : Name

-- the term with g for f in its calls
abbrev pub with_calls_of : Name → Name → Tm → Tm
with_calls_of f g = rename ((f, g) ∷ [])

-- the body of the old function, with calls of the new one
abbrev pub new_body : Definition → Name → Tm
new_body d g = with_calls_of d.name g d.body

-- The new function g: (if r body 'u). Its measure is the old one's.
abbrev pub restricted : Definition → Name → Tm → Val → Definition
restricted d g r u = record { name = g; formals = d.formals; body = if_else r (new_body d g) (Quote u); measure = d.measure }

-- the two functions are the same at the formals, where the restriction is met
abbrev pub same_where : Definition → Name → Tm → Tm
same_where d g r = implication r (equation (at_variables d.name d.formals) (at_variables g d.formals))

-- the term at the arguments of a call
abbrev pub at_call : Definition → Tm → RecursiveCall → Tm
at_call d t c = substitute (by_args d.formals c.args) t

-- the arguments of a recursive call meet the restriction, where the formals do and the call's tests are true
abbrev pub stays_restricted : Definition → Tm → RecursiveCall → Sequent
stays_restricted d r c =
    record { universals = []; hyps = without_repeats (r ∷ c.tests); goal = at_call d r c }

abbrev pub conditions_of : Definition → Tm → List Condition
conditions_of d r = numbered (codes ":RESTRICTION-OF-CALL-") (map (stays_restricted d r) (recursive_calls d.name [] d.body))

abbrev pub link_of : Definition → Name → Tm → Link
link_of d g r = Restriction d.name g d.formals r

-- the new function, the theorem, and what the theorem says for a chain
abbrev pub entries_of : Request → Definition → Tm → List Entry
entries_of q d r =
    Function (restricted d q.function r q.undefined)
    ∷ Theorem q.theorem (alone (same_where d q.function r))
    ∷ Chained q.theorem (link_of d q.function r)
    ∷ []

-- What the book proves is that the restriction stays met at recursive calls. What the new function owes and the theorem follow.
abbrev pub planned : Request → Definition → Tm → Plan
planned q d r = record {
  entries = entries_of q d r;
  conditions = conditions_of d r;
  before = obligations (restricted d q.function r q.undefined);
  after = alone (same_where d q.function r) ∷ [];
}

-- the restriction as a term over the formals
abbrev pub translated : World → Request → Definition → Outcome Tm
translated W q d = translate (arity W.functions) (is_in d.formals) q.restriction

-- the same, where it depends on no function variable
abbrev pub restriction_of : World → Request → Definition → Outcome Tm
restriction_of W q d = and_then (translated W q d) (λ r. first_order_term W r)

-- the plan, or the first refusal: the old function comes first, then the restriction
abbrev pub plan_of : World → Request → Outcome Plan
plan_of W q = and_then (first_order_definition W q.old) (λ d. map_outcome (planned q d) (restriction_of W q d))

-- the names that are asked for are new, and two
pub record AreNew (W : World) (q : Request) : Type 0 where
  pub function : is_free W q.function ≡ true
  pub theorem : is_free W q.theorem ≡ true
  pub two : bytes_eq q.function q.theorem ≡ false
