-- Terms over the primitives and over functions of a table: their values by the table alone.
use Rattle.std.proofs.Common.{◌≡◌, ◌≢◌, ℕ, Bool, true, false, cond, ◌&&◌, List, [], ◌∷◌, pos, int_lt, nat_eq, length, bytes_eq, codes, Option, Some, None, refl, sym, ap, ap₂, ◌∙◌, subst, arith}
use Rattle.std.proofs.lemmas.Bool.{and_parts, eqb-true}
use Rattle.lisp_data.specs.Values.{Name, Val, Sym, nil}
use Rattle.terms.specs.Primitives.{Operation, One, Two, Three, operate, operands, primitive, lookup, is_nil, is_int, truth, choose, number}
use Rattle.terms.specs.Terms.{Tm, Var, Quote, Call, Tms, Done, More, count, OverAll}
use Rattle.terms.specs.declared.definition.Definition.{Definition}
use Rattle.terms.specs.declared.sequent.Sequent.{Sequent}
use Rattle.terms.specs.Definitions.{find, Interp}
use Rattle.terms.specs.Worlds.{Functions, FitsSequent, arity, Fits, Each, Total, IsTrueAt, Holds}
use Rattle.terms.specs.BuiltIn.{not_def, implies_def, natp_def}
use Rattle.terms.specs.Formed.{AllFormed, HasBasics}
use Rattle.terms.proofs.Names.{same_name}
use Rattle.terms.proofs.Models.{Model, model, val, vals, vals-length}
use Rattle.terms.proofs.Meaning.{or_nil, bound, of_primitive, of_definition, arity_primitive, arity_defined, true_from, true_to}
use Rattle.terms.proofs.Basics.{of_not, of_implies, of_natp}

abbrev pub Table : Type 0
Table = List (Name × Operation)

abbrev pub or_table : Option Operation → Option Operation → Option Operation
or_table None o = o
or_table (Some p) o = Some p

abbrev pub then_operate : Option Operation → List Val → Option Val
then_operate None vs = None
then_operate (Some p) vs = operate p vs

abbrev pub takes : Option Operation → ℕ → Bool
takes None k = false
takes (Some p) k = nat_eq (operands p) k

-- what a name does: a primitive, else what the table says
abbrev pub standard : Table → Name → List Val → Val
standard table f vs = or_nil (then_operate (or_table (primitive f) (lookup table f)) vs)

-- each call is of these, with its number of arguments
abbrev mutual
  pub is_standard : Table → Tm → Bool
  is_standard table (Var x) = true
  is_standard table (Quote v) = true
  is_standard table (Call f ts) = takes (or_table (primitive f) (lookup table f)) (count ts) && are_standard table ts

  pub are_standard : Table → Tms → Bool
  are_standard table Done = true
  are_standard table (More t ts) = is_standard table t && are_standard table ts

-- an operation gives a value on as many values as it takes
pub operates : (p : Operation) (vs : List Val) → operands p ≡ length vs → operate p vs ≡ Some (or_nil (operate p vs))
operates (One f) (a ∷ []) e = refl
operates (Two f) (a ∷ b ∷ []) e = refl
operates (Three f) (a ∷ b ∷ c ∷ []) e = refl
operates p vs e = absurd (omega arith)

takes_is : (p : Operation) (k : ℕ) → takes (Some p) k ≡ true → operands p ≡ k
takes_is p k e = eqb-true (operands p) k e

-- the name has the operation's number of arguments, and does what it says
abbrev pub HasArity : Functions → Name × Operation → Type 0
HasArity W e = arity W e.0 ≡ Some (operands e.1)

abbrev pub Does : (Name → List Val → Val) → Name × Operation → Type 0
Does F e = (vs : List Val) → operands e.1 ≡ length vs → F e.0 vs ≡ or_nil (operate e.1 vs)

-- what holds of each entry of a table holds of what looking up finds
among : (P : Name × Operation → Type 0) (es : Table) → Each P es → (f : Name) (p : Operation) → lookup es f ≡ Some p → P (f, p)
among P [] h f p e = absurd (cc)
among P (x ∷ es) h f p e = by_test (bytes_eq x.0 f) refl e (among P es h.1 f p)
  where
    by_test : (b : Bool) → bytes_eq x.0 f ≡ b → cond b (Some x.1) (lookup es f) ≡ Some p → (lookup es f ≡ Some p → P (f, p)) → P (f, p)
    by_test true t e' ih =
        let same : x.1 ≡ p = cc in
        subst (λ g. P (g, p)) (same_name x.0 f t) (subst (λ q. P (x.0, q)) same h.0)
    by_test false t e' ih = ih e'

module _ (W : Functions) (table : Table) (arities : Each (HasArity W) table) where
  standard_arity : (f : Name) (k : ℕ) → takes (or_table (primitive f) (lookup table f)) k ≡ true → arity W f ≡ Some k
  standard_arity f k e = by_primitive (primitive f) refl e
    where
      by_table : (q : Option Operation) → lookup table f ≡ q → takes q k ≡ true → arity W f ≡ Some k
      by_table None l e' = absurd (cc)
      by_table (Some p) l e' = among (HasArity W) table arities f p l ∙ ap Some (takes_is p k e')

      by_primitive : (q : Option Operation) → primitive f ≡ q → takes (or_table q (lookup table f)) k ≡ true → arity W f ≡ Some k
      by_primitive None h e' = by_table (lookup table f) refl e'
      by_primitive (Some p) h e' = arity_primitive W f p h ∙ ap Some (takes_is p k e')

  mutual
    pub standard_fits : (t : Tm) → is_standard table t ≡ true → Fits W t
    standard_fits (Var x) e = tt
    standard_fits (Quote v) e = tt
    standard_fits (Call f ts) e =
        let h = and_parts (takes (or_table (primitive f) (lookup table f)) (count ts)) (are_standard table ts) e in
        (standard_arity f (count ts) h.0, standard_all_fit ts h.1)

    pub standard_all_fit : (ts : Tms) → are_standard table ts ≡ true → OverAll (λ x. Unit {0}) (λ f k. arity W f ≡ Some k) ts
    standard_all_fit Done e = tt
    standard_all_fit (More t ts) e = let h = and_parts (is_standard table t) (are_standard table ts) e in (standard_fits t h.0, standard_all_fit ts h.1)

module _ (W : Functions) (I : Interp) (M : Model W I) (table : Table) (does : Each (Does M.of) table) where
  of_name : (f : Name) (k : ℕ) → takes (or_table (primitive f) (lookup table f)) k ≡ true → (vs : List Val) → length vs ≡ k → M.of f vs ≡ standard table f vs
  of_name f k e vs n = by_primitive (primitive f) refl e
    where
      by_table : (q : Option Operation) → lookup table f ≡ q → takes q k ≡ true → M.of f vs ≡ or_nil (then_operate q vs)
      by_table None l e' = absurd (cc)
      by_table (Some p) l e' = let o = takes_is p k e' in among (Does M.of) table does f p l vs (o ∙ sym n)

      by_primitive : (q : Option Operation) → primitive f ≡ q → takes (or_table q (lookup table f)) k ≡ true → M.of f vs ≡ or_nil (then_operate (or_table q (lookup table f)) vs)
      by_primitive None h e' = by_table (lookup table f) refl e'
      by_primitive (Some p) h e' = let o = takes_is p k e' in of_primitive W I M f p vs _ h (operates p vs (o ∙ sym n))

  mutual
    pub val_standard : (t : Tm) (env : Name → Val) → is_standard table t ≡ true → val M.of t env ≡ val (standard table) t env
    val_standard (Var x) env e = refl
    val_standard (Quote v) env e = refl
    val_standard (Call f ts) env e =
        let h = and_parts (takes (or_table (primitive f) (lookup table f)) (count ts)) (are_standard table ts) e in
        of_name f (count ts) h.0 (vals M.of ts env) (vals-length M.of ts env) ∙ ap (standard table f) (vals_standard ts env h.1)

    pub vals_standard : (ts : Tms) (env : Name → Val) → are_standard table ts ≡ true → vals M.of ts env ≡ vals (standard table) ts env
    vals_standard Done env e = refl
    vals_standard (More t ts) env e =
        let h = and_parts (is_standard table t) (are_standard table ts) e in
        ap₂ (λ x xs. x ∷ xs) (val_standard t env h.0) (vals_standard ts env h.1)

  -- a defined function with a standard body
  pub does_body : AllFormed W.vars W.defs → (d : Definition) → find W.defs d.name ≡ Some d → is_standard table d.body ≡ true → (vs : List Val) → length vs ≡ length d.formals → M.of d.name vs ≡ val (standard table) d.body (bound d.formals vs)
  does_body formed d found e vs n =
      of_definition W I M formed d.name d vs found n ∙ val_standard d.body (bound d.formals vs) e

-- what `not`, `implies` and `natp` do
abbrev pub negation : Val → Val
negation a = cond (is_nil a) (Sym (codes "T")) nil

abbrev pub implication : Val → Val → Val
implication a b = choose a (choose b (Sym (codes "T")) nil) (Sym (codes "T"))

abbrev pub natural : Val → Val
natural a = choose (truth (is_int a)) (negation (truth (int_lt (number a) (pos 0)))) nil

abbrev pub basics_table : Table
basics_table = (codes "NOT", One negation) ∷ (codes "IMPLIES", Two implication) ∷ (codes "NATP", One natural) ∷ []

pub does_one : (F : Name → List Val → Val) (f : Name) (g : Val → Val) → ((a : Val) → F f (a ∷ []) ≡ g a) → Does F (f, One g)
does_one F f g h (a ∷ []) n = h a
does_one F f g h vs n = absurd (omega arith)

does_two : (F : Name → List Val → Val) (f : Name) (g : Val → Val → Val) → ((a b : Val) → F f (a ∷ b ∷ []) ≡ g a b) → Does F (f, Two g)
does_two F f g h (a ∷ b ∷ []) n = h a b
does_two F f g h vs n = absurd (omega arith)

pub basics_arities : (W : Functions) → AllFormed W.vars W.defs → HasBasics W → Each (HasArity W) basics_table
basics_arities W formed basics = (
  arity_defined W formed (codes "NOT") not_def basics.has_not,
  (
    arity_defined W formed (codes "IMPLIES") implies_def basics.has_implies,
    (arity_defined W formed (codes "NATP") natp_def basics.has_natp, tt),
  ),
)

pub basics_do : (W : Functions) (I : Interp) (M : Model W I) → AllFormed W.vars W.defs → HasBasics W → Each (Does M.of) basics_table
basics_do W I M formed basics = (
  does_one M.of (codes "NOT") negation (of_not W I M formed basics),
  (
    does_two M.of (codes "IMPLIES") implication (of_implies W I M formed basics),
    (does_one M.of (codes "NATP") natural (of_natp W I M formed basics), tt),
  ),
)

-- a sequent of standard terms without universals, which is true by the table
pub record IsTruth (table : Table) (s : Sequent) : Type 0 where
  pub universals : s.universals ≡ []
  pub hyps : Each (λ h. is_standard table h ≡ true) s.hyps
  pub goal : is_standard table s.goal ≡ true
  pub true' : (env : Name → Val) → Each (λ h. val (standard table) h env ≢ nil) s.hyps → val (standard table) s.goal env ≢ nil

-- a world in which the table says what its names do
pub record Obeys (W : Functions) (table : Table) : Type 0 where
  pub total : Total W
  pub arities : Each (HasArity W) table
  pub does : (I : Interp) (M : Model W I) → Each (Does M.of) table

pub basics_obey : (W : Functions) → AllFormed W.vars W.defs → HasBasics W → Total W → Obeys W basics_table
basics_obey W formed basics total =
    record { total = total; arities = basics_arities W formed basics; does = λ I M. basics_do W I M formed basics }

module _ (W : Functions) (table : Table) (obeys : Obeys W table) (s : Sequent) (is : IsTruth table s) where
  all_fit : (ts : List Tm) → Each (λ t. is_standard table t ≡ true) ts → Each (Fits W) ts
  all_fit [] e = tt
  all_fit (t ∷ ts) e = (standard_fits W table obeys.arities t e.0, all_fit ts e.1)

  pub truth_fits : FitsSequent W s
  truth_fits = record {
    universals = subst (Each (Fits W)) (sym is.universals) tt;
    hyps = all_fit s.hyps is.hyps;
    goal = standard_fits W table obeys.arities s.goal is.goal;
  }

  hyps_true : (I : Interp) (M : Model W I) (env : Name → Val) (hs : List Tm) → Each (λ h. is_standard table h ≡ true) hs → Each (IsTrueAt W I env) hs → Each (λ h. val (standard table) h env ≢ nil) hs
  hyps_true I M env [] e h = tt
  hyps_true I M env (t ∷ ts) e h = (
    λ n. true_to W I M t (standard_fits W table obeys.arities t e.0) env h.0 (val_standard W I M table (obeys.does I M) t env e.0 ∙ n),
    hyps_true I M env ts e.1 h.1,
  )

  pub truth_holds : Holds W s
  truth_holds I tot us env hs =
      let M = model W I (obeys.total I tot) in
      true_from W I M s.goal (standard_fits W table obeys.arities s.goal is.goal) env
      (λ e. is.true' env (hyps_true I M env s.hyps is.hyps hs) (sym (val_standard W I M table (obeys.does I M) s.goal env is.goal) ∙ e))
