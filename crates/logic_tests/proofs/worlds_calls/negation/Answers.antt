use Rattle.std.proofs.Common.{◌≡◌, ◌≢◌, ℕ, List, [], ◌∷◌, codes, Some, refl, sym, ap, ◌∙◌, subst}
use Rattle.std.proofs.Math.IntN.{neg_ℤ, neg_ℤ-neg_ℤ}
use Rattle.lisp_data.specs.Values.{Name, Val, Int, Sym, Pair, nil, same_val}
use Rattle.terms.specs.Primitives.{primitive, primitives, truth, is_int, number}
use Rattle.terms.specs.Terms.{Var}
use Rattle.terms.specs.Measures.{call1, call2}
use Rattle.terms.specs.BuiltIn.{initial_definitions, list_definitions, number_definitions, truth_definitions}
use Rattle.terms.specs.Dependence.{dependence}
use Rattle.terms.specs.Links.{IsIndependent}
use Rattle.terms.specs.Worlds.{Functions, World, arity, FitsSequent, Holds}
use Rattle.terms.specs.Sound.{AllHold, initial_world, iso_conditions, over_x}
use Rattle.terms.specs.declared.entries.Iso.{Iso}
use Rattle.terms.proofs.Basics.{t_not_nil}
use Rattle.terms.proofs.Meaning.{value_self}
use Rattle.terms.proofs.InitialTheorems.{true_truth}
use Rattle.logic_tests.proofs.worlds_calls.negation.Goals as goal

abbrev int : Name
int = codes "INTEGERP"

abbrev minus : Name
minus = codes "UNARY--"

undone : (v w : Val) → Some (truth (is_int v)) ≡ Some w → w ≢ nil → truth (same_val (Int (neg_ℤ (neg_ℤ (number v)))) v) ≢ nil
undone (Int a) w e h = true_truth (same_val (Int (neg_ℤ (neg_ℤ a))) (Int a)) (ap (λ b. same_val (Int b) (Int a)) (neg_ℤ-neg_ℤ a) ∙ value_self (Int a))
undone (Sym s) w e h = absurd (h (cc))
undone (Pair a b) w e h = absurd (h (cc))

fits_one : (W : Functions) → FitsSequent W (over_x int (call1 int (call1 minus (Var (codes "X")))))
unfolding primitive primitives
fits_one W = record { universals = tt; hyps = ((refl, (tt, tt)), tt); goal = (refl, ((refl, (tt, tt)), tt)) }

one : (W : Functions) → Holds W (over_x int (call1 int (call1 minus (Var (codes "X")))))
unfolding primitive primitives
one W I total us env hs = (0, Sym (codes "T"), refl, t_not_nil)

fits_two : (W : Functions) → FitsSequent W (over_x int (call2 (codes "EQUAL") (call1 minus (call1 minus (Var (codes "X")))) (Var (codes "X"))))
unfolding primitive primitives
fits_two W = record { universals = tt; hyps = ((refl, (tt, tt)), tt); goal = (refl, ((refl, ((refl, (tt, tt)), tt)), (tt, tt))) }

two : (W : Functions) → Holds W (over_x int (call2 (codes "EQUAL") (call1 minus (call1 minus (Var (codes "X")))) (Var (codes "X"))))
unfolding primitive primitives
two W I total us env hs =
    let v = env (codes "X") in
    (0, truth (same_val (Int (neg_ℤ (neg_ℤ (number v)))) v), refl, undone v hs.0.1 hs.0.2 hs.0.3)

all : (W : Functions) (name : Name) → AllHold W (iso_conditions (record { name = name; oldp = int; newp = int; forth = minus; back = minus }))
all W name = ((fits_one W, one W), ((fits_one W, one W), ((fits_two W, two W), ((fits_two W, two W), tt))))

by_names : (W : Functions) (i : Iso) → i.oldp ≡ int → i.newp ≡ int → i.forth ≡ minus → i.back ≡ minus → AllHold W (iso_conditions i)
by_names W i e f g h = rw e (rw f (rw g (rw h (all W i.name))))

-- these functions are built in
int_alone : (arity initial_world.functions int ≡ Some 1) × (dependence initial_world.functions.vars initial_world.functions.defs int ≡ [])
unfolding primitive primitives initial_definitions list_definitions number_definitions truth_definitions
int_alone = (refl, refl)

minus_alone : (arity initial_world.functions minus ≡ Some 1) × (dependence initial_world.functions.vars initial_world.functions.defs minus ≡ [])
unfolding primitive primitives initial_definitions list_definitions number_definitions truth_definitions
minus_alone = (refl, refl)

as_at_first : (W : World) → W.functions ≡ initial_world.functions → (f g : Name) → f ≡ g →
    (arity initial_world.functions g ≡ Some 1) × (dependence initial_world.functions.vars initial_world.functions.defs g ≡ []) → IsIndependent W f 1
as_at_first W e f g q h =
    subst (λ (F : Functions). (arity F f ≡ Some 1) × (dependence F.vars F.defs f ≡ [])) (sym e)
    (subst (λ n. (arity initial_world.functions n ≡ Some 1) × (dependence initial_world.functions.vars initial_world.functions.defs n ≡ [])) (sym q) h)

pub returns-clause-hold : goal.returns-clause-hold
returns-clause-hold c =
    let i : Iso = record {
      name = c.in_ok-name.name;
      oldp = c.in_ok-oldp.oldp;
      newp = c.in_ok-integerp.integerp;
      forth = c.in_ok-forth.forth;
      back = c.in_ok-negative.negative;
    } in
    λ W. by_names W i (c.in_ok-oldp.ensures ∙ c.in_ok-integerp.ensures.upper) c.in_ok-integerp.ensures.upper
    (c.in_ok-forth.ensures ∙ c.in_ok-negative.ensures.upper) c.in_ok-negative.ensures.upper

pub returns-clause-first_order : goal.returns-clause-first_order
returns-clause-first_order c =
    let oldp = c.in_ok-oldp.ensures ∙ c.in_ok-integerp.ensures.upper in
    let forth = c.in_ok-forth.ensures ∙ c.in_ok-negative.ensures.upper in
    λ W e. (
      as_at_first W e c.in_ok-oldp.oldp int oldp int_alone,
      (
        as_at_first W e c.in_ok-integerp.integerp int c.in_ok-integerp.ensures.upper int_alone,
        (
          as_at_first W e c.in_ok-forth.forth minus forth minus_alone,
          (as_at_first W e c.in_ok-negative.negative minus c.in_ok-negative.ensures.upper minus_alone, tt),
        ),
      ),
    )
