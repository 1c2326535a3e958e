-- The world that each book begins with is sound.
use Rattle.std.proofs.Common.{◌≡◌, ℕ, true, not, List, [], ◌∷◌, ◌++◌, codes, Option, Some, None, refl, sym, ap, ◌∙◌, subst}
use Rattle.std.proofs.lemmas.Bool.{and_parts, not-true}
use Rattle.lisp_data.specs.Values.{Val}
use Rattle.terms.specs.Primitives.{Operation, operands, primitive, primitives, size}
use Rattle.terms.specs.Terms.{Tm}
use Rattle.terms.specs.declared.definition.Definition.{Definition}
use Rattle.terms.specs.declared.sequent.Sequent.{Sequent}
use Rattle.terms.specs.Evaluation.{resolve, variable, below, apply}
use Rattle.terms.specs.Worlds.{names, Distinct, arity_by, Each, Total, FitsSequent, Holds}
use Rattle.terms.specs.Measures.{mentions, obligations, call1, call2, is_natural}
use Rattle.terms.specs.BuiltIn.{x, len_def, true_listp_def, binary_append_def, truth_definitions, number_definitions, list_definitions, initial_definitions}
use Rattle.terms.specs.InitialTheorems.{equal_same, count_car, count_cdr, natp_count, natp_nfix, natp_minus_1, nfix_minus_1, count_minus_1, initial_theorems}
use Rattle.terms.specs.Formed.{functions, AllFormed, HasBasics}
use Rattle.terms.specs.Sound.{Sound, AllHold, initial_world}
use Rattle.terms.proofs.Basics.{t_not_nil}
use Rattle.terms.proofs.Totality.{stays_total}
use Rattle.terms.proofs.LaterSteps.{later_self}
use Rattle.terms.proofs.Growth.{flat_stays_total}
use Rattle.terms.proofs.BuiltInTests.{none_recursive, formed_all, distinct, each_in}
use Rattle.terms.proofs.Standard.{operates, basics_table, IsTruth, Obeys, basics_obey, truth_fits, truth_holds}
use Rattle.terms.proofs.InitialTheorems.{smaller_cdr, natural_is, initial_table, initial_obeys, equal_same_true, count_car_true, count_cdr_true, natp_count_true, natp_nfix_true, natp_minus_1_true, nfix_minus_1_true, count_minus_1_true}

no_functions : Total (functions [] [])
no_functions I tot f k a vs len = by_primitive (primitive f) refl a
  where
    by_primitive : (p : Option Operation) → primitive f ≡ p → arity_by p None None ≡ Some k → (n : ℕ) × (v : Val) × (apply n [] I f vs ≡ Some v)
    by_primitive None e a' = absurd (cc)
    by_primitive (Some p) e a' =
        let n : operands p ≡ k = cc in
        (0, _, ap (λ q. resolve q None (below 0 [] I) (variable (below 0) I f vs) vs) e ∙ operates p vs (n ∙ sym len))

plain_total : (ds : List Definition) → AllFormed [] ds → none_recursive ds ≡ true → Total (functions [] ds)
plain_total [] h e = no_functions
plain_total (d ∷ ds) h e =
    let r = and_parts (not (mentions d.name d.body)) (none_recursive ds) e in
    flat_stays_total (functions [] ds) h.1 (plain_total ds h.1 r.1) d h.0 (not-true (mentions d.name d.body) r.0)

-- what the measure (acl2-count x) owes: it is natural, and less of the cdr of a pair
abbrev count_x : Tm
count_x = call1 (codes "ACL2-COUNT") x

abbrev cdr_is_less : Sequent
cdr_is_less = record {
  universals = [];
  hyps = call1 (codes "CONSP") x ∷ [];
  goal = call2 (codes "<") (call1 (codes "ACL2-COUNT") (call1 (codes "CDR") x)) count_x;
}

natural_count : IsTruth basics_table (is_natural count_x)
unfolding primitive primitives
natural_count = record {
  universals = refl;
  hyps = tt;
  goal = refl;
  true' = λ env h e. t_not_nil (sym (natural_is (size (env (codes "X")))) ∙ e);
}

less_count : IsTruth basics_table cdr_is_less
unfolding primitive primitives
less_count = record {
  universals = refl;
  hyps = (refl, tt);
  goal = refl;
  true' = λ env h. smaller_cdr (env (codes "X")) h.0;
}

-- the obligations of a function with this measure and one recursive call on the cdr
owed : (ds : List Definition) → AllFormed [] ds → HasBasics (functions [] ds) → Total (functions [] ds) → AllHold (functions [] ds) (is_natural count_x ∷ cdr_is_less ∷ [])
owed ds formed basics total =
    let F = functions [] ds in
    let obeys = basics_obey F formed basics total in (
      (truth_fits F basics_table obeys (is_natural count_x) natural_count, truth_holds F basics_table obeys (is_natural count_x) natural_count),
      (
        (truth_fits F basics_table obeys cdr_is_less less_count, truth_holds F basics_table obeys cdr_is_less less_count),
        tt,
      ),
    )

recursive_total : (ds : List Definition) → AllFormed [] ds → HasBasics (functions [] ds) → Total (functions [] ds) → (d : Definition) → AllFormed [] (d ∷ ds) → obligations d ≡ is_natural count_x ∷ cdr_is_less ∷ [] → Total (functions [] (d ∷ ds))
recursive_total ds formed basics total d more e =
    let h = owed ds formed basics total in
    stays_total (functions [] ds) formed total d more.0 (λ m. basics)
    (subst (Each (Holds (functions [] ds))) (sym e) (h.0.1, (h.1.0.1, tt)))

-- those that aren't recursive
abbrev plain_definitions : List Definition
plain_definitions = number_definitions ++ truth_definitions

formed_initial : AllFormed [] initial_definitions
unfolding primitive primitives initial_definitions list_definitions number_definitions truth_definitions
formed_initial = formed_all initial_definitions refl

basics_plain : HasBasics (functions [] plain_definitions)
unfolding number_definitions truth_definitions
basics_plain = record { has_not = refl; has_implies = refl; has_natp = refl }

basics_len : HasBasics (functions [] (len_def ∷ plain_definitions))
unfolding number_definitions truth_definitions
basics_len = record { has_not = refl; has_implies = refl; has_natp = refl }

basics_true_listp : HasBasics (functions [] (true_listp_def ∷ len_def ∷ plain_definitions))
unfolding number_definitions truth_definitions
basics_true_listp = record { has_not = refl; has_implies = refl; has_natp = refl }

basics_initial : HasBasics (functions [] initial_definitions)
unfolding initial_definitions list_definitions number_definitions truth_definitions
basics_initial = record { has_not = refl; has_implies = refl; has_natp = refl }

total_plain : AllFormed [] plain_definitions → Total (functions [] plain_definitions)
unfolding number_definitions truth_definitions
total_plain formed = plain_total plain_definitions formed refl

total_initial : Total (functions [] initial_definitions)
unfolding initial_definitions list_definitions
total_initial =
    let formed = formed_initial in
    let plain = total_plain formed.1.1.1 in
    let len = recursive_total plain_definitions formed.1.1.1 basics_plain plain len_def formed.1.1 refl in
    let true_listp = recursive_total (len_def ∷ plain_definitions) formed.1.1 basics_len len true_listp_def formed.1 refl in
    recursive_total (true_listp_def ∷ len_def ∷ plain_definitions) formed.1 basics_true_listp true_listp binary_append_def formed refl

owed_initial : Each (λ d. AllHold (functions [] initial_definitions) (obligations d)) initial_definitions
unfolding initial_definitions list_definitions number_definitions truth_definitions
owed_initial =
    let h = owed initial_definitions formed_initial basics_initial total_initial in
    (h, (h, (h, (tt, (tt, (tt, (tt, (tt, (tt, (tt, (tt, (tt, (tt, (tt, (tt, (tt, (tt, tt)))))))))))))))))

-- the theorems hold
abbrev IsTheorem : Sequent → Type 0
IsTheorem s = (s.hyps ≡ []) × FitsSequent (functions [] initial_definitions) s × Holds (functions [] initial_definitions) s

obeys_initial : Obeys (functions [] initial_definitions) initial_table
unfolding initial_definitions list_definitions number_definitions truth_definitions
obeys_initial = initial_obeys (functions [] initial_definitions) formed_initial basics_initial total_initial refl refl

is_theorem : (s : Sequent) → s.hyps ≡ [] → IsTruth initial_table s → IsTheorem s
is_theorem s none is =
    let F = functions [] initial_definitions in
    (none, truth_fits F initial_table obeys_initial s is, truth_holds F initial_table obeys_initial s is)

theorems_hold : Each (λ t. IsTheorem t.1) initial_theorems
unfolding initial_theorems
theorems_hold = (
  is_theorem count_minus_1 refl count_minus_1_true,
  (
    is_theorem nfix_minus_1 refl nfix_minus_1_true,
    (
      is_theorem natp_minus_1 refl natp_minus_1_true,
      (
        is_theorem natp_nfix refl natp_nfix_true,
        (
          is_theorem natp_count refl natp_count_true,
          (
            is_theorem count_cdr refl count_cdr_true,
            (is_theorem count_car refl count_car_true, (is_theorem equal_same refl equal_same_true, tt)),
          ),
        ),
      ),
    ),
  ),
)

unlike_primitives : Each (λ f. primitive f ≡ None) (names initial_world)
unfolding primitive primitives initial_definitions list_definitions number_definitions truth_definitions initial_theorems
unlike_primitives = (refl, (refl, (refl, (refl, (refl, (refl, (refl, (refl, (refl, (refl, (refl, (refl, (refl, (refl, (refl, (refl, (refl, (refl, (refl, (refl, (refl, (refl, (refl, (refl, (refl, tt)))))))))))))))))))))))))

names_distinct : Distinct (names initial_world)
unfolding initial_definitions list_definitions number_definitions truth_definitions initial_theorems
names_distinct = distinct (names initial_world) refl

pub initial_sound : Sound initial_world
initial_sound = record {
  distinct = names_distinct;
  unlike_primitives = each_in (λ f. primitive f ≡ None) (names initial_world) unlike_primitives;
  formed = formed_initial;
  total = total_initial;
  later = later_self initial_world;
  obligations = owed_initial;
  theorems = theorems_hold;
  specifications = tt;
  isos = tt;
  instances = tt;
  first_order_isos = tt;
  links = tt;
}
