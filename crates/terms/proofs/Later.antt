-- What the names of a sound world are stays in each later sound world, and so does what each book begins with.
use Rattle.std.proofs.Common.{◌≡◌, Bool, true, false, cond, List, [], ◌∷◌, ◌++◌, length, bytes_eq, codes, Option, Some, None, refl, ap₂, ◌∙◌}
use Rattle.lisp_data.specs.Values.{Name}
use Rattle.terms.specs.Terms.{Tm, Var, Quote, Call, Tms, Done, More}
use Rattle.terms.specs.declared.definition.Definition.{Definition}
use Rattle.terms.specs.Definitions.{find}
use Rattle.terms.specs.Dependence.{term_dependence, terms_dependence, measure_dependence, dependence}
use Rattle.terms.specs.Worlds.{World}
use Rattle.terms.specs.Formed.{HasBasics, VarsApart}
use Rattle.terms.specs.BuiltIn.{not_def, implies_def, natp_def, binary_append_def, truth_definitions, number_definitions, list_definitions, initial_definitions}
use Rattle.terms.specs.Sound.{Sound, initial_world}
use Rattle.terms.specs.Laws.{LaterWorldsKeep, KeepsInitial, SoundWorldsKeepInitial}
use Rattle.terms.proofs.Meaning.{arity_defined}
use Rattle.terms.proofs.NamesStay as names
use Rattle.terms.proofs.NamesStay.{names_apart}
use Rattle.terms.proofs.Initial.{initial_sound}

-- a function variable has the name of no primitive and no definition
pub vars_apart : (W : World) → Sound W → VarsApart W.functions
vars_apart W sound = names.vars_apart W (names_apart W sound)

pub later_worlds_keep : LaterWorldsKeep
later_worlds_keep W V before sound later = names.names_stay W V (names_apart W before) (names_apart V sound) later before.formed

-- where there are no function variables nothing depends on one
module _ (of_name : Name → List Name) (none : (f : Name) → of_name f ≡ []) where
  mutual
    term_none : (t : Tm) → term_dependence of_name t ≡ []
    term_none (Var x) = refl
    term_none (Quote v) = refl
    term_none (Call f us) = ap₂ (λ a b. a ++ b) (none f) (terms_none us)

    terms_none : (us : Tms) → terms_dependence of_name us ≡ []
    terms_none Done = refl
    terms_none (More t us) = ap₂ (λ a b. a ++ b) (term_none t) (terms_none us)

  measure_none : (o : Option Tm) → measure_dependence of_name o ≡ []
  measure_none None = refl
  measure_none (Some m) = term_none m

no_dependence : (ds : List Definition) (f : Name) → dependence [] ds f ≡ []
no_dependence [] f = refl
no_dependence (d ∷ ds) f = by_test (bytes_eq d.name f) (no_dependence ds)
  where
    by_test : (b : Bool) → ((g : Name) → dependence [] ds g ≡ []) → cond b (term_dependence (dependence [] ds) d.body ++ measure_dependence (dependence [] ds) d.measure) (dependence [] ds f) ≡ []
    by_test true ih = ap₂ (λ a b. a ++ b) (term_none (dependence [] ds) ih d.body) (measure_none (dependence [] ds) ih d.measure)
    by_test false ih = ih f

pub sound_worlds_keep_initial : SoundWorldsKeepInitial
sound_worlds_keep_initial W sound =
    let stays = later_worlds_keep initial_world W initial_sound sound sound.later in
    record {
      definitions = names.definitions_stay initial_world W (names_apart initial_world initial_sound) (names_apart W sound) sound.later;
      independent = λ f d e. stays.dependences f (length d.formals) (arity_defined initial_world.functions initial_sound.formed f d e) ∙ no_dependence initial_definitions f;
      theorems = stays.theorems_stay;
    }

-- the functions that rules, obligations and the words of the syntax speak with
module _ (W : World) (sound : Sound W) where
  keeps : KeepsInitial W
  keeps = sound_worlds_keep_initial W sound

  pub has_basics : HasBasics W.functions
  unfolding initial_definitions list_definitions number_definitions truth_definitions
  has_basics = record {
    has_not = keeps.definitions (codes "NOT") not_def refl;
    has_implies = keeps.definitions (codes "IMPLIES") implies_def refl;
    has_natp = keeps.definitions (codes "NATP") natp_def refl;
  }

  pub has_append : find W.functions.defs (codes "BINARY-APPEND") ≡ Some binary_append_def
  unfolding initial_definitions list_definitions
  has_append = keeps.definitions (codes "BINARY-APPEND") binary_append_def refl
