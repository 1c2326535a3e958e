-- The instance of a definition of a sound world can be added, and what it owes holds.
use Rattle.std.proofs.Common.{◌≡◌, ℕ, true, false, List, [], ◌∷◌, bytes_eq, codes, Option, Some, None, IfSome, refl, sym, ap, ◌∙◌, subst}
use Rattle.lisp_data.specs.Values.{Name}
use Rattle.terms.specs.Primitives.{Operation, primitive}
use Rattle.terms.specs.Terms.{Tm, Var, Quote, Call, Tms, Done, More, Over, OverAll}
use Rattle.terms.specs.Definitions.{find}
use Rattle.terms.specs.BuiltIn.{not_def, natp_def, initial_definitions, list_definitions, number_definitions, truth_definitions}
use Rattle.terms.specs.Measures.{mentions, obligations}
use Rattle.terms.specs.Worlds.{Functions, World, arity, IsIn}
use Rattle.terms.specs.Formed.{IsFormed, HasBasics, ObligationsHold}
use Rattle.terms.specs.Sound.{Sound, AllHold}
use Rattle.terms.specs.declared.definition.Definition.{Definition}
use Rattle.terms.specs.declared.entries.FunPair.{FunPair}
use Rattle.terms.proofs.Names.{name_apart}
use Rattle.terms.proofs.Below.{Any}
use Rattle.terms.proofs.Models.{is_if}
use Rattle.terms.proofs.Extend.{body_fits}
use Rattle.terms.proofs.Meaning.{found_free, arity_defined}
use Rattle.terms.proofs.Basics.{is_less}
use Rattle.terms.proofs.Later.{vars_apart, has_basics, sound_worlds_keep_initial}
use Rattle.terms.specs.Maps.{renamed}
use Rattle.terms.specs.Instances.{restricted, own_pairs}
use Rattle.instance_laws.specs.Laws.{InstancesOwe, InstanceOfDefinition}
use Rattle.terms.proofs.Found.{IsFoundFormed, found_formed, each_found}
use Rattle.instance_laws.proofs.Parts.{whole_map, whole_list, in_whole, whole_closed, whole_keeps, whole_stays, whole_covers, AreGood, IsCovered, InstanceMade, instance_made}
use Rattle.instance_laws.proofs.Owed.{Listed, Known, CanInstantiate, instance_formed, instance_owes}

-- each variable satisfies what the first says, each call both
module _ (P : Name → Type 0) (Q R S : Name → ℕ → Type 0) (both : (g : Name) (k : ℕ) → Q g k → R g k → S g k) where
  mutual
    over_with : (t : Tm) → Over P Q t → Over Any R t → Over P S t
    over_with (Var x) o p = o
    over_with (Quote v) o p = tt
    over_with (Call g ts) o p = (both g _ o.0 p.0, over_all_with ts o.1 p.1)

    over_all_with : (ts : Tms) → OverAll P Q ts → OverAll Any R ts → OverAll P S ts
    over_all_with Done o p = tt
    over_all_with (More t ts) o p = (over_with t o.0 p.0, over_all_with ts o.1 p.1)

  if_some_with : (o : Option Tm) → IfSome o (Over P Q) → IfSome o (Over Any R) → IfSome o (Over P S)
  if_some_with None h k = tt
  if_some_with (Some t) h k = over_with t h k

restricted-none : (pairs : List FunPair) → restricted pairs [] ≡ []
restricted-none [] = refl
restricted-none (p ∷ ps) = restricted-none ps

initial_not : find initial_definitions (codes "NOT") ≡ Some not_def
unfolding initial_definitions list_definitions number_definitions truth_definitions
initial_not = refl

initial_natp : find initial_definitions (codes "NATP") ≡ Some natp_def
unfolding initial_definitions list_definitions number_definitions truth_definitions
initial_natp = refl

not_flat : mentions not_def.name not_def.body ≡ false
not_flat = refl

natp_flat : mentions natp_def.name natp_def.body ≡ false
natp_flat = refl

-- a recursive definition isn't one that isn't
not_the_same : (ds : List Definition) (d : Definition) → find ds d.name ≡ Some d → mentions d.name d.body ≡ true → (f : Name) (e : Definition) → find ds f ≡ Some e → mentions e.name e.body ≡ false → bytes_eq d.name f ≡ false
not_the_same ds d found recursive f e there flat =
    name_apart d.name f (λ same.
    let one : Some d ≡ Some e = sym found ∙ ap (find ds) same ∙ there in
    let is : d ≡ e = cc in
    let now : mentions e.name e.body ≡ true = subst (λ (z : Definition). mentions z.name z.body ≡ true) is recursive in
    absurd (cc))

module _ (W : World) (sound : Sound W) (d : Definition) (found : find W.functions.defs d.name ≡ Some d) (pairs : List FunPair) (name : Name) (fresh : arity W.functions name ≡ None) (i : Definition) (is : InstanceMade W d pairs name i) where
  abbrev F : Functions
  F = W.functions

  good : AreGood W pairs
  good = is.good

  abbrev list : List Name
  list = whole_list W sound pairs is.good

  can : CanInstantiate W.functions (whole_list W sound pairs is.good) d
  can = record {
    found = found;
    formed = known;
    body = over_with (IsIn d.formals) (λ g k. arity F g ≡ Some k) (λ g k. bytes_eq d.name g ≡ false → IsCovered W pairs g) (Known F list d.name) (λ g k a c. (a, λ apart. listed_here g k a apart (c apart))) d.body (body_fits F sound.formed d.name d found) is.body_covered;
    measure = if_some_with (IsIn d.formals) (λ g k. (arity F g ≡ Some k) × (bytes_eq d.name g ≡ false)) (λ g k. bytes_eq d.name g ≡ false → IsCovered W pairs g) (Listed F list d.name) (λ g k a c. listed_here g k a.0 a.1 (c a.1)) d.measure known.measure is.measure_covered;
  }
    where
      known : IsFoundFormed W.functions d
      known = found_formed W.functions.vars W.functions.defs sound.formed d.name d found

      listed_here : (g : Name) (k : ℕ) → arity W.functions g ≡ Some k → bytes_eq d.name g ≡ false → IsCovered W pairs g → Listed W.functions (whole_list W sound pairs is.good) d.name g k
      listed_here g k a apart c = record { other = apart; fits = a; inside = λ e h. in_whole W sound pairs is.good g e h c }

  primitive_other : (g : Name) (p : Operation) → primitive g ≡ Some p → bytes_eq d.name g ≡ false
  primitive_other g p e = name_apart d.name g (λ same. let n = subst (λ x. primitive x ≡ None) same (found_free F.vars F.defs sound.formed d.name d found) in absurd (cc))

  -- a function that each book begins with depends on no variable
  nothing_own : (f : Name) (e : Definition) → find initial_definitions f ≡ Some e → own_pairs W pairs f ≡ []
  nothing_own f e h = ap (restricted pairs) ((sound_worlds_keep_initial W sound).independent f e h) ∙ restricted-none pairs

  word : (f : Name) (e : Definition) (k : ℕ) → find initial_definitions f ≡ Some e → arity W.functions f ≡ Some k → bytes_eq d.name f ≡ false → Listed W.functions (whole_list W sound pairs is.good) d.name f k
  word f e k h a apart = record { other = apart; fits = a; inside = λ e' there. in_whole W sound pairs is.good f e' there (whole_covers W sound pairs is.good f (nothing_own f e h)) }

  owes : ObligationsHold W.functions (renamed ((d.name, name) ∷ whole_map W pairs) name d)
  owes =
      instance_owes F sound.formed sound.total (vars_apart W sound) (whole_map W pairs) list (whole_closed W sound pairs is.good) (whole_keeps W sound pairs is.good) d can name fresh
      (each_found (λ e. AllHold F (obligations e)) F.defs sound.obligations d.name d found)
      (λ recursive. (
        primitive_other (codes "IF") _ is_if,
        primitive_other (codes "<") _ is_less,
        word (codes "NOT") not_def 1 initial_not (arity_defined F sound.formed (codes "NOT") not_def basics.has_not) (not_the_same F.defs d found recursive (codes "NOT") not_def basics.has_not not_flat),
        word (codes "NATP") natp_def 1 initial_natp (arity_defined F sound.formed (codes "NATP") natp_def basics.has_natp) (not_the_same F.defs d found recursive (codes "NATP") natp_def basics.has_natp natp_flat),
        whole_stays W sound pairs is.good (codes "NOT") not_def basics.has_not (nothing_own (codes "NOT") not_def initial_not),
        whole_stays W sound pairs is.good (codes "NATP") natp_def basics.has_natp (nothing_own (codes "NATP") natp_def initial_natp),
      ))
    where
      basics : HasBasics W.functions
      basics = has_basics W sound

  pub owes_what_holds : InstanceOfDefinition W i
  owes_what_holds = record {
    formed = subst (IsFormed F) (sym is.is) (instance_formed F sound.formed sound.total (vars_apart W sound) (whole_map W pairs) list (whole_closed W sound pairs is.good) (whole_keeps W sound pairs is.good) d can name fresh);
    owes = subst (ObligationsHold F) (sym is.is) owes;
  }

pub instances_owe : InstancesOwe
instances_owe W sound d found pairs name fresh i e = owes_what_holds W sound d found pairs name fresh i (instance_made W sound d pairs name i e)
