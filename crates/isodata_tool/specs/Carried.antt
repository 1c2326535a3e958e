-- A function on another representation of some of its arguments, and what joins it to the old one.
use Rattle.std.specs.Prelude.{◌≡◌, ℕ, suc, cond, List, [], ◌∷◌, ◌++◌, map, bytes_eq, Option, Some, None, option_map}
use Rattle.lisp_data.specs.Values.{Name}
use Rattle.terms.specs.BuiltIn.{no, if_else}
use Rattle.terms.specs.Joins.{without_repeats}
use Rattle.terms.specs.Links.{at_variables, conjunction}
use Rattle.terms.specs.Measures.{RecursiveCall, call1}
use Rattle.terms.specs.Terms.{Tm, Var, Quote, Call, Tms, Done, More, tms, substitute, by_args}
use Rattle.terms.specs.Worlds.{World, Each}
use Rattle.terms.specs.declared.definition.Definition.{Definition}
use Rattle.terms.specs.declared.sequent.Sequent.{Sequent}
use Rattle.terms.specs.declared.entries.IsoUse.{IsoUse}
use Rattle.terms.specs.declared.entries.Link.{Link}
use Rattle.terms.specs.declared.entries.Link.TheVariants.{Isomorphism}
use Rattle.worlds.specs.Lookups.{find_iso}
use Rattle.kernel.specs.Sequents.{equation, implication}
pub use Rattle.isodata_tool.specs.declared.maps.Mapped.{Mapped}

-- where a name stands among others, from 0 on
abbrev pub position_of : List Name → Name → Option ℕ
position_of [] y = None
position_of (x ∷ xs) y = cond (bytes_eq x y) (Some 0) (option_map suc (position_of xs y))

-- the mapped formal of a name
abbrev pub find_map : List Mapped → Name → Option Mapped
find_map [] y = None
find_map (e ∷ es) y = cond (bytes_eq e.formal y) (Some e) (find_map es y)

-- `(back t)` for a mapped formal; what stands for another stays
abbrev pub back_by : Option Mapped → Tm → Tm
back_by None t = t
back_by (Some e) t = call1 e.iso.back t

abbrev pub forth_by : Option Mapped → Tm → Tm
forth_by None t = t
forth_by (Some e) t = call1 e.iso.forth t

-- the variable on the old representation
abbrev pub with_back : List Mapped → Name → Tm
with_back ms x = back_by (find_map ms x) (Var x)

-- the arguments on the new representation: `(forth t)` for the argument t of each mapped formal
abbrev pub all_forth : List Mapped → List Name → Tms → Tms
all_forth ms [] ts = ts
all_forth ms (x ∷ xs) Done = Done
all_forth ms (x ∷ xs) (More t ts) = More (forth_by (find_map ms x) t) (all_forth ms xs ts)

-- `(oldp t)` for what s gives for each mapped formal, and `(newp x)` for each mapped formal x
abbrev pub all_in_old : List Mapped → (Name → Tm) → List Tm
all_in_old ms s = map (λ e. call1 e.iso.oldp (s e.formal)) ms

abbrev pub all_in_new : List Mapped → List Tm
all_in_new ms = map (λ e. call1 e.iso.newp (Var e.formal)) ms

-- The term with calls of g, on the new representation, for those of f. No call of f stands in another one.
abbrev mutual
  pub with_new_calls : Name → Name → List Mapped → List Name → Tm → Tm
  with_new_calls f g ms xs (Var x) = Var x
  with_new_calls f g ms xs (Quote v) = Quote v
  with_new_calls f g ms xs (Call h ts) = cond (bytes_eq f h) (Call g (all_forth ms xs ts)) (Call h (all_with_new_calls f g ms xs ts))

  pub all_with_new_calls : Name → Name → List Mapped → List Name → Tms → Tms
  all_with_new_calls f g ms xs Done = Done
  all_with_new_calls f g ms xs (More t ts) = More (with_new_calls f g ms xs t) (all_with_new_calls f g ms xs ts)

-- the old body with the new function's calls
abbrev pub called_body : Definition → Name → List Mapped → Tm
called_body d g ms = with_new_calls d.name g ms d.formals d.body

-- The body of the new function. Calls are replaced before variables: `back` may be the old function itself.
abbrev pub new_body : Definition → Name → List Mapped → Tm
new_body d g ms = substitute (with_back ms) (called_body d g ms)

-- The new function: (if (newp x) .. body 'nil). Its measure is the old one's on the old representation.
abbrev pub carried_over : Definition → Name → List Mapped → Definition
carried_over d g ms = record {
  name = g;
  formals = d.formals;
  body = if_else (conjunction (all_in_new ms)) (new_body d g ms) no;
  measure = option_map (substitute (with_back ms)) d.measure;
}

-- the old function at the formals on the old representation, and the new function at the formals on the new one
abbrev pub old_at_back : Definition → List Mapped → Tm
old_at_back d ms = Call d.name (tms (map (with_back ms) d.formals))

abbrev pub new_at_forth : Definition → Name → List Mapped → Tm
new_at_forth d g ms = Call g (all_forth ms d.formals (tms (map Var d.formals)))

-- from the new function to the old one, on the new representation
abbrev pub new_to_old : Definition → Name → List Mapped → Tm
new_to_old d g ms = implication (conjunction (all_in_new ms)) (equation (at_variables g d.formals) (old_at_back d ms))

-- from the old function to the new one, on the old representation
abbrev pub old_to_new : Definition → Name → List Mapped → Tm
old_to_new d g ms = implication (conjunction (all_in_old ms Var)) (equation (at_variables d.name d.formals) (new_at_forth d g ms))

-- the arguments of a recursive call are in the old representation, where the formals are and the call's tests are true
abbrev pub stays_old : Definition → List Mapped → RecursiveCall → Sequent
stays_old d ms c = record {
  universals = [];
  hyps = without_repeats (all_in_old ms Var ++ c.tests);
  goal = conjunction (all_in_old ms (by_args d.formals c.args));
}

-- what a link keeps of the mapped formals
abbrev pub uses_of : List Mapped → List IsoUse
uses_of ms = map (λ e. record { position = e.position; oldp = e.iso.oldp; forth = e.iso.forth }) ms

abbrev pub link_of : Definition → Name → List Mapped → Link
link_of d g ms = Isomorphism d.name g (uses_of ms)

-- the mapped formals are formals, at their positions and each once, with isomorphisms of the world
pub record AreMapped (W : World) (xs : List Name) (ms : List Mapped) : Type 0 where
  pub placed : Each (λ e. position_of xs e.formal ≡ Some e.position) ms
  pub own : Each (λ e. find_map ms e.formal ≡ Some e) ms
  pub known : Each (λ e. find_iso W.isos e.iso.name ≡ Some e.iso) ms
