-- An isomorphism is lawful.
use Rattle.std.proofs.Common.{◌≡◌, ℕ, Bool, true, false, if◌then◌else◌, nat_eq, List, [], ◌∷◌, codes, Option, Some, None, Ok, Err, refl, ap, ◌∙◌, subst, arith}
use Rattle.std.proofs.lemmas.Bool.Decides.{nat_tests}
use Rattle.lisp_data.specs.Values.{Name}
use Rattle.lisp_data.specs.declared.code.Code.{Code}
use Rattle.lisp_data.specs.declared.code.Code.TheVariants as code
use Rattle.lisp_data.specs.declared.detail.Detail.{Detail}
use Rattle.lisp_data.specs.declared.detail.Detail.TheVariants as detail
use Rattle.terms.specs.Primitives.{primitive, primitives}
use Rattle.terms.specs.Terms.{Var}
use Rattle.terms.specs.Measures.{call1, call2}
use Rattle.terms.specs.Links.{IsIndependent}
use Rattle.terms.specs.Sound.{Sound, over_x}
use Rattle.terms.specs.Worlds.{World, FitsSequent, arity}
use Rattle.terms.specs.declared.entries.Iso.{Iso}
use Rattle.term_forms.specs.Translation.{and_then, map_outcome}
use Rattle.worlds.specs.Names.{is_free}
use Rattle.soft_vars.specs.Dependents.{variables_of}
use Rattle.soft_vars.proofs.Independent.{independent}
use Rattle.event_forms.specs.Isomorphisms.{IsoParts}
use Rattle.events.specs.Functions.{is_other, found_arity, arity_of, takes_one, no_variables, unary}
use Rattle.events.specs.Defiso.{iso, checked_iso, iso_plan, defiso}
use Rattle.events.specs.Laws.{IsSuited, IsLawful}
use Rattle.events.proofs.Inversions.{then_ok, map_ok, coded_ok, if_ok}
use Rattle.events.proofs.Lawful.{one_name, direct}

-- what is refused either way is nothing
pub refused : {A : Type 0} (b : Bool) (d e : Code × Detail) (x : A) → (if b then Err d else Err e) ≡ Ok x → ⊥
refused true d e x h = cc
refused false d e x h = cc

-- a function that is found takes as many arguments as were found
found_is : (W : World) (f : Name) (o : Option ℕ) (k : ℕ) → found_arity W f o ≡ Ok k → o ≡ Some k
found_is W f (Some l) k e = let same : l ≡ k = cc in ap Some same
found_is W f None k e = absurd (refused (is_other W f) (code.NotAFunction, detail.Name f) (code.UnknownName, detail.Name f) k e)

is_one : (k : ℕ) → nat_eq k 1 ≡ true → k ≡ 1
is_one k e = grind (arith, nat_tests)

abbrev IsUnary : World → Name → Type 0
IsUnary W f = arity W.functions f ≡ Some 1

none_there : (xs : List Name) → no_variables xs ≡ Ok (tt {0}) → xs ≡ []
none_there [] e = refl
none_there (x ∷ xs) e = absurd (cc)

-- a function that is asked for takes one argument, and depends on no function variable
abbrev IsSimple : World → Name → Type 0
IsSimple W f = IsIndependent W f 1

unary_is : (W : World) → Sound W → (f : Name) → unary W f ≡ Ok (tt {0}) → IsSimple W f
unary_is W sound f e =
    let a = then_ok (arity_of W f) (λ k. and_then (takes_one f k) (λ _. no_variables (variables_of W f))) tt e in
    let b = then_ok (takes_one f a.0) (λ _. no_variables (variables_of W f)) tt a.2 in
    let one = if_ok (nat_eq a.0 1) (Ok (tt {0})) (code.WrongArity, detail.Name f) tt b.1 in
    let takes : IsUnary W f = found_is W f (arity W.functions f) a.0 a.1 ∙ ap Some (is_one a.0 one.0) in
    (takes, independent W sound f 1 takes (none_there (variables_of W f) b.2))

image_fits : (W : World) (p q f : Name) → IsUnary W p → IsUnary W q → IsUnary W f → FitsSequent W.functions (over_x p (call1 q (call1 f (Var (codes "X")))))
image_fits W p q f of_p of_q of_f = record { universals = tt; hyps = ((of_p, (tt, tt)), tt); goal = (of_q, ((of_f, (tt, tt)), tt)) }

undone_fits : (W : World) (p f g : Name) → IsUnary W p → IsUnary W f → IsUnary W g → FitsSequent W.functions (over_x p (call2 (codes "EQUAL") (call1 g (call1 f (Var (codes "X")))) (Var (codes "X"))))
unfolding primitive primitives
undone_fits W p f g of_p of_f of_g = record { universals = tt; hyps = ((of_p, (tt, tt)), tt); goal = (refl, ((of_g, ((of_f, (tt, tt)), tt)), (tt, tt))) }

-- an isomorphism of functions of one argument
lawful_iso : (W : World) (i : Iso) → is_free W i.name ≡ true → IsSimple W i.oldp → IsSimple W i.newp → IsSimple W i.forth → IsSimple W i.back → IsSuited W (iso_plan i)
lawful_iso W i free oldp newp forth back =
    let a = image_fits W i.oldp i.newp i.forth oldp.0 newp.0 forth.0 in
    let b = image_fits W i.newp i.oldp i.back newp.0 oldp.0 back.0 in
    let c = undone_fits W i.oldp i.forth i.back oldp.0 forth.0 back.0 in
    let d = undone_fits W i.newp i.back i.forth newp.0 back.0 forth.0 in
    direct W (iso_plan i) tt tt (a, (b, (c, (d, tt)))) (λ h. (
      (free, (((a, h.0), ((b, h.1.0), ((c, h.1.1.0), ((d, h.1.1.1.0), tt)))), (oldp, (newp, (forth, (back, tt)))))),
      tt,
    ))

pub lawful_defiso : (i : IsoParts) → IsLawful (defiso i)
lawful_defiso p W sound names plan e =
    let i = iso p in
    let m = map_ok (checked_iso W i) iso_plan plan (coded_ok (map_outcome iso_plan (checked_iso W i)) plan e) in
    let a = then_ok (unary W i.oldp) (λ _. and_then (unary W i.newp) (λ _. and_then (unary W i.forth) (λ _. map_outcome (λ _. i) (unary W i.back)))) m.0 m.1 in
    let b = then_ok (unary W i.newp) (λ _. and_then (unary W i.forth) (λ _. map_outcome (λ _. i) (unary W i.back))) m.0 a.2 in
    let c = then_ok (unary W i.forth) (λ _. map_outcome (λ _. i) (unary W i.back)) m.0 b.2 in
    let d = map_ok (unary W i.back) (λ _. i) m.0 c.2 in
    subst (IsSuited W) (ap iso_plan d.2 ∙ m.2)
    (lawful_iso W i (one_name W p.name names) (unary_is W sound i.oldp a.1) (unary_is W sound i.newp b.1) (unary_is W sound i.forth c.1) (unary_is W sound i.back d.1))
