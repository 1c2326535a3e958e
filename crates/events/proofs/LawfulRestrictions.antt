-- Restrictions are lawful.
use Rattle.std.proofs.Common.{◌≡◌, Bool, true, false, ◌||◌, if◌then◌else◌, [], ◌∷◌, bytes_eq, Result, Ok, Err, refl, sym, subst}
use Rattle.lisp_data.specs.Values.{Name}
use Rattle.lisp_data.specs.declared.code.Code.TheVariants as code
use Rattle.lisp_data.specs.declared.detail.Detail.TheVariants as detail
use Rattle.terms.specs.Worlds.{World}
use Rattle.term_forms.specs.Translation.{Outcome, and_then}
use Rattle.worlds.specs.Names.{is_free}
use Rattle.event_forms.specs.Transformations.{RestrictParts}
use Rattle.restrict_tool.specs.Restrictions.{AreNew, plan_of}
use Rattle.restrict_tool.specs.Laws.{RestrictionsAreLawful}
use Rattle.events.specs.Definitions.{new_name}
use Rattle.events.specs.Restrict.{request, restrict}
use Rattle.events.specs.Verdicts.{name_after, new_names}
use Rattle.events.specs.Laws.{IsLawful}
use Rattle.events.proofs.Inversions.{then_ok, coded_ok}
use Rattle.events.proofs.WellFormed.{name_is_free}

-- a name after another one is free and isn't that one
another : (W : World) (g n : Name) (b : Bool) → (if b || false then Err (code.NameTaken, detail.Name n) else new_name W n) ≡ Ok (tt {0}) → (is_free W n ≡ true) × (b ≡ false)
another W g n true e = absurd (cc)
another W g n false e = (name_is_free W n e, refl)

-- the two new names of a restriction
pub are_new : (W : World) (p : RestrictParts) → new_names W [] (p.function ∷ p.theorem ∷ []) ≡ Ok (tt {0}) → AreNew W (request p)
unfolding name_after
are_new W p e =
    let a = then_ok (new_name W p.function) (λ _. and_then (name_after W (p.function ∷ []) p.theorem) (λ _. Ok (tt {0}))) tt e in
    let b = then_ok (name_after W (p.function ∷ []) p.theorem) (λ _. Ok (tt {0})) tt a.2 in
    let second = another W p.function p.theorem (bytes_eq p.function p.theorem) b.1 in
    record { function = name_is_free W p.function a.1; theorem = second.0; two = second.1 }

pub lawful_restrict : RestrictionsAreLawful → (p : RestrictParts) → IsLawful (restrict p)
lawful_restrict law p W sound names plan e =
    let r = law W sound (request p) (are_new W p names) plan (coded_ok (plan_of W (request p)) plan e) in
    record { lawful = r.lawful; fits = r.fits }
