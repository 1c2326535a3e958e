-- Functions on another representation are lawful.
use Rattle.std.proofs.Common.{◌≡◌, Bool, true, false, ◌||◌, if◌then◌else◌, [], ◌∷◌, bytes_eq, List, IsOk, Result, Ok, Err, refl, subst}
use Rattle.lisp_data.specs.Values.{Name}
use Rattle.lisp_data.specs.declared.code.Code.TheVariants as code
use Rattle.lisp_data.specs.declared.detail.Detail.TheVariants as detail
use Rattle.terms.specs.Worlds.{World}
use Rattle.term_forms.specs.Translation.{Outcome, and_then}
use Rattle.worlds.specs.Names.{is_free}
use Rattle.plans.specs.declared.plan.Plan.{Plan}
use Rattle.event_forms.specs.Representations.{IsodataParts, maps_of}
use Rattle.isodata_tool.specs.Isomorphic.{AreNew, plan_of}
use Rattle.isodata_tool.specs.Laws.{TransfersAreLawful}
use Rattle.events.specs.Definitions.{new_name}
use Rattle.events.specs.Isodata.{request, isodata_plan, isodata}
use Rattle.events.specs.Verdicts.{name_after, new_names}
use Rattle.events.specs.Laws.{IsLawful}
use Rattle.events.proofs.Inversions.{then_ok, coded_ok}
use Rattle.events.proofs.WellFormed.{name_is_free}

-- a name after two others is free and is neither
record IsThird (W : World) (n : Name) (a b : Bool) : Type 0 where
  free : is_free W n ≡ true
  first : a ≡ false
  second : b ≡ false

second : (W : World) (n : Name) (b : Bool) → (if b || false then Err (code.NameTaken, detail.Name n) else new_name W n) ≡ Ok (tt {0}) → (is_free W n ≡ true) × (b ≡ false)
second W n true e = absurd (cc)
second W n false e = (name_is_free W n e, refl)

third : (W : World) (n : Name) (a b : Bool) → (if a || (b || false) then Err (code.NameTaken, detail.Name n) else new_name W n) ≡ Ok (tt {0}) → IsThird W n a b
third W n true b e = absurd (cc)
third W n false true e = absurd (cc)
third W n false false e = record { free = name_is_free W n e; first = refl; second = refl }

-- the three new names
pub are_new : (W : World) (p : IsodataParts) → new_names W [] (p.function ∷ p.new_to_old ∷ p.old_to_new ∷ []) ≡ Ok (tt {0}) → (maps : List (Name × Name)) → AreNew W (request p maps)
unfolding name_after
are_new W p e maps =
    let a = then_ok (new_name W p.function) (λ _. and_then (name_after W (p.function ∷ []) p.new_to_old) (λ _. and_then (name_after W (p.function ∷ p.new_to_old ∷ []) p.old_to_new) (λ _. Ok (tt {0})))) tt e in
    let b = then_ok (name_after W (p.function ∷ []) p.new_to_old) (λ _. and_then (name_after W (p.function ∷ p.new_to_old ∷ []) p.old_to_new) (λ _. Ok (tt {0}))) tt a.2 in
    let c = then_ok (name_after W (p.function ∷ p.new_to_old ∷ []) p.old_to_new) (λ _. Ok (tt {0})) tt b.2 in
    let two = second W p.new_to_old (bytes_eq p.function p.new_to_old) b.1 in
    let three = third W p.old_to_new (bytes_eq p.function p.old_to_new) (bytes_eq p.new_to_old p.old_to_new) c.1 in
    record {
      function = name_is_free W p.function a.1;
      new_to_old = two.0;
      old_to_new = three.free;
      theorems_apart = three.second;
      first_apart = two.1;
      second_apart = three.first;
    }

-- where there is a plan the pairs are read
pub maps_read : (W : World) (p : IsodataParts) (plan : Plan) → isodata_plan W p ≡ Ok plan → (maps : List (Name × Name)) × (maps_of p.maps ≡ Ok maps) × (plan_of W (request p maps) ≡ Ok plan)
maps_read W p plan e = then_ok (maps_of p.maps) (λ maps. plan_of W (request p maps)) plan e

pub same_maps : {o : Outcome (List (Name × Name))} {x y : List (Name × Name)} → o ≡ Ok x → o ≡ Ok y → x ≡ y
same_maps e f = cc

pub lawful_isodata : TransfersAreLawful → (p : IsodataParts) → IsLawful (isodata p)
lawful_isodata law p W sound names plan e =
    let m = maps_read W p plan (coded_ok (isodata_plan W p) plan e) in
    let r = law W sound (request p m.0) (are_new W p names m.0) plan m.2 in
    record { lawful = r.lawful; fits = r.fits }
