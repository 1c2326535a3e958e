-- What an outcome came of.
use Rattle.std.proofs.Common.{◌≡◌, Bool, true, false, Ok, Err, if◌then◌else◌, refl, ap}
use Rattle.lisp_data.specs.declared.code.Code.{Code}
use Rattle.lisp_data.specs.declared.detail.Detail.{Detail}
use Rattle.term_forms.specs.Translation.{Outcome, and_then, map_outcome}
use Rattle.events.specs.Frames.{Judged, coded, goes_on}

pub then_ok : {A B : Type 0} (o : Outcome A) (k : A → Outcome B) (y : B) → and_then o k ≡ Ok y → (x : A) × (o ≡ Ok x) × (k x ≡ Ok y)
then_ok (Err e) k y h = absurd (cc)
then_ok (Ok x) k y h = (x, refl, h)

pub map_ok : {A B : Type 0} (o : Outcome A) (f : A → B) (y : B) → map_outcome f o ≡ Ok y → (x : A) × (o ≡ Ok x) × (f x ≡ y)
map_ok (Err e) f y h = absurd (cc)
map_ok (Ok x) f y h = (x, refl, cc)

pub goes_ok : {A B : Type 0} (o : Judged A) (k : A → Judged B) (y : B) → goes_on o k ≡ Ok y → (x : A) × (o ≡ Ok x) × (k x ≡ Ok y)
goes_ok (Err e) k y h = absurd (cc)
goes_ok (Ok x) k y h = (x, refl, h)

pub coded_ok : {A : Type 0} (o : Outcome A) (x : A) → coded o ≡ Ok x → o ≡ Ok x
coded_ok (Err e) x h = absurd (cc)
coded_ok (Ok y) x h = let same : y ≡ x = cc in ap Ok same

pub if_ok : {A : Type 0} (b : Bool) (o : Outcome A) (e : Code × Detail) (y : A) → (if b then o else Err e) ≡ Ok y → (b ≡ true) × (o ≡ Ok y)
if_ok true o e y h = (refl, h)
if_ok false o e y h = absurd (cc)

pub unless_ok : {A : Type 0} (b : Bool) (o : Outcome A) (e : Code × Detail) (y : A) → (if b then Err e else o) ≡ Ok y → (b ≡ false) × (o ≡ Ok y)
unless_ok true o e y h = absurd (cc)
unless_ok false o e y h = (refl, h)
