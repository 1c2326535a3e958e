-- Names are told apart by their test.
use Rattle.std.proofs.Common.{◌≡◌, ◌≢◌, true, false, bytes_eq, refl}
use Rattle.std.proofs.lemmas.Bool.{false_from_ne_true}
use Rattle.std.proofs.lemmas.Slice.Eq.{bytes_eq-Decides}
use Rattle.lisp_data.specs.Values.{Name}

pub same_name : (a b : Name) → bytes_eq a b ≡ true → a ≡ b
same_name a b e = (bytes_eq-Decides a b).0 e

pub name_self : (a : Name) → bytes_eq a a ≡ true
name_self a = (bytes_eq-Decides a a).1 refl

pub name_apart : (a b : Name) → a ≢ b → bytes_eq a b ≡ false
name_apart a b h = false_from_ne_true (bytes_eq a b) (λ e. h (same_name a b e))
