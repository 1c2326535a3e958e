use Rattle.std.proofs.Common.{◌≡◌, ◌<◌, List, [], ◌∷◌, ◌++◌, length, ap, arith}
use Rattle.std.proofs.lemmas.List.{length-append}
use Rattle.lisp_data.specs.Datum.{Datum}
use Rattle.lisp_data.proofs.Proper.{proper-int, proper-sym}
use Rattle.logic_tests.proofs.worlds_calls.defthm.Goals as goal

some : (xs ys : List Datum) (d : Datum) → ys ≡ xs ++ d ∷ [] → 0 < length ys
some xs ys d e = omega (arith, ap length e, length-append xs (d ∷ []))

pub returns : goal.returns
returns c =
    let one = c.in_ok-push.ensures.proper c.new-items.ensures.proper (proper-sym _) in
    let two = c.in_ok-push-2.ensures.proper one (proper-sym _) in
    let three = c.in_ok-push-3.ensures.proper two (proper-int _) in
    c.list.ensures.proper three (some _ _ _ c.in_ok-push-3.ensures.ok)
