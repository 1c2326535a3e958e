-- Keys, one at a time.
use Rattle.std.proofs.Common.{◌≡◌, ◌∙◌, ◌-◌, ◌≤◌, List, [], ◌∷◌, length, get_or, take, drop, map, Ok, ap, sym, arith}
use Rattle.std.proofs.Math.Seq.{take-length}
use Rattle.lisp_data.specs.FormView.{form_of}
use Rattle.lisp_data.specs.declared.form.Form.{Form}
use Rattle.term_forms.specs.Translation.{and_then}
use Rattle.event_forms.specs.Keys.{with_key, keys}
use Rattle.event_forms.specs.declared.keys.Keyed.{Keyed}
use Rattle.event_forms.specs.declared.keys.SeenKeys.{SeenKeys}

pub keys-step : (kind : Keyed) (seen more : SeenKeys) (parts : List Form) (k v : Form) → 2 ≤ length parts → k ≡ get_or parts 0 k → v ≡ get_or parts 1 v →
    with_key kind seen (form_of k) (form_of v) ≡ Ok more → keys kind seen (map form_of parts) ≡ keys kind more (map form_of (take (length parts - 2) (drop 2 parts)))
keys-step kind seen more [] k v n e f r = absurd (omega arith)
keys-step kind seen more (x ∷ []) k v n e f r = absurd (omega arith)
keys-step kind seen more (x ∷ y ∷ parts) k v n e f r =
    let m : length (x ∷ y ∷ parts) - 2 ≡ length parts = omega arith in
    let all : take (length (x ∷ y ∷ parts) - 2) parts ≡ parts = ap (λ m. take m parts) m ∙ take-length parts in
    ap (λ z. and_then (with_key kind seen (form_of z) (form_of y)) (λ seen. keys kind seen (map form_of parts))) (sym e)
    ∙ ap (λ z. and_then (with_key kind seen (form_of k) (form_of z)) (λ seen. keys kind seen (map form_of parts))) (sym f)
    ∙ ap (λ o. and_then o (λ seen. keys kind seen (map form_of parts))) r
    ∙ ap (λ ps. keys kind more (map form_of ps)) (sym all)

pub ruleset key_steps = (keys-step)
