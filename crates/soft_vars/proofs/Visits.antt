-- Visits of the functions that arguments call, from the last argument to the first.
use Rattle.std.proofs.Common.{◌≡◌, ℕ, ◌+◌, ◌-◌, ◌<◌, ◌≤◌, Bool, true, false, cond, not, List, [], ◌∷◌, ◌++◌, length, get_or, drop, append_assoc, append-nil, Option, refl, sym, ap, ◌∙◌, arith}
use Rattle.std.proofs.lemmas.List.{drop_all}
use Rattle.lisp_data.specs.Values.{Name}
use Rattle.terms.specs.Terms.{Tm, tms}
use Rattle.terms.proofs.Args.{args, tms-drop}
use Rattle.soft_vars.specs.view.Walks.{is_but, visits, visits_all}
use Rattle.soft_vars.specs.declared.walk.Task.{Task}
use Rattle.soft_vars.specs.declared.walk.Task.TheVariants.{Visit}

-- those from one place on are those from the next place on, and those of the argument there
pub visits-more : (but : Option Name) (ts : List Tm) (i : ℕ) (d : Tm) → i < length ts →
    visits_all but (tms (drop (length ts - i) ts)) ++ visits but (get_or ts (length ts - 1 - i) d) ≡ visits_all but (tms (drop (length ts - (i + 1)) ts))
visits-more but ts i d h =
    let e : (length ts - (i + 1)) + 1 ≡ length ts - i = omega arith in
    let k : length ts - 1 - i ≡ length ts - (i + 1) = omega arith in
    ap (λ j. visits_all but (tms (drop (length ts - i) ts)) ++ visits but (get_or ts j d)) k
    ∙ ap (λ j. visits_all but (tms (drop j ts)) ++ visits but (get_or ts (length ts - (i + 1)) d)) (sym e)
    ∙ sym (ap (visits_all but) (tms-drop ts (length ts - (i + 1)) d (omega arith)))

pub visits-none : (but : Option Name) (ts : List Tm) → visits_all but (tms (drop (length ts) ts)) ≡ []
visits-none but ts = ap (λ us. visits_all but (tms us)) (drop_all (length ts) ts (omega arith))

-- a call adds its own visit
pub visit_here : (b : Bool) (g : Name) (xs ys : List Task) → not b ≡ true → (xs ++ ys) ++ Visit g ∷ [] ≡ xs ++ (ys ++ cond b [] (Visit g ∷ []))
visit_here true g xs ys h = absurd (cc)
visit_here false g xs ys h = append_assoc xs ys (Visit g ∷ [])

pub no_visit : (b : Bool) (g : Name) (xs ys : List Task) → not b ≡ false → xs ++ ys ≡ xs ++ (ys ++ cond b [] (Visit g ∷ []))
no_visit true g xs ys h = ap (λ zs. xs ++ zs) (sym (append-nil ys))
no_visit false g xs ys h = absurd (cc)

pub ruleset added = (args, visits-more, visits-none, visit_here, no_visit, append_assoc, append-nil)
