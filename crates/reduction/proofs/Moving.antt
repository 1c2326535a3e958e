-- Lists of hypotheses, one after the other.
use Rattle.std.proofs.Common.{◌≡◌, ℕ, ◌+◌, ◌<◌, Bool, true, false, not, if◌then◌else◌, List, ◌∷◌, length, get_or, drop, append-nil, append_assoc, ap, ◌∙◌}
use Rattle.std.proofs.lemmas.List.{drop_all, drop_more}
use Rattle.terms.specs.Terms.{Tm, same_tm}
use Rattle.reduction.specs.Hyps.{without}

pub without-out : (xs : List Tm) (t : Tm) (i : ℕ) (d : Tm) → i < length xs → same_tm t (get_or xs i d) ≡ true → without (drop i xs) t ≡ without (drop (i + 1) xs) t
without-out xs t i d h e =
    ap (λ ys. without ys t) (drop_more xs i d h) ∙ ap (λ b. if not b then get_or xs i d ∷ without (drop (i + 1) xs) t else without (drop (i + 1) xs) t) e

pub without-in : (xs : List Tm) (t : Tm) (i : ℕ) (d : Tm) → i < length xs → same_tm t (get_or xs i d) ≡ false → without (drop i xs) t ≡ get_or xs i d ∷ without (drop (i + 1) xs) t
without-in xs t i d h e =
    ap (λ ys. without ys t) (drop_more xs i d h) ∙ ap (λ b. if not b then get_or xs i d ∷ without (drop (i + 1) xs) t else without (drop (i + 1) xs) t) e

pub ruleset lists = (drop_more, drop_all, without-out, without-in, append_assoc, append-nil)
