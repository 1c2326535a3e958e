-- The argument for a formal, formal by formal.
use Rattle.std.proofs.Common.{◌≡◌, ℕ, ◌+◌, ◌<◌, ◌≤◌, false, cond, List, [], ◌∷◌, length, get_or, drop, bytes_eq, inl, inr, refl, sym, ap, ◌∙◌, arith}
use Rattle.std.proofs.lemmas.List.{drop_more, drop_all}
use Rattle.std.proofs.lemmas.Bool.{cases_lt}
use Rattle.lisp_data.specs.Values.{Name}
use Rattle.terms.specs.Terms.{Tm, Var, Done, tms, by_args}
use Rattle.terms.proofs.Args.{tms-drop}

no_arguments : (ys : List Name) (x : Name) → by_args ys Done x ≡ Var x
no_arguments [] x = refl
no_arguments (y ∷ ys) x = refl

past : (y : Name) (ys : List Name) (ts : List Tm) (i : ℕ) (x : Name) → bytes_eq y x ≡ false → by_args (y ∷ ys) (tms (drop i ts)) x ≡ by_args ys (tms (drop (i + 1) ts)) x
past y ys ts i x other = elim (cases_lt i (length ts)) [ inl lt ↦ within lt | inr le ↦ beyond le ]
  where
    within : i < length ts → by_args (y ∷ ys) (tms (drop i ts)) x ≡ by_args ys (tms (drop (i + 1) ts)) x
    within lt =
        ap (λ us. by_args (y ∷ ys) us x) (tms-drop ts i (Var x) lt)
        ∙ ap (λ b. cond b (get_or ts i (Var x)) (by_args ys (tms (drop (i + 1) ts)) x)) other

    beyond : length ts ≤ i → by_args (y ∷ ys) (tms (drop i ts)) x ≡ by_args ys (tms (drop (i + 1) ts)) x
    beyond le =
        ap (λ us. by_args (y ∷ ys) (tms us) x) (drop_all i ts le)
        ∙ sym (ap (λ us. by_args ys (tms us) x) (drop_all (i + 1) ts (omega arith)) ∙ no_arguments ys x)

-- a formal of another name is passed over
pub passed : (ys : List Name) (ts : List Tm) (i : ℕ) (x y : Name) → i < length ys → y ≡ get_or ys i y → bytes_eq y x ≡ false → by_args (drop (i + 1) ys) (tms (drop (i + 1) ts)) x ≡ by_args (drop i ys) (tms (drop i ts)) x
passed ys ts i x y lt e other =
    sym (ap (λ l. by_args l (tms (drop i ts)) x) (drop_more ys i y lt ∙ ap (λ z. z ∷ drop (i + 1) ys) (sym e))
    ∙ past y (drop (i + 1) ys) ts i x other)
