-- What holds of the variables and calls of terms holds of those of the new function's terms.
use Rattle.std.proofs.Common.{◌≡◌, ℕ, suc, Bool, true, false, cond, List, [], ◌∷◌, map, length, bytes_eq, codes, Option, Some, None, IfSome, refl, sym, ap, subst}
use Rattle.lisp_data.specs.Values.{Name}
use Rattle.terms.specs.Links.{conjunction_from, conjunction}
use Rattle.terms.specs.Terms.{Tm, Var, Quote, Call, Tms, Done, More, tms, count, Over, OverAll}
use Rattle.terms.specs.Worlds.{Each, IsIn}
use Rattle.terms.proofs.Extend.{over_all_map}
use Rattle.terms.proofs.Names.{same_name, name_self}
use Rattle.isodata_tool.specs.Carried.{Mapped, find_map, back_by, forth_by, with_back, all_forth, all_in_old, all_in_new, with_new_calls, all_with_new_calls}

-- what holds of each mapped formal holds of one that is found
pub of_found : (P : Mapped → Type 0) (ms : List Mapped) → Each P ms → (x : Name) → IfSome (find_map ms x) P
of_found P [] h x = tt
of_found P (e ∷ es) h x = by_test (bytes_eq e.formal x) (of_found P es h.1 x)
  where
    by_test : (b : Bool) → IfSome (find_map es x) P → IfSome (cond b (Some e) (find_map es x)) P
    by_test true ih = h.0
    by_test false ih = ih

-- there are as many arguments on the new representation, and with the new function's calls
pub count_forth : (ms : List Mapped) (xs : List Name) (ts : Tms) → count (all_forth ms xs ts) ≡ count ts
count_forth ms [] ts = refl
count_forth ms (x ∷ xs) Done = refl
count_forth ms (x ∷ xs) (More t ts) = ap suc (count_forth ms xs ts)

pub count_called : (f g : Name) (ms : List Mapped) (xs : List Name) (ts : Tms) → count (all_with_new_calls f g ms xs ts) ≡ count ts
count_called f g ms xs Done = refl
count_called f g ms xs (More t ts) = ap suc (count_called f g ms xs ts)

-- what stands for each of some names, as arguments
pub count_names : (s : Name → Tm) (xs : List Name) → count (tms (map s xs)) ≡ length xs
count_names s [] = refl
count_names s (x ∷ xs) = ap suc (count_names s xs)

pub over_names : (P : Name → Type 0) (Q : Name → ℕ → Type 0) (s : Name → Tm) (xs : List Name) → ((x : Name) → IsIn xs x → Over P Q (s x)) → OverAll P Q (tms (map s xs))
over_names P Q s [] h = tt
over_names P Q s (x ∷ xs) h =
    (h x (subst (λ b. cond b (Unit {0}) (IsIn xs x)) (sym (name_self x)) tt), over_names P Q s xs (λ z i. h z (later (bytes_eq x z) z i)))
  where
    later : (b : Bool) (z : Name) → IsIn xs z → cond b (Unit {0}) (IsIn xs z)
    later true z i = tt
    later false z i = i

-- where the isomorphisms' functions satisfy the test of calls
module _ (P : Name → Type 0) (Q : Name → ℕ → Type 0) where
  pub over_back : (o : Option Mapped) → IfSome o (λ e. Q e.iso.back 1) → (t : Tm) → Over P Q t → Over P Q (back_by o t)
  over_back None h t k = k
  over_back (Some e) h t k = (h, (k, tt))

  pub over_forth : (o : Option Mapped) → IfSome o (λ e. Q e.iso.forth 1) → (t : Tm) → Over P Q t → Over P Q (forth_by o t)
  over_forth None h t k = k
  over_forth (Some e) h t k = (h, (k, tt))

  module _ (ms : List Mapped) where
    pub over_all_forth : Each (λ e. Q e.iso.forth 1) ms → (xs : List Name) (ts : Tms) → OverAll P Q ts → OverAll P Q (all_forth ms xs ts)
    over_all_forth h [] ts k = k
    over_all_forth h (x ∷ xs) Done k = tt
    over_all_forth h (x ∷ xs) (More t ts) k =
        (over_forth (find_map ms x) (of_found (λ e. Q e.iso.forth 1) ms h x) t k.0, over_all_forth h xs ts k.1)

    pub over_with_back : Each (λ e. Q e.iso.back 1) ms → (x : Name) → P x → Over P Q (with_back ms x)
    over_with_back h x i = over_back (find_map ms x) (of_found (λ e. Q e.iso.back 1) ms h x) (Var x) i

  -- the predicates of the mapped formals
  pub over_in_old : (s : Name → Tm) (ms : List Mapped) → Each (λ e. Q e.iso.oldp 1) ms → Each (λ e. Over P Q (s e.formal)) ms → Each (Over P Q) (all_in_old ms s)
  over_in_old s [] h k = tt
  over_in_old s (e ∷ es) h k = ((h.0, (k.0, tt)), over_in_old s es h.1 k.1)

  pub over_in_new : (ms : List Mapped) → Each (λ e. Q e.iso.newp 1) ms → Each (λ e. P e.formal) ms → Each (Over P Q) (all_in_new ms)
  over_in_new [] h k = tt
  over_in_new (e ∷ es) h k = ((h.0, (k.0, tt)), over_in_new es h.1 k.1)

  -- a conjunction
  module _ (if_kept : Q (codes "IF") 3) where
    over_from : (t : Tm) (ts : List Tm) → Over P Q t → Each (Over P Q) ts → Over P Q (conjunction_from t ts)
    over_from t [] h k = h
    over_from t (u ∷ us) h k = (if_kept, (h, (over_from u us k.0 k.1, (tt, tt))))

    pub over_conjunction : (ts : List Tm) → Each (Over P Q) ts → Over P Q (conjunction ts)
    over_conjunction [] h = tt
    over_conjunction (t ∷ ts) h = over_from t ts h.0 h.1

-- calls of g for those of f, where g satisfies the second test with as many arguments as f the first
module _ (P : Name → Type 0) (Q Q' : Name → ℕ → Type 0) (later : (h : Name) (k : ℕ) → Q h k → Q' h k) (f g : Name) (own : (k : ℕ) → Q f k → Q' g k) (ms : List Mapped) (forths : Each (λ e. Q' e.iso.forth 1) ms) (xs : List Name) where
  mutual
    pub over_called : (t : Tm) → Over P Q t → Over P Q' (with_new_calls f g ms xs t)
    over_called (Var x) o = o
    over_called (Quote v) o = tt
    over_called (Call h ts) o = by_test (bytes_eq f h) refl (over_all_called ts o.1)
      where
        by_test : (b : Bool) → bytes_eq f h ≡ b → OverAll P Q' (all_with_new_calls f g ms xs ts) → Over P Q' (cond b (Call g (all_forth ms xs ts)) (Call h (all_with_new_calls f g ms xs ts)))
        by_test true e ih =
            (subst (Q' g) (sym (count_forth ms xs ts)) (own (count ts) (subst (λ x. Q x (count ts)) (sym (same_name f h e)) o.0)), over_all_forth P Q' ms forths xs ts (over_all_map P P Q Q' (λ x p. p) later ts o.1))
        by_test false e ih = (subst (Q' h) (sym (count_called f g ms xs ts)) (later h (count ts) o.0), ih)

    pub over_all_called : (ts : Tms) → OverAll P Q ts → OverAll P Q' (all_with_new_calls f g ms xs ts)
    over_all_called Done o = tt
    over_all_called (More t ts) o = (over_called t o.0, over_all_called ts o.1)
