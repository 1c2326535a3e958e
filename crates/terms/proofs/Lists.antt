-- What holds of each item of lists that are put together.
use Rattle.std.proofs.Common.{◌≡◌, Bool, true, false, ◌||◌, List, [], ◌∷◌, ◌++◌, map, if◌then◌else◌, refl, sym, subst}
use Rattle.std.specs.List.{list_any}
use Rattle.terms.specs.Terms.{Tm, same_tm}
use Rattle.terms.specs.Worlds.{Each}
use Rattle.terms.specs.Joins.{with_term, join}
use Rattle.terms.proofs.Same.{same_term}

pub each_parts : {A : Type 0} (P : A → Type 0) (xs ys : List A) → Each P (xs ++ ys) → Each P xs × Each P ys
each_parts P [] ys h = (tt, h)
each_parts P (x ∷ xs) ys h = let r = each_parts P xs ys h.1 in ((h.0, r.0), r.1)

pub each_join : {A : Type 0} (P : A → Type 0) (xs ys : List A) → Each P xs → Each P ys → Each P (xs ++ ys)
each_join P [] ys h g = g
each_join P (x ∷ xs) ys h g = (h.0, each_join P xs ys h.1 g)

pub each_of_map : {A B : Type 0} (P : B → Type 0) (f : A → B) (xs : List A) → Each P (map f xs) → Each (λ x. P (f x)) xs
each_of_map P f [] h = tt
each_of_map P f (x ∷ xs) h = (h.0, each_of_map P f xs h.1)

pub each_to : {A : Type 0} (P Q : A → Type 0) → ((x : A) → P x → Q x) → (xs : List A) → Each P xs → Each Q xs
each_to P Q f [] h = tt
each_to P Q f (x ∷ xs) h = (f x h.0, each_to P Q f xs h.1)

-- what holds of each term of a join holds of each term of the two lists, and the other way round
module _ (P : Tm → Type 0) where
  in_list : (t : Tm) (us : List Tm) → list_any (same_tm t) us ≡ true → Each P us → P t
  in_list t [] e h = absurd (cc)
  in_list t (u ∷ us) e h = by_test (same_tm t u) refl e (λ f. in_list t us f h.1)
    where
      by_test : (b : Bool) → same_tm t u ≡ b → (b || list_any (same_tm t) us) ≡ true → (list_any (same_tm t) us ≡ true → P t) → P t
      by_test true s e' ih = subst P (sym (same_term t u s)) h.0
      by_test false s e' ih = ih e'

  with_term_parts : (us : List Tm) (t : Tm) → Each P (with_term us t) → Each P us × P t
  with_term_parts us t h = by_test (list_any (same_tm t) us) refl h
    where
      by_test : (b : Bool) → list_any (same_tm t) us ≡ b → Each P (if b then us else (us ++ t ∷ [])) → Each P us × P t
      by_test true e h' = (h', in_list t us e h')
      by_test false e h' = let r = each_parts P us (t ∷ []) h' in (r.0, r.1.0)

  with_term_to : (us : List Tm) (t : Tm) → Each P us → P t → Each P (with_term us t)
  with_term_to us t h p = by_test (list_any (same_tm t) us)
    where
      by_test : (b : Bool) → Each P (if b then us else (us ++ t ∷ []))
      by_test true = h
      by_test false = each_join P us (t ∷ []) h (p, tt)

  pub join_parts : (us ts : List Tm) → Each P (join us ts) → Each P us × Each P ts
  join_parts us [] h = (h, tt)
  join_parts us (t ∷ ts) h =
      let r = join_parts (with_term us t) ts h in
      let q = with_term_parts us t r.0 in
      (q.0, (q.1, r.1))

  pub join_to : (us ts : List Tm) → Each P us → Each P ts → Each P (join us ts)
  join_to us [] h g = h
  join_to us (t ∷ ts) h g = join_to (with_term us t) ts (with_term_to us t h g.0) g.1
