-- What substitutions make of terms with the functions of isomorphisms.
use Rattle.std.proofs.Common.{◌≡◌, ℕ, suc, Bool, true, false, cond, List, [], ◌∷◌, length, map, bytes_eq, Option, Some, None, option_map, refl, ap, ◌∙◌, subst, arith}
use Rattle.lisp_data.specs.Values.{Name}
use Rattle.terms.specs.BuiltIn.{no, if_else}
use Rattle.terms.specs.Links.{conjunction, conjunction_from}
use Rattle.terms.specs.Measures.{call1}
use Rattle.terms.specs.Primitives.{lookup}
use Rattle.terms.specs.Substitution.{by_pairs, or_var}
use Rattle.terms.specs.Terms.{Tm, Var, Quote, Call, Tms, Done, More, count, tms, substitute, substitute_all, by_args}
use Rattle.terms.specs.Worlds.{World, Each, IsIn}
use Rattle.terms.specs.declared.definition.Definition.{Definition}
use Rattle.terms.proofs.Lists.{each_to}
use Rattle.terms.proofs.Names.{same_name}
use Rattle.isodata_tool.specs.Carried.{Mapped, AreMapped, position_of, find_map, back_by, forth_by, with_back, all_forth, all_in_old, all_in_new, called_body, new_body}
use Rattle.isodata_tool.specs.Proofs.{backs, there_and_back, forth_in_new, back_in_old}

-- substitutions that give the same
module _ (s r : Name → Tm) (same : (x : Name) → s x ≡ r x) where
  mutual
    pub put_alike : (t : Tm) → substitute s t ≡ substitute r t
    put_alike (Var x) = same x
    put_alike (Quote v) = refl
    put_alike (Call f ts) = ap (Call f) (put_all_alike ts)

    pub put_all_alike : (ts : Tms) → substitute_all s ts ≡ substitute_all r ts
    put_all_alike Done = refl
    put_all_alike (More t ts) = let p = put_alike t in let q = put_all_alike ts in cc

-- one substitution after the other
module _ (s r : Name → Tm) where
  mutual
    pub put_twice : (t : Tm) → substitute s (substitute r t) ≡ substitute (λ x. substitute s (r x)) t
    put_twice (Var x) = refl
    put_twice (Quote v) = refl
    put_twice (Call f ts) = ap (Call f) (put_all_twice ts)

    pub put_all_twice : (ts : Tms) → substitute_all s (substitute_all r ts) ≡ substitute_all (λ x. substitute s (r x)) ts
    put_all_twice Done = refl
    put_all_twice (More t ts) = let p = put_twice t in let q = put_all_twice ts in cc

-- lists that are mapped to the same
pub map_alike : {A B : Type 0} (f g : A → B) (xs : List A) → Each (λ x. f x ≡ g x) xs → map f xs ≡ map g xs
map_alike f g [] h = refl
map_alike f g (x ∷ xs) h = let p = h.0 in let q = map_alike f g xs h.1 in cc

pub map_twice : {A B C : Type 0} (g : B → C) (f : A → B) (xs : List A) → map g (map f xs) ≡ map (λ x. g (f x)) xs
map_twice g f [] = refl
map_twice g f (x ∷ xs) = ap (λ r. g (f x) ∷ r) (map_twice g f xs)

module _ (s : Name → Tm) where
  put_conjunction_from : (t : Tm) (ts : List Tm) → substitute s (conjunction_from t ts) ≡ conjunction_from (substitute s t) (map (substitute s) ts)
  put_conjunction_from t [] = refl
  put_conjunction_from t (u ∷ us) = ap (λ r. if_else (substitute s t) r no) (put_conjunction_from u us)

  -- a conjunction of terms becomes that of what they become
  pub put_conjunction : (ts : List Tm) → substitute s (conjunction ts) ≡ conjunction (map (substitute s) ts)
  put_conjunction [] = refl
  put_conjunction (t ∷ ts) = put_conjunction_from t ts

  pub put_forth : (o : Option Mapped) (t : Tm) → substitute s (forth_by o t) ≡ forth_by o (substitute s t)
  put_forth None t = refl
  put_forth (Some e) t = refl

  pub put_back : (o : Option Mapped) (t : Tm) → substitute s (back_by o t) ≡ back_by o (substitute s t)
  put_back None t = refl
  put_back (Some e) t = refl

  -- arguments on the new representation
  pub put_all_forth : (ms : List Mapped) (xs : List Name) (ts : Tms) → substitute_all s (all_forth ms xs ts) ≡ all_forth ms xs (substitute_all s ts)
  put_all_forth ms [] ts = refl
  put_all_forth ms (x ∷ xs) Done = refl
  put_all_forth ms (x ∷ xs) (More t ts) = let p = put_forth (find_map ms x) t in let q = put_all_forth ms xs ts in cc

  -- the formals in the old representation become terms in it
  pub put_old : (ms : List Mapped) → map (substitute s) (all_in_old ms Var) ≡ all_in_old ms s
  put_old ms = map_twice (substitute s) (λ (e : Mapped). call1 e.iso.oldp (Var e.formal)) ms

  pub put_new : (ms : List Mapped) → map (substitute s) (all_in_new ms) ≡ map (λ (e : Mapped). call1 e.iso.newp (s e.formal)) ms
  put_new ms = map_twice (substitute s) (λ (e : Mapped). call1 e.iso.newp (Var e.formal)) ms

  -- formals become the terms
  pub put_variables : (xs : List Name) → substitute_all s (tms (map Var xs)) ≡ tms (map s xs)
  put_variables [] = refl
  put_variables (x ∷ xs) = ap (λ r. More (s x) r) (put_variables xs)

-- the mapped formal of a name has the name
pub found_formal : (ms : List Mapped) (y : Name) (e : Mapped) → find_map ms y ≡ Some e → e.formal ≡ y
found_formal [] y e h = absurd (cc)
found_formal (m ∷ ms) y e h = by_test (bytes_eq m.formal y) refl h (found_formal ms y e)
  where
    by_test : (b : Bool) → bytes_eq m.formal y ≡ b → cond b (Some m) (find_map ms y) ≡ Some e → (find_map ms y ≡ Some e → e.formal ≡ y) → e.formal ≡ y
    by_test true t h' ih =
        let same : m ≡ e = cc in
        subst (λ (k : Mapped). k.formal ≡ y) same (same_name m.formal y t)
    by_test false t h' ih = ih h'

-- what holds of each mapped formal holds of that of a name
pub found_among : (P : Mapped → Type 0) (ms : List Mapped) (y : Name) (e : Mapped) → Each P ms → find_map ms y ≡ Some e → P e
found_among P [] y e h f = absurd (cc)
found_among P (m ∷ ms) y e h f = by_test (bytes_eq m.formal y) f (found_among P ms y e h.1)
  where
    by_test : (b : Bool) → cond b (Some m) (find_map ms y) ≡ Some e → (find_map ms y ≡ Some e → P e) → P e
    by_test true f' ih =
        let same : m ≡ e = cc in
        subst P same h.0
    by_test false f' ih = ih f'

-- the pairs of `back` give the variables on the old representation
pub backs_at : (ms : List Mapped) (y : Name) → by_pairs (backs ms) y ≡ with_back ms y
backs_at [] y = refl
backs_at (m ∷ ms) y = by_test (bytes_eq m.formal y) refl (backs_at ms y)
  where
    by_test : (b : Bool) → bytes_eq m.formal y ≡ b → by_pairs (backs ms) y ≡ with_back ms y →
        or_var y (cond b (Some (call1 m.iso.back (Var m.formal))) (lookup (backs ms) y)) ≡ back_by (cond b (Some m) (find_map ms y)) (Var y)
    by_test true e ih = ap (λ z. call1 m.iso.back (Var z)) (same_name m.formal y e)
    by_test false e ih = ih

pub all_forth-count : (ms : List Mapped) (xs : List Name) (ts : Tms) → count (all_forth ms xs ts) ≡ count ts
all_forth-count ms [] ts = refl
all_forth-count ms (x ∷ xs) Done = refl
all_forth-count ms (x ∷ xs) (More t ts) = ap suc (all_forth-count ms xs ts)

-- what stands for a formal on the new representation
pub forth_at : (ms : List Mapped) (xs : List Name) (ts : Tms) (y : Name) → count ts ≡ length xs → IsIn xs y → by_args xs (all_forth ms xs ts) y ≡ forth_by (find_map ms y) (by_args xs ts y)
forth_at ms [] ts y n i = absurd i
forth_at ms (x ∷ xs) Done y n i = absurd (omega (arith, n))
forth_at ms (x ∷ xs) (More t ts) y n i = by_test (bytes_eq x y) refl i (forth_at ms xs ts y (omega (arith, n)))
  where
    by_test : (b : Bool) → bytes_eq x y ≡ b → cond b (Unit {0}) (IsIn xs y) → (IsIn xs y → by_args xs (all_forth ms xs ts) y ≡ forth_by (find_map ms y) (by_args xs ts y)) →
        cond b (forth_by (find_map ms x) t) (by_args xs (all_forth ms xs ts) y) ≡ forth_by (find_map ms y) (cond b t (by_args xs ts y))
    by_test true e i' ih = ap (λ z. forth_by (find_map ms z) t) (same_name x y e)
    by_test false e i' ih = ih i'

-- arguments change no other variable
pub outside : (xs : List Name) (ts : Tms) (y : Name) → (IsIn xs y → ⊥) → by_args xs ts y ≡ Var y
outside [] ts y h = refl
outside (x ∷ xs) Done y h = refl
outside (x ∷ xs) (More t ts) y h = by_test (bytes_eq x y) h (outside xs ts y)
  where
    by_test : (b : Bool) → (cond b (Unit {0}) (IsIn xs y) → ⊥) → ((IsIn xs y → ⊥) → by_args xs ts y ≡ Var y) → cond b t (by_args xs ts y) ≡ Var y
    by_test true h' ih = absurd (h' tt)
    by_test false h' ih = ih h'

-- formals for themselves change nothing
pub own_at : (xs : List Name) (y : Name) → by_args xs (tms (map Var xs)) y ≡ Var y
own_at [] y = refl
own_at (x ∷ xs) y = by_test (bytes_eq x y) refl (own_at xs y)
  where
    by_test : (b : Bool) → bytes_eq x y ≡ b → by_args xs (tms (map Var xs)) y ≡ Var y → cond b (Var x) (by_args xs (tms (map Var xs)) y) ≡ Var y
    by_test true e ih = ap Var (same_name x y e)
    by_test false e ih = ih

-- a name is among others or not
pub by_place : (P : Type 0) (xs : List Name) (y : Name) → (IsIn xs y → P) → ((IsIn xs y → ⊥) → P) → P
by_place P [] y here away = away (λ i. i)
by_place P (x ∷ xs) y here away = by_test (bytes_eq x y) here away (by_place P xs y)
  where
    by_test : (b : Bool) → (cond b (Unit {0}) (IsIn xs y) → P) → ((cond b (Unit {0}) (IsIn xs y) → ⊥) → P) → ((IsIn xs y → P) → ((IsIn xs y → ⊥) → P) → P) → P
    by_test true h a ih = h tt
    by_test false h a ih = ih h a

-- what has a position is in the list
pub has_position : (xs : List Name) (y : Name) (k : ℕ) → position_of xs y ≡ Some k → IsIn xs y
has_position [] y k e = absurd (cc)
has_position (x ∷ xs) y k e = by_test (bytes_eq x y) e (has_position xs y)
  where
    after : (o : Option ℕ) → position_of xs y ≡ o → option_map suc o ≡ Some k → ((j : ℕ) → position_of xs y ≡ Some j → IsIn xs y) → IsIn xs y
    after None q e' ih = absurd (cc)
    after (Some j) q e' ih = ih j q

    by_test : (b : Bool) → cond b (Some 0) (option_map suc (position_of xs y)) ≡ Some k → ((j : ℕ) → position_of xs y ≡ Some j → IsIn xs y) → cond b (Unit {0}) (IsIn xs y)
    by_test true e' ih = tt
    by_test false e' ih = after (position_of xs y) refl e' ih

pub length-variables : (xs : List Name) → count (tms (map Var xs)) ≡ length xs
length-variables [] = refl
length-variables (x ∷ xs) = ap suc (length-variables xs)

module _ (W : World) (xs : List Name) (ms : List Mapped) (are : AreMapped W xs ms) where
  -- the mapped formal of a name is a formal
  pub found_inside : (y : Name) (e : Mapped) → find_map ms y ≡ Some e → IsIn xs y
  found_inside y e f =
      subst (IsIn xs) (found_formal ms y e f)
      (has_position xs e.formal e.position (found_among (λ (k : Mapped). position_of xs k.formal ≡ Some k.position) ms y e are.placed f))

  -- what stands for a variable where the formals are on the new representation
  pub forth_variable : (y : Name) → by_args xs (all_forth ms xs (tms (map Var xs))) y ≡ forth_by (find_map ms y) (Var y)
  forth_variable y =
      by_place (by_args xs (all_forth ms xs (tms (map Var xs))) y ≡ forth_by (find_map ms y) (Var y)) xs y
      (λ i. forth_at ms xs (tms (map Var xs)) y (length-variables xs) i ∙ ap (forth_by (find_map ms y)) (own_at xs y))
      (λ a. outside xs (all_forth ms xs (tms (map Var xs))) y a ∙ unmapped a (find_map ms y) refl)
    where
      unmapped : (IsIn xs y → ⊥) → (o : Option Mapped) → find_map ms y ≡ o → Var y ≡ forth_by o (Var y)
      unmapped a None q = refl
      unmapped a (Some e) q = absurd (a (found_inside y e q))

  -- the formals in the new representation become those that go there
  pub put_forth_in_new : map (substitute (by_args xs (all_forth ms xs (tms (map Var xs))))) (all_in_new ms) ≡ forth_in_new ms
  put_forth_in_new =
      let s : Name → Tm = by_args xs (all_forth ms xs (tms (map Var xs))) in
      put_new s ms
      ∙ map_alike (λ (e : Mapped). call1 e.iso.newp (s e.formal)) (λ (e : Mapped). call1 e.iso.newp (call1 e.iso.forth (Var e.formal))) ms
      (each_to (λ (e : Mapped). find_map ms e.formal ≡ Some e) (λ (e : Mapped). call1 e.iso.newp (s e.formal) ≡ call1 e.iso.newp (call1 e.iso.forth (Var e.formal)))
      (λ e f. ap (call1 e.iso.newp) (forth_variable e.formal ∙ ap (λ o. forth_by o (Var e.formal)) f)) ms are.own)

  -- the formals in the old representation become those that come back there
  pub put_back_in_old : map (substitute (by_pairs (backs ms))) (all_in_old ms Var) ≡ back_in_old ms
  put_back_in_old =
      let s : Name → Tm = by_pairs (backs ms) in
      put_old s ms
      ∙ map_alike (λ (e : Mapped). call1 e.iso.oldp (s e.formal)) (λ (e : Mapped). call1 e.iso.oldp (call1 e.iso.back (Var e.formal))) ms
      (each_to (λ (e : Mapped). find_map ms e.formal ≡ Some e) (λ (e : Mapped). call1 e.iso.oldp (s e.formal) ≡ call1 e.iso.oldp (call1 e.iso.back (Var e.formal)))
      (λ e f. ap (call1 e.iso.oldp) (backs_at ms e.formal ∙ ap (λ o. back_by o (Var e.formal)) f)) ms are.own)

-- where the formals are on the new representation the new body is the old one with the new function's calls, under round trips
pub opened_body : (W : World) (d : Definition) (g : Name) (ms : List Mapped) → AreMapped W d.formals ms →
    substitute (by_args d.formals (all_forth ms d.formals (tms (map Var d.formals)))) (new_body d g ms) ≡ substitute (there_and_back ms Var) (called_body d g ms)
opened_body W d g ms are =
    let s : Name → Tm = by_args d.formals (all_forth ms d.formals (tms (map Var d.formals))) in
    put_twice s (with_back ms) (called_body d g ms)
    ∙ put_alike (λ y. substitute s (with_back ms y)) (there_and_back ms Var)
    (λ y. put_back s (find_map ms y) (Var y) ∙ ap (back_by (find_map ms y)) (forth_variable W d.formals ms are y)) (called_body d g ms)
