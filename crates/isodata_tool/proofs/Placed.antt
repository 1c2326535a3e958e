-- Positions of formals: what links say by positions is what is said by names.
use Rattle.std.proofs.Common.{◌≡◌, ℕ, suc, ◌+◌, Bool, true, false, cond, nat_eq, List, [], ◌∷◌, map, bytes_eq, Option, Some, None, option_map, refl, sym, ap, ap₂, ◌∙◌, subst, arith}
use Rattle.std.proofs.lemmas.Bool.{false_from_ne_true}
use Rattle.std.proofs.lemmas.Bool.Decides.{nat_tests}
use Rattle.lisp_data.specs.Values.{Name}
use Rattle.terms.specs.Links.{formal_at, iso_at, mapped, all_mapped}
use Rattle.terms.specs.Links as link
use Rattle.terms.specs.Measures.{call1}
use Rattle.terms.specs.Terms.{Tm, Var, More, tms}
use Rattle.terms.specs.Worlds.{Each, IsIn, Distinct}
use Rattle.terms.specs.declared.entries.IsoUse.{IsoUse}
use Rattle.terms.proofs.Names.{same_name, name_self}
use Rattle.isodata_tool.specs.Carried.{Mapped, position_of, find_map, forth_by, all_forth, all_in_old, uses_of}

-- what has a position is among the names, and stands there
pub placed_in : (xs : List Name) (y : Name) (k : ℕ) → position_of xs y ≡ Some k → IsIn xs y
placed_in [] y k e = absurd (cc)
placed_in (x ∷ xs) y k e = by_test (bytes_eq x y) e (by_option (position_of xs y) refl (placed_in xs y))
  where
    by_option : (o : Option ℕ) → position_of xs y ≡ o → ((j : ℕ) → position_of xs y ≡ Some j → IsIn xs y) → option_map suc o ≡ Some k → IsIn xs y
    by_option None p ih e' = absurd (cc)
    by_option (Some j) p ih e' = ih j p

    by_test : (b : Bool) → cond b (Some 0) (option_map suc (position_of xs y)) ≡ Some k → (option_map suc (position_of xs y) ≡ Some k → IsIn xs y) → cond b (Unit {0}) (IsIn xs y)
    by_test true e' ih = tt
    by_test false e' ih = ih e'

pub stands_there : (xs : List Name) (y : Name) (k : ℕ) → position_of xs y ≡ Some k → formal_at xs k ≡ y
stands_there [] y k e = absurd (cc)
stands_there (x ∷ xs) y k e = by_test (bytes_eq x y) refl e (by_option (position_of xs y) refl (stands_there xs y))
  where
    by_option : (o : Option ℕ) → position_of xs y ≡ o → ((j : ℕ) → position_of xs y ≡ Some j → formal_at xs j ≡ y) → option_map suc o ≡ Some k → formal_at (x ∷ xs) k ≡ y
    by_option None p ih e' = absurd (cc)
    by_option (Some j) p ih e' = let same : suc j ≡ k = cc in subst (λ n. formal_at (x ∷ xs) n ≡ y) same (ih j p)

    by_test : (b : Bool) → bytes_eq x y ≡ b → cond b (Some 0) (option_map suc (position_of xs y)) ≡ Some k → (option_map suc (position_of xs y) ≡ Some k → formal_at (x ∷ xs) k ≡ y) → formal_at (x ∷ xs) k ≡ y
    by_test true q e' ih = let same : 0 ≡ k = cc in subst (λ n. formal_at (x ∷ xs) n ≡ y) same (same_name x y q)
    by_test false q e' ih = ih e'

-- the first predicates at the formals
pub named_in_old : (xs : List Name) (ms : List Mapped) → Each (λ e. position_of xs e.formal ≡ Some e.position) ms → link.all_in_old (uses_of ms) xs ≡ all_in_old ms Var
named_in_old xs [] h = refl
named_in_old xs (e ∷ es) h = ap₂ (λ x ts. call1 e.iso.oldp (Var x) ∷ ts) (stands_there xs e.formal e.position h.0) (named_in_old xs es h.1)

-- the names stand at the positions from k on
abbrev pub Stand : (Name → Option ℕ) → ℕ → List Name → Type 0
Stand at k [] = Unit {0}
Stand at k (x ∷ xs) = (at x ≡ Some k) × Stand at (suc k) xs

shifted : (k : ℕ) (o : Option ℕ) → option_map (λ n. k + n) (option_map suc o) ≡ option_map (λ n. suc k + n) o
shifted k None = refl
shifted k (Some j) = ap Some (omega arith)

none_added : (o : Option ℕ) → o ≡ option_map (λ n. 0 + n) o
none_added None = refl
none_added (Some j) = ap Some (omega arith)

stand_from : (at : Name → Option ℕ) (k : ℕ) (xs : List Name) → Distinct xs → ((x : Name) → IsIn xs x → at x ≡ option_map (λ n. k + n) (position_of xs x)) → Stand at k xs
stand_from at k [] d h = tt
stand_from at k (y ∷ ys) d h = (
  h y (subst (λ b. cond b (Unit {0}) (IsIn ys y)) (sym (name_self y)) tt)
      ∙ ap (λ b. option_map (λ n. k + n) (cond b (Some 0) (option_map suc (position_of ys y)))) (name_self y)
      ∙ ap Some (omega arith),
  stand_from at (suc k) ys d.1 (λ x i. rest x i (bytes_eq y x) refl),
)
  where
    rest : (x : Name) → IsIn ys x → (b : Bool) → bytes_eq y x ≡ b → at x ≡ option_map (λ n. suc k + n) (position_of ys x)
    rest x i true e = absurd (d.0 (subst (IsIn ys) (sym (same_name y x e)) i))
    rest x i false e =
        h x (subst (λ b. cond b (Unit {0}) (IsIn ys x)) (sym e) i)
        ∙ ap (λ b. option_map (λ n. k + n) (cond b (Some 0) (option_map suc (position_of ys x)))) e
        ∙ shifted k (position_of ys x)

pub stand : (xs : List Name) → Distinct xs → Stand (position_of xs) 0 xs
stand xs d = stand_from (position_of xs) 0 xs d (λ x i. none_added (position_of xs x))

-- one mapped formal of another position has another name
same_test : (xs : List Name) (y x : Name) (j k : ℕ) → position_of xs y ≡ Some j → position_of xs x ≡ Some k → nat_eq j k ≡ bytes_eq y x
same_test xs y x j k p q = by_test (bytes_eq y x) refl
  where
    at_once : j ≡ k → y ≡ x
    at_once e = sym (stands_there xs y j p) ∙ ap (formal_at xs) e ∙ stands_there xs x k q

    apart : bytes_eq y x ≡ false → j ≡ k → ⊥
    apart e same = let t : bytes_eq y x ≡ true = ap (λ z. bytes_eq z x) (at_once same) ∙ name_self x in cc

    by_test : (b : Bool) → bytes_eq y x ≡ b → nat_eq j k ≡ b
    by_test true e =
        let o : position_of xs x ≡ Some j = ap (position_of xs) (sym (same_name y x e)) ∙ p in
        let same : j ≡ k = cc in
        grind (arith, nat_tests)
    by_test false e = false_from_ne_true (nat_eq j k) (λ t. let same : j ≡ k = grind (arith, nat_tests) in apart e same)

-- the isomorphism of a position is that of the name there
abbrev use_of : Mapped → IsoUse
use_of e = record { position = e.position; oldp = e.iso.oldp; forth = e.iso.forth }

iso_there : (xs : List Name) (ms : List Mapped) → Each (λ e. position_of xs e.formal ≡ Some e.position) ms → (x : Name) (k : ℕ) → position_of xs x ≡ Some k → iso_at (uses_of ms) k ≡ option_map use_of (find_map ms x)
iso_there xs [] h x k p = refl
iso_there xs (e ∷ es) h x k p =
    ap (λ b. cond b (Some (use_of e)) (iso_at (uses_of es) k)) (same_test xs e.formal x e.position k h.0 p)
    ∙ by_test (bytes_eq e.formal x) (iso_there xs es h.1 x k p)
  where
    by_test : (b : Bool) → iso_at (uses_of es) k ≡ option_map use_of (find_map es x) → cond b (Some (use_of e)) (iso_at (uses_of es) k) ≡ option_map use_of (cond b (Some e) (find_map es x))
    by_test true ih = refl
    by_test false ih = ih

mapped_is : (o : Option Mapped) (t : Tm) → mapped (option_map use_of o) t ≡ forth_by o t
mapped_is None t = refl
mapped_is (Some e) t = refl

module _ (xs : List Name) (ms : List Mapped) (placed : Each (λ e. position_of xs e.formal ≡ Some e.position) ms) where
  forth_from : (k : ℕ) (ys : List Name) → Stand (position_of xs) k ys → tms (all_mapped (uses_of ms) k (map Var ys)) ≡ all_forth ms ys (tms (map Var ys))
  forth_from k [] h = refl
  forth_from k (y ∷ ys) h =
      ap₂ More
      (ap (λ o. mapped o (Var y)) (iso_there xs ms placed y k h.0) ∙ mapped_is (find_map ms y) (Var y))
      (forth_from (suc k) ys h.1)

  -- the formals on the new representation
  pub named_forth : Distinct xs → tms (all_mapped (uses_of ms) 0 (map Var xs)) ≡ all_forth ms xs (tms (map Var xs))
  named_forth d = forth_from 0 xs (stand xs d)
