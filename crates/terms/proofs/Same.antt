-- Terms are told apart by their test.
use Rattle.std.proofs.Common.{◌≡◌, ◌≢◌, ◌&&◌, Bool, true, false, bytes_eq, List, [], ◌∷◌, length, refl, ap, ◌∙◌, arith}
use Rattle.std.proofs.lemmas.Bool.{and_parts}
use Rattle.std.proofs.lemmas.List.{drop_all}
use Rattle.terms.specs.Terms.{Tm, Var, Quote, Call, Tms, Done, More, tms, same_tm, same_tms}
use Rattle.terms.proofs.Args.{args}
use Rattle.terms.proofs.Names.{same_name, name_self}
use Rattle.terms.proofs.Meaning.{same_value, value_self}

mutual
  pub same_term : (a b : Tm) → same_tm a b ≡ true → a ≡ b
  same_term (Var x) (Var y) e = ap Var (same_name x y e)
  same_term (Quote v) (Quote w) e = ap Quote (same_value v w e)
  same_term (Call f ts) (Call g us) e =
      let h = and_parts (bytes_eq f g) (same_tms ts us) e in
      let p = same_name f g h.0 in let q = same_terms ts us h.1 in cc
  same_term (Var x) (Quote v) e = cc
  same_term (Var x) (Call g us) e = cc
  same_term (Quote v) (Var x) e = cc
  same_term (Quote v) (Call g us) e = cc
  same_term (Call f ts) (Var x) e = cc
  same_term (Call f ts) (Quote v) e = cc

  pub same_terms : (ts us : Tms) → same_tms ts us ≡ true → ts ≡ us
  same_terms Done Done e = refl
  same_terms (More t ts) (More u us) e =
      let h = and_parts (same_tm t u) (same_tms ts us) e in
      let p = same_term t u h.0 in let q = same_terms ts us h.1 in cc
  same_terms Done (More u us) e = cc
  same_terms (More t ts) Done e = cc

mutual
  pub term_self : (a : Tm) → same_tm a a ≡ true
  term_self (Var x) = name_self x
  term_self (Quote v) = value_self v
  term_self (Call f ts) = ap (λ b. b && same_tms ts ts) (name_self f) ∙ terms_self ts

  pub terms_self : (ts : Tms) → same_tms ts ts ≡ true
  terms_self Done = refl
  terms_self (More t ts) = ap (λ b. b && same_tms ts ts) (term_self t) ∙ terms_self ts

and_false : (a b : Bool) → b ≡ false → (a && b) ≡ false
and_false true b e = e
and_false false b e = refl

-- as many arguments are needed
pub same_tms-lengths : (xs ys : List Tm) → length xs ≢ length ys → same_tms (tms xs) (tms ys) ≡ false
same_tms-lengths [] [] h = absurd (h refl)
same_tms-lengths [] (y ∷ ys) h = refl
same_tms-lengths (x ∷ xs) [] h = refl
same_tms-lengths (x ∷ xs) (y ∷ ys) h = and_false (same_tm x y) _ (same_tms-lengths xs ys (λ e. h (omega arith)))

pub ruleset same = (args, same_tms-lengths, drop_all)
