-- What a hash of an atom reads: every part of it, in order.
use Rattle.std.specs.Prelude.{◌≡◌, Bool, true, false, ◌++◌}
use Rattle.std.specs.Cmp.{IsEquivalence}
use Rattle.std.specs.Hash as fed
use Rattle.std.specs.Hash.{HashWrites}
use Rattle.std.proofs.Common.{refl, sym, ap, ◌∙◌}
use Rattle.lisp_data.specs.Values.{Val, Int, Sym, Pair}
use Rattle.terms.specs.Terms.{Tm, Var, Quote, Call, Tms, Done, More, same_tm}
use Rattle.terms.proofs.Same.{same_term, term_self}

abbrev pub of_value : Val → HashWrites
of_value (Int n) = fed.u8 0 ++ fed.i128 n
of_value (Sym s) = fed.u8 1 ++ fed.str s
of_value (Pair a b) = fed.u8 2 ++ of_value a ++ of_value b

abbrev mutual
  pub of_term : Tm → HashWrites
  of_term (Var x) = fed.u8 0 ++ fed.str x
  of_term (Quote v) = fed.u8 1 ++ of_value v
  of_term (Call f ts) = fed.u8 2 ++ fed.str f ++ of_terms ts

  pub of_terms : Tms → HashWrites
  of_terms Done = fed.u8 3
  of_terms (More t ts) = of_term t ++ of_terms ts

both_ways : (s t : Bool) → (s ≡ true → t ≡ true) → (t ≡ true → s ≡ true) → s ≡ t
both_ways true t f g = sym (f refl)
both_ways false true f g = g refl
both_ways false false f g = refl

turned : (a b : Tm) → same_tm a b ≡ true → same_tm b a ≡ true
turned a b e = ap (λ x. same_tm b x) (same_term a b e) ∙ term_self b

pub term_laws : IsEquivalence same_tm
term_laws = record {
  refl = term_self;
  symm = λ a b. both_ways _ _ (turned a b) (turned b a);
  congr = λ a b c e. ap (λ x. same_tm x c) (same_term a b e);
}

-- atoms that are the same are read alike
pub terms_alike : (a b : Tm) → same_tm a b ≡ true → of_term a ≡ of_term b
terms_alike a b e = ap of_term (same_term a b e)
