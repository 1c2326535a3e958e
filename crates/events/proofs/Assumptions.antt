-- The universals of theorems.
use Rattle.std.proofs.Common.{◌≡◌, Bool, true, false, ◌++◌, cond, bytes_eq, List, [], ◌∷◌, Option, Some, None, Ok, Err, if◌then◌else◌, refl, ap, sym, ◌∙◌, subst}
use Rattle.std.specs.List.{list_any}
use Rattle.lisp_data.specs.Values.{Name}
use Rattle.lisp_data.specs.Datum.{Datum}
use Rattle.lisp_data.specs.declared.code.Code.{Code}
use Rattle.lisp_data.specs.declared.detail.Detail.{Detail}
use Rattle.terms.specs.Terms.{Tm, same_tm}
use Rattle.terms.specs.Joins.{with_term, join, without_repeats}
use Rattle.terms.specs.Worlds.{World, Each, Fits, IsIn, arity}
use Rattle.terms.specs.Sound.{Sound}
use Rattle.terms.specs.Formed.{FitsOver}
use Rattle.terms.specs.declared.entries.Specification.{Specification}
use Rattle.term_forms.specs.Translation.{Outcome, and_rest, map_outcome}
use Rattle.worlds.specs.Lookups.{find_spec}
use Rattle.proof_texts.specs.Items.{symbol_of}
use Rattle.events.specs.Defthm.{matrix_by, matrix_named, matrices, universals_of}
use Rattle.terms.proofs.Extend.{over_map}
use Rattle.events.proofs.Inversions.{then_ok, map_ok}

each_end : (P : Tm → Type 0) (us : List Tm) (t : Tm) → Each P us → P t → Each P (us ++ t ∷ [])
each_end P [] t h p = (p, tt)
each_end P (u ∷ us) t h p = (h.0, each_end P us t h.1 p)

each_with : (P : Tm → Type 0) (us : List Tm) (t : Tm) → Each P us → P t → Each P (with_term us t)
each_with P us t h p = by_test (list_any (same_tm t) us)
  where
    by_test : (b : Bool) → Each P (if b then us else us ++ t ∷ [])
    by_test true = h
    by_test false = each_end P us t h p

each_joined : (P : Tm → Type 0) (us ts : List Tm) → Each P us → Each P ts → Each P (join us ts)
each_joined P us [] h k = h
each_joined P us (t ∷ ts) h k = each_joined P (with_term us t) ts (each_with P us t h k.0) k.1

-- the matrix of the first assumed specification, after those before it
pub matrices-more : (W : World) (us : List Tm) (t : Tm) (form : Datum) (forms : List Datum) → matrix_named W (symbol_of form) ≡ Ok t →
    map_outcome (join (with_term us t)) (matrices W forms) ≡ map_outcome (join us) (matrices W (form ∷ forms))
matrices-more W us t form forms e = by_rest (matrices W forms) ∙ sym (ap (λ o. map_outcome (join us) (and_rest o (matrices W forms))) e)
  where
    by_rest : (o : Outcome (List Tm)) → map_outcome (join (with_term us t)) o ≡ map_outcome (join us) (map_outcome (λ ts. t ∷ ts) o)
    by_rest (Err why) = refl
    by_rest (Ok ts) = refl

pub matrices-none : (W : World) (us : List Tm) (form : Datum) (forms : List Datum) (why : Code × Detail) → matrix_named W (symbol_of form) ≡ Err why →
    map_outcome (join us) (matrices W (form ∷ forms)) ≡ Err why
matrices-none W us form forms why e = ap (λ o. map_outcome (join us) (and_rest o (matrices W forms))) e

pub ruleset assumptions = (matrices-more, matrices-none)

-- what is so of each specification is so of the one that is found
found : (P : Specification → Type 0) (ss : List Specification) (n : Name) (s : Specification) → Each P ss → find_spec ss n ≡ Some s → P s
found P [] n s h e = absurd (cc)
found P (z ∷ ss) n s h e = by_test (bytes_eq z.name n) e (found P ss n s h.1)
  where
    by_test : (b : Bool) → cond b (Some z) (find_spec ss n) ≡ Some s → (find_spec ss n ≡ Some s → P s) → P s
    by_test true q ih = let same : z ≡ s = cc in subst P same h.0
    by_test false q ih = ih q

module _ (W : World) (sound : Sound W) where
  matrix_fits : (n : Option Name) (t : Tm) → matrix_named W n ≡ Ok t → Fits W.functions t
  matrix_fits None t e = absurd (cc)
  matrix_fits (Some n) t e = by_found (find_spec W.specifications n) refl e
    where
      by_found : (o : Option Specification) → find_spec W.specifications n ≡ o → matrix_by n o ≡ Ok t → Fits W.functions t
      by_found None is q = absurd (cc)
      by_found (Some s) is q =
          let same : s.matrix ≡ t = cc in
          subst (Fits W.functions) same (over_map (IsIn s.variables) (λ x. Unit {0}) (λ f k. arity W.functions f ≡ Some k) (λ f k. arity W.functions f ≡ Some k) (λ x q'. tt) (λ f k q'. q') s.matrix
          (found (λ z. FitsOver W.functions z.variables z.matrix) W.specifications n s sound.specifications is))

  matrices_fit : (assumed : List Datum) (ts : List Tm) → matrices W assumed ≡ Ok ts → Each (Fits W.functions) ts
  matrices_fit [] ts e = let same : [] ≡ ts = cc in subst (Each (Fits W.functions)) same tt
  matrices_fit (form ∷ forms) ts e =
      let p = then_ok (matrix_named W (symbol_of form)) (λ x. map_outcome (λ xs. x ∷ xs) (matrices W forms)) ts e in
      let q = map_ok (matrices W forms) (λ xs. p.0 ∷ xs) ts p.2 in
      subst (Each (Fits W.functions)) q.2 (matrix_fits (symbol_of form) p.0 p.1, matrices_fit forms q.0 q.1)

  -- the universals of a theorem are well formed
  pub universals_fit : (assumed : List Datum) (us : List Tm) → universals_of W assumed ≡ Ok us → Each (Fits W.functions) us
  universals_fit assumed us e =
      let m = map_ok (matrices W assumed) without_repeats us e in
      subst (Each (Fits W.functions)) m.2 (each_joined (Fits W.functions) [] m.0 tt (matrices_fit assumed m.0 m.1))
