-- Variables that are replaced one after the other.
use Rattle.std.proofs.Common.{◌≡◌, ◌<◌, ◌≤◌, ◌+◌, ℕ, zero, suc, [], ◌∷◌, length, get_or, take, drop, Ok, Err, refl, ap, sym, ◌∙◌, arith}
use Rattle.lisp_data.specs.Values.{Name}
use Rattle.term_forms.specs.declared.translation.TermError.{TermError}
use Rattle.term_forms.specs.declared.translation.TermError.TheVariants.{Refused, Memory}
use Rattle.terms.specs.Terms.{Tm, Var, Quote, Call, Tms, Done, More, nodes, nodes_in, substitute, substitute_all}
use Rattle.terms.specs.Substitution.{Pairs, by_pairs}
use Rattle.term_forms.specs.Translation.{levels, levels_in, limited}
use Rattle.term_forms.specs.view.TranslationView.{SaysOutcome}
use Rattle.term_forms.specs.Words.{folded}
use Rattle.term_forms.specs.Bindings.{replaced_by}
use Rattle.term_forms.proofs.Growing.{limited-same, larger-refused}
use Rattle.term_forms.proofs.Folds.{folded-more, IsGrowing, within-folded}

some_node : (t : Tm) → 1 ≤ nodes t
some_node (Var x) = omega arith
some_node (Quote v) = omega arith
some_node (Call f ts) = omega arith

-- a variable is no larger than what replaces it
mutual
  nodes-grow : (s : Name → Tm) (t : Tm) → nodes t ≤ nodes (substitute s t)
  nodes-grow s (Var x) = some_node (s x)
  nodes-grow s (Quote v) = omega arith
  nodes-grow s (Call f ts) = omega (arith, nodes_in-grow s ts)

  nodes_in-grow : (s : Name → Tm) (ts : Tms) → nodes_in ts ≤ nodes_in (substitute_all s ts)
  nodes_in-grow s Done = omega arith
  nodes_in-grow s (More t ts) = omega (arith, nodes-grow s t, nodes_in-grow s ts)

mutual
  levels-grow : (s : Name → Tm) (t : Tm) → levels t ≤ levels (substitute s t)
  levels-grow s (Var x) = omega arith
  levels-grow s (Quote v) = omega arith
  levels-grow s (Call f ts) = omega (arith, levels_in-grow s ts)

  levels_in-grow : (s : Name → Tm) (ts : Tms) → levels_in ts ≤ levels_in (substitute_all s ts)
  levels_in-grow s Done = omega arith
  levels_in-grow s (More t ts) = omega (arith, levels-grow s t, levels_in-grow s ts)

replaced-grows : IsGrowing replaced_by
replaced-grows p t = record { few = nodes-grow (by_pairs (p ∷ [])) t; low = levels-grow (by_pairs (p ∷ [])) t }

one-at : (ps : Pairs) (i : ℕ) (d : Name × Tm) → i < length ps → take 1 (drop i ps) ≡ get_or ps i d ∷ []
one-at [] i d h = absurd (omega arith)
one-at (p ∷ ps) zero d h = refl
one-at (p ∷ ps) (suc i) d h = one-at ps i d (omega arith)

-- a step by a slice of one pair
module _ (ps : Pairs) (i j : ℕ) (d : Name × Tm) (qs : Pairs) (r all : Tm) (h : i < length ps) (n : i + 1 ≡ j) (q : qs ≡ take 1 (drop i ps)) (p : folded replaced_by (take j ps) r ≡ all) where
  same : substitute (by_pairs qs) r ≡ replaced_by (get_or ps i d) r
  same = ap (λ (qs : Pairs). substitute (by_pairs qs) r) (q ∙ one-at ps i d h)

  whole : folded replaced_by (take i ps) (replaced_by (get_or ps i d) r) ≡ all
  whole = folded-more replaced_by ps i d r h ∙ ap (λ k. folded replaced_by (take k ps) r) n ∙ p

  pub step-refused : (e : TermError) → SaysOutcome {A = Tm} (limited (substitute (by_pairs qs) r)) (Err e) → SaysOutcome {A = Tm} (limited all) (Err e)
  step-refused (Refused code detail) says =
      ap limited (sym whole) ∙ larger-refused (replaced_by (get_or ps i d) r) (folded replaced_by (take i ps) (replaced_by (get_or ps i d) r)) (code, detail)
      (within-folded replaced_by (take i ps) (replaced_by (get_or ps i d) r) replaced-grows) (ap limited (sym same) ∙ says)
  step-refused Memory says = tt

  pub step-taken : (t : Tm) → limited (substitute (by_pairs qs) r) ≡ Ok t → folded replaced_by (take i ps) t ≡ all
  step-taken t e = ap (folded replaced_by (take i ps)) (limited-same (substitute (by_pairs qs) r) t e ∙ same) ∙ whole

pub ruleset steps = (folded-more)
