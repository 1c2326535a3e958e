-- Formal sums: keys with integer factors. A key may stand more than once; a test says which keys are the same.
use Rattle.std.specs.Prelude.{Bool, ℤ, pos, ◌+ℤ◌, ◌*ℤ◌, neg_ℤ, List, [], ◌∷◌, ◌++◌, not, if◌then◌else◌}
use Rattle.std.specs.List.{list_any, list_all, filter}
use Rattle.std.specs.Ordering.{int_eq}

-- the sum of the key's factors
abbrev pub coefficient : {K : Type 0} → (K → K → Bool) → List (K × ℤ) → K → ℤ
coefficient same [] k = pos 0
coefficient same (e ∷ es) k = if same e.0 k then e.1 +ℤ coefficient same es k else coefficient same es k

-- each key once
abbrev pub distinct_keys : {K : Type 0} → (K → K → Bool) → List (K × ℤ) → List K
distinct_keys same [] = []
distinct_keys same (e ∷ es) =
    if list_any (λ f. same e.0 f.0) es then distinct_keys same es else e.0 ∷ distinct_keys same es

-- the keys whose coefficient isn't 0, each once
abbrev pub support : {K : Type 0} → (K → K → Bool) → List (K × ℤ) → List K
support same es = filter (λ k. not (int_eq (coefficient same es k) (pos 0))) (distinct_keys same es)

-- the coefficients are equal at each key of the two
abbrev pub coefficients_agree : {K : Type 0} → (K → K → Bool) → List (K × ℤ) → List (K × ℤ) → Bool
coefficients_agree same es fs = list_all (λ e. int_eq (coefficient same es e.0) (coefficient same fs e.0)) (es ++ fs)

-- each factor negated
abbrev pub negated : {K : Type 0} → List (K × ℤ) → List (K × ℤ)
negated [] = []
negated (e ∷ es) = (e.0, neg_ℤ e.1) ∷ negated es

abbrev pub times_each : {K : Type 0} → (K → K → K) → K × ℤ → List (K × ℤ) → List (K × ℤ)
times_each times d [] = []
times_each times d (e ∷ es) = (times d.0 e.0, d.1 *ℤ e.1) ∷ times_each times d es

-- each entry of the one times each of the other
abbrev pub products : {K : Type 0} → (K → K → K) → List (K × ℤ) → List (K × ℤ) → List (K × ℤ)
products times [] es = []
products times (d ∷ ds) es = times_each times d es ++ products times ds es
