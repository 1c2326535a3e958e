-- Sums and products of integers.
use Rattle.std.proofs.Common.{◌≡◌, ℤ, pos, ◌+◌, ◌*◌, ◌+ℤ◌, ◌*ℤ◌, neg_ℤ, sym, ap, ap₂, ◌∙◌, arith}
use Rattle.std.proofs.Math.IntN.{*ℤ_comm}
use Rattle.std.proofs.lemmas.Int.{ints}
use borrow.Author.Differences.{up, down, same_in, product_is, sum_is_lem, neg_is}

up-product : (a b : ℤ) → up (a *ℤ b) ≡ up a * up b + down a * down b
up-product a b = (product_is a b).0

down-product : (a b : ℤ) → down (a *ℤ b) ≡ up a * down b + down a * up b
down-product a b = (product_is a b).1

pub product-assoc : (a b c : ℤ) → (a *ℤ b) *ℤ c ≡ a *ℤ (b *ℤ c)
product-assoc a b c = same_in _ _ (simp (up-product, down-product) (omega arith))

pub product-sum : (a b c : ℤ) → a *ℤ (b +ℤ c) ≡ a *ℤ b +ℤ a *ℤ c
product-sum a b c =
    let s = sum_is_lem b c in
    let r = sum_is_lem (a *ℤ b) (a *ℤ c) in
    let p = ap (λ n. up a * n) s in
    let q = ap (λ n. down a * n) s in
    same_in _ _ (omega (arith, up-product a (b +ℤ c), down-product a (b +ℤ c), up-product a b, down-product a b, up-product a c, down-product a c))

up-neg : (b : ℤ) → up (neg_ℤ b) ≡ down b
up-neg b = (neg_is b).0

down-neg : (b : ℤ) → down (neg_ℤ b) ≡ up b
down-neg b = (neg_is b).1

pub product-neg : (a b : ℤ) → neg_ℤ a *ℤ b ≡ neg_ℤ (a *ℤ b)
product-neg a b = same_in _ _ (simp (up-neg, down-neg, up-product, down-product) (omega arith))

pub one-product : (b : ℤ) → pos 1 *ℤ b ≡ b
one-product b = same_in _ _ (omega (arith, up-product (pos 1) b, down-product (pos 1) b))

pub product-one : (b : ℤ) → b *ℤ pos 1 ≡ b
product-one b = *ℤ_comm b (pos 1) ∙ one-product b

pub sum-product : (a b c : ℤ) → (a +ℤ b) *ℤ c ≡ a *ℤ c +ℤ b *ℤ c
sum-product a b c = *ℤ_comm (a +ℤ b) c ∙ product-sum c a b ∙ ap₂ (λ x y. x +ℤ y) (*ℤ_comm c a) (*ℤ_comm c b)

pub product-swap : (a b c d : ℤ) → (a *ℤ b) *ℤ (c *ℤ d) ≡ (a *ℤ c) *ℤ (b *ℤ d)
product-swap a b c d =
    product-assoc a b (c *ℤ d)
    ∙ ap (λ x. a *ℤ x) (sym (product-assoc b c d) ∙ ap (λ x. x *ℤ d) (*ℤ_comm b c) ∙ product-assoc c b d)
    ∙ sym (product-assoc a c (b *ℤ d))

pub same_sum : (a b : ℤ) → a +ℤ neg_ℤ b ≡ pos 0 → a ≡ b
same_sum a b e = omega (arith, ints)
