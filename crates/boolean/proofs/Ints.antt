-- The ring laws of ℤ that lib.IntN lacks: the product distributes over the sum, is associative and passes signs, and a few identities.
use mathlib.Core.Path.{◌≡◌, refl, sym, ap, ap₂, ◌∙◌}
use Prim.Native.Nat.{zero, suc}
use lib.IntN.{ℤ, pos, negsuc, ◌+ℤ◌, ◌-ℤ◌, ◌*ℤ◌, neg_ℤ, suc_ℤ-+ℤ, pred_ℤ-+ℤ, +ℤ_assoc, +ℤ_comm, *ℤ_comm, suc_ℤ-*ℤ, pred_ℤ-*ℤ, +ℤ_idl, +ℤ_idr, zero-*ℤ, +ℤ-neg_ℤ_cancel, neg_ℤ-+ℤ, +ℤ_invr, +ℤ_invl, *ℤ-one}

pub +ℤ-left-comm : (a b c : ℤ) → a +ℤ (b +ℤ c) ≡ b +ℤ (a +ℤ c)
+ℤ-left-comm a b c = sym (+ℤ_assoc a b c) ∙ ap (λ (z : ℤ). z +ℤ c) (+ℤ_comm a b) ∙ +ℤ_assoc b a c

-- two sides of a sum in any order and any brackets
pub ruleset ac+ = (+ℤ_assoc, +ℤ_comm, +ℤ-left-comm)

pub add4 : (a b c d : ℤ) → (a +ℤ b) +ℤ (c +ℤ d) ≡ (a +ℤ c) +ℤ (b +ℤ d)
add4 a b c d = simp ac+

pub swap : (a b c : ℤ) → (a +ℤ b) +ℤ c ≡ b +ℤ (a +ℤ c)
swap a b c = simp ac+

pub *ℤ-distr : (m k l : ℤ) → (m +ℤ k) *ℤ l ≡ m *ℤ l +ℤ k *ℤ l
*ℤ-distr (pos zero) k l = simp (+ℤ_idl, zero-*ℤ)
*ℤ-distr (pos (suc n)) k l =
    ap (λ (z : ℤ). z *ℤ l) (suc_ℤ-+ℤ (pos n) k) ∙ suc_ℤ-*ℤ (pos n +ℤ k) l ∙ ap (λ (z : ℤ). z +ℤ l) (*ℤ-distr (pos n) k l)
    ∙ simp (+ℤ_assoc, +ℤ_comm, +ℤ-left-comm, suc_ℤ-*ℤ (pos n) l)
*ℤ-distr (negsuc zero) k l =
    ap (λ (z : ℤ). z *ℤ l) (pred_ℤ-+ℤ (pos zero) k) ∙ pred_ℤ-*ℤ (pos zero +ℤ k) l ∙ ap (λ (z : ℤ). z *ℤ l +ℤ neg_ℤ l) (+ℤ_idl k)
    ∙ +ℤ_comm (k *ℤ l) (neg_ℤ l) ∙ ap (λ (z : ℤ). z +ℤ k *ℤ l) (sym (pred_ℤ-*ℤ (pos zero) l ∙ ap (λ (z : ℤ). z +ℤ neg_ℤ l) (zero-*ℤ l) ∙ +ℤ_idl (neg_ℤ l)))
*ℤ-distr (negsuc (suc n)) k l =
    ap (λ (z : ℤ). z *ℤ l) (pred_ℤ-+ℤ (negsuc n) k) ∙ pred_ℤ-*ℤ (negsuc n +ℤ k) l ∙ ap (λ (z : ℤ). z +ℤ neg_ℤ l) (*ℤ-distr (negsuc n) k l)
    ∙ simp (+ℤ_assoc, +ℤ_comm, +ℤ-left-comm, pred_ℤ-*ℤ (negsuc n) l)

pub *ℤ-distl : (l m k : ℤ) → l *ℤ (m +ℤ k) ≡ l *ℤ m +ℤ l *ℤ k
*ℤ-distl l m k = *ℤ_comm l (m +ℤ k) ∙ *ℤ-distr m k l ∙ ap₂ (λ (x y : ℤ). x +ℤ y) (*ℤ_comm m l) (*ℤ_comm k l)

-- what cancels a number is its negation
pub neg_unique : (a b : ℤ) → a +ℤ b ≡ pos zero → a ≡ neg_ℤ b
neg_unique a b e = sym (+ℤ-neg_ℤ_cancel a b) ∙ ap (λ (z : ℤ). z -ℤ b) e ∙ +ℤ_idl (neg_ℤ b)

pub neg-*ℤ : (m k : ℤ) → neg_ℤ m *ℤ k ≡ neg_ℤ (m *ℤ k)
neg-*ℤ m k = neg_unique (neg_ℤ m *ℤ k) (m *ℤ k) (sym (*ℤ-distr (neg_ℤ m) m k) ∙ ap (λ (z : ℤ). z *ℤ k) (+ℤ_invl m) ∙ zero-*ℤ k)

pub *ℤ-neg : (m k : ℤ) → m *ℤ neg_ℤ k ≡ neg_ℤ (m *ℤ k)
*ℤ-neg m k = *ℤ_comm m (neg_ℤ k) ∙ neg-*ℤ k m ∙ ap neg_ℤ (*ℤ_comm k m)

pub neg_neg : (m : ℤ) → neg_ℤ (neg_ℤ m) ≡ m
neg_neg (pos zero) = refl
neg_neg (pos (suc n)) = refl
neg_neg (negsuc n) = refl

pub *ℤ-assoc : (m k l : ℤ) → m *ℤ k *ℤ l ≡ m *ℤ (k *ℤ l)
*ℤ-assoc (pos zero) k l = simp (zero-*ℤ)
*ℤ-assoc (pos (suc n)) k l =
    ap (λ (z : ℤ). z *ℤ l) (suc_ℤ-*ℤ (pos n) k) ∙ *ℤ-distr (pos n *ℤ k) k l ∙ ap (λ (z : ℤ). z +ℤ k *ℤ l) (*ℤ-assoc (pos n) k l)
    ∙ sym (suc_ℤ-*ℤ (pos n) (k *ℤ l))
*ℤ-assoc (negsuc zero) k l =
    ap (λ (z : ℤ). z *ℤ l) (minus_one k) ∙ neg-*ℤ k l ∙ sym (minus_one (k *ℤ l))
  where
    minus_one : (z : ℤ) → negsuc zero *ℤ z ≡ neg_ℤ z
    minus_one z = pred_ℤ-*ℤ (pos zero) z ∙ ap (λ (y : ℤ). y +ℤ neg_ℤ z) (zero-*ℤ z) ∙ +ℤ_idl (neg_ℤ z)
*ℤ-assoc (negsuc (suc n)) k l =
    ap (λ (z : ℤ). z *ℤ l) (pred_ℤ-*ℤ (negsuc n) k) ∙ *ℤ-distr (negsuc n *ℤ k) (neg_ℤ k) l
    ∙ ap₂ (λ (y z : ℤ). y +ℤ z) (*ℤ-assoc (negsuc n) k l) (neg-*ℤ k l)
    ∙ sym (pred_ℤ-*ℤ (negsuc n) (k *ℤ l))

pub *ℤ-left-comm : (a b c : ℤ) → a *ℤ (b *ℤ c) ≡ b *ℤ (a *ℤ c)
*ℤ-left-comm a b c = sym (*ℤ-assoc a b c) ∙ ap (λ (z : ℤ). z *ℤ c) (*ℤ_comm a b) ∙ *ℤ-assoc b a c

pub one-*ℤ : (m : ℤ) → pos 1 *ℤ m ≡ m
unfolding lib.IntN.one
one-*ℤ m = *ℤ_comm (pos 1) m ∙ *ℤ-one m

pub minus_one_*ℤ : (m : ℤ) → negsuc 0 *ℤ m ≡ neg_ℤ m
minus_one_*ℤ m = neg-*ℤ (pos 1) m ∙ ap neg_ℤ (one-*ℤ m)

-- a polynomial's normal form, but for what cancels
pub ruleset ring = (+ℤ_assoc, +ℤ_comm, +ℤ-left-comm, *ℤ-assoc, *ℤ_comm, *ℤ-left-comm, *ℤ-distr, *ℤ-distl, neg-*ℤ, *ℤ-neg, neg_ℤ-+ℤ, neg_neg)

-- the two halves of a butterfly, and back
pub twice_left : (a b : ℤ) → (a +ℤ b) +ℤ (a -ℤ b) ≡ a +ℤ a
twice_left a b = add4 a b a (neg_ℤ b) ∙ ap (λ (z : ℤ). (a +ℤ a) +ℤ z) (+ℤ_invr b) ∙ +ℤ_idr (a +ℤ a)

pub twice_right : (a b : ℤ) → (a +ℤ b) -ℤ (a -ℤ b) ≡ b +ℤ b
twice_right a b =
    ap (λ (z : ℤ). (a +ℤ b) +ℤ z) (neg_ℤ-+ℤ a (neg_ℤ b) ∙ ap (λ (z : ℤ). neg_ℤ a +ℤ z) (neg_neg b))
    ∙ add4 a b (neg_ℤ a) b ∙ ap (λ (z : ℤ). z +ℤ (b +ℤ b)) (+ℤ_invr a) ∙ +ℤ_idl (b +ℤ b)

-- products of sums and of differences
pub sum_sum : (a b c d : ℤ) → (a +ℤ b) *ℤ (c +ℤ d) ≡ (a *ℤ c +ℤ b *ℤ d) +ℤ (a *ℤ d +ℤ b *ℤ c)
sum_sum a b c d = simp ring

pub diff_diff : (a b c d : ℤ) → (a -ℤ b) *ℤ (c -ℤ d) ≡ (a *ℤ c +ℤ b *ℤ d) -ℤ (a *ℤ d +ℤ b *ℤ c)
diff_diff a b c d = simp ring

-- (a + b)² + (a − b)² = 2 (a² + b²)
pub butterfly_square : (a b : ℤ) → (a +ℤ b) *ℤ (a +ℤ b) +ℤ (a -ℤ b) *ℤ (a -ℤ b) ≡ (a *ℤ a +ℤ b *ℤ b) +ℤ (a *ℤ a +ℤ b *ℤ b)
butterfly_square a b =
    ap₂ (λ (x y : ℤ). x +ℤ y) (sum_sum a b a b) (diff_diff a b a b) ∙ twice_left (a *ℤ a +ℤ b *ℤ b) (a *ℤ b +ℤ b *ℤ a)
