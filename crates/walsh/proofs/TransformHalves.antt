-- The integer transform above width 0, cut in two at h: what each call on a half asks, and what the butterfly then has made.
-- Assumes nothing.
use mathlib.Core.Path.{◌≡◌, sym, ap, ap₂, ◌∙◌, subst}
use mathlib.Core.List.{List, ◌++◌}
use Prim.Native.Nat.{ℕ, suc, ◌+◌, ◌-◌, ◌*◌, ◌/◌, ◌^◌, ◌≤◌, ◌<◌}
use native.Mathlib.Nat.{le_trans, mul-le-mul_right, two-pow-succ}
use native.Mathlib.Omega.{arith}
use lib.ListN.{length, take, drop, length-drop}
use lib.Seq.{length-take-le}
use lib.Arith.{lt-one}
use lib.Dec.{lit<}
use lib.Pow.{pow_mono}
use lib.IntN.{ℤ, pos, ◌+ℤ◌, ◌-ℤ◌, nat_abs}
use borrow.Rule.Slice.PartMut.{put_mid}
use Rattle.boolean.specs.Sums.{list_below}
use Rattle.boolean.specs.Functions.{value_at, transform}
use Rattle.boolean.proofs.Lists.{list_is}
use Rattle.boolean.proofs.Sizes.{transform_bound}
use Rattle.boolean.proofs.Transform.{transform_cong, transform_low, transform_high, transform_zero}
use Rattle.boolean.proofs.Halves as halves
use Rattle.walsh.specs.Work.{Halves, Crossed, Summable}
use Rattle.walsh.proofs.Crossing.{to_cross, crossed_is}

-- half of the length
pub middle : (n m : ℕ) (values : List ℤ) → Summable n values → n ≡ suc m → length values / 2 ≡ 2 ^ m
middle n m values s one_less = halves.half_is m values (s.size ∙ ap (λ (k : ℕ). 2 ^ k) one_less)

module _ (n m h : ℕ) (values : List ℤ) (s : Summable n values) (one_less : n ≡ suc m) (half : h ≡ 2 ^ m) where
  room : length values ≡ h + h
  room = s.size ∙ ap (λ (k : ℕ). 2 ^ k) one_less ∙ omega (arith, half, two-pow-succ m)

  half_total : 2 ^ m * s.bound ≤ 2 ^ 29
  half_total =
      le_trans (mul-le-mul_right s.bound (let le : 2 ^ m ≤ 2 ^ n = pow_mono {i = m} {j = n} (omega arith) in le)) s.total

  abbrev pub lower : ℕ → ℤ
  lower w = transform m (value_at (take h values)) w

  abbrev upper : ℕ → ℤ
  upper w = transform m (value_at (drop h values)) w

  half_summable : (l : List ℤ) → length l ≡ h → ((k : ℕ) → nat_abs (value_at l k) ≤ s.bound) → Summable m l
  half_summable l e small = record { few = omega (arith, s.few); size = e ∙ half; bound = s.bound; small = small; total = half_total }

  lower_small : (k : ℕ) → nat_abs (value_at (take h values) k) ≤ s.bound
  lower_small = halves.take_entries (pos 0) (λ z. nat_abs z ≤ s.bound) h values (omega arith) s.small

  upper_small : (k : ℕ) → nat_abs (value_at (drop h values) k) ≤ s.bound
  upper_small = halves.drop_entries (pos 0) (λ z. nat_abs z ≤ s.bound) h values s.small

  pub lower_length : h ≡ length (take h values)
  lower_length = sym (length-take-le h values (omega (arith, room)))

  pub lower_summable : Summable m (take h values)
  lower_summable = half_summable (take h values) (sym lower_length) lower_small

  module _ (l₁ : List ℤ) (e₁ : l₁ ≡ list_below (2 ^ m) lower) where
    as_lower : l₁ ≡ list_below h lower
    as_lower = e₁ ∙ ap (λ (k : ℕ). list_below k lower) (sym half)

    abbrev pub after_lower : List ℤ
    after_lower = l₁ ++ drop h values

    upper_is_kept : take (length after_lower - h) (drop h after_lower) ≡ drop h values
    upper_is_kept = halves.upper_kept h values room lower l₁ as_lower

    pub upper_summable : Summable m (take (length after_lower - h) (drop h after_lower))
    upper_summable =
        subst (Summable m) (sym upper_is_kept) (half_summable (drop h values) (omega (arith, length-drop h values, room)) upper_small)

    module _ (l₂ : List ℤ) (e₂ : l₂ ≡ list_below (2 ^ m) (λ w. transform m (value_at (take (length after_lower - h) (drop h after_lower))) w)) where
      as_upper : l₂ ≡ list_below h upper
      as_upper =
          e₂ ∙ ap₂ (λ (k : ℕ) (l : List ℤ). list_below k (λ w. transform m (value_at l) w)) (sym half) upper_is_kept

      abbrev pub after_upper : List ℤ
      after_upper = put_mid h (length after_lower - h) after_lower l₂

      small : (F : ℕ → ℤ) → ((k : ℕ) → nat_abs (F k) ≤ s.bound) → (w : ℕ) → nat_abs (transform m F w) ≤ 2 ^ 29
      small F b w = le_trans (transform_bound m s.bound F w (λ x l. b x)) half_total

      pub crossing : Halves (2 ^ 29) h after_upper
      crossing =
          to_cross h values room lower l₁ as_lower upper l₂ as_upper (2 ^ 29)
          (λ k lt. small (value_at (take h values)) lower_small k) (λ k lt. small (value_at (drop h values)) upper_small k)

      pub same_long : length after_upper ≡ length values
      same_long = halves.length_after_upper h values room lower l₁ as_lower upper l₂ as_upper ∙ sym room

      lower_is : (w : ℕ) → transform m (value_at values) w ≡ lower w
      lower_is w = transform_cong m _ _ w (λ x lt. halves.lower_entry (pos 0) h values x (omega (arith, half)))

      upper_is : (w : ℕ) → transform m (λ x. value_at values (2 ^ m + x)) w ≡ upper w
      upper_is w = transform_cong m _ _ w (λ x lt. halves.upper_entry (pos 0) h values x (2 ^ m) half)

      pub right : (new : List ℤ) → length new ≡ length after_upper → Crossed h after_upper new
          → new ≡ list_below (2 ^ n) (λ w. transform n (value_at values) w)
      right new kept crossed =
          crossed_is h values room lower l₁ as_lower upper l₂ as_upper new kept crossed (λ w. transform (suc m) (value_at values) w)
          (λ k lt. transform_low m (value_at values) k (omega (arith, half)) ∙ ap₂ (λ (a b : ℤ). a +ℤ b) (lower_is k) (upper_is k))
          (λ k lt. ap (λ (j : ℕ). transform (suc m) (value_at values) (j + k)) half
          ∙ transform_high m (value_at values) k (omega (arith, half)) ∙ ap₂ (λ (a b : ℤ). a -ℤ b) (lower_is k) (upper_is k))
          ∙ ap₂ (λ (j k : ℕ). list_below j (λ w. transform k (value_at values) w)) (sym room ∙ s.size) (sym one_less)

-- at width 0 there is one value, and it stays
pub one_value : (n : ℕ) (values : List ℤ) → Summable n values → n ≡ 0 → values ≡ list_below (2 ^ n) (λ w. transform n (value_at values) w)
one_value n values s e = subst (λ (k : ℕ). length values ≡ 2 ^ k → values ≡ list_below (2 ^ k) (λ w. transform k (value_at values) w)) (sym e) one s.size
  where
    one : length values ≡ 2 ^ 0 → values ≡ list_below (2 ^ 0) (λ w. transform 0 (value_at values) w)
    one size = list_is (pos 0) (2 ^ 0) (λ w. transform 0 (value_at values) w) values size
        (λ i lt. subst (λ (j : ℕ). value_at values j ≡ transform 0 (value_at values) j) (sym (lt-one lt)) (sym (transform_zero (value_at values))))

-- at width 1 there are two, and crossing them is all
pub two_values : (values new : List ℤ) → Summable 1 values → length new ≡ length values → Crossed 1 values new
    → new ≡ list_below (2 ^ 1) (λ w. transform 1 (value_at values) w)
two_values values new s kept crossed =
    halves.halves_are (pos 0) 1 (λ w. transform 1 (value_at values) w) new (kept ∙ s.size)
    (λ k lt. only (λ (j : ℕ). value_at new j ≡ transform 1 (value_at values) j) k lt
    (crossed.sums 0 (lit< tt) ∙ sym (transform_low 0 (value_at values) 0 (lit< tt) ∙ ap₂ (λ (a b : ℤ). a +ℤ b) first second)))
    (λ k lt. only (λ (j : ℕ). value_at new (1 + j) ≡ transform 1 (value_at values) (1 + j)) k lt
    (crossed.differences 0 (lit< tt) ∙ sym (transform_high 0 (value_at values) 0 (lit< tt) ∙ ap₂ (λ (a b : ℤ). a -ℤ b) first second)))
  where
    first : transform 0 (value_at values) 0 ≡ value_at values 0
    first = transform_zero (value_at values)

    second : transform 0 (λ x. value_at values (1 + x)) 0 ≡ value_at values 1
    second = transform_zero (λ x. value_at values (1 + x))

    only : (P : ℕ → Type 0) (k : ℕ) → k < 1 → P 0 → P k
    only P k lt p = subst P (sym (lt-one lt)) p

-- they are small enough for that
pub two_halves : (values : List ℤ) → Summable 1 values → Halves (2 ^ 29) 1 values
two_halves values s = record {
  size = s.size;
  small = λ k. le_trans (s.small k) (omega (arith, s.total));
}
