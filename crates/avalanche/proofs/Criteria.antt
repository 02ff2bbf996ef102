-- The criteria, which ask for changes at half of the inputs, by the dynamic distance: document 000's strict avalanche criterion, and bit independence.
-- And completeness by the inputs at which columns change.
use mathlib.Core.Path.{◌≡◌, refl, sym, ap, ap₂, ◌∙◌}
use mathlib.Core.Bool.{true, not, true≢false, false}
use mathlib.Core.Logic.{◌⊎◌, inl, inr, ⊎_elim, ◌↔◌}
use mathlib.Core.List.{List}
use Prim.Native.Nat.{ℕ, zero, suc, ◌-◌, ◌^◌, ◌<◌, ◌≤◌}
use native.Mathlib.Nat.{le_refl, le_of_eq}
use native.Mathlib.Omega.{arith}
use borrow.Author.Tests.{eq-eqb, ne_eqb, not-true}
use lib.Bits.{bit_xor, xor_lt}
use lib.Dec.{eqb}
use lib.IntN.{ℤ, pos, ◌+ℤ◌, ◌-ℤ◌, nat_abs, +ℤ_idl, +ℤ_invr, -ℤ-+ℤ_cancel}
use lib.Pow.{pow_pos, pow-lt}
use Rattle.boolean.specs.Sums.{list_from, every}
use Rattle.boolean.specs.Functions.{MaskWithin, changes, component, column}
use Rattle.boolean.proofs.Columns.{component_column}
use Rattle.boolean.proofs.Components.{within_more}
use Rattle.boolean.proofs.Correlation.{changes_cong}
use Rattle.boolean.proofs.Counted.{count_some, count_first}
use Rattle.boolean.proofs.Digits.{component_xor}
use Rattle.boolean.proofs.OneBit.{ones_power, power_of_ones}
use Rattle.boolean.proofs.Ranges.{every_passes, every_passed}
use Rattle.boolean.proofs.Sizes.{no_size}
use Rattle.boolean.proofs.TwoBits.{xor_powers, ones_powers, powers_of_ones}
use Rattle.refusals.specs.Table.{Box}
use Rattle.avalanche.specs.Avalanche.{imbalance, dynamic_distance, complete}
use Rattle.avalanche.specs.Statements.{ChangesAtHalf, distance_of}
use Rattle.avalanche.proofs.Reports.{largest_none}

-- ---- a figure of 0: changes at half of the inputs
module _ (n : ℕ) (f : ℕ → ℕ) (d : ℕ) where
  pub balanced : imbalance n f d ≡ 0 → changes n f d ≡ 2 ^ (n - 1)
  unfolding imbalance
  balanced e =
      ap nat_abs
      (sym (sym (-ℤ-+ℤ_cancel (pos (2 ^ (n - 1))) (pos (changes n f d)))
      ∙ ap (λ (z : ℤ). z +ℤ pos (changes n f d)) (no_size (pos (2 ^ (n - 1)) -ℤ pos (changes n f d)) e) ∙ +ℤ_idl (pos (changes n f d))))

  pub no_imbalance : changes n f d ≡ 2 ^ (n - 1) → imbalance n f d ≡ 0
  unfolding imbalance
  no_imbalance e = ap (λ (k : ℕ). nat_abs (pos (2 ^ (n - 1)) -ℤ pos k)) e ∙ ap nat_abs (+ℤ_invr (pos (2 ^ (n - 1))))

-- ---- masks of one and of two ones; columns and input bits are counted from 1
back : (p : ℕ) → p ≡ suc p - 1
back p = omega arith

-- the masks with a single 1 are the powers of two
single : (k p : ℕ) → 1 ≤ p → p ≤ k → MaskWithin 1 (2 ^ k) (2 ^ (p - 1))
single k p l h = record { low = pow_pos (p - 1); high = pow-lt (omega arith); few = le_of_eq (ones_power (p - 1)) }

power : {k v : ℕ} → MaskWithin 1 (2 ^ k) v → (p : ℕ) × (1 ≤ p) × (p ≤ k) × (v ≡ 2 ^ (p - 1))
power {k} {v} w =
    let t = power_of_ones k v w.low w.high w.few in
    (suc t.0, omega arith, omega (arith, t.1), t.2 ∙ ap (λ (q : ℕ). 2 ^ q) (back t.0))

-- the masks with two ones are the XORs of two powers of two
double : (m i j : ℕ) → 1 ≤ i → i < j → j ≤ m → MaskWithin 2 (2 ^ m) (bit_xor (2 ^ (i - 1)) (2 ^ (j - 1)))
double m i j li l hj =
    let p : i - 1 < j - 1 = omega arith in
    record {
      low = omega (arith, xor_powers (i - 1) (j - 1) p, pow_pos (i - 1));
      high = xor_lt m (2 ^ (i - 1)) (2 ^ (j - 1)) (pow-lt (omega arith)) (pow-lt (omega arith));
      few = le_of_eq (ones_powers (i - 1) (j - 1) p);
    }

one_or_two : {m c : ℕ} → MaskWithin 2 (2 ^ m) c
    → ((j : ℕ) × (1 ≤ j) × (j ≤ m) × (c ≡ 2 ^ (j - 1))) ⊎ ((i j : ℕ) × (1 ≤ i) × (i < j) × (j ≤ m) × (c ≡ bit_xor (2 ^ (i - 1)) (2 ^ (j - 1))))
one_or_two {m} {c} w =
    ⊎_elim (λ t. inl (suc t.0, omega arith, omega (arith, t.1), t.2 ∙ ap (λ (q : ℕ). 2 ^ q) (back t.0)))
    (λ t. inr (
      suc t.0,
      suc t.1,
      omega arith,
      omega (arith, t.2),
      omega (arith, t.3),
      t.4 ∙ ap₂ (λ (p q : ℕ). bit_xor (2 ^ p) (2 ^ q)) (back t.0) (back t.1),
    ))
    (powers_of_ones m c w.low w.high w.few)

module _ (n m : ℕ) (rows : List ℕ) (b : Box n m rows) where
  -- order (i, 1) gives 0 exactly when each combination of at most i outputs changes at half of the inputs under each single input bit
  single_bits : (i : ℕ) → 1 ≤ i → (dynamic_distance n m rows i 1).figure ≡ 0
      ↔ ((c k : ℕ) → MaskWithin i (2 ^ m) c → 1 ≤ k → k ≤ n → ChangesAtHalf n (component rows c) k)
  unfolding dynamic_distance
  single_bits i i_low =
      let t = largest_none n m i 1 (distance_of n rows) b.n_low b.m_low i_low (le_refl 1) in (
        λ e c k w lk hk. balanced n (component rows c) (2 ^ (k - 1)) (t.0 e c (2 ^ (k - 1)) (record { mask = w; shift = single n k lk hk })),
        λ h. t.1 (λ c s w.
            let k = power w.shift in
            no_imbalance n (component rows c) s (ap (changes n (component rows c)) k.3 ∙ h c k.0 w.mask k.1 k.2)),
      )

  by_column : (j d : ℕ) → changes n (component rows (2 ^ (j - 1))) d ≡ changes n (column rows j) d
  by_column j d = changes_cong n (component rows (2 ^ (j - 1))) (column rows j) d (λ x. component_column rows j x)

  by_columns : (i j d : ℕ)
      → changes n (component rows (bit_xor (2 ^ (i - 1)) (2 ^ (j - 1)))) d ≡ changes n (λ x. bit_xor (column rows i x) (column rows j x)) d
  by_columns i j d =
      changes_cong n _ _ d
      (λ x. sym (component_xor rows (2 ^ (i - 1)) (2 ^ (j - 1)) x) ∙ ap₂ bit_xor (component_column rows i x) (component_column rows j x))

  -- order (1, 1) gives 0 exactly when each input bit changes each column at half of the inputs
  pub avalanche_exactly : (dynamic_distance n m rows 1 1).figure ≡ 0
      ↔ ((j k : ℕ) → 1 ≤ j → j ≤ m → 1 ≤ k → k ≤ n → ChangesAtHalf n (column rows j) k)
  avalanche_exactly = (
    λ e j k lj hj lk hk. sym (by_column j (2 ^ (k - 1))) ∙ (single_bits 1 (le_refl 1)).0 e (2 ^ (j - 1)) k (single m j lj hj) lk hk,
    λ h. (single_bits 1 (le_refl 1)).1
        (λ c k w lk hk.
        let j = power w in
        ap (λ (c : ℕ). changes n (component rows c) (2 ^ (k - 1))) j.3 ∙ by_column j.0 (2 ^ (k - 1)) ∙ h j.0 k j.1 j.2 lk hk),
  )

  -- order (2, 1) gives 0 exactly when each input bit changes each column, and each XOR of two columns, at half of the inputs
  pub independence_exactly : (dynamic_distance n m rows 2 1).figure ≡ 0
      ↔ (((j k : ℕ) → 1 ≤ j → j ≤ m → 1 ≤ k → k ≤ n → ChangesAtHalf n (column rows j) k)
      × ((i j k : ℕ) → 1 ≤ i → i < j → j ≤ m → 1 ≤ k → k ≤ n → ChangesAtHalf n (λ x. bit_xor (column rows i x) (column rows j x)) k))
  independence_exactly = (
    λ e.
        let all = (single_bits 2 (omega arith)).0 e in (
          λ j k lj hj lk hk. sym (by_column j (2 ^ (k - 1))) ∙ all (2 ^ (j - 1)) k (within_more (omega arith) (single m j lj hj)) lk hk,
          λ i j k li l hj lk hk. sym (by_columns i j (2 ^ (k - 1))) ∙ all (bit_xor (2 ^ (i - 1)) (2 ^ (j - 1))) k (double m i j li l hj) lk hk,
        ),
    λ h. (single_bits 2 (omega arith)).1
        (λ c k w lk hk. ⊎_elim
        (λ t. ap (λ (c : ℕ). changes n (component rows c) (2 ^ (k - 1))) t.3 ∙ by_column t.0 (2 ^ (k - 1)) ∙ h.0 t.0 k t.1 t.2 lk hk)
        (λ t. ap (λ (c : ℕ). changes n (component rows c) (2 ^ (k - 1))) t.5 ∙ by_columns t.0 t.1 (2 ^ (k - 1))
        ∙ h.1 t.0 t.1 k t.2 t.3 t.4 lk hk)
        (one_or_two w)),
  )

-- ---- completeness
nonzero : (k : ℕ) → eqb k 0 ≡ false → 0 < k
nonzero zero h = absurd (true≢false (sym (eq-eqb 0 0 refl) ∙ h))
nonzero (suc k) h = omega arith

-- a function changes under d exactly where it does at some input
some_change : (n : ℕ) (f : ℕ → ℕ) (d : ℕ) → (not (eqb (changes n f d) 0) ≡ true) ↔ ((x : ℕ) × (x < 2 ^ n) × (¬ (f x ≡ f (bit_xor x d))))
unfolding changes
some_change n f d = (
  λ h.
      let t = count_first (2 ^ n) (λ x. not (eqb (f x) (f (bit_xor x d)))) (nonzero (changes n f d) (not-true (eqb (changes n f d) 0) h)) in
      (t.0, t.1, λ e. true≢false (sym (eq-eqb _ _ e) ∙ not-true _ t.2)),
  λ t.
      let some = count_some (2 ^ n) (λ x. not (eqb (f x) (f (bit_xor x d)))) t.0 t.1 (ap not (ne_eqb _ _ t.2)) in
      ap not (ne_eqb (changes n f d) 0 (λ e. omega (arith, some, e))),
)

pub complete_iff : (n m : ℕ) (rows : List ℕ) → (complete n m rows ≡ true)
    ↔ ((k j : ℕ) → 1 ≤ k → k ≤ n → 1 ≤ j → j ≤ m
    → (x : ℕ) × (x < 2 ^ n) × (¬ (column rows j x ≡ column rows j (bit_xor x (2 ^ (k - 1))))))
unfolding complete
complete_iff n m rows = (
  λ h k j lk hk lj hj.
      let row = every_passed (λ k. every (λ j. not (eqb (changes n (column rows j) (2 ^ (k - 1))) 0)) (list_from 1 m (λ j. j))) 1 n h k
      lk (omega (arith, hk)) in
      (some_change n (column rows j) (2 ^ (k - 1))).0
      (every_passed (λ j. not (eqb (changes n (column rows j) (2 ^ (k - 1))) 0)) 1 m row j lj (omega (arith, hj))),
  λ h. every_passes _ 1 n (λ k lk hk. every_passes _ 1 m (λ j lj hj.
      (some_change n (column rows j) (2 ^ (k - 1))).1 (h k j lk (omega (arith, hk)) lj (omega (arith, hj))))),
)
