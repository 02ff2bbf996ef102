-- The spectrum above width 3, cut in two: what each call on a half asks, what the butterfly then has made, and the largest magnitude
-- without it. Assumes nothing.
use mathlib.Core.Path.{◌≡◌, sym, ap, ap₂, ◌∙◌, subst}
use mathlib.Core.List.{List, ◌++◌}
use Prim.Native.Nat.{ℕ, suc, ◌+◌, ◌-◌, ◌/◌, ◌^◌, ◌≤◌, ◌<◌}
use native.Mathlib.Nat.{le_trans, zero-lt-suc, two-pow-succ}
use native.Mathlib.Omega.{arith}
use lib.ListN.{length, take, drop, length-drop}
use lib.Seq.{length-take-le}
use lib.Pow.{pow_mono}
use lib.IntN.{ℤ, pos, ◌+ℤ◌, ◌-ℤ◌, nat_abs}
use borrow.Rule.Slice.PartMut.{put_mid}
use Rattle.boolean.specs.Sums.{list_below}
use Rattle.boolean.specs.Functions.{at, approximation, spectrum}
use Rattle.boolean.proofs.Lists.{list_is, upper_part, length_list_below}
use Rattle.boolean.proofs.Approximations.{approximation_cong, approximation_le, approximation_low, approximation_high}
use Rattle.boolean.proofs.Halves as halves
use Rattle.walsh.specs.Work.{Ready, SpectrumOf, Halves, Crossed, largest_sum}
use Rattle.walsh.specs.Magnitudes.{largest_magnitude}
use Rattle.walsh.proofs.Crossing.{to_cross, crossed_is, crosses}
use Rattle.walsh.proofs.Magnitudes.{crossed_largest}

-- integers that are the values of a spectrum are the spectrum
pub spectrum_is : (n : ℕ) (f : ℕ → ℕ) (values : List ℤ) → SpectrumOf (λ v. v) (pos 0) n f values → values ≡ spectrum n f
unfolding spectrum
spectrum_is n f values s = list_is (pos 0) (2 ^ n) (λ w. approximation n f w) values s.long s.entries

-- a table of width n and its array, each to be cut in two halves of width m, at h
pub record Cut (n m h : ℕ) (table : List ℕ) (out : List ℤ) : Type 0 where
  pub ready : Ready n table out
  pub one_less : n ≡ suc m
  pub low : 1 ≤ m
  pub half : h ≡ 2 ^ m

-- cut in the middle
in_the_middle : (n m : ℕ) (table : List ℕ) → length table ≡ 2 ^ n → n ≡ suc m → length table / 2 ≡ 2 ^ m
in_the_middle n m table size e = halves.half_is m table (size ∙ ap (λ (k : ℕ). 2 ^ k) e)

pub cut_in_the_middle : {n m : ℕ} {table : List ℕ} {out : List ℤ} → Ready n table out → n ≡ suc m → 1 ≤ m → Cut n m (length table / 2) table out
cut_in_the_middle {n} {m} {table} r e low = record { ready = r; one_less = e; low = low; half = in_the_middle n m table r.read.size e }

module _ {n m h : ℕ} {table : List ℕ} {out : List ℤ} (c : Cut n m h table out) where
  half : h ≡ 2 ^ m
  half = c.half

  size : length table ≡ h + h
  size = c.ready.read.size ∙ ap (λ (k : ℕ). 2 ^ k) c.one_less ∙ omega (arith, half, two-pow-succ m)

  room : length out ≡ h + h
  room = c.ready.room ∙ sym c.ready.read.size ∙ size

  pub lower_length : h ≡ length (take h table)
  lower_length = sym (length-take-le h table (omega (arith, size)))

  pub lower_room : h ≡ length (take h out)
  lower_room = sym (length-take-le h out (omega (arith, room)))

  few : m ≤ 8
  few = omega (arith, c.one_less, c.ready.read.n_high)

  abbrev pub lower : ℕ → ℤ
  lower w = approximation m (at (take h table)) w

  abbrev upper : ℕ → ℤ
  upper w = approximation m (at (drop h table)) w

  pub lower_ready : Ready m (take h table) (take h out)
  lower_ready = record {
    read = record {
      n_low = c.low;
      n_high = few;
      size = sym lower_length ∙ half;
      bits = halves.take_entries 0 (λ b. b < 2) h table (zero-lt-suc 1) c.ready.read.bits;
    };
    room = sym lower_room ∙ half;
  }

  module _ (l₁ : List ℤ) (e₁ : l₁ ≡ spectrum m (at (take h table))) where
    as_lower : l₁ ≡ list_below h lower
    unfolding spectrum
    as_lower = e₁ ∙ ap (λ (k : ℕ). list_below k lower) (sym half)

    abbrev pub after_lower : List ℤ
    after_lower = l₁ ++ drop h out

    pub upper_ready : Ready m (take (length table - h) (drop h table)) (take (length after_lower - h) (drop h after_lower))
    upper_ready =
        subst (λ (t : List ℕ). Ready m t (take (length after_lower - h) (drop h after_lower))) (sym (upper_part h table))
        (record {
          read = record {
            n_low = c.low;
            n_high = few;
            size = omega (arith, length-drop h table, size, half);
            bits = halves.drop_entries 0 (λ b. b < 2) h table c.ready.read.bits;
          };
          room = ap length (halves.upper_kept h out room lower l₁ as_lower) ∙ omega (arith, length-drop h out, room, half);
        })

    module _ (l₂ : List ℤ) (e₂ : l₂ ≡ spectrum m (at (take (length table - h) (drop h table)))) where
      as_upper : l₂ ≡ list_below h upper
      unfolding spectrum
      as_upper =
          e₂ ∙ ap (λ (t : List ℕ). spectrum m (at t)) (upper_part h table) ∙ ap (λ (k : ℕ). list_below k upper) (sym half)

      abbrev pub after_upper : List ℤ
      after_upper = put_mid h (length after_lower - h) after_lower l₂

      small : (f : ℕ → ℕ) (w : ℕ) → nat_abs (approximation m f w) ≤ 2 ^ 8
      small f w = le_trans (approximation_le m c.low f w) (pow_mono {j = 8} (omega (arith, few)))

      pub crossing : (limit : ℕ) → 2 ^ 8 ≤ limit → Halves limit h after_upper
      crossing limit fits =
          to_cross h out room lower l₁ as_lower upper l₂ as_upper limit
          (λ k lt. le_trans (small (at (take h table)) k) fits) (λ k lt. le_trans (small (at (drop h table)) k) fits)

      pub same_long : length after_upper ≡ length out
      same_long = halves.length_after_upper h out room lower l₁ as_lower upper l₂ as_upper ∙ sym room

      lower_is : (w : ℕ) → approximation m (at table) w ≡ lower w
      lower_is w = approximation_cong m _ _ w (λ x lt. halves.lower_entry 0 h table x (omega (arith, half)))

      upper_is : (w : ℕ) → approximation m (λ x. at table (2 ^ m + x)) w ≡ upper w
      upper_is w = approximation_cong m _ _ w (λ x lt. halves.upper_entry 0 h table x (2 ^ m) half)

      abbrev whole : ℕ → ℤ
      whole w = approximation (suc m) (at table) w

      sums_are : (k : ℕ) → k < h → whole k ≡ lower k +ℤ upper k
      sums_are k lt =
          approximation_low m c.low (at table) k (λ x l. c.ready.read.bits x) (omega (arith, half))
          ∙ ap₂ (λ (a b : ℤ). a +ℤ b) (lower_is k) (upper_is k)

      differences_are : (k : ℕ) → k < h → whole (h + k) ≡ lower k -ℤ upper k
      differences_are k lt =
          ap (λ (j : ℕ). whole (j + k)) half
          ∙ approximation_high m c.low (at table) k (λ x l. c.ready.read.bits x) (omega (arith, half))
          ∙ ap₂ (λ (a b : ℤ). a -ℤ b) (lower_is k) (upper_is k)

      as_spectrum : list_below (h + h) whole ≡ spectrum n (at table)
      unfolding spectrum
      as_spectrum = ap₂ (λ (j k : ℕ). list_below j (λ w. approximation k (at table) w)) (sym size ∙ c.ready.read.size) (sym c.one_less)

      pub right : (new : List ℤ) → length new ≡ length after_upper → Crossed h after_upper new → new ≡ spectrum n (at table)
      right new kept crossed =
          crossed_is h out room lower l₁ as_lower upper l₂ as_upper new kept crossed whole sums_are differences_are ∙ as_spectrum

      -- the largest magnitude needs no butterfly
      pub peak_is : largest_sum h after_upper ≡ largest_magnitude (spectrum n (at table))
      peak_is =
          sym (crossed_largest h after_upper (list_below (h + h) whole) (length_list_below (h + h) whole)
          (crosses h out room lower l₁ as_lower upper l₂ as_upper whole sums_are differences_are))
          ∙ ap largest_magnitude as_spectrum
