-- What the loops that read a text need to know of its lines, its widths and its digits. Assumes nothing.
use Prim.Native.Nat.{ℕ, suc, ◌+◌, ◌-◌, ◌^◌, ◌≤◌, ◌<◌, zero-le}
use mathlib.Core.Path.{◌≡◌, refl, sym, ap, ◌∙◌}
use mathlib.Core.Bool.{Bool, true, false, cond}
use mathlib.Core.List.{List, ◌∷◌}
use native.Mathlib.Numerals.{add-one}
use native.Mathlib.Omega.{arith}
use borrow.Author.Tests.{leb-true, leb-false, le-leb, lt-ltb, le-ltb, eq-eqb, ne_eqb}
use lib.Dec.{leb}
use lib.ListN.{length, take, drop, length-map, drop_of_length-le, get_or-map}
use lib.Pow.{pow_mono}
use lib.Seq.{drop-cons, get_or-take, length-take-le}
use Rattle.boolean.specs.Sums.{list_below}
use Rattle.boolean.specs.Functions.{at}
use Rattle.boolean.proofs.Largest.{largest_le, le_largest}
use Rattle.boolean.proofs.Lists.{list_is}
use Rattle.spectra.specs.Reading.{line_length, line_end, width_of, digit_of, digits_of}

-- ---- Where a line ends: at a line end, at the end of the text, or else where it ends from the next byte on.
module _ (text : List ℕ) (i : ℕ) where
  module _ (inside : i < length text) where
    rest : drop i text ≡ at text i ∷ drop (suc i) text
    rest = drop-cons text i 0 inside

    pub ends_here : at text i ≡ 10 → i ≡ line_end text i
    unfolding line_end line_length
    ends_here e =
        let none : line_length (drop i text) ≡ 0 = ap line_length rest ∙ rw (eq-eqb (at text i) 10 e, line_length) in
        omega (arith, none)

    pub ends_further : ¬ (at text i ≡ 10) → line_end text i ≡ line_end text (i + 1)
    unfolding line_end line_length
    ends_further ne =
        let more : line_length (drop i text) ≡ suc (line_length (drop (suc i) text)) = ap line_length rest ∙ rw (ne_eqb (at text i) 10 ne, line_length) in
        let next : line_length (drop (i + 1) text) ≡ line_length (drop (suc i) text) = ap (λ (j : ℕ). line_length (drop j text)) (add-one i) in
        omega (arith, more, next)

  pub ends_with_text : length text ≤ i → i ≡ line_end text i
  unfolding line_end line_length
  ends_with_text past =
      let none : line_length (drop i text) ≡ 0 = ap line_length (drop_of_length-le text past) in
      omega (arith, none)

-- ---- The largest width.
narrower : (k n : ℕ) → 2 ^ k < 2 ^ (n + 1) → k ≤ n
narrower k n l = by (leb k n) refl
  where
    by : (t : Bool) → leb k n ≡ t → k ≤ n
    by true e = leb-true k n e
    by false e =
        let wide : n + 1 ≤ k = omega (arith, leb-false k n e) in
        let more : 2 ^ (n + 1) ≤ 2 ^ k = pow_mono wide in
        absurd (omega arith)

module _ (size : ℕ) where
  -- a width whose tables are no longer is reached
  pub width_reached : (n : ℕ) → n ≤ 8 → 2 ^ n ≤ size → n ≤ width_of size
  unfolding width_of
  width_reached n few fits =
      let is : cond (leb (2 ^ n) size) n 0 ≡ n = rw (le-leb (2 ^ n) size fits) in
      omega (arith, is, le_largest 9 (λ k. cond (leb (2 ^ k) size) k 0) n (omega arith))

  -- and none past one whose tables are longer, nor past 8
  pub width_below : (n : ℕ) → size < 2 ^ (n + 1) → width_of size ≤ n
  unfolding width_of
  width_below n short = largest_le 9 n (λ k. cond (leb (2 ^ k) size) k 0) (λ k l. by k (leb (2 ^ k) size) refl)
    where
      by : (k : ℕ) (t : Bool) → leb (2 ^ k) size ≡ t → cond t k 0 ≤ n
      by k true e = narrower k n (omega (arith, leb-true (2 ^ k) size e))
      by k false e = zero-le

  pub width_most : width_of size ≤ 8
  unfolding width_of
  width_most = largest_le 9 8 (λ k. cond (leb (2 ^ k) size) k 0) (λ k l. by k (leb (2 ^ k) size) l)
    where
      by : (k : ℕ) (t : Bool) → k < 9 → cond t k 0 ≤ 8
      by k true l = omega arith
      by k false l = zero-le

-- ---- The digits, one by one and as a list.
pub digit_before : (byte : ℕ) → byte < 48 → 255 ≡ digit_of byte
unfolding digit_of
digit_before byte l = sym (rw (lt-ltb byte 48 l))

pub digit_from : (byte : ℕ) → 48 ≤ byte → byte - 48 ≡ digit_of byte
unfolding digit_of
digit_from byte l = sym (rw (le-ltb byte 48 l))

pub digits_are : (text : List ℕ) (k : ℕ) → k ≤ length text → list_below k (λ x. digit_of (at text x)) ≡ digits_of text k
unfolding digits_of
digits_are text k fits =
    sym (list_is (digit_of 0) k (λ x. digit_of (at text x)) (digits_of text k)
    (length-map (take k text) digit_of ∙ length-take-le k text fits)
    (λ x l. get_or-map digit_of (take k text) x 0 ∙ ap digit_of (get_or-take k text x 0 l)))
