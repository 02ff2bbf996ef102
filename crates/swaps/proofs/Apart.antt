-- A swap and one pair: the pair differs at more inputs after it only where it agrees at both of the swapped inputs and the component has unlike
-- values there. Assumes nothing.
use mathlib.Core.Path.{◌≡◌, refl, sym, ap, ◌∙◌}
use mathlib.Core.Logic.{◌≢◌}
use mathlib.Core.Bool.{Bool, true, false, not, cond, ◌||◌}
use mathlib.Core.List.{List}
use Prim.Native.Nat.{ℕ, zero, suc, ◌+◌, ◌^◌, ◌<◌, ◌≤◌}
use native.Mathlib.Nat.{le_of_eq, zero-lt-suc}
use native.Mathlib.Decide.{ℕ_discrete}
use native.Mathlib.Omega.{arith}
use borrow.Author.Tests.{leb-true, eq-eqb, ne_eqb}
use lib.Bits.{bit_and, bit_xor}
use lib.Dec.{T, eqb, leb}
use lib.ListN.{length, set, length-set}
use lib.Seq.{get_or-set_same, get_or-set_other}
use Rattle.boolean.specs.Bits.{affine, parity}
use Rattle.boolean.specs.Functions.{at, component, distance, swapped}
use Rattle.boolean.specs.Sums.{count_below, one_if}
use Rattle.boolean.proofs.Cases.{all5}
use Rattle.boolean.proofs.Counts.{count_cong}
use Rattle.boolean.proofs.Digits.{affine_lt, component_lt}
use Rattle.swaps.specs.Work.{entry_of}

-- ---- counts of two tests that differ at one number, and at two
count_one : (k l : ℕ) (p q : ℕ → Bool) → l < k → ((x : ℕ) → x ≢ l → p x ≡ q x) → count_below k q + one_if (p l) ≡ count_below k p + one_if (q l)
unfolding count_below
count_one zero l p q h e = absurd (omega arith)
count_one (suc k) l p q h e = go (ℕ_discrete l k) (λ r. count_one k l p q r e)
  where
    go : Dec (l ≡ k) → (l < k → count_below k q + one_if (p l) ≡ count_below k p + one_if (q l))
        → count_below k q + one_if (q k) + one_if (p l) ≡ count_below k p + one_if (p k) + one_if (q l)
    go (yes r) rec = omega (arith, count_cong k p q (λ x lx. e x (λ z. omega arith)), ap (λ (x : ℕ). one_if (p x)) r, ap (λ (x : ℕ). one_if (q x)) r)
    go (no r) rec = omega (arith, rec (omega arith), ap one_if (e k (λ z. r (sym z))))

count_two : (k l h : ℕ) (p q : ℕ → Bool) → l < k → h < k → l ≢ h → ((x : ℕ) → x ≢ l → x ≢ h → p x ≡ q x)
    → count_below k q + one_if (p l) + one_if (p h) ≡ count_below k p + one_if (q l) + one_if (q h)
count_two k l h p q hl hh ne e =
    omega (arith, count_one k l p r hl (λ x d. sym (off x d)), count_one k h r q hh other, ap one_if on, ap one_if (off h (λ z. ne (sym z))))
  where
    r : ℕ → Bool
    r x = cond (eqb x l) (q l) (p x)

    on : r l ≡ q l
    on = ap (λ (b : Bool). cond b (q l) (p l)) (eq-eqb l l refl)

    off : (x : ℕ) → x ≢ l → r x ≡ p x
    off x d = ap (λ (b : Bool). cond b (q l) (p x)) (ne_eqb x l d)

    other : (x : ℕ) → x ≢ h → r x ≡ q x
    other x d = pick (ℕ_discrete x l)
      where
        pick : Dec (x ≡ l) → r x ≡ q x
        pick (yes z) = ap r z ∙ on ∙ ap q (sym z)
        pick (no z) = off x z ∙ e x z d

-- ---- the rows after a swap, at each input
module _ (rows : List ℕ) (l h : ℕ) (hl : l < length rows) (hh : h < length rows) (c : ℕ) where
  abbrev after : ℕ → ℕ
  after x = component (swapped rows l h) c x

  at_high : after h ≡ component rows c l
  unfolding swapped component
  at_high = ap (λ (z : ℕ). parity (bit_and z c)) (get_or-set_same (set rows l (at rows h)) h (at rows l) 0 (omega (arith, length-set rows l (at rows h))))

  at_low : l ≢ h → after l ≡ component rows c h
  unfolding swapped component
  at_low ne = ap (λ (z : ℕ). parity (bit_and z c)) (get_or-set_other (set rows l (at rows h)) h l (at rows l) 0 ne ∙ get_or-set_same rows l (at rows h) 0 hl)

  elsewhere : (x : ℕ) → x ≢ l → x ≢ h → after x ≡ component rows c x
  unfolding swapped component
  elsewhere x p q = ap (λ (z : ℕ). parity (bit_and z c)) (get_or-set_other (set rows l (at rows h)) h x (at rows l) 0 q ∙ get_or-set_other rows l x (at rows h) 0 p)

  -- like values stay
  like_stays : component rows c l ≡ component rows c h → (x : ℕ) → after x ≡ component rows c x
  like_stays e x = pick (ℕ_discrete x h) (ℕ_discrete x l)
    where
      pick : Dec (x ≡ h) → Dec (x ≡ l) → after x ≡ component rows c x
      pick (yes z) d = ap after z ∙ at_high ∙ e ∙ ap (component rows c) (sym z)
      pick (no z) (yes y) = ap after y ∙ at_low (λ q. z (y ∙ q)) ∙ sym e ∙ ap (component rows c) (sym y)
      pick (no z) (no y) = elsewhere x y z

-- ---- of the bits at the two inputs
abbrev stays : ℕ → ℕ → ℕ → ℕ → Bool
stays fl fh al ah = leb (one_if (not (eqb fh al)) + one_if (not (eqb fl ah))) (one_if (not (eqb fl al)) + one_if (not (eqb fh ah)))

abbrev apart : ℕ → ℕ → ℕ → ℕ → Bool
apart fl fh al ah = eqb (bit_xor (entry_of fl al) (entry_of fh ah)) 3

bits_stay : (fl fh al ah : ℕ) → fl < 2 → fh < 2 → al < 2 → ah < 2 → apart fl fh al ah ≡ false → stays fl fh al ah ≡ true
unfolding one_if entry_of
bits_stay fl fh al ah hf hg ha hb e =
    go (apart fl fh al ah) (stays fl fh al ah) e
    (all5 (λ fl fh al ah z. apart fl fh al ah || stays fl fh al ah) tt fl fh al ah 0 hf hg ha hb (zero-lt-suc 1))
  where
    go : (s t : Bool) → s ≡ false → T (s || t) → t ≡ true
    go true t q h = absurd (let k : ◌≡◌ {A = ℕ} 0 1 = cc in omega arith)
    go false true q h = refl
    go false false q h = absurd h

module _ (n : ℕ) (rows : List ℕ) (size : length rows ≡ 2 ^ n) (c w b : ℕ) (hb : b < 2) (l h : ℕ) (hl : l < 2 ^ n) (hh : h < 2 ^ n) where
  pub pair_stays : eqb (bit_xor (entry_of (component rows c l) (affine w b l)) (entry_of (component rows c h) (affine w b h))) 3 ≡ false
      → distance n (component (swapped rows l h) c) w b ≤ distance n (component rows c) w b
  unfolding distance
  pair_stays e = pick (ℕ_discrete (f l) (f h))
    where
      f : ℕ → ℕ
      f x = component rows c x

      g : ℕ → ℕ
      g x = component (swapped rows l h) c x

      p : ℕ → Bool
      p x = not (eqb (f x) (affine w b x))

      q : ℕ → Bool
      q x = not (eqb (g x) (affine w b x))

      il : l < length rows
      il = omega arith

      ih : h < length rows
      ih = omega arith

      pick : Dec (f l ≡ f h) → count_below (2 ^ n) q ≤ count_below (2 ^ n) p
      pick (yes z) = le_of_eq (count_cong (2 ^ n) q p (λ x k. ap (λ (v : ℕ). not (eqb v (affine w b x))) (like_stays rows l h il ih c z x)))
      pick (no z) =
          let ne : l ≢ h = λ y. z (ap f y) in
          let some : one_if (not (eqb (f h) (affine w b l))) + one_if (not (eqb (f l) (affine w b h))) ≤ one_if (p l) + one_if (p h) = leb-true _ _ (bits_stay (f l) (f h) (affine w b l) (affine w b h) (component_lt rows c l) (component_lt rows c h) (affine_lt w b l hb) (affine_lt w b h hb) e) in
          omega (
            arith,
            some,
            count_two (2 ^ n) l h p q hl hh ne (λ x d k. ap (λ (v : ℕ). not (eqb v (affine w b x))) (sym (elsewhere rows l h il ih c x d k))),
            ap (λ (v : ℕ). one_if (not (eqb v (affine w b l)))) (at_low rows l h il ih c ne),
            ap (λ (v : ℕ). one_if (not (eqb v (affine w b h)))) (at_high rows l h il ih c),
          )
