-- The two tests on numbers, `inRange` and `all_below`, against the bounds that they stand for.
-- Assumes nothing.
use Prim.Native.Nat.{ℕ, ◌<◌, ◌≤◌}
use mathlib.Core.Path.{◌≡◌, refl, sym, subst, ◌∙◌}
use mathlib.Core.Bool.{Bool, true, false}
use mathlib.Core.Logic.{◌⊎◌, inl, inr}
use mathlib.Core.List.{List}
use native.Mathlib.Nat.{not-suc-le-zero}
use native.Mathlib.Decide.{dec_lt}
use native.Mathlib.Omega.{arith}
use borrow.Author.Tests.{leb-true, ltb-true, le-leb, lt-ltb}
use lib.Dec.{leb, ltb}
use lib.ListN.{length, get_or-eq_default}
use Rattle.boolean.specs.Functions.{at}
use Rattle.boolean.specs.Sums.{largest_below}
use Rattle.boolean.proofs.Every.{both, both_true, every_at, every_of}
use Rattle.boolean.proofs.Largest.{le_largest, largest_reached}
use Rattle.refusals.specs.Table.{in_range, all_below}

-- inRange: its two bounds, and back
pub range_low : (lo hi a : ℕ) → in_range lo hi a ≡ true → lo ≤ a
range_low lo hi a h = leb-true lo a (both (leb lo a) (leb a hi) h).0

pub range_high : (lo hi a : ℕ) → in_range lo hi a ≡ true → a ≤ hi
range_high lo hi a h = leb-true a hi (both (leb lo a) (leb a hi) h).1

pub range_true : (lo hi a : ℕ) → lo ≤ a → a ≤ hi → in_range lo hi a ≡ true
range_true lo hi a p q = both_true (leb lo a) (leb a hi) (le-leb lo a p) (le-leb a hi q)

-- all_below: every entry is below the limit, those past the end too, which are 0; and back
pub below_at : (limit : ℕ) (xs : List ℕ) → 0 < limit → all_below limit xs ≡ true → (x : ℕ) → at xs x < limit
below_at limit xs z h x = go (dec_lt x (length xs))
  where
    go : Dec (x < length xs) → at xs x < limit
    go (yes l) = ltb-true (at xs x) limit (every_at (λ y. ltb y limit) 0 xs h x l)
    go (no g) = subst (λ (y : ℕ). y < limit) (sym (get_or-eq_default xs 0 (let ge : length xs ≤ x = omega arith in ge))) z

pub below_true : (limit : ℕ) (xs : List ℕ) → ((x : ℕ) → x < length xs → at xs x < limit) → all_below limit xs ≡ true
below_true limit xs h = every_of (λ y. ltb y limit) 0 xs (λ x l. lt-ltb (at xs x) limit (h x l))

-- Where there is a member, every member is below the limit exactly if the largest is: the members are the numbers that a rule gives.
pub largest_below_lem : (limit : ℕ) (xs : List ℕ) (f : ℕ → ℕ) → 0 < length xs → ((x : ℕ) → x < length xs → at xs x ≡ f x)
    → ltb (largest_below (length xs) f) limit ≡ all_below limit xs
largest_below_lem limit xs f some is = go (ltb most limit) refl (all_below limit xs) refl
  where
    most : ℕ
    most = largest_below (length xs) f

    member : all_below limit xs ≡ true → (x : ℕ) → x < length xs → f x < limit
    member h x l = subst (λ (y : ℕ). y < limit) (is x l) (ltb-true (at xs x) limit (every_at (λ y. ltb y limit) 0 xs h x l))

    below : all_below limit xs ≡ true → most < limit
    below h = pick (largest_reached (length xs) f)
      where
        pick : (most ≡ 0) ⊎ ((x : ℕ) × (x < length xs) × (f x ≡ most)) → most < limit
        pick (inl e) = omega (arith, e, member h 0 some)
        pick (inr t) = omega (arith, t.2, member h t.0 t.1)

    back : most < limit → all_below limit xs ≡ true
    back l = below_true limit xs (λ x i. omega (arith, is x i, le_largest (length xs) f x i, l))

    go : (t : Bool) → ltb most limit ≡ t → (u : Bool) → all_below limit xs ≡ u → t ≡ u
    go true e true d = refl
    go true e false d = sym (back (ltb-true most limit e)) ∙ d
    go false e true d = sym e ∙ lt-ltb most limit (below d)
    go false e false d = refl

-- where there is no member, every member is
pub none_below : (limit : ℕ) (xs : List ℕ) → length xs ≡ 0 → true ≡ all_below limit xs
none_below limit xs none = sym (below_true limit xs (λ x l. absurd (not-suc-le-zero (subst (λ (k : ℕ). x < k) none l))))
