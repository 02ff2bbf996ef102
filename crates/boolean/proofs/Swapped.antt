-- Two rows exchanged: each has the other's value, and the other rows stay. Assumes nothing.
use Prim.Native.Nat.{ℕ, zero, suc, ◌<◌}
use mathlib.Core.Path.{◌≡◌, sym, ap, ◌∙◌}
use mathlib.Core.List.{List, [], ◌∷◌}
use native.Mathlib.Nat.{le_trans, le_of_eq}
use native.Mathlib.Decide.{ℕ_discrete}
use native.Mathlib.Omega.{arith}
use lib.ListN.{length, set, length-set}
use lib.Seq.{get_or-set_same, get_or-set_other}
use Rattle.boolean.specs.Functions.{at, swapped}

module _ (x y : ℕ) (rows : List ℕ) where
  pub length_swapped : length (swapped rows x y) ≡ length rows
  unfolding swapped
  length_swapped = length-set (set rows x (at rows y)) y (at rows x) ∙ length-set rows x (at rows y)

  -- what y has after the first store, whether or not it is x
  pub second_stored : x < length rows → at (set rows x (at rows y)) y ≡ at rows y
  second_stored l = pick (ℕ_discrete y x)
    where
      pick : Dec (y ≡ x) → at (set rows x (at rows y)) y ≡ at rows y
      pick (yes e) = ap (λ (k : ℕ). at (set rows x (at rows y)) k) e ∙ get_or-set_same rows x (at rows y) 0 l
      pick (no e) = get_or-set_other rows x y (at rows y) 0 e

  pub swapped_second : y < length rows → at (swapped rows x y) y ≡ at rows x
  unfolding swapped
  swapped_second l = get_or-set_same (set rows x (at rows y)) y (at rows x) 0 (le_trans l (le_of_eq (sym (length-set rows x (at rows y)))))

  pub swapped_first : x < length rows → at (swapped rows x y) x ≡ at rows y
  unfolding swapped
  swapped_first l = pick (ℕ_discrete x y)
    where
      pick : Dec (x ≡ y) → at (set (set rows x (at rows y)) y (at rows x)) x ≡ at rows y
      pick (yes e) =
          ap (λ (k : ℕ). at (set (set rows x (at rows y)) y (at rows x)) k) e
          ∙ get_or-set_same (set rows x (at rows y)) y (at rows x) 0 (omega (arith, length-set rows x (at rows y))) ∙ ap (at rows) e
      pick (no e) = get_or-set_other (set rows x (at rows y)) y x (at rows x) 0 e ∙ get_or-set_same rows x (at rows y) 0 l

  pub swapped_other : (k : ℕ) → (k ≡ x → ⊥) → (k ≡ y → ⊥) → at (swapped rows x y) k ≡ at rows k
  unfolding swapped
  swapped_other k p q = get_or-set_other (set rows x (at rows y)) y k (at rows x) 0 q ∙ get_or-set_other rows x k (at rows y) 0 p

-- a bound of all rows and of a value that is stored bounds all rows after the store
pub set_below : (l : List ℕ) (i v limit : ℕ) → v < limit → ((k : ℕ) → at l k < limit) → (k : ℕ) → at (set l i v) k < limit
set_below [] i v limit h b k = b k
set_below (a ∷ l) zero v limit h b zero = h
set_below (a ∷ l) zero v limit h b (suc k) = b (suc k)
set_below (a ∷ l) (suc i) v limit h b zero = b zero
set_below (a ∷ l) (suc i) v limit h b (suc k) = set_below l i v limit h (λ j. b (suc j)) k

pub swapped_below : (x y : ℕ) (rows : List ℕ) (limit : ℕ) → ((k : ℕ) → at rows k < limit) → (k : ℕ) → at (swapped rows x y) k < limit
unfolding swapped
swapped_below x y rows limit b = set_below (set rows x (at rows y)) y (at rows x) limit (b x) (set_below rows x (at rows y) limit (b y) b)
