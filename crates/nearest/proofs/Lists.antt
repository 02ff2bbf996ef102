-- Places and members of a list, places of a list whose ranks rise, and stores in an empty list. Assumes nothing.
use mathlib.Core.Path.{◌≡◌, refl, sym}
use mathlib.Core.Logic.{◌⊎◌, inl, inr}
use mathlib.Core.List.Memᴰ
use mathlib.Core.List.{List, [], ◌∷◌, Memᴰ}
use Prim.Native.Nat.{ℕ, zero, suc, ◌<◌}
use native.Mathlib.Nat.{not-suc-le-zero, le_of_suc-le-suc, zero-lt-suc}
use native.Mathlib.Omega.{arith}
use lib.ListN.{length, get_or}
use lib.Seq.{sets}
use Rattle.boolean.specs.Selection.{Ascending}

module _ {A : Type 0} (d : A) where
  -- what holds of the members holds at each place
  pub at_each : (P : A → Type 0) (xs : List A) → ((x : A) → Memᴰ x xs → P x) → (s : ℕ) → s < length xs → P (get_or xs s d)
  at_each P [] h s l = absurd (not-suc-le-zero l)
  at_each P (x ∷ xs) h zero l = h x (Memᴰ.head refl)
  at_each P (x ∷ xs) h (suc s) l = at_each P xs (λ y m. h y (Memᴰ.tail m)) s (le_of_suc-le-suc l)

  -- a member has a place
  pub place_of : (xs : List A) (x : A) → Memᴰ x xs → (s : ℕ) × (s < length xs) × (get_or xs s d ≡ x)
  place_of [] x m = absurd (Memᴰ.not-nil m)
  place_of (y ∷ xs) x m = pick (Memᴰ.cases_cons m) (place_of xs x)
    where
      pick : (x ≡ y) ⊎ Memᴰ x xs → (Memᴰ x xs → (s : ℕ) × (s < length xs) × (get_or xs s d ≡ x))
          → (s : ℕ) × (s < length (y ∷ xs)) × (get_or (y ∷ xs) s d ≡ x)
      pick (inl e) rest = (0, zero-lt-suc (length xs), sym e)
      pick (inr k) rest = let t = rest k in (suc t.0, omega (arith, t.1), t.2)

  -- ranks that rise along a list rise with the places
  pub ascending_places : (rank : A → ℕ) (xs : List A) → Ascending rank xs → (s t : ℕ) → s < t → t < length xs → rank (get_or xs s d) < rank (get_or xs t d)
  ascending_places rank [] a s t l h = absurd (not-suc-le-zero h)
  ascending_places rank (x ∷ xs) a s zero l h = absurd (not-suc-le-zero l)
  ascending_places rank (x ∷ xs) a zero (suc t) l h = at_each (λ y. rank x < rank y) xs a.0 t (le_of_suc-le-suc h)
  ascending_places rank (x ∷ xs) a (suc s) (suc t) l h = ascending_places rank xs a.1 s t (le_of_suc-le-suc l) (le_of_suc-le-suc h)

-- what is stored in an empty list is nowhere
pub sets_nowhere : {A : Type 0} (i : ℕ) (xs : List A) → sets [] i xs ≡ []
sets_nowhere i [] = refl
sets_nowhere i (x ∷ xs) = sets_nowhere (suc i) xs
