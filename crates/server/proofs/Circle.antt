-- The first place that passes a test, and the places of a circle. Assumes nothing.
use Prim.Native.Nat.{ℕ, zero, suc, ◌+◌, ◌-◌, ◌*◌, ◌%◌, ◌<◌, ◌≤◌}
use mathlib.Core.Path.{◌≡◌, refl, sym, ap, ◌∙◌}
use mathlib.Core.Bool.{Bool, true, false, true≢false}
use mathlib.Core.List.{List, [], ◌∷◌}
use native.Mathlib.Nat.{le_refl}
use native.Mathlib.Omega.{arith}
use native.Mathlib.Decide.{ℕ_discrete}
use Rattle.boolean.specs.Sums.{list_from, first_of}
use Rattle.boolean.specs.Functions.{at}
use Rattle.boolean.proofs.FirstOf.{first_takes, first_skips, first_cong}
use Rattle.server.specs.Model.{first_place}

module _ (p : ℕ → Bool) where
  hit : (x : ℕ) (xs : List ℕ) → p x ≡ true → first_place p (x ∷ xs) ≡ x
  hit x xs e = ap (λ (l : List ℕ). at l 0) (first_takes p x xs e)

  miss : (x : ℕ) (xs : List ℕ) → p x ≡ false → first_place p (x ∷ xs) ≡ first_place p xs
  miss x xs e = ap (λ (l : List ℕ). at l 0) (first_skips p x xs e)

  -- what is found passes the test
  pub found_passes : (xs : List ℕ) (i : ℕ) → first_place p xs ≡ suc i → p (suc i) ≡ true
  unfolding first_of
  found_passes [] i e = absurd (omega arith)
  found_passes (x ∷ xs) i e = go (p x) refl (λ f. found_passes xs i f)
    where
      go : (t : Bool) → p x ≡ t → (first_place p xs ≡ suc i → p (suc i) ≡ true) → p (suc i) ≡ true
      go true h rec = ap p (sym e ∙ hit x xs h) ∙ h
      go false h rec = rec (sym (miss x xs h) ∙ e)

  -- what is found is 0, or one of the numbers: at most as large as they are
  pub found_high : {g : ℕ → ℕ} {most : ℕ} → ((j : ℕ) → g j ≤ most) → (i k : ℕ) → first_place p (list_from i k g) ≤ most
  unfolding list_from first_of
  found_high {g} {most} h i zero = omega arith
  found_high {g} {most} h i (suc k) = go (p (g i)) refl (found_high h (suc i) k)
    where
      go : (t : Bool) → p (g i) ≡ t → first_place p (list_from (suc i) k g) ≤ most → first_place p (g i ∷ list_from (suc i) k g) ≤ most
      go true e rec = omega (arith, hit (g i) (list_from (suc i) k g) e, h i)
      go false e rec = omega (arith, miss (g i) (list_from (suc i) k g) e)

  -- where g j passes, one is found, and no later than it
  pub found_by : (g : ℕ → ℕ) (i k j : ℕ) → i ≤ j → j < i + k → p (g j) ≡ true → (h : ℕ) × (i ≤ h) × (h ≤ j) × (first_place p (list_from i k g) ≡ g h)
  unfolding list_from
  found_by g i zero j l m e = absurd (omega arith)
  found_by g i (suc k) j l m e = go (p (g i)) refl (λ n. found_by g (suc i) k j n (omega arith) e)
    where
      go : (t : Bool) → p (g i) ≡ t → (suc i ≤ j → (h : ℕ) × (suc i ≤ h) × (h ≤ j) × (first_place p (list_from (suc i) k g) ≡ g h))
          → (h : ℕ) × (i ≤ h) × (h ≤ j) × (first_place p (g i ∷ list_from (suc i) k g) ≡ g h)
      go true h rec = (i, le_refl i, l, hit (g i) (list_from (suc i) k g) h)
      go false h rec =
          let other : i ≡ j → ⊥ = λ q. true≢false (sym e ∙ ap (λ (z : ℕ). p (g z)) (sym q) ∙ h) in
          let t = rec (omega arith) in
          (t.0, omega (arith, t.1), t.2, miss (g i) (list_from (suc i) k g) h ∙ t.3)

  -- where none before g j passes and g j does, it is found; where none passes, none is
  pub found_first : (g : ℕ → ℕ) (i k j : ℕ) → i ≤ j → j < i + k → p (g j) ≡ true → ((h : ℕ) → i ≤ h → h < j → p (g h) ≡ false) → first_place p (list_from i k g) ≡ g j
  unfolding list_from
  found_first g i zero j l m e f = absurd (omega arith)
  found_first g i (suc k) j l m e f = go (ℕ_discrete i j) (λ n. found_first g (suc i) k j n (omega arith) e (λ h a b. f h (omega arith) b))
    where
      go : Dec (i ≡ j) → (suc i ≤ j → first_place p (list_from (suc i) k g) ≡ g j) → first_place p (g i ∷ list_from (suc i) k g) ≡ g j
      go (yes q) rec = hit (g i) (list_from (suc i) k g) (ap (λ (z : ℕ). p (g z)) q ∙ e) ∙ ap g q
      go (no q) rec = miss (g i) (list_from (suc i) k g) (f i (le_refl i) (omega arith)) ∙ rec (omega arith)

  pub found_none : (g : ℕ → ℕ) (i k : ℕ) → ((h : ℕ) → i ≤ h → h < i + k → p (g h) ≡ false) → first_place p (list_from i k g) ≡ 0
  unfolding list_from first_of
  found_none g i zero f = refl
  found_none g i (suc k) f = miss (g i) (list_from (suc i) k g) (f i (le_refl i) (omega arith)) ∙ found_none g (suc i) k (λ h a b. f h (omega arith) (omega arith))

-- two tests that agree on each of the numbers find the same one
pub found_cong : (p q : ℕ → Bool) (g : ℕ → ℕ) → ((j : ℕ) → p (g j) ≡ q (g j)) → (i k : ℕ) → first_place p (list_from i k g) ≡ first_place q (list_from i k g)
found_cong p q g e i k = ap (λ (l : List ℕ). at l 0) (first_cong p q g e i k)

-- place q stands somewhere in the circle
pub somewhere : (last q : ℕ) → 1 ≤ q → q ≤ 8 → (j : ℕ) × (j < 8) × ((last + j) % 8 + 1 ≡ q)
somewhere last q l h = ((q - 1 + 7 * last) % 8, omega arith, omega arith)
