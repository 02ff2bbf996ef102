-- The list of the changes within a limit, made one change after the other, and the scans of it. Assumes nothing.
use mathlib.Core.Path.{◌≡◌, refl, sym, ap, ◌∙◌, subst}
use mathlib.Core.List.{List, [], ◌∷◌, ◌++◌}
use mathlib.Core.Logic.{◌⊎◌, inl, inr}
use Prim.Native.Nat.{ℕ, ◌+◌, ◌<◌, ◌≤◌, max}
use native.Mathlib.Numerals.{add-one}
use native.Mathlib.Omega.{arith}
use native.Mathlib.Decide.{ℕ_discrete, dec_lt}
use lib.Count.{ones}
use lib.IntN.{ℤ, nat_abs}
use lib.ListN.{length, set, take, length-append, get_or-append}
use lib.Seq.{take-suc-set, get_or-append_seam}
use Rattle.boolean.specs.Functions.{at, value_at, MaskWithin}
use Rattle.boolean.specs.Sums.{largest_below}
use Rattle.boolean.proofs.Largest.{le_largest, largest_reached}
use Rattle.avalanche.specs.Work.{FirstWithin, Listed, LargestListed, FirstListed}

-- ---- the list, made one change after the other
module _ {j s : ℕ} {list : List ℕ} (d : Listed j s list) where
  wider : {t : ℕ} → MaskWithin j s t → MaskWithin j (s + 1) t
  wider w = record { low = w.low; high = omega (arith, w.high); few = w.few }

  narrower : {t : ℕ} → MaskWithin j (s + 1) t → (t ≡ s → ⊥) → MaskWithin j s t
  narrower w h = record { low = w.low; high = omega (arith, w.high); few = w.few }

  -- a change of more ones is passed over
  pub listed_skips : j < ones s → Listed j (s + 1) list
  listed_skips h = record {
    within = λ k l. wider (d.within k l);
    all = λ t w. d.all t (narrower w (λ e. omega (arith, w.few, ap ones e)));
    rises = d.rises;
  }

  module _ (low : 1 ≤ s) (few : ones s ≤ j) where
    before : (k : ℕ) → k < length list → at (list ++ s ∷ []) k ≡ at list k
    before k l = get_or-append list (s ∷ []) 0 k l

    new : (k : ℕ) → k ≡ length list → at (list ++ s ∷ []) k ≡ s
    new k e = ap (at (list ++ s ∷ [])) e ∙ get_or-append_seam list s [] 0

    size : length (list ++ s ∷ []) ≡ length list + 1
    size = length-append list (s ∷ [])

    -- another is listed last
    pub listed_more : Listed j (s + 1) (list ++ s ∷ [])
    listed_more = record {
      within = λ k l. at_most k (omega (arith, size)) (dec_lt k (length list));
      all = λ t w. found t w (ℕ_discrete t s);
      rises = λ h k l m. up h k l (omega (arith, size)) (dec_lt k (length list));
    }
      where
        at_most : (k : ℕ) → k < length list + 1 → Dec (k < length list) → MaskWithin j (s + 1) (at (list ++ s ∷ []) k)
        at_most k l (yes m) = subst (MaskWithin j (s + 1)) (sym (before k m)) (wider (d.within k m))
        at_most k l (no m) = subst (MaskWithin j (s + 1)) (sym (new k (omega arith))) (record { low = low; high = omega arith; few = few })

        found : (t : ℕ) → MaskWithin j (s + 1) t → Dec (t ≡ s) → (k : ℕ) × (k < length (list ++ s ∷ [])) × (at (list ++ s ∷ []) k ≡ t)
        found t w (yes e) = (length list, omega (arith, size), new (length list) refl ∙ sym e)
        found t w (no e) =
            let p = d.all t (narrower w e) in
            (p.0, omega (arith, size, p.1), before p.0 p.1 ∙ p.2)

        up : (h k : ℕ) → h < k → k < length list + 1 → Dec (k < length list) → at (list ++ s ∷ []) h < at (list ++ s ∷ []) k
        up h k l m (yes n) = omega (arith, before h (omega arith), before k n, d.rises h k l n)
        up h k l m (no n) = omega (arith, before h (omega arith), new k (omega arith), (d.within h (omega arith)).high)

-- the same in an array, of which the list is the start
pub listed_takes : (j s count : ℕ) (array : List ℕ) → Listed j s (take count array) → 1 ≤ s → ones s ≤ j → count < length array
    → Listed j (s + 1) (take (count + 1) (set array count s))
listed_takes j s count array d low few l =
    subst (Listed j (s + 1)) (sym (ap (λ (k : ℕ). take k (set array count s)) (add-one count) ∙ take-suc-set array count s l)) (listed_more d low few)

-- ---- the largest at the places of the list, one place after the other
pub largest_more : (k : ℕ) (f : ℕ → ℕ) {most here : ℕ} → most ≡ largest_below k f → here ≡ f k → max here most ≡ largest_below (k + 1) f
unfolding largest_below
largest_more k f e h = rw (add-one k) (omega (arith, e, h))

pub largest_listed : (values : List ℤ) (list : List ℕ) {largest : ℕ} → largest ≡ largest_below (length list) (λ k. nat_abs (value_at values (at list k)))
    → LargestListed values list largest
largest_listed values list {largest} e = record {
  bounds = λ k l. omega (arith, e, le_largest (length list) sizes k l);
  reached = λ p. go p (largest_reached (length list) sizes);
}
  where
    sizes : ℕ → ℕ
    sizes k = nat_abs (value_at values (at list k))

    go : 0 < largest → (largest_below (length list) sizes ≡ 0) ⊎ ((k : ℕ) × (k < length list) × (sizes k ≡ largest_below (length list) sizes))
        → (k : ℕ) × (k < length list) × (sizes k ≡ largest)
    go p (inl z) = absurd (omega (arith, e, z))
    go p (inr t) = (t.0, t.1, t.2 ∙ sym e)

-- ---- what is looked at is what is within the limit
module _ (values : List ℤ) {j : ℕ} {list : List ℕ} (d : Listed j (length values) list) where
  pub first_listed_within : {size s : ℕ} → FirstListed values list size s → FirstWithin values j size s
  first_listed_within {size} {s} h = record {
    within = subst (MaskWithin j (length values)) h.is (d.within h.place h.inside);
    has = h.has;
    first = λ t l w q. earlier t l q (d.all t w);
  }
    where
      earlier : (t : ℕ) → t < s → nat_abs (value_at values t) ≡ size → (k : ℕ) × (k < length list) × (at list k ≡ t) → ⊥
      earlier t l q p = go (dec_lt p.0 h.place) (ℕ_discrete p.0 h.place)
        where
          go : Dec (p.0 < h.place) → Dec (p.0 ≡ h.place) → ⊥
          go (yes m) z = h.first p.0 m (ap (λ (z : ℕ). nat_abs (value_at values z)) p.2 ∙ q)
          go (no m) (yes e) = omega (arith, p.2, h.is, ap (at list) e)
          go (no m) (no e) = omega (arith, p.2, h.is, d.rises h.place p.0 (omega arith) p.1)
