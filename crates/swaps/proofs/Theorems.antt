-- What the reply says: of an accepted box, the first swap that raises the nonlinearity, by the bits in which the rows differ, the lower input,
-- then the higher; and none exactly where no swap raises it. Assumes nothing.
use Rattle.std.specs.Prelude.{Ok}
use mathlib.Core.Path.{◌≡◌, refl, sym, ap, ap₂, ◌∙◌}
use mathlib.Core.Logic.{◌↔◌, ◌⊎◌, inl, inr}
use mathlib.Core.Bool.{Bool, true, false}
use mathlib.Core.List.Memᴰ
use mathlib.Core.List.{List, [], ◌∷◌, Memᴰ}
use Prim.Native.Nat.{ℕ, suc, ◌+◌, ◌*◌, ◌-◌, ◌^◌, ◌<◌, ◌≤◌}
use native.Mathlib.Nat.{mul-le-mul_right, suc-mul}
use native.Mathlib.Decide.{dec_lt}
use native.Mathlib.Omega.{arith}
use borrow.Author.Tests.{ltb-true, ltb-false, le-ltb, eqb-true}
use lib.Bits.{bit_xor}
use lib.Count.{ones}
use lib.Dec.{eqb, lit≤}
use Rattle.boolean.specs.Functions.{at, swapped}
use Rattle.boolean.specs.Selection.{Ascending}
use Rattle.boolean.specs.Sums.{list_from, list_below, first_of}
use Rattle.boolean.proofs.Lists.{ascending_list_from, ascending_list_below, ascending_each, ascending_blocks}
use Rattle.boolean.proofs.Members.{if_kept, mem_if}
use Rattle.boolean.proofs.Selection.{first_ranked}
use Rattle.refusals.specs.Table.{Box, box_checks_up_to, first, figures}
use Rattle.refusals.proofs.Checks.{box_up_to, reply_accepted}
use Rattle.refusals.proofs.Swapped.{swapped_box}
use Rattle.linear.specs.Nonlinearity.{nonlinearity, nonlinearity_reply}
use Rattle.swaps.proofs.Accepted as calls
use Rattle.swaps.specs.Swaps.{Swap, figure_of, figure_after, swap_at, swaps_from, swaps_by, swaps, raises, shown_swap, raised, raising_reply}
use Rattle.swaps.specs.Statements.{IsSwap, row_distance, SwapBefore, InOrder, FirstRaising}
use Rattle.boolean.proofs.FirstOf.{first_takes, first_skips, first_none, none_first, first_is}
use Rattle.swaps.proofs.Members.{mem_swaps_from, mem_swaps_by, mem_swaps, in_swaps, first_mem}

-- ---- the list stands in that order
module _ (n : ℕ) (rows : List ℕ) where
  -- a swap's number
  abbrev rank : Swap → ℕ
  rank s = row_distance rows s * (2 ^ n * 2 ^ n) + s.low * 2 ^ n + s.high

  -- two inputs make a number below 2^n · 2^n
  both_below : (l h : ℕ) → l < 2 ^ n → h < 2 ^ n → l * 2 ^ n + h < 2 ^ n * 2 ^ n
  both_below l h p q = omega (arith, suc-mul l (2 ^ n), mul-le-mul_right (2 ^ n) p)

  before_rank : (t s : Swap) → t.low < 2 ^ n → t.high < 2 ^ n → SwapBefore rows t s → rank t < rank s
  before_rank t s p q (inl l) =
      omega (arith, both_below t.low t.high p q, suc-mul (row_distance rows t) (2 ^ n * 2 ^ n), mul-le-mul_right (2 ^ n * 2 ^ n) l)
  before_rank t s p q (inr (inl l)) =
      omega (arith, ap (λ (d : ℕ). d * (2 ^ n * 2 ^ n)) l.0, suc-mul t.low (2 ^ n), mul-le-mul_right (2 ^ n) l.1)
  before_rank t s p q (inr (inr l)) = omega (arith, ap (λ (d : ℕ). d * (2 ^ n * 2 ^ n)) l.0, ap (λ (d : ℕ). d * 2 ^ n) l.1)

  -- and back: of two numbers the lower is that of the swap that comes before
  rank_before : (t s : Swap) → s.low < 2 ^ n → s.high < 2 ^ n → rank t < rank s → SwapBefore rows t s
  rank_before t s p q l =
      by_distance (dec_lt (row_distance rows t) (row_distance rows s)) (dec_lt (row_distance rows s) (row_distance rows t))
    where
      not_after : SwapBefore rows s t → SwapBefore rows t s
      not_after b = absurd (omega (arith, before_rank s t p q b))

      by_low : row_distance rows t ≡ row_distance rows s → Dec (t.low < s.low) → Dec (s.low < t.low) → SwapBefore rows t s
      by_low d (yes h) k = inr (inl (d, h))
      by_low d (no h) (yes k) = not_after (inr (inl (sym d, k)))
      by_low d (no h) (no k) =
          let e : t.low ≡ s.low = omega arith in
          inr (inr (d, e, omega (arith, ap (λ (z : ℕ). z * (2 ^ n * 2 ^ n)) d, ap (λ (z : ℕ). z * 2 ^ n) e)))

      by_distance : Dec (row_distance rows t < row_distance rows s) → Dec (row_distance rows s < row_distance rows t) → SwapBefore rows t s
      by_distance (yes h) k = inl h
      by_distance (no h) (yes k) = not_after (inl k)
      by_distance (no h) (no k) = by_low (omega arith) (dec_lt t.low s.low) (dec_lt s.low t.low)

  mem_swap_at : (d low high : ℕ) (s : Swap) → Memᴰ s (swap_at rows d low high) → (s.low ≡ low) × (s.high ≡ high) × (row_distance rows s ≡ d)
  unfolding swap_at
  mem_swap_at d low high s k =
      let v = mem_if (eqb (ones (bit_xor (at rows low) (at rows high))) d) (record { low = low; high = high }) s k in
      let l : s.low ≡ low = ap (λ (z : Swap). z.low) v.1 in
      let g : s.high ≡ high = ap (λ (z : Swap). z.high) v.1 in
      (l, g, ap₂ (λ (a b : ℕ). ones (bit_xor (at rows a) (at rows b))) l g ∙ eqb-true _ d v.0)

  ascending_at : (d low high : ℕ) → Ascending rank (swap_at rows d low high)
  unfolding swap_at
  ascending_at d low high = alone (eqb (ones (bit_xor (at rows low) (at rows high))) d)
    where
      alone : (t : Bool) → Ascending rank (if_kept t (record { low = low; high = high }))
      alone true = (λ s m. absurd (Memᴰ.not-nil m), tt)
      alone false = tt

  ascending_from : (d low : ℕ) → Ascending rank (swaps_from n rows d low)
  unfolding swaps_from
  ascending_from d low =
      ascending_each (λ h. h) rank (list_from (suc low) (2 ^ n - suc low) (λ h. h)) (swap_at rows d low)
      (ascending_list_from (λ h. h) (suc low) (2 ^ n - suc low) (λ h. h) (λ a b l k m. k)) (λ h m. ascending_at d low h)
      (λ g h m k l a b p q.
      let u = mem_swap_at d low g a p in
      let v = mem_swap_at d low h b q in
      before_rank' a b (u.2 ∙ sym v.2) (u.0 ∙ sym v.0) (omega (arith, u.1, v.1)))
    where
      before_rank' : (t s : Swap) → row_distance rows t ≡ row_distance rows s → t.low ≡ s.low → t.high < s.high → rank t < rank s
      before_rank' t s p q l = omega (arith, ap (λ (d : ℕ). d * (2 ^ n * 2 ^ n)) p, ap (λ (d : ℕ). d * 2 ^ n) q)

  ascending_by : (d : ℕ) → Ascending rank (swaps_by n rows d)
  unfolding swaps_by
  ascending_by d =
      ascending_blocks (d * (2 ^ n * 2 ^ n)) (2 ^ n) (λ l. l) rank (list_below (2 ^ n) (λ l. l)) (swaps_from n rows d)
      (ascending_list_below (λ l. l) (2 ^ n) (λ l. l) (λ a b l m. l)) (λ l m. ascending_from d l)
      (λ l m s k.
      let u = mem_swaps_from n 0 rows d l s k in
      omega (arith, ap (λ (z : ℕ). z * (2 ^ n * 2 ^ n)) u.3, ap (λ (z : ℕ). z * 2 ^ n) u.0, u.2, suc-mul l (2 ^ n)))

  ascending_swaps : (m : ℕ) → Ascending rank (swaps n m rows)
  unfolding swaps
  ascending_swaps m =
      ascending_blocks 0 (2 ^ n * 2 ^ n) (λ d. d) rank (list_from 1 m (λ d. d)) (swaps_by n rows)
      (ascending_list_from (λ d. d) 1 m (λ d. d) (λ a b l k h. k)) (λ d k. ascending_by d)
      (λ d k s j.
      let u = mem_swaps_by n m rows d s j in
      omega (arith, ap (λ (z : ℕ). z * (2 ^ n * 2 ^ n)) u.2, both_below s.low s.high (omega (arith, u.0, u.1)) u.1, suc-mul d (2 ^ n * 2 ^ n)))

  in_order : (list : List Swap) → ((s : Swap) → Memᴰ s list → IsSwap n rows s) → Ascending rank list → InOrder rows list
  in_order [] h a = tt
  in_order (s ∷ list) h a = (
    λ t k.
        let u = h t (Memᴰ.tail k) in
        let low : t.low < 2 ^ n = omega (arith, u.ordered, u.inside) in
        rank_before s t low u.inside (a.0 t k),
    in_order list (λ t k. h t (Memᴰ.tail k)) a.1,
  )

  -- "Swaps are ordered by how many bits the two rows differ in, then by the lower input, then by the higher.": the list that is searched is
  pub swaps_in_order : (m : ℕ) → InOrder rows (swaps n m rows)
  swaps_in_order m = in_order (swaps n m rows) (mem_swaps n m rows) (ascending_swaps m)

-- ---- the reply of an accepted box
module _ (n m : ℕ) (rows : List ℕ) (accepted : first (box_checks_up_to 8 n m rows) ≡ (Ok tt)) where
  boxed : Box n m rows
  boxed = box_up_to 8 n m rows [] (lit≤ tt) accepted

  reply_is : raising_reply n m rows ≡ figures (raised n m rows)
  reply_is = sym (reply_accepted accepted (raised n m rows))

  none_shown : (l : List Swap) → figures (shown_swap n m rows l) ≡ figures (0 ∷ 0 ∷ 0 ∷ 0 ∷ []) → l ≡ []
  none_shown [] e = refl
  none_shown (s ∷ l) e = absurd (let k : ◌≡◌ {A = ℕ} 1 0 = cc in omega arith)

  -- "none" exactly where no swap of two unlike rows raises the nonlinearity
  pub none_exactly : raising_reply n m rows ≡ figures (0 ∷ 0 ∷ 0 ∷ 0 ∷ []) ↔ ((s : Swap) → IsSwap n rows s → figure_after n m rows s ≤ figure_of n m rows)
  unfolding raised raises
  none_exactly = (
    λ e s h.
        let none = none_shown (first_of (raises n m rows) (swaps n m rows)) (sym reply_is ∙ e) in
        ltb-false _ _ (none_first (raises n m rows) (swaps n m rows) none s (in_swaps n m rows boxed s h)),
    λ h.
        reply_is
        ∙ ap (λ (l : List Swap). figures (shown_swap n m rows l))
        (first_none (raises n m rows) (swaps n m rows) (λ s k. le-ltb _ _ (h s (mem_swaps n m rows s k)))),
  )

  first_raising : (s : Swap) → first_of (raises n m rows) (swaps n m rows) ≡ s ∷ [] → FirstRaising n m rows s
  unfolding raises
  first_raising s e =
      let t = first_is (raises n m rows) (swaps n m rows) s e in
      record {
        is_swap = mem_swaps n m rows s (first_mem t.1);
        higher = ltb-true _ _ t.0;
        earlier = λ u h b.
            let inside = h.inside in
            let ordered = h.ordered in
            ltb-false _ _ (first_ranked (rank n rows) (λ r x. raises n m rows x ≡ false) (ascending_swaps n rows m) t.1 u (in_swaps n m rows boxed u h)
            (before_rank n rows u s (omega arith) inside b));
      }

  abbrev OneOrNone : List Swap → Type 0
  OneOrNone l = (first_of (raises n m rows) l ≡ []) ⊎ ((s : Swap) × (first_of (raises n m rows) l ≡ s ∷ []))

  one_or_none : (l : List Swap) → OneOrNone l
  unfolding first_of
  one_or_none [] = inl refl
  one_or_none (s ∷ l) = go (raises n m rows s) refl (one_or_none l)
    where
      go : (t : Bool) → raises n m rows s ≡ t → OneOrNone l → OneOrNone (s ∷ l)
      go true e rest = inr (s, first_takes (raises n m rows) s l e)
      go false e (inl q) = inl (first_skips (raises n m rows) s l e ∙ q)
      go false e (inr q) = inr (q.0, first_skips (raises n m rows) s l e ∙ q.1)

  -- otherwise a swap that raises it to the figure named, before which no swap does
  pub raising_or_none : (raising_reply n m rows ≡ figures (0 ∷ 0 ∷ 0 ∷ 0 ∷ []))
      ⊎ ((s : Swap) × (raising_reply n m rows ≡ figures (1 ∷ s.low ∷ s.high ∷ figure_after n m rows s ∷ [])) × FirstRaising n m rows s)
  unfolding raised
  raising_or_none = go (one_or_none (swaps n m rows))
    where
      go : OneOrNone (swaps n m rows)
          → (raising_reply n m rows ≡ figures (0 ∷ 0 ∷ 0 ∷ 0 ∷ []))
          ⊎ ((s : Swap) × (raising_reply n m rows ≡ figures (1 ∷ s.low ∷ s.high ∷ figure_after n m rows s ∷ [])) × FirstRaising n m rows s)
      go (inl e) = inl (reply_is ∙ ap (λ (l : List Swap). figures (shown_swap n m rows l)) e)
      go (inr t) = inr (t.0, reply_is ∙ ap (λ (l : List Swap). figures (shown_swap n m rows l)) t.1, first_raising t.0 t.1)

  -- the figures that are compared are those that the nonlinearity call replies with the limit m, before a swap and after it
  replied : (r : List ℕ) → Box n m r → (v : List ℕ) × (nonlinearity_reply n m r m ≡ figures (figure_of n m r ∷ v))
  replied r box = ((nonlinearity n m r m).witness, calls.reply_is box)

  pub figures_compared : ((v : List ℕ) × (nonlinearity_reply n m rows m ≡ figures (figure_of n m rows ∷ v)))
      × ((s : Swap) → (v : List ℕ) × (nonlinearity_reply n m (swapped rows s.low s.high) m ≡ figures (figure_after n m rows s ∷ v)))
  figures_compared = (replied rows boxed, λ s. replied (swapped rows s.low s.high) (swapped_box boxed s.low s.high))
