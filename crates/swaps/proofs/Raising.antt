-- What a try of one swap shows: that it is the first of the swaps that raises the nonlinearity, or that it is none of them. Assumes nothing.
use mathlib.Core.Path.{◌≡◌, refl, sym, ap, ap₂, ◌∙◌, subst}
use mathlib.Core.Bool.{Bool, true, false}
use mathlib.Core.List.{List, [], ◌∷◌}
use Prim.Native.Nat.{ℕ, ◌^◌, ◌<◌, ◌≤◌}
use native.Mathlib.Omega.{arith}
use borrow.Author.Tests.{lt-ltb, le-ltb, eq-eqb, ne_eqb}
use lib.Bits.{bit_xor}
use lib.Count.{ones}
use lib.Dec.{eqb}
use lib.ListN.{get_or}
use Rattle.boolean.specs.Bits.{affine}
use Rattle.boolean.specs.Functions.{at, component, MaskWithin, swapped}
use Rattle.boolean.specs.Sums.{first_of}
use Rattle.boolean.specs.Selection.{first_least}
use Rattle.boolean.proofs.Members.{if_kept}
use Rattle.refusals.specs.Table.{Box}
use Rattle.linear.specs.declared.Found.{Found}
use Rattle.linear.proofs.Theorems.{nonlinearity_least, component_least}
use native.Mathlib.Nat.{le_trans}
use Rattle.swaps.specs.Swaps.{Swap, figure_of, swap_at, raises}
use Rattle.swaps.specs.Work.{Tried, Passed, NoneIn, entry_of, ApartIn, TakesApart, NearestPair, NearestTable, PairsGathered}
use Rattle.swaps.specs.declared.Gathered.{Gathered}
use Rattle.linear.specs.Nonlinearity.{pairs_of}
use Rattle.std.proofs.Common.{Result, Ok, Err}
use native.Mathlib.Decide.{ℕ_discrete}
use Rattle.swaps.proofs.Apart.{pair_stays}
use Rattle.boolean.proofs.FirstOf.{first_takes, first_skips}

module _ {n m : ℕ} {rows : List ℕ} (box : Box n m rows) {figure : ℕ} (figure_is : figure ≡ figure_of n m rows) (d low high : ℕ) where
  abbrev swap : Swap
  swap = record { low = low; high = high }

  swap_raises : {new : ℕ} → (new ≡ figure_of n m (swapped rows low high)) × (figure < new) → raises n m rows swap ≡ true
  unfolding raises
  swap_raises t = lt-ltb _ _ (omega (arith, figure_is))

  swap_fails : {by : ℕ} → MaskWithin m (2 ^ m) by × ((first_least (pairs_of n (swapped rows low high) by)).figure ≤ figure) → raises n m rows swap ≡ false
  unfolding raises
  swap_fails {by} t = le-ltb _ _ (subst (λ (z : ℕ). figure_of n m (swapped rows low high) ≤ z) figure_is
      (le_trans (component_least n m (swapped rows low high) m by t.0) t.1))

  module _ (low_in : low < 2 ^ n) (high_in : high < 2 ^ n) where
    -- a nearest pair that stays as near turns it down
    pair_fails : {pair : Found} → NearestPair n m rows figure pair
        → eqb (bit_xor (entry_of (component rows pair.c low) (affine pair.w pair.b low)) (entry_of (component rows pair.c high) (affine pair.w pair.b high))) 3 ≡ false
        → raises n m rows swap ≡ false
    unfolding raises
    pair_fails {pair} t e =
        let near = nonlinearity_least n m (swapped rows low high) m pair.c pair.w pair.b (record { mask = t.mask; w_high = t.w_high; b_high = t.b_high }) in
        let stays = pair_stays n rows box.size pair.c pair.w pair.b t.b_high low high low_in high_in e in
        le-ltb (figure_of n m rows) (figure_of n m (swapped rows low high)) (omega (arith, t.differs, figure_is))

    -- so does a table of one whose entries at the inputs are not 1 and 2
    table_fails : {table : List ℕ} → NearestTable n m rows figure table → (ApartIn table low high → ⊥) → raises n m rows swap ≡ false
    table_fails {table} t ne =
        let l = t.entries low (omega (arith, box.size)) in
        let h = t.entries high (omega (arith, box.size)) in
        pair_fails t.nearest (ne_eqb _ 3 (λ e. ne (ap₂ bit_xor l h ∙ e)))

    -- the swap does not take every gathered pair apart
    some_fails : {pairs : Gathered} → PairsGathered n m rows figure pairs → (TakesApart pairs low high → ⊥) → raises n m rows swap ≡ false
    some_fails {pairs} g ne = go (raises n m rows swap) refl
      where
        go : (t : Bool) → raises n m rows swap ≡ t → t ≡ false
        go false r = refl
        go true r = absurd (ne (λ k l. same k l (ℕ_discrete (bit_xor (at (get_or pairs.tables k []) low) (at (get_or pairs.tables k []) high)) 3)))
          where
            same : (k : ℕ) → k < pairs.count → Dec (ApartIn (get_or pairs.tables k []) low high) → ApartIn (get_or pairs.tables k []) low high
            same k l (yes e) = e
            same k l (no d) = absurd (let z : ◌≡◌ {A = Bool} true false = sym r ∙ table_fails (g.tables_are k l) d in cc)

    pub not_apart : {pairs : Gathered} {hint : ℕ} → MaskWithin m (2 ^ m) hint → PairsGathered n m rows figure pairs → (TakesApart pairs low high → ⊥)
        → NoneIn n m rows (swap_at rows d low high) hint
    unfolding swap_at first_of
    not_apart k g ne = record { none = none (eqb (ones (bit_xor (at rows low) (at rows high))) d); hint_is = k }
      where
        none : (t : Bool) → first_of (raises n m rows) (if_kept t swap) ≡ []
        none true = first_skips (raises n m rows) swap [] (some_fails g ne)
        none false = refl

  -- the rows differ in another number of bits
  pub other_distance : {hint : ℕ} → MaskWithin m (2 ^ m) hint → (ones (bit_xor (at rows low) (at rows high)) ≡ d → ⊥) → NoneIn n m rows (swap_at rows d low high) hint
  unfolding swap_at first_of
  other_distance k ne = record { none = ap (λ (t : Bool). first_of (raises n m rows) (if_kept t swap)) (ne_eqb _ d ne); hint_is = k }

  -- it was tried
  module _ (e : ones (bit_xor (at rows low) (at rows high)) ≡ d) where
    one : swap_at rows d low high ≡ swap ∷ []
    unfolding swap_at
    one = ap (λ (t : Bool). if_kept t swap) (eq-eqb _ d e)

    nothing : first_of (raises n m rows) [] ≡ []
    unfolding first_of
    nothing = refl

    pub this_distance : (r : Result ℕ ℕ) → Tried n m (swapped rows low high) figure r → Passed n m rows (swap_at rows d low high) low high r
    this_distance (Ok new) t = record {
      first = ap (first_of (raises n m rows)) one ∙ first_takes (raises n m rows) swap [] (swap_raises t);
      figure_is = t.0;
    }
    this_distance (Err by) t = record {
      none = ap (first_of (raises n m rows)) one ∙ first_skips (raises n m rows) swap [] (swap_fails t) ∙ nothing;
      hint_is = t.0;
    }
