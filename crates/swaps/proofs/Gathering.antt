-- Gathering nearest pairs: the present witness, the first nearest pair of a component, and their tables one after the other. Assumes nothing.
use mathlib.Core.Path.{◌≡◌, refl, sym, ap, ap₂, ◌∙◌, subst}
use mathlib.Core.Bool.{Bool, cond}
use mathlib.Core.List.{List, [], ◌∷◌}
use Prim.Native.Nat.{ℕ, suc, ◌+◌, ◌^◌, ◌<◌, ◌≤◌}
use native.Mathlib.Decide.{dec_lt}
use native.Mathlib.Numerals.{add-one}
use native.Mathlib.Omega.{arith}
use borrow.Author.Tests.{eq-eqb, ne_eqb}
use lib.ListN.{length, get_or, set, length-set}
use lib.Seq.{get_or-set_same, get_or-set_other}
use Rattle.boolean.specs.Functions.{at, component, distance, MaskWithin}
use Rattle.boolean.specs.Selection.{Candidate, best, first_least}
use Rattle.boolean.proofs.Components.{whole_within}
use Rattle.boolean.proofs.Counts.{count_le}
use Rattle.boolean.proofs.Selection.{best_step, first_least_chooses}
use Rattle.refusals.specs.Table.{Box}
use Rattle.linear.specs.Nonlinearity.{pair, pairs_of, nonlinearity}
use Rattle.linear.specs.Calls.{pair_candidate}
use Rattle.linear.specs.declared.Found.{Found}
use Rattle.linear.proofs.Pairs.{mem_pairs_of, pairs_of_some}
use Rattle.linear.proofs.Theorems.{nonlinearity_reached}
use Rattle.swaps.specs.Swaps.{figure_of}
use Rattle.swaps.specs.Work.{entry_of, NearestPair, NearestTable, PairsGathered}

-- ---- pairs
-- a candidate that is a pair of a nonzero component
module _ {n m : ℕ} {rows : List ℕ} {found : Found} {c w b : ℕ} (same : pair_candidate found ≡ pair n rows c w b) where
  pub pair_nearest : MaskWithin m (2 ^ m) c → w < 2 ^ n → b < 2 → {figure : ℕ} → found.count ≡ figure → NearestPair n m rows figure found
  pair_nearest mask w_high b_high {figure} counted =
      let p : c ≡ found.c = sym (ap (λ (p : Candidate). at p.witness 0) same) in
      let q : w ≡ found.w = sym (ap (λ (p : Candidate). at p.witness 1) same) in
      let r : b ≡ found.b = sym (ap (λ (p : Candidate). at p.witness 2) same) in
      record {
        mask = subst (MaskWithin m (2 ^ m)) p mask;
        w_high = omega arith;
        b_high = omega arith;
        differs =
            subst (λ (z : ℕ). distance n (component rows z) found.w found.b ≡ figure) p
            (subst (λ (z : ℕ). distance n (component rows c) z found.b ≡ figure) q
            (subst (λ (z : ℕ). distance n (component rows c) w z ≡ figure) r (sym (ap (λ (p : Candidate). p.figure) same) ∙ counted)));
      }

module _ (n m : ℕ) (rows : List ℕ) where
  -- the present witness
  pub count_is : {present : Found} → pair_candidate present ≡ nonlinearity n m rows m → present.count ≡ figure_of n m rows
  count_is e = ap (λ (p : Candidate). p.figure) e

  pub witness_nearest : Box n m rows → {present : Found} → pair_candidate present ≡ nonlinearity n m rows m → NearestPair n m rows present.count present
  witness_nearest box e =
      let t = nonlinearity_reached n m rows m box.m_low box.m_low in
      pair_nearest (e ∙ t.4) t.3.mask t.3.w_high t.3.b_high refl

  -- no pair differs at more inputs than there are
  pub differs_le : {figure : ℕ} {found : Found} → NearestPair n m rows figure found → figure ≤ 2 ^ n
  unfolding distance
  differs_le t = subst (λ (z : ℕ). z ≤ 2 ^ n) t.differs (count_le (2 ^ n) _)

  -- a component's first nearest pair, where it was preferred to one that differs at more inputs
  pub preferred_nearest : (beats : Candidate → Candidate → Bool) (other : Found) {figure c : ℕ} {found : Found} → 1 ≤ c → c < 2 ^ m
      → pair_candidate found ≡ best beats (pair_candidate other) (first_least (pairs_of n rows c) ∷ []) → figure < other.count → found.count ≡ figure
      → NearestPair n m rows figure found
  unfolding best
  preferred_nearest beats other {figure} {c} {found} low high e farther counted =
      best_step beats (λ p. pair_candidate found ≡ p → NearestPair n m rows figure found) (pair_candidate other) (first_least (pairs_of n rows c)) []
      (λ t same.
      let some = pairs_of_some n rows c in
      let k = mem_pairs_of n rows c (first_least (pairs_of n rows c)) (first_least_chooses.mem some.2) in
      pair_nearest (same ∙ k.4) (whole_within m c low high) k.2 k.3 counted)
      (λ t same. absurd (omega (arith, ap (λ (p : Candidate). p.figure) same)))
      e

-- ---- tables
-- what the code computes for it
module _ {value near v a : ℕ} (value_is : value ≡ v) (near_is : near ≡ a) where
  pub entry_agrees : value ≡ near → value + 1 ≡ entry_of v a
  unfolding entry_of
  entry_agrees e = add-one value ∙ ap suc value_is ∙ sym (ap (λ (t : Bool). cond t (suc v) 0) (eq-eqb v a (sym value_is ∙ e ∙ near_is)))

  pub entry_differs : (value ≡ near → ⊥) → 0 ≡ entry_of v a
  unfolding entry_of
  entry_differs d = sym (ap (λ (t : Bool). cond t (suc v) 0) (ne_eqb v a (λ e. d (value_is ∙ e ∙ sym near_is))))

-- ---- the tables that are gathered: one more
module _ {n m : ℕ} {rows : List ℕ} {figure : ℕ} {tables tables' : List (List ℕ)} {count count' : ℕ} (g : PairsGathered n m rows figure (record { tables = tables; count = count })) where
  pub gathered_more : {table : List ℕ} → tables' ≡ set tables count table → count' ≡ count + 1 → count < length tables → count < 16 → NearestTable n m rows figure table
      → PairsGathered n m rows figure (record { tables = tables'; count = count' })
  gathered_more {table} e more room few t = record {
    room = ap length e ∙ length-set tables count table ∙ g.room;
    few = omega arith;
    tables_are = λ k h. pick k h (dec_lt k count);
  }
    where
      pick : (k : ℕ) → k < count' → Dec (k < count) → NearestTable n m rows figure (get_or tables' k [])
      pick k h (yes l) =
          subst (λ (l : List ℕ). NearestTable n m rows figure l) (sym (ap (λ (l : List (List ℕ)). get_or l k []) e ∙ get_or-set_other tables count k table [] (λ z. omega arith)))
          (g.tables_are k l)
      pick k h (no l) =
          let z : k ≡ count = omega arith in
          subst (λ (l : List ℕ). NearestTable n m rows figure l)
          (sym (ap₂ (λ (l : List (List ℕ)) (j : ℕ). get_or l j []) e z ∙ get_or-set_same tables count table [] room)) t
