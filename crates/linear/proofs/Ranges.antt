-- The pairs of a part of the components: where the part is the whole, where it begins before its first mask within the limit, and where none lies in it.
use Rattle.std.specs.Prelude.{Ok}
use mathlib.Core.Path.{◌≡◌, sym, ap, ◌∙◌}
use mathlib.Core.List.{List, [], ◌∷◌}
use Prim.Native.Nat.{ℕ, ◌-◌, ◌^◌, ◌≤◌, ◌<◌}
use native.Mathlib.Nat.{le_refl, zero-lt-suc}
use native.Mathlib.Omega.{arith}
use lib.Pow.{pow_pos, pow_mono}
use Rattle.boolean.specs.Functions.{components}
use Rattle.boolean.specs.Selection.{Candidate, shown, lower, first_least}
use Rattle.boolean.specs.Sums.{each}
use Rattle.boolean.proofs.Lists.{some_member, in_each}
use Rattle.boolean.proofs.OneBit.{ones_one}
use Rattle.refusals.specs.Table.{first, limit_checks}
use Rattle.refusals.proofs.Bounds.{range_true}
use Rattle.refusals.proofs.Checks.{Limited, limited}
use Rattle.masks.proofs.Gathering.{part_lies}
use Rattle.masks.specs.Parts.{components_between, shown_best, best_between}
use Rattle.masks.specs.Masks.{FirstFrom}
use Rattle.masks.proofs.Parts.{all_taken, in_between, between_from, between_none}
use Rattle.linear.specs.Nonlinearity.{pairs_of, pairs, pairs_between, nonlinearity, nonlinearity_between, part_checks}
use Rattle.linear.specs.Lent.{PartSwept}
use Rattle.linear.proofs.Pairs.{in_pairs_of}

-- an accepted call over a part
pub record Within (n m : ℕ) (rows : List ℕ) (i a e : ℕ) : Type 0 where
  pub limit : Limited n m rows i
  pub low : 1 ≤ a
  pub some : a ≤ e
  pub high : e < 2 ^ m

pub part_accepted : (n m : ℕ) (rows : List ℕ) (i low high : ℕ) → first (part_checks n m rows i low high) ≡ (Ok tt) → Within n m rows i low high
unfolding part_checks
part_accepted n m rows i low high h =
    let t = part_lies (limit_checks n m rows i) m low high h in
    record { limit = limited n m rows i t.0; low = t.1; some = t.2; high = t.3 }

-- what is shown of candidates of which there is one
pub shown_least : {c : Candidate} {rest : List Candidate} (cs : List Candidate) → cs ≡ c ∷ rest → shown_best lower cs ≡ shown (first_least cs)
unfolding first_least
shown_least cs e = ap (shown_best lower) e ∙ sym (ap (λ (l : List Candidate). shown (first_least l)) e)

-- the part from 1 to 2^m − 1, as the code has it
module _ {m i p : ℕ} (m_low : 1 ≤ m) (i_low : 1 ≤ i) (e : p ≡ 2 ^ m) where
  pub whole_part : PartSwept m i 1 (p - 1)
  whole_part = record {
    low = le_refl 1;
    some = omega (arith, pow_mono {i = 1} {j = m} m_low);
    high = omega (arith, pow_pos m);
    few = omega (arith, ones_one);
  }

pub whole_between : (m i : ℕ) → components_between m i 1 (2 ^ m - 1) ≡ components m i
unfolding components_between
whole_between m i = all_taken m i _ (λ c w. range_true 1 (2 ^ m - 1) c w.low (omega (arith, w.high)))

pub whole_least : (n m : ℕ) (rows : List ℕ) (i : ℕ) {p : ℕ} → p ≡ 2 ^ m → first_least (pairs_between n m rows i 1 (p - 1)) ≡ nonlinearity n m rows i
unfolding nonlinearity pairs pairs_between
whole_least n m rows i e =
    ap (λ (k : ℕ). first_least (each (components_between m i 1 (k - 1)) (pairs_of n rows))) e
    ∙ ap (λ (l : List ℕ). first_least (each l (pairs_of n rows))) (whole_between m i)

-- a part of which the first mask within the limit is known
module _ (n m : ℕ) (rows : List ℕ) {i first start : ℕ} (last : ℕ) (from : FirstFrom i first start) where
  module _ (low : 1 ≤ first) (high : last < 2 ^ m) (h : start ≤ last) where
    pub part_from : PartSwept m i start last
    part_from = record { low = omega (arith, from.low); some = h; high = high; few = from.few }

    pub part_found : shown (first_least (pairs_between n m rows i start last)) ≡ nonlinearity_between n m rows i first last
    unfolding nonlinearity_between best_between pairs_between
    part_found =
        let inside = in_between m i start last start (record { low = omega (arith, from.low); high = omega arith; few = from.few }) (le_refl start) h in
        let mem = in_each (components_between m i start last) (pairs_of n rows) start _ inside (in_pairs_of n rows start 0 0 (pow_pos n) (zero-lt-suc 1)) in
        let some = some_member (each (components_between m i start last) (pairs_of n rows)) mem in
        sym (shown_least (each (components_between m i start last) (pairs_of n rows)) some.2)
        ∙ ap (λ (l : List ℕ). shown_best lower (each l (pairs_of n rows))) (sym (between_from m last from))

  pub part_nothing : last < start → [] ≡ nonlinearity_between n m rows i first last
  unfolding nonlinearity_between best_between pairs_between each
  part_nothing h = sym (ap (λ (l : List ℕ). shown_best lower (each l (pairs_of n rows))) (between_none m last from h))
