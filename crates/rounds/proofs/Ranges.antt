-- The pairs of a part of the components: where the part is the whole, where it begins before its first mask within the limit, and where none lies in it.
-- Assumes nothing.
use mathlib.Core.Path.{◌≡◌, sym, ap, ◌∙◌}
use mathlib.Core.List.{List, [], Memᴰ}
use Prim.Native.Nat.{ℕ, ◌-◌, ◌^◌, ◌≤◌, ◌<◌}
use native.Mathlib.Nat.{le_refl, zero-lt-suc}
use native.Mathlib.Omega.{arith}
use Rattle.boolean.specs.Functions.{components}
use Rattle.boolean.specs.Selection.{shown, lower}
use Rattle.boolean.specs.Sums.{each}
use Rattle.boolean.proofs.Lists.{some_member, in_each}
use Rattle.masks.specs.Parts.{components_between, shown_best, best_between}
use Rattle.masks.specs.Masks.{FirstFrom}
use Rattle.masks.proofs.Parts.{in_between, between_from, between_none}
use Rattle.linear.specs.Lent.{PartSwept}
use Rattle.linear.proofs.Ranges.{shown_least, whole_between}
use Rattle.rounds.specs.Round.{Summand, outputs_of, sum_pairs_of, sum_pairs, sum_nonlinearity, sum_between}
use Rattle.rounds.proofs.Masks.{apart, apart_fits}
use Rattle.rounds.proofs.Nearest.{in_sum_pairs_of}

-- a part that begins with a mask within the limit has it
pub first_between : {m i first last : ℕ} → PartSwept m i first last → Memᴰ first (components_between m i first last)
first_between {m} {i} {first} {last} p =
    in_between m i first last first (record { low = p.low; high = omega (arith, p.some, p.high); few = p.few }) (le_refl first) p.some

-- what is shown of the pairs of components of which there is one
pub shown_pairs : (ss : List Summand) (cs : List ℕ) (c : ℕ) → Memᴰ c cs → shown_best lower (sum_pairs ss cs) ≡ shown (sum_nonlinearity ss cs)
unfolding sum_nonlinearity sum_pairs
shown_pairs ss cs c k =
    let some = some_member (each cs (sum_pairs_of ss)) (in_each cs (sum_pairs_of ss) c _ k (in_sum_pairs_of ss c (apart ss 0) 0 (apart_fits ss 0) (zero-lt-suc 1))) in
    shown_least (each cs (sum_pairs_of ss)) some.2

-- the part from 1 to 2^m − 1, as the code has it
pub whole_sum : (ss : List Summand) (m i : ℕ) {p : ℕ} → p ≡ 2 ^ m → sum_nonlinearity ss (components_between m i 1 (p - 1)) ≡ sum_nonlinearity ss (components m i)
whole_sum ss m i e = ap (λ (k : ℕ). sum_nonlinearity ss (components_between m i 1 (k - 1))) e ∙ ap (sum_nonlinearity ss) (whole_between m i)

-- a part of which the first mask within the limit is known
module _ (ss : List Summand) {i first start : ℕ} (last : ℕ) (from : FirstFrom i first start) where
  pub part_from : {m : ℕ} → 1 ≤ first → last < 2 ^ m → start ≤ last → PartSwept m i start last
  part_from low high h = record { low = omega (arith, from.low); some = h; high = high; few = from.few }

  pub part_found : 1 ≤ first → last < 2 ^ outputs_of ss → start ≤ last
      → shown (sum_nonlinearity ss (components_between (outputs_of ss) i start last)) ≡ sum_between ss i first last
  unfolding sum_between best_between sum_pairs
  part_found low high h =
      sym (shown_pairs ss (components_between (outputs_of ss) i start last) start (first_between (part_from low high h)))
      ∙ ap (λ (l : List ℕ). shown_best lower (sum_pairs ss l)) (sym (between_from (outputs_of ss) last from))

  pub part_nothing : last < start → [] ≡ sum_between ss i first last
  unfolding sum_between best_between sum_pairs each
  part_nothing h = sym (ap (λ (l : List ℕ). shown_best lower (sum_pairs ss l)) (between_none (outputs_of ss) last from h))
