-- The best pair that a place holds: that of exactly the combinations examined, and one combination more. Assumes nothing.
use Prim.Native.Nat.{ℕ, zero, suc, ◌+◌, ◌-◌, ◌^◌, ◌<◌, ◌≤◌}
use mathlib.Core.Path.{◌≡◌, refl, sym, ap, ◌∙◌}
use mathlib.Core.List.{List, [], ◌∷◌, ◌++◌}
use native.Mathlib.Omega.{arith}
use Rattle.boolean.specs.Sums.{list_from, each}
use Rattle.boolean.specs.Selection.{Candidate, best, lower, ranked}
use Rattle.boolean.proofs.Lists.{each_append, list_from_more}
use Rattle.boolean.proofs.Selection.{best_append}
use Rattle.masks.specs.Masks.{outputs}
use Rattle.masks.proofs.Fewest.{least_visited}
use Rattle.linear.specs.Calls.{pair_candidate}
use Rattle.linear.proofs.Nearest.{blocks, nearest_of, least_le}
use Rattle.server.specs.Model.{among, held_of}
use Rattle.server.proofs.Examined.{visit_examined}

module _ (n m : ℕ) (rows : List ℕ) where
  -- the first nearest pairs of the combinations 1 to k
  abbrev nearest_to : ℕ → List Candidate
  nearest_to k = each (list_from 1 k (λ c. c)) (nearest_of n rows)

  -- what is held is what a loop over them in ascending order finds
  held_visited : (k : ℕ) → k ≤ 2 ^ m - 1 → best (ranked lower outputs) (held_of n m rows 0) (nearest_to k) ≡ held_of n m rows k
  unfolding among each list_from best
  held_visited zero l = refl
  held_visited (suc k) l = least_visited (blocks n rows) (visit_examined m k l) (held_of n m rows 0) (omega (arith, least_le n rows 1))

  -- with the next combination
  pub held_next : (k : ℕ) {old new : Candidate} → k < 2 ^ m - 1 → old ≡ held_of n m rows k
      → new ≡ best (ranked lower outputs) old (nearest_of n rows (suc k)) → new ≡ held_of n m rows (suc k)
  unfolding each
  held_next k l e q =
      q ∙ ap (λ (b : Candidate). best (ranked lower outputs) b (nearest_of n rows (suc k))) (e ∙ sym (held_visited k (omega arith)))
      ∙ sym (best_append (ranked lower outputs) (held_of n m rows 0) (nearest_to k) (nearest_of n rows (suc k)))
      ∙ ap (best (ranked lower outputs) (held_of n m rows 0)) (sym one_more) ∙ held_visited (suc k) l
    where
      one_more : nearest_to (suc k) ≡ nearest_to k ++ nearest_of n rows (suc k)
      one_more =
          let last : 1 + k ≡ suc k = omega arith in
          ap (λ (cs : List ℕ). each cs (nearest_of n rows)) (list_from_more 1 k (λ c. c))
          ∙ each_append (list_from 1 k (λ c. c)) ((1 + k) ∷ []) (nearest_of n rows) ∙ ap (λ (c : ℕ). nearest_to k ++ nearest_of n rows c) last
