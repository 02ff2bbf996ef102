-- How many figures each call that sweeps over combinations or searches gives. Assumes nothing.
use Rattle.std.specs.Prelude.{Ok}
use Prim.Native.Nat.{ℕ}
use mathlib.Core.Path.{◌≡◌, refl, sym, ap}
use mathlib.Core.List.{List, [], ◌∷◌}
use lib.ListN.{length}
use Rattle.boolean.specs.Sums.{first_of}
use Rattle.boolean.specs.Selection.{Candidate, shown}
use Rattle.refusals.specs.Table.{first, limit_checks}
use Rattle.refusals.proofs.Checks.{limited, reply_accepted}
use Rattle.refusals.proofs.Replies.{same_figures}
use Rattle.linear.specs.Nonlinearity.{nonlinearity}
use Rattle.linear.proofs.Theorems.{nonlinearity_reached}
use Rattle.avalanche.specs.Avalanche.{box_autocorrelation, dynamic_distance}
use Rattle.avalanche.specs.Calls.{distance_checks}
use Rattle.avalanche.proofs.Theorems.{autocorrelation_reported, distance_reported}
use Rattle.algebraic.specs.Algebraic.{box_degree}
use Rattle.algebraic.proofs.Theorems.{degree_reported}
use Rattle.swaps.specs.Swaps.{Swap, swaps, raises, shown_swap, raised}

module _ (n m : ℕ) (rows : List ℕ) (i : ℕ) (accepted : first (limit_checks n m rows i) ≡ (Ok tt)) where
  pub pair_size : length (shown (nonlinearity n m rows i)) ≡ 4
  pair_size =
      let l = limited n m rows i accepted in
      ap (λ (p : Candidate). length (shown p)) (nonlinearity_reached n m rows i l.box.m_low l.i_low).4

  pub change_size : length (shown (box_autocorrelation n m rows i)) ≡ 3
  change_size =
      ap length (same_figures (sym (reply_accepted accepted (shown (box_autocorrelation n m rows i)))) (autocorrelation_reported n m rows i accepted).reply)

  pub degree_size : length (shown (box_degree n m rows i)) ≡ 2
  degree_size =
      ap length (same_figures (sym (reply_accepted accepted (shown (box_degree n m rows i)))) (degree_reported n m rows i accepted).reply)

pub distance_size : (n m : ℕ) (rows : List ℕ) (i j : ℕ) → first (distance_checks n m rows i j) ≡ (Ok tt) → length (shown (dynamic_distance n m rows i j)) ≡ 3
distance_size n m rows i j ok =
    ap length (same_figures (sym (reply_accepted ok (shown (dynamic_distance n m rows i j)))) (distance_reported n m rows i j ok).reply)

pub swap_size : (n m : ℕ) (rows : List ℕ) → length (raised n m rows) ≡ 4
unfolding raised
swap_size n m rows = four (first_of (raises n m rows) (swaps n m rows))
  where
    four : (l : List Swap) → length (shown_swap n m rows l) ≡ 4
    four [] = refl
    four (s ∷ l) = refl
