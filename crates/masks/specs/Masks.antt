-- Masks of components: as the witnesses of candidates name them, and from one within a limit to the next in ascending order.
use Rattle.std.specs.Prelude.{ℕ, suc, ◌*◌, ◌^◌, ◌≤◌, ◌<◌, ◌≡◌}
use Rattle.std.specs.Int.Count.{ones}
use Rattle.boolean.specs.Functions.{at}
use Rattle.boolean.specs.Selection.{Candidate}

-- how many outputs a candidate combines: the ones of its component's mask, which stands first in its witness
abbrev pub outputs : Candidate → ℕ
outputs p = ones (at p.witness 0)

-- r is the least number above c with at most i ones
pub record Next (i c r : ℕ) : Type 0 where
  pub above : c < r
  pub few : ones r ≤ i
  pub between : (x : ℕ) → c < x → x < r → i < ones x

-- r is the least number from c on with at most i ones
pub record FirstFrom (i c r : ℕ) : Type 0 where
  pub low : c ≤ r
  pub few : ones r ≤ i
  pub between : (x : ℕ) → c ≤ x → x < r → i < ones x

-- r is c with a power of two added that divides c
pub record PowerAdded (c r : ℕ) : Type 0 where
  pub place : ℕ
  pub times : ℕ
  pub from : c ≡ times * 2 ^ place
  pub to : r ≡ suc times * 2 ^ place
