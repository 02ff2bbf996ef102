-- What the functions on single components and on a part of them are lent.
use Rattle.std.specs.Prelude.{ℕ, ◌^◌, ◌≤◌, ◌<◌, ◌≡◌, List, ℤ, length}
use Rattle.std.specs.Int.Count.{ones}
use Rattle.refusals.specs.Table.{Box}

-- an accepted box, and two arrays to work in, as long as its rows
pub record PairsSwept (n m : ℕ) (rows table : List ℕ) (out : List ℤ) : Type 0 where
  pub box : Box n m rows
  pub table_size : length table ≡ 2 ^ n
  pub out_size : length out ≡ 2 ^ n

-- a part that begins with a mask within the limit
pub record PartSwept (m i first last : ℕ) : Type 0 where
  pub low : 1 ≤ first
  pub some : first ≤ last
  pub high : last < 2 ^ m
  pub few : ones first ≤ i
