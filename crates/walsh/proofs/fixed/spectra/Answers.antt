-- `walsh::fixed::spectra` meets its contract: the table is its rule, computed anew over all 2,048 entries. Assumes nothing.
use Prim.Native.Nat.{◌/◌, ◌%◌}
use lib.Count.{ones}
use lib.IntN.{pos}
use Rattle.boolean.specs.Bits.{dot, parity}
use Rattle.boolean.specs.Sums.{count_below, one_if, list_from, list_below}
use Rattle.boolean.specs.Functions.{approximation}
use Rattle.boolean.proofs.Lists.{get_or_list_below}
use Rattle.walsh.specs.FixedTable.{function_numbered}
use Rattle.walsh.proofs.fixed.spectra.Goals as goal

pub returns : goal.returns
unfolding list_below list_from function_numbered approximation count_below one_if dot parity ones
returns c = record { rule = λ k h. get_or_list_below 2048 (λ i. approximation 3 (function_numbered (i / 8)) (i % 8)) k (pos 0) h }
