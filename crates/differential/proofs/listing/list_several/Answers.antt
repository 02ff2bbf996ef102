-- The runs of the row's pairs in order are its cells.
use Rattle.std.proofs.Common.{ℕ, ◌+◌, List, length, ap, ◌∙◌, arith}
use Rattle.std.proofs.lemmas.List.Edits.{sets}
use Rattle.differential.proofs.Pairs.{pair_small}
use Rattle.differential.proofs.Sweeps.{box_inside, pairs_few}
use Rattle.differential.proofs.Runs.{runs_are_row}
use Rattle.differential.proofs.Measures.{largest_positive, largest_small, cells_at_most}
use Rattle.differential.proofs.listing.list_several.Goals as goal

pub write_pairs-requires : goal.write_pairs-requires
write_pairs-requires c = (box_inside c.requires.0 c.requires.1.1, c.requires.1.0, c.requires.3)

pub sort-requires : goal.sort-requires
sort-requires c =
    let pairs = c.write_pairs.ensures in
    (c.requires.0.m_high, pairs_few c.requires.0 pairs, pair_small c.requires.0 pairs)

pub list_runs-requires : goal.list_runs-requires
list_runs-requires c =
    let box = c.requires.0 in
    let positive = largest_positive box _ c.requires.2 in
    let are_row =
    runs_are_row box c.requires.1 c.write_pairs.ensures c.sort.ensures positive c.requires.2 (cells_at_most box _ c.requires.2 c.args.a c.requires.1) in (
      positive,
      largest_small box _ c.requires.2,
      omega (arith, c.sort.ensures.reordered.size, pairs_few box c.write_pairs.ensures),
      omega (arith, c.requires.1.1, box.size, box.small),
      rw are_row c.requires.4,
    )

pub returns : goal.returns
returns c =
    let box = c.requires.0 in
    let are_row =
    runs_are_row box c.requires.1 c.write_pairs.ensures c.sort.ensures (largest_positive box _ c.requires.2) c.requires.2
    (cells_at_most box _ c.requires.2 c.args.a c.requires.1) in (
      c.list_runs.ensures.0 ∙ ap (λ (l : List ℕ). c.args.start + length l) are_row,
      c.list_runs.ensures.1 ∙ ap (sets c.args.list.now c.args.start) are_row,
      record { written = _; paired = c.write_pairs.ensures; sorted = c.sort.ensures },
    )
