-- The row has none of the cells, or the one that is known, or several.
use Rattle.std.proofs.Common.{◌/◌, ◌≤◌, length, replicate, sym, ap, arith}
use Rattle.std.proofs.lemmas.List.Edits.{sets}
use Rattle.differential.proofs.Sweeps.{half_room}
use Rattle.differential.proofs.Measures.{measured_one, measured_other}
use Rattle.differential.proofs.listing.list_row.Goals as goal

pub returns-then-row-largest : goal.returns-then-row-largest
returns-then-row-largest c =
    let a = c.args in
    let none = measured_other c.requires.0 _ c.requires.3 c.requires.1 c.requires.2 c.if-row-largest.true in
    (omega (arith, ap length none), ap (sets a.list.now a.start) (sym none))

pub bounds-list-start : goal.bounds-list-start
bounds-list-start c =
    omega (arith, ap length (measured_one c.requires.0 c.requires.2 c.requires.3 c.if-row-largest.false c.if-row-eq1.true), c.requires.4)

pub returns-then-row-eq1 : goal.returns-then-row-eq1
returns-then-row-eq1 c =
    let a = c.args in
    let one = measured_one c.requires.0 c.requires.2 c.requires.3 c.if-row-largest.false c.if-row-eq1.true in
    (omega (arith, ap length one), ap (sets a.list.now a.start) (sym one))

pub list_several-requires : goal.list_several-requires
list_several-requires c =
    let box = c.requires.0 in
    let few : length c.args.rows.now / 2 ≤ 128 = omega (arith, box.small) in
    (box, c.requires.1, c.requires.3, half_room box (replicate 128 0) few, c.requires.4)
