-- `constructions::bent_at` meets its contract: the two halves of the input are a place of the tables and a small number, and the tables then give the value. Assumes nothing.
use native.Mathlib.Omega.{arith}
use Rattle.constructions.proofs.BentValues.{Halves, halves, bent_is}
use Rattle.constructions.proofs.bent_at.Goals as goal

pub bounds-permutation-x : goal.bounds-permutation-x
bounds-permutation-x c =
    let parts : Halves c.args.z c.power_of_two-size.result = halves c.args.h c.args.z c.power_of_two-size.result c.power_of_two-size.ensures.0 c.requires.0.h_high c.requires.1 in
    omega (arith, parts)

pub bounds-table-x : goal.bounds-table-x
bounds-table-x c =
    let parts : Halves c.args.z c.power_of_two-size.result = halves c.args.h c.args.z c.power_of_two-size.result c.power_of_two-size.ensures.0 c.requires.0.h_high c.requires.1 in
    omega (arith, parts)

pub returns : goal.returns
returns c =
    let a = c.args in
    bent_is a.h a.z c.power_of_two-size.result c.power_of_two-size.ensures.0 a.permutation.now a.table.now _ c.dot-product.ensures.0
