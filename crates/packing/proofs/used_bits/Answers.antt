-- Below 3 a bit for each input, and from there on all eight.
use mathlib.Core.Path.{sym, ◌∙◌}
use native.Mathlib.Omega.{arith}
use Rattle.packing.proofs.Widths.{used_few, used_all}
use Rattle.packing.proofs.used_bits.Goals as goal

pub returns-then-n-lt3 : goal.returns-then-n-lt3
returns-then-n-lt3 c =
    let few = used_few c.args.n (omega arith) in
    (c.power_of_two.ensures.0 ∙ sym few.0, omega (arith, c.power_of_two.ensures.0, few.1))

pub returns-else-n-lt3 : goal.returns-else-n-lt3
returns-else-n-lt3 c = (sym (used_all _ (omega arith)), omega arith)
