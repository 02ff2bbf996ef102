-- The line of the widths takes at most 26 bytes, which leaves 306 for the lines behind it.
use Rattle.std.proofs.Common.{[], ◌∷◌, arith}
use Rattle.texts.specs.Text.{bytes}
use Rattle.texts.proofs.Lengths.{line_few}
use Rattle.sheet.proofs.Printing.{box_then}
use Rattle.sheet.proofs.write_lines.Goals as goal

pub write_figures-requires : goal.write_figures-requires
write_figures-requires c = omega (arith, line_few (bytes "box") (c.args.n ∷ c.args.m ∷ []))

pub returns : goal.returns
returns c =
    box_then c.args.n c.args.m c.args.rows.now c.put_line-end.ensures c.write_figures.ensures.lines c.write_figures.ensures.inside
