use mathlib.Core.Path.{ap, ◌∙◌}
use borrow.Author.Rules.{rules}
use Rattle.walsh.specs.Magnitudes.{largest_magnitude}
use Rattle.linear.proofs.Components.{written_is, written_ready, written_spectrum}
use Rattle.linear.proofs.component_peak.Goals as goal

pub peak-requires : goal.peak-requires
peak-requires c =
    let a = c.args in (
      written_ready a.n a.rows.now a.c a.m c.requires.0.box _ c.write_component.ensures _ c.requires.0.out_size,
      c.requires.1,
    )

pub returns : goal.returns
returns c =
    let a = c.args in (
      c.peak.ensures ∙ ap largest_magnitude (written_spectrum a.n a.rows.now a.c a.m c.requires.0.box _ c.write_component.ensures),
      written_is a.n a.rows.now a.c a.m c.requires.0.box _ c.write_component.ensures,
      search rules,
    )
