use Rattle.std.proofs.Common.{◌≡◌, ℕ, List, sym, ap, ◌∙◌, subst}
use Rattle.boolean.specs.Functions.{at, component, spectrum}
use Rattle.refusals.specs.Table.{Table}
use Rattle.linear.proofs.Components.{table_is, table_spectrum}
use Rattle.linear.proofs.Nearest.{values_length}
use Rattle.avalanche.proofs.Correlating.{spectrum_small, squares_summable, squares_correlate}
use Rattle.avalanche.proofs.correlate.Goals as goal

pub short_spectrum-requires : goal.short_spectrum-requires
short_spectrum-requires c =
    let a = c.args in (
      record {
        read = subst (Table a.n) (sym c.requires.2) (table_is a.n a.rows.now a.c a.m c.requires.0.box);
        room = c.requires.0.out_size;
      },
      c.requires.1,
    )

pub square_all-requires : goal.square_all-requires
square_all-requires c =
    let a = c.args in
    let spectrum_is : c.short_spectrum.new.out ≡ spectrum a.n (component a.rows.now a.c) =
    c.short_spectrum.ensures ∙ ap (λ (t : List ℕ). spectrum a.n (at t)) c.requires.2 ∙ table_spectrum a.n a.rows.now a.c in (
      spectrum_small a.n a.rows.now a.c c.requires.0.box.n_low c.requires.0.box.n_high spectrum_is,
      c.requires.3 ∙ sym (values_length a.n a.rows.now a.c spectrum_is),
    )

pub transform-requires : goal.transform-requires
transform-requires c =
    let a = c.args in
    let spectrum_is : c.short_spectrum.new.out ≡ spectrum a.n (component a.rows.now a.c) =
    c.short_spectrum.ensures ∙ ap (λ (t : List ℕ). spectrum a.n (at t)) c.requires.2 ∙ table_spectrum a.n a.rows.now a.c in
    squares_summable a.n a.rows.now a.c c.requires.0.box.n_low c.requires.0.box.n_high spectrum_is c.square_all.ensures

pub returns : goal.returns
returns c =
    let a = c.args in
    let spectrum_is : c.short_spectrum.new.out ≡ spectrum a.n (component a.rows.now a.c) =
    c.short_spectrum.ensures ∙ ap (λ (t : List ℕ). spectrum a.n (at t)) c.requires.2 ∙ table_spectrum a.n a.rows.now a.c in (
      c.transform.ensures ∙ squares_correlate a.n a.rows.now a.c c.requires.0.box.n_low c.requires.0.box.n_high spectrum_is c.square_all.ensures,
      values_length a.n a.rows.now a.c spectrum_is ∙ sym c.requires.0.out_size,
    )
