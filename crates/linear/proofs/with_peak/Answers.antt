use mathlib.Core.Path.{refl, sym, ap, ◌∙◌, subst}
use mathlib.Core.List.{List}
use Prim.Native.Nat.{ℕ, ◌-◌, ◌/◌}
use native.Mathlib.Omega.{arith}
use Rattle.boolean.specs.Functions.{at, spectrum}
use Rattle.refusals.specs.Table.{Table}
use Rattle.walsh.proofs.Magnitudes.{largest_of}
use Rattle.linear.specs.Calls.{pair_candidate}
use Rattle.linear.proofs.Components.{table_is, table_spectrum}
use Rattle.linear.proofs.Nearest.{values_nonempty, largest_le, kept}
use Rattle.linear.proofs.with_peak.Goals as goal

pub overflow_sub-near : goal.overflow_sub-near
overflow_sub-near c =
    let a = c.args in
    omega (arith, c.requires.0.box.size, largest_le a.n a.rows.now a.c refl c.requires.0.box.n_low (largest_of _ c.requires.2 (values_nonempty a.n a.rows.now a.c refl)))

pub descend-requires : goal.descend-requires
descend-requires c =
    let a = c.args in (
      record {
        read = subst (Table a.n) (sym c.requires.3) (table_is a.n a.rows.now a.c a.m c.requires.0.box);
        room = c.requires.0.out_size;
      },
      c.requires.1,
    )

pub with_spectrum-requires : goal.with_spectrum-requires
with_spectrum-requires c =
    let a = c.args in (
      c.requires.0.box,
      c.descend.ensures ∙ ap (λ (t : List ℕ). spectrum a.n (at t)) c.requires.3 ∙ table_spectrum a.n a.rows.now a.c,
    )

pub returns-else-is_preferred : goal.returns-else-is_preferred
returns-else-is_preferred c =
    let a = c.args in
    let top = largest_of _ c.requires.2 (values_nonempty a.n a.rows.now a.c refl) in (
      kept a.n a.rows.now a.c refl c.requires.0.box.n_low top (ap (λ (k : ℕ). k / 2 - a.largest) c.requires.0.box.size) (pair_candidate a.found)
          (sym c.is_preferred.ensures ∙ c.if-is_preferred.false),
      refl,
    )
