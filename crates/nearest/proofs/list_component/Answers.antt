use Rattle.std.proofs.Common.{◌≡◌, ℕ, ◌+◌, ◌-◌, ◌/◌, arith, refl, sym, ap, ◌∙◌, subst, List, length}
use lib.Seq.{sets}
use Rattle.boolean.specs.Functions.{at, component, spectrum}
use Rattle.refusals.specs.Table.{Table}
use Rattle.walsh.proofs.Magnitudes.{largest_of}
use Rattle.linear.proofs.Components.{table_length, table_is, table_spectrum}
use Rattle.linear.proofs.Nearest.{values_length, values_nonempty, largest_le, least_figure}
use Rattle.nearest.specs.Work.{pairs_at, pair_numbers}
use Rattle.nearest.proofs.Component.{pairs_none, pairs_by_places, least_below, least_of}
use Rattle.nearest.proofs.list_component.Goals as goal

pub overflow_sub-size : goal.overflow_sub-size
overflow_sub-size c = omega (arith, least_below c.requires.0.known, c.requires.0.arrays.box.size)

pub returns-then-largest-size : goal.returns-then-largest-size
returns-then-largest-size c =
    let a = c.args in
    let l = c.requires.0 in
    let top = largest_of _ c.component_peak-largest.ensures.0 (values_nonempty a.sought.n a.rows.now a.c refl) in
    let more = least_of l.known a.c c.requires.1 in
    let figure = least_figure a.sought.n a.rows.now a.c refl l.arrays.box.n_low top in
    let few = largest_le a.sought.n a.rows.now a.c refl l.arrays.box.n_low top in
    let none = pairs_none a.sought.n a.rows.now a.c a.sought.d
    (omega (arith, more, figure, few, least_below l.known, l.arrays.box.size, c.if-largest-size.true)) in (
      omega (arith, ap length none),
      omega arith,
      sym (ap (sets a.list.now a.start) none),
      ap length c.component_peak-largest.ensures.1 ∙ table_length a.sought.n a.rows.now a.c ∙ sym l.arrays.table_size,
      c.component_peak-largest.ensures.2,
      refl,
    )

pub descend-requires : goal.descend-requires
descend-requires c =
    let a = c.args in (
      record {
        read = subst (Table a.sought.n) (sym c.component_peak-largest.ensures.1) (table_is a.sought.n a.rows.now a.c a.sought.m c.requires.0.arrays.box);
        room = c.requires.0.values_size;
      },
      c.requires.2,
    )

pub returns : goal.returns
returns c =
    let a = c.args in
    let l = c.requires.0 in
    let made : c.descend.new.out ≡ spectrum a.sought.n (component a.rows.now a.c) =
    c.descend.ensures ∙ ap (λ (t : List ℕ). spectrum a.sought.n (at t)) c.component_peak-largest.ensures.1
    ∙ table_spectrum a.sought.n a.rows.now a.c in
    let are : pair_numbers a.c (length a.rows.now / 2 - a.sought.d) c.descend.new.out ≡ pairs_at a.sought.n a.rows.now a.sought.d a.c =
    ap (λ (k : ℕ). pair_numbers a.c (k / 2 - a.sought.d) c.descend.new.out) l.arrays.box.size
    ∙ sym (pairs_by_places a.sought.n a.rows.now a.c a.sought.d made l.arrays.box.n_low (least_below l.known)) in (
      c.list_places.ensures.0 ∙ ap (λ (l : List ℕ). a.start + length l) are,
      c.list_places.ensures.1,
      c.list_places.ensures.2 ∙ ap (sets a.list.now a.start) are,
      ap length c.component_peak-largest.ensures.1 ∙ table_length a.sought.n a.rows.now a.c ∙ sym l.arrays.table_size,
      c.component_peak-largest.ensures.2,
      values_length a.sought.n a.rows.now a.c made ∙ sym l.values_size,
    )
