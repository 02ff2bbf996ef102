-- `nearest::list_nearest` meets its contract: the arrays to work in are as long as the rows. Assumes nothing.
use mathlib.Core.Path.{sym, ◌∙◌}
use lib.Seq.{length-take-le}
use Rattle.nearest.proofs.list_nearest.Goals as goal

pub slice_bounds-table-end : goal.slice_bounds-table-end
slice_bounds-table-end c = c.requires.box.small

pub slice_bounds-list_with-end : goal.slice_bounds-list_with-end
slice_bounds-list_with-end c = sym (length-take-le _ _ c.requires.box.small)

pub slice_bounds-work-end : goal.slice_bounds-work-end
slice_bounds-work-end c = c.requires.box.small

pub slice_bounds-list_with-end-2 : goal.slice_bounds-list_with-end-2
slice_bounds-list_with-end-2 c = sym (length-take-le _ _ c.requires.box.small)

pub slice_bounds-values-end : goal.slice_bounds-values-end
slice_bounds-values-end c = c.requires.box.small

pub slice_bounds-list_with-end-3 : goal.slice_bounds-list_with-end-3
slice_bounds-list_with-end-3 c = sym (length-take-le _ _ c.requires.box.small)

pub list_with-requires : goal.list_with-requires
list_with-requires c =
    let pre = c.requires in
    let b = pre.box in (
      record {
        known = pre;
        arrays = record { box = b; table_size = length-take-le _ _ b.small ∙ b.size; out_size = length-take-le _ _ b.small ∙ b.size };
        values_size = length-take-le _ _ b.small ∙ b.size;
      },
      c.spectra-fixed.ensures,
    )

pub returns : goal.returns
returns c = c.list_with.ensures.0
