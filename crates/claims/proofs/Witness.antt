-- Document 02 §12: "The nonlinearity's witness may change": a box and an addition, computed.
use mathlib.Core.Path.{◌≡◌, refl}
use mathlib.Core.List.{List, [], ◌∷◌}
use Prim.Native.Nat.{ℕ}
use lib.Count.{ones, ones_in}
use Rattle.boolean.specs.Bits.{parity, dot, affine}
use Rattle.boolean.specs.Sums.{one_if, count_below, list_from, list_below, each, every, keep}
use Rattle.boolean.specs.Functions.{distance, component, components}
use Rattle.boolean.specs.Selection.{best, first_least}
use Rattle.refusals.specs.Table.{figures, first, limit_checks}
use Rattle.linear.specs.Nonlinearity.{pairs_of, pairs, nonlinearity, nonlinearity_reply}
use Rattle.columns.specs.Addition.{Addition, added_row, added_rows, addition_checks, addition_checked, standing_rows, rows_after_all}

-- x1 AND x2 differs from 0 at one input; with 1 added it differs from 1 there
abbrev pub conjunction : List ℕ
conjunction = 0 ∷ 0 ∷ 0 ∷ 1 ∷ []

abbrev pub one_added : List Addition
one_added = record { column = 1; mask = 0; constant = 1; lent = conjunction } ∷ []

pub witness_changes : (nonlinearity_reply 2 1 conjunction 1 ≡ figures (1 ∷ 1 ∷ 0 ∷ 0 ∷ []))
    × (nonlinearity_reply 2 1 (rows_after_all 2 1 conjunction one_added) 1 ≡ figures (1 ∷ 1 ∷ 0 ∷ 1 ∷ []))
unfolding parity dot affine ones ones_in one_if count_below list_from list_below each every keep distance component components best first_least first limit_checks pairs_of pairs nonlinearity added_row added_rows addition_checks addition_checked standing_rows rows_after_all
witness_changes = (refl, refl)
