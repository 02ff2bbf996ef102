-- The largest cell, as the call replies it, and in whichever order the cells are visited; the list of all cells that reach it: which these are,
-- and their order; and one row.
use Rattle.std.specs.Prelude.{Ok}
use mathlib.Core.Path.{◌≡◌, sym, ap, ◌∙◌}
use mathlib.Core.Bool.{Bool}
use mathlib.Core.Logic.{◌↔◌}
use mathlib.Core.List.Memᴰ
use mathlib.Core.List.{List, [], ◌∷◌, map, Memᴰ}
use Prim.Native.Nat.{ℕ, ◌^◌, ◌<◌}
use native.Mathlib.Nat.{le_refl}
use borrow.Author.Tests.{eq-eqb, eqb-true}
use lib.Dec.{eqb}
use lib.ListN.{length}
use lib.Pow.{pow_mono}
use Rattle.boolean.specs.Sums.{keep}
use Rattle.boolean.specs.Functions.{at}
use Rattle.boolean.specs.Selection.{Candidate, shown, higher, first_best, Ascending, SameMembers, ranked}
use Rattle.boolean.proofs.Lists.{get_or_list_below, length_list_below}
use Rattle.boolean.proofs.Kept.{mem_keep, in_keep, ascending_keep}
use Rattle.boolean.proofs.Members.{ascending_map}
use Rattle.boolean.proofs.Selection.{first_largest_chooses}
use Rattle.refusals.specs.Table.{first, figures, box_checks}
use Rattle.refusals.proofs.Checks.{box, reply_accepted}
use Rattle.refusals.proofs.Replies.{figures_accepted, head_same}
use Rattle.differential.specs.XorTable.{cell, xor_row, cells, largest_cell, largest_cells, coded}
use Rattle.differential.specs.Calls.{largest_cell_reply}
use Rattle.differential.specs.Statements.{XorReported, CellCoded, cell_candidate, rank}
use Rattle.differential.proofs.Cells.{in_cells, mem_cells, ascending_cells}
use Rattle.differential.proofs.FirstCell.{largest_cell_most, largest_cell_reached, largest_cell_first}

module _ (n m : ℕ) (rows : List ℕ) where
  -- "or the largest cell with its witness (first a, then β)": of an accepted box no cell counts more than the reported d, the witness counts d, and
  -- each cell before it less
  pub xor_reported : first (box_checks n m rows) ≡ (Ok tt) → XorReported n m rows
  xor_reported h =
      let low = (box n m rows [] h).n_low in
      let r = largest_cell_reached n m rows low in
      record {
        d = (largest_cell n m rows).figure;
        a = r.0;
        β = r.1;
        reply = sym (reply_accepted h (shown (largest_cell n m rows)))
            ∙ ap (λ (p : Candidate). figures ((largest_cell n m rows).figure ∷ p.witness)) r.3;
        largest = largest_cell_most n m rows;
        member = r.2;
        reached = sym (ap (λ (p : Candidate). p.figure) r.3);
        before = largest_cell_first n m rows low r.0 r.1 r.3;
      }

  -- "Combinations may be visited in any order without effect on any answer." Over any list with the members of `cells`, in any order and some of
  -- them more than once, the cell that counts most, and of those the one of the lowest rank, is the largest cell with its witness.
  pub largest_cell_any_order : (visited : List Candidate) → SameMembers visited (cells n m rows)
      → first_best (ranked higher (rank (2 ^ m))) visited ≡ largest_cell n m rows
  unfolding largest_cell
  largest_cell_any_order visited =
      first_largest_chooses.visited (rank (2 ^ m)) (cells n m rows) visited (ascending_cells n m rows (2 ^ m) (le_refl (2 ^ m)))

  -- ---- the list of cells, of a box whose largest cell the call replies as d
  module _ (d : ℕ) (witness : List ℕ) (e : largest_cell_reply n m rows ≡ figures (d ∷ witness)) where
    said : (first (box_checks n m rows) ≡ (Ok tt)) × ((d ∷ witness) ≡ shown (largest_cell n m rows))
    said = figures_accepted (first (box_checks n m rows)) (shown (largest_cell n m rows)) e

    abbrev reaches : Candidate → Bool
    reaches c = eqb c.figure (largest_cell n m rows).figure

    -- "a list of all cells that reach the largest": a cell stands in it exactly when it counts d
    pub list_has : (v : ℕ) → Memᴰ v (largest_cells n m rows) ↔ CellCoded n m rows d v
    unfolding largest_cells
    list_has v = (listed, unlisted)
      where
        listed : Memᴰ v (map coded (keep reaches (cells n m rows))) → CellCoded n m rows d v
        listed k =
            let t = Memᴰ.of_map coded (keep reaches (cells n m rows)) k in
            let s = mem_keep reaches (cells n m rows) t.0 t.1 in
            let u = mem_cells n m rows t.0 s.0 in
            record {
              a = u.0;
              β = u.1;
              member = u.2;
              reached = sym (ap (λ (c : Candidate). c.figure) u.3)
                  ∙ eqb-true t.0.figure (largest_cell n m rows).figure s.1 ∙ sym (head_same said.1);
              is = sym t.2 ∙ ap coded u.3;
            }

        unlisted : CellCoded n m rows d v → Memᴰ v (map coded (keep reaches (cells n m rows)))
        unlisted t =
            Memᴰ.cast t.is
            (Memᴰ.map coded (in_keep reaches (cells n m rows) (cell_candidate n rows t.a t.β)
            (in_cells n m rows t.a t.β t.member) (eq-eqb _ _ (t.reached ∙ head_same said.1))))

    -- "The list now runs by ascending a, then ascending β."
    pub list_ascends : Ascending (λ v. v) (largest_cells n m rows)
    unfolding largest_cells
    list_ascends =
        ascending_map coded (λ v. v) (keep reaches (cells n m rows))
        (ascending_keep reaches coded (cells n m rows)
        (ascending_cells n m rows (2 ^ 32) (pow_mono {i = m} {j = 32} (box n m rows [] said.0).m_high)))

-- A row of the table has the count of each output difference.
pub xor_row_is : (n m : ℕ) (rows : List ℕ) (a : ℕ)
    → (length (xor_row n m rows a) ≡ 2 ^ m) × ((β : ℕ) → β < 2 ^ m → at (xor_row n m rows a) β ≡ cell n rows a β)
unfolding xor_row
xor_row_is n m rows a = (length_list_below (2 ^ m) (λ β. cell n rows a β), λ β l. get_or_list_below (2 ^ m) (λ β. cell n rows a β) β 0 l)
