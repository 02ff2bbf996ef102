-- One reply has one answer: no two answers of a call say the same. (Of the sum of boxes, whose answer has masks past the number given
-- too, it is `one_answer` in rounds/proofs/Answers.) Assumes nothing.
use Rattle.std.specs.Prelude.{Ok, Err, Some, None}
use Prim.Native.Nat.{ℕ}
use mathlib.Core.Path.{◌≡◌, refl, sym, ap}
use mathlib.Core.Bool.{true, false}
use mathlib.Core.List.{List, [], ◌∷◌}
use native.Mathlib.Omega.{arith}
use lib.ListN.{get_or}
use Rattle.refusals.proofs.Numbers.{number_one}
use Rattle.refusals.proofs.Replies.{no_figures}
use Rattle.claims.specs.Statements.{OneToOne}
use Rattle.refusals.specs.Table.{said_written}
use Rattle.refusals.specs.Table.{said_verdict}
use Rattle.linear.specs.Calls.{said_least_pair}
use Rattle.differential.specs.Calls.{said_largest_cell}
use Rattle.differential.specs.Calls.{said_cell_list}
use Rattle.nearest.specs.Calls.{said_pair_list}
use Rattle.avalanche.specs.Calls.{said_largest_change}
use Rattle.algebraic.specs.Calls.{said_degree_found}
use Rattle.boxfile.specs.File.{said_box_file}
use Rattle.catalogue.specs.Calls.{said_told}
use Rattle.catalogue.specs.Calls.{said_fetched}
use Rattle.swaps.specs.Calls.{said_raising_swap}
use Rattle.design.specs.Calls.{said_box_held}
use Rattle.server.specs.Calls.{said_asked}
use Rattle.linear.specs.declared.Found.{Found}
use Rattle.differential.specs.declared.FoundCell.{FoundCell}
use Rattle.avalanche.specs.declared.FoundChange.{FoundChange}
use Rattle.algebraic.specs.declared.FoundDegree.{FoundDegree}
use Rattle.refusals.specs.declared.BoxWidths.{BoxWidths}
use Rattle.catalogue.specs.declared.Extent.{Extent}
use Rattle.swaps.specs.declared.Raise.{Raise}

-- the records that answers have, from their figures in a list
abbrev pair_of : List ℕ → Found
pair_of l = record { count = get_or l 0 0; c = get_or l 1 0; w = get_or l 2 0; b = get_or l 3 0 }

abbrev cell_of : List ℕ → FoundCell
cell_of l = record { count = get_or l 0 0; a = get_or l 1 0; beta = get_or l 2 0 }

abbrev change_of : List ℕ → FoundChange
change_of l = record { figure = get_or l 0 0; c = get_or l 1 0; s = get_or l 2 0 }

abbrev degree_of : List ℕ → FoundDegree
degree_of l = record { degree = get_or l 0 0; c = get_or l 1 0 }

abbrev widths_of : List ℕ → BoxWidths
widths_of l = record { n = get_or l 0 0; m = get_or l 1 0 }

abbrev extent_of : List ℕ → Extent
extent_of l = record { offset = get_or l 0 0; size = get_or l 1 0 }

abbrev raise_of : List ℕ → Raise
raise_of l = record { low = get_or l 0 0; high = get_or l 1 0; figure = get_or l 2 0 }

pub one_written : OneToOne said_written
one_written (Ok x) (Ok y) h = refl
one_written (Ok x) (Err f) h = absurd (no_figures h)
one_written (Err e) (Ok y) h = absurd (no_figures (sym h))
one_written (Err e) (Err f) h = ap Err (number_one e f (cc))

pub one_verdict : OneToOne said_verdict
one_verdict (Ok true) (Ok true) h = refl
one_verdict (Ok true) (Ok false) h = let z : ◌≡◌ {A = ℕ} 0 1 = cc in absurd (omega arith)
one_verdict (Ok true) (Err f) h = absurd (no_figures h)
one_verdict (Ok false) (Ok true) h = let z : ◌≡◌ {A = ℕ} 0 1 = cc in absurd (omega arith)
one_verdict (Ok false) (Ok false) h = refl
one_verdict (Ok false) (Err f) h = absurd (no_figures h)
one_verdict (Err e) (Ok true) h = absurd (no_figures (sym h))
one_verdict (Err e) (Ok false) h = absurd (no_figures (sym h))
one_verdict (Err e) (Err f) h = ap Err (number_one e f (cc))

pub one_least_pair : OneToOne said_least_pair
one_least_pair (Ok x) (Ok y) h =
    let same : x.count ∷ x.c ∷ x.w ∷ x.b ∷ [] ≡ y.count ∷ y.c ∷ y.w ∷ y.b ∷ [] = cc in
    ap (λ (l : List ℕ). Ok (pair_of l)) same
one_least_pair (Ok x) (Err f) h = absurd (no_figures h)
one_least_pair (Err e) (Ok y) h = absurd (no_figures (sym h))
one_least_pair (Err e) (Err f) h = ap Err (number_one e f (cc))

pub one_largest_cell : OneToOne said_largest_cell
one_largest_cell (Ok x) (Ok y) h =
    let same : x.count ∷ x.a ∷ x.beta ∷ [] ≡ y.count ∷ y.a ∷ y.beta ∷ [] = cc in
    ap (λ (l : List ℕ). Ok (cell_of l)) same
one_largest_cell (Ok x) (Err f) h = absurd (no_figures h)
one_largest_cell (Err e) (Ok y) h = absurd (no_figures (sym h))
one_largest_cell (Err e) (Err f) h = ap Err (number_one e f (cc))

pub one_cell_list : OneToOne said_cell_list
one_cell_list (Ok x) (Ok y) h = cc
one_cell_list (Ok x) (Err f) h = absurd (no_figures h)
one_cell_list (Err e) (Ok y) h = absurd (no_figures (sym h))
one_cell_list (Err e) (Err f) h = ap Err (number_one e f (cc))

pub one_pair_list : OneToOne said_pair_list
one_pair_list (Ok x) (Ok y) h = cc
one_pair_list (Ok x) (Err f) h = absurd (no_figures h)
one_pair_list (Err e) (Ok y) h = absurd (no_figures (sym h))
one_pair_list (Err e) (Err f) h = ap Err (number_one e f (cc))

pub one_largest_change : OneToOne said_largest_change
one_largest_change (Ok x) (Ok y) h =
    let same : x.figure ∷ x.c ∷ x.s ∷ [] ≡ y.figure ∷ y.c ∷ y.s ∷ [] = cc in
    ap (λ (l : List ℕ). Ok (change_of l)) same
one_largest_change (Ok x) (Err f) h = absurd (no_figures h)
one_largest_change (Err e) (Ok y) h = absurd (no_figures (sym h))
one_largest_change (Err e) (Err f) h = ap Err (number_one e f (cc))

pub one_degree_found : OneToOne said_degree_found
one_degree_found (Ok x) (Ok y) h =
    let same : x.degree ∷ x.c ∷ [] ≡ y.degree ∷ y.c ∷ [] = cc in
    ap (λ (l : List ℕ). Ok (degree_of l)) same
one_degree_found (Ok x) (Err f) h = absurd (no_figures h)
one_degree_found (Err e) (Ok y) h = absurd (no_figures (sym h))
one_degree_found (Err e) (Err f) h = ap Err (number_one e f (cc))

pub one_box_file : OneToOne said_box_file
one_box_file (Ok x) (Ok y) h =
    let same : x.n ∷ x.m ∷ [] ≡ y.n ∷ y.m ∷ [] = cc in
    ap (λ (l : List ℕ). Ok (widths_of l)) same
one_box_file (Ok x) (Err f) h = absurd (no_figures h)
one_box_file (Err e) (Ok y) h = absurd (no_figures (sym h))
one_box_file (Err e) (Err f) h = ap Err (number_one e f (cc))

pub one_told : OneToOne said_told
one_told (Ok x) (Ok y) h = cc
one_told (Ok x) (Err f) h = absurd (no_figures h)
one_told (Err e) (Ok y) h = absurd (no_figures (sym h))
one_told (Err e) (Err f) h = ap Err (number_one e f (cc))

pub one_fetched : OneToOne said_fetched
one_fetched (Ok x) (Ok y) h =
    let same : x.offset ∷ x.size ∷ [] ≡ y.offset ∷ y.size ∷ [] = cc in
    ap (λ (l : List ℕ). Ok (extent_of l)) same
one_fetched (Ok x) (Err f) h = absurd (no_figures h)
one_fetched (Err e) (Ok y) h = absurd (no_figures (sym h))
one_fetched (Err e) (Err f) h = ap Err (number_one e f (cc))

pub one_raising_swap : OneToOne said_raising_swap
one_raising_swap (Ok (Some x)) (Ok (Some y)) h =
    let same : x.low ∷ x.high ∷ x.figure ∷ [] ≡ y.low ∷ y.high ∷ y.figure ∷ [] = cc in
    ap (λ (l : List ℕ). Ok (Some (raise_of l))) same
one_raising_swap (Ok (Some x)) (Ok None) h = let z : ◌≡◌ {A = ℕ} 0 1 = cc in absurd (omega arith)
one_raising_swap (Ok (Some x)) (Err f) h = absurd (no_figures h)
one_raising_swap (Ok None) (Ok (Some y)) h = let z : ◌≡◌ {A = ℕ} 0 1 = cc in absurd (omega arith)
one_raising_swap (Ok None) (Ok None) h = refl
one_raising_swap (Ok None) (Err f) h = absurd (no_figures h)
one_raising_swap (Err e) (Ok (Some y)) h = absurd (no_figures (sym h))
one_raising_swap (Err e) (Ok None) h = absurd (no_figures (sym h))
one_raising_swap (Err e) (Err f) h = ap Err (number_one e f (cc))

pub one_box_held : OneToOne said_box_held
one_box_held (Ok x) (Ok y) h =
    let same : x.n ∷ x.m ∷ [] ≡ y.n ∷ y.m ∷ [] = cc in
    ap (λ (l : List ℕ). Ok (widths_of l)) same
one_box_held (Ok x) (Err f) h = absurd (no_figures h)
one_box_held (Err e) (Ok y) h = absurd (no_figures (sym h))
one_box_held (Err e) (Err f) h = ap Err (number_one e f (cc))

pub one_asked : OneToOne said_asked
one_asked (Ok None) (Ok None) h = refl
one_asked (Ok None) (Ok (Some y)) h = let z : ◌≡◌ {A = ℕ} 0 1 = cc in absurd (omega arith)
one_asked (Ok None) (Err f) h = let z : ◌≡◌ {A = ℕ} 0 1 = cc in absurd (omega arith)
one_asked (Ok (Some x)) (Ok None) h = let z : ◌≡◌ {A = ℕ} 0 1 = cc in absurd (omega arith)
one_asked (Ok (Some x)) (Ok (Some y)) h =
    let same : x.count ∷ x.c ∷ x.w ∷ x.b ∷ [] ≡ y.count ∷ y.c ∷ y.w ∷ y.b ∷ [] = cc in
    ap (λ (l : List ℕ). Ok (Some (pair_of l))) same
one_asked (Ok (Some x)) (Err f) h = let z : ◌≡◌ {A = ℕ} 0 1 = cc in absurd (omega arith)
one_asked (Err e) (Ok None) h = let z : ◌≡◌ {A = ℕ} 0 1 = cc in absurd (omega arith)
one_asked (Err e) (Ok (Some y)) h = let z : ◌≡◌ {A = ℕ} 0 1 = cc in absurd (omega arith)
one_asked (Err e) (Err f) h = ap Err (number_one e f (cc))
