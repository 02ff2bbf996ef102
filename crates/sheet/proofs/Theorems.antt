-- What can be relied on of the sheets. Assumes nothing.
use Rattle.std.specs.Prelude.{Ok}
use Prim.Native.Nat.{ℕ, ◌+◌, ◌*◌, ◌^◌, ◌≤◌, ◌<◌}
use mathlib.Core.Path.{◌≡◌, refl, sym, ap, ap₂, ◌∙◌}
use mathlib.Core.Bool.{Bool, true, false}
use mathlib.Core.List.Memᴰ
use mathlib.Core.List.{List, [], ◌∷◌, ◌++◌, Memᴰ}
use native.Mathlib.Nat.{le_refl}
use native.Mathlib.Omega.{arith}
use borrow.Author.Tests.{eqb-false, ne_eqb, le-leb, leb-true, leb-false}
use lib.Dec.{eqb, leb, lit≤}
use lib.ListN.{length, take}
use lib.Pow.{pow_mono}
use lib.Seq.{get_or-take, length-take-le, take_all}
use Rattle.boolean.specs.Sums.{each}
use Rattle.boolean.specs.Functions.{at}
use Rattle.boolean.proofs.Selection.{of_cons}
use Rattle.refusals.specs.Table.{first, in_range, box_checks, limit_checks, Box, figures, refusal}
use Rattle.refusals.proofs.Bounds.{range_high, range_true}
use Rattle.refusals.proofs.Checks.{found, found_after, skip, stop, end, box_accepted, limit_accepted, reply_refused, reply_accepted}
use Rattle.linear.specs.Nonlinearity.{nonlinearity_reply}
use Rattle.avalanche.specs.Calls.{distance_checks, autocorrelation_reply}
use Rattle.algebraic.specs.Calls.{box_degree_reply}
use Rattle.boxfile.specs.File.{file_rows, read_checks, file_checks, file_found}
use Rattle.boxfile.proofs.FileRows.{box_of_file}
use Rattle.texts.specs.Text.{bytes, line}
use Rattle.sheet.specs.Sheet.{SheetLine, prints, stops, outcome_of, until_refused, sheet_limit, bic_line, sheet_lines, file_reply, sheet_text}
use Rattle.sheet.specs.Statements.{bic_text, texts_of, long_number}
use Rattle.sheet.proofs.Outcomes.{numbers_shown, limited_shown, decided_shown}
use Rattle.sheet.proofs.Printing.{until_prints}
use Rattle.sheet.proofs.Sheets.{read_accepted, sheet_refused, sheet_read}

-- ---- a file that is accepted

-- the box of a file that is read is accepted
box_read : (file : List ℕ) {shows : List ℕ} → file_reply file ≡ figures shows → Box (at file 0) (at file 1) (file_rows file (at file 0))
box_read file h = box_of_file file (read_accepted file h).0

-- the limit of the sheet is one that a box of m outputs has
limit_inside : (m : ℕ) → 1 ≤ m → (1 ≤ sheet_limit m) × (sheet_limit m ≤ m)
unfolding sheet_limit
limit_inside m low = by (leb m 16) refl
  where
    by : (few : Bool) → leb m 16 ≡ few → (1 ≤ sheet_limit m) × (sheet_limit m ≤ m)
    by true e = rw e (low, le_refl m)
    by false e = let many : 16 < m = leb-false m 16 e in rw e (lit≤ tt, omega arith)

-- lines of which each is printed, with their texts
data Print : List SheetLine → List (List ℕ) → Type 0 where
  none : Print [] []
  more : {l : SheetLine} {ls : List SheetLine} {text : List ℕ} {texts : List (List ℕ)} → outcome_of l ≡ prints text → Print ls texts → Print (l ∷ ls) (text ∷ texts)

print_all : {ls : List SheetLine} {texts : List (List ℕ)} → Print ls texts → until_refused ls ≡ each texts (λ text. text)
unfolding until_refused each
print_all none = refl
print_all (more {l} {ls} {text} h t) = until_prints l ls h ∙ ap (λ (rest : List ℕ). text ++ rest) (print_all t)

print_each : {ls : List SheetLine} {texts : List (List ℕ)} → Print ls texts → (l : SheetLine) → Memᴰ l ls → outcome_of l ≡ stops → ⊥
print_each none l i = absurd (Memᴰ.not-nil i)
print_each (more h t) l i = of_cons (λ (k : SheetLine). outcome_of k ≡ stops → ⊥) (λ e. let z : ◌≡◌ {A = ℕ} 0 1 = cc in omega arith) (λ j. print_each t l j) i

module _ (n m : ℕ) (rows : List ℕ) (b : Box n m rows) where
  all_accepted : first (box_checks n m rows) ≡ (Ok tt)
  all_accepted = box_accepted n m rows b

  within_accepted : first (limit_checks n m rows (sheet_limit m)) ≡ (Ok tt)
  within_accepted =
      let inside = limit_inside m b.m_low in
      limit_accepted n m rows (sheet_limit m) (record { box = b; i_low = inside.0; i_high = inside.1 })

  -- an order (i, j) that a box of m outputs has is accepted
  order_accepted : (i j : ℕ) → 1 ≤ i → i ≤ m → 1 ≤ j → j ≤ n → first (distance_checks n m rows i j) ≡ (Ok tt)
  unfolding distance_checks
  order_accepted i j i_low i_high j_low j_high =
      sym (found_after (box_checks n m rows) all_accepted (skip (range_true 1 m i i_low i_high) (skip (range_true 1 n j j_low j_high) end)))

  bic_printed : outcome_of (bic_line n m rows) ≡ prints (bic_text n m rows)
  unfolding outcome_of
  bic_printed = by (eqb m 1) refl
    where
      by : (one : Bool) → eqb m 1 ≡ one → outcome_of (bic_line n m rows) ≡ prints (bic_text n m rows)
      by true e = rw e
      by false e =
          let two : 2 ≤ m = omega (arith, b.m_low, eqb-false m 1 e) in
          rw e (numbers_shown "bic" (sym (reply_accepted (order_accepted 2 1 (omega arith) two (le_refl 1) b.n_low) _)))

  lines_printed : Print (sheet_lines n m rows) (texts_of n m rows)
  unfolding sheet_lines
  lines_printed =
      more (limited_shown "nonlinearity" (nonlinearity_reply n m rows) refl (sym (reply_accepted within_accepted _)))
      (more (numbers_shown "xor" (sym (reply_accepted all_accepted _)))
      (more (limited_shown "autocorrelation" (autocorrelation_reply n m rows) refl (sym (reply_accepted within_accepted _)))
      (more (numbers_shown "sac" (sym (reply_accepted (order_accepted 1 1 (le_refl 1) b.m_low (le_refl 1) b.n_low) _)))
      (more bic_printed
      (more (limited_shown "degree" (box_degree_reply n m rows) refl (sym (reply_accepted within_accepted _)))
      (more (decided_shown "complete" (sym (reply_accepted all_accepted _)))
      (more (decided_shown "bijective" (sym (reply_accepted all_accepted _)))
      none)))))))

-- After an accepted file no figure is refused: of the lines of its sheet none stops it.
pub no_figure_refused : (file : List ℕ) {shows : List ℕ} → file_reply file ≡ figures shows
    → (l : SheetLine) → Memᴰ l (sheet_lines (at file 0) (at file 1) (file_rows file (at file 0))) → outcome_of l ≡ stops → ⊥
no_figure_refused file h = print_each (lines_printed (at file 0) (at file 1) (file_rows file (at file 0)) (box_read file h))

-- The sheet of an accepted file is its nine lines, one after the other: the widths, and the figures of the box that the file holds.
pub nine_lines : (file : List ℕ) {shows : List ℕ} → file_reply file ≡ figures shows
    → sheet_text file ≡ each (line (bytes "box") (at file 0 ∷ at file 1 ∷ []) ∷ texts_of (at file 0) (at file 1) (file_rows file (at file 0))) (λ text. text)
unfolding each
nine_lines file h =
    sheet_read file h
    ∙ ap₂ (λ (widths text : List ℕ). line (bytes "box") widths ++ text) (read_accepted file h).1
    (print_all (lines_printed (at file 0) (at file 1) (file_rows file (at file 0)) (box_read file h)))

-- ---- a file that is too long

-- no box has a file of 1,027 bytes or more
too_long : (file : List ℕ) → 1027 ≤ length file → in_range 1 8 (at file 0) ≡ true → eqb (length file) (2 + 4 * 2 ^ at file 0) ≡ false
too_long file long h =
    let high : at file 0 ≤ 8 = range_high 1 8 (at file 0) h in
    let most : 2 ^ at file 0 ≤ 256 = pow_mono high in
    ne_eqb (length file) (2 + 4 * 2 ^ at file 0) (λ e. omega arith)

-- A file of 1,027 bytes or more is refused, and by its first two bytes alone.
pub long_file_refused : (file : List ℕ) → 1027 ≤ length file → file_reply file ≡ refusal (long_number (at file 0) (at file 1))
unfolding file_reply file_found file_checks read_checks
long_file_refused file long = by (in_range 1 8 (at file 0)) (in_range 1 32 (at file 1)) refl refl
  where
    two : leb 2 (length file) ≡ true
    two = le-leb 2 (length file) (omega arith)

    by : (a b : Bool) → in_range 1 8 (at file 0) ≡ a → in_range 1 32 (at file 1) ≡ b → file_reply file ≡ refusal (long_number (at file 0) (at file 1))
    by true true p q =
        let ten : long_number (at file 0) (at file 1) ≡ 10 = rw (p, q) in
        sym (reply_refused (sym (found (skip two (skip p (skip q (stop (too_long file long p))))))) _) ∙ ap refusal (sym ten)
    by true false p q =
        let outputs : long_number (at file 0) (at file 1) ≡ 2 = rw (p, q) in
        sym (reply_refused (sym (found (skip two (skip p (stop q))))) _) ∙ ap refusal (sym outputs)
    by false b p q =
        let inputs : long_number (at file 0) (at file 1) ≡ 1 = rw p in
        sym (reply_refused (sym (found (skip two (stop p)))) _) ∙ ap refusal (sym inputs)

-- What a file of 1,027 bytes or more has past them changes nothing: a program that reads so many bytes of a file, or more, has read enough of any file.
pub enough_is_read : (file : List ℕ) (k : ℕ) → 1027 ≤ k → sheet_text (take k file) ≡ sheet_text file
enough_is_read file k low = by (leb (length file) k) refl
  where
    by : (t : Bool) → leb (length file) k ≡ t → sheet_text (take k file) ≡ sheet_text file
    by true e = ap sheet_text (take_all k file (leb-true (length file) k e))
    by false e =
        let more : k < length file = leb-false (length file) k e in
        let start = take k file in
        let start_long : 1027 ≤ length start = omega (arith, length-take-le k file (omega arith)) in
        let n_same : at start 0 ≡ at file 0 = get_or-take k file 0 0 (omega arith) in
        let m_same : at start 1 ≡ at file 1 = get_or-take k file 1 0 (omega arith) in
        sheet_refused start (long_file_refused start start_long)
        ∙ ap₂ (λ (n m : ℕ). line (bytes "refused") (long_number n m ∷ [])) n_same m_same
        ∙ sym (sheet_refused file (long_file_refused file (omega arith)))
