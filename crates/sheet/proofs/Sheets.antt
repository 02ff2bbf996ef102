-- The whole sheet, from what reading the file replied. Assumes nothing.
use Rattle.std.specs.Prelude.{Result, Ok, Err, ⊤}
use Rattle.refusals.specs.declared.Refusal.{Refusal}
use Prim.Native.Nat.{ℕ, ◌+◌}
use mathlib.Core.Path.{◌≡◌, refl, sym, ap, ◌∙◌}
use mathlib.Core.List.{List, [], ◌∷◌, ◌++◌}
use native.Mathlib.Omega.{arith}
use lib.ListN.{length, get_or}
use lib.Seq.{sets}
use Rattle.boolean.specs.Functions.{at}
use Rattle.refusals.specs.Table.{first, figures, refusal, reply_after, after}
use Rattle.refusals.proofs.Checks.{after_accepted}
use Rattle.boxfile.specs.File.{file_rows, file_checks, room_of, file_found}
use Rattle.boxfile.proofs.FileRoom.{room_same}
use Rattle.texts.specs.Text.{bytes, line}
use Rattle.texts.proofs.Lengths.{line_few}
use Rattle.sheet.specs.Sheet.{SheetLine, until_refused, sheet_lines, file_reply, sheet_text}
use Rattle.sheet.specs.Work.{box_text, TextWritten}
use Rattle.sheet.specs.Calls.{SheetWritten}

-- a call that replied figures was accepted, and these are what it gives
pub reply_figures : (k : Result ⊤ Refusal) {given shows : List ℕ} → reply_after k given ≡ figures shows → (k ≡ (Ok tt)) × (shows ≡ given)
reply_figures (Ok tt) h = (refl, cc)
reply_figures (Err e) h = (cc, cc)

module _ (file : List ℕ) where
  pub read_accepted : {shows : List ℕ} → file_reply file ≡ figures shows → (file_found file ≡ (Ok tt)) × (shows ≡ at file 0 ∷ at file 1 ∷ [])
  unfolding file_reply
  read_accepted h = reply_figures (file_found file) h

  -- what the checks find with the room that the file asks for, and with it the reply and the rows
  module _ {room : ℕ} (asked : room ≡ room_of file) where
    found_with_room : first (file_checks file room) ≡ file_found file
    found_with_room = ap (λ (k : ℕ). first (file_checks file k)) asked ∙ room_same file

    pub reply_with_room : reply_after (first (file_checks file room)) (at file 0 ∷ at file 1 ∷ []) ≡ file_reply file
    unfolding file_reply
    reply_with_room = ap (λ (k : Result ⊤ Refusal). reply_after k (at file 0 ∷ at file 1 ∷ [])) found_with_room

    pub rows_with_room : {shows : List ℕ} → file_reply file ≡ figures shows → (old : List ℕ)
        → after (first (file_checks file room)) (file_rows file (at file 0)) old ≡ file_rows file (at file 0)
    rows_with_room h old = sym (after_accepted (found_with_room ∙ (read_accepted h).0) (file_rows file (at file 0)) old)

  -- the sheet of a refused file, and of one that is read
  pub sheet_refused : {k : ℕ} → file_reply file ≡ refusal k → sheet_text file ≡ line (bytes "refused") (k ∷ [])
  unfolding sheet_text
  sheet_refused h = rw (h, sheet_text)

  pub sheet_read : {shows : List ℕ} → file_reply file ≡ figures shows
      → sheet_text file ≡ line (bytes "box") shows ++ until_refused (sheet_lines (at file 0) (at file 1) (file_rows file (at file 0)))
  unfolding sheet_text
  sheet_read h = rw (h, sheet_text)

  pub sheet_of_box : {n m : ℕ} {rows : List ℕ} → file_reply file ≡ figures (n ∷ m ∷ []) → rows ≡ file_rows file (at file 0) → sheet_text file ≡ box_text n m rows
  unfolding box_text
  sheet_of_box {n} {m} {rows} h rows_are =
      let widths = (read_accepted h).1 in
      let n_is : n ≡ at file 0 = ap (λ (l : List ℕ). get_or l 0 0) widths in
      let m_is : m ≡ at file 1 = ap (λ (l : List ℕ). get_or l 1 0) widths in
      let lines : sheet_lines (at file 0) (at file 1) (file_rows file (at file 0)) ≡ sheet_lines n m rows = cc in
      sheet_read h ∙ ap (λ (ls : List SheetLine). line (bytes "box") (n ∷ m ∷ []) ++ until_refused ls) lines

  -- the text that the sheet stands in from its start on
  pub wrote_sheet : {text old : List ℕ} {r : ℕ} {new : List ℕ} → sheet_text file ≡ text → TextWritten text old r new → SheetWritten file old r new
  wrote_sheet {old = old} whole t =
      record { size = t.size ∙ ap length (sym whole); inside = t.inside; text = t.content ∙ ap (sets old 0) (sym whole) }

  pub wrote_refused : (old : List ℕ) {k r : ℕ} {new : List ℕ} → file_reply file ≡ refusal k → r ≡ 0 + length (line (bytes "refused") (k ∷ []))
      → new ≡ sets old 0 (line (bytes "refused") (k ∷ [])) → SheetWritten file old r new
  wrote_refused old {k} h p q =
      wrote_sheet (sheet_refused h) (record { size = omega arith; inside = omega (arith, line_few (bytes "refused") (k ∷ [])); content = q })
