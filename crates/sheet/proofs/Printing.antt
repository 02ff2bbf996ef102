-- Lines that are written one after the other, up to the first that is refused. Assumes nothing.
use mathlib.Core.Path.{◌≡◌, refl, sym, ap, ◌∙◌}
use mathlib.Core.List.{List, [], ◌∷◌, ◌++◌}
use Prim.Native.Nat.{ℕ, ◌+◌, ◌≤◌}
use native.Mathlib.Nat.{add-zero}
use native.Mathlib.Omega.{arith}
use lib.ListN.{length, length-append}
use lib.Seq.{sets}
use Rattle.boolean.proofs.Stored.{sets_append}
use Rattle.texts.specs.Text.{bytes, line}
use Rattle.texts.proofs.Lengths.{line_few}
use Rattle.sheet.specs.Sheet.{SheetLine, prints, stops, outcome_of, until_refused, sheet_lines}
use Rattle.sheet.specs.Work.{LinePrinted, LinesWritten, box_text, TextWritten}

-- one line: where its figure is refused the sheet ends, and else its text stands before the rest
pub until_stops : (l : SheetLine) (ls : List SheetLine) → outcome_of l ≡ stops → until_refused (l ∷ ls) ≡ []
unfolding until_refused
until_stops l ls h = rw (h, until_refused)

pub until_prints : (l : SheetLine) (ls : List SheetLine) {text : List ℕ} → outcome_of l ≡ prints text → until_refused (l ∷ ls) ≡ text ++ until_refused ls
unfolding until_refused
until_prints l ls h = rw (h, until_refused)

-- no lines; a line that stops the sheet; and a line before others
pub lines_none : {start : ℕ} {text : List ℕ} → LinesWritten [] start text start text
unfolding until_refused
lines_none {start} = record { place = sym (add-zero start); stored = refl }

pub lines_stop : {l : SheetLine} {ls : List SheetLine} {start : ℕ} {old new : List ℕ} → (outcome_of l ≡ stops) × (new ≡ old) → LinesWritten (l ∷ ls) start old start new
lines_stop {l} {ls} {start} {old} s =
    let none = until_stops l ls s.0 in
    record { place = rw none (sym (add-zero start)); stored = rw none s.1 }

module _ {l : SheetLine} {ls : List SheetLine} {most start next last : ℕ} {old new final : List ℕ} where
  pub lines_more : LinePrinted l most start old next new → LinesWritten ls next new last final → LinesWritten (l ∷ ls) start old last final
  lines_more p w =
      let both = until_prints l ls p.is in
      let rest = until_refused ls in
      record {
        place = rw both (omega (arith, w.place, p.stored.0, length-append p.bytes rest));
        stored =
            rw both (w.stored ∙ ap (λ (t : List ℕ). sets t next rest) p.stored.1 ∙ ap (λ (k : ℕ). sets (sets old start p.bytes) k rest) p.stored.0
            ∙ sym (sets_append old start p.bytes rest));
      }

-- the line of the widths, and the lines behind it, of which there are at most 306 bytes
module _ (n m : ℕ) (rows : List ℕ) {start next : ℕ} {old text new : List ℕ} where
  pub box_then : (start ≡ 0 + length (line (bytes "box") (n ∷ m ∷ []))) × (text ≡ sets old 0 (line (bytes "box") (n ∷ m ∷ [])))
      → LinesWritten (sheet_lines n m rows) start text next new → next ≤ start + 306 → TextWritten (box_text n m rows) old next new
  unfolding box_text
  box_then b w within =
      let first = line (bytes "box") (n ∷ m ∷ []) in
      let rest = until_refused (sheet_lines n m rows) in
      record {
        size = omega (arith, w.place, b.0, length-append first rest);
        inside = omega (arith, b.0, line_few (bytes "box") (n ∷ m ∷ []), within);
        content =
            w.stored ∙ ap (λ (t : List ℕ). sets t start rest) b.1 ∙ ap (λ (k : ℕ). sets (sets old 0 first) k rest) b.0
            ∙ sym (sets_append old 0 first rest);
      }
