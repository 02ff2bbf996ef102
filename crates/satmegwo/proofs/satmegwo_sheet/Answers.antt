-- `satmegwo::satmegwo_sheet` meets its contract: where both arrays have their lengths, the sheet that was made is copied.
use Rattle.std.specs.Prelude.{Ok}
use Prim.Native.Nat.{ℕ, ◌+◌, ◌≤◌}
use mathlib.Core.Path.{◌≡◌, refl, sym, ap, ap₂, ◌∙◌}
use mathlib.Core.List.{List, [], ◌∷◌}
use native.Mathlib.Omega.{arith}
use borrow.Author.Tests.{eq-eqb, ne_eqb}
use lib.ListN.{length, take}
use lib.Seq.{sets, sets-eq, length-sets, length-take-le, take-append_seam}
use Rattle.refusals.specs.Table.{first, figures}
use Rattle.refusals.proofs.Checks.{found, skip, stop, end, reply_accepted, after_accepted}
use Rattle.sheet.specs.Sheet.{sheet_text}
use Rattle.sheet.specs.Calls.{SheetWritten}
use Rattle.border.proofs.Giving.{out_refused, out_figures}
use Rattle.satmegwo.specs.Exports.{sheet_checks}
use Rattle.satmegwo.proofs.satmegwo_sheet.Goals as goal

-- the sheet that was made ends within its array, and is what stands there before its end
module _ {file old : List ℕ} {size : ℕ} {made : List ℕ} (w : SheetWritten file old size made) (long : length old ≡ 332) where
  made_inside : size ≤ length made
  made_inside = omega (arith, w.inside, ap length w.text, length-sets old 0 (sheet_text file))

  made_is : take size made ≡ sheet_text file
  made_is =
      let short : 0 + length (sheet_text file) ≤ length old = omega (arith, w.size, w.inside) in
      ap₂ (λ (k : ℕ) (l : List ℕ). take k l) w.size (w.text ∙ sets-eq (sheet_text file) old 0 short) ∙ take-append_seam (sheet_text file) _

pub returns-then-text-ne332 : goal.returns-then-text-ne332
returns-then-text-ne332 c =
    let h = sym (found (stop (ne_eqb _ 332 c.if-text-ne332.true))) in
    record { size = out_refused h c.number_of.ensures; text = out_refused h c.number_of.ensures }

pub returns-then-room-ne1 : goal.returns-then-room-ne1
returns-then-room-ne1 c =
    let h = sym (found (skip (eq-eqb _ 332 c.if-text-ne332.false) (stop (ne_eqb _ 1 c.if-room-ne1.true)))) in
    record { size = out_refused h c.number_of-then-room-ne1.ensures; text = out_refused h c.number_of-then-room-ne1.ensures }

pub put_bytes-requires : goal.put_bytes-requires
put_bytes-requires c =
    let inside : c.write_sheet-size.result ≤ length c.write_sheet-size.new.text = made_inside c.write_sheet-size.ensures refl in
    let size = c.write_sheet-size.result in
    let room : 0 + length (take size c.write_sheet-size.new.text) ≤ length c.args.text.now =
    omega (arith, length-take-le size c.write_sheet-size.new.text inside, c.write_sheet-size.ensures.inside, c.if-text-ne332.false) in
    room

pub returns : goal.returns
returns c =
    let a = c.args in
    let written = c.write_sheet-size.ensures in
    let h : first (sheet_checks (length a.text.now) (length a.figures.now)) ≡ (Ok tt) =
    sym (found (skip (eq-eqb _ 332 c.if-text-ne332.false) (skip (eq-eqb _ 1 c.if-room-ne1.false) end))) in
    let size = length (sheet_text a.file.now) ∷ [] in
    let figured = out_figures size c.if-room-ne1.false (ap (λ (k : ℕ). figures (k ∷ [])) written.size ∙ reply_accepted h size)
    c.give.ensures in
    let text = c.put_bytes.ensures.1 ∙ ap (sets a.text.now 0) (made_is written refl) ∙ after_accepted h _ _ in
    record { size = figured; text = record { number = figured.number; content = text } }
