-- What stands at the start of the text is the sheet.
use lib.Seq.{sets, sets-eq, take-append_seam}
use Rattle.std.proofs.Common.{◌≡◌, ℕ, List, ◌+◌, ◌≤◌, length, take, drop, ap, ◌∙◌, arith}

pub start_is : (sheet old new : List ℕ) (size : ℕ) → size ≡ length sheet → length sheet ≤ length old → new ≡ sets old 0 sheet → take size new ≡ sheet
start_is sheet old new size e inside is =
    ap (λ (k : ℕ). take k new) e
    ∙ ap (take (length sheet)) (is ∙ sets-eq sheet old 0 (omega (arith, inside)))
    ∙ take-append_seam sheet (drop (0 + length sheet) old)
