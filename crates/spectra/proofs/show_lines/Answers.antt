-- The answer for one more line follows those before, and behind the text's end there is no line.
use Rattle.std.proofs.Common.{◌≡◌, ℕ, List, length, drop, take, ◌++◌, ◌+◌, ◌-◌, ◌≤◌, sym, ap, ◌∙◌, subst, arith, append_assoc, drop_of_length-le}
use Rattle.std.specs.Io.KnownBytes.{Appends}
use Rattle.std.proofs.KnownBytes.{Appends-trans}
use Rattle.spectra.specs.Printed.{line_shown, lines_shown}
use Rattle.spectra.proofs.Printed.{line_then, no_lines}
use Rattle.spectra.proofs.show_lines.Goals as goal

pub loop-from-preserved : goal.loop-from-preserved
loop-from-preserved g c =
    let text = c.args.text.now in
    let from = c.loop-from.from in
    let done = c.loop-from.invariant.1 in
    let end = c.line_end-end.ensures.0 in
    let line = line_shown (take (c.line_end-end.result - from) (drop from text)) in
    let rest = lines_shown (drop (c.line_end-end.result + 1) text) in
    let parted : lines_shown (drop from text) ≡ line ++ rest =
    subst (λ (e : ℕ). lines_shown (drop from text) ≡ line_shown (take (e - from) (drop from text)) ++ lines_shown (drop (e + 1) text)) (sym end)
    (line_then text from (omega arith)) in (
      omega arith,
      done ++ line,
      Appends-trans _ _ _ _ _ c.loop-from.invariant.2 c.in_ok-show_line.ensures,
      c.loop-from.invariant.3 ∙ ap (λ (l : List ℕ). done ++ l) parted ∙ sym (append_assoc done line rest),
    )

pub returns : goal.returns
returns g c =
    let text = c.args.text.now in
    let done = c.loop-from.invariant.1 in
    let over : length text ≤ c.loop-from.from = omega arith in
    subst (Appends _ _) (sym (c.loop-from.invariant.3 ∙ ap (λ (l : List ℕ). done ++ lines_shown l) (drop_of_length-le text over) ∙ no_lines done)) c.loop-from.invariant.2
