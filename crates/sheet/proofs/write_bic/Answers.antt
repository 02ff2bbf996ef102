-- `sheet::write_bic` meets its contract: with m = 1 the line says that there is no figure; else a refused figure stops the sheet, and a
-- figure's line stands in the text.
use mathlib.Core.Path.{◌≡◌, refl, sym, ap, ◌∙◌}
use native.Mathlib.Omega.{arith}
use borrow.Author.Rules.{rules}
use Rattle.avalanche.specs.Calls.{said_largest_change}
use Rattle.texts.proofs.Lengths.{line_few}
use Rattle.sheet.specs.Sheet.{outcome_of}
use Rattle.sheet.proofs.Outcomes.{numbers_refused, numbers_shown, bic_none, bic_shown}
use Rattle.sheet.proofs.write_bic.Goals as goal

pub returns-then-m-eq1 : goal.returns-then-m-eq1
returns-then-m-eq1 c =
    let one : c.args.m ≡ 1 = omega (arith, c.if-m-eq1.true) in
    record { bytes = _; is = bic_none _ _ _ one; short = search rules; stored = c.put_bytes.ensures }

pub returns-in_default : goal.returns-in_default
returns-in_default c =
    let reply = sym c.dynamic_distance-answer.ensures ∙ ap said_largest_change c.in_default.is in
    (ap outcome_of (bic_shown _ _ _ c.if-m-eq1.false) ∙ numbers_refused "bic" reply, refl)

pub returns : goal.returns
returns c =
    let reply = sym c.dynamic_distance-answer.ensures ∙ ap said_largest_change c.in-Ok.is in
    let shows = ap outcome_of (bic_shown _ _ _ c.if-m-eq1.false) ∙ numbers_shown "bic" reply in
    record { bytes = _; is = shows; short = line_few _ _; stored = c.put_line.ensures }
