use Rattle.std.proofs.Common.{ℕ, refl, ap, ◌∙◌, arith}
use Rattle.std.proofs.Math.ListN.{get_or-eq_default}
use Rattle.boolean.specs.Bits.{dot}
use Rattle.boolean.proofs.Dots.{dot_zero}
use Rattle.algebraic.proofs.adds_word.Goals as goal

pub returns-else-place-words : goal.returns-else-place-words
returns-else-place-words c = record {
  kept = refl;
  even = λ e h. ap (λ (v : ℕ). dot v e) (get_or-eq_default c.args.words.now 0 (omega arith)) ∙ dot_zero e;
}
