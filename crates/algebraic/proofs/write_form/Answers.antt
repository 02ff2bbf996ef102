use Rattle.std.proofs.Common.{◌≡◌, ℕ, ◌<◌, List, length, sym, ap, ◌∙◌, subst}
use Rattle.boolean.specs.Functions.{at, normal_form}
use Rattle.boolean.proofs.Degrees.{length_normal_form}
use Rattle.algebraic.proofs.Theorems.{form_is_table}
use Rattle.algebraic.proofs.write_form.Goals as goal

pub write_bits-requires : goal.write_bits-requires
write_bits-requires c =
    let a = c.args in
    let formed : c.moebius.new.values ≡ normal_form a.n (at a.table.now) = c.moebius.ensures ∙ ap (λ (t : List ℕ). normal_form a.n (at t)) c.write_words.ensures in (
      c.requires.2 ∙ sym (ap length formed ∙ length_normal_form a.n (at a.table.now)),
      λ x. subst (λ (l : List ℕ). at l x < 2) (sym formed) ((form_is_table a.n a.table.now c.requires.0).bits x),
    )
