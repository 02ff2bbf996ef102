-- `rounds::merge_sums` meets its contract: case by case of the two answers.
use Rattle.std.specs.Prelude.{Ok, Some, None}
use mathlib.Core.Path.{◌≡◌, sym, ap, ◌∙◌}
use lib.Dec.{ltb}
use Rattle.masks.specs.Parts.{merged_figures}
use Rattle.masks.proofs.Parts.{merged_nothing, merged_second, merged_first}
use Rattle.rounds.specs.Parts.{said_part_sum}
use Rattle.rounds.proofs.merge_sums.Goals as goal

pub returns-in_default : goal.returns-in_default
returns-in_default c count =
    let no_first : c.args.x ≡ Ok None = c.in_ok-first.was ∙ ap (λ o. Ok o) c.in_default.is in
    rw no_first (sym (merged_nothing ltb (said_part_sum count c.args.y)))

pub returns-in_default-2 : goal.returns-in_default-2
unfolding merged_figures
returns-in_default-2 c count =
    let found : c.args.x ≡ Ok (Some c.in-Some.first) = c.in_ok-first.was ∙ ap (λ o. Ok o) c.in-Some.is in
    let no_second : c.args.y ≡ Ok None = c.in_ok-second.was ∙ ap (λ o. Ok o) c.in_default-2.is in
    rw (found, no_second)

pub returns-then-is_sooner : goal.returns-then-is_sooner
returns-then-is_sooner c count =
    let found : c.args.x ≡ Ok (Some c.in-Some.first) = c.in_ok-first.was ∙ ap (λ o. Ok o) c.in-Some.is in
    let second : c.args.y ≡ Ok (Some c.in-Some-2.second) = c.in_ok-second.was ∙ ap (λ o. Ok o) c.in-Some-2.is in
    rw (found, second) (sym (merged_second ltb _ _ _ _ (sym c.is_sooner.ensures ∙ c.if-is_sooner.true)))

pub returns-else-is_sooner : goal.returns-else-is_sooner
returns-else-is_sooner c count =
    let found : c.args.x ≡ Ok (Some c.in-Some.first) = c.in_ok-first.was ∙ ap (λ o. Ok o) c.in-Some.is in
    let second : c.args.y ≡ Ok (Some c.in-Some-2.second) = c.in_ok-second.was ∙ ap (λ o. Ok o) c.in-Some-2.is in
    rw (found, second) (sym (merged_first ltb _ _ _ _ (sym c.is_sooner.ensures ∙ c.if-is_sooner.false)))
