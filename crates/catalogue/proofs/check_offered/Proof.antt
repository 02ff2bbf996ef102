-- `catalogue::check_offered` meets its contract: 13 comes before the file's own numbers. Assumes nothing.
use mathlib.Core.Path.{sym, ◌∙◌}
use Rattle.refusals.proofs.Checks.{fails, holds, found, stop, first_passed}
use Rattle.refusals.specs.declared.Refusal.TheVariants.{Catalogue}
use Rattle.boxfile.specs.File.{file_found}
use Rattle.catalogue.specs.Calls.{offered_checks}
use borrow.Author.Rules.{rules}
use Rattle.catalogue.proofs.check_offered.Statement.{statement}
use Rattle.catalogue.proofs.check_offered.Tie as tie

returns : tie.Need-returns-then-not-is_valid
unfolding offered_checks
returns c = found (stop (fails c.is_valid.ensures c.if-not-is_valid.true-raw))

returns-2 : tie.Need-returns
unfolding offered_checks file_found
returns-2 c =
    c.check_alone.ensures ∙ sym (first_passed Catalogue _ _ (holds c.is_valid.ensures c.if-not-is_valid.false-raw))

pub check_offered_spec : {M : Type 1} → statement M
check_offered_spec =
    tie.close (tie.spec (λ c κs. search rules) returns (λ c κs. search rules) returns-2)
