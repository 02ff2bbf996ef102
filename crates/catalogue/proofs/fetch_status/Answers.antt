-- `catalogue::fetch_status` meets its contract.
use mathlib.Core.Path.{◌≡◌, sym, ap₂, ◌∙◌}
use mathlib.Core.List.{[], ◌∷◌}
use Prim.Native.Nat.{ℕ}
use native.Mathlib.Omega.{arith}
use Rattle.refusals.specs.Table.{first, figures}
use Rattle.refusals.proofs.Checks.{reply_refused, reply_accepted}
use Rattle.catalogue.specs.Format.{place_at}
use Rattle.catalogue.specs.Calls.{index_checks}
use Rattle.catalogue.proofs.Indexed.{Indexed, indexed, lies}
use Rattle.std.specs.Prelude.{Ok}
use Rattle.catalogue.proofs.fetch_status.Goals as goal

pub word_at-offset-requires : goal.word_at-offset-requires
word_at-offset-requires c = omega (arith, ((indexed _ _ (sym c.in_ok-check_index.ensures))).listed)

pub word_at-size-requires : goal.word_at-size-requires
word_at-size-requires c = omega (arith, ((indexed _ _ (sym c.in_ok-check_index.ensures))).listed)

pub returns : goal.returns
unfolding place_at
returns c =
    let l = lies _ _ _ _ ((indexed _ _ (sym c.in_ok-check_index.ensures))) c.word_at-offset.ensures.0 c.word_at-size.ensures.0 in
    ap₂ (λ (x y : ℕ). figures (x ∷ y ∷ [])) l.0 l.1 ∙ reply_accepted (sym c.in_ok-check_index.ensures) _
