-- The check of the list's length, by the number of pairs that was counted; and a box or a limit that is refused before it. Assumes nothing.
use Rattle.std.specs.Prelude.{Result, Ok, Err, ⊤}
use Rattle.refusals.specs.declared.Refusal.{Refusal}
use mathlib.Core.Path.{◌≡◌, refl, sym, ◌∙◌}
use mathlib.Core.List.{List}
use Prim.Native.Nat.{ℕ, ◌<◌, ◌≤◌}
use native.Mathlib.Omega.{arith}
use borrow.Author.Tests.{le-leb, lt-leb}
use lib.ListN.{length}
use Rattle.refusals.specs.Table.{first, limit_checks, refusal, reply_after, Wrote}
use Rattle.refusals.specs.declared.Refusal.TheVariants.{ListTooShort}
use Rattle.refusals.proofs.Checks.{found_after, skip, stop, end, limit_accepted, first_refused, reply_refused, after_refused}
use Rattle.refusals.proofs.Replies.{no_figures}
use Rattle.nearest.specs.NearestPairs.{nearest_pairs}
use Rattle.nearest.specs.Calls.{pairs_checks}
use Rattle.nearest.specs.Work.{NonlinearityKnown}

module _ {n m : ℕ} {rows : List ℕ} {i d : ℕ} (t : NonlinearityKnown n m rows i d) {count : ℕ} (e : count ≡ length (nearest_pairs n m rows i)) (room : ℕ) where
  accepted : first (limit_checks n m rows i) ≡ (Ok tt)
  accepted = limit_accepted n m rows i (record { box = t.box; i_low = t.i_low; i_high = t.i_high })

  pub too_short : room < count → first (pairs_checks n m rows i room) ≡ Err ListTooShort
  unfolding pairs_checks
  too_short l = sym (found_after (limit_checks n m rows i) accepted (stop (lt-leb (length (nearest_pairs n m rows i)) room (omega arith))))

  pub long_enough : count ≤ room → first (pairs_checks n m rows i room) ≡ (Ok tt)
  unfolding pairs_checks
  long_enough l = sym (found_after (limit_checks n m rows i) accepted (skip (le-leb (length (nearest_pairs n m rows i)) room (omega arith)) end))

-- a refusal of the box or of its limit is one of the list
pub declined : (n m : ℕ) (rows : List ℕ) (i room : ℕ) (shows : List ℕ) {k : ℕ} {given result old : List ℕ} → refusal k ≡ reply_after (first (limit_checks n m rows i)) shows
    → Wrote (pairs_checks n m rows i room) given result old (refusal k) old
unfolding pairs_checks
declined n m rows i room shows {k} {given} {result} {old} h = go (first (limit_checks n m rows i)) refl h
  where
    go : (found : Result ⊤ Refusal) → first (limit_checks n m rows i) ≡ found → refusal k ≡ reply_after found shows → Wrote (pairs_checks n m rows i room) given result old (refusal k) old
    go (Ok tt) e q = absurd (no_figures (sym q))
    go (Err r) e q =
        let refused = first_refused (limit_checks n m rows i) _ e in
        record { reply = q ∙ reply_refused refused given; content = after_refused refused result old }
