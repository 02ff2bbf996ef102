-- Of a valid catalogue a place is opened, and the file is stored at the start of the gap.
use Rattle.std.proofs.lemmas.Result.{err_from_is_err_and}
use Rattle.std.specs.Prelude.{Ok}
use mathlib.Core.Path.{◌≡◌, sym, ap, ◌∙◌}
use mathlib.Core.List.{List, [], ◌∷◌}
use Prim.Native.Nat.{ℕ, ◌+◌, ◌*◌, ◌≤◌, ◌<◌}
use native.Mathlib.Omega.{arith}
use borrow.Author.Rules.{rules}
use lib.ListN.{length}
use lib.Seq.{sets}
use Rattle.std.proofs.Common.{Option, Some}
use Rattle.refusals.specs.Table.{first, figures}
use Rattle.refusals.proofs.Checks.{reply_refused, reply_accepted, after_refused, after_accepted}
use Rattle.catalogue.specs.declared.Gap.{Gap}
use Rattle.catalogue.specs.Format.{word_at, count, part, records}
use Rattle.catalogue.specs.Calls.{gap_for, gap_index, lowest, offered_checks}
use Rattle.catalogue.proofs.Built.{valid_says}
use Rattle.catalogue.proofs.GapSearch.{starts}
use Rattle.catalogue.proofs.Adding.{offered_whole, add_refused, add_full, add_nowhere, add_accepted, next_place, gap_index_lem, gap_room, added_is}
use Rattle.catalogue.proofs.add.Goals as goal

pub returns-in_err-check_offered : goal.returns-in_err-check_offered
returns-in_err-check_offered c =
    let p = err_from_is_err_and c.from_residual.result c.from_residual.ensures.1 in
    rw (p.1, p.2)
    (let h = add_refused _ _ (sym c.in_err-check_offered.ensures) in
    record { reply = reply_refused h _; content = after_refused h _ _ })

pub word_at-n-requires : goal.word_at-n-requires
word_at-n-requires c = omega (arith, (valid_says _ (offered_whole _ _ (sym c.in_ok-check_offered.ensures))).low)

pub returns-then-n-ge64 : goal.returns-then-n-ge64
unfolding count
returns-then-n-ge64 c =
    let offered = sym c.in_ok-check_offered.ensures in
    let h = add_full _ _ offered (omega (arith, c.word_at-n.ensures.0, c.if-n-ge64.true)) in
    record { reply = reply_refused h _; content = after_refused h _ _ }

pub find_gap-gap-requires : goal.find_gap-gap-requires
unfolding count
find_gap-gap-requires c = (offered_whole _ _ (sym c.in_ok-check_offered.ensures), c.word_at-n.ensures.0)

pub returns-in_default : goal.returns-in_default
unfolding count gap_for
returns-in_default c =
    let offered = sym c.in_ok-check_offered.ensures in
    let h = add_nowhere _ _ offered (omega (arith, c.word_at-n.ensures.0, c.if-n-ge64.false)) (sym c.find_gap-gap.ensures ∙ c.in_default.is) in
    record { reply = reply_refused h _; content = after_refused h _ _ }

-- past the checks there is a gap, and the file fits there
record Known (b file : List ℕ) (n index start : ℕ) : Type 0 where
  offered : first (offered_checks b file) ≡ (Ok tt)
  counted : n ≡ count b
  few : count b < 64
  gap : gap_for b file ≡ starts index start
  fits : start + length file ≤ length b

known : {b file : List ℕ} {n : ℕ} {gap : Option Gap} (g : Gap) → first (offered_checks b file) ≡ (Ok tt) → n ≡ word_at b 0 → n < 64
    → gap ≡ lowest (length file) (length b) 0 258 (records b) → gap ≡ Some g → Known b file n g.index g.start
unfolding count gap_for
known {b} {file} g offered counted few found is =
    let at : gap_for b file ≡ starts g.index g.start = sym found ∙ is in
    record {
      offered = offered;
      counted = counted;
      few = omega (arith, counted, few);
      gap = at;
      fits = gap_room b file (offered_whole b file offered) at;
    }

pub open_place-requires : goal.open_place-requires
open_place-requires c =
    let g = c.in-Some.field-0 in
    let k = known g (sym c.in_ok-check_offered.ensures) c.word_at-n.ensures.0 c.if-n-ge64.false c.find_gap-gap.ensures c.in-Some.is in
    let whole = offered_whole _ _ k.offered in
    let v = valid_says _ whole in (
      omega (arith, gap_index_lem _ _ whole k.gap, k.counted),
      c.if-n-ge64.false,
      v.low,
      omega (arith, k.fits, v.high),
      omega (arith, k.fits, v.high),
      ap (λ (n : ℕ). part (4 * n + 2) 4 c.args.catalogue.now) k.counted ∙ next_place _ [] whole k.few,
    )

pub copy_in-requires : goal.copy_in-requires
copy_in-requires c =
    let g = c.in-Some.field-0 in
    let k = known g (sym c.in_ok-check_offered.ensures) c.word_at-n.ensures.0 c.if-n-ge64.false c.find_gap-gap.ensures c.in-Some.is in
    omega (arith, k.fits, c.open_place.auto.b)

pub overflow_cast-result : goal.overflow_cast-result
overflow_cast-result c =
    let g = c.in-Some.field-0 in
    let k = known g (sym c.in_ok-check_offered.ensures) c.word_at-n.ensures.0 c.if-n-ge64.false c.find_gap-gap.ensures c.in-Some.is in
    omega (arith, gap_index_lem _ _ (offered_whole _ _ k.offered) k.gap, k.few)

pub returns : goal.returns
returns c =
    let a = c.args in
    let g = c.in-Some.field-0 in
    let k = known g (sym c.in_ok-check_offered.ensures) c.word_at-n.ensures.0 c.if-n-ge64.false c.find_gap-gap.ensures c.in-Some.is in
    let h = add_accepted _ _ k.offered k.few k.gap in
    record {
      reply = ap (λ (x : Option Gap). figures (gap_index x ∷ [])) (sym k.gap) ∙ reply_accepted h _;
      content = c.copy_in.ensures ∙ ap (λ (l : List ℕ). sets l g.start a.file.now) c.open_place.ensures
          ∙ added_is a.catalogue.now a.file.now (offered_whole _ _ k.offered) k.gap (λ i. search rules) c.word_at-n.result k.counted c.if-n-ge64.false
          ∙ after_accepted h _ _;
    }
