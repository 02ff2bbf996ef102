-- `catalogue::record_stands` meets its contract: each test that was passed leaves the answer to the rest. Assumes nothing.
use mathlib.Core.Path.{◌≡◌, sym, ap, ◌∙◌}
use Prim.Native.Nat.{ℕ, ◌+◌, ◌-◌}
use native.Mathlib.Omega.{arith}
use borrow.Author.Tests.{le-leb, lt-leb}
use lib.ListN.{take, drop}
use Rattle.refusals.specs.Table.{is_accepted}
use Rattle.refusals.proofs.Checks.{fails, holds}
use Rattle.boxfile.specs.File.{file_found}
use Rattle.catalogue.specs.Format.{part, accepted, stands}
use Rattle.catalogue.proofs.Ands.{stop_at, go_on}
use borrow.Author.Rules.{rules}
use Rattle.catalogue.proofs.record_stands.Statement.{statement}
use Rattle.catalogue.proofs.record_stands.Tie as tie

answer : (c : tie.After-check_alone) →
    let a = c.args in
    accepted (part a.offset a.size a.b.now) ≡ is_accepted c.check_alone.result
unfolding accepted
answer c =
    let a = c.args in
    let e : a.size ≡ a.offset + a.size - a.offset = omega arith in
    ap (λ (n : ℕ). is_accepted (file_found (take n (drop a.offset a.b.now)))) e ∙ ap is_accepted (sym c.check_alone.ensures)

returns : tie.Need-returns-then-offset-end
unfolding stands
returns c = stop_at _ _ (lt-leb _ _ c.if-offset-end.true)

returns-2 : tie.Need-returns-then-b-past
unfolding stands
returns-2 c = go_on _ _ (le-leb _ _ c.if-offset-end.false) (stop_at _ _ (lt-leb _ _ c.if-b-past.true))

returns-3 : tie.Need-returns-then-not-values_below
unfolding stands
returns-3 c =
    go_on _ _ (le-leb _ _ c.if-offset-end.false) (go_on _ _ (le-leb _ _ c.if-b-past.false) (stop_at _ _ (fails c.values_below.ensures c.if-not-values_below.true-raw)))

returns-4 : tie.Need-returns-in-Err
unfolding stands
returns-4 c =
    go_on _ _ (le-leb _ _ c.if-offset-end.false) (go_on _ _ (le-leb _ _ c.if-b-past.false) (go_on _ _ (holds c.values_below.ensures c.if-not-values_below.false-raw)
    (sym (answer c.before ∙ ap is_accepted c.in-Err.is))))

returns-5 : tie.Need-returns
unfolding stands
returns-5 c =
    go_on _ _ (le-leb _ _ c.if-offset-end.false) (go_on _ _ (le-leb _ _ c.if-b-past.false) (go_on _ _ (holds c.values_below.ensures c.if-not-values_below.false-raw)
    (sym (answer c.before ∙ ap is_accepted c.in_default.is))))

pub record_stands_spec : {M : Type 1} → statement M
record_stands_spec =
    tie.close
    (tie.spec returns (λ c. search rules) returns-2 (λ c. search rules) (λ c. search rules) (λ c κs. search rules) returns-3
    (λ c. search rules) (λ c. search rules) (λ c. search rules) (λ c κs. search rules) (λ c. search rules) returns-4
    (λ c. search rules) returns-5)
