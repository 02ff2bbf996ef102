-- What stands after calls of `columns::add_to_column`, each given the rows that stand: of one call, of a list of them, and in a combination.
use Rattle.std.specs.Prelude.{Result, Ok, Err, ⊤}
use mathlib.Core.Path.{◌≡◌, refl, sym, ap, ◌∙◌}
use mathlib.Core.List.{List, [], ◌∷◌}
use Prim.Native.Nat.{ℕ, ◌<◌}
use lib.Bits.{bit_xor}
use lib.ListN.{length}
use Rattle.boolean.specs.Bits.{affine, bit}
use Rattle.boolean.specs.Functions.{component}
use Rattle.refusals.specs.Table.{Check, first, reply_after, after, said_written}
use Rattle.refusals.specs.declared.Refusal.{Refusal}
use Rattle.refusals.proofs.Checks.{after_accepted}
use Rattle.refusals.proofs.Outcomes.{wrote_refused, wrote_accepted}
use Rattle.columns.specs.Addition.{Addition, AdditionCalled, addition_checks, addition_checked, standing_rows, rows_after_all}
use Rattle.columns.specs.Statements.{Calls, none, done, declined}
use Rattle.columns.proofs.Additions.{component_seen, component_unseen, accepted_fits, rows_with}

-- "After an accepted addition its new rows stand; a refused one leaves standing those it was given." Of a call of `columns::add_to_column`, by its
-- contract: where it is done, what it left in the lent array stands, and where it is declined, the rows it was given.
pub standing_is_content : (n m : ℕ) (rows : List ℕ) (a : Addition) (answer : Result ⊤ Refusal) (left : List ℕ)
    → AdditionCalled n m rows a.column a.mask a.constant a.lent answer left
    → (answer ≡ (Ok tt) → standing_rows n m rows a ≡ left) × ((e : Refusal) → answer ≡ Err e → standing_rows n m rows a ≡ rows)
unfolding standing_rows addition_checked
standing_is_content n m rows a answer left call =
    found (first (addition_checks n m rows a.column a.mask a.constant (length a.lent))) (rows_with a rows) call.reply call.content
  where
    found : (k : Result ⊤ Refusal) (new : List ℕ) → said_written answer ≡ reply_after k [] → left ≡ after k new a.lent
        → (answer ≡ (Ok tt) → after k new rows ≡ left) × ((e : Refusal) → answer ≡ Err e → after k new rows ≡ rows)
    found (Ok tt) new r l = (λ d. sym l, λ e d. cc)
    found (Err f) new r l = (λ d. cc, λ e d. refl)

-- So of a list of calls, however long or empty, each given the rows that stand: what stands after the last is `rows_after_all`.
pub calls_stand : (n m : ℕ) {rows last : List ℕ} {additions : List Addition} → Calls n m rows additions last → rows_after_all n m rows additions ≡ last
unfolding rows_after_all
calls_stand n m none = refl
calls_stand n m (done {rows} {left} {last} {a} {more} call calls) =
    ap (λ (r : List ℕ). rows_after_all n m r more) ((standing_is_content n m rows a (Ok tt) left call).0 refl) ∙ calls_stand n m calls
calls_stand n m (declined {rows} {left} {last} {a} {more} e call calls) =
    ap (λ (r : List ℕ). rows_after_all n m r more) ((standing_is_content n m rows a (Err e) left call).1 e refl) ∙ calls_stand n m calls

-- And calls of every list end, accepted and refused ones, with what stands: no list is left out by speaking of calls.
one_call : (n m : ℕ) (rows : List ℕ) (a : Addition) (more : List Addition) (last : List ℕ) → Calls n m (standing_rows n m rows a) more last
    → Calls n m rows (a ∷ more) last
unfolding standing_rows addition_checked
one_call n m rows a more last rest = found (first checks) refl rest
  where
    checks : List Check
    checks = addition_checks n m rows a.column a.mask a.constant (length a.lent)

    found : (k : Result ⊤ Refusal) → first checks ≡ k → Calls n m (after k (rows_with a rows) rows) more last → Calls n m rows (a ∷ more) last
    found (Ok tt) h calls = done (wrote_accepted h refl) calls
    found (Err e) h calls = declined e (wrote_refused h) calls

pub calls_end : (n m : ℕ) (rows : List ℕ) (additions : List Addition) → Calls n m rows additions (rows_after_all n m rows additions)
unfolding rows_after_all
calls_end n m rows [] = none
calls_end n m rows (a ∷ more) = one_call n m rows a more _ (calls_end n m (standing_rows n m rows a) more)

-- An accepted addition is seen by a combination exactly when the combination contains the column.
pub addition_seen : (n m : ℕ) (rows : List ℕ) (a : Addition) → addition_checked n m rows a ≡ (Ok tt) → (c x : ℕ) → x < length rows
    → (bit a.column c ≡ 0 → component (standing_rows n m rows a) c x ≡ component rows c x)
    × (bit a.column c ≡ 1 → component (standing_rows n m rows a) c x ≡ bit_xor (component rows c x) (affine a.mask a.constant x))
unfolding standing_rows
addition_seen n m rows a accepted c x l =
    let stands : component (standing_rows n m rows a) c x ≡ component (rows_with a rows) c x = ap (λ (r : List ℕ). component r c x) (sym (after_accepted accepted (rows_with a rows) rows)) in
    let small = (accepted_fits n m rows a accepted).constant_high in (
      λ e. stands ∙ component_unseen a.column a.mask a.constant rows small c x l e,
      λ e. stands ∙ component_seen a.column a.mask a.constant rows small c x l e,
    )
