-- A box and its file, both ways, by the contracts of the calls. Assumes nothing.
use Rattle.refusals.specs.declared.BoxWidths.{BoxWidths}
use Rattle.std.specs.Prelude.{Result, Ok, Err, ⊤}
use Rattle.refusals.specs.declared.Refusal.{Refusal}
use Prim.Native.Nat.{ℕ, ◌+◌, ◌*◌, ◌^◌, ◌≤◌}
use mathlib.Core.Path.{◌≡◌, sym, ap, ap₂, ◌∙◌, subst}
use mathlib.Core.List.{List, [], ◌∷◌}
use native.Mathlib.Omega.{arith}
use borrow.Author.Tests.{le-leb, eq-eqb}
use lib.ListN.{length}
use Rattle.boolean.specs.Functions.{at, Below}
use Rattle.refusals.specs.Table.{first, Box, figures}
use Rattle.refusals.proofs.Bounds.{range_true, below_true}
use Rattle.refusals.proofs.Checks.{accepted}
use Rattle.refusals.proofs.Outcomes.{nothing_said, wrote_when_accepted, wrote_when_told}
use Rattle.refusals.proofs.Replies.{no_figures}
use Rattle.boxfile.specs.File.{file_rows, read_checks, file_checks, said_box_file, ReadCalled, file_of, file_found, WriteCalled}
use Rattle.boxfile.proofs.FileRows.{whole, box_of_file}
use Rattle.boxfile.proofs.FileBytes.{length_file, rows_of_file, file_of_rows}
use Rattle.boxfile.proofs.Written.{box_written, write_accepted}

-- the answer that says n and m
read_said : (answer : Result BoxWidths Refusal) {n m : ℕ} → said_box_file answer ≡ figures (n ∷ m ∷ []) → answer ≡ Ok (record { n = n; m = m })
read_said (Ok widths) {n} {m} h =
    let p : widths.n ≡ n = cc in
    let q : widths.m ≡ m = cc in
    ap₂ (λ (a b : ℕ). Ok (record { n = a; m = b })) p q
read_said (Err e) h = absurd (no_figures (sym h))

-- the file of an accepted box is accepted
module _ (n m : ℕ) (rows : List ℕ) (b : Box n m rows) where
  written_size : length (file_of n m rows) ≡ 2 + 4 * 2 ^ n
  written_size = length_file n m rows ∙ ap (λ (k : ℕ). 2 + 4 * k) b.size

  file_accepted : (room : ℕ) → room ≡ length rows → first (file_checks (file_of n m rows) room) ≡ (Ok tt)
  unfolding file_checks read_checks file_of
  file_accepted room long =
      let two : 2 ≤ length (file_of n m rows) = omega (arith, written_size) in
      accepted _ (
        le-leb 2 _ two,
        (
          range_true 1 8 n b.n_low b.n_high,
          (
            range_true 1 32 m b.m_low b.m_high,
            (
              eq-eqb _ _ written_size,
              (rw (rows_of_file n m rows b) (below_true (2 ^ m) rows (λ x l. b.below x)), (eq-eqb _ _ (long ∙ b.size), tt)),
            ),
          ),
        ),
      )

-- Reading after writing: where a call of write_box was accepted, a call of read_box with the file that it left, and any array as long as the rows, is
-- accepted, answers n and m, and leaves the rows.
pub box_comes_back : (n m : ℕ) (rows lent file lent' left : List ℕ) (answer : Result ⊤ Refusal) (answer' : Result BoxWidths Refusal) → WriteCalled n m rows lent answer file → answer ≡ (Ok tt)
    → ReadCalled file lent' answer' left → length lent' ≡ length rows → (answer' ≡ Ok (record { n = n; m = m })) × (left ≡ rows)
unfolding file_of
box_comes_back n m rows lent file lent' left answer answer' w done r long =
    let t = wrote_when_told (subst (λ (z : Result ⊤ Refusal). WriteCalled n m rows lent z file) done w) in
    let b : Box n m rows = box_written n m rows (length lent) t.0 in
    let back = wrote_when_accepted (subst (λ (f : List ℕ). ReadCalled f lent' answer' left) t.2 r) (file_accepted n m rows b (length lent') long) in
    (read_said answer' back.0, back.1 ∙ rows_of_file n m rows b)

-- Writing after reading: where a call of read_box was accepted, a call of write_box with what it answered and the rows that it left, and any array as long as
-- the file, is accepted and leaves the file.
pub file_comes_back : (file lent rows lent' left : List ℕ) (n m : ℕ) (answer : Result BoxWidths Refusal) (answer' : Result ⊤ Refusal) → Below 256 file → ReadCalled file lent answer rows → answer ≡ Ok (record { n = n; m = m })
    → WriteCalled n m rows lent' answer' left → length lent' ≡ length file → (answer' ≡ (Ok tt)) × (left ≡ file)
unfolding file_found
file_comes_back file lent rows lent' left n m answer answer' bytes r read w long =
    let t = wrote_when_told (subst (λ (z : Result BoxWidths Refusal). ReadCalled file lent z rows) read r) in
    let known = whole file (length lent) t.0 in
    let first_byte = at file 0 in
    let second = at file 1 in
    let same_n = subst (λ (k : ℕ). WriteCalled k m rows lent' answer' left) (ap (λ (l : List ℕ). at l 0) t.1) w in
    let same_m = subst (λ (k : ℕ). WriteCalled first_byte k rows lent' answer' left) (ap (λ (l : List ℕ). at l 1) t.1) same_n in
    let same = subst (λ (l : List ℕ). WriteCalled first_byte second l lent' answer' left) t.2 same_m in
    let b = box_of_file file (ap (λ (k : ℕ). first (file_checks file k)) (sym known.room_is) ∙ t.0) in
    let back = wrote_when_accepted same (write_accepted first_byte second (file_rows file first_byte) (length lent') b (long ∙ known.size)) in
    (nothing_said answer' back.0, back.1 ∙ file_of_rows file first_byte known.size bytes)
