-- What stands in which field: of a design and of a server that calls made, of the text of a sheet, and of what a number says. Assumes
-- nothing.
use Rattle.std.specs.Prelude.{Result, Ok, Err, ⊤}
use Rattle.refusals.specs.declared.Refusal.{Refusal}
use Prim.Native.Nat.{ℕ, zero, suc, ◌+◌, ◌^◌, ◌≤◌}
use mathlib.Core.Path.{◌≡◌, refl, sym, ap, ◌∙◌}
use mathlib.Core.List.{List, [], ◌∷◌, ◌++◌, map}
use native.Mathlib.Omega.{arith}
use lib.ListN.{length, take, drop}
use lib.Seq.{sets-eq}
use Rattle.refusals.specs.Table.{Box, first, Reply, figures, refusal, reply_after, after, box_checks}
use Rattle.refusals.specs.Statements.{TableLine, Answers}
use Rattle.refusals.proofs.Checks.{box, after_accepted}
use Rattle.refusals.proofs.FilledRows.{filled_rows}
use Rattle.refusals.proofs.Replies.{no_figures, figures_accepted}
use Rattle.border.specs.Border.{status}
use Rattle.design.specs.declared.Design.{Design}
use Rattle.design.specs.declared.Snapshot.{Snapshot}
use Rattle.design.specs.Model.{Mark, new_design, no_box, begin}
use Rattle.design.specs.Calls.{snapshot_of, snapshots_of, design_of, DesignBegun}
use Rattle.server.specs.declared.Place.{Place}
use Rattle.server.specs.declared.Server.{Server}
use Rattle.server.specs.Model.{Spot}
use Rattle.server.specs.Calls.{place_of, places_of, ServerStepped, ServerRan, none, more}
use Rattle.sheet.specs.Sheet.{sheet_text}
use Rattle.sheet.specs.Calls.{SheetWritten}
use Rattle.satmegwo_design.specs.Exports.{number_says}
use Rattle.claims.specs.Statements.{ReturnsNumber}
use Rattle.claims.proofs.Returning.{numbered}

-- ---- a design
-- the state that refused checks leave
refused_after : {A : Type 0} (found : Result ⊤ Refusal) (given : List ℕ) (k : ℕ) → reply_after found given ≡ refusal k → (result old : A)
    → after found result old ≡ old
refused_after (Ok tt) given k h result old = absurd (no_figures h)
refused_after (Err e) given k h result old = refl

module _ (n m : ℕ) (rows : List ℕ) (said : Reply) (d : Design) (begun : DesignBegun n m rows said d) where
  pub begun_box : said ≡ figures [] → (d.n ≡ n) × (d.m ≡ m) × (take (2 ^ n) d.rows ≡ rows)
  unfolding begin new_design design_of
  begun_box done =
      let accepted : first (box_checks n m rows) ≡ (Ok tt) = (figures_accepted (first (box_checks n m rows)) [] (sym begun.reply ∙ done)).0 in
      let e : d ≡ design_of (new_design n m rows) = begun.whole ∙ ap design_of (sym (after_accepted accepted (new_design n m rows) no_box)) in
      let b : Box n m rows = box n m rows [] accepted in
      (ap (λ (x : Design). x.n) e, ap (λ (x : Design). x.m) e, ap (λ (x : Design). take (2 ^ n) x.rows) e ∙ filled_rows n rows b.size)

  pub begun_none : (k : ℕ) → said ≡ refusal k → d.n ≡ 0
  unfolding begin no_box new_design design_of
  begun_none k refused =
      let e = refused_after (first (box_checks n m rows)) [] k (sym begun.reply ∙ refused) (new_design n m rows) no_box in
      ap (λ (x : Design). x.n) (begun.whole ∙ ap design_of e)

pub marks_mapped : (xs : List Mark) → snapshots_of xs ≡ map snapshot_of xs
unfolding snapshots_of
marks_mapped [] = refl
marks_mapped (x ∷ xs) = ap (λ (l : List Snapshot). snapshot_of x ∷ l) (marks_mapped xs)

-- what is returned is the status of what it says
status_says : (returned : ℕ) → returned ≡ status (number_says returned)
unfolding status
status_says zero = refl
status_says (suc k) = refl

pub number_out : (returned : ℕ) (lines : List TableLine) → Answers (number_says returned) [] lines → ReturnsNumber returned lines
number_out returned lines a = numbered (number_says returned) [] lines returned a (status_says returned)

-- ---- a server
pub places_mapped : (xs : List Spot) → places_of xs ≡ map place_of xs
unfolding places_of
places_mapped [] = refl
places_mapped (x ∷ xs) = ap (λ (l : List Place). place_of x ∷ l) (places_mapped xs)

pub ran_none : {s r : Server} → ServerRan s 0 r → r ≡ s
ran_none none = refl

pub ran_last : {s r : Server} {k : ℕ} → ServerRan s (suc k) r → (t : Server) × ServerRan s k t × ServerStepped t r
ran_last (more {k} {t} p x) = (t, p, x)

-- ---- a sheet
pub sheet_written : (file old new : List ℕ) (answer : ℕ) → SheetWritten file old answer new → length old ≡ 332
    → new ≡ sheet_text file ++ drop (length (sheet_text file)) old
sheet_written file old new answer w long =
    let short : 0 + length (sheet_text file) ≤ length old = omega (arith, w.size, w.inside) in
    let e : 0 + length (sheet_text file) ≡ length (sheet_text file) = omega arith in
    w.text ∙ sets-eq (sheet_text file) old 0 short ∙ ap (λ (k : ℕ). sheet_text file ++ drop k old) e
