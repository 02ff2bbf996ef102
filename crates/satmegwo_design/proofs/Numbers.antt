-- An operation's answer as a number: what its contract says of the answer holds of the number. Assumes nothing.
use Rattle.std.specs.Prelude.{Result, Ok, Err, ⊤}
use Prim.Native.Nat.{ℕ, ◌^◌}
use mathlib.Core.Path.{◌≡◌, refl}
use mathlib.Core.Bool.{Bool, true, false}
use mathlib.Core.List.{[], ◌∷◌}
use lib.Dec.{eqb}
use Rattle.refusals.specs.Table.{◌unless◌, first, refusal, number, in_range, said_written}
use Rattle.refusals.specs.declared.Refusal.{Refusal}
use Rattle.refusals.specs.declared.Refusal.TheVariants.{InputWidth, OutputWidth, ReadLength, Value, Permutation, Parameter, WrittenLength, NoFunction, ListTooShort, FileLength, BoxCount, OutputWidths, Catalogue, NoRoom, NoRecord, UnusedBit, UnsetMark, NoPlace, PlaceState}
use Rattle.design.specs.Model.{DesignState, design_read_checks}
use Rattle.border.specs.Border.{status, room_number}
use Rattle.satmegwo_design.specs.Exports.{number_says}

-- no refusal has the number 0
says_refusal : (e : Refusal) → number_says (number e) ≡ refusal (number e)
says_refusal InputWidth = refl
says_refusal OutputWidth = refl
says_refusal ReadLength = refl
says_refusal Value = refl
says_refusal Permutation = refl
says_refusal Parameter = refl
says_refusal WrittenLength = refl
says_refusal NoFunction = refl
says_refusal ListTooShort = refl
says_refusal FileLength = refl
says_refusal BoxCount = refl
says_refusal OutputWidths = refl
says_refusal Catalogue = refl
says_refusal NoRoom = refl
says_refusal NoRecord = refl
says_refusal UnusedBit = refl
says_refusal UnsetMark = refl
says_refusal NoPlace = refl
says_refusal PlaceState = refl

pub says_answer : (answer : Result ⊤ Refusal) → number_says (status (said_written answer)) ≡ said_written answer
unfolding status
says_answer (Ok tt) = refl
says_answer (Err e) = says_refusal e

by_seven : (a b : Bool) → number WrittenLength ≡ room_number (first ((WrittenLength unless a) ∷ (WrittenLength unless b) ∷ []))
unfolding first
by_seven true true = refl
by_seven true false = refl
by_seven false b = refl

-- reading is refused by 7 alone, so the array for n and m may be looked at first
pub only_seven : (s : DesignState) (room : ℕ) → number WrittenLength ≡ room_number (first (design_read_checks s room))
unfolding design_read_checks
only_seven s room = by_seven (in_range 1 8 s.n) (eqb room (2 ^ s.n))
