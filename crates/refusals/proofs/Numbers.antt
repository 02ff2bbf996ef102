-- No two refusals have one number.
use Prim.Native.Nat.{ℕ}
use mathlib.Core.Path.{◌≡◌, refl, sym, ap, ◌∙◌}
use mathlib.Core.List.{List, [], ◌∷◌}
use lib.ListN.{get_or}
use Rattle.refusals.specs.Table.{number}
use Rattle.refusals.specs.declared.Refusal.{Refusal}
use Rattle.refusals.specs.declared.Refusal.TheVariants.{InputWidth, OutputWidth, ReadLength, Value, Permutation, Parameter, WrittenLength, NoFunction, ListTooShort, FileLength}
use Rattle.refusals.specs.declared.Refusal.TheVariants.{BoxCount, OutputWidths, Catalogue, NoRoom, NoRecord, UnusedBit, UnsetMark, NoPlace, PlaceState}

-- the refusals, each at its number
abbrev by_number : List Refusal
by_number =
    InputWidth ∷ InputWidth ∷ OutputWidth ∷ ReadLength ∷ Value ∷ Permutation ∷ Parameter ∷ WrittenLength ∷ NoFunction ∷ ListTooShort ∷ FileLength
    ∷ BoxCount ∷ OutputWidths ∷ Catalogue ∷ NoRoom ∷ NoRecord ∷ UnusedBit ∷ UnsetMark ∷ NoPlace ∷ PlaceState ∷ []

found_again : (e : Refusal) → get_or by_number (number e) InputWidth ≡ e
found_again InputWidth = refl
found_again OutputWidth = refl
found_again ReadLength = refl
found_again Value = refl
found_again Permutation = refl
found_again Parameter = refl
found_again WrittenLength = refl
found_again NoFunction = refl
found_again ListTooShort = refl
found_again FileLength = refl
found_again BoxCount = refl
found_again OutputWidths = refl
found_again Catalogue = refl
found_again NoRoom = refl
found_again NoRecord = refl
found_again UnusedBit = refl
found_again UnsetMark = refl
found_again NoPlace = refl
found_again PlaceState = refl

pub number_one : (e f : Refusal) → number e ≡ number f → e ≡ f
number_one e f h = sym (found_again e) ∙ ap (λ (k : ℕ). get_or by_number k InputWidth) h ∙ found_again f
