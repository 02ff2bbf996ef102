-- What the functions behind the call ask of one another and give.
use Rattle.std.specs.Prelude.{ℕ, ◌*◌, ◌≤◌, ◌<◌, ◌≡◌, ℤ, nat_abs, length, take, drop, map, slice_index_or}
use mathlib.Core.List.{List, [], ◌∷◌, ◌++◌, Memᴰ}
use Rattle.boolean.specs.Sums.{list_below}
use Rattle.boolean.specs.Functions.{at, value_at, component, walsh, sign_bit}
use Rattle.boolean.specs.Selection.{Candidate}
use Rattle.refusals.specs.Table.{Box}
use Rattle.masks.specs.Steps.{step_tables}
use Rattle.rounds.specs.Round.{Summand, summand_of, outputs_of, sum_nonlinearity}
use Rattle.rounds.specs.Spectra.{peak, peak_places, sign_at}
use Rattle.rounds.specs.declared.Summand.{Summand as Lent}
use Rattle.rounds.specs.declared.Work.{Work}
use Rattle.rounds.specs.declared.Top.{Top}
use Rattle.rounds.specs.declared.Witness.{Witness}
use Rattle.rounds.specs.declared.Found.{Found}
use Rattle.rounds.specs.declared.FoundNearest.{FoundNearest}

-- a box as the code has it, as one of the sum
abbrev pub as_summand : Lent → Summand
as_summand s = summand_of s.n s.m s.rows.now

-- the boxes of a slice, as those of the sum
abbrev pub summed : List Lent → List Summand
summed boxes = map as_summand boxes

-- an accepted box
abbrev pub IsBox : Summand → Type 0
IsBox s = Box s.inputs s.outputs s.rows

-- one to four accepted boxes, of as many outputs as box 1
pub record Round (ss : List Summand) : Type 0 where
  pub some : 1 ≤ length ss
  pub few : length ss ≤ 4
  pub boxed : (s : Summand) → Memᴰ s ss → IsBox s
  pub same : (s : Summand) → Memᴰ s ss → s.outputs ≡ outputs_of ss

-- the two arrays of a box: one begins with its step tables, the other with the truth table of component c
pub record Stepped (s : Lent) (c : ℕ) (steps bits : List ℕ) : Type 0 where
  pub steps_are : take (s.m * length s.rows.now) steps ≡ step_tables s.m s.rows.now
  pub table_is : take (length s.rows.now) bits ≡ list_below (length s.rows.now) (λ x. component s.rows.now c x)

-- its arrays as the code has them
abbrev pub WorkStepped : (s : Lent) (c : ℕ) (w : Work) → Type 0
WorkStepped s c w = Stepped s c w.steps w.bits

-- the arrays of each box. What would stand past the ends is named, and nothing is said of it.
abbrev pub AllStepped : (boxes : List Lent) (c : ℕ) (work : List Work) → Type 0
AllStepped boxes c work =
    (k : ℕ) (s : Lent) (w : Work) → k < length boxes → WorkStepped (slice_index_or boxes k s) c (slice_index_or work k w)

-- the best component so far, with its product, as a candidate
abbrev pub found_candidate : Found → Candidate
found_candidate f = record { figure = f.size; witness = f.c ∷ [] }

-- the first place of the largest magnitude of some values, and the sign bit there
pub record Highest (values : List ℤ) (t : Top) : Type 0 where
  pub inside : t.mask < length values
  pub bounds : (w : ℕ) → w < length values → nat_abs (value_at values w) ≤ nat_abs (value_at values t.mask)
  pub first : (w : ℕ) → w < t.mask → nat_abs (value_at values w) < nat_abs (value_at values t.mask)
  pub signed : t.sign ≡ sign_bit (value_at values t.mask)

-- the first mask of the largest magnitude, and the sign there, in the spectrum of component c of a box
pub record TopOf (s : Summand) (c : ℕ) (t : Top) : Type 0 where
  pub mask_is : t.mask ≡ at (peak s c).witness 0
  pub sign_is : t.sign ≡ sign_bit (walsh s.inputs (component s.rows c) t.mask)

-- component c's first masks of the largest magnitudes, one for each box and 0 past them, and the sign of the product there
pub record WitnessOf (ss : List Summand) (c : ℕ) (t : Witness) : Type 0 where
  pub masks_are : take (length ss) t.masks ≡ peak_places ss c
  pub four : length t.masks ≡ 4
  pub past : drop (length ss) t.masks ≡ drop (length ss) (0 ∷ 0 ∷ 0 ∷ 0 ∷ [])
  pub sign_is : t.b ≡ sign_at ss c (peak_places ss c)

-- the first nearest pair of the boxes over the components cs: its figure and witness, and the masks past the boxes are 0
pub record NearestOf (ss : List Summand) (cs : List ℕ) (p : FoundNearest) : Type 0 where
  pub is : record { figure = p.figure; witness = p.c ∷ (take (length ss) p.masks ++ (p.b ∷ [])) } ≡ sum_nonlinearity ss cs
  pub four : length p.masks ≡ 4
  pub past : drop (length ss) p.masks ≡ drop (length ss) (0 ∷ 0 ∷ 0 ∷ 0 ∷ [])
