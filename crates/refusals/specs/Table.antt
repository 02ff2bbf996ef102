-- Documents 01, "Where a call stops", and 02: the numbers, the checks in their order, and what a call replies and leaves.
use Rattle.std.specs.Prelude.{Result, Ok, Err, ⊤}
use Rattle.std.specs.Prelude.{ℕ, ◌^◌, ◌≤◌, ◌<◌, ◌≡◌, List, [], ◌∷◌, ◌++◌, Bool, true, false, ◌&&◌, length, drop, replicate, ltb, leb, eqb}
use Rattle.boolean.specs.Sums.{every}
use Rattle.boolean.specs.Functions.{at}
use Rattle.refusals.specs.declared.Refusal.{Refusal}
use Rattle.refusals.specs.declared.Refusal.TheVariants.{InputWidth, OutputWidth, ReadLength, Value, Permutation}
use Rattle.refusals.specs.declared.Refusal.TheVariants.{Parameter, WrittenLength, NoFunction, ListTooShort, FileLength}
use Rattle.refusals.specs.declared.Refusal.TheVariants.{BoxCount, OutputWidths, Catalogue, NoRoom, NoRecord}
use Rattle.refusals.specs.declared.Refusal.TheVariants.{UnusedBit, UnsetMark, NoPlace, PlaceState}

-- the number of each refusal
abbrev pub number : Refusal → ℕ
number InputWidth = 1
number OutputWidth = 2
number ReadLength = 3
number Value = 4
number Permutation = 5
number Parameter = 6
number WrittenLength = 7
number NoFunction = 8
number ListTooShort = 9
number FileLength = 10
number BoxCount = 11
number OutputWidths = 12
number Catalogue = 13
number NoRoom = 14
number NoRecord = 15
number UnusedBit = 16
number UnsetMark = 17
number NoPlace = 18
number PlaceState = 19

infix 5 ◌unless◌
-- a line of the table: the refusal that is given unless the test holds
pub data Check : Type 0 where
  ◌unless◌ : Refusal → Bool → Check

-- checks run down the table; the first that applies is given, and only then
unfoldable pub first : List Check → Result ⊤ Refusal
first [] = Ok tt
first ((e unless ok) ∷ cs) = elim ok [ true ↦ first cs | false ↦ Err e ]

-- a is at least lo and at most hi
abbrev pub in_range : (lo hi a : ℕ) → Bool
in_range lo hi a = leb lo a && leb a hi

-- every number of the list is below the limit
abbrev pub all_below : (limit : ℕ) (xs : List ℕ) → Bool
all_below limit xs = every (λ x. ltb x limit) xs

-- the checks of a box where at most `most` outputs are taken: n inputs, m outputs, 2^n rows below 2^m
abbrev pub box_checks_up_to : (most n m : ℕ) (rows : List ℕ) → List Check
box_checks_up_to most n m rows =
    (InputWidth unless in_range 1 8 n)
    ∷ (OutputWidth unless in_range 1 most m)
    ∷ (ReadLength unless eqb (length rows) (2 ^ n))
    ∷ (Value unless all_below (2 ^ m) rows)
    ∷ []

-- the checks of a box: a call takes up to 32 outputs, unless it says otherwise
abbrev pub box_checks : (n m : ℕ) (rows : List ℕ) → List Check
box_checks n m rows = box_checks_up_to 32 n m rows

-- the checks of a call on the combinations of at most i outputs: the box's, then i
unfoldable pub limit_checks : (n m : ℕ) (rows : List ℕ) (i : ℕ) → List Check
limit_checks n m rows i = box_checks n m rows ++ ((Parameter unless in_range 1 m i) ∷ [])

-- the checks of a truth table: n inputs, 2^n values of 0 or 1
abbrev pub table_checks : (n : ℕ) (table : List ℕ) → List Check
table_checks n table =
    (InputWidth unless in_range 1 8 n)
    ∷ (ReadLength unless eqb (length table) (2 ^ n))
    ∷ (Value unless all_below 2 table)
    ∷ []

-- the checks of a call that reads a truth table and writes 2^n values: the truth table's, then the written array
unfoldable pub table_call_checks : (n : ℕ) (table : List ℕ) (room : ℕ) → List Check
table_call_checks n table room = table_checks n table ++ ((WrittenLength unless eqb room (2 ^ n)) ∷ [])

-- what a call replies: its figures in the document's order, or the number of the refusal alone
pub data Reply : Type 0 where
  figures : List ℕ → Reply
  refusal : ℕ → Reply

-- the reply of a call whose checks found this
abbrev pub reply_after : (checked : Result ⊤ Refusal) (given : List ℕ) → Reply
reply_after (Ok _) given = figures given
reply_after (Err e) given = refusal (number e)

-- what stands after a call whose checks found this, as the content of a lent array or the state of a server: the result, or what was there
abbrev pub after : {A : Type 0} (found : Result ⊤ Refusal) (result old : A) → A
after (Ok _) result old = result
after (Err e) result old = old

-- whether the checks accept
abbrev pub is_accepted : Result ⊤ Refusal → Bool
is_accepted (Ok _) = true
is_accepted (Err e) = false

-- The outcome of a call that writes to one lent array, by its checks: it says the figures given, or the number of the refusal alone, and
-- the array then holds the result, or what it held. A contract of such a call is this record, and so is what a theorem on such calls
-- assumes.
pub record Wrote {A : Type 0} (checks : List Check) (given : List ℕ) (result old : List A) (said : Reply) (new : List A) : Type 0 where
  pub reply : said ≡ reply_after (first checks) given
  pub content : new ≡ after (first checks) result old

-- what the answer of a call that only writes says: no figure, or the number
abbrev pub said_written : Result ⊤ Refusal → Reply
said_written (Ok _) = figures []
said_written (Err e) = refusal (number e)

-- the figure of a test
abbrev pub as_figure : Bool → List ℕ
as_figure true = 1 ∷ []
as_figure false = 0 ∷ []

-- what a yes or no says: 1 or 0, or the number
abbrev pub said_verdict : Result Bool Refusal → Reply
said_verdict (Ok holds) = figures (as_figure holds)
said_verdict (Err e) = refusal (number e)

-- a box's rows in an array for the most rows that a box has: the rows, then zeros
abbrev pub filled : (rows : List ℕ) → List ℕ
filled rows = rows ++ drop (length rows) (replicate 256 0)

-- What the checks leave known, for the functions behind a call.

-- an accepted box
pub record Box (n m : ℕ) (rows : List ℕ) : Type 0 where
  pub n_low : 1 ≤ n
  pub n_high : n ≤ 8
  pub m_low : 1 ≤ m
  pub m_high : m ≤ 32
  pub size : length rows ≡ 2 ^ n
  pub small : length rows ≤ 256
  pub below : (x : ℕ) → at rows x < 2 ^ m

-- an accepted truth table
pub record Table (n : ℕ) (table : List ℕ) : Type 0 where
  pub n_low : 1 ≤ n
  pub n_high : n ≤ 8
  pub size : length table ≡ 2 ^ n
  pub bits : (x : ℕ) → at table x < 2
