-- The calls on the XOR table: checks, answers and outcomes.
use Rattle.std.specs.Prelude.{Ok, Err, Result, ⊤, ℕ, ◌-◌, ◌^◌, List, [], ◌∷◌, ◌++◌, eqb, leb, length, drop}
use Rattle.differential.specs.declared.FoundCell.{FoundCell}
use Rattle.refusals.specs.declared.Refusal.{Refusal}
use Rattle.boolean.specs.Selection.{shown}
use Rattle.refusals.specs.Table.{Check, ◌unless◌, first, in_range, box_checks_up_to, box_checks, Reply}
use Rattle.refusals.specs.Table.{figures, refusal, number, reply_after, Wrote, said_written}
use Rattle.refusals.specs.declared.Refusal.TheVariants.{Parameter, WrittenLength, ListTooShort}
use Rattle.differential.specs.XorTable.{xor_row, largest_cell, largest_cells}

-- one row: the checks of a box of at most 16 outputs, then the input difference and the written array
unfoldable pub row_checks : (n m : ℕ) (rows : List ℕ) (a room : ℕ) → List Check
row_checks n m rows a room =
    box_checks_up_to 16 n m rows ++ (
    (Parameter unless in_range 1 (2 ^ n - 1) a)
    ∷ (WrittenLength unless eqb room (2 ^ m))
    ∷ [])

-- the list of cells: a box's checks, then whether the list is long enough for all of them
unfoldable pub list_checks : (n m : ℕ) (rows : List ℕ) (room : ℕ) → List Check
unfolding largest_cells
list_checks n m rows room = box_checks n m rows ++ ((ListTooShort unless leb (length (largest_cells n m rows)) room) ∷ [])

-- what the largest cell's answer says: the count, a and β, or the number of the refusal
abbrev pub said_largest_cell : Result FoundCell Refusal → Reply
said_largest_cell (Ok found) = figures (found.count ∷ found.a ∷ found.beta ∷ [])
said_largest_cell (Err e) = refusal (number e)

-- what the call for the largest cell replies: the count, a and β, or the number of the refusal
abbrev pub largest_cell_reply : (n m : ℕ) (rows : List ℕ) → Reply
largest_cell_reply n m rows = reply_after (first (box_checks n m rows)) (shown (largest_cell n m rows))

-- what the list's answer says: the number of cells, or the number of the refusal
abbrev pub said_cell_list : Result ℕ Refusal → Reply
said_cell_list (Ok count) = figures (count ∷ [])
said_cell_list (Err e) = refusal (number e)

-- what the list holds after an accepted call: the wanted entries, and past them what was there
abbrev pub list_after : (wanted old : List ℕ) → List ℕ
list_after wanted old = wanted ++ drop (length wanted) old

-- the outcome of a call of `differential::xor_row`
abbrev pub RowCalled : (n m : ℕ) (rows : List ℕ) (a : ℕ) (lent : List ℕ) (answer : Result ⊤ Refusal) (left : List ℕ) → Type 0
RowCalled n m rows a lent answer left = Wrote (row_checks n m rows a (length lent)) [] (xor_row n m rows a) lent (said_written answer) left

-- the outcome of a call of `differential::largest_cells`: the number of the cells, and the list
abbrev pub ListCalled : (n m : ℕ) (rows lent : List ℕ) (answer : Result ℕ Refusal) (left : List ℕ) → Type 0
ListCalled n m rows lent answer left =
    Wrote (list_checks n m rows (length lent)) (length (largest_cells n m rows) ∷ []) (list_after (largest_cells n m rows) lent) lent
    (said_cell_list answer) left
