-- A design: one box and sixteen marks, and what each operation makes of it. Marks are counted from 1.
use Rattle.std.specs.Prelude.{ℕ, ◌-◌, ◌^◌, ◌≡◌, Bool, true, false, List, [], ◌∷◌, ltb, eqb, length, get_or, set}
use Rattle.boolean.specs.Sums.{list_below}
use Rattle.boolean.specs.Functions.{swapped}
use Rattle.refusals.specs.Table.{Check, ◌unless◌, first, in_range, box_checks, after, Box}
use Rattle.refusals.specs.declared.Refusal.TheVariants.{Parameter, WrittenLength, UnsetMark}
use Rattle.columns.specs.Addition.{added_rows}

-- what a mark has: nothing before it was set, and else the rows of that moment
pub data Mark : Type 0 where
  unset : Mark
  keeps : List ℕ → Mark

pub record DesignState : Type 0 where
  pub n : ℕ
  pub m : ℕ
  pub rows : List ℕ
  pub marks : List Mark

-- a box, and no mark set
unfoldable pub new_design : (n m : ℕ) (rows : List ℕ) → DesignState
unfolding list_below
new_design n m rows = record { n = n; m = m; rows = rows; marks = list_below 16 (λ i. unset) }

-- a design without a box, as a refused `begin` gives it: no inputs and no outputs, one row of 0, and no mark set
unfoldable pub no_box : DesignState
unfolding new_design
no_box = new_design 0 0 (0 ∷ [])

-- whether there is a box in it
abbrev pub has_box : DesignState → Bool
has_box s = in_range 1 8 s.n

-- what mark k has
abbrev pub mark_at : (s : DesignState) (k : ℕ) → Mark
mark_at s k = get_or s.marks (k - 1) unset

abbrev pub is_set : Mark → Bool
is_set unset = false
is_set (keeps rows) = true

-- the rows of a mark; of one that was never set, those given
abbrev pub rows_kept : (x : Mark) (rows : List ℕ) → List ℕ
rows_kept unset rows = rows
rows_kept (keeps kept) rows = kept

-- the design with other rows
abbrev pub with_rows : (s : DesignState) (rows : List ℕ) → DesignState
with_rows s rows = record { n = s.n; m = s.m; rows = rows; marks = s.marks }

-- the design with something else at mark k
abbrev pub with_mark : (s : DesignState) (k : ℕ) (x : Mark) → DesignState
with_mark s k x = record { n = s.n; m = s.m; rows = s.rows; marks = set s.marks (k - 1) x }

-- ---- the checks: without a box every operation is refused by 6, and reading by 7
unfoldable pub swap_checks : (s : DesignState) (x y : ℕ) → List Check
swap_checks s x y = (Parameter unless has_box s) ∷ (Parameter unless ltb x (2 ^ s.n)) ∷ (Parameter unless ltb y (2 ^ s.n)) ∷ []

unfoldable pub design_add_checks : (s : DesignState) (j w b : ℕ) → List Check
design_add_checks s j w b =
    (Parameter unless has_box s)
    ∷ (Parameter unless in_range 1 s.m j)
    ∷ (Parameter unless ltb w (2 ^ s.n))
    ∷ (Parameter unless ltb b 2)
    ∷ []

unfoldable pub mark_checks : (s : DesignState) (k : ℕ) → List Check
mark_checks s k = (Parameter unless has_box s) ∷ (Parameter unless in_range 1 16 k) ∷ []

unfoldable pub return_checks : (s : DesignState) (k : ℕ) → List Check
return_checks s k = (Parameter unless has_box s) ∷ (Parameter unless in_range 1 16 k) ∷ (UnsetMark unless is_set (mark_at s k)) ∷ []

unfoldable pub design_read_checks : (s : DesignState) (room : ℕ) → List Check
design_read_checks s room = (WrittenLength unless has_box s) ∷ (WrittenLength unless eqb room (2 ^ s.n)) ∷ []

-- ---- the operations: a refusal leaves the design as it was
-- a design of the box; of a box that is refused, a design without one
unfoldable pub begin : (n m : ℕ) (rows : List ℕ) → DesignState
unfolding first new_design no_box
begin n m rows = after (first (box_checks n m rows)) (new_design n m rows) no_box

unfoldable pub swap_inputs : (s : DesignState) (x y : ℕ) → DesignState
unfolding first swap_checks swapped
swap_inputs s x y = after (first (swap_checks s x y)) (with_rows s (swapped s.rows x y)) s

unfoldable pub add : (s : DesignState) (j w b : ℕ) → DesignState
unfolding first design_add_checks added_rows
add s j w b = after (first (design_add_checks s j w b)) (with_rows s (added_rows j w b s.rows)) s

unfoldable pub set_mark : (s : DesignState) (k : ℕ) → DesignState
unfolding first mark_checks
set_mark s k = after (first (mark_checks s k)) (with_mark s k (keeps s.rows)) s

unfoldable pub return_to : (s : DesignState) (k : ℕ) → DesignState
unfolding first return_checks
return_to s k = after (first (return_checks s k)) (with_rows s (rows_kept (mark_at s k) s.rows)) s

-- ---- what holds of a design throughout: its box is accepted, and so is the box of each mark that is set
abbrev pub SoundMark : (n m : ℕ) (x : Mark) → Type 0
SoundMark n m unset = Unit {0}
SoundMark n m (keeps rows) = Box n m rows

abbrev pub SoundMarks : (n m : ℕ) (xs : List Mark) → Type 0
SoundMarks n m [] = Unit {0}
SoundMarks n m (x ∷ xs) = SoundMark n m x × SoundMarks n m xs

pub record Boxed (s : DesignState) : Type 0 where
  pub box : Box s.n s.m s.rows
  pub kept : SoundMarks s.n s.m s.marks
  pub sixteen : length s.marks ≡ 16

-- or there is none in it, since `begin` was refused
pub data SoundState (s : DesignState) : Type 0 where
  boxed : Boxed s → SoundState s
  without : s ≡ no_box → SoundState s
