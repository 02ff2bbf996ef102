-- What the code's design stands for, what a design holds that its own calls made, and what each call does, which is its contract and what a
-- theorem on it assumes.
use Rattle.refusals.specs.declared.Refusal.{Refusal}
use Rattle.std.specs.Prelude.{Result, Ok, Err, ℕ, ◌^◌, ◌≡◌, Bool, true, false, List, [], ◌∷◌, eqb, length, take, replicate}
use Rattle.refusals.specs.declared.BoxWidths.{BoxWidths}
use Rattle.design.specs.declared.Snapshot.{Snapshot}
use Rattle.design.specs.declared.Design.{Design}
use Rattle.refusals.specs.Table.{Check, first, box_checks, Reply, figures, refusal, number, reply_after, Wrote, filled}
use Rattle.design.specs.Model.{Mark, unset, keeps, DesignState, SoundState, begin, swap_inputs, add, set_mark, return_to}
use Rattle.design.specs.Model.{swap_checks, design_add_checks, mark_checks, return_checks, design_read_checks}

-- ---- what a design of the code stands for
abbrev pub mark_of : (set : Bool) (rows : List ℕ) → Mark
mark_of true rows = keeps rows
mark_of false rows = unset

-- a mark, whose rows are the first 2^n of its array
unfoldable pub mark_held : (n : ℕ) (p : Snapshot) → Mark
mark_held n p = mark_of (eqb p.taken 1) (take (2 ^ n) p.rows)

unfoldable pub marks_held : (n : ℕ) (ps : List Snapshot) → List Mark
unfolding mark_held
marks_held n [] = []
marks_held n (p ∷ ps) = mark_held n p ∷ marks_held n ps

-- a box's rows, the first 2^n of the array
abbrev pub design_rows : Design → List ℕ
design_rows d = take (2 ^ d.n) d.rows

unfoldable pub state_of_design : Design → DesignState
unfolding marks_held
state_of_design d = record { n = d.n; m = d.m; rows = design_rows d; marks = marks_held d.n d.marks }

-- ---- all that a design of this state holds: a box's rows, then zeros; of a mark that is set, 1 and its rows so; of any other, zeros alone
abbrev pub snapshot_of : Mark → Snapshot
snapshot_of unset = record { taken = 0; rows = replicate 256 0 }
snapshot_of (keeps rows) = record { taken = 1; rows = filled rows }

unfoldable pub snapshots_of : List Mark → List Snapshot
snapshots_of [] = []
snapshots_of (x ∷ xs) = snapshot_of x ∷ snapshots_of xs

unfoldable pub design_of : DesignState → Design
unfolding snapshots_of
design_of s = record { n = s.n; m = s.m; rows = filled s.rows; marks = snapshots_of s.marks }

-- A design that its own calls made: it begins so, and each call keeps it so.
pub record SoundDesign (d : Design) : Type 0 where
  pub sound : SoundState (state_of_design d)
  pub only : d ≡ design_of (state_of_design d)

-- ---- what each call does: `said` is what its answer says, `old` the design that it takes, and `new` the one that it hands back
pub record DesignBegun (n m : ℕ) (rows : List ℕ) (said : Reply) (new : Design) : Type 0 where
  pub reply : said ≡ reply_after (first (box_checks n m rows)) []
  pub whole : new ≡ design_of (begin n m rows)

-- An operation, by its checks and by the state that it makes. The first three hold of every design; the last, which settles every field, of
-- one that its own calls made.
pub record Operated (old : Design) (checks : List Check) (made : DesignState) (said : Reply) (new : Design) : Type 0 where
  pub unchanged : (k : ℕ) → said ≡ refusal k → new ≡ old
  pub reply : said ≡ reply_after (first checks) []
  pub content : state_of_design new ≡ made
  pub whole : SoundDesign old → new ≡ design_of made

abbrev pub DesignSwapped : (old : Design) (x y : ℕ) (said : Reply) (new : Design) → Type 0
DesignSwapped old x y said new = Operated old (swap_checks (state_of_design old) x y) (swap_inputs (state_of_design old) x y) said new

-- column addition looks at the rows too, so of other designs it is said only that a refusal leaves them
pub record DesignAdded (old : Design) (j w b : ℕ) (said : Reply) (new : Design) : Type 0 where
  pub unchanged : (k : ℕ) → said ≡ refusal k → new ≡ old
  pub operated : SoundDesign old → Operated old (design_add_checks (state_of_design old) j w b) (add (state_of_design old) j w b) said new

abbrev pub DesignMarked : (old : Design) (k : ℕ) (said : Reply) (new : Design) → Type 0
DesignMarked old k said new = Operated old (mark_checks (state_of_design old) k) (set_mark (state_of_design old) k) said new

abbrev pub DesignReturned : (old : Design) (k : ℕ) (said : Reply) (new : Design) → Type 0
DesignReturned old k said new = Operated old (return_checks (state_of_design old) k) (return_to (state_of_design old) k) said new

-- what the answer of reading says: n and m, or the number of the refusal
abbrev pub said_box_held : Result BoxWidths Refusal → Reply
said_box_held (Ok widths) = figures (widths.n ∷ widths.m ∷ [])
said_box_held (Err e) = refusal (number e)

-- reading, of every design: the lent array held `old` and then holds `new`
abbrev pub DesignRead : (d : Design) (old : List ℕ) (said : Reply) (new : List ℕ) → Type 0
DesignRead d old said new = Wrote (design_read_checks (state_of_design d) (length old)) (d.n ∷ d.m ∷ []) (design_rows d) old said new
