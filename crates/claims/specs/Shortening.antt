-- Document 02 §12: a list of column additions made shorter. Its refused additions are dropped, and those to one column are taken together.
use Rattle.std.specs.Prelude.{Ok}
use Rattle.std.specs.Prelude.{ℕ, ◌≤◌, ◌≡◌, Bool, not, cond, ◌&&◌, eqb, length}
use mathlib.Core.List.{List, [], ◌∷◌, Memᴰ}
use Rattle.std.specs.Int.Bits.{bit_xor}
use Rattle.refusals.specs.Table.{is_accepted}
use Rattle.boolean.specs.Sums.{keep, list_from}
use Rattle.columns.specs.Addition.{Addition, addition_checked, standing_rows, rows_after_all}

-- two additions to one column as one: its mask and its constant are the XORs of theirs
abbrev pub together : (a b : Addition) → Addition
together a b = record {
  column = a.column;
  mask = bit_xor a.mask b.mask;
  constant = bit_xor a.constant b.constant;
  lent = a.lent;
}

-- a list, its refused additions dropped: each is judged on the rows that stand in its turn
unfoldable pub accepted_only : (n m : ℕ) (rows : List ℕ) (list : List Addition) → List Addition
unfolding addition_checked standing_rows
accepted_only n m rows [] = []
accepted_only n m rows (a ∷ list) =
    let rest : List Addition = accepted_only n m (standing_rows n m rows a) list in
    cond (is_accepted (addition_checked n m rows a)) (a ∷ rest) rest

-- the XOR of a number of each addition
unfoldable pub xors : (number : Addition → ℕ) (list : List Addition) → ℕ
xors number [] = 0
xors number (a ∷ list) = bit_xor (number a) (xors number list)

-- the additions to column j
unfoldable pub to_column : (j : ℕ) (list : List Addition) → List Addition
unfolding keep
to_column j list = keep (λ a. eqb a.column j) list

-- all of them as one, which is lent an array
abbrev pub merged : (lent : List ℕ) (list : List Addition) (j : ℕ) → Addition
merged lent list j = record {
  column = j;
  mask = xors (λ a. a.mask) (to_column j list);
  constant = xors (λ a. a.constant) (to_column j list);
  lent = lent;
}

-- one for each column, in ascending order
unfoldable pub one_for_each : (m : ℕ) (lent : List ℕ) (list : List Addition) → List Addition
unfolding list_from xors to_column
one_for_each m lent list = list_from 1 m (merged lent list)

-- an addition of the zero function
abbrev pub adds_nothing : Addition → Bool
adds_nothing a = eqb a.mask 0 && eqb a.constant 0

-- the short list: of what is accepted on these rows, one for each column that something is added to, each lent the same array
unfoldable pub shortened : (n m : ℕ) (rows lent : List ℕ) (list : List Addition) → List Addition
unfolding keep one_for_each accepted_only
shortened n m rows lent list = keep (λ a. not (adds_nothing a)) (one_for_each m lent (accepted_only n m rows list))

-- A list equals a short one: the rows that stand are those of its accepted additions alone, and those of the short list, which has at most
-- one addition for each column, each of them accepted, and is no longer than what was accepted.
pub record Shortens (n m : ℕ) (rows : List ℕ) (list short : List Addition) : Type 0 where
  pub refused_dropped : rows_after_all n m rows list ≡ rows_after_all n m rows (accepted_only n m rows list)
  pub same_rows : rows_after_all n m rows list ≡ rows_after_all n m rows short
  pub once : (j : ℕ) → length (to_column j short) ≤ 1
  pub accepted : (a : Addition) → Memᴰ a short → addition_checked n m rows a ≡ (Ok tt)
  pub no_longer : length short ≤ length (accepted_only n m rows list)
