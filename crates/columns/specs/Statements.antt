-- Calls of `columns::add_to_column` one after the other, of which theorems speak.
use Rattle.std.specs.Prelude.{Ok, Err, ℕ, List, [], ◌∷◌}
use Rattle.refusals.specs.declared.Refusal.{Refusal}
use Rattle.columns.specs.Addition.{Addition, AdditionCalled}

-- Calls of `columns::add_to_column` for a list of additions, one after the other, all with n and m, and the rows that stand after the last.
-- Each is given the rows that stand, the first of them these. After a call that is done, what it left in the array that it was lent stands,
-- and after one that is declined, the rows that it was given.
pub data Calls (n m : ℕ) : (rows : List ℕ) (additions : List Addition) (last : List ℕ) → Type 0 where
  none : {rows : List ℕ} → Calls n m rows [] rows
  done : {rows left last : List ℕ} {a : Addition} {more : List Addition}
      → AdditionCalled n m rows a.column a.mask a.constant a.lent (Ok tt) left → Calls n m left more last
      → Calls n m rows (a ∷ more) last
  declined : {rows left last : List ℕ} {a : Addition} {more : List Addition} (e : Refusal)
      → AdditionCalled n m rows a.column a.mask a.constant a.lent (Err e) left → Calls n m rows more last
      → Calls n m rows (a ∷ more) last
