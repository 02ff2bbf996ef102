-- What the theorems speak of: any operations with any arguments, one after the other, and a design that they made.
use Rattle.std.specs.Prelude.{ℕ, ◌^◌, ◌≡◌, Bool, true, false, eqb}
use mathlib.Core.List.{List, [], ◌∷◌, ◌++◌, foldl}
use Rattle.boolean.specs.Sums.{count_below}
use Rattle.boolean.specs.Functions.{at}
use Rattle.boolean.specs.Statements.{MadeBy}
use Rattle.refusals.specs.Table.{Check, Reply}
use Rattle.design.specs.declared.Design.{Design}
use Rattle.design.specs.Model.{DesignState, swap_checks, design_add_checks, mark_checks, return_checks}
use Rattle.design.specs.Model.{swap_inputs, add, set_mark, return_to}
use Rattle.design.specs.Calls.{DesignBegun, DesignSwapped, DesignAdded, DesignMarked, DesignReturned}

pub data Operation : Type 0 where
  swaps : ℕ → ℕ → Operation
  adds : ℕ → ℕ → ℕ → Operation
  sets : ℕ → Operation
  returns : ℕ → Operation

-- the checks of an operation, and the state that it makes
unfoldable pub operation_checks : (s : DesignState) (o : Operation) → List Check
unfolding swap_checks design_add_checks mark_checks return_checks
operation_checks s (swaps x y) = swap_checks s x y
operation_checks s (adds j w b) = design_add_checks s j w b
operation_checks s (sets k) = mark_checks s k
operation_checks s (returns k) = return_checks s k

unfoldable pub after_operation : (s : DesignState) (o : Operation) → DesignState
unfolding swap_inputs add set_mark return_to
after_operation s (swaps x y) = swap_inputs s x y
after_operation s (adds j w b) = add s j w b
after_operation s (sets k) = set_mark s k
after_operation s (returns k) = return_to s k

-- the state after several, one after the other
unfoldable pub after_operations : (s : DesignState) (os : List Operation) → DesignState
unfolding after_operation
after_operations s os = foldl after_operation s os

-- none of the operations sets mark k
unfoldable pub leaves : (k : ℕ) (os : List Operation) → Bool
leaves k [] = true
leaves k (swaps x y ∷ os) = leaves k os
leaves k (adds j w b ∷ os) = leaves k os
leaves k (sets q ∷ os) = elim (eqb q k) [ true ↦ false | false ↦ leaves k os ]
leaves k (returns q ∷ os) = leaves k os

-- no operation changes the box but swaps: marks may be set between them
unfoldable pub only_swaps : List Operation → Bool
only_swaps [] = true
only_swaps (swaps x y ∷ os) = only_swaps os
only_swaps (adds j w b ∷ os) = false
only_swaps (sets q ∷ os) = only_swaps os
only_swaps (returns q ∷ os) = false

-- how many inputs give the output value v
unfoldable pub given_by : (s : DesignState) (v : ℕ) → ℕ
unfolding count_below
given_by s v = count_below (2 ^ s.n) (λ x. eqb (at s.rows x) v)

-- among the operations there is a last one that sets mark k: those before it, and those after it
pub record LastSet (k : ℕ) (os : List Operation) : Type 0 where
  pub earlier : List Operation
  pub later : List Operation
  pub splits : os ≡ earlier ++ (sets k ∷ later)
  pub left : leaves k later ≡ true

-- what a call of an operation does: the contract of `Design::swap`, `Design::add`, `Design::mark` or `Design::return_to`
abbrev pub OperationCalled : (o : Operation) (old : Design) (said : Reply) (new : Design) → Type 0
OperationCalled (swaps x y) old said new = DesignSwapped old x y said new
OperationCalled (adds j w b) old said new = DesignAdded old j w b said new
OperationCalled (sets k) old said new = DesignMarked old k said new
OperationCalled (returns k) old said new = DesignReturned old k said new

-- what each of these calls does, whatever it says
abbrev pub BegunBy : (n m : ℕ) (rows : List ℕ) (d : Design) → Type 0
BegunBy n m rows d = (said : Reply) × DesignBegun n m rows said d

abbrev pub CalledBy : (o : Operation) (old new : Design) → Type 0
CalledBy o old new = (said : Reply) × OperationCalled o old said new

-- A design that its own calls made: `begin` with these arguments, and then these operations, one after the other. Any of them may have been
-- refused.
abbrev pub DesignMade : (n m : ℕ) (rows : List ℕ) (os : List Operation) (d : Design) → Type 0
DesignMade n m rows os d = MadeBy (BegunBy n m rows) CalledBy os d
