-- The call for all nearest pairs: checks, answer and outcome.
use Rattle.refusals.specs.declared.Refusal.{Refusal}
use Rattle.std.specs.Prelude.{Result, Ok, Err, ℕ, List, [], ◌∷◌, ◌++◌, leb, length}
use Rattle.refusals.specs.Table.{Check, ◌unless◌, limit_checks, Reply, figures, refusal, number, Wrote}
use Rattle.refusals.specs.declared.Refusal.TheVariants.{ListTooShort}
use Rattle.differential.specs.Calls.{list_after}
use Rattle.nearest.specs.NearestPairs.{nearest_pairs}

-- the checks of a box and of the limit, then whether the list is long enough for all nearest pairs
unfoldable pub pairs_checks : (n m : ℕ) (rows : List ℕ) (i room : ℕ) → List Check
unfolding limit_checks nearest_pairs
pairs_checks n m rows i room = limit_checks n m rows i ++ ((ListTooShort unless leb (length (nearest_pairs n m rows i)) room) ∷ [])

-- what the answer says: the number of pairs, or the number of the refusal
abbrev pub said_pair_list : Result ℕ Refusal → Reply
said_pair_list (Ok count) = figures (count ∷ [])
said_pair_list (Err e) = refusal (number e)

-- the outcome of a call of `nearest::nearest_pairs`: the number of pairs, and the list
abbrev pub PairsCalled : (n m : ℕ) (rows : List ℕ) (i : ℕ) (lent : List ℕ) (answer : Result ℕ Refusal) (left : List ℕ) → Type 0
PairsCalled n m rows i lent answer left =
    Wrote (pairs_checks n m rows i (length lent)) (length (nearest_pairs n m rows i) ∷ []) (list_after (nearest_pairs n m rows i) lent) lent
    (said_pair_list answer) left
