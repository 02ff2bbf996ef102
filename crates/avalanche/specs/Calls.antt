-- The calls on input changes: checks and answers.
use Rattle.refusals.specs.declared.Refusal.{Refusal}
use Rattle.std.specs.Prelude.{Result, Ok, Err, ℕ, List, [], ◌∷◌, ◌++◌}
use Rattle.avalanche.specs.declared.FoundChange.{FoundChange}
use Rattle.boolean.specs.Selection.{shown}
use Rattle.refusals.specs.Table.{Check, ◌unless◌, first, in_range, box_checks, limit_checks, Reply, figures, refusal, number, reply_after}
use Rattle.refusals.specs.Table.{as_figure}
use Rattle.refusals.specs.declared.Refusal.TheVariants.{Parameter}
use Rattle.avalanche.specs.Avalanche.{box_autocorrelation, dynamic_distance, complete}

-- the dynamic distance: a box's checks, then the order (i, j)
unfoldable pub distance_checks : (n m : ℕ) (rows : List ℕ) (i j : ℕ) → List Check
distance_checks n m rows i j =
    box_checks n m rows ++ (
    (Parameter unless in_range 1 m i)
    ∷ (Parameter unless in_range 1 n j)
    ∷ [])

-- what an answer says: the figure, c and s, or the number of the refusal
abbrev pub said_largest_change : Result FoundChange Refusal → Reply
said_largest_change (Ok found) = figures (found.figure ∷ found.c ∷ found.s ∷ [])
said_largest_change (Err e) = refusal (number e)

-- what the calls reply: the figure and its witness, yes or no, or the number of the refusal
abbrev pub autocorrelation_reply : (n m : ℕ) (rows : List ℕ) (i : ℕ) → Reply
autocorrelation_reply n m rows i = reply_after (first (limit_checks n m rows i)) (shown (box_autocorrelation n m rows i))

abbrev pub distance_reply : (n m : ℕ) (rows : List ℕ) (i j : ℕ) → Reply
distance_reply n m rows i j = reply_after (first (distance_checks n m rows i j)) (shown (dynamic_distance n m rows i j))

abbrev pub complete_reply : (n m : ℕ) (rows : List ℕ) → Reply
complete_reply n m rows = reply_after (first (box_checks n m rows)) (as_figure (complete n m rows))
