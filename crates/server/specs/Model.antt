-- Document 02 §14, "Several boxes under analysis": what the server holds, and what each call makes of it and answers. Places are counted
-- from 1.
use Rattle.std.specs.Prelude.{Result, Ok, Err, ⊤}
use Rattle.refusals.specs.declared.Refusal.{Refusal}
use Rattle.std.specs.Prelude.{ℕ, zero, suc, ◌+◌, ◌-◌, ◌%◌, ◌^◌, Bool, true, false, not, ◌&&◌, List, [], ◌∷◌, ltb, leb, get_or, set}
use Rattle.boolean.specs.Sums.{list_below, each, keep, first_of}
use Rattle.boolean.specs.Functions.{at, components}
use Rattle.boolean.specs.Selection.{Candidate, first_least, shown}
use Rattle.refusals.specs.Table.{Check, ◌unless◌, first, in_range, box_checks_up_to, after, number}
use Rattle.refusals.specs.declared.Refusal.TheVariants.{NoPlace, PlaceState}
use Rattle.linear.specs.Nonlinearity.{pairs_of}

-- A box under analysis: its widths and rows, how many of its combinations were examined, and the best pair among exactly those. They are
-- examined in ascending order, so that the number says which.
pub record Analysis : Type 0 where
  pub n : ℕ
  pub m : ℕ
  pub rows : List ℕ
  pub examined : ℕ
  pub found : Candidate

-- the combinations that were examined, where k were: 1 to k, in the order in which a box's combinations come, fewest outputs first
unfoldable pub examined_of : (m k : ℕ) → List ℕ
unfolding keep components
examined_of m k = keep (λ c. leb c k) (components m m)

-- the first pair of the fewest differing inputs among exactly those
unfoldable pub among : (n m : ℕ) (rows : List ℕ) (k : ℕ) → Candidate
unfolding first_least each examined_of pairs_of
among n m rows k = first_least (each (examined_of m k) (λ c. pairs_of n rows c))

-- what is held of them: that pair, and before the first combination a count that no pair has
abbrev pub held_of : (n m : ℕ) (rows : List ℕ) (k : ℕ) → Candidate
held_of n m rows zero = record { figure = 2 ^ n + 1; witness = 0 ∷ 0 ∷ 0 ∷ [] }
held_of n m rows (suc k) = among n m rows (suc k)

-- a box of which k combinations were examined
unfoldable pub analysis_of : (n m : ℕ) (rows : List ℕ) (k : ℕ) → Analysis
unfolding among
analysis_of n m rows k = record { n = n; m = m; rows = rows; examined = k; found = held_of n m rows k }

-- what stands on a place
pub data Spot : Type 0 where
  empty : Spot
  holds : Analysis → Spot

-- the server: eight places, and the one last served, which is 0 at the start
pub record ServerState : Type 0 where
  pub spots : List Spot
  pub last : ℕ

unfoldable pub start : ServerState
unfolding list_below
start = record { spots = list_below 8 (λ i. empty); last = 0 }

-- what stands on place p
abbrev pub spot_at : (s : ServerState) (p : ℕ) → Spot
spot_at s p = get_or s.spots (p - 1) empty

-- the server with another thing on place p
abbrev pub with_spot : (s : ServerState) (p : ℕ) (x : Spot) → ServerState
with_spot s p x = record { spots = set s.spots (p - 1) x; last = s.last }

abbrev pub is_taken : Spot → Bool
is_taken empty = false
is_taken (holds a) = true

-- A box is unfinished until all its combinations, 1 to 2^m − 1, were examined. (What has other widths than a box that may be put here has
-- none to examine. No call puts it on a place, but a server that was made up may hold it.)
abbrev pub more : Analysis → Bool
more a = (in_range 1 8 a.n && in_range 1 16 a.m) && ltb a.examined (2 ^ a.m - 1)

abbrev pub unfinished : Spot → Bool
unfinished empty = false
unfinished (holds a) = more a

-- ---- the checks
-- a box has at most sixteen outputs here
unfoldable pub put_checks : (s : ServerState) (p n m : ℕ) (rows : List ℕ) → List Check
put_checks s p n m rows = (NoPlace unless in_range 1 8 p) ∷ (PlaceState unless not (is_taken (spot_at s p))) ∷ box_checks_up_to 16 n m rows

unfoldable pub held_checks : (s : ServerState) (p : ℕ) → List Check
held_checks s p = (NoPlace unless in_range 1 8 p) ∷ (PlaceState unless is_taken (spot_at s p)) ∷ []

-- ---- the calls: a refusal leaves the server as it was
-- putting examines no combination
unfoldable pub put : (s : ServerState) (p n m : ℕ) (rows : List ℕ) → ServerState
unfolding first put_checks analysis_of
put s p n m rows = after (first (put_checks s p n m rows)) (with_spot s p (holds (analysis_of n m rows 0))) s

unfoldable pub withdraw : (s : ServerState) (p : ℕ) → ServerState
unfolding first held_checks
withdraw s p = after (first (held_checks s p)) (with_spot s p empty) s

-- the places in a circle, from the one after the place last served
unfoldable pub round_robin : (last : ℕ) → List ℕ
unfolding list_below
round_robin last = list_below 8 (λ k. (last + k) % 8 + 1)

-- the first place in it that passes a test, and 0 where there is none
abbrev pub first_place : (p : ℕ → Bool) (places : List ℕ) → ℕ
first_place p places = at (first_of p places) 0

-- the place that a step serves: the first in the circle whose box is unfinished, and 0 where there is none
unfoldable pub served : ServerState → ℕ
unfolding round_robin first_of
served s = first_place (λ p. unfinished (spot_at s p)) (round_robin s.last)

-- one combination more
abbrev pub advanced : Spot → Spot
advanced empty = empty
advanced (holds a) = holds (analysis_of a.n a.m a.rows (suc a.examined))

-- the server after a step that serves place i + 1, or none
abbrev pub serve : (s : ServerState) (place : ℕ) → ServerState
serve s zero = s
serve s (suc i) = record { spots = set s.spots i (advanced (get_or s.spots i empty)); last = suc i }

unfoldable pub step : ServerState → ServerState
unfolding served
step s = serve s (served s)

-- `budget` steps, one after the other
unfoldable pub run : (s : ServerState) (budget : ℕ) → ServerState
unfolding step
run s zero = s
run s (suc k) = step (run s k)

-- asking: the number of a refusal, "unfinished", or the figure and its witness
pub data Progress : Type 0 where
  declined : ℕ → Progress
  still_unfinished : Progress
  finished : List ℕ → Progress

-- whether more is to be examined, and what is held
abbrev pub progress_of : (left : Bool) (found : Candidate) → Progress
progress_of true found = still_unfinished
progress_of false found = finished (shown found)

-- (`held_checks` refuses an empty place before its standing is looked at: what this says of it is never answered.)
abbrev pub progress_in : Spot → Progress
progress_in empty = still_unfinished
progress_in (holds a) = progress_of (more a) a.found

abbrev pub progress_after : (k : Result ⊤ Refusal) (x : Spot) → Progress
progress_after (Ok tt) x = progress_in x
progress_after (Err e) x = declined (number e)

unfoldable pub ask : (s : ServerState) (p : ℕ) → Progress
unfolding first held_checks
ask s p = progress_after (first (held_checks s p)) (spot_at s p)
