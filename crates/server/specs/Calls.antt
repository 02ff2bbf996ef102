-- What the code's server and its answers stand for, all that the code's values hold, and the outcome of each call: its contract, in
-- Rattle and for C, and what the theorems on calls assume.
use Rattle.refusals.specs.declared.Refusal.{Refusal}
use Rattle.std.specs.Prelude.{Result, Ok, Err, Option, Some, None}
use Rattle.std.specs.Prelude.{ℕ, zero, suc, ◌+◌, ◌-◌, ◌^◌, ◌≤◌, ◌≡◌, Bool, true, false, List, [], ◌∷◌, eqb, take, get_or, set, replicate}
use Rattle.boolean.specs.Functions.{at}
use Rattle.boolean.specs.Selection.{Candidate, best, lower, first_least, ranked}
use Rattle.refusals.specs.Table.{Box, box_checks, Reply, first, reply_after, after, number, filled}
use Rattle.masks.specs.Masks.{outputs}
use Rattle.linear.specs.declared.Found.{Found}
use Rattle.linear.specs.Calls.{pair_candidate}
use Rattle.linear.specs.Nonlinearity.{pairs_of}
use Rattle.server.specs.declared.Place.{Place}
use Rattle.server.specs.declared.Server.{Server}
use Rattle.server.specs.Model.{Analysis, held_of, analysis_of, Spot, empty, holds, ServerState, start, put_checks, held_checks}
use Rattle.server.specs.Model.{served, step, Progress, declined, still_unfinished, finished, ask}

-- ---- what the code's values stand for
-- a box's rows, the first 2^n of the array
abbrev pub place_rows : Place → List ℕ
place_rows p = take (2 ^ p.n) p.rows

abbrev pub analysis_in : Place → Analysis
analysis_in p = record { n = p.n; m = p.m; rows = place_rows p; examined = p.examined; found = pair_candidate p.found }

abbrev pub spot_of : (taken : Bool) (a : Analysis) → Spot
spot_of true a = holds a
spot_of false a = empty

-- what stands on a place: a box where `taken` is 1, and else none
unfoldable pub spot_in : Place → Spot
spot_in p = spot_of (eqb p.taken 1) (analysis_in p)

unfoldable pub spots : List Place → List Spot
unfolding spot_in
spots [] = []
spots (p ∷ ps) = spot_in p ∷ spots ps

-- the server that the code's value stands for
abbrev pub state_of_server : Server → ServerState
state_of_server s = record { spots = spots s.places; last = s.last }

-- what an answer to asking says
abbrev pub said_asked : Result (Option Found) Refusal → Progress
said_asked (Ok None) = still_unfinished
said_asked (Ok (Some found)) = finished (found.count ∷ found.c ∷ found.w ∷ found.b ∷ [])
said_asked (Err e) = declined (number e)

-- ---- all that the code's values hold
abbrev pub found_of : Candidate → Found
found_of p = record { count = p.figure; c = at p.witness 0; w = at p.witness 1; b = at p.witness 2 }

-- of a box its widths and rows, how many of its combinations were examined and what is held of those; of an empty place zeros
unfoldable pub place_of : Spot → Place
place_of empty = record { taken = 0; n = 0; m = 0; rows = replicate 256 0; examined = 0; found = record { count = 0; c = 0; w = 0; b = 0 } }
place_of (holds a) =
    record { taken = 1; n = a.n; m = a.m; rows = filled a.rows; examined = a.examined; found = found_of a.found }

unfoldable pub places_of : List Spot → List Place
unfolding place_of
places_of [] = []
places_of (x ∷ xs) = place_of x ∷ places_of xs

-- the code's value, from what it stands for
abbrev pub server_of : ServerState → Server
server_of s = record { places = places_of s.spots; last = s.last }

-- ---- a server that its own calls made: it begins so, and each call keeps it so
-- a box that was accepted, and what is held of exactly the combinations that were examined
pub record Analysed (a : Analysis) : Type 0 where
  pub box : Box a.n a.m a.rows
  pub narrow : a.m ≤ 16
  pub few : a.examined ≤ 2 ^ a.m - 1
  pub so_far : a.found ≡ held_of a.n a.m a.rows a.examined

abbrev pub SoundSpot : Spot → Type 0
SoundSpot empty = Unit {0}
SoundSpot (holds a) = Analysed a

abbrev pub SoundSpots : List Spot → Type 0
SoundSpots [] = Unit {0}
SoundSpots (x ∷ xs) = SoundSpot x × SoundSpots xs

-- each place is empty or has such a box, and the value holds nothing else
pub record SoundServer (s : Server) : Type 0 where
  pub places : SoundSpots (spots s.places)
  pub only : s ≡ server_of (state_of_server s)

-- ---- the outcome of each call
-- an empty server
pub record ServerBegan (r : Server) : Type 0 where
  pub server : r ≡ server_of start

-- the server with another place at an index, and with another thing on a place
abbrev pub replaced : (s : Server) (i : ℕ) (p : Place) → Server
replaced s i p = record { places = set s.places i p; last = s.last }

abbrev pub with_place : (s : Server) (place : ℕ) (x : Spot) → Server
with_place s place x = replaced s (place - 1) (place_of x)

-- Putting a box on a place, of every server: what is said, and the server that is left. A refusal leaves it as it was.
pub record ServerPut (self : Server) (place n m : ℕ) (rows : List ℕ) (said : Reply) (r : Server) : Type 0 where
  pub reply : said ≡ reply_after (first (put_checks (state_of_server self) place n m rows)) []
  pub server : r
      ≡ after (first (put_checks (state_of_server self) place n m rows)) (with_place self place (holds (analysis_of n m rows 0))) self

-- taking the box off a place, of every server
pub record ServerWithdrew (self : Server) (place : ℕ) (said : Reply) (r : Server) : Type 0 where
  pub reply : said ≡ reply_after (first (held_checks (state_of_server self) place)) []
  pub server : r ≡ after (first (held_checks (state_of_server self) place)) (with_place self place empty) self

-- asking, of every server
pub record ServerTold (self : Server) (place : ℕ) (said : Progress) : Type 0 where
  pub standing : said ≡ ask (state_of_server self) place

-- What is held after combination c: the better of the pair that was held and that combination's first nearest pair, and where they are as
-- good the one of fewer outputs. What is no box, which only a server that was made up can have, keeps its pair.
unfoldable pub better : (n m : ℕ) (rows : List ℕ) (held : Candidate) (c : ℕ) → Candidate
unfolding first best first_least pairs_of
better n m rows held c =
    after (first (box_checks n m rows)) (best (ranked lower outputs) held (first_least (pairs_of n rows c) ∷ [])) held

-- a place of which one combination more was examined
unfoldable pub one_more_place : Place → Place
unfolding better
one_more_place p = record {
  taken = p.taken;
  n = p.n;
  m = p.m;
  rows = p.rows;
  examined = p.examined + 1;
  found = found_of (better p.n p.m (place_rows p) (pair_candidate p.found) (p.examined + 1));
}

-- the server after a step that serves place i + 1, or none
abbrev pub server_served : (s : Server) (place : ℕ) → Server
server_served s zero = s
server_served s (suc i) = record { places = set s.places i (one_more_place (get_or s.places i (place_of empty))); last = suc i }

-- A step, of every server; and of one that its own calls made, that it holds then what the model says, and nothing else.
pub record ServerStepped (self r : Server) : Type 0 where
  pub server : r ≡ server_served self (served (state_of_server self))
  pub stands : SoundServer self → r ≡ server_of (step (state_of_server self))

-- `budget` steps, one after the other
pub data ServerRan (self : Server) : (budget : ℕ) (r : Server) → Type 0 where
  none : ServerRan self 0 self
  more : {k : ℕ} {t r : Server} → ServerRan self k t → ServerStepped t r → ServerRan self (suc k) r
