-- What the C library adds to the server's calls: a number for what was said, and five figures for what stands on a place.
use Rattle.std.specs.Prelude.{ℕ, ◌≡◌, List, [], ◌∷◌}
use Rattle.refusals.specs.Table.{Reply, figures, refusal}
use Rattle.server.specs.declared.Server.{Server}
use Rattle.server.specs.Model.{Progress, declined, still_unfinished, finished}
use Rattle.server.specs.Calls.{ServerTold}
use Rattle.border.specs.Border.{status, FiguresOut}
use Rattle.satmegwo_server.specs.declared.Outcome.{Outcome}

-- The outcome of a call that may be refused, for C: the server that the call leaves, and what it said as a number. `call` is its outcome
-- in Rattle.
pub record NumberedCall (call : Reply → Server → Type 0) (r : Outcome) : Type 0 where
  pub said : Reply
  pub outcome : call said r.server
  pub number : r.status ≡ status said

-- asking: 1, the figure, c, w and b where the box is finished, five zeros while it is not, or the number of the refusal
abbrev pub progress_reply : Progress → Reply
progress_reply (declined k) = refusal k
progress_reply still_unfinished = figures (0 ∷ 0 ∷ 0 ∷ 0 ∷ 0 ∷ [])
progress_reply (finished found) = figures (1 ∷ found)

-- the outcome of asking, for C: what is returned, and what the array lent for the figures holds then
pub record ToldOut (self : Server) (place : ℕ) (old : List ℕ) (returned : ℕ) (new : List ℕ) : Type 0 where
  pub said : Progress
  pub outcome : ServerTold self place said
  pub out : FiguresOut (progress_reply said) old returned new
