-- What a run of the server goes by, and nobody need believe.
use Rattle.std.specs.Prelude.{ℕ, ◌-◌, ◌<◌, ◌≡◌, Bool, false, List, length, get_or}
use Rattle.boolean.specs.Sums.{first_of}
use Rattle.server.specs.declared.Server.{Server}
use Rattle.server.specs.Model.{empty, unfinished, round_robin, first_place}
use Rattle.server.specs.Calls.{spots}

-- Kept beside a server while it runs, so that a step looks at no place that it does not serve: of each place, whether its box is
-- unfinished.
pub record Waiting (s : Server) (waiting : List Bool) : Type 0 where
  pub size : length waiting ≡ 8
  pub marked : (i : ℕ) → i < 8 → get_or waiting i false ≡ unfinished (get_or (spots s.places) i empty)

-- the first place in the circle that is marked, and 0 where there is none
unfoldable pub turn : (waiting : List Bool) (last : ℕ) → ℕ
unfolding round_robin first_of
turn waiting last = first_place (λ p. get_or waiting (p - 1) false) (round_robin last)
