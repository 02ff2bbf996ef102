-- What the theorems beside the contracts say; no contract needs it.
use Rattle.std.specs.Prelude.{ℕ, ◌^◌, ◌<◌, ◌≤◌, ◌≡◌, List, [], ◌∷◌}
use Rattle.boolean.specs.Functions.{at, component, degree, MaskWithin, MaskBefore, mask_rank}
use Rattle.boolean.specs.Selection.{Candidate}
use Rattle.refusals.specs.Table.{figures}
use Rattle.algebraic.specs.Calls.{box_degree_reply}

-- what is reported of an accepted box and limit i: the least degree d of a combination within the limit, and the first combination c that
-- has it
pub record DegreeReported (n m : ℕ) (rows : List ℕ) (i : ℕ) : Type 0 where
  pub d : ℕ
  pub c : ℕ
  pub reply : box_degree_reply n m rows i ≡ figures (d ∷ c ∷ [])
  pub least : (c' : ℕ) → MaskWithin i (2 ^ m) c' → d ≤ degree n (component rows c')
  pub member : MaskWithin i (2 ^ m) c
  pub reached : degree n (component rows c) ≡ d
  pub before : (c' : ℕ) → MaskWithin i (2 ^ m) c' → MaskBefore c' c → d < degree n (component rows c')

-- a component's number in the components' order
abbrev pub degree_rank : (m : ℕ) (p : Candidate) → ℕ
degree_rank m p = mask_rank m (at p.witness 0)

-- a function of n inputs is constant
abbrev pub Constant : (n : ℕ) (f : ℕ → ℕ) → Type 0
Constant n f = (x : ℕ) → x < 2 ^ n → f x ≡ f 0

-- two inputs with equal rows are equal
abbrev pub Injective : (n : ℕ) (rows : List ℕ) → Type 0
Injective n rows = (x y : ℕ) → x < 2 ^ n → y < 2 ^ n → at rows x ≡ at rows y → x ≡ y
