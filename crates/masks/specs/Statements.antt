-- What the laws of a sweep say: a loop that visits the masks in ascending order, and takes a candidate for a better figure, or for the same
-- figure and fewer outputs, ends with the first best in the components' order. No contract needs it.
use Rattle.std.specs.Prelude.{ℕ, ◌-◌, ◌^◌, ◌≤◌, ◌<◌, ◌≡◌, Bool, ◌||◌, leb}
use mathlib.Core.List.{List, [], ◌∷◌, Memᴰ}
use Rattle.std.specs.Int.Count.{ones}
use Rattle.boolean.specs.Functions.{at, MaskWithin, mask_rank}
use Rattle.boolean.specs.Selection.{Candidate, Ascending, SameMembers}
use Rattle.boolean.specs.Sums.{list_from, keep}
use Rattle.refusals.specs.Table.{Reply, in_range}
use Rattle.masks.specs.Parts.{merged_reply}

-- the masks within the limit i from one on and below a bound, in ascending order (`masks_below` has them from 1 on)
abbrev pub masks_from : (i first end : ℕ) → List ℕ
masks_from i first end = keep (λ c. leb (ones c) i) (list_from first (end - first) (λ c. c))

-- the masks from `first` on and below `end`, of a box with m outputs
pub record MaskRange (m first end : ℕ) : Type 0 where
  pub low : 1 ≤ first
  pub some : first ≤ end
  pub high : end ≤ 2 ^ m

-- the mask of a candidate, which stands first in its witness
abbrev pub mask : Candidate → ℕ
mask p = at p.witness 0

-- one candidate for each mask, which its witness names
pub record Named (rule : ℕ → Candidate) : Type 0 where
  pub names : (c : ℕ) → mask (rule c) ≡ c

-- Masks as a loop visits them, rising from the first one on and below 2^m, and the same masks in the components' order.
pub record Visit (m first : ℕ) (visited ordered : List ℕ) : Type 0 where
  pub rest : List ℕ
  pub starts : visited ≡ first ∷ rest
  pub rises : Ascending (λ c. c) visited
  pub high : (c : ℕ) → Memᴰ c visited → c < 2 ^ m
  pub in_order : Ascending (mask_rank m) ordered
  pub same : SameMembers visited ordered

-- candidates in blocks, one for each mask: none is empty, and the witnesses name the mask
pub record Blocks (block : ℕ → List Candidate) : Type 0 where
  pub some : (c : ℕ) → (x : Candidate) × (xs : List Candidate) × (block c ≡ x ∷ xs)
  pub names : (c : ℕ) (p : Candidate) → Memᴰ p (block c) → mask p ≡ c

-- a combination within the limit i whose mask lies from `low` to `high`
pub record MaskBetween (m i low high c : ℕ) : Type 0 where
  pub mask : MaskWithin i (2 ^ m) c
  pub from : low ≤ c
  pub to : c ≤ high

-- a part of a sweep: the masks from `low` to `high`, which lie from 1 to 2^m − 1
pub record Cut (m : ℕ) : Type 0 where
  pub low : ℕ
  pub high : ℕ
  pub from_one : 1 ≤ low
  pub some : low ≤ high
  pub below : high < 2 ^ m

-- Replies of parts merged, in any order and grouping, of parts that may overlap; and which masks they are of. `reply` is what the call
-- replies of a part.
pub data Gathered (before : ℕ → ℕ → Bool) (m : ℕ) (reply : Cut m → Reply) : (covers : ℕ → Bool) (merged : Reply) → Type 0 where
  single : (c : Cut m) → Gathered before m reply (λ x. in_range c.low c.high x) (reply c)
  both : {p q : ℕ → Bool} {x y : Reply} → Gathered before m reply p x → Gathered before m reply q y
      → Gathered before m reply (λ c. p c || q c) (merged_reply before x y)

-- a mask lies in one of the parts
abbrev pub Covered : {m : ℕ} (k : ℕ) (cuts : List (Cut m)) → Type 0
Covered {m} k cuts = (c : Cut m) × Memᴰ c cuts × (c.low ≤ k) × (k ≤ c.high)

-- the replies of parts, one after the other
abbrev pub replies : {m : ℕ} (reply : Cut m → Reply) (cuts : List (Cut m)) → List Reply
replies reply [] = []
replies reply (c ∷ cuts) = reply c ∷ replies reply cuts
