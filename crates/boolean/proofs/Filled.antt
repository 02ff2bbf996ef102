-- A loop that fills a list from the front, one store a turn: after i turns its first i entries are those of a rule.
use mathlib.Core.Path.{◌≡◌, sym, ◌∙◌, subst}
use mathlib.Core.List.{List}
use Prim.Native.Nat.{ℕ, ◌+◌, ◌≤◌, ◌<◌}
use native.Mathlib.Decide.{ℕ_discrete}
use native.Mathlib.Omega.{arith}
use lib.ListN.{length, get_or, set, length-set}
use lib.Seq.{get_or-set_same, get_or-set_other}
use Rattle.boolean.specs.Sums.{list_below}
use Rattle.boolean.proofs.Lists.{list_is}

module _ {A : Type 0} (d : A) (g : ℕ → A) (n : ℕ) where
  pub record Filled (i : ℕ) (l : List A) : Type 0 where
    pub within : i ≤ n
    pub long : length l ≡ n
    pub done : (k : ℕ) → k < i → get_or l k d ≡ g k

  pub filled_none : (l : List A) → length l ≡ n → Filled 0 l
  filled_none l e = record { within = omega arith; long = e; done = λ k h. absurd (omega arith) }

  module _ (i : ℕ) (l : List A) (s : Filled i l) where
    module _ (lt : i < n) (v : A) (e : v ≡ g i) where
      done_more : (k : ℕ) → k < i + 1 → Dec (k ≡ i) → get_or (set l i v) k d ≡ g k
      done_more k h (yes p) = subst (λ (j : ℕ). get_or (set l i v) j d ≡ g j) (sym p) (get_or-set_same l i v d (omega (arith, s.long)) ∙ e)
      done_more k h (no ne) = get_or-set_other l i k v d ne ∙ s.done k (omega arith)

      pub filled_more : Filled (i + 1) (set l i v)
      filled_more = record { within = omega arith; long = length-set l i v ∙ s.long; done = λ k h. done_more k h (ℕ_discrete k i) }

    pub filled_whole : n ≤ i → l ≡ list_below n g
    filled_whole h = list_is d n g l s.long (λ k lt. s.done k (omega arith))
