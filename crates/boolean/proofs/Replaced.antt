-- A loop that replaces each entry of a list by what a rule gives for its place and it, one a turn: after i turns the first i are replaced.
use mathlib.Core.Path.{◌≡◌, refl, sym, ◌∙◌, subst}
use mathlib.Core.List.{List}
use Prim.Native.Nat.{ℕ, ◌+◌, ◌≤◌, ◌<◌}
use native.Mathlib.Decide.{ℕ_discrete}
use native.Mathlib.Omega.{arith}
use lib.ListN.{length, get_or, set, length-set}
use lib.Seq.{get_or-set_same, get_or-set_other}
use Rattle.boolean.specs.Sums.{list_below}
use Rattle.boolean.proofs.Lists.{list_is}

module _ {A : Type 0} (d : A) (g : ℕ → A → A) (old : List A) where
  pub record Replaced (i : ℕ) (l : List A) : Type 0 where
    pub within : i ≤ length old
    pub long : length l ≡ length old
    pub done : (k : ℕ) → k < i → get_or l k d ≡ g k (get_or old k d)
    pub rest : (k : ℕ) → i ≤ k → get_or l k d ≡ get_or old k d

  pub replaced_none : Replaced 0 old
  replaced_none = record { within = omega arith; long = refl; done = λ k h. absurd (omega arith); rest = λ k h. refl }

  module _ (i : ℕ) (l : List A) (s : Replaced i l) where
    module _ (lt : i < length old) (v : A) (e : v ≡ g i (get_or old i d)) where
      done_more : (k : ℕ) → k < i + 1 → Dec (k ≡ i) → get_or (set l i v) k d ≡ g k (get_or old k d)
      done_more k h (yes p) = subst (λ (j : ℕ). get_or (set l i v) j d ≡ g j (get_or old j d)) (sym p) (get_or-set_same l i v d (omega (arith, s.long)) ∙ e)
      done_more k h (no ne) = get_or-set_other l i k v d ne ∙ s.done k (omega arith)

      pub replaced_more : Replaced (i + 1) (set l i v)
      replaced_more = record {
        within = omega arith;
        long = length-set l i v ∙ s.long;
        done = λ k h. done_more k h (ℕ_discrete k i);
        rest = λ k h. get_or-set_other l i k v d (λ q. omega arith) ∙ s.rest k (omega arith);
      }

    pub replaced_whole : length old ≤ i → l ≡ list_below (length old) (λ k. g k (get_or old k d))
    replaced_whole h = list_is d (length old) (λ k. g k (get_or old k d)) l s.long (λ k lt. s.done k (omega arith))
