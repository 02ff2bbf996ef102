-- The scan for the next mask whose degree is below a threshold: none that it passed has one. Assumes nothing.
use mathlib.Core.Path.{◌≡◌, refl, ap}
use mathlib.Core.List.{List}
use Prim.Native.Nat.{ℕ, ◌^◌, ◌<◌, ◌≤◌}
use native.Mathlib.Decide.{dec_lt, ℕ_discrete}
use native.Mathlib.Nat.{le_refl}
use native.Mathlib.Omega.{arith}
use lib.Count.{ones}
use Rattle.masks.specs.Masks.{Next}
use Rattle.masks.proofs.Walk.{Walk, walk_next}
use Rattle.algebraic.specs.Work.{degree_of_words, FirstBelow}

pub record Passing (m : ℕ) (words : List ℕ) (i threshold c here : ℕ) : Type 0 where
  pub walk : Walk m i here
  pub low : c ≤ here
  pub none_before : (x : ℕ) → c ≤ x → x < here → ones x ≤ i → threshold ≤ degree_of_words words x

pub passing_starts : (m : ℕ) (words : List ℕ) (i threshold c : ℕ) → Walk m i c → Passing m words i threshold c c
passing_starts m words i threshold c w = record { walk = w; low = le_refl c; none_before = λ x l h f. absurd (omega arith) }

module _ {m : ℕ} {words : List ℕ} {i threshold c here : ℕ} (s : Passing m words i threshold c here) where
  -- one mask more, whose degree is not below the threshold
  pub passing_next : {next degree : ℕ} → here < 2 ^ m → Next i here next → degree ≡ degree_of_words words here → threshold ≤ degree → Passing m words i threshold c next
  passing_next {next} {degree} inside after e h = record {
    walk = walk_next s.walk after inside;
    low = omega (arith, s.low, after.above);
    none_before = λ x l k f. go x l k f (dec_lt x here) (ℕ_discrete x here);
  }
    where
      go : (x : ℕ) → c ≤ x → x < next → ones x ≤ i → Dec (x < here) → Dec (x ≡ here) → threshold ≤ degree_of_words words x
      go x l k f (yes p) q = s.none_before x l p f
      go x l k f (no p) (yes q) = omega (arith, ap (degree_of_words words) q)
      go x l k f (no p) (no q) = absurd (omega (arith, after.between x (omega arith) k))

  -- one whose degree is below it
  pub passing_met : {degree : ℕ} → here < 2 ^ m → degree ≡ degree_of_words words here → degree < threshold → FirstBelow m words i threshold c (record { c = here; degree = degree })
  passing_met inside e h =
      record {
        low = s.low;
        high = s.walk.c_high;
        few = s.walk.few;
        none_before = s.none_before;
        reached = λ l. (e, h);
        ended = λ z. absurd (omega arith);
      }

  -- none is left
  pub passing_ends : 2 ^ m ≤ here → FirstBelow m words i threshold c (record { c = here; degree = 0 })
  passing_ends h =
      record {
        low = s.low;
        high = s.walk.c_high;
        few = s.walk.few;
        none_before = s.none_before;
        reached = λ l. absurd (omega arith);
        ended = λ z. refl;
      }
