-- The scan of the inputs that were gathered: the first that is found odd has the most ones, and where none is odd the degree is 0.
use mathlib.Core.Path.{◌≡◌}
use mathlib.Core.List.{List}
use Prim.Native.Nat.{ℕ, ◌<◌, ◌≤◌, zero-le}
use native.Mathlib.Decide.{dec_lt}
use native.Mathlib.Nat.{le_antisymm}
use native.Mathlib.Omega.{arith}
use lib.Count.{ones}
use lib.ListN.{length}
use Rattle.boolean.specs.Bits.{dot}
use Rattle.boolean.specs.Functions.{at}
use Rattle.boolean.proofs.Degrees.{most_le, le_most}
use Rattle.algebraic.specs.Work.{degree_of_words, BasisGathered}

-- none of the first i inputs is odd
abbrev pub NoneOdd : (words inputs : List ℕ) → ℕ → ℕ → Type 0
NoneOdd words inputs c i = (j : ℕ) → j < i → dot (at words (at inputs j)) c ≡ 1 → ⊥

module _ {words inputs : List ℕ} (g : BasisGathered words inputs) (c : ℕ) where
  -- an odd word is settled by one of those gathered, past those that are not odd
  odd_later : (i u : ℕ) → NoneOdd words inputs c i → u < length words → dot (at words u) c ≡ 1 → (j : ℕ) × (i ≤ j) × (j < length inputs) × (ones u ≤ ones (at inputs j))
  odd_later i u none l odd = let t = g.settle c u l odd in (t.0, later t.0 t.2 (dec_lt t.0 i), t.1, t.3)
    where
      later : (j : ℕ) → dot (at words (at inputs j)) c ≡ 1 → Dec (j < i) → i ≤ j
      later j e (yes k) = absurd (none j k e)
      later j e (no k) = omega arith

  pub first_odd : (i : ℕ) → i < length inputs → NoneOdd words inputs c i → dot (at words (at inputs i)) c ≡ 1 → ones (at inputs i) ≡ degree_of_words words c
  unfolding degree_of_words
  first_odd i l none odd = le_antisymm (le_most (length words) (λ u. dot (at words u) c) (at inputs i) (g.inside i l) odd)
      (most_le (length words) (ones (at inputs i)) (λ u. dot (at words u) c)
      (λ u h e.
      let t = odd_later i u none h e in omega (arith, t.3, g.falling i t.0 t.1 t.2)))

  pub none_odd : NoneOdd words inputs c (length inputs) → 0 ≡ degree_of_words words c
  unfolding degree_of_words
  none_odd none = le_antisymm zero-le
      (most_le (length words) 0 (λ u. dot (at words u) c) (λ u h e. let t = odd_later (length inputs) u none h e in absurd (omega (arith, t.1, t.2))))
