-- What the functions behind the calls on the normal form and the degree ask and leave.
use Rattle.std.specs.Prelude.{ℕ, suc, ◌+◌, ◌^◌, ◌≤◌, ◌<◌, ◌≡◌, ◌⊎◌, Bool, true, false, cond, List, [], ◌∷◌, eqb, leb, length, set}
use Rattle.std.specs.Int.Bits.{bit_xor}
use Rattle.std.specs.Int.Count.{ones}
use Rattle.boolean.specs.Bits.{dot}
use Rattle.boolean.specs.Sums.{largest_below, each}
use Rattle.boolean.specs.Functions.{at, components}
use Rattle.boolean.specs.Selection.{Candidate}
use Rattle.algebraic.specs.declared.Weakest.{Weakest}
use Rattle.algebraic.specs.declared.Met.{Met}

-- the lower half of h numbers as it was, and XORed to the upper half
pub record HalvesAdded (h : ℕ) (old new : List ℕ) : Type 0 where
  pub kept : (k : ℕ) → k < h → at new k ≡ at old k
  pub sums : (k : ℕ) → k < h → at new (h + k) ≡ bit_xor (at old k) (at old (h + k))

-- Of a box the normal form has words: the XOR of the rows whose input lies within u. Bit j of the word at u is column j's coefficient, and
-- the parity of the ones in (word AND c) is that of the component at the mask c.

-- a component's mask with a degree
abbrev pub degree_at : (degree c : ℕ) → Candidate
degree_at degree c = record { figure = degree; witness = c ∷ [] }

-- the weakest component so far, as a candidate
abbrev pub degree_candidate : Weakest → Candidate
degree_candidate w = degree_at w.degree w.c

-- the degree of the component at the mask c, by the words of the normal form
unfoldable pub degree_of_words : (words : List ℕ) (c : ℕ) → ℕ
unfolding largest_below dot
degree_of_words words c = largest_below (length words) (λ u. cond (eqb (dot (at words u) c) 1) (ones u) 0)

-- all components within the limit i with their degrees, by the words
unfoldable pub degrees_of : (m : ℕ) (words : List ℕ) (i : ℕ) → List Candidate
unfolding each components degree_of_words
degrees_of m words i = each (components m i) (λ c. degree_at (degree_of_words words c) c ∷ [])

-- The threshold of this degree at the mask c: a later component may be preferred to it only if its degree is below the threshold. With a
-- single output that is the degree itself, and with several one more.
unfoldable pub threshold_of : (degree c : ℕ) → ℕ
threshold_of degree c = cond (leb (ones c) 1) degree (degree + 1)

-- the first mask from c on, within the limit i, whose degree is below the threshold, with its degree; or 2^m with the degree 0, where
-- there is none
pub record FirstBelow (m : ℕ) (words : List ℕ) (i threshold c : ℕ) (r : Met) : Type 0 where
  pub low : c ≤ r.c
  pub high : r.c ≤ 2 ^ m
  pub few : ones r.c ≤ i
  pub none_before : (x : ℕ) → c ≤ x → x < r.c → ones x ≤ i → threshold ≤ degree_of_words words x
  pub reached : r.c < 2 ^ m → (r.degree ≡ degree_of_words words r.c) × (r.degree < threshold)
  pub ended : r.c ≡ 2 ^ m → r.degree ≡ 0

-- v comes after u: it has fewer ones, or as many and is the smaller
abbrev pub Fewer : (u v : ℕ) → Type 0
Fewer u v = (ones v < ones u) ⊎ ((ones v ≡ ones u) × (v < u))

-- the table of all inputs of 8 bits, those with the most ones first, and of as many ones the larger first
pub record ByOnes (table : List ℕ) : Type 0 where
  pub all : (u : ℕ) → u < 256 → (i : ℕ) × (i < 256) × (at table i ≡ u)
  pub falling : (i j : ℕ) → i < j → j < 256 → Fewer (at table i) (at table j)

-- an echelon basis of words: the word at each place is 0, or has its highest one there
abbrev pub Echelon : (basis : List ℕ) → Type 0
Echelon basis = (k : ℕ) → (at basis k ≡ 0) ⊎ ((2 ^ k ≤ at basis k) × (at basis k < 2 ^ suc k))

-- the component at the mask c is even at every word of the basis
abbrev pub EvenOn : (basis : List ℕ) (c : ℕ) → Type 0
EvenOn basis c = (k : ℕ) → dot (at basis k) c ≡ 0

-- what is left of a word, in a place of the basis that was free; what it has below its highest one is open, as long as it is odd or even
-- where the word is, at each component that is even on the basis
pub record WordPlaced (m word : ℕ) (old new : List ℕ) : Type 0 where
  pub place : ℕ
  pub rest : ℕ
  pub inside : place < m
  pub free : at old place ≡ 0
  pub low : 2 ^ place ≤ rest
  pub high : rest < 2 ^ suc place
  pub some : word ≡ 0 → ⊥
  pub put : new ≡ set old place rest
  pub same : (c : ℕ) → EvenOn old c → dot rest c ≡ dot word c

-- a component that is even on the basis is even at the word, and the basis stays
pub record Spanned (word : ℕ) (old new : List ℕ) : Type 0 where
  pub kept : new ≡ old
  pub even : (c : ℕ) → EvenOn old c → dot word c ≡ 0

-- whether the word is put into the basis
abbrev pub WordInserted : (m word : ℕ) (old new : List ℕ) (put : Bool) → Type 0
WordInserted m word old new true = WordPlaced m word old new
WordInserted m word old new false = Spanned word old new

-- Inputs that settle every degree, those with the most ones first: a component that is odd anywhere is odd at one of them that has as many
-- ones or more. Which of several such choices they are is open.
pub record BasisGathered (words inputs : List ℕ) : Type 0 where
  pub inside : (i : ℕ) → i < length inputs → at inputs i < length words
  pub settle : (c u : ℕ) → u < length words → dot (at words u) c ≡ 1
      → (i : ℕ) × (i < length inputs) × (dot (at words (at inputs i)) c ≡ 1) × (ones u ≤ ones (at inputs i))
  pub falling : (i j : ℕ) → i ≤ j → j < length inputs → ones (at inputs j) ≤ ones (at inputs i)

-- the words of an accepted box, and a limit
pub record DegreesSwept (n m : ℕ) (words : List ℕ) (i : ℕ) : Type 0 where
  pub n_high : n ≤ 8
  pub m_low : 1 ≤ m
  pub m_high : m ≤ 32
  pub size : length words ≡ 2 ^ n
  pub i_low : 1 ≤ i
