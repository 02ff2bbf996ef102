-- What the laws of selections, of functions and of histories say; no contract needs it.
use Rattle.std.specs.Prelude.{ℕ, ◌-◌, ◌^◌, ◌<◌, ◌≡◌, ◌⊎◌, Bool, true, false, List, [], ◌∷◌, ◌++◌, leb, ℤ, pos, neg_ℤ}
use Rattle.std.specs.Int.Count.{ones}
use Rattle.boolean.specs.Bits.{affine}
use Rattle.boolean.specs.Sums.{list_from, keep}
use Rattle.boolean.specs.Selection.{Candidate}

-- a comparison that goes by an order: R, at least as good as; S, better than
pub record Ordered {C : Type 0} (beats : C → C → Bool) (R S : C → C → Type 0) : Type 0 where
  pub same : (a : C) → R a a
  pub trans : (a b c : C) → R a b → R b c → R a c
  pub weak : (a b : C) → S a b → R a b
  pub left : (a b c : C) → R a b → S b c → S a c
  pub right : (a b c : C) → S a b → R b c → S a c
  pub wins : (c b : C) → beats c b ≡ true → S c b
  pub loses : (c b : C) → beats c b ≡ false → R b c

-- an order of candidates that goes by their figures alone
pub record ByFigure (R S : Candidate → Candidate → Type 0) : Type 0 where
  pub equal : (a b : Candidate) → a.figure ≡ b.figure → R a b
  pub unequal : (a b : Candidate) → R a b → (a.figure ≡ b.figure → ⊥) → S a b
  pub strict : (a b : Candidate) → S a b → R b a → ⊥

-- the masks within the limit i below a bound, in ascending order: not as components come, but as a loop visits them
abbrev pub masks_below : (i end : ℕ) → List ℕ
masks_below i end = keep (λ c. leb (ones c) i) (list_from 1 (end - 1) (λ c. c))

-- two functions are equal on n bits
abbrev pub Same : (n : ℕ) (f g : ℕ → ℕ) → Type 0
Same n f g = (x : ℕ) → x < 2 ^ n → f x ≡ g x

-- f is an affine function of n inputs
abbrev pub IsAffine : (n : ℕ) (f : ℕ → ℕ) → Type 0
IsAffine n f = (w b : ℕ) × (w < 2 ^ n) × (b < 2) × Same n f (affine w b)

-- A value that its own calls made, as a design or a server. `Begun v` says that a first call gave v, and `Called o v w` that the call of
-- operation o took v and gave w. So v came from a first call and then from calls of the operations, one after the other, with any
-- arguments; any of them may have been refused.
pub data MadeBy {A O : Type 0} (Begun : A → Type 0) (Called : O → A → A → Type 0) : List O → A → Type 0 where
  begins : {v : A} → Begun v → MadeBy Begun Called [] v
  goes_on : {os : List O} {v w : A} (o : O) → MadeBy Begun Called os v → Called o v w → MadeBy Begun Called (os ++ (o ∷ [])) w

-- an integer is 2^(n−1) or −2^(n−1)
abbrev pub Full : (n : ℕ) (z : ℤ) → Type 0
Full n z = (z ≡ pos (2 ^ (n - 1))) ⊎ (z ≡ neg_ℤ (pos (2 ^ (n - 1))))
