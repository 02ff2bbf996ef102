-- Sums, counts and lists over the numbers below a bound.
use Rattle.std.specs.Prelude.{ℕ, zero, suc, ◌+◌, max, ◌≡◌, Bool, true, false, not, ◌&&◌, List, [], ◌∷◌, ◌++◌, ℤ, pos, ◌+ℤ◌, length}
use Rattle.std.specs.Int.Bits.{bit_xor}

-- F 0 + F 1 + .. + F (k − 1)
unfoldable pub sum_below : (k : ℕ) (F : ℕ → ℤ) → ℤ
sum_below zero F = pos zero
sum_below (suc k) F = sum_below k F +ℤ F k

-- f 0 + f 1 + .. + f (k − 1), of natural numbers
unfoldable pub total_below : (k : ℕ) (f : ℕ → ℕ) → ℕ
total_below zero f = zero
total_below (suc k) f = total_below k f + f k

-- 1 where a test passes, and else 0
unfoldable pub one_if : Bool → ℕ
one_if true = 1
one_if false = 0

-- how many numbers below k pass the test
unfoldable pub count_below : (k : ℕ) (p : ℕ → Bool) → ℕ
unfolding one_if
count_below zero p = zero
count_below (suc k) p = count_below k p + one_if (p k)

-- f 0 XOR f 1 XOR .. XOR f (k − 1)
unfoldable pub xor_below : (k : ℕ) (f : ℕ → ℕ) → ℕ
xor_below zero f = zero
xor_below (suc k) f = bit_xor (xor_below k f) (f k)

-- g i, g (i + 1), ..: k of them
unfoldable pub list_from : {A : Type 0} (i k : ℕ) (g : ℕ → A) → List A
list_from i zero g = []
list_from i (suc k) g = g i ∷ list_from (suc i) k g

-- g 0, g 1, .., g (k − 1)
unfoldable pub list_below : {A : Type 0} (k : ℕ) (g : ℕ → A) → List A
unfolding list_from
list_below k g = list_from 0 k g

-- the lists that a rule gives for each member, one after the other
unfoldable pub each : {A B : Type 0} (xs : List A) (f : A → List B) → List B
each [] f = []
each (x ∷ xs) f = f x ++ each xs f

-- the test holds of every member
unfoldable pub every : {A : Type 0} (p : A → Bool) (xs : List A) → Bool
every p [] = true
every p (x ∷ xs) = p x && every p xs

-- the members that pass the test, in their order
unfoldable pub keep : {A : Type 0} (p : A → Bool) (xs : List A) → List A
unfolding each
keep p xs = each xs (λ x. elim (p x) [ true ↦ x ∷ [] | false ↦ [] ])

-- the first member that passes the test, and none where no member does
unfoldable pub first_of : {A : Type 0} (p : A → Bool) (xs : List A) → List A
first_of p [] = []
first_of p (x ∷ xs) = elim (p x) [ true ↦ x ∷ [] | false ↦ first_of p xs ]

-- the largest of f 0, f 1, .., f (k − 1), and 0 where there are none
unfoldable pub largest_below : (k : ℕ) (f : ℕ → ℕ) → ℕ
largest_below zero f = zero
largest_below (suc k) f = max (largest_below k f) (f k)

-- no two members are the same, by a test of two
unfoldable pub distinct : {A : Type 0} (same : A → A → Bool) (xs : List A) → Bool
unfolding every
distinct same [] = true
distinct same (x ∷ xs) = every (λ y. not (same x y)) xs && distinct same xs

-- What a function leaves in an array that it was lent only to work in: any content, as long as before.
abbrev pub AnyContent : {A : Type 0} (old new : List A) → Type 0
AnyContent old new = length new ≡ length old
