-- Boolean functions of n inputs and what is measured of them. A function is a rule that gives 0 or 1 for each input below 2^n.
use Rattle.std.specs.Prelude.{ℕ, zero, suc, ◌+◌, ◌-◌, ◌*◌, ◌^◌, ◌≤◌, ◌<◌, ◌≡◌, ◌⊎◌, Bool, true, false, not, cond, ◌&&◌, List, [], ◌∷◌, eqb, length, get_or, set, ℤ, pos, negsuc, ◌-ℤ◌, ◌*ℤ◌, neg_ℤ, nat_abs}
use Rattle.std.specs.Int.Bits.{bit_and, bit_xor}
use Rattle.std.specs.Int.Count.{ones}
use Rattle.boolean.specs.Bits.{parity, dot, affine, bit, ones_within}
use Rattle.boolean.specs.Sums.{sum_below, count_below, xor_below, largest_below, list_from, list_below, each, keep}

-- every value of f at an input of n bits is 0 or 1
abbrev pub Boolean : (n : ℕ) (f : ℕ → ℕ) → Type 0
Boolean n f = (x : ℕ) → x < 2 ^ n → f x < 2

-- a truth table, or the rows of a box, as a function: the entry at x, and 0 past the end
abbrev pub at : (table : List ℕ) (x : ℕ) → ℕ
at table x = get_or table x 0

-- the rows with those at x and y exchanged
unfoldable pub swapped : (rows : List ℕ) (x y : ℕ) → List ℕ
swapped rows x y = set (set rows x (at rows y)) y (at rows x)

-- the entry at w of a list of integers, and 0 past its end
abbrev pub value_at : (values : List ℤ) (w : ℕ) → ℤ
value_at values w = get_or values w (pos 0)

-- how many of the first k values of a list are v
unfoldable pub occurrences : (values : List ℕ) (k v : ℕ) → ℕ
unfolding count_below
occurrences values k v = count_below k (λ x. eqb (at values x) v)

-- every value of a list is below the limit
abbrev pub Below : (limit : ℕ) (values : List ℕ) → Type 0
Below limit values = (x : ℕ) → x < length values → at values x < limit

-- +1 where two truth values are equal, and −1 elsewhere
unfoldable pub agreement : (a b : ℕ) → ℤ
agreement a b = cond (eqb a b) (pos 1) (negsuc 0)

-- W(w), the Walsh value: the sum over x of +1 where f equals w·x, and −1 elsewhere
unfoldable pub walsh : (n : ℕ) (f : ℕ → ℕ) (w : ℕ) → ℤ
unfolding sum_below agreement dot
walsh n f w = sum_below (2 ^ n) (λ x. agreement (f x) (dot w x))

-- the linear approximation value at w, half of W(w): the number of inputs where f equals w·x, less 2^(n−1)
unfoldable pub approximation : (n : ℕ) (f : ℕ → ℕ) (w : ℕ) → ℤ
unfolding count_below dot
approximation n f w = pos (count_below (2 ^ n) (λ x. eqb (f x) (dot w x))) -ℤ pos (2 ^ (n - 1))

-- the spectrum, the linear approximation table of one function: the values at 0, 1, .., 2^n − 1
unfoldable pub spectrum : (n : ℕ) (f : ℕ → ℕ) → List ℤ
unfolding list_below approximation
spectrum n f = list_below (2 ^ n) (λ w. approximation n f w)

-- the count of inputs at which f and the affine function (w, b) differ
unfoldable pub distance : (n : ℕ) (f : ℕ → ℕ) (w b : ℕ) → ℕ
unfolding count_below affine
distance n f w b = count_below (2 ^ n) (λ x. not (eqb (f x) (affine w b x)))

-- bent: n = 2h, and every spectrum value is 2^(h−1) or −2^(h−1)
pub record Bent (n : ℕ) (f : ℕ → ℕ) : Type 0 where
  pub half : ℕ
  pub even : n ≡ half + half
  pub flat : (w : ℕ) → w < 2 ^ n → (approximation n f w ≡ pos (2 ^ (half - 1))) ⊎ (approximation n f w ≡ neg_ℤ (pos (2 ^ (half - 1))))

-- r(s), the autocorrelation: the sum over x of +1 where f(x) = f(x XOR s), and −1 elsewhere
unfoldable pub autocorrelation : (n : ℕ) (f : ℕ → ℕ) (s : ℕ) → ℤ
unfolding sum_below agreement
autocorrelation n f s = sum_below (2 ^ n) (λ x. agreement (f x) (f (bit_xor x s)))

-- the count of inputs at which f changes where d is XORed to the input
unfoldable pub changes : (n : ℕ) (f : ℕ → ℕ) (d : ℕ) → ℕ
unfolding count_below
changes n f d = count_below (2 ^ n) (λ x. not (eqb (f x) (f (bit_xor x d))))

-- the normal form's coefficient at u: the XOR of f(x) over all x whose ones lie within u
unfoldable pub coefficient : (n : ℕ) (f : ℕ → ℕ) (u : ℕ) → ℕ
unfolding xor_below ones_within
coefficient n f u = xor_below (2 ^ n) (λ x. cond (ones_within u x) (f x) 0)

-- the normal form: the coefficients at 0, 1, .., 2^n − 1
unfoldable pub normal_form : (n : ℕ) (f : ℕ → ℕ) → List ℕ
unfolding list_below coefficient
normal_form n f = list_below (2 ^ n) (λ u. coefficient n f u)

-- the degree: the most ones in any u with coefficient 1, and 0 if there is none
unfoldable pub degree : (n : ℕ) (f : ℕ → ℕ) → ℕ
unfolding largest_below coefficient
degree n f = largest_below (2 ^ n) (λ u. cond (eqb (coefficient n f u) 1) (ones u) 0)

-- column j of a box: bit j of the rows
unfoldable pub column : (rows : List ℕ) (j x : ℕ) → ℕ
unfolding bit
column rows j x = bit j (at rows x)

-- the component of a box at the mask c, which document 01 calls combination c: the parity of the ones in (row AND c)
unfoldable pub component : (rows : List ℕ) (c x : ℕ) → ℕ
unfolding parity
component rows c x = parity (bit_and (at rows x) c)

-- v is not 0, lies below the end and has at most k ones
pub record MaskWithin (k end v : ℕ) : Type 0 where
  pub low : 1 ≤ v
  pub high : v < end
  pub few : ones v ≤ k

-- the masks of a box's components within the limit i, in the order in which they come: for k = 1, 2, .., i those from 1 to 2^m − 1 that
-- have k ones, so that fewer ones come first, and of as many ones the smaller mask
unfoldable pub components : (m i : ℕ) → List ℕ
unfolding each keep list_from
components m i = each (list_from 1 i (λ k. k)) (λ k. keep (λ c. eqb (ones c) k) (list_from 1 (2 ^ m - 1) (λ c. c)))

-- the mask c' comes before c in that order (for theorems; no contract needs it)
abbrev pub MaskBefore : (c' c : ℕ) → Type 0
MaskBefore c' c = (ones c' < ones c) ⊎ ((ones c' ≡ ones c) × (c' < c))

-- a number for each mask below 2^m that rises along that order (for theorems too)
abbrev pub mask_rank : (m c : ℕ) → ℕ
mask_rank m c = ones c * 2 ^ m + c

-- a truth value as a sign: 0 is +1, and 1 is −1
unfoldable pub sign : ℕ → ℤ
sign zero = pos 1
sign (suc b) = negsuc 0

-- the Walsh-Hadamard transform at w of any integer function: the sum over x of F(x), with the sign of w·x
unfoldable pub transform : (n : ℕ) (F : ℕ → ℤ) (w : ℕ) → ℤ
unfolding sum_below sign dot
transform n F w = sum_below (2 ^ n) (λ x. sign (dot w x) *ℤ F x)

-- the square of an integer
unfoldable pub square : ℤ → ℕ
square z = nat_abs z * nat_abs z

-- a sign as a truth value: 1 for what is below 0
unfoldable pub sign_bit : ℤ → ℕ
sign_bit (pos n) = 0
sign_bit (negsuc n) = 1

-- the function whose spectrum the values may be: where document 001's inverse transform is below 0 the function is 1
unfoldable pub inverse : (n : ℕ) (F : ℕ → ℤ) (x : ℕ) → ℕ
unfolding transform sign_bit
inverse n F x = sign_bit (transform n F x)

-- whether two integers are equal, and two lists of them
abbrev pub same_value : (u v : ℤ) → Bool
same_value (pos a) (pos b) = eqb a b
same_value (pos a) (negsuc b) = false
same_value (negsuc a) (pos b) = false
same_value (negsuc a) (negsuc b) = eqb a b

abbrev pub same_values : (us vs : List ℤ) → Bool
same_values [] [] = true
same_values [] (v ∷ vs) = false
same_values (u ∷ us) [] = false
same_values (u ∷ us) (v ∷ vs) = same_value u v && same_values us vs

-- whether the values are the spectrum of a function: of the one that their inverse transform shows
unfoldable pub is_spectrum : (n : ℕ) (values : List ℤ) → Bool
unfolding spectrum inverse
is_spectrum n values = same_values (spectrum n (inverse n (value_at values))) values
