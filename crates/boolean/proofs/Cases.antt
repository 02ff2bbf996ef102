-- What holds at all combinations of bits, by computing a test at each.
use mathlib.Core.Path.{◌≡◌, refl, ap}
use mathlib.Core.Bool.{Bool, true, false, ◌&&◌}
use Prim.Native.Nat.{ℕ, zero, suc, ◌<◌}
use native.Mathlib.Nat.{not-suc-le-zero, le_of_suc-le-suc}
use lib.Dec.{T, eqb, eqb→eq}
use lib.IntN.{ℤ, pos, negsuc}
use Rattle.boolean.specs.Functions.{same_value}

pub and_l : (a b : Bool) → T (a && b) → T a
and_l true b t = tt
and_l false b t = t

pub and_r : (a b : Bool) → T (a && b) → T b
and_r true b t = t
and_r false b t = absurd t

abbrev pub both : (ℕ → Bool) → Bool
both p = p 0 && p 1

pub all1 : (p : ℕ → Bool) → T (both p) → (a : ℕ) → a < 2 → T (p a)
all1 p t zero h = and_l (p 0) (p 1) t
all1 p t (suc zero) h = and_r (p 0) (p 1) t
all1 p t (suc (suc a)) h = absurd (not-suc-le-zero (le_of_suc-le-suc (le_of_suc-le-suc h)))

pub all2 : (p : ℕ → ℕ → Bool) → T (both (λ a. both (λ b. p a b))) → (a b : ℕ) → a < 2 → b < 2 → T (p a b)
all2 p t a b ha hb = all1 (λ b. p a b) (all1 (λ a. both (λ b. p a b)) t a ha) b hb

pub all3 : (p : ℕ → ℕ → ℕ → Bool) → T (both (λ a. both (λ b. both (λ c. p a b c)))) → (a b c : ℕ) → a < 2 → b < 2 → c < 2 → T (p a b c)
all3 p t a b c ha hb hc = all2 (λ b c. p a b c) (all1 (λ a. both (λ b. both (λ c. p a b c))) t a ha) b c hb hc

pub all5 : (p : ℕ → ℕ → ℕ → ℕ → ℕ → Bool) → T (both (λ a. both (λ b. both (λ c. both (λ d. both (λ e. p a b c d e))))))
    → (a b c d e : ℕ) → a < 2 → b < 2 → c < 2 → d < 2 → e < 2 → T (p a b c d e)
all5 p t a b c d e ha hb hc hd he =
    all3 (λ c d e. p a b c d e) (all2 (λ a b. both (λ c. both (λ d. both (λ e. p a b c d e)))) t a b ha hb) c d e hc hd he

-- equations between numbers
pub eq5 : (l r : ℕ → ℕ → ℕ → ℕ → ℕ → ℕ) → T (both (λ a. both (λ b. both (λ c. both (λ d. both (λ e. eqb (l a b c d e) (r a b c d e)))))))
    → (a b c d e : ℕ) → a < 2 → b < 2 → c < 2 → d < 2 → e < 2 → l a b c d e ≡ r a b c d e
eq5 l r t a b c d e ha hb hc hd he = eqb→eq (l a b c d e) (r a b c d e) (all5 (λ a b c d e. eqb (l a b c d e) (r a b c d e)) t a b c d e ha hb hc hd he)

pub eq3 : (l r : ℕ → ℕ → ℕ → ℕ) → T (both (λ a. both (λ b. both (λ c. eqb (l a b c) (r a b c)))))
    → (a b c : ℕ) → a < 2 → b < 2 → c < 2 → l a b c ≡ r a b c
eq3 l r t a b c ha hb hc = eqb→eq (l a b c) (r a b c) (all3 (λ a b c. eqb (l a b c) (r a b c)) t a b c ha hb hc)

-- and between tests
abbrev pub sameb : Bool → Bool → Bool
sameb true b = b
sameb false true = false
sameb false false = true

pub sameb→eq : (a b : Bool) → T (sameb a b) → a ≡ b
sameb→eq true true t = refl
sameb→eq true false t = absurd t
sameb→eq false true t = absurd t
sameb→eq false false t = refl

pub same5 : (l r : ℕ → ℕ → ℕ → ℕ → ℕ → Bool) → T (both (λ a. both (λ b. both (λ c. both (λ d. both (λ e. sameb (l a b c d e) (r a b c d e)))))))
    → (a b c d e : ℕ) → a < 2 → b < 2 → c < 2 → d < 2 → e < 2 → l a b c d e ≡ r a b c d e
same5 l r t a b c d e ha hb hc hd he = sameb→eq (l a b c d e) (r a b c d e) (all5 (λ a b c d e. sameb (l a b c d e) (r a b c d e)) t a b c d e ha hb hc hd he)

-- and between integers
pub same_value_lem : (a b : ℤ) → T (same_value a b) → a ≡ b
same_value_lem (pos a) (pos b) t = ap pos (eqb→eq a b t)
same_value_lem (pos a) (negsuc b) t = absurd t
same_value_lem (negsuc a) (pos b) t = absurd t
same_value_lem (negsuc a) (negsuc b) t = ap negsuc (eqb→eq a b t)
