-- One reply has one answer, and what is handed over for boxes past the number given is in no reply. Assumes nothing.
use Rattle.std.specs.Prelude.{Result, Ok, Err, Option, Some, None}
use Rattle.refusals.specs.declared.Refusal.{Refusal}
use mathlib.Core.Path.{◌≡◌, refl, sym, ap, ◌∙◌}
use mathlib.Core.List.{List, [], ◌∷◌, ◌++◌}
use Prim.Native.Nat.{ℕ, zero, suc, ◌≤◌}
use native.Mathlib.Omega.{arith}
use lib.ListN.{get_or}
use lib.ListN.{length, take, drop}
use Rattle.refusals.specs.Table.{Reply}
use Rattle.refusals.proofs.Numbers.{number_one}
use Rattle.rounds.specs.Round.{Summand, first_given, sum_checks, sum_reply}
use Rattle.rounds.specs.Calls.{SumAnswer}
use Rattle.rounds.specs.declared.NearestSum.{NearestSum}

-- ---- one reply has one answer: no field of the answer is left open
-- the masks up to the number and b, and the masks past it, are all of them
pub masks_one : (count : ℕ) (xs ys : List ℕ) (a b : ℕ) → length xs ≡ length ys → take count xs ++ (a ∷ []) ≡ take count ys ++ (b ∷ []) → drop count xs ≡ drop count ys
    → xs ++ (a ∷ []) ≡ ys ++ (b ∷ [])
masks_one zero xs ys a b n e f = cc
masks_one (suc k) [] [] a b n e f = e
masks_one (suc k) [] (y ∷ ys) a b n e f = absurd (omega arith)
masks_one (suc k) (x ∷ xs) [] a b n e f = absurd (omega arith)
masks_one (suc k) (x ∷ xs) (y ∷ ys) a b n e f =
    let head : x ≡ y = cc in
    let same : xs ++ (a ∷ []) ≡ ys ++ (b ∷ []) = masks_one k xs ys a b (omega arith) (cc) f in
    cc

-- an answer by its fields in their order
abbrev pub by_fields : List ℕ → NearestSum
by_fields l = record {
  figure = get_or l 0 0;
  c = get_or l 1 0;
  w1 = get_or l 2 0;
  w2 = get_or l 3 0;
  w3 = get_or l 4 0;
  w4 = get_or l 5 0;
  b = get_or l 6 0;
}

pub one_answer : (count : ℕ) (reply : Reply) (a b : Result NearestSum Refusal) → SumAnswer count a reply → SumAnswer count b reply → a ≡ b
one_answer count reply (Ok x) (Ok y) p q =
    let same = p.says ∙ sym q.says in
    let whole = masks_one count (x.w1 ∷ x.w2 ∷ x.w3 ∷ x.w4 ∷ []) (y.w1 ∷ y.w2 ∷ y.w3 ∷ y.w4 ∷ []) x.b y.b refl (cc) (p.past ∙ sym q.past) in
    let all : x.figure ∷ x.c ∷ x.w1 ∷ x.w2 ∷ x.w3 ∷ x.w4 ∷ x.b ∷ [] ≡ y.figure ∷ y.c ∷ y.w1 ∷ y.w2 ∷ y.w3 ∷ y.w4 ∷ y.b ∷ [] = cc in
    ap (λ (l : List ℕ). Ok (by_fields l)) all
one_answer count reply (Ok x) (Err e) p q = let z : ◌≡◌ {A = ℕ} 0 1 = cc in absurd (omega arith)
one_answer count reply (Err e) (Ok x) p q = let z : ◌≡◌ {A = ℕ} 0 1 = cc in absurd (omega arith)
one_answer count reply (Err e) (Err f) p q = ap (λ z. Err z) (number_one e f (cc))

-- ---- "Boxes past the number given aren't read.": where two calls hand over the same boxes up to the number given, whatever stands behind them, they
-- read the same boxes, and so their replies are the same
module _ (count : ℕ) (s1 s2 s3 s4 t1 t2 t3 t4 : Summand)
    (one : 1 ≤ count → s1 ≡ t1) (two : 2 ≤ count → s2 ≡ t2) (three : 3 ≤ count → s3 ≡ t3) (four : 4 ≤ count → s4 ≡ t4) where
  pub same_read : first_given count (s1 ∷ s2 ∷ s3 ∷ s4 ∷ []) ≡ first_given count (t1 ∷ t2 ∷ t3 ∷ t4 ∷ [])
  same_read = go count one two three four
    where
      go : (k : ℕ) → (1 ≤ k → s1 ≡ t1) → (2 ≤ k → s2 ≡ t2) → (3 ≤ k → s3 ≡ t3) → (4 ≤ k → s4 ≡ t4)
          → first_given k (s1 ∷ s2 ∷ s3 ∷ s4 ∷ []) ≡ first_given k (t1 ∷ t2 ∷ t3 ∷ t4 ∷ [])
      go zero a b c d = refl
      go (suc zero) a b c d = rw (a (omega arith))
      go (suc (suc zero)) a b c d = rw (a (omega arith), b (omega arith))
      go (suc (suc (suc zero))) a b c d = rw (a (omega arith), b (omega arith), c (omega arith))
      go (suc (suc (suc (suc k)))) a b c d = rw (a (omega arith), b (omega arith), c (omega arith), d (omega arith))

  pub past_not_read : (i : ℕ) → sum_reply count (s1 ∷ s2 ∷ s3 ∷ s4 ∷ []) i ≡ sum_reply count (t1 ∷ t2 ∷ t3 ∷ t4 ∷ []) i
  unfolding sum_checks
  past_not_read i = rw same_read

  -- and their answers, all fields
  pub same_answer : (i : ℕ) (a b : Result NearestSum Refusal) → SumAnswer count a (sum_reply count (s1 ∷ s2 ∷ s3 ∷ s4 ∷ []) i) → SumAnswer count b (sum_reply count (t1 ∷ t2 ∷ t3 ∷ t4 ∷ []) i)
      → a ≡ b
  same_answer i a b p q =
      one_answer count (sum_reply count (t1 ∷ t2 ∷ t3 ∷ t4 ∷ []) i) a b (record { says = p.says ∙ past_not_read i; past = p.past }) q
