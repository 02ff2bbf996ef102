-- What is held of a box of which k combinations were examined: the least count among exactly those, with the first pair that has it.
-- Assumes nothing.
use Prim.Native.Nat.{ℕ, suc, ◌+◌, ◌*◌, ◌^◌, ◌≤◌, ◌<◌}
use mathlib.Core.Path.{◌≡◌, sym, ap, refl}
use mathlib.Core.List.Memᴰ
use mathlib.Core.List.{List, [], ◌∷◌, Memᴰ}
use native.Mathlib.Nat.{suc-mul}
use native.Mathlib.Omega.{arith}
use lib.Dec.{leb}
use lib.Pow.{pow_pos}
use Rattle.boolean.specs.Sums.{each}
use Rattle.boolean.specs.Functions.{components, mask_rank}
use Rattle.boolean.specs.Selection.{Candidate, first_least, Ascending, FirstIn}
use Rattle.boolean.proofs.Components.{ascending_components, first_mask}
use Rattle.boolean.proofs.Kept.{ascending_keep}
use Rattle.boolean.proofs.Lists.{mem_each, in_each, ascending_blocks}
use Rattle.boolean.proofs.Selection.{first_least_chooses, first_ranked}
use Rattle.linear.specs.Nonlinearity.{pair, pairs_of}
use Rattle.linear.specs.Statements.{IsPair, pair_rank}
use Rattle.linear.proofs.Pairs.{before_rank, in_pairs_of, mem_pairs_of, ascending_pairs_of}
use Rattle.server.specs.Model.{examined_of, among}
use Rattle.server.specs.Statements.{HeldSoFar}
use Rattle.server.proofs.Examined.{examined_has, was_examined}

-- the first least of candidates that there are
chosen : (x : Candidate) (l : List Candidate) → Memᴰ x l
    → Memᴰ (first_least l) l × FirstIn (λ r p. r.figure < p.figure) (first_least l) l
chosen x [] h = absurd (Memᴰ.not-nil h)
chosen x (c ∷ cs) h = (first_least_chooses.mem refl, first_least_chooses.early refl)

module _ (n m : ℕ) (rows : List ℕ) (k : ℕ) where
  abbrev candidates : List Candidate
  candidates = each (examined_of m k) (λ c. pairs_of n rows c)

  inside : (c : ℕ) (p : Candidate) → (w b : ℕ) × (w < 2 ^ n) × (b < 2) × (p ≡ pair n rows c w b)
      → (0 + mask_rank m c * (2 * 2 ^ n) ≤ pair_rank n m p) × (pair_rank n m p < 0 + suc (mask_rank m c) * (2 * 2 ^ n))
  inside c p t = omega (arith, ap (pair_rank n m) t.4, t.2, t.3, suc-mul (mask_rank m c) (2 * 2 ^ n))

  ascending : Ascending (pair_rank n m) candidates
  unfolding examined_of
  ascending =
      ascending_blocks 0 (2 * 2 ^ n) (mask_rank m) (pair_rank n m) (examined_of m k) (λ c. pairs_of n rows c)
      (ascending_keep (λ c. leb c k) (mask_rank m) (components m m) (ascending_components m m))
      (λ c h. ascending_pairs_of n rows c m) (λ c h p j. inside c p (mem_pairs_of n rows c p j))

  is_in : (c w b : ℕ) → c ≤ k → IsPair n m m c w b → Memᴰ (pair n rows c w b) candidates
  is_in c w b l h =
      in_each (examined_of m k) (λ c. pairs_of n rows c) c (pair n rows c w b) (examined_has m k c h.mask.low l h.mask.high)
      (in_pairs_of n rows c w b h.w_high h.b_high)

  -- from the pair that was chosen
  built : (c w b : ℕ) → IsPair n m m c w b → c ≤ k → first_least candidates ≡ pair n rows c w b
      → FirstIn (λ r p. r.figure < p.figure) (first_least candidates) candidates → HeldSoFar n m rows k
  unfolding among
  built c w b p l is first = record {
    d = (first_least candidates).figure;
    c = c;
    w = w;
    b = b;
    holds = ap (λ (p : Candidate). record { figure = (first_least candidates).figure; witness = p.witness }) is;
    least = λ c w b l h. first_least_chooses.all candidates (pair n rows c w b) (is_in c w b l h);
    examined = l;
    member = p;
    reached = sym (ap (λ (p : Candidate). p.figure) is);
    before = λ c' w' b' l h q.
        first_ranked (pair_rank n m) (λ r p. r.figure < p.figure) ascending first (pair n rows c' w' b') (is_in c' w' b' l h)
        (omega (arith, ap (pair_rank n m) is, before_rank n m c' w' b' c w b h.mask.high h.w_high h.b_high q));
  }

  pub held_so_far : 1 ≤ m → 1 ≤ k → HeldSoFar n m rows k
  held_so_far m_low some =
      let one : IsPair n m m 1 0 0 = record { mask = first_mask m m m_low m_low; w_high = pow_pos n; b_high = omega arith } in
      let best = chosen (pair n rows 1 0 0) candidates (is_in 1 0 0 some one) in
      let t = mem_each (examined_of m k) (λ c. pairs_of n rows c) (first_least candidates) best.0 in
      let e = was_examined m k t.0 t.1 in
      let u = mem_pairs_of n rows t.0 (first_least candidates) t.2 in
      built t.0 u.0 u.1 (record { mask = e.0; w_high = u.2; b_high = u.3 }) e.1 u.4 best.1
