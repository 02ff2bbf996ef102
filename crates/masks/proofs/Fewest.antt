-- A loop visits the masks in ascending order, and takes a candidate for a better figure, or for the same figure and fewer outputs. What it ends with is
-- the first best in the components' order, fewest outputs first: one law, and an instance for the least and for the largest. Assumes nothing.
use mathlib.Core.Path.{◌≡◌, refl, sym, ap, ap₂, ◌∙◌, subst}
use mathlib.Core.Logic.{◌⊎◌, inl, inr, ⊎_elim}
use mathlib.Core.Bool.{Bool, true, ◌&&◌, ◌||◌}
use mathlib.Core.List.Memᴰ
use mathlib.Core.List.{List, [], ◌∷◌, Memᴰ}
use Prim.Native.Nat.{ℕ, zero, suc, ◌^◌, ◌≤◌, ◌<◌}
use native.Mathlib.Nat.{mul-le-mul_right}
use native.Mathlib.Decide.{dec_lt, ℕ_discrete}
use native.Mathlib.Omega.{arith}
use borrow.Author.Tests.{lt-ltb, le-ltb, eq-eqb, ne_eqb}
use lib.Count.{ones}
use lib.Dec.{ltb, eqb}
use lib.Pow.{pow_pos}
use Rattle.boolean.specs.Sums.{each}
use Rattle.boolean.specs.Functions.{components, mask_rank}
use Rattle.boolean.specs.Selection.{Candidate, best, lower, higher, first_best, first_least, first_largest, ranked, Ascending}
use Rattle.boolean.specs.Statements.{Ordered, ByFigure, masks_below}
use Rattle.boolean.proofs.Blocks.{first_blocks}
use Rattle.boolean.proofs.Components.{mem_masks_below, ascending_masks_below, first_masks_below, ascending_components, same_masks, rank_of_before}
use Rattle.boolean.proofs.Lists.{mem_each, each_same, ascending_each}
use Rattle.boolean.proofs.Selection.{least, by_least, largest, by_largest, best_mem, best_from, best_agrees, ranked_all, any_order}
use Rattle.masks.specs.Masks.{outputs}
use Rattle.masks.specs.Work.{preferred}
use Rattle.masks.specs.Statements.{mask, Named, Visit, Blocks}

-- a better figure wins whatever the ranks
pub ranked_wins : (beats : Candidate → Candidate → Bool) (rank : Candidate → ℕ) (c b : Candidate) → beats c b ≡ true → ranked beats rank c b ≡ true
ranked_wins beats rank c b e = ap (λ (t : Bool). t || (eqb c.figure b.figure && ltb (rank c) (rank b))) e

-- what the code tests, of a candidate and the best so far
module _ (v b : Candidate) {figure c : ℕ} (p : figure ≡ v.figure) (q : c ≡ mask v) where
  pub lower_test : preferred figure b.figure c (mask b) ≡ ranked lower outputs v b
  lower_test = ap₂ (λ (d k : ℕ). ltb d b.figure || (eqb d b.figure && ltb (ones k) (outputs b))) p q

  pub higher_test : preferred b.figure figure c (mask b) ≡ ranked higher outputs v b
  higher_test =
      ap₂ (λ (d k : ℕ). ltb b.figure d || (eqb b.figure d && ltb (ones k) (outputs b))) p q
      ∙ ap (λ (t : Bool). ltb b.figure v.figure || (t && ltb (outputs v) (outputs b))) (turned (ℕ_discrete b.figure v.figure))
    where
      turned : Dec (b.figure ≡ v.figure) → eqb b.figure v.figure ≡ eqb v.figure b.figure
      turned (yes e) = eq-eqb _ _ e ∙ sym (eq-eqb _ _ (sym e))
      turned (no e) = ne_eqb _ _ e ∙ sym (ne_eqb _ _ (λ d. e (sym d)))

-- the masks within a limit are visited so
pub visit_within : (m i : ℕ) → 1 ≤ m → 1 ≤ i → Visit m 1 (masks_below i (2 ^ m)) (components m i)
visit_within m i m_low i_low =
    let t = first_masks_below i m m_low i_low in
    record {
      rest = t.0;
      starts = t.1;
      rises = ascending_masks_below i (2 ^ m);
      high = λ c k. (mem_masks_below i (2 ^ m) (pow_pos m) c k).high;
      in_order = ascending_components m i;
      same = same_masks m i;
    }

-- one candidate for each mask: along the masks, ranks of masks are ranks of candidates
module _ {rule : ℕ → Candidate} (named : Named rule) where
  abbrev pub one : ℕ → List Candidate
  one c = rule c ∷ []

  pub ascending_rule : (rank : ℕ → ℕ) (cs : List ℕ) → Ascending rank cs → Ascending (λ p. rank (mask p)) (each cs one)
  ascending_rule rank cs a =
      ascending_each rank (λ p. rank (mask p)) cs one a (λ c k. (λ p j. absurd (Memᴰ.not-nil j), tt))
      (λ b c k j l p q u v. omega (arith, is b p u, is c q v))
    where
      is : (c : ℕ) (p : Candidate) → Memᴰ p (one c) → rank (mask p) ≡ rank c
      is c p k = ap (λ (p : Candidate). rank (mask p)) (Memᴰ.eq_of_singleton k) ∙ ap rank (named.names c)

  -- and the masks are those of the list
  pub high_rule : {end : ℕ} (cs : List ℕ) → ((c : ℕ) → Memᴰ c cs → c < end) → (p : Candidate) → Memᴰ p (each cs one) → mask p < end
  high_rule cs high p k =
      let t = mem_each cs one p k in
      omega (arith, ap mask (Memᴰ.eq_of_singleton t.2), named.names t.0, high t.0 t.1)

module _ {beats : Candidate → Candidate → Bool} {R S : Candidate → Candidate → Type 0} (o : Ordered beats R S) (f : ByFigure R S)
    {m first : ℕ} {visited ordered : List ℕ} (visit : Visit m first visited ordered) {rule : ℕ → Candidate} (named : Named rule) where
  -- of a mask that comes later, fewer ones decide as the rank does
  same_test : (x y : Candidate) → Memᴰ y (each visited (one named)) → mask x < mask y
      → ranked beats outputs y x ≡ ranked beats (λ p. mask_rank m (mask p)) y x
  same_test x y k l = ap (λ (t : Bool). beats y x || (eqb y.figure x.figure && t)) (go (dec_lt (outputs y) (outputs x)))
    where
      high : mask y < 2 ^ m
      high = high_rule named visited visit.high y k

      go : Dec (outputs y < outputs x) → ltb (outputs y) (outputs x) ≡ ltb (mask_rank m (mask y)) (mask_rank m (mask x))
      go (yes h) = lt-ltb _ _ h ∙ sym (lt-ltb _ _ (rank_of_before m (mask y) (mask x) high (inl h)))
      go (no h) =
          let fewer : ones (mask x) ≤ ones (mask y) = omega arith in
          le-ltb (outputs y) (outputs x) fewer ∙ sym (le-ltb (mask_rank m (mask y)) (mask_rank m (mask x)) (omega (arith, mul-le-mul_right (2 ^ m) fewer)))

  pub swept : {start : Candidate} → (start ≡ rule first) ⊎ (ranked beats outputs (rule first) start ≡ true)
      → best (ranked beats outputs) start (each visited (one named)) ≡ first_best beats (each ordered (one named))
  unfolding each
  swept {start} h =
      let from : best (ranked beats outputs) start (each visited (one named)) ≡ first_best (ranked beats outputs) (each visited (one named))
      = ap (λ (l : List ℕ). best (ranked beats outputs) start (each l (one named))) visit.starts
      ∙ best_from (ranked beats outputs) start (rule first) (each visit.rest (one named)) h
      ∙ ap (λ (l : List ℕ). first_best (ranked beats outputs) (each l (one named))) (sym visit.starts) in
      from ∙ agrees (each visited (one named)) (λ x y. same_test x y) (ascending_rule named (λ c. c) visited visit.rises)
      ∙ any_order o f (λ p. mask_rank m (mask p)) (each ordered (one named)) (each visited (one named))
      (ascending_rule named (mask_rank m) ordered visit.in_order) (each_same visited ordered (one named) visit.same)
    where
      agrees : (cs : List Candidate) → ((x y : Candidate) → Memᴰ y cs → mask x < mask y → ranked beats outputs y x ≡ ranked beats (λ p. mask_rank m (mask p)) y x)
          → Ascending mask cs → first_best (ranked beats outputs) cs ≡ first_best (ranked beats (λ p. mask_rank m (mask p))) cs
      agrees [] same a = refl
      agrees (c ∷ cs) same a = best_agrees (ranked beats outputs) (ranked beats (λ p. mask_rank m (mask p))) mask c cs a (λ x y k. same x y (Memᴰ.tail k))

-- ---- candidates in blocks, one for each mask
module _ {f : ℕ → List Candidate} (b : Blocks f) where
  -- the first best of a block is one of it
  pub leader_names : (beats : Candidate → Candidate → Bool) (c : ℕ) → mask (first_best beats (f c)) ≡ c
  leader_names beats c =
      let s = b.some c in
      b.names c (first_best beats (f c)) (subst (λ (l : List Candidate). Memᴰ (first_best beats l) l) (sym s.2) (best_mem beats s.0 s.1))

  pub least_names : (c : ℕ) → mask (first_least (f c)) ≡ c
  unfolding first_least
  least_names = leader_names lower

  pub largest_names : (c : ℕ) → mask (first_largest (f c)) ≡ c
  unfolding first_largest
  largest_names = leader_names higher

  -- from a figure that is higher than the first block's, the least of any masks so visited
  pub least_visited : {m first : ℕ} {visited ordered : List ℕ} → Visit m first visited ordered → (start : Candidate) → (first_least (f first)).figure < start.figure
      → best (ranked lower outputs) start (each visited (λ c. first_least (f c) ∷ [])) ≡ first_least (each ordered f)
  unfolding first_least
  least_visited {first = first} {ordered = ordered} visit start h =
      swept least by_least visit (record { names = leader_names lower }) (inr (ranked_wins lower outputs (first_least (f first)) start (lt-ltb _ _ h)))
      ∙ sym (first_blocks least by_least f b.some ordered)

  -- from the figure 0 with the first block's witness, the largest
  pub largest_visited : {m first : ℕ} {visited ordered : List ℕ} → Visit m first visited ordered → (start : Candidate) → start.figure ≡ 0
      → ((first_largest (f first)).figure ≡ 0 → first_largest (f first) ≡ start)
      → best (ranked higher outputs) start (each visited (λ c. first_largest (f c) ∷ [])) ≡ first_largest (each ordered f)
  unfolding first_largest
  largest_visited {first = first} {ordered = ordered} visit start z none =
      swept largest by_largest visit (record { names = leader_names higher }) (from (first_largest (f first)).figure refl)
      ∙ sym (first_blocks largest by_largest f b.some ordered)
    where
      from : (k : ℕ) → (first_largest (f first)).figure ≡ k → (start ≡ first_largest (f first)) ⊎ (ranked higher outputs (first_largest (f first)) start ≡ true)
      from zero e = inl (sym (none e))
      from (suc k) e = inr (ranked_wins higher outputs (first_largest (f first)) start (lt-ltb start.figure (first_largest (f first)).figure (omega arith)))

  -- and both of the masks within the limit
  module _ (m i : ℕ) (m_low : 1 ≤ m) (i_low : 1 ≤ i) (start : Candidate) where
    pub least_swept : (first_least (f 1)).figure < start.figure
        → best (ranked lower outputs) start (each (masks_below i (2 ^ m)) (λ c. first_least (f c) ∷ [])) ≡ first_least (each (components m i) f)
    least_swept h = least_visited (visit_within m i m_low i_low) start h

    pub largest_swept : start.figure ≡ 0 → ((first_largest (f 1)).figure ≡ 0 → first_largest (f 1) ≡ start)
        → best (ranked higher outputs) start (each (masks_below i (2 ^ m)) (λ c. first_largest (f c) ∷ [])) ≡ first_largest (each (components m i) f)
    largest_swept = largest_visited (visit_within m i m_low i_low) start

-- where the figure is still that of the start, the outputs are no more than the start's
pub few_outputs : (start : Candidate) (cs : List Candidate) {found : Candidate} → found ≡ best (ranked higher outputs) start cs
    → found.figure ≡ start.figure → outputs found ≤ outputs start
few_outputs start cs {found} e same =
    subst (λ (r : Candidate). r.figure ≡ start.figure → outputs r ≤ outputs start) (sym e)
    (λ s. ⊎_elim (λ l. absurd (omega arith)) (λ l. l.1) (ranked_all largest by_largest outputs start cs start (Memᴰ.head refl))) same
