-- A sweep in parts. A sweep over the masks from one to another visits those of `components_between`; and merging what two sweeps found, over any masks, gives
-- what one sweep finds over the masks of both: so parts may be cut anywhere, overlap, and be merged in any order and grouping. Assumes nothing.
use Rattle.std.specs.Prelude.{Result, Ok, Err, ⊤}
use Rattle.refusals.specs.declared.Refusal.{Refusal}
use mathlib.Core.Path.{◌≡◌, refl, sym, ap, ap₂, ◌∙◌, subst}
use mathlib.Core.Logic.{◌⊎◌, inl, inr, ⊎_elim}
use mathlib.Core.Bool.{Bool, true, false, ◌&&◌, ◌||◌}
use mathlib.Core.List.Memᴰ
use mathlib.Core.List.{List, [], ◌∷◌, ◌++◌, append-nil, Memᴰ}
use Prim.Native.Nat.{ℕ, suc, ◌+◌, ◌*◌, ◌-◌, ◌^◌, ◌≤◌, ◌<◌}
use native.Mathlib.Nat.{lt_of_not-le}
use native.Mathlib.Decide.{dec_lt, ℕ_discrete}
use native.Mathlib.Omega.{arith}
use borrow.Author.Tests.{lt-ltb, le-ltb, eq-eqb, ne_eqb, le-leb, lt-leb, leb-true}
use lib.Count.{ones}
use lib.Dec.{ltb, leb, eqb}
use Rattle.boolean.specs.Sums.{list_from, each, keep}
use Rattle.boolean.specs.Functions.{at, MaskWithin, components, mask_rank}
use Rattle.boolean.specs.Selection.{Candidate, best, shown, first_best, ranked, Ascending, SameMembers}
use Rattle.boolean.specs.Statements.{Ordered, ByFigure}
use Rattle.boolean.proofs.Blocks.{first_blocks}
use Rattle.boolean.proofs.Components.{limited, mem_components, in_components, ascending_components, rank_of_before}
use Rattle.boolean.proofs.Kept.{each_cong_on, keep_takes, mem_keep, in_keep, ascending_keep}
use Rattle.boolean.proofs.Lists.{mem_list_from, in_list_from, mem_each, in_each, ascending_list_from}
use Rattle.boolean.proofs.Selection.{best_mem, Lex, lex_trans, lex_both, ranked_all, ranked_order, first_is_ranked, ascending_one}
use Rattle.refusals.specs.Table.{in_range, Reply, figures, refusal, reply_after}
use Rattle.refusals.proofs.Bounds.{range_low, range_high, range_true}
use Rattle.masks.specs.Parts.{components_between, shown_best, above, earlier, sooner, merged_figures, merged_reply}
use Rattle.masks.specs.Statements.{masks_from, mask, Named, MaskRange, Visit, Blocks, MaskBetween}
use Rattle.masks.specs.Masks.{FirstFrom}
use Rattle.masks.proofs.Fewest.{ascending_rule, high_rule, leader_names}

-- ---- the masks within a limit that a test takes
module _ (m i : ℕ) where
  -- tests that agree on them take the same
  pub same_taken : (p q : ℕ → Bool) → ((c : ℕ) → MaskWithin i (2 ^ m) c → p c ≡ q c) → keep p (components m i) ≡ keep q (components m i)
  unfolding keep
  same_taken p q h =
      each_cong_on (components m i) _ _ (λ c k. ap (λ (t : Bool). elim t [ true ↦ c ∷ [] | false ↦ [] ]) (h c (mem_components m i c k)))

  -- and one that takes each takes all
  pub all_taken : (p : ℕ → Bool) → ((c : ℕ) → MaskWithin i (2 ^ m) c → p c ≡ true) → keep p (components m i) ≡ components m i
  unfolding keep each
  all_taken p h = all (components m i) (λ c k. h c (mem_components m i c k))
    where
      all : (cs : List ℕ) → ((c : ℕ) → Memᴰ c cs → p c ≡ true) → keep p cs ≡ cs
      all [] k = refl
      all (c ∷ cs) k = keep_takes p c cs (k c (Memᴰ.head refl)) ∙ ap (λ (l : List ℕ). c ∷ l) (all cs (λ d j. k d (Memᴰ.tail j)))

-- ---- the masks of a part, as a loop visits them
module _ (m i first last : ℕ) where
  pub mem_between : (c : ℕ) → Memᴰ c (components_between m i first last) → MaskWithin i (2 ^ m) c × (first ≤ c) × (c ≤ last)
  unfolding components_between
  mem_between c k =
      let t = mem_keep (λ c. in_range first last c) (components m i) c k in
      (mem_components m i c t.0, range_low first last c t.1, range_high first last c t.1)

  pub in_between : (c : ℕ) → MaskWithin i (2 ^ m) c → first ≤ c → c ≤ last → Memᴰ c (components_between m i first last)
  unfolding components_between
  in_between c w l h = in_keep (λ c. in_range first last c) (components m i) c (in_components m i c w) (range_true first last c l h)

  pub ascending_between : Ascending (mask_rank m) (components_between m i first last)
  unfolding components_between
  ascending_between = ascending_keep (λ c. in_range first last c) (mask_rank m) (components m i) (ascending_components m i)

  -- there is none where no mask is one of them
  pub none_between : ((c : ℕ) → MaskBetween m i first last c → ⊥) → components_between m i first last ≡ []
  none_between h =
      none (components_between m i first last) (λ c k. let t = mem_between c k in h c (record { mask = t.0; from = t.1; to = t.2 }))
    where
      none : (cs : List ℕ) → ((c : ℕ) → Memᴰ c cs → ⊥) → cs ≡ []
      none [] k = refl
      none (c ∷ cs) k = absurd (k c (Memᴰ.head refl))

  module _ (part : MaskRange m first (last + 1)) (few : ones first ≤ i) (some : first ≤ last) where
    pub visit_part : Visit m first (masks_from i first (last + 1)) (components_between m i first last)
    unfolding components_between list_from
    visit_part =
        let more : last + 1 - first ≡ suc (last - first) = omega arith in
        record {
          rest = keep (limited i) (list_from (suc first) (last - first) (λ c. c));
          starts = ap (λ (k : ℕ). keep (limited i) (list_from first k (λ c. c))) more
              ∙ keep_takes (limited i) first (list_from (suc first) (last - first) (λ c. c)) (le-leb (ones first) i few);
          rises = ascending_keep (limited i) (λ c. c) (list_from first (last + 1 - first) (λ c. c))
              (ascending_list_from (λ c. c) first (last + 1 - first) (λ c. c) (λ a b l k h. k));
          high = λ c k. (there c k).0.high;
          in_order = ascending_between;
          same = λ c. (λ k. let t = there c k in in_between c t.0 t.1 t.2, λ k. back c (mem_between c k));
        }
      where
        there : (c : ℕ) → Memᴰ c (masks_from i first (last + 1)) → MaskWithin i (2 ^ m) c × (first ≤ c) × (c ≤ last)
        there c k =
            let t = mem_keep (limited i) (list_from first (last + 1 - first) (λ c. c)) c k in
            let s = mem_list_from first (last + 1 - first) (λ c. c) c t.0 in
            let low : first ≤ c = omega (arith, s.1, s.3) in
            let high : c ≤ last = omega (arith, s.2, s.3) in
            (record { low = omega (arith, part.low); high = omega (arith, part.high); few = leb-true (ones c) i t.1 }, low, high)

        back : (c : ℕ) → MaskWithin i (2 ^ m) c × (first ≤ c) × (c ≤ last) → Memᴰ c (masks_from i first (last + 1))
        back c t =
            in_keep (limited i) (list_from first (last + 1 - first) (λ c. c)) c
            (in_list_from first (last + 1 - first) (λ c. c) c t.1 (omega (arith, t.2))) (le-leb (ones c) i t.0.few)

-- a part from its first mask within the limit on has the same, and none where that mask lies past it
module _ (m : ℕ) {i first start : ℕ} (last : ℕ) (from : FirstFrom i first start) where
  pub between_from : components_between m i first last ≡ components_between m i start last
  unfolding components_between
  between_from = same_taken m i (λ c. in_range first last c) (λ c. in_range start last c) (λ c w. ap (λ (t : Bool). t && leb c last) (lows c w (dec_lt c start)))
    where
      lows : (c : ℕ) → MaskWithin i (2 ^ m) c → Dec (c < start) → leb first c ≡ leb start c
      lows c w (yes h) =
          lt-leb first c (lt_of_not-le (λ (g : first ≤ c). let more = from.between c g h in absurd (omega (arith, w.few)))) ∙ sym (lt-leb start c h)
      lows c w (no h) = le-leb first c (omega (arith, from.low)) ∙ sym (le-leb start c (omega arith))

  pub between_none : last < start → components_between m i first last ≡ []
  between_none h = none_between m i first last (λ c t.
      let more = from.between c t.from (omega (arith, t.to)) in
      absurd (omega (arith, t.mask.few)))

-- ---- the rank says which of two masks comes first
pub earlier_rank : (m a b : ℕ) → a < 2 ^ m → b < 2 ^ m → ltb (mask_rank m a) (mask_rank m b) ≡ earlier a b
earlier_rank m a b ha hb = go (dec_lt (ones a) (ones b)) (ℕ_discrete (ones a) (ones b)) (dec_lt a b)
  where
    go : Dec (ones a < ones b) → Dec (ones a ≡ ones b) → Dec (a < b) → ltb (mask_rank m a) (mask_rank m b) ≡ earlier a b
    go (yes l) e k = lt-ltb _ _ (rank_of_before m a b ha (inl l)) ∙ sym (ap (λ (t : Bool). t || (eqb (ones a) (ones b) && ltb a b)) (lt-ltb _ _ l))
    go (no l) (yes e) (yes k) =
        lt-ltb _ _ (rank_of_before m a b ha (inr (e, k))) ∙ sym (ap₂ (λ (s t : Bool). ltb (ones a) (ones b) || (s && t)) (eq-eqb _ _ e) (lt-ltb _ _ k) ∙ or_true (ltb (ones a) (ones b)))
      where
        or_true : (t : Bool) → (t || true) ≡ true
        or_true true = refl
        or_true false = refl
    go (no l) (yes e) (no k) =
        let rest : b ≤ a = omega arith in
        le-ltb (mask_rank m a) (mask_rank m b) (omega (arith, ap (λ (z : ℕ). z * 2 ^ m) e))
        ∙ sym (ap₂ (λ (s t : Bool). s || (eqb (ones a) (ones b) && t)) (le-ltb (ones a) (ones b) (omega arith)) (le-ltb a b rest) ∙ and_false (eqb (ones a) (ones b)))
      where
        and_false : (t : Bool) → (false || (t && false)) ≡ false
        and_false true = refl
        and_false false = refl
    go (no l) (no e) k =
        le-ltb (mask_rank m a) (mask_rank m b) (omega (arith, rank_of_before m b a hb (inl (omega arith))))
        ∙ sym (ap₂ (λ (s t : Bool). s || (t && ltb a b)) (le-ltb (ones a) (ones b) (omega arith)) (ne_eqb (ones a) (ones b) e))

-- ---- the lines of the merging
module _ (before : ℕ → ℕ → Bool) where
  -- what is without a figure adds nothing
  pub merged_nothing : (r : Reply) → merged_reply before (figures []) r ≡ r
  unfolding merged_figures
  merged_nothing (figures ys) = refl
  merged_nothing (refusal e) = refl

  module _ (x : ℕ) (xs : List ℕ) (y : ℕ) (ys : List ℕ) where
    abbrev test : Bool
    test = before y x || (eqb y x && earlier (at ys 0) (at xs 0))

    pub merged_second : test ≡ true → merged_reply before (figures (x ∷ xs)) (figures (y ∷ ys)) ≡ figures (y ∷ ys)
    unfolding merged_figures
    merged_second e = ap (λ (t : Bool). figures (elim t [ true ↦ y ∷ ys | false ↦ x ∷ xs ])) e

    pub merged_first : test ≡ false → merged_reply before (figures (x ∷ xs)) (figures (y ∷ ys)) ≡ figures (x ∷ xs)
    unfolding merged_figures
    merged_first e = ap (λ (t : Bool). figures (elim t [ true ↦ y ∷ ys | false ↦ x ∷ xs ])) e

-- what the code tests where the larger figure is the better one
pub sooner_above : (x y c best : ℕ) → sooner x y c best ≡ (above y x || (eqb y x && earlier c best))
sooner_above x y c best = ap (λ (t : Bool). ltb x y || (t && earlier c best)) (go (ℕ_discrete x y))
  where
    go : Dec (x ≡ y) → eqb x y ≡ eqb y x
    go (yes e) = eq-eqb x y e ∙ sym (eq-eqb y x (sym e))
    go (no e) = ne_eqb x y e ∙ sym (ne_eqb y x (λ d. e (sym d)))

-- two calls by the same checks
pub merged_after : (before : ℕ → ℕ → Bool) (k : Result ⊤ Refusal) (xs ys : List ℕ)
    → merged_reply before (reply_after k xs) (reply_after k ys) ≡ reply_after k (merged_figures before xs ys)
merged_after before (Ok tt) xs ys = refl
merged_after before (Err e) xs ys = refl

-- ---- the choice of two choices is the choice of all: no two candidates of one rank
module _ {beats : Candidate → Candidate → Bool} {R S : Candidate → Candidate → Type 0} (o : Ordered beats R S) (f : ByFigure R S) (rank : Candidate → ℕ) where
  abbrev by : Candidate → Candidate → Bool
  by = ranked beats rank

  pub best_two : (x y : Candidate) (xs ys : List Candidate)
      → ((a b : Candidate) → Memᴰ a ((x ∷ xs) ++ (y ∷ ys)) → Memᴰ b ((x ∷ xs) ++ (y ∷ ys)) → rank a ≡ rank b → a ≡ b)
      → best by (best by x xs) (best by y ys ∷ []) ≡ best by x (xs ++ (y ∷ ys))
  best_two x y xs ys one =
      lex_both o f rank r s (one r s r_mem s_mem) (r_good (Memᴰ.append_cases (x ∷ xs) s_mem)) (ranked_all o f rank x (xs ++ (y ∷ ys)) r r_mem)
    where
      a : Candidate
      a = best by x xs

      b : Candidate
      b = best by y ys

      r : Candidate
      r = best by a (b ∷ [])

      s : Candidate
      s = best by x (xs ++ (y ∷ ys))

      s_mem : Memᴰ s ((x ∷ xs) ++ (y ∷ ys))
      s_mem = best_mem by x (xs ++ (y ∷ ys))

      of_two : Memᴰ r (a ∷ b ∷ []) → Memᴰ r ((x ∷ xs) ++ (y ∷ ys))
      of_two (Memᴰ.head e) = Memᴰ.append_left (y ∷ ys) (subst (λ (z : Candidate). Memᴰ z (x ∷ xs)) (sym e) (best_mem by x xs))
      of_two (Memᴰ.tail (Memᴰ.head e)) = Memᴰ.append_right (x ∷ xs) (subst (λ (z : Candidate). Memᴰ z (y ∷ ys)) (sym e) (best_mem by y ys))
      of_two (Memᴰ.tail (Memᴰ.tail k)) = absurd (Memᴰ.not-nil k)

      r_mem : Memᴰ r ((x ∷ xs) ++ (y ∷ ys))
      r_mem = of_two (best_mem by a (b ∷ []))

      r_good : Memᴰ s (x ∷ xs) ⊎ Memᴰ s (y ∷ ys) → Lex o f rank r s
      r_good (inl k) = lex_trans o f rank r a s (ranked_all o f rank a (b ∷ []) a (Memᴰ.head refl)) (ranked_all o f rank x xs s k)
      r_good (inr k) = lex_trans o f rank r b s (ranked_all o f rank a (b ∷ []) b (Memᴰ.tail (Memᴰ.head refl))) (ranked_all o f rank y ys s k)

  -- what is shown of the same candidates in any order
  shown_order : (cs ds : List Candidate) → ((x y : Candidate) → Memᴰ x cs → Memᴰ y cs → rank x ≡ rank y → x ≡ y) → SameMembers cs ds
      → shown_best by cs ≡ shown_best by ds
  shown_order [] [] one same = refl
  shown_order [] (d ∷ ds) one same = absurd (Memᴰ.not-nil ((same d).1 (Memᴰ.head refl)))
  shown_order (c ∷ cs) [] one same = absurd (Memᴰ.not-nil ((same c).0 (Memᴰ.head refl)))
  shown_order (c ∷ cs) (d ∷ ds) one same = ap shown (ranked_order o f rank (c ∷ cs) (d ∷ ds) one same)

-- ---- what is found over the masks that a test takes
module _ (before : ℕ → ℕ → Bool) (m i : ℕ) (f : ℕ → List Candidate) where
  abbrev pub found_over : (ℕ → Bool) → List ℕ
  found_over p = shown_best (λ c d. before c.figure d.figure) (each (keep p (components m i)) f)

  -- tests that agree on the masks within the limit find the same
  pub same_over : (p q : ℕ → Bool) → ((c : ℕ) → MaskWithin i (2 ^ m) c → p c ≡ q c) → found_over p ≡ found_over q
  same_over p q h = ap (λ (l : List ℕ). shown_best (λ c d. before c.figure d.figure) (each l f)) (same_taken m i p q h)

  -- and one that takes all of them finds what is found over all
  pub whole_over : (p : ℕ → Bool) → ((c : ℕ) → MaskWithin i (2 ^ m) c → p c ≡ true)
      → found_over p ≡ shown_best (λ c d. before c.figure d.figure) (each (components m i) f)
  whole_over p h = ap (λ (l : List ℕ). shown_best (λ c d. before c.figure d.figure) (each l f)) (all_taken m i p h)

module _ (before : ℕ → ℕ → Bool) {R S : Candidate → Candidate → Type 0} (o : Ordered (λ c b. before c.figure b.figure) R S) (g : ByFigure R S)
    (m i : ℕ) {f : ℕ → List Candidate} (b : Blocks f) where
  abbrev beats : Candidate → Candidate → Bool
  beats c d = before c.figure d.figure

  abbrev rank : Candidate → ℕ
  rank p = mask_rank m (mask p)

  abbrev leader : ℕ → List Candidate
  leader c = first_best beats (f c) ∷ []

  abbrev taken : (ℕ → Bool) → List ℕ
  taken p = keep p (components m i)

  named : Named (λ c. first_best beats (f c))
  named = record { names = leader_names b beats }

  rises : (p : ℕ → Bool) → Ascending rank (each (taken p) leader)
  rises p = ascending_rule named (mask_rank m) (taken p) (ascending_keep p (mask_rank m) (components m i) (ascending_components m i))

  -- by the first best of each block, ties broken by the mask
  by_blocks : (ks : List ℕ) → shown_best beats (each ks f) ≡ shown_best beats (each ks leader)
  unfolding each
  by_blocks [] = refl
  by_blocks (k ∷ ks) =
      let s = b.some k in
      let cons : each (k ∷ ks) f ≡ s.0 ∷ (s.1 ++ each ks f) = ap (λ (l : List Candidate). l ++ each ks f) s.2 in
      ap (shown_best beats) cons ∙ ap shown (sym (ap (first_best beats) cons) ∙ first_blocks o g f b.some (k ∷ ks))

  by_rank : (cs : List Candidate) → Ascending rank cs → shown_best beats cs ≡ shown_best (ranked beats rank) cs
  by_rank [] a = refl
  by_rank (c ∷ cs) a = ap shown (first_is_ranked beats rank (c ∷ cs) a)

  over_is : (p : ℕ → Bool) → found_over before m i f p ≡ shown_best (ranked beats rank) (each (taken p) leader)
  over_is p = by_blocks (taken p) ∙ by_rank (each (taken p) leader) (rises p)

  -- two results merged, of candidates whose masks are below 2^m
  merged_lists : (cs ds : List Candidate) → ((a b : Candidate) → Memᴰ a (cs ++ ds) → Memᴰ b (cs ++ ds) → rank a ≡ rank b → a ≡ b)
      → ((a : Candidate) → Memᴰ a (cs ++ ds) → mask a < 2 ^ m)
      → merged_figures before (shown_best (ranked beats rank) cs) (shown_best (ranked beats rank) ds) ≡ shown_best (ranked beats rank) (cs ++ ds)
  unfolding merged_figures best
  merged_lists [] ds one high = refl
  merged_lists (c ∷ cs) [] one high = ap (λ (l : List Candidate). shown (best (ranked beats rank) c l)) (sym (append-nil cs))
  merged_lists (c ∷ cs) (d ∷ ds) one high =
      let x = best (ranked beats rank) c cs in
      let y = best (ranked beats rank) d ds in
      let x_high = high x (Memᴰ.append_left (d ∷ ds) (best_mem (ranked beats rank) c cs)) in
      let y_high = high y (Memᴰ.append_right (c ∷ cs) (best_mem (ranked beats rank) d ds)) in
      test x y (earlier_rank m (mask y) (mask x) y_high x_high) ∙ ap shown (best_two o g rank c d cs ds one)
    where
      test : (x y : Candidate) → ltb (rank y) (rank x) ≡ earlier (mask y) (mask x)
          → merged_figures before (shown x) (shown y) ≡ shown (best (ranked beats rank) x (y ∷ []))
      test x y e = ap (λ (t : Bool). pick (before y.figure x.figure || (eqb y.figure x.figure && t))) (sym e) ∙ out (ranked beats rank y x)
        where
          pick : Bool → List ℕ
          pick t = elim t [ true ↦ shown y | false ↦ shown x ]

          out : (t : Bool) → pick t ≡ shown (elim t [ true ↦ y | false ↦ x ])
          out true = refl
          out false = refl

  -- so merging is over the masks of both
  pub merged_over : (p q : ℕ → Bool) → merged_figures before (found_over before m i f p) (found_over before m i f q) ≡ found_over before m i f (λ c. p c || q c)
  merged_over p q =
      ap₂ (merged_figures before) (over_is p) (over_is q)
      ∙ merged_lists (each (taken p) leader) (each (taken q) leader) one high
      ∙ shown_order o g rank (each (taken p) leader ++ each (taken q) leader) (each (taken u) leader) one (λ x. (into x, back x))
      ∙ sym (over_is u)
    where
      u : ℕ → Bool
      u c = p c || q c

      left_of_or : (s t : Bool) → s ≡ true → (s || t) ≡ true
      left_of_or true t e = refl
      left_of_or false t e = cc

      right_of : (s t : Bool) → t ≡ true → (s || t) ≡ true
      right_of true t e = refl
      right_of false t e = e

      either : (s t : Bool) → (s || t) ≡ true → (s ≡ true) ⊎ (t ≡ true)
      either true t e = inl refl
      either false t e = inr e

      into : (x : Candidate) → Memᴰ x (each (taken p) leader ++ each (taken q) leader) → Memᴰ x (each (taken u) leader)
      into x k = ⊎_elim (λ h. of p (left_of_at) h) (λ h. of q (right_of_at) h) (Memᴰ.append_cases (each (taken p) leader) k)
        where
          left_of_at : (c : ℕ) → p c ≡ true → u c ≡ true
          left_of_at c = left_of_or (p c) (q c)

          right_of_at : (c : ℕ) → q c ≡ true → u c ≡ true
          right_of_at c = right_of (p c) (q c)

          of : (t : ℕ → Bool) → ((c : ℕ) → t c ≡ true → u c ≡ true) → Memᴰ x (each (taken t) leader) → Memᴰ x (each (taken u) leader)
          of t all h =
              let e = mem_each (taken t) leader x h in
              let k = mem_keep t (components m i) e.0 e.1 in
              in_each (taken u) leader e.0 x (in_keep u (components m i) e.0 k.0 (all e.0 k.1)) e.2

      back : (x : Candidate) → Memᴰ x (each (taken u) leader) → Memᴰ x (each (taken p) leader ++ each (taken q) leader)
      back x h =
          let e = mem_each (taken u) leader x h in
          let k = mem_keep u (components m i) e.0 e.1 in
          ⊎_elim
          (λ t. Memᴰ.append_left (each (taken q) leader) (in_each (taken p) leader e.0 x (in_keep p (components m i) e.0 k.0 t) e.2))
          (λ t. Memᴰ.append_right (each (taken p) leader) (in_each (taken q) leader e.0 x (in_keep q (components m i) e.0 k.0 t) e.2))
          (either (p e.0) (q e.0) k.1)

      one : (x y : Candidate) → Memᴰ x (each (taken p) leader ++ each (taken q) leader) → Memᴰ y (each (taken p) leader ++ each (taken q) leader)
          → rank x ≡ rank y → x ≡ y
      one x y j k = ascending_one rank (each (taken u) leader) (rises u) x y (into x j) (into y k)

      high : (x : Candidate) → Memᴰ x (each (taken p) leader ++ each (taken q) leader) → mask x < 2 ^ m
      high x k = high_rule named (taken u) (λ c h. (mem_components m i c (mem_keep u (components m i) c h).0).high) x (into x k)
