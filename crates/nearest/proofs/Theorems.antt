-- All nearest pairs, as the call leaves them in the list: exactly the pairs within the limit that differ at d inputs, d being the nonlinearity that
-- its call replies, each once, in the order of the pairs, the nonlinearity's witness first.
use Rattle.std.specs.Prelude.{Ok}
use mathlib.Core.Path.{◌≡◌, sym, ap, ◌∙◌}
use mathlib.Core.Logic.{inl, inr}
use mathlib.Core.Bool.{Bool}
use mathlib.Core.List.{List, [], ◌∷◌, ◌++◌}
use Prim.Native.Nat.{ℕ, zero, suc, ◌+◌, ◌*◌, ◌-◌, ◌^◌, ◌<◌, ◌≤◌}
use native.Mathlib.Decide.{dec_lt}
use native.Mathlib.Omega.{arith}
use borrow.Author.Tests.{eq-eqb, eqb-true, leb-true}
use lib.Count.{ones}
use lib.Dec.{eqb}
use lib.ListN.{length, get_or, drop, length-map, length-append, length-drop, get_or-append, get_or-map}
use lib.Seq.{get_or-append-add, get_or-drop}
use Rattle.boolean.specs.Sums.{keep}
use Rattle.boolean.specs.Functions.{at, component, distance, mask_rank}
use Rattle.boolean.specs.Selection.{Candidate, nothing, shown}
use Rattle.boolean.proofs.Kept.{mem_keep, in_keep, ascending_keep}
use Rattle.refusals.specs.Table.{first, limit_checks}
use Rattle.refusals.proofs.Checks.{limited, accepted_before, accepted_after, passed}
use Rattle.refusals.proofs.Outcomes.{wrote_when_told}
use Rattle.refusals.proofs.Replies.{head_same, figures_accepted}
use Rattle.linear.specs.Nonlinearity.{pair, pairs, nonlinearity}
use Rattle.linear.specs.Statements.{IsPair, PairBefore, pair_rank}
use Rattle.linear.proofs.Pairs.{before_rank, in_pairs, mem_pairs, ascending_pairs}
use Rattle.linear.proofs.Theorems.{nonlinearity_reported, nonlinearity_reached, nonlinearity_first, figure_told}
use Rattle.nearest.specs.NearestPairs.{code, coded_pair, nearest_pairs}
use Rattle.nearest.specs.Calls.{pairs_checks, PairsCalled}
use Rattle.nearest.specs.Statements.{PairsReported}
use Rattle.nearest.proofs.Lists.{at_each, place_of, ascending_places}

-- a number of the list names one pair, at every width: w is below 2^8, and b below 2
pub code_names_one_pair : (c w b c' w' b' : ℕ) → w < 256 → b < 2 → w' < 256 → b' < 2 → code c w b ≡ code c' w' b' → (c ≡ c') × (w ≡ w') × (b ≡ b')
code_names_one_pair c w b c' w' b' hw hb hw' hb' e = by_c (dec_lt c c') (dec_lt c' c)
  where
    by_w : c ≡ c' → Dec (w < w') → Dec (w' < w) → (c ≡ c') × (w ≡ w') × (b ≡ b')
    by_w q (yes l) g = absurd (omega arith)
    by_w q (no l) (yes g) = absurd (omega arith)
    by_w q (no l) (no g) = (q, omega arith, omega arith)

    by_c : Dec (c < c') → Dec (c' < c) → (c ≡ c') × (w ≡ w') × (b ≡ b')
    by_c (yes l) g = absurd (omega arith)
    by_c (no l) (yes g) = absurd (omega arith)
    by_c (no l) (no g) = by_w (omega arith) (dec_lt w w') (dec_lt w' w)

-- ---- a pair of a lower number comes before
module _ (n m c' w' b' c w b : ℕ) (hc' : c' < 2 ^ m) (hw' : w' < 2 ^ n) (hb' : b' < 2) (hc : c < 2 ^ m) (hw : w < 2 ^ n) (hb : b < 2)
    (less : mask_rank m c' * (2 * 2 ^ n) + w' * 2 + b' < mask_rank m c * (2 * 2 ^ n) + w * 2 + b) where
  -- not after it
  not_after : PairBefore c w b c' w' b' → ⊥
  not_after h = let z = before_rank n m c w b c' w' b' hc hw hb h in omega arith

  before_of_rank : PairBefore c' w' b' c w b
  before_of_rank = by_ones (dec_lt (ones c') (ones c)) (dec_lt (ones c) (ones c'))
    where
      by_b : c' ≡ c → w' ≡ w → Dec (b' < b) → Dec (b < b') → PairBefore c' w' b' c w b
      by_b e q (yes l) g = inr (inr (e, q, l))
      by_b e q (no l) (yes g) = absurd (not_after (inr (inr (sym e, sym q, g))))
      by_b e q (no l) (no g) = absurd (omega (arith, less, ap (λ (z : ℕ). mask_rank m z * (2 * 2 ^ n)) e))

      by_w : c' ≡ c → Dec (w' < w) → Dec (w < w') → PairBefore c' w' b' c w b
      by_w e (yes l) g = inr (inl (e, l))
      by_w e (no l) (yes g) = absurd (not_after (inr (inl (sym e, g))))
      by_w e (no l) (no g) = by_b e (omega arith) (dec_lt b' b) (dec_lt b b')

      by_c : ones c' ≡ ones c → Dec (c' < c) → Dec (c < c') → PairBefore c' w' b' c w b
      by_c e (yes l) g = inl (inr (e, l))
      by_c e (no l) (yes g) = absurd (not_after (inl (inr (sym e, g))))
      by_c e (no l) (no g) = by_w (omega arith) (dec_lt w' w) (dec_lt w w')

      by_ones : Dec (ones c' < ones c) → Dec (ones c < ones c') → PairBefore c' w' b' c w b
      by_ones (yes l) g = inl (inl l)
      by_ones (no l) (yes g) = absurd (not_after (inl (inl g)))
      by_ones (no l) (no g) = by_c (omega arith) (dec_lt c' c) (dec_lt c c')

-- ---- the pairs that are kept, place by place
module _ (n m : ℕ) (rows : List ℕ) (i : ℕ) where
  abbrev d : ℕ
  d = (nonlinearity n m rows i).figure

  abbrev reaches : Candidate → Bool
  reaches p = eqb p.figure d

  abbrev kept : List Candidate
  kept = keep reaches (pairs n m rows i)

  abbrev kept_at : ℕ → Candidate
  kept_at s = get_or kept s nothing

  -- a pair stands at each place
  pub record Kept (p : Candidate) : Type 0 where
    pub c : ℕ
    pub w : ℕ
    pub b : ℕ
    pub member : IsPair n m i c w b
    pub is : p ≡ pair n rows c w b
    pub reached : distance n (component rows c) w b ≡ d

  kept_at_lem : (s : ℕ) → s < length kept → Kept (kept_at s)
  kept_at_lem = at_each nothing Kept kept (λ p k.
      let t = mem_keep reaches (pairs n m rows i) p k in
      let u = mem_pairs n m rows i p t.0 in
      record {
        c = u.0;
        w = u.1;
        b = u.2;
        member = u.3;
        is = u.4;
        reached = sym (ap (λ (p : Candidate). p.figure) u.4) ∙ eqb-true p.figure d t.1;
      })

  -- each pair that differs at d has a place
  kept_place : (c w b : ℕ) → IsPair n m i c w b → distance n (component rows c) w b ≡ d → (s : ℕ) × (s < length kept) × (kept_at s ≡ pair n rows c w b)
  kept_place c w b h e =
      place_of nothing kept (pair n rows c w b) (in_keep reaches (pairs n m rows i) (pair n rows c w b) (in_pairs n m rows i c w b h) (eq-eqb _ d e))

  kept_order : (s t : ℕ) → s < t → t < length kept → pair_rank n m (kept_at s) < pair_rank n m (kept_at t)
  kept_order = ascending_places nothing (pair_rank n m) kept (ascending_keep reaches (pair_rank n m) (pairs n m rows i) (ascending_pairs n m rows i))

  -- the pair at a place comes before one that has a higher number
  kept_before : {p q : Candidate} (u : Kept p) (v : Kept q) → pair_rank n m p < pair_rank n m q → PairBefore u.c u.w u.b v.c v.w v.b
  kept_before u v l =
      before_of_rank n m u.c u.w u.b v.c v.w v.b u.member.mask.high u.member.w_high u.member.b_high
      v.member.mask.high v.member.w_high v.member.b_high (omega (arith, l, ap (pair_rank n m) u.is, ap (pair_rank n m) v.is))

  -- the witness of the nonlinearity stands first
  kept_first : 1 ≤ m → 1 ≤ i → kept_at 0 ≡ nonlinearity n m rows i
  kept_first m_low i_low =
      let r = nonlinearity_reached n m rows i m_low i_low in
      let there = kept_place r.0 r.1 r.2 r.3 (sym (ap (λ (p : Candidate). p.figure) r.4)) in
      go there.0 there.1 (there.2 ∙ sym r.4)
    where
      go : (s : ℕ) → s < length kept → kept_at s ≡ nonlinearity n m rows i → kept_at 0 ≡ nonlinearity n m rows i
      go zero l e = e
      go (suc s) l e =
          let u = kept_at_lem 0 (omega arith) in
          let v = kept_at_lem (suc s) l in
          let before = kept_before u v (kept_order 0 (suc s) (omega arith) l) in
          absurd (omega (arith, nonlinearity_first n m rows i m_low i_low v.c v.w v.b (sym e ∙ v.is) u.c u.w u.b u.member before, u.reached))

  -- ---- the same of the numbers in the list
  abbrev listed : List ℕ
  listed = nearest_pairs n m rows i

  as_many : length listed ≡ length kept
  unfolding nearest_pairs
  as_many = length-map kept coded_pair

  listed_at : (s : ℕ) → at listed s ≡ coded_pair (kept_at s)
  unfolding nearest_pairs
  listed_at s = get_or-map coded_pair kept s nothing

-- "all nearest pairs, in order": of any call that lists them
module _ (n m : ℕ) (rows : List ℕ) (i : ℕ) (lent left : List ℕ) (count : ℕ) (called : PairsCalled n m rows i lent (Ok count) left) where
  told : (first (pairs_checks n m rows i (length lent)) ≡ (Ok tt)) × ((count ∷ []) ≡ (length (nearest_pairs n m rows i) ∷ []))
      × (left ≡ nearest_pairs n m rows i ++ drop (length (nearest_pairs n m rows i)) lent)
  told = wrote_when_told called

  box_taken : first (limit_checks n m rows i) ≡ (Ok tt)
  unfolding pairs_checks
  box_taken = accepted_before (limit_checks n m rows i) _ told.0

  fits : length (nearest_pairs n m rows i) ≤ length lent
  unfolding pairs_checks
  fits = leb-true _ (length lent) (passed _ (accepted_after (limit_checks n m rows i) _ told.0)).0

  count_is : count ≡ length (kept n m rows i)
  count_is = head_same told.1 ∙ as_many n m rows i

  entry_is : (s : ℕ) → s < count → at left s ≡ coded_pair (kept_at n m rows i s)
  entry_is s l =
      ap (λ (k : List ℕ). at k s) told.2
      ∙ get_or-append (nearest_pairs n m rows i) _ 0 s (omega (arith, head_same told.1))
      ∙ listed_at n m rows i s

  entry_kept : (s : ℕ) → s < count → Kept n m rows i (kept_at n m rows i s)
  entry_kept s l = kept_at_lem n m rows i s (omega (arith, count_is))

  stays : (s : ℕ) → count ≤ s → at left s ≡ at lent s
  stays s l =
      let k = length (nearest_pairs n m rows i) in
      let past : s ≡ k + (s - k) = omega (arith, head_same told.1) in
      ap (λ (z : List ℕ). at z s) told.2 ∙ ap (λ (z : ℕ). at (nearest_pairs n m rows i ++ drop k lent) z) past
      ∙ get_or-append-add (nearest_pairs n m rows i) (drop k lent) (s - k) 0 ∙ get_or-drop k lent (s - k) 0 ∙ ap (λ (z : ℕ). at lent z) (sym past)

  pub pairs_reported : PairsReported n m rows i lent left count
  pairs_reported =
      let l = limited n m rows i box_taken in
      let r = nonlinearity_reported n m rows i box_taken in
      let told_d = (figure_told n m rows i r.reply).1 in
      let shows = (figures_accepted (first (limit_checks n m rows i)) (shown (nonlinearity n m rows i)) r.reply).1 in
      let first_is = kept_first n m rows i l.box.m_low l.i_low in
      let there = kept_place n m rows i r.c r.w r.b r.member (r.reached ∙ sym told_d) in
      let some : 1 ≤ count = omega (arith, count_is, there.1) in
      record {
        d = r.d;
        c = r.c;
        w = r.w;
        b = r.b;
        nonlinearity = r.reply;
        room = omega (arith, fits, head_same told.1);
        some = some;
        begins = entry_is 0 some ∙ ap coded_pair first_is ∙ ap (λ (l : List ℕ). code (at l 1) (at l 2) (at l 3)) (sym shows);
        entry = λ s h.
            let u = entry_kept s h in
            record { c = u.c; w = u.w; b = u.b; member = u.member; reached = u.reached ∙ told_d; is = entry_is s h ∙ ap coded_pair u.is };
        every = λ c' w' b' h e.
            let t = kept_place n m rows i c' w' b' h (e ∙ sym told_d) in
            let h : t.0 < count = omega (arith, count_is, t.1) in
            (t.0, h, entry_is t.0 h ∙ ap coded_pair t.2);
        in_order = λ s t p q h. kept_before n m rows i (entry_kept s p) (entry_kept t q) (kept_order n m rows i s t h (omega (arith, count_is)));
        stay = stays;
        as_long = ap length told.2 ∙ (let z : length (nearest_pairs n m rows i ++ drop (length (nearest_pairs n m rows i)) lent) ≡ length lent
            = omega (arith, length-append (nearest_pairs n m rows i) (drop (length (nearest_pairs n m rows i)) lent), length-drop (length (nearest_pairs n m rows i)) lent, fits) in z);
      }
