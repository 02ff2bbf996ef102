-- What may be relied on of the figure and its witness: the least count over all 2^N inputs, reached, and every pair before the witness at more.
-- Assumes nothing.
use Rattle.std.specs.Prelude.{Ok}
use mathlib.Core.Path.{◌≡◌, refl, sym, ap, ◌∙◌, subst}
use mathlib.Core.List.{List, [], ◌∷◌, ◌++◌, Memᴰ}
use Prim.Native.Nat.{ℕ, suc, ◌+◌, ◌/◌, ◌%◌, ◌^◌, ◌<◌, ◌≤◌}
use native.Mathlib.Omega.{arith}
use lib.Bits.{xor_lt}
use lib.ListN.{length, length-append, length-take}
use lib.Pow.{pow_pos, pow_mono}
use Rattle.boolean.specs.Functions.{at, components, mask_rank}
use Rattle.boolean.specs.Selection.{Candidate, shown}
use Rattle.boolean.proofs.Components.{mem_components, in_components, ascending_components, first_mask}
use Rattle.boolean.proofs.Lists.{length_list_below, get_or_list_below}
use Rattle.refusals.specs.Table.{Reply, figures, refusal, first, Box}
use Rattle.refusals.proofs.Bounds.{below_at, below_true}
use Rattle.refusals.proofs.Checks.{reply_accepted, limit_accepted}
use Rattle.linear.specs.Nonlinearity.{nonlinearity, nonlinearity_reply}
use Rattle.rounds.specs.Round.{Summand, inputs_of, first_given, outputs_of, sum_at, sum_rows, joined, sum_nonlinearity, sum_checks}
use Rattle.rounds.specs.Work.{IsBox}
use Rattle.rounds.specs.Statements.{MasksFit, Lex, SumReported}
use Rattle.rounds.proofs.Decided.{by_rank, decided_of}
use Rattle.rounds.proofs.Boxes.{as_box}
use Rattle.rounds.proofs.Entry.{accepted_round, number_high, limit_low, limit_high, some_outputs, some_inputs}

-- "The desk must be able to rely on it as the least count of differing inputs over all 2^N inputs, though nobody can run that count." "The witness is c,
-- one mask for each box from box 1 on, and b, the first in that order." "It is 2^(N−1) less half the largest, over combinations within the limit i, of
-- the product of the boxes' largest spectrum magnitudes."
pub sum_reported : (count : ℕ) (handed : List Summand) (i : ℕ) → first (sum_checks count handed i) ≡ (Ok tt) → SumReported count handed i
sum_reported count handed i accepted =
    let ss : List Summand = first_given count handed in
    let m = outputs_of ss in
    let m_low = some_outputs count handed i accepted in
    let i_low = limit_low count handed i accepted in
    let one = in_components m i 1 (first_mask m i m_low i_low) in
    let r = decided_of ss (some_inputs count handed i accepted) (mask_rank m) (components m i) (ascending_components m i) 1 one in
    record {
      d = r.d;
      c = r.c;
      ws = r.ws;
      b = r.b;
      reply = sym (reply_accepted accepted (shown (sum_nonlinearity ss (components m i)))) ∙ ap (λ (p : Candidate). figures (shown p)) r.is;
      least = λ c' v b' p. r.least c' v b' (in_components m i c' p.mask) p.w_high p.b_high;
      member = record { mask = mem_components m i r.c r.in_order; fits = r.fits; b_high = r.b_high };
      reached = r.reached;
      before = λ c' ws' b' p l. r.before c' ws' b' (in_components m i c' p.mask) p.fits p.b_high (by_rank Lex m c' p.mask.high l);
      as_box = as_box ss m i m_low i_low r;
      product_largest = λ c' w. r.product_largest c' (in_components m i c' w);
      whole = r.whole;
    }

-- ---- a sum of at most 8 inputs is a box that the nonlinearity call takes too, and that call replies the same, with the masks put together
row_below : (m : ℕ) (ss : List Summand) → ((s : Summand) → Memᴰ s ss → IsBox s) → ((s : Summand) → Memᴰ s ss → s.outputs ≡ m) → (x : ℕ) → sum_at ss x < 2 ^ m
unfolding sum_at
row_below m [] boxed same x = pow_pos m
row_below m (s ∷ ss) boxed same x =
    xor_lt m (at s.rows (x % 2 ^ s.inputs)) (sum_at ss (x / 2 ^ s.inputs))
    (subst (λ (k : ℕ). at s.rows (x % 2 ^ s.inputs) < 2 ^ k) (same s (Memᴰ.head refl)) ((boxed s (Memᴰ.head refl)).below (x % 2 ^ s.inputs)))
    (row_below m ss (λ t k. boxed t (Memᴰ.tail k)) (λ t k. same t (Memᴰ.tail k)) (x / 2 ^ s.inputs))

module _ (count : ℕ) (handed : List Summand) (i : ℕ) (accepted : first (sum_checks count handed i) ≡ (Ok tt)) where
  abbrev ss : List Summand
  ss = first_given count handed

  sum_is_box : inputs_of ss ≤ 8 → Box (inputs_of ss) (outputs_of ss) (sum_rows ss)
  unfolding sum_rows
  sum_is_box few =
      let m_low = some_outputs count handed i accepted in
      let r = accepted_round count handed i accepted in
      let size = length_list_below (2 ^ inputs_of ss) (sum_at ss) in
      let short : 2 ^ inputs_of ss ≤ 256 = pow_mono few in
      let below : (x : ℕ) → x < length (sum_rows ss) → at (sum_rows ss) x < 2 ^ outputs_of ss =
      λ x l. subst (λ (k : ℕ). k < 2 ^ outputs_of ss) (sym (get_or_list_below (2 ^ inputs_of ss) (sum_at ss) x 0 (omega arith))) (row_below (outputs_of ss) ss r.boxed r.same x) in
      record {
        n_low = some_inputs count handed i accepted;
        n_high = few;
        m_low = m_low;
        m_high = outputs_few ss r.boxed m_low;
        size = size;
        small = omega (arith, size, short);
        below = below_at (2 ^ outputs_of ss) (sum_rows ss) (pow_pos (outputs_of ss)) (below_true (2 ^ outputs_of ss) (sum_rows ss) below);
      }
    where
      outputs_few : (ts : List Summand) → ((s : Summand) → Memᴰ s ts → IsBox s) → 1 ≤ outputs_of ts → outputs_of ts ≤ 32
      outputs_few [] b l = absurd (omega arith)
      outputs_few (s ∷ ts) b l = (b s (Memᴰ.head refl)).m_high

  pub small_sum_reply : inputs_of ss ≤ 8 → (r : SumReported count handed i)
      → nonlinearity_reply (inputs_of ss) (outputs_of ss) (sum_rows ss) i ≡ figures (r.d ∷ r.c ∷ joined ss r.ws ∷ r.b ∷ [])
  small_sum_reply few r =
      let ok = limit_accepted (inputs_of ss) (outputs_of ss) (sum_rows ss) i
      (record { box = sum_is_box few; i_low = limit_low count handed i accepted; i_high = limit_high count handed i accepted }) in
      sym (reply_accepted ok (shown (nonlinearity (inputs_of ss) (outputs_of ss) (sum_rows ss) i))) ∙ ap (λ (p : Candidate). figures (shown p)) r.as_box

-- how many figures there are: one mask for each box, and three more
fits_length : (ss : List Summand) (ws : List ℕ) → MasksFit ss ws → length ws ≡ length ss
fits_length [] [] h = refl
fits_length [] (w ∷ ws) h = absurd h
fits_length (s ∷ ss) [] h = absurd h
fits_length (s ∷ ss) (w ∷ ws) h = ap suc (fits_length ss ws h.1)

pub figures_number : (count : ℕ) (s1 s2 s3 s4 : Summand) (i : ℕ) → first (sum_checks count (s1 ∷ s2 ∷ s3 ∷ s4 ∷ []) i) ≡ (Ok tt)
    → let ss = first_given count (s1 ∷ s2 ∷ s3 ∷ s4 ∷ []) in length (shown (sum_nonlinearity ss (components (outputs_of ss) i))) ≡ 3 + count
figures_number count s1 s2 s3 s4 i accepted =
    let handed : List Summand = s1 ∷ s2 ∷ s3 ∷ s4 ∷ [] in
    let ss : List Summand = first_given count handed in
    let r = sum_reported count handed i accepted in
    let shows : figures (shown (sum_nonlinearity ss (components (outputs_of ss) i))) ≡ figures (r.d ∷ r.c ∷ (r.ws ++ (r.b ∷ []))) =
    reply_accepted accepted (shown (sum_nonlinearity ss (components (outputs_of ss) i))) ∙ r.reply in
    let same : length (shown (sum_nonlinearity ss (components (outputs_of ss) i))) ≡ suc (suc (length (r.ws ++ (r.b ∷ [])))) = ap given_figures shows in
    omega (
      arith,
      same,
      length-append r.ws (r.b ∷ []),
      fits_length ss r.ws r.member.fits,
      length-take count handed,
      number_high count handed i accepted,
    )
  where
    given_figures : Reply → ℕ
    given_figures (figures l) = length l
    given_figures (refusal k) = 0
