-- A box that is not withdrawn is finished within 8 × (2^m − 1) steps of being put there, whatever else is called, with the plain call's
-- result. Assumes nothing.
use Rattle.std.specs.Prelude.{Result, Ok, ⊤}
use Rattle.refusals.specs.declared.Refusal.{Refusal}
use Prim.Native.Nat.{ℕ, zero, suc, ◌+◌, ◌-◌, ◌*◌, ◌^◌, ◌%◌, ◌<◌, ◌≤◌}
use mathlib.Core.Path.{◌≡◌, refl, sym, ap, ◌∙◌, subst}
use mathlib.Core.Logic.{◌↔◌}
use mathlib.Core.Bool.{Bool, true, false, false≢true}
use mathlib.Core.List.{List, [], ◌∷◌}
use native.Mathlib.Nat.{le_refl}
use native.Mathlib.Omega.{arith}
use native.Mathlib.Decide.{ℕ_discrete, dec_lt}
use borrow.Author.Tests.{ltb-true, lt-ltb, le-ltb, eqb-false}
use lib.Dec.{eqb, ltb}
use lib.ListN.{length, get_or, set, length-set, get_or-eq_default}
use lib.Pow.{pow-lt}
use lib.Seq.{get_or-set_same, get_or-set_other}
use Rattle.boolean.specs.Sums.{list_below, list_from, each}
use Rattle.boolean.specs.Selection.{Candidate, first_least, shown}
use Rattle.boolean.proofs.Lists.{length_list_below, get_or_list_below}
use Rattle.boolean.proofs.Histories.{run_keeps}
use Rattle.refusals.specs.Table.{first, in_range, figures, Box, after}
use Rattle.refusals.proofs.Checks.{passed, found, skip, end, limit_accepted, reply_accepted, after_cases}
use Rattle.refusals.proofs.Bounds.{range_low, range_high, range_true}
use Rattle.linear.specs.Nonlinearity.{pairs_of, pairs, nonlinearity, nonlinearity_reply}
use Rattle.server.specs.Model.{analysis_of, among, held_of, Spot, empty, holds, ServerState, start, spot_at, with_spot, is_taken, more, unfinished}
use Rattle.server.specs.Model.{put_checks, held_checks, put, withdraw, round_robin, first_place, served, advanced, serve, step, run}
use Rattle.server.specs.Model.{Progress, declined, progress_in, progress_of, still_unfinished, finished, progress_after, ask}
use Rattle.server.specs.Statements.{Call, puts, asks, withdraws, steps, runs, after_call, after_all, step_count, keeps}
use Rattle.server.proofs.Examined.{examined_all}
use Rattle.server.proofs.Places.{more_is}
use Rattle.server.proofs.Checks.{put_low, put_high, put_free, put_box, put_narrow}
use Rattle.server.proofs.Circle.{found_passes, found_by, found_first, found_none, somewhere}

-- how many combinations a box has
abbrev total : ℕ → ℕ
total m = 2 ^ m - 1

-- among all combinations, the best pair is the plain call's
pub among_all : (n m : ℕ) (rows : List ℕ) → among n m rows (total m) ≡ nonlinearity n m rows m
unfolding among nonlinearity pairs
among_all n m rows = ap (λ (cs : List ℕ). first_least (each cs (λ c. pairs_of n rows c))) (examined_all m)

-- and once one was examined it is what is held
pub held_among : (n m : ℕ) (rows : List ℕ) (k : ℕ) → 1 ≤ k → held_of n m rows k ≡ among n m rows k
held_among n m rows zero l = absurd (omega arith)
held_among n m rows (suc k) l = refl

-- What is known of place q while its box is not withdrawn: how many combinations were examined, how many places on from the one last
-- served it stands, and that at most `left` steps are left.
record Track (n m : ℕ) (rows : List ℕ) (q : ℕ) (s : ServerState) (left : ℕ) : Type 0 where
  pub inputs : in_range 1 8 n ≡ true
  pub outputs : in_range 1 16 m ≡ true
  pub size : length s.spots ≡ 8
  pub low : 1 ≤ q
  pub high : q ≤ 8
  pub count : ℕ
  pub few : count ≤ 2 ^ m - 1
  pub spot : spot_at s q ≡ holds (analysis_of n m rows count)
  pub away : ℕ
  pub near : away < 8
  pub there : (s.last + away) % 8 + 1 ≡ q
  pub bound : count < 2 ^ m - 1 → 8 * (2 ^ m - 1 - count) + away ≤ left + 7

analysis_more : (n m : ℕ) (rows : List ℕ) (k : ℕ) → in_range 1 8 n ≡ true → in_range 1 16 m ≡ true → more (analysis_of n m rows k) ≡ ltb k (total m)
unfolding analysis_of
analysis_more n m rows k = more_is (analysis_of n m rows k)

analysis_next : (n m : ℕ) (rows : List ℕ) (k : ℕ) → advanced (holds (analysis_of n m rows k)) ≡ holds (analysis_of n m rows (suc k))
unfolding analysis_of
analysis_next n m rows k = refl

module _ {n m : ℕ} {rows : List ℕ} {q : ℕ} where
  -- a finished box has no steps left
  track_done : {s : ServerState} {left : ℕ} (t : Track n m rows q s left) (left' : ℕ) → (t.count < total m → ⊥) → Track n m rows q s left'
  track_done t left' h = record {
    inputs = t.inputs;
    outputs = t.outputs;
    size = t.size;
    low = t.low;
    high = t.high;
    count = t.count;
    few = t.few;
    spot = t.spot;
    away = t.away;
    near = t.near;
    there = t.there;
    bound = λ l. absurd (h l);
  }

  -- another place is put or withdrawn
  track_other : {s : ServerState} {left : ℕ} → Track n m rows q s left → (p : ℕ) → 1 ≤ p → (p ≡ q → ⊥) → (x : Spot) → Track n m rows q (with_spot s p x) left
  track_other {s} t p l h x = record {
    inputs = t.inputs;
    outputs = t.outputs;
    size = length-set s.spots (p - 1) x ∙ t.size;
    low = t.low;
    high = t.high;
    count = t.count;
    few = t.few;
    spot = get_or-set_other s.spots (p - 1) (q - 1) x empty (λ e. h (omega (arith, t.low))) ∙ t.spot;
    away = t.away;
    near = t.near;
    there = t.there;
    bound = t.bound;
  }

  track_put : {s : ServerState} {left : ℕ} → Track n m rows q s left → (p n' m' : ℕ) (rows' : List ℕ) → Track n m rows q (put s p n' m' rows') left
  unfolding put
  track_put {s} {left} t p n' m' rows' =
      after_cases (first (put_checks s p n' m' rows')) (with_spot s p (holds (analysis_of n' m' rows' 0))) s (λ r. Track n m rows q r left)
      (λ e.
      track_other t p (put_low s p n' m' rows' e)
      (λ same. false≢true (sym (put_free s p n' m' rows' e) ∙ ap is_taken (ap (spot_at s) same ∙ t.spot))) (holds (analysis_of n' m' rows' 0))) t

  track_withdraw : {s : ServerState} {left : ℕ} → Track n m rows q s left → (p : ℕ) → (p ≡ q → ⊥) → Track n m rows q (withdraw s p) left
  unfolding withdraw held_checks
  track_withdraw {s} {left} t p h =
      after_cases (first (held_checks s p)) (with_spot s p empty) s (λ r. Track n m rows q r left)
      (λ e. track_other t p (range_low 1 8 p (passed (held_checks s p) e).0) h empty) t

  -- a step that serves another place, and one that serves this one
  module _ {s : ServerState} {left : ℕ} (t : Track n m rows q s left) (left' i : ℕ) where
    served_other : (i ≡ q - 1 → ⊥) → (away : ℕ) → away < 8 → (suc i + away) % 8 + 1 ≡ q
        → (t.count < total m → 8 * (total m - t.count) + away ≤ left' + 7) → Track n m rows q (serve s (suc i)) left'
    served_other h away near there bound = record {
      inputs = t.inputs;
      outputs = t.outputs;
      size = length-set s.spots i _ ∙ t.size;
      low = t.low;
      high = t.high;
      count = t.count;
      few = t.few;
      spot = get_or-set_other s.spots i (q - 1) _ empty (λ e. h (sym e)) ∙ t.spot;
      away = away;
      near = near;
      there = there;
      bound = bound;
    }

    served_this : i ≡ q - 1 → t.count < total m → left ≤ left' + 1 → Track n m rows q (serve s (suc i)) left'
    served_this e l h = record {
      inputs = t.inputs;
      outputs = t.outputs;
      size = length-set s.spots i _ ∙ t.size;
      low = t.low;
      high = t.high;
      count = suc t.count;
      few = l;
      spot =
          ap (λ (j : ℕ). get_or (set s.spots i (advanced (get_or s.spots i empty))) j empty) (sym e)
          ∙ get_or-set_same s.spots i _ empty (omega (arith, t.low, t.high, t.size))
          ∙ ap (λ (j : ℕ). advanced (get_or s.spots j empty)) e ∙ ap advanced t.spot ∙ analysis_next n m rows t.count;
      away = 7;
      near = le_refl 8;
      there = omega (arith, t.low, t.high);
      bound = λ k. omega (arith, t.bound l);
    }

  track_step : {s : ServerState} {left : ℕ} → Track n m rows q s left → Track n m rows q (step s) (left - 1)
  unfolding step served round_robin list_below
  track_step {s} {left} t = pick (dec_lt t.count (total m))
    where
      test : ℕ → Bool
      test p = unfinished (spot_at s p)

      place : ℕ → ℕ
      place k = (s.last + k) % 8 + 1

      is_test : test q ≡ ltb t.count (total m)
      is_test = ap unfinished t.spot ∙ analysis_more n m rows t.count t.inputs t.outputs

      -- one was found at a place in the circle no farther on
      unfinished_step : t.count < total m → (h : ℕ) × (0 ≤ h) × (h ≤ t.away) × (first_place test (list_from 0 8 place) ≡ place h)
          → Track n m rows q (serve s (first_place test (list_from 0 8 place))) (left - 1)
      unfinished_step l f = subst (λ (z : ℕ). Track n m rows q (serve s z) (left - 1)) (sym found) (choose (ℕ_discrete i (q - 1)))
        where
          i : ℕ
          i = (s.last + f.0) % 8

          found : first_place test (list_from 0 8 place) ≡ suc i
          found = f.3 ∙ omega arith

          choose : Dec (i ≡ q - 1) → Track n m rows q (serve s (suc i)) (left - 1)
          choose (yes e) = served_this t (left - 1) i e l (omega arith)
          choose (no e) =
              let before : f.0 < t.away = omega (arith, f.2, t.there) in
              served_other t (left - 1) i e (t.away - suc f.0) (omega (arith, t.near)) (omega (arith, t.there)) (λ k. omega (arith, t.bound l))

      -- it is finished, so what was found is another place
      finished_step : (t.count < total m → ⊥) → (z : ℕ) → first_place test (list_from 0 8 place) ≡ z → Track n m rows q (serve s z) (left - 1)
      finished_step h zero e = track_done t (left - 1) h
      finished_step h (suc i) e =
          let a = somewhere (suc i) q t.low t.high in
          served_other t (left - 1) i
          (λ same.
          let this : suc i ≡ q = omega (arith, t.low) in
          h (ltb-true t.count (total m) (sym is_test ∙ ap test (sym this) ∙ found_passes test (list_from 0 8 place) i e)))
          a.0 a.1 a.2 (λ l. absurd (h l))

      pick : Dec (t.count < total m) → Track n m rows q (step s) (left - 1)
      pick (yes l) = unfinished_step l
          (found_by test place 0 8 t.away (omega arith) (omega (arith, t.near)) (ap test t.there ∙ is_test ∙ lt-ltb t.count (total m) l))
      pick (no h) = finished_step h (first_place test (list_from 0 8 place)) refl

  track_steps : (k : ℕ) {s : ServerState} {left : ℕ} → Track n m rows q s left → Track n m rows q (run s k) (left - k)
  unfolding run
  track_steps zero {s} {left} t = let same : left ≡ left - 0 = omega arith in subst (λ (k : ℕ). Track n m rows q s k) same t
  track_steps (suc k) {s} {left} t =
      let same : left - k - 1 ≡ left - suc k = omega arith in
      subst (λ (j : ℕ). Track n m rows q (step (run s k)) j) same (track_step (track_steps k t))

  track_all : (calls : List Call) {s : ServerState} {left : ℕ} → Track n m rows q s left → keeps q calls ≡ true → Track n m rows q (after_all s calls) (left - step_count calls)
  unfolding after_all after_call keeps step_count
  track_all [] {s} {left} t h = let same : left ≡ left - 0 = omega arith in subst (λ (k : ℕ). Track n m rows q s k) same t
  track_all (puts p n' m' rows' ∷ cs) t h = track_all cs (track_put t p n' m' rows') h
  track_all (asks p ∷ cs) t h = track_all cs t h
  track_all (withdraws p ∷ cs) {s} {left} t h = go (eqb p q) refl h (λ k e. track_all cs (track_withdraw t p e) k)
    where
      go : (b : Bool) → eqb p q ≡ b → (elim b [ true ↦ false | false ↦ keeps q cs ]) ≡ true
          → (keeps q cs ≡ true → (p ≡ q → ⊥) → Track n m rows q (after_all (withdraw s p) cs) (left - step_count cs))
          → Track n m rows q (after_all (withdraw s p) cs) (left - step_count cs)
      go true e k rec = absurd (false≢true k)
      go false e k rec = rec k (eqb-false p q e)
  track_all (steps ∷ cs) {s} {left} t h =
      let same : left - 1 - step_count cs ≡ left - suc (step_count cs) = omega arith in
      subst (λ (k : ℕ). Track n m rows q (after_all (step s) cs) k) same (track_all cs (track_step t) h)
  track_all (runs k ∷ cs) {s} {left} t h =
      let same : left - k - step_count cs ≡ left - (k + step_count cs) = omega arith in
      subst (λ (j : ℕ). Track n m rows q (after_all (run s k) cs) j) same (track_all cs (track_steps k t) h)

-- ---- the server has eight places, whatever was called
size_step : (s : ServerState) (z : ℕ) → length s.spots ≡ 8 → length (serve s z).spots ≡ 8
size_step s zero h = h
size_step s (suc i) h = length-set s.spots i _ ∙ h

size_steps : (s : ServerState) (k : ℕ) → length s.spots ≡ 8 → length (run s k).spots ≡ 8
unfolding run step
size_steps s zero h = h
size_steps s (suc k) h = size_step (run s k) (served (run s k)) (size_steps s k h)

abbrev Eight : ServerState → Type 0
Eight s = length s.spots ≡ 8

size_one : (s : ServerState) → Eight s → (c : Call) → Eight (after_call s c)
unfolding after_call put withdraw step
size_one s h (puts p n m rows) = after_cases (first (put_checks s p n m rows)) _ s Eight (λ e. length-set s.spots (p - 1) _ ∙ h) h
size_one s h (asks p) = h
size_one s h (withdraws p) = after_cases (first (held_checks s p)) _ s Eight (λ e. length-set s.spots (p - 1) _ ∙ h) h
size_one s h steps = size_step s (served s) h
size_one s h (runs k) = size_steps s k h

pub size_all : (calls : List Call) (s : ServerState) → length s.spots ≡ 8 → length (after_all s calls).spots ≡ 8
unfolding after_all
size_all calls s h = run_keeps after_call Eight size_one s h calls

pub size_start : length start.spots ≡ 8
unfolding start
size_start = length_list_below 8 (λ i. empty)

-- ---- the promises
module _ (n m : ℕ) (rows : List ℕ) (q : ℕ) where
  -- putting examines none, and 8 steps for each combination are left
  track_begins : (s : ServerState) → length s.spots ≡ 8 → first (put_checks s q n m rows) ≡ (Ok tt) → Track n m rows q (put s q n m rows) (8 * total m)
  unfolding put
  track_begins s h e = subst (λ (k : Result ⊤ Refusal). Track n m rows q (after k new s) (8 * total m)) (sym e) record {
    inputs = range_true 1 8 n box.n_low box.n_high;
    outputs = range_true 1 16 m box.m_low (put_narrow s q n m rows e);
    size = length-set s.spots (q - 1) _ ∙ h;
    low = low;
    high = high;
    count = 0;
    few = omega arith;
    spot = get_or-set_same s.spots (q - 1) _ empty (omega (arith, low, high));
    away = a.0;
    near = a.1;
    there = a.2;
    bound = λ l. omega (arith, a.1);
  }
    where
      new : ServerState
      new = with_spot s q (holds (analysis_of n m rows 0))

      box : Box n m rows
      box = put_box s q n m rows e

      low : 1 ≤ q
      low = put_low s q n m rows e

      high : q ≤ 8
      high = put_high s q n m rows e

      a : (j : ℕ) × (j < 8) × ((s.last + j) % 8 + 1 ≡ q)
      a = somewhere s.last q low high

  -- what asking says, from what stands there
  held_accepted : (s : ServerState) → 1 ≤ q → q ≤ 8 → is_taken (spot_at s q) ≡ true → first (held_checks s q) ≡ (Ok tt)
  unfolding held_checks
  held_accepted s l h e = sym (found (skip (range_true 1 8 q l h) (skip e end)))

  ask_held : (s : ServerState) (x : Spot) → 1 ≤ q → q ≤ 8 → spot_at s q ≡ x → is_taken x ≡ true → ask s q ≡ progress_in x
  unfolding ask
  ask_held s x l h e k = ap (λ (r : Result ⊤ Refusal). progress_after r (spot_at s q)) (held_accepted s l h (ap is_taken e ∙ k)) ∙ ap progress_in e

  -- After the box was put, and calls none of which withdraws it: k of its combinations were examined, and what is held of it is the best
  -- pair among exactly those.
  module _ (before calls : List Call) (accepted : first (put_checks (after_all start before) q n m rows) ≡ (Ok tt)) (kept : keeps q calls ≡ true) where
    abbrev then : ServerState
    then = after_all (put (after_all start before) q n m rows) calls

    track : Track n m rows q then (8 * total m - step_count calls)
    track = track_all calls (track_begins (after_all start before) (size_all before start size_start) accepted) kept

    pub examined : ℕ
    examined = track.count

    pub examined_few : examined ≤ 2 ^ m - 1
    unfolding examined
    examined_few = omega (arith, track.few)

    pub held : spot_at then q ≡ holds (analysis_of n m rows examined)
    unfolding examined
    held = track.spot

    answer : ask then q ≡ progress_in (holds (analysis_of n m rows examined))
    answer = ask_held then (holds (analysis_of n m rows examined)) track.low track.high held refl

    is_more : (k : ℕ) → more (analysis_of n m rows k) ≡ ltb k (total m)
    is_more k = analysis_more n m rows k track.inputs track.outputs

    standing_more : (k : ℕ) → k < total m → progress_in (holds (analysis_of n m rows k)) ≡ still_unfinished
    standing_more k l = ap (λ (t : Bool). progress_of t (analysis_of n m rows k).found) (is_more k ∙ lt-ltb k (total m) l)

    -- once all were examined, what is held is the plain call's
    found_all : (k : ℕ) → k ≡ total m → (analysis_of n m rows k).found ≡ nonlinearity n m rows m
    unfolding analysis_of
    found_all k e =
        let some : 1 ≤ k = omega (arith, pow-lt (range_low 1 16 m track.outputs)) in
        held_among n m rows k some ∙ ap (among n m rows) e ∙ among_all n m rows

    standing_all : (k : ℕ) → k ≡ total m → progress_in (holds (analysis_of n m rows k)) ≡ finished (shown (nonlinearity n m rows m))
    standing_all k e =
        ap (λ (t : Bool). progress_of t (analysis_of n m rows k).found) (is_more k ∙ le-ltb k (total m) (omega arith))
        ∙ ap (λ (c : Candidate). finished (shown c)) (found_all k e)

    -- asking says "unfinished" exactly until all were examined
    pub unfinished_until : (ask then q ≡ still_unfinished) ↔ (examined < 2 ^ m - 1)
    unfinished_until = (
      λ e. go e (dec_lt examined (total m)),
      λ l. answer ∙ standing_more examined (omega arith),
    )
      where
        go : ask then q ≡ still_unfinished → Dec (examined < total m) → examined < 2 ^ m - 1
        go e (yes l) = omega arith
        go e (no l) =
            let all : examined ≡ total m = omega (arith, examined_few) in
            let z : ◌≡◌ {A = ℕ} 0 1 = cc (answer, standing_all examined all) in
            absurd (omega arith)

    -- and then the figure and the witness of the plain call
    pub result_then : examined ≡ 2 ^ m - 1 → ask then q ≡ finished (shown (nonlinearity n m rows m))
    result_then e = answer ∙ standing_all examined (omega arith)

    -- within 8 × (2^m − 1) steps
    pub finished_within : 8 * (2 ^ m - 1) ≤ step_count calls → ask then q ≡ finished (shown (nonlinearity n m rows m))
    unfolding examined
    finished_within h = result_then (all (dec_lt track.count (total m)))
      where
        all : Dec (track.count < total m) → track.count ≡ 2 ^ m - 1
        all (yes l) = absurd (omega (arith, track.bound l))
        all (no l) = omega (arith, track.few)

    -- a finished box keeps its result, whatever is called but its withdrawal
    pub keeps_result : (later : List Call) → keeps q later ≡ true → examined ≡ 2 ^ m - 1 → ask (after_all then later) q ≡ finished (shown (nonlinearity n m rows m))
    unfolding examined
    keeps_result later k e = ask_held (after_all then later) _ end.low end.high end.spot refl ∙ standing_all end.count (all (dec_lt end.count (total m)))
      where
        end : Track n m rows q (after_all then later) (0 - step_count later)
        end = track_all later (track_done track 0 (λ l. omega arith)) k

        all : Dec (end.count < total m) → end.count ≡ total m
        all (yes l) = absurd (omega (arith, end.bound l))
        all (no l) = omega (arith, end.few)

    -- what asking answers once, it answers later
    pub result_kept : (given : List ℕ) → ask then q ≡ finished given → (later : List Call) → keeps q later ≡ true → ask (after_all then later) q ≡ finished given
    result_kept given h later k = go (dec_lt examined (total m))
      where
        is_unfinished : Progress → Bool
        is_unfinished (declined j) = false
        is_unfinished still_unfinished = true
        is_unfinished (finished given) = false

        go : Dec (examined < total m) → ask (after_all then later) q ≡ finished given
        go (yes l) = absurd (false≢true (sym (ap is_unfinished h) ∙ ap is_unfinished (unfinished_until.1 l)))
        go (no l) = let all : examined ≡ total m = omega (arith, examined_few) in keeps_result later k all ∙ sym (result_then all) ∙ h

-- ---- the other promises
-- every place is empty at the start
pub begins_empty : (q : ℕ) → spot_at start q ≡ empty
unfolding start
begins_empty q = go (dec_lt (q - 1) 8)
  where
    go : Dec (q - 1 < 8) → get_or (list_below 8 (λ i. empty)) (q - 1) empty ≡ empty
    go (yes l) = get_or_list_below 8 (λ i. empty) (q - 1) empty l
    go (no l) =
        let far : length (list_below 8 (λ i. empty)) ≤ q - 1 = omega (arith, length_list_below 8 (λ i. empty)) in
        get_or-eq_default (list_below 8 (λ i. empty)) empty far

-- a step serves the first unfinished place in the circle
pub step_serves : (s : ServerState) (k : ℕ) → k < 8 → unfinished (spot_at s ((s.last + k) % 8 + 1)) ≡ true
    → ((h : ℕ) → h < k → unfinished (spot_at s ((s.last + h) % 8 + 1)) ≡ false)
    → step s ≡ serve s ((s.last + k) % 8 + 1)
unfolding step served round_robin list_below
step_serves s k l e none =
    ap (serve s) (found_first (λ p. unfinished (spot_at s p)) (λ k. (s.last + k) % 8 + 1) 0 8 k (omega arith) (omega arith) e (λ h a b. none h b))

-- the plain call with the limit m gives that figure and witness
pub plain_reply : (s : ServerState) (n m : ℕ) (rows : List ℕ) (q : ℕ) → first (put_checks s q n m rows) ≡ (Ok tt)
    → nonlinearity_reply n m rows m ≡ figures (shown (nonlinearity n m rows m))
plain_reply s n m rows q h =
    let b = put_box s q n m rows h in
    sym (reply_accepted (limit_accepted n m rows m (record { box = b; i_low = b.m_low; i_high = le_refl m })) (shown (nonlinearity n m rows m)))

-- with none unfinished no place is served, and a step does nothing
pub served_none : (s : ServerState) → ((p : ℕ) → unfinished (spot_at s p) ≡ false) → served s ≡ 0
unfolding served round_robin list_below
served_none s h = found_none (λ p. unfinished (spot_at s p)) (λ k. (s.last + k) % 8 + 1) 0 8 (λ k a b. h ((s.last + k) % 8 + 1))

pub step_idle : (s : ServerState) → ((p : ℕ) → unfinished (spot_at s p) ≡ false) → step s ≡ s
unfolding step
step_idle s h = ap (serve s) (served_none s h)

-- a withdrawn place is empty again
pub withdrawn_empty : (s : ServerState) (q : ℕ) → length s.spots ≡ 8 → first (held_checks s q) ≡ (Ok tt) → spot_at (withdraw s q) q ≡ empty
unfolding withdraw held_checks
withdrawn_empty s q h e =
    let p = passed (held_checks s q) e in
    ap (λ (k : Result ⊤ Refusal). spot_at (after k (with_spot s q empty) s) q) e
    ∙ get_or-set_same s.spots (q - 1) empty empty (omega (arith, range_low 1 8 q p.0, range_high 1 8 q p.0))
