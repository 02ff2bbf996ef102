-- What an exported call returns and leaves, by the lines of its table: from its checks, or from what the call says that it wraps. Assumes
-- nothing.
use Rattle.std.specs.Prelude.{Result, Ok, Err, ⊤}
use Rattle.refusals.specs.declared.Refusal.{Refusal}
use Prim.Native.Nat.{ℕ, ◌-◌, ◌^◌, ◌≤◌, ◌<◌}
use mathlib.Core.Path.{◌≡◌, refl, sym, ap, ◌∙◌, subst}
use mathlib.Core.Logic.{◌⊎◌, inl, inr, ⊎_elim}
use mathlib.Core.Bool.{Bool, true, false}
use mathlib.Core.List.{List, [], ◌∷◌, ◌++◌}
use native.Mathlib.Decide.{ℕ_discrete}
use borrow.Author.Tests.{eq-eqb, ne_eqb}
use lib.Dec.{eqb}
use lib.ListN.{length, get_or}
use Rattle.refusals.specs.Table.{Check, first, Reply, figures, refusal, number, reply_after, after, box_checks, limit_checks, Wrote}
use Rattle.refusals.specs.Statements.{TableLine, ◌unless_that◌, FirstMet, NoneMet, Answers, Writes, Between, box_lines}
use Rattle.refusals.proofs.Means.{Means, end, line, append, accepted_by, answers, box_means, range, same, less, at_most}
use Rattle.refusals.proofs.Replies.{no_figures}
use Rattle.differential.specs.XorTable.{largest_cells}
use Rattle.nearest.specs.NearestPairs.{nearest_pairs}
use Rattle.catalogue.specs.Format.{count}
use Rattle.catalogue.specs.Rules.{Rules}
use Rattle.catalogue.specs.Statements.{Free}
use Rattle.boolean.specs.Functions.{at}
use Rattle.design.specs.declared.Design.{Design}
use Rattle.design.specs.Calls.{design_rows, state_of_design}
use Rattle.server.specs.declared.Place.{Place}
use Rattle.server.specs.declared.Server.{Server}
use Rattle.server.specs.Model.{Analysis, Spot, empty, holds, Progress, spot_at, more, progress_in, progress_of, progress_after, held_checks, ask}
use Rattle.server.specs.Calls.{state_of_server, analysis_in, spot_of, spot_in, ServerTold}
use Rattle.server.proofs.Places.{nowhere, spots_at}
use Rattle.border.specs.Border.{status, lent, figures_after, WroteOut, FiguresOut}
use Rattle.satmegwo.specs.Exports.{cells_checks, nearest_checks, read_box_checks, add_record_checks, sheet_checks}
use Rattle.satmegwo_design.specs.Exports.{read_design_checks, ReadOut}
use Rattle.satmegwo_server.specs.declared.Outcome.{Outcome}
use Rattle.satmegwo_server.specs.Exports.{NumberedCall, progress_reply, ToldOut}
use Rattle.claims.specs.Lines.{file_lines}
use Rattle.claims.specs.Statements.{ReturnsNumber, Returns, progress_figures}
use Rattle.claims.proofs.Calls as calls

-- ---- a number, from what is said
pub numbered : (said : Reply) (given : List ℕ) (lines : List TableLine) (returned : ℕ) → Answers said given lines → returned ≡ status said
    → ReturnsNumber returned lines
unfolding status
numbered said given lines returned a e = record {
  done = λ n. e ∙ ap status (a.figures_exactly.1 n);
  refused = λ k f. e ∙ ap status ((a.refused_exactly k).1 f);
  one_of_them = ⊎_elim (λ s. inl (a.figures_exactly.0 s)) (λ t. inr (t.0, (a.refused_exactly t.0).0 t.1)) a.one_of_them;
}

pub check_box_out : (n m : ℕ) (rows : List ℕ) → ReturnsNumber (status (reply_after (first (box_checks n m rows)) [])) (box_lines 32 n m rows [])
check_box_out n m rows = numbered (reply_after (first (box_checks n m rows)) []) [] _ _ (answers (calls.box_call 32 n m rows) []) refl

-- whatever figures are said beside it
status_any : (k : Result ⊤ Refusal) (given : List ℕ) → status (reply_after k []) ≡ status (reply_after k given)
unfolding status
status_any (Ok tt) given = refl
status_any (Err e) given = refl

-- ---- an array, by the checks
module _ {A : Type 0} {result old new : List A} {lines : List TableLine} where
  leaves : (k : Result ⊤ Refusal) (given : List ℕ) {returned : ℕ} → Answers (reply_after k given) given lines → returned ≡ status (reply_after k given)
      → new ≡ after k result old → Returns returned lines result old new
  leaves (Ok tt) given a e c = record {
    number = numbered (figures given) given lines _ a e;
    result_left = λ n. c;
    nothing_changed = λ k f. absurd (no_figures ((a.refused_exactly k).1 f));
  }
  leaves (Err r) given a e c = record {
    number = numbered (refusal (number r)) given lines _ a e;
    result_left = λ n. absurd (no_figures (sym (a.figures_exactly.1 n)));
    nothing_changed = λ k f. c;
  }

  -- from the checks that are the lines
  pub returns : {checks : List Check} → Means checks lines → {returned : ℕ} → WroteOut checks result old returned new
      → Returns returned lines result old new
  returns {checks} t w = leaves (first checks) [] (answers t []) w.number w.content

  -- and from the outcome of the call that is wrapped
  pub wrote_out : {checks : List Check} {given : List ℕ} {left : List A} {said : Reply} {returned : ℕ} → Wrote checks given result old said left
      → Writes said given lines result old left → WroteOut checks result old returned new → Returns returned lines result old new
  wrote_out {checks} {given} w l o =
      leaves (first checks) given (subst (λ (s : Reply). Answers s given lines) w.reply l.answers)
      (o.number ∙ status_any (first checks) given) o.content

-- ---- lines after lines
none_before : (ls ks : List TableLine) → NoneMet (ls ++ ks) → NoneMet ls × NoneMet ks
none_before [] ks n = (tt, n)
none_before ((j unless_that P) ∷ ls) ks n = let t = none_before ls ks n.1 in ((n.0, t.0), t.1)

none_both : (ls ks : List TableLine) → NoneMet ls → NoneMet ks → NoneMet (ls ++ ks)
none_both [] ks n m = m
none_both ((j unless_that P) ∷ ls) ks n m = (n.0, none_both ls ks n.1 m)

met_before : (k : ℕ) (ls ks : List TableLine) → FirstMet k ls → FirstMet k (ls ++ ks)
met_before k [] ks f = absurd f
met_before k ((j unless_that P) ∷ ls) ks f = ⊎_elim (λ t. inl t) (λ t. inr (t.0, met_before k ls ks t.1)) f

met_behind : (k : ℕ) (ls ks : List TableLine) → NoneMet ls → FirstMet k ks → FirstMet k (ls ++ ks)
met_behind k [] ks n f = f
met_behind k ((j unless_that P) ∷ ls) ks n f = inr (n.0, met_behind k ls ks n.1 f)

met_either : (k : ℕ) (ls ks : List TableLine) → FirstMet k (ls ++ ks) → FirstMet k ls ⊎ (NoneMet ls × FirstMet k ks)
met_either k [] ks f = inr (tt, f)
met_either k ((j unless_that P) ∷ ls) ks f =
    ⊎_elim (λ t. inl (inl t)) (λ t. ⊎_elim (λ g. inl (inr (t.0, g))) (λ u. inr ((t.0, u.0), u.1)) (met_either k ls ks t.1)) f

-- ---- figures that go to a lent array: its length is looked at last
module _ (given old : List ℕ) where
  abbrev fits : Type 0
  fits = length old ≡ length given

  abbrev last : List TableLine
  last = (7 unless_that fits) ∷ []

  lent_fits : fits → lent (figures given) (length old) ≡ figures given
  unfolding lent
  lent_fits e = ap (λ (b : Bool). elim b [ true ↦ figures given | false ↦ refusal 7 ]) (eq-eqb (length old) (length given) e)

  lent_short : ¬ fits → lent (figures given) (length old) ≡ refusal 7
  unfolding lent
  lent_short e = ap (λ (b : Bool). elim b [ true ↦ figures given | false ↦ refusal 7 ]) (ne_eqb (length old) (length given) e)

  lent_refused : (k : ℕ) → lent (refusal k) (length old) ≡ refusal k
  unfolding lent
  lent_refused k = refl

  pub figures_out : {reply : Reply} {lines : List TableLine} {new : List ℕ} {returned : ℕ} → Answers reply given lines
      → FiguresOut reply old returned new → Returns returned (lines ++ ((7 unless_that (length old ≡ length given)) ∷ [])) given old new
  unfolding status figures_after
  figures_out {reply} {lines} {new} {returned} a o = record {
    number = record {
      done = λ n. let t = none_before lines last n in o.number ∙ ap status (done t);
      refused = λ k f. o.number ∙ ap status (refused k f);
      one_of_them = ⊎_elim (λ s. in_time (a.figures_exactly.0 s) (ℕ_discrete (length old) (length given)))
          (λ t. inr (t.0, met_before t.0 lines last ((a.refused_exactly t.0).0 t.1))) a.one_of_them;
    };
    result_left = λ n. let t = none_before lines last n in o.content ∙ ap (λ (r : Reply). figures_after r old) (done t);
    nothing_changed = λ k f. o.content ∙ ap (λ (r : Reply). figures_after r old) (refused k f);
  }
    where
      done : NoneMet lines × NoneMet last → lent reply (length old) ≡ figures given
      done t = ap (λ (r : Reply). lent r (length old)) (a.figures_exactly.1 t.0) ∙ lent_fits t.1.0

      refused : (k : ℕ) → FirstMet k (lines ++ last) → lent reply (length old) ≡ refusal k
      refused k f =
          ⊎_elim (λ g. ap (λ (r : Reply). lent r (length old)) ((a.refused_exactly k).1 g) ∙ lent_refused k)
          (λ t. ⊎_elim (λ u. ap (λ (r : Reply). lent r (length old)) (a.figures_exactly.1 t.0) ∙ lent_short u.1 ∙ ap refusal (sym u.0))
          (λ u. absurd u.1) t.1) (met_either k lines last f)

      in_time : NoneMet lines → Dec fits
          → NoneMet (lines ++ last) ⊎ ((k : ℕ) × FirstMet k (lines ++ last))
      in_time n (yes e) = inl (none_both lines last n (e, tt))
      in_time n (no e) = inr (7, met_behind 7 lines last n (inl (refl, e)))

-- ---- the checks that only an export has
pub cells_means : (n m : ℕ) (rows : List ℕ) (room listed : ℕ)
    → Means (cells_checks n m rows room listed)
    (box_lines 32 n m rows ((7 unless_that (room ≡ 1)) ∷ (9 unless_that (length (largest_cells n m rows) ≤ listed)) ∷ []))
unfolding cells_checks
cells_means n m rows room listed =
    box_means 32 n m rows (λ a b c. line (same room 1) (λ p. line (at_most (length (largest_cells n m rows)) listed) (λ q. end)))

pub pairs_means : (n m : ℕ) (rows : List ℕ) (i room listed : ℕ)
    → Means (nearest_checks n m rows i room listed)
    (box_lines 32 n m rows
    ((6 unless_that Between 1 m i) ∷ (7 unless_that (room ≡ 1)) ∷ (9 unless_that (length (nearest_pairs n m rows i) ≤ listed)) ∷ []))
unfolding nearest_checks limit_checks
pairs_means n m rows i room listed =
    box_means 32 n m rows (λ a b c. line (range 1 m i)
    (λ o. line (same room 1) (λ p. line (at_most (length (nearest_pairs n m rows i)) listed) (λ q. end))))

pub read_box_means : (file : List ℕ) (rows room : ℕ)
    → Means (read_box_checks file rows room) (file_lines file ((7 unless_that (rows ≡ 2 ^ at file 0)) ∷ (7 unless_that (room ≡ 2)) ∷ []))
unfolding read_box_checks
read_box_means file rows room = append (calls.file_call file rows) (λ n. line (same room 2) (λ p. end))

pub add_record_means : (b file : List ℕ) (room : ℕ)
    → Means (add_record_checks b file room)
    ((13 unless_that Rules b) ∷ file_lines file
    ((7 unless_that (room ≡ 1)) ∷ (14 unless_that (count b < 64)) ∷ (14 unless_that ((p : ℕ) × Free b p (length file))) ∷ []))
unfolding add_record_checks
add_record_means b file room =
    append (calls.offered b file) (λ none. line (same room 1) (λ o. line (less (count b) 64)
    (λ few. line (calls.gap_free b file (accepted_by (calls.offered b file) none) few) (λ g. end))))

pub sheet_means : (text room : ℕ) → Means (sheet_checks text room) ((7 unless_that (text ≡ 332)) ∷ (7 unless_that (room ≡ 1)) ∷ [])
sheet_means text room = line (same text 332) (λ p. line (same room 1) (λ q. end))

-- ---- a design, for C
read_means : (d : Design) (room listed : ℕ)
    → Means (read_design_checks (state_of_design d) room listed)
    ((7 unless_that Between 1 8 d.n) ∷ (7 unless_that (room ≡ 2 ^ d.n)) ∷ (7 unless_that (listed ≡ 2)) ∷ [])
unfolding read_design_checks
read_means d room listed = append (calls.design_read_call d room) (λ n. line (same listed 2) (λ p. end))

pub read_out : (d : Design) (old_rows old_figures new_rows new_figures : List ℕ) (returned : ℕ)
    → ReadOut d old_rows old_figures returned new_rows new_figures
    → let lines : List TableLine = (7 unless_that Between 1 8 d.n) ∷ (7 unless_that (length old_rows ≡ 2 ^ d.n))
    ∷ (7 unless_that (length old_figures ≡ 2)) ∷ [] in
    Returns returned lines (design_rows d) old_rows new_rows × Returns returned lines (d.n ∷ d.m ∷ []) old_figures new_figures
read_out d old_rows old_figures new_rows new_figures returned o =
    let given : List ℕ = d.n ∷ d.m ∷ [] in
    let checks : List Check = read_design_checks (state_of_design d) (length old_rows) (length old_figures) in
    let a = answers (read_means d (length old_rows) (length old_figures)) given in
    (leaves (first checks) given a o.number o.box, leaves (first checks) given a o.number o.widths)

-- ---- a server, for C
pub numbered_out : (call : Reply → Server → Type 0) (lines : List TableLine) (r : Outcome)
    → ((said : Reply) → call said r.server → Answers said [] lines) → NumberedCall call r → ReturnsNumber r.status lines
numbered_out call lines r h o = numbered o.said [] lines r.status (h o.said o.outcome) o.number

-- five figures are shown of every place
five_shown : (left : Bool) (p : Place) → length (progress_figures (progress_of left (analysis_in p).found)) ≡ 5
five_shown true p = refl
five_shown false p = refl

five_in : (taken : Bool) (p : Place) → length (progress_figures (progress_in (spot_of taken (analysis_in p)))) ≡ 5
five_in true p = five_shown (more (analysis_in p)) p
five_in false p = refl

five_asked : (k : Result ⊤ Refusal) (p : Place) → length (progress_figures (progress_after k (spot_in p))) ≡ 5
unfolding spot_in
five_asked (Ok tt) p = five_in (eqb p.taken 1) p
five_asked (Err e) p = refl

five : (s : Server) (place : ℕ) (said : Progress) → ServerTold s place said → length (progress_figures said) ≡ 5
unfolding ask
five s place said told =
    ap (λ (t : Progress). length (progress_figures t)) told.standing
    ∙ ap (λ (x : Spot). length (progress_figures (progress_after (first (held_checks (state_of_server s) place)) x))) (spots_at s.places (place - 1))
    ∙ five_asked (first (held_checks (state_of_server s) place)) (get_or s.places (place - 1) nowhere)

-- and they are those that its reply has
shown_in : (left : Bool) (a : Analysis) → progress_reply (progress_of left a.found) ≡ figures (progress_figures (progress_of left a.found))
shown_in true a = refl
shown_in false a = refl

shown_asked : (k : Result ⊤ Refusal) (x : Spot) → progress_reply (progress_after k x) ≡ reply_after k (progress_figures (progress_after k x))
shown_asked (Ok tt) empty = refl
shown_asked (Ok tt) (holds a) = shown_in (more a) a
shown_asked (Err e) empty = refl
shown_asked (Err e) (holds a) = refl

other_figures : (k : Result ⊤ Refusal) (given : List ℕ) (lines : List TableLine) → Answers (reply_after k []) [] lines → Answers (reply_after k given) given lines
other_figures (Ok tt) given lines a = record {
  figures_exactly = (λ e. a.figures_exactly.0 refl, λ n. refl);
  refused_exactly = λ k. (λ e. absurd (no_figures e), λ f. absurd (no_figures ((a.refused_exactly k).1 f)));
  one_of_them = inl refl;
}
other_figures (Err r) given lines a = record {
  figures_exactly = (λ e. absurd (no_figures (sym e)), λ n. absurd (no_figures (sym (a.figures_exactly.1 n))));
  refused_exactly = a.refused_exactly;
  one_of_them = inr (number r, refl);
}

abbrev ask_lines : Server → ℕ → List TableLine
ask_lines s place = (18 unless_that Between 1 8 place) ∷ (19 unless_that ((a : Analysis) × (spot_at (state_of_server s) place ≡ holds a))) ∷ []

asked_answers : (s : Server) (place : ℕ) → let said = ask (state_of_server s) place in Answers (progress_reply said) (progress_figures said) (ask_lines s place)
unfolding ask
asked_answers s place =
    let k = first (held_checks (state_of_server s) place) in
    let x = spot_at (state_of_server s) place in
    subst (λ (r : Reply). Answers r (progress_figures (progress_after k x)) (ask_lines s place)) (sym (shown_asked k x))
    (other_figures k (progress_figures (progress_after k x)) (ask_lines s place) (answers (calls.server_held_call (state_of_server s) place) []))

pub told_out : (s : Server) (place : ℕ) (old new : List ℕ) (returned : ℕ) → ToldOut s place old returned new → (said : Progress)
    → ServerTold s place said
    → Returns returned ((18 unless_that Between 1 8 place) ∷ (19 unless_that ((a : Analysis) × (spot_at (state_of_server s) place ≡ holds a)))
    ∷ (7 unless_that (length old ≡ 5)) ∷ []) (progress_figures said) old new
told_out s place old new returned o said told =
    subst (λ (k : ℕ). Returns returned ((18 unless_that Between 1 8 place)
    ∷ (19 unless_that ((a : Analysis) × (spot_at (state_of_server s) place ≡ holds a))) ∷ (7 unless_that (length old ≡ k)) ∷ []) (progress_figures said) old new)
    (five s place said told)
    (figures_out (progress_figures said) old
    (subst (λ (p : Progress). Answers (progress_reply p) (progress_figures p) (ask_lines s place)) (sym told.standing) (asked_answers s place))
    (subst (λ (p : Progress). FiguresOut (progress_reply p) old returned new) (o.outcome.standing ∙ sym told.standing) o.out))
