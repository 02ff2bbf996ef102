-- Adding: what its checks find, and what a file that goes into a gap leaves. Assumes nothing.
use Rattle.std.specs.Prelude.{Ok, Err}
use Prim.Native.Nat.{ℕ, ◌+◌, ◌-◌, ◌*◌, ◌≤◌, ◌<◌}
use mathlib.Core.Path.{◌≡◌, refl, sym, ap, ap₂, ◌∙◌, subst}
use mathlib.Core.Bool.{Bool, true, false}
use mathlib.Core.List.{List, ◌∷◌, ◌++◌}
use native.Mathlib.Omega.{arith}
use borrow.Author.Tests.{lt-ltb, le-ltb, ltb-true}
use lib.ListN.{length, take, drop, replicate, take-append-drop, replicate-append-replicate}
use lib.Seq.{sets, take-take, length-take-le}
use Rattle.refusals.specs.Table.{first}
use Rattle.refusals.specs.declared.Refusal.{Refusal}
use Rattle.refusals.specs.declared.Refusal.TheVariants.{Catalogue, NoRoom}
use Rattle.refusals.proofs.Checks.{found_after, skip, stop, end, first_passed, first_refused, passed, accepted_before, accepted_after}
use Rattle.boxfile.specs.File.{file_found}
use Rattle.catalogue.specs.declared.Gap.{Gap}
use Rattle.catalogue.specs.Format.{part, count, records, valid, build}
use Rattle.catalogue.specs.Work.{place_from, opened}
use Rattle.catalogue.specs.Calls.{gap_for, is_gap, offered_checks, add_checks, added_at}
use Rattle.catalogue.specs.Statements.{AllBytes, LieInOrder}
use Rattle.catalogue.proofs.Built.{valid_says, built, records_fit, length_records, length_part, fits_inside}
use Rattle.catalogue.proofs.Bodies.{ends}
use Rattle.catalogue.proofs.Edits.{add_is}
use Rattle.catalogue.proofs.GapSearch.{Found, starts, lowest_found}
use Rattle.boolean.proofs.Every.{zeros_are}
use Rattle.std.proofs.Common.{Option, Some, None}

module _ (b file : List ℕ) where
  -- a file that is offered: the catalogue is valid and the file accepted
  pub offered : valid b ≡ true → file_found file ≡ (Ok tt) → first (offered_checks b file) ≡ (Ok tt)
  unfolding offered_checks file_found
  offered whole good = first_passed Catalogue (valid b) _ whole ∙ good

  pub offered_whole : first (offered_checks b file) ≡ (Ok tt) → valid b ≡ true
  unfolding offered_checks
  offered_whole ok = (passed (offered_checks b file) ok).0

  pub offered_good : first (offered_checks b file) ≡ (Ok tt) → file_found file ≡ (Ok tt)
  unfolding offered_checks file_found
  offered_good ok = sym (first_passed Catalogue (valid b) _ (offered_whole ok)) ∙ ok

  -- what adding finds
  pub add_refused : {e : Refusal} → first (offered_checks b file) ≡ Err e → first (add_checks b file) ≡ Err e
  unfolding add_checks
  add_refused h = first_refused (offered_checks b file) _ h

  module _ (ok : first (offered_checks b file) ≡ (Ok tt)) where
    pub add_full : 64 ≤ count b → first (add_checks b file) ≡ Err NoRoom
    unfolding add_checks
    add_full h = sym (found_after (offered_checks b file) ok (stop (le-ltb (count b) 64 h)))

    pub add_nowhere : count b < 64 → gap_for b file ≡ None → first (add_checks b file) ≡ Err NoRoom
    unfolding add_checks
    add_nowhere h e = sym (found_after (offered_checks b file) ok (skip (lt-ltb (count b) 64 h) (stop (ap is_gap e))))

    pub add_accepted : {index start : ℕ} → count b < 64 → gap_for b file ≡ starts index start → first (add_checks b file) ≡ (Ok tt)
    unfolding add_checks
    add_accepted h e = sym (found_after (offered_checks b file) ok (skip (lt-ltb (count b) 64 h) (skip (ap is_gap e) end)))

  -- what an accepted addition says
  pub record Accepts : Type 0 where
    pub whole : valid b ≡ true
    pub good : file_found file ≡ (Ok tt)
    pub few : count b < 64
    pub index : ℕ
    pub start : ℕ
    pub gap : gap_for b file ≡ starts index start

  is_gap_lem : (g : Option Gap) → is_gap g ≡ true → (index : ℕ) × (start : ℕ) × (g ≡ starts index start)
  is_gap_lem (Some gap) h = (gap.index, gap.start, refl)
  is_gap_lem None h = absurd (let z : ◌≡◌ {A = Bool} false true = h in let y : ◌≡◌ {A = ℕ} 0 1 = cc in omega arith)

  pub accepts : first (add_checks b file) ≡ (Ok tt) → Accepts
  unfolding add_checks
  accepts h =
      let ok = accepted_before (offered_checks b file) _ h in
      let p = passed _ (accepted_after (offered_checks b file) _ h) in
      let g = is_gap_lem (gap_for b file) p.1.0 in
      record { whole = offered_whole ok; good = offered_good ok; few = ltb-true (count b) 64 p.0; index = g.0; start = g.1; gap = g.2 }

  module _ (whole : valid b ≡ true) where
    -- the place behind those in use is zero
    pub next_place : count b < 64 → part (4 * count b + 2) 4 b ≡ replicate 4 0
    next_place h =
        let v = valid_says b whole in
        let n = count b in
        let m = 4 * (64 - (n + 1)) in
        let e : 4 * (64 - n) ≡ 4 + m = omega arith in
        let zeros : part (4 * n + 2) (4 * (64 - n)) b ≡ replicate (4 * (64 - n)) 0 =
        zeros_are _ v.unused ∙ ap (λ (k : ℕ). replicate k 0) (length_part (4 * n + 2) (4 * (64 - n)) b (omega (arith, v.low))) in
        sym (take-take 4 (4 + m) (drop (4 * n + 2) b) (omega arith))
        ∙ ap (λ (k : ℕ). take 4 (take k (drop (4 * n + 2) b))) (sym e) ∙ ap (take 4) (zeros ∙ ap (λ (k : ℕ). replicate k 0) e ∙ sym (replicate-append-replicate 4 m 0))

    -- a gap that is found
    module _ {index start : ℕ} (e : gap_for b file ≡ starts index start) where
      pub gap_found : Found (length file) (length b) 0 258 (records b) index start
      unfolding gap_for
      gap_found = lowest_found (length file) (length b) 0 258 (records b) index start (records_fit b whole) e

      pub gap_index_lem : index ≤ count b
      gap_index_lem = let g = gap_found in omega (arith, g.counts, g.among, length_records b)

      pub gap_room : start + length file ≤ length b
      gap_room = let g = gap_found in fits_inside (start + length file) (length b) (drop g.before (records b)) g.room

      pub added_is : AllBytes b → (n : ℕ) → n ≡ count b → n < 64
          → sets (opened n index (place_from start (length file)) b) start file ≡ build (length b) (added_at (gap_for b file) file (records b))
      added_is small n en few =
          let g = gap_found in
          let rs = records b in
          let j = g.before in
          let ps = take j rs in
          let ss = drop j rs in
          let join : ps ++ ss ≡ rs = take-append-drop j rs in
          let ji : j ≡ index = omega (arith, g.counts) in
          let lk : length ps ≡ index = length-take-le j rs g.among ∙ ji in
          let ln : length (ps ++ ss) ≡ n = ap length join ∙ length_records b ∙ sym en in
          let f : LieInOrder 258 (length b) (ps ++ ss) = subst (LieInOrder 258 (length b)) (sym join) (records_fit b whole) in
          let room : LieInOrder (ends 258 ps + length file) (length b) ss = subst (λ (k : ℕ). LieInOrder (k + length file) (length b) ss) g.begins g.room in
          ap₂ (λ (k : ℕ) (l : List ℕ). sets (opened n index (place_from k (length file)) l) k file) g.begins (built b small whole ∙ ap (build (length b)) (sym join))
          ∙ add_is (length b) ps ss file n index lk ln few f room
          ∙ ap₂ (λ (k i : ℕ). build (length b) (take i rs ++ (record { start = k; bytes = file } ∷ drop i rs))) (sym g.begins) ji
          ∙ ap (λ (h : Option Gap). build (length b) (added_at h file rs)) (sym e)
