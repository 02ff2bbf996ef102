-- The places of a server as the model's, and the code's value from the model's: read, replaced, and what is known of each. Assumes nothing.
use Prim.Native.Nat.{ℕ, zero, suc, ◌-◌, ◌^◌, ◌<◌, ◌≤◌}
use mathlib.Core.Path.{◌≡◌, refl, sym, ap, ap₂, ◌∙◌, subst}
use mathlib.Core.Bool.{Bool, true, false, ◌&&◌, false≢true}
use mathlib.Core.List.{List, [], ◌∷◌}
use native.Mathlib.Nat.{zero-lt-suc}
use native.Mathlib.Omega.{arith}
use borrow.Author.Tests.{ltb-true, eq-eqb, ne_eqb, eqb-true}
use lib.Dec.{ltb, eqb}
use lib.ListN.{get_or, set, length}
use Rattle.boolean.specs.Selection.{Candidate}
use Rattle.refusals.specs.Table.{in_range}
use Rattle.refusals.proofs.FilledRows.{filled_rows}
use Rattle.linear.specs.Calls.{pair_candidate}
use Rattle.boolean.proofs.Every.{both, both_true}
use Rattle.server.specs.declared.Place.{Place}
use Rattle.server.specs.declared.Server.{Server}
use Rattle.server.specs.Model.{Analysis, held_of, Spot, empty, holds, ServerState, spot_at, with_spot, start, is_taken, more, unfinished}
use Rattle.server.specs.Calls.{analysis_in, spot_of, spot_in, spots, state_of_server, found_of, place_of, places_of, server_of, SoundSpot, SoundSpots, SoundServer, ServerBegan, with_place}
use Rattle.server.proofs.SoFar.{held_so_far}

-- what a read past the end would give: no box
abbrev pub nowhere : Place
nowhere = record { taken = 0; n = 0; m = 0; rows = []; examined = 0; found = record { count = 0; c = 0; w = 0; b = 0 } }

pub spots_at : (ps : List Place) (i : ℕ) → get_or (spots ps) i empty ≡ spot_in (get_or ps i nowhere)
unfolding spots
spots_at [] i = refl
spots_at (p ∷ ps) zero = refl
spots_at (p ∷ ps) (suc i) = spots_at ps i

-- inside the list it does not matter what a read past the end would give
pub any_default : {A : Type 0} (l : List A) (i : ℕ) (a b : A) → i < length l → get_or l i a ≡ get_or l i b
any_default [] i a b h = absurd (omega arith)
any_default (x ∷ l) zero a b h = refl
any_default (x ∷ l) (suc i) a b h = any_default l i a b (omega arith)

pub length_spots : (ps : List Place) → length (spots ps) ≡ length ps
unfolding spots
length_spots [] = refl
length_spots (p ∷ ps) = ap suc (length_spots ps)

pub spots_set : (ps : List Place) (i : ℕ) (p : Place) → spots (set ps i p) ≡ set (spots ps) i (spot_in p)
unfolding spots
spots_set [] i p = refl
spots_set (q ∷ ps) zero p = refl
spots_set (q ∷ ps) (suc i) p = ap (λ (l : List Spot). spot_in q ∷ l) (spots_set ps i p)

pub state_set : (ps : List Place) (i last : ℕ) (p : Place) (x : Spot) → spot_in p ≡ x
    → state_of_server (record { places = set ps i p; last = last }) ≡ record { spots = set (spots ps) i x; last = last }
state_set ps i last p x e = ap (λ (l : List Spot). record { spots = l; last = last }) (spots_set ps i p ∙ ap (set (spots ps) i) e)

-- ---- one place
taken_of : (b : Bool) (a : Analysis) → is_taken (spot_of b a) ≡ b
taken_of true a = refl
taken_of false a = refl

pub spot_taken : (p : Place) → is_taken (spot_in p) ≡ eqb p.taken 1
unfolding spot_in
spot_taken p = taken_of (eqb p.taken 1) (analysis_in p)

pub spot_empty : (p : Place) → (p.taken ≡ 1 → ⊥) → spot_in p ≡ empty
unfolding spot_in
spot_empty p e = ap (λ (b : Bool). spot_of b (analysis_in p)) (ne_eqb p.taken 1 e)

pub spot_box : (p : Place) → p.taken ≡ 1 → spot_in p ≡ holds (analysis_in p)
unfolding spot_in
spot_box p e = ap (λ (b : Bool). spot_of b (analysis_in p)) (eq-eqb p.taken 1 e)

pub taken_at : (s : Server) (q : ℕ) → eqb (get_or s.places (q - 1) nowhere).taken 1 ≡ is_taken (spot_at (state_of_server s) q)
taken_at s q = sym (spot_taken (get_or s.places (q - 1) nowhere)) ∙ ap is_taken (sym (spots_at s.places (q - 1)))

-- ---- a box of which a combination is left
pub record Left (a : Analysis) : Type 0 where
  pub inputs : in_range 1 8 a.n ≡ true
  pub outputs : in_range 1 16 a.m ≡ true
  pub left : a.examined < 2 ^ a.m - 1

pub more_left : (a : Analysis) → more a ≡ true → Left a
more_left a h =
    let t = both (in_range 1 8 a.n && in_range 1 16 a.m) (ltb a.examined (2 ^ a.m - 1)) h in
    let widths = both (in_range 1 8 a.n) (in_range 1 16 a.m) t.0 in
    record { inputs = widths.0; outputs = widths.1; left = ltb-true a.examined _ t.1 }

-- with the widths of a box it is the number examined that says so
pub more_is : (a : Analysis) → in_range 1 8 a.n ≡ true → in_range 1 16 a.m ≡ true → more a ≡ ltb a.examined (2 ^ a.m - 1)
more_is a n m = ap (λ (b : Bool). b && ltb a.examined (2 ^ a.m - 1)) (both_true (in_range 1 8 a.n) (in_range 1 16 a.m) n m)

-- with other widths none is left
pub no_inputs : (a : Analysis) → in_range 1 8 a.n ≡ false → more a ≡ false
no_inputs a n = ap (λ (b : Bool). (b && in_range 1 16 a.m) && ltb a.examined (2 ^ a.m - 1)) n

and_false : (b : Bool) → (b && false) ≡ false
and_false true = refl
and_false false = refl

pub no_outputs : (a : Analysis) → in_range 1 16 a.m ≡ false → more a ≡ false
no_outputs a m =
    ap (λ (b : Bool). (in_range 1 8 a.n && b) && ltb a.examined (2 ^ a.m - 1)) m
    ∙ ap (λ (b : Bool). b && ltb a.examined (2 ^ a.m - 1)) (and_false (in_range 1 8 a.n))

-- what is unfinished is a box
pub unfinished_holds : (x : Spot) → unfinished x ≡ true → (a : Analysis) × (x ≡ holds a) × Left a
unfinished_holds empty h = absurd (false≢true h)
unfinished_holds (holds a) h = (a, refl, more_left a h)

pub unfinished_taken : (p : Place) → unfinished (spot_in p) ≡ true → p.taken ≡ 1
unfinished_taken p e =
    let t = unfinished_holds (spot_in p) e in
    eqb-true p.taken 1 (sym (spot_taken p) ∙ ap is_taken t.1)

-- a box stands on a place of the list
pub taken_inside : (xs : List Spot) (i : ℕ) → is_taken (get_or xs i empty) ≡ true → i < length xs
taken_inside [] i e = absurd (false≢true e)
taken_inside (x ∷ xs) zero e = zero-lt-suc (length xs)
taken_inside (x ∷ xs) (suc i) e = omega (arith, taken_inside xs i e)

pub unfinished_inside : (xs : List Spot) (i : ℕ) → unfinished (get_or xs i empty) ≡ true → i < length xs
unfinished_inside xs i e = taken_inside xs i (ap is_taken (unfinished_holds (get_or xs i empty) e).1)

-- ---- all that the code's value holds
pub places_set : (xs : List Spot) (i : ℕ) (x : Spot) → places_of (set xs i x) ≡ set (places_of xs) i (place_of x)
unfolding places_of
places_set [] i x = refl
places_set (y ∷ xs) zero x = refl
places_set (y ∷ xs) (suc i) x = ap (λ (l : List Place). place_of y ∷ l) (places_set xs i x)

pub places_at : (xs : List Spot) (i : ℕ) (d : Place) → i < length xs → get_or (places_of xs) i d ≡ place_of (get_or xs i empty)
unfolding places_of
places_at [] i d l = absurd (omega arith)
places_at (x ∷ xs) zero d l = refl
places_at (x ∷ xs) (suc i) d l = places_at xs i d (omega arith)

-- a pair of three numbers is held as it is
pub pair_held : (n m : ℕ) (rows : List ℕ) (k : ℕ) → 1 ≤ m → pair_candidate (found_of (held_of n m rows k)) ≡ held_of n m rows k
pair_held n m rows zero l = refl
pair_held n m rows (suc k) l =
    let t = held_so_far n m rows (suc k) l (omega arith) in
    ap (λ (p : Candidate). pair_candidate (found_of p)) t.holds ∙ sym t.holds

-- the value that is made of what stands on a place stands for it
pub spot_of_lem : (x : Spot) → SoundSpot x → spot_in (place_of x) ≡ x
unfolding spot_in place_of
spot_of_lem empty h = refl
spot_of_lem (holds a) h =
    ap₂ (λ (r : List ℕ) (f : Candidate). holds (record { n = a.n; m = a.m; rows = r; examined = a.examined; found = f }))
    (filled_rows a.n a.rows h.box.size)
    (ap (λ (p : Candidate). pair_candidate (found_of p)) h.so_far ∙ pair_held a.n a.m a.rows a.examined h.box.m_low ∙ sym h.so_far)

spots_of : (xs : List Spot) → SoundSpots xs → spots (places_of xs) ≡ xs
unfolding spots places_of
spots_of [] h = refl
spots_of (x ∷ xs) h = ap₂ (λ (y : Spot) (ys : List Spot). y ∷ ys) (spot_of_lem x h.0) (spots_of xs h.1)

-- the same of a whole server
pub state_of : (s : ServerState) → SoundSpots s.spots → state_of_server (server_of s) ≡ s
state_of s h = ap (λ (l : List Spot). record { spots = l; last = s.last }) (spots_of s.spots h)

-- a server that holds what the model's does, whose boxes are analysed, is sound and stands for it
pub stands_for : {r : Server} (s : ServerState) → SoundSpots s.spots → r ≡ server_of s → SoundServer r × (state_of_server r ≡ s)
stands_for {r} s h e =
    let is : state_of_server r ≡ s = ap (λ (t : Server). state_of_server t) e ∙ state_of s h in
    (record { places = subst (λ (t : ServerState). SoundSpots t.spots) (sym is) h; only = e ∙ ap server_of (sym is) }, is)

-- A sound server is a function of what it stands for: of two that stand for the same every field is the same.
pub holds_only : (s r : Server) → SoundServer s → SoundServer r → state_of_server s ≡ state_of_server r → s ≡ r
holds_only s r h k e = h.only ∙ ap server_of e ∙ sym k.only

pub sound_at : (xs : List Spot) (i : ℕ) → SoundSpots xs → SoundSpot (get_or xs i empty)
sound_at [] i h = h
sound_at (x ∷ xs) zero h = h.0
sound_at (x ∷ xs) (suc i) h = sound_at xs i h.1

pub sound_set : (xs : List Spot) (i : ℕ) (x : Spot) → SoundSpots xs → SoundSpot x → SoundSpots (set xs i x)
sound_set [] i x h k = h
sound_set (y ∷ xs) zero x h k = (k, h.1)
sound_set (y ∷ xs) (suc i) x h k = (h.0, sound_set xs i x h.1 k)

-- what a sound server holds on a place with a box
pub held_at : (s : Server) → SoundServer s → (i : ℕ) → i < length (spots s.places) → get_or s.places i nowhere ≡ place_of (get_or (spots s.places) i empty)
held_at s h i l = ap (λ (r : Server). get_or r.places i nowhere) h.only ∙ places_at (spots s.places) i nowhere l

-- ---- a place replaced
pub with_place_state : (s : Server) (q : ℕ) (x : Spot) → SoundSpot x → state_of_server (with_place s q x) ≡ with_spot (state_of_server s) q x
with_place_state s q x h = state_set s.places (q - 1) s.last (place_of x) x (spot_of_lem x h)

pub with_place_of : (s : Server) (q : ℕ) (x : Spot) → SoundServer s → with_place s q x ≡ server_of (with_spot (state_of_server s) q x)
with_place_of s q x h =
    ap (λ (r : Server). with_place r q x) h.only
    ∙ ap (λ (ps : List Place). record { places = ps; last = s.last }) (sym (places_set (spots s.places) (q - 1) x))

-- ---- no box on any place
abbrev eight : {A : Type 0} → A → List A
eight x = x ∷ x ∷ x ∷ x ∷ x ∷ x ∷ x ∷ x ∷ []

pub begins : (v : Place) → v ≡ place_of empty → ServerBegan (record { places = eight v; last = 0 })
unfolding places_of start
begins v e = record { server = ap (λ (p : Place). record { places = eight p; last = 0 }) e }

pub sound_start : SoundSpots start.spots
unfolding start
sound_start = (tt, (tt, (tt, (tt, (tt, (tt, (tt, (tt, tt))))))))
