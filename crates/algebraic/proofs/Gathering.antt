-- The loop that goes through the table of inputs, those with the most ones first, and gathers those whose word is no XOR of words before. Assumes nothing.
use mathlib.Core.Path.{◌≡◌, sym, ap, ◌∙◌, subst}
use mathlib.Core.Logic.{◌⊎◌, inl, inr}
use mathlib.Core.Bool.{true, not, false≢true}
use mathlib.Core.List.{List}
use Prim.Native.Nat.{ℕ, suc, ◌+◌, ◌^◌, ◌<◌, ◌≤◌}
use native.Mathlib.Decide.{ℕ_discrete, dec_lt}
use native.Mathlib.Nat.{le_refl}
use native.Mathlib.Omega.{arith}
use lib.Count.{ones}
use lib.Dec.{eqb}
use lib.ListN.{length, take, length-take, set, length-set, get_or-eq_default}
use lib.Pow.{pow_pos}
use lib.Seq.{length-take-le, get_or-take, get_or-set_same, get_or-set_other}
use Rattle.boolean.specs.Bits.{dot}
use Rattle.boolean.specs.Functions.{at, coefficient, normal_form}
use Rattle.boolean.specs.Sums.{every}
use Rattle.boolean.proofs.Dots.{dot_bit, dot_zero, some_or_none}
use Rattle.boolean.proofs.Every.{every_at}
use Rattle.boolean.proofs.Lists.{length_list_below, get_or_list_below}
use Rattle.boolean.proofs.NormalForm.{coefficient_lt}
use Rattle.algebraic.specs.Work.{ByOnes, Echelon, EvenOn, WordPlaced, Spanned, BasisGathered}
use Rattle.algebraic.proofs.Basis.{all_even}
use Rattle.algebraic.proofs.FallingOnes.{ones_fall}

-- one of the first count inputs is odd, and has as many ones as u or more
abbrev pub Settled : (words inputs : List ℕ) (count c u : ℕ) → Type 0
Settled words inputs count c u = (j : ℕ) × (j < count) × (dot (at words (at inputs j)) c ≡ 1) × (ones u ≤ ones (at inputs j))

-- after i inputs of the table, count of them gathered
pub record Gathering (table words basis : List ℕ) (i count : ℕ) (inputs : List ℕ) : Type 0 where
  pub within : i ≤ 256
  pub few : count ≤ i
  pub long : length inputs ≡ 256
  pub from : (j : ℕ) → j < count → (k : ℕ) × (k < i) × (at inputs j ≡ at table k)
  pub inside : (j : ℕ) → j < count → at inputs j < length words
  pub settled : (c k : ℕ) → k < i → dot (at words (at table k)) c ≡ 1 → Settled words inputs count c (at table k)
  pub falling : (a b : ℕ) → a ≤ b → b < count → ones (at inputs b) ≤ ones (at inputs a)
  pub places : length basis ≡ 32
  pub stairs : Echelon basis
  pub spans : (c : ℕ) → ((j : ℕ) → j < count → dot (at words (at inputs j)) c ≡ 0) → EvenOn basis c

-- the words of a box, as of its rows, lie below 2^m
pub words_lt : (n m : ℕ) (rows words : List ℕ) → words ≡ normal_form n (at rows) → ((x : ℕ) → at rows x < 2 ^ m) → (u : ℕ) → at words u < 2 ^ m
unfolding normal_form
words_lt n m rows words e low u = subst (λ (l : List ℕ). at l u < 2 ^ m) (sym e) (pick (dec_lt u (2 ^ n)))
  where
    pick : Dec (u < 2 ^ n) → at (normal_form n (at rows)) u < 2 ^ m
    pick (yes l) =
        subst (λ (v : ℕ). v < 2 ^ m) (sym (get_or_list_below (2 ^ n) (λ u. coefficient n (at rows) u) u 0 l)) (coefficient_lt m n (at rows) u (λ x k. low x))
    pick (no l) =
        let past : 2 ^ n ≤ u = omega arith in
        subst (λ (v : ℕ). v < 2 ^ m) (sym (get_or-eq_default (normal_form n (at rows)) 0 (omega (arith, length_list_below (2 ^ n) (λ u. coefficient n (at rows) u))))) (pow_pos m)

-- the test that no place is free
pub none_zero : (m : ℕ) (basis : List ℕ) → m ≤ length basis → every (λ y. not (eqb 0 y)) (take m basis) ≡ true → (k : ℕ) → k < m → at basis k ≡ 0 → ⊥
none_zero m basis h e k l z =
    let inside : k < length (take m basis) = omega (arith, length-take m basis) in
    let there : at (take m basis) k ≡ 0 = get_or-take m basis k 0 l ∙ z in
    false≢true (sym (ap (λ (y : ℕ). not (eqb 0 y)) there) ∙ every_at (λ y. not (eqb 0 y)) 0 (take m basis) e k inside)

pub gathering_none : (table words basis inputs : List ℕ) → length inputs ≡ 256 → length basis ≡ 32 → ((k : ℕ) → at basis k ≡ 0) → Gathering table words basis 0 0 inputs
gathering_none table words basis inputs e l z = record {
  within = omega arith;
  few = omega arith;
  long = e;
  from = λ j l. absurd (omega arith);
  inside = λ j l. absurd (omega arith);
  settled = λ c k l o. absurd (omega arith);
  falling = λ a b h l. absurd (omega arith);
  places = l;
  stairs = λ k. inl (z k);
  spans = λ c h k. ap (λ (v : ℕ). dot v c) (z k) ∙ dot_zero c;
}

module _ {table words basis : List ℕ} {i count : ℕ} {inputs : List ℕ} (g : Gathering table words basis i count inputs) (b : ByOnes table) where
  -- those gathered come from earlier places of the table than k, and have as many ones or more
  earlier : (k j : ℕ) → i ≤ k → k < 256 → j < count → ones (at table k) ≤ ones (at inputs j)
  earlier k j h l m = let t = g.from j m in subst (λ (u : ℕ). ones (at table k) ≤ ones u) (sym t.2) (ones_fall b t.0 k (omega (arith, t.1)) l)

  -- an odd word is settled by those gathered, or all of them are even
  settled_or_even : (c k : ℕ) → i ≤ k → k < 256 → Settled words inputs count c (at table k) ⊎ EvenOn basis c
  settled_or_even c k h l = pick (some_or_none (λ j. dot (at words (at inputs j)) c) (λ j. dot_bit (at words (at inputs j)) c) count)
    where
      pick : ((j : ℕ) × (j < count) × (dot (at words (at inputs j)) c ≡ 1)) ⊎ ((j : ℕ) → j < count → dot (at words (at inputs j)) c ≡ 0)
          → Settled words inputs count c (at table k) ⊎ EvenOn basis c
      pick (inl t) = inl (t.0, t.1, t.2, earlier k t.0 h l t.1)
      pick (inr even) = inr (g.spans c even)

  -- an odd word and an even one
  not_both : (v c : ℕ) → dot v c ≡ 1 → dot v c ≡ 0 → ⊥
  not_both v c o e = let z : ◌≡◌ {A = ℕ} 1 0 = sym o ∙ e in omega arith

  -- a word that the basis spans is passed
  pub gathering_passed : {new : List ℕ} → i < 256 → Spanned (at words (at table i)) basis new → Gathering table words new (i + 1) count inputs
  gathering_passed {new} lt s = subst (λ (l : List ℕ). Gathering table words l (i + 1) count inputs) (sym s.kept) record {
    within = omega arith;
    few = omega (arith, g.few);
    long = g.long;
    from = λ j l. let t = g.from j l in (t.0, omega (arith, t.1), t.2);
    inside = g.inside;
    settled = λ c k l o. more c k l o (ℕ_discrete k i);
    falling = g.falling;
    places = g.places;
    stairs = g.stairs;
    spans = g.spans;
  }
    where
      more : (c k : ℕ) → k < i + 1 → dot (at words (at table k)) c ≡ 1 → Dec (k ≡ i) → Settled words inputs count c (at table k)
      more c k l o (no q) = g.settled c k (omega arith) o
      more c k l o (yes q) = pick (settled_or_even c k (omega arith) (omega arith))
        where
          pick : Settled words inputs count c (at table k) ⊎ EvenOn basis c → Settled words inputs count c (at table k)
          pick (inl t) = t
          pick (inr even) = absurd (not_both (at words (at table k)) c o (ap (λ (k : ℕ). dot (at words (at table k)) c) q ∙ s.even c even))

  -- another is put after those gathered, and what is left of its word into the basis
  module _ {m : ℕ} {new : List ℕ} (lt : i < 256) (m_high : m ≤ 32) (p : WordPlaced m (at words (at table i)) basis new) where
    abbrev next : List ℕ
    next = set inputs count (at table i)

    last : at next count ≡ at table i
    last = get_or-set_same inputs count (at table i) 0 (omega (arith, g.few, g.long))

    before : (j : ℕ) → j < count → at next j ≡ at inputs j
    before j l = get_or-set_other inputs count j (at table i) 0 (λ q. omega arith)

    from_more : (j : ℕ) → j < count + 1 → Dec (j ≡ count) → (k : ℕ) × (k < i + 1) × (at next j ≡ at table k)
    from_more j l (yes q) = (i, omega arith, ap (λ (k : ℕ). at next k) q ∙ last)
    from_more j l (no q) = let k : j < count = omega arith in let t = g.from j k in (t.0, omega (arith, t.1), before j k ∙ t.2)

    present : Dec (at table i < length words) → at table i < length words
    present (yes l) = l
    present (no l) = absurd (p.some (get_or-eq_default words 0 (omega arith)))

    inside_more : (j : ℕ) → j < count + 1 → Dec (j ≡ count) → at next j < length words
    inside_more j l (yes q) = subst (λ (u : ℕ). u < length words) (sym (ap (λ (k : ℕ). at next k) q ∙ last)) (present (dec_lt (at table i) (length words)))
    inside_more j l (no q) = let k : j < count = omega arith in subst (λ (u : ℕ). u < length words) (sym (before j k)) (g.inside j k)

    settled_more : (c k : ℕ) → k < i + 1 → dot (at words (at table k)) c ≡ 1 → Dec (k ≡ i) → Settled words next (count + 1) c (at table k)
    settled_more c k l o (yes q) =
        let same : at next count ≡ at table k = last ∙ ap (λ (k : ℕ). at table k) (sym q) in
        (count, omega arith, ap (λ (u : ℕ). dot (at words u) c) same ∙ o, subst (λ (u : ℕ). ones (at table k) ≤ ones u) (sym same) (le_refl (ones (at table k))))
    settled_more c k l o (no q) =
        let t = g.settled c k (omega arith) o in
        let same = before t.0 t.1 in
        (t.0, omega (arith, t.1), ap (λ (u : ℕ). dot (at words u) c) same ∙ t.2, subst (λ (u : ℕ). ones (at table k) ≤ ones u) (sym same) t.3)

    -- the one at the end comes from the latest place of the table
    least : (j : ℕ) → j < count + 1 → ones (at table i) ≤ ones (at next j)
    least j l =
        let t = from_more j l (ℕ_discrete j count) in
        subst (λ (u : ℕ). ones (at table i) ≤ ones u) (sym t.2) (ones_fall b t.0 i (omega (arith, t.1)) lt)

    falling_more : (a c : ℕ) → a ≤ c → c < count + 1 → Dec (c ≡ count) → ones (at next c) ≤ ones (at next a)
    falling_more a c h l (yes q) = subst (λ (u : ℕ). ones u ≤ ones (at next a)) (sym (ap (λ (k : ℕ). at next k) q ∙ last)) (least a (omega arith))
    falling_more a c h l (no q) =
        let k : c < count = omega arith in
        omega (arith, g.falling a c h k, ap ones (before c k), ap ones (before a (omega arith)))

    put_there : at new p.place ≡ p.rest
    put_there = ap (λ (l : List ℕ). at l p.place) p.put ∙ get_or-set_same basis p.place p.rest 0 (omega (arith, p.inside, g.places))

    others : (k : ℕ) → (k ≡ p.place → ⊥) → at new k ≡ at basis k
    others k q = ap (λ (l : List ℕ). at l k) p.put ∙ get_or-set_other basis p.place k p.rest 0 q

    stairs_more : (k : ℕ) → Dec (k ≡ p.place) → (at new k ≡ 0) ⊎ ((2 ^ k ≤ at new k) × (at new k < 2 ^ suc k))
    stairs_more k (yes q) =
        inr (subst (λ (k : ℕ). (2 ^ k ≤ at new k) × (at new k < 2 ^ suc k)) (sym q)
        (subst (λ (v : ℕ). (2 ^ p.place ≤ v) × (v < 2 ^ suc p.place)) (sym put_there) (p.low, p.high)))
    stairs_more k (no q) = subst (λ (v : ℕ). (v ≡ 0) ⊎ ((2 ^ k ≤ v) × (v < 2 ^ suc k))) (sym (others k q)) (g.stairs k)

    module _ (c : ℕ) (even : (j : ℕ) → j < count + 1 → dot (at words (at next j)) c ≡ 0) where
      old_even : EvenOn basis c
      old_even = g.spans c (λ j l. ap (λ (u : ℕ). dot (at words u) c) (sym (before j l)) ∙ even j (omega arith))

      spans_more : (k : ℕ) → Dec (k ≡ p.place) → dot (at new k) c ≡ 0
      spans_more k (yes q) =
          ap (λ (k : ℕ). dot (at new k) c) q ∙ ap (λ (v : ℕ). dot v c) put_there ∙ p.same c old_even
          ∙ ap (λ (u : ℕ). dot (at words u) c) (sym last) ∙ even count (omega arith)
      spans_more k (no q) = ap (λ (v : ℕ). dot v c) (others k q) ∙ old_even k

    pub gathering_put : Gathering table words new (i + 1) (count + 1) next
    gathering_put = record {
      within = omega arith;
      few = omega (arith, g.few);
      long = length-set inputs count (at table i) ∙ g.long;
      from = λ j l. from_more j l (ℕ_discrete j count);
      inside = λ j l. inside_more j l (ℕ_discrete j count);
      settled = λ c k l o. settled_more c k l o (ℕ_discrete k i);
      falling = λ a c h l. falling_more a c h l (ℕ_discrete c count);
      places = ap length p.put ∙ length-set basis p.place p.rest ∙ g.places;
      stairs = λ k. stairs_more k (ℕ_discrete k p.place);
      spans = λ c even k. spans_more c even k (ℕ_discrete k p.place);
    }

  -- the whole table, or as much of it as makes every later word even where those gathered are
  gathered : length words ≤ 256 → ((c u : ℕ) → EvenOn basis c → (k : ℕ) → i ≤ k → k < 256 → dot (at words u) c ≡ 0) → BasisGathered words (take count inputs)
  gathered small later = record {
    inside = λ j l. subst (λ (u : ℕ). u < length words) (sym (taken j l)) (g.inside j (omega (arith, size)));
    settle = λ c u l o. let t = b.all u (omega arith) in among c u (at_place c u l o t.0 t.1 t.2 (dec_lt t.0 i));
    falling = λ j k h l. omega (arith, g.falling j k h (omega (arith, size)), ap ones (taken j (omega arith)), ap ones (taken k l));
  }
    where
      size : length (take count inputs) ≡ count
      size = length-take-le _ _ (omega (arith, g.few, g.within, g.long))

      taken : (j : ℕ) → j < length (take count inputs) → at (take count inputs) j ≡ at inputs j
      taken j l = get_or-take count inputs j 0 (omega (arith, size))

      among : (c u : ℕ) → Settled words inputs count c u
          → (j : ℕ) × (j < length (take count inputs)) × (dot (at words (at (take count inputs) j)) c ≡ 1) × (ones u ≤ ones (at (take count inputs) j))
      among c u t =
          let l : t.0 < length (take count inputs) = omega (arith, size, t.1) in
          (t.0, l, ap (λ (u : ℕ). dot (at words u) c) (taken t.0 l) ∙ t.2, omega (arith, t.3, ap ones (taken t.0 l)))

      at_place : (c u : ℕ) → u < length words → dot (at words u) c ≡ 1 → (k : ℕ) → k < 256 → at table k ≡ u → Dec (k < i) → Settled words inputs count c u
      at_place c u l o k h e (yes d) = subst (λ (v : ℕ). Settled words inputs count c v) e (g.settled c k d (ap (λ (v : ℕ). dot (at words v) c) e ∙ o))
      at_place c u l o k h e (no d) = pick (settled_or_even c k (omega arith) h)
        where
          pick : Settled words inputs count c (at table k) ⊎ EvenOn basis c → Settled words inputs count c u
          pick (inl t) = subst (λ (v : ℕ). Settled words inputs count c v) e t
          pick (inr even) = absurd (not_both (at words u) c o (later c u even k (omega arith) h))

  pub gathering_all : length words ≤ 256 → 256 ≤ i → BasisGathered words (take count inputs)
  gathering_all small end = gathered small (λ c u even k h l. absurd (omega arith))

  pub gathering_full : {m : ℕ} → length words ≤ 256 → ((u : ℕ) → at words u < 2 ^ m) → ((k : ℕ) → k < m → at basis k ≡ 0 → ⊥) → BasisGathered words (take count inputs)
  gathering_full {m} small low full = gathered small (λ c u even k h l. all_even m basis c g.stairs full even (at words u) (low u))
