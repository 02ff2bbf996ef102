-- The buckets: free before the first value of a row, what they hold after one value more, and free for the next row after the last. Assumes
-- nothing.
use mathlib.Core.Path.{◌≡◌, refl, sym, ap, ◌∙◌, subst}
use mathlib.Core.List.{List}
use Prim.Native.Nat.{ℕ, ◌+◌, ◌-◌, ◌*◌, ◌%◌, ◌≤◌, ◌<◌}
use native.Mathlib.Nat.{mod-lt, zero-lt-suc}
use native.Mathlib.Decide.{ℕ_discrete, dec_lt}
use native.Mathlib.Omega.{arith}
use lib.ListN.{set, length-set, replicate, length-replicate, get_or-replicate}
use lib.Seq.{get_or-set_same, get_or-set_other}
use Rattle.boolean.specs.Functions.{at, occurrences}
use Rattle.differential.specs.Running.{count_with, risen_at, number_in, higher_of}
use Rattle.differential.specs.Work.{bucket_of, FreeFrom, Bucket, Buckets}
use Rattle.differential.proofs.Rises.{takes_higher, keeps_higher}
use Rattle.sorting.proofs.Occurrences.{occurs_more, occurs_same, occurs_le, occurs_at}

bucket_inside : (v : ℕ) → bucket_of v < 4096
bucket_inside v = mod-lt v (zero-lt-suc 4095)

-- ---- from row to row
-- buckets of 0 are free for all rows from 1 on
pub zeros_free : FreeFrom 1 (replicate 4096 0)
zeros_free = record { size = length-replicate {A = ℕ} 4096 0; free = λ k l. omega (arith, get_or-replicate {A = ℕ} 4096 k 0 0 l) }

pub buckets_none : {a : ℕ} {buckets : List ℕ} (values : List ℕ) → FreeFrom a buckets → Buckets a values 0 buckets
buckets_none values f = record {
  size = f.size;
  held = λ k l h. absurd (omega (arith, f.free k l));
  taken = λ x l. absurd (omega arith);
}

-- a count of at most 128 leaves a bucket below the next row
pub buckets_free : {a y : ℕ} {values buckets : List ℕ} → Buckets a values y buckets → y ≤ 128 → FreeFrom (a + 1) buckets
buckets_free {a} {y} {values} {buckets} s few = record { size = s.size; free = λ k l. pick k l (dec_lt (at buckets k) (number_in a 0)) }
  where
    pick : (k : ℕ) → k < 4096 → Dec (at buckets k < number_in a 0) → at buckets k < number_in (a + 1) 0
    pick k l (yes h) = omega arith
    pick k l (no h) =
        let t = s.held k l (omega arith) in
        omega (arith, t.is, occurs_le values y t.key)

-- ---- one value more
module _ {a : ℕ} {values : List ℕ} {y : ℕ} {buckets : List ℕ} (s : Buckets a values y buckets) (small : at values y < 4294967296) where
  abbrev v : ℕ
  v = at values y

  abbrev content : ℕ
  content = at buckets (bucket_of v)

  -- the number of the value with a count of 0
  abbrev none : ℕ
  none = number_in a 4294967295 - v

  -- a bucket that is not free holds the standing of its key, which counts, and so is above
  mine : number_in a 0 ≤ content → Bucket a values y (bucket_of v) content
  mine = s.held (bucket_of v) (bucket_inside v)

  above : number_in a 0 ≤ content → none < content
  above h = let t = mine h in omega (arith, t.is, t.came)

  -- where the bucket is free the value has not come before
  new_none : content < number_in a 0 → occurrences values y v ≡ 0
  new_none h = pick (dec_lt 0 (occurrences values y v))
    where
      pick : Dec (0 < occurrences values y v) → occurrences values y v ≡ 0
      pick (yes l) =
          let x = occurs_at values y v l in
          absurd (omega (arith, s.taken x.0 x.1, ap (λ (z : ℕ). at buckets (bucket_of z)) x.2))
      pick (no l) = omega arith

  -- a bucket of another key stays
  stays : {bucket number : ℕ} (t : Bucket a values y bucket number) → (v ≡ t.key → ⊥) → Bucket a values (y + 1) bucket number
  stays t e = record {
    key = t.key;
    small = t.small;
    here = t.here;
    came = omega (arith, t.came, occurs_same values y t.key e);
    is = t.is ∙ ap (λ (k : ℕ). number_in a (count_with k t.key)) (sym (occurs_same values y t.key e));
  }

  older : {x : ℕ} → x < y + 1 → (x ≡ y → ⊥) → x < y
  older l e = omega arith

  -- what is held for the value's rise: what its bucket holds, or the value's count of 0 where the bucket is free
  module _ {held : ℕ} (is : held ≡ higher_of content none) where
    held_free : content < number_in a 0 → held ≡ none
    held_free h = is ∙ takes_higher (let l : content < none = omega arith in l)

    held_taken : number_in a 0 ≤ content → held ≡ content
    held_taken h = is ∙ keeps_higher (let l : none ≤ content = omega (arith, above h) in l)

    held_least : none ≤ held
    held_least = pick (dec_lt content (number_in a 0))
      where
        pick : Dec (content < number_in a 0) → none ≤ held
        pick (yes h) = omega (arith, held_free h)
        pick (no h) = let k : number_in a 0 ≤ content = omega arith in omega (arith, held_taken k, above k)

    pub held_fits : held ≤ number_in a (y * 4294967296 + 4294967295)
    held_fits = pick (dec_lt content (number_in a 0))
      where
        pick : Dec (content < number_in a 0) → held ≤ number_in a (y * 4294967296 + 4294967295)
        pick (yes h) = omega (arith, held_free h)
        pick (no h) =
            let k : number_in a 0 ≤ content = omega arith in
            let t = mine k in
            omega (arith, held_taken k, t.is, occurs_le values y t.key)

    -- the value has its bucket, or takes it, and the bucket then holds its standing
    module _ (own : (held - none) % 4294967296 ≡ 0) where
      abbrev after : List ℕ
      after = set buckets (bucket_of v) (held + 4294967296)

      here_now : at after (bucket_of v) ≡ held + 4294967296
      here_now = get_or-set_same buckets (bucket_of v) (held + 4294967296) 0 (omega (arith, bucket_inside v, s.size))

      pub own_risen : held + 4294967296 ≡ number_in a (risen_at values y)
      own_risen = pick (dec_lt content (number_in a 0))
        where
          pick : Dec (content < number_in a 0) → held + 4294967296 ≡ number_in a (risen_at values y)
          pick (yes h) = omega (arith, held_free h, new_none h, occurs_more values y v refl)
          pick (no h) =
              let k : number_in a 0 ≤ content = omega arith in
              let t = mine k in
              let is : t.key ≡ v = omega (arith, t.is, t.small, t.came, held_taken k) in
              omega (arith, held_taken k, t.is, ap (occurrences values y) is, occurs_more values y v refl)

      pub own_next : Buckets a values (y + 1) after
      own_next = record {
        size = length-set buckets _ _ ∙ s.size;
        held = λ k l h. pick k l h (ℕ_discrete k (bucket_of v));
        taken = λ x l. pick_taken x l (ℕ_discrete (bucket_of (at values x)) (bucket_of v));
      }
        where
          pick : (k : ℕ) → k < 4096 → number_in a 0 ≤ at after k → Dec (k ≡ bucket_of v) → Bucket a values (y + 1) k (at after k)
          pick k l h (yes e) = record {
            key = v;
            small = small;
            here = sym e;
            came = omega (arith, occurs_more values y v refl);
            is = ap (at after) e ∙ here_now ∙ own_risen;
          }
          pick k l h (no e) =
              let same : at after k ≡ at buckets k = get_or-set_other buckets (bucket_of v) k (held + 4294967296) 0 e in
              let t = s.held k l (omega (arith, same)) in
              subst (Bucket a values (y + 1) k) (sym same) (stays t (λ q. e (sym t.here ∙ ap bucket_of (sym q))))

          pick_taken : (x : ℕ) → x < y + 1 → Dec (bucket_of (at values x) ≡ bucket_of v) → number_in a 0 ≤ at after (bucket_of (at values x))
          pick_taken x l (yes e) = omega (arith, ap (at after) e, here_now, held_least)
          pick_taken x l (no e) =
              let same : at after (bucket_of (at values x)) ≡ at buckets (bucket_of (at values x)) = get_or-set_other buckets (bucket_of v) (bucket_of (at values x)) (held + 4294967296) 0 e in
              omega (arith, same, s.taken x (older l (λ q. e (ap (λ (z : ℕ). bucket_of (at values z)) q))))

    -- another value has it, and is not counted
    module _ (other : (held - none) % 4294967296 ≡ 0 → ⊥) where
      others : number_in a 0 ≤ content
      others = pick (dec_lt content (number_in a 0))
        where
          pick : Dec (content < number_in a 0) → number_in a 0 ≤ content
          pick (yes h) = absurd (other (omega (arith, held_free h)))
          pick (no h) = omega arith

      pub other_next : Buckets a values (y + 1) buckets
      other_next = record { size = s.size; held = pick; taken = λ x l. pick_taken x l (ℕ_discrete x y) }
        where
          pick : (k : ℕ) → k < 4096 → number_in a 0 ≤ at buckets k → Bucket a values (y + 1) k (at buckets k)
          pick k l h =
              let t = s.held k l h in
              stays t (λ q. other (omega (arith, held_taken others, ap (λ (z : ℕ). at buckets z) (ap bucket_of q ∙ t.here), q, t.is, t.small)))

          pick_taken : (x : ℕ) → x < y + 1 → Dec (x ≡ y) → number_in a 0 ≤ at buckets (bucket_of (at values x))
          pick_taken x l (yes e) = omega (arith, others, ap (λ (z : ℕ). at buckets (bucket_of (at values z))) e)
          pick_taken x l (no e) = s.taken x (older l e)
