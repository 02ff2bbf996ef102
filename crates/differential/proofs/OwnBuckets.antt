-- A bucket for each difference: what they hold before the first value, and after one value more. Assumes nothing.
use mathlib.Core.Path.{◌≡◌, refl, sym, ap, ◌∙◌, subst₂}
use mathlib.Core.List.{List}
use Prim.Native.Nat.{ℕ, ◌+◌, ◌*◌, ◌≤◌, ◌<◌}
use native.Mathlib.Decide.{ℕ_discrete}
use native.Mathlib.Omega.{arith}
use lib.ListN.{length, set, length-set}
use lib.Seq.{get_or-set_same, get_or-set_other}
use Rattle.boolean.specs.Sums.{list_below}
use Rattle.boolean.specs.Functions.{at, Below, occurrences}
use Rattle.boolean.proofs.Lists.{length_list_below, get_or_list_below}
use Rattle.differential.specs.Running.{count_with, risen_at}
use Rattle.differential.specs.Work.{OwnBuckets}
use Rattle.sorting.proofs.Occurrences.{occurs_more, occurs_same, occurs_none, occurs_le}

-- ---- the size, and the number of values, by other names
pub own_same : {size other y x : ℕ} {values buckets : List ℕ} → OwnBuckets size values y buckets → size ≡ other → y ≡ x → OwnBuckets other values x buckets
own_same {values = values} {buckets = buckets} s e f = subst₂ (λ (k x : ℕ). OwnBuckets k values x buckets) e f s

-- ---- before the first value every count is 0
module _ {k : ℕ} {buckets : List ℕ} (is : buckets ≡ list_below k (λ β. count_with 0 β)) where
  pub cleared_length : length buckets ≡ k
  cleared_length = ap length is ∙ length_list_below k (λ β. count_with 0 β)

  pub cleared_at : (v : ℕ) → v < k → at buckets v ≡ count_with 0 v
  cleared_at v l = ap (λ (xs : List ℕ). at xs v) is ∙ get_or_list_below k (λ β. count_with 0 β) v 0 l

  pub own_none : (values : List ℕ) → k ≤ 256 → Below k values → OwnBuckets k values 0 buckets
  own_none values few inside = record {
    few = few;
    long = cleared_length;
    inside = inside;
    held = λ v l. cleared_at v l ∙ ap (λ (c : ℕ). count_with c v) (sym (occurs_none values v));
  }

-- ---- one value more
module _ {size : ℕ} {values : List ℕ} {y : ℕ} {buckets : List ℕ} (s : OwnBuckets size values y buckets) (l : y < length values) where
  abbrev v : ℕ
  v = at values y

  pub own_fits : at buckets v ≤ y * 4294967296 + 4294967295
  own_fits = omega (arith, s.held v (s.inside y l), occurs_le values y v)

  pub alone_risen : at buckets v + 4294967296 ≡ risen_at values y
  alone_risen = omega (arith, s.held v (s.inside y l), occurs_more values y v refl)

  pub alone_next : OwnBuckets size values (y + 1) (set buckets v (at buckets v + 4294967296))
  alone_next = record {
    few = s.few;
    long = length-set buckets v (at buckets v + 4294967296) ∙ s.long;
    inside = s.inside;
    held = λ u k. pick u k (ℕ_discrete u v);
  }
    where
      pick : (u : ℕ) → u < size → Dec (u ≡ v)
          → at (set buckets v (at buckets v + 4294967296)) u ≡ count_with (occurrences values (y + 1) u) u
      pick u k (yes e) =
          ap (at (set buckets v (at buckets v + 4294967296))) e ∙ get_or-set_same buckets v (at buckets v + 4294967296) 0 (omega (arith, s.inside y l, s.long))
          ∙ alone_risen ∙ ap (λ (w : ℕ). count_with (occurrences values (y + 1) w) w) (sym e)
      pick u k (no e) =
          get_or-set_other buckets v u (at buckets v + 4294967296) 0 e ∙ s.held u k
          ∙ ap (λ (c : ℕ). count_with c u) (sym (occurs_same values y u (λ q. e (sym q))))
