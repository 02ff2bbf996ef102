-- Lists over the numbers below a bound, and the lists that a rule gives for each member, one after the other.
use mathlib.Core.Path.{◌≡◌, refl, sym, ap, ap₂, ◌∙◌, subst}
use mathlib.Core.Bool.{Bool}
use mathlib.Core.Logic.{◌⊎◌, inl, inr}
use mathlib.Core.List.Memᴰ
use mathlib.Core.List.{List, [], ◌∷◌, ◌++◌, append_assoc, append-nil, Memᴰ}
use Prim.Native.Nat.{ℕ, zero, suc, ◌+◌, ◌-◌, ◌*◌, ◌<◌, ◌≤◌, zero-le}
use native.Mathlib.Nat.{add-zero, zero-add, le_refl, le_of_suc-le-suc, not-suc-le-zero, mul-le-mul_right}
use native.Mathlib.Numerals.{add-one}
use native.Mathlib.Omega.{arith}
use native.Mathlib.Decide.{ℕ_discrete}
use lib.ListN.{length, get_or, take, drop, length-append, length-drop, replicate, take-append-drop}
use lib.Seq.{ext_get_or, take_at, take_all, drop-drop}
use Rattle.boolean.specs.Sums.{count_below, one_if, list_from, list_below, each}
use Rattle.boolean.specs.Selection.{Ascending, SameMembers}
use Rattle.boolean.specs.Functions.{at}
use Rattle.boolean.proofs.Selection.{of_cons}

shift : (i k : ℕ) → suc i + k ≡ i + suc k
shift i k = omega arith

module _ {A : Type 0} where
  -- the length, and the element at a place
  pub length_list_from : (i k : ℕ) (g : ℕ → A) → length (list_from i k g) ≡ k
  unfolding list_from
  length_list_from i zero g = refl
  length_list_from i (suc k) g = ap suc (length_list_from (suc i) k g)

  pub length_list_below : (k : ℕ) (g : ℕ → A) → length (list_below k g) ≡ k
  unfolding list_below
  length_list_below k g = length_list_from 0 k g

  pub get_or_list_from : (i k : ℕ) (g : ℕ → A) (j : ℕ) (d : A) → j < k → get_or (list_from i k g) j d ≡ g (i + j)
  unfolding list_from
  get_or_list_from i zero g j d h = absurd (not-suc-le-zero h)
  get_or_list_from i (suc k) g zero d h = ap g (sym (add-zero i))
  get_or_list_from i (suc k) g (suc j) d h = get_or_list_from (suc i) k g j d (le_of_suc-le-suc h) ∙ ap g (shift i j)

  pub get_or_list_below : (k : ℕ) (g : ℕ → A) (i : ℕ) (d : A) → i < k → get_or (list_below k g) i d ≡ g i
  unfolding list_below
  get_or_list_below k g i d h = get_or_list_from 0 k g i d h ∙ ap g (zero-add i)

  -- a list of k elements that are g 0, g 1, .. is the list of them
  pub list_is : (d : A) (k : ℕ) (g : ℕ → A) (l : List A) → length l ≡ k → ((i : ℕ) → i < k → get_or l i d ≡ g i) → l ≡ list_below k g
  list_is d k g l e h =
      ext_get_or d l (list_below k g) (e ∙ sym (length_list_below k g)) (λ i m. let j : i < k = omega arith in h i j ∙ sym (get_or_list_below k g i d j))

  -- equal elements make equal lists
  pub list_from_cong : (i k : ℕ) (g h : ℕ → A) → ((j : ℕ) → i ≤ j → j < i + k → g j ≡ h j) → list_from i k g ≡ list_from i k h
  unfolding list_from
  list_from_cong i zero g h e = refl
  list_from_cong i (suc k) g h e = ap₂ (λ (a : A) (l : List A). a ∷ l) (e i (le_refl i) (omega arith)) (list_from_cong (suc i) k g h (λ j l m. e j (omega arith) (omega arith)))

  pub list_below_cong : (k : ℕ) (g h : ℕ → A) → ((i : ℕ) → i < k → g i ≡ h i) → list_below k g ≡ list_below k h
  unfolding list_below
  list_below_cong k g h e = list_from_cong 0 k g h (λ j l m. e j (omega arith))

  -- one element more, at the end
  pub list_from_more : (i k : ℕ) (g : ℕ → A) → list_from i (suc k) g ≡ list_from i k g ++ (g (i + k) ∷ [])
  unfolding list_from
  list_from_more i zero g = ap (λ (z : ℕ). g z ∷ []) (sym (add-zero i))
  list_from_more i (suc k) g = ap (λ (l : List A). g i ∷ l) (list_from_more (suc i) k g ∙ ap (λ (z : ℕ). list_from (suc i) k g ++ (g z ∷ [])) (shift i k))

  pub list_below_more : (k : ℕ) (g : ℕ → A) → list_below (suc k) g ≡ list_below k g ++ (g k ∷ [])
  unfolding list_below
  list_below_more k g = list_from_more 0 k g ∙ ap (λ (z : ℕ). list_from 0 k g ++ (g z ∷ [])) (zero-add k)

  -- a list with a member has a first one
  pub some_member : {x : A} (l : List A) → Memᴰ x l → (y : A) × (ys : List A) × (l ≡ y ∷ ys)
  some_member [] m = absurd (Memᴰ.not-nil m)
  some_member (y ∷ ys) m = (y, ys, refl)

  -- the members are the elements
  pub mem_list_from : (i k : ℕ) (g : ℕ → A) (x : A) → Memᴰ x (list_from i k g) → (j : ℕ) × (i ≤ j) × (j < i + k) × (x ≡ g j)
  unfolding list_from
  mem_list_from i zero g x m = absurd (Memᴰ.not-nil m)
  mem_list_from i (suc k) g x m = of_cons (λ z. (j : ℕ) × (i ≤ j) × (j < i + suc k) × (z ≡ g j)) (i, le_refl i, omega arith, refl)
      (λ n. let t = mem_list_from (suc i) k g x n in (t.0, omega (arith, t.1), omega (arith, t.2), t.3)) m

  pub in_list_from : (i k : ℕ) (g : ℕ → A) (j : ℕ) → i ≤ j → j < i + k → Memᴰ (g j) (list_from i k g)
  unfolding list_from
  in_list_from i zero g j l m = absurd (omega arith)
  in_list_from i (suc k) g j l m = pick (λ n. in_list_from (suc i) k g j n (omega arith)) (ℕ_discrete j i)
    where
      pick : (suc i ≤ j → Memᴰ (g j) (list_from (suc i) k g)) → Dec (j ≡ i) → Memᴰ (g j) (g i ∷ list_from (suc i) k g)
      pick rec (yes e) = Memᴰ.head (ap g e)
      pick rec (no e) = Memᴰ.tail (rec (omega arith))

  pub mem_list_below : (k : ℕ) (g : ℕ → A) (x : A) → Memᴰ x (list_below k g) → (j : ℕ) × (j < k) × (x ≡ g j)
  unfolding list_below
  mem_list_below k g x m = let t = mem_list_from 0 k g x m in (t.0, omega (arith, t.2), t.3)

  pub in_list_below : (k : ℕ) (g : ℕ → A) (j : ℕ) → j < k → Memᴰ (g j) (list_below k g)
  unfolding list_below
  in_list_below k g j h = in_list_from 0 k g j zero-le (omega arith)

  -- ranks that rise with the number rise along the list
  pub ascending_list_from : (rank : A → ℕ) (i k : ℕ) (g : ℕ → A) → ((a b : ℕ) → i ≤ a → a < b → b < i + k → rank (g a) < rank (g b)) → Ascending rank (list_from i k g)
  unfolding list_from
  ascending_list_from rank i zero g h = tt
  ascending_list_from rank i (suc k) g h = (
    λ x m.
        let t = mem_list_from (suc i) k g x m in
        subst (λ (z : A). rank (g i) < rank z) (sym t.3) (h i t.0 (le_refl i) t.1 (omega (arith, t.2))),
    ascending_list_from rank (suc i) k g (λ a b l m n. h a b (omega arith) m (omega arith)),
  )

  pub ascending_list_below : (rank : A → ℕ) (k : ℕ) (g : ℕ → A) → ((a b : ℕ) → a < b → b < k → rank (g a) < rank (g b)) → Ascending rank (list_below k g)
  unfolding list_below
  ascending_list_below rank k g h = ascending_list_from rank 0 k g (λ a b l m n. h a b m (omega arith))

  -- two ascending lists, the first ranking below the second, make one
  pub ascending_append : (rank : A → ℕ) (xs ys : List A) → Ascending rank xs → Ascending rank ys → ((x y : A) → Memᴰ x xs → Memᴰ y ys → rank x < rank y)
      → Ascending rank (xs ++ ys)
  ascending_append rank [] ys p q h = q
  ascending_append rank (x ∷ xs) ys p q h =
      (λ z m. below z (Memᴰ.append_cases xs m), ascending_append rank xs ys p.1 q (λ a b m n. h a b (Memᴰ.tail m) n))
    where
      below : (z : A) → Memᴰ z xs ⊎ Memᴰ z ys → rank x < rank z
      below z (inl m) = p.0 z m
      below z (inr n) = h x z (Memᴰ.head refl) n

module _ {A B : Type 0} where
  pub each_append : (xs ys : List A) (f : A → List B) → each (xs ++ ys) f ≡ each xs f ++ each ys f
  unfolding each
  each_append [] ys f = refl
  each_append (x ∷ xs) ys f = ap (λ (l : List B). f x ++ l) (each_append xs ys f) ∙ sym (append_assoc (f x) (each xs f) (each ys f))

  -- the members are those of the lists
  pub mem_each : (xs : List A) (f : A → List B) (y : B) → Memᴰ y (each xs f) → (x : A) × Memᴰ x xs × Memᴰ y (f x)
  unfolding each
  mem_each [] f y m = absurd (Memᴰ.not-nil m)
  mem_each (x ∷ xs) f y m = pick (λ n. mem_each xs f y n) (Memᴰ.append_cases (f x) m)
    where
      pick : (Memᴰ y (each xs f) → (z : A) × Memᴰ z xs × Memᴰ y (f z)) → Memᴰ y (f x) ⊎ Memᴰ y (each xs f)
          → (z : A) × Memᴰ z (x ∷ xs) × Memᴰ y (f z)
      pick rec (inl n) = (x, Memᴰ.head refl, n)
      pick rec (inr n) = let t = rec n in (t.0, Memᴰ.tail t.1, t.2)

  pub in_each : (xs : List A) (f : A → List B) (x : A) (y : B) → Memᴰ x xs → Memᴰ y (f x) → Memᴰ y (each xs f)
  unfolding each
  in_each [] f x y m n = absurd (Memᴰ.not-nil m)
  in_each (z ∷ xs) f x y m n = of_cons (λ w. Memᴰ y (f w) → Memᴰ y (f z ++ each xs f)) (λ k. Memᴰ.append_left (each xs f) k)
      (λ l k. Memᴰ.append_right (f z) (in_each xs f x y l k)) m n

  -- lists with the same members give lists with the same members
  pub each_same : (xs ys : List A) (f : A → List B) → SameMembers xs ys → SameMembers (each xs f) (each ys f)
  each_same xs ys f same y = (move xs ys (λ x. (same x).0), move ys xs (λ x. (same x).1))
    where
      move : (us vs : List A) → ((x : A) → Memᴰ x us → Memᴰ x vs) → Memᴰ y (each us f) → Memᴰ y (each vs f)
      move us vs h m = let t = mem_each us f y m in in_each vs f t.0 y (h t.0 t.1) t.2

  -- ascending lists of an ascending list's members, each ranking below those after it, make an ascending list
  pub ascending_each : (rank : A → ℕ) (sub : B → ℕ) (xs : List A) (f : A → List B)
      → Ascending rank xs
      → ((x : A) → Memᴰ x xs → Ascending sub (f x))
      → ((x y : A) → Memᴰ x xs → Memᴰ y xs → rank x < rank y → (a b : B) → Memᴰ a (f x) → Memᴰ b (f y) → sub a < sub b)
      → Ascending sub (each xs f)
  unfolding each
  ascending_each rank sub [] f p q h = tt
  ascending_each rank sub (x ∷ xs) f p q h =
      ascending_append sub (f x) (each xs f) (q x (Memᴰ.head refl))
      (ascending_each rank sub xs f p.1 (λ z m. q z (Memᴰ.tail m)) (λ y z m n. h y z (Memᴰ.tail m) (Memᴰ.tail n)))
      (λ a b m n. let t = mem_each xs f b n in h x t.0 (Memᴰ.head refl) (Memᴰ.tail t.1) (p.0 t.0 t.1) a b m t.2)

  -- the same where the lists rank in consecutive ranges of one size, from a start
  pub ascending_blocks : (start size : ℕ) (rank : A → ℕ) (sub : B → ℕ) (xs : List A) (f : A → List B)
      → Ascending rank xs
      → ((x : A) → Memᴰ x xs → Ascending sub (f x))
      → ((x : A) → Memᴰ x xs → (a : B) → Memᴰ a (f x) → (start + rank x * size ≤ sub a) × (sub a < start + suc (rank x) * size))
      → Ascending sub (each xs f)
  ascending_blocks start size rank sub xs f p q h =
      ascending_each rank sub xs f p q (λ x y m n l a b j k. omega (arith, (h x m a j).1, (h y n b k).0, mul-le-mul_right size l))

-- a loop over numbers from one on, and from zero on: one turn more
pub each_from_one : {B : Type 0} (k : ℕ) (f : ℕ → List B) → 1 ≤ k → each (list_from 1 (k + 1 - 1) (λ c. c)) f ≡ each (list_from 1 (k - 1) (λ c. c)) f ++ f k
unfolding each
each_from_one {B} k f h =
    let more : k + 1 - 1 ≡ suc (k - 1) = omega arith in
    let last : 1 + (k - 1) ≡ k = omega arith in
    ap (λ (j : ℕ). each (list_from 1 j (λ c. c)) f) more ∙ ap (λ (l : List ℕ). each l f) (list_from_more 1 (k - 1) (λ c. c))
    ∙ each_append (list_from 1 (k - 1) (λ c. c)) ((1 + (k - 1)) ∷ []) f
    ∙ ap (λ (l : List B). each (list_from 1 (k - 1) (λ c. c)) f ++ l) (append-nil (f (1 + (k - 1))) ∙ ap f last)

pub each_from_zero : {B : Type 0} (k : ℕ) (f : ℕ → List B) → each (list_below (k + 1) (λ c. c)) f ≡ each (list_below k (λ c. c)) f ++ f k
unfolding each
each_from_zero {B} k f =
    ap (λ (j : ℕ). each (list_below j (λ c. c)) f) (add-one k) ∙ ap (λ (l : List ℕ). each l f) (list_below_more k (λ c. c))
    ∙ each_append (list_below k (λ c. c)) (k ∷ []) f ∙ ap (λ (l : List B). each (list_below k (λ c. c)) f ++ l) (append-nil (f k))

-- more numbers make no shorter list
pub each_grows : {B : Type 0} (i j k : ℕ) (f : ℕ → List B) → j ≤ k → length (each (list_from i j (λ c. c)) f) ≤ length (each (list_from i k (λ c. c)) f)
unfolding each list_from
each_grows i zero k f h = zero-le
each_grows i (suc j) zero f h = absurd (not-suc-le-zero h)
each_grows i (suc j) (suc k) f h = simp length-append (omega (arith, each_grows (suc i) j k f (le_of_suc-le-suc h)))

-- lists of one element where a test passes, and of none elsewhere, are counted by it
pub each_counts : {B : Type 0} (k : ℕ) (f : ℕ → List B) (p : ℕ → Bool) → ((x : ℕ) → length (f x) ≡ one_if (p x)) → length (each (list_below k (λ c. c)) f) ≡ count_below k p
unfolding count_below each list_below list_from
each_counts zero f p h = refl
each_counts (suc k) f p h =
    ap length (ap (λ (j : ℕ). each (list_below j (λ c. c)) f) (sym (add-one k)) ∙ each_from_zero k f)
    ∙ length-append (each (list_below k (λ c. c)) f) (f k) ∙ ap₂ (λ (a b : ℕ). a + b) (each_counts k f p h) (h k)

-- an array whose first k elements were lent and have come back: that part is within it, and is what came back
pub part_inside : {A : Type 0} (last old : List A) (k : ℕ) → length last ≡ k → k ≤ length (last ++ drop k old)
part_inside last old k h = simp length-append (omega arith)

pub part_is : {A : Type 0} (last old : List A) (k : ℕ) → length last ≡ k → take k (last ++ drop k old) ≡ last
part_is last old k h = take_at last (drop k old) k h

-- what is past a place, as `&l[h..]` hands it on
pub upper_part : {A : Type 0} (h : ℕ) (l : List A) → take (length l - h) (drop h l) ≡ drop h l
upper_part h l = take_all (length l - h) (drop h l) (omega (arith, length-drop h l))

-- a list of zeros, at each place and past its end
pub zeroes : (n k : ℕ) → at (replicate n 0) k ≡ 0
zeroes zero k = refl
zeroes (suc n) zero = refl
zeroes (suc n) (suc k) = zeroes n k

-- what follows a place: so many entries, and the rest
pub part_then : {A : Type 0} (start n : ℕ) (l : List A) → drop start l ≡ take n (drop start l) ++ drop (start + n) l
part_then {A} start n l = sym (take-append-drop n (drop start l)) ∙ ap (λ (r : List A). take n (drop start l) ++ r) (drop-drop n start l)
