-- A selection's result is the best of the candidates and the first of its worth, and with ranks it does not depend on the order of visiting.
use mathlib.Core.Path.{◌≡◌, refl, sym, ap, ◌∙◌, subst}
use mathlib.Core.Logic.{◌⊎◌, inl, inr}
use mathlib.Core.Bool.{Bool, true, false, ◌&&◌, ◌||◌, true≢false, false≢true}
use mathlib.Core.List.Memᴰ
use mathlib.Core.List.{List, [], ◌∷◌, ◌++◌, Memᴰ}
use Prim.Native.Nat.{ℕ, ◌<◌, ◌≤◌}
use native.Mathlib.Nat.{le_refl}
use native.Mathlib.Omega.{arith}
use borrow.Author.Tests.{ltb-true, ltb-false, eqb-true, eqb-false, le-ltb}
use lib.Dec.{ltb, eqb}
use Rattle.boolean.specs.Selection.{Candidate, best, lower, higher, first_best, first_least, first_largest, Ascending, SameMembers, ranked, FirstIn, here, there}
use Rattle.boolean.specs.Statements.{Ordered, ByFigure}

-- a member of a list is its head or a member of the rest
pub of_cons : {C : Type 0} (P : C → Type 0) {c d : C} {cs : List C} → P d → (Memᴰ c cs → P c) → Memᴰ c (d ∷ cs) → P c
of_cons P p q (Memᴰ.head e) = subst P (sym e) p
of_cons P p q (Memᴰ.tail m) = q m

-- one step
module _ {C : Type 0} (beats : C → C → Bool) where
  pub best_takes : (b c : C) (cs : List C) → beats c b ≡ true → best beats b (c ∷ cs) ≡ best beats c cs
  unfolding best
  best_takes b c cs e = rw (e, best)

  pub best_keeps : (b c : C) (cs : List C) → beats c b ≡ false → best beats b (c ∷ cs) ≡ best beats b cs
  unfolding best
  best_keeps b c cs e = rw (e, best)

  -- what holds both ways of the step
  pub best_step : (P : C → Type 0) (b c : C) (cs : List C) → (beats c b ≡ true → P (best beats c cs)) → (beats c b ≡ false → P (best beats b cs)) → P (best beats b (c ∷ cs))
  best_step P b c cs p q = go (beats c b) refl
    where
      go : (t : Bool) → beats c b ≡ t → P (best beats b (c ∷ cs))
      go true e = rw (best_takes b c cs e) (p e)
      go false e = rw (best_keeps b c cs e) (q e)

  -- a list in two parts: what a loop does
  pub best_append : (b : C) (xs ys : List C) → best beats b (xs ++ ys) ≡ best beats (best beats b xs) ys
  unfolding best
  best_append b [] ys = refl
  best_append b (x ∷ xs) ys =
      best_step (λ z. best beats b (x ∷ (xs ++ ys)) ≡ best beats z ys) b x xs
      (λ e. best_takes b x (xs ++ ys) e ∙ best_append x xs ys) (λ e. best_keeps b x (xs ++ ys) e ∙ best_append b xs ys)

  -- the result is one of the candidates
  pub best_mem : (b : C) (cs : List C) → Memᴰ (best beats b cs) (b ∷ cs)
  unfolding best
  best_mem b [] = Memᴰ.head refl
  best_mem b (c ∷ cs) = best_step (λ z. Memᴰ z (b ∷ c ∷ cs)) b c cs (λ e. Memᴰ.tail (best_mem c cs)) (λ e. skip (best_mem b cs))
    where
      skip : {r : C} → Memᴰ r (b ∷ cs) → Memᴰ r (b ∷ c ∷ cs)
      skip (Memᴰ.head e) = Memᴰ.head e
      skip (Memᴰ.tail m) = Memᴰ.tail (Memᴰ.tail m)

  -- where no candidate beats b the result is b
  pub best_stays : (b : C) (cs : List C) → ((c : C) → Memᴰ c cs → beats c b ≡ false) → best beats b cs ≡ b
  unfolding best
  best_stays b [] h = refl
  best_stays b (c ∷ cs) h = best_keeps b c cs (h c (Memᴰ.head refl)) ∙ best_stays b cs (λ d m. h d (Memᴰ.tail m))

  -- it is r where r beats b and each candidate before it, and none beats r
  best_found : (r b : C) {cs : List C} → beats r b ≡ true → FirstIn (λ r c. beats r c ≡ true) r cs → ((c : C) → Memᴰ c cs → beats c r ≡ false)
      → best beats b cs ≡ r
  best_found r b t (here {cs}) h = best_takes b r cs t ∙ best_stays r cs (λ d m. h d (Memᴰ.tail m))
  best_found r b t (there {c} {cs} s f) h =
      best_step (λ z. z ≡ r) b c cs (λ e. best_found r c s f (λ d m. h d (Memᴰ.tail m))) (λ e. best_found r b t f (λ d m. h d (Memᴰ.tail m)))

  pub best_is : (b r : C) {cs : List C} → beats r b ≡ true → FirstIn (λ r c. beats r c ≡ true) r cs → ((c : C) → Memᴰ c cs → beats c r ≡ false)
      → best beats b cs ≡ r
  best_is b r = best_found r b

  -- a start that the first candidate equals, or that it beats, leaves no trace
  pub best_from : (b c : C) (cs : List C) → (b ≡ c) ⊎ (beats c b ≡ true) → best beats b (c ∷ cs) ≡ best beats c cs
  best_from b c cs (inl e) = best_step (λ z. z ≡ best beats c cs) b c cs (λ t. refl) (λ t. ap (λ (z : C). best beats z cs) e)
  best_from b c cs (inr t) = best_takes b c cs t

-- along rising ranks, two comparisons that agree on a candidate and one of a lower rank choose the same
pub best_agrees : {C : Type 0} (beats other : C → C → Bool) (rank : C → ℕ) (b : C) (cs : List C) → Ascending rank (b ∷ cs)
    → ((x y : C) → Memᴰ y cs → rank x < rank y → beats y x ≡ other y x) → best beats b cs ≡ best other b cs
unfolding best
best_agrees beats other rank b [] a h = refl
best_agrees beats other rank b (c ∷ cs) a h =
    let same = h b c (Memᴰ.head refl) (a.0 c (Memᴰ.head refl)) in
    best_step beats (λ z. z ≡ best other b (c ∷ cs)) b c cs
    (λ e. best_agrees beats other rank c cs a.1 (λ x y m. h x y (Memᴰ.tail m)) ∙ sym (best_takes other b c cs (sym same ∙ e)))
    (λ e.
    best_agrees beats other rank b cs (λ d m. a.0 d (Memᴰ.tail m), a.1.1) (λ x y m. h x y (Memᴰ.tail m))
    ∙ sym (best_keeps other b c cs (sym same ∙ e)))

module _ {C : Type 0} {beats : C → C → Bool} {R S : C → C → Type 0} (o : Ordered beats R S) where
  -- the result is at least as good as each candidate
  pub best_all : (b : C) (cs : List C) (c : C) → Memᴰ c (b ∷ cs) → R (best beats b cs) c
  unfolding best
  best_all b [] c m = of_cons (R b) (o.same b) (λ n. absurd (Memᴰ.not-nil n)) m
  best_all b (d ∷ cs) c m = best_step beats (λ z. R z c) b d cs
      (λ e. of_cons (R (best beats d cs)) (o.trans _ d b (best_all d cs d (Memᴰ.head refl)) (o.weak d b (o.wins d b e))) (λ n. best_all d cs c n) m)
      (λ e.
      let h = best_all b cs b (Memᴰ.head refl) in
      of_cons (R (best beats b cs)) h (λ n. of_cons (R (best beats b cs)) (o.trans _ b d h (o.loses d b e)) (λ k. best_all b cs c (Memᴰ.tail k)) n) m)

  -- it is better than each candidate before it
  pub best_first : (b : C) (cs : List C) → FirstIn S (best beats b cs) (b ∷ cs)
  unfolding best
  best_first b [] = here
  best_first b (c ∷ cs) = best_step beats (λ z. FirstIn S z (b ∷ c ∷ cs)) b c cs
      (λ e. there (o.left _ c b (best_all c cs c (Memᴰ.head refl)) (o.wins c b e)) (best_first c cs))
      (λ e. insert (o.loses c b e) (best_first b cs))
    where
      insert : {r : C} → R b c → FirstIn S r (b ∷ cs) → FirstIn S r (b ∷ c ∷ cs)
      insert q here = here
      insert {r} q (there s f) = there s (there (o.right r b c s q) f)

  -- where each candidate of another list has one here that is as good, so has its result
  pub best_below : (b : C) (cs : List C) (d : C) (ds : List C) → ((y : C) → Memᴰ y (d ∷ ds) → (x : C) × Memᴰ x (b ∷ cs) × R x y)
      → R (best beats b cs) (best beats d ds)
  best_below b cs d ds h =
      let t = h (best beats d ds) (best_mem beats d ds) in
      o.trans _ t.0 _ (best_all b cs t.0 t.1) t.2

-- the first least
abbrev pub Le : Candidate → Candidate → Type 0
Le a b = a.figure ≤ b.figure

abbrev pub Lt : Candidate → Candidate → Type 0
Lt a b = a.figure < b.figure

pub least : Ordered lower Le Lt
least = omega (arith, ltb-true, ltb-false)

-- the first largest
abbrev pub Ge : Candidate → Candidate → Type 0
Ge a b = b.figure ≤ a.figure

abbrev pub Gt : Candidate → Candidate → Type 0
Gt a b = b.figure < a.figure

pub largest : Ordered higher Ge Gt
largest = omega (arith, ltb-true, ltb-false)

-- two starts of one figure give the same where some candidate beats them
best_same : (b d : Candidate) (cs : List Candidate) → b.figure ≡ d.figure → (c : Candidate) → Memᴰ c cs → d.figure < c.figure
    → best higher b cs ≡ best higher d cs
best_same b d [] e c m l = absurd (Memᴰ.not-nil m)
best_same b d (x ∷ cs) e c m l =
    best_step higher (λ z. best higher b (x ∷ cs) ≡ z) d x cs (λ t. best_takes higher b x cs (same ∙ t))
    (λ t.
    best_keeps higher b x cs (same ∙ t)
    ∙ of_cons (λ z. d.figure < z.figure → best higher b cs ≡ best higher d cs) (λ k. absurd (omega (arith, ltb-false d.figure x.figure t)))
    (λ n k. best_same b d cs e c n k) m l)
  where
    same : higher x b ≡ higher x d
    same = ap (λ (k : ℕ). ltb k x.figure) e

-- a loop starts from figure 0, which some candidate exceeds
pub first_largest_above : (b : Candidate) (cs : List Candidate) → b.figure ≡ 0 → (c : Candidate) → Memᴰ c cs → 0 < c.figure
    → best higher b cs ≡ first_largest cs
unfolding first_largest
first_largest_above b [] e c m l = absurd (Memᴰ.not-nil m)
first_largest_above b (x ∷ cs) e c m l =
    best_step higher (λ z. z ≡ best higher x cs) b x cs (λ t. refl)
    (λ t.
    let z = ltb-false b.figure x.figure t in
    best_same b x cs (omega arith) c (of_cons (λ d. 0 < d.figure → Memᴰ d cs) (λ k. absurd (omega arith)) (λ n k. n) m l) (omega arith))

-- the first best is r where r beats each candidate before it, and none beats r
pub first_is : (beats : Candidate → Candidate → Bool) (r : Candidate) {cs : List Candidate} → FirstIn (λ r c. beats r c ≡ true) r cs
    → ((c : Candidate) → Memᴰ c cs → beats c r ≡ false) → first_best beats cs ≡ r
first_is beats r (here {cs}) h = best_stays beats r cs (λ d m. h d (Memᴰ.tail m))
first_is beats r (there {c} {cs} s f) h = best_is beats c r s f (λ d m. h d (Memᴰ.tail m))

-- ---- ties broken by a rank
-- along rising ranks, no two of one rank
pub ascending_one : {C : Type 0} (rank : C → ℕ) (cs : List C) → Ascending rank cs → (x y : C) → Memᴰ x cs → Memᴰ y cs → rank x ≡ rank y → x ≡ y
ascending_one rank [] a x y p q e = absurd (Memᴰ.not-nil p)
ascending_one rank (c ∷ cs) a x y (Memᴰ.head u) (Memᴰ.head v) e = u ∙ sym v
ascending_one rank (c ∷ cs) a x y (Memᴰ.head u) (Memᴰ.tail q) e = absurd (omega (arith, ap rank u, a.0 y q))
ascending_one rank (c ∷ cs) a x y (Memᴰ.tail p) (Memᴰ.head v) e = absurd (omega (arith, ap rank v, a.0 x p))
ascending_one rank (c ∷ cs) a x y (Memᴰ.tail p) (Memᴰ.tail q) e = ascending_one rank cs a.1 x y p q e

-- along rising ranks the first best is the ranked choice
module _ (beats : Candidate → Candidate → Bool) (rank : Candidate → ℕ) where
  agree : (b c : Candidate) → rank b < rank c → ranked beats rank c b ≡ beats c b
  agree b c h =
      ap (λ (z : Bool). beats c b || (eqb c.figure b.figure && z)) (le-ltb (rank c) (rank b) (omega arith))
      ∙ tidy (beats c b) (eqb c.figure b.figure)
    where
      tidy : (x y : Bool) → (x || (y && false)) ≡ x
      tidy true y = refl
      tidy false true = refl
      tidy false false = refl

  pub first_is_ranked : (cs : List Candidate) → Ascending rank cs → first_best beats cs ≡ first_best (ranked beats rank) cs
  first_is_ranked [] a = refl
  first_is_ranked (c ∷ cs) a = best_agrees beats (ranked beats rank) rank c cs a (λ x y m l. sym (agree x y l))

pub by_least : ByFigure Le Lt
by_least = omega arith

pub by_largest : ByFigure Ge Gt
by_largest = omega arith

module _ {beats : Candidate → Candidate → Bool} {R S : Candidate → Candidate → Type 0} (o : Ordered beats R S) (f : ByFigure R S) (rank : Candidate → ℕ) where
  -- better, or of the same figure and no higher rank
  abbrev pub Lex : Candidate → Candidate → Type 0
  Lex a b = S a b ⊎ ((a.figure ≡ b.figure) × (rank a ≤ rank b))

  pub lex_trans : (a b c : Candidate) → Lex a b → Lex b c → Lex a c
  lex_trans a b c (inl p) (inl q) = inl (o.right a b c p (o.weak b c q))
  lex_trans a b c (inl p) (inr q) = inl (o.right a b c p (f.equal b c q.0))
  lex_trans a b c (inr p) (inl q) = inl (o.left a b c (f.equal a b p.0) q)
  lex_trans a b c (inr p) (inr q) = inr (omega arith)

  -- each as good as the other: they are one, where no two are of one rank
  pub lex_both : (r s : Candidate) → (rank r ≡ rank s → r ≡ s) → Lex r s → Lex s r → r ≡ s
  lex_both r s e (inl h) (inl k) = absurd (f.strict r s h (o.weak s r k))
  lex_both r s e (inl h) (inr k) = absurd (f.strict r s h (f.equal s r k.0))
  lex_both r s e (inr h) (inl k) = absurd (f.strict s r k (f.equal r s h.0))
  lex_both r s e (inr h) (inr k) = e (omega arith)

  lex_wins : (c b : Candidate) → ranked beats rank c b ≡ true → Lex c b
  lex_wins c b = go (beats c b) (eqb c.figure b.figure) (ltb (rank c) (rank b)) (o.wins c b) (eqb-true _ _) (ltb-true _ _)
    where
      go : (x y z : Bool) → (x ≡ true → S c b) → (y ≡ true → c.figure ≡ b.figure) → (z ≡ true → rank c < rank b) → (x || (y && z)) ≡ true → Lex c b
      go true y z p q r t = inl (p refl)
      go false true true p q r t = let h = r refl in inr (q refl, omega arith)
      go false true false p q r t = absurd (false≢true t)
      go false false z p q r t = absurd (false≢true t)

  lex_loses : (c b : Candidate) → ranked beats rank c b ≡ false → Lex b c
  lex_loses c b = go (beats c b) (eqb c.figure b.figure) (ltb (rank c) (rank b)) (o.loses c b) (eqb-true _ _) (eqb-false _ _) (ltb-false _ _)
    where
      go : (x y z : Bool) → (x ≡ false → R b c) → (y ≡ true → c.figure ≡ b.figure) → (y ≡ false → c.figure ≡ b.figure → ⊥) → (z ≡ false → rank b ≤ rank c)
          → (x || (y && z)) ≡ false → Lex b c
      go true y z p q n r t = absurd (true≢false t)
      go false true true p q n r t = absurd (true≢false t)
      go false true false p q n r t = inr (sym (q refl), r refl)
      go false false z p q n r t = inl (f.unequal b c (p refl) (λ e. n refl (sym e)))

  ranked_ordered : Ordered (ranked beats rank) Lex Lex
  ranked_ordered = record {
    same = λ a. inr (refl, le_refl (rank a));
    trans = lex_trans;
    weak = λ a b h. h;
    left = lex_trans;
    right = lex_trans;
    wins = lex_wins;
    loses = lex_loses;
  }

  -- the ranked choice is better than each candidate, or has its figure and no higher rank
  pub ranked_all : (b : Candidate) (cs : List Candidate) (c : Candidate) → Memᴰ c (b ∷ cs)
      → S (best (ranked beats rank) b cs) c ⊎ (((best (ranked beats rank) b cs).figure ≡ c.figure) × (rank (best (ranked beats rank) b cs) ≤ rank c))
  ranked_all = best_all ranked_ordered

  -- the same candidates in any order, repeated or not, no two of one rank
  pub ranked_order : (cs ds : List Candidate) → ((x y : Candidate) → Memᴰ x cs → Memᴰ y cs → rank x ≡ rank y → x ≡ y) → SameMembers cs ds
      → first_best (ranked beats rank) cs ≡ first_best (ranked beats rank) ds
  ranked_order [] [] one same = refl
  ranked_order [] (d ∷ ds) one same = absurd (Memᴰ.not-nil ((same d).1 (Memᴰ.head refl)))
  ranked_order (c ∷ cs) [] one same = absurd (Memᴰ.not-nil ((same c).0 (Memᴰ.head refl)))
  ranked_order (c ∷ cs) (d ∷ ds) one same =
      let by : Candidate → Candidate → Bool = ranked beats rank in
      let r = best by c cs in
      let s = best by d ds in
      lex_both r s (one r s (best_mem by c cs) ((same s).1 (best_mem by d ds)))
      (best_below ranked_ordered c cs d ds (λ y m. (y, (same y).1 m, ranked_ordered.same y)))
      (best_below ranked_ordered d ds c cs (λ x m. (x, (same x).0 m, ranked_ordered.same x)))

  -- candidates with rising ranks, visited in any order: the ranked choice is the first best
  pub any_order : (cs visited : List Candidate) → Ascending rank cs → SameMembers visited cs → first_best (ranked beats rank) visited ≡ first_best beats cs
  any_order cs visited a same =
      sym (first_is_ranked beats rank cs a ∙ ranked_order cs visited (ascending_one rank cs a) (λ x. ((same x).1, (same x).0)))

-- ---- the first best of a list, whatever it is called: its laws, once for all comparisons
pub record Chooses (beats : Candidate → Candidate → Bool) (R S : Candidate → Candidate → Type 0) (first : List Candidate → Candidate) : Type 0 where
  -- it is at least as good as each candidate
  pub all : (cs : List Candidate) (c : Candidate) → Memᴰ c cs → R (first cs) c
  -- where there is one, it is one of them, and better than each before it
  pub mem : {cs : List Candidate} {d : Candidate} {ds : List Candidate} → cs ≡ d ∷ ds → Memᴰ (first cs) cs
  pub early : {cs : List Candidate} {d : Candidate} {ds : List Candidate} → cs ≡ d ∷ ds → FirstIn S (first cs) cs
  -- a list in two parts
  pub append : (c : Candidate) (cs ds : List Candidate) → first ((c ∷ cs) ++ ds) ≡ best beats (first (c ∷ cs)) ds
  -- a loop starts from a candidate that the first one beats
  pub from : (b c : Candidate) (cs : List Candidate) → beats c b ≡ true → best beats b (c ∷ cs) ≡ first (c ∷ cs)
  -- with rising ranks the candidates may be visited in any order
  pub visited : (rank : Candidate → ℕ) (cs ds : List Candidate) → Ascending rank cs → SameMembers ds cs → first_best (ranked beats rank) ds ≡ first cs

chooses : {beats : Candidate → Candidate → Bool} {R S : Candidate → Candidate → Type 0} → Ordered beats R S → ByFigure R S → Chooses beats R S (first_best beats)
chooses {beats} {R} {S} o f = record {
  all = all;
  mem = λ {cs} {d} {ds} e. subst (λ (l : List Candidate). Memᴰ (first_best beats l) l) (sym e) (best_mem beats d ds);
  early = λ {cs} {d} {ds} e. subst (λ (l : List Candidate). FirstIn S (first_best beats l) l) (sym e) (best_first o d ds);
  append = best_append beats;
  from = best_takes beats;
  visited = any_order o f;
}
  where
    all : (cs : List Candidate) (c : Candidate) → Memᴰ c cs → R (first_best beats cs) c
    all [] c m = absurd (Memᴰ.not-nil m)
    all (b ∷ cs) c m = best_all o b cs c m

pub first_least_chooses : Chooses lower Le Lt first_least
unfolding first_least
first_least_chooses = chooses least by_least

pub first_largest_chooses : Chooses higher Ge Gt first_largest
unfolding first_largest
first_largest_chooses = chooses largest by_largest

-- what is first along rising ranks stands to each candidate of a lower rank as to those before it
pub first_ranked : {C : Type 0} (rank : C → ℕ) (S : C → C → Type 0) {r : C} {cs : List C} → Ascending rank cs → FirstIn S r cs
    → (c : C) → Memᴰ c cs → rank c < rank r → S r c
first_ranked rank S {r} a here c m l = of_cons (λ z. rank z < rank r → S r z) (λ k. absurd (omega arith)) (λ n k. absurd (omega (arith, a.0 c n))) m l
first_ranked rank S {r} a (there s f) c m l = of_cons (S r) s (λ n. first_ranked rank S a.1 f c n l) m

-- a member that stands so to each candidate of a lower rank is first
pub ranked_first : {C : Type 0} (rank : C → ℕ) (S : C → C → Type 0) (r : C) (cs : List C) → Ascending rank cs → Memᴰ r cs
    → ((c : C) → Memᴰ c cs → rank c < rank r → S r c) → FirstIn S r cs
ranked_first rank S r [] a m h = absurd (Memᴰ.not-nil m)
ranked_first rank S r (c ∷ cs) a (Memᴰ.head e) h = rw (← e) here
ranked_first rank S r (c ∷ cs) a (Memᴰ.tail m) h =
    there (h c (Memᴰ.head refl) (a.0 r m)) (ranked_first rank S r cs a.1 m (λ d n. h d (Memᴰ.tail n)))
