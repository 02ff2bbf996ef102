-- What is said of a figure and its witness settles both: one law, for the least and for the largest, and the order of each call's witnesses.
-- Assumes nothing.
use Rattle.std.specs.Prelude.{Ok}
use Prim.Native.Nat.{ℕ, ◌^◌, ◌≤◌, ◌<◌}
use mathlib.Core.Path.{◌≡◌, refl, sym, ap₂, ◌∙◌, subst}
use mathlib.Core.Logic.{◌⊎◌, inl, inr, ⊎_elim}
use mathlib.Core.List.{List, [], ◌∷◌, ◌++◌}
use native.Mathlib.Decide.{dec_lt}
use native.Mathlib.Nat.{le_antisymm}
use native.Mathlib.Omega.{arith}
use lib.Count.{ones}
use Rattle.boolean.specs.Functions.{MaskWithin, MaskBefore, component, degree, distance}
use Rattle.refusals.specs.Table.{first, Reply, figures, box_checks, limit_checks}
use Rattle.linear.specs.Nonlinearity.{nonlinearity_reply}
use Rattle.linear.specs.Statements.{IsPair, PairBefore}
use Rattle.linear.proofs.Theorems as linear
use Rattle.differential.specs.XorTable.{cell}
use Rattle.differential.specs.Calls.{largest_cell_reply}
use Rattle.differential.specs.Statements.{IsCell, CellBefore}
use Rattle.differential.proofs.Theorems as differential
use Rattle.avalanche.specs.Statements.{IsChange, ChangeBefore, LargestReported}
use Rattle.algebraic.specs.Calls.{box_degree_reply}
use Rattle.algebraic.proofs.Theorems as algebraic
use Rattle.rounds.specs.Round.{Summand, first_given, joined, sum_distance, sum_checks, sum_reply}
use Rattle.rounds.specs.Statements.{MasksFit, IsSumPair, Lex, SumBefore}
use Rattle.rounds.proofs.Masks.{joined_lt}
use Rattle.rounds.proofs.Reported as rounds

-- ---- the law: of witnesses x, of which one comes before another or is it, the first that has the best figure is one, and so is the figure
module _ {W : Type 0} (Member : W → Type 0) (figure : W → ℕ) (Before : W → W → Type 0) (Best Better : ℕ → ℕ → Type 0) where
  pub record FirstBest (d : ℕ) (x : W) : Type 0 where
    pub member : Member x
    pub reached : figure x ≡ d
    pub best : (y : W) → Member y → Best d (figure y)
    pub before : (y : W) → Member y → Before y x → Better d (figure y)

  pub one_best : ((a b : ℕ) → Best a b → Best b a → a ≡ b) → ((a : ℕ) → Better a a → ⊥)
      → ((x y : W) → Member x → Member y → Before x y ⊎ (Before y x ⊎ (x ≡ y)))
      → (told : ℕ → W → Reply) {reply : Reply} {d e : ℕ} {x y : W} → FirstBest d x → reply ≡ told d x → FirstBest e y → reply ≡ told e y
  one_best antisymmetric irreflexive apart told {d = d} {e = e} {x = x} {y = y} p r q =
      r ∙ ap₂ told same
      (⊎_elim (λ l. absurd (earlier l)) (λ t. ⊎_elim (λ l. absurd (later l)) (λ s. s) t) (apart x y p.member q.member))
    where
      same : d ≡ e
      same =
          antisymmetric d e (subst (Best d) q.reached (p.best y q.member)) (subst (Best e) p.reached (q.best x p.member))

      earlier : Before x y → ⊥
      earlier l = irreflexive e (subst (Better e) (p.reached ∙ same) (q.before x p.member l))

      later : Before y x → ⊥
      later l = irreflexive d (subst (Better d) (q.reached ∙ sym same) (p.before y q.member l))

least_same : (a b : ℕ) → a ≤ b → b ≤ a → a ≡ b
least_same a b p q = le_antisymm p q

largest_same : (a b : ℕ) → b ≤ a → a ≤ b → a ≡ b
largest_same a b p q = le_antisymm q p

not_below : (a : ℕ) → a < a → ⊥
not_below a l = omega arith

-- ---- the orders
number_apart : (a b : ℕ) → (a < b) ⊎ ((b < a) ⊎ (a ≡ b))
number_apart a b = pick (dec_lt a b) (dec_lt b a)
  where
    pick : Dec (a < b) → Dec (b < a) → (a < b) ⊎ ((b < a) ⊎ (a ≡ b))
    pick (yes l) r = inl l
    pick (no l) (yes k) = inr (inl k)
    pick (no l) (no k) = inr (inr (omega arith))

-- by one thing, and where that is the same by another
then_by : {A : Type 0} {x y : A} {P Q R S T : Type 0} → P ⊎ (Q ⊎ (x ≡ y)) → R ⊎ (S ⊎ T)
    → (P ⊎ ((x ≡ y) × R)) ⊎ ((Q ⊎ ((y ≡ x) × S)) ⊎ ((x ≡ y) × T))
then_by (inl p) r = inl (inl p)
then_by (inr (inl q)) r = inr (inl (inl q))
then_by (inr (inr e)) (inl r) = inl (inr (e, r))
then_by (inr (inr e)) (inr (inl s)) = inr (inl (inr (sym e, s)))
then_by (inr (inr e)) (inr (inr t)) = inr (inr (e, t))

mask_apart : (c c' : ℕ) → MaskBefore c c' ⊎ (MaskBefore c' c ⊎ (c ≡ c'))
mask_apart c c' =
    ⊎_elim (λ l. inl l) (λ t. inr (⊎_elim (λ l. inl l) (λ e. inr e.1) t)) (then_by (number_apart (ones c) (ones c')) (number_apart c c'))

-- a third thing beside the second
spread : {P E R F S : Type 0} → P ⊎ (E × (R ⊎ (F × S))) → P ⊎ ((E × R) ⊎ (E × F × S))
spread (inl p) = inl p
spread (inr t) = inr (⊎_elim (λ r. inl (t.0, r)) (λ u. inr (t.0, u.0, u.1)) t.1)

masks_apart : (ss : List Summand) (vs ws : List ℕ) → MasksFit ss vs → MasksFit ss ws → Lex vs ws ⊎ (Lex ws vs ⊎ (vs ≡ ws))
masks_apart [] [] [] f g = inr (inr refl)
masks_apart [] [] (w ∷ ws) f g = absurd g
masks_apart [] (v ∷ vs) ws f g = absurd f
masks_apart (s ∷ ss) [] ws f g = absurd f
masks_apart (s ∷ ss) (v ∷ vs) [] f g = absurd g
masks_apart (s ∷ ss) (v ∷ vs) (w ∷ ws) f g =
    ⊎_elim (λ l. inl l) (λ t. inr (⊎_elim (λ l. inl l) (λ e. inr (ap₂ (λ (x : ℕ) (xs : List ℕ). x ∷ xs) e.0 e.1)) t))
    (then_by (number_apart v w) (masks_apart ss vs ws f.1 g.1))

-- where what comes before is said another way
said : {P Q R S T U : Type 0} → (P → R) → (Q → S) → (T → U) → P ⊎ (Q ⊎ T) → R ⊎ (S ⊎ U)
said f g h (inl p) = inl (f p)
said f g h (inr (inl q)) = inr (inl (g q))
said f g h (inr (inr t)) = inr (inr (h t))

changes_apart : (p q : ℕ × ℕ) → ChangeBefore p.0 p.1 q.0 q.1 ⊎ (ChangeBefore q.0 q.1 p.0 p.1 ⊎ (p ≡ q))
changes_apart p q =
    said (λ l. l) (λ l. l) (λ e k. (e.0 k, e.1 k)) (then_by (mask_apart p.0 q.0) (number_apart p.1 q.1))

cells_apart : (p q : ℕ × ℕ) → CellBefore p.0 p.1 q.0 q.1 ⊎ (CellBefore q.0 q.1 p.0 p.1 ⊎ (p ≡ q))
cells_apart p q =
    said (λ l. l) (λ l. l) (λ e k. (e.0 k, e.1 k)) (then_by (number_apart p.0 q.0) (number_apart p.1 q.1))

pairs_apart : (p q : ℕ × ℕ × ℕ)
    → PairBefore p.0 p.1 p.2 q.0 q.1 q.2 ⊎ (PairBefore q.0 q.1 q.2 p.0 p.1 p.2 ⊎ (p ≡ q))
pairs_apart p q =
    said spread spread (λ e k. (e.0 k, e.1.0 k, e.1.1 k))
    (then_by (mask_apart p.0 q.0) (then_by (number_apart p.1 q.1) (number_apart p.2 q.2)))

sums_apart : (ss : List Summand) (p q : ℕ × List ℕ × ℕ) → MasksFit ss p.1 → MasksFit ss q.1
    → SumBefore p.0 p.1 p.2 q.0 q.1 q.2 ⊎ (SumBefore q.0 q.1 q.2 p.0 p.1 p.2 ⊎ (p ≡ q))
sums_apart ss p q f g =
    said spread spread (λ e k. (e.0 k, e.1.0 k, e.1.1 k))
    (then_by (mask_apart p.0 q.0) (then_by (masks_apart ss p.1 q.1 f g) (number_apart p.2 q.2)))

-- ---- the figures
module _ (n m : ℕ) (rows : List ℕ) (i : ℕ) where
  module _ (accepted : first (limit_checks n m rows i) ≡ (Ok tt)) where
    pub nonlinearity_settled : (d c w b : ℕ) → IsPair n m i c w b → distance n (component rows c) w b ≡ d
        → ((c' w' b' : ℕ) → IsPair n m i c' w' b' → d ≤ distance n (component rows c') w' b')
        → ((c' w' b' : ℕ) → IsPair n m i c' w' b' → PairBefore c' w' b' c w b → d < distance n (component rows c') w' b')
        → nonlinearity_reply n m rows i ≡ figures (d ∷ c ∷ w ∷ b ∷ [])
    nonlinearity_settled d c w b member reached least before =
        let r = linear.nonlinearity_reported n m rows i accepted in
        one_best {W = ℕ × ℕ × ℕ} (λ p. IsPair n m i p.0 p.1 p.2) (λ p. distance n (component rows p.0) p.1 p.2)
        (λ p q. PairBefore p.0 p.1 p.2 q.0 q.1 q.2) (λ a b. a ≤ b) (λ a b. a < b) least_same not_below (λ p q k l. pairs_apart p q)
        (λ d p. figures (d ∷ p.0 ∷ p.1 ∷ p.2 ∷ [])) {x = (r.c, r.w, r.b)} {y = (c, w, b)}
        (record {
          member = r.member;
          reached = r.reached;
          best = λ p. r.least p.0 p.1 p.2;
          before = λ p. r.before p.0 p.1 p.2;
        }) r.reply
        (record { member = member; reached = reached; best = λ p. least p.0 p.1 p.2; before = λ p. before p.0 p.1 p.2 })

    pub degree_settled : (d c : ℕ) → MaskWithin i (2 ^ m) c → degree n (component rows c) ≡ d
        → ((c' : ℕ) → MaskWithin i (2 ^ m) c' → d ≤ degree n (component rows c'))
        → ((c' : ℕ) → MaskWithin i (2 ^ m) c' → MaskBefore c' c → d < degree n (component rows c'))
        → box_degree_reply n m rows i ≡ figures (d ∷ c ∷ [])
    degree_settled d c member reached least before =
        let r = algebraic.degree_reported n m rows i accepted in
        one_best {W = ℕ} (λ c. MaskWithin i (2 ^ m) c) (λ c. degree n (component rows c)) (λ c c'. MaskBefore c c') (λ a b. a ≤ b) (λ a b. a < b)
        least_same not_below (λ c c' k l. mask_apart c c') (λ d c. figures (d ∷ c ∷ [])) {x = r.c} {y = c}
        (record { member = r.member; reached = r.reached; best = r.least; before = r.before }) r.reply
        (record { member = member; reached = reached; best = least; before = before })

-- of the largest figure over changes, of both calls that report one
module _ (n m i j : ℕ) (figure : (c s : ℕ) → ℕ) (reply : Reply) (r : LargestReported n m i j figure reply) where
  pub largest_settled : (d c s : ℕ) → IsChange n m i j c s → figure c s ≡ d → ((c' s' : ℕ) → IsChange n m i j c' s' → figure c' s' ≤ d)
      → ((c' s' : ℕ) → IsChange n m i j c' s' → ChangeBefore c' s' c s → figure c' s' < d) → reply ≡ figures (d ∷ c ∷ s ∷ [])
  largest_settled d c s member reached largest before =
      one_best {W = ℕ × ℕ} (λ p. IsChange n m i j p.0 p.1) (λ p. figure p.0 p.1) (λ p q. ChangeBefore p.0 p.1 q.0 q.1)
      (λ a b. b ≤ a) (λ a b. b < a) largest_same not_below (λ p q k l. changes_apart p q) (λ d p. figures (d ∷ p.0 ∷ p.1 ∷ []))
      {x = (r.c, r.s)} {y = (c, s)}
      (record { member = r.member; reached = r.reached; best = λ p. r.largest p.0 p.1; before = λ p. r.before p.0 p.1 })
      r.reply
      (record { member = member; reached = reached; best = λ p. largest p.0 p.1; before = λ p. before p.0 p.1 })

module _ (n m : ℕ) (rows : List ℕ) (accepted : first (box_checks n m rows) ≡ (Ok tt)) where
  pub xor_settled : (d a β : ℕ) → IsCell n m a β → cell n rows a β ≡ d → ((a' β' : ℕ) → IsCell n m a' β' → cell n rows a' β' ≤ d)
      → ((a' β' : ℕ) → IsCell n m a' β' → CellBefore a' β' a β → cell n rows a' β' < d) → largest_cell_reply n m rows ≡ figures (d ∷ a ∷ β ∷ [])
  xor_settled d a β member reached largest before =
      let r = differential.xor_reported n m rows accepted in
      one_best {W = ℕ × ℕ} (λ p. IsCell n m p.0 p.1) (λ p. cell n rows p.0 p.1) (λ p q. CellBefore p.0 p.1 q.0 q.1)
      (λ a b. b ≤ a) (λ a b. b < a) largest_same not_below (λ p q k l. cells_apart p q) (λ d p. figures (d ∷ p.0 ∷ p.1 ∷ []))
      {x = (r.a, r.β)} {y = (a, β)}
      (record { member = r.member; reached = r.reached; best = λ p. r.largest p.0 p.1; before = λ p. r.before p.0 p.1 })
      r.reply
      (record { member = member; reached = reached; best = λ p. largest p.0 p.1; before = λ p. before p.0 p.1 })

module _ (count : ℕ) (handed : List Summand) (i : ℕ) (accepted : first (sum_checks count handed i) ≡ (Ok tt)) where
  pub sum_settled : let ss = first_given count handed in
      (d c : ℕ) (ws : List ℕ) (b : ℕ) → IsSumPair ss i c ws b → sum_distance ss c (joined ss ws) b ≡ d
      → ((c' : ℕ) (ws' : List ℕ) (b' : ℕ) → IsSumPair ss i c' ws' b' → d ≤ sum_distance ss c' (joined ss ws') b')
      → ((c' : ℕ) (ws' : List ℕ) (b' : ℕ) → IsSumPair ss i c' ws' b' → SumBefore c' ws' b' c ws b → d < sum_distance ss c' (joined ss ws') b')
      → sum_reply count handed i ≡ figures (d ∷ c ∷ (ws ++ (b ∷ [])))
  sum_settled d c ws b member reached least before =
      let ss : List Summand = first_given count handed in
      let r = rounds.sum_reported count handed i accepted in
      one_best {W = ℕ × List ℕ × ℕ} (λ p. IsSumPair ss i p.0 p.1 p.2) (λ p. sum_distance ss p.0 (joined ss p.1) p.2)
      (λ p q. SumBefore p.0 p.1 p.2 q.0 q.1 q.2) (λ a b. a ≤ b) (λ a b. a < b) least_same not_below
      (λ p q k l. sums_apart ss p q k.fits l.fits) (λ d p. figures (d ∷ p.0 ∷ (p.1 ++ (p.2 ∷ [])))) {x = (r.c, r.ws, r.b)} {y = (c, ws, b)}
      (record {
        member = r.member;
        reached = r.reached;
        best = λ p k. r.least p.0 (joined ss p.1) p.2 (record { mask = k.mask; w_high = joined_lt ss p.1 k.fits; b_high = k.b_high });
        before = λ p. r.before p.0 p.1 p.2;
      }) r.reply
      (record { member = member; reached = reached; best = λ p. least p.0 p.1 p.2; before = λ p. before p.0 p.1 p.2 })
