-- Identities of ℤ by computation: `solve` proves that two expressions are equal for all values of their variables if their normal forms are.
-- An identity in a, b is `solve (a ∷ b ∷ []) LEFT RIGHT tt`, with `v 0` for a and `v 1` for b in LEFT and RIGHT.
use mathlib.Core.Path.{◌≡◌, refl, sym, ap, ap₂, ◌∙◌}
use mathlib.Core.Bool.{Bool, true, false, cond, ◌&&◌}
use mathlib.Core.List.{List, [], ◌∷◌}
use Prim.Native.Nat.{ℕ}
use lib.Dec.{T, eqb, leb, eqb→eq}
use lib.ListN.{get_or}
use lib.IntN.{ℤ, pos, negsuc, ◌+ℤ◌, ◌*ℤ◌, neg_ℤ, +ℤ_idl, +ℤ_idr, +ℤ_assoc, *ℤ_comm, zero-*ℤ, *ℤ-zero}
use Rattle.boolean.specs.Functions.{same_value}
use Rattle.boolean.proofs.Cases.{same_value_lem, and_l, and_r}
use Rattle.boolean.proofs.Ints.{ring, +ℤ-left-comm, *ℤ-distr, *ℤ-assoc, *ℤ-left-comm, one-*ℤ, minus_one_*ℤ}

pub data Expr : Type 0 where
  v : ℕ → Expr
  c : ℤ → Expr
  ◌⊞◌ : Expr → Expr → Expr
  ◌⊠◌ : Expr → Expr → Expr
  ⊟◌ : Expr → Expr

infixl 6 ◌⊞◌
infixl 7 ◌⊠◌
infixl 8 ⊟◌
infixl 6 ◌⊖◌
abbrev pub ◌⊖◌ : Expr → Expr → Expr
a ⊖ b = a ⊞ (⊟ b)

-- a sum of products of variables, each with a coefficient
pub data Poly : Type 0 where
  none : Poly
  term : ℤ → List ℕ → Poly → Poly

-- ---- the normal form
abbrev pub eqm : List ℕ → List ℕ → Bool
eqm [] [] = true
eqm [] (b ∷ k) = false
eqm (a ∷ m) [] = false
eqm (a ∷ m) (b ∷ k) = eqb a b && eqm m k

abbrev pub le_mono : List ℕ → List ℕ → Bool
le_mono [] k = true
le_mono (a ∷ m) [] = false
le_mono (a ∷ m) (b ∷ k) = cond (eqb a b) (le_mono m k) (leb a b)

abbrev pub insv : ℕ → List ℕ → List ℕ
insv a [] = a ∷ []
insv a (b ∷ m) = cond (leb a b) (a ∷ b ∷ m) (b ∷ insv a m)

abbrev pub mulm : List ℕ → List ℕ → List ℕ
mulm [] k = k
mulm (a ∷ m) k = insv a (mulm m k)

abbrev pub front : ℤ → List ℕ → Poly → Poly
front x m p = cond (same_value x (pos 0)) p (term x m p)

abbrev pub inst : ℤ → List ℕ → Poly → Poly
inst x m none = front x m none
inst x m (term y k p) = cond (eqm m k) (front (x +ℤ y) k p) (cond (le_mono m k) (front x m (term y k p)) (term y k (inst x m p)))

abbrev pub addp : Poly → Poly → Poly
addp none q = q
addp (term x m p) q = inst x m (addp p q)

abbrev pub scale : ℤ → List ℕ → Poly → Poly
scale x m none = none
scale x m (term y k p) = inst (x *ℤ y) (mulm m k) (scale x m p)

abbrev pub mulp : Poly → Poly → Poly
mulp none q = none
mulp (term x m p) q = addp (scale x m q) (mulp p q)

abbrev pub norm : Expr → Poly
norm (v i) = term (pos 1) (i ∷ []) none
norm (c x) = front x [] none
norm (a ⊞ b) = addp (norm a) (norm b)
norm (a ⊠ b) = mulp (norm a) (norm b)
norm (⊟ a) = scale (negsuc 0) [] (norm a)

abbrev pub eqp : Poly → Poly → Bool
eqp none none = true
eqp none (term y k q) = false
eqp (term x m p) none = false
eqp (term x m p) (term y k q) = same_value x y && (eqm m k && eqp p q)

eqm→eq : (m k : List ℕ) → T (eqm m k) → m ≡ k
eqm→eq [] [] t = refl
eqm→eq [] (b ∷ k) t = absurd t
eqm→eq (a ∷ m) [] t = absurd t
eqm→eq (a ∷ m) (b ∷ k) t = ap₂ (λ (x : ℕ) (y : List ℕ). x ∷ y) (eqb→eq a b (and_l (eqb a b) (eqm m k) t)) (eqm→eq m k (and_r (eqb a b) (eqm m k) t))

eqp→eq : (p q : Poly) → T (eqp p q) → p ≡ q
eqp→eq none none t = refl
eqp→eq none (term y k q) t = absurd t
eqp→eq (term x m p) none t = absurd t
eqp→eq (term x m p) (term y k q) t =
    let s = and_r (same_value x y) (eqm m k && eqp p q) t in
    ap₂ (λ (x : ℤ) (r : Poly). term x m r) (same_value_lem x y (and_l (same_value x y) (eqm m k && eqp p q) t)) (eqp→eq p q (and_r (eqm m k) (eqp p q) s))
    ∙ ap (λ (m : List ℕ). term y m q) (eqm→eq m k (and_l (eqm m k) (eqp p q) s))

-- ---- values
module _ (ρ : List ℤ) where
  abbrev pub value : Expr → ℤ
  value (v i) = get_or ρ i (pos 0)
  value (c x) = x
  value (a ⊞ b) = value a +ℤ value b
  value (a ⊠ b) = value a *ℤ value b
  value (⊟ a) = neg_ℤ (value a)

  mono : List ℕ → ℤ
  mono [] = pos 1
  mono (a ∷ m) = get_or ρ a (pos 0) *ℤ mono m

  poly : Poly → ℤ
  unfolding mono
  poly none = pos 0
  poly (term x m p) = x *ℤ mono m +ℤ poly p

  insv_is : (a : ℕ) (m : List ℕ) → mono (insv a m) ≡ get_or ρ a (pos 0) *ℤ mono m
  unfolding mono
  insv_is a [] = refl
  insv_is a (b ∷ m) = pick (leb a b) (insv_is a m)
    where
      pick : (t : Bool) → mono (insv a m) ≡ get_or ρ a (pos 0) *ℤ mono m → mono (cond t (a ∷ b ∷ m) (b ∷ insv a m)) ≡ get_or ρ a (pos 0) *ℤ (get_or ρ b (pos 0) *ℤ mono m)
      pick true e = refl
      pick false e = ap (λ (z : ℤ). get_or ρ b (pos 0) *ℤ z) e ∙ *ℤ-left-comm (get_or ρ b (pos 0)) (get_or ρ a (pos 0)) (mono m)

  mulm_is : (m k : List ℕ) → mono (mulm m k) ≡ mono m *ℤ mono k
  unfolding mono
  mulm_is [] k = sym (one-*ℤ (mono k))
  mulm_is (a ∷ m) k = insv_is a (mulm m k) ∙ ap (λ (z : ℤ). get_or ρ a (pos 0) *ℤ z) (mulm_is m k) ∙ sym (*ℤ-assoc (get_or ρ a (pos 0)) (mono m) (mono k))

  front_is : (x : ℤ) (m : List ℕ) (p : Poly) → poly (front x m p) ≡ x *ℤ mono m +ℤ poly p
  unfolding poly
  front_is x m p = pick (same_value x (pos 0)) (same_value_lem x (pos 0))
    where
      pick : (t : Bool) → (T t → x ≡ pos 0) → poly (cond t p (term x m p)) ≡ x *ℤ mono m +ℤ poly p
      pick true e = sym (ap (λ (z : ℤ). z *ℤ mono m +ℤ poly p) (e tt) ∙ ap (λ (z : ℤ). z +ℤ poly p) (zero-*ℤ (mono m)) ∙ +ℤ_idl (poly p))
      pick false e = refl

  inst_is : (x : ℤ) (m : List ℕ) (p : Poly) → poly (inst x m p) ≡ x *ℤ mono m +ℤ poly p
  unfolding poly
  inst_is x m none = front_is x m none
  inst_is x m (term y k p) = pick (eqm m k) (le_mono m k) (eqm→eq m k) (inst_is x m p)
    where
      pick : (t u : Bool) → (T t → m ≡ k) → poly (inst x m p) ≡ x *ℤ mono m +ℤ poly p
          → poly (cond t (front (x +ℤ y) k p) (cond u (front x m (term y k p)) (term y k (inst x m p)))) ≡ x *ℤ mono m +ℤ (y *ℤ mono k +ℤ poly p)
      pick true u e h =
          front_is (x +ℤ y) k p ∙ ap (λ (z : ℤ). z +ℤ poly p) (*ℤ-distr x y (mono k)) ∙ +ℤ_assoc (x *ℤ mono k) (y *ℤ mono k) (poly p)
          ∙ ap (λ (n : List ℕ). x *ℤ mono n +ℤ (y *ℤ mono k +ℤ poly p)) (sym (e tt))
      pick false true e h = front_is x m (term y k p)
      pick false false e h = ap (λ (z : ℤ). y *ℤ mono k +ℤ z) h ∙ +ℤ-left-comm (y *ℤ mono k) (x *ℤ mono m) (poly p)

  addp_is : (p q : Poly) → poly (addp p q) ≡ poly p +ℤ poly q
  unfolding poly
  addp_is none q = sym (+ℤ_idl (poly q))
  addp_is (term x m p) q = inst_is x m (addp p q) ∙ ap (λ (z : ℤ). x *ℤ mono m +ℤ z) (addp_is p q) ∙ sym (+ℤ_assoc (x *ℤ mono m) (poly p) (poly q))

  scale_is : (x : ℤ) (m : List ℕ) (p : Poly) → poly (scale x m p) ≡ (x *ℤ mono m) *ℤ poly p
  unfolding poly
  scale_is x m none = sym (*ℤ-zero (x *ℤ mono m))
  scale_is x m (term y k p) =
      inst_is (x *ℤ y) (mulm m k) (scale x m p)
      ∙ ap₂ (λ (a b : ℤ). (x *ℤ y) *ℤ a +ℤ b) (mulm_is m k) (scale_is x m p)
      ∙ regroup x y (mono m) (mono k) (poly p)
    where
      regroup : (x y m k p : ℤ) → (x *ℤ y) *ℤ (m *ℤ k) +ℤ (x *ℤ m) *ℤ p ≡ (x *ℤ m) *ℤ (y *ℤ k +ℤ p)
      regroup x y m k p = simp ring

  mulp_is : (p q : Poly) → poly (mulp p q) ≡ poly p *ℤ poly q
  unfolding poly
  mulp_is none q = sym (zero-*ℤ (poly q))
  mulp_is (term x m p) q =
      addp_is (scale x m q) (mulp p q) ∙ ap₂ (λ (a b : ℤ). a +ℤ b) (scale_is x m q) (mulp_is p q) ∙ sym (*ℤ-distr (x *ℤ mono m) (poly p) (poly q))

  norm_is : (e : Expr) → poly (norm e) ≡ value e
  unfolding poly mono
  norm_is (v i) = +ℤ_idr (pos 1 *ℤ (get_or ρ i (pos 0) *ℤ pos 1)) ∙ one-*ℤ (get_or ρ i (pos 0) *ℤ pos 1) ∙ *ℤ_comm (get_or ρ i (pos 0)) (pos 1) ∙ one-*ℤ (get_or ρ i (pos 0))
  norm_is (c x) = front_is x [] none ∙ +ℤ_idr (x *ℤ pos 1) ∙ *ℤ_comm x (pos 1) ∙ one-*ℤ x
  norm_is (a ⊞ b) = addp_is (norm a) (norm b) ∙ ap₂ (λ (x y : ℤ). x +ℤ y) (norm_is a) (norm_is b)
  norm_is (a ⊠ b) = mulp_is (norm a) (norm b) ∙ ap₂ (λ (x y : ℤ). x *ℤ y) (norm_is a) (norm_is b)
  norm_is (⊟ a) = scale_is (negsuc 0) [] (norm a) ∙ minus_one_*ℤ (poly (norm a)) ∙ ap neg_ℤ (norm_is a)

  pub solve : (l r : Expr) → T (eqp (norm l) (norm r)) → value l ≡ value r
  solve l r t = sym (norm_is l) ∙ ap poly (eqp→eq (norm l) (norm r) t) ∙ norm_is r
