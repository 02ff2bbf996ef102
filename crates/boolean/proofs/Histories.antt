-- Histories: what each operation keeps holds after any of them, one after the other; and a value that its own calls made stands for what
-- the operations make of a state. `after_one s o` is the state that operation o makes of s, and so `foldl after_one s os` the one after all.
-- And no history is left out: every list of operations has a value that its own calls made.
use mathlib.Core.Path.{◌≡◌, sym, ap, ◌∙◌, subst}
use mathlib.Core.List.{List, [], ◌∷◌, ◌++◌, foldl, foldl-append, append-nil, append_assoc}
use Rattle.boolean.specs.Statements.{MadeBy, begins, goes_on}

module _ {S O : Type 0} (after_one : S → O → S) where
  pub run_keeps : (P : S → Type 0) → ((s : S) → P s → (o : O) → P (after_one s o)) → (s : S) → P s → (os : List O) → P (foldl after_one s os)
  run_keeps P keeps s p [] = p
  run_keeps P keeps s p (o ∷ os) = run_keeps P keeps (after_one s o) (keeps s p o) os

  -- `state v` is what v stands for; a first call gives a sound value that stands for `start`, and each call one that stands for what its
  -- operation makes, of a sound value
  module _ {A : Type 0} {Begun : A → Type 0} {Called : O → A → A → Type 0} {start : S} (state : A → S) (Sound : A → Type 0)
      (begun : (v : A) → Begun v → Sound v × (state v ≡ start))
      (called : (o : O) (v w : A) → Called o v w → Sound v → Sound w × (state w ≡ after_one (state v) o)) where
    pub stands : {os : List O} {v : A} → MadeBy Begun Called os v → Sound v × (state v ≡ foldl after_one start os)
    stands (begins {v} b) = begun v b
    stands (goes_on {os} {v} {w} o t c) =
        let u = stands t in
        let x = called o v w c u.0 in
        (x.0, x.1 ∙ ap (λ (s : S). after_one s o) u.1 ∙ sym (foldl-append after_one start os (o ∷ [])))

    -- two moments: v after the earlier operations, w after further ones
    pub later_stands : {earlier : List O} {v w : A} (os : List O) → MadeBy Begun Called earlier v → MadeBy Begun Called (earlier ++ os) w
        → state w ≡ foldl after_one (state v) os
    later_stands {earlier} os t u =
        (stands u).1 ∙ foldl-append after_one start earlier os ∙ ap (λ (s : S). foldl after_one s os) (sym (stands t).1)

-- Where each operation has a call that takes a sound value and gives a sound one, every list of operations has such calls, one after the
-- other, from a sound value on.
module _ {A O : Type 0} (Begun : A → Type 0) (Called : O → A → A → Type 0) (Sound : A → Type 0)
    (any : (o : O) (v : A) → Sound v → (w : A) × Called o v w × Sound w) where
  made_on : (os done : List O) (v : A) → Sound v → MadeBy Begun Called done v → (w : A) × MadeBy Begun Called (done ++ os) w
  made_on [] done v s t = (v, subst (λ (l : List O). MadeBy Begun Called l v) (sym (append-nil done)) t)
  made_on (o ∷ os) done v s t =
      let c = any o v s in
      let u = made_on os (done ++ (o ∷ [])) c.0 c.2 (goes_on o t c.1) in
      (u.0, subst (λ (l : List O). MadeBy Begun Called l u.0) (append_assoc done (o ∷ []) os) u.1)

  pub any_made : (v : A) → Begun v → Sound v → (os : List O) → (w : A) × MadeBy Begun Called os w
  any_made v b s os = made_on os [] v s (begins b)
