-- Parting and joining are inverse.
use Prim.Native.Nat.{ℕ}
use mathlib.Core.Path.{◌≡◌, refl, sym, ◌∙◌, ap}
use mathlib.Core.Bool.{Bool, true, false}
use mathlib.Core.List.{List, [], ◌∷◌, ◌++◌, append_assoc, append-nil}
use native.Mathlib.Omega.{arith}
use borrow.Author.Tests.{eqb-true, eqb-false, eq-eqb, ne_eqb}
use lib.Dec.{eqb}
use Rattle.model.specs.Basic.{same}
use Rattle.format.specs.Bytes.{Bytes, joined, led_by, onto, parts}

module _ {A : Type 0} where
  -- P holds of each item
  abbrev pub Each : (A → Type 0) → List A → Type 0
  Each P [] = Unit
  Each P (x ∷ xs) = P x × Each P xs

  pub each_append : (P : A → Type 0) (s t : List A) → Each P s → Each P t → Each P (s ++ t)
  each_append P [] t h k = k
  each_append P (x ∷ s) t h k = (h.0, each_append P s t h.1 k)

  pub each_left : (P : A → Type 0) (s t : List A) → Each P (s ++ t) → Each P s
  each_left P [] t h = tt
  each_left P (x ∷ s) t h = (h.0, each_left P s t h.1)

  pub each_map : (P Q : A → Type 0) → ((x : A) → P x → Q x) → (s : List A) → Each P s → Each Q s
  each_map P Q f [] h = tt
  each_map P Q f (x ∷ s) h = (f x h.0, each_map P Q f s h.1)

  -- no item is c
  abbrev pub Free : A → List A → Type 0
  Free c s = Each (λ x. x ≡ c → ⊥) s

  pub free_append : (c : A) (s t : List A) → Free c s → Free c t → Free c (s ++ t)
  free_append c s t h k = each_append (λ x. x ≡ c → ⊥) s t h k

-- one step of `parts`
parts_at : (c b : ℕ) (t : Bytes) → b ≡ c → parts c (b ∷ t) ≡ [] ∷ parts c t
unfolding parts
parts_at c b t h = rw (eq-eqb b c h, parts)

parts_on : (c b : ℕ) (t : Bytes) → (b ≡ c → ⊥) → parts c (b ∷ t) ≡ onto b (parts c t)
unfolding parts
parts_on c b t h = rw (ne_eqb b c h, parts)

pub parts_free : (c : ℕ) (s : Bytes) → Free c s → parts c s ≡ s ∷ []
unfolding onto
parts_free c [] h = unfold parts in refl
parts_free c (b ∷ s) h = parts_on c b s h.0 ∙ ap (onto b) (parts_free c s h.1)

parts_seam : (c : ℕ) (s t : Bytes) → Free c s → parts c (s ++ c ∷ t) ≡ s ∷ parts c t
unfolding onto
parts_seam c [] t h = parts_at c c t refl
parts_seam c (b ∷ s) t h = parts_on c b (s ++ c ∷ t) h.0 ∙ ap (onto b) (parts_seam c s t h.1)

-- no part has the byte that parts them
pub parts_each : (c : ℕ) (s : Bytes) → Each (Free c) (parts c s)
unfolding parts onto
parts_each c [] = (tt, tt)
parts_each c (b ∷ s) = go (eqb b c) refl (parts_each c s)
  where
    first : (ss : List Bytes) → (b ≡ c → ⊥) → Each (Free c) ss → Each (Free c) (onto b ss)
    first [] n h = ((n, tt), tt)
    first (t ∷ ts) n h = ((n, h.0), h.1)

    go : (v : Bool) → eqb b c ≡ v → Each (Free c) (parts c s) → Each (Free c) (elim v as (λ x. List Bytes) [ true ↦ [] ∷ parts c s | false ↦ onto b (parts c s) ])
    go true e h = (tt, h)
    go false e h = first (parts c s) (eqb-false b c e) h

-- what is joined comes apart
pub parts_joined : (c : ℕ) (s : Bytes) (ss : List Bytes) → Free c s → Each (Free c) ss → parts c (joined c (s ∷ ss)) ≡ s ∷ ss
unfolding joined led_by
parts_joined c s [] h k = rw append-nil (parts_free c s h)
parts_joined c s (u ∷ us) h k = parts_seam c s (u ++ led_by c us) h ∙ ap (λ l. s ∷ l) (parts_joined c u us k.0 k.1)

pub led_append : (c : ℕ) (xs ys : List Bytes) → led_by c (xs ++ ys) ≡ led_by c xs ++ led_by c ys
unfolding led_by
led_append c [] ys = refl
led_append c (x ∷ xs) ys = ap (λ (l : Bytes). c ∷ l) (ap (λ (l : Bytes). x ++ l) (led_append c xs ys) ∙ sym (append_assoc x (led_by c xs) (led_by c ys)))

led_each : (P : ℕ → Type 0) (c : ℕ) (ts : List Bytes) → P c → Each (Each P) ts → Each P (led_by c ts)
unfolding led_by
led_each P c [] h k = tt
led_each P c (t ∷ ts) h k = (h, each_append P t (led_by c ts) k.0 (led_each P c ts h k.1))

pub joined_each : (P : ℕ → Type 0) (c : ℕ) (ts : List Bytes) → P c → Each (Each P) ts → Each P (joined c ts)
unfolding joined
joined_each P c [] h k = tt
joined_each P c (t ∷ ts) h k = each_append P t (led_by c ts) k.0 (led_each P c ts h k.1)

-- what comes apart is joined again
onto_joined : (c b : ℕ) (ss : List Bytes) → joined c (onto b ss) ≡ b ∷ joined c ss
unfolding joined onto led_by
onto_joined c b [] = refl
onto_joined c b (s ∷ ss) = refl

onto_first : (b : ℕ) (ss : List Bytes) → (x : Bytes) × (xs : List Bytes) × (onto b ss ≡ x ∷ xs)
unfolding onto
onto_first b [] = (b ∷ [], [], refl)
onto_first b (s ∷ ss) = (b ∷ s, ss, refl)

-- there is always a first part
parts_first : (c : ℕ) (s : Bytes) → (x : Bytes) × (xs : List Bytes) × (parts c s ≡ x ∷ xs)
unfolding parts
parts_first c [] = ([], [], refl)
parts_first c (b ∷ t) = go (eqb b c)
  where
    go : (v : Bool) → (x : Bytes) × (xs : List Bytes) × (elim v [ true ↦ [] ∷ parts c t | false ↦ onto b (parts c t) ] ≡ x ∷ xs)
    go true = ([], parts c t, refl)
    go false = onto_first b (parts c t)

led_joined : (c : ℕ) (ss : List Bytes) (x : Bytes) (xs : List Bytes) → ss ≡ x ∷ xs → led_by c ss ≡ c ∷ joined c ss
unfolding led_by joined
led_joined c ss x xs e = rw e

joined_nil : (c : ℕ) (ss : List Bytes) → joined c ([] ∷ ss) ≡ led_by c ss
unfolding joined
joined_nil c ss = refl

pub joined_parts : (c : ℕ) (s : Bytes) → joined c (parts c s) ≡ s
unfolding parts
joined_parts c [] = unfold joined led_by in refl
joined_parts c (b ∷ t) = go (joined_parts c t) (eqb b c) refl
  where
    go : joined c (parts c t) ≡ t → (v : Bool) → eqb b c ≡ v → joined c (elim v [ true ↦ [] ∷ parts c t | false ↦ onto b (parts c t) ]) ≡ b ∷ t
    go ih true h =
        let f = parts_first c t in
        joined_nil c (parts c t) ∙ led_joined c (parts c t) f.0 f.1 f.2 ∙ ap (λ l. c ∷ l) ih ∙ ap (λ x. x ∷ t) (sym (eqb-true b c h))
    go ih false h = onto_joined c b (parts c t) ∙ ap (λ l. b ∷ l) ih

-- the test `same`
pub same_is : (s t : Bytes) → same s t ≡ true → s ≡ t
unfolding same
same_is [] [] h = refl
same_is [] (b ∷ t) h = absurd (let z : ◌≡◌ {A = ℕ} 0 1 = cc in omega arith)
same_is (a ∷ s) [] h = absurd (let z : ◌≡◌ {A = ℕ} 0 1 = cc in omega arith)
same_is (a ∷ s) (b ∷ t) h = go (same_is s t) (eqb a b) refl h
  where
    go : (same s t ≡ true → s ≡ t) → (v : Bool) → eqb a b ≡ v → elim v [ true ↦ same s t | false ↦ false ] ≡ true → a ∷ s ≡ b ∷ t
    go ih true e k = ap (λ x. x ∷ s) (eqb-true a b e) ∙ ap (λ l. b ∷ l) (ih k)
    go ih false e k = absurd (let z : ◌≡◌ {A = ℕ} 0 1 = cc in omega arith)

-- they differ at the first byte
pub differ_first : (a b : ℕ) (s t : Bytes) → (a ≡ b → ⊥) → same (a ∷ s) (b ∷ t) ≡ false
unfolding same
differ_first a b s t h = rw (ne_eqb a b h, same)
