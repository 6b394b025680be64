-- Predicates over values that are followed by pointers; the merged init and inv; the merged edges.
use mathlib.Core.Path.{◌≡◌, refl, sym, ap, ◌∙◌}
use mathlib.Core.Bool.{Bool, true, false, not, true≢false, or-false, and-true, and_assoc}
use mathlib.Core.List.{List, [], ◌∷◌, ◌++◌, map, Memᴰ}
use Prim.Native.Nat.{ℕ, zero, suc, ◌+◌, ◌*◌, ◌≤◌, ◌<◌}
use native.Mathlib.Omega.{arith}
use native.Mathlib.Nat.{zero-add, add-zero, add-suc, suc-add}
use lib.IntN.{ℤ, pos}
use lib.ListN.{length, get_or, get_or-append, get_or-map}
use lib.Seq.{get_or-append-add}
use lib.Dec.{eqb}
use Rattle.model.specs.Basic.{eq_z, each, every, exists}
use Rattle.model.specs.Predicate.{Pred, Preds, Expr, all, any, negate, imp, eq, le, none, more, num, old, new, add, sub, mul, choose, preds, holds, all_hold, any_holds, value, Word, words, words_all, words_of, Named, nothing, the_old, the_new, named, is_outside, is_new_of, names_outside, mentions}
use Rattle.model.specs.Model.{Model, Location, Automaton, nowhere, nobody}
use Rattle.model.specs.Rules.{State, at, Taker, mentioned}
use Rattle.model.specs.Linear.{pointer, at_locations, at_automata, pointer_moves}
use Rattle.model.specs.Judge.{is_taker, led}
use Rattle.model.proofs.Tests.{and_same, below_of, eq_self, eq_of, of_eq, not_eq, or_none, or_none_left, exists_append, every_append}
use Rattle.model.proofs.Lists.{none_left, none_right, none_narrower}

-- a predicate that names no variable from `count` on means the same where more values follow
module _ (before after x y : List ℤ) (count : ℕ) (lb : length before ≡ count) (la : length after ≡ count) where
  abbrev outside : Word → Bool
  outside w = is_outside count (named w)

  mutual
    unfolding names_outside words holds exists named is_outside

    pub same_p : (p : Pred) → names_outside count (words p) ≡ false → holds (before ++ x) (after ++ y) p ≡ holds before after p
    same_p (all ps) h = same_all ps h
    same_p (any ps) h = same_any ps h
    same_p (negate p) h = ap not (same_p p h)
    same_p (imp p q) h = rw (same_p p (none_left outside (words p) (words q) h), same_p q (none_right outside (words p) (words q) h))
    same_p (eq u w) h = rw (same_e u (none_left outside (words_of u) (words_of w) h), same_e w (none_right outside (words_of u) (words_of w) h))
    same_p (le u w) h = rw (same_e u (none_left outside (words_of u) (words_of w) h), same_e w (none_right outside (words_of u) (words_of w) h))

    same_all : (ps : Preds) → names_outside count (words_all ps) ≡ false → all_hold (before ++ x) (after ++ y) ps ≡ all_hold before after ps
    same_all none h = refl
    same_all (more p ps) h = rw (same_p p (none_left outside (words p) (words_all ps) h), same_all ps (none_right outside (words p) (words_all ps) h))

    same_any : (ps : Preds) → names_outside count (words_all ps) ≡ false → any_holds (before ++ x) (after ++ y) ps ≡ any_holds before after ps
    same_any none h = refl
    same_any (more p ps) h = rw (same_p p (none_left outside (words p) (words_all ps) h), same_any ps (none_right outside (words p) (words_all ps) h))

    same_e : (u : Expr) → names_outside count (words_of u) ≡ false → value (before ++ x) (after ++ y) u ≡ value before after u
    same_e (num z) h = refl
    same_e (old k) h = get_or-append before x (pos 0) k (omega (arith, below_of count k (or_none_left _ false h)))
    same_e (new k) h = get_or-append after y (pos 0) k (omega (arith, below_of count k (or_none_left _ false h)))
    same_e (add u w) h = rw (same_e u (none_left outside (words_of u) (words_of w) h), same_e w (none_right outside (words_of u) (words_of w) h))
    same_e (sub u w) h = rw (same_e u (none_left outside (words_of u) (words_of w) h), same_e w (none_right outside (words_of u) (words_of w) h))
    same_e (mul u w) h = rw (same_e u (none_left outside (words_of u) (words_of w) h), same_e w (none_right outside (words_of u) (words_of w) h))
    same_e (choose p u w) h =
        let r = none_right outside (words p) (words_of u ++ words_of w) h in
        rw (same_p p (none_left outside (words p) (words_of u ++ words_of w) h), same_e u (none_left outside (words_of u) (words_of w) r), same_e w (none_right outside (words_of u) (words_of w) r))

-- and it mentions none of those variables
module _ (count k : ℕ) (l : count ≤ k) where
  quiet_name : (x : Named) → is_outside count x ≡ false → is_new_of k x ≡ false
  unfolding is_outside is_new_of
  quiet_name nothing h = refl
  quiet_name (the_old j) h = refl
  quiet_name (the_new j) h = not_eq k j (λ e. omega (arith, below_of count j h))

  quiet : (p : Pred) → names_outside count (words p) ≡ false → mentions k p ≡ false
  unfolding names_outside mentions
  quiet p h = none_narrower _ (λ w. is_new_of k (named w)) (λ w. quiet_name (named w)) (words p) h

-- nor do takers mention a pointer if their updates name only the model's variables
pub takers_quiet : (m : Model) (i : ℕ) (xs : List Taker) → ((x : Taker) → Memᴰ x xs → names_outside (length m.variables) (words x.edge.update) ≡ false) → mentioned (pointer m i) xs ≡ false
unfolding mentioned exists pointer
takers_quiet m i [] h = refl
takers_quiet m i (x ∷ xs) h =
    or_none
    (quiet (length m.variables) (length m.variables + i) (omega arith) x.edge.update (h x (Memᴰ.head refl)))
    (takers_quiet m i xs (λ y e. h y (Memᴰ.tail e)))

-- `all` of a list holds if every one does, and mentions what some one mentions
pub preds_hold : (before after : List ℤ) (l : List Pred) → holds before after (all (preds l)) ≡ every (holds before after) l
unfolding preds holds every
preds_hold before after [] = refl
preds_hold before after (p ∷ l) = rw (preds_hold before after l)

pub preds_mention : (k : ℕ) (l : List Pred) → mentions k (all (preds l)) ≡ exists (mentions k) l
unfolding preds mentions words exists named is_new_of
preds_mention k [] = refl
preds_mention k (p ∷ l) = exists_append (λ w. is_new_of k (named w)) (words p) (words_all (preds l)) ∙ rw (preds_mention k l)

-- the merged init and inv: those of the locations that the pointers name
module _ (m : Model) (before after : List ℤ) (part : Location → Pred) where
  locations_past : (i j n : ℕ) (ls : List Location) → get_or before (pointer m i) (pos 0) ≡ pos n → n < j → every (holds before after) (at_locations m part i j ls) ≡ true
  unfolding at_locations holds eq_z every
  locations_past i j n [] e h = refl
  locations_past i j n (l ∷ ls) e h =
      let z : eqb n j ≡ false = not_eq n j (λ q. omega arith) in
      rw (e, z) (locations_past i (suc j) n ls e (omega arith))

  locations_at : (i j n : ℕ) (ls : List Location) → get_or before (pointer m i) (pos 0) ≡ pos (j + n) → n < length ls
      → every (holds before after) (at_locations m part i j ls) ≡ holds before after (part (get_or ls n nowhere))
  unfolding at_locations holds eq_z every
  locations_at i j n [] e h = absurd (omega arith)
  locations_at i j zero (l ∷ ls) e h =
      let e' : get_or before (pointer m i) (pos 0) ≡ pos j = rw add-zero at e in
      rw (e', eq_self j, locations_past i (suc j) j ls e' (omega arith)) (and-true _)
  locations_at i j (suc n) (l ∷ ls) e h =
      let e' : get_or before (pointer m i) (pos 0) ≡ pos (suc j + n) = e ∙ ap pos (omega arith) in
      let z : eqb (suc j + n) j ≡ false = not_eq _ j (λ q. omega arith) in
      rw (e', z) (locations_at i (suc j) n ls e' (omega arith))

  pub automata_hold : (i : ℕ) (xs : List Automaton) (place : ℕ → ℕ)
      → ((k : ℕ) → k < length xs → get_or before (pointer m (i + k)) (pos 0) ≡ pos (place k))
      → ((k : ℕ) → k < length xs → place k < length (get_or xs k nobody).locations)
      → every (holds before after) (at_automata m part i xs) ≡ each (length xs) (λ k. holds before after (part (get_or (get_or xs k nobody).locations (place k) nowhere)))
  unfolding at_automata each every
  automata_hold i [] place e h = refl
  automata_hold i (x ∷ xs) place e h =
      let e0 : get_or before (pointer m i) (pos 0) ≡ pos (0 + place 0) = rw zero-add (rw add-zero at (e 0 (omega arith))) in
      every_append (holds before after) (at_locations m part i 0 x.locations) (at_automata m part (suc i) xs)
      ∙ and_same
      (locations_at i 0 (place 0) x.locations e0 (h 0 (omega arith)))
      (automata_hold (suc i) xs (λ k. place (suc k)) (λ k l. rw (suc-add i k, ← add-suc i k) (e (suc k) (omega arith))) (λ k l. h (suc k) (omega arith)))

-- the takers' pointers move as their edges lead
pub pointers_lead : (m : Model) (before after : List ℤ) (s t : State)
    → ((k : ℕ) → get_or before (pointer m k) (pos 0) ≡ pos (at s k))
    → ((k : ℕ) → get_or after (pointer m k) (pos 0) ≡ pos (at t k))
    → (xs : List Taker) → every (holds before after) (pointer_moves m xs) ≡ every (led s t) xs
unfolding pointer_moves holds every eq_z led
pointers_lead m before after s t f g [] = refl
pointers_lead m before after s t f g (x ∷ xs) = rw (f x.automaton, g x.automaton, pointers_lead m before after s t f g xs, and_assoc)

-- and they mention those pointers
pub pointers_mention : (m : Model) (k : ℕ) (xs : List Taker) → exists (mentions k) (pointer_moves m xs) ≡ exists (λ x. eqb k (pointer m x.automaton)) xs
unfolding pointer_moves mentions exists words named is_new_of
pointers_mention m k [] = refl
pointers_mention m k (x ∷ xs) = simp (pointers_mention m k xs, or-false)

-- which are no variables of the composition, and tell who takes
pub no_pointer : (m : Model) (k : ℕ) (xs : List Taker) → k < length m.variables → exists (λ x. eqb k (pointer m x.automaton)) xs ≡ false
unfolding exists pointer
no_pointer m k [] l = refl
no_pointer m k (x ∷ xs) l =
    let z : eqb k (length m.variables + x.automaton) ≡ false = not_eq k _ (λ e. omega arith) in
    rw (z, no_pointer m k xs l)

eq_shift : (first i j : ℕ) → eqb (first + i) (first + j) ≡ eqb i j
eq_shift first i j = go (eqb i j) refl
  where
    go : (b : Bool) → eqb i j ≡ b → eqb (first + i) (first + j) ≡ b
    go true e = of_eq _ _ (ap (λ (k : ℕ). first + k) (eq_of i j e))
    go false e = not_eq (first + i) (first + j) (λ h. let z : eqb i j ≡ true = of_eq i j (omega arith) in true≢false (sym z ∙ e))

pub pointer_takers : (m : Model) (i : ℕ) (xs : List Taker) → exists (λ x. eqb (pointer m i) (pointer m x.automaton)) xs ≡ is_taker i xs
unfolding exists is_taker pointer
pointer_takers m i [] = refl
pointer_takers m i (x ∷ xs) = rw (eq_shift (length m.variables) i x.automaton, pointer_takers m i xs)

-- a pointer's value beside a state is the location
pub pointer_value : (m : Model) (values : List ℤ) (locations : List ℕ) → length values ≡ length m.variables → (k : ℕ)
    → get_or (values ++ map pos locations) (pointer m k) (pos 0) ≡ pos (get_or locations k 0)
unfolding pointer
pointer_value m values locations l k = rw (← l) (get_or-append-add values (map pos locations) k (pos 0) ∙ get_or-map pos locations k 0)

-- two predicates for each taker
pub pointers_length : (m : Model) (x : List Taker) → length (pointer_moves m x) ≡ 2 * length x
unfolding pointer_moves
pointers_length m [] = refl
pointers_length m (y ∷ x) = let ih = pointers_length m x in omega arith
