-- The states of the merged automaton are the states beside the composition's.
use Prim.Native.Nat.{ℕ, zero, suc, pred, ◌+◌, ◌≤◌, ◌<◌}
use mathlib.Core.Path.{◌≡◌, refl, sym, ap, ◌∙◌}
use mathlib.Core.Bool.{true, false, not, true≢false}
use mathlib.Core.List.{List, [], ◌∷◌, ◌++◌, map, Memᴰ}
use native.Mathlib.Omega.{arith}
use lib.IntN.{ℤ, pos, negsuc}
use lib.ListN.{length, get_or, take, drop, length-map, length-drop, take-append-drop, get_or-map}
use lib.Seq.{get_or-append-add, get_or-drop, length-take-le}
use lib.Dec.{leb, ltb}
use borrow.Author.Tests.{leb-true}
use Rattle.model.specs.Basic.{between}
use Rattle.model.specs.Predicate.{range}
use Rattle.model.specs.Model.{Model, Automaton, automaton, nobody}
use Rattle.model.specs.Lawful.{Lawful}
use Rattle.model.specs.Rules.{State, at, val}
use Rattle.model.specs.Linear.{linear, pointer, pointer_range}
use Rattle.model.specs.Judge.{has_values, range_of, row21, row22, row23}
use Rattle.model.specs.Runs.{IsState, beside}
use Rattle.model.proofs.Tests.{not-false, and_right, of_lt, of_eq, each_intro, each_elim}
use Rattle.model.proofs.Merged.{Shaped, shaped}
use Rattle.model.proofs.Alike.{merged_size, merged_21, merged_22, merged_23, inside}
use Rattle.model.proofs.TableJudge.{state_at}

-- the range of a pointer: its automaton's locations
pointer_has : (m : Model) (k : ℕ) → range_of (linear m) (pointer m k) ≡ pointer_range (automaton m k)
unfolding linear range_of pointer range pointer_range
pointer_has m k = get_or-append-add m.variables (map pointer_range m.automata) k (range (pos 0) (pos 0)) ∙ get_or-map pointer_range m.automata k nobody

-- a state of the model's shape passes rows 21 and 22
shaped_21 : (m : Model) (s : State) → Shaped m s → row21 m s ≡ false
unfolding row21 has_values
shaped_21 m s g = rw (of_eq _ _ g.locations_are, of_eq _ _ g.values_are)

shaped_22 : (m : Model) (s : State) → Shaped m s → row22 m s ≡ false
unfolding row22
shaped_22 m s g = ap not (each_intro _ (λ k. ltb (at s k) (length (automaton m k).locations)) (λ k l. of_lt _ _ (g.placed k l)))

-- beside a state of the composition stands a state of the merged automaton
pub beside_state : (m : Model) (s : State) → IsState m s → IsState (linear m) (beside s)
beside_state m s g =
    let h = shaped m s g.no_21 g.no_22 in
    record { no_21 = merged_21 m s h; no_22 = merged_22 m s h; no_23 = merged_23 m s h ∙ g.no_23 }

-- and where the locations and values have the sheet's shape, only beside a state
pub state_of : (m : Model) (t : State) → row21 m t ≡ false → row22 m t ≡ false → IsState (linear m) (beside t) → IsState m t
state_of m t p q g = record { no_21 = p; no_22 = q; no_23 = sym (merged_23 m t (shaped m t p q)) ∙ g.no_23 }

-- the location that a pointer names
unfoldable named : ℤ → ℕ
named (pos n) = n
named (negsuc n) = 0

-- a pointer in its range names a location
record Names (L : ℕ) (z : ℤ) : Type 0 where
  is : pos (named z) ≡ z
  below : named z < L

names : (L : ℕ) (z : ℤ) → 1 ≤ L → between (pos 0) (pos (pred L)) z ≡ true → Names L z
unfolding between named
names L (pos n) l h =
    let k : n ≤ pred L = leb-true n (pred L) (and_right (leb 0 n) (leb n (pred L)) h) in
    record { is = refl; below = omega arith }
names L (negsuc n) l h = absurd (true≢false (sym h))

names_back : (zs : List ℤ) → ((k : ℕ) → k < length zs → pos (named (get_or zs k (pos 0))) ≡ get_or zs k (pos 0)) → map pos (map named zs) ≡ zs
names_back [] h = refl
names_back (z ∷ zs) h =
    let e : pos (named z) ≡ z = h 0 (omega arith) in
    rw (e, names_back zs (λ k l. h (suc k) (omega arith)))

-- what holds of every item holds at every place
item_at : {A : Type 0} (P : A → Type 0) (d : A) (l : List A) → ((x : A) → Memᴰ x l → P x) → (k : ℕ) → k < length l → P (get_or l k d)
item_at P d [] h k l = absurd (omega arith)
item_at P d (x ∷ xs) h zero l = h x (Memᴰ.head refl)
item_at P d (x ∷ xs) h (suc k) l = item_at P d xs (λ y i. h y (Memᴰ.tail i)) k (omega arith)

-- the one location of the merged automaton
only_zero : (l : List ℕ) → length l ≡ 1 → get_or l 0 0 < 1 → 0 ∷ [] ≡ l
only_zero [] e h = absurd (omega arith)
only_zero (x ∷ []) e h = let z : 0 ≡ x = omega arith in ap (λ (y : ℕ). y ∷ []) z
only_zero (x ∷ y ∷ l) e h = absurd (omega arith)

-- the state whose locations the pointers name
unfoldable pointed : Model → State → State
pointed m u =
    record { phase = u.phase; locations = map named (drop (length m.variables) u.values); values = take (length m.variables) u.values }

-- a state of the merged automaton has the variables' values and the pointers
pub values_count : (m : Model) (u : State) → IsState (linear m) u → length u.values ≡ length m.variables + length m.automata
values_count m u g = (shaped (linear m) u g.no_21 g.no_22).values_are ∙ merged_size m

module _ (m : Model) (lawful : Lawful m) (u : State) (g : IsState (linear m) u) where
  at_zero : 0 ∷ [] ≡ u.locations
  unfolding linear
  at_zero = let h = shaped (linear m) u g.no_21 g.no_22 in only_zero u.locations h.locations_are (h.placed 0 (omega arith))

  pointer_names : (k : ℕ) → k < length m.automata → Names (length (automaton m k).locations) (val u (length m.variables + k))
  unfolding row23 pointer range pointer_range
  pointer_names k l =
      let n = merged_size m in
      let h : inside (linear m) u (pointer m k) ≡ true = each_elim _ (inside (linear m) u) (not-false _ g.no_23) (pointer m k) (omega arith) in
      let some_location = item_at (λ (x : Automaton). 1 ≤ length x.locations) nobody m.automata (λ x i. (lawful.automata x i).some_location) k l in
      names _ _ some_location (rw (pointer_has m k) at h)

  pointed_shape : Shaped m (pointed m u)
  unfolding pointed named
  pointed_shape =
      let count = length m.variables in
      let n = values_count m u g in
      let d = length-drop count u.values in
      record {
        values_are = length-take-le count u.values (omega arith);
        locations_are = length-map (drop count u.values) named ∙ omega arith;
        placed = λ k l. rw (get_or-map named (drop count u.values) k (pos 0), get_or-drop count u.values k (pos 0)) (pointer_names k l).below;
      }

  pointed_values : take (length m.variables) u.values ++ map pos (map named (drop (length m.variables) u.values)) ≡ u.values
  pointed_values =
      let count = length m.variables in
      let n = values_count m u g in
      let d = length-drop count u.values in
      let e = names_back (drop count u.values) (λ k l. rw (get_or-drop count u.values k (pos 0)) (pointer_names k (omega arith)).is) in
      ap (λ (zs : List ℤ). take count u.values ++ zs) e ∙ take-append-drop count u.values

  pointed_beside : beside (pointed m u) ≡ u
  unfolding beside pointed
  pointed_beside = ap (λ (l : List ℕ). state_at u.phase l (beside (pointed m u)).values) at_zero ∙ ap (λ (zs : List ℤ). state_at u.phase u.locations zs) pointed_values

  pointed_state : IsState m (pointed m u)
  pointed_state = record {
    no_21 = shaped_21 m (pointed m u) pointed_shape;
    no_22 = shaped_22 m (pointed m u) pointed_shape;
    no_23 = sym (merged_23 m (pointed m u) pointed_shape) ∙ ap (row23 (linear m)) pointed_beside ∙ g.no_23;
  }

-- and every state of the merged automaton stands beside one
pub beside_of : (m : Model) → Lawful m → (u : State) → IsState (linear m) u → (t : State) × IsState m t × (beside t ≡ u)
beside_of m lawful u g = (pointed m u, pointed_state m lawful u g, pointed_beside m lawful u g)
