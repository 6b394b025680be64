-- Each way out of the code of src/head.rt.
use mathlib.Core.Path.{◌≡◌, refl, ap, ap₂, ◌∙◌, subst}
use mathlib.Core.List.{List, [], ◌∷◌, ◌++◌}
use Prim.Native.Nat.{ℕ, zero, suc, ◌+◌, ◌-◌, ◌≤◌, ◌<◌}
use native.Mathlib.Omega.{arith}
use lib.ListN.{length, get_or, take}
use Rattle.std.proofs.lemmas.List.{get_or-take, length-take, length-take-le}
use Rattle.model.specs.Bounds.{bias}
use Rattle.model.specs.Table.{owner_word, owner_from}
use Rattle.model.specs.Linear.{merged_owner}
use Rattle.model.proofs.Owners.{pointer_owned, pointer_unowned}
use Rattle.table_places.specs.declared.layout.Layout.{Layout}
use Rattle.table_places.specs.Outline.{location_count, range_at, low_at, high_at, owner_at}
use Rattle.table_places.specs.Layout.{automata_of, variables_of}
use Rattle.merge_append.specs.declared.append.Filling.{Filling}
use Rattle.merge_append.specs.Append.{Filled}
use Rattle.merge_append.specs.NodeWords.{upward, pointer_of}
use Rattle.merge_words.specs.Head.{format_in, last_location_at, merged_owner_word, pointer_owner_word, variable_at, variables_from, pointers_from, head_words}
use Rattle.merge_append.proofs.AppendLaws.{then_filled, Underway, begun, on_by, ended}

-- `last_location`
pub last_is : (t : List ℕ) (at n r : ℕ) → n ≡ location_count t at → r ≡ n - 1 → r ≡ last_location_at t at
unfolding last_location_at
last_is t at n r e f = f ∙ rw e

-- `merged_owner`
module _ (w : ℕ) where
  pub owner_nobody : w ≡ 0 → 0 ≡ merged_owner_word w
  unfolding merged_owner_word owner_from merged_owner owner_word
  owner_nobody z = rw z

  pub owner_first : (w ≡ 0 → ⊥) → 1 ≡ merged_owner_word w
  unfolding merged_owner_word owner_from merged_owner owner_word
  owner_first h = go w h
    where
      go : (k : ℕ) → (k ≡ 0 → ⊥) → 1 ≡ merged_owner_word k
      go zero n = absurd (n refl)
      go (suc k) n = refl

-- `pointer_owner`
module _ (f : ℕ) where
  pub pointers_nobody : f < 3 → 0 ≡ pointer_owner_word f
  unfolding pointer_owner_word owner_word
  pointers_nobody h = rw (pointer_unowned f h)

  pub pointers_first : 3 ≤ f → 1 ≡ pointer_owner_word f
  unfolding pointer_owner_word owner_word
  pointers_first h = rw (pointer_owned f h)

pub ruleset owner_laws = (owner_nobody, owner_first, pointers_nobody, pointers_first)

-- `variable`
pub variable_is : (t : List ℕ) (place l low h high o v owner : ℕ) (old new : Filling) → l ≡ low_at t place → low ≡ l
    → h ≡ high_at t place → high ≡ h → o ≡ owner_at t place → v ≡ o
    → owner ≡ merged_owner_word v → Filled (low ∷ high ∷ owner ∷ []) old new → Filled (variable_at t place) old new
unfolding variable_at
variable_is t place l low h high o v owner old new el elow eh ehigh eo ev eowner a = rw (← el, ← elow, ← eh, ← ehigh, ← eo, ← ev, ← eowner) a

-- a loop that appends `part i` for each i below a count: `from i n` are the n parts from i on
record Parts (from : ℕ → ℕ → List ℕ) (part : ℕ → List ℕ) : Type 0 where
  no_more : (i : ℕ) → from i 0 ≡ []
  one_more_lem : (i n : ℕ) → from i (suc n) ≡ part i ++ from (i + 1) n

module _ (from : ℕ → ℕ → List ℕ) (part : ℕ → List ℕ) (parts : Parts from part) where
  parts_begun : (count : ℕ) (old : Filling) → Underway (from 0 count) old (from 0 (count - 0)) old
  parts_begun count old = let z : count - 0 ≡ count = omega arith in rw z (begun (from 0 count) old)

  module _ (old now : Filling) (i count : ℕ) (u : Underway (from 0 count) old (from i (count - i)) now) where
    parts_turn : i < count → (new : Filling) → Filled (part i) now new
        → Underway (from 0 count) old (from (i + 1) (count - (i + 1))) new
    parts_turn y new a =
        let n : count - i ≡ suc (count - (i + 1)) = omega arith in
        on_by u (ap (from i) n ∙ parts.one_more_lem i (count - (i + 1))) a

    parts_end : count ≤ i → Filled (from 0 count) old now
    parts_end h = let n : count - i ≡ 0 = omega arith in ended u (ap (from i) n ∙ parts.no_more i)

-- `variables`
module _ (t : List ℕ) where
  abbrev variable_part : ℕ → List ℕ
  variable_part k = variable_at t (range_at t k)

  in_variables : Parts (variables_from t) variable_part
  unfolding variables_from
  in_variables = record { no_more = λ k. refl; one_more_lem = λ k n. refl }

  pub variables_begun : (count : ℕ) (old : Filling)
      → Underway (variables_from t 0 count) old (variables_from t 0 (count - 0)) old
  variables_begun = parts_begun (variables_from t) variable_part in_variables

  module _ (old now : Filling) (k count : ℕ)
      (u : Underway (variables_from t 0 count) old (variables_from t k (count - k)) now) where
    pub variables_turn : k < count → (p : ℕ) (new : Filling) → p ≡ range_at t k → Filled (variable_at t p) now new
        → Underway (variables_from t 0 count) old (variables_from t (k + 1) (count - (k + 1))) new
    variables_turn y p new e a =
        parts_turn (variables_from t) variable_part in_variables old now k count u y new (rw (← e) a)

    pub variables_end : count ≤ k → Filled (variables_from t 0 count) old now
    variables_end = parts_end (variables_from t) variable_part in_variables old now k count u

pub ruleset variables_laws = (variables_begun, variables_turn, variables_end)

-- `pointers`
module _ (t places : List ℕ) where
  abbrev pointer_part : ℕ → List ℕ
  pointer_part i = bias ∷ upward (last_location_at t (get_or places i 0)) ∷ pointer_owner_word (format_in t) ∷ []

  in_pointers : Parts (pointers_from t places) pointer_part
  unfolding pointers_from
  in_pointers = record { no_more = λ i. refl; one_more_lem = λ i n. refl }

  pub pointers_begun : (count : ℕ) (old : Filling)
      → Underway (pointers_from t places 0 count) old (pointers_from t places 0 (count - 0)) old
  pointers_begun = parts_begun (pointers_from t places) pointer_part in_pointers

  module _ (old now : Filling) (i count : ℕ)
      (u : Underway (pointers_from t places 0 count) old (pointers_from t places i (count - i)) now) where
    pub pointers_turn : i < length (take count places) → (f o : ℕ) → f ≡ format_in t → o ≡ pointer_owner_word f
        → (l h : ℕ) (new : Filling) → l ≡ last_location_at t (get_or (take count places) i 0) → h ≡ upward l
        → Filled (bias ∷ h ∷ o ∷ []) now new
        → Underway (pointers_from t places 0 count) old (pointers_from t places (i + 1) (count - (i + 1))) new
    pointers_turn y f o ef eo l h new el eh a =
        let z : i < count = omega (arith, length-take count places) in
        let p : get_or (take count places) i 0 ≡ get_or places i 0 = get_or-take count places i 0 z in
        let k : l ≡ last_location_at t (get_or places i 0) = el ∙ ap (last_location_at t) p in
        parts_turn (pointers_from t places) pointer_part in_pointers old now i count u z new (rw (← ef, ← eo, ← k, ← eh) a)

    pub pointers_end : length (take count places) ≤ i → count ≤ length places → (x : Layout) → places ≡ x.sets → count ≡ automata_of x
        → Filled (pointers_from t x.sets 0 (automata_of x)) old now
    pointers_end h few x es ec =
        let all : count ≤ i = omega (arith, length-take-le count places few) in
        subst (λ (l : List ℕ). Filled l old now) (ap₂ (λ (ps : List ℕ) (k : ℕ). pointers_from t ps 0 k) es ec)
        (parts_end (pointers_from t places) pointer_part in_pointers old now i count u all)

pub ruleset pointers_laws = (pointers_begun, pointers_turn, pointers_end)

-- `head`
pub head_is : (t : List ℕ) (x : Layout) (f vn v : ℕ) → f ≡ format_in t → vn ≡ pointer_of x.variables x.automata → v ≡ variables_of x
    → (o m1 m2 m3 new : Filling) → Filled (f ∷ x.actions ∷ vn ∷ []) o m1 → Filled (variables_from t 0 v) m1 m2
    → Filled (pointers_from t x.sets 0 (automata_of x)) m2 m3 → Filled (1 ∷ []) m3 new → Filled (head_words t x) o new
unfolding head_words
head_is t x f vn v ef evn ev o m1 m2 m3 new p1 p2 p3 p4 =
    rw (← ef, ← evn, ← ev) (then_filled p1 (then_filled p2 (then_filled p3 p4)))
