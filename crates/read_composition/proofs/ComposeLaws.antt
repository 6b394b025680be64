-- Each way out of the code of src/compose.rt.
use Prim.Native.Nat.{ℕ, ◌+◌, ◌-◌, ◌*◌, ◌≤◌, ◌<◌}
use mathlib.Core.Path.{◌≡◌, refl, sym, ◌∙◌, ap}
use mathlib.Core.Bool.{Bool, true, false, ◌&&◌, ◌||◌}
use mathlib.Core.List.{List, [], ◌∷◌}
use Rattle.std.proofs.Common.{◌⊎◌, inl, inr}
use native.Mathlib.Omega.{arith}
use borrow.Author.Tests.{le-leb, lt-leb, leb-true, eq-eqb, ne_eqb, eqb-false}
use lib.ListN.{length, set, take, drop}
use lib.Dec.{eqb, leb}
use mir.Syntax.{w32}
use mir.Val.{Fits}
use Rattle.format.specs.Bytes.{Bytes, parts, comma, space}
use Rattle.format.specs.Number.{natural_of}
use Rattle.read_composition.specs.declared.list.Listed.{Listed}
use Rattle.read_composition.specs.List.{list_of}
use Rattle.format.specs.Tokens.{tokens, outside}
use Rattle.read_composition.specs.declared.token.Kind.{Kind}
use Rattle.read_composition.specs.declared.token.Kind.TheVariants.{Par, Syn, Set, Ini, Leaf, Stray}
use Rattle.read_composition.specs.declared.compose.Composition.{Composition}
use Rattle.read_composition.specs.declared.compose.Walk.{Walk}
use Rattle.model.proofs.Tests.{or_none_left, or_none_right}
use Rattle.format.proofs.ReadLaws.{number_of_lem}
use Rattle.std.specs.Prelude as Std
use Rattle.std.specs.Prelude.{Some, None}
use Rattle.text_bytes.specs.Find.{first_from}
use Rattle.text_numbers.specs.Number.{natural_in}
use Rattle.text_bytes.proofs.FindLaws.{find_after}
use Rattle.text_numbers.proofs.NumberLaws.{natural_said}
use Rattle.model.specs.Basic.{same}
use Rattle.format.specs.Bytes.{bytes}
use Rattle.read_composition.specs.Token.{starts_number, leaf_of, leaf_kind, word_kind, set_kind, kind_of, is_syn, is_stray, kinds_of}
use Rattle.text_bytes.proofs.Parting.{parts_from, from_past, from_start, from_step}
use Rattle.read_composition.specs.Read.{kind_words, IsSmall, placed, next_after, put_after, stepped, place_beyond, at_first, ill_formed, ending, Outcome, walk, outcome, composition_of, memory_of}
use Rattle.read_composition.proofs.Beyond.{beyond_bounds, further, outside_first, further_from}

-- `put`
module _ (k : Kind) (nodes next : ℕ) (out : List ℕ) where
  module _ (h : 64 ≤ nodes) where
    pub next_full : next ≡ next_after k nodes next
    unfolding next_after
    next_full = rw (le-leb 64 nodes h, next_after)

    pub put_full : out ≡ put_after k nodes next out
    unfolding put_after
    put_full = rw (le-leb 64 nodes h, put_after)

  module _ (h : nodes < 64) where
    pub next_by : next_after k nodes next ≡ next + length (kind_words k)
    unfolding next_after
    next_by = rw (lt-leb 64 nodes h, next_after)

    pub put_by : put_after k nodes next out ≡ placed (kind_words k) next out
    unfolding put_after
    put_by = rw (lt-leb 64 nodes h, put_after)

    pub next_par : k ≡ Par → next + 1 ≡ next_after k nodes next
    unfolding kind_words
    next_par e = sym (next_by ∙ rw e)

    pub put_par : k ≡ Par → set out next 0 ≡ put_after k nodes next out
    unfolding kind_words placed
    put_par e = sym (put_by ∙ rw e)

    pub next_none : (k ≡ Syn) ⊎ (k ≡ Stray) → next ≡ next_after k nodes next
    unfolding kind_words
    next_none (inl e) = sym (next_by ∙ rw e (omega arith))
    next_none (inr e) = sym (next_by ∙ rw e (omega arith))

    pub put_none : (k ≡ Syn) ⊎ (k ≡ Stray) → out ≡ put_after k nodes next out
    unfolding kind_words placed
    put_none (inl e) = sym (put_by ∙ rw e)
    put_none (inr e) = sym (put_by ∙ rw e)

    pub next_set : (a b : ℕ) → k ≡ Set a b → next + 3 ≡ next_after k nodes next
    unfolding kind_words
    next_set a b e = sym (next_by ∙ rw e)

    pub put_set : (a b : ℕ) → k ≡ Set a b → set (set (set out next 1) (next + 1) a) (next + 2) b ≡ put_after k nodes next out
    unfolding kind_words placed
    put_set a b e =
        let two : next + 1 + 1 ≡ next + 2 = omega arith in
        sym (put_by ∙ rw (e, two))

    pub next_ini : k ≡ Ini → next + 3 ≡ next_after k nodes next
    unfolding kind_words
    next_ini e = sym (next_by ∙ rw e)

    pub put_ini : k ≡ Ini → set (set (set out next 1) (next + 1) 0) (next + 2) 0 ≡ put_after k nodes next out
    unfolding kind_words placed
    put_ini e =
        let two : next + 1 + 1 ≡ next + 2 = omega arith in
        sym (put_by ∙ rw (e, two))

    pub next_leaf : (a : ℕ) → k ≡ Leaf a → next + 1 ≡ next_after k nodes next
    unfolding kind_words
    next_leaf a e = sym (next_by ∙ rw e)

    pub put_leaf : (a : ℕ) → k ≡ Leaf a → set out next (2 + a) ≡ put_after k nodes next out
    unfolding kind_words placed
    put_leaf a e = sym (put_by ∙ rw e)

pub leaf_fits : (k : Kind) (a : ℕ) → k ≡ Leaf a → IsSmall k → Fits w32 (2 + a)
unfolding IsSmall
leaf_fits k a e h =
    let l : a ≤ 15 = rw e at h in
    record { fits = omega arith }

pub ruleset put_laws = (next_full, put_full, next_par, put_par, next_none, put_none, next_set, put_set, next_ini, put_ini, next_leaf, put_leaf, leaf_fits)

-- `step`
module _ (k : Kind) (next : ℕ) (w : Walk) where
  pub step_none : (k ≡ Syn) ⊎ (k ≡ Stray) → w ≡ stepped k next w
  unfolding stepped
  step_none (inl e) = rw e
  step_none (inr e) = rw e

  pub step_par : k ≡ Par
      → record { owed = w.owed + 1; leaves = w.leaves; ordered = w.ordered; nodes = w.nodes + 1; next = next } ≡ stepped k next w
  unfolding stepped
  step_par e = rw e

  pub step_other : (k ≡ Syn → ⊥) → (k ≡ Stray → ⊥) → (k ≡ Par → ⊥) → ((a : ℕ) → k ≡ Leaf a → ⊥)
      → record { owed = w.owed; leaves = w.leaves; ordered = w.ordered; nodes = w.nodes + 1; next = next } ≡ stepped k next w
  unfolding stepped
  step_other a b c d = go k a b c d
    where
      go : (x : Kind) → (x ≡ Syn → ⊥) → (x ≡ Stray → ⊥) → (x ≡ Par → ⊥) → ((a : ℕ) → x ≡ Leaf a → ⊥)
          → record { owed = w.owed; leaves = w.leaves; ordered = w.ordered; nodes = w.nodes + 1; next = next } ≡ stepped x next w
      go Par a b c d = absurd (c refl)
      go Syn a b c d = absurd (a refl)
      go (Set x y) a b c d = refl
      go Ini a b c d = refl
      go (Leaf x) a b c d = absurd (d x refl)
      go Stray a b c d = absurd (b refl)

  pub step_leaf : (a i : ℕ) → k ≡ Leaf a → i ≡ a
      → record { owed = w.owed - 1; leaves = w.leaves + 1; ordered = w.ordered && eqb i w.leaves; nodes = w.nodes + 1; next = next }
      ≡ stepped k next w
  unfolding stepped
  step_leaf a i e z = rw (e, z)

pub ruleset step_laws = (step_none, step_par, step_other, step_leaf)

-- `ended`
module _ (N : ℕ) (w : Walk) where
  pub end_formed : w.owed ≡ 0 → Some (record { ordered = w.ordered && eqb w.leaves N; nodes = w.nodes; next = w.next }) ≡ ending N w
  unfolding ending
  end_formed h = rw (eq-eqb w.owed 0 h, ending)

  pub end_owed : (r : Std.Option Composition) → (w.owed ≡ 0 → ⊥) → r ≡ ill_formed → r ≡ ending N w
  unfolding ending
  end_owed r h e = rw (ne_eqb w.owed 0 h, ending) e

pub ruleset end_laws = (end_formed, end_owed)

-- a leaf's word fits, whatever the token is
small_natural : (t : Bytes) (n : Std.Option ℕ) → natural_in t 15 ≡ n → IsSmall (leaf_of n)
unfolding IsSmall leaf_of
small_natural t (Some k) e =
    let said = natural_said t 15 k e in
    let l : natural_of t ≤ 15 = leb-true (natural_of t) 15 (number_of_lem 15 t said.0).1 in
    rw said.1 at l
small_natural t None e = tt

small_leaf : (t : Bytes) → IsSmall (leaf_kind t)
unfolding IsSmall leaf_kind
small_leaf [] = tt
small_leaf (b ∷ t) = go (eqb b 97)
  where
    go : (v : Bool) → IsSmall (elim v [ true ↦ leaf_of (natural_in t 15) | false ↦ Stray ])
    go true = small_natural t (natural_in t 15) refl
    go false = tt

small_word : (t : Bytes) → IsSmall (word_kind t)
unfolding IsSmall word_kind
small_word t = go (same t (bytes "syn")) (same t (bytes "par")) (same t (bytes "ini"))
  where
    go : (v w x : Bool) → IsSmall (elim v [ true ↦ Syn | false ↦ elim w [ true ↦ Par | false ↦ elim x [ true ↦ Ini | false ↦ leaf_kind t ] ] ])
    go true w x = tt
    go false true x = tt
    go false false true = tt
    go false false false = small_leaf t

small_set : (t : Bytes) → IsSmall (set_kind t)
unfolding IsSmall set_kind
small_set t = go (starts_number t) (list_of 63 (parts comma t))
  where
    go : (v : Bool) (l : Listed) → IsSmall (elim v [ true ↦ Set l.low l.high | false ↦ Stray ])
    go true l = tt
    go false l = tt

pub kind_small : (due : Bool) (t : Bytes) (k : Kind) → k ≡ kind_of due t → IsSmall k
unfolding kind_of
kind_small true t k e = rw e (small_set t)
kind_small false t k e = rw e (small_word t)

-- how far the counts go by the place `at`
pub record Within (w : Walk) (at : ℕ) : Type 0 where
  pub owed_in : w.owed ≤ w.nodes + 1
  pub leaves_in : w.leaves ≤ w.nodes
  pub next_in : w.next ≤ 3 * w.nodes
  pub nodes_in : w.nodes ≤ at

pub words_few : (k : Kind) → length (kind_words k) ≤ 3
unfolding kind_words
words_few Par = omega arith
words_few Syn = omega arith
words_few (Set a b) = omega arith
words_few Ini = omega arith
words_few (Leaf a) = omega arith
words_few Stray = omega arith

next_bound : (k : Kind) (nodes next : ℕ) → next_after k nodes next ≤ next + 3
unfolding next_after
next_bound k nodes next = go (leb 64 nodes)
  where
    go : (v : Bool) → elim v as (λ x. ℕ) [ true ↦ next | false ↦ next + length (kind_words k) ] ≤ next + 3
    go true = omega arith
    go false = omega (arith, words_few k)

step_within : (w : Walk) (at to next : ℕ) → Within w at → at < to → next ≤ w.next + 3 → (k : Kind) → Within (stepped k next w) to
unfolding stepped
step_within w at to next b h l Par = record { owed_in = omega arith; leaves_in = omega arith; next_in = omega arith; nodes_in = omega arith }
step_within w at to next b h l Syn = record { owed_in = omega arith; leaves_in = omega arith; next_in = omega arith; nodes_in = omega arith }
step_within w at to next b h l (Set x y) = record { owed_in = omega arith; leaves_in = omega arith; next_in = omega arith; nodes_in = omega arith }
step_within w at to next b h l Ini = record { owed_in = omega arith; leaves_in = omega arith; next_in = omega arith; nodes_in = omega arith }
step_within w at to next b h l (Leaf x) = record { owed_in = omega arith; leaves_in = omega arith; next_in = omega arith; nodes_in = omega arith }
step_within w at to next b h l Stray = record { owed_in = omega arith; leaves_in = omega arith; next_in = omega arith; nodes_in = omega arith }

-- `read`
pub still_owed : (owed : ℕ) (p : Bool) → (eqb owed 0 || p) ≡ false → 1 ≤ owed
still_owed owed p h =
    let n = eqb-false owed 0 (or_none_left (eqb owed 0) p h) in
    omega arith

pub next_stop : (N : ℕ) (w : Walk) (out : List ℕ) (k : Kind) (ks : List Kind) → (eqb w.owed 0 || is_stray k) ≡ true
    → walk N w out (k ∷ ks) ≡ record { answer = ill_formed; memory = out }
unfolding walk
next_stop N w out k ks h = rw (h, walk)

pub next_go : (N : ℕ) (w : Walk) (out : List ℕ) (k : Kind) (ks : List Kind) → (eqb w.owed 0 || is_stray k) ≡ false
    → walk N w out (k ∷ ks) ≡ walk N (stepped k (next_after k w.nodes w.next) w) (put_after k w.nodes w.next out) ks
unfolding walk
next_go N w out k ks h = rw (h, walk)

-- where the walk goes on, the token is not stray
stray_not : (owed : ℕ) (k : Kind) (p : Bool) → p ≡ is_stray k → (eqb owed 0 || p) ≡ false → is_stray k ≡ false
stray_not owed k p z g = sym z ∙ or_none_right (eqb owed 0) p g

module _ (s : Bytes) (N : ℕ) (first : List ℕ) where
  pub read_start : outcome N s first ≡ walk N at_first first (kinds_of false (outside 0 [] (parts_from space s 0)))
  unfolding outcome tokens
  read_start = ap (λ ts. walk N at_first first (kinds_of false (outside 0 [] ts))) (sym (from_start space s))

  module _ (at : ℕ) (due : Bool) (w : Walk) (out : List ℕ)
      (inv : outcome N s first ≡ walk N w out (kinds_of due (outside 0 [] (parts_from space s at)))) where
    module _ (h : length s < at) where
      ends : outcome N s first ≡ record { answer = ending N w; memory = out }
      unfolding kinds_of walk outside
      ends = inv ∙ ap (λ ts. walk N w out (kinds_of due (outside 0 [] ts))) (from_past space s at h)

      pub read_answer : (r : Std.Option Composition) → r ≡ ending N w → r ≡ composition_of N s first
      read_answer r e = e ∙ sym (ap (λ (o : Outcome). o.answer) ends)

      pub read_memory : out ≡ memory_of N s first
      read_memory = sym (ap (λ (o : Outcome). o.memory) ends)

    module _ (r : ℕ) (k : Kind) (p : Bool) (h : at ≤ length s) (e : r ≡ first_from s at 32) (l : r ≤ length s)
        (q : k ≡ kind_of due (take (r - at) (drop at s))) (z : p ≡ is_stray k) where
      abbrev token : Bytes
      token = take (r - at) (drop at s)

      here : outcome N s first ≡ walk N w out (k ∷ kinds_of (is_syn k) (further token (parts_from space s (r + 1))))
      unfolding kinds_of
      here =
          inv ∙ ap (λ ts. walk N w out (kinds_of due (outside 0 [] ts))) (from_step space s at r h e) ∙
          ap (λ ts. walk N w out (kinds_of due ts)) (outside_first token (parts_from space s (r + 1))) ∙
          ap (λ x. walk N w out (x ∷ kinds_of (is_syn x) (further token (parts_from space s (r + 1))))) (sym q)

      module _ (g : (eqb w.owed 0 || p) ≡ true) where
        stops : outcome N s first ≡ record { answer = ill_formed; memory = out }
        stops = here ∙ next_stop N w out k _ (ap (λ x. eqb w.owed 0 || x) (sym z) ∙ g)

        pub stop_answer : (c : Std.Option Composition) → c ≡ ill_formed → c ≡ composition_of N s first
        stop_answer c y = y ∙ sym (ap (λ (o : Outcome). o.answer) stops)

        pub stop_memory : out ≡ memory_of N s first
        stop_memory = sym (ap (λ (o : Outcome). o.memory) stops)

      module _ (next : ℕ) (g : (eqb w.owed 0 || p) ≡ false) (x : Walk) (y : next ≡ next_after k w.nodes w.next)
          (v : x ≡ stepped k next w) (to : ℕ) (t : to ≡ place_beyond s (r + 1) k) where
        later : further token (parts_from space s (r + 1)) ≡ outside 0 [] (parts_from space s to)
        later =
            let n : is_stray (kind_of due token) ≡ false = ap is_stray (sym q) ∙ stray_not w.owed k p z g in
            further_from s (r + 1) (omega arith) due token n ∙
            ap (λ j. outside 0 [] (parts_from space s j)) (ap (place_beyond s (r + 1)) (sym q) ∙ sym t)

        pub read_go : (new : List ℕ) (d : Bool) → new ≡ put_after k w.nodes w.next out → d ≡ is_syn k
            → outcome N s first ≡ walk N x new (kinds_of d (outside 0 [] (parts_from space s to)))
        read_go new d a b =
            here ∙ next_go N w out k _ (ap (λ u. eqb w.owed 0 || u) (sym z) ∙ g) ∙
            ap (λ ts. walk N (stepped k (next_after k w.nodes w.next) w) (put_after k w.nodes w.next out) (kinds_of (is_syn k) ts)) later ∙
            rw (v, y, a, b)

        pub read_within : Within w at → Within x to
        read_within i =
            let b : next ≤ w.next + 3 = omega (arith, next_bound k w.nodes w.next) in
            let far = beyond_bounds s (r + 1) k (omega arith) in
            let m : at < place_beyond s (r + 1) k = omega (arith, far.0, find_after s at 32 r h e) in
            rw (v, t) (step_within w at (place_beyond s (r + 1) k) next i m b k)

-- the next turn begins later, and not far past the end
module _ (s : Bytes) (at r to : ℕ) (k : Kind) (h : at ≤ length s) (e : r ≡ first_from s at 32) (l : r ≤ length s) (t : to ≡ place_beyond s (r + 1) k) where
  pub turn_in : to ≤ length s + 1
  turn_in = let far = beyond_bounds s (r + 1) k (omega arith) in omega (arith, far.1)

  pub turn_beyond : length s + 1 - to < length s + 1 - at
  turn_beyond = let far = beyond_bounds s (r + 1) k (omega arith) in omega (arith, far.0, find_after s at 32 r h e)

pub ruleset read_laws = (kind_small, still_owed, read_start, read_answer, read_memory, stop_answer, stop_memory, read_go, read_within, turn_in, turn_beyond)
