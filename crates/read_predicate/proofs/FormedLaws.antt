-- Sorts: each way out of the code of src/formed.rt.
use Prim.Native.Nat.{ℕ, zero, suc, ◌+◌, ◌-◌, ◌≤◌, ◌<◌}
use mathlib.Core.Path.{◌≡◌, refl, sym, ◌∙◌, ap, subst}
use mathlib.Core.Bool.{Bool, true, false, not, beq, ◌&&◌}
use mathlib.Core.List.{List, [], ◌∷◌, map}
use mathlib.Core.Option.{Option, none, some}
use native.Mathlib.Omega.{arith}
use native.Mathlib.Numerals.{add-one}
use borrow.Author.Tests.{le-leb, lt-leb, ne_eqb}
use lib.ListN.{length, get_or, take, drop, set, length-set, length-drop, drop_of_length-le}
use lib.Seq.{get_or-set_same, get_or-set_other, drop-cons, length-take-le, get_or-take}
use lib.Dec.{leb, eqb}
use Rattle.std.specs.List.{list_all}
use Rattle.std.proofs.lemmas.List.Folds.{list_all_more}
use Rattle.std.proofs.lemmas.List.{get_or-drop}
use mir.Syntax.{w64}
use mir.Val.{Fits}
use Rattle.model.specs.Basic.{on_some, lacks}
use Rattle.model.specs.Parse.{read_pred}
use Rattle.model.specs.Table.{word_of}
use Rattle.node_words.specs.declared.Node.{Node}
use Rattle.node_words.specs.declared.Node.TheVariants as N
use Rattle.node_words.specs.declared.Node.TheVariants.{All, Any, Not, Imp, Eq, Le, Number, Old, New, Add, Sub, Mul, If}
use Rattle.node_words.specs.Nodes.{meant, node_of}
use Rattle.node_words.proofs.NodeLaws.{word_by, Other, by_others}
use Rattle.read_predicate.specs.Formed.{takes, arity_of, take_off, push_sort, sort_stack, sole, stacked, stack_at, taken_from, Below, Pushed}
use Rattle.read_predicate.specs.Scratch.{Scratch}
use Rattle.read_predicate.specs.declared.formed.Arity.{Arity}
use Rattle.std.specs.Prelude as Std
use Rattle.std.specs.Prelude.{Some, None}
use Rattle.read_predicate.proofs.ScratchLaws.{scratch_same}
use Rattle.read_predicate.proofs.SortLaws.{formed_by_sorts, sorts_none}

-- `arity_of`: all nodes but `eq` and `le`, but numbers and variables, but sums
abbrev uncompared : List Node
uncompared = All 0 ∷ Any 0 ∷ Not ∷ Imp ∷ Number 0 ∷ Old 0 ∷ New 0 ∷ Add ∷ Sub ∷ Mul ∷ If ∷ N.Stray ∷ []

abbrev unvalued : List Node
unvalued = All 0 ∷ Any 0 ∷ Not ∷ Imp ∷ Eq ∷ Le ∷ Add ∷ Sub ∷ Mul ∷ If ∷ N.Stray ∷ []

abbrev unsummed : List Node
unsummed = All 0 ∷ Any 0 ∷ Not ∷ Imp ∷ Eq ∷ Le ∷ Number 0 ∷ Old 0 ∷ New 0 ∷ If ∷ N.Stray ∷ []

module _ (w : ℕ) (n : Node) (is : n ≡ node_of w) where
  pub arity_stray : n ≡ N.Stray → None ≡ arity_of (word_of w)
  unfolding arity_of meant
  arity_stray h = rw (word_by w n N.Stray is h)

  module _ (r : Std.Option Arity) where
    pub arity_all : (k i : ℕ) → n ≡ All k → i ≡ k → r ≡ takes i 0 true → r ≡ arity_of (word_of w)
    unfolding arity_of meant
    arity_all k i h e t = t ∙ rw (word_by w n (All k) is h, e)

    pub arity_any : (k i : ℕ) → n ≡ Any k → i ≡ k → r ≡ takes i 0 true → r ≡ arity_of (word_of w)
    unfolding arity_of meant
    arity_any k i h e t = t ∙ rw (word_by w n (Any k) is h, e)

    pub arity_not : n ≡ Not → r ≡ takes 1 0 true → r ≡ arity_of (word_of w)
    unfolding arity_of meant
    arity_not h t = t ∙ rw (word_by w n Not is h)

    pub arity_imp : n ≡ Imp → r ≡ takes 2 0 true → r ≡ arity_of (word_of w)
    unfolding arity_of meant
    arity_imp h t = t ∙ rw (word_by w n Imp is h)

    pub arity_comparisons : Other uncompared n → r ≡ takes 0 2 true → r ≡ arity_of (word_of w)
    unfolding arity_of meant
    arity_comparisons o t =
        t ∙ rw (word_by w n n is refl)
        (by_others (λ (m : Node). takes 0 2 true ≡ arity_of (meant m)) uncompared n o
        (tt, tt, tt, tt, refl, refl, tt, tt, tt, tt, tt, tt, tt, tt))

    pub arity_values : Other unvalued n → r ≡ takes 0 0 false → r ≡ arity_of (word_of w)
    unfolding arity_of meant
    arity_values o t =
        let leaf : (k : ℕ) → takes 0 0 false ≡ takes 0 0 false = λ k. refl in
        t ∙ rw (word_by w n n is refl)
        (by_others (λ (m : Node). takes 0 0 false ≡ arity_of (meant m)) unvalued n o
        (tt, tt, tt, tt, tt, tt, leaf, leaf, leaf, tt, tt, tt, tt, tt))

    pub arity_sums : Other unsummed n → r ≡ takes 0 2 false → r ≡ arity_of (word_of w)
    unfolding arity_of meant
    arity_sums o t =
        t ∙ rw (word_by w n n is refl)
        (by_others (λ (m : Node). takes 0 2 false ≡ arity_of (meant m)) unsummed n o
        (tt, tt, tt, tt, tt, tt, tt, tt, tt, refl, refl, refl, tt, tt))

    pub arity_if : n ≡ If → r ≡ takes 1 2 false → r ≡ arity_of (word_of w)
    unfolding arity_of meant
    arity_if h t = t ∙ rw (word_by w n If is h)

pub ruleset arity_laws = (arity_all, arity_any, arity_not, arity_imp, arity_comparisons, arity_values, arity_sums, arity_if, arity_stray)

-- `taken`
taken_short : (sorts : List Bool) (sort : Bool) (k h : ℕ) → h < k → None ≡ taken_from sorts sort k h
unfolding taken_from
taken_short sorts sort zero h l = absurd (omega arith)
taken_short sorts sort (suc k) zero l = refl
taken_short sorts sort (suc k) (suc h) l = go (beq (get_or sorts h false) sort) (taken_short sorts sort k h (omega arith))
  where
    go : (v : Bool) → None ≡ taken_from sorts sort k h → ◌≡◌ {A = Std.Option ℕ} None (elim v [ true ↦ taken_from sorts sort k h | false ↦ None ])
    go true ih = ih
    go false ih = refl

-- are the first so many sorts from a place on this one?
abbrev all_of_sort : List Bool → Bool → (below count : ℕ) → Bool
all_of_sort sorts sort below count = list_all (λ x. beq x sort) (take count (drop below sorts))

taken_found : (sorts : List Bool) (sort : Bool) (k h : ℕ) → k ≤ h → h ≤ length sorts
    → taken_from sorts sort k h ≡ elim (all_of_sort sorts sort (h - k) k) as (λ x. Std.Option ℕ) [ true ↦ Some (h - k) | false ↦ None ]
unfolding taken_from
taken_found sorts sort zero h l m = ap Some (omega arith)
taken_found sorts sort (suc k) zero l m = absurd (omega arith)
taken_found sorts sort (suc k) (suc h) l m =
    let more : all_of_sort sorts sort (h - k) (suc k) ≡ (all_of_sort sorts sort (h - k) k && beq (get_or sorts h false) sort) =
    ap (all_of_sort sorts sort (h - k)) (sym (add-one k))
    ∙ list_all_more (λ x. beq x sort) (drop (h - k) sorts) k false (omega (arith, length-drop (h - k) sorts))
    ∙ ap (λ (x : Bool). all_of_sort sorts sort (h - k) k && beq x sort) (get_or-drop (h - k) sorts k false ∙ ap (λ i. get_or sorts i false) (omega arith)) in
    go (beq (get_or sorts h false) sort) (all_of_sort sorts sort (h - k) k) (taken_found sorts sort k h (omega arith) (omega arith))
    ∙ ap (λ (w : Bool). elim w as (λ x. Std.Option ℕ) [ true ↦ Some (h - k) | false ↦ None ]) (sym more)
    ∙ ap (λ i. elim (all_of_sort sorts sort i (suc k)) as (λ x. Std.Option ℕ) [ true ↦ Some i | false ↦ None ]) (omega arith)
  where
    go : (v w : Bool) → taken_from sorts sort k h ≡ elim w as (λ x. Std.Option ℕ) [ true ↦ Some (h - k) | false ↦ None ]
        → elim v as (λ x. Std.Option ℕ) [ true ↦ taken_from sorts sort k h | false ↦ None ] ≡ elim (w && v) as (λ x. Std.Option ℕ) [ true ↦ Some (h - k) | false ↦ None ]
    go true true ih = ih
    go true false ih = ih
    go false true ih = refl
    go false false ih = refl

module _ (sorts : List Bool) (sort : Bool) (k h : ℕ) where
  pub taken_few : (r : Std.Option ℕ) → r ≡ None → (k ≤ h → ⊥) → r ≡ taken_from sorts sort k h
  taken_few r e l = e ∙ taken_short sorts sort k h (omega arith)

  module _ (inside : h ≤ length sorts) (below : ℕ) (i : (k ≤ h) × (below ≡ h - k)) (found : Bool) (e : found ≡ list_all (λ x. beq x sort) (take (h - below) (drop below sorts))) where
    by_found : taken_from sorts sort k h ≡ elim found as (λ x. Std.Option ℕ) [ true ↦ Some below | false ↦ None ]
    by_found =
        let back : h - (h - k) ≡ k = omega (arith, i.0) in
        let same : list_all (λ x. beq x sort) (take (h - below) (drop below sorts)) ≡ all_of_sort sorts sort (h - k) k = rw (i.1, back) in
        taken_found sorts sort k h i.0 inside
        ∙ ap (λ (x : Bool). elim x as (λ y. Std.Option ℕ) [ true ↦ Some (h - k) | false ↦ None ]) (sym (e ∙ same))
        ∙ ap (λ j. elim found as (λ y. Std.Option ℕ) [ true ↦ Some j | false ↦ None ]) (sym i.1)

    pub taken_all : found ≡ true → Some below ≡ taken_from sorts sort k h
    taken_all y = sym (by_found ∙ rw y)

    pub taken_other : found ≡ false → None ≡ taken_from sorts sort k h
    taken_other y = sym (by_found ∙ rw y)

-- what is left is lower, and is the stack with so many taken off
taken_below : (sorts : List Bool) (sort : Bool) (k h : ℕ) → Below h (taken_from sorts sort k h)
unfolding taken_from Below
taken_below sorts sort zero h = omega arith
taken_below sorts sort (suc k) zero = tt
taken_below sorts sort (suc k) (suc h) = go (beq (get_or sorts h false) sort) (taken_from sorts sort k h) (taken_below sorts sort k h)
  where
    up : (r : Std.Option ℕ) → Below h r → Below (suc h) r
    up (Some x) l = omega arith
    up None l = tt

    go : (v : Bool) (r : Std.Option ℕ) → Below h r → Below (suc h) (elim v [ true ↦ r | false ↦ None ])
    go true r l = up r l
    go false r l = tt

taken_low : (sorts : List Bool) (sort : Bool) (k h : ℕ) (r : Std.Option ℕ) (x : ℕ) → r ≡ taken_from sorts sort k h → r ≡ Some x → x ≤ h
unfolding Below
taken_low sorts sort k h r x e f = subst (Below h) (sym e ∙ f) (taken_below sorts sort k h)

-- so there is room for one more
module _ (sorts : List Bool) (sort : Bool) (k h : ℕ) (r : Std.Option ℕ) (x : ℕ) (e : r ≡ taken_from sorts sort k h) (f : r ≡ Some x) (size : ℕ) (l : h < size) where
  pub room_once : x ≤ size
  room_once = let u : x ≤ h = taken_low sorts sort k h r x e f in omega arith

  module _ (other : Bool) (j : ℕ) (s : Std.Option ℕ) (y : ℕ) (g : s ≡ taken_from sorts other j x) (i : s ≡ Some y) where
    pub room_twice : y < size
    room_twice =
        let u : x ≤ h = taken_low sorts sort k h r x e f in
        let v : y ≤ x = taken_low sorts other j x s y g i in
        omega arith

    pub room_next : Fits w64 size → Fits w64 (y + 1)
    room_next g = record { fits = omega (arith, g.fits, room_twice) }

taken_stack : (sorts : List Bool) (sort : Bool) (k h : ℕ) → stack_at sorts (taken_from sorts sort k h) ≡ take_off k sort (stacked sorts h)
unfolding taken_from stack_at take_off stacked
taken_stack sorts sort zero h = refl
taken_stack sorts sort (suc k) zero = refl
taken_stack sorts sort (suc k) (suc h) = go (beq (get_or sorts h false) sort) (taken_stack sorts sort k h)
  where
    go : (v : Bool) → stack_at sorts (taken_from sorts sort k h) ≡ take_off k sort (stacked sorts h)
        → stack_at sorts (elim v [ true ↦ taken_from sorts sort k h | false ↦ None ]) ≡ elim v as (λ x. Option (List Bool)) [ true ↦ take_off k sort (stacked sorts h) | false ↦ none ]
    go true ih = ih
    go false ih = refl

-- a sort that is put above the height
stacked_above : (sorts : List Bool) (i : ℕ) (v : Bool) (h : ℕ) → h ≤ i → stacked (set sorts i v) h ≡ stacked sorts h
unfolding stacked
stacked_above sorts i v zero l = refl
stacked_above sorts i v (suc h) l =
    rw (get_or-set_other sorts i h v false (λ e. omega arith), stacked_above sorts i v h (omega arith))

stacked_put : (sorts : List Bool) (h : ℕ) (v : Bool) → h < length sorts → stacked (set sorts h v) (h + 1) ≡ v ∷ stacked sorts h
unfolding stacked
stacked_put sorts h v l = rw (add-one h, get_or-set_same sorts h v false l, stacked_above sorts h v h (omega arith))

-- `step`
module _ (a x : Std.Option Arity) (e : x ≡ a) (old : List Bool) (h : ℕ) where
  off : push_sort a (stacked old h) ≡ none → Pushed a old old h None
  unfolding stack_at Below
  off z = record { stack = sym z; low = tt; kept = record { long = refl } }

  pub step_stray : (n : Std.Option ℕ) → n ≡ None → x ≡ None → Pushed a old old h n
  unfolding push_sort
  step_stray n k s = rw k (off (rw (← e, s)))

  module _ (w : Arity) (s : x ≡ Some w) (r : Std.Option ℕ) (f : r ≡ taken_from old true w.preds h) where
    pushed : (y : Std.Option ℕ) → r ≡ y → push_sort a (stacked old h) ≡ on_some (λ s₁. on_some (λ s₂. some (w.sort ∷ s₂)) (take_off w.exprs false s₁)) (stack_at old y)
    unfolding push_sort
    pushed y g = rw (← e, s, ← taken_stack old true w.preds h, ← f, g)

    pub step_preds : (n : Std.Option ℕ) → n ≡ None → r ≡ None → Pushed a old old h n
    unfolding stack_at on_some
    step_preds n k g = rw k (off (pushed None g))

    module _ (b : ℕ) (g : r ≡ Some b) (t : Std.Option ℕ) (k : t ≡ taken_from old false w.exprs b) where
      pushed_on : (y : Std.Option ℕ) → t ≡ y → push_sort a (stacked old h) ≡ on_some (λ s₂. some (w.sort ∷ s₂)) (stack_at old y)
      unfolding on_some stack_at
      pushed_on y z = pushed (Some b) g ∙ rw (← taken_stack old false w.exprs b, ← k, z)

      pub step_exprs : (n : Std.Option ℕ) → n ≡ None → t ≡ None → Pushed a old old h n
      unfolding stack_at on_some
      step_exprs n m z = rw m (off (pushed_on None z))

      module _ (top : ℕ) (z : t ≡ Some top) (room : h < length old) where
        step_top : top ≤ h
        step_top =
            let u : b ≤ h = taken_low old true w.preds h r b f g in
            let v : top ≤ b = taken_low old false w.exprs b t top k z in
            omega arith

        pub step_on : Pushed a old (set old top w.sort) h (Some (top + 1))
        unfolding stack_at on_some Below
        step_on =
            record {
              stack = ap some (stacked_put old top w.sort (omega (arith, step_top))) ∙ sym (pushed_on (Some top) z);
              low = omega (arith, step_top);
              kept = record { long = length-set old top w.sort };
            }

pub ruleset step_laws = (step_stray, step_preds, step_exprs, step_on)

pub ruleset room_laws = (room_once, room_twice, room_next)

-- one predicate is left
sole_is : (sorts : List Bool) (h : ℕ) → (eqb h 1 && get_or sorts 0 false) ≡ sole (some (stacked sorts h))
unfolding sole stacked
sole_is sorts zero = refl
sole_is sorts (suc zero) = refl
sole_is sorts (suc (suc h)) = rw (ne_eqb (suc (suc h)) 1 (λ e. omega arith))

-- the stack is as long as before
pub scratch_pushed : (old sorts new : List Bool) (a : Std.Option Arity) (height : ℕ) (r : Std.Option ℕ) → Scratch old sorts → Pushed a sorts new height r → Scratch old new
scratch_pushed old sorts new a height r s p = record { long = p.kept.long ∙ s.long }

-- `well_formed`: what the loop keeps. The sorts of the words from i on are on the stack, and they are not more than those words.
pub record Sorted (words : List ℕ) (n : ℕ) (sorts : List Bool) (height i : ℕ) : Type 0 where
  pub stack : sort_stack (map word_of (drop i (take n words))) ≡ some (stacked sorts height)
  pub few : height + i ≤ n

module _ (words : List ℕ) (n : ℕ) (b : n ≤ length words) where
  pub formed_start : (sorts : List Bool) → Sorted words n sorts 0 n
  unfolding sort_stack stacked
  formed_start sorts =
      let z : length (take n words) ≤ n = omega (arith, length-take-le n words b) in
      record { stack = rw (drop_of_length-le (take n words) z); few = omega arith }

  module _ (sorts : List Bool) (height i : ℕ) (inv : Sorted words n sorts height i) (z : 0 < i) (new : List Bool) (r : Std.Option ℕ)
      (p : Pushed (arity_of (word_of (get_or words (i - 1) 0))) sorts new height r) where
    onward : sort_stack (map word_of (drop (i - 1) (take n words))) ≡ stack_at new r
    unfolding sort_stack on_some
    onward =
        let u : i - 1 < length (take n words) = omega (arith, length-take-le n words b, inv.few) in
        let v : suc (i - 1) ≡ i = omega arith in
        let w : i - 1 < n = omega (arith, inv.few) in
        let d : drop (i - 1) (take n words) ≡ get_or words (i - 1) 0 ∷ drop i (take n words) =
        drop-cons (take n words) (i - 1) 0 u ∙ rw (get_or-take n words (i - 1) 0 w, v) in
        ap (λ (l : List ℕ). sort_stack (map word_of l)) d ∙ ap (on_some (push_sort (arity_of (word_of (get_or words (i - 1) 0))))) inv.stack ∙ sym p.stack

    pub formed_on : (h : ℕ) → r ≡ Some h → Sorted words n new h (i - 1)
    unfolding stack_at Below
    formed_on h e =
        let l : h ≤ height + 1 = subst (Below (height + 1)) e p.low in
        record { stack = onward ∙ rw e; few = omega (arith, inv.few) }

-- there is room for a sort of each word
module _ (words : List ℕ) (n : ℕ) (old sorts : List Bool) (height i : ℕ) (a : n ≤ length old) (k : Scratch old sorts) (inv : Sorted words n sorts height i) where
  pub formed_room : 0 < i → height < length sorts
  formed_room z = omega (arith, inv.few, k.long)

  pub formed_first : height ≡ 1 → 0 < length sorts
  formed_first e = omega (arith, inv.few, k.long)

-- what it answers, with room for so many sorts
abbrev formed : List ℕ → (n room : ℕ) → Bool
formed words n room = leb n room && (leb n (length words) && not (lacks (read_pred (map word_of (take n words)))))

module _ (words : List ℕ) (n room : ℕ) where
  pub formed_many : room < n → false ≡ formed words n room
  formed_many h = rw (lt-leb n room h)

  module _ (a : n ≤ room) where
    pub formed_short : length words < n → false ≡ formed words n room
    formed_short h = rw (le-leb n room a, lt-leb n (length words) h)

    module _ (b : n ≤ length words) where
      by_sorts : (o : Option (List Bool)) → sort_stack (map word_of (take n words)) ≡ o → formed words n room ≡ sole o
      by_sorts o e = rw (le-leb n room a, le-leb n (length words) b, formed_by_sorts (map word_of (take n words)), e)

      module _ (sorts : List Bool) (height i : ℕ) (inv : Sorted words n sorts height i) where
        pub formed_off : (z : 0 < i) (new : List Bool) (r : Std.Option ℕ) → Pushed (arity_of (word_of (get_or words (i - 1) 0))) sorts new height r → r ≡ None → false ≡ formed words n room
        unfolding stack_at sole
        formed_off z new r p e = sym (by_sorts none (sorts_none word_of (i - 1) (take n words) (onward words n b sorts height i inv z new r p ∙ rw e)))

        module _ (z : i ≡ 0) where
          end_is : (eqb height 1 && get_or sorts 0 false) ≡ formed words n room
          end_is = sole_is sorts height ∙ sym (by_sorts _ (rw z at inv.stack))

          pub formed_more : (height ≡ 1 → ⊥) → false ≡ formed words n room
          formed_more e = rw (ne_eqb height 1 e) at end_is

          pub formed_one : height ≡ 1 → get_or sorts 0 false ≡ formed words n room
          formed_one e = rw e at end_is

pub ruleset formed_laws = (scratch_same, scratch_pushed, formed_many, formed_short, formed_start, formed_room, formed_off, formed_on, formed_more, formed_one, formed_first)
