-- On a sheet's words, `own_sets` gives the automata's own sets: each word says of an action what the model says.
use mathlib.Core.Path.{◌≡◌, refl, sym, ap, ◌∙◌}
use mathlib.Core.Bool.{Bool, true, false, ◌&&◌}
use mathlib.Core.List.{List, [], ◌∷◌, ◌++◌, map}
use Prim.Native.Nat.{ℕ, zero, suc, ◌+◌, ◌-◌, ◌*◌, ◌^◌, ◌≤◌, ◌<◌}
use native.Mathlib.Omega.{arith}
use native.Mathlib.Nat.{pow-succ'}
use lib.ListN.{length, get_or, length-map, get_or-eq_default}
use lib.Dec.{leb, ltb}
use lib.Pow.{pow_mono}
use borrow.Author.Tests.{leb-true, leb-false, ltb-true}
use Rattle.model.specs.Basic.{member}
use Rattle.model.specs.Bounds.{max_actions}
use Rattle.model.specs.Composition.{Tree}
use Rattle.model.specs.Limits.{rises}
use Rattle.model.specs.Model.{Automaton, Model, nobody, automaton}
use Rattle.model.specs.Lawful.{Lawful}
use Rattle.model.specs.Table.{bit, low_bits, high_bits, sheet_words}
use Rattle.model.proofs.Tests.{and_left, and_right}
use Rattle.model.proofs.Bits.{rises_cons}
use Rattle.model.proofs.Lists.{all_at}
use Rattle.model.proofs.Numbered.{Leaves, leaves_all}
use Rattle.table_tree.specs.Sets.{one_word}
use Rattle.table_tree.proofs.SetLaws.{set_member}
use Rattle.table_tree.proofs.Inside.{list_back, Agrees}
use Rattle.table_places.specs.Outline.{set_low, set_high, automaton_at}
use Rattle.table_places.specs.Layout.{layout_of}
use Rattle.table_places.specs.Own.{own_set, own_sets}
use Rattle.table_places.proofs.CodeLaws.{step_short}
use Rattle.table_places.proofs.OutlineLaws.{low_stands, high_stands}
use Rattle.table_places.proofs.Standing.{automaton_stands}
use Rattle.table_places.proofs.LayoutLaws.{set_place, no_place, sets_long}

-- A rising list's two words have 32 bits each: what is still to come leaves room for the next bit.
record Rising (A last k : ℕ) (ks : List ℕ) : Type 0 where
  above : last < k
  most : k ≤ A
  later : rises A k ks ≡ true

rising : (A last k : ℕ) (ks : List ℕ) → rises A last (k ∷ ks) ≡ true → Rising A last k ks
rising A last k ks r =
    let q = rw (rises_cons A last k ks) at r in
    let both = and_left (ltb last k && leb k A) _ q in
    record {
      above = ltb-true last k (and_left (ltb last k) _ both);
      most = leb-true k A (and_right (ltb last k) _ both);
      later = and_right (ltb last k && leb k A) _ q;
    }

low_here : (k : ℕ) (ks : List ℕ) → leb k 31 ≡ true → low_bits (k ∷ ks) ≡ 2 ^ k + low_bits ks
unfolding low_bits
low_here k ks e = rw (e, low_bits)

low_not : (k : ℕ) (ks : List ℕ) → leb k 31 ≡ false → low_bits (k ∷ ks) ≡ low_bits ks
unfolding low_bits
low_not k ks e = rw (e, low_bits)

high_here : (k : ℕ) (ks : List ℕ) → leb k 31 ≡ false → high_bits (k ∷ ks) ≡ 2 ^ (k - 32) + high_bits ks
unfolding high_bits
high_here k ks e = rw (e, high_bits)

high_not : (k : ℕ) (ks : List ℕ) → leb k 31 ≡ true → high_bits (k ∷ ks) ≡ high_bits ks
unfolding high_bits
high_not k ks e = rw (e, high_bits)

low_room : (A last n : ℕ) (list : List ℕ) → n ≤ suc last → n ≤ 32 → rises A last list ≡ true → low_bits list + 2 ^ n ≤ 4294967296
low_room A last n [] l h r = unfold low_bits in let p : 2 ^ n ≤ 2 ^ 32 = pow_mono h in omega arith
low_room A last n (k ∷ ks) l h r = go (leb k 31) refl (rising A last k ks r) (λ i j. low_room A k (suc k) ks i j) (λ i j. low_room A k 32 ks i j)
  where
    go : (b : Bool) → leb k 31 ≡ b → Rising A last k ks → (suc k ≤ suc k → suc k ≤ 32 → rises A k ks ≡ true → low_bits ks + 2 ^ suc k ≤ 4294967296)
        → (32 ≤ suc k → 32 ≤ 32 → rises A k ks ≡ true → low_bits ks + 2 ^ 32 ≤ 4294967296) → low_bits (k ∷ ks) + 2 ^ n ≤ 4294967296
    go true e s near far =
        let b = leb-true k 31 e in
        let a = s.above in
        let i : n ≤ k = omega arith in
        let p : 2 ^ n ≤ 2 ^ k = pow_mono i in
        let d : 2 ^ suc k ≡ 2 * 2 ^ k = pow-succ' 2 k in
        let q = near (omega arith) (omega arith) s.later in
        rw (low_here k ks e) (omega arith)
    go false e s near far =
        let b = leb-false k 31 e in
        let p : 2 ^ n ≤ 2 ^ 32 = pow_mono h in
        let q = far (omega arith) (omega arith) s.later in
        rw (low_not k ks e) (omega arith)

high_room : (A last : ℕ) (list : List ℕ) → A ≤ max_actions → last ≤ A → rises A last list ≡ true → high_bits list + 2 ^ (suc last - 32) ≤ 4294967296
high_room A last [] few l r =
    unfold high_bits in
    let i : suc last - 32 ≤ 32 = omega arith in
    let p : 2 ^ (suc last - 32) ≤ 2 ^ 32 = pow_mono i in
    omega arith
high_room A last (k ∷ ks) few l r = go (leb k 31) refl (rising A last k ks r) (λ i j. high_room A k ks few i j)
  where
    go : (b : Bool) → leb k 31 ≡ b → Rising A last k ks → (k ≤ A → rises A k ks ≡ true → high_bits ks + 2 ^ (suc k - 32) ≤ 4294967296)
        → high_bits (k ∷ ks) + 2 ^ (suc last - 32) ≤ 4294967296
    go true e s ih =
        let b = leb-true k 31 e in
        let a = s.above in
        let i : suc last - 32 ≤ suc k - 32 = omega arith in
        let p : 2 ^ (suc last - 32) ≤ 2 ^ (suc k - 32) = pow_mono i in
        let q = ih s.most s.later in
        rw (high_not k ks e) (omega arith)
    go false e s ih =
        let b = leb-false k 31 e in
        let a = s.above in
        let i : suc last - 32 ≤ k - 32 = omega arith in
        let p : 2 ^ (suc last - 32) ≤ 2 ^ (k - 32) = pow_mono i in
        let z : suc k - 32 ≡ suc (k - 32) = omega arith in
        let d : 2 ^ (suc k - 32) ≡ 2 * 2 ^ (k - 32) = ap (λ (n : ℕ). 2 ^ n) z ∙ pow-succ' 2 (k - 32) in
        let q = ih s.most s.later in
        rw (high_here k ks e) (omega arith)

-- a rising list as one word: its bits are its members
abbrev set_word : List ℕ → ℕ
set_word list = one_word (low_bits list) (high_bits list)

pub word_member : (A : ℕ) (list : List ℕ) (action : ℕ) → A ≤ max_actions → rises A 0 list ≡ true → bit (set_word list) action ≡ member action list
word_member A list action few r =
    let low = low_room A 0 0 list (omega arith) (omega arith) r in
    let high = high_room A 0 list few (omega arith) r in
    set_member (low_bits list) (high_bits list) (omega arith) (omega arith) (set_word list) refl action ∙ ap (member action) (list_back A list few r)

map_at : (f : ℕ → ℕ) (l : List ℕ) (k : ℕ) → k < length l → get_or (map f l) k 0 ≡ f (get_or l k 0)
map_at f [] k h = absurd (omega arith)
map_at f (x ∷ l) zero h = refl
map_at f (x ∷ l) (suc k) h = map_at f l k (omega arith)

-- past the table's end there is no set
no_set : (t : List ℕ) → own_set t (length t) ≡ 0
unfolding own_set set_low set_high one_word
no_set t =
    let l : length t ≤ length t = omega arith in
    let here : get_or t (length t) 0 ≡ 0 = get_or-eq_default t 0 l in
    let on : length t - length t < 1 = omega arith in
    rw (← step_short t (length t) 1 l on, here)

module _ (m : Model) (ok : Lawful m) (t rest : List ℕ) (e : t ≡ sheet_words m ++ rest) where
  abbrev own : List ℕ
  own = own_sets t (layout_of t).sets

  -- automaton k's own set as a word; past the last automaton it is 0, as for the automaton that says nothing
  pub own_set_of : (k : ℕ) → get_or own k 0 ≡ set_word (automaton m k).sync
  unfolding own_sets
  own_set_of k = go (leb (length m.automata) k) refl (leb 16 k) refl
    where
      ps : List ℕ
      ps = (layout_of t).sets

      long : length ps ≡ 16
      long = sets_long t

      nothing : length m.automata ≤ k → 0 ≡ set_word (automaton m k).sync
      nothing l = unfold low_bits high_bits one_word in ap (λ (x : Automaton). set_word x.sync) (sym (get_or-eq_default m.automata nobody l))

      go : (b : Bool) → leb (length m.automata) k ≡ b → (c : Bool) → leb 16 k ≡ c → get_or own k 0 ≡ set_word (automaton m k).sync
      go b p true q =
          let l = leb-true 16 k q in
          let past : length own ≤ k = omega (arith, length-map ps (own_set t), long) in
          let none : length m.automata ≤ k = omega (arith, ok.few_automata) in
          get_or-eq_default own 0 past ∙ nothing none
      go true p false q =
          let l = leb-true (length m.automata) k p in
          let u = leb-false 16 k q in
          map_at (own_set t) ps k (omega (arith, long)) ∙ ap (own_set t) (no_place m ok t rest e k l u) ∙ no_set t ∙ nothing l
      go false p false q =
          let l = leb-false (length m.automata) k p in
          let u = leb-false 16 k q in
          map_at (own_set t) ps k (omega (arith, long)) ∙ ap (own_set t) (set_place m ok t rest e k l) ∙ set_stands k l
        where
          set_stands : (j : ℕ) → j < length m.automata → own_set t (automaton_at t j) ≡ set_word (automaton m j).sync
          set_stands j h = unfold own_set in rw (low_stands t _ (automaton m j) (automaton_at t j) (automaton_stands t rest m j h e), high_stands t _ (automaton m j) (automaton_at t j) (automaton_stands t rest m j h e))

  -- so it says of an action what the model says
  module _ (action : ℕ) where
    pub own_agrees : (k : ℕ) → Agrees t own m action m.actions ok.few_actions k
    unfolding rises
    own_agrees k =
        let r = all_at (λ x. rises m.actions 0 x.sync ≡ true) nobody refl m.automata (λ x i. (ok.automata x i).sync) k in
        ap (λ (n : ℕ). bit n action) (own_set_of k) ∙ word_member m.actions (automaton m k).sync action ok.few_actions r

    pub leaves_agree : (c : Tree) → Leaves (Agrees t own m action m.actions ok.few_actions) c
    leaves_agree c = leaves_all own_agrees c
