-- The synchronising set of the merged sheet is that of the merged model.
use mathlib.Core.Path.{◌≡◌, refl, sym, ap, ap₂, ◌∙◌}
use mathlib.Core.Bool.{Bool, true, false}
use mathlib.Core.List.{List, [], ◌∷◌, ◌++◌, append-nil}
use Prim.Native.Nat.{ℕ, zero, suc, ◌+◌, ◌-◌, ◌*◌, ◌^◌, ◌%◌, ◌≤◌, ◌<◌}
use native.Mathlib.Omega.{arith}
use native.Mathlib.Nat.{zero-add, add-zero, add-mul, mul_assoc, mul_comm, one-mul, zero-mul, mod-eq_of_lt}
use lib.ListN.{length, take, drop}
use lib.Dec.{eqb, leb}
use lib.Pow.{pow_mono, pow-add}
use borrow.Author.Tests.{le-leb, lt-leb, ne_eqb}
use Rattle.model.specs.Basic.{keep, count_up}
use Rattle.model.specs.Limits.{rises}
use Rattle.model.specs.Model.{Model, in_set}
use Rattle.model.specs.Lawful.{Lawful}
use Rattle.model.specs.Table.{low_bits, high_bits, set_words, bit, set_of, sheet_words}
use Rattle.model.proofs.Lists.{keep_append, keep_first, keep_skip, count_last, count_split}
use Rattle.model.proofs.Numbered.{numbered, leaves_in}
use Rattle.table_tree.specs.Nodes.{tree_words}
use Rattle.table_tree.specs.Members.{in_set_at}
use Rattle.table_tree.proofs.SetLaws.{keep_alike, low_joined, high_joined}
use Rattle.table_tree.proofs.Inside.{list_back, in_set_of}
use Rattle.table_places.specs.Layout.{layout_of}
use Rattle.table_places.proofs.Standing.{tree_begins}
use Rattle.table_places.proofs.LayoutLaws.{tree_line}
use Rattle.table_places.proofs.AgreeLaws.{own_agrees}
use Rattle.merge_takers.specs.Moves.{root_of}
use Rattle.merge_words.specs.Sync.{is_shared, shifted, bits_from, sets_of, words_of}
use Rattle.merge_table.proofs.Standing.{own_of}
use Rattle.merge_table.proofs.HeadIs.{laid_actions}

-- the sum of g over the numbers k below n of which f holds, counted from a number on
unfoldable sum_of : (g : ℕ → ℕ) (f : ℕ → Bool) (from n : ℕ) → ℕ
sum_of g f from zero = 0
sum_of g f from (suc n) = elim (f (from + n)) [ true ↦ g n + sum_of g f from n | false ↦ sum_of g f from n ]

abbrev power : ℕ → ℕ
power k = 2 ^ k

sum_below : (f : ℕ → Bool) (from n : ℕ) → sum_of power f from n < 2 ^ n
unfolding sum_of
sum_below f from zero = omega arith
sum_below f from (suc n) = go (f (from + n)) (sum_below f from n)
  where
    two : 2 ^ suc n ≡ 2 ^ n * 2
    two = let e : suc n ≡ n + 1 = omega arith in ap power e ∙ pow-add 2 n 1

    go : (b : Bool) → sum_of power f from n < 2 ^ n → elim b as (λ c. ℕ) [ true ↦ 2 ^ n + sum_of power f from n | false ↦ sum_of power f from n ] < 2 ^ suc n
    go true h = omega (arith, two)
    go false h = omega (arith, two)

sum_none : (f : ℕ → Bool) (from n : ℕ) → sum_of (λ k. 0) f from n ≡ 0
unfolding sum_of
sum_none f from zero = refl
sum_none f from (suc n) = go (f (from + n)) (sum_none f from n)
  where
    go : (b : Bool) → sum_of (λ k. 0) f from n ≡ 0 → ◌≡◌ {A = ℕ} (elim b as (λ c. ℕ) [ true ↦ 0 + sum_of (λ k. 0) f from n | false ↦ sum_of (λ k. 0) f from n ]) 0
    go true h = omega arith
    go false h = h

-- the bits that the code puts together
odd : (w P : ℕ) → (w * 2 + 1) * P ≡ w * (P * 2) + P
odd w P = rw (add-mul (w * 2) 1 P, mul_assoc w 2 P, mul_comm 2 P, one-mul P)

even : (w P : ℕ) → w * 2 * P ≡ w * (P * 2)
even w P = rw (mul_assoc w 2 P, mul_comm 2 P)

bits_are : (f : ℕ → Bool) (from n w : ℕ) → n ≤ 32 → w < 2 ^ (32 - n) → bits_from f from n w ≡ w * 2 ^ n + sum_of power f from n
unfolding bits_from sum_of shifted
bits_are f from zero w h l = omega arith
bits_are f from (suc n) w h l = go (f (from + n)) refl (λ v k. bits_are f from n v (omega arith) k)
  where
    less : 2 ^ (32 - suc n) ≤ 2 ^ 31
    less = let z : 32 - suc n ≤ 31 = omega arith in pow_mono z

    same : w % 2147483648 ≡ w
    same = mod-eq_of_lt (omega (arith, less))

    half : 2 ^ (32 - n) ≡ 2 ^ (32 - suc n) * 2
    half = let e : 32 - n ≡ 32 - suc n + 1 = omega arith in ap power e ∙ pow-add 2 (32 - suc n) 1

    two : 2 ^ suc n ≡ 2 ^ n * 2
    two = let e : suc n ≡ n + 1 = omega arith in ap power e ∙ pow-add 2 n 1

    go : (b : Bool) → f (from + n) ≡ b → ((v : ℕ) → v < 2 ^ (32 - n) → bits_from f from n v ≡ v * 2 ^ n + sum_of power f from n)
        → bits_from f from n (shifted w (f (from + n))) ≡ w * 2 ^ suc n + elim (f (from + n)) [ true ↦ 2 ^ n + sum_of power f from n | false ↦ sum_of power f from n ]
    go true q ih =
        let s : shifted w (f (from + n)) ≡ w * 2 + 1 = rw (q, same) in
        rw (q, two) (ap (bits_from f from n) (ap (shifted w) (sym q) ∙ s) ∙ ih (w * 2 + 1) (omega (arith, half)) ∙ omega (arith, odd w (2 ^ n)))
    go false q ih =
        let s : shifted w (f (from + n)) ≡ w * 2 = rw (q, same) in
        rw (q, two) (ap (bits_from f from n) (ap (shifted w) (sym q) ∙ s) ∙ ih (w * 2) (omega (arith, half)) ∙ omega (arith, even w (2 ^ n)))

whole_bits : (f : ℕ → Bool) (from : ℕ) → bits_from f from 32 0 ≡ sum_of power f from 32
whole_bits f from = bits_are f from 32 0 (omega arith) (omega arith) ∙ ap (λ x. x + sum_of power f from 32) (zero-mul (2 ^ 32)) ∙ zero-add (sum_of power f from 32)

-- the numbers counted up, in two parts
keep_nothing : (f : ℕ → Bool) (n c : ℕ) → ((k : ℕ) → n ≤ k → f k ≡ false) → keep f (count_up n c) ≡ []
unfolding count_up keep
keep_nothing f n zero h = refl
keep_nothing f n (suc c) h = keep_skip f n (count_up (suc n) c) (h n (omega arith)) ∙ keep_nothing f (suc n) c (λ k a. h k (omega arith))

-- the bits of the numbers that are kept, where B adds up the bits of a list
kept_sum : (B : List ℕ → ℕ) → B [] ≡ 0 → ((k l : List ℕ) → B (k ++ l) ≡ B k + B l) → (g : ℕ → ℕ) (f : ℕ → Bool) (s n : ℕ) → ((k : ℕ) → k < n → B ((s + k) ∷ []) ≡ g k)
    → B (keep f (count_up s n)) ≡ sum_of g f s n
unfolding sum_of count_up keep
kept_sum B nil app g f s zero single = nil
kept_sum B nil app g f s (suc n) single =
    ap (λ (l : List ℕ). B (keep f l)) (count_last s n) ∙ ap B (keep_append f (count_up s n) ((s + n) ∷ [])) ∙ app (keep f (count_up s n)) (keep f ((s + n) ∷ [])) ∙
    go (f (s + n)) refl (kept_sum B nil app g f s n (λ k h. single k (omega arith))) (single n (omega arith))
  where
    go : (b : Bool) → f (s + n) ≡ b → B (keep f (count_up s n)) ≡ sum_of g f s n → B ((s + n) ∷ []) ≡ g n
        → B (keep f (count_up s n)) + B (keep f ((s + n) ∷ [])) ≡ elim (f (s + n)) [ true ↦ g n + sum_of g f s n | false ↦ sum_of g f s n ]
    go true q ih one =
        let e : B (keep f ((s + n) ∷ [])) ≡ g n = ap B (keep_first f (s + n) [] q) ∙ one in
        rw q (omega arith)
    go false q ih one =
        let e : B (keep f ((s + n) ∷ [])) ≡ 0 = ap B (keep_skip f (s + n) [] q) ∙ nil in
        rw q (omega arith)

low_one : (x : ℕ) → x ≤ 31 → low_bits (x ∷ []) ≡ 2 ^ x
unfolding low_bits
low_one x h = rw (le-leb x 31 h, low_bits) (add-zero (2 ^ x))

low_none : (x : ℕ) → 31 < x → low_bits (x ∷ []) ≡ 0
unfolding low_bits
low_none x h = rw (lt-leb x 31 h, low_bits)

high_one : (x : ℕ) → 31 < x → high_bits (x ∷ []) ≡ 2 ^ (x - 32)
unfolding high_bits
high_one x h = rw (lt-leb x 31 h, high_bits) (add-zero (2 ^ (x - 32)))

high_none : (x : ℕ) → x ≤ 31 → high_bits (x ∷ []) ≡ 0
unfolding high_bits
high_none x h = rw (le-leb x 31 h, high_bits)

nothing_low : low_bits [] ≡ 0
unfolding low_bits
nothing_low = refl

nothing_high : high_bits [] ≡ 0
unfolding high_bits
nothing_high = refl

-- the two words of the actions below 64 of which f holds
halves : (f : ℕ → Bool) → keep f (count_up 0 64) ≡ keep f (count_up 0 32) ++ keep f (count_up 32 32)
halves f = ap (keep f) (count_split 0 32 32) ∙ keep_append f (count_up 0 32) (count_up 32 32)

low_word : (f : ℕ → Bool) → low_bits (keep f (count_up 0 64)) ≡ sum_of power f 0 32
low_word f =
    let a : low_bits (keep f (count_up 0 32)) ≡ sum_of power f 0 32 =
    kept_sum low_bits nothing_low low_joined power f 0 32 (λ k h. low_one (0 + k) (omega arith) ∙ ap power (zero-add k)) in
    let b : low_bits (keep f (count_up 32 32)) ≡ 0 = kept_sum low_bits nothing_low low_joined (λ k. 0) f 32 32 (λ k h. low_none (32 + k) (omega arith)) ∙ sum_none f 32 32 in
    ap low_bits (halves f) ∙ low_joined (keep f (count_up 0 32)) (keep f (count_up 32 32)) ∙ omega arith

high_word : (f : ℕ → Bool) → high_bits (keep f (count_up 0 64)) ≡ sum_of power f 32 32
high_word f =
    let a : high_bits (keep f (count_up 0 32)) ≡ 0 = kept_sum high_bits nothing_high high_joined (λ k. 0) f 0 32 (λ k h. high_none (0 + k) (omega arith)) ∙ sum_none f 0 32 in
    let b : high_bits (keep f (count_up 32 32)) ≡ sum_of power f 32 32 =
    kept_sum high_bits nothing_high high_joined power f 32 32 (λ k h. let z : 32 + k - 32 ≡ k = omega arith in high_one (32 + k) (omega arith) ∙ ap power z) in
    ap high_bits (halves f) ∙ high_joined (keep f (count_up 0 32)) (keep f (count_up 32 32)) ∙ omega arith

-- the words of a rising list have 32 bits
pub set_fits : (A : ℕ) (list : List ℕ) → A ≤ 63 → rises A 0 list ≡ true → (low_bits list < 4294967296) × (high_bits list < 4294967296)
unfolding set_of
set_fits A list few r =
    let low = low_bits list in
    let high = high_bits list in
    let p = keep (bit low) (count_up 0 32) in
    let q = keep (λ k. bit high (k - 32)) (count_up 32 32) in
    let back : p ++ q ≡ list = list_back A list few r in
    let a : low_bits p ≡ sum_of power (bit low) 0 32 = kept_sum low_bits nothing_low low_joined power (bit low) 0 32 (λ k h. low_one (0 + k) (omega arith) ∙ ap power (zero-add k)) in
    let b : low_bits q ≡ 0 = kept_sum low_bits nothing_low low_joined (λ k. 0) (λ k. bit high (k - 32)) 32 32 (λ k h. low_none (32 + k) (omega arith)) ∙ sum_none (λ k. bit high (k - 32)) 32 32 in
    let c : high_bits p ≡ 0 = kept_sum high_bits nothing_high high_joined (λ k. 0) (bit low) 0 32 (λ k h. high_none (0 + k) (omega arith)) ∙ sum_none (bit low) 0 32 in
    let d : high_bits q ≡ sum_of power (λ k. bit high (k - 32)) 32 32 =
    kept_sum high_bits nothing_high high_joined power (λ k. bit high (k - 32)) 32 32 (λ k h. let z : 32 + k - 32 ≡ k = omega arith in high_one (32 + k) (omega arith) ∙ ap power z) in
    let l : low_bits list ≡ sum_of power (bit low) 0 32 = ap low_bits (sym back) ∙ low_joined p q ∙ omega arith in
    let h : high_bits list ≡ sum_of power (λ k. bit high (k - 32)) 32 32 = ap high_bits (sym back) ∙ high_joined p q ∙ omega arith in
    (omega (arith, sum_below (bit low) 0 32), omega (arith, sum_below (λ k. bit high (k - 32)) 32 32))

module _ (m : Model) (lawful : Lawful m) (t rest : List ℕ) (e : t ≡ sheet_words m ++ rest) where
  -- where the tree's nodes stand
  pub root_stands : take (length (tree_words m.tree)) (drop (root_of t (layout_of t)) t) ≡ tree_words m.tree
  root_stands = tree_begins t rest m.tree (layout_of t).tree (tree_line m lawful t rest e)

  in_set_is : (action : ℕ) → in_set_at t (own_of t) action (root_of t (layout_of t)) ≡ in_set m action m.tree
  in_set_is action =
      in_set_of t (own_of t) m action m.actions lawful.few_actions m.tree (root_of t (layout_of t)) lawful.tree.size root_stands lawful.tree.lists
      (leaves_in m.tree 0 (numbered m.tree _ lawful.tree.in_order) (λ k p q. own_agrees m lawful t rest e action k))

  abbrev in_whole : ℕ → Bool
  in_whole a = in_set m a m.tree

  abbrev test : ℕ → Bool
  test = is_shared t (layout_of t) (own_of t)

  test_none : test 0 ≡ false
  unfolding is_shared
  test_none = refl

  test_in : (a : ℕ) → 1 ≤ a → a < 1 + m.actions → test a ≡ in_whole a
  unfolding is_shared
  test_in a h l =
      let z : eqb a 0 ≡ false = ne_eqb a 0 (λ y. absurd (omega arith)) in
      let u : leb a (layout_of t).actions ≡ true = ap (leb a) (laid_actions m lawful t rest e) ∙ le-leb a m.actions (omega arith) in
      rw (z, u) (in_set_is a)

  test_past : (a : ℕ) → 1 + m.actions ≤ a → test a ≡ false
  unfolding is_shared
  test_past a h =
      let z : eqb a 0 ≡ false = ne_eqb a 0 (λ y. absurd (omega arith)) in
      let u : leb a (layout_of t).actions ≡ false = ap (leb a) (laid_actions m lawful t rest e) ∙ lt-leb a m.actions (omega arith) in
      rw (z, u)

  kept_is : keep test (count_up 0 64) ≡ keep in_whole (count_up 1 m.actions)
  kept_is =
      let A = m.actions in
      let few = lawful.few_actions in
      let first : keep test (count_up 0 64) ≡ keep test (count_up 1 63) = unfold count_up in keep_skip test 0 (count_up 1 63) test_none in
      let n : 63 ≡ A + (63 - A) = omega arith in
      first ∙ ap (λ c. keep test (count_up 1 c)) n ∙ ap (keep test) (count_split 1 A (63 - A)) ∙ keep_append test (count_up 1 A) (count_up (1 + A) (63 - A)) ∙
      ap₂ (λ (k l : List ℕ). k ++ l) (keep_alike test in_whole 1 A test_in) (keep_nothing test (1 + A) (63 - A) test_past) ∙ append-nil (keep in_whole (count_up 1 A))

  -- the law: the two words are those of the merged automaton's set
  pub sync_words : words_of (sets_of t (layout_of t)) ≡ set_words (keep (λ a. in_set m a m.tree) (count_up 1 m.actions))
  unfolding words_of sets_of set_words
  sync_words =
      ap₂ (λ x y. x ∷ y ∷ []) (whole_bits test 0 ∙ sym (low_word test)) (whole_bits test 32 ∙ sym (high_word test)) ∙
      ap (λ (l : List ℕ). low_bits l ∷ high_bits l ∷ []) kept_is
