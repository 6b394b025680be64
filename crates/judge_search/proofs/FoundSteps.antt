-- Each way out of the code of src/duties.rt.
use mathlib.Core.Path.{◌≡◌, refl, sym, ap, ◌∙◌}
use mathlib.Core.Bool.{Bool, true, false, ◌&&◌, ◌||◌, true≢false}
use mathlib.Core.List.{List}
use Prim.Native.Nat.{ℕ, zero, suc, ◌+◌, ◌-◌, ◌*◌, ◌/◌, ◌%◌, ◌^◌, ◌≤◌, ◌<◌}
use native.Mathlib.Omega.{arith}
use native.Mathlib.Nat.{one-mul}
use native.Mathlib.Numerals.{sub-one}
use lib.Pow.{pow_mono, shl_exact}
use borrow.Author.Tests.{eq-eqb, ne_eqb, lt-ltb, le-ltb, le-leb, lt-leb}
use Rattle.model.specs.Bounds.{max_automata, max_tree_nodes}
use Rattle.model.specs.Table.{bit}
use Rattle.table_tree.specs.declared.nodes.Found.{Found}
use Rattle.table_tree.specs.declared.nodes.Found.TheVariants.{Par, Syn, Leaf, Stray}
use Rattle.table_tree.specs.Nodes.{node_at, skip_from}
use Rattle.table_tree.specs.Members.{in_set_at}
use Rattle.table_tree.specs.Sets.{single}
use Rattle.table_tree.proofs.SetLaws.{bit_above, single_below, word_bit}
use Rattle.judge_search.specs.Found.{max_duties, shared_bits, taken_by, parted_at, covered_by, seek_by, seek_at, found_in}

-- one taker more fits a word
pub one_fits : (k one takers : ℕ) → k < 16 → one ≡ single k → takers < one → takers + one < 2 ^ 64
one_fits k one takers h s l =
    let e : one ≡ 2 ^ k = single_below k one s (omega arith) in
    let up : 2 ^ k ≤ 2 ^ 15 = pow_mono {i = k} {j = 15} (omega arith) in
    omega (arith, e, up)

-- `is_still`
pub still_high : (still k : ℕ) → still < 2 ^ 32 → 31 < k → false ≡ bit still k
still_high still k h l = sym (bit_above still 32 k h l)

pub ruleset still_laws = (still_high, word_bit)

module _ (words sets : List ℕ) (action : ℕ) (masks first : List ℕ) (still changed : ℕ) where
  abbrev S : (left at duties x : ℕ) → Bool
  S = seek_at words sets action masks first still changed

  -- `seek`
  pub seek_done : (left at duties x : ℕ) (r : Bool) → duties ≤ 1 → r ≡ covered_by words sets action masks first still changed x → r ≡ S left at duties x
  unfolding seek_at
  seek_done zero at duties x r l q = q ∙ rw (le-leb duties 1 l, seek_at)
  seek_done (suc n) at duties x r l q = q ∙ rw (le-leb duties 1 l, seek_at)

  module _ (left at duties x : ℕ) (more : 1 < duties) where
    pub seek_spent : left ≡ 0 → false ≡ S left at duties x
    unfolding seek_at
    seek_spent z = rw (z, lt-leb duties 1 more, seek_at)

    module _ (z : left ≡ 0 → ⊥) where
      pub seek_step : S left at duties x ≡ seek_by words sets action masks first still changed (S (left - 1)) duties x (node_at words at)
      unfolding seek_at
      seek_step = go left z
        where
          go : (n : ℕ) → (n ≡ 0 → ⊥) → S n at duties x ≡ seek_by words sets action masks first still changed (S (n - 1)) duties x (node_at words at)
          go zero y = absurd (y refl)
          go (suc n) y = rw (sub-one (suc n), lt-leb duties 1 more, seek_at)

      module _ (f : Found) (e : f ≡ node_at words at) where
        seek_by_lem : (g : Found) → f ≡ g → S left at duties x ≡ seek_by words sets action masks first still changed (S (left - 1)) duties x g
        seek_by_lem g h = seek_step ∙ ap (seek_by words sets action masks first still changed (S (left - 1)) duties x) (sym e ∙ h)

        pub seek_stray : f ≡ Stray → false ≡ S left at duties x
        unfolding seek_by
        seek_stray h = sym (seek_by_lem Stray h)

        module _ (n : ℕ) (r : Bool) where
          pub seek_par : f ≡ Par n → r ≡ parted_at words sets action (S (left - 1)) n duties x → r ≡ S left at duties x
          unfolding seek_by
          seek_par h q = q ∙ sym (seek_by_lem (Par n) h)

          pub seek_syn : (a b : ℕ) → f ≡ Syn a b n → r ≡ S (left - 1) n duties x → r ≡ S left at duties x
          unfolding seek_by
          seek_syn a b h q = q ∙ sym (seek_by_lem (Syn a b n) h)

          module _ (k : ℕ) (h : f ≡ Leaf k n) where
            pub leaf_takes : (duties % 2 ≡ 0 → ⊥) → r ≡ taken_by (S (left - 1)) n (duties / 2) k x → r ≡ S left at duties x
            unfolding seek_by
            leaf_takes o q = q ∙ sym (seek_by_lem (Leaf k n) h ∙ rw (ne_eqb (duties % 2) 0 o, seek_by))

            module _ (o : duties % 2 ≡ 0) (b : Bool) (eb : b ≡ bit still k) where
              leaf_even : S left at duties x ≡ (b && S (left - 1) n (duties / 2) x)
              unfolding seek_by
              leaf_even = seek_by_lem (Leaf k n) h ∙ rw (eq-eqb (duties % 2) 0 o, seek_by, eb)

              pub leaf_rests : b ≡ true → r ≡ S (left - 1) n (duties / 2) x → r ≡ S left at duties x
              leaf_rests y q = sym (leaf_even ∙ rw (y, ← q))

              pub leaf_moves : b ≡ false → r ≡ false → r ≡ S left at duties x
              leaf_moves y q = q ∙ sym (leaf_even ∙ rw y)

  -- `parted`
  module _ (left next duties x : ℕ) where
    abbrev P : Bool
    P = parted_at words sets action (S left) next duties x

    abbrev on : ℕ → Bool
    on b = S left next (duties / 2 * 4 + b) x

    pub parted_full : max_duties ≤ duties / 2 → false ≡ P
    unfolding parted_at
    parted_full l = rw (le-ltb (duties / 2) max_duties l, parted_at)

    module _ (few : duties / 2 < max_duties) where
      pub parted_rests : duties % 2 ≡ 0 → (r : Bool) → r ≡ S left next (duties / 2 * 4) x → r ≡ P
      unfolding parted_at
      parted_rests o r q = q ∙ sym (rw (lt-ltb (duties / 2) max_duties few, parted_at, eq-eqb (duties % 2) 0 o, parted_at))

      module _ (o : duties % 2 ≡ 0 → ⊥) (here there : Bool) (eh : here ≡ in_set_at words sets action next) (n : ℕ) (en : n ≡ skip_from words max_tree_nodes 1 next)
          (et : there ≡ in_set_at words sets action n) where
        parted_by : P ≡ shared_bits here there on
        unfolding parted_at
        parted_by = rw (lt-ltb (duties / 2) max_duties few, parted_at, ne_eqb (duties % 2) 0 o, parted_at, eh, et, en)

        pub parted_both : (here && there) ≡ true → (r : Bool) → r ≡ on 3 → r ≡ P
        unfolding shared_bits
        parted_both h r q = q ∙ go here there h ∙ sym parted_by
          where
            go : (x y : Bool) → (x && y) ≡ true → on 3 ≡ shared_bits x y on
            go true true p = refl
            go true false p = absurd (true≢false (sym p))
            go false y p = absurd (true≢false (sym p))

        pub parted_right : (here && there) ≡ false → there ≡ true → (r : Bool) → r ≡ on 2 → r ≡ P
        unfolding shared_bits
        parted_right h g r q = q ∙ go here there h g ∙ sym parted_by
          where
            go : (x y : Bool) → (x && y) ≡ false → y ≡ true → on 2 ≡ shared_bits x y on
            go true true p z = absurd (true≢false p)
            go true false p z = absurd (true≢false (sym z))
            go false true p z = refl
            go false false p z = absurd (true≢false (sym z))

        module _ (g : there ≡ false) (r : Bool) (q : r ≡ on 1) where
          pub parted_left : (here || r) ≡ true → r ≡ P
          unfolding shared_bits
          parted_left h = go here h ∙ sym (parted_by ∙ rw g)
            where
              go : (x : Bool) → (x || r) ≡ true → r ≡ shared_bits x false on
              go true p = q
              go false p = p ∙ sym (rw (← q, p))

          pub parted_last : (here || r) ≡ false → (b : Bool) → b ≡ on 2 → b ≡ P
          unfolding shared_bits
          parted_last h b e = e ∙ go here h ∙ sym (parted_by ∙ rw g)
            where
              go : (x : Bool) → (x || r) ≡ false → on 2 ≡ shared_bits x false on
              go true p = absurd (true≢false p)
              go false p = sym (rw (← q, p))

  -- `taken`
  module _ (left next duties x k : ℕ) where
    abbrev K : Bool
    K = taken_by (S left) next duties k x

    pub taken_stray : max_automata ≤ k → false ≡ K
    unfolding taken_by
    taken_stray l = rw (le-ltb k max_automata l, taken_by)

    module _ (l : k < max_automata) (p : ℕ) (e : p ≡ 2 ^ k) where
      pub taken_before : p ≤ x → false ≡ K
      unfolding taken_by
      taken_before h = rw (lt-ltb k max_automata l, taken_by, le-ltb x (2 ^ k) (omega (arith, e)), taken_by)

      pub taken_joins : x < p → (r : Bool) → r ≡ S left next duties (x + p) → r ≡ K
      unfolding taken_by
      taken_joins h r q = q ∙ ap (λ y. S left next duties (x + y)) e ∙ sym (rw (lt-ltb k max_automata l, taken_by, lt-ltb x (2 ^ k) (omega (arith, e)), taken_by))

pub ruleset seek_laws = (seek_done, seek_spent, seek_stray, seek_par, seek_syn, leaf_takes, leaf_rests, leaf_moves)

pub ruleset parted_laws = (parted_full, parted_rests, parted_both, parted_right, parted_left, parted_last)

pub ruleset taken_laws = (one_fits, taken_stray, taken_before, taken_joins)

-- `found`
pub found_by : (words : List ℕ) (at : ℕ) (sets : List ℕ) (action : ℕ) (masks first : List ℕ) (still changed : ℕ) (r : Bool)
    → r ≡ seek_at words sets action masks first still changed max_tree_nodes at 3 0 → r ≡ found_in words at sets action masks first still changed
unfolding found_in
found_by words at sets action masks first still changed r q = q
