-- The check finds an end of the words of a lawful tree, and of no others.
use mathlib.Core.Path.{◌≡◌, refl, sym, ap, ap₂, ◌∙◌}
use mathlib.Core.Bool.{Bool, true, false, ◌&&◌, and_assoc, true≢false}
use mathlib.Core.List.{List, [], ◌∷◌, ◌++◌, append_assoc, append-nil, flat_map}
use Prim.Native.Nat.{ℕ, zero, suc, ◌+◌, ◌-◌, ◌≤◌, ◌<◌}
use native.Mathlib.Omega.{arith}
use native.Mathlib.Nat.{add-zero, zero-add}
use native.Mathlib.Numerals.{add-one}
use lib.ListN.{length, get_or, take, drop, length-append, length-drop, take-append-drop}
use lib.Seq.{drop-cons, take_at, get_or-drop}
use lib.Dec.{eqb, leb, ltb}
use borrow.Author.Tests.{eqb-true, eqb-false, eq-eqb, ltb-true, lt-ltb, leb-true}
use Rattle.model.specs.Basic.{every, count_up}
use Rattle.model.specs.Bounds.{max_actions, max_tree_nodes}
use Rattle.model.specs.Predicate.{Pred, all, none}
use Rattle.model.specs.Composition.{Tree, par, syn, ini, leaf, nodes, leaves, starts, tree_size}
use Rattle.model.specs.Limits.{rises, tree_rises, lists_filled}
use Rattle.model.specs.Lawful.{LawfulTree}
use Rattle.model.specs.Table.{low_bits, high_bits, set_words, set_of}
use Rattle.model.proofs.Tests.{and_intro, and_left, and_right, every_append}
use Rattle.model.proofs.Numbered.{size, Numbered, numbered, size_is}
use Rattle.table_tree.specs.declared.nodes.Found.{Found}
use Rattle.table_tree.specs.declared.nodes.Found.TheVariants.{Par, Syn, Leaf}
use Rattle.table_tree.specs.declared.checked.Step.{Step}
use Rattle.std.specs.Prelude.{Option, Some, None}
use Rattle.table_tree.specs.declared.checked.TreeEnd.{TreeEnd}
use Rattle.table_tree.specs.Sets.{unfilled}
use Rattle.table_tree.specs.Nodes.{tree_words, node_at}
use Rattle.table_tree.specs.Checked.{step_to, tree_end, step_by, step_of, onward, check_from, tree_check}
use Rattle.table_tree.proofs.SetLaws.{words_back}
use Rattle.table_tree.proofs.NodeLaws.{later, Viewed, viewed_par, viewed_syn, viewed_leaf, viewed_stray, view}
use Rattle.table_tree.proofs.CheckLaws.{step_none, step_by_lem, step_par, step_syn, step_leaf, walk_on, check_walk}
use Rattle.table_tree.proofs.Standing.{begins, SynStands, par_stands, syn_stands, ini_stands, leaf_stands, size_par, size_syn, size_ini, size_leaf, length_par, length_syn, length_ini, words_par, words_syn, words_ini, words_leaf}
use Rattle.table_tree.proofs.Inside.{list_back}

filled_first : (list : List ℕ) (c : Tree) → lists_filled (syn list c) ≡ true → (unfilled list ≡ 0) × (lists_filled c ≡ true)
unfolding lists_filled unfilled
filled_first [] c h = absurd (true≢false (sym h))
filled_first (k ∷ ks) c h = (refl, h)

module _ (w : List ℕ) (A N : ℕ) where
  -- one node
  on : (left next owed leaves inis : ℕ) (n o l i : ℕ) → step_to n o l i ≡ step_of A owed leaves inis (node_at w next) → check_from w A N (suc left) next owed leaves inis ≡ check_from w A N left n o l i
  on left next owed leaves inis n o l i e =
      sym (walk_on w A N (suc left) next owed leaves inis (check_from w A N (suc left) next owed leaves inis) refl left refl (step_to n o l i) e (record { next = n; owed = o; leaves = l; inis = i }) refl)

  -- a subtree is passed, whose leaves are numbered on, and its `ini` are counted
  abbrev Passed : (c : Tree) (left next owed first inis : ℕ) → Type 0
  Passed c left next owed first inis =
      check_from w A N (tree_size c + left) next (suc owed) first inis ≡ check_from w A N left (next + length (tree_words c)) owed (first + size c) (inis + length (starts c))

  module _ (few : A ≤ max_actions) where
    -- one under a `syn` or an `ini`, with the node that stands over it
    over : (list : List ℕ) (c d : Tree) (left next owed first inis : ℕ) (rest : List ℕ) → tree_size d ≡ suc (tree_size c) → length (tree_words d) ≡ 3 + length (tree_words c) → size d ≡ size c → length (starts d) ≡ unfilled list + length (starts c) → rises A 0 list ≡ true → SynStands w next rest list c → Passed c left (next + 3) owed first (inis + unfilled list) → Passed d left next owed first inis
    over list c d left next owed first inis rest sized long many counted up s below =
        let back = list_back A list few up in
        let n : tree_size d + left ≡ suc (tree_size c + left) = omega arith in
        let z : next + 3 + length (tree_words c) ≡ next + length (tree_words d) = omega arith in
        let i : inis + unfilled list + length (starts c) ≡ inis + length (starts d) = omega arith in
        ap (λ m. check_from w A N m next (suc owed) first inis) n
        ∙ on (tree_size c + left) next (suc owed) first inis (next + 3) (suc owed) first (inis + unfilled list)
        (step_syn A (suc owed) first inis (omega arith) (node_at w next) (Syn (low_bits list) (high_bits list) (next + 3)) (sym s.node) (next + 3) (low_bits list) (high_bits list) refl (rises A 0 list) (ap (rises A 0) (sym back)) up (unfilled list) (ap unfilled (sym back)))
        ∙ below
        ∙ ap₂ (λ x k. check_from w A N left x owed (first + k) (inis + unfilled list + length (starts c))) z (sym many)
        ∙ ap (check_from w A N left (next + length (tree_words d)) owed (first + size d)) i

    checked : (c : Tree) (left next owed first inis : ℕ) (rest : List ℕ) → drop next w ≡ tree_words c ++ rest → tree_rises A c ≡ true → lists_filled c ≡ true → Numbered first c → Passed c left next owed first inis
    unfolding tree_rises rises lists_filled Numbered size starts unfilled
    checked (par c d) left next owed first inis rest e r f g =
        let s = par_stands w next rest c d e in
        let n : tree_size (par c d) + left ≡ suc (tree_size c + (tree_size d + left)) = omega (arith, size_par c d) in
        let o : suc owed + 1 ≡ suc (suc owed) = omega arith in
        let z : next + 1 + length (tree_words c) + length (tree_words d) ≡ next + length (tree_words (par c d)) = omega (arith, length_par c d) in
        let y : first + size c + size d ≡ first + (size c + size d) = omega arith in
        let i : inis + length (starts c) + length (starts d) ≡ inis + length (starts c ++ starts d) = omega (arith, length-append (starts c) (starts d)) in
        ap (λ m. check_from w A N m next (suc owed) first inis) n
        ∙ on (tree_size c + (tree_size d + left)) next (suc owed) first inis (next + 1) (suc owed + 1) first inis (step_par A (suc owed) first inis (omega arith) (node_at w next) (Par (next + 1)) (sym s.node) (next + 1) refl)
        ∙ ap (λ m. check_from w A N (tree_size c + (tree_size d + left)) (next + 1) m first inis) o
        ∙ checked c (tree_size d + left) (next + 1) (suc owed) first inis (tree_words d ++ rest) s.first (and_left (tree_rises A c) _ r) (and_left (lists_filled c) _ f) g.0
        ∙ checked d left (next + 1 + length (tree_words c)) owed (first + size c) (inis + length (starts c)) rest s.second (and_right (tree_rises A c) _ r) (and_right (lists_filled c) _ f) g.1
        ∙ ap₂ (λ x k. check_from w A N left x owed k (inis + length (starts c) + length (starts d))) z y
        ∙ ap (check_from w A N left (next + length (tree_words (par c d))) owed (first + (size c + size d))) i
    checked (syn list c) left next owed first inis rest e r f g =
        let s = syn_stands w next rest list c e in
        let q = filled_first list c f in
        over list c (syn list c) left next owed first inis rest (size_syn list c) (length_syn list c) refl (omega (arith, q.0)) (and_left (rises A 0 list) _ r) s
        (checked c left (next + 3) owed first (inis + unfilled list) rest s.next (and_right (rises A 0 list) _ r) q.1 g)
    checked (ini p c) left next owed first inis rest e r f g =
        let s = ini_stands w next rest p c e in
        over [] c (ini p c) left next owed first inis rest (size_ini p c) (length_ini p c) refl (omega arith) refl s
        (checked c left (next + 3) owed first (inis + 1) rest s.next r f g)
    checked (leaf k) left next owed first inis rest e r f g =
        let n : tree_size (leaf k) + left ≡ suc left = omega (arith, size_leaf k) in
        let o : suc owed - 1 ≡ owed = omega arith in
        let i : inis ≡ inis + 0 = omega arith in
        ap (λ m. check_from w A N m next (suc owed) first inis) n
        ∙ on left next (suc owed) first inis (next + 1) (suc owed - 1) (first + 1) inis (step_leaf A (suc owed) first inis (omega arith) (node_at w next) (Leaf k (next + 1)) (sym (leaf_stands w next rest k e)) (next + 1) k refl g)
        ∙ ap₂ (λ m j. check_from w A N left (next + 1) m (first + 1) j) o i
        ∙ ap (λ l. check_from w A N left (next + length l) owed (first + 1) (inis + 0)) (sym (words_leaf k))

  ended : (next first inis : ℕ) → first ≡ N → check_from w A N 0 next 0 first inis ≡ tree_end next inis
  unfolding check_from
  ended next first inis e = rw (eq-eqb first N e, check_from)

  pub tree_check_of : (at : ℕ) (c : Tree) → A ≤ max_actions → LawfulTree A N c → take (suc (length (tree_words c))) (drop at w) ≡ tree_size c ∷ tree_words c → tree_check w at A N ≡ tree_end (at + 1 + length (tree_words c)) (length (starts c))
  tree_check_of at c few h e =
      let k = tree_size c ∷ tree_words c in
      let rest = drop (length k) (drop at w) in
      let all : drop at w ≡ k ++ rest = begins w k at e in
      let below : at < length w = omega (arith, length-drop at w, ap length all, length-append k rest) in
      let zero_at : at + 0 ≡ at = add-zero at in
      let count : tree_size c ≡ get_or w at 0 = rw (← zero_at) (sym (sym (get_or-drop at w 0 0) ∙ ap (λ l. get_or l 0 0) all)) in
      let next : drop (at + 1) w ≡ tree_words c ++ rest = later w (tree_size c ∷ []) at 1 (tree_words c ++ rest) all refl in
      let small : tree_size c ≤ 64 = h.size in
      let none : tree_size c + 0 ≡ get_or w at 0 = add-zero (tree_size c) ∙ count in
      let passed = checked few c 0 (at + 1) 0 0 0 rest next h.lists h.filled (numbered c N h.in_order) in
      let leaves_are : 0 + size c ≡ N = zero-add (size c) ∙ size_is c N h.in_order in
      sym
      (check_walk w at A N below (tree_size c) count small _
      (sym (ap (λ m. check_from w A N m (at + 1) 1 0 0) (sym none) ∙ passed ∙ ended (at + 1 + length (tree_words c)) (0 + size c) (0 + length (starts c)) leaves_are ∙ ap (tree_end (at + 1 + length (tree_words c))) (zero-add (length (starts c))))))

-- every word of a table is a u32
pub all_words : (w : List ℕ) → ((k : ℕ) → get_or w k 0 < 4294967296) → every (λ x. ltb x 4294967296) w ≡ true
unfolding every
all_words [] h = refl
all_words (x ∷ w) h = and_intro (lt-ltb x 4294967296 (h 0)) (all_words w (λ k. h (suc k)))

-- what an end that was found says
abbrev pub next_in : Option TreeEnd → ℕ
next_in (Some x) = x.next
next_in None = 0

abbrev inis_in : Option TreeEnd → ℕ
inis_in (Some x) = x.inis
inis_in None = 0

not_sound : (end count : ℕ) → None ≡ tree_end end count → ⊥
not_sound end count e = let z : ◌≡◌ {A = ℕ} 0 1 = cc in omega arith

-- the tree with a node over it: an `ini`, whose P is not known, or a `syn`
over_tree : List ℕ → Tree → Tree
over_tree [] c = ini (all none) c
over_tree (k ∷ ks) c = syn (k ∷ ks) c

record Over (A : ℕ) (list : List ℕ) (c : Tree) : Type 0 where
  worded : tree_words (over_tree list c) ≡ 1 ∷ low_bits list ∷ high_bits list ∷ tree_words c
  sized : length (nodes (over_tree list c)) ≡ suc (length (nodes c))
  rising : tree_rises A (over_tree list c) ≡ (rises A 0 list && tree_rises A c)
  filled : lists_filled (over_tree list c) ≡ lists_filled c
  ordered : leaves (over_tree list c) ≡ leaves c
  counted : length (starts (over_tree list c)) ≡ unfilled list + length (starts c)

over_is : (A : ℕ) (list : List ℕ) (c : Tree) → Over A list c
unfolding over_tree nodes leaves starts tree_rises rises lists_filled unfilled
over_is A [] c = record { worded = words_ini (all none) c ∙ words_syn [] c; sized = refl; rising = refl; filled = refl; ordered = refl; counted = omega arith }
over_is A (k ∷ ks) c = record { worded = words_syn (k ∷ ks) c; sized = refl; rising = refl; filled = refl; ordered = refl; counted = omega arith }

module _ (w : List ℕ) (A N end count : ℕ) where
  -- `left` nodes from `next` to the end are so many trees, whose leaves are the numbers from `first` up to N; with their
  -- `ini`, those before are `count`
  record Grown (trees : List Tree) (left next owed first inis : ℕ) : Type 0 where
    many : length trees ≡ owed
    sized : length (flat_map nodes trees) ≡ left
    worded : drop next w ≡ flat_map tree_words trees ++ drop end w
    ends : end ≡ next + length (flat_map tree_words trees)
    lists : every (tree_rises A) trees ≡ true
    filled_all : every lists_filled trees ≡ true
    rest : ℕ
    ordered : flat_map leaves trees ≡ count_up first rest
    in_all : first + rest ≡ N
    counted : inis + length (flat_map starts trees) ≡ count

  abbrev Forest : (left next owed first inis : ℕ) → Type 0
  Forest left next owed first inis = (trees : List Tree) × Grown trees left next owed first inis

  -- a node's words in front
  in_front_lem : (k x y : List ℕ) (next n : ℕ) → drop next w ≡ k ++ drop n w → y ≡ k ++ x → drop n w ≡ x ++ drop end w → drop next w ≡ y ++ drop end w
  in_front_lem k x y next n d e h = d ∙ ap (λ l. k ++ l) h ∙ sym (append_assoc k x (drop end w)) ∙ ap (λ l. l ++ drop end w) (sym e)

  no_trees : (next first inis : ℕ) → next ≡ end → first ≡ N → inis ≡ count → Forest 0 next 0 first inis
  unfolding flat_map every count_up
  no_trees next first inis e f g =
      ([], record { many = refl; sized = refl; worded = ap (λ n. drop n w) e; ends = omega arith; lists = refl; filled_all = refl; rest = 0; ordered = refl; in_all = omega arith; counted = omega arith })

  module _ (left next owed first inis : ℕ) (z : owed ≡ 0 → ⊥) where
    par_on : drop next w ≡ 0 ∷ drop (next + 1) w → (trees : List Tree) → Grown trees left (next + 1) (owed + 1) first inis → Forest (suc left) next owed first inis
    unfolding flat_map every nodes leaves starts tree_rises lists_filled
    par_on d [] g = absurd (omega (arith, g.many))
    par_on d (b ∷ []) g = absurd (z (omega (arith, g.many)))
    par_on d (b ∷ c ∷ ts) g =
        let flat : tree_words (par b c) ++ flat_map tree_words ts ≡ 0 ∷ (tree_words b ++ (tree_words c ++ flat_map tree_words ts)) =
        ap (λ l. l ++ flat_map tree_words ts) (words_par b c) ∙ ap (λ l. 0 ∷ l) (append_assoc (tree_words b) (tree_words c) (flat_map tree_words ts)) in (
          par b c ∷ ts,
          record {
            many = omega (arith, g.many);
            sized = ap suc (ap length (append_assoc (nodes b) (nodes c) (flat_map nodes ts)) ∙ g.sized);
            worded = in_front_lem (0 ∷ []) _ _ next (next + 1) d flat g.worded;
            ends = omega (arith, g.ends, ap length flat);
            lists = and_assoc (tree_rises A b) (tree_rises A c) (every (tree_rises A) ts) ∙ g.lists;
            filled_all = and_assoc (lists_filled b) (lists_filled c) (every lists_filled ts) ∙ g.filled_all;
            rest = g.rest;
            ordered = append_assoc (leaves b) (leaves c) (flat_map leaves ts) ∙ g.ordered;
            in_all = g.in_all;
            counted = ap (λ (l : List Pred). inis + length l) (append_assoc (starts b) (starts c) (flat_map starts ts)) ∙ g.counted;
          },
        )

    over_on : (a b : ℕ) → a < 4294967296 → b < 4294967296 → rises A 0 (set_of a b) ≡ true → drop next w ≡ 1 ∷ a ∷ b ∷ drop (next + 3) w → (trees : List Tree) → Grown trees left (next + 3) owed first (inis + unfilled (set_of a b)) → Forest (suc left) next owed first inis
    unfolding flat_map every set_words
    over_on a b l u t d [] g = absurd (z (sym g.many))
    over_on a b l u t d (c ∷ ts) g =
        let list = set_of a b in
        let o = over_is A list c in
        let words : low_bits list ∷ high_bits list ∷ [] ≡ a ∷ b ∷ [] = words_back a b l u in
        let flat : tree_words (over_tree list c) ++ flat_map tree_words ts ≡ 1 ∷ a ∷ b ∷ (tree_words c ++ flat_map tree_words ts) =
        ap (λ l. l ++ flat_map tree_words ts) o.worded ∙ ap (λ l. 1 ∷ l ++ (tree_words c ++ flat_map tree_words ts)) words in (
          over_tree list c ∷ ts,
          record {
            many = g.many;
            sized = omega (arith, o.sized, g.sized, length-append (nodes (over_tree list c)) (flat_map nodes ts), length-append (nodes c) (flat_map nodes ts));
            worded = in_front_lem (1 ∷ a ∷ b ∷ []) _ _ next (next + 3) d flat g.worded;
            ends = omega (arith, g.ends, ap length flat);
            lists = and_intro (o.rising ∙ and_intro t (and_left (tree_rises A c) _ g.lists)) (and_right (tree_rises A c) _ g.lists);
            filled_all = and_intro (o.filled ∙ and_left (lists_filled c) _ g.filled_all) (and_right (lists_filled c) _ g.filled_all);
            rest = g.rest;
            ordered = ap (λ l. l ++ flat_map leaves ts) o.ordered ∙ g.ordered;
            in_all = g.in_all;
            counted = omega (arith, o.counted, g.counted, length-append (starts (over_tree list c)) (flat_map starts ts), length-append (starts c) (flat_map starts ts));
          },
        )

    leaf_on : (k : ℕ) → k ≡ first → drop next w ≡ (2 + k) ∷ drop (next + 1) w → (trees : List Tree) → Grown trees left (next + 1) (owed - 1) (first + 1) inis → Forest (suc left) next owed first inis
    unfolding flat_map every nodes leaves starts tree_rises lists_filled count_up
    leaf_on k e d ts g =
        let flat : tree_words (leaf k) ++ flat_map tree_words ts ≡ (2 + k) ∷ flat_map tree_words ts = ap (λ l. l ++ flat_map tree_words ts) (words_leaf k) in (
          leaf k ∷ ts,
          record {
            many = omega (arith, g.many);
            sized = ap suc g.sized;
            worded = in_front_lem ((2 + k) ∷ []) _ _ next (next + 1) d flat g.worded;
            ends = omega (arith, g.ends, ap length flat);
            lists = g.lists;
            filled_all = g.filled_all;
            rest = suc g.rest;
            ordered = ap₂ (λ x l. x ∷ l) e (rw add-one at g.ordered);
            in_all = omega (arith, g.in_all);
            counted = g.counted;
          },
        )

  module _ (fit : every (λ x. ltb x 4294967296) w ≡ true) where
    rest_fits : (n : ℕ) → every (λ x. ltb x 4294967296) (drop n w) ≡ true
    rest_fits n =
        and_right (every (λ x. ltb x 4294967296) (take n w)) _
        (sym (every_append (λ x. ltb x 4294967296) (take n w) (drop n w)) ∙ ap (every (λ x. ltb x 4294967296)) (take-append-drop n w) ∙ fit)

    set_fits : (next a b : ℕ) (l : List ℕ) → drop next w ≡ 1 ∷ a ∷ b ∷ l → (a < 4294967296) × (b < 4294967296)
    unfolding every
    set_fits next a b l d =
        let all : (ltb a 4294967296 && (ltb b 4294967296 && every (λ x. ltb x 4294967296) l)) ≡ true = rw d at (rest_fits next) in
        (ltb-true a 4294967296 (and_left (ltb a 4294967296) _ all), ltb-true b 4294967296 (and_left (ltb b 4294967296) _ (and_right (ltb a 4294967296) _ all)))

    module _ (left next owed first inis : ℕ) (z : owed ≡ 0 → ⊥) (ih : (m o l i : ℕ) → check_from w A N left m o l i ≡ tree_end end count → Forest left m o l i) where
      abbrev go_on : ℕ → ℕ → ℕ → ℕ → Option TreeEnd
      go_on m o l i = check_from w A N left m o l i

      by_syn : (a b : ℕ) → drop next w ≡ 1 ∷ a ∷ b ∷ drop (next + 3) w → (t : Bool) → rises A 0 (set_of a b) ≡ t → onward go_on (elim t as (λ c. Option Step) [ true ↦ step_to (next + 3) owed first (inis + unfilled (set_of a b)) | false ↦ None ]) ≡ tree_end end count → Forest (suc left) next owed first inis
      unfolding onward
      by_syn a b d true t h =
          let f = ih (next + 3) owed first (inis + unfilled (set_of a b)) h in
          let fits = set_fits next a b (drop (next + 3) w) d in
          over_on left next owed first inis z a b fits.0 fits.1 t d f.0 f.1
      by_syn a b d false t h = absurd (not_sound end count h)

      by_leaf : (k : ℕ) → drop next w ≡ (2 + k) ∷ drop (next + 1) w → (t : Bool) → eqb k first ≡ t → onward go_on (elim t as (λ c. Option Step) [ true ↦ step_to (next + 1) (owed - 1) (first + 1) inis | false ↦ None ]) ≡ tree_end end count → Forest (suc left) next owed first inis
      unfolding onward
      by_leaf k d true t h =
          let f = ih (next + 1) (owed - 1) (first + 1) inis h in
          leaf_on left next owed first inis z k (eqb-true k first t) d f.0 f.1
      by_leaf k d false t h = absurd (not_sound end count h)

      by_node : (f : Found) → Viewed w next f → onward go_on (step_by A owed first inis f) ≡ tree_end end count → Forest (suc left) next owed first inis
      unfolding onward step_by
      by_node f (viewed_par d) h =
          let f = ih (next + 1) (owed + 1) first inis h in
          par_on left next owed first inis z d f.0 f.1
      by_node f (viewed_syn a b d) h = by_syn a b d (rises A 0 (set_of a b)) refl h
      by_node f (viewed_leaf k d) h = by_leaf k d (eqb k first) refl h
      by_node f viewed_stray h = absurd (not_sound end count h)

    grown : (left next owed first inis : ℕ) → check_from w A N left next owed first inis ≡ tree_end end count → Forest left next owed first inis
    unfolding check_from onward
    grown zero next owed first inis h = go (eqb owed 0 && eqb first N) refl h
      where
        go : (t : Bool) → (eqb owed 0 && eqb first N) ≡ t → elim t as (λ c. Option TreeEnd) [ true ↦ tree_end next inis | false ↦ None ] ≡ tree_end end count → Forest 0 next owed first inis
        go true t e =
            let o = eqb-true owed 0 (and_left (eqb owed 0) (eqb first N) t) in
            let n : next ≡ end = ap next_in e in
            let k : inis ≡ count = ap inis_in e in
            rw o (no_trees next first inis n (eqb-true first N (and_right (eqb owed 0) (eqb first N) t)) k)
        go false t e = absurd (not_sound end count e)
    grown (suc n) next owed first inis h = go (eqb owed 0) refl (grown n)
      where
        go : (t : Bool) → eqb owed 0 ≡ t → ((m o l i : ℕ) → check_from w A N n m o l i ≡ tree_end end count → Forest n m o l i) → Forest (suc n) next owed first inis
        go true t ih = absurd (not_sound end count (rw (← step_none A owed first inis (node_at w next) (eqb-true owed 0 t)) at h))
        go false t ih =
            let z = eqb-false owed 0 t in
            by_node n next owed first inis z ih (node_at w next) (view w next) (rw (step_by_lem A owed first inis (node_at w next) z) at h)

-- the one tree that is owed
module _ (w : List ℕ) (at A N next count : ℕ) (fit : every (λ x. ltb x 4294967296) w ≡ true) where
  abbrev Back : Type 0
  Back = (c : Tree) × LawfulTree A N c × (take (next - at) (drop at w) ≡ tree_size c ∷ tree_words c) × (length (starts c) ≡ count)

  sole : at < length w → get_or w at 0 ≤ 64 → (trees : List Tree) → Grown w A N next count trees (get_or w at 0) (at + 1) 1 0 0 → Back
  unfolding flat_map every tree_size
  sole l u [] g = absurd (omega (arith, g.many))
  sole l u (b ∷ c ∷ ts) g = absurd (omega (arith, g.many))
  sole l u (c ∷ []) g =
      let many : length (nodes c) ≡ get_or w at 0 = ap length (sym (append-nil (nodes c))) ∙ g.sized in
      let words : drop (at + 1) w ≡ tree_words c ++ drop next w = g.worded ∙ ap (λ l. l ++ drop next w) (append-nil (tree_words c)) in
      let ends : next ≡ at + 1 + length (tree_words c) = g.ends ∙ ap (λ l. at + 1 + length l) (append-nil (tree_words c)) in
      let all : drop at w ≡ (length (nodes c) ∷ tree_words c) ++ drop next w =
      drop-cons w at 0 l ∙ ap₂ (λ x k. x ∷ k) (sym many) (rw (← add-one at) words) in
      let long : length (length (nodes c) ∷ tree_words c) ≡ next - at = omega arith in
      let rest_is : g.rest ≡ N = omega (arith, g.in_all) in (
        c,
        record {
          lists = and_left (tree_rises A c) _ g.lists;
          filled = and_left (lists_filled c) _ g.filled_all;
          in_order = sym (append-nil (leaves c)) ∙ g.ordered ∙ ap (count_up 0) rest_is;
          size = omega arith;
        },
        ap (take (next - at)) all ∙ take_at (length (nodes c) ∷ tree_words c) (drop next w) (next - at) long,
        ap (λ (l : List Pred). length l) (sym (append-nil (starts c))) ∙ sym (zero-add _) ∙ g.counted,
      )

  pub tree_check_back : tree_check w at A N ≡ tree_end next count → (c : Tree) × LawfulTree A N c × (take (next - at) (drop at w) ≡ tree_size c ∷ tree_words c) × (length (starts c) ≡ count)
  unfolding tree_check
  tree_check_back h = go (ltb at (length w)) refl h
    where
      counted : at < length w → (t : Bool) → leb (get_or w at 0) max_tree_nodes ≡ t → elim t as (λ c. Option TreeEnd) [ false ↦ None | true ↦ check_from w A N (get_or w at 0) (at + 1) 1 0 0 ] ≡ tree_end next count → Back
      counted l true t e =
          let f = grown w A N next count fit (get_or w at 0) (at + 1) 1 0 0 e in
          sole l (leb-true (get_or w at 0) 64 t) f.0 f.1
      counted l false t e = absurd (not_sound next count e)

      go : (t : Bool) → ltb at (length w) ≡ t
          → elim t as (λ c. Option TreeEnd) [ false ↦ None | true ↦ elim (leb (get_or w at 0) max_tree_nodes) as (λ c. Option TreeEnd) [ false ↦ None | true ↦ check_from w A N (get_or w at 0) (at + 1) 1 0 0 ] ] ≡ tree_end next count → Back
      go true t e = counted (ltb-true at (length w) t) (leb (get_or w at 0) max_tree_nodes) refl e
      go false t e = absurd (not_sound next count e)
