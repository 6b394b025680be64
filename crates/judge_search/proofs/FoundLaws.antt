-- The search over plain data says whether some move of the composition fits the step.
use mathlib.Core.Path.{◌≡◌, refl, sym, ap, ap₂, ◌∙◌, subst}
use mathlib.Core.Bool.{Bool, true, false, not, ◌&&◌, and-true, and_assoc, or-false, true≢false}
use mathlib.Core.List.{List, [], ◌∷◌, ◌++◌, map, append_assoc, append-nil}
use Prim.Native.Nat.{ℕ, zero, suc, ◌+◌, ◌-◌, ◌*◌, ◌/◌, ◌%◌, ◌^◌, ◌≤◌, ◌<◌}
use native.Mathlib.Omega.{arith}
use native.Mathlib.Nat.{pow-succ', add_assoc, lt_of_le_of_lt}
use lib.ListN.{length, get_or, take, drop}
use lib.Seq.{take_at, drop-cons}
use lib.Dec.{ltb}
use lib.Bits.{bit_and, and_le_l}
use lib.Pow.{pow_mono}
use borrow.Author.Tests.{lt-leb, lt-ltb, ltb-true, ltb-false, eq-eqb, ne_eqb}
use Rattle.model.specs.Basic.{eq_z, every, exists, keep, member, count_up}
use Rattle.model.specs.Bounds.{max_automata, max_tree_nodes, max_variables}
use Rattle.model.specs.Predicate.{Pred, mentions}
use Rattle.model.specs.Composition.{Tree, par, syn, ini, leaf, leaves, nodes, tree_size}
use Rattle.model.specs.Model.{Model, Edge, automaton, in_set}
use Rattle.model.specs.Limits.{rises, tree_rises}
use Rattle.model.specs.Lawful.{Lawful}
use Rattle.model.specs.Rules.{State, val}
use Rattle.model.specs.Moves.{moves}
use Rattle.model.specs.Judge.{fits}
use Rattle.model.specs.Table.{bit}
use Rattle.model.proofs.Tests.{and_left, and_right, every_append, exists_ext, exists_map}
use Rattle.model.proofs.Lists.{keep_append, keep_first, keep_skip}
use Rattle.model.proofs.Numbered.{size, Numbered, Leaves, leaves_in, numbered, size_is}
use Rattle.table_tree.specs.declared.nodes.Found.{Found}
use Rattle.table_tree.specs.declared.nodes.Found.TheVariants.{Par, Syn, Leaf}
use Rattle.table_tree.specs.Nodes.{tree_words, node_at, skip_from}
use Rattle.table_tree.specs.Members.{in_set_at}
use Rattle.table_tree.proofs.SetLaws.{keep_alike, bit_above}
use Rattle.table_tree.proofs.Standing.{begins, SynStands, par_stands, syn_stands, ini_stands, leaf_stands, size_par, size_syn, size_ini, size_leaf, words_leaf, skip_of}
use Rattle.table_tree.proofs.NodeLaws.{later}
use Rattle.table_tree.proofs.Inside.{Agrees, in_set_of}
use Rattle.judge_cover.specs.Cover.{coverable, group, groups_of}
use Rattle.table_writes.proofs.BitLaws.{bit_under, bit_top}
use Rattle.table_writes.proofs.MaskLaws.{mask_small, bit_mask}
use Rattle.judge_cover.proofs.Counting.{count_around}
use Rattle.judge_search.specs.Search.{is_covered, uncovered, changed_in, unmoved, all_unmoved, candidates, together, only_if, taker_sets, choosing, search}
use Rattle.judge_search.specs.Masks.{rest_mask, changed_mask, Offers}
use Rattle.judge_search.specs.Found.{max_duties, shared_bits, taken_by, parted_at, covered_by, seek_by, seek_at, found_in}
use Rattle.judge_search.proofs.Unpruned.{exists_and, alternatives}
use Rattle.judge_search.proofs.TakerLaws.{exists_together, exists_only, exists_ways, search_is}
use Rattle.judge_search.proofs.MaskLaws.{list_of, list_mask, list_and, mask_covered}

-- what a subtree must do: take the action, or keep every automaton's location
data Duty : Type 0 where
  takes rests : Tree → Duty

unfoldable tree_of : Duty → Tree
tree_of (takes c) = c
tree_of (rests c) = c

-- the nodes of all duties' trees
unfoldable owed : List Duty → ℕ
owed [] = 0
owed (duty ∷ duties) = tree_size (tree_of duty) + owed duties

some_node : (c : Tree) → 1 ≤ tree_size c
unfolding tree_size nodes
some_node (par c d) = omega arith
some_node (syn list c) = omega arith
some_node (ini p c) = omega arith
some_node (leaf k) = omega arith

-- the duties as bits of one number, and their trees' words
unfoldable stack : List Duty → ℕ
stack [] = 1
stack (takes c ∷ duties) = 2 * stack duties + 1
stack (rests c ∷ duties) = 2 * stack duties + 0

unfoldable words_of : List Duty → List ℕ
words_of [] = []
words_of (duty ∷ duties) = tree_words (tree_of duty) ++ words_of duties

stack_some : (duties : List Duty) → 1 ≤ stack duties
unfolding stack
stack_some [] = omega arith
stack_some (takes c ∷ duties) = omega (arith, stack_some duties)
stack_some (rests c ∷ duties) = omega (arith, stack_some duties)

stack_small : (duties : List Duty) → stack duties < 2 ^ suc (length duties)
unfolding stack
stack_small [] = omega arith
stack_small (takes c ∷ duties) = omega (arith, stack_small duties, pow-succ' 2 (suc (length duties)))
stack_small (rests c ∷ duties) = omega (arith, stack_small duties, pow-succ' 2 (suc (length duties)))

-- each duty's tree has a node
owed_many : (duties : List Duty) → length duties ≤ owed duties
unfolding owed
owed_many [] = omega arith
owed_many (duty ∷ duties) = omega (arith, owed_many duties, some_node (tree_of duty))

-- Takers as bits of one number, all below i, and as a list.
record Named (takers : ℕ) (ks : List ℕ) (i : ℕ) : Type 0 where
  small : takers < 2 ^ i
  listed : keep (bit takers) (count_up 0 max_automata) ≡ ks

keep_none : (f : ℕ → Bool) (n c : ℕ) → ((k : ℕ) → n ≤ k → k < n + c → f k ≡ false) → keep f (count_up n c) ≡ []
unfolding keep count_up
keep_none f n zero h = refl
keep_none f n (suc c) h = keep_skip f n (count_up (suc n) c) (h n (omega arith) (omega arith)) ∙ keep_none f (suc n) c (λ k a b. h k (omega arith) (omega arith))

-- the takers below k, and none from k on; with k itself
below : (takers k : ℕ) → takers < 2 ^ k → k < max_automata → keep (bit takers) (count_up 0 max_automata) ≡ keep (bit takers) (count_up 0 (k - 0))
unfolding keep
below takers k small l =
    let rest = 0 + max_automata - suc k in
    ap (keep (bit takers)) (count_around 0 max_automata k (omega arith) (omega arith))
    ∙ keep_append (bit takers) (count_up 0 (k - 0)) (k ∷ count_up (suc k) rest)
    ∙ ap (λ x. keep (bit takers) (count_up 0 (k - 0)) ++ x)
    (keep_skip (bit takers) k (count_up (suc k) rest) (bit_above takers k k small (omega arith)) ∙ keep_none (bit takers) (suc k) rest (λ j a b. bit_above takers k j small (omega arith)))
    ∙ append-nil (keep (bit takers) (count_up 0 (k - 0)))

joined : (takers : ℕ) (ks : List ℕ) (k : ℕ) → k < max_automata → Named takers ks k → Named (takers + 2 ^ k) (ks ++ k ∷ []) (k + 1)
unfolding keep
joined takers ks k l x =
    let small = x.small in
    let y = takers + 2 ^ k in
    let turned : y ≡ 2 ^ k + takers = omega arith in
    let up : 2 ^ (k + 1) ≡ 2 * 2 ^ k = let e : k + 1 ≡ suc k = omega arith in ap (λ n. 2 ^ n) e ∙ pow-succ' 2 k in
    let high : y < 2 ^ (k + 1) = omega arith in
    let rest = 0 + max_automata - suc k in
    let same : keep (bit y) (count_up 0 (k - 0)) ≡ keep (bit takers) (count_up 0 (k - 0)) = keep_alike (bit y) (bit takers) 0 (k - 0)
    (λ j a b. ap (λ z. bit z j) turned ∙ bit_under takers k j (omega arith)) in
    let top : bit y k ≡ true = ap (λ z. bit z k) turned ∙ bit_top takers k small in
    record {
      small = high;
      listed =
          ap (keep (bit y)) (count_around 0 max_automata k (omega arith) (omega arith))
          ∙ keep_append (bit y) (count_up 0 (k - 0)) (k ∷ count_up (suc k) rest)
          ∙ ap₂ (λ p q. p ++ q) (same ∙ sym (below takers k small l) ∙ x.listed)
          (keep_first (bit y) k (count_up (suc k) rest) top
          ∙ ap (λ z. k ∷ z) (keep_none (bit y) (suc k) rest (λ j a b. bit_above y (k + 1) j high (omega arith))));
    }

-- what is kept is mapped by what holds of it
map_kept : {A : Type 0} (p : ℕ → Bool) (f g : ℕ → A) (l : List ℕ) → ((k : ℕ) → p k ≡ true → f k ≡ g k) → map f (keep p l) ≡ map g (keep p l)
unfolding keep
map_kept p f g [] h = refl
map_kept {A} p f g (x ∷ l) h = go (p x) refl (map_kept p f g l h)
  where
    go : (b : Bool) → p x ≡ b → map f (keep p l) ≡ map g (keep p l)
        → map f (elim b as (λ c. List ℕ) [ true ↦ x ∷ keep p l | false ↦ keep p l ]) ≡ map g (elim b as (λ c. List ℕ) [ true ↦ x ∷ keep p l | false ↦ keep p l ])
    go true e ih = ap₂ (λ y z. y ∷ z) (h x e) ih
    go false e ih = ih

-- what stands from a place on
places : (l : List ℕ) (c i : ℕ) → i + c ≤ length l → take c (drop i l) ≡ map (λ j. get_or l j 0) (count_up i c)
unfolding count_up
places l zero i h = refl
places l (suc c) i h = rw (drop-cons l i 0 (omega arith)) (ap (λ r. get_or l i 0 ∷ r) (places l c (suc i) (omega arith)))

module _ (m : Model) (lawful : Lawful m) (s : State) (a : ℕ) (t : State) (w sets masks first : List ℕ) (still : ℕ) (offers : Offers m s a t masks first)
    (stays : (k : ℕ) → k < length m.automata → bit still k ≡ unmoved s t k) where
  abbrev vars : ℕ
  vars = length m.variables

  abbrev from : ℕ → ℕ
  from k = get_or first k 0

  -- The masks from an automaton's first place on are its candidates'.
  rising_to : (d k : ℕ) → k + d ≡ length m.automata → from k ≤ from (length m.automata)
  rising_to zero k e =
      let z : k ≡ length m.automata = omega arith in
      rw z (omega arith)
  rising_to (suc d) k e = omega (arith, offers.rising k (omega arith), rising_to d (suc k) (omega arith))

  group_is : (k : ℕ) → k < length m.automata → group masks (from k) (from (suc k)) ≡ map rest_mask (candidates m s a t k)
  unfolding group
  group_is k l =
      let up = offers.rising k l in
      let last = rising_to (length m.automata - suc k) (suc k) (omega arith) in
      let end = offers.inside in
      sym (places masks (from (suc k) - from k) (from k) (omega arith)) ∙ offers.offered k l

  groups_are : (takers : ℕ) (ks : List ℕ) (i : ℕ) → i ≤ length m.automata → Named takers ks i
      → groups_of masks first takers ≡ map (λ k. map rest_mask (candidates m s a t k)) ks
  unfolding groups_of
  groups_are takers ks i l x =
      map_kept (bit takers) (λ k. group masks (from k) (from (suc k))) (λ k. map rest_mask (candidates m s a t k)) (count_up 0 max_automata)
      (λ k e. group_is k (in_range_lem k e))
      ∙ ap (map (λ k. map rest_mask (candidates m s a t k))) x.listed
    where
      in_range_lem : (k : ℕ) → bit takers k ≡ true → k < length m.automata
      in_range_lem k e = go (ltb k i) refl
        where
          go : (b : Bool) → ltb k i ≡ b → k < length m.automata
          go true h = omega (arith, ltb-true k i h)
          go false h = absurd (true≢false (sym e ∙ bit_above takers i k x.small (ltb-false k i h)))

  -- To cover a set by masks is to choose among the candidates.
  rest_bit : (e : Edge) (v : ℕ) → v < vars → bit (rest_mask e) v ≡ not (mentions v e.update)
  unfolding rest_mask
  rest_bit e v l = let few = lawful.few_variables in bit_mask (λ k. not (mentions k e.update)) max_variables v (omega arith)

  cover_is : (ks : List ℕ) (u : ℕ) → u < 2 ^ vars
      → coverable (map (λ k. map rest_mask (candidates m s a t k)) ks) u ≡ choosing m s a t ks is_covered (list_of vars u)
  unfolding coverable choosing uncovered
  cover_is [] u small = mask_covered vars u small
  cover_is (k ∷ ks) u small =
      exists_map (λ r. coverable (map (λ j. map rest_mask (candidates m s a t j)) ks) (bit_and u r)) rest_mask (candidates m s a t k)
      ∙ exists_ext _ _ (candidates m s a t k) (λ e i.
      cover_is ks (bit_and u (rest_mask e)) (lt_of_le_of_lt (and_le_l u (rest_mask e)) small)
      ∙ ap (choosing m s a t ks is_covered) (sym (list_and (λ v. not (mentions v e.update)) vars u (rest_mask e) (λ v h. rest_bit e v h))))

  abbrev changed : ℕ
  changed = changed_mask m s t

  covered_is : (takers : ℕ) (ks : List ℕ) (i : ℕ) → i ≤ length m.automata → Named takers ks i
      → covered_by w sets a masks first still changed takers ≡ choosing m s a t ks is_covered (changed_in m s t)
  unfolding changed_mask changed_in
  covered_is takers ks i l x =
      let f : ℕ → Bool = λ k. not (eq_z (val s k) (val t k)) in
      ap (λ gs. coverable gs changed) (groups_are takers ks i l x)
      ∙ cover_is ks changed (mask_small f vars)
      ∙ ap (choosing m s a t ks is_covered) (sym (list_mask f vars))

  abbrev S : (left at duties takers : ℕ) → Bool
  S = seek_at w sets a masks first still changed

  abbrev by : ((at duties takers : ℕ) → Bool) → (duties takers : ℕ) → Found → Bool
  by = seek_by w sets a masks first still changed

  -- The walk over the duties, by what the definition says of each.
  unfoldable walk : List Duty → List ℕ → Bool
  walk [] ks = choosing m s a t ks is_covered (changed_in m s t)
  walk (takes c ∷ duties) ks = exists (λ x. walk duties (ks ++ x)) (taker_sets m s a t c)
  walk (rests c ∷ duties) ks = all_unmoved s t c && walk duties ks

  walk_par : (c d : Tree) (duties : List Duty) (ks : List ℕ)
      → walk (takes (par c d) ∷ duties) ks
      ≡ alternatives (in_set m a c) (in_set m a d) (walk (takes c ∷ takes d ∷ duties) ks) (walk (takes c ∷ rests d ∷ duties) ks) (walk (rests c ∷ takes d ∷ duties) ks)
  unfolding walk taker_sets
  walk_par c d duties ks =
      let f : List ℕ → Bool = λ x. walk duties (ks ++ x) in
      let P = taker_sets m s a t c in
      let Q = taker_sets m s a t d in
      sym (exists_ways (in_set m a c) (in_set m a d) f (together P Q) (only_if (all_unmoved s t d) P) (only_if (all_unmoved s t c) Q)
      (exists_ext _ _ P (λ x i. exists_ext _ _ Q (λ y j. ap (walk duties) (append_assoc ks x y))) ∙ sym (exists_together f P Q))
      (sym (exists_and (all_unmoved s t d) f P) ∙ sym (exists_only f (all_unmoved s t d) P))
      (sym (exists_only f (all_unmoved s t c) Q)))

  walk_leaf : (k : ℕ) (duties : List Duty) (ks : List ℕ) → walk (takes (leaf k) ∷ duties) ks ≡ walk duties (ks ++ k ∷ [])
  unfolding walk taker_sets exists
  walk_leaf k duties ks = or-false (walk duties (ks ++ k ∷ []))

  -- a duty's tree: its lists rise, its leaves are automata, and `sets` has their own sets
  record Sound (c : Tree) : Type 0 where
    lists : tree_rises m.actions c ≡ true
    named : Leaves (λ k. k < length m.automata) c
    agree : Leaves (Agrees w sets m a m.actions lawful.few_actions) c

  left_sound : {c d : Tree} → Sound (par c d) → Sound c
  unfolding tree_rises Leaves
  left_sound {c} {d} x = record { lists = and_left (tree_rises m.actions c) _ x.lists; named = x.named.0; agree = x.agree.0 }

  right_sound : {c d : Tree} → Sound (par c d) → Sound d
  unfolding tree_rises Leaves
  right_sound {c} {d} x = record { lists = and_right (tree_rises m.actions c) _ x.lists; named = x.named.1; agree = x.agree.1 }

  below_sound : {list : List ℕ} {c : Tree} → Sound (syn list c) → Sound c
  unfolding tree_rises Leaves
  below_sound {list} {c} x = record { lists = and_right (rises m.actions 0 list) _ x.lists; named = x.named; agree = x.agree }

  below_ini : {p : Pred} {c : Tree} → Sound (ini p c) → Sound c
  unfolding tree_rises Leaves
  below_ini x = record { lists = x.lists; named = x.named; agree = x.agree }

  unfoldable AllSound : List Duty → Type 0
  AllSound [] = Unit {0}
  AllSound (duty ∷ duties) = Sound (tree_of duty) × AllSound duties

  -- membership in the set of a subtree that stands somewhere, and where it ends
  standing : (c : Tree) (at : ℕ) (rest : List ℕ) → drop at w ≡ tree_words c ++ rest → take (length (tree_words c)) (drop at w) ≡ tree_words c
  standing c at rest e = ap (take (length (tree_words c))) e ∙ take_at (tree_words c) rest (length (tree_words c)) refl

  member_is : (c : Tree) (at : ℕ) (rest : List ℕ) → drop at w ≡ tree_words c ++ rest → tree_size c ≤ max_tree_nodes → Sound c
      → in_set_at w sets a at ≡ in_set m a c
  member_is c at rest e few x = in_set_of w sets m a m.actions lawful.few_actions c at few (standing c at rest e) x.lists x.agree

  -- one step of the search
  stepped : (n at duties x : ℕ) (f : Found) → 1 < duties → node_at w at ≡ f → S (suc n) at duties x ≡ by (S n) duties x f
  unfolding seek_at
  stepped n at duties x f more e = rw (lt-leb duties 1 more, seek_at, e)

  done : (n at x : ℕ) → S n at 1 x ≡ covered_by w sets a masks first still changed x
  unfolding seek_at
  done zero at x = refl
  done (suc n) at x = refl

  -- the leaves of the duties are i, i + 1, and so on
  unfoldable InOrder : ℕ → List Duty → Type 0
  InOrder i [] = i ≤ length m.automata
  InOrder i (duty ∷ duties) = Numbered i (tree_of duty) × InOrder (i + size (tree_of duty)) duties

  -- the sides of a `par`
  shared_bits_lem : (b c : Bool) (on : ℕ → Bool) (both left right : Bool) → on 3 ≡ both → on 1 ≡ left → on 2 ≡ right
      → shared_bits b c on ≡ alternatives b c both left right
  unfolding shared_bits alternatives
  shared_bits_lem true true on both left right p q r = p
  shared_bits_lem true false on both left right p q r = q
  shared_bits_lem false true on both left right p q r = r
  shared_bits_lem false false on both left right p q r = rw (q, r)

  module _ (n at x : ℕ) (f : Found) (node : node_at w at ≡ f) (d : ℕ) (some : 1 ≤ d) where
    takes_half : (2 * d + 1) / 2 ≡ d
    takes_half = omega arith

    rests_half : (2 * d + 0) / 2 ≡ d
    rests_half = omega arith

    syn_step : (b next p q : ℕ) → f ≡ Syn p q next → S (suc n) at (2 * d + b) x ≡ S n next (2 * d + b) x
    unfolding seek_by
    syn_step b next p q e = stepped n at (2 * d + b) x (Syn p q next) (omega arith) (node ∙ e)

    leaf_rest : (k next : ℕ) → f ≡ Leaf k next → S (suc n) at (2 * d + 0) x ≡ (bit still k && S n next d x)
    unfolding seek_by
    leaf_rest k next e =
        stepped n at (2 * d + 0) x (Leaf k next) (omega arith) (node ∙ e)
        ∙ rw (eq-eqb ((2 * d + 0) % 2) 0 (omega arith), seek_by, rests_half)

    leaf_take : (k next : ℕ) → f ≡ Leaf k next
        → S (suc n) at (2 * d + 1) x ≡ taken_by (S n) next d k x
    unfolding seek_by
    leaf_take k next e =
        stepped n at (2 * d + 1) x (Leaf k next) (omega arith) (node ∙ e)
        ∙ rw (ne_eqb ((2 * d + 1) % 2) 0 (λ z. omega arith), seek_by, takes_half)

    module _ (few : d < max_duties) (next : ℕ) (e : f ≡ Par next) where
      par_rest : S (suc n) at (2 * d + 0) x ≡ S n next (2 * (2 * d + 0) + 0) x
      unfolding seek_by parted_at
      par_rest =
          let z : (2 * d + 0) / 2 * 4 ≡ 2 * (2 * d + 0) + 0 = omega arith in
          stepped n at (2 * d + 0) x (Par next) (omega arith) (node ∙ e)
          ∙ rw (lt-ltb ((2 * d + 0) / 2) max_duties (omega arith), parted_at, eq-eqb ((2 * d + 0) % 2) 0 (omega arith), parted_at, z)

      par_take : (b c : Bool) → in_set_at w sets a next ≡ b → in_set_at w sets a (skip_from w max_tree_nodes 1 next) ≡ c
          → S (suc n) at (2 * d + 1) x ≡ shared_bits b c (λ y. S n next (d * 4 + y) x)
      unfolding seek_by parted_at
      par_take b c h g =
          stepped n at (2 * d + 1) x (Par next) (omega arith) (node ∙ e)
          ∙ rw (lt-ltb ((2 * d + 1) / 2) max_duties (omega arith), parted_at, ne_eqb ((2 * d + 1) % 2) 0 (λ z. omega arith), parted_at, h, g, takes_half)

  -- the duties stand from `at` on, and `n` nodes are enough for them
  record Ready (n : ℕ) (duties : List Duty) (at : ℕ) (rest : List ℕ) : Type 0 where
    enough : owed duties ≤ n
    few : length duties + n ≤ 65
    words : drop at w ≡ words_of duties ++ rest
    sound : AllSound duties

  module _ (n : ℕ) (z : Duty) (duties : List Duty) (at : ℕ) (rest : List ℕ) (r : Ready (suc n) (z ∷ duties) at rest) where
    first_words : (c : Tree) → tree_of z ≡ c → drop at w ≡ tree_words c ++ (words_of duties ++ rest)
    unfolding words_of
    first_words c e = r.words ∙ append_assoc (tree_words (tree_of z)) (words_of duties) rest ∙ ap (λ x. tree_words x ++ (words_of duties ++ rest)) e

    first_sound : (c : Tree) → tree_of z ≡ c → Sound c
    unfolding AllSound
    first_sound c e = rw e at r.sound.0

    first_size : (c : Tree) → tree_of z ≡ c → tree_size c + owed duties ≤ suc n
    unfolding owed
    first_size c e = rw e at r.enough

    rest_sound : AllSound duties
    unfolding AllSound
    rest_sound = r.sound.1

    par_ready : (x y : Duty) → tree_of z ≡ par (tree_of x) (tree_of y) → Ready n (x ∷ y ∷ duties) (at + 1) rest
    unfolding words_of owed AllSound
    par_ready x y e =
        let next = (par_stands w at (words_of duties ++ rest) (tree_of x) (tree_of y) (first_words _ e)).first in
        let both = first_sound _ e in
        let size = first_size _ e in
        record {
          enough = omega (arith, size_par (tree_of x) (tree_of y));
          few = omega (arith, r.few);
          words =
              next
              ∙ sym (append_assoc (tree_words (tree_of x)) (tree_words (tree_of y) ++ words_of duties) rest
              ∙ ap (λ l. tree_words (tree_of x) ++ l) (append_assoc (tree_words (tree_of y)) (words_of duties) rest));
          sound = (left_sound both, (right_sound both, rest_sound));
        }

    -- what is under a `syn` or an `ini`
    over_ready : (list : List ℕ) (x : Duty) → SynStands w at (words_of duties ++ rest) list (tree_of x) → tree_size (tree_of z) ≡ suc (tree_size (tree_of x)) → Sound (tree_of x) → Ready n (x ∷ duties) (at + 3) rest
    unfolding words_of owed AllSound
    over_ready list x stands size sound = record {
      enough = omega (arith, first_size _ refl);
      few = omega (arith, r.few);
      words = stands.next ∙ sym (append_assoc (tree_words (tree_of x)) (words_of duties) rest);
      sound = (sound, rest_sound);
    }

    leaf_ready : (k : ℕ) → tree_of z ≡ leaf k → Ready n duties (at + 1) rest
    leaf_ready k e =
        let size = first_size _ e in
        record {
          enough = omega (arith, size_leaf k);
          few = omega (arith, r.few);
          words = later w (tree_words (leaf k)) at 1 (words_of duties ++ rest) (first_words _ e) (ap length (words_leaf k));
          sound = rest_sound;
        }

    named_leaf : (k : ℕ) → tree_of z ≡ leaf k → k < length m.automata
    unfolding Leaves
    named_leaf k e = (first_sound _ e).named

    -- a tree has no more nodes than there are, so the duties are few
    small_tree : (c : Tree) → tree_of z ≡ c → tree_size c ≤ max_tree_nodes
    small_tree c e = omega (arith, first_size _ e, r.few)

    few_duties : stack duties < max_duties
    unfolding owed
    few_duties =
        let many = owed_many duties in
        let fits = r.few in
        let size = r.enough in
        let some = some_node (tree_of z) in
        let low : suc (length duties) ≤ 62 = omega arith in
        let up : 2 ^ suc (length duties) ≤ 2 ^ 62 = pow_mono low in
        omega (arith, stack_small duties, up)

  unmoved_par : (c d : Tree) → all_unmoved s t (par c d) ≡ (all_unmoved s t c && all_unmoved s t d)
  unfolding all_unmoved leaves
  unmoved_par c d = every_append (unmoved s t) (leaves c) (leaves d)

  unmoved_leaf : (k : ℕ) → all_unmoved s t (leaf k) ≡ unmoved s t k
  unfolding all_unmoved leaves every
  unmoved_leaf k = and-true (unmoved s t k)

  taken_is : (n next d k takers : ℕ) → k < max_automata → takers < 2 ^ k → taken_by (S n) next d k takers ≡ S n next d (takers + 2 ^ k)
  unfolding taken_by
  taken_is n next d k takers l small = rw (lt-ltb k max_automata l, taken_by, lt-ltb takers (2 ^ k) small, taken_by)

  two : (d b p q : ℕ) → b ≡ 2 * p + q → d * 4 + b ≡ 2 * (2 * d + p) + q
  two d b p q e = omega (arith, e)

  later_named : {takers : ℕ} {ks : List ℕ} {i j : ℕ} → i ≤ j → Named takers ks i → Named takers ks j
  later_named {i = i} {j = j} l x =
      let up : 2 ^ i ≤ 2 ^ j = pow_mono {i = i} {j = j} l in
      record { small = omega (arith, x.small); listed = x.listed }

  -- On the duties that stand from a place on, the search over plain data is that walk.
  seek_is : (n : ℕ) (duties : List Duty) (at : ℕ) (rest : List ℕ) (i takers : ℕ) (ks : List ℕ) → Ready n duties at rest → InOrder i duties → Named takers ks i
      → S n at (stack duties) takers ≡ walk duties ks
  unfolding stack owed tree_of InOrder walk Numbered size
  seek_is zero [] at rest i takers ks r o x = done zero at takers ∙ covered_is takers ks i o x
  seek_is zero (duty ∷ duties) at rest i takers ks r o x = absurd (omega (arith, some_node (tree_of duty), r.enough))
  seek_is (suc n) [] at rest i takers ks r o x = done (suc n) at takers ∙ covered_is takers ks i o x
  seek_is (suc n) (takes (syn list c) ∷ duties) at rest i takers ks r o x =
      let z = takes (syn list c) in
      let stands = syn_stands w at (words_of duties ++ rest) list c (first_words n z duties at rest r _ refl) in
      syn_step n at takers _ stands.node (stack duties) (stack_some duties) 1 (at + 3) _ _ refl
      ∙ seek_is n (takes c ∷ duties) (at + 3) rest i takers ks (over_ready n z duties at rest r list (takes c) stands (size_syn list c) (below_sound (first_sound n z duties at rest r _ refl))) o x
      ∙ unfold taker_sets in refl
  seek_is (suc n) (rests (syn list c) ∷ duties) at rest i takers ks r o x =
      let z = rests (syn list c) in
      let stands = syn_stands w at (words_of duties ++ rest) list c (first_words n z duties at rest r _ refl) in
      syn_step n at takers _ stands.node (stack duties) (stack_some duties) 0 (at + 3) _ _ refl
      ∙ seek_is n (rests c ∷ duties) (at + 3) rest i takers ks (over_ready n z duties at rest r list (rests c) stands (size_syn list c) (below_sound (first_sound n z duties at rest r _ refl))) o x
      ∙ unfold all_unmoved leaves in refl
  seek_is (suc n) (takes (ini p c) ∷ duties) at rest i takers ks r o x =
      let z = takes (ini p c) in
      let stands = ini_stands w at (words_of duties ++ rest) p c (first_words n z duties at rest r _ refl) in
      syn_step n at takers _ stands.node (stack duties) (stack_some duties) 1 (at + 3) _ _ refl
      ∙ seek_is n (takes c ∷ duties) (at + 3) rest i takers ks (over_ready n z duties at rest r [] (takes c) stands (size_ini p c) (below_ini (first_sound n z duties at rest r _ refl))) o x
      ∙ unfold taker_sets in refl
  seek_is (suc n) (rests (ini p c) ∷ duties) at rest i takers ks r o x =
      let z = rests (ini p c) in
      let stands = ini_stands w at (words_of duties ++ rest) p c (first_words n z duties at rest r _ refl) in
      syn_step n at takers _ stands.node (stack duties) (stack_some duties) 0 (at + 3) _ _ refl
      ∙ seek_is n (rests c ∷ duties) (at + 3) rest i takers ks (over_ready n z duties at rest r [] (rests c) stands (size_ini p c) (below_ini (first_sound n z duties at rest r _ refl))) o x
      ∙ unfold all_unmoved leaves in refl
  seek_is (suc n) (takes (leaf k) ∷ duties) at rest i takers ks r o x =
      let z = takes (leaf k) in
      let node = leaf_stands w at (words_of duties ++ rest) k (first_words n z duties at rest r _ refl) in
      let few = lawful.few_automata in
      let l : k < max_automata = omega (arith, named_leaf n z duties at rest r k refl) in
      let y : Named takers ks k = subst (λ (j : ℕ). Named takers ks j) (sym o.0) x in
      let next : InOrder (k + 1) duties = subst (λ (j : ℕ). InOrder (j + 1) duties) (sym o.0) o.1 in
      leaf_take n at takers _ node (stack duties) (stack_some duties) k (at + 1) refl
      ∙ taken_is n (at + 1) (stack duties) k takers l y.small
      ∙ seek_is n duties (at + 1) rest (k + 1) (takers + 2 ^ k) (ks ++ k ∷ []) (leaf_ready n z duties at rest r k refl) next (joined takers ks k l y)
      ∙ sym (walk_leaf k duties ks)
  seek_is (suc n) (rests (leaf k) ∷ duties) at rest i takers ks r o x =
      let z = rests (leaf k) in
      let node = leaf_stands w at (words_of duties ++ rest) k (first_words n z duties at rest r _ refl) in
      leaf_rest n at takers _ node (stack duties) (stack_some duties) k (at + 1) refl
      ∙ ap₂ (λ p q. p && q) (stays k (named_leaf n z duties at rest r k refl) ∙ sym (unmoved_leaf k))
      (seek_is n duties (at + 1) rest (i + 1) takers ks (leaf_ready n z duties at rest r k refl) o.1 (later_named (omega arith) x))
  seek_is (suc n) (rests (par c d) ∷ duties) at rest i takers ks r o x =
      let z = rests (par c d) in
      let stands = par_stands w at (words_of duties ++ rest) c d (first_words n z duties at rest r _ refl) in
      let next : InOrder (i + size c + size d) duties = rw (add_assoc i (size c) (size d)) o.1 in
      par_rest n at takers _ stands.node (stack duties) (stack_some duties) (few_duties n z duties at rest r) (at + 1) refl
      ∙ seek_is n (rests c ∷ rests d ∷ duties) (at + 1) rest i takers ks (par_ready n z duties at rest r (rests c) (rests d) refl) (o.0.0, (o.0.1, next)) x
      ∙ sym (ap (λ b. b && walk duties ks) (unmoved_par c d) ∙ and_assoc (all_unmoved s t c) (all_unmoved s t d) _)
  seek_is (suc n) (takes (par c d) ∷ duties) at rest i takers ks r o x =
      let z = takes (par c d) in
      let stands = par_stands w at (words_of duties ++ rest) c d (first_words n z duties at rest r _ refl) in
      let both = first_sound n z duties at rest r _ refl in
      let few = small_tree n z duties at rest r _ refl in
      let sum = size_par c d in
      let next : InOrder (i + size c + size d) duties = rw (add_assoc i (size c) (size d)) o.1 in
      let here = member_is c (at + 1) _ stands.first (omega arith) (left_sound both) in
      let there = ap (in_set_at w sets a) (skip_of w c (at + 1) (omega arith) (standing c (at + 1) _ stands.first))
      ∙ member_is d _ _ stands.second (omega arith) (right_sound both) in
      let on : ℕ → Bool = λ b. S n (at + 1) (stack duties * 4 + b) takers in
      par_take n at takers _ stands.node (stack duties) (stack_some duties) (few_duties n z duties at rest r) (at + 1) refl
      (in_set m a c) (in_set m a d) here there
      ∙ shared_bits_lem (in_set m a c) (in_set m a d) on _ _ _
      (ap (λ k. S n (at + 1) k takers) (two (stack duties) 3 1 1 (omega arith))
      ∙ seek_is n (takes c ∷ takes d ∷ duties) (at + 1) rest i takers ks (par_ready n z duties at rest r (takes c) (takes d) refl) (o.0.0, (o.0.1, next)) x)
      (ap (λ k. S n (at + 1) k takers) (two (stack duties) 1 0 1 (omega arith))
      ∙ seek_is n (takes c ∷ rests d ∷ duties) (at + 1) rest i takers ks (par_ready n z duties at rest r (takes c) (rests d) refl) (o.0.0, (o.0.1, next)) x)
      (ap (λ k. S n (at + 1) k takers) (two (stack duties) 2 1 0 (omega arith))
      ∙ seek_is n (rests c ∷ takes d ∷ duties) (at + 1) rest i takers ks (par_ready n z duties at rest r (rests c) (takes d) refl) (o.0.0, (o.0.1, next)) x)
      ∙ sym (walk_par c d duties ks)

-- The tree's words stand at `at`, `sets` has the automata's own sets, and bit k of `still` says that automaton k keeps its
-- location: then the search says whether some move of the composition fits the step.
pub found_is : (m : Model) → Lawful m → (s : State) (a : ℕ) (t : State) (w : List ℕ) (at : ℕ) (sets masks first : List ℕ) (still : ℕ)
    → take (length (tree_words m.tree)) (drop at w) ≡ tree_words m.tree
    → ((k : ℕ) → k < length m.automata → bit (get_or sets k 0) a ≡ member a (automaton m k).sync)
    → Offers m s a t masks first
    → ((k : ℕ) → k < length m.automata → bit still k ≡ unmoved s t k)
    → found_in w at sets a masks first still (changed_mask m s t) ≡ exists (fits m s t) (moves m a m.tree)
unfolding found_in stack owed tree_of words_of AllSound InOrder walk search
found_is m lawful s a t w at sets masks first still stands agree offers stays =
    let c = m.tree in
    let order = lawful.tree.in_order in
    let numbers = numbered c _ order in
    let total = size_is c _ order in
    let few = lawful.tree.size in
    let whole : Sound m lawful s a t w sets masks first still offers stays c = record {
      lists = lawful.tree.lists;
      named = leaves_in c 0 numbers (λ k x y. omega arith);
      agree = leaves_in c 0 numbers (λ k x y. agree k (omega arith));
    } in
    let rest = drop (length (tree_words c)) (drop at w) in
    let ready : Ready m lawful s a t w sets masks first still offers stays max_tree_nodes (takes c ∷ []) at rest = record {
      enough = omega arith;
      few = omega arith;
      words = begins w (tree_words c) at stands ∙ ap (λ l. l ++ rest) (sym (append-nil (tree_words c)));
      sound = (whole, tt);
    } in
    let none : Named 0 [] 0 = record { small = omega arith; listed = keep_none (bit 0) 0 max_automata (λ k x y. bit_above 0 0 k (omega arith) (omega arith)) } in
    seek_is m lawful s a t w sets masks first still offers stays max_tree_nodes (takes c ∷ []) at rest 0 0 [] ready (numbers, omega arith) none
    ∙ search_is m lawful s a t
