-- A tree's words in the table: what stands at its nodes' places, and where it ends.
use mathlib.Core.Path.{◌≡◌, refl, sym, ap, ◌∙◌}
use mathlib.Core.List.{List, [], ◌∷◌, ◌++◌, append_assoc, flat_map}
use Prim.Native.Nat.{ℕ, suc, ◌+◌, ◌-◌, ◌≤◌}
use native.Mathlib.Omega.{arith}
use lib.ListN.{length, drop, take, length-append, take-append-drop}
use Rattle.model.specs.Bounds.{max_tree_nodes}
use Rattle.model.specs.Predicate.{Pred}
use Rattle.model.specs.Composition.{Tree, par, syn, ini, leaf, nodes, tree_size}
use Rattle.model.specs.Table.{low_bits, high_bits, set_words, node_words}
use Rattle.model.proofs.Lists.{flat_append}
use Rattle.table_tree.specs.declared.nodes.Found.{Found}
use Rattle.table_tree.specs.declared.nodes.Found.TheVariants.{Par, Syn, Leaf}
use Rattle.table_tree.specs.Nodes.{tree_words, node_in, node_at, after, owing, skip_from}
use Rattle.table_tree.proofs.NodeLaws.{later, skip_done, skip_step}

pub words_par : (c d : Tree) → tree_words (par c d) ≡ 0 ∷ tree_words c ++ tree_words d
unfolding flat_map nodes node_words
words_par c d = ap (λ l. 0 ∷ l) (flat_append node_words (nodes c) (nodes d))

pub words_syn : (list : List ℕ) (c : Tree) → tree_words (syn list c) ≡ 1 ∷ low_bits list ∷ high_bits list ∷ tree_words c
unfolding flat_map nodes node_words set_words
words_syn list c = refl

-- an `ini` has the words of a `syn` with no action
pub words_ini : (p : Pred) (c : Tree) → tree_words (ini p c) ≡ tree_words (syn [] c)
unfolding flat_map nodes node_words
words_ini p c = refl

pub words_leaf : (k : ℕ) → tree_words (leaf k) ≡ (2 + k) ∷ []
unfolding flat_map nodes node_words
words_leaf k = refl

pub length_par : (c d : Tree) → length (tree_words (par c d)) ≡ 1 + length (tree_words c) + length (tree_words d)
length_par c d = ap length (words_par c d) ∙ simp length-append (omega arith)

pub length_syn : (list : List ℕ) (c : Tree) → length (tree_words (syn list c)) ≡ 3 + length (tree_words c)
length_syn list c = ap length (words_syn list c) ∙ omega arith

pub length_ini : (p : Pred) (c : Tree) → length (tree_words (ini p c)) ≡ 3 + length (tree_words c)
length_ini p c = ap length (words_ini p c) ∙ length_syn [] c

pub size_par : (c d : Tree) → tree_size (par c d) ≡ suc (tree_size c + tree_size d)
unfolding tree_size nodes
size_par c d = ap suc (length-append (nodes c) (nodes d))

pub size_syn : (list : List ℕ) (c : Tree) → tree_size (syn list c) ≡ suc (tree_size c)
unfolding tree_size nodes
size_syn list c = refl

pub size_ini : (p : Pred) (c : Tree) → tree_size (ini p c) ≡ suc (tree_size c)
unfolding tree_size nodes
size_ini p c = refl

pub size_leaf : (k : ℕ) → tree_size (leaf k) ≡ 1
unfolding tree_size nodes
size_leaf k = refl

-- what begins with some words goes on with others
pub begins : (w k : List ℕ) (at : ℕ) → take (length k) (drop at w) ≡ k → drop at w ≡ k ++ drop (length k) (drop at w)
begins w k at e = sym (take-append-drop (length k) (drop at w)) ∙ ap (λ l. l ++ drop (length k) (drop at w)) e

module _ (w : List ℕ) (at : ℕ) (rest : List ℕ) where
  pub record ParStands (c d : Tree) : Type 0 where
    pub node : node_at w at ≡ Par (at + 1)
    pub first : drop (at + 1) w ≡ tree_words c ++ (tree_words d ++ rest)
    pub second : drop (at + 1 + length (tree_words c)) w ≡ tree_words d ++ rest

  pub par_stands : (c d : Tree) → drop at w ≡ tree_words (par c d) ++ rest → ParStands c d
  unfolding node_at node_in
  par_stands c d e =
      let all : drop at w ≡ 0 ∷ (tree_words c ++ (tree_words d ++ rest)) = e ∙ ap (λ l. l ++ rest) (words_par c d) ∙ ap (λ l. 0 ∷ l) (append_assoc (tree_words c) (tree_words d) rest) in
      let first = later w (0 ∷ []) at 1 (tree_words c ++ (tree_words d ++ rest)) all refl in
      record { node = rw all; first = first; second = later w (tree_words c) (at + 1) (length (tree_words c)) (tree_words d ++ rest) first refl }

  pub record SynStands (list : List ℕ) (c : Tree) : Type 0 where
    pub node : node_at w at ≡ Syn (low_bits list) (high_bits list) (at + 3)
    pub next : drop (at + 3) w ≡ tree_words c ++ rest

  pub syn_stands : (list : List ℕ) (c : Tree) → drop at w ≡ tree_words (syn list c) ++ rest → SynStands list c
  unfolding node_at node_in
  syn_stands list c e =
      let all : drop at w ≡ 1 ∷ low_bits list ∷ high_bits list ∷ (tree_words c ++ rest) = e ∙ ap (λ l. l ++ rest) (words_syn list c) in
      record { node = rw all; next = later w (1 ∷ low_bits list ∷ high_bits list ∷ []) at 3 (tree_words c ++ rest) all refl }

  pub ini_stands : (p : Pred) (c : Tree) → drop at w ≡ tree_words (ini p c) ++ rest → SynStands [] c
  ini_stands p c e = syn_stands [] c (e ∙ ap (λ l. l ++ rest) (words_ini p c))

  pub leaf_stands : (k : ℕ) → drop at w ≡ tree_words (leaf k) ++ rest → node_at w at ≡ Leaf k (at + 1)
  unfolding node_at node_in
  leaf_stands k e =
      let two : 2 + k ≡ suc (suc k) = omega arith in
      let all : drop at w ≡ suc (suc k) ∷ rest = e ∙ ap (λ l. l ++ rest) (words_leaf k) ∙ ap (λ j. j ∷ rest) two in
      rw all

-- a subtree is passed
module _ (w : List ℕ) where
  pass : (left owed at : ℕ) (f : Found) → node_at w at ≡ f → skip_from w (suc left) (suc owed) at ≡ skip_from w left (owing f (suc owed)) (after f at)
  pass left owed at f e =
      sym (skip_step w (suc left) (suc owed) at (skip_from w (suc left) (suc owed) at) refl (omega arith) left refl f (sym e) (owing f (suc owed)) (after f at) refl refl)

  -- one under a `syn` or an `ini`, with the node that stands over it
  over : (list : List ℕ) (c d : Tree) (left owed at : ℕ) (rest : List ℕ) → SynStands w at rest list c → tree_size d ≡ suc (tree_size c) → length (tree_words d) ≡ 3 + length (tree_words c) → skip_from w (tree_size c + left) (suc owed) (at + 3) ≡ skip_from w left owed (at + 3 + length (tree_words c)) → skip_from w (tree_size d + left) (suc owed) at ≡ skip_from w left owed (at + length (tree_words d))
  unfolding owing after
  over list c d left owed at rest s size long below =
      let n : tree_size d + left ≡ suc (tree_size c + left) = omega arith in
      let z : at + 3 + length (tree_words c) ≡ at + length (tree_words d) = omega arith in
      ap (λ m. skip_from w m (suc owed) at) n ∙ pass (tree_size c + left) owed at (Syn (low_bits list) (high_bits list) (at + 3)) s.node
      ∙ below
      ∙ ap (skip_from w left owed) z

  passed : (c : Tree) (left owed at : ℕ) (rest : List ℕ) → drop at w ≡ tree_words c ++ rest → skip_from w (tree_size c + left) (suc owed) at ≡ skip_from w left owed (at + length (tree_words c))
  unfolding owing after
  passed (par c d) left owed at rest e =
      let s = par_stands w at rest c d e in
      let n : tree_size (par c d) + left ≡ suc (tree_size c + (tree_size d + left)) = omega (arith, size_par c d) in
      let o : suc owed + 1 ≡ suc (suc owed) = omega arith in
      let z : at + 1 + length (tree_words c) + length (tree_words d) ≡ at + length (tree_words (par c d)) = omega (arith, length_par c d) in
      ap (λ m. skip_from w m (suc owed) at) n ∙ pass (tree_size c + (tree_size d + left)) owed at (Par (at + 1)) s.node
      ∙ ap (λ m. skip_from w (tree_size c + (tree_size d + left)) m (at + 1)) o
      ∙ passed c (tree_size d + left) (suc owed) (at + 1) (tree_words d ++ rest) s.first
      ∙ passed d left owed (at + 1 + length (tree_words c)) rest s.second
      ∙ ap (skip_from w left owed) z
  passed (syn list c) left owed at rest e =
      let s = syn_stands w at rest list c e in
      over list c (syn list c) left owed at rest s (size_syn list c) (length_syn list c) (passed c left owed (at + 3) rest s.next)
  passed (ini p c) left owed at rest e =
      let s = ini_stands w at rest p c e in
      over [] c (ini p c) left owed at rest s (size_ini p c) (length_ini p c) (passed c left owed (at + 3) rest s.next)
  passed (leaf k) left owed at rest e =
      let n : tree_size (leaf k) + left ≡ suc left = omega (arith, size_leaf k) in
      let o : suc owed - 1 ≡ owed = omega arith in
      ap (λ m. skip_from w m (suc owed) at) n ∙ pass left owed at (Leaf k (at + 1)) (leaf_stands w at rest k e)
      ∙ ap (λ m. skip_from w left m (at + 1)) o ∙ ap (λ l. skip_from w left owed (at + length l)) (sym (words_leaf k))

  -- `skip` finds the end of a tree
  pub skip_of : (c : Tree) (at : ℕ) → tree_size c ≤ max_tree_nodes → take (length (tree_words c)) (drop at w) ≡ tree_words c → skip_from w max_tree_nodes 1 at ≡ at + length (tree_words c)
  skip_of c at few e =
      let n : 64 ≡ tree_size c + (64 - tree_size c) = omega arith in
      ap (λ m. skip_from w m 1 at) n ∙ passed c (64 - tree_size c) 0 at _ (begins w (tree_words c) at e) ∙
      sym (skip_done w (64 - tree_size c) 0 (at + length (tree_words c)) _ refl refl)
