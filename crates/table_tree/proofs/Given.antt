-- The P's of a tree put in anew. The check knows the nodes of a tree, and how many P's it has, but not the P's.
use mathlib.Core.Path.{◌≡◌, refl, sym, ap, ap₂, ◌∙◌}
use mathlib.Core.Bool.{◌&&◌}
use mathlib.Core.List.{List, [], ◌∷◌, ◌++◌}
use Prim.Native.Nat.{ℕ, suc, ◌+◌}
use native.Mathlib.Omega.{arith}
use lib.ListN.{length, take, drop, length-append, length-drop, take-append-drop}
use Rattle.model.specs.Predicate.{Pred}
use Rattle.model.specs.Composition.{Tree, par, syn, ini, leaf, leaves, starts, tree_size}
use Rattle.model.specs.Limits.{rises, tree_rises, lists_filled}
use Rattle.model.specs.Lawful.{LawfulTree}
use Rattle.model.specs.Table.{low_bits, high_bits}
use Rattle.table_tree.specs.Nodes.{tree_words}
use Rattle.table_tree.proofs.Standing.{words_par, words_syn, words_ini, size_par, size_syn, size_ini}

-- where there are too few, the last keep their own
given : List Pred → Tree → Tree
given ps (par c d) = par (given (take (length (starts c)) ps) c) (given (drop (length (starts c)) ps) d)
given ps (syn list c) = syn list (given ps c)
given [] (ini p c) = ini p (given [] c)
given (q ∷ ps) (ini p c) = ini q (given ps c)
given ps (leaf k) = leaf k

starts_given : (ps : List Pred) (c : Tree) → length ps ≡ length (starts c) → starts (given ps c) ≡ ps
unfolding given starts
starts_given ps (par c d) h =
    let n = length (starts c) in
    let k = length-append (starts c) (starts d) in
    let whole = take-append-drop n ps in
    let long = length-drop n ps in
    let all : length (take n ps) + length (drop n ps) ≡ length ps = sym (length-append (take n ps) (drop n ps)) ∙ ap (λ (l : List Pred). length l) whole in
    ap₂ (λ x y. x ++ y) (starts_given (take n ps) c (omega arith)) (starts_given (drop n ps) d (omega arith)) ∙ whole
starts_given ps (syn list c) h = starts_given ps c h
starts_given [] (ini p c) h = absurd (omega arith)
starts_given (q ∷ ps) (ini p c) h = ap (λ l. q ∷ l) (starts_given ps c (omega arith))
starts_given [] (leaf k) h = refl
starts_given (q ∷ ps) (leaf k) h = absurd (omega arith)

-- two trees that differ in their P's alone
record Alike (A : ℕ) (c d : Tree) : Type 0 where
  words : tree_words d ≡ tree_words c
  size : tree_size d ≡ tree_size c
  lists : tree_rises A d ≡ tree_rises A c
  filled : lists_filled d ≡ lists_filled c
  ordered : leaves d ≡ leaves c

module _ (A : ℕ) where
  alike_par : (b c d e : Tree) → Alike A b d → Alike A c e → Alike A (par b c) (par d e)
  unfolding tree_rises lists_filled leaves
  alike_par b c d e g h = record {
    words = words_par d e ∙ ap₂ (λ x y. 0 ∷ x ++ y) g.words h.words ∙ sym (words_par b c);
    size = size_par d e ∙ ap₂ (λ x y. suc (x + y)) g.size h.size ∙ sym (size_par b c);
    lists = ap₂ (λ x y. x && y) g.lists h.lists;
    filled = ap₂ (λ x y. x && y) g.filled h.filled;
    ordered = ap₂ (λ x y. x ++ y) g.ordered h.ordered;
  }

  alike_syn : (list : List ℕ) (c d : Tree) → Alike A c d → Alike A (syn list c) (syn list d)
  unfolding tree_rises lists_filled leaves
  alike_syn list c d g = record {
    words = words_syn list d ∙ ap (λ x. 1 ∷ low_bits list ∷ high_bits list ∷ x) g.words ∙ sym (words_syn list c);
    size = size_syn list d ∙ ap suc g.size ∙ sym (size_syn list c);
    lists = ap (λ x. rises A 0 list && x) g.lists;
    filled = filled_alike list;
    ordered = g.ordered;
  }
    where
      filled_alike : (l : List ℕ) → lists_filled (syn l d) ≡ lists_filled (syn l c)
      filled_alike [] = refl
      filled_alike (k ∷ ks) = g.filled

  alike_ini : (p q : Pred) (c d : Tree) → Alike A c d → Alike A (ini p c) (ini q d)
  unfolding tree_rises lists_filled leaves
  alike_ini p q c d g = record {
    words = words_ini q d ∙ (alike_syn [] c d g).words ∙ sym (words_ini p c);
    size = size_ini q d ∙ ap suc g.size ∙ sym (size_ini p c);
    lists = g.lists;
    filled = g.filled;
    ordered = g.ordered;
  }

  alike : (ps : List Pred) (c : Tree) → Alike A c (given ps c)
  unfolding given
  alike ps (par c d) = alike_par c d _ _ (alike (take (length (starts c)) ps) c) (alike (drop (length (starts c)) ps) d)
  alike ps (syn list c) = alike_syn list c _ (alike ps c)
  alike [] (ini p c) = alike_ini p p c _ (alike [] c)
  alike (q ∷ ps) (ini p c) = alike_ini p q c _ (alike ps c)
  alike ps (leaf k) = record { words = refl; size = refl; lists = refl; filled = refl; ordered = refl }

-- so a lawful tree with as many P's may have any others in their place: its words are the same
pub regiven : (A N : ℕ) (c : Tree) (ps : List Pred) → length ps ≡ length (starts c) → LawfulTree A N c → (d : Tree) × LawfulTree A N d × (starts d ≡ ps) × (tree_words d ≡ tree_words c) × (tree_size d ≡ tree_size c)
regiven A N c ps h l =
    let k = alike A ps c in (
      given ps c,
      record { lists = k.lists ∙ l.lists; filled = k.filled ∙ l.filled; in_order = k.ordered ∙ l.in_order; size = omega (arith, k.size, l.size) },
      starts_given ps c h,
      k.words,
      k.size,
    )
