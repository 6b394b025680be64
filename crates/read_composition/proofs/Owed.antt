-- From the left, the number of subtrees still owed decides what `read_tree` decides from the right; and the leaves in order.
use Prim.Native.Nat.{ℕ, zero, suc, ◌+◌, ◌<◌}
use mathlib.Core.Path.{◌≡◌, refl, sym, ◌∙◌, ap}
use mathlib.Core.Bool.{Bool, true, false, not, ◌&&◌, and-false}
use mathlib.Core.List.{List, [], ◌∷◌, ◌++◌}
use mathlib.Core.Option.{Option, none, some}
use native.Mathlib.Omega.{arith}
use borrow.Author.Tests.{eq-eqb, ne_eqb}
use lib.Dec.{eqb}
use Rattle.model.specs.Basic.{lacks, on_some, same, count_up}
use Rattle.model.specs.Composition.{Tree, par, syn, ini, leaf, Node, par_node, syn_node, ini_node, leaf_node, stray_node, nodes, leaves}
use Rattle.model.specs.Parse.{pop_tree, push_node, tree_stack, sole_tree, read_tree}

-- do the nodes make up so many trees, and nothing more?
unfoldable pub owes : ℕ → List Node → Bool
owes zero [] = true
owes (suc o) [] = false
owes zero (n ∷ ns) = false
owes (suc o) (par_node ∷ ns) = owes (suc (suc o)) ns
owes (suc o) (syn_node list ∷ ns) = owes (suc o) ns
owes (suc o) (ini_node p ∷ ns) = owes (suc o) ns
owes (suc o) (leaf_node k ∷ ns) = owes o ns
owes (suc o) (stray_node ∷ ns) = false

-- a stack of so many trees
unfoldable holds : ℕ → List Tree → Bool
holds zero [] = true
holds (suc o) [] = false
holds zero (c ∷ s) = false
holds (suc o) (c ∷ s) = holds o s

unfoldable counts : ℕ → Option (List Tree) → Bool
counts o none = false
counts o (some s) = holds o s

push_par : (o : ℕ) (s : Option (List Tree)) → counts (suc (suc o)) s ≡ counts (suc o) (on_some (push_node par_node) s)
unfolding counts holds on_some push_node pop_tree
push_par o none = refl
push_par o (some []) = refl
push_par o (some (c ∷ [])) = refl
push_par o (some (c ∷ d ∷ s)) = refl

-- a node over one tree, which is a `syn` or an `ini`
push_over : (o : ℕ) (f : Tree → Tree) (s : Option (List Tree)) → counts (suc o) s ≡ counts (suc o) (on_some (λ l. pop_tree l (λ c r. some (f c ∷ r))) s)
unfolding counts holds on_some pop_tree
push_over o f none = refl
push_over o f (some []) = refl
push_over o f (some (c ∷ s)) = refl

push_leaf : (o k : ℕ) (s : Option (List Tree)) → counts o s ≡ counts (suc o) (on_some (push_node (leaf_node k)) s)
unfolding counts holds on_some push_node pop_tree
push_leaf o k none = refl
push_leaf o k (some s) = refl

push_stray : (o : ℕ) (s : Option (List Tree)) → counts o (on_some (push_node stray_node) s) ≡ false
unfolding counts holds on_some push_node
push_stray o none = refl
push_stray o (some s) = refl

-- what a node leaves on the stack is not nothing
push_some : (n : Node) (s : Option (List Tree)) → counts 0 (on_some (push_node n) s) ≡ false
unfolding counts holds on_some push_node pop_tree
push_some n none = refl
push_some par_node (some []) = refl
push_some par_node (some (c ∷ [])) = refl
push_some par_node (some (c ∷ d ∷ s)) = refl
push_some (syn_node list) (some []) = refl
push_some (syn_node list) (some (c ∷ s)) = refl
push_some (ini_node p) (some []) = refl
push_some (ini_node p) (some (c ∷ s)) = refl
push_some (leaf_node k) (some s) = refl
push_some stray_node (some s) = refl

owes_counts : (o : ℕ) (ns : List Node) → owes o ns ≡ counts o (tree_stack ns)
unfolding owes tree_stack push_node
owes_counts zero [] = unfold counts holds in refl
owes_counts (suc o) [] = unfold counts holds in refl
owes_counts zero (n ∷ ns) = sym (push_some n (tree_stack ns))
owes_counts (suc o) (par_node ∷ ns) = owes_counts (suc (suc o)) ns ∙ push_par o (tree_stack ns)
owes_counts (suc o) (syn_node list ∷ ns) = owes_counts (suc o) ns ∙ push_over o (syn list) (tree_stack ns)
owes_counts (suc o) (ini_node p ∷ ns) = owes_counts (suc o) ns ∙ push_over o (ini p) (tree_stack ns)
owes_counts (suc o) (leaf_node k ∷ ns) = owes_counts o ns ∙ push_leaf o k (tree_stack ns)
owes_counts (suc o) (stray_node ∷ ns) = sym (push_stray (suc o) (tree_stack ns))

-- row 13
pub owes_tree : (ns : List Node) → owes 1 ns ≡ not (lacks (read_tree ns))
unfolding read_tree
owes_tree ns = owes_counts 1 ns ∙ go (tree_stack ns)
  where
    go : (o : Option (List Tree)) → counts 1 o ≡ not (lacks (on_some sole_tree o))
    go none = unfold counts holds lacks on_some in refl
    go (some []) = unfold counts holds lacks on_some sole_tree in refl
    go (some (c ∷ [])) = unfold counts holds lacks on_some sole_tree in refl
    go (some (c ∷ d ∷ s)) = unfold counts holds lacks on_some sole_tree in refl

-- the leaves among nodes
unfoldable pub leaves_in : List Node → List ℕ
leaves_in [] = []
leaves_in (par_node ∷ ns) = leaves_in ns
leaves_in (syn_node list ∷ ns) = leaves_in ns
leaves_in (ini_node p ∷ ns) = leaves_in ns
leaves_in (leaf_node k ∷ ns) = k ∷ leaves_in ns
leaves_in (stray_node ∷ ns) = leaves_in ns

leaves_append : (ms ns : List Node) → leaves_in (ms ++ ns) ≡ leaves_in ms ++ leaves_in ns
unfolding leaves_in
leaves_append [] ns = refl
leaves_append (par_node ∷ ms) ns = leaves_append ms ns
leaves_append (syn_node list ∷ ms) ns = leaves_append ms ns
leaves_append (ini_node p ∷ ms) ns = leaves_append ms ns
leaves_append (leaf_node k ∷ ms) ns = ap (λ l. k ∷ l) (leaves_append ms ns)
leaves_append (stray_node ∷ ms) ns = leaves_append ms ns

pub leaves_of : (c : Tree) → leaves_in (nodes c) ≡ leaves c
unfolding leaves_in nodes leaves
leaves_of (par c d) = leaves_append (nodes c) (nodes d) ∙ rw (leaves_of c, leaves_of d)
leaves_of (syn list c) = leaves_of c
leaves_of (ini p c) = leaves_of c
leaves_of (leaf k) = refl

-- from the leaf `next` on: each is the next number, and at the end they are N
unfoldable pub in_order : (N next : ℕ) → List ℕ → Bool
in_order N next [] = eqb next N
in_order N next (k ∷ ks) = eqb k next && in_order N (next + 1) ks

too_many : (N next : ℕ) (ks : List ℕ) → N < next → in_order N next ks ≡ false
unfolding in_order
too_many N next [] h = ne_eqb next N (λ e. omega arith)
too_many N next (k ∷ ks) h = ap (λ b. eqb k next && b) (too_many N (next + 1) ks (omega arith)) ∙ and-false (eqb k next)

-- row 14
order_from : (N next c : ℕ) (ks : List ℕ) → next + c ≡ N → in_order N next ks ≡ same ks (count_up next c)
unfolding in_order same count_up
order_from N next zero [] h = eq-eqb next N (omega arith)
order_from N next (suc c) [] h = ne_eqb next N (λ e. omega arith)
order_from N next zero (k ∷ ks) h = ap (λ b. eqb k next && b) (too_many N (next + 1) ks (omega arith)) ∙ and-false (eqb k next)
order_from N next (suc c) (k ∷ ks) h = go (eqb k next) (order_from N (next + 1) c ks (omega arith))
  where
    one : next + 1 ≡ suc next
    one = omega arith

    go : (v : Bool) → in_order N (next + 1) ks ≡ same ks (count_up (next + 1) c)
        → (v && in_order N (next + 1) ks) ≡ elim v as (λ q. Bool) [ true ↦ same ks (count_up (suc next) c) | false ↦ false ]
    go true ih = ih ∙ ap (λ n. same ks (count_up n c)) one
    go false ih = refl

pub order_of : (N : ℕ) (ks : List ℕ) → in_order N 0 ks ≡ same ks (count_up 0 N)
order_of N ks = order_from N 0 N ks (omega arith)
