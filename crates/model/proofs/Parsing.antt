-- Words and predicates are one to one, and so are nodes and trees: what is written is read, and nothing else.
use mathlib.Core.Path.{◌≡◌, refl, sym, ap, ◌∙◌}
use mathlib.Core.List.{List, [], ◌∷◌, ◌++◌, map, map-append, append_assoc, append-nil}
use mathlib.Core.Option.{Option, none, some}
use Prim.Native.Nat.{ℕ, zero, suc}
use native.Mathlib.Omega.{arith}
use Rattle.model.specs.Predicate as P
use Rattle.model.specs.Predicate.{Pred, Preds, Expr, Word, words, words_all, words_of, operands, all, any, negate, imp, eq, le, more, num, old, new, add, sub, mul, choose, all_of, any_of, not_word, imp_word, eq_word, le_word, num_word, old_word, new_word, add_word, sub_word, mul_word, if_word, stray}
use Rattle.model.specs.Basic.{on_some}
use Rattle.model.specs.Composition.{Tree, Node, nodes, starts, par, syn, ini, leaf, par_node, syn_node, ini_node, leaf_node, stray_node}
use Rattle.model.specs.Parse.{Item, predicate, expression, Stack, pop_pred, pop_expr, pop_preds, push, stack, sole_pred, read_pred, pop_tree, push_node, tree_stack, sole_tree, read_tree, ini_alone, with_starts}

-- an option has one value
pub none_some : {A : Type 0} (a : A) → none ≡ some a → ⊥
none_some a h = let z : ◌≡◌ {A = ℕ} 0 1 = cc in omega arith

pub got : {A : Type 0} (a b : A) → some a ≡ some b → a ≡ b
got a b e = cc

-- the predicates of a list, on a stack
abbrev on_stack : Preds → Stack → Stack
on_stack P.none s = s
on_stack (more p ps) s = predicate p ∷ on_stack ps s

take_them : (ps : Preds) (s : Stack) (f : Preds → Stack → Option Stack) → pop_preds (operands ps) (on_stack ps s) f ≡ f ps s
unfolding pop_preds operands pop_pred
take_them P.none s f = refl
take_them (more p ps) s f = take_them ps s (λ qs t. f (more p qs) t)

-- what is written is read
mutual
  unfolding stack words words_all words_of push on_some pop_pred pop_expr

  read_p : (p : Pred) (ws : List Word) (s : Stack) → stack ws ≡ some s → stack (words p ++ ws) ≡ some (predicate p ∷ s)
  read_p (all ps) ws s e = rw (read_ps ps ws s e) (take_them ps s (λ qs t. some (predicate (all qs) ∷ t)))
  read_p (any ps) ws s e = rw (read_ps ps ws s e) (take_them ps s (λ qs t. some (predicate (any qs) ∷ t)))
  read_p (negate p) ws s e = rw (read_p p ws s e)
  read_p (imp p q) ws s e = rw (append_assoc (words p) (words q) ws, read_p p (words q ++ ws) (predicate q ∷ s) (read_p q ws s e))
  read_p (eq a b) ws s e = rw (append_assoc (words_of a) (words_of b) ws, read_x a (words_of b ++ ws) (expression b ∷ s) (read_x b ws s e))
  read_p (le a b) ws s e = rw (append_assoc (words_of a) (words_of b) ws, read_x a (words_of b ++ ws) (expression b ∷ s) (read_x b ws s e))

  read_ps : (ps : Preds) (ws : List Word) (s : Stack) → stack ws ≡ some s → stack (words_all ps ++ ws) ≡ some (on_stack ps s)
  read_ps P.none ws s e = e
  read_ps (more p ps) ws s e = rw (append_assoc (words p) (words_all ps) ws) (read_p p (words_all ps ++ ws) (on_stack ps s) (read_ps ps ws s e))

  read_x : (x : Expr) (ws : List Word) (s : Stack) → stack ws ≡ some s → stack (words_of x ++ ws) ≡ some (expression x ∷ s)
  read_x (num z) ws s e = rw e
  read_x (old k) ws s e = rw e
  read_x (new k) ws s e = rw e
  read_x (add a b) ws s e = rw (append_assoc (words_of a) (words_of b) ws, read_x a (words_of b ++ ws) (expression b ∷ s) (read_x b ws s e))
  read_x (sub a b) ws s e = rw (append_assoc (words_of a) (words_of b) ws, read_x a (words_of b ++ ws) (expression b ∷ s) (read_x b ws s e))
  read_x (mul a b) ws s e = rw (append_assoc (words_of a) (words_of b) ws, read_x a (words_of b ++ ws) (expression b ∷ s) (read_x b ws s e))
  read_x (choose p a b) ws s e =
      rw (append_assoc (words p) (words_of a ++ words_of b) ws, append_assoc (words_of a) (words_of b) ws, read_p p (words_of a ++ (words_of b ++ ws)) (expression a ∷ expression b ∷ s) (read_x a (words_of b ++ ws) (expression b ∷ s) (read_x b ws s e)))

pub read_words_of : (p : Pred) → read_pred (words p) ≡ some p
unfolding read_pred on_some sole_pred stack
read_words_of p = rw (← append-nil (words p)) (rw (read_p p [] [] refl))

-- what is read was written
abbrev flat : Stack → List Word
flat [] = []
flat (predicate p ∷ s) = words p ++ flat s
flat (expression x ∷ s) = words_of x ++ flat s

take_ps_inv : (k : ℕ) (s t : Stack) (f : Preds → Stack → Option Stack) → pop_preds k s f ≡ some t → (ps : Preds) × (u : Stack) × (k ≡ operands ps) × (flat s ≡ words_all ps ++ flat u) × (f ps u ≡ some t)
unfolding pop_preds operands words_all pop_pred
take_ps_inv zero s t f e = (P.none, s, refl, refl, e)
take_ps_inv (suc k) [] t f e = absurd (none_some t e)
take_ps_inv (suc k) (expression x ∷ s) t f e = absurd (none_some t e)
take_ps_inv (suc k) (predicate p ∷ s) t f e =
    let b = take_ps_inv k s t (λ ps s₂. f (more p ps) s₂) e in
    (more p b.0, b.1, ap suc b.2, ap (λ l. words p ++ l) b.3 ∙ sym (append_assoc (words p) (words_all b.0) (flat b.1)), b.4)

two_x : (w : Word) (s t : Stack) (f : Expr → Expr → Item) → ((a b : Expr) (u : Stack) → flat (f a b ∷ u) ≡ w ∷ words_of a ++ words_of b ++ flat u) → pop_expr s (λ a s₁. pop_expr s₁ (λ b s₂. some (f a b ∷ s₂))) ≡ some t → w ∷ flat s ≡ flat t
unfolding pop_expr
two_x w [] t f h e = absurd (none_some t e)
two_x w (predicate p ∷ s) t f h e = absurd (none_some t e)
two_x w (expression a ∷ []) t f h e = absurd (none_some t e)
two_x w (expression a ∷ predicate p ∷ s) t f h e = absurd (none_some t e)
two_x w (expression a ∷ expression b ∷ s) t f h e = rw (← got _ _ e, h a b s, append_assoc)

push_flat : (w : Word) (s t : Stack) → push w s ≡ some t → w ∷ flat s ≡ flat t
unfolding push words words_of pop_pred pop_expr
push_flat (all_of k) s t e =
    let a = take_ps_inv k s t (λ ps s₁. some (predicate (all ps) ∷ s₁)) e in
    ap (λ l. all_of k ∷ l) a.3 ∙ ap (λ n. all_of n ∷ words_all a.0 ++ flat a.1) a.2 ∙ ap flat (got _ _ a.4)
push_flat (any_of k) s t e =
    let a = take_ps_inv k s t (λ ps s₁. some (predicate (any ps) ∷ s₁)) e in
    ap (λ l. any_of k ∷ l) a.3 ∙ ap (λ n. any_of n ∷ words_all a.0 ++ flat a.1) a.2 ∙ ap flat (got _ _ a.4)
push_flat not_word [] t e = absurd (none_some t e)
push_flat not_word (expression x ∷ s) t e = absurd (none_some t e)
push_flat not_word (predicate p ∷ s) t e = ap flat (got _ _ e)
push_flat imp_word [] t e = absurd (none_some t e)
push_flat imp_word (expression x ∷ s) t e = absurd (none_some t e)
push_flat imp_word (predicate p ∷ []) t e = absurd (none_some t e)
push_flat imp_word (predicate p ∷ expression x ∷ s) t e = absurd (none_some t e)
push_flat imp_word (predicate p ∷ predicate q ∷ s) t e = rw (← got _ _ e, append_assoc (words p) (words q) (flat s))
push_flat eq_word s t e = two_x eq_word s t (λ a b. predicate (eq a b)) (λ a b u. refl) e
push_flat le_word s t e = two_x le_word s t (λ a b. predicate (le a b)) (λ a b u. refl) e
push_flat (num_word z) s t e = ap flat (got _ _ e)
push_flat (old_word k) s t e = ap flat (got _ _ e)
push_flat (new_word k) s t e = ap flat (got _ _ e)
push_flat add_word s t e = two_x add_word s t (λ a b. expression (add a b)) (λ a b u. refl) e
push_flat sub_word s t e = two_x sub_word s t (λ a b. expression (sub a b)) (λ a b u. refl) e
push_flat mul_word s t e = two_x mul_word s t (λ a b. expression (mul a b)) (λ a b u. refl) e
push_flat if_word [] t e = absurd (none_some t e)
push_flat if_word (expression x ∷ s) t e = absurd (none_some t e)
push_flat if_word (predicate p ∷ []) t e = absurd (none_some t e)
push_flat if_word (predicate p ∷ predicate q ∷ s) t e = absurd (none_some t e)
push_flat if_word (predicate p ∷ expression a ∷ []) t e = absurd (none_some t e)
push_flat if_word (predicate p ∷ expression a ∷ predicate q ∷ s) t e = absurd (none_some t e)
push_flat if_word (predicate p ∷ expression a ∷ expression b ∷ s) t e =
    rw (← got _ _ e, append_assoc (words p) (words_of a ++ words_of b) (flat s), append_assoc (words_of a) (words_of b) (flat s))
push_flat stray s t e = absurd (none_some t e)

stack_flat : (ws : List Word) (s : Stack) → stack ws ≡ some s → ws ≡ flat s
unfolding stack on_some
stack_flat [] s e = rw (← got _ _ e)
stack_flat (w ∷ ws) s e = go (stack_flat ws) (stack ws) refl e
  where
    go : ((u : Stack) → stack ws ≡ some u → ws ≡ flat u) → (o : Option Stack) → stack ws ≡ o → on_some (push w) o ≡ some s → w ∷ ws ≡ flat s
    go ih none h k = absurd (none_some s k)
    go ih (some u) h k = ap (λ l. w ∷ l) (ih u h) ∙ push_flat w u s k

sole_flat : (s : Stack) (p : Pred) → sole_pred s ≡ some p → flat s ≡ words p
unfolding sole_pred
sole_flat [] p e = absurd (none_some p e)
sole_flat (predicate q ∷ []) p e = let z : q ≡ p = cc in rw (append-nil, z)
sole_flat (predicate q ∷ i ∷ s) p e = absurd (none_some p e)
sole_flat (expression x ∷ s) p e = absurd (none_some p e)

-- whatever words are read as a predicate are that predicate's words
pub words_of_read : (ws : List Word) (p : Pred) → read_pred ws ≡ some p → ws ≡ words p
unfolding read_pred on_some
words_of_read ws p e = go (stack ws) refl e
  where
    go : (o : Option Stack) → stack ws ≡ o → on_some sole_pred o ≡ some p → ws ≡ words p
    go none h k = absurd (none_some p k)
    go (some s) h k = stack_flat ws s h ∙ sole_flat s p k

-- the same of trees
read_tree_in : (c : Tree) (ns : List Node) (s : List Tree) → tree_stack ns ≡ some s → tree_stack (nodes c ++ ns) ≡ some (c ∷ s)
unfolding tree_stack nodes on_some push_node pop_tree
read_tree_in (par c d) ns s e = rw (append_assoc (nodes c) (nodes d) ns, read_tree_in c (nodes d ++ ns) (d ∷ s) (read_tree_in d ns s e))
read_tree_in (syn l c) ns s e = rw (read_tree_in c ns s e)
read_tree_in (ini p c) ns s e = rw (read_tree_in c ns s e)
read_tree_in (leaf k) ns s e = rw e

pub read_nodes_of : (c : Tree) → read_tree (nodes c) ≡ some c
unfolding read_tree on_some sole_tree tree_stack
read_nodes_of c = rw (← append-nil (nodes c)) (rw (read_tree_in c [] [] refl))

abbrev tree_flat : List Tree → List Node
tree_flat [] = []
tree_flat (c ∷ s) = nodes c ++ tree_flat s

tree_push_flat : (n : Node) (s t : List Tree) → push_node n s ≡ some t → n ∷ tree_flat s ≡ tree_flat t
unfolding push_node pop_tree nodes
tree_push_flat par_node [] t e = absurd (none_some t e)
tree_push_flat par_node (c ∷ []) t e = absurd (none_some t e)
tree_push_flat par_node (c ∷ d ∷ s) t e = rw (← got _ _ e, append_assoc (nodes c) (nodes d) (tree_flat s))
tree_push_flat (syn_node l) [] t e = absurd (none_some t e)
tree_push_flat (ini_node p) [] t e = absurd (none_some t e)
tree_push_flat (syn_node l) (c ∷ s) t e = ap tree_flat (got _ _ e)
tree_push_flat (ini_node p) (c ∷ s) t e = ap tree_flat (got _ _ e)
tree_push_flat (leaf_node k) s t e = ap tree_flat (got _ _ e)
tree_push_flat stray_node s t e = absurd (none_some t e)

tree_stack_flat : (ns : List Node) (s : List Tree) → tree_stack ns ≡ some s → ns ≡ tree_flat s
unfolding tree_stack on_some
tree_stack_flat [] s e = ap tree_flat (got _ _ e)
tree_stack_flat (n ∷ ns) s e = go (tree_stack_flat ns) (tree_stack ns) refl e
  where
    go : ((u : List Tree) → tree_stack ns ≡ some u → ns ≡ tree_flat u) → (o : Option (List Tree)) → tree_stack ns ≡ o → on_some (push_node n) o ≡ some s → n ∷ ns ≡ tree_flat s
    go ih none h k = absurd (none_some s k)
    go ih (some u) h k = ap (λ l. n ∷ l) (ih u h) ∙ tree_push_flat n u s k

tree_sole_flat : (s : List Tree) (c : Tree) → sole_tree s ≡ some c → tree_flat s ≡ nodes c
unfolding sole_tree
tree_sole_flat [] c e = absurd (none_some c e)
tree_sole_flat (d ∷ []) c e = append-nil (nodes d) ∙ ap nodes (got _ _ e)
tree_sole_flat (d ∷ b ∷ s) c e = absurd (none_some c e)

pub nodes_of_read : (ns : List Node) (c : Tree) → read_tree ns ≡ some c → ns ≡ nodes c
unfolding read_tree on_some
nodes_of_read ns c e = go (tree_stack ns) refl e
  where
    go : (o : Option (List Tree)) → tree_stack ns ≡ o → on_some sole_tree o ≡ some c → ns ≡ nodes c
    go none h k = absurd (none_some c k)
    go (some s) h k = tree_stack_flat ns s h ∙ tree_sole_flat s c k

-- a node as it is read before the P's are known; with them it is as it was
unfoldable pub bare : Node → Node
bare par_node = par_node
bare (syn_node list) = syn_node list
bare (ini_node p) = ini_alone
bare (leaf_node k) = leaf_node k
bare stray_node = stray_node

given_in : (c : Tree) (ps : List Pred) (ns : List Node) → with_starts (starts c ++ ps) (map bare (nodes c) ++ ns) ≡ nodes c ++ with_starts ps ns
unfolding with_starts starts nodes bare
given_in (par c d) ps ns =
    rw (append_assoc (starts c) (starts d) ps, map-append bare (nodes c) (nodes d), append_assoc (map bare (nodes c)) (map bare (nodes d)) ns, append_assoc (nodes c) (nodes d) (with_starts ps ns), given_in c (starts d ++ ps) (map bare (nodes d) ++ ns), given_in d ps ns)
given_in (syn l c) ps ns = rw (given_in c ps ns)
given_in (ini p c) ps ns = rw (given_in c ps ns)
given_in (leaf k) ps ns = refl

pub given_back : (c : Tree) → with_starts (starts c) (map bare (nodes c)) ≡ nodes c
unfolding with_starts
given_back c = rw (append-nil (starts c), append-nil (map bare (nodes c)), append-nil (nodes c)) at (given_in c [] [])
