-- The text of a model within the limits has at most 65,536 bytes: the longest numbers, lists and trees leave room to spare.
use Prim.Native.Nat.{ℕ, zero, suc, ◌+◌, ◌-◌, ◌*◌, ◌/◌, ◌%◌, ◌^◌, ◌≤◌, ◌<◌}
use mathlib.Core.Path.{◌≡◌, refl, sym, ap, subst, ◌∙◌}
use mathlib.Core.Bool.{Bool, true, false, ◌&&◌, ◌||◌, true≢false, and-eq-true_iff}
use mathlib.Core.List.{List, [], ◌∷◌, ◌++◌, map, flat_map, Memᴰ}
use mathlib.Core.Option.{Option, none, some}
use mathlib.Core.Logic.{⊎_elim}
use native.Mathlib.Omega.{arith}
use borrow.Author.Tests.{lt-ltb, ltb-true, leb-true, eqb-true, eqb-false}
use lib.ListN.{length, length-append}
use lib.IntN.{ℤ, pos, negsuc}
use lib.Dec.{leb, ltb, eqb}
use Rattle.model.specs.Basic.{between, every, exists, keep, sum, count_up}
use Rattle.model.specs.Bounds.{max_actions, max_automata, max_locations, max_edges, max_operands, max_variables, max_bytes, writes_format, owners_format, least_number, greatest_number}
use Rattle.model.specs.Predicate as P
use Rattle.model.specs.Predicate.{Pred, all, any, negate, imp, eq, le, Preds, more, operands, Expr, num, old, new, add, sub, mul, choose, Range, Word, words, words_all, words_of, node_count, Named, nothing, the_old, the_new, named, is_new, is_new_of, mentions, written}
use Rattle.model.specs.Composition.{Tree, par, syn, ini, leaf, leaves, starts, start_nodes, nodes, tree_size}
use Rattle.model.specs.Model.{Location, Edge, Automaton, Model, edge_total}
use Rattle.model.specs.Lines.{Entry, format_line, actions_line, variables_line, variable_line, automata_line, sync_line, locations_line, init_line, inv_line, edges_line, edge_line, compose_line, key_of, location_lines, automaton_lines, variable_lines, lines}
use Rattle.model.specs.Limits.{in_range, rises, tree_rises, tree_in_range}
use Rattle.model.specs.Lawful.{location_nodes, automaton_nodes, node_total, LawfulRange, LawfulOwner, LawfulLocation, LawfulEdge, LawfulAutomaton, LawfulTree, Lawful}
use Rattle.model.proofs.LimitLines.{tree_ranged}
use Rattle.model.proofs.Tests.{every_append}
use Rattle.model.proofs.Lists.{flat_append, keep_append, keep_first, keep_skip, keep_empty, keep_length}
use Rattle.format.specs.Bytes.{LF, Bytes, led_by, joined, space, comma, '0}
use Rattle.format.specs.Number.{decimal_in, decimal, signed}
use Rattle.format.specs.Spelling as S
use Rattle.format.specs.Spelling.{spelling, value_text, line_text, writes_key, owner_key, none_word, behind, owner_said, behind_text, entry_text, text_of, spelled, text_of_pred, text_of_list, text_of_owner, spelled_node, text_of_tree}
use Rattle.format.proofs.NumberLaws.{split}

-- a number below 10 ^ (d + 1) takes at most d + 1 digits
width : (d k n : ℕ) → n < 10 ^ suc d → length (decimal_in k n) ≤ suc d
unfolding decimal_in
width d zero n h = omega arith
width zero (suc k) n h = rw (lt-ltb n 10 h, decimal_in) (omega arith)
width (suc d) (suc k) n h = go (ltb n 10) (width d k (n / 10) (omega arith))
  where
    go : (t : Bool) → length (decimal_in k (n / 10)) ≤ suc d → length {A = ℕ} (elim t [ true ↦ ('0 + n) ∷ [] | false ↦ decimal_in k (n / 10) ++ ('0 + n % 10) ∷ [] ]) ≤ suc (suc d)
    go true w = omega arith
    go false w = let e = length-append (decimal_in k (n / 10)) (('0 + n % 10) ∷ []) in omega arith

pub decimal_width : (d n : ℕ) → n < 10 ^ suc d → length (decimal n) ≤ suc d
unfolding decimal
decimal_width d n h = width d (suc n) n h

-- a number of a sheet takes at most so many bytes
abbrev longest_number : ℕ
longest_number = 11

signed_width : (z : ℤ) → between least_number greatest_number z ≡ true → length (signed z) ≤ longest_number
unfolding signed between
signed_width (pos n) h = let l = leb-true n _ h in let w = decimal_width 9 n (omega arith) in omega arith
signed_width (negsuc n) h = let g = simp and-eq-true_iff at h in let l = leb-true n _ g.0 in let w = decimal_width 9 (suc n) (omega arith) in omega arith

-- the bytes of parts, each with a byte before it
abbrev size : List Bytes → ℕ
size [] = 0
size (s ∷ ss) = suc (length s) + size ss

size_led : (c : ℕ) (ss : List Bytes) → length (led_by c ss) ≡ size ss
unfolding led_by
size_led c [] = refl
size_led c (s ∷ ss) = let ih = size_led c ss in let e = length-append s (led_by c ss) in omega arith

size_joined : (c : ℕ) (ss : List Bytes) → length (joined c ss) ≡ size ss - 1
unfolding joined
size_joined c [] = refl
size_joined c (s ∷ ss) = let e = length-append s (led_by c ss) in let l = size_led c ss in omega arith

size_append : (a b : List Bytes) → size (a ++ b) ≡ size a + size b
size_append [] b = omega arith
size_append (s ∷ a) b = let ih = size_append a b in omega arith

-- Predicates. An expression may take more than 39 bytes for four nodes, as a number does; but two expressions need a
-- predicate's word, which takes less. So what is over at an expression is owed by a predicate.
-- A word `nK` is spelled once more in the list behind an edge: that costs 3 bytes, which its own word has left.
abbrev is_new_word : Word → Bool
is_new_word w = is_new (named w)

abbrev news : List Word → ℕ
news ws = length (keep is_new_word ws)

news_append : (a b : List Word) → news (a ++ b) ≡ news a + news b
news_append a b = ap (length {A = Word}) (keep_append is_new_word a b) ∙ length-append (keep is_new_word a) (keep is_new_word b)

abbrev cost : List Word → ℕ
cost ws = size (flat_map spelled ws) + 3 * news ws

record Parts (a b : List Word) : Type 0 where
  first : every in_range a ≡ true
  second : every in_range b ≡ true
  bytes : cost (a ++ b) ≡ cost a + cost b
  nodes : length (a ++ b) ≡ length a + length b

parts : (a b : List Word) → every in_range (a ++ b) ≡ true → Parts a b
parts a b h =
    let g = simp (every_append in_range a b, and-eq-true_iff) at h in
    let e = ap size (flat_append spelled a b) ∙ size_append (flat_map spelled a) (flat_map spelled b) in
    record { first = g.0; second = g.1; bytes = omega (arith, e, news_append a b); nodes = length-append a b }

-- the K of `all` and `any` takes three digits only where there are operands
count_width : (k : ℕ) → k ≤ max_operands → 4 * length (decimal k) ≤ 10 + 9 * k
count_width zero l = let d = decimal_width 0 0 (omega arith) in omega arith
count_width (suc k) l = let d = decimal_width 2 (suc k) (omega arith) in omega arith

mutual
  unfolding words words_all words_of every in_range flat_map spelled operands keep is_new named

  pred_cost : (p : Pred) → every in_range (words p) ≡ true → 4 * cost (words p) + 9 ≤ 39 * length (words p)
  pred_cost (all ps) h =
      let g = simp and-eq-true_iff at h in
      omega (arith, count_width (operands ps) (leb-true (operands ps) max_operands g.0), preds_cost ps g.1)
  pred_cost (any ps) h =
      let g = simp and-eq-true_iff at h in
      omega (arith, count_width (operands ps) (leb-true (operands ps) max_operands g.0), preds_cost ps g.1)
  pred_cost (negate p) h = omega (arith, pred_cost p h)
  pred_cost (imp p q) h = let g = parts (words p) (words q) h in omega (arith, g.bytes, g.nodes, pred_cost p g.first, pred_cost q g.second)
  pred_cost (eq x y) h = let g = parts (words_of x) (words_of y) h in omega (arith, g.bytes, g.nodes, expr_cost x g.first, expr_cost y g.second)
  pred_cost (le x y) h = let g = parts (words_of x) (words_of y) h in omega (arith, g.bytes, g.nodes, expr_cost x g.first, expr_cost y g.second)

  preds_cost : (ps : Preds) → every in_range (words_all ps) ≡ true → 4 * cost (words_all ps) + 9 * operands ps ≤ 39 * length (words_all ps)
  preds_cost P.none h = omega arith
  preds_cost (more p ps) h = let g = parts (words p) (words_all ps) h in omega (arith, g.bytes, g.nodes, pred_cost p g.first, preds_cost ps g.second)

  expr_cost : (x : Expr) → every in_range (words_of x) ≡ true → 4 * cost (words_of x) ≤ 39 * length (words_of x) + 9
  expr_cost (num z) h = let g = simp and-eq-true_iff at h in omega (arith, signed_width z g.0)
  expr_cost (old k) h = let g = simp and-eq-true_iff at h in let l = leb-true k _ g.0 in omega (arith, decimal_width 1 k (omega arith))
  expr_cost (new k) h = let g = simp and-eq-true_iff at h in let l = leb-true k _ g.0 in omega (arith, decimal_width 1 k (omega arith))
  expr_cost (add x y) h = let g = parts (words_of x) (words_of y) h in omega (arith, g.bytes, g.nodes, expr_cost x g.first, expr_cost y g.second)
  expr_cost (sub x y) h = let g = parts (words_of x) (words_of y) h in omega (arith, g.bytes, g.nodes, expr_cost x g.first, expr_cost y g.second)
  expr_cost (mul x y) h = let g = parts (words_of x) (words_of y) h in omega (arith, g.bytes, g.nodes, expr_cost x g.first, expr_cost y g.second)
  expr_cost (choose p x y) h =
      let g = parts (words p) (words_of x ++ words_of y) h in
      let k = parts (words_of x) (words_of y) g.second in
      omega (arith, g.bytes, g.nodes, k.bytes, k.nodes, pred_cost p g.first, expr_cost x k.first, expr_cost y k.second)

pred_size : (p : Pred) → every in_range (words p) ≡ true → 4 * length (text_of_pred p) + 12 * news (words p) + 13 ≤ 39 * node_count p
unfolding text_of_pred node_count
pred_size p h =
    let c = pred_cost p h in
    let node : 1 ≤ length (words p) = omega (arith, c) in
    omega (arith, c, node, size_joined space (flat_map spelled (words p)), keep_length is_new_word (words p))

-- The list behind an edge: no more variables than words `nK`, each with at most two digits and a comma.
abbrev onto : {A : Type 0} → Bool → A → List A → List A
onto b x l = elim b [ true ↦ x ∷ l | false ↦ l ]

either_kept : {A : Type 0} (f g : A → Bool) (l : List A) → length (keep (λ x. f x || g x) l) ≤ length (keep f l) + length (keep g l)
unfolding keep
either_kept f g [] = omega arith
either_kept {A} f g (x ∷ l) = go (f x) (g x) (either_kept f g l)
  where
    go : (b c : Bool) → length (keep (λ y. f y || g y) l) ≤ length (keep f l) + length (keep g l) → length (onto (b || c) x (keep (λ y. f y || g y) l)) ≤ length (onto b x (keep f l)) + length (onto c x (keep g l))
    go true true h = omega arith
    go true false h = omega arith
    go false true h = omega arith
    go false false h = omega arith

-- of numbers counted up, at most one is j, and none from past it on
one_counted : (j n count : ℕ) → length (keep (λ k. eqb k j) (count_up n count)) ≤ 1 - (n - j)
unfolding keep count_up
one_counted j n zero = omega arith
one_counted j n (suc count) = go (eqb n j) refl (one_counted j (suc n) count)
  where
    go : (b : Bool) → eqb n j ≡ b → length (keep (λ k. eqb k j) (count_up (suc n) count)) ≤ 1 - (suc n - j) → length (onto b n (keep (λ k. eqb k j) (count_up (suc n) count))) ≤ 1 - (n - j)
    go true e h = let i = eqb-true n j e in omega arith
    go false e h = let i = eqb-false n j e in omega arith

abbrev names : List Word → ℕ → Bool
names ws k = exists (λ w. is_new_of k (named w)) ws

few_written : (n count : ℕ) (ws : List Word) → length (keep (names ws) (count_up n count)) ≤ news ws
unfolding exists is_new_of is_new
few_written n count [] = rw (keep_empty (λ k. false) (count_up n count) (λ k i. refl)) (omega arith)
few_written n count (w ∷ ws) = go (named w) refl (few_written n count ws)
  where
    by_name : (x : Named) → named w ≡ x → (most : ℕ) → length (keep (λ k. is_new_of k x || names ws k) (count_up n count)) ≤ most → length (keep (names (w ∷ ws)) (count_up n count)) ≤ most
    by_name x e most h = subst (λ (y : Named). length (keep (λ k. is_new_of k y || names ws k) (count_up n count)) ≤ most) (sym e) h

    go : (x : Named) → named w ≡ x → length (keep (names ws) (count_up n count)) ≤ news ws → length (keep (names (w ∷ ws)) (count_up n count)) ≤ news (w ∷ ws)
    go nothing e h = rw (keep_skip is_new_word w ws (ap is_new e)) (by_name nothing e (news ws) h)
    go (the_old j) e h = rw (keep_skip is_new_word w ws (ap is_new e)) (by_name (the_old j) e (news ws) h)
    go (the_new j) e h =
        let b = either_kept (λ k. eqb k j) (names ws) (count_up n count) in
        rw (keep_first is_new_word w ws (ap is_new e)) (by_name (the_new j) e (suc (news ws)) (omega (arith, b, one_counted j n count, h)))

short_numbers : (f : ℕ → Bool) (n count : ℕ) → n + count ≤ 100 → size (map decimal (keep f (count_up n count))) ≤ 3 * length (keep f (count_up n count))
unfolding keep count_up
short_numbers f n zero h = omega arith
short_numbers f n (suc count) h = go (f n) (short_numbers f (suc n) count (omega arith))
  where
    go : (b : Bool) → size (map decimal (keep f (count_up (suc n) count))) ≤ 3 * length (keep f (count_up (suc n) count))
        → size (map decimal (onto b n (keep f (count_up (suc n) count)))) ≤ 3 * length (onto b n (keep f (count_up (suc n) count)))
    go true i = let d = decimal_width 1 n (omega arith) in omega arith
    go false i = i

writes_size : (f : ℕ) (e : Edge) → length (behind_text (behind f (edge_line e)) (edge_line e)) ≤ 8 + 3 * news (words e.update)
unfolding behind behind_text writes_key text_of_list written mentions
writes_size f e = go (leb writes_format f)
  where
    go : (b : Bool) → length (behind_text (elim b [ true ↦ S.list (written e.update) | false ↦ S.nothing ]) (edge_line e)) ≤ 8 + 3 * news (words e.update)
    go true =
        let list = written e.update in
        let j = size_joined comma (map decimal list) in
        let l = length-append (text_of_list list) (LF ∷ []) in
        let k = few_written 0 max_variables (words e.update) in
        let s = short_numbers (λ k. mentions k e.update) 0 max_variables (omega arith) in
        omega arith
    go false = omega arith

-- The owner behind a variable: `none`, or the number of an automaton.
abbrev longest_owner : ℕ
longest_owner = 4

owner_width : (f N : ℕ) (o : Option ℕ) → N ≤ max_automata → LawfulOwner f N o → length (text_of_owner o) ≤ longest_owner
unfolding text_of_owner none_word
owner_width f N none n h = omega arith
owner_width f N (some k) n h = let b = h.below k refl in let d = decimal_width 1 k (omega arith) in omega arith

owner_size : (f : ℕ) (x : Range) (o : Option ℕ) → length (text_of_owner o) ≤ longest_owner → length (behind_text (behind f (variable_line x o)) (variable_line x o)) ≤ 7 + longest_owner
unfolding behind behind_text owner_key owner_said
owner_size f x o h = go (leb owners_format f)
  where
    go : (b : Bool) → length (behind_text (elim b [ true ↦ S.owner | false ↦ S.nothing ]) (variable_line x o)) ≤ 7 + longest_owner
    go true = let l = length-append (text_of_owner o) (LF ∷ []) in omega arith
    go false = omega arith

-- a list that rises to A takes at most 2 bytes for each number up to 9, and 3 for each from 10 on
digits : (k : ℕ) → k ≤ max_actions → (length (decimal k) ≤ 2) × (length (decimal k) ≤ 1 + (k - 9))
digits k h = (two, ⊎_elim (λ (l : k < 10). let d = decimal_width 0 k l in omega arith) (λ (l : 10 ≤ k). omega (arith, two)) (split k 10))
  where
    two : length (decimal k) ≤ 2
    two = decimal_width 1 k (omega arith)

rising_size : (A last : ℕ) (list : List ℕ) → A ≤ max_actions → last ≤ A → rises A last list ≡ true → 2 * last + (last - 9) + size (map decimal list) ≤ 2 * A + (A - 9)
unfolding rises
rising_size A last [] a l h = omega arith
rising_size A last (k ∷ ks) a l h = go (ltb last k && leb k A) refl h (λ i j. rising_size A k ks a i j)
  where
    go : (t : Bool) → (ltb last k && leb k A) ≡ t → elim t [ true ↦ rises A k ks | false ↦ false ] ≡ true → (k ≤ A → rises A k ks ≡ true → 2 * k + (k - 9) + size (map decimal ks) ≤ 2 * A + (A - 9)) → 2 * last + (last - 9) + size (map decimal (k ∷ ks)) ≤ 2 * A + (A - 9)
    go true e h ih =
        let g = simp and-eq-true_iff at e in
        let i = ltb-true last k g.0 in
        let j = leb-true k A g.1 in
        let d = digits k (omega arith) in
        omega (arith, d.0, d.1, ih j h)
    go false e h ih = absurd (true≢false (sym h))

list_size : (A : ℕ) (list : List ℕ) → A ≤ max_actions → rises A 0 list ≡ true → length (text_of_list list) ≤ 179
unfolding text_of_list
list_size A list a h = omega (arith, rising_size A 0 list a (omega arith) h, size_joined comma (map decimal list))

-- A node of the tree takes at most 184 bytes, with the space before it and without the P of an `ini`; of a leaf with the
-- `par` that it needs, 360 are left. (All fourfold, as the bytes of a P are.)
nodes_size : (A : ℕ) (c : Tree) → A ≤ max_actions → tree_rises A c ≡ true → tree_in_range c ≡ true → 4 * size (flat_map spelled_node (nodes c)) + 1440 * length (leaves c) ≤ 736 * length (nodes c) + 720 + 39 * start_nodes c
unfolding tree_rises tree_in_range nodes leaves flat_map spelled_node starts start_nodes
nodes_size A (par c d) a h r =
    let g = simp and-eq-true_iff at h in
    let k = simp and-eq-true_iff at r in
    let p = nodes_size A c a g.0 k.0 in
    let q = nodes_size A d a g.1 k.1 in
    let e = size_append (flat_map spelled_node (nodes c)) (flat_map spelled_node (nodes d)) in
    let n = length-append (nodes c) (nodes d) in
    let l = length-append (leaves c) (leaves d) in
    let s = ap (length {A = Word}) (flat_append words (starts c) (starts d)) ∙ length-append (flat_map words (starts c)) (flat_map words (starts d)) in
    rw (flat_append spelled_node (nodes c) (nodes d)) (omega arith)
nodes_size A (syn list c) a h r =
    let g = simp and-eq-true_iff at h in
    let k = simp and-eq-true_iff at r in
    let l = list_size A list a g.0 in
    let ih = nodes_size A c a g.1 k.1 in
    omega arith
nodes_size A (ini p c) a h r =
    let k = simp and-eq-true_iff at r in
    let e = size_append (flat_map spelled (words p)) (flat_map spelled_node (nodes c)) in
    let l = length-append (words p) (flat_map words (starts c)) in
    let ih = nodes_size A c a h k.1 in
    omega (arith, pred_cost p k.0)
nodes_size A (leaf k) a h r = let l = leb-true k _ r in let d = decimal_width 1 k (omega arith) in omega arith

count_length : (n count : ℕ) → length (count_up n count) ≡ count
unfolding count_up
count_length n zero = refl
count_length n (suc count) = ap suc (count_length (suc n) count)

tree_size_lem : (A N : ℕ) (c : Tree) → A ≤ max_actions → N ≤ max_automata → LawfulTree A N c → ((p : Pred) → Memᴰ p (starts c) → every in_range (words p) ≡ true) → 4 * length (text_of_tree c) + 1440 * N ≤ 736 * tree_size c + 720 + 39 * start_nodes c
unfolding text_of_tree tree_size
tree_size_lem A N c a n h s =
    let w = nodes_size A c a h.lists (tree_ranged A N c a n h s) in
    omega (arith, w, size_joined space (flat_map spelled_node (nodes c)), ap (length {A = ℕ}) h.in_order, count_length 0 N)

-- an entry: its line, which is its key, its value and LF; and the line behind it
module _ (f : ℕ) where
  entry_size : (e : Entry) → length (entry_text f e) ≡ suc (length (spelling (key_of e)) + length (value_text e)) + length (behind_text (behind f e) e)
  unfolding entry_text line_text
  entry_size e =
      let p = length-append (spelling (key_of e)) (value_text e ++ LF ∷ []) in
      let q = length-append (value_text e) (LF ∷ []) in
      let r = length-append (line_text e) (behind_text (behind f e) e) in
      omega arith

  abbrev total : List Entry → ℕ
  total [] = 0
  total (e ∷ es) = length (entry_text f e) + total es

  total_is : (es : List Entry) → length (flat_map (entry_text f) es) ≡ total es
  unfolding flat_map
  total_is [] = refl
  total_is (e ∷ es) = let ih = total_is es in let p = length-append (entry_text f e) (flat_map (entry_text f) es) in omega arith

  total_append : (a b : List Entry) → total (a ++ b) ≡ total a + total b
  total_append [] b = omega arith
  total_append (e ∷ a) b = let ih = total_append a b in omega arith

  -- the lines of some variables, locations and edges
  variable_size : (x : Range) (o : Option ℕ) → LawfulRange x → length (text_of_owner o) ≤ longest_owner → length (entry_text f (variable_line x o)) ≤ 18 + 2 * longest_number + longest_owner
  unfolding value_text key_of spelling
  variable_size x o r h =
      let e = entry_size (variable_line x o) in
      let j = size_joined comma (signed x.low ∷ signed x.high ∷ []) in
      omega (arith, signed_width x.low r.low, signed_width x.high r.high, owner_size f x o h)

  variables_total : (N : ℕ) → N ≤ max_automata → (xs : List Range) (os : List (Option ℕ)) → ((x : Range) → Memᴰ x xs → LawfulRange x) → ((o : Option ℕ) → Memᴰ o os → LawfulOwner f N o)
      → total (variable_lines xs os) ≤ (18 + 2 * longest_number + longest_owner) * length xs
  unfolding variable_lines text_of_owner none_word
  variables_total N n [] os h k = omega arith
  variables_total N n (x ∷ xs) [] h k =
      omega (arith, variable_size x none (h x (Memᴰ.head refl)) (omega arith), variables_total N n xs [] (λ y m. h y (Memᴰ.tail m)) k)
  variables_total N n (x ∷ xs) (o ∷ os) h k =
      let w = owner_width f N o n (k o (Memᴰ.head refl)) in
      omega (arith, variable_size x o (h x (Memᴰ.head refl)) w, variables_total N n xs os (λ y m. h y (Memᴰ.tail m)) (λ p m. k p (Memᴰ.tail m)))

  module _ (vs : List Range) where
    locations_total : (xs : List Location) → ((l : Location) → Memᴰ l xs → LawfulLocation vs l) → 4 * total (flat_map location_lines xs) ≤ 18 * length xs + 39 * sum (map location_nodes xs)
    unfolding value_text key_of spelling flat_map location_lines sum location_nodes behind behind_text
    locations_total [] h = omega arith
    locations_total (x ∷ xs) h =
        let l = h x (Memᴰ.head refl) in
        let e₁ = entry_size (init_line x.init) in
        let e₂ = entry_size (inv_line x.inv) in
        let p = pred_size x.init l.init.ranged in
        let q = pred_size x.inv l.inv.ranged in
        let ih = locations_total xs (λ y m. h y (Memᴰ.tail m)) in
        omega arith

    edges_total : (A L : ℕ) → A ≤ max_actions → L ≤ max_locations → (xs : List Edge) → ((e : Edge) → Memᴰ e xs → LawfulEdge vs A L e) → 4 * total (map edge_line xs) ≤ 79 * length xs + 39 * sum (map (λ e. node_count e.update) xs)
    unfolding value_text key_of spelling sum
    edges_total A L a l [] h = omega arith
    edges_total A L a l (x ∷ xs) h =
        let g = h x (Memᴰ.head refl) in
        let e = entry_size (edge_line x) in
        let j = size_joined comma (decimal x.from ∷ decimal x.action ∷ decimal x.to ∷ text_of_pred x.update ∷ []) in
        let p = pred_size x.update g.update.ranged in
        let w = writes_size f x in
        let d₁ = decimal_width 1 x.from (omega arith) in
        let d₂ = decimal_width 1 x.action (omega arith) in
        let d₃ = decimal_width 1 x.to (omega arith) in
        let ih = edges_total A L a l xs (λ y m. h y (Memᴰ.tail m)) in
        omega arith

    automaton_total : (A : ℕ) → A ≤ max_actions → (x : Automaton) → LawfulAutomaton vs A x → length x.edges ≤ max_edges → 4 * total (automaton_lines x) ≤ 1408 + 79 * length x.edges + 39 * automaton_nodes x
    unfolding value_text key_of spelling automaton_lines automaton_nodes behind behind_text
    automaton_total A a x h n =
        let e₁ = entry_size (sync_line x.sync) in
        let l = list_size A x.sync a h.sync in
        let e₂ = entry_size (locations_line (length x.locations)) in
        let d₂ = decimal_width 1 (length x.locations) (omega arith) in
        let e₃ = entry_size (edges_line (length x.edges)) in
        let d₃ = decimal_width 2 (length x.edges) (omega arith) in
        let p = locations_total x.locations h.locations in
        let q = edges_total A (length x.locations) a h.few_locations x.edges h.edges in
        let j = total_append (flat_map location_lines x.locations) (edges_line (length x.edges) ∷ map edge_line x.edges) in
        omega arith

    automata_total : (A : ℕ) → A ≤ max_actions → (xs : List Automaton) → ((x : Automaton) → Memᴰ x xs → LawfulAutomaton vs A x) → edge_total xs ≤ max_edges → 4 * total (flat_map automaton_lines xs) ≤ 1408 * length xs + 79 * edge_total xs + 39 * node_total xs
    unfolding flat_map edge_total node_total sum
    automata_total A a [] h n = omega arith
    automata_total A a (x ∷ xs) h n =
        let p = automaton_total A a x (h x (Memᴰ.head refl)) (omega arith) in
        let ih = automata_total A a xs (λ y m. h y (Memᴰ.tail m)) (omega arith) in
        let j = total_append (automaton_lines x) (flat_map automaton_lines xs) in
        omega arith

text_size : (m : Model) → Lawful m → length (text_of m) ≤ 64162
unfolding text_of lines value_text key_of spelling behind behind_text
text_size m h =
    let f = m.format in
    let e₁ = entry_size f (format_line m.format) in
    let d₁ = decimal_width 0 m.format (omega arith) in
    let e₂ = entry_size f (actions_line m.actions) in
    let d₂ = decimal_width 1 m.actions (omega arith) in
    let e₃ = entry_size f (variables_line (length m.variables)) in
    let d₃ = decimal_width 1 (length m.variables) (omega arith) in
    let e₄ = entry_size f (automata_line (length m.automata)) in
    let d₄ = decimal_width 1 (length m.automata) (omega arith) in
    let e₅ = entry_size f (compose_line m.tree) in
    let d₅ = tree_size_lem m.actions (length m.automata) m.tree h.few_actions h.few_automata h.tree (λ p i. (h.starts p i).pred.ranged) in
    let p = variables_total f (length m.automata) h.few_automata m.variables m.owners h.ranges h.owners in
    let q = automata_total f m.variables m.actions h.few_actions m.automata h.automata h.few_edges in
    let j = total_append f (variable_lines m.variables m.owners) (automata_line (length m.automata) ∷ (flat_map automaton_lines m.automata ++ (compose_line m.tree ∷ []))) in
    let k = total_append f (flat_map automaton_lines m.automata) (compose_line m.tree ∷ []) in
    let i = total_is f (lines m) in
    omega arith

pub text_fits : (m : Model) → Lawful m → length (text_of m) ≤ max_bytes
text_fits m h = omega (arith, text_size m h)
