-- On the words of a predicate the depth read is the predicate's, so the tests of depth are row 33's.
use mathlib.Core.Path.{◌≡◌, refl, sym, ap, ◌∙◌}
use mathlib.Core.Bool.{Bool, true, false}
use mathlib.Core.List.{List, [], ◌∷◌, ◌++◌, append_assoc, map, map-append}
use Prim.Native.Nat.{ℕ, zero, suc, max, ◌+◌, ◌≤◌, ◌<◌}
use native.Mathlib.Omega.{arith}
use lib.ListN.{get_or, drop}
use lib.Dec.{ltb}
use borrow.Author.Tests.{ltb-true, ltb-false}
use Rattle.model.specs.Basic.{every}
use Rattle.model.specs.Bounds.{max_depth}
use Rattle.model.specs.Predicate.{Pred, Preds, Expr, all, any, negate, imp, eq, le, none, more, num, old, new, add, sub, mul, choose, Word, all_of, any_of, not_word, imp_word, eq_word, le_word, num_word, old_word, new_word, add_word, sub_word, mul_word, if_word, words, words_all, words_of, operands, depth, depth_all, depth_of, Range}
use Rattle.model.specs.Limits.{in_range}
use Rattle.model.specs.Lawful.{LawfulPred}
use Rattle.model.specs.Table.{code, word_of, pred_words}
use Rattle.model.proofs.Decode.{words_back}
use Rattle.table_places.specs.Outline.{reach, nodes_place}
use Rattle.table_places.proofs.OutlineLaws.{read, reached, nodes_stand}
use Rattle.merge_predicates.specs.declared.depth.Depth.{Depth}
use Rattle.merge_append.specs.NodeWords.{most, capped}
use Rattle.merge_predicates.specs.Depths.{arity, operands_of, greater, deepest, depth_at, is_deeper}
use Rattle.merge_append.proofs.NodeLaws.{capped_is}

-- a predicate whose words say it, at most as deep as it may be
pub record Readable (p : Pred) : Type 0 where
  pub shallow : depth p ≤ max_depth
  pub ranged : every in_range (words p) ≡ true

pub readable : {declared : List Range} (p : Pred) → LawfulPred declared p → Readable p
readable p h = record { shallow = h.shallow; ranged = h.ranged }

-- the words from a place on, and the first of them
abbrev onward : List ℕ → ℕ → List Word
onward t at = map word_of (drop at t)

record Begins (t : List ℕ) (at : ℕ) (x : Word) (l : List Word) : Type 0 where
  first : word_of (get_or t at 0) ≡ x
  others : onward t (reach t at 1) ≡ l

begins : (t : List ℕ) (at : ℕ) (x : Word) (l : List Word) → onward t at ≡ x ∷ l → Begins t at x l
begins t at x l e = go (drop at t) refl e
  where
    go : (ws : List ℕ) → drop at t ≡ ws → map word_of ws ≡ x ∷ l → Begins t at x l
    go [] f g = let z : ◌≡◌ {A = ℕ} 0 1 = cc in absurd (omega arith)
    go (w ∷ ws) f g =
        let h : word_of w ≡ x = cc in
        let k : map word_of ws ≡ l = cc in
        record { first = ap word_of (read t at w ws f) ∙ h; others = ap (map word_of) (reached t at 1 (w ∷ []) ws f refl) ∙ k }

greater_is : (a b : ℕ) → greater a b ≡ max a b
unfolding greater
greater_is a b = go (ltb a b) refl
  where
    go : (c : Bool) → ltb a b ≡ c → greater a b ≡ max a b
    go true h = rw (h, greater) (let l = ltb-true a b h in omega arith)
    go false h = rw (h, greater) (let l = ltb-false a b h in omega arith)

module _ (t : List ℕ) where
  -- what was read: a depth, and where the words after it begin
  pub record Reads (d : Depth) (n : ℕ) (rest : List Word) : Type 0 where
    pub depth_is : d.depth ≡ n
    pub next_is : onward t d.next ≡ rest

  retyped : (d : Depth) (n k : ℕ) (rest : List Word) → n ≡ k → Reads d n rest → Reads d k rest
  retyped d n k rest e r = record { depth_is = r.depth_is ∙ e; next_is = r.next_is }

  -- a node, by its operands
  node : (x : Word) (l : List Word) (n at d : ℕ) (rest : List Word) → onward t at ≡ x ∷ l → d < most
      → (onward t (reach t at 1) ≡ l → Reads (deepest (depth_at t n) (arity x) (reach t at 1) 0) d rest) → Reads (depth_at t (suc n) at) (suc d) rest
  unfolding depth_at operands_of
  node x l n at d rest e small f =
      let b = begins t at x l e in
      let k : operands_of (get_or t at 0) ≡ arity x = ap arity b.first in
      let r = f b.others in
      let one : 1 + d ≡ suc d = omega arith in
      let few : suc d ≤ most = omega arith in
      record {
        depth_is = ap (λ j. capped (1 + (deepest (depth_at t n) j (reach t at 1) 0).depth)) k ∙ ap (λ v. capped (1 + v)) r.depth_is ∙ ap capped one ∙ sym (capped_is (suc d) few);
        next_is = ap (λ j. onward t (deepest (depth_at t n) j (reach t at 1) 0).next) k ∙ r.next_is;
      }

  -- no operand, two, three
  leaf_read : (n at : ℕ) (rest : List Word) → onward t at ≡ rest → Reads (deepest (depth_at t n) 0 at 0) 0 rest
  unfolding deepest
  leaf_read n at rest e = record { depth_is = refl; next_is = e }

  deeper_of : (d a x : ℕ) → x ≡ a → greater d x ≡ max d a
  deeper_of d a x e = greater_is d x ∙ ap (max d) e

  one_read : (n at a : ℕ) (rest : List Word) → Reads (depth_at t n at) a rest → Reads (deepest (depth_at t n) 1 at 0) a rest
  unfolding deepest
  one_read n at a rest r = record { depth_is = deeper_of 0 a (depth_at t n at).depth r.depth_is ∙ omega arith; next_is = r.next_is }

  two_read : (n at a b : ℕ) (l rest : List Word) → Reads (depth_at t n at) a l → ((p : ℕ) → onward t p ≡ l → Reads (depth_at t n p) b rest) → Reads (deepest (depth_at t n) 2 at 0) (max a b) rest
  unfolding deepest
  two_read n at a b l rest r f =
      let s = f (depth_at t n at).next r.next_is in
      let first : greater 0 (depth_at t n at).depth ≡ a = deeper_of 0 a (depth_at t n at).depth r.depth_is ∙ omega arith in
      record { depth_is = ap (λ d. greater d (depth_at t n (depth_at t n at).next).depth) first ∙ deeper_of a b _ s.depth_is; next_is = s.next_is }

  three_read : (n at a b c : ℕ) (k l rest : List Word) → Reads (depth_at t n at) a k → ((p : ℕ) → onward t p ≡ k → Reads (depth_at t n p) b l)
      → ((p : ℕ) → onward t p ≡ l → Reads (depth_at t n p) c rest) → Reads (deepest (depth_at t n) 3 at 0) (max a (max b c)) rest
  unfolding deepest
  three_read n at a b c k l rest r f g =
      let s = f (depth_at t n at).next r.next_is in
      let u = g (depth_at t n (depth_at t n at).next).next s.next_is in
      let first : greater 0 (depth_at t n at).depth ≡ a = deeper_of 0 a (depth_at t n at).depth r.depth_is ∙ omega arith in
      let second : greater (greater 0 (depth_at t n at).depth) (depth_at t n (depth_at t n at).next).depth ≡ max a b =
      ap (λ d. greater d (depth_at t n (depth_at t n at).next).depth) first ∙ deeper_of a b _ s.depth_is in
      let whole : max (max a b) c ≡ max a (max b c) = omega arith in
      record {
        depth_is = ap (λ d. greater d (depth_at t n (depth_at t n (depth_at t n at).next).next).depth) second ∙ deeper_of (max a b) c _ u.depth_is ∙ whole;
        next_is = u.next_is;
      }

  -- two operands, by their words
  couple : (wx wy : List Word) (a b n at : ℕ) (rest : List Word) → onward t at ≡ (wx ++ wy) ++ rest
      → (onward t at ≡ wx ++ (wy ++ rest) → Reads (depth_at t n at) a (wy ++ rest))
      → ((p : ℕ) → onward t p ≡ wy ++ rest → Reads (depth_at t n p) b rest) → Reads (deepest (depth_at t n) 2 at 0) (max a b) rest
  couple wx wy a b n at rest e f g = two_read n at a b (wy ++ rest) rest (f (e ∙ append_assoc wx wy rest)) g

  mutual
    unfolding depth depth_all depth_of words words_all words_of operands deepest arity

    pub pred_depth : (p : Pred) (left at : ℕ) (rest : List Word) → depth p ≤ left → left < most → onward t at ≡ words p ++ rest → Reads (depth_at t left at) (depth p) rest
    pred_depth (all ps) zero at rest h f e = absurd (omega arith)
    pred_depth (all ps) (suc n) at rest h f e =
        node (all_of (operands ps)) (words_all ps ++ rest) n at (depth_all ps) rest e (omega arith) (λ q. retyped _ _ _ rest (omega arith) (all_depth ps n (reach t at 1) 0 rest (omega arith) (omega arith) q))
    pred_depth (any ps) zero at rest h f e = absurd (omega arith)
    pred_depth (any ps) (suc n) at rest h f e =
        node (any_of (operands ps)) (words_all ps ++ rest) n at (depth_all ps) rest e (omega arith) (λ q. retyped _ _ _ rest (omega arith) (all_depth ps n (reach t at 1) 0 rest (omega arith) (omega arith) q))
    pred_depth (negate p) zero at rest h f e = absurd (omega arith)
    pred_depth (negate p) (suc n) at rest h f e =
        node not_word (words p ++ rest) n at (depth p) rest e (omega arith) (λ q. one_read n (reach t at 1) (depth p) rest (pred_depth p n (reach t at 1) rest (omega arith) (omega arith) q))
    pred_depth (imp p r) zero at rest h f e = absurd (omega arith)
    pred_depth (imp p r) (suc n) at rest h f e =
        node imp_word ((words p ++ words r) ++ rest) n at (max (depth p) (depth r)) rest e (omega arith)
        (λ q. couple (words p) (words r) (depth p) (depth r) n (reach t at 1) rest q (λ g. pred_depth p n (reach t at 1) _ (omega arith) (omega arith) g) (λ s g. pred_depth r n s rest (omega arith) (omega arith) g))
    pred_depth (eq x y) zero at rest h f e = absurd (omega arith)
    pred_depth (eq x y) (suc n) at rest h f e =
        node eq_word ((words_of x ++ words_of y) ++ rest) n at (max (depth_of x) (depth_of y)) rest e (omega arith) (λ q. couple (words_of x) (words_of y) (depth_of x) (depth_of y) n (reach t at 1) rest q (λ g. expr_depth x n (reach t at 1) _ (omega arith) (omega arith) g) (λ s g. expr_depth y n s rest (omega arith) (omega arith) g))
    pred_depth (le x y) zero at rest h f e = absurd (omega arith)
    pred_depth (le x y) (suc n) at rest h f e =
        node le_word ((words_of x ++ words_of y) ++ rest) n at (max (depth_of x) (depth_of y)) rest e (omega arith) (λ q. couple (words_of x) (words_of y) (depth_of x) (depth_of y) n (reach t at 1) rest q (λ g. expr_depth x n (reach t at 1) _ (omega arith) (omega arith) g) (λ s g. expr_depth y n s rest (omega arith) (omega arith) g))

    all_depth : (ps : Preds) (left at d : ℕ) (rest : List Word) → depth_all ps ≤ left → left < most → onward t at ≡ words_all ps ++ rest
        → Reads (deepest (depth_at t left) (operands ps) at d) (max d (depth_all ps)) rest
    all_depth none left at d rest h f e = record { depth_is = omega arith; next_is = e }
    all_depth (more p ps) left at d rest h f e =
        let r = pred_depth p left at (words_all ps ++ rest) (omega arith) f (e ∙ append_assoc (words p) (words_all ps) rest) in
        let g = deeper_of d (depth p) (depth_at t left at).depth r.depth_is in
        retyped _ _ _ rest (omega (arith, g)) (all_depth ps left (depth_at t left at).next (greater d (depth_at t left at).depth) rest (omega arith) f r.next_is)

    expr_depth : (x : Expr) (left at : ℕ) (rest : List Word) → depth_of x ≤ left → left < most → onward t at ≡ words_of x ++ rest → Reads (depth_at t left at) (depth_of x) rest
    expr_depth (num z) zero at rest h f e = absurd (omega arith)
    expr_depth (num z) (suc n) at rest h f e = node (num_word z) rest n at 0 rest e (omega arith) (λ q. leaf_read n (reach t at 1) rest q)
    expr_depth (old k) zero at rest h f e = absurd (omega arith)
    expr_depth (old k) (suc n) at rest h f e = node (old_word k) rest n at 0 rest e (omega arith) (λ q. leaf_read n (reach t at 1) rest q)
    expr_depth (new k) zero at rest h f e = absurd (omega arith)
    expr_depth (new k) (suc n) at rest h f e = node (new_word k) rest n at 0 rest e (omega arith) (λ q. leaf_read n (reach t at 1) rest q)
    expr_depth (add x y) zero at rest h f e = absurd (omega arith)
    expr_depth (add x y) (suc n) at rest h f e =
        node add_word ((words_of x ++ words_of y) ++ rest) n at (max (depth_of x) (depth_of y)) rest e (omega arith) (λ q. couple (words_of x) (words_of y) (depth_of x) (depth_of y) n (reach t at 1) rest q (λ g. expr_depth x n (reach t at 1) _ (omega arith) (omega arith) g) (λ s g. expr_depth y n s rest (omega arith) (omega arith) g))
    expr_depth (sub x y) zero at rest h f e = absurd (omega arith)
    expr_depth (sub x y) (suc n) at rest h f e =
        node sub_word ((words_of x ++ words_of y) ++ rest) n at (max (depth_of x) (depth_of y)) rest e (omega arith) (λ q. couple (words_of x) (words_of y) (depth_of x) (depth_of y) n (reach t at 1) rest q (λ g. expr_depth x n (reach t at 1) _ (omega arith) (omega arith) g) (λ s g. expr_depth y n s rest (omega arith) (omega arith) g))
    expr_depth (mul x y) zero at rest h f e = absurd (omega arith)
    expr_depth (mul x y) (suc n) at rest h f e =
        node mul_word ((words_of x ++ words_of y) ++ rest) n at (max (depth_of x) (depth_of y)) rest e (omega arith) (λ q. couple (words_of x) (words_of y) (depth_of x) (depth_of y) n (reach t at 1) rest q (λ g. expr_depth x n (reach t at 1) _ (omega arith) (omega arith) g) (λ s g. expr_depth y n s rest (omega arith) (omega arith) g))
    expr_depth (choose p x y) zero at rest h f e = absurd (omega arith)
    expr_depth (choose p x y) (suc n) at rest h f e =
        node if_word ((words p ++ (words_of x ++ words_of y)) ++ rest) n at (max (depth p) (max (depth_of x) (depth_of y))) rest e (omega arith)
        (λ q. three_read n (reach t at 1) (depth p) (depth_of x) (depth_of y) ((words_of x ++ words_of y) ++ rest) (words_of y ++ rest) rest
        (pred_depth p n (reach t at 1) _ (omega arith) (omega arith) (q ∙ append_assoc (words p) (words_of x ++ words_of y) rest))
        (λ s g. expr_depth x n s _ (omega arith) (omega arith) (g ∙ append_assoc (words_of x) (words_of y) rest))
        (λ s g. expr_depth y n s rest (omega arith) (omega arith) g))

  -- the law: the depth read at a predicate's place is the predicate's
  pub depth_of_lem : (p : Pred) (at : ℕ) (rest : List ℕ) → Readable p → drop at t ≡ pred_words p ++ rest → (depth_at t (max_depth + 1) (nodes_place t at)).depth ≡ depth p
  depth_of_lem p at rest h e =
      let l = h.shallow in
      let f = nodes_stand t at p rest e in
      let g : onward t (nodes_place t at) ≡ words p ++ map word_of rest =
      ap (map word_of) f ∙ map-append word_of (map code (words p)) rest ∙ ap (λ (k : List Word). k ++ map word_of rest) (words_back (words p) h.ranged) in
      (pred_depth p 25 (nodes_place t at) (map word_of rest) (omega arith) (omega arith) g).depth_is

  pub deeper_stands : (p : Pred) (limit at : ℕ) (rest : List ℕ) → Readable p → drop at t ≡ pred_words p ++ rest → is_deeper t limit at ≡ ltb limit (depth p)
  unfolding is_deeper
  deeper_stands p limit at rest h e = ap (ltb limit) (depth_of_lem p at rest h e)
