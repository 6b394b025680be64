-- Each way out of the code of src/tree.rt.
use Prim.Native.Nat.{ℕ, zero, suc, ◌+◌, ◌-◌, ◌≤◌, ◌<◌}
use mathlib.Core.Path.{◌≡◌, refl, sym, ◌∙◌, ap}
use mathlib.Core.Bool.{Bool, true, false, not, ◌&&◌}
use mathlib.Core.List.{List, [], ◌∷◌, ◌++◌, map, append_assoc, append-nil}
use native.Mathlib.Omega.{arith}
use native.Mathlib.Numerals.{add-one}
use borrow.Author.Tests.{ne_eqb}
use lib.ListN.{get_or, drop}
use lib.Seq.{get_or-drop}
use lib.Dec.{eqb}
use Rattle.model.specs.Basic.{keep, count_up}
use Rattle.model.specs.Table.{bit}
use Rattle.model.proofs.Lists.{keep_append, count_last}
use Rattle.format.specs.Bytes.{Bytes, joined, space, comma}
use Rattle.format.specs.Number.{decimal}
use Rattle.format.specs.Spelling.{text_of_list}
use Rattle.table_tree.specs.Sets.{one_word}
use Rattle.table_tree.proofs.SetLaws.{set_of_one}
use Rattle.table_places.specs.Outline.{reach, nodes_place, after_predicate}
use Rattle.write_words.specs.declared.growing.Text.{Text}
use Rattle.write_words.specs.Growing.{Grew, between}
use Rattle.write_words.specs.NodeText.{predicate_text, member_text, members_text, set_text, is_ini, over_text, node_by, node_text, size_by, node_size, starts_after, node_texts}
use Rattle.write_words.proofs.GrowingLaws.{grew_none, grew_then}
use Rattle.table_places.proofs.OutlineLaws.{reach_drop}
use Rattle.write_words.proofs.JoinLaws.{is_none, joined_snoc, map-append}

-- `member`
module _ (is_in first : Bool) (k : ℕ) (old : Text) where
  pub member_out : is_in ≡ false → Grew (member_text is_in first k) old old
  unfolding member_text
  member_out h = rw h (grew_none old)

  pub member_in : is_in ≡ true → (mid new : Text) → Grew (between first (44 ∷ [])) old mid → Grew (decimal k) mid new → Grew (member_text is_in first k) old new
  unfolding member_text
  member_in h mid new g i = rw h (grew_then (between first (44 ∷ [])) (decimal k) old mid new g i)

-- the numbers below k that are in a set of one word
abbrev pub members_below : (both k : ℕ) → List ℕ
members_below both k = keep (bit both) (count_up 0 k)

-- one more number
below_more : (both k : ℕ) → members_below both (k + 1) ≡ members_below both k ++ keep (bit both) (k ∷ [])
below_more both k =
    let e : count_up 0 (k + 1) ≡ count_up 0 k ++ k ∷ [] = rw (add-one k) (count_last 0 k ∙ ap (λ (x : ℕ). count_up 0 k ++ x ∷ []) (omega arith)) in
    ap (keep (bit both)) e ∙ keep_append (bit both) (count_up 0 k) (k ∷ [])

none_kept : {A : Type 0} (xs ys : List A) → is_none (xs ++ ys) ≡ (is_none xs && is_none ys)
unfolding is_none
none_kept [] ys = refl
none_kept (x ∷ xs) ys = refl

module _ (both k : ℕ) where
  below_in : bit both k ≡ true → members_below both (k + 1) ≡ members_below both k ++ k ∷ []
  unfolding keep
  below_in e = below_more both k ∙ ap (λ (b : Bool). members_below both k ++ elim b [ true ↦ k ∷ [] | false ↦ [] ]) e

  below_out : bit both k ≡ false → members_below both (k + 1) ≡ members_below both k
  unfolding keep
  below_out e = below_more both k ∙ ap (λ (b : Bool). members_below both k ++ elim b [ true ↦ k ∷ [] | false ↦ [] ]) e ∙ append-nil (members_below both k)

text_more : (list : List ℕ) (k : ℕ) → text_of_list (list ++ k ∷ []) ≡ text_of_list list ++ (between (is_none list) (comma ∷ []) ++ decimal k)
unfolding text_of_list
text_more list k =
    ap (joined comma) (map-append decimal list (k ∷ [])) ∙
    joined_snoc comma (map decimal list) (decimal k) ∙
    ap (λ (b : Bool). joined comma (map decimal list) ++ between b (comma ∷ []) ++ decimal k) (same list) ∙
    append_assoc (joined comma (map decimal list)) (between (is_none list) (comma ∷ [])) (decimal k)
  where
    same : (l : List ℕ) → is_none (map decimal l) ≡ is_none l
    same [] = unfold is_none in refl
    same (x ∷ l) = unfold is_none in refl

-- what is written for it
below_text : (both k : ℕ) (b : Bool) → bit both k ≡ b → text_of_list (members_below both (k + 1)) ≡ text_of_list (members_below both k) ++ member_text b (is_none (members_below both k)) k
unfolding member_text
below_text both k true e = ap text_of_list (below_in both k e) ∙ text_more (members_below both k) k
below_text both k false e = ap text_of_list (below_out both k e) ∙ sym (append-nil (text_of_list (members_below both k)))

below_none : (both k : ℕ) (b : Bool) → bit both k ≡ b → is_none (members_below both (k + 1)) ≡ (is_none (members_below both k) && not b)
unfolding is_none
below_none both k true e = ap is_none (below_in both k e) ∙ none_kept (members_below both k) (k ∷ [])
below_none both k false e = ap is_none (below_out both k e) ∙ go (is_none (members_below both k))
  where
    go : (b : Bool) → b ≡ (b && true)
    go true = refl
    go false = refl

-- the turns of `members`
module _ (both : ℕ) (old : Text) where
  pub members_none : Grew (text_of_list (members_below both 0)) old old
  unfolding text_of_list count_up keep joined
  members_none = grew_none old

  pub members_first : true ≡ is_none (members_below both 0)
  unfolding is_none count_up keep
  members_first = refl

  module _ (k : ℕ) (is_in first : Bool) (e : is_in ≡ bit both k) (f : first ≡ is_none (members_below both k)) where
    pub members_on : (cur new : Text) → Grew (text_of_list (members_below both k)) old cur → Grew (member_text is_in first k) cur new → Grew (text_of_list (members_below both (k + 1))) old new
    members_on cur new inv g =
        rw (below_text both k is_in (sym e), ← f) (grew_then (text_of_list (members_below both k)) (member_text is_in first k) old cur new inv g)

    pub members_later : (first && not is_in) ≡ is_none (members_below both (k + 1))
    members_later = rw f (sym (below_none both k is_in (sym e)))

  pub members_all : (k : ℕ) → k ≤ 64 → 64 ≤ k → (cur : Text) → Grew (text_of_list (members_below both k)) old cur → Grew (members_text both) old cur
  unfolding members_text
  members_all k h i cur inv =
      let z : k ≡ 64 = omega arith in
      rw z at inv

-- `set`
pub set_is : (low high both : ℕ) → low < 4294967296 → high < 4294967296 → both ≡ one_word low high → (old new : Text) → Grew (members_text both) old new → Grew (set_text low high) old new
unfolding members_text
set_is low high both l u e old new g = rw (set_of_one low high l u both e) g

-- past the predicate at a place
past_predicate : (t : List ℕ) (at : ℕ) → drop (after_predicate t at) t ≡ drop (get_or (drop at t) 0 0) (drop 1 (drop at t))
unfolding after_predicate nodes_place
past_predicate t at =
    let none : at + 0 ≡ at = omega arith in
    let n : get_or t at 0 ≡ get_or (drop at t) 0 0 = ap (λ (k : ℕ). get_or t k 0) (sym none) ∙ sym (get_or-drop at t 0 0) in
    reach_drop t (reach t at 1) (get_or t at 0) ∙ rw n (ap (drop (get_or (drop at t) 0 0)) (reach_drop t at 1))

-- `is_ini`, by the words, and `over` and `after` by the answer
pub ini_is : (ws : List ℕ) (w a b : ℕ) → a ≡ get_or ws 1 0 → b ≡ get_or ws 2 0 → w ≡ get_or ws 0 0 → (eqb w 1 && (eqb a 0 && eqb b 0)) ≡ is_ini ws
unfolding is_ini
ini_is ws w a b e f g = rw (e, f, g)

module _ (ws ps : List ℕ) (b : Bool) (e : b ≡ is_ini ws) where
  module _ (old mid new : Text) where
    pub over_ini : b ≡ true → Grew (105 ∷ 110 ∷ 105 ∷ 32 ∷ []) old mid → Grew (predicate_text ps) mid new → Grew (over_text (is_ini ws) ws ps) old new
    unfolding over_text
    over_ini z g h = rw (← e, z) (grew_then (105 ∷ 110 ∷ 105 ∷ 32 ∷ []) (predicate_text ps) old mid new g h)

    pub over_syn : b ≡ false → (x y : ℕ) → x ≡ get_or ws 1 0 → y ≡ get_or ws 2 0 → Grew (115 ∷ 121 ∷ 110 ∷ 32 ∷ []) old mid → Grew (set_text x y) mid new
        → Grew (over_text (is_ini ws) ws ps) old new
    unfolding over_text
    over_syn z x y f k g h = rw (← e, z, ← f, ← k) (grew_then (115 ∷ 121 ∷ 110 ∷ 32 ∷ []) (set_text x y) old mid new g h)

  pub after_ini : b ≡ true → (at r : ℕ) → r ≡ after_predicate ps at → drop r ps ≡ starts_after (is_ini ws) (drop at ps)
  unfolding starts_after
  after_ini z at r f = rw (← e, z) (ap (λ (n : ℕ). drop n ps) f ∙ past_predicate ps at)

  pub after_other : b ≡ false → (at : ℕ) → drop at ps ≡ starts_after (is_ini ws) (drop at ps)
  unfolding starts_after
  after_other z at = rw (← e, z)

-- `node` and `size`, by the first word
module _ (ws ps : List ℕ) (w : ℕ) (e : w ≡ get_or ws 0 0) (old new : Text) where
  pub node_par : w ≡ 0 → Grew (112 ∷ 97 ∷ 114 ∷ []) old new → Grew (node_text ws ps) old new
  unfolding node_text node_by
  node_par z g = rw (← e, z) g

  pub node_over : w ≡ 1 → Grew (over_text (is_ini ws) ws ps) old new → Grew (node_text ws ps) old new
  unfolding node_text node_by
  node_over z g = rw (← e, z) g

  pub node_leaf : (w ≡ 0 → ⊥) → (w ≡ 1 → ⊥) → (mid : Text) → Grew (97 ∷ []) old mid → Grew (decimal (w - 2)) mid new → Grew (node_text ws ps) old new
  unfolding node_text
  node_leaf y z mid g h =
      let s : w ≡ suc (suc (w - 2)) = omega arith in
      rw (← e, s) (unfold node_by in grew_then (97 ∷ []) (decimal (w - 2)) old mid new g h)

module _ (ws : List ℕ) (w : ℕ) (e : w ≡ get_or ws 0 0) where
  pub size_syn : w ≡ 1 → 3 ≡ node_size ws
  unfolding node_size size_by
  size_syn z = rw (← e, z)

  pub size_other : (w ≡ 1 → ⊥) → 1 ≡ node_size ws
  unfolding node_size
  size_other y = rw (← e) (go w y)
    where
      go : (n : ℕ) → (n ≡ 1 → ⊥) → 1 ≡ size_by n
      go zero u = unfold size_by in refl
      go (suc zero) u = absurd (u refl)
      go (suc (suc n)) u = unfold size_by in refl

-- the words after n nodes, and the P's after those of n nodes
unfoldable pub after_nodes : ℕ → List ℕ → List ℕ
after_nodes zero ws = ws
after_nodes (suc n) ws = after_nodes n (drop (node_size ws) ws)

unfoldable pub after_starts : ℕ → (ws ps : List ℕ) → List ℕ
after_starts zero ws ps = ps
after_starts (suc n) ws ps = after_starts n (drop (node_size ws) ws) (starts_after (is_ini ws) ps)

after_more : (n : ℕ) (ws : List ℕ) → after_nodes (suc n) ws ≡ drop (node_size (after_nodes n ws)) (after_nodes n ws)
unfolding after_nodes
after_more zero ws = refl
after_more (suc n) ws = after_more n (drop (node_size ws) ws)

starts_more : (n : ℕ) (ws ps : List ℕ) → after_starts (suc n) ws ps ≡ starts_after (is_ini (after_nodes n ws)) (after_starts n ws ps)
unfolding after_nodes after_starts
starts_more zero ws ps = refl
starts_more (suc n) ws ps = starts_more n (drop (node_size ws) ws) (starts_after (is_ini ws) ps)

texts_more : (n : ℕ) (ws ps : List ℕ) → node_texts (suc n) ws ps ≡ node_texts n ws ps ++ node_text (after_nodes n ws) (after_starts n ws ps) ∷ []
unfolding after_nodes after_starts node_texts
texts_more zero ws ps = refl
texts_more (suc n) ws ps = ap (λ (l : List Bytes). node_text ws ps ∷ l) (texts_more n (drop (node_size ws) ws) (starts_after (is_ini ws) ps))

texts_none : (n : ℕ) (ws ps : List ℕ) → is_none (node_texts n ws ps) ≡ eqb n 0
unfolding node_texts is_none
texts_none zero ws ps = refl
texts_none (suc n) ws ps = sym (ne_eqb (suc n) 0 (λ e. omega arith))

-- after n nodes: their texts are written, the words after them stand from `next` on, and the P's from `start` on
pub record Walked (ws ps : List ℕ) (old : Text) (n next start : ℕ) (cur : Text) : Type 0 where
  pub nodes : drop next ws ≡ after_nodes n ws
  pub starts : drop start ps ≡ after_starts n ws ps
  pub text : Grew (joined space (node_texts n ws ps)) old cur

-- the turns of `nodes`
module _ (ws ps : List ℕ) (old : Text) where
  pub nodes_first : Walked ws ps old 0 0 0 old
  unfolding node_texts joined after_nodes after_starts
  nodes_first = record { nodes = refl; starts = refl; text = grew_none old }

  module _ (i next start : ℕ) (cur : Text) (w : Walked ws ps old i next start cur) where
    pub nodes_all : (n : ℕ) → i ≤ n → n ≤ i → Grew (joined space (node_texts n ws ps)) old cur
    nodes_all n h k = let z : i ≡ n = omega arith in rw z at w.text

    pub nodes_on : (here p : List ℕ) → here ≡ drop next ws → p ≡ drop start ps → (mid new : Text)
        → Grew (between (eqb i 0) (32 ∷ [])) cur mid → Grew (node_text here p) mid new
        → (s then later : ℕ) → s ≡ node_size here → then ≡ reach ws next s → drop later ps ≡ starts_after (is_ini here) (drop start ps) → Walked ws ps old (i + 1) then later new
    nodes_on here p e f mid new g k s then later z r l =
        let h = grew_then (joined space (node_texts i ws ps)) (between (eqb i 0) (32 ∷ [])) old cur mid w.text g in
        let n : after_nodes i ws ≡ here = sym w.nodes ∙ sym e in
        let m : after_starts i ws ps ≡ p = sym w.starts ∙ sym f in
        record {
          nodes = rw (r, add-one i, after_more i ws, ← w.nodes, z, e) (reach_drop ws next (node_size (drop next ws)));
          starts = rw (add-one i, starts_more i ws ps, ← w.nodes, ← e, ← w.starts) l;
          text =
              rw (add-one i, texts_more i ws ps, n, m, joined_snoc space (node_texts i ws ps) (node_text here p), texts_none i ws ps)
              (grew_then (joined space (node_texts i ws ps) ++ between (eqb i 0) (32 ∷ [])) (node_text here p) old mid new h k);
        }

pub ruleset nodes_laws = (nodes_first, nodes_all, nodes_on)

pub ruleset tree_laws = (
  member_out,
  member_in,
  members_none,
  members_first,
  members_on,
  members_later,
  members_all,
  set_is,
  ini_is,
  over_ini,
  over_syn,
  after_ini,
  after_other,
  node_par,
  node_over,
  node_leaf,
  size_syn,
  size_other,
)
