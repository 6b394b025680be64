-- Nodes and the words that hold them.
use mathlib.Core.Path.{◌≡◌, refl, sym, ap, subst, ◌∙◌}
use mathlib.Core.Bool.{Bool, true, false, not, ◌||◌, true≢false}
use mathlib.Core.List.{List, [], ◌∷◌}
use Prim.Native.Nat.{ℕ, suc, ◌+◌, ◌-◌, ◌*◌, ◌%◌, ◌/◌, ◌≤◌, ◌<◌}
use native.Mathlib.Omega.{arith}
use borrow.Author.Tests.{leb-true, leb-false, le-leb, eqb-true, eqb-false}
use native.Mathlib.Nat.{mod-eq_of_lt}
use lib.IntN.{ℤ, pos, negsuc}
use lib.Signed.{le_z}
use lib.Dec.{T, eqb, leb}
use lib.ListN.{get_or}
use denote.Enum.Declared.{tag_of}
use mir.Val.{has_key}
use types.Run.{OneOf, miss}
use Rattle.model.specs.Basic.{between}
use Rattle.model.specs.Bounds.{bias, first_number_word, least_number, greatest_number, max_operands, last_variable, last_biased}
use Rattle.model.specs.Predicate.{Word, all_of, any_of, not_word, imp_word, eq_word, le_word, num_word, old_word, new_word, add_word, sub_word, mul_word, if_word, stray}
use Rattle.model.specs.Limits.{in_range}
use Rattle.model.specs.Table.{biased, unbiased, node_word, kind_of, argument_of, code, kinds, word_of}
use Rattle.model.proofs.Tests.{and_right}
use Rattle.model.proofs.Decode.{number_back}
use Rattle.model.proofs.WordKinds.{Each, number_of_lem, word_of_lem, each_word, kind_from}
use Rattle.node_words.specs.declared.Node.{Node}
use Rattle.node_words.specs.declared.Node.TheVariants.{All, Any, Not, Imp, Eq, Le, Number, Old, New, Add, Sub, Mul, If, Stray}
use Rattle.node_words.specs.contracts.Node.{the_type}
use Rattle.node_words.specs.Nodes.{meant, node_for, node_of, room, number_room, fitted, word_for}

-- the bias, put back
pub biased_unbiased : (n : ℕ) → biased (unbiased n) ≡ n
unfolding biased unbiased
biased_unbiased n = go (leb bias n) refl
  where
    go : (t : Bool) → leb bias n ≡ t → biased (elim t [ true ↦ pos (n - bias) | false ↦ negsuc (bias - suc n) ]) ≡ n
    go true e = let l = leb-true bias n e in omega arith
    go false e = let l = leb-false bias n e in omega arith

-- a number from 0 up
pub unbiased_up : (z : ℕ) → unbiased (bias + z) ≡ pos z
unfolding unbiased
unbiased_up z = rw (le-leb bias (bias + z) (omega arith), unbiased) (ap pos (omega arith))

-- the numbers in range are those that are at most `last_biased` with the bias
leb_same : (k l m n : ℕ) → (k ≤ l → m ≤ n) → (m ≤ n → k ≤ l) → leb k l ≡ leb m n
leb_same k l m n to from = go (leb k l) refl (leb m n) refl
  where
    go : (t : Bool) → leb k l ≡ t → (u : Bool) → leb m n ≡ u → leb k l ≡ leb m n
    go true e u f = e ∙ sym (le-leb m n (to (leb-true k l e)))
    go false e true f = let g = leb-false k l e in let h = from (leb-true m n f) in absurd (omega arith)
    go false e false f = e ∙ sym f

pub number_span : (n : ℕ) → leb n last_biased ≡ between least_number greatest_number (unbiased n)
unfolding between unbiased
number_span n = go (leb bias n) refl
  where
    go : (t : Bool) → leb bias n ≡ t → leb n last_biased ≡ between least_number greatest_number (elim t [ true ↦ pos (n - bias) | false ↦ negsuc (bias - suc n) ])
    go true e = let l = leb-true bias n e in leb_same n last_biased (n - bias) 1000000000 (λ h. omega arith) (λ h. omega arith)
    go false e =
        let l = leb-false bias n e in
        le-leb n last_biased (omega arith) ∙ sym (rw (le-leb (bias - suc n) 999999999 (omega arith)))

-- a number in range, with the bias
pub biased_small : (z : ℤ) → between least_number greatest_number z ≡ true → biased z ≤ last_biased
unfolding between biased
biased_small (pos n) h = omega (arith, leb-true n 1000000000 (and_right (le_z least_number (pos n)) (le_z (pos n) greatest_number) h))
biased_small (negsuc n) h = omega arith

-- the node that a word holds stands for the word
pub meant_of : (w : ℕ) → meant (node_of w) ≡ word_of w
unfolding meant node_for node_of kinds
meant_of w =
    let number = ap (λ (n : ℕ). num_word (unbiased n)) (biased_unbiased (w - first_number_word)) in
    each_word (λ (x : Word). meant (node_for x) ≡ x) w (λ h. number)
    (λ h. (refl, (refl, (refl, (refl, (refl, (refl, (refl, (refl, (refl, (refl, (refl, (refl, (refl, refl))))))))))))))

-- so a word is known by its node
pub word_by : (w : ℕ) (n m : Node) → n ≡ node_of w → n ≡ m → word_of w ≡ meant m
word_by w n m e h = sym (meant_of w) ∙ ap meant (sym e ∙ h)

-- In the arm `_` of a `match` the node's tag is known to be one of those that have no arm of their own. So what holds of
-- these nodes holds of the node.
abbrev tags : List Node → List ℕ
tags [] = []
tags (n ∷ ns) = tag_of the_type n ∷ tags ns

abbrev without : List ℕ → List ℕ → List ℕ
without but [] = []
without but (t ∷ ts) = elim (has_key but t) [ true ↦ without but ts | false ↦ t ∷ without but ts ]

abbrev pub others : List Node → List ℕ
others but = without (tags but) (tags (All 0 ∷ Any 0 ∷ Not ∷ Imp ∷ Eq ∷ Le ∷ Number 0 ∷ Old 0 ∷ New 0 ∷ Add ∷ Sub ∷ Mul ∷ If ∷ Stray ∷ []))

abbrev pub Other : List Node → Node → Type 0
Other but n = OneOf (others but) (tag_of the_type n)

-- nothing is asked at the tags of those with an arm
abbrev unless : List ℕ → ℕ → Type 0 → Type 0
unless but t A = elim (has_key but t) as (λ b. Type 0) [ true ↦ Unit | false ↦ A ]

abbrev pub Others : (Node → Type 0) → List Node → Type 0
Others F but =
    unless (tags but) 0 ((k : ℕ) → F (All k)) ×
    unless (tags but) 1 ((k : ℕ) → F (Any k)) ×
    unless (tags but) 2 (F Not) ×
    unless (tags but) 3 (F Imp) ×
    unless (tags but) 4 (F Eq) ×
    unless (tags but) 5 (F Le) ×
    unless (tags but) 6 ((k : ℕ) → F (Number k)) ×
    unless (tags but) 7 ((k : ℕ) → F (Old k)) ×
    unless (tags but) 8 ((k : ℕ) → F (New k)) ×
    unless (tags but) 9 (F Add) ×
    unless (tags but) 10 (F Sub) ×
    unless (tags but) 11 (F Mul) ×
    unless (tags but) 12 (F If) ×
    unless (tags but) 13 (F Stray)

kept : (but : List ℕ) (t : ℕ) (A : Type 0) → unless but t A → has_key but t ≡ false → A
kept but t A a e = subst (λ (b : Bool). elim b as (λ c. Type 0) [ true ↦ Unit | false ↦ A ]) e a

left_free : (but ts : List ℕ) (x : ℕ) → has_key (without but ts) x ≡ true → has_key but x ≡ false
left_free but [] x h = absurd (true≢false (sym h))
left_free but (t ∷ ts) x h = go (has_key but t) refl (left_free but ts x) h
  where
    here : (c : Bool) → eqb t x ≡ c → has_key but t ≡ false → (has_key (without but ts) x ≡ true → has_key but x ≡ false)
        → (c || has_key (without but ts) x) ≡ true → has_key but x ≡ false
    here true f e ih g = ap (has_key but) (sym (eqb-true t x f)) ∙ e
    here false f e ih g = ih g

    go : (b : Bool) → has_key but t ≡ b → (has_key (without but ts) x ≡ true → has_key but x ≡ false)
        → has_key (elim b as (λ c. List ℕ) [ true ↦ without but ts | false ↦ t ∷ without but ts ]) x ≡ true → has_key but x ≡ false
    go true e ih g = ih g
    go false e ih g = here (eqb t x) refl e ih g

has_key_lem : (keys : List ℕ) (x : ℕ) → OneOf keys x → has_key keys x ≡ true
has_key_lem keys x o = go (has_key keys x) refl
  where
    go : (b : Bool) → has_key keys x ≡ b → has_key keys x ≡ true
    go true e = e
    go false e = absurd (miss keys x (subst (λ (b : Bool). T (not b)) (sym e) tt) o)

free : (but : List Node) (t : ℕ) → OneOf (others but) t → has_key (tags but) t ≡ false
free but t o = left_free (tags but) (others []) t (has_key_lem (others but) t o)

pub by_others : (F : Node → Type 0) (but : List Node) (n : Node) → Other but n → Others F but → F n
by_others F but (All k) o h = kept (tags but) 0 ((k : ℕ) → F (All k)) h.0 (free but 0 o) k
by_others F but (Any k) o h = kept (tags but) 1 ((k : ℕ) → F (Any k)) h.1 (free but 1 o) k
by_others F but Not o h = kept (tags but) 2 (F Not) h.2 (free but 2 o)
by_others F but Imp o h = kept (tags but) 3 (F Imp) h.3 (free but 3 o)
by_others F but Eq o h = kept (tags but) 4 (F Eq) h.4 (free but 4 o)
by_others F but Le o h = kept (tags but) 5 (F Le) h.5 (free but 5 o)
by_others F but (Number k) o h = kept (tags but) 6 ((k : ℕ) → F (Number k)) h.6 (free but 6 o) k
by_others F but (Old k) o h = kept (tags but) 7 ((k : ℕ) → F (Old k)) h.7 (free but 7 o) k
by_others F but (New k) o h = kept (tags but) 8 ((k : ℕ) → F (New k)) h.8 (free but 8 o) k
by_others F but Add o h = kept (tags but) 9 (F Add) h.9 (free but 9 o)
by_others F but Sub o h = kept (tags but) 10 (F Sub) h.10 (free but 10 o)
by_others F but Mul o h = kept (tags but) 11 (F Mul) h.11 (free but 11 o)
by_others F but If o h = kept (tags but) 12 (F If) h.12 (free but 12 o)
by_others F but Stray o h = kept (tags but) 13 (F Stray) h.13 (free but 13 o)

-- the nodes that a predicate begins with, and an expression
abbrev pub begin_predicates : List Node
begin_predicates = All 0 ∷ Any 0 ∷ Not ∷ Imp ∷ Eq ∷ Le ∷ []

abbrev pub begin_expressions : List Node
begin_expressions = Number 0 ∷ Old 0 ∷ New 0 ∷ Add ∷ Sub ∷ Mul ∷ If ∷ []

-- `node_of`, by the kind
past : {k : ℕ} (n : ℕ) → n ≤ k → (k ≡ n → ⊥) → n + 1 ≤ k
past n h ne = omega arith

module _ (w : ℕ) where
  pub holds_number : first_number_word ≤ w → Number (w - first_number_word) ≡ node_of w
  unfolding node_for node_of
  holds_number h = rw (number_of_lem w h) (ap Number (sym (biased_unbiased (w - first_number_word))))

  module _ (below : w < first_number_word) where
    held : (kind : ℕ) → w % 16 ≡ kind → node_for (get_or (kinds (w / 16)) kind stray) ≡ node_of w
    unfolding node_of kind_of argument_of
    held kind e = rw (word_of_lem w kind below e)

    pub holds_all : w % 16 ≡ 0 → All (w / 16) ≡ node_of w
    unfolding node_for kinds
    holds_all e = held 0 e

    pub holds_any : w % 16 ≡ 1 → Any (w / 16) ≡ node_of w
    unfolding node_for kinds
    holds_any e = held 1 e

    pub holds_not : w % 16 ≡ 2 → Not ≡ node_of w
    unfolding node_for kinds
    holds_not e = held 2 e

    pub holds_imp : w % 16 ≡ 3 → Imp ≡ node_of w
    unfolding node_for kinds
    holds_imp e = held 3 e

    pub holds_eq : w % 16 ≡ 4 → Eq ≡ node_of w
    unfolding node_for kinds
    holds_eq e = held 4 e

    pub holds_le : w % 16 ≡ 5 → Le ≡ node_of w
    unfolding node_for kinds
    holds_le e = held 5 e

    pub holds_old : w % 16 ≡ 7 → Old (w / 16) ≡ node_of w
    unfolding node_for kinds
    holds_old e = held 7 e

    pub holds_new : w % 16 ≡ 8 → New (w / 16) ≡ node_of w
    unfolding node_for kinds
    holds_new e = held 8 e

    pub holds_add : w % 16 ≡ 9 → Add ≡ node_of w
    unfolding node_for kinds
    holds_add e = held 9 e

    pub holds_sub : w % 16 ≡ 10 → Sub ≡ node_of w
    unfolding node_for kinds
    holds_sub e = held 10 e

    pub holds_mul : w % 16 ≡ 11 → Mul ≡ node_of w
    unfolding node_for kinds
    holds_mul e = held 11 e

    pub holds_if : w % 16 ≡ 12 → If ≡ node_of w
    unfolding node_for kinds
    holds_if e = held 12 e

    pub holds_none : (w % 16 ≡ 0 → ⊥) → (w % 16 ≡ 1 → ⊥) → (w % 16 ≡ 2 → ⊥) → (w % 16 ≡ 3 → ⊥) → (w % 16 ≡ 4 → ⊥) → (w % 16 ≡ 5 → ⊥) → (w % 16 ≡ 7 → ⊥) → (w % 16 ≡ 8 → ⊥) → (w % 16 ≡ 9 → ⊥) → (w % 16 ≡ 10 → ⊥) → (w % 16 ≡ 11 → ⊥) → (w % 16 ≡ 12 → ⊥) → Stray ≡ node_of w
    unfolding node_for node_of kinds kind_of argument_of
    holds_none a b c d e f g h i j k l =
        let six = past 5 (past 4 (past 3 (past 2 (past 1 (past 0 (omega arith) a) b) c) d) e) f in
        by (eqb (w % 16) 6) refl six
      where
        by : (t : Bool) → eqb (w % 16) 6 ≡ t → 6 ≤ w % 16 → Stray ≡ node_of w
        by true z six = held 6 (eqb-true (w % 16) 6 z)
        by false z six =
            let seven = past 6 six (eqb-false (w % 16) 6 z) in
            let above = past 12 (past 11 (past 10 (past 9 (past 8 (past 7 seven g) h) i) j) k) l in
            kind_from (λ (x : Word). Stray ≡ node_for x) w 13 below refl above

pub ruleset holds_laws = (holds_all, holds_any, holds_not, holds_imp, holds_eq, holds_le, holds_number, holds_old, holds_new, holds_add, holds_sub, holds_mul, holds_if, holds_none)

-- `word_of`, by the node
module _ (n : Node) where
  pub word_all : (k r : ℕ) → n ≡ All k → r ≡ 0 + 16 * (k % 134217728) → r ≡ word_for n
  unfolding word_for fitted room meant code node_word
  word_all k r h e = rw h e

  pub word_any : (k r : ℕ) → n ≡ Any k → r ≡ 1 + 16 * (k % 134217728) → r ≡ word_for n
  unfolding word_for fitted room meant code node_word
  word_any k r h e = rw h e

  pub word_not : n ≡ Not → 2 ≡ word_for n
  unfolding word_for fitted meant code node_word
  word_not h = rw h

  pub word_imp : n ≡ Imp → 3 ≡ word_for n
  unfolding word_for fitted meant code node_word
  word_imp h = rw h

  pub word_eq : n ≡ Eq → 4 ≡ word_for n
  unfolding word_for fitted meant code node_word
  word_eq h = rw h

  pub word_le : n ≡ Le → 5 ≡ word_for n
  unfolding word_for fitted meant code node_word
  word_le h = rw h

  pub word_number : (k r : ℕ) → n ≡ Number k → r ≡ first_number_word + k % 2147483648 → r ≡ word_for n
  unfolding word_for fitted number_room meant code
  word_number k r h e = rw (h, biased_unbiased (k % 2147483648)) e

  pub word_old : (k r : ℕ) → n ≡ Old k → r ≡ 7 + 16 * (k % 134217728) → r ≡ word_for n
  unfolding word_for fitted room meant code node_word
  word_old k r h e = rw h e

  pub word_new : (k r : ℕ) → n ≡ New k → r ≡ 8 + 16 * (k % 134217728) → r ≡ word_for n
  unfolding word_for fitted room meant code node_word
  word_new k r h e = rw h e

  pub word_add : n ≡ Add → 9 ≡ word_for n
  unfolding word_for fitted meant code node_word
  word_add h = rw h

  pub word_sub : n ≡ Sub → 10 ≡ word_for n
  unfolding word_for fitted meant code node_word
  word_sub h = rw h

  pub word_mul : n ≡ Mul → 11 ≡ word_for n
  unfolding word_for fitted meant code node_word
  word_mul h = rw h

  pub word_if : n ≡ If → 12 ≡ word_for n
  unfolding word_for fitted meant code node_word
  word_if h = rw h

  pub word_stray : n ≡ Stray → 15 ≡ word_for n
  unfolding word_for fitted meant code node_word
  word_stray h = rw h

pub ruleset word_laws = (word_all, word_any, word_not, word_imp, word_eq, word_le, word_number, word_old, word_new, word_add, word_sub, word_mul, word_if, word_stray)

-- a word of 32 bits has room for its node's argument, so its node's word is the code of what it says
room_small : (k : ℕ) → k < 134217728 → room k ≡ k
unfolding room
room_small k h = mod-eq_of_lt h

number_room_lem : (n : ℕ) → n < 2147483648 → number_room n ≡ n
unfolding number_room
number_room_lem n h = mod-eq_of_lt h

fits_node : (w : ℕ) → w < 4294967296 → fitted (node_of w) ≡ node_of w
unfolding fitted node_of node_for kinds argument_of
fits_node w small = each_word (λ (x : Word). fitted (node_for x) ≡ node_for x) w number other
  where
    number : first_number_word ≤ w → Number (number_room (biased (unbiased (w - first_number_word)))) ≡ Number (biased (unbiased (w - first_number_word)))
    number h =
        let a = w - first_number_word in
        ap Number (rw (biased_unbiased a) (number_room_lem a (omega arith)))

    other : w < first_number_word → Each (λ (x : Word). fitted (node_for x) ≡ node_for x) (kinds (argument_of w))
    other h =
        let e : room (argument_of w) ≡ argument_of w = room_small (argument_of w) (omega arith) in
        (ap All e, (ap Any e, (refl, (refl, (refl, (refl, (refl, (ap Old e, (ap New e, (refl, (refl, (refl, (refl, refl)))))))))))))

pub word_again : (w : ℕ) → w < 4294967296 → word_for (node_of w) ≡ code (word_of w)
unfolding word_for
word_again w h = ap (λ (n : Node). code (meant n)) (fits_node w h) ∙ ap code (meant_of w)

-- so has the word of a node with a small argument
module _ (k : ℕ) (h : k < 134217728) where
  pub all_held : word_for (All k) ≡ code (all_of k)
  unfolding word_for fitted meant
  all_held = ap (λ (j : ℕ). code (all_of j)) (room_small k h)

  pub any_held : word_for (Any k) ≡ code (any_of k)
  unfolding word_for fitted meant
  any_held = ap (λ (j : ℕ). code (any_of j)) (room_small k h)

  pub old_held : word_for (Old k) ≡ code (old_word k)
  unfolding word_for fitted meant
  old_held = ap (λ (j : ℕ). code (old_word j)) (room_small k h)

  pub new_held : word_for (New k) ≡ code (new_word k)
  unfolding word_for fitted meant
  new_held = ap (λ (j : ℕ). code (new_word j)) (room_small k h)

pub number_held : (n : ℕ) → n < 2147483648 → word_for (Number n) ≡ code (num_word (unbiased n))
unfolding word_for fitted meant
number_held n h = ap (λ (j : ℕ). code (num_word (unbiased j))) (number_room_lem n h)

-- and with one in range
pub word_for_lem : (x : Word) → in_range x ≡ true → word_for (node_for x) ≡ code x
unfolding word_for fitted node_for meant in_range
word_for_lem (all_of k) h = let l = leb-true k max_operands h in all_held k (omega arith)
word_for_lem (any_of k) h = let l = leb-true k max_operands h in any_held k (omega arith)
word_for_lem not_word h = refl
word_for_lem imp_word h = refl
word_for_lem eq_word h = refl
word_for_lem le_word h = refl
word_for_lem (num_word z) h =
    let l = biased_small z h in
    number_held (biased z) (omega arith) ∙ ap (λ (y : ℤ). code (num_word y)) (number_back z h)
word_for_lem (old_word k) h = let l = leb-true k last_variable h in old_held k (omega arith)
word_for_lem (new_word k) h = let l = leb-true k last_variable h in new_held k (omega arith)
word_for_lem add_word h = refl
word_for_lem sub_word h = refl
word_for_lem mul_word h = refl
word_for_lem if_word h = refl
word_for_lem stray h = refl

-- the code of a word in range has 32 bits; only `stray` has the code of `stray`
pub code_small : (x : Word) → in_range x ≡ true → code x < 4294967296
unfolding code node_word in_range
code_small (all_of k) h = let l = leb-true k max_operands h in omega arith
code_small (any_of k) h = let l = leb-true k max_operands h in omega arith
code_small not_word h = omega arith
code_small imp_word h = omega arith
code_small eq_word h = omega arith
code_small le_word h = omega arith
code_small (num_word z) h = let l = biased_small z h in omega arith
code_small (old_word k) h = let l = leb-true k last_variable h in omega arith
code_small (new_word k) h = let l = leb-true k last_variable h in omega arith
code_small add_word h = omega arith
code_small sub_word h = omega arith
code_small mul_word h = omega arith
code_small if_word h = omega arith
code_small stray h = omega arith

pub stray_only : (x : Word) → code x ≡ code stray → x ≡ stray
unfolding code node_word
stray_only (all_of k) h = absurd (omega arith)
stray_only (any_of k) h = absurd (omega arith)
stray_only not_word h = absurd (omega arith)
stray_only imp_word h = absurd (omega arith)
stray_only eq_word h = absurd (omega arith)
stray_only le_word h = absurd (omega arith)
stray_only (num_word z) h = absurd (omega arith)
stray_only (old_word k) h = absurd (omega arith)
stray_only (new_word k) h = absurd (omega arith)
stray_only add_word h = absurd (omega arith)
stray_only sub_word h = absurd (omega arith)
stray_only mul_word h = absurd (omega arith)
stray_only if_word h = absurd (omega arith)
stray_only stray h = refl
