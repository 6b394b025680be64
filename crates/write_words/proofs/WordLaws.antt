-- Each way out of the code of src/predicate.rt.
use Prim.Native.Nat.{ℕ, ◌+◌, ◌≤◌, ◌<◌}
use mathlib.Core.Path.{◌≡◌, refl, sym, ap}
use mathlib.Core.List.{List, [], ◌∷◌, ◌++◌, map, append-nil}
use native.Mathlib.Numerals.{add-one}
use lib.ListN.{length, get_or, take, drop}
use lib.Seq.{take-suc, take_all}
use lib.Dec.{eqb}
use Rattle.format.specs.Bytes.{Bytes, bytes, led_by, joined, space}
use Rattle.format.specs.Number.{decimal, signed}
use Rattle.format.specs.Spelling.{spelled}
use Rattle.model.specs.Table.{unbiased}
use Rattle.node_words.specs.declared.Node.{Node}
use Rattle.node_words.specs.declared.Node.TheVariants.{All, Any, Not, Imp, Eq, Le, Number, Old, New, Add, Sub, Mul, If, Stray}
use Rattle.node_words.specs.Nodes.{meant, node_of}
use Rattle.node_words.proofs.NodeLaws.{word_by}
use Rattle.write_words.specs.declared.growing.Part.{Part}
use Rattle.write_words.specs.declared.growing.Text.{Text}
use Rattle.write_words.specs.Growing.{Grew, between, part_text}
use Rattle.write_words.specs.NodeText.{word_text, words_text, predicate_text, name_part, name_text, argument_text}
use Rattle.write_words.proofs.GrowingLaws.{grew_none, grew_then, part_grew}
use Rattle.write_words.proofs.JoinLaws.{is_none, joined_snoc, map-append, none_taken}

-- `name`: the row of all names has each at its part
abbrev pub in_names : Part → Bytes
in_names p = part_text (bytes "all any notimpeqlevnaddsubmulif") p

pub name_part_lem : (n : Node) → in_names (name_part n) ≡ name_text n
unfolding part_text name_part name_text
name_part_lem (All k) = refl
name_part_lem (Any k) = refl
name_part_lem Not = refl
name_part_lem Imp = refl
name_part_lem Eq = refl
name_part_lem Le = refl
name_part_lem (Number n) = refl
name_part_lem (Old k) = refl
name_part_lem (New k) = refl
name_part_lem Add = refl
name_part_lem Sub = refl
name_part_lem Mul = refl
name_part_lem If = refl
name_part_lem Stray = refl

pub name_grew : (n : Node) (p : Part) → p ≡ name_part n → (old new : Text) → Grew (in_names p) old new → Grew (name_text n) old new
name_grew n p e = part_grew (bytes "all any notimpeqlevnaddsubmulif") (name_text n) p (name_part n) e (name_part_lem n)

-- a word is its name and its argument
node_text : (n : Node) → name_text n ++ argument_text n ≡ joined space (spelled (meant n))
unfolding name_text argument_text meant spelled joined led_by
node_text (All k) = ap (λ (l : Bytes). name_text (All k) ++ l) (sym (append-nil (decimal k)))
node_text (Any k) = ap (λ (l : Bytes). name_text (Any k) ++ l) (sym (append-nil (decimal k)))
node_text Not = refl
node_text Imp = refl
node_text Eq = refl
node_text Le = refl
node_text (Number n) = sym (append-nil (signed (unbiased n)))
node_text (Old k) = ap (λ (l : Bytes). name_text (Old k) ++ l) (sym (append-nil (decimal k)))
node_text (New k) = ap (λ (l : Bytes). name_text (New k) ++ l) (sym (append-nil (decimal k)))
node_text Add = refl
node_text Sub = refl
node_text Mul = refl
node_text If = refl
node_text Stray = refl

pub word_is : (w : ℕ) (n : Node) (old mid new : Text) → n ≡ node_of w → Grew (name_text n) old mid → Grew (argument_text n) mid new → Grew (word_text w) old new
unfolding word_text
word_is w n old mid new e g h =
    rw (word_by w n n e refl, ← node_text n) (grew_then (name_text n) (argument_text n) old mid new g h)

-- the turns of `words`
words_more : (ws : List ℕ) (i : ℕ) → i < length ws → words_text (take (i + 1) ws) ≡ words_text (take i ws) ++ between (eqb i 0) (space ∷ []) ++ word_text (get_or ws i 0)
unfolding words_text
words_more ws i h =
    let e : map word_text (take (i + 1) ws) ≡ map word_text (take i ws) ++ word_text (get_or ws i 0) ∷ [] = rw (add-one i, take-suc ws i 0 h, map-append word_text (take i ws) (get_or ws i 0 ∷ [])) in
    let f : is_none (map word_text (take i ws)) ≡ eqb i 0 = none_taken word_text i ws h in
    rw (e, joined_snoc space (map word_text (take i ws)) (word_text (get_or ws i 0)), f)

module _ (ws : List ℕ) (old : Text) where
  pub words_none : Grew (words_text []) old old
  unfolding words_text joined
  words_none = grew_none old

  module _ (i : ℕ) (cur : Text) (inv : Grew (words_text (take i ws)) old cur) where
    pub words_all : i ≤ length ws → length ws ≤ i → Grew (words_text ws) old cur
    words_all h k = rw (take_all i ws k) at inv

    pub words_on : i < length ws → (mid new : Text) → Grew (between (eqb i 0) (32 ∷ [])) cur mid → Grew (word_text (get_or ws i 0)) mid new → Grew (words_text (take (i + 1) ws)) old new
    words_on h mid new g k =
        let e = grew_then (words_text (take i ws)) (between (eqb i 0) (32 ∷ [])) old cur mid inv g in
        rw (words_more ws i h) (grew_then (words_text (take i ws) ++ between (eqb i 0) (32 ∷ [])) (word_text (get_or ws i 0)) old mid new e k)

-- `counted`
pub counted_is : (ws later cut : List ℕ) (n : ℕ) (old new : Text) → later ≡ drop 1 ws → n ≡ get_or ws 0 0 → cut ≡ take n later →
    Grew (words_text cut) old new → Grew (predicate_text ws) old new
unfolding predicate_text
counted_is ws later cut n old new e f g k = rw (← f, ← e, ← g) k

pub ruleset predicate_laws = (word_is, words_none, words_all, words_on, counted_is)
