-- What the scans' tests say of a word by its kind, and what the scans say of a predicate's words.
use mathlib.Core.Path.{◌≡◌, refl, sym, ap, ap₂, ◌∙◌}
use mathlib.Core.Bool.{Bool, true, false, ◌&&◌, ◌||◌}
use mathlib.Core.List.{List, [], ◌∷◌, map}
use Prim.Native.Nat.{ℕ, ◌<◌}
use lib.Dec.{eqb, leb}
use Rattle.model.specs.Basic.{every, exists}
use Rattle.model.specs.Bounds.{last_biased}
use Rattle.model.specs.Predicate.{Word, named, is_outside, is_new, names_outside, names_new}
use Rattle.model.specs.Limits.{in_range}
use Rattle.model.specs.Table.{code, word_of}
use Rattle.node_words.specs.declared.Node.{Node}
use Rattle.node_words.specs.declared.Node.TheVariants.{All, Any, Number, Old, New, Stray}
use Rattle.node_words.specs.Nodes.{meant, node_of, word_for}
use Rattle.node_words.proofs.NodeLaws.{number_span, meant_of, word_by, word_again, Other, by_others}
use Rattle.model.proofs.Tests.{and_left, and_right, and_intro, eq_of, of_eq}
use Rattle.model.proofs.Decode.{word_back}
use Rattle.std.specs.List.{list_any, list_all}
use Rattle.table_predicate.specs.Scan.{is_coded}

-- the nodes that are not in range as they are
abbrev with_bounds : List Node
with_bounds = All 0 ∷ Any 0 ∷ Number 0 ∷ Old 0 ∷ New 0 ∷ Stray ∷ []

-- names, by the node
module _ (w : ℕ) (n : Node) (is : n ≡ node_of w) where
  pub outside_old : (count k i : ℕ) → n ≡ Old k → i ≡ k → leb count i ≡ is_outside count (named (word_of w))
  unfolding is_outside named meant
  outside_old count k i h e = rw (word_by w n (Old k) is h, e)

  pub outside_new : (count k i : ℕ) → n ≡ New k → i ≡ k → leb count i ≡ is_outside count (named (word_of w))
  unfolding is_outside named meant
  outside_new count k i h e = rw (word_by w n (New k) is h, e)

  pub outside_none : (count : ℕ) → Other (Old 0 ∷ New 0 ∷ []) n → false ≡ is_outside count (named (word_of w))
  unfolding is_outside named meant
  outside_none count o =
      let no : (k : ℕ) → false ≡ false = λ k. refl in
      rw (word_by w n n is refl)
      (by_others (λ (m : Node). false ≡ is_outside count (named (meant m))) (Old 0 ∷ New 0 ∷ []) n o
      (no, no, refl, refl, refl, refl, no, tt, tt, refl, refl, refl, refl, refl))

  pub new_yes : (k : ℕ) → n ≡ New k → true ≡ is_new (named (word_of w))
  unfolding is_new named meant
  new_yes k h = rw (word_by w n (New k) is h)

  pub new_no : Other (New 0 ∷ []) n → false ≡ is_new (named (word_of w))
  unfolding is_new named meant
  new_no o =
      let no : (k : ℕ) → false ≡ false = λ k. refl in
      rw (word_by w n n is refl)
      (by_others (λ (m : Node). false ≡ is_new (named (meant m))) (New 0 ∷ []) n o
      (no, no, refl, refl, refl, refl, no, no, tt, refl, refl, refl, refl, refl))

  -- `coded`
  pub coded_is : w < 4294967296 → (v : ℕ) → v ≡ word_for n → (b : Bool) → b ≡ in_range (meant n) → (eqb w v && b) ≡ is_coded w
  unfolding is_coded
  coded_is h v e b f = rw (e, f, is, word_again w h, meant_of w)

pub ruleset outside_laws = (outside_old, outside_new, outside_none)

pub ruleset new_laws = (new_yes, new_no)

-- `in_range`
module _ (n : Node) where
  pub range_all : (k : ℕ) → n ≡ All k → leb k 512 ≡ in_range (meant n)
  unfolding meant in_range
  range_all k h = rw h

  pub range_any : (k : ℕ) → n ≡ Any k → leb k 512 ≡ in_range (meant n)
  unfolding meant in_range
  range_any k h = rw h

  pub range_number : (k : ℕ) → n ≡ Number k → leb k last_biased ≡ in_range (meant n)
  unfolding meant in_range
  range_number k h = rw h (number_span k)

  pub range_old : (k : ℕ) → n ≡ Old k → leb k 47 ≡ in_range (meant n)
  unfolding meant in_range
  range_old k h = rw h

  pub range_new : (k : ℕ) → n ≡ New k → leb k 47 ≡ in_range (meant n)
  unfolding meant in_range
  range_new k h = rw h

  pub range_stray : n ≡ Stray → false ≡ in_range (meant n)
  unfolding meant in_range
  range_stray h = rw h

  pub range_bare : Other with_bounds n → true ≡ in_range (meant n)
  unfolding meant in_range
  range_bare o =
      by_others (λ (m : Node). true ≡ in_range (meant m)) with_bounds n o
      (tt, tt, refl, refl, refl, refl, tt, tt, tt, refl, refl, refl, refl, tt)

pub ruleset range_laws = (range_all, range_any, range_number, range_old, range_new, range_stray, range_bare)

-- what the scans say of a row of words
pub some_outside : (n : ℕ) (l : List ℕ) → list_any (λ w. is_outside n (named (word_of w))) l ≡ names_outside n (map word_of l)
unfolding names_outside exists
some_outside n [] = refl
some_outside n (w ∷ l) = ap (λ (b : Bool). is_outside n (named (word_of w)) || b) (some_outside n l)

pub some_new : (l : List ℕ) → list_any (λ w. is_new (named (word_of w))) l ≡ names_new (map word_of l)
unfolding names_new exists
some_new [] = refl
some_new (w ∷ l) = ap (λ (b : Bool). is_new (named (word_of w)) || b) (some_new l)

pub all_coded : (l : List ℕ) → list_all is_coded l ≡ every is_coded l
unfolding every
all_coded [] = refl
all_coded (w ∷ l) = ap (λ (b : Bool). is_coded w && b) (all_coded l)

-- codes of words in range: what they are the codes of, and that they are
pub coded_words : (l : List ℕ) → every is_coded l ≡ true → (l ≡ map code (map word_of l)) × (every in_range (map word_of l) ≡ true)
unfolding is_coded every
coded_words [] h = (refl, refl)
coded_words (w ∷ l) h =
    let t = coded_words l (and_right (is_coded w) (every is_coded l) h) in
    let c = and_left (is_coded w) (every is_coded l) h in
    let e = eq_of w (code (word_of w)) (and_left (eqb w (code (word_of w))) (in_range (word_of w)) c) in
    (ap₂ (λ x xs. x ∷ xs) e t.0, and_intro (and_right (eqb w (code (word_of w))) (in_range (word_of w)) c) t.1)

pub words_coded : (l : List Word) → every in_range l ≡ true → every is_coded (map code l) ≡ true
unfolding is_coded every
words_coded [] h = refl
words_coded (x ∷ l) h =
    let r = and_left (in_range x) (every in_range l) h in
    let e = word_back x r in
    and_intro (and_intro (of_eq (code x) (code (word_of (code x))) (ap code (sym e))) (ap in_range e ∙ r)) (words_coded l (and_right (in_range x) (every in_range l) h))
