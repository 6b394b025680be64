-- Words that stand at a place, and the walk's next node by them.
use mathlib.Core.Path.{◌≡◌, refl, sym, ap, ◌∙◌}
use mathlib.Core.Bool.{Bool, true, false}
use mathlib.Core.List.{List, [], ◌∷◌, ◌++◌, append_assoc, map, map-append}
use Prim.Native.Nat.{ℕ, suc, ◌+◌, ◌<◌}
use native.Mathlib.Omega.{arith}
use native.Mathlib.Nat.{add-zero}
use native.Mathlib.Numerals.{add-one}
use borrow.Author.Tests.{ltb-true, ltb-false}
use lib.Dec.{ltb}
use lib.ListN.{length, get_or, take, drop, take-append-drop, drop_of_length-le}
use lib.Seq.{drop-cons, drop-drop}
use Rattle.model.specs.Predicate.{Word}
use Rattle.model.specs.Table.{word_of}
use Rattle.node_words.proofs.NodeLaws.{meant_of}
use Rattle.table_predicate.specs.Walk.{place, go_on, go_into, declared_of, predicate_by, expression_by, predicate_at, expression_at}
use Rattle.table_predicate.proofs.Steps.{enter_next}

-- the words from a place on
abbrev pub onward : List ℕ → ℕ → List Word
onward ws at = map word_of (drop at ws)

-- the first of them
pub record First (ws : List ℕ) (at : ℕ) (x : Word) (l : List Word) : Type 0 where
  pub below : at < length ws
  pub word : word_of (get_or ws at 0) ≡ x
  pub then : onward ws (at + 1) ≡ l

module _ (ws : List ℕ) where
  pub onward_cons : (at : ℕ) → at < length ws → onward ws at ≡ word_of (get_or ws at 0) ∷ onward ws (at + 1)
  onward_cons at h = rw (add-one at, drop-cons ws at 0 h)

  pub first : (at : ℕ) (x : Word) (l : List Word) → onward ws at ≡ x ∷ l → First ws at x l
  first at x l e = go (ltb at (length ws)) refl
    where
      go : (t : Bool) → ltb at (length ws) ≡ t → First ws at x l
      go true h =
          let below = ltb-true at (length ws) h in
          let c = sym (onward_cons at below) ∙ e in
          record { below = below; word = cc; then = cc }
      go false h =
          let n : [] ≡ x ∷ l = rw (drop_of_length-le ws (ltb-false at (length ws) h)) at e in
          let z : ◌≡◌ {A = ℕ} 0 1 = cc in
          absurd (omega arith)

  -- past some of them
  pub past_them : (at : ℕ) (k l : List Word) → onward ws at ≡ k ++ l → onward ws (at + length k) ≡ l
  past_them at [] l e = rw (add-zero at) e
  past_them at (x ∷ k) l e =
      let n : at + suc (length k) ≡ at + 1 + length k = omega arith in
      rw n (past_them (at + 1) k l (first at x (k ++ l) e).then)

  -- two rows, one after the other
  pub link : (at : ℕ) (k m j l : List Word) → onward ws at ≡ k ++ j → onward ws (at + length k) ≡ m ++ l → onward ws at ≡ (k ++ m) ++ l
  link at k m j l e f = e ∙ ap (λ (s : List Word). k ++ s) (sym (past_them at k j e) ∙ f) ∙ sym (append_assoc k m l)

  -- `count` of them are there
  pub standing : (at count : ℕ) (k : List Word) → map word_of (take count (drop at ws)) ≡ k → onward ws at ≡ k ++ onward ws (at + count)
  standing at count k e =
      ap (λ (s : List ℕ). map word_of s) (sym (take-append-drop count (drop at ws)))
      ∙ map-append word_of (take count (drop at ws)) (drop count (drop at ws))
      ∙ rw (e, drop-drop count at ws)

  pub there : (at : ℕ) (k l : List Word) → onward ws at ≡ k ++ l → map word_of (take (length k) (drop at ws)) ≡ k
  there at [] l e = refl
  there at (x ∷ k) l e =
      let f = first at x (k ++ l) e in
      rw (drop-cons ws at 0 f.below, ← add-one at, f.word) (ap (λ (s : List Word). x ∷ s) (there (at + 1) k l f.then))

  -- the next node of a walk
  module _ (ranges : List ℕ) (n : ℕ) {at : ℕ} {x : Word} {l : List Word} (leaves : Bool) (f : First ws at x l) where
    pub next_p : predicate_at ws ranges (suc n) (place leaves at) ≡ predicate_by (predicate_at ws ranges n) (expression_at ws ranges n) x (place leaves (at + 1))
    unfolding predicate_at expression_at go_on
    next_p = rw (← enter_next ws (place leaves at) f.below, meant_of (get_or ws at 0), f.word)

    pub next_e : expression_at ws ranges (suc n) (place leaves at) ≡ expression_by (predicate_at ws ranges n) (expression_at ws ranges n) (declared_of ranges) x (place leaves (at + 1))
    unfolding predicate_at expression_at go_into
    next_e = rw (← enter_next ws (place leaves at) f.below, meant_of (get_or ws at 0), f.word)
