-- Words that are put in two steps are put in one.
use Prim.Native.Nat.{ℕ, suc, ◌+◌, ◌≤◌, ◌<◌}
use mathlib.Core.Path.{◌≡◌, refl, sym, ◌∙◌, ap}
use mathlib.Core.Bool.{Bool, true, false}
use mathlib.Core.List.{List, [], ◌∷◌, ◌++◌}
use native.Mathlib.Omega.{arith}
use native.Mathlib.Numerals.{add-one}
use borrow.Author.Tests.{leb-true, leb-false, ltb-false}
use lib.ListN.{length, set, get_or, drop, drop_of_length-le}
use lib.Seq.{drop-cons}
use lib.Dec.{leb, ltb}
use Rattle.model.specs.Bounds.{table_words}
use Rattle.table_append.specs.Append.{next_place, put}
use Rattle.table_append.proofs.AppendLaws.{put_past, next_past, next_in, next_over}

pub next_then : (at a b : ℕ) → next_place (next_place at a) b ≡ next_place at (a + b)
next_then at a b = go (leb (at + a) table_words) refl (leb (at + (a + b)) table_words) refl
  where
    z : at + a + b ≡ at + (a + b)
    z = omega arith

    go : (v : Bool) → leb (at + a) table_words ≡ v → (w : Bool) → leb (at + (a + b)) table_words ≡ w → next_place (next_place at a) b ≡ next_place at (a + b)
    go true e true f =
        let l = leb-true (at + a) table_words e in
        let m = leb-true (at + (a + b)) table_words f in
        ap (λ (n : ℕ). next_place n b) (sym (next_in at a l)) ∙ sym (next_in (at + a) b (omega arith)) ∙ z ∙ next_in at (a + b) m
    go true e false f =
        let l = leb-true (at + a) table_words e in
        let m = leb-false (at + (a + b)) table_words f in
        ap (λ (n : ℕ). next_place n b) (sym (next_in at a l)) ∙ sym (next_over (at + a) b (omega arith)) ∙ next_over at (a + b) m
    go false e w f =
        let l = leb-false (at + a) table_words e in
        ap (λ (n : ℕ). next_place n b) (sym (next_over at a l)) ∙ sym (next_past table_words b (omega arith)) ∙ next_over at (a + b) (omega arith)

-- one place further, one word less
next_one : (at n : ℕ) → next_place at (suc n) ≡ next_place (at + 1) n
unfolding next_place
next_one at n =
    let z : at + suc n ≡ at + 1 + n = omega arith in
    ap (λ (k : ℕ). elim (leb k table_words) as (λ x. ℕ) [ true ↦ k | false ↦ table_words ]) z

-- where there is no room for the first words, there is none for the others
put_full : (at n : ℕ) (ws words : List ℕ) → table_words ≤ at → put (next_place at n) ws words ≡ words
put_full at n ws words h = ap (λ (p : ℕ). put p ws words) (sym (next_past at n h)) ∙ sym (put_past ws table_words words (omega arith))

put_same : (at : ℕ) (ws words : List ℕ) → put (next_place at 0) ws words ≡ put at ws words
put_same at ws words = go (leb at table_words) refl
  where
    go : (v : Bool) → leb at table_words ≡ v → put (next_place at 0) ws words ≡ put at ws words
    go true e =
        let l = leb-true at table_words e in
        let z : next_place at 0 ≡ at = sym (next_in at 0 (omega arith)) ∙ omega arith in
        ap (λ (p : ℕ). put p ws words) z
    go false e = let l = leb-false at table_words e in put_full at 0 ws words (omega arith) ∙ put_past ws at words (omega arith)

pub put_yes : (at w : ℕ) (ws words : List ℕ) → ltb at table_words ≡ true → put at (w ∷ ws) words ≡ put (at + 1) ws (set words at w)
unfolding put
put_yes at w ws words e = rw (e, put)

pub put_then : (first : List ℕ) (at : ℕ) (ws words : List ℕ) → put (next_place at (length first)) ws (put at first words) ≡ put at (first ++ ws) words
put_then [] at ws words = unfold put in put_same at ws words
put_then (w ∷ first) at ws words = go (put_then first (at + 1) ws (set words at w)) (ltb at table_words) refl
  where
    go : put (next_place (at + 1) (length first)) ws (put (at + 1) first (set words at w)) ≡ put (at + 1) (first ++ ws) (set words at w)
        → (v : Bool) → ltb at table_words ≡ v → put (next_place at (suc (length first))) ws (put at (w ∷ first) words) ≡ put at (w ∷ (first ++ ws)) words
    go ih true e =
        ap (λ (p : ℕ). put p ws (put at (w ∷ first) words)) (next_one at (length first)) ∙
        ap (put (next_place (at + 1) (length first)) ws) (put_yes at w first words e) ∙ ih ∙ sym (put_yes at w (first ++ ws) words e)
    go ih false e =
        let l = ltb-false at table_words e in
        ap (put (next_place at (suc (length first))) ws) (sym (put_past (w ∷ first) at words l)) ∙
        put_full at (suc (length first)) ws words l ∙ put_past (w ∷ (first ++ ws)) at words l

-- `append_two`
pub two_next : (at next last : ℕ) → next ≡ next_place at 1 → last ≡ next_place next 1 → last ≡ next_place at 2
two_next at next last h k = k ∙ ap (λ (n : ℕ). next_place n 1) h ∙ next_then at 1 1

pub two_put : (at next a b : ℕ) (old mid new : List ℕ) → next ≡ next_place at 1 → mid ≡ put at (a ∷ []) old → new ≡ put next (b ∷ []) mid → new ≡ put at (a ∷ b ∷ []) old
two_put at next a b old mid new h k l = l ∙ ap (λ (n : ℕ). put n (b ∷ []) mid) h ∙ ap (put (next_place at 1) (b ∷ [])) k ∙ put_then (a ∷ []) at (b ∷ []) old

pub ruleset two_laws = (two_next, two_put)

-- a word, and then more
module _ (at a : ℕ) (ws : List ℕ) (i : ℕ) (hi : i ≡ next_place at 1) where
  pub more_next : (r : ℕ) → r ≡ next_place i (length ws) → r ≡ next_place at (suc (length ws))
  more_next r e = e ∙ ap (λ (n : ℕ). next_place n (length ws)) hi ∙ next_then at 1 (length ws) ∙ ap (next_place at) (omega arith)

  pub more_put : (old mid new : List ℕ) → mid ≡ put at (a ∷ []) old → new ≡ put i ws mid → new ≡ put at (a ∷ ws) old
  more_put old mid new hm hn = hn ∙ ap (put i ws) hm ∙ ap (λ (n : ℕ). put n ws (put at (a ∷ []) old)) hi ∙ put_then (a ∷ []) at ws old

pub ruleset more_laws = (more_next, more_put)

-- `append`: the words that are left, put from the place that was reached, make up what is put in all
pub record Onward (whole : List ℕ) (at : ℕ) (old rest : List ℕ) (next : ℕ) (words : List ℕ) : Type 0 where
  pub near : next ≤ table_words
  pub place : next_place next (length rest) ≡ next_place at (length whole)
  pub memory : put next rest words ≡ put at whole old

pub onward_first : (whole : List ℕ) (at : ℕ) (old : List ℕ) → at ≤ table_words → Onward whole at old whole at old
onward_first whole at old h = record { near = h; place = refl; memory = refl }

next_near : (at n : ℕ) → next_place at n ≤ table_words
unfolding next_place
next_near at n = go (leb (at + n) table_words) refl
  where
    go : (b : Bool) → leb (at + n) table_words ≡ b → elim b as (λ x. ℕ) [ true ↦ at + n | false ↦ table_words ] ≤ table_words
    go true e = leb-true (at + n) table_words e
    go false e = omega arith

module _ (whole : List ℕ) (at : ℕ) (old : List ℕ) (i next : ℕ) (words : List ℕ) (u : Onward whole at old (drop i whole) next words) where
  pub onward_turn : i < length whole → (n : ℕ) (mid : List ℕ) → n ≡ next_place next 1 → mid ≡ put next (get_or whole i 0 ∷ []) words
      → Onward whole at old (drop (i + 1) whole) n mid
  onward_turn h n mid hn hm =
      let x = get_or whole i 0 in
      let ws = drop (i + 1) whole in
      let one : drop i whole ≡ x ∷ ws = rw (add-one i) (drop-cons whole i 0 h) in
      record {
        near = rw hn (next_near next 1);
        place = more_next next x ws n hn (next_place n (length ws)) refl ∙ ap (λ (l : List ℕ). next_place next (length l)) (sym one) ∙ u.place;
        memory = more_put next x ws n hn words mid (put n ws mid) hm refl ∙ ap (λ (l : List ℕ). put next l words) (sym one) ∙ u.memory;
      }

  pub onward_end : length whole ≤ i → (next ≡ next_place at (length whole)) × (words ≡ put at whole old)
  unfolding put
  onward_end h =
      let none : drop i whole ≡ [] = drop_of_length-le whole h in
      let here : next ≡ next_place next 0 = omega (arith, next_in next 0 (omega (arith, u.near))) in (
        here ∙ ap (λ (l : List ℕ). next_place next (length l)) (sym none) ∙ u.place,
        ap (λ (l : List ℕ). put next l words) (sym none) ∙ u.memory,
      )
