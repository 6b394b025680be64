-- The buffer that is being filled: the words so far, as many as find room, and then zeros.
use Prim.Native.Nat.{ℕ, zero, suc, ◌+◌, ◌-◌, ◌≤◌, ◌<◌}
use mathlib.Core.Path.{◌≡◌, refl, sym, ◌∙◌, ap}
use mathlib.Core.Bool.{Bool, true, false}
use mathlib.Core.List.{List, [], ◌∷◌, ◌++◌, append_assoc, append-nil}
use native.Mathlib.Nat.{zero-add}
use native.Mathlib.Omega.{arith}
use native.Mathlib.Numerals.{add-one}
use borrow.Author.Tests.{le-leb, lt-leb, leb-true, leb-false, ltb-true, ltb-false}
use lib.ListN.{length, take, drop, set, length-set, replicate, length-append, length-take, length-replicate, take-append-drop}
use lib.Seq.{set-append_left, set-append_seam, drop-set-lt, take-suc-set, append_snoc, take_all, take_at, take-append-le, drop-append-add, take-append_seam, take-take}
use lib.Dec.{leb, ltb}
use Rattle.model.specs.Bounds.{table_words}
use Rattle.table_append.specs.Append.{next_place, put}

-- the buffer with the words `s` in it
unfoldable pub filled : List ℕ → List ℕ
filled s = take table_words s ++ replicate (table_words - length s) 0

abbrev zeros : ℕ → List ℕ
zeros n = replicate {A = ℕ} n 0

drop_zeros : (n k : ℕ) → drop k (zeros n) ≡ zeros (n - k)
drop_zeros n zero = let e : n ≡ n - 0 = omega arith in ap zeros e
drop_zeros zero (suc k) = let e : 0 ≡ 0 - suc k = omega arith in ap zeros e
drop_zeros (suc n) (suc k) = let e : n - k ≡ suc n - suc k = omega arith in drop_zeros n k ∙ ap zeros e

pub filled_nil : filled [] ≡ zeros table_words
unfolding filled
filled_nil = refl

pub filled_fits : (s : List ℕ) → length s ≤ table_words → filled s ≡ s ++ zeros (table_words - length s)
unfolding filled
filled_fits s h = rw (take_all table_words s h)

pub filled_over : (s : List ℕ) → table_words ≤ length s → filled s ≡ take table_words s
unfolding filled
filled_over s h = let e : table_words - length s ≡ 0 = omega arith in ap (λ (n : ℕ). take table_words s ++ zeros n) e ∙ append-nil (take table_words s)

pub filled_length : (s : List ℕ) → length (filled s) ≡ table_words
unfolding filled
filled_length s =
    omega (
      arith,
      length-append (take table_words s) (zeros (table_words - length s)),
      length-take table_words s,
      length-replicate {A = ℕ} (table_words - length s) 0,
    )

-- the place of the next word
next_fits : (at n : ℕ) → at + n ≤ table_words → next_place at n ≡ at + n
unfolding next_place
next_fits at n h = rw (le-leb (at + n) table_words h, next_place)

pub next_in : (n : ℕ) → n ≤ table_words → next_place 0 n ≡ n
unfolding next_place
next_in n h = next_fits 0 n (omega arith) ∙ zero-add n

pub next_over : (n : ℕ) → table_words < n → next_place 0 n ≡ table_words
unfolding next_place
next_over n h = let z : 0 + n ≡ n = omega arith in rw (z, lt-leb n table_words h, next_place)

next_stops : (at n : ℕ) → table_words ≤ at + n → next_place at n ≡ table_words
unfolding next_place
next_stops at n h = go (leb (at + n) table_words) refl
  where
    go : (b : Bool) → leb (at + n) table_words ≡ b → elim b as (λ x. ℕ) [ true ↦ at + n | false ↦ table_words ] ≡ table_words
    go true e = let l = leb-true (at + n) table_words e in omega arith
    go false e = refl

pub next_next : (a b : ℕ) → next_place (next_place 0 a) b ≡ next_place 0 (a + b)
next_next a b = go (leb a table_words) refl
  where
    inner : a ≤ table_words → (c : Bool) → leb (a + b) table_words ≡ c → next_place a b ≡ next_place 0 (a + b)
    inner h true e = let l = leb-true (a + b) table_words e in next_fits a b l ∙ sym (next_in (a + b) l)
    inner h false e = let l = leb-false (a + b) table_words e in next_stops a b (omega arith) ∙ sym (next_over (a + b) l)

    go : (c : Bool) → leb a table_words ≡ c → next_place (next_place 0 a) b ≡ next_place 0 (a + b)
    go true e = let l = leb-true a table_words e in ap (λ (n : ℕ). next_place n b) (next_in a l) ∙ inner l (leb (a + b) table_words) refl
    go false e =
        let l = leb-false a table_words e in
        ap (λ (n : ℕ). next_place n b) (next_over a l) ∙ next_stops table_words b (omega arith) ∙ sym (next_over (a + b) (omega arith))

-- words put into a full buffer: what stands before them, the words, and what stands after, cut to the length
abbrev spliced : (at : ℕ) (new old : List ℕ) → List ℕ
spliced at new old = take table_words (take at old ++ (new ++ drop (at + length new) old))

put_spliced : (new : List ℕ) (at : ℕ) (old : List ℕ) → at ≤ table_words → length old ≡ table_words → put at new old ≡ spliced at new old
unfolding put
put_spliced [] at old h l =
    let z : at + 0 ≡ at = omega arith in
    sym (rw (z, take-append-drop at old) (take_all table_words old (omega (arith, l))))
put_spliced (w ∷ ws) at old h l = go (put_spliced ws (at + 1) (set old at w)) (ltb at table_words) refl
  where
    go : (at + 1 ≤ table_words → length (set old at w) ≡ table_words → put (at + 1) ws (set old at w) ≡ spliced (at + 1) ws (set old at w)) → (b : Bool) → ltb at table_words ≡ b
        → elim b as (λ x. List ℕ) [ true ↦ put (at + 1) ws (set old at w) | false ↦ old ] ≡ spliced at (w ∷ ws) old
    go ih true e =
        let k = ltb-true at table_words e in
        let rest : drop (at + 1 + length ws) (set old at w) ≡ drop (at + suc (length ws)) old =
        let z : at + 1 + length ws ≡ at + suc (length ws) = omega arith in drop-set-lt (at + 1 + length ws) old at w (omega arith) ∙ ap (λ (n : ℕ). drop n old) z in
        ih (omega arith) (simp length-set l) ∙ rw (add-one at, take-suc-set old at w (omega (arith, l)), ← add-one at, rest, append_snoc (take at old) w (ws ++ drop (at + suc (length ws)) old))
    go ih false e =
        let k = ltb-false at table_words e in
        let all : take at old ≡ old = take_all at old (omega (arith, l)) in
        sym (rw all (take_at old _ table_words l))

-- words put where the words so far end
module _ (s new : List ℕ) where
  abbrev goal : Type 0
  goal = put (next_place 0 (length s)) new (filled s) ≡ filled (s ++ new)

  within : length s ≤ table_words → goal
  within h =
      let k = table_words - length s in
      let z = table_words - length (s ++ new) in
      let count : k - length new ≡ z = omega (arith, length-append s new) in
      let front : take (length s) (filled s) ≡ s = ap (take (length s)) (filled_fits s h) ∙ take-append_seam s (zeros k) in
      let back : drop (length s + length new) (filled s) ≡ zeros z =
      ap (drop (length s + length new)) (filled_fits s h) ∙ drop-append-add s (zeros k) (length new) ∙ drop_zeros k (length new) ∙ ap zeros count in
      let whole : put (length s) new (filled s) ≡ take table_words ((s ++ new) ++ zeros z) =
      put_spliced new (length s) (filled s) h (filled_length s) ∙ rw (front, back) (ap (take table_words) (sym (append_assoc s new (zeros z)))) in
      ap (λ (n : ℕ). put n new (filled s)) (next_in (length s) h) ∙ whole ∙ end (leb (length (s ++ new)) table_words) refl
    where
      end : (b : Bool) → leb (length (s ++ new)) table_words ≡ b → take table_words ((s ++ new) ++ zeros (table_words - length (s ++ new))) ≡ filled (s ++ new)
      end true e =
          let l = leb-true (length (s ++ new)) table_words e in
          take_all table_words _ (omega (arith, length-append (s ++ new) (zeros (table_words - length (s ++ new))), length-replicate {A = ℕ} (table_words - length (s ++ new)) 0)) ∙ sym (filled_fits (s ++ new) l)
      end false e =
          let l = leb-false (length (s ++ new)) table_words e in
          take-append-le table_words (s ++ new) _ (omega arith) ∙ sym (filled_over (s ++ new) (omega arith))

  beyond : table_words < length s → goal
  beyond h =
      let all : take table_words (filled s) ≡ filled s = take_all table_words (filled s) (omega (arith, filled_length s)) in
      let stays : put table_words new (filled s) ≡ filled s =
      put_spliced new table_words (filled s) (omega arith) (filled_length s) ∙ rw all (take_at (filled s) _ table_words (filled_length s)) in
      ap (λ (n : ℕ). put n new (filled s)) (next_over (length s) h) ∙ stays ∙ filled_over s (omega arith)
      ∙ sym (take-append-le table_words s new (omega arith)) ∙ sym (filled_over (s ++ new) (omega (arith, length-append s new)))

  pub put_filled : put (next_place 0 (length s)) new (filled s) ≡ filled (s ++ new)
  put_filled = go (leb (length s) table_words) refl
    where
      go : (b : Bool) → leb (length s) table_words ≡ b → put (next_place 0 (length s)) new (filled s) ≡ filled (s ++ new)
      go true e = within (leb-true (length s) table_words e)
      go false e = beyond (leb-false (length s) table_words e)

-- the first words of the buffer are those of what goes on from there
pub filled_first : (s more : List ℕ) (n : ℕ) → n ≤ length s → n ≤ table_words → take n (filled s) ≡ take n (s ++ more)
unfolding filled
filled_first s more n h k =
    take-append-le n (take table_words s) (zeros (table_words - length s)) (omega (arith, length-take table_words s)) ∙ take-take n table_words s k ∙ sym (take-append-le n s more h)

-- another word in the place of the last
pub set_filled : (s : List ℕ) (old new : ℕ) → length s < table_words → set (filled (s ++ old ∷ [])) (length s) new ≡ filled (s ++ new ∷ [])
set_filled s old new h =
    let size = length-append s (old ∷ []) in
    let size' = length-append s (new ∷ []) in
    let count : table_words - length (s ++ old ∷ []) ≡ table_words - length (s ++ new ∷ []) = omega arith in
    ap (λ (l : List ℕ). set l (length s) new) (filled_fits (s ++ old ∷ []) (omega arith)) ∙
    set-append_left (s ++ old ∷ []) (zeros (table_words - length (s ++ old ∷ []))) (length s) new (omega arith) ∙
    ap (λ (l : List ℕ). l ++ zeros (table_words - length (s ++ old ∷ []))) (set-append_seam s old [] new) ∙
    ap (λ (n : ℕ). (s ++ new ∷ []) ++ zeros n) count ∙
    sym (filled_fits (s ++ new ∷ []) (omega arith))
