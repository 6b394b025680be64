-- Laws of finding: what each way out of `find` shows, and how its answers part a text and its lines.
use Prim.Native.Nat.{ℕ, zero, suc, ◌+◌, ◌-◌, ◌≤◌, ◌<◌}
use mathlib.Core.Path.{◌≡◌, refl, sym, ◌∙◌, ap}
use mathlib.Core.Bool.{Bool, true, false, cond}
use mathlib.Core.List.{List, [], ◌∷◌}
use native.Mathlib.Omega.{arith}
use borrow.Author.Tests.{le-leb, lt-leb, ltb-false, eq-eqb, ne_eqb, eqb-true, eqb-false}
use lib.ListN.{length, get_or, take, drop, length-drop}
use lib.Seq.{drop-drop, drop-length, take_all}
use lib.Dec.{eqb, ltb}
use Rattle.std.specs.Prelude.{Some, None}
use Rattle.std.specs.List.{position, position_or_len, count_by}
use Rattle.std.proofs.lemmas.List.Recursion.{is_position_or_len, is_count_by}
use Rattle.format.specs.Bytes.{LF, parts, onto}
use Rattle.format.specs.Rows.{Line}
use Rattle.format.specs.Reader.{lines_of, onto_line}
use Rattle.format.proofs.BytesLaws.{Free, parts_free}
use Rattle.text_bytes.proofs.Places.{take_rest}
use Rattle.text_bytes.specs.Find.{gap, first_from, tally, count_of}

gap_at : (c b : ℕ) (t : List ℕ) → b ≡ c → gap c (b ∷ t) ≡ 0
unfolding gap
gap_at c b t h = rw (eq-eqb b c h, gap)

pub gap_on : (c b : ℕ) (t : List ℕ) → (b ≡ c → ⊥) → gap c (b ∷ t) ≡ suc (gap c t)
unfolding gap
gap_on c b t h = rw (ne_eqb b c h, gap)

-- the gap is what it says: no c is in it, and it ends at a c or at the end
pub gap_within : (c : ℕ) (s : List ℕ) → gap c s ≤ length s
unfolding gap
gap_within c [] = omega arith
gap_within c (b ∷ t) = go (eqb b c) (gap_within c t)
  where
    go : (v : Bool) → gap c t ≤ length t → elim v as (λ x. ℕ) [ true ↦ 0 | false ↦ suc (gap c t) ] ≤ suc (length t)
    go true ih = omega arith
    go false ih = omega arith

pub gap_free : (c : ℕ) (s : List ℕ) → Free c (take (gap c s) s)
unfolding gap
gap_free c [] = tt
gap_free c (b ∷ t) = go (eqb b c) refl (gap_free c t)
  where
    go : (v : Bool) → eqb b c ≡ v → Free c (take (gap c t) t) → Free c (take (elim v as (λ x. ℕ) [ true ↦ 0 | false ↦ suc (gap c t) ]) (b ∷ t))
    go true e ih = tt
    go false e ih = (eqb-false b c e, ih)

pub gap_ends : (c : ℕ) (s : List ℕ) → gap c s < length s → get_or s (gap c s) 0 ≡ c
unfolding gap
gap_ends c [] h = absurd (omega arith)
gap_ends c (b ∷ t) h = go (eqb b c) refl h (gap_ends c t)
  where
    go : (v : Bool) → eqb b c ≡ v → elim v as (λ x. ℕ) [ true ↦ 0 | false ↦ suc (gap c t) ] < suc (length t) → (gap c t < length t → get_or t (gap c t) 0 ≡ c)
        → get_or (b ∷ t) (elim v as (λ x. ℕ) [ true ↦ 0 | false ↦ suc (gap c t) ]) 0 ≡ c
    go true e l ih = eqb-true b c e
    go false e l ih = ih (omega arith)

-- and nothing else is
pub gap_is : (c : ℕ) (s : List ℕ) (n : ℕ) → Free c (take n s) → n < length s → get_or s n 0 ≡ c → gap c s ≡ n
gap_is c [] n f h e = absurd (omega arith)
gap_is c (b ∷ t) zero f h e = gap_at c b t e
gap_is c (b ∷ t) (suc n) f h e = gap_on c b t f.0 ∙ ap suc (gap_is c t n f.1 (omega arith) e)

pub gap_none : (c : ℕ) (s : List ℕ) → Free c s → gap c s ≡ length s
gap_none c [] f = unfold gap in refl
gap_none c (b ∷ t) f = gap_on c b t f.0 ∙ ap suc (gap_none c t f.1)

-- the library's words for it
pub gap_place : (c : ℕ) (s : List ℕ) → position_or_len (λ b. eqb b c) s ≡ gap c s
unfolding gap
gap_place c s = sym (is_position_or_len (λ (t : List ℕ). gap c t) (λ b. eqb b c) refl (λ b t. go (eqb b c) (gap c t)) s)
  where
    go : (v : Bool) (n : ℕ) → elim v as (λ x. ℕ) [ true ↦ 0 | false ↦ suc n ] ≡ cond v 0 (1 + n)
    go true n = refl
    go false n = omega arith

some_place : (p n i : ℕ) → Some i ≡ cond (ltb p n) (Some p) None → i ≡ p
some_place p n i e = go (ltb p n) e
  where
    go : (v : Bool) → Some i ≡ cond v (Some p) None → i ≡ p
    go true h = cc
    go false h = cc

no_place : (p n : ℕ) → None ≡ cond (ltb p n) (Some p) None → n ≤ p
no_place p n e = go (ltb p n) refl e
  where
    go : (v : Bool) → ltb p n ≡ v → None ≡ cond v (Some p) None → n ≤ p
    go true k h = absurd (let z : ◌≡◌ {A = ℕ} 0 1 = cc in omega arith)
    go false k h = ltb-false p n k

-- each way out of `find`
module _ (s : List ℕ) (at c : ℕ) where
  pub find_past : length s < at → length s ≡ first_from s at c
  unfolding first_from
  find_past h = rw (lt-leb at (length s) h, first_from)

  pub first_is : at ≤ length s → first_from s at c ≡ at + gap c (drop at s)
  unfolding first_from
  first_is h = rw (le-leb at (length s) h, first_from)

  module _ (l : at ≤ length s) where
    pub find_here : (i : ℕ) → Some i ≡ position (λ b. eqb b c) (take (length s - at) (drop at s)) → (at + i ≡ first_from s at c) × (at + i ≤ length s)
    find_here i e =
        let z : i ≡ gap c (drop at s) = some_place _ _ i e ∙ rw (take_rest s at) (gap_place c (drop at s)) in
        (omega (arith, first_is l), omega (arith, gap_within c (drop at s), length-drop at s))

    pub find_none : None ≡ position (λ b. eqb b c) (take (length s - at) (drop at s)) → (length s ≡ first_from s at c) × (length s ≤ length s)
    find_none e =
        let z : length (drop at s) ≤ position_or_len (λ b. eqb b c) (drop at s) = rw (take_rest s at) at (no_place _ _ e) in
        (omega (arith, first_is l, gap_place c (drop at s), gap_within c (drop at s), length-drop at s), omega arith)

-- the first part of a text, and its first line
module _ (c : ℕ) where
  pub parts_step : (s : List ℕ) → gap c s < length s → parts c s ≡ take (gap c s) s ∷ parts c (drop (gap c s + 1) s)
  unfolding gap parts onto
  parts_step [] h = absurd (omega arith)
  parts_step (b ∷ t) h = go (eqb b c) h (parts_step t)
    where
      go : (v : Bool) → elim v as (λ x. ℕ) [ true ↦ 0 | false ↦ suc (gap c t) ] < suc (length t)
          → (gap c t < length t → parts c t ≡ take (gap c t) t ∷ parts c (drop (gap c t + 1) t))
          → elim v as (λ x. List (List ℕ)) [ true ↦ [] ∷ parts c t | false ↦ onto b (parts c t) ]
          ≡ take (elim v as (λ x. ℕ) [ true ↦ 0 | false ↦ suc (gap c t) ]) (b ∷ t) ∷ parts c (drop (elim v as (λ x. ℕ) [ true ↦ 0 | false ↦ suc (gap c t) ] + 1) (b ∷ t))
      go true l ih = refl
      go false l ih =
          let e : suc (gap c t + 1) ≡ suc (gap c t) + 1 = omega arith in
          ap (onto b) (ih (omega arith)) ∙ ap (λ (n : ℕ). (b ∷ take (gap c t) t) ∷ parts c (drop n (b ∷ t))) e

  pub parts_last : (s : List ℕ) → length s ≤ gap c s → parts c s ≡ s ∷ []
  parts_last s h = parts_free c s (rw (take_all (gap c s) s h) at (gap_free c s))

pub lines_step : (s : List ℕ) → gap LF s < length s → lines_of s ≡ record { bytes = take (gap LF s) s; ended = true } ∷ lines_of (drop (gap LF s + 1) s)
unfolding gap lines_of onto_line
lines_step [] h = absurd (omega arith)
lines_step (b ∷ t) h = go (eqb b LF) h (lines_step t)
  where
    go : (v : Bool) → elim v as (λ x. ℕ) [ true ↦ 0 | false ↦ suc (gap LF t) ] < suc (length t)
        → (gap LF t < length t → lines_of t ≡ record { bytes = take (gap LF t) t; ended = true } ∷ lines_of (drop (gap LF t + 1) t))
        → elim v as (λ x. List Line) [ true ↦ record { bytes = []; ended = true } ∷ lines_of t | false ↦ onto_line b (lines_of t) ]
        ≡ record { bytes = take (elim v as (λ x. ℕ) [ true ↦ 0 | false ↦ suc (gap LF t) ]) (b ∷ t); ended = true } ∷ lines_of (drop (elim v as (λ x. ℕ) [ true ↦ 0 | false ↦ suc (gap LF t) ] + 1) (b ∷ t))
    go true l ih = refl
    go false l ih =
        let e : suc (gap LF t + 1) ≡ suc (gap LF t) + 1 = omega arith in
        ap (onto_line b) (ih (omega arith)) ∙ ap (λ (n : ℕ). record { bytes = b ∷ take (gap LF t) t; ended = true } ∷ lines_of (drop n (b ∷ t))) e

pub lines_last : (s : List ℕ) → 0 < length s → length s ≤ gap LF s → lines_of s ≡ record { bytes = s; ended = false } ∷ []
unfolding gap lines_of onto_line
lines_last [] p h = absurd (omega arith)
lines_last (b ∷ []) p h = go (eqb b LF) h
  where
    go : (v : Bool) → 1 ≤ elim v as (λ x. ℕ) [ true ↦ 0 | false ↦ 1 ] → ◌≡◌ {A = List Line} (elim v as (λ x. List Line) [ true ↦ record { bytes = []; ended = true } ∷ [] | false ↦ record { bytes = b ∷ []; ended = false } ∷ [] ]) (record { bytes = b ∷ []; ended = false } ∷ [])
    go true l = absurd (omega arith)
    go false l = refl
lines_last (b ∷ d ∷ t) p h = go (eqb b LF) h (lines_last (d ∷ t) (omega arith))
  where
    go : (v : Bool) → suc (suc (length t)) ≤ elim v as (λ x. ℕ) [ true ↦ 0 | false ↦ suc (gap LF (d ∷ t)) ] → (suc (length t) ≤ gap LF (d ∷ t) → lines_of (d ∷ t) ≡ record { bytes = d ∷ t; ended = false } ∷ [])
        → ◌≡◌ {A = List Line} (elim v [ true ↦ record { bytes = []; ended = true } ∷ lines_of (d ∷ t) | false ↦ onto_line b (lines_of (d ∷ t)) ]) (record { bytes = b ∷ d ∷ t; ended = false } ∷ [])
    go true l ih = absurd (omega arith)
    go false l ih = ap (onto_line b) (ih (omega arith))

-- the same where n bytes without c stand before a c, or no LF stands at all (parts_free is the text's)
pub parts_cut : (c : ℕ) (s : List ℕ) (n : ℕ) → Free c (take n s) → n < length s → get_or s n 0 ≡ c → parts c s ≡ take n s ∷ parts c (drop (n + 1) s)
parts_cut c s n f h e =
    let g : gap c s ≡ n = gap_is c s n f h e in
    rw g at (parts_step c s (omega arith))

pub lines_cut : (s : List ℕ) (n : ℕ) → Free LF (take n s) → n < length s → get_or s n 0 ≡ LF → lines_of s ≡ record { bytes = take n s; ended = true } ∷ lines_of (drop (n + 1) s)
lines_cut s n f h e =
    let g : gap LF s ≡ n = gap_is LF s n f h e in
    rw g at (lines_step s (omega arith))

pub lines_free : (s : List ℕ) → Free LF s → 0 < length s → lines_of s ≡ record { bytes = s; ended = false } ∷ []
lines_free s f h = lines_last s h (omega (arith, gap_none LF s f))

-- the same from the place `at` of a text on, with what `find` answers
module _ (s : List ℕ) (at c r : ℕ) (h : at ≤ length s) (e : r ≡ first_from s at c) where
  pub find_after : at ≤ r
  find_after = omega (arith, first_is s at c h)

  span : gap c (drop at s) ≡ r - at
  span = omega (arith, first_is s at c h)

  rest : drop (gap c (drop at s) + 1) (drop at s) ≡ drop (r + 1) s
  rest =
      let z : at + (gap c (drop at s) + 1) ≡ r + 1 = omega (arith, first_is s at c h) in
      drop-drop (gap c (drop at s) + 1) at s ∙ ap (λ (n : ℕ). drop n s) z

  pub parts_found : r < length s → parts c (drop at s) ≡ take (r - at) (drop at s) ∷ parts c (drop (r + 1) s)
  parts_found l =
      parts_step c (drop at s) (omega (arith, span, find_after, length-drop at s)) ∙ rw (rest, span)

  pub parts_ended : length s ≤ r → parts c (drop at s) ≡ drop at s ∷ []
  parts_ended l = parts_last c (drop at s) (omega (arith, span, find_after, length-drop at s))

module _ (s : List ℕ) (at r : ℕ) (h : at ≤ length s) (e : r ≡ first_from s at LF) where
  pub lines_found : r < length s → lines_of (drop at s) ≡ record { bytes = take (r - at) (drop at s); ended = true } ∷ lines_of (drop (r + 1) s)
  lines_found l =
      lines_step (drop at s) (omega (arith, span s at LF r h e, find_after s at LF r h e, length-drop at s)) ∙ rw (rest s at LF r h e, span s at LF r h e)

  pub lines_ended : at < length s → length s ≤ r → lines_of (drop at s) ≡ record { bytes = drop at s; ended = false } ∷ []
  lines_ended k l = lines_last (drop at s) (omega (arith, length-drop at s)) (omega (arith, span s at LF r h e, find_after s at LF r h e, length-drop at s))

pub lines_none : (s : List ℕ) → length s ≡ 0 → lines_of s ≡ []
unfolding lines_of
lines_none [] h = refl
lines_none (b ∷ t) h = absurd (omega arith)

-- counting: the parts are one more
onto_length : (b : ℕ) (ss : List (List ℕ)) (n : ℕ) → length ss ≡ n + 1 → length (onto b ss) ≡ n + 1
unfolding onto
onto_length b [] n h = absurd (omega arith)
onto_length b (s ∷ ss) n h = h

pub parts_count : (c : ℕ) (s : List ℕ) → length (parts c s) ≡ count_of c s + 1
unfolding parts count_of tally
parts_count c [] = refl
parts_count c (b ∷ t) = go (eqb b c) (parts_count c t)
  where
    go : (v : Bool) → length (parts c t) ≡ count_of c t + 1
        → length {A = List ℕ} (elim v as (λ x. List (List ℕ)) [ true ↦ [] ∷ parts c t | false ↦ onto b (parts c t) ]) ≡ elim v as (λ x. ℕ) [ true ↦ 1 | false ↦ 0 ] + count_of c t + 1
    go true ih = omega arith
    go false ih = onto_length b (parts c t) (count_of c t) ih ∙ omega arith

pub count_is : (c : ℕ) (s : List ℕ) → count_by (λ b. eqb b c) s ≡ count_of c s
unfolding count_of tally
count_is c s = sym (is_count_by (λ (t : List ℕ). count_of c t) (λ b. eqb b c) refl (λ b t. go (eqb b c) (count_of c t)) s)
  where
    go : (v : Bool) (n : ℕ) → elim v as (λ x. ℕ) [ true ↦ 1 | false ↦ 0 ] + n ≡ cond v (1 + n) n
    go true n = refl
    go false n = omega arith
