-- Each way out of the code of src/places.rt.
use Prim.Native.Nat.{ℕ, zero, suc, ◌+◌, ◌-◌, ◌≤◌, ◌<◌}
use mathlib.Core.Path.{◌≡◌, refl, sym, ◌∙◌, ap}
use mathlib.Core.Bool.{Bool, true, false}
use mathlib.Core.List.{List, [], ◌∷◌}
use native.Mathlib.Omega.{arith}
use borrow.Author.Tests.{leb-true, leb-false}
use lib.Dec.{leb}
use lib.ListN.{length, take, drop, length-take, length-drop}
use Rattle.model.specs.Basic.{same}
use Rattle.format.specs.Bytes.{Bytes, bytes, parts, space}
use Rattle.format.specs.Tokens.{tokens}
use Rattle.text_bytes.specs.Find.{first_from}
use Rattle.text_bytes.proofs.FindLaws.{find_after, first_is, gap_within}
use Rattle.text_bytes.proofs.Parting.{parts_from, from_past, from_step, from_within}
use Rattle.text_bytes.proofs.Places.{take_rest}
use Rattle.std.specs.Prelude.{Option, Some, None}
use Rattle.read_extent.specs.Extent.{is_count, calls_in, taken, span, tokens_from, after_start, start_among, next_start}

-- the tokens from a place on are the parts there
pub tokens_from_lem : (s : Bytes) (at : ℕ) → tokens_from s at ≡ parts_from space s at
unfolding tokens_from parts_from tokens
tokens_from_lem s at = refl

-- the token up to where `find` stopped, and the place after it
module _ (s : Bytes) (at r : ℕ) (h : at ≤ length s) (e : r ≡ first_from s at 32) (l : r ≤ length s) where
  abbrev token : Bytes
  token = take (r - at) (drop at s)

  token_length : length token ≡ r - at
  token_length = let a = find_after s at 32 r h e in length-take (r - at) (drop at s) ∙ omega (arith, length-drop at s)

  pub one_on : at + length token + 1 ≡ r + 1
  one_on = let a = find_after s at 32 r h e in omega (arith, token_length)

-- where nothing more is wanted than there are tokens, all are taken
taken_all : (ts : List Bytes) (n : ℕ) (c : Bool) → length ts ≤ n → taken n c ts ≡ ts
unfolding taken
taken_all [] n c h = refl
taken_all (t ∷ ts) zero c h = absurd (omega arith)
taken_all (t ∷ ts) (suc n) c h = ap (λ l. t ∷ l) (taken_all ts (calls_in c t + n) (is_count t) (omega arith))

taken_none : (ts : List Bytes) (c : Bool) → taken 0 c ts ≡ []
unfolding taken
taken_none [] c = refl
taken_none (t ∷ ts) c = refl

-- the tokens from a place on reach to the end, and are no more than the bytes
record Reaches (s : Bytes) (at : ℕ) (ts : List Bytes) : Type 0 where
  ends : at + span ts ≡ length s + 1
  few : length ts + at ≤ length s + 1

abbrev Rest : Bytes → ℕ → Type 0
Rest s at = Reaches s at (parts_from space s at)

rest_past : (s : Bytes) (at : ℕ) → length s < at → at ≤ length s + 1 → Rest s at
unfolding span
rest_past s at h l = rw (from_past space s at h) (record { ends = omega arith; few = omega arith })

pub found : (s : Bytes) (at : ℕ) → at ≤ length s → first_from s at 32 ≤ length s
found s at h = let g = gap_within 32 (drop at s) in omega (arith, first_is s at 32 h, length-drop at s)

rest_more : (s : Bytes) (at : ℕ) → at ≤ length s → Rest s (first_from s at 32 + 1) → Rest s at
unfolding span
rest_more s at h x =
    let r = first_from s at 32 in
    let l = found s at h in
    rw (from_step space s at r h refl) (record { ends = omega (arith, one_on s at r h refl l, x.ends); few = omega (arith, find_after s at 32 r h refl, x.few) })

rest_of : (most : ℕ) (s : Bytes) (at : ℕ) → at ≤ length s + 1 → length s + 1 - at ≤ most → Rest s at
rest_of zero s at h l = rest_past s at (omega arith) h
rest_of (suc most) s at h l = go (leb at (length s)) refl (λ i. rest_of most s (first_from s at 32 + 1) (omega (arith, found s at i)) (omega (arith, find_after s at 32 (first_from s at 32) i refl)))
  where
    go : (v : Bool) → leb at (length s) ≡ v → (at ≤ length s → Rest s (first_from s at 32 + 1)) → Rest s at
    go true e ih = let i = leb-true at (length s) e in rest_more s at i (ih i)
    go false e ih = rest_past s at (leb-false at (length s) e) h

pub ends_at : (s : Bytes) (at : ℕ) → at ≤ length s + 1 → at + span (parts_from space s at) ≡ length s + 1
ends_at s at h = (rest_of (length s + 1 - at) s at h (omega arith)).ends

parts_few : (s : Bytes) (at : ℕ) → at ≤ length s + 1 → length (parts_from space s at) + at ≤ length s + 1
parts_few s at h = (rest_of (length s + 1 - at) s at h (omega arith)).few

-- what is ahead of a place
abbrev pub ahead : Bytes → (from : ℕ) → List Bytes
ahead s from = parts space (take (length s - from) (drop from s))

module _ (s : Bytes) (from : ℕ) (h : from ≤ length s) where
  all_ahead : parts_from space s from ≡ ahead s from
  all_ahead = from_within space s from h ∙ ap (parts space) (sym (take_rest s from))

-- each token has a byte after it
span_long : (ts : List Bytes) → length ts ≤ span ts
unfolding span
span_long [] = omega arith
span_long (t ∷ ts) = omega (arith, span_long ts)

-- `after`: what is taken from a place on, and after the first k tokens from there
pub record Goes (s : Bytes) (at k next wanted : ℕ) (counts : Bool) : Type 0 where
  pub taken_on : after_start s at ≡ next + span (taken wanted counts (drop k (ahead s at)))
  pub ends : next + span (drop k (ahead s at)) ≡ length s + 1

pub after_start_lem : (s : Bytes) (at : ℕ) → after_start s at ≡ at + span (taken 1 false (parts_from space s at))
unfolding after_start
after_start_lem s at = ap (λ l. at + span (taken 1 false l)) (tokens_from_lem s at)

pub after_past : (s : Bytes) (at : ℕ) → length s < at → at ≡ after_start s at
unfolding span taken
after_past s at h = sym (after_start_lem s at ∙ ap (λ l. at + span (taken 1 false l)) (from_past space s at h) ∙ omega arith)

pub after_first : (s : Bytes) (at : ℕ) → at ≤ length s → Goes s at 0 at 1 false
after_first s at h = record {
  taken_on = after_start_lem s at ∙ ap (λ l. at + span (taken 1 false l)) (all_ahead s at h);
  ends = ap (λ l. at + span l) (sym (all_ahead s at h)) ∙ ends_at s at (omega arith);
}

module _ (s : Bytes) (at k next wanted : ℕ) (counts : Bool) (g : Goes s at k next wanted counts) where
  abbrev left : List Bytes
  left = drop k (ahead s at)

  pub after_end : left ≡ [] → next ≡ after_start s at
  unfolding span taken
  after_end h = sym (g.taken_on ∙ ap (λ l. next + span (taken wanted counts l)) h ∙ omega arith)

  pub after_done : wanted ≡ 0 → next ≡ after_start s at
  unfolding span
  after_done z = sym (g.taken_on ∙ ap (λ n. next + span (taken n counts left)) z ∙ ap (λ l. next + span l) (taken_none left counts) ∙ omega arith)

  pub after_all : length s < wanted → length s + 1 ≡ after_start s at
  after_all l = sym (g.taken_on ∙ ap (λ u. next + span u) (taken_all left wanted counts (omega (arith, span_long left, g.ends))) ∙ g.ends)

  module _ (t : Bytes) (h : left ≡ t ∷ drop (k + 1) (ahead s at)) where
    pub after_room : next + (length t + 1) ≤ length s + 1
    unfolding span
    after_room = let e = ap (λ l. next + span l) (sym h) ∙ g.ends in omega arith

    pub after_go : (more : ℕ) (c : Bool) → (wanted ≡ 0 → ⊥) → more ≡ calls_in counts t → c ≡ is_count t → (l : ℕ) → l ≡ k + 1
        → Goes s at l (next + (length t + 1)) (wanted - 1 + more) c
    unfolding span taken
    after_go more c z a b l m = record {
      taken_on = go wanted z g.taken_on ∙ ap (λ j. next + (length t + 1) + span (taken (wanted - 1 + more) c (drop j (ahead s at)))) (sym m);
      ends = ap (λ j. next + (length t + 1) + span (drop j (ahead s at))) m ∙ (let f = ap (λ x. next + span x) (sym h) ∙ g.ends in omega arith);
    }
      where
        rest : List Bytes
        rest = drop (k + 1) (ahead s at)

        go : (w : ℕ) → (w ≡ 0 → ⊥) → after_start s at ≡ next + span (taken w counts left) → after_start s at ≡ next + (length t + 1) + span (taken (w - 1 + more) c rest)
        go zero u i = absurd (u refl)
        go (suc n) u i =
            let y : calls_in counts t + n ≡ suc n - 1 + more = omega arith in
            i ∙ ap (λ x. next + span (taken (suc n) counts x)) h
            ∙ ap (λ x. next + (length t + 1 + span (taken x (is_count t) rest))) y
            ∙ ap (λ x. next + (length t + 1 + span (taken (suc n - 1 + more) x rest))) (sym b)
            ∙ omega arith

-- `next`: the first `ini` from a place on, and after the first k tokens from there
pub record Seeks (s : Bytes) (from k at : ℕ) : Type 0 where
  pub starts : next_start s from ≡ start_among at (drop k (ahead s from))
  pub ends : at + span (drop k (ahead s from)) ≡ length s + 1

pub next_start_lem : (s : Bytes) (from : ℕ) → next_start s from ≡ start_among from (parts_from space s from)
unfolding next_start
next_start_lem s from = ap (start_among from) (tokens_from_lem s from)

pub seek_past : (s : Bytes) (from : ℕ) → length s < from → None ≡ next_start s from
unfolding start_among
seek_past s from h = sym (next_start_lem s from ∙ ap (start_among from) (from_past space s from h))

module _ (s : Bytes) (from : ℕ) (h : from ≤ length s) where
  pub seek_start : Seeks s from 0 from
  seek_start = record {
    starts = next_start_lem s from ∙ ap (start_among from) (all_ahead s from h);
    ends = ap (λ l. from + span l) (sym (all_ahead s from h)) ∙ ends_at s from (omega arith);
  }

module _ (s : Bytes) (from k at : ℕ) (i : Seeks s from k at) where
  pub seek_end : drop k (ahead s from) ≡ [] → None ≡ next_start s from
  unfolding start_among
  seek_end h = sym (i.starts ∙ ap (start_among at) h)

  module _ (t : Bytes) (h : drop k (ahead s from) ≡ t ∷ drop (k + 1) (ahead s from)) where
    pub seek_room : at + (length t + 1) ≤ length s + 1
    unfolding span
    seek_room = let e = ap (λ l. at + span l) (sym h) ∙ i.ends in omega arith

    module _ (p : Bool) (q : p ≡ same t (bytes "ini")) where
      by_token : (v : Bool) → p ≡ v
          → next_start s from ≡ elim v as (λ x. Option ℕ) [ true ↦ Some (at + (length t + 1)) | false ↦ start_among (at + (length t + 1)) (drop (k + 1) (ahead s from)) ]
      unfolding start_among
      by_token v e =
          let rest = drop (k + 1) (ahead s from) in
          i.starts ∙ ap (start_among at) h
          ∙ ap (λ (b : Bool). elim b as (λ x. Option ℕ) [ true ↦ Some (at + length t + 1) | false ↦ start_among (at + length t + 1) rest ]) (sym q ∙ e)
          ∙ ap (λ n. elim v as (λ x. Option ℕ) [ true ↦ Some n | false ↦ start_among n rest ]) (omega arith)

      pub seek_here : p ≡ true → Some (at + (length t + 1)) ≡ next_start s from
      seek_here e = sym (by_token true e)

      pub seek_on : p ≡ false → (l : ℕ) → l ≡ k + 1 → Seeks s from l (at + (length t + 1))
      unfolding span
      seek_on e l m = record {
        starts = by_token false e ∙ ap (λ j. start_among (at + (length t + 1)) (drop j (ahead s from))) (sym m);
        ends = ap (λ j. at + (length t + 1) + span (drop j (ahead s from))) m ∙ (let f = ap (λ x. at + span x) (sym h) ∙ i.ends in omega arith);
      }
