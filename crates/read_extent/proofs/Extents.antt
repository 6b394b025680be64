-- The P's found in the bytes are those of the format, and lie behind each other.
use Prim.Native.Nat.{ℕ, zero, suc, ◌+◌, ◌-◌, ◌≤◌, ◌<◌}
use mathlib.Core.Path.{◌≡◌, refl, sym, ◌∙◌, ap}
use mathlib.Core.Bool.{Bool, true, false, ◌||◌}
use mathlib.Core.List.{List, [], ◌∷◌, ◌++◌, append_assoc, nil≢cons, cons≢nil, head-eq_of_cons-eq, tail-eq_of_cons-eq}
use native.Mathlib.Omega.{arith}
use borrow.Author.Tests.{leb-true, leb-false}
use lib.Dec.{leb}
use lib.IntN.{pos}
use lib.ListN.{length, take, drop, length-append}
use lib.Seq.{take_at}
use Rattle.model.specs.Basic.{same}
use Rattle.model.specs.Bounds.{max_operands}
use Rattle.format.specs.Bytes.{Bytes, bytes, space, joined, led_by, parts}
use Rattle.format.specs.Number.{within, natural_of}
use Rattle.format.specs.Tokens.{find, calls, calls_for, start_tokens, starts_in}
use Rattle.format.proofs.BytesLaws.{joined_parts, led_append, same_is}
use Rattle.format.proofs.StartLaws.{trailing, tokens_split, starts_later}
use Rattle.format.proofs.TreeText.{starts_ini, starts_other}
use Rattle.text_bytes.specs.Find.{first_from}
use Rattle.text_bytes.proofs.Places.{rest_past}
use Rattle.text_bytes.proofs.Parting.{parts_from, from_within, from_past, from_step}
use Rattle.std.specs.Prelude.{Option, Some, None}
use Rattle.read_extent.specs.Extent.{is_count, count_calls, calls_in, taken, span, after_start, start_among, next_start}
use Rattle.read_extent.proofs.PlacesLaws.{found, one_on, after_start_lem, next_start_lem}

-- what is taken are the tokens of P, by the token before
calls_same : (b t : Bytes) → calls_for b t ≡ calls_in (is_count b) t
unfolding calls_for calls_in is_count count_calls
calls_same b t = go (same b (bytes "all") || same b (bytes "any"))
  where
    go : (v : Bool) → elim v as (λ x. ℕ) [ true ↦ elim (within (pos 0) (pos max_operands) t) as (λ x. ℕ) [ true ↦ natural_of t | false ↦ 0 ] | false ↦ find 0 calls t ] ≡ calls_in v t
    go true = refl
    go false = refl

taken_same : (ts : List Bytes) (n : ℕ) (b : Bytes) → start_tokens n b ts ≡ taken n (is_count b) ts
unfolding start_tokens taken
taken_same [] n b = refl
taken_same (t ∷ ts) zero b = refl
taken_same (t ∷ ts) (suc n) b = ap (λ l. t ∷ l) (taken_same ts (calls_for b t + n) t ∙ ap (λ k. taken (k + n) (is_count t) ts) (calls_same b t))

no_count : is_count (bytes "ini") ≡ false
unfolding is_count same
no_count = refl

-- the tokens behind some that stand from a place on
pub record Behind (s : Bytes) (at : ℕ) (xs ys : List Bytes) : Type 0 where
  pub tokens_there : parts_from space s (at + span xs) ≡ ys
  pub inside : at + span xs ≤ length s + 1

pub behind : (s : Bytes) (at : ℕ) (xs ys : List Bytes) → at ≤ length s + 1 → parts_from space s at ≡ xs ++ ys → Behind s at xs ys
unfolding span
behind s at [] ys h e = let z : at + 0 ≡ at = omega arith in record { tokens_there = ap (parts_from space s) z ∙ e; inside = omega arith }
behind s at (x ∷ xs) ys h e = go (leb at (length s)) refl (λ k. behind s k xs ys)
  where
    go : (v : Bool) → leb at (length s) ≡ v → ((k : ℕ) → k ≤ length s + 1 → parts_from space s k ≡ xs ++ ys → Behind s k xs ys) → Behind s at (x ∷ xs) ys
    go false q ih = absurd (nil≢cons (sym (from_past space s at (leb-false at (length s) q)) ∙ e))
    go true q ih =
        let i = leb-true at (length s) q in
        let r = first_from s at 32 in
        let l = found s at i in
        let f = sym (from_step space s at r i refl) ∙ e in
        let b = ih (r + 1) (omega arith) (tail-eq_of_cons-eq f) in
        let w : at + (length x + 1 + span xs) ≡ r + 1 + span xs = omega (arith, one_on s at r i refl l, ap (length {A = ℕ}) (head-eq_of_cons-eq f)) in
        record { tokens_there = ap (parts_from space s) w ∙ b.tokens_there; inside = omega (arith, b.inside) }

-- `after`: the tokens after P begin there
module _ (s : Bytes) (at : ℕ) (h : at ≤ length s + 1) where
  abbrev its : List Bytes
  its = start_tokens 1 (bytes "ini") (parts_from space s at)

  pub after_place : after_start s at ≡ at + span its
  after_place = after_start_lem s at ∙ ap (λ (l : List Bytes). at + span l) (sym (taken_same (parts_from space s at) 1 (bytes "ini") ∙ ap (λ c. taken 1 c (parts_from space s at)) no_count))

  behind_it : Behind s at its (trailing 1 (bytes "ini") (parts_from space s at))
  behind_it = behind s at its (trailing 1 (bytes "ini") (parts_from space s at)) h (tokens_split (parts_from space s at) 1 (bytes "ini"))

  pub after_is : parts_from space s (after_start s at) ≡ trailing 1 (bytes "ini") (parts_from space s at)
  after_is = ap (parts_from space s) after_place ∙ behind_it.tokens_there

  pub after_within : (at ≤ after_start s at) × (after_start s at ≤ length s + 1)
  after_within = (omega (arith, after_place), omega (arith, after_place, behind_it.inside))

-- P's bytes: what stands between its places, with the byte after it
pub take_none : (n : ℕ) → take {A = ℕ} n [] ≡ []
take_none zero = refl
take_none (suc n) = refl

pub led_length : (c : ℕ) (xs : List Bytes) → length (led_by c xs) ≡ span xs
unfolding led_by span
led_length c [] = refl
led_length c (x ∷ xs) = omega (arith, length-append x (led_by c xs), led_length c xs)

front : (x : Bytes) (xs ys : List Bytes) (s : Bytes) → parts space s ≡ (x ∷ xs) ++ ys → take (span (x ∷ xs) - 1) s ≡ joined space (x ∷ xs)
unfolding joined span
front x xs ys s e =
    let j : s ≡ (x ++ led_by space xs) ++ led_by space ys = sym (joined_parts space s) ∙ ap (joined space) e ∙ ap (λ l. x ++ l) (led_append space xs ys) ∙ sym (append_assoc x (led_by space xs) (led_by space ys)) in
    ap (take (length x + 1 + span xs - 1)) j ∙ take_at (x ++ led_by space xs) (led_by space ys) (length x + 1 + span xs - 1) (omega (arith, length-append x (led_by space xs), led_length space xs))

-- and they are P's tokens, joined
pub start_bytes : (s : Bytes) (at : ℕ) → at ≤ length s + 1 → take (after_start s at - 1 - at) (drop at s) ≡ joined space (start_tokens 1 (bytes "ini") (parts_from space s at))
unfolding start_tokens joined
start_bytes s at h = by_end (leb at (length s)) refl
  where
    rest : List Bytes
    rest = trailing 1 (bytes "ini") (parts_from space s at)

    go : at ≤ length s → (xs : List Bytes) → start_tokens 1 (bytes "ini") (parts_from space s at) ≡ xs → take (after_start s at - 1 - at) (drop at s) ≡ joined space (start_tokens 1 (bytes "ini") (parts_from space s at))
    go i [] e = absurd (cons≢nil (ap (start_tokens 1 (bytes "ini")) (sym (from_step space s at (first_from s at 32) i refl)) ∙ e))
    go i (x ∷ xs) e =
        let w : after_start s at - 1 - at ≡ span (x ∷ xs) - 1 = omega (arith, after_place s at h, ap span e) in
        let all_of = sym (from_within space s at i) ∙ tokens_split (parts_from space s at) 1 (bytes "ini") ∙ ap (λ l. l ++ rest) e in
        ap (λ n. take n (drop at s)) w ∙ front x xs rest (drop at s) all_of ∙ ap (joined space) (sym e)

    by_end : (v : Bool) → leb at (length s) ≡ v → take (after_start s at - 1 - at) (drop at s) ≡ joined space (start_tokens 1 (bytes "ini") (parts_from space s at))
    by_end true e = go (leb-true at (length s) e) (start_tokens 1 (bytes "ini") (parts_from space s at)) refl
    by_end false e =
        let l = leb-false at (length s) e in
        ap (take (after_start s at - 1 - at)) (sym (rest_past s at l)) ∙ take_none (after_start s at - 1 - at) ∙ ap (λ (k : List Bytes). joined space (start_tokens 1 (bytes "ini") k)) (sym (from_past space s at l))

-- `next`: the P's from a place on, outside of a P
pub record Next (s : Bytes) (from at : ℕ) (b : Bytes) : Type 0 where
  pub first : starts_in 0 b (parts_from space s from) ≡ start_tokens 1 (bytes "ini") (parts_from space s at) ∷ starts_in 0 [] (parts_from space s (after_start s at))
  pub later : from < at
  pub within : at ≤ length s + 1

next_among : (ts : List Bytes) (s : Bytes) (from at : ℕ) (b : Bytes) → from ≤ length s + 1 → parts_from space s from ≡ ts → start_among from ts ≡ Some at → Next s from at b
unfolding start_among span
next_among [] s from at b h e g = let z : ◌≡◌ {A = ℕ} 0 1 = cc in absurd (omega arith)
next_among (t ∷ ts) s from at b h e g = go (same t (bytes "ini")) refl g (λ i. next_among ts s (from + length t + 1) at t i)
  where
    after_t : Behind s from (t ∷ []) ts
    after_t = behind s from (t ∷ []) ts h e

    place : from + length t + 1 ≡ from + span (t ∷ [])
    place = omega arith

    there : parts_from space s (from + length t + 1) ≡ ts
    there = ap (parts_from space s) place ∙ after_t.tokens_there

    go : (v : Bool) → same t (bytes "ini") ≡ v → elim v as (λ x. Option ℕ) [ true ↦ Some (from + length t + 1) | false ↦ start_among (from + length t + 1) ts ] ≡ Some at
        → (from + length t + 1 ≤ length s + 1 → parts_from space s (from + length t + 1) ≡ ts → start_among (from + length t + 1) ts ≡ Some at → Next s (from + length t + 1) at t) → Next s from at b
    go true q k ih =
        let p : from + length t + 1 ≡ at = cc in
        let i = after_t.inside in
        let l : at ≤ length s + 1 = omega arith in
        let u : parts_from space s at ≡ ts = ap (parts_from space s) (sym p) ∙ there in
        let w : starts_in 1 (bytes "ini") (parts_from space s at) ≡ starts_in 0 [] (parts_from space s (after_start s at)) = starts_later (parts_from space s at) 1 (bytes "ini") [] ∙ ap (starts_in 0 []) (sym (after_is s at l)) in
        record {
          first =
              ap (starts_in 0 b) e ∙ ap (λ x. starts_in 0 b (x ∷ ts)) (same_is t (bytes "ini") q) ∙ starts_ini b ts
              ∙ ap (λ l. start_tokens 1 (bytes "ini") l ∷ starts_in 1 (bytes "ini") l) (sym u) ∙ ap (λ l. start_tokens 1 (bytes "ini") (parts_from space s at) ∷ l) w;
          later = omega arith;
          within = l;
        }
    go false q k ih =
        let i = after_t.inside in
        let n = ih (omega arith) there k in
        record {
          first = ap (starts_in 0 b) e ∙ starts_other b t ts q ∙ ap (starts_in 0 t) (sym there) ∙ n.first;
          later = omega (arith, n.later);
          within = n.within;
        }

pub next_is : (s : Bytes) (from at : ℕ) (b : Bytes) → from ≤ length s + 1 → next_start s from ≡ Some at → Next s from at b
next_is s from at b h e = next_among (parts_from space s from) s from at b h refl (sym (next_start_lem s from) ∙ e)

none_among : (ts : List Bytes) (at : ℕ) (b : Bytes) → start_among at ts ≡ None → starts_in 0 b ts ≡ []
unfolding start_among starts_in
none_among [] at b g = refl
none_among (t ∷ ts) at b g = go (same t (bytes "ini")) refl g (none_among ts (at + length t + 1) t)
  where
    go : (v : Bool) → same t (bytes "ini") ≡ v → elim v as (λ x. Option ℕ) [ true ↦ Some (at + length t + 1) | false ↦ start_among (at + length t + 1) ts ] ≡ None → (start_among (at + length t + 1) ts ≡ None → starts_in 0 t ts ≡ []) → starts_in 0 b (t ∷ ts) ≡ []
    go true q k ih = let z : ◌≡◌ {A = ℕ} 0 1 = cc in absurd (omega arith)
    go false q k ih = starts_other b t ts q ∙ ih k

pub none_is : (s : Bytes) (from : ℕ) (b : Bytes) → next_start s from ≡ None → starts_in 0 b (parts_from space s from) ≡ []
none_is s from b e = none_among (parts_from space s from) from b (sym (next_start_lem s from) ∙ e)
