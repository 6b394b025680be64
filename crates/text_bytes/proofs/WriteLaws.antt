-- Laws of writing: what each way out of the code shows.
use Prim.Native.Nat.{ℕ, zero, suc, ◌+◌, ◌-◌, ◌*◌, ◌/◌, ◌%◌, ◌^◌, ◌≤◌, ◌<◌}
use mathlib.Core.Path.{◌≡◌, refl, sym, ◌∙◌, ap}
use mathlib.Core.Bool.{true, false, true≢false}
use mathlib.Core.List.{List, ◌∷◌, ◌++◌, append-nil, append_assoc}
use native.Mathlib.Numerals.{add-one}
use native.Mathlib.Omega.{arith}
use borrow.Author.Tests.{le-leb, lt-leb, ltb-true}
use lib.ListN.{length, get_or, take, drop, set, length-set, length-drop, drop_of_length-le}
use borrow.Rule.Slice.PartMut.{put_mid, mid_of, Post-is, same_len_mid}
use Rattle.std.proofs.Common.{length-take-le}
use lib.Seq.{paste, paste-suc, paste-zero, take_all, drop-cons, drop-set-lt, get_or-set_same, append_snoc}
use lib.Dec.{T}
use lib.IntN.{ℤ, pos, negsuc, nat_abs, ◌-ℤ◌}
use lib.Signed.{lt_z, le_z, non_neg}
use mir.Syntax.{w32, w64}
use mir.Val.{SFits, Fits, to_z, of_z}
use mir.ValLaws.{to_z-of_z}
use Rattle.format.specs.Number.{decimal, signed}
use Rattle.format.proofs.NumberLaws.{decimal_small, decimal_step}
use Rattle.arithmetic.proofs.Signed.{widened}
use Rattle.text_bytes.specs.Write.{fits, written_to, after, Wrote, Spells}
use Rattle.std.specs.Prelude.{Option, Some, None}
use Rattle.text_bytes.specs.declared.write.Spelled.{Spelled}

-- no room, or room
module _ (t : List ℕ) (at : ℕ) (old : List ℕ) where
  full : length old < at + length t → Wrote t at old old None
  unfolding written_to after fits
  full h =
      let e : fits t at old ≡ false = lt-leb (at + length t) (length old) h in
      record { answer = rw (e, written_to); memory = rw (e, after); long = refl }

  pub copy_past : length old < at → Wrote t at old old None
  copy_past h = full (omega arith)

  pub copy_full : at ≤ length old → length old - at < length t → Wrote t at old old None
  copy_full h k = full (omega arith)

  pub copy_in : at ≤ length old → length t ≤ length old - at → (new : List ℕ) → new ≡ t → Wrote t at old (put_mid at (at + length t - at) old new) (Some (at + length t))
  unfolding written_to after fits
  copy_in h k new e =
      let f : fits t at old ≡ true = le-leb (at + length t) (length old) (omega arith) in
      let l : length t ≡ length (mid_of at (at + length t - at) old) = sym (length-take-le (at + length t - at) (drop at old) (omega (arith, length-drop at old)) ∙ omega arith) in
      let m : put_mid at (at + length t - at) old t ≡ after t at old = ap (λ (x : List ℕ). take at old ++ (t ++ x)) (Post-is at (at + length t) old (omega arith)) ∙ rw (f, after) (sym (append_assoc (take at old) t (drop (at + length t) old))) in
      record { answer = rw (f, written_to); memory = rw e m; long = rw e (same_len_mid at (at + length t - at) old t l) }

-- 10 to the n
unfoldable pub tens : ℕ → ℕ
tens zero = 1
tens (suc n) = tens n * 10

-- what is stored before a place stands in front of what follows it
before : (l : List ℕ) (i v : ℕ) → 0 < i → i ≤ length l → drop (i - 1) (set l (i - 1) v) ≡ v ∷ drop i l
before l zero v h k = absurd (omega arith)
before l (suc i) v h k =
    let e : suc i - 1 ≡ i = omega arith in
    rw (e, drop-cons (set l i v) i 0 (rw (length-set l i v) (omega arith)), get_or-set_same l i v 0 (omega arith), drop-set-lt (suc i) l i v (omega arith))

-- the state of `spell`: the digits from the place i on, and those of `rest`, are the number's; there is room for those
pub record Spelling (n i rest : ℕ) (l : List ℕ) : Type 0 where
  pub text : decimal n ≡ decimal rest ++ drop i l
  pub room : 2 ≤ i
  pub few : rest < tens (i - 1)
  pub inside : i ≤ 11
  pub long : length l ≡ 11

pub spell_start : (n : ℕ) (l : List ℕ) → n < 4294967296 → length l ≡ 11 → Spelling n 11 n l
unfolding tens
spell_start n l h k =
    let z : length l ≤ 11 = omega arith in
    record {
      text = rw (drop_of_length-le l z, append-nil);
      room = omega arith;
      few = omega arith;
      inside = omega arith;
      long = k;
    }

fewer : (i rest : ℕ) → 2 ≤ i → 10 ≤ rest → rest < tens (i - 1) → (2 ≤ i - 1) × (rest / 10 < tens (i - 1 - 1))
unfolding tens
fewer zero rest h k l = absurd (omega arith)
fewer (suc zero) rest h k l = absurd (omega arith)
fewer (suc (suc zero)) rest h k l = absurd (omega arith)
fewer (suc (suc (suc i))) rest h k l =
    let a : suc (suc (suc i)) - 1 ≡ suc (suc i) = omega arith in
    let b : suc (suc i) - 1 ≡ suc i = omega arith in
    let m : rest < tens (suc (suc i)) = rw a at l in
    (omega arith, rw (a, b) (omega arith))

module _ (n i rest : ℕ) (l : List ℕ) (inv : Spelling n i rest l) (d : ℕ) (e : d ≡ 48 + rest % 10) where
  pub spell_go : 10 ≤ rest → Spelling n (i - 1) (rest / 10) (set l (i - 1) d)
  spell_go h =
      let f = fewer i rest inv.room h inv.few in
      record {
        text = inv.text ∙ rw (decimal_step rest h, append_snoc, ← e, before l i d (omega (arith, inv.room)) (omega (arith, inv.inside, inv.long)));
        room = f.0;
        few = f.1;
        inside = omega (arith, inv.inside);
        long = length-set l (i - 1) d ∙ inv.long;
      }

  pub spell_last : rest < 10 → Spells 1 (decimal n) (record { bytes = set l (i - 1) d; from = i - 1 })
  spell_last h =
      let z : d ≡ 48 + rest = omega arith in
      record {
        text = before l i d (omega (arith, inv.room)) (omega (arith, inv.inside, inv.long)) ∙ rw z (ap (λ (t : List ℕ). t ++ drop i l) (sym (decimal_small rest h))) ∙ sym inv.text;
        room = omega (arith, inv.room);
        inside = omega (arith, inv.inside);
        long = length-set l (i - 1) d ∙ inv.long;
      }

pub ruleset spell_laws = (spell_start, spell_go, spell_last)

-- the bytes of a spelled number, lent as the code lends them, are its text
pub write_spelled : (spare : ℕ) (t : List ℕ) (r : Spelled) (at : ℕ) (old new : List ℕ) (a : Option ℕ) → Spells spare t r → Wrote (take (11 - r.from) (drop r.from r.bytes)) at old new a → Wrote t at old new a
write_spelled spare t r at old new a s w =
    let l : length (drop r.from r.bytes) ≤ 11 - r.from = omega (arith, length-drop r.from r.bytes, s.long) in
    rw (take_all (11 - r.from) (drop r.from r.bytes) l, s.text) at w

-- each way out of `spell_signed`
signed_more : (z : ℤ) → le_z (pos 0) z ≡ true → decimal (nat_abs z) ≡ signed z
unfolding signed
signed_more (pos n) h = refl
signed_more (negsuc n) h = absurd (true≢false (sym h))

signed_less : (z : ℤ) → le_z (pos 0) z ≡ false → 45 ∷ decimal (nat_abs z) ≡ signed z
unfolding signed
signed_less (pos n) h = absurd (true≢false (sym (le-leb 0 n (omega arith)) ∙ h))
signed_less (negsuc n) h = refl

module _ (z : ℤ) (m : ℕ) (t : Spelled) (f : SFits w32 z) (e : m ≡ nat_abs (to_z w32 (of_z w32 z))) (s : Spells 1 (decimal m) t) where
  same_size : m ≡ nat_abs z
  same_size = rw (to_z-of_z w32 z f) at e

  pub signed_plain : le_z (pos 0) (to_z w32 (of_z w32 z)) ≡ true → Spells 0 (signed z) t
  signed_plain h =
      record {
        text = s.text ∙ ap decimal same_size ∙ signed_more z (rw (to_z-of_z w32 z f) at h);
        room = omega arith;
        inside = s.inside;
        long = s.long;
      }

  pub signed_minus : le_z (pos 0) (to_z w32 (of_z w32 z)) ≡ false → Spells 0 (signed z) (record { bytes = set t.bytes (t.from - 1) 45; from = t.from - 1 })
  signed_minus h =
      record {
        text = before t.bytes t.from 45 s.room (omega (arith, s.inside, s.long)) ∙ ap (λ (l : List ℕ). 45 ∷ l) (s.text ∙ ap decimal same_size) ∙ signed_less z (rw (to_z-of_z w32 z f) at h);
        room = omega arith;
        inside = omega (arith, s.inside);
        long = length-set t.bytes (t.from - 1) 45 ∙ s.long;
      }

pub ruleset signed_laws = (signed_plain, signed_minus)

pub write_signed : (z : ℤ) (r : Spelled) (at : ℕ) (old new : List ℕ) (a : Option ℕ) → SFits w32 z → Spells 0 (signed (to_z w32 (of_z w32 z))) r → Wrote (take (11 - r.from) (drop r.from r.bytes)) at old new a → Wrote (signed z) at old new a
write_signed z r at old new a f s w = write_spelled 0 (signed z) r at old new a (rw (to_z-of_z w32 z f) at s) w
