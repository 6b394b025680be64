-- Laws of writing on.
use Prim.Native.Nat.{ℕ, suc, ◌+◌, ◌-◌, ◌≤◌, ◌<◌}
use mathlib.Core.Path.{◌≡◌, refl, sym, ◌∙◌, ap, subst}
use mathlib.Core.Bool.{Bool, true, false}
use mathlib.Core.List.{[], ◌∷◌, ◌++◌, append_assoc, append-nil}
use native.Mathlib.Omega.{arith}
use borrow.Author.Tests.{le-leb, lt-leb, leb-true, leb-false, lt-ltb, le-ltb}
use lib.ListN.{length, take, drop, length-append, length-take}
use lib.Seq.{take_at, length-take-le}
use lib.Dec.{leb, ltb}
use Rattle.std.specs.Prelude.{Option, Some, None}
use Rattle.std.proofs.Common.{◌⊎◌, inl, inr}
use Rattle.format.specs.Bytes.{Bytes}
use Rattle.format.specs.Number.{decimal, signed}
use Rattle.model.specs.Bounds.{bias}
use Rattle.model.specs.Table.{unbiased}
use Rattle.text_bytes.specs.Write.{fits, written_to, after, Wrote}
use Rattle.write_words.specs.declared.growing.Part.{Part}
use Rattle.write_words.specs.declared.growing.Text.{Text}
use Rattle.write_words.specs.Growing.{held, more, Grew, between, part_text}

-- there is room for what a buffer holds
pub more_none : (at : Option ℕ) (b : Bytes) → more (length b) (held at b) [] ≡ held at b
unfolding more held
more_none None b = refl
more_none (Some n) b = go (leb n (length b)) refl
  where
    go : (f : Bool) → leb n (length b) ≡ f → more (length b) (held (Some n) b) [] ≡ held (Some n) b
    go false e = rw (e, held)
    go true e =
        let h = leb-true n (length b) e in
        let l : length (take n b) + 0 ≤ length b = simp length-take (omega arith) in
        rw (e, held) (ap (λ (x : Bool). elim x [ true ↦ Some (take n b ++ []) | false ↦ None ]) (le-leb (length (take n b) + 0) (length b) l) ∙ ap Some (append-nil (take n b)))

-- what a buffer holds before a place, by whether the place is within it
pub held_in : (n : ℕ) (b : Bytes) → n ≤ length b → held (Some n) b ≡ Some (take n b)
unfolding held
held_in n b h = rw (le-leb n (length b) h, held)

pub held_past : (n : ℕ) (b : Bytes) → length b < n → held (Some n) b ≡ None
unfolding held
held_past n b h = rw (lt-leb n (length b) h, held)

pub more_fits : (room : ℕ) (s t : Bytes) → length s + length t ≤ room → more room (Some s) t ≡ Some (s ++ t)
unfolding more
more_fits room s t h = rw (le-leb (length s + length t) room h, more)

pub more_full : (room : ℕ) (s t : Bytes) → room < length s + length t → more room (Some s) t ≡ None
unfolding more
more_full room s t h = rw (lt-leb (length s + length t) room h, more)

more_nothing : (room : ℕ) (t : Bytes) → more room None t ≡ None
unfolding more
more_nothing room t = refl

pub held_full : (b : Bytes) → held None b ≡ None
unfolding held
held_full b = refl

-- first the one text, then the other
pub more_more : (room : ℕ) (s : Option Bytes) (t u : Bytes) → more room (more room s t) u ≡ more room s (t ++ u)
more_more room None t u = rw (more_nothing room t, more_nothing room u) (sym (more_nothing room (t ++ u)))
more_more room (Some s) t u = go (leb (length s + length t) room) refl
  where
    both : length s + length t ≤ room → (f : Bool) → leb (length s + length t + length u) room ≡ f → more room (Some (s ++ t)) u ≡ more room (Some s) (t ++ u)
    both h true f =
        let k = leb-true (length s + length t + length u) room f in
        let a : length (s ++ t) + length u ≤ room = simp length-append (omega arith) in
        let b : length s + length (t ++ u) ≤ room = simp length-append (omega arith) in
        more_fits room (s ++ t) u a ∙ ap Some (append_assoc s t u) ∙ sym (more_fits room s (t ++ u) b)
    both h false f =
        let k = leb-false (length s + length t + length u) room f in
        let a : room < length (s ++ t) + length u = simp length-append (omega arith) in
        let b : room < length s + length (t ++ u) = simp length-append (omega arith) in
        more_full room (s ++ t) u a ∙ sym (more_full room s (t ++ u) b)

    go : (f : Bool) → leb (length s + length t) room ≡ f → more room (more room (Some s) t) u ≡ more room (Some s) (t ++ u)
    go true e =
        let h = leb-true (length s + length t) room e in
        rw (more_fits room s t h) (both h (leb (length s + length t + length u) room) refl)
    go false e =
        let h = leb-false (length s + length t) room e in
        let l : room < length s + length (t ++ u) = simp length-append (omega arith) in
        ap (λ (o : Option Bytes). more room o u) (more_full room s t h) ∙ more_nothing room u ∙ sym (more_full room s (t ++ u) l)

pub grew_none : (x : Text) → Grew [] x x
grew_none x = record { text = sym (more_none x.end x.bytes.now); long = refl; lent = refl }

pub grew_full : (t : Bytes) (x : Text) → x.end ≡ None → Grew t x x
unfolding held more
grew_full t x e = record { text = rw e; long = refl; lent = refl }

pub grew_then : (t u : Bytes) (a b c : Text) → Grew t a b → Grew u b c → Grew (t ++ u) a c
grew_then t u a b c g h =
    record {
      text = h.text ∙ rw (g.long, g.text) (more_more (length a.bytes.now) (held a.end a.bytes.now) t u);
      long = h.long ∙ g.long;
      lent = h.lent ∙ g.lent;
    }

-- what is written from a place on
wrote_held : (t : Bytes) (n : ℕ) (r : Option ℕ) (old new : Bytes) → Wrote t n old new r → held r new ≡ more (length old) (held (Some n) old) t
unfolding written_to after fits
wrote_held t n r old new w = go (leb (n + length t) (length old)) refl
  where
    short : length old < n + length t → (f : Bool) → leb n (length old) ≡ f → None ≡ more (length old) (held (Some n) old) t
    short h true f =
        let l = leb-true n (length old) f in
        let k : length old < length (take n old) + length t = rw (length-take-le n old l) h in
        rw (held_in n old l) (sym (more_full (length old) (take n old) t k))
    short h false f = rw (held_past n old (leb-false n (length old) f)) (sym (more_nothing (length old) t))

    go : (f : Bool) → leb (n + length t) (length old) ≡ f → held r new ≡ more (length old) (held (Some n) old) t
    go true f =
        let h = leb-true (n + length t) (length old) f in
        let l : n ≤ length old = omega arith in
        let ll = length-take-le n old l in
        let a : r ≡ Some (n + length t) = w.answer ∙ rw (f, written_to) in
        let m : new ≡ (take n old ++ t) ++ drop (n + length t) old = w.memory ∙ rw (f, after) in
        let k : n + length t ≤ length new = rw w.long h in
        let j : length (take n old ++ t) ≡ n + length t = rw (length-append (take n old) t, ll) in
        let i : length (take n old) + length t ≤ length old = rw ll h in
        rw (a, held_in (n + length t) new k, held_in n old l, more_fits (length old) (take n old) t i)
        (ap Some (ap (take (n + length t)) m ∙ take_at (take n old ++ t) (drop (n + length t) old) (n + length t) j))
    go false f =
        let h = leb-false (n + length t) (length old) f in
        let a : r ≡ None = w.answer ∙ rw (f, written_to) in
        rw (a, held_full new) (short h (leb n (length old)) refl)

pub wrote_grew : (t : Bytes) (n : ℕ) (x : Text) (out : Bytes) (r : Option ℕ) → x.end ≡ Some n → Wrote t n x.bytes.now out r → Grew t x (record { bytes = record x.bytes { now = out }; end = r })
wrote_grew t n x out r e w =
    record {
      text = wrote_held t n r x.bytes.now out w ∙ ap (λ (y : Option ℕ). more (length x.bytes.now) (held y x.bytes.now) t) (sym e);
      long = w.long;
      lent = refl;
    }

-- before the first item nothing, and else the mark
pub apart_first : (mark : Bytes) (first : Bool) (x : Text) → first ≡ true → Grew (between first mark) x x
unfolding between
apart_first mark first x e = rw e (grew_none x)

pub apart_later : (mark : Bytes) (first : Bool) (old new : Text) → first ≡ false → Grew mark old new → Grew (between first mark) old new
unfolding between
apart_later mark first old new e g = rw e g

-- a biased word is below or not below the bias
pub biased_below : (w : ℕ) (old mid new : Text) → w < bias → Grew (45 ∷ []) old mid → Grew (decimal (bias - w)) mid new → Grew (signed (unbiased w)) old new
unfolding unbiased signed
biased_below w old mid new h g k =
    let e : suc (bias - suc w) ≡ bias - w = omega arith in
    rw (lt-leb bias w h, unbiased, e) (grew_then (45 ∷ []) (decimal (bias - w)) old mid new g k)

pub biased_above : (w : ℕ) (old new : Text) → bias ≤ w → Grew (decimal (w - bias)) old new → Grew (signed (unbiased w)) old new
unfolding unbiased signed
biased_above w old new h g = rw (le-leb bias w h, unbiased) g

-- `put_part`
module _ (row : Bytes) (p : Part) (old : Text) where
  pub part_none : (p.to < p.from) ⊎ (length row < p.to) → Grew (part_text row p) old old
  unfolding part_text
  part_none (inl h) = rw (lt-ltb p.to p.from h, part_text) (grew_none old)
  part_none (inr h) = go (ltb p.to p.from) refl
    where
      go : (b : Bool) → ltb p.to p.from ≡ b → Grew (part_text row p) old old
      go true e = rw (e, part_text) (grew_none old)
      go false e = rw (e, part_text, lt-ltb (length row) p.to h, part_text) (grew_none old)

  pub part_some : p.from ≤ p.to → p.to ≤ length row → (s : Bytes) → s ≡ take (p.to - p.from) (drop p.from row) → (new : Text) → Grew s old new → Grew (part_text row p) old new
  unfolding part_text
  part_some h k s e new g = rw (le-ltb p.to p.from h, part_text, le-ltb (length row) p.to k, part_text, ← e) g

pub ruleset growing_laws = (grew_full, wrote_grew, apart_first, apart_later, biased_below, biased_above, part_none, part_some)

-- a part that is a text
pub part_grew : (row t : Bytes) (p q : Part) → p ≡ q → part_text row q ≡ t → (old new : Text) → Grew (part_text row p) old new → Grew t old new
part_grew row t p q e f old new g = subst (λ (x : Bytes). Grew x old new) (ap (part_text row) e ∙ f) g
