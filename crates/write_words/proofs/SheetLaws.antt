-- Each way out of the code of src/sheet.rt and src/lib.rt.
use Prim.Native.Nat.{ℕ, suc, ◌+◌, ◌-◌, ◌≤◌, ◌<◌}
use mathlib.Core.Path.{◌≡◌, refl, sym, ◌∙◌, ap, ap₂}
use mathlib.Core.Bool.{Bool, true, false}
use mathlib.Core.List.{List, [], ◌++◌}
use native.Mathlib.Omega.{arith}
use native.Mathlib.Nat.{zero-add}
use borrow.Author.Tests.{le-leb, lt-leb, leb-true, leb-false, lt-ltb, le-ltb}
use lib.ListN.{length, get_or, take, drop, length-append, length-drop}
use lib.Seq.{length-take-le}
use lib.Dec.{leb}
use Rattle.model.specs.Bounds.{table_words}
use Rattle.std.specs.Prelude.{Option, Some, None, Ok, Err}
use Rattle.model.specs.Row.{row}
use Rattle.format.specs.Bytes.{Bytes}
use Rattle.format.specs.Writer.{row35, WriteAnswer as Answer, unwritten, written, with_text, buffer_after}
use Rattle.std.proofs.lemmas.Option.{none-some, same_Some}
use Rattle.line_order.specs.declared.Due.{Due}
use Rattle.line_order.specs.Due.{is_end, due_first, due_after}
use Rattle.table_places.specs.Outline.{reach}
use Rattle.text_bytes.specs.Write.{fits, written_to}
use Rattle.write_words.specs.declared.growing.Text.{Text}
use Rattle.write_words.specs.Growing.{held, more, Grew}
use Rattle.write_words.specs.Text.{entry_of, size_of, lines_from, sheet_text}
use Rattle.write_words.specs.Answer.{Spelt, copy_answer, room_answer, given, Answered}
use Rattle.write_words.proofs.GrowingLaws.{held_in, held_past, held_full, more_none, more_more, more_fits, more_full}
use Rattle.table_places.proofs.OutlineLaws.{reach_drop}

-- with `rest` still to be written on, it comes to the whole
pub record Going (rest whole : Bytes) (old cur : Text) : Type 0 where
  pub text : more (length old.bytes.now) (held cur.end cur.bytes.now) rest ≡ more (length old.bytes.now) (held old.end old.bytes.now) whole
  pub long : length cur.bytes.now ≡ length old.bytes.now
  pub lent : cur.bytes.ghost_name ≡ old.bytes.ghost_name

-- the rounds, and a round's lines
abbrev pub rounds : ℕ
rounds = table_words + 1

pub lines_end : (n : ℕ) (d : Due) (ws : List ℕ) → is_end d.key ≡ true → lines_from (suc n) d ws ≡ []
unfolding lines_from
lines_end n d ws e = ap (λ (b : Bool). elim b [ true ↦ [] | false ↦ entry_of d ws ++ lines_from n (due_after d (get_or ws 0 0)) (drop (size_of d.key ws) ws) ]) e

pub lines_on : (n : ℕ) (d : Due) (ws : List ℕ) → is_end d.key ≡ false → lines_from (suc n) d ws ≡ entry_of d ws ++ lines_from n (due_after d (get_or ws 0 0)) (drop (size_of d.key ws) ws)
unfolding lines_from
lines_on n d ws e = ap (λ (b : Bool). elim b [ true ↦ [] | false ↦ entry_of d ws ++ lines_from n (due_after d (get_or ws 0 0)) (drop (size_of d.key ws) ws) ]) e

module _ (t : List ℕ) (old : Text) where
  pub lines_first : (d : Due) → d ≡ due_first → Going (lines_from (rounds - 0) d (drop 0 t)) (sheet_text t) old old
  unfolding sheet_text
  lines_first d e = rw e (record { text = refl; long = refl; lent = refl })

  module _ (i : ℕ) (d : Due) (at : ℕ) (cur : Text) (inv : Going (lines_from (rounds - i) d (drop at t)) (sheet_text t) old cur) where
    nothing_left : lines_from (rounds - i) d (drop at t) ≡ [] → Grew (sheet_text t) old cur
    nothing_left e =
        let so_far = held cur.end cur.bytes.now in
        let same : more (length old.bytes.now) so_far [] ≡ so_far = rw (← inv.long) (more_none cur.end cur.bytes.now) in
        record { text = sym same ∙ rw e at inv.text; long = inv.long; lent = inv.lent }

    pub lines_spent : rounds ≤ i → Grew (sheet_text t) old cur
    unfolding lines_from
    lines_spent h =
        let z : rounds - i ≡ 0 = omega arith in
        nothing_left (ap (λ (n : ℕ). lines_from n d (drop at t)) z)

    module _ (z : i < rounds) (e : Bool) (he : e ≡ is_end d.key) where
      left : ℕ
      left = rounds - (i + 1)

      one_more_lem : rounds - i ≡ suc left
      unfolding left
      one_more_lem = omega arith

      pub lines_over : e ≡ true → Grew (sheet_text t) old cur
      lines_over h = nothing_left (ap (λ (n : ℕ). lines_from n d (drop at t)) one_more_lem ∙ lines_end left d (drop at t) (sym he ∙ h))

      pub lines_next : e ≡ false → (a b c : List ℕ) → a ≡ drop at t → b ≡ drop at t → c ≡ drop at t → (new : Text) → Grew (entry_of d a) cur new
          → (n : ℕ) → n ≡ get_or b 0 0 → (d' : Due) → d' ≡ due_after d n → (s : ℕ) → s ≡ size_of d.key c → (at' : ℕ) → at' ≡ reach t at s
          → Going (lines_from (rounds - (i + 1)) d' (drop at' t)) (sheet_text t) old new
      unfolding left
      lines_next h a b c ea eb ec new g n en d' ed s es at' et =
          let ws = drop at t in
          let room = length old.bytes.now in
          let so_far = held cur.end cur.bytes.now in
          let then = held new.end new.bytes.now in
          let line = entry_of d ws in
          let rest = lines_from left (due_after d (get_or ws 0 0)) (drop (size_of d.key ws) ws) in
          let is : lines_from (rounds - i) d ws ≡ line ++ rest = ap (λ (n : ℕ). lines_from n d ws) one_more_lem ∙ lines_on left d ws (sym he ∙ h) in
          let due : d' ≡ due_after d (get_or ws 0 0) = ed ∙ ap (due_after d) (en ∙ ap (λ (l : List ℕ). get_or l 0 0) eb) in
          let stands : drop at' t ≡ drop (size_of d.key ws) ws = ap (λ (n : ℕ). drop n t) et ∙ reach_drop t at s ∙ ap (λ (n : ℕ). drop n ws) (es ∙ ap (size_of d.key) ec) in
          let later : lines_from left d' (drop at' t) ≡ rest = ap (λ (x : Due). lines_from left x (drop at' t)) due ∙ ap (lines_from left (due_after d (get_or ws 0 0))) stands in
          let grown : then ≡ more room so_far line = g.text ∙ ap (λ (n : ℕ). more n so_far (entry_of d a)) inv.long ∙ ap (λ (l : List ℕ). more room so_far (entry_of d l)) ea in
          record {
            text =
                ap (more room then) later ∙
                ap (λ (o : Option Bytes). more room o rest) grown ∙
                more_more room so_far line rest ∙
                ap (more room so_far) (sym is) ∙
                inv.text;
            long = g.long ∙ inv.long;
            lent = g.lent ∙ inv.lent;
          }

pub ruleset lines_laws = (lines_first, lines_spent, lines_over, lines_next)

-- `spell`
written_in : (t old : Bytes) → length t ≤ length old → written_to t 0 old ≡ Some (length t)
unfolding written_to fits
written_in t old h =
    let f : leb (0 + length t) (length old) ≡ true = rw (zero-add (length t)) (le-leb (length t) (length old) h) in
    rw (f, written_to) (ap Some (zero-add (length t)))

written_out : (t old : Bytes) → length old < length t → written_to t 0 old ≡ None
unfolding written_to fits
written_out t old h =
    let f : leb (0 + length t) (length old) ≡ false = rw (zero-add (length t)) (lt-leb (length t) (length old) h) in
    rw (f, written_to)

from_start : (old t : Bytes) (b : Bool) → leb (length t) (length old) ≡ b → more (length old) (held (Some 0) old) t ≡ elim b [ true ↦ Some t | false ↦ None ]
from_start old t true e =
    let h : 0 + length t ≤ length old = rw (zero-add (length t)) (leb-true (length t) (length old) e) in
    ap (λ (o : Option Bytes). more (length old) o t) (held_in 0 old (omega arith)) ∙ more_fits (length old) [] t h
from_start old t false e =
    let h : length old < 0 + length t = rw (zero-add (length t)) (leb-false (length t) (length old) e) in
    ap (λ (o : Option Bytes). more (length old) o t) (held_in 0 old (omega arith)) ∙ more_full (length old) [] t h

-- a text from the start, in a buffer that is `old` before and `new` after
module _ (t : Bytes) (x y : Text) (g : Grew t x y) (s : x.end ≡ Some 0) (old new : Bytes) (o : old ≡ x.bytes.now) (w : x.bytes.ghost_name ≡ y.bytes.ghost_name → new ≡ y.bytes.now) where
  in_new : new ≡ y.bytes.now
  in_new = w (sym g.lent)

  same_room : length new ≡ length old
  same_room = ap length in_new ∙ g.long ∙ ap length (sym o)

  is_held : (b : Bool) → leb (length t) (length old) ≡ b → held y.end new ≡ elim b [ true ↦ Some t | false ↦ None ]
  is_held b f =
      rw in_new
      (g.text ∙ ap₂ (λ (r : Option ℕ) (l : Bytes). more (length l) (held r l) t) s (sym o) ∙ from_start old t b f)

  no_room : held y.end new ≡ None → Spelt t old new None
  no_room e = go (leb (length t) (length old)) refl
    where
      go : (b : Bool) → leb (length t) (length old) ≡ b → Spelt t old new None
      go true f = absurd (none-some t (sym e ∙ is_held true f))
      go false f =
          let h = leb-false (length t) (length old) f in
          record { answer = sym (written_out t old h); text = λ k. absurd (omega arith); long = same_room }

  pub spell_full : y.end ≡ None → (r : Option ℕ) → r ≡ None → Spelt t old new r
  spell_full e r f = rw f (no_room (ap (λ (a : Option ℕ). held a new) e ∙ held_full new))

  module _ (n : ℕ) (e : y.end ≡ Some n) where
    pub spell_past : length y.bytes.now < n → Spelt t old new None
    spell_past h =
        let k : length new < n = rw in_new h in
        no_room (ap (λ (a : Option ℕ). held a new) e ∙ held_past n new k)

    pub spell_in : n ≤ length y.bytes.now → Spelt t old new (Some n)
    spell_in h = go (leb (length t) (length old)) refl
      where
        k : n ≤ length new
        k = rw in_new h

        is : held y.end new ≡ Some (take n new)
        is = ap (λ (a : Option ℕ). held a new) e ∙ held_in n new k

        go : (b : Bool) → leb (length t) (length old) ≡ b → Spelt t old new (Some n)
        go true f =
            let u : take n new ≡ t = same_Some (take n new) t (sym is ∙ is_held true f) in
            let l : n ≡ length t = sym (length-take-le n new k) ∙ ap length u in
            record {
              answer = ap Some l ∙ sym (written_in t old (leb-true (length t) (length old) f));
              text = λ _. ap (λ (i : ℕ). take i new) (sym l) ∙ u;
              long = same_room;
            }
        go false f = absurd (none-some (take n new) (sym (sym is ∙ is_held false f)))

pub ruleset spell_laws = (spell_full, spell_past, spell_in)

-- `deliver`: by whether there is room for the text
module _ (t old : Bytes) where
  no_room_answer : length old < length t → copy_answer t (length old) ≡ unwritten 35
  unfolding copy_answer row35
  no_room_answer h = ap (λ (b : Bool). elim b [ true ↦ unwritten 35 | false ↦ written t ]) (lt-ltb (length old) (length t) h)

  room_answer_lem : length t ≤ length old → copy_answer t (length old) ≡ written t
  unfolding copy_answer row35
  room_answer_lem h = ap (λ (b : Bool). elim b [ true ↦ unwritten 35 | false ↦ written t ]) (le-ltb (length old) (length t) h)

-- what was spelled, by the answer
module _ (t room text : Bytes) (r : Option ℕ) (s : Spelt t room text r) where
  spelt_out : r ≡ None → length room < length t
  spelt_out e = go (leb (length t) (length room)) refl
    where
      go : (b : Bool) → leb (length t) (length room) ≡ b → length room < length t
      go true f =
          let z : None ≡ Some (length t) = sym e ∙ s.answer ∙ written_in t room (leb-true (length t) (length room) f) in
          let x : ◌≡◌ {A = ℕ} 0 1 = cc in
          absurd (omega arith)
      go false f = leb-false (length t) (length room) f

  module _ (n : ℕ) (e : r ≡ Some n) where
    spelt_room : length t ≤ length room
    spelt_room = go (leb (length t) (length room)) refl
      where
        go : (b : Bool) → leb (length t) (length room) ≡ b → length t ≤ length room
        go true f = leb-true (length t) (length room) f
        go false f =
            let z : Some n ≡ None = sym e ∙ s.answer ∙ written_out t room (leb-false (length t) (length room) f) in
            let x : ◌≡◌ {A = ℕ} 0 1 = cc in
            absurd (omega arith)

    spelt_size : n ≡ length t
    spelt_size = let z : Some n ≡ Some (length t) = sym e ∙ s.answer ∙ written_in t room spelt_room in cc

    pub spelt_within : n ≤ length text
    spelt_within = let a = spelt_room in let b = spelt_size in let c = s.long in omega arith

    pub spelt_long : n ≡ length (take n text)
    spelt_long = sym (length-take-le n text spelt_within)

    spelt_text : take n text ≡ t
    spelt_text = ap (λ (i : ℕ). take i text) spelt_size ∙ s.text spelt_room

-- the answer and the buffer of `deliver`, by both rooms
module _ (t : Bytes) (room : ℕ) (old : Bytes) where
  short_of : length old < length t → room_answer room t (length old) ≡ unwritten 35
  unfolding room_answer
  short_of h = go (row35 room t) refl
    where
      go : (b : Bool) → row35 room t ≡ b → room_answer room t (length old) ≡ unwritten 35
      go true f = rw (f, room_answer)
      go false f = rw (f, room_answer) (no_room_answer t old h)

  too_long : room < length t → room_answer room t (length old) ≡ unwritten 35
  unfolding room_answer row35
  too_long h = rw (lt-ltb room (length t) h, room_answer)

  pub with_room : length t ≤ room → room_answer room t (length old) ≡ copy_answer t (length old)
  unfolding room_answer row35
  with_room h = rw (le-ltb room (length t) h, room_answer)

refused_35 : (a : Answer) (old : Bytes) → a ≡ unwritten 35 → Answered a old old (Err (row 35))
unfolding given buffer_after
refused_35 a old e = record { answer = ap given (sym e); memory = ap (λ (x : Answer). buffer_after x old) (sym e); long = refl }

module _ (t room text : Bytes) (r : Option ℕ) (s : Spelt t room text r) (old : Bytes) where
  pub deliver_full : r ≡ None → Answered (room_answer (length room) t (length old)) old old (Err (row 35))
  deliver_full e = refused_35 _ old (too_long t (length room) old (spelt_out t room text r s e))

  module _ (n : ℕ) (e : r ≡ Some n) where
    pub deliver_short : length old < n → Answered (room_answer (length room) t (length old)) old old (Err (row 35))
    deliver_short h =
        let l : length old < length t = rw (spelt_size t room text r s n e) at h in
        refused_35 _ old (short_of t (length room) old l)

    pub deliver_room : n ≤ length old → length (take n old) ≡ length (take n text)
    deliver_room h = length-take-le n old h ∙ spelt_long t room text r s n e

    -- the copy puts the text into the first bytes
    pub deliver_fits : n ≤ length old → (front : Bytes) → front ≡ take n text
        → Answered (room_answer (length room) t (length old)) old (front ++ drop n old) (Ok n)
    unfolding given buffer_after with_text
    deliver_fits h front f =
        let size = spelt_size t room text r s n e in
        let l : length t ≤ length old = rw size at h in
        let a = with_room t (length room) old (spelt_room t room text r s n e) ∙ room_answer_lem t old l in
        let is : front ≡ t = f ∙ spelt_text t room text r s n e in
        let put : front ++ drop n old ≡ t ++ drop (length t) old = ap₂ (λ (x : Bytes) (i : ℕ). x ++ drop i old) is size in
        record {
          answer = ap Ok size ∙ ap given (sym a);
          memory = put ∙ ap (λ (x : Answer). buffer_after x old) (sym a);
          long = ap length put ∙ simp (length-append, length-drop) (omega arith);
        }

pub ruleset deliver_laws = (spelt_within, spelt_long, deliver_full, deliver_short, deliver_room, deliver_fits)
