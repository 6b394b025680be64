-- Writing on: the text so far is what a buffer holds before a place.
use Rattle.std.specs.Prelude.{ℕ, ◌+◌, ◌-◌, ◌≡◌, Bool, true, false, [], ◌++◌, length, take, drop, leb, ltb}
use Rattle.std.specs.Prelude.{Option, Some, None}
use Rattle.format.specs.Bytes.{Bytes}
use Rattle.write_words.specs.declared.growing.Part.{Part}
use Rattle.write_words.specs.declared.growing.Text.{Text}

-- the text before a place; none where there was no room for it
unfoldable pub held : Option ℕ → Bytes → Option Bytes
held (Some n) buffer = elim (leb n (length buffer)) [ true ↦ Some (take n buffer) | false ↦ None ]
held None buffer = None

-- a text with t after it, if there is room for both
unfoldable pub more : (room : ℕ) → Option Bytes → Bytes → Option Bytes
more room None t = None
more room (Some s) t = elim (leb (length s + length t) room) [ true ↦ Some (s ++ t) | false ↦ None ]

-- t has been written on, into the same buffer
pub record Grew (t : Bytes) (old new : Text) : Type 0 where
  pub text : held new.end new.bytes.now ≡ more (length old.bytes.now) (held old.end old.bytes.now) t
  pub long : length new.bytes.now ≡ length old.bytes.now
  pub lent : new.bytes.ghost_name ≡ old.bytes.ghost_name

-- what stands between two items: nothing before the first
unfoldable pub between : (first : Bool) → Bytes → Bytes
between true mark = []
between false mark = mark

-- a part of a row, by where it begins and ends; nothing where the row has no such part
unfoldable pub part_text : (row : Bytes) → Part → Bytes
part_text row p =
    elim (ltb p.to p.from) [
      | true ↦ []
      | false ↦ elim (ltb (length row) p.to) [ true ↦ [] | false ↦ take (p.to - p.from) (drop p.from row) ]
    ]

abbrev pub part : (from to : ℕ) → Part
part from to = record { from = from; to = to }
