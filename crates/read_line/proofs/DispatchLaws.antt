-- Each way out of `read_with`, where the key that is due decides, and of `read`.
use Prim.Native.Nat.{ℕ, ◌*◌, ◌≤◌}
use mathlib.Core.Path.{◌≡◌, refl, ◌∙◌}
use mathlib.Core.Bool.{Bool}
use mathlib.Core.List.{List}
use native.Mathlib.Omega.{arith}
use lib.ListN.{length}
use Rattle.model.specs.Lines as Lines
use Rattle.line_order.specs.declared.Key.{Key}
use Rattle.line_order.specs.declared.Key.TheVariants.{Format, Actions, Variables, Variable, Automata, Sync, Locations, Init, Inv, Edges, Edge, Compose, End}
use Rattle.line_order.specs.declared.Counts.{Counts}
use Rattle.format.specs.Bytes.{Bytes}
use Rattle.format.specs.Spelling.{spelling}
use Rattle.std.specs.Prelude.{Result}
use Rattle.model.specs.declared.Row.{Row}
use Rattle.read_form.specs.declared.LineRead.{LineRead}
use Rattle.read_line.specs.Line.{line_with, line_with_after, line_read, line_after}
use Rattle.read_predicate_line.specs.Predicate.{most_words}
use Rattle.read_predicate_line.proofs.PredicateLaws.{location_room, location_room_after}
use Rattle.read_predicate_line.proofs.EdgeLaws.{edge_room, edge_room_after}
use Rattle.read_composition_line.proofs.CompositionRows.{compose_room, compose_room_after}

-- what is read with one key is read with the key that it equals
module _ (s : Bytes) (ended : Bool) (k : Key) (c : Counts) (words : List ℕ) (at room high : ℕ) where
  pub by_key : (j : Key) → k ≡ j → (r : Result LineRead Row) → r ≡ line_with s ended j c words at room high → r ≡ line_with s ended k c words at room high
  by_key j e r h = h ∙ rw e

  pub after_key : (j : Key) → k ≡ j → (new : List ℕ) → new ≡ line_with_after s ended j c words at room high → new ≡ line_with_after s ended k c words at room high
  after_key j e new h = h ∙ rw e

pub ruleset dispatch_laws = (by_key, after_key)

-- `read`: more room than enough changes nothing
module _ (s : Bytes) (ended : Bool) (c : Counts) (words : List ℕ) (at : ℕ) where
  module _ (room : ℕ) (a : length s ≤ 2 * room) (b : length s ≤ 65536) where
    room_same : (k : Key) → line_with s ended k c words at room room ≡ line_read s ended k c words at
    unfolding line_read line_with
    room_same Format = refl
    room_same Actions = refl
    room_same Variables = refl
    room_same Variable = refl
    room_same Automata = refl
    room_same Sync = refl
    room_same Locations = refl
    room_same Init = location_room (spelling Lines.init) s ended c words at room a b
    room_same Inv = location_room (spelling Lines.inv) s ended c words at room a b
    room_same Edges = refl
    room_same Edge = edge_room s ended c words at room a b
    room_same Compose = compose_room s ended c words at room most_words a b
    room_same End = refl

    room_same_after : (k : Key) → line_with_after s ended k c words at room room ≡ line_after s ended k c words at
    unfolding line_after line_with_after
    room_same_after Format = refl
    room_same_after Actions = refl
    room_same_after Variables = refl
    room_same_after Variable = refl
    room_same_after Automata = refl
    room_same_after Sync = refl
    room_same_after Locations = refl
    room_same_after Init = location_room_after (spelling Lines.init) s ended c words at room a b
    room_same_after Inv = location_room_after (spelling Lines.inv) s ended c words at room a b
    room_same_after Edges = refl
    room_same_after Edge = edge_room_after s ended c words at room a b
    room_same_after Compose = compose_room_after s ended c words at room most_words a b
    room_same_after End = refl

  module _ (k : Key) where
    module _ (h : length s ≤ 256) where
      pub short_read : (r : Result LineRead Row) → r ≡ line_with s ended k c words at 128 128 → r ≡ line_read s ended k c words at
      short_read r e = e ∙ room_same 128 h (omega arith) k

      pub short_after : (t : List ℕ) → t ≡ line_with_after s ended k c words at 128 128 → t ≡ line_after s ended k c words at
      short_after t e = e ∙ room_same_after 128 h (omega arith) k

    module _ (h : length s ≤ 4096) where
      pub middle_read : (r : Result LineRead Row) → r ≡ line_with s ended k c words at 2048 2048 → r ≡ line_read s ended k c words at
      middle_read r e = e ∙ room_same 2048 h (omega arith) k

      pub middle_after : (t : List ℕ) → t ≡ line_with_after s ended k c words at 2048 2048 → t ≡ line_after s ended k c words at
      middle_after t e = e ∙ room_same_after 2048 h (omega arith) k

    pub long_read : (r : Result LineRead Row) → r ≡ line_with s ended k c words at 32768 32768 → r ≡ line_read s ended k c words at
    unfolding line_read
    long_read r e = e

    pub long_after : (t : List ℕ) → t ≡ line_with_after s ended k c words at 32768 32768 → t ≡ line_after s ended k c words at
    unfolding line_after
    long_after t e = e

pub ruleset room_laws = (short_read, short_after, middle_read, middle_after, long_read, long_after)
