-- The reader's answer and row 19, all told: with the limits known part by part, a text's length follows, and so does which
-- tables an accepted text gives.
use Prim.Native.Nat.{ℕ, ◌≤◌}
use mathlib.Core.Path.{◌≡◌, refl}
use mathlib.Core.Bool.{true, false}
use mathlib.Core.List.{List}
use mathlib.Core.Logic.{◌↔◌}
use native.Mathlib.Omega.{arith}
use lib.ListN.{length}
use Rattle.model.specs.Bounds.{max_bytes, table_words}
use Rattle.model.specs.Model.{Model}
use Rattle.model.specs.Limits.{limits}
use Rattle.model.specs.Table.{row19}
use Rattle.model.proofs.LimitsLaws.{lawful_is}
use Rattle.model.proofs.TableLaws.{table_given}
use Rattle.format.specs.Bytes.{Bytes}
use Rattle.format.specs.Spelling.{text_of}
use Rattle.format.specs.Reader.{accepted, read_answer, GivenBy}
use Rattle.format.proofs.Exact.{accepted_then, then_accepted}
use Rattle.format.proofs.FitsLaws.{text_fits}

-- the reader accepts exactly the texts of the models within the limits
pub reader_exact : (text : Bytes) (table : ℕ) (m : Model) → (read_answer text table ≡ accepted m) ↔ ((table_words ≤ table) × (limits m ≡ true) × (text ≡ text_of m))
reader_exact text table m = (there, back)
  where
    there : read_answer text table ≡ accepted m → (table_words ≤ table) × (limits m ≡ true) × (text ≡ text_of m)
    there h = let e = accepted_then text table m h in (e.room, e.limited, e.spelled)

    back : (table_words ≤ table) × (limits m ≡ true) × (text ≡ text_of m) → read_answer text table ≡ accepted m
    back h =
        let short : length text ≤ max_bytes = rw h.2 (text_fits m ((lawful_is m).0 h.1)) in
        then_accepted text table m (record { room = h.0; short = short; limited = h.1; spelled = h.2 })

-- row 19 refuses exactly the tables that no accepted text gives
pub given_by_text : (t : List ℕ) → (row19 t ≡ false) ↔ GivenBy t
given_by_text t = (there, back)
  where
    there : row19 t ≡ false → GivenBy t
    there h =
        let g = (table_given t).0 h in
        record { text = text_of g.0; model = g.0; reads = (reader_exact (text_of g.0) table_words g.0).1 (omega arith, g.1, refl); gives = g.2 }

    back : GivenBy t → row19 t ≡ false
    back g = (table_given t).1 (g.model, ((reader_exact g.text table_words g.model).0 g.reads).1, g.gives)
