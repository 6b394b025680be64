-- The line of a refusal takes no more than 32 bits.
use Prim.Native.Nat.{ℕ, ◌+◌, ◌*◌, ◌^◌, ◌<◌}
use mathlib.Core.Path.{◌≡◌, refl, ap}
use native.Mathlib.Nat.{mod-eq_of_lt}
use native.Mathlib.Omega.{arith}
use Rattle.format.specs.Bytes.{Bytes}
use Rattle.format.specs.Reader as Reader
use Rattle.format.specs.Reader.{read_answer}
use Rattle.reader.specs.Read.{read_of}
use Rattle.reader.proofs.LineBound.{refusal_line}
use Rattle.answer_numbers.specs.Told.{told_number}
use Rattle.exports.specs.Numbers.{read_number}

pub line_fits : (text : Bytes) (table : ℕ) → told_number (read_of (read_answer text table)) ≡ read_number (read_answer text table)
unfolding told_number read_of read_number
line_fits text table = go (read_answer text table) refl
  where
    go : (a : Reader.ReadAnswer) → read_answer text table ≡ a → told_number (read_of a) ≡ read_number a
    go (Reader.accepted m) h = refl
    go (Reader.refused row n) h =
        let few = refusal_line text table row n h in
        let fits : n < 2 ^ 32 = omega (arith, few) in
        ap (λ (k : ℕ). row * 2 ^ 32 + k) (mod-eq_of_lt fits)
