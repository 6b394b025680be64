-- A model's table has 16,384 words and gives the model back; the tables that row 19 lets pass are the models' tables.
use Prim.Native.Nat.{ℕ, ◌-◌}
use mathlib.Core.Path.{◌≡◌, refl, sym, ap, ◌∙◌}
use mathlib.Core.Bool.{Bool, true, false, true≢false}
use mathlib.Core.List.{List, [], ◌++◌, append_assoc}
use mathlib.Core.Option.{Option, none, some}
use mathlib.Core.Logic.{◌↔◌}
use native.Mathlib.Omega.{arith}
use lib.ListN.{length, take, drop, replicate, length-append, length-replicate, take-append-drop}
use lib.Seq.{take_at}
use lib.Dec.{eqb}
use Rattle.model.specs.Basic.{same, on_some, lacks}
use Rattle.model.specs.Bounds.{table_words}
use Rattle.model.specs.Model.{Model}
use Rattle.model.specs.Lines.{lines, due_at_first, at_first}
use Rattle.model.specs.Limits.{limits}
use Rattle.model.specs.Table.{sheet_words, table_of, decode, is_table_of, model_of, row19, row18, open_table, unopened, opened}
use Rattle.model.proofs.Tests.{and_intro, and_left, and_right}
use Rattle.model.proofs.Lists.{same_of, same_self}
use Rattle.model.proofs.Parsing.{none_some, got}
use Rattle.model.proofs.LinesLaws.{follow_lines}
use Rattle.model.proofs.LimitsLaws.{lawful_is}
use Rattle.model.proofs.Decode.{decode_lines}
use Rattle.model.proofs.Sizes.{words_fit, lines_few}

-- what follows a sheet's words plays no part in taking it apart
pub decode_back : (m : Model) → limits m ≡ true → (rest : List ℕ) → decode table_words at_first due_at_first (sheet_words m ++ rest) ≡ some m
unfolding limits sheet_words
decode_back m h rest =
    let lawful = (lawful_is m).0 h in
    decode_lines (lines m) at_first due_at_first m (follow_lines m lawful.owners_are) (and_right (eqb (length m.owners) (length m.variables)) _ h) table_words (lines_few m lawful) rest

pub table_length : (m : Model) → limits m ≡ true → length (table_of m) ≡ table_words
unfolding table_of
table_length m h =
    let zeros = table_words - length (sheet_words m) in
    omega (arith, length-append (sheet_words m) (replicate zeros 0), length-replicate {A = ℕ} zeros 0, words_fit m ((lawful_is m).0 h))

-- the model that a table decodes to is its model exactly if the table is that model's
checked : (t : List ℕ) (m : Model) (b : Bool) → decode table_words at_first due_at_first t ≡ some m → is_table_of t m ≡ b → model_of t ≡ elim b [ true ↦ some m | false ↦ none ]
unfolding model_of on_some
checked t m b d q = rw d (ap {B = Option Model} (λ c. elim c [ true ↦ some m | false ↦ none ]) q)

undecoded : (t : List ℕ) → decode table_words at_first due_at_first t ≡ none → model_of t ≡ none
unfolding model_of on_some
undecoded t d = rw d

-- a table gives its model back, whatever follows it
pub model_back : (m : Model) → limits m ≡ true → (rest : List ℕ) → model_of (table_of m ++ rest) ≡ some m
unfolding is_table_of
model_back m h rest = checked (table_of m ++ rest) m true decoded (and_intro h alike)
  where
    zeros : List ℕ
    zeros = replicate (table_words - length (sheet_words m)) 0

    decoded : decode table_words at_first due_at_first (table_of m ++ rest) ≡ some m
    decoded = unfold table_of in rw (append_assoc (sheet_words m) zeros rest) (decode_back m h (zeros ++ rest))

    alike : same (take table_words (table_of m ++ rest)) (table_of m) ≡ true
    alike = rw (take_at (table_of m) rest table_words (table_length m h)) (same_self (table_of m))

-- and the model of a table is within the limits and has this table
pub model_given : (t : List ℕ) (m : Model) → model_of t ≡ some m → (limits m ≡ true) × (take table_words t ≡ table_of m)
unfolding is_table_of
model_given t m e = (and_left (limits m) _ whole, same_of (take table_words t) (table_of m) (and_right (limits m) _ whole))
  where
    tested : (n : Model) (b : Bool) → is_table_of t n ≡ b → decode table_words at_first due_at_first t ≡ some n → is_table_of t m ≡ true
    tested n true q d = rw (← got n m (sym (checked t n true d q) ∙ e)) q
    tested n false q d = absurd (none_some m (sym (checked t n false d q) ∙ e))

    decoded : (o : Option Model) → decode table_words at_first due_at_first t ≡ o → is_table_of t m ≡ true
    decoded none d = absurd (none_some m (sym (undecoded t d) ∙ e))
    decoded (some n) d = tested n (is_table_of t n) refl d

    whole : is_table_of t m ≡ true
    whole = decoded (decode table_words at_first due_at_first t) refl

-- model to table is one to one
pub table_one_to_one : (m n : Model) → limits m ≡ true → limits n ≡ true → table_of m ≡ table_of n → m ≡ n
table_one_to_one m n h k e = got m n (sym (model_back m h []) ∙ ap (λ t. model_of (t ++ [])) e ∙ model_back n k [])

-- row 19 lets a table pass exactly if it is some model's
pub table_given : (t : List ℕ) → (row19 t ≡ false) ↔ ((m : Model) × (limits m ≡ true) × (take table_words t ≡ table_of m))
unfolding row19 lacks
table_given t = (from_row (model_of t) refl, to_row)
  where
    from_row : (o : Option Model) → model_of t ≡ o → lacks (model_of t) ≡ false → (m : Model) × (limits m ≡ true) × (take table_words t ≡ table_of m)
    from_row none e h = absurd (true≢false (rw e at h))
    from_row (some m) e h = let g = model_given t m e in (m, g.0, g.1)

    to_row : ((m : Model) × (limits m ≡ true) × (take table_words t ≡ table_of m)) → lacks (model_of t) ≡ false
    to_row g =
        let m = g.0 in
        let parts = ap (λ s. s ++ drop table_words t) (sym g.2) ∙ take-append-drop table_words t in
        let back : model_of t ≡ some g.0 = rw (← parts) (model_back m g.1 (drop table_words t)) in
        rw back

-- a table that opens as a model is that model's
pub opened_model : (t : List ℕ) (m : Model) → open_table t ≡ opened m → model_of t ≡ some m
unfolding open_table
opened_model t m e = go (row18 (length t)) refl (model_of t) refl
  where
    go : (b : Bool) → row18 (length t) ≡ b → (o : Option Model) → model_of t ≡ o → o ≡ some m
    go true f o g =
        let never : unopened 18 ≡ opened m = rw (f, open_table) at e in
        cc
    go false f none g =
        let never : unopened 19 ≡ opened m = rw (f, open_table, g, open_table) at e in
        cc
    go false f (some n) g =
        let same : opened n ≡ opened m = rw (f, open_table, g, open_table) at e in
        cc
