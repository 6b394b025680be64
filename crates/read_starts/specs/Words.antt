-- The words that `append` puts into the table: of each P the number of its nodes, and the nodes.
use Rattle.std.specs.Prelude.{ℕ, true, false, take, leb, Result, Ok, Err}
use mathlib.Core.List.{List, [], ◌∷◌, flat_map}
use Rattle.model.specs.Bounds.{max_nodes}
use Rattle.format.specs.Bytes.{Bytes}
use Rattle.read_words.specs.declared.reading.WordsError.{WordsError}
use Rattle.read_words.specs.declared.reading.WordsError.TheVariants.{Stray, Full}
use Rattle.read_words.specs.Read.{answer}
use Rattle.read_nodes.specs.Nodes.{codes_of}
use Rattle.read_starts.specs.Texts.{start_texts}

-- so many nodes, with their number; more than a sheet can have are left out
unfoldable pub counted_words : (n : ℕ) (nodes : List ℕ) → List ℕ
counted_words n nodes = elim (leb n max_nodes) [ true ↦ n ∷ take n nodes | false ↦ [] ]

-- by what reading its words came to
unfoldable pub words_by : Result ℕ WordsError → (codes : List ℕ) → List ℕ
words_by (Ok n) codes = counted_words n codes
words_by (Err Stray) codes = []
words_by (Err Full) codes = []

-- with room for so many
unfoldable pub start_words : (room : ℕ) → Bytes → List ℕ
start_words room p = words_by (answer (codes_of p) room) (codes_of p)

unfoldable pub starts_words : (room : ℕ) → Bytes → List ℕ
starts_words room s = flat_map (start_words room) (start_texts s)
