-- Each way out of the code of src/line.rt.
use Prim.Native.Nat.{ℕ}
use mathlib.Core.Path.{◌≡◌, refl}
use mathlib.Core.List.{List, [], ◌∷◌, ◌++◌, append_assoc}
use lib.ListN.{get_or, drop}
use Rattle.format.specs.Bytes.{Bytes, bytes, joined, space}
use Rattle.format.specs.Spelling.{spelling}
use Rattle.format.specs.Number.{signed}
use Rattle.model.specs.Table.{unbiased}
use Rattle.line_order.specs.declared.Key.{Key}
use Rattle.line_order.specs.declared.Key.TheVariants.{Format, Actions, Variables, Variable, Automata, Sync, Locations, Init, Inv, Edges, Edge, Compose, End}
use Rattle.table_tree.specs.Nodes.{skip_from}
use Rattle.table_places.specs.Outline.{nodes_place}
use Rattle.table_places.specs.Starts.{starts_at, first_start}
use Rattle.write_words.specs.declared.growing.Part.{Part}
use Rattle.write_words.specs.declared.growing.Text.{Text}
use Rattle.write_words.specs.Growing.{Grew, part_text}
use Rattle.write_words.specs.NodeText.{node_texts}
use Rattle.write_words.specs.Text.{range_text, starts_behind, tree_text, key_part, key_text}
use Rattle.write_words.proofs.GrowingLaws.{grew_then, part_grew}

-- `range`
pub range_is : (ws : List ℕ) (old cur mid new : Text) (x y : ℕ) → x ≡ get_or ws 0 0 → y ≡ get_or ws 1 0 →
    Grew (signed (unbiased x)) old cur → Grew (44 ∷ []) cur mid → Grew (signed (unbiased y)) mid new → Grew (range_text ws) old new
unfolding range_text
range_is ws old cur mid new x y e f g h k =
    rw (← e, ← f, ← append_assoc (signed (unbiased x)) (44 ∷ []) (signed (unbiased y)))
    (grew_then (signed (unbiased x) ++ 44 ∷ []) (signed (unbiased y)) old mid new (grew_then (signed (unbiased x)) (44 ∷ []) old cur mid g h) k)

-- `starts` and `tree`
pub starts_is : (ws r : List ℕ) (root number first : ℕ) → root ≡ nodes_place ws 0 → number ≡ skip_from ws 64 1 root → first ≡ first_start ws number → r ≡ drop first ws → r ≡ starts_behind ws
unfolding starts_behind starts_at
starts_is ws r root number first e f g h = rw (h, g, f, e)

pub tree_is : (ws later ps : List ℕ) (n : ℕ) (old new : Text) → later ≡ drop 1 ws → n ≡ get_or ws 0 0 → ps ≡ starts_behind ws → Grew (joined space (node_texts n later ps)) old new
    → Grew (tree_text ws) old new
unfolding tree_text
tree_is ws later ps n old new e f g h = rw (← f, ← e, ← g) h

-- the row of all keys has each at its part
abbrev pub in_keys : Part → Bytes
in_keys p = part_text (bytes "format=actions=variables=variable=automata=sync=locations=init=inv=edges=edge=compose=") p

pub key_part_lem : (key : Key) → in_keys (key_part key) ≡ key_text key
unfolding part_text key_part key_text spelling
key_part_lem Format = refl
key_part_lem Actions = refl
key_part_lem Variables = refl
key_part_lem Variable = refl
key_part_lem Automata = refl
key_part_lem Sync = refl
key_part_lem Locations = refl
key_part_lem Init = refl
key_part_lem Inv = refl
key_part_lem Edges = refl
key_part_lem Edge = refl
key_part_lem Compose = refl
key_part_lem End = refl

pub name_grew : (key : Key) (p : Part) → p ≡ key_part key → (old new : Text) → Grew (in_keys p) old new → Grew (key_text key) old new
name_grew key p e = part_grew (bytes "format=actions=variables=variable=automata=sync=locations=init=inv=edges=edge=compose=") (key_text key) p (key_part key) e (key_part_lem key)

pub ruleset line_laws = (range_is, starts_is, tree_is)
