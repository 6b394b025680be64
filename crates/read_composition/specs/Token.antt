-- What a token of a composition is, as the code tells it. Where row 3 is not broken it is the node that the token
-- spells: the laws word_node and set_node.
use Rattle.std.specs.Prelude.{Option, Some, None, ℕ, Bool, true, false, ◌||◌, List, [], ◌∷◌, eqb}
use Rattle.model.specs.Basic.{same}
use Rattle.model.specs.Bounds.{last_automaton, max_actions}
use Rattle.format.specs.Bytes.{Bytes, bytes, parts, comma, minus, 'a}
use Rattle.format.specs.Number.{digit}
use Rattle.text_numbers.specs.Number.{natural_in}
use Rattle.read_composition.specs.declared.token.Kind.{Kind}
use Rattle.read_composition.specs.declared.token.Kind.TheVariants.{Par, Syn, Set, Ini, Leaf, Stray}
use Rattle.read_composition.specs.List.{list_of}

unfoldable pub starts_number : Bytes → Bool
starts_number [] = false
starts_number (b ∷ t) = digit b || eqb b minus

unfoldable pub leaf_of : Option ℕ → Kind
leaf_of (Some k) = Leaf k
leaf_of None = Stray

unfoldable pub leaf_kind : Bytes → Kind
leaf_kind [] = Stray
leaf_kind (b ∷ t) = elim (eqb b 'a) [ true ↦ leaf_of (natural_in t last_automaton) | false ↦ Stray ]

unfoldable pub word_kind : Bytes → Kind
word_kind t =
    elim (same t (bytes "syn")) [
      | true ↦ Syn
      | false ↦
          elim (same t (bytes "par")) [
            | true ↦ Par
            | false ↦ elim (same t (bytes "ini")) [ true ↦ Ini | false ↦ leaf_kind t ]
          ]
    ]

-- the list after `syn`
unfoldable pub set_kind : Bytes → Kind
set_kind t =
    elim (starts_number t) [
      | true ↦ Set (list_of max_actions (parts comma t)).low (list_of max_actions (parts comma t)).high
      | false ↦ Stray
    ]

unfoldable pub kind_of : (due : Bool) → Bytes → Kind
kind_of true t = set_kind t
kind_of false t = word_kind t

unfoldable pub is_syn : Kind → Bool
is_syn Par = false
is_syn Syn = true
is_syn (Set a b) = false
is_syn Ini = false
is_syn (Leaf k) = false
is_syn Stray = false

unfoldable pub is_ini : Kind → Bool
is_ini Par = false
is_ini Syn = false
is_ini (Set a b) = false
is_ini Ini = true
is_ini (Leaf k) = false
is_ini Stray = false

unfoldable pub is_stray : Kind → Bool
is_stray Par = false
is_stray Syn = false
is_stray (Set a b) = false
is_stray Ini = false
is_stray (Leaf k) = false
is_stray Stray = true

-- the kinds of the tokens, after a `syn` or not
unfoldable pub kinds_of : (due : Bool) → List Bytes → List Kind
kinds_of due [] = []
kinds_of due (t ∷ ts) = kind_of due t ∷ kinds_of (is_syn (kind_of due t)) ts
