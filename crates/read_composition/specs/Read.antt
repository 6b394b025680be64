-- The nodes of a composition, left to right. Where rows 3, 5 and 6 are not broken the answer is that of rows 13, 14 and
-- 16, and the words are those of the tree: the laws read_formed, read_ordered, read_count and read_words_lem of
-- proofs/Meaning.
use Rattle.std.specs.Prelude as Std
use Rattle.std.specs.Prelude.{Some, None}
use Rattle.std.specs.Prelude.{ℕ, ◌+◌, ◌-◌, ◌≤◌, ◌≡◌, true, false, ◌&&◌, ◌||◌, List, [], ◌∷◌, length, set, eqb, leb}
use Rattle.model.specs.Bounds.{last_automaton, max_tree_nodes}
use Rattle.format.specs.Bytes.{Bytes}
use Rattle.format.specs.Tokens.{tokens, outside}
use Rattle.read_extent.specs.Extent.{after_start}
use Rattle.read_composition.specs.declared.token.Kind.{Kind}
use Rattle.read_composition.specs.declared.token.Kind.TheVariants.{Par, Syn, Set, Ini, Leaf, Stray}
use Rattle.read_composition.specs.declared.compose.Composition.{Composition}
use Rattle.read_composition.specs.declared.compose.Walk.{Walk}
use Rattle.read_composition.specs.Token.{is_ini, is_stray, kinds_of}

-- the words of a node
unfoldable pub kind_words : Kind → List ℕ
kind_words Par = 0 ∷ []
kind_words Syn = []
kind_words (Set low high) = 1 ∷ low ∷ high ∷ []
kind_words Ini = 1 ∷ 0 ∷ 0 ∷ []
kind_words (Leaf k) = (2 + k) ∷ []
kind_words Stray = []

-- a leaf's word fits
unfoldable pub IsSmall : Kind → Type 0
IsSmall Par = Unit {0}
IsSmall Syn = Unit {0}
IsSmall (Set low high) = Unit {0}
IsSmall Ini = Unit {0}
IsSmall (Leaf k) = k ≤ last_automaton
IsSmall Stray = Unit {0}

-- words, put into a list one after the other
unfoldable pub placed : (words : List ℕ) (at : ℕ) → List ℕ → List ℕ
placed [] at out = out
placed (a ∷ ws) at out = placed ws (at + 1) (set out at a)

-- where the words after a node go, and what the memory then is; after 64 nodes nothing is written
unfoldable pub next_after : Kind → (nodes next : ℕ) → ℕ
next_after k nodes next = elim (leb max_tree_nodes nodes) [ true ↦ next | false ↦ next + length (kind_words k) ]

unfoldable pub put_after : Kind → (nodes next : ℕ) → List ℕ → List ℕ
put_after k nodes next out = elim (leb max_tree_nodes nodes) [ true ↦ out | false ↦ placed (kind_words k) next out ]

-- `par` owes two subtrees for the one that it is, a leaf none; leaf K is in order after K others
unfoldable pub stepped : Kind → (next : ℕ) → Walk → Walk
stepped Par next w =
    record { owed = w.owed + 1; leaves = w.leaves; ordered = w.ordered; nodes = w.nodes + 1; next = next }
stepped Syn next w = w
stepped (Set low high) next w =
    record { owed = w.owed; leaves = w.leaves; ordered = w.ordered; nodes = w.nodes + 1; next = next }
stepped Ini next w =
    record { owed = w.owed; leaves = w.leaves; ordered = w.ordered; nodes = w.nodes + 1; next = next }
stepped (Leaf k) next w =
    record {
      owed = w.owed - 1;
      leaves = w.leaves + 1;
      ordered = w.ordered && eqb k w.leaves;
      nodes = w.nodes + 1;
      next = next;
    }
stepped Stray next w = w

-- the place of the token after one of this kind and its P, where `next` is the place after the one
unfoldable pub place_beyond : Bytes → (next : ℕ) → Kind → ℕ
place_beyond s next k = elim (is_ini k) [ true ↦ after_start s next | false ↦ next ]

abbrev pub at_first : Walk
at_first = record { owed = 1; leaves = 0; ordered = true; nodes = 0; next = 0 }

abbrev pub ill_formed : Std.Option Composition
ill_formed = None

-- what is said of the tree, where there is one; without one, nothing is in order, and there are no nodes and no words
abbrev pub of_tree : Std.Option Composition → Composition
of_tree None = record { ordered = false; nodes = 0; next = 0 }
of_tree (Some c) = c

-- the answer after the last token, with N automata
unfoldable pub ending : (N : ℕ) → Walk → Std.Option Composition
ending N w =
    elim (eqb w.owed 0) [
      | true ↦ Some (record { ordered = w.ordered && eqb w.leaves N; nodes = w.nodes; next = w.next })
      | false ↦ ill_formed
    ]

-- the answer and the memory
pub record Outcome : Type 0 where
  pub answer : Std.Option Composition
  pub memory : List ℕ

-- A node where no subtree is owed, and a token that is none, end it.
unfoldable pub walk : (N : ℕ) → Walk → (out : List ℕ) → List Kind → Outcome
walk N w out [] = record { answer = ending N w; memory = out }
walk N w out (k ∷ ks) =
    elim (eqb w.owed 0 || is_stray k) [
      | true ↦ record { answer = ill_formed; memory = out }
      | false ↦ walk N (stepped k (next_after k w.nodes w.next) w) (put_after k w.nodes w.next out) ks
    ]

-- the tokens outside of all P
unfoldable pub outcome : (N : ℕ) → Bytes → (out : List ℕ) → Outcome
outcome N s out = walk N at_first out (kinds_of false (outside 0 [] (tokens s)))

abbrev pub composition_of : (N : ℕ) → Bytes → (out : List ℕ) → Std.Option Composition
composition_of N s out = (outcome N s out).answer

abbrev pub memory_of : (N : ℕ) → Bytes → (out : List ℕ) → List ℕ
memory_of N s out = (outcome N s out).memory

-- what `read` answers and leaves
pub record HasRead (N : ℕ) (s : Bytes) (old new : List ℕ) (r : Std.Option Composition) : Type 0 where
  pub answer : r ≡ composition_of N s old
  pub memory : new ≡ memory_of N s old
