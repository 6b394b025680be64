-- "The sheet text": the tokens of P and C, the numbers in them (row 3), the lists after `syn` (row 5), and the words
-- and nodes that the tokens spell.
use Rattle.std.specs.Prelude.{ℕ, zero, suc, ◌+◌, Bool, true, false, ◌&&◌, ◌||◌, List, [], ◌∷◌, map, ℤ, pos, eqb}
use Rattle.model.specs.Basic.{every, same}
use Rattle.model.specs.Bounds.{max_actions, max_operands, last_variable, last_automaton, least_number, greatest_number}
use Rattle.model.specs.Predicate.{Word, all_of, any_of, not_word, imp_word, eq_word, le_word, num_word, old_word}
use Rattle.model.specs.Predicate.{new_word}
use Rattle.model.specs.Predicate.{add_word, sub_word, mul_word, if_word, stray}
use Rattle.model.specs.Composition.{Node, par_node, syn_node, leaf_node, stray_node}
use Rattle.model.specs.Parse.{ini_alone}
use Rattle.model.specs.Limits.{rises}
use Rattle.format.specs.Bytes.{Bytes, bytes, parts, space, comma, minus, 'a, 'n, 'v}
use Rattle.format.specs.Number.{digit, within, natural_of, integer_of}

-- the tokens: what stands between spaces
unfoldable pub tokens : Bytes → List Bytes
tokens s = parts space s

-- Does a token hold a number? All of it, if it starts like one; or what follows its letter, if that starts with a
-- digit.
pub data Numeral : Type 0 where
  unjudged : Numeral
  bare : Bytes → Numeral
  lettered : ℕ → Bytes → Numeral

unfoldable pub numeral : Bytes → Numeral
numeral [] = unjudged
numeral (b ∷ []) = elim (digit b || eqb b minus) [ true ↦ bare (b ∷ []) | false ↦ unjudged ]
numeral (b ∷ c ∷ t) =
    elim (digit b || eqb b minus) [
      | true ↦ bare (b ∷ c ∷ t)
      | false ↦ elim ((eqb b 'v || (eqb b 'n || eqb b 'a)) && digit c) [ true ↦ lettered b (c ∷ t) | false ↦ unjudged ]
    ]

-- Is the number well-formed and in its range? The token before decides which range: that of an operand count after
-- `all` and `any`, that of each action of a list after `syn`, and otherwise low to high.
unfoldable pub number_sound : (before s : Bytes) (low high : ℤ) → Bool
number_sound before s low high =
    elim (same before (bytes "all") || same before (bytes "any")) [
      | true ↦ within (pos 0) (pos max_operands) s
      | false ↦
          elim (same before (bytes "syn")) [
            | true ↦ every (within (pos 0) (pos max_actions)) (parts comma s)
            | false ↦ within low high s
          ]
    ]

-- the largest number after a letter: an automaton's or a variable's
unfoldable pub last_after : ℕ → ℤ
last_after letter = elim (eqb letter 'a) [ true ↦ pos last_automaton | false ↦ pos last_variable ]

-- row 3 for one token, right after another
unfoldable pub sound : (before token : Bytes) → Bool
sound before token =
    elim (numeral token) [
      | unjudged ↦ true
      | bare s ↦ number_sound before s least_number greatest_number
      | lettered b s ↦ number_sound before s (pos 0) (last_after b)
    ]

-- row 3 for the tokens after `before`; before the first stands nothing
unfoldable pub sounds : Bytes → List Bytes → Bool
sounds before [] = true
sounds before (t ∷ ts) = elim (sound before t) [ true ↦ sounds t ts | false ↦ false ]

-- the items of a list
unfoldable pub items : Bytes → List ℕ
items s = map natural_of (parts comma s)

-- row 5 for a list right after `syn`, also in an ill-formed C
unfoldable pub list_sound : ℕ → (before token : Bytes) → Bool
list_sound A before token =
    elim (numeral token) [
      | unjudged ↦ true
      | bare s ↦ elim (same before (bytes "syn")) [ true ↦ rises A 0 (items s) | false ↦ true ]
      | lettered b s ↦ true
    ]

unfoldable pub lists_sound : ℕ → Bytes → List Bytes → Bool
lists_sound A before [] = true
lists_sound A before (t ∷ ts) = elim (list_sound A before t) [ true ↦ lists_sound A t ts | false ↦ false ]

-- the words that are one token
unfoldable pub find : {A : Type 0} → A → List (Bytes × A) → Bytes → A
find other [] t = other
find other (w ∷ ws) t = elim (same w.0 t) [ true ↦ w.1 | false ↦ find other ws t ]

abbrev pub spellings : List (Bytes × Word)
spellings =
    (bytes "not", not_word) ∷ (bytes "imp", imp_word) ∷ (bytes "eq", eq_word) ∷ (bytes "le", le_word) ∷
    (bytes "add", add_word) ∷ (bytes "sub", sub_word) ∷ (bytes "mul", mul_word) ∷ (bytes "if", if_word) ∷ []

unfoldable pub variable_word : ℕ → ℕ → Word
variable_word letter k =
    elim (eqb letter 'v) [ true ↦ old_word k | false ↦ elim (eqb letter 'n) [ true ↦ new_word k | false ↦ stray ] ]

unfoldable pub word : Bytes → Word
word token =
    elim (numeral token) [
      | unjudged ↦ find stray spellings token
      | bare s ↦ num_word (integer_of s)
      | lettered b s ↦ variable_word b (natural_of s)
    ]

-- the K after `all` or `any`
unfoldable pub counted : (ℕ → Word) → Bytes → Word
counted w token = elim (numeral token) [ unjudged ↦ stray | bare s ↦ w (natural_of s) | lettered b s ↦ stray ]

unfoldable pub read_words : List Bytes → List Word
read_words [] = []
read_words (t ∷ []) = word t ∷ []
read_words (t ∷ k ∷ ts) =
    elim (same t (bytes "all")) [
      | true ↦ counted all_of k ∷ read_words ts
      | false ↦
          elim (same t (bytes "any")) [ true ↦ counted any_of k ∷ read_words ts | false ↦ word t ∷ read_words (k ∷ ts) ]
    ]

-- Where the P of an `ini` ends: at its first token one is wanted, each token takes the place of one, and calls for as
-- many as stand here; a token after `all` or `any` is the K, and calls for K.
abbrev pub calls : List (Bytes × ℕ)
calls =
    (bytes "all", 1) ∷ (bytes "any", 1) ∷ (bytes "not", 1) ∷ (bytes "imp", 2) ∷ (bytes "eq", 2) ∷ (bytes "le", 2) ∷
    (bytes "add", 2) ∷ (bytes "sub", 2) ∷ (bytes "mul", 2) ∷ (bytes "if", 3) ∷ []

unfoldable pub calls_for : (before token : Bytes) → ℕ
calls_for before token =
    elim (same before (bytes "all") || same before (bytes "any")) [
      | true ↦ elim (within (pos 0) (pos max_operands) token) [ true ↦ natural_of token | false ↦ 0 ]
      | false ↦ find 0 calls token
    ]

-- the tokens of P: as long as some are wanted
unfoldable pub start_tokens : (wanted : ℕ) (before : Bytes) → List Bytes → List Bytes
start_tokens wanted before [] = []
start_tokens zero before (t ∷ ts) = []
start_tokens (suc n) before (t ∷ ts) = t ∷ start_tokens (calls_for before t + n) t ts

-- the P right after each `ini`; so many tokens of a P that has begun are still wanted
unfoldable pub starts_in : (wanted : ℕ) (before : Bytes) → List Bytes → List (List Bytes)
starts_in wanted before [] = []
starts_in zero before (t ∷ ts) =
    elim (same t (bytes "ini")) [ true ↦ start_tokens 1 t ts ∷ starts_in 1 t ts | false ↦ starts_in 0 t ts ]
starts_in (suc n) before (t ∷ ts) = starts_in (calls_for before t + n) t ts

-- the tokens of C: those outside of all P
unfoldable pub outside : (wanted : ℕ) (before : Bytes) → List Bytes → List Bytes
outside wanted before [] = []
outside zero before (t ∷ ts) = elim (same t (bytes "ini")) [ true ↦ t ∷ outside 1 t ts | false ↦ t ∷ outside 0 t ts ]
outside (suc n) before (t ∷ ts) = outside (calls_for before t + n) t ts

-- the words for C
unfoldable pub leaf_of : ℕ → ℕ → Node
leaf_of letter k = elim (eqb letter 'a) [ true ↦ leaf_node k | false ↦ stray_node ]

unfoldable pub node : Bytes → Node
node token =
    elim (numeral token) [
      | unjudged ↦ find stray_node ((bytes "par", par_node) ∷ (bytes "ini", ini_alone) ∷ []) token
      | bare s ↦ stray_node
      | lettered b s ↦ leaf_of b (natural_of s)
    ]

-- the list after `syn`
unfoldable pub syn_of : Bytes → Node
syn_of token = elim (numeral token) [ unjudged ↦ stray_node | bare s ↦ syn_node (items s) | lettered b s ↦ stray_node ]

unfoldable pub read_nodes : List Bytes → List Node
read_nodes [] = []
read_nodes (t ∷ []) = node t ∷ []
read_nodes (t ∷ l ∷ ts) =
    elim (same t (bytes "syn")) [ true ↦ syn_of l ∷ read_nodes ts | false ↦ node t ∷ read_nodes (l ∷ ts) ]
