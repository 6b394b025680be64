-- A line with no fault is the one spelling of what it says.
use Prim.Native.Nat.{ℕ}
use mathlib.Core.Path.{◌≡◌, refl, sym, ◌∙◌, ap}
use mathlib.Core.Bool.{Bool, true, false, not, ◌||◌}
use mathlib.Core.List.{List, [], ◌∷◌, ◌++◌, append-nil, map}
use mathlib.Core.Option.{Option, none, some}
use native.Mathlib.Omega.{arith}
use borrow.Author.Tests.{eqb-true, not-false}
use lib.Dec.{eqb}
use lib.ListN.{length, get_or, drop}
use lib.IntN.{ℤ, pos, negsuc}
use Rattle.model.specs.Basic.{between, every, exists, lacks, or_else}
use Rattle.model.specs.Bounds.{first_format, greatest_number, last_format, last_location, least_number, max_actions, max_automata, max_edges, max_locations, max_variables}
use Rattle.model.specs.Composition.{Tree, leaf}
use Rattle.model.specs.Lines.{Entry, Key, Reading, actions, automata, compose, edge, edges, format, init, inv, key_of, locations, sync, variable, variables}
use Rattle.model.specs.Parse.{read_pred, read_tree}
use Rattle.model.specs.Predicate as P
use Rattle.model.specs.Predicate.{Pred, all, range}
use Rattle.model.proofs.Tests.{and_left, and_right, or_none_left}
use Rattle.model.proofs.Decode.{unbroken}
use Rattle.format.specs.Bytes.{Bytes, begins, comma, joined, led_by, parts}
use Rattle.format.specs.Number.{natural_of, decimal, integer_of, signed, within}
use Rattle.format.specs.Rows.{Line, entry, fault, field, field_count, fields, has_pred, is, list_items, numbers_sound, place, pred_of, pred_tokens, words_in, printable, row10, row11, row12, row13, row2, row3, row4, row5, row6, row7, row8, row9, sync_list, the_pred, the_range, the_tree, tree_tokens, starts_of, the_starts, nodes_in, tree_of, value_of}
use Rattle.format.specs.Spelling.{spelling, writes_key, owner_key, text_of_list, text_of_owner, text_of_pred, text_of_tree, value_text, owner_said}
use Rattle.format.specs.Tokens.{read_words, sounds, tokens}
use Rattle.format.proofs.BytesLaws.{joined_parts}
use Rattle.format.proofs.NumberLaws.{false_true}
use Rattle.format.proofs.PredText.{read_text}
use Rattle.format.proofs.ReadLaws.{items_decimal, within_inv}
use Rattle.format.proofs.TokenLaws.{count_decimal, every_cons, integer_signed}
use Rattle.format.proofs.TreeText.{read_composed, read_starts, tree_law}

-- the rows that say how a line is formed are not broken
record Faultless (k : Key) (l : Line) : Type 0 where
  f2 : row2 k l ≡ false
  f3 : row3 k l ≡ false
  f6 : row6 k l ≡ false
  f13 : row13 k l ≡ false

faultless : (r : Reading) (k : Key) (l : Line) → fault r k l ≡ none → Faultless k l
unfolding fault
faultless r k l h =
    let b2 = unbroken 2 (row2 k l) _ h in
    let b3 = unbroken 3 (row3 k l) _ b2.1 in
    let b4 = unbroken 4 (row4 k l) _ b3.1 in
    let b5 = unbroken 5 (row5 r k l) _ b4.1 in
    let b6 = unbroken 6 (row6 k l) _ b5.1 in
    let b7 = unbroken 7 (row7 r k l) _ b6.1 in
    let b8 = unbroken 8 (row8 k l) _ b7.1 in
    let b9 = unbroken 9 (row9 k l) _ b8.1 in
    let b10 = unbroken 10 (row10 r k l) _ b9.1 in
    let b11 = unbroken 11 (row11 r k l) _ b10.1 in
    let b12 = unbroken 12 (row12 r k l) _ b11.1 in
    let b13 = unbroken 13 (row13 k l) _ b12.1 in
    record { f2 = b2.0; f3 = b3.0; f6 = b6.0; f13 = b13.0 }

-- what row 2 asks
pub neither : (a b : Bool) → a || b ≡ false → (a ≡ false) × (b ≡ false)
neither true b h = absurd (false_true (sym h))
neither false b h = (refl, h)

pub record Formed (k : Key) (l : Line) : Type 0 where
  pub starts : begins (spelling k) l.bytes ≡ true
  pub counts : length (fields k l) ≡ field_count k
  pub ended : l.ended ≡ true

pub formed : (k : Key) (l : Line) → row2 k l ≡ false → Formed k l
unfolding row2
formed k l h =
    let a = neither (not (begins (spelling k) l.bytes)) _ h in
    let b = neither (not (eqb (length (fields k l)) (field_count k))) _ a.1 in
    let c = neither (not (every printable l.bytes)) _ b.1 in
    record { starts = not-false _ a.0; counts = eqb-true _ _ (not-false _ b.0); ended = not-false _ c.1 }

pub begins_inv : (s t : Bytes) → begins s t ≡ true → t ≡ s ++ drop (length s) t
unfolding begins
begins_inv [] t h = refl
begins_inv (a ∷ s) [] h = absurd (false_true h)
begins_inv (a ∷ s) (b ∷ t) h = go (begins_inv s t) (eqb a b) refl h
  where
    go : (begins s t ≡ true → t ≡ s ++ drop (length s) t) → (v : Bool) → eqb a b ≡ v → elim v [ true ↦ begins s t | false ↦ false ] ≡ true → b ∷ t ≡ a ∷ (s ++ drop (length s) t)
    go ih true e k = ap (λ x. x ∷ t) (sym (eqb-true a b e)) ∙ ap (λ u. a ∷ u) (ih k)
    go ih false e k = absurd (false_true k)

-- a list of a known length, by its items
list_1 : (l : List Bytes) → length l ≡ 1 → l ≡ get_or l 0 [] ∷ []
list_1 [] h = absurd (omega arith)
list_1 (a ∷ []) h = refl
list_1 (a ∷ b ∷ l) h = absurd (omega arith)

pub list_2 : (l : List Bytes) → length l ≡ 2 → l ≡ get_or l 0 [] ∷ get_or l 1 [] ∷ []
list_2 [] h = absurd (omega arith)
list_2 (a ∷ []) h = absurd (omega arith)
list_2 (a ∷ b ∷ []) h = refl
list_2 (a ∷ b ∷ c ∷ l) h = absurd (omega arith)

list_4 : (l : List Bytes) → length l ≡ 4 → l ≡ get_or l 0 [] ∷ get_or l 1 [] ∷ get_or l 2 [] ∷ get_or l 3 [] ∷ []
list_4 [] h = absurd (omega arith)
list_4 (a ∷ []) h = absurd (omega arith)
list_4 (a ∷ b ∷ []) h = absurd (omega arith)
list_4 (a ∷ b ∷ c ∷ []) h = absurd (omega arith)
list_4 (a ∷ b ∷ c ∷ d ∷ []) h = refl
list_4 (a ∷ b ∷ c ∷ d ∷ e ∷ l) h = absurd (omega arith)

one_part : (v : Bytes) → length (parts comma v) ≡ 1 → v ≡ get_or (parts comma v) 0 []
unfolding joined led_by
one_part v h = sym (joined_parts comma v) ∙ ap (joined comma) (list_1 (parts comma v) h) ∙ append-nil (get_or (parts comma v) 0 [])

-- the numbers of a line
count_value : (lo hi : ℕ) (s : Bytes) → within (pos lo) (pos hi) s ≡ true → s ≡ decimal (natural_of s)
unfolding signed between
count_value lo hi s h = let i = within_inv (pos lo) (pos hi) s h in go i.0 i.1 i.2
  where
    go : (z : ℤ) → s ≡ signed z → between (pos lo) (pos hi) z ≡ true → s ≡ decimal (natural_of s)
    go (pos n) k l = k ∙ ap decimal (sym (ap natural_of k ∙ count_decimal n))
    go (negsuc n) k l = absurd (false_true l)

signed_value : (lo hi : ℤ) (s : Bytes) → within lo hi s ≡ true → s ≡ signed (integer_of s)
signed_value lo hi s h = let i = within_inv lo hi s h in i.1 ∙ ap signed (sym (ap integer_of i.1 ∙ integer_signed i.0))

pub list_text : (top : ℕ) (v : Bytes) → every (within (pos 0) (pos top)) (list_items v) ≡ true → v ≡ text_of_list (map natural_of (list_items v))
unfolding list_items text_of_list
list_text top [] h = unfold joined in refl
list_text top (b ∷ t) h = sym (joined_parts comma (b ∷ t)) ∙ ap (joined comma) (items_decimal top (parts comma (b ∷ t)) h)

-- the text of a predicate
p_written : (s : Bytes) (o : Option Pred) → read_pred (read_words (tokens s)) ≡ o → lacks o ≡ false → sounds [] (tokens s) ≡ true → s ≡ text_of_pred (or_else (all P.none) o)
unfolding lacks or_else
p_written s none e h k = absurd (false_true (sym h))
p_written s (some q) e h k = (read_text s q k e).text

-- the value of a line, by its key
module _ (l : Line) where
  one_number : (k : Key) (lo hi : ℕ) → length (parts comma (value_of k l)) ≡ 1 → within (pos lo) (pos hi) (get_or (parts comma (value_of k l)) 0 []) ≡ true → value_of k l ≡ decimal (natural_of (get_or (parts comma (value_of k l)) 0 []))
  one_number k lo hi h w = one_part (value_of k l) h ∙ count_value lo hi (get_or (parts comma (value_of k l)) 0 []) w

  one_p : (k : Key) → length (parts comma (value_of k l)) ≡ 1 → lacks (read_pred (read_words (tokens (get_or (parts comma (value_of k l)) 0 [])))) ≡ false → sounds [] (tokens (get_or (parts comma (value_of k l)) 0 [])) ≡ true → value_of k l ≡ text_of_pred (or_else (all P.none) (read_pred (read_words (tokens (get_or (parts comma (value_of k l)) 0 [])))))
  one_p k h a b = one_part (value_of k l) h ∙ p_written (get_or (parts comma (value_of k l)) 0 []) (read_pred (read_words (tokens (get_or (parts comma (value_of k l)) 0 [])))) refl a b

  two_numbers : (v : Bytes) → length (parts comma v) ≡ 2 → every (within least_number greatest_number) (parts comma v) ≡ true → v ≡ joined comma (signed (integer_of (get_or (parts comma v) 0 [])) ∷ signed (integer_of (get_or (parts comma v) 1 [])) ∷ [])
  two_numbers v h w =
      let e = list_2 (parts comma v) h in
      let u : every (within least_number greatest_number) (get_or (parts comma v) 0 [] ∷ get_or (parts comma v) 1 [] ∷ []) ≡ true = ap (every (within least_number greatest_number)) (sym e) ∙ w in
      let a = every_cons (within least_number greatest_number) (get_or (parts comma v) 0 []) (get_or (parts comma v) 1 [] ∷ []) u in
      let b = every_cons (within least_number greatest_number) (get_or (parts comma v) 1 []) [] a.1 in
      sym (joined_parts comma v) ∙ ap (joined comma) e ∙
      ap (λ x. joined comma (x ∷ get_or (parts comma v) 1 [] ∷ [])) (signed_value least_number greatest_number (get_or (parts comma v) 0 []) a.0) ∙
      ap (λ x. joined comma (signed (integer_of (get_or (parts comma v) 0 [])) ∷ x ∷ [])) (signed_value least_number greatest_number (get_or (parts comma v) 1 []) b.0)

  four_parts : (v a b c d : Bytes) → length (parts comma v) ≡ 4 → get_or (parts comma v) 0 [] ≡ a → get_or (parts comma v) 1 [] ≡ b → get_or (parts comma v) 2 [] ≡ c → get_or (parts comma v) 3 [] ≡ d → v ≡ joined comma (a ∷ b ∷ c ∷ d ∷ [])
  four_parts v a b c d h ea eb ec ed = sym (joined_parts comma v) ∙ ap (joined comma) (list_4 (parts comma v) h ∙ rw (ea, eb, ec, ed))

-- the text of a tree
c_written : (s : Bytes) (o : Option Tree) → read_tree (read_composed [] (tokens s)) ≡ o → lacks o ≡ false → sounds [] (tokens s) ≡ true → exists lacks (read_starts [] (tokens s)) ≡ false → s ≡ text_of_tree (or_else (leaf 0) o)
unfolding lacks or_else
c_written s none e h k n = absurd (false_true (sym h))
c_written s (some c) e h k n = tree_law s c k n e

value_written : (k : Key) (l : Line) → length (fields k l) ≡ field_count k → numbers_sound k l ≡ true → row6 k l ≡ false → row13 k l ≡ false → value_of k l ≡ value_text (entry k l)
unfolding numbers_sound fields field field_count is place entry value_text row6 row13 has_pred pred_of words_in pred_tokens the_pred the_tree tree_of tree_tokens nodes_in starts_of the_starts sync_list the_range range
value_written format l c n s t = one_number l format first_format last_format c n
value_written actions l c n s t = one_number l actions 0 max_actions c n
value_written variables l c n s t = one_number l variables 0 max_variables c n
value_written variable l c n s t = two_numbers l (value_of variable l) c n
value_written automata l c n s t = one_number l automata 1 max_automata c n
value_written sync l c n s t = list_text max_actions (value_of sync l) n
value_written locations l c n s t = one_number l locations 1 max_locations c n
value_written init l c n s t = one_p l init c s n
value_written inv l c n s t = one_p l inv c s n
value_written edges l c n s t = one_number l edges 0 max_edges c n
value_written edge l c n s t =
    let b = and_right (within (pos 0) (pos last_location) (get_or (parts comma (value_of edge l)) 0 [])) _ n in
    let d = and_right (within (pos 0) (pos max_actions) (get_or (parts comma (value_of edge l)) 1 [])) _ b in
    four_parts l (value_of edge l) _ _ _ _ c
    (count_value 0 last_location (get_or (parts comma (value_of edge l)) 0 []) (and_left _ _ n))
    (count_value 0 max_actions (get_or (parts comma (value_of edge l)) 1 []) (and_left _ _ b))
    (count_value 0 last_location (get_or (parts comma (value_of edge l)) 2 []) (and_left _ _ d))
    (p_written (get_or (parts comma (value_of edge l)) 3 []) (read_pred (read_words (tokens (get_or (parts comma (value_of edge l)) 3 [])))) refl s (and_right (within (pos 0) (pos last_location) (get_or (parts comma (value_of edge l)) 2 [])) _ d))
value_written compose l c n s t = c_written (value_of compose l) (read_tree (read_composed [] (tokens (value_of compose l)))) refl t n (or_none_left _ false s)

-- the line of an entry
abbrev pub line_of : Entry → Line
line_of e = record { bytes = spelling (key_of e) ++ value_text e; ended = true }

-- that of a list behind an edge, and that of an owner behind a variable
abbrev pub writes_line : List ℕ → Line
writes_line list = record { bytes = writes_key ++ text_of_list list; ended = true }

abbrev pub owner_line : Option ℕ → Line
owner_line o = record { bytes = owner_key ++ text_of_owner o; ended = true }

pub entry_key : (k : Key) (l : Line) → key_of (entry k l) ≡ k
unfolding entry key_of
entry_key format l = refl
entry_key actions l = refl
entry_key variables l = refl
entry_key variable l = refl
entry_key automata l = refl
entry_key sync l = refl
entry_key locations l = refl
entry_key init l = refl
entry_key inv l = refl
entry_key edges l = refl
entry_key edge l = refl
entry_key compose l = refl

-- an entry's line says no owner
pub entry_unowned : (k : Key) (l : Line) → owner_said (entry k l) ≡ none
unfolding entry owner_said
entry_unowned format l = refl
entry_unowned actions l = refl
entry_unowned variables l = refl
entry_unowned variable l = refl
entry_unowned automata l = refl
entry_unowned sync l = refl
entry_unowned locations l = refl
entry_unowned init l = refl
entry_unowned inv l = refl
entry_unowned edges l = refl
entry_unowned edge l = refl
entry_unowned compose l = refl

-- a line that breaks no row is the line of what it says
pub line_written : (r : Reading) (k : Key) (l : Line) → fault r k l ≡ none → l ≡ line_of (entry k l)
unfolding row3 value_of
line_written r k l h =
    let f = faultless r k l h in
    let g = formed k l f.f2 in
    let w : l.bytes ≡ spelling k ++ value_text (entry k l) = begins_inv (spelling k) l.bytes g.starts ∙ ap (λ v. spelling k ++ v) (value_written k l g.counts (not-false _ f.f3) f.f6 f.f13) in
    ap (λ (b : Bool). record { bytes = l.bytes; ended = b }) g.ended ∙
    ap (λ (s : Bytes). record { bytes = s; ended = true }) (w ∙ ap (λ j. spelling j ++ value_text (entry k l)) (sym (entry_key k l)))
