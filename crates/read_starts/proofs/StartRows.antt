-- The answers of `judge` and `append` by the rows of the text: for any bytes that do not break row 3, with a place for
-- every two of them.
use Prim.Native.Nat.{ℕ, suc, ◌+◌, ◌*◌, ◌≤◌, ◌<◌}
use mathlib.Core.Path.{◌≡◌, refl, sym, ◌∙◌, ap, ap₂, subst}
use mathlib.Core.Bool.{Bool, true, false}
use mathlib.Core.List.{List, [], ◌∷◌, ◌++◌, map, flat_map, Memᴰ}
use mathlib.Core.Option.{Option, none, some}
use native.Mathlib.Omega.{arith}
use borrow.Author.Tests.{le-leb, lt-ltb, le-ltb, ltb-true, ltb-false}
use lib.Dec.{ltb}
use lib.ListN.{length, length-append, length-map, take, replicate, length-replicate}
use lib.Seq.{take_all}
use Rattle.model.specs.Basic.{exists, lacks, or_else}
use Rattle.model.specs.Bounds.{max_nodes, max_tree_nodes}
use Rattle.model.specs.Predicate as P
use Rattle.model.specs.Predicate.{Pred, Range, Word, all, words, node_count, names_outside, names_new}
use Rattle.model.specs.Parse.{read_pred}
use Rattle.model.specs.Lawful.{LawfulRange}
use Rattle.model.specs.Limits.{broken, is_too_deep, exceeds_span, passes_nodes}
use Rattle.model.specs.Table.{code, pred_words}
use Rattle.model.proofs.Decode.{is_broken, not_broken}
use Rattle.model.proofs.Parsing.{words_of_read}
use Rattle.table_predicate.specs.Walk.{declared_of}
use Rattle.format.specs.Bytes.{Bytes}
use Rattle.format.specs.Tokens.{tokens, sounds, read_words}
use Rattle.format.proofs.BytesLaws.{Each}
use Rattle.read_form.specs.Outcome.{then_row}
use Rattle.read_form.proofs.Outcomes.{then_broken, then_none, first_none}
use Rattle.read_nodes.specs.declared.NodesError.{NodesError}
use Rattle.read_nodes.specs.declared.NodesError.TheVariants as E
use Rattle.std.specs.Prelude as Std
use Rattle.std.specs.Prelude.{Some, None, Result, Ok, Err}
use Rattle.model.specs.declared.Row.{Row}
use Rattle.model.specs.Row as R
use Rattle.read_nodes.specs.Nodes.{told, nodes_read, codes_of}
use Rattle.read_words.specs.declared.reading.WordsError.{WordsError}
use Rattle.read_nodes.specs.Text.{text_pred, text_fault}
use Rattle.read_nodes.proofs.NodesRows.{read_exact, room_same, answer_same, accepted, went}
use Rattle.read_starts.specs.declared.judging.Judged.{Judged}
use Rattle.read_starts.specs.Judged.{sum_up, smaller, one_more, judged, begun, with_start, judged_from, judged_all, row_of}
use Rattle.read_starts.specs.Rows.{starts_read, start_preds, starts_rows}
use Rattle.read_starts.specs.Texts.{start_texts}
use Rattle.read_starts.specs.Words.{counted_words, words_by, start_words, starts_words}
use Rattle.read_starts.proofs.Least.{rows, either, number, lesser, least, least_none, number_least, below, above, rows_within, least_rows, either_assoc, either_long, said_row}
use Rattle.read_starts.proofs.TextLaws.{Text, preds_of, texts_fine, texts_read, texts_short}

-- the predicate of a P that is one
abbrev pred : Option Pred → Pred
pred o = or_else (all P.none) o

abbrev total : List (Option Pred) → ℕ
total os = length (flat_map words (map pred os))

no_pred : lacks {A = Pred} none ≡ true
unfolding lacks
no_pred = refl

some_words : (p : Pred) → words p ≡ words (pred (some p))
unfolding or_else
some_words p = refl

-- row 11 with so many nodes in all
abbrev many : ℕ → Option ℕ
many n = broken 11 (ltb max_nodes n) none

many_over : (m : ℕ) → max_nodes < m → many m ≡ some 11
many_over m h = is_broken 11 _ none (lt-ltb max_nodes m h)

many_in : (m : ℕ) → m ≤ max_nodes → many m ≡ none
many_in m h = not_broken 11 _ none (le-ltb max_nodes m h)

sum_is : (a b : ℕ) → a + b ≤ max_nodes → sum_up a b ≡ a + b
unfolding sum_up
sum_is a b h = ap (λ (v : Bool). elim v as (λ x. ℕ) [ true ↦ a + b | false ↦ suc max_nodes ]) (le-leb (a + b) max_nodes h)

some_none : {A : Type 0} (row : ℕ) → some row ≡ none → A
some_none row e = absurd (let z : ◌≡◌ {A = ℕ} 0 1 = cc in omega arith)

few_nodes : (x : Option ℕ) (m : ℕ) → then_row x (many m) ≡ none → m ≤ max_nodes
unfolding then_row
few_nodes (some a) m e = some_none a e
few_nodes none m e = go (ltb max_nodes m) refl
  where
    go : (v : Bool) → ltb max_nodes m ≡ v → m ≤ max_nodes
    go true q = some_none 11 (sym (many_over m (ltb-true max_nodes m q)) ∙ e)
    go false q = ltb-false max_nodes m q

-- What is judged so far, where x is the smallest of rows 6 to 10 that a P breaks, and the P's have so many nodes.
module _ (before : ℕ) where
  record Sofar (j : Judged) (x : Option ℕ) (n : ℕ) : Type 0 where
    row : j.row ≡ number (then_row x (many (before + n)))
    nodes : then_row x (many (before + n)) ≡ none → j.nodes ≡ n

  moved : (j : Judged) (x y : Option ℕ) (n m : ℕ) → x ≡ y → n ≡ m → Sofar j x n → Sofar j y m
  moved j x y n m e f s = rw (← e, ← f) s

  abbrev said : ℕ → Std.Option Row
  said b = Some (R.row b)

  abbrev with_row : ℕ → Std.Option Row → Std.Option Row
  with_row b o = Some (smaller (R.row b) o)

  -- one P more that breaks one of these rows
  broken_more : (j : Judged) (n k c b : ℕ) (x : Option ℕ) → Sofar j x n → b < 11 → Sofar (judged (Some (smaller (R.row b) j.row)) j.nodes c) (least x (some b)) (n + k)
  unfolding then_row
  broken_more j n k c b (some a) s l = record { row = ap (with_row b) s.row ∙ number_least (some a) b; nodes = λ e. some_none (lesser b a) e }
  broken_more j n k c b none s l = go (ltb max_nodes (before + n)) refl
    where
      go : (v : Bool) → ltb max_nodes (before + n) ≡ v → Sofar (judged (Some (smaller (R.row b) j.row)) j.nodes c) (some b) (n + k)
      go true e = record { row = ap (with_row b) (s.row ∙ ap number (many_over (before + n) (ltb-true _ _ e))) ∙ number_least (some 11) b ∙ ap said (below b 11 (omega arith)); nodes = λ z. some_none b z }
      go false e = record { row = ap (with_row b) (s.row ∙ ap number (many_in (before + n) (ltb-false _ _ e))) ∙ number_least none b; nodes = λ z. some_none b z }

  -- or that breaks none of them, but row 11
  many_more : (j : Judged) (n k c : ℕ) (x : Option ℕ) → Sofar j x n → ((a : ℕ) → x ≡ some a → (0 < a) × (a < 11)) → max_nodes < sum_up before j.nodes + k
      → Sofar (judged (Some (smaller (R.row 11) j.row)) j.nodes c) x (n + k)
  unfolding then_row
  many_more j n k c (some a) s l h = record { row = ap (with_row 11) s.row ∙ number_least (some a) 11 ∙ ap said (above 11 a (l a refl).1); nodes = λ z. some_none a z }
  many_more j n k c none s l h = go (ltb max_nodes (before + n)) refl
    where
      over : max_nodes < before + (n + k) → with_row 11 j.row ≡ said 11 → Sofar (judged (Some (smaller (R.row 11) j.row)) j.nodes c) none (n + k)
      over m e = record { row = e ∙ sym (ap number (many_over (before + (n + k)) m)); nodes = λ z. some_none 11 (sym (many_over (before + (n + k)) m) ∙ z) }

      go : (v : Bool) → ltb max_nodes (before + n) ≡ v → Sofar (judged (Some (smaller (R.row 11) j.row)) j.nodes c) none (n + k)
      go true e =
          let l = ltb-true max_nodes (before + n) e in
          over (omega arith) (ap (with_row 11) (s.row ∙ ap number (many_over (before + n) l)) ∙ number_least (some 11) 11 ∙ ap said (below 11 11 (omega arith)))
      go false e =
          let l = ltb-false max_nodes (before + n) e in
          let m = s.nodes (many_in (before + n) l) in
          over (omega (arith, m, sum_is before j.nodes (omega (arith, m)))) (ap (with_row 11) (s.row ∙ ap number (many_in (before + n) l)) ∙ number_least none 11)

  -- or none at all
  none_more : (j : Judged) (n k c : ℕ) (x : Option ℕ) → Sofar j x n → sum_up before j.nodes + k ≤ max_nodes → Sofar (judged j.row (sum_up j.nodes k) c) x (n + k)
  unfolding then_row
  none_more j n k c (some a) s h = record { row = s.row; nodes = λ z. some_none a z }
  none_more j n k c none s h = go (ltb max_nodes (before + n)) refl
    where
      go : (v : Bool) → ltb max_nodes (before + n) ≡ v → Sofar (judged j.row (sum_up j.nodes k) c) none (n + k)
      go true e =
          let l = ltb-true max_nodes (before + n) e in
          let m = many_over (before + (n + k)) (omega arith) in
          record { row = s.row ∙ ap number (many_over (before + n) l) ∙ sym (ap number m); nodes = λ z. some_none 11 (sym m ∙ z) }
      go false e =
          let l = ltb-false max_nodes (before + n) e in
          let i = s.nodes (many_in (before + n) l) in
          let f : before + (n + k) ≤ max_nodes = omega (arith, i, sum_is before j.nodes (omega (arith, i))) in
          record {
            row = s.row ∙ ap number (many_in (before + n) l) ∙ sym (ap number (many_in (before + (n + k)) f));
            nodes = λ z. sum_is j.nodes k (omega (arith, i)) ∙ ap (λ (q : ℕ). q + k) i;
          }

  step : (j : Judged) (n k : ℕ) (x y : Option ℕ) → Sofar j x n → ((a : ℕ) → x ≡ some a → (0 < a) × (a < 11)) → ((b : ℕ) → y ≡ some b → (0 < b) × (b < 11))
      → Sofar (with_start j (told k (then_row y (many (sum_up before j.nodes + k))))) (least x y) (n + k)
  unfolding then_row told with_start
  step j n k x (some b) s hx hy = broken_more j n k (one_more j.count) b x s (hy b refl).1
  step j n k x none s hx hy = go (ltb max_nodes (sum_up before j.nodes + k)) refl
    where
      go : (v : Bool) → ltb max_nodes (sum_up before j.nodes + k) ≡ v → Sofar (with_start j (told k (many (sum_up before j.nodes + k)))) (least x none) (n + k)
      go true e =
          let l = ltb-true max_nodes (sum_up before j.nodes + k) e in
          rw (many_over (sum_up before j.nodes + k) l, least_none x) (many_more j n k (one_more j.count) x s hx l)
      go false e =
          let l = ltb-false max_nodes (sum_up before j.nodes + k) e in
          rw (many_in (sum_up before j.nodes + k) l, least_none x) (none_more j n k (one_more j.count) x s l)

module _ (declared : List Range) where
  -- rows 6 to 10 of one P, and of several
  abbrev flags : Option Pred → List Bool
  flags o = lacks o ∷ names_outside (length declared) (words (pred o)) ∷ names_new (words (pred o)) ∷ is_too_deep (pred o) ∷ exceeds_span declared (pred o) ∷ []

  abbrev all_flags : List (Option Pred) → List Bool
  all_flags os =
      exists lacks os ∷ exists (λ p. names_outside (length declared) (words p)) (map pred os) ∷ exists (λ p. names_new (words p)) (map pred os)
      ∷ exists is_too_deep (map pred os) ∷ exists (exceeds_span declared) (map pred os) ∷ []

  abbrev rows_of : List Bool → (nodes : ℕ) → Option ℕ
  rows_of xs n = then_row (rows 6 xs) (many n)

  -- row 11 stands behind them
  all_rows : (a b c d e : Bool) (rest : Option ℕ) → then_row (rows 6 (a ∷ b ∷ c ∷ d ∷ e ∷ [])) rest ≡ broken 6 a (broken 7 b (broken 8 c (broken 9 d (broken 10 e rest))))
  all_rows a b c d e rest = simp (then_broken, then_none)

  module _ (ranges : List ℕ) (are : declared_of ranges ≡ declared) (lawful : (x : Range) → Memᴰ x declared → LawfulRange x) (most room high : ℕ)
      (enough : most ≤ 2 * room) (sorts : most ≤ 2 * high) where
    abbrev read_of : Bytes → Option Pred
    read_of u = read_pred (read_words (tokens u))

    abbrev size : Bytes → ℕ
    size u = length (words (pred (read_of u)))

    -- one P, after so many nodes
    one_row : (u : Bytes) (before : ℕ) → sounds [] (tokens u) ≡ true → text_fault declared before true u none ≡ rows_of (flags (read_of u)) (before + size u)
    unfolding text_fault text_pred passes_nodes
    one_row u before s = not_broken 3 _ _ (rw s) ∙ go (read_of u) refl ∙ sym (all_rows _ _ _ _ _ _)
      where
        later : Option Pred → List Word → Option ℕ
        later o ws =
            broken 7 (names_outside (length declared) ws) (broken 8 (names_new ws)
            (broken 9 (is_too_deep (pred o)) (broken 10 (exceeds_span declared (pred o)) (broken 11 (ltb max_nodes (before + length ws)) none))))

        go : (o : Option Pred) → read_of u ≡ o → broken 6 (lacks o) (later o (read_words (tokens u))) ≡ broken 6 (lacks o) (later o (words (pred o)))
        go none e = is_broken 6 _ _ no_pred ∙ sym (is_broken 6 _ _ no_pred)
        go (some p) e = ap (λ (l : List Word). broken 6 (lacks (some p)) (later (some p) l)) (words_of_read (read_words (tokens u)) p e ∙ some_words p)

    bounded : (xs : List Bool) → length xs ≤ 5 → (a : ℕ) → rows 6 xs ≡ some a → (0 < a) × (a < 11)
    bounded xs l a e = let i = rows_within xs 6 a e in (omega (arith, i.0), omega (arith, i.1))

    module _ (before : ℕ) where
      -- the answer for one P
      read_one : (u : Bytes) (sofar : ℕ) → Text most u
          → nodes_read u true (length declared) ranges sofar room high ≡ told (size u) (then_row (rows 6 (flags (read_of u))) (many (sofar + size u)))
      unfolding node_count text_pred
      read_one u sofar t =
          let l = t.short in
          let m : length (replicate {A = ℕ} room 0) ≡ room = length-replicate {A = ℕ} room 0 in
          ap (λ (n : ℕ). nodes_read u true (length declared) ranges sofar n high) (sym m)
          ∙ (read_exact declared ranges are lawful sofar u true (replicate {A = ℕ} room 0) high (omega arith) (omega arith)).answer
          ∙ ap (told (size u)) (one_row u sofar t.sound)

      folds : (us : List Bytes) → Each (Text most) us → (j : Judged) (xs : List Bool) (n : ℕ) → length xs ≤ 5 → Sofar before j (rows 6 xs) n
          → Sofar before (judged_from (length declared) ranges before room high j us) (rows 6 (either xs (all_flags (preds_of us)))) (n + total (preds_of us))
      unfolding judged_from exists broken flat_map
      folds [] t j xs n l s =
          moved before j (rows 6 xs) (rows 6 (either xs (all_flags []))) n (n + 0)
          (sym (sym (least_rows xs (all_flags []) 6 (omega arith)) ∙ least_none (rows 6 xs))) (omega arith) s
      folds (u ∷ us) t j xs n l s =
          let o = read_of u in
          let sofar = sum_up before j.nodes in
          let i : Sofar before (with_start j (nodes_read u true (length declared) ranges sofar room high)) (rows 6 (either xs (flags o))) (n + size u) =
          rw (read_one u sofar t.0, ← least_rows xs (flags o) 6 (omega arith)) (step before j n (size u) (rows 6 xs) (rows 6 (flags o)) s (bounded xs l) (bounded (flags o) (omega arith))) in
          moved before _ _ _ _ _
          (ap (rows 6) (either_assoc xs (flags o) (all_flags (preds_of us))))
          (omega (arith, length-append (words (pred o)) (flat_map words (map pred (preds_of us)))))
          (folds us t.1 _ (either xs (flags o)) (n + size u) (either_long xs (flags o) 5 l (omega arith)) i)

      start : Sofar before (begun before) (rows 6 (all_flags [])) 0
      unfolding begun exists broken then_row
      start = go (ltb max_nodes before) refl
        where
          go : (v : Bool) → ltb max_nodes before ≡ v → Sofar before (elim v as (λ x. Judged) [ true ↦ judged (Some (R.row 11)) 0 0 | false ↦ judged None 0 0 ]) none 0
          go true e =
              let l = ltb-true max_nodes before e in
              let m = many_over (before + 0) (omega arith) in
              record { row = sym (ap number m); nodes = λ z. refl }
          go false e =
              let l = ltb-false max_nodes before e in
              let m = many_in (before + 0) (omega arith) in
              record { row = sym (ap number m); nodes = λ z. refl }

      ends : (us : List Bytes) → Each (Text most) us → Sofar before (judged_from (length declared) ranges before room high (begun before) us) (rows 6 (all_flags (preds_of us))) (total (preds_of us))
      unfolding exists
      ends us t = moved before _ _ _ _ _ refl (omega arith) (folds us t (begun before) (all_flags []) 0 (omega arith) start)

    -- the words of one P, where its rows are not broken
    one_words : (u : Bytes) → Text most u → rows 6 (flags (read_of u)) ≡ none → size u ≤ max_nodes → start_words room u ≡ pred_words (pred (read_of u))
    unfolding start_words words_by counted_words pred_words told then_row text_pred
    one_words u t e l =
        let n : nodes_read u true (length declared) ranges 0 room high ≡ Ok (size u) =
        read_one 0 u 0 t ∙ ap (told (size u)) (ap (λ (o : Option ℕ). then_row o (many (0 + size u))) e ∙ many_in (0 + size u) (omega arith)) in
        let w = (went u true (length declared) ranges 0 room high (size u) n).words in
        let a = accepted u true (length declared) ranges 0 room high (size u) n in
        ap (λ (x : Result ℕ WordsError). words_by x (codes_of u)) w
        ∙ ap (λ (v : Bool). elim v as (λ x. List ℕ) [ true ↦ size u ∷ take (size u) (codes_of u) | false ↦ [] ]) (le-leb (size u) max_nodes l)
        ∙ ap (λ (c : List ℕ). size u ∷ c) (take_all (size u) (codes_of u) (omega (arith, a.counted)) ∙ a.codes)
        ∙ ap (λ (k : ℕ). k ∷ map code (words (pred (read_of u)))) a.size

    -- a row that no P breaks in the list is not broken by the first, and not by the others
    rows_parted : (xs ys : List Bool) (r : ℕ) → 0 < r → rows r (either xs ys) ≡ none → (rows r xs ≡ none) × (rows r ys ≡ none)
    rows_parted xs ys r p e = go (rows r xs) (rows r ys) (least_rows xs ys r p ∙ e)
      where
        go : (x y : Option ℕ) → least x y ≡ none → (x ≡ none) × (y ≡ none)
        go none y h = (refl, h)
        go (some a) none h = some_none a h
        go (some a) (some b) h = some_none (lesser b a) h

    all_words : (us : List Bytes) → Each (Text most) us → rows 6 (all_flags (preds_of us)) ≡ none → total (preds_of us) ≤ max_nodes
        → flat_map (start_words room) us ≡ flat_map pred_words (map pred (preds_of us))
    unfolding exists flat_map
    all_words [] t e l = refl
    all_words (u ∷ us) t e l =
        let i = rows_parted (flags (read_of u)) (all_flags (preds_of us)) 6 (omega arith) e in
        let m = length-append (words (pred (read_of u))) (flat_map words (map pred (preds_of us))) in
        ap₂ (λ (a b : List ℕ). a ++ b) (one_words u t.0 i.0 (omega arith)) (all_words us t.1 i.1 (omega arith))

-- how many they are
module _ (variables : ℕ) (ranges : List ℕ) (before room high : ℕ) where
  counted_one : (j : Judged) (x : Result ℕ NodesError) → (with_start j x).count ≡ one_more j.count
  unfolding with_start
  counted_one j (Ok n) = refl
  counted_one j (Err (E.Row row)) = refl
  counted_one j (Err E.Full) = refl

  more_by : (c : ℕ) → c < max_tree_nodes → one_more c ≡ c + 1
  unfolding one_more
  more_by c h = ap (λ (v : Bool). elim v as (λ x. ℕ) [ true ↦ c + 1 | false ↦ c ]) (lt-ltb c max_tree_nodes h)

  counts : (us : List Bytes) (j : Judged) → j.count + length us ≤ max_tree_nodes → (judged_from variables ranges before room high j us).count ≡ j.count + length us
  unfolding judged_from
  counts [] j h = omega arith
  counts (u ∷ us) j h =
      let k = with_start j (nodes_read u true variables ranges (sum_up before j.nodes) room high) in
      let e : k.count ≡ j.count + 1 = counted_one j (nodes_read u true variables ranges (sum_up before j.nodes) room high) ∙ more_by j.count (omega arith) in
      let i = counts us k (omega (arith, e)) in
      omega (arith, e, i)

  zero_begun : (begun before).count ≡ 0
  unfolding begun
  zero_begun = go (ltb max_nodes before)
    where
      go : (v : Bool) → (elim v as (λ x. Judged) [ true ↦ judged (Some (R.row 11)) 0 0 | false ↦ judged None 0 0 ]).count ≡ 0
      go true = refl
      go false = refl

  counts_begun : (us : List Bytes) → length us ≤ max_tree_nodes → (judged_from variables ranges before room high (begun before) us).count ≡ length us
  counts_begun us h = let i = counts us (begun before) (omega (arith, zero_begun)) in omega (arith, i, zero_begun)

  -- never more than a tree has nodes
  few_more : (c : ℕ) → c ≤ max_tree_nodes → one_more c ≤ max_tree_nodes
  unfolding one_more
  few_more c h = go (ltb c max_tree_nodes) refl
    where
      go : (v : Bool) → ltb c max_tree_nodes ≡ v → elim v as (λ x. ℕ) [ true ↦ c + 1 | false ↦ c ] ≤ max_tree_nodes
      go true e = let l = ltb-true c max_tree_nodes e in omega arith
      go false e = h

  few_from : (us : List Bytes) (j : Judged) → j.count ≤ max_tree_nodes → (judged_from variables ranges before room high j us).count ≤ max_tree_nodes
  unfolding judged_from
  few_from [] j h = h
  few_from (u ∷ us) j h =
      let x = nodes_read u true variables ranges (sum_up before j.nodes) room high in
      few_from us (with_start j x) (omega (arith, counted_one j x, few_more j.count h))

  pub judged_few : (s : Bytes) → (judged_all variables ranges before room high s).count ≤ max_tree_nodes
  unfolding judged_all
  judged_few s = few_from (start_texts s) (begun before) (omega (arith, zero_begun))

-- All P of a composition.
module _ (declared : List Range) (ranges : List ℕ) (are : declared_of ranges ≡ declared) (lawful : (x : Range) → Memᴰ x declared → LawfulRange x) (before : ℕ)
    (s : Bytes) (sound : sounds [] (tokens s) ≡ true) (room high : ℕ) (enough : length s ≤ 2 * room) (sorts : length s ≤ 2 * high) where
  abbrev its : Judged
  its = judged_all (length declared) ranges before room high s

  sofar : Sofar before its (rows 6 (all_flags declared (starts_read s))) (total (starts_read s))
  unfolding judged_all
  sofar =
      subst (λ (os : List (Option Pred)). Sofar before its (rows 6 (all_flags declared os)) (total os)) (texts_read s sound)
      (ends declared ranges are lawful (length s) room high enough sorts before (start_texts s) (texts_fine s sound))

  rows_are : then_row (rows 6 (all_flags declared (starts_read s))) (many (before + total (starts_read s))) ≡ starts_rows declared before s none
  unfolding starts_rows passes_nodes
  rows_are = all_rows declared _ _ _ _ _ _

  pub judged_rows : row_of its.row ≡ starts_rows declared before s none
  judged_rows = ap row_of sofar.row ∙ said_row _ ∙ rows_are

  pub judged_nodes : starts_rows declared before s none ≡ none → its.nodes ≡ length (flat_map words (start_preds s))
  judged_nodes h = sofar.nodes (rows_are ∙ h)

  pub judged_count : length (start_preds s) ≤ max_tree_nodes → its.count ≡ length (start_preds s)
  unfolding judged_all start_texts
  judged_count h =
      let l : length (start_texts s) ≡ length (start_preds s) =
      sym (length-map (start_texts s) (λ u. read_pred (read_words (tokens u)))) ∙ ap (length {A = Option Pred}) (texts_read s sound) ∙ sym (length-map (starts_read s) pred) in
      counts_begun (length declared) ranges before room high (start_texts s) (omega arith) ∙ l

  pub judged_words : starts_rows declared before s none ≡ none → starts_words room s ≡ flat_map pred_words (start_preds s)
  unfolding starts_words
  judged_words h =
      let r = texts_read s sound in
      let e = rows_are ∙ h in
      let five = first_none _ _ e in
      let few = few_nodes (rows 6 (all_flags declared (starts_read s))) (before + total (starts_read s)) e in
      all_words declared ranges are lawful (length s) room high enough sorts (start_texts s) (texts_fine s sound)
      (ap (λ (os : List (Option Pred)). rows 6 (all_flags declared os)) r ∙ five) (omega (arith, ap total r))
      ∙ ap (λ (os : List (Option Pred)). flat_map pred_words (map pred os)) r

-- more room than enough changes nothing
module _ (s : Bytes) (room high most top : ℕ) (a : length s ≤ 2 * room) (b : length s ≤ 2 * high) (c : length s ≤ 2 * most) (d : length s ≤ 2 * top) where
  from_same : (variables : ℕ) (ranges : List ℕ) (before : ℕ) (us : List Bytes) → Each (λ u. length u ≤ length s) us → (j : Judged)
      → judged_from variables ranges before room high j us ≡ judged_from variables ranges before most top j us
  unfolding judged_from
  from_same variables ranges before [] l j = refl
  from_same variables ranges before (u ∷ us) l j =
      let n = l.0 in
      ap (λ (x : Result ℕ NodesError). judged_from variables ranges before room high (with_start j x) us)
      (room_same u room high (omega arith) (omega arith) true variables ranges (sum_up before j.nodes) most top (omega arith) (omega arith))
      ∙ from_same variables ranges before us l.1 (with_start j (nodes_read u true variables ranges (sum_up before j.nodes) most top))

  each_same : (us : List Bytes) → Each (λ u. length u ≤ length s) us → flat_map (start_words room) us ≡ flat_map (start_words most) us
  unfolding start_words flat_map
  each_same [] l = refl
  each_same (u ∷ us) l =
      let n = l.0 in
      ap₂ (λ (x y : List ℕ). x ++ y) (ap (λ (w : Result ℕ WordsError). words_by w (codes_of u)) (answer_same u room high (omega arith) (omega arith) most (omega arith))) (each_same us l.1)

  pub judged_same : (variables : ℕ) (ranges : List ℕ) (before : ℕ) → judged_all variables ranges before room high s ≡ judged_all variables ranges before most top s
  unfolding judged_all
  judged_same variables ranges before = from_same variables ranges before (start_texts s) (texts_short s) (begun before)

  pub words_same : starts_words room s ≡ starts_words most s
  unfolding starts_words
  words_same = each_same (start_texts s) (texts_short s)
