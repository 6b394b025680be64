-- Each way out of the code of src/words.rt.
use Prim.Native.Nat.{ℕ, ◌+◌, ◌-◌, ◌≤◌, ◌<◌}
use mathlib.Core.Path.{◌≡◌, refl, sym, ◌∙◌, ap}
use mathlib.Core.Bool.{Bool, true, false}
use mathlib.Core.List.{List, [], ◌∷◌, ◌++◌, flat_map}
use native.Mathlib.Omega.{arith}
use native.Mathlib.Nat.{add-zero, zero-add}
use borrow.Author.Tests.{le-leb, lt-leb, leb-true, leb-false}
use lib.Dec.{leb}
use lib.ListN.{length, take, drop, length-append}
use lib.Seq.{take_all}
use Rattle.model.specs.Bounds.{max_nodes, table_words}
use Rattle.format.specs.Bytes.{Bytes}
use Rattle.table_append.specs.Append.{next_place, put}
use Rattle.table_append.proofs.AppendLaws.{next_in, next_over}
use Rattle.table_append.proofs.Joined.{next_then, put_then}
use Rattle.read_words.specs.declared.reading.WordsError.{WordsError}
use Rattle.read_words.specs.declared.reading.WordsError.TheVariants.{Stray, Full}
use Rattle.read_words.specs.Read.{Reads}
use Rattle.read_predicate.specs.Scratch.{Scratch}
use Rattle.read_nodes.specs.Nodes.{codes_of}
use Rattle.read_nodes.proofs.NodesLaws.{read_front}
use Rattle.std.specs.Prelude as Std
use Rattle.std.specs.Prelude.{Some, None, Result, Ok, Err}
use Rattle.read_extent.specs.Extent.{after_start, next_start}
use Rattle.read_starts.specs.Words.{counted_words, words_by, start_words, starts_words}
use Rattle.read_starts.proofs.PartLaws.{texts_from, texts_start, texts_none, texts_next, texts_later}

-- `place`
place_in : (at : ℕ) → at ≤ table_words → at ≡ next_place at 0
place_in at h = let z : at ≡ at + 0 = omega arith in z ∙ next_in at 0 (omega arith)

place_over : (at : ℕ) → table_words < at → table_words ≡ next_place at 0
place_over at h = next_over at 0 (omega arith)

pub place_by : (at r : ℕ) → (at ≤ table_words → r ≡ at) → (table_words < at → r ≡ table_words) → r ≡ next_place at 0
place_by at r inside over = go (leb at table_words) refl
  where
    go : (v : Bool) → leb at table_words ≡ v → r ≡ next_place at 0
    go true e = let h = leb-true at table_words e in inside h ∙ place_in at h
    go false e = let h = leb-false at table_words e in over h ∙ place_over at h

-- `append_counted`
module _ (n : ℕ) (nodes : List ℕ) (at : ℕ) (words : List ℕ) where
  module _ (h : 4096 < n) where
    none : counted_words n nodes ≡ []
    unfolding counted_words
    none = rw (lt-leb n 4096 h, counted_words)

    pub long_next : (z : ℕ) → z ≡ next_place at 0 → z ≡ next_place at (length (counted_words n nodes))
    long_next z hz = hz ∙ ap (λ (l : List ℕ). next_place at (length l)) (sym none)

    pub long_put : words ≡ put at (counted_words n nodes) words
    unfolding put
    long_put = ap (λ (l : List ℕ). put at l words) (sym none)

  module _ (h : n ≤ 4096) (i : ℕ) (hi : i ≡ next_place at 1) where
    all_of : counted_words n nodes ≡ n ∷ take n nodes
    unfolding counted_words
    all_of = rw (le-leb n 4096 h, counted_words)

    pub short_next : (r : ℕ) → r ≡ next_place i (length (take n nodes)) → r ≡ next_place at (length (counted_words n nodes))
    short_next r hr =
        hr ∙ ap (λ (k : ℕ). next_place k (length (take n nodes))) hi ∙ next_then at 1 (length (take n nodes))
        ∙ ap (next_place at) (omega (arith, ap length all_of))

    pub short_put : (mid last : List ℕ) → mid ≡ put at (n ∷ []) words → last ≡ put i (take n nodes) mid → last ≡ put at (counted_words n nodes) words
    short_put mid last hm hl =
        hl ∙ ap (put i (take n nodes)) hm ∙ ap (λ (k : ℕ). put k (take n nodes) (put at (n ∷ []) words)) hi
        ∙ put_then (n ∷ []) at (take n nodes) words ∙ ap (λ (k : List ℕ). put at k words) (sym all_of)

pub ruleset counted_laws = (long_next, long_put, short_next, short_put)

-- `append_one`
module _ (p : Bytes) (old new : List ℕ) (a : Result ℕ WordsError) (e : Reads p old new a) (at : ℕ) where
  by_answer : (w : List ℕ) → words_by a (codes_of p) ≡ w → w ≡ start_words (length old) p
  unfolding start_words codes_of
  by_answer w h = sym (ap (λ (x : Result ℕ WordsError). words_by x (codes_of p)) (sym e.answered) ∙ h)

  module _ (w : WordsError) (h : a ≡ Err w) where
    none_by : [] ≡ start_words (length old) p
    unfolding words_by
    none_by = go w h
      where
        go : (v : WordsError) → a ≡ Err v → [] ≡ start_words (length old) p
        go Stray k = by_answer [] (rw k)
        go Full k = by_answer [] (rw k)

    pub failed_next : (z : ℕ) → z ≡ next_place at 0 → z ≡ next_place at (length (start_words (length old) p))
    failed_next z hz = hz ∙ ap (λ (l : List ℕ). next_place at (length l)) none_by

    pub failed_put : (words : List ℕ) → words ≡ put at (start_words (length old) p) words
    unfolding put
    failed_put words = ap (λ (l : List ℕ). put at l words) none_by

  module _ (n : ℕ) (h : a ≡ Ok n) where
    front : counted_words n new ≡ start_words (length old) p
    unfolding words_by counted_words
    front =
        let f = read_front p old new n (rw h at e) in
        by_answer (counted_words n new) (rw h (ap (λ (l : List ℕ). elim (leb n max_nodes) as (λ x. List ℕ) [ true ↦ n ∷ l | false ↦ [] ]) (take_all n (codes_of p) (omega (arith, f.1)) ∙ sym f.0)))

    pub read_next : (r : ℕ) → r ≡ next_place at (length (counted_words n new)) → r ≡ next_place at (length (start_words (length old) p))
    read_next r hr = hr ∙ ap (λ (l : List ℕ). next_place at (length l)) front

    pub read_put : (words last : List ℕ) → last ≡ put at (counted_words n new) words → last ≡ put at (start_words (length old) p) words
    read_put words last hl = hl ∙ ap (λ (l : List ℕ). put at l words) front

  pub read_scratch : Scratch old new
  read_scratch = record { long = e.long }

pub ruleset one_laws = (failed_next, failed_put, read_next, read_put, read_scratch)

-- `append`
module _ (s : Bytes) (words : List ℕ) (at room : ℕ) where
  abbrev pub all_words : List ℕ
  all_words = starts_words room s

  abbrev rest_words : ℕ → List ℕ
  rest_words from = flat_map (start_words room) (texts_from s from)

  -- so far: what is left to be put goes on from `end`
  pub record Goes (end : ℕ) (sofar : List ℕ) (from : ℕ) : Type 0 where
    place : next_place at (length all_words) ≡ next_place end (length (rest_words from))
    table : put at all_words words ≡ put end (rest_words from) sofar
    inside : end ≡ next_place end 0

  pub go_start : (end : ℕ) → end ≡ next_place at 0 → Goes end words 0
  unfolding starts_words put
  go_start end e =
      let w = ap (flat_map (start_words room)) (texts_start s) in
      record {
        place = ap (λ (l : List ℕ). next_place at (length l)) w ∙ ap (next_place at) (sym (zero-add (length (rest_words 0)))) ∙ sym (next_then at 0 (length (rest_words 0))) ∙ ap (λ (n : ℕ). next_place n (length (rest_words 0))) (sym e);
        table = ap (λ (l : List ℕ). put at l words) w ∙ sym (put_then [] at (rest_words 0) words) ∙ ap (λ (n : ℕ). put n (rest_words 0) words) (sym e);
        inside = e ∙ sym (next_then at 0 0) ∙ ap (λ (n : ℕ). next_place n 0) (sym e);
      }

  module _ (end : ℕ) (sofar : List ℕ) (from : ℕ) (g : Goes end sofar from) where
    module _ (none : texts_from s from ≡ []) where
      ended_next : end ≡ next_place at (length all_words)
      unfolding flat_map
      ended_next = g.inside ∙ ap (λ (l : List Bytes). next_place end (length (flat_map (start_words room) l))) (sym none) ∙ sym g.place

      ended_put : sofar ≡ put at all_words words
      unfolding flat_map put
      ended_put = ap (λ (l : List Bytes). put end (flat_map (start_words room) l) sofar) (sym none) ∙ sym g.table

    module _ (x : Std.Option ℕ) (e : x ≡ next_start s from) where
      pub none_next : x ≡ None → end ≡ next_place at (length all_words)
      none_next z = ended_next (texts_none s from (sym e ∙ z))

      pub none_put : x ≡ None → sofar ≡ put at all_words words
      none_put z = ended_put (texts_none s from (sym e ∙ z))

      module _ (start next : ℕ) (z : x ≡ Some start) (y : next ≡ after_start s start) where
        pub go_less : length s + 1 - next < length s + 1 - from
        go_less = let l = texts_later s from start (sym e ∙ z) in omega (arith, l.0, l.1)

        pub go_on : (nodes₀ nodes : List ℕ) (p : Bytes) (last : ℕ) (new : List ℕ) → last ≡ next_place end (length (start_words (length nodes) p))
            → new ≡ put end (start_words (length nodes) p) sofar → p ≡ take (next - 1 - start) (drop start s)
            → Scratch nodes₀ nodes → length nodes₀ ≡ room → Goes last new next
        unfolding flat_map
        go_on nodes₀ nodes p last new lb lc a ln rn =
            let l : length nodes ≡ room = ln.long ∙ rn in
            let b = lb ∙ ap (λ (n : ℕ). next_place end (length (start_words n p))) l in
            let c = lc ∙ ap (λ (n : ℕ). put end (start_words n p) sofar) l in
            let w = start_words room p in
            let t : texts_from s from ≡ p ∷ texts_from s next =
            texts_next s from start (sym e ∙ z) ∙ ap (λ (n : ℕ). take (n - 1 - start) (drop start s) ∷ texts_from s n) (sym y) ∙ ap (λ (q : Bytes). q ∷ texts_from s next) (sym a) in
            let f : rest_words from ≡ w ++ rest_words next = ap (flat_map (start_words room)) t in
            record {
              place = g.place ∙ ap (λ (l : List ℕ). next_place end (length l)) f ∙ ap (next_place end) (length-append w (rest_words next)) ∙ sym (next_then end (length w) (length (rest_words next))) ∙ ap (λ (n : ℕ). next_place n (length (rest_words next))) (sym b);
              table = g.table ∙ ap (λ (l : List ℕ). put end l sofar) f ∙ sym (put_then w end (rest_words next) sofar) ∙ ap (λ (n : ℕ). put n (rest_words next) (put end w sofar)) (sym b) ∙ ap (put last (rest_words next)) (sym c);
              inside = b ∙ ap (next_place end) (sym (add-zero (length w))) ∙ sym (next_then end (length w) 0) ∙ ap (λ (n : ℕ). next_place n 0) (sym b);
            }

pub ruleset append_laws = (go_start, none_next, none_put, go_less, go_on)
