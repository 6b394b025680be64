-- `read`: each way out of the code of src/reading.rt.
use Prim.Native.Nat.{ℕ, ◌+◌, ◌≤◌, ◌<◌}
use mathlib.Core.Path.{◌≡◌, refl, sym, ◌∙◌, ap}
use mathlib.Core.Bool.{Bool, true, false}
use mathlib.Core.List.{List, [], ◌∷◌, ◌++◌, append-nil, append_assoc}
use native.Mathlib.Omega.{arith}
use native.Mathlib.Numerals.{add-one}
use borrow.Author.Tests.{eq-eqb, ne_eqb, eqb-true, eqb-false, le-leb, lt-leb, lt-ltb, le-ltb, not-true, not-false}
use lib.ListN.{length, take, drop, set, length-set, length-append, drop_of_length-le, take-append-drop}
use lib.Seq.{take_all, take_at, take-take, length-take-le, take-suc-set, drop-set-lt, drop-drop}
use lib.Dec.{eqb, leb, ltb}
use Rattle.model.specs.Basic.{same}
use Rattle.format.specs.Bytes.{Bytes, bytes, space, parts}
use Rattle.format.specs.Tokens.{tokens}
use Rattle.format.proofs.BytesLaws.{Free, free_append}
use Rattle.text_bytes.specs.Find.{gap}
use Rattle.text_bytes.proofs.FindLaws.{gap_on}
use Rattle.read_words.specs.declared.codes.Numbered.TheVariants as N
use Rattle.read_words.specs.Codes.{stray_code, word_code, count_code}
use Rattle.read_words.specs.Read.{is_word, due_after, code_as, codes, count, answer, written, Reads}
use Rattle.read_words.specs.declared.reading.Due.{Due}
use Rattle.read_words.specs.declared.reading.Due.TheVariants.{Word, AllCount, AnyCount}
use Rattle.read_words.specs.declared.reading.WordsError.{WordsError}
use Rattle.read_words.specs.declared.reading.WordsError.TheVariants.{Stray, Full}
use Rattle.std.specs.Prelude.{Result, Ok, Err}

-- the small functions
module _ (d : Due) where
  pub is_word_lem : d ≡ Word → true ≡ is_word d
  unfolding is_word
  is_word_lem h = rw h

  pub is_count : (d ≡ Word → ⊥) → false ≡ is_word d
  unfolding is_word
  is_count h = go d h
    where
      go : (e : Due) → (e ≡ Word → ⊥) → false ≡ is_word e
      go Word n = absurd (n refl)
      go AllCount n = refl
      go AnyCount n = refl

  module _ (t : Bytes) where
    pub after_word : (r : Due) → d ≡ Word → r ≡ due_after Word t → r ≡ due_after d t
    after_word r h e = rw h e

    pub after_count : (d ≡ Word → ⊥) → Word ≡ due_after d t
    unfolding due_after
    after_count h = go d h
      where
        go : (e : Due) → (e ≡ Word → ⊥) → Word ≡ due_after e t
        go Word n = absurd (n refl)
        go AllCount n = refl
        go AnyCount n = refl

    module _ (r : ℕ) where
      pub as_word : d ≡ Word → r ≡ word_code t → r ≡ code_as d t
      unfolding code_as
      as_word h e = rw h e

      pub as_all : d ≡ AllCount → r ≡ count_code N.All t → r ≡ code_as d t
      unfolding code_as
      as_all h e = rw h e

      pub as_any : d ≡ AnyCount → r ≡ count_code N.Any t → r ≡ code_as d t
      unfolding code_as
      as_any h e = rw h e

module _ (t : Bytes) (p : Bool) (e : p ≡ same t (bytes "all")) where
  pub first_all : p ≡ true → AllCount ≡ due_after Word t
  unfolding due_after
  first_all h = rw (← e, h, due_after)

  module _ (h : p ≡ false) (q : Bool) (f : q ≡ same t (bytes "any")) where
    pub first_any : q ≡ true → AnyCount ≡ due_after Word t
    unfolding due_after
    first_any k = rw (← e, h, due_after, ← f, k, due_after)

    pub first_word : q ≡ false → Word ≡ due_after Word t
    unfolding due_after
    first_word k = rw (← e, h, due_after, ← f, k, due_after)

pub ruleset is_laws = (is_word_lem, is_count)

pub ruleset first_laws = (first_all, first_any, first_word)

pub ruleset after_laws = (after_word, after_count)

pub ruleset as_laws = (as_word, as_all, as_any)

-- one token
codes_skip : (due d : Due) (t : Bytes) (ts : List Bytes) → d ≡ due_after due t → is_word d ≡ false → codes due (t ∷ ts) ≡ codes d ts
unfolding codes
codes_skip due d t ts e h = rw (codes, ← e, h) (ap (λ (x : Due). codes x ts) (sym e))

pub codes_word : (due d : Due) (t : Bytes) (ts : List Bytes) → d ≡ due_after due t → is_word d ≡ true → codes due (t ∷ ts) ≡ code_as due t ∷ codes d ts
unfolding codes
codes_word due d t ts e h = rw (codes, ← e, h) (ap (λ (x : Due). code_as due t ∷ codes x ts) (sym e))

codes_end : (due : Due) → is_word due ≡ true → codes due [] ≡ []
unfolding codes
codes_end due h = rw (codes, h)

codes_lack : (due : Due) → is_word due ≡ false → codes due [] ≡ stray_code ∷ []
unfolding codes
codes_lack due h = rw (codes, h)

-- how many words stand before the first stray one, where the first are known
pub gap_append : (c : ℕ) (p q : List ℕ) → Free c p → gap c (p ++ q) ≡ length p + gap c q
unfolding gap
gap_append c [] q f = omega arith
gap_append c (b ∷ p) q f = rw (ne_eqb b c f.0, gap) (omega (arith, gap_append c p q f.1))

pub gap_stop : (c : ℕ) (q : List ℕ) → gap c (c ∷ q) ≡ 0
unfolding gap
gap_stop c q = rw (eq-eqb c c refl, gap)

pub gap_nil : (c : ℕ) → gap c [] ≡ 0
unfolding gap
gap_nil c = refl

-- n codes of cs, none of them stray, stand in the first places of `out`, the rest is as in `old`, and more are still to come
pub record Front (old cs more : List ℕ) (n : ℕ) (out : List ℕ) : Type 0 where
  pub text : cs ≡ take n out ++ more
  pub inside : n ≤ length out
  pub long : length out ≡ length old
  pub rest : drop n out ≡ drop n old
  pub words : Free stray_code (take n out)

module _ (old cs more out : List ℕ) (n : ℕ) (k : Front old cs more n out) where
  counted : gap stray_code cs ≡ n + gap stray_code more
  counted =
      let l : length (take n out) ≡ n = length-take-le n out k.inside in
      rw (k.text, gap_append stray_code (take n out) more k.words, l)

  sized : length cs ≡ n + length more
  sized =
      let l : length (take n out) ≡ n = length-take-le n out k.inside in
      rw (k.text, length-append (take n out) more, l)

  front : take n cs ≡ take n out
  front = rw k.text (take_at (take n out) more n (length-take-le n out k.inside))

  -- no more words come: what was read stands, and all of it is the answer if nothing at all comes
  kept : gap stray_code more ≡ 0 → out ≡ written cs old
  unfolding written count
  kept z =
      let g : gap stray_code cs ≡ n = omega (arith, counted) in
      let a : length (take n out) ≤ length old = omega (arith, length-take-le n out k.inside, k.long, k.inside) in
      rw (g, front, take_all (length old) (take n out) a, ← k.rest, take-append-drop)

  answered : gap stray_code more ≡ 0 → (v : Bool) → ltb n (length cs) ≡ v → answer cs (length old) ≡ elim v as (λ x. Result ℕ WordsError) [ true ↦ Err Stray | false ↦ Ok n ]
  unfolding answer count
  answered z v h =
      let g : gap stray_code cs ≡ n = omega (arith, counted) in
      let l : leb n (length old) ≡ true = le-leb n (length old) (omega (arith, k.long, k.inside)) in
      ap (λ (x : ℕ). elim (leb x (length old)) as (λ y. Result ℕ WordsError) [ true ↦ elim (ltb x (length cs)) as (λ y. Result ℕ WordsError) [ true ↦ Err Stray | false ↦ Ok x ] | false ↦ Err Full ]) g ∙
      ap (λ (u : Bool). elim u as (λ y. Result ℕ WordsError) [ true ↦ elim (ltb n (length cs)) as (λ y. Result ℕ WordsError) [ true ↦ Err Stray | false ↦ Ok n ] | false ↦ Err Full ]) l ∙
      ap (λ (u : Bool). elim u as (λ y. Result ℕ WordsError) [ true ↦ Err Stray | false ↦ Ok n ]) h

  stopped : gap stray_code more ≡ 0 → 0 < length more → answer cs (length old) ≡ Err Stray
  stopped z m = answered z true (lt-ltb n (length cs) (omega (arith, sized)))

  ended : gap stray_code more ≡ 0 → length more ≡ 0 → answer cs (length old) ≡ Ok n
  ended z m = answered z false (le-ltb n (length cs) (omega (arith, sized)))

  -- a word comes, and there is no room for it
  module _ (f : length out ≤ n) (g : 0 < gap stray_code more) where
    filled : out ≡ written cs old
    unfolding written count
    filled =
        let o : length old ≡ n = omega (arith, k.long, k.inside) in
        let a : n ≤ gap stray_code cs = omega (arith, counted) in
        let b : length old ≤ gap stray_code cs = omega arith in
        rw (o, take-take n (gap stray_code cs) cs a, front, take_all n out f, drop_of_length-le old b, append-nil)

    full : answer cs (length old) ≡ Err Full
    unfolding answer count
    full = rw (lt-leb (gap stray_code cs) (length old) (omega (arith, counted, k.long, k.inside)), answer)

-- what the loop keeps: n codes stand, and those of the tokens after the first k are still to come
pub record Reading (s old : List ℕ) (due : Due) (n k : ℕ) (out : List ℕ) : Type 0 where
  pub stands : Front old (codes Word (tokens s)) (codes due (drop k (parts space s))) n out

pub read_start : (s old : List ℕ) → Reading s old Word 0 0 old
unfolding tokens
read_start s old = record { stands = record { text = refl; inside = omega arith; long = refl; rest = refl; words = tt } }

-- each way out of a turn, and of the loop
module _ (s old out : List ℕ) (due : Due) (n k : ℕ) (inv : Reading s old due n k out) where
  module _ (more : List ℕ) (e : codes due (drop k (parts space s)) ≡ more) where
    known : Front old (codes Word (tokens s)) more n out
    known = rw e at inv.stands

    stop : gap stray_code more ≡ 0 → 0 < length more → Reads s old out (Err Stray)
    stop z l = record { answered = sym (stopped _ _ more out n known z l); memory = kept _ _ more out n known z; long = inv.stands.long }

  module _ (t : Bytes) (h : drop k (parts space s) ≡ t ∷ drop (k + 1) (parts space s)) (d : Due) (g : d ≡ due_after due t) (p : Bool) (f : p ≡ is_word d) where
    abbrev later : List Bytes
    later = drop (k + 1) (parts space s)

    pub read_skip : p ≡ false → (l : ℕ) → l ≡ k + 1 → Reading s old d n l out
    read_skip y l m = record { stands = known (codes d (drop l (parts space s))) (rw (h, m) (codes_skip due d t later g (sym f ∙ y))) }

    module _ (y : p ≡ true) (c : ℕ) (q : c ≡ code_as due t) where
      coming : codes due (drop k (parts space s)) ≡ c ∷ codes d later
      coming = rw (h, q) (codes_word due d t later g (sym f ∙ y))

      pub read_stray : (b : Bool) → b ≡ eqb c stray_code → b ≡ true → Reads s old out (Err Stray)
      read_stray b eb hb =
          let z = eqb-true c stray_code (sym eb ∙ hb) in
          stop (stray_code ∷ codes d later) (rw z at coming) (gap_stop stray_code (codes d later)) (omega arith)

      module _ (b : Bool) (eb : b ≡ eqb c stray_code) (hb : b ≡ false) where
        z : c ≡ stray_code → ⊥
        z = eqb-false c stray_code (sym eb ∙ hb)

        stands : Front old (codes Word (tokens s)) (c ∷ codes d later) n out
        stands = known (c ∷ codes d later) coming

        pub read_full : length out ≤ n → Reads s old out (Err Full)
        read_full l =
            let u : 0 < gap stray_code (c ∷ codes d later) = omega (arith, gap_on stray_code c (codes d later) z) in
            record {
              answered = sym (full _ _ (c ∷ codes d later) out n stands l u);
              memory = filled _ _ (c ∷ codes d later) out n stands l u;
              long = inv.stands.long;
            }

        pub read_word : n < length out → (l : ℕ) → l ≡ k + 1 → Reading s old d (n + 1) l (set out n c)
        read_word l j e =
            record {
              stands = record {
                text = stands.text ∙ rw (e, add-one n, take-suc-set out n c l, append_assoc);
                inside = rw (length-set out n c) (omega arith);
                long = length-set out n c ∙ stands.long;
                rest = drop-set-lt (n + 1) out n c (omega arith) ∙ sym (drop-drop 1 n out) ∙ ap (drop 1) stands.rest ∙ drop-drop 1 n old;
                words = rw (add-one n, take-suc-set out n c l) (free_append stray_code (take n out) (c ∷ []) stands.words (z, tt));
              };
            }

  module _ (h : drop k (parts space s) ≡ []) (p : Bool) (f : p ≡ is_word due) where
    pub read_done : p ≡ true → Reads s old out (Ok n)
    read_done y =
        let q = known [] (rw h (codes_end due (sym f ∙ y))) in
        record { answered = sym (ended _ _ [] out n q (gap_nil stray_code) refl); memory = kept _ _ [] out n q (gap_nil stray_code); long = q.long }

    pub read_lacking : p ≡ false → Reads s old out (Err Stray)
    read_lacking y = stop (stray_code ∷ []) (rw h (codes_lack due (sym f ∙ y))) (gap_stop stray_code []) (omega arith)

pub ruleset read_laws = (read_start, read_skip, read_stray, read_full, read_word, read_done, read_lacking, not-true, not-false)
