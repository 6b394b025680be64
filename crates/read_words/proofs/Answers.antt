-- What each answer of `read` says, by the definitions of the text.
use Prim.Native.Nat.{ℕ, suc, ◌+◌, ◌*◌, ◌≤◌, ◌<◌}
use mathlib.Core.Path.{◌≡◌, refl, sym, ◌∙◌, ap}
use mathlib.Core.Bool.{Bool, true, false}
use mathlib.Core.List.{List, [], ◌∷◌, ◌++◌, map}
use mathlib.Core.Option.{Option, none, some}
use native.Mathlib.Omega.{arith}
use borrow.Author.Tests.{leb-true, leb-false, ltb-true, ltb-false}
use lib.ListN.{length, take, drop, length-map}
use lib.Seq.{take_all, take_at}
use lib.Dec.{eqb, leb, ltb}
use Rattle.model.specs.Basic.{same, on_some}
use Rattle.model.specs.Predicate.{Word, stray}
use Rattle.model.specs.Parse.{Stack, push, stack, read_pred}
use Rattle.model.specs.Table.{code, word_of}
use Rattle.model.proofs.Decode.{words_back}
use Rattle.format.specs.Bytes.{Bytes, space, onto, parts}
use Rattle.format.specs.Tokens.{numeral, tokens, find, read_words, sounds}
use Rattle.format.proofs.BytesLaws.{Free}
use Rattle.format.proofs.TokenLaws.{plain_by}
use Rattle.format.proofs.ReadLaws.{tokens_back}
use Rattle.text_bytes.specs.Find.{gap}
use Rattle.text_bytes.proofs.FindLaws.{gap_free, gap_within}
use Rattle.read_words.specs.Codes.{stray_code, word_code, count_code}
use Rattle.read_words.specs.Read.{is_word, due_after, code_as, codes, count, answer, written, Reads}
use Rattle.read_words.specs.declared.reading.Due.{Due}
use Rattle.read_words.specs.declared.reading.WordsError.{WordsError}
use Rattle.read_words.specs.declared.reading.WordsError.TheVariants.{Stray, Full}
use Rattle.std.specs.Prelude.{Result, Ok, Err}
use Rattle.read_words.proofs.Agree.{Agree, done, halt, next, agree}
use Rattle.text_bytes.proofs.FindLaws.{gap_on}
use Rattle.read_words.proofs.ReadLaws.{gap_stop, gap_nil}

-- no code is stray: the codes are those of the words
agree_all : (cs : List ℕ) (ws : List Word) → Agree cs ws → Free stray_code cs → (cs ≡ map code ws) × Free stray ws
agree_all cs ws done f = (refl, tt)
agree_all cs ws (halt c w _ _ e h) f = absurd (f.0 e)
agree_all cs ws (next c w ds vs e n a) f =
    let i = agree_all ds vs a f.1 in
    (ap (λ (x : ℕ). x ∷ ds) e ∙ ap (λ (l : List ℕ). code w ∷ l) i.0, ((λ z. n (e ∙ ap code z)), i.1))

-- one is stray: the words make no stack
stack_stray : (w : Word) (ws : List Word) → w ≡ stray → stack (w ∷ ws) ≡ none
unfolding stack
stack_stray w ws h = rw h (go (stack ws))
  where
    go : (o : Option Stack) → on_some (push stray) o ≡ none
    go none = unfold on_some in refl
    go (some s) = unfold on_some push in refl

stack_none : (w : Word) (ws : List Word) → stack ws ≡ none → stack (w ∷ ws) ≡ none
unfolding stack on_some
stack_none w ws h = rw h

agree_stray : (cs : List ℕ) (ws : List Word) → Agree cs ws → gap stray_code cs < length cs → stack ws ≡ none
agree_stray cs ws done l = absurd (omega arith)
agree_stray cs ws (halt c w ds vs e h) l = stack_stray w vs h
agree_stray cs ws (next c w ds vs e n a) l = stack_none w vs (agree_stray ds vs a (omega (arith, gap_on stray_code c ds n)))

-- what an answer says of the codes
module _ (cs : List ℕ) (room : ℕ) where
  pub said_read : (n : ℕ) → Ok n ≡ answer cs room → (n ≡ gap stray_code cs) × (n ≤ room) × (length cs ≤ n)
  unfolding answer count
  said_read n e = go (leb (gap stray_code cs) room) refl (ltb (gap stray_code cs) (length cs)) refl e
    where
      go : (u : Bool) → leb (gap stray_code cs) room ≡ u → (v : Bool) → ltb (gap stray_code cs) (length cs) ≡ v
          → Ok n ≡ elim u as (λ x. Result ℕ WordsError) [ true ↦ elim v as (λ x. Result ℕ WordsError) [ true ↦ Err Stray | false ↦ Ok (gap stray_code cs) ] | false ↦ Err Full ]
          → (n ≡ gap stray_code cs) × (n ≤ room) × (length cs ≤ n)
      go true h false k z =
          let i : n ≡ gap stray_code cs = cc in
          (i, omega (arith, leb-true (gap stray_code cs) room h), omega (arith, ltb-false (gap stray_code cs) (length cs) k))
      go true h true k z = absurd (let q : ◌≡◌ {A = ℕ} 0 1 = cc in omega arith)
      go false h v k z = absurd (let q : ◌≡◌ {A = ℕ} 0 1 = cc in omega arith)

  said_stray : Err Stray ≡ answer cs room → gap stray_code cs < length cs
  unfolding answer count
  said_stray e = go (leb (gap stray_code cs) room) (ltb (gap stray_code cs) (length cs)) refl e
    where
      go : (u v : Bool) → ltb (gap stray_code cs) (length cs) ≡ v
          → Err Stray ≡ elim u as (λ x. Result ℕ WordsError) [ true ↦ elim v as (λ x. Result ℕ WordsError) [ true ↦ Err Stray | false ↦ Ok (gap stray_code cs) ] | false ↦ Err Full ]
          → gap stray_code cs < length cs
      go true true k z = ltb-true (gap stray_code cs) (length cs) k
      go true false k z = absurd (let q : ◌≡◌ {A = ℕ} 0 1 = cc in omega arith)
      go false v k z = absurd (let q : ◌≡◌ {A = ℕ} 0 1 = cc in omega arith)

  said_full : Err Full ≡ answer cs room → room < gap stray_code cs
  unfolding answer count
  said_full e = go (leb (gap stray_code cs) room) refl (ltb (gap stray_code cs) (length cs)) e
    where
      go : (u : Bool) → leb (gap stray_code cs) room ≡ u → (v : Bool)
          → Err Full ≡ elim u as (λ x. Result ℕ WordsError) [ true ↦ elim v as (λ x. Result ℕ WordsError) [ true ↦ Err Stray | false ↦ Ok (gap stray_code cs) ] | false ↦ Err Full ]
          → room < gap stray_code cs
      go true h true z = absurd (let q : ◌≡◌ {A = ℕ} 0 1 = cc in omega arith)
      go true h false z = absurd (let q : ◌≡◌ {A = ℕ} 0 1 = cc in omega arith)
      go false h v z = leb-false (gap stray_code cs) room h

-- Ok: no word is stray, and the codes of all stand in front of what was there
pub record AllRead (part old new : List ℕ) (n : ℕ) : Type 0 where
  pub free : Free stray (read_words (tokens part))
  pub counts : n ≡ length (read_words (tokens part))
  pub front : take n new ≡ map code (read_words (tokens part))
  pub whole : new ≡ map code (read_words (tokens part)) ++ drop n old
  pub fits : n ≤ length old

pub read_all_words : (part old new : List ℕ) (n : ℕ) → sounds [] (tokens part) ≡ true → Reads part old new (Ok n) → AllRead part old new n
unfolding written count
read_all_words part old new n h r =
    let cs = codes Due.Word (tokens part) in
    let i = said_read cs (length old) n r.answered in
    let t : take n cs ≡ cs = take_all n cs i.2 in
    let g : gap stray_code cs ≡ n = sym i.0 in
    let f : Free stray_code cs = rw (g, t) at (gap_free stray_code cs) in
    let j = agree_all cs (read_words (tokens part)) (agree part h) f in
    let l : length cs ≡ n = omega (arith, i.2, i.0, gap_within stray_code cs) in
    let m : length cs ≤ length old = omega (arith, i.1) in
    let w : new ≡ cs ++ drop n old = r.memory ∙ rw (g, t, take_all (length old) cs m) in
    record {
      free = j.1;
      counts = sym l ∙ ap length j.0 ∙ length-map (read_words (tokens part)) code;
      front = ap (take n) w ∙ take_at cs (drop n old) n l ∙ j.0;
      whole = w ∙ ap (λ (x : List ℕ). x ++ drop n old) j.0;
      fits = i.1;
    }

-- Stray: the words are ill-formed
pub read_stray_word : (part old new : List ℕ) → sounds [] (tokens part) ≡ true → Reads part old new (Err Stray) → read_pred (read_words (tokens part)) ≡ none
unfolding read_pred on_some
read_stray_word part old new h r =
    rw (agree_stray (codes Due.Word (tokens part)) (read_words (tokens part)) (agree part h) (said_stray (codes Due.Word (tokens part)) (length old) r.answered))

-- Full: not where there is a place for every two bytes. A token that spells a word has a byte, and a space after it.
unfoldable spread : List Bytes → ℕ
spread [] = 0
spread (t ∷ ts) = length t + 1 + spread ts

spread_onto : (b : ℕ) (ss : List Bytes) (n : ℕ) → spread ss ≡ suc n → spread (onto b ss) ≡ suc (suc n)
unfolding spread onto
spread_onto b [] n h = absurd (omega arith)
spread_onto b (s ∷ ss) n h = omega arith

spread_parts : (c : ℕ) (s : Bytes) → spread (parts c s) ≡ suc (length s)
unfolding parts spread
spread_parts c [] = refl
spread_parts c (b ∷ t) = go (eqb b c) (spread_parts c t)
  where
    go : (v : Bool) → spread (parts c t) ≡ suc (length t) → spread (elim v as (λ x. List Bytes) [ true ↦ [] ∷ parts c t | false ↦ onto b (parts c t) ]) ≡ suc (suc (length t))
    go true ih = omega arith
    go false ih = spread_onto b (parts c t) (length t) ih

empty_code : (due : Due) → code_as due [] ≡ stray_code
unfolding code_as word_code count_code numeral find same
empty_code Due.Word = refl
empty_code Due.AllCount = refl
empty_code Due.AnyCount = refl

gap_up : (c : ℕ) (cs : List ℕ) → gap stray_code (c ∷ cs) ≤ suc (gap stray_code cs)
unfolding gap
gap_up c cs = go (eqb c stray_code)
  where
    go : (v : Bool) → elim v as (λ x. ℕ) [ true ↦ 0 | false ↦ suc (gap stray_code cs) ] ≤ suc (gap stray_code cs)
    go true = omega arith
    go false = omega arith

gap_token : (due : Due) (t : Bytes) (cs : List ℕ) → 2 * gap stray_code (code_as due t ∷ cs) ≤ length t + 1 + 2 * gap stray_code cs
gap_token due [] cs = rw (empty_code due, gap_stop stray_code cs) (omega arith)
gap_token due (b ∷ t) cs = omega (arith, gap_up (code_as due (b ∷ t)) cs)

two_bytes : (due : Due) (ts : List Bytes) → 2 * gap stray_code (codes due ts) ≤ spread ts
unfolding codes spread
two_bytes due [] = go (is_word due)
  where
    go : (v : Bool) → 2 * gap stray_code (elim v as (λ x. List ℕ) [ true ↦ [] | false ↦ stray_code ∷ [] ]) ≤ 0
    go true = omega (arith, gap_nil stray_code)
    go false = omega (arith, gap_stop stray_code [])
two_bytes due (t ∷ ts) = go (is_word (due_after due t)) (two_bytes (due_after due t) ts)
  where
    go : (v : Bool) → 2 * gap stray_code (codes (due_after due t) ts) ≤ spread ts
        → 2 * gap stray_code (elim v as (λ x. List ℕ) [ true ↦ code_as due t ∷ codes (due_after due t) ts | false ↦ codes (due_after due t) ts ]) ≤ length t + 1 + spread ts
    go true ih = omega (arith, gap_token due t (codes (due_after due t) ts))
    go false ih = omega arith

-- so many words at most are read of so many bytes
pub half_as_many : (part : List ℕ) → 2 * gap stray_code (codes Due.Word (tokens part)) ≤ suc (length part)
unfolding tokens
half_as_many part = omega (arith, two_bytes Due.Word (parts space part), spread_parts space part)

pub never_full : (part old new : List ℕ) → length part ≤ 2 * length old → Reads part old new (Err Full) → ⊥
never_full part old new l r =
    let i = said_full (codes Due.Word (tokens part)) (length old) r.answered in
    omega (arith, i, half_as_many part)

-- the words that were read, read back from their codes: `well_formed` of them is row 6
pub words_read : (part old new : List ℕ) (n : ℕ) → sounds [] (tokens part) ≡ true → Reads part old new (Ok n) → map word_of (take n new) ≡ read_words (tokens part)
unfolding same
words_read part old new n h r =
    let i = read_all_words part old new n h r in
    let s = tokens_back [] (tokens part) (plain_by [] refl refl refl) h i.free in
    ap (map word_of) i.front ∙ words_back (read_words (tokens part)) s.ranged
