-- Tokens that are sound and hold no stray word are the tokens of their words.
use Prim.Native.Nat.{ℕ, ◌≤◌, ◌<◌}
use mathlib.Core.Path.{◌≡◌, refl, sym, ◌∙◌, ap, subst}
use mathlib.Core.Bool.{Bool, true, false, ◌&&◌, ◌||◌}
use mathlib.Core.List.{List, [], ◌∷◌, ◌++◌, map, flat_map}
use mathlib.Core.Logic.{⊎_elim}
use mathlib.Core.Option.{Option, none, some}
use native.Mathlib.Omega.{arith}
use borrow.Author.Tests.{leb-true, eqb-true, le-leb}
use lib.Dec.{eqb, leb}
use lib.IntN.{ℤ, pos, negsuc}
use Rattle.model.specs.Basic.{between, every, same}
use Rattle.model.specs.Bounds.{greatest_number, last_variable, least_number, max_operands}
use Rattle.model.specs.Limits.{in_range}
use Rattle.model.specs.Predicate.{Word, all_of, any_of, new_word, num_word, old_word, stray}
use Rattle.model.proofs.Tests.{and_intro, and_left, and_right, or_cases}
use Rattle.format.specs.Bytes.{'a, 'n, 'v, Bytes, bytes}
use Rattle.format.specs.Number.{natural_of, decimal, digit, integer_of, is_between, number, signed, within}
use Rattle.format.specs.Spelling.{spelled}
use Rattle.format.specs.Tokens.{Numeral, bare, counted, find, number_sound, last_after, lettered, numeral, read_words, sound, sounds, spellings, unjudged, variable_word, word}
use Rattle.format.proofs.BytesLaws.{Free, same_is}
use Rattle.format.proofs.NumberLaws.{digit_is, false_true, signed_number}
use Rattle.format.proofs.TokenLaws.{Plain, count_decimal, counted_bare, every_cons, integer_signed, judged_plain, plain_by, plain_first, plain_letter_n, plain_letter_v, read_all, read_any, read_nil, read_one, sound_bare, sound_lettered, sounds_step, word_bare, word_lettered, word_unjudged}

-- what a numeral says of its token
first_low : (b : ℕ) → digit b || eqb b 45 ≡ true → b < 97
first_low b h = ⊎_elim (λ k. let i = digit_is b k in omega arith) (λ k. let i = eqb-true b 45 k in omega arith) (or_cases (digit b) (eqb b 45) h)

pub bare_is : (t s : Bytes) → numeral t ≡ bare s → (t ≡ s) × Plain t
unfolding numeral
bare_is [] s e = absurd (let z : ◌≡◌ {A = ℕ} 0 1 = cc in omega arith)
bare_is (b ∷ []) s e = go (digit b || eqb b 45) refl e
  where
    go : (v : Bool) → digit b || eqb b 45 ≡ v → elim v [ true ↦ bare (b ∷ []) | false ↦ unjudged ] ≡ bare s → (b ∷ [] ≡ s) × Plain (b ∷ [])
    go true h k = let x : b ∷ [] ≡ s = cc in (x, plain_first b [] (first_low b h))
    go false h k = absurd (let z : ◌≡◌ {A = ℕ} 0 1 = cc in omega arith)
bare_is (b ∷ c ∷ t) s e = go (digit b || eqb b 45) refl e
  where
    no_letter : (v : Bool) → elim v [ true ↦ lettered b (c ∷ t) | false ↦ unjudged ] ≡ bare s → ⊥
    no_letter true k = let z : ◌≡◌ {A = ℕ} 0 1 = cc in omega arith
    no_letter false k = let z : ◌≡◌ {A = ℕ} 0 1 = cc in omega arith

    go : (v : Bool) → digit b || eqb b 45 ≡ v → elim v [ true ↦ bare (b ∷ c ∷ t) | false ↦ elim ((eqb b 'v || (eqb b 'n || eqb b 'a)) && digit c) [ true ↦ lettered b (c ∷ t) | false ↦ unjudged ] ] ≡ bare s → (b ∷ c ∷ t ≡ s) × Plain (b ∷ c ∷ t)
    go true h k = let x : b ∷ c ∷ t ≡ s = cc in (x, plain_first b (c ∷ t) (first_low b h))
    go false h k = absurd (no_letter ((eqb b 'v || (eqb b 'n || eqb b 'a)) && digit c) k)

pub lettered_is : (t s : Bytes) (a : ℕ) → numeral t ≡ lettered a s → t ≡ a ∷ s
unfolding numeral
lettered_is [] s a e = absurd (let z : ◌≡◌ {A = ℕ} 0 1 = cc in omega arith)
lettered_is (b ∷ []) s a e = absurd (go (digit b || eqb b 45) e)
  where
    go : (v : Bool) → elim v [ true ↦ bare (b ∷ []) | false ↦ unjudged ] ≡ lettered a s → ⊥
    go true k = let z : ◌≡◌ {A = ℕ} 0 1 = cc in omega arith
    go false k = let z : ◌≡◌ {A = ℕ} 0 1 = cc in omega arith
lettered_is (b ∷ c ∷ t) s a e = go (digit b || eqb b 45) e
  where
    here : (v : Bool) → elim v [ true ↦ lettered b (c ∷ t) | false ↦ unjudged ] ≡ lettered a s → b ∷ c ∷ t ≡ a ∷ s
    here true k =
        let x : b ≡ a = cc in
        let y : c ∷ t ≡ s = cc in
        cc
    here false k = absurd (let z : ◌≡◌ {A = ℕ} 0 1 = cc in omega arith)

    go : (v : Bool) → elim v [ true ↦ bare (b ∷ c ∷ t) | false ↦ elim ((eqb b 'v || (eqb b 'n || eqb b 'a)) && digit c) [ true ↦ lettered b (c ∷ t) | false ↦ unjudged ] ] ≡ lettered a s → b ∷ c ∷ t ≡ a ∷ s
    go true k = absurd (let z : ◌≡◌ {A = ℕ} 0 1 = cc in omega arith)
    go false k = here ((eqb b 'v || (eqb b 'n || eqb b 'a)) && digit c) k

-- a number in a range
pub within_inv : (lo hi : ℤ) (s : Bytes) → within lo hi s ≡ true → (z : ℤ) × (s ≡ signed z) × (between lo hi z ≡ true)
unfolding within is_between
within_inv lo hi s e = go (number s) refl e
  where
    go : (o : Option ℤ) → number s ≡ o → is_between lo hi o ≡ true → (z : ℤ) × (s ≡ signed z) × (between lo hi z ≡ true)
    go none h k = absurd (false_true k)
    go (some z) h k = (z, signed_number s z h, k)

natural_inv : (h : ℕ) (s : Bytes) → within (pos 0) (pos h) s ≡ true → (n : ℕ) × (s ≡ decimal n) × (n ≤ h)
unfolding signed between
natural_inv h s e = let i = within_inv (pos 0) (pos h) s e in go i.0 i.1 i.2
  where
    go : (z : ℤ) → s ≡ signed z → between (pos 0) (pos h) z ≡ true → (n : ℕ) × (s ≡ decimal n) × (n ≤ h)
    go (pos n) k l = (n, k, leb-true n h (and_right (leb 0 n) (leb n h) l))
    go (negsuc n) k l = absurd (false_true l)

-- a word that is one token
record Good (t : Bytes) (w : Word) : Type 0 where
  spells : spelled w ≡ t ∷ []
  ranged : in_range w ≡ true
  no_syn : same t (bytes "syn") ≡ false

abbrev AllGood : List (Bytes × Word) → Type 0
AllGood [] = Unit
AllGood (w ∷ l) = Good w.0 w.1 × AllGood l

find_good : (l : List (Bytes × Word)) (t : Bytes) → AllGood l → (find stray l t ≡ stray → ⊥) → Good t (find stray l t)
unfolding find
find_good [] t g h = absurd (h refl)
find_good (w ∷ l) t g h = go (find_good l t g.1) (same w.0 t) refl h
  where
    go : ((find stray l t ≡ stray → ⊥) → Good t (find stray l t)) → (v : Bool) → same w.0 t ≡ v → (elim v [ true ↦ w.1 | false ↦ find stray l t ] ≡ stray → ⊥) → Good t (elim v [ true ↦ w.1 | false ↦ find stray l t ])
    go ih true k n = rw (← same_is w.0 t k) g.0
    go ih false k n = ih n

spellings_good : AllGood spellings
unfolding spelled in_range same
spellings_good = (
  record { spells = refl; ranged = refl; no_syn = refl },
  (
    record { spells = refl; ranged = refl; no_syn = refl },
    (
      record { spells = refl; ranged = refl; no_syn = refl },
      (
        record { spells = refl; ranged = refl; no_syn = refl },
        (
          record { spells = refl; ranged = refl; no_syn = refl },
          (
            record { spells = refl; ranged = refl; no_syn = refl },
            (
              record { spells = refl; ranged = refl; no_syn = refl },
              (record { spells = refl; ranged = refl; no_syn = refl }, tt),
            ),
          ),
        ),
      ),
    ),
  ),
)

good_num : (t s : Bytes) → t ≡ s → Plain t → within least_number greatest_number s ≡ true → Good t (num_word (integer_of s))
good_num t s e p h =
    let i = within_inv least_number greatest_number s h in
    let x : integer_of s ≡ i.0 = ap integer_of i.1 ∙ integer_signed i.0 in
    rw x (record { spells = unfold spelled in ap (λ u. u ∷ []) (sym i.1 ∙ sym e); ranged = unfold in_range in i.2; no_syn = p.no_syn })

-- a variable's number
pub number_of_lem : (h : ℕ) (s : Bytes) → within (pos 0) (pos h) s ≡ true → (s ≡ decimal (natural_of s)) × (leb (natural_of s) h ≡ true)
number_of_lem h s e =
    let i = natural_inv h s e in
    let x : natural_of s ≡ i.0 = ap natural_of i.1 ∙ count_decimal i.0 in
    let y : s ≡ decimal (natural_of s) = i.1 ∙ ap decimal (sym x) in
    (y, ap (λ n. leb n h) x ∙ le-leb i.0 h i.2)

-- a list of actions, or of variables
pub items_decimal : (top : ℕ) (ss : List Bytes) → every (within (pos 0) (pos top)) ss ≡ true → ss ≡ map decimal (map natural_of ss)
items_decimal top [] h = refl
items_decimal top (s ∷ ss) h =
    let i = every_cons (within (pos 0) (pos top)) s ss h in
    ap (λ u. u ∷ ss) (number_of_lem top s i.0).0 ∙ ap (λ l. decimal (natural_of s) ∷ l) (items_decimal top ss i.1)

good_old : (t s : Bytes) (a : ℕ) → t ≡ a ∷ s → a ≡ 'v → within (pos 0) (last_after a) s ≡ true → Good t (old_word (natural_of s))
unfolding spelled in_range last_after
good_old t s a e f h =
    let x : within (pos 0) (pos last_variable) s ≡ true = ap (λ c. within (pos 0) (last_after c) s) (sym f) ∙ h in
    let i = number_of_lem last_variable s x in
    let y : t ≡ 'v ∷ decimal (natural_of s) = e ∙ ap (λ c. c ∷ s) f ∙ ap (λ u. 'v ∷ u) i.0 in
    record { spells = ap (λ u. u ∷ []) (sym y); ranged = i.1; no_syn = ap (λ u. same u (bytes "syn")) y ∙ (plain_letter_v (decimal (natural_of s))).no_syn }

good_new : (t s : Bytes) (a : ℕ) → t ≡ a ∷ s → a ≡ 'n → within (pos 0) (last_after a) s ≡ true → Good t (new_word (natural_of s))
unfolding spelled in_range last_after
good_new t s a e f h =
    let x : within (pos 0) (pos last_variable) s ≡ true = ap (λ c. within (pos 0) (last_after c) s) (sym f) ∙ h in
    let i = number_of_lem last_variable s x in
    let y : t ≡ 'n ∷ decimal (natural_of s) = e ∙ ap (λ c. c ∷ s) f ∙ ap (λ u. 'n ∷ u) i.0 in
    record { spells = ap (λ u. u ∷ []) (sym y); ranged = i.1; no_syn = ap (λ u. same u (bytes "syn")) y ∙ (plain_letter_n (decimal (natural_of s))).no_syn }

good_variable : (t s : Bytes) (a : ℕ) → t ≡ a ∷ s → within (pos 0) (last_after a) s ≡ true → (variable_word a (natural_of s) ≡ stray → ⊥) → Good t (variable_word a (natural_of s))
unfolding variable_word
good_variable t s a e h n = go (eqb a 'v) refl n
  where
    last : (v : Bool) → eqb a 'n ≡ v → (elim v [ true ↦ new_word (natural_of s) | false ↦ stray ] ≡ stray → ⊥) → Good t (elim v [ true ↦ new_word (natural_of s) | false ↦ stray ])
    last true k m = good_new t s a e (eqb-true a 'n k) h
    last false k m = absurd (m refl)

    go : (v : Bool) → eqb a 'v ≡ v → (elim v [ true ↦ old_word (natural_of s) | false ↦ elim (eqb a 'n) [ true ↦ new_word (natural_of s) | false ↦ stray ] ] ≡ stray → ⊥) → Good t (elim v [ true ↦ old_word (natural_of s) | false ↦ elim (eqb a 'n) [ true ↦ new_word (natural_of s) | false ↦ stray ] ])
    go true k m = good_old t s a e (eqb-true a 'v k) h
    go false k m = last (eqb a 'n) refl m

one : (b t : Bytes) → Plain b → sound b t ≡ true → (word t ≡ stray → ⊥) → Good t (word t)
one b t p h n = go (numeral t) refl
  where
    go : (x : Numeral) → numeral t ≡ x → Good t (word t)
    go unjudged k =
        let e = word_unjudged t k in
        rw e (find_good spellings t spellings_good (λ q. n (e ∙ q)))
    go (bare s) k =
        let i = bare_is t s k in
        rw (word_bare t s k) (good_num t s i.0 i.1 (sym (judged_plain b s least_number greatest_number p) ∙ sym (sound_bare b t s k) ∙ h))
    go (lettered a s) k =
        let e = word_lettered t s a k in
        rw e (good_variable t s a (lettered_is t s a k) (sym (judged_plain b s (pos 0) (last_after a) p) ∙ sym (sound_lettered b t s a k) ∙ h) (λ q. n (e ∙ q)))

-- a count
counted_good : (w : ℕ → Word) (b k : Bytes) → ((s : Bytes) (lo hi : ℤ) → number_sound b s lo hi ≡ within (pos 0) (pos max_operands) s) → sound b k ≡ true → (counted w k ≡ stray → ⊥) → (counted w k ≡ w (natural_of k)) × (k ≡ decimal (natural_of k)) × (leb (natural_of k) max_operands ≡ true) × Plain k
counted_good w b k j h n = go (numeral k) refl
  where
    other : (x : Numeral) → numeral k ≡ x → counted w k ≡ elim x [ unjudged ↦ stray | bare s ↦ w (natural_of s) | lettered a s ↦ stray ]
    other x e = unfold counted in ap (λ (y : Numeral). elim y as (λ q. Word) [ unjudged ↦ stray | bare s ↦ w (natural_of s) | lettered a s ↦ stray ]) e

    go : (x : Numeral) → numeral k ≡ x → (counted w k ≡ w (natural_of k)) × (k ≡ decimal (natural_of k)) × (leb (natural_of k) max_operands ≡ true) × Plain k
    go unjudged e = absurd (n (other unjudged e))
    go (lettered a s) e = absurd (n (other (lettered a s) e))
    go (bare s) e =
        let i = bare_is k s e in
        let x = number_of_lem max_operands k (ap (within (pos 0) (pos max_operands)) i.0 ∙ sym (j s least_number greatest_number) ∙ sym (sound_bare b k s e) ∙ h) in
        (counted_bare w k s e ∙ ap (λ u. w (natural_of u)) (sym i.0), x.0, x.1, i.1)

-- all the tokens
pub sounds_inv : (b t : Bytes) (ts : List Bytes) → sounds b (t ∷ ts) ≡ true → (sound b t ≡ true) × (sounds t ts ≡ true)
sounds_inv b t ts h =
    let e : sound b t && sounds t ts ≡ true = sym (sounds_step b t ts) ∙ h in
    (and_left (sound b t) (sounds t ts) e, and_right (sound b t) (sounds t ts) e)

pub record Spells (ws : List Word) (ts : List Bytes) : Type 0 where
  pub spells : flat_map spelled ws ≡ ts
  pub ranged : every in_range ws ≡ true

spells_one : (w : Word) (t : Bytes) (ws : List Word) (ts : List Bytes) → Good t w → Spells ws ts → Spells (w ∷ ws) (t ∷ ts)
unfolding flat_map every
spells_one w t ws ts g s = record { spells = ap (λ l. l ++ flat_map spelled ws) g.spells ∙ ap (λ l. t ∷ l) s.spells; ranged = and_intro g.ranged s.ranged }

spells_all : (k : Bytes) (ws : List Word) (ts : List Bytes) → k ≡ decimal (natural_of k) → leb (natural_of k) max_operands ≡ true → Spells ws ts → Spells (all_of (natural_of k) ∷ ws) (bytes "all" ∷ k ∷ ts)
unfolding flat_map spelled in_range every
spells_all k ws ts e h s = record { spells = ap (λ u. bytes "all" ∷ u ∷ flat_map spelled ws) (sym e) ∙ ap (λ l. bytes "all" ∷ k ∷ l) s.spells; ranged = and_intro h s.ranged }

spells_any : (k : Bytes) (ws : List Word) (ts : List Bytes) → k ≡ decimal (natural_of k) → leb (natural_of k) max_operands ≡ true → Spells ws ts → Spells (any_of (natural_of k) ∷ ws) (bytes "any" ∷ k ∷ ts)
unfolding flat_map spelled in_range every
spells_any k ws ts e h s = record { spells = ap (λ u. bytes "any" ∷ u ∷ flat_map spelled ws) (sym e) ∙ ap (λ l. bytes "any" ∷ k ∷ l) s.spells; ranged = and_intro h s.ranged }

judged_all : (s : Bytes) (lo hi : ℤ) → number_sound (bytes "all") s lo hi ≡ within (pos 0) (pos max_operands) s
unfolding number_sound same
judged_all s lo high = refl

judged_any : (s : Bytes) (lo hi : ℤ) → number_sound (bytes "any") s lo hi ≡ within (pos 0) (pos max_operands) s
unfolding number_sound same
judged_any s lo high = refl

back_all : (b k : Bytes) (ts : List Bytes) → sounds b (bytes "all" ∷ k ∷ ts) ≡ true → Free stray (read_words (bytes "all" ∷ k ∷ ts)) → (Plain k → sounds k ts ≡ true → Free stray (read_words ts) → Spells (read_words ts) ts) → Spells (read_words (bytes "all" ∷ k ∷ ts)) (bytes "all" ∷ k ∷ ts)
back_all b k ts h n ih =
    let e = read_all k ts in
    let m : Free stray (counted all_of k ∷ read_words ts) = rw e at n in
    let i = sounds_inv b (bytes "all") (k ∷ ts) h in
    let j = sounds_inv (bytes "all") k ts i.1 in
    let c = counted_good all_of (bytes "all") k judged_all j.0 m.0 in
    rw (e, c.0) (spells_all k (read_words ts) ts c.1 c.2 (ih c.3 j.1 m.1))

back_any : (b k : Bytes) (ts : List Bytes) → sounds b (bytes "any" ∷ k ∷ ts) ≡ true → Free stray (read_words (bytes "any" ∷ k ∷ ts)) → (Plain k → sounds k ts ≡ true → Free stray (read_words ts) → Spells (read_words ts) ts) → Spells (read_words (bytes "any" ∷ k ∷ ts)) (bytes "any" ∷ k ∷ ts)
back_any b k ts h n ih =
    let e = read_any k ts in
    let m : Free stray (counted any_of k ∷ read_words ts) = rw e at n in
    let i = sounds_inv b (bytes "any") (k ∷ ts) h in
    let j = sounds_inv (bytes "any") k ts i.1 in
    let c = counted_good any_of (bytes "any") k judged_any j.0 m.0 in
    rw (e, c.0) (spells_any k (read_words ts) ts c.1 c.2 (ih c.3 j.1 m.1))

back_one : (b t : Bytes) (ts : List Bytes) → Plain b → same t (bytes "all") ≡ false → same t (bytes "any") ≡ false → sounds b (t ∷ ts) ≡ true → Free stray (word t ∷ read_words ts) → (Plain t → sounds t ts ≡ true → Free stray (read_words ts) → Spells (read_words ts) ts) → Plain t × Spells (word t ∷ read_words ts) (t ∷ ts)
back_one b t ts p x y h n ih =
    let i = sounds_inv b t ts h in
    let g = one b t p i.0 n.0 in
    let q = plain_by t x y g.no_syn in
    (q, spells_one (word t) t (read_words ts) ts g (ih q i.1 n.1))

Back : Bytes → List Bytes → Type 0
Back b ts = sounds b ts ≡ true → Free stray (read_words ts) → Spells (read_words ts) ts

back_plain : (b t : Bytes) (ts : List Bytes) → Plain b → same t (bytes "all") ≡ false → same t (bytes "any") ≡ false → (Plain t → Back t ts) → Back b (t ∷ ts)
unfolding Back
back_plain b t ts p x y ih h n =
    let e = read_one t ts x y in
    let m : Free stray (word t ∷ read_words ts) = rw e at n in
    rw e (back_one b t ts p x y h m ih).1

-- a count word at the very end is stray
word_all : word (bytes "all") ≡ stray
unfolding word numeral digit find same
word_all = refl

word_any : word (bytes "any") ≡ stray
unfolding word numeral digit find same
word_any = refl

read_last : (t : Bytes) → read_words (t ∷ []) ≡ word t ∷ []
unfolding read_words
read_last t = refl

back_last : (b t : Bytes) → Plain b → (Plain t → Back t []) → Back b (t ∷ [])
unfolding Back
back_last b t p ih h n = go (same t (bytes "all")) refl
  where
    m : Free stray (word t ∷ [])
    m = rw (read_last t) at n

    next : same t (bytes "all") ≡ false → (v : Bool) → same t (bytes "any") ≡ v → Spells (read_words (t ∷ [])) (t ∷ [])
    next x true e = absurd (m.0 (ap word (same_is t (bytes "any") e) ∙ word_any))
    next x false e = back_plain b t [] p x e ih h n

    go : (v : Bool) → same t (bytes "all") ≡ v → Spells (read_words (t ∷ [])) (t ∷ [])
    go true e = absurd (m.0 (ap word (same_is t (bytes "all") e) ∙ word_all))
    go false e = next e (same t (bytes "any")) refl

back_more : (b t k : Bytes) (ts : List Bytes) → Plain b → (Plain k → Back k ts) → (Plain t → Back t (k ∷ ts)) → Back b (t ∷ k ∷ ts)
unfolding Back
back_more b t k ts p ih ih' h n = go (same t (bytes "all")) refl
  where
    next : same t (bytes "all") ≡ false → (v : Bool) → same t (bytes "any") ≡ v → Spells (read_words (t ∷ k ∷ ts)) (t ∷ k ∷ ts)
    next x true e =
        subst
        (λ (u : Bytes). sounds b (u ∷ k ∷ ts) ≡ true → Free stray (read_words (u ∷ k ∷ ts)) → Spells (read_words (u ∷ k ∷ ts)) (u ∷ k ∷ ts))
        (sym (same_is t (bytes "any") e))
        (λ h₁ n₁. back_any b k ts h₁ n₁ ih)
        h
        n
    next x false e = back_plain b t (k ∷ ts) p x e ih' h n

    go : (v : Bool) → same t (bytes "all") ≡ v → Spells (read_words (t ∷ k ∷ ts)) (t ∷ k ∷ ts)
    go true e =
        subst
        (λ (u : Bytes). sounds b (u ∷ k ∷ ts) ≡ true → Free stray (read_words (u ∷ k ∷ ts)) → Spells (read_words (u ∷ k ∷ ts)) (u ∷ k ∷ ts))
        (sym (same_is t (bytes "all") e))
        (λ h₁ n₁. back_all b k ts h₁ n₁ ih)
        h
        n
    go false e = next e (same t (bytes "any")) refl

spells_nil : Spells [] []
unfolding flat_map every
spells_nil = record { spells = refl; ranged = refl }

back_nil : (b : Bytes) → Back b []
unfolding Back
back_nil b h n = rw read_nil spells_nil

back_each : (ts : List Bytes) (b : Bytes) → Plain b → Back b ts
back_each [] b p = back_nil b
back_each (t ∷ []) b p = back_last b t p (λ q. back_nil t)
back_each (t ∷ k ∷ ts) b p = back_more b t k ts p (back_each ts k) (back_each (k ∷ ts) t)

pub tokens_back : (b : Bytes) (ts : List Bytes) → Plain b → sounds b ts ≡ true → Free stray (read_words ts) → Spells (read_words ts) ts
unfolding Back
tokens_back b ts p = back_each ts b p
