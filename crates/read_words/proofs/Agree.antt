-- Where row 3 is not broken, the codes are those of the words that `read_words` gives, up to the first stray one.
use Prim.Native.Nat.{ℕ}
use mathlib.Core.Path.{◌≡◌, refl, sym, ◌∙◌, ap, subst}
use mathlib.Core.Bool.{Bool, true, false}
use mathlib.Core.List.{List, [], ◌∷◌}
use borrow.Author.Tests.{eqb-true, eqb-false}
use lib.IntN.{ℤ, pos}
use lib.Dec.{eqb}
use Rattle.model.specs.Basic.{same}
use Rattle.model.specs.Bounds.{least_number, greatest_number, last_variable, max_operands}
use Rattle.model.specs.Predicate.{Word, num_word, old_word, new_word, stray}
use Rattle.model.specs.Table.{code}
use Rattle.format.specs.Bytes.{Bytes, bytes, 'n, 'v}
use Rattle.format.specs.Number.{digit, within, natural_of, integer_of}
use Rattle.format.specs.Tokens.{Numeral, unjudged, bare, lettered, numeral, tokens, find, variable_word, word, counted, read_words, number_sound, last_after, sound, sounds}
use Rattle.format.proofs.BytesLaws.{same_is}
use Rattle.format.proofs.TokenLaws.{Plain, plain_by, read_one, read_all, read_any, sound_bare, sound_lettered, judged_plain, word_bare, word_lettered, word_unjudged, counted_bare}
use Rattle.format.proofs.ReadLaws.{bare_is, sounds_inv}
use Rattle.node_words.proofs.NodeLaws.{stray_only}
use Rattle.read_words.specs.declared.codes.Numbered.{Numbered}
use Rattle.read_words.specs.declared.codes.Numbered.TheVariants as N
use Rattle.read_words.specs.Codes.{stray_code, word_with, number_code, argument_code, variable_code, word_code, count_code}
use Rattle.read_words.specs.Read.{is_word, due_after, code_as, codes}
use Rattle.read_words.specs.declared.reading.Due.{Due}
use Rattle.read_words.proofs.ReadLaws.{first_word, codes_word}

-- codes and words agree up to the first stray one, and in it
pub data Agree : List ℕ → List Word → Type 0 where
  done : Agree [] []
  halt : (c : ℕ) (w : Word) (cs : List ℕ) (ws : List Word) → c ≡ stray_code → w ≡ stray → Agree (c ∷ cs) (w ∷ ws)
  next : (c : ℕ) (w : Word) (cs : List ℕ) (ws : List Word) → c ≡ code w → (c ≡ stray_code → ⊥) → Agree cs ws → Agree (c ∷ cs) (w ∷ ws)

agree_on : (c : ℕ) (w : Word) (cs : List ℕ) (ws : List Word) → c ≡ code w → Agree cs ws → Agree (c ∷ cs) (w ∷ ws)
agree_on c w cs ws e a = go (eqb c stray_code) refl
  where
    go : (v : Bool) → eqb c stray_code ≡ v → Agree (c ∷ cs) (w ∷ ws)
    go true h = let z : c ≡ stray_code = eqb-true c stray_code h in halt c w cs ws z (stray_only w (sym e ∙ z))
    go false h = next c w cs ws e (eqb-false c stray_code h) a

-- the codes by the first tokens
codes_one : (t : Bytes) (ts : List Bytes) → same t (bytes "all") ≡ false → same t (bytes "any") ≡ false → codes Due.Word (t ∷ ts) ≡ word_code t ∷ codes Due.Word ts
unfolding is_word code_as
codes_one t ts a b = codes_word Due.Word Due.Word t ts (first_word t (same t (bytes "all")) refl a (same t (bytes "any")) refl b) refl

codes_all : (k : Bytes) (ts : List Bytes) → codes Due.Word (bytes "all" ∷ k ∷ ts) ≡ count_code N.All k ∷ codes Due.Word ts
unfolding codes due_after is_word code_as same
codes_all k ts = refl

codes_any : (k : Bytes) (ts : List Bytes) → codes Due.Word (bytes "any" ∷ k ∷ ts) ≡ count_code N.Any k ∷ codes Due.Word ts
unfolding codes due_after is_word code_as same
codes_any k ts = refl

all_ends : Agree (codes Due.Word (bytes "all" ∷ [])) (read_words (bytes "all" ∷ []))
unfolding codes due_after is_word same read_words word numeral digit find
all_ends = halt stray_code stray [] [] refl refl

any_ends : Agree (codes Due.Word (bytes "any" ∷ [])) (read_words (bytes "any" ∷ []))
unfolding codes due_after is_word same read_words word numeral digit find
any_ends = halt stray_code stray [] [] refl refl

-- numbers in their range
number_coded : (s : Bytes) → within least_number greatest_number s ≡ true → number_code s ≡ code (num_word (integer_of s))
unfolding number_code
number_coded s h = rw (h, number_code)

argument_coded : (which : Numbered) (high : ℕ) (s : Bytes) → within (pos 0) (pos high) s ≡ true → argument_code which high s ≡ code (word_with which (natural_of s))
unfolding argument_code
argument_coded which high s h = rw (h, argument_code)

-- the K after `all` or `any`
module _ (which : Numbered) (b : Bytes)
    (judged : (s : Bytes) (low high : ℤ) → number_sound b s low high ≡ within (pos 0) (pos max_operands) s) where
  counted_agree : (k : Bytes) (cs : List ℕ) (ws : List Word) → sound b k ≡ true → (Plain k → Agree cs ws) → Agree (count_code which k ∷ cs) (counted (word_with which) k ∷ ws)
  unfolding count_code counted
  counted_agree k cs ws h rest = go (numeral k) refl
    where
      go : (m : Numeral) → numeral k ≡ m → Agree (count_code which k ∷ cs) (counted (word_with which) k ∷ ws)
      go unjudged e = halt (count_code which k) (counted (word_with which) k) cs ws (rw (e, count_code)) (rw (e, counted))
      go (lettered c s) e = halt (count_code which k) (counted (word_with which) k) cs ws (rw (e, count_code)) (rw (e, counted))
      go (bare s) e =
          let i : within (pos 0) (pos max_operands) s ≡ true = sym (judged s least_number greatest_number) ∙ sym (sound_bare b k s e) ∙ h in
          let c : count_code which k ≡ code (word_with which (natural_of s)) = rw (e, count_code) (argument_coded which max_operands s i) in
          agree_on (count_code which k) (counted (word_with which) k) cs ws (c ∙ sym (ap code (counted_bare (word_with which) k s e))) (rest (bare_is k s e).1)

-- a word that is one token
variable_code_lem : (b : ℕ) (s : Bytes) → within (pos 0) (last_after b) s ≡ true → variable_code b s ≡ code (variable_word b (natural_of s))
unfolding variable_code variable_word last_after word_with
variable_code_lem b s h = go (eqb b 'v) refl
  where
    in_range_lem : (letter : ℕ) → b ≡ letter → within (pos 0) (last_after letter) s ≡ true
    in_range_lem letter e = subst (λ (x : ℕ). within (pos 0) (last_after x) s ≡ true) e h

    new : (v : Bool) → eqb b 'n ≡ v
        → elim v as (λ x. ℕ) [ true ↦ argument_code N.New last_variable s | false ↦ stray_code ] ≡ code (elim v as (λ x. Word) [ true ↦ new_word (natural_of s) | false ↦ stray ])
    new true e = let i : within (pos 0) (pos last_variable) s ≡ true = in_range_lem 'n (eqb-true b 'n e) in argument_coded N.New last_variable s i
    new false e = refl

    go : (v : Bool) → eqb b 'v ≡ v
        → elim v as (λ x. ℕ) [ true ↦ argument_code N.Old last_variable s | false ↦ elim (eqb b 'n) as (λ x. ℕ) [ true ↦ argument_code N.New last_variable s | false ↦ stray_code ] ]
        ≡ code (elim v as (λ x. Word) [ true ↦ old_word (natural_of s) | false ↦ elim (eqb b 'n) as (λ x. Word) [ true ↦ new_word (natural_of s) | false ↦ stray ] ])
    go true e = let i : within (pos 0) (pos last_variable) s ≡ true = in_range_lem 'v (eqb-true b 'v e) in argument_coded N.Old last_variable s i
    go false e = new (eqb b 'n) refl

word_code_lem : (b t : Bytes) → Plain b → sound b t ≡ true → word_code t ≡ code (word t)
unfolding word_code
word_code_lem b t p h = go (numeral t) refl
  where
    go : (m : Numeral) → numeral t ≡ m → word_code t ≡ code (word t)
    go unjudged e = rw (e, word_code) (sym (ap code (word_unjudged t e)))
    go (bare s) e =
        let i : within least_number greatest_number s ≡ true = sym (judged_plain b s least_number greatest_number p) ∙ sym (sound_bare b t s e) ∙ h in
        rw (e, word_code) (number_coded s i ∙ sym (ap code (word_bare t s e)))
    go (lettered a s) e =
        let i : within (pos 0) (last_after a) s ≡ true = sym (judged_plain b s (pos 0) (last_after a) p) ∙ sym (sound_lettered b t s a e) ∙ h in
        rw (e, word_code) (variable_code_lem a s i ∙ sym (ap code (word_lettered t s a e)))

-- `syn` spells no word
syn_code : word_code (bytes "syn") ≡ stray_code
unfolding word_code numeral digit find same
syn_code = refl

syn_word : word (bytes "syn") ≡ stray
unfolding word numeral digit find same
syn_word = refl

word_agree : (b t : Bytes) (cs : List ℕ) (ws : List Word) → Plain b → sound b t ≡ true → same t (bytes "all") ≡ false → same t (bytes "any") ≡ false → (Plain t → Agree cs ws) → Agree (word_code t ∷ cs) (word t ∷ ws)
word_agree b t cs ws p h x y rest = go (same t (bytes "syn")) refl
  where
    go : (v : Bool) → same t (bytes "syn") ≡ v → Agree (word_code t ∷ cs) (word t ∷ ws)
    go true e =
        let z : t ≡ bytes "syn" = same_is t (bytes "syn") e in
        halt (word_code t) (word t) cs ws (ap word_code z ∙ syn_code) (ap word z ∙ syn_word)
    go false e = agree_on (word_code t) (word t) cs ws (word_code_lem b t p h) (rest (plain_by t x y e))

-- all the tokens
Told : Bytes → List Bytes → Type 0
Told b ts = sounds b ts ≡ true → Agree (codes Due.Word ts) (read_words ts)

told_one : (b t : Bytes) (ts : List Bytes) → Plain b → same t (bytes "all") ≡ false → same t (bytes "any") ≡ false → (Plain t → Told t ts) → Told b (t ∷ ts)
unfolding Told
told_one b t ts p x y rest h =
    let i = sounds_inv b t ts h in
    rw (codes_one t ts x y, read_one t ts x y) (word_agree b t (codes Due.Word ts) (read_words ts) p i.0 x y (λ q. rest q i.1))

told_all : (b k : Bytes) (ts : List Bytes) → (Plain k → Told k ts) → Told b (bytes "all" ∷ k ∷ ts)
unfolding Told word_with
told_all b k ts rest h =
    let i = sounds_inv (bytes "all") k ts (sounds_inv b (bytes "all") (k ∷ ts) h).1 in
    rw (codes_all k ts, read_all k ts)
    (counted_agree N.All (bytes "all") (λ s low high. unfold number_sound same in refl) k (codes Due.Word ts) (read_words ts) i.0 (λ q. rest q i.1))

told_any : (b k : Bytes) (ts : List Bytes) → (Plain k → Told k ts) → Told b (bytes "any" ∷ k ∷ ts)
unfolding Told word_with
told_any b k ts rest h =
    let i = sounds_inv (bytes "any") k ts (sounds_inv b (bytes "any") (k ∷ ts) h).1 in
    rw (codes_any k ts, read_any k ts)
    (counted_agree N.Any (bytes "any") (λ s low high. unfold number_sound same in refl) k (codes Due.Word ts) (read_words ts) i.0 (λ q. rest q i.1))

-- by the first token: `all`, `any`, or another
by_first : (b t : Bytes) (ts : List Bytes) → Plain b → Told b (bytes "all" ∷ ts) → Told b (bytes "any" ∷ ts) → (Plain t → Told t ts) → Told b (t ∷ ts)
by_first b t ts p a o rest = go (same t (bytes "all")) refl
  where
    other : same t (bytes "all") ≡ false → (v : Bool) → same t (bytes "any") ≡ v → Told b (t ∷ ts)
    other x true e = subst (λ (u : Bytes). Told b (u ∷ ts)) (sym (same_is t (bytes "any") e)) o
    other x false e = told_one b t ts p x e rest

    go : (v : Bool) → same t (bytes "all") ≡ v → Told b (t ∷ ts)
    go true e = subst (λ (u : Bytes). Told b (u ∷ ts)) (sym (same_is t (bytes "all") e)) a
    go false e = other e (same t (bytes "any")) refl

told_nil : (b : Bytes) → Told b []
unfolding Told codes is_word read_words
told_nil b h = done

told : (ts : List Bytes) (b : Bytes) → Plain b → Told b ts
unfolding Told
told [] b p = told_nil b
told (t ∷ []) b p = by_first b t [] p (λ h. all_ends) (λ h. any_ends) (λ q. told_nil t)
told (t ∷ k ∷ ts) b p = by_first b t (k ∷ ts) p (told_all b k ts (told ts k)) (told_any b k ts (told ts k)) (told (k ∷ ts) t)

pub agree : (s : Bytes) → sounds [] (tokens s) ≡ true → Agree (codes Due.Word (tokens s)) (read_words (tokens s))
unfolding Told same
agree s h = told (tokens s) [] (plain_by [] refl refl refl) h
