-- The test of equal edges is equality: words are their kind and number, and predicates are their words.
use mathlib.Core.Path.{◌≡◌, refl, sym, ap, ap₂, ◌∙◌, subst}
use mathlib.Core.Bool.{Bool, true, false, ◌&&◌, true≢false}
use mathlib.Core.List.{List, [], ◌∷◌}
use mathlib.Core.Logic.{◌↔◌}
use Prim.Native.Nat.{ℕ}
use lib.IntN.{ℤ, pos, negsuc}
use lib.ListN.{get_or}
use lib.Dec.{eqb}
use Rattle.model.specs.Predicate.{Pred, Word, words, all_of, any_of, not_word, imp_word, eq_word, le_word, num_word, old_word, new_word, add_word, sub_word, mul_word, if_word, stray}
use Rattle.model.specs.Parse.{read_pred}
use Rattle.model.specs.Model.{Edge}
use Rattle.model.specs.Equal.{word_kind, word_number, same_word, same_words, same_edge}
use Rattle.model.proofs.Tests.{and_left, and_right, and_intro, eq_of, eq_self, eq_z_of, eq_z_self}
use Rattle.model.proofs.Parsing.{read_words_of, got}

-- a number's size
abbrev natural : ℤ → ℕ
natural (pos k) = k
natural (negsuc k) = k

-- the word of a kind with a number
abbrev word_from : ℕ → ℤ → Word
word_from kind z = get_or (
    all_of (natural z) ∷ any_of (natural z) ∷ not_word ∷ imp_word ∷ eq_word ∷ le_word ∷ num_word z ∷ old_word (natural z) ∷ new_word (natural z) ∷
    add_word ∷ sub_word ∷ mul_word ∷ if_word ∷ []
    ) kind stray

-- it gives the word back
word_back : (w : Word) → word_from (word_kind w) (word_number w) ≡ w
unfolding word_kind word_number
word_back (all_of k) = refl
word_back (any_of k) = refl
word_back not_word = refl
word_back imp_word = refl
word_back eq_word = refl
word_back le_word = refl
word_back (num_word z) = refl
word_back (old_word k) = refl
word_back (new_word k) = refl
word_back add_word = refl
word_back sub_word = refl
word_back mul_word = refl
word_back if_word = refl
word_back stray = refl

-- the test of equal words is equality
same_word_lem : (u w : Word) → same_word u w ≡ true → u ≡ w
unfolding same_word
same_word_lem u w h =
    sym (word_back u)
    ∙ ap₂ word_from (eq_of (word_kind u) (word_kind w) (and_left (eqb (word_kind u) (word_kind w)) _ h)) (eq_z_of (word_number u) (word_number w) (and_right (eqb (word_kind u) (word_kind w)) _ h))
    ∙ word_back w

word_self : (w : Word) → same_word w w ≡ true
unfolding same_word
word_self w = and_intro (eq_self (word_kind w)) (eq_z_self (word_number w))

-- the test of lists of words, by their first words
words_cons : (u w : Word) (us ws : List Word) (b : Bool) → same_word u w ≡ b → same_words (u ∷ us) (w ∷ ws) ≡ (b && same_words us ws)
unfolding same_words
words_cons u w us ws true e = rw (e, same_words)
words_cons u w us ws false e = rw (e, same_words)

-- lists of words that pass it are equal, and equal ones pass it
same_words_lem : (us ws : List Word) → same_words us ws ≡ true → us ≡ ws
unfolding same_words
same_words_lem [] [] h = refl
same_words_lem [] (w ∷ ws) h = absurd (true≢false (sym h))
same_words_lem (u ∷ us) [] h = absurd (true≢false (sym h))
same_words_lem (u ∷ us) (w ∷ ws) h =
    let q = sym (words_cons u w us ws (same_word u w) refl) ∙ h in
    ap₂ (λ x l. x ∷ l) (same_word_lem u w (and_left (same_word u w) _ q)) (same_words_lem us ws (and_right (same_word u w) _ q))

words_self : (ws : List Word) → same_words ws ws ≡ true
words_self [] = unfold same_words in refl
words_self (w ∷ ws) = words_cons w w ws ws true (word_self w) ∙ words_self ws

-- predicates that have the same words are equal
pub same_pred : (p q : Pred) → words p ≡ words q → p ≡ q
same_pred p q e = got p q (sym (read_words_of p) ∙ ap read_pred e ∙ read_words_of q)

-- the test, by whether FROM, ACT and TO are equal
abbrev ends : Edge → Edge → Bool
ends e f = eqb e.from f.from && (eqb e.action f.action && eqb e.to f.to)

-- then the words decide
edge_by : (e f : Edge) (b : Bool) → ends e f ≡ b → same_edge e f ≡ (b && same_words (words e.update) (words f.update))
unfolding same_edge
edge_by e f true p = rw (p, same_edge)
edge_by e f false p = rw (p, same_edge)

-- edges with equal parts are equal
pub edge_is : (e f : Edge) → e.from ≡ f.from → e.action ≡ f.action → e.to ≡ f.to → e.update ≡ f.update → e ≡ f
edge_is e f x y z u = rw (x, y, z, u)

-- edges that pass the test are equal, and equal ones pass it
same_edge_lem : (e f : Edge) → same_edge e f ≡ true → e ≡ f
same_edge_lem e f h =
    let q = sym (edge_by e f (ends e f) refl) ∙ h in
    let p = and_left (ends e f) _ q in
    let r = and_right (eqb e.from f.from) _ p in
    let x = eq_of _ _ (and_left (eqb e.from f.from) _ p) in
    let y = eq_of _ _ (and_left (eqb e.action f.action) _ r) in
    let z = eq_of _ _ (and_right (eqb e.action f.action) _ r) in
    let u = same_pred e.update f.update (same_words_lem _ _ (and_right (ends e f) _ q)) in
    edge_is e f x y z u

edge_self : (e : Edge) → same_edge e e ≡ true
edge_self e =
    edge_by e e true (and_intro (eq_self e.from) (and_intro (eq_self e.action) (eq_self e.to)))
    ∙ words_self (words e.update)

-- the test of equal edges is equality
pub same_edge_is : (e f : Edge) → (same_edge e f ≡ true) ↔ (e ≡ f)
same_edge_is e f = (same_edge_lem e f, λ p. subst (λ (g : Edge). same_edge e g ≡ true) p (edge_self e))
