-- What is sound and is read as a tree is the text of that tree.
use Prim.Native.Nat.{ℕ, zero, suc, ◌≤◌}
use mathlib.Core.Path.{◌≡◌, refl, sym, ◌∙◌, ap, subst}
use mathlib.Core.Bool.{Bool, true, false, true≢false}
use mathlib.Core.List.{List, [], ◌∷◌, ◌++◌, map, flat_map}
use mathlib.Core.Option.{Option, none, some}
use native.Mathlib.Omega.{arith}
use borrow.Author.Tests.{eqb-true}
use lib.Dec.{eqb}
use lib.ListN.{length}
use lib.IntN.{ℤ, pos}
use Rattle.model.specs.Basic.{every, exists, lacks, or_else, same}
use Rattle.model.specs.Bounds.{greatest_number, last_automaton, least_number, max_actions}
use Rattle.model.specs.Composition.{Node, Tree, ini, ini_node, leaf, leaf_node, nodes, par, par_node, stray_node, syn, syn_node}
use Rattle.model.specs.Limits.{in_range}
use Rattle.model.specs.Predicate as P
use Rattle.model.specs.Predicate.{Pred, Word, all, stray, words}
use Rattle.model.specs.Parse.{read_pred, read_tree, ini_alone, with_starts}
use Rattle.model.proofs.Parsing.{nodes_of_read, words_of_read}
use Rattle.model.proofs.Tests.{and_left, and_right}
use Rattle.format.specs.Bytes.{'a, Bytes, bytes, comma, joined, parts, space}
use Rattle.format.specs.Number.{natural_of, decimal, digit, within}
use Rattle.format.specs.Spelling.{spelled, spelled_node, text_of_list, text_of_tree}
use Rattle.format.specs.Tokens.{Numeral, bare, find, items, number_sound, last_after, leaf_of, lettered, node, numeral, read_nodes, read_words, sound, sounds, start_tokens, starts_in, outside, syn_of, tokens, unjudged}
use Rattle.format.proofs.BytesLaws.{Free, differ_first, free_append, joined_parts, same_is}
use Rattle.format.proofs.NumberLaws.{leading}
use Rattle.format.proofs.PredText.{no_stray, plain_nil}
use Rattle.format.proofs.StartLaws.{last_of, sounds_both, plain_after, trailing, tokens_split, trailing_short, starts_later, outside_later}
use Rattle.format.proofs.ReadLaws.{bare_is, items_decimal, lettered_is, number_of_lem, sounds_inv, tokens_back}
use Rattle.format.proofs.TokenLaws.{Plain, judged_plain, plain_by, sound_bare, sound_lettered}

-- one token that is a node
pub record Good (t : Bytes) (n : Node) : Type 0 where
  pub spells : spelled_node n ≡ t ∷ []
  pub plain : Plain t

-- the words that are nodes
abbrev word_nodes : List (Bytes × Node)
word_nodes = (bytes "par", par_node) ∷ (bytes "ini", ini_alone) ∷ []

pub node_case : (t : Bytes) (x : Numeral) → numeral t ≡ x → node t ≡ elim x [ unjudged ↦ find stray_node word_nodes t | bare s ↦ stray_node | lettered b s ↦ leaf_of b (natural_of s) ]
unfolding node
node_case t x e = ap (λ (y : Numeral). elim y as (λ q. Node) [ unjudged ↦ find stray_node word_nodes t | bare s ↦ stray_node | lettered b s ↦ leaf_of b (natural_of s) ]) e

-- a word other than `ini` is no `ini`, and spells its node
abbrev pub NotIni : Node → Type 0
NotIni par_node = Unit
NotIni (syn_node list) = Unit
NotIni (ini_node p) = ⊥
NotIni (leaf_node k) = Unit
NotIni stray_node = Unit

not_ini : (t : Bytes) → same t (bytes "ini") ≡ false → same (bytes "ini") t ≡ true → ⊥
unfolding same
not_ini t h e = let i = same_is (bytes "ini") t e in true≢false (ap (λ u. same u (bytes "ini")) i ∙ h)

module _ (t : Bytes) (other : same t (bytes "ini") ≡ false) where
  word_not_ini : NotIni (find stray_node word_nodes t)
  unfolding find
  word_not_ini = go (same (bytes "par") t) (same (bytes "ini") t) refl
    where
      go : (u v : Bool) → same (bytes "ini") t ≡ v → NotIni (elim u as (λ q. Node) [ true ↦ par_node | false ↦ elim v as (λ q. Node) [ true ↦ ini_alone | false ↦ stray_node ] ])
      go true v e = tt
      go false true e = not_ini t other e
      go false false e = tt

  good_word : (find stray_node word_nodes t ≡ stray_node → ⊥) → Good t (find stray_node word_nodes t)
  unfolding find spelled_node
  good_word n = go (same (bytes "par") t) refl (same (bytes "ini") t) refl n
    where
      go : (u : Bool) → same (bytes "par") t ≡ u → (v : Bool) → same (bytes "ini") t ≡ v
          → (elim u as (λ q. Node) [ true ↦ par_node | false ↦ elim v as (λ q. Node) [ true ↦ ini_alone | false ↦ stray_node ] ] ≡ stray_node → ⊥)
          → Good t (elim u as (λ q. Node) [ true ↦ par_node | false ↦ elim v as (λ q. Node) [ true ↦ ini_alone | false ↦ stray_node ] ])
      go true e v f m = rw (← same_is (bytes "par") t e) (record { spells = refl; plain = plain_by (bytes "par") (unfold same in refl) (unfold same in refl) (unfold same in refl) })
      go false e true f m = absurd (not_ini t other f)
      go false e false f m = absurd (m refl)

pub plain_a : (n : ℕ) → Plain ('a ∷ decimal n)
unfolding same
plain_a n =
    let l = leading n in
    let h : l.first ≤ 57 = l.high in
    rw l.whole
    (record {
      no_all = differ_first l.first 108 l.rest (108 ∷ []) (λ e. omega arith);
      no_any = differ_first l.first 110 l.rest (121 ∷ []) (λ e. omega arith);
      no_syn = refl;
    })

good_leaf : (t s : Bytes) (b : ℕ) → t ≡ b ∷ s → within (pos 0) (last_after b) s ≡ true → (leaf_of b (natural_of s) ≡ stray_node → ⊥) → Good t (leaf_of b (natural_of s))
unfolding leaf_of spelled_node last_after
good_leaf t s b e h n = go (eqb b 'a) refl n
  where
    go : (v : Bool) → eqb b 'a ≡ v → (elim v [ true ↦ leaf_node (natural_of s) | false ↦ stray_node ] ≡ stray_node → ⊥) → Good t (elim v [ true ↦ leaf_node (natural_of s) | false ↦ stray_node ])
    go true k m =
        let f = eqb-true b 'a k in
        let x : within (pos 0) (pos last_automaton) s ≡ true = ap (λ c. within (pos 0) (last_after c) s) (sym f) ∙ h in
        let y : t ≡ 'a ∷ decimal (natural_of s) = e ∙ ap (λ c. c ∷ s) f ∙ ap (λ u. 'a ∷ u) (number_of_lem last_automaton s x).0 in
        record { spells = ap (λ u. u ∷ []) (sym y); plain = rw y (plain_a (natural_of s)) }
    go false k m = absurd (m refl)

leaf_not_ini : (b k : ℕ) → NotIni (leaf_of b k)
unfolding leaf_of
leaf_not_ini b k = go (eqb b 'a)
  where
    go : (v : Bool) → NotIni (elim v as (λ q. Node) [ true ↦ leaf_node k | false ↦ stray_node ])
    go true = tt
    go false = tt

node_not_ini : (t : Bytes) → same t (bytes "ini") ≡ false → NotIni (node t)
node_not_ini t i = go (numeral t) refl
  where
    go : (x : Numeral) → numeral t ≡ x → NotIni (node t)
    go unjudged k = rw (node_case t unjudged k) (word_not_ini t i)
    go (bare s) k = rw (node_case t (bare s) k) tt
    go (lettered a s) k = rw (node_case t (lettered a s) k) (leaf_not_ini a (natural_of s))

pub one : (b t : Bytes) → Plain b → sound b t ≡ true → same t (bytes "ini") ≡ false → (node t ≡ stray_node → ⊥) → Good t (node t)
one b t p h i n = go (numeral t) refl
  where
    go : (x : Numeral) → numeral t ≡ x → Good t (node t)
    go unjudged k = let e = node_case t unjudged k in rw e (good_word t i (λ q. n (e ∙ q)))
    go (bare s) k = absurd (n (node_case t (bare s) k))
    go (lettered a s) k =
        let e = node_case t (lettered a s) k in
        rw e (good_leaf t s a (lettered_is t s a k) (sym (judged_plain b s (pos 0) (last_after a) p) ∙ sym (sound_lettered b t s a k) ∙ h) (λ q. n (e ∙ q)))

-- a list right after `syn`
pub judged_syn : (s : Bytes) (lo hi : ℤ) → number_sound (bytes "syn") s lo hi ≡ every (within (pos 0) (pos max_actions)) (parts comma s)
unfolding number_sound same
judged_syn s lo high = refl

pub syn_case : (t : Bytes) (x : Numeral) → numeral t ≡ x → syn_of t ≡ elim x [ unjudged ↦ stray_node | bare s ↦ syn_node (items s) | lettered b s ↦ stray_node ]
unfolding syn_of
syn_case t x e = ap (λ (y : Numeral). elim y as (λ q. Node) [ unjudged ↦ stray_node | bare s ↦ syn_node (items s) | lettered b s ↦ stray_node ]) e

pub syn_good : (t : Bytes) → sound (bytes "syn") t ≡ true → (syn_of t ≡ stray_node → ⊥) → (syn_of t ≡ syn_node (items t)) × (text_of_list (items t) ≡ t) × Plain t
unfolding text_of_list items
syn_good t h n = go (numeral t) refl
  where
    go : (x : Numeral) → numeral t ≡ x → (syn_of t ≡ syn_node (items t)) × (text_of_list (items t) ≡ t) × Plain t
    go unjudged e = absurd (n (syn_case t unjudged e))
    go (lettered a s) e = absurd (n (syn_case t (lettered a s) e))
    go (bare s) e =
        let i = bare_is t s e in
        let x : every (within (pos 0) (pos max_actions)) (parts comma t) ≡ true = ap (λ u. every (within (pos 0) (pos max_actions)) (parts comma u)) i.0 ∙ sym (judged_syn s least_number greatest_number) ∙ sym (sound_bare (bytes "syn") t s e) ∙ h in
        (syn_case t (bare s) e ∙ ap (λ u. syn_node (items u)) (sym i.0), ap (joined comma) (sym (items_decimal max_actions (parts comma t) x)) ∙ joined_parts comma t, i.1)

list_not_ini : (t : Bytes) → NotIni (syn_of t)
list_not_ini t = go (numeral t) refl
  where
    go : (x : Numeral) → numeral t ≡ x → NotIni (syn_of t)
    go unjudged e = rw (syn_case t unjudged e) tt
    go (bare s) e = rw (syn_case t (bare s) e) tt
    go (lettered a s) e = rw (syn_case t (lettered a s) e) tt

pub list_ini : syn_of (bytes "ini") ≡ stray_node
unfolding syn_of numeral digit
list_ini = refl

-- all the tokens
pub read_node : (t : Bytes) (ts : List Bytes) → same t (bytes "syn") ≡ false → read_nodes (t ∷ ts) ≡ node t ∷ read_nodes ts
unfolding read_nodes
read_node t [] a = refl
read_node t (k ∷ ts) a = ap (λ (v : Bool). elim v as (λ x. List Node) [ true ↦ syn_of k ∷ read_nodes ts | false ↦ node t ∷ read_nodes (k ∷ ts) ]) a

pub read_syn : (k : Bytes) (ts : List Bytes) → read_nodes (bytes "syn" ∷ k ∷ ts) ≡ syn_of k ∷ read_nodes ts
unfolding read_nodes same
read_syn k ts = refl

pub read_no_node : read_nodes [] ≡ []
unfolding read_nodes
read_no_node = refl

pub read_last : (t : Bytes) → read_nodes (t ∷ []) ≡ node t ∷ []
unfolding read_nodes
read_last t = refl

-- the P after each `ini`, and the nodes with them, of the tokens after b
abbrev pub read_starts : Bytes → List Bytes → List (Option Pred)
read_starts b ts = map (λ (l : List Bytes). read_pred (read_words l)) (starts_in 0 b ts)

abbrev pub read_composed : Bytes → List Bytes → List Node
read_composed b ts = with_starts (map (or_else (all P.none)) (read_starts b ts)) (read_nodes (outside 0 b ts))

-- a node that is no `ini` takes no P
pub pass_node : (ps : List Pred) (n : Node) (ns : List Node) → NotIni n → with_starts ps (n ∷ ns) ≡ n ∷ with_starts ps ns
unfolding with_starts
pass_node ps par_node ns h = refl
pass_node ps (syn_node list) ns h = refl
pass_node ps (ini_node p) ns h = absurd h
pass_node ps (leaf_node k) ns h = refl
pass_node ps stray_node ns h = refl

-- a token outside of all P that is no `ini`
pub starts_other : (b t : Bytes) (ts : List Bytes) → same t (bytes "ini") ≡ false → starts_in 0 b (t ∷ ts) ≡ starts_in 0 t ts
unfolding starts_in
starts_other b t ts i = rw (i, starts_in)

pub outside_other : (b t : Bytes) (ts : List Bytes) → same t (bytes "ini") ≡ false → outside 0 b (t ∷ ts) ≡ t ∷ outside 0 t ts
unfolding outside
outside_other b t ts i = rw (i, outside)

pub starts_ini : (b : Bytes) (ts : List Bytes) → starts_in 0 b (bytes "ini" ∷ ts) ≡ start_tokens 1 (bytes "ini") ts ∷ starts_in 1 (bytes "ini") ts
unfolding starts_in same
starts_ini b ts = refl

pub outside_ini : (b : Bytes) (ts : List Bytes) → outside 0 b (bytes "ini" ∷ ts) ≡ bytes "ini" ∷ outside 1 (bytes "ini") ts
unfolding outside same
outside_ini b ts = refl

-- what is sound and read without a stray node is spelled by its nodes
abbrev Read : Bytes → List Bytes → Type 0
Read b ts = (exists lacks (read_starts b ts) ≡ false) × Free stray_node (read_composed b ts)

Back : Bytes → List Bytes → Type 0
Back b ts = sounds b ts ≡ true → Read b ts → flat_map spelled_node (read_composed b ts) ≡ ts

back_nil : (b : Bytes) → Back b []
unfolding Back flat_map outside read_nodes with_starts
back_nil b h n = refl

module _ (b t : Bytes) (ts : List Bytes) (i : same t (bytes "ini") ≡ false) where
  pub other_starts : read_starts b (t ∷ ts) ≡ read_starts t ts
  other_starts = ap (map (λ (l : List Bytes). read_pred (read_words l))) (starts_other b t ts i)

  pub other_nodes : same t (bytes "syn") ≡ false → read_composed b (t ∷ ts) ≡ node t ∷ read_composed t ts
  other_nodes y =
      let ps = map (or_else (all P.none)) (read_starts t ts) in
      ap (λ (o : List (Option Pred)). with_starts (map (or_else (all P.none)) o) (read_nodes (outside 0 b (t ∷ ts)))) other_starts
      ∙ ap (λ (l : List Bytes). with_starts ps (read_nodes l)) (outside_other b t ts i)
      ∙ ap (with_starts ps) (read_node t (outside 0 t ts) y)
      ∙ pass_node ps (node t) (read_nodes (outside 0 t ts)) (node_not_ini t i)

  back_plain : Plain b → same t (bytes "syn") ≡ false → (Plain t → Back t ts) → Back b (t ∷ ts)
  unfolding Back flat_map
  back_plain p y ih h n =
      let e = other_nodes y in
      let m : Free stray_node (node t ∷ read_composed t ts) = rw e at n.1 in
      let s = sounds_inv b t ts h in
      let g = one b t p s.0 i m.0 in
      ap (flat_map spelled_node) e ∙ ap (λ l. l ++ flat_map spelled_node (read_composed t ts)) g.spells
      ∙ ap (λ l. t ∷ l) (ih g.plain s.1 (rw other_starts at n.0, m.1))

pub syn_not_ini : same (bytes "syn") (bytes "ini") ≡ false
unfolding same
syn_not_ini = refl

-- a `syn` with a token after it
pub syn_nodes : (b k : Bytes) (ts : List Bytes) → same k (bytes "ini") ≡ false → read_composed b (bytes "syn" ∷ k ∷ ts) ≡ syn_of k ∷ read_composed k ts
syn_nodes b k ts i =
    let ps = map (or_else (all P.none)) (read_starts k ts) in
    ap (λ (o : List (Option Pred)). with_starts (map (or_else (all P.none)) o) (read_nodes (outside 0 b (bytes "syn" ∷ k ∷ ts)))) (other_starts b (bytes "syn") (k ∷ ts) syn_not_ini ∙ other_starts (bytes "syn") k ts i)
    ∙ ap (λ (l : List Bytes). with_starts ps (read_nodes l)) (outside_other b (bytes "syn") (k ∷ ts) syn_not_ini ∙ ap (λ l. bytes "syn" ∷ l) (outside_other (bytes "syn") k ts i))
    ∙ ap (with_starts ps) (read_syn k (outside 0 k ts))
    ∙ pass_node ps (syn_of k) (read_nodes (outside 0 k ts)) (list_not_ini k)

back_syn : (b k : Bytes) (ts : List Bytes) → same k (bytes "ini") ≡ false → (Plain k → Back k ts) → Back b (bytes "syn" ∷ k ∷ ts)
unfolding Back flat_map spelled_node
back_syn b k ts i ih h n =
    let e = syn_nodes b k ts i in
    let m : Free stray_node (syn_of k ∷ read_composed k ts) = rw e at n.1 in
    let x = sounds_inv b (bytes "syn") (k ∷ ts) h in
    let j = sounds_inv (bytes "syn") k ts x.1 in
    let g = syn_good k j.0 m.0 in
    let o = rw (other_starts b (bytes "syn") (k ∷ ts) syn_not_ini, other_starts (bytes "syn") k ts i) at n.0 in
    ap (flat_map spelled_node) e ∙ ap (λ z. spelled_node z ++ flat_map spelled_node (read_composed k ts)) g.0
    ∙ ap (λ u. bytes "syn" ∷ u ∷ flat_map spelled_node (read_composed k ts)) g.1 ∙ ap (λ l. bytes "syn" ∷ k ∷ l) (ih g.2 j.1 (o, m.1))

-- an `ini` in a list's place is stray
back_syn_ini : (b : Bytes) (ts : List Bytes) → Back b (bytes "syn" ∷ bytes "ini" ∷ ts)
unfolding Back
back_syn_ini b ts h n =
    let e : read_nodes (outside 0 b (bytes "syn" ∷ bytes "ini" ∷ ts)) ≡ stray_node ∷ read_nodes (outside 1 (bytes "ini") ts) =
    ap read_nodes (outside_other b (bytes "syn") (bytes "ini" ∷ ts) syn_not_ini ∙ ap (λ l. bytes "syn" ∷ l) (outside_ini (bytes "syn") ts))
    ∙ read_syn (bytes "ini") (outside 1 (bytes "ini") ts) ∙ ap (λ z. z ∷ read_nodes (outside 1 (bytes "ini") ts)) list_ini in
    let ps = map (or_else (all P.none)) (read_starts b (bytes "syn" ∷ bytes "ini" ∷ ts)) in
    let m : Free stray_node (stray_node ∷ with_starts ps (read_nodes (outside 1 (bytes "ini") ts))) = subst (λ (l : List Node). Free stray_node l) (ap (with_starts ps) e ∙ pass_node ps stray_node (read_nodes (outside 1 (bytes "ini") ts)) tt) n.1 in
    absurd (m.0 refl)

-- an `ini` and its P
pub plain_ini : Plain (bytes "ini")
unfolding same
plain_ini = plain_by (bytes "ini") refl refl refl

pub node_ini : node (bytes "ini") ≡ ini_alone
unfolding node numeral digit find same
node_ini = refl

pub ini_plain : same (bytes "ini") (bytes "syn") ≡ false
unfolding same
ini_plain = refl

module _ (b : Bytes) (ts : List Bytes) (c : Bytes) where
  abbrev its : List Bytes
  its = start_tokens 1 (bytes "ini") ts

  abbrev rest : List Bytes
  rest = trailing 1 (bytes "ini") ts

  pub ini_starts : read_starts b (bytes "ini" ∷ ts) ≡ read_pred (read_words its) ∷ read_starts c rest
  ini_starts =
      ap (map (λ (l : List Bytes). read_pred (read_words l))) (starts_ini b ts ∙ ap (λ l. its ∷ l) (starts_later ts 1 (bytes "ini") c))

  pub ini_nodes : (p : Pred) → read_pred (read_words its) ≡ some p → read_composed b (bytes "ini" ∷ ts) ≡ ini_node p ∷ read_composed c rest
  unfolding with_starts or_else
  ini_nodes p e =
      ap (λ (o : List (Option Pred)). with_starts (map (or_else (all P.none)) o) (read_nodes (outside 0 b (bytes "ini" ∷ ts)))) (ini_starts ∙ ap (λ (o : Option Pred). o ∷ read_starts c rest) e)
      ∙ ap (λ (l : List Bytes). with_starts (p ∷ map (or_else (all P.none)) (read_starts c rest)) (read_nodes l)) (outside_ini b ts ∙ ap (λ l. bytes "ini" ∷ l) (outside_later ts 1 (bytes "ini") c))
      ∙ ap (with_starts (p ∷ map (or_else (all P.none)) (read_starts c rest))) (read_node (bytes "ini") (outside 0 c rest) ini_plain ∙ ap (λ z. z ∷ read_nodes (outside 0 c rest)) node_ini)

back_ini : (b : Bytes) (ts : List Bytes) → ((c : Bytes) → Plain c → Back c (trailing 1 (bytes "ini") ts)) → Back b (bytes "ini" ∷ ts)
unfolding Back flat_map spelled_node exists lacks
back_ini b ts ih h n = go (read_pred (read_words group)) refl
  where
    group : List Bytes
    group = its b ts []

    more : List Bytes
    more = rest b ts []

    sounds_in : (sounds (bytes "ini") group ≡ true) × (sounds (last_of (bytes "ini") group) more ≡ true)
    sounds_in =
        let all_of : sounds (bytes "ini") (group ++ more) ≡ true = ap (sounds (bytes "ini")) (sym (tokens_split ts 1 (bytes "ini"))) ∙ (sounds_inv b (bytes "ini") ts h).1 in
        let e = sym (sounds_both group more (bytes "ini")) ∙ all_of in
        (and_left (sounds (bytes "ini") group) _ e, and_right (sounds (bytes "ini") group) _ e)

    go : (o : Option Pred) → read_pred (read_words group) ≡ o → flat_map spelled_node (read_composed b (bytes "ini" ∷ ts)) ≡ bytes "ini" ∷ ts
    go none e =
        let s = ini_starts b ts [] ∙ ap (λ (o : Option Pred). o ∷ read_starts [] more) e in
        absurd (true≢false (ap (exists lacks) (sym s) ∙ n.0))
    go (some p) e =
        let c = last_of (bytes "ini") group in
        let w = words_of_read (read_words group) p e in
        let s = tokens_back (bytes "ini") group plain_ini sounds_in.0 (subst (λ (l : List Word). Free stray l) (sym w) (no_stray p)) in
        let spells : flat_map spelled (words p) ≡ group = ap (flat_map spelled) (sym w) ∙ s.spells in
        let plain : Plain c = subst (λ (l : List Bytes). Plain (last_of (bytes "ini") l)) spells (plain_after p (bytes "ini") plain_ini (ap (every in_range) (sym w) ∙ s.ranged)) in
        let f = ini_nodes b ts c p e in
        let m : Free stray_node (ini_node p ∷ read_composed c more) = subst (λ (l : List Node). Free stray_node l) f n.1 in
        let o = ap (exists lacks) (sym (ini_starts b ts c ∙ ap (λ (o : Option Pred). o ∷ read_starts c more) e)) ∙ n.0 in
        ap (flat_map spelled_node) f
        ∙ ap (λ l. bytes "ini" ∷ l ++ flat_map spelled_node (read_composed c more)) spells
        ∙ ap (λ l. bytes "ini" ∷ group ++ l) (ih c plain sounds_in.1 (o, m.1))
        ∙ ap (λ l. bytes "ini" ∷ l) (sym (tokens_split ts 1 (bytes "ini")))

pub node_syn : node (bytes "syn") ≡ stray_node
unfolding node numeral digit find same
node_syn = refl

back_last : (b : Bytes) → Back b (bytes "syn" ∷ [])
unfolding Back outside
back_last b h n =
    let ps = map (or_else (all P.none)) (read_starts b (bytes "syn" ∷ [])) in
    let e : read_nodes (outside 0 b (bytes "syn" ∷ [])) ≡ stray_node ∷ [] = ap read_nodes (outside_other b (bytes "syn") [] syn_not_ini) ∙ read_last (bytes "syn") ∙ ap (λ z. z ∷ []) node_syn in
    let m : Free stray_node (stray_node ∷ with_starts ps []) = subst (λ (l : List Node). Free stray_node l) (ap (with_starts ps) e ∙ pass_node ps stray_node [] tt) n.1 in
    absurd (m.0 refl)

-- by the first token, where it holds of all that follows, and of what follows its P
module _ (b t : Bytes) (ts : List Bytes) (p : Plain b) (ih : (us : List Bytes) → length us ≤ length ts → (c : Bytes) → Plain c → Back c us) where
  third : (k : Bytes) (us : List Bytes) → length us ≤ length ts → (v : Bool) → same k (bytes "ini") ≡ v → Back b (bytes "syn" ∷ k ∷ us)
  third k us s true e = rw (same_is k (bytes "ini") e) (back_syn_ini b us)
  third k us s false e = back_syn b k us e (ih us s k)

  after_syn : (us : List Bytes) → length us ≤ length ts → Back b (bytes "syn" ∷ us)
  after_syn [] s = back_last b
  after_syn (k ∷ us) s = third k us (omega arith) (same k (bytes "ini")) refl

  second : same t (bytes "ini") ≡ false → (v : Bool) → same t (bytes "syn") ≡ v → Back b (t ∷ ts)
  second i true e = rw (same_is t (bytes "syn") e) (after_syn ts (omega arith))
  second i false e = back_plain b t ts i p e (ih ts (omega arith) t)

  first : (v : Bool) → same t (bytes "ini") ≡ v → Back b (t ∷ ts)
  first true e = rw (same_is t (bytes "ini") e) (back_ini b ts (λ c. ih (trailing 1 (bytes "ini") ts) (trailing_short ts 1 (bytes "ini")) c))
  first false e = second e (same t (bytes "syn")) refl

  by_first : Back b (t ∷ ts)
  by_first = first (same t (bytes "ini")) refl

back_each : (most : ℕ) (ts : List Bytes) → length ts ≤ most → (b : Bytes) → Plain b → Back b ts
back_each zero [] l b p = back_nil b
back_each zero (t ∷ ts) l b p = absurd (omega arith)
back_each (suc most) [] l b p = back_nil b
back_each (suc most) (t ∷ ts) l b p = by_first b t ts p (λ us k. back_each most us (omega arith))

unfoldable pub number_node : Node → ℕ
number_node stray_node = 1
number_node par_node = 0
number_node (syn_node l) = 0
number_node (ini_node p) = 0
number_node (leaf_node k) = 0

pub not_stray : (n : Node) → number_node n ≡ 0 → n ≡ stray_node → ⊥
unfolding number_node
not_stray w h e = let k : ◌≡◌ {A = ℕ} 1 0 = ap number_node (sym e) ∙ h in omega arith

pub no_stray_node : (c : Tree) → Free stray_node (nodes c)
unfolding nodes number_node
no_stray_node (par c d) = (not_stray par_node refl, free_append stray_node (nodes c) (nodes d) (no_stray_node c) (no_stray_node d))
no_stray_node (syn l c) = (not_stray (syn_node l) refl, no_stray_node c)
no_stray_node (ini p c) = (not_stray (ini_node p) refl, no_stray_node c)
no_stray_node (leaf k) = (not_stray (leaf_node k) refl, tt)

-- what is sound and is read as a tree, and each P as a predicate, is that tree's text
pub tree_law : (s : Bytes) (c : Tree) → sounds [] (tokens s) ≡ true → exists lacks (read_starts [] (tokens s)) ≡ false → read_tree (read_composed [] (tokens s)) ≡ some c → s ≡ text_of_tree c
unfolding text_of_tree tokens Back
tree_law s c h o e =
    let w = nodes_of_read (read_composed [] (tokens s)) c e in
    let n : Free stray_node (read_composed [] (tokens s)) = subst (λ (l : List Node). Free stray_node l) (sym w) (no_stray_node c) in
    let b = back_each (length (tokens s)) (tokens s) (omega arith) [] plain_nil h (o, n) in
    sym (joined_parts space s) ∙ ap (joined space) (sym b) ∙ ap (λ l. joined space (flat_map spelled_node l)) w
