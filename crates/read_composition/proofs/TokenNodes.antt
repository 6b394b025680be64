-- Where rows 3 and 5 are not broken, the kinds of the tokens are those of the nodes that they spell.
use Prim.Native.Nat.{ℕ, ◌≤◌, ◌<◌}
use mathlib.Core.Path.{◌≡◌, refl, sym, ◌∙◌, ap, ap₂}
use mathlib.Core.Bool.{Bool, true, false, ◌||◌}
use mathlib.Core.List.{[], ◌∷◌}
use mathlib.Core.Logic.{⊎_elim}
use native.Mathlib.Omega.{arith}
use borrow.Author.Tests.{eqb-true, ne_eqb}
use lib.Dec.{eqb}
use lib.IntN.{pos}
use Rattle.model.specs.Basic.{same}
use Rattle.model.specs.Bounds.{last_automaton, max_actions}
use Rattle.model.specs.Composition.{Node, par_node, syn_node, ini_node, leaf_node, stray_node}
use Rattle.model.specs.Limits.{rises}
use Rattle.model.specs.Parse.{ini_alone}
use Rattle.model.specs.Table.{low_bits, high_bits, set_words}
use Rattle.model.proofs.Tests.{or_cases, both_ways}
use Rattle.model.proofs.Lists.{same_self}
use Rattle.format.specs.Bytes.{Bytes, bytes, parts, comma, minus, 'a}
use Rattle.format.specs.Number.{digit, natural, within, natural_of}
use Rattle.format.specs.Tokens.{Numeral, bare, lettered, unjudged, numeral, find, items, last_after, leaf_of, node, syn_of, sound, list_sound}
use Rattle.format.proofs.BytesLaws.{same_is, differ_first}
use Rattle.format.proofs.NumberLaws.{digit_is}
use Rattle.format.proofs.ReadLaws.{bare_is, lettered_is}
use Rattle.format.proofs.TokenLaws.{Plain, judged_plain, sound_lettered}
use Rattle.format.proofs.TreeRead.{numeral_a}
use Rattle.format.proofs.TreeText.{node_case, syn_case}
use Rattle.text_numbers.specs.Number.{natural_in, up_to}
use Rattle.text_numbers.proofs.NumberLaws.{natural_in_lem, natural_none}
use Rattle.read_composition.specs.declared.token.Kind.{Kind}
use Rattle.read_composition.specs.declared.token.Kind.TheVariants.{Par, Syn, Set, Ini, Leaf, Stray}
use Rattle.read_composition.specs.List.{list_of}
use Rattle.read_composition.specs.Token as T
use Rattle.read_composition.specs.Token.{starts_number, leaf_kind, word_kind, set_kind}
use Rattle.read_composition.proofs.Numbers.{list_set}
use Rattle.read_composition.proofs.AfterSyn.{is_bare, starts_by, syn_sound, list_case}

unfoldable pub node_kind : Node → Kind
node_kind par_node = Par
node_kind (syn_node list) = Set (low_bits list) (high_bits list)
node_kind (ini_node p) = Ini
node_kind (leaf_node k) = Leaf k
node_kind stray_node = Stray

-- a token that is no number is no leaf
no_leaf : (u : Bytes) → numeral u ≡ unjudged → leaf_kind u ≡ Stray
unfolding leaf_kind
no_leaf [] e = refl
no_leaf (b ∷ []) e = go (eqb b 'a)
  where
    go : (v : Bool) → elim v as (λ q. Kind) [ true ↦ T.leaf_of (natural_in [] last_automaton) | false ↦ Stray ] ≡ Stray
    go true = unfold T.leaf_of up_to natural in rw (natural_in_lem [] last_automaton)
    go false = refl
no_leaf (b ∷ c ∷ u) e = go (eqb b 'a) refl (digit c) refl
  where
    go : (v : Bool) → eqb b 'a ≡ v → (w : Bool) → digit c ≡ w
        → elim v as (λ q. Kind) [ true ↦ T.leaf_of (natural_in (c ∷ u) last_automaton) | false ↦ Stray ] ≡ Stray
    go true q true d =
        let z = eqb-true b 'a q in
        let f : numeral ('a ∷ c ∷ u) ≡ unjudged = rw z at e in
        let l = numeral_a c u d in
        absurd (let y : ◌≡◌ {A = ℕ} 0 1 = cc in omega arith)
    go true q false d = unfold T.leaf_of up_to in rw (natural_in_lem (c ∷ u) last_automaton, natural_none c u d)
    go false q w d = refl

last_a : (b : ℕ) → eqb b 'a ≡ true → last_after b ≡ pos last_automaton
unfolding last_after
last_a b h = rw (h, last_after)

leaf_yes : (b : ℕ) (s : Bytes) → eqb b 'a ≡ true → within (pos 0) (pos last_automaton) s ≡ true → leaf_kind (b ∷ s) ≡ Leaf (natural_of s)
unfolding leaf_kind natural_in T.leaf_of
leaf_yes b s h w = rw (h, leaf_kind, w, natural_in)

leaf_no : (b : ℕ) (s : Bytes) → eqb b 'a ≡ false → leaf_kind (b ∷ s) ≡ Stray
unfolding leaf_kind
leaf_no b s h = rw (h, leaf_kind)

same_turned : (s t : Bytes) → same s t ≡ same t s
same_turned s t = both_ways (same s t) (same t s) (there s t) (there t s)
  where
    there : (u v : Bytes) → same u v ≡ true → same v u ≡ true
    there u v h = ap (same v) (same_is u v h) ∙ same_self v

-- a word other than `syn`, by its tests
module _ (t : Bytes) (n : same t (bytes "syn") ≡ false) where
  word_case : (v w : Bool) → same (bytes "par") t ≡ v → same (bytes "ini") t ≡ w
      → word_kind t ≡ elim v [ true ↦ Par | false ↦ elim w [ true ↦ Ini | false ↦ leaf_kind t ] ]
  unfolding word_kind
  word_case v w e f =
      ap (λ (b : Bool). elim b as (λ q. Kind) [ true ↦ Syn | false ↦ other (same t (bytes "par")) (same t (bytes "ini")) ]) n ∙
      ap₂ other (same_turned t (bytes "par") ∙ e) (same_turned t (bytes "ini") ∙ f)
    where
      other : Bool → Bool → Kind
      other x y = elim x as (λ q. Kind) [ true ↦ Par | false ↦ elim y as (λ q. Kind) [ true ↦ Ini | false ↦ leaf_kind t ] ]

  -- a token with no number
  word_unjudged : numeral t ≡ unjudged → word_kind t ≡ node_kind (find stray_node ((bytes "par", par_node) ∷ (bytes "ini", ini_alone) ∷ []) t)
  unfolding node_kind find
  word_unjudged e = word_case (same (bytes "par") t) (same (bytes "ini") t) refl refl ∙ go (same (bytes "par") t) (same (bytes "ini") t)
    where
      go : (v w : Bool) → elim v as (λ q. Kind) [ true ↦ Par | false ↦ elim w as (λ q. Kind) [ true ↦ Ini | false ↦ leaf_kind t ] ]
          ≡ node_kind (elim v as (λ q. Node) [ true ↦ par_node | false ↦ elim w as (λ q. Node) [ true ↦ ini_alone | false ↦ stray_node ] ])
      go true w = refl
      go false true = refl
      go false false = no_leaf t e

  -- a bare number is no node
  word_bare : starts_number t ≡ true → word_kind t ≡ Stray
  word_bare h = word_case false false (differs 112 (97 ∷ 114 ∷ []) (omega arith) t h) (differs 105 (110 ∷ 105 ∷ []) (omega arith) t h) ∙ other t h
    where
      low : (b : ℕ) → digit b || eqb b minus ≡ true → b < 97
      low b k = ⊎_elim (λ i. let j = digit_is b i in omega arith) (λ i. let j = eqb-true b 45 i in omega arith) (or_cases (digit b) (eqb b 45) k)

      differs : (c : ℕ) (s : Bytes) → 97 ≤ c → (u : Bytes) → starts_number u ≡ true → same (c ∷ s) u ≡ false
      differs c s g [] k = unfold same in refl
      differs c s g (b ∷ u) k =
          let l = low b (unfold starts_number in k) in
          differ_first c b s u (λ z. omega arith)

      other : (u : Bytes) → starts_number u ≡ true → leaf_kind u ≡ Stray
      other [] k = unfold leaf_kind in refl
      other (b ∷ u) k =
          let l = low b (unfold starts_number in k) in
          leaf_no b u (ne_eqb b 97 (λ z. omega arith))

  -- a letter and a number: `aK` is a leaf
  word_lettered : (b : ℕ) (s : Bytes) → numeral t ≡ lettered b s → within (pos 0) (last_after b) s ≡ true
      → word_kind t ≡ node_kind (leaf_of b (natural_of s))
  unfolding node_kind leaf_of
  word_lettered b s e h =
      word_case false false (differs (bytes "par") (unfold numeral digit in refl) _ refl) (differs (bytes "ini") (unfold numeral digit in refl) _ refl) ∙
      ap leaf_kind (lettered_is t s b e) ∙ go (eqb b 'a) refl
    where
      differs : (u : Bytes) → numeral u ≡ unjudged → (v : Bool) → same u t ≡ v → v ≡ false
      differs u g true q =
          let f : numeral u ≡ lettered b s = ap numeral (same_is u t q) ∙ e in
          absurd (let y : ◌≡◌ {A = ℕ} 0 1 = cc in omega arith)
      differs u g false q = refl

      go : (v : Bool) → eqb b 'a ≡ v → leaf_kind (b ∷ s) ≡ node_kind (elim v [ true ↦ leaf_node (natural_of s) | false ↦ stray_node ])
      go true q =
          let w : within (pos 0) (pos last_automaton) s ≡ true = ap (λ z. within (pos 0) z s) (sym (last_a b q)) ∙ h in
          leaf_yes b s q w
      go false q = leaf_no b s q

  pub word_node : (before : Bytes) → Plain before → sound before t ≡ true → word_kind t ≡ node_kind (node t)
  unfolding is_bare
  word_node before p h = go (numeral t) refl
    where
      go : (x : Numeral) → numeral t ≡ x → word_kind t ≡ node_kind (node t)
      go unjudged e = word_unjudged e ∙ ap node_kind (sym (node_case t unjudged e))
      go (bare s) e = word_bare (starts_by t (bare s) e) ∙ (unfold node_kind in ap node_kind (sym (node_case t (bare s) e)))
      go (lettered b s) e =
          let w = sym (judged_plain before s (pos 0) (last_after b) p) ∙ sym (sound_lettered before t s b e) ∙ h in
          word_lettered b s e w ∙ ap node_kind (sym (node_case t (lettered b s) e))

-- the list right after `syn`
module _ (t : Bytes) where
  set_case : (v : Bool) → starts_number t ≡ v
      → set_kind t ≡ elim v [ true ↦ Set (list_of max_actions (parts comma t)).low (list_of max_actions (parts comma t)).high | false ↦ Stray ]
  unfolding set_kind
  set_case v e =
      ap (λ (b : Bool). elim b as (λ q. Kind) [ true ↦ Set (list_of max_actions (parts comma t)).low (list_of max_actions (parts comma t)).high | false ↦ Stray ]) e

  pub set_node : (A : ℕ) → sound (bytes "syn") t ≡ true → list_sound A (bytes "syn") t ≡ true → set_kind t ≡ node_kind (syn_of t)
  unfolding is_bare node_kind same items set_words
  set_node A h k = go (numeral t) refl
    where
      go : (x : Numeral) → numeral t ≡ x → set_kind t ≡ node_kind (syn_of t)
      go unjudged e = set_case false (starts_by t unjudged e) ∙ ap node_kind (sym (syn_case t unjudged e))
      go (lettered b s) e = set_case false (starts_by t (lettered b s) e) ∙ ap node_kind (sym (syn_case t (lettered b s) e))
      go (bare s) e =
          let i : t ≡ s = (bare_is t s e).0 in
          let r : rises A 0 (items s) ≡ true = sym (list_case A (bytes "syn") t (bare s) e) ∙ k in
          let w : (list_of 63 (parts comma s)).low ∷ (list_of 63 (parts comma s)).high ∷ [] ≡ low_bits (items s) ∷ high_bits (items s) ∷ [] =
          list_set 63 (parts comma s) (syn_sound t s e h) A r in
          let a : (list_of 63 (parts comma s)).low ≡ low_bits (items s) = cc in
          let b : (list_of 63 (parts comma s)).high ≡ high_bits (items s) = cc in
          set_case true (starts_by t (bare s) e) ∙ ap (λ u. Set (list_of 63 (parts comma u)).low (list_of 63 (parts comma u)).high) i ∙
          ap₂ (λ x y. Set x y) a b ∙ ap node_kind (sym (syn_case t (bare s) e))
