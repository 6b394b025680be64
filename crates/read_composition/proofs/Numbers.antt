-- What the answer says of a list: row 3, row 5, and the words of its set.
use Prim.Native.Nat.{ℕ, suc, ◌+◌, ◌-◌, ◌*◌, ◌%◌, ◌/◌, ◌^◌, ◌<◌}
use mathlib.Core.Path.{◌≡◌, refl, sym, ◌∙◌, ap}
use mathlib.Core.Bool.{Bool, true, false, not, ◌&&◌, ◌||◌}
use mathlib.Core.List.{List, [], ◌∷◌, map}
use native.Mathlib.Omega.{arith}
use borrow.Author.Tests.{leb-true, leb-false, le-leb, lt-leb}
use lib.Dec.{leb, ltb}
use lib.IntN.{pos}
use Rattle.model.specs.Basic.{every, exists, keep, member, count_up}
use Rattle.model.specs.Bounds.{max_actions}
use Rattle.model.specs.Limits.{ascends, rises}
use Rattle.model.specs.Table.{bit, set_words}
use Rattle.model.proofs.Tests.{and_intro, and_left, and_right}
use Rattle.model.proofs.Bits.{rises_cons}
use Rattle.model.proofs.Written.{ascends_cons, kept_list}
use Rattle.format.specs.Bytes.{Bytes}
use Rattle.format.specs.Number.{within, natural_of}
use Rattle.table_tree.specs.Sets.{one_word}
use Rattle.table_tree.proofs.SetLaws.{keep_alike, set_of_one, words_back}
use Rattle.table_writes.specs.Sets.{mask, cleared}
use Rattle.table_writes.proofs.MaskLaws.{bit_mask, mask_other, mask_small, out_list}
use Rattle.read_list.proofs.Meaning.{items_sound, items_listed, items_ranged}
use Rattle.read_list.specs.declared.Listed as Read
use Rattle.read_list.specs.Items.{items_of}
use Rattle.read_composition.specs.declared.list.Listed.{Listed}
use Rattle.std.specs.Prelude.{Option, Some, None}
use Rattle.std.specs.Option.{is_some}
use Rattle.read_composition.specs.List.{all_actions, asked_of, words_of, list_of}

-- to rise up to A is to rise, with nothing above A
not_above : (A k : ℕ) → leb k A ≡ not (leb (A + 1) k)
not_above A k = go (leb k A) refl
  where
    go : (b : Bool) → leb k A ≡ b → b ≡ not (leb (A + 1) k)
    go true e = let l = leb-true k A e in sym (ap not (lt-leb (A + 1) k (omega arith)))
    go false e = let l = leb-false k A e in sym (ap not (le-leb (A + 1) k (omega arith)))

sorted : (a b c d e : Bool) → b ≡ not d → (a && b) && (c && not e) ≡ (a && c) && not (d || e)
sorted true b c true e h = rw h (and_no c (not (true || e)) refl)
  where
    and_no : (x y : Bool) → y ≡ false → false ≡ x && y
    and_no true y q = sym q
    and_no false y q = refl
sorted true b c false e h = rw h
sorted false b c d e h = refl

rises_is : (A last : ℕ) (list : List ℕ) → rises A last list ≡ (ascends (suc last) list && not (exists (λ k. leb (A + 1) k) list))
unfolding exists
rises_is A last [] = unfold rises ascends in refl
rises_is A last (k ∷ ks) =
    rises_cons A last k ks ∙ ap (λ (b : Bool). (ltb last k && leb k A) && b) (rises_is A k ks) ∙
    sorted (leb (suc last) k) (leb k A) (ascends (suc k) ks) (leb (A + 1) k) (exists (λ j. leb (A + 1) j) ks) (not_above A k) ∙
    ap (λ (b : Bool). b && not (leb (A + 1) k || exists (λ j. leb (A + 1) j) ks)) (sym (ascends_cons (suc last) k ks))

lower : (n : ℕ) (list : List ℕ) → ascends (suc n) list ≡ true → ascends n list ≡ true
unfolding ascends
lower n [] h = refl
lower n (k ∷ ks) h =
    let q = sym (ascends_cons (suc n) k ks) ∙ h in
    let l = leb-true (suc n) k (and_left (leb (suc n) k) _ q) in
    ascends_cons n k ks ∙ and_intro (le-leb n k (omega arith)) (and_right (leb (suc n) k) _ q)

-- the set of a rising list of numbers up to 63, as one word and as two
module _ (list : List ℕ) (rise : ascends 0 list ≡ true) (ranged : every (λ k. leb k max_actions) list ≡ true) where
  abbrev set : ℕ
  set = all_actions - cleared all_actions list

  all_is : all_actions ≡ mask (λ k. true) 64
  unfolding mask
  all_is = refl

  set_is : set ≡ mask (λ k. member k list) 64
  set_is =
      let a = ap (λ (s : ℕ). cleared s list) all_is ∙ out_list 64 list (λ k. true) in
      let b = mask_other (λ k. member k list) 64 in
      let c = all_is in
      omega arith

  members : keep (bit set) (count_up 0 64) ≡ list
  members =
      ap (λ (s : ℕ). keep (bit s) (count_up 0 64)) set_is ∙
      keep_alike (bit (mask (λ k. member k list) 64)) (λ k. member k list) 0 64 (λ k a b. bit_mask (λ j. member j list) 64 k (omega arith)) ∙
      kept_list (λ k. member k list) 64 0 max_actions list rise ranged (omega arith) (λ k l. refl)

  set_words_lem : set % 4294967296 ∷ set / 4294967296 ∷ [] ≡ set_words list
  unfolding one_word
  set_words_lem =
      let small : set < 2 ^ 64 = rw set_is (mask_small (λ k. member k list) 64) in
      let l : set % 4294967296 < 4294967296 = omega arith in
      let u : set / 4294967296 < 4294967296 = omega arith in
      let one : set ≡ set / 4294967296 * 2 ^ 32 + set % 4294967296 = omega arith in
      sym (words_back (set % 4294967296) (set / 4294967296) l u) ∙
      ap set_words (set_of_one (set % 4294967296) (set / 4294967296) l u set one ∙ members)

-- the laws of `list_of` and `sync_list`, by the items of the list
module _ (A : ℕ) (ss : List Bytes) where
  pub list_sound : (list_of A ss).sound ≡ every (within (pos 0) (pos max_actions)) ss
  unfolding list_of words_of asked_of
  list_sound = sound_is (items_of (asked_of A) ss) ∙ items_sound (asked_of A) ss
    where
      sound_is : (o : Option Read.Listed) → (words_of o).sound ≡ is_some o
      sound_is None = refl
      sound_is (Some l) = refl

  module _ (h : every (within (pos 0) (pos max_actions)) ss ≡ true) where
    list_is : list_of A ss ≡ words_of (Some (record { rising = ascends 1 (map natural_of ss); outside = exists (λ k. leb (A + 1) k) (map natural_of ss); rest = cleared all_actions (map natural_of ss) }))
    unfolding list_of asked_of
    list_is = ap words_of (items_listed (asked_of A) ss h)

    pub list_rising : (list_of A ss).rising ≡ rises A 0 (map natural_of ss)
    unfolding words_of
    list_rising = ap (λ (l : Listed). l.rising) list_is ∙ sym (rises_is A 0 (map natural_of ss))

    pub list_set : (B : ℕ) → rises B 0 (map natural_of ss) ≡ true → (list_of A ss).low ∷ (list_of A ss).high ∷ [] ≡ set_words (map natural_of ss)
    unfolding words_of
    list_set B r =
        let rise = lower 0 (map natural_of ss) (and_left (ascends 1 (map natural_of ss)) _ (sym (rises_is B 0 (map natural_of ss)) ∙ r)) in
        ap (λ (l : Listed). l.low ∷ l.high ∷ []) list_is ∙ set_words_lem (map natural_of ss) rise (items_ranged max_actions ss h)
