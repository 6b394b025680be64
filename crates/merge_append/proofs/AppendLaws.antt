-- Appending, once and again.
use mathlib.Core.Path.{◌≡◌, refl, sym, ap, ◌∙◌, subst}
use mathlib.Core.List.{List, [], ◌∷◌, ◌++◌, append_assoc, append-nil, map, map-append}
use Prim.Native.Nat.{ℕ, suc, ◌+◌, ◌-◌, ◌≤◌, ◌<◌}
use native.Mathlib.Omega.{arith}
use native.Mathlib.Numerals.{add-one}
use lib.ListN.{length, get_or, take, drop, length-append, length-map, drop_of_length-le}
use lib.Seq.{sets-eq, drop-cons}
use Rattle.model.specs.Bounds.{table_words}
use Rattle.table_append.specs.Append.{next_place, put}
use Rattle.table_append.proofs.Joined.{next_then, put_then}
use Rattle.table_append.proofs.Stored.{put_sets}
use Rattle.table_places.specs.Outline.{reach, nodes_place}
use Rattle.merge_append.specs.declared.append.Filling.{Filling}
use Rattle.merge_append.specs.Append.{narrow, placed, Appended, Filled}
use Rattle.merge_append.specs.Runs.{run, nodes_at}

-- nothing; some words and then others
pub nothing : (old : List ℕ) (at : ℕ) → Appended [] at old old at
unfolding placed put
nothing old at = record { next = refl; memory = refl }

none_put : (at : ℕ) (old : List ℕ) → put at [] old ≡ old
unfolding put
none_put at old = refl

module _ {old mid new : List ℕ} {at a r : ℕ} where
  after_none : (vs : List ℕ) → Appended [] at old mid a → Appended vs a mid new r → Appended vs at old new r
  unfolding placed
  after_none vs p q =
      let e : a ≡ at = p.next in
      let f : mid ≡ old = p.memory ∙ none_put at old in
      record {
        next = q.next ∙ ap (λ (n : ℕ). placed n (length vs)) e;
        memory = q.memory ∙ ap (λ (n : ℕ). put n (map narrow vs) mid) e ∙ ap (put at (map narrow vs)) f;
      }

  then_none : (ws : List ℕ) → Appended ws at old mid a → Appended [] a mid new r → Appended (ws ++ []) at old new r
  unfolding placed
  then_none ws p q =
      let e : r ≡ a = q.next in
      let f : new ≡ mid = q.memory ∙ none_put a mid in
      subst (λ (l : List ℕ). Appended l at old new r) (sym (append-nil ws))
      (record { next = e ∙ p.next; memory = f ∙ p.memory })

  then_some : (w v : ℕ) (ws vs : List ℕ) → Appended (w ∷ ws) at old mid a → Appended (v ∷ vs) a mid new r
      → Appended ((w ∷ ws) ++ v ∷ vs) at old new r
  unfolding placed
  then_some w v ws vs p q =
      let first = map narrow (w ∷ ws) in
      let others = map narrow (v ∷ vs) in
      let place : a ≡ next_place at (suc (length ws)) = p.next in
      let size : suc (length ws) + suc (length vs) ≡ suc (length (ws ++ v ∷ vs)) =
      omega (arith, length-append ws (v ∷ vs)) in
      let counted : next_place at (suc (length ws)) ≡ next_place at (length first) =
      ap (next_place at) (sym (length-map (w ∷ ws) narrow)) in
      record {
        next =
            q.next ∙ ap (λ (n : ℕ). next_place n (suc (length vs))) place
            ∙ next_then at (suc (length ws)) (suc (length vs)) ∙ ap (next_place at) size;
        memory =
            q.memory ∙ ap (λ (n : ℕ). put n others mid) (place ∙ counted)
            ∙ ap (put (next_place at (length first)) others) p.memory ∙
            put_then first at others old
            ∙ ap (λ (l : List ℕ). put at l old) (sym (map-append narrow (w ∷ ws) (v ∷ vs)));
      }

pub then : {ws vs old mid new : List ℕ} {at a r : ℕ} → Appended ws at old mid a → Appended vs a mid new r
    → Appended (ws ++ vs) at old new r
then {ws} {vs} {old} {mid} {new} {at} {a} {r} p q = go ws vs p q
  where
    go : (ks ls : List ℕ) → Appended ks at old mid a → Appended ls a mid new r → Appended (ks ++ ls) at old new r
    go [] ls f g = after_none ls f g
    go (k ∷ ks) [] f g = then_none (k ∷ ks) f g
    go (k ∷ ks) (l ∷ ls) f g = then_some k l ks ls f g

-- the same of a table that is being filled
pub put_is : (x y n : ℕ) (ws : List ℕ) (old : Filling) → y ≡ narrow x → n ≡ next_place old.length 1
    → ws ≡ put old.length (y ∷ []) old.words → Filled (x ∷ []) old (record { words = ws; length = n })
unfolding placed put
put_is x y n ws old e f g =
    record {
      added = record { next = f; memory = g ∙ ap (λ (w : ℕ). put old.length (w ∷ []) old.words) e };
    }

pub none_filled : (old : Filling) → Filled [] old old
none_filled old = record { added = nothing old.words old.length }

pub then_filled : {ws vs : List ℕ} {old mid new : Filling} → Filled ws old mid → Filled vs mid new
    → Filled (ws ++ vs) old new
then_filled p q = record { added = then p.added q.added }

-- a loop that appends a list part by part: what is done, and what is to come
pub record Underway (whole : List ℕ) (old : Filling) (rest : List ℕ) (now : Filling) : Type 0 where
  pub done : List ℕ
  pub parts : done ++ rest ≡ whole
  pub so_far : Filled done old now

pub begun : (whole : List ℕ) (old : Filling) → Underway whole old whole old
begun whole old = record { done = []; parts = refl; so_far = none_filled old }

module _ {whole rest : List ℕ} {old now : Filling} (u : Underway whole old rest now) where
  pub on_by : {ws others : List ℕ} {new : Filling} → rest ≡ ws ++ others → Filled ws now new
      → Underway whole old others new
  on_by {ws} {others} e p =
      record {
        done = u.done ++ ws;
        parts = append_assoc u.done ws others ∙ ap (λ (l : List ℕ). u.done ++ l) (sym e)
            ∙ u.parts;
        so_far = then_filled u.so_far p;
      }

  pub ended : rest ≡ [] → Filled whole old now
  ended e =
      let d : u.done ≡ whole = sym (append-nil u.done) ∙ ap (λ (l : List ℕ). u.done ++ l) (sym e) ∙ u.parts in
      rw d at u.so_far

-- each way out of a turn of `put_all`
module _ (xs : List ℕ) (old now : Filling) (i : ℕ) (u : Underway xs old (drop i xs) now) where
  pub all_turn : i < length xs → (new : Filling) → Filled (get_or xs i 0 ∷ []) now new
      → Underway xs old (drop (i + 1) xs) new
  all_turn h new a =
      let one : drop i xs ≡ get_or xs i 0 ∷ drop (i + 1) xs = rw (add-one i) (drop-cons xs i 0 h) in
      on_by u one a

  pub all_end : length xs ≤ i → Filled xs old now
  all_end h = ended u (drop_of_length-le xs h)

pub ruleset all_laws = (begun, all_turn, all_end)

-- each way out of a turn of `copy`
module _ (t whole : List ℕ) (old now : Filling) (place count i : ℕ)
    (u : Underway whole old (run t place (count - i)) now) where
  pub copy_turn : i < count → (x p : ℕ) (new : Filling) → x ≡ get_or t place 0 → Filled (x ∷ []) now new
      → p ≡ reach t place 1 → Underway whole old (run t p (count - (i + 1))) new
  unfolding run
  copy_turn h x p new e a f =
      let n : count - i ≡ suc (count - (i + 1)) = omega arith in
      rw f
      (on_by u
      (ap (run t place) n ∙ ap (λ (w : ℕ). (w ∷ []) ++ run t (reach t place 1) (count - (i + 1))) (sym e)) a)

  pub copy_end : count ≤ i → Filled whole old now
  unfolding run
  copy_end h = let n : count - i ≡ 0 = omega arith in ended u (ap (run t place) n)

pub copy_begun : (t : List ℕ) (from count : ℕ) (old : Filling)
    → Underway (run t from count) old (run t from (count - 0)) old
copy_begun t from count old = let z : count - 0 ≡ count = omega arith in rw z (begun (run t from count) old)

pub ruleset copy_laws = (copy_begun, copy_turn, copy_end)

-- `nodes`
pub nodes_are : (t : List ℕ) (p a n : ℕ) (old new : Filling) → a ≡ nodes_place t p → n ≡ get_or t p 0
    → Filled (run t a n) old new → Filled (nodes_at t p) old new
unfolding nodes_at
nodes_are t p a n old new e f h = rw (← e, ← f) h

-- Within the table, and where the words have 32 bits, the words stand in their place and the rest is as it was.
pub appended_is : (ws : List ℕ) (at : ℕ) (old new : List ℕ) (r : ℕ) → Appended ws at old new r → map narrow ws ≡ ws
    → length old ≡ table_words → at + length ws ≤ table_words
    → new ≡ take at old ++ ws ++ drop (at + length ws) old
appended_is ws at old new r p e long h =
    let room : at + length ws ≤ length old = omega arith in
    p.memory ∙ ap (λ (l : List ℕ). put at l old) e ∙ put_sets ws at old long ∙ sets-eq ws old at room
