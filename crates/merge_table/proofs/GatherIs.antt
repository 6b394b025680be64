-- The gathered list has the takers of all moves of the model, in the order of the merged edges: sixteen places for each move.
use mathlib.Core.Path.{◌≡◌, refl, sym, ap, ap₂, ◌∙◌, subst}
use mathlib.Core.Bool.{false}
use mathlib.Core.List.{List, [], ◌∷◌, ◌++◌, append_assoc, map, map-append, map-map, flat_map, Memᴰ}
use Prim.Native.Nat.{ℕ, zero, suc, ◌+◌, ◌*◌, ◌≤◌, ◌<◌}
use native.Mathlib.Omega.{arith}
use native.Mathlib.Numerals.{add-one}
use lib.ListN.{length, get_or, drop, replicate, length-append, length-map, drop_of_length-le}
use lib.Seq.{sets-eq, length-sets, drop-cons}
use lib.Dec.{ltb}
use borrow.Author.Tests.{ltb-false}
use Rattle.model.specs.Basic.{sum, count_up}
use Rattle.model.specs.Bounds.{max_edges, table_words}
use Rattle.model.specs.Model.{Edge, Model}
use Rattle.model.specs.Rules.{Taker}
use Rattle.model.specs.Lawful.{Lawful}
use Rattle.model.specs.Table.{sheet_words}
use Rattle.model.specs.Moves.{moves, move_count}
use Rattle.model.specs.Linear.{merged_edge, edges_with_repeats}
use Rattle.model.specs.Repeats.{count_with_repeats, row32_with_repeats}
use Rattle.model.proofs.Count.{moves_length, repeats_counted}
use Rattle.table_append.specs.Append.{put}
use Rattle.table_append.proofs.Stored.{put_sets}
use Rattle.table_places.specs.declared.layout.Layout.{Layout}
use Rattle.table_places.specs.Outline.{reach}
use Rattle.table_places.specs.Layout.{automata_of, layout_of}
use Rattle.table_places.proofs.OutlineLaws.{reach_is, reached}
use Rattle.merge_append.specs.Append.{narrow}
use Rattle.merge_append.specs.Runs.{run}
use Rattle.merge_takers.specs.Taking.{taken_from, takers}
use Rattle.merge_takers.specs.Moves.{cells_of, move_total, picks_of, places_of, last_action, moves_in}
use Rattle.merge_takers.specs.Gather as G
use Rattle.merge_takers.specs.Gather.{gathered}
use Rattle.merge_table.proofs.Standing.{run_is, own_of}
use Rattle.merge_table.proofs.PlacesAre.{PlacedAll, places_fit}
use Rattle.merge_table.proofs.EdgesAre.{listed_at, takers_from, Valid, takers_add}
use Rattle.merge_table.proofs.MovesAre.{last_is, total_is, move_named, move_valid}
use Rattle.merge_table.proofs.CountIs.{count_row, counts_few}

-- a move and its action; all moves, in the order of the merged edges
pub record Move : Type 0 where
  pub action : ℕ
  pub takers : List Taker

abbrev pub moved : ℕ → List Taker → Move
moved a ts = record { action = a; takers = ts }

abbrev moves_for : Model → List ℕ → List Move
moves_for m actions = flat_map (λ a. map (moved a) (moves m a m.tree)) actions

unfoldable pub all_moves : Model → List Move
all_moves m = moves_for m (count_up 0 (suc m.actions))

-- their merged edges
abbrev pub move_edge : Model → Move → Edge
move_edge m v = merged_edge m v.action v.takers

edges_for : (m : Model) (l : List ℕ) → map (move_edge m) (moves_for m l) ≡ flat_map (λ a. map (merged_edge m a) (moves m a m.tree)) l
unfolding flat_map
edges_for m [] = refl
edges_for m (a ∷ l) =
    map-append (move_edge m) (map (moved a) (moves m a m.tree)) (moves_for m l) ∙
    ap₂ (λ (x y : List Edge). x ++ y) (map-map (move_edge m) (moved a) (moves m a m.tree)) (edges_for m l)

pub moves_edges : (m : Model) → map (move_edge m) (all_moves m) ≡ edges_with_repeats m
unfolding all_moves edges_with_repeats
moves_edges m = edges_for m (count_up 0 (suc m.actions))

pub moves_total : (m : Model) → length (all_moves m) ≡ length (edges_with_repeats m)
moves_total m = sym (length-map (all_moves m) (move_edge m)) ∙ ap length (moves_edges m)

module _ (m : Model) (t : List ℕ) where
  -- the sixteen places are those of a move: they are found by picks that name its takers
  pub record Recorded (v : Move) (places : List ℕ) : Type 0 where
    pub picks : List ℕ
    pub valid : Valid v.action picks 0 m.automata
    pub named : takers_from v.action picks 0 m.automata ≡ v.takers
    pub found : places ≡ takers t (layout_of t) v.action picks
    pub within : v.action ≤ m.actions
    pub listed : Memᴰ v.takers (moves m v.action m.tree)

  -- the moves, one after the other, from a place of the list on
  unfoldable pub RecordedFrom : (list : List ℕ) (at : ℕ) → List Move → Type 0
  RecordedFrom list at [] = Unit
  RecordedFrom list at (v ∷ vs) = Recorded v (run list at 16) × RecordedFrom list (reach list at 16) vs

  -- move k stands after 16 places for each move before it
  recorded_at : (list : List ℕ) (vs : List Move) (at : ℕ) → RecordedFrom list at vs → at + 16 * length vs ≤ length list
      → (k : ℕ) → k < length vs → Recorded (get_or vs k (moved 0 [])) (run list (at + 16 * k) 16)
  unfolding RecordedFrom
  recorded_at list [] at r h k l = absurd (omega arith)
  recorded_at list (v ∷ vs) at r h zero l = let z : at + 16 * 0 ≡ at = omega arith in rw z r.0
  recorded_at list (v ∷ vs) at r h (suc k) l =
      let next : reach list at 16 ≡ at + 16 = reach_is list at 16 (omega arith) in
      let place : at + 16 + 16 * k ≡ at + 16 * suc k = omega arith in
      rw (← place) (recorded_at list vs (at + 16) (rw next at r.1) (omega arith) k (omega arith))

  -- what the places of a move say of its takers
  module _ (lawful : Lawful m) (rest : List ℕ) (e : t ≡ sheet_words m ++ rest) where
    pub recorded_placed : (v : Move) (places : List ℕ) → Recorded v places → PlacedAll t 0 places v.takers
    recorded_placed v places r = rw (r.found, ← r.named) (takers_add m lawful t rest e v.action r.picks r.valid).placed

-- on any words a move has sixteen places
pub sixteen : (t : List ℕ) (x : Layout) (action : ℕ) (picks : List ℕ) → length (takers t x action picks) ≡ 16
unfolding takers
sixteen t x action picks = length-sets {A = ℕ} (replicate 16 0) 0 (taken_from t x.edges action picks 0 (automata_of x))

places_length : (t cells : List ℕ) (x : Layout) (action k : ℕ) → length (places_of t x cells action k) ≡ 16
unfolding places_of
places_length t cells x action k = sixteen t x action (picks_of t x cells k)

from_length : (t cells : List ℕ) (x : Layout) (action n k : ℕ) → length (G.takers_from t x cells action k n) ≡ 16 * n
unfolding G.takers_from
from_length t cells x action zero k = refl
from_length t cells x action (suc n) k =
    omega (arith, length-append (places_of t x cells action k) (G.takers_from t x cells action (k + 1) n), places_length t cells x action k, from_length t cells x action n (k + 1))

module _ (m : Model) (lawful : Lawful m) (t rest : List ℕ) (e : t ≡ sheet_words m ++ rest) where
  abbrev lay : Layout
  lay = layout_of t

  module _ (a : ℕ) (inside : a ≤ m.actions) (few : move_count m a m.tree ≤ max_edges) where
    abbrev listed : List (List Taker)
    listed = moves m a m.tree

    abbrev cells : List ℕ
    cells = cells_of t lay (own_of t) a

    under_length : length (G.takers_under t lay (own_of t) a) ≡ 16 * move_count m a m.tree
    unfolding G.takers_under
    under_length = from_length t cells lay a (move_total t lay (own_of t) a) 0 ∙ ap (λ n. 16 * n) (total_is m lawful t rest e a few)

    module _ (list others : List ℕ) where
      -- move k, and what stands after it
      module _ (k at : ℕ) (h : k < length listed) (s : drop at list ≡ map narrow (places_of t lay cells a k) ++ others) where
        valid_here : Valid a (picks_of t lay cells k) 0 m.automata
        valid_here = move_valid m lawful t rest e a few k h

        fits : map narrow (places_of t lay cells a k) ≡ places_of t lay cells a k
        unfolding places_of
        fits = places_fit t (takers_add m lawful t rest e a (picks_of t lay cells k) valid_here).placed

        stands : drop at list ≡ places_of t lay cells a k ++ others
        stands = s ∙ ap (λ (l : List ℕ). l ++ others) fits

        read_move : Recorded m t (moved a (get_or listed k [])) (run list at 16)
        unfolding places_of
        read_move =
            let there = ap (run list at) (sym (places_length t cells lay a k)) ∙ run_is list (places_of t lay cells a k) others at stands in
            record {
              picks = picks_of t lay cells k;
              valid = valid_here;
              named = move_named m lawful t rest e a few k h;
              found = there;
              within = inside;
              listed = listed_at [] listed k h;
            }

        past_move : drop (reach list at 16) list ≡ others
        past_move = reached list at 16 (places_of t lay cells a k) others stands (places_length t cells lay a k)

    -- the moves of an action, and then others
    module _ (list others : List ℕ) (vs : List Move) (after : (at : ℕ) → drop at list ≡ others → RecordedFrom m t list at vs) where
      moves_from : (n k at : ℕ) → k + n ≡ length listed → drop at list ≡ map narrow (G.takers_from t lay cells a k n) ++ others
          → RecordedFrom m t list at (map (moved a) (drop k listed) ++ vs)
      unfolding G.takers_from RecordedFrom
      moves_from zero k at h s =
          let end : length listed ≤ k = omega arith in
          rw (drop_of_length-le listed end) (after at s)
      moves_from (suc n) k at h s =
          let b : k < length listed = omega arith in
          let here = places_of t lay cells a k in
          let later = G.takers_from t lay cells a (k + 1) n in
          let parts : drop at list ≡ map narrow here ++ (map narrow later ++ others) =
          s ∙ ap (λ (l : List ℕ). l ++ others) (map-append narrow here later) ∙ append_assoc (map narrow here) (map narrow later) others in
          let z : k + 1 ≡ suc k = omega arith in
          rw (drop-cons listed k [] b)
          (read_move list _ k at b parts, rw z at (moves_from n (k + 1) (reach list at 16) (omega arith) (past_move list _ k at b parts)))

      moves_under : (at : ℕ) → drop at list ≡ map narrow (G.takers_under t lay (own_of t) a) ++ others → RecordedFrom m t list at (map (moved a) listed ++ vs)
      unfolding G.takers_under
      moves_under at s =
          let n = total_is m lawful t rest e a few ∙ sym (moves_length m a m.tree) in
          moves_from (length listed) 0 at (omega arith) (s ∙ ap (λ c. map narrow (G.takers_from t lay cells a 0 c) ++ others) n)

  module _ (few : (a : ℕ) → a ≤ m.actions → move_count m a m.tree ≤ max_edges) where
    all_length : (n a : ℕ) → a + n ≡ m.actions + 1 → length (G.takers_of t lay (own_of t) a n) ≡ 16 * sum (map (λ b. move_count m b m.tree) (count_up a n))
    unfolding G.takers_of sum count_up
    all_length zero a h = refl
    all_length (suc n) a h =
        let l : a ≤ m.actions = omega arith in
        let ih = all_length n (suc a) (omega arith) in
        rw (add-one a) (omega (arith, length-append (G.takers_under t lay (own_of t) a) (G.takers_of t lay (own_of t) (suc a) n), under_length a l (few a l), ih))

    moves_upto : (list others : List ℕ) (n a at : ℕ) → a + n ≡ m.actions + 1 → drop at list ≡ map narrow (G.takers_of t lay (own_of t) a n) ++ others
        → RecordedFrom m t list at (moves_for m (count_up a n))
    unfolding G.takers_of RecordedFrom flat_map count_up
    moves_upto list others zero a at h s = tt
    moves_upto list others (suc n) a at h s =
        let l : a ≤ m.actions = omega arith in
        let here = G.takers_under t lay (own_of t) a in
        let later = G.takers_of t lay (own_of t) (a + 1) n in
        let z : a + 1 ≡ suc a = omega arith in
        let parts : drop at list ≡ map narrow here ++ (map narrow later ++ others) =
        s ∙ ap (λ (k : List ℕ). k ++ others) (map-append narrow here later) ∙ append_assoc (map narrow here) (map narrow later) others in
        moves_under a l (few a l) list _ (moves_for m (count_up (suc a) n)) (λ p q. moves_upto list others n (suc a) p (omega arith) (rw z at q)) at parts

  -- the law: where row 32 does not refuse, a list as long as a table has all moves
  module _ (kept : row32_with_repeats m ≡ false) (old : List ℕ) (long : length old ≡ table_words) where
    few : (a : ℕ) → a ≤ m.actions → move_count m a m.tree ≤ max_edges
    few = counts_few m lawful t rest e kept

    abbrev all : List ℕ
    all = map narrow (G.takers_in t lay (own_of t))

    -- the list is as long as it was, and has all places at its start
    stored : gathered t lay (own_of t) old ≡ put 0 all old
    unfolding gathered
    stored = let no : ltb max_edges (moves_in t lay (own_of t)) ≡ false = count_row m lawful t rest e ∙ kept in rw (no, gathered)

    whole_length : length (G.takers_in t lay (own_of t)) ≡ 16 * count_with_repeats m
    unfolding G.takers_in count_with_repeats
    whole_length =
        ap (λ a. length (G.takers_of t lay (own_of t) 0 (a + 1))) (last_is m lawful t rest e) ∙ all_length few (m.actions + 1) 0 (omega arith) ∙
        ap (λ n. 16 * sum (map (λ b. move_count m b m.tree) (count_up 0 n))) (add-one m.actions)

    room : 0 + length all ≤ length old
    unfolding row32_with_repeats
    room = omega (arith, length-map (G.takers_in t lay (own_of t)) narrow, whole_length, ltb-false max_edges (count_with_repeats m) kept)

    begins : drop 0 (gathered t lay (own_of t) old) ≡ all ++ drop (0 + length all) old
    begins = stored ∙ put_sets all 0 old long ∙ sets-eq all old 0 room

    pub moves_gathered : RecordedFrom m t (gathered t (layout_of t) (own_of t) old) 0 (all_moves m)
    unfolding G.takers_in all_moves
    moves_gathered =
        let actions : last_action lay + 1 ≡ m.actions + 1 = ap (λ a. a + 1) (last_is m lawful t rest e) in
        let s = begins ∙ ap (λ n. map narrow (G.takers_of t lay (own_of t) 0 n) ++ drop (0 + length all) old) actions in
        subst (λ n. RecordedFrom m t (gathered t lay (own_of t) old) 0 (moves_for m (count_up 0 n))) (add-one m.actions)
        (moves_upto few (gathered t lay (own_of t) old) (drop (0 + length all) old) (m.actions + 1) 0 0 (omega arith) s)

    -- so for each merged edge the list has the places of its move
    pub move_recorded : (k : ℕ) → k < count_with_repeats m → Recorded m t (get_or (all_moves m) k (moved 0 [])) (run (gathered t (layout_of t) (own_of t) old) (16 * k) 16)
    move_recorded k h =
        let list = gathered t lay (own_of t) old in
        let same : length list ≡ length old = ap length (stored ∙ put_sets all 0 old long) ∙ length-sets old 0 all in
        let size : length (all_moves m) ≡ count_with_repeats m = moves_total m ∙ repeats_counted m in
        let place : 0 + 16 * k ≡ 16 * k = omega arith in
        let inside : 0 + 16 * length (all_moves m) ≤ length list = omega (arith, room, length-map (G.takers_in t lay (own_of t)) narrow, whole_length) in
        rw (← place) (recorded_at m t list (all_moves m) 0 moves_gathered inside k (omega arith))
