-- The walk over all edges of a table that gathers those which can be taken, by the places of a layout. On a sheet's
-- words and its layout it gives what the search is to be given: the law gather_offers.
use Rattle.std.specs.Prelude.{Bool, true, false, ◌&&◌, List, ℕ, zero, suc, ◌+◌, ℤ, get_or, take, drop, set, eqb, ltb}
use Rattle.model.specs.Bounds.{max_edges}
use Rattle.evaluator.specs.Evaluate.{evaluate}
use Rattle.table_places.specs.declared.layout.Layout.{Layout}
use Rattle.table_places.specs.Outline.{nodes_place, after_predicate, edge_from, edge_action, edge_to, update_place}
use Rattle.table_places.specs.Outline.{first_edge}
use Rattle.table_places.specs.Layout.{automata_of}
use Rattle.table_writes.specs.Sets.{all_variables, rest_of}
use Rattle.judge_candidates.specs.declared.edges.Leg.{Leg}

-- the masks, where the walk stands, and how many masks it has stored
pub record Walk : Type 0 where
  pub masks : List ℕ
  pub next : ℕ
  pub count : ℕ

abbrev pub walk : List ℕ → ℕ → ℕ → Walk
walk masks next count = record { masks = masks; next = next; count = count }

-- between two automata: the masks, and how many are stored
pub record Kept : Type 0 where
  pub masks : List ℕ
  pub count : ℕ

abbrev pub kept : List ℕ → ℕ → Kept
kept masks count = record { masks = masks; count = count }

-- with where each automaton's masks begin
pub record Gathering : Type 0 where
  pub on : Kept
  pub first : List ℕ

abbrev pub gathering : Kept → List ℕ → Gathering
gathering on first = record { on = on; first = first }

-- an edge's FROM, ACT and TO are the leg's numbers
unfoldable pub fits_at : (t : List ℕ) → Leg → (at : ℕ) → Bool
fits_at t leg at =
    (eqb (edge_from t at) leg.from && eqb (edge_action t at) leg.action) && eqb (edge_to t at) leg.to

-- the mask of the variables that an edge's update does not mention
unfoldable pub rest_at : (t : List ℕ) (at : ℕ) → ℕ
rest_at t at =
    rest_of all_variables (take (get_or t (update_place t at) 0) (drop (nodes_place t (update_place t at)) t))

-- what a step asks of automaton k's edge
unfoldable pub leg_of : (old new : List ℕ) (action k : ℕ) → Leg
leg_of old new action k = record { from = get_or old k 0; action = action; to = get_or new k 0 }

-- between the values before and after a step
module _ (t : List ℕ) (before after : List ℤ) where
  -- the edge at a place can be taken
  unfoldable pub takes_at : Leg → (at : ℕ) → Bool
  takes_at leg at = fits_at t leg at && evaluate t before after (nodes_place t (update_place t at))

  -- one edge: its mask is stored if the edge can be taken and there is room
  unfoldable pub edge_on : Leg → Walk → Walk
  edge_on leg w =
      elim (ltb w.count max_edges && takes_at leg w.next) [
        | true ↦
            walk (set w.masks w.count (rest_at t w.next))
            (after_predicate t (update_place t w.next)) (w.count + 1)
        | false ↦ walk w.masks (after_predicate t (update_place t w.next)) w.count
      ]

  unfoldable pub edges_from : Leg → (left : ℕ) → Walk → Walk
  edges_from leg zero w = w
  edges_from leg (suc n) w = edges_from leg n (edge_on leg w)

  -- the edges of an automaton whose number of edges stands at a place
  unfoldable pub automaton_on : Leg → (place : ℕ) → Kept → Kept
  automaton_on leg place g =
      let w = edges_from leg (get_or t place 0) (walk g.masks (first_edge t place) g.count) in
      kept w.masks w.count

  -- Automaton by automaton, each by its old location, the action and its new location.
  module _ (edges old new : List ℕ) (action : ℕ) where
    -- automaton k; where its masks end, those of the next begin
    unfoldable pub automaton_next : ℕ → Gathering → Gathering
    automaton_next k g =
        let w = automaton_on (leg_of old new action k) (get_or edges k 0) g.on in
        gathering w (set g.first (k + 1) w.count)

    unfoldable pub automata_from : (left k : ℕ) → Gathering → Gathering
    automata_from zero k g = g
    automata_from (suc n) k g = automata_from n (k + 1) (automaton_next k g)

    -- n automata
    unfoldable pub gather_from : (n : ℕ) (masks first : List ℕ) → Gathering
    gather_from n masks first = automata_from n 0 (gathering (kept masks 0) first)

  -- what stands in the two lists afterwards; the first automaton's masks begin at 0
  module _ (x : Layout) (old new : List ℕ) (action : ℕ) where
    unfoldable pub masks_after : (masks first : List ℕ) → List ℕ
    masks_after masks first = (gather_from x.edges old new action (automata_of x) masks (set first 0 0)).on.masks

    unfoldable pub first_after : (masks first : List ℕ) → List ℕ
    first_after masks first = (gather_from x.edges old new action (automata_of x) masks (set first 0 0)).first
