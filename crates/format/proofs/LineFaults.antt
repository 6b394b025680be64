-- What the line of an entry breaks by itself, and what is left to the line behind it: the rows of a variable's owner, and row 51
-- for what an edge writes.
use Prim.Native.Nat.{ℕ}
use mathlib.Core.Path.{◌≡◌, refl, sym, ◌∙◌, ap}
use mathlib.Core.Bool.{false, not}
use mathlib.Core.List.{List}
use mathlib.Core.Option.{Option, none, some}
use lib.Dec.{leb}
use Rattle.model.specs.Basic.{lacks}
use Rattle.model.specs.Bounds.{first_format, owners_format}
use Rattle.model.specs.Limits.{broken, content_fault, fault_of, is_astray, is_early, is_foreign, location_count, location_fault, numbers_in_range, owner_in_range, passes_edges, pred_fault, starts_fault, variable_count, writes_foreign}
use Rattle.model.specs.Lines.{Entry, Reading, actions_line, add_edge, automata_line, compose_line, edge_line, edges_line, format_line, init_line, inv_line, key_of, locations_line, noted, on_last, sync_line, variable_line, variables_line, with_automata, with_model, with_pred}
use Rattle.model.specs.Model.{Edge}
use Rattle.model.specs.Predicate.{Range, names_outside, words, written}
use Rattle.model.proofs.LinesLaws.{length_on_last}
use Rattle.model.proofs.Decode.{none_lacks, unbroken}
use Rattle.model.proofs.LimitLines.{Said, variable_line_lem}
use Rattle.model.proofs.Parsing.{none_some}
use Rattle.model.proofs.Written.{written_ascends, written_inside, written_ranged}
use Rattle.format.specs.Rows.{fault, row10, row11, row12, row14, row15, row5, row50, row7}
use Rattle.format.specs.Spelling.{behind, nothing, owner_said}
use Rattle.format.specs.Writes.{writes_fault}
use Rattle.format.proofs.FaultLaws.{actions_fault, automata_fault, edge_fault, edges_fault, format_fault, init_fault, inv_fault, locations_fault, sync_fault_lem, variable_fault, variables_fault}
use Rattle.format.proofs.LineLaws.{line_of, writes_line}
use Rattle.format.proofs.TreeFaults.{compose_fault_lem}
use Rattle.format.proofs.WritesLaws.{writes_fault_lem}

-- before format 3 an automaton may write every variable
pub early_own : (r : Reading) (list : List ℕ) → leb owners_format r.model.format ≡ false → is_foreign r list ≡ false
unfolding is_foreign writes_foreign
early_own r list h = rw h

-- what has been read, as if its format were the first, in which nothing stands behind a line
abbrev pub alone : Reading → Reading
alone r = noted r (format_line first_format)

-- the line of an entry without an owner breaks the rows that the entry would break in the first format
pub fault_law : (r : Reading) (e : Entry) → owner_said e ≡ none → fault r (key_of e) (line_of e) ≡ fault_of (alone r) e
unfolding key_of owner_said fault row5 row7 row10 row11 row12 row14 row15 row50 noted with_model variable_count is_astray location_count passes_edges
fault_law r (format_line n) u = format_fault (alone r) n
fault_law r (actions_line n) u = actions_fault (alone r) n
fault_law r (variables_line n) u = variables_fault (alone r) n
fault_law r (variable_line x none) u = variable_fault (alone r) x
fault_law r (variable_line x (some k)) u = absurd (none_some k (sym u))
fault_law r (automata_line n) u = automata_fault (alone r) n
fault_law r (sync_line l) u = sync_fault_lem (alone r) l
fault_law r (locations_line n) u = locations_fault (alone r) n
fault_law r (init_line p) u = init_fault (alone r) p
fault_law r (inv_line p) u = inv_fault (alone r) p
fault_law r (edges_line n) u = edges_fault (alone r) n
fault_law r (edge_line e) u = edge_fault (alone r) e (early_own (alone r) (written e.update) refl)
fault_law r (compose_line c) u = compose_fault_lem (alone r) c

-- the entries: a variable, an edge, and one that has nothing behind it in any format
pub data Shape : Entry → Type 0 where
  a_variable : (x : Range) (o : Option ℕ) → Shape (variable_line x o)
  an_edge : (x : Edge) → Shape (edge_line x)
  lone : {e : Entry} → owner_said e ≡ none → ((f : ℕ) → behind f e ≡ nothing) → ((r : Reading) → fault_of (alone r) e ≡ fault_of r e) → Shape e

pub shape_of : (e : Entry) → Shape e
unfolding owner_said behind fault_of content_fault location_fault pred_fault starts_fault noted with_model variable_count passes_edges
shape_of (format_line n) = lone refl (λ f. refl) (λ r. refl)
shape_of (actions_line n) = lone refl (λ f. refl) (λ r. refl)
shape_of (variables_line n) = lone refl (λ f. refl) (λ r. refl)
shape_of (variable_line x o) = a_variable x o
shape_of (automata_line n) = lone refl (λ f. refl) (λ r. refl)
shape_of (sync_line l) = lone refl (λ f. refl) (λ r. refl)
shape_of (locations_line n) = lone refl (λ f. refl) (λ r. refl)
shape_of (init_line p) = lone refl (λ f. refl) (λ r. refl)
shape_of (inv_line p) = lone refl (λ f. refl) (λ r. refl)
shape_of (edges_line n) = lone refl (λ f. refl) (λ r. refl)
shape_of (edge_line x) = an_edge x
shape_of (compose_line c) = lone refl (λ f. refl) (λ r. refl)

-- a variable breaks no row exactly if it breaks none without its owner, and the owner can be said
module _ (r : Reading) (x : Range) (o : Option ℕ) where
  pub variable_parts : fault_of r (variable_line x o) ≡ none → (fault_of (alone r) (variable_line x none) ≡ none) × Said r.model.format o
  unfolding owner_in_range is_early lacks
  variable_parts h =
      let v = (variable_line_lem r x o).0 (ap lacks h) in
      (none_lacks _ ((variable_line_lem (alone r) x none).1 (v.0, (refl, refl))), v.1)

  pub variable_whole : fault_of (alone r) (variable_line x none) ≡ none → Said r.model.format o → fault_of r (variable_line x o) ≡ none
  unfolding lacks
  variable_whole h s = none_lacks _ ((variable_line_lem r x o).1 (((variable_line_lem (alone r) x none).0 (ap lacks h)).0, s))

-- an edge breaks none exactly if it breaks none in the first format, and its automaton owns what it writes (row 51)
module _ (r : Reading) (x : Edge) where
  pub edge_own : fault_of r (edge_line x) ≡ none → is_foreign r (written x.update) ≡ false
  unfolding fault_of content_fault pred_fault
  edge_own h =
      let b7 = unbroken 7 _ _ (unbroken 3 _ _ h).1 in
      let b11 = unbroken 11 _ _ (unbroken 10 _ _ (unbroken 9 _ _ b7.1).1).1 in
      (unbroken 51 _ none (unbroken 12 _ _ b11.1).1).0

  pub edge_alone : is_foreign r (written x.update) ≡ false → fault_of r (edge_line x) ≡ fault_of (alone r) (edge_line x)
  unfolding fault_of content_fault pred_fault broken is_foreign writes_foreign noted with_model variable_count is_astray location_count
  edge_alone own = rw own

  -- the edge itself changes nothing about that
  pub edge_noted : (list : List ℕ) → is_foreign (noted r (edge_line x)) list ≡ is_foreign r list
  unfolding is_foreign noted with_automata with_model with_pred on_last
  edge_noted list = ap (λ n. writes_foreign r.model.format r.model.owners n list) (length_on_last (add_edge x) r.model.automata)

  -- the list behind it breaks no row
  pub edge_clear : fault_of r (edge_line x) ≡ none → writes_fault (noted r (edge_line x)) (written x.update) (writes_line (written x.update)) ≡ none
  unfolding fault_of content_fault noted with_automata with_model with_pred variable_count
  edge_clear h =
      let b = unbroken 3 (not (numbers_in_range (edge_line x))) _ h in
      let inside = (unbroken 7 (names_outside (variable_count r) (words x.update)) _ b.1).0 in
      writes_fault_lem (noted r (edge_line x)) (written x.update) (written_ascends x.update) (written_ranged x.update) (written_inside (variable_count r) x.update inside) (edge_noted (written x.update) ∙ edge_own h)
