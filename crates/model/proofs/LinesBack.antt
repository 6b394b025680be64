-- Entries that follow what is due are the lines of the model that they are taken to.
use Prim.Native.Nat.{ℕ, zero, suc}
use mathlib.Core.Path.{◌≡◌, refl, sym, ◌∙◌, ap, subst}
use mathlib.Core.List.{List, [], ◌∷◌, ◌++◌, append_assoc, append-nil, map, flat_map}
use mathlib.Core.Option.{Option}
use lib.ListN.{length}
use Rattle.model.specs.Composition.{Tree}
use Rattle.model.specs.Lines.{Entry, Key, Reading, actions, actions_line, at_first, automata, automata_line, automaton_lines, compose, compose_line, due_at_first, edge, edge_line, edges, edges_line, format, format_line, init, init_line, inv, inv_line, key_of, lines, location_lines, locations, locations_line, repeat, sync, sync_line, noted, then_due, variable, variable_line, variable_lines, variables, variables_line}
use Rattle.model.specs.Model.{Automaton, Edge, Location, Model}
use Rattle.model.specs.Predicate.{Pred, Range}
use Rattle.model.proofs.LinesLaws.{Follows, noted_all, noted_append, noted_lines}

-- what an entry of a key says
abbrev Says : Entry → Key → Type 0
Says e format = (n : ℕ) × (e ≡ format_line n)
Says e actions = (n : ℕ) × (e ≡ actions_line n)
Says e variables = (n : ℕ) × (e ≡ variables_line n)
Says e variable = (x : Range) × (o : Option ℕ) × (e ≡ variable_line x o)
Says e automata = (n : ℕ) × (e ≡ automata_line n)
Says e sync = (list : List ℕ) × (e ≡ sync_line list)
Says e locations = (n : ℕ) × (e ≡ locations_line n)
Says e init = (p : Pred) × (e ≡ init_line p)
Says e inv = (p : Pred) × (e ≡ inv_line p)
Says e edges = (n : ℕ) × (e ≡ edges_line n)
Says e edge = (x : Edge) × (e ≡ edge_line x)
Says e compose = (c : Tree) × (e ≡ compose_line c)

says : (e : Entry) → Says e (key_of e)
unfolding key_of
says (format_line n) = (n, refl)
says (actions_line n) = (n, refl)
says (variables_line n) = (n, refl)
says (variable_line x o) = (x, o, refl)
says (automata_line n) = (n, refl)
says (sync_line list) = (list, refl)
says (locations_line n) = (n, refl)
says (init_line p) = (p, refl)
says (inv_line p) = (p, refl)
says (edges_line n) = (n, refl)
says (edge_line x) = (x, refl)
says (compose_line c) = (c, refl)

said : (e : Entry) (k : Key) → key_of e ≡ k → Says e k
said e k h = subst (λ (j : Key). Says e j) h (says e)

-- the entries es begin with the block xs, and the rest follows
record Block (r : Reading) (xs : List Entry) (ks : List Key) (es : List Entry) (m : Model) : Type 0 where
  rest : List Entry
  parted : es ≡ xs ++ rest
  follows : Follows rest (noted_all r xs) ks m

nil_block : (r : Reading) (ks : List Key) (es : List Entry) (m : Model) → Follows es r ks m → Block r [] ks es m
nil_block r ks es m h = record { rest = es; parted = refl; follows = h }

-- one entry, then a block
cons_block : (r : Reading) (x : Entry) (xs : List Entry) (ks : List Key) (e : Entry) (es : List Entry) (m : Model) → e ≡ x → Block (noted r x) xs ks es m → Block r (x ∷ xs) ks (e ∷ es) m
cons_block r x xs ks e es m h b = record { rest = b.rest; parted = ap (λ y. y ∷ es) h ∙ ap (λ l. x ∷ l) b.parted; follows = b.follows }

-- a block, then another
join_block : (r : Reading) (a b : List Entry) (js ks : List Key) (es : List Entry) (m : Model) (x : Block r a js es m) → Block (noted_all r a) b ks x.rest m → Block r (a ++ b) ks es m
join_block r a b js ks es m x y =
    record {
      rest = y.rest;
      parted = x.parted ∙ ap (λ l. a ++ l) y.parted ∙ sym (append_assoc a b y.rest);
      follows = rw (noted_append r a b) y.follows;
    }

-- what follows an entry, once it is known
after : (e x : Entry) (es : List Entry) (r : Reading) (ks : List Key) (m : Model) → e ≡ x → Follows es (noted r e) (then_due r.model.format e ++ ks) m → Follows es (noted r x) (then_due r.model.format x ++ ks) m
after e x es r ks m h f = subst (λ (y : Entry). Follows es (noted r y) (then_due r.model.format y ++ ks) m) h f

-- what a count makes due
-- variables with their owners, as many of the one as of the other
Declared : (n : ℕ) → Reading → List Key → List Entry → Model → Type 0
Declared n r ks es m = (xs : List Range) × (os : List (Option ℕ)) × (length xs ≡ n) × (length os ≡ length xs) × Block r (variable_lines xs os) ks es m

variables_block : (n : ℕ) (r : Reading) (ks : List Key) (es : List Entry) (m : Model) → Follows es r (repeat n (variable ∷ []) ++ ks) m → Declared n r ks es m
unfolding repeat then_due variable_lines Declared
variables_block zero r ks es m h = ([], [], refl, refl, nil_block r ks es m h)
variables_block (suc n) r ks [] m h = absurd h
variables_block (suc n) r ks (e ∷ es) m h =
    let q = said e variable h.0 in
    let b = variables_block n (noted r (variable_line q.0 q.1)) ks es m (after e (variable_line q.0 q.1) es r (repeat n (variable ∷ []) ++ ks) m q.2 h.1) in
    (q.0 ∷ b.0, q.1 ∷ b.1, ap suc b.2, ap suc b.3, cons_block r (variable_line q.0 q.1) (variable_lines b.0 b.1) ks e es m q.2 b.4)

edges_block : (n : ℕ) (r : Reading) (ks : List Key) (es : List Entry) (m : Model) → Follows es r (repeat n (edge ∷ []) ++ ks) m → (xs : List Edge) × (length xs ≡ n) × Block r (map edge_line xs) ks es m
unfolding repeat then_due
edges_block zero r ks es m h = ([], refl, nil_block r ks es m h)
edges_block (suc n) r ks [] m h = absurd h
edges_block (suc n) r ks (e ∷ es) m h =
    let q = said e edge h.0 in
    let b = edges_block n (noted r (edge_line q.0)) ks es m (after e (edge_line q.0) es r (repeat n (edge ∷ []) ++ ks) m q.1 h.1) in
    (q.0 ∷ b.0, ap suc b.1, cons_block r (edge_line q.0) (map edge_line b.0) ks e es m q.1 b.2)

locations_block : (n : ℕ) (r : Reading) (ks : List Key) (es : List Entry) (m : Model) → Follows es r (repeat n (init ∷ inv ∷ []) ++ ks) m → (xs : List Location) × (length xs ≡ n) × Block r (flat_map location_lines xs) ks es m
unfolding repeat then_due flat_map location_lines
locations_block zero r ks es m h = ([], refl, nil_block r ks es m h)
locations_block (suc n) r ks [] m h = absurd h
locations_block (suc n) r ks (e ∷ []) m h =
    let q = said e init h.0 in
    absurd (after e (init_line q.0) [] r (inv ∷ (repeat n (init ∷ inv ∷ []) ++ ks)) m q.1 h.1)
locations_block (suc n) r ks (e ∷ f ∷ es) m h =
    let q = said e init h.0 in
    let g = after e (init_line q.0) (f ∷ es) r (inv ∷ (repeat n (init ∷ inv ∷ []) ++ ks)) m q.1 h.1 in
    let t = said f inv g.0 in
    let r₁ = noted r (init_line q.0) in
    let b = locations_block n (noted r₁ (inv_line t.0)) ks es m (after f (inv_line t.0) es r₁ (repeat n (init ∷ inv ∷ []) ++ ks) m t.1 g.1) in (
      record { init = q.0; inv = t.0 } ∷ b.0,
      ap suc b.1,
      cons_block r (init_line q.0) (inv_line t.0 ∷ flat_map location_lines b.0) ks e (f ∷ es) m q.1
          (cons_block r₁ (inv_line t.0) (flat_map location_lines b.0) ks f es m t.1 b.2),
    )

-- a count and what it counts
edges_part : (r : Reading) (ks : List Key) (es : List Entry) (m : Model) → Follows es r (edges ∷ ks) m → (xs : List Edge) × Block r (edges_line (length xs) ∷ map edge_line xs) ks es m
unfolding then_due
edges_part r ks [] m h = absurd h
edges_part r ks (e ∷ es) m h =
    let q = said e edges h.0 in
    let b = edges_block q.0 (noted r (edges_line q.0)) ks es m (after e (edges_line q.0) es r ks m q.1 h.1) in
    (b.0, rw b.1 (cons_block r (edges_line q.0) (map edge_line b.0) ks e es m q.1 b.2))

locations_part : (r : Reading) (ks : List Key) (es : List Entry) (m : Model) → Follows es r (locations ∷ ks) m → (xs : List Location) × Block r (locations_line (length xs) ∷ flat_map location_lines xs) (edges ∷ ks) es m
unfolding then_due
locations_part r ks [] m h = absurd h
locations_part r ks (e ∷ es) m h =
    let q = said e locations h.0 in
    let f = after e (locations_line q.0) es r ks m q.1 h.1 in
    let g : Follows es (noted r (locations_line q.0)) (repeat q.0 (init ∷ inv ∷ []) ++ (edges ∷ ks)) m = rw append_assoc at f in
    let b = locations_block q.0 (noted r (locations_line q.0)) (edges ∷ ks) es m g in
    (b.0, rw b.1 (cons_block r (locations_line q.0) (flat_map location_lines b.0) (edges ∷ ks) e es m q.1 b.2))

automata_block : (n : ℕ) (r : Reading) (ks : List Key) (es : List Entry) (m : Model) → Follows es r (repeat n (sync ∷ locations ∷ []) ++ ks) m → (xs : List Automaton) × (length xs ≡ n) × Block r (flat_map automaton_lines xs) ks es m
unfolding repeat then_due flat_map automaton_lines
automata_block zero r ks es m h = ([], refl, nil_block r ks es m h)
automata_block (suc n) r ks [] m h = absurd h
automata_block (suc n) r ks (e ∷ es) m h =
    let q = said e sync h.0 in
    let js = repeat n (sync ∷ locations ∷ []) ++ ks in
    let r₁ = noted r (sync_line q.0) in
    let a = locations_part r₁ js es m (after e (sync_line q.0) es r (locations ∷ js) m q.1 h.1) in
    let la = locations_line (length a.0) ∷ flat_map location_lines a.0 in
    let b = edges_part (noted_all r₁ la) js a.1.rest m a.1.follows in
    let lb = edges_line (length b.0) ∷ map edge_line b.0 in
    let x : Automaton = record { sync = q.0; locations = a.0; edges = b.0 } in
    let w : Block r (automaton_lines x) js (e ∷ es) m = cons_block r (sync_line q.0) (la ++ lb) js e es m q.1 (join_block r₁ la lb (edges ∷ js) js es m a.1 b.1) in
    let o = automata_block n (noted_all r (automaton_lines x)) ks w.rest m w.follows in
    (x ∷ o.0, ap suc o.1, join_block r (automaton_lines x) (flat_map automaton_lines o.0) js ks (e ∷ es) m w o.2)

automata_part : (r : Reading) (ks : List Key) (es : List Entry) (m : Model) → Follows es r (automata ∷ ks) m → (xs : List Automaton) × Block r (automata_line (length xs) ∷ flat_map automaton_lines xs) ks es m
unfolding then_due
automata_part r ks [] m h = absurd h
automata_part r ks (e ∷ es) m h =
    let q = said e automata h.0 in
    let b = automata_block q.0 (noted r (automata_line q.0)) ks es m (after e (automata_line q.0) es r ks m q.1 h.1) in
    (b.0, rw b.1 (cons_block r (automata_line q.0) (flat_map automaton_lines b.0) ks e es m q.1 b.2))

variables_part : (r : Reading) (ks : List Key) (es : List Entry) (m : Model) → Follows es r (variables ∷ ks) m → (xs : List Range) × (os : List (Option ℕ)) × (length os ≡ length xs) × Block r (variables_line (length xs) ∷ variable_lines xs os) ks es m
unfolding then_due Declared
variables_part r ks [] m h = absurd h
variables_part r ks (e ∷ es) m h =
    let q = said e variables h.0 in
    let b = variables_block q.0 (noted r (variables_line q.0)) ks es m (after e (variables_line q.0) es r ks m q.1 h.1) in
    (b.0, b.1, b.3, rw b.2 (cons_block r (variables_line q.0) (variable_lines b.0 b.1) ks e es m q.1 b.4))

tree_part : (r : Reading) (es : List Entry) (m : Model) → Follows es r (compose ∷ []) m → (c : Tree) × Block r (compose_line c ∷ []) [] es m
unfolding then_due
tree_part r [] m h = absurd h
tree_part r (e ∷ es) m h =
    let q = said e compose h.0 in
    let r₁ = noted r (compose_line q.0) in
    (q.0, cons_block r (compose_line q.0) [] [] e es m q.1 (nil_block r₁ [] es m (after e (compose_line q.0) es r [] m q.1 h.1)))

rest_part : (r : Reading) (es : List Entry) (m : Model) → Follows es r (variables ∷ automata ∷ compose ∷ []) m
    → (vs : List Range) × (os : List (Option ℕ)) × (xs : List Automaton) × (c : Tree) × (length os ≡ length vs)
    × Block r ((variables_line (length vs) ∷ variable_lines vs os) ++ ((automata_line (length xs) ∷ flat_map automaton_lines xs) ++ (compose_line c ∷ []))) [] es m
rest_part r es m h =
    let v = variables_part r (automata ∷ compose ∷ []) es m h in
    let lv = variables_line (length v.0) ∷ variable_lines v.0 v.1 in
    let a = automata_part (noted_all r lv) (compose ∷ []) v.3.rest m v.3.follows in
    let la = automata_line (length a.0) ∷ flat_map automaton_lines a.0 in
    let t = tree_part (noted_all (noted_all r lv) la) a.1.rest m a.1.follows in
    let lt = compose_line t.0 ∷ [] in
    let j = join_block (noted_all r lv) la lt (compose ∷ []) [] v.3.rest m a.1 t.1 in
    (v.0, v.1, a.0, t.0, v.2, join_block r lv (la ++ lt) (automata ∷ compose ∷ []) [] es m v.3 j)

whole : (es : List Entry) (m : Model) → Follows es at_first due_at_first m → (x : Model) × (length x.owners ≡ length x.variables) × Block at_first (lines x) [] es m
unfolding then_due due_at_first lines
whole [] m h = absurd h
whole (e ∷ []) m h =
    let q = said e format h.0 in
    absurd (after e (format_line q.0) [] at_first (actions ∷ variables ∷ automata ∷ compose ∷ []) m q.1 h.1)
whole (e ∷ f ∷ es) m h =
    let q = said e format h.0 in
    let g = after e (format_line q.0) (f ∷ es) at_first (actions ∷ variables ∷ automata ∷ compose ∷ []) m q.1 h.1 in
    let r₁ = noted at_first (format_line q.0) in
    let t = said f actions g.0 in
    let r₂ = noted r₁ (actions_line t.0) in
    let o = rest_part r₂ es m (after f (actions_line t.0) es r₁ (variables ∷ automata ∷ compose ∷ []) m t.1 g.1) in
    let lo = (variables_line (length o.0) ∷ variable_lines o.0 o.1) ++ ((automata_line (length o.2) ∷ flat_map automaton_lines o.2) ++ (compose_line o.3 ∷ [])) in (
      record { format = q.0; actions = t.0; variables = o.0; owners = o.1; automata = o.2; tree = o.3 },
      o.4,
      cons_block at_first (format_line q.0) (actions_line t.0 ∷ lo) [] e (f ∷ es) m q.1 (cons_block r₁ (actions_line t.0) lo [] f es m t.1 o.5),
    )

-- entries that follow what is due at first are the lines of their model, whose variables have as many owners
pub lines_follow : (es : List Entry) (m : Model) → Follows es at_first due_at_first m → (es ≡ lines m) × (length m.owners ≡ length m.variables)
lines_follow es m h = let w = whole es m h in go w.0 w.1 w.2.rest w.2.parted w.2.follows
  where
    go : (x : Model) → length x.owners ≡ length x.variables → (rest : List Entry) → es ≡ lines x ++ rest → Follows rest (noted_all at_first (lines x)) [] m → (es ≡ lines m) × (length m.owners ≡ length m.variables)
    go x n [] e f = let same = sym (noted_lines x n) ∙ f in (e ∙ append-nil (lines x) ∙ ap lines same, subst (λ (y : Model). length y.owners ≡ length y.variables) same n)
    go x n (d ∷ rest) e f = absurd f
