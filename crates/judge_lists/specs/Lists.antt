-- The lists of a run: their lengths, and memory that is lent.
use Rattle.std.specs.Prelude.{Bool, true, false, ◌&&◌, List, ◌++◌, ℕ, ◌*◌, length, drop, eqb, leb}
use Rattle.table_places.specs.declared.layout.Layout.{Layout}
use Rattle.table_places.specs.Layout.{automata_of, variables_of}

-- the proposals' lists: so many locations and values for `count` actions
unfoldable pub lists_fit : Layout → (count locations values : ℕ) → Bool
lists_fit x count locations values = eqb locations (x.automata * count) && eqb values (x.variables * count)

-- the places for the state at the end
unfoldable pub end_fits : Layout → (locations values : ℕ) → Bool
end_fits x locations values = leb (automata_of x) locations && leb (variables_of x) values

-- In lent memory what is given stands at the front, and the rest is as it was.
unfoldable pub in_front : {A : Type 0} → (new old : List A) → List A
in_front new old = new ++ drop (length new) old

-- where there is room for it; else all is as it was
unfoldable pub placed : {A : Type 0} → (new old : List A) → List A
placed new old = elim (leb (length new) (length old)) [ true ↦ in_front new old | false ↦ old ]
