-- The keys of lines, and the end.
use mathlib.Core.Path.{◌≡◌, refl}
use mathlib.Core.Bool.{false}
use mathlib.Core.Logic.{◌⊎◌, inl, inr}
use Rattle.model.specs.Lines.{Key as LineKey, format, actions, variables, variable, automata, sync, locations, init, inv, edges, edge, compose}
use Rattle.line_order.specs.declared.Key.{Key}
use Rattle.line_order.specs.declared.Key.TheVariants.{Format, Actions, Variables, Variable, Automata, Sync, Locations, Init, Inv, Edges, Edge, Compose, End}
use Rattle.line_order.specs.Due.{is_end, code_of}

-- a key is the end, or a line's
pub named : (k : Key) → (k ≡ End) ⊎ ((l : LineKey) × (k ≡ code_of l))
unfolding code_of
named Format = inr (format, refl)
named Actions = inr (actions, refl)
named Variables = inr (variables, refl)
named Variable = inr (variable, refl)
named Automata = inr (automata, refl)
named Sync = inr (sync, refl)
named Locations = inr (locations, refl)
named Init = inr (init, refl)
named Inv = inr (inv, refl)
named Edges = inr (edges, refl)
named Edge = inr (edge, refl)
named Compose = inr (compose, refl)
named End = inl refl

pub no_end : (l : LineKey) → is_end (code_of l) ≡ false
unfolding is_end code_of
no_end format = refl
no_end actions = refl
no_end variables = refl
no_end variable = refl
no_end automata = refl
no_end sync = refl
no_end locations = refl
no_end init = refl
no_end inv = refl
no_end edges = refl
no_end edge = refl
no_end compose = refl
