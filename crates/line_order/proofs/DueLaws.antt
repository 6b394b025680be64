-- What is due, as the code keeps it, follows the definition of the lines that are due.
use Prim.Native.Nat.{ℕ, zero, suc, ◌-◌}
use mathlib.Core.Path.{◌≡◌, refl, sym, ◌∙◌, ap}
use mathlib.Core.List.{List, [], ◌∷◌, ◌++◌, append_assoc}
use native.Mathlib.Numerals.{sub-one}
use Rattle.model.specs.Lines.{Key as LineKey, format, actions, variables, variable, automata, sync, locations, init, inv, edges, edge, compose, repeat, Entry, format_line, actions_line, variables_line, variable_line, automata_line, sync_line, locations_line, init_line, inv_line, edges_line, edge_line, compose_line, key_of, due_at_first, then_due, Reading, at_first, with_model, with_automata, with_pred, with_nodes, noted}
use Rattle.line_order.specs.declared.Key.{Key}
use Rattle.line_order.specs.declared.Key.TheVariants.{Format, Actions, Variables, Variable, Automata, Sync, Locations, Init, Inv, Edges, Edge, Compose, End}
use Rattle.line_order.specs.declared.Due.{Due}
use Rattle.line_order.specs.Due.{if_none, due_first, due_variables, due_automata, due_locations, due_edges, due_after_key, due_after, key_named, automata_from, locations_from, later_keys, later_due, keys_due, code_of, number_of}

pub due_first_lem : keys_due due_first ≡ due_at_first
unfolding keys_due key_named later_due later_keys due_at_first
due_first_lem = refl

pub format_first : due_first.format ≡ at_first.model.format
unfolding at_first
format_first = refl

either_format : (n : ℕ) (d e : Due) {f : ℕ} → d.format ≡ f → e.format ≡ f → (if_none n d e).format ≡ f
unfolding if_none
either_format zero d e p q = p
either_format (suc n) d e p q = q

-- what so many lines or automata stand for
keys_variables : (f n : ℕ) → keys_due (due_variables f n) ≡ repeat n (variable ∷ []) ++ automata ∷ compose ∷ []
unfolding keys_due key_named later_due later_keys due_variables if_none repeat
keys_variables f zero = refl
keys_variables f (suc n) = rw (sub-one (suc n))

keys_automata : (f n : ℕ) → keys_due (due_automata f n) ≡ automata_from n
unfolding keys_due key_named later_due later_keys due_automata if_none repeat automata_from
keys_automata f zero = refl
keys_automata f (suc n) = rw (sub-one (suc n))

keys_locations : (f a n : ℕ) → keys_due (due_locations f a n) ≡ locations_from a n
unfolding keys_due key_named later_due later_keys due_locations if_none repeat locations_from
keys_locations f a zero = refl
keys_locations f a (suc n) = rw (sub-one (suc n))

keys_edges : (f a n : ℕ) → keys_due (due_edges f a n) ≡ repeat n (edge ∷ []) ++ automata_from (a - 1)
unfolding keys_due key_named later_due later_keys due_edges if_none repeat
keys_edges f a zero = keys_automata f (a - 1)
keys_edges f a (suc n) = rw (sub-one (suc n))

-- The first key that is due is the one that the code names; at the end there is none.
abbrev code_first : List LineKey → Key
code_first [] = End
code_first (l ∷ ls) = code_of l

abbrev after_first : List LineKey → List LineKey
after_first [] = []
after_first (l ∷ ls) = ls

first_named : (k : Key) (d : Due) → code_first (key_named k ++ later_keys k d) ≡ k
unfolding key_named later_keys code_of
first_named Format d = refl
first_named Actions d = refl
first_named Variables d = refl
first_named Variable d = refl
first_named Automata d = refl
first_named Sync d = refl
first_named Locations d = refl
first_named Init d = refl
first_named Inv d = refl
first_named Edges d = refl
first_named Edge d = refl
first_named Compose d = refl
first_named End d = refl

rest_named : (k : Key) (d : Due) → after_first (key_named k ++ later_keys k d) ≡ later_keys k d
unfolding key_named later_keys
rest_named Format d = refl
rest_named Actions d = refl
rest_named Variables d = refl
rest_named Variable d = refl
rest_named Automata d = refl
rest_named Sync d = refl
rest_named Locations d = refl
rest_named Init d = refl
rest_named Inv d = refl
rest_named Edges d = refl
rest_named Edge d = refl
rest_named Compose d = refl
rest_named End d = refl

named_code : (l : LineKey) → key_named (code_of l) ≡ l ∷ []
unfolding key_named code_of
named_code format = refl
named_code actions = refl
named_code variables = refl
named_code variable = refl
named_code automata = refl
named_code sync = refl
named_code locations = refl
named_code init = refl
named_code inv = refl
named_code edges = refl
named_code edge = refl
named_code compose = refl

-- it is code_of l, exactly where the first key is l; and End, exactly where no key is due
pub due_key : (d : Due) (l : LineKey) (ls : List LineKey) → keys_due d ≡ l ∷ ls → d.key ≡ code_of l
unfolding keys_due later_due
due_key d l ls h = sym (first_named d.key d) ∙ ap code_first h

pub due_later : (d : Due) (l : LineKey) (ls : List LineKey) → keys_due d ≡ l ∷ ls → later_due d ≡ ls
unfolding keys_due later_due
due_later d l ls h = sym (rest_named d.key d) ∙ ap after_first h

pub due_line : (d : Due) (l : LineKey) → d.key ≡ code_of l → keys_due d ≡ l ∷ later_due d
unfolding keys_due
due_line d l h = rw (h, named_code l)

pub due_end : (d : Due) → keys_due d ≡ [] → d.key ≡ End
unfolding keys_due later_due
due_end d h = sym (first_named d.key d) ∙ ap code_first h

pub end_due : (d : Due) → d.key ≡ End → keys_due d ≡ []
unfolding keys_due key_named later_due later_keys
end_due d h = rw h

-- After a line, what it puts in front is due, and then the later keys.
after_entry : (e : Entry) (d : Due) → keys_due (due_after_key (code_of (key_of e)) d (number_of e)) ≡ then_due d.format e ++ later_keys (code_of (key_of e)) d
unfolding keys_due key_named later_due later_keys due_after_key code_of key_of number_of then_due automata_from locations_from
after_entry (format_line n) d = refl
after_entry (actions_line n) d = refl
after_entry (variables_line n) d = keys_variables d.format n
after_entry (variable_line x o) d = keys_variables d.format (d.variables - 1)
after_entry (automata_line n) d = keys_automata d.format n
after_entry (sync_line list) d = refl
after_entry (locations_line n) d = keys_locations d.format d.automata n ∙ sym (append_assoc (repeat n (init ∷ inv ∷ [])) (edges ∷ []) (automata_from (d.automata - 1)))
after_entry (init_line p) d = refl
after_entry (inv_line p) d = keys_locations d.format d.automata (d.locations - 1)
after_entry (edges_line n) d = keys_edges d.format d.automata n
after_entry (edge_line e) d = keys_edges d.format d.automata (d.edges - 1)
after_entry (compose_line c) d = refl

module _ (d : Due) (r : Reading) (same : d.format ≡ r.model.format) where
  pub due_after_lem : (e : Entry) (ks : List LineKey) → keys_due d ≡ key_of e ∷ ks → keys_due (due_after d (number_of e)) ≡ then_due r.model.format e ++ ks
  unfolding due_after later_due
  due_after_lem e ks h =
      let k = due_key d (key_of e) ks h in
      let l = due_later d (key_of e) ks h in
      ap (λ (q : Key). keys_due (due_after_key q d (number_of e))) k ∙
      after_entry e d ∙
      ap (λ (ls : List LineKey). then_due d.format e ++ ls) (ap (λ (q : Key). later_keys q d) (sym k) ∙ l) ∙
      ap (λ (f : ℕ). then_due f e ++ ks) same

  -- the format is kept; at its own line it is the line's number
  format_next : (e : Entry) → (due_after_key (code_of (key_of e)) d (number_of e)).format ≡ (noted r e).model.format
  unfolding due_after_key due_variables due_automata due_locations due_edges code_of key_of number_of noted with_model with_automata with_pred with_nodes
  format_next (format_line n) = refl
  format_next (actions_line n) = same
  format_next (variables_line n) = either_format n _ _ same same
  format_next (variable_line x o) = either_format (d.variables - 1) _ _ same same
  format_next (automata_line n) = either_format n _ _ same same
  format_next (sync_line list) = same
  format_next (locations_line n) = either_format n _ _ same same
  format_next (init_line p) = same
  format_next (inv_line p) = either_format (d.locations - 1) _ _ same same
  format_next (edges_line n) = either_format n _ _ (either_format (d.automata - 1) _ _ same same) same
  format_next (edge_line e) = either_format (d.edges - 1) _ _ (either_format (d.automata - 1) _ _ same same) same
  format_next (compose_line c) = same

  pub format_after : (e : Entry) (ks : List LineKey) → keys_due d ≡ key_of e ∷ ks → (due_after d (number_of e)).format ≡ (noted r e).model.format
  unfolding due_after
  format_after e ks h = ap (λ (q : Key). (due_after_key q d (number_of e)).format) (due_key d (key_of e) ks h) ∙ format_next e
