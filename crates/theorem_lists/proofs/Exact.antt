-- In an accepted text of a format with lists the list behind an edge has exactly what the edge mentions.
use Prim.Native.Nat.{ℕ, ◌+◌, ◌-◌, ◌≤◌}
use mathlib.Core.Path.{◌≡◌, refl, sym, ap, ◌∙◌}
use mathlib.Core.Bool.{Bool, true, false, ◌&&◌, ◌||◌, and-false}
use mathlib.Core.List.{[], ◌∷◌, ◌++◌, Memᴰ}
use native.Mathlib.Omega.{arith}
use borrow.Author.Tests.{leb-true, leb-false, le-leb}
use lib.Dec.{leb}
use lib.ListN.{length}
use Rattle.model.specs.Basic.{exists, member, count_up}
use Rattle.model.specs.Bounds.{max_variables, writes_format}
use Rattle.model.specs.Predicate.{words, mentions, written, names_outside}
use Rattle.model.specs.Model.{Edge, Automaton, Model}
use Rattle.model.specs.Lines.{edge_line}
use Rattle.model.specs.Lawful.{Lawful}
use Rattle.model.specs.Rules.{Taker, mentioned}
use Rattle.model.specs.Moves.{alone}
use Rattle.model.specs.Linear.{pointer}
use Rattle.model.proofs.LimitsLaws.{members, no_members, lawful_is}
use Rattle.model.proofs.Lists.{member_keep, member_count}
use Rattle.model.proofs.Pointers.{takers_quiet}
use Rattle.model.proofs.Tests.{or_none_left}
use Rattle.model.proofs.Written.{written_ascends}
use Rattle.format.specs.Bytes.{Bytes, LF}
use Rattle.format.specs.Spelling.{writes_key, text_of_list, line_text, behind, behind_text, entry_text, text_of}
use Rattle.format.specs.Reader.{accepted, read_answer}
use Rattle.format.proofs.Given.{reader_exact}
use Rattle.theorem_lists.specs.Lists.{ListsExact}

list_behind : (f : ℕ) → writes_format ≤ f → (e : Edge) → entry_text f (edge_line e) ≡ line_text (edge_line e) ++ (writes_key ++ (text_of_list (written e.update) ++ LF ∷ []))
unfolding entry_text behind behind_text
list_behind f l e = rw (le-leb writes_format f l, behind)

-- an edge of the sheet
module _ (m : Model) (lawful : Lawful m) (x : Automaton) (i : Memᴰ x m.automata) (e : Edge) (j : Memᴰ e x.edges) (k : ℕ) where
  -- it mentions no variable that the sheet lacks (row 7), and so none past the last that a list can have
  none_past : max_variables ≤ k → mentions k e.update ≡ false
  unfolding mentioned exists pointer
  none_past l =
      let few = lawful.few_variables in
      let place : length m.variables + (k - length m.variables) ≡ k = omega arith in
      let named = ((lawful.automata x i).edges e j).update.named in
      let inside : Taker → Type 0 = λ y. names_outside (length m.variables) (words y.edge.update) ≡ false in
      let quiet = takers_quiet m (k - length m.variables) (alone 0 e) (members inside (record { automaton = 0; edge = e }) [] named (no_members inside)) in
      or_none_left (mentions k e.update) false (ap (λ n. mentions n e.update || false) (sym place) ∙ quiet)

  by_place : (b : Bool) → leb max_variables k ≡ b → member k (count_up 0 max_variables) && mentions k e.update ≡ mentions k e.update
  by_place true h = rw (none_past (leb-true max_variables k h), and-false)
  by_place false h = rw (member_count k 0 max_variables (omega arith) (omega (arith, leb-false max_variables k h)))

  list_exact : member k (written e.update) ≡ mentions k e.update
  unfolding written
  list_exact = member_keep (λ n. mentions n e.update) k (count_up 0 max_variables) ∙ by_place (leb max_variables k) refl

pub lists_exact : (text : Bytes) (table : ℕ) (m : Model) → read_answer text table ≡ accepted m → writes_format ≤ m.format → ListsExact text m
unfolding text_of
lists_exact text table m reads listed =
    let r = (reader_exact text table m).0 reads in
    record {
      spelled = r.2;
      behind = list_behind m.format listed;
      rises = λ e. written_ascends e.update;
      exact = list_exact m ((lawful_is m).0 r.1);
    }
