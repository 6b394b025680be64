-- A sheet of a format without owners in another such format: the limits hold of it too, and the judges answer alike.
-- Only owners ask for the format.
use Prim.Native.Nat.{ℕ, ◌≤◌, ◌<◌}
use mathlib.Core.Path.{◌≡◌, refl, sym, ap, ◌∙◌}
use mathlib.Core.Bool.{true}
use mathlib.Core.List.{List, [], append-nil, Memᴰ}
use mathlib.Core.Option.{Option, some}
use native.Mathlib.Omega.{arith}
use borrow.Author.Tests.{lt-leb}
use lib.IntN.{ℤ}
use Rattle.model.specs.Bounds.{first_format, owners_format}
use Rattle.model.specs.Composition.{Tree, par, syn, ini, leaf}
use Rattle.model.specs.Model.{Model, in_set}
use Rattle.model.specs.Lawful.{Lawful}
use Rattle.model.specs.Limits.{limits, writes_foreign}
use Rattle.model.specs.Table.{table_of}
use Rattle.model.specs.Rules.{State}
use Rattle.model.specs.Moves.{moves}
use Rattle.model.specs.Judge.{has_values, row21, row22, row23, row24, range_of, inits, invs, starts_hold, settled, kept, framed, fits, step_holds, owned_keep, environment_holds, judge_to, judge_environment}
use Rattle.model.specs.Runs.{Proposal, to_step, to_environment, model_judge, table_judge}
use Rattle.model.proofs.LimitsLaws.{lawful_is}
use Rattle.model.proofs.TableJudge.{table_judge_is}
use Rattle.theorem_lists.specs.Lists.{in_format}

module _ (f : ℕ) (m : Model) where
  pub set_same : (a : ℕ) (c : Tree) → in_set (in_format f m) a c ≡ in_set m a c
  unfolding in_set in_format
  set_same a (par c d) = rw (set_same a c, set_same a d)
  set_same a (syn list c) = rw (set_same a c)
  set_same a (ini p c) = set_same a c
  set_same a (leaf k) = refl

  pub moves_same : (a : ℕ) (c : Tree) → moves (in_format f m) a c ≡ moves m a c
  unfolding moves in_format
  moves_same a (par c d) = rw (set_same a c, set_same a d, moves_same a c, moves_same a d)
  moves_same a (syn list c) = moves_same a c
  moves_same a (ini p c) = moves_same a c
  moves_same a (leaf k) = refl

  step_same : (s : State) (a : ℕ) (t : State) → judge_to (in_format f m) s a t ≡ judge_to m s a t
  unfolding judge_to step_holds settled inits invs starts_hold fits kept framed row21 row22 row23 row24 range_of has_values in_format
  step_same s a t = rw (set_same a m.tree, moves_same a m.tree)

  environment_same : (s : State) (values : List ℤ) → judge_environment (in_format f m) s values ≡ judge_environment m s values
  unfolding judge_environment environment_holds owned_keep settled inits invs starts_hold row21 row22 row23 range_of has_values in_format
  environment_same s values = refl

  judges_same : (s : State) (p : Proposal) → model_judge (in_format f m) s p ≡ model_judge m s p
  unfolding model_judge
  judges_same s (to_step a locations values) = step_same s a _
  judges_same s (to_environment values) = environment_same s values

-- a table with nothing behind it
alone_judges : (m : Model) → limits m ≡ true → (s : State) (p : Proposal) → table_judge (table_of m) s p ≡ model_judge m s p
alone_judges m limited s p = ap (λ (t : List ℕ). table_judge t s p) (sym (append-nil (table_of m))) ∙ table_judge_is m limited [] s p

module _ (f : ℕ) (low : first_format ≤ f) (high : f < owners_format) (m : Model) (early : m.format < owners_format) (limited : limits m ≡ true) where
  lawful_same : Lawful m → Lawful (in_format f m)
  unfolding in_format writes_foreign
  lawful_same h = record {
    format_from = low;
    format_to = omega arith;
    few_actions = h.few_actions;
    few_variables = h.few_variables;
    ranges = h.ranges;
    owners_are = h.owners_are;
    owners = λ o i. record { said = λ k e. absurd (unsaid o i k e); below = λ k e. absurd (unsaid o i k e) };
    some_automaton = h.some_automaton;
    few_automata = h.few_automata;
    automata = h.automata;
    own = λ i l e j. rw (lt-leb owners_format f high);
    few_edges = h.few_edges;
    few_nodes = h.few_nodes;
    starts = h.starts;
    tree = h.tree;
  }
    where
      unsaid : (o : Option ℕ) → Memᴰ o m.owners → (k : ℕ) → o ≡ some k → ⊥
      unsaid o i k e = let l = (h.owners o i).said k e in omega arith

  pub limits_same : limits (in_format f m) ≡ true
  limits_same = (lawful_is (in_format f m)).1 (lawful_same ((lawful_is m).0 limited))

  -- over the tables, too
  pub tables_judge : (s : State) (p : Proposal) → table_judge (table_of (in_format f m)) s p ≡ table_judge (table_of m) s p
  tables_judge s p = alone_judges (in_format f m) limits_same s p ∙ judges_same f m s p ∙ sym (alone_judges m limited s p)
