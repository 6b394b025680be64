-- What is copied from a sheet's words is what stands there.
use mathlib.Core.Path.{◌≡◌, refl, sym, ap, ap₂, ◌∙◌}
use mathlib.Core.List.{List, [], ◌∷◌, ◌++◌, append_assoc, map, flat_map}
use Prim.Native.Nat.{ℕ, zero, suc, ◌+◌, ◌<◌}
use native.Mathlib.Omega.{arith}
use native.Mathlib.Nat.{mod-eq_of_lt}
use lib.ListN.{length, get_or, drop, length-map}
use Rattle.model.specs.Predicate.{Pred, words, node_count}
use Rattle.model.specs.Model.{Automaton}
use Rattle.model.specs.Lines.{automaton_lines}
use Rattle.model.specs.Table.{code, pred_words}
use Rattle.table_places.specs.Outline.{reach, nodes_place, after_automaton, passed}
use Rattle.table_places.specs.Layout.{layout_of}
use Rattle.table_places.specs.Own.{own_sets}
use Rattle.table_places.proofs.OutlineLaws as O
use Rattle.table_places.proofs.OutlineLaws.{read, reached, words_of, automaton_words, words_append, node_count_lem}
use Rattle.merge_append.specs.Append.{narrow}
use Rattle.merge_append.specs.Runs.{run, nodes_at}

pub narrow_is : (n : ℕ) → n < 4294967296 → narrow n ≡ n
unfolding narrow
narrow_is n h = mod-eq_of_lt h

pub run_length : (t : List ℕ) (from n : ℕ) → length (run t from n) ≡ n
unfolding run
run_length t from zero = refl
run_length t from (suc n) = ap suc (run_length t (reach t from 1) n)

pub run_is : (t ws rest : List ℕ) (from : ℕ) → drop from t ≡ ws ++ rest → run t from (length ws) ≡ ws
unfolding run
run_is t [] rest from e = refl
run_is t (w ∷ ws) rest from e =
    ap₂ (λ (x : ℕ) (l : List ℕ). x ∷ l) (read t from w (ws ++ rest) e)
    (run_is t ws rest (reach t from 1) (reached t from 1 (w ∷ []) (ws ++ rest) e refl))

-- the nodes of a predicate
pub nodes_stand : (t : List ℕ) (at : ℕ) (p : Pred) (rest : List ℕ) → drop at t ≡ pred_words p ++ rest → nodes_at t at ≡ map code (words p)
unfolding nodes_at node_count
nodes_stand t at p rest e =
    let nodes = map code (words p) in
    let n : get_or t at 0 ≡ length nodes = node_count_lem t at p rest e ∙ sym (length-map (words p) code) in
    ap (run t (nodes_place t at)) n ∙ run_is t nodes rest (nodes_place t at) (O.nodes_stand t at p rest e)

-- the first automaton of some
pub automata_cons : (t : List ℕ) (at : ℕ) (x : Automaton) (xs : List Automaton) (rest : List ℕ) → drop at t ≡ automaton_words (x ∷ xs) ++ rest
    → drop at t ≡ words_of (automaton_lines x) ++ (automaton_words xs ++ rest)
unfolding flat_map
automata_cons t at x xs rest e =
    e ∙ ap (λ (l : List ℕ). l ++ rest) (words_append (automaton_lines x) (flat_map automaton_lines xs)) ∙ append_assoc (words_of (automaton_lines x)) (automaton_words xs) rest

-- What an array says of n automata in a row, of which the first is automaton i and stands at a place: f of where each stands.
abbrev pub Along : (t : List ℕ) (f : ℕ → ℕ) (array : List ℕ) (i at n : ℕ) → Type 0
Along t f array i at n = (k : ℕ) → k < n → get_or array (i + k) 0 ≡ f (passed t at k)

module _ (t : List ℕ) (f : ℕ → ℕ) (array : List ℕ) (i at n : ℕ) (s : Along t f array i at (suc n)) where
  pub along_first : get_or array i 0 ≡ f at
  unfolding passed
  along_first = let z : i + 0 ≡ i = omega arith in ap (λ j. get_or array j 0) (sym z) ∙ s 0 (omega arith)

  pub along_rest : Along t f array (suc i) (after_automaton t at) n
  unfolding passed
  along_rest k h = let z : suc i + k ≡ i + suc k = omega arith in ap (λ j. get_or array j 0) z ∙ s (suc k) (omega arith)

-- where the automata stand
abbrev pub Here : (t places : List ℕ) (i at n : ℕ) → Type 0
Here t places i at n = Along t (λ a. a) places i at n

-- the automata's own sets
abbrev pub own_of : List ℕ → List ℕ
own_of t = own_sets t (layout_of t).sets
