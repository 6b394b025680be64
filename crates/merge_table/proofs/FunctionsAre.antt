-- The functions that are gathered are the automata's: fs and gs of Definition 4.
use mathlib.Core.Path.{◌≡◌, refl, sym, ap, ◌∙◌, subst}
use mathlib.Core.Bool.{Bool, true, false}
use mathlib.Core.List.{List, [], ◌∷◌, ◌++◌, append_assoc, map, flat_map, Memᴰ}
use Prim.Native.Nat.{ℕ, zero, suc, ◌+◌, ◌*◌, ◌≤◌, ◌<◌}
use native.Mathlib.Omega.{arith}
use native.Mathlib.Nat.{zero-add}
use native.Mathlib.Numerals.{add-one}
use lib.ListN.{length, get_or, drop, replicate, length-append, length-map, length-replicate, get_or-append}
use lib.Seq.{sets, sets-eq, get_or-append-add}
use Rattle.model.specs.Bounds.{max_automata, max_locations}
use Rattle.model.specs.Predicate.{Pred, all, none, Range}
use Rattle.model.specs.Model.{Location, Automaton, Model}
use Rattle.model.specs.Lawful.{Lawful, LawfulPred, LawfulLocation, LawfulAutomaton}
use Rattle.model.specs.Lines.{location_lines}
use Rattle.model.specs.Table.{pred_words, line_words, sheet_words}
use Rattle.table_places.specs.Outline.{location_count, first_location, after_predicate, after_automaton, first_automaton}
use Rattle.table_places.specs.Layout.{layout_of}
use Rattle.table_places.proofs.CodeLaws.{at_most_all}
use Rattle.table_places.proofs.LayoutLaws.{all_automata}
use Rattle.table_places.proofs.OutlineLaws.{location_words, automaton_words, after_automaton_lem, after_predicate_lem, location_count_lem, first_location_lem}
use Rattle.merge_predicates.specs.declared.functions.Functions.{Functions}
use Rattle.merge_predicates.specs.Functions.{max_values, part_at, values_from, domain_at, domains_from, functions_from, functions_of}
use Rattle.merge_predicates.proofs.FunctionLaws.{values_length}
use Rattle.merge_table.proofs.Standing.{automata_cons, along_first, along_rest, Here}
use Rattle.merge_table.proofs.HeadIs.{automata_stand, laid_places}
use Rattle.merge_table.proofs.DepthsAre.{Readable, readable}

-- Which of a location's predicates is gathered: where the location stands, it stands at the part's place.
pub record Part (inv : Bool) (part : Location → Pred) : Type 0 where
  pub place : (t : List ℕ) (at : ℕ) (l : Location) (others : List ℕ) → drop at t ≡ pred_words l.init ++ (pred_words l.inv ++ others)
      → (rest : List ℕ) × (drop (part_at t inv at) t ≡ pred_words (part l) ++ rest)
  pub sound : (declared : List Range) (l : Location) → LawfulLocation declared l → LawfulPred declared (part l)

pub init_part : Part false (λ l. l.init)
unfolding part_at
init_part = record { place = λ t at l others e. (pred_words l.inv ++ others, e); sound = λ declared l h. h.init }

pub inv_part : Part true (λ l. l.inv)
unfolding part_at
inv_part =
    record {
      place = λ t at l others e. (others, after_predicate_lem t at l.init (pred_words l.inv ++ others) e);
      sound = λ declared l h. h.inv;
    }

-- the locations' predicates, the automata's in a row; how many locations each automaton has
abbrev pub predicates : (Location → Pred) → List Automaton → List Pred
predicates part xs = flat_map (λ (x : Automaton). map part x.locations) xs

abbrev pub sizes : List Automaton → List ℕ
sizes xs = map (λ (x : Automaton). length x.locations) xs

-- where there is no predicate
abbrev pub nothing : Pred
nothing = all none

-- a predicate stands at a place, and its words say it
pub record Stands (t : List ℕ) (at : ℕ) (p : Pred) : Type 0 where
  pub others : List ℕ
  pub words : drop at t ≡ pred_words p ++ others
  pub said : Readable p

-- What an array says of some predicates in a row, from an index on: where each stands.
abbrev pub AllStand : (t places : List ℕ) (first : ℕ) (ps : List Pred) → Type 0
AllStand t places first ps = (k : ℕ) → k < length ps → Stands t (get_or places (first + k) 0) (get_or ps k nothing)

pub from_index : (t places : List ℕ) (i j : ℕ) (ps : List Pred) → i ≡ j → AllStand t places i ps → AllStand t places j ps
from_index t places i j ps e s k h = subst (λ n. Stands t (get_or places (n + k) 0) (get_or ps k nothing)) e (s k h)

module _ (t places : List ℕ) (first : ℕ) (p : Pred) (ps : List Pred) (s : AllStand t places first (p ∷ ps)) where
  pub stand_first : Stands t (get_or places first 0) p
  stand_first = let z : first + 0 ≡ first = omega arith in subst (λ n. Stands t (get_or places n 0) p) z (s 0 (omega arith))

  pub stand_rest : AllStand t places (suc first) ps
  stand_rest k h = let z : first + suc k ≡ suc first + k = omega arith in subst (λ n. Stands t (get_or places n 0) (get_or ps k nothing)) z (s (suc k) (omega arith))

module _ (t places : List ℕ) (first : ℕ) (ps qs : List Pred) (s : AllStand t places first (ps ++ qs)) where
  pub stand_left : AllStand t places first ps
  stand_left k h = subst (λ (p : Pred). Stands t (get_or places (first + k) 0) p) (get_or-append ps qs nothing k h) (s k (omega (arith, length-append ps qs)))

  pub stand_right : AllStand t places (first + length ps) qs
  stand_right k h =
      let z : first + (length ps + k) ≡ first + length ps + k = omega arith in
      let there = s (length ps + k) (omega (arith, length-append ps qs)) in
      subst (λ n. Stands t (get_or places n 0) (get_or qs k nothing)) z
      (subst (λ (p : Pred). Stands t (get_or places (first + (length ps + k)) 0) p) (get_or-append-add ps qs k nothing) there)

-- what is gathered of some automata, as lists
record Gathered (t : List ℕ) (part : Location → Pred) (xs : List Automaton) (ds vs : List ℕ) : Type 0 where
  domains : ds ≡ sizes xs
  long : length vs ≡ length (predicates part xs)
  values : (k : ℕ) → k < length (predicates part xs) → Stands t (get_or vs k 0) (get_or (predicates part xs) k nothing)

-- a past location
past_location : (t : List ℕ) (at : ℕ) (l : Location) (rest : List ℕ) → drop at t ≡ pred_words l.init ++ (pred_words l.inv ++ rest) → drop (after_predicate t (after_predicate t at)) t ≡ rest
past_location t at l rest e =
    after_predicate_lem t (after_predicate t at) l.inv rest (after_predicate_lem t at l.init (pred_words l.inv ++ rest) e)

location_cons : (t : List ℕ) (at : ℕ) (l : Location) (ls : List Location) (rest : List ℕ) → drop at t ≡ location_words (l ∷ ls) ++ rest
    → drop at t ≡ pred_words l.init ++ (pred_words l.inv ++ (location_words ls ++ rest))
unfolding flat_map location_lines line_words
location_cons t at l ls rest e =
    let i = pred_words l.init in
    let v = pred_words l.inv in
    e ∙ append_assoc i (v ++ location_words ls) rest ∙ ap (λ (r : List ℕ). i ++ r) (append_assoc v (location_words ls) rest)

domain_is : (t : List ℕ) (at n : ℕ) → location_count t at ≡ n → n ≤ max_locations → domain_at t at ≡ n
unfolding domain_at
domain_is t at n e few = rw e (sym (at_most_all max_locations n few))

-- the values of some, and then of others
both_stand : (t vs ws : List ℕ) (ps qs : List Pred) → length vs ≡ length ps → ((k : ℕ) → k < length ps → Stands t (get_or vs k 0) (get_or ps k nothing))
    → ((k : ℕ) → k < length qs → Stands t (get_or ws k 0) (get_or qs k nothing)) → (k : ℕ) → k < length (ps ++ qs) → Stands t (get_or (vs ++ ws) k 0) (get_or (ps ++ qs) k nothing)
both_stand t [] ws [] qs l f g k h = g k h
both_stand t [] ws (p ∷ ps) qs l f g k h = absurd (omega arith)
both_stand t (v ∷ vs) ws [] qs l f g k h = absurd (omega arith)
both_stand t (v ∷ vs) ws (p ∷ ps) qs l f g zero h = f 0 (omega arith)
both_stand t (v ∷ vs) ws (p ∷ ps) qs l f g (suc k) h = both_stand t vs ws ps qs (omega arith) (λ j b. f (suc j) (omega arith)) g k (omega arith)

module _ (inv : Bool) (part : Location → Pred) (which : Part inv part) (declared : List Range) (t : List ℕ) where
  values_stand : (ls : List Location) (at : ℕ) (rest : List ℕ) → ((l : Location) → Memᴰ l ls → LawfulLocation declared l) → drop at t ≡ location_words ls ++ rest
      → (k : ℕ) → k < length (map part ls) → Stands t (get_or (values_from t inv (length ls) at) k 0) (get_or (map part ls) k nothing)
  unfolding values_from
  values_stand [] at rest ok e k h = absurd (omega arith)
  values_stand (l ∷ ls) at rest ok e zero h =
      let s = which.place t at l (location_words ls ++ rest) (location_cons t at l ls rest e) in
      record { others = s.0; words = s.1; said = readable (part l) (which.sound declared l (ok l (Memᴰ.head refl))) }
  values_stand (l ∷ ls) at rest ok e (suc k) h =
      values_stand ls (after_predicate t (after_predicate t at)) rest (λ y q. ok y (Memᴰ.tail q))
      (past_location t at l (location_words ls ++ rest) (location_cons t at l ls rest e)) k (omega arith)

  gathered : (A : ℕ) (automata : List ℕ) (xs : List Automaton) (i at : ℕ) (rest : List ℕ) → ((x : Automaton) → Memᴰ x xs → LawfulAutomaton declared A x)
      → drop at t ≡ automaton_words xs ++ rest → Here t automata i at (length xs)
      → Gathered t part xs (domains_from t automata i (length xs)) (functions_from t inv automata i (length xs))
  unfolding domains_from functions_from flat_map
  gathered A automata [] i at rest ok e here = record { domains = refl; long = refl; values = λ k h. absurd (omega arith) }
  gathered A automata (x ∷ xs) i at rest ok e here =
      let law = ok x (Memᴰ.head refl) in
      let f = automata_cons t at x xs rest e in
      let others = automaton_words xs ++ rest in
      let ls = x.locations in
      let place : get_or automata i 0 ≡ at = along_first t (λ a. a) automata i at (length xs) here in
      let size : domain_at t at ≡ length ls = domain_is t at (length ls) (location_count_lem t others x at f) law.few_locations in
      let vs = values_from t inv (length ls) (first_location t at) in
      let more = gathered A automata xs (suc i) (after_automaton t at) rest (λ y q. ok y (Memᴰ.tail q)) (after_automaton_lem t others x at f) (along_rest t (λ a. a) automata i at (length xs) here) in
      let ws = functions_from t inv automata (suc i) (length xs) in
      let here_long : length vs ≡ length (map part ls) = values_length t inv (length ls) (first_location t at) ∙ sym (length-map ls part) in
      let all : Gathered t part (x ∷ xs) (length ls ∷ domains_from t automata (suc i) (length xs)) (vs ++ ws) =
      record {
        domains = ap (λ (l : List ℕ). length ls ∷ l) more.domains;
        long = omega (arith, length-append vs ws, length-append (map part ls) (predicates part xs), here_long, more.long);
        values = both_stand t vs ws (map part ls) (predicates part xs) here_long
            (values_stand ls (first_location t at) _ law.locations (first_location_lem t others x at f)) more.values;
      } in
      rw (add-one i, place, size) all

-- how many there can be
predicates_few : (part : Location → Pred) (A : ℕ) (declared : List Range) (xs : List Automaton) → ((x : Automaton) → Memᴰ x xs → LawfulAutomaton declared A x)
    → length (predicates part xs) ≤ max_locations * length xs
unfolding flat_map
predicates_few part A declared [] ok = omega arith
predicates_few part A declared (x ∷ xs) ok =
    let few = (ok x (Memᴰ.head refl)).few_locations in
    let more = predicates_few part A declared xs (λ y q. ok y (Memᴰ.tail q)) in
    omega (arith, length-append (map part x.locations) (predicates part xs), length-map x.locations part)

-- in an array, the items stand first
in_front_lem : (vs : List ℕ) (n k : ℕ) → length vs ≤ n → k < length vs → get_or (sets (replicate n 0) 0 vs) k 0 ≡ get_or vs k 0
in_front_lem vs n k h l =
    let zeros : List ℕ = replicate n 0 in
    ap (λ (q : List ℕ). get_or q k 0) (sets-eq vs zeros 0 (omega (arith, length-replicate {A = ℕ} n 0))) ∙ get_or-append vs (drop (0 + length vs) zeros) 0 k l

-- The law: how many locations each automaton has, and then zeros; how many all have; and where the predicate of each stands.
pub record AreFunctions (t : List ℕ) (part : Location → Pred) (xs : List Automaton) (f : Functions) : Type 0 where
  pub domains : f.domains ≡ sets (replicate max_automata 0) 0 (sizes xs)
  pub total : f.total ≡ length (predicates part xs)
  pub few : length (predicates part xs) ≤ max_values
  pub values : AllStand t f.places 0 (predicates part xs)

module _ (m : Model) (lawful : Lawful m) (t rest : List ℕ) (e : t ≡ sheet_words m ++ rest) where
  pub functions_are : (inv : Bool) (part : Location → Pred) → Part inv part → AreFunctions t part m.automata (functions_of t (layout_of t) inv)
  unfolding functions_of
  functions_are inv part which =
      let xs = m.automata in
      let ps = predicates part xs in
      let automata = (layout_of t).sets in
      let n = all_automata m lawful t rest e in
      let g = gathered inv part which m.variables t m.actions automata xs 0 (first_automaton t) _ lawful.automata (automata_stand m lawful t rest e) (laid_places m lawful t rest e) in
      let vs = functions_from t inv automata 0 (length xs) in
      let fn = lawful.few_automata in
      let few : length ps ≤ max_values = omega (arith, predicates_few part m.actions m.variables xs lawful.automata) in
      let long = g.long in
      rw n
      (record {
        domains = ap (sets (replicate max_automata 0) 0) g.domains;
        total = long;
        few = few;
        values = λ k h.
            let there : get_or (sets (replicate max_values 0) 0 vs) (0 + k) 0 ≡ get_or vs k 0 = ap (λ j. get_or (sets (replicate max_values 0) 0 vs) j 0) (zero-add k) ∙ in_front_lem vs max_values k (omega arith) (omega arith) in
            subst (λ j. Stands t j (get_or ps k nothing)) (sym there) (g.values k h);
      })

  pub init_functions : AreFunctions t (λ l. l.init) m.automata (functions_of t (layout_of t) false)
  init_functions = functions_are false (λ l. l.init) init_part

  pub inv_functions : AreFunctions t (λ l. l.inv) m.automata (functions_of t (layout_of t) true)
  inv_functions = functions_are true (λ l. l.inv) inv_part
