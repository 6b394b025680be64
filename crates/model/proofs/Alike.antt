-- "Runs": a whole list of proposals is answered alike by a composition and by its merged automaton.
use mathlib.Core.Path.{◌≡◌, refl, sym, ap, ◌∙◌, subst, subst₂}
use mathlib.Core.Bool.{Bool, true, false, not, cond, ◌||◌, and-true, and-false, true≢false}
use mathlib.Core.List.{List, [], ◌∷◌, ◌++◌, map}
use mathlib.Core.Logic.{◌⊎◌, inl, inr}
use Prim.Native.Nat.{ℕ, pred, ◌+◌, ◌≤◌, ◌<◌}
use native.Mathlib.Omega.{arith}
use lib.IntN.{ℤ, pos}
use lib.ListN.{length, get_or, drop, length-append, length-map, get_or-append, get_or-map}
use lib.Seq.{get_or-append-add, drop_at}
use lib.Dec.{eqb}
use Rattle.model.specs.Basic.{between, each}
use Rattle.model.specs.Predicate.{range}
use Rattle.model.specs.Model.{Model, automaton, nobody, in_set}
use Rattle.model.specs.Lawful.{Lawful}
use Rattle.model.specs.Rules.{State, at, val, reached, changed}
use Rattle.model.specs.Linear.{linear, pointer, pointer_range}
use Rattle.model.specs.Judge.{has_values, Answer, marked, yes, no, refused, range_of, row21, row22, row23, row24, environment_holds, step_holds, judge_to, judge_environment}
use Rattle.model.specs.Runs.{IsState, Proposal, to_step, to_environment, proposed, model_judge, goes, Run, and_then, run, beside, translate, translates, Reply, put, not_put, merged_run, Alike, both_marked, both_yes, both_no, both_23, both_24, only_21, only_22, AllAlike, ended, then, RunsAlike}
use Rattle.model.proofs.Tests.{of_le, le_of, not-false, not-true, and_intro, and_left, and_same, of_eq, each_intro, each_ext, each_add, or_cases, or_none_left, or_none_right}
use Rattle.model.proofs.Pointers.{pointer_value}
use Rattle.model.proofs.Merged.{Shaped, shaped, step_same, environment_stays, marks_same}

-- variable k's value is in its range
abbrev pub inside : Model → State → ℕ → Bool
inside m s k = between (range_of m k).low (range_of m k).high (val s k)

-- the merged automaton's variables: the model's, then the pointers
pub merged_size : (m : Model) → length (linear m).variables ≡ length m.variables + length m.automata
unfolding linear
merged_size m = simp (length-append, length-map)

module _ (m : Model) (s : State) (g : Shaped m s) where
  -- the rows of the merged automaton: 21 and 22 never, 23 when the composition's
  pub merged_21 : row21 (linear m) (beside s) ≡ false
  unfolding row21 has_values linear beside
  merged_21 =
      let e : length (s.values ++ map pos s.locations) ≡ length (m.variables ++ map pointer_range m.automata) = simp (length-append, length-map) (omega arith) in
      rw (of_eq _ _ e)

  pub merged_22 : row22 (linear m) (beside s) ≡ false
  unfolding row22 linear beside each
  merged_22 = refl

  variable_range : (k : ℕ) → k < length m.variables → inside (linear m) (beside s) k ≡ inside m s k
  unfolding linear beside range_of
  variable_range k l = rw (
    get_or-append m.variables (map pointer_range m.automata) (range (pos 0) (pos 0)) k l,
    get_or-append s.values (map pos s.locations) (pos 0) k (omega (arith, g.values_are)),
  )

  -- a location of the automaton is in its pointer's range
  pointer_range_lem : (k : ℕ) → k < length m.automata → inside (linear m) (beside s) (pointer m k) ≡ true
  unfolding linear beside range_of range pointer_range pointer between
  pointer_range_lem k l =
      let p = g.placed k l in
      let r : get_or (m.variables ++ map pointer_range m.automata) (length m.variables + k) (range (pos 0) (pos 0)) ≡ pointer_range (automaton m k)
      = get_or-append-add m.variables (map pointer_range m.automata) k (range (pos 0) (pos 0)) ∙ get_or-map pointer_range m.automata k nobody in
      rw (r, pointer_value m s.values s.locations g.values_are k)
      (and_intro (of_le 0 (at s k) (omega arith)) (of_le (at s k) (pred (length (automaton m k).locations)) (omega arith)))

  pub merged_23 : row23 (linear m) (beside s) ≡ row23 m s
  unfolding row23 pointer
  merged_23 = ap not (
      ap (λ (k : ℕ). each k (inside (linear m) (beside s))) (merged_size m)
      ∙ each_add (length m.variables) (length m.automata) (inside (linear m) (beside s))
      ∙ and_same (each_ext _ _ (inside m s) variable_range) (each_intro _ _ pointer_range_lem)
      ∙ and-true (each (length m.variables) (inside m s)))

merged_24 : (m : Model) (a : ℕ) → row24 (linear m) a ≡ row24 m a
unfolding row24 linear
merged_24 m a = refl

-- the answers, once 21 and 22 do not hold
module _ (m : Model) (s t : State) (p : row21 m s ≡ false) (q : row22 m s ≡ false) (p' : row21 m t ≡ false) (q' : row22 m t ≡ false) where
  rows_23 : (row23 (linear m) (beside s) || row23 (linear m) (beside t)) ≡ (row23 m s || row23 m t)
  rows_23 = rw (merged_23 m s (shaped m s p q), merged_23 m t (shaped m t p' q'))

  step_short : (a : ℕ) → judge_to m s a t ≡ cond (row23 m s || row23 m t) (refused 23) (cond (row24 m a) (refused 24) (cond (step_holds m s a t) (marked (in_set m a m.tree)) no))
  unfolding judge_to
  step_short a = rw (p, p', q, q')

  step_answers : Lawful m → (a : ℕ) → judge_to (linear m) (beside s) a (beside t) ≡ judge_to m s a t
  unfolding judge_to row24
  step_answers lawful a = rw (
    p,
    p',
    q,
    q',
    merged_21 m s (shaped m s p q),
    merged_21 m t (shaped m t p' q'),
    merged_22 m s (shaped m s p q),
    merged_22 m t (shaped m t p' q'),
    rows_23,
    merged_24 m a,
  ) (go (row24 m a) refl)
    where
      go : (b : Bool) → row24 m a ≡ b
          → cond (row23 m s || row23 m t) (refused 23) (cond b (refused 24) (cond (step_holds (linear m) (beside s) a (beside t)) (marked (in_set (linear m) a (linear m).tree)) no))
          ≡ cond (row23 m s || row23 m t) (refused 23) (cond b (refused 24) (cond (step_holds m s a t) (marked (in_set m a m.tree)) no))
      go true e = refl
      go false e =
          let l : a ≤ m.actions = le_of _ _ e in
          rw (step_same m lawful s t (shaped m s p q) (shaped m t p' q') a l, marks_same m lawful a l)

-- the same of the environment judge
module _ (m : Model) (s : State) (values : List ℤ) (p : row21 m s ≡ false) (q : row22 m s ≡ false) (p' : row21 m (changed s values) ≡ false) where
  environment_short : judge_environment m s values ≡ cond (row23 m s || row23 m (changed s values)) (refused 23) (cond (environment_holds m s (changed s values)) yes no)
  unfolding judge_environment
  environment_short = rw (p, p', q)

  same_22 : row22 m (changed s values) ≡ false
  unfolding row22
  same_22 = q

  environment_answers : Lawful m → judge_environment (linear m) (beside s) (values ++ map pos s.locations) ≡ judge_environment m s values
  unfolding judge_environment beside
  environment_answers lawful =
      let t = changed s values in
      let g = shaped m s p q in
      let h = shaped m t p' same_22 in
      rw (p, p', q, merged_21 m s g, merged_21 m t h, merged_22 m s g, merged_23 m s g, merged_23 m t h, environment_stays m lawful s values g h)

-- an answer that neither 21 nor 22 gave is alike itself
alike_step : (r r' h k : Bool) → let x = cond r (refused 23) (cond r' (refused 24) (cond h (marked k) no)) in Alike x (put x)
alike_step true r' h k = both_23
alike_step false true h k = both_24
alike_step false false true k = both_marked
alike_step false false false k = both_no

alike_environment : (r h : Bool) → let x = cond r (refused 23) (cond h yes no) in Alike x (put x)
alike_environment true h = both_23
alike_environment false true = both_yes
alike_environment false false = both_no

pub goes_state : (m : Model) (a : Answer) (s t : State) → IsState m s → IsState m t → IsState m (goes a s t)
unfolding goes
goes_state m (marked b) s t g h = h
goes_state m yes s t g h = h
goes_state m no s t g h = g
goes_state m (refused j) s t g h = g

goes_beside : (a : Answer) (s t : State) → goes a (beside s) (beside t) ≡ beside (goes a s t)
unfolding goes
goes_beside (marked b) s t = refl
goes_beside yes s t = refl
goes_beside no s t = refl
goes_beside (refused j) s t = refl

-- what is to show of a proposal that is put to both
record Put (m : Model) (s : State) (p : Proposal) : Type 0 where
  same : model_judge (linear m) (beside s) (translate m (beside s) p) ≡ model_judge m s p
  there : proposed (beside s) (translate m (beside s) p) ≡ beside (proposed s p)
  alike : Alike (model_judge m s p) (put (model_judge m s p))
  state : IsState m (goes (model_judge m s p) s (proposed s p))

pub right_21 : (m : Model) (s : State) (values : List ℤ) → row21 m s ≡ false → has_values m values ≡ true → row21 m (changed s values) ≡ false
unfolding row21
right_21 m s values p e =
    let l = and_left (eqb (length s.locations) (length m.automata)) (has_values m s.values) (not-false _ p) in
    rw (l, e)

wrong_21 : (m : Model) (s : State) (values : List ℤ) → has_values m values ≡ false → row21 m (changed s values) ≡ true
unfolding row21
wrong_21 m s values e = rw (e, and-false (eqb (length s.locations) (length m.automata)))

-- and of one that is not put
record Skip (m : Model) (s : State) (p : Proposal) : Type 0 where
  row : ℕ
  refused_by : model_judge m s p ≡ refused row
  alike : Alike (refused row) not_put

module _ (m : Model) (s : State) (g : IsState m s) where
  -- a refusal by 23 leaves the run where it was; otherwise what was proposed is a state
  state_after : (x : Answer) (t : State) → row21 m t ≡ false → row22 m t ≡ false → ((row23 m s || row23 m t) ≡ true → x ≡ refused 23) → IsState m (goes x s t)
  unfolding goes
  state_after x t p q h = go (row23 m s || row23 m t) refl
    where
      go : (b : Bool) → (row23 m s || row23 m t) ≡ b → IsState m (goes x s t)
      go true e = rw (h e) g
      go false e = goes_state m x s t g (record { no_21 = p; no_22 = q; no_23 = or_none_right (row23 m s) _ e })

  put_both : Lawful m → (p : Proposal) → translates m p ≡ true → Put m s p
  unfolding translates model_judge proposed translate beside
  put_both lawful (to_step a locations values) h =
      let t : State = reached locations values in
      let e : (row21 m t || row22 m t) ≡ false = not-true _ h in
      let p = or_none_left (row21 m t) (row22 m t) e in
      let q = or_none_right (row21 m t) (row22 m t) e in
      let k = step_short m s t g.no_21 g.no_22 p q a in
      record {
        same = step_answers m s t g.no_21 g.no_22 p q lawful a;
        there = refl;
        alike = subst (λ (x : Answer). Alike x (put x)) (sym k) (alike_step (row23 m s || row23 m t) (row24 m a) (step_holds m s a t) (in_set m a m.tree));
        state = state_after _ t p q (λ z. k ∙ rw z);
      }
  put_both lawful (to_environment values) h =
      let t : State = changed s values in
      let p : row21 m t ≡ false = right_21 m s values g.no_21 h in
      let d : drop (length m.variables) (s.values ++ map pos s.locations) ≡ map pos s.locations = drop_at s.values _ _ (shaped m s g.no_21 g.no_22).values_are in
      let q : row22 m t ≡ false = same_22 m s values g.no_21 g.no_22 p in
      let k = environment_short m s values g.no_21 g.no_22 p in
      record {
        same = rw d (environment_answers m s values g.no_21 g.no_22 p lawful);
        there = rw d;
        alike = subst (λ (x : Answer). Alike x (put x)) (sym k) (alike_environment (row23 m s || row23 m t) (environment_holds m s t));
        state = state_after _ t p q (λ z. k ∙ rw z);
      }

  skip : (p : Proposal) → translates m p ≡ false → Skip m s p
  unfolding translates model_judge judge_to judge_environment
  skip (to_step a locations values) h = go (or_cases (row21 m t) (row22 m t) (not-false _ h)) (row21 m t) refl
    where
      t : State
      t = reached locations values

      go : (row21 m t ≡ true) ⊎ (row22 m t ≡ true) → (b : Bool) → row21 m t ≡ b → Skip m s (to_step a locations values)
      go o true e = record { row = 21; refused_by = rw (g.no_21, e); alike = only_21 }
      go (inl q) false e = absurd (true≢false (sym q ∙ e))
      go (inr q) false e = record { row = 22; refused_by = rw (g.no_21, e, g.no_22, q); alike = only_22 }
  skip (to_environment values) h = record { row = 21; refused_by = rw (g.no_21, wrong_21 m s values h); alike = only_21 }

-- the runs
module _ (m : Model) (u : State) (p : Proposal) (ps : List Proposal) where
  run_put : translates m p ≡ true → let b = model_judge (linear m) u (translate m u p) in merged_run m (model_judge (linear m)) u (p ∷ ps) ≡ and_then (put b) (merged_run m (model_judge (linear m)) (goes b u (proposed u (translate m u p))) ps)
  unfolding merged_run
  run_put e = rw (e, merged_run)

  run_skip : translates m p ≡ false → merged_run m (model_judge (linear m)) u (p ∷ ps) ≡ and_then not_put (merged_run m (model_judge (linear m)) u ps)
  unfolding merged_run
  run_skip e = rw (e, merged_run)

abbrev BothAlike : Model → State → List Proposal → Type 0
BothAlike m s ps = RunsAlike m (model_judge m) (model_judge (linear m)) s ps

module _ (m : Model) (p : Proposal) (ps : List Proposal) (s : State) (g : IsState m s) where
  run_both : Lawful m → translates m p ≡ true → ((t : State) → IsState m t → BothAlike m t ps) → BothAlike m s (p ∷ ps)
  unfolding run and_then
  run_both lawful e ih =
      let x = put_both m s g lawful p e in
      let t = goes (model_judge m s p) s (proposed s p) in
      let r = ih t x.state in
      let c : merged_run m (model_judge (linear m)) (beside s) (p ∷ ps) ≡ and_then (put (model_judge m s p)) (merged_run m (model_judge (linear m)) (beside t) ps)
      = run_put m (beside s) p ps e ∙ rw (x.same, x.there, goes_beside (model_judge m s p) s (proposed s p)) in
      record {
        answers = subst (λ (z : Run Reply). AllAlike (run (model_judge m) s (p ∷ ps)).answers z.answers) (sym c) (then x.alike r.answers);
        end = ap (λ (z : Run Reply). z.end) c ∙ r.end;
      }

  run_one : translates m p ≡ false → ((t : State) → IsState m t → BothAlike m t ps) → BothAlike m s (p ∷ ps)
  unfolding run and_then goes
  run_one e ih =
      let x = skip m s g p e in
      let r = ih s g in
      let c = run_skip m (beside s) p ps e in
      let d : run (model_judge m) s (p ∷ ps) ≡ and_then (refused x.row) (run (model_judge m) s ps) = rw x.refused_by in
      record {
        answers = subst₂ (λ (y : Run Answer) (z : Run Reply). AllAlike y.answers z.answers) (sym d) (sym c) (then x.alike r.answers);
        end = ap (λ (z : Run Reply). z.end) c ∙ r.end ∙ ap (λ (z : Run Answer). beside z.end) (sym d);
      }

-- from a state of the model, a composition and its merged automaton answer a whole list of proposals alike
pub runs_alike : (m : Model) → Lawful m → (ps : List Proposal) (s : State) → IsState m s → RunsAlike m (model_judge m) (model_judge (linear m)) s ps
unfolding run merged_run
runs_alike m lawful [] s g = record { answers = ended; end = refl }
runs_alike m lawful (p ∷ ps) s g = go (translates m p) refl (λ t h. runs_alike m lawful ps t h)
  where
    go : (b : Bool) → translates m p ≡ b → ((t : State) → IsState m t → BothAlike m t ps) → BothAlike m s (p ∷ ps)
    go true e ih = run_both m p ps s g lawful e ih
    go false e ih = run_one m p ps s g e ih
