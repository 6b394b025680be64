-- A run: the code's over the words of a table is the definitions'.
use Rattle.std.proofs.Common.{Result, Ok, Err}
use Rattle.std.specs.Prelude.{⊤}
use Rattle.model.specs.declared.Row.{Row}
use mathlib.Core.Path.{◌≡◌, refl, sym, ap, ◌∙◌}
use mathlib.Core.Bool.{not-not, Bool, true, false, not, cond, true≢false}
use mathlib.Core.List.{List, [], ◌∷◌, ◌++◌, map}
use mathlib.Core.Option.{none, some}
use Prim.Native.Nat.{ℕ, suc, ◌+◌, ◌*◌, ◌≤◌, ◌<◌}
use native.Mathlib.Omega.{arith}
use native.Mathlib.Nat.{add-zero, zero-add, mul-suc}
use lib.IntN.{ℤ, pos}
use lib.ListN.{length, take, drop, set, take-append-drop, length-drop, length-set, length-map}
use lib.Seq.{take-suc-set, drop-set-lt, append_snoc}
use lib.Dec.{eqb, ltb}
use Rattle.model.specs.Model.{Model}
use Rattle.model.specs.Table.{Opened, unopened, opened, open_table}
use Rattle.model.specs.Rules as R
use Rattle.model.specs.Judge as J
use Rattle.model.specs.Runs.{Proposal, proposed, Judge, phase_number, call_of, table_judge, goes, Run, and_then, run}
use borrow.Author.Tests.{le-leb, lt-leb}
use Rattle.model.proofs.Tests.{and_left, and_right, not-false, eq_of, lt_of, le_of}
use Rattle.table_check.specs.Check.{answered}
use Rattle.table_places.specs.declared.layout.Layout.{Layout}
use Rattle.table_places.specs.Layout.{layout_of, variables_of}
use Rattle.table_places.proofs.OutlineLaws.{automata_in_lem, variables_in_lem}
use Rattle.table_places.proofs.LayoutLaws.{all_automata, all_variables}
use Rattle.table_places.proofs.Opened.{Sheet, sheet_of}
use Rattle.judge_rows.specs.declared.Phase.{Phase}
use Rattle.judge_rows.specs.declared.Phase.TheVariants.{Start, Running}
use Rattle.judge_rows.specs.declared.State.{State}
use Rattle.model.specs.Row.{row}
use Rattle.judge_runs.specs.declared.RunError.{RunError}
use Rattle.judge_runs.specs.declared.RunError.TheVariants as Code
use Rattle.judge_call.specs.declared.Answer.{Answer}
use Rattle.judge_call.specs.declared.Answer.TheVariants.{Yes, Marked, No}
use Rattle.judge_call.specs.Answers.{answer_of, answer_number}
use Rattle.judge_rows.specs.Phases.{phase_is, phase_for}
use Rattle.judge_rows.specs.States.{filled, state_of, held}
use Rattle.judge_rows.specs.RowTests.{phase_read, lengths_fit, locations_known, values_known}
use Rattle.judge_rows.specs.Checks.{state_checked, values_checked, then_lists, then_phase, begun_on}
use Rattle.judge_call.specs.Calls.{environment_from, step_from, own_of}
use Rattle.judge_turn.specs.Turns.{environment_mark, judged_on, proposed_on, moved_to, turn_on}
use Rattle.judge.specs.RunAnswer.{proposal_of, proposals_of, RunAnswer, not_run, uneven, answers_short, end_short, ran, is_uneven, lacks_end, run_from, run_answer, ran_of, lent_after, answers_after, locations_after, values_after}
use Rattle.judge_lists.specs.Lists.{in_front, lists_fit, end_fits}
use Rattle.judge_runs.specs.RunWords.{Gone, go_on, Left, ran_on, listed_on, over_on, Leaves}
use Rattle.judge_rows.proofs.Filled.{filled_front, filled_twice}
use Rattle.judge_rows.proofs.RowLaws.{lengths_row, locations_row, values_row}
use Rattle.judge_rows.proofs.StateLaws.{stands, phase_read_lem, in_front_lem}
use Rattle.judge_call.proofs.CallLaws.{environment_good}
use Rattle.judge_rows.proofs.KnownLaws.{Known, known_passes, still_passes}
use Rattle.judge_call.proofs.JudgementLaws.{step_from_on, environment_from_on, step_refused, environment_refused}
use Rattle.judge_call.proofs.StepLaws.{step_good}
use Rattle.judge_call.proofs.NumberLaws.{unwrapped, judge_fits}
use Rattle.judge_turn.proofs.TurnLaws.{judged_environment, judged_step, proposed_new}

phase_back : (p : R.Phase) → phase_is (phase_for p) ≡ p
unfolding phase_is phase_for
phase_back R.start = refl
phase_back R.running = refl

phase_held : (q : Phase) → phase_for (phase_is q) ≡ q
unfolding phase_is phase_for
phase_held Start = refl
phase_held Running = refl

-- the code reads a phase back from its number
read_back : (p : R.Phase) → phase_read (phase_number p) ≡ Ok (phase_for p)
unfolding phase_read phase_number phase_for
read_back R.start = refl
read_back R.running = refl

-- only a yes moves either
moved_exact : (x : Result Answer Row) (u u' : R.State) → moved_to x (held u) (held u') ≡ held (goes (answer_of x) u u')
unfolding moved_to goes answer_of
moved_exact (Ok Yes) u u' = refl
moved_exact (Ok (Marked mark)) u u' = refl
moved_exact (Ok No) u u' = refl
moved_exact (Err r) u u' = refl

-- the state that is proposed
proposed_exact : (u : R.State) (a : ℕ) (l' : List ℕ) (v' : List ℤ) → proposed_on (held u) a l' v' ≡ held (proposed u (proposal_of a l' v'))
unfolding proposed_on proposal_of proposed state_of phase_for
proposed_exact u a l' v' = go (eqb a environment_mark) refl
  where
    go : (b : Bool) → eqb a environment_mark ≡ b → proposed_on (held u) a l' v' ≡ held (proposed u (proposal_of a l' v'))
    go true e = rw (e, proposed_on, proposal_of) (ap (λ (l : List ℕ). record { phase = Running; locations = l; values = filled 48 (pos 0) v' }) (filled_twice 16 0 u.locations))
    go false e = rw (e, proposed_on, proposal_of)

-- what holds of both states holds of the one that the run goes to
goes_to : (P : R.State → Type 0) (x : J.Answer) (u u' : R.State) → P u → P u' → P (goes x u u')
unfolding goes
goes_to P (J.marked b) u u' h i = i
goes_to P J.yes u u' h i = i
goes_to P J.no u u' h i = h
goes_to P (J.refused row) u u' h i = h

-- a run has an answer for each proposal
run_length : (judge : Judge) (u : R.State) (ps : List Proposal) → length (run judge u ps).answers ≡ length ps
unfolding run and_then
run_length judge u [] = refl
run_length judge u (p ∷ ps) = ap suc (run_length judge (goes (judge u p) u (proposed u p)) ps)

proposals_length : (n v : ℕ) (actions ls : List ℕ) (vs : List ℤ) → length (proposals_of n v actions ls vs) ≡ length actions
unfolding proposals_of
proposals_length n v [] ls vs = refl
proposals_length n v (a ∷ actions) ls vs = ap suc (proposals_length n v actions (drop n ls) (drop v vs))

-- Over a table that opens.
module _ (t : List ℕ) (m : Model) (e : open_table t ≡ opened m) where
  abbrev n : ℕ
  n = length m.automata

  abbrev v : ℕ
  v = length m.variables

  sheet : Sheet t m
  sheet = sheet_of t m e

  good : Ok tt ≡ answered (open_table t)
  unfolding answered
  good = rw e

  -- what is found in the table once
  abbrev x : Layout
  x = layout_of t

  abbrev own : List ℕ
  own = own_of t

  -- A state that has passed the rows: one location for each automaton, one value for each variable, each within its bounds.
  record Shaped (u : R.State) : Type 0 where
    pub known : Known t x u.locations u.values
    pub locations : length u.locations ≡ n
    pub values : length u.values ≡ v

  shaped_of : (u : R.State) → Known t x u.locations u.values → Shaped u
  unfolding lengths_fit layout_of
  shaped_of u known =
      let f = known.fits in
      record {
        known = known;
        locations = eq_of (length u.locations) x.automata (and_left (eqb (length u.locations) x.automata) _ f) ∙ automata_in_lem t sheet.rest m sheet.stands;
        values = eq_of (length u.values) x.variables (and_right (eqb (length u.locations) x.automata) _ f) ∙ variables_in_lem t sheet.rest m sheet.stands;
      }

  values_front : (k : List ℤ) → length k ≡ v → take (variables_of x) (filled 48 (pos 0) k) ≡ k
  values_front k h = rw (all_variables m sheet.lawful t sheet.rest sheet.stands, ← h) (filled_front 48 (pos 0) k (rw h sheet.lawful.few_variables))

  -- one proposal
  module _ (u : R.State) (shaped : Shaped u) (a : ℕ) (l' : List ℕ) (v' : List ℤ) where
    abbrev to : State
    to = proposed_on (held u) a l' v'

    abbrev judged : Result Answer Row
    judged = judged_on t x own (held u) a l' v' to

    abbrev asked : J.Answer
    asked = table_judge t u (proposal_of a l' v')

    abbrev phase : ℕ
    phase = phase_number u.phase

    module _ (f : eqb a environment_mark ≡ true) where
      to_environment : judged ≡ environment_from t x (held u) v' to
      to_environment = sym (judged_environment t x own (held u) a l' v' to (eqb a environment_mark) refl _ f refl)

      stays : to ≡ state_of Running u.locations v'
      unfolding proposed_on state_of
      stays = rw (f, proposed_on) (ap (λ (l : List ℕ). record { phase = Running; locations = l; values = filled 48 (pos 0) v' }) (filled_twice 16 0 u.locations))

      asked_environment : asked ≡ J.environment_answer t phase u.locations u.values v'
      unfolding proposal_of table_judge call_of J.answer_to
      asked_environment = rw (f, proposal_of)

    module _ (f : eqb a environment_mark ≡ false) where
      to_step : judged ≡ step_from t x own (held u) a l' v' to
      to_step = sym (judged_step t x own (held u) a l' v' to (eqb a environment_mark) refl _ f refl)

      moves : to ≡ state_of Running l' v'
      moves = sym (proposed_new (held u) a l' v' (eqb a environment_mark) refl f _ refl)

      asked_step : asked ≡ J.step_answer t phase u.locations u.values a l' v'
      unfolding proposal_of table_judge call_of J.answer_to
      asked_step = rw (f, proposal_of)

    judged_exact : answer_of judged ≡ asked
    judged_exact = go (eqb a environment_mark) refl
      where
        go : (b : Bool) → eqb a environment_mark ≡ b → answer_of judged ≡ asked
        go true f =
            ap answer_of (to_environment f ∙ ap (environment_from t x (held u) v') (stays f) ∙
            environment_from_on t x u.locations u.values shaped.known phase (phase_for u.phase) (read_back u.phase) v') ∙
            environment_good t phase u.locations u.values v' (Ok tt) good refl t x refl refl _ refl ∙ sym (asked_environment f)
        go false f =
            ap answer_of (to_step f ∙ ap (step_from t x own (held u) a l' v') (moves f) ∙
            step_from_on t x u.locations u.values shaped.known phase (phase_for u.phase) (read_back u.phase) own a l' v') ∙
            step_good t phase u.locations u.values a l' v' (Ok tt) good refl t x own refl refl refl _ refl ∙ sym (asked_step f)

    turn_state : (turn_on t x own (held u) a l' v').state ≡ held (goes asked u (proposed u (proposal_of a l' v')))
    unfolding turn_on
    turn_state =
        let p = proposal_of a l' v' in
        ap (moved_to judged (held u)) (proposed_exact u a l' v') ∙ moved_exact judged u (proposed u p) ∙ ap (λ (y : J.Answer). held (goes y u (proposed u p))) judged_exact

    turn_number : (turn_on t x own (held u) a l' v').number ≡ answer_number asked
    unfolding turn_on
    turn_number = unwrapped (judge_fits t u (proposal_of a l' v')) judged_exact refl

    -- a refusal leaves the state; and what is not refused is known
    refused_stays : (k : Row) → judged ≡ Err k → Shaped (goes asked u (proposed u (proposal_of a l' v')))
    unfolding goes answer_of
    refused_stays k e =
        let r : asked ≡ J.refused k.0 = sym judged_exact ∙ ap answer_of e in
        rw r shaped

    goes_shaped : Shaped (goes asked u (proposed u (proposal_of a l' v')))
    unfolding proposal_of proposed
    goes_shaped = go (eqb a environment_mark) refl
      where
        to_known : Shaped (proposed u (proposal_of a l' v')) → Shaped (goes asked u (proposed u (proposal_of a l' v')))
        to_known i = goes_to Shaped asked u (proposed u (proposal_of a l' v')) shaped i

        by_values : (f : eqb a environment_mark ≡ true) (c : Result ⊤ Row) → c ≡ values_checked t x v' → Shaped (goes asked u (proposed u (proposal_of a l' v')))
        by_values f (Ok _) e = to_known (rw (f, proposal_of) (shaped_of (record { phase = R.running; locations = u.locations; values = v' }) (still_passes t x u.locations u.values shaped.known v' (sym e))))
        by_values f (Err k) e = refused_stays k (to_environment f ∙ sym (environment_refused t x (held u) v' to (Err k) e k refl))

        by_lists : (f : eqb a environment_mark ≡ false) (c : Result ⊤ Row) → c ≡ state_checked t x l' v' → Shaped (goes asked u (proposed u (proposal_of a l' v')))
        by_lists f (Ok _) e = to_known (rw (f, proposal_of) (shaped_of (record { phase = R.running; locations = l'; values = v' }) (known_passes t x l' v' (sym e))))
        by_lists f (Err k) e = refused_stays k (to_step f ∙ sym (step_refused t x own (held u) a l' v' to (Err k) e k refl))

        go : (b : Bool) → eqb a environment_mark ≡ b → Shaped (goes asked u (proposed u (proposal_of a l' v')))
        go true f = by_values f (values_checked t x v') refl
        go false f = by_lists f (state_checked t x l' v') refl

  -- the code's run ends where the definitions' does, and its answers from k on are those
  record Agrees (g : Gone) (old : List ℕ) (k count : ℕ) (r : Run J.Answer) : Type 0 where
    pub state : g.state ≡ held r.end
    pub answers : g.answers ≡ take k old ++ (map answer_number r.answers ++ drop (k + count) old)
    pub shaped : Shaped r.end

  go_on_exact : (actions ls : List ℕ) (vs : List ℤ) (u : R.State) → Shaped u → length ls ≡ n * length actions → length vs ≡ v * length actions
      → (old : List ℕ) (k : ℕ) → k + length actions ≤ length old
      → Agrees (go_on t x own n v (held u) old k actions ls vs) old k (length actions) (run (table_judge t) u (proposals_of n v actions ls vs))
  unfolding go_on run and_then proposals_of
  go_on_exact [] ls vs u shaped h i old k room = record { state = refl; answers = sym (take-append-drop k old) ∙ ap (λ (i : ℕ). take k old ++ drop i old) (sym (add-zero k)); shaped = shaped }
  go_on_exact (a ∷ actions) ls vs u shaped h i old k room =
      let p = proposal_of a (take n ls) (take v vs) in
      let u' = goes (table_judge t u p) u (proposed u p) in
      let num = answer_number (table_judge t u p) in
      let sizes = mul-suc n (length actions) in
      let sizes' = mul-suc v (length actions) in
      let others : length (drop n ls) ≡ n * length actions = length-drop n ls ∙ omega arith in
      let others' : length (drop v vs) ≡ v * length actions = length-drop v vs ∙ omega arith in
      let long : suc k + length actions ≤ length (set old k num) = rw (length-set old k num) (omega arith) in
      let rest = go_on_exact actions (drop n ls) (drop v vs) u' (goes_shaped u shaped a (take n ls) (take v vs)) others others' (set old k num) (suc k) long in
      rw (turn_state u shaped a (take n ls) (take v vs), turn_number u shaped a (take n ls) (take v vs))
      (record { state = rest.state; answers = rest.answers ∙ joined old k num (map answer_number (run (table_judge t) u' (proposals_of n v actions (drop n ls) (drop v vs))).answers) (length actions) (omega arith); shaped = rest.shaped })
    where
      joined : (old : List ℕ) (k num : ℕ) (more : List ℕ) (c : ℕ) → k < length old
          → take (suc k) (set old k num) ++ (more ++ drop (suc k + c) (set old k num)) ≡ take k old ++ (num ∷ more ++ drop (k + suc c) old)
      joined old k num more c h =
          let z : suc k + c ≡ k + suc c = omega arith in
          rw (take-suc-set old k num h, drop-set-lt (suc k + c) old k num (omega arith), z) (append_snoc (take k old) num (more ++ drop (k + suc c) old))

  -- The whole call; the last three numbers are the lengths of the lent memory.
  module _ (phase : ℕ) (l : List ℕ) (k : List ℤ) (actions ls : List ℕ) (vs : List ℤ) (answers ends endv : ℕ) where
    abbrev called : RunAnswer
    called = run_answer t phase l k actions ls vs answers ends endv

    -- what comes behind the rows: the list's own faults, then its run
    abbrev behind : Phase → RunAnswer
    behind q =
        cond (is_uneven m actions ls vs) uneven
        (cond (ltb answers (length actions)) answers_short
        (cond (lacks_end m ends endv) end_short (ran (run (table_judge t) (stands q l k) (proposals_of n v actions ls vs)))))

    -- no row refuses it
    record Begun (q : Phase) : Type 0 where
      pub known : Known t x l k
      pub is : called ≡ behind q

    -- what the rows say
    unfoldable Told : Result Phase Row → Type 0
    Told (Err r) = called ≡ not_run r.0
    Told (Ok q) = Begun q

    module _ (q : Phase) where
      abbrev u : R.State
      u = stands q l k

      rows_told : run_from t m u actions ls vs answers ends endv ≡ called → Told (then_lists (state_checked t x l k) q)
      rows_told f = rows (lengths_fit x (length l) (length k)) refl (locations_known t x l) refl (values_known t x k) refl
        where
          r21 : (b : Bool) → lengths_fit x (length l) (length k) ≡ b → J.row21 m u ≡ not b
          r21 b h = sym (lengths_row m sheet.lawful t sheet.rest sheet.stands u) ∙ ap not h

          r22 : (b : Bool) → locations_known t x l ≡ b → J.row22 m u ≡ not b
          r22 b h = sym (locations_row m sheet.lawful t sheet.rest sheet.stands u) ∙ ap not h

          r23 : (b : Bool) → values_known t x k ≡ b → J.row23 m u ≡ not b
          r23 b h = sym (values_row m sheet.lawful t sheet.rest sheet.stands u) ∙ ap not h

          rows : (a : Bool) → lengths_fit x (length l) (length k) ≡ a → (b : Bool) → locations_known t x l ≡ b → (c : Bool) → values_known t x k ≡ c
              → Told (then_lists (state_checked t x l k) q)
          rows false w b o c y = unfold Told state_checked then_lists run_from in rw (w, state_checked) (sym (rw (r21 false w) at f))
          rows true w false o c y = unfold Told state_checked then_lists run_from in rw (w, state_checked, o, state_checked) (sym (rw (r21 true w, r22 false o) at f))
          rows true w true o false y =
              unfold Told state_checked then_lists run_from in rw (w, state_checked, o, state_checked, y, state_checked) (sym (rw (r21 true w, r22 true o, r23 false y) at f))
          rows true w true o true y =
              unfold Told state_checked then_lists run_from in
              rw (w, state_checked, o, state_checked, y, state_checked) (record { known = record { fits = w; located = o; valued = y }; is = sym (rw (r21 true w, r22 true o, r23 true y) at f) })

    told : Told (begun_on t x l k phase)
    unfolding begun_on then_phase
    told =
        phase_read_lem phase
        (λ y o.
        elim o [ none ↦ not_run 20 | some p ↦ run_from t m (record { phase = p; locations = l; values = k }) actions ls vs answers ends endv ] ≡ called
        → Told (then_phase y (state_checked t x l k)))
        (λ q f. rows_told q f)
        (λ f. unfold Told in sym f)
        (unfold run_answer in rw (e, run_answer))

  -- where the run ends, as the code's arrays hold it
  module _ (u : R.State) (shaped : Shaped u) where
    end_phase : (held u).phase ≡ phase_for u.phase
    unfolding state_of
    end_phase = refl

    end_locations : take n (held u).locations ≡ u.locations
    unfolding state_of
    end_locations = rw (all_automata m sheet.lawful t sheet.rest sheet.stands) at (in_front_lem t m sheet u.locations shaped.locations)

    end_values : take v (held u).values ≡ u.values
    unfolding state_of
    end_values = rw (all_variables m sheet.lawful t sheet.rest sheet.stands) at (values_front u.values shaped.values)

  -- the list's own faults, over words
  lists_even : (actions ls : List ℕ) (vs : List ℤ) → lists_fit x (length actions) (length ls) (length vs) ≡ not (is_uneven m actions ls vs)
  unfolding lists_fit layout_of is_uneven
  lists_even actions ls vs = rw (automata_in_lem t sheet.rest m sheet.stands, variables_in_lem t sheet.rest m sheet.stands) (sym (not-not _))

  end_room : (ends endv : ℕ) → end_fits x ends endv ≡ not (lacks_end m ends endv)
  unfolding end_fits lacks_end
  end_room ends endv = rw (all_automata m sheet.lawful t sheet.rest sheet.stands, all_variables m sheet.lawful t sheet.rest sheet.stands) (sym (not-not _))

module _ (t : List ℕ) (phase : ℕ) (l : List ℕ) (k : List ℤ) (actions ls : List ℕ) (vs : List ℤ) (old oldl : List ℕ) (oldv : List ℤ) where
  abbrev whole : RunAnswer
  whole = run_answer t phase l k actions ls vs (length old) (length oldl) (length oldv)

  -- what the definitions leave
  abbrev left_of : RunAnswer → Left
  left_of a = record { ran = ran_of a; answers = answers_after a old; locations = locations_after a oldl; values = values_after a oldv }

  module _ (m : Model) (e : open_table t ≡ opened m) (q : Phase) (b : Begun t m e phase l k actions ls vs (length old) (length oldl) (length oldv) q) where
    abbrev run_of : Run J.Answer
    run_of = run (table_judge t) (stands q l k) (proposals_of (length m.automata) (length m.variables) actions ls vs)

    -- the code's run
    run_exact : is_uneven m actions ls vs ≡ false → length actions ≤ length old
        → ran_on t (layout_of t) (own_of t) (state_of q l k) actions ls vs old oldl oldv ≡ left_of (ran run_of)
    unfolding ran_on ran_of answers_after locations_after values_after lent_after in_front is_uneven
    run_exact even room =
        let u = stands q l k in
        let sizes = not-false _ even in
        let one = eq_of (length ls) (length m.automata * length actions) (and_left (eqb (length ls) (length m.automata * length actions)) _ sizes) in
        let one' = eq_of (length vs) (length m.variables * length actions) (and_right (eqb (length ls) (length m.automata * length actions)) _ sizes) in
        let agrees = go_on_exact t m e actions ls vs u (shaped_of t m e u b.known) one one' old 0 (omega arith) in
        let count : length (map answer_number run_of.answers) ≡ 0 + length actions =
        length-map run_of.answers answer_number ∙ run_length (table_judge t) u _ ∙ proposals_length _ _ actions ls vs ∙ sym (zero-add (length actions)) in
        let start : state_of q l k ≡ held u = ap (λ (p : Phase). state_of p l k) (sym (phase_held q)) in
        let end = run_of.end in
        let shaped = agrees.shaped in
        rw (all_automata m (sheet_of t m e).lawful t (sheet_of t m e).rest (sheet_of t m e).stands, all_variables m (sheet_of t m e).lawful t (sheet_of t m e).rest (sheet_of t m e).stands, start, agrees.state, agrees.answers, count, end_phase t m e end shaped, end_locations t m e end shaped, end_values t m e end shaped)

    -- and the whole list
    listed_exact : listed_on t (layout_of t) (own_of t) (state_of q l k) actions ls vs old oldl oldv ≡ left_of whole
    unfolding listed_on ran_of answers_after locations_after values_after lent_after
    listed_exact = rw b.is (go (is_uneven m actions ls vs) refl (ltb (length old) (length actions)) refl (lacks_end m (length oldl) (length oldv)) refl)
      where
        go : (x : Bool) → is_uneven m actions ls vs ≡ x → (y : Bool) → ltb (length old) (length actions) ≡ y → (z : Bool) → lacks_end m (length oldl) (length oldv) ≡ z
            → listed_on t (layout_of t) (own_of t) (state_of q l k) actions ls vs old oldl oldv ≡ left_of (behind t m e phase l k actions ls vs (length old) (length oldl) (length oldv) q)
        go true f y g z h = rw (lists_even t m e actions ls vs ∙ ap not f, listed_on, f)
        go false f true g z h =
            let less = lt-leb (length actions) (length old) (lt_of (length old) (length actions) g) in
            rw (lists_even t m e actions ls vs ∙ ap not f, listed_on, f, less, listed_on, g)
        go false f false g true h =
            let room = le-leb (length actions) (length old) (le_of (length old) (length actions) g) in
            rw (lists_even t m e actions ls vs ∙ ap not f, listed_on, f, room, listed_on, g, end_room t m e (length oldl) (length oldv) ∙ ap not h, listed_on, h)
        go false f false g false h =
            let most = le_of (length old) (length actions) g in
            let room = le-leb (length actions) (length old) most in
            rw (lists_even t m e actions ls vs ∙ ap not f, listed_on, f, room, listed_on, g, end_room t m e (length oldl) (length oldv) ∙ ap not h, listed_on, h)
            (run_exact f most)

  -- what a refusal by a row leaves
  by_row : (n : ℕ) → whole ≡ not_run n → record { ran = Err (Code.Refused (row n)); answers = old; locations = oldl; values = oldv } ≡ left_of whole
  unfolding ran_of answers_after locations_after values_after lent_after
  by_row n e = rw e

  -- each way out of `run`
  module _ (z : Result ⊤ Row) (e : z ≡ answered (open_table t)) where
    table_out : (r : Row) → z ≡ Err r → whole ≡ not_run r.0
    unfolding answered run_answer
    table_out r f = go (open_table t) refl
      where
        go : (o : Opened) → open_table t ≡ o → whole ≡ not_run r.0
        go (unopened other) g =
            let same : ◌≡◌ {A = Result ⊤ Row} (Err (row other)) (Err r) = rw g at (sym e ∙ f) in
            let rows_same : row other ≡ r = cc in
            rw (g, run_answer) (ap (λ (k : Row). not_run k.0) rows_same)
        go (opened m) g =
            let never : ◌≡◌ {A = Result ⊤ Row} (Ok tt) (Err r) = rw g at (sym e ∙ f) in
            cc

    module _ (r : Row) (f : z ≡ Err r) where
      bad : record { ran = Err (Code.Refused r); answers = old; locations = oldl; values = oldv } ≡ left_of whole
      bad = by_row r.0 (table_out r f)

      pub run_bad : Err (Code.Refused r) ≡ ran_of whole
      run_bad = ap (λ (y : Left). y.ran) bad

      pub bad_answers : old ≡ answers_after whole old
      bad_answers = ap (λ (y : Left). y.answers) bad

      pub bad_locations : oldl ≡ locations_after whole oldl
      bad_locations = ap (λ (y : Left). y.locations) bad

      pub bad_values : oldv ≡ values_after whole oldv
      bad_values = ap (λ (y : Left). y.values) bad

    module _ (h : z ≡ Ok tt) where
      opens : (m : Model) × (open_table t ≡ opened m)
      unfolding answered
      opens = go (open_table t) refl
        where
          go : (o : Opened) → open_table t ≡ o → (m : Model) × (open_table t ≡ opened m)
          go (unopened other) g =
              let never : ◌≡◌ {A = Result ⊤ Row} (Err (row other)) (Ok tt) = rw g at (sym e ∙ h) in
              let clash : true ≡ false = cc in
              absurd (true≢false clash)
          go (opened m) g = (m, g)

      over_exact : over_on t phase l k actions ls vs old oldl oldv ≡ left_of whole
      over_exact = go (begun_on t (layout_of t) l k phase) refl
        where
          said : Told t opens.0 opens.1 phase l k actions ls vs (length old) (length oldl) (length oldv) (begun_on t (layout_of t) l k phase)
          said = told t opens.0 opens.1 phase l k actions ls vs (length old) (length oldl) (length oldv)

          go : (y : Result Phase Row) → begun_on t (layout_of t) l k phase ≡ y → over_on t phase l k actions ls vs old oldl oldv ≡ left_of whole
          go (Err r) f = unfold over_on Told in rw (f, over_on) (by_row r.0 (rw f at said))
          go (Ok q) f = unfold over_on Told in rw (f, over_on) (listed_exact opens.0 opens.1 q (rw f at said))

      module _ (r : Result Phase RunError) (new newl : List ℕ) (newv : List ℤ) (d : Leaves (over_on t phase l k actions ls vs old oldl oldv) r new newl newv) where
        done : record { ran = r; answers = new; locations = newl; values = newv } ≡ left_of whole
        done = d.is ∙ over_exact

        pub run_done : r ≡ ran_of whole
        run_done = ap (λ (o : Left). o.ran) done

        pub done_answers : new ≡ answers_after whole old
        done_answers = ap (λ (o : Left). o.answers) done

        pub done_locations : newl ≡ locations_after whole oldl
        done_locations = ap (λ (o : Left). o.locations) done

        pub done_values : newv ≡ values_after whole oldv
        done_values = ap (λ (o : Left). o.values) done
