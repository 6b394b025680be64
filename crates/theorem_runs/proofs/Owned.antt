-- Runs in format 3: whatever pointers an environment proposal has, the composition and its merged automaton answer alike.
use Prim.Native.Nat.{ℕ, suc, ◌+◌, ◌≤◌, ◌<◌}
use mathlib.Core.Path.{◌≡◌, refl, sym, ap, ap₂, ◌∙◌, subst}
use mathlib.Core.Bool.{Bool, true, false, not, cond, ◌||◌, true≢false, and-false}
use mathlib.Core.List.{List, [], ◌∷◌, ◌++◌, map}
use mathlib.Core.Logic.{◌↔◌, ◌⊎◌, inl, inr}
use mathlib.Core.Option.{some}
use native.Mathlib.Omega.{arith}
use lib.IntN.{ℤ, pos}
use lib.ListN.{length, get_or, take, drop, length-append, length-drop, length-map, take-append-drop, get_or-map}
use lib.Seq.{drop_at, get_or-append-add, length-take-le}
use lib.Dec.{eqb}
use Rattle.model.specs.Basic.{same, each, lacks}
use Rattle.model.specs.Bounds.{owners_format}
use Rattle.model.specs.Model.{Model, owner_of}
use Rattle.model.specs.Lawful.{Lawful}
use Rattle.model.specs.Rules.{State, reached, changed, at, Environment}
use Rattle.model.specs.Linear.{linear, pointer, pointer_owner}
use Rattle.model.specs.Judge.{Answer, no, refused, has_values, row21, row22, row23, environment_holds, judge_environment}
use Rattle.model.specs.Runs.{IsState, Proposal, to_step, to_environment, proposed, Judge, model_judge, goes, Run, and_then, run, merged_run, beside, translate, translates, Reply, put, not_put, Alike, both_23, both_no, only_21, only_22, AllAlike, ended, then}
use Rattle.model.proofs.Tests.{not-false, not-true, each_elim, of_eq, eq_of, or_cases, or_none_left, or_none_right, or_other}
use Rattle.model.proofs.Lists.{same_of, same_self}
use Rattle.model.proofs.Alike.{merged_21, merged_22, merged_23, right_21, runs_alike}
use Rattle.model.proofs.Merged.{Shaped, shaped, environment_same, environments_alike}
use Rattle.model.proofs.Pointers.{pointer_value}
use Rattle.model.proofs.Owners.{pointer_owner_lem, pointer_owned}
use Rattle.theorem_runs.specs.Demand.{pointers_in}
use Rattle.theorem_runs.specs.Owned.{Asked, step, environment, Free, aim, elsewhere, answer_by, free_answer, merged_proposal, freely, is_shaped, free_run, free_merged_run, ChangesAlike}
use Rattle.theorem_runs.proofs.Answers.{answer_state}
use Rattle.theorem_runs.proofs.Moves.{moves_alike}
use Rattle.theorem_runs.proofs.Beside.{values_count}

-- two lists of one length with the same items are one
same_items : {A : Type 0} (d : A) (xs ys : List A) → length xs ≡ length ys → ((k : ℕ) → k < length xs → get_or xs k d ≡ get_or ys k d) → xs ≡ ys
same_items d [] [] n h = refl
same_items d [] (y ∷ ys) n h = absurd (omega arith)
same_items d (x ∷ xs) [] n h = absurd (omega arith)
same_items d (x ∷ xs) (y ∷ ys) n h = ap₂ (λ z zs. z ∷ zs) (h 0 (omega arith)) (same_items d xs ys (omega arith) (λ k l. h (suc k) (omega arith)))

module _ (m : Model) (lawful : Lawful m) (owned : owners_format ≤ m.format) where
  -- a pointer is owned by the merged automaton
  pointer_is_owned : (i : ℕ) → i < length m.automata → owner_of (linear m) (pointer m i) ≡ some 0
  unfolding linear
  pointer_is_owned i l = pointer_owner_lem m lawful.owners_are i l ∙ pointer_owned m.format owned

  module _ (s : State) (g : IsState m s) where
    shape : Shaped m s
    shape = shaped m s g.no_21 g.no_22

    -- so an environment step of the merged automaton keeps the pointers
    pointers_kept : (values pointers : List ℤ) → length values ≡ length m.variables → length pointers ≡ length m.automata → Environment (linear m) (beside s) (values ++ pointers) → pointers ≡ map pos s.locations
    unfolding beside pointer linear
    pointers_kept values pointers n p e =
        same_items (pos 0) pointers (map pos s.locations) (omega (arith, length-map s.locations pos, shape.locations_are)) (λ k l.
        let i : k < length m.automata = omega arith in
        let inside : length m.variables + k < length (linear m).variables = unfold linear in simp (length-append, length-map) (omega arith) in
        let kept = e.owned (length m.variables + k) 0 inside (pointer_is_owned k i) in
        sym (rw (← n) (get_or-append-add values pointers k (pos 0)))
        ∙ sym kept ∙ pointer_value m s.values s.locations shape.values_are k ∙ sym (get_or-map pos s.locations k 0))

    -- and it is one of the composition, where they are
    pub environments_free : (values pointers : List ℤ) → has_values m values ≡ true → length pointers ≡ length m.automata
        → Environment (linear m) (beside s) (values ++ pointers) ↔ ((pointers ≡ map pos s.locations) × Environment m s values)
    unfolding has_values
    environments_free values pointers h p = (
      λ e.
          let k = pointers_kept values pointers (eq_of _ _ h) p e in
          (k, alike.1 (subst (λ (zs : List ℤ). Environment (linear m) (beside s) (values ++ zs)) k e)),
      λ e. subst (λ (zs : List ℤ). Environment (linear m) (beside s) (values ++ zs)) (sym e.0) (alike.0 e.1),
    )
      where
        alike : Environment m s values ↔ Environment (linear m) (beside s) (values ++ map pos s.locations)
        alike = environments_alike m lawful s values g.no_21 g.no_22 (right_21 m s values g.no_21 h)

    kept_pointers : pointers_in m (beside s).values ≡ map pos s.locations
    unfolding beside pointers_in
    kept_pointers = drop_at s.values _ _ shape.values_are

    -- a state that the merged automaton changes to has its pointers as they were
    stays : (values : List ℤ) → IsState (linear m) (changed (beside s) values) → Environment (linear m) (beside s) values → pointers_in m values ≡ pointers_in m (beside s).values
    unfolding pointers_in
    stays values h e =
        let n = length m.variables in
        let count = values_count m (changed (beside s) values) h in
        let whole : values ≡ take n values ++ drop n values = sym (take-append-drop n values) in
        pointers_kept (take n values) (drop n values) (length-take-le n values (omega arith)) (omega (arith, length-drop n values)) (subst (Environment (linear m) (beside s)) whole e) ∙ sym kept_pointers

    pub changes_alike : ChangesAlike m s (beside s)
    changes_alike = record {
      environments = λ values pointers h n. rw kept_pointers (environments_free values pointers h n);
      can_change = (
        λ x. let y = (moves_alike m lawful s (beside s) g refl).can_change.0 x in (y.0, y.1, y.3),
        λ x. (moves_alike m lawful s (beside s) g refl).can_change.1 (x.0, x.1, stays x.0 x.1 x.2, x.2),
      );
    }

    -- a proposal to the environment judge with other locations
    module _ (locations : List ℕ) (values : List ℤ) (p : row21 m (reached locations values) ≡ false) (q : row22 m (reached locations values) ≡ false) where
      abbrev t : State
      t = reached locations values

      aimed : Shaped m t
      aimed = shaped m t p q

      -- where it has them, some pointer does not stay
      pointer_moves : same locations s.locations ≡ false → each (length m.automata) (λ k. lacks (pointer_owner m.format) || eqb (at s k) (at t k)) ≡ false
      unfolding lacks
      pointer_moves d = go _ refl
        where
          kept : each (length m.automata) (λ k. lacks (pointer_owner m.format) || eqb (at s k) (at t k)) ≡ true → locations ≡ s.locations
          kept e =
              same_items 0 locations s.locations (aimed.locations_are ∙ sym shape.locations_are) (λ k l.
              sym (eq_of _ _ (or_other (each_elim _ (λ k. lacks (pointer_owner m.format) || eqb (at s k) (at t k)) e k (omega (arith, aimed.locations_are))) (ap lacks (pointer_owned m.format owned)))))

          go : (b : Bool) → each (length m.automata) (λ k. lacks (pointer_owner m.format) || eqb (at s k) (at t k)) ≡ b → each (length m.automata) (λ k. lacks (pointer_owner m.format) || eqb (at s k) (at t k)) ≡ false
          go true e = absurd (true≢false (sym (ap (λ (l : List ℕ). same l s.locations) (kept e) ∙ same_self s.locations) ∙ d))
          go false e = e

      -- so the merged automaton says no, unless row 23 refuses it
      merged_elsewhere : same locations s.locations ≡ false → judge_environment (linear m) (beside s) (values ++ map pos locations) ≡ elsewhere m t
      unfolding judge_environment beside elsewhere
      merged_elsewhere d =
          rw (p, q, merged_21 m s shape, merged_21 m t aimed, merged_22 m s shape, merged_23 m s shape, merged_23 m t aimed, g.no_23, environment_same m lawful s t shape aimed, pointer_moves d, and-false (environment_holds m s t))

-- what is to show of a proposal: put to both, they answer alike, and the merged automaton stands beside the composition
-- again; not put, nothing moves
record Together (m : Model) (s : State) (x : Answer) (t : State) (b : Reply) (u : State) : Type 0 where
  alike : Alike x b
  there : u ≡ beside (goes x s t)
  state : IsState m (goes x s t)

first_alike : {a : Answer} {b : Reply} {as' : List Answer} {bs : List Reply} → AllAlike (a ∷ as') (b ∷ bs) → Alike a b
first_alike (then h r) = h

module _ (m : Model) (lawful : Lawful m) (s : State) (g : IsState m s) where
  -- of a proposal that the runs of before can have
  put_alike : (p : Proposal) → translates m p ≡ true → let y = model_judge (linear m) (beside s) (translate m (beside s) p) in
      Together m s (model_judge m s p) (proposed s p) (put y) (goes y (beside s) (proposed (beside s) (translate m (beside s) p)))
  unfolding run merged_run and_then
  put_alike p e =
      let r = runs_alike m lawful (p ∷ []) s g in
      record {
        alike = first_alike (rw (e, merged_run) at r.answers);
        there = rw (e, merged_run) at r.end;
        state = answer_state m s p g;
      }

  skip_alike : (p : Proposal) → translates m p ≡ false → Together m s (model_judge m s p) (proposed s p) not_put (beside s)
  unfolding run merged_run and_then
  skip_alike p e =
      let r = runs_alike m lawful (p ∷ []) s g in
      record {
        alike = first_alike (rw (e, merged_run) at r.answers);
        there = rw (e, merged_run) at r.end;
        state = answer_state m s p g;
      }

-- rows 21 and 22 of the composition where no pointer moves
elsewhere_not_put : (m : Model) (s t : State) → IsState m s → not (row21 m t || row22 m t) ≡ false → Together m s (elsewhere m t) t not_put (beside s)
unfolding elsewhere goes
elsewhere_not_put m s t g h = go (row21 m t) refl (row22 m t) refl (or_cases (row21 m t) (row22 m t) (not-false _ h))
  where
    go : (a : Bool) → row21 m t ≡ a → (b : Bool) → row22 m t ≡ b → (row21 m t ≡ true) ⊎ (row22 m t ≡ true) → Together m s (elsewhere m t) t not_put (beside s)
    go true e b f o = rw e (record { alike = only_21; there = refl; state = g })
    go false e true f o = rw (e, f) (record { alike = only_22; there = refl; state = g })
    go false e false f (inl q) = absurd (true≢false (sym q ∙ e))
    go false e false f (inr q) = absurd (true≢false (sym q ∙ f))

elsewhere_put : (m : Model) (s t u : State) → IsState m s → row21 m t ≡ false → row22 m t ≡ false → Together m s (elsewhere m t) t (put (elsewhere m t)) (goes (elsewhere m t) (beside s) u)
unfolding elsewhere goes
elsewhere_put m s t u g p q = rw (p, q) (go (row23 m t))
  where
    go : (b : Bool) → let x = cond b (refused 23) no in Together m s x t (put x) (goes x (beside s) u)
    go true = record { alike = both_23; there = refl; state = g }
    go false = record { alike = both_no; there = refl; state = g }

module _ (m : Model) (lawful : Lawful m) (owned : owners_format ≤ m.format) (s : State) (g : IsState m s) where
  still_22 : (values : List ℤ) → row22 m (reached s.locations values) ≡ false
  unfolding row22
  still_22 values = g.no_22

  -- where the locations stay, a proposal has the sheet's shape exactly if its values have
  shape_stays : (values : List ℤ) → not (row21 m (reached s.locations values) || row22 m (reached s.locations values)) ≡ has_values m values
  unfolding row21
  shape_stays values =
      let l : eqb (length s.locations) (length m.automata) ≡ true = of_eq _ _ (shaped m s g.no_21 g.no_22).locations_are in
      rw (still_22 values, l) (stays_so (has_values m values))
    where
      stays_so : (b : Bool) → not (not b || false) ≡ b
      stays_so true = refl
      stays_so false = refl

  abbrev Judged : Free → Type 0
  Judged p =
      (is_shaped m p ≡ true → let y = model_judge (linear m) (beside s) (freely p) in Together m s (free_answer m (model_judge m) s p) (aim p) (put y) (goes y (beside s) (proposed (beside s) (freely p))))
      × (is_shaped m p ≡ false → Together m s (free_answer m (model_judge m) s p) (aim p) not_put (beside s))

  -- a proposal to the environment judge, by whether it has the locations as they are
  environment_judged : (locations : List ℕ) (values : List ℤ) (b : Bool) → same locations s.locations ≡ b → Judged (record { asked = environment; locations = locations; values = values })
  unfolding is_shaped freely merged_proposal free_answer answer_by model_judge proposed
  environment_judged locations values true e =
      subst (λ (l : List ℕ). Judged (record { asked = environment; locations = l; values = values })) (sym (same_of locations s.locations e)) (
        λ h.
            let d : translate m (beside s) (to_environment values) ≡ to_environment (values ++ map pos s.locations) = unfold translate in ap (λ (zs : List ℤ). to_environment (values ++ zs)) (unfold pointers_in in kept_pointers m lawful owned s g) in
            let x = put_alike m lawful s g (to_environment values) (unfold translates in sym (shape_stays values) ∙ h) in
            rw (same_self s.locations, answer_by) (subst (λ (q : Proposal). let y = model_judge (linear m) (beside s) q in Together m s (judge_environment m s values) (changed s values) (put y) (goes y (beside s) (proposed (beside s) q))) d x),
        λ h. rw (same_self s.locations, answer_by) (skip_alike m lawful s g (to_environment values) (unfold translates in sym (shape_stays values) ∙ h)),
      )
  environment_judged locations values false e =
      let t = reached locations values in (
        λ h.
            let o = not-true _ h in
            let p = or_none_left (row21 m t) (row22 m t) o in
            let q = or_none_right (row21 m t) (row22 m t) o in
            rw (e, answer_by, merged_elsewhere m lawful owned s g locations values p q e) (elsewhere_put m s t (changed (beside s) (values ++ map pos locations)) g p q),
        λ h. rw (e, answer_by) (elsewhere_not_put m s t g h),
      )

  judged : (a : Asked) (locations : List ℕ) (values : List ℤ) → Judged (record { asked = a; locations = locations; values = values })
  unfolding is_shaped freely merged_proposal free_answer answer_by translates translate proposed
  judged (step a) locations values = (λ h. put_alike m lawful s g (to_step a locations values) h, λ h. skip_alike m lawful s g (to_step a locations values) h)
  judged environment locations values = environment_judged locations values (same locations s.locations) refl

-- the whole list: the answers are alike, the merged run ends beside the composition's, and that is at a state
pub record FreeAlike (m : Model) (judge merged : Judge) (s : State) (ps : List Free) : Type 0 where
  pub answers : AllAlike (free_run m judge s ps).answers (free_merged_run m merged (beside s) ps).answers
  pub end : (free_merged_run m merged (beside s) ps).end ≡ beside (free_run m judge s ps).end
  pub state : IsState m (free_run m judge s ps).end

module _ (m : Model) (merged : Judge) (u : State) (p : Free) (ps : List Free) where
  merged_put : is_shaped m p ≡ true → let y = merged u (freely p) in free_merged_run m merged u (p ∷ ps) ≡ and_then (put y) (free_merged_run m merged (goes y u (proposed u (freely p))) ps)
  unfolding free_merged_run
  merged_put e = rw (e, free_merged_run)

  merged_skip : is_shaped m p ≡ false → free_merged_run m merged u (p ∷ ps) ≡ and_then not_put (free_merged_run m merged u ps)
  unfolding free_merged_run
  merged_skip e = rw (e, free_merged_run)

-- one proposal more, by its reply and where the merged automaton is then
more_alike : (m : Model) (judge merged : Judge) (s : State) (p : Free) (ps : List Free) (b : Reply) (u : State)
    → free_merged_run m merged (beside s) (p ∷ ps) ≡ and_then b (free_merged_run m merged u ps)
    → Together m s (free_answer m judge s p) (aim p) b u
    → FreeAlike m judge merged (goes (free_answer m judge s p) s (aim p)) ps
    → FreeAlike m judge merged s (p ∷ ps)
unfolding free_run and_then
more_alike m judge merged s p ps b u c o r =
    let d : free_merged_run m merged (beside s) (p ∷ ps) ≡ and_then b (free_merged_run m merged (beside (goes (free_answer m judge s p) s (aim p))) ps) = c ∙ ap (λ (w : State). and_then b (free_merged_run m merged w ps)) o.there in
    record {
      answers = subst (λ (z : Run Reply). AllAlike (free_run m judge s (p ∷ ps)).answers z.answers) (sym d) (then o.alike r.answers);
      end = ap (λ (z : Run Reply). z.end) d ∙ r.end;
      state = r.state;
    }

pub free_alike : (m : Model) → Lawful m → owners_format ≤ m.format → (ps : List Free) (s : State) → IsState m s → FreeAlike m (model_judge m) (model_judge (linear m)) s ps
unfolding free_run free_merged_run
free_alike m lawful owned [] s g = record { answers = ended; end = refl; state = g }
free_alike m lawful owned (p ∷ ps) s g = go (is_shaped m p) refl (λ t h. free_alike m lawful owned ps t h)
  where
    both : Judged m lawful owned s g p
    both = judged m lawful owned s g p.asked p.locations p.values

    go : (b : Bool) → is_shaped m p ≡ b → ((t : State) → IsState m t → FreeAlike m (model_judge m) (model_judge (linear m)) t ps) → FreeAlike m (model_judge m) (model_judge (linear m)) s (p ∷ ps)
    go true e ih = let o = both.0 e in more_alike m (model_judge m) (model_judge (linear m)) s p ps _ _ (merged_put m (model_judge (linear m)) (beside s) p ps e) o (ih _ o.state)
    go false e ih = let o = both.1 e in more_alike m (model_judge m) (model_judge (linear m)) s p ps _ _ (merged_skip m (model_judge (linear m)) (beside s) p ps e) o (ih _ o.state)
