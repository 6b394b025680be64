-- The judges say yes exactly when the rules allow the step.
use mathlib.Core.Path.{◌≡◌, refl, sym, ap, ◌∙◌, subst}
use mathlib.Core.Bool.{Bool, true, false, cond, ◌&&◌, ◌||◌, true≢false}
use mathlib.Core.List.Memᴰ
use mathlib.Core.List.{List, ◌++◌, Memᴰ}
use mathlib.Core.Logic.{◌↔◌, ◌⊎◌, inl, inr}
use mathlib.Core.Option.{Option, none, some}
use Prim.Native.Nat.{ℕ, ◌+◌, ◌≤◌, ◌<◌}
use native.Mathlib.Omega.{arith}
use lib.IntN.{ℤ}
use lib.ListN.{length}
use lib.Dec.{eqb}
use Rattle.model.specs.Basic.{eq_z, every, exists, lacks, count_up}
use Rattle.model.specs.Predicate.{Pred}
use Rattle.model.specs.Composition.{Tree, par, syn, ini, leaf, leaves, starts}
use Rattle.model.specs.Model.{Model, automaton, location, owner_of, in_set}
use Rattle.model.specs.Lawful.{Lawful}
use Rattle.model.specs.Rules.{Phase, start, running, State, reached, at, val, holds_in, Starts, Taker, mentioned, Rests, rule_2, rule_5, rule_7, ini_rests, Moves, rule_1, rule_3, rule_4_left, rule_4_right, rule_6, ini_moves, Step, Environment, changed}
use Rattle.model.specs.Moves.{under, sides, alone, moves}
use Rattle.model.specs.Judge.{inits, invs, starts_hold, initial, settled, is_taker, updated, led, kept, framed, fits, step_holds, owned_keep, environment_holds, Answer, marked, yes, no, refused, row21, row22, row23, row24, judge_to, judge_step, judge_environment, StepPasses, EnvironmentPasses}
use Rattle.model.proofs.Tests.{and_intro, and_left, and_right, or_right, or_other, or_intro, or_less_left, or_less_right, or_cases, or_more_left, or_more_right, eq_of, eq_self, of_eq, eq_z_of, of_eq_z, each_intro, each_elim, exists_intro, exists_elim, exists_append, every_append}
use Rattle.model.proofs.Takers.{under_in, under_out, pairs_in, Sides, both, left_one, right_one, sides_out, sides_left, sides_right, within}
use Rattle.model.proofs.Numbered.{size, Numbered, numbered, size_is, Leaves, leaves_map, leaves_in, leaves_out}

-- who takes among joined takers
taker_append : (k : ℕ) (x y : List Taker) → is_taker k (x ++ y) ≡ (is_taker k x || is_taker k y)
unfolding is_taker
taker_append k x y = exists_append _ x y

-- the init counts in phase 0 alone
initial_elim : (p : Phase) (b : Bool) → initial p b ≡ true → p ≡ start → b ≡ true
unfolding initial
initial_elim start b h e = h
initial_elim running b h e = cc

initial_intro : (p : Phase) (b : Bool) → (p ≡ start → b ≡ true) → initial p b ≡ true
unfolding initial
initial_intro start b h = h refl
initial_intro running b h = refl

-- in phase 0 every P of a composition holds
module _ (s : State) where
  abbrev Started : Tree → Type 0
  Started c = s.phase ≡ start → every (holds_in s) (starts c) ≡ true

  started_both : (c d : Tree) → Started c → Started d → Started (par c d)
  unfolding starts
  started_both c d g h e = every_append (holds_in s) (starts c) (starts d) ∙ and_intro (g e) (h e)

  started_left : (c d : Tree) → Started (par c d) → Started c
  unfolding starts
  started_left c d h e = and_left (every (holds_in s) (starts c)) _ (sym (every_append (holds_in s) (starts c) (starts d)) ∙ h e)

  started_right : (c d : Tree) → Started (par c d) → Started d
  unfolding starts
  started_right c d h e = and_right (every (holds_in s) (starts c)) _ (sym (every_append (holds_in s) (starts c) (starts d)) ∙ h e)

  started_in : (p : Pred) (c : Tree) → Starts s p → Started c → Started (ini p c)
  unfolding starts every
  started_in p c g h e = and_intro (g.condition e) (h e)

  started_here : (p : Pred) (c : Tree) → Started (ini p c) → Starts s p
  unfolding starts every
  started_here p c h = record { condition = λ e. and_left (holds_in s p) (every (holds_in s) (starts c)) (h e) }

  started_below : (p : Pred) (c : Tree) → Started (ini p c) → Started c
  unfolding starts every
  started_below p c h e = and_right (holds_in s p) (every (holds_in s) (starts c)) (h e)

module _ (m : Model) (s t : State) where
  -- what a taking and a still automaton have in common
  record Ready (k : ℕ) : Type 0 where
    init : s.phase ≡ start → holds_in s (location m k (at s k)).init ≡ true
    inv : holds_in s (location m k (at s k)).inv ≡ true
    inv' : holds_in t (location m k (at t k)).inv ≡ true

  abbrev Stays : ℕ → Type 0
  Stays k = at s k ≡ at t k

  -- it takes, or it stays
  abbrev Kept : List Taker → ℕ → Type 0
  Kept x k = (is_taker k x || eqb (at s k) (at t k)) ≡ true

  rests_ready : {c : Tree} → Rests m s t c → Leaves Ready c
  unfolding Leaves
  rests_ready (rule_2 {k = k} h) = record {
    init = h.init;
    inv = h.inv;
    inv' = subst (λ (j : ℕ). holds_in t (location m k j).inv ≡ true) h.stays h.inv';
  }
  rests_ready (rule_5 g h) = (rests_ready g, rests_ready h)
  rests_ready (rule_7 h) = rests_ready h
  rests_ready (ini_rests g h) = rests_ready h

  rests_stays : {c : Tree} → Rests m s t c → Leaves Stays c
  unfolding Leaves
  rests_stays (rule_2 h) = h.stays
  rests_stays (rule_5 g h) = (rests_stays g, rests_stays h)
  rests_stays (rule_7 h) = rests_stays h
  rests_stays (ini_rests g h) = rests_stays h

  rests_started : {c : Tree} → Rests m s t c → Started s c
  unfolding starts every
  rests_started (rule_2 h) = λ e. refl
  rests_started (rule_5 {c = c} {d = d} g h) = started_both s c d (rests_started g) (rests_started h)
  rests_started (rule_7 h) = rests_started h
  rests_started (ini_rests {p = p} {c = c} g h) = started_in s p c g (rests_started h)

  rests_in : (c : Tree) → Started s c → Leaves Ready c → Leaves Stays c → Rests m s t c
  unfolding Leaves starts
  rests_in (par c d) b r h = rule_5 (rests_in c (started_left s c d b) r.0 h.0) (rests_in d (started_right s c d b) r.1 h.1)
  rests_in (syn list c) b r h = rule_7 (rests_in c b r h)
  rests_in (ini p c) b r h = ini_rests (started_here s p c b) (rests_in c (started_below s p c b) r h)
  rests_in (leaf k) b r h = rule_2 (record {
    stays = h;
    init = r.init;
    inv = r.inv;
    inv' = subst (λ (j : ℕ). holds_in t (location m k j).inv ≡ true) (sym h) r.inv';
  })

  -- more takers keep no less
  kept_left : (x y : List Taker) (k : ℕ) → Kept x k → Kept (x ++ y) k
  kept_left x y k h = rw (taker_append k x y) (or_more_left (is_taker k x) (is_taker k y) (eqb (at s k) (at t k)) h)

  kept_right : (x y : List Taker) (k : ℕ) → Kept y k → Kept (x ++ y) k
  kept_right x y k h = rw (taker_append k x y) (or_more_right (is_taker k x) (is_taker k y) (eqb (at s k) (at t k)) h)

  stays_kept : (x : List Taker) (k : ℕ) → Stays k → Kept x k
  stays_kept x k h = or_right (is_taker k x) (of_eq _ _ h)

  not_taker : (x : List Taker) (k : ℕ) → (is_taker k x ≡ true → ⊥) → Kept x k → Stays k
  not_taker x k h p = go (or_cases (is_taker k x) (eqb (at s k) (at t k)) p)
    where
      go : (is_taker k x ≡ true) ⊎ (eqb (at s k) (at t k) ≡ true) → Stays k
      go (inl q) = absurd (h q)
      go (inr q) = eq_of _ _ q

  -- a composition none of whose leaves takes rests
  rests : (c : Tree) (i : ℕ) → Numbered i c → (x : List Taker) → ((k : ℕ) → i ≤ k → k < i + size c → is_taker k x ≡ true → ⊥) → Started s c → Leaves Ready c → Leaves (Kept x) c → Rests m s t c
  rests c i w x h b r p = rests_in c b r (leaves_in c i w (λ k u z. not_taker x k (h k u z) (leaves_out (Kept x) c i w p k u z)))

  -- what a side keeps by its own takers
  kept_of_left : (c : Tree) (i : ℕ) → Numbered i c → (x y : List Taker) → ((k : ℕ) → i ≤ k → k < i + size c → is_taker k y ≡ true → ⊥) → Leaves (Kept (x ++ y)) c → Leaves (Kept x) c
  kept_of_left c i w x y h p = leaves_in c i w (λ k u z. or_less_left (is_taker k x) (is_taker k y) _ (h k u z) (rw (taker_append k x y) at (leaves_out (Kept (x ++ y)) c i w p k u z)))

  kept_of_right : (c : Tree) (i : ℕ) → Numbered i c → (x y : List Taker) → ((k : ℕ) → i ≤ k → k < i + size c → is_taker k x ≡ true → ⊥) → Leaves (Kept (x ++ y)) c → Leaves (Kept y) c
  kept_of_right c i w x y h p = leaves_in c i w (λ k u z. or_less_right (is_taker k x) (is_taker k y) _ (h k u z) (rw (taker_append k x y) at (leaves_out (Kept (x ++ y)) c i w p k u z)))

  -- what is tested at the start, in phase 0
  begun : settled m s t ≡ true → s.phase ≡ start → (inits m s && starts_hold m s) ≡ true
  unfolding settled
  begun h e = initial_elim s.phase (inits m s && starts_hold m s) (and_left (initial s.phase (inits m s && starts_hold m s)) _ h) e

  settled_started : settled m s t ≡ true → Started s m.tree
  unfolding starts_hold
  settled_started h e = and_right (inits m s) _ (begun h e)

  -- the tests of every automaton say that each is ready
  settled_ready : settled m s t ≡ true → (k : ℕ) → k < length m.automata → Ready k
  unfolding settled inits invs
  settled_ready h k l =
      let j = and_right (initial s.phase (inits m s && starts_hold m s)) (invs m s && invs m t) h in
      record {
        init = λ e. each_elim _ _ (and_left (inits m s) _ (begun h e)) k l;
        inv = each_elim _ _ (and_left (invs m s) (invs m t) j) k l;
        inv' = each_elim _ _ (and_right (invs m s) (invs m t) j) k l;
      }

  ready_settled : Started s m.tree → ((k : ℕ) → k < length m.automata → Ready k) → settled m s t ≡ true
  unfolding settled inits invs starts_hold
  ready_settled b h =
      and_intro (initial_intro s.phase (inits m s && starts_hold m s) (λ e. and_intro (each_intro _ _ (λ k l. (h k l).init e)) (b e)))
      (and_intro (each_intro _ _ (λ k l. (h k l).inv)) (each_intro _ _ (λ k l. (h k l).inv')))

module _ (m : Model) (s : State) (a : ℕ) (t : State) where
  -- the rules, flat: the takers are listed, and the rest is said leaf by leaf
  record Flat (c : Tree) (x : List Taker) : Type 0 where
    listed : Memᴰ x (moves m a c)
    started : Started s c
    ready : Leaves (Ready m s t) c
    updated_all : every (updated s t) x ≡ true
    led_all : every (led s t) x ≡ true
    kept_all : Leaves (Kept m s t x) c

  flat : {c : Tree} {x : List Taker} → Moves m s a t c x → Flat c x
  unfolding Leaves moves every is_taker exists sides updated led starts
  flat (rule_1 {k = k} {e = e} h) = record {
    listed = Memᴰ.map (alone k) (under_in a h.listed h.action);
    started = λ e. refl;
    ready = record { init = h.init; inv = h.inv; inv' = h.inv' };
    updated_all = and_intro h.update refl;
    led_all = and_intro (and_intro (of_eq _ _ h.from) (of_eq _ _ h.to)) refl;
    kept_all = rw (eq_self k);
  }
  flat (rule_3 {c = c} {d = d} {x = x} {y = y} p q g h) =
      let u = flat g in
      let w = flat h in
      record {
        listed = rw (p, q, sides) (pairs_in u.listed w.listed);
        started = started_both s c d u.started w.started;
        ready = (u.ready, w.ready);
        updated_all = every_append (updated s t) x y ∙ and_intro u.updated_all w.updated_all;
        led_all = every_append (led s t) x y ∙ and_intro u.led_all w.led_all;
        kept_all = (leaves_map (kept_left m s t x y) c u.kept_all, leaves_map (kept_right m s t x y) d w.kept_all);
      }
  flat (rule_4_left {c = c} {d = d} {x = x} g r q) =
      let u = flat g in
      record {
        listed = rw q (sides_left (in_set m a c) (moves m a d) u.listed);
        started = started_both s c d u.started (rests_started m s t r);
        ready = (u.ready, rests_ready m s t r);
        updated_all = u.updated_all;
        led_all = u.led_all;
        kept_all = (u.kept_all, leaves_map (stays_kept m s t x) d (rests_stays m s t r));
      }
  flat (rule_4_right {c = c} {d = d} {y = y} r h q) =
      let w = flat h in
      record {
        listed = rw q (sides_right (in_set m a d) (moves m a c) w.listed);
        started = started_both s c d (rests_started m s t r) w.started;
        ready = (rests_ready m s t r, w.ready);
        updated_all = w.updated_all;
        led_all = w.led_all;
        kept_all = (leaves_map (stays_kept m s t y) c (rests_stays m s t r), w.kept_all);
      }
  flat (rule_6 h) =
      let u = flat h in
      record { listed = u.listed; started = u.started; ready = u.ready; updated_all = u.updated_all; led_all = u.led_all; kept_all = u.kept_all }
  flat (ini_moves {p = p} {c = c} g h) =
      let u = flat h in
      record { listed = u.listed; started = started_in s p c g u.started; ready = u.ready; updated_all = u.updated_all; led_all = u.led_all; kept_all = u.kept_all }

  -- and back
  allowed : (c : Tree) (i : ℕ) → Numbered i c → {x : List Taker} → Flat c x → Moves m s a t c x
  unfolding Leaves Numbered size moves every updated led starts
  allowed (par c d) i w {x} f =
      go
      (λ y g. allowed c i w.0 {x = y} g)
      (λ y g. allowed d (i + size c) w.1 {x = y} g)
      (sides_out (in_set m a c) (in_set m a d) (moves m a c) (moves m a d) f.listed)
    where
      not_right : {y : List Taker} → Memᴰ y (moves m a c) → (k : ℕ) → i + size c ≤ k → k < i + size c + size d → is_taker k y ≡ true → ⊥
      not_right g k u z q = omega (arith, (within m a c i w.0 g k q).high)

      not_left : {y : List Taker} → Memᴰ y (moves m a d) → (k : ℕ) → i ≤ k → k < i + size c → is_taker k y ≡ true → ⊥
      not_left g k u z q = omega (arith, (within m a d (i + size c) w.1 g k q).low)

      go :
          ((y : List Taker) → Flat c y → Moves m s a t c y)
          → ((y : List Taker) → Flat d y → Moves m s a t d y)
          → Sides (in_set m a c) (in_set m a d) (moves m a c) (moves m a d) x
          → Moves m s a t (par c d) x
      go on-c on-d (both b e r) =
          let y = r.left in
          let z = r.right in
          let u : (every (updated s t) y && every (updated s t) z) ≡ true = sym (every_append (updated s t) y z) ∙ subst (λ (w : List Taker). every (updated s t) w ≡ true) r.whole f.updated_all in
          let l : (every (led s t) y && every (led s t) z) ≡ true = sym (every_append (led s t) y z) ∙ subst (λ (w : List Taker). every (led s t) w ≡ true) r.whole f.led_all in
          let kc : Leaves (Kept m s t (y ++ z)) c = subst (λ (w : List Taker). Leaves (Kept m s t w) c) r.whole f.kept_all.0 in
          let kd : Leaves (Kept m s t (y ++ z)) d = subst (λ (w : List Taker). Leaves (Kept m s t w) d) r.whole f.kept_all.1 in
          subst (λ (w : List Taker). Moves m s a t (par c d) w) (sym r.whole) (rule_3 b e
          (on-c y (record {
            listed = r.in_left;
            started = started_left s c d f.started;
            ready = f.ready.0;
            updated_all = and_left (every (updated s t) y) (every (updated s t) z) u;
            led_all = and_left (every (led s t) y) (every (led s t) z) l;
            kept_all = kept_of_left m s t c i w.0 y z (not_left r.in_right) kc;
          }))
          (on-d z (record {
            listed = r.in_right;
            started = started_right s c d f.started;
            ready = f.ready.1;
            updated_all = and_right (every (updated s t) y) (every (updated s t) z) u;
            led_all = and_right (every (led s t) y) (every (led s t) z) l;
            kept_all = kept_of_right m s t d (i + size c) w.1 y z (not_right r.in_left) kd;
          })))
      go on-c on-d (left_one e r) =
          rule_4_left
          (on-c x (record { listed = r; started = started_left s c d f.started; ready = f.ready.0; updated_all = f.updated_all; led_all = f.led_all; kept_all = f.kept_all.0 }))
          (rests m s t d (i + size c) w.1 x (not_right r) (started_right s c d f.started) f.ready.1 f.kept_all.1)
          e
      go on-c on-d (right_one b r) =
          rule_4_right
          (rests m s t c i w.0 x (not_left r) (started_left s c d f.started) f.ready.0 f.kept_all.0)
          (on-d x (record { listed = r; started = started_right s c d f.started; ready = f.ready.1; updated_all = f.updated_all; led_all = f.led_all; kept_all = f.kept_all.1 }))
          b
  allowed (syn list c) i w f = rule_6 (allowed c i w (record { listed = f.listed; started = f.started; ready = f.ready; updated_all = f.updated_all; led_all = f.led_all; kept_all = f.kept_all }))
  allowed (ini p c) i w f = ini_moves (started_here s p c f.started) (allowed c i w (record { listed = f.listed; started = started_below s p c f.started; ready = f.ready; updated_all = f.updated_all; led_all = f.led_all; kept_all = f.kept_all }))
  allowed (leaf k) i w {x} f =
      let r = Memᴰ.of_map (alone k) (under a (automaton m k).edges) f.listed in
      let e = r.0 in
      let q = under_out a (automaton m k).edges r.1 in
      let u : every (updated s t) (alone k e) ≡ true = subst (λ (z : List Taker). every (updated s t) z ≡ true) (sym r.2) f.updated_all in
      let l : every (led s t) (alone k e) ≡ true = subst (λ (z : List Taker). every (led s t) z ≡ true) (sym r.2) f.led_all in
      let l1 = and_left (led s t (record { automaton = k; edge = e })) true l in
      subst (λ (z : List Taker). Moves m s a t (leaf k) z) r.2 (rule_1 (record {
        listed = q.0;
        action = q.1;
        from = eq_of _ _ (and_left _ (eqb (at t k) e.to) l1);
        to = eq_of _ _ (and_right (eqb (at s k) e.from) _ l1);
        init = f.ready.init;
        inv = f.ready.inv;
        inv' = f.ready.inv';
        update = and_left _ true u;
      }))

module _ (m : Model) (ordered : leaves m.tree ≡ count_up 0 (length m.automata)) where
  -- what holds of every automaton holds of every leaf, and back
  on_leaves : {P : ℕ → Type 0} → ((k : ℕ) → k < length m.automata → P k) → Leaves P m.tree
  on_leaves h = leaves_in m.tree 0 (numbered m.tree _ ordered) (λ k l z. h k (omega (arith, size_is m.tree _ ordered)))

  on_automata : (P : ℕ → Type 0) → Leaves P m.tree → (k : ℕ) → k < length m.automata → P k
  on_automata P h k l = leaves_out P m.tree 0 (numbered m.tree _ ordered) h k (omega arith) (omega (arith, size_is m.tree _ ordered))

module _ (m : Model) (ordered : leaves m.tree ≡ count_up 0 (length m.automata)) (s : State) (a : ℕ) (t : State) where
  -- what the tests say and what the rules say of a step is one
  pub holds_step : t.phase ≡ running → step_holds m s a t ≡ true → Step m s a t (in_set m a m.tree)
  unfolding step_holds fits kept framed
  holds_step e h =
      let r = settled_ready m s t (and_left (settled m s t) _ h) in
      let f = exists_elim (fits m s t) _ (and_right (settled m s t) _ h) in
      let x = f.0 in
      let f1 = and_right (every (updated s t) x) _ f.2 in
      let f2 = and_right (every (led s t) x) _ f1 in
      record {
        takers = x;
        ended = e;
        moves = allowed m s a t m.tree 0 (numbered m.tree _ ordered) (record {
          listed = f.1;
          started = settled_started m s t (and_left (settled m s t) _ h);
          ready = on_leaves m ordered r;
          updated_all = and_left (every (updated s t) x) _ f.2;
          led_all = and_left (every (led s t) x) _ f1;
          kept_all = on_leaves m ordered (each_elim _ _ (and_left (kept m s t x) (framed m s t x) f2));
        });
        frame = λ k l e. eq_z_of _ _ (or_other (each_elim _ (λ i. mentioned i x || eq_z (val s i) (val t i)) (and_right (kept m s t x) (framed m s t x) f2) k l) e);
        marked = refl;
      }

  pub step_holds_lem : {b : Bool} → Step m s a t b → step_holds m s a t ≡ true
  unfolding step_holds fits kept framed
  step_holds_lem q =
      let f = flat m s a t q.moves in
      and_intro
      (ready_settled m s t f.started (on_automata m ordered (Ready m s t) f.ready))
      (exists_intro (fits m s t) f.listed (
      and_intro f.updated_all (
      and_intro f.led_all (
      and_intro (each_intro _ _ (on_automata m ordered (Kept m s t q.takers) f.kept_all))
      (each_intro _ _ (λ k l. or_intro (mentioned k q.takers) (eq_z (val s k) (val t k)) (λ e. of_eq_z _ _ (q.frame k l e))))))))

-- what does not lack is there
lacks_not : (o : Option ℕ) → lacks o ≡ false → (i : ℕ) × (o ≡ some i)
unfolding lacks
lacks_not none h = absurd (true≢false h)
lacks_not (some i) h = (i, refl)

module _ (m : Model) (ordered : leaves m.tree ≡ count_up 0 (length m.automata)) (s : State) (values : List ℤ) where
  -- and of an environment step
  pub holds_environment : environment_holds m s (changed s values) ≡ true → Environment m s values
  unfolding environment_holds owned_keep lacks
  holds_environment h =
      let t = changed s values in
      let q = and_left (settled m s t) (owned_keep m s t) h in
      record {
        still = rests_in m s t m.tree (settled_started m s t q) (on_leaves m ordered (settled_ready m s t q)) (on_leaves m ordered (λ k l. refl));
        owned = λ k i l e. eq_z_of _ _ (or_other (each_elim _ (λ k. lacks (owner_of m k) || eq_z (val s k) (val t k)) (and_right (settled m s t) (owned_keep m s t) h) k l) (ap lacks e));
      }

  pub environment_holds_lem : Environment m s values → environment_holds m s (changed s values) ≡ true
  unfolding environment_holds owned_keep
  environment_holds_lem h =
      let t = changed s values in
      and_intro
      (ready_settled m s t (rests_started m s t h.still) (on_automata m ordered (Ready m s t) (rests_ready m s t h.still)))
      (each_intro _ _ (λ k l. or_intro (lacks (owner_of m k)) (eq_z (val s k) (val t k)) (λ e. let o = lacks_not (owner_of m k) e in of_eq_z _ _ (h.owned k o.0 l o.1))))

-- what a yes says of the rows before it
not_refused : (b : Bool) (row : ℕ) (x y : Answer) → cond b (refused row) x ≡ y → ((j : ℕ) → refused j ≡ y → ⊥) → (b ≡ false) × (x ≡ y)
not_refused true row x y h n = absurd (n row h)
not_refused false row x y h n = (refl, h)

not_no : (b : Bool) (x y : Answer) → cond b x no ≡ y → (no ≡ y → ⊥) → (b ≡ true) × (x ≡ y)
not_no true x y h n = (refl, h)
not_no false x y h n = absurd (n h)

pub refused_marked : {b : Bool} (j : ℕ) → refused j ≡ marked b → ⊥
refused_marked j h = let z : ◌≡◌ {A = ℕ} 0 1 = cc in omega arith

pub no_marked : {b : Bool} → no ≡ marked b → ⊥
no_marked h = let z : ◌≡◌ {A = ℕ} 0 1 = cc in omega arith

pub refused_yes : (j : ℕ) → refused j ≡ yes → ⊥
refused_yes j h = let z : ◌≡◌ {A = ℕ} 0 1 = cc in omega arith

pub no_yes : no ≡ yes → ⊥
no_yes h = let z : ◌≡◌ {A = ℕ} 0 1 = cc in omega arith

marked_same : {b c : Bool} → marked b ≡ marked c → b ≡ c
marked_same h = cc

-- the step judge says yes with mark b exactly when no row refuses and the rules allow the step with that mark
pub step_by_rules : (m : Model) → Lawful m → (s : State) (a : ℕ) (locations : List ℕ) (values : List ℤ) (b : Bool)
    → let t = reached locations values in (judge_step m s a locations values ≡ marked b) ↔ (StepPasses m s a t × Step m s a t b)
unfolding judge_to
step_by_rules m lawful s a locations values b = (there, back)
  where
    t : State
    t = reached locations values

    there : judge_to m s a t ≡ marked b → StepPasses m s a t × Step m s a t b
    there h =
        let x1 = not_refused (row21 m s || row21 m t) 21 _ (marked b) h refused_marked in
        let x2 = not_refused (row22 m s || row22 m t) 22 _ (marked b) x1.1 refused_marked in
        let x3 = not_refused (row23 m s || row23 m t) 23 _ (marked b) x2.1 refused_marked in
        let x4 = not_refused (row24 m a) 24 _ (marked b) x3.1 refused_marked in
        let x5 = not_no (step_holds m s a t) _ (marked b) x4.1 no_marked in
        let q = holds_step m lawful.tree.in_order s a t refl x5.0 in (
          record { no_21 = x1.0; no_22 = x2.0; no_23 = x3.0; no_24 = x4.0 },
          record { takers = q.takers; ended = refl; moves = q.moves; frame = q.frame; marked = sym (marked_same x5.1) },
        )

    back : StepPasses m s a t × Step m s a t b → judge_to m s a t ≡ marked b
    back h = rw (h.0.no_21, h.0.no_22, h.0.no_23, h.0.no_24, step_holds_lem m lawful.tree.in_order s a t h.1, h.1.marked)

-- the environment judge says yes exactly when no row refuses and the rules allow it
pub environment_by_rules : (m : Model) → Lawful m → (s : State) (values : List ℤ) → (judge_environment m s values ≡ yes) ↔ (EnvironmentPasses m s values × Environment m s values)
unfolding judge_environment
environment_by_rules m lawful s values = (there, back)
  where
    there : judge_environment m s values ≡ yes → EnvironmentPasses m s values × Environment m s values
    there h =
        let x1 = not_refused (row21 m s || row21 m (changed s values)) 21 _ yes h refused_yes in
        let x2 = not_refused (row22 m s) 22 _ yes x1.1 refused_yes in
        let x3 = not_refused (row23 m s || row23 m (changed s values)) 23 _ yes x2.1 refused_yes in
        let x4 = not_no (environment_holds m s (changed s values)) yes yes x3.1 no_yes in (
          record { no_21 = x1.0; no_22 = x2.0; no_23 = x3.0 },
          holds_environment m lawful.tree.in_order s values x4.0,
        )

    back : EnvironmentPasses m s values × Environment m s values → judge_environment m s values ≡ yes
    back h = rw (h.0.no_21, h.0.no_22, h.0.no_23, environment_holds_lem m lawful.tree.in_order s values h.1)
