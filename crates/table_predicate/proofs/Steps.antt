-- One step of the definitions in specs/Walk.antt, as the code tests it.
use mathlib.Core.Path.{◌≡◌, refl, sym, ap, ◌∙◌}
use mathlib.Core.List.{List, [], ◌∷◌}
use Prim.Native.Nat.{ℕ, zero, suc, ◌+◌, ◌-◌, ◌*◌, ◌/◌, ◌<◌, ◌≤◌}
use native.Mathlib.Numerals.{sub-one}
use native.Mathlib.Omega.{arith}
use borrow.Author.Tests.{lt-ltb, le-ltb}
use lib.IntN.{pos}
use lib.ListN.{length, get_or}
use Rattle.model.specs.Predicate.{Range, range}
use Rattle.model.specs.Table.{unbiased}
use Rattle.node_words.specs.declared.Node.{Node}
use Rattle.node_words.specs.declared.Node.TheVariants.{All, Any, Not, Imp, Number, Old, New, Add, Sub, Mul, If, Stray}
use Rattle.std.specs.Prelude.{Result, Ok, Err, ⊤, false}
use Rattle.std.specs.Result.{IsErrAnd}
use Rattle.model.specs.Bounds.{max_depth}
use Rattle.table_predicate.specs.declared.Interval.{Interval}
use Rattle.table_predicate.specs.declared.Halt.{Halt}
use Rattle.table_predicate.specs.declared.Join.TheVariants as J
use Rattle.node_words.specs.Nodes.{meant, node_of}
use Rattle.node_words.proofs.NodeLaws.{Other, by_others, begin_predicates, begin_expressions}
use Rattle.table_predicate.specs.declared.Stopped.{Stopped}
use Rattle.table_predicate.specs.declared.Stopped.TheVariants as S
use Rattle.table_predicate.specs.declared.Walked.{Walked}
use Rattle.table_predicate.specs.declared.Ended.{Ended}
use Rattle.table_predicate.specs.Walk.{Reach, Fall, place, ended, fall, halt, unreached, reach_of, with_node, with_walk, with_interval, declared_of, go_on, go_into, go_past, entered, reached, span, walk_at, couple, join_of, joined, joined_from, joined_to, gather, predicate_by, expression_by, predicate_at, expression_at}

-- the next node
module _ (words : List ℕ) (w : Walked) where
  pub enter_none : length words ≤ w.next → Err (ended S.Stray w) ≡ entered words w
  unfolding entered
  enter_none l = rw (le-ltb w.next (length words) l, entered)

  pub enter_next : w.next < length words → Ok (record { walk = record { leaves = w.leaves; next = w.next + 1 }; node = node_of (get_or words w.next 0) }) ≡ entered words w
  unfolding entered
  enter_next l = rw (lt-ltb w.next (length words) l, entered)

-- a declared range, by its variable's words
pub range_at_lem : (ws : List ℕ) (k : ℕ) (d : Range) → k < length ws / 3 → range (unbiased (get_or ws (3 * k) 0)) (unbiased (get_or ws (3 * k + 1) 0)) ≡ get_or (declared_of ws) k d
unfolding declared_of
range_at_lem [] k d h = absurd (omega arith)
range_at_lem (a ∷ []) k d h = absurd (omega arith)
range_at_lem (a ∷ b ∷ []) k d h = absurd (omega arith)
range_at_lem (a ∷ b ∷ c ∷ ws) zero d h = refl
range_at_lem (a ∷ b ∷ c ∷ ws) (suc k) d h =
    let e : 3 * suc k ≡ suc (suc (suc (3 * k))) = omega arith in
    let f : suc (suc (suc (3 * k))) + 1 ≡ suc (suc (suc (3 * k + 1))) = omega arith in
    rw (e, f) (range_at_lem ws k d (omega arith))

pub range_none : (ws : List ℕ) (k : ℕ) (d : Range) → length ws / 3 ≤ k → d ≡ get_or (declared_of ws) k d
unfolding declared_of
range_none [] k d h = refl
range_none (a ∷ []) k d h = refl
range_none (a ∷ b ∷ []) k d h = refl
range_none (a ∷ b ∷ c ∷ ws) zero d h = absurd (omega arith)
range_none (a ∷ b ∷ c ∷ ws) (suc k) d h = range_none ws k d (omega arith)

by_error : {A E : Type 0} (r : Result A E) (e : E) → IsErrAnd r (λ x. x ≡ e) → r ≡ Err e
by_error (Ok n) e h = absurd h
by_error (Err x) e h = ap Err h

-- two expressions, joined: the walk ends in the first, or in the second, or comes past both
module _ (E : Walked → Result Reach Fall) (f : Range → Range → Range) (n : Walked) (q : Result Interval Halt) (u : Walked) (hq : with_interval q u ≡ E n) where
  pub joined_first : (h : Halt) → q ≡ Err h → (r : Interval) (y : Walked) → reach_of y r ≡ reached u (f (span h.interval) (range (pos 0) (pos 0)))
      → with_interval (Err (record { why = h.why; interval = r })) y ≡ joined E f n
  unfolding joined_from with_interval
  joined_first h e r y hr = rw (← hq, e, hr)

  module _ (x : Interval) (i : q ≡ Ok x) (t : Result Interval Halt) (v : Walked) (ht : with_interval t v ≡ E u) where
    pub joined_second : (h : Halt) → t ≡ Err h → (r : Interval) (y : Walked) → reach_of y r ≡ reached v (f (span x) (span h.interval))
        → with_interval (Err (record { why = h.why; interval = r })) y ≡ joined E f n
    unfolding joined_from joined_to with_interval
    joined_second h e r y hr = rw (← hq, i, ← ht, e, hr)

    pub joined_both : (b : Interval) → t ≡ Ok b → (r : Interval) (y : Walked) → reach_of y r ≡ reached v (f (span x) (span b)) → with_interval (Ok r) y ≡ joined E f n
    unfolding joined_from joined_to with_interval
    joined_both b e r y hr = rw (← hq, i, ← ht, e, hr)

pub ruleset joined_laws = (joined_first, joined_second, joined_both)

-- all nodes but `eq` and `le`
abbrev uncompared : List Node
uncompared = All 0 ∷ Any 0 ∷ Not ∷ Imp ∷ Number 0 ∷ Old 0 ∷ New 0 ∷ Add ∷ Sub ∷ Mul ∷ If ∷ Stray ∷ []

-- the next operand: the walk comes past it, or ends; and no operand is left
module _ (P : Walked → Result Walked Ended) (n : ℕ) (w : Walked) where
  module _ (q : Result ⊤ Stopped) (u : Walked) (hq : with_walk q u ≡ P w) where
    pub gather_next : (rest : ℕ) → rest + 1 ≡ n → (t : ⊤) → q ≡ Ok t → gather P rest u ≡ gather P n w
    unfolding gather go_on with_walk
    gather_next rest z t e = let more : n ≡ suc rest = omega arith in rw (more, ← hq, e)

    pub gather_ended : 0 < n → (s : Stopped) → q ≡ Err s → with_walk (Err s) u ≡ gather P n w
    unfolding gather go_on with_walk
    gather_ended z s e = go n z
      where
        go : (k : ℕ) → 0 < k → with_walk (Err s) u ≡ gather P k w
        go zero l = absurd (omega arith)
        go (suc k) l = rw (← hq, e)

  pub gather_done : n ≡ 0 → (t : ⊤) → with_walk (Ok t) w ≡ gather P n w
  unfolding gather with_walk
  gather_done z t = rw z

pub ruleset gather_laws = (gather_next, gather_ended, gather_done)

module _ (words ranges : List ℕ) where
  abbrev P : ℕ → Walked → Result Walked Ended
  P = predicate_at words ranges

  abbrev E : ℕ → Walked → Result Reach Fall
  E = expression_at words ranges

  -- no depth is left
  pub limit_p : (left : ℕ) (w : Walked) → left ≡ 0 → with_walk (Err S.Deep) w ≡ P left w
  unfolding predicate_at expression_at with_walk
  limit_p left w z = rw z

  pub limit_e : (left : ℕ) (w : Walked) → left ≡ 0 → (h : Halt) → h ≡ halt S.Deep → with_interval (Err h) w ≡ E left w
  unfolding predicate_at expression_at with_interval
  limit_e left w z h e = rw (z, e)

  module _ (left : ℕ) (w : Walked) (z : left ≡ 0 → ⊥) (a : Result Node Stopped) (v : Walked) (here : with_node a v ≡ entered words w) where
    abbrev P₁ : Walked → Result Walked Ended
    P₁ = P (left - 1)

    abbrev E₁ : Walked → Result Reach Fall
    E₁ = E (left - 1)

    level_p : P left w ≡ go_on (with_node a v) (λ e. predicate_by P₁ E₁ (meant e.node) e.walk)
    unfolding predicate_at expression_at
    level_p = rw here (go left z)
      where
        go : (n : ℕ) → (n ≡ 0 → ⊥) → P n w ≡ go_on (entered words w) (λ e. predicate_by (P (n - 1)) (E (n - 1)) (meant e.node) e.walk)
        go zero y = absurd (y refl)
        go (suc n) y = rw (sub-one (suc n))

    level_e : E left w ≡ go_into (with_node a v) (λ e. expression_by P₁ E₁ (declared_of ranges) (meant e.node) e.walk)
    unfolding predicate_at expression_at
    level_e = rw here (go left z)
      where
        go : (n : ℕ) → (n ≡ 0 → ⊥) → E n w ≡ go_into (entered words w) (λ e. expression_by (P (n - 1)) (E (n - 1)) (declared_of ranges) (meant e.node) e.walk)
        go zero y = absurd (y refl)
        go (suc n) y = rw (sub-one (suc n))

    -- no node comes
    pub ended_p : (s : Stopped) → a ≡ Err s → with_walk (Err s) v ≡ P left w
    unfolding go_on with_node with_walk
    ended_p s h = sym (level_p ∙ rw h)

    pub ended_e : (s : Stopped) → a ≡ Err s → (r : Result Interval Halt) → IsErrAnd r (λ x. x ≡ halt s) → with_interval r v ≡ E left w
    unfolding go_into with_node with_interval
    ended_e s h r z = rw (by_error r (halt s) z) (sym (level_e ∙ rw h))

    -- the next node
    module _ (m : Node) (is : a ≡ Ok m) where
      -- by the node, one of a predicate's or of an expression's
      by_node_p : (k : Node) → m ≡ k → P left w ≡ predicate_by P₁ E₁ (meant k) v
      unfolding go_on with_node
      by_node_p k f = level_p ∙ rw (is, ← f)

      by_node_e : (k : Node) → m ≡ k → E left w ≡ expression_by P₁ E₁ (declared_of ranges) (meant k) v
      unfolding go_into with_node
      by_node_e k f = level_e ∙ rw (is, ← f)

      module _ (r : Result Walked Ended) where
        pub all_p : (k : ℕ) → m ≡ All k → (i : ℕ) → i ≡ k → r ≡ gather P₁ i v → r ≡ P left w
        unfolding predicate_by meant
        all_p k h i hi hr = rw (by_node_p (All k) h, ← hi) hr

        pub any_p : (k : ℕ) → m ≡ Any k → (i : ℕ) → i ≡ k → r ≡ gather P₁ i v → r ≡ P left w
        unfolding predicate_by meant
        any_p k h i hi hr = rw (by_node_p (Any k) h, ← hi) hr

        pub not_p : m ≡ Not → r ≡ P₁ v → r ≡ P left w
        unfolding predicate_by meant
        not_p h hr = rw (by_node_p Not h) hr

      -- of two predicates, the second where the first is there
      module _ (h : m ≡ Imp) (q : Result ⊤ Stopped) (u : Walked) (hq : with_walk q u ≡ P₁ v) where
        imp_is : P left w ≡ go_on (with_walk q u) P₁
        unfolding predicate_by meant
        imp_is = by_node_p Imp h ∙ ap (λ (x : Result Walked Ended). go_on x P₁) (sym hq)

        pub imp_p : (t : ⊤) → q ≡ Ok t → (r : Result Walked Ended) → r ≡ P₁ u → r ≡ P left w
        unfolding go_on with_walk
        imp_p t i r hr = rw (imp_is, i) hr

        pub imp_ended : (s : Stopped) → q ≡ Err s → with_walk (Err s) u ≡ P left w
        unfolding go_on with_walk
        imp_ended s i = sym (imp_is ∙ rw i)

      pub other_p : Other begin_predicates m → with_walk (Err S.Stray) v ≡ P left w
      unfolding predicate_by meant with_walk
      other_p o =
          let said : Result Walked Ended = Err (ended S.Stray v) in
          let same : (k : ℕ) → said ≡ said = λ k. refl in
          rw (by_node_p m refl)
          (by_others (λ (k : Node). said ≡ predicate_by P₁ E₁ (meant k) v) begin_predicates m o
          (tt, tt, tt, tt, tt, tt, same, same, same, refl, refl, refl, refl, refl))

      pub other_e : Other begin_expressions m → (h : Halt) → h ≡ halt S.Stray → with_interval (Err h) v ≡ E left w
      unfolding expression_by meant with_interval
      other_e o h z =
          let said : Result Reach Fall = Err (fall S.Stray (unreached v)) in
          let same : (k : ℕ) → said ≡ said = λ k. refl in
          rw (z, by_node_e m refl)
          (by_others (λ (k : Node). said ≡ expression_by P₁ E₁ (declared_of ranges) (meant k) v) begin_expressions m o
          (same, same, refl, refl, refl, refl, tt, tt, tt, tt, tt, tt, tt, refl))

      -- of two expressions, the second where the first is there
      module _ (o : Other uncompared m) (q : Result Interval Halt) (u : Walked) (hq : with_interval q u ≡ E₁ v) where
        pair_is : P left w ≡ go_past (with_interval q u) (λ x. go_past (E₁ x.walk) (λ y. Ok y.walk))
        unfolding predicate_by meant
        pair_is =
            rw (by_node_p m refl, hq)
            (sym (by_others (λ (k : Node). couple E₁ v ≡ predicate_by P₁ E₁ (meant k) v) uncompared m o
            (tt, tt, tt, tt, refl, refl, tt, tt, tt, tt, tt, tt, tt, tt)))

        pub pair_ended : (h : Halt) → q ≡ Err h → (r : Result ⊤ Stopped) → IsErrAnd r (λ x. x ≡ h.why) → with_walk r u ≡ P left w
        unfolding go_past with_walk with_interval
        pair_ended h i r z = rw (by_error r h.why z) (sym (pair_is ∙ rw i))

        module _ (x : Interval) (i : q ≡ Ok x) (t : Result Interval Halt) (y : Walked) (ht : with_interval t y ≡ E₁ u) where
          pub pair_half : (h : Halt) → t ≡ Err h → (r : Result ⊤ Stopped) → IsErrAnd r (λ x. x ≡ h.why) → with_walk r y ≡ P left w
          unfolding go_past with_walk with_interval
          pair_half h j r z = rw (by_error r h.why z) (sym (pair_is ∙ rw (i, ← ht, j)))

          pub pair_p : (b : Interval) → t ≡ Ok b → (k : ⊤) → with_walk (Ok k) y ≡ P left w
          unfolding go_past with_walk with_interval
          pair_p b j k = sym (pair_is ∙ rw (i, ← ht, j))

      module _ (r : Interval) (y : Walked) where
        pub number_e : (k : ℕ) → m ≡ Number k → reach_of y r ≡ reached v (range (unbiased k) (unbiased k)) → with_interval (Ok r) y ≡ E left w
        unfolding expression_by meant with_interval
        number_e k h hr = rw (by_node_e (Number k) h, hr)

        pub old_e : (k : ℕ) → m ≡ Old k → (i : ℕ) → i ≡ k → reach_of y r ≡ reached v (get_or (declared_of ranges) i (range (pos 0) (pos 0))) → with_interval (Ok r) y ≡ E left w
        unfolding expression_by meant with_interval
        old_e k h i hi hr = rw (by_node_e (Old k) h, ← hi, hr)

        pub new_e : (k : ℕ) → m ≡ New k → (i : ℕ) → i ≡ k → reach_of y r ≡ reached v (get_or (declared_of ranges) i (range (pos 0) (pos 0))) → with_interval (Ok r) y ≡ E left w
        unfolding expression_by meant with_interval
        new_e k h i hi hr = rw (by_node_e (New k) h, ← hi, hr)

      -- the joining nodes
      module _ (r : Result Reach Fall) where
        pub sum_e : m ≡ Add → r ≡ joined E₁ (join_of J.Sum) v → r ≡ E left w
        unfolding expression_by meant join_of
        sum_e h hr = rw (by_node_e Add h) hr

        pub difference_e : m ≡ Sub → r ≡ joined E₁ (join_of J.Difference) v → r ≡ E left w
        unfolding expression_by meant join_of
        difference_e h hr = rw (by_node_e Sub h) hr

        pub product_e : m ≡ Mul → r ≡ joined E₁ (join_of J.Product) v → r ≡ E left w
        unfolding expression_by meant join_of
        product_e h hr = rw (by_node_e Mul h) hr

      -- two expressions behind a predicate
      module _ (h : m ≡ If) (g : Result ⊤ Stopped) (p : Walked) (hg : with_walk g p ≡ P₁ v) where
        if_is : E left w ≡ go_into (with_walk g p) (joined E₁ (join_of J.Either))
        unfolding expression_by meant join_of
        if_is = by_node_e If h ∙ ap (λ (x : Result Walked Ended). go_into x (joined E₁ (join_of J.Either))) (sym hg)

        pub if_ended : (s : Stopped) → g ≡ Err s → (r : Result Interval Halt) → IsErrAnd r (λ x. x ≡ halt s) → with_interval r p ≡ E left w
        unfolding go_into with_walk with_interval
        if_ended s i r z = rw (by_error r (halt s) z) (sym (if_is ∙ rw i))

        pub either_e : (k : ⊤) → g ≡ Ok k → (r : Result Reach Fall) → r ≡ joined E₁ (join_of J.Either) p → r ≡ E left w
        unfolding go_into with_walk
        either_e k i r hr = hr ∙ sym (if_is ∙ rw i)

  -- the whole walk
  module _ (at : ℕ) (q : Result ⊤ Stopped) (u : Walked) (hq : with_walk q u ≡ P max_depth (place false at)) where
    pub walk_came : (t : ⊤) → q ≡ Ok t → Ok u ≡ walk_at words ranges at
    unfolding walk_at with_walk
    walk_came t e = rw (← hq, e)

    pub walk_ended : (s : Stopped) → q ≡ Err s → Err (ended s u) ≡ walk_at words ranges at
    unfolding walk_at with_walk
    walk_ended s e = rw (← hq, e)

pub ruleset predicate_laws = (limit_p, ended_p, all_p, any_p, not_p, imp_p, imp_ended, pair_p, pair_ended, pair_half, other_p)

pub ruleset expression_laws =
    (limit_e, ended_e, number_e, old_e, new_e, sum_e, difference_e, product_e, if_ended, either_e, other_e)

pub ruleset walk_laws = (walk_came, walk_ended)
