-- A linearization is the merged automaton, but for the order of its edges and how often each stands there.
use mathlib.Core.Path.{◌≡◌, refl, sym, ap, ap₂, ◌∙◌, subst}
use mathlib.Core.Bool.{Bool, true, false, ◌&&◌}
use mathlib.Core.List.Memᴰ
use mathlib.Core.List.{List, [], ◌∷◌, ◌++◌, map, Memᴰ}
use mathlib.Core.Logic.{◌↔◌, ◌⊎◌, inl, inr}
use mathlib.Core.Option.{Option, none, some}
use Prim.Native.Nat.{ℕ, ◌+◌, ◌-◌, ◌<◌}
use native.Mathlib.Omega.{arith}
use borrow.Author.Tests.{ltb-false}
use lib.ListN.{length}
use lib.Seq.{ext_get_or}
use lib.Dec.{eqb, leb, ltb}
use Rattle.model.specs.Basic.{member}
use Rattle.model.specs.Bounds.{owners_format}
use Rattle.model.specs.Predicate.{all, preds}
use Rattle.model.specs.Model.{Model, Location, Edge, Automaton, owner_of}
use Rattle.model.specs.Limits.{rises}
use Rattle.model.specs.Lawful.{Lawful}
use Rattle.model.specs.Linear.{linear}
use Rattle.model.proofs.Tests.{and_right, lt_of, eq_self, exists_intro}
use Rattle.model.proofs.Bits.{rises_cons}
use Rattle.theorem_definition4.specs.Definition4.{pointer_to, clauses, Owned, IsLinearization}
use Rattle.theorem_definition4.proofs.Table3Is.{leads_one, conditions_are, syncs_one}
use Rattle.theorem_definition4.proofs.Definition4Is.{rises_in, linear_is}

-- a list that rises from above `last` holds only what is above
above : (A last : ℕ) (ks : List ℕ) → rises A last ks ≡ true → (a : ℕ) → Memᴰ a ks → last < a
unfolding member
above A last ks r a i = (rises_in A last ks r a (exists_intro (eqb a) i (eq_self a))).0

later_rises : (A last k : ℕ) (ks : List ℕ) → rises A last (k ∷ ks) ≡ true → rises A k ks ≡ true
later_rises A last k ks r = and_right (ltb last k && leb k A) (rises A k ks) (sym (rises_cons A last k ks) ∙ r)

-- two lists that rise begin with the same, if each holds the other's first
first_same : (A k j : ℕ) (ks js : List ℕ) → rises A k ks ≡ true → rises A j js ≡ true → (k ≡ j) ⊎ Memᴰ k js → (j ≡ k) ⊎ Memᴰ j ks → k ≡ j
first_same A k j ks js r s (inl e) y = e
first_same A k j ks js r s (inr h) (inl e) = sym e
first_same A k j ks js r s (inr h) (inr i) =
    let l = above A j js s k h in
    let u = above A k ks r j i in
    omega arith

-- and what stands behind it in the one stands behind it in the other
rest_in : (A k j : ℕ) (ks js : List ℕ) → k ≡ j → rises A k ks ≡ true → ((a : ℕ) → Memᴰ a (k ∷ ks) → Memᴰ a (j ∷ js)) → (a : ℕ) → Memᴰ a ks → Memᴰ a js
rest_in A k j ks js e r f a i = go (Memᴰ.cases_cons (f a (Memᴰ.tail i)))
  where
    go : (a ≡ j) ⊎ Memᴰ a js → Memᴰ a js
    go (inl q) = let l = above A k ks r a i in absurd (omega arith)
    go (inr h) = h

-- so lists that rise and hold the same are the same
rising_same : (A last : ℕ) (ks js : List ℕ) → rises A last ks ≡ true → rises A last js ≡ true
    → ((a : ℕ) → Memᴰ a ks → Memᴰ a js) → ((a : ℕ) → Memᴰ a js → Memᴰ a ks)
    → ks ≡ js
rising_same A last [] [] r s f g = refl
rising_same A last [] (j ∷ js) r s f g = absurd (Memᴰ.not-nil (g j (Memᴰ.head refl)))
rising_same A last (k ∷ ks) [] r s f g = absurd (Memᴰ.not-nil (f k (Memᴰ.head refl)))
rising_same A last (k ∷ ks) (j ∷ js) r s f g =
    let r' = later_rises A last k ks r in
    let s' = later_rises A last j js s in
    let e = first_same A k j ks js r' s' (Memᴰ.cases_cons (f k (Memᴰ.head refl))) (Memᴰ.cases_cons (g j (Memᴰ.head refl))) in
    ap₂ (λ x xs. x ∷ xs) e
    (rising_same A k ks js r' (subst (λ x. rises A x js ≡ true) (sym e) s') (rest_in A k j ks js e r' f) (rest_in A j k js ks (sym e) s' g))

-- a location is its two predicates
location_same : (x y : Location) → x.init ≡ y.init → x.inv ≡ y.inv → x ≡ y
location_same x y p q = ap₂ (λ u w. record { init = u; inv = w }) p q

-- who owns a variable is settled, and so the owners are the same
owner_same : (m l k : Model) (n : ℕ) → Owned m l n → Owned m k n → (i : ℕ) → i < length m.variables + n → owner_of l i ≡ owner_of k i
owner_same m l k n p q i h = go (ltb i v) refl
  where
    v : ℕ
    v = length m.variables

    variable : i < v → (o : Option ℕ) → owner_of m i ≡ o → owner_of l i ≡ owner_of k i
    variable b none e = p.unowned i b e ∙ sym (q.unowned i b e)
    variable b (some j) e = p.owned i j b e ∙ sym (q.owned i j b e)

    pointer : (j : ℕ) → j < n → (c : Bool) → ltb m.format owners_format ≡ c → owner_of l (v + j) ≡ owner_of k (v + j)
    pointer j b true e = let f = lt_of m.format owners_format e in p.pointers_before j b f ∙ sym (q.pointers_before j b f)
    pointer j b false e = let f = ltb-false m.format owners_format e in p.pointers j b f ∙ sym (q.pointers j b f)

    go : (c : Bool) → ltb i v ≡ c → owner_of l i ≡ owner_of k i
    go true e = variable (lt_of i v e) (owner_of m i) refl
    go false e =
        let f = ltb-false i v e in
        let there : v + (i - v) ≡ i = omega arith in
        subst (λ j. owner_of l j ≡ owner_of k j) there (pointer (i - v) (omega arith) (ltb m.format owners_format) refl)

owners_same : (m l k : Model) (n : ℕ) → Owned m l n → Owned m k n → l.owners ≡ k.owners
owners_same m l k n p q =
    ext_get_or none l.owners k.owners (p.as_many ∙ sym q.as_many) (λ i h. owner_same m l k n p q i (subst (λ s. i < s) p.as_many h))

-- what two linearizations of one model share: all but the list of edges, and of this the set
pub record SameAutomaton (l k : Model) : Type 0 where
  pub format : l.format ≡ k.format
  pub actions : l.actions ≡ k.actions
  pub variables : l.variables ≡ k.variables
  pub owners : l.owners ≡ k.owners
  pub tree : l.tree ≡ k.tree
  pub one : Automaton
  pub other : Automaton
  pub first_automata : l.automata ≡ one ∷ []
  pub other_automata : k.automata ≡ other ∷ []
  pub sync : one.sync ≡ other.sync
  pub locations : one.locations ≡ other.locations
  pub edges : (e : Edge) → Memᴰ e one.edges ↔ Memᴰ e other.edges

pub linearizations_same : (m l k : Model) → IsLinearization m l → IsLinearization m k → SameAutomaton l k
linearizations_same m l k p q =
    let same_fs : p.fs ≡ q.fs = leads_one m (λ x. x.init) m.tree p.fs q.fs p.leads_fs q.leads_fs in
    let same_us : p.us ≡ q.us = (conditions_are m.tree p.us).0 p.leads_us ∙ sym ((conditions_are m.tree q.us).0 q.leads_us) in
    let same_gs : p.gs ≡ q.gs = leads_one m (λ x. x.inv) m.tree p.gs q.gs p.leads_gs q.leads_gs in
    let same_A : p.A ≡ q.A = syncs_one m p.leads_A q.leads_A in
    let init = p.init ∙ ap₂ (λ fs us. all (preds (clauses (length m.variables) 0 fs ++ us))) same_fs same_us ∙ sym q.init in
    let inv = p.inv ∙ ap (λ gs. all (preds (clauses (length m.variables) 0 gs))) same_gs ∙ sym q.inv in
    record {
      format = p.format ∙ sym q.format;
      actions = p.actions ∙ sym q.actions;
      variables = p.variables ∙ ap (λ fs. m.variables ++ map pointer_to fs) same_fs ∙ sym q.variables;
      owners = owners_same m l k (length q.fs) (subst (λ fs. Owned m l (length fs)) same_fs p.owners) q.owners;
      tree = p.tree ∙ sym q.tree;
      one = p.automaton;
      other = q.automaton;
      first_automata = p.automata;
      other_automata = q.automata;
      sync =
          rising_same m.actions 0 p.automaton.sync q.automaton.sync p.rising q.rising
          (λ a i. (q.sync a).1 (subst (Memᴰ a) same_A ((p.sync a).0 i))) (λ a i. (p.sync a).1 (subst (Memᴰ a) (sym same_A) ((q.sync a).0 i)));
      locations = p.locations ∙ ap (λ x. x ∷ []) (location_same p.x q.x init inv) ∙ sym q.locations;
      edges = λ e. (λ i. (q.edges e).1 ((p.edges e).0 i), λ i. (p.edges e).1 ((q.edges e).0 i));
    }

-- so Definition 4's automaton is the merged one
pub linearization_is_linear : (m l : Model) → Lawful m → IsLinearization m l → SameAutomaton l (linear m)
linearization_is_linear m l lawful p = linearizations_same m l (linear m) p (linear_is m lawful)
