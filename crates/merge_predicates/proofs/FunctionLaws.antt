-- Each way out of the code of src/functions.rt.
use mathlib.Core.Path.{◌≡◌, refl, sym, ap, ap₂, ◌∙◌}
use mathlib.Core.Bool.{Bool, true, false}
use mathlib.Core.List.{List, [], ◌∷◌, ◌++◌}
use Prim.Native.Nat.{ℕ, zero, suc, ◌+◌, ◌-◌, ◌*◌, ◌≤◌, ◌<◌}
use native.Mathlib.Omega.{arith}
use native.Mathlib.Nat.{add-zero}
use native.Mathlib.Numerals.{add-one}
use lib.ListN.{length, get_or, set, replicate, length-append}
use lib.Seq.{sets}
use Rattle.model.specs.Bounds.{max_locations}
use Rattle.table_places.specs.declared.layout.Layout.{Layout}
use Rattle.table_places.specs.AtMost.{at_most}
use Rattle.table_places.specs.Outline.{after_predicate, location_count, first_location}
use Rattle.table_places.specs.Layout.{automata_of}
use Rattle.merge_predicates.specs.declared.functions.Functions.{Functions}
use Rattle.merge_predicates.specs.Functions.{part_at, values_from, domain_at, domains_from, functions_from}
use Rattle.merge_predicates.specs.Functions.{functions_of}

-- `part`
module _ (t : List ℕ) (inv : Bool) (at : ℕ) where
  pub part_inv : inv ≡ true → (r : ℕ) → r ≡ after_predicate t at → r ≡ part_at t inv at
  unfolding part_at
  part_inv e r f = rw (e, f)

  pub part_init : inv ≡ false → at ≡ part_at t inv at
  unfolding part_at
  part_init e = rw e

-- `domain`
pub domain_is : (t : List ℕ) (at n r : ℕ) → n ≡ location_count t at → r ≡ at_most max_locations n → r ≡ domain_at t at
unfolding domain_at
domain_is t at n r e f = rw (f, e)

-- `values`: what is noted so far, and what is to come
pub noting_begun : (t : List ℕ) (inv : Bool) (at count first : ℕ) (ps : List ℕ)
    → sets ps at (values_from t inv (at + count - at) first) ≡ sets ps at (values_from t inv count first)
noting_begun t inv at count first ps = let z : at + count - at ≡ count = omega arith in rw z

module _ (t : List ℕ) (inv : Bool) (whole : List ℕ) (end place i : ℕ) (ps : List ℕ)
    (u : sets ps i (values_from t inv (end - i) place) ≡ whole) where
  pub noting_turn : i < end → (p a b : ℕ) → p ≡ part_at t inv place → a ≡ after_predicate t place
      → b ≡ after_predicate t a → sets (set ps i p) (i + 1) (values_from t inv (end - (i + 1)) b) ≡ whole
  unfolding values_from
  noting_turn h p a b ep ea eb =
      let n : end - i ≡ suc (end - (i + 1)) = omega arith in
      rw (add-one i, eb, ea, ep) (rw (n, add-one i) at u)

  pub noting_end : end ≤ i → ps ≡ whole
  unfolding values_from
  noting_end h = let z : end - i ≡ 0 = omega arith in rw z at u

-- what the equations in src/functions.rt need
pub ruleset function_laws = (part_inv, part_init, domain_is, noting_begun, noting_turn, noting_end)

-- some stores, and then others
sets_append : (vs ws l : List ℕ) (i : ℕ) → sets l i (vs ++ ws) ≡ sets (sets l i vs) (i + length vs) ws
sets_append [] ws l i = ap (λ k. sets l k ws) (sym (add-zero i))
sets_append (v ∷ vs) ws l i =
    let z : suc i + length vs ≡ i + suc (length vs) = omega arith in
    sets_append vs ws (set l i v) (suc i) ∙ ap (λ k. sets (sets (set l i v) (suc i) vs) k ws) z

pub values_length : (t : List ℕ) (inv : Bool) (n at : ℕ) → length (values_from t inv n at) ≡ n
unfolding values_from
values_length t inv zero at = refl
values_length t inv (suc n) at = ap suc (values_length t inv n (after_predicate t (after_predicate t at)))

-- `functions`: what is gathered of the automata before i, and what is to come
pub record Gathering (t : List ℕ) (inv : Bool) (automata : List ℕ) (count i total : ℕ) (ds ps : List ℕ) : Type 0 where
  pub sizes : sets ds i (domains_from t automata i (count - i))
      ≡ sets (replicate 16 0) 0 (domains_from t automata 0 count)
  pub values : sets ps total (functions_from t inv automata i (count - i))
      ≡ sets (replicate 512 0) 0 (functions_from t inv automata 0 count)
  pub counted : total + length (functions_from t inv automata i (count - i))
      ≡ length (functions_from t inv automata 0 count)
  pub few : count ≤ 16
  pub room : total ≤ 32 * i

module _ (t : List ℕ) (inv : Bool) (automata : List ℕ) where
  pub gathering_begun : (count : ℕ) → count ≤ 16 → Gathering t inv automata count 0 0 (replicate 16 0) (replicate 512 0)
  gathering_begun count few =
      let z : count - 0 ≡ count = omega arith in
      record {
        sizes = rw z;
        values = rw z;
        counted = rw z (omega arith);
        few = few;
        room = omega arith;
      }

  module _ (count i total : ℕ) (ds ps : List ℕ) (u : Gathering t inv automata count i total ds ps) where
    pub gathering_turn : i < count → (at d f r : ℕ) (new : List ℕ) → at ≡ get_or automata i 0 → d ≡ domain_at t at
        → d ≤ 32 → f ≡ first_location t at → r ≡ total + d
        → new ≡ sets ps total (values_from t inv d f) → Gathering t inv automata count (i + 1) r (set ds i d) new
    unfolding domains_from functions_from
    gathering_turn h at d f r new ea ed small ef er en =
        let c : count - i ≡ suc (count - (i + 1)) = omega arith in
        let here = get_or automata i 0 in
        let first = values_from t inv (domain_at t here) (first_location t here) in
        let others = functions_from t inv automata (i + 1) (count - (i + 1)) in
        let size : domain_at t here ≡ d = sym (ed ∙ ap (domain_at t) ea) in
        let is : first ≡ values_from t inv d f = ap₂ (values_from t inv) size (sym (ef ∙ ap (first_location t) ea)) in
        let long : length first ≡ d = values_length t inv (domain_at t here) (first_location t here) ∙ size in
        let next : total + length first ≡ r = ap (λ n. total + n) long ∙ sym er in
        record {
          sizes = let p = u.sizes in rw (← size, add-one i) (rw (c, add-one i) at p);
          values =
              let p = u.values in
              let q : sets ps total (first ++ others)
              ≡ sets (replicate 512 0) 0 (functions_from t inv automata 0 count) = rw c at p in
              ap₂ (λ (l : List ℕ) (n : ℕ). sets l n others) (en ∙ ap (sets ps total) (sym is)) (sym next)
              ∙ sym (sets_append first others ps total) ∙ q;
          counted =
              let p = u.counted in
              let q : total + length (first ++ others) ≡ length (functions_from t inv automata 0 count) = rw c at p in
              omega (arith, length-append first others);
          few = u.few;
          room = let b = u.room in omega arith;
        }

    pub gathering_end : count ≤ i → (x : Layout) → automata ≡ x.sets → count ≡ automata_of x
        → ◌≡◌ {A = Functions} (record { domains = ds; places = ps; total = total }) (functions_of t x inv)
    unfolding functions_of domains_from functions_from
    gathering_end h x es ec =
        let z : count - i ≡ 0 = omega arith in
        let sizes : ds ≡ sets (replicate 16 0) 0 (domains_from t automata 0 count) = rw z at u.sizes in
        let values : ps ≡ sets (replicate 512 0) 0 (functions_from t inv automata 0 count) = rw z at u.values in
        let sum : total + 0 ≡ length (functions_from t inv automata 0 count) = rw z at u.counted in
        let all : total ≡ length (functions_from t inv automata 0 count) = omega arith in
        rw (sizes, values, all, es, ec)

pub ruleset gathering_laws = (gathering_begun, gathering_turn, gathering_end)
