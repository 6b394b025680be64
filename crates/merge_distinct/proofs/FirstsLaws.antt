-- Each way out of the code of src/firsts.rt.
use mathlib.Core.Path.{◌≡◌, refl, sym, ap, ◌∙◌}
use mathlib.Core.Bool.{Bool, true, false, not, ◌||◌}
use mathlib.Core.List.Memᴰ
use mathlib.Core.List.{List, [], ◌∷◌, ◌++◌, Memᴰ}
use mathlib.Core.Logic.{◌⊎◌, inl, inr}
use Prim.Native.Nat.{ℕ, zero, suc, ◌+◌, ◌-◌, ◌≤◌, ◌<◌, min}
use native.Mathlib.Omega.{arith}
use native.Mathlib.Numerals.{add-one}
use Rattle.std.specs.List.{list_any}
use Rattle.std.proofs.lemmas.List.{take_all}
use Rattle.std.proofs.lemmas.Bool.{cases_lt}
use lib.ListN.{length, get_or, take, drop, set, length-set, drop_of_length-le}
use lib.Seq.{drop-cons, take-suc-set, length-take-le, get_or-set_same, get_or-set_other}
use lib.Dec.{eqb}
use borrow.Author.Tests.{le-leb, lt-leb, eqb-true, eqb-false, not-true, not-false}
use Rattle.model.specs.Basic.{exists}
use Rattle.model.specs.Bounds.{max_edges}
use Rattle.model.proofs.Tests.{exists_elim}
use Rattle.table_places.specs.AtMost.{at_most}
use Rattle.table_places.specs.Outline.{after_predicate, update_place, first_edge}
use Rattle.merge_distinct.specs.Equality.{same_edge_at, hash_at}
use Rattle.merge_distinct.specs.Firsts.{edges_of, listed_in, repeats_by, with_edge, firsts_from, first_ones, Gathered}
use Rattle.merge_distinct.proofs.SameHash.{same_hash}

-- `edges_of`
pub edges_of_is : (t : List ℕ) (edges w r : ℕ) → w ≡ get_or t edges 0 → r ≡ at_most max_edges w → r ≡ edges_of t edges
unfolding edges_of
edges_of_is t edges w r ew er = rw (er, ew)

-- `is_listed`: what is looked for in an array from a place on is what there is in that part of it
module _ (t firsts : List ℕ) (at : ℕ) (long : length firsts ≡ max_edges) where
  listed_is : (i n : ℕ) → listed_in t at firsts i n ≡ exists (same_edge_at t at) (take n (drop i firsts))
  unfolding listed_in exists
  listed_is i zero = refl
  listed_is i (suc n) =
      elim (cases_lt i max_edges) [
        | inl h ↦
            let inside : i < length firsts = omega arith in
            rw (lt-leb max_edges i h, listed_in, drop-cons firsts i 0 inside, ← add-one i)
            (go (same_edge_at t at (get_or firsts i 0)) (listed_is (i + 1) n))
        | inr h ↦
            let past : length firsts ≤ i = omega arith in
            rw (le-leb max_edges i h, listed_in, drop_of_length-le firsts past)
      ]
    where
      go : (b : Bool) → listed_in t at firsts (i + 1) n ≡ exists (same_edge_at t at) (take n (drop (i + 1) firsts))
          → elim b [ true ↦ true | false ↦ listed_in t at firsts (i + 1) n ]
          ≡ (b || exists (same_edge_at t at) (take n (drop (i + 1) firsts)))
      go true e = refl
      go false e = e

any_is : {A : Type 0} (f : A → Bool) (xs : List A) → list_any f xs ≡ exists f xs
unfolding exists
any_is f [] = refl
any_is f (x ∷ xs) = ap (λ b. f x || b) (any_is f xs)

-- the first n of 512, where n may be more
pub first_of : (firsts : List ℕ) (n m : ℕ) → length firsts ≡ 512 → m ≡ min n 512 → take m firsts ≡ take n firsts
first_of firsts n m long e =
    elim (cases_lt 512 n) [
      | inl h ↦
          let a : length firsts ≤ m = omega arith in
          let b : length firsts ≤ n = omega arith in
          take_all m firsts a ∙ sym (take_all n firsts b)
      | inr h ↦ let z : m ≡ n = omega arith in ap (λ k. take k firsts) z
    ]

pub any_listed : (t firsts : List ℕ) (at n m : ℕ) → length firsts ≡ 512 → m ≡ min n 512
    → list_any (same_edge_at t at) (take m firsts) ≡ listed_in t at firsts 0 n
any_listed t firsts at n m long e =
    any_is (same_edge_at t at) (take m firsts) ∙ ap (exists (same_edge_at t at)) (first_of firsts n m long e)
    ∙ sym (listed_is t firsts at long 0 n)

-- `is_repeat`
module _ (t firsts : List ℕ) (at n : ℕ) (seen : Bool) where
  pub repeat_look : seen ≡ true → (r : Bool) → r ≡ listed_in t at firsts 0 n → r ≡ repeats_by t at seen firsts n
  unfolding repeats_by
  repeat_look h r e = rw (h, repeats_by) e

  pub repeat_not : seen ≡ false → seen ≡ repeats_by t at seen firsts n
  unfolding repeats_by
  repeat_not h = rw (h, repeats_by)

-- what the equations in src/firsts.rt need
pub ruleset firsts_laws = (edges_of_is, repeat_look, repeat_not)

-- every edge of a list has its hash marked
pub record Marked (t list : List ℕ) (seen : List Bool) : Type 0 where
  pub marks : (p : ℕ) → Memᴰ p list → get_or seen (hash_at t p) false ≡ true

-- so an edge whose hash is not marked equals none of them
unseen : (t list : List ℕ) (seen : List Bool) (at : ℕ) → Marked t list seen → get_or seen (hash_at t at) false ≡ false
    → exists (same_edge_at t at) list ≡ false
unseen t list seen at m h = go (exists (same_edge_at t at) list) refl
  where
    go : (b : Bool) → exists (same_edge_at t at) list ≡ b → b ≡ false
    go false e = refl
    go true e =
        let found = exists_elim (same_edge_at t at) list e in
        let there : get_or seen (hash_at t at) false ≡ true =
        rw (same_hash t at found.0 found.2) (m.marks found.0 found.1) in
        sym there ∙ h

-- is_repeat finds an edge in the list if it is there
repeats_is : (t firsts : List ℕ) (seen : List Bool) (at n : ℕ) → n ≤ max_edges → length firsts ≡ max_edges
    → Marked t (take n firsts) seen
    → repeats_by t at (get_or seen (hash_at t at) false) firsts n ≡ exists (same_edge_at t at) (take n firsts)
unfolding repeats_by
repeats_is t firsts seen at n h long m = go (get_or seen (hash_at t at) false) refl
  where
    go : (b : Bool) → get_or seen (hash_at t at) false ≡ b
        → repeats_by t at b firsts n ≡ exists (same_edge_at t at) (take n firsts)
    go true e = listed_is t firsts at long 0 n
    go false e = sym (unseen t (take n firsts) seen at m e)

-- a mark more
mark_again : (t list : List ℕ) (seen : List Bool) (h : ℕ) → h < length seen → Marked t list seen
    → Marked t list (set seen h true)
mark_again t list seen h l m = record { marks = λ p e. go (hash_at t p) (m.marks p e) }
  where
    go : (k : ℕ) → get_or seen k false ≡ true → get_or (set seen h true) k false ≡ true
    go k e = cases (eqb k h) refl
      where
        cases : (b : Bool) → eqb k h ≡ b → get_or (set seen h true) k false ≡ true
        cases true f = rw (eqb-true k h f) (get_or-set_same seen h true false l)
        cases false f = get_or-set_other seen h k true false (eqb-false k h f) ∙ e

-- an edge more, with its mark
mark_one : (t list : List ℕ) (seen : List Bool) (at : ℕ) → hash_at t at < length seen → Marked t list seen
    → Marked t (list ++ at ∷ []) (set seen (hash_at t at) true)
mark_one t list seen at l m = record { marks = λ p e. go p (Memᴰ.append_cases list e) }
  where
    again : Marked t list (set seen (hash_at t at) true)
    again = mark_again t list seen (hash_at t at) l m

    go : (p : ℕ) → Memᴰ p list ⊎ Memᴰ p (at ∷ []) → get_or (set seen (hash_at t at) true) (hash_at t p) false ≡ true
    go p (inl e) = again.marks p e
    go p (inr e) = rw (Memᴰ.eq_of_singleton e) (get_or-set_same seen (hash_at t at) true false l)

-- `gather`: what is listed, and what is to come
pub record Gathering (t whole : List ℕ) (seen : List Bool) (firsts : List ℕ) (left place n : ℕ) : Type 0 where
  pub goes : firsts_from t left place (take n firsts) ≡ whole
  pub marked : Marked t (take n firsts) seen
  pub room : n + left ≤ 512
  pub long : length firsts ≡ 512
  pub table : length seen ≡ 4096

-- nothing is listed before the first turn
pub gather_begun : (t : List ℕ) (seen : List Bool) (firsts : List ℕ) (edges n at : ℕ) → n ≡ edges_of t edges
    → at ≡ first_edge t edges → n ≤ 512 → length firsts ≡ 512 → length seen ≡ 4096
    → Gathering t (first_ones t edges) seen firsts (n - 0) at 0
unfolding first_ones
gather_begun t seen firsts edges n at en ea few long table =
    let z : n - 0 ≡ n = omega arith in
    rw z
    record {
      goes = rw (en, ea);
      marked = record { marks = λ p e. absurd (Memᴰ.not-nil e) };
      room = omega arith;
      long = long;
      table = table;
    }

module _ (t whole : List ℕ) (seen : List Bool) (firsts : List ℕ) (total i place n : ℕ)
    (u : Gathering t whole seen firsts (total - i) place n) where
  -- after the last turn all is listed
  pub gather_end : total ≤ i → Gathered whole firsts n
  unfolding firsts_from
  gather_end y =
      let z : total - i ≡ 0 = omega arith in
      let stands : take n firsts ≡ whole = rw z at u.goes in
      let inside : n ≤ length firsts = omega (arith, u.room, u.long) in
      let count : n ≡ length (take n firsts) = sym (length-take-le n firsts inside) in
      record { count = count ∙ ap (length {A = ℕ}) stands; fits = omega (arith, u.room); stands = stands }

  module _ (y : i < total) (h : ℕ) (s r : Bool) (q p : ℕ) (eh : h ≡ hash_at t place) (low : h < 4096)
      (es : s ≡ get_or seen h false) (er : r ≡ repeats_by t place s firsts n)
      (eq : q ≡ update_place t place) (ep : p ≡ after_predicate t q) where
    -- it is found exactly where it is in the list
    found : r ≡ exists (same_edge_at t place) (take n firsts)
    found = er ∙ rw (es, eh) (repeats_is t firsts seen place n (omega (arith, u.room)) u.long u.marked)

    -- the definition goes on from the list with this edge
    onward : (list : List ℕ) → list ≡ with_edge t place (take n firsts) → firsts_from t (total - (i + 1)) p list ≡ whole
    unfolding firsts_from
    onward list e =
        let k : total - i ≡ suc (total - (i + 1)) = omega arith in
        rw (ep, eq, e) (rw k at u.goes)

    -- the hash is a place of the table of marks
    inside : h < length seen
    inside = omega (arith, u.table)

    -- a repeat is not listed
    pub gather_old : not r ≡ false → (array : List ℕ) (count : ℕ) → array ≡ firsts → count ≡ n
        → Gathering t whole (set seen h true) array (total - (i + 1)) p count
    unfolding with_edge
    gather_old e array count ea ec = rw (ea, ec)
        record {
          goes = onward (take n firsts) (rw (sym found ∙ not-false r e, with_edge));
          marked = mark_again t (take n firsts) seen h inside u.marked;
          room = omega (arith, u.room);
          long = u.long;
          table = length-set seen h true ∙ u.table;
        }

    -- any other edge is
    pub gather_new : not r ≡ true → (array : List ℕ) (count : ℕ) → array ≡ set firsts n place → count ≡ n + 1
        → Gathering t whole (set seen h true) array (total - (i + 1)) p count
    unfolding with_edge
    gather_new e array count ea ec =
        let some : n < length firsts = omega (arith, u.room, u.long) in
        let more : take (n + 1) (set firsts n place) ≡ take n firsts ++ place ∷ [] =
        rw (add-one n) (take-suc-set firsts n place some) in
        rw (ea, ec)
        record {
          goes = onward (take (n + 1) (set firsts n place)) (more ∙ rw (sym found ∙ not-true r e, with_edge));
          marked = rw (more, eh) (mark_one t (take n firsts) seen place (rw eh at inside) u.marked);
          room = omega (arith, u.room);
          long = length-set firsts n place ∙ u.long;
          table = length-set seen h true ∙ u.table;
        }

pub ruleset gather_laws = (gather_begun, gather_end)
