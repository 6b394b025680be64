-- What the walk finds: past the words of a predicate whose words stand at a place, and that some predicate's stand there.
use mathlib.Core.Path.{◌≡◌, refl, ap}
use mathlib.Core.Bool.{true, false, not}
use mathlib.Core.List.{List, [], ◌∷◌, map, flat_map, Memᴰ}
use mathlib.Core.Option.{Option}
use Prim.Native.Nat.{ℕ, ◌+◌, ◌<◌, ◌≤◌}
use lib.ListN.{take, drop}
use Rattle.model.specs.Basic.{every}
use Rattle.model.specs.Bounds.{max_depth}
use Rattle.model.specs.Predicate.{Pred, words, node_count, depth, Range, range, all_stay}
use Rattle.model.specs.Lines.{variable_lines}
use Rattle.model.specs.Limits.{in_range}
use Rattle.model.specs.Lawful.{LawfulRange}
use Rattle.model.specs.Table.{code, word_of, line_words}
use Rattle.model.proofs.Decode.{number_back, words_back}
use Rattle.std.specs.Prelude.{Ok, Err}
use Rattle.table_predicate.specs.declared.Stopped.TheVariants.{Deep}
use Rattle.table_predicate.specs.declared.Walked.{Walked}
use Rattle.table_predicate.specs.Walk.{place, ended, declared_of, walk_at}
use Rattle.table_predicate.proofs.Standing.{standing, there}
use Rattle.table_predicate.proofs.Forward.{went_p}
use Rattle.table_predicate.proofs.Back.{back_p}

-- and ranges from the words of their lines
pub declared_back : (l : List Range) (os : List (Option ℕ)) → ((x : Range) → Memᴰ x l → LawfulRange x) → declared_of (flat_map line_words (variable_lines l os)) ≡ l
unfolding declared_of line_words range flat_map variable_lines
declared_back [] os h = refl
declared_back (x ∷ l) [] h =
    let r = h x (Memᴰ.head refl) in
    rw (number_back x.low r.low, number_back x.high r.high)
    (ap (λ (s : List Range). x ∷ s) (declared_back l [] (λ y i. h y (Memᴰ.tail i))))
declared_back (x ∷ l) (o ∷ os) h =
    let r = h x (Memᴰ.head refl) in
    rw (number_back x.low r.low, number_back x.high r.high)
    (ap (λ (s : List Range). x ∷ s) (declared_back l os (λ y i. h y (Memᴰ.tail i))))

-- p's words stand at a place, at most as deep as they may, and the walk came past them
pub record Stands (ws ranges : List ℕ) (at : ℕ) (p : Pred) : Type 0 where
  pub there : map word_of (take (node_count p) (drop at ws)) ≡ words p
  pub shallow : depth p ≤ max_depth
  pub walked : walk_at ws ranges at ≡ Ok (place (not (all_stay (declared_of ranges) p)) (at + node_count p))

module _ (ws ranges : List ℕ) (lawful : (x : Range) → Memᴰ x (declared_of ranges) → LawfulRange x) (at : ℕ) where
  -- by the words that the numbers say
  module _ (p : Pred) (here : map word_of (take (node_count p) (drop at ws)) ≡ words p) where
    pub walk_words : depth p ≤ max_depth → walk_at ws ranges at ≡ Ok (place (not (all_stay (declared_of ranges) p)) (at + node_count p))
    unfolding walk_at node_count
    walk_words h = (went_p ws ranges lawful p max_depth false at _ (standing ws at (node_count p) (words p) here)).fine h

    pub words_deep : max_depth < depth p → (v : Walked) × (walk_at ws ranges at ≡ Err (ended Deep v))
    unfolding walk_at node_count
    words_deep h = ((went_p ws ranges lawful p max_depth false at _ (standing ws at (node_count p) (words p) here)).dead h)

  -- by their codes
  module _ (p : Pred) (here : take (node_count p) (drop at ws) ≡ map code (words p)) (ranged : every in_range (words p) ≡ true) where
    said : map word_of (take (node_count p) (drop at ws)) ≡ words p
    said = rw here (words_back (words p) ranged)

    pub walk_of : depth p ≤ max_depth → walk_at ws ranges at ≡ Ok (place (not (all_stay (declared_of ranges) p)) (at + node_count p))
    walk_of h = walk_words p said h

    pub walk_deep : max_depth < depth p → (v : Walked) × (walk_at ws ranges at ≡ Err (ended Deep v))
    walk_deep h = words_deep p said h

  -- back: on any words
  pub walk_back : (v : Walked) → walk_at ws ranges at ≡ Ok v → (p : Pred) × Stands ws ranges at p
  unfolding walk_at node_count
  walk_back v h =
      let s = back_p ws ranges lawful max_depth false at v h in
      let e = there ws at (words s.it) s.rest s.here in
      (s.it, record { there = e; shallow = s.shallow; walked = walk_words s.it e s.shallow })
