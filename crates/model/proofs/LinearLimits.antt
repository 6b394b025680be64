-- The merged automaton of a lawful model is lawful, unless one of the rows 31 to 34 refuses it.
use Prim.Native.Nat.{ℕ, zero, suc, pred, ◌+◌, ◌*◌, ◌≤◌, ◌<◌}
use mathlib.Core.Path.{◌≡◌, refl, sym, ap, ◌∙◌, subst}
use mathlib.Core.Bool.{Bool, true, false, ◌&&◌}
use mathlib.Core.List.{List, [], ◌∷◌, ◌++◌, map, flat_map, map-map, Memᴰ}
use mathlib.Core.Logic.{◌⊎◌, inl, inr}
use mathlib.Core.Option.{Option, none, some}
use native.Mathlib.Omega.{arith}
use borrow.Author.Tests.{leb-true, leb-false, le-leb, lt-leb}
use lib.IntN.{ℤ, pos, negsuc}
use lib.Signed.{le_z}
use lib.Dec.{eqb, ltb}
use lib.ListN.{length, get_or, length-append, length-map, get_or-append}
use Rattle.model.specs.Basic.{between, every, exists, keep, sum, count_up}
use Rattle.model.specs.Bounds.{max_variables, max_locations, max_edges, max_operands, max_depth, max_nodes, last_variable, last_location, owners_format, least_number, greatest_number, least_value, greatest_value}
use Rattle.model.specs.Predicate as P
use Rattle.model.specs.Predicate.{Pred, Preds, Expr, all, any, negate, imp, eq, le, more, num, old, new, add, sub, mul, choose, preds, operands, Word, words, words_all, words_of, node_count, Named, nothing, the_old, the_new, named, is_outside, is_new, names_outside, names_new, mentions, written, depth, Range, range, interval, stays, all_stay, all_stay_all, all_stay_in}
use Rattle.model.specs.Composition.{Tree, par, syn, ini, leaf, leaves, starts, start_nodes, nodes, tree_size}
use Rattle.model.specs.Model.{Model, Location, Edge, Automaton, automaton, nobody, owner_of, edge_total, in_set}
use Rattle.model.specs.Limits.{in_range, is_too_deep, rises, tree_rises, lists_filled, limits, broken}
use Rattle.model.specs.Lawful.{location_nodes, automaton_nodes, node_total, LawfulRange, LawfulOwner, LawfulPred, LawfulStart, LawfulLocation, LawfulEdge, LawfulAutomaton, Lawful}
use Rattle.model.specs.Rules.{Taker, mentioned}
use Rattle.model.specs.Moves.{under, alone, moves}
use Rattle.model.specs.Linear.{pointer_range, merged_owner, pointer_owner, pointer, at_locations, at_automata, merged_init, merged_inv, pointer_moves, merged_edge, edges_with_repeats, merged_edges, sheet_with, preds_with, linear, merged_preds, row31, row32, row33, row34, merge_fault}
use Rattle.model.specs.Repeats.{linear_with_repeats, preds_with_repeats, row32_with_repeats, row33_with_repeats, row34_with_repeats, fault_with_repeats}
use Rattle.model.specs.Equal.{same_edge}
use Rattle.model.proofs.Tests.{and_intro, and_left, and_right, and_same, or_none, or_none_left, or_left, or_cases, eq_of, exists_elim, below_of, of_lt, le_of, exists_none, exists_append, every_append}
use Rattle.model.proofs.Lists.{none_left, none_right, none_narrower, all_at, keep_first, keep_skip}
use Rattle.model.proofs.Once.{once_out}
use Rattle.model.proofs.LimitsLaws.{Members, members, no_members, Own, lawful_is}
use Rattle.model.proofs.Bits.{rises_cons}
use Rattle.model.proofs.Decode.{unbroken}
use Rattle.model.proofs.Numbered.{size, numbered, size_is, leaves_in}
use Rattle.model.proofs.Pointers.{pointers_length}
use Rattle.model.proofs.Takers.{Sides, both, left_one, right_one, sides_out, of_takers}
use Rattle.model.proofs.Merged.{automaton_at_lem, merged_mentions}
use Rattle.model.proofs.Owners.{merged_owners, mentioned_owned, none_foreign, variable_owner, pointer_owner_lem, pointer_owned, owners_length, merged_lawful, pointer_lawful}
use Rattle.model.proofs.Written.{mention_inside, written_mentions}
use Rattle.model.proofs.Alike.{merged_size}
use Rattle.model.proofs.Count.{repeats_counted}
use Rattle.model.proofs.Distinct.{count_is}
use Rattle.model.proofs.Sizes.{starts_few}

-- what holds of every item, of two lists joined and of a map
members_append : {A : Type 0} (P : A → Type 0) (k l : List A) → Members P k → Members P l → Members P (k ++ l)
members_append P k l g h x i = go (mathlib.Core.List.Memᴰ.append_cases k i)
  where
    go : Memᴰ x k ⊎ Memᴰ x l → P x
    go (inl j) = g x j
    go (inr j) = h x j

members_map : {A B : Type 0} (P : B → Type 0) (f : A → B) (l : List A) → Members (λ x. P (f x)) l → Members P (map f l)
members_map P f l h y i = let r = mathlib.Core.List.Memᴰ.of_map f l i in subst P r.2 (h r.0 r.1)

-- Ranges that follow the declared ones change nothing for a predicate that names only the declared variables.
module _ (declared added : List Range) where
  abbrev outside : Word → Bool
  outside w = is_outside (length declared) (named w)

  same_interval : (u : Expr) → names_outside (length declared) (words_of u) ≡ false → interval (declared ++ added) u ≡ interval declared u
  unfolding interval names_outside words_of exists named is_outside
  same_interval (num z) h = refl
  same_interval (old k) h = get_or-append declared added (range (pos 0) (pos 0)) k (below_of (length declared) k (or_none_left _ false h))
  same_interval (new k) h = get_or-append declared added (range (pos 0) (pos 0)) k (below_of (length declared) k (or_none_left _ false h))
  same_interval (add u w) h = rw (same_interval u (none_left outside (words_of u) (words_of w) h), same_interval w (none_right outside (words_of u) (words_of w) h))
  same_interval (sub u w) h = rw (same_interval u (none_left outside (words_of u) (words_of w) h), same_interval w (none_right outside (words_of u) (words_of w) h))
  same_interval (mul u w) h = rw (same_interval u (none_left outside (words_of u) (words_of w) h), same_interval w (none_right outside (words_of u) (words_of w) h))
  same_interval (choose p u w) h =
      let r = none_right outside (words p) (words_of u ++ words_of w) h in
      rw (same_interval u (none_left outside (words_of u) (words_of w) r), same_interval w (none_right outside (words_of u) (words_of w) r))

  same_stays : (u : Expr) → names_outside (length declared) (words_of u) ≡ false → stays (declared ++ added) u ≡ stays declared u
  unfolding stays
  same_stays u h = ap (λ (r : Range). le_z least_value r.low && le_z r.high greatest_value) (same_interval u h)

  mutual
    unfolding all_stay names_outside words exists named is_outside

    stay_p : (p : Pred) → names_outside (length declared) (words p) ≡ false → all_stay (declared ++ added) p ≡ all_stay declared p
    stay_p (all ps) h = stay_ps ps h
    stay_p (any ps) h = stay_ps ps h
    stay_p (negate p) h = stay_p p h
    stay_p (imp p q) h = and_same (stay_p p (none_left outside (words p) (words q) h)) (stay_p q (none_right outside (words p) (words q) h))
    stay_p (eq u w) h = and_same (stay_e u (none_left outside (words_of u) (words_of w) h)) (stay_e w (none_right outside (words_of u) (words_of w) h))
    stay_p (le u w) h = and_same (stay_e u (none_left outside (words_of u) (words_of w) h)) (stay_e w (none_right outside (words_of u) (words_of w) h))

    stay_ps : (ps : Preds) → names_outside (length declared) (words_all ps) ≡ false → all_stay_all (declared ++ added) ps ≡ all_stay_all declared ps
    stay_ps P.none h = refl
    stay_ps (more p ps) h = and_same (stay_p p (none_left outside (words p) (words_all ps) h)) (stay_ps ps (none_right outside (words p) (words_all ps) h))

    stay_e : (u : Expr) → names_outside (length declared) (words_of u) ≡ false → all_stay_in (declared ++ added) u ≡ all_stay_in declared u
    stay_e (num z) h = same_stays (num z) h
    stay_e (old k) h = same_stays (old k) h
    stay_e (new k) h = same_stays (new k) h
    stay_e (add u w) h = and_same (stay_e u (none_left outside (words_of u) (words_of w) h)) (and_same (stay_e w (none_right outside (words_of u) (words_of w) h)) (same_stays (add u w) h))
    stay_e (sub u w) h = and_same (stay_e u (none_left outside (words_of u) (words_of w) h)) (and_same (stay_e w (none_right outside (words_of u) (words_of w) h)) (same_stays (sub u w) h))
    stay_e (mul u w) h = and_same (stay_e u (none_left outside (words_of u) (words_of w) h)) (and_same (stay_e w (none_right outside (words_of u) (words_of w) h)) (same_stays (mul u w) h))
    stay_e (choose p u w) h =
        let r = none_right outside (words p) (words_of u ++ words_of w) h in
        and_same (stay_p p (none_left outside (words p) (words_of u ++ words_of w) h))
        (and_same (stay_e u (none_left outside (words_of u) (words_of w) r)) (and_same (stay_e w (none_right outside (words_of u) (words_of w) r)) (same_stays (choose p u w) h)))

-- what a lawful predicate meets, but for its depth
record Fine (declared : List Range) (p : Pred) : Type 0 where
  ranged : every in_range (words p) ≡ true
  named : names_outside (length declared) (words p) ≡ false
  spanned : all_stay declared p ≡ true

-- a name that is not outside is not outside of more
wider : (count further : ℕ) → count ≤ further → (x : Named) → is_outside count x ≡ false → is_outside further x ≡ false
unfolding is_outside
wider count further l nothing h = refl
wider count further l (the_old k) h = let b = below_of count k h in lt-leb further k (omega arith)
wider count further l (the_new k) h = let b = below_of count k h in lt-leb further k (omega arith)

-- so a lawful predicate stays fine where ranges follow
widened : (declared added : List Range) (p : Pred) → LawfulPred declared p → Fine (declared ++ added) p
unfolding names_outside
widened declared added p h =
    let l : length declared ≤ length (declared ++ added) = omega (arith, length-append declared added) in
    record {
      ranged = h.ranged;
      named = none_narrower (outside declared added) (λ w. is_outside (length (declared ++ added)) (named w)) (λ w. wider (length declared) (length (declared ++ added)) l (named w)) (words p) h.named;
      spanned = stay_p declared added p h.named ∙ h.spanned;
    }

-- `all` of a list: of its words f holds everywhere, or nowhere, if it does so of each predicate's; its intervals stay if theirs do
words_every : (f : Word → Bool) (l : List Pred) → Members (λ p. every f (words p) ≡ true) l → every f (words_all (preds l)) ≡ true
unfolding preds words_all every
words_every f [] h = refl
words_every f (p ∷ l) h = every_append f (words p) (words_all (preds l)) ∙ and_intro (h p (mathlib.Core.List.Memᴰ.head refl)) (words_every f l (λ q i. h q (mathlib.Core.List.Memᴰ.tail i)))

words_none : (f : Word → Bool) (l : List Pred) → Members (λ p. exists f (words p) ≡ false) l → exists f (words_all (preds l)) ≡ false
unfolding preds words_all exists
words_none f [] h = refl
words_none f (p ∷ l) h = exists_append f (words p) (words_all (preds l)) ∙ or_none (h p (mathlib.Core.List.Memᴰ.head refl)) (words_none f l (λ q i. h q (mathlib.Core.List.Memᴰ.tail i)))

preds_stay : (declared : List Range) (l : List Pred) → Members (λ p. all_stay declared p ≡ true) l → all_stay_all declared (preds l) ≡ true
unfolding preds all_stay_all
preds_stay declared [] h = refl
preds_stay declared (p ∷ l) h = and_intro (h p (mathlib.Core.List.Memᴰ.head refl)) (preds_stay declared l (λ q i. h q (mathlib.Core.List.Memᴰ.tail i)))

pub preds_count : (l : List Pred) → operands (preds l) ≡ length l
unfolding preds operands
preds_count [] = refl
preds_count (p ∷ l) = ap suc (preds_count l)

all_fine : (declared : List Range) (l : List Pred) → length l ≤ max_operands → Members (Fine declared) l → Fine declared (all (preds l))
unfolding words every in_range names_outside exists named is_outside all_stay
all_fine declared l few h = record {
  ranged = and_intro (le-leb (operands (preds l)) max_operands (omega (arith, preds_count l))) (words_every in_range l (λ p i. (h p i).ranged));
  named = words_none (λ w. is_outside (length declared) (named w)) l (λ p i. (h p i).named);
  spanned = preds_stay declared l (λ p i. (h p i).spanned);
}

all_old : (l : List Pred) → Members (λ p. names_new (words p) ≡ false) l → names_new (words (all (preds l))) ≡ false
unfolding words names_new exists named is_new
all_old l h = words_none (λ w. is_new (named w)) l h

-- What is fine in `eq vK J` and `eq nK J`: a number in range lies within the span of row 10, and a range up to a location's
-- number is lawful.
spans : (z : ℤ) → between least_number greatest_number z ≡ true → between least_value greatest_value z ≡ true
unfolding between
spans (pos n) h = let l = leb-true n 1000000000 h in le-leb n 4611686018427387904 (omega arith)
spans (negsuc n) h =
    let l = leb-true n 999999999 (and_left _ true h) in
    and_intro (le-leb n 4611686018427387903 (omega arith)) refl

small : (j : ℕ) → j ≤ last_location → between least_number greatest_number (pos j) ≡ true
unfolding between
small j l = le-leb j 1000000000 (omega arith)

range_spans : (r : Range) → LawfulRange r → (le_z least_value r.low && le_z r.high greatest_value) ≡ true
unfolding between
range_spans r h =
    and_intro
    (and_left (le_z least_value r.low) (le_z r.low greatest_value) (spans r.low h.low))
    (and_right (le_z least_value r.high) (le_z r.high greatest_value) (spans r.high h.high))

up_to_lawful : (j : ℕ) → j ≤ last_location → LawfulRange (range (pos 0) (pos j))
unfolding range
up_to_lawful j l = record { low = small 0 (omega arith); high = small j l; ordered = le-leb 0 j (omega arith) }

module _ (declared : List Range) (few : length declared ≤ max_variables) (lawful : Members LawfulRange declared) (k j : ℕ) (below : k < length declared) (low : j ≤ last_location) where
  variable_stays : stays declared (old k) ≡ true
  unfolding stays interval
  variable_stays = range_spans _ (all_at LawfulRange (range (pos 0) (pos 0)) (up_to_lawful 0 (omega arith)) declared lawful k)

  number_stays : stays declared (num (pos j)) ≡ true
  unfolding stays interval range between
  number_stays = spans (pos j) (small j low)

  old_is : Fine declared (eq (old k) (num (pos j)))
  unfolding words every in_range names_outside exists named is_outside all_stay
  old_is = record {
    ranged = and_intro (le-leb k last_variable (omega arith)) (and_intro (small j low) refl);
    named = or_none (lt-leb (length declared) k below) refl;
    spanned = and_intro variable_stays number_stays;
  }

  new_is : Fine declared (eq (new k) (num (pos j)))
  unfolding words every in_range names_outside exists named is_outside all_stay stays interval
  new_is = record {
    ranged = and_intro (le-leb k last_variable (omega arith)) (and_intro (small j low) refl);
    named = or_none (lt-leb (length declared) k below) refl;
    spanned = and_intro variable_stays number_stays;
  }

-- an `imp` of two fine predicates
imp_fine : (declared : List Range) (p q : Pred) → Fine declared p → Fine declared q → Fine declared (imp p q)
unfolding words every in_range names_outside exists named is_outside all_stay
imp_fine declared p q g h = record {
  ranged = every_append in_range (words p) (words q) ∙ and_intro g.ranged h.ranged;
  named = exists_append (λ w. is_outside (length declared) (named w)) (words p) (words q) ∙ or_none g.named h.named;
  spanned = and_intro g.spanned h.spanned;
}

-- a kept part of the numbers from n to A rises
pub keep_rises : (f : ℕ → Bool) (A last n count : ℕ) → last < n → n + count ≤ suc A → rises A last (keep f (count_up n count)) ≡ true
unfolding count_up
keep_rises f A last n zero l h = unfold keep rises in refl
keep_rises f A last n (suc count) l h = go (f n) refl (λ k i. keep_rises f A k (suc n) count i (omega arith))
  where
    go : (b : Bool) → f n ≡ b → ((k : ℕ) → k < suc n → rises A k (keep f (count_up (suc n) count)) ≡ true) → rises A last (keep f (n ∷ count_up (suc n) count)) ≡ true
    go true e ih =
        ap (rises A last) (keep_first f n _ e) ∙ rises_cons A last n _
        ∙ and_intro (and_intro (of_lt last n l) (le-leb n A (omega arith))) (ih n (omega arith))
    go false e ih = ap (rises A last) (keep_skip f n _ e) ∙ ih last (omega arith)

-- numbers that are counted up
counted : (n count : ℕ) → Members (λ a. a < n + count) (count_up n count)
unfolding count_up
counted n zero = no_members (λ a. a < n + 0)
counted n (suc count) = members (λ a. a < n + suc count) n (count_up (suc n) count) (omega arith) (λ a i. let l = counted (suc n) count a i in omega arith)

-- a move has at most one taker for each leaf
takers_few : (m : Model) (a : ℕ) (c : Tree) (x : List Taker) → Memᴰ x (moves m a c) → length x ≤ size c
unfolding moves size
takers_few m a (par c d) x h = go (λ y i. takers_few m a c y i) (λ y i. takers_few m a d y i) (sides_out (in_set m a c) (in_set m a d) (moves m a c) (moves m a d) h)
  where
    go : Members (λ y. length y ≤ size c) (moves m a c) → Members (λ y. length y ≤ size d) (moves m a d)
        → Sides (in_set m a c) (in_set m a d) (moves m a c) (moves m a d) x → length x ≤ size c + size d
    go f g (both b e r) =
        let p = f r.left r.in_left in
        let q = g r.right r.in_right in
        omega (arith, ap (length {A = Taker}) r.whole, length-append r.left r.right)
    go f g (left_one e r) = let p = f x r in omega arith
    go f g (right_one b r) = let p = g x r in omega arith
takers_few m a (syn list c) x h = takers_few m a c x h
takers_few m a (ini p c) x h = takers_few m a c x h
takers_few m a (leaf k) x h = let r = mathlib.Core.List.Memᴰ.of_map (alone k) (under a (automaton m k).edges) h in omega (arith, ap (length {A = Taker}) r.2)

-- how many predicates the merged init, inv and updates join
module _ (m : Model) (part : Location → Pred) where
  pub locations_length : (i j : ℕ) (ls : List Location) → length (at_locations m part i j ls) ≡ length ls
  unfolding at_locations
  locations_length i j [] = refl
  locations_length i j (l ∷ ls) = ap suc (locations_length i (suc j) ls)

  pub automata_length : (i : ℕ) (xs : List Automaton) → Members (λ x. length x.locations ≤ max_locations) xs → length (at_automata m part i xs) ≤ max_locations * length xs
  unfolding at_automata
  automata_length i [] h = omega arith
  automata_length i (x ∷ xs) h =
      let few = h x (mathlib.Core.List.Memᴰ.head refl) in
      let ih = automata_length (suc i) xs (λ y k. h y (mathlib.Core.List.Memᴰ.tail k)) in
      omega (arith, length-append (at_locations m part i 0 x.locations) (at_automata m part (suc i) xs), locations_length i 0 x.locations)

-- every predicate has a word, and an implication five; so these are few where the merged nodes are
some_word : (p : Pred) → 1 ≤ node_count p
unfolding node_count words
some_word (all ps) = omega arith
some_word (any ps) = omega arith
some_word (negate p) = omega arith
some_word (imp p q) = omega arith
some_word (eq x y) = omega arith
some_word (le x y) = omega arith

abbrev word_count : List Pred → ℕ
word_count l = length (words_all (preds l))

words_joined : (k l : List Pred) → word_count (k ++ l) ≡ word_count k + word_count l
unfolding preds words_all
words_joined [] l = omega arith
words_joined (p ∷ k) l = omega (arith, length-append (words p) (words_all (preds (k ++ l))), length-append (words p) (words_all (preds k)), words_joined k l)

module _ (m : Model) (part : Location → Pred) where
  locations_words : (i j : ℕ) (ls : List Location) → 5 * length ls ≤ word_count (at_locations m part i j ls)
  unfolding at_locations preds words_all words node_count
  locations_words i j [] = omega arith
  locations_words i j (l ∷ ls) =
      let q = imp (eq (old (pointer m i)) (num (pos j))) (part l) in
      omega (arith, length-append (words q) (words_all (preds (at_locations m part i (suc j) ls))), some_word (part l), locations_words i (suc j) ls)

  automata_words_lem : (i : ℕ) (xs : List Automaton) → 5 * length (at_automata m part i xs) ≤ word_count (at_automata m part i xs)
  unfolding at_automata
  automata_words_lem i [] = omega arith
  automata_words_lem i (x ∷ xs) =
      let k = at_locations m part i 0 x.locations in
      let l = at_automata m part (suc i) xs in
      omega (arith, length-append k l, words_joined k l, locations_length m part i 0 x.locations, locations_words i 0 x.locations, automata_words_lem (suc i) xs)

-- the merged init and the merged inv join as many implications
parts_length : (m : Model) (part other : Location → Pred) (i : ℕ) (xs : List Automaton) → length (at_automata m part i xs) ≡ length (at_automata m other i xs)
unfolding at_automata
parts_length m part other i [] = refl
parts_length m part other i (x ∷ xs) =
    omega (
      arith,
      length-append (at_locations m part i 0 x.locations) (at_automata m part (suc i) xs),
      length-append (at_locations m other i 0 x.locations) (at_automata m other (suc i) xs),
      locations_length m part i 0 x.locations,
      locations_length m other i 0 x.locations,
      parts_length m part other (suc i) xs,
    )

-- with a tree of at most 64 nodes, the merged init has no more operands than `all` may have
init_few : (m : Model) → Lawful m → node_count (merged_init m) + node_count (merged_inv m) ≤ max_nodes → length (at_automata m (λ l. l.init) 0 m.automata ++ starts m.tree) ≤ max_operands
unfolding merged_init merged_inv node_count words
init_few m lawful h =
    let inits = at_automata m (λ l. l.init) 0 m.automata in
    let invs = at_automata m (λ l. l.inv) 0 m.automata in
    let few = starts_few m.tree in
    omega (
      arith,
      length-append inits (starts m.tree),
      words_joined inits (starts m.tree),
      automata_words_lem m (λ l. l.init) 0 m.automata,
      automata_words_lem m (λ l. l.inv) 0 m.automata,
      parts_length m (λ l. l.init) (λ l. l.inv) 0 m.automata,
      lawful.tree.size,
    )

module _ (m : Model) (lawful : Lawful m) (few : length m.variables + length m.automata ≤ max_variables) where
  -- the merged automaton's ranges: the model's, then the pointers'
  abbrev merged : List Range
  merged = m.variables ++ map pointer_range m.automata

  merged_few : length merged ≤ max_variables
  unfolding linear
  merged_few = rw (merged_size m) few

  merged_ranges : Members LawfulRange merged
  unfolding pointer_range
  merged_ranges =
      members_append LawfulRange m.variables (map pointer_range m.automata) lawful.ranges
      (members_map LawfulRange pointer_range m.automata (λ x i. let h = lawful.automata x i in up_to_lawful (pred (length x.locations)) (omega arith)))

  pointer_below : (i : ℕ) → i < length m.automata → pointer m i < length merged
  unfolding linear pointer
  pointer_below i l = omega (arith, merged_size m)

  -- the predicates of the merged init or inv, location by location
  abbrev Good : Pred → Type 0
  Good p = Fine merged p × (names_new (words p) ≡ false)

  module _ (part : Location → Pred) (parts : (l : Location) → LawfulLocation m.variables l → LawfulPred m.variables (part l) × (names_new (words (part l)) ≡ false)) where
    locations_good : (i j : ℕ) → i < length m.automata → (ls : List Location) → j + length ls ≤ max_locations → Members (LawfulLocation m.variables) ls → Members Good (at_locations m part i j ls)
    unfolding at_locations names_new words exists named is_new
    locations_good i j b [] l h = no_members Good
    locations_good i j b (x ∷ xs) l h =
        let p = parts x (h x (mathlib.Core.List.Memᴰ.head refl)) in
        let q = eq (old (pointer m i)) (num (pos j)) in
        members Good (imp q (part x)) (at_locations m part i (suc j) xs)
        (imp_fine merged q (part x) (old_is merged merged_few merged_ranges (pointer m i) j (pointer_below i b) (omega arith)) (widened m.variables (map pointer_range m.automata) (part x) p.0), p.1)
        (locations_good i (suc j) b xs (omega arith) (λ y k. h y (mathlib.Core.List.Memᴰ.tail k)))

    automata_good : (i : ℕ) (xs : List Automaton) → i + length xs ≤ length m.automata → Members (LawfulAutomaton m.variables m.actions) xs → Members Good (at_automata m part i xs)
    unfolding at_automata
    automata_good i [] l h = no_members Good
    automata_good i (x ∷ xs) l h =
        let p = h x (mathlib.Core.List.Memᴰ.head refl) in
        members_append Good (at_locations m part i 0 x.locations) (at_automata m part (suc i) xs)
        (locations_good i 0 (omega arith) x.locations (omega arith) p.locations)
        (automata_good (suc i) xs (omega arith) (λ y k. h y (mathlib.Core.List.Memᴰ.tail k)))

    parts_good : Members Good (at_automata m part 0 m.automata)
    parts_good = automata_good 0 m.automata (omega arith) lawful.automata

  starts_good : Members Good (starts m.tree)
  starts_good p i = let h = lawful.starts p i in (widened m.variables (map pointer_range m.automata) p h.pred, h.old)

  -- `all` of good ones
  joined_lawful : (l : List Pred) → Members Good l → length l ≤ max_operands → depth (all (preds l)) ≤ max_depth → LawfulPred merged (all (preds l)) × (names_new (words (all (preds l))) ≡ false)
  joined_lawful l good count shallow =
      let f = all_fine merged l count (λ p i. (good p i).0) in
      (record { ranged = f.ranged; named = f.named; shallow = shallow; spanned = f.spanned }, all_old l (λ p i. (good p i).1))

  init_lawful : node_count (merged_init m) + node_count (merged_inv m) ≤ max_nodes → depth (merged_init m) ≤ max_depth → LawfulPred merged (merged_init m) × (names_new (words (merged_init m)) ≡ false)
  unfolding merged_init
  init_lawful h shallow =
      let l = at_automata m (λ l. l.init) 0 m.automata in
      joined_lawful (l ++ starts m.tree)
      (members_append Good l (starts m.tree) (parts_good (λ l. l.init) (λ l h. (h.init, h.init_old))) starts_good)
      (init_few m lawful h) shallow

  inv_lawful : depth (merged_inv m) ≤ max_depth → LawfulPred merged (merged_inv m) × (names_new (words (merged_inv m)) ≡ false)
  unfolding merged_inv
  inv_lawful shallow =
      let l = at_automata m (λ l. l.inv) 0 m.automata in
      let count = automata_length m (λ l. l.inv) 0 m.automata (λ x i. (lawful.automata x i).few_locations) in
      let n = lawful.few_automata in
      joined_lawful l (parts_good (λ l. l.inv) (λ l h. (h.inv, h.inv_old))) (omega arith) shallow

  -- a taker is an automaton of the model with an edge of its own
  record Taken (y : Taker) : Type 0 where
    place : y.automaton < length m.automata
    from : y.edge.from ≤ last_location
    to : y.edge.to ≤ last_location
    update : LawfulPred m.variables y.edge.update
    own : owners_format ≤ m.format → (k : ℕ) → mentions k y.edge.update ≡ true → owner_of m k ≡ some y.automaton

  abbrev Lasting : Edge → Type 0
  Lasting e = (e.from ≤ last_location) × (e.to ≤ last_location) × LawfulPred m.variables e.update

  taken : (a : ℕ) {x : List Taker} → Memᴰ x (moves m a m.tree) → Members Taken x
  taken a i = of_takers m a Taken m.tree (leaves_in m.tree 0 (numbered m.tree (length m.automata) lawful.tree.in_order) from_leaf) i
    where
      from_leaf : (k : ℕ) → 0 ≤ k → k < 0 + size m.tree → (e : Edge) → Memᴰ e (automaton m k).edges → Taken (record { automaton = k; edge = e })
      from_leaf k l u e q =
          let g = automaton_at_lem m lawful (λ x. Memᴰ e x.edges → Lasting e) (λ q. absurd (mathlib.Core.List.Memᴰ.not-nil q)) (λ x h q. let g = h.edges e q in (omega arith, omega arith, g.update)) k q in
          let place : k < length m.automata = omega (arith, size_is m.tree (length m.automata) lawful.tree.in_order) in
          record { place = place; from = g.0; to = g.1; update = g.2; own = λ f j h. mentioned_owned m lawful f k place e q g.2.named j h }

  -- their pointers' moves
  moves_fine : (x : List Taker) → Members Taken x → Members (Fine merged) (pointer_moves m x)
  unfolding pointer_moves
  moves_fine [] h = no_members (Fine merged)
  moves_fine (y ∷ x) h =
      let t = h y (mathlib.Core.List.Memᴰ.head refl) in
      let k = pointer m y.automaton in
      let b = pointer_below y.automaton t.place in
      let p = eq (old k) (num (pos y.edge.from)) in
      let q = eq (new k) (num (pos y.edge.to)) in
      members (Fine merged) p (q ∷ pointer_moves m x) (old_is merged merged_few merged_ranges k y.edge.from b t.from)
      (members (Fine merged) q (pointer_moves m x) (new_is merged merged_few merged_ranges k y.edge.to b t.to)
      (moves_fine x (λ z i. h z (mathlib.Core.List.Memᴰ.tail i))))

  -- the merged edges, where they are not too deep
  abbrev Allowed : Edge → Type 0
  Allowed e = depth e.update ≤ max_depth → LawfulEdge merged m.actions 1 e

  edge_allowed : (a : ℕ) → a ≤ m.actions → (x : List Taker) → Memᴰ x (moves m a m.tree) → Allowed (merged_edge m a x)
  unfolding merged_edge
  edge_allowed a l x i shallow =
      let updates = map (λ (y : Taker). y.edge.update) x in
      let t = taken a i in
      let few-takers = takers_few m a m.tree x i in
      let n = lawful.few_automata in
      let few_preds : length (updates ++ pointer_moves m x) ≤ max_operands = omega (arith, length-append updates (pointer_moves m x), length-map x (λ (y : Taker). y.edge.update), pointers_length m x, size_is m.tree (length m.automata) lawful.tree.in_order) in
      let f = all_fine merged (updates ++ pointer_moves m x) few_preds
      (members_append (Fine merged) updates (pointer_moves m x)
      (members_map (Fine merged) (λ (y : Taker). y.edge.update) x (λ y j. widened m.variables (map pointer_range m.automata) y.edge.update (t y j).update))
      (moves_fine x t)) in
      record { from = omega arith; action = l; to = omega arith; update = record { ranged = f.ranged; named = f.named; shallow = shallow; spanned = f.spanned } }

  -- what a merged edge writes has automaton 0 as its owner, from format 3 on
  pub edge_owned : (a : ℕ) (x : List Taker) → Memᴰ x (moves m a m.tree) → owners_format ≤ m.format → (k : ℕ) → mentions k (merged_edge m a x).update ≡ true → get_or (merged_owners m) k none ≡ some 0
  unfolding mentioned exists merged_owner
  edge_owned a x i f k h = go (or_cases (mentioned k x) (exists (λ y. eqb k (pointer m y.automaton)) x) (sym (merged_mentions m a k x) ∙ or_left false h))
    where
      go : (mentioned k x ≡ true) ⊎ (exists (λ y. eqb k (pointer m y.automaton)) x ≡ true) → get_or (merged_owners m) k none ≡ some 0
      go (inl e) =
          let y = exists_elim (λ (y : Taker). mentions k y.edge.update) x e in
          let t = taken a i y.0 y.1 in
          let b = leb-false (length m.variables) k (mention_inside (length m.variables) k (words y.0.edge.update) t.update.named (unfold mentions in y.2)) in
          variable_owner m lawful.owners_are k b ∙ rw (t.own f k y.2)
      go (inr e) =
          let y = exists_elim (λ (y : Taker). eqb k (pointer m y.automaton)) x e in
          let t = taken a i y.0 y.1 in
          rw (eq_of k _ y.2) (pointer_owner_lem m lawful.owners_are y.0.automaton t.place ∙ pointer_owned m.format f)

  abbrev Owning : Edge → Type 0
  Owning e = owners_format ≤ m.format → (k : ℕ) → mentions k e.update ≡ true → get_or (merged_owners m) k none ≡ some 0

  edges_owned : (l : List ℕ) → Members Owning (flat_map (λ a. map (merged_edge m a) (moves m a m.tree)) l)
  unfolding flat_map
  edges_owned [] = no_members Owning
  edges_owned (a ∷ l) =
      members_append Owning (map (merged_edge m a) (moves m a m.tree)) (flat_map (λ b. map (merged_edge m b) (moves m b m.tree)) l)
      (members_map Owning (merged_edge m a) (moves m a m.tree) (edge_owned a))
      (edges_owned l)

  edges_allowed : (l : List ℕ) → Members (λ a. a ≤ m.actions) l → Members Allowed (flat_map (λ a. map (merged_edge m a) (moves m a m.tree)) l)
  unfolding flat_map
  edges_allowed [] h = no_members Allowed
  edges_allowed (a ∷ l) h =
      members_append Allowed (map (merged_edge m a) (moves m a m.tree)) (flat_map (λ b. map (merged_edge m b) (moves m b m.tree)) l)
      (members_map Allowed (merged_edge m a) (moves m a m.tree) (edge_allowed a (h a (mathlib.Core.List.Memᴰ.head refl))))
      (edges_allowed l (λ b i. h b (mathlib.Core.List.Memᴰ.tail i)))

-- what rows 31 to 34 ask of the merged sheet with these edges, where none of them refuses
record Unrefused (m : Model) (edges : List Edge) : Type 0 where
  few_variables : length m.variables + length m.automata ≤ max_variables
  few_edges : length edges ≤ max_edges
  shallow : Members (λ p. depth p ≤ max_depth) (preds_with m edges)
  few_nodes : sum (map node_count (preds_with m edges)) ≤ max_nodes

-- the rows, as what they ask
rows_ask : (m : Model) (edges : List Edge)
    → broken 31 (row31 m) (broken 32 (ltb max_edges (length edges)) (broken 33 (exists is_too_deep (preds_with m edges)) (broken 34 (ltb max_nodes (sum (map node_count (preds_with m edges)))) none))) ≡ none
    → Unrefused m edges
unfolding row31 is_too_deep
rows_ask m edges h =
    let r31 = unbroken 31 (row31 m) _ h in
    let r32 = unbroken 32 (ltb max_edges (length edges)) _ r31.1 in
    let r33 = unbroken 33 (exists is_too_deep (preds_with m edges)) _ r32.1 in
    let r34 = unbroken 34 (ltb max_nodes (sum (map node_count (preds_with m edges)))) _ r33.1 in
    record {
      few_variables = le_of max_variables _ r31.0;
      few_edges = le_of max_edges _ r32.0;
      shallow = λ p i. le_of max_depth (depth p) (exists_none is_too_deep (preds_with m edges) r33.0 p i);
      few_nodes = le_of max_nodes _ r34.0;
    }

-- a sheet's only automaton owns what its edges write
one_owns : (f : ℕ) (os : List (Option ℕ)) (x : Automaton) → Members (Own f os 1) x.edges → (i : ℕ) → i < 1 → Members (Own f os (suc i)) (get_or (x ∷ []) i nobody).edges
one_owns f os x h zero l = h
one_owns f os x h (suc i) l = absurd (omega arith)

-- the merged sheet with some of the merged edges is lawful
sheet_lawful : (m : Model) → Lawful m → (es : List Edge) → ((e : Edge) → Memᴰ e es → Memᴰ e (edges_with_repeats m)) → Unrefused m es → Lawful (sheet_with m es)
unfolding edges_with_repeats edge_total node_total automaton_nodes location_nodes sum tree_rises lists_filled leaves starts start_nodes flat_map count_up tree_size nodes
sheet_lawful m lawful es listed u =
    let vs = m.variables ++ map pointer_range m.automata in
    let init = init_lawful m lawful u.few_variables (omega (arith, u.few_nodes)) (u.shallow (merged_init m) (mathlib.Core.List.Memᴰ.head refl)) in
    let inv = inv_lawful m lawful u.few_variables (u.shallow (merged_inv m) (mathlib.Core.List.Memᴰ.tail (mathlib.Core.List.Memᴰ.head refl))) in
    let location : Location = record { init = merged_init m; inv = merged_inv m } in
    let merged_automaton : Automaton = record { sync = keep (λ a. in_set m a m.tree) (count_up 1 m.actions); locations = location ∷ []; edges = es } in
    let allowed = edges_allowed m lawful u.few_variables (count_up 0 (suc m.actions)) (λ a i. let l = counted 0 (suc m.actions) a i in omega arith) in
    let lawful_automaton : LawfulAutomaton vs m.actions merged_automaton = record {
      sync = keep_rises (λ a. in_set m a m.tree) m.actions 0 1 m.actions (omega arith) (omega arith);
      some_location = omega arith;
      few_locations = omega arith;
      locations = members (LawfulLocation vs) location [] (record { init = init.0; init_old = init.1; inv = inv.0; inv_old = inv.1 }) (no_members (LawfulLocation vs));
      edges = λ e i. allowed e (listed e i) (u.shallow e.update (mathlib.Core.List.Memᴰ.tail (mathlib.Core.List.Memᴰ.tail (mathlib.Core.List.Memᴰ.map (λ (d : Edge). d.update) i))));
    } in
    let owned = edges_owned m lawful u.few_variables (count_up 0 (suc m.actions)) in
    record {
      format_from = lawful.format_from;
      format_to = lawful.format_to;
      few_actions = lawful.few_actions;
      few_variables = merged_few m lawful u.few_variables;
      ranges = merged_ranges m lawful u.few_variables;
      owners_are = owners_length m lawful.owners_are ∙ sym (simp (length-append, length-map));
      owners = members_append (LawfulOwner m.format 1) (map merged_owner m.owners) (map (λ x. pointer_owner m.format) m.automata)
          (members_map (LawfulOwner m.format 1) merged_owner m.owners (λ o i. merged_lawful m.format (length m.automata) o (lawful.owners o i)))
          (members_map (LawfulOwner m.format 1) (λ x. pointer_owner m.format) m.automata (λ x i. pointer_lawful m.format));
      some_automaton = omega arith;
      few_automata = omega arith;
      automata = members (LawfulAutomaton vs m.actions) merged_automaton [] lawful_automaton (no_members (LawfulAutomaton vs m.actions));
      own = one_owns m.format (merged_owners m) merged_automaton (λ e i. none_foreign m.format (merged_owners m) 0 (written e.update) (λ f k q. owned e (listed e i) f k (written_mentions e.update k q)));
      few_edges = omega (arith, u.few_edges);
      few_nodes = let e = ap sum (map-map node_count (λ (d : Edge). d.update) es) in omega (arith, u.few_nodes);
      starts = no_members (LawfulStart vs);
      tree = record { lists = refl; filled = refl; in_order = refl; size = omega arith };
    }

-- so the merged automaton is, with equal edges once
pub linear_lawful : (m : Model) → Lawful m → merge_fault m ≡ none → Lawful (linear m)
unfolding linear merge_fault row32 row33 row34 merged_preds merged_edges
linear_lawful m lawful h = sheet_lawful m lawful (merged_edges m) (λ e i. once_out same_edge (edges_with_repeats m) i) (rows_ask m (merged_edges m) (rw (count_is m lawful) h))

-- and with repeats
pub repeats_lawful : (m : Model) → Lawful m → fault_with_repeats m ≡ none → Lawful (linear_with_repeats m)
unfolding linear_with_repeats fault_with_repeats row32_with_repeats row33_with_repeats row34_with_repeats preds_with_repeats
repeats_lawful m lawful h = sheet_lawful m lawful (edges_with_repeats m) (λ e i. i) (rows_ask m (edges_with_repeats m) (rw (repeats_counted m) h))

-- so the limits that hold of a model hold of its merged automaton
pub linear_limited : (m : Model) → limits m ≡ true → merge_fault m ≡ none → limits (linear m) ≡ true
linear_limited m limited unrefused = (lawful_is (linear m)).1 (linear_lawful m ((lawful_is m).0 limited) unrefused)
