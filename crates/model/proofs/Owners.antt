-- Owners: what row 51 says of an edge's variables, and who owns what in the merged sheet.
use Prim.Native.Nat.{ℕ, zero, suc, ◌+◌, ◌≤◌, ◌<◌}
use mathlib.Core.Path.{◌≡◌, refl, sym, ap, ◌∙◌, subst}
use mathlib.Core.Bool.{Bool, true, false, not, ◌&&◌, true≢false}
use mathlib.Core.List.{List, [], ◌∷◌, ◌++◌, map, Memᴰ}
use mathlib.Core.Option.{Option, none, some}
use native.Mathlib.Omega.{arith}
use borrow.Author.Tests.{leb-true, leb-false, le-leb, lt-leb}
use lib.ListN.{length, get_or, length-append, length-map, get_or-append, get_or-map}
use lib.Seq.{get_or-append-add}
use lib.Dec.{eqb, leb}
use Rattle.model.specs.Basic.{exists, lacks, count_up, member}
use Rattle.model.specs.Bounds.{owners_format, max_variables}
use Rattle.model.specs.Predicate.{Pred, words, names_outside, mentions, written}
use Rattle.model.specs.Model.{Model, Edge, automaton, owner_of}
use Rattle.model.specs.Limits.{is_owner, writes_foreign}
use Rattle.model.specs.Lawful.{Lawful, LawfulOwner}
use Rattle.model.specs.Linear.{merged_owner, pointer_owner, pointer}
use Rattle.model.proofs.Tests.{eq_of, eq_self, exists_elim, exists_none, none_exists, not-false}
use Rattle.model.proofs.Lists.{keep_in, member_count}
use Rattle.model.proofs.Parsing.{none_some, got}
use Rattle.model.proofs.Written.{mention_inside}

-- a number that a list has is in it
pub member_in : (k : ℕ) (list : List ℕ) → member k list ≡ true → Memᴰ k list
unfolding member
member_in k list h = let x = exists_elim (eqb k) list h in subst (λ (j : ℕ). Memᴰ j list) (sym (eq_of k x.0 x.2)) x.1

-- what an update mentions of the model's variables is in the list of what it writes
mentioned_written : (count k : ℕ) (p : Pred) → names_outside count (words p) ≡ false → count ≤ max_variables → mentions k p ≡ true → Memᴰ k (written p)
unfolding written mentions
mentioned_written count k p n l h =
    let b = leb-false count k (mention_inside count k (words p) n h) in
    keep_in (λ j. mentions j p) (member_in k (count_up 0 max_variables) (member_count k 0 max_variables (omega arith) (omega arith))) h

owner_is : (i : ℕ) (o : Option ℕ) → is_owner (suc i) o ≡ true → o ≡ some i
unfolding is_owner
owner_is i none h = absurd (true≢false (sym h))
owner_is i (some k) h = let e = eq_of (suc k) (suc i) h in let same : k ≡ i = omega arith in ap some same

-- row 51, from format 3 on: every variable in the list has this owner
pub foreign_none : (f : ℕ) (os : List (Option ℕ)) (i : ℕ) (list : List ℕ) → writes_foreign f os (suc i) list ≡ false → owners_format ≤ f → (k : ℕ) → Memᴰ k list → get_or os k none ≡ some i
unfolding writes_foreign
foreign_none f os i list h l k j =
    let e : exists (λ k. not (is_owner (suc i) (get_or os k none))) list ≡ false = rw (le-leb owners_format f l) at h in
    owner_is i (get_or os k none) (not-false _ (exists_none (λ k. not (is_owner (suc i) (get_or os k none))) list e k j))

pub none_foreign : (f : ℕ) (os : List (Option ℕ)) (i : ℕ) (list : List ℕ) → (owners_format ≤ f → (k : ℕ) → Memᴰ k list → get_or os k none ≡ some i) → writes_foreign f os (suc i) list ≡ false
unfolding writes_foreign is_owner
none_foreign f os i list h = go (leb owners_format f) refl
  where
    go : (b : Bool) → leb owners_format f ≡ b → (b && exists (λ k. not (is_owner (suc i) (get_or os k none))) list) ≡ false
    go true e = none_exists (λ k. not (is_owner (suc i) (get_or os k none))) list (λ k j. rw (h (leb-true owners_format f e) k j, eq_self (suc i)))
    go false e = refl

-- In format 3 an automaton's edges mention the new values of what it owns and of nothing else.
pub mentioned_owned : (m : Model) → Lawful m → owners_format ≤ m.format → (i : ℕ) → i < length m.automata → (e : Edge) → Memᴰ e (automaton m i).edges
    → names_outside (length m.variables) (words e.update) ≡ false → (k : ℕ) → mentions k e.update ≡ true → owner_of m k ≡ some i
mentioned_owned m lawful l i b e j n k h =
    foreign_none m.format m.owners i (written e.update) (lawful.own i b e j) l k (mentioned_written (length m.variables) k e.update n lawful.few_variables h)

-- the owners in the merged sheet: of a variable, and of a pointer
abbrev pub merged_owners : Model → List (Option ℕ)
merged_owners m = map merged_owner m.owners ++ map (λ x. pointer_owner m.format) m.automata

get_d_same : {A B : Type 0} (b : B) (xs : List A) (k : ℕ) (other : B) → k < length xs → get_or (map (λ x. b) xs) k other ≡ b
get_d_same b [] k other l = absurd (omega arith)
get_d_same b (x ∷ xs) zero other l = refl
get_d_same b (x ∷ xs) (suc k) other l = get_d_same b xs k other (omega arith)

pub variable_owner : (m : Model) → length m.owners ≡ length m.variables → (k : ℕ) → k < length m.variables → get_or (merged_owners m) k none ≡ merged_owner (owner_of m k)
unfolding merged_owner
variable_owner m n k l =
    get_or-append (map merged_owner m.owners) (map (λ x. pointer_owner m.format) m.automata) none k (omega (arith, length-map m.owners merged_owner)) ∙
    get_or-map merged_owner m.owners k none

pub pointer_owner_lem : (m : Model) → length m.owners ≡ length m.variables → (i : ℕ) → i < length m.automata → get_or (merged_owners m) (pointer m i) none ≡ pointer_owner m.format
unfolding pointer
pointer_owner_lem m n i l =
    let count : length (map merged_owner m.owners) ≡ length m.variables = length-map m.owners merged_owner ∙ n in
    rw (← count) (get_or-append-add (map merged_owner m.owners) (map (λ x. pointer_owner m.format) m.automata) i none ∙ get_d_same (pointer_owner m.format) m.automata i none l)

pub lacks_merged : (o : Option ℕ) → lacks (merged_owner o) ≡ lacks o
unfolding lacks merged_owner
lacks_merged none = refl
lacks_merged (some k) = refl

-- they are as many as its variables, and lawful
pub owners_length : (m : Model) → length m.owners ≡ length m.variables → length (merged_owners m) ≡ length m.variables + length m.automata
owners_length m n = simp (length-append, length-map) (omega arith)

pub pointer_owned : (f : ℕ) → owners_format ≤ f → pointer_owner f ≡ some 0
unfolding pointer_owner
pointer_owned f l = rw (le-leb owners_format f l, pointer_owner)

pub pointer_unowned : (f : ℕ) → f < owners_format → pointer_owner f ≡ none
unfolding pointer_owner
pointer_unowned f l = rw (lt-leb owners_format f l, pointer_owner)

pub merged_lawful : (f N : ℕ) (o : Option ℕ) → LawfulOwner f N o → LawfulOwner f 1 (merged_owner o)
unfolding merged_owner
merged_lawful f N none h = record { said = λ k e. absurd (none_some k e); below = λ k e. absurd (none_some k e) }
merged_lawful f N (some j) h = record { said = λ k e. h.said j refl; below = λ k e. let same = got 0 k e in omega arith }

pub pointer_lawful : (f : ℕ) → LawfulOwner f 1 (pointer_owner f)
pointer_lawful f = go (leb owners_format f) refl
  where
    go : (b : Bool) → leb owners_format f ≡ b → LawfulOwner f 1 (pointer_owner f)
    go true e =
        let l = leb-true owners_format f e in
        let o = pointer_owned f l in
        record { said = λ k h. l; below = λ k h. let same = got 0 k (sym o ∙ h) in omega arith }
    go false e =
        let o = pointer_unowned f (leb-false owners_format f e) in
        record { said = λ k h. absurd (none_some k (sym o ∙ h)); below = λ k h. absurd (none_some k (sym o ∙ h)) }
