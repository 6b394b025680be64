-- Each way out of the code of src/number.rt.
use Prim.Native.Nat.{ℕ}
use mathlib.Core.Path.{◌≡◌, sym, ◌∙◌, ap}
use mathlib.Core.Bool.{Bool, true, false}
use mathlib.Core.List.{List, [], ◌∷◌}
use lib.IntN.{ℤ}
use Rattle.model.specs.Table.{biased}
use Rattle.table_owners.specs.Owners.{beyond_in}
use Rattle.table_append.specs.Append.{next_place, put}
use Rattle.table_append.proofs.Joined.{next_then, put_then}
use Rattle.std.specs.Prelude.{Result, Ok, Err}
use Rattle.model.specs.declared.Row.{Row}
use Rattle.model.specs.Row as Row
use Rattle.read_numbers.specs.Range.{Ends}
use Rattle.read_numbers.specs.Number.{few_edges}
use Rattle.read_form.specs.declared.LineRead.{LineRead}
use Rattle.read_form.specs.Outcome.{said}
use Rattle.read_number_line.specs.Number.{number_read, number_after, known_owners, bounds_read, bounds_after}

-- `counting`
module _ (c : Result ℕ Row) (at : ℕ) where
  module _ (n : ℕ) (e : c ≡ Ok n) where
    pub counting_sound : (i next : ℕ) → i ≡ n → next ≡ next_place at 1 → Ok (said i 0 next) ≡ number_read c at
    unfolding number_read
    counting_sound i next hi hn = rw (e, hi, hn)

    pub number_put : (old new : List ℕ) → new ≡ put at (n ∷ []) old → new ≡ number_after c at old
    unfolding number_after
    number_put old new h = h ∙ rw e

  module _ (r : Row) (e : c ≡ Err r) where
    pub counting_fault : Err r ≡ number_read c at
    unfolding number_read
    counting_fault = rw e

    pub number_kept : (old : List ℕ) → old ≡ number_after c at old
    unfolding number_after
    number_kept old = rw e

pub ruleset counting_laws = (counting_sound, number_put, counting_fault, number_kept)

-- `append_variable`
module _ (at next : ℕ) (hn : next ≡ next_place at 2) where
  pub variable_next : (last : ℕ) → last ≡ next_place next 1 → last ≡ next_place at 3
  variable_next last hl = hl ∙ ap (λ (n : ℕ). next_place n 1) hn ∙ next_then at 2 1

  pub variable_put : (x y : ℕ) (old mid new : List ℕ) → mid ≡ put at (x ∷ y ∷ []) old → new ≡ put next (0 ∷ []) mid → new ≡ put at (x ∷ y ∷ 0 ∷ []) old
  variable_put x y old mid new hm h =
      h ∙ ap (λ (n : ℕ). put n (0 ∷ []) mid) hn ∙ ap (put (next_place at 2) (0 ∷ [])) hm ∙ put_then (x ∷ y ∷ []) at (0 ∷ []) old

pub ruleset variable_laws = (variable_next, variable_put)

-- `ranging`
module _ (b : Ends) (at : ℕ) where
  module _ (low high : ℤ) (e : b ≡ Ok (low, high)) where
    pub ranging_sound : (next : ℕ) → next ≡ next_place at 3 → Ok (said 0 0 next) ≡ bounds_read b at
    unfolding bounds_read
    ranging_sound next hn = rw (e, hn)

    pub ranging_put : (x y : ℕ) → x ≡ biased low → y ≡ biased high → (old new : List ℕ) → new ≡ put at (x ∷ y ∷ 0 ∷ []) old → new ≡ bounds_after b at old
    unfolding bounds_after
    ranging_put x y hx hy old new h = h ∙ rw (hx, hy, e)

  module _ (r : Row) (e : b ≡ Err r) where
    pub ranging_fault : Err r ≡ bounds_read b at
    unfolding bounds_read
    ranging_fault = rw e

    pub ranging_kept : (old : List ℕ) → old ≡ bounds_after b at old
    unfolding bounds_after
    ranging_kept old = rw e

pub ruleset ranging_laws = (ranging_sound, ranging_put, ranging_fault, ranging_kept)

-- `known_owners`
module _ (variables : List ℕ) (c : Result ℕ Row) where
  pub known_unsound : (r : Row) → c ≡ Err r → Err r ≡ known_owners variables c
  unfolding known_owners
  known_unsound r e = rw e

  module _ (n : ℕ) (e : c ≡ Ok n) (i : ℕ) (hi : i ≡ n) (b : Bool) (hb : b ≡ beyond_in variables i) where
    pub known_beyond : b ≡ true → Err (Row.row 50) ≡ known_owners variables c
    unfolding known_owners
    known_beyond h = rw (e, ← hi, sym hb ∙ h, known_owners)

    pub known_all : b ≡ false → Ok n ≡ known_owners variables c
    unfolding known_owners
    known_all h = sym (rw (e, ← hi, sym hb ∙ h, known_owners) (ap (λ (x : ℕ). Ok x) (sym hi)))

pub ruleset known_laws = (known_unsound, known_beyond, known_all)

-- the lines of the keys: a count that was read goes on as it is
module _ (at : ℕ) (d c : Result ℕ Row) (e : d ≡ c) where
  pub read_on : (r : Result LineRead Row) → r ≡ number_read d at → r ≡ number_read c at
  read_on r h = h ∙ rw e

  pub after_on : (old new : List ℕ) → new ≡ number_after d at old → new ≡ number_after c at old
  after_on old new h = h ∙ rw e

module _ (at : ℕ) (d c : Ends) (e : d ≡ c) where
  pub bounds_on : (r : Result LineRead Row) → r ≡ bounds_read d at → r ≡ bounds_read c at
  bounds_on r h = h ∙ rw e

  pub bounds_after_on : (old new : List ℕ) → new ≡ bounds_after d at old → new ≡ bounds_after c at old
  bounds_after_on old new h = h ∙ rw e

pub few_on : (before : ℕ) (f d c : Result ℕ Row) → f ≡ few_edges before d → d ≡ c → f ≡ few_edges before c
few_on before f d c h e = h ∙ rw e

pub known_on : (variables rs : List ℕ) (f d c : Result ℕ Row) → f ≡ known_owners rs d → rs ≡ variables → d ≡ c → f ≡ known_owners variables c
known_on variables rs f d c h hr e = h ∙ rw (hr, e)

pub ruleset on_laws = (read_on, after_on, bounds_on, bounds_after_on, few_on, known_on)
