-- Each way out of the code of src/list.rt.
use Prim.Native.Nat.{ℕ, ◌+◌, ◌-◌, ◌%◌, ◌/◌}
use mathlib.Core.Path.{◌≡◌, ◌∙◌, ap}
use mathlib.Core.Bool.{true, false, not, ◌&&◌}
use mathlib.Core.List.{List}
use Rattle.format.specs.Bytes.{Bytes}
use Rattle.std.specs.Prelude.{Option, Some, None}
use Rattle.read_list.specs.declared.Asked.{Asked}
use Rattle.read_list.specs.declared.Listed as Read
use Rattle.read_list.specs.Items.{items_of}
use Rattle.read_composition.specs.List.{all_actions, asked_of, words_of, list_of}
use Rattle.read_composition.specs.declared.list.Listed.{Listed}

-- `asked`
pub asked_is : (A n : ℕ) → n ≡ A → ◌≡◌ {A = Asked} (record { most = 63; least = 1; below = n + 1; all = all_actions }) (asked_of A)
unfolding asked_of
asked_is A n e = rw e

pub ruleset asked_laws = (asked_is)

-- `in_words`
pub words_is : (o : Option Read.Listed) (l : Read.Listed) → o ≡ Some l → (low high : ℕ) → low ≡ (all_actions - l.rest) % 4294967296 → high ≡ (all_actions - l.rest) / 4294967296
    → record { sound = true; rising = l.rising && not l.outside; low = low; high = high } ≡ words_of o
unfolding words_of
words_is o l h low high e f = rw (h, e, f)

pub words_unsound : (o : Option Read.Listed) → o ≡ None → (low high : ℕ) → low ≡ all_actions % 4294967296 → high ≡ all_actions / 4294967296
    → record { sound = false; rising = false; low = low; high = high } ≡ words_of o
unfolding words_of
words_unsound o h low high e f = rw (h, e, f)

pub ruleset words_laws = (words_is, words_unsound)

-- `list_of` and `sync_list`
pub list_is : (A : ℕ) (items : List Bytes) (q : Asked) (l : Option Read.Listed) (r : Listed) → r ≡ words_of l → l ≡ items_of q items → q ≡ asked_of A → r ≡ list_of A items
unfolding list_of
list_is A items q l r h e f = h ∙ ap words_of (e ∙ ap (λ (x : Asked). items_of x items) f)

pub ruleset list_laws = (list_is)
