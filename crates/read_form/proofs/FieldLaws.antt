-- Each way out of `field`.
use Prim.Native.Nat.{ℕ, zero, suc, ◌≤◌}
use mathlib.Core.Path.{◌≡◌, refl, sym, ◌∙◌, ap}
use mathlib.Core.Bool.{Bool, true, false}
use mathlib.Core.List.{List, [], ◌∷◌}
use native.Mathlib.Omega.{arith}
use lib.ListN.{length, get_or}
use lib.Dec.{eqb}
use Rattle.format.specs.Bytes.{Bytes, onto, parts, comma}
use denote.Ref.{Bor}
use Rattle.std.specs.Prelude.{Option, Some, None}
use Rattle.std.specs.Option.{option_map, unwrap_or}
use Rattle.std.specs.List.{slice_get}
use Rattle.std.proofs.lemmas.Option.{unwrap_or-slice_get}
use Rattle.text_bytes.proofs.Splits.{split_at, parts_split}
use Rattle.read_form.specs.Form.{field_in}

-- a field is no longer than the whole
onto_long : (b : ℕ) (ss : List Bytes) (i : ℕ) → length (get_or (onto b ss) i []) ≤ suc (length (get_or ss i []))
unfolding onto
onto_long b [] zero = omega arith
onto_long b [] (suc i) = omega arith
onto_long b (s ∷ ss) zero = omega arith
onto_long b (s ∷ ss) (suc i) = omega arith

part_long : (c : ℕ) (s : Bytes) (i : ℕ) → length (get_or (parts c s) i []) ≤ length s
unfolding parts
part_long c [] zero = omega arith
part_long c [] (suc i) = omega arith
part_long c (b ∷ t) i = go (eqb b c) i (part_long c t)
  where
    go : (v : Bool) (j : ℕ) → ((k : ℕ) → length (get_or (parts c t) k []) ≤ length t)
        → length (get_or {A = Bytes} (elim v as (λ x. List Bytes) [ true ↦ [] ∷ parts c t | false ↦ onto b (parts c t) ]) j []) ≤ suc (length t)
    go true zero ih = omega arith
    go true (suc j) ih = omega (arith, ih j)
    go false j ih = omega (arith, ih j, onto_long b (parts c t) j)

pub field_within : (i : ℕ) (v : Bytes) → length (field_in i v) ≤ length v
unfolding field_in
field_within i v = part_long comma v i

-- `field`: the part that `split` gives with this number
pub field_nth : (v : Bytes) (number : ℕ) (r : Option (Bor Bytes)) (p other : Bor Bytes) → other.now ≡ [] → p ≡ unwrap_or r other
    → option_map (λ x. x.now) r ≡ slice_get (split_at comma v) number → p.now ≡ field_in number v
unfolding field_in
field_nth v number r p other e h k =
    ap (λ (x : Bor Bytes). x.now) h ∙ go r ∙ rw (k, e, unwrap_or-slice_get (split_at comma v) number []) (ap (λ (l : List Bytes). get_or l number []) (sym (parts_split comma v)))
  where
    go : (o : Option (Bor Bytes)) → (unwrap_or o other).now ≡ unwrap_or (option_map (λ x. x.now) o) other.now
    go None = refl
    go (Some x) = refl
