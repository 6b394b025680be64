-- Each way out of `misparted` and `misformed`, and what they say of a line.
use Prim.Native.Nat.{ℕ, zero, suc, ◌-◌}
use mathlib.Core.Path.{◌≡◌, refl, sym, ap, ◌∙◌}
use mathlib.Core.Bool.{Bool, true, false, not, ◌||◌}
use native.Mathlib.Omega.{arith}
use borrow.Author.Tests.{eq-eqb, ne_eqb, eqb-true, eqb-false}
use lib.ListN.{length}
use lib.Dec.{eqb}
use Rattle.model.specs.Basic.{every}
use Rattle.model.specs.Lines.{Key, format, actions, variables, variable, automata, sync, locations, init, inv, edges, edge, compose}
use Rattle.format.specs.Bytes.{Bytes, begins, parts, comma}
use Rattle.format.specs.Rows.{place, is, fields, field_count, value_of, printable, row2}
use Rattle.format.specs.Spelling.{spelling}
use Rattle.text_bytes.specs.Find.{count_of}
use Rattle.text_bytes.proofs.FindLaws.{parts_count}
use Rattle.read_form.specs.Form.{line_of, value_after, misparted, misformed, fields_of}

-- `misparted`
pub parted_any : (v : Bytes) (n : ℕ) → n ≡ 0 → not (eqb n 0) ≡ misparted n v
unfolding misparted
parted_any v n h = rw h

pub parted_by : (v : Bytes) (n c : ℕ) → (n ≡ 0 → ⊥) → c ≡ count_of comma v → not (eqb c (n - 1)) ≡ misparted n v
unfolding misparted
parted_by v zero c z h = absurd (z refl)
parted_by v (suc n) c z h =
    let e = parts_count comma v in
    ap not (go (eqb c (suc n - 1)) refl)
  where
    go : (b : Bool) → eqb c (suc n - 1) ≡ b → b ≡ eqb (length (parts comma v)) (suc n)
    go true e = let k = eqb-true c (suc n - 1) e in sym (eq-eqb (length (parts comma v)) (suc n) (omega (arith, parts_count comma v, h)))
    go false e = let k = eqb-false c (suc n - 1) e in sym (ne_eqb (length (parts comma v)) (suc n) (λ x. k (omega (arith, parts_count comma v, h, x))))

pub ruleset misparted_laws = (parted_any, parted_by)

-- `misformed`
module _ (name : Bytes) (n : ℕ) (s : Bytes) (ended b : Bool) (hb : b ≡ begins name s) where
  pub form_key : b ≡ false → true ≡ misformed name n s ended
  unfolding misformed
  form_key h = rw (sym hb ∙ h, misformed)

  module _ (g : b ≡ true) (v : Bytes) (hv : v ≡ value_after name s) (p : Bool) (hp : p ≡ misparted n v) where
    pub form_parts : p ≡ true → true ≡ misformed name n s ended
    unfolding misformed
    form_parts h = rw (sym hb ∙ g, ← hv, sym hp ∙ h, misformed)

    pub form_bytes : p ≡ false → (q : Bool) → q ≡ every printable s → (not q || not ended) ≡ misformed name n s ended
    unfolding misformed
    form_bytes h q hq = rw (hq, sym hb ∙ g, ← hv, sym hp ∙ h, misformed)

pub ruleset form_laws = (form_key, form_parts, form_bytes)

-- it is row 2, for each key
pub row2_by : (k : Key) (s : Bytes) (ended : Bool) → misformed (spelling k) (fields_of k) s ended ≡ row2 k (line_of s ended)
unfolding misformed misparted fields_of row2 fields field_count value_of is place
row2_by format s ended = refl
row2_by actions s ended = refl
row2_by variables s ended = refl
row2_by variable s ended = refl
row2_by automata s ended = refl
row2_by sync s ended = refl
row2_by locations s ended = refl
row2_by init s ended = refl
row2_by inv s ended = refl
row2_by edges s ended = refl
row2_by edge s ended = refl
row2_by compose s ended = refl
