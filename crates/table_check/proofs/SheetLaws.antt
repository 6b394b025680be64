-- Each way out of the code of src/sheet.rt.
use Prim.Native.Nat.{ℕ, suc, ◌+◌, ◌-◌, ◌≤◌, ◌<◌, min}
use Rattle.std.proofs.lemmas.List.{take_rest, drop_min}
use mathlib.Core.Path.{◌≡◌, sym, ◌∙◌, ap}
use mathlib.Core.Bool.{Bool, true, false, ◌&&◌, and-true, and_assoc}
use mathlib.Core.List.{List}
use mathlib.Core.Option.{Option, none, some}
use native.Mathlib.Numerals.{add-one}
use lib.ListN.{length, get_or, take, drop, drop_of_length-le}
use lib.Seq.{drop-cons}
use lib.Dec.{eqb}
use Rattle.model.specs.Basic.{every}
use Rattle.model.specs.Bounds.{table_words}
use Rattle.line_order.specs.Due.{is_end}
use Rattle.table_line.specs.declared.Line.{Line}
use Rattle.std.specs.Prelude.{Option as Choice, Some, None}
use Rattle.table_check.specs.declared.Scan.{Scan}
use Rattle.table_line.specs.Line.{line_at}
use Rattle.table_check.specs.Scan.{scan_first, scan_after, zeros_from, scanned, scanned_sheet}
use Rattle.table_check.proofs.ScanLaws.{scanned_end, scanned_sound, scanned_bad}

-- `zeros`: what was found so far, and the words that are left
abbrev pub all_zero : List ℕ → Bool
all_zero ws = every (λ w. eqb w 0) ws

module _ (ws : List ℕ) (i : ℕ) (all whole : Bool) (inv : (all && all_zero (drop i ws)) ≡ whole) where
  pub zeros_end : length ws ≤ i → all ≡ whole
  unfolding every
  zeros_end h = sym (and-true all) ∙ rw (drop_of_length-le ws h) at inv

  zeros_step : i < length ws → all_zero (drop i ws) ≡ (eqb (get_or ws i 0) 0 && all_zero (drop (i + 1) ws))
  unfolding every
  zeros_step h = rw (drop-cons ws i 0 h, add-one i)

  pub zeros_more : i < length ws → (now : Bool) → now ≡ (all && eqb (get_or ws i 0) 0) → (now && all_zero (drop (i + 1) ws)) ≡ whole
  zeros_more h now e =
      ap (λ (b : Bool). b && all_zero (drop (i + 1) ws)) e ∙ and_assoc all (eqb (get_or ws i 0) 0) (all_zero (drop (i + 1) ws)) ∙
      ap (λ (b : Bool). all && b) (sym (zeros_step h)) ∙ inv

pub ruleset zeros_laws = (zeros_end, zeros_more)

-- the words from `at` on, where there are any
pub zeros_rest : (t : List ℕ) (at m : ℕ) → m ≡ min at (length t) → all_zero (take (length t - m) (drop m t)) ≡ zeros_from t at
unfolding zeros_from
zeros_rest t at m e = ap all_zero (take_rest t m ∙ ap (λ (i : ℕ). drop i t) e ∙ drop_min at t)

-- `sheet`: the answer, by what the rounds come to
unfoldable pub zeros_after : List ℕ → Option ℕ → Bool
zeros_after t o = elim o [ none ↦ false | some at ↦ zeros_from t at ]

module _ (t : List ℕ) where
  pub sheet_first : (s : Scan) → s ≡ scan_first → zeros_after t (scanned (line_at t) (table_words + 1) s) ≡ scanned_sheet (line_at t) t
  unfolding scanned_sheet zeros_after
  sheet_first s h = ap (λ (x : Scan). zeros_after t (scanned (line_at t) (table_words + 1) x)) h

  module _ (left : ℕ) (s : Scan) (whole : Bool) (inv : zeros_after t (scanned (line_at t) left s) ≡ whole) where
    pub sheet_spent : left ≡ 0 → false ≡ whole
    unfolding scanned zeros_after
    sheet_spent z = rw z at inv

    module _ (rest : ℕ) (z : left ≡ suc rest) (e : Bool) (he : e ≡ is_end s.due.key) where
      round : zeros_after t (scanned (line_at t) (suc rest) s) ≡ whole
      round = rw z at inv

      pub sheet_end : e ≡ true → (r : Bool) → r ≡ zeros_from t s.at → r ≡ whole
      unfolding zeros_after
      sheet_end h r hr = hr ∙ sym (ap (zeros_after t) (scanned_end (line_at t) rest s (sym he ∙ h))) ∙ round

      module _ (h : e ≡ false) (l : Choice Line) (hl : l ≡ line_at t s.at s.due.key s.counts) where
        pub sheet_bad : l ≡ None → false ≡ whole
        unfolding zeros_after
        sheet_bad b = sym (ap (zeros_after t) (scanned_bad (line_at t) rest s (sym he ∙ h) (sym hl ∙ b))) ∙ round

        pub sheet_on : (x : Line) → l ≡ Some x → (after : Scan) → after ≡ scan_after s x.number x.nodes x.next → zeros_after t (scanned (line_at t) rest after) ≡ whole
        sheet_on x b after ha =
            rw ha (sym (ap (zeros_after t) (scanned_sound (line_at t) rest s x.number x.nodes x.next (sym he ∙ h) (sym hl ∙ b))) ∙ round)

pub ruleset sheet_laws = (sheet_first, sheet_spent, sheet_end, sheet_bad, sheet_on)
