-- Request (c), "Seconds and grams": numbers up to 1,000,000,000 both ways, expressions up to 2^62 both ways, 16,384 words.
use Prim.Native.Nat.{ℕ}
use mathlib.Core.Path.{◌≡◌, refl}
use mathlib.Core.Bool.{true}
use mathlib.Core.List.{List, [], ◌∷◌, ◌++◌}
use lib.IntN.{ℤ, pos, negsuc}
use lib.ListN.{take, drop}
use Rattle.model.specs.Basic.{same}
use Rattle.model.specs.Judge as Judge
use Rattle.model.specs.Judge.{yes, no, Call, environment}
use Rattle.format.specs.Bytes.{Bytes, bytes}
use Rattle.theorem_examples.proofs.Computing.{computing}
use Rattle.theorem_examples.proofs.Cases.{Case, accepts, refuses, refuses_table, answers, answers_table, same_bool, same_answer, table_of_text, refused_with, passes, failing}
use Rattle.theorem_examples.proofs.Refused.{ranged}

-- a variable in the whole range, and this init
abbrev wide : Bytes → Bytes
wide init = ranged (bytes "-1000000000,1000000000") init

-- an expression is compared with 0
abbrev judged : Bytes → Bytes
judged x = wide (bytes "le " ++ (x ++ bytes " 0"))

-- 2^62, 2^31, and x with a sign
abbrev top : Bytes
top = bytes "add mul 1000000000 add mul 4 1000000000 611686018 427387904"

abbrev root : Bytes
root = bytes "add mul 2 1000000000 147483648"

abbrev minus : Bytes → Bytes
minus x = bytes "sub 0 " ++ x

abbrev two : (word x y : Bytes) → Bytes
two word x y = word ++ (bytes " " ++ (x ++ (bytes " " ++ y)))

-- the init, asked at the start of this value
abbrev at : ℤ → Call
at z = environment 0 (0 ∷ []) (z ∷ []) (z ∷ [])

abbrev wide_cases : List Case
wide_cases =
    -- row 3: numbers and bounds
    accepts (wide (bytes "le -1000000000 1000000000")) ∷
    refuses (wide (bytes "le 0 1000000001")) 3 8 ∷
    refuses (wide (bytes "le -1000000001 0")) 3 8 ∷
    refuses (ranged (bytes "0,1000000001") (bytes "all 0")) 3 4 ∷
    refuses (ranged (bytes "-1000000001,0") (bytes "all 0")) 3 4 ∷
    accepts (ranged (bytes "-1000000000,-999999999") (bytes "all 0")) ∷
    refuses (ranged (bytes "-999999999,-1000000000") (bytes "all 0")) 4 4 ∷
    -- row 10: both ends of the span, and one past them
    accepts (judged top) ∷
    refuses (judged (two (bytes "add") top (bytes "1"))) 10 8 ∷
    accepts (judged (minus top)) ∷
    refuses (judged (two (bytes "sub") (minus top) (bytes "1"))) 10 8 ∷
    accepts (judged (two (bytes "mul") root root)) ∷
    refuses (judged (two (bytes "mul") (two (bytes "add") root (bytes "1")) root)) 10 8 ∷
    accepts (judged (two (bytes "mul") (minus root) root)) ∷
    refuses (judged (two (bytes "mul") (two (bytes "sub") (minus root) (bytes "1")) root)) 10 8 ∷
    -- what 64 bits do not hold
    refuses (judged (two (bytes "add") top top)) 10 8 ∷
    refuses (judged (two (bytes "sub") (minus top) top)) 10 8 ∷
    refuses (judged (two (bytes "mul") top top)) 10 8 ∷
    refuses (judged (two (bytes "mul") (minus top) top)) 10 8 ∷
    refuses (judged (two (bytes "mul") root (two (bytes "mul") root (bytes "4")))) 10 8 ∷
    -- every part is judged, also in a guard and where it is multiplied with 0
    refuses (judged (two (bytes "sub") (two (bytes "add") top (bytes "1")) (bytes "1"))) 10 8 ∷
    refuses (judged (two (bytes "mul") (bytes "0") (two (bytes "mul") top top))) 10 8 ∷
    refuses (judged (bytes "if le " ++ (two (bytes "mul") top top ++ bytes " 0 0 1"))) 10 8 ∷
    -- by the ranges: the corners of the product count
    accepts (judged (bytes "mul 4 mul v0 v0")) ∷
    refuses (judged (bytes "mul 5 mul v0 v0")) 10 8 ∷
    accepts (ranged (bytes "0,1664510") (bytes "eq mul mul v0 v0 v0 0")) ∷
    refuses (ranged (bytes "0,1664511") (bytes "eq mul mul v0 v0 v0 0")) 10 8 ∷
    refuses (ranged (bytes "-1664511,0") (bytes "eq mul mul v0 v0 v0 0")) 10 8 ∷
    -- the judge: values past 32 bits, and values whose low 32 bits are alike
    answers (wide (bytes "eq mul v0 v0 mul 1000000000 1000000000")) (at (pos 1000000000)) yes ∷
    answers (wide (bytes "eq mul v0 v0 mul 1000000000 1000000000")) (at (negsuc 999999999)) yes ∷
    answers (wide (bytes "eq mul v0 v0 mul 1000000000 1000000000")) (at (pos 999999999)) no ∷
    answers (wide (bytes "eq mul v0 v0 0")) (at (pos 65536)) no ∷
    answers (wide (bytes "eq mul v0 v0 0")) (at (pos 0)) yes ∷
    answers (wide (bytes "le mul 4 mul v0 1000000000 v0")) (at (negsuc 999999999)) yes ∷
    answers (wide (bytes "le mul 4 mul v0 1000000000 v0")) (at (pos 1000000000)) no ∷
    answers (wide (two (bytes "le") top (two (bytes "add") top (bytes "mul 0 v0")))) (at (pos 1)) yes ∷
    answers (wide (bytes "all 0")) (at (pos 1000000001)) (Judge.refused 23) ∷
    answers (wide (bytes "all 0")) (at (negsuc 1000000000)) (Judge.refused 23) ∷
    -- rows 18 and 19: a table as long as it was before, and a number's word of before
    refuses_table (wide (bytes "all 0")) 8192 18 0 ∷
    answers_table (take 8192 (table_of_text (wide (bytes "all 0")))) (at (pos 0)) (Judge.refused 18) ∷
    answers_table (take 11 wide_table ++ 524294 ∷ drop 12 wide_table) (at (pos 0)) (Judge.refused 19) ∷
    []
  where
    wide_table : List ℕ
    wide_table = table_of_text (wide (bytes "le -1000000000 1000000000"))

pub wide_cases_lem : failing 0 wide_cases ≡ []
unfolding computing same_bool same_answer table_of_text refused_with passes failing
wide_cases_lem = refl

-- the words of the extremes, docs/TABLE.md
pub wide_table_lem : same (take 14 (table_of_text (wide (bytes "le -1000000000 1000000000")))) (
    1 ∷ 2 ∷ 1 ∷ 0 ∷ 2000000000 ∷ 0 ∷ 1 ∷ 0 ∷ 0 ∷ 1 ∷ 3 ∷ 5 ∷ 2147483648 ∷ 4147483648 ∷ []) ≡ true
unfolding computing table_of_text
wide_table_lem = refl
