-- Bytes: quoted text as bytes, comparing, parting at a byte and joining again.
use Rattle.std.specs.Prelude.{ℕ, Bool, true, false, List, [], ◌∷◌, ◌++◌, eqb}
use Prim.Native.Char.{code}
use Prim.Native.String as S
use Prim.Native.String.{String}

-- a text is a list of bytes
abbrev pub Bytes : Type 0
Bytes = List ℕ

abbrev pub bytes : String → Bytes
bytes S.String.[] = []
bytes (S.String.◌∷◌ c s) = code c ∷ bytes s

abbrev pub LF : ℕ
LF = code "\n"

abbrev pub space : ℕ
space = code " "

abbrev pub comma : ℕ
comma = code ","

abbrev pub minus : ℕ
minus = code "-"

abbrev pub '0 : ℕ
'0 = code "0"

abbrev pub '9 : ℕ
'9 = code "9"

abbrev pub 'a : ℕ
'a = code "a"

abbrev pub 'n : ℕ
'n = code "n"

abbrev pub 'v : ℕ
'v = code "v"

-- t begins with s
unfoldable pub begins : Bytes → Bytes → Bool
begins [] t = true
begins (a ∷ s) [] = false
begins (a ∷ s) (b ∷ t) = elim (eqb a b) [ true ↦ begins s t | false ↦ false ]

-- the parts of s between the bytes c: one more than there are c's
unfoldable pub onto : ℕ → List Bytes → List Bytes
onto b [] = (b ∷ []) ∷ []
onto b (s ∷ ss) = (b ∷ s) ∷ ss

unfoldable pub parts : ℕ → Bytes → List Bytes
parts c [] = [] ∷ []
parts c (b ∷ t) = elim (eqb b c) [ true ↦ [] ∷ parts c t | false ↦ onto b (parts c t) ]

-- the parts with a c before each; the parts joined by c
unfoldable pub led_by : ℕ → List Bytes → Bytes
led_by c [] = []
led_by c (s ∷ ss) = c ∷ s ++ led_by c ss

unfoldable pub joined : ℕ → List Bytes → Bytes
joined c [] = []
joined c (s ∷ ss) = s ++ led_by c ss
