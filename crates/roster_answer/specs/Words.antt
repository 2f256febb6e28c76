-- The words that a fitter is answered with, as bytes.
use Rattle.std.specs.Prelude.{ℕ, ◌+◌, ◌/◌, ◌%◌, Option, Some, None, List, [], ◌∷◌, ◌++◌, eqb, ltb}
use Prim.Native.String.{String}
use Rattle.base.specs.Choice.{choose}
use Rattle.serials.specs.Bytes.{bytes}

-- the last digit of a number
abbrev pub digit : ℕ → ℕ
digit n = 48 + n % 10

-- a number below 1,000 in decimal digits, with no zero in front
unfoldable pub decimal : ℕ → List ℕ
decimal n =
    choose (ltb n 10) (digit n ∷ [])
    (choose (ltb n 100) (digit (n / 10) ∷ digit n ∷ [])
    (digit (n / 100) ∷ digit (n / 10) ∷ digit n ∷ []))

-- why a line is refused
abbrev pub reason : ℕ → String
reason number =
    choose (eqb number 30) "a character that is not a capital letter or a digit"
    (choose (eqb number 31) "a serial that is empty or longer than 20 characters"
    (choose (eqb number 32) "no line feed at the end"
    (choose (eqb number 33) "the serial of an earlier line"
    "more than 257 lines")))

-- slots count from 0
abbrev pub found_line : Option ℕ → List ℕ
found_line (Some k) = bytes "slot " ++ (decimal k ++ bytes "\n")
found_line None = bytes "none\n"

-- lines count from 1
abbrev pub refused_line : ℕ → ℕ → List ℕ
refused_line number line =
    bytes "refused " ++ (decimal number ++ (bytes " line " ++ (decimal line ++ (bytes ": " ++ (bytes (reason number) ++ bytes "\n")))))
