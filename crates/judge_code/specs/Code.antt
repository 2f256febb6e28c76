-- What a code is read from: the bytes of its matrices, by rows.
use Rattle.std.specs.Prelude.{List, [], ◌∷◌, ℕ, ◌+◌, ltb, length, get_or, replicate}
use Rattle.base.specs.Choice.{choose}
use Rattle.matrix.specs.Matrix.{Matrix}
use Rattle.findings.specs.Findings.{Code}

-- the matrix whose eight rows stand at a place
abbrev pub matrix_at : List ℕ → ℕ → Matrix
matrix_at bytes at =
    get_or bytes at 0
    ∷ get_or bytes (at + 1) 0
    ∷ get_or bytes (at + 2) 0
    ∷ get_or bytes (at + 3) 0
    ∷ get_or bytes (at + 4) 0
    ∷ get_or bytes (at + 5) 0
    ∷ get_or bytes (at + 6) 0
    ∷ get_or bytes (at + 7) 0
    ∷ []

-- eight matrices, one after the other, and of 00 where they don't all stand there
unfoldable pub code_at : List ℕ → ℕ → Code
code_at bytes at =
    choose (ltb (length bytes) (at + 64)) (replicate 8 (replicate 8 0))
    (matrix_at bytes at
    ∷ matrix_at bytes (at + 8)
    ∷ matrix_at bytes (at + 16)
    ∷ matrix_at bytes (at + 24)
    ∷ matrix_at bytes (at + 32)
    ∷ matrix_at bytes (at + 40)
    ∷ matrix_at bytes (at + 48)
    ∷ matrix_at bytes (at + 56)
    ∷ [])
