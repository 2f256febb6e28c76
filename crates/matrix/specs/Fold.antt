-- Sums, "all of" and "the first of" over the places 0, 1, .., n - 1: one fold.
-- Assumes nothing.
use Rattle.std.specs.Prelude.{Bool, true, ◌&&◌, ℕ, zero, suc, ◌+◌}

-- e • f 0 • f 1 • .. • f (n - 1), for the operation •
unfoldable pub fold : {A : Type 0} → (A → A → A) → A → ℕ → (ℕ → A) → A
fold op e zero f = e
fold op e (suc n) f = op (fold op e n f) (f n)

-- f 0 + f 1 + .. + f (n - 1)
abbrev pub sum : ℕ → (ℕ → ℕ) → ℕ
sum = fold ◌+◌ 0

-- the test p holds at each place below n
abbrev pub all : ℕ → (ℕ → Bool) → Bool
all = fold ◌&&◌ true
