-- Each number that is told is below 1,000, and its digits are those of the number: a line is at most 258, and a slot at most 256.
-- Assumes nothing.
use mathlib.Core.Path.{◌≡◌, subst}
use mathlib.Core.Logic.{◌≢◌, ⊎_elim}
use mathlib.Core.List.{List, [], ◌∷◌}
use Prim.Native.Nat.{ℕ, ◌+◌, ◌*◌, ◌-◌, ◌/◌, ◌%◌, ◌<◌}
use native.Mathlib.Omega.{arith}
use borrow.Author.Tests.{lt-ltb, le-ltb}
use Rattle.base.proofs.Choice.{below_or_not}
use Rattle.std.specs.Prelude.{Some}
use Rattle.serials.specs.Serials.{serials}
use Rattle.serials.specs.LookUp.{look_up}
use Rattle.serials.specs.Lowest.{Tells}
use Rattle.serials.proofs.LookUp.{look_up_tells}
use Rattle.roster.specs.Text.{line_ends}
use Rattle.roster.specs.Calls.{read_answer}
use Rattle.roster.proofs.Tells.{value, accepted_roster, refused_line_lem}
use Rattle.roster_answer.specs.Words.{digit, decimal}

-- the number that digits mean, after n
abbrev pub meant : ℕ → List ℕ → ℕ
meant n [] = n
meant n (d ∷ ds) = meant (10 * n + (d - 48)) ds

pub decimal_means : (n : ℕ) → n < 1000 → meant 0 (decimal n) ≡ n
unfolding decimal
decimal_means n h =
    ⊎_elim (λ l. rw (lt-ltb n 10 l) (omega arith))
    (λ l. rw (le-ltb n 10 l) (⊎_elim (λ m. rw (lt-ltb n 100 m) (omega arith)) (λ m. rw (le-ltb n 100 m) three) (below_or_not n 100)))
    (below_or_not n 10)
  where
    three : 10 * (10 * (10 * 0 + (digit (n / 100) - 48)) + (digit (n / 10) - 48)) + (digit n - 48) ≡ n
    three =
        let hundreds : n / 100 < 10 = omega arith in
        let high : n / 100 % 10 ≡ n / 100 = omega arith in
        let tens : n / 10 ≡ 10 * (n / 100) + n / 10 % 10 = omega arith in
        let ones : n ≡ 10 * (n / 10) + n % 10 = omega arith in
        omega arith

pub line_small : (text : List ℕ) → (read_answer text).number ≢ 0 → value (read_answer text) < 1000
line_small text n = omega (arith, refused_line_lem text n)

pub slot_small : (text asked : List ℕ) (slot : ℕ) → (read_answer text).number ≡ 0 → look_up (serials text (line_ends text)) asked ≡ Some slot → slot < 1000
slot_small text asked slot e found =
    let ss = serials text (line_ends text) in
    let lowest = subst (Tells ss asked) found (look_up_tells ss asked) in
    omega (arith, lowest.there, (accepted_roster text e).slots)
