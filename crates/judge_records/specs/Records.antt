-- The answers to records of 65 bytes: the count, then eight matrices of eight row bytes. An answer is seven bytes.
use Rattle.std.specs.Prelude.{◌≡◌, List, [], ◌++◌, ℕ, zero, suc, ◌+◌, ◌*◌, ◌/◌, min, length, get_or, drop}
use Rattle.bitmatrix.specs.Judge.{judged}
use Rattle.judge_code.specs.Code.{code_at}
use Rattle.judge_answer.specs.Answer.{answer_bytes}

abbrev pub answer_at : List ℕ → ℕ → List ℕ
answer_at bytes at = answer_bytes (judged (code_at bytes (at + 1)) (get_or bytes at 0))

-- how many whole records there are whose answers have room
abbrev pub records : List ℕ → List ℕ → ℕ
records codes out = min (length codes / 65) (length out / 7)

-- the answers to the first k records
unfoldable pub answers : ℕ → List ℕ → List ℕ
answers zero bytes = []
answers (suc k) bytes = answers k bytes ++ answer_at bytes (65 * k)

-- what the function on records promises: how many bytes it answers, and that they stand at the output's start and the rest is left
pub record JudgeAllCall (codes before : List ℕ) (r : ℕ) (after : List ℕ) : Type 0 where
  pub count : r ≡ 7 * records codes before
  pub output : after ≡ answers (records codes before) codes ++ drop (7 * records codes before) before
