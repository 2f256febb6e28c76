-- The program's buffers: their sizes, and the answer to what was read into them.
use Rattle.std.specs.Prelude.{ℕ, ◌+◌, ◌≡◌, List, ◌++◌, length, take, drop}
use Rattle.header.specs.Refusals.{job_limit}
use Rattle.job.specs.Answer.{answer_to}

-- The input has room for one byte more than the longest job that is taken, so that a longer one is told from it; the output
-- has room for every answer.
abbrev pub input_size : ℕ
input_size = 14 + job_limit + 1

abbrev pub output_size : ℕ
output_size = 6 + job_limit

-- The contract over these buffers. The job is what was read into the input; a count above its size stands for all of it. The answer
-- stands whole at the output's start, its length is returned, and the rest of the output is left.
pub record AnswerInputCall (input : List ℕ) (read : ℕ) (before : List ℕ) (r : ℕ) (after : List ℕ) : Type 0 where
  pub sizes : (length input ≡ input_size) × (length before ≡ output_size)
  pub count : r ≡ length (answer_to (take read input))
  pub output : after ≡ answer_to (take read input) ++ drop (length (answer_to (take read input))) before
