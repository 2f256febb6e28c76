-- What the program keeps: of a text of any length, as many bytes as 258 lines of 20 characters have, and of the others the first that no serial has;
-- of the serial that it is asked for, one byte more than a serial has.
use Rattle.std.specs.Prelude.{ℕ, ◌+◌, ◌*◌, ◌≤◌, ◌≡◌, Bool, not, List, [], ◌∷◌, ◌++◌, eqb, ltb, length, take, drop}
use Rattle.base.specs.Choice.{choose, both, either}
use Rattle.lines.specs.Lines.{is_character}
use Rattle.roster_answer.specs.Answer.{answer_text, Begins}

abbrev pub kept_size : ℕ
kept_size = 258 * 21

abbrev pub held_size : ℕ
held_size = kept_size + 1

abbrev pub asked_size : ℕ
asked_size = 21

-- the first byte that is not a capital letter or a digit, if there is one
abbrev pub first_other : List ℕ → List ℕ
first_other [] = []
first_other (c ∷ t) = choose (is_character c) (first_other t) (c ∷ [])

-- where n bytes are kept
abbrev pub kept_of : ℕ → List ℕ → List ℕ
kept_of n t = take n t ++ first_other (drop n t)

unfoldable pub kept : List ℕ → List ℕ
kept t = kept_of kept_size t

-- whether a byte is kept after n that are, where `limit` bytes are kept whatever they are
abbrev pub is_taken : ℕ → ℕ → ℕ → Bool
is_taken limit n c = either (ltb n limit) (both (eqb n limit) (not (is_character c)))

-- the first n bytes of an array are what is kept of a text
pub record Holds (held : List ℕ) (n : ℕ) (t : List ℕ) : Type 0 where
  pub count : n ≡ length (kept t)
  pub bytes : take n held ≡ kept t

-- The contract over these buffers: the first n bytes of `held` and the first k of `asked` are answered. What is returned counts bytes of the output.
pub record AnswerHeldCall (held : List ℕ) (n : ℕ) (asked : List ℕ) (k : ℕ) (before : List ℕ) (r : ℕ) (after : List ℕ) : Type 0 where
  pub sizes : (length held ≡ held_size) × (length asked ≡ asked_size)
  pub answer : Begins (answer_text (take n held) (take k asked)) before r after
  pub within : r ≤ length after
