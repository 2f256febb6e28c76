-- What is a line, at texts that the definition computes.
-- Assumes nothing.
use mathlib.Core.Path.{◌≡◌, refl}
use mathlib.Core.Bool.{true, false}
use mathlib.Core.List.{[], ◌∷◌}
use Rattle.serials.specs.Bytes.{bytes}
use Rattle.lines.specs.Lines.{lines}

-- no line stands after the last line feed
pub no_further_line : lines (bytes "A\n") ≡ record { serial = bytes "A"; ended = true } ∷ []
unfolding lines
no_further_line = refl

-- what stands after it is a line that is not ended
pub line_not_ended : lines (bytes "A\nB") ≡ record { serial = bytes "A"; ended = true } ∷ record { serial = bytes "B"; ended = false } ∷ []
unfolding lines
line_not_ended = refl

pub empty_lines : lines (bytes "\n\n") ≡ record { serial = []; ended = true } ∷ record { serial = []; ended = true } ∷ []
unfolding lines
empty_lines = refl
