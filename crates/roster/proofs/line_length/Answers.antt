-- `roster::line_length` meets its contract: the first line feed is found, or there is none.
use Rattle.std.proofs.Common.{◌≡◌, ◌≢◌, ℕ, ◌<◌, ◌≤◌, List, length, get_or, rules, sym, eq-eqb}
use borrow.Author.Tests.{ne_eqb}
use lib.Dec.{eqb}
use Rattle.std.proofs.lemmas.List.Sums.{position_or_len_is}
use Rattle.lines.specs.Lines.{line_feed}
use Rattle.roster.specs.Text.{index_of}
use Rattle.roster.proofs.line_length.Goals as goal

first_such : (b : ℕ) (t : List ℕ) (i : ℕ) → i ≤ length t → ((k : ℕ) → k < i → get_or t k 0 ≢ b) → (i < length t → get_or t i 0 ≡ b) → index_of b t ≡ i
first_such b t i within none here = position_or_len_is (λ c. eqb c b) t i 0 within (λ k h. ne_eqb (get_or t k 0) b (none k h)) (λ h. eq-eqb (get_or t i 0) b (here h))

pub returns-clause-place : goal.returns-clause-place
returns-clause-place c = sym (first_such line_feed c.args.text.now c.unwrap_or.result (search rules) (search rules) (search rules))
