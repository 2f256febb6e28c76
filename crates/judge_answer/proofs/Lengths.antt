-- Every answer has seven bytes.
-- Assumes nothing.
use mathlib.Core.Path.{◌≡◌, refl}
use lib.ListN.{length}
use Rattle.std.specs.Prelude.{Result, Ok, Err, Some, None}
use Rattle.findings.specs.Findings.{Finding}
use Rattle.findings.specs.declared.Flaw.TheVariants.{Singular, Pair}
use Rattle.bitmatrix.specs.declared.Judgement.{Judgement}
use Rattle.bitmatrix.specs.declared.Refusal.{Refusal}
use Rattle.judge_answer.specs.Answer.{answer_bytes}

pub length_answer : (r : Result Judgement Refusal) → length (answer_bytes r) ≡ 7
length_answer (Err r) = refl
length_answer (Ok j) = go j.finding
  where
    go : (g : Finding) → length (answer_bytes (Ok record { finding = g; ones = j.ones; minimal = j.minimal })) ≡ 7
    go None = refl
    go (Some (Singular i)) = refl
    go (Some (Pair i k)) = refl
