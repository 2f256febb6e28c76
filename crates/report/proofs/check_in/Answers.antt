-- `report::check_in` meets its contract: the check is not refused, and its summary and verdicts are written one after the other.
use Rattle.std.proofs.Common.{◌≡◌, ℕ, List, ◌++◌, length, take, drop, sym, ap, ap₂, ◌∙◌}
use Rattle.std.specs.Prelude.{Result, Ok, Err}
use Rattle.shape.specs.Number.{numbered}
use Rattle.stripe.specs.Calls.{checked_of}
use Rattle.shape.specs.Refusals.{check_refusal}
use Rattle.compare.specs.Compare.{verdicts, after_check}
use Rattle.verdict.specs.Summary.{summary}
use Rattle.base.proofs.Refused.{left_done}
use Rattle.header.specs.Fields.{big_endian, fields}
use Rattle.base.proofs.Tails.{put_tail}
use Rattle.report.proofs.check_in.Goals as goal

-- the summary of a check that is done
abbrev told : Result ℕ ℕ → ℕ
told (Ok v) = v
told (Err k) = k

pub returns : goal.returns
unfolding fields after_check
returns c =
    let a = c.args in
    let found = c.check.ensures.result ∙ ap (λ (k : ℕ). checked_of k (summary (verdicts a.g a.stripe.now))) c.requires.0 in
    let first : c.in-Ok.summary ≡ summary (verdicts a.g a.stripe.now) = ap told (ap numbered (sym c.in-Ok.is) ∙ found) in
    let room = c.check.ensures.room ∙ left_done (check_refusal a.g (length a.stripe.now) (length a.room.now)) (verdicts a.g a.stripe.now) a.room.now c.requires.0 in (
      room,
      put_tail 2 (c.copy_from_slice.new.self ++ drop 2 a.out.now) c.put_all.new.out
          ∙ ap₂ (λ (l m : List ℕ). take 2 (l ++ drop 2 a.out.now) ++ m) (c.copy_from_slice.ensures.after ∙ c.big_endian.ensures) c.put_all.ensures
          ∙ ap₂ (λ (k : ℕ) (l : List ℕ). big_endian k ++ fields l) first room,
    )
