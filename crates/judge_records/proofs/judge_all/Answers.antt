-- `judge_records::judge_all` meets its contract. The loop's invariant: the answers to the first k records stand.
use mathlib.Core.Path.{refl, ◌∙◌}
use Rattle.judge_records.specs.Records.{answers}
use Rattle.judge_records.proofs.Answers.{answers_more}
use Rattle.judge_records.proofs.judge_all.Goals as goal

pub loop-k-init : goal.loop-k-init
unfolding answers
loop-k-init c = refl

pub loop-k-preserved : goal.loop-k-preserved
loop-k-preserved c =
    let l = c.loop-k in c.put.ensures ∙ answers_more c.args.codes.now c.args.out.now l.out l.k l.invariant c.judge_at.ensures
