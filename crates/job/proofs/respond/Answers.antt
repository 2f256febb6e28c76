-- `job::respond` meets its contract: the six bytes and, unless the job is refused, the body behind them.
use Rattle.std.proofs.Common.{ℕ, List, ◌++◌, length, take, drop, sym, ap, ap₂, ◌∙◌, arith}
use lib.ListN.{length-drop, drop_of_length-le, length-append, length-take}
use Rattle.base.proofs.Tails.{tail, put_tail}
use Rattle.job.specs.Answer.{opening, body}
use Rattle.job.proofs.Answers.{answer_refused, answer_accepted, length_accepted, answer_least}
use Rattle.job.proofs.Judged.{judged_err, judged_ok}
use Rattle.job.proofs.respond.Goals as goal

pub slice_bounds-copy_from_slice-end : goal.slice_bounds-copy_from_slice-end
slice_bounds-copy_from_slice-end c = omega (arith, c.requires.1, answer_least c.args.job.now)

pub slice_bounds-copy_from_slice-end-2 : goal.slice_bounds-copy_from_slice-end-2
slice_bounds-copy_from_slice-end-2 c = omega (arith, length-take 6 c.args.out.now, c.requires.1, answer_least c.args.job.now)

pub copy_from_slice-requires : goal.copy_from_slice-requires
copy_from_slice-requires c = omega (arith, length-take 6 c.args.out.now, c.requires.1, answer_least c.args.job.now)

pub run-requires : goal.run-requires
run-requires c =
    let a = c.args in
    let o = c.copy_from_slice.new.self ++ drop 6 a.out.now in
    let told = judged_ok c.requires.0 c.in-Ok.is in (
      told.0,
      told.1,
      omega (
        arith,
        ap length (tail 6 o),
        length-drop 6 o,
        length-append c.copy_from_slice.new.self (drop 6 a.out.now),
        c.copy_from_slice.ensures.len,
        length-take 6 a.out.now,
        length-drop 6 a.out.now,
        c.requires.1,
        length_accepted a.job.now told.0,
      ),
    )

pub returns-in-Ok : goal.returns-in-Ok
returns-in-Ok c =
    let a = c.args in
    let told = judged_ok c.requires.0 c.in-Ok.is in
    put_tail 6 (c.copy_from_slice.new.self ++ drop 6 a.out.now) c.run.new.out
    ∙ ap₂ (λ (l m : List ℕ). take 6 (l ++ drop 6 a.out.now) ++ m) c.copy_from_slice.ensures.after c.run.ensures
    ∙ ap (λ (k : ℕ). opening k ++ body a.job.now) (c.result_byte.ensures ∙ c.requires.0.number ∙ told.0)
    ∙ sym (answer_accepted a.job.now told.0)

-- the six bytes stand before what the output held
pub returns-in_default : goal.returns-in_default
returns-in_default c =
    let a = c.args in
    let refused = answer_refused a.job.now (judged_err c.requires.0 c.in_default.is) in
    ap (λ (l : List ℕ). l ++ drop 6 a.out.now) c.copy_from_slice.ensures.after
    ∙ ap (λ (l : List ℕ). opening c.result_byte.result ++ l) (drop_of_length-le a.out.now {i = 6} (omega (arith, c.requires.1, ap length refused)))
    ∙ ap opening (c.result_byte.ensures ∙ c.requires.0.number)
    ∙ sym refused
