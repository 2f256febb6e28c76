-- `roster::judge_all` meets its contract.
use Rattle.std.proofs.Common.{arith, Err, ◌≡◌, ℕ, ◌+◌, List, [], get_or, take, true, sym, ap₂, ◌∙◌}
use Rattle.std.proofs.lemmas.Grind.{common_steps}
use Rattle.lines.specs.Faults.{number_of, line_number}
use Rattle.roster.proofs.JudgedTo.{judged_none, judged_refused, judged_more, judged_all}
use Rattle.roster.proofs.judge_all.Goals as goal

-- what the tests of a slot's line say of its serial, after those before it
judged : (ss before : List (List ℕ)) (serial : List ℕ) (slot n : ℕ) → n ≡ line_number before serial true → before ≡ take slot ss → serial ≡ get_or ss slot []
    → n ≡ line_number (take slot ss) (get_or ss slot []) true
judged ss before serial slot n is first at = is ∙ ap₂ (λ (before : List (List ℕ)) (s : List ℕ). line_number before s true) first at

pub loop-slot-init : goal.loop-slot-init
loop-slot-init c = judged_none _

pub returns-in_err-map_err : goal.returns-in_err-map_err
returns-in_err-map_err c =
    let ss = c.args.lent.now in
    let l = c.loop-slot in
    let e = c.in_err-map_err.field-0.0 in
    let line : e.line ≡ l.slot + 1 = grind (arith, common_steps) in
    let number : number_of e.fault ≡ line_number c.first.result c.get-serial.result.now true = grind (arith, common_steps) in
    let is : c.from_residual.result ≡ Err e = grind (arith, common_steps) in
    rw (is, line)
    (sym
    (judged_refused ss l.slot l.length l.invariant (omega (arith, c.len-slot-end.ensures)) e.fault (judged ss c.first.result c.get-serial.result.now l.slot _ number c.first.ensures c.get-serial.ensures)))

pub loop-slot-preserved : goal.loop-slot-preserved
loop-slot-preserved c =
    let ss = c.args.lent.now in
    let l = c.loop-slot in
    let number : 0 ≡ line_number c.first.result c.get-serial.result.now true = grind (arith, common_steps) in
    rw c.get-serial.ensures
    (judged_more ss l.slot l.length l.invariant (omega (arith, c.len-slot-end.ensures)) (judged ss c.first.result c.get-serial.result.now l.slot 0 number c.first.ensures c.get-serial.ensures))

pub returns : goal.returns
returns c = sym (judged_all c.loop-slot.invariant (omega (arith, c.len-slot-end.ensures)))
