-- `buffers::answer_input` meets its contract: what was read is a part of the input, and the output has room for every answer.
use mathlib.Core.Path.{refl, sym}
use native.Mathlib.Omega.{arith}
use lib.Seq.{take_all}
use Rattle.buffers.proofs.Buffers.{input_answered}
use Rattle.buffers.proofs.answer_input.Goals as goal

pub returns-then-bytes-read : goal.returns-then-bytes-read
returns-then-bytes-read c =
    let a = c.args in
    input_answered (omega arith, omega arith) (sym (take_all a.read a.input.now (omega arith))) c.answer.ensures

pub returns-else-bytes-read : goal.returns-else-bytes-read
returns-else-bytes-read c = input_answered (omega arith, omega arith) refl c.answer-else-bytes-read.ensures
