-- `judge_records::judge_all` meets its contract. The loop's invariant: the answers to the first k records stand.
use mathlib.Core.Path.{◌≡◌}
use mathlib.Core.List.{◌++◌}
use Prim.Native.Nat.{◌*◌}
use lib.ListN.{drop}
use Rattle.judge_records.specs.Records.{answers}
use Rattle.judge_records.proofs.judge_all.Given as goal

abbrev pub invariant-loop-k : goal.invariant-loop-k
invariant-loop-k l = l.out ≡ answers l.k l.codes ++ drop (7 * l.k) l.initial.out
