-- `input::read_on` meets its contract. The loop's invariant: what is read stands at the buffer's front. The measure is the room that is left.
use Rattle.std.proofs.Common.{rules, ◌≡◌, subst, arith, length, take, ◌+◌, ◌-◌, ℕ}
use Rattle.std.specs.Io.KnownBytes.{Consumes}
use borrow.Rule.Slice.PartMut.{put_mid}
use Rattle.input.proofs.Taken.{nothing_read, read_more, read_failed}
use Rattle.input.proofs.read_on.Goals as goal

pub loop-count-init : goal.loop-count-init
loop-count-init g c = (omega arith, nothing_read (g.R.Read.remaining c.args.input.now))

pub returns-in_err-got-clause-bytes : goal.returns-in_err-got-clause-bytes
returns-in_err-got-clause-bytes g c =
    let l = c.loop-count in
    read_failed _ _ _ l.count (length l.buffer - l.count) l.buffer c.read.new.buf l.invariant.0 l.invariant.1 c.in_err-got.ensures.bytes

pub returns-then-got-eq0-clause-bytes : goal.returns-then-got-eq0-clause-bytes
returns-then-got-eq0-clause-bytes g c =
    let l = c.loop-count in
    let read = c.in_ok-got.ensures in
    let none : l.count + c.in_ok-got.got ≡ l.count = omega arith in
    subst
    (λ (n : ℕ). Consumes (g.R.Read.remaining c.args.input.now) (g.R.Read.remaining c.read.new.self) (take n (put_mid l.count (length l.buffer - l.count) l.buffer c.read.new.buf)))
    none
    (read_more _ _ _ l.count (length l.buffer - l.count) l.buffer c.read.new.buf l.invariant.0 l.invariant.1 c.in_ok-got.got read.bound.0 read.bytes.0)

pub loop-count-preserved : goal.loop-count-preserved
loop-count-preserved g c =
    let l = c.loop-count in
    let read = c.in_ok-got.ensures in (
      search rules,
      read_more _ _ _ l.count (length l.buffer - l.count) l.buffer c.read.new.buf l.invariant.0 l.invariant.1 c.in_ok-got.got read.bound.0 read.bytes.0,
    )
