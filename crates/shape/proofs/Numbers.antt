-- No refusal has the number of a call that is done: a call is refused just where its number isn't 0. And what a `?` returns is the refusal that
-- it meets.
-- Assumes nothing.
use Rattle.std.proofs.Common.{◌≡◌, ◌≢◌, true≢false, sym, ap, refl, arith}
use Rattle.std.specs.Prelude.{false, true, Result, Ok, Err, is_err, IsErrAnd}
use Rattle.shape.specs.declared.Refusal.{Refusal}
use Rattle.shape.specs.declared.Refusal.TheVariants.{Disks, BlockSize, Length, Device, SameDevice, Stretch, Room, Unclear}
use Rattle.shape.specs.Number.{number_of, number}

pub refusal_number : (r : Refusal) → number_of r ≢ 0
refusal_number Disks e = omega arith
refusal_number BlockSize e = omega arith
refusal_number Length e = omega arith
refusal_number Device e = omega arith
refusal_number SameDevice e = omega arith
refusal_number Stretch e = omega arith
refusal_number Room e = omega arith
refusal_number Unclear e = omega arith

pub number_done : (r : Result Unit Refusal) → is_err r ≡ false → number r ≡ 0
number_done (Ok done) e = refl
number_done (Err refusal) e = absurd (true≢false e)

pub number_refused : (r : Result Unit Refusal) → is_err r ≡ true → number r ≢ 0
number_refused (Ok done) e = absurd (true≢false (sym e))
number_refused (Err refusal) e = refusal_number refusal

pub refused_with : {T : Type 0} {refusal : Refusal} (r : Result T Refusal) → IsErrAnd r (λ met. met ≡ refusal) → r ≡ Err refusal
refused_with (Ok value) h = absurd h
refused_with (Err met) h = ap Err h
