-- The number of each refusal, and of a call's result.
use Rattle.std.specs.Prelude.{ℕ, Result, Ok, Err}
use Rattle.shape.specs.declared.Refusal.{Refusal}
use Rattle.shape.specs.declared.Refusal.TheVariants.{Disks, BlockSize, Length, Device, SameDevice, Stretch, Room, Unclear}

abbrev pub number_of : Refusal → ℕ
number_of Disks = 1
number_of BlockSize = 2
number_of Length = 3
number_of Device = 4
number_of SameDevice = 5
number_of Stretch = 6
number_of Room = 7
number_of Unclear = 9

-- 0 where a call is done
abbrev pub number : Result Unit Refusal → ℕ
number (Ok done) = 0
number (Err refusal) = number_of refusal

-- a result with its refusal's number in place of its refusal
abbrev pub numbered : {T : Type 0} → Result T Refusal → Result T ℕ
numbered (Ok value) = Ok value
numbered (Err refusal) = Err (number_of refusal)
