-- What is said of a loss: the devices that it may name, the roles that it spares, what it puts on the others, and the equations that its
-- rebuild uses.
use Rattle.std.specs.Prelude.{◌≡◌, ◌≢◌, Bool, ℕ, ◌+◌, ◌<◌, eqb}
use Rattle.base.specs.Choice.{choose, either}
use Rattle.column.specs.declared.Device.{Device}
use Rattle.column.specs.declared.Device.TheVariants.{Data, P, Q}
use Rattle.column.specs.declared.Lost.{Lost}
use Rattle.column.specs.declared.Lost.TheVariants.{One, Two}
use Rattle.column.specs.Column.{Column, Code, role_of, parity_p, parity_q, Encoded}

-- a device of a stripe with n data disks
abbrev pub Known : ℕ → Device → Type 0
Known n (Data k) = k < n
Known n P = Unit {0}
Known n Q = Unit {0}

-- one device of the stripe, or two different ones
abbrev pub KnownLoss : ℕ → Lost → Type 0
KnownLoss n (One d) = Known n d
KnownLoss n (Two d e) = Known n d × Known n e × (role_of n d ≢ role_of n e)

-- a role that the loss does not name
abbrev pub Spared : ℕ → Lost → ℕ → Type 0
Spared n (One d) r = r ≢ role_of n d
Spared n (Two d e) r = (r ≢ role_of n d) × (r ≢ role_of n e)

abbrev pub named : ℕ → Lost → ℕ → Bool
named n (One d) r = eqb r (role_of n d)
named n (Two d e) r = either (eqb r (role_of n d)) (eqb r (role_of n e))

-- the column after a loss: what `junk` holds on the named devices stands on them
abbrev pub overwrite : ℕ → Lost → Column → Column → Column
overwrite n lost junk c r = choose (named n lost r) (junk r) (c r)

-- the equation that a rebuild uses with one device named, and both with two
abbrev pub Meets : Code → ℕ → Lost → Column → Type 0
Meets code n (One (Data x)) c = c n ≡ parity_p n c
Meets code n (One P) c = c n ≡ parity_p n c
Meets code n (One Q) c = c (n + 1) ≡ parity_q code n c
Meets code n (Two d e) c = Encoded code n c
