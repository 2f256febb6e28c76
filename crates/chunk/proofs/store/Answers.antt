-- `chunk::store` meets its contract: as much is copied as there is room for.
use native.Mathlib.Omega.{arith}
use lib.ListN.{length-take}
use Rattle.chunk.proofs.Copied.{fitted, put_whole}
use Rattle.chunk.proofs.store.Goals as goal

pub returns-then-to-lt-WIDTH : goal.returns-then-to-lt-WIDTH
returns-then-to-lt-WIDTH c =
    let a = c.args in fitted a.to.now a.c c.well_formed.1.0.1.0.1 c.if-to-lt-WIDTH.true c.copy_from_slice.ensures.after

pub copy_from_slice-requires-else-to-lt-WIDTH : goal.copy_from_slice-requires-else-to-lt-WIDTH
copy_from_slice-requires-else-to-lt-WIDTH c = let long = c.well_formed.1.0.1.0.1 in simp length-take (omega (arith, long))

pub returns-else-to-lt-WIDTH : goal.returns-else-to-lt-WIDTH
returns-else-to-lt-WIDTH c =
    let a = c.args in
    put_whole a.to.now a.c c.well_formed.1.0.1.0.1 c.if-to-lt-WIDTH.false c.copy_from_slice-else-to-lt-WIDTH.ensures.after
