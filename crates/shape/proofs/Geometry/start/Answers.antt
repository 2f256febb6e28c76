-- `shape::Geometry::start` meets its contract: 32 bits times 32 bits fit.
use Rattle.std.proofs.Common.{refl}
use Rattle.shape.specs.Layout.{start}
use Rattle.shape.proofs.Geometry.start.Goals as goal

pub returns : goal.returns
unfolding start
returns c = refl
