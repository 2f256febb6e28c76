-- What the theorems about stripes suppose can be met: every n and B within the limits has a stripe.
-- Assumes nothing.
use Rattle.base.specs.Table.{tabulate}
use Rattle.base.proofs.Table.{length_tabulate}
use Rattle.shape.specs.declared.Geometry.{Geometry}
use Rattle.shape.specs.Layout.{size}
use Rattle.shape.specs.Refusals.{library, WellShaped}
use Rattle.shape.proofs.Refused.{Within}

pub some_stripe : (g : Geometry) → Within library g → WellShaped g (tabulate (size g) (λ j. 0))
some_stripe g within =
    record {
      disks = within.disks;
      block = within.block;
      some = within.some;
      disk = within.disk;
      whole = length_tabulate (size g) (λ j. 0);
    }
