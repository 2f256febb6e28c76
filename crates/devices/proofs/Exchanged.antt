-- The order of two names doesn't matter to what an accepted rebuild makes of a stripe of bytes: it doesn't in any column.
-- Assumes nothing.
use mathlib.Core.Path.{◌≡◌, sym, ◌∙◌}
use mathlib.Core.List.{List}
use Prim.Native.Nat.{ℕ, ◌+◌, ◌<◌}
use lib.ListN.{length, get_or}
use Rattle.column.specs.declared.Device.{Device}
use Rattle.column.specs.declared.Lost.TheVariants.{Two}
use Rattle.column.specs.Column.{Column, rebuild_column, reed_solomon}
use Rattle.column.proofs.ReedSolomon.{reed_solomon_lem}
use Rattle.column.proofs.Rebuild.{rebuild_order}
use Rattle.shape.specs.declared.Geometry.{Geometry}
use Rattle.shape.specs.Layout.{start, column, lift}
use Rattle.devices.specs.Refusals.{rebuild_refusal}
use Rattle.shape.proofs.Places.{length_lift, lift_at, by_columns}
use Rattle.shape.proofs.Refused.{well_shaped}
use Rattle.devices.proofs.Refused.{rebuild_accepted}

module _ (g : Geometry) (d e : Device) (s : List ℕ) where
  abbrev by : Device → Device → ℕ → Column → Column
  by x y i c = rebuild_column reed_solomon g.n (Two x y) c

  pub rebuild_exchanged : ((j : ℕ) → get_or s j 0 < 256) → rebuild_refusal g (length s) (Two d e) ≡ 0 → lift g (by e d) s ≡ lift g (by d e) s
  rebuild_exchanged bytes accepted =
      let ok = rebuild_accepted g (length s) (Two d e) accepted in
      let fit = well_shaped g s ok.0 in
      by_columns g fit.some (lift g (by e d) s) (lift g (by d e) s) (length_lift g (by e d) s ∙ fit.whole) (length_lift g (by d e) s ∙ fit.whole)
      (λ i r hi hr.
      lift_at g (by e d) s fit.whole hi hr
      ∙ rebuild_order reed_solomon 8 255 reed_solomon_lem g.n fit.disks d e (column g s i) (λ x. bytes (start g x + i)) ok.1 r hr
      ∙ sym (lift_at g (by d e) s fit.whole hi hr))
