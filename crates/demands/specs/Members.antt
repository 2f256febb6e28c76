-- The members of document 01's series and of 2026-02, over the definitions that the contracts of write, rebuild and repair cite, and what a series
-- may hold.
use Rattle.std.specs.Prelude.{◌≡◌, ◌≢◌, List, ℕ, ◌-◌, eqb, length, get_or}
use Rattle.base.specs.Choice.{choose, both}
use Rattle.column.specs.declared.Device.{Device}
use Rattle.column.specs.declared.Lost.{Lost}
use Rattle.column.specs.declared.Lost.TheVariants.{One}
use Rattle.column.specs.Column.{reed_solomon}
use Rattle.column.specs.Loss.{KnownLoss, overwrite}
use Rattle.shape.specs.declared.Geometry.{Geometry}
use Rattle.std.specs.Prelude.{Option}
use Rattle.shape.specs.Layout.{column, lift}
use Rattle.shape.specs.Refusals.{write_refusal}
use Rattle.devices.specs.Refusals.{rebuild_refusal}
use Rattle.devices.specs.Codes.{named_refusal}
use Rattle.write.specs.Write.{covers, after_write}
use Rattle.stripe.specs.Calls.{after_rebuild, after_repair, rebuilt_by}
use Rattle.demands.specs.Layout.{layout_of}
use Rattle.demands.specs.Series.{Bytes, EncodedStripe, Latest, none, given, Member}

-- what a write of new bytes to a disk at an offset gives where it is accepted: byte offset + j of the disk becomes new byte j
abbrev pub sets : ℕ → ℕ → List ℕ → ℕ → ℕ → Latest
sets disk offset new k p = choose (both (eqb k disk) (covers offset (length new) p)) (given (get_or new (p - offset) 0)) none

-- A call of write, accepted or refused, on a stripe of len bytes. What it gives depends on its numbers, lengths and new bytes alone.
abbrev pub write_member : ℕ → Geometry → ℕ → ℕ → List ℕ → Member
write_member len h disk offset new =
    record {
      runs = after_write h disk offset new;
      gives = λ k p. choose (eqb (write_refusal h len disk offset (length new)) 0) (sets disk offset new k p) none;
    }

-- a call of rebuild that is refused; it named `Some lost`, or what two codes name, `naming_of first second`
abbrev pub refused_rebuild : Geometry → Option Lost → Member
refused_rebuild h naming = record { runs = rebuilt_by h naming; gives = λ k p. none }

-- a loss, which puts on the devices that it names what a list of bytes holds there, and its rebuild: they are one member
abbrev pub lose : Geometry → Lost → List ℕ → List ℕ → List ℕ
lose g lost junk s = lift g (λ i c. overwrite g.n lost (column g junk i) c) s

abbrev pub loss_member : Geometry → Lost → List ℕ → Member
loss_member g lost junk = record { runs = λ s. after_rebuild g lost (lose g lost junk s); gives = λ k p. none }

-- damage, which puts on one device what a list of bytes holds there, and its repair: they are one member
abbrev pub damage_member : Geometry → Device → List ℕ → Member
damage_member g d junk = record { runs = λ s. after_repair g (lose g (One d) junk s); gives = λ k p. none }

-- a call of repair that is refused; that it is may depend on the bytes which it meets, so the member is what every such call does
abbrev pub refused_repair : Member
refused_repair = record { runs = λ s. s; gives = λ k p. none }

-- What a series may hold, on a stripe of geometry g and len bytes: an accepted call has the stripe's n and B; a loss is followed by an
-- accepted rebuild, damage of one device of the stripe by a repair, and both stand only where the start is encoded (`encoded`).
pub data Allowed (g : Geometry) (len : ℕ) (encoded : Type 0) : Member → Type 0 where
  write : (h : Geometry) (disk offset : ℕ) (new : List ℕ) → Bytes new → (write_refusal h len disk offset (length new) ≡ 0 → h ≡ g)
      → Allowed g len encoded (write_member len h disk offset new)
  refused : (h : Geometry) (naming : Option Lost) → named_refusal h len naming ≢ 0 → Allowed g len encoded (refused_rebuild h naming)
  loss : (lost : Lost) (junk : List ℕ) → Bytes junk → rebuild_refusal g len lost ≡ 0 → encoded → Allowed g len encoded (loss_member g lost junk)
  damage : (d : Device) (junk : List ℕ) → Bytes junk → KnownLoss g.n (One d) → encoded → Allowed g len encoded (damage_member g d junk)
  refused_repair_lem : Allowed g len encoded refused_repair

-- the members that a series from the stripe s may hold
abbrev pub AllowedFrom : Geometry → List ℕ → Member → Type 0
AllowedFrom g s = Allowed g (length s) (EncodedStripe (layout_of g) reed_solomon s)
