-- What encode, rebuild and repair make of a stripe where they are not refused: functions on columns, lifted to the buffer.
use Rattle.std.specs.Prelude.{ℕ, List, Option, Some, None}
use Rattle.column.specs.declared.Device.{Device}
use Rattle.column.specs.declared.Lost.{Lost}
use Rattle.column.specs.Column.{reed_solomon, encode_column, rebuild_column, mend_column}
use Rattle.shape.specs.declared.Geometry.{Geometry}
use Rattle.shape.specs.Layout.{lift}
use Rattle.verdict.specs.Faulty.{faulty_of}
use Rattle.verdict.specs.Summary.{summary}
use Rattle.compare.specs.Compare.{verdicts}

abbrev pub encoded : Geometry → List ℕ → List ℕ
encoded g s = lift g (λ i c. encode_column reed_solomon g.n c) s

abbrev pub rebuilt : Geometry → Lost → List ℕ → List ℕ
rebuilt g lost s = lift g (λ i c. rebuild_column reed_solomon g.n lost c) s

-- every column with a verdict is mended on the device that the summary names; nothing changes where it names none
abbrev pub mended : Geometry → Device → List ℕ → List ℕ
mended g d s = lift g (λ i c. mend_column g.n d c) s

abbrev pub mended_on : Geometry → Option Device → List ℕ → List ℕ
mended_on g (Some d) s = mended g d s
mended_on g None s = s

abbrev pub repaired : Geometry → List ℕ → List ℕ
repaired g s = mended_on g (faulty_of (summary (verdicts g s))) s
