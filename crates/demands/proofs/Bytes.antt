-- What a slice holds is bytes, and the layout of document 01 is lawful: its symbols are its bytes, and every place of the buffer is in one block.
-- Assumes nothing.
use mathlib.Core.List.{List, [], ◌∷◌}
use Prim.Native.Nat.{ℕ, suc, ◌+◌, ◌<◌}
use mir.Syntax.{w8}
use prog.AdequacyRun.{fit_all}
use borrow.Table.Referent.{f_int}
use borrow.Rule.Slice.Know.{Fit}
use Rattle.column.specs.Lawful.{Symbols}
use Rattle.shape.specs.declared.Geometry.{Geometry}
use Rattle.shape.specs.Layout.{start, column}
use Rattle.shape.proofs.Places.{by_columns}
use Rattle.demands.specs.Layout.{LawfulLayout, layout_of}
use Rattle.demands.specs.Series.{Bytes}
use Rattle.demands.specs.Called.{Slice}

-- ---- what a slice holds is bytes, and bytes are what a slice may hold
pub slice_bytes : (s : List ℕ) → Slice s → Bytes s
slice_bytes = fit_all

pub bytes_slice : (s : List ℕ) → Bytes s → Slice s
bytes_slice [] h = tt
bytes_slice (x ∷ xs) h = (record { fits = h 0 }, bytes_slice xs (λ j. h (suc j)))

-- what the toolchain's rule gives every function of a slice that it is lent: each element is a value of its type
pub lent_slice : (s : List ℕ) → Fit (f_int w8) 0 s → Slice s
lent_slice s known = bytes_slice s (λ j. (known j).fits)

-- ---- the layout
pub columns_symbols : (g : Geometry) (s : List ℕ) → Bytes s → (i : ℕ) → Symbols 8 (column g s i)
columns_symbols g s h i r = h (start g r + i)

pub layout_lawful : (g : Geometry) → 0 < g.b → LawfulLayout (layout_of g) 8
layout_lawful g some =
    record {
      symbol_lt = λ u bytes i hi. bytes i;
      symbol_same = λ u v same i hi. same i hi;
      symbol_only = λ u v hu hv same p hp. same p hp;
      by_places = λ s t hs ht same. by_columns g some s t hs ht (λ i r hi hr. same r i hr hi);
    }
