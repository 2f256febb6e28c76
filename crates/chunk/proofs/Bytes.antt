-- The entries of an array of bytes are bytes.
-- Assumes nothing.
use mathlib.Core.List.{List}
use Prim.Native.Nat.{ℕ, ◌<◌}
use borrow.Author.Rules.{elem_Fits}
use denote.Array.{each}
use denote.Plain.{UInt}
use denote.Shadow.{shadow}
use lib.ListN.{get_or}
use mir.Syntax.{w8}
use mir.Val.{Val}

pub bytes : (d : List ℕ) (entries : List Val) → shadow (each ℕ (UInt w8).own_val d entries) → (j : ℕ) → get_or d j 0 < 256
bytes d entries array j = (elem_Fits w8 w8 d entries j array tt).fits
