-- How the symbols of a stripe lie in its buffer. In the layout of document 01 a symbol is one byte; in others it may be several.
use Rattle.std.specs.Prelude.{◌≡◌, List, ℕ, ◌+◌, ◌^◌, ◌<◌, length, get_or}
use Rattle.column.specs.Column.{Column}
use Rattle.shape.specs.declared.Geometry.{Geometry}
use Rattle.shape.specs.Layout.{start}
use Rattle.shape.specs.Layout as Shape

pub record Layout : Type 0 where
  -- data disks; bytes to a block; columns; bytes to the whole stripe
  pub disks : ℕ
  pub block : ℕ
  pub columns : ℕ
  pub size : ℕ
  -- where position p of role r's block stands in the buffer: `place r p`
  pub place : ℕ → ℕ → ℕ
  -- the symbol in column i of a block u, which is given by its bytes at each position: `symbol u i`
  pub symbol : (ℕ → ℕ) → ℕ → ℕ

-- the block of role r, and column i
abbrev pub block_of : Layout → List ℕ → ℕ → ℕ → ℕ
block_of L s r p = get_or s (L.place r p) 0

abbrev pub column_of : Layout → List ℕ → ℕ → Column
column_of L s i r = L.symbol (block_of L s r) i

-- What the theory of a series asks of a layout, with w bits to a symbol.
pub record LawfulLayout (L : Layout) (w : ℕ) : Type 0 where
  -- bytes make symbols
  pub symbol_lt : (u : ℕ → ℕ) → ((p : ℕ) → u p < 256) → (i : ℕ) → i < L.columns → L.symbol u i < 2 ^ w
  -- a block's bytes decide its symbols, and its symbols decide its bytes
  pub symbol_same : (u v : ℕ → ℕ) → ((p : ℕ) → p < L.block → u p ≡ v p) → (i : ℕ) → i < L.columns → L.symbol u i ≡ L.symbol v i
  pub symbol_only : (u v : ℕ → ℕ) → ((p : ℕ) → u p < 256) → ((p : ℕ) → v p < 256) → ((i : ℕ) → i < L.columns → L.symbol u i ≡ L.symbol v i)
      → (p : ℕ)
      → p < L.block
      → u p ≡ v p
  -- a buffer is nothing but its blocks
  pub by_places : (s t : List ℕ) → length s ≡ L.size → length t ≡ L.size
      → ((r p : ℕ) → r < L.disks + 2 → p < L.block → block_of L s r p ≡ block_of L t r p)
      → s ≡ t

-- document 01's layout: the byte at position i is the symbol of column i
abbrev pub layout_of : Geometry → Layout
layout_of g =
    record {
      disks = g.n;
      block = g.b;
      columns = g.b;
      size = Shape.size g;
      place = λ r p. start g r + p;
      symbol = λ u i. u i;
    }
