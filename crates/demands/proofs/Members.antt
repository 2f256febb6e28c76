-- What is asked of a member of a series, for any layout and code, and that a member that does nothing, a write and a loss with its
-- rebuild do it where the layout and the code are lawful.
-- Assumes nothing.
use mathlib.Core.Path.{◌≡◌, sym, ap, subst, ◌∙◌}
use mathlib.Core.Logic.{◌≢◌}
use mathlib.Core.List.{List}
use Prim.Native.Nat.{ℕ, ◌+◌, ◌≤◌, ◌<◌}
use native.Mathlib.Omega.{arith}
use native.Mathlib.Decide.{ℕ_discrete}
use lib.ListN.{length}
use Rattle.column.specs.declared.Lost.{Lost}
use Rattle.column.specs.Column.{Code, write_column, rebuild_column}
use Rattle.column.specs.Lawful.{Lawful, Symbols}
use Rattle.column.specs.Loss.{Spared, KnownLoss}
use Rattle.column.proofs.Columns.{write_here, write_other}
use Rattle.column.proofs.Rebuild.{loss_restored}
use Rattle.column.proofs.Series.{Kept, kept_same, kept_then, kept_write}
use Rattle.demands.specs.Layout.{Layout, LawfulLayout, block_of, column_of}
use Rattle.demands.specs.Series.{Bytes, EncodedStripe, none, value_or, Member, feed, GivesNothing}

-- a stripe that a series may come to from s
pub record Reached (L : Layout) (code : Code) (s t : List ℕ) : Type 0 where
  pub long : length t ≡ L.size
  pub bytes : Bytes t
  pub kept : (i : ℕ) → i < L.columns → Kept code L.disks (column_of L s i) (column_of L t i)

-- what a member has to do with a stripe t
pub record Does (L : Layout) (code : Code) (m : Member) (t : List ℕ) : Type 0 where
  pub long : length (m.runs t) ≡ length t
  pub bytes : Bytes (m.runs t)
  pub contents : (k p : ℕ) → k < L.disks → p < L.block → block_of L (m.runs t) k p ≡ value_or (block_of L t k p) (m.gives k p)
  pub kept : (i : ℕ) → i < L.columns → Kept code L.disks (column_of L t i) (column_of L (m.runs t) i)

-- what is asked of a member of a series that starts from s
abbrev pub Sound : Layout → Code → List ℕ → Member → Type 0
Sound L code s m = (t : List ℕ) → Reached L code s t → Does L code m t

-- a write of t: it gives values to one disk, whose symbol in every column becomes that of its bytes so fed
pub record WritesDisk (L : Layout) (code : Code) (m : Member) (t : List ℕ) (disk : ℕ) : Type 0 where
  pub known : disk < L.disks
  pub others : (k p : ℕ) → k ≢ disk → m.gives k p ≡ none
  pub fed : (p : ℕ) → feed m (block_of L t) disk p < 256
  pub long : length (m.runs t) ≡ length t
  pub bytes : Bytes (m.runs t)
  pub columns : (i r : ℕ) → i < L.columns → r < L.disks + 2
      → column_of L (m.runs t) i r ≡ write_column code L.disks disk (L.symbol (feed m (block_of L t) disk) i) (column_of L t i) r

-- a loss of an encoded stripe t, which leaves u of it, and its rebuild
pub record LosesAndRebuilds (L : Layout) (code : Code) (m : Member) (t u : List ℕ) (lost : Lost) : Type 0 where
  pub known : KnownLoss L.disks lost
  pub nothing : GivesNothing m
  pub encoded : EncodedStripe L code t
  pub long : length (m.runs t) ≡ length t
  pub left : Bytes u
  pub bytes : Bytes (m.runs t)
  pub spared : (i r : ℕ) → i < L.columns → r < L.disks + 2 → Spared L.disks lost r → column_of L t i r ≡ column_of L u i r
  pub columns : (i r : ℕ) → i < L.columns → r < L.disks + 2 → column_of L (m.runs t) i r ≡ rebuild_column code L.disks lost (column_of L u i) r

-- a member that makes the same of the stripe as another, and gives the same
pub does_as : (L : Layout) (code : Code) (m other : Member) (t : List ℕ) → other.runs t ≡ m.runs t → other.gives ≡ m.gives → Does L code m t
    → Does L code other t
does_as L code m other t runs gives does =
    record {
      long = ap length runs ∙ does.long;
      bytes = subst Bytes (sym runs) does.bytes;
      contents = λ k p hk hp. rw (runs, gives) (does.contents k p hk hp);
      kept = λ i hi. subst (λ (l : List ℕ). Kept code L.disks (column_of L t i) (column_of L l i)) (sym runs) (does.kept i hi);
    }

-- a member that leaves the stripe and gives nothing
pub does_nothing : (L : Layout) (code : Code) (m : Member) (t : List ℕ) → Bytes t → GivesNothing m → m.runs t ≡ t → Does L code m t
does_nothing L code m t bytes nothing e =
    record {
      long = ap length e;
      bytes = subst Bytes (sym e) bytes;
      contents = λ k p hk hp. rw (e, nothing k p);
      kept = λ i hi. kept_same code L.disks (λ r hr. ap (λ (l : List ℕ). column_of L l i r) e);
    }

module _ (L : Layout) (code : Code) (w : ℕ) (lay : LawfulLayout L w) where
  -- two stripes are the same where all their columns are
  pub by_symbols : (s t : List ℕ) → length s ≡ L.size → length t ≡ L.size → Bytes s → Bytes t
      → ((i r : ℕ) → i < L.columns → r < L.disks + 2 → column_of L s i r ≡ column_of L t i r)
      → s ≡ t
  by_symbols s t ls lt hs ht same =
      lay.by_places s t ls lt
      (λ r p hr hp. lay.symbol_only (block_of L s r) (block_of L t r) (λ q. hs (L.place r q)) (λ q. ht (L.place r q)) (λ i hi. same i r hi hr) p hp)

  symbols_of : (s : List ℕ) → Bytes s → (i : ℕ) → i < L.columns → Symbols w (column_of L s i)
  symbols_of s hs i hi r = lay.symbol_lt (block_of L s r) (λ p. hs (L.place r p)) i hi

  -- ---- over a lawful code: a write, and a loss with its rebuild
  module _ (m : ℕ) (laws : Lawful code w m) (few : L.disks ≤ m) (t : List ℕ) (ht : Bytes t) where
    pub does_write : (write : Member) (disk : ℕ) → WritesDisk L code write t disk → Does L code write t
    does_write write disk does =
        record {
          long = does.long;
          bytes = does.bytes;
          contents = λ k p hk hp. at k hk (ℕ_discrete k disk) p hp;
          kept = λ i hi.
              kept_then code L.disks (kept_write code L.disks w m laws few (column_of L t i) disk (new i) does.known)
              (kept_same code L.disks (λ r hr. does.columns i r hi hr));
        }
      where
        new : ℕ → ℕ
        new i = L.symbol (feed write (block_of L t) disk) i

        block_is : (k : ℕ) (u : ℕ → ℕ) → ((p : ℕ) → u p < 256) → ((i : ℕ) → i < L.columns → column_of L (write.runs t) i k ≡ L.symbol u i)
            → (p : ℕ)
            → p < L.block
            → block_of L (write.runs t) k p ≡ u p
        block_is k u hu = lay.symbol_only (block_of L (write.runs t) k) u (λ p. does.bytes (L.place k p)) hu

        at : (k : ℕ) → k < L.disks → Dec (k ≡ disk) → (p : ℕ) → p < L.block → block_of L (write.runs t) k p ≡ feed write (block_of L t) k p
        at k hk (yes e) p hp =
            rw e
            (block_is disk (feed write (block_of L t) disk) does.fed
            (λ i hi. does.columns i disk hi (omega (arith, does.known)) ∙ write_here code w m laws L.disks few (column_of L t i) disk (new i) does.known)
            p
            hp)
        at k hk (no n) p hp =
            block_is k (block_of L t k) (λ p. ht (L.place k p))
            (λ i hi. does.columns i k hi (omega arith) ∙ write_other code w m laws L.disks few (column_of L t i) disk (new i) does.known k hk n)
            p
            hp
            ∙ rw (does.others k p n)

    pub does_loss : (loss : Member) (u : List ℕ) (lost : Lost) → length t ≡ L.size → LosesAndRebuilds L code loss t u lost → Does L code loss t
    does_loss loss u lost size does =
        does_nothing L code loss t ht does.nothing
        (by_symbols (loss.runs t) t (does.long ∙ size) size does.bytes ht
        (λ i r hi hr.
        does.columns i r hi hr
        ∙ loss_restored code w m laws L.disks few lost (column_of L t i) (column_of L u i) (symbols_of t ht i hi) (symbols_of u does.left i hi) does.known (does.encoded i hi) (λ q hq sp. does.spared i q hi hq sp) r hr))
