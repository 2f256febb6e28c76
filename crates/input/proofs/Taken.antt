-- What one read after another takes of the bytes that a reader has left.
-- Assumes nothing.
use mathlib.Core.Path.{◌≡◌, refl, sym, ap, subst, ◌∙◌}
use mathlib.Core.List.{List, [], ◌++◌, append_assoc}
use Prim.Native.Nat.{ℕ, ◌+◌, ◌≤◌}
use borrow.Rule.Slice.PartMut.{put_mid, post_of}
use lib.ListN.{length, take}
use native.Mathlib.Omega.{arith}
use Rattle.std.proofs.Math.Seq.{take-append-add}
use Rattle.std.proofs.lemmas.List.{length-take-le, take-append-le}
use Rattle.std.proofs.lemmas.Slice.{take-put_mid_below}
use Rattle.std.specs.Prelude.{Option, Some, None}
use Rattle.std.specs.Io.KnownBytes.{Consumes, Keeps}

pub nothing_read : (a : Option (List ℕ)) → Consumes a a []
nothing_read None = tt
nothing_read (Some xs) = refl

joined : (a b c : Option (List ℕ)) (s t : List ℕ) → Consumes a b s → Consumes b c t → Consumes a c (s ++ t)
joined None b c s t p q = tt
joined (Some xs) None c s t p q = absurd p
joined (Some xs) (Some ys) None s t p q = absurd q
joined (Some xs) (Some ys) (Some zs) s t p q = p ∙ ap (λ (l : List ℕ). s ++ l) q ∙ sym (append_assoc s t zs)

kept : (a b c : Option (List ℕ)) (s : List ℕ) → Consumes a b s → Keeps b c → Consumes a c s
kept None b c s p q = tt
kept (Some xs) None c s p q = absurd p
kept (Some xs) (Some ys) None s p q = absurd q
kept (Some xs) (Some ys) (Some zs) s p q = p ∙ ap (λ (l : List ℕ). s ++ l) (sym q)

-- the first at bytes of a buffer are read, and the next read puts n more behind them
module _ (a b c : Option (List ℕ)) (at k : ℕ) (buffer given : List ℕ) (within : at ≤ length buffer) (read : Consumes a b (take at buffer)) where
  pub read_more : (n : ℕ) → n ≤ length given → Consumes b c (take n given) → Consumes a c (take (at + n) (put_mid at k buffer given))
  read_more n l next = subst (Consumes a c) (sym front) (joined a b c (take at buffer) (take n given) read next)
    where
      front : take (at + n) (put_mid at k buffer given) ≡ take at buffer ++ take n given
      front =
          ap (λ (m : ℕ). take (m + n) (put_mid at k buffer given)) (sym (length-take-le at buffer within))
          ∙ take-append-add (take at buffer) (given ++ post_of at k buffer) n
          ∙ ap (λ (l : List ℕ). take at buffer ++ l) (take-append-le n given (post_of at k buffer) l)

  -- or it fails
  pub read_failed : Keeps b c → Consumes a c (take at (put_mid at k buffer given))
  read_failed keeps =
      subst (Consumes a c) (sym (take-put_mid_below at k buffer given at (omega arith) within)) (kept a b c (take at buffer) read keeps)
