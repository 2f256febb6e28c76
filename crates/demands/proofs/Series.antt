-- Demand 3 for any layout and code: where each member does what is asked of it, the claim follows by induction on the series, and from it
-- what two series with the same last values have in common.
-- Assumes nothing.
use mathlib.Core.Path.{◌≡◌, refl, sym, ap, ◌∙◌}
use mathlib.Core.Logic.{◌⊎◌, ⊎_elim}
use mathlib.Core.List.{List, [], ◌∷◌, ◌++◌}
use Prim.Native.Nat.{ℕ, ◌<◌}
use lib.ListN.{length}
use Rattle.column.specs.Column.{Code}
use Rattle.column.proofs.Series.{kept_same, kept_then, kept_encoded, kept_p, kept_q, kept_alike}
use Rattle.demands.specs.Layout.{Layout, LawfulLayout, block_of, column_of}
use Rattle.demands.specs.Series.{Bytes, Latest, none, given, value_or, later, Member, run, All, Table, feed, feed_all, table_after, latest, Claim, Apart, Without, end, keep, drop, EverySeries}
use Rattle.demands.proofs.Members.{Reached, Does, Sound, by_symbols}

-- ---- values
value_or_later : (v : ℕ) (a b : Latest) → value_or (value_or v a) b ≡ value_or v (later a b)
value_or_later v a none = refl
value_or_later v a (given u) = refl

none_earlier : (a : Latest) → later none a ≡ a
none_earlier none = refl
none_earlier (given v) = refl

later_exchange : (a b c : Latest) → (a ≡ none) ⊎ (b ≡ none) → later a (later b c) ≡ later b (later a c)
later_exchange a b (given v) h = refl
later_exchange a b none h = ⊎_elim (λ e. rw e (none_earlier b)) (λ e. rw e (sym (none_earlier a))) h

feed_latest : (ms : List Member) (t : Table) (k p : ℕ) → feed_all ms t k p ≡ value_or (t k p) (latest ms k p)
feed_latest [] t k p = refl
feed_latest (m ∷ ms) t k p =
    feed_latest ms (feed m t) k p ∙ value_or_later (t k p) (m.gives k p) (latest ms k p)

-- ---- a series without members that give nothing, and one with two neighbours exchanged
module _ (Holds : Member → Type 0) where
  all_without : {ms ns : List Member} → Without ms ns → All Holds ms → All Holds ns
  all_without end h = tt
  all_without (keep m rest) h = (h.0, all_without rest h.1)
  all_without (drop nothing rest) h = all_without rest h.1

  all_exchanged : (before after : List Member) (a b : Member) → All Holds (before ++ (a ∷ b ∷ after)) → All Holds (before ++ (b ∷ a ∷ after))
  all_exchanged [] after a b h = (h.1.0, (h.0, h.1.1))
  all_exchanged (m ∷ ms) after a b h = (h.0, all_exchanged ms after a b h.1)

latest_without : {ms ns : List Member} → Without ms ns → (k p : ℕ) → latest ms k p ≡ latest ns k p
latest_without end k p = refl
latest_without (keep m rest) k p = ap (later (m.gives k p)) (latest_without rest k p)
latest_without (drop {ms = ms} nothing rest) k p = rw (nothing k p) (none_earlier (latest ms k p) ∙ latest_without rest k p)

latest_exchanged : (before after : List Member) (a b : Member) → Apart a b → (k p : ℕ)
    → latest (before ++ (a ∷ b ∷ after)) k p ≡ latest (before ++ (b ∷ a ∷ after)) k p
latest_exchanged [] after a b apart k p = later_exchange (a.gives k p) (b.gives k p) (latest after k p) (apart k p)
latest_exchanged (m ∷ ms) after a b apart k p = ap (later (m.gives k p)) (latest_exchanged ms after a b apart k p)

module _ (L : Layout) (code : Code) (w : ℕ) (lay : LawfulLayout L w) (s : List ℕ) (size : length s ≡ L.size) (bytes : Bytes s) (Allowed : Member → Type 0) (sound : (m : Member) → Allowed m → Sound L code s m) where
  -- ---- by induction on the series
  next : (m : Member) {t : List ℕ} → Reached L code s t → Does L code m t → Reached L code s (m.runs t)
  next m reached does =
      record {
        long = does.long ∙ reached.long;
        bytes = does.bytes;
        kept = λ i hi. kept_then code L.disks (reached.kept i hi) (does.kept i hi);
      }

  reaches : (ms : List Member) (t : List ℕ) → All Allowed ms → Reached L code s t → Reached L code s (run ms t)
  reaches [] t allowed reached = reached
  reaches (m ∷ ms) t allowed reached = reaches ms (m.runs t) allowed.1 (next m reached (sound m allowed.0 t reached))

  gives_last : (ms : List Member) (t : List ℕ) → All Allowed ms → Reached L code s t → (k p : ℕ) → k < L.disks → p < L.block
      → block_of L (run ms t) k p ≡ value_or (block_of L t k p) (latest ms k p)
  gives_last [] t allowed reached k p hk hp = refl
  gives_last (m ∷ ms) t allowed reached k p hk hp =
      let does = sound m allowed.0 t reached in
      gives_last ms (m.runs t) allowed.1 (next m reached does) k p hk hp
      ∙ ap (λ (v : ℕ). value_or v (latest ms k p)) (does.contents k p hk hp)
      ∙ value_or_later (block_of L t k p) (m.gives k p) (latest ms k p)

  start : Reached L code s s
  start = record { long = size; bytes = bytes; kept = λ i hi. kept_same code L.disks (λ r hr. refl) }

  -- ---- the whole series
  module _ (ms : List Member) (allowed : All Allowed ms) where
    last : Reached L code s (run ms s)
    last = reaches ms s allowed start

    last_accepted : (k p : ℕ) → k < L.disks → p < L.block → block_of L (run ms s) k p ≡ value_or (block_of L s k p) (latest ms k p)
    last_accepted = gives_last ms s allowed start

    claim : Claim L code s ms (run ms s)
    claim =
        record {
          contents = contents;
          first = λ i hi. kept_p code L.disks (λ k. L.symbol (table_after L ms s k) i) (last.kept i hi) (table i hi);
          second = λ i hi. kept_q code L.disks (λ k. L.symbol (table_after L ms s k) i) (last.kept i hi) (table i hi);
        }
      where
        contents : (k p : ℕ) → k < L.disks → p < L.block → block_of L (run ms s) k p ≡ table_after L ms s k p
        contents k p hk hp = last_accepted k p hk hp ∙ sym (feed_latest ms (block_of L s) k p)

        table : (i : ℕ) → i < L.columns → (k : ℕ) → k < L.disks → column_of L (run ms s) i k ≡ L.symbol (table_after L ms s k) i
        table i hi k hk = lay.symbol_same (block_of L (run ms s) k) (table_after L ms s k) (λ p hp. contents k p hk hp) i hi

  alike : (ms ns : List Member) → All Allowed ms → All Allowed ns
      → ((k p : ℕ) → k < L.disks → p < L.block → latest ms k p ≡ latest ns k p)
      → run ms s ≡ run ns s
  alike ms ns am an same =
      by_symbols L code w lay (run ms s) (run ns s) one.long other.long one.bytes other.bytes
      (λ i r hi hr. kept_alike code L.disks (one.kept i hi) (other.kept i hi) (agree i hi) r hr)
    where
      one : Reached L code s (run ms s)
      one = last ms am

      other : Reached L code s (run ns s)
      other = last ns an

      agree : (i : ℕ) → i < L.columns → (k : ℕ) → k < L.disks → column_of L (run ms s) i k ≡ column_of L (run ns s) i k
      agree i hi k hk =
          lay.symbol_same (block_of L (run ms s) k) (block_of L (run ns s) k)
          (λ p hp. last_accepted ms am k p hk hp ∙ ap (value_or (block_of L s k p)) (same k p hk hp) ∙ sym (last_accepted ns an k p hk hp))
          i
          hi

  pub every_series : EverySeries L code s Allowed
  every_series =
      record {
        claim = claim;
        last_accepted = last_accepted;
        series_length = λ ms allowed. (last ms allowed).long ∙ sym size;
        series_bytes = λ ms allowed. (last ms allowed).bytes;
        ends_encoded = λ ms allowed enc i hi. kept_encoded code L.disks ((last ms allowed).kept i hi) (enc i hi);
        alike = alike;
        left_out = λ ms ns without allowed. alike ms ns allowed (all_without Allowed without allowed) (λ k p hk hp. latest_without without k p);
        change_places = λ before after a b apart allowed.
            alike (before ++ (a ∷ b ∷ after)) (before ++ (b ∷ a ∷ after)) allowed (all_exchanged Allowed before after a b allowed)
            (λ k p hk hp. latest_exchanged before after a b apart k p);
      }
