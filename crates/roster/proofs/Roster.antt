-- Lines that pass their tests have the serials of a roster: each of its properties is what one of the tests says. And a roster's serials, as ended
-- lines, pass them. In a roster, each slot is found by its serial, and no serial of more than 20 bytes is found.
-- Assumes nothing.
use mathlib.Core.Path.{◌≡◌, refl, sym, ap, ◌∙◌}
use mathlib.Core.Logic.{◌≢◌, ⊎_elim}
use mathlib.Core.Bool.{true, false, not}
use mathlib.Core.List.{List, [], ◌∷◌, map}
use Prim.Native.Nat.{ℕ, zero, suc, ◌-◌, ◌≤◌, ◌<◌, suc-le-suc}
use native.Mathlib.Nat.{not-suc-le-zero, le_of_suc-le-suc, zero-lt-suc}
use native.Mathlib.Omega.{arith}
use borrow.Author.Tests.{eqb-false, ltb-false, not-false, ne_eqb, le-ltb}
use lib.Dec.{eqb, ltb}
use lib.ListN.{length, get_or, take, length-map, get_or-map}
use lib.Seq.{length-take-le, get_or-take}
use Rattle.base.specs.Choice.{either}
use Rattle.base.proofs.Choice.{either_false, below_or_not}
use Rattle.base.proofs.Refused.{NoneApplies, none_applies}
use Rattle.std.specs.Prelude.{Some, None}
use Rattle.serials.specs.LookUp.{look_up}
use Rattle.serials.proofs.LookUp.{not_found, held_nowhere, lowest_found, other_length}
use Rattle.lines.specs.Lines.{Line, is_character, has_bad}
use Rattle.lines.specs.FirstFault.{serials_of, no_line, tests_of, Faultless}
use Rattle.roster.specs.Calls.{as_line}
use Rattle.roster.specs.Roster.{Serial, Roster}

-- ---- lines and their serials
module _ (ls : List Line) where
  pub count_of : length (serials_of ls) ≡ length ls
  count_of = length-map ls (λ (l : Line). l.serial)

  serial_of : (k : ℕ) → get_or (serials_of ls) k [] ≡ (get_or ls k no_line).serial
  serial_of k = get_or-map (λ (l : Line). l.serial) ls k no_line

before_of : (ls : List Line) (k : ℕ) → serials_of (take k ls) ≡ take k (serials_of ls)
before_of ls zero = refl
before_of [] (suc k) = refl
before_of (l ∷ ls) (suc k) = ap (◌∷◌ l.serial) (before_of ls k)

pub serials_as_lines : (ss : List (List ℕ)) → serials_of (map as_line ss) ≡ ss
serials_as_lines [] = refl
serials_as_lines (s ∷ ss) = ap (◌∷◌ s) (serials_as_lines ss)

line_at : (ss : List (List ℕ)) (k : ℕ) → k < length ss → get_or (map as_line ss) k no_line ≡ as_line (get_or ss k [])
line_at [] k h = absurd (not-suc-le-zero h)
line_at (s ∷ ss) zero h = refl
line_at (s ∷ ss) (suc k) h = line_at ss k (le_of_suc-le-suc h)

-- ---- lines that pass
none_bad : (s : List ℕ) → has_bad s ≡ false → (i : ℕ) → i < length s → is_character (get_or s i 0) ≡ true
none_bad [] e i h = absurd (not-suc-le-zero h)
none_bad (c ∷ s) e zero h = not-false (is_character c) (either_false (not (is_character c)) (has_bad s) e).0
none_bad (c ∷ s) e (suc i) h = none_bad s (either_false (not (is_character c)) (has_bad s) e).1 i (le_of_suc-le-suc h)

module _ (ls : List Line) (faultless : Faultless ls) where
  pub passed : (k : ℕ) → k < length ls → NoneApplies (tests_of ls k)
  passed k h = none_applies (tests_of ls k) refl (faultless k h)

  sound : (k : ℕ) → k < length ls → Serial (get_or ls k no_line).serial
  sound k h =
      let s = (get_or ls k no_line).serial in
      let fits = either_false (eqb (length s) 0) (ltb 20 (length s)) (passed k h).1.0 in
      let some = eqb-false (length s) 0 fits.0 in
      record { some = omega arith; short = ltb-false 20 (length s) fits.1; characters = none_bad s (passed k h).0 }

  before : (k : ℕ) → k < length ls → length (take k (serials_of ls)) ≡ k
  before k h = length-take-le k (serials_of ls) (omega (arith, count_of ls))

  apart : (j k : ℕ) → j < k → k < length ls → get_or (serials_of ls) j [] ≢ get_or (serials_of ls) k []
  apart j k l h e =
      not_found (take k (serials_of ls)) (get_or ls k no_line).serial (rw before_of at (passed k h).1.1.1.0) j (omega (arith, before k h))
      (get_or-take k (serials_of ls) j [] l ∙ e ∙ serial_of ls k)

  few : (k : ℕ) → k < length ls → suc k ≤ 257
  few k h = rw (before_of ls k, before k h) at (ltb-false 257 (suc (length (serials_of (take k ls)))) (passed k h).1.1.1.1.0)

  pub is_roster : Roster (serials_of ls)
  is_roster =
      record {
        slots = ⊎_elim (λ h. omega (arith, count_of ls, few (length ls - 1) (omega arith))) (λ h. omega (arith, count_of ls)) (below_or_not 0 (length ls));
        serial = λ k h. rw (serial_of ls k) (sound k (omega (arith, count_of ls)));
        once =
            λ j k hj hk e.
            let low : ¬ (j < k) = λ l. apart j k l (omega (arith, count_of ls)) e in
            let high : ¬ (k < j) = λ l. apart k j l (omega (arith, count_of ls)) (sym e) in
            omega arith;
      }

-- ---- a roster
all_good : (s : List ℕ) → ((i : ℕ) → i < length s → is_character (get_or s i 0) ≡ true) → has_bad s ≡ false
all_good [] good = refl
all_good (c ∷ s) good = rw (good 0 (zero-lt-suc (length s))) (all_good s (λ i h. good (suc i) (suc-le-suc h)))

fits : (n : ℕ) → 1 ≤ n → n ≤ 20 → either (eqb n 0) (ltb 20 n) ≡ false
fits n some short = rw (ne_eqb n 0 (λ e. omega arith), le-ltb 20 n short)

module _ {ss : List (List ℕ)} (roster : Roster ss) where
  pub each_found : (k : ℕ) → k < length ss → look_up ss (get_or ss k []) ≡ Some k
  each_found k h =
      lowest_found ss (get_or ss k []) k
      record { there = h; same = refl; before = λ j l e. let same = roster.once j k (omega arith) h e in omega arith }

  pub long_nowhere : (asked : List ℕ) → 20 < length asked → look_up ss asked ≡ None
  long_nowhere asked l = other_length ss asked (λ j h e. let short = (roster.serial j h).short in omega arith)

  none_before : (k : ℕ) → k < length ss → look_up (take k ss) (get_or ss k []) ≡ None
  none_before k h =
      held_nowhere (take k ss) (get_or ss k [])
      (λ j l e.
      let low : j < k = omega (arith, length-take-le k ss (omega arith)) in
      let same = roster.once j k (omega arith) h (sym (get_or-take k ss j [] low) ∙ e) in
      omega arith)

  pub roster_faultless : Faultless (map as_line ss)
  roster_faultless k l =
      let h : k < length ss = omega (arith, length-map ss as_line) in
      let s = roster.serial k h in
      let last : suc k ≤ 257 = omega (arith, roster.slots) in
      rw (
        line_at ss k h,
        before_of (map as_line ss) k,
        serials_as_lines ss,
        all_good (get_or ss k []) s.characters,
        fits (length (get_or ss k [])) s.some s.short,
        none_before k h,
        length-take-le k ss (omega arith),
        le-ltb 257 (suc k) last,
      )
