-- What the theory of two parities asks of a code: `w` bits to a symbol, and at most `m` data disks. The maps `act k` respect the sum,
-- and each of them and each sum of two is one-to-one, said as "only zero goes to zero"; `undo` and `split` solve for what is lost.
use Rattle.std.specs.Prelude.{◌≡◌, ◌≢◌, ℕ, ◌^◌, ◌<◌}
use Rattle.gf256.specs.Field.{sum}
use Rattle.column.specs.Column.{Column, Code}

pub record Lawful (code : Code) (w m : ℕ) : Type 0 where
  pub act_sum : (k x y : ℕ) → code.act k (sum x y) ≡ sum (code.act k x) (code.act k y)
  pub act_closed : (k x : ℕ) → x < 2 ^ w → code.act k x < 2 ^ w
  pub act_only_zero : (k x : ℕ) → k < m → x < 2 ^ w → code.act k x ≡ 0 → x ≡ 0
  pub pair_only_zero : (i j x : ℕ) → i < m → j < m → i ≢ j → x < 2 ^ w → sum (code.act i x) (code.act j x) ≡ 0 → x ≡ 0
  pub undo_act : (k q : ℕ) → k < m → q < 2 ^ w → code.act k (code.undo k q) ≡ q
  pub undo_closed : (k q : ℕ) → q < 2 ^ w → code.undo k q < 2 ^ w
  pub split_act : (x y p q : ℕ) → x < m → y < m → x ≢ y → p < 2 ^ w → q < 2 ^ w
      → sum (code.act x (code.split x y p q)) (code.act y (sum p (code.split x y p q))) ≡ q
  pub split_closed : (x y p q : ℕ) → p < 2 ^ w → q < 2 ^ w → code.split x y p q < 2 ^ w

-- every symbol of a column has at most w bits
abbrev pub Symbols : ℕ → Column → Type 0
Symbols w c = (r : ℕ) → c r < 2 ^ w
