-- What it is that two lost devices of a bit-matrix code can be rebuilt (000, lemma 3.1.2): its system of parity equations (7) has one
-- solution, whichever two devices are lost and whatever the others hold. A word that is lost alone is lost with a parity that is right.
-- Assumes nothing.
use Rattle.std.specs.Prelude.{◌≡◌, ◌≢◌, ℕ, ◌<◌}
use Rattle.std.specs.Int.Bits.{bit_xor}
use Rattle.matrix.specs.Fold.{fold}
use Rattle.matrix.specs.Matrix.{apply}
use Rattle.findings.specs.Findings.{Code, X}

pub data Device : Type 0 where
  Word : ℕ → Device
  P : Device
  Q : Device

-- a device of a code of count matrices
abbrev pub Known : ℕ → Device → Type 0
Known count (Word i) = i < count
Known count P = Unit {0}
Known count Q = Unit {0}

-- what each device holds
abbrev pub Held : Type 0
Held = Device → ℕ

abbrev pub Bytes : ℕ → Held → Type 0
Bytes count s = (x : Device) → Known count x → s x < 256

-- the exclusive or of f 0, f 1, .., f (n - 1)
abbrev pub xors : ℕ → (ℕ → ℕ) → ℕ
xors = fold bit_xor 0

-- equations (7): P is the sum of the words, and Q that of X_k times word k
pub record Meets (code : Code) (count : ℕ) (s : Held) : Type 0 where
  pub first : s P ≡ xors count (λ k. s (Word k))
  pub second : s Q ≡ xors count (λ k. apply (X code k) (s (Word k)))

-- t has what s has on the devices other than d and e
abbrev pub Survive : Device → Device → Held → Held → Type 0
Survive d e s t = (x : Device) → x ≢ d → x ≢ e → t x ≡ s x

-- with what s has on the others, d and e can hold bytes that meet both equations, and these alone
pub record Rebuilt (code : Code) (count : ℕ) (d e : Device) (s : Held) : Type 0 where
  pub held : Held
  pub bytes : Bytes count held
  pub survive : Survive d e s held
  pub meets : Meets code count held
  pub only : (t : Held) → Bytes count t → Survive d e s t → Meets code count t → (x : Device) → Known count x → t x ≡ held x

abbrev pub Rebuilds : Code → ℕ → Type 0
Rebuilds code count = (d e : Device) → Known count d → Known count e → d ≢ e → (s : Held) → Bytes count s → Rebuilt code count d e s
