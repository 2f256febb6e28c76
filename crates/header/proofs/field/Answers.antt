-- `header::field` meets its contract: two bytes make a number below 65,536, and past the end stands 00.
use Rattle.std.proofs.Common.{⊎_elim, ◌≡◌, ℕ, ◌+◌, ◌≤◌, List, length, get_or, sym, ap, ◌∙◌, arith}
use lib.ListN.{get_or-eq_default}
use Rattle.base.proofs.Choice.{below_or_not}
use Rattle.header.specs.Fields.{field}
use Rattle.header.proofs.field.Goals as goal

-- a byte past the end is 0
past : (bytes : List ℕ) (k : ℕ) → length bytes ≤ k → get_or bytes k 0 ≡ 0
past bytes k h = get_or-eq_default bytes 0 h

pub returns : goal.returns
unfolding field
returns c =
    let bytes = c.args.bytes.now in
    let at = c.args.at in
    let low : get_or bytes c.saturating_add.result 0 ≡ get_or bytes (at + 1) 0 =
    ⊎_elim (λ l. ap (λ (k : ℕ). get_or bytes k 0) (omega (arith, c.saturating_add.ensures)))
    (λ l. past bytes c.saturating_add.result (omega (arith, c.saturating_add.ensures)) ∙ sym (past bytes (at + 1) (omega arith)))
    (below_or_not at 18446744073709551615) in
    record { value = omega (arith, c.from_be_bytes.ensures, c.byte-high.ensures, c.byte-low.ensures, low); small = c.from_be_bytes.type_inv }
