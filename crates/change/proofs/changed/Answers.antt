-- `change::changed` meets its contract: place by place, each step is the definition's own.
use mathlib.Core.Path.{◌≡◌, ap₂, ◌∙◌}
use mathlib.Core.List.{List}
use Prim.Native.Nat.{ℕ}
use Rattle.base.proofs.Table.{get_d_tabulate, tabulate_same}
use Rattle.chunk.specs.Chunk.{width, plus}
use Rattle.chunk.specs.declared.Sums.{Sums}
use Rattle.products.specs.Products.{plus_product}
use Rattle.change.specs.Changed.{changed_by}
use Rattle.change.proofs.changed.Goals as goal

-- the steps: what changed, added to P and, times the coefficient, to Q
steps : (c : ℕ) (old new : List ℕ) (s : Sums) {change p q : List ℕ} → change ≡ plus old new → p ≡ plus s.p change → q ≡ plus_product s.q c change
    → ◌≡◌ {A = Sums} (record { p = p; q = q }) (changed_by c old new s)
steps c old new s is first second =
    ap₂ (λ (p q : List ℕ). record { p = p; q = q }) (first ∙ tabulate_same width (λ j h. rw (is, get_d_tabulate))) (second ∙ tabulate_same width (λ j h. rw (is, get_d_tabulate)))

pub returns : goal.returns
returns c = let a = c.args in steps a.c.0 a.old a.new a.parities c.add.ensures c.add-2.ensures c.add_product.ensures
