-- `losses::solve` meets its contract, by the rule's case: place by place, each step is the definition's own.
use mathlib.Core.Path.{◌≡◌, refl, ap₂, ◌∙◌}
use mathlib.Core.List.{List}
use Prim.Native.Nat.{ℕ}
use lib.ListN.{length, get_or, replicate, get_or-replicate}
use Rattle.gf256.specs.Field.{element}
use Rattle.base.proofs.Table.{get_d_tabulate, is_tabulate, tabulate_same}
use Rattle.chunk.specs.Chunk.{width, each, plus}
use Rattle.chunk.specs.declared.Sums.{Sums}
use Rattle.products.specs.Products.{plus_product}
use Rattle.losses.specs.declared.Restored.{Restored}
use Rattle.losses.specs.declared.Rule.TheVariants.{Mixed}
use Rattle.losses.specs.Losses.{solutions}
use Rattle.losses.proofs.solve.Goals as goal

abbrev pair : List ℕ → List ℕ → Restored
pair first second = record { first = first; second = second }

whole : (l : List ℕ) → length l ≡ width → l ≡ each (λ j. get_or l j 0)
whole l long = is_tabulate width (λ j. get_or l j 0) l long (λ j h. refl)

-- the steps of a mixed rule
mixed : (a b : ℕ) (s : Sums) {some first second : List ℕ} → some ≡ plus_product (replicate width 0) a s.p → first ≡ plus_product some b s.q → second ≡ plus s.p first
    → pair first second ≡ solutions (Mixed (element a) (element b)) s
mixed a b s {first = first} one d e = ap₂ pair is (e ∙ tabulate_same width (λ j h. rw (is, get_d_tabulate)))
  where
    is : first ≡ (solutions (Mixed (element a) (element b)) s).first
    is = d ∙ tabulate_same width (λ j h. rw (one, get_d_tabulate, get_or-replicate))

pub returns-in-Mixed : goal.returns-in-Mixed
returns-in-Mixed c =
    let a = c.args in
    rw c.in-Mixed.is
    (mixed _ _ a.sums c.add_product.ensures c.add_product-in-Mixed.ensures c.add.ensures)

pub returns-in-Carried : goal.returns-in-Carried
returns-in-Carried c = rw c.in-Carried.is (ap₂ pair (whole c.args.sums.p c.well_formed.1.0.1.1.0.1.0.1) c.add_product-in-Carried.ensures)
