-- Every row of the table fits the numbers that hold it.
use Rattle.std.specs.Prelude.{◌<◌, ℕ, zero, suc}
use Rattle.std.proofs.Common.{arith}
use Rattle.h2_ref.specs.declared.reference.Kind.{Kind}
use Rattle.h2_ref.specs.declared.reference.Kind.TheVariants.{Empty, Inode, Indirect, Content, Dirent, MapNode, MapLeaf}
use Rattle.h2_ref.specs.declared.table.Row.{Row}
use Rattle.h2_ref.specs.Table.{row_of}
use Rattle.h2_ref.specs.Ref.{HasKeybits}

-- a range of so many keys has an end, and a block of that size too
pub record IsLimited (w : Row) : Type 0 where
  pub keybits : (n : ℕ) → HasKeybits w.keybits n → n < 64
  pub radix : w.radix < 32

pub row_limited : (k : Kind) (method : ℕ) → IsLimited (row_of k method)
row_limited Empty m = record { keybits = λ n e. omega (arith, e); radix = omega arith }
row_limited Inode m = record { keybits = λ n e. omega (arith, e); radix = omega arith }
row_limited Indirect m = record { keybits = λ n e. omega (arith, e.1); radix = omega arith }
row_limited Content m = record { keybits = λ n e. omega (arith, e); radix = omega arith }
row_limited Dirent zero = record { keybits = λ n e. omega (arith, e); radix = omega arith }
row_limited Dirent (suc m) = record { keybits = λ n e. omega (arith, e); radix = omega arith }
row_limited MapNode m = record { keybits = λ n e. grind (arith, e); radix = omega arith }
row_limited MapLeaf m = record { keybits = λ n e. omega (arith, e); radix = omega arith }
