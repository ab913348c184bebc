-- A node is seen by its 1024 places alone; it has one spelling, and bytes spell one node at most.
use Rattle.std.specs.Prelude.{◌≡◌, List, length}
use Rattle.std.proofs.Common.{sym, ◌∙◌, arith}
use Rattle.h2_num.specs.Places.{Places, AreBytes, SameBelow}
use Rattle.h2_ref.specs.declared.reference.Ref.{Ref}
use Rattle.h2_ref.specs.SetLaws.{RefsBytes-same, refs_spelling, refs_one}
use Rattle.h2_freeleaf.specs.Node.{IsNode, NodeBytes}

-- a node is seen by its 1024 places alone
pub NodeBytes-same : (refs : List Ref) (a b : Places) → IsNode refs → SameBelow 1024 a b → NodeBytes refs a → NodeBytes refs b
NodeBytes-same refs a b is same = let count : length refs ≡ 8 = is.count in RefsBytes-same refs a b (λ k lt. same k (omega arith))

-- a node has one spelling
pub node_spelling : (refs : List Ref) (a b : Places) → AreBytes a → AreBytes b → IsNode refs → NodeBytes refs a → NodeBytes refs b → SameBelow 1024 a b
node_spelling refs a b fa fb is p q k lt = let count : length refs ≡ 8 = is.count in refs_spelling refs a b fa fb p q k (omega arith)

-- bytes spell one node at most
pub node_one : (x y : List Ref) (b : Places) → IsNode x → IsNode y → NodeBytes x b → NodeBytes y b → y ≡ x
node_one x y b is_x is_y p q = refs_one x y b (is_y.count ∙ sym is_x.count) is_x.valid is_y.valid p q
