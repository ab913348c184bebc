-- The bytes of a file that stand in its inode, where its body is bytes.
use Rattle.std.specs.Prelude.{◌≡◌, ℕ, List, length, take}
use Rattle.h2_inode.specs.declared.inode.Body.{Body}
use Rattle.h2_inode.specs.declared.inode.Body.TheVariants.{Refs, Bytes}
use Rattle.h2_inode.specs.Access.{Access}
use Rattle.h2_inode.specs.Contents.{IsContents}

-- the body begins with the bytes of a file of this size
pub record EmbedsBytes (size : ℕ) (body bytes : List ℕ) : Type 0 where
  pub bytes_are : bytes ≡ take size body
  pub sized : length bytes ≡ size

-- a file of this size with this body and tree has these bytes: they stand in the body, or below its references
abbrev pub HasBytes : (a : Access) → a.Tree → ℕ → Body → List ℕ → Type 0
HasBytes a t size (Refs s) bytes = IsContents a t size bytes
HasBytes a t size (Bytes body) bytes = EmbedsBytes size body bytes
