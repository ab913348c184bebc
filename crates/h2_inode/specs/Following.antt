-- Two ways to read trees, of which the second gives whatever the first gives.
use Rattle.std.specs.Prelude.{◌≡◌, ℕ, List, ⊤}
use Rattle.h2_num.specs.Places.{Places}
use Rattle.h2_ref.specs.declared.reference.Ref.{Ref}
use Rattle.h2_inode.specs.declared.inode.Body.{Body}
use Rattle.h2_inode.specs.declared.inode.Body.TheVariants.{Refs, Bytes}
use Rattle.h2_inode.specs.declared.inode.Inode.{Inode}
use Rattle.h2_inode.specs.Access.{Access, OneByOne}

-- the leaves stand for the same, wherever their blocks lie and whoever wrote them
pub record SameLeaf (r s : Ref) : Type 0 where
  pub kind : s.kind ≡ r.kind
  pub key : s.key ≡ r.key
  pub keybits : s.keybits ≡ r.keybits
  pub dirent : s.dirent ≡ r.dirent

-- both bodies are references, or both are the same bytes
abbrev pub SameBody : Body → Body → Type 0
SameBody (Refs s) (Refs u) = ⊤
SameBody (Refs s) (Bytes c) = ⊥
SameBody (Bytes b) (Refs u) = ⊥
SameBody (Bytes b) (Bytes c) = c ≡ b

-- the inodes are the same, but for their references
pub record SameInode (i j : Inode) : Type 0 where
  pub kind : j.kind ≡ i.kind
  pub number : j.number ≡ i.number
  pub size : j.size ≡ i.size
  pub links : j.links ≡ i.links
  pub next : j.next ≡ i.next
  pub name : j.name ≡ i.name
  pub body : SameBody i.body j.body

-- two readings, with a relation of their trees, and one of the leaves of two trees that are so related
pub record Passage : Type 1 where
  pub from : Access
  pub to : Access
  pub Matches : from.Tree → to.Tree → Type 0
  pub Like : from.Tree → to.Tree → Ref → Ref → Type 0

-- what the first reading gives for a tree, the second gives for each tree that matches it
pub record Follows (p : Passage) : Type 0 where
  pub leaves : (t : p.from.Tree) (u : p.to.Tree) (l : List Ref) → p.Matches t u → p.from.LeavesOf t l → (m : List Ref) × p.to.LeavesOf u m × OneByOne (p.Like t u) l m
  pub like : (t : p.from.Tree) (u : p.to.Tree) (r s : Ref) → p.Like t u r s → SameLeaf r s
  pub inode : (t : p.from.Tree) (u : p.to.Tree) (r s : Ref) (i : Inode) (c : p.from.Tree) → p.Like t u r s → p.from.InodeOf t r i c
      → (j : Inode) × (d : p.to.Tree) × p.to.InodeOf u s j d × SameInode i j × p.Matches c d
  pub name : (t : p.from.Tree) (u : p.to.Tree) (r s : Ref) (n : List ℕ) → p.Like t u r s → p.from.NameOf t r n → p.to.NameOf u s n
  pub content : (t : p.from.Tree) (u : p.to.Tree) (r s : Ref) (x : Places) → p.Like t u r s → p.from.ContentOf t r x → p.to.ContentOf u s x

-- a reading beside itself
abbrev pub itself : Access → Passage
itself a = record { from = a; to = a; Matches = λ t u. u ≡ t; Like = λ t u r s. (u ≡ t) × (s ≡ r) }
