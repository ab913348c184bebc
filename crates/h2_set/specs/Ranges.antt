-- The ranges of keys that references stand for, and lists of references in order.
use Rattle.std.specs.Prelude.{◌≡◌, ℕ, ◌+◌, ◌^◌, ◌%◌, ◌⊎◌, ◌≤◌, ◌<◌, Bool, true, false, ◌&&◌, nat_le, nat_lt, ◌==◌, List, [], ◌∷◌, Option, Some, None, if◌then◌else◌, length, slice_get}
use Rattle.h2_ref.specs.declared.reference.Ref.{Ref}
use Rattle.h2_ref.specs.declared.reference.Kind.{Kind}
use Rattle.h2_ref.specs.declared.reference.Kind.TheVariants.{Empty, Inode, Indirect, Content, Dirent, MapNode, MapLeaf}

-- whether a reference of this kind leads to further references of its tree
abbrev pub leads_on : Kind → Bool
leads_on Empty = false
leads_on Inode = false
leads_on Indirect = true
leads_on Content = false
leads_on Dirent = false
leads_on MapNode = false
leads_on MapLeaf = false

-- whether a reference names an indirect block; any other is a leaf
abbrev pub is_indirect : Ref → Bool
is_indirect r = leads_on r.kind

-- where the range of a reference ends
abbrev pub limit : Ref → ℕ
limit r = r.key + 2 ^ r.keybits

-- whether the range of a reference holds a key
abbrev pub holds : ℕ → Ref → Bool
holds key r = nat_le r.key key && nat_lt key (limit r)

-- the ranges are disjoint and ascend, and lie from low up to high
abbrev pub Rising : ℕ → ℕ → List Ref → Type 0
Rising low high [] = low ≤ high
Rising low high (r ∷ rs) = (low ≤ r.key) × Rising (limit r) high rs

-- the first reference whose range holds the key
abbrev pub find : ℕ → List Ref → Option Ref
find key [] = None
find key (r ∷ rs) = if holds key r then Some r else find key rs

-- no range holds the key
abbrev pub NoneHolds : ℕ → List Ref → Type 0
NoneHolds key rs = (i : ℕ) (r : Ref) → slice_get rs i ≡ Some r → holds key r ≡ false

-- the range at place i holds the key
pub record IsPlaceOf (key : ℕ) (rs : List Ref) (i : ℕ) : Type 0 where
  pub within : i < length rs
  pub holds : (r : Ref) → slice_get rs i ≡ Some r → holds key r ≡ true

-- the references with one more in its order, in place of the one with its key
abbrev pub put : Ref → List Ref → List Ref
put r [] = r ∷ []
put r (q ∷ qs) = if nat_lt r.key q.key then r ∷ q ∷ qs else (if nat_lt q.key r.key then q ∷ put r qs else r ∷ qs)

-- the references but for the one with the key
abbrev pub without : ℕ → List Ref → List Ref
without key [] = []
without key (r ∷ rs) = if r.key == key then rs else r ∷ without key rs

-- the leaf with the key, not merely one whose range holds it
abbrev pub at_key : ℕ → List Ref → Option Ref
at_key key [] = None
at_key key (r ∷ rs) = if r.key == key then Some r else at_key key rs

-- the key is a multiple of 2 ^ keybits
abbrev pub IsAligned : Ref → Type 0
IsAligned r = r.key % 2 ^ r.keybits ≡ 0

-- each of them is aligned
abbrev pub AllAligned : List Ref → Type 0
AllAligned rs = (i : ℕ) (r : Ref) → slice_get rs i ≡ Some r → IsAligned r

-- two ranges that have no key in common
abbrev pub Apart : Ref → Ref → Type 0
Apart r q = (limit r ≤ q.key) ⊎ (limit q ≤ r.key)

-- the range of r is disjoint from all others
abbrev pub IsApart : Ref → List Ref → Type 0
IsApart r rs = (i : ℕ) (q : Ref) → slice_get rs i ≡ Some q → Apart r q

-- whether a reference lies in the range from key on, 2 ^ bits long
abbrev pub lies : ℕ → ℕ → Ref → Bool
lies key bits r = nat_le key r.key && nat_le (limit r) (key + 2 ^ bits)

-- a reference lies in the range, or apart from it
abbrev pub Sides : ℕ → ℕ → Ref → Type 0
Sides key bits r = (lies key bits r ≡ true) ⊎ ((limit r ≤ key) ⊎ (key + 2 ^ bits ≤ r.key))

-- all keys are below this one
abbrev pub AllBelow : ℕ → List Ref → Type 0
AllBelow end rs = (i : ℕ) (r : Ref) → slice_get rs i ≡ Some r → r.key < end

-- no key is below this one
abbrev pub AllFrom : ℕ → List Ref → Type 0
AllFrom start rs = (i : ℕ) (r : Ref) → slice_get rs i ≡ Some r → start ≤ r.key

-- the keys are all below 2^62, or all at least 2^63
abbrev pub IsOneClass : List Ref → Type 0
IsOneClass rs = AllBelow (2 ^ 62) rs ⊎ AllFrom (2 ^ 63) rs
