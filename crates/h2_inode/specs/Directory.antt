-- What a directory's tree stands for: its entries.
use Rattle.std.specs.Prelude.{◌≡◌, ◌≢◌, ◌≤◌, ◌⊎◌, ℕ, List, length, take, AllPairs, Some}
use Rattle.std.specs.Ordering.{nat_cmp}
use Rattle.std.specs.Cmp.Lexicographic.{slice_cmp}
use Rattle.std.specs.FinMap.{FinMap, from_entries}
use Rattle.h2_ref.specs.declared.reference.Kind.TheVariants.{Dirent as Entry_kind}
use Rattle.h2_ref.specs.declared.reference.Dirent.{Dirent}
use Rattle.h2_ref.specs.declared.reference.Ref.{Ref}
use Rattle.h2_dirkey.specs.Key.{IsNameUnder}
use Rattle.h2_inode.specs.Access.{Access, HasLeaves, OneByOne}

-- the entries of a directory: an inode number for each name, in byte order
abbrev pub Entries : Type 0
Entries = FinMap (slice_cmp nat_cmp) ℕ

-- a name of at most 64 bytes stands in its entry, and a longer one in a block of its own
abbrev pub IsNameOf : (a : Access) → a.Tree → Ref → Dirent → List ℕ → Type 0
IsNameOf a t r e name = ((e.len ≤ 64) × (name ≡ take e.len e.name)) ⊎ ((65 ≤ e.len) × a.NameOf t r name)

-- Target says which numbers an entry may name, by what it says of the kind: 1 for a directory, 2 for a file.
module _ (a : Access) (Target : ℕ → ℕ → Type 0) where
  -- the leaf is an entry with this name and number, under a key with the upper bits of the name's key
  pub record IsEntry (t : a.Tree) (r : Ref) (named : List ℕ × ℕ) : Type 0 where
    pub kind_is : r.kind ≡ Entry_kind
    pub entry : Dirent
    pub entry_is : r.dirent ≡ Some entry
    pub number_is : named.1 ≡ entry.number
    pub name_is : IsNameOf a t r entry named.0
    pub length_is : length named.0 ≡ entry.len
    pub under : IsNameUnder r.key named.0
    pub target_fits : Target entry.target entry.number

  -- the tree holds the entries of a directory of this size: names differ, and the size is their number
  pub record IsDirectory (t : a.Tree) (size : ℕ) (entries : Entries) : Type 0 where
    pub leaves : List Ref
    pub has : HasLeaves a t leaves
    pub named : List (List ℕ × ℕ)
    pub each : OneByOne (IsEntry t) leaves named
    pub differ : AllPairs (λ x y. x.0 ≢ y.0) named
    pub counted : length named ≡ size
    pub entries_are : entries ≡ from_entries named
