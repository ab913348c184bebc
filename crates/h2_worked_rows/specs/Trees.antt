-- A forest of two trees, by which the definitions of loaded nodes are tried.
use Rattle.std.specs.Prelude.{ℕ, Bool, true, false, cond, nat_lt, nat_eq, ◌&&◌, ◌||◌, List, [], ◌∷◌, None}
use Rattle.h2_ref.specs.declared.reference.Ref.{Ref}
use Rattle.h2_set.specs.Forest.{Forest, untold}
use Rattle.h2_worked_rows.specs.Refs.{block_at, fifth_leaf}

-- the references of a root: of root 0 the leaf of inode 5, of root 1 a block
abbrev pub refs_of_root : ℕ → List Ref
refs_of_root m = cond (nat_eq m 0) (fifth_leaf ∷ []) (cond (nat_eq m 1) (block_at 0 ∷ []) [])

-- whether a root is that of inode 5 of the tree of root 0
abbrev pub is_fifth : ℕ → ℕ → ℕ → Bool
is_fifth m top key = nat_eq m 1 && (nat_eq top 0 && nat_eq key 5)

-- Root 0 is that of a PFS, and root 1 that of its inode 5, a file with one block. Nothing is writable or held.
abbrev pub two_roots : Forest
two_roots = record {
  stands = λ m. nat_lt m 2;
  set = λ m. record { refs = refs_of_root m; capacity = 4 };
  link = λ m key. untold;
  root = λ m. m;
  low = λ m. 0;
  bits = λ m. 63;
  leaf_bits = λ m. cond (nat_eq m 1) 14 0;
  allows = λ m r. true;
  belongs = is_fifth;
  held = λ m. false;
  copies = λ m. 0;
  writable = λ m. false;
  name = λ r. None;
  epoch = 1;
  spare = 0;
  room = 0;
  failed = 0;
  bad = 0;
  met = None;
}

-- whether root 2 belongs to a leaf: to that of inode 5 of the tree of root 0, and to that of inode 7 of root 1
abbrev pub is_seventh : ℕ → ℕ → ℕ → Bool
is_seventh m top key = nat_eq m 2 && ((nat_eq top 0 && nat_eq key 5) || (nat_eq top 1 && nat_eq key 7))

-- Root 2 belongs to the leaf of inode 5, whose root 1 isn't loaded.
abbrev pub without_fifth : Forest
without_fifth = record two_roots {
  stands = λ m. nat_eq m 0 || nat_eq m 2;
  belongs = is_seventh;
}

-- the two trees, of which root 0 has two leaves with one key
abbrev pub with_leaf_twice : Forest
with_leaf_twice = record two_roots {
  set = λ m. record { refs = cond (nat_eq m 0) (fifth_leaf ∷ fifth_leaf ∷ []) (refs_of_root m); capacity = 4 };
}

-- the two trees, of which root 2 is held, which doesn't stand
abbrev pub with_third_held : Forest
with_third_held = record two_roots { held = λ m. nat_eq m 2 }
