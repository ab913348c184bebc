-- An image with the blocks of a new volume stands for the new forest.
use Rattle.std.specs.Prelude.{◌≡◌, ◌≢◌, ◌<◌, ℕ, [], ◌∷◌, refl}
use Rattle.std.proofs.Common.{arith}
use Rattle.h2_num.specs.Places.{Places}
use Rattle.h2_ref.specs.declared.reference.Ref.{Ref}
use Rattle.h2_dirkey.specs.PfsName.{IsPfsName}
use Rattle.h2_forest.specs.declared.table.Node.TheVariants.{Directory}
use Rattle.h2_forest.specs.Forest.{bare_table, fresh}
use Rattle.h2_inode.specs.PfsList.{ListedPfs, IsPfs, IsPfsList}
use Rattle.h2_inode.specs.ListLaws.{all_none, all_cons, pairs_none, pairs_cons}
use Rattle.h2_meaning.specs.Forest.{IsTable}
use Rattle.h2_meaning.specs.Image.{LeavesIn, nothing_left, a_leaf, in_image, named, Stands}
use Rattle.h2_meaning.specs.Example.{first_inode, pfs_over, listed_root, root_inode, new_root, HasNewBlocks}
use Rattle.h2_meaning.specs.ExampleLaws.{no_entries, bare_tree, letters}

-- of the four references of its header one names something
pub one_named : (place check : ℕ) → named (new_root (first_inode place check)) ≡ first_inode place check ∷ []
one_named place check = refl

module _ (image : Places) (place check below under : ℕ) (h : HasNewBlocks image (first_inode place check) (first_inode below under)) where
  -- the reference to the PFS
  abbrev the_pfs : Ref
  the_pfs = first_inode place check

  -- the reference to its root directory
  abbrev the_directory : Ref
  the_directory = first_inode below under

  one_leaf : (at n : ℕ) → LeavesIn image (first_inode at n ∷ []) (first_inode at n ∷ [])
  one_leaf at n = a_leaf (first_inode at n) (λ e. cc) nothing_left

  root_named : IsPfs (in_image image) (the_pfs ∷ []) the_pfs listed_root
  root_named = record {
    kind_is = refl;
    inode = pfs_over the_directory;
    tree = the_directory ∷ [];
    read = (h.pfs_is, refl);
    pfs_is = refl;
    numbered = refl;
    id_is = refl;
    name_is = refl;
    next_is = refl;
  }

  root_listed : IsPfsList (in_image image) (the_pfs ∷ []) 2 (listed_root ∷ [])
  root_listed = record {
    leaves = the_pfs ∷ [];
    has = record { read = one_leaf place check; ordered = (omega arith, omega arith) };
    each = (root_named, tt);
    good = all_cons (λ (p : ListedPfs). IsPfsName p.name) listed_root [] (record { some = omega arith; few = omega arith; bytes = letters }) (all_none (λ (p : ListedPfs). IsPfsName p.name));
    differ = pairs_cons (λ (p q : ListedPfs). p.name ≢ q.name) listed_root [] (all_none (λ (q : ListedPfs). listed_root.name ≢ q.name)) (pairs_none (λ (p q : ListedPfs). p.name ≢ q.name));
    below = all_cons (λ (p : ListedPfs). p.id < 2) listed_root [] (omega arith) (all_none (λ (p : ListedPfs). p.id < 2));
  }

  root_holds : IsTable (in_image image) (the_directory ∷ []) 2 bare_table
  root_holds = record {
    members = (1, Directory no_entries) ∷ [];
    has = record {
      leaves = the_directory ∷ [];
      has = record { read = one_leaf below under; ordered = (omega arith, omega arith) };
      each = (
        record {
          kind_is = refl;
          inode = root_inode;
          tree = [];
          read = (h.directory_is, refl);
          number_is = refl;
          numbered = refl;
          node_is = record {
            leaves = [];
            has = record { read = nothing_left; ordered = omega arith };
            named = [];
            each = tt;
            differ = pairs_none (λ x y. x.0 ≢ y.0);
            counted = refl;
            entries_are = refl;
          };
        },
        tt,
      );
    };
    table_is = refl;
    whole = bare_tree;
  }

  pub new_blocks_stand : Stands image (new_root (first_inode place check)) 2 fresh
  unfolding root_named root_listed
  new_blocks_stand = record {
    list = root_listed;
    each = (record { named = root_named; holds = root_holds }, tt);
    next_is = refl;
    no_handles = refl;
  }
