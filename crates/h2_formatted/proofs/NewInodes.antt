-- The blocks of a new volume spell its inodes, so its forest stands.
use Rattle.std.specs.Prelude.{◌≡◌, ℕ, zero, suc, ◌+◌, ◌*◌, ◌^◌, ◌<◌, nat_lt, [], ◌∷◌, slice_index_or, refl}
use Rattle.std.proofs.Common.{ap, sym, subst, ◌∙◌, arith, inr}
use Rattle.std.proofs.lemmas.Bool.{lt-ltb, cond-true}
use Rattle.h2_num.specs.Places.{Places, number_at, from_place, ZeroIn}
use Rattle.h2_num.specs.PlaceLaws.{number_at-same}
use Rattle.h2_check.specs.Xxh.{xxh64_of}
use Rattle.h2_ref.specs.declared.reference.Ref.{Ref}
use Rattle.h2_ref.specs.Ref.{RefBytes, empty_ref}
use Rattle.h2_ref.specs.RefLaws.{RefBytes-same}
use Rattle.h2_header.specs.declared.header.Header.{Header}
use Rattle.h2_set.specs.SetBytes.{slot, IsHeld}
use Rattle.h2_inode.specs.declared.inode.Inode.{Inode}
use Rattle.h2_inode.specs.declared.kind.InodeKind.TheVariants.{Directory as Directory_kind, Pfs as Pfs_kind}
use Rattle.h2_inode.specs.Kind.{kind_byte}
use Rattle.h2_inode.specs.Inode.{IsPartOf, IsInode, body_byte, BodyBytes, InodeBytes}
use Rattle.h2_inode.specs.ListLaws.{all_none, all_cons}
use Rattle.h2_forest.specs.Forest.{fresh}
use Rattle.h2_meaning.specs.Image.{Stands}
use Rattle.h2_meaning.specs.Example.{first_inode, pfs_over, root_inode, HasNewBlocks}
use Rattle.h2_meaning.specs.ExampleLaws.{letters}
use Rattle.h2_meaning.specs.NewImageLaws.{new_blocks_stand}
use Rattle.h2_image.specs.NewBlocks.{InodeHead, RootDirectoryBytes, RootPfsBytes}
use Rattle.h2_image.specs.NewVolume.{directory_place, pfs_place, directory_block, pfs_block, IsNewVolume}
use Rattle.h2_image.specs.VolumeLaws.{directory_valid}

-- Zeros in a set

zero_field : (b : Places) (i n : ℕ) → ZeroIn i (i + n) b → number_at b i n ≡ number_at (λ k. 0) 0 n
zero_field b i n zeros = number_at-same b (λ k. 0) i 0 n (λ k lt. zeros (i + k) (omega arith) (omega (arith, lt)))

-- zeros spell the reference that names nothing
zeros_empty : (b : Places) → ZeroIn 0 128 b → RefBytes empty_ref b
zeros_empty b zeros = record {
  fields = record {
    kind = zeros 0 (omega arith) (omega arith);
    method = zeros 1 (omega arith) (omega arith);
    keybits = zeros 2 (omega arith) (omega arith);
    flags = zeros 3 (omega arith) (omega arith);
    key = zero_field b 8 8 (λ k low high. zeros k (omega arith) (omega (arith, high)));
    place = zero_field b 16 8 (λ k low high. zeros k (omega arith) (omega (arith, high)));
    id = zero_field b 24 8 (λ k low high. zeros k (omega arith) (omega (arith, high)));
    entry = tt;
    name = tt;
    check = refl;
  };
  gaps = record {
    before_key = λ k low high. zeros k (omega arith) (omega (arith, high));
    before_area = λ k low high. zeros k (omega arith) (omega (arith, high));
    tail = λ k low high. zeros k (omega arith) high;
  };
}

in_slot : (b : Places) (i k : ℕ) → k < 128 → slot b i k ≡ b (128 * i + k)
in_slot b i k lt = cond-true (nat_lt k 128) (b (128 * i + k)) 0 (lt-ltb k 128 lt)

-- a place of a set in which zeros stand
empty_slot : (b : Places) (i : ℕ) → ZeroIn (128 * i) (128 * i + 128) b → RefBytes empty_ref (slot b i)
empty_slot b i zeros = zeros_empty (slot b i) (λ k low high. in_slot b i k high ∙ zeros (128 * i + k) (omega arith) (omega (arith, high)))

first_slot : (b : Places) (r : Ref) → RefBytes r b → RefBytes r (slot b 0)
first_slot b r h = RefBytes-same r b (slot b 0) (λ k lt. let at : 128 * 0 + k ≡ k = omega arith in in_slot b 0 k lt ∙ ap b at) h

-- Inodes

inode_bytes : (i : Inode) (b : Places) → i.size ≡ 0 → i.links ≡ 1 → body_byte i.body ≡ 0 → InodeHead (kind_byte i.kind) i.number i.next i.name b → BodyBytes i.body (from_place b 512) → InodeBytes i b
inode_bytes i b size links body head contents = record {
  kind_at = head.kind_is;
  body_at = head.body ∙ sym body;
  before_links = head.after_body;
  links_at = head.links ∙ sym links;
  number_at_8 = head.number_is;
  size_at = head.size ∙ sym size;
  next_at = head.next_is;
  name_at = record { len = head.name_length; bytes = head.name_is };
  before_name = head.after_length;
  behind_name = head.after_name;
  contents = contents;
}

directory_bytes : (b : Places) → RootDirectoryBytes b → InodeBytes root_inode b
directory_bytes b d = inode_bytes root_inode b refl refl refl d.head (record {
  fits = omega arith;
  each = λ i d lt. absurd (omega (arith, lt));
  empty = λ i low high. empty_slot (from_place b 512) i (λ k from to. d.no_entries (512 + k) (omega arith) (omega (arith, high, to)));
})

pfs_bytes : (directory : Ref) (b : Places) → RootPfsBytes directory b → InodeBytes (pfs_over directory) b
pfs_bytes directory b p = inode_bytes (pfs_over directory) b refl refl refl p.head (record {
  fits = omega arith;
  each = one_ref;
  empty = λ i low high. empty_slot (from_place b 512) i (λ k from to. p.no_more (512 + k) (omega (arith, low, from)) (omega (arith, high, to)));
})
  where
    one_ref : (i : ℕ) (d : Ref) → i < 1 → RefBytes (slice_index_or (directory ∷ []) i d) (slot (from_place b 512) i)
    one_ref zero d lt = first_slot (from_place b 512) directory p.directory_is
    one_ref (suc i) d lt = absurd (omega (arith, lt))

directory_is : IsInode root_inode
directory_is = record {
  links_fit = record { least = omega arith; last = omega arith };
  number_fits = record { least = omega arith; last = omega arith };
  size_fits = record { least = omega arith; last = omega arith };
  next_fits = record { least = omega arith; last = omega arith };
  name_fits = refl;
  body_fits = (refl, refl, record { held = all_none IsHeld; rising = omega arith; parts = all_none (IsPartOf Directory_kind 0) });
}

pfs_is : (directory : Ref) → IsHeld directory → IsPartOf Pfs_kind 0 directory → directory.key ≡ 1 → directory.keybits ≡ 0 → IsInode (pfs_over directory)
pfs_is directory held part key keybits = record {
  links_fit = record { least = omega arith; last = omega arith };
  number_fits = record { least = omega arith; last = omega arith };
  size_fits = record { least = omega arith; last = omega arith };
  next_fits = record { least = omega arith; last = omega arith };
  name_fits = record { some = omega arith; few = omega arith; bytes = letters };
  body_fits = (
    refl,
    refl,
    record {
      held = all_cons IsHeld directory [] held (all_none IsHeld);
      rising = (omega arith, let one : 2 ^ directory.keybits ≡ 1 = ap (λ n. 2 ^ n) keybits in omega (arith, key, one));
      parts = all_cons (IsPartOf Pfs_kind 0) directory [] part (all_none (IsPartOf Pfs_kind 0));
    },
  );
}

-- In an image

directory_held : (image : Places) → IsHeld (first_inode directory_place (xxh64_of (directory_block image) 1024))
directory_held image = record { valid = directory_valid image; something = λ e. cc }

directory_part : (check : ℕ) → IsPartOf Pfs_kind 0 (first_inode directory_place check)
directory_part check = record { part = inr refl; key_low = omega arith; key_high = omega arith }

new_blocks : (image : Places) (h : Header) (zones : ℕ) → IsNewVolume image h zones
    → HasNewBlocks image (first_inode pfs_place (xxh64_of (pfs_block image) 1024)) (first_inode directory_place (xxh64_of (directory_block image) 1024))
new_blocks image h zones v =
    let directory = first_inode directory_place (xxh64_of (directory_block image) 1024) in
    record {
      pfs_is = record {
        kind_is = refl;
        check_is = refl;
        inode = pfs_is directory (directory_held image) (directory_part (xxh64_of (directory_block image) 1024)) refl refl;
        bytes = pfs_bytes directory (pfs_block image) v.pfs;
        number_is = refl;
      };
      directory_is = record {
        kind_is = refl;
        check_is = refl;
        inode = directory_is;
        bytes = directory_bytes (directory_block image) v.directory;
        number_is = refl;
      };
    }

pub new_volume_stands : (image : Places) (h : Header) (zones : ℕ) → IsNewVolume image h zones → Stands image h.root h.next_pfs fresh
new_volume_stands image h zones v =
    subst (λ (g : Header). Stands image g.root g.next_pfs fresh) (sym v.header)
    (new_blocks_stand image pfs_place (xxh64_of (pfs_block image) 1024) directory_place (xxh64_of (directory_block image) 1024) (new_blocks image h zones v))
