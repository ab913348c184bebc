-- The format of a volume is lawful: what it says of blocks, headers and volumes depends on their bytes alone.
use Rattle.std.specs.Prelude.{◌≡◌, ◌<◌, ◌≤◌, ℕ, ◌+◌, ◌*◌, ◌++◌, List, [], length, codes, None, refl}
use Rattle.std.specs.List.{Contains}
use Rattle.std.proofs.Common.{ap, sym, subst, ◌∙◌, arith}
use Rattle.h2_num.specs.Places.{Places, from_place, SameBelow}
use Rattle.h2_num.specs.PlaceLaws.{number_same, zeros_same}
use Rattle.h2_check.specs.CrcLaws.{crc32c_of-same}
use Rattle.h2_check.specs.XxhLaws.{xxh64_of-same, xxh64_of-lt}
use Rattle.h2_ref.specs.declared.reference.Kind.TheVariants.{Inode}
use Rattle.h2_ref.specs.declared.reference.Check.TheVariants.{Crc, Xx}
use Rattle.h2_ref.specs.declared.reference.Ref.{Ref}
use Rattle.h2_ref.specs.Ref.{IsValid, size_of}
use Rattle.h2_ref.specs.RefLaws.{RefBytes-same}
use Rattle.h2_header.specs.declared.header.Header.{Header}
use Rattle.h2_header.specs.HeaderLaws.{IsHeaderAt-same, one_number}
use Rattle.h2_checkpoint.specs.Format.{Reach, by_root, by_child, SameReached, IsLawful}
use Rattle.h2_image.specs.NewBlocks.{InodeHead, RootDirectoryBytes, RootPfsBytes}
use Rattle.h2_image.specs.NewVolume.{directory_place, pfs_place, inode_ref, new_root, new_header, directory_block, pfs_block, IsNewVolume}
use Rattle.h2_image.specs.VolumeFormat.{IsInodeChild, IsSetChild, IsNodeChild, IsChild, in_inode, in_set, in_node, volume}
use Rattle.h2_image.specs.MapLaws.{small_size, set_size, codes_same}

inode_child_same : (r s : Ref) (a b : Places) → SameBelow (size_of r) a b → IsInodeChild r a s → IsInodeChild r b s
inode_child_same r s a b same c =
    let size : size_of r ≡ 1024 = small_size r c.radix in
    let below : SameBelow 1024 a b = λ k lt. same k (omega arith) in
    record {
      kind = c.kind;
      radix = c.radix;
      check = c.check ∙ ap Xx (sym (xxh64_of-same a b 1024 below));
      body = below 1 (omega arith) ∙ c.body;
      index = c.index;
      below = c.below;
      valid = c.valid;
      used = c.used;
      spelled = let lt : c.index < 4 = c.below in RefBytes-same s (from_place a (512 + 128 * c.index)) (from_place b (512 + 128 * c.index)) (λ k k_lt. below (512 + 128 * c.index + k) (omega arith)) c.spelled;
    }

set_child_same : (r s : Ref) (a b : Places) → SameBelow (size_of r) a b → IsSetChild r a s → IsSetChild r b s
set_child_same r s a b same c =
    let size : size_of r ≡ 4096 = set_size r c.radix in
    let below : SameBelow 4096 a b = λ k lt. same k (omega arith) in
    record {
      kind = c.kind;
      radix = c.radix;
      check = c.check ∙ ap Xx (sym (xxh64_of-same a b 4096 below));
      index = c.index;
      below = c.below;
      valid = c.valid;
      used = c.used;
      spelled = let lt : c.index < 32 = c.below in RefBytes-same s (from_place a (128 * c.index)) (from_place b (128 * c.index)) (λ k k_lt. below (128 * c.index + k) (omega arith)) c.spelled;
    }

node_child_same : (r s : Ref) (a b : Places) → SameBelow (size_of r) a b → IsNodeChild r a s → IsNodeChild r b s
node_child_same r s a b same c =
    let size : size_of r ≡ 1024 = small_size r c.radix in
    let below : SameBelow 1024 a b = λ k lt. same k (omega arith) in
    record {
      kind = c.kind;
      radix = c.radix;
      check = c.check ∙ ap Crc (sym (crc32c_of-same a b 1024 below));
      index = c.index;
      below = c.below;
      valid = c.valid;
      used = c.used;
      spelled = let lt : c.index < 8 = c.below in RefBytes-same s (from_place a (128 * c.index)) (from_place b (128 * c.index)) (λ k k_lt. below (128 * c.index + k) (omega arith)) c.spelled;
    }

child_same : (r s : Ref) (a b : Places) → SameBelow (size_of r) a b → IsChild r a s → IsChild r b s
child_same r s a b same (in_inode c) = in_inode (inode_child_same r s a b same c)
child_same r s a b same (in_set c) = in_set (set_child_same r s a b same c)
child_same r s a b same (in_node c) = in_node (node_child_same r s a b same c)

-- Blocks by their bytes alone

head_same : (kind number next : ℕ) (name : List ℕ) (a b : Places) → 48 + length name ≤ 512 → SameBelow 1024 a b → InodeHead kind number next name a → InodeHead kind number next name b
head_same kind number next name a b short same h = record {
  kind_is = same 0 (omega arith) ∙ h.kind_is;
  body = same 1 (omega arith) ∙ h.body;
  after_body = zeros_same 2 4 1024 a b (omega arith) same h.after_body;
  links = number_same 4 4 1024 a b (omega arith) same ∙ h.links;
  number_is = number_same 8 8 1024 a b (omega arith) same ∙ h.number_is;
  size = number_same 16 8 1024 a b (omega arith) same ∙ h.size;
  next_is = number_same 24 8 1024 a b (omega arith) same ∙ h.next_is;
  name_length = number_same 32 2 1024 a b (omega arith) same ∙ h.name_length;
  after_length = zeros_same 34 48 1024 a b (omega arith) same h.after_length;
  name_is = λ k lt. same (48 + k) (omega arith) ∙ h.name_is k lt;
  after_name = zeros_same (48 + length name) 512 1024 a b (omega arith) same h.after_name;
}

pub directory_same : (a b : Places) → SameBelow 1024 a b → RootDirectoryBytes a → RootDirectoryBytes b
directory_same a b same d = record { head = head_same 1 1 0 [] a b (omega arith) same d.head; no_entries = zeros_same 512 1024 1024 a b (omega arith) same d.no_entries }

pub pfs_same : (directory : Ref) (a b : Places) → SameBelow 1024 a b → RootPfsBytes directory a → RootPfsBytes directory b
pfs_same directory a b same p = record {
  head = head_same 3 1 2 (codes "ROOT") a b (omega arith) same p.head;
  directory_is = RefBytes-same directory (from_place a 512) (from_place b 512) (λ k lt. same (512 + k) (omega arith)) p.directory_is;
  no_more = zeros_same 640 1024 1024 a b (omega arith) same p.no_more;
}

-- A volume by its bytes alone

inode_ref_same : (place : ℕ) (a b : Places) → SameBelow 1024 a b → inode_ref place b ≡ inode_ref place a
inode_ref_same place a b same =
    ap (λ (n : ℕ). record { kind = Inode; key = 1; keybits = 0; place = place; radix = 10; id = 1; check = Xx n; dirent = None }) (xxh64_of-same a b 1024 same)

-- the header of a new volume depends on the bytes of its blocks alone
pub new_header_same : (zones : ℕ) (p q : Places) (map : List Ref) → SameBelow 1024 p q → new_header zones q map ≡ new_header zones p map
new_header_same zones p q map same = rw (inode_ref_same pfs_place p q same) refl

-- the PFS names the directory by its bytes alone
pub pfs_names_same : (a b p q : Places) → SameBelow 1024 a b → SameBelow 1024 p q → RootPfsBytes (inode_ref directory_place a) p → RootPfsBytes (inode_ref directory_place b) q
pfs_names_same a b p q same pfs h = subst (λ (r : Ref). RootPfsBytes r q) (sym (inode_ref_same directory_place a b same)) (pfs_same (inode_ref directory_place a) p q pfs h)

-- All its blocks are reached

-- all references in a header
abbrev pub roots_of : Header → List Ref
roots_of h = h.root ++ h.map

pub root_is : (image : Places) (h : Header) (zones : ℕ) → IsNewVolume image h zones → h.root ≡ new_root (pfs_block image)
root_is image h zones v = ap (λ (x : Header). x.root) v.header

pfs_reached : (image : Places) (h : Header) (zones : ℕ) → IsNewVolume image h zones → Reach volume image (roots_of h) (inode_ref pfs_place (pfs_block image))
pfs_reached image h zones v = by_root (inode_ref pfs_place (pfs_block image)) (subst (λ (root : List Ref). Contains (root ++ h.map) (inode_ref pfs_place (pfs_block image))) (sym (root_is image h zones v)) (0, omega arith, refl))

pub directory_valid : (image : Places) → IsValid (inode_ref directory_place (directory_block image))
directory_valid image = record {
  method = refl;
  stored = xxh64_of-lt (directory_block image) 1024;
  radix = refl;
  place = record { above = omega arith; below = omega arith; multiple = refl };
  key = record { keybits = refl; key = record { least = omega arith; last = omega arith }; multiple = refl };
  id = record { least = omega arith; last = omega arith };
  entry = tt;
}

directory_reached : (image : Places) (h : Header) (zones : ℕ) → IsNewVolume image h zones → Reach volume image (roots_of h) (inode_ref directory_place (directory_block image))
directory_reached image h zones v = by_child (inode_ref pfs_place (pfs_block image)) (inode_ref directory_place (directory_block image)) (pfs_reached image h zones v) (in_inode (record {
  kind = refl;
  radix = refl;
  check = refl;
  body = v.pfs.head.body;
  index = 0;
  below = omega arith;
  valid = directory_valid image;
  used = λ e. cc;
  spelled = v.pfs.directory_is;
}))

new_volume_same : (image other : Places) (h : Header) (zones : ℕ) → SameReached volume image (roots_of h) other → IsNewVolume image h zones → IsNewVolume other h zones
new_volume_same image other h zones same v =
    let directory : SameBelow 1024 (directory_block image) (directory_block other) = λ k lt. same (directory_place + k) (inode_ref directory_place (directory_block image), directory_reached image h zones v, (omega arith, omega arith)) in
    let pfs : SameBelow 1024 (pfs_block image) (pfs_block other) = λ k lt. same (pfs_place + k) (inode_ref pfs_place (pfs_block image), pfs_reached image h zones v, (omega arith, omega arith)) in
    record {
      count = v.count;
      header = v.header ∙ sym (new_header_same zones (pfs_block image) (pfs_block other) h.map pfs);
      directory = directory_same (directory_block image) (directory_block other) directory v.directory;
      pfs = pfs_names_same (directory_block image) (directory_block other) (pfs_block image) (pfs_block other) directory pfs v.pfs;
      map = codes_same image other h.root zones h.map same v.map;
    }

-- the format is lawful
pub volume_lawful : IsLawful volume
volume_lawful = record {
  child_local = λ r s a b same c. child_same r s a b same c;
  header_local = λ s h a b same at. IsHeaderAt-same s h a b same at;
  one_number = λ s g h b at other. one_number s s g h b at other;
  header_counts = λ s h b at. at.valid.ranges.number_low;
  stands_local = λ h zones a b same v. new_volume_same a b h zones same v;
}
