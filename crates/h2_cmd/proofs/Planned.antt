-- The pieces of a new volume, put together.
use Rattle.std.proofs.Common.{◌≡◌, ℕ, List, [], ◌∷◌, ◌++◌, length, refl, subst, ap, ◌∙◌}
use Rattle.std.specs.Prelude.{map}
use Rattle.h2_num.specs.Places.{places}
use Rattle.h2_codes.specs.declared.code.Code.{Code}
use Rattle.h2_ref.specs.declared.reference.Ref.{Ref}
use Rattle.h2_ref.specs.Ref.{empty_ref}
use Rattle.h2_geom.specs.Geometry.{IsZoneCount}
use Rattle.h2_freeleaf.specs.Plan.{IsPlan}
use Rattle.h2_checkpoint.specs.declared.piece.Piece.{Piece}
use Rattle.h2_image.specs.NewBlocks.{RootDirectoryBytes, RootPfsBytes}
use Rattle.h2_image.specs.NewVolume.{directory_place, pfs_place, inode_ref, AreNewSegments}
use Rattle.h2_cmd.specs.Planning.{inode_pieces, piece_of, AreInodes, IsPlanned}

-- two blocks that are added at the places of the inodes
pub two_pieces : (pieces : List Piece) (first second : ℕ) (a b : List ℕ) → first ≡ directory_place → second ≡ pfs_place → pieces ≡ ([] ++ record { at = first; bytes = a } ∷ []) ++ record { at = second; bytes = b } ∷ [] → pieces ≡ inode_pieces a b
two_pieces pieces first second a b first_is second_is is =
    is ∙ ap (λ (x : ℕ). record { at = x; bytes = a } ∷ record { at = second; bytes = b } ∷ []) first_is ∙ ap (λ (x : ℕ). record { at = directory_place; bytes = a } ∷ record { at = x; bytes = b } ∷ []) second_is

pub inodes_planned : (first : ℕ) (a b : List ℕ) → first ≡ directory_place → length a ≡ 1024 → length b ≡ 1024 → RootDirectoryBytes (places a) → RootPfsBytes (inode_ref first (places a)) (places b) → AreInodes a b
inodes_planned first a b first_is long_a long_b directory pfs = record {
  directory_long = long_a;
  pfs_long = long_b;
  directory_is = directory;
  pfs_is = subst (λ (place : ℕ). RootPfsBytes (inode_ref place (places a)) (places b)) first_is pfs;
}

pub volume_planned : (zones n : ℕ) (first pieces : List Piece) (segments : List (List Code)) (writes : List (ℕ × List ℕ)) (top : List Ref) (directory pfs : List ℕ) (r e f g : Ref) → IsZoneCount zones → n ≡ zones
    → AreNewSegments n segments → IsPlan n 1 segments writes top → AreInodes directory pfs → first ≡ inode_pieces directory pfs → pieces ≡ first ++ map piece_of writes
    → r ≡ inode_ref pfs_place (places pfs) → e ≡ empty_ref → f ≡ empty_ref → g ≡ empty_ref
    → IsPlanned zones pieces (record { number = 1; zones = zones; map_number = 1; next_pfs = 2; root = r ∷ e ∷ f ∷ g ∷ []; map = top })
volume_planned zones n first pieces segments writes top directory pfs r e f g count zones_are new planned inodes first_is pieces_are r_is e_is f_is g_is = record {
  zone_count = count;
  directory = directory;
  pfs = pfs;
  inodes = inodes;
  segments = segments;
  are_new = subst (λ (z : ℕ). AreNewSegments z segments) zones_are new;
  writes = writes;
  first_copy = subst (λ (z : ℕ). IsPlan z 1 segments writes top) zones_are planned;
  pieces_are = pieces_are ∙ ap (λ (xs : List Piece). xs ++ map piece_of writes) first_is;
  header = rw (r_is, e_is, f_is, g_is) refl;
}
