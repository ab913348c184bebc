use Rattle.std.proofs.Common.{◌≡◌, ◌<◌, ◌≤◌, ◌+◌, ℕ, Bool, true, false, [], ◌∷◌, Option, Some, None, refl, arith, ap, sym, inl, inr, if◌then◌else◌}
use Rattle.std.specs.Prelude.{slice_index}
use Rattle.std.proofs.lemmas.Option.{none-some}
use Rattle.std.proofs.lemmas.List.{get_or_past}
use Rattle.h2_num.specs.Places.{Places, places}
use Rattle.h2_ref.specs.declared.reference.Ref.{Ref}
use Rattle.h2_set.specs.Ranges.{holds, find}
use Rattle.h2_set.specs.LeafLaws.{holds_outside}
use Rattle.h2_set.specs.Forest.{done, one}
use Rattle.h2_inode.specs.Nodes.{Fields, Told}
use Rattle.h2_inode.specs.Contents.{IsPart}
use Rattle.h2_inode.specs.Loaded.{at_root}
use Rattle.h2_file.specs.FileContents.{file_reading, FileHas}
use Rattle.h2_worked_rows.specs.Refs.{block_at}
use Rattle.h2_worked_rows.specs.Trees.{two_roots}
use Rattle.h2_worked_rows.proofs.Lists.{all_one}
use Rattle.h2_worked_rows.proofs.trees.worked_file_law.Goals as goal

abbrev nine : Ref → Option Places
nine r = Some (places (9 ∷ []))

out_of_range : (k : ℕ) (b : Bool) → holds k (block_at 0) ≡ b → (if b then Some (block_at 0) else None) ≡ None → holds k (block_at 0) ≡ false
out_of_range k true h e = absurd (none-some (block_at 0) (sym e))
out_of_range k false h e = h

holes : (k : ℕ) → find k (block_at 0 ∷ []) ≡ None → slice_index (9 ∷ []) k ≡ 0
holes k none = elim (holds_outside k (block_at 0) (out_of_range k (holds k (block_at 0)) refl none)) [
  | inl low ↦ absurd (omega (arith, low))
  | inr high ↦ let past : 16384 ≤ k = high in get_or_past (9 ∷ []) k 0 (let le : 1 ≤ k = omega arith in le)
]

file : (inodes : ℕ → Option Fields) (tells : Ref → Option Told) → FileHas two_roots inodes tells nine 1 1 (9 ∷ [])
file inodes tells = record {
  leaves = block_at 0 ∷ [];
  has = record { read = one refl done; ordered = (omega arith, omega arith) };
  parts = all_one (IsPart (file_reading two_roots inodes tells nine) (at_root 1) 1 (9 ∷ [])) (block_at 0) (record {
    kind_is = refl;
    keybits_are = refl;
    aligned = refl;
    below_size = let lt : 0 < 1 = omega arith in lt;
    block = places (9 ∷ []);
    read = refl;
    bytes_are = λ k lt. let at : k ≡ 0 + k = omega arith in ap (slice_index (9 ∷ [])) at;
  });
  holes = holes;
  sized = refl;
}

pub returns : goal.returns
returns c = record {
  file = file;
  not_longer = λ inodes tells h. absurd (let e : 1 ≡ 2 = h.sized in omega arith);
}
