-- Bytes that leave the inode of a file for its blocks.
use Rattle.std.proofs.Common.{◌≡◌, ℕ, ◌^◌, ◌≤◌, true, false, arith, refl, sym, ◌∙◌, ap, List, [], ◌∷◌, length, Some, inl, inr, slice_get, slice_index, suc, zero}
use Rattle.std.proofs.lemmas.Bool.{cases_lt}
use Rattle.h2_ref.specs.declared.reference.Ref.{Ref}
use Rattle.h2_set.specs.Ranges.{holds}
use Rattle.h2_set.specs.PathLaws.{in_holds}
use Rattle.h2_file.specs.Linking.{IsBlock}
use Rattle.h2_file.specs.FileContents.{CoversBytes}

past_end : (xs : List ℕ) (k : ℕ) → length xs ≤ k → slice_index xs k ≡ 0
past_end [] k le = refl
past_end (x ∷ xs) zero le = absurd (omega (arith, le))
past_end (x ∷ xs) (suc k) le = past_end xs k (omega (arith, le))

-- block 0 has the places of all bytes that may stand in an inode
pub zero_covers : (rs : List Ref) (bytes : List ℕ) (i : ℕ) (r : Ref) → slice_get rs i ≡ Some r → IsBlock r → r.key ≡ 0 → length bytes ≤ 512 → CoversBytes rs bytes
zero_covers rs bytes i r read is key few k none = elim (cases_lt k (length bytes)) as (λ _. slice_index bytes k ≡ 0) [
  | inr le ↦ past_end bytes k le
  | inl lt ↦
      let long : 2 ^ r.keybits ≡ 16384 = ap (λ n. 2 ^ n) is.keybits in
      let in_r : holds k r ≡ true = in_holds k r (omega (arith, key)) (omega (arith, key, lt, few, long)) in
      absurd (let clash : true ≡ false = sym in_r ∙ none i r read in cc)
]

-- and where there are none, every block has them
pub none_covers : (rs : List Ref) (bytes : List ℕ) → length bytes ≡ 0 → CoversBytes rs bytes
none_covers rs bytes none k miss = past_end bytes k (omega (arith, none))
