-- The blocks of a write are what the file with the written bytes asks for.
use Rattle.std.specs.Prelude.{◌≡◌, ◌⊎◌, ℕ, ◌+◌, ◌*◌, ◌/◌, ◌%◌, ◌^◌, ◌<◌, ◌≤◌, max, true, false, List, length, Option, Some, None, slice_get, slice_index, refl}
use Rattle.std.proofs.Common.{ap, sym, ◌∙◌, arith, inl, inr}
use Rattle.std.proofs.lemmas.Bool.{cases_lt}
use Rattle.std.proofs.lemmas.Bool.Decides.{nat_tests}
use Rattle.h2_num.specs.Places.{Places, places}
use Rattle.h2_ref.specs.declared.reference.Ref.{Ref}
use Rattle.h2_set.specs.LeafLaws.{holds_inside}
use Rattle.h2_set.specs.PathLaws.{in_holds}
use Rattle.h2_set.specs.Ranges.{holds, NoneHolds}
use Rattle.h2_contents.specs.Bytes.{written_at}
use Rattle.h2_contents.specs.ByteLaws.{byte_written, length-written_at}
use Rattle.h2_contents.specs.Windows.{laid}
use Rattle.h2_file.specs.declared.blocks.Touched.{Touched}
use Rattle.h2_file.specs.Touching.{IsEmbedded, Touches, IsTouched, TouchesBlocks}
use Rattle.h2_file.specs.Linking.{AreBlocks}
use Rattle.h2_file.specs.FileContents.{IsBlockOf, LinksBytes, CoversBytes}
use Rattle.h2_file.specs.Writing.{IsPut, AreOfTouched, IsMerged, ReadsBlock}
use Rattle.h2_file.proofs.Lifted.{zero_covers, none_covers}

own_block : (key start bits : ℕ) → bits ≡ 16384 → key % 16384 ≡ 0 → key ≤ start → start < key + bits → key ≡ 16384 * (start / 16384)
own_block key start bits long aligned low high = omega (arith, long, aligned, low, high)

place_in : (start k : ℕ) → k < 16384 → (16384 * (start / 16384) + k) / 16384 ≡ start / 16384
place_in start k lt = omega (arith, lt)

-- what was found for a place
pub read_whole : (blocks : Ref → Option Places) (size : ℕ) (bytes : List ℕ) (start : ℕ) (found : Option Ref)
    → IsBlockOf blocks size bytes start found → ReadsBlock blocks bytes start found
read_whole blocks size bytes start None zeros = λ k lt. sym (zeros (16384 * (start / 16384) + k) (place_in start k lt))
read_whole blocks size bytes start (Some r) (part, in_r) =
    let inside = holds_inside start r in_r in
    let long : 2 ^ r.keybits ≡ 16384 = ap (λ n. 2 ^ n) part.keybits_are in
    (own_block r.key start (2 ^ r.keybits) long part.aligned inside.0 inside.1, (part.block, part.read, part.bytes_are))

outside_laid : (off : ℕ) (written : List ℕ) (k x : ℕ) → (k < off) ⊎ (off + length written ≤ k) → laid off written k x ≡ x
outside_laid off written k x (inl h) = grind (arith, nat_tests)
outside_laid off written k x (inr h) = grind (arith, nat_tests)

-- the blocks of a write that touches some
touches_some : (size off len : ℕ) (t : Touched) → IsTouched size off len t → (IsEmbedded (max size (off + len)) → ⊥) → TouchesBlocks size off len t
touches_some size off len t (inl none) long = absurd (long none.0)
touches_some size off len t (inr some) long = some.1

module _ (t : Touched) (rs : List Ref) (of : AreOfTouched t rs) (are : AreBlocks rs) where
  -- a block that is put has all its places
  put_has : (b k : ℕ) → IsPut t b → 16384 * b ≤ k → k < 16384 * b + 16384 → NoneHolds k rs → ⊥
  put_has b k put low high none =
      let it = of.all b put in
      let r = it.1 in
      let read = it.2 in
      let key : r.key ≡ 16384 * b = it.3 in
      let long : 2 ^ r.keybits ≡ 16384 = ap (λ n. 2 ^ n) (are.each it.0 r read).keybits in
      let in_r : holds k r ≡ true = in_holds k r (omega (arith, key, low)) (omega (arith, key, high, long)) in
      let clash : true ≡ false = sym in_r ∙ none it.0 r read in
      absurd (cc)

module _ (blocks : Ref → Option Places) (t : Touched) (rs : List Ref) (bytes written : List ℕ) (off : ℕ) (any : 0 < length written) (touched : IsTouched (length bytes) off (length written) t) (long : IsEmbedded (max (length bytes) (off + length written)) → ⊥) (are : AreBlocks rs) (of : AreOfTouched t rs) (merged : (i : ℕ) (r : Ref) → slice_get rs i ≡ Some r → IsMerged blocks bytes off written r) where
  some : TouchesBlocks (length bytes) off (length written) t
  some = touches_some (length bytes) off (length written) t touched long

  below_by : (r : Ref) (b : ℕ) → r.key ≡ 16384 * b → IsPut t b → r.key < max (length bytes) (off + length written)
  below_by r b key (inl range) =
      let touches : Touches off (length written) b = (some.blocks b).1 range in
      omega (arith, key, touches.1)
  below_by r b key (inr (lift, is)) = elim (cases_lt 512 (max (length bytes) (off + length written))) as (λ _. r.key < max (length bytes) (off + length written)) [
    | inl more ↦ omega (arith, key, is, more)
    | inr few ↦ absurd (long few)
  ]

  same_by : (k : ℕ) → NoneHolds k rs → slice_index (written_at bytes off written) k ≡ slice_index bytes k
  same_by k none = byte_written bytes off written k ∙ elim (cases_lt k off) as (λ _. laid off written k (slice_index bytes k) ≡ slice_index bytes k) [
    | inl lt ↦ outside_laid off written k (slice_index bytes k) (inl lt)
    | inr ge ↦ elim (cases_lt k (off + length written)) as (λ _. laid off written k (slice_index bytes k) ≡ slice_index bytes k) [
      | inr far ↦ outside_laid off written k (slice_index bytes k) (inr far)
      | inl lt ↦
          let touches : Touches off (length written) (k / 16384) = (omega (arith, ge, lt), omega (arith, ge, lt)) in
          absurd (put_has t rs of are (k / 16384) k (inl ((some.blocks (k / 16384)).0 touches)) (omega arith) (omega arith) none)
    ]
  ]

  put_by : (i : ℕ) (r : Ref) → slice_get rs i ≡ Some r → (block : Places) × (blocks r ≡ Some block) × ((k : ℕ) → k < 16384 → block k ≡ slice_index (written_at bytes off written) (r.key + k))
  put_by i r read =
      let it = merged i r read in
      let was = it.was in (
        places it.after,
        it.known,
        λ k lt.
            let long : length it.after ≡ 16384 = it.long in
            it.laid k (omega (arith, long, lt)) ∙ (ap (λ x. laid off written (r.key + k) x) (was k lt) ∙ sym (byte_written bytes off written (r.key + k))),
      )

  pub written_links : LinksBytes blocks rs (max (length bytes) (off + length written)) bytes (written_at bytes off written)
  written_links = record {
    sized = length-written_at bytes off written any;
    grows = omega arith;
    below = λ i r read. let it = of.each i r read in below_by r it.0 it.1 it.2;
    put = put_by;
    same = same_by;
  }

-- bytes that leave the inode
module _ (t : Touched) (rs : List Ref) (bytes : List ℕ) (off len : ℕ) (touched : IsTouched (length bytes) off len t) (long : IsEmbedded (max (length bytes) (off + len)) → ⊥) (are : AreBlocks rs) (of : AreOfTouched t rs) (few : length bytes ≤ 512) where
  blocks_are : TouchesBlocks (length bytes) off len t
  blocks_are = touches_some (length bytes) off len t touched long

  zero_by : IsPut t 0 → CoversBytes rs bytes
  zero_by put =
      let it = of.all 0 put in
      zero_covers rs bytes it.0 it.1 it.2 (are.each it.0 it.1 it.2) it.3 few

  pub written_covers : CoversBytes rs bytes
  written_covers = elim (cases_lt 0 (length bytes)) as (λ _. CoversBytes rs bytes) [
    | inr none ↦ none_covers rs bytes (omega (arith, none))
    | inl some ↦ elim (cases_lt off 16384) as (λ _. CoversBytes rs bytes) [
      | inr behind ↦ zero_by (inr ((blocks_are.lift).1 ((some, few), λ touches. let near : off < 16384 * (0 + 1) = touches.0 in absurd (omega (arith, near, behind))), refl))
      | inl near ↦ elim (cases_lt 0 (off + len)) as (λ _. CoversBytes rs bytes) [
        | inl ends ↦ zero_by (inl ((blocks_are.blocks 0).0 (omega (arith, near), omega (arith, ends))))
        | inr empty ↦ absurd (long (omega (arith, few, empty)))
      ]
    ]
  ]
