-- The bytes of references one after the other.
use Rattle.std.specs.Prelude.{◌≡◌, ◌<◌, ◌+◌, ◌*◌, ◌/◌, ◌%◌, List, length, slice_index_or, All}
use Rattle.std.proofs.Common.{ap, sym, ◌∙◌, arith}
use Rattle.std.proofs.lemmas.List.{ext_get_or}
use Rattle.h2_num.specs.Places.{Places, AreBytes, from_place, SameBelow}
use Rattle.h2_ref.specs.declared.reference.Ref.{Ref}
use Rattle.h2_ref.specs.Ref.{empty_ref, IsValid}
use Rattle.h2_ref.specs.RefLaws.{RefBytes-same}
use Rattle.h2_ref.specs.Spelling.{one_spelling, one_value}
use Rattle.h2_ref.specs.Set.{RefsBytes}

-- the bytes of references are seen by their places alone
pub RefsBytes-same : (refs : List Ref) (a b : Places) → SameBelow (128 * length refs) a b → RefsBytes refs a → RefsBytes refs b
RefsBytes-same refs a b same h i d lt =
    RefBytes-same (slice_index_or refs i d) (from_place a (128 * i)) (from_place b (128 * i)) (λ k k_lt. same (128 * i + k) (omega arith)) (h i d lt)

-- references have one spelling
pub refs_spelling : (refs : List Ref) (a b : Places) → AreBytes a → AreBytes b → RefsBytes refs a → RefsBytes refs b → SameBelow (128 * length refs) a b
refs_spelling refs a b fa fb p q k lt =
    let i = k / 128 in
    let inside : i < length refs = omega arith in
    let whole : k ≡ 128 * i + k % 128 = omega arith in
    let one = one_spelling (slice_index_or refs i empty_ref) (from_place a (128 * i)) (from_place b (128 * i)) (λ j. fa (128 * i + j)) (λ j. fb (128 * i + j)) (p i empty_ref inside) (q i empty_ref inside) (k % 128) (omega arith) in
    ap b whole ∙ one ∙ sym (ap a whole)

-- bytes spell one list of so many valid references at most
pub refs_one : (rs ss : List Ref) (b : Places) → length ss ≡ length rs → All IsValid rs → All IsValid ss → RefsBytes rs b → RefsBytes ss b → ss ≡ rs
refs_one rs ss b len valid_r valid_s p q = ext_get_or empty_ref ss rs len (λ i lt.
    let inside : i < length rs = omega arith in
    one_value (slice_index_or rs i empty_ref) (slice_index_or ss i empty_ref) (from_place b (128 * i)) (valid_r i empty_ref inside) (valid_s i empty_ref lt) (p i empty_ref inside) (q i empty_ref lt))
