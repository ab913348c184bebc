-- What a file stands for when a block of it is read, and after a cut.
use Rattle.std.proofs.Common.{◌≡◌, ℕ, ◌+◌, ◌*◌, ◌/◌, ◌%◌, ◌<◌, ◌≤◌, ◌^◌, Bool, true, false, arith, refl, sym, ◌∙◌, ap, List, [], ◌∷◌, length, Option, Some, None, subst, inl, inr, nat_lt, nat_eq, cond, suc, zero, Result, Ok, Err}
use Rattle.std.specs.Prelude.{All, IfSome, IfOk, slice_index, slice_index_or}
use Rattle.std.proofs.lemmas.Bool.{cases_lt}
use Rattle.std.proofs.lemmas.Bool.Decides.{nat_tests}
use Rattle.std.proofs.lemmas.Option.{none-some}
use Rattle.h2_num.specs.Places.{Places}
use Rattle.h2_ref.specs.declared.reference.Ref.{Ref}
use Rattle.h2_set.specs.Ranges.{holds, find}
use Rattle.h2_set.specs.Forest.{Forest, LeavesOf}
use Rattle.h2_set.specs.LeafLaws.{holds_inside, leaves_rising}
use Rattle.h2_inode.specs.Nodes.{Fields, Told}
use Rattle.h2_set.specs.PathLaws.{in_holds}
use Rattle.h2_inode.specs.Access.{Access}
use Rattle.h2_inode.specs.Contents.{IsPart}
use Rattle.h2_inode.specs.Loaded.{at_root}
use Rattle.h2_contents.specs.Bytes.{cut_to as bytes_to}
use Rattle.h2_contents.specs.ByteLaws.{byte_cut, length-cut_to}
use Rattle.h2_file.specs.Cutting.{cut_block, IsCutBlock, in_place, cut_to, CutsFile}
use Rattle.h2_file.specs.FileContents.{file_reading, FileHas, blocks_alone, IsBlockOf, EndsIn}
use Rattle.h2_file.proofs.Parts.{cut_key, cut_one, cut_gone}

pub all_head : {X : Type 0} (P : X → Type 0) (x : X) (xs : List X) → All P (x ∷ xs) → P x
all_head P x xs h = h 0 x (omega arith)

pub all_tail : {X : Type 0} (P : X → Type 0) (x : X) (xs : List X) → All P (x ∷ xs) → All P xs
all_tail P x xs h = λ k d lt. h (suc k) d (omega (arith, lt))

all_cons : {X : Type 0} (P : X → Type 0) (x : X) (xs : List X) → P x → All P xs → All P (x ∷ xs)
all_cons {X} P x xs p h = by
  where
    by : (k : ℕ) (d : X) → k < length (x ∷ xs) → P (slice_index_or (x ∷ xs) k d)
    by zero d lt = p
    by (suc k) d lt = h k d (omega (arith, lt))

-- A block that is read

found_part : (P : Ref → Type 0) (key : ℕ) (l : List Ref) (r : Ref) → All P l → find key l ≡ Some r → P r × (holds key r ≡ true)
found_part P key [] r all e = absurd (none-some r e)
found_part P key (x ∷ l) r all e = by (holds key x) refl e (λ e'. found_part P key l r (all_tail P x l all) e')
  where
    by : (b : Bool) → holds key x ≡ b → cond b (Some x) (find key l) ≡ Some r → (find key l ≡ Some r → P r × (holds key r ≡ true)) → P r × (holds key r ≡ true)
    by true in_x e' ih = let it : x ≡ r = (cc) in subst (λ (y : Ref). P y × (holds key y ≡ true)) it (all_head P x l all, in_x)
    by false in_x e' ih = ih e'

-- a block that has one place of 16384 in a row has each of them
part_has : (a : Access) (t : a.Tree) (size : ℕ) (bytes : List ℕ) (r : Ref) (start k : ℕ) → IsPart a t size bytes r → k / 16384 ≡ start / 16384 → holds k r ≡ true → holds start r ≡ true
part_has a t size bytes r start k part same in_r =
    let inside = holds_inside k r in_r in
    let bits = part.keybits_are in
    let aligned : r.key % 16384 ≡ 0 = part.aligned in
    let long : 2 ^ r.keybits ≡ 16384 = ap (λ n. 2 ^ n) bits in
    in_holds start r (omega (arith, aligned, same, inside.0, inside.1, long)) (omega (arith, aligned, same, inside.0, inside.1, long))

no_part : (a : Access) (t : a.Tree) (size : ℕ) (bytes : List ℕ) (start k : ℕ) (l : List Ref) → All (IsPart a t size bytes) l → k / 16384 ≡ start / 16384 → find start l ≡ None → find k l ≡ None
no_part a t size bytes start k [] all same none = refl
no_part a t size bytes start k (x ∷ l) all same none = by (holds start x) refl none (holds k x) refl (no_part a t size bytes start k l (all_tail (IsPart a t size bytes) x l all) same)
  where
    by : (b : Bool) → holds start x ≡ b → cond b (Some x) (find start l) ≡ None → (d : Bool) → holds k x ≡ d → (find start l ≡ None → find k l ≡ None) → cond d (Some x) (find k l) ≡ None
    by true in_x e d in_k more = absurd (none-some x (sym e))
    by false out e true in_k more = absurd (let clash : true ≡ false = sym (part_has a t size bytes x start k (all_head (IsPart a t size bytes) x l all) same in_k) ∙ out in cc)
    by false out e false in_k more = more e

-- a part of a file, by its block's bytes alone
part_bytes : (a : Access) (t : a.Tree) (blocks : Ref → Option Places) (size : ℕ) (bytes : List ℕ) (r : Ref) → ((block : Places) → a.ContentOf t r block → blocks r ≡ Some block) → IsPart a t size bytes r → IsPart (blocks_alone blocks) tt size bytes r
part_bytes a t blocks size bytes r known h = record {
  kind_is = h.kind_is;
  keybits_are = h.keybits_are;
  aligned = h.aligned;
  below_size = h.below_size;
  block = h.block;
  read = known h.block h.read;
  bytes_are = h.bytes_are;
}

pub reads : (f : Forest) (inodes : ℕ → Option Fields) (tells : Ref → Option Told) (blocks : Ref → Option Places) (at size : ℕ) (bytes : List ℕ) (start : ℕ) (o : Option Ref) → ((l : List Ref) → LeavesOf f at l → o ≡ find start l) → FileHas f inodes tells blocks at size bytes → IsBlockOf blocks size bytes start o
reads f inodes tells blocks at size bytes start None found has = λ k same. has.holes k (no_part (file_reading f inodes tells blocks) (at_root at) size bytes start k has.leaves has.parts same (sym (found has.leaves has.has.read)))
reads f inodes tells blocks at size bytes start (Some r) found has =
    let it = found_part (IsPart (file_reading f inodes tells blocks) (at_root at) size bytes) start has.leaves r has.parts (sym (found has.leaves has.has.read)) in
    (part_bytes (file_reading f inodes tells blocks) (at_root at) blocks size bytes r (λ block read. read) it.0, it.1)

-- A cut

below_start : (key size : ℕ) → key % 16384 ≡ 0 → key < size → size < key + 16384 → key ≡ 16384 * (size / 16384)
below_start key size aligned low high = omega (arith, aligned, low, high)

cond_true : (i n x : ℕ) → i < n → cond (nat_lt i n) x 0 ≡ x
cond_true i n x h = grind (arith, nat_tests)

cond_false : (i n x : ℕ) → n ≤ i → cond (nat_lt i n) x 0 ≡ 0
cond_false i n x h = grind (arith, nat_tests)

module _ (f g : Forest) (holds_f holds_g : ℕ → Option Fields) (tells_f tells_g : Ref → Option Told) (blocks : Ref → Option Places) (at old size : ℕ) (bytes : List ℕ) (last : Option Ref) (is : IfSome last (IsCutBlock size)) (ends : EndsIn blocks size bytes last) where
  abbrev Was : Ref → Type 0
  Was = IsPart (file_reading f holds_f tells_f blocks) (at_root at) old bytes

  abbrev Now : Ref → Type 0
  Now = IsPart (file_reading g holds_g tells_g blocks) (at_root at) size (bytes_to bytes size)

  -- a block that stays has the bytes up to the size, where those behind are zeros
  kept_part : (r : Ref) → Was r → r.key < size → ((k : ℕ) → size ≤ k → k < r.key + 16384 → slice_index bytes k ≡ 0) → Now r
  kept_part r part low zeros = record {
    kind_is = part.kind_is;
    keybits_are = part.keybits_are;
    aligned = part.aligned;
    below_size = low;
    block = part.block;
    read = part.read;
    bytes_are = λ k short.
        elim (cases_lt (r.key + k) size) as (λ _. (let b = part.block in b k) ≡ slice_index (bytes_to bytes size) (r.key + k)) [
          | inl lt ↦ part.bytes_are k short ∙ sym (byte_cut bytes size (r.key + k) ∙ cond_true (r.key + k) size (slice_index bytes (r.key + k)) lt)
          | inr ge ↦ part.bytes_are k short ∙ (zeros (r.key + k) ge (omega (arith, short)) ∙ sym (byte_cut bytes size (r.key + k) ∙ cond_false (r.key + k) size (slice_index bytes (r.key + k)) ge))
        ];
  }

  put_part : (q : Ref) → last ≡ Some q → IsCutBlock size q → Now q
  put_part q e it =
      let here = ends.put q e in
      let bits = it.keybits in
      let aligned : q.key % 16384 ≡ 0 = (let a = it.aligned in rw bits at a) in
      record {
        kind_is = it.kind;
        keybits_are = it.keybits;
        aligned = aligned;
        below_size = it.low;
        block = here.0;
        read = here.1;
        bytes_are = here.2;
      }

  part_after : (last' : Option Ref) → last ≡ last' → IfSome last' (IsCutBlock size) → (r : Ref) → Was r → r.key < size → Now (in_place last' r)
  part_after None e it r part low = kept_part r part low (λ k from to.
      let start = below_start r.key size part.aligned low (omega (arith, from, to)) in
      elim (cases_lt (cut_block size) size) as (λ _. slice_index bytes k ≡ 0) [
        | inl less ↦ ends.zeros e k less from (omega (arith, start, to))
        | inr le ↦ absurd (omega (arith, start, le, low))
      ])
  part_after (Some q) e it r part low = by (nat_eq r.key q.key) refl
    where
      by : (b : Bool) → nat_eq r.key q.key ≡ b → Now (cond b q r)
      by true same = put_part q e it
      by false differs = kept_part r part low (λ k from to.
          let start = below_start r.key size part.aligned low (omega (arith, from, to)) in
          let key = cut_key size q it in
          let same : nat_eq r.key q.key ≡ true = (let eq : r.key ≡ q.key = omega (arith, start, key) in grind (arith, nat_tests)) in
          absurd (let clash : true ≡ false = sym same ∙ differs in cc))

  parts_after : (l : List Ref) → All Was l → All Now (cut_to size last l)
  parts_after [] all = λ k d lt. absurd (omega (arith, lt))
  parts_after (r ∷ l) all = elim (cases_lt r.key size) as (λ _. All Now (cut_to size last (r ∷ l))) [
    | inl lt ↦ subst (All Now) (sym (cut_one size last r l lt)) (all_cons Now (in_place last r) (cut_to size last l) (part_after last refl is r (all_head Was r l all) lt) (parts_after l (all_tail Was r l all)))
    | inr ge ↦ subst (All Now) (sym (cut_gone size last r l ge)) (parts_after l (all_tail Was r l all))
  ]

  -- the reference in place has the same range
  same_range : (last' : Option Ref) → IfSome last' (IsCutBlock size) → (r : Ref) → Was r → (key : ℕ) → holds key (in_place last' r) ≡ holds key r
  same_range None it r part key = refl
  same_range (Some q) it r part key = by (nat_eq r.key q.key) refl
    where
      by : (b : Bool) → nat_eq r.key q.key ≡ b → holds key (cond b q r) ≡ holds key r
      by true same =
          let k : q.key ≡ r.key = (let e = same in grind (arith, nat_tests)) in
          let b : q.keybits ≡ r.keybits = it.keybits ∙ sym part.keybits_are in
          rw (k, b) refl
      by false differs = refl

  hole_before : (l : List Ref) → All Was l → (key : ℕ) → key < size → find key (cut_to size last l) ≡ None → find key l ≡ None
  hole_before [] all key lt e = refl
  hole_before (r ∷ l) all key lt e = by (holds key r) refl (λ e'. hole_before l (all_tail Was r l all) key lt e')
    where
      step : (b : Bool) → holds key (in_place last r) ≡ b → cond b (Some (in_place last r)) (find key (cut_to size last l)) ≡ None → (b ≡ false) × (find key (cut_to size last l) ≡ None)
      step true in_r e' = absurd (none-some (in_place last r) (sym e'))
      step false in_r e' = (refl, e')

      by : (b : Bool) → holds key r ≡ b → (find key (cut_to size last l) ≡ None → find key l ≡ None) → cond b (Some r) (find key l) ≡ None
      by true in_r ih =
          let inside = holds_inside key r in_r in
          let kept : find key (in_place last r ∷ cut_to size last l) ≡ None = ap (find key) (sym (cut_one size last r l (omega (arith, inside.0, lt)))) ∙ e in
          let it = step (holds key (in_place last r)) refl kept in
          absurd (let clash : true ≡ false = sym in_r ∙ (sym (same_range last is r (all_head Was r l all) key) ∙ it.0) in cc)
      by false in_r ih = elim (cases_lt r.key size) as (λ _. find key l ≡ None) [
        | inl less ↦
            let kept : find key (in_place last r ∷ cut_to size last l) ≡ None = ap (find key) (sym (cut_one size last r l less)) ∙ e in
            ih ((step (holds key (in_place last r)) refl kept).1)
        | inr ge ↦ ih (ap (find key) (sym (cut_gone size last r l ge)) ∙ e)
      ]

  pub cut_has : CutsFile f g at size last → FileHas f holds_f tells_f blocks at old bytes → FileHas g holds_g tells_g blocks at size (bytes_to bytes size)
  cut_has cuts has =
      let leaves : LeavesOf g at (cut_to size last has.leaves) = cuts.leaves has.leaves has.has.read in
      record {
        leaves = cut_to size last has.leaves;
        has = record { read = leaves; ordered = leaves_rising leaves 0 (2 ^ 64) (cuts.sound.node at cuts.place.stands).set.rising };
        parts = parts_after has.leaves has.parts;
        holes = λ key e. elim (cases_lt key size) as (λ _. slice_index (bytes_to bytes size) key ≡ 0) [
          | inl lt ↦ byte_cut bytes size key ∙ (cond_true key size (slice_index bytes key) lt ∙ has.holes key (hole_before has.leaves has.parts key lt e))
          | inr ge ↦ byte_cut bytes size key ∙ cond_false key size (slice_index bytes key) ge
        ];
        sized = length-cut_to bytes size;
      }

pub reads_ok : {E : Type 0} (f : Forest) (inodes : ℕ → Option Fields) (tells : Ref → Option Told) (blocks : Ref → Option Places) (at size : ℕ) (bytes : List ℕ) (start : ℕ) (result : Result (Option Ref) E) → IfOk result (λ o. (l : List Ref) → LeavesOf f at l → o ≡ find start l) → FileHas f inodes tells blocks at size bytes → IfOk result (IsBlockOf blocks size bytes start)
reads_ok f inodes tells blocks at size bytes start (Ok o) found has = reads f inodes tells blocks at size bytes start o found has
reads_ok f inodes tells blocks at size bytes start (Err e) found has = tt
