-- Lists of pinned blocks.
use Rattle.std.proofs.Common.{ℕ, suc, Bool, true, nat_eq, ◌&&◌, ◌≡◌, ◌≢◌, ◌⊎◌, ◌+◌, ◌≤◌, ◌<◌, List, [], ◌∷◌, ◌++◌, length, slice_index_or, take, drop, Option, Some, None, Result, Ok, Err, if◌then◌else◌, refl, sym, ap, ◌∙◌, inl, inr, arith, subst}
use Rattle.std.specs.List.{All, AllPairs, Contains, remove}
use Rattle.std.specs.Option.{MatchOption}
use Rattle.std.specs.Result.{IsOk, is_ok}
use Rattle.std.proofs.lemmas.Bool.{cases_lt, eq-eqb}
use Rattle.std.proofs.lemmas.List.{get_or_default, take-append-drop, drop_more}
use Rattle.std.proofs.lemmas.List.Edits.{get_or-remove_below, get_or-remove_above, length-remove}
use Rattle.std.proofs.lemmas.List.Elements.{All-take, All-drop, All-append, All-push}
use Rattle.std.proofs.lemmas.List.Quantifiers.{all_pairs_push, all_pairs_remove}
use Rattle.h2_num.specs.declared.block.Block.{Block}
use Rattle.h2_freemap.specs.declared.size.Size.{Size}
use Rattle.h2_freemap.specs.declared.size.Size.TheVariants.{Small, Middle, Whole}
use Rattle.h2_codes.specs.declared.cursor.Cursor.{Cursor}
use Rattle.h2_freemap.specs.Space.{Space, InVolume, cursor_of}
use Rattle.h2_freemap.specs.Consistent.{IsCursor, IsConsistent}
use Rattle.h2_freemap.specs.Pins.{Unpins}
use Rattle.h2_freemap.proofs.Changes.{same_cursor}

-- no block is there twice
abbrev pub Distinct : List Block → Type 0
Distinct blocks = AllPairs (λ (a b : Block). a ≢ b) blocks

abbrev pub with_pins : List Block → ℕ → Space → Space
with_pins pins spare x = record x { pins = pins; spare = spare }

-- the pins of a consistent freemap may be others of this kind
pub pins_consistent : (x : Space) (pins : List Block) (spare : ℕ) → IsConsistent x → All (InVolume x) pins → Distinct pins → IsConsistent (with_pins pins spare x)
pins_consistent x pins spare ok within distinct = record { zone_count = ok.zone_count; segment_count = ok.segment_count; segments = ok.segments; cursors = cursors; pins = within; distinct = distinct }
  where
    cursors : (size : Size) (at : Cursor) → cursor_of (with_pins pins spare x) size ≡ Some at → IsCursor size (with_pins pins spare x) at
    cursors Small at e = same_cursor Small x (with_pins pins spare x) at refl refl (ok.cursors Small at e)
    cursors Middle at e = same_cursor Middle x (with_pins pins spare x) at refl refl (ok.cursors Middle at e)
    cursors Whole at e = same_cursor Whole x (with_pins pins spare x) at refl refl (ok.cursors Whole at e)

pub push_distinct : (blocks : List Block) (b : Block) → Distinct blocks → (Contains blocks b → ⊥) → Distinct (blocks ++ b ∷ [])
push_distinct blocks b distinct absent =
    all_pairs_push (λ (x y : Block). x ≢ y) blocks b distinct (λ k d lt e. absent (k, lt, get_or_default blocks k b d lt ∙ e))

pub pin_consistent : (x : Space) (b : Block) (spare : ℕ) → IsConsistent x → InVolume x b → (Contains x.pins b → ⊥) → IsConsistent (with_pins (x.pins ++ b ∷ []) spare x)
pin_consistent x b spare ok within absent = pins_consistent x (x.pins ++ b ∷ []) spare ok (All-push (InVolume x) x.pins b ok.pins within) (push_distinct x.pins b ok.distinct absent)

pub unpin_consistent : (x : Space) (at : ℕ) (spare : ℕ) → IsConsistent x → at < length x.pins → IsConsistent (with_pins (remove x.pins at) spare x)
unpin_consistent x at spare ok lt =
    pins_consistent x (remove x.pins at) spare ok
    (All-append (InVolume x) (take at x.pins) (drop (suc at) x.pins) (All-take (InVolume x) at x.pins ok.pins) (All-drop (InVolume x) (suc at) x.pins ok.pins))
    (all_pairs_remove (λ (a b : Block). a ≢ b) x.pins at lt ok.distinct)

-- a list by one of its places
pub parted : (blocks : List Block) (at : ℕ) (b : Block) → at < length blocks → slice_index_or blocks at b ≡ b → blocks ≡ take at blocks ++ b ∷ drop (suc at) blocks
parted blocks at b lt is =
    let rest : drop at blocks ≡ slice_index_or blocks at b ∷ drop (at + 1) blocks = drop_more blocks at b lt in
    let e : at + 1 ≡ suc at = omega arith in
    let tail : drop at blocks ≡ b ∷ drop (suc at) blocks = rest ∙ (ap (λ (x : Block). x ∷ drop (at + 1) blocks) is ∙ ap (λ (n : ℕ). b ∷ drop n blocks) e) in
    sym (take-append-drop at blocks) ∙ ap (λ (xs : List Block). take at blocks ++ xs) tail

-- a block that was there once is there no longer
pub removed : (blocks : List Block) (at : ℕ) (b : Block) → at < length blocks → slice_index_or blocks at b ≡ b → Distinct blocks → Contains (remove blocks at) b → ⊥
removed blocks at b lt is distinct (k, in', e) = split (cases_lt k at)
  where
    short : length (remove blocks at) + 1 ≡ length blocks
    short = length-remove blocks at lt

    split : (k < at) ⊎ (at ≤ k) → ⊥
    split (inl below) = distinct k at b below lt (sym (get_or-remove_below blocks at b k below lt) ∙ (e ∙ sym is))
    split (inr above) = distinct at (k + 1) b (omega arith) (let s = short in omega arith) (is ∙ (sym e ∙ get_or-remove_above blocks at b k above lt))

-- the test of two blocks
pub same_block : (a b : Block) → a ≡ b → (nat_eq a.place b.place && nat_eq a.radix b.radix) ≡ true
same_block a b e =
    let place : nat_eq a.place b.place ≡ true = eq-eqb a.place b.place (ap (λ (x : Block). x.place) e) in
    let radix : nat_eq a.radix b.radix ≡ true = eq-eqb a.radix b.radix (ap (λ (x : Block). x.radix) e) in
    ap (λ (t : Bool). t && nat_eq a.radix b.radix) place ∙ radix

-- one more block that isn't the one that is looked for
pub differs_more : (blocks : List Block) (b : Block) (at : ℕ) → at < length blocks → ((k : ℕ) (d : Block) → k < at → slice_index_or blocks k d ≢ b) → ((d : Block) → slice_index_or blocks at d ≢ b)
    → (k : ℕ) (d : Block) → k < at + 1 → slice_index_or blocks k d ≢ b
differs_more blocks b at lt before here k d in' = split (cases_lt k at)
  where
    split : (k < at) ⊎ (at ≤ k) → slice_index_or blocks k d ≢ b
    split (inl below) = before k d below
    split (inr above) = let e : k ≡ at = omega arith in λ is. here d (ap (λ (i : ℕ). slice_index_or blocks i d) (sym e) ∙ is)

-- a push that succeeds
pub pushed : {X Y Z : Type 0} (r : Result X Y) (a b : Z) → IsOk r → (if is_ok r then a else b) ≡ a
pushed (Ok x) a b ok = refl
pushed (Err e) a b ok = cc

-- where a block was found
pub found_at : (r : Option ℕ) (at : ℕ) (seen blocks : List Block) (b : Block) → MatchOption r (Contains seen b → ⊥) (λ (k : ℕ). (k < length seen) × (slice_index_or seen k b ≡ b)) → r ≡ Some at → seen ≡ blocks → (at < length blocks) × (slice_index_or blocks at b ≡ b)
found_at None at seen blocks b is e same = cc
found_at (Some k) at seen blocks b is e same =
    let here : k ≡ at = cc in
    subst (λ (n : ℕ). (n < length blocks) × (slice_index_or blocks n b ≡ b)) here (subst (λ (xs : List Block). (k < length xs) × (slice_index_or xs k b ≡ b)) same is)

-- a block is let go at its place
pub unpins : (x : Space) (at : ℕ) (b : Block) (pins : List Block) (spare : ℕ) → IsConsistent x → at < length x.pins → slice_index_or x.pins at b ≡ b → pins ≡ remove x.pins at → spare ≡ x.spare + 1 → Unpins b x (with_pins pins spare x)
unpins x at b pins spare ok lt is left room = record {
  only = record { codes = record { zones = refl; segments = refl }; cursors = cursors };
  before = take at x.pins;
  after = drop (suc at) x.pins;
  was = parted x.pins at b lt is;
  pins = left;
  gone = λ still. removed x.pins at b lt is ok.distinct (subst (λ (xs : List Block). Contains xs b) left still);
  spare = room;
}
  where
    cursors : (size : Size) → cursor_of (with_pins pins spare x) size ≡ cursor_of x size
    cursors Small = refl
    cursors Middle = refl
    cursors Whole = refl
