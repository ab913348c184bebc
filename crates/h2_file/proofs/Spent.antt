-- The room that references of neighbouring blocks take when they go into a file's tree.
use Rattle.std.proofs.Common.{◌≡◌, ℕ, ◌+◌, ◌<◌, ◌≤◌, ◌^◌, Bool, true, false, arith, refl, sym, ◌∙◌, ap, cond, List, [], ◌∷◌, Option, Some, subst, ◌⊎◌, inl, inr, slice_get}
use Rattle.std.proofs.lemmas.Bool.{cases_lt, cases_Bool}
use Rattle.std.proofs.lemmas.Nat.{pow_pos, pow_below}
use Rattle.h2_ref.specs.declared.reference.Ref.{Ref}
use Rattle.h2_set.specs.Ranges.{holds}
use Rattle.h2_set.specs.Forest.{Forest, IsSound}
use Rattle.h2_set.specs.Calls.{InPlace, inside, IsAbove, itself, by}
use Rattle.h2_set.specs.LeafLaws.{holds_inside}
use Rattle.h2_set.specs.PathLaws.{in_holds}
use Rattle.h2_set.specs.ChangeLaws.{same_or_not}
use Rattle.h2_tree.specs.Changes.{Descends, arrived, onward, ChangesOnly, TakesIn, replaced, placed, parted, Prepares, Inserts}
use Rattle.h2_file.specs.Blocks.{HasContents}
use Rattle.h2_file.proofs.Altered.{contents_keep}
use Rattle.h2_file.proofs.Watched.{Among, unwritten, unwritten_same, Falls, fallen, HighPath, Watched, watched_prepared}

-- Ways down

cond_one : (b : Bool) → cond b 0 1 ≤ 1
cond_one true = omega arith
cond_one false = omega arith

-- node n on the way down from node m
record Within (t : Forest) (m n : ℕ) : Type 0 where
  pub stands : t.stands n ≡ true
  pub root : t.root n ≡ t.root m
  pub low : t.low m ≤ t.low n
  pub high : t.low n + 2 ^ t.bits n ≤ t.low m + 2 ^ t.bits m
  pub bits : t.bits n ≤ t.bits m
  pub sum : t.copies n + t.bits n ≤ t.copies m + t.bits m
  pub above : IsAbove t m n
  pub wide : 14 ≤ t.bits m → 14 ≤ t.bits n

within : {t : Forest} {x m n : ℕ} → IsSound t → Descends t x m n → t.stands m ≡ true → t.leaf_bits (t.root m) ≡ 14 → Within t m n
within sound arrived stands leaf = record { stands = stands; root = refl; low = omega arith; high = omega arith; bits = omega arith; sum = omega arith; above = itself refl; wide = λ h. h }
within {t} sound (onward {at = m} {c = c} {n = n} {r = r} i read in_r ind link rest) stands leaf =
    let node = sound.node m stands in
    let kid = node.child r.key c link in
    let bits_c = node.bits i c r read ind link in
    let deep = within sound rest kid.stands (ap t.leaf_bits kid.root ∙ leaf) in
    let one = cond_one (t.writable c) in
    let pos = pow_pos (t.bits n) in
    let long = (node.fits i r read).wide ind in
    let root_n : t.root m ≡ t.root n = sym (deep.root ∙ kid.root) in
    let holds_n : holds (t.low n) r ≡ true = in_holds (t.low n) r (let lo = deep.low in let e = kid.low in omega (arith, lo, e)) (let hi = deep.high in let e = kid.low in let b = ap (λ z. 2 ^ z) bits_c in omega (arith, hi, e, b, pos)) in
    record {
      stands = deep.stands;
      root = deep.root ∙ kid.root;
      low = (let a = deep.low in let b = kid.above in omega (arith, a, b));
      high = (let a = deep.high in let b = kid.within in omega (arith, a, b));
      bits = (let a = deep.bits in let b = kid.fewer in omega (arith, a, b));
      sum = (let a = deep.sum in let b = kid.fewer in let e = kid.copies in omega (arith, a, b, e, one));
      above = by i r read (inside root_n ind holds_n (let a = deep.bits in omega (arith, a, bits_c)));
      wide = λ h. deep.wide (omega (arith, bits_c, long, leaf));
    }

-- the nodes of at least 20 bits on the way down to node n, and how few are below them
record HighWay (t : Forest) (x m n : ℕ) : Type 0 where
  pub list : List ℕ
  pub falls : Falls t.bits (t.bits m) list
  pub stands : (v : ℕ) → Among v list → t.stands v ≡ true
  pub root : (v : ℕ) → Among v list → t.root v ≡ t.root m
  pub fewer : (v : ℕ) → Among v list → t.bits v < t.bits m
  pub low : (v : ℕ) → Among v list → t.low v ≤ x
  pub high : (v : ℕ) → Among v list → x < t.low v + 2 ^ t.bits v
  pub wide : (v : ℕ) → Among v list → 20 ≤ t.bits v
  pub above : (v : ℕ) → Among v list → IsAbove t v n
  pub count : t.copies n ≤ t.copies m + unwritten t.writable list + 6

high_way : {t : Forest} {x m n : ℕ} → IsSound t → Descends t x m n → t.stands m ≡ true → t.leaf_bits (t.root m) ≡ 14 → HighWay t x m n
high_way sound arrived stands leaf = record {
  list = [];
  falls = tt;
  stands = λ v it. absurd it;
  root = λ v it. absurd it;
  fewer = λ v it. absurd it;
  low = λ v it. absurd it;
  high = λ v it. absurd it;
  wide = λ v it. absurd it;
  above = λ v it. absurd it;
  count = omega arith;
}
high_way {t} {x} sound (onward {at = m} {c = c} {n = n} {r = r} i read in_r ind link rest) stands leaf =
    let node = sound.node m stands in
    let kid = node.child r.key c link in
    let bits_c = node.bits i c r read ind link in
    let leaf_c : t.leaf_bits (t.root c) ≡ 14 = ap t.leaf_bits kid.root ∙ leaf in
    let deep = within sound rest kid.stands leaf_c in
    let range = holds_inside x r in_r in
    let long = (node.fits i r read).wide ind in
    elim (cases_lt (t.bits c) 20) as (λ _. HighWay t x m n) [
      | inl small ↦ record {
        list = [];
        falls = tt;
        stands = λ v it. absurd it;
        root = λ v it. absurd it;
        fewer = λ v it. absurd it;
        low = λ v it. absurd it;
        high = λ v it. absurd it;
        wide = λ v it. absurd it;
        above = λ v it. absurd it;
        count = (
            let one = cond_one (t.writable c) in
            let sum = deep.sum in
            let e = kid.copies in
            let least = deep.wide (omega (arith, bits_c, long, leaf)) in
            omega (arith, one, sum, e, least, small));
      }
      | inr large ↦
          let more = high_way sound rest kid.stands leaf_c in
          record {
            list = c ∷ more.list;
            falls = (kid.fewer, more.falls);
            stands = λ v it. elim it as (λ _. t.stands v ≡ true) [ inl e ↦ subst (λ z. t.stands z ≡ true) e kid.stands | inr later ↦ more.stands v later ];
            root = λ v it. elim it as (λ _. t.root v ≡ t.root m) [ inl e ↦ subst (λ z. t.root z ≡ t.root m) e kid.root | inr later ↦ more.root v later ∙ kid.root ];
            fewer = λ v it. elim it as (λ _. t.bits v < t.bits m) [ inl e ↦ subst (λ z. t.bits z < t.bits m) e kid.fewer | inr later ↦ (let a = more.fewer v later in let b = kid.fewer in omega (arith, a, b)) ];
            low = λ v it. elim it as (λ _. t.low v ≤ x) [ inl e ↦ subst (λ z. t.low z ≤ x) e (let a = kid.low in let b = range.0 in omega (arith, a, b)) | inr later ↦ more.low v later ];
            high = λ v it. elim it as (λ _. x < t.low v + 2 ^ t.bits v) [ inl e ↦ subst (λ z. x < t.low z + 2 ^ t.bits z) e (let a = kid.low in let b = range.1 in let p = ap (λ z. 2 ^ z) bits_c in omega (arith, a, b, p)) | inr later ↦ more.high v later ];
            wide = λ v it. elim it as (λ _. 20 ≤ t.bits v) [ inl e ↦ subst (λ z. 20 ≤ t.bits z) e large | inr later ↦ more.wide v later ];
            above = λ v it. elim it as (λ _. IsAbove t v n) [ inl e ↦ subst (λ z. IsAbove t z n) e deep.above | inr later ↦ more.above v later ];
            count = (let e = kid.copies in let a = more.count in omega (arith, e, a));
          }
    ]

-- Keys of at most 65 blocks in a row, and one apart from them

-- the key is that of one of the references
abbrev pub KeyOf : List Ref → ℕ → Type 0
KeyOf rs key = (i : ℕ) × (r : Ref) × (slice_get rs i ≡ Some r) × (r.key ≡ key)

pub record Span (rs : List Ref) : Type 0 where
  pub zero_key : ℕ
  pub start : ℕ
  pub end : ℕ
  pub short : end ≤ start + 2 ^ 20
  pub has_zero : KeyOf rs zero_key
  pub has_start : KeyOf rs start
  pub has_end : KeyOf rs end
  pub each : (i : ℕ) (r : Ref) → slice_get rs i ≡ Some r → (r.key ≡ zero_key) ⊎ ((start ≤ r.key) × (r.key ≤ end))

power_le : (b : ℕ) → 20 ≤ b → 2 ^ 20 ≤ 2 ^ b
power_le b le = elim (same_or_not 20 b) as (λ _. 2 ^ 20 ≤ 2 ^ b) [
  | inl e ↦ let same = ap (λ z. 2 ^ z) e in omega (arith, same)
  | inr ne ↦ let more = pow_below 20 b (omega (arith, le, ne)) in omega (arith, more)
]

-- a range of so many bits that has a key between has one of the ends
has_an_end : (low bits x start end : ℕ) → 20 ≤ bits → low ≤ x → x < low + 2 ^ bits → start ≤ x → x ≤ end → end ≤ start + 2 ^ 20 → ((low ≤ start) × (start < low + 2 ^ bits)) ⊎ ((low ≤ end) × (end < low + 2 ^ bits))
has_an_end low bits x start end big from to after before short =
    let long = power_le bits big in
    elim (cases_lt start low) as (λ _. ((low ≤ start) × (start < low + 2 ^ bits)) ⊎ ((low ≤ end) × (end < low + 2 ^ bits))) [
      | inl out ↦ inr (omega (arith, from, before), omega (arith, out, short, long))
      | inr in_it ↦ inl (in_it, omega (arith, after, to))
    ]

-- One insertion

new_written : {t g : Forest} {n blocks : ℕ} {leaf : Ref} {old : Option Ref} → TakesIn t g n leaf blocks old → (m : ℕ) → g.stands m ≡ true → (t.stands m ≡ true) ⊎ (g.writable m ≡ true)
new_written (replaced it) m st = inl (it.none_new m st)
new_written (placed it) m st = inl (it.none_new m st)
new_written {t} {g} (parted it) m st = elim (it.none_new m st) as (λ _. (t.stands m ≡ true) ⊎ (g.writable m ≡ true)) [
  | inl e ↦ inr (subst (λ z. g.writable z ≡ true) (sym e) it.new_writable)
  | inr was ↦ inl was
]

one_block : {t g : Forest} {n blocks : ℕ} {leaf : Ref} {old : Option Ref} → TakesIn t g n leaf blocks old → blocks ≤ 1
one_block (replaced it) = omega arith
one_block (placed it) = omega arith
one_block (parted it) = omega arith

watched_changed : (t g : Forest) (at key n : ℕ) (l : List ℕ) → ChangesOnly t g n (λ m. ⊥) → ((m : ℕ) → g.stands m ≡ true → (t.stands m ≡ true) ⊎ (g.writable m ≡ true)) → Watched t at l key → Watched g at l key
watched_changed t g at key n l only new watched = record {
  all = λ m stands root other low high big not. elim (new m stands) as (λ _. Among m l) [
    | inr written ↦ absurd (let clash : true ≡ false = sym written ∙ not in cc)
    | inl was ↦
        let place = only.still m was (λ z. z) in
        let not_was : t.writable m ≡ false = elim (cases_Bool (t.writable m)) as (λ _. t.writable m ≡ false) [
          | inl now_is ↦ absurd (let now = place.writable now_is in let clash : true ≡ false = sym now ∙ not in cc)
          | inr still_not ↦ still_not
        ] in
        watched.all m was (sym place.root ∙ root) other (omega (arith, place.low, low)) (let e = ap (λ z. 2 ^ z) place.bits in omega (arith, place.low, e, high)) (omega (arith, place.bits, big)) not_was
  ];
}

-- what is known of a forest between two insertions
pub record Guarded (f : Forest) (at zero_key start end : ℕ) (l : List ℕ) : Type 0 where
  pub sound : IsSound f
  pub stands : f.stands at ≡ true
  pub own : f.root at ≡ at
  pub contents : HasContents f at
  pub kept : (m : ℕ) → Among m l → f.stands m ≡ true
  pub at_zero : Watched f at l zero_key
  pub at_start : Watched f at l start
  pub at_end : Watched f at l end

module _ (f g : Forest) (at zero_key start end : ℕ) (l : List ℕ) (leaf : Ref) (old : Option Ref) (guarded : Guarded f at zero_key start end l) (short : end ≤ start + 2 ^ 20) (key_is : (leaf.key ≡ zero_key) ⊎ ((start ≤ leaf.key) × (leaf.key ≤ end))) (path_zero : HighPath f zero_key at) (path_start : HighPath f start at) (path_end : HighPath f end at) (ins : Inserts f g at leaf old) where
  abbrev then : Forest
  then = ins.goes.then

  prepares : Prepares f then
  prepares = ins.goes.prepares

  place_t : InPlace f then at
  place_t = (prepares.stays at guarded.stands).place

  contents_t : HasContents then at
  contents_t = contents_keep f then at guarded.sound prepares.sound guarded.stands place_t prepares.fixed guarded.contents

  zero_t : Watched then at l zero_key
  zero_t = watched_prepared f then at zero_key l guarded.own guarded.stands prepares path_zero guarded.at_zero

  start_t : Watched then at l start
  start_t = watched_prepared f then at start l guarded.own guarded.stands prepares path_start guarded.at_start

  end_t : Watched then at l end
  end_t = watched_prepared f then at end l guarded.own guarded.stands prepares path_end guarded.at_end

  own_t : then.root at ≡ at
  own_t = place_t.root ∙ guarded.own

  way : HighWay then leaf.key at ins.goes.node
  way = high_way prepares.sound ins.goes.way place_t.stands contents_t.keybits

  -- each node of the way with so many bits is watched
  on_watch : (v : ℕ) → Among v way.list → then.writable v ≡ false → Among v l
  on_watch v it not =
      let st = way.stands v it in
      let root = way.root v it ∙ own_t in
      let other : v ≡ at → ⊥ = λ e. (let fewer = way.fewer v it in let same = ap then.bits e in omega (arith, fewer, same)) in
      let low = way.low v it in
      let high = way.high v it in
      let big = way.wide v it in
      elim key_is as (λ _. Among v l) [
        | inl e ↦ zero_t.all v st root other (omega (arith, e, low)) (omega (arith, e, high)) big not
        | inr between ↦ elim (has_an_end (then.low v) (then.bits v) leaf.key start end big low high between.0 between.1 short) as (λ _. Among v l) [
          | inl from ↦ start_t.all v st root other from.0 from.1 big not
          | inr to ↦ end_t.all v st root other to.0 to.1 big not
        ]
      ]

  written_on : (m : ℕ) → Among m l → then.writable m ≡ true → g.writable m ≡ true
  written_on m it now_is = (ins.goes.only.still m (prepares.stays m (guarded.kept m it)).place.stands (λ z. z)).writable now_is

  -- the insertion takes at most 7 blocks beside the watched nodes that it makes writable
  pub step_room : f.room + unwritten g.writable l ≤ g.room + unwritten f.writable l + 7
  step_room =
      let goes = ins.goes in
      let each : (m : ℕ) → Among m way.list → (then.writable m ≡ true) ⊎ (Among m l × (g.writable m ≡ true)) = λ m it. elim (cases_Bool (then.writable m)) as (λ _. (then.writable m ≡ true) ⊎ (Among m l × (g.writable m ≡ true))) [
        | inl now_is ↦ inl now_is
        | inr not_is ↦ inr (on_watch m it not_is, goes.only.made m (way.stands m it) (λ z. z) (way.above m it))
      ] in
      let fall = fallen then.writable g.writable then.bits (then.bits at) way.list l way.falls each written_on in
      let same = unwritten_same f.writable then.writable l (λ m it. prepares.writable m (guarded.kept m it)) in
      let none_at : then.copies at ≡ 0 = (prepares.sound.node at place_t.stands).top own_t in
      let count = way.count in
      let block = one_block goes.change in
      let room = goes.room in
      omega (arith, fall, same, none_at, count, block, room)

  pub step_guarded : Guarded g at zero_key start end l
  step_guarded =
      let goes = ins.goes in
      let new = new_written goes.change in
      record {
        sound = ins.sound;
        stands = ins.place.stands;
        own = ins.place.root ∙ guarded.own;
        contents = contents_keep f g at guarded.sound ins.sound guarded.stands ins.place ins.fixed guarded.contents;
        kept = λ m it. (ins.still m (guarded.kept m it)).stands;
        at_zero = watched_changed then g at zero_key goes.node l goes.only new zero_t;
        at_start = watched_changed then g at start goes.node l goes.only new start_t;
        at_end = watched_changed then g at end goes.node l goes.only new end_t;
      }
