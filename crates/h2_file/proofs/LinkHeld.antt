-- What a file stands for once blocks were put into it.
use Rattle.std.proofs.Common.{◌≡◌, ℕ, ◌+◌, ◌%◌, ◌^◌, ◌<◌, ◌≤◌, Bool, true, false, arith, refl, sym, ◌∙◌, ap, cond, List, [], ◌∷◌, length, Option, Some, None, subst, ◌⊎◌, inl, inr, nat_lt, slice_get, suc, zero}
use Rattle.std.specs.Prelude.{All, slice_index_or}
use Rattle.std.proofs.lemmas.Bool.{cases_lt}
use Rattle.std.proofs.lemmas.Bool.Decides.{nat_tests}
use Rattle.std.proofs.lemmas.Nat.{pow_pos}
use Rattle.std.proofs.lemmas.Option.{none-some, same_Some}
use Rattle.h2_num.specs.Places.{Places}
use Rattle.h2_ref.specs.declared.reference.Ref.{Ref}
use Rattle.h2_set.specs.Ranges.{Rising, limit, holds, find, NoneHolds, put}
use Rattle.h2_set.specs.Forest.{Forest, IsSound, LeavesOf}
use Rattle.h2_set.specs.LeafLaws.{outside_holds, leaves_rising, place_above, reaches_find}
use Rattle.h2_set.specs.StayLaws.{leaves_stay_all}
use Rattle.h2_tree.specs.ListLaws.{In, find_in}
use Rattle.h2_inode.specs.Nodes.{Fields, Told}
use Rattle.h2_inode.specs.Contents.{IsPart}
use Rattle.h2_inode.specs.Loaded.{at_root}
use Rattle.h2_file.specs.FileContents.{file_reading, FileHas, LinksBytes, CoversBytes}
use Rattle.h2_file.specs.Linking.{AreBlocks, PutsEach, none, first, put_each, LinksFile}
use Rattle.h2_file.proofs.Chained.{block_limit, block_aligned}
use Rattle.h2_file.proofs.Held.{all_head, all_tail}
use Rattle.h2_file.proofs.Opened.{opened_all}

-- Lists, by what stands in them

all_in : (P : Ref → Type 0) (xs : List Ref) → All P xs → (i : ℕ) (x : Ref) → slice_get xs i ≡ Some x → P x
all_in P [] all i x read = absurd (none-some x read)
all_in P (y ∷ xs) all zero x read = let same : y ≡ x = (cc) in subst P same (all_head P y xs all)
all_in P (y ∷ xs) all (suc i) x read = all_in P xs (all_tail P y xs all) i x read

read_at : (xs : List Ref) (i : ℕ) (d : Ref) → i < length xs → slice_get xs i ≡ Some (slice_index_or xs i d)
read_at [] i d within = absurd (omega (arith, within))
read_at (x ∷ xs) zero d within = refl
read_at (x ∷ xs) (suc i) d within = read_at xs i d (omega (arith, within))

in_all : (P : Ref → Type 0) (xs : List Ref) → ((i : ℕ) (x : Ref) → slice_get xs i ≡ Some x → P x) → All P xs
in_all P xs each = λ k d lt. each k (slice_index_or xs k d) (read_at xs k d lt)

-- what none holds isn't found, and what isn't found none holds
find_all : (key : ℕ) (xs : List Ref) → NoneHolds key xs → find key xs ≡ None
find_all key [] miss = refl
find_all key (x ∷ xs) miss = rw (miss 0 x refl) (find_all key xs (λ i r read. miss (suc i) r read))

find_misses : (key : ℕ) (xs : List Ref) → find key xs ≡ None → NoneHolds key xs
find_misses key [] e = λ i r read. absurd (none-some r read)
find_misses key (x ∷ xs) e = by (holds key x) refl e (find_misses key xs)
  where
    by : (b : Bool) → holds key x ≡ b → cond b (Some x) (find key xs) ≡ None → (find key xs ≡ None → NoneHolds key xs) → NoneHolds key (x ∷ xs)
    by true in_x e' more i r read = absurd (none-some x (sym e'))
    by false out e' more zero r read = let same : x ≡ r = (cc) in subst (λ (y : Ref). holds key y ≡ false) same out
    by false out e' more (suc i) r read = more e' i r read

-- what stands behind the first one has a higher key
later_other : (low high : ℕ) (x : Ref) (xs : List Ref) (r : Ref) → Rising low high (x ∷ xs) → In xs r → x.key < r.key
later_other low high x xs r h it = (let above = place_above (limit x) high xs it.0 r h.1 it.1 in let pos = pow_pos x.keybits in omega (arith, above, pos))

-- what stands in a list into which a reference was put: that one, or one of another key that stood there
put_in : (r : Ref) (low high : ℕ) (l : List Ref) → Rising low high l → (x : Ref) → In (put r l) x → (x ≡ r) ⊎ (In l x × (x.key ≡ r.key → ⊥))
put_in r low high [] rising x (zero, read) = inl (sym (same_Some r x read))
put_in r low high [] rising x (suc i, read) = absurd (none-some x read)
put_in r low high (q ∷ qs) rising x it = by (nat_lt r.key q.key) refl it (put_in r (limit q) high qs rising.1 x)
  where
    front : In (r ∷ q ∷ qs) x → nat_lt r.key q.key ≡ true → (x ≡ r) ⊎ (In (q ∷ qs) x × (x.key ≡ r.key → ⊥))
    front (zero, read) lt = inl (sym (same_Some r x read))
    front (suc zero, read) lt = let same : q ≡ x = same_Some q x read in inr ((zero, read), λ e. let k = ap (λ (y : Ref). y.key) same in let less : r.key < q.key = grind (arith, nat_tests) in omega (arith, e, k, less))
    front (suc (suc i), read) lt = inr ((suc i, read), λ e. let over = later_other low high q qs x rising (i, read) in let less : r.key < q.key = grind (arith, nat_tests) in omega (arith, e, over, less))

    behind : In (q ∷ put r qs) x → nat_lt q.key r.key ≡ true → (In (put r qs) x → (x ≡ r) ⊎ (In qs x × (x.key ≡ r.key → ⊥))) → (x ≡ r) ⊎ (In (q ∷ qs) x × (x.key ≡ r.key → ⊥))
    behind (zero, read) lt more = let same : q ≡ x = same_Some q x read in inr ((zero, read), λ e. let k = ap (λ (y : Ref). y.key) same in let less : q.key < r.key = grind (arith, nat_tests) in omega (arith, e, k, less))
    behind (suc i, read) lt more = elim (more (i, read)) as (λ _. (x ≡ r) ⊎ (In (q ∷ qs) x × (x.key ≡ r.key → ⊥))) [
      | inl same ↦ inl same
      | inr there ↦ inr ((suc there.0.0, there.0.1), there.1)
    ]

    instead : In (r ∷ qs) x → nat_lt r.key q.key ≡ false → nat_lt q.key r.key ≡ false → (x ≡ r) ⊎ (In (q ∷ qs) x × (x.key ≡ r.key → ⊥))
    instead (zero, read) ge le = inl (sym (same_Some r x read))
    instead (suc i, read) ge le = inr ((suc i, read), λ e. let over = later_other low high q qs x rising (i, read) in let same : r.key ≡ q.key = grind (arith, nat_tests) in omega (arith, e, over, same))

    inner : (b : Bool) → nat_lt q.key r.key ≡ b → nat_lt r.key q.key ≡ false → In (cond b (q ∷ put r qs) (r ∷ qs)) x → (In (put r qs) x → (x ≡ r) ⊎ (In qs x × (x.key ≡ r.key → ⊥))) → (x ≡ r) ⊎ (In (q ∷ qs) x × (x.key ≡ r.key → ⊥))
    inner true lt ge it' more = behind it' lt more
    inner false le ge it' more = instead it' ge le

    by : (b : Bool) → nat_lt r.key q.key ≡ b → In (cond b (r ∷ q ∷ qs) (cond (nat_lt q.key r.key) (q ∷ put r qs) (r ∷ qs))) x → (In (put r qs) x → (x ≡ r) ⊎ (In qs x × (x.key ≡ r.key → ⊥))) → (x ≡ r) ⊎ (In (q ∷ qs) x × (x.key ≡ r.key → ⊥))
    by true lt it' more = front it' lt
    by false ge it' more = inner (nat_lt q.key r.key) refl ge it' more

-- what stood there stands there, but for one with its key
put_stays : (r : Ref) (l : List Ref) (x : Ref) → In l x → In (put r l) x ⊎ (x.key ≡ r.key)
put_stays r [] x it = absurd (none-some x it.1)
put_stays r (q ∷ qs) x it = by (nat_lt r.key q.key) (nat_lt q.key r.key) refl refl it (put_stays r qs x)
  where
    by : (b c : Bool) → nat_lt r.key q.key ≡ b → nat_lt q.key r.key ≡ c → In (q ∷ qs) x → (In qs x → In (put r qs) x ⊎ (x.key ≡ r.key)) → In (cond b (r ∷ q ∷ qs) (cond c (q ∷ put r qs) (r ∷ qs))) x ⊎ (x.key ≡ r.key)
    by true c lt e it' more = inl (suc it'.0, it'.1)
    by false true ge lt (zero, read) more = inl (zero, read)
    by false true ge lt (suc i, read) more = elim (more (i, read)) as (λ _. In (q ∷ put r qs) x ⊎ (x.key ≡ r.key)) [
      | inl there ↦ inl (suc there.0, there.1)
      | inr same ↦ inr same
    ]
    by false false ge le (zero, read) more = let same : q ≡ x = same_Some q x read in let k = ap (λ (y : Ref). y.key) same in let both : r.key ≡ q.key = grind (arith, nat_tests) in inr (omega (arith, k, both))
    by false false ge le (suc i, read) more = inl (suc i, read)

-- a reference of the list that was put there has the key
abbrev HasKey : List Ref → ℕ → Type 0
HasKey rs key = (i : ℕ) × (r : Ref) × (slice_get rs i ≡ Some r) × (key ≡ r.key)

each_in : {at : ℕ} {f g : Forest} {rs : List Ref} → PutsEach at f rs g → IsSound f → f.stands at ≡ true → (l : List Ref) → LeavesOf f at l → (x : Ref) → In (put_each rs l) x → In rs x ⊎ (In l x × (HasKey rs x.key → ⊥))
each_in none sound stands l hl x it = inr (it, λ has. none-some has.1 has.2)
each_in (first {f = f} {r = r} {rs = rs} step rest) sound stands l hl x it =
    let ins = step.inserts in
    let rising = leaves_rising hl 0 (2 ^ 64) (sound.node _ stands).set.rising in
    elim (each_in rest ins.sound ins.place.stands (put r l) (ins.leaves l hl) x it) as (λ _. In (r ∷ rs) x ⊎ (In l x × (HasKey (r ∷ rs) x.key → ⊥))) [
      | inl later ↦ inl (suc later.0, later.1)
      | inr there ↦ elim (put_in r 0 (2 ^ 64) l rising x there.0) as (λ _. In (r ∷ rs) x ⊎ (In l x × (HasKey (r ∷ rs) x.key → ⊥))) [
        | inl same ↦ inl (zero, ap Some (sym same))
        | inr was ↦ inr (was.0, λ has. no_key has.0 has.1 has.2 has.3 was.1 there.1)
      ]
    ]
  where
    no_key : (i : ℕ) (q : Ref) → slice_get (r ∷ rs) i ≡ Some q → x.key ≡ q.key → (x.key ≡ r.key → ⊥) → (HasKey rs x.key → ⊥) → ⊥
    no_key zero q read e not_r not_rs = let same : r ≡ q = same_Some r q read in not_r (e ∙ ap (λ (y : Ref). y.key) (sym same))
    no_key (suc i) q read e not_r not_rs = not_rs (i, q, read, e)

each_stays : (rs l : List Ref) (x : Ref) → In l x → In (put_each rs l) x ⊎ HasKey rs x.key
each_stays [] l x it = inl it
each_stays (r ∷ rs) l x it = elim (put_stays r l x it) as (λ _. In (put_each (r ∷ rs) l) x ⊎ HasKey (r ∷ rs) x.key) [
  | inr same ↦ inr (zero, r, refl, same)
  | inl there ↦ elim (each_stays rs (put r l) x there) as (λ _. In (put_each (r ∷ rs) l) x ⊎ HasKey (r ∷ rs) x.key) [
    | inl stays ↦ inl stays
    | inr has ↦ inr (suc has.0, has.1, has.2, has.3)
  ]
]

-- blocks of other keys have no place in common
other_block : (a b k : ℕ) → a % 16384 ≡ 0 → b % 16384 ≡ 0 → (a ≡ b → ⊥) → k < 16384 → (a + k < b) ⊎ (b + 16384 ≤ a + k)
other_block a b k ea eb ne short = elim (cases_lt a b) as (λ _. (a + k < b) ⊎ (b + 16384 ≤ a + k)) [
  | inl lt ↦ inl (omega (arith, ea, eb, lt, short))
  | inr ge ↦ inr (omega (arith, ea, eb, ge, ne, short))
]

-- The bytes

module _ (f g : Forest) (holds_f holds_g : ℕ → Option Fields) (tells_f tells_g : Ref → Option Told) (blocks : Ref → Option Places) (at old size : ℕ) (rs : List Ref) (bytes new : List ℕ) (are : AreBlocks rs) (links : LinksFile f g at rs) (puts_bytes : LinksBytes blocks rs size bytes new) where
  abbrev Was : Ref → Type 0
  Was = IsPart (file_reading f holds_f tells_f blocks) (at_root at) old bytes

  abbrev Now : Ref → Type 0
  Now = IsPart (file_reading g holds_g tells_g blocks) (at_root at) size new

  put_part : (i : ℕ) (r : Ref) → slice_get rs i ≡ Some r → Now r
  put_part i r read =
      let is = are.each i r read in
      let here = puts_bytes.put i r read in
      record {
        kind_is = is.kind;
        keybits_are = is.keybits;
        aligned = block_aligned r is;
        below_size = puts_bytes.below i r read;
        block = here.0;
        read = here.1;
        bytes_are = here.2;
      }

  -- a block that stays has the bytes that it had
  kept_part : length bytes ≡ old → (x : Ref) → Was x → (HasKey rs x.key → ⊥) → Now x
  kept_part sized x part other =
      let out : (k : ℕ) → k < 16384 → NoneHolds (x.key + k) rs = λ k short i r read.
      let is = are.each i r read in
      let aligned = block_aligned r is in
      let own = part.aligned in
      let limit_is = block_limit r is in
      elim (other_block x.key r.key k own aligned (λ e. other (i, r, read, e)) short) as (λ _. holds (x.key + k) r ≡ false) [
        | inl before ↦ outside_holds (x.key + k) r (inl before)
        | inr behind ↦ outside_holds (x.key + k) r (inr (omega (arith, behind, limit_is)))
      ] in
      record {
        kind_is = part.kind_is;
        keybits_are = part.keybits_are;
        aligned = part.aligned;
        below_size = (let lt = part.below_size in let grows = puts_bytes.grows in omega (arith, lt, grows, sized));
        block = part.block;
        read = part.read;
        bytes_are = λ k short. part.bytes_are k short ∙ sym (puts_bytes.same (x.key + k) (out k short));
      }

  module _ (l : List Ref) (hl : LeavesOf f at l) (sound : IsSound f) (stands : f.stands at ≡ true) (opened_leaves : LeavesOf links.nodes.opened at l) (sound_o : IsSound links.nodes.opened) (stands_o : (let o = links.nodes.opened in o.stands at) ≡ true) where
    leaves_now : LeavesOf g at (put_each rs l)
    leaves_now = links.leaves l hl

    pub parts_now : length bytes ≡ old → All Was l → All Now (put_each rs l)
    parts_now sized all = in_all Now (put_each rs l) (λ i x read. elim (each_in links.nodes.puts sound_o stands_o l opened_leaves x (i, read)) as (λ _. Now x) [
      | inl it ↦ put_part it.0 x it.1
      | inr it ↦ kept_part sized x (all_in Was l all it.0.0 x it.0.1) it.1
    ])

    -- each of the references is in the list
    there : (i : ℕ) (r : Ref) → slice_get rs i ≡ Some r → In (put_each rs l) r
    there i r read = find_in r.key (put_each rs l) r (sym (reaches_find links.sound (links.put i r read) links.place.stands (put_each rs l) leaves_now))

    same_range : (key : ℕ) (x r : Ref) → x.key ≡ r.key → x.keybits ≡ r.keybits → holds key r ≡ false → holds key x ≡ false
    same_range key x r k b e = rw (k, b) e

    -- what no block holds now was in none
    pub holes_now : All Was l → (k : ℕ) → find k (put_each rs l) ≡ None → NoneHolds k rs × (find k l ≡ None)
    holes_now all k e =
        let miss = find_misses k (put_each rs l) e in
        let out : NoneHolds k rs = λ i r read. let it = there i r read in miss it.0 r it.1 in (
          out,
          find_all k l (λ i x read. elim (each_stays rs l x (i, read)) as (λ _. holds k x ≡ false) [
            | inl stays ↦ miss stays.0 x stays.1
            | inr has ↦ same_range k x has.1 has.3 (let part = all_in Was l all i x read in part.keybits_are ∙ sym (are.each has.0 has.1 has.2).keybits) (out has.0 has.1 has.2)
          ]),
        )

  pub link_has : IsSound f → f.stands at ≡ true → f.root at ≡ at → FileHas f holds_f tells_f blocks at old bytes → FileHas g holds_g tells_g blocks at size new
  link_has sound stands top has =
      let nodes = links.nodes in
      let place = (nodes.prepares.stays at stands).place in
      let opened = opened_all nodes.opens nodes.prepares.sound place.stands (place.root ∙ top) in
      let l = has.leaves in
      let hl : LeavesOf f at l = has.has.read in
      let in_opened : LeavesOf nodes.opened at l = opened.leaves l (leaves_stay_all f nodes.walked sound nodes.prepares.stays at stands l hl) in
      let now : LeavesOf g at (put_each rs l) = links.leaves l hl in
      record {
        leaves = put_each rs l;
        has = record { read = now; ordered = leaves_rising now 0 (2 ^ 64) (links.sound.node at links.place.stands).set.rising };
        parts = parts_now l hl sound stands in_opened opened.sound opened.place.stands has.sized has.parts;
        holes = λ k e. let it = holes_now l hl sound stands in_opened opened.sound opened.place.stands has.parts k e in puts_bytes.same k it.0 ∙ has.holes k it.1;
        sized = puts_bytes.sized;
      }

  -- and where its bytes stood in its inode
  pub link_lifted : IsSound f → f.stands at ≡ true → f.root at ≡ at → LeavesOf f at [] → CoversBytes rs bytes → old ≡ length bytes → FileHas g holds_g tells_g blocks at size new
  link_lifted sound stands top bare covers sized =
      let nodes = links.nodes in
      let place = (nodes.prepares.stays at stands).place in
      let opened = opened_all nodes.opens nodes.prepares.sound place.stands (place.root ∙ top) in
      let in_opened : LeavesOf nodes.opened at [] = opened.leaves [] (leaves_stay_all f nodes.walked sound nodes.prepares.stays at stands [] bare) in
      let now : LeavesOf g at (put_each rs []) = links.leaves [] bare in
      let none_was : All Was [] = in_all Was [] (λ i x read. absurd (none-some x read)) in
      record {
        leaves = put_each rs [];
        has = record { read = now; ordered = leaves_rising now 0 (2 ^ 64) (links.sound.node at links.place.stands).set.rising };
        parts = parts_now [] bare sound stands in_opened opened.sound opened.place.stands (sym sized) none_was;
        holes = λ k e. let it = holes_now [] bare sound stands in_opened opened.sound opened.place.stands none_was k e in puts_bytes.same k it.0 ∙ covers k it.0;
        sized = puts_bytes.sized;
      }
