-- The nodes of a forest in memory once those below missing references are lost.
use Rattle.std.proofs.Common.{◌≡◌, ℕ, ◌<◌, Bool, true, false, ◌&&◌, ◌||◌, arith, refl, cond, sym, ◌∙◌, ap, List, ◌++◌, take, drop, length, Option, Some, None, subst, ◌⊎◌, inl, inr, slice_get, slice_set, suc, nat_eq, nat_lt}
use Rattle.std.specs.List.{position}
use Rattle.std.proofs.Math.ListN.{length-set}
use Rattle.std.proofs.Math.Seq.{take-append_seam}
use Rattle.std.proofs.lemmas.Bool.{cases_lt}
use Rattle.std.proofs.lemmas.Bool.Decides.{nat_tests}
use Rattle.std.proofs.lemmas.List.{length-map}
use Rattle.std.proofs.lemmas.Option.{slice_get_within, slice_get_past, none-some}
use Rattle.h2_ref.specs.declared.faults.Why.{Why}
use Rattle.h2_ref.specs.declared.reference.Ref.{Ref}
use Rattle.h2_set.specs.Ranges.{holds, is_indirect}
use Rattle.h2_set.specs.RefSet.{RefSet}
use Rattle.h2_inode.specs.declared.inode.Inode.{Inode}
use Rattle.h2_set.specs.Forest.{loaded, untold}
use Rattle.h2_set.specs.Calls.{Loses}
use Rattle.h2_set.specs.ChangeLaws.{same_or_not}
use Rattle.h2_memory_sets.specs.declared.node.Node.{Node}
use Rattle.h2_memory_sets.specs.View.{stands_of, set_of, root_of, is_up, is_child, is_top, names, link_to, link_of, forest_with, any_of, names_same, lacks, loses, goes, is_lost, goes_with, lost, dropped, dropped_all, AllRooted}
use Rattle.h2_memory_sets.specs.Kept.{is_known, AreKept, IsInodeRoot}
use Rattle.h2_memory_sets.proofs.Nodes.{get_set, get_set_other}
use Rattle.h2_memory_sets.proofs.Keeping.{CameFrom, IsPlain, kept_from}
use Rattle.h2_memory_sets.proofs.Owned.{are_lower, chain_found}
use Rattle.h2_memory_sets.proofs.Parting.{alike, one_of, item_at, get_map, position_less}
use Rattle.h2_memory_sets.proofs.Rooted.{map_field}
use Rattle.h2_memory_sets.proofs.Passing.{any_true, any_some, any_none, and_parts, same_named, not_true, one_sort}
use Rattle.h2_memory_sets.proofs.Storing.{tested}

-- whether a node of the vector goes
abbrev pub goes_of : List Node → ℕ → ℕ → List Ref → List Ref → Option Node → Bool
goes_of xs root bits old new None = false
goes_of xs root bits old new (Some z) = goes root bits old new z || goes_with xs root old new z.root

-- a node with another set, and an inode that has it
abbrev pub given : Node → RefSet → Option Inode → Node
given x s i = record { set = s; loaded = x.loaded; up = x.up; root = x.root; low = x.low; bits = x.bits; dirty = x.dirty; copies = x.copies; leaf_bits = x.leaf_bits; inode = i; owner = x.owner; held = x.held; leaves = x.leaves }

neither : (a b : Bool) → a ≡ false → b ≡ false → (a || b) ≡ false
neither false false e f = refl
neither true b e f = absurd (cc)
neither false true e f = absurd (cc)

module _ (xs : List Node) (at : ℕ) (x y : Node) (s : RefSet) (inode : Option Inode) (kept : AreKept xs) (read : slice_get xs at ≡ Some x) (same : y ≡ x) where
  abbrev d : Node → Node
  d = dropped xs x.root x.bits (let t = x.set in t.refs) s.refs

  abbrev ds : List Node
  ds = dropped_all x.root x.bits (let t = x.set in t.refs) s.refs xs

  abbrev pub dropped_with : List Node
  dropped_with = slice_set (dropped_all x.root x.bits (let t = x.set in t.refs) s.refs xs) at (given y s inode)

  abbrev pub going : ℕ → Bool
  going m = goes_of xs x.root x.bits (let t = x.set in t.refs) s.refs (slice_get xs m)

  within : at < length xs
  within = slice_get_within xs at x read

  pub at_here : slice_get dropped_with at ≡ Some (given y s inode)
  at_here = get_set ds at (given y s inode) (let n : length ds ≡ length xs = length-map _ _ in omega (arith, n, within))

  at_other : (m : ℕ) → (m ≡ at → ⊥) → slice_get dropped_with m ≡ slice_get ds m
  at_other m ne = get_set_other ds at m (given y s inode) ne

  pub read_other : (m : ℕ) (z : Node) → (m ≡ at → ⊥) → slice_get xs m ≡ Some z → slice_get dropped_with m ≡ Some (d z)
  read_other m z ne got = at_other m ne ∙ get_map d xs m z got

  kept_same : {X : Type 0} (F : Option Node → X) → ((z : Node) → F (Some (lost z)) ≡ F (Some z)) → (z : Node) → F (Some (d z)) ≡ F (Some z)
  kept_same F same z = go (goes x.root x.bits (let t = x.set in t.refs) s.refs z || goes_with xs x.root (let t = x.set in t.refs) s.refs z.root)
    where
      go : (b : Bool) → F (Some (cond b (lost z) z)) ≡ F (Some z)
      go true = same z
      go false = refl

  pub other_field : {X : Type 0} (F : Option Node → X) → ((z : Node) → F (Some (lost z)) ≡ F (Some z)) → (m : ℕ) → (m ≡ at → ⊥) → F (slice_get dropped_with m) ≡ F (slice_get xs m)
  other_field F same m ne = ap F (at_other m ne) ∙ map_field F d xs (kept_same F same) m

  pub field : {X : Type 0} (F : Option Node → X) → ((z : Node) → F (Some (lost z)) ≡ F (Some z)) → F (Some (given y s inode)) ≡ F (Some y) → (m : ℕ) → F (slice_get dropped_with m) ≡ F (slice_get xs m)
  field F same_lost same_set m = elim (same_or_not m at) as (λ _. F (slice_get dropped_with m) ≡ F (slice_get xs m)) [
    | inl e ↦ subst (λ z. F (slice_get dropped_with z) ≡ F (slice_get xs z)) (sym e) (ap F at_here ∙ same_set ∙ ap (λ (z : Node). F (Some z)) same ∙ ap F (sym read))
    | inr ne ↦ other_field F same_lost m ne
  ]

  pub at_stays : going at ≡ false
  at_stays = ap (goes_of xs x.root x.bits (let t = x.set in t.refs) s.refs) read ∙ neither _ _ (go (nat_eq x.root x.root) (nat_lt x.bits x.bits) (let e : nat_lt x.bits x.bits ≡ false = grind (arith, nat_tests) in e)) apart
    where
      -- what node at belongs to is in other trees
      apart : goes_with xs x.root (let t = x.set in t.refs) s.refs x.root ≡ false
      apart = elim (tested (goes_with xs x.root (let t = x.set in t.refs) s.refs x.root)) as (λ _. goes_with xs x.root (let t = x.set in t.refs) s.refs x.root ≡ false) [
        | inr e ↦ e
        | inl e ↦
            let it = chain_found (is_lost x.root (let t = x.set in t.refs) s.refs) xs (suc x.root) x.root e in
            let less = it.lower (are_lower xs kept) in
            let own : (it.owner).root ≡ x.root = alike _ _ (and_parts (nat_eq (it.owner).root x.root) _ it.passes).0 in
            absurd (omega (arith, less, own))
      ]

      go : (a b : Bool) → b ≡ false → (a && (b && loses (let t = x.set in t.refs) s.refs x.low)) ≡ false
      go true false e = refl
      go false b e = refl
      go true true e = absurd (cc)

  pub not_at : (m : ℕ) → going m ≡ true → m ≡ at → ⊥
  not_at m e same = let clash : true ≡ false = sym e ∙ ap going same ∙ at_stays in cc

  -- a node that goes is there
  pub there_of : (m : ℕ) → going m ≡ true → (z : Node) × (slice_get xs m ≡ Some z) × ((goes x.root x.bits (let t = x.set in t.refs) s.refs z || goes_with xs x.root (let t = x.set in t.refs) s.refs z.root) ≡ true)
  there_of m e = elim (cases_lt m (length xs)) as (λ _. (z : Node) × (slice_get xs m ≡ Some z) × ((goes x.root x.bits (let t = x.set in t.refs) s.refs z || goes_with xs x.root (let t = x.set in t.refs) s.refs z.root) ≡ true)) [
    | inl lt ↦ let it = item_at xs m lt in (it.0, it.1, sym (ap (goes_of xs x.root x.bits (let t = x.set in t.refs) s.refs) it.1) ∙ e)
    | inr ge ↦ let clash : true ≡ false = sym e ∙ ap (goes_of xs x.root x.bits (let t = x.set in t.refs) s.refs) (slice_get_past xs m ge) in absurd (cc)
  ]

  pub gone : (m : ℕ) → going m ≡ true → stands_of (slice_get dropped_with m) ≡ false
  gone m e =
      let it = there_of m e in
      ap stands_of (read_other m it.0 (not_at m e) it.1) ∙ ap (λ b. stands_of (Some (cond b (lost it.0) it.0))) it.2

  pub stays_read : (m : ℕ) (z : Node) → (m ≡ at → ⊥) → slice_get xs m ≡ Some z → going m ≡ false → slice_get dropped_with m ≡ Some z
  stays_read m z ne got e =
      let miss : (goes x.root x.bits (let t = x.set in t.refs) s.refs z || goes_with xs x.root (let t = x.set in t.refs) s.refs z.root) ≡ false = sym (ap (goes_of xs x.root x.bits (let t = x.set in t.refs) s.refs) got) ∙ e in
      read_other m z ne got ∙ ap (λ b. Some (cond b (lost z) z)) miss

  -- of another node that doesn't go
  pub still_other : {X : Type 0} (F : Option Node → X) → (m : ℕ) → (m ≡ at → ⊥) → going m ≡ false → F (slice_get dropped_with m) ≡ F (slice_get xs m)
  still_other F m ne e = elim (cases_lt m (length xs)) as (λ _. F (slice_get dropped_with m) ≡ F (slice_get xs m)) [
    | inl lt ↦ let it = item_at xs m lt in ap F (stays_read m it.0 ne it.1 e) ∙ ap F (sym it.1)
    | inr ge ↦ ap F (at_other m ne) ∙ ap F (slice_get_past ds m (let n : length ds ≡ length xs = length-map _ _ in omega (arith, n, ge))) ∙ ap F (sym (slice_get_past xs m ge))
  ]

  -- of a node that doesn't go, but for its set and its inode at node at
  pub still_field : {X : Type 0} (F : Option Node → X) → F (Some (given y s inode)) ≡ F (Some y) → (m : ℕ) → going m ≡ false → F (slice_get dropped_with m) ≡ F (slice_get xs m)
  still_field F same_set m e = elim (same_or_not m at) as (λ _. F (slice_get dropped_with m) ≡ F (slice_get xs m)) [
    | inl here ↦ subst (λ z. F (slice_get dropped_with z) ≡ F (slice_get xs z)) (sym here) (ap F at_here ∙ same_set ∙ ap (λ (z : Node). F (Some z)) same ∙ ap F (sym read))
    | inr ne ↦ still_other F m ne e
  ]

  pub stays : (m : ℕ) → going m ≡ false → stands_of (slice_get dropped_with m) ≡ stands_of (slice_get xs m)
  stays m e = still_field stands_of refl m e

  pub none_new : (m : ℕ) → stands_of (slice_get dropped_with m) ≡ true → stands_of (slice_get xs m) ≡ true
  none_new m now = elim (tested (going m)) as (λ _. stands_of (slice_get xs m) ≡ true) [
    | inl e ↦ let clash : true ≡ false = sym now ∙ gone m e in absurd (cc)
    | inr e ↦ sym (stays m e) ∙ now
  ]

  -- a child that is found and doesn't go is found still
  pub first : (m k : ℕ) → ((c : ℕ) → position (is_child m k) xs ≡ Some c → going c ≡ false) → position (is_child m k) dropped_with ≡ position (is_child m k) xs
  first m k stay = position_less (is_child m k) xs dropped_with (length-set ds at (given y s inode) ∙ length-map _ _) fewer found
    where
      tests : (i : ℕ) (a b : Node) → slice_get xs i ≡ Some a → slice_get dropped_with i ≡ Some b → going i ≡ false → is_child m k b ≡ is_child m k a
      tests i a b ra rb e = elim (same_or_not i at) as (λ _. is_child m k b ≡ is_child m k a) [
        | inr ne ↦ ap (is_child m k) (one_of b a (sym rb ∙ stays_read i a ne ra e))
        | inl here ↦
            let a_is : y ≡ a = same ∙ one_of x a (sym read ∙ subst (λ z. slice_get xs z ≡ Some a) here ra) in
            let b_is : given y s inode ≡ b = one_of (given y s inode) b (sym at_here ∙ subst (λ z. slice_get dropped_with z ≡ Some b) here rb) in
            ap (is_child m k) (sym b_is) ∙ ap (is_child m k) a_is
      ]

      fewer : (i : ℕ) (a b : Node) → slice_get xs i ≡ Some a → slice_get dropped_with i ≡ Some b → is_child m k b ≡ true → is_child m k a ≡ true
      fewer i a b ra rb e = elim (tested (going i)) as (λ _. is_child m k a ≡ true) [
        | inr miss ↦ sym (tests i a b ra rb miss) ∙ e
        | inl yes' ↦
            let off : b.loaded ≡ false = sym (ap stands_of rb) ∙ gone i yes' in
            let clash : true ≡ false = sym (and_parts b.loaded (is_up m b.up && nat_eq b.low k) e).0 ∙ off in
            absurd (cc)
      ]

      found : (c : ℕ) → position (is_child m k) xs ≡ Some c → (a b : Node) → slice_get xs c ≡ Some a → slice_get dropped_with c ≡ Some b → is_child m k a ≡ true → is_child m k b ≡ true
      found c e a b ra rb yes' = tests c a b ra rb (stay c e) ∙ yes'

  link_by : (b : Bool) (o o' : Option ℕ) → (b ≡ true → o' ≡ o) → cond b (link_to o') untold ≡ cond b (link_to o) untold
  link_by true o o' h = ap link_to (h refl)
  link_by false o o' h = refl

  pub link_other : (m k : ℕ) → (m ≡ at → ⊥) → ((c : ℕ) → link_of xs m k ≡ loaded c → going c ≡ false) → link_of dropped_with m k ≡ link_of xs m k
  link_other m k ne stay =
      let set = other_field set_of (λ z. refl) m ne in
      ap (λ (t : RefSet). cond (names t.refs k) (link_to (position (is_child m k) dropped_with)) untold) set ∙ link_by _ _ _ (λ named. first m k (λ c e. stay c (rw (e, named) refl)))

  -- what a missing reference means
  pub loses_is : (spare epoch room failed bad : ℕ) (met : Option (ℕ × Why)) (key : ℕ) → loses (let t = x.set in t.refs) s.refs key ≡ true → Loses (forest_with xs spare epoch room failed bad met) at s key
  loses_is spare epoch room failed bad met key e =
      let it = any_true _ _ e in
      let parts = and_parts (holds key it.ref) (lacks s.refs it.ref) it.passes in
      let none = not_true _ parts.1 in
      record {
        place = it.place;
        lost = it.ref;
        was = ap (λ (o : Option Node). slice_get (let t = set_of o in t.refs) it.place) read ∙ it.read;
        lacks = λ i r got key' sort. let clash : true ≡ false = sym (any_some (names_same it.ref) s.refs i r got (same_named it.ref r key' sort)) ∙ none in cc;
        held = parts.0;
      }

  pub is_losing : (spare epoch room failed bad : ℕ) (met : Option (ℕ × Why)) (key : ℕ) → Loses (forest_with xs spare epoch room failed bad met) at s key → loses (let t = x.set in t.refs) s.refs key ≡ true
  is_losing spare epoch room failed bad met key l =
      let none : any_of (names_same l.lost) s.refs ≡ false = any_none (names_same l.lost) s.refs (λ i r got. differs i r got) in
      any_some _ (let t = x.set in t.refs) l.place l.lost (sym (ap (λ (o : Option Node). slice_get (let t = set_of o in t.refs) l.place) read) ∙ l.was) (let held = l.held in rw (held, none) refl)
    where
      differs : (i : ℕ) (r : Ref) → slice_get s.refs i ≡ Some r → names_same l.lost r ≡ false
      differs i r got = elim (tested (names_same l.lost r)) as (λ _. names_same l.lost r ≡ false) [
        | inr miss ↦ miss
        | inl yes' ↦ let p = and_parts (nat_eq r.key (l.lost).key) _ yes' in absurd (l.lacks i r got (alike _ _ p.0) (one_sort (is_indirect l.lost) (is_indirect r) p.1))
      ]

  -- the roots of what stays stay
  pub rooted_drop : AllRooted xs → ((m : ℕ) → stands_of (slice_get dropped_with m) ≡ true → going (root_of (slice_get xs m)) ≡ false) → AllRooted dropped_with
  rooted_drop rooted stay i now =
      let root : root_of (slice_get dropped_with i) ≡ root_of (slice_get xs i) = field root_of (λ z. refl) refl i in
      ap (λ z. is_top (slice_get dropped_with z)) root ∙ still_field is_top refl (root_of (slice_get xs i)) (stay i now) ∙ rooted i (none_new i now)

  -- what stands of the nodes of inodes still does
  pub kept_drop : ((v : Inode) → inode ≡ Some v → IsInodeRoot at (given y s inode) v) → (is_known x.inode ≡ true → is_known inode ≡ true) → AreKept dropped_with
  kept_drop holds known = kept_from xs dropped_with kept from
    where
      long : length dropped_with ≡ length xs
      long = length-set ds at (given y s inode) ∙ length-map _ _

      here : (z : Node) → given y s inode ≡ z → CameFrom xs (length dropped_with) at z
      here z is = subst (CameFrom xs (length dropped_with) at) is (record {
        old = x;
        read = read;
        owner = ap (λ (u : Node). u.owner) same;
        root = ap (λ (u : Node). u.root) same;
        bare = λ e. ap (λ (u : Node). u.up) same ∙ e;
        above = λ u up. let lt = kept.above at x u read (sym (ap (λ (v : Node). v.up) same) ∙ up) in omega (arith, long, lt);
        loaded = λ o own on. sym (ap (λ (u : Node). u.loaded) same) ∙ on;
        inode = holds;
        known = λ on e. known e;
      })

      stayed : (i : ℕ) (z a : Node) → slice_get xs i ≡ Some z → z ≡ a → CameFrom xs (length dropped_with) i a
      stayed i z a got is = subst (CameFrom xs (length dropped_with) i) is (record {
        old = z;
        read = got;
        owner = refl;
        root = refl;
        bare = λ e. e;
        above = λ u up. let lt = kept.above i z u got up in omega (arith, long, lt);
        loaded = λ o own on. on;
        inode = λ v e. kept.inode i z v got e;
        known = λ on e. e;
      })

      went : (i : ℕ) (z a : Node) → slice_get xs i ≡ Some z → lost z ≡ a → CameFrom xs (length dropped_with) i a
      went i z a got is = subst (CameFrom xs (length dropped_with) i) is (record {
        old = z;
        read = got;
        owner = refl;
        root = refl;
        bare = λ e. refl;
        above = λ u up. absurd (none-some u up);
        loaded = λ o own on. absurd (let clash : false ≡ true = on in cc);
        inode = λ v e. absurd (none-some v e);
        known = λ on e. absurd (let clash : false ≡ true = on in cc);
      })

      from : (i : ℕ) (a : Node) → slice_get dropped_with i ≡ Some a → CameFrom xs (length dropped_with) i a ⊎ IsPlain (length dropped_with) a
      from i a got = elim (same_or_not i at) as (λ _. CameFrom xs (length dropped_with) i a ⊎ IsPlain (length dropped_with) a) [
        | inl e ↦ inl (subst (λ z. CameFrom xs (length dropped_with) z a) (sym e) (here a (one_of (given y s inode) a (sym at_here ∙ subst (λ z. slice_get dropped_with z ≡ Some a) e got))))
        | inr ne ↦
            let lt = slice_get_within dropped_with i a got in
            let it = item_at xs i (omega (arith, lt, long)) in
            let z = it.0 in
            elim (tested (going i)) as (λ _. CameFrom xs (length dropped_with) i a ⊎ IsPlain (length dropped_with) a) [
              | inr e ↦ inl (stayed i z a it.1 (one_of z a (sym (stays_read i z ne it.1 e) ∙ got)))
              | inl e ↦
                  let gone' : (goes x.root x.bits (let t = x.set in t.refs) s.refs z || goes_with xs x.root (let t = x.set in t.refs) s.refs z.root) ≡ true = sym (ap (goes_of xs x.root x.bits (let t = x.set in t.refs) s.refs) it.1) ∙ e in
                  inl (went i z a it.1 (one_of (lost z) a (sym (read_other i z ne it.1 ∙ ap (λ b. Some (cond b (lost z) z)) gone') ∙ got)))
            ]
      ]

-- a node isn't lost by what is missing in its own set
pub own_stays : (xs : List Node) (at : ℕ) (x : Node) (s : RefSet) (kept : AreKept xs) (read : slice_get xs at ≡ Some x) → dropped xs x.root x.bits (let t = x.set in t.refs) s.refs x ≡ x
own_stays xs at x s kept read =
    let miss : (goes x.root x.bits (let t = x.set in t.refs) s.refs x || goes_with xs x.root (let t = x.set in t.refs) s.refs x.root) ≡ false = sym (ap (goes_of xs x.root x.bits (let t = x.set in t.refs) s.refs) read) ∙ at_stays xs at x x s None kept read refl in
    ap (λ b. cond b (lost x) x) miss

-- all nodes of a vector were written anew
pub dropped_written : (xs zs ys : List Node) (n root bits : ℕ) (old new : List Ref) → n ≡ length ys → zs ≡ xs → ys ≡ dropped_all root bits old new zs → take n (ys ++ drop (length ys) xs) ≡ dropped_all root bits old new xs
dropped_written xs zs ys n root bits old new len same is = ap (λ k. take k (ys ++ drop (length ys) xs)) len ∙ take-append_seam ys _ ∙ is ∙ ap (dropped_all root bits old new) same

pub dropped_length : (xs : List Node) (root bits : ℕ) (old new : List Ref) (items : List Node) (at : ℕ) → items ≡ dropped_all root bits old new xs → at < length xs → at < length items
dropped_length xs root bits old new items at is lt = let n : length items ≡ length xs = ap length is ∙ length-map _ _ in omega (arith, n, lt)
