-- The entries that a directory holds, where one went in or out.
use Rattle.std.specs.Prelude.{◌≡◌, ◌≤◌, ℕ, ◌+◌, ◌-◌, ◌^◌, Bool, true, false, if◌then◌else◌, List, [], ◌∷◌, replicate, length, Contains, Option, Some, None, refl}
use Rattle.std.proofs.Common.{ap, sym, ◌∙◌, arith, inl, inr, subst}
use Rattle.std.proofs.lemmas.List.{take_at}
use Rattle.std.proofs.lemmas.List.Sorted.{IsPermutation-sym, length_permutation}
use Rattle.std.proofs.lemmas.Option.{none-some, same_Some}
use Rattle.std.specs.FinMap.{get, insert, remove, from_entries}
use Rattle.h2_num.specs.declared.block.Block.{Block}
use Rattle.h2_ref.specs.declared.reference.Check.{Check}
use Rattle.h2_ref.specs.declared.reference.Dirent.{Dirent}
use Rattle.h2_ref.specs.declared.reference.Ref.{Ref}
use Rattle.h2_set.specs.Ranges.{Rising, limit, find, holds, put, without}
use Rattle.h2_set.specs.Forest.{Forest, IsSound, LeavesOf, KeepsLeaves}
use Rattle.h2_set.specs.LeafLaws.{Rising-low, leaves_rising}
use Rattle.h2_dirkey.specs.Key.{IsNameUnder}
use Rattle.h2_inode.specs.Nodes.{Fields, Told}
use Rattle.h2_inode.specs.Loaded.{at_root, loaded_nodes, no_content}
use Rattle.h2_inode.specs.Directory.{Entries, IsEntry}
use Rattle.h2_dir.specs.Changing.{entry_ref, short_entry, long_entry, HasBlockIfLong, TellsName}
use Rattle.h2_dir.specs.Names.{MayBeNamed}
use Rattle.h2_dir.specs.Finding.{HoldsEntries}
use Rattle.h2_dir.proofs.Agreeing.{one_named, told_once, found_agrees}
use Rattle.h2_dir.proofs.Members.{first, behind}
use Rattle.h2_dir.proofs.Ordered.{order, differ_still}
use Rattle.h2_dir.proofs.Entered.{put_beside, cut_beside, each_as, differ_more, differ_rest, map_put, map_cut}

rising_wide : (low high more : ℕ) (l : List Ref) → high ≤ more → Rising low high l → Rising low more l
rising_wide low high more [] le h = omega (arith, le, h)
rising_wide low high more (r ∷ rs) le h = (h.0, rising_wide (limit r) high more rs le h.1)

-- the leaves of a tree rise
pub tree_rising : (f : Forest) (at : ℕ) (l : List Ref) → IsSound f → f.stands at ≡ true → LeavesOf f at l → Rising 0 (2 ^ 64) l
tree_rising f at l sound stands leaves =
    let node = sound.node at stands in
    rising_wide 0 (f.low at + 2 ^ f.bits at) (2 ^ 64) l node.ends (Rising-low (f.low at) 0 (f.low at + 2 ^ f.bits at) l (omega arith) (leaves_rising leaves (f.low at) (f.low at + 2 ^ f.bits at) node.inside))

member_first : (key : ℕ) (q leaf : Ref) (qs : List Ref) (b : Bool) → holds key q ≡ b → find key (q ∷ qs) ≡ Some leaf → (find key qs ≡ Some leaf → Contains qs leaf) → Contains (q ∷ qs) leaf
member_first key q leaf qs b in_q found rest = by b in_q
  where
    by : (b : Bool) → holds key q ≡ b → Contains (q ∷ qs) leaf
    by true e = subst (λ x. Contains (q ∷ qs) x) (same_Some q leaf (sym (ap (λ x. if x then Some q else find key qs) e) ∙ found)) (first q qs)
    by false e = behind q qs leaf (rest (sym (ap (λ x. if x then Some q else find key qs) e) ∙ found))

pub found_member : (key : ℕ) (l : List Ref) (leaf : Ref) → find key l ≡ Some leaf → Contains l leaf
found_member key [] leaf found = absurd (none-some leaf found)
found_member key (q ∷ qs) leaf found = member_first key q leaf qs (holds key q) refl found (found_member key qs leaf)

-- what a name's block tells, it tells later
pub tells_later : (f g : Forest) (leaf : Ref) (name : List ℕ) (block : Option (Block × Check)) → ((r : Ref) → g.name r ≡ f.name r) → TellsName f leaf name block → TellsName g leaf name block
tells_later f g leaf name None names tells = tells
tells_later f g leaf name (Some block) names tells = names leaf ∙ tells

module _ (g : Forest) (new : ℕ → Option Fields) (now : Ref → Option Told) (may : ℕ → ℕ → Bool) (dir : ℕ) where
  abbrev One : Ref → List ℕ × ℕ → Type 0
  One leaf named = IsEntry (loaded_nodes g new now no_content) (λ target number. may target number ≡ true) (at_root dir) leaf named

  -- the entry that is put in
  pub new_entry : (epoch key : ℕ) (name : List ℕ) (block : Option (Block × Check)) (number target : ℕ) → HasBlockIfLong name block → IsNameUnder key name → may target number ≡ true
      → TellsName g (entry_ref epoch key name block number target) name block → One (entry_ref epoch key name block number target) (name, number)
  new_entry epoch key name None number target short under fits tells = record {
    kind_is = refl;
    entry = short_entry name number target;
    entry_is = refl;
    number_is = refl;
    name_is = inl (short, sym (take_at name (replicate (64 - length name) 0) (length name) refl));
    length_is = refl;
    under = under;
    target_fits = fits;
  }
  new_entry epoch key name (Some block) number target long under fits tells = record {
    kind_is = refl;
    entry = long_entry name number target;
    entry_is = refl;
    number_is = refl;
    name_is = inr (long, tells);
    length_is = refl;
    under = under;
    target_fits = fits;
  }

module _ (f g : Forest) (old new : ℕ → Option Fields) (was now : Ref → Option Told) (may : ℕ → ℕ → Bool) (dir size : ℕ) (entries : Entries) (h : HoldsEntries f old was may dir size entries) (names : (r : Ref) → g.name r ≡ f.name r) where
  -- an entry that was there is one
  later : (leaf : Ref) (named : List ℕ × ℕ) → One f old was may dir leaf named → One g new now may dir leaf named
  later leaf named one = record {
    kind_is = one.kind_is;
    entry = one.entry;
    entry_is = one.entry_is;
    number_is = one.number_is;
    name_is = elim one.name_is [ inl short ↦ inl short | inr long ↦ inr (long.0, names leaf ∙ long.1) ];
    length_is = one.length_is;
    under = one.under;
    target_fits = one.target_fits;
  }

  -- where the leaves stay, so do the entries
  pub entries_same : KeepsLeaves f g dir → HoldsEntries g new now may dir size entries
  entries_same keeps = record {
    leaves = h.leaves;
    has = record { read = keeps h.leaves h.has.read; ordered = h.has.ordered };
    named = h.named;
    each = each_as (One f old was may dir) (One g new now may dir) h.leaves h.named later h.each;
    differ = h.differ;
    counted = h.counted;
    entries_are = h.entries_are;
  }

  pub entries_more : (leaf : Ref) (name : List ℕ) (number : ℕ) → One g new now may dir leaf (name, number) → find leaf.key h.leaves ≡ None → get entries name ≡ None → LeavesOf g dir (put leaf h.leaves) → Rising 0 (2 ^ 64) (put leaf h.leaves)
      → HoldsEntries g new now may dir (size + 1) (insert entries name number)
  entries_more leaf name number one free none leaves rising =
      let p = put_beside (One g new now may dir) h.leaves h.named leaf (name, number) one free (each_as (One f old was may dir) (One g new now may dir) h.leaves h.named later h.each) in
      let differ = differ_more (name, number) h.named h.differ (sym (ap (λ m. get m name) h.entries_are) ∙ none) in
      let long : length p.named ≡ length ((name, number) ∷ h.named) = length_permutation ((name, number) ∷ h.named) p.named p.same in
      let counted = h.counted in
      record {
        leaves = put leaf h.leaves;
        has = record { read = leaves; ordered = rising };
        named = p.named;
        each = p.each;
        differ = differ_still ((name, number) ∷ h.named) p.named p.same differ;
        counted = omega (arith, long, counted);
        entries_are = ap (λ m. insert m name number) h.entries_are ∙ sym (map_put (name, number) h.named p.named p.same differ);
      }

  pub entries_less : (leaf : Ref) (name : List ℕ) → find leaf.key h.leaves ≡ Some leaf → MayBeNamed f leaf name → LeavesOf g dir (without leaf.key h.leaves) → Rising 0 (2 ^ 64) (without leaf.key h.leaves)
      → HoldsEntries g new now may dir (size - 1) (remove entries name)
  entries_less leaf name found maybe leaves rising =
      let c = cut_beside (One f old was may dir) h.leaves h.named leaf found h.each in
      let name_is : (c.one).0 ≡ name = told_once f old was may dir size entries h leaf name (c.one).0 (one_named f old was may dir size entries h leaf c.one c.is) maybe in
      let long : length h.named ≡ length (c.one ∷ c.named) = length_permutation (c.one ∷ c.named) h.named c.same in
      let counted = h.counted in
      record {
        leaves = without leaf.key h.leaves;
        has = record { read = leaves; ordered = rising };
        named = c.named;
        each = each_as (One f old was may dir) (One g new now may dir) (without leaf.key h.leaves) c.named later c.each;
        differ = differ_rest c.one c.named (differ_still h.named (c.one ∷ c.named) (IsPermutation-sym (c.one ∷ c.named) h.named c.same) h.differ);
        counted = omega (arith, long, counted);
        entries_are = ap (λ m. remove m name) h.entries_are ∙ ap (remove (from_entries {R = order} h.named)) (sym name_is) ∙ map_cut c.one c.named h.named c.same h.differ;
      }

  -- and the number that the entry has is the one of its name
  pub entry_number : (leaf : Ref) (name : List ℕ) (entry : Dirent) → find leaf.key h.leaves ≡ Some leaf → MayBeNamed f leaf name → leaf.dirent ≡ Some entry → get entries name ≡ Some entry.number
  entry_number leaf name entry found maybe is = found_agrees f old was may dir size entries h name leaf entry (found_member leaf.key h.leaves leaf found) maybe is
