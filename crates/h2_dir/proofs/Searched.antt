-- What a search among the leaves under a name's keys tells of the directory.
use Rattle.std.specs.Prelude.{◌≡◌, ◌<◌, ◌≤◌, ◌⊎◌, ℕ, ◌+◌, ◌/◌, ◌^◌, true, false, List, Option, Some, None, slice_get}
use Rattle.std.proofs.Common.{sym, ◌∙◌, arith, inl, inr, subst}
use Rattle.std.proofs.lemmas.Bool.Decides.{nat_tests}
use Rattle.h2_ref.specs.declared.faults.Trouble.{Trouble}
use Rattle.h2_ref.specs.declared.faults.Trouble.TheVariants.{NoMemory}
use Rattle.h2_ref.specs.declared.reference.Dirent.{Dirent}
use Rattle.h2_ref.specs.declared.reference.Ref.{Ref}
use Rattle.h2_set.specs.Forest.{Forest, Reaches}
use Rattle.h2_set.specs.Calls.{Unchanged}
use Rattle.h2_tree.specs.Changes.{is_between, LoadsTouched, LoadsIn, Lists}
use Rattle.h2_dirkey.specs.Name.{IsName}
use Rattle.h2_dirkey.specs.Key.{upper_bits, least_key}
use Rattle.h2_dir.specs.Names.{AnyLongCandidate, NoneNamed, IsPlaceOfName, Scanned}
use Rattle.h2_dir.specs.Finding.{last_key, IsFound, IsMissing, MayLoad}
use Rattle.h2_dir.proofs.Unchanging.{named_stays, may_stays}
use Rattle.h2_dir.proofs.Agreeing.{key_between}

touched_same : (f g h : Forest) (from to : ℕ) → LoadsTouched f g from to → Unchanged g h → LoadsTouched f h from to
touched_same f g h from to touched same = record {
  only = λ m stands.
      let before = same.none_new m stands in
      let place = (same.same m before).place in
      elim (touched.only m before) as (λ _. (f.stands m ≡ true) ⊎ ((h.low m ≤ to) × (from < h.low m + 2 ^ h.bits m))) [
        | inl old ↦ inl old
        | inr new ↦ inr (subst (λ n. n ≤ to) (sym place.low) new.0, subst (λ n. from < n + 2 ^ h.bits m) (sym place.low) (subst (λ n. from < g.low m + 2 ^ n) (sym place.bits) new.1))
      ];
}

-- all loads are in the tree
pub loads_same : (f g h : Forest) (at from to : ℕ) → LoadsIn f g at from to → Unchanged g h → LoadsIn f h at from to
loads_same f g h at from to loads same = record {
  touched = touched_same f g h from to loads.touched same;
  tree = λ m gone stands. let before = same.none_new m stands in (same.same m before).place.root ∙ loads.tree m gone before;
  some = λ m gone stands. loads.some m gone (same.none_new m stands);
}

pub loads_none : (f : Forest) (at from to : ℕ) → LoadsIn f f at from to
loads_none f at from to = record {
  touched = record { only = λ m stands. inl stands };
  tree = λ m gone stands. let clash : false ≡ true = sym gone ∙ stands in absurd (cc);
  some = λ m gone stands. let clash : false ≡ true = sym gone ∙ stands in absurd (cc);
}

none_stays : (f g : Forest) (xs : List Ref) (name : List ℕ) → ((r : Ref) → f.name r ≡ g.name r) → NoneNamed f xs name → NoneNamed g xs name
none_stays f g xs name same none i leaf read named = none i leaf read (named_stays g f leaf name same named)

place_stays : (f g : Forest) (xs : List Ref) (name : List ℕ) (i : ℕ) → ((r : Ref) → f.name r ≡ g.name r) → IsPlaceOfName f xs name i → IsPlaceOfName g xs name i
place_stays f g xs name i same h = record { leaf = h.leaf; read = h.read; named = may_stays f g h.leaf name (λ r. sym (same r)) h.named }

pub scanned_stays : (f g : Forest) (xs ys : List Ref) (name : List ℕ) (o : Option ℕ) → ys ≡ xs → ((r : Ref) → f.name r ≡ g.name r) → Scanned f ys name o → Scanned g xs name o
scanned_stays f g xs ys name None e same h = subst (λ l. NoneNamed g l name) e (none_stays f g ys name same h)
scanned_stays f g xs ys name (Some i) e same h = subst (λ l. IsPlaceOfName g l name i) e (place_stays f g ys name i same h)

-- a key among those of the name has its upper bits
between_upper : (name : List ℕ) (leaf : Ref) → is_between (least_key name) (last_key name) leaf ≡ true → leaf.key / 2 ^ 15 ≡ upper_bits name
between_upper name leaf e =
    let low : least_key name ≤ leaf.key = grind (arith, nat_tests) in
    let high : leaf.key ≤ last_key name = grind (arith, nat_tests) in
    omega arith

pub found_there : (f : Forest) (dir : ℕ) (name : List ℕ) (items : List Ref) (i key : ℕ) (entry : Dirent) → IsName name → Lists f dir (least_key name) (last_key name) items → IsPlaceOfName f items name i
    → ((leaf : Ref) → slice_get items i ≡ Some leaf → (leaf.key ≡ key) × (leaf.dirent ≡ Some entry)) → IsFound f dir name key entry
found_there f dir name items i key entry good lists at is =
    let one = lists.each i at.leaf at.read in
    let says = is at.leaf at.read in
    record {
      leaf = at.leaf;
      path = subst (λ k. Reaches f k dir (Some at.leaf)) says.0 one.1;
      key_is = says.0;
      entry_is = says.1;
      under = record { good = good; upper = subst (λ k. k / 2 ^ 15 ≡ upper_bits name) says.0 (between_upper name at.leaf one.0) };
      named = at.named;
    }

-- a long name that was to be read is one of an entry under a key of the name
pub candidate_loads : (f g : Forest) (dir : ℕ) (name : List ℕ) (items : List Ref) (e : Trouble) → Lists g dir (least_key name) (last_key name) items → (e ≡ NoMemory) ⊎ AnyLongCandidate items name → MayLoad f g dir name e
candidate_loads f g dir name items e lists (inl none) = inl none
candidate_loads f g dir name items e lists (inr any) =
    let one = lists.each any.place any.leaf any.read in
    inr (inr (record { leaf = any.leaf; path = one.1; upper = between_upper name any.leaf one.0; long = any.long }))

pub missing_there : (f : Forest) (dir : ℕ) (name : List ℕ) (items : List Ref) → Lists f dir (least_key name) (last_key name) items → NoneNamed f items name → IsMissing f dir name
missing_there f dir name items lists none = record {
  none = λ leaf path under named. let at = lists.all leaf.key leaf path (key_between name leaf under) in none at.0 leaf at.1 named;
  loaded = λ good unloaded. lists.loaded unloaded;
}
