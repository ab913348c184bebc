-- An entry that goes into a directory's list of leaves, or out of it, and the map that the directory stands for.
use Rattle.std.specs.Prelude.{◌≡◌, ◌≢◌, ◌<◌, ℕ, zero, suc, Bool, true, false, cond, if◌then◌else◌, nat_lt, ◌==◌, List, [], ◌∷◌, length, Contains, Option, Some, None, IsPermutation, refl}
use Rattle.std.proofs.Common.{ap, sym, ◌∙◌, arith, subst, get_or}
use Rattle.std.proofs.lemmas.Bool.Decides.{nat_tests}
use Rattle.std.proofs.lemmas.Nat.{pow_pos}
use Rattle.std.proofs.lemmas.Option.{none-some, same_Some, slice_get-get_or}
use Rattle.std.proofs.lemmas.List.Sorted.{IsPermutation-refl, IsPermutation-sym, IsPermutation-trans, IsPermutation-cons, IsPermutation-middle}
use Rattle.std.specs.Ordering.{eq_by_cmp}
use Rattle.std.specs.FinMap.{get, insert, remove, from_entries, get-remove, get-insert, same_map}
use Rattle.h2_ref.specs.declared.reference.Ref.{Ref}
use Rattle.h2_set.specs.Ranges.{find, holds, put, without}
use Rattle.h2_set.specs.PathLaws.{in_holds}
use Rattle.h2_inode.specs.Access.{OneByOne}
use Rattle.h2_inode.specs.FoundLaws.{exact_names, names_total}
use Rattle.h2_dir.proofs.Members.{at_place}
use Rattle.h2_dir.proofs.Ordered.{Name, Pair, order, Differ, differ_still, equal_is, member_of, has_member, same_of}

-- The list beside that of the leaves

-- a list beside that of the leaves with one more: the same but for what stands beside the new leaf
pub record Put (P : Ref → Pair → Type 0) (xs : List Ref) (ys : List Pair) (r : Ref) (y : Pair) : Type 0 where
  pub named : List Pair
  pub each : OneByOne P (put r xs) named
  pub same : IsPermutation (y ∷ ys) named

pub holds_own : (q : Ref) → holds q.key q ≡ true
holds_own q = let pos = pow_pos q.keybits in in_holds q.key q (omega arith) (omega (arith, pos))

put_second : (P : Ref → Pair → Type 0) (q r : Ref) (qs : List Ref) (z y : Pair) (zs : List Pair) → nat_lt r.key q.key ≡ false → find r.key (q ∷ qs) ≡ None → OneByOne P (q ∷ qs) (z ∷ zs)
    → (find r.key qs ≡ None → Put P qs zs r y) → (b : Bool) → nat_lt q.key r.key ≡ b → (c : Bool) → holds r.key q ≡ c → Put P (q ∷ qs) (z ∷ zs) r y
put_second P q r qs z y zs above free p rest b lt true in_q = absurd (none-some q (sym free ∙ ap (λ x. if x then Some q else find r.key qs) in_q))
put_second P q r qs z y zs above free p rest true lt false in_q =
    let more = rest (sym (ap (λ x. if x then Some q else find r.key qs) in_q) ∙ free) in
    let is : put r (q ∷ qs) ≡ q ∷ put r qs = ap (λ x. if x then r ∷ q ∷ qs else (if nat_lt q.key r.key then q ∷ put r qs else r ∷ qs)) above ∙ ap (λ x. if x then q ∷ put r qs else r ∷ qs) lt in
    record {
      named = z ∷ more.named;
      each = subst (λ l. OneByOne P l (z ∷ more.named)) (sym is) (p.0, more.each);
      same = IsPermutation-trans _ _ _ (IsPermutation-middle (y ∷ []) z zs) (IsPermutation-cons z _ _ more.same);
    }
put_second P q r qs z y zs above free p rest false lt false in_q =
    let key : q.key ≡ r.key = grind (arith, nat_tests) in
    let clash : true ≡ false = sym (holds_own q) ∙ ap (λ k. holds k q) key ∙ in_q in
    absurd (cc)

put_first : (P : Ref → Pair → Type 0) (q r : Ref) (qs : List Ref) (z y : Pair) (zs : List Pair) → P r y → find r.key (q ∷ qs) ≡ None → OneByOne P (q ∷ qs) (z ∷ zs)
    → (find r.key qs ≡ None → Put P qs zs r y) → (b : Bool) → nat_lt r.key q.key ≡ b → Put P (q ∷ qs) (z ∷ zs) r y
put_first P q r qs z y zs one free p rest true lt =
    let is : put r (q ∷ qs) ≡ r ∷ q ∷ qs = ap (λ x. if x then r ∷ q ∷ qs else (if nat_lt q.key r.key then q ∷ put r qs else r ∷ qs)) lt in
    record { named = y ∷ z ∷ zs; each = subst (λ l. OneByOne P l (y ∷ z ∷ zs)) (sym is) (one, p); same = IsPermutation-refl (y ∷ z ∷ zs) }
put_first P q r qs z y zs one free p rest false lt = put_second P q r qs z y zs lt free p rest (nat_lt q.key r.key) refl (holds r.key q) refl

pub put_beside : (P : Ref → Pair → Type 0) (xs : List Ref) (ys : List Pair) (r : Ref) (y : Pair) → P r y → find r.key xs ≡ None → OneByOne P xs ys → Put P xs ys r y
put_beside P [] [] r y one free p = record { named = y ∷ []; each = (one, p); same = IsPermutation-refl (y ∷ []) }
put_beside P [] (z ∷ zs) r y one free p = absurd p
put_beside P (q ∷ qs) [] r y one free p = absurd p
put_beside P (q ∷ qs) (z ∷ zs) r y one free p = put_first P q r qs z y zs one free p (λ none. put_beside P qs zs r y one none p.1) (nat_lt r.key q.key) refl

-- a list beside that of the leaves without one: the same but for what stood beside that leaf
pub record Cut (P : Ref → Pair → Type 0) (xs : List Ref) (ys : List Pair) (leaf : Ref) : Type 0 where
  pub one : Pair
  pub is : P leaf one
  pub named : List Pair
  pub each : OneByOne P (without leaf.key xs) named
  pub same : IsPermutation (one ∷ named) ys

cut_first : (P : Ref → Pair → Type 0) (q leaf : Ref) (qs : List Ref) (z : Pair) (zs : List Pair) → OneByOne P (q ∷ qs) (z ∷ zs) → find leaf.key (q ∷ qs) ≡ Some leaf
    → (find leaf.key qs ≡ Some leaf → Cut P qs zs leaf) → (b : Bool) → holds leaf.key q ≡ b → Cut P (q ∷ qs) (z ∷ zs) leaf
cut_first P q leaf qs z zs p found rest true in_q =
    let same : q ≡ leaf = same_Some q leaf (sym (ap (λ x. if x then Some q else find leaf.key qs) in_q) ∙ found) in
    let key : q.key ≡ leaf.key = ap (λ (r : Ref). r.key) same in
    let test : (q.key == leaf.key) ≡ true = grind (arith, nat_tests) in
    let is : without leaf.key (q ∷ qs) ≡ qs = ap (λ x. if x then qs else q ∷ without leaf.key qs) test in
    record { one = z; is = subst (λ x. P x z) same p.0; named = zs; each = subst (λ l. OneByOne P l zs) (sym is) p.1; same = IsPermutation-refl (z ∷ zs) }
cut_first P q leaf qs z zs p found rest false in_q =
    let more = rest (sym (ap (λ x. if x then Some q else find leaf.key qs) in_q) ∙ found) in
    let test : (q.key == leaf.key) ≡ false = apart (q.key == leaf.key) refl in
    let is : without leaf.key (q ∷ qs) ≡ q ∷ without leaf.key qs = ap (λ x. if x then qs else q ∷ without leaf.key qs) test in
    record {
      one = more.one;
      is = more.is;
      named = z ∷ more.named;
      each = subst (λ l. OneByOne P l (z ∷ more.named)) (sym is) (p.0, more.each);
      same = IsPermutation-trans _ _ _ (IsPermutation-middle (more.one ∷ []) z more.named) (IsPermutation-cons z _ _ more.same);
    }
  where
    apart : (b : Bool) → (q.key == leaf.key) ≡ b → (q.key == leaf.key) ≡ false
    apart true e =
        let key : q.key ≡ leaf.key = grind (arith, nat_tests) in
        let clash : true ≡ false = sym (holds_own q) ∙ ap (λ k. holds k q) key ∙ in_q in
        absurd (cc)
    apart false e = e

pub cut_beside : (P : Ref → Pair → Type 0) (xs : List Ref) (ys : List Pair) (leaf : Ref) → find leaf.key xs ≡ Some leaf → OneByOne P xs ys → Cut P xs ys leaf
cut_beside P [] [] leaf found p = absurd (none-some leaf found)
cut_beside P [] (z ∷ zs) leaf found p = absurd p
cut_beside P (q ∷ qs) [] leaf found p = absurd p
cut_beside P (q ∷ qs) (z ∷ zs) leaf found p = cut_first P q leaf qs z zs p found (λ more. cut_beside P qs zs leaf more p.1) (holds leaf.key q) refl

-- what is beside each leaf fits another relation too
pub each_as : {X Y : Type 0} (P Q : X → Y → Type 0) (xs : List X) (ys : List Y) → ((x : X) (y : Y) → P x y → Q x y) → OneByOne P xs ys → OneByOne Q xs ys
each_as P Q [] [] fit p = p
each_as P Q [] (y ∷ ys) fit p = absurd p
each_as P Q (x ∷ xs) [] fit p = absurd p
each_as P Q (x ∷ xs) (y ∷ ys) fit p = (fit x y p.0, each_as P Q xs ys fit p.1)

-- The map that is made of the names

-- a name that none has goes before names that differ
pub differ_more : (y : Pair) (ys : List Pair) → Differ ys → get (from_entries {R = order} ys) y.0 ≡ None → Differ (y ∷ ys)
differ_more y ys differ none i j d lt len = more i j lt len
  where
    more : (i j : ℕ) → i < j → j < length (y ∷ ys) → (get_or (y ∷ ys) i d).0 ≢ (get_or (y ∷ ys) j d).0
    more i zero lt len = absurd (omega (arith, lt))
    more zero (suc k) lt len = λ e.
        let x = get_or ys k d in
        let at : Contains ys x = at_place ys k x (slice_get-get_or ys k d (omega (arith, len))) in
        none-some x.1 (sym none ∙ ap (get (from_entries {R = order} ys)) e ∙ has_member ys differ x.0 x.1 at)
    more (suc i) (suc j) lt len = differ i j d (omega (arith, lt)) (omega (arith, len))

-- and in any order of them the map has it put in
pub map_put : (y : Pair) (ys named : List Pair) → IsPermutation (y ∷ ys) named → Differ (y ∷ ys) → from_entries {R = order} named ≡ insert (from_entries ys) y.0 y.1
map_put y ys named same differ = sym (same_of (y ∷ ys) named same differ (differ_still (y ∷ ys) named same differ))

-- of names that differ the rest differ, and lack the first
pub differ_rest : (y : Pair) (ys : List Pair) → Differ (y ∷ ys) → Differ ys
differ_rest y ys differ = λ i j d lt len. differ (suc i) (suc j) d (omega (arith, lt)) (omega (arith, len))

lacks_first : (y : Pair) (ys : List Pair) → Differ (y ∷ ys) → (o : Option ℕ) → get (from_entries {R = order} ys) y.0 ≡ o → o ≡ None
lacks_first y ys differ None e = refl
lacks_first y ys differ (Some v) e =
    let at = member_of ys y.0 v e in
    let k = at.0 in
    let lt : k < length ys = at.1 in
    let other : y.0 ≢ (get_or ys k (y.0, v)).0 = differ 0 (suc k) (y.0, v) (omega arith) (omega (arith, lt)) in
    absurd (other (sym (ap (λ (x : Pair). x.0) at.2)))

removed_at : (y : Pair) (ys : List Pair) (q : Name) → Differ (y ∷ ys) → (b : Bool) → eq_by_cmp order q y.0 ≡ b → cond b None (cond b (Some y.1) (get (from_entries {R = order} ys) q)) ≡ get (from_entries {R = order} ys) q
removed_at y ys q differ true e =
    let same : q ≡ y.0 = exact_names q y.0 (equal_is (order q y.0) e) in
    sym (ap (get (from_entries {R = order} ys)) same ∙ lacks_first y ys differ _ refl)
removed_at y ys q differ false e = refl

-- so the map that they are made of, without that name, is that of the rest
pub map_cut : (y : Pair) (ys named : List Pair) → IsPermutation (y ∷ ys) named → Differ named → remove (from_entries {R = order} named) y.0 ≡ from_entries ys
map_cut y ys named same differ =
    let back = IsPermutation-sym (y ∷ ys) named same in
    let apart = differ_still named (y ∷ ys) back differ in
    let whole : from_entries {R = order} named ≡ insert (from_entries ys) y.0 y.1 = map_put y ys named same apart in
    same_map names_total exact_names _ _ (λ q.
    get-remove names_total (from_entries {R = order} named) y.0 q ∙ ap (λ m. cond (eq_by_cmp order q y.0) None (get m q)) whole
    ∙ ap (cond (eq_by_cmp order q y.0) None) (get-insert names_total (from_entries ys) y.0 y.1 q) ∙ removed_at y ys q apart (eq_by_cmp order q y.0) refl)
