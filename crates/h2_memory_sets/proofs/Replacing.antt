-- What another inode leaves of a root.
use Rattle.std.proofs.Common.{◌≡◌, ℕ, ◌+◌, ◌<◌, ◌≤◌, ◌^◌, true, false, arith, refl, sym, ◌∙◌, ap, List, Option, Some, subst, inl, inr, slice_get, slice_set}
use Rattle.std.proofs.lemmas.Option.{none-some}
use Rattle.std.proofs.lemmas.Nat.{pow_pos}
use Rattle.h2_ref.specs.declared.faults.Why.{Why}
use Rattle.h2_ref.specs.declared.reference.Kind.TheVariants.{Inode as Inode_kind}
use Rattle.h2_ref.specs.declared.reference.Ref.{Ref}
use Rattle.h2_set.specs.Ranges.{is_indirect}
use Rattle.h2_set.specs.RefSet.{RefSet}
use Rattle.h2_set.specs.Forest.{Forest, IsSound, Fits}
use Rattle.h2_set.specs.Calls.{GoesBelow}
use Rattle.h2_set.specs.ChangeLaws.{same_or_not}
use Rattle.h2_inode.specs.declared.inode.Body.{Body}
use Rattle.h2_inode.specs.declared.inode.Body.TheVariants.{Refs, Bytes}
use Rattle.h2_inode.specs.declared.inode.Inode.{Inode}
use Rattle.h2_inode.specs.Inode.{keys_from}
use Rattle.h2_inode.specs.Nodes.{Fields, fields_of, held_by, leaf_kind, leaf_keybits, set_of as set_of_body, HasInode, MayHave, Replaceable, Replaces, KeepsOthersBeside}
use Rattle.h2_memory_sets.specs.declared.node.Node.{Node}
use Rattle.h2_memory_sets.specs.Inodes.{fields_seen, with_inode}
use Rattle.h2_memory_sets.specs.Kept.{AreKept, IsInodeRoot}
use Rattle.h2_memory_sets.specs.Owners.{inode_allows, allowed_by, allows_of, beside_of}
use Rattle.h2_memory_sets.specs.View.{stands_of, root_of, low_of, bits_of, leaf_bits_of, forest_with, dropped, dropped_all, AllRooted}
use Rattle.h2_memory_sets.proofs.Drops.{given, dropped_with, at_here, own_stays, kept_drop}
use Rattle.h2_memory_sets.proofs.Inoded.{emptied, has_inode, inode_there, may_have, fields_kept}
use Rattle.h2_memory_sets.proofs.Losing.{differs_by_store, rooted_dropped, other_stays}
use Rattle.h2_memory_sets.proofs.Nesting.{few_bits, leads_to, in_holds}
use Rattle.h2_memory_sets.proofs.Parting.{one_of, get_map}
use Rattle.h2_memory_sets.proofs.Reaching.{still, others, gone}
use Rattle.h2_memory_sets.proofs.Recounting.{root_above}
use Rattle.h2_memory_sets.proofs.Settled.{KeepsRules}
use Rattle.h2_memory_sets.proofs.Stored.{allowed_leaf}
use Rattle.h2_memory_sets.proofs.Storing.{DiffersByStore, Suits, at_now, now_stays, root_now, kept as links_kept}

-- what is known once a root has another inode
pub record IsReplaced (xs ys : List Node) (f g : Forest) (at : ℕ) (v : Inode) : Type 0 where
  pub replaces : Replaces f g at (set_of_body v.body)
  pub rooted : AllRooted ys
  pub kept : AreKept ys
  pub inode : HasInode g (held_by fields_seen (λ m. beside_of (slice_get ys m))) at v
  pub beside : KeepsOthersBeside f g at (λ m. beside_of (slice_get xs m)) (λ m. beside_of (slice_get ys m))

module _ (xs : List Node) (at : ℕ) (x : Node) (w v : Inode) (kept : AreKept xs) (read : slice_get xs at ≡ Some x) (holds : x.inode ≡ Some w) (kind : v.kind ≡ w.kind) (number : v.number ≡ w.number) (spare epoch room failed bad : ℕ) (met : Option (ℕ × Why)) (sound : IsSound (forest_with xs spare epoch room failed bad met)) (stands : stands_of (slice_get xs at) ≡ true) (replaceable : Replaceable (forest_with xs spare epoch room failed bad met) at v.kind (set_of_body v.body)) where
  abbrev f : Forest
  f = forest_with xs spare epoch room failed bad met

  abbrev s : RefSet
  s = set_of_body v.body

  abbrev ys : List Node
  ys = dropped_with xs at x x (set_of_body v.body) (Some v) kept read refl

  abbrev g : Forest
  g = forest_with (dropped_with xs at x x (set_of_body v.body) (Some v) kept read refl) spare epoch room failed bad met

  d : DiffersByStore f g at s
  d = differs_by_store xs at x x (set_of_body v.body) (Some v) kept read refl spare epoch room failed bad met sound stands replaceable.free

  root : IsInodeRoot at x w
  root = kept.inode at x w read holds

  own : f.root at ≡ at
  own = ap root_of read ∙ root.root

  now : g.stands at ≡ true
  now = at_now f g at s d sound stands

  here : slice_get ys at ≡ Some (given x (set_of_body v.body) (Some v))
  here = at_here xs at x x (set_of_body v.body) (Some v) kept read refl

  low_is : f.low at ≡ keys_from v.kind
  low_is = ap low_of read ∙ root.low ∙ ap keys_from (sym kind)

  bits_is : f.bits at ≡ 63
  bits_is = ap bits_of read ∙ root.bits

  leaf_is : f.leaf_bits at ≡ leaf_keybits v.kind
  leaf_is = ap leaf_bits_of read ∙ root.leaf_bits ∙ ap leaf_keybits (sym kind)

  own_now : g.root at ≡ at
  own_now = (d.loose.place at stands now).root ∙ own

  leaf_now : g.leaf_bits (g.root at) ≡ leaf_keybits v.kind
  leaf_now = ap g.leaf_bits own_now ∙ d.loose.leaf_bits at stands now ∙ leaf_is

  allows_now : (r : Ref) → g.allows at r ≡ inode_allows v.kind v.body r
  allows_now r = ap (λ o. allows_of o r) here

  allowed_was : (r : Ref) → f.allows at r ≡ inode_allows w.kind w.body r
  allowed_was r = ap (λ o. allows_of o r) read ∙ ap (λ i. allowed_by i x.leaves r) holds

  fits : (i : ℕ) (r : Ref) → slice_get s.refs i ≡ Some r → Fits g at r
  fits i r got =
      let h = replaceable.fits i r got in
      record {
        aligned = h.aligned;
        class = h.class;
        leaf = λ k. h.leaf k ∙ sym leaf_now;
        allowed = λ k. ap (λ t. g.allows t r) own_now ∙ allows_now r ∙ may v.body refl (h.allowed k);
        held = λ k. h.held;
        wide = λ k. rw leaf_now (h.wide k);
        some_bits = h.some_bits;
        falls = λ k. (let less = h.falls k in let same : g.bits at ≡ 63 = (d.loose.place at stands now).bits ∙ bits_is in omega (arith, less, same));
      }
    where
      may : (b : Body) → v.body ≡ b → r.kind ≡ leaf_kind v.kind → inode_allows v.kind v.body r ≡ true
      may (Refs t) e k = ap (λ b. inode_allows v.kind b r) e ∙ (may_have v.kind (Refs t) r).1 (k, (replaceable.fits i r got).held)
      may (Bytes bytes) e k = absurd (none-some r (sym (ap (λ (b : Body). slice_get (let t = set_of_body b in t.refs) i) e) ∙ got))

  -- where the body has become bytes, nothing else stands in the tree
  alone : (bytes : List ℕ) → v.body ≡ Bytes bytes → (m : ℕ) → g.stands m ≡ true → (m ≡ at → ⊥) → f.root m ≡ at → ⊥
  alone bytes e m there ne same =
      let st = d.none_new m there in
      let a = root_above xs (λ u. u.dirty) spare epoch room failed bad met sound m st in
      let low : f.low at ≤ f.low m = (let h = a.low in rw same at h) in
      let high : f.low m < f.low at + 2 ^ f.bits at = (let h = a.high in rw same at h) in
      let p = sound.parent m st (λ own'. ne (sym own' ∙ same)) in
      let less = ((sound.node p.parent p.stands).child (f.low m) m p.link).fewer in
      let few = few_bits f sound p.parent p.stands in
      let it = leads_to f sound at m stands st (same ∙ sym own) (omega (arith, less, few, bits_is)) low high in
      let from = it.from in
      let to = it.to in
      let pos = pow_pos (f.bits m) in
      let goes : GoesBelow f m at s = record {
        tree = same ∙ sym own;
        fewer = omega (arith, less, few, bits_is);
        loses = record { place = it.place; lost = it.ref; was = it.read; lacks = λ j q got k sort. none-some q (sym (ap (λ (b : Body). slice_get (let t = set_of_body b in t.refs) j) e) ∙ got); held = in_holds (f.low m) it.ref from (omega (arith, to, pos)) };
      } in
      let clash : true ≡ false = sym there ∙ d.gone m (d.goes_all m st (inl goes)) in
      cc

  rules : (m : ℕ) → g.stands m ≡ true → (m ≡ at → ⊥) → KeepsRules f g (f.root m)
  rules m there ne =
      let st = d.none_new m there in
      let top = root_now f g at s d sound stands m st (now_stays f g at s d sound stands m there) in
      record { stood = (sound.top m st).0; stands = top; allows = λ r e. keeps r top e }
    where
      by_body : (b c : Body) → w.body ≡ b → v.body ≡ c → f.root m ≡ at → (r : Ref) → inode_allows w.kind w.body r ≡ true → inode_allows v.kind v.body r ≡ true
      by_body (Bytes bytes) c eb ec same r e = let clash : true ≡ false = sym e ∙ ap (λ b. inode_allows w.kind b r) eb in absurd (cc)
      by_body (Refs t) (Refs u) eb ec same r e = ap (λ b. inode_allows v.kind b r) ec ∙ ap (λ k. inode_allows k (Refs u) r) kind ∙ sym (ap (λ b. inode_allows w.kind b r) eb) ∙ e
      by_body (Refs t) (Bytes bytes) eb ec same r e = absurd (alone bytes ec m there ne same)

      keeps : (r : Ref) → g.stands (f.root m) ≡ true → f.allows (f.root m) r ≡ true → g.allows (f.root m) r ≡ true
      keeps r top e = elim (same_or_not (f.root m) at) as (λ _. g.allows (f.root m) r ≡ true) [
        | inr off ↦ other_stays xs at x x (set_of_body v.body) (Some v) kept read refl spare epoch room failed bad met sound stands replaceable.free (λ o. allows_of o r) (f.root m) off top ∙ e
        | inl same ↦ ap (λ t. g.allows t r) same ∙ allows_now r ∙ by_body w.body v.body refl refl same r (sym (allowed_was r) ∙ ap (λ t. f.allows t r) (sym same) ∙ e)
      ]

  kinds : (m key i : ℕ) (r : Ref) → f.stands m ≡ true → f.belongs m (f.root at) key ≡ true → slice_get s.refs i ≡ Some r → is_indirect r ≡ false → r.kind ≡ Inode_kind
  kinds m key i r st bel got leafy =
      let h = sound.owner m (f.root at) key st bel in
      let a : f.allows at h.leaf ≡ true = subst (λ t. f.allows t h.leaf ≡ true) (h.root ∙ own) (allowed_leaf f key sound h.leaf refl h.stands h.path) in
      (replaceable.fits i r got).allowed leafy ∙ ap leaf_kind kind ∙ sym (by_body h.leaf w.body ((may_have w.kind w.body h.leaf).0 (sym (allowed_was h.leaf) ∙ a))) ∙ h.kind_is
    where
      by_body : (q : Ref) (b : Body) → MayHave w.kind b q → q.kind ≡ leaf_kind w.kind
      by_body q (Refs t) h = h.0
      by_body q (Bytes bytes) h = absurd h

  suits : Suits f g at s
  suits = record {
    capacity = replaceable.capacity ∙ sym ((sound.node at stands).root_capacity own);
    set = replaceable.set;
    some = λ top. absurd (top own);
    inside = rw (low_is, bits_is) replaceable.inside;
    fits = fits;
    stood = replaceable.stood;
    free = replaceable.free;
    rules = rules;
    kinds = kinds;
  }

  root_still : (u : Inode) → ◌≡◌ {A = Option Inode} (Some v) (Some u) → IsInodeRoot at (given x (set_of_body v.body) (Some v)) u
  root_still u e = subst (IsInodeRoot at (given x (set_of_body v.body) (Some v))) (one_of v u e) (record {
    root = root.root;
    bare = root.bare;
    low = root.low ∙ ap keys_from (sym kind);
    bits = root.bits;
    leaf_bits = root.leaf_bits ∙ ap leaf_keybits (sym kind);
    set = refl;
    number = λ o is. number ∙ root.number o is;
  })

  kept_now : AreKept ys
  kept_now = kept_drop xs at x x (set_of_body v.body) (Some v) kept read refl root_still (λ e. refl)

  pub is_replaced : AllRooted xs → IsReplaced xs (dropped_with xs at x x (set_of_body v.body) (Some v) kept read refl) (forest_with xs spare epoch room failed bad met) (forest_with (dropped_with xs at x x (set_of_body v.body) (Some v) kept read refl) spare epoch room failed bad met) at v
  is_replaced rooted = record {
    replaces = record {
      sound = still f g at s d sound stands suits;
      leaf_bits = d.loose.leaf_bits;
      allows = λ m r st there ne. other_stays xs at x x (set_of_body v.body) (Some v) kept read refl spare epoch room failed bad met sound stands replaceable.free (λ o. allows_of o r) m ne there;
      held = d.loose.held;
      name = λ r. refl;
      epoch = refl;
      set = d.here;
      place = d.loose.place at stands now;
      copies = d.loose.copies at stands now;
      link = links_kept f g at s d sound stands suits;
      others = others f g at s d sound stands suits;
      gone = gone f g at s d sound stands suits;
      none_new = d.none_new;
      spare = refl;
      room = refl;
      failed = refl;
      bad = refl;
      met = refl;
    };
    rooted = rooted_dropped xs at x x (set_of_body v.body) (Some v) kept read refl spare epoch room failed bad met sound stands replaceable.free rooted;
    kept = kept_now;
    inode = has_inode ys spare epoch room failed bad met kept_now at (given x (set_of_body v.body) (Some v)) v now here refl;
    beside = record { same = λ m ne st there. other_stays xs at x x (set_of_body v.body) (Some v) kept read refl spare epoch room failed bad met sound stands replaceable.free beside_of m ne there };
  }

-- the nodes that were written, where y is the node that was read once the others were dropped
pub replaced : (xs items : List Node) (at : ℕ) (x y z : Node) (i v : Inode) (s : RefSet) (old : List Ref) (spare epoch room failed bad : ℕ) (met : Option (ℕ × Why)) → IsSound (forest_with xs spare epoch room failed bad met) → HasInode (forest_with xs spare epoch room failed bad met) (held_by fields_seen (λ m. beside_of (slice_get xs m))) at i → v.kind ≡ i.kind → v.number ≡ i.number → Replaceable (forest_with xs spare epoch room failed bad met) at v.kind (set_of_body v.body) → AllRooted xs → (kept : AreKept xs) → s ≡ set_of_body v.body → items ≡ dropped_all x.root x.bits old s.refs xs → old ≡ (let t = x.set in t.refs) → slice_get xs at ≡ Some x → slice_get items at ≡ Some y → z ≡ with_inode v y → IsReplaced xs (slice_set items at z) (forest_with xs spare epoch room failed bad met) (forest_with (slice_set items at z) spare epoch room failed bad met) at v
replaced xs items at x y z i v s old spare epoch room failed bad met sound has kind number replaceable rooted kept set_is items_is old_is read read_y z_is =
    let there = inode_there xs spare epoch room failed bad met kept at i has in
    let w = there.1 in
    let holds : x.inode ≡ Some w = ap (λ (n : Node). n.inode) (one_of x there.0 (sym read ∙ there.2)) ∙ there.3 in
    let same_fields : fields_of w ≡ fields_of i = one_of (fields_of w) (fields_of i) (sym (ap (λ (o : Option Node). fields_seen (beside_of o)) read ∙ ap (λ (o : Option Inode). fields_seen (emptied o)) holds ∙ fields_kept w) ∙ has.fields) in
    let kind' : v.kind ≡ w.kind = kind ∙ sym (ap (λ (q : Fields). q.kind) same_fields) in
    let number' : v.number ≡ w.number = number ∙ sym (ap (λ (q : Fields). q.number) same_fields) in
    let all_is : items ≡ dropped_all x.root x.bits (let t = x.set in t.refs) (let t = set_of_body v.body in t.refs) xs = items_is ∙ ap (λ (o : List Ref). dropped_all x.root x.bits o s.refs xs) old_is ∙ ap (λ (t : RefSet). dropped_all x.root x.bits (let u = x.set in u.refs) t.refs xs) set_is in
    let same : y ≡ x = one_of y x (sym read_y ∙ ap (λ (l : List Node). slice_get l at) all_is ∙ get_map (dropped xs x.root x.bits (let t = x.set in t.refs) (let t = set_of_body v.body in t.refs)) xs at x read ∙ ap Some (own_stays xs at x (set_of_body v.body) kept read)) in
    let is : slice_set items at z ≡ dropped_with xs at x x (set_of_body v.body) (Some v) kept read refl = ap (slice_set items at) z_is ∙ ap (λ (l : List Node). slice_set l at (with_inode v y)) all_is ∙ ap (λ (n : Node). slice_set (dropped_all x.root x.bits (let t = x.set in t.refs) (let t = set_of_body v.body in t.refs) xs) at (with_inode v n)) same in
    subst (λ (zs : List Node). IsReplaced xs zs (forest_with xs spare epoch room failed bad met) (forest_with zs spare epoch room failed bad met) at v) (sym is) (is_replaced xs at x w v kept read holds kind' number' spare epoch room failed bad met sound has.stands replaceable rooted)
