-- A file that is given another size.
use Rattle.std.proofs.Common.{◌≡◌, ℕ, ◌<◌, Bool, true, false, arith, refl, sym, ◌∙◌, ap, Option, Some, None, subst, inl, inr, slice_get}
use Rattle.std.specs.Prelude.{◌↔◌}
use Rattle.h2_ref.specs.declared.reference.Ref.{Ref}
use Rattle.h2_ref.specs.declared.reference.Kind.TheVariants.{Content}
use Rattle.h2_set.specs.Ranges.{is_indirect}
use Rattle.h2_set.specs.RefSet.{RefSet}
use Rattle.h2_set.specs.SetBytes.{IsHeld}
use Rattle.h2_set.specs.Forest.{Forest, refs, loaded, HasLeaves, KeepsLeaves, IsSound, Reaches, nowhere, here, below}
use Rattle.h2_set.specs.Calls.{InPlace, Fixed, Stays, Same, Loses, Storable, KeepsBeside}
use Rattle.h2_set.specs.StayLaws.{Alike-refl, InPlace-trans, Same-Stays, leaves_stay}
use Rattle.h2_set.specs.ChangeLaws.{leaves_move, same_or_not, Same-Keeps}
use Rattle.h2_set.specs.RenewLaws.{Keeps-Renews, Renews-trans}
use Rattle.h2_inode.specs.declared.kind.InodeKind.{InodeKind}
use Rattle.h2_inode.specs.declared.kind.InodeKind.TheVariants.{File}
use Rattle.h2_inode.specs.declared.inode.Body.TheVariants.{Refs}
use Rattle.h2_inode.specs.declared.inode.Inode.{Inode}
use Rattle.h2_inode.specs.Nodes.{Fields, fields_of, set_of, bytes_of, leaf_kind, leaf_keybits, MayHave, HasInode, Replaceable, Replaces, KeepsOthersBeside}
use Rattle.h2_inode.specs.NodeLaws.{storable_replaceable}
use Rattle.h2_file.specs.Blocks.{IsFileOfRefs, HasContents}
use Rattle.h2_file.specs.Sizing.{IsResized, HasResized, Sizes}
use Rattle.h2_file.specs.Cutting.{Cuts, CutsNodes, CutsFile, cut_to}
use Rattle.h2_file.proofs.Answering.{In-on, none_in}
use Rattle.h2_file.proofs.CutWhole.{nodes_sized}

some_same : {X : Type 0} {x y : X} → Some x ≡ Some y → x ≡ y
some_same e = (cc)

both_ways : (a b : Bool) → (a ≡ true → b ≡ true) → (b ≡ true → a ≡ true) → b ≡ a
both_ways true b f g = f refl
both_ways false true f g = sym (g refl)
both_ways false false f g = refl

-- The tree of a file

may_have : (f : Forest) (holds : ℕ → Option Fields) (at : ℕ) (i : Inode) (s : RefSet) → HasInode f holds at i → i.kind ≡ File → i.body ≡ Refs s → (r : Ref) → (f.allows at r ≡ true) ↔ ((r.kind ≡ Content) × IsHeld r)
may_have f holds at i s has kind body r = subst (λ k. (f.allows at r ≡ true) ↔ ((r.kind ≡ leaf_kind k) × IsHeld r)) kind (subst (λ b. (f.allows at r ≡ true) ↔ MayHave i.kind b r) body (has.tree.allows r))

pub file_contents : (f : Forest) (holds : ℕ → Option Fields) (at : ℕ) → IsFileOfRefs f holds at → HasContents f at
file_contents f holds at file = record {
  kinds = λ r e. (may_have f holds at file.inode file.set file.has file.kind file.body r).0 (subst (λ m. f.allows m r ≡ true) file.has.root e);
  kinds_all = λ r e held. subst (λ m. f.allows m r ≡ true) (sym file.has.root) ((may_have f holds at file.inode file.set file.has file.kind file.body r).1 (e, held));
  keybits = ap f.leaf_bits file.has.root ∙ (file.has.tree.leaf_bits ∙ ap leaf_keybits file.kind);
}

-- A set that is put back

none_lost : (f : Forest) (at key : ℕ) → Loses f at (f.set at) key → ⊥
none_lost f at key h = h.lacks h.place h.lost h.was refl refl

pub own_storable : (f : Forest) (at : ℕ) → IsSound f → f.stands at ≡ true → f.root at ≡ at → Storable f at (f.set at)
own_storable f at sound stands root = (let node = sound.node at stands in record {
  capacity = refl;
  set = node.set;
  some = λ other. absurd (other root);
  inside = node.inside;
  fits = node.fits;
  stood = λ i r read ind. (i, read);
  free = λ m st goes. absurd (none_lost f at goes.key goes.loses);
})

module _ (f : Forest) (holds : ℕ → Option Fields) (at size : ℕ) (sound : IsSound f) (file : IsFileOfRefs f holds at) (old new : Inode) (has : HasInode f holds at old) (set : RefSet) (own : set ≡ f.set at) (is : IsResized old new size set) where
  four : (let s = f.set at in s.capacity) ≡ 4
  four = (sound.node at has.stands).root_capacity has.root

  set_is : f.set at ≡ file.set
  set_is = file.has.set ∙ ap set_of file.body

  same_fields : Some (fields_of file.inode) ≡ Some (fields_of old)
  same_fields = sym file.has.fields ∙ has.fields

  abbrev kind_of_fields : Option Fields → InodeKind
  kind_of_fields None = File
  kind_of_fields (Some x) = x.kind

  pub old_kind : old.kind ≡ file.inode.kind
  old_kind = sym (ap kind_of_fields same_fields)

  pub new_set : set_of new.body ≡ f.set at
  new_set = ap set_of is.body ∙ own

  pub replaceable : Replaceable f at new.kind (set_of new.body)
  replaceable =
      let capacity : (let t = file.set in t.capacity) ≡ 4 = ap (λ (t : RefSet). t.capacity) (sym set_is) ∙ four in
      let may = storable_replaceable f holds at file.inode file.set (f.set at) file.body capacity file.has (own_storable f at sound has.stands has.root) in
      subst (λ k. Replaceable f at k (set_of new.body)) (sym (is.kind ∙ old_kind)) (subst (Replaceable f at file.inode.kind) (sym new_set) may)

  module _ (g : Forest) (holds' : ℕ → Option Fields) (changes : Replaces f g at (set_of new.body)) (has_new : HasInode g holds' at new) where
    same_set : g.set at ≡ f.set at
    same_set = changes.set ∙ new_set

    others : (m : ℕ) → f.stands m ≡ true → (m ≡ at → ⊥) → Same f g m
    others m st ne = changes.others m st ne (λ goes. lost goes.loses) (λ goes. lost goes.loses)
      where
        lost : {key : ℕ} → Loses f at (set_of new.body) key → ⊥
        lost {key} h = none_lost f at key (subst (λ s. Loses f at s key) new_set h)

    links : (i : ℕ) (r : Ref) → slice_get (refs f at) i ≡ Some r → is_indirect r ≡ true → g.link at r.key ≡ f.link at r.key
    links i r read ind = changes.link i r (subst (λ (s : RefSet). slice_get s.refs i ≡ Some r) (sym new_set) read) ind

    differs : (n : ℕ) → f.bits n < f.bits at → n ≡ at → ⊥
    differs n fewer e = let same = ap f.bits e in omega (arith, same, fewer)

    set_at : (n : ℕ) → n ≡ at → g.set n ≡ f.set n
    set_at n e = subst (λ z. g.set z ≡ f.set z) (sym e) same_set

    below_stays : (d : ℕ) → f.stands d ≡ true → f.root d ≡ at → f.bits d < f.bits at → KeepsLeaves f g d
    below_stays d st root fewer l hl =
        let Q : ℕ → Type 0 = λ m. (f.stands m ≡ true) × (f.bits m < f.bits at) in
        let closed : (m k e : ℕ) → Q m → f.link m k ≡ loaded e → Q e = λ m k e p link. let kid = (sound.node m p.0).child k e link in (kid.stands, omega (arith, kid.fewer, p.1)) in
        let stay : (m : ℕ) → Q m → Stays f g m = λ m p. Same-Stays f g m (others m p.0 (λ e. let same = ap f.bits e in omega (arith, same, p.1))) in
        leaves_stay f g Q closed stay (st, fewer) hl (refs g d) (stay d (st, fewer)).alike

    stands_on : (m : ℕ) → f.stands m ≡ true → g.stands m ≡ true
    stands_on m st = elim (same_or_not m at) as (λ _. g.stands m ≡ true) [
      | inl e ↦ subst (λ z. g.stands z ≡ true) (sym e) changes.place.stands
      | inr ne ↦ (others m st ne).place.stands
    ]

    allows_same : (m : ℕ) (r : Ref) → f.stands m ≡ true → g.allows m r ≡ f.allows m r
    allows_same m r st = elim (same_or_not m at) as (λ _. g.allows m r ≡ f.allows m r) [
      | inl e ↦
          let was = may_have f holds at file.inode file.set file.has file.kind file.body r in
          let now = may_have g holds' at new set has_new (is.kind ∙ (old_kind ∙ file.kind)) is.body r in
          subst (λ z. g.allows z r ≡ f.allows z r) (sym e) (both_ways (f.allows at r) (g.allows at r) (λ t. now.1 (was.0 t)) (λ t. was.1 (now.0 t)))
      | inr ne ↦ changes.allows m r st (others m st ne).place.stands ne
    ]

    same_leaves : KeepsLeaves f g at
    same_leaves l hl =
        let keep : (i d : ℕ) (r : Ref) → slice_get (refs f at) i ≡ Some r → is_indirect r ≡ true → f.link at r.key ≡ loaded d → KeepsLeaves f g d = λ i d r read ind link. let kid = (sound.node at has.stands).child r.key d link in below_stays d kid.stands (kid.root ∙ has.root) kid.fewer in
        let moved : HasLeaves g at (refs f at) l = leaves_move hl (refs f at) (Alike-refl (refs f at)) links keep in
        subst (λ (s : RefSet). HasLeaves g at s.refs l) (sym same_set) moved

    -- a path through nodes below the root
    path_below : {key n : ℕ} {o : Option Ref} → Reaches f key n o → f.stands n ≡ true → f.bits n < f.bits at → Reaches g key n o
    path_below (nowhere {at = n} miss) st fewer = nowhere (λ i r read. miss i r (subst (λ (s : RefSet). slice_get s.refs i ≡ Some r) (others n st (differs n fewer)).set read))
    path_below (here {at = n} {r = r} i read in_r leaf) st fewer = here {r = r} i (subst (λ (s : RefSet). slice_get s.refs i ≡ Some r) (sym (others n st (differs n fewer)).set) read) in_r leaf
    path_below (below {at = n} {c = c} {r = r} i read in_r ind link rest) st fewer =
        let kid = (sound.node n st).child r.key c link in
        let same = others n st (differs n fewer) in
        below {r = r} i (subst (λ (s : RefSet). slice_get s.refs i ≡ Some r) (sym same.set) read) in_r ind (same.link r.key ∙ link) (path_below rest kid.stands (omega (arith, kid.fewer, fewer)))

    same_path : {key n : ℕ} {o : Option Ref} → Reaches f key n o → n ≡ at → Reaches g key n o
    same_path (nowhere {at = n} miss) e = nowhere (λ i r read. miss i r (subst (λ (s : RefSet). slice_get s.refs i ≡ Some r) (set_at n e) read))
    same_path (here {at = n} {r = r} i read in_r leaf) e = here {r = r} i (subst (λ (s : RefSet). slice_get s.refs i ≡ Some r) (sym (set_at n e)) read) in_r leaf
    same_path (below {at = n} {c = c} {r = r} i read in_r ind link rest) e =
        let link_at : f.link at r.key ≡ loaded c = subst (λ z. f.link z r.key ≡ loaded c) e link in
        let kid = (sound.node at has.stands).child r.key c link_at in
        let same : g.link at r.key ≡ f.link at r.key = links i r (subst (λ z. slice_get (refs f z) i ≡ Some r) e read) ind in
        below {r = r} i (subst (λ (s : RefSet). slice_get s.refs i ≡ Some r) (sym (set_at n e)) read) in_r ind (subst (λ z. g.link z r.key ≡ loaded c) (sym e) (same ∙ link_at)) (path_below rest kid.stands kid.fewer)

    pub sizes : Sizes f g at
    sizes = record {
      sound = changes.sound;
      leaf_bits = λ m st. changes.leaf_bits m st (stands_on m st);
      allows = allows_same;
      held = changes.held;
      name = changes.name;
      epoch = changes.epoch;
      failed = changes.failed;
      bad = changes.bad;
      place = changes.place;
      set = same_set;
      link = links;
      copies = changes.copies;
      leaves = same_leaves;
      paths = λ key o reached. same_path reached refl;
      others = others;
      none_new = changes.none_new;
      spare = changes.spare;
      room = changes.room;
    }

    -- the inode that is told of the root is resized
    pub has_resized : HasResized g holds' at file.inode size
    has_resized =
        let fields : fields_of file.inode ≡ fields_of old = some_same same_fields in
        record {
          inode = new;
          has = has_new;
          is = record {
            kind = is.kind ∙ old_kind;
            number = is.number ∙ sym (ap (λ (x : Fields). x.number) fields);
            size_is = is.size_is;
            links = is.links ∙ sym (ap (λ (x : Fields). x.links) fields);
            next = is.next ∙ sym (ap (λ (x : Fields). x.next) fields);
            name = is.name ∙ sym (ap (λ (x : Fields). x.name) fields);
            body = is.body ∙ ap Refs (own ∙ sym same_set);
          };
        }

-- A file that was cut, and then given its size

pub cuts_file : (f k g : Forest) (at size : ℕ) (last : Option Ref) → IsSound f → f.stands at ≡ true → f.root at ≡ at → Cuts f k at size last → CutsNodes f k at size last → Sizes k g at → CutsFile f g at size last
cuts_file f k g at size last sound stands top cuts nodes sizes = record {
  sound = sizes.sound;
  leaves = λ l hl. sizes.leaves (cut_to size last l) (cuts.leaves l hl);
  before = λ key o lt reached. sizes.paths key o (cuts.before key o lt reached);
  past = λ key le. let it = cuts.past key le in record { found = it.found; path = sizes.paths key it.found it.path; left = it.left };
  place = InPlace-trans f k g at cuts.place sizes.place;
  nodes = nodes_sized f k g at size last nodes sizes;
  others = λ m st root.
      let first = cuts.above m st (λ e. root (e ∙ top)) in
      Renews-trans f k g m first (Keeps-Renews k g m (Same-Keeps k g m (sizes.others m first.place.stands (λ e. root (subst (λ z. f.root z ≡ at) (sym e) top)))));
  still = λ m st st'. let was = sizes.none_new m st' in InPlace-trans f k g m (cuts.still m st was) (place_on m was);
  roots = λ m st own.
      let in_k = sizes.none_new m st in
      let in_w = nodes.none_new m in_k in
      nodes.walks.roots m in_w (sym (nodes.still m in_w in_k).root ∙ (sym (place_on m in_k).root ∙ own));
  touched = In-on f k g at at size size cuts.place.root (λ m was st. place_on m was) cuts.touched (none_in k g at size size sizes.none_new);
  leaf_bits = λ m st st'. let was = sizes.none_new m st' in sizes.leaf_bits m was ∙ cuts.fixed.leaf_bits m st was;
  allows = λ m r st st'. let was = sizes.none_new m st' in sizes.allows m r was ∙ cuts.fixed.allows m r st was;
  held = λ m. sizes.held m ∙ cuts.fixed.held m;
  name = λ r. sizes.name r ∙ cuts.fixed.name r;
  epoch = sizes.epoch ∙ cuts.fixed.epoch;
  failed = omega (arith, sizes.failed, cuts.fixed.failed);
  bad = omega (arith, sizes.bad, cuts.fixed.bad);
  writable = sizes.place.writable nodes.writable;
  room = omega (arith, sizes.room, cuts.room);
  room_falls = omega (arith, sizes.room, cuts.room_falls);
  spare = sizes.spare ∙ cuts.spare;
}
  where
    place_on : (m : ℕ) → k.stands m ≡ true → InPlace k g m
    place_on m st = elim (same_or_not m at) as (λ _. InPlace k g m) [
      | inl e ↦ subst (InPlace k g) (sym e) sizes.place
      | inr ne ↦ (sizes.others m st ne).place
    ]

-- The file between: its root has the inode with the references that it has then

module _ {B : Type 0} (fields : B → Option Fields) (f k : Forest) (a b : ℕ → B) (at size : ℕ) (place : InPlace f k at) (fixed : Fixed f k) (beside : KeepsBeside f k a b) where
  abbrev pub between : Inode → Inode
  between i = record i { body = Refs (k.set at) }

  between_fields : (i : Inode) (s : RefSet) → i.body ≡ Refs s → fields_of (between i) ≡ fields_of i
  between_fields i s e = let bytes : bytes_of i.body ≡ None = ap bytes_of e in rw bytes refl

  pub kept_inode : (file : IsFileOfRefs f (λ m. fields (a m)) at) → HasInode k (λ m. fields (b m)) at (between file.inode)
  kept_inode file = record {
    stands = place.stands;
    root = place.root ∙ file.has.root;
    tree = record {
      low = place.low ∙ file.has.tree.low;
      bits = place.bits ∙ file.has.tree.bits;
      leaf_bits = fixed.leaf_bits at file.has.stands place.stands ∙ file.has.tree.leaf_bits;
      allows = λ r. subst (λ x. (x ≡ true) ↔ ((r.kind ≡ leaf_kind file.inode.kind) × IsHeld r)) (sym (fixed.allows at r file.has.stands place.stands)) (subst (λ y. (f.allows at r ≡ true) ↔ MayHave file.inode.kind y r) file.body (file.has.tree.allows r));
    };
    fields = ap fields (beside.same at file.has.stands place.stands) ∙ (file.has.fields ∙ ap Some (sym (between_fields file.inode file.set file.body)));
    set = refl;
  }

  abbrev pub kept_file : IsFileOfRefs f (λ m. fields (a m)) at → IsFileOfRefs k (λ m. fields (b m)) at
  kept_file file = record { inode = between file.inode; has = kept_inode file; kind = file.kind; set = k.set at; body = refl }

  -- resized, it is the first one resized
  pub kept_resized : (g : Forest) (holds : ℕ → Option Fields) (file : IsFileOfRefs f (λ m. fields (a m)) at) → HasResized g holds at (between file.inode) size → HasResized g holds at file.inode size
  kept_resized g holds file h = record { inode = h.inode; has = h.has; is = record { kind = h.is.kind; number = h.is.number; size_is = h.is.size_is; links = h.is.links; next = h.is.next; name = h.is.name; body = h.is.body } }

pub others_beside : {B : Type 0} (f k g : Forest) (at : ℕ) (a b c : ℕ → B) → ((m : ℕ) → g.stands m ≡ true → k.stands m ≡ true) → KeepsBeside f k a b → KeepsOthersBeside k g at b c → KeepsOthersBeside f g at a c
others_beside f k g at a b c none_new first second = record { same = λ m ne st st'. let was = none_new m st' in second.same m ne was st' ∙ first.same m st was }
