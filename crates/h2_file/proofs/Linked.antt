-- A file into which references of blocks were put.
use Rattle.std.proofs.Common.{◌≡◌, ℕ, ◌+◌, ◌≤◌, ◌^◌, true, false, arith, refl, sym, ◌∙◌, ap, List, length, Option, Some, subst, inl, inr}
use Rattle.h2_ref.specs.declared.reference.Ref.{Ref}
use Rattle.h2_ref.specs.declared.reference.Kind.{Kind}
use Rattle.h2_ref.specs.declared.reference.Kind.TheVariants.{Content}
use Rattle.h2_set.specs.RefSet.{RefSet}
use Rattle.h2_set.specs.Ranges.{leads_on}
use Rattle.h2_set.specs.Forest.{Forest, IsSound}
use Rattle.h2_set.specs.Calls.{InPlace, Fixed, Walks, ReadiesOnly, KeepsBeside}
use Rattle.h2_set.specs.StayLaws.{Fixed-trans, InPlace-trans, Stays-trans, Same-Stays, leaves_stay_all, stands_below}
use Rattle.h2_set.specs.PathLaws.{reaches_stay}
use Rattle.h2_set.specs.ChangeLaws.{Same-Keeps, same_or_not}
use Rattle.h2_set.specs.RenewLaws.{Keeps-Renews, Renews-trans}
use Rattle.h2_tree.specs.Changes.{Takes, Prepares}
use Rattle.h2_inode.specs.declared.kind.InodeKind.TheVariants.{File}
use Rattle.h2_inode.specs.declared.inode.Body.TheVariants.{Refs, Bytes}
use Rattle.h2_inode.specs.declared.inode.Inode.{Inode}
use Rattle.h2_inode.specs.Nodes.{Fields, fields_of, set_of, HasInode, KeepsOthersBeside}
use Rattle.h2_inode.specs.NodeLaws.{inode_held}
use Rattle.h2_file.specs.Blocks.{IsFile, IsFileOfRefs, HasContents}
use Rattle.h2_file.specs.Sizing.{IsResized, HasResized, Sizes}
use Rattle.h2_file.specs.Linking.{empty_set, IsBlock, AreBlocks, PathsLoaded, LoadsEach, KeepsOthers, Opens, PutsEach, LinksNodes, LinksFile, put_each}
use Rattle.h2_file.proofs.Chained.{block_limit, blocks_ordered, PutAll, puts_all, puts_reach, puts_spare}
use Rattle.h2_file.proofs.Opened.{Opened, opened_all}
use Rattle.h2_file.proofs.Loaded.{loaded_on}
use Rattle.h2_file.proofs.SpentAll.{puts_spent}

-- The spare nodes

pub walked_readied : (f g h : Forest) → Walks f g → ReadiesOnly g h → Prepares f h
walked_readied f g h walks ready = record {
  sound = ready.sound;
  fixed = Fixed-trans f g h (λ m st st'. (walks.stays m st).place.stands) walks.fixed ready.fixed;
  stays = λ m st. Stays-trans f g h walks.sound (λ n st'. Same-Stays g h n (ready.same n st')) m (walks.stays m st);
  sets = λ m st. (ready.same m (walks.stays m st).place.stands).set ∙ walks.sets m st;
  writable = λ m st. (ready.same m (walks.stays m st).place.stands).writable ∙ walks.writable m st;
  clean = λ m out st. let was = ready.none_new m st in (ready.same m was).writable ∙ walks.clean m out was;
  copies = λ m st. (ready.same m (walks.stays m st).place.stands).copies ∙ walks.copies m st;
  spare = (let a = walks.spare in let b = ready.spare in omega (arith, a, b));
  room = ready.room ∙ walks.room;
}

-- A block that goes in

content_leaf : (k : Kind) → k ≡ Content → leads_on k ≡ false
content_leaf k e = rw e refl

pub block_takes : (f : Forest) (at : ℕ) (r : Ref) → IsSound f → (f.stands at ≡ true) × (f.root at ≡ at) × (f.low at ≡ 0) → HasContents f at → IsBlock r → Takes f at r
block_takes f at r sound root contents is = record {
  is_leaf = content_leaf r.kind is.kind;
  allowed = contents.kinds_all r is.kind is.held;
  aligned = is.aligned;
  class = inl is.class;
  keybits = is.keybits ∙ sym contents.keybits;
  low = (let e = root.2 in omega (arith, e));
  high = (let e = root.2 in let bits = (sound.node at root.0).half root.1 in let limit_is = block_limit r is in let end = is.class in let long : f.low at + 2 ^ f.bits at ≡ 2 ^ 63 = rw (e, bits) refl in omega (arith, long, limit_is, end));
}

-- The file, opened

some_same : {X : Type 0} {x y : X} → Some x ≡ Some y → x ≡ y
some_same e = (cc)

-- what two inodes of one root have in common
same_fields : (f : Forest) (holds : ℕ → Option Fields) (at : ℕ) (i j : Inode) → HasInode f holds at i → HasInode f holds at j → fields_of i ≡ fields_of j
same_fields f holds at i j a b = some_same (sym a.fields ∙ b.fields)

-- an inode that was resized twice
pub resized_twice : (i j k new : Inode) (between size : ℕ) (set set' : RefSet) → IsResized i j between set → fields_of j ≡ fields_of k → IsResized k new size set' → IsResized i new size set'
resized_twice i j k new between size set set' was same is = record {
  kind = is.kind ∙ sym (ap (λ (x : Fields). x.kind) same) ∙ was.kind;
  number = is.number ∙ sym (ap (λ (x : Fields). x.number) same) ∙ was.number;
  size_is = is.size_is;
  links = is.links ∙ sym (ap (λ (x : Fields). x.links) same) ∙ was.links;
  next = is.next ∙ sym (ap (λ (x : Fields). x.next) same) ∙ was.next;
  name = is.name ∙ sym (ap (λ (x : Fields). x.name) same) ∙ was.name;
  body = is.body;
}

module _ {B : Type 0} (fields : B → Option Fields) (f h : Forest) (a b : ℕ → B) (at : ℕ) (place : InPlace f h at) (fixed : Fixed f h) (beside : KeepsBeside f h a b) (set : h.set at ≡ f.set at) where
  -- a root whose set stays has its inode
  pub inode_kept : (i : Inode) → HasInode f (λ m. fields (a m)) at i → HasInode h (λ m. fields (b m)) at i
  inode_kept i has = inode_held f h (λ m. fields (a m)) (λ m. fields (b m)) at i place (fixed.leaf_bits at has.stands place.stands) (λ r. fixed.allows at r has.stands place.stands) set (ap fields (beside.same at has.stands place.stands)) has

  pub file_kept : IsFile f (λ m. fields (a m)) at → IsFile h (λ m. fields (b m)) at
  file_kept file = record { inode = file.inode; has = inode_kept file.inode file.has; kind = file.kind }

-- The root's inode, where its body is references

module _ (h : Forest) (holds : ℕ → Option Fields) (at : ℕ) (file : IsFile h holds at) (j : Inode) (has : HasInode h holds at j) where
  same_kind : j.kind ≡ File
  same_kind = ap (λ (x : Fields). x.kind) (same_fields h holds at j file.inode has file.has) ∙ file.kind

  pub own_refs : (s : RefSet) → j.body ≡ Refs s → IsFileOfRefs h holds at
  own_refs s body = record { inode = j; has = has; kind = same_kind; set = s; body = body }

  pub own_resized : (s : RefSet) → j.body ≡ Refs s → (i : Inode) → HasInode h holds at i → HasResized h holds at i i.size
  own_resized s body i is =
      let same = same_fields h holds at i j is has in
      let set : h.set at ≡ s = has.set ∙ ap set_of body in
      record {
        inode = j;
        has = has;
        is = record {
          kind = sym (ap (λ (x : Fields). x.kind) same);
          number = sym (ap (λ (x : Fields). x.number) same);
          size_is = sym (ap (λ (x : Fields). x.size) same);
          links = sym (ap (λ (x : Fields). x.links) same);
          next = sym (ap (λ (x : Fields). x.next) same);
          name = sym (ap (λ (x : Fields). x.name) same);
          body = body ∙ ap Refs (sym set);
        };
      }

  pub own_bare : (bytes : List ℕ) → j.body ≡ Bytes bytes → (let s = h.set at in s ≡ empty_set)
  own_bare bytes body = has.set ∙ ap set_of body

  -- and where it was bytes, once they are an empty set
  module _ (g : Forest) (holds' : ℕ → Option Fields) (new : Inode) (has' : HasInode g holds' at new) (size : ℕ) (set : RefSet) (empty : set ≡ empty_set) (is : IsResized j new size set) where
    pub emptied_refs : IsFileOfRefs g holds' at
    emptied_refs = record { inode = new; has = has'; kind = is.kind ∙ same_kind; set = set; body = is.body }

    pub emptied_resized : size ≡ j.size → (i : Inode) → HasInode h holds at i → HasResized g holds' at i i.size
    emptied_resized size_is i was =
        let same = same_fields h holds at i j was has in
        let now : g.set at ≡ set = has'.set ∙ ap set_of is.body in
        record {
          inode = new;
          has = has';
          is = record {
            kind = is.kind ∙ sym (ap (λ (x : Fields). x.kind) same);
            number = is.number ∙ sym (ap (λ (x : Fields). x.number) same);
            size_is = is.size_is ∙ size_is ∙ sym (ap (λ (x : Fields). x.size) same);
            links = is.links ∙ sym (ap (λ (x : Fields). x.links) same);
            next = is.next ∙ sym (ap (λ (x : Fields). x.next) same);
            name = is.name ∙ sym (ap (λ (x : Fields). x.name) same);
            body = is.body ∙ ap Refs (sym now);
          };
        }

-- The whole

module _ (f w o p g : Forest) (at : ℕ) (rs : List Ref) (sound : IsSound f) (stands : f.stands at ≡ true) (top : f.root at ≡ at) (prepares : Prepares f w) (loads : LoadsEach f w at rs) (apart : KeepsOthers f w at) (loaded : PathsLoaded w at rs) (enough : length rs ≤ w.spare) (made : length rs ≤ f.spare → w.spare ≡ f.spare) (opens : Opens w at o) (puts : PutsEach at o rs p) (sizes : Sizes p g at) (are : AreBlocks rs) (contents : HasContents o at) where
  place_w : (m : ℕ) → f.stands m ≡ true → InPlace f w m
  place_w m st = (prepares.stays m st).place

  top_w : w.root at ≡ at
  top_w = (place_w at stands).root ∙ top

  open_w : Opened w o at
  open_w = opened_all opens prepares.sound (place_w at stands).stands top_w

  all : PutAll o p at rs
  all = puts_all puts open_w.sound open_w.place.stands

  place_g : (m : ℕ) → p.stands m ≡ true → InPlace p g m
  place_g m st = elim (same_or_not m at) as (λ _. InPlace p g m) [
    | inl e ↦ subst (InPlace p g) (sym e) sizes.place
    | inr ne ↦ (sizes.others m st ne).place
  ]

  stands_w : (m : ℕ) → f.stands m ≡ true → w.stands m ≡ true
  stands_w m st = (place_w m st).stands

  stands_o : (m : ℕ) → f.stands m ≡ true → o.stands m ≡ true
  stands_o m st = (open_w.still m (stands_w m st)).stands

  stands_p : (m : ℕ) → f.stands m ≡ true → p.stands m ≡ true
  stands_p m st = (all.still m (stands_o m st)).stands

  still_all : (m : ℕ) → f.stands m ≡ true → InPlace f g m
  still_all m st = InPlace-trans f w g m (place_w m st) (InPlace-trans w o g m (open_w.still m (stands_w m st)) (InPlace-trans o p g m (all.still m (stands_o m st)) (place_g m (stands_p m st))))

  abbrev linked_nodes : LinksNodes f g at rs
  linked_nodes = record { walked = w; prepares = prepares; touched = loads; apart = apart; loaded = loaded; enough = enough; made = made; opened = o; opens = opens; linked = p; puts = puts; grown = (let fewer = all.grown (omega (arith, enough, open_w.spare)) in omega (arith, fewer, open_w.spare)); spent = puts_spare puts (omega (arith, enough, open_w.spare)) ∙ open_w.spare; sizes = sizes }

  pub links_file : LinksFile f g at rs
  links_file = record {
    sound = sizes.sound;
    leaves = λ l hl. sizes.leaves (put_each rs l) (all.leaves l (open_w.leaves l (leaves_stay_all f w sound prepares.stays at stands l hl)));
    put = λ i r read. sizes.paths r.key (Some r) (puts_reach puts open_w.sound open_w.place.stands (blocks_ordered rs are) i r read);
    paths = λ key out miss reached. sizes.paths key out (all.paths key out miss (open_w.paths key out (reaches_stay f w (λ m. f.stands m ≡ true) (stands_below f sound) prepares.stays stands reached)));
    place = still_all at stands;
    nodes = linked_nodes;
    others = λ m st root.
        let walked = Keeps-Renews f w m (apart m st (λ e. root (e ∙ top))) in
        let at_w = place_w m st in
        let first = open_w.others m at_w.stands (λ e. root (sym at_w.root ∙ e)) in
        let root_o : o.root m ≡ f.root m = first.place.root ∙ at_w.root in
        let second = all.above m first.place.stands (λ e. root (sym root_o ∙ e ∙ open_w.place.root ∙ top_w)) in
        let third = sizes.others m second.place.stands (λ e. root (ap f.root e ∙ top)) in
        Renews-trans f w g m walked (Renews-trans w o g m first (Renews-trans o p g m second (Keeps-Renews p g m (Same-Keeps p g m third))));
    still = still_all;
    roots = λ m st own.
        let in_p = sizes.none_new m st in
        let own_p : p.root m ≡ m = sym (place_g m in_p).root ∙ own in
        let in_o = all.roots m in_p own_p in
        let own_o : o.root m ≡ m = sym (all.still m in_o).root ∙ own_p in
        let in_w = open_w.none_new m in_o in
        let own_w : w.root m ≡ m = sym (open_w.still m in_w).root ∙ own_o in
        elim (loads.only m in_w) as (λ _. f.stands m ≡ true) [
          | inl was ↦ was
          | inr new ↦ subst (λ z. f.stands z ≡ true) (sym top ∙ (sym new.1 ∙ own_w)) stands
        ];
    leaf_bits = λ m st. sizes.leaf_bits m (stands_p m st) ∙ all.fixed.leaf_bits m (stands_o m st) (stands_p m st) ∙ open_w.leaf_bits m (stands_w m st) ∙ prepares.fixed.leaf_bits m st (stands_w m st);
    allows = λ m r st ne. sizes.allows m r (stands_p m st) ∙ all.fixed.allows m r (stands_o m st) (stands_p m st) ∙ open_w.allows m r (stands_w m st) ne ∙ prepares.fixed.allows m r st (stands_w m st);
    held = λ m. sizes.held m ∙ all.fixed.held m ∙ open_w.held m ∙ prepares.fixed.held m;
    name = λ r. sizes.name r ∙ all.fixed.name r ∙ open_w.name r ∙ prepares.fixed.name r;
    epoch = sizes.epoch ∙ all.fixed.epoch ∙ open_w.epoch ∙ prepares.fixed.epoch;
    failed = omega (arith, sizes.failed, all.fixed.failed, open_w.failed, prepares.fixed.failed);
    bad = omega (arith, sizes.bad, all.fixed.bad, open_w.bad, prepares.fixed.bad);
    writable = sizes.place.writable (all.place.writable open_w.writable);
    room = (
        let spent = puts_spent rs are puts open_w.sound open_w.place.stands (open_w.place.root ∙ top_w) contents (loaded_on w o at rs open_w.paths loaded) (λ i r read. (i, read)) in
        omega (arith, sizes.room, spent, open_w.room, prepares.room));
    room_each = omega (arith, sizes.room, all.room, open_w.room, prepares.room);
    room_falls = omega (arith, sizes.room, all.room_falls, open_w.room, prepares.room);
    spare = omega (arith, sizes.spare, all.spare, open_w.spare, prepares.spare);
    spare_falls = λ before. let none_made = made before in let fewer = linked_nodes.grown in omega (arith, none_made, fewer, sizes.spare);
  }

-- The inode and what other roots keep

-- the inode of a file, opened and then resized
pub linked_inode : (o g : Forest) (holds holds' : ℕ → Option Fields) (at : ℕ) (i : Inode) (between size : ℕ) (file : IsFileOfRefs o holds at) → HasResized o holds at i between → HasResized g holds' at file.inode size → HasResized g holds' at i size
linked_inode o g holds holds' at i between size file opened now = record {
  inode = now.inode;
  has = now.has;
  is = resized_twice i opened.inode file.inode now.inode between size _ _ opened.is (same_fields o holds at opened.inode file.inode opened.has file.has) now.is;
}

-- what opening leaves, where it comes after the loads
pub opened_from : {f w o : Forest} {at : ℕ} → f.stands at ≡ true → f.root at ≡ at → Prepares f w → Opens w at o → Opened w o at
opened_from {at = at} stands top prepares opens = let place = (prepares.stays at stands).place in opened_all opens prepares.sound place.stands (place.root ∙ top)

-- and what putting in leaves after that
pub put_from : {f w o p : Forest} {at : ℕ} {rs : List Ref} → f.stands at ≡ true → f.root at ≡ at → Prepares f w → Opens w at o → PutsEach at o rs p → PutAll o p at rs
put_from stands top prepares opens puts = let opened = opened_from stands top prepares opens in puts_all puts opened.sound opened.place.stands

pub opened_stands : {f w o : Forest} {at : ℕ} → f.stands at ≡ true → f.root at ≡ at → Prepares f w → Opens w at o → (m : ℕ) → f.stands m ≡ true → o.stands m ≡ true
opened_stands {at = at} stands top prepares opens m st =
    ((opened_from stands top prepares opens).still m (prepares.stays m st).place.stands).stands

pub linked_beside : {B : Type 0} (f w o p g : Forest) (at : ℕ) (a b c d e : ℕ → B) → ((m : ℕ) → f.stands m ≡ true → w.stands m ≡ true) → ((m : ℕ) → f.stands m ≡ true → o.stands m ≡ true) → ((m : ℕ) → g.stands m ≡ true → p.stands m ≡ true) → KeepsBeside f w a b → KeepsOthersBeside w o at b c → KeepsBeside o p c d → KeepsOthersBeside p g at d e → KeepsOthersBeside f g at a e
linked_beside f w o p g at a b c d e to_w to_o to_p first second third last = record {
  same = λ m ne st st'.
      let in_w = to_w m st in
      let in_o = to_o m st in
      let in_p = to_p m st' in
      last.same m ne in_p st' ∙ third.same m in_o in_p ∙ second.same m ne in_w in_o ∙ first.same m st in_w;
}
