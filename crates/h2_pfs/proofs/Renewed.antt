-- PFSs whose inodes are loaded, and what a change of the super-root's tree leaves of them.
use Rattle.std.proofs.Common.{◌≡◌, ℕ, inl, inr, true, refl, sym, ◌∙◌, ap, subst, List, [], ◌∷◌, Option, Some}
use Rattle.std.specs.Prelude.{◌↔◌}
use Rattle.h2_ref.specs.declared.reference.Kind.TheVariants.{Inode as Inode_kind}
use Rattle.h2_ref.specs.declared.reference.Ref.{Ref}
use Rattle.h2_set.specs.RefSet.{RefSet}
use Rattle.h2_set.specs.Forest.{Forest, refs, IsSound, IsRootOf}
use Rattle.h2_set.specs.Calls.{AllRenewed, Fixed, InPlace, Renews, KeepsBeside}
use Rattle.h2_inode.specs.declared.kind.InodeKind.{InodeKind}
use Rattle.h2_inode.specs.declared.kind.InodeKind.TheVariants.{Pfs as Pfs_kind}
use Rattle.h2_inode.specs.declared.inode.Body.{Body}
use Rattle.h2_inode.specs.declared.inode.Body.TheVariants.{Refs, Bytes}
use Rattle.h2_inode.specs.declared.inode.Inode.{Inode}
use Rattle.h2_inode.specs.Nodes.{Fields, Told, held_by, fields_of, bytes_of, set_of, IsTreeOf, HasInode, MayHave}
use Rattle.h2_inode.specs.NodeLaws.{named_stays}
use Rattle.h2_inode.specs.Access.{OneByOne}
use Rattle.h2_inode.specs.Loaded.{loaded_nodes, at_root, no_content}
use Rattle.h2_inode.specs.PfsList.{ListedPfs, IsPfs}
use Rattle.h2_pfs.specs.Meets.{IsMet}

-- the leaf names this PFS, which is loaded
pub record IsLoadedPfs (f : Forest) (holds : ℕ → Option Fields) (top : ℕ) (r : Ref) (p : ListedPfs) : Type 0 where
  pub kind_is : r.kind ≡ Inode_kind
  pub node : ℕ
  pub named : IsRootOf f top r.key node
  pub inode : Inode
  pub has : HasInode f holds node inode
  pub pfs_is : inode.kind ≡ Pfs_kind
  pub numbered : inode.number ≡ r.key
  pub id_is : p.id ≡ r.key
  pub name_is : p.name ≡ inode.name
  pub next_is : p.next ≡ inode.next

-- what stands in the list and was met is loaded
pub loaded_pfs : (f : Forest) (holds : ℕ → Option Fields) (tells : Ref → Option Told) (top : ℕ) (r : Ref) (p q : ListedPfs) → IsPfs (loaded_nodes f holds tells no_content) (at_root top) r p → IsMet f holds top r q → IsLoadedPfs f holds top r p
loaded_pfs f holds tells top r p q is met =
    elim is.read as (λ _. IsLoadedPfs f holds top r p) [
      | inl near ↦ record {
        kind_is = is.kind_is;
        node = near.0;
        named = near.1;
        inode = is.inode;
        has = near.2;
        pfs_is = is.pfs_is;
        numbered = is.numbered;
        id_is = is.id_is;
        name_is = is.name_is;
        next_is = is.next_is;
      }
      | inr far ↦ absurd (far.0 met.node met.named)
    ]

pub all_loaded : (f : Forest) (holds : ℕ → Option Fields) (tells : Ref → Option Told) (top : ℕ) (l : List Ref) (ps qs : List ListedPfs) → OneByOne (IsPfs (loaded_nodes f holds tells no_content) (at_root top)) l ps → OneByOne (IsMet f holds top) l qs → OneByOne (IsLoadedPfs f holds top) l ps
all_loaded f holds tells top [] [] qs is met = tt
all_loaded f holds tells top [] (p ∷ ps) qs is met = is
all_loaded f holds tells top (r ∷ l) [] qs is met = is
all_loaded f holds tells top (r ∷ l) (p ∷ ps) [] is met = absurd met
all_loaded f holds tells top (r ∷ l) (p ∷ ps) (q ∷ qs) is met = (loaded_pfs f holds tells top r p q is.0 met.0, all_loaded f holds tells top l ps qs is.1 met.1)

-- what is loaded stands in the list
pub listed_pfs : (f : Forest) (holds : ℕ → Option Fields) (tells : Ref → Option Told) (top : ℕ) (r : Ref) (p : ListedPfs) → IsLoadedPfs f holds top r p → IsPfs (loaded_nodes f holds tells no_content) (at_root top) r p
listed_pfs f holds tells top r p is = record {
  kind_is = is.kind_is;
  inode = is.inode;
  tree = at_root is.node;
  read = inl (is.node, is.named, is.has, refl);
  pfs_is = is.pfs_is;
  numbered = is.numbered;
  id_is = is.id_is;
  name_is = is.name_is;
  next_is = is.next_is;
}

-- the root holds an inode with these fields
pub record HasFields (f : Forest) (holds : ℕ → Option Fields) (c : ℕ) (x : Fields) : Type 0 where
  pub inode : Inode
  pub has : HasInode f holds c inode
  pub same : fields_of inode ≡ x

abbrev with_body : Inode → Body → Inode
with_body i b = record { kind = i.kind; number = i.number; size = i.size; links = i.links; next = i.next; name = i.name; body = b }

fields_with : (i : Inode) (b : Body) → bytes_of b ≡ bytes_of i.body → fields_of (with_body i b) ≡ fields_of i
fields_with i b same = ap (λ z. let x : Fields = record { kind = i.kind; number = i.number; size = i.size; links = i.links; next = i.next; name = i.name; bytes = z } in x) same

no_refs : (rs : List Ref) → AllRenewed [] rs → rs ≡ []
no_refs [] h = refl
no_refs (r ∷ rs) h = absurd h

empty_set : (s : RefSet) → s.refs ≡ [] → s.capacity ≡ 4 → s ≡ record { refs = []; capacity = 4 }
empty_set s none four = rw (none, four) refl

-- the rules of a root's leaves stay
pub record SameRules (f g : Forest) (c : ℕ) : Type 0 where
  pub leaf_bits : g.leaf_bits c ≡ f.leaf_bits c
  pub allows : (r : Ref) → g.allows c r ≡ f.allows c r

pub fixed_rules : (f g : Forest) (c : ℕ) → f.stands c ≡ true → g.stands c ≡ true → Fixed f g → SameRules f g c
fixed_rules f g c stood stands fixed = record { leaf_bits = fixed.leaf_bits c stood stands; allows = λ r. fixed.allows c r stood stands }

-- the tree of a root that stays has the leaves of any body of the same kind of contents
tree_stays : (f g : Forest) (c : ℕ) (kind : InodeKind) (a b : Body) → SameRules f g c → InPlace f g c → ((r : Ref) → MayHave kind a r ↔ MayHave kind b r) → IsTreeOf f c kind a → IsTreeOf g c kind b
tree_stays f g c kind a b fixed place may tree = record {
  low = place.low ∙ tree.low;
  bits = place.bits ∙ tree.bits;
  leaf_bits = fixed.leaf_bits ∙ tree.leaf_bits;
  allows = λ r.
      let was = subst (λ x. (x ≡ true) ↔ MayHave kind a r) (sym (fixed.allows r)) (tree.allows r) in
      ((λ e. (may r).0 (was.0 e)), (λ m. was.1 ((may r).1 m)));
}

renewed_by : (f g : Forest) (holds now : ℕ → Option Fields) (c : ℕ) (i : Inode) → IsSound g → SameRules f g c → Renews f g c → now c ≡ holds c → HasInode f holds c i → (b : Body) → i.body ≡ b → HasFields g now c (fields_of i)
renewed_by f g holds now c i sound fixed renews same has (Refs s) e =
    let body : Body = Refs (g.set c) in
    let fields = fields_with i body (ap bytes_of (sym e)) in
    record {
      inode = with_body i body;
      has = record {
        stands = renews.place.stands;
        root = renews.place.root ∙ has.root;
        tree = tree_stays f g c i.kind (Refs s) body fixed renews.place (λ r. ((λ z. z), (λ z. z))) (subst (λ x. IsTreeOf f c i.kind x) e has.tree);
        fields = same ∙ has.fields ∙ ap Some (sym fields);
        set = refl;
      };
      same = fields;
    }
renewed_by f g holds now c i sound fixed renews same has (Bytes bytes) e =
    let root = renews.place.root ∙ has.root in
    let none = no_refs (refs g c) (subst (λ (s : RefSet). AllRenewed s.refs (refs g c)) (has.set ∙ ap set_of e) renews.renewed) in
    let set = empty_set (g.set c) none ((sound.node c renews.place.stands).root_capacity root) in
    record {
      inode = i;
      has = record {
        stands = renews.place.stands;
        root = root;
        tree = tree_stays f g c i.kind i.body i.body fixed renews.place (λ r. ((λ z. z), (λ z. z))) has.tree;
        fields = same ∙ has.fields;
        set = set ∙ ap set_of (sym e);
      };
      same = refl;
    }

-- a root whose references are renewed holds an inode with the same fields
pub renewed_inode : {B : Type 0} (fields : B → Option Fields) (f g : Forest) (old new : ℕ → B) (c : ℕ) (i : Inode) → IsSound g → SameRules f g c → KeepsBeside f g old new → Renews f g c → HasInode f (held_by fields old) c i → HasFields g (held_by fields new) c (fields_of i)
renewed_inode fields f g old new c i sound fixed beside renews has =
    renewed_by f g (held_by fields old) (held_by fields new) c i sound fixed renews (ap fields (beside.same c has.stands renews.place.stands)) has i.body refl

-- a PFS that is loaded stays so, where its inode is renewed
pub renewed_pfs : {B : Type 0} (fields : B → Option Fields) (f g : Forest) (old new : ℕ → B) (top : ℕ) (r : Ref) (p : ListedPfs) → IsSound g → KeepsBeside f g old new → InPlace f g top → (is : IsLoadedPfs f (held_by fields old) top r p) → SameRules f g is.node → Renews f g is.node → IsLoadedPfs g (held_by fields new) top r p
renewed_pfs fields f g old new top r p sound beside place is rules renews =
    let it = renewed_inode fields f g old new is.node is.inode sound rules beside renews is.has in
    record {
      kind_is = is.kind_is;
      node = is.node;
      named = named_stays f g top r.key is.node place renews.place is.named;
      inode = it.inode;
      has = it.has;
      pfs_is = ap (λ (x : Fields). x.kind) it.same ∙ is.pfs_is;
      numbered = ap (λ (x : Fields). x.number) it.same ∙ is.numbered;
      id_is = is.id_is;
      name_is = is.name_is ∙ sym (ap (λ (x : Fields). x.name) it.same);
      next_is = is.next_is ∙ sym (ap (λ (x : Fields). x.next) it.same);
    }

-- the root of a PFS stands in another tree, and belongs to no other leaf
pub other_tree : (f : Forest) (holds : ℕ → Option Fields) (top : ℕ) (r : Ref) (p : ListedPfs) → IsSound f → f.stands top ≡ true → f.root top ≡ top → (is : IsLoadedPfs f holds top r p) → f.root is.node ≡ f.root top → ⊥
other_tree f holds top r p sound stands root is same =
    let at : is.node ≡ top = sym is.named.root ∙ same ∙ root in
    let belongs : f.belongs is.node top r.key ≡ true = (is.named.belongs top r.key).1 (inl (refl, refl)) in
    (sound.owner is.node top r.key is.named.stands belongs).other (is.named.root ∙ at)

pub other_leaf : (f : Forest) (holds : ℕ → Option Fields) (top key : ℕ) (r : Ref) (p : ListedPfs) → IsSound f → f.stands top ≡ true → f.root top ≡ top → (r.key ≡ key → ⊥) → (is : IsLoadedPfs f holds top r p) → f.belongs is.node (f.root top) key ≡ true → ⊥
other_leaf f holds top key r p sound stands root differs is belongs =
    elim ((is.named.belongs top key).0 (subst (λ t. f.belongs is.node t key ≡ true) root belongs)) as (λ _. ⊥) [
      | inl same ↦ differs (sym same.1)
      | inr own ↦ (sound.owner top top key stands own).other root
    ]
