-- The inode of a root, and which leaves its tree may have.
use Rattle.std.proofs.Common.{◌≡◌, ℕ, Bool, true, false, ◌&&◌, refl, sym, ◌∙◌, ap, List, [], Option, Some, None, subst, slice_get}
use Rattle.std.specs.Prelude.{◌↔◌}
use Rattle.std.proofs.lemmas.Option.{none-some}
use Rattle.h2_ref.specs.declared.faults.Why.{Why}
use Rattle.h2_ref.specs.declared.reference.Kind.{Kind}
use Rattle.h2_ref.specs.declared.reference.Kind.TheVariants.{Empty, Inode as Inode_kind, Indirect, Content, Dirent, MapNode, MapLeaf}
use Rattle.h2_ref.specs.declared.reference.Ref.{Ref}
use Rattle.h2_set.specs.Forest.{Forest}
use Rattle.h2_set.specs.HeldTest.{passes_as_held, held-tested}
use Rattle.h2_set.specs.SetBytes.{IsHeld}
use Rattle.h2_inode.specs.declared.kind.InodeKind.{InodeKind}
use Rattle.h2_inode.specs.declared.kind.InodeKind.TheVariants.{Directory, File, Pfs}
use Rattle.h2_inode.specs.declared.inode.Body.{Body}
use Rattle.h2_inode.specs.declared.inode.Body.TheVariants.{Refs, Bytes}
use Rattle.h2_inode.specs.declared.inode.Inode.{Inode}
use Rattle.h2_inode.specs.Nodes.{fields_of, bytes_of, held_by, leaf_kind, MayHave, HasInode}
use Rattle.h2_memory_sets.specs.declared.node.Node.{Node}
use Rattle.h2_memory_sets.specs.Inodes.{fields_seen}
use Rattle.h2_memory_sets.specs.Kept.{AreKept}
use Rattle.h2_memory_sets.specs.Owners.{is_leaf_of, inode_allows, allowed_by, allows_of, beside_of, refit, refit_body}
use Rattle.h2_memory_sets.specs.View.{set_of, root_of, low_of, bits_of, leaf_bits_of, forest_with}
use Rattle.h2_memory_sets.proofs.Passing.{and_parts}

pub leaf_is : (kind : InodeKind) (k : Kind) → is_leaf_of kind k ≡ true → k ≡ leaf_kind kind
leaf_is kind Empty e = absurd (cc)
leaf_is Directory Dirent e = refl
leaf_is File Dirent e = absurd (cc)
leaf_is Pfs Dirent e = absurd (cc)
leaf_is Directory Content e = absurd (cc)
leaf_is File Content e = refl
leaf_is Pfs Content e = absurd (cc)
leaf_is Directory Inode_kind e = absurd (cc)
leaf_is File Inode_kind e = absurd (cc)
leaf_is Pfs Inode_kind e = refl
leaf_is kind Indirect e = absurd (cc)
leaf_is kind MapNode e = absurd (cc)
leaf_is kind MapLeaf e = absurd (cc)

pub is_leaf : (kind : InodeKind) (k : Kind) → k ≡ leaf_kind kind → is_leaf_of kind k ≡ true
is_leaf Directory k e = ap (is_leaf_of Directory) e
is_leaf File k e = ap (is_leaf_of File) e
is_leaf Pfs k e = ap (is_leaf_of Pfs) e

and_both : (a b : Bool) → a ≡ true → b ≡ true → (a && b) ≡ true
and_both true b e h = h
and_both false b e h = absurd (cc)

-- the leaves of one kind that can be written
pub kind_allows : (kind : InodeKind) (r : Ref) → ((is_leaf_of kind r.kind && passes_as_held r) ≡ true) ↔ ((r.kind ≡ leaf_kind kind) × IsHeld r)
kind_allows kind r = (
  (λ e. let p = and_parts (is_leaf_of kind r.kind) (passes_as_held r) e in (leaf_is kind r.kind p.0, (held-tested r).0 p.1)),
  (λ h. and_both (is_leaf_of kind r.kind) (passes_as_held r) (is_leaf kind r.kind h.0) ((held-tested r).1 h.1)),
)

pub may_have : (kind : InodeKind) (body : Body) (r : Ref) → (inode_allows kind body r ≡ true) ↔ MayHave kind body r
may_have kind (Refs s) r = kind_allows kind r
may_have kind (Bytes bytes) r = ((λ e. absurd (cc)), (λ h. absurd h))

same_bytes : (b : Body) → bytes_of (refit_body b (record { refs = []; capacity = 4 })) ≡ bytes_of b
same_bytes (Refs s) = refl
same_bytes (Bytes bytes) = refl

-- an inode without its set
abbrev pub emptied : Option Inode → Option Inode
emptied o = refit o (record { refs = []; capacity = 4 })

-- what a root keeps beside its set is all of its inode but the set
pub fields_kept : (v : Inode) → fields_seen (emptied (Some v)) ≡ Some (fields_of v)
fields_kept v = ap (λ (o : Option (List ℕ)). Some (record { kind = v.kind; number = v.number; size = v.size; links = v.links; next = v.next; name = v.name; bytes = o })) (same_bytes v.body)

module _ (xs : List Node) (spare epoch room failed bad : ℕ) (met : Option (ℕ × Why)) (kept : AreKept xs) where
  abbrev f : Forest
  f = forest_with xs spare epoch room failed bad met

  -- the root of an inode
  pub has_inode : (at : ℕ) (x : Node) (v : Inode) → f.stands at ≡ true → slice_get xs at ≡ Some x → x.inode ≡ Some v → HasInode f (held_by fields_seen (λ m. beside_of (slice_get xs m))) at v
  has_inode at x v st read is =
      let it = kept.inode at x v read is in
      record {
        stands = st;
        root = ap root_of read ∙ it.root;
        tree = record {
          low = ap low_of read ∙ it.low;
          bits = ap bits_of read ∙ it.bits;
          leaf_bits = ap leaf_bits_of read ∙ it.leaf_bits;
          allows = λ r. subst (λ b. (b ≡ true) ↔ MayHave v.kind v.body r) (sym (ap (λ (o : Option Node). allows_of o r) read ∙ ap (λ (o : Option Inode). allowed_by o x.leaves r) is)) (may_have v.kind v.body r);
        };
        fields = ap (λ (o : Option Node). fields_seen (beside_of o)) read ∙ ap (λ (o : Option Inode). fields_seen (emptied o)) is ∙ fields_kept v;
        set = ap set_of read ∙ it.set;
      }

  -- a node with fields of an inode has one
  pub inode_there : (at : ℕ) (i : Inode) → HasInode f (held_by fields_seen (λ m. beside_of (slice_get xs m))) at i → (x : Node) × (v : Inode) × (slice_get xs at ≡ Some x) × (x.inode ≡ Some v)
  inode_there at i h = of_node (slice_get xs at) refl h.fields
    where
      of_inode : (x : Node) (o : Option Inode) → slice_get xs at ≡ Some x → x.inode ≡ o → fields_seen (emptied o) ≡ Some (fields_of i) → (x : Node) × (v : Inode) × (slice_get xs at ≡ Some x) × (x.inode ≡ Some v)
      of_inode x None read is e = absurd (none-some (fields_of i) e)
      of_inode x (Some v) read is e = (x, v, read, is)

      of_node : (o : Option Node) → slice_get xs at ≡ o → fields_seen (beside_of o) ≡ Some (fields_of i) → (x : Node) × (v : Inode) × (slice_get xs at ≡ Some x) × (x.inode ≡ Some v)
      of_node None read e = absurd (none-some (fields_of i) e)
      of_node (Some x) read e = of_inode x x.inode read refl e
