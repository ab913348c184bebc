-- One more PFS that a scan met.
use Rattle.std.proofs.Common.{◌≡◌, ◌≤◌, ◌+◌, ◌^◌, arith, refl, ◌∙◌, ℕ, List, [], ◌∷◌, ◌++◌, Option, Some, take, slice_get}
use Rattle.h2_ref.specs.declared.reference.Ref.{Ref}
use Rattle.h2_set.specs.Ranges.{Rising}
use Rattle.h2_set.specs.Forest.{Forest, IsRootOf}
use Rattle.h2_set.specs.Calls.{KeepsBeside}
use Rattle.h2_inode.specs.Nodes.{Fields, Told, fields_of, held_by, IsInodeLeaf, Seeks, Visits}
use Rattle.h2_inode.specs.Access.{OneByOne}
use Rattle.h2_inode.specs.PfsList.{ListedPfs}
use Rattle.h2_pfs.specs.Meets.{MetBy}
use Rattle.h2_pfs.proofs.Members.{front_carried, front_grows, later_key}
use Rattle.h2_pfs.proofs.Visiting.{seeks_named, seeks_met, tells_before}

-- no root is named by the leaves from this place on that wasn't before
abbrev pub NamesNoMore : Forest → Forest → ℕ → List Ref → ℕ → Type 0
NamesNoMore f g top leaves i = (j c : ℕ) (r : Ref) → i ≤ j → slice_get leaves j ≡ Some r → IsRootOf g top r.key c → IsRootOf f top r.key c

pub front_met : {B : Type 0} (fields : B → Option Fields) (f h k : Forest) (old mid new : ℕ → B) (was then : Ref → Option Told) (top i c : ℕ) (leaves : List Ref) (pfss : List ListedPfs) (r : Ref) (p : ListedPfs) → Rising 0 (2 ^ 64) leaves → slice_get leaves i ≡ Some r → IsInodeLeaf f top r → Visits f h → KeepsBeside f h old mid → ((r : Ref) (x : Told) → was r ≡ Some x → then r ≡ Some x) → NamesNoMore f h top leaves i → Seeks h k top r.key c → KeepsBeside h k mid new → OneByOne (MetBy f h (held_by fields old) (held_by fields mid) was top) (take i leaves) pfss → MetBy h k (held_by fields mid) (held_by fields new) then top r p → OneByOne (MetBy f k (held_by fields old) (held_by fields new) was top) (take (i + 1) leaves) (pfss ++ p ∷ [])
front_met fields f h k old mid new was then top i c leaves pfss r p rising read leaf visits beside told named seek beside_too all met =
    let place = (visits.stays top leaf.stands).place in
    let tells = tells_before fields f h old mid was then top r (fields_of met.0.inode) visits beside leaf.stands told (λ d is. named i d r (omega arith) read is) met.1 in
    let before = front_carried (MetBy f h (held_by fields old) (held_by fields mid) was top) (MetBy f k (held_by fields old) (held_by fields new) was top) 0 (2 ^ 64) leaves i r pfss rising read (λ q x lt m. (seeks_met fields h k mid new top r.key c q x visits.sound seek (λ e. omega (arith, lt, e)) beside_too place.stands (place.root ∙ leaf.root) m.0, m.1)) all in
    front_grows (MetBy f k (held_by fields old) (held_by fields new) was top) leaves i (i + 1) r pfss p refl read before (met.0, tells)

pub named_no_more : (f h k : Forest) (top i c : ℕ) (leaves : List Ref) (r : Ref) → Rising 0 (2 ^ 64) leaves → slice_get leaves i ≡ Some r → IsInodeLeaf f top r → Visits f h → Seeks h k top r.key c → NamesNoMore f h top leaves i → NamesNoMore f k top leaves (i + 1)
named_no_more f h k top i c leaves r rising read leaf visits seek named j d q le there is =
    let place = (visits.stays top leaf.stands).place in
    let above = later_key 0 (2 ^ 64) leaves i j r q rising (omega (arith, le)) read there in
    named j d q (omega (arith, le)) there (seeks_named h k top r.key q.key c d place.stands (place.root ∙ leaf.root) seek (λ e. omega (arith, e, above)) is)
