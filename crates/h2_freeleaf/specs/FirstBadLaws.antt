-- Where a map has a bad block its image has no codes under the header, and the first fault is one.
use Rattle.std.specs.Prelude.{◌≡◌, ◌<◌, ℕ, zero, suc, ◌+◌, ◌*◌, List, length, slice_index_or}
use Rattle.std.proofs.Common.{ap, sym, ◌∙◌, subst, arith, inl, inr}
use Rattle.std.proofs.lemmas.Bool.{cases_lt}
use Rattle.h2_num.specs.Places.{Places, from_place}
use Rattle.h2_codes.specs.declared.code.Code.{Code}
use Rattle.h2_ref.specs.declared.reference.Ref.{Ref}
use Rattle.h2_ref.specs.Methods.{check_value}
use Rattle.h2_ref.specs.Ref.{empty_ref}
use Rattle.h2_header.specs.declared.header.Header.{Header}
use Rattle.h2_header.specs.Map.{top_level, zones_under}
use Rattle.h2_freeleaf.specs.declared.fault.MapFault.{MapFault}
use Rattle.h2_freeleaf.specs.declared.fault.MapFault.TheVariants.{BadCheck, Reference}
use Rattle.h2_freeleaf.specs.FaultLaws.{leaf_fault-none, leaf_one_fault}
use Rattle.h2_freeleaf.specs.NodeLaws.{node_one}
use Rattle.h2_freeleaf.specs.InImage.{HasCheck, LeadsToLeaf, LeadsToNode, AreEntries, LeadsTo, AreCodesOf}
use Rattle.h2_freeleaf.specs.FirstBad.{check_at, IsBadCheck, IsBadLeaf, IsEntryAt, IsWrongEntry, IsBadNode, IsFirstBadOf, IsWhole, IsBad, IsFirstBadIn, IsFirstBad}

-- A block that is bad isn't whole

bad_check-none : (image : Places) (r : Ref) (f : MapFault) → IsBadCheck image r f → HasCheck image r → ⊥
bad_check-none image r f bad check = bad.differs (ap check_value (sym bad.stored ∙ check))

bad_leaf-none : (image : Places) (leaf : List (List Code)) (r : Ref) (f : MapFault) → IsBadLeaf image r f → LeadsToLeaf image leaf r → ⊥
bad_leaf-none image leaf r f (IsBadLeaf.bad_check bad) leads = bad_check-none image r f bad leads.check
bad_leaf-none image leaf r f (IsBadLeaf.bad_bytes check bad) leads = leaf_fault-none r.place (from_place image r.place) f bad leaf leads.valid leads.bytes

-- a reference leads to one node at most
one_node : (image : Places) (x y : List Ref) (r : Ref) → LeadsToNode image x r → LeadsToNode image y r → y ≡ x
one_node image x y r p q = node_one x y (from_place image r.place) p.valid q.valid p.bytes q.bytes

-- the references of a node that stand for its zones are right in its bytes
right_entry : (image : Places) (zones number level zone : ℕ) (r : Ref) (refs : List Ref) (i : ℕ) → LeadsToNode image refs r → AreEntries level zones number zone refs → i < 8 → IsEntryAt (from_place image r.place) level zones number zone i
right_entry image zones number level zone r refs i leads entries lt =
    let len : length refs ≡ 8 = leads.valid.count in
    record {
      ref = slice_index_or refs i empty_ref;
      spelled = leads.bytes i empty_ref (omega arith);
      valid = leads.valid.valid i empty_ref (omega arith);
      names = entries i empty_ref lt;
    }

bad_node-none : (image : Places) (zones number level zone : ℕ) (r : Ref) (f : MapFault) (refs : List Ref) → IsBadNode image zones number level zone r f → LeadsToNode image refs r → AreEntries level zones number zone refs → ⊥
bad_node-none image zones number level zone r f refs (IsBadNode.bad_check bad) leads entries = bad_check-none image r f bad leads.check
bad_node-none image zones number level zone r f refs (IsBadNode.bad_entry check bad) leads entries = bad.wrong (right_entry image zones number level zone r refs bad.index leads entries bad.below)

-- nothing leads to a bad block
pub bad-none : (image : Places) (zones number : ℕ) (segments : List (List Code)) (level zone : ℕ) (r : Ref) (f : MapFault) → IsBad image zones number level zone r f → LeadsTo image zones number segments level zone r → ⊥
bad-none image zones number segments zero zone r f bad h = bad_leaf-none image h.leaf r f bad h.leads
bad-none image zones number segments (suc level) zone r f (inl bad) (refs, leads, entries, below) = bad_node-none image zones number level zone r f refs bad leads entries
bad-none image zones number segments (suc level) zone r f (inr (others, there, right, first)) (refs, leads, entries, below) =
    let same : refs ≡ others = one_node image others refs r there leads in
    let i = first.index in
    bad-none image zones number segments level (zone + zones_under level * i) (slice_index_or others i empty_ref) f first.here
    (subst (λ (x : List Ref). LeadsTo image zones number segments level (zone + zones_under level * i) (slice_index_or x i empty_ref)) same (below i empty_ref first.below first.inside))

-- where a map has a bad block there are no codes
pub first_bad-none : (image : Places) (h : Header) (segments : List (List Code)) (f : MapFault) → IsFirstBad image h f → AreCodesOf image h segments → ⊥
first_bad-none image h segments f first are =
    let i = first.index in
    let from_0 : 0 + zones_under (top_level h.zones) * i ≡ zones_under (top_level h.zones) * i = omega arith in
    let inside : zones_under (top_level h.zones) * i < h.zones = subst (λ (z : ℕ). z < h.zones) from_0 first.inside in
    bad-none image h.zones h.map_number segments (top_level h.zones) (zones_under (top_level h.zones) * i) (slice_index_or h.map i empty_ref) f
    (subst (λ (z : ℕ). IsBad image h.zones h.map_number (top_level h.zones) z (slice_index_or h.map i empty_ref) f) from_0 first.here) (are.mapped.leads i empty_ref first.below inside)

-- There is one first fault at most

one_bad_check : (image : Places) (r : Ref) (f g : MapFault) → IsBadCheck image r f → IsBadCheck image r g → g ≡ f
one_bad_check image r f g p q =
    let want : q.want ≡ p.want = ap check_value (sym q.stored ∙ p.stored) in
    q.is ∙ ap (λ (n : ℕ). BadCheck r.place n (check_at image r.place)) want ∙ sym p.is

one_bad_leaf : (image : Places) (r : Ref) (f g : MapFault) → IsBadLeaf image r f → IsBadLeaf image r g → g ≡ f
one_bad_leaf image r f g (IsBadLeaf.bad_check p) (IsBadLeaf.bad_check q) = one_bad_check image r f g p q
one_bad_leaf image r f g (IsBadLeaf.bad_check p) (IsBadLeaf.bad_bytes check q) = absurd (bad_check-none image r f p check)
one_bad_leaf image r f g (IsBadLeaf.bad_bytes check p) (IsBadLeaf.bad_check q) = absurd (bad_check-none image r g q check)
one_bad_leaf image r f g (IsBadLeaf.bad_bytes check p) (IsBadLeaf.bad_bytes other q) = leaf_one_fault r.place (from_place image r.place) f g p q

one_wrong_entry : (b : Places) (level zones number zone place : ℕ) (f g : MapFault) → IsWrongEntry b level zones number zone place f → IsWrongEntry b level zones number zone place g → g ≡ f
one_wrong_entry b level zones number zone place f g p q = elim (cases_lt p.index q.index) [
  | inl before ↦ absurd (p.wrong (q.right p.index before))
  | inr ge ↦ elim (cases_lt q.index p.index) [
    | inl before ↦ absurd (q.wrong (p.right q.index before))
    | inr le ↦
        let same : q.index ≡ p.index = omega arith in
        q.is ∙ ap (λ (i : ℕ). Reference (place + 128 * i)) same ∙ sym p.is
  ]
]

one_bad_node : (image : Places) (zones number level zone : ℕ) (r : Ref) (f g : MapFault) → IsBadNode image zones number level zone r f → IsBadNode image zones number level zone r g → g ≡ f
one_bad_node image zones number level zone r f g (IsBadNode.bad_check p) (IsBadNode.bad_check q) = one_bad_check image r f g p q
one_bad_node image zones number level zone r f g (IsBadNode.bad_check p) (IsBadNode.bad_entry check q) = absurd (bad_check-none image r f p check)
one_bad_node image zones number level zone r f g (IsBadNode.bad_entry check p) (IsBadNode.bad_check q) = absurd (bad_check-none image r g q check)
one_bad_node image zones number level zone r f g (IsBadNode.bad_entry check p) (IsBadNode.bad_entry other q) = one_wrong_entry (from_place image r.place) level zones number zone r.place f g p q

-- of eight blocks one is the first bad one, where none is whole and bad, and each has one fault at most
one_first_of : (Whole : ℕ → Ref → Type 0) (Bad : ℕ → Ref → MapFault → Type 0) → ((z : ℕ) (r : Ref) (f : MapFault) → Bad z r f → Whole z r → ⊥) → ((z : ℕ) (r : Ref) (f g : MapFault) → Bad z r f → Bad z r g → g ≡ f)
    → (zones under zone : ℕ) (refs : List Ref) (f g : MapFault) → IsFirstBadOf Whole Bad zones under zone refs f → IsFirstBadOf Whole Bad zones under zone refs g → g ≡ f
one_first_of Whole Bad apart one zones under zone refs f g p q = elim (cases_lt p.index q.index) [
  | inl earlier ↦ absurd (apart (zone + under * p.index) (slice_index_or refs p.index empty_ref) f p.here (q.before p.index earlier))
  | inr ge ↦ elim (cases_lt q.index p.index) [
    | inl earlier ↦ absurd (apart (zone + under * q.index) (slice_index_or refs q.index empty_ref) g q.here (p.before q.index earlier))
    | inr le ↦
        let here : q.index ≡ p.index = omega arith in
        one (zone + under * p.index) (slice_index_or refs p.index empty_ref) f g p.here (subst (λ (i : ℕ). Bad (zone + under * i) (slice_index_or refs i empty_ref) g) here q.here)
  ]
]

one_bad : (image : Places) (zones number level zone : ℕ) (r : Ref) (f g : MapFault) → IsBad image zones number level zone r f → IsBad image zones number level zone r g → g ≡ f
one_bad image zones number zero zone r f g p q = one_bad_leaf image r f g p q
one_bad image zones number (suc level) zone r f g (inl p) (inl q) = one_bad_node image zones number level zone r f g p q
one_bad image zones number (suc level) zone r f g (inl p) (inr (refs, leads, entries, first)) = absurd (bad_node-none image zones number level zone r f refs p leads entries)
one_bad image zones number (suc level) zone r f g (inr (refs, leads, entries, first)) (inl q) = absurd (bad_node-none image zones number level zone r g refs q leads entries)
one_bad image zones number (suc level) zone r f g (inr (refs, leads, entries, first)) (inr (others, there, right, second)) =
    let same : others ≡ refs = one_node image refs others r leads there in
    one_first_of (λ z q. IsWhole image zones number level z q) (λ z q x. IsBad image zones number level z q x) (λ z q x bad whole. bad-none image zones number whole.0 level z q x bad whole.1)
    (λ z q x y. one_bad image zones number level z q x y) zones (zones_under level) zone refs f g first (subst (λ (x : List Ref). IsFirstBadIn image zones number level zone x g) same second)

-- a map has one first bad block at most, and that one fault
pub one_first_bad : (image : Places) (h : Header) (f g : MapFault) → IsFirstBad image h f → IsFirstBad image h g → g ≡ f
one_first_bad image h f g =
    let level = top_level h.zones in
    one_first_of (λ z q. IsWhole image h.zones h.map_number level z q) (λ z q x. IsBad image h.zones h.map_number level z q x) (λ z q x bad whole. bad-none image h.zones h.map_number whole.0 level z q x bad whole.1)
    (λ z q x y. one_bad image h.zones h.map_number level z q x y) h.zones (zones_under level) 0 h.map f g
