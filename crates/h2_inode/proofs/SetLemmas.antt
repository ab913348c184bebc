-- The references of an inode's body.
use Rattle.std.specs.Prelude.{◌≡◌, ℕ, ◌*◌, List, drop, ◌/◌, All}
use Rattle.std.proofs.Common.{ap, refl, arith, subst}
use Rattle.std.proofs.lemmas.List.{get_or-drop}
use Rattle.h2_num.specs.Places.{Places, places, from_place}
use Rattle.h2_ref.specs.declared.reference.Ref.{Ref}
use Rattle.h2_set.specs.declared.set_decoding.SetFault.{SetFault}
use Rattle.h2_set.specs.declared.set_decoding.SetFault.TheVariants.{Reference as RefusedRef, Shape as Unshaped}
use Rattle.h2_set.specs.SetBytes.{SetBytes, IsSetAt, AreRefs, IsFaultOf}
use Rattle.h2_set.specs.SetBytesLaws.{set_one, set_decoded}
use Rattle.h2_inode.specs.declared.kind.InodeKind.{InodeKind}
use Rattle.h2_inode.specs.Inode.{IsPartOf, IsRootSet}
use Rattle.h2_inode.specs.Fault.{IsRefsFault, in_body, LiesInBody}

-- the end of a slice, by its places
pub behind : (l : List ℕ) (n : ℕ) → places (drop n l) ≡ from_place (places l) n
behind l n = λ z k. get_or-drop n l k 0 z

-- a set that has one reference that isn't the kind's is none of the kind's, and no other set has its bytes
pub not_own : (kind : InodeKind) (size : ℕ) (refs : List Ref) (c : Places) → IsSetAt 4 refs c → (All (IsPartOf kind size) refs → ⊥)
    → (ss : List Ref) → IsRootSet kind size ss → SetBytes 4 ss c → ⊥
not_own kind size refs c at bad ss root bytes =
    let same : ss ≡ refs = set_one 4 refs ss c at (record { held = root.held; rising = root.rising; bytes = bytes }) in
    bad (subst (λ l. All (IsPartOf kind size) l) same root.parts)

-- where there is no set, there is none of the kind's
pub no_own : (kind : InodeKind) (size : ℕ) (c : Places) → ((refs : List Ref) → IsSetAt 4 refs c → ⊥) → (ss : List Ref) → IsRootSet kind size ss → SetBytes 4 ss c → ⊥
no_own kind size c none ss root bytes = none ss (record { held = root.held; rising = root.rising; bytes = bytes })

-- the references of a set are decoded, and the empty ones behind them
pub are_refs : (refs : List Ref) (c : Places) → IsSetAt 4 refs c → AreRefs 4 c
are_refs refs c at = set_decoded 4 refs c at.held at.bytes

-- a fault of the set is one of the body
pub refs_fault : (kind : InodeKind) (size : ℕ) (c : Places) (f : SetFault) → IsFaultOf 4 c f → IsRefsFault kind size c (in_body f)
refs_fault kind size c (RefusedRef at fault) h = (at, refl, h)
refs_fault kind size c Unshaped h = (h.0, no_own kind size c h.1)

pub lies_there : (c : Places) (f : SetFault) → IsFaultOf 4 c f → LiesInBody f
lies_there c (RefusedRef at fault) (i, lt, is, decoded) = let place : at ≡ 128 * i = is.0 in omega arith
lies_there c Unshaped h = tt

-- the faults of 512 bytes
pub fault_of_body : (m : ℕ) (c d : Places) (f : SetFault) → m ≡ 512 → d ≡ c → IsFaultOf (m / 128) d f → IsFaultOf 4 c f
fault_of_body m c d f len same h = subst (λ p. IsFaultOf 4 p f) same (subst (λ n. IsFaultOf n d f) (ap (λ x. x / 128) len) h)

pub set_of_body : (m n : ℕ) (refs : List Ref) (c d : Places) → 128 * n ≡ m → m ≡ 512 → d ≡ c → IsSetAt n refs d → (n ≡ 4) × IsSetAt 4 refs c
set_of_body m n refs c d cap len same h =
    let four : n ≡ 4 = omega arith in
    (four, subst (λ p. IsSetAt 4 refs p) same (subst (λ x. IsSetAt x refs d) four h))
