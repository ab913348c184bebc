-- Blocks that are judged: what is found by their bytes, as what is asked of them.
use Rattle.std.specs.Prelude.{◌≡◌, ◌↔◌, ◌<◌, ◌≤◌, ℕ, ◌*◌, ◌/◌, List, length, take, Option, Some, None, MatchOption, IfSome, refl}
use Rattle.std.proofs.Common.{ap, sym, ◌∙◌, arith, subst}
use Rattle.std.proofs.lemmas.List.{ext_get_or, get_or-take, length-take-le}
use Rattle.std.proofs.lemmas.Option.{none-some}
use Rattle.h2_num.specs.Places.{Places, places}
use Rattle.h2_check.specs.Xxh.{xxh64_of}
use Rattle.h2_ref.specs.declared.faults.Why.{Why}
use Rattle.h2_ref.specs.declared.faults.Why.TheVariants.{Check as Other_check}
use Rattle.h2_ref.specs.declared.reference.Check.{Check}
use Rattle.h2_ref.specs.declared.reference.Check.TheVariants.{Xx}
use Rattle.h2_ref.specs.declared.reference.Kind.{Kind}
use Rattle.h2_ref.specs.declared.reference.Kind.TheVariants.{Inode as Inode_kind, Indirect, Dirent as Entry_kind}
use Rattle.h2_ref.specs.declared.reference.Ref.{Ref}
use Rattle.h2_ref.specs.Ref.{IsValid, size_of}
use Rattle.h2_set.specs.declared.set_decoding.SetFault.{SetFault}
use Rattle.h2_inode.specs.declared.inode.Inode.{Inode}
use Rattle.h2_set.specs.SetBytes.{IsSetAt, IsFaultOf}
use Rattle.h2_inode.specs.Inode.{IsInode, InodeBytes}
use Rattle.h2_inode.specs.Block.{HasCheck, IsArranged, IsNameOf, PassesAs, Passes, name_len}
use Rattle.h2_inode.specs.Cause.{IsInodeCause, IsSetCause, IsNameCause, IsSpellingCause, IsCauseOf}
use Rattle.h2_inode.specs.Cause.IsCauseOf.{other_check, misspelled}
use Rattle.h2_inode.specs.CauseLaws.{block_bytes, valid_size}

-- the set and the fault of 4096 bytes
pub set_here : (m n : ℕ) (refs : List Ref) (b : Places) → 128 * n ≡ m → m ≡ 4096 → IsSetAt n refs b → IsSetAt 32 refs b
set_here m n refs b room len h = let all : n ≡ 32 = omega arith in subst (λ x. IsSetAt x refs b) all h

pub fault_here : (m : ℕ) (b : Places) (f : SetFault) → m ≡ 4096 → IsFaultOf (m / 128) b f → IsFaultOf 32 b f
fault_here m b f len h = subst (λ n. IsFaultOf n b f) (ap (λ x. x / 128) len) h

-- a name of the entry's length is the bytes of this length
pub same_name : (r : Ref) (l m name : List ℕ) (len : ℕ) → len ≡ name_len r.dirent → m ≡ take len l → len ≤ 255 → length l ≡ 1024 → IsNameOf r (places l) name → name ≡ m
same_name r l m name len is first few long h =
    let all : length (take len l) ≡ len = length-take-le len l (omega arith) in
    let same : length name ≡ length (take len l) = h.len_is ∙ sym is ∙ sym all in
    ext_get_or 0 name (take len l) same (λ k lt. sym (h.bytes.bytes k (omega arith)) ∙ sym (get_or-take len l k 0 (omega arith))) ∙ sym first

-- the check of the whole block
pub checked : (k : Kind) (r : Ref) (n : ℕ) (b : Places) → r.kind ≡ k → IsValid r → 0 < r.radix → n ≡ size_of r → HasCheck r n b → HasCheck r (block_bytes k) b
checked k r n b kind h pos len check = subst (λ m. HasCheck r m b) (len ∙ valid_size r h pos ∙ ap block_bytes kind) check

-- by its kind, what is found of the block
pub inode_judged : (o : Option Why) (r : Ref) (b : Places) → r.kind ≡ Inode_kind → HasCheck r 1024 b
    → MatchOption o ((i : Inode) × IsInode i × InodeBytes i b × (i.number ≡ r.key)) (IsInodeCause r.key b)
    → MatchOption o (Passes r b) (IsSpellingCause r.kind r b)
inode_judged None r b kind check (i, rules, bytes, number) =
    subst (λ k. PassesAs k r b) (sym kind) (i, record { kind_is = kind; check_is = check; inode = rules; bytes = bytes; number_is = number })
inode_judged (Some why) r b kind check cause = subst (λ k. IsSpellingCause k r b why) (sym kind) cause

pub set_judged : (o : Option Why) (r : Ref) (b : Places) → r.kind ≡ Indirect → HasCheck r 4096 b
    → MatchOption o ((refs : List Ref) × IsSetAt 32 refs b × IsArranged r refs) (IsSetCause r b)
    → MatchOption o (Passes r b) (IsSpellingCause r.kind r b)
set_judged None r b kind check (refs, there, arranged) =
    subst (λ k. PassesAs k r b) (sym kind) (refs, record { kind_is = kind; check_is = check; set = there; arranged = arranged })
set_judged (Some why) r b kind check cause = subst (λ k. IsSpellingCause k r b why) (sym kind) cause

pub name_judged : (o : Option Why) (r : Ref) (b : Places) → r.kind ≡ Entry_kind → HasCheck r 1024 b
    → MatchOption o ((name : List ℕ) × IsNameOf r b name) (IsNameCause r b)
    → MatchOption o (Passes r b) (IsSpellingCause r.kind r b)
name_judged None r b kind check (name, there) =
    subst (λ k. PassesAs k r b) (sym kind) (name, record { kind_is = kind; check_is = check; named = there })
name_judged (Some why) r b kind check cause = subst (λ k. IsSpellingCause k r b why) (sym kind) cause

-- None is found exactly where the block passes
pub exactly : (o : Option Why) (r : Ref) (b : Places) → MatchOption o (Passes r b) (IsCauseOf r b) → ((why : Why) → IsCauseOf r b why → Passes r b → ⊥) → (o ≡ None) ↔ Passes r b
exactly None r b found refuses = (λ e. found, λ p. refl)
exactly (Some why) r b found refuses = (λ e. absurd (none-some why (sym e)), λ p. absurd (refuses why found p))

-- with the check of the reference, what is found is why the block doesn't pass
pub cause_found : (o : Option Why) (r : Ref) (b : Places) → HasCheck r (size_of r) b → MatchOption o (Passes r b) (IsSpellingCause r.kind r b) → MatchOption o (Passes r b) (IsCauseOf r b)
cause_found None r b check p = p
cause_found (Some why) r b check cause = misspelled why check cause

pub why_found : (o : Option Why) (r : Ref) (b : Places) → MatchOption o (Passes r b) (IsCauseOf r b) → IfSome o (IsCauseOf r b)
why_found None r b p = tt
why_found (Some why) r b cause = cause

-- another check is why it doesn't
pub check_found : (r : Ref) (n : ℕ) (b : Places) (got : Check) → n ≡ size_of r → got ≡ Xx (xxh64_of b n) → (r.check ≡ got → ⊥) → IsCauseOf r b (Other_check r.check got)
check_found r n b got len is other =
    let e : got ≡ Xx (xxh64_of b (size_of r)) = is ∙ ap (λ m. Xx (xxh64_of b m)) len in
    subst (λ g. IsCauseOf r b (Other_check r.check g)) (sym e) (other_check (λ same. other (same ∙ sym e)))

-- the same check is that of the reference
pub has_it : (r : Ref) (n : ℕ) (b : Places) (got : Check) → n ≡ size_of r → got ≡ Xx (xxh64_of b n) → r.check ≡ got → HasCheck r (size_of r) b
has_it r n b got len is same = same ∙ is ∙ ap (λ m. Xx (xxh64_of b m)) len
