-- A name is good or has one fault.
use Rattle.std.specs.Prelude.{◌≡◌, ◌≢◌, ◌<◌, ◌≤◌, ℕ, zero, suc, List, [], ◌∷◌, length, Contains, slice_index_or, refl}
use Rattle.std.proofs.Common.{ap, sym, ◌∙◌, arith, inl, inr}
use Rattle.h2_dirkey.specs.declared.name_fault.NameFault.{NameFault}
use Rattle.h2_dirkey.specs.declared.name_fault.NameFault.TheVariants.{Empty, Long, Slash, Zero, Dot}
use Rattle.h2_dirkey.specs.Name.{slash, IsDots, IsName, IsFaultOf}

-- one or two dots have at most two bytes, and at least one
dots_length : (name : List ℕ) → IsDots name → (1 ≤ length name) × (length name ≤ 2)
dots_length name (inl e) = let n : length name ≡ 1 = ap length e in (omega arith, omega arith)
dots_length name (inr e) = let n : length name ≡ 2 = ap length e in (omega arith, omega arith)

-- a byte of one dot or two is a dot
one_dot : (k c : ℕ) → k < 1 → slice_index_or (46 ∷ []) k c ≡ c → c ≡ 46
one_dot zero c lt is = sym is
one_dot (suc k) c lt is = absurd (omega arith)

two_dots : (k c : ℕ) → k < 2 → slice_index_or (46 ∷ (46 ∷ [])) k c ≡ c → c ≡ 46
two_dots zero c lt is = sym is
two_dots (suc zero) c lt is = sym is
two_dots (suc (suc k)) c lt is = absurd (omega arith)

dots_bytes : (name : List ℕ) (c : ℕ) → IsDots name → Contains name c → c ≡ 46
dots_bytes name c (inl e) (k, lt, is) = one_dot k c (rw e at lt) (rw e at is)
dots_bytes name c (inr e) (k, lt, is) = two_dots k c (rw e at lt) (rw e at is)

-- they lack each other byte
dots_lack : (name : List ℕ) (c : ℕ) → c ≢ 46 → IsDots name → Contains name c → ⊥
dots_lack name c ne dots has = ne (dots_bytes name c dots has)

-- a good name has no fault
pub no_fault : (name : List ℕ) (fault : NameFault) → IsName name → IsFaultOf name fault → ⊥
no_fault name Empty good h = let n : length name ≡ 0 = ap length h in let some = good.some in omega arith
no_fault name (Long n) good h = let few = good.few in let long = h.0 in omega arith
no_fault name Slash good h = good.no_slash h.1
no_fault name Zero good h = good.no_zero h.2
no_fault name Dot good h = good.no_dots h

-- a name without a byte has no byte
none_in : (name : List ℕ) (c : ℕ) → name ≡ [] → Contains name c → ⊥
none_in name c e (k, lt, is) = let n : length name ≡ 0 = ap length e in omega arith

-- a name has one fault at most
pub one_fault : (name : List ℕ) (fault other : NameFault) → IsFaultOf name fault → IsFaultOf name other → other ≡ fault
one_fault name Empty Empty p q = refl
one_fault name Empty (Long n) p q = let e : length name ≡ 0 = ap length p in let long = q.0 in absurd (omega arith)
one_fault name Empty Slash p q = absurd (none_in name slash p q.1)
one_fault name Empty Zero p q = absurd (none_in name 0 p q.2)
one_fault name Empty Dot p q = let e : length name ≡ 0 = ap length p in let some = (dots_length name q).0 in absurd (omega arith)
one_fault name (Long m) Empty p q = let e : length name ≡ 0 = ap length q in let long = p.0 in absurd (omega arith)
one_fault name (Long m) (Long n) p q = ap Long (q.1 ∙ sym p.1)
one_fault name (Long m) Slash p q = let long = p.0 in let few = q.0 in absurd (omega arith)
one_fault name (Long m) Zero p q = let long = p.0 in let few = q.0 in absurd (omega arith)
one_fault name (Long m) Dot p q = let long = p.0 in let few = (dots_length name q).1 in absurd (omega arith)
one_fault name Slash Empty p q = absurd (none_in name slash q p.1)
one_fault name Slash (Long n) p q = let long = q.0 in let few = p.0 in absurd (omega arith)
one_fault name Slash Slash p q = refl
one_fault name Slash Zero p q = absurd (q.1 p.1)
one_fault name Slash Dot p q = absurd (dots_lack name slash (omega arith) q p.1)
one_fault name Zero Empty p q = absurd (none_in name 0 q p.2)
one_fault name Zero (Long n) p q = let long = q.0 in let few = p.0 in absurd (omega arith)
one_fault name Zero Slash p q = absurd (p.1 q.1)
one_fault name Zero Zero p q = refl
one_fault name Zero Dot p q = absurd (dots_lack name 0 (omega arith) q p.2)
one_fault name Dot Empty p q = let e : length name ≡ 0 = ap length q in let some = (dots_length name p).0 in absurd (omega arith)
one_fault name Dot (Long n) p q = let long = q.0 in let few = (dots_length name p).1 in absurd (omega arith)
one_fault name Dot Slash p q = absurd (dots_lack name slash (omega arith) p q.1)
one_fault name Dot Zero p q = absurd (dots_lack name 0 (omega arith) p q.2)
one_fault name Dot Dot p q = refl
