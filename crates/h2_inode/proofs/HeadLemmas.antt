-- Names and zeros in the bytes of an inode.
use Rattle.std.specs.Prelude.{◌≡◌, ◌<◌, ◌≤◌, ℕ, ◌+◌, List, length, take, drop, Option, Some, None, MatchOption}
use Rattle.std.proofs.Common.{sym, ◌∙◌, arith, subst}
use Rattle.std.proofs.lemmas.List.{get_or-take, get_or-drop, length-take-le, length-drop}
use Rattle.h2_num.specs.Places.{Places, places, number_at}
use Rattle.h2_dirkey.specs.PfsName.{IsPfsName}
use Rattle.h2_inode.specs.Head.{HasName}
use Rattle.h2_inode.specs.InodeLaws.{name_one}

-- so many bytes from the name's place on are the name
pub name_there : (l : List ℕ) (len : ℕ) → len ≡ number_at (places l) 32 2 → 48 + len ≤ length l → HasName (take len (drop 48 l)) (places l)
name_there l len is fits =
    let long : length (take len (drop 48 l)) ≡ len = length-take-le len (drop 48 l) (omega (arith, length-drop {A = ℕ} 48 l)) in
    record {
      len = sym is ∙ sym long;
      bytes = λ k lt. sym (get_or-take len (drop 48 l) k 0 (omega arith) ∙ get_or-drop 48 l k 0);
    }

-- no name that a PFS may have stands there, where it can't have these bytes
pub not_named : (m : List ℕ) (b : Places) → HasName m b → (IsPfsName m → ⊥) → (name : List ℕ) → HasName name b → IsPfsName name → ⊥
not_named m b here bad name there good = bad (subst IsPfsName (name_one m name b here there) good)

-- where these bytes are no name of a PFS, none stands there
pub none_named : (l m : List ℕ) (len : ℕ) → len ≡ number_at (places l) 32 2 → 48 + len ≤ length l → m ≡ take len (drop 48 l)
    → (IsPfsName m → ⊥) → (name : List ℕ) → HasName name (places l) → IsPfsName name → ⊥
none_named l m len is fits same bad =
    not_named (take len (drop 48 l)) (places l) (name_there l len is fits) (λ good. bad (subst IsPfsName (sym same) good))

-- and where they are one, it stands there
pub one_named : (l m n : List ℕ) (len : ℕ) → len ≡ number_at (places l) 32 2 → 48 + len ≤ length l → m ≡ take len (drop 48 l)
    → IsPfsName m → n ≡ m → HasName n (places l) × IsPfsName n
one_named l m n len is fits same good e =
    (subst (λ x. HasName x (places l)) (sym (e ∙ same)) (name_there l len is fits), subst IsPfsName (sym e) good)

-- so it does, where there is room for it
pub named_if : (l m : List ℕ) (o : Option (List ℕ)) (len : ℕ) → len ≡ number_at (places l) 32 2 → 48 + len ≤ length l → m ≡ take len (drop 48 l)
    → IsPfsName m → MatchOption o (64 < length m) (λ n. n ≡ m)
    → MatchOption o ((name : List ℕ) → HasName name (places l) → IsPfsName name → ⊥) (λ n. HasName n (places l) × IsPfsName n)
named_if l m None len is fits same good long = let few = good.few in absurd (omega arith)
named_if l m (Some n) len is fits same good e = one_named l m n len is fits same good e
