-- Arguments are good, or have one first fault.
use Rattle.std.proofs.Common.{◌≡◌, ◌∙◌, ◌^◌, ℕ, List, [], ◌∷◌, length, refl, sym, ap, subst, inl, inr, arith}
use Rattle.h2_command.specs.declared.path.Path.{Path}
use Rattle.h2_script.specs.declared.fault.LineFault.{LineFault}
use Rattle.h2_script.specs.Paths.{SpellsPath, SpellsEntryPath}
use Rattle.h2_script.specs.Verbs.{Argument}
use Rattle.h2_script.specs.Arguments.{IsNumberBelow, OneEntry, TwoEntries, OnePath, OneHandle, HandleAndSize, HandleAndRange, HandleAndData, IsArgument, IsFirstBad, IsFaultOfWords, NameTwoPfss, AsksTooMuch, WritesTooMuch}
use Rattle.h2_contents.specs.declared.payload.Payload.{Payload}
use Rattle.h2_script.specs.declared.number.Amount.TheVariants.{Many}
use Rattle.h2_script.specs.Numbers.{IsNumber, IsAmount}
use Rattle.h2_script.specs.Payloads.{SpellsPayload, IsFaultOfData}
use Rattle.h2_script.specs.declared.fault.LineFault.TheVariants.{TooLong}
use Rattle.h2_script.proofs.Payloads.{one_number}
use Rattle.h2_script.proofs.OneWord.{few_or_many, one_path, one_datum, few_bytes}

-- each word is what the argument in its place is to be
abbrev pub AreArguments : List Argument → List (List ℕ) → Type 0
AreArguments [] [] = Unit {0}
AreArguments [] (word ∷ words) = ⊥
AreArguments (kind ∷ kinds) [] = ⊥
AreArguments (kind ∷ kinds) (word ∷ words) = IsArgument kind word × AreArguments kinds words

pub are_none : (words : List (List ℕ)) → words ≡ [] → AreArguments [] words
are_none words is = subst (AreArguments []) (sym is) tt

pub are_one : (k : Argument) (words : List (List ℕ)) (a : List ℕ) → words ≡ a ∷ [] → IsArgument k a → AreArguments (k ∷ []) words
are_one k words a is good = subst (AreArguments (k ∷ [])) (sym is) (good, tt)

pub are_two : (k l : Argument) (words : List (List ℕ)) (a b : List ℕ) → words ≡ a ∷ b ∷ [] → IsArgument k a → IsArgument l b → AreArguments (k ∷ l ∷ []) words
are_two k l words a b is good fine = subst (AreArguments (k ∷ l ∷ [])) (sym is) (good, (fine, tt))

pub are_three : (k l m : Argument) (words : List (List ℕ)) (a b c : List ℕ) → words ≡ a ∷ b ∷ c ∷ [] → IsArgument k a → IsArgument l b → IsArgument m c → AreArguments (k ∷ l ∷ m ∷ []) words
are_three k l m words a b c is good fine right = subst (AreArguments (k ∷ l ∷ m ∷ [])) (sym is) (good, (fine, (right, tt)))

pub as_many : (kinds : List Argument) (words : List (List ℕ)) → AreArguments kinds words → length words ≡ length kinds
as_many [] [] are = refl
as_many [] (word ∷ words) are = absurd are
as_many (kind ∷ kinds) [] are = absurd are
as_many (kind ∷ kinds) (word ∷ words) are = let e = as_many kinds words are.1 in omega arith

no_bad : (kinds : List Argument) (words : List (List ℕ)) (why : LineFault) → AreArguments kinds words → IsFirstBad kinds words why → ⊥
no_bad [] words why are bad = bad
no_bad (kind ∷ kinds) [] why are bad = bad
no_bad (kind ∷ kinds) (word ∷ words) why are (inl bad) = bad.0 are.0
no_bad (kind ∷ kinds) (word ∷ words) why are (inr bad) = no_bad kinds words why are.1 bad.1

pub no_fault_of_words : (kinds : List Argument) (words : List (List ℕ)) (why : LineFault) → AreArguments kinds words → IsFaultOfWords kinds words why → ⊥
no_fault_of_words kinds words why are (inl bad) = bad.0 (as_many kinds words are)
no_fault_of_words kinds words why are (inr bad) = no_bad kinds words why are bad.1

one_bad : (kinds : List Argument) (words : List (List ℕ)) (why other : LineFault) → IsFirstBad kinds words why → IsFirstBad kinds words other → why ≡ other
one_bad [] words why other p q = absurd p
one_bad (kind ∷ kinds) [] why other p q = absurd p
one_bad (kind ∷ kinds) (word ∷ words) why other (inl p) (inl q) = p.1 ∙ sym q.1
one_bad (kind ∷ kinds) (word ∷ words) why other (inl p) (inr q) = absurd (p.0 q.0)
one_bad (kind ∷ kinds) (word ∷ words) why other (inr p) (inl q) = absurd (q.0 p.0)
one_bad (kind ∷ kinds) (word ∷ words) why other (inr p) (inr q) = one_bad kinds words why other p.1 q.1

pub one_fault_of_words : (kinds : List Argument) (words : List (List ℕ)) (why other : LineFault) → IsFaultOfWords kinds words why → IsFaultOfWords kinds words other → why ≡ other
one_fault_of_words kinds words why other (inl p) (inl q) = p.1 ∙ sym q.1
one_fault_of_words kinds words why other (inl p) (inr q) = absurd (p.0 q.0)
one_fault_of_words kinds words why other (inr p) (inl q) = absurd (q.0 p.0)
one_fault_of_words kinds words why other (inr p) (inr q) = one_bad kinds words why other p.1 q.1

-- the same words spell the same
pub one_entry : (words : List (List ℕ)) (p q : Path) → OneEntry words p → OneEntry words q → p ≡ q
one_entry words p q (a, is, s) (b, it, t) = let same : b ≡ a = cc in one_path a p q s.path (subst (λ w. SpellsEntryPath w q) same t).path

pub one_any : (words : List (List ℕ)) (p q : Path) → OnePath words p → OnePath words q → p ≡ q
one_any words p q (a, is, s) (b, it, t) = let same : a ≡ b = cc in one_path b p q (subst (λ w. SpellsPath w p) same s) t

spelled_paths : (words : List (List ℕ)) (p q r s : Path) (a b : List ℕ) → words ≡ a ∷ b ∷ [] → SpellsEntryPath a r → SpellsEntryPath b s → TwoEntries words p q → (p ≡ r) × (q ≡ s)
spelled_paths words p q r s c d it at_c at_d (a, b, is, at_a, at_b, one) =
    let first : c ≡ a = cc in
    let second : d ≡ b = cc in
    (one_path a p r at_a.path (subst (λ w. SpellsEntryPath w r) first at_c).path, one_path b q s at_b.path (subst (λ w. SpellsEntryPath w s) second at_d).path)

pub two_paths : (words : List (List ℕ)) (p q r s : Path) → TwoEntries words p q → TwoEntries words r s → (p ≡ r) × (q ≡ s)
two_paths words p q r s x (c, d, it, at_c, at_d, other) = spelled_paths words p q r s c d it at_c at_d x

below : (bound : ℕ) (a b : List ℕ) (m n : ℕ) → a ≡ b → IsNumberBelow bound a m → IsNumberBelow bound b n → m ≡ n
below bound a b m n same p q = one_number b m n (subst (λ w. IsNumber w m) same p.0) q.0

pub one_handle : (words : List (List ℕ)) (m n : ℕ) → OneHandle words m → OneHandle words n → m ≡ n
one_handle words m n (a, is, p) (b, it, q) = let same : a ≡ b = cc in below (2 ^ 32) a b m n same p q

pub one_size : (words : List (List ℕ)) (m n h g : ℕ) → HandleAndSize words m n → HandleAndSize words h g → (m ≡ h) × (n ≡ g)
one_size words m n h g (a, b, is, p, q) (c, d, it, r, s) =
    let first : a ≡ c = cc in
    let second : b ≡ d = cc in
    (below (2 ^ 32) a c m h first p r, below (2 ^ 64) b d n g second q s)

pub one_range : (words : List (List ℕ)) (m n l h g k : ℕ) → HandleAndRange words m n l → HandleAndRange words h g k → (m ≡ h) × (n ≡ g) × (l ≡ k)
one_range words m n l h g k (a, b, c, is, p, q, r) (d, e, f, it, s, t, u) =
    let first : a ≡ d = cc in
    let second : b ≡ e = cc in
    let third : c ≡ f = cc in
    (below (2 ^ 32) a d m h first p s, below (2 ^ 64) b e n g second q t, one_number f l k (subst (λ w. IsNumber w l) third r.0) u.0)

pub one_data : (words : List (List ℕ)) (m n h g : ℕ) (x y : Payload) → HandleAndData words m n x → HandleAndData words h g y → (m ≡ h) × (n ≡ g) × (x ≡ y)
one_data words m n h g x y (a, b, c, is, p, q, r, few) (d, e, f, it, s, t, u, short) =
    let first : a ≡ d = cc in
    let second : b ≡ e = cc in
    let third : c ≡ f = cc in
    (below (2 ^ 32) a d m h first p s, below (2 ^ 64) b e n g second q t, one_datum f x y (subst (λ w. SpellsPayload w x) third r) u)

-- what is good has no fault behind its words
pfs_same : (words : List (List ℕ)) (p q : Path) → TwoEntries words p q → q.pfs ≡ p.pfs
pfs_same words p q (a, b, is, at_a, at_b, same) = same

pub no_two_pfss : (words : List (List ℕ)) (why : LineFault) (p q : Path) → TwoEntries words p q → NameTwoPfss words why → ⊥
no_two_pfss words why p q good (is_path, (a, b, r, s, is, at_a, at_b, differ)) =
    let same = spelled_paths words p q r s a b is at_a at_b good in
    differ (sym (ap (λ x. x.pfs) same.1) ∙ pfs_same words p q good ∙ ap (λ x. x.pfs) same.0)

pub no_long_read : (words : List (List ℕ)) (why : LineFault) (m n l : ℕ) → HandleAndRange words m n l → AsksTooMuch words why → ⊥
no_long_read words why m n l (a, b, c, is, p, q, r) (long, (d, e, f, it, s, t, many)) =
    let third : f ≡ c = cc in few_or_many c l r (subst (λ w. IsAmount w Many) third many)

pub no_long_write : (words : List (List ℕ)) (why : LineFault) (m n : ℕ) (x : Payload) → HandleAndData words m n x → WritesTooMuch words why → ⊥
no_long_write words why m n x (a, b, c, is, p, q, r, few) (long, (d, e, f, it, s, t, many)) =
    let third : f ≡ c = cc in few_bytes c x r few (subst (λ w. IsFaultOfData (SpellsPayload w) TooLong) third many)
