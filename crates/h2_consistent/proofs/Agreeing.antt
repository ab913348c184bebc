-- What holds of the entries and the kinds of inodes of a consistent PFS, over each way in which they change.
use Rattle.std.specs.Prelude.{◌≡◌, ◌≢◌, ◌⊎◌, ℕ, suc, ◌<◌, ◌≤◌, cond, nat_eq, Option, Some, None}
use Rattle.std.proofs.Common.{ap, sym, ◌∙◌, subst, arith, inl, inr}
use Rattle.h2_consistent.proofs.Entries.{EntryName, Exactly, IsReachedBy, root, below}
use Rattle.h2_consistent.proofs.Counting.{same_number, same_entry, exactly_same, exactly_more, exactly_less}

-- what stands under a number: nothing, a directory, or a file with its links
pub data Kind : Type 0 where
  missing : Kind
  directory : Kind
  file : ℕ → Kind

-- how many entries name an inode of a kind
abbrev pub due : ℕ → Kind → ℕ
due n missing = 0
due n directory = cond (nat_eq n 1) 0 1
due n (file links) = links

abbrev pub Entry : Type 0
Entry = EntryName → Option ℕ

-- the entries and the kinds of inodes agree
pub record Agree (e : Entry) (kind : ℕ → Kind) (next : ℕ) : Type 0 where
  pub first : kind 1 ≡ directory
  pub free : (n : ℕ) → next ≤ n → kind n ≡ missing
  pub counts : (n : ℕ) → Exactly (due n (kind n)) (λ x. e x ≡ Some n)
  pub places : (x : EntryName) (n : ℕ) → e x ≡ Some n → kind x.0 ≡ directory
  pub reached : (n : ℕ) → kind n ≡ directory → IsReachedBy e n

-- one entry changes
abbrev pub Changed : Entry → Entry → EntryName → Option ℕ → Type 0
Changed e g x o = (g x ≡ o) × ((y : EntryName) → y ≢ x → g y ≡ e y)

-- one kind changes
abbrev pub Turned : (ℕ → Kind) → (ℕ → Kind) → ℕ → Kind → Type 0
Turned kind turn n k = (turn n ≡ k) × ((m : ℕ) → m ≢ n → turn m ≡ kind m)

pub missing_directory : missing ≡ directory → ⊥
missing_directory e = cc

pub missing_file : (l : ℕ) → missing ≡ file l → ⊥
missing_file l e = cc

pub file_directory : (l : ℕ) → file l ≡ directory → ⊥
file_directory l e = cc

none_some : (n : ℕ) → None ≡ Some n → ⊥
none_some n e = cc

same_some : (m n : ℕ) → Some m ≡ Some n → m ≡ n
same_some m n e = cc

-- an inode that an entry names isn't missing
pub named_stands : (e : Entry) (kind : ℕ → Kind) (next : ℕ) → Agree e kind next → (x : EntryName) (n : ℕ) → e x ≡ Some n → kind n ≢ missing
named_stands e kind next a x n is gone = subst (λ k. Exactly (due n k) (λ y. e y ≡ Some n)) gone (a.counts n) x is

-- no entry names number 1
pub named_other : (e : Entry) (kind : ℕ → Kind) (next : ℕ) → Agree e kind next → (x : EntryName) (n : ℕ) → e x ≡ Some n → n ≢ 1
named_other e kind next a x n is one = subst (λ k. Exactly (due 1 k) (λ y. e y ≡ Some 1)) a.first (a.counts 1) x (is ∙ ap Some one)

-- How many entries name a number after one entry changed

-- another number
others : (e g : Entry) (x : EntryName) (o : Option ℕ) (n k : ℕ) → Changed e g x o → o ≢ Some n → e x ≢ Some n → Exactly k (λ y. e y ≡ Some n) → Exactly k (λ y. g y ≡ Some n)
others e g x o n k c new old h = exactly_same k (λ y. e y ≡ Some n) (λ y. g y ≡ Some n) to from h
  where
    to : (y : EntryName) → e y ≡ Some n → g y ≡ Some n
    to y is = elim (same_entry y x) [ inl s ↦ absurd (old (subst (λ z. e z ≡ Some n) s is)) | inr d ↦ c.1 y d ∙ is ]

    from : (y : EntryName) → g y ≡ Some n → e y ≡ Some n
    from y is = elim (same_entry y x) [ inl s ↦ absurd (new (sym c.0 ∙ subst (λ z. g z ≡ Some n) s is)) | inr d ↦ sym (c.1 y d) ∙ is ]

-- the number that the entry names now
gained : (e g : Entry) (x : EntryName) (n k : ℕ) → Changed e g x (Some n) → e x ≢ Some n → Exactly k (λ y. e y ≡ Some n) → Exactly (suc k) (λ y. g y ≡ Some n)
gained e g x n k c old h = exactly_more k (λ y. e y ≡ Some n) (λ y. g y ≡ Some n) x old c.0 (λ y d is. c.1 y d ∙ is) (λ y d is. sym (c.1 y d) ∙ is) h

-- the number that the entry named
lost : (e g : Entry) (x : EntryName) (o : Option ℕ) (n k : ℕ) → Changed e g x o → o ≢ Some n → e x ≡ Some n → Exactly k (λ y. e y ≡ Some n) → (j : ℕ) × ((k ≡ suc j) × Exactly j (λ y. g y ≡ Some n))
lost e g x o n k c new old h = exactly_less k (λ y. e y ≡ Some n) (λ y. g y ≡ Some n) x old (λ is. new (sym c.0 ∙ is)) (λ y d is. c.1 y d ∙ is) (λ y d is. sym (c.1 y d) ∙ is) h

-- What is reached after entries changed

-- all entries stayed
reach_more : (e g : Entry) → ((y : EntryName) (m : ℕ) → e y ≡ Some m → g y ≡ Some m) → (n : ℕ) → IsReachedBy e n → IsReachedBy g n
reach_more e g stay n root = root
reach_more e g stay n (below y m r is) = below y n (reach_more e g stay y.0 r) (stay y n is)

-- all entries stayed but those that name one number, and that one has none
pub reach_others : (e g : Entry) (n : ℕ) → ((y : EntryName) (m : ℕ) → e y ≡ Some m → m ≢ n → g y ≡ Some m) → ((y : EntryName) (m : ℕ) → e y ≡ Some m → y.0 ≢ n) → (m : ℕ) → IsReachedBy e m → m ≢ n → IsReachedBy g m
reach_others e g n stay bare m root apart = root
reach_others e g n stay bare m (below y k r is) apart = below y m (reach_others e g n stay bare y.0 r (bare y m is)) (stay y m is apart)

-- an entry went from one directory or name to another, whose directory is reached still
reach_moved : (e g : Entry) (old new : EntryName) (n : ℕ) → e old ≡ Some n → g new ≡ Some n → IsReachedBy g new.0 → ((y : EntryName) (m : ℕ) → y ≢ old → e y ≡ Some m → g y ≡ Some m) → (m : ℕ) → IsReachedBy e m → IsReachedBy g m
reach_moved e g old new n had has there stay m root = root
reach_moved e g old new n had has there stay m (below y k r is) = by (same_entry y old) (reach_moved e g old new n had has there stay y.0 r)
  where
    by : ((y ≡ old) ⊎ (y ≢ old)) → IsReachedBy g y.0 → IsReachedBy g m
    by (inl s) up = below new m there (has ∙ ap Some (same_some n m (sym had ∙ subst (λ z. e z ≡ Some m) s is)))
    by (inr d) up = below y m up (stay y m d is)

-- The changes

-- the same entries, and the same kinds but for files without a link that went
abbrev pub Alike : Kind → Kind → Type 0
Alike k l = (l ≡ k) ⊎ ((k ≡ file 0) × (l ≡ missing))

due_alike : (n : ℕ) (k l : Kind) → Alike k l → due n l ≡ due n k
due_alike n k l (inl s) = ap (due n) s
due_alike n k l (inr w) = ap (due n) w.1 ∙ sym (ap (due n) w.0)

directory_alike : (k l : Kind) → Alike k l → k ≡ directory → l ≡ directory
directory_alike k l (inl s) is = s ∙ is
directory_alike k l (inr w) is = absurd (file_directory 0 (sym w.0 ∙ is))

directory_before : (k l : Kind) → Alike k l → l ≡ directory → k ≡ directory
directory_before k l (inl s) is = sym s ∙ is
directory_before k l (inr w) is = absurd (missing_directory (sym w.1 ∙ is))

missing_alike : (k l : Kind) → Alike k l → k ≡ missing → l ≡ missing
missing_alike k l (inl s) is = s ∙ is
missing_alike k l (inr w) is = w.1

pub alike : (e g : Entry) (kind turn : ℕ → Kind) (next : ℕ) → ((y : EntryName) → g y ≡ e y) → ((n : ℕ) → Alike (kind n) (turn n)) → Agree e kind next → Agree g turn next
alike e g kind turn next same kinds a = record {
  first = directory_alike (kind 1) (turn 1) (kinds 1) a.first;
  free = λ n le. missing_alike (kind n) (turn n) (kinds n) (a.free n le);
  counts = λ n. subst (λ k. Exactly k (λ y. g y ≡ Some n)) (sym (due_alike n (kind n) (turn n) (kinds n))) (exactly_same (due n (kind n)) (λ y. e y ≡ Some n) (λ y. g y ≡ Some n) (λ y is. same y ∙ is) (λ y is. sym (same y) ∙ is) (a.counts n));
  places = λ x n is. directory_alike (kind x.0) (turn x.0) (kinds x.0) (a.places x n (sym (same x) ∙ is));
  reached = λ n is. reach_more e g (λ y m had. same y ∙ had) n (a.reached n (directory_before (kind n) (turn n) (kinds n) is));
}

-- an entry comes, and one more is due to what it names
pub comes : (e g : Entry) (kind turn : ℕ → Kind) (next more : ℕ) (x : EntryName) (n : ℕ) (k : Kind) → Changed e g x (Some n) → Turned kind turn n k → e x ≡ None → kind x.0 ≡ directory → kind n ≢ directory → due n k ≡ suc (due n (kind n)) → next ≤ more → n < more → Agree e kind next → Agree g turn more
comes e g kind turn next more x n k c t empty dir apart one le lt a = record {
  first = t.1 1 (λ s. apart (sym (ap kind s) ∙ a.first)) ∙ a.first;
  free = free;
  counts = λ m. count m (same_number m n);
  places = places;
  reached = λ m is. reached m (same_number m n) is;
}
  where
    not_here : (m : ℕ) → e x ≢ Some m
    not_here m is = none_some m (sym empty ∙ is)

    stay : (y : EntryName) (m : ℕ) → e y ≡ Some m → g y ≡ Some m
    stay y m is = c.1 y (λ s. not_here m (subst (λ z. e z ≡ Some m) s is)) ∙ is

    apart_of : (m : ℕ) → more ≤ m → m ≢ n
    apart_of m ge s = let e : m ≡ n = s in let l : n < more = lt in absurd (omega arith)

    free : (m : ℕ) → more ≤ m → turn m ≡ missing
    free m ge = let l : next ≤ more = le in t.1 m (apart_of m ge) ∙ a.free m (omega arith)

    count : (m : ℕ) → ((m ≡ n) ⊎ (m ≢ n)) → Exactly (due m (turn m)) (λ y. g y ≡ Some m)
    count m (inl s) = subst (λ i. Exactly (due i (turn i)) (λ y. g y ≡ Some i)) (sym s) (subst (λ i. Exactly i (λ y. g y ≡ Some n)) (sym (ap (due n) t.0 ∙ one)) (gained e g x n (due n (kind n)) c (not_here n) (a.counts n)))
    count m (inr d) = subst (λ i. Exactly i (λ y. g y ≡ Some m)) (sym (ap (due m) (t.1 m d))) (others e g x (Some n) m (due m (kind m)) c (λ s. d (sym (same_some n m s))) (not_here m) (a.counts m))

    directory_stays : (m : ℕ) → kind m ≡ directory → turn m ≡ directory
    directory_stays m is = t.1 m (λ s. apart (sym (ap kind s) ∙ is)) ∙ is

    places : (y : EntryName) (m : ℕ) → g y ≡ Some m → turn y.0 ≡ directory
    places y m is = directory_stays y.0 (elim (same_entry y x) [ inl s ↦ subst (λ (z : EntryName). kind z.0 ≡ directory) (sym s) dir | inr d ↦ a.places y m (sym (c.1 y d) ∙ is) ])

    reached : (m : ℕ) → ((m ≡ n) ⊎ (m ≢ n)) → turn m ≡ directory → IsReachedBy g m
    reached m (inl s) is = subst (IsReachedBy g) (sym s) (below x n (reach_more e g stay x.0 (a.reached x.0 dir)) c.0)
    reached m (inr d) is = reach_more e g stay m (a.reached m (sym (t.1 m d) ∙ is))

-- an entry goes, and one fewer is due to what it named, which has no entries
pub goes : (e g : Entry) (kind turn : ℕ → Kind) (next : ℕ) (x : EntryName) (n : ℕ) (k : Kind) → Changed e g x None → Turned kind turn n k → e x ≡ Some n → k ≢ directory → due n (kind n) ≡ suc (due n k) → ((y : EntryName) (m : ℕ) → e y ≡ Some m → y.0 ≢ n) → Agree e kind next → Agree g turn next
goes e g kind turn next x n k c t had apart one bare a = record {
  first = t.1 1 (λ s. named_other e kind next a x n had (sym s)) ∙ a.first;
  free = λ m le. free m le (same_number m n);
  counts = λ m. count m (same_number m n);
  places = λ y m is. places y m is (same_entry y x);
  reached = λ m is. reached m is (same_number m n);
}
  where
    free : (m : ℕ) → next ≤ m → ((m ≡ n) ⊎ (m ≢ n)) → turn m ≡ missing
    free m le (inl s) = absurd (named_stands e kind next a x n had (sym (ap kind s) ∙ a.free m le))
    free m le (inr d) = t.1 m d ∙ a.free m le

    here : (m : ℕ) → m ≢ n → e x ≢ Some m
    here m d is = d (sym (same_some n m (sym had ∙ is)))

    fewer : Exactly (due n k) (λ y. g y ≡ Some n)
    fewer =
        let l = lost e g x None n (due n (kind n)) c (none_some n) had (a.counts n) in
        let same : suc (due n k) ≡ suc l.0 = sym one ∙ l.1.0 in
        subst (λ i. Exactly i (λ y. g y ≡ Some n)) (one_less l.0 (due n k) same) l.1.1
      where
        one_less : (i j : ℕ) → suc j ≡ suc i → i ≡ j
        one_less i j s = omega (arith, s)

    count : (m : ℕ) → ((m ≡ n) ⊎ (m ≢ n)) → Exactly (due m (turn m)) (λ y. g y ≡ Some m)
    count m (inl s) = subst (λ i. Exactly (due i (turn i)) (λ y. g y ≡ Some i)) (sym s) (subst (λ i. Exactly i (λ y. g y ≡ Some n)) (sym (ap (due n) t.0)) fewer)
    count m (inr d) = subst (λ i. Exactly i (λ y. g y ≡ Some m)) (sym (ap (due m) (t.1 m d))) (others e g x None m (due m (kind m)) c (none_some m) (here m d) (a.counts m))

    places : (y : EntryName) (m : ℕ) → g y ≡ Some m → ((y ≡ x) ⊎ (y ≢ x)) → turn y.0 ≡ directory
    places y m is (inl s) = absurd (none_some m (sym c.0 ∙ subst (λ z. g z ≡ Some m) s is))
    places y m is (inr d) = let was : e y ≡ Some m = sym (c.1 y d) ∙ is in t.1 y.0 (bare y m was) ∙ a.places y m was

    stay : (y : EntryName) (m : ℕ) → e y ≡ Some m → m ≢ n → g y ≡ Some m
    stay y m is d = c.1 y (λ s. here m d (subst (λ z. e z ≡ Some m) s is)) ∙ is

    reached : (m : ℕ) → turn m ≡ directory → ((m ≡ n) ⊎ (m ≢ n)) → IsReachedBy g m
    reached m is (inl s) = absurd (apart (sym t.0 ∙ sym (ap turn s) ∙ is))
    reached m is (inr d) = reach_others e g n stay bare m (a.reached m (sym (t.1 m d) ∙ is)) d

-- an entry goes from one directory or name to another, whose directory is reached afterwards
pub moves : (e h g : Entry) (kind turn : ℕ → Kind) (next : ℕ) (old new : EntryName) (n : ℕ) → Changed e h new (Some n) → Changed h g old None → ((m : ℕ) → turn m ≡ kind m) → e old ≡ Some n → e new ≡ None → kind new.0 ≡ directory → IsReachedBy g new.0 → Agree e kind next → Agree g turn next
moves e h g kind turn next old new n c d kinds had empty dir there a = record {
  first = kinds 1 ∙ a.first;
  free = λ m le. kinds m ∙ a.free m le;
  counts = λ m. subst (λ i. Exactly i (λ y. g y ≡ Some m)) (sym (ap (due m) (kinds m))) (count m (same_number m n));
  places = λ y m is. kinds y.0 ∙ places y m is (same_entry y old) (same_entry y new);
  reached = λ m is. reach_moved e g old new n had has there stay m (a.reached m (sym (kinds m) ∙ is));
}
  where
    apart : old ≢ new
    apart s = none_some n (sym empty ∙ subst (λ z. e z ≡ Some n) s had)

    mid : h old ≡ Some n
    mid = c.1 old apart ∙ had

    has : g new ≡ Some n
    has = d.1 new (λ s. apart (sym s)) ∙ c.0

    not_here : (m : ℕ) → e new ≢ Some m
    not_here m is = none_some m (sym empty ∙ is)

    stay : (y : EntryName) (m : ℕ) → y ≢ old → e y ≡ Some m → g y ≡ Some m
    stay y m off is = d.1 y off ∙ c.1 y (λ s. not_here m (subst (λ z. e z ≡ Some m) s is)) ∙ is

    one_less : (i j : ℕ) → suc j ≡ suc i → i ≡ j
    one_less i j s = omega (arith, s)

    count : (m : ℕ) → ((m ≡ n) ⊎ (m ≢ n)) → Exactly (due m (kind m)) (λ y. g y ≡ Some m)
    count m (inl s) =
        let up = gained e h new n (due n (kind n)) c (not_here n) (a.counts n) in
        let l = lost h g old None n (suc (due n (kind n))) d (none_some n) mid up in
        subst (λ i. Exactly (due i (kind i)) (λ y. g y ≡ Some i)) (sym s) (subst (λ i. Exactly i (λ y. g y ≡ Some n)) (one_less l.0 (due n (kind n)) l.1.0) l.1.1)
    count m (inr off) =
        others h g old None m (due m (kind m)) d (none_some m) (λ is. off (sym (same_some n m (sym mid ∙ is))))
        (others e h new (Some n) m (due m (kind m)) c (λ s. off (sym (same_some n m s))) (not_here m) (a.counts m))

    places : (y : EntryName) (m : ℕ) → g y ≡ Some m → ((y ≡ old) ⊎ (y ≢ old)) → ((y ≡ new) ⊎ (y ≢ new)) → kind y.0 ≡ directory
    places y m is (inl s) w = absurd (none_some m (sym d.0 ∙ subst (λ z. g z ≡ Some m) s is))
    places y m is (inr off) (inl s) = subst (λ (z : EntryName). kind z.0 ≡ directory) (sym s) dir
    places y m is (inr off) (inr far) = a.places y m (sym (c.1 y far) ∙ sym (d.1 y off) ∙ is)
