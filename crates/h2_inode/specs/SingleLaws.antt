-- By a reading that gives one answer at most, a tree stands for one thing at most.
use Rattle.std.specs.Prelude.{◌≡◌, ◌<◌, ◌≤◌, ℕ, ◌+◌, ◌-◌, ◌^◌, List, All, Option, Some, None, refl, slice_index}
use Rattle.std.proofs.Common.{ap, sym, ◌∙◌, arith, inl, inr, subst}
use Rattle.std.proofs.lemmas.List.{ext_get_or}
use Rattle.std.proofs.lemmas.Option.{same_Some}
use Rattle.std.specs.FinMap.{from_entries}
use Rattle.h2_ref.specs.declared.reference.Ref.{Ref}
use Rattle.h2_ref.specs.declared.reference.Dirent.{Dirent}
use Rattle.h2_set.specs.Ranges.{find, limit}
use Rattle.h2_set.specs.LeafLaws.{holds_inside}
use Rattle.h2_inode.specs.Access.{Access, HasLeaves, OneByOne}
use Rattle.h2_inode.specs.Contents.{IsPart, IsContents}
use Rattle.h2_inode.specs.Directory.{Entries, IsNameOf, IsEntry, IsDirectory}
use Rattle.h2_inode.specs.PfsList.{ListedPfs, IsPfs, IsPfsList}
use Rattle.h2_inode.specs.Single.{IsSingle}
use Rattle.h2_inode.specs.ListLaws.{one_list, found_in}

module _ (a : Access) (one : IsSingle a) where
  pub leaves_one : (t : a.Tree) (l m : List Ref) → HasLeaves a t l → HasLeaves a t m → m ≡ l
  leaves_one t l m p q = one.leaves t l m p.read q.read

  -- Contents

  byte_by : (t : a.Tree) (m n : ℕ) (b c : List ℕ) (k : ℕ) (r : Ref) → IsPart a t m b r → IsPart a t n c r → r.key ≤ k → k < limit r → slice_index c k ≡ slice_index b k
  byte_by t m n b c k r x y low high =
      let in_block : k < r.key + 2 ^ 14 = subst (λ z. k < r.key + 2 ^ z) x.keybits_are high in
      let at : r.key + (k - r.key) ≡ k = omega arith in
      let short : k - r.key < 16384 = omega arith in
      ap (slice_index c) (sym at) ∙ sym (y.bytes_are (k - r.key) short)
      ∙ one.content t r x.block y.block x.read y.read (k - r.key) short
      ∙ x.bytes_are (k - r.key) short ∙ ap (slice_index b) at

  byte_one : (t : a.Tree) (m n : ℕ) (b c : List ℕ) → IsContents a t m b → IsContents a t n c → (k : ℕ) → slice_index c k ≡ slice_index b k
  byte_one t m n b c p q k = pick (find k p.leaves) refl
    where
      same : q.leaves ≡ p.leaves
      same = leaves_one t p.leaves q.leaves p.has q.has

      pick : (o : Option Ref) → find k p.leaves ≡ o → slice_index c k ≡ slice_index b k
      pick None e = q.holes k (subst (λ v. find k v ≡ None) (sym same) e) ∙ sym (p.holes k e)
      pick (Some r) e =
          let x = found_in (IsPart a t m b) k p.leaves r p.parts e in
          let y = found_in (IsPart a t n c) k p.leaves r (subst (λ v. All (IsPart a t n c) v) same q.parts) e in
          let range = holds_inside k r x.1 in
          byte_by t m n b c k r x.0 y.0 range.0 range.1

  pub contents_one : (t : a.Tree) (size : ℕ) (b c : List ℕ) → IsContents a t size b → IsContents a t size c → c ≡ b
  contents_one t size b c p q = ext_get_or 0 c b (q.sized ∙ sym p.sized) (λ k lt. byte_one t size size b c p q k)

  name_one : (t : a.Tree) (r : Ref) (e : Dirent) (n m : List ℕ) → IsNameOf a t r e n → IsNameOf a t r e m → m ≡ n
  name_one t r e n m (inl p) (inl q) = q.1 ∙ sym p.1
  name_one t r e n m (inl p) (inr q) = let short : e.len ≤ 64 = p.0 in let long : 65 ≤ e.len = q.0 in absurd (omega arith)
  name_one t r e n m (inr p) (inl q) = let long : 65 ≤ e.len = p.0 in let short : e.len ≤ 64 = q.0 in absurd (omega arith)
  name_one t r e n m (inr p) (inr q) = one.name t r n m p.1 q.1

  -- Directories: also for two ideas of which numbers an entry may name

  module _ (S T : ℕ → ℕ → Type 0) where
    entry_one : (t : a.Tree) (r : Ref) (x y : List ℕ × ℕ) → IsEntry a S t r x → IsEntry a T t r y → y ≡ x
    entry_one t r x y p q =
        let e : q.entry ≡ p.entry = same_Some q.entry p.entry (sym q.entry_is ∙ p.entry_is) in
        let name : y.0 ≡ x.0 = name_one t r p.entry x.0 y.0 p.name_is (subst (λ v. IsNameOf a t r v y.0) e q.name_is) in
        let number : y.1 ≡ x.1 = q.number_is ∙ ap (λ v. v.number) e ∙ sym p.number_is in
        λ i. (name i, number i)

    pub directory_one : (t : a.Tree) (m n : ℕ) (d e : Entries) → IsDirectory a S t m d → IsDirectory a T t n e → e ≡ d
    directory_one t m n d e p q =
        let l : q.leaves ≡ p.leaves = leaves_one t p.leaves q.leaves p.has q.has in
        let named : q.named ≡ p.named = one_list (IsEntry a S t) (IsEntry a T t) (entry_one t) p.leaves p.named q.named p.each (subst (λ v. OneByOne (IsEntry a T t) v q.named) l q.each) in
        q.entries_are ∙ ap from_entries named ∙ sym p.entries_are

  -- Lists of PFSs

  pub pfs_one : (t : a.Tree) (r : Ref) (x y : ListedPfs) → IsPfs a t r x → IsPfs a t r y → y ≡ x
  pfs_one t r x y p q =
      let same = one.inode t r p.inode q.inode p.tree q.tree p.read q.read in
      let id : y.id ≡ x.id = q.id_is ∙ sym p.id_is in
      let name : y.name ≡ x.name = q.name_is ∙ ap (λ v. v.name) same.0 ∙ sym p.name_is in
      let next : y.next ≡ x.next = q.next_is ∙ ap (λ v. v.next) same.0 ∙ sym p.next_is in
      λ i. record { id = id i; name = name i; next = next i }

  pub pfs_list_one : (t : a.Tree) (m n : ℕ) (x y : List ListedPfs) → IsPfsList a t m x → IsPfsList a t n y → y ≡ x
  pfs_list_one t m n x y p q =
      let l : q.leaves ≡ p.leaves = leaves_one t p.leaves q.leaves p.has q.has in
      one_list (IsPfs a t) (IsPfs a t) (pfs_one t) p.leaves x y p.each (subst (λ v. OneByOne (IsPfs a t) v y) l q.each)
