-- Bytes meet a refusal exactly where they spell no valid reference.
use Rattle.std.specs.Prelude.{◌≡◌, ◌==◌, ℕ, List, [], ◌∷◌, find, Option, Some, None, refl}
use Rattle.std.proofs.Common.{ap, sym, ◌∙◌, inl, inr}
use Rattle.std.proofs.lemmas.Bool.{eqb-true, cases_Bool, cond-true, cond-false}
use Rattle.std.proofs.lemmas.Option.{none-some, same_Some}
use Rattle.h2_num.specs.Places.{Places, AreBytes}
use Rattle.h2_ref.specs.declared.reference.Kind.{Kind}
use Rattle.h2_ref.specs.declared.reference.Kind.TheVariants.{Empty, Inode, Indirect, Content, Dirent, MapNode, MapLeaf}
use Rattle.h2_ref.specs.declared.reference.Ref.{Ref}
use Rattle.h2_ref.specs.declared.faults.RefFault.{RefFault}
use Rattle.h2_ref.specs.declared.faults.RefFault.TheVariants.{Kind as BadKind}
use Rattle.h2_ref.specs.declared.table.Row.{Row}
use Rattle.h2_ref.specs.Table.{row_of, kinds}
use Rattle.h2_ref.specs.Ref.{kind_number, IsValid, NoRef, RefBytes}
use Rattle.h2_ref.specs.Fault.{kind_of, fault_by, fault_of_kind, first_fault}
use Rattle.h2_ref.specs.Reading.{ref_at}
use Rattle.h2_ref.specs.Passing.{pass, no_fault}
use Rattle.h2_ref.specs.Spelled.{spell, pass_spelled}

-- a kind is found by its number
pub kind_back : (k : Kind) → kind_of (kind_number k) ≡ Some k
kind_back Empty = refl
kind_back Inode = refl
kind_back Indirect = refl
kind_back Content = refl
kind_back Dirent = refl
kind_back MapNode = refl
kind_back MapLeaf = refl

-- what is found of some kinds has the number
found_kind : (ks : List Kind) (n : ℕ) (k : Kind) → find (λ k. kind_number k == n) ks ≡ Some k → n ≡ kind_number k
found_kind [] n k e = absurd (none-some k e)
found_kind (x ∷ ks) n k e = elim (cases_Bool (kind_number x == n)) [
  | inl is ↦
      let same : x ≡ k = same_Some x k (sym (cond-true (kind_number x == n) (Some x) (find (λ k. kind_number k == n) ks) is) ∙ e) in
      sym (eqb-true (kind_number x) n is) ∙ ap kind_number same
  | inr isnt ↦ found_kind ks n k (sym (cond-false (kind_number x == n) (Some x) (find (λ k. kind_number k == n) ks) isnt) ∙ e)
]

-- a kind that is found has the number
pub kind_there : (n : ℕ) (k : Kind) → kind_of n ≡ Some k → n ≡ kind_number k
kind_there n k e = found_kind kinds n k e

-- the first refusal of the kind's row
pub fault_from : (b : Places) (k : Kind) (w : Row) (o : Option RefFault) → kind_of (b 0) ≡ Some k → w ≡ row_of k (b 1) → fault_by w b ≡ o → first_fault b ≡ o
fault_from b k w o kind row e = ap (λ x. fault_of_kind x b) kind ∙ ap (λ x. fault_by x b) (sym row) ∙ e

-- bytes that meet no refusal of their row spell the valid reference that stands in them
pub spelled_by : (b : Places) (k : Kind) (w : Row) → AreBytes b → kind_of (b 0) ≡ Some k → w ≡ row_of k (b 1) → fault_by w b ≡ None → IsValid (ref_at k b) × RefBytes (ref_at k b) b
spelled_by b k w bytes kind row e = spell k b bytes (kind_there (b 0) k kind) (pass (row_of k (b 1)) b (ap (λ x. fault_by x b) (sym row) ∙ e))

-- the bytes of a valid reference meet no refusal
pub spelled-none : (r : Ref) (b : Places) → IsValid r → RefBytes r b → first_fault b ≡ None
spelled-none r b valid s = fault_from b r.kind (row_of r.kind (b 1)) None (ap kind_of s.fields.kind ∙ kind_back r.kind) refl (no_fault (row_of r.kind (b 1)) b (pass_spelled r b valid s))

-- bytes that meet a refusal spell no valid reference
pub fault-none : (b : Places) (f : RefFault) → first_fault b ≡ Some f → NoRef b
fault-none b f e r valid s = none-some f (sym (spelled-none r b valid s) ∙ e)

-- a valid reference and its bytes
pub record IsSpelled (b : Places) : Type 0 where
  pub ref : Ref
  pub valid : IsValid ref
  pub bytes : RefBytes ref b

-- bytes that meet no refusal spell a valid reference
pub none-spelled : (b : Places) → AreBytes b → first_fault b ≡ None → IsSpelled b
none-spelled b bytes e = pick (kind_of (b 0)) refl e
  where
    pick : (o : Option Kind) → kind_of (b 0) ≡ o → fault_of_kind o b ≡ None → IsSpelled b
    pick None kind e = absurd (none-some (BadKind (b 0)) (sym e))
    pick (Some k) kind e = let s = spelled_by b k (row_of k (b 1)) bytes kind refl e in record { ref = ref_at k b; valid = s.0; bytes = s.1 }
