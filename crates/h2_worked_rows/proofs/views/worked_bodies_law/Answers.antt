use Rattle.std.proofs.Common.{◌≡◌, ℕ, arith}
use Rattle.std.proofs.lemmas.List.{length-replicate}
use Rattle.h2_inode.specs.declared.kind.InodeKind.{InodeKind}
use Rattle.h2_inode.specs.declared.kind.InodeKind.TheVariants.{Directory, File, Pfs}
use Rattle.h2_inode.specs.Kind.{kind_byte}
use Rattle.h2_worked_rows.proofs.views.worked_bodies_law.Goals as goal

no_kind : (k : InodeKind) → 0 ≡ kind_byte k → ⊥
no_kind Directory e = absurd (let is : ◌≡◌ {A = ℕ} 0 (kind_byte Directory) = e in omega (arith, is))
no_kind File e = absurd (let is : ◌≡◌ {A = ℕ} 0 (kind_byte File) = e in omega (arith, is))
no_kind Pfs e = absurd (let is : ◌≡◌ {A = ℕ} 0 (kind_byte Pfs) = e in omega (arith, is))

pub returns : goal.returns
returns c = record {
  whole = length-replicate {A = ℕ} 512 0;
  too_short = λ e. absurd (let is : ◌≡◌ {A = ℕ} 1 512 = e in omega (arith, is));
  no_inode = λ i good bytes. no_kind i.kind bytes.kind_at;
}
