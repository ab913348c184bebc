-- A reading follows itself.
use Rattle.std.specs.Prelude.{◌≡◌, List, [], ◌∷◌, refl}
use Rattle.std.proofs.Common.{ap, sym, subst}
use Rattle.h2_ref.specs.declared.reference.Ref.{Ref}
use Rattle.h2_inode.specs.declared.inode.Body.{Body}
use Rattle.h2_inode.specs.declared.inode.Body.TheVariants.{Refs, Bytes}
use Rattle.h2_inode.specs.declared.inode.Inode.{Inode}
use Rattle.h2_inode.specs.Access.{Access, OneByOne}
use Rattle.h2_inode.specs.Following.{SameBody, SameInode, Follows, itself}

same_body : (b : Body) → SameBody b b
same_body (Refs s) = tt
same_body (Bytes b) = refl

pub same_inode : (i : Inode) → SameInode i i
same_inode i = record { kind = refl; number = refl; size = refl; links = refl; next = refl; name = refl; body = same_body i.body }

beside : (a : Access) (t u : a.Tree) → u ≡ t → (l : List Ref) → OneByOne (λ (r s : Ref). (u ≡ t) × (s ≡ r)) l l
beside a t u e [] = tt
beside a t u e (x ∷ l) = ((e, refl), beside a t u e l)

pub itself_follows : (a : Access) → Follows (itself a)
itself_follows a = record {
  leaves = λ t u l e h. (l, subst (λ v. a.LeavesOf v l) (sym e) h, beside a t u e l);
  like = λ t u r s e. record { kind = ap (λ v. v.kind) e.1; key = ap (λ v. v.key) e.1; keybits = ap (λ v. v.keybits) e.1; dirent = ap (λ v. v.dirent) e.1 };
  inode = λ t u r s i c e h. (i, c, subst (λ v. a.InodeOf v s i c) (sym e.0) (subst (λ v. a.InodeOf t v i c) (sym e.1) h), same_inode i, refl);
  name = λ t u r s n e h. subst (λ v. a.NameOf v s n) (sym e.0) (subst (λ v. a.NameOf t v n) (sym e.1) h);
  content = λ t u r s x e h. subst (λ v. a.ContentOf v s x) (sym e.0) (subst (λ v. a.ContentOf t v x) (sym e.1) h);
}
