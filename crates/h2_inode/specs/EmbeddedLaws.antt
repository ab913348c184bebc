-- The bytes of a file: there is one list of them at most, and they are the same in each reading that follows.
use Rattle.std.specs.Prelude.{◌≡◌, ◌≤◌, ℕ, List, length, take, refl}
use Rattle.std.proofs.Common.{sym, ◌∙◌, subst}
use Rattle.std.proofs.lemmas.List.{length-take-le}
use Rattle.h2_inode.specs.declared.inode.Body.{Body}
use Rattle.h2_inode.specs.declared.inode.Body.TheVariants.{Refs, Bytes}
use Rattle.h2_inode.specs.Access.{Access}
use Rattle.h2_inode.specs.Contents.{IsContents}
use Rattle.h2_inode.specs.Embedded.{EmbedsBytes, HasBytes}
use Rattle.h2_inode.specs.Single.{IsSingle}
use Rattle.h2_inode.specs.SingleLaws.{contents_one}
use Rattle.h2_inode.specs.Following.{SameBody, Passage, Follows}
use Rattle.h2_inode.specs.CarryLaws.{contents_carried}

-- a body that is long enough embeds its first bytes
pub embeds_first : (size : ℕ) (body : List ℕ) → size ≤ length body → EmbedsBytes size body (take size body)
embeds_first size body fits = record { bytes_are = refl; sized = length-take-le size body fits }

pub embeds_one : (size : ℕ) (body b c : List ℕ) → EmbedsBytes size body b → EmbedsBytes size body c → c ≡ b
embeds_one size body b c p q = q.bytes_are ∙ sym p.bytes_are

pub bytes_one : (a : Access) → IsSingle a → (t : a.Tree) (size : ℕ) (body : Body) (b c : List ℕ) → HasBytes a t size body b → HasBytes a t size body c → c ≡ b
bytes_one a one t size (Refs s) b c p q = contents_one a one t size b c p q
bytes_one a one t size (Bytes body) b c p q = embeds_one size body b c p q

pub bytes_carried : (p : Passage) → Follows p → (t : p.from.Tree) (u : p.to.Tree) (m n : ℕ) (x y : Body) (bytes : List ℕ) → p.Matches t u → n ≡ m → SameBody x y
    → HasBytes p.from t m x bytes → HasBytes p.to u n y bytes
bytes_carried p f t u m n (Refs x) (Refs y) bytes sim size same h = subst (λ k. IsContents p.to u k bytes) (sym size) (contents_carried p f t u m bytes sim h)
bytes_carried p f t u m n (Refs x) (Bytes y) bytes sim size same h = absurd same
bytes_carried p f t u m n (Bytes x) (Refs y) bytes sim size same h = absurd same
bytes_carried p f t u m n (Bytes x) (Bytes y) bytes sim size same h = subst (λ k. EmbedsBytes k y bytes) (sym size) (subst (λ v. EmbedsBytes m v bytes) (sym same) h)
