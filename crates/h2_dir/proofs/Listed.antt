-- Entries that are named one after another.
use Rattle.std.specs.Prelude.{◌≡◌, ◌<◌, ℕ, ◌+◌, List, [], ◌∷◌, ◌++◌, take, length, Option, All}
use Rattle.std.proofs.Common.{ap, sym, ◌∙◌, subst, get_or}
use Rattle.std.proofs.lemmas.List.{take_more}
use Rattle.std.proofs.Math.Seq.{take-length}
use Rattle.std.proofs.lemmas.Option.{slice_get-get_or}
use Rattle.h2_ref.specs.declared.reference.Ref.{Ref}
use Rattle.h2_set.specs.Forest.{Forest, IsSound}
use Rattle.h2_tree.specs.Changes.{Lists}
use Rattle.h2_inode.specs.declared.inode.Inode.{Inode}
use Rattle.h2_inode.specs.declared.kind.InodeKind.TheVariants.{Directory}
use Rattle.h2_inode.specs.Nodes.{Fields, HasInode}
use Rattle.h2_inode.specs.Access.{OneByOne}
use Rattle.h2_dir.specs.Listing.{IsEntryLeaf, SaysEntry}
use Rattle.h2_dir.proofs.Unchanging.{may_stays}
use Rattle.h2_dir.proofs.Paths.{leaf_valid}
use Rattle.h2_dir.proofs.Leaf.{entry_kind, of_entry}

pub says_stays : (f g : Forest) (leaf : Ref) (named : List ℕ × ℕ) → ((r : Ref) → g.name r ≡ f.name r) → SaysEntry f leaf named → SaysEntry g leaf named
says_stays f g leaf named same h = record { name = may_stays f g leaf named.0 same h.name; number = h.number }

one_push : {X Y : Type 0} (P : X → Y → Type 0) (xs : List X) (ys : List Y) (x : X) (y : Y) → OneByOne P xs ys → P x y → OneByOne P (xs ++ x ∷ []) (ys ++ y ∷ [])
one_push P [] [] x y h p = (p, tt)
one_push P [] (z ∷ ys) x y h p = absurd h
one_push P (w ∷ xs) [] x y h p = absurd h
one_push P (w ∷ xs) (z ∷ ys) x y h p = (h.0, one_push P xs ys x y h.1 p)

pub each_more : {X Y : Type 0} (P : X → Y → Type 0) (xs : List X) (ys new : List Y) (i : ℕ) (d : X) (y : Y) → i < length xs → OneByOne P (take i xs) ys → P (get_or xs i d) y → new ≡ ys ++ y ∷ [] → OneByOne P (take (i + 1) xs) new
each_more P xs ys new i d y lt h p is = subst (λ zs. OneByOne P (take (i + 1) xs) zs) (sym is) (subst (λ zs. OneByOne P zs (ys ++ y ∷ [])) (sym (take_more xs i d lt)) (one_push P (take i xs) ys (get_or xs i d) y h p))

pub each_all : {X Y : Type 0} (P : X → Y → Type 0) (xs : List X) (ys : List Y) (i : ℕ) → i ≡ length xs → OneByOne P (take i xs) ys → OneByOne P xs ys
each_all P xs ys i e h = subst (λ zs. OneByOne P zs ys) (ap (λ n. take n xs) e ∙ take-length xs) h

pub each_stays : (f g : Forest) (xs : List Ref) (ys : List (List ℕ × ℕ)) → ((r : Ref) → g.name r ≡ f.name r) → OneByOne (SaysEntry f) xs ys → OneByOne (SaysEntry g) xs ys
each_stays f g [] [] same h = h
each_stays f g [] (y ∷ ys) same h = absurd h
each_stays f g (x ∷ xs) [] same h = absurd h
each_stays f g (x ∷ xs) (y ∷ ys) same h = (says_stays f g x y same h.0, each_stays f g xs ys same h.1)

-- the leaves of a directory are entries
pub entry_leaves : (f : Forest) (holds : ℕ → Option Fields) (dir from to : ℕ) (i : Inode) (l : List Ref) → IsSound f → HasInode f holds dir i → i.kind ≡ Directory → Lists f dir from to l → All IsEntryLeaf l
entry_leaves f holds dir from to i l sound is kind lists k d lt =
    let leaf = get_or l k d in
    let path = (lists.each k leaf (slice_get-get_or l k d lt)).1 in
    let valid = leaf_valid sound is path in
    let of = of_entry leaf valid (entry_kind f holds dir i leaf.key leaf sound is kind path) in
    record { valid = valid; entry = of.entry; entry_is = of.entry_is }
