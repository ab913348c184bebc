-- Lists of PFSs, in order of their ids: names, one more, and one less.
use Rattle.std.specs.Prelude.{◌≡◌, ℕ, ◌==◌, nat_lt, nat_eq, List, [], ◌∷◌, Option, Some, None, if◌then◌else◌}
use Rattle.std.specs.Cmp.Lexicographic.{pointwise}
use Rattle.h2_ref.specs.declared.reference.Ref.{Ref}
use Rattle.h2_set.specs.Forest.{Forest}
use Rattle.h2_inode.specs.Nodes.{Fields, Told}
use Rattle.h2_inode.specs.Loaded.{loaded_nodes, at_root, no_content}
use Rattle.h2_inode.specs.PfsList.{ListedPfs, IsPfsList}

-- the name of a listed PFS
abbrev pub name_of : ListedPfs → List ℕ
name_of p = p.name

-- the id of the first of them with the name
abbrev pub id_of : List ℕ → List ListedPfs → Option ℕ
id_of name [] = None
id_of name (p ∷ ps) = if pointwise nat_eq p.name name then Some p.id else id_of name ps

-- the list with one more in the order of ids, in place of the one with its id
abbrev pub put_pfs : ListedPfs → List ListedPfs → List ListedPfs
put_pfs p [] = p ∷ []
put_pfs p (q ∷ qs) = if nat_lt p.id q.id then p ∷ q ∷ qs else (if nat_lt q.id p.id then q ∷ put_pfs p qs else p ∷ qs)

-- the list but for the one with the id
abbrev pub without_id : ℕ → List ListedPfs → List ListedPfs
without_id id [] = []
without_id id (p ∷ ps) = if p.id == id then ps else p ∷ without_id id ps

-- the tree of the super-root stands for this list of PFSs, as far as nodes are loaded and blocks are told
abbrev pub HasPfss : Forest → (ℕ → Option Fields) → (Ref → Option Told) → ℕ → ℕ → List ListedPfs → Type 0
HasPfss f holds tells top next pfss = IsPfsList (loaded_nodes f holds tells no_content) (at_root top) next pfss

-- where the tree stood for a list of PFSs, it is this one, and the tree still stands for it
abbrev pub KeepsPfss : (f g : Forest) (old new : ℕ → Option Fields) (was now : Ref → Option Told) → ℕ → List ListedPfs → Type 0
KeepsPfss f g old new was now top pfss = (next : ℕ) (known : List ListedPfs) → HasPfss f old was top next known → HasPfss g new now top next known × (pfss ≡ known)
