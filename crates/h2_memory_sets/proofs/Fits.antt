-- Which nodes that aren't loaded fit where they are wanted.
use Rattle.std.proofs.Common.{◌≡◌, ℕ, true, false, nat_eq, arith, refl, sym, ◌∙◌, ap, subst, slice_get}
use Rattle.std.proofs.lemmas.Bool.Decides.{nat_tests}
use Rattle.h2_ref.specs.declared.reference.Ref.{Ref}
use Rattle.h2_set.specs.Forest.{IsSound}
use Rattle.h2_memory_sets.specs.declared.memory.MemorySets.{MemorySets}
use Rattle.h2_memory_sets.specs.Inodes.{owned_by, IsSought}
use Rattle.h2_memory_sets.specs.Plans.{FitsThere, FitsLeaf}
use Rattle.h2_memory_sets.specs.Seen.{forest_of}
use Rattle.h2_memory_sets.specs.View.{Block, block, stands_of, root_of, is_up, AllFitBelow, IsLoadable}
use Rattle.h2_memory_sets.proofs.Bringing.{away_parts, up_is}
use Rattle.h2_memory_sets.proofs.Gone.{node_at}
use Rattle.h2_memory_sets.proofs.Hinted.{none_below}
use Rattle.h2_memory_sets.proofs.Named.{self_owner}
use Rattle.h2_memory_sets.proofs.Parting.{alike, get_map}
use Rattle.h2_memory_sets.proofs.Sought.{owned_is}

same_eq : (a b : ℕ) → a ≡ b → nat_eq a b ≡ true
same_eq a b e = grind (arith, nat_tests)

-- what can be loaded fits
pub fits_there : (p : MemorySets) (at : ℕ) (r : Ref) (c : ℕ) → IsLoadable p.nodes.items at r c → FitsThere p at r c
fits_there p at r c l =
    let x = l.node in
    let parts = away_parts x.loaded (is_up at x.up) (nat_eq x.low r.key) l.away in
    record {
      held = block x;
      read = get_map block p.nodes.items c x l.read;
      away = ap stands_of l.read ∙ parts.0;
      up = up_is at x.up parts.1;
      low = alike x.low r.key parts.2;
      fits = l.fits;
    }

-- what fits can be loaded
pub there_loads : (p : MemorySets) (at : ℕ) (r : Ref) (c : ℕ) → IsSound (forest_of p) → FitsThere p at r c → IsLoadable p.nodes.items at r c
there_loads p at r c sound t =
    let it = node_at p.nodes.items c t.held t.read in
    let x = it.0 in
    let off : x.loaded ≡ false = sym (ap stands_of it.1) ∙ t.away in
    let up : is_up at x.up ≡ true = ap (is_up at) (ap (λ (b : Block). b.up) it.2 ∙ t.up) ∙ same_eq at at refl in
    let low : nat_eq x.low r.key ≡ true = same_eq x.low r.key (ap (λ (b : Block). b.low) it.2 ∙ t.low) in
    record {
      node = x;
      read = it.1;
      away = rw (off, up, low) refl;
      fits = subst (λ (b : Block). AllFitBelow r (slice_get p.nodes.items (root_of (slice_get p.nodes.items at))) b.set) (sym it.2) t.fits;
      bare = none_below p.nodes.items p.spare p.epoch p.room p.failed p.bad p.met p.rooted sound c t.away;
    }

-- the same of the inode that a leaf names
pub fits_leaf : (p : MemorySets) (root key c : ℕ) → IsSought p.nodes.items root key c → FitsLeaf p root key c
fits_leaf p root key c l = record { node = l.node; read = l.read; away = l.away; owner = owned_is root key (let x = l.node in x.owner) l.owned; item = l.item; holds = l.holds; fits = l.fits }

pub leaf_loads : (p : MemorySets) (root key c : ℕ) → IsSound (forest_of p) → FitsLeaf p root key c → IsSought p.nodes.items root key c
leaf_loads p root key c sound t = record {
  node = t.node;
  read = t.read;
  away = t.away;
  owned = ap (owned_by root key) t.owner ∙ self_owner root key;
  item = t.item;
  holds = t.holds;
  fits = t.fits;
  bare = none_below p.nodes.items p.spare p.epoch p.room p.failed p.bad p.met p.rooted sound c (ap stands_of t.read ∙ t.away);
}
