use Rattle.std.proofs.Common.{◌≡◌, ℕ, List, [], ◌∷◌, ◌++◌, None, length, map, slice_get, refl, sym, ap, ◌∙◌, subst}
use Rattle.std.proofs.lemmas.List.{map-append}
use Rattle.h2_set.specs.Calls.{KeepsBeside}
use Rattle.h2_memory_sets.specs.declared.node.KeyClass.TheVariants.{Low}
use Rattle.h2_memory_sets.specs.declared.node.Leaves.TheVariants.{Inodes}
use Rattle.h2_memory_sets.specs.declared.node.Node.{Node}
use Rattle.h2_memory_sets.specs.Kept.{AreKept}
use Rattle.h2_memory_sets.specs.Owners.{beside_of}
use Rattle.h2_memory_sets.specs.View.{AllRooted, block, forest_with, top_node}
use Rattle.h2_memory_sets.specs.Roots.{AddsSuperRoot}
use Rattle.h2_memory_sets.proofs.Topped.{topped, adds_super}
use Rattle.h2_memory_sets.proofs.memory.MemorySets.add_super_root.Goals as goal

pub invariant_of-self-clause-rooted : goal.invariant_of-self-clause-rooted
invariant_of-self-clause-rooted c =
    let p = c.args.self.now in
    let xs = p.nodes.items in
    let items : c.add_top.new.nodes.items ≡ xs ++ top_node (length xs) Low 0 Inodes ∷ [] = c.add_top.ensures.pushed ∙ ap (λ (l : List Node). l ++ top_node (length l) Low 0 Inodes ∷ []) c.reserve.ensures.items in
    let number : c.add_top.result ≡ length xs = c.add_top.ensures.number ∙ ap length c.reserve.ensures.items in
    let it = topped xs Low 0 Inodes p.spare p.epoch p.room p.failed p.bad p.met p.rooted p.kept in
    subst AllRooted (sym items) it.rooted

pub invariant_of-self-clause-kept : goal.invariant_of-self-clause-kept
invariant_of-self-clause-kept c =
    let p = c.args.self.now in
    let xs = p.nodes.items in
    let items : c.add_top.new.nodes.items ≡ xs ++ top_node (length xs) Low 0 Inodes ∷ [] = c.add_top.ensures.pushed ∙ ap (λ (l : List Node). l ++ top_node (length l) Low 0 Inodes ∷ []) c.reserve.ensures.items in
    let number : c.add_top.result ≡ length xs = c.add_top.ensures.number ∙ ap length c.reserve.ensures.items in
    let it = topped xs Low 0 Inodes p.spare p.epoch p.room p.failed p.bad p.met p.rooted p.kept in
    subst AreKept (sym items) it.kept

pub returns-in-Ok-clause-added : goal.returns-in-Ok-clause-added
returns-in-Ok-clause-added c =
    let p = c.args.self.now in
    let xs = p.nodes.items in
    let items : c.add_top.new.nodes.items ≡ xs ++ top_node (length xs) Low 0 Inodes ∷ [] = c.add_top.ensures.pushed ∙ ap (λ (l : List Node). l ++ top_node (length l) Low 0 Inodes ∷ []) c.reserve.ensures.items in
    let number : c.add_top.result ≡ length xs = c.add_top.ensures.number ∙ ap length c.reserve.ensures.items in
    let it = topped xs Low 0 Inodes p.spare p.epoch p.room p.failed p.bad p.met p.rooted p.kept in
    subst (λ (k : ℕ). AddsSuperRoot (forest_with xs p.spare p.epoch p.room p.failed p.bad p.met) (forest_with c.add_top.new.nodes.items p.spare p.epoch p.room p.failed p.bad p.met) k) (sym number) (subst (λ (ys : List Node). AddsSuperRoot (forest_with xs p.spare p.epoch p.room p.failed p.bad p.met) (forest_with ys p.spare p.epoch p.room p.failed p.bad p.met) (length xs)) (sym items) (adds_super xs Low 0 Inodes p.spare p.epoch p.room p.failed p.bad p.met p.rooted p.kept c.requires.sound refl refl refl))

pub returns-in-Ok-clause-beside : goal.returns-in-Ok-clause-beside
returns-in-Ok-clause-beside c =
    let p = c.args.self.now in
    let xs = p.nodes.items in
    let items : c.add_top.new.nodes.items ≡ xs ++ top_node (length xs) Low 0 Inodes ∷ [] = c.add_top.ensures.pushed ∙ ap (λ (l : List Node). l ++ top_node (length l) Low 0 Inodes ∷ []) c.reserve.ensures.items in
    let number : c.add_top.result ≡ length xs = c.add_top.ensures.number ∙ ap length c.reserve.ensures.items in
    let it = topped xs Low 0 Inodes p.spare p.epoch p.room p.failed p.bad p.met p.rooted p.kept in
    subst (λ (ys : List Node). KeepsBeside (forest_with xs p.spare p.epoch p.room p.failed p.bad p.met) (forest_with ys p.spare p.epoch p.room p.failed p.bad p.met) (λ m. beside_of (slice_get xs m)) (λ m. beside_of (slice_get ys m))) (sym items) it.beside

pub returns-in-Ok-clause-none : goal.returns-in-Ok-clause-none
returns-in-Ok-clause-none c =
    let p = c.args.self.now in
    let xs = p.nodes.items in
    let items : c.add_top.new.nodes.items ≡ xs ++ top_node (length xs) Low 0 Inodes ∷ [] = c.add_top.ensures.pushed ∙ ap (λ (l : List Node). l ++ top_node (length l) Low 0 Inodes ∷ []) c.reserve.ensures.items in
    let number : c.add_top.result ≡ length xs = c.add_top.ensures.number ∙ ap length c.reserve.ensures.items in
    let it = topped xs Low 0 Inodes p.spare p.epoch p.room p.failed p.bad p.met p.rooted p.kept in
    subst (λ (k : ℕ). beside_of (slice_get c.add_top.new.nodes.items k) ≡ None) (sym number) (subst (λ (ys : List Node). beside_of (slice_get ys (length xs)) ≡ None) (sym items) it.none)

pub returns-in-Ok-clause-blocks : goal.returns-in-Ok-clause-blocks
returns-in-Ok-clause-blocks c =
    let p = c.args.self.now in
    let xs = p.nodes.items in
    let items : c.add_top.new.nodes.items ≡ xs ++ top_node (length xs) Low 0 Inodes ∷ [] = c.add_top.ensures.pushed ∙ ap (λ (l : List Node). l ++ top_node (length l) Low 0 Inodes ∷ []) c.reserve.ensures.items in
    ap (map block) items ∙ map-append block xs (top_node (length xs) Low 0 Inodes ∷ [])
