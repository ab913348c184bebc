-- What a load counts, and when one is needed.
use Rattle.std.proofs.Common.{◌≡◌, ℕ, refl, Some, None, slice_get, subst}
use Rattle.std.specs.Prelude.{◌-◌}
use Rattle.std.specs.List.{position}
use Rattle.h2_num.specs.Causes.{one_more}
use Rattle.h2_ref.specs.declared.reference.Ref.{Ref}
use Rattle.h2_set.specs.Calls.{IsIndirectAt}
use Rattle.h2_set.specs.Forest.{refs}
use Rattle.h2_memory_sets.specs.declared.memory.MemorySets.{MemorySets}
use Rattle.h2_memory_sets.specs.declared.node.Node.{Node}
use Rattle.h2_memory_sets.specs.Plans.{StaysAll, LeadsTo, LoadsOne}
use Rattle.h2_memory_sets.specs.Seen.{forest_of, failing_load, spoiled_load, refused_spare}
use Rattle.h2_memory_sets.specs.View.{is_child}
use Rattle.h2_memory_sets.proofs.Bringing.{ref_there, ref_same, is_loaded, not_loaded}

-- where nothing has changed
pub stays_all : (p : MemorySets) → StaysAll p p
stays_all p = record { forest = refl; beside = refl; blocks = refl; names = λ place len. refl; plans = record { failing = refl; spoiled = refl; refused = refl } }

-- the reference that was read leads to the node that was found
pub leads_there : (p : MemorySets) (at i k : ℕ) (x : Node) (q : Ref) → slice_get p.nodes.items at ≡ Some x → slice_get (let s = x.set in s.refs) i ≡ Some q → position (is_child at q.key) p.nodes.items ≡ Some k → IsIndirectAt (refs (forest_of p) at) i → LeadsTo (forest_of p) at i k
leads_there p at i k x q read ref found ind =
    let there = ref_there p.nodes.items at i x q read ref in
    record { ref = q; read = there; link = is_loaded p.nodes.items at i k q found there (ind.indirect q there) }

-- where none was found, it leads nowhere
pub leads_nowhere : (p : MemorySets) (at i d : ℕ) (x : Node) (q : Ref) → slice_get p.nodes.items at ≡ Some x → slice_get (let s = x.set in s.refs) i ≡ Some q → position (is_child at q.key) p.nodes.items ≡ None → LeadsTo (forest_of p) at i d → ⊥
leads_nowhere p at i d x q read ref none lead =
    let same : q ≡ lead.ref = ref_same p.nodes.items at i x q read ref lead.ref lead.read in
    not_loaded p.nodes.items at lead.ref.key d (subst (λ (r : Ref). position (is_child at r.key) p.nodes.items ≡ None) same none) lead.link

-- a load that the disk failed
pub counts_failed : (p q : MemorySets) → failing_load q ≡ failing_load p - 1 → failing_load p ≡ 1 → q.failed ≡ one_more p.failed → spoiled_load q ≡ spoiled_load p → refused_spare q ≡ refused_spare p → LoadsOne p q
counts_failed p q counts due more spoiled refused = record {
  failing = counts;
  failed = λ e. more;
  unmet = λ e. spoiled;
  none_failed = λ other. absurd (other due);
  met = λ other. absurd (other due);
  refused = refused;
}

-- a load that met a block
pub counts_met : (p q : MemorySets) → failing_load q ≡ failing_load p - 1 → (failing_load p ≡ 1 → ⊥) → q.failed ≡ p.failed → spoiled_load q ≡ spoiled_load p - 1 → refused_spare q ≡ refused_spare p → LoadsOne p q
counts_met p q counts other same spoiled refused = record {
  failing = counts;
  failed = λ due. absurd (other due);
  unmet = λ due. absurd (other due);
  none_failed = λ _. same;
  met = λ _. spoiled;
  refused = refused;
}
