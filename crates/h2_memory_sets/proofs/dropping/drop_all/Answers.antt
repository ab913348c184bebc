use Rattle.std.proofs.Common.{◌≡◌, ◌<◌, ◌||◌, arith, cond, length, List, slice_set, refl, sym, ap, suc, ◌∙◌}
use Rattle.std.proofs.lemmas.List.Edits.{map_over_more}
use Rattle.std.proofs.lemmas.Option.{slice_get_read}
use Rattle.h2_set.specs.RefSet.{RefSet}
use Rattle.h2_memory_sets.specs.declared.node.Node.{Node}
use Rattle.h2_memory_sets.specs.Owners.{on_chain}
use Rattle.h2_memory_sets.specs.View.{goes, goes_with, is_lost, lost, dropped}
use Rattle.h2_memory_sets.proofs.Owned.{chain_mixed, dropped_owner}
use Rattle.h2_memory_sets.proofs.Undropped.{none_dropped}
use Rattle.h2_memory_sets.proofs.dropping.drop_all.Goals as goal

pub returns-then-has_all : goal.returns-then-has_all
returns-then-has_all c = none_dropped c.args.root c.args.bits (let s : RefSet = c.args.old.now in s.refs) (let s : RefSet = c.args.new.now in s.refs) (c.has_all.ensures c.if-has_all.true) c.args.nodes.now

pub loop-i-preserved : goal.loop-i-preserved
loop-i-preserved c =
    let zs = c.args.nodes.now in
    let root = c.args.root in
    let old = (let s : RefSet = c.args.old.now in s.refs) in
    let new = (let s : RefSet = c.args.new.now in s.refs) in
    let f = dropped zs root c.args.bits old new in
    let x = c.index-nodes-i.result in
    let is = c.index-nodes-i.is in
    let lt : c.loop-i.i < length c.loop-i.nodes = (let n = c.loop-i.auto.nodes in let t = c.loop-i-test.true in omega (arith, n, t)) in
    let with_ : goes_with c.loop-i.nodes root old new x.root ≡ goes_with zs root old new x.root = ap (λ (l : List Node). on_chain (is_lost root old new) l (suc x.root) x.root) c.loop-i.invariant ∙ chain_mixed (is_lost root old new) f (dropped_owner zs root c.args.bits old new) c.loop-i.i zs (suc x.root) x.root in
    let gone : c.is_dropped-is_gone.result ≡ (goes root c.args.bits old new x || goes_with zs root old new x.root) = c.is_dropped-is_gone.ensures x (slice_get_read c.loop-i.nodes _ c.loop-i.i x refl lt is) ∙ ap (λ b. goes root c.args.bits old new x || b) with_ in
    ap (λ (y : Node). slice_set c.loop-i.nodes c.loop-i.i y) (c.lose_one.ensures ∙ ap (λ (y : Node). cond c.is_dropped-is_gone.result (lost y) y) (sym is) ∙ ap (λ b. cond b (lost x) x) gone) ∙ map_over_more f zs c.loop-i.nodes c.loop-i.i x c.loop-i-test.true c.loop-i.invariant is
