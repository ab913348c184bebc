use Rattle.std.proofs.Common.{◌≡◌, ◌+◌, ℕ, List, ◌∷◌, [], Ok, Err, get_or, subst, sym}
use Rattle.std.specs.Prelude.{drop}
use Rattle.h2_inode.specs.VisitLaws.{visits_trans}
use Rattle.h2_inode.specs.Loaded.{View, as_before, view_of}
use Rattle.h2_inode.specs.LoadedLaws.{alike_trans, alike_leaves}
use Rattle.h2_inode.specs.Nodes.{held_by}
use Rattle.h2_dir.specs.Knowing.{KnowsWay, LeadsBy, ended}
use Rattle.h2_dir.proofs.Agreed.{AgreesOnTheWay, agrees_first, agrees_next, agrees_err}
use Rattle.h2_dir.specs.Walking.{Leads, arrived}
use Rattle.h2_dir.proofs.Loading.{no_loads, step_alone}
use Rattle.h2_dir.proofs.Stepping.{IsOnTheWay, way_begins, way_goes_on}
use Rattle.h2_tree.specs.AnswerLaws.{beside_same}
use Rattle.h2_dir.proofs.Unchanging.{beside_visits, visits_refl}
use Rattle.h2_dir.proofs.Walked.{names_at, names_end, ends_err}
use Rattle.h2_set.specs.MetLaws.{MeetsNone-refl, MeetsNone-trans}
use Rattle.h2_dir.proofs.Meeting.{fault_met_after}
use Rattle.h2_dir.proofs.walking.walk.Goals as goal

pub loop-i-init : goal.loop-i-init
loop-i-init g c = record {
  visits = visits_refl _ c.requires.sound;
  way = way_begins g.N.Nodes.fields (g.N.Sets.forest c.args.n.now) (g.N.Sets.beside c.args.n.now) c.args.pfs.0 1 c.args.names.now;
  known = λ may l has way. way;
  agrees = λ may l has way. agrees_first _ may c.args.pfs.0 l 1 c.args.names.now way;
  alike = as_before;
  beside = beside_same _ _;
  later = g.met.N.Sets.same_later _;
  none_met = MeetsNone-refl _;
}

pub returns-in-Err-clause-visits : goal.returns-in-Err-clause-visits
returns-in-Err-clause-visits g c = visits_trans _ _ _ c.loop-i.invariant.visits c.in-Err.ensures.visits

pub returns-in-Err-clause-alike : goal.returns-in-Err-clause-alike
returns-in-Err-clause-alike g c = alike_trans c.loop-i.invariant.alike c.in-Err.ensures.alike

pub returns-in-Err-clause-ends : goal.returns-in-Err-clause-ends
returns-in-Err-clause-ends g c =
    let inv = c.loop-i.invariant in
    let fields = g.N.Nodes.fields in
    let f = g.N.Sets.forest c.loop-i.n in
    let h = g.N.Sets.forest c.step.new.n in
    let now = g.N.Sets.beside c.step.new.n in
    let name = c.as_slice.result.now in
    let items = c.items-items.result.now in
    let left = drop (c.loop-i.i + 1) c.args.names.now in
    let at : drop c.loop-i.i c.args.names.now ≡ name ∷ left = subst (λ (xs : List (List ℕ)). drop c.loop-i.i xs ≡ name ∷ drop (c.loop-i.i + 1) xs) c.items-items.ensures (names_at items c.loop-i.i name c.loop-i-test.true (subst (λ (x : List ℕ). get_or items c.loop-i.i x ≡ x) (sym c.as_slice.ensures) (sym c.index-items-i.is))) in
    let way = subst (λ (xs : List (List ℕ)). IsOnTheWay g.N.Nodes.fields (g.N.Sets.forest c.args.n.now) (g.N.Sets.forest c.loop-i.n) (g.N.Sets.beside c.loop-i.n) c.args.pfs.0 1 c.loop-i.number c.args.names.now xs) at c.loop-i.invariant.way in
    way.ends h now (Err c.in-Err.fault) c.in-Err.ensures.visits c.in-Err.ensures.beside (ends_err f h (held_by fields now) c.args.pfs.0 c.loop-i.number name left c.in-Err.fault c.in-Err.ensures.ends)

pub returns-in-Err-clause-loads : goal.returns-in-Err-clause-loads
returns-in-Err-clause-loads g c =
    let inv = c.loop-i.invariant in
    let fields = g.N.Nodes.fields in
    let f = g.N.Sets.forest c.loop-i.n in
    let h = g.N.Sets.forest c.step.new.n in
    let now = g.N.Sets.beside c.step.new.n in
    let name = c.as_slice.result.now in
    let items = c.items-items.result.now in
    let left = drop (c.loop-i.i + 1) c.args.names.now in
    let at : drop c.loop-i.i c.args.names.now ≡ name ∷ left = subst (λ (xs : List (List ℕ)). drop c.loop-i.i xs ≡ name ∷ drop (c.loop-i.i + 1) xs) c.items-items.ensures (names_at items c.loop-i.i name c.loop-i-test.true (subst (λ (x : List ℕ). get_or items c.loop-i.i x ≡ x) (sym c.as_slice.ensures) (sym c.index-items-i.is))) in
    let way = subst (λ (xs : List (List ℕ)). IsOnTheWay g.N.Nodes.fields (g.N.Sets.forest c.args.n.now) (g.N.Sets.forest c.loop-i.n) (g.N.Sets.beside c.loop-i.n) c.args.pfs.0 1 c.loop-i.number c.args.names.now xs) at c.loop-i.invariant.way in
    way.loads h now c.in-Err.ensures.visits c.in-Err.ensures.beside (step_alone f h (held_by fields now) c.args.pfs.0 c.loop-i.number name left c.in-Err.ensures.loads)

pub returns-in-Err-clause-good : goal.returns-in-Err-clause-good
returns-in-Err-clause-good g c may l has way =
    let inv = c.loop-i.invariant in
    let name = c.as_slice.result.now in
    let items = c.items-items.result.now in
    let left = drop (c.loop-i.i + 1) c.args.names.now in
    let at : drop c.loop-i.i c.args.names.now ≡ name ∷ left = subst (λ (xs : List (List ℕ)). drop c.loop-i.i xs ≡ name ∷ drop (c.loop-i.i + 1) xs) c.items-items.ensures (names_at items c.loop-i.i name c.loop-i-test.true (subst (λ (x : List ℕ). get_or items c.loop-i.i x ≡ x) (sym c.as_slice.ensures) (sym c.index-items-i.is))) in
    let known = subst (λ (xs : List (List ℕ)). KnowsWay (view_of g.N.Nodes.fields (g.N.Sets.forest c.loop-i.n) (g.N.Sets.beside c.loop-i.n) (g.N.Nodes.told c.loop-i.n)) may c.args.pfs.0 l c.loop-i.number xs) at (inv.known may l has way) in
    c.in-Err.ensures.good may l left (alike_leaves inv.alike c.args.pfs.0 c.requires.pfs.has.stands l has) known

pub loop-i-preserved : goal.loop-i-preserved
loop-i-preserved g c =
    let inv = c.loop-i.invariant in
    let fields = g.N.Nodes.fields in
    let f = g.N.Sets.forest c.loop-i.n in
    let h = g.N.Sets.forest c.step.new.n in
    let now = g.N.Sets.beside c.step.new.n in
    let step = c.in-Ok.ensures in
    let name = c.as_slice.result.now in
    let items = c.items-items.result.now in
    let left = drop (c.loop-i.i + 1) c.args.names.now in
    let at : drop c.loop-i.i c.args.names.now ≡ name ∷ left = subst (λ (xs : List (List ℕ)). drop c.loop-i.i xs ≡ name ∷ drop (c.loop-i.i + 1) xs) c.items-items.ensures (names_at items c.loop-i.i name c.loop-i-test.true (subst (λ (x : List ℕ). get_or items c.loop-i.i x ≡ x) (sym c.as_slice.ensures) (sym c.index-items-i.is))) in
    let way = subst (λ (xs : List (List ℕ)). IsOnTheWay g.N.Nodes.fields (g.N.Sets.forest c.args.n.now) (g.N.Sets.forest c.loop-i.n) (g.N.Sets.beside c.loop-i.n) c.args.pfs.0 1 c.loop-i.number c.args.names.now xs) at c.loop-i.invariant.way in
    let stands = (inv.visits.stays c.args.pfs.0 c.requires.pfs.has.stands).place.stands in
    record {
      visits = visits_trans _ _ _ inv.visits step.visits;
      way = way_goes_on fields (g.N.Sets.forest c.args.n.now) f h (g.N.Sets.beside c.loop-i.n) now c.args.pfs.0 1 c.loop-i.number c.in-Ok.next name c.args.names.now left inv.visits.sound stands step.visits step.beside step.ends step.loads way;
      known = λ may l has way. step.onward may l left (alike_leaves inv.alike c.args.pfs.0 c.requires.pfs.has.stands l has) (subst (λ (xs : List (List ℕ)). KnowsWay (view_of g.N.Nodes.fields (g.N.Sets.forest c.loop-i.n) (g.N.Sets.beside c.loop-i.n) (g.N.Nodes.told c.loop-i.n)) may c.args.pfs.0 l c.loop-i.number xs) at (inv.known may l has way));
      agrees = λ may l has way.
          let so_far = subst (λ (xs : List (List ℕ)). AgreesOnTheWay (view_of g.N.Nodes.fields (g.N.Sets.forest c.args.n.now) (g.N.Sets.beside c.args.n.now) (g.N.Nodes.told c.args.n.now)) may c.args.pfs.0 l 1 c.loop-i.number c.args.names.now xs) at (inv.agrees may l has way) in
          agrees_next (view_of g.N.Nodes.fields (g.N.Sets.forest c.args.n.now) (g.N.Sets.beside c.args.n.now) (g.N.Nodes.told c.args.n.now)) may c.args.pfs.0 l 1 c.loop-i.number c.in-Ok.next name c.args.names.now left so_far (step.agrees (view_of g.N.Nodes.fields (g.N.Sets.forest c.args.n.now) (g.N.Sets.beside c.args.n.now) (g.N.Nodes.told c.args.n.now)) may l left inv.alike c.requires.pfs.has.stands has so_far.knows);
      alike = alike_trans inv.alike step.alike;
      beside = beside_visits _ _ _ _ _ _ inv.visits inv.beside step.beside;
      later = g.met.N.Sets.later_later _ _ _ inv.later step.later;
      none_met = MeetsNone-trans _ _ _ inv.none_met step.none_met;
    }

pub returns-clause-ends : goal.returns-clause-ends
returns-clause-ends g c =
    let f = g.N.Sets.forest c.loop-i.n in
    let now = g.N.Sets.beside c.loop-i.n in
    let inv = c.loop-i.invariant in
    let end : drop c.loop-i.i c.args.names.now ≡ [] = subst (λ (xs : List (List ℕ)). drop c.loop-i.i xs ≡ []) c.items-items.ensures (names_end c.items-items.result.now c.loop-i.i c.loop-i-test.false) in
    inv.way.ends f now (Ok c.loop-i.number) (visits_refl f inv.visits.sound) (beside_same f now)
    (subst (λ (xs : List (List ℕ)). Leads f (held_by g.N.Nodes.fields now) c.args.pfs.0 c.loop-i.number xs (Ok c.loop-i.number)) (sym end) arrived)

pub returns-clause-loads : goal.returns-clause-loads
returns-clause-loads g c =
    let f = g.N.Sets.forest c.loop-i.n in
    let now = g.N.Sets.beside c.loop-i.n in
    let inv = c.loop-i.invariant in
    inv.way.loads f now (visits_refl f inv.visits.sound) (beside_same f now) (no_loads f (held_by g.N.Nodes.fields now) c.args.pfs.0 c.loop-i.number (drop c.loop-i.i c.args.names.now))

pub returns-in-Err-clause-agrees : goal.returns-in-Err-clause-agrees
returns-in-Err-clause-agrees g c may l has way =
    let inv = c.loop-i.invariant in
    let was : View = view_of g.N.Nodes.fields (g.N.Sets.forest c.args.n.now) (g.N.Sets.beside c.args.n.now) (g.N.Nodes.told c.args.n.now) in
    let name = c.as_slice.result.now in
    let items = c.items-items.result.now in
    let left = drop (c.loop-i.i + 1) c.args.names.now in
    let at : drop c.loop-i.i c.args.names.now ≡ name ∷ left = subst (λ (xs : List (List ℕ)). drop c.loop-i.i xs ≡ name ∷ drop (c.loop-i.i + 1) xs) c.items-items.ensures (names_at items c.loop-i.i name c.loop-i-test.true (subst (λ (x : List ℕ). get_or items c.loop-i.i x ≡ x) (sym c.as_slice.ensures) (sym c.index-items-i.is))) in
    let so_far = subst (λ (xs : List (List ℕ)). AgreesOnTheWay was may c.args.pfs.0 l 1 c.loop-i.number c.args.names.now xs) at (inv.agrees may l has way) in
    agrees_err was may c.args.pfs.0 l 1 c.loop-i.number name c.args.names.now left c.in-Err.fault so_far (c.in-Err.ensures.agrees was may l left inv.alike c.requires.pfs.has.stands has so_far.knows)

pub returns-clause-agrees : goal.returns-clause-agrees
returns-clause-agrees g c may l has way =
    let was : View = view_of g.N.Nodes.fields (g.N.Sets.forest c.args.n.now) (g.N.Sets.beside c.args.n.now) (g.N.Nodes.told c.args.n.now) in
    let end : drop c.loop-i.i c.args.names.now ≡ [] = subst (λ (xs : List (List ℕ)). drop c.loop-i.i xs ≡ []) c.items-items.ensures (names_end c.items-items.result.now c.loop-i.i c.loop-i-test.false) in
    (c.loop-i.invariant.agrees may l has way).leads (Ok c.loop-i.number) (subst (λ (xs : List (List ℕ)). LeadsBy was may c.args.pfs.0 l c.loop-i.number xs (Ok c.loop-i.number)) (sym end) ended)

pub returns-in-Err-clause-met_only : goal.returns-in-Err-clause-met_only
returns-in-Err-clause-met_only g c = fault_met_after _ _ _ c.in-Err.fault c.loop-i.invariant.none_met c.in-Err.ensures.met_only
