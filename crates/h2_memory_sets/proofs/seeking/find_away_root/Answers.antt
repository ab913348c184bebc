use Rattle.std.proofs.Common.{◌≡◌, ◌-◌, ◌+◌, ◌<◌, true, false, arith, sym, ap, ◌∙◌, subst, inl, inr, length, slice_get}
use Rattle.std.proofs.lemmas.Bool.{cases_lt}
use Rattle.std.proofs.lemmas.Option.{slice_get_within}
use Rattle.h2_memory_sets.specs.Inodes.{IsSought}
use Rattle.h2_memory_sets.specs.View.{bits_of}
use Rattle.h2_memory_sets.proofs.seeking.find_away_root.Goals as goal

pub loop-i-preserved : goal.loop-i-preserved
loop-i-preserved c = λ kept j lt near l. elim (cases_lt (j + c.loop-i.i) (length c.args.nodes.now)) as (λ _. ⊥) [
  | inr ge ↦ c.loop-i.invariant kept j lt ge l
  | inl less ↦
      let xs = c.args.nodes.now in
      let same : j ≡ length xs - 1 - c.loop-i.i = omega (arith, near, less) in
      let bits : bits_of (slice_get xs j) ≡ 63 = ap bits_of l.read ∙ (kept.inode j l.node l.item l.read l.holds).bits in
      let few : bits_of (slice_get xs j) < 64 = omega (arith, bits) in
      let found = c.is_seekable.ensures.all (subst (λ k. bits_of (slice_get xs k) < 64) same few) (subst (IsSought xs c.args.root c.args.key) same l) in
      let clash : true ≡ false = sym found ∙ c.if-is_seekable.false in
      cc
]

pub returns-clause-none : goal.returns-clause-none
returns-clause-none c = λ kept k l.
    let lt = slice_get_within c.args.nodes.now k l.node l.read in
    let past = c.loop-i-test.false in
    c.loop-i.invariant kept k lt (omega (arith, lt, past)) l
