use Rattle.std.proofs.Common.{ap, arith, map, refl, sym, subst}
use Rattle.h2_memory_sets.proofs.Nodes.{readies_nodes}
use Rattle.h2_memory_sets.specs.LaterLaws.{blocks_refl, fails_still, spoils_still, goes_on_refl}
use Rattle.h2_memory_sets.specs.Later.{KeepsBlocks}
use Rattle.h2_memory_sets.specs.View.{block}
use Rattle.h2_memory_sets.proofs.Counted.{stays_all}
use Rattle.h2_memory_sets.proofs.Going.{not_due}
use Rattle.h2_memory_sets.proofs.sets.MemorySetsSets.ready.Goals as goal

pub returns-in-Ok-clause-same : goal.returns-in-Ok-clause-same
returns-in-Ok-clause-same c =
    let p = c.args.self.now in
    readies_nodes p.nodes.items c.reserve.new.self.items p.spare c.args.n p.epoch p.room p.failed p.bad p.met c.reserve.ensures.items (let less = c.if-n-self.false in omega (arith, less)) c.requires.sound

pub returns-in-Err-clause-same : goal.returns-in-Err-clause-same
returns-in-Err-clause-same c =
    let p = c.args.self.now in
    readies_nodes p.nodes.items c.reserve.new.self.items p.spare p.spare p.epoch p.room p.failed p.bad p.met c.reserve.ensures.items (omega arith) c.requires.sound

pub returns-then-is_due-clause-same : goal.returns-then-is_due-clause-same
returns-then-is_due-clause-same c =
    let p = c.args.self.now in
    readies_nodes p.nodes.items p.nodes.items p.spare p.spare p.epoch p.room p.failed p.bad p.met refl (omega arith) c.requires.sound

pub returns-in-Ok-clause-later : goal.returns-in-Ok-clause-later
returns-in-Ok-clause-later c = record {
  names = λ place len. refl;
  blocks = subst (KeepsBlocks c.args.self.now.nodes.items) (sym c.reserve.ensures.items) (blocks_refl _);
  fails = fails_still _ _;
  spoils = spoils_still _ _;
  refuses = (let counts = c.is_due.ensures.counts in omega (arith, counts));
}

pub returns-in-Err-clause-later : goal.returns-in-Err-clause-later
returns-in-Err-clause-later c = record {
  names = λ place len. refl;
  blocks = subst (KeepsBlocks c.args.self.now.nodes.items) (sym c.reserve.ensures.items) (blocks_refl _);
  fails = fails_still _ _;
  spoils = spoils_still _ _;
  refuses = (let counts = c.is_due.ensures.counts in omega (arith, counts));
}

pub returns-then-is_due-clause-later : goal.returns-then-is_due-clause-later
returns-then-is_due-clause-later c = record {
  names = λ place len. refl;
  blocks = blocks_refl _;
  fails = fails_still _ _;
  spoils = spoils_still _ _;
  refuses = (let counts = c.is_due.ensures.counts in omega (arith, counts));
}

pub returns-then-n-self-clause-later : goal.returns-then-n-self-clause-later
returns-then-n-self-clause-later c = goes_on_refl _

pub returns-then-len-n-clause-later : goal.returns-then-len-n-clause-later
returns-then-len-n-clause-later c = record {
  names = λ place len. refl;
  blocks = blocks_refl _;
  fails = fails_still _ _;
  spoils = spoils_still _ _;
  refuses = (let counts = c.is_due.ensures.counts in omega (arith, counts));
}

-- What is counted

pub returns-then-n-self-clause-uncounted : goal.returns-then-n-self-clause-uncounted
returns-then-n-self-clause-uncounted c = λ le. stays_all c.args.self.now

pub returns-then-is_due-clause-uncounted : goal.returns-then-is_due-clause-uncounted
returns-then-is_due-clause-uncounted c = λ le. let less = c.if-n-self.false in absurd (omega (arith, less, le))

pub returns-then-len-n-clause-uncounted : goal.returns-then-len-n-clause-uncounted
returns-then-len-n-clause-uncounted c = λ le. let less = c.if-n-self.false in absurd (omega (arith, less, le))

pub returns-in-Ok-clause-uncounted : goal.returns-in-Ok-clause-uncounted
returns-in-Ok-clause-uncounted c = λ le. let less = c.if-n-self.false in absurd (omega (arith, less, le))

pub returns-in-Err-clause-uncounted : goal.returns-in-Err-clause-uncounted
returns-in-Err-clause-uncounted c = λ le. let less = c.if-n-self.false in absurd (omega (arith, less, le))

pub returns-then-n-self-clause-counted : goal.returns-then-n-self-clause-counted
returns-then-n-self-clause-counted c = λ less. let le = c.if-n-self.true in absurd (omega (arith, less, le))

pub returns-then-is_due-clause-counted : goal.returns-then-is_due-clause-counted
returns-then-is_due-clause-counted c = λ less. c.is_due.ensures.counts

pub returns-then-len-n-clause-counted : goal.returns-then-len-n-clause-counted
returns-then-len-n-clause-counted c = λ less. c.is_due.ensures.counts

pub returns-in-Ok-clause-counted : goal.returns-in-Ok-clause-counted
returns-in-Ok-clause-counted c = λ less. c.is_due.ensures.counts

pub returns-in-Err-clause-counted : goal.returns-in-Err-clause-counted
returns-in-Err-clause-counted c = λ less. c.is_due.ensures.counts

pub returns-then-n-self-clause-refused : goal.returns-then-n-self-clause-refused
returns-then-n-self-clause-refused c = λ less due. let le = c.if-n-self.true in absurd (omega (arith, less, le))

pub returns-in-Ok-clause-refused : goal.returns-in-Ok-clause-refused
returns-in-Ok-clause-refused c = λ less due. absurd (not_due _ _ c.is_due.ensures.due c.if-is_due.false due)

pub returns-in-Ok-clause-blocks : goal.returns-in-Ok-clause-blocks
returns-in-Ok-clause-blocks c = ap (map block) c.reserve.ensures.items

pub returns-in-Err-clause-blocks : goal.returns-in-Err-clause-blocks
returns-in-Err-clause-blocks c = ap (map block) c.reserve.ensures.items
