use Rattle.std.proofs.Common.{length}
use Rattle.h2_num.specs.Places.{places}
use Rattle.h2_inode.specs.CauseLaws.{cause_refuses}
use Rattle.h2_inode.proofs.Judged.{exactly, cause_found, why_found, check_found, has_it}
use Rattle.h2_inode.proofs.judging.judge.Goals as goal

pub returns-then-not-has_check-clause-why : goal.returns-then-not-has_check-clause-why
returns-then-not-has_check-clause-why c =
    check_found c.args.r.now (length c.args.b.now) (places c.args.b.now) c.check_of-got.result c.requires.size c.check_of-got.ensures
    (λ is. let yes = c.has_check.ensures.1 is in let no = c.if-not-has_check.true in cc)

pub returns-clause-passes : goal.returns-clause-passes
returns-clause-passes c =
    exactly c.judge_spelling.result c.args.r.now (places c.args.b.now)
    (cause_found c.judge_spelling.result c.args.r.now (places c.args.b.now) (has_it c.args.r.now (length c.args.b.now) (places c.args.b.now) c.check_of-got.result c.requires.size c.check_of-got.ensures (c.has_check.ensures.0 c.if-not-has_check.false)) c.judge_spelling.ensures)
    (λ why cause passes. cause_refuses c.args.r.now (places c.args.b.now) why c.requires.valid c.requires.block cause passes)

pub returns-clause-why : goal.returns-clause-why
returns-clause-why c =
    why_found c.judge_spelling.result c.args.r.now (places c.args.b.now)
    (cause_found c.judge_spelling.result c.args.r.now (places c.args.b.now) (has_it c.args.r.now (length c.args.b.now) (places c.args.b.now) c.check_of-got.result c.requires.size c.check_of-got.ensures (c.has_check.ensures.0 c.if-not-has_check.false)) c.judge_spelling.ensures)
