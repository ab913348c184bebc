use Rattle.h2_codes.proofs.Bits.{marks_free, marks_reserved, marks_staged, marks_used}
use Rattle.h2_codes.proofs.word.marks.Goals as goal

pub returns-in-Free : goal.returns-in-Free
returns-in-Free c = rw c.in-Free.is (marks_free c.args.word)

pub returns-in-Reserved : goal.returns-in-Reserved
returns-in-Reserved c = rw c.in-Reserved.is (marks_reserved c.args.word)

pub returns-in-Staged : goal.returns-in-Staged
returns-in-Staged c = rw c.in-Staged.is (marks_staged c.args.word)

pub returns-in-Used : goal.returns-in-Used
returns-in-Used c = rw c.in-Used.is (marks_used c.args.word)
