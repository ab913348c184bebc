use Rattle.std.proofs.Common.{refl, ◌+◌, ◌∙◌, ap, cond}
use Rattle.h2_script.proofs.Counting.{counted_more, one_too_many}
use Rattle.h2_script.proofs.counts.Counts.with.Goals as goal

pub returns-then-not-is_few : goal.returns-then-not-is_few
returns-then-not-is_few c = λ before are. one_too_many before c.args.command.now c.args.self (record { commands = c.args.self.commands + 1; lists = c.one_more.result; passes = c.one_more-2.result; bytes = c.args.self.bytes + c.asked.result }) are
    (record { all = refl; lists = c.one_more.ensures ∙ ap (λ b. c.args.self.lists + cond b 1 0) c.is_list.ensures; passes = c.one_more-2.ensures ∙ ap (λ b. c.args.self.passes + cond b 1 0) c.is_bulkfree.ensures; bytes = ap (λ n. c.args.self.bytes + n) c.asked.ensures })
    (λ fit. let holds = c.is_few.ensures.1 fit in let no = c.if-not-is_few.true in cc)

pub returns : goal.returns
returns c = λ before are. counted_more before c.args.command.now c.args.self (record { commands = c.args.self.commands + 1; lists = c.one_more.result; passes = c.one_more-2.result; bytes = c.args.self.bytes + c.asked.result }) are
    (record { all = refl; lists = c.one_more.ensures ∙ ap (λ b. c.args.self.lists + cond b 1 0) c.is_list.ensures; passes = c.one_more-2.ensures ∙ ap (λ b. c.args.self.passes + cond b 1 0) c.is_bulkfree.ensures; bytes = ap (λ n. c.args.self.bytes + n) c.asked.ensures })
    (c.if-not-is_few.ensures.0 refl)
