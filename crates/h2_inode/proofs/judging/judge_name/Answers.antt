use Rattle.std.proofs.Common.{arith, subst}
use Rattle.h2_num.specs.Places.{places}
use Rattle.h2_dirkey.specs.Key.{IsNameUnder}
use Rattle.h2_dirkey.specs.Block.{NameBytes}
use Rattle.h2_inode.specs.Cause.IsNameCause.{no_name}
use Rattle.h2_inode.proofs.Judged.{same_name}
use Rattle.h2_inode.proofs.judging.judge_name.Goals as goal

pub returns-then-not-is_key_of : goal.returns-then-not-is_key_of
returns-then-not-is_key_of c = no_name (λ name there.
    let same = same_name c.args.r.now c.args.b.now c.name_in-name.result.now name c.name_len.result c.name_len.ensures c.name_in-name.ensures (omega arith) c.told-b there in
    let yes = c.is_key_of.ensures.1 (subst (IsNameUnder c.args.r.now.key) same there.under) in
    let no = c.if-not-is_key_of.true in
    cc)

pub returns-then-not-name_matches : goal.returns-then-not-name_matches
returns-then-not-name_matches c = no_name (λ name there.
    let same = same_name c.args.r.now c.args.b.now c.name_in-name.result.now name c.name_len.result c.name_len.ensures c.name_in-name.ensures (omega arith) c.told-b there in
    let yes = c.name_matches.ensures.1 (subst (λ n. NameBytes n (places c.args.b.now)) same there.bytes) in
    let no = c.if-not-name_matches.true in
    cc)
