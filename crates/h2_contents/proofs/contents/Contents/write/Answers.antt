use Rattle.std.proofs.Common.{◌≡◌, ap, ◌∙◌, ◌+◌, ◌*◌, ◌/◌, ◌≤◌, ◌<◌, arith, length}
use Rattle.std.specs.Prelude.{max}
use Rattle.h2_contents.specs.Bytes.{written_at}
use Rattle.h2_contents.specs.Payload.{payload_bytes}
use Rattle.h2_contents.specs.PageLaws.{file_written, kept_written, written_from_first}
use Rattle.h2_contents.proofs.contents.Contents.write.Goals as goal

pub invariant_of-self-2 : goal.invariant_of-self-2
invariant_of-self-2 c =
    let first : c.args.off / 16384 * 16384 ≤ c.args.off = omega arith in
    let end : c.max-self-inside.result ≡ max c.self.inside.size (c.args.off + length (payload_bytes c.args.payload.now)) = c.max-self-inside.ensures ∙ ap (λ n. max c.self.inside.size (c.args.off + n)) c.len-len.ensures in
    let small = c.self.invariant.small in let room = c.requires.within in
    kept_written c.self.inside.pages c.write_from.new.pages c.self.inside.size c.args.off c.max-self-inside.result (payload_bytes c.args.payload.now) c.self.invariant
    (written_from_first (c.args.off / 16384) c.args.off (payload_bytes c.args.payload.now) c.self.inside.pages c.write_from.new.pages first c.in_ok-write_from.ensures.ok) end (omega arith)

pub returns-clause-ok : goal.returns-clause-ok
returns-clause-ok c =
    let first : c.args.off / 16384 * 16384 ≤ c.args.off = omega arith in
    let end : c.max-self-inside.result ≡ max c.self.inside.size (c.args.off + length (payload_bytes c.args.payload.now)) = c.max-self-inside.ensures ∙ ap (λ n. max c.self.inside.size (c.args.off + n)) c.len-len.ensures in
    let some : 0 < length (payload_bytes c.args.payload.now) = omega (arith, c.len-len.ensures, c.if-len-eq0) in
    file_written c.self.inside.pages c.write_from.new.pages c.self.inside.size c.args.off c.max-self-inside.result (payload_bytes c.args.payload.now) some c.self.invariant
    (written_from_first (c.args.off / 16384) c.args.off (payload_bytes c.args.payload.now) c.self.inside.pages c.write_from.new.pages first c.in_ok-write_from.ensures.ok) end
    ∙ ap (λ bytes. written_at bytes c.args.off (payload_bytes c.args.payload.now)) c.self.view_is
