use Rattle.std.proofs.Common.{◌≡◌, ◌<◌, arith}
use Rattle.h2_ref.specs.declared.reference.Ref.{Ref}
use Rattle.h2_file.specs.Linking.{blocks}
use Rattle.h2_file_rows.proofs.Blocks.{none_run, behind}
use Rattle.h2_file_rows.proofs.tests.blocks.is_run.Goals as goal

pub returns-in_default : goal.returns-in_default
returns-in_default c = λ _. none_run _ c.in_default.ensures.cases

pub returns-then-are_consecutive : goal.returns-then-are_consecutive
returns-then-are_consecutive c =
    let r : Ref = c.in-Some.r.now in
    λ _. blocks r.key (c.are_consecutive.ensures.follow c.if-are_consecutive.true) (c.are_consecutive.ensures.few c.if-are_consecutive.true)

pub returns : goal.returns
returns c =
    let r : Ref = c.in-Some.r.now in
    let next : Ref = c.in-Some-split_first.next.now in
    let at_zero : r.key ≡ 0 = c.if-r-ne0.false in
    let some : 0 < next.key = omega (arith, c.if-next-eq0.false) in
    λ ok. behind c.args.refs.now c.in-Some.rest.now r next.key c.in-Some.ensures.cases.0 at_zero some (c.are_consecutive-2.ensures.follow ok) (c.are_consecutive-2.ensures.few ok)
