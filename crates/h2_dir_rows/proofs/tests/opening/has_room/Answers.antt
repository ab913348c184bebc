use Rattle.h2_dir_rows.proofs.tests.opening.has_room.Goals as goal

pub returns : goal.returns
returns c is =
    let refs = c.has_place.ensures.refs is in
    record { inode = c.inode.result.now; has = c.inode.ensures; kind = c.has_place.ensures.kind is; refs = record { set = refs.0; body_is = refs.1 }; few = c.has_place.ensures.few is }
