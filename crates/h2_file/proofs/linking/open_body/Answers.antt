use Rattle.std.proofs.Common.{◌∙◌, ap, subst}
use Rattle.h2_inode.specs.Nodes.{set_of, Replaces}
use Rattle.h2_file.specs.Linking.{body_of_refs, body_of_bytes}
use Rattle.h2_file.proofs.Altered.{own_set, altered_place}
use Rattle.h2_file.proofs.Linked.{inode_kept}
use Rattle.h2_file.proofs.linking.open_body.Goals as goal

pub inode-requires : goal.inode-requires
inode-requires g c =
    let file = c.requires.file in
    let alters = c.alter.ensures.alters in
    (file.inode, inode_kept g.N.Nodes.fields _ _ _ _ c.args.at.0 (altered_place _ _ c.args.at.0 alters c.args.at.0 file.has.stands) alters.fixed c.alter.ensures.beside (own_set _ _ c.args.at.0 c.requires.sound file.has.stands alters) file.inode file.has)

pub returns-then-has_refs-clause-opens : goal.returns-then-has_refs-clause-opens
returns-then-has_refs-clause-opens g c = body_of_refs c.alter.ensures.alters

pub returns-clause-opens : goal.returns-clause-opens
returns-clause-opens g c =
    let was = c.has_refs.ensures.no c.if-has_refs.false in
    let bare = c.inode.ensures.set ∙ ap set_of was.1 in
    let now = ap set_of c.resized-emptied.ensures.body ∙ c.new.ensures in
    body_of_bytes c.alter.ensures.alters bare (subst (Replaces (g.N.Sets.forest c.alter.new.self) (g.N.Sets.forest c.set_inode.new.self) c.args.at.0) now c.set_inode.ensures.replaces)

pub returns-then-has_refs-clause-none_met : goal.returns-then-has_refs-clause-none_met
returns-then-has_refs-clause-none_met g c = record { failed = c.alter.ensures.alters.failed; bad = c.alter.ensures.alters.bad; met = c.alter.ensures.alters.met }

pub returns-clause-none_met : goal.returns-clause-none_met
returns-clause-none_met g c = record { failed = c.set_inode.ensures.replaces.failed ∙ c.alter.ensures.alters.failed; bad = c.set_inode.ensures.replaces.bad ∙ c.alter.ensures.alters.bad; met = c.set_inode.ensures.replaces.met ∙ c.alter.ensures.alters.met }
