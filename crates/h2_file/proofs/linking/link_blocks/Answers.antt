use Rattle.std.proofs.Common.{◌∙◌, arith, ap, refl, length}
use Rattle.h2_inode.specs.Inode.{keys_from}
use Rattle.h2_inode.specs.Block.{refs_of_body}
use Rattle.h2_inode.specs.Nodes.{held_by}
use Rattle.h2_inode.specs.NodeLaws.{no_leaves}
use Rattle.h2_inode.specs.NamesOneLaws.{rootless_one, walks_one}
use Rattle.h2_file.proofs.Sized.{file_contents, kept_file, kept_resized}
use Rattle.h2_file.proofs.Chained.{run_few}
use Rattle.h2_file.proofs.Linked.{file_kept, inode_kept, links_file, linked_inode, linked_beside, opened_stands, opened_from, put_from}
use Rattle.h2_file.proofs.Loaded.{loaded_on}
use Rattle.h2_file.proofs.LinkHeld.{link_has, link_lifted}
use Rattle.h2_file.proofs.Others.{linked_others}
use Rattle.h2_set.specs.MetLaws.{MeetsNone-trans}
use Rattle.h2_file.proofs.linking.link_blocks.Goals as goal

pub prepare-requires-clause-few : goal.prepare-requires-clause-few
prepare-requires-clause-few g c = run_few c.requires.blocks.run

pub open_body-requires-clause-file : goal.open_body-requires-clause-file
open_body-requires-clause-file g c =
    let ready = c.in_ok-prepare.ensures in
    let stands = c.requires.file.has.stands in
    file_kept g.N.Nodes.fields _ _ _ _ c.args.inode.0 (ready.prepares.stays c.args.inode.0 stands).place ready.prepares.fixed ready.beside (ready.prepares.sets c.args.inode.0 stands) c.requires.file

pub put_blocks-requires-clause-sound : goal.put_blocks-requires-clause-sound
put_blocks-requires-clause-sound g c =
    (opened_from c.requires.file.has.stands c.requires.file.has.root c.in_ok-prepare.ensures.prepares c.open_body.ensures.opens).sound

pub put_blocks-requires-clause-root : goal.put_blocks-requires-clause-root
put_blocks-requires-clause-root g c = let file = c.open_body.ensures.file in (file.has.stands, file.has.root, file.has.tree.low ∙ ap keys_from file.kind)

pub put_blocks-requires-clause-contents : goal.put_blocks-requires-clause-contents
put_blocks-requires-clause-contents g c = file_contents _ _ _ c.open_body.ensures.file

pub put_blocks-requires-clause-room : goal.put_blocks-requires-clause-room
put_blocks-requires-clause-room g c =
    let ready = c.in_ok-prepare.ensures in
    let opened = opened_from c.requires.file.has.stands c.requires.file.has.root ready.prepares c.open_body.ensures.opens in
    omega (arith, opened.room, ready.prepares.room, c.requires.room)

pub put_blocks-requires-clause-spare : goal.put_blocks-requires-clause-spare
put_blocks-requires-clause-spare g c =
    let ready = c.in_ok-prepare.ensures in
    let opened = opened_from c.requires.file.has.stands c.requires.file.has.root ready.prepares c.open_body.ensures.opens in
    omega (arith, opened.spare, ready.spare)

pub put_blocks-requires-clause-loaded : goal.put_blocks-requires-clause-loaded
put_blocks-requires-clause-loaded g c =
    let ready = c.in_ok-prepare.ensures in
    let opened = opened_from c.requires.file.has.stands c.requires.file.has.root ready.prepares c.open_body.ensures.opens in
    loaded_on _ _ _ _ opened.paths ready.loaded

pub set_size-requires-clause-sound : goal.set_size-requires-clause-sound
set_size-requires-clause-sound g c = (put_from c.requires.file.has.stands c.requires.file.has.root c.in_ok-prepare.ensures.prepares c.open_body.ensures.opens c.put_blocks.ensures.puts).sound

pub set_size-requires-clause-file : goal.set_size-requires-clause-file
set_size-requires-clause-file g c =
    let all = put_from c.requires.file.has.stands c.requires.file.has.root c.in_ok-prepare.ensures.prepares c.open_body.ensures.opens c.put_blocks.ensures.puts in
    kept_file g.N.Nodes.fields _ _ _ _ _ c.args.size all.place all.fixed c.put_blocks.ensures.beside c.open_body.ensures.file

pub set_size-requires-clause-writable : goal.set_size-requires-clause-writable
set_size-requires-clause-writable g c =
    let ready = c.in_ok-prepare.ensures in
    let opened = opened_from c.requires.file.has.stands c.requires.file.has.root ready.prepares c.open_body.ensures.opens in
    let all = put_from c.requires.file.has.stands c.requires.file.has.root c.in_ok-prepare.ensures.prepares c.open_body.ensures.opens c.put_blocks.ensures.puts in
    all.place.writable opened.writable

pub returns-clause-links : goal.returns-clause-links
returns-clause-links g c =
    let ready = c.in_ok-prepare.ensures in
    links_file _ _ _ _ _ _ _ c.requires.sound c.requires.file.has.stands c.requires.file.has.root ready.prepares ready.touched ready.apart ready.loaded ready.spare ready.made c.open_body.ensures.opens c.put_blocks.ensures.puts c.set_size.ensures.sizes c.requires.blocks (file_contents _ _ _ c.open_body.ensures.file)

pub returns-clause-contents : goal.returns-clause-contents
returns-clause-contents g c = λ blocks old bytes new has is. link_has _ _ _ _ _ _ blocks _ old c.args.size _ bytes new c.requires.blocks (returns-clause-links g c) is c.requires.sound c.requires.file.has.stands c.requires.file.has.root has

pub returns-clause-inode : goal.returns-clause-inode
returns-clause-inode g c = λ i has.
    let ready = c.in_ok-prepare.ensures in
    let stands = c.requires.file.has.stands in
    let file = c.open_body.ensures.file in
    let all = put_from c.requires.file.has.stands c.requires.file.has.root c.in_ok-prepare.ensures.prepares c.open_body.ensures.opens c.put_blocks.ensures.puts in
    let in_walked = inode_kept g.N.Nodes.fields _ _ _ _ c.args.inode.0 (ready.prepares.stays c.args.inode.0 stands).place ready.prepares.fixed ready.beside (ready.prepares.sets c.args.inode.0 stands) i has in
    let opened = c.open_body.ensures.inode i in_walked in
    let now = kept_resized g.N.Nodes.fields _ _ _ _ _ c.args.size all.place all.fixed c.put_blocks.ensures.beside _ _ file (c.set_size.ensures.inode (kept_file g.N.Nodes.fields _ _ _ _ _ c.args.size all.place all.fixed c.put_blocks.ensures.beside file)) in
    linked_inode _ _ _ _ _ i i.size c.args.size file opened now

pub returns-clause-beside : goal.returns-clause-beside
returns-clause-beside g c =
    let ready = c.in_ok-prepare.ensures in
    linked_beside _ _ _ _ _ c.args.inode.0 _ _ _ _ _ (λ m st. (ready.prepares.stays m st).place.stands) (λ m st. opened_stands c.requires.file.has.stands c.requires.file.has.root ready.prepares c.open_body.ensures.opens m st) c.set_size.ensures.sizes.none_new ready.beside c.open_body.ensures.beside c.put_blocks.ensures.beside c.set_size.ensures.beside

pub returns-clause-later : goal.returns-clause-later
returns-clause-later g c = g.met.N.Sets.later_later _ _ _ (g.met.N.Sets.later_later _ _ _ (g.met.N.Sets.later_later _ _ _ c.in_ok-prepare.ensures.later c.open_body.ensures.later) c.put_blocks.ensures.later) c.set_size.ensures.later

pub returns-clause-others : goal.returns-clause-others
returns-clause-others g c = linked_others g.N.Nodes.fields _ _ c.args.inode.0 c.args.refs.now _ _ _ _ c.requires.sound c.requires.file.has.stands c.requires.file.has.root (returns-clause-links g c) (returns-clause-beside g c)

pub returns-clause-lifted : goal.returns-clause-lifted
returns-clause-lifted g c = λ blocks i body bytes new has is embeds covers puts.
    link_lifted _ _ (held_by g.N.Nodes.fields (g.N.Sets.beside c.args.n.now)) _ (g.N.Nodes.told c.args.n.now) _ blocks _ (length bytes) c.args.size _ bytes new c.requires.blocks (returns-clause-links g c) puts c.requires.sound has.stands has.root (no_leaves _ _ _ i has (ap refs_of_body is)) covers refl

pub returns-in_err-prepare-clause-one : goal.returns-in_err-prepare-clause-one
returns-in_err-prepare-clause-one g c names = walks_one _ _ names c.in_err-prepare.ensures.walks

pub returns-clause-one : goal.returns-clause-one
returns-clause-one g c names = let links = returns-clause-links g c in rootless_one _ _ names links.sound links.roots (λ m stood now. links.still m stood)

pub returns-clause-none_met : goal.returns-clause-none_met
returns-clause-none_met g c = MeetsNone-trans _ _ _ (MeetsNone-trans _ _ _ (MeetsNone-trans _ _ _ c.in_ok-prepare.ensures.none_met c.open_body.ensures.none_met) c.put_blocks.ensures.none_met) c.set_size.ensures.none_met
