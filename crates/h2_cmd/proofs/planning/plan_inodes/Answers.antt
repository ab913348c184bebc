use Rattle.std.proofs.Common.{List, [], ◌∷◌, ◌++◌, ℕ, ap, ◌∙◌, subst, rules}
use Rattle.h2_num.specs.Places.{places}
use Rattle.h2_ref.specs.declared.reference.Ref.{Ref}
use Rattle.h2_checkpoint.specs.declared.piece.Piece.{Piece}
use Rattle.h2_image.specs.NewBlocks.{RootPfsBytes}
use Rattle.h2_image.specs.NewVolume.{inode_ref}
use Rattle.h2_cmd.proofs.Planned.{inodes_planned, two_pieces}
use Rattle.h2_cmd.proofs.planning.plan_inodes.Goals as goal

pub returns : goal.returns
returns c =
    let directory_bytes : List ℕ = c.root_directory_block-directory.result in
    let pfs_bytes : List ℕ = c.root_pfs_block-pfs.result in
    let directory : Piece = record { at = c.args.blocks.now.directory.place; bytes = directory_bytes } in
    let pfs : Piece = record { at = c.args.blocks.now.pfs.place; bytes = pfs_bytes } in (
      directory_bytes,
      pfs_bytes,
      inodes_planned c.args.blocks.now.directory.place directory_bytes pfs_bytes c.requires.directory (search rules) (search rules) c.root_directory_block-directory.ensures
          (subst (λ (r : Ref). RootPfsBytes r (places pfs_bytes)) c.make_inode_ref-directory_ref.ensures c.root_pfs_block-pfs.ensures),
      two_pieces c.push_block-2.new.pieces.items c.args.blocks.now.directory.place c.args.blocks.now.pfs.place directory_bytes pfs_bytes c.requires.directory c.requires.pfs
          (c.in_ok-push_block-2.ensures ∙ ap (λ (l : List Piece). l ++ pfs ∷ []) (c.in_ok-push_block.ensures ∙ ap (λ (l : List Piece). l ++ directory ∷ []) c.requires.none)),
      c.make_inode_ref.ensures ∙ ap (λ (x : ℕ). inode_ref x (places pfs_bytes)) c.requires.pfs,
    )
