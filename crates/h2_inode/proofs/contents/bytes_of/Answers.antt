use Rattle.std.proofs.Common.{◌∙◌, sym, ap}
use Rattle.std.specs.Prelude.{slice_index}
use Rattle.h2_inode.proofs.contents.bytes_of.Goals as goal

pub returns-clause-bytes : goal.returns-clause-bytes
returns-clause-bytes c = λ k lt. sym (ap (λ p. p k) c.contents_of.ensures.bytes) ∙ sym (ap (λ l. slice_index l k) c.copy_from_slice.ensures.after)
