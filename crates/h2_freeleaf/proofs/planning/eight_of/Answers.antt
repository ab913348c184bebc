use Rattle.std.proofs.Common.{◌≡◌, ◌<◌, ◌+◌, ◌*◌, ℕ, length, slice_index_or, ◌∙◌, arith, rules, length-set}
use Rattle.h2_ref.specs.declared.reference.Ref.{Ref}
use Rattle.h2_ref.specs.Ref.{empty_ref, IsValid}
use Rattle.h2_freeleaf.proofs.Parts.{fill_more}
use Rattle.h2_freeleaf.proofs.planning.eight_of.Goals as goal

pub loop-k-preserved : goal.loop-k-preserved
loop-k-preserved c =
    let h = c.loop-k.invariant in
    let size : length c.loop-k.eight ≡ 8 = h.size in
    let below : c.loop-k.k < 8 = c.loop-k-test.true in
    let inside : c.loop-k.k < length c.loop-k.eight = omega (arith, size, below) in
    record {
      size = length-set c.loop-k.eight c.loop-k.k c.ref_or_empty.result ∙ size;
      each = fill_more (λ (k : ℕ) (r : Ref). (r ≡ slice_index_or c.args.refs.now (8 * c.args.i + k) empty_ref) × IsValid r) c.loop-k.eight c.ref_or_empty.result c.loop-k.k inside h.each
          (c.ref_or_empty.ensures.is, c.ref_or_empty.ensures.valid);
    }

pub returns-clause-eight : goal.returns-clause-eight
returns-clause-eight c =
    let end : c.loop-k.k ≡ 8 = search rules in
    λ k d lt. (c.loop-k.invariant.each k d (omega (arith, end, lt))).0

pub returns-clause-valid : goal.returns-clause-valid
returns-clause-valid c =
    let end : c.loop-k.k ≡ 8 = search rules in
    let size : length c.loop-k.eight ≡ 8 = c.loop-k.invariant.size in
    λ k d lt. (c.loop-k.invariant.each k d (omega (arith, end, size, lt))).1
