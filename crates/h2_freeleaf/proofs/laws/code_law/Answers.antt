use Rattle.h2_freeleaf.specs.ChunkCodeLaws.{code_among, code_one}
use Rattle.h2_freeleaf.proofs.laws.code_law.Goals as goal

pub returns : goal.returns
returns c = record {
  one_code = λ image h chunk x y. code_one c.layout_law.ensures.one_segment image h chunk x y;
  in_list = λ image h s chunk. code_among image h s chunk;
  planned = λ image h s writes plan count stand. record { count = count; mapped = plan.mapped image stand };
}
