use Rattle.h2_freeleaf.specs.InImageLaws.{codes_one, codes_same}
use Rattle.h2_freeleaf.specs.FirstBadLaws.{first_bad-none, one_first_bad}
use Rattle.h2_freeleaf.proofs.laws.map_law.Goals as goal

pub returns : goal.returns
returns c = record {
  one_list = λ image h s t. codes_one c.layout_law.ensures.one_segment image h s t;
  local = λ h s a b. codes_same h s a b;
  no_codes = λ image h s f. first_bad-none image h s f;
  one_fault = one_first_bad;
}
