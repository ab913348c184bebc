use Rattle.h2_script.proofs.OneText.{one_text}
use Rattle.h2_script.proofs.printing.text_law.Goals as goal

pub returns : goal.returns
returns c = one_text
