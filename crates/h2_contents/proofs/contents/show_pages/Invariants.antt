use Rattle.h2_contents.specs.Pages.{IsShownTo}
use Rattle.h2_contents.proofs.contents.show_pages.Given as goal

abbrev pub invariant-loop-number : goal.invariant-loop-number
invariant-loop-number l = IsShownTo l.pages l.number l.start l.window
