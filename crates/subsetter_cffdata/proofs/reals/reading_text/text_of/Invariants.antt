use Rattle.std.proofs.Common.{◌≡◌, drop, []}
use Rattle.subsetter_cffdata.specs.Reals.TextSteps.{shown, text_from}
use Rattle.subsetter_cffdata.proofs.reals.reading_text.text_of.Given as goal

-- what is left, after the text so far, is the whole
abbrev pub invariant-loop-i : goal.invariant-loop-i
invariant-loop-i l = text_from (shown l.text) (drop l.i l.bytes) ≡ text_from [] l.bytes
