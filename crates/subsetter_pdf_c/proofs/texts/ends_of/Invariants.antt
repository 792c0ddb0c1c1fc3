use Rattle.std.proofs.Common.{◌≡◌, ◌++◌, ◌-◌}
use Rattle.subsetter_pdf_c.specs.Texts.{one_each}
use Rattle.subsetter_pdf_c.proofs.texts.ends_of.Given as goal

abbrev pub invariant-loop-place : goal.invariant-loop-place
invariant-loop-place l = l.ends.items ++ one_each l.place (l.count - l.place) ≡ one_each 0 l.count
