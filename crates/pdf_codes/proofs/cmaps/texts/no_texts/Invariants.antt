use Rattle.std.proofs.Common.{◌≡◌, replicate, []}
use Rattle.subsetter_base.specs.Texts.{views}
use Rattle.pdf_codes.proofs.cmaps.texts.no_texts.Given as goal

abbrev pub invariant-loop-place : goal.invariant-loop-place
invariant-loop-place l = views l.texts.items ≡ replicate l.place []
