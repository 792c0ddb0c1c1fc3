use Rattle.std.proofs.Common.{◌≡◌, [], List, ◌++◌, drop, sym, ap, ◌∙◌, append-nil, arith}
use Rattle.pdf_text.specs.Cmaps.Encoding.{Pair}
use Rattle.pdf_text.specs.View.{pairs_view}
use Rattle.pdf_codes.specs.Cmaps.Leading.{zipped}
use Rattle.pdf_codes.proofs.CmapsLaws.LeadingSteps.{zipped_end}
use Rattle.pdf_codes.proofs.cmaps.leading.pairs_with.Goals as goal

pub returns-clause-ok : goal.returns-clause-ok
returns-clause-ok c =
    let ended : zipped (drop c.loop-place.place c.args.codes.now) (drop c.loop-place.place c.args.cids.now) ≡ [] = zipped_end c.loop-place.place c.args.codes.now c.args.cids.now (omega (arith, c.min-place-end.ensures, c.loop-place-test.false)) in
    sym (append-nil (pairs_view c.loop-place.pairs.items)) ∙ ap (λ (l : List Pair). pairs_view c.loop-place.pairs.items ++ l) (sym ended) ∙ c.loop-place.invariant
