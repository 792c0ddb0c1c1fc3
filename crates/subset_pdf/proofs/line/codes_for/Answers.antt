use Rattle.std.proofs.Common.{◌∙◌}
use Rattle.std.proofs.lemmas.Result.{err_from_is_err_and}
use Rattle.pdf_runs.specs.Pieces.{pieces_of_run}
use Rattle.subset_pdf.proofs.Lines.{never_overfull, pairs_stay}
use Rattle.subset_pdf.proofs.line.codes_for.Goals as goal

pub returns-in_err-codes-clause-err : goal.returns-in_err-codes-clause-err
returns-in_err-codes-clause-err c =
    let p = err_from_is_err_and c.from_residual-in_err-codes.result c.from_residual-in_err-codes.ensures.1 in
    rw (p.1, p.2) (never_overfull c.args.pairs.now c.codes_of.new.pairs (pieces_of_run c.args.direction c.args.font.inked.now c.args.items.now) c.deref.result.now c.in_err-codes.field-0.0 (c.deref.ensures.value ∙ c.in_ok-pieces.ensures.ok) c.requires.coded c.requires.few c.in_err-codes.ensures.err)

pub returns-clause-stay : goal.returns-clause-stay
returns-clause-stay c = pairs_stay c.args.pairs.now c.codes_of.new.pairs (pieces_of_run c.args.direction c.args.font.inked.now c.args.items.now) c.deref.result.now (c.deref.ensures.value ∙ c.in_ok-pieces.ensures.ok) c.requires.coded c.in_ok-codes.ensures.pairs
