use Rattle.std.proofs.Common.{◌∙◌, get_or, None, sym, ap, arith}
use Rattle.std.proofs.lemmas.Option.{slice_get-get_or}
use Rattle.subsetter_cffdata.specs.Views.{operator_of}
use Rattle.subsetter_cff.specs.declared.read.entries.first_entries.Cell.{Cell}
use Rattle.subsetter_cff.proofs.ReadLaws.EntriesLaws.FirstCells as cells
use Rattle.subsetter_cff.proofs.read.entries.first_entries.entry_cell.Goals as goal

pub returns-in-Some : goal.returns-in-Some
returns-in-Some g c = λ bytes at operands all inside is bare one.
    cells.said_here (g.S.Search.saying c.args.search.now) bytes at c.args.entry operands c.in-Some.value inside (omega (arith, all.len, c.requires)) is bare
    (ap (g.S.Search.saying c.args.search.now (operator_of c.args.entry.operator)) (sym one) ∙ sym c.in-Some.ensures)

pub returns-in-None : goal.returns-in-None
returns-in-None g c = λ bytes at operands all inside is bare one.
    let nothing : Cell = record { here = None; found = None } in
    let following : Cell = get_or c.args.cells.now c.args.entry.left nothing in
    cells.said_after (g.S.Search.saying c.args.search.now) bytes at c.args.entry operands following inside (omega (arith, all.len, c.requires)) is bare
    (ap (g.S.Search.saying c.args.search.now (operator_of c.args.entry.operator)) (sym one) ∙ sym c.in-None.ensures)
    (all.each c.args.entry.left following (slice_get-get_or c.args.cells.now c.args.entry.left nothing c.requires))
