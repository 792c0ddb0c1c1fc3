use Rattle.std.proofs.Common.{◌∙◌, ◌+◌, ◌∷◌, [], ◌++◌, List, subst, sym, ap, None}
use Rattle.subsetter_cff.specs.declared.read.entries.first_entries.Cell.{Cell}
use Rattle.subsetter_cff.specs.Read.Entries.FirstEntries.{AreCells}
use Rattle.subsetter_cff.proofs.ReadLaws.EntriesLaws.FirstCells.{first_cell, one_more}
use Rattle.subsetter_cff.proofs.read.entries.first_entries.first_entries.Goals as goal

pub loop-at-init : goal.loop-at-init
loop-at-init g c =
    subst (λ (l : List Cell). AreCells (g.S.Search.saying c.args.search.now) c.args.bytes.now l 1)
    (sym (c.in_ok-push.ensures.items ∙ ap (λ (l : List Cell). l ++ record { here = None; found = None } ∷ []) c.in_ok-cells.ensures.items)) (first_cell (g.S.Search.saying c.args.search.now) c.args.bytes.now)

pub loop-at-preserved : goal.loop-at-preserved
loop-at-preserved g c =
    subst (λ (l : List Cell). AreCells (g.S.Search.saying c.args.search.now) c.args.bytes.now l (c.loop-at.at + 1))
    (sym c.in_ok-push-2.ensures.items)
    (one_more (g.S.Search.saying c.args.search.now) c.args.bytes.now c.loop-at.cells.items c.next_cell-cell.result c.loop-at.at c.loop-at.invariant c.next_cell-cell.ensures)
