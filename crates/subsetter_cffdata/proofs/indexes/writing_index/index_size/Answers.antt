use Rattle.std.proofs.Common.{◌≡◌, map, length, arith}
use Rattle.std.proofs.lemmas.List.{length-map}
use Rattle.subsetter_cffdata.proofs.IndexesLaws.Indexes.{length-by, length-none}
use Rattle.subsetter_cffdata.proofs.indexes.writing_index.index_size.Goals as goal

pub returns-then-counts-eq0-clause-value : goal.returns-then-counts-eq0-clause-value
returns-then-counts-eq0-clause-value g c = length-none (map g.T.AsSlice.items c.args.items.now) (omega (arith, c.in_ok-counts.ensures.items, c.if-counts-eq0.true, length-map c.args.items.now g.T.AsSlice.items))

pub overflow_sub-result : goal.overflow_sub-result
overflow_sub-result g c = omega (arith, c.index_room.ensures)

pub returns-clause-value : goal.returns-clause-value
returns-clause-value g c =
    let items = map g.T.AsSlice.items c.args.items.now in
    let count : c.in_ok-counts.counts.items ≡ length items = omega (arith, c.in_ok-counts.ensures.items, length-map c.args.items.now g.T.AsSlice.items) in
    length-by items c.in_ok-counts.counts.items c.in_ok-counts.counts.total c.index_room.result count c.in_ok-counts.ensures.total (omega (arith, c.if-counts-eq0.false)) c.in_ok-counts.ensures.fits c.index_room.ensures
