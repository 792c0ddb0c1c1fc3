use Rattle.std.proofs.Common.{◌≡◌, map, length, arith, drop}
use Rattle.std.specs.List.{concat}
use Rattle.std.proofs.lemmas.List.{at_drop_all}
use Rattle.subsetter_cffdata.proofs.indexes.writing_index.total.Goals as goal

pub returns : goal.returns
returns g c =
    let done : length (concat (map g.T.AsSlice.items (drop c.loop-item.item-index c.args.items.now))) ≡ 0 = at_drop_all (λ xs. length (concat (map g.T.AsSlice.items xs))) c.args.items.now c.loop-item.item-index (omega arith) in
    (omega (arith, c.loop-item.invariant.sum, c.loop-item.invariant.fits, done), omega (arith, c.loop-item.invariant.sum, c.loop-item.invariant.fits, done))
