use Rattle.std.proofs.Common.{arith}
use Rattle.subsetter_cff.specs.Write.Laying.TableBy.{table_bytes}
use Rattle.subsetter_cff.proofs.WriteLaws.Promises.{answered, clean, refused}
use Rattle.subsetter_cff.proofs.write.subsetting.subset.Goals as goal

pub returns-clause-ok : goal.returns-clause-ok
returns-clause-ok c =
    answered table_bytes c.args.limits.bytes c.args.table.now c.args.limits.tokens c.args.limits.depth c.args.mapper.now c.subset_exactly.result
    (omega (arith, c.depth-depth.ensures.above, c.depth-depth.ensures.value)) c.num_gids-count.ensures.first (omega (arith, c.num_gids-count.ensures.few)) c.subset_exactly.ensures

pub returns-clause-clean : goal.returns-clause-clean
returns-clause-clean c = clean table_bytes c.args.limits.bytes c.args.table.now c.args.limits.tokens c.args.limits.depth c.args.mapper.now c.subset_exactly.result c.subset_exactly.ensures

pub returns-clause-err : goal.returns-clause-err
returns-clause-err c = refused table_bytes c.args.limits.bytes c.args.table.now c.args.limits.tokens c.args.limits.depth c.args.mapper.now c.subset_exactly.result c.subset_exactly.ensures
