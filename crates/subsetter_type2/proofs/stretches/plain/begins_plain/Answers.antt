use Rattle.std.proofs.Common.{◌<◌, arith}
use Rattle.subsetter_type2.proofs.StretchesLaws.PlainTables.{plain_table, read_plain}
use Rattle.subsetter_type2.proofs.stretches.plain.begins_plain.Goals as goal

pub returns : goal.returns
unfolding plain_table
returns c =
    let byte : c.args.first < 256 = omega arith in
    read_plain c.args.first byte
