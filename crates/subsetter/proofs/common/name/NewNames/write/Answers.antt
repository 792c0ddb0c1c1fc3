use Rattle.std.proofs.Common.{◌++◌, ◌/◌, length, ap, arith}
use Rattle.std.proofs.lemmas.List.{length-append}
use Rattle.subsetter.specs.Common.Name.Read.{joined}
use Rattle.subsetter.specs.Common.Name.Plain.{header_bytes}
use Rattle.subsetter.proofs.common.name.NewNames.write.Goals as goal

pub write_header-requires-clause-room : goal.write_header-requires-clause-room
unfolding header_bytes
write_header-requires-clause-room c =
    let n = length c.self.inside.records.items / 12 in
    let rs = c.self.inside.records.items in
    omega (arith, c.requires, ap length c.self.view_is, length-append (header_bytes n ++ rs) (joined c.self.inside.strings), length-append (header_bytes n) rs)
