use Rattle.std.proofs.Common.{rules, ◌<◌, ◌+◌, arith, get_or}
use Rattle.subsetter_type2.proofs.StretchesLaws.Stretches.{by_short}
use Rattle.subsetter_type2.proofs.stretches.scanning.longer_by_short.Goals as goal

pub returns : goal.returns
returns c =
    let s = c.args.stretch in
    let charstring = c.args.charstring.now in
    let small : get_or charstring (s.len + 2) 0 < 256 = (let h = c.type_inv.charstring (s.len + 2) in omega arith) in
    record {
      sound = search rules;
      extends = by_short charstring _ s _ _ c.with_number.ensures (omega arith) (omega arith) small c.is_shortest.ensures c.if-not-is_shortest.false (omega arith);
      more = search rules;
      inside = search rules;
      few = search rules;
    }
