use Rattle.std.proofs.Common.{rules, ◌<◌, ◌+◌, arith, get_or, refl, sym}
use Rattle.subsetter_type2.proofs.StretchesLaws.Stretches.{by_plain}
use Rattle.subsetter_type2.proofs.stretches.scanning.longer.Goals as goal

pub returns : goal.returns
returns c =
    let s = c.args.stretch in
    let charstring = c.args.charstring.now in
    let small : get_or charstring (s.len + 1) 0 < 256 = (let h = c.type_inv.charstring (s.len + 1) in omega arith) in
    record {
      sound = search rules;
      extends = by_plain charstring _ s _ _ _ _ c.with_token.ensures refl c.plain_size.ensures.size refl (omega arith) (omega arith) (sym c.if-not-begins_plain.ensures) (omega arith) small;
      more = search rules;
      inside = search rules;
      few = search rules;
    }
