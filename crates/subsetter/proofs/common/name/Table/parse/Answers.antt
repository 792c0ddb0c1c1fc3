use Rattle.subsetter.proofs.CommonLaws.NameLaws.Written.{walked}
use Rattle.subsetter.proofs.common.name.Table.parse.Goals as goal

pub returns : goal.returns
returns c = walked c.args.«data».now c.parse_parts.result c.parse_parts.ensures.parts c.parse_parts.ensures.whole
