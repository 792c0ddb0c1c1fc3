use Rattle.pdf_runs.proofs.PairLaws.{list_kept, list_put, number_put, room_same, stay_put}
use Rattle.pdf_runs.proofs.codes.code_of.Goals as goal

pub remap-requires : goal.remap-requires
remap-requires c = room_same c.args.pairs.now c.args.pair c.requires

pub returns-clause-list : goal.returns-clause-list
returns-clause-list c = list_put c.remap.result c.args.pairs.now c.remap.new.self c.args.pair c.remap.ensures.list

pub returns-clause-number : goal.returns-clause-number
returns-clause-number c = number_put c.remap.result c.remap.new.self c.args.pair c.remap.ensures.number

pub returns-clause-stay : goal.returns-clause-stay
returns-clause-stay c = stay_put c.remap.result c.args.pairs.now c.remap.new.self c.args.pair c.remap.ensures.list

pub returns-clause-same : goal.returns-clause-same
returns-clause-same c = list_kept c.remap.result c.args.pairs.now c.remap.new.self c.args.pair c.remap.ensures.list
