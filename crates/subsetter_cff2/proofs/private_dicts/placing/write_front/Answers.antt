use Rattle.std.proofs.Common.{take, map}
use Rattle.subsetter_cffdata.specs.Views.{number_of, operator_of}
use Rattle.subsetter_cff2.proofs.PrivateDictsLaws.PrivateWrites.{all_ok, all_err}
use Rattle.subsetter_cff2.proofs.private_dicts.placing.write_front.Goals as goal

pub returns-clause-ok : goal.returns-clause-ok
returns-clause-ok c = all_ok c.write_numbers.result c.args.w.now (operator_of c.args.operator) (map number_of (take c.args.len c.place_front.new.numbers)) _ c.write_numbers.new.w c.place_front.ensures c.write_numbers.ensures.checked c.write_numbers.ensures.ok

pub returns-clause-err : goal.returns-clause-err
returns-clause-err c = all_err c.write_numbers.result c.args.w.now (operator_of c.args.operator) (map number_of (take c.args.len c.place_front.new.numbers)) _ c.place_front.ensures c.write_numbers.ensures.checked
