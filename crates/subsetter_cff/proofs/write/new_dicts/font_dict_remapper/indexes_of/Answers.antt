use Rattle.std.proofs.Common.{rules, arith, ◌∙◌, ◌-◌, None}
use Rattle.std.proofs.Math.ListN.{length-set}
use Rattle.std.proofs.lemmas.List.{get_or-replicate}
use Rattle.subsetter_cff.proofs.WriteLaws.NewDictsLaws.UsedNumbers.{none_placed, next_placed, all_placed}
use Rattle.subsetter_cff.proofs.write.new_dicts.font_dict_remapper.indexes_of.Goals as goal

pub loop-i-init : goal.loop-i-init
loop-i-init c = record {
  stands = λ n lt. get_or-replicate 256 n None None lt ∙ none_placed c.args.numbers.now n _;
  len = search rules;
}

pub loop-i-preserved : goal.loop-i-preserved
loop-i-preserved c =
    let k = c.loop-i.i - 1 in
    record {
      stands = λ n lt. next_placed c.loop-i.places c.args.numbers.now n c.loop-i.i k (omega arith) (omega arith) (omega (arith, c.loop-i.invariant.len, c.type_inv.numbers k)) (c.loop-i.invariant.stands n lt);
      len = length-set c.loop-i.places _ _ ∙ c.loop-i.invariant.len;
    }

pub returns : goal.returns
returns c = λ n lt. all_placed _ c.args.numbers.now n c.loop-i.i (omega arith) (c.loop-i.invariant.stands n lt)
