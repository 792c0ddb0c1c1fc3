use Rattle.std.proofs.Common.{rules, ◌||◌, ◌+◌, ℕ, List, Bool, true, false, drop, arith, ap, sym, ◌∙◌, slice_index}
use Rattle.std.proofs.Math.ListN.{get_or, length-set}
use Rattle.std.proofs.lemmas.List.{at_drop_more, get_or-replicate}
use Rattle.subsetter_base.specs.Indexes.{is_listed}
use Rattle.subsetter_cff.proofs.WriteLaws.NewDictsLaws.UsedNumbers.{marked}
use Rattle.subsetter_cff.proofs.write.new_dicts.font_dict_remapper.mark_used.Goals as goal

pub loop-number-init : goal.loop-number-init
loop-number-init c = record {
  marked = λ n lt. ap (λ (b : Bool). b || is_listed c.args.numbers.now n) (get_or-replicate 256 n false false lt);
  len = search rules;
}

pub loop-number-preserved : goal.loop-number-preserved
loop-number-preserved c =
    let number = slice_index c.args.numbers.now c.loop-number.number-index in
    record {
      marked = λ n lt.
          marked c.loop-number.used number n (is_listed (drop (c.loop-number.number-index + 1) c.args.numbers.now) n) (omega (arith, c.loop-number.invariant.len, c.type_inv.numbers c.loop-number.number-index))
          ∙ ap (λ (b : Bool). get_or c.loop-number.used n false || b) (sym (at_drop_more (λ (l : List ℕ). is_listed l n) c.args.numbers.now c.loop-number.number-index 0 (omega arith)))
          ∙ c.loop-number.invariant.marked n lt;
      len = length-set c.loop-number.used number true ∙ c.loop-number.invariant.len;
    }
