use Rattle.std.proofs.Common.{◌≡◌, length}
use Rattle.subsetter_cffdata.specs.Dicts.ParserView.{left}
use Rattle.subsetter_cff2.specs.PrivateDicts.EntryLists.{entry_lists}
use Rattle.subsetter_cff2.specs.PrivateDicts.PrivateAt.{at_start}
use Rattle.subsetter_cff2.specs.PrivateDicts.PrivateText.{following, placed_text}
use Rattle.subsetter_cff2.proofs.private_dicts.private_at.write_private_at.Given as goal

abbrev pub invariant-loop-operator : goal.invariant-loop-operator
invariant-loop-operator l = record {
  written : following l.w (placed_text l.variation l.stack (entry_lists (left l.parser))) ≡ following l.initial.w (placed_text l.variation at_start (entry_lists l.dict));
  room : length l.parser.operands.now ≡ 514;
}

abbrev pub decreases-loop-operator : goal.decreases-loop-operator
decreases-loop-operator l = length (left l.parser)
