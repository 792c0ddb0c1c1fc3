use Rattle.std.proofs.Common.{◌≡◌, drop}
use Rattle.std.specs.Option.{option_copied}
use Rattle.std.specs.Prelude.{map}
use Rattle.subsetter.specs.Glyf.Reaching.Closure.{first_byte_in}
use Rattle.subsetter.specs.Glyf.Plain.{kept_outlines, with_outlines}
use Rattle.subsetter.proofs.glyf.keep_block.Given as goal

abbrev pub invariant-loop-outline : goal.invariant-loop-outline
invariant-loop-outline l = record {
  kept : with_outlines l.list.items (kept_outlines l.list.hinting l.order (map option_copied (drop l.outline-index l.block))) ≡ with_outlines l.fn.list.items (kept_outlines l.fn.list.hinting l.order (map option_copied l.block));
  same : l.list.hinting ≡ l.fn.list.hinting;
  offset : l.place ≡ l.outline-index;
  first_bytes : l.first_bytes.items ≡ map (λ o. first_byte_in (option_copied o)) l.block;
}
