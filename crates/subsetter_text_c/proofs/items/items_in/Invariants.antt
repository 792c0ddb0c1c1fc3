use Rattle.std.proofs.Common.{◌≡◌, ◌++◌, drop, length, map}
use Rattle.pdf_runs.specs.Shaped.{seen}
use Rattle.subsetter_text_c.specs.Items.{are_items, labelled_in}
use Rattle.subsetter_text_c.proofs.items.items_in.Given as goal

abbrev pub invariant-loop-item : goal.invariant-loop-item
invariant-loop-item l = record {
  so_far : map seen l.found.items ++ map (labelled_in l.characters) (drop l.item-index l.items) ≡ map (labelled_in l.characters) l.items;
  valid : are_items (length l.characters) (drop l.item-index l.items) ≡ are_items (length l.characters) l.items;
}
