use Rattle.std.proofs.Common.{◌≡◌, ◌++◌, drop, length, map}
use Rattle.pdf_figures.specs.View.{own_seen}
use Rattle.subsetter_text_c.specs.Own.{are_ends, own_in}
use Rattle.subsetter_text_c.proofs.own.own_by.Given as goal

abbrev pub invariant-loop-own : goal.invariant-loop-own
invariant-loop-own l = record {
  so_far : map own_seen l.glyphs.items ++ own_in l.before (drop l.own-index l.owns) l.rest ≡ own_in 0 l.owns l.places;
  valid : are_ends l.before (length l.rest) (drop l.own-index l.owns) ≡ are_ends 0 (length l.places) l.owns;
}
