use Rattle.std.proofs.Common.{◌≡◌, List, ℤ, length}
use Rattle.subsetter_instance.specs.Glyphs.Cache.{AreKept}
use Rattle.subsetter_instance.specs.Source.{Source}
use Rattle.subsetter_instance.proofs.glyphs.cache.no_glyphs.Given as goal

abbrev pub invariant-loop-place : goal.invariant-loop-place
invariant-loop-place l = record {
  count : length l.places.items ≡ l.place;
  none : (s : Source) (at : List ℤ) → AreKept s at l.places.items;
}
