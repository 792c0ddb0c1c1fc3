use Rattle.std.proofs.Common.{◌≡◌, ◌++◌, drop, map}
use Rattle.std.specs.List.{list_all}
use Rattle.subsetter_text_c.specs.Own.{is_part, place_in}
use Rattle.subsetter_text_c.proofs.own.places_in.Given as goal

abbrev pub invariant-loop-part : goal.invariant-loop-part
invariant-loop-part l = record {
  so_far : l.places.items ++ map place_in (drop l.part-index l.parts) ≡ map place_in l.parts;
  valid : list_all is_part (drop l.part-index l.parts) ≡ list_all is_part l.parts;
}
