-- What is wrong with the tables, where they are read.
--   ends_elsewhere               the last entry of loca isn't the end of glyf
use Rattle.std.proofs.Common.{◌≡◌, ℕ, ◌+◌, List, length, get_or, Some, ap, sym, ◌∙◌, zero-add, arith}
use Rattle.subsetter_sfnt.specs.Fields.Loca.{loca_offset}
use Rattle.own_glyphs.specs.Refused.{HasSourceFault, other_end}
use Rattle.own_glyphs.specs.Source.{AreFrom, Source}
use Rattle.own_glyphs.proofs.Values.{from_at}

pub ends_elsewhere : (s : Source) (offsets : List ℕ) → AreFrom (loca_offset s.loca s.long) 0 offsets → length offsets ≡ s.count + 1 → (get_or offsets s.count 0 ≡ length s.glyf → ⊥) → HasSourceFault s
ends_elsewhere s offsets all count not =
    let there : loca_offset s.loca s.long s.count ≡ Some (get_or offsets s.count 0) = ap (loca_offset s.loca s.long) (sym (zero-add s.count)) ∙ from_at (loca_offset s.loca s.long) 0 s.count offsets 0 all (omega (arith, count)) in
    other_end (get_or offsets s.count 0) there not
