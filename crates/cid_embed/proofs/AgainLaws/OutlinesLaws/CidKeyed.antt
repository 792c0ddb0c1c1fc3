-- A subset with a CFF table is CID-keyed, whatever its source is.
use Rattle.std.proofs.Common.{◌≡◌, ℕ, true, List, Option, Some, None, refl}
use Rattle.std.specs.Prelude.{is_some}
use Rattle.std.specs.Option.{option_and_then}
use Rattle.subsetter_cffdata.specs.Numerals.Numbers.{Number}
use Rattle.subsetter_cff.specs.Read.Cff.{Cff, is_cid_keyed}
use Rattle.subsetter_cff.specs.Read.FdArray.Keying.{Keying, keying, keying_by}
use Rattle.subsetter_cff.specs.Read.Entries.Lookup.{last_of}
use Rattle.subsetter_cff.specs.Read.Entries.Operators.{registry_operator}
use Rattle.subsetter_sfnt.specs.Read.{Font, as_font}
use Rattle.cid_embed.specs.Again.{IsCidKeyed}
use Rattle.cid_embed.proofs.AgainLaws.ByKind.{IsCharStringSubset}

some_first : (o : Option (List Number)) (f : List Number → Option Keying) (k : Keying) → option_and_then f o ≡ Some k → is_some o ≡ true
some_first None f k h = absurd cc
some_first (Some xs) f k h = refl

keyed_is : (cff : Cff) (k : Keying) → keying cff ≡ Some k → is_cid_keyed cff ≡ true
unfolding keying
keyed_is cff k h = some_first (last_of registry_operator cff.top) (keying_by cff.strings) k h

pub subset_keyed : (tokens depth : ℕ) (font : Font) (glyphs out : List ℕ) → IsCharStringSubset tokens depth font glyphs out → IsCidKeyed (as_font out)
subset_keyed tokens depth font glyphs out s =
    let d = s.drawn in
    record { bytes = d.copy; bytes_are = d.copy_is; cff = d.kept.copy; cff_is = d.kept.copy_is; keyed = keyed_is d.kept.copy _ d.kept.kept.keyed }
