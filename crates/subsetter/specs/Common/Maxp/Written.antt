-- `maxp` of a subset (OpenType, "maxp"), and the plain way to it.
use Rattle.std.specs.Prelude.{ℕ, Bool, true, false, List, ◌++◌, length, codes, Option, Some, None, Result, Ok, Err}
use Rattle.std.specs.Prelude.{nat_lt, if◌then◌else◌}
use Rattle.std.specs.Int.{w16, w32, to_be_bytes}
use Rattle.subsetter_base.specs.declared.error.Error.{Error}
use Rattle.subsetter_base.specs.declared.error.Error.TheVariants.{MalformedFont}
use Rattle.subsetter_sfnt.specs.declared.flavor.FontFlavor.{FontFlavor}
use Rattle.subsetter_sfnt.specs.Extras.{bare_fields, without_instructions}
use Rattle.subsetter.specs.Common.Maxp.Read.{version_of, further_fields}

-- the source's table, where hinting is asked for or not
abbrev pub hinted : Bool → List ℕ → List ℕ
hinted true maxp = maxp
hinted false maxp = without_instructions maxp

-- its fields after numGlyphs
abbrev pub hinted_fields : Bool → List ℕ → List ℕ
hinted_fields true fields = fields
hinted_fields false fields = bare_fields fields

unfoldable pub maxp_bytes : FontFlavor → ℕ → List ℕ → List ℕ
maxp_bytes flavor n maxp = to_be_bytes w32 (version_of flavor) ++ to_be_bytes w16 n ++ further_fields flavor maxp

-- nothing without `maxp`
abbrev pub maxp_in : Option (List ℕ) → FontFlavor → ℕ → Result (Option (List ℕ)) Error
maxp_in None flavor n = Ok None
maxp_in (Some maxp) flavor n =
    if nat_lt (length maxp) 6 then Err MalformedFont else Ok (Some (maxp_bytes flavor n maxp))

-- `maxp` of a subset of that many glyphs, from the tables that a look-up finds
abbrev pub maxp_of : (List ℕ → Option (List ℕ)) → FontFlavor → ℕ → Result (Option (List ℕ)) Error
maxp_of find flavor n = maxp_in (find (codes "maxp")) flavor n
