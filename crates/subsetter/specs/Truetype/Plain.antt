-- The plain way to a TrueType subset: its tables for an order of the glyphs, with the error that is returned where one
-- can't be made.
use Rattle.std.specs.Prelude.{ℕ, ◌^◌, List, length, codes, Option, Some, Result, Ok, Err, nat_lt, if◌then◌else◌}
use Rattle.subsetter_base.specs.Bytes.{◌>>=◌}
use Rattle.subsetter_base.specs.declared.error.Error.{Error}
use Rattle.subsetter_base.specs.declared.error.Error.TheVariants.{OverflowError}
use Rattle.subsetter_sfnt.specs.declared.flavor.FontFlavor.TheVariants.{TrueType}
use Rattle.subsetter_sfnt.specs.Laying.Written.{Table}
use Rattle.subsetter_sfnt.specs.Laying.Rows.{FontTables, rows, present}
use Rattle.subsetter.specs.Glyf.Read.{Outlines}
use Rattle.subsetter.specs.Glyf.Written.{is_long, glyf_bytes, loca_bytes}
use Rattle.subsetter.specs.Glyf.Plain.{kept_all}
use Rattle.subsetter.specs.Common.Shared.Plain.{SharedTables, shared_of, with_shared}

-- what is made for the new font; its programs are the source's
pub record Made : Type 0 where
  pub outlines : List (List ℕ)
  pub loca : List ℕ
  pub shared : SharedTables

-- loca, where the length of glyf has 32 bits
unfoldable pub located : List (List ℕ) → Result (List ℕ) Error
located bs =
    if nat_lt (length (glyf_bytes (is_long bs) bs)) (2 ^ 32) then Ok (loca_bytes (is_long bs) 0 bs)
    else Err OverflowError

unfoldable pub made_of : (List ℕ → Option (List ℕ)) → Outlines → List ℕ → Result Made Error
made_of find t order = do
  bs ← kept_all t order order
  loca ← located bs
  shared ← shared_of find TrueType (is_long bs) order
  Ok (record { outlines = bs; loca = loca; shared = shared })

-- the tables that are there
abbrev pub font_of : (List ℕ → Option (List ℕ)) → Made → FontTables
font_of find m = record (with_shared m.shared) {
  cvt = find (codes "cvt ");
  fpgm = find (codes "fpgm");
  glyf = Some (glyf_bytes (is_long m.outlines) m.outlines);
  loca = Some m.loca;
  prep = find (codes "prep");
}

-- the same in ascending order of their tags
unfoldable pub laid : (List ℕ → Option (List ℕ)) → Made → List Table
laid find m = present (rows (font_of find m))

-- the tables of a TrueType subset for an order of its glyphs
unfoldable pub truetype_tables : (List ℕ → Option (List ℕ)) → Outlines → List ℕ → Result (List Table) Error
truetype_tables find t order = do
  m ← made_of find t order
  Ok (laid find m)
