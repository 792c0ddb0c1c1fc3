-- A source in memory: what it shows, and what is known of it once it was opened.
use Rattle.std.specs.Prelude.{◌≡◌, ℕ, ◌&&◌, nat_lt, if◌then◌else◌, true, false, List, drop, length, map, unwrap_or}
use Rattle.std.specs.Prelude.{Option, Some, None, Result, Ok}
use Rattle.std.specs.Option.{option_map, ok_or}
use Rattle.subsetter_base.specs.Bytes.{◌>>=◌}
use Rattle.subsetter_base.specs.declared.error.Error.{Error}
use Rattle.subsetter_base.specs.declared.error.Error.TheVariants.{MalformedFont}
use Rattle.subsetter_cffdata.specs.Dicts.Dict.{entries}
use Rattle.subsetter_cffdata.specs.Indexes.Index.{index_at}
use Rattle.subsetter_cffdata.specs.Indexes.IndexView.{items}
use Rattle.subsetter_cff.specs.declared.read.source.CIDMetadata.{CIDMetadata}
use Rattle.subsetter_cff.specs.declared.read.source.Table.{Table}
use Rattle.subsetter_cff.specs.Read.Cff.{Cff, char_strings, is_cid_keyed}
use Rattle.subsetter_cff.specs.Read.FdArray.FontDicts.{font_dicts, font_dict_select}
use Rattle.subsetter_cff.specs.Read.FdArray.FontDictList.{AreFontDicts}
use Rattle.subsetter_cff.specs.Read.FrontView.{front_of}
use Rattle.subsetter_cff.specs.Read.Entries.OperandDemands.{top_demands}
use Rattle.subsetter_cff.specs.Read.Opened.{check, all_meet, sound_font_dicts, opened_cid}
use Rattle.subsetter_cff.specs.Read.FdArray.Private.{no_private, private_at}
use Rattle.subsetter_cff.specs.Read.FdArray.PrivateView.{private_view}
use Rattle.subsetter_cff.specs.Read.Entries.TopDicts.{IsTopDict}
use Rattle.subsetter_cff.specs.Read.Views.{select_view}

abbrev pub cff_of : Table → Cff
cff_of s = front_of s.front

-- the entries of the INDEX at an offset
abbrev pub entries_at : List ℕ → Option ℕ → Option (List (Option (List ℕ)))
entries_at bytes None = None
entries_at bytes (Some offset) = option_map (λ index. index.0) (index_at (drop offset bytes))

-- what a CID-keyed font has to be, beside what every font has to be
abbrev pub opened_keyed : Cff → Result Cff Error
opened_keyed cff = if is_cid_keyed cff then opened_cid cff else Ok cff

-- what is opened after the front
unfoldable pub opened_top : Cff → Result Cff Error
opened_top cff = do
  charstrings ← ok_or (char_strings cff) MalformedFont
  check (all_meet top_demands cff.top && nat_lt 0 (length charstrings)) MalformedFont (opened_keyed cff)

-- the font dicts and the FDSelect of a CID-keyed font
pub record IsCidParts (cff : Cff) (c : CIDMetadata) : Type 0 where
  pub dicts : List (List ℕ)
  pub dicts_are : font_dicts cff ≡ Some (map entries dicts)
  pub made : AreFontDicts cff.bytes dicts c.font_dicts.items
  pub sound : sound_font_dicts cff.bytes (map entries dicts) ≡ true
  pub select : font_dict_select cff ≡ Some (select_view c.select)

abbrev pub IsKeyed : Cff → Option CIDMetadata → Type 0
IsKeyed cff None = is_cid_keyed cff ≡ false
IsKeyed cff (Some c) = (is_cid_keyed cff ≡ true) × IsCidParts cff c

pub record IsSource (s : Table) : Type 0 where
  pub demands : all_meet top_demands (cff_of s).top ≡ true
  pub top : IsTopDict (cff_of s).top s.top
  pub char_strings_are : char_strings (cff_of s) ≡ Some (items s.char_strings)
  pub own : private_view s.private ≡ unwrap_or (private_at (cff_of s).bytes (cff_of s).top) no_private
  pub keyed : IsKeyed (cff_of s) s.cid
