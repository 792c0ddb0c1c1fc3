-- What a new top dict in memory shows.
use Rattle.std.specs.Prelude.{◌<◌, ◌^◌, map}
use Rattle.std.specs.Option.{option_map}
use Rattle.subsetter_cffdata.specs.Views.{number_of}
use Rattle.subsetter_cff.specs.Write.Laying.Layout.{TopDict as Written, Offsets as Written_places}
use Rattle.subsetter_cff.specs.declared.write.new_dicts.top_dict.TopDict.{TopDict}
use Rattle.subsetter_cff.specs.declared.write.new_dicts.top_dict.Offsets.{Offsets}

abbrev pub top_dict_of : TopDict → Written
top_dict_of t = record {
  copyright = option_map (λ s. s.0) t.copyright;
  notice = option_map (λ s. s.0) t.notice;
  font_name = option_map (λ s. s.0) t.font_name;
  matrix = map number_of t.matrix.now;
  box = map number_of t.font_box.now;
}

abbrev pub offsets_of : Offsets → Written_places
offsets_of o =
    record { charset = o.charset; char_strings = o.char_strings; font_dicts = o.font_dicts; select = o.select }

-- offsets are at most 2147483647
pub record AreOffsets (o : Offsets) : Type 0 where
  pub charset : o.charset < 2 ^ 31
  pub char_strings : o.char_strings < 2 ^ 31
  pub font_dicts : o.font_dicts < 2 ^ 31
  pub select : o.select < 2 ^ 31
