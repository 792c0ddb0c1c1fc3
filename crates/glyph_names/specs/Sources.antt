-- What the names of a font's glyphs are found by.
use Rattle.std.specs.Prelude.{◌≡◌, ℕ, List, map}
use Rattle.subsetter_cff.specs.Read.Opened.{opened}
use Rattle.subsetter_cffdata.specs.Indexes.IndexView.{items}
use Rattle.glyph_names.specs.Post.{own_names}
use Rattle.glyph_names.specs.Standard.{macintosh_names, standard_strings}
use Rattle.glyph_names.specs.Strings.{sids_of_opened, strings_of_opened}
use Rattle.glyph_names.specs.declared.names.Sources.{Sources}

-- it was read from these tables
pub record IsSources (post cff : List ℕ) (s : Sources) : Type 0 where
  pub macintosh : map (λ name. name.now) s.macintosh.items ≡ macintosh_names
  pub own : map (λ name. name.now) s.own.items ≡ own_names post
  pub standard : map (λ name. name.now) s.standard.items ≡ standard_strings
  pub sids : s.charset.sids.items ≡ sids_of_opened (opened cff)
  pub strings : items s.charset.strings ≡ strings_of_opened (opened cff)
