-- The names of glyphs.
use Rattle.std.specs.Prelude.{ℕ, List}
use Rattle.glyph_names.specs.Post.{post_name}
use Rattle.glyph_names.specs.Strings.{cff_name}
use Rattle.subsetter_base.specs.Texts.{or_else}

-- the name of a glyph: by `post`, or else by `CFF `; an empty one where neither has one
unfoldable pub glyph_name : List ℕ → List ℕ → ℕ → List ℕ
glyph_name post cff glyph = or_else (post_name post glyph) (cff_name cff glyph)
