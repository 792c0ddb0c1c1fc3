-- What is asked for of a look-up.
use Rattle.std.proofs.Common.{◌≡◌, ℕ, Bool, true, false, List, Option, refl}
use Rattle.std.specs.Prelude.{codes}
use Rattle.subsetter_sfnt.specs.Extras.{by_hinting, by_names, by_glyph_names}

-- `maxp` depends on hinting alone
pub maxp_asked : (h n g : Bool) (found : Option (List ℕ)) → by_glyph_names g (codes "maxp") (by_names n (codes "maxp") (by_hinting h (codes "maxp") found)) ≡ by_hinting h (codes "maxp") found
maxp_asked h true true found = refl
maxp_asked h true false found = refl
maxp_asked h false true found = refl
maxp_asked h false false found = refl

-- `post` depends on the names of glyphs alone
pub post_asked : (h n g : Bool) (found : Option (List ℕ)) → by_glyph_names g (codes "post") (by_names n (codes "post") (by_hinting h (codes "post") found)) ≡ by_glyph_names g (codes "post") found
post_asked true true g found = refl
post_asked true false g found = refl
post_asked false true g found = refl
post_asked false false g found = refl
