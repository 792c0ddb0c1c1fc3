-- A font of which less is asked for: the tables that it still has, and what is made of them.
use Rattle.std.proofs.Common.{◌≡◌, ℕ, Bool, true, false, ◌&&◌, ◌≤◌, cond, List, length, take, drop, Option, Some, None, Ok, refl, sym, ap, subst, ◌∙◌, inl, inr, arith, ◌++◌}
use Rattle.std.specs.Prelude.{codes, is_some}
use Rattle.std.specs.Option.{option_and_then, option_map}
use Rattle.std.specs.Str.{bytes_eq}
use Rattle.std.specs.Int.{w32, to_be_bytes}
use Rattle.std.proofs.lemmas.Bool.{le-leb, lt-leb, cases_lt}
use Rattle.std.proofs.lemmas.List.{length-append, length-take-le, length-drop, take-take}
use Rattle.subsetter_sfnt.specs.declared.face.FontKind.{FontKind}
use Rattle.subsetter_sfnt.specs.declared.face.FontKind.TheVariants.{Collection, Single}
use Rattle.subsetter_sfnt.specs.declared.flavor.FontFlavor.TheVariants.{TrueType, Cff}
use Rattle.subsetter_sfnt.specs.Extras.{without_glyph_names, by_hinting, by_names, by_glyph_names}
use Rattle.subsetter_sfnt.specs.Read.{Font, kind_at, header_by_kind, header_offset, records_at, table_in, stored, table, flavor}
use Rattle.subsetter.specs.Glyf.Read.{Outlines, outlines_in, outlines, outline_in}
use Rattle.subsetter.specs.Glyf.Reaching.Reach.{IsGlyphOrder, IsGlyphOrderBy}
use Rattle.subsetter.specs.Common.Name.Plain.{new_name, name_of}
use Rattle.subsetter.specs.Common.Post.Plain.{new_post, post_of}
use Rattle.cid_embed.specs.Again.{requests_less}

-- ---- tables

names_stay : (b : Bool) (tag : List ℕ) (o : Option (List ℕ)) → bytes_eq tag (codes "name") ≡ false → by_names b tag o ≡ o
names_stay true tag o h = refl
names_stay false tag o h = ap (λ q. cond q None o) h

glyph_names_stay : (b : Bool) (tag : List ℕ) (o : Option (List ℕ)) → bytes_eq tag (codes "post") ≡ false → by_glyph_names b tag o ≡ o
glyph_names_stay true tag o h = refl
glyph_names_stay false tag o h = ap (λ q. cond q (option_map without_glyph_names o) o) h

names_part : (n b : Bool) (o : Option (List ℕ)) → by_names (n && b) (codes "name") o ≡ cond n (by_names b (codes "name") o) None
names_part true b o = refl
names_part false b o = refl

-- a header under version 3.0 is one already
header_again : (bytes : List ℕ) → without_glyph_names bytes ≡ without_glyph_names (without_glyph_names bytes)
header_again bytes = elim (cases_lt (length bytes) 32) [
  | inl lt ↦ let as_is : without_glyph_names bytes ≡ bytes = ap (λ b. cond b (to_be_bytes w32 0x00030000 ++ take 28 (drop 4 bytes)) bytes) (lt-leb 32 (length bytes) lt) in sym (ap without_glyph_names as_is)
  | inr le ↦
      let rest = take 28 (drop 4 bytes) in
      let H = to_be_bytes w32 0x00030000 ++ rest in
      let is : without_glyph_names bytes ≡ H = ap (λ b. cond b H bytes) (le-leb 32 (length bytes) le) in
      let len : length rest ≡ 28 = length-take-le 28 (drop 4 bytes) (omega (arith, length-drop 4 bytes, le)) in
      let long : 32 ≤ length H = omega (arith, length-append (to_be_bytes w32 0x00030000) rest, len) in
      let again : without_glyph_names H ≡ to_be_bytes w32 0x00030000 ++ take 28 rest = ap (λ b. cond b (to_be_bytes w32 0x00030000 ++ take 28 rest) H) (le-leb 32 (length H) long) in
      is ∙ ap (λ (l : List ℕ). to_be_bytes w32 0x00030000 ++ l) (sym (take-take 28 28 (drop 4 bytes) (omega arith))) ∙ sym again ∙ sym (ap without_glyph_names is)
]

twice : (o : Option (List ℕ)) → option_map without_glyph_names o ≡ option_map without_glyph_names (option_map without_glyph_names o)
twice None = refl
twice (Some bytes) = ap Some (header_again bytes)

glyph_names_part : (g b : Bool) (o : Option (List ℕ)) → by_glyph_names (g && b) (codes "post") o ≡ cond g (by_glyph_names b (codes "post") o) (option_map without_glyph_names (by_glyph_names b (codes "post") o))
glyph_names_part true b o = refl
glyph_names_part false true o = refl
glyph_names_part false false o = twice o

module _ (n g : Bool) (font : Font) where
  abbrev less : Font
  less = requests_less n g font

  -- the same bytes are found
  same_place : header_offset less ≡ header_offset font
  unfolding header_offset
  same_place = by (kind_at font.bytes 0)
    where
      by : (o : Option FontKind) → option_and_then (λ k. header_by_kind k less) o ≡ option_and_then (λ k. header_by_kind k font) o
      by None = refl
      by (Some Single) = refl
      by (Some Collection) = refl

  same_stored : (tag : List ℕ) → stored less tag ≡ stored font tag
  same_stored tag = ap (λ (o : Option ℕ). option_and_then (λ directory. table_in font.bytes directory tag) (option_and_then (λ at. records_at font.bytes at) o)) same_place

  -- what is found before names are left out
  abbrev hinted : List ℕ → Option (List ℕ)
  hinted tag = by_hinting font.extras.hinting tag (stored font tag)

  less_is : (tag : List ℕ) → table less tag ≡ by_glyph_names (g && font.extras.glyph_names) tag (by_names (n && font.extras.names) tag (hinted tag))
  less_is tag = ap (λ (o : Option (List ℕ)). by_glyph_names (g && font.extras.glyph_names) tag (by_names (n && font.extras.names) tag (by_hinting font.extras.hinting tag o))) (same_stored tag)

  pub other_table : (tag : List ℕ) → bytes_eq tag (codes "name") ≡ false → bytes_eq tag (codes "post") ≡ false → table less tag ≡ table font tag
  other_table tag h k =
      less_is tag ∙ glyph_names_stay (g && font.extras.glyph_names) tag (by_names (n && font.extras.names) tag (hinted tag)) k ∙ names_stay (n && font.extras.names) tag (hinted tag) h
      ∙ sym (glyph_names_stay font.extras.glyph_names tag (by_names font.extras.names tag (hinted tag)) k ∙ names_stay font.extras.names tag (hinted tag) h)

  pub name_table : table less (codes "name") ≡ cond n (table font (codes "name")) None
  name_table =
      less_is (codes "name") ∙ glyph_names_stay (g && font.extras.glyph_names) (codes "name") (by_names (n && font.extras.names) (codes "name") (hinted (codes "name"))) refl ∙ names_part n font.extras.names (hinted (codes "name"))
      ∙ ap (λ (o : Option (List ℕ)). cond n o None) (sym (glyph_names_stay font.extras.glyph_names (codes "name") (by_names font.extras.names (codes "name") (hinted (codes "name"))) refl))

  pub post_table_less : table less (codes "post") ≡ cond g (table font (codes "post")) (option_map without_glyph_names (table font (codes "post")))
  post_table_less =
      less_is (codes "post") ∙ ap (by_glyph_names (g && font.extras.glyph_names) (codes "post")) (names_stay (n && font.extras.names) (codes "post") (hinted (codes "post")) refl ∙ sym (names_stay font.extras.names (codes "post") (hinted (codes "post")) refl))
      ∙ glyph_names_part g font.extras.glyph_names (by_names font.extras.names (codes "post") (hinted (codes "post")))

  pub post_there_less : is_some (table less (codes "post")) ≡ is_some (table font (codes "post"))
  post_there_less = ap is_some post_table_less ∙ by g (table font (codes "post"))
    where
      by : (b : Bool) (o : Option (List ℕ)) → is_some (cond b o (option_map without_glyph_names o)) ≡ is_some o
      by true o = refl
      by false None = refl
      by false (Some bytes) = refl

  -- ---- what is made of them

  pub name_less : name_of (table less) ≡ cond n (name_of (table font)) (Ok None)
  unfolding new_name
  name_less = ap new_name name_table ∙ by n
    where
      by : (b : Bool) → new_name (cond b (table font (codes "name")) None) ≡ cond b (new_name (table font (codes "name"))) (Ok None)
      by true = refl
      by false = refl

  pub post_less : (order : List ℕ) → post_of (table less) order ≡ cond g (post_of (table font) order) (new_post (option_map without_glyph_names (table font (codes "post"))) order)
  post_less order = ap (λ (o : Option (List ℕ)). new_post o order) post_table_less ∙ by g
    where
      by : (b : Bool) → new_post (cond b (table font (codes "post")) (option_map without_glyph_names (table font (codes "post")))) order ≡ cond b (new_post (table font (codes "post")) order) (new_post (option_map without_glyph_names (table font (codes "post"))) order)
      by true = refl
      by false = refl

  pub flavor_less : flavor less ≡ flavor font
  flavor_less =
      ap (λ (o : Option (List ℕ)). cond (is_some o) (Some TrueType) (cond (is_some (table less (codes "CFF "))) (Some Cff) None)) (other_table (codes "glyf") refl refl)
      ∙ ap (λ (o : Option (List ℕ)). cond (is_some (table font (codes "glyf"))) (Some TrueType) (cond (is_some o) (Some Cff) None)) (other_table (codes "CFF ") refl refl)

  -- ---- outlines

  pub outlines_less : outlines less ≡ outlines font
  unfolding outlines_in
  outlines_less = by_tables font.extras.hinting (table less) (table font) (other_table (codes "loca") refl refl) (other_table (codes "glyf") refl refl) (other_table (codes "head") refl refl)
    where
      by_tables : (hinting : Bool) (one other : List ℕ → Option (List ℕ)) → one (codes "loca") ≡ other (codes "loca") → one (codes "glyf") ≡ other (codes "glyf") → one (codes "head") ≡ other (codes "head") → outlines_in hinting one ≡ outlines_in hinting other
      by_tables hinting one other l q h = rw (l, q, h) refl

  pub order_less : (glyphs order : List ℕ) → IsGlyphOrder less glyphs order → IsGlyphOrder font glyphs order
  order_less glyphs order o = subst (λ (t : Option Outlines). IsGlyphOrderBy (λ h. option_and_then (λ u. outline_in u h) t) glyphs order) outlines_less o

  pub order_more : (glyphs order : List ℕ) → IsGlyphOrder font glyphs order → IsGlyphOrder less glyphs order
  order_more glyphs order o = subst (λ (t : Option Outlines). IsGlyphOrderBy (λ h. option_and_then (λ u. outline_in u h) t) glyphs order) (sym outlines_less) o
