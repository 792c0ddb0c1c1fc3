-- The glyphs of codes.
use Rattle.std.proofs.Common.{◌≡◌, ℕ, List, [], ◌∷◌, map, Option, Some, None, refl, ap, ◌∙◌}
use Rattle.std.specs.Option.{option_map, unwrap_or}
use Rattle.subsetter_base.specs.Bytes.{number}
use Rattle.cmap.specs.Subtable.{groups, segments, glyph_of}
use Rattle.text_glyphs.specs.Choice.{coded_glyph}
use Rattle.text_glyphs.specs.Encodings.{code_of}
use Rattle.text_glyphs.specs.Formats.{by_format, glyph_by_code}
use Rattle.text_glyphs.specs.Own.{code_or_zero, if_found, with_codes}
use Rattle.text_glyphs.specs.declared.encodings.Encoding.{Encoding}

all_same : (f g : ℕ → ℕ) (xs : List ℕ) → ((x : ℕ) → f x ≡ g x) → map f xs ≡ map g xs
all_same f g [] e = refl
all_same f g (x ∷ xs) e = ap (λ y. y ∷ map f xs) (e x) ∙ ap (λ ys. g x ∷ ys) (all_same f g xs e)

by_segments : (table : List ℕ) (code : ℕ) → number table 0 2 ≡ Some 4 → glyph_by_code table code ≡ glyph_of (segments table) code
unfolding glyph_by_code
by_segments table code e = ap (λ (n : Option ℕ). unwrap_or (option_map (λ format. by_format format table code) n) 0) e

by_groups : (table : List ℕ) (code : ℕ) → number table 0 2 ≡ Some 12 → glyph_by_code table code ≡ glyph_of (groups table) code
unfolding glyph_by_code
by_groups table code e = ap (λ (n : Option ℕ). unwrap_or (option_map (λ format. by_format format table code) n) 0) e

pub all_by_segments : (table codes : List ℕ) → number table 0 2 ≡ Some 4 → map (glyph_by_code table) codes ≡ map (glyph_of (segments table)) codes
all_by_segments table codes e = all_same (glyph_by_code table) (glyph_of (segments table)) codes (λ code. by_segments table code e)

pub all_by_groups : (table codes : List ℕ) → number table 0 2 ≡ Some 12 → map (glyph_by_code table) codes ≡ map (glyph_of (groups table)) codes
all_by_groups table codes e = all_same (glyph_by_code table) (glyph_of (groups table)) codes (λ code. by_groups table code e)

one_coded : (f : ℕ → ℕ) (code : Option ℕ) → if_found code (f (unwrap_or code 0)) ≡ unwrap_or (option_map f code) 0
one_coded f None = refl
one_coded f (Some code) = refl

pub all_coded : (encoding : Encoding) (table characters : List ℕ) → with_codes encoding characters (map (glyph_by_code table) (map (code_or_zero encoding) characters)) ≡ map (coded_glyph encoding table) characters
all_coded encoding table [] = refl
all_coded encoding table (c ∷ rest) =
    ap (λ g. g ∷ with_codes encoding rest (map (glyph_by_code table) (map (code_or_zero encoding) rest))) (one_coded (glyph_by_code table) (code_of encoding c))
    ∙ ap (λ glyphs. coded_glyph encoding table c ∷ glyphs) (all_coded encoding table rest)
