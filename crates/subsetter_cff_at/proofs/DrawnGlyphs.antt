-- What was drawn of the requested glyphs, step by step.
use Rattle.std.proofs.Common.{◌≡◌, ℕ, ◌<◌, pos, List, length, map, Option, Some, refl, ap, ◌∙◌, sym, subst}
use Rattle.std.specs.Prelude.{nat_lt, slice_get, unwrap_or, Ok}
use Rattle.std.specs.Option.{ok_or, option_map}
use Rattle.std.proofs.lemmas.Bool.{ltb-true}
use Rattle.std.proofs.lemmas.List.{length-map}
use Rattle.std.proofs.lemmas.Option.{same_Some, slice_get-map}
use Rattle.subsetter_base.specs.Indexes.{index_of}
use Rattle.subsetter_base.specs.declared.error.Error.TheVariants.{MalformedFont, OverflowError}
use Rattle.subsetter_cff.proofs.ReadLaws.Results.{bind_ok, same_Ok, some_of, passed, number_there}
use Rattle.subsetter_blend.specs.Resolved.{resolved}
use Rattle.subsetter_cff2.specs.Cff2.{Cff2}
use Rattle.subsetter_cff2.specs.Made2.{NewDict, new_dict, new_dicts}
use Rattle.subsetter_cff2.specs.PrivateDicts.Private2 as source
use Rattle.subsetter_cff2.specs.Selection.UsedDicts.{counted_dicts, index_in}
use Rattle.subsetter_cff2.specs.Variation.{Variation}
use Rattle.subsetter_cff_at.specs.Plain.{dict_bound, numbers_from, present, setting, glyph_text, placed_text, texts_from, Drawn, drawn}
use Rattle.subsetter_cff_at.proofs.Found.{number_here, length-numbers, has_number, text_here, dict_at, in_used, used_of, few_used}

-- ---- what was drawn
pub record DrawnSteps (cff : Cff2) (v : Option Variation) (tokens depth : ℕ) (glyphs : List (Option ℕ)) (d : Drawn) : Type 0 where
  pub numbers : List (Option ℕ)
  pub numbers_are : numbers_from cff 0 glyphs ≡ Ok numbers
  pub used : List ℕ
  pub used_are : counted_dicts (dict_bound cff) (present numbers) ≡ Ok used
  pub dicts_are : new_dicts cff v used ≡ Ok d.dicts
  pub texts_are : texts_from cff v tokens depth d.dicts d.places 0 glyphs ≡ Ok d.texts
  pub places_are : d.places ≡ map (index_in used) numbers

pub drawn_steps : (cff : Cff2) (v : Option Variation) (tokens depth : ℕ) (glyphs : List (Option ℕ)) (d : Drawn) → drawn cff v tokens depth glyphs ≡ Ok d → DrawnSteps cff v tokens depth glyphs d
unfolding drawn
drawn_steps cff v tokens depth glyphs d e =
    let a = bind_ok (numbers_from cff 0 glyphs) _ d e in
    let b = bind_ok (counted_dicts (dict_bound cff) (present a.0)) _ d a.1.1 in
    let c = bind_ok (new_dicts cff v b.0) _ d b.1.1 in
    let f = bind_ok (texts_from cff v tokens depth c.0 (map (index_in b.0) a.0) 0 glyphs) _ d c.1.1 in
    let same : record { dicts = c.0; places = map (index_in b.0) a.0; texts = f.0 } ≡ d = same_Ok _ _ f.1.1 in
    subst (λ (x : Drawn). DrawnSteps cff v tokens depth glyphs x) same (record { numbers = a.0; numbers_are = a.1.0; used = b.0; used_are = b.1.0; dicts_are = c.1.0; texts_are = f.1.0; places_are = refl })

-- ---- a requested glyph
pub record GlyphFound (cff : Cff2) (v : Option Variation) (tokens depth glyph advance : ℕ) (d : Drawn) : Type 0 where
  pub number : ℕ
  pub number_is : source.font_dict_number cff glyph ≡ Some number
  pub index : ℕ
  pub place_at : slice_get d.places glyph ≡ Some index
  pub dict : NewDict
  pub dict_at : slice_get d.dicts index ≡ Some dict
  pub dict_is : new_dict cff v number ≡ Ok dict
  pub small : advance < 32768
  pub charstring : List ℕ
  pub charstring_is : source.char_string cff glyph ≡ Some charstring
  pub bytes : List ℕ
  pub ran : resolved (setting cff v dict.subroutines) tokens depth dict.data_index (pos advance) charstring ≡ Ok bytes
  pub text_at : slice_get d.texts glyph ≡ Some (Some bytes)

record TextFound (cff : Cff2) (v : Option Variation) (tokens depth : ℕ) (dict : NewDict) (glyph advance : ℕ) (bytes : List ℕ) : Type 0 where
  small : advance < 32768
  charstring : List ℕ
  charstring_is : source.char_string cff glyph ≡ Some charstring
  ran : resolved (setting cff v dict.subroutines) tokens depth dict.data_index (pos advance) charstring ≡ Ok bytes

text_found : (cff : Cff2) (v : Option Variation) (tokens depth : ℕ) (dict : NewDict) (glyph advance : ℕ) (bytes : List ℕ) → glyph_text cff v tokens depth dict glyph advance ≡ Ok bytes → TextFound cff v tokens depth dict glyph advance bytes
unfolding glyph_text
text_found cff v tokens depth dict glyph advance bytes e =
    let a = passed (nat_lt advance 32768) OverflowError _ bytes e in
    let b = bind_ok (ok_or (source.char_string cff glyph) MalformedFont) _ bytes a.1 in
    record { small = ltb-true advance 32768 a.0; charstring = b.0; charstring_is = some_of (source.char_string cff glyph) MalformedFont b.0 b.1.0; ran = b.1.1 }

placed_found : (cff : Cff2) (v : Option Variation) (tokens depth : ℕ) (dicts : List NewDict) (index_of glyph advance : ℕ) (bytes : List ℕ) → placed_text cff v tokens depth dicts index_of glyph advance ≡ Ok bytes
    → (dict : NewDict) × ((slice_get dicts index_of ≡ Some dict) × (glyph_text cff v tokens depth dict glyph advance ≡ Ok bytes))
unfolding placed_text
placed_found cff v tokens depth dicts index_of glyph advance bytes e =
    let a = bind_ok (ok_or (slice_get dicts index_of) MalformedFont) _ bytes e in
    (a.0, (some_of (slice_get dicts index_of) MalformedFont a.0 a.1.0, a.1.1))

-- the number of a requested glyph's font dict, and its place among the used ones
pub record PlaceFound (cff : Cff2) (numbers : List (Option ℕ)) (used : List ℕ) (glyph : ℕ) : Type 0 where
  pub number : ℕ
  pub number_is : source.font_dict_number cff glyph ≡ Some number
  pub below : number < dict_bound cff
  pub index : ℕ
  pub place_at : slice_get (map (index_in used) numbers) glyph ≡ Some index
  pub used_at : slice_get used index ≡ Some number

pub number_place : (cff : Cff2) (glyphs numbers : List (Option ℕ)) (used : List ℕ) → numbers_from cff 0 glyphs ≡ Ok numbers → counted_dicts (dict_bound cff) (present numbers) ≡ Ok used
    → (glyph advance : ℕ) → slice_get glyphs glyph ≡ Some (Some advance) → PlaceFound cff numbers used glyph
number_place cff glyphs numbers used numbers_are used_are glyph advance is =
    let n = number_here cff glyphs glyph (Some advance) numbers numbers_are is in
    let h = has_number cff glyph advance n.number n.is in
    let at : slice_get numbers glyph ≡ Some (Some h.value) = n.at ∙ ap Some h.is in
    let few = few_used (dict_bound cff) (present numbers) used used_are in
    let inside = in_used (dict_bound cff) (present numbers) h.value h.below (used_of numbers glyph h.value at) in
    let found : index_of used h.value ≡ Some inside.at = ap (λ (l : List ℕ). index_of l h.value) few.0 ∙ inside.is in
    record {
      number = h.value;
      number_is = h.found;
      below = h.below;
      index = inside.at;
      place_at = slice_get-map (index_in used) numbers glyph ∙ ap (option_map (index_in used)) at ∙ ap (λ (o : Option ℕ). Some (unwrap_or o 0)) found;
      used_at = number_there used h.value inside.at found;
    }

module _ (cff : Cff2) (v : Option Variation) (tokens depth : ℕ) (glyphs : List (Option ℕ)) (d : Drawn) (s : DrawnSteps cff v tokens depth glyphs d) where
  pub as_many : length d.places ≡ length glyphs
  as_many = ap length s.places_are ∙ length-map s.numbers (index_in s.used) ∙ length-numbers cff 0 glyphs s.numbers s.numbers_are

  pub place_found : (glyph advance : ℕ) → slice_get glyphs glyph ≡ Some (Some advance) → PlaceFound cff s.numbers s.used glyph
  place_found = number_place cff glyphs s.numbers s.used s.numbers_are s.used_are

  pub glyph_found : (glyph advance : ℕ) → slice_get glyphs glyph ≡ Some (Some advance) → GlyphFound cff v tokens depth glyph advance d
  glyph_found glyph advance is =
      let p = place_found glyph advance is in
      let f = dict_at cff v s.used d.dicts p.index p.number s.dicts_are p.used_at in
      let t = text_here cff v tokens depth d.dicts d.places glyphs glyph (Some advance) d.texts s.texts_are as_many is in
      let a = bind_ok (placed_text cff v tokens depth d.dicts t.index glyph advance) (λ text. Ok (Some text)) t.text t.is in
      let b = placed_found cff v tokens depth d.dicts t.index glyph advance a.0 a.1.0 in
      let here : t.index ≡ p.index = same_Some _ _ (sym t.place_at ∙ ap (λ (l : List ℕ). slice_get l glyph) s.places_are ∙ p.place_at) in
      let same : b.0 ≡ f.dict = same_Some _ _ (sym b.1.0 ∙ ap (slice_get d.dicts) here ∙ f.at) in
      let g = text_found cff v tokens depth f.dict glyph advance a.0 (ap (λ (x : NewDict). glyph_text cff v tokens depth x glyph advance) (sym same) ∙ b.1.1) in
      record {
        number = p.number;
        number_is = p.number_is;
        index = p.index;
        place_at = ap (λ (l : List ℕ). slice_get l glyph) s.places_are ∙ p.place_at;
        dict = f.dict;
        dict_at = f.at;
        dict_is = f.is;
        small = g.small;
        charstring = g.charstring;
        charstring_is = g.charstring_is;
        bytes = a.0;
        ran = g.ran;
        text_at = t.at ∙ ap Some (sym (same_Ok _ _ a.1.1));
      }
