-- What calls in memory answer, as the plain way does.
use Rattle.std.proofs.Common.{◌≡◌, ℕ, ◌+◌, ◌-◌, ◌^◌, ◌<◌, ◌≤◌, ℤ, true, false, List, [], ◌∷◌, ◌++◌, length, map, Option, Some, refl, ap, arith, ◌∙◌, sym, inl, inr}
use Rattle.std.specs.Prelude.{min, IfOk, OnOk, Result, Ok, Err}
use Rattle.std.proofs.lemmas.List.{length-map}
use Rattle.subsetter_base.specs.Gives.{Fails}
use Rattle.subsetter_base.specs.Within.{FailsWithin, is_past}
use Rattle.subsetter_base.specs.declared.error.Error.{Error}
use Rattle.subsetter_cff.proofs.ReadLaws.Failing.{fails_on}
use Rattle.subsetter_cff.proofs.ReadLaws.Results.{same_Ok}
use Rattle.subsetter_boxes.specs.CharstringBox.{charstring_box}
use Rattle.subsetter_boxes.specs.Joined.{font_box, least_box}
use Rattle.subsetter_cffdata.specs.Numerals.Numbers.{Number}
use Rattle.subsetter_cff2.specs.Cff2.{Cff2}
use Rattle.subsetter_cffdata.specs.Indexes.Index.{offsets}
use Rattle.subsetter_cffdata.proofs.IndexesLaws.Indexes.{length-offsets}
use Rattle.subsetter_cff2.specs.declared.made.PlacedDict.{PlacedDict}
use Rattle.subsetter_cff2.specs.Made2.{NewDict, new_dicts, new_parts, made_of}
use Rattle.subsetter_cff2.specs.Made2View.{dict_view}
use Rattle.subsetter_cff2.specs.Selection.UsedDicts.{counted_dicts, index_in}
use Rattle.subsetter_cff2.specs.Variation.{Variation}
use Rattle.subsetter_cff_at.specs.Plain.{dict_bound, numbers_from, present, filled, all_filled, placed_text, text_boxes, text_if, texts_from, texts_size, Drawn, drawn, drawn_box, Opened, opened, drawn_of, parts_of, some_requested, made_table}
use Rattle.subsetter_points.specs.declared.bounds.Bounds.{Bounds}
use Rattle.subsetter_cff_at.specs.Request.{Request}
use Rattle.subsetter_cff_at.specs.View.{DrawsNext, FailsMaking, HasBoxes, KeepsBound, drawn_size}
use Rattle.subsetter_cff_at.specs.declared.texts.Texts.{Texts}
use Rattle.subsetter_cff_at.proofs.Found.{few_used, length-numbers, length-dicts, length-texts}
use Rattle.subsetter_cff_at.proofs.DrawnGlyphs.{drawn_steps}

-- ---- a glyph more
requested_text : (cff : Cff2) (v : Option Variation) (tokens depth : ℕ) (dicts : List NewDict) (place glyph advance : ℕ) (text : List ℕ) → placed_text cff v tokens depth dicts place glyph advance ≡ Ok text
    → text_if cff v tokens depth dicts place glyph (Some advance) ≡ Ok (Some text)
requested_text cff v tokens depth dicts place glyph advance text e = rw e refl

pub drawn_more : {X : Type 0} (r : Result X Error) (cff : Cff2) (v : Option Variation) (tokens depth : ℕ) (dicts : List NewDict) (place glyph advance : ℕ) (old new : Texts) (bytes text : List ℕ) (bounds : Option Bounds) (requested : ℕ)
    → OnOk r (new.char_strings.items ≡ old.char_strings.items ++ bytes) → OnOk r (new.ends.items ≡ old.ends.items ++ (length new.char_strings.items + 1) ∷ []) → OnOk r (new.boxes.items ≡ old.boxes.items ++ bounds ∷ []) → bounds ≡ charstring_box text → new.requested ≡ requested
    → bytes ≡ text → requested ≡ min (old.requested + length text) (2 ^ 64 - 1) → placed_text cff v tokens depth dicts place glyph advance ≡ Ok text
    → OnOk r (DrawsNext cff v tokens depth dicts place glyph (Some advance) old new)
drawn_more (Ok x) cff v tokens depth dicts place glyph advance old new bytes text bounds requested chars ends boxes is_box size same counted is = record {
  text = Some text;
  is = requested_text cff v tokens depth dicts place glyph advance text is;
  put = record { char_strings = chars ∙ ap (λ (l : List ℕ). old.char_strings.items ++ l) same; ends = ends; boxes = boxes ∙ ap (λ (o : Option Bounds). old.boxes.items ++ o ∷ []) is_box; requested = size ∙ counted };
}
drawn_more (Err e) cff v tokens depth dicts place glyph advance old new bytes text bounds requested chars ends boxes is_box size same counted is = tt

-- ---- all glyphs
pub drawn_is : (cff : Cff2) (v : Option Variation) (tokens depth : ℕ) (glyphs numbers : List (Option ℕ)) (used : List ℕ) (dicts : List NewDict) (texts : List (Option (List ℕ)))
    → numbers_from cff 0 glyphs ≡ Ok numbers → counted_dicts (dict_bound cff) (present numbers) ≡ Ok used → new_dicts cff v used ≡ Ok dicts → texts_from cff v tokens depth dicts (map (index_in used) numbers) 0 glyphs ≡ Ok texts
    → drawn cff v tokens depth glyphs ≡ Ok (record { dicts = dicts; places = map (index_in used) numbers; texts = texts })
unfolding drawn
drawn_is cff v tokens depth glyphs numbers used dicts texts a b c d = rw (a, b, c, d) refl

-- the font dicts that are used, where the numbers that are there were found
pub used_is : (cff : Cff2) (numbers : List (Option ℕ)) (found given : List ℕ) (bound : ℕ) (used : List ℕ) → found ≡ present numbers → given ≡ found → bound ≡ dict_bound cff → counted_dicts bound given ≡ Ok used
    → counted_dicts (dict_bound cff) (present numbers) ≡ Ok used
used_is cff numbers found given bound used a b c is = ap (λ (n : ℕ). counted_dicts n (present numbers)) (sym c) ∙ ap (counted_dicts bound) (sym (b ∙ a)) ∙ is

pub few_places : (bound : ℕ) (numbers used given : List ℕ) → counted_dicts bound numbers ≡ Ok used → given ≡ used → length given ≤ 255
few_places bound numbers used given are same = omega (arith, (few_used bound numbers used are).1, ap length same)

pub few_dicts : (cff : Cff2) (v : Option Variation) (bound : ℕ) (numbers used : List ℕ) (dicts : List PlacedDict) → counted_dicts bound numbers ≡ Ok used → new_dicts cff v used ≡ Ok (map dict_view dicts) → length dicts < 256
few_dicts cff v bound numbers used dicts are made =
    omega (arith, (few_used bound numbers used are).1, length-dicts cff v used (map dict_view dicts) made, length-map dicts dict_view)

-- as many places as glyphs
pub places_many : (cff : Cff2) (glyphs numbers : List (Option ℕ)) (used places given : List ℕ) → numbers_from cff 0 glyphs ≡ Ok numbers → places ≡ map (index_in used) numbers → given ≡ places → length given ≡ length glyphs
places_many cff glyphs numbers used places given are placed same = ap length (same ∙ placed) ∙ length-map numbers (index_in used) ∙ length-numbers cff 0 glyphs numbers are

pub texts_same : (cff : Cff2) (v : Option Variation) (tokens depth : ℕ) (glyphs : List (Option ℕ)) (given dicts : List NewDict) (given_places places : List ℕ) (texts : List (Option (List ℕ))) → given ≡ dicts → given_places ≡ places
    → texts_from cff v tokens depth given given_places 0 glyphs ≡ Ok texts → texts_from cff v tokens depth dicts places 0 glyphs ≡ Ok texts
texts_same cff v tokens depth glyphs given dicts given_places places texts a b are =
    ap (λ (l : List NewDict). texts_from cff v tokens depth l places 0 glyphs) (sym a) ∙ ap (λ (l : List ℕ). texts_from cff v tokens depth given l 0 glyphs) (sym b) ∙ are

-- as many ends as glyphs
pub ends_many : (cff : Cff2) (v : Option Variation) (tokens depth : ℕ) (glyphs numbers : List (Option ℕ)) (used : List ℕ) (dicts : List NewDict) (texts : List (Option (List ℕ))) (ends : List ℕ)
    → numbers_from cff 0 glyphs ≡ Ok numbers → texts_from cff v tokens depth dicts (map (index_in used) numbers) 0 glyphs ≡ Ok texts → ends ≡ offsets 1 (all_filled texts) → length ends ≡ length glyphs
ends_many cff v tokens depth glyphs numbers used dicts texts ends are texts_are ends_are =
    ap length ends_are ∙ length-offsets 1 (all_filled texts) ∙ length-map texts filled
    ∙ length-texts cff v tokens depth dicts (map (index_in used) numbers) 0 glyphs texts texts_are (length-map numbers (index_in used) ∙ length-numbers cff 0 glyphs numbers are)

fails_at : (cff : Cff2) (v : Option Variation) (tokens depth : ℕ) (glyphs numbers : List (Option ℕ)) (used : List ℕ) (dicts : List NewDict) (e : Error)
    → numbers_from cff 0 glyphs ≡ Ok numbers → counted_dicts (dict_bound cff) (present numbers) ≡ Ok used → new_dicts cff v used ≡ Ok dicts
    → Fails e (texts_from cff v tokens depth dicts (map (index_in used) numbers) 0 glyphs) → Fails e (drawn cff v tokens depth glyphs)
unfolding drawn
fails_at cff v tokens depth glyphs numbers used dicts e a b c h =
    fails_on (texts_from cff v tokens depth dicts (map (index_in used) numbers) 0 glyphs) (λ texts. Ok (record { dicts = dicts; places = map (index_in used) numbers; texts = texts })) (drawn cff v tokens depth glyphs) e (sym (rw (a, b, c) refl)) h

pub texts_fail : (bound : Option ℕ) (cff : Cff2) (v : Option Variation) (tokens depth : ℕ) (glyphs numbers : List (Option ℕ)) (used : List ℕ) (dicts : List NewDict) (e : Error)
    → numbers_from cff 0 glyphs ≡ Ok numbers → counted_dicts (dict_bound cff) (present numbers) ≡ Ok used → new_dicts cff v used ≡ Ok dicts
    → FailsWithin bound texts_size e (texts_from cff v tokens depth dicts (map (index_in used) numbers) 0 glyphs) → FailsWithin bound drawn_size e (drawn cff v tokens depth glyphs)
texts_fail bound cff v tokens depth glyphs numbers used dicts e a b c h = elim h [
  | inl f ↦ inl (fails_at cff v tokens depth glyphs numbers used dicts e a b c f)
  | inr p ↦ inr (
    p.0,
    record {
      most = p.1.most;
      is_set = p.1.is_set;
      longer = λ d is.
          let s = drawn_steps cff v tokens depth glyphs d is in
          let same_numbers : numbers ≡ s.numbers = same_Ok _ _ (sym a ∙ s.numbers_are) in
          let same_used : used ≡ s.used = same_Ok _ _ (sym b ∙ ap (λ (l : List (Option ℕ)). counted_dicts (dict_bound cff) (present l)) same_numbers ∙ s.used_are) in
          let same_dicts : dicts ≡ d.dicts = same_Ok _ _ (sym c ∙ ap (new_dicts cff v) same_used ∙ s.dicts_are) in
          let same_places : map (index_in used) numbers ≡ d.places = ap (λ (l : List ℕ). map (index_in l) numbers) same_used ∙ ap (map (index_in s.used)) same_numbers ∙ sym s.places_are in
          p.1.longer d.texts (
          ap (λ (l : List NewDict). texts_from cff v tokens depth l (map (index_in used) numbers) 0 glyphs) same_dicts
          ∙ ap (λ (l : List ℕ). texts_from cff v tokens depth d.dicts l 0 glyphs) same_places
          ∙ s.texts_are
          );
    },
  )
]

-- what is drawn keeps a bound
pub drawn_keeps : (bound : Option ℕ) (read : Result Drawn Error) (d : Drawn) → read ≡ Ok d → is_past bound (drawn_size d) ≡ false → KeepsBound bound read
drawn_keeps bound read d e h = rw e h

-- ---- the table
making_fails_at : (bytes : List ℕ) (r : Request) (tokens depth : ℕ) (o : Opened) (e : Error) → some_requested r.glyphs ≡ true → opened bytes r ≡ Ok o → Fails e (drawn o.cff o.variation tokens depth r.glyphs) → Fails e (made_table bytes r tokens depth)
unfolding made_table
making_fails_at bytes r tokens depth o e some open_is h =
    fails_on (drawn o.cff o.variation tokens depth r.glyphs) (parts_of o) (made_table bytes r tokens depth) e (sym (rw (some, open_is) refl)) h

drawn_there : (bytes : List ℕ) (r : Request) (tokens depth : ℕ) (o : Opened) → opened bytes r ≡ Ok o → drawn_of bytes r tokens depth ≡ drawn o.cff o.variation tokens depth r.glyphs
unfolding drawn_of
drawn_there bytes r tokens depth o e = rw e refl

pub making_fails : (bound : Option ℕ) (bytes : List ℕ) (r : Request) (tokens depth : ℕ) (o : Opened) (e : Error) → some_requested r.glyphs ≡ true → opened bytes r ≡ Ok o → FailsWithin bound drawn_size e (drawn o.cff o.variation tokens depth r.glyphs)
    → FailsMaking bytes r tokens depth bound e
making_fails bound bytes r tokens depth o e some open_is h = elim h [
  | inl f ↦ inl (making_fails_at bytes r tokens depth o e some open_is f)
  | inr p ↦ inr (p.0, record { most = p.1.most; is_set = p.1.is_set; longer = λ d is. p.1.longer d (sym (drawn_there bytes r tokens depth o open_is) ∙ is) })
]

pub making_keeps : (bound : Option ℕ) (bytes : List ℕ) (r : Request) (tokens depth : ℕ) (o : Opened) → opened bytes r ≡ Ok o → KeepsBound bound (drawn o.cff o.variation tokens depth r.glyphs) → KeepsBound bound (drawn_of bytes r tokens depth)
making_keeps bound bytes r tokens depth o open_is h = rw (drawn_there bytes r tokens depth o open_is) h

pub making_boxes : (bytes : List ℕ) (r : Request) (tokens depth : ℕ) (o : Opened) (d : Drawn) (boxes : List (Option Bounds)) → opened bytes r ≡ Ok o → drawn o.cff o.variation tokens depth r.glyphs ≡ Ok d → boxes ≡ text_boxes d.texts
    → HasBoxes boxes (drawn_of bytes r tokens depth)
making_boxes bytes r tokens depth o d boxes open_is is are = rw (drawn_there bytes r tokens depth o open_is, is) are

-- the box that is reckoned of the boxes
pub box_is : (d : Drawn) (boxes given : List (Option Bounds)) (least : Option Bounds) (box : List ℤ) → boxes ≡ text_boxes d.texts → given ≡ boxes → least ≡ least_box given → box ≡ font_box least → box ≡ drawn_box d
unfolding drawn_box
box_is d boxes given least box a b c e = e ∙ ap font_box (c ∙ ap least_box (b ∙ a))

-- the table of what is drawn
pub made_there : (bytes : List ℕ) (r : Request) (tokens depth : ℕ) (o : Opened) (d : Drawn) (matrix : Option (List Number)) (box : List ℤ) (dicts : List NewDict) (places : List ℕ) → some_requested r.glyphs ≡ true → opened bytes r ≡ Ok o
    → drawn o.cff o.variation tokens depth r.glyphs ≡ Ok d → matrix ≡ o.matrix → box ≡ drawn_box d → dicts ≡ d.dicts → places ≡ d.places → made_table bytes r tokens depth ≡ made_of (new_parts matrix box dicts places (all_filled d.texts))
unfolding made_table
made_there bytes r tokens depth o d matrix box dicts places some open_is is m b ds ps = rw (some, open_is, is, m, b, ds, ps) refl
