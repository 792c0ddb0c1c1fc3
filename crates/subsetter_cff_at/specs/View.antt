-- What requests, open tables and drawn glyphs in memory show.
use Rattle.std.specs.Prelude.{◌≡◌, ◌⊎◌, ℕ, ◌+◌, ◌-◌, ◌^◌, min, false, Some, None, List, [], ◌∷◌, ◌++◌, length, map}
use Rattle.std.specs.Prelude.{Option, Result, Ok, IfOk}
use Rattle.std.specs.List.{concat}
use Rattle.subsetter_base.specs.Bytes.{◌>>=◌}
use Rattle.subsetter_base.specs.Gives.{Fails}
use Rattle.subsetter_base.specs.Within.{IsTooLong, is_past}
use Rattle.subsetter_base.specs.declared.error.Error.{Error}
use Rattle.subsetter_base.specs.declared.error.Error.TheVariants.{OverflowError}
use Rattle.subsetter_cffdata.specs.Indexes.Index.{offsets}
use Rattle.subsetter_cff.specs.Write.NewDicts.MatrixView.{shown}
use Rattle.subsetter_cff2.specs.Cff2.{Cff2}
use Rattle.subsetter_cff2.specs.Cff2View.{cff2_of}
use Rattle.subsetter_cff2.specs.Made2.{NewDict}
use Rattle.subsetter_cff2.specs.Made2View.{dict_view, HasTexts}
use Rattle.subsetter_cff2.specs.Variation.{Variation}
use Rattle.subsetter_boxes.specs.CharstringBox.{charstring_box}
use Rattle.subsetter_points.specs.declared.bounds.Bounds.{Bounds}
use Rattle.subsetter_cff_at.specs.Request.{Request}
use Rattle.subsetter_cff_at.specs.Plain.{Opened, Drawn, drawn, drawn_of, made_table, text_boxes, text_if, all_filled}
use Rattle.subsetter_cff_at.specs.Plain.{filled, texts_size, texts_from}
use Rattle.subsetter_cff_at.specs.declared.opening.OpenTable.{OpenTable}
use Rattle.subsetter_cff_at.specs.declared.request.TableRequest.{TableRequest}
use Rattle.subsetter_cff_at.specs.declared.texts.Texts.{Texts}
use Rattle.subsetter_cff_at.specs.declared.drawing.DrawnGlyphs.{DrawnGlyphs}

abbrev pub request_of : TableRequest → Request
request_of r = record { at = r.coordinates.now; glyphs = r.glyphs.now; units = r.units_per_em }

abbrev pub opened_of : OpenTable → Opened
opened_of o = record { cff = cff2_of o.table; matrix = shown o.matrix; variation = o.variation.variation }

-- the bytes that are counted of requested glyphs, with a charstring more
abbrev pub counted_with : ℕ → Option (List ℕ) → ℕ
counted_with n None = n
counted_with n (Some text) = min (n + length text) (2 ^ 64 - 1)

-- the charstrings of glyphs in memory: each end is the offset that an INDEX gives
pub record AreTexts (texts : List (Option (List ℕ))) (t : Texts) : Type 0 where
  pub char_strings : t.char_strings.items ≡ concat (all_filled texts)
  pub ends : t.ends.items ≡ offsets 1 (all_filled texts)
  pub boxes : t.boxes.items ≡ text_boxes texts
  pub requested : t.requested ≡ min (texts_size texts) (2 ^ 64 - 1)

-- one more
pub record IsPut (old new : Texts) (text : Option (List ℕ)) : Type 0 where
  pub char_strings : new.char_strings.items ≡ old.char_strings.items ++ filled text
  pub ends : new.ends.items ≡ old.ends.items ++ (length new.char_strings.items + 1) ∷ []
  pub boxes : new.boxes.items ≡ old.boxes.items ++ charstring_box (filled text) ∷ []
  pub requested : new.requested ≡ counted_with old.requested text

-- texts before those of a result
abbrev pub with_texts : List (Option (List ℕ)) → Result (List (Option (List ℕ))) Error
    → Result (List (Option (List ℕ))) Error
with_texts front read = read >>= λ more. Ok (front ++ more)

-- numbers before those of a result
abbrev pub with_numbers : List (Option ℕ) → Result (List (Option ℕ)) Error → Result (List (Option ℕ)) Error
with_numbers front read = read >>= λ more. Ok (front ++ more)

-- a glyph more was drawn
pub record DrawsNext (cff : Cff2) (v : Option Variation) (tokens depth : ℕ) (dicts : List NewDict) (place glyph : ℕ)
    (advance : Option ℕ) (old new : Texts) : Type 0 where
  pub text : Option (List ℕ)
  pub is : text_if cff v tokens depth dicts place glyph advance ≡ Ok text
  pub put : IsPut old new text

-- all were drawn
pub record AreAllDrawn (cff : Cff2) (v : Option Variation) (tokens depth : ℕ) (dicts : List NewDict) (places : List ℕ)
    (glyphs : List (Option ℕ)) (t : Texts) : Type 0 where
  pub texts : List (Option (List ℕ))
  pub are : texts_from cff v tokens depth dicts places 0 glyphs ≡ Ok texts
  pub shown : AreTexts texts t

pub record IsDrawn (cff : Cff2) (v : Option Variation) (tokens depth : ℕ) (glyphs : List (Option ℕ)) (d : DrawnGlyphs)
    : Type 0 where
  pub plain : Drawn
  pub is : drawn cff v tokens depth glyphs ≡ Ok plain
  pub dicts : map dict_view d.dicts.items ≡ plain.dicts
  pub places : d.glyphs.places.items ≡ plain.places
  pub texts : HasTexts d.glyphs (all_filled plain.texts)
  pub boxes : d.boxes.items ≡ text_boxes plain.texts
  pub count : length d.glyphs.ends.items ≡ length glyphs

abbrev pub drawn_size : Drawn → ℕ
drawn_size d = texts_size d.texts

-- the table can't be made, for this reason; or the charstrings of the requested glyphs pass the bound on bytes
abbrev pub FailsMaking : List ℕ → Request → ℕ → ℕ → Option ℕ → Error → Type 0
FailsMaking bytes r tokens depth bound e =
    Fails e (made_table bytes r tokens depth)
    ⊎ ((e ≡ OverflowError) × IsTooLong bound drawn_size (drawn_of bytes r tokens depth))

-- these are the boxes of the charstrings, where they can be drawn
abbrev pub HasBoxes : List (Option Bounds) → Result Drawn Error → Type 0
HasBoxes boxes read = IfOk read (λ d. boxes ≡ text_boxes d.texts)

-- the charstrings of the requested glyphs don't pass a bound on bytes, where they can be drawn
abbrev pub KeepsBound : Option ℕ → Result Drawn Error → Type 0
KeepsBound bound read = IfOk read (λ d. is_past bound (drawn_size d) ≡ false)
