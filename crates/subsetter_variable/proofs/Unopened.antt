-- A font that can't be opened has no outlines in `glyf`.
use Rattle.std.proofs.Common.{◌≡◌, ℕ, ◌+◌, ◌<◌, Bool, true, false, leb, List, length, Option, Some, None, Result, Ok, Err, refl, sym, ap, ◌∙◌, ◌⊎◌, inl, inr, arith}
use Rattle.std.specs.Prelude.{codes}
use Rattle.std.specs.Option.{option_and_then, ok_or}
use Rattle.std.specs.Result.{result_ok}
use Rattle.std.proofs.lemmas.Bool.{leb-true}
use Rattle.subsetter_base.specs.Bytes.{◌>>=◌}
use Rattle.subsetter_base.specs.declared.error.Error.{Error}
use Rattle.subsetter_base.specs.declared.error.Error.TheVariants.{UnknownKind, MalformedFont}
use Rattle.subsetter_sfnt.specs.declared.face.FontKind.{FontKind}
use Rattle.subsetter_sfnt.specs.declared.face.FontKind.TheVariants.{Collection, Single}
use Rattle.subsetter_sfnt.specs.Extras.{all_extras, by_hinting, by_names, by_glyph_names}
use Rattle.subsetter_sfnt.specs.Fault.{HasOpeningFault, no_kind, no_entry, entry_outside, no_face, nested, cut_directory, no_outlines, lone_cff2}
use Rattle.subsetter_sfnt.specs.FontAt.{font_at}
use Rattle.subsetter_sfnt.specs.Plain.{opened_by_kind, opened_header, opened}
use Rattle.subsetter_sfnt.specs.Read.{Font, kind_at, collection_entry, if_single, header_by_kind, header_offset, records_at, records, table_in, table, stored}

-- ---- without a header

past_by : (bytes : List ℕ) (at : ℕ) (b : Bool) → leb (at + 4) (length bytes) ≡ b → length bytes < at → kind_at bytes at ≡ None
past_by bytes at true h lt = absurd (omega (arith, leb-true (at + 4) (length bytes) h))
past_by bytes at false h lt = rw h refl

-- past the end there is no word
past_end : (bytes : List ℕ) (at : ℕ) → length bytes < at → kind_at bytes at ≡ None
past_end bytes at lt = past_by bytes at (leb (at + 4) (length bytes)) refl lt

without_kind : (font : Font) → kind_at font.bytes 0 ≡ None → header_offset font ≡ None
unfolding header_offset
without_kind font h = rw h refl

without_entry : (font : Font) → kind_at font.bytes 0 ≡ Some Collection → collection_entry font ≡ None → header_offset font ≡ None
unfolding header_offset
without_entry font k c = rw (k, c) refl

without_face : (font : Font) (at : ℕ) → kind_at font.bytes 0 ≡ Some Collection → collection_entry font ≡ Some at → (kind_at font.bytes at ≡ None) ⊎ (kind_at font.bytes at ≡ Some Collection) → header_offset font ≡ None
unfolding header_offset
without_face font at k c (inl w) = rw (k, c, w) refl
without_face font at k c (inr w) = rw (k, c, w) refl

-- ---- without records

-- no table, whatever is asked for
module _ (font : Font) (tag : List ℕ) where
  unread : records font ≡ None → stored font tag ≡ None
  unread h = ap (option_and_then (λ directory. table_in font.bytes directory tag)) h

  headless : header_offset font ≡ None → stored font tag ≡ None
  headless h = unread (ap (option_and_then (λ at. records_at font.bytes at)) h)

-- ---- `glyf` is asked for always

abbrev by_choice : Bool → Bool → Bool → List ℕ → Option (List ℕ) → Option (List ℕ)
by_choice h n g tag found = by_glyph_names g tag (by_names n tag (by_hinting h tag found))

glyf_asked : (h n g : Bool) (found : Option (List ℕ)) → by_choice h n g (codes "glyf") found ≡ found
glyf_asked true true true found = refl
glyf_asked true true false found = refl
glyf_asked true false true found = refl
glyf_asked true false false found = refl
glyf_asked false true true found = refl
glyf_asked false true false found = refl
glyf_asked false false true found = refl
glyf_asked false false false found = refl

unasked : (font : Font) → table font (codes "glyf") ≡ None → stored font (codes "glyf") ≡ None
unasked font h = sym (glyf_asked font.extras.hinting font.extras.names font.extras.glyph_names (stored font (codes "glyf"))) ∙ h

-- ---- a font that can't be opened

pub no_glyf : (font : Font) (e : Error) → HasOpeningFault font e → stored font (codes "glyf") ≡ None
no_glyf font e (no_kind k) = headless font (codes "glyf") (without_kind font k)
no_glyf font e (no_entry k c) = headless font (codes "glyf") (without_entry font k c)
no_glyf font e (entry_outside at k c far) = headless font (codes "glyf") (without_face font at k c (inl (past_end font.bytes at far)))
no_glyf font e (no_face at k c w) = headless font (codes "glyf") (without_face font at k c (inl w))
no_glyf font e (nested at k c w) = headless font (codes "glyf") (without_face font at k c (inr w))
no_glyf font e (cut_directory at p r) = unread font (codes "glyf") (ap (option_and_then (λ k. records_at font.bytes k)) p ∙ r)
no_glyf font e (no_outlines r g c c2) = unasked font g
no_glyf font e (lone_cff2 g c c2) = unasked font g

-- ---- without a directory there is no table

face_agrees : (at : ℕ) (word : Option FontKind) → result_ok (ok_or word MalformedFont >>= λ kind. ok_or (if_single kind at) MalformedFont) ≡ option_and_then (λ kind. if_single kind at) word
face_agrees at None = refl
face_agrees at (Some Single) = refl
face_agrees at (Some Collection) = refl

entry_agrees : (font : Font) (entry : Option ℕ) → result_ok (ok_or entry MalformedFont >>= λ at. (ok_or (kind_at font.bytes at) MalformedFont >>= λ kind. ok_or (if_single kind at) MalformedFont))
    ≡ option_and_then (λ at. option_and_then (λ kind. if_single kind at) (kind_at font.bytes at)) entry
entry_agrees font None = refl
entry_agrees font (Some at) = face_agrees at (kind_at font.bytes at)

kind_agrees : (font : Font) (word : Option FontKind) → result_ok (ok_or word UnknownKind >>= λ kind. opened_by_kind kind font) ≡ option_and_then (λ kind. header_by_kind kind font) word
kind_agrees font None = refl
kind_agrees font (Some Single) = refl
kind_agrees font (Some Collection) = entry_agrees font (collection_entry font)

header_agrees : (font : Font) → result_ok (opened_header font) ≡ header_offset font
unfolding opened_header header_offset
header_agrees font = kind_agrees font (kind_at font.bytes 0)

found_agrees : (found : Option (List ℕ)) → result_ok (ok_or found MalformedFont) ≡ found
found_agrees None = refl
found_agrees (Some records) = refl

records_agree : (bytes : List ℕ) (header : Result ℕ Error) → result_ok (header >>= λ at. ok_or (records_at bytes at) MalformedFont) ≡ option_and_then (λ at. records_at bytes at) (result_ok header)
records_agree bytes (Ok at) = found_agrees (records_at bytes at)
records_agree bytes (Err e) = refl

opened_agrees : (font : Font) → result_ok (opened font) ≡ records font
unfolding opened
opened_agrees font = records_agree font.bytes (opened_header font) ∙ ap (option_and_then (λ at. records_at font.bytes at)) (header_agrees font)

pub nothing_stored : (font : Font) (tag : List ℕ) (e : Error) → opened font ≡ Err e → stored font tag ≡ None
nothing_stored font tag e h = unread font tag (sym (opened_agrees font) ∙ ap result_ok h)

-- the directory doesn't depend on what is asked for
same_header : (font : Font) → header_offset (font_at font.bytes font.index all_extras) ≡ header_offset font
unfolding header_offset
same_header font = by (kind_at font.bytes 0)
  where
    by : (o : Option FontKind) → option_and_then (λ kind. header_by_kind kind (font_at font.bytes font.index all_extras)) o ≡ option_and_then (λ kind. header_by_kind kind font) o
    by None = refl
    by (Some Single) = refl
    by (Some Collection) = refl

pub same_stored : (font : Font) (tag : List ℕ) → stored (font_at font.bytes font.index all_extras) tag ≡ stored font tag
same_stored font tag = ap (λ (o : Option ℕ). option_and_then (λ directory. table_in font.bytes directory tag) (option_and_then (λ at. records_at font.bytes at) o)) (same_header font)
