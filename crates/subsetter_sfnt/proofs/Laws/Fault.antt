-- A font that isn't opened has a fault of the error's name, and one that is opened has none.
use Rattle.std.proofs.Common.{◌≡◌, ℕ, ◌+◌, ◌<◌, Bool, true, false, cond, leb, List, length, Option, Some, None, Result, Ok, Err, refl, sym, ap, subst, ◌∙◌, ◌⊎◌, inl, inr, arith}
use Rattle.std.specs.Prelude.{codes, is_some, IsSome}
use Rattle.std.specs.Option.{option_and_then, ok_or}
use Rattle.std.proofs.lemmas.Bool.{leb-true}
use Rattle.subsetter_base.specs.Bytes.{◌>>=◌}
use Rattle.subsetter_base.specs.declared.error.Error.{Error}
use Rattle.subsetter_base.specs.declared.error.Error.TheVariants.{UnknownKind, MalformedFont, Unimplemented}
use Rattle.subsetter_base.proofs.Results.{failed_is, done_is, ok_not_err}
use Rattle.subsetter_base.proofs.Options.{some_not_none}
use Rattle.subsetter_sfnt.specs.declared.face.FontKind.{FontKind}
use Rattle.subsetter_sfnt.specs.declared.face.FontKind.TheVariants.{Collection, Single}
use Rattle.subsetter_sfnt.specs.declared.flavor.FontFlavor.{FontFlavor}
use Rattle.subsetter_sfnt.specs.declared.flavor.FontFlavor.TheVariants.{TrueType, Cff}
use Rattle.subsetter_sfnt.specs.Extras.{requested}
use Rattle.subsetter_sfnt.specs.Read.{Font, kind_at, collection_entry, if_single, header_offset, records_at, records, table, table_in}
use Rattle.subsetter_sfnt.specs.Plain.{opened_by_kind, opened_header, opened, flavored}
use Rattle.subsetter_sfnt.specs.Fault.{HasOpeningFault, no_kind, no_entry, entry_outside, no_face, nested, cut_directory, no_outlines, lone_cff2}

-- ---- the header

-- what each outcome of the header's steps says
abbrev HeaderCase : Font → Result ℕ Error → Type 0
HeaderCase font r = ((e : Error) × (r ≡ Err e) × HasOpeningFault font e) ⊎ ((at : ℕ) × (r ≡ Ok at) × (header_offset font ≡ Some at))

in_face : (font : Font) (at : ℕ) (word : Option FontKind) → kind_at font.bytes 0 ≡ Some Collection → collection_entry font ≡ Some at → kind_at font.bytes at ≡ word
    → HeaderCase font (ok_or word MalformedFont >>= λ kind. ok_or (if_single kind at) MalformedFont)
unfolding header_offset
in_face font at None k c w = inl (MalformedFont, refl, no_face at k c w)
in_face font at (Some Collection) k c w = inl (MalformedFont, refl, nested at k c w)
in_face font at (Some Single) k c w = inr (at, refl, rw (k, c, w) refl)

in_entry : (font : Font) (entry : Option ℕ) → kind_at font.bytes 0 ≡ Some Collection → collection_entry font ≡ entry
    → HeaderCase font (ok_or entry MalformedFont >>= λ at. (ok_or (kind_at font.bytes at) MalformedFont >>= λ kind. ok_or (if_single kind at) MalformedFont))
in_entry font None k c = inl (MalformedFont, refl, no_entry k c)
in_entry font (Some at) k c = in_face font at (kind_at font.bytes at) k c refl

in_kind : (font : Font) (word : Option FontKind) → kind_at font.bytes 0 ≡ word → HeaderCase font (ok_or word UnknownKind >>= λ kind. opened_by_kind kind font)
unfolding header_offset
in_kind font None k = inl (UnknownKind, refl, no_kind k)
in_kind font (Some Single) k = inr (0, refl, rw k refl)
in_kind font (Some Collection) k = in_entry font (collection_entry font) k refl

header_case : (font : Font) → HeaderCase font (opened_header font)
unfolding opened_header
header_case font = in_kind font (kind_at font.bytes 0) refl

-- ---- the directory

abbrev OpeningCase : Font → Result (List ℕ) Error → Type 0
OpeningCase font r = ((e : Error) × (r ≡ Err e) × HasOpeningFault font e) ⊎ ((d : List ℕ) × (r ≡ Ok d) × (records font ≡ Some d))

in_records : (font : Font) (at : ℕ) (found : Option (List ℕ)) → header_offset font ≡ Some at → records_at font.bytes at ≡ found → OpeningCase font (ok_or found MalformedFont)
in_records font at None h r = inl (MalformedFont, refl, cut_directory at h r)
in_records font at (Some d) h r = inr (d, refl, ap (option_and_then (λ k. records_at font.bytes k)) h ∙ r)

-- the records of the header
abbrev from_header : Font → Result ℕ Error → Result (List ℕ) Error
from_header font header = header >>= λ at. ok_or (records_at font.bytes at) MalformedFont

in_header : (font : Font) (header : Result ℕ Error) → HeaderCase font header → OpeningCase font (from_header font header)
in_header font header (inl c) = inl (c.0, ap (from_header font) c.1, c.2)
in_header font header (inr c) = subst (OpeningCase font) (sym (ap (from_header font) c.1)) (in_records font c.0 (records_at font.bytes c.0) c.2 refl)

opening_case : (font : Font) → OpeningCase font (opened font)
unfolding opened
opening_case font = in_header font (opened_header font) (header_case font)

by_case : (font : Font) (r : Result (List ℕ) Error) (e : Error) → OpeningCase font r → r ≡ Err e → HasOpeningFault font e
by_case font r e (inl c) h = subst (HasOpeningFault font) (failed_is {A = List ℕ} c.0 e (sym c.1 ∙ h)) c.2
by_case font r e (inr c) h = absurd (ok_not_err {A = List ℕ} r c.0 e c.1 h)

by_records : (font : Font) (r : Result (List ℕ) Error) (d : List ℕ) → OpeningCase font r → r ≡ Ok d → records font ≡ Some d
by_records font r d (inl c) h = absurd (ok_not_err {A = List ℕ} r d c.0 h c.1)
by_records font r d (inr c) h = c.2 ∙ ap (λ (x : List ℕ). Some x) (done_is {A = List ℕ} c.0 d (sym c.1 ∙ h))

-- a font that isn't opened has a fault of that name
pub opened_refused : (font : Font) (e : Error) → opened font ≡ Err e → HasOpeningFault font e
opened_refused font e h = by_case font (opened font) e (opening_case font) h

-- the records of a font that is opened
pub opened_records : (font : Font) (d : List ℕ) → opened font ≡ Ok d → records font ≡ Some d
opened_records font d h = by_records font (opened font) d (opening_case font) h

-- its tables are found among these records
pub opened_table : (font : Font) (d tag : List ℕ) → opened font ≡ Ok d → table font tag ≡ requested font.extras (table_in font.bytes d) tag
opened_table font d tag h =
    let by : Option (List ℕ) → Option (List ℕ) = λ o. requested font.extras (λ t. option_and_then (λ directory. table_in font.bytes directory t) o) tag in
    ap by (opened_records font d h)

-- ---- the kind of the outlines

in_tables : (font : Font) (o1 o2 o3 : Option (List ℕ)) (e : Error) → IsSome (records font) → table font (codes "glyf") ≡ o1 → table font (codes "CFF ") ≡ o2 → table font (codes "CFF2") ≡ o3
    → cond (is_some o1) (Ok TrueType) (cond (is_some o2) (Ok Cff) (cond (is_some o3) (Err Unimplemented) (Err UnknownKind))) ≡ Err e → HasOpeningFault font e
in_tables font (Some a) o2 o3 e r h1 h2 h3 h = absurd cc
in_tables font None (Some b) o3 e r h1 h2 h3 h = absurd cc
in_tables font None None (Some c) e r h1 h2 h3 h = subst (HasOpeningFault font) (failed_is {A = FontFlavor} Unimplemented e h) (lone_cff2 h1 h2 (rw h3 refl))
in_tables font None None None e r h1 h2 h3 h = subst (HasOpeningFault font) (failed_is {A = FontFlavor} UnknownKind e h) (no_outlines r h1 h2 h3)

-- a font without outlines that are taken has a fault of that name
pub flavored_refused : (font : Font) (d : List ℕ) (e : Error) → opened font ≡ Ok d → flavored (requested font.extras (table_in font.bytes d)) ≡ Err e → HasOpeningFault font e
unfolding flavored
flavored_refused font d e o h =
    let t = λ (tag : List ℕ). opened_table font d tag o in
    in_tables font (requested font.extras (table_in font.bytes d) (codes "glyf")) (requested font.extras (table_in font.bytes d) (codes "CFF ")) (requested font.extras (table_in font.bytes d) (codes "CFF2")) e (rw (opened_records font d o) refl) (t (codes "glyf")) (t (codes "CFF ")) (t (codes "CFF2")) h

-- ---- there is no fault

past_by : (bytes : List ℕ) (at : ℕ) (b : Bool) → leb (at + 4) (length bytes) ≡ b → length bytes < at → kind_at bytes at ≡ None
past_by bytes at true h lt = absurd (omega (arith, leb-true (at + 4) (length bytes) h))
past_by bytes at false h lt = rw h refl

-- past the end there is no word
past_end : (bytes : List ℕ) (at : ℕ) → length bytes < at → kind_at bytes at ≡ None
past_end bytes at lt = past_by bytes at (leb (at + 4) (length bytes)) refl lt

none_here : (font : Font) → kind_at font.bytes 0 ≡ None → header_offset font ≡ None
unfolding header_offset
none_here font h = rw h refl

no_face_at : (font : Font) (at : ℕ) → kind_at font.bytes 0 ≡ Some Collection → collection_entry font ≡ Some at → (kind_at font.bytes at ≡ None) ⊎ (kind_at font.bytes at ≡ Some Collection) → header_offset font ≡ None
unfolding header_offset
no_face_at font at k c (inl w) = rw (k, c, w) refl
no_face_at font at k c (inr w) = rw (k, c, w) refl

no_header : (font : Font) → kind_at font.bytes 0 ≡ Some Collection → (collection_entry font ≡ None) ⊎ ((at : ℕ) × (collection_entry font ≡ Some at) × ((kind_at font.bytes at ≡ None) ⊎ (kind_at font.bytes at ≡ Some Collection))) → header_offset font ≡ None
unfolding header_offset
no_header font k (inl c) = rw (k, c) refl
no_header font k (inr c) = no_face_at font c.0 k c.1 c.2

unread : (font : Font) (d : List ℕ) → opened font ≡ Ok d → header_offset font ≡ None → ⊥
unread font d o h = some_not_none (records font) d (opened_records font d o) (ap (option_and_then (λ k. records_at font.bytes k)) h)

-- what is answered without `glyf` and `CFF `
abbrev failed_or : Option (List ℕ) → Result FontFlavor Error
failed_or o3 = cond (is_some o3) (Err Unimplemented) (Err UnknownKind)

not_taken : (f : FontFlavor) (o1 o2 o3 : Option (List ℕ)) → o1 ≡ None → o2 ≡ None → cond (is_some o1) (Ok TrueType) (cond (is_some o2) (Ok Cff) (failed_or o3)) ≡ Ok f → ⊥
not_taken f (Some a) o2 o3 h1 h2 h = cc
not_taken f None (Some b) o3 h1 h2 h = cc
not_taken f None None (Some x) h1 h2 h = cc
not_taken f None None None h1 h2 h = cc

taken : (font : Font) (d : List ℕ) (f : FontFlavor) → opened font ≡ Ok d → flavored (requested font.extras (table_in font.bytes d)) ≡ Ok f → table font (codes "glyf") ≡ None → table font (codes "CFF ") ≡ None → ⊥
unfolding flavored
taken font d f o h g c =
    not_taken f (requested font.extras (table_in font.bytes d) (codes "glyf")) (requested font.extras (table_in font.bytes d) (codes "CFF ")) (requested font.extras (table_in font.bytes d) (codes "CFF2")) (sym (opened_table font d (codes "glyf") o) ∙ g) (sym (opened_table font d (codes "CFF ") o) ∙ c) h

-- a font that is opened and has outlines that are taken has no fault
pub opened_clean : (font : Font) (d : List ℕ) (f : FontFlavor) (e : Error) → opened font ≡ Ok d → flavored (requested font.extras (table_in font.bytes d)) ≡ Ok f → HasOpeningFault font e → ⊥
opened_clean font d f e o h (no_kind k) = unread font d o (none_here font k)
opened_clean font d f e o h (no_entry k c) = unread font d o (no_header font k (inl c))
opened_clean font d f e o h (entry_outside at k c far) = unread font d o (no_header font k (inr (at, c, inl (past_end font.bytes at far))))
opened_clean font d f e o h (no_face at k c w) = unread font d o (no_header font k (inr (at, c, inl w)))
opened_clean font d f e o h (nested at k c w) = unread font d o (no_header font k (inr (at, c, inr w)))
opened_clean font d f e o h (cut_directory at p r) = some_not_none (records font) d (opened_records font d o) (ap (option_and_then (λ k. records_at font.bytes k)) p ∙ r)
opened_clean font d f e o h (no_outlines r g c c2) = taken font d f o h g c
opened_clean font d f e o h (lone_cff2 g c c2) = taken font d f o h g c
