-- A font that isn't opened, or whose outlines aren't in CFF2 alone, has a fault, and one whose outlines are has none.
--   unopened, outlines_refused, no_outlines_fault
--   unopened_is_closed, outlines_are_closed    such a font has no static font, whatever is asked for
use Rattle.std.proofs.Common.{◌≡◌, ℕ, Bool, true, false, cond, List, Option, Some, None, Result, Ok, Err, refl, sym, ap, ◌∙◌, subst}
use Rattle.std.specs.Prelude.{◌≢◌, codes, is_some, ◌||◌}
use Rattle.std.specs.Option.{option_and_then, ok_or}
use Rattle.std.specs.Result.{result_ok}
use Rattle.subsetter_base.specs.Bytes.{◌>>=◌}
use Rattle.subsetter_base.specs.declared.error.Error.{Error}
use Rattle.subsetter_base.specs.declared.error.Error.TheVariants.{UnknownKind, MalformedFont, Unimplemented, OutOfMemory}
use Rattle.subsetter_base.proofs.Options.{is_some_of, some_of, some_not_none}
use Rattle.subsetter_base.proofs.Results.{failed_is}
use Rattle.subsetter_sfnt.specs.declared.face.FontKind.{FontKind}
use Rattle.subsetter_sfnt.specs.declared.face.FontKind.TheVariants.{Collection, Single}
use Rattle.subsetter_sfnt.specs.Read.{Font, collection_entry, header_by_kind, header_offset, if_single, kind_at, records, records_at, stored, table_in}
use Rattle.subsetter_sfnt.specs.Plain.{flavored, opened, opened_by_kind, opened_header}
use Rattle.subsetter_sfnt.proofs.Laws.Fault.{opened_refused}
use Rattle.subsetter_instance.proofs.FaultLaws.Opening.{same_find, unflavored}
use Rattle.subsetter_instance.proofs.Opened.{closed_unopened}
use Rattle.subsetter_cff_instance.specs.Answer.{IsClosedToCff}
use Rattle.subsetter_cff_instance.specs.Fault.{HasOutlinesFault, in_opening, has_glyf, has_cff}
use Rattle.subsetter_cff_instance.specs.Plain.{cff_instance_of}
use Rattle.subsetter_cff_instance.specs.Source.{has_other_outlines, outlines_or_fault}
use Rattle.subsetter_cff_instance.proofs.Steps.{OutlinesSteps, outlines_steps}

-- ---- the records of a directory that is opened are those that are read, with or without the names of errors

named : {A : Type 0} (o : Option A) (e : Error) → result_ok (ok_or o e) ≡ o
named None e = refl
named (Some x) e = refl

following : {A B : Type 0} (r : Result A Error) (f : A → Result B Error) (g : A → Option B) (o : Option A) → result_ok r ≡ o → ((x : A) → result_ok (f x) ≡ g x) → result_ok (r >>= f) ≡ option_and_then g o
following (Ok x) f g o h k = k x ∙ ap (option_and_then g) h
following (Err e) f g o h k = ap (option_and_then g) h

by_kind : (font : Font) (kind : FontKind) → result_ok (opened_by_kind kind font) ≡ header_by_kind kind font
by_kind font Single = refl
by_kind font Collection =
    following (ok_or (collection_entry font) MalformedFont) _ (λ at. option_and_then (λ kind. if_single kind at) (kind_at font.bytes at)) (collection_entry font) (named (collection_entry font) MalformedFont)
    (λ at. following (ok_or (kind_at font.bytes at) MalformedFont) (λ kind. ok_or (if_single kind at) MalformedFont) (λ kind. if_single kind at) (kind_at font.bytes at) (named (kind_at font.bytes at) MalformedFont) (λ kind. named (if_single kind at) MalformedFont))

header : (font : Font) → result_ok (opened_header font) ≡ header_offset font
unfolding opened_header header_offset
header font = following (ok_or (kind_at font.bytes 0) UnknownKind) (λ kind. opened_by_kind kind font) (λ kind. header_by_kind kind font) (kind_at font.bytes 0) (named (kind_at font.bytes 0) UnknownKind) (by_kind font)

directory : (font : Font) → result_ok (opened font) ≡ records font
unfolding opened
directory font = following (opened_header font) (λ at. ok_or (records_at font.bytes at) MalformedFont) (λ at. records_at font.bytes at) (header_offset font) (header font) (λ at. named (records_at font.bytes at) MalformedFont)

-- so a font that isn't opened has no table
not_stored : (font : Font) (e : Error) (tag : List ℕ) → opened font ≡ Err e → stored font tag ≡ None
not_stored font e tag h = ap (option_and_then (λ d. table_in font.bytes d tag)) (sym (directory font) ∙ ap result_ok h)

pub unopened : (font : Font) (e : Error) → opened font ≡ Err e → HasOutlinesFault font e
unopened font e h = in_opening (not_stored font e (codes "CFF2") h) (opened_refused font e h)

-- ---- outlines that aren't taken

-- a font without any outlines
none_flavored : (find : List ℕ → Option (List ℕ)) → find (codes "glyf") ≡ None → find (codes "CFF ") ≡ None → find (codes "CFF2") ≡ None → flavored find ≡ Err UnknownKind
unfolding flavored
none_flavored find a b c = rw (a, b, c) refl

untaken : (font : Font) (d : List ℕ) (e : Error) → opened font ≡ Ok d → outlines_or_fault (stored font) ≡ Err e → HasOutlinesFault font e
unfolding outlines_or_fault
untaken font d e o h = by (stored font (codes "glyf")) (stored font (codes "CFF ")) (stored font (codes "CFF2")) refl refl refl h
  where
    by : (glyf cff cff2 : Option (List ℕ)) → stored font (codes "glyf") ≡ glyf → stored font (codes "CFF ") ≡ cff → stored font (codes "CFF2") ≡ cff2 → cond (is_some glyf || is_some cff) (Err Unimplemented) (ok_or cff2 UnknownKind) ≡ Err e → HasOutlinesFault font e
    by (Some glyf) cff cff2 a b c k = subst (HasOutlinesFault font) (failed_is {A = List ℕ} Unimplemented e k) (has_glyf (is_some_of (stored font (codes "glyf")) glyf a))
    by None (Some cff) cff2 a b c k = subst (HasOutlinesFault font) (failed_is {A = List ℕ} Unimplemented e k) (has_cff (is_some_of (stored font (codes "CFF ")) cff b))
    by None None (Some cff2) a b c k = absurd cc
    by None None None a b c k =
        subst (HasOutlinesFault font) (failed_is {A = List ℕ} UnknownKind e k)
        (in_opening c (unflavored font d UnknownKind o (ap flavored (sym (same_find font d o)) ∙ none_flavored (stored font) a b c)))

pub outlines_refused : (font : Font) (d : List ℕ) (e : Error) → opened font ≡ Ok d → outlines_or_fault (table_in font.bytes d) ≡ Err e → HasOutlinesFault font e
outlines_refused font d e o h = untaken font d e o (ap outlines_or_fault (same_find font d o) ∙ h)

-- ---- outlines that are

pub no_outlines_fault : (font : Font) (cff2 : List ℕ) (e : Error) → OutlinesSteps (stored font) cff2 → HasOutlinesFault font e → ⊥
no_outlines_fault font cff2 e t (in_opening none f) = some_not_none (stored font (codes "CFF2")) cff2 t.cff2_is none
no_outlines_fault font cff2 e t (has_glyf there) = let g = some_of (stored font (codes "glyf")) there in some_not_none (stored font (codes "glyf")) g.0 g.1 t.no_glyf
no_outlines_fault font cff2 e t (has_cff there) = let g = some_of (stored font (codes "CFF ")) there in some_not_none (stored font (codes "CFF ")) g.0 g.1 t.no_cff

-- of a font that was opened
pub taken : (font : Font) (d cff2 : List ℕ) → opened font ≡ Ok d → outlines_or_fault (table_in font.bytes d) ≡ Ok cff2 → OutlinesSteps (stored font) cff2
taken font d cff2 o h = outlines_steps (stored font) cff2 (ap outlines_or_fault (same_find font d o) ∙ h)

-- ---- a font of which there is no static font

pub unopened_is_closed : (font : Font) (e : Error) → opened font ≡ Err e → IsClosedToCff font e
unfolding cff_instance_of
unopened_is_closed font e h = record { refused = λ settings glyphs tokens depth. rw h refl; not_memory = (closed_unopened font e h).not_memory }

not_memory : (find : List ℕ → Option (List ℕ)) (e : Error) → outlines_or_fault find ≡ Err e → e ≢ OutOfMemory
unfolding outlines_or_fault
not_memory find e h = by (has_other_outlines find) (find (codes "CFF2")) h
  where
    by : (b : Bool) (o : Option (List ℕ)) → cond b (Err Unimplemented) (ok_or o UnknownKind) ≡ Err e → e ≡ OutOfMemory → ⊥
    by true o k m = cc
    by false None k m = cc
    by false (Some x) k m = cc

pub outlines_are_closed : (font : Font) (d : List ℕ) (e : Error) → opened font ≡ Ok d → outlines_or_fault (table_in font.bytes d) ≡ Err e → IsClosedToCff font e
unfolding cff_instance_of
outlines_are_closed font d e o h = record { refused = λ settings glyphs tokens depth. rw (o, h) refl; not_memory = not_memory (table_in font.bytes d) e h }
