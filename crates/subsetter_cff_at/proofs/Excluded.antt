-- Where a table is made, there is no fault.
use Rattle.std.proofs.Common.{◌≡◌, ℕ, zero, suc, ◌+◌, ◌<◌, ◌^◌, pos, Bool, true, false, cond, List, [], ◌∷◌, length, map, Option, Some, None, refl, ap, arith, ◌∙◌, sym, subst}
use Rattle.std.specs.Prelude.{nat_lt, slice_get, Result, Ok, Err}
use Rattle.std.specs.List.{concat, flat_map}
use Rattle.std.specs.Option.{ok_or}
use Rattle.std.proofs.lemmas.Bool.{ltb-true, false≢true}
use Rattle.std.proofs.lemmas.Option.{none-some, same_Some}
use Rattle.subsetter_base.specs.Bytes.{◌>>=◌}
use Rattle.subsetter_base.specs.declared.error.Error.{Error}
use Rattle.subsetter_base.specs.declared.error.Error.TheVariants.{MalformedFont, OverflowError}
use Rattle.subsetter_cffdata.proofs.Options.{step}
use Rattle.subsetter_cffdata.specs.Dicts.Dict.{entries}
use Rattle.subsetter_cffdata.specs.Numerals.Numbers.{Number}
use Rattle.subsetter_cff.specs.Read.Entries.Lookup.{last_of}
use Rattle.subsetter_cff.specs.Read.Entries.Operators.{char_strings_operator, font_dicts_operator, font_dict_select_operator}
use Rattle.subsetter_cff.specs.Write.Laying.Layout.{Parts, char_strings_offset}
use Rattle.subsetter_cff.specs.Write.Plain.{limited}
use Rattle.subsetter_cff.specs.Write.NewDicts.WrittenNumbers.{any_long, entry_numbers, font_dict_numbers, written_numbers}
use Rattle.subsetter_cff.proofs.ReadLaws.Results.{bind_ok, same_Ok, some_of, passed}
use Rattle.subsetter_cff.proofs.WriteLaws.SourceFits.{short_front, short_back}
use Rattle.subsetter_blend.specs.Resolved.{resolved}
use Rattle.subsetter_cff2.specs.Cff2.{Cff2, wide_index, named_index, optional_offset, store_by, cff2_parts, parts_by}
use Rattle.subsetter_cff2.specs.Front2.{front_at}
use Rattle.subsetter_cff2.specs.Made2.{NewDict, new_dict, new_font_dict, new_matrix, new_box, new_parts, made_of}
use Rattle.subsetter_cff2.specs.Operators2.{store_operator}
use Rattle.subsetter_cff2.specs.PrivateDicts.Private2.{Private2, font_dict_number, private_numbered, char_string}
use Rattle.subsetter_cff2.specs.PrivateDicts.PrivateAt.{Placed, private_at_location}
use Rattle.subsetter_cff2.specs.PrivateDicts.PrivateText.{PlacedText, private_text}
use Rattle.subsetter_cff2.specs.Selection.UsedDicts.{used_dicts}
use Rattle.subsetter_cff2.specs.Variation.{Variation, optional_variation}
use Rattle.subsetter_cff2.proofs.MadeFits.{new_dict_is_placed}
use Rattle.subsetter_cff_at.specs.Fault.{HasOpeningFault, HasGlyphFault, HasLimitFault, HasFault, MadeExcludes, bad_front, bad_subroutines, bad_char_strings, bad_font_dicts, bad_store_offset, bad_store, bad_select, bad_matrix, bad_region, no_number, no_font_dict, no_private, bad_private, long_private, no_char_string, stops, wide_advance, many_font_dicts, long_matrix, large_char_strings, large_offset, none_requested, in_opening, in_glyph, in_limits}
use Rattle.subsetter_cff_at.specs.Plain.{dict_bound, present, setting, all_filled, Drawn, drawn, drawn_box, Opened, opened, parts_of, some_requested, made_table}
use Rattle.subsetter_cff_at.specs.Request.{Request}
use Rattle.subsetter_cff_at.specs.Units.{top_matrix}
use Rattle.subsetter_cff_at.proofs.Found.{few_used, requested_at}
use Rattle.subsetter_cff_at.proofs.FaultLaws.PrivateFaults.{private_stands}
use Rattle.subsetter_cff_at.proofs.FaultLaws.RunFaults.{charstring_stands}
use Rattle.subsetter_cff_at.proofs.Promised.{OpenSteps, open_steps}
use Rattle.subsetter_cff_at.proofs.DrawnGlyphs.{DrawnSteps, drawn_steps, GlyphFound, glyph_found, place_found}

-- nothing is both there and not
both : {A : Type 0} (o : Option A) (x : A) → o ≡ None → o ≡ Some x → ⊥
both o x none some = none-some x (sym none ∙ some)

refused_and_made : {A : Type 0} (r : Result A Error) (e : Error) (x : A) → r ≡ Err e → r ≡ Ok x → ⊥
refused_and_made {A = A} r e x h k = let bad : ◌≡◌ {A = Result A Error} (Err e) (Ok x) = sym h ∙ k in cc

-- ---- the table as a whole
record PartsFound (bytes : List ℕ) (axes : ℕ) (top : List ℕ) (following : ℕ) : Type 0 where
  subroutines : List (Option (List ℕ))
  subroutines_are : wide_index bytes following ≡ Some subroutines
  charstrings : List (Option (List ℕ))
  charstrings_are : named_index bytes (last_of char_strings_operator (entries top)) ≡ Some charstrings
  dicts : List (Option (List ℕ))
  dicts_are : named_index bytes (last_of font_dicts_operator (entries top)) ≡ Some dicts
  offset : Option ℕ
  offset_is : optional_offset (last_of store_operator (entries top)) ≡ Some offset
  select : Option ℕ
  select_is : optional_offset (last_of font_dict_select_operator (entries top)) ≡ Some select

parts_found : (bytes : List ℕ) (axes : ℕ) (top : List ℕ) (following : ℕ) (cff : Cff2) → parts_by bytes axes (entries top) following ≡ Some cff → PartsFound bytes axes top following
unfolding parts_by
parts_found bytes axes top following cff e =
    let a = step (wide_index bytes following) _ cff e in
    let b = step (named_index bytes (last_of char_strings_operator (entries top))) _ cff a.1.1 in
    let c = step (named_index bytes (last_of font_dicts_operator (entries top))) _ cff b.1.1 in
    let d = step (optional_offset (last_of store_operator (entries top))) _ cff c.1.1 in
    let f = step (store_by bytes axes d.0) _ cff d.1.1 in
    let g = step (optional_offset (last_of font_dict_select_operator (entries top))) _ cff f.1.1 in
    record { subroutines = a.0; subroutines_are = a.1.0; charstrings = b.0; charstrings_are = b.1.0; dicts = c.0; dicts_are = c.1.0; offset = d.0; offset_is = d.1.0; select = g.0; select_is = g.1.0 }

no_store : (bytes : List ℕ) (axes : ℕ) (top : List ℕ) (following : ℕ) (cff : Cff2) (offset : Option ℕ) → parts_by bytes axes (entries top) following ≡ Some cff → optional_offset (last_of store_operator (entries top)) ≡ Some offset → store_by bytes axes offset ≡ None → ⊥
unfolding parts_by
no_store bytes axes top following cff offset e is none =
    let a = step (wide_index bytes following) _ cff e in
    let b = step (named_index bytes (last_of char_strings_operator (entries top))) _ cff a.1.1 in
    let c = step (named_index bytes (last_of font_dicts_operator (entries top))) _ cff b.1.1 in
    let d = step (optional_offset (last_of store_operator (entries top))) _ cff c.1.1 in
    let f = step (store_by bytes axes d.0) _ cff d.1.1 in
    let same : d.0 ≡ offset = same_Some _ _ (sym d.1.0 ∙ is) in
    both (store_by bytes axes d.0) f.0 (ap (store_by bytes axes) same ∙ none) f.1.0

front_found : (bytes : List ℕ) (axes : ℕ) (cff : Cff2) → cff2_parts bytes axes ≡ Some cff → (front : List ℕ × ℕ) × ((front_at bytes ≡ Some front) × (parts_by bytes axes (entries front.0) front.1 ≡ Some cff))
unfolding cff2_parts
front_found bytes axes cff e = step (front_at bytes) _ cff e

parts_at : (bytes : List ℕ) (axes : ℕ) (cff : Cff2) (top : List ℕ) (following : ℕ) → cff2_parts bytes axes ≡ Some cff → front_at bytes ≡ Some (top, following) → parts_by bytes axes (entries top) following ≡ Some cff
parts_at bytes axes cff top following e is =
    let f = front_found bytes axes cff e in
    let same : f.0 ≡ (top, following) = same_Some _ _ (sym f.1.0 ∙ is) in
    ap (λ (q : List ℕ × ℕ). parts_by bytes axes (entries q.0) q.1) (sym same) ∙ f.1.1

no_opening_fault : (bytes : List ℕ) (r : Request) (o : Opened) (e : Error) → OpenSteps bytes r o → HasOpeningFault bytes r e → ⊥
no_opening_fault bytes r o _ s (bad_front none) = (let f = front_found bytes (length r.at) o.cff s.cff_is in both (front_at bytes) f.0 none f.1.0)
no_opening_fault bytes r o _ s (bad_subroutines top following front none) =
    (let p = parts_found bytes (length r.at) top following o.cff (parts_at bytes (length r.at) o.cff top following s.cff_is front) in both (wide_index bytes following) p.subroutines none p.subroutines_are)
no_opening_fault bytes r o _ s (bad_char_strings top following front none) =
    (let p = parts_found bytes (length r.at) top following o.cff (parts_at bytes (length r.at) o.cff top following s.cff_is front) in both (named_index bytes (last_of char_strings_operator (entries top))) p.charstrings none p.charstrings_are)
no_opening_fault bytes r o _ s (bad_font_dicts top following front none) =
    (let p = parts_found bytes (length r.at) top following o.cff (parts_at bytes (length r.at) o.cff top following s.cff_is front) in both (named_index bytes (last_of font_dicts_operator (entries top))) p.dicts none p.dicts_are)
no_opening_fault bytes r o _ s (bad_store_offset top following front none) =
    (let p = parts_found bytes (length r.at) top following o.cff (parts_at bytes (length r.at) o.cff top following s.cff_is front) in both (optional_offset (last_of store_operator (entries top))) p.offset none p.offset_is)
no_opening_fault bytes r o _ s (bad_store top following offset front is none) = no_store bytes (length r.at) top following o.cff offset (parts_at bytes (length r.at) o.cff top following s.cff_is front) is none
no_opening_fault bytes r o _ s (bad_select top following front none) =
    (let p = parts_found bytes (length r.at) top following o.cff (parts_at bytes (length r.at) o.cff top following s.cff_is front) in both (optional_offset (last_of font_dict_select_operator (entries top))) p.select none p.select_is)
no_opening_fault bytes r o _ s (bad_matrix cff is none) =
    (let same : cff ≡ o.cff = same_Some _ _ (sym is ∙ s.cff_is) in both (top_matrix cff r.units) o.matrix none (ap (λ (c : Cff2). top_matrix c r.units) same ∙ s.matrix_is))
no_opening_fault bytes r o _ s (bad_region cff is none) =
    (let same : cff ≡ o.cff = same_Some _ _ (sym is ∙ s.cff_is) in both (optional_variation cff.store r.at) o.variation none (ap (λ (c : Cff2). optional_variation c.store r.at) same ∙ s.variation_is))

-- ---- the limits that were kept
pub record AreKept (p : Parts) : Type 0 where
  pub short : any_long (written_numbers p) ≡ false
  pub size : length (concat p.char_strings) + 1 < 2 ^ 32
  pub offset : char_strings_offset p < 2 ^ 31

not_true : (b : Bool) → cond b false true ≡ true → b ≡ false
not_true true e = absurd cc
not_true false e = refl

limits_kept : (p q : Parts) → limited p ≡ Ok q → AreKept p
unfolding limited
limits_kept p q e =
    let b = passed (cond (any_long (written_numbers p)) false true) OverflowError _ q e in
    let c = passed (nat_lt (length (concat p.char_strings) + 1) (2 ^ 32)) OverflowError _ q b.1 in
    let d = passed (nat_lt (char_strings_offset p) (2 ^ 31)) OverflowError _ q c.1 in
    record { short = not_true (any_long (written_numbers p)) b.0; size = ltb-true (length (concat p.char_strings) + 1) (2 ^ 32) c.0; offset = ltb-true (char_strings_offset p) (2 ^ 31) d.0 }

pub kept : (p : Parts) (out : List ℕ) → made_of p ≡ Ok out → AreKept p
kept p out e = let a = bind_ok (limited p) _ out e in limits_kept p a.0 a.1.0

dict_short : (dicts : List NewDict) (i : ℕ) (d : NewDict) → slice_get dicts i ≡ Some d → any_long (flat_map font_dict_numbers (map new_font_dict dicts)) ≡ false → any_long (entry_numbers (new_font_dict d).private) ≡ false
dict_short [] i d at short = absurd (none-some d at)
dict_short (c ∷ dicts) zero d at short =
    ap (λ (x : NewDict). any_long (entry_numbers (new_font_dict x).private)) (sym (same_Some c d at))
    ∙ short_back (new_font_dict c).matrix (entry_numbers (new_font_dict c).private) (short_front (font_dict_numbers (new_font_dict c)) (flat_map font_dict_numbers (map new_font_dict dicts)) short)
dict_short (c ∷ dicts) (suc i) d at short = dict_short dicts i d at (short_back (font_dict_numbers (new_font_dict c)) (flat_map font_dict_numbers (map new_font_dict dicts)) short)

text_made : (cff : Cff2) (v : Option Variation) (number : ℕ) (d : NewDict) (private : Private2) → new_dict cff v number ≡ Ok d → private_numbered cff number ≡ Some private → (t : PlacedText) × (private_text v private.dict ≡ Ok t)
unfolding new_dict
text_made cff v number d private e is =
    let a = bind_ok (ok_or (private_numbered cff number) MalformedFont) _ d e in
    let b = bind_ok (private_text v a.0.dict) _ d a.1.1 in
    let same : a.0 ≡ private = same_Some _ _ (sym (some_of (private_numbered cff number) MalformedFont a.0 a.1.0) ∙ is) in
    (b.0, ap (λ (p : Private2). private_text v p.dict) (sym same) ∙ b.1.0)

module _ (bytes : List ℕ) (r : Request) (tokens depth : ℕ) (o : Opened) (d : Drawn) (out : List ℕ) (are : drawn o.cff o.variation tokens depth r.glyphs ≡ Ok d) (made : parts_of o d ≡ Ok out) where
  steps : DrawnSteps o.cff o.variation tokens depth r.glyphs d
  steps = drawn_steps o.cff o.variation tokens depth r.glyphs d are

  limits : AreKept (new_parts o.matrix (drawn_box d) d.dicts d.places (all_filled d.texts))
  limits = kept (new_parts o.matrix (drawn_box d) d.dicts d.places (all_filled d.texts)) out made

  dicts_short : any_long (flat_map font_dict_numbers (map new_font_dict d.dicts)) ≡ false
  dicts_short = short_back (new_box (drawn_box d)) (flat_map font_dict_numbers (map new_font_dict d.dicts)) (short_back (new_matrix o.matrix) _ limits.short)

  module _ (glyph advance : ℕ) (at : slice_get r.glyphs glyph ≡ Some (Some advance)) where
    found : GlyphFound o.cff o.variation tokens depth glyph advance d
    found = glyph_found o.cff o.variation tokens depth r.glyphs d steps glyph advance at

    -- the private dict that a fault names is the one that was placed
    same_private : (number : ℕ) (private : Private2) → font_dict_number o.cff glyph ≡ Some number → private_numbered o.cff number ≡ Some private → private_numbered o.cff found.number ≡ Some private
    same_private number private is there = ap (private_numbered o.cff) (same_Some _ _ (sym found.number_is ∙ is)) ∙ there

    pub no_glyph_fault : (e : Error) → HasGlyphFault o.cff o.variation tokens depth glyph advance e → ⊥
    no_glyph_fault _ (no_number none) = both (font_dict_number o.cff glyph) found.number none found.number_is
    no_glyph_fault _ (no_font_dict number is high) =
        (let p = place_found o.cff o.variation tokens depth r.glyphs d steps glyph advance at in
        let same : p.number ≡ number = same_Some _ _ (sym p.number_is ∙ is) in
        omega (arith, p.below, same, high))
    no_glyph_fault _ (no_private number is none) =
        (let p = new_dict_is_placed o.cff o.variation found.number found.dict found.dict_is in
        both (private_numbered o.cff found.number) p.source (ap (private_numbered o.cff) (same_Some _ _ (sym found.number_is ∙ is)) ∙ none) p.source_is)
    no_glyph_fault e (bad_private number private _ is there h) =
        (let t = text_made o.cff o.variation found.number found.dict private found.dict_is (same_private number private is there) in
        refused_and_made (private_text o.variation private.dict) e t.0 (private_stands o.variation private.dict e h) t.1)
    no_glyph_fault _ (long_private number private at_place is there placed long) =
        (let p = new_dict_is_placed o.cff o.variation found.number found.dict found.dict_is in
        let same : p.source ≡ private = same_Some _ _ (sym p.source_is ∙ same_private number private is there) in
        let here : p.at_location ≡ at_place = same_Some _ _ (sym p.at_location_is ∙ ap (λ (x : Private2). private_at_location o.variation x.dict) same ∙ placed) in
        false≢true (sym (dict_short d.dicts found.index found.dict found.dict_at dicts_short) ∙ ap (λ es. any_long (entry_numbers es)) p.entries_are ∙ ap (λ (x : Placed). any_long (entry_numbers x.entries)) here ∙ long))
    no_glyph_fault _ (no_char_string none) = both (char_string o.cff glyph) found.charstring none found.charstring_is
    no_glyph_fault e (stops number private at_place charstring _ is there placed here h) =
        (let p = new_dict_is_placed o.cff o.variation found.number found.dict found.dict_is in
        let same : p.source ≡ private = same_Some _ _ (sym p.source_is ∙ same_private number private is there) in
        let place : p.at_location ≡ at_place = same_Some _ _ (sym p.at_location_is ∙ ap (λ (x : Private2). private_at_location o.variation x.dict) same ∙ placed) in
        let cs : found.charstring ≡ charstring = same_Some _ _ (sym found.charstring_is ∙ here) in
        let locals : found.dict.subroutines ≡ private.subroutines = p.subroutines_are ∙ ap (λ (x : Private2). x.subroutines) same in
        let index : found.dict.data_index ≡ at_place.data_index = p.data_index_is ∙ ap (λ (x : Placed). x.data_index) place in
        refused_and_made (resolved (setting o.cff o.variation private.subroutines) tokens depth at_place.data_index (pos advance) charstring) e found.bytes
        (charstring_stands (setting o.cff o.variation private.subroutines) tokens depth at_place.data_index (pos advance) charstring e h) (rw (← locals, ← index, ← cs) found.ran))
    no_glyph_fault _ (wide_advance high) = (let small = found.small in omega arith)

  pub no_limit_fault : OpenSteps bytes r o → (e : Error) → HasLimitFault o.cff o.variation r tokens depth e → ⊥
  no_limit_fault s _ (many_font_dicts numbers is many) =
      (let same : steps.numbers ≡ numbers = same_Ok _ _ (sym steps.numbers_are ∙ is) in
      let few = few_used (dict_bound o.cff) (present steps.numbers) steps.used steps.used_are in
      let size : length steps.used ≡ length (used_dicts (dict_bound o.cff) (present numbers)) = ap length few.0 ∙ ap (λ (l : List (Option ℕ)). length (used_dicts (dict_bound o.cff) (present l))) same in
      let below = few.1 in
      omega arith)
  no_limit_fault s _ (long_matrix matrix is long) =
      (let same : o.matrix ≡ Some matrix = same_Some _ _ (sym s.matrix_is ∙ is) in
      false≢true (sym (short_front (new_matrix o.matrix) _ limits.short) ∙ ap (λ (m : Option (List Number)). any_long (new_matrix m)) same ∙ long))
  no_limit_fault s _ (large_char_strings other is large) =
      (let same : d ≡ other = same_Ok _ _ (sym are ∙ is) in
      let size = limits.size in
      omega (arith, large, ap (λ (x : Drawn). length (concat (all_filled x.texts))) same))
  no_limit_fault s _ (large_offset other matrix is matrix_is large) =
      (let same : d ≡ other = same_Ok _ _ (sym are ∙ is) in
      let here : o.matrix ≡ matrix = same_Some _ _ (sym s.matrix_is ∙ matrix_is) in
      let place = limits.offset in
      let e : char_strings_offset (new_parts o.matrix (drawn_box d) d.dicts d.places (all_filled d.texts)) ≡ char_strings_offset (new_parts matrix (drawn_box other) other.dicts other.places (all_filled other.texts))
      = ap (λ (x : Drawn). char_strings_offset (new_parts o.matrix (drawn_box x) x.dicts x.places (all_filled x.texts))) same ∙ ap (λ (m : Option (List Number)). char_strings_offset (new_parts m (drawn_box other) other.dicts other.places (all_filled other.texts))) here in
      omega (arith, large, e))

-- ---- all
record MadeSteps (bytes : List ℕ) (r : Request) (tokens depth : ℕ) (out : List ℕ) : Type 0 where
  requested : some_requested r.glyphs ≡ true
  o : Opened
  open_is : opened bytes r ≡ Ok o
  d : Drawn
  are : drawn o.cff o.variation tokens depth r.glyphs ≡ Ok d
  made : parts_of o d ≡ Ok out

made_steps : (bytes : List ℕ) (r : Request) (tokens depth : ℕ) (out : List ℕ) → made_table bytes r tokens depth ≡ Ok out → MadeSteps bytes r tokens depth out
unfolding made_table
made_steps bytes r tokens depth out e =
    let a = passed (some_requested r.glyphs) MalformedFont _ out e in
    let b = bind_ok (opened bytes r) (λ o. drawn o.cff o.variation tokens depth r.glyphs >>= parts_of o) out a.1 in
    let c = bind_ok (drawn b.0.cff b.0.variation tokens depth r.glyphs) (parts_of b.0) out b.1.1 in
    record { requested = a.0; o = b.0; open_is = b.1.0; d = c.0; are = c.1.0; made = c.1.1 }

no_fault : (bytes : List ℕ) (r : Request) (tokens depth : ℕ) (out : List ℕ) (e : Error) → MadeSteps bytes r tokens depth out → HasFault bytes r tokens depth e → ⊥
no_fault bytes r tokens depth out _ s (none_requested none) = (let a = requested_at r.glyphs s.requested in none a.glyph a.advance a.is)
no_fault bytes r tokens depth out e s (in_opening f) = no_opening_fault bytes r s.o e (open_steps bytes r s.o s.open_is) f
no_fault bytes r tokens depth out e s (in_glyph o glyph advance is at f) =
    (let same : o ≡ s.o = same_Ok _ _ (sym is ∙ s.open_is) in
    no_glyph_fault bytes r tokens depth s.o s.d out s.are s.made glyph advance at e (subst (λ (x : Opened). HasGlyphFault x.cff x.variation tokens depth glyph advance e) same f))
no_fault bytes r tokens depth out e s (in_limits o is f) =
    (let same : o ≡ s.o = same_Ok _ _ (sym is ∙ s.open_is) in
    no_limit_fault bytes r tokens depth s.o s.d out s.are s.made (open_steps bytes r s.o s.open_is) e (subst (λ (x : Opened). HasLimitFault x.cff x.variation r tokens depth e) same f))

pub made_excludes : MadeExcludes
made_excludes bytes r tokens depth out e made = no_fault bytes r tokens depth out e (made_steps bytes r tokens depth out made)
