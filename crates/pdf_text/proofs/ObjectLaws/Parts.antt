-- The objects of a font as data, one by one, and as texts.
use Rattle.std.proofs.Common.{◌≡◌, ◌<◌, ◌≤◌, ℕ, zero, suc, ◌+◌, Bool, true, false, List, [], ◌∷◌, ◌++◌, length, get_or, map, drop, refl, sym, ap, ◌∙◌, append_assoc, add-one, drop-cons, arith, Result, Ok, Err, Vec, Global}
use Rattle.std.specs.Prelude.{IfOk, Option, Some, None, is_some, codes}
use Rattle.subsetter_base.specs.declared.error.Error.{Error}
use Rattle.std.specs.Option.{option_copied}
use Rattle.std.proofs.lemmas.List.{map-append}
use Rattle.pdf_text.specs.declared.objects.Object.{Object}
use Rattle.pdf_text.specs.declared.objects.Object.TheVariants.{Font, CidFont, FontDescriptor, FontFile, ToUnicode, CidToGidMap, CidSet, Cmap}
use Rattle.pdf_text.specs.declared.parts.FontPart.{FontPart}
use Rattle.pdf_text.specs.declared.values.FontValues.{FontValues}
use Rattle.pdf_text.specs.declared.values.OwnCmap.{OwnCmap}
use Rattle.pdf_text.specs.declared.values.ProgramKind.{ProgramKind}
use Rattle.pdf_text.specs.declared.values.ProgramKind.TheVariants.{TrueType, BareCff, OpenType}
use Rattle.pdf_text.specs.declared.values.References.{References}
use Rattle.pdf_text.specs.Dictionaries.Descriptor.{cid_set_entry, heading_entries, height_entries, program_key, weight_entries}
use Rattle.pdf_text.specs.Dictionaries.Entries.{entry, reference, system_info}
use Rattle.pdf_text.specs.Dictionaries.Fonts.{base_font, cid_heading, encoding_value, glyph_map}
use Rattle.pdf_text.specs.Dictionaries.Widths.{metric_entries}
use Rattle.pdf_text.specs.Objects.{before_cmap, before_set, bytes_of, entries_of, number_of, numbers, object_text, objects_by, objects_from, objects_of, references_by, value_end, value_of, values_of, when}
use Rattle.pdf_text.specs.Parts.{Part, part_of, part_text, part_view, parts_from, parts_of, parts_view, references_in, PartsAreObjects, PartsAreReferredTo}
use Rattle.pdf_text.specs.Strings.{strings_in}

-- what is answered where all objects were made
pub all_parts : (v : FontValues) (ns : List ℕ) (os : List Object) (r : References) (answer : Result (Vec FontPart Global) Error) → os ≡ objects_of v → r ≡ references_in ns (is_some v.cid_to_gid_map) (is_some v.cid_set) → IfOk answer (λ ps. parts_view ps.items ≡ parts_from os ns v r) → IfOk answer (λ ps. parts_view ps.items ≡ parts_of v ns)
all_parts v ns os r (Ok ps) p q h = h ∙ ap (λ (l : List Object). parts_from l ns v r) p ∙ ap (λ (s : References). parts_from (objects_of v) ns v s) q
all_parts v ns os r (Err e) p q h = tt

-- ---- as texts

texts_are : (os : List Object) (first before n : ℕ) (v : FontValues) (r : References) → n ≡ first + before → map part_text (parts_from os (numbers first before os) v r) ≡ objects_from n (values_of v r os)
texts_are [] first before n v r e = refl
texts_are (o ∷ os) first before n v r e =
    ap (λ (m : ℕ). object_text m (value_of o v r) ∷ map part_text (parts_from os (numbers first (before + 1) os) v r)) (sym e)
    ∙ ap (λ (ts : List (List ℕ)). object_text n (value_of o v r) ∷ ts) (texts_are os first (before + 1) (n + 1) v r (omega arith))

-- what a font without a CIDToGIDMap, a CIDSet or a CMap says doesn't depend on their numbers
module _ (v : FontValues) (r s : References) (cid_font : r.cid_font ≡ s.cid_font) (descriptor : r.descriptor ≡ s.descriptor) (program : r.program ≡ s.program) (to_unicode : r.to_unicode ≡ s.to_unicode) (glyphs : glyph_map v.kind (is_some v.cid_to_gid_map) r.cid_to_gid_map ≡ glyph_map v.kind (is_some v.cid_to_gid_map) s.cid_to_gid_map) (cid_set : cid_set_entry (is_some v.cid_set) r.cid_set ≡ cid_set_entry (is_some v.cid_set) s.cid_set) (encoding : encoding_value v.encoding (is_some v.columns) r.encoding ≡ encoding_value v.encoding (is_some v.columns) s.encoding) where
  abbrev font_with : List ℕ → ℕ → ℕ → List ℕ
  font_with encoding cid_font to_unicode = entry (codes "Type") (codes "/Font") ++ (entry (codes "Subtype") (codes "/Type0")
      ++ (entry (codes "BaseFont") (codes "/" ++ base_font v) ++ (entry (codes "Encoding") encoding
      ++ (entry (codes "DescendantFonts") (codes "[" ++ (reference cid_font ++ codes "]")) ++ entry (codes "ToUnicode") (reference to_unicode)))))

  abbrev descriptor_with : ℕ → List ℕ → List ℕ
  descriptor_with program cid_set = heading_entries v.descriptor ++ (height_entries v.descriptor ++ (weight_entries v.descriptor
      ++ (entry (program_key v.kind) (reference program) ++ cid_set)))

  abbrev cid_font_with : ℕ → List ℕ → List ℕ
  cid_font_with descriptor glyphs = cid_heading v.kind v.descriptor.font_name.now ++ (entry (codes "CIDSystemInfo") system_info
      ++ (entry (codes "FontDescriptor") (reference descriptor) ++ (glyphs ++ metric_entries v)))

  same_entries : (o : Object) → entries_of o v r ≡ entries_of o v s
  same_entries Font =
      ap (λ (l : List ℕ). font_with l r.cid_font r.to_unicode) encoding
      ∙ ap (λ (n : ℕ). font_with (encoding_value v.encoding (is_some v.columns) s.encoding) n r.to_unicode) cid_font
      ∙ ap (λ (n : ℕ). font_with (encoding_value v.encoding (is_some v.columns) s.encoding) s.cid_font n) to_unicode
  same_entries CidFont =
      ap (λ (n : ℕ). cid_font_with n (glyph_map v.kind (is_some v.cid_to_gid_map) r.cid_to_gid_map)) descriptor
      ∙ ap (λ (l : List ℕ). cid_font_with s.descriptor l) glyphs
  same_entries FontDescriptor =
      ap (λ (n : ℕ). descriptor_with n (cid_set_entry (is_some v.cid_set) r.cid_set)) program
      ∙ ap (λ (l : List ℕ). descriptor_with s.program l) cid_set
  same_entries FontFile = refl
  same_entries ToUnicode = refl
  same_entries CidToGidMap = refl
  same_entries CidSet = refl
  same_entries Cmap = refl

  same_values : (os : List Object) → values_of v r os ≡ values_of v s os
  same_values [] = refl
  same_values (o ∷ os) =
      ap (λ (l : List ℕ). (codes "<< " ++ (l ++ value_end (bytes_of o v))) ∷ values_of v r os) (same_entries o)
      ∙ ap (λ (vs : List (List ℕ)). value_of o v s ∷ vs) (same_values os)

map_number : (first : ℕ) (kind : ProgramKind) (m a b : Bool) → glyph_map kind m (get_or (numbers first 0 (objects_by m a b)) 5 0) ≡ glyph_map kind m (first + 5)
map_number first TrueType false a b = refl
map_number first TrueType true a b = refl
map_number first BareCff m a b = refl
map_number first OpenType m a b = refl

set_number : (first : ℕ) (m a b : Bool) → cid_set_entry a (get_or (numbers first 0 (objects_by m a b)) (before_set m) 0) ≡ cid_set_entry a (first + before_set m)
set_number first m false b = refl
set_number first false true b = refl
set_number first true true b = refl

cmap_number : (first : ℕ) (m a vertical : Bool) (c : Option OwnCmap) → encoding_value c vertical (get_or (numbers first 0 (objects_by m a (is_some c))) (before_cmap m a) 0) ≡ encoding_value c vertical (first + before_cmap m a)
cmap_number first m a vertical None = refl
cmap_number first false false vertical (Some c) = refl
cmap_number first false true vertical (Some c) = refl
cmap_number first true false vertical (Some c) = refl
cmap_number first true true vertical (Some c) = refl

pub are_objects : PartsAreObjects
are_objects first v =
    let ns = numbers first 0 (objects_of v) in
    let m = is_some v.cid_to_gid_map in
    let a = is_some v.cid_set in
    texts_are (objects_of v) first 0 first v (references_in ns m a) (omega arith)
    ∙ ap (λ (vs : List (List ℕ)). objects_from first vs) (same_values v (references_in ns m a) (references_by first m a) refl refl refl refl (map_number first v.kind m a (is_some v.encoding)) (set_number first m a (is_some v.encoding)) (cmap_number first m a (is_some v.columns) v.encoding) (objects_of v))

-- ---- references

referred_by : (m a b : Bool) (ns : List ℕ) (k : ℕ) → k < length (objects_by m a b) → number_of (get_or ns 0 0) (references_in ns m a) (get_or (objects_by m a b) k Font) ≡ get_or ns k 0
referred_by m a b ns zero l = refl
referred_by m a b ns (suc zero) l = refl
referred_by m a b ns (suc (suc zero)) l = refl
referred_by m a b ns (suc (suc (suc zero))) l = refl
referred_by m a b ns (suc (suc (suc (suc zero)))) l = refl
referred_by true a b ns (suc (suc (suc (suc (suc zero))))) l = refl
referred_by false true b ns (suc (suc (suc (suc (suc zero))))) l = refl
referred_by false false true ns (suc (suc (suc (suc (suc zero))))) l = refl
referred_by false false false ns (suc (suc (suc (suc (suc zero))))) l = absurd (omega arith)
referred_by true true b ns (suc (suc (suc (suc (suc (suc zero)))))) l = refl
referred_by true false true ns (suc (suc (suc (suc (suc (suc zero)))))) l = refl
referred_by true false false ns (suc (suc (suc (suc (suc (suc zero)))))) l = absurd (omega arith)
referred_by false true true ns (suc (suc (suc (suc (suc (suc zero)))))) l = refl
referred_by false true false ns (suc (suc (suc (suc (suc (suc zero)))))) l = absurd (omega arith)
referred_by false false true ns (suc (suc (suc (suc (suc (suc zero)))))) l = absurd (omega arith)
referred_by false false false ns (suc (suc (suc (suc (suc (suc zero)))))) l = absurd (omega arith)
referred_by true true true ns (suc (suc (suc (suc (suc (suc (suc zero))))))) l = refl
referred_by true true false ns (suc (suc (suc (suc (suc (suc (suc zero))))))) l = absurd (omega arith)
referred_by true false true ns (suc (suc (suc (suc (suc (suc (suc zero))))))) l = absurd (omega arith)
referred_by true false false ns (suc (suc (suc (suc (suc (suc (suc zero))))))) l = absurd (omega arith)
referred_by false true true ns (suc (suc (suc (suc (suc (suc (suc zero))))))) l = absurd (omega arith)
referred_by false true false ns (suc (suc (suc (suc (suc (suc (suc zero))))))) l = absurd (omega arith)
referred_by false false true ns (suc (suc (suc (suc (suc (suc (suc zero))))))) l = absurd (omega arith)
referred_by false false false ns (suc (suc (suc (suc (suc (suc (suc zero))))))) l = absurd (omega arith)
referred_by true true true ns (suc (suc (suc (suc (suc (suc (suc (suc k)))))))) l = absurd (omega arith)
referred_by true true false ns (suc (suc (suc (suc (suc (suc (suc (suc k)))))))) l = absurd (omega arith)
referred_by true false true ns (suc (suc (suc (suc (suc (suc (suc (suc k)))))))) l = absurd (omega arith)
referred_by true false false ns (suc (suc (suc (suc (suc (suc (suc (suc k)))))))) l = absurd (omega arith)
referred_by false true true ns (suc (suc (suc (suc (suc (suc (suc (suc k)))))))) l = absurd (omega arith)
referred_by false true false ns (suc (suc (suc (suc (suc (suc (suc (suc k)))))))) l = absurd (omega arith)
referred_by false false true ns (suc (suc (suc (suc (suc (suc (suc (suc k)))))))) l = absurd (omega arith)
referred_by false false false ns (suc (suc (suc (suc (suc (suc (suc (suc k)))))))) l = absurd (omega arith)

pub are_referred : PartsAreReferredTo
are_referred v ns k l = referred_by (is_some v.cid_to_gid_map) (is_some v.cid_set) (is_some v.encoding) ns k l
