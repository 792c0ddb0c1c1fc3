-- The parts that the plain functions answer are made of the source.
use Rattle.std.proofs.Common.{◌≡◌, ℕ, ◌+◌, ◌<◌, ◌≤◌, ◌^◌, Bool, true, false, cond, ltb, List, map, length, Option, Some, refl, ap, arith, inl, inr, ◌∙◌, sym}
use Rattle.std.specs.Prelude.{slice_get, slice_index, unwrap_or, Ok}
use Rattle.std.specs.Option.{ok_or, option_map}
use Rattle.std.specs.List.{concat}
use Rattle.std.proofs.lemmas.Bool.{cases_Bool, ltb-true}
use Rattle.std.proofs.lemmas.List.{length-map}
use Rattle.std.proofs.lemmas.Option.{same_Some, slice_get-map, get_or_from_slice_get}
use Rattle.subsetter_base.specs.Indexes.{index_of}
use Rattle.subsetter_base.specs.declared.error.Error.TheVariants.{SubsetError, OverflowError}
use Rattle.subsetter_cff.specs.Read.Strings.{FontString, standard_strings, string_at}
use Rattle.subsetter_cff.specs.Read.Cff.{Cff, is_cid_keyed}
use Rattle.subsetter_cff.specs.Read.FdArray.Private.{own_entries}
use Rattle.subsetter_cff.specs.Read.Entries.Operators.{copyright_operator, notice_operator, font_name_operator}
use Rattle.subsetter_cff.specs.Write.Laying.Layout.{FontDict, Parts, strings, char_strings_offset}
use Rattle.subsetter_cff.specs.Write.Laying.ReadsAs.{number_in}
use Rattle.subsetter_cff.specs.Write.Made.{MadeGlyph, IsMade}
use Rattle.subsetter_cff.specs.Write.NewDicts.WrittenNumbers.{any_long, written_numbers}
use Rattle.subsetter_cff.specs.Write.Plain.{KeptGlyph, kept_glyphs, used_numbers, new_font_dicts, new_select, new_parts, parts_for, counted_parts, limited, parts_of}
use Rattle.subsetter_cff.specs.Write.PlainLaws.{PartsAreMade}
use Rattle.subsetter_cff.proofs.WriteLaws.StringsLaws.StringCount.{few_strings}
use Rattle.subsetter_cff.proofs.ReadLaws.Results.{bind_ok, same_Ok, some_of, passed, number_there}
use Rattle.subsetter_cff.proofs.WriteLaws.GlyphsLaws.KeptSteps.{length-kept, kept_at, in_used, zero_first, glyph_steps, zeros}
use Rattle.subsetter_cff.proofs.WriteLaws.NewDictsLaws.FontDictSteps.{length-dicts, dict_at, agrees, dict_made}

-- ---- the parts
pub record PartsSteps (cff : Cff) (kept : List KeptGlyph) (p : Parts) : Type 0 where
  pub copyright : Option FontString
  pub copyright_is : string_at cff.strings copyright_operator cff.top ≡ Some copyright
  pub font_name : Option FontString
  pub font_name_is : string_at cff.strings font_name_operator cff.top ≡ Some font_name
  pub notice : Option FontString
  pub notice_is : string_at cff.strings notice_operator cff.top ≡ Some notice
  pub dicts : List FontDict
  pub dicts_are : new_font_dicts cff (used_numbers kept) ≡ Ok dicts
  pub parts_are : new_parts cff copyright notice font_name dicts (new_select cff (used_numbers kept) kept) kept ≡ p

pub parts_steps : (cff : Cff) (kept : List KeptGlyph) (p : Parts) → parts_for cff kept ≡ Ok p → PartsSteps cff kept p
unfolding parts_for
parts_steps cff kept p e =
    let a = bind_ok (ok_or (string_at cff.strings copyright_operator cff.top) SubsetError) _ p e in
    let b = bind_ok (ok_or (string_at cff.strings font_name_operator cff.top) SubsetError) _ p a.1.1 in
    let c = bind_ok (ok_or (string_at cff.strings notice_operator cff.top) SubsetError) _ p b.1.1 in
    let d = bind_ok (new_font_dicts cff (used_numbers kept)) _ p c.1.1 in
    record {
      copyright = a.0;
      copyright_is = some_of (string_at cff.strings copyright_operator cff.top) SubsetError a.0 a.1.0;
      font_name = b.0;
      font_name_is = some_of (string_at cff.strings font_name_operator cff.top) SubsetError b.0 b.1.0;
      notice = c.0;
      notice_is = some_of (string_at cff.strings notice_operator cff.top) SubsetError c.0 c.1.0;
      dicts = d.0;
      dicts_are = d.1.0;
      parts_are = same_Ok _ _ d.1.1;
    }

-- ---- a glyph
new_number : (used : List ℕ) (k : KeptGlyph) (j : ℕ) (o : Option KeptGlyph) → o ≡ Some k → index_of used k.number ≡ Some j → option_map (λ (l : KeptGlyph). unwrap_or (index_of used l.number) 0) o ≡ Some j
new_number used k j o e is = rw (e, is) refl

pub bytes_of : (k : KeptGlyph) (o : Option KeptGlyph) → o ≡ Some k → option_map (λ (l : KeptGlyph). l.bytes) o ≡ Some k.bytes
bytes_of k o e = rw e refl

-- the new number of its font dict
pub selects : (cff : Cff) (tokens depth : ℕ) (glyphs : List ℕ) (kept : List KeptGlyph) (i j : ℕ) (k : KeptGlyph) → kept_glyphs cff tokens depth glyphs ≡ Ok kept → slice_get kept i ≡ Some k
    → index_of (used_numbers kept) k.number ≡ Some j → number_in (new_select cff (used_numbers kept) kept) i ≡ j
selects cff tokens depth glyphs kept i j k e at is =
    elim (cases_Bool (is_cid_keyed cff)) [
      | inl cid ↦ rw cid (get_or_from_slice_get (map (λ (l : KeptGlyph). unwrap_or (index_of (used_numbers kept) l.number) 0) kept) i j 0
          (slice_get-map (λ (l : KeptGlyph). unwrap_or (index_of (used_numbers kept) l.number) 0) kept i ∙ new_number (used_numbers kept) k j (slice_get kept i) at is))
      | inr sid ↦ rw sid (same_Some _ _ (sym (zero_first k kept i (zeros cff tokens depth glyphs kept sid e) at) ∙ is))
    ]

module _ (cff : Cff) (tokens depth : ℕ) (glyphs : List ℕ) (kept : List KeptGlyph) (kept_is : kept_glyphs cff tokens depth glyphs ≡ Ok kept)
    (copyright notice font_name : Option FontString) (dicts : List FontDict) (dicts_are : new_font_dicts cff (used_numbers kept) ≡ Ok dicts) where
  abbrev parts : Parts
  parts = new_parts cff copyright notice font_name dicts (new_select cff (used_numbers kept) kept) kept

  glyph_made : (i : ℕ) → i < length glyphs → MadeGlyph cff tokens depth (slice_index glyphs i) parts i
  glyph_made i lt =
      let at = kept_at cff tokens depth glyphs kept i kept_is lt in
      let steps = glyph_steps cff tokens depth (slice_index glyphs i) at.one at.made in
      let used = in_used kept i at.one at.at in
      let there = dict_at cff (used_numbers kept) dicts used.at at.one.number dicts_are (number_there (used_numbers kept) at.one.number used.at used.is) in
      let made = dict_made cff at.one.number there.one there.made in
      let agree = agrees cff (slice_index glyphs i) at.one.number made.dict steps.number_is made.dict_is in
      let same : steps.private ≡ made.dict.private = same_Some _ _ (sym steps.private_is ∙ agree.private_is) in
      record {
        font_dict = there.one;
        font_dict_is = ap (slice_get dicts) (selects cff tokens depth glyphs kept i used.at at.one kept_is at.at used.is) ∙ there.at;
        private_dict = steps.private;
        private_dict_is = steps.private_is;
        private = made.private ∙ ap own_entries (sym same);
        own = made.dict.own;
        own_is = agree.own_is;
        matrix = made.matrix;
        name = agree.name_is ∙ made.name;
        charstring = steps.charstring;
        charstring_is = steps.charstring_is;
        bytes = at.one.bytes;
        bytes_are = slice_get-map (λ (l : KeptGlyph). l.bytes) kept i ∙ bytes_of at.one (slice_get kept i) at.at;
        flat = steps.flat;
      }

  is_made : string_at cff.strings copyright_operator cff.top ≡ Some copyright → string_at cff.strings notice_operator cff.top ≡ Some notice → string_at cff.strings font_name_operator cff.top ≡ Some font_name
      → IsMade cff tokens depth glyphs parts
  is_made a b c = record {
    names = refl;
    copyright = a;
    notice = b;
    font_name = c;
    matrix = refl;
    box = refl;
    count = length-map kept (λ (l : KeptGlyph). l.bytes) ∙ length-kept cff tokens depth glyphs kept kept_is;
    made = glyph_made;
  }

-- ---- the limits
count_steps : (cff : Cff) (kept : List KeptGlyph) (p : Parts) → counted_parts cff kept ≡ Ok p → (length (used_numbers kept) < 256) × (parts_for cff kept ≡ Ok p)
unfolding counted_parts
count_steps cff kept p e =
    let a = passed (ltb (length (used_numbers kept)) 256) OverflowError _ p e in
    (ltb-true (length (used_numbers kept)) 256 a.0, a.1)

few_dicts : (cff : Cff) (kept : List KeptGlyph) (p : Parts) → length (used_numbers kept) < 256 → parts_for cff kept ≡ Ok p → length p.font_dicts < 256
few_dicts cff kept p few e =
    let s = parts_steps cff kept p e in
    omega (arith, few, length-dicts cff (used_numbers kept) s.dicts s.dicts_are, ap (λ (q : Parts). length q.font_dicts) s.parts_are)

pub record Limits (p : Parts) : Type 0 where
  pub font_dict_count : length p.font_dicts ≤ 255
  pub string_count : length (strings p) + standard_strings ≤ 65536
  pub short : any_long (written_numbers p) ≡ false
  pub char_strings_size : length (concat p.char_strings) + 1 < 2 ^ 32
  pub offset : char_strings_offset p < 2 ^ 31

not_true : (b : Bool) → cond b false true ≡ true → b ≡ false
not_true true e = absurd cc
not_true false e = refl

limit_steps : (p q : Parts) → length p.font_dicts < 256 → limited p ≡ Ok q → Limits p × (p ≡ q)
unfolding limited
limit_steps p q few e =
    let c = passed (cond (any_long (written_numbers p)) false true) OverflowError _ q e in
    let d = passed (ltb (length (concat p.char_strings) + 1) (2 ^ 32)) OverflowError _ q c.1 in
    let f = passed (ltb (char_strings_offset p) (2 ^ 31)) OverflowError _ q d.1 in (
      record {
        font_dict_count = omega (arith, few);
        string_count = omega (arith, few_strings p, few);
        short = not_true (any_long (written_numbers p)) c.0;
        char_strings_size = ltb-true (length (concat p.char_strings) + 1) (2 ^ 32) d.0;
        offset = ltb-true (char_strings_offset p) (2 ^ 31) f.0;
      },
      same_Ok p q f.1,
    )

-- ---- the whole
pub record Answer (cff : Cff) (tokens depth : ℕ) (glyphs : List ℕ) (p : Parts) : Type 0 where
  pub kept : List KeptGlyph
  pub kept_are : kept_glyphs cff tokens depth glyphs ≡ Ok kept
  pub made : parts_for cff kept ≡ Ok p
  pub limits : Limits p

pub answer_steps : (cff : Cff) (tokens depth : ℕ) (glyphs : List ℕ) (p : Parts) → parts_of cff tokens depth glyphs ≡ Ok p → Answer cff tokens depth glyphs p
unfolding parts_of
answer_steps cff tokens depth glyphs p e =
    let a = bind_ok (kept_glyphs cff tokens depth glyphs) _ p e in
    let b = bind_ok (counted_parts cff a.0) _ p a.1.1 in
    let c = count_steps cff a.0 b.0 b.1.0 in
    let l = limit_steps b.0 p (few_dicts cff a.0 b.0 c.0 c.1) b.1.1 in
    record { kept = a.0; kept_are = a.1.0; made = c.1 ∙ ap Ok l.1; limits = rw (← l.1) l.0 }

pub parts_made : PartsAreMade
parts_made cff tokens depth glyphs p e =
    let a = answer_steps cff tokens depth glyphs p e in
    let s = parts_steps cff a.kept p a.made in
    rw (← s.parts_are) (is_made cff tokens depth glyphs a.kept a.kept_are s.copyright s.notice s.font_name s.dicts s.dicts_are s.copyright_is s.notice_is s.font_name_is)
