-- What the private dict of a glyph says of widths.
use Rattle.std.proofs.Common.{◌≡◌, ℕ, Bool, true, false, Option, Some, None, option_map, refl, ap, sym, ◌∙◌}
use Rattle.std.specs.Prelude.{slice_get}
use Rattle.std.proofs.lemmas.Option.{same_Some, slice_get-map}
use Rattle.subsetter_cff.specs.declared.read.fd_array.font_dict.FontDict.{FontDict}
use Rattle.subsetter_cff.specs.declared.read.source.CIDMetadata.{CIDMetadata}
use Rattle.subsetter_cff.specs.declared.read.source.Table.{Table}
use Rattle.subsetter_cff.specs.Read.Cff.{Cff, is_cid_keyed}
use Rattle.subsetter_cff.specs.Read.FdArray.FontDicts.{font_dict_number, font_dict_of}
use Rattle.subsetter_cff.specs.Read.FdArray.Private.{Private, private_of}
use Rattle.subsetter_cff.specs.Read.FdArray.PrivateView.{private_view}
use Rattle.subsetter_cff.specs.Read.Source.{IsSource, cff_of}
use Rattle.subsetter_cff.specs.Write.Plain.{source_number}
use Rattle.subsetter_cff.proofs.WriteLaws.GlyphsLaws.GlyphsKept.{number_without, private_with, private_without}
use Rattle.pdf_widths.specs.Defaults.{all_defaults, defaults_by, defaults_of}
use Rattle.pdf_widths.specs.declared.defaults.Defaults.{Defaults}

abbrev said : Private → Defaults
said p = defaults_of p.entries

-- a glyph whose font dict has no number has no private dict
unnumbered_by : (cff : Cff) (glyph : ℕ) (keyed : Bool) → is_cid_keyed cff ≡ keyed → source_number cff glyph ≡ None → private_of cff glyph ≡ None
unfolding private_of font_dict_of
unnumbered_by cff glyph true k h = let n : font_dict_number cff glyph ≡ None = rw k at h in rw (k, n) refl
unnumbered_by cff glyph false k h = let no : Some 0 ≡ None = rw k at h in absurd (cc)

pub unnumbered : (cff : Cff) (glyph : ℕ) → source_number cff glyph ≡ None → None ≡ option_map said (private_of cff glyph)
unnumbered cff glyph h = ap (option_map said) (sym (unnumbered_by cff glyph (is_cid_keyed cff) refl h))

of_dict : (o : Option FontDict) → option_map (λ (f : FontDict). defaults_of (private_view f.private).entries) o ≡ option_map said (option_map (λ (f : FontDict). private_view f.private) o)
of_dict None = refl
of_dict (Some f) = refl

found_by : (table : Table) (glyph n : ℕ) (cid : Option CIDMetadata) → table.cid ≡ cid → IsSource table → source_number (cff_of table) glyph ≡ Some n → slice_get (defaults_by table cid) n ≡ option_map said (private_of (cff_of table) glyph)
found_by table glyph n None e source number =
    let first : n ≡ 0 = sym (same_Some 0 n (number_without table glyph source e ∙ number)) in
    ap (slice_get (defaults_by table None)) first ∙ ap (option_map said) (private_without table glyph source e)
found_by table glyph n (Some c) e source number =
    slice_get-map (λ (f : FontDict). defaults_of (private_view f.private).entries) c.font_dicts.items n
    ∙ of_dict (slice_get c.font_dicts.items n)
    ∙ ap (option_map said) (private_with table c glyph n source e number)

pub found : (table : Table) (glyph n : ℕ) → IsSource table → source_number (cff_of table) glyph ≡ Some n → slice_get (all_defaults table) n ≡ option_map said (private_of (cff_of table) glyph)
found table glyph n source number = found_by table glyph n table.cid refl source number
