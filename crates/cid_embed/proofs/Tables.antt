-- The tables of a sound file, and those of a subset that its source lacks.
use Rattle.std.proofs.Common.{◌≡◌, ℕ, ◌+◌, ◌*◌, ◌/◌, Bool, true, false, cond, ◌||◌, ◌&&◌, List, [], ◌∷◌, ◌++◌, length, Option, Some, None, refl, sym, ap, ◌∙◌}
use Rattle.std.specs.Prelude.{codes, map, is_some}
use Rattle.std.specs.Option.{option_and_then}
use Rattle.std.specs.Str.{bytes_eq}
use Rattle.subsetter_base.specs.Bytes.{range, number}
use Rattle.subsetter_base.proofs.Options.{map_some, none_of}
use Rattle.subsetter_sfnt.specs.declared.face.TableRecord.{TableRecord}
use Rattle.subsetter_sfnt.specs.declared.flavor.FontFlavor.{FontFlavor}
use Rattle.subsetter_sfnt.specs.declared.flavor.FontFlavor.TheVariants.{TrueType, Cff}
use Rattle.subsetter_sfnt.specs.Container.{NameTablesFrom, padded_size, IsSoundContainer}
use Rattle.subsetter_sfnt.specs.Read.{Font, as_font, kind_of, header_by_kind, header_offset, directory_records, find_record, records, records_at, table, table_in}
use Rattle.subsetter_sfnt.specs.Laying.Rows.{Row, opt, present, tags, rows, called_for, tags_of}
use Rattle.subsetter_sfnt.specs.Laying.Written.{kind_word}
use Rattle.cid_embed.specs.Afresh.{directory_bytes, table_of}

-- ---- a font's header is at the start

starts : (kind : FontFlavor) (file : List ℕ) → number file 0 4 ≡ Some (kind_word kind) → header_offset (as_font file) ≡ Some 0
unfolding header_offset
starts TrueType file h = ap (λ o. option_and_then (λ k. header_by_kind k (as_font file)) (option_and_then kind_of o)) h
starts Cff file h = ap (λ o. option_and_then (λ k. header_by_kind k (as_font file)) (option_and_then kind_of o)) h

same_records : (file : List ℕ) → directory_bytes file ≡ records_at file 0
unfolding records_at
same_records file = refl

pub table_of_is : (kind : FontFlavor) (tags : List (List ℕ)) (file tag : List ℕ) → IsSoundContainer file (kind_word kind) tags → table_of file tag ≡ table (as_font file) tag
unfolding table_of
table_of_is kind tags file tag c = ap (option_and_then (λ directory. table_in file directory tag)) (same_records file) ∙ sym (ap (λ at. option_and_then (λ directory. table_in file directory tag) (option_and_then (λ p. records_at file p) at)) (starts kind file c.kind_is))

-- ---- a sound file has a table exactly where its tag is named

abbrev has_tag : List ℕ → List (List ℕ) → Bool
has_tag tag [] = false
has_tag tag (t ∷ ts) = bytes_eq t tag || has_tag tag ts

-- the bytes that a record names
abbrev named_by : List ℕ → TableRecord → Option (List ℕ)
named_by file r = range file r.offset r.length

found_there : (file tag : List ℕ) (at : ℕ) (rs : List TableRecord) → NameTablesFrom file at rs → is_some (option_and_then (named_by file) (find_record tag rs)) ≡ has_tag tag (map (λ (r : TableRecord). r.tag.0) rs)
found_there file tag at [] h = refl
found_there file tag at (r ∷ rs) h = by (bytes_eq r.tag.0 tag) (found_there file tag (at + padded_size r.length) rs h.1)
  where
    here : named_by file r ≡ Some h.0.bytes
    here = ap (λ (p : ℕ). range file p r.length) h.0.offset ∙ h.0.there

    by : (b : Bool) → is_some (option_and_then (named_by file) (find_record tag rs)) ≡ has_tag tag (map (λ (x : TableRecord). x.tag.0) rs) → is_some (option_and_then (named_by file) (cond b (Some r) (find_record tag rs))) ≡ (b || has_tag tag (map (λ (x : TableRecord). x.tag.0) rs))
    by true later = ap is_some here
    by false later = later

table_there : (file : List ℕ) (kind : ℕ) (tags : List (List ℕ)) (tag : List ℕ) → IsSoundContainer file kind tags → is_some (table (as_font file) tag) ≡ has_tag tag tags
table_there file kind tags tag c =
    let k = map_some (λ bytes. directory_records (length bytes / 16) bytes) (records (as_font file)) c.records c.read in
    ap (λ o. is_some (option_and_then (λ d. table_in file d tag) o)) k.1 ∙ ap (λ (rs : List TableRecord). is_some (option_and_then (named_by file) (find_record tag rs))) k.2
    ∙ found_there file tag (12 + 16 * length c.records) c.records c.tables ∙ ap (has_tag tag) c.tags_are

-- ---- the tags that a source calls for

abbrev has_row : List ℕ → List Row → Bool
has_row tag [] = false
has_row tag (r ∷ rs) = (bytes_eq r.tag tag && is_some r.bytes) || has_row tag rs

row_there : (tag other : List ℕ) (o : Option (List ℕ)) (rs : List Row) → has_tag tag (tags (present rs)) ≡ has_row tag rs → has_tag tag (tags (opt other o ++ present rs)) ≡ ((bytes_eq other tag && is_some o) || has_row tag rs)
row_there tag other None rs h = by (bytes_eq other tag)
  where
    by : (b : Bool) → has_tag tag (tags (present rs)) ≡ ((b && false) || has_row tag rs)
    by true = h
    by false = h
row_there tag other (Some bytes) rs h = by (bytes_eq other tag)
  where
    by : (b : Bool) → (b || has_tag tag (tags (present rs))) ≡ ((b && true) || has_row tag rs)
    by true = refl
    by false = h

rows_there : (tag : List ℕ) (rs : List Row) → has_tag tag (tags (present rs)) ≡ has_row tag rs
rows_there tag [] = refl
rows_there tag (r ∷ rs) = row_there tag r.tag r.bytes rs (rows_there tag rs)

hmtx_called : (kind : FontFlavor) (find : List ℕ → Option (List ℕ)) → find (codes "hmtx") ≡ None → has_tag (codes "hmtx") (tags_of kind find) ≡ false
hmtx_called TrueType find h = rows_there (codes "hmtx") (rows (called_for TrueType find)) ∙ ap (λ o. is_some o || false) h
hmtx_called Cff find h = rows_there (codes "hmtx") (rows (called_for Cff find)) ∙ ap (λ o. is_some o || false) h

head_called : (kind : FontFlavor) (find : List ℕ → Option (List ℕ)) → find (codes "head") ≡ None → has_tag (codes "head") (tags_of kind find) ≡ false
head_called TrueType find h = rows_there (codes "head") (rows (called_for TrueType find)) ∙ ap (λ o. is_some o || false) h
head_called Cff find h = rows_there (codes "head") (rows (called_for Cff find)) ∙ ap (λ o. is_some o || false) h

-- ---- what the source lacks

module _ (font : Font) (kind : FontFlavor) (out : List ℕ) (c : IsSoundContainer out (kind_word kind) (tags_of kind (table font))) where
  pub no_hmtx_again : table font (codes "hmtx") ≡ None → table (as_font out) (codes "hmtx") ≡ None
  no_hmtx_again h = none_of (table (as_font out) (codes "hmtx")) (table_there out (kind_word kind) (tags_of kind (table font)) (codes "hmtx") c ∙ hmtx_called kind (table font) h)

  pub no_head_again : table font (codes "head") ≡ None → table (as_font out) (codes "head") ≡ None
  no_head_again h = none_of (table (as_font out) (codes "head")) (table_there out (kind_word kind) (tags_of kind (table font)) (codes "head") c ∙ head_called kind (table font) h)
