-- The table that is written is the one that is laid out.
use Rattle.std.proofs.Common.{◌≡◌, ℕ, ◌+◌, List, [], ◌++◌, length, refl, ap, ◌∙◌, append_assoc}
use Rattle.std.proofs.lemmas.List.{append-nil}
use Rattle.subsetter_cffdata.specs.Indexes.Index.{index}
use Rattle.subsetter_cffdata.specs.Indexes.Owned.{views}
use Rattle.subsetter_cff.specs.declared.write.laying.table.TableParts.{TableParts}
use Rattle.subsetter_cff.specs.declared.write.laying.writing.Pieces.{Pieces}
use Rattle.subsetter_cff.specs.declared.write.laying.front.FrontDraft.{FrontDraft}
use Rattle.subsetter_cff.specs.Write.Glyphs.FlatIndex.{flat_header, flat_index}
use Rattle.subsetter_cff.specs.Write.Laying.FrontDraft.{front_of_draft, named_of, tail_of, IsDraft}
use Rattle.subsetter_cff.proofs.WriteLaws.LayingLaws.FrontDrafts.{front_split}
use Rattle.subsetter_cff.specs.Write.Laying.Layout.{Offsets, charset_bytes, select_bytes, privates, font_dicts_from, strings, front, font_dicts_of, cff_table}
use Rattle.subsetter_cff.specs.Write.Laying.PartsView.{select_of_table, parts_view, front_by, HasCharStrings}
use Rattle.subsetter_cff.specs.Write.Laying.TableBy.{new_dicts, front_size, offsets_by, laid_by, table_by, ArePieces, TableIsLaidOut}
use Rattle.subsetter_cff.proofs.WriteLaws.GlyphsLaws.FlatIndexes.{length-ends, flat_is_index}

same_strings : (t : TableParts) (cs : List (List ℕ)) → strings (parts_view t []) ≡ strings (parts_view t cs)
unfolding strings
same_strings t cs = refl

laid_out : (t : TableParts) (cs : List (List ℕ)) → laid_by (strings (parts_view t cs)) t (length cs) (index cs) ≡ cff_table (parts_view t cs)
unfolding laid_by cff_table front front_by font_dicts_of index
laid_out t cs = refl

chars_are : (t : TableParts) (cs : List (List ℕ)) → HasCharStrings t cs → flat_index t.char_strings.items t.ends.items ≡ index cs
chars_are t cs h = rw (h.text, h.ends) (flat_is_index cs)

count_is : (t : TableParts) (cs : List (List ℕ)) → HasCharStrings t cs → length t.ends.items ≡ length cs
count_is t cs h = ap length h.ends ∙ length-ends 1 cs

pub table_is_laid_out : TableIsLaidOut
table_is_laid_out t cs h =
    ap (λ (ss : List (List ℕ)). laid_by ss t (length t.ends.items) (flat_index t.char_strings.items t.ends.items)) (same_strings t cs)
    ∙ ap (λ (n : ℕ). laid_by (strings (parts_view t cs)) t n (flat_index t.char_strings.items t.ends.items)) (count_is t cs h)
    ∙ ap (laid_by (strings (parts_view t cs)) t (length cs)) (chars_are t cs h)
    ∙ laid_out t cs

-- ---- five writes
five_written : (w0 w1 w2 w3 w4 w5 a b c d e : List ℕ) → w0 ≡ [] → w1 ≡ w0 ++ a → w2 ≡ w1 ++ b → w3 ≡ w2 ++ c → w4 ≡ w3 ++ d → w5 ≡ w4 ++ e → w5 ≡ a ++ (b ++ (c ++ (d ++ (e ++ []))))
five_written w0 w1 w2 w3 w4 w5 a b c d e g h i j k l = l ∙ rw (k, j, i, h, g) (simp (append_assoc, append-nil))

in_pieces : (t : TableParts) (texts : List (List ℕ)) (glyphs size : ℕ) (x : Pieces) (o : Offsets) → size ≡ front_size texts t → ArePieces texts t glyphs size x
    → o ≡ offsets_by size x.charset (length x.privates) x.select x.font_dicts_size
    → front_by texts t o ++ (charset_bytes glyphs ++ (x.privates ++ (select_bytes glyphs (select_of_table t.numbers) ++ (index (views x.font_dicts.items) ++ [])))) ≡ laid_by texts t glyphs []
unfolding laid_by
in_pieces t texts glyphs size x o c are d = rw (d, are.charset, are.privates_are, are.select, are.font_dicts_size, are.font_dicts, c) refl

drafted : (t : TableParts) (texts : List (List ℕ)) (d : FrontDraft) (o : Offsets) (w0 w1 : List ℕ) → IsDraft texts t d → w1 ≡ w0 ++ front_of_draft t.names.now (named_of d) (tail_of d) o → w1 ≡ w0 ++ front_by texts t o
drafted t texts d o w0 w1 is e = e ∙ rw (is.named, is.tail, front_split texts t o) refl

pub laid_written : (t : TableParts) (texts : List (List ℕ)) (glyphs : ℕ) (d : FrontDraft) (x : Pieces) (o : Offsets) (w0 w1 w2 w3 w4 w5 : List ℕ) → IsDraft texts t d → ArePieces texts t glyphs d.size x
    → o ≡ offsets_by d.size x.charset (length x.privates) x.select x.font_dicts_size
    → w0 ≡ [] → w1 ≡ w0 ++ front_of_draft t.names.now (named_of d) (tail_of d) o → w2 ≡ w1 ++ charset_bytes glyphs → w3 ≡ w2 ++ x.privates → w4 ≡ w3 ++ select_bytes glyphs (select_of_table t.numbers) → w5 ≡ w4 ++ index (views x.font_dicts.items) → w5 ≡ laid_by texts t glyphs []
laid_written t texts glyphs d x o w0 w1 w2 w3 w4 w5 is are at g h i j k l =
    five_written w0 w1 w2 w3 w4 w5 (front_by texts t o) (charset_bytes glyphs) x.privates (select_bytes glyphs (select_of_table t.numbers)) (index (views x.font_dicts.items)) g (drafted t texts d o w0 w1 is h) i j k l ∙ in_pieces t texts glyphs d.size x o is.size are at

-- ---- the charstrings come after
six : (a b c d e z : List ℕ) → (a ++ (b ++ (c ++ (d ++ (e ++ []))))) ++ z ≡ a ++ (b ++ (c ++ (d ++ (e ++ z))))
six a b c d e z = simp (append_assoc, append-nil)

laid_more : (texts : List (List ℕ)) (t : TableParts) (glyphs : ℕ) (z : List ℕ) → laid_by texts t glyphs [] ++ z ≡ laid_by texts t glyphs z
unfolding laid_by
laid_more texts t glyphs z =
    let charset = charset_bytes glyphs in
    let dicts = index (font_dicts_from texts (front_size texts t + length charset) (new_dicts t)) in
    let front = front_by texts t (offsets_by (front_size texts t) (length charset) (length (privates (new_dicts t))) (length (select_bytes glyphs (select_of_table t.numbers))) (length dicts)) in
    six front charset (privates (new_dicts t)) (select_bytes glyphs (select_of_table t.numbers)) dicts z

pub whole_written : (t : TableParts) (texts : List (List ℕ)) (glyphs : ℕ) (w front : List ℕ) → texts ≡ strings (parts_view t []) → glyphs ≡ length t.ends.items → w ≡ laid_by texts t glyphs []
    → front ≡ w ++ flat_header (length t.char_strings.items) t.ends.items → front ++ t.char_strings.items ≡ table_by t
whole_written t texts glyphs w front a b is h =
    rw (h, is, append_assoc) (laid_more texts t glyphs (flat_index t.char_strings.items t.ends.items)
    ∙ ap (λ (ss : List (List ℕ)). laid_by ss t glyphs (flat_index t.char_strings.items t.ends.items)) a
    ∙ ap (λ (n : ℕ). laid_by (strings (parts_view t [])) t n (flat_index t.char_strings.items t.ends.items)) b)
