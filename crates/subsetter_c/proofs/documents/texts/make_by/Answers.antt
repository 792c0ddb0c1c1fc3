use Rattle.std.proofs.Common.{◌≡◌, List, ℕ, length, inl, true}
use Rattle.text_glyphs.specs.View.{source_view}
use Rattle.subsetter_pdf_c.specs.Entries.{are_texts}
use Rattle.subsetter_c.specs.Documents.Texts.{AreLookedUp, looked_up, no_glyphs}
use Rattle.subsetter_c.proofs.DocumentsLaws.Whole.{looked_up_texts, there}
use Rattle.subsetter_c.proofs.documents.texts.make_by.Goals as goal

pub returns-in-Ok : goal.returns-in-Ok
returns-in-Ok c =
    let f = c.in-Ok.found in
    let g = c.deref.result.now in
    let t = c.deref-in-Ok.result.now in
    let e = c.deref-in-Ok-2.result.now in
    let all = c.in-Ok.ensures in
    let s = source_view c.args.source.now in
    looked_up g t e
    (there (λ (g t e : List ℕ). AreLookedUp c.args.font.now c.args.index c.args.text.now g t e) g t e f.glyphs.items f.text.items f.ends.items c.deref.ensures.value c.deref-in-Ok.ensures.value c.deref-in-Ok-2.ensures.value (record { characters_are = all.text; glyphs_are = record { opens = c.requires.opens; source = s; found = c.requires.found; are = all.glyphs }; ends_are = all.ends }))
    (c.make_whole.ensures.made (there (λ (g t e : List ℕ). are_texts (length g) t e ≡ true) g t e f.glyphs.items f.text.items f.ends.items c.deref.ensures.value c.deref-in-Ok.ensures.value c.deref-in-Ok-2.ensures.value (looked_up_texts s.table f.glyphs.items f.text.items f.ends.items all.glyphs all.scalars all.ends)))

pub returns-in-Err : goal.returns-in-Err
returns-in-Err c = no_glyphs c.in-Err.error (inl (record { is = c.in-Err.ensures.err; opens = c.requires.opens })) c.no_whole.ensures c.status_of.ensures
