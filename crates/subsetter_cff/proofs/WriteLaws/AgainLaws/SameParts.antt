-- The parts of a subset of a subset are those of a subset of the first font.
use Rattle.std.proofs.Common.{◌≡◌, ℕ, ◌≤◌, true, List, map, length, Option, Some, refl, ap, ◌∙◌, sym, subst}
use Rattle.std.specs.Prelude.{unwrap_or, Ok}
use Rattle.std.specs.List.{AllByRecursion}
use Rattle.std.proofs.lemmas.List.{length-map}
use Rattle.subsetter_base.specs.Indexes.{index_of}
use Rattle.subsetter_cff.specs.Read.Cff.{Cff, is_cid_keyed}
use Rattle.subsetter_cff.specs.Read.Strings.{FontString, string_at}
use Rattle.subsetter_cff.specs.Read.Entries.Operators.{copyright_operator, notice_operator, font_name_operator, font_matrix_operator, font_box_operator}
use Rattle.subsetter_cff.specs.Read.Entries.Lookup.{last_of}
use Rattle.subsetter_cff.specs.Read.Entries.Matrices.{thousandth_matrix, zero_box}
use Rattle.subsetter_cff.specs.Write.Laying.Layout.{FontDict, Parts, Select, Numbers, table_offsets}
use Rattle.subsetter_cff.specs.Write.Laying.Fits.{Fits}
use Rattle.subsetter_cff.specs.Write.Plain.{KeptGlyph, kept_glyphs, used_numbers, new_font_dicts, new_select, new_parts, parts_for, counted_parts, parts_of}
use Rattle.subsetter_cff.specs.Write.Again.{composed, AreGlyphs}
use Rattle.subsetter_cff.proofs.ReadLaws.Results.{In}
use Rattle.subsetter_cff.proofs.WriteLaws.LayingLaws.MadeOf.{answer_steps, parts_steps}
use Rattle.subsetter_cff.proofs.WriteLaws.LayingLaws.Fronts.{laid_out}
use Rattle.subsetter_cff.proofs.WriteLaws.NewDictsLaws.Tops.{matrix_is, box_is}
use Rattle.subsetter_cff.proofs.WriteLaws.LayingLaws.Whole.{reads_as}
use Rattle.subsetter_cff.proofs.WriteLaws.AgainLaws.NumberLaws.FontDicts.{keyed_again}
use Rattle.subsetter_cff.proofs.WriteLaws.AgainLaws.NumberLaws.RenumberedUse.{renumbered, used_all, used_again}
use Rattle.subsetter_cff.proofs.WriteLaws.AgainLaws.Parts.{same_bind, all_for, same_bytes, same_places, dicts_again, parts, pick, number, order, new_dict, old_kept, new_kept, all_used}

parts_for_same : (cff out : Cff) (ks ks' : List KeptGlyph) (a b c : Option FontString)
    → string_at cff.strings copyright_operator cff.top ≡ Some a → string_at cff.strings notice_operator cff.top ≡ Some b → string_at cff.strings font_name_operator cff.top ≡ Some c
    → string_at out.strings copyright_operator out.top ≡ Some a → string_at out.strings notice_operator out.top ≡ Some b → string_at out.strings font_name_operator out.top ≡ Some c
    → new_font_dicts out (used_numbers ks') ≡ new_font_dicts cff (used_numbers ks)
    → ((d : List FontDict) → new_parts out a b c d (new_select out (used_numbers ks') ks') ks' ≡ new_parts cff a b c d (new_select cff (used_numbers ks) ks) ks)
    → parts_for out ks' ≡ parts_for cff ks
unfolding parts_for
parts_for_same cff out ks ks' a b c e f g e' f' g' dicts same = rw (e, f, g, e', f', g') (same_bind _ _ _ _ dicts (λ d. ap Ok (same d)))

-- and where they are as many, they are counted alike
counted_same : (cff out : Cff) (ks ks' : List KeptGlyph) → length (used_numbers ks') ≡ length (used_numbers ks) → parts_for out ks' ≡ parts_for cff ks → counted_parts out ks' ≡ counted_parts cff ks
unfolding counted_parts
counted_same cff out ks ks' count same = rw (count, same) refl

parts_of_same : (cff out : Cff) (tokens depth : ℕ) (old new : List ℕ) (ks ks' : List KeptGlyph) → kept_glyphs cff tokens depth old ≡ Ok ks → kept_glyphs out tokens depth new ≡ Ok ks' → counted_parts out ks' ≡ counted_parts cff ks
    → parts_of out tokens depth new ≡ parts_of cff tokens depth old
unfolding parts_of
parts_of_same cff out tokens depth old new ks ks' e f same = rw (e, f, same) refl

select_same : (cff out : Cff) (ns ns' : List ℕ) (ks ks' : List KeptGlyph) → is_cid_keyed cff ≡ true → is_cid_keyed out ≡ true
    → map (λ (k : KeptGlyph). unwrap_or (index_of ns' k.number) 0) ks' ≡ map (λ (k : KeptGlyph). unwrap_or (index_of ns k.number) 0) ks → new_select out ns' ks' ≡ new_select cff ns ks
select_same cff out ns ns' ks ks' cid cid' e = rw (cid, cid') (ap Numbers e)

made_same : (cff out : Cff) (a b c : Option FontString) (d : List FontDict) (s s' : Select) (ks ks' : List KeptGlyph) → out.names ≡ cff.names
    → unwrap_or (last_of font_matrix_operator out.top) thousandth_matrix ≡ unwrap_or (last_of font_matrix_operator cff.top) thousandth_matrix
    → unwrap_or (last_of font_box_operator out.top) zero_box ≡ unwrap_or (last_of font_box_operator cff.top) zero_box
    → s' ≡ s → map (λ (k : KeptGlyph). k.bytes) ks' ≡ map (λ (k : KeptGlyph). k.bytes) ks → new_parts out a b c d s' ks' ≡ new_parts cff a b c d s ks
made_same cff out a b c d s s' ks ks' e f g h i = rw (e, f, g, h, i) refl

module _ (cff : Cff) (tokens depth : ℕ) (first : List ℕ) (kept : List KeptGlyph) (kept_is : kept_glyphs cff tokens depth first ≡ Ok kept)
    (copyright notice font_name : Option FontString) (dicts : List FontDict) (dicts_are : new_font_dicts cff (used_numbers kept) ≡ Ok dicts)
    (cid : is_cid_keyed cff ≡ true) (deep : 1 ≤ depth) where
  abbrev ps : Parts
  ps = parts cff tokens depth first kept kept_is copyright notice font_name dicts dicts_are cid deep

  abbrev r : ℕ → ℕ
  r = number cff tokens depth first kept kept_is copyright notice font_name dicts dicts_are cid deep

  abbrev of_first : List ℕ → List KeptGlyph
  of_first second = map (pick cff tokens depth first kept kept_is copyright notice font_name dicts dicts_are cid deep) second

  used_is : (second : List ℕ) → AllByRecursion (λ (k : KeptGlyph). In (used_numbers kept) k.number) (of_first second) → used_numbers (map (renumbered r) (of_first second)) ≡ map r (used_numbers (of_first second))
  used_is second all = used_again r (In (used_numbers kept)) (order cff tokens depth first kept kept_is copyright notice font_name dicts dicts_are cid deep) (of_first second) all

  all_in : (second : List ℕ) → AllByRecursion (λ (k : KeptGlyph). In (used_numbers kept) k.number) (of_first second) → AllByRecursion (In (used_numbers kept)) (used_numbers (of_first second))
  all_in second all = used_all r (In (used_numbers kept)) (order cff tokens depth first kept kept_is copyright notice font_name dicts dicts_are cid deep) (of_first second) all

  same_dicts : Fits ps → (second : List ℕ) → AllByRecursion (λ (k : KeptGlyph). In (used_numbers kept) k.number) (of_first second)
      → new_font_dicts (laid_out ps) (used_numbers (map (renumbered r) (of_first second))) ≡ new_font_dicts cff (used_numbers (of_first second))
  same_dicts fits second all =
      ap (new_font_dicts (laid_out ps)) (used_is second all)
      ∙ dicts_again cff (laid_out ps) r (used_numbers (of_first second))
      (all_for _ _ (used_numbers (of_first second)) (new_dict cff tokens depth first kept kept_is copyright notice font_name dicts dicts_are cid deep fits) (all_in second all))

  same_made : (second : List ℕ) → AllByRecursion (λ (k : KeptGlyph). In (used_numbers kept) k.number) (of_first second) → (d : List FontDict)
      → new_parts (laid_out ps) copyright notice font_name d (new_select (laid_out ps) (used_numbers (map (renumbered r) (of_first second))) (map (renumbered r) (of_first second))) (map (renumbered r) (of_first second))
      ≡ new_parts cff copyright notice font_name d (new_select cff (used_numbers (of_first second)) (of_first second)) (of_first second)
  same_made second all d =
      let order' = order cff tokens depth first kept kept_is copyright notice font_name dicts dicts_are cid deep in
      made_same cff (laid_out ps) copyright notice font_name d _ _ (of_first second) (map (renumbered r) (of_first second)) refl
      (ap (λ o. unwrap_or o thousandth_matrix) (matrix_is ps (table_offsets ps))) (ap (λ o. unwrap_or o zero_box) (box_is ps (table_offsets ps)))
      (ap (λ ns. new_select (laid_out ps) ns (map (renumbered r) (of_first second))) (used_is second all)
      ∙ select_same cff (laid_out ps) (used_numbers (of_first second)) (map r (used_numbers (of_first second))) (of_first second) (map (renumbered r) (of_first second)) cid (keyed_again ps)
      (same_places r (In (used_numbers kept)) order' (used_numbers (of_first second)) (of_first second) (all_in second all) all))
      (same_bytes r (of_first second))

  pub same_parts : Fits ps → string_at cff.strings copyright_operator cff.top ≡ Some copyright → string_at cff.strings notice_operator cff.top ≡ Some notice → string_at cff.strings font_name_operator cff.top ≡ Some font_name
      → (second : List ℕ) → AreGlyphs first second → parts_of (laid_out ps) tokens depth second ≡ parts_of cff tokens depth (composed first second)
  same_parts fits a b c second inside =
      let all = all_used cff tokens depth first kept kept_is copyright notice font_name dicts dicts_are cid deep fits second inside in
      let reads = reads_as ps fits in
      parts_of_same cff (laid_out ps) tokens depth (composed first second) second (of_first second) (map (renumbered r) (of_first second))
      (old_kept cff tokens depth first kept kept_is copyright notice font_name dicts dicts_are cid deep fits second inside)
      (new_kept cff tokens depth first kept kept_is copyright notice font_name dicts dicts_are cid deep fits second inside)
      (counted_same cff (laid_out ps) (of_first second) (map (renumbered r) (of_first second)) (ap length (used_is second all) ∙ length-map (used_numbers (of_first second)) r)
      (parts_for_same cff (laid_out ps) (of_first second) (map (renumbered r) (of_first second)) copyright notice font_name a b c reads.copyright reads.notice reads.font_name (same_dicts fits second all) (same_made second all)))

-- ---- of an answer
pub parts_again : (cff : Cff) (tokens depth : ℕ) (first second : List ℕ) (p : Parts) → is_cid_keyed cff ≡ true → 1 ≤ depth → Fits p → parts_of cff tokens depth first ≡ Ok p → AreGlyphs first second
    → parts_of (laid_out p) tokens depth second ≡ parts_of cff tokens depth (composed first second)
parts_again cff tokens depth first second p cid deep fits e inside =
    let a = answer_steps cff tokens depth first p e in
    let s = parts_steps cff a.kept p a.made in
    subst (λ q. parts_of (laid_out q) tokens depth second ≡ parts_of cff tokens depth (composed first second)) s.parts_are
    (same_parts cff tokens depth first a.kept a.kept_are s.copyright s.notice s.font_name s.dicts s.dicts_are cid deep (subst Fits (sym s.parts_are) fits) s.copyright_is s.notice_is s.font_name_is second inside)
