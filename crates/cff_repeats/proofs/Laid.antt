-- The new table in memory is the one that is laid out.
use Rattle.std.proofs.Common.{◌≡◌, ℕ, suc, ◌<◌, List, [], ◌∷◌, length, Option, refl, ap, arith, ◌∙◌, sym}
use Rattle.std.specs.Prelude.{slice_index, Result, Ok, Err}
use Rattle.std.specs.List.{AllByRecursion}
use Rattle.std.proofs.lemmas.List.{length-map}
use Rattle.subsetter_base.specs.Bytes.{◌>>=◌}
use Rattle.subsetter_base.specs.Gives.{Fails}
use Rattle.subsetter_base.specs.declared.error.Error.{Error}
use Rattle.subsetter_cff.specs.declared.write.glyphs.kept_glyphs.KeptGlyphs.{KeptGlyphs}
use Rattle.subsetter_cff.specs.declared.write.laying.table.TableParts.{TableParts}
use Rattle.subsetter_cff.specs.Read.Cff.{Cff}
use Rattle.subsetter_cff.specs.Write.Glyphs.KeptView.{numbers_of, texts_of}
use Rattle.subsetter_cff.specs.Write.Laying.Layout.{Parts, cff_table}
use Rattle.subsetter_cff.specs.Write.Laying.PartsBy.{parts_by}
use Rattle.subsetter_cff.specs.Write.Laying.PartsView.{parts_view}
use Rattle.subsetter_cff.specs.Write.Plain.{KeptGlyph, counted_parts, limited}
use Rattle.subsetter_cff.proofs.ReadLaws.Failing.{fails_on}
use Rattle.subsetter_cff.proofs.WriteLaws.GlyphsLaws.FlatIndexes.{length-ends}
use Rattle.subsetter_cff.proofs.WriteLaws.LayingLaws.PartsMade.{parts_for_is, parts_filled}
use Rattle.subsetter_cff.proofs.WriteLaws.StepsAgree.{Made, few_in_table}
use Rattle.cff_repeats.specs.Repeats.{figures_of, repeated}
use Rattle.cff_repeats.specs.View.{AreKeptFigures}
use Rattle.cff_repeats.proofs.Glyphs.{length-figures}

abbrev from_parts : Parts → Result (List ℕ) Error
from_parts p = limited p >>= λ q. Ok (cff_table q)

abbrev with_texts : List (List ℕ) → Parts → Parts
with_texts texts p = record p { char_strings = texts }

abbrev AreSmall : List ℕ → Type 0
AreSmall numbers = (i : ℕ) → slice_index numbers i < 256

all_small : (kept : List KeptGlyph) → AreSmall (numbers_of kept) → AllByRecursion (λ (k : KeptGlyph). k.number < 256) kept
all_small [] h = tt
all_small (k ∷ kept) h = (h 0, all_small kept (λ i. h (suc i)))

grouped : {A B C : Type 0} (r : Result A Error) (f : A → Result B Error) (g : B → Result C Error) → ((r >>= f) >>= g) ≡ (r >>= λ x. f x >>= g)
grouped (Ok x) f g = refl
grouped (Err e) f g = refl

after_keeping : (cff : Cff) (figures : List (Option ℕ)) (kept : List KeptGlyph) → figures_of cff figures ≡ Ok kept → repeated cff figures ≡ (counted_parts cff kept >>= λ p. from_parts p)
unfolding repeated
after_keeping cff figures kept e = rw e refl

pub keeping_fails : (cff : Cff) (figures : List (Option ℕ)) (e : Error) → Fails e (figures_of cff figures) → Fails e (repeated cff figures)
unfolding repeated
keeping_fails cff figures e h = fails_on (figures_of cff figures) (λ kept. counted_parts cff kept >>= λ p. from_parts p) _ e refl h

module _ (cff : Cff) (figures : List (Option ℕ)) (k : KeptGlyphs) (all : AreKeptFigures cff figures k) (small : AreSmall k.numbers.items) where
  whole_is : repeated cff figures ≡ (parts_by cff k.numbers.items [] >>= λ p. from_parts (with_texts (texts_of all.kept) p))
  whole_is =
      let numbers = all.shown.numbers in
      let bytes_small : AreSmall (numbers_of all.kept) = λ i. (let same : slice_index k.numbers.items i ≡ slice_index (numbers_of all.kept) i = ap (λ (l : List ℕ). slice_index l i) numbers in omega (arith, same, small i)) in
      after_keeping cff figures all.kept all.are
      ∙ ap (λ (r : Result Parts Error). r >>= λ p. from_parts p)
      (parts_for_is cff all.kept (all_small all.kept bytes_small) ∙ ap (λ (l : List ℕ). parts_by cff l (texts_of all.kept)) (sym numbers) ∙ parts_filled cff k.numbers.items (texts_of all.kept))
      ∙ grouped (parts_by cff k.numbers.items []) (λ p. Ok (with_texts (texts_of all.kept) p)) (λ p. from_parts p)

  pub parts_fail : (e : Error) → Fails e (parts_by cff k.numbers.items []) → Fails e (repeated cff figures)
  parts_fail e h = fails_on (parts_by cff k.numbers.items []) (λ p. from_parts (with_texts (texts_of all.kept) p)) (repeated cff figures) e (sym whole_is) h

  module _ (t : TableParts) (ends : t.ends ≡ k.ends) where
    pub count_is : length t.ends.items ≡ length figures
    count_is =
        ap (λ v. length v.items) ends ∙ ap length all.shown.ends ∙ length-ends 1 (texts_of all.kept) ∙ length-map all.kept (λ (g : KeptGlyph). g.bytes) ∙ length-figures cff figures all.kept all.are

    pub made_is : t.char_strings ≡ k.char_strings → parts_by cff k.numbers.items [] ≡ Ok (parts_view t []) → Made (repeated cff figures) t
    made_is texts e = record {
      texts = texts_of all.kept;
      has = record { text = ap (λ v. v.items) texts ∙ all.shown.char_strings; ends = ap (λ v. v.items) ends ∙ all.shown.ends };
      whole_is = whole_is ∙ ap (λ (r : Result Parts Error). r >>= λ p. from_parts (with_texts (texts_of all.kept) p)) e;
      few = few_in_table cff k.numbers.items t e;
    }
