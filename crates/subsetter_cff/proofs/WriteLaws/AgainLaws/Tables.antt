-- The table of a subset of a subset.
use Rattle.std.proofs.Common.{◌≡◌, ℕ, suc, ◌<◌, ◌≤◌, true, List, [], ◌∷◌, length, Some, refl, ap, arith, ◌∙◌, sym, subst}
use Rattle.std.specs.Prelude.{slice_index, Ok}
use Rattle.std.specs.List.{AllByRecursion}
use Rattle.std.proofs.lemmas.Option.{same_Some, slice_get-get_or}
use Rattle.std.proofs.lemmas.List.{length-map}
use Rattle.subsetter_base.specs.Bytes.{◌>>=◌}
use Rattle.subsetter_cff.specs.Read.Cff.{Cff, cff_parts, is_cid_keyed}
use Rattle.subsetter_cff.specs.Write.Laying.Layout.{Parts, cff_table}
use Rattle.subsetter_cff.specs.Write.Laying.Fits.{Fits}
use Rattle.subsetter_cff.specs.Read.Opened.{opened}
use Rattle.subsetter_cff.specs.Write.Plain.{parts_of, cff_subset}
use Rattle.subsetter_cff.specs.Write.Again.{composed, AreGlyphs, AreAll, IsRequested, IsSameTable, IsGivenBack, StaysFromThenOn}
use Rattle.subsetter_cff.proofs.ReadLaws.Results.{bind_ok, same_Ok}
use Rattle.subsetter_cff.proofs.ReadLaws.SourceBytes.{source_of}
use Rattle.subsetter_cff.proofs.WriteLaws.Headline.{opened_is, answer_fits}
use Rattle.subsetter_cff.proofs.ReadLaws.Soundness.{TopIsSound, was_opened}
use Rattle.subsetter_cff.proofs.WriteLaws.LayingLaws.Fronts.{laid_out, parts_read}
use Rattle.subsetter_cff.proofs.WriteLaws.AgainLaws.NumberLaws.FontDicts.{keyed_again}
use Rattle.subsetter_cff.proofs.WriteLaws.AgainLaws.Composition.{same_lists, index-map}
use Rattle.subsetter_cff.proofs.WriteLaws.AgainLaws.SameParts.{parts_again}
use Rattle.subsetter_cff.proofs.WriteLaws.AgainLaws.Demands.{Shaped}
use Rattle.subsetter_cff.proofs.WriteLaws.AgainLaws.Opening.{opened_again}
use Rattle.subsetter_cff.proofs.WriteLaws.AgainLaws.Shapes.{shaped}

-- ---- an answered table, by its parts
record IsAnswered (bytes : List ℕ) (tokens depth : ℕ) (glyphs out : List ℕ) : Type 0 where
  source : Cff
  source_is : cff_parts bytes ≡ Some source
  opened_source : opened bytes ≡ Ok source
  made : Parts
  made_is : parts_of source tokens depth glyphs ≡ Ok made
  out_is : cff_table made ≡ out
  fits : Fits made
  shape : Shaped made

is_answered : (bytes : List ℕ) (tokens depth : ℕ) (glyphs out : List ℕ) → IsRequested depth glyphs → cff_subset bytes tokens depth glyphs ≡ Ok out → IsAnswered bytes tokens depth glyphs out
unfolding cff_subset
is_answered bytes tokens depth glyphs out asked e =
    let a = bind_ok (opened bytes) _ out e in
    let b = bind_ok (parts_of a.0 tokens depth glyphs) _ out a.1.1 in
    let source = opened_is bytes a.0 a.1.0 in
    let w = was_opened bytes a.0 a.1.0 in
    let sound : TopIsSound a.0 = subst TopIsSound (same_Some _ _ (sym w.cff_is ∙ source)) w.top in
    record {
      source = a.0;
      source_is = source;
      opened_source = a.1.0;
      made = b.0;
      made_is = b.1.0;
      out_is = same_Ok _ _ b.1.1;
      fits = answer_fits bytes a.0 tokens depth glyphs b.0 (source_of bytes a.0 source) asked.some asked.few b.1.0;
      shape = shaped a.0 sound tokens depth glyphs b.0 b.1.0;
    }

table_of : (bytes : List ℕ) (cff : Cff) (tokens depth : ℕ) (glyphs : List ℕ) → opened bytes ≡ Ok cff → cff_subset bytes tokens depth glyphs ≡ (parts_of cff tokens depth glyphs >>= λ p. Ok (cff_table p))
unfolding cff_subset
table_of bytes cff tokens depth glyphs e = rw e refl

same_table : (bytes : List ℕ) (tokens depth : ℕ) (first second out : List ℕ) (a : IsAnswered bytes tokens depth first out) → 1 ≤ depth → is_cid_keyed a.source ≡ true → AreGlyphs first second
    → cff_subset out tokens depth second ≡ cff_subset bytes tokens depth (composed first second)
same_table bytes tokens depth first second out a deep cid inside =
    ap (λ b. cff_subset b tokens depth second) (sym a.out_is)
    ∙ table_of (cff_table a.made) (laid_out a.made) tokens depth second (opened_again a.made a.fits a.shape)
    ∙ ap (λ r. r >>= λ p. Ok (cff_table p)) (parts_again a.source tokens depth first second a.made cid deep a.fits a.made_is inside)
    ∙ sym (table_of bytes a.source tokens depth (composed first second) a.opened_source)

pub is_same_table : IsSameTable
is_same_table bytes cff tokens depth first second out asked read cid e inside =
    let a = is_answered bytes tokens depth first out asked e in
    same_table bytes tokens depth first second out a asked.deep (ap is_cid_keyed (same_Some _ _ (sym a.source_is ∙ read)) ∙ cid) inside

-- ---- all glyphs in order
all_inside : (n : ℕ) (xs : List ℕ) → ((i : ℕ) → i < length xs → slice_index xs i < n) → AllByRecursion (λ g. g < n) xs
all_inside n [] h = tt
all_inside n (x ∷ xs) h = (h 0 (omega arith), all_inside n xs (λ i lt. h (suc i) (omega (arith, lt))))

are_glyphs : (first all : List ℕ) → AreAll (length first) all → AreGlyphs first all
are_glyphs first all they = all_inside (length first) all (λ i lt. let lt' : i < length first = omega (arith, lt, they.count) in omega (arith, lt', they.each i lt'))

composed_all : (first all : List ℕ) → AreAll (length first) all → composed first all ≡ first
composed_all first all they =
    let count : length (composed first all) ≡ length first = length-map all (slice_index first) ∙ they.count in
    same_lists (composed first all) first count (λ i lt.
    let lt' : i < length all = omega (arith, lt, they.count) in
    slice_get-get_or (composed first all) i 0 (omega (arith, lt, count))
    ∙ ap Some (index-map (slice_index first) all i lt' ∙ ap (slice_index first) (they.each i lt))
    ∙ sym (slice_get-get_or first i 0 lt))

pub is_given_back : IsGivenBack
is_given_back bytes cff tokens depth first all out asked read cid e they =
    is_same_table bytes cff tokens depth first all out asked read cid e (are_glyphs first all they)
    ∙ ap (cff_subset bytes tokens depth) (composed_all first all they) ∙ e

pub stays_from_then_on : StaysFromThenOn
stays_from_then_on bytes tokens depth first all out again asked e they f =
    let a = is_answered bytes tokens depth first out asked e in
    let some : 1 ≤ length all = omega (arith, asked.some, they.count) in
    let few : length all ≤ 65535 = omega (arith, asked.few, they.count) in
    let asked' : IsRequested depth all = record { deep = asked.deep; some = some; few = few } in
    is_given_back out (laid_out a.made) tokens depth all all again asked' (ap cff_parts (sym a.out_is) ∙ parts_read a.made a.fits) (keyed_again a.made) f
    (subst (λ n. AreAll n all) (sym they.count) they)
