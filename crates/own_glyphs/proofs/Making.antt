-- The file is made or refused, of a font whose tables were read.
--   found                        its tables are those that were found
--   unboxed, unprofiled, faulted what refuses them
--   is_made, is_unmade           what was laid out, or not
use Rattle.std.proofs.Common.{◌≡◌, ℕ, ◌+◌, ◌≤◌, List, ◌++◌, length, map, Option, Ok, Err, sym, ap, subst, ◌∙◌, ◌⊎◌, inl, inr, arith}
use Rattle.std.specs.Option.{option_and_then}
use Rattle.std.proofs.lemmas.List.{length-append, length-map}
use Rattle.subsetter_base.specs.Gives.{Fails}
use Rattle.subsetter_base.specs.declared.error.Error.{Error}
use Rattle.subsetter_base.specs.declared.error.Error.TheVariants.{MalformedFont, OutOfMemory}
use Rattle.subsetter_points.specs.declared.bounds.Bounds.{Bounds}
use Rattle.subsetter_sfnt.specs.Laying.Rows.{present, rows}
use Rattle.subsetter_sfnt.specs.Laying.Written.{kind_word}
use Rattle.subsetter_sfnt.specs.Plain.{file_of, opened}
use Rattle.subsetter_sfnt.specs.Read.{as_font, stored, table_in}
use Rattle.subsetter_sfnt.specs.declared.fields.hmtx.LongHorMetric.{LongHorMetric}
use Rattle.subsetter_sfnt.specs.declared.flavor.FontFlavor.TheVariants.{TrueType}
use Rattle.subsetter_sfnt.proofs.Laws.Fault.{opened_records}
use Rattle.subsetter.proofs.TruetypeLaws.PlainAnswers.{gave_err}
use Rattle.own_glyphs.specs.declared.glyph.OwnGlyph.{OwnGlyph}
use Rattle.own_glyphs.specs.Composite.{own_boxes}
use Rattle.own_glyphs.specs.Own.{IsLaidOut, IsMade}
use Rattle.own_glyphs.specs.Profile.{maxp_with, most_parts}
use Rattle.own_glyphs.specs.Refused.{HasSourceFault, IsUnmade, faulty, no_box, no_memory, no_profile, too_large}
use Rattle.own_glyphs.specs.Source.{AreMetrics, AreOffsets, Source}
use Rattle.own_glyphs.specs.Written.{AreSmall, Further, ends_from, further, glyf_with, laid_with, metrics_with, offsets_with, outlines, tables_by}
use Rattle.own_glyphs.proofs.Afresh.{length-boxes, length-further}

pub found : (font bytes d : List ℕ) → bytes ≡ font → opened (as_font font) ≡ Ok d → table_in bytes d ≡ stored (as_font font)
found font bytes d same o = ap (λ (b : List ℕ). table_in b d) same ∙ sym (ap (λ (r : Option (List ℕ)). λ (tag : List ℕ). option_and_then (λ directory. table_in font directory tag) r) (opened_records (as_font font) d o))

module _ (find : List ℕ → Option (List ℕ)) (s : Source) (own : List OwnGlyph) where
  pub unboxed : (e : Error) → Fails e (own_boxes s own) → IsUnmade find s own e
  unboxed e h = gave_err (λ (bs : List Bounds). bs) (Err e) (own_boxes s own) (λ d. IsUnmade find s own d) h no_memory (λ d k. no_box k)

  pub faulted : (e : Error) → (e ≡ OutOfMemory) ⊎ ((e ≡ MalformedFont) × HasSourceFault s) → IsUnmade find s own e
  faulted e (inl m) = subst (λ d. IsUnmade find s own d) (sym m) no_memory
  faulted e (inr f) = subst (λ d. IsUnmade find s own d) (sym f.0) (faulty f.1)

  module _ (n : ℕ) (n_is : n ≡ s.count + length own) (parts : ℕ) (parts_are : parts ≡ most_parts own) where
    profile_is : maxp_with n parts s.maxp ≡ maxp_with (s.count + length own) (most_parts own) s.maxp
    profile_is = ap (λ (k : ℕ). maxp_with k parts s.maxp) n_is ∙ ap (λ (k : ℕ). maxp_with (s.count + length own) k s.maxp) parts_are

    pub unprofiled : (e : Error) → Fails e (maxp_with n parts s.maxp) → IsUnmade find s own e
    unprofiled e h = gave_err (λ (b : List ℕ). b) (Err e) (maxp_with n parts s.maxp) (λ d. IsUnmade find s own d) h no_memory (λ d k. no_profile (sym profile_is ∙ k))

    module _ (few : s.count + length own ≤ 65535) (boxes : List Bounds) (boxes_are : own_boxes s own ≡ Ok boxes) (maxp : List ℕ) (maxp_is : maxp_with n parts s.maxp ≡ Ok maxp)
        (offsets : List ℕ) (are_offsets : AreOffsets s offsets) (metrics : List LongHorMetric) (are_metrics : AreMetrics s metrics)
        (copy glyf new : List ℕ) (all : List LongHorMetric) (b c : List Bounds) (b_is : b ≡ boxes) (c_is : c ≡ boxes) (copy_is : copy ≡ s.glyf)
        (glyf_is : glyf ≡ copy ++ outlines (further own b)) (new_is : new ≡ offsets ++ ends_from (length copy) (further own b)) (all_is : all ≡ metrics_with metrics (further own c)) (small : AreSmall (further own c)) where
      abbrev more : List Further
      more = further own boxes

      count : length more ≡ length own
      count = length-further own boxes (length-boxes s own boxes boxes_are)

      all_with : all ≡ metrics_with metrics more
      all_with = all_is ∙ ap (λ (x : List Bounds). metrics_with metrics (further own x)) c_is

      pub pairs : length all ≤ n
      pairs = omega (arith, ap length all_with, length-append metrics (map (λ (f : Further). f.metric) more), length-map more (λ (f : Further). f.metric), are_metrics.count, n_is, count)

      glyf_all : glyf ≡ glyf_with s more
      glyf_all = glyf_is ∙ ap (λ (x : List Bounds). copy ++ outlines (further own x)) b_is ∙ ap (λ (x : List ℕ). x ++ outlines more) copy_is

      new_all : new ≡ offsets_with s offsets more
      new_all = new_is ∙ ap (λ (x : List Bounds). offsets ++ ends_from (length copy) (further own x)) b_is ∙ ap (λ (x : List ℕ). offsets ++ ends_from (length x) more) copy_is

      total : n ≡ s.count + length more
      total = omega (arith, n_is, count)

      same : file_of (kind_word TrueType) (present (rows (tables_by find s glyf new all maxp n))) ≡ file_of (kind_word TrueType) (laid_with find s offsets metrics maxp more)
      same =
          ap (λ (x : List ℕ). file_of (kind_word TrueType) (present (rows (tables_by find s x new all maxp n)))) glyf_all
          ∙ ap (λ (x : List ℕ). file_of (kind_word TrueType) (present (rows (tables_by find s (glyf_with s more) x all maxp n)))) new_all
          ∙ ap (λ (x : List LongHorMetric). file_of (kind_word TrueType) (present (rows (tables_by find s (glyf_with s more) (offsets_with s offsets more) x maxp n)))) all_with
          ∙ ap (λ (x : ℕ). file_of (kind_word TrueType) (present (rows (tables_by find s (glyf_with s more) (offsets_with s offsets more) (metrics_with metrics more) maxp x)))) total

      pub is_made : (out : List ℕ) → file_of (kind_word TrueType) (present (rows (tables_by find s glyf new all maxp n))) ≡ Ok out → IsMade find s own out
      is_made out h =
          let layout : IsLaidOut find s own boxes out = record { offsets = offsets; are_offsets = are_offsets; metrics = metrics; are_metrics = are_metrics; maxp = maxp; maxp_is = sym profile_is ∙ maxp_is; bytes = sym same ∙ h } in
          record { few = few; boxes = boxes; boxes_are = boxes_are; small = subst (λ (x : List Bounds). AreSmall (further own x)) c_is small; layout = layout }

      pub is_unmade : (e : Error) → file_of (kind_word TrueType) (present (rows (tables_by find s glyf new all maxp n))) ≡ Err e → IsUnmade find s own e
      is_unmade e h = too_large offsets metrics boxes maxp are_offsets are_metrics boxes_are (sym profile_is ∙ maxp_is) (sym same ∙ h)
