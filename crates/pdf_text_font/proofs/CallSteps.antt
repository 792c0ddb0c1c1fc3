-- The font of a text, step by step.
use Rattle.std.proofs.Common.{◌≡◌, ℕ, suc, ◌+◌, ◌≤◌, List, [], ◌∷◌, length, map, Some, refl, sym, ap, subst, ◌∙◌, ◌⊎◌, inl, inr, arith, length-append}
use Rattle.std.specs.Prelude.{Result, Ok, Err, IfOk, IfErr, ℤ}
use Rattle.std.proofs.lemmas.List.{length-map}
use Rattle.subsetter_base.specs.Indexes.{index_of}
use Rattle.subsetter_base.specs.declared.error.Error.{Error}
use Rattle.subsetter_base.specs.declared.error.Error.TheVariants.{OutOfMemory}
use Rattle.subsetter_base.specs.declared.tag.Tag.{Tag}
use Rattle.subsetter_sfnt.specs.Read.{Font}
use Rattle.cid_embed.specs.Embed.{numbering}
use Rattle.pdf_codes.specs.Codes.{Used, glyphs_of}
use Rattle.pdf_figures.specs.declared.ink.OwnInk.{OwnInk}
use Rattle.pdf_figures.specs.declared.ink.Placed.{Placed}
use Rattle.pdf_runs.specs.declared.codes.Pair.{Pair}
use Rattle.pdf_source.specs.declared.choice.FontOptions.{FontOptions}
use Rattle.pdf_font.specs.PdfFont.{HasFontFault, IsPdfFont, font_of}
use Rattle.pdf_font.specs.declared.error.FontError.{FontError}
use Rattle.pdf_font.specs.declared.error.FontError.TheVariants.{Subset}
use Rattle.pdf_font.specs.declared.font.PdfFont.{PdfFont}
use Rattle.pdf_text_font.specs.Own.{all_parts}
use Rattle.pdf_text_font.specs.Pairs.{code_use, drawings_of, part_use, uses_of}
use Rattle.pdf_text_font.specs.TextFont.{HasNoSubset, HasSubsetFault, HasTextFault, IsTextFont, in_drawing, in_subset, subset_options}
use Rattle.pdf_text_font.specs.declared.font.TextFont.{TextFont}
use Rattle.pdf_text_font.specs.declared.pairs.Drawing.{Drawing}

-- ---- lengths

-- something draws each code
pub length-drawings : (count owns : ℕ) (ps : List Pair) (ns : List ℕ) → length ps ≤ length ns → length (drawings_of count owns ps ns) ≡ length ps
length-drawings count owns [] ns e = refl
length-drawings count owns (p ∷ ps) [] e = absurd (omega arith)
length-drawings count owns (p ∷ ps) (n ∷ ns) e = ap suc (length-drawings count owns ps ns (omega arith))

pub all_drawn : (count owns : ℕ) (ps : List Pair) (ns seen : List ℕ) (ds drawn : List Drawing) → length ps ≤ length ns → seen ≡ ns → ds ≡ drawings_of count owns ps seen → drawn ≡ ds → length drawn ≡ length ps
all_drawn count owns ps ns seen ds drawn e s d is = ap length (is ∙ d ∙ ap (drawings_of count owns ps) s) ∙ length-drawings count owns ps ns e

-- each glyph in use has a CID
pub length-cids : (font : Font) (settings : List (Tag × ℤ)) (options : FontOptions) (us : List Used) (f : PdfFont) → IsPdfFont font settings options us f → length f.cids.items ≡ length us
length-cids font settings options us f p =
    let gs : List ℕ = glyphs_of us in
    let left : length (map Some p.made.new.cids.items) ≡ length p.made.new.cids.items = length-map p.made.new.cids.items Some in
    let right : length (map (index_of (numbering gs)) gs) ≡ length gs = length-map gs (index_of (numbering gs)) in
    let used : length gs ≡ length us = length-map us (λ (u : Used). u.glyph) in
    ap length p.made.cids ∙ sym left ∙ ap length p.made.embedded.answer.embedded.cids ∙ right ∙ used

pub length-uses : (count : ℕ) (ps : List Pair) (parts : List Placed) → length (uses_of count ps parts) ≡ length ps + length parts
length-uses count ps parts =
    let codes : length (map (code_use count) ps) ≡ length ps = length-map ps (code_use count) in
    let others : length (map part_use parts) ≡ length parts = length-map parts part_use in
    omega (arith, length-append (map (code_use count) ps) (map part_use parts), codes, others)

-- ---- the subset

module _ (bytes : List ℕ) (index : ℕ) (settings : List (Tag × ℤ)) (options chosen : FontOptions) (ws us : List Used) (chosen_is : chosen ≡ subset_options options) (us_are : us ≡ ws) where
  abbrev whole : Font
  whole = font_of bytes index options

  pub subset_made : (f : PdfFont) → IsPdfFont (font_of bytes index chosen) settings chosen us f → IsPdfFont whole settings (subset_options options) ws f
  subset_made f h =
      subst (λ (l : List Used). IsPdfFont whole settings (subset_options options) l f) us_are (subst (λ (o : FontOptions). IsPdfFont (font_of bytes index o) settings o us f) chosen_is h)

  pub subset_refused : (e : FontError) → (e ≡ Subset OutOfMemory) ⊎ ((order : List ℕ) × HasFontFault (font_of bytes index chosen) settings chosen us order e) → (e ≡ Subset OutOfMemory) ⊎ HasNoSubset whole settings options ws e
  subset_refused e (inl m) = inl m
  subset_refused e (inr h) =
      inr (record {
        order = h.0;
        fault = subst (λ (l : List Used). HasFontFault whole settings (subset_options options) l h.0 e) us_are (subst (λ (o : FontOptions). HasFontFault (font_of bytes index o) settings o us h.0 e) chosen_is h.1);
      })

  pub all_made : (r : Result PdfFont FontError) → IfOk r (λ f. IsPdfFont (font_of bytes index chosen) settings chosen us f) → IfOk r (λ f. IsPdfFont whole settings (subset_options options) ws f)
  all_made (Ok f) h = subset_made f h
  all_made (Err e) h = tt

  pub all_refused : (r : Result PdfFont FontError) → IfErr r (λ e. (e ≡ Subset OutOfMemory) ⊎ ((order : List ℕ) × HasFontFault (font_of bytes index chosen) settings chosen us order e)) → IfErr r (λ e. (e ≡ Subset OutOfMemory) ⊎ HasNoSubset whole settings options ws e)
  all_refused (Ok f) h = tt
  all_refused (Err e) h = subset_refused e h

-- ---- the whole

module _ (font : Font) (settings : List (Tag × ℤ)) (options : FontOptions) (count : ℕ) (own : List OwnInk) where
  -- for the parts of own glyphs
  pub with_parts : (ps : List Pair) (parts : List Placed) (s : PdfFont) → parts ≡ all_parts own → IsPdfFont font settings (subset_options options) (uses_of count ps parts) s → IsPdfFont font settings (subset_options options) (uses_of count ps (all_parts own)) s
  with_parts ps parts s e h = subst (λ (l : List Placed). IsPdfFont font settings (subset_options options) (uses_of count ps l) s) e h

  pub no_subset : (ps : List Pair) (parts : List Placed) (e : FontError) → parts ≡ all_parts own → (e ≡ Subset OutOfMemory) ⊎ HasNoSubset font settings options (uses_of count ps parts) e → (e ≡ Subset OutOfMemory) ⊎ HasTextFault font settings options count own ps e
  no_subset ps parts e is (inl m) = inl m
  no_subset ps parts e is (inr f) = inr (in_subset (subst (λ (l : List Placed). HasNoSubset font settings options (uses_of count ps l) e) is f))

  pub undrawn : (ps : List Pair) (s : PdfFont) → IsPdfFont font settings (subset_options options) (uses_of count ps (all_parts own)) s → (e : Error) → (e ≡ OutOfMemory) ⊎ HasSubsetFault count own ps s e → (Subset e ≡ Subset OutOfMemory) ⊎ HasTextFault font settings options count own ps (Subset e)
  undrawn ps s made e (inl m) = inl (ap Subset m)
  undrawn ps s made e (inr h) = inr (in_drawing s made h)

  -- by whatever list of pairs it was made
  pub text_made : (ps qs : List Pair) → ps ≡ qs → (r : Result TextFont FontError) → IfOk r (λ t. IsTextFont font settings options count own ps t) → IfOk r (λ t. IsTextFont font settings options count own qs t)
  text_made ps qs e r h = subst (λ (l : List Pair). IfOk r (λ t. IsTextFont font settings options count own l t)) e h

  pub text_refused : (ps qs : List Pair) → ps ≡ qs → (r : Result TextFont FontError) → IfErr r (λ e. (e ≡ Subset OutOfMemory) ⊎ HasTextFault font settings options count own ps e) → IfErr r (λ e. (e ≡ Subset OutOfMemory) ⊎ HasTextFault font settings options count own qs e)
  text_refused ps qs e r h = subst (λ (l : List Pair). IfErr r (λ w. (w ≡ Subset OutOfMemory) ⊎ HasTextFault font settings options count own l w)) e h
