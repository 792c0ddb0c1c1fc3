-- What draws the codes, step by step.
use Rattle.std.proofs.Common.{◌≡◌, ℕ, ◌+◌, ◌<◌, List, [], ◌∷◌, length, Option, Some, None, Vec, Global, refl, sym, ap, subst, ◌∙◌, ◌⊎◌, inl, inr, arith}
use Rattle.std.specs.Prelude.{Result, Ok, Err, IfOk, IfErr, unwrap_or}
use Rattle.std.specs.Option.{option_map}
use Rattle.subsetter_base.specs.Gives.{Fails}
use Rattle.subsetter_base.specs.declared.error.Error.{Error}
use Rattle.subsetter_base.specs.declared.error.Error.TheVariants.{OutOfMemory, OverflowError}
use Rattle.subsetter_sfnt.specs.Plain.{opened}
use Rattle.subsetter_sfnt.specs.Read.{as_font, table_in}
use Rattle.subsetter_variable.proofs.Stands.{fails_is, find_is}
use Rattle.own_glyphs.specs.declared.glyph.OwnGlyph.{OwnGlyph}
use Rattle.cff_repeats.specs.Repeats.{with_repeats}
use Rattle.cff_repeats.proofs.Whole.{repeats_change}
use Rattle.pdf_widths.specs.Laws.{HaveWidths}
use Rattle.pdf_widths.specs.Tables.{with_widths}
use Rattle.pdf_text_font.specs.Drawn.{AreMapped, HasMore, IsUnmapped, IsUnrepeated, count_by, crowded, figures_of, glyph_count, unrepeated, with_advances}
use Rattle.pdf_text_font.specs.declared.drawn.Drawn.{Drawn}
use Rattle.pdf_text_font.specs.declared.pairs.Drawing.{Drawing}

-- ---- how many glyphs there are

pub count_found : (file d seen : List ℕ) (o : Option ℕ) → opened (as_font file) ≡ Ok d → seen ≡ file → o ≡ count_by (table_in seen d) → glyph_count file ≡ o
count_found file d seen o opened_is same is = sym (is ∙ ap count_by (find_is (as_font file) d seen opened_is same))

-- ---- with others or without

pub too_many : (file : List ℕ) (others : List OwnGlyph) (owns number : ℕ) (e : Error) → glyph_count file ≡ Some number → (e ≡ OverflowError) × (65535 < number + owns) → (e ≡ OutOfMemory) ⊎ IsUnmapped file others owns e
too_many file others owns number e found h = inr (subst (IsUnmapped file others owns) (sym h.0) (crowded number found h.1))

abbrev pub map_of : Drawn → Option (List ℕ)
map_of d = option_map (λ (m : Vec ℕ Global). m.items) d.map

pub with_others : (others : List OwnGlyph) (owns : ℕ) (ds : List Drawing) (seen file : List ℕ) (r : Result Drawn Error) → 0 < length others → seen ≡ file → IfOk r (λ d. HasMore seen others owns ds d.program.items (map_of d)) → IfOk r (λ d. AreMapped file others owns ds d.program.items (map_of d))
with_others [] owns ds seen file r some same h = absurd (omega arith)
with_others (o ∷ others) owns ds seen file r some same h = subst (λ (f : List ℕ). IfOk r (λ d. HasMore f (o ∷ others) owns ds d.program.items (map_of d))) same h

pub others_refused : (others : List OwnGlyph) (owns : ℕ) (seen file : List ℕ) (r : Result Drawn Error) → 0 < length others → seen ≡ file → IfErr r (λ e. (e ≡ OutOfMemory) ⊎ IsUnmapped seen others owns e) → IfErr r (λ e. (e ≡ OutOfMemory) ⊎ ((0 < length others) × IsUnmapped file others owns e))
others_refused others owns seen file (Ok d) some same h = tt
others_refused others owns seen file (Err e) some same (inl m) = inl m
others_refused others owns seen file (Err e) some same (inr f) = inr (some, subst (λ (l : List ℕ). IsUnmapped l others owns e) same f)

-- ---- outlines in `CFF `

pub not_repeated : (cff : List ℕ) (others : List OwnGlyph) (ds : List Drawing) (ns : List (Option ℕ)) (e : Error) → ns ≡ figures_of others ds → Fails e (with_repeats cff ns) → (e ≡ OutOfMemory) ⊎ IsUnrepeated cff others ds e
not_repeated cff others ds ns e same h = elim (fails_is e (with_repeats cff ns) h) [ inl m ↦ inl m | inr f ↦ inr (unrepeated (sym (ap (with_repeats cff) same) ∙ f)) ]

by_widths : (again program advances : List ℕ) (o : Option (List ℕ)) → with_widths again advances ≡ o → program ≡ unwrap_or o again → ((new : List ℕ) → with_widths again advances ≡ Some new → HaveWidths advances again new) → (program ≡ again) ⊎ HaveWidths advances again program
by_widths again program advances None e is have = inl is
by_widths again program advances (Some new) e is have = inr (subst (HaveWidths advances again) (sym is) (have new e))

pub widths_read : (cff : List ℕ) (ns : List (Option ℕ)) (advances again program : List ℕ) → with_repeats cff ns ≡ Ok again → program ≡ with_advances advances again → (program ≡ again) ⊎ HaveWidths advances again program
widths_read cff ns advances again program made is = by_widths again program advances (with_widths again advances) refl is (λ new e. repeats_change cff ns advances again new made e)
