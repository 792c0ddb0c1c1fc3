-- The limits decide whether there is a file, and not which.
--   one_file                        files that are made within two pairs of limits
--   one_instance                    static fonts of the same font, settings and glyphs
--   answers_are_one                 all answers for them
use Rattle.std.proofs.Common.{◌≡◌, ℕ, List, Option, Ok, ℤ, sym, ap, ◌∙◌}
use Rattle.subsetter_base.specs.declared.tag.Tag.{Tag}
use Rattle.subsetter_base.proofs.Options.{just_is}
use Rattle.subsetter_base.proofs.Results.{done_is}
use Rattle.subsetter_sfnt.specs.declared.flavor.FontFlavor.TheVariants.{Cff}
use Rattle.subsetter_sfnt.specs.Read.{Font, stored}
use Rattle.subsetter_sfnt.specs.Laying.Written.{file, kind_word}
use Rattle.subsetter_cff_at.specs.Plain.{made_table}
use Rattle.subsetter_cff_at.proofs.Agreeing.{limits_agree}
use Rattle.subsetter_cff_instance.specs.CffInstance.{IsCffInstance}
use Rattle.subsetter_cff_instance.specs.Laws.{IsSameAtAnyLimits}
use Rattle.subsetter_cff_instance.specs.Plain.{Prepared, request_at}
use Rattle.subsetter_cff_instance.specs.Promise.{CffAnswersAreOne}
use Rattle.subsetter_cff_instance.specs.Tables.{new_tables}
use Rattle.subsetter_cff_instance.proofs.Steps.{CffSteps, font_steps}

by_limits : (find : List ℕ → Option (List ℕ)) (settings : List (Tag × ℤ)) (glyphs : List ℕ) (tokens depth other_tokens other_depth : ℕ) (x y : List ℕ) → CffSteps find settings glyphs tokens depth x → CffSteps find settings glyphs other_tokens other_depth y → x ≡ y
by_limits find settings glyphs tokens depth other_tokens other_depth x y i j =
    let cff2 : i.cff2 ≡ j.cff2 = just_is i.cff2 j.cff2 (sym i.outlines.cff2_is ∙ j.outlines.cff2_is) in
    let p : i.p ≡ j.p = done_is i.p j.p (sym i.prepared_is ∙ j.prepared_is) in
    let made : made_table j.cff2 (request_at glyphs j.p) tokens depth ≡ Ok i.cff
    = ap (λ (q : Prepared). made_table j.cff2 (request_at glyphs q) tokens depth) (sym p) ∙ ap (λ (l : List ℕ). made_table l (request_at glyphs i.p) tokens depth) (sym cff2) ∙ i.cff_is in
    let cff : i.cff ≡ j.cff = limits_agree j.cff2 (request_at glyphs j.p) tokens depth other_tokens other_depth i.cff j.cff made j.cff_is in
    sym i.file_is
    ∙ ap (λ (q : Prepared). file (kind_word Cff) (new_tables find q.source q.lines glyphs q.metrics i.cff)) p ∙ ap (λ (l : List ℕ). file (kind_word Cff) (new_tables find j.p.source j.p.lines glyphs j.p.metrics l)) cff
    ∙ j.file_is

pub one_file : IsSameAtAnyLimits
one_file font settings glyphs tokens depth other_tokens other_depth x y e f =
    by_limits (stored font) settings glyphs tokens depth other_tokens other_depth x y (font_steps font settings glyphs tokens depth x e) (font_steps font settings glyphs other_tokens other_depth y f)

pub one_instance : (font : Font) (settings : List (Tag × ℤ)) (glyphs : List ℕ) (x y : List ℕ) → IsCffInstance font settings glyphs x → IsCffInstance font settings glyphs y → x ≡ y
one_instance font settings glyphs x y i j = one_file font settings glyphs i.tokens i.depth j.tokens j.depth x y i.layout j.layout

pub answers_are_one : CffAnswersAreOne
answers_are_one font settings glyphs tokens depth out a other_tokens other_depth other b = one_instance font settings glyphs out other a.instance b.instance
