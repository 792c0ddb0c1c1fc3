-- Laws of what a PDF has of a font.
use Rattle.std.proofs.Common.{◌≡◌, ℕ, ◌<◌, true, false, List, length, Option, Some, None, ℤ, sym, ap, subst, ◌∙◌, arith}
use Rattle.std.specs.Prelude.{codes, IsSome}
use Rattle.subsetter_base.specs.declared.tag.Tag.{Tag}
use Rattle.subsetter_base.specs.declared.error.Error.{Error}
use Rattle.subsetter_base.specs.declared.error.Error.TheVariants.{OverflowError}
use Rattle.subsetter_base.proofs.Options.{just_is}
use Rattle.subsetter_sfnt.specs.Container.{IsSoundContainer}
use Rattle.subsetter_sfnt.specs.Read.{Font, as_font, flavor, stored, table}
use Rattle.subsetter_sfnt.specs.Laying.Rows.{tags_of}
use Rattle.subsetter_sfnt.specs.Laying.Written.{kind_word}
use Rattle.subsetter_sfnt.specs.declared.flavor.FontFlavor.{FontFlavor}
use Rattle.subsetter_sfnt.specs.declared.flavor.FontFlavor.TheVariants.{TrueType}
use Rattle.subsetter.specs.Bound.{IsWithin}
use Rattle.subsetter_variable.specs.Subset.{IsStatic}
use Rattle.subsetter_variable.proofs.Static.{one_static}
use Rattle.cid_embed.specs.Embed.{HasEmbedFaultWithin, numbering, in_numbering as none_left, in_font, beyond}
use Rattle.cid_embed.specs.declared.embedding.Embedded.{Embedded}
use Rattle.cid_embed_at.specs.Embed.{HasEmbedFaultAt, IsEmbeddingAnswerAt, in_instance, in_cff_instance, in_numbering, in_static}
use Rattle.pdf_codes.specs.Codes.{glyphs_of}
use Rattle.pdf_codes.proofs.StayLaws.{codes_stay as stay, codes_are_determined}
use Rattle.pdf_values.specs.Permission.{is_permitted, permission}
use Rattle.pdf_values.specs.declared.permission.Permission.{Permission}
use Rattle.pdf_font.specs.Laws.{CodesNeedNoFont, CodesStay, HaveNoFault}
use Rattle.pdf_font.specs.PdfFont.{bare, in_embedding, long_text, no_maxp, not_permitted, overfull}
use Rattle.pdf_font.proofs.Refused.{bare_final}
use Rattle.pdf_font.proofs.Tables.{no_maxp_again}

-- ---- an embedding has no fault

too_long : (bound : Option ℕ) (most : ℕ) (out : List ℕ) → bound ≡ Some most → IsWithin bound out → most < length out → ⊥
too_long bound most out set within longer = let fits = subst (λ (b : Option ℕ). IsWithin b out) set within in omega arith

module _ (bound : Option ℕ) (tokens depth : ℕ) (font : Font) (settings : List (Tag × ℤ)) (glyphs : List ℕ) (e : Embedded) (a : IsEmbeddingAnswerAt tokens depth font settings glyphs e) (within : IsWithin bound e.font.items) where
  abbrev order : List ℕ
  order = a.answer.embedded.subset.keeps.order

  in_static_font : (why : Error) → HasEmbedFaultWithin bound tokens depth a.static glyphs order why → ⊥
  in_static_font why (in_font f) = a.answer.clean why f
  in_static_font _ (beyond b) = too_long bound b.most e.font.items b.is_set within (b.longer e.font.items a.answer.font_is)

  same_static : (static : Font) → IsStatic font settings (numbering glyphs) static → static ≡ a.static
  same_static static is = one_static font settings (numbering glyphs) static a.static is a.is_static

  pub no_embed_fault : (why : Error) → HasEmbedFaultAt bound tokens depth font settings glyphs order why → ⊥
  no_embed_fault _ (in_numbering all) = a.answer.clean OverflowError (none_left all)
  no_embed_fault why (in_instance n f) = a.made why n f
  no_embed_fault why (in_cff_instance c f) = a.cff_made why c f
  no_embed_fault why (in_static static is f) = in_static_font why (subst (λ (s : Font). HasEmbedFaultWithin bound tokens depth s glyphs order why) (same_static static is) f)

  -- of a TrueType font without `maxp` the new font has none
  pub copy_lacks_maxp : (static : Font) → IsStatic font settings (numbering glyphs) static → flavor static ≡ Some TrueType → table static (codes "maxp") ≡ None → (a.answer.embedded.subset.keeps.kind ≡ TrueType) × (table (as_font e.font.items) (codes "maxp") ≡ None)
  copy_lacks_maxp static is known none =
      let same = same_static static is in
      let kind : a.answer.embedded.subset.keeps.kind ≡ TrueType = just_is a.answer.embedded.subset.keeps.kind TrueType (sym a.answer.embedded.subset.keeps.kind_is ∙ ap flavor (sym same) ∙ known) in
      let container : IsSoundContainer e.font.items (kind_word TrueType) (tags_of TrueType (table a.static)) = subst (λ (k : FontFlavor). IsSoundContainer e.font.items (kind_word k) (tags_of k (table a.static))) kind a.answer.embedded.subset.keeps.container in
      (kind, no_maxp_again a.static e.font.items container (ap (λ (s : Font). table s (codes "maxp")) (sym same) ∙ none))

-- ---- nor has what a PDF has of a font

absent : (o : Option (List ℕ)) → o ≡ None → IsSome o → ⊥
absent None e h = absurd cc
absent (Some x) e h = cc

pub have_no_fault : HaveNoFault
have_no_fault font settings options us f p _ (in_embedding g) = no_embed_fault options.limits.bytes options.limits.tokens options.limits.depth font settings (glyphs_of us) p.made.new p.made.embedded p.made.within _ g
have_no_fault font settings options us f p _ (no_maxp static is known none) =
    let lacks = copy_lacks_maxp options.limits.bytes options.limits.tokens options.limits.depth font settings (glyphs_of us) p.made.new p.made.embedded p.made.within static is known none in
    absent (table (as_font p.made.new.font.items) (codes "maxp")) lacks.1 (p.made.maxp lacks.0)
have_no_fault font settings options us f p _ (overfull h) = p.made.filled.coded.room h
have_no_fault font settings options us f p _ (not_permitted h) =
    let yes : is_permitted (permission (stored font (codes "OS/2"))) options.rights ≡ true = sym (ap (λ (x : Permission). is_permitted x options.rights) p.permission) ∙ p.permitted in
    let both : true ≡ false = sym yes ∙ h in cc
have_no_fault font settings options us f p _ (long_text h) = let both : true ≡ false = sym h ∙ p.short in cc
have_no_fault font settings options us f p _ (bare h) = bare_final font settings options us h f p

-- ---- codes

pub codes_stay : CodesStay
codes_stay font settings options us more f longer p q = stay options.codes us more f.codes.items longer.codes.items p.made.filled.coded.codes q.made.filled.coded.codes

pub codes_need_no_font : CodesNeedNoFont
codes_need_no_font font settings options us f codes p are = codes_are_determined options.codes us f.codes.items codes p.made.filled.coded.codes are
