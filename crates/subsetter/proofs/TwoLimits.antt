-- What is answered at two limits is the same bytes.
use Rattle.std.proofs.Common.{◌≡◌, ℕ, ◌<◌, List, [], ◌∷◌, ◌++◌, length, get_or, Option, Some, None, Ok, refl, sym, ap, subst, ◌∙◌, arith}
use Rattle.std.specs.Prelude.{Contains}
use Rattle.std.specs.Option.{option_and_then}
use Rattle.std.proofs.lemmas.List.{append-nil, get_or_append_left, get_or_at, get_or_default, length-append}
use Rattle.subsetter_base.specs.Indexes.{index_of, IsWithoutRepeats}
use Rattle.subsetter_base.proofs.Options.{just_is, some_not_none}
use Rattle.subsetter_base.proofs.Results.{done_is}
use Rattle.subsetter_sfnt.specs.declared.flavor.FontFlavor.{FontFlavor}
use Rattle.subsetter_sfnt.specs.Read.{Font, table}
use Rattle.subsetter_sfnt.specs.Laying.Written.{Table, file, kind_word}
use Rattle.subsetter.specs.Glyf.Read.{Outlines, outlines, outline, outline_in}
use Rattle.subsetter.specs.Glyf.Reaching.Reach.{IsReachable, IsGlyphOrder, given, step}
use Rattle.subsetter.specs.Truetype.Plain.{truetype_tables}
use Rattle.subsetter.specs.Cff.Plain.{cff_tables}
use Rattle.subsetter.specs.Laid.{AreMade, of_outlines, of_charstrings}
use Rattle.subsetter.specs.Answer.{IsAnswer}
use Rattle.subsetter.proofs.GlyfLaws.ReachingLaws.Found.{same_found}
use Rattle.subsetter.proofs.CffLaws.TwoLimits.{same_tables}

-- ---- the order

-- a list without repeats that begins with another one and has no further members is that one
no_more : (glyphs others order : List ℕ) → order ≡ glyphs ++ others → IsWithoutRepeats order → ((g : ℕ) → Contains order g → Contains glyphs g) → order ≡ glyphs
no_more glyphs [] order is once members = is ∙ append-nil glyphs
no_more glyphs (o ∷ os) order is once members =
    let long : length glyphs < length order = omega (arith, ap length is, length-append glyphs (o ∷ os)) in
    let at : get_or order (length glyphs) 0 ≡ o = ap (λ (l : List ℕ). get_or l (length glyphs) 0) is ∙ get_or_at glyphs o os 0 (length glyphs) refl in
    let c = members o (length glyphs, long, get_or_default order (length glyphs) o 0 long ∙ at) in
    let front : get_or order c.0 0 ≡ o = ap (λ (l : List ℕ). get_or l c.0 0) is ∙ get_or_append_left glyphs (o ∷ os) 0 c.0 c.1 ∙ get_or_default glyphs c.0 0 o c.1 ∙ c.2 in
    let first : index_of order o ≡ Some c.0 = ap (index_of order) (sym front) ∙ once c.0 (omega (arith, c.1, long)) in
    let second : index_of order o ≡ Some (length glyphs) = ap (index_of order) (sym at) ∙ once (length glyphs) long in
    absurd (omega (arith, c.1, just_is c.0 (length glyphs) (sym first ∙ second)))

module _ (font : Font) (glyphs : List ℕ) where
  -- without outlines in glyf there are the given glyphs alone
  pub only_given : outlines font ≡ None → (order : List ℕ) → IsGlyphOrder font glyphs order → order ≡ glyphs
  only_given none order o = no_more glyphs o.others order o.begins o.once (λ g c. reached g ((o.members g).0 c))
    where
      reached : (g : ℕ) → IsReachable font glyphs g → Contains glyphs g
      reached g (given q c) = c
      reached h (step g q bytes r e c) = absurd (some_not_none (outline font g) bytes e (ap (option_and_then (λ t. outline_in t g)) none))

  module _ (tokens depth more deeper : ℕ) (out other : List ℕ) (a : IsAnswer tokens depth font glyphs out) (b : IsAnswer more deeper font glyphs other) where
    same_order : a.subset.keeps.order ≡ b.subset.keeps.order
    same_order = by (outlines font) refl
      where
        by : (o : Option Outlines) → outlines font ≡ o → a.subset.keeps.order ≡ b.subset.keeps.order
        by None e = only_given e a.subset.keeps.order a.subset.keeps.is_order ∙ sym (only_given e b.subset.keeps.order b.subset.keeps.is_order)
        by (Some t) e = same_found t a.subset.keeps.order b.subset.keeps.order glyphs [] glyphs (a.found t e) (b.found t e)

    same_kind : a.subset.keeps.kind ≡ b.subset.keeps.kind
    same_kind = just_is a.subset.keeps.kind b.subset.keeps.kind (sym a.subset.keeps.kind_is ∙ b.subset.keeps.kind_is)

    -- ---- the tables for one order

    same_made : (kind : FontFlavor) (order : List ℕ) (ts us : List Table) → AreMade tokens depth font order ts kind → AreMade more deeper font order us kind → ts ≡ us
    same_made kind order ts us (of_outlines s r k) (of_outlines t q l) = done_is ts us (sym k ∙ ap (λ (x : Outlines). truetype_tables (table font) x order) (just_is s t (sym r ∙ q)) ∙ l)
    same_made kind order ts us (of_charstrings s f r k) (of_charstrings t g q l) =
        same_tables tokens depth more deeper (table font) t order ts us (subst (λ (x : List ℕ). cff_tables (table font) x tokens depth order ≡ Ok ts) (just_is s t (sym r ∙ q)) k) l

    pub one_answer : out ≡ other
    one_answer =
        let x = a.subset.layout in
        let y = b.subset.layout in
        let made : AreMade more deeper font a.subset.keeps.order y.tables a.subset.keeps.kind =
        subst (λ (k : FontFlavor). AreMade more deeper font a.subset.keeps.order y.tables k) (sym same_kind) (subst (λ (l : List ℕ). AreMade more deeper font l y.tables b.subset.keeps.kind) (sym same_order) y.made) in
        x.bytes ∙ ap (file (kind_word a.subset.keeps.kind)) (same_made a.subset.keeps.kind a.subset.keeps.order x.tables y.tables x.made made) ∙ ap (λ (k : FontFlavor). file (kind_word k) y.tables) same_kind ∙ sym y.bytes
