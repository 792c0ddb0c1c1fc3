-- The kind of a font's outlines, which doesn't depend on what else is asked for of the font.
use Rattle.std.proofs.Common.{◌≡◌, ℕ, Bool, true, false, cond, List, Option, Some, None, Result, Ok, Err, refl, sym, ap, ◌∙◌}
use Rattle.std.specs.Prelude.{codes, is_some, IsSome}
use Rattle.std.specs.Option.{option_and_then}
use Rattle.subsetter_base.specs.declared.error.Error.{Error}
use Rattle.subsetter_base.specs.declared.error.Error.TheVariants.{UnknownKind, Unimplemented}
use Rattle.subsetter_sfnt.specs.declared.flavor.FontFlavor.{FontFlavor}
use Rattle.subsetter_sfnt.specs.declared.flavor.FontFlavor.TheVariants.{TrueType, Cff}
use Rattle.subsetter_sfnt.specs.Extras.{by_hinting, by_names, by_glyph_names, requested}
use Rattle.subsetter_sfnt.specs.Fault.{HasOpeningFault}
use Rattle.subsetter_sfnt.specs.Plain.{opened, flavored}
use Rattle.subsetter_sfnt.specs.Read.{Font, table_in, stored}
use Rattle.subsetter_sfnt.specs.declared.extras.Extras.{Extras}
use Rattle.subsetter_sfnt.proofs.Laws.Fault.{flavored_refused, opened_clean, opened_records}

abbrev by_choice : Bool → Bool → Bool → List ℕ → Option (List ℕ) → Option (List ℕ)
by_choice h n g tag found = by_glyph_names g tag (by_names n tag (by_hinting h tag found))

-- outlines are asked for always
glyf_asked : (h n g : Bool) (found : Option (List ℕ)) → by_choice h n g (codes "glyf") found ≡ found
glyf_asked true true true found = refl
glyf_asked true true false found = refl
glyf_asked true false true found = refl
glyf_asked true false false found = refl
glyf_asked false true true found = refl
glyf_asked false true false found = refl
glyf_asked false false true found = refl
glyf_asked false false false found = refl

cff_asked : (h n g : Bool) (found : Option (List ℕ)) → by_choice h n g (codes "CFF ") found ≡ found
cff_asked true true true found = refl
cff_asked true true false found = refl
cff_asked true false true found = refl
cff_asked true false false found = refl
cff_asked false true true found = refl
cff_asked false true false found = refl
cff_asked false false true found = refl
cff_asked false false false found = refl

cff2_asked : (h n g : Bool) (found : Option (List ℕ)) → by_choice h n g (codes "CFF2") found ≡ found
cff2_asked true true true found = refl
cff2_asked true true false found = refl
cff2_asked true false true found = refl
cff2_asked true false false found = refl
cff2_asked false true true found = refl
cff2_asked false true false found = refl
cff2_asked false false true found = refl
cff2_asked false false false found = refl

flavored_by : Option (List ℕ) → Option (List ℕ) → Option (List ℕ) → Result FontFlavor Error
flavored_by glyf cff cff2 = cond (is_some glyf) (Ok TrueType) (cond (is_some cff) (Ok Cff) (cond (is_some cff2) (Err Unimplemented) (Err UnknownKind)))

flavored_is : (find : List ℕ → Option (List ℕ)) → flavored find ≡ flavored_by (find (codes "glyf")) (find (codes "CFF ")) (find (codes "CFF2"))
unfolding flavored flavored_by
flavored_is find = refl

pub same_flavor : (x : Extras) (find : List ℕ → Option (List ℕ)) → flavored (requested x find) ≡ flavored find
same_flavor x find =
    flavored_is (requested x find) ∙ ap (λ o. flavored_by o (requested x find (codes "CFF ")) (requested x find (codes "CFF2"))) (glyf_asked x.hinting x.names x.glyph_names (find (codes "glyf")))
    ∙ ap (λ o. flavored_by (find (codes "glyf")) o (requested x find (codes "CFF2"))) (cff_asked x.hinting x.names x.glyph_names (find (codes "CFF "))) ∙ ap (λ o. flavored_by (find (codes "glyf")) (find (codes "CFF ")) o) (cff2_asked x.hinting x.names x.glyph_names (find (codes "CFF2")))
    ∙ sym (flavored_is find)

-- the tables of the directory that was opened
pub same_find : (font : Font) (d : List ℕ) → opened font ≡ Ok d → stored font ≡ table_in font.bytes d
same_find font d h = ap (λ (o : Option (List ℕ)). λ (tag : List ℕ). option_and_then (λ directory. table_in font.bytes directory tag) o) (opened_records font d h)

pub unflavored : (font : Font) (d : List ℕ) (e : Error) → opened font ≡ Ok d → flavored (table_in font.bytes d) ≡ Err e → HasOpeningFault font e
unflavored font d e o h = flavored_refused font d e o (same_flavor font.extras (table_in font.bytes d) ∙ h)

pub no_opening_fault : (font : Font) (d : List ℕ) (f : FontFlavor) (e : Error) → opened font ≡ Ok d → flavored (table_in font.bytes d) ≡ Ok f → HasOpeningFault font e → ⊥
no_opening_fault font d f e o h = opened_clean font d f e o (same_flavor font.extras (table_in font.bytes d) ∙ h)

neither : (b : Bool) → cond {A = Result FontFlavor Error} b (Err Unimplemented) (Err UnknownKind) ≡ Ok Cff → ⊥
neither true k = cc
neither false k = cc

-- outlines of CFF are recognized by their table, where there is no glyf
pub is_cff : (find : List ℕ → Option (List ℕ)) → flavored find ≡ Ok Cff → (find (codes "glyf") ≡ None) × IsSome (find (codes "CFF "))
unfolding flavored_by
is_cff find h = by (find (codes "glyf")) (find (codes "CFF ")) (sym (flavored_is find) ∙ h)
  where
    by : (glyf cff : Option (List ℕ)) → flavored_by glyf cff (find (codes "CFF2")) ≡ Ok Cff → (glyf ≡ None) × IsSome cff
    by (Some g) cff k = absurd cc
    by None (Some c) k = (refl, refl)
    by None None k = absurd (neither (is_some (find (codes "CFF2"))) k)
