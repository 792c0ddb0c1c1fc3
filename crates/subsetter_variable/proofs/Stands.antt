-- What the tables that were found say of the location of a font.
use Rattle.std.proofs.Common.{◌≡◌, ℕ, Bor, Bool, true, false, List, Option, Some, None, Result, Ok, Err, ℤ, pos, refl, sym, ap, subst, ◌∙◌, ◌⊎◌, inl, inr}
use Rattle.std.specs.Prelude.{codes, All, is_some, IsSome, IsTrue, ◌↔◌}
use Rattle.std.specs.Option.{option_copied}
use Rattle.subsetter_base.specs.Gives.{Fails}
use Rattle.subsetter_base.specs.declared.tag.Tag.{Tag}
use Rattle.subsetter_base.specs.declared.error.Error.{Error}
use Rattle.subsetter_base.specs.declared.error.Error.TheVariants.{UnknownKind, MalformedFont, Unimplemented, SubsetError, OverflowError, CFFError, OutOfMemory}
use Rattle.subsetter_base.proofs.Options.{none_of}
use Rattle.subsetter_base.proofs.Results.{done_is}
use Rattle.subsetter_sfnt.specs.Plain.{opened}
use Rattle.subsetter_sfnt.specs.Read.{Font, stored, table_in}
use Rattle.subsetter_sfnt.proofs.Laws.Fault.{opened_refused}
use Rattle.subsetter_instance.specs.Source.{normalized_coordinates}
use Rattle.subsetter_instance.proofs.FaultLaws.Opening.{same_find}
use Rattle.subsetter_instance.proofs.FaultLaws.Place.{place_refused}
use Rattle.subsetter_variable.specs.DefaultLocation.{IsAtDefault, HasNoLocation, no_outlines, no_move, IsCff2Font, is_cff2_alone}
use Rattle.subsetter_variable.proofs.Unopened.{no_glyf, nothing_stored}

-- what fails, but for want of memory, fails by its reading
pub fails_is : {Y : Type 0} (e : Error) (read : Result Y Error) → Fails e read → (e ≡ OutOfMemory) ⊎ (read ≡ Err e)
fails_is OutOfMemory read h = inl refl
fails_is UnknownKind read h = inr h
fails_is MalformedFont read h = inr h
fails_is Unimplemented read h = inr h
fails_is SubsetError read h = inr h
fails_is OverflowError read h = inr h
fails_is CFFError read h = inr h

module _ (font : Font) (settings : List (Tag × ℤ)) where
  pub without_outlines : stored font (codes "glyf") ≡ None → IsTrue true ↔ IsAtDefault font settings
  without_outlines none = (λ yes. no_outlines none, λ stands. refl)

  pub unopened : (e : Error) → opened font ≡ Err e → IsTrue true ↔ IsAtDefault font settings
  unopened e h = without_outlines (no_glyf font e (opened_refused font e h))

  module _ (there : IsSome (stored font (codes "glyf"))) where
    -- a font with outlines is at its default where it doesn't move
    pub by_place : (at : List ℤ) (zero : Bool) → normalized_coordinates (stored font) settings ≡ Ok at → IsTrue zero ↔ All (λ v. v ≡ pos 0) at → IsTrue zero ↔ IsAtDefault font settings
    by_place at zero is h = (λ yes. no_move at is (h.0 yes), λ stands. h.1 (still stands))
      where
        still : IsAtDefault font settings → All (λ v. v ≡ pos 0) at
        still (no_outlines none) = absurd (let both = there in cc)
        still (no_move other placed all) = subst (All (λ v. v ≡ pos 0)) (done_is other at (sym placed ∙ is)) all

    pub no_place_by : (e : Error) → Fails e (normalized_coordinates (stored font) settings) → (e ≡ OutOfMemory) ⊎ HasNoLocation font e
    no_place_by e h = elim (fails_is e (normalized_coordinates (stored font) settings) h) [ inl m ↦ inl m | inr r ↦ inr (record { outlines = there; fault = place_refused (stored font) settings e r }) ]

-- the tables of the directory that was opened
pub find_is : (font : Font) (d seen : List ℕ) → opened font ≡ Ok d → seen ≡ font.bytes → table_in seen d ≡ stored font
find_is font d seen o same = ap (λ (b : List ℕ). table_in b d) same ∙ sym (same_find font d o)

-- whether it has outlines is what was found
pub none_found : (font : Font) (d seen : List ℕ) → opened font ≡ Ok d → seen ≡ font.bytes → (found : Option (Bor (List ℕ))) → option_copied found ≡ table_in seen d (codes "glyf") → is_some found ≡ false → stored font (codes "glyf") ≡ None
none_found font d seen o same found h none = ap (λ (f : List ℕ → Option (List ℕ)). f (codes "glyf")) (sym (find_is font d seen o same)) ∙ sym h ∙ ap option_copied (none_of found none)

pub one_found : (font : Font) (d seen : List ℕ) → opened font ≡ Ok d → seen ≡ font.bytes → (found : Option (Bor (List ℕ))) → option_copied found ≡ table_in seen d (codes "glyf") → is_some found ≡ true → IsSome (stored font (codes "glyf"))
one_found font d seen o same found h some =
    let there : option_copied found ≡ stored font (codes "glyf") = h ∙ ap (λ (f : List ℕ → Option (List ℕ)). f (codes "glyf")) (find_is font d seen o same) in
    subst IsSome there (copied found some)
  where
    copied : (found : Option (Bor (List ℕ))) → is_some found ≡ true → IsSome (option_copied found)
    copied None some = absurd cc
    copied (Some bytes) some = refl

-- so nothing is said of a font without
pub still_there : (font : Font) → IsSome (stored font (codes "glyf")) → (r : Result Bool Error) → stored font (codes "glyf") ≡ None → r ≡ Ok true
still_there font there r none = absurd (let both = rw none at there in cc)

-- ---- outlines of CFF2

pub found_is : (font : Font) (d seen tag : List ℕ) → opened font ≡ Ok d → seen ≡ font.bytes → (found : Option (Bor (List ℕ))) → option_copied found ≡ table_in seen d tag → is_some found ≡ is_some (stored font tag)
found_is font d seen tag o same found h = copied found ∙ ap is_some (h ∙ ap (λ (f : List ℕ → Option (List ℕ)). f tag) (find_is font d seen o same))
  where
    copied : (found : Option (Bor (List ℕ))) → is_some found ≡ is_some (option_copied found)
    copied None = refl
    copied (Some bytes) = refl

abbrev AreAlone : Option (List ℕ) → Option (List ℕ) → Option (List ℕ) → Type 0
AreAlone glyf cff cff2 = (glyf ≡ None) × (cff ≡ None) × IsSome cff2

by_tables : (glyf cff cff2 : Option (List ℕ)) → IsTrue (is_cff2_alone (is_some glyf) (is_some cff) (is_some cff2)) ↔ AreAlone glyf cff cff2
by_tables None None (Some c) = (λ yes. (refl, refl, refl), λ all. refl)
by_tables None None None = (λ yes. absurd cc, λ all. absurd (let none = all.2 in cc))
by_tables None (Some f) cff2 = (λ yes. absurd cc, λ all. absurd (let none = all.1 in cc))
by_tables (Some g) cff cff2 = (λ yes. absurd cc, λ all. absurd (let none = all.0 in cc))

module _ (font : Font) where
  pub by_found : (glyf cff cff2 : Bool) → glyf ≡ is_some (stored font (codes "glyf")) → cff ≡ is_some (stored font (codes "CFF ")) → cff2 ≡ is_some (stored font (codes "CFF2")) → IsTrue (is_cff2_alone glyf cff cff2) ↔ IsCff2Font font
  by_found glyf cff cff2 g f c =
      let same : is_cff2_alone glyf cff cff2 ≡ is_cff2_alone (is_some (stored font (codes "glyf"))) (is_some (stored font (codes "CFF "))) (is_some (stored font (codes "CFF2"))) = rw (g, f, c) refl in
      let both = by_tables (stored font (codes "glyf")) (stored font (codes "CFF ")) (stored font (codes "CFF2")) in
      (λ yes. let all = both.0 (sym same ∙ yes) in record { no_glyf = all.0; no_cff = all.1; cff2 = all.2 }, λ is. same ∙ both.1 (is.no_glyf, is.no_cff, is.cff2))

  pub unopened_cff2 : (e : Error) → opened font ≡ Err e → IsTrue false ↔ IsCff2Font font
  unopened_cff2 e h = (λ yes. absurd cc, λ is. absurd (let some = is.cff2 in let none = nothing_stored font (codes "CFF2") e h in cc))
