-- A subset is opened without a fault, and is of its source's kind.
use Rattle.std.proofs.Common.{◌≡◌, ℕ, ◌/◌, ◌∙◌, List, length, cond, Option, Some, None, refl, sym, ap}
use Rattle.std.specs.Prelude.{codes, is_some}
use Rattle.std.specs.Option.{option_and_then}
use Rattle.subsetter_base.specs.declared.error.Error.{Error}
use Rattle.subsetter_base.proofs.Options.{some_not_none, map_some}
use Rattle.subsetter_sfnt.specs.declared.face.FontKind.TheVariants.{Single}
use Rattle.subsetter_sfnt.specs.declared.flavor.FontFlavor.{FontFlavor}
use Rattle.subsetter_sfnt.specs.declared.flavor.FontFlavor.TheVariants.{TrueType, Cff}
use Rattle.subsetter_sfnt.specs.Container.{IsSoundContainer}
use Rattle.subsetter_sfnt.specs.Fault.{HasOpeningFault, no_kind, no_entry, entry_outside, no_face, nested, cut_directory, no_outlines, lone_cff2}
use Rattle.subsetter_sfnt.specs.Read.{as_font, table, flavor, kind_of, kind_at, records, records_at, directory_records}
use Rattle.subsetter_sfnt.specs.Laying.Written.{kind_word}

is_single : (kind : FontFlavor) → kind_of (kind_word kind) ≡ Some Single
is_single TrueType = refl
is_single Cff = refl

abbrev flavor_by : Option (List ℕ) → Option (List ℕ) → Option FontFlavor
flavor_by glyf cff = cond (is_some glyf) (Some TrueType) (cond (is_some cff) (Some Cff) None)

-- a sound container with outlines of a known kind is opened
pub no_opening : (kind : FontFlavor) (out : List ℕ) (tags : List (List ℕ)) → IsSoundContainer out (kind_word kind) tags → flavor (as_font out) ≡ Some kind → (e : Error) → HasOpeningFault (as_font out) e → ⊥
no_opening kind out tags c known e f = by e f
  where
    single : kind_at out 0 ≡ Some Single
    single = ap (option_and_then kind_of) c.kind_is ∙ is_single kind

    found : (d : List ℕ) × (records (as_font out) ≡ Some d)
    found = let k = map_some (λ bytes. directory_records (length bytes / 16) bytes) (records (as_font out)) c.records c.read in (k.0, k.1)

    without : table (as_font out) (codes "glyf") ≡ None → table (as_font out) (codes "CFF ") ≡ None → ⊥
    without g k = some_not_none (flavor (as_font out)) kind known (ap (λ o. flavor_by o (table (as_font out) (codes "CFF "))) g ∙ ap (flavor_by None) k)

    by : (d : Error) → HasOpeningFault (as_font out) d → ⊥
    by _ (no_kind k) = some_not_none (kind_at out 0) Single single k
    by _ (no_entry k d) = let both = sym single ∙ k in cc
    by _ (entry_outside at k d lt) = let both = sym single ∙ k in cc
    by _ (no_face at k d n) = let both = sym single ∙ k in cc
    by _ (nested at k d n) = let both = sym single ∙ k in cc
    by _ (cut_directory at h n) = some_not_none (records (as_font out)) found.0 found.1 (ap (option_and_then (λ p. records_at out p)) h ∙ n)
    by _ (no_outlines r g k d) = without g k
    by _ (lone_cff2 g k d) = without g k
