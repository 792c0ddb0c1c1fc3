-- What is flattened without a bound on bytes, and a glyph without a font dict.
use Rattle.std.proofs.Common.{◌≡◌, ℕ, Bool, true, false, List, length, None, Option, Some, Result, Ok, Err, refl, sym, subst, inl, inr}
use Rattle.subsetter_base.specs.declared.error.Error.{Error}
use Rattle.subsetter_base.specs.Gives.{Gives}
use Rattle.subsetter_base.specs.Within.{GivesWithin}
use Rattle.subsetter_base.proofs.Options.{some_not_none}
use Rattle.subsetter_cff.specs.Read.Cff.{Cff, is_cid_keyed}
use Rattle.subsetter_cff.specs.Read.FdArray.FontDicts.{font_dict_number, font_dict_of}
use Rattle.subsetter_cff.specs.Read.FdArray.Private.{private_of}
use Rattle.subsetter_cff.specs.Write.Plain.{source_number}

given : {X Y : Type 0} (view : X → Y) (size : Y → ℕ) (result : Result X Error) (read : Result Y Error) → GivesWithin view None size result read → Gives view result read
given view size (Ok x) read g = g
given view size (Err e) read (inl f) = f
given view size (Err e) read (inr long) = absurd (some_not_none None long.1.most long.1.is_set refl)

-- no bound is passed where there is none
pub unbounded : {X : Type 0} (view : X → List ℕ) (bound : Option ℕ) (result : Result X Error) (read : Result (List ℕ) Error) → bound ≡ None → GivesWithin view bound length result read → Gives view result read
unbounded view bound result read none g = given view length result read (subst (λ (b : Option ℕ). GivesWithin view b length result read) none g)

-- a glyph whose font dict has no number has no private dict
unnumbered_by : (cff : Cff) (glyph : ℕ) (keyed : Bool) → is_cid_keyed cff ≡ keyed → source_number cff glyph ≡ None → private_of cff glyph ≡ None
unfolding private_of font_dict_of
unnumbered_by cff glyph true k h = let n : font_dict_number cff glyph ≡ None = rw k at h in rw (k, n) refl
unnumbered_by cff glyph false k h = let no : Some 0 ≡ None = rw k at h in absurd (cc)

pub unnumbered : (cff : Cff) (glyph : ℕ) → source_number cff glyph ≡ None → None ≡ private_of cff glyph
unnumbered cff glyph h = sym (unnumbered_by cff glyph (is_cid_keyed cff) refl h)
