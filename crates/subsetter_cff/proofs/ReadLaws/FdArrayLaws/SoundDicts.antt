-- What a table that was opened says of its demanded operators: the last entry of each has the operands that are demanded.
use Rattle.std.proofs.Common.{◌≡◌, ◌≢◌, ℕ, true, List, [], ◌∷◌, Option, Some, None, refl, ◌∙◌, sym, subst}
use Rattle.std.specs.Prelude.{slice_get, is_some}
use Rattle.std.specs.List.{AllByRecursion}
use Rattle.std.proofs.lemmas.Bool.{false≢true}
use Rattle.std.proofs.lemmas.Option.{none-some, same_Some}
use Rattle.subsetter_cffdata.specs.Numerals.Numbers.{Number}
use Rattle.subsetter_cffdata.specs.Dicts.Dict.{Entry}
use Rattle.subsetter_cff.specs.Read.Entries.Lookup.{last_of}
use Rattle.subsetter_cff.specs.Read.Cff.{Cff, is_cid_keyed}
use Rattle.subsetter_cff.specs.Read.FdArray.FontDicts.{font_dicts, font_dict_number, font_dict_of}
use Rattle.subsetter_cff.specs.Read.FdArray.Private.{private_by, private_at}
use Rattle.subsetter_cff.specs.Read.Entries.Operators.{private_operator}
use Rattle.subsetter_cff.specs.Read.Entries.OperandDemands.{font_dict_demands}
use Rattle.subsetter_cff.specs.Read.Opened.{all_meet, all_lead, sound_font_dicts}
use Rattle.subsetter_cff.proofs.WriteLaws.NewDictsLaws.FontDicts.{all_at}
use Rattle.subsetter_cffdata.proofs.Options.{step}
use Rattle.subsetter_cff.proofs.ReadLaws.EntriesLaws.Holding.{both, by_entry, last_holds, lead_each}
use Rattle.subsetter_cff.proofs.ReadLaws.Soundness.{TopIsSound}

-- ---- font dicts
pub record SoundDict (bytes : List ℕ) (dict : List Entry) : Type 0 where
  pub meets : all_meet font_dict_demands dict ≡ true
  pub leads : all_lead bytes dict ≡ true

all_sound : (bytes : List ℕ) (ds : List (List Entry)) → sound_font_dicts bytes ds ≡ true → AllByRecursion (SoundDict bytes) ds
all_sound bytes [] all = tt
all_sound bytes (d ∷ ds) all = let p = both _ _ all in let q = both _ _ p.1 in (record { meets = p.0; leads = q.0 }, all_sound bytes ds q.1)

pub sound_dict : (cff : Cff) (dicts : List (List Entry)) (n : ℕ) (dict : List Entry) → TopIsSound cff → is_cid_keyed cff ≡ true → font_dicts cff ≡ Some dicts → slice_get dicts n ≡ Some dict → SoundDict cff.bytes dict
sound_dict cff dicts n dict sound cid are at =
    let c = sound.cid cid in
    let all = all_sound cff.bytes c.dicts c.sound in
    all_at (SoundDict cff.bytes) dicts n dict (subst (AllByRecursion (SoundDict cff.bytes)) (same_Some _ _ (sym c.dicts_are ∙ are)) all) at

pub sound_dict_of : (cff : Cff) (glyph : ℕ) (dict : List Entry) → TopIsSound cff → is_cid_keyed cff ≡ true → font_dict_of cff glyph ≡ Some dict → SoundDict cff.bytes dict
unfolding font_dict_of
sound_dict_of cff glyph dict sound cid e =
    let a = step (font_dict_number cff glyph) _ dict e in
    let b = step (font_dicts cff) _ dict a.1.1 in
    sound_dict cff b.0 a.0 dict sound cid b.1.0 b.1.1

-- ---- the private dict of a sound font dict is there
there_is : {A : Type 0} (o : Option A) → is_some o ≡ true → o ≢ None
there_is None e = absurd (false≢true e)
there_is (Some x) e = λ h. none-some x (sym h)

led : (bytes : List ℕ) (es : List Entry) (o : Option (List Number)) → last_of private_operator es ≡ o → all_lead bytes es ≡ true → private_by bytes o ≢ None
led bytes es None e all = λ h. none-some _ (sym h)
led bytes es (Some xs) e all = there_is (private_by bytes (Some xs)) (last_holds (by_entry bytes) private_operator es xs (lead_each bytes es all) e)

pub private_there : (bytes : List ℕ) (es : List Entry) → all_lead bytes es ≡ true → private_at bytes es ≢ None
unfolding private_at
private_there bytes es all = led bytes es (last_of private_operator es) refl all
