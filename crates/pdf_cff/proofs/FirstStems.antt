-- The private dicts of a CID-keyed font are those of its font dicts.
use Rattle.std.proofs.Common.{◌≡◌, ℕ, Bool, true, cond, List, [], ◌∷◌, map, Option, Some, refl, ap, ◌∙◌}
use Rattle.std.specs.Option.{unwrap_or}
use Rattle.subsetter_cffdata.specs.Dicts.Dict.{Entry, entries}
use Rattle.subsetter_cff.specs.Read.Cff.{Cff, is_cid_keyed}
use Rattle.subsetter_cff.specs.Read.FdArray.FontDicts.{font_dicts}
use Rattle.subsetter_cff.specs.Read.FdArray.FontDictList.{AreFontDicts}
use Rattle.subsetter_cff.specs.Read.FdArray.Private.{Private, private_at}
use Rattle.subsetter_cff.specs.Read.FdArray.PrivateView.{private_view}
use Rattle.subsetter_cff.specs.Read.Source.{IsCidParts}
use Rattle.subsetter_cff.specs.declared.read.fd_array.font_dict.FontDict.{FontDict}
use Rattle.subsetter_cff.specs.declared.read.source.CIDMetadata.{CIDMetadata}
use Rattle.pdf_cff.specs.Values.{private_of, privates}

abbrev pub views : List FontDict → List Private
views fs = map (λ f. private_view f.private) fs

named : (found : Option Private) (p : Private) → found ≡ Some p → private_of found ≡ p
named found p h = ap private_of h

made_are : (bytes : List ℕ) (ds : List (List ℕ)) (fs : List FontDict) → AreFontDicts bytes ds fs → map (λ d. private_of (private_at bytes d)) (map entries ds) ≡ views fs
made_are bytes [] [] h = refl
made_are bytes (d ∷ ds) (f ∷ fs) h =
    ap (λ (p : Private). p ∷ map (λ e. private_of (private_at bytes e)) (map entries ds)) (named (private_at bytes (entries d)) (private_view f.private) h.0.private)
    ∙ ap (λ (ps : List Private). private_view f.private ∷ ps) (made_are bytes ds fs h.1)
made_are bytes [] (f ∷ fs) h = absurd h
made_are bytes (d ∷ ds) [] h = absurd h

listed : (bytes : List ℕ) (found : Option (List (List Entry))) (es : List (List Entry)) → found ≡ Some es → map (λ d. private_of (private_at bytes d)) (unwrap_or found []) ≡ map (λ d. private_of (private_at bytes d)) es
listed bytes found es h = ap (λ (o : Option (List (List Entry))). map (λ d. private_of (private_at bytes d)) (unwrap_or o [])) h

chosen : (b : Bool) (ps qs : List Private) → b ≡ true → cond b ps qs ≡ ps
chosen b ps qs h = ap (λ (x : Bool). cond x ps qs) h

-- of a CID-keyed font
pub keyed_privates : (cff : Cff) (c : CIDMetadata) → is_cid_keyed cff ≡ true → IsCidParts cff c → privates cff ≡ views c.font_dicts.items
keyed_privates cff c keyed parts =
    chosen (is_cid_keyed cff) _ _ keyed
    ∙ listed cff.bytes (font_dicts cff) (map entries parts.dicts) parts.dicts_are
    ∙ made_are cff.bytes parts.dicts c.font_dicts.items parts.made
