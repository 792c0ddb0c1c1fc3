-- A private dict that was placed and written is read again.
use Rattle.std.proofs.Common.{◌≡◌, ℕ, List, [], ◌∷◌, map, Option, Some, None, refl, ap, sym, ◌∙◌, subst}
use Rattle.std.specs.List.{AllByRecursion}
use Rattle.std.proofs.lemmas.Option.{same_Some}
use Rattle.subsetter_cffdata.specs.Dicts.Dict.{Entry, Plain, value, FitsNewEntry, meaning, entries}
use Rattle.subsetter_cffdata.specs.Numerals.Numbers.{Number}
use Rattle.subsetter_cffdata.proofs.DictsLaws.Dicts.{dict_again}
use Rattle.subsetter_cff.specs.Read.Entries.Lookup.{first_of, without}
use Rattle.subsetter_cff.specs.Read.Entries.Operators.{subroutines_operator}
use Rattle.subsetter_cff.specs.Write.Laying.Layout.{rewritten_entries}
use Rattle.subsetter_cff.proofs.WriteLaws.LayingLaws.Checked.{long_is}
use Rattle.subsetter_cff.proofs.WriteLaws.LayingLaws.Sizes.{plain_fits}
use Rattle.subsetter_cff.proofs.WriteLaws.SourceFits.{numbers_fit}
use Rattle.subsetter_cff2.specs.PrivateDicts.EntryLists.{entry_lists}
use Rattle.subsetter_cff2.specs.PrivateDicts.PlacedAgain.{PlacedIsReadBack}
use Rattle.subsetter_cff2.specs.PrivateDicts.PrivateAt.{Placed, at_start, private_at_location}
use Rattle.subsetter_cff2.specs.PrivateDicts.PrivateText.{PlacedText, placed_as}
use Rattle.subsetter_cff2.specs.Variation.{Variation}
use Rattle.subsetter_cff2.proofs.PrivateDictsLaws.PlacedFits.{FitsPlaced, private_fits}
use Rattle.subsetter_cff2.proofs.PrivateDictsLaws.PrivateLaws.{IsShort, TextFound, whole_found}

plain_again : (xs : List Number) → map value (map Plain xs) ≡ xs
plain_again [] = refl
plain_again (x ∷ xs) = ap (λ (l : List Number). x ∷ l) (plain_again xs)

meaning_again : (es : List Entry) → map meaning (rewritten_entries es) ≡ es
meaning_again [] = refl
meaning_again (e ∷ es) =
    ap (λ (xs : List Number). record { operator = e.operator; operands = xs } ∷ map meaning (rewritten_entries es)) (plain_again e.operands)
    ∙ ap (λ (l : List Entry). e ∷ l) (meaning_again es)

all_fit : (es : List Entry) → AllByRecursion FitsPlaced es → AllByRecursion IsShort es → AllByRecursion FitsNewEntry (rewritten_entries es)
all_fit [] fits short = tt
all_fit (e ∷ es) fits short =
    (plain_fits e.operator e.operands fits.0.operator (numbers_fit e.operands fits.0.operands (sym (long_is e.operands) ∙ short.0)), all_fit es fits.1 short.1)

all_kept : (es : List Entry) → AllByRecursion FitsPlaced es → without subroutines_operator es ≡ es
all_kept [] fits = refl
all_kept (e ∷ es) fits = rw fits.0.other (ap (λ (l : List Entry). e ∷ l) (all_kept es fits.1))

none_first : (es : List Entry) → AllByRecursion FitsPlaced es → first_of subroutines_operator es ≡ None
none_first [] fits = refl
none_first (e ∷ es) fits = rw fits.0.other (none_first es fits.1)

same_made : (v : Option Variation) (bytes : List ℕ) (t : PlacedText) (p : Placed) (f : TextFound v at_start (entry_lists bytes) t) → private_at_location v bytes ≡ Some p → f.made ≡ p
unfolding private_at_location
same_made v bytes t p f h = same_Some f.made p (sym f.is ∙ h)

pub placed_is_read_back : PlacedIsReadBack
placed_is_read_back v bytes t p h k =
    let f = whole_found v bytes t h in
    let same = same_made v bytes t p f k in
    let fits = private_fits v bytes p k in
    let fit = all_fit p.entries fits (subst (λ (q : Placed). AllByRecursion IsShort q.entries) same f.short) in
    record {
      again = ap (λ (x : PlacedText). entries x.text) (f.text ∙ ap placed_as same) ∙ dict_again (rewritten_entries p.entries) fit ∙ meaning_again p.entries;
      fit = fit;
      none_left_out = all_kept p.entries fits;
      no_subroutines = none_first p.entries fits;
    }
