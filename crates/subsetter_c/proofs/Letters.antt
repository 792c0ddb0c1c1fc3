-- The letters of a tag, which two words have.
use Rattle.std.proofs.Common.{◌≡◌, ◌<◌, ℕ, List, [], ◌∷◌, length, get_or, sym, ap, subst, ◌∙◌, Option, Some, None}
use Rattle.std.specs.Prelude.{MatchOption}
use Rattle.std.specs.Int.{w32, to_be_bytes}
use Rattle.std.proofs.lemmas.List.Sums.{AllPass-from_list_all}
use Rattle.pdf_text.specs.SubsetName.{IsTag, is_capital}
use Rattle.pdf_source.specs.declared.tag.SubsetTag.{SubsetTag}
use Rattle.subsetter_c.specs.Documents.PdfOptions.{AreLetters, IsTagOf, tag_letters}

-- the lower three bytes of two words
abbrev pub six : List ℕ → List ℕ → List ℕ
six front back = get_or front 1 0 ∷ get_or front 2 0 ∷ get_or front 3 0 ∷ get_or back 1 0 ∷ get_or back 2 0 ∷ get_or back 3 0 ∷ []

pub letters_found : (front back : ℕ) (fb bb : List ℕ) → fb ≡ to_be_bytes w32 front → bb ≡ to_be_bytes w32 back → six fb bb ≡ tag_letters front back
letters_found front back fb bb f b = ap (λ (l : List ℕ). six l bb) f ∙ ap (six (to_be_bytes w32 front)) b

pub tag_read : (front back : ℕ) (ls : List ℕ) → ls ≡ tag_letters front back → front < 16777216 → back < 16777216 → (r : Option SubsetTag) → MatchOption r (IsTag ls → ⊥) (λ tag. tag.letters ≡ ls) → MatchOption r (AreLetters front back → ⊥) (λ tag. IsTagOf front back tag)
tag_read front back ls e f b None h = λ a. h (subst IsTag (sym e) a.is)
tag_read front back ls e f b (Some t) h = record {
  known = record { front_fits = f; back_fits = b; is = subst IsTag (h ∙ e) (record { size = ap length (h ∙ e); capitals = AllPass-from_list_all is_capital t.letters t.are_capitals }) };
  letters_are = h ∙ e;
}
