-- Six capitals are a tag.
use Rattle.std.proofs.Common.{◌≡◌, ℕ, List, length, true}
use Rattle.std.specs.List.{list_all}
use Rattle.std.proofs.lemmas.List.Sums.{AllPass-from_list_all, list_all-from_AllPass}
use Rattle.pdf_text.specs.SubsetName.{IsTag, is_capital}

pub is_tag : (letters : List ℕ) → length letters ≡ 6 → list_all is_capital letters ≡ true → IsTag letters
is_tag letters size all = record { size = size; capitals = AllPass-from_list_all is_capital letters all }

pub are_capitals : (letters : List ℕ) → IsTag letters → list_all is_capital letters ≡ true
are_capitals letters tag = list_all-from_AllPass is_capital letters tag.capitals
