-- The entries of a DICT with all their operands, one after the other.
use Rattle.std.proofs.Common.{◌≡◌, ℕ, zero, suc, ◌≤◌, List, [], ◌∷◌, length, take, Option, Some, None, refl, ap, arith, ◌∙◌, sym}
use Rattle.std.specs.Option.{option_map_or}
use Rattle.std.proofs.lemmas.Option.{none-some, same_Some}
use Rattle.subsetter_cffdata.specs.Dicts.Dict.{Entry, entry_in, entry_at}
use Rattle.subsetter_cffdata.specs.Numerals.Numbers.{Number}
use Rattle.subsetter_cffdata.specs.Dicts.Operands.{operands_at}
use Rattle.subsetter_cffdata.specs.Dicts.Tokens.{operator_part}
use Rattle.subsetter_cffdata.proofs.DictsLaws.Entries.{entry_shorter}
use Rattle.subsetter_cff.proofs.WriteLaws.NewDictsLaws.Rewriting.{found}
use Rattle.subsetter_cff2.specs.PrivateDicts.EntryLists.{entry_lists_in, entry_lists}

abbrev step_of : ℕ → Option (Entry × List ℕ) → List Entry
step_of steps o = option_map_or (λ e. e.0 ∷ entry_lists_in steps e.1) o []

no_bytes : entry_at [] ≡ None
unfolding entry_at entry_in
no_bytes = refl

same_steps : (m n : ℕ) (bytes : List ℕ) (o : Option (Entry × List ℕ)) → entry_at bytes ≡ o → length bytes ≤ suc m → length bytes ≤ suc n
    → ((rest : List ℕ) → length rest ≤ m → length rest ≤ n → entry_lists_in m rest ≡ entry_lists_in n rest) → step_of m o ≡ step_of n o
same_steps m n bytes None e le le' more = refl
same_steps m n bytes (Some d) e le le' more = let less = entry_shorter bytes d e in ap (λ (es : List Entry). d.0 ∷ es) (more d.1 (omega (arith, less)) (omega (arith, less)))

-- as many steps as bytes are enough
enough : (m n : ℕ) (bytes : List ℕ) → length bytes ≤ m → length bytes ≤ n → entry_lists_in m bytes ≡ entry_lists_in n bytes
unfolding entry_lists_in
enough zero zero bytes le le' = refl
enough zero (suc n) [] le le' = rw no_bytes refl
enough zero (suc n) (b ∷ bytes) le le' = absurd (omega arith)
enough (suc m) zero [] le le' = rw no_bytes refl
enough (suc m) zero (b ∷ bytes) le le' = absurd (omega arith)
enough (suc m) (suc n) bytes le le' = same_steps m n bytes (entry_at bytes) refl le le' (λ rest a b. enough m n rest a b)

step_is : (n : ℕ) (bytes : List ℕ) (o : Option (Entry × List ℕ)) → entry_at bytes ≡ o → length bytes ≡ suc n → step_of n o ≡ option_map_or (λ e. e.0 ∷ entry_lists e.1) o []
unfolding entry_lists
step_is n bytes None e len = refl
step_is n bytes (Some d) e len = let less = entry_shorter bytes d e in ap (λ (es : List Entry). d.0 ∷ es) (enough n (length d.1) d.1 (omega (arith, less, len)) (omega arith))

pub entry_lists_step : (bytes : List ℕ) → entry_lists bytes ≡ option_map_or (λ e. e.0 ∷ entry_lists e.1) (entry_at bytes) []
unfolding entry_lists entry_lists_in
entry_lists_step [] = rw no_bytes refl
entry_lists_step (b ∷ bytes) = step_is (length bytes) (b ∷ bytes) (entry_at (b ∷ bytes)) refl refl

pub entry_lists_are : (bytes rest : List ℕ) (e : Entry) → entry_at bytes ≡ Some (e, rest) → entry_lists bytes ≡ e ∷ entry_lists rest
entry_lists_are bytes rest e is = entry_lists_step bytes ∙ ap (λ (o : Option (Entry × List ℕ)). option_map_or (λ e. e.0 ∷ entry_lists e.1) o []) is

none_left : (o : Option (Entry × List ℕ)) → operator_part o ≡ None → option_map_or (λ e. e.0 ∷ entry_lists e.1) o [] ≡ []
none_left None h = refl
none_left (Some e) h = absurd (none-some (e.0.operator, e.1) (sym h))

pub no_more_lists : (bytes : List ℕ) → operator_part (entry_at bytes) ≡ None → entry_lists bytes ≡ []
no_more_lists bytes h = entry_lists_step bytes ∙ none_left (entry_at bytes) h

-- an entry whose first operands are shown
pub record Shown (bytes operator rest : List ℕ) (limit : ℕ) (xs : List Number) : Type 0 where
  pub entry : Entry
  pub lists : entry_lists bytes ≡ entry ∷ entry_lists rest
  pub same : entry.operator ≡ operator
  pub first : xs ≡ take limit entry.operands

shown_first : (bytes rest : List ℕ) (e : Entry) (limit : ℕ) (xs : List Number) → entry_at bytes ≡ Some (e, rest) → Some xs ≡ operands_at limit bytes → xs ≡ take limit e.operands
unfolding operands_at
shown_first bytes rest e limit xs is shown = same_Some _ _ (rw is at shown)

pub is_shown : (bytes operator rest : List ℕ) (limit : ℕ) (xs : List Number) → operator_part (entry_at bytes) ≡ Some (operator, rest) → Some xs ≡ operands_at limit bytes → Shown bytes operator rest limit xs
is_shown bytes operator rest limit xs h shown =
    let f = found bytes operator rest h in
    record {
      entry = f.entry;
      lists = entry_lists_are bytes rest f.entry f.is;
      same = f.same;
      first = shown_first bytes rest f.entry limit xs f.is shown;
    }
