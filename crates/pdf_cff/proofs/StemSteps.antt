-- StdVW of a private dict, found entry by entry.
use Rattle.std.proofs.Common.{◌≡◌, ℕ, cond, List, [], ◌∷◌, take, Option, Some, None, refl, ap, ◌∙◌, sym}
use Rattle.std.proofs.lemmas.Option.{same_Some}
use Rattle.std.specs.Option.{option_or}
use Rattle.std.specs.Str.{bytes_eq}
use Rattle.subsetter_cffdata.specs.Numerals.Numbers.{Number}
use Rattle.subsetter_cffdata.specs.Dicts.Dict.{Entry, entry_at, entries, operand_limit}
use Rattle.subsetter_cffdata.specs.Dicts.Operands.{operands_at}
use Rattle.subsetter_cffdata.specs.Dicts.Tokens.{operator_part}
use Rattle.subsetter_cffdata.proofs.DictsLaws.Entries.{entries_step}
use Rattle.subsetter_cff.proofs.WriteLaws.NewDictsLaws.Rewriting.{found, entries_are, none_left}
use Rattle.pdf_cff.specs.Stems.{stem_by, stem_in, stem_of, stem_operator}

-- two operands tell whether there is just one
two_tell : (units : ℕ) (xs : List Number) → stem_by units (take 2 xs) ≡ stem_by units (take operand_limit xs)
two_tell units [] = refl
two_tell units (a ∷ []) = refl
two_tell units (a ∷ b ∷ more) = refl

two_say : (units : ℕ) (operator : List ℕ) (xs : List Number) → stem_of units (record { operator = operator; operands = take 2 xs }) ≡ stem_of units (record { operator = operator; operands = take operand_limit xs })
two_say units operator xs = ap (λ (o : Option ℕ). cond (bytes_eq operator stem_operator) o None) (two_tell units xs)

few_shown : (bytes rest : List ℕ) (e : Entry) (limit : ℕ) (xs : List Number) → entry_at bytes ≡ Some (e, rest) → limit ≡ 2 → Some xs ≡ operands_at limit bytes → xs ≡ take 2 e.operands
unfolding operands_at
few_shown bytes rest e limit xs is room shown = same_Some _ _ (rw (room, is) at shown)

entry_is : (units : ℕ) (bytes rest : List ℕ) (e : Entry) (xs : List Number) → entry_at bytes ≡ Some (e, rest) → xs ≡ take 2 e.operands
    → option_or (stem_of units (record { operator = e.operator; operands = xs })) (stem_in units (entries rest)) ≡ stem_in units (entries bytes)
entry_is units bytes rest e xs is few = rw (entries_are bytes rest e is, few) (ap (λ (o : Option ℕ). option_or o (stem_in units (entries rest))) (two_say units e.operator e.operands))

-- the entry in front, else those after it
pub stem_next : (units : ℕ) (bytes operator rest : List ℕ) (limit : ℕ) (xs : List Number) → operator_part (entry_at bytes) ≡ Some (operator, rest) → limit ≡ 2 → Some xs ≡ operands_at limit bytes
    → option_or (stem_of units (record { operator = operator; operands = xs })) (stem_in units (entries rest)) ≡ stem_in units (entries bytes)
stem_next units bytes operator rest limit xs h room shown =
    let f = found bytes operator rest h in
    ap (λ (o : List ℕ). option_or (stem_of units (record { operator = o; operands = xs })) (stem_in units (entries rest))) (sym f.same)
    ∙ entry_is units bytes rest f.entry xs f.is (few_shown bytes rest f.entry limit xs f.is room shown)

-- no entry is left
pub stem_end : (units : ℕ) (bytes : List ℕ) → operator_part (entry_at bytes) ≡ None → stem_in units (entries bytes) ≡ None
stem_end units bytes h = rw (entries_step bytes, none_left (entry_at bytes) h) refl

-- ---- what is said first
pub said_here : (said later total : Option ℕ) (n : ℕ) → option_or said later ≡ total → said ≡ Some n → Some n ≡ total
said_here said later total n is here = ap (λ (o : Option ℕ). option_or o later) (sym here) ∙ is

pub said_later : (said later total : Option ℕ) → option_or said later ≡ total → said ≡ None → later ≡ total
said_later said later total is none = ap (λ (o : Option ℕ). option_or o later) (sym none) ∙ is
