-- The last entry of an operator, found entry by entry.
use Rattle.std.proofs.Common.{◌≡◌, ℕ, Bool, true, false, not, ◌&&◌, ◌||◌, List, [], ◌∷◌, take, Option, Some, None, refl, ap, ◌∙◌, sym}
use Rattle.std.proofs.lemmas.Option.{same_Some}
use Rattle.std.specs.Str.{bytes_eq}
use Rattle.subsetter_cffdata.specs.Numerals.Numbers.{Number}
use Rattle.subsetter_cffdata.specs.Dicts.Dict.{Entry, entry_at, entries, operand_limit}
use Rattle.subsetter_cffdata.specs.Dicts.Operands.{operands_at, offset_at, offset_operand}
use Rattle.subsetter_cffdata.specs.Dicts.Tokens.{operator_part}
use Rattle.subsetter_cffdata.proofs.DictsLaws.Entries.{entries_step}
use Rattle.subsetter_cff.specs.Read.Entries.OperandDemands.{Demand}
use Rattle.subsetter_cff.specs.declared.read.entries.fields.Demands.{Demands}
use Rattle.subsetter_cff.specs.Read.Entries.Fields.{field_by, demands_of, is_demanded}
use Rattle.subsetter_cff.specs.Read.Opened.{meets, all_meet}
use Rattle.subsetter_cff.specs.Read.Entries.Demands.{found_now}
use Rattle.subsetter_cff.specs.Read.Entries.Lookup.{last_after}
use Rattle.subsetter_cff.specs.Read.Entries.TopDicts.{first_offset}
use Rattle.subsetter_cff.proofs.ReadLaws.EntriesLaws.FieldsTaken.{met_is, few_hold}
use Rattle.subsetter_cff.proofs.WriteLaws.NewDictsLaws.Rewriting.{found, entries_are, none_left}

next_is : (before : Option (List Number)) (wanted bytes rest : List ℕ) (e : Entry) → entry_at bytes ≡ Some (e, rest)
    → last_after (found_now (bytes_eq e.operator wanted) (operands_at operand_limit bytes) before) wanted (entries rest) ≡ last_after before wanted (entries bytes)
unfolding operands_at
next_is before wanted bytes rest e is = rw (entries_are bytes rest e is, is) refl

-- of an entry in front
pub last_next : (before : Option (List Number)) (wanted bytes here operator rest : List ℕ) (limit : ℕ) → operator_part (entry_at bytes) ≡ Some (operator, rest) → limit ≡ operand_limit → here ≡ bytes
    → last_after (found_now (bytes_eq operator wanted) (operands_at limit here) before) wanted (entries rest) ≡ last_after before wanted (entries bytes)
last_next before wanted bytes here operator rest limit h room same =
    let f = found bytes operator rest h in
    rw (room, same) (ap (λ (o : List ℕ). last_after (found_now (bytes_eq o wanted) (operands_at operand_limit bytes) before) wanted (entries rest)) (sym f.same) ∙ next_is before wanted bytes rest f.entry f.is)

pub last_end : (before : Option (List Number)) (wanted bytes : List ℕ) → operator_part (entry_at bytes) ≡ None → last_after before wanted (entries bytes) ≡ before
last_end before wanted bytes h = rw (entries_step bytes, none_left (entry_at bytes) h) refl

-- ---- demands
meets_few : (d : Demands) (o : List ℕ) (xs : List Number) → meets (demands_of d) (record { operator = o; operands = take 7 xs }) ≡ meets (demands_of d) (record { operator = o; operands = take operand_limit xs })
meets_few d o xs = met_is d o (take 7 xs) ∙ ap (λ (b : Bool). b || not (is_demanded d (field_by o))) (few_hold (field_by o) xs) ∙ sym (met_is d o (take operand_limit xs))

pub few_shown : (bytes rest : List ℕ) (e : Entry) (limit : ℕ) (xs : List Number) → entry_at bytes ≡ Some (e, rest) → limit ≡ 7 → Some xs ≡ operands_at limit bytes → xs ≡ take 7 e.operands
unfolding operands_at
few_shown bytes rest e limit xs is room shown = same_Some _ _ (rw (room, is) at shown)

meet_is : (d : Demands) (bytes rest : List ℕ) (e : Entry) (xs : List Number) → entry_at bytes ≡ Some (e, rest) → xs ≡ take 7 e.operands
    → (meets (demands_of d) (record { operator = e.operator; operands = xs }) && all_meet (demands_of d) (entries rest)) ≡ all_meet (demands_of d) (entries bytes)
meet_is d bytes rest e xs is few = rw (entries_are bytes rest e is, few) (ap (λ (b : Bool). b && all_meet (demands_of d) (entries rest)) (meets_few d e.operator e.operands))

-- by its first operands
pub meet_next : (d : Demands) (bytes operator rest : List ℕ) (limit : ℕ) (xs : List Number) → operator_part (entry_at bytes) ≡ Some (operator, rest) → limit ≡ 7 → Some xs ≡ operands_at limit bytes
    → (meets (demands_of d) (record { operator = operator; operands = xs }) && all_meet (demands_of d) (entries rest)) ≡ all_meet (demands_of d) (entries bytes)
meet_next d bytes operator rest limit xs h room shown =
    let f = found bytes operator rest h in
    ap (λ (o : List ℕ). meets (demands_of d) (record { operator = o; operands = xs }) && all_meet (demands_of d) (entries rest)) (sym f.same)
    ∙ meet_is d bytes rest f.entry xs f.is (few_shown bytes rest f.entry limit xs f.is room shown)

pub meet_end : (ds : List Demand) (bytes : List ℕ) → operator_part (entry_at bytes) ≡ None → all_meet ds (entries bytes) ≡ true
meet_end ds bytes h = rw (entries_step bytes, none_left (entry_at bytes) h) refl

-- a test that fails, and one that is passed
pub fails_all : (b c all : Bool) → (b && c) ≡ all → b ≡ false → false ≡ all
fails_all b c all e h = sym (ap (λ (x : Bool). x && c) h) ∙ e

pub passes : (b c all : Bool) → (b && c) ≡ all → b ≡ true → c ≡ all
passes b c all e h = sym (ap (λ (x : Bool). x && c) h) ∙ e

-- ---- the first entry of an operator
two_tell : (xs : List Number) → offset_operand (take 2 xs) ≡ offset_operand (take operand_limit xs)
unfolding offset_operand
two_tell [] = refl
two_tell (a ∷ []) = refl
two_tell (a ∷ b ∷ more) = refl

first_is : (wanted bytes rest : List ℕ) (e : Entry) → entry_at bytes ≡ Some (e, rest) → bytes_eq e.operator wanted ≡ true
    → offset_at 2 bytes ≡ first_offset wanted (entries bytes)
unfolding operands_at
first_is wanted bytes rest e is same = rw (entries_are bytes rest e is, is, same) (two_tell e.operands)

pub first_here : (wanted bytes here operator rest : List ℕ) (limit : ℕ) → operator_part (entry_at bytes) ≡ Some (operator, rest) → limit ≡ 2 → here ≡ bytes → bytes_eq operator wanted ≡ true
    → offset_at limit here ≡ first_offset wanted (entries bytes)
first_here wanted bytes here operator rest limit h room same equal =
    let f = found bytes operator rest h in
    rw (room, same) (first_is wanted bytes rest f.entry f.is (ap (λ (o : List ℕ). bytes_eq o wanted) f.same ∙ equal))

first_after : (wanted bytes rest : List ℕ) (e : Entry) → entry_at bytes ≡ Some (e, rest) → bytes_eq e.operator wanted ≡ false → first_offset wanted (entries bytes) ≡ first_offset wanted (entries rest)
first_after wanted bytes rest e is other = rw (entries_are bytes rest e is, other) refl

pub first_next : (wanted bytes operator rest : List ℕ) → operator_part (entry_at bytes) ≡ Some (operator, rest) → bytes_eq operator wanted ≡ false → first_offset wanted (entries bytes) ≡ first_offset wanted (entries rest)
first_next wanted bytes operator rest h other =
    let f = found bytes operator rest h in first_after wanted bytes rest f.entry f.is (ap (λ (o : List ℕ). bytes_eq o wanted) f.same ∙ other)

pub first_end : (wanted bytes : List ℕ) → operator_part (entry_at bytes) ≡ None → first_offset wanted (entries bytes) ≡ None
first_end wanted bytes h = rw (entries_step bytes, none_left (entry_at bytes) h) refl
