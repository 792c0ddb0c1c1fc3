-- Lines of a dict, as they are written.
use Rattle.std.proofs.Common.{◌≡◌, List, [], ◌∷◌, ◌++◌, map, refl, ap, ◌∙◌, append_assoc}
use Rattle.std.specs.Prelude.{ℕ, Option, Result, Ok, Err, OnOk}
use Rattle.std.specs.List.{flat_map}
use Rattle.subsetter_cffdata.specs.Numerals.Numbers.{Number, number, offset}
use Rattle.subsetter_cffdata.specs.Dicts.Dict.{Plain, operand, entry_bytes, NewEntry, dict}
use Rattle.subsetter_cffdata.specs.Views.{number_of}
use Rattle.subsetter_cffdata.specs.declared.numerals.number.Number.{Number as StoredNumber}
use Rattle.std.proofs.lemmas.List.{append-nil}
use Rattle.std.proofs.lemmas.List.Concat.{flat_map-append}
use Rattle.subsetter_cff.specs.Read.Entries.Operators.{notice_operator, font_box_operator, private_operator, copyright_operator, font_matrix_operator, registry_operator, font_name_operator}
use Rattle.subsetter_cff.specs.Write.Laying.Layout.{integer, number_entries, registry_entry, TopDict, entries_of_font_dict_by}
use Rattle.subsetter_cffdata.specs.Dicts.Plain.{plain_entry}
use Rattle.subsetter_cff.specs.Write.Laying.FrontDraft.{named_bytes}

operands_are : (xs : List StoredNumber) → flat_map (λ x. number (number_of x)) xs ≡ flat_map operand (map Plain (map number_of xs))
operands_are [] = refl
operands_are (x ∷ xs) = ap (λ (l : List ℕ). number (number_of x) ++ l) (operands_are xs)

-- numbers and then an operator, after what was written before
pub written_entry_is : (old operator : List ℕ) (xs : List StoredNumber) → (old ++ flat_map (λ x. number (number_of x)) xs) ++ operator ≡ old ++ entry_bytes (plain_entry operator (map number_of xs))
written_entry_is old operator xs = append_assoc old _ operator ∙ ap (λ (l : List ℕ). old ++ (l ++ operator)) (operands_are xs)

in_order : (ls ms : List NewEntry) → dict (ls ++ ms) ≡ dict ls ++ dict ms
in_order ls ms = flat_map-append entry_bytes ls ms

-- several writes, one after the other, the last of which may fail
pub five_written : {A E : Type 0} (r : Result A E) (old v w x y z a b c d e : List ℕ) → v ≡ old ++ a → w ≡ v ++ b → x ≡ w ++ c → y ≡ x ++ d → OnOk r (z ≡ y ++ e)
    → OnOk r (z ≡ old ++ (a ++ (b ++ (c ++ (d ++ (e ++ []))))))
five_written (Err f) old v w x y z a b c d e p q s t u = tt
five_written (Ok f) old v w x y z a b c d e p q s t u = u ∙ rw (t, s, q, p) (simp (append_assoc, append-nil))

pub six_written : {A E : Type 0} (r : Result A E) (old u v w x y z a b c d e f : List ℕ) → u ≡ old ++ a → v ≡ u ++ b → w ≡ v ++ c → x ≡ w ++ d → y ≡ x ++ e → OnOk r (z ≡ y ++ f)
    → OnOk r (z ≡ old ++ (a ++ (b ++ (c ++ (d ++ (e ++ f))))))
six_written (Err h) old u v w x y z a b c d e f j k l m n o = tt
six_written (Ok h) old u v w x y z a b c d e f j k l m n o = o ∙ rw (n, m, l, k, j) (simp append_assoc)

last_two : (a b : NewEntry) → entry_bytes a ++ entry_bytes b ≡ dict (a ∷ b ∷ [])
last_two a b = simp append-nil

strings_in_order : (a b c rest : List NewEntry) → dict a ++ (dict b ++ (dict c ++ dict rest)) ≡ dict (a ++ (b ++ (c ++ rest)))
strings_in_order a b c rest = rw (in_order a (b ++ (c ++ rest)), in_order b (c ++ rest), in_order c rest) refl

pub named_is : (t : TopDict)
    → entry_bytes registry_entry ++ (dict (number_entries copyright_operator t.copyright) ++ (dict (number_entries notice_operator t.notice) ++ (dict (number_entries font_name_operator t.font_name)
    ++ (entry_bytes (plain_entry font_matrix_operator t.matrix) ++ entry_bytes (plain_entry font_box_operator t.box))))) ≡ named_bytes t
unfolding named_bytes
named_is t =
    ap (λ (l : List ℕ). entry_bytes registry_entry ++ l) (ap (λ (l : List ℕ). dict (number_entries copyright_operator t.copyright) ++ (dict (number_entries notice_operator t.notice) ++ (dict (number_entries font_name_operator t.font_name) ++ l))) (last_two (plain_entry font_matrix_operator t.matrix) (plain_entry font_box_operator t.box))
    ∙ strings_in_order (number_entries copyright_operator t.copyright) (number_entries notice_operator t.notice) (number_entries font_name_operator t.font_name)
    (plain_entry font_matrix_operator t.matrix ∷ plain_entry font_box_operator t.box ∷ []))

three : (old a b c d e : List ℕ) → ((old ++ a) ++ (b ++ (c ++ d))) ++ e ≡ old ++ (a ++ (((b ++ (c ++ [])) ++ d) ++ e))
three old a b c d e = simp (append_assoc, append-nil)

pub font_dict_is : (old : List ℕ) (matrix : List Number) (size place : ℕ) (name : Option ℕ)
    → ((old ++ entry_bytes (plain_entry font_matrix_operator matrix)) ++ (offset size ++ (offset place ++ private_operator))) ++ dict (number_entries font_name_operator name) ≡ old ++ dict (entries_of_font_dict_by matrix size place name)
unfolding entries_of_font_dict_by
font_dict_is old matrix size place name = three old (entry_bytes (plain_entry font_matrix_operator matrix)) (offset size) (offset place) private_operator (dict (number_entries font_name_operator name))

four : (old a b c d : List ℕ) → (((old ++ a) ++ b) ++ c) ++ d ≡ old ++ ((a ++ (b ++ (c ++ []))) ++ d)
four old a b c d = simp (append_assoc, append-nil)

pub registry_is : (old : List ℕ) → (((old ++ number (integer 391)) ++ number (integer 392)) ++ number (integer 0)) ++ registry_operator ≡ old ++ entry_bytes registry_entry
registry_is old = four old (number (integer 391)) (number (integer 392)) (number (integer 0)) registry_operator
