-- What an entry says is said by its field, and the first operands tell.
use Rattle.std.proofs.Common.{◌≡◌, ℕ, Option, ◌||◌, ◌&&◌, not, Bool, true, false, List, [], ◌∷◌, take, length, arith, refl, ap, ◌∙◌, sym, inl, inr}
use Rattle.std.specs.Prelude.{is_some}
use Rattle.std.specs.Str.{bytes_eq}
use Rattle.std.proofs.lemmas.Bool.{cases_Bool, ne_eqb}
use Rattle.subsetter_base.proofs.Lists.{bytes_eq_is}
use Rattle.subsetter_cffdata.specs.Numerals.Numbers.{Number}
use Rattle.subsetter_cffdata.specs.Dicts.Operands.{string_operand, offset_operand, range_operands, just}
use Rattle.subsetter_cff.specs.declared.read.entries.fields.Field.{Field}
use Rattle.subsetter_cff.specs.declared.read.entries.fields.Field.TheVariants as fields
use Rattle.subsetter_cff.specs.declared.read.entries.fields.Demands.{Demands}
use Rattle.subsetter_cff.specs.declared.read.entries.fields.Demands.TheVariants as kinds
use Rattle.subsetter_cff.specs.Read.Entries.Fields.{field_by, taken_as, holds_as, demands_of, of_font_dict, is_demanded}
use Rattle.subsetter_cff.specs.Read.Entries.OperandDemands.{one_string, one_offset, one_range, so_many, top_demands, font_dict_demands}
use Rattle.subsetter_cff.specs.Read.Opened.{meets}
use Rattle.subsetter_cff.specs.Read.Entries.Operators.{notice_operator, font_box_operator, charset_operator, char_strings_operator, private_operator, copyright_operator, font_matrix_operator, registry_operator, font_dicts_operator, font_dict_select_operator, font_name_operator}
use Rattle.subsetter_cff.specs.Read.Entries.Values.{DictValues, taken}

-- an operator that says nothing that is kept
record IsOther (o : List ℕ) : Type 0 where
  notice : bytes_eq o notice_operator ≡ false
  copyright : bytes_eq o copyright_operator ≡ false
  font_name : bytes_eq o font_name_operator ≡ false
  charset : bytes_eq o charset_operator ≡ false
  char_strings : bytes_eq o char_strings_operator ≡ false
  font_dicts : bytes_eq o font_dicts_operator ≡ false
  select : bytes_eq o font_dict_select_operator ≡ false
  private : bytes_eq o private_operator ≡ false
  font_matrix : bytes_eq o font_matrix_operator ≡ false
  font_box : bytes_eq o font_box_operator ≡ false
  registry : bytes_eq o registry_operator ≡ false

-- what holds of the operator of each field, and of all others, holds of each operator
by_field : (P : List ℕ → Field → Type 0)
    → P notice_operator fields.Notice
    → P copyright_operator fields.Copyright
    → P font_name_operator fields.FontName
    → P charset_operator fields.Charset
    → P char_strings_operator fields.CharStrings
    → P font_dicts_operator fields.FdArray
    → P font_dict_select_operator fields.FdSelect
    → P private_operator fields.Private
    → P font_matrix_operator fields.FontMatrix
    → P font_box_operator fields.FontBBox
    → P registry_operator fields.Ros
    → ((o : List ℕ) → IsOther o → P o fields.Other)
    → (o : List ℕ) → P o (field_by o)
by_field P p1 p2 p3 p4 p5 p6 p7 p8 p9 p10 p11 other o =
    elim (cases_Bool (bytes_eq o notice_operator)) [
      | inl same ↦ rw (bytes_eq_is o notice_operator same) p1
      | inr n1 ↦ rw n1 (elim (cases_Bool (bytes_eq o copyright_operator)) [
        | inl same ↦ rw (bytes_eq_is o copyright_operator same) p2
        | inr n2 ↦ rw n2 (elim (cases_Bool (bytes_eq o font_name_operator)) [
          | inl same ↦ rw (bytes_eq_is o font_name_operator same) p3
          | inr n3 ↦ rw n3 (elim (cases_Bool (bytes_eq o charset_operator)) [
            | inl same ↦ rw (bytes_eq_is o charset_operator same) p4
            | inr n4 ↦ rw n4 (elim (cases_Bool (bytes_eq o char_strings_operator)) [
              | inl same ↦ rw (bytes_eq_is o char_strings_operator same) p5
              | inr n5 ↦ rw n5 (elim (cases_Bool (bytes_eq o font_dicts_operator)) [
                | inl same ↦ rw (bytes_eq_is o font_dicts_operator same) p6
                | inr n6 ↦ rw n6 (elim (cases_Bool (bytes_eq o font_dict_select_operator)) [
                  | inl same ↦ rw (bytes_eq_is o font_dict_select_operator same) p7
                  | inr n7 ↦ rw n7 (elim (cases_Bool (bytes_eq o private_operator)) [
                    | inl same ↦ rw (bytes_eq_is o private_operator same) p8
                    | inr n8 ↦ rw n8 (elim (cases_Bool (bytes_eq o font_matrix_operator)) [
                      | inl same ↦ rw (bytes_eq_is o font_matrix_operator same) p9
                      | inr n9 ↦ rw n9 (elim (cases_Bool (bytes_eq o font_box_operator)) [
                        | inl same ↦ rw (bytes_eq_is o font_box_operator same) p10
                        | inr n10 ↦ rw n10 (elim (cases_Bool (bytes_eq o registry_operator)) [
                          | inl same ↦ rw (bytes_eq_is o registry_operator same) p11
                          | inr n11 ↦ rw n11 (other o (record { notice = n1; copyright = n2; font_name = n3; charset = n4; char_strings = n5; font_dicts = n6; select = n7; private = n8; font_matrix = n9; font_box = n10; registry = n11 }))
                        ])
                      ])
                    ])
                  ])
                ])
              ])
            ])
          ])
        ])
      ])
    ]

pub taken_is : (s : DictValues) (o : List ℕ) (xs : List Number) → taken s o xs ≡ taken_as s (field_by o) xs
taken_is s o xs =
    by_field (λ (o : List ℕ) (f : Field). taken s o xs ≡ taken_as s f xs) refl refl refl refl refl refl refl refl refl refl refl
    (λ (o : List ℕ) (e : IsOther o). rw (e.notice, e.copyright, e.font_name, e.charset, e.char_strings, e.font_dicts, e.select, e.private, e.font_matrix, e.font_box, e.registry) refl) o

both : (b : Bool) → (b && true) ≡ (b || false)
both true = refl
both false = refl

or_true : (b : Bool) → (b || true) ≡ true
or_true true = refl
or_true false = refl

met_top : (o : List ℕ) (xs : List Number) → meets top_demands (record { operator = o; operands = xs }) ≡ (holds_as (field_by o) xs || false)
met_top o xs =
    by_field (λ (o : List ℕ) (f : Field). meets top_demands (record { operator = o; operands = xs }) ≡ (holds_as f xs || false))
    (both (one_string xs)) (both (one_string xs)) (both (one_string xs)) (both (one_offset xs)) (both (one_offset xs)) (both (one_offset xs)) (both (one_offset xs)) (both (one_range xs)) (both (so_many 6 xs)) (both (so_many 4 xs)) refl
    (λ (o : List ℕ) (e : IsOther o). rw (e.notice, e.copyright, e.font_name, e.charset, e.char_strings, e.font_dicts, e.select, e.private, e.font_matrix, e.font_box) refl) o

met_font : (o : List ℕ) (xs : List Number) → meets font_dict_demands (record { operator = o; operands = xs }) ≡ (holds_as (field_by o) xs || not (of_font_dict (field_by o)))
met_font o xs =
    by_field (λ (o : List ℕ) (f : Field). meets font_dict_demands (record { operator = o; operands = xs }) ≡ (holds_as f xs || not (of_font_dict f)))
    (sym (or_true (one_string xs))) (sym (or_true (one_string xs))) (both (one_string xs)) (sym (or_true (one_offset xs))) (sym (or_true (one_offset xs))) (sym (or_true (one_offset xs))) (sym (or_true (one_offset xs))) (both (one_range xs)) (both (so_many 6 xs)) (sym (or_true (so_many 4 xs))) refl
    (λ (o : List ℕ) (e : IsOther o). rw (e.font_name, e.private, e.font_matrix) refl) o

pub met_is : (d : Demands) (o : List ℕ) (xs : List Number) → meets (demands_of d) (record { operator = o; operands = xs }) ≡ (holds_as (field_by o) xs || not (is_demanded d (field_by o)))
met_is kinds.TopDict o xs = met_top o xs
met_is kinds.FontDict o xs = met_font o xs

-- ---- seven operands tell
string7 : (xs : List Number) → string_operand (take 7 xs) ≡ string_operand (take 48 xs)
unfolding string_operand
string7 [] = refl
string7 (a ∷ []) = refl
string7 (a ∷ b ∷ more) = refl

offset7 : (xs : List Number) → offset_operand (take 7 xs) ≡ offset_operand (take 48 xs)
unfolding offset_operand
offset7 [] = refl
offset7 (a ∷ []) = refl
offset7 (a ∷ b ∷ more) = refl

range7 : (xs : List Number) → range_operands (take 7 xs) ≡ range_operands (take 48 xs)
unfolding range_operands
range7 [] = refl
range7 (a ∷ []) = refl
range7 (a ∷ b ∷ []) = refl
range7 (a ∷ b ∷ c ∷ more) = refl

past6 : (a b c d e f g : Number) (more : List Number) → so_many 6 (a ∷ b ∷ c ∷ d ∷ e ∷ f ∷ g ∷ more) ≡ false
past6 a b c d e f g more = ne_eqb (length (a ∷ b ∷ c ∷ d ∷ e ∷ f ∷ g ∷ more)) 6 (λ same. omega (arith, same))

past4 : (a b c d e : Number) (more : List Number) → so_many 4 (a ∷ b ∷ c ∷ d ∷ e ∷ more) ≡ false
past4 a b c d e more = ne_eqb (length (a ∷ b ∷ c ∷ d ∷ e ∷ more)) 4 (λ same. omega (arith, same))

six7 : (xs : List Number) → just 6 (take 7 xs) ≡ just 6 (take 48 xs)
unfolding just
six7 [] = refl
six7 (a ∷ []) = refl
six7 (a ∷ b ∷ []) = refl
six7 (a ∷ b ∷ c ∷ []) = refl
six7 (a ∷ b ∷ c ∷ d ∷ []) = refl
six7 (a ∷ b ∷ c ∷ d ∷ e ∷ []) = refl
six7 (a ∷ b ∷ c ∷ d ∷ e ∷ f ∷ []) = refl
six7 (a ∷ b ∷ c ∷ d ∷ e ∷ f ∷ g ∷ more) = rw (past6 a b c d e f g (take 41 more)) refl

four7 : (xs : List Number) → just 4 (take 7 xs) ≡ just 4 (take 48 xs)
unfolding just
four7 [] = refl
four7 (a ∷ []) = refl
four7 (a ∷ b ∷ []) = refl
four7 (a ∷ b ∷ c ∷ []) = refl
four7 (a ∷ b ∷ c ∷ d ∷ []) = refl
four7 (a ∷ b ∷ c ∷ d ∷ e ∷ more) = rw (past4 a b c d e (take 2 more), past4 a b c d e (take 43 more)) refl

many6 : (xs : List Number) → so_many 6 (take 7 xs) ≡ so_many 6 (take 48 xs)
many6 [] = refl
many6 (a ∷ []) = refl
many6 (a ∷ b ∷ []) = refl
many6 (a ∷ b ∷ c ∷ []) = refl
many6 (a ∷ b ∷ c ∷ d ∷ []) = refl
many6 (a ∷ b ∷ c ∷ d ∷ e ∷ []) = refl
many6 (a ∷ b ∷ c ∷ d ∷ e ∷ f ∷ []) = refl
many6 (a ∷ b ∷ c ∷ d ∷ e ∷ f ∷ g ∷ more) = sym (past6 a b c d e f g (take 41 more))

many4 : (xs : List Number) → so_many 4 (take 7 xs) ≡ so_many 4 (take 48 xs)
many4 [] = refl
many4 (a ∷ []) = refl
many4 (a ∷ b ∷ []) = refl
many4 (a ∷ b ∷ c ∷ []) = refl
many4 (a ∷ b ∷ c ∷ d ∷ []) = refl
many4 (a ∷ b ∷ c ∷ d ∷ e ∷ more) = past4 a b c d e (take 2 more) ∙ sym (past4 a b c d e (take 43 more))

pub few_taken : (s : DictValues) (f : Field) (xs : List Number) → taken_as s f (take 7 xs) ≡ taken_as s f (take 48 xs)
few_taken s fields.Notice xs = ap (λ (o : Option ℕ). record s { notice = o }) (string7 xs)
few_taken s fields.Copyright xs = ap (λ (o : Option ℕ). record s { copyright = o }) (string7 xs)
few_taken s fields.FontName xs = ap (λ (o : Option ℕ). record s { font_name = o }) (string7 xs)
few_taken s fields.Charset xs = ap (λ (o : Option ℕ). record s { charset = o }) (offset7 xs)
few_taken s fields.CharStrings xs = ap (λ (o : Option ℕ). record s { char_strings = o }) (offset7 xs)
few_taken s fields.FdArray xs = ap (λ (o : Option ℕ). record s { fd_array = o }) (offset7 xs)
few_taken s fields.FdSelect xs = ap (λ (o : Option ℕ). record s { fd_select = o }) (offset7 xs)
few_taken s fields.Private xs = ap (λ (o : Option (ℕ × ℕ)). record s { private = o }) (range7 xs)
few_taken s fields.FontMatrix xs = ap (λ (o : Option (List Number)). record s { font_matrix = o }) (six7 xs)
few_taken s fields.FontBBox xs = ap (λ (o : Option (List Number)). record s { font_bbox = o }) (four7 xs)
few_taken s fields.Ros xs = refl
few_taken s fields.Other xs = refl

pub few_hold : (f : Field) (xs : List Number) → holds_as f (take 7 xs) ≡ holds_as f (take 48 xs)
few_hold fields.Notice xs = ap is_some (string7 xs)
few_hold fields.Copyright xs = ap is_some (string7 xs)
few_hold fields.FontName xs = ap is_some (string7 xs)
few_hold fields.Charset xs = ap is_some (offset7 xs)
few_hold fields.CharStrings xs = ap is_some (offset7 xs)
few_hold fields.FdArray xs = ap is_some (offset7 xs)
few_hold fields.FdSelect xs = ap is_some (offset7 xs)
few_hold fields.Private xs = ap is_some (range7 xs)
few_hold fields.FontMatrix xs = many6 xs
few_hold fields.FontBBox xs = many4 xs
few_hold fields.Ros xs = refl
few_hold fields.Other xs = refl
