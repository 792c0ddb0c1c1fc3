-- What is taken entry by entry is what the last entry of each operator says.
use Rattle.std.proofs.Common.{◌≡◌, ℕ, Bool, true, false, List, [], ◌∷◌, take, Option, Some, None, refl, ap, ◌∙◌, sym}
use Rattle.std.specs.Prelude.{if◌then◌else◌, is_some}
use Rattle.std.specs.Str.{bytes_eq}
use Rattle.subsetter_base.specs.Options.{◌>>=◌}
use Rattle.subsetter_cffdata.specs.Numerals.Numbers.{Number}
use Rattle.subsetter_cffdata.specs.Dicts.Dict.{Entry, entry_at, entries, operand_limit}
use Rattle.subsetter_cffdata.specs.Dicts.Operands.{operands_at, string_operand, offset_operand, range_operands, just}
use Rattle.subsetter_cffdata.specs.Dicts.Tokens.{operator_part}
use Rattle.subsetter_cffdata.proofs.DictsLaws.Entries.{entries_step}
use Rattle.subsetter_cff.specs.declared.read.entries.top_dict.TopDictData.{TopDictData}
use Rattle.subsetter_cff.specs.Read.Entries.Lookup.{last_after}
use Rattle.subsetter_cff.specs.Read.Entries.Operators.{notice_operator, font_box_operator, charset_operator, char_strings_operator, private_operator, copyright_operator, font_matrix_operator, registry_operator, font_dicts_operator, font_dict_select_operator, font_name_operator}
use Rattle.subsetter_cff.specs.Read.Entries.Values.{DictValues, values_of, taken, values_after, no_values}
use Rattle.subsetter_cff.specs.Read.Entries.Fields.{field_by}
use Rattle.subsetter_cff.specs.Read.Entries.TopDicts.{IsTopDict}
use Rattle.subsetter_cff.proofs.ReadLaws.EntriesLaws.FieldsTaken.{taken_is, few_taken}
use Rattle.subsetter_cff.proofs.ReadLaws.EntriesLaws.LastEntries.{few_shown}
use Rattle.subsetter_cff.proofs.WriteLaws.NewDictsLaws.Rewriting.{found, entries_are, none_left}

-- ---- entry by entry
taken_few : (s : DictValues) (o : List ℕ) (xs : List Number) → taken s o (take 7 xs) ≡ taken s o (take operand_limit xs)
taken_few s o xs = taken_is s o (take 7 xs) ∙ few_taken s (field_by o) xs ∙ sym (taken_is s o (take operand_limit xs))

take_is : (s : DictValues) (bytes rest : List ℕ) (e : Entry) (xs : List Number) → entry_at bytes ≡ Some (e, rest) → xs ≡ take 7 e.operands
    → values_after (taken s e.operator xs) (entries rest) ≡ values_after s (entries bytes)
take_is s bytes rest e xs is few = rw (entries_are bytes rest e is, few) (ap (λ (t : DictValues). values_after t (entries rest)) (taken_few s e.operator e.operands))

-- by its first operands
pub take_next : (s : DictValues) (bytes operator rest : List ℕ) (limit : ℕ) (xs : List Number) → operator_part (entry_at bytes) ≡ Some (operator, rest) → limit ≡ 7 → Some xs ≡ operands_at limit bytes
    → values_after (taken s operator xs) (entries rest) ≡ values_after s (entries bytes)
take_next s bytes operator rest limit xs h room shown =
    let f = found bytes operator rest h in
    ap (λ (o : List ℕ). values_after (taken s o xs) (entries rest)) (sym f.same)
    ∙ take_is s bytes rest f.entry xs f.is (few_shown bytes rest f.entry limit xs f.is room shown)

pub take_end : (s : DictValues) (bytes : List ℕ) → operator_part (entry_at bytes) ≡ None → values_after s (entries bytes) ≡ s
take_end s bytes h = rw (entries_step bytes, none_left (entry_at bytes) h) refl

-- ---- the last entry of an operator, read
abbrev last_by : {X : Type 0} → (Option (List Number) → X) → X → List ℕ → List Entry → X
last_by f x operator [] = x
last_by f x operator (e ∷ es) = last_by f (if bytes_eq e.operator operator then f (Some e.operands) else x) operator es

moved : {X : Type 0} (f : Option (List Number) → X) (b : Bool) (now before : Option (List Number)) → (if b then f now else f before) ≡ f (if b then now else before)
moved f true now before = refl
moved f false now before = refl

last_read : {X : Type 0} (f : Option (List Number) → X) (o : Option (List Number)) (operator : List ℕ) (es : List Entry) → last_by f (f o) operator es ≡ f (last_after o operator es)
last_read f o operator [] = refl
last_read f o operator (e ∷ es) =
    ap (λ x. last_by f x operator es) (moved f (bytes_eq e.operator operator) (Some e.operands) o) ∙ last_read f (if bytes_eq e.operator operator then Some e.operands else o) operator es

-- ---- each operator
copyright_by : (s : DictValues) (es : List Entry) → (values_after s es).copyright ≡ last_by (λ o. o >>= string_operand) s.copyright copyright_operator es
copyright_by s [] = refl
copyright_by s (e ∷ es) = copyright_by (taken s e.operator e.operands) es

notice_by : (s : DictValues) (es : List Entry) → (values_after s es).notice ≡ last_by (λ o. o >>= string_operand) s.notice notice_operator es
notice_by s [] = refl
notice_by s (e ∷ es) = notice_by (taken s e.operator e.operands) es

font_name_by : (s : DictValues) (es : List Entry) → (values_after s es).font_name ≡ last_by (λ o. o >>= string_operand) s.font_name font_name_operator es
font_name_by s [] = refl
font_name_by s (e ∷ es) = font_name_by (taken s e.operator e.operands) es

has_ros_by : (s : DictValues) (es : List Entry) → (values_after s es).has_ros ≡ last_by is_some s.has_ros registry_operator es
has_ros_by s [] = refl
has_ros_by s (e ∷ es) = has_ros_by (taken s e.operator e.operands) es

font_matrix_by : (s : DictValues) (es : List Entry) → (values_after s es).font_matrix ≡ last_by (λ o. o >>= just 6) s.font_matrix font_matrix_operator es
font_matrix_by s [] = refl
font_matrix_by s (e ∷ es) = font_matrix_by (taken s e.operator e.operands) es

font_bbox_by : (s : DictValues) (es : List Entry) → (values_after s es).font_bbox ≡ last_by (λ o. o >>= just 4) s.font_bbox font_box_operator es
font_bbox_by s [] = refl
font_bbox_by s (e ∷ es) = font_bbox_by (taken s e.operator e.operands) es

charset_by : (s : DictValues) (es : List Entry) → (values_after s es).charset ≡ last_by (λ o. o >>= offset_operand) s.charset charset_operator es
charset_by s [] = refl
charset_by s (e ∷ es) = charset_by (taken s e.operator e.operands) es

char_strings_by : (s : DictValues) (es : List Entry) → (values_after s es).char_strings ≡ last_by (λ o. o >>= offset_operand) s.char_strings char_strings_operator es
char_strings_by s [] = refl
char_strings_by s (e ∷ es) = char_strings_by (taken s e.operator e.operands) es

fd_array_by : (s : DictValues) (es : List Entry) → (values_after s es).fd_array ≡ last_by (λ o. o >>= offset_operand) s.fd_array font_dicts_operator es
fd_array_by s [] = refl
fd_array_by s (e ∷ es) = fd_array_by (taken s e.operator e.operands) es

fd_select_by : (s : DictValues) (es : List Entry) → (values_after s es).fd_select ≡ last_by (λ o. o >>= offset_operand) s.fd_select font_dict_select_operator es
fd_select_by s [] = refl
fd_select_by s (e ∷ es) = fd_select_by (taken s e.operator e.operands) es

private_by : (s : DictValues) (es : List Entry) → (values_after s es).private ≡ last_by (λ o. o >>= range_operands) s.private private_operator es
private_by s [] = refl
private_by s (e ∷ es) = private_by (taken s e.operator e.operands) es

-- what is said by all entries is a top dict
pub all_said : (es : List Entry) (t : TopDictData) → values_of t ≡ values_after no_values es → IsTopDict es t
all_said es t same = record {
  copyright = ap (λ (s : DictValues). s.copyright) same ∙ copyright_by no_values es ∙ last_read (λ o. o >>= string_operand) None copyright_operator es;
  notice = ap (λ (s : DictValues). s.notice) same ∙ notice_by no_values es ∙ last_read (λ o. o >>= string_operand) None notice_operator es;
  font_name = ap (λ (s : DictValues). s.font_name) same ∙ font_name_by no_values es ∙ last_read (λ o. o >>= string_operand) None font_name_operator es;
  has_ros = ap (λ (s : DictValues). s.has_ros) same ∙ has_ros_by no_values es ∙ last_read is_some None registry_operator es;
  font_matrix = ap (λ (s : DictValues). s.font_matrix) same ∙ font_matrix_by no_values es ∙ last_read (λ o. o >>= just 6) None font_matrix_operator es;
  font_bbox = ap (λ (s : DictValues). s.font_bbox) same ∙ font_bbox_by no_values es ∙ last_read (λ o. o >>= just 4) None font_box_operator es;
  charset = ap (λ (s : DictValues). s.charset) same ∙ charset_by no_values es ∙ last_read (λ o. o >>= offset_operand) None charset_operator es;
  char_strings = ap (λ (s : DictValues). s.char_strings) same ∙ char_strings_by no_values es ∙ last_read (λ o. o >>= offset_operand) None char_strings_operator es;
  fd_array = ap (λ (s : DictValues). s.fd_array) same ∙ fd_array_by no_values es ∙ last_read (λ o. o >>= offset_operand) None font_dicts_operator es;
  fd_select = ap (λ (s : DictValues). s.fd_select) same ∙ fd_select_by no_values es ∙ last_read (λ o. o >>= offset_operand) None font_dict_select_operator es;
  private = ap (λ (s : DictValues). s.private) same ∙ private_by no_values es ∙ last_read (λ o. o >>= range_operands) None private_operator es;
}
