-- The font dicts and private dicts of a table that is laid out, read again.
use Rattle.std.proofs.Common.{◌≡◌, ℕ, zero, suc, ◌+◌, ◌-◌, ◌<◌, ◌^◌, List, [], ◌∷◌, ◌++◌, map, length, drop, Some, None, refl, ap, arith, inl, inr, ◌∙◌, sym, append_assoc, length-append}
use Rattle.std.specs.Prelude.{slice_get}
use Rattle.std.specs.List.{AllByRecursion}
use Rattle.std.specs.Str.{bytes_eq}
use Rattle.std.proofs.lemmas.Bool.{lt-ltb, le-leb, cases_Bool}
use Rattle.std.proofs.lemmas.List.{take_at, drop_at, append-nil}
use Rattle.std.proofs.lemmas.Option.{none-some, same_Some}
use Rattle.subsetter_base.specs.Bytes.{range}
use Rattle.subsetter_cffdata.specs.Indexes.Index.{readable}
use Rattle.subsetter_cffdata.specs.Numerals.Numbers.{Number, as_i32, as_u32, in_i32}
use Rattle.subsetter_cffdata.specs.Dicts.Operands.{offset_operand, range_operands}
use Rattle.subsetter_cffdata.specs.Dicts.Dict.{Entry, meaning, dict, entries}
use Rattle.subsetter_cffdata.proofs.DictsLaws.Dicts.{dict_again}
use Rattle.subsetter_cff.specs.Read.Entries.Lookup.{last_of, first_of, without}
use Rattle.subsetter_cff.specs.Read.FdArray.Private.{Private, local_subroutines, private_in, private_at}
use Rattle.subsetter_cff.specs.Read.Entries.Operators.{private_operator, subroutines_operator, font_matrix_operator, font_name_operator}
use Rattle.subsetter_cff.specs.Write.Laying.Layout.{FontDict, integer, string_entries, rewritten_entries, private_bytes, privates, entries_of_font_dict, entries_of_font_dict_by, font_dicts_from}
use Rattle.subsetter_cff.specs.Write.Laying.Fits.{FitsFontDict}
use Rattle.subsetter_cff.proofs.ReadLaws.EntriesLaws.Lookups.{passed, met, number_if}
use Rattle.subsetter_cff.proofs.WriteLaws.NewDictsLaws.Tops.{plain_values}

-- ---- operands
pub offset_operand_is : (n : ℕ) → n < 2 ^ 31 → offset_operand (integer n ∷ []) ≡ Some n
unfolding offset_operand as_u32 as_i32 in_i32
offset_operand_is n lt = rw (lt-ltb n 2147483648 lt) refl

pub range_operands_is : (size place : ℕ) → size < 2 ^ 31 → place < 2 ^ 31 → range_operands (integer size ∷ integer place ∷ []) ≡ Some (place, place + size)
unfolding range_operands as_u32 as_i32 in_i32
range_operands_is size place lt lt' = rw (lt-ltb size 2147483648 lt, lt-ltb place 2147483648 lt') refl

-- ---- where font dict i and its private dict are
pub record Found (ss : List (List ℕ)) (place : ℕ) (fs : List FontDict) (i : ℕ) (f : FontDict) : Type 0 where
  pub front : List ℕ
  pub back : List ℕ
  pub is : privates fs ≡ front ++ (private_bytes f ++ back)
  pub dict_is : slice_get (font_dicts_from ss place fs) i ≡ Some (dict (entries_of_font_dict ss (place + length front) f))

pub found : (ss : List (List ℕ)) (place : ℕ) (fs : List FontDict) (i : ℕ) (f : FontDict) → slice_get fs i ≡ Some f → Found ss place fs i f
found ss place [] i f at = absurd (none-some f at)
found ss place (g ∷ fs) zero f at =
    let same = same_Some _ _ at in
    let here : place ≡ place + length {A = ℕ} [] = omega arith in
    record {
      front = [];
      back = privates fs;
      is = ap (λ (h : FontDict). private_bytes h ++ privates fs) same;
      dict_is = ap (λ (h : FontDict). Some (dict (entries_of_font_dict ss place h))) same ∙ ap (λ (n : ℕ). Some (dict (entries_of_font_dict ss n f))) here;
    }
found ss place (g ∷ fs) (suc i) f at =
    let more = found ss (place + length (private_bytes g)) fs i f at in
    let here : place + length (private_bytes g) + length more.front ≡ place + length (private_bytes g ++ more.front) = omega (arith, length-append (private_bytes g) more.front) in
    record {
      front = private_bytes g ++ more.front;
      back = more.back;
      is = ap (λ (l : List ℕ). private_bytes g ++ l) more.is ∙ sym (append_assoc (private_bytes g) more.front (private_bytes f ++ more.back));
      dict_is = more.dict_is ∙ ap (λ (n : ℕ). Some (dict (entries_of_font_dict ss n f))) here;
    }

pub readable_all : (xs : List (List ℕ)) → readable (map Some xs) ≡ xs
readable_all [] = refl
readable_all (x ∷ xs) = ap (λ (l : List (List ℕ)). x ∷ l) (readable_all xs)

pub all_at : {A : Type 0} (P : A → Type 0) (xs : List A) (i : ℕ) (x : A) → AllByRecursion P xs → slice_get xs i ≡ Some x → P x
all_at P [] i x all at = absurd (none-some x at)
all_at P (y ∷ xs) zero x all at = rw (← same_Some _ _ at) all.0
all_at P (y ∷ xs) (suc i) x all at = all_at P xs i x all.1 at

-- ---- the entries of a font dict
abbrev pub font_dict_entries : List (List ℕ) → ℕ → FontDict → List Entry
font_dict_entries ss place f = map meaning (entries_of_font_dict ss place f)

names_last : (ss : List (List ℕ)) (f : FontDict) → string_entries ss font_name_operator f.name ++ [] ≡ string_entries ss font_name_operator f.name
names_last ss f = append-nil (string_entries ss font_name_operator f.name)

pub own_matrix : (ss : List (List ℕ)) (place : ℕ) (f : FontDict) → last_of font_matrix_operator (font_dict_entries ss place f) ≡ Some f.matrix
unfolding entries_of_font_dict_by
own_matrix ss place f = rw (← names_last ss f) (passed _ font_matrix_operator font_name_operator ss f.name [] refl) ∙ ap Some (plain_values f.matrix)

pub own_private : (ss : List (List ℕ)) (place : ℕ) (f : FontDict) → last_of private_operator (font_dict_entries ss place f) ≡ Some (integer (length (private_bytes f)) ∷ integer place ∷ [])
unfolding entries_of_font_dict_by
own_private ss place f = rw (← names_last ss f) (passed _ private_operator font_name_operator ss f.name [] refl)

pub own_name : (ss : List (List ℕ)) (place : ℕ) (f : FontDict) → last_of font_name_operator (font_dict_entries ss place f) ≡ number_if ss f.name
unfolding entries_of_font_dict_by
own_name ss place f = rw (← names_last ss f) (met font_name_operator font_name_operator ss f.name [] refl)

-- ---- the private dict
private_meaning : (es : List Entry) → map meaning (rewritten_entries es) ≡ es
private_meaning [] = refl
private_meaning (e ∷ es) = ap (λ (xs : List Number). record { operator = e.operator; operands = xs } ∷ map meaning (rewritten_entries es)) (plain_values e.operands) ∙ ap (λ (l : List Entry). e ∷ l) (private_meaning es)

pub none_left_out : (operator : List ℕ) (es : List Entry) → first_of operator es ≡ None → without operator es ≡ es
none_left_out operator [] none = refl
none_left_out operator (e ∷ es) none =
    elim (cases_Bool (bytes_eq e.operator operator)) [
      | inl same ↦ absurd (none-some e.operands (sym (rw same at none)))
      | inr other ↦ rw other (ap (λ (l : List Entry). e ∷ l) (none_left_out operator es (rw other at none)))
    ]

pub private_entries_again : (f : FontDict) → FitsFontDict f → entries (private_bytes f) ≡ f.private
unfolding private_bytes
private_entries_again f fits = dict_again (rewritten_entries f.private) fits.private ∙ private_meaning f.private

range_there : (table front piece back : List ℕ) (place size : ℕ) → table ≡ front ++ (piece ++ back) → place ≡ length front → size ≡ length piece → range table place size ≡ Some piece
range_there table front piece back place size e at len =
    let inside = le-leb (length front + length piece) (length (front ++ (piece ++ back))) (omega (arith, length-append front (piece ++ back), length-append piece back)) in
    rw (e, at, len, inside, drop_at front (piece ++ back) (length front) refl, take_at piece back (length piece) refl) refl

no_subroutines : (bytes : List ℕ) (es : List Entry) → first_of subroutines_operator es ≡ None → local_subroutines bytes es ≡ Some []
unfolding local_subroutines
no_subroutines bytes es none = rw none refl

pub private_again : (table front back : List ℕ) (place : ℕ) (f : FontDict) → FitsFontDict f → table ≡ front ++ (private_bytes f ++ back) → place ≡ length front
    → private_in table (place, place + length (private_bytes f)) ≡ Some (record { entries = f.private; subroutines = [] })
unfolding private_in
private_again table front back place f fits e at =
    let size : place + length (private_bytes f) - place ≡ length (private_bytes f) = omega arith in
    rw (size, range_there table front (private_bytes f) back place (length (private_bytes f)) e at refl, private_entries_again f fits, no_subroutines (drop place table) f.private fits.no_subroutines) refl

pub private_named : (ss : List (List ℕ)) (table : List ℕ) (place : ℕ) (f : FontDict) (private : Private) → length (private_bytes f) < 2 ^ 31 → place < 2 ^ 31
    → private_in table (place, place + length (private_bytes f)) ≡ Some private → private_at table (font_dict_entries ss place f) ≡ Some private
unfolding private_at
private_named ss table place f private lt lt' e = rw (own_private ss place f, range_operands_is (length (private_bytes f)) place lt lt') e
