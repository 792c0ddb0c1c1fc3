-- The entries of a source.
use Rattle.std.proofs.Common.{◌≡◌, ℕ, ◌-◌, ◌≤◌, eqb, List, [], ◌∷◌, drop, map, length, Option, Some, None, refl, ap, inl, inr, ◌∙◌, sym, subst}
use Rattle.std.specs.Option.{option_map}
use Rattle.std.specs.Str.{bytes_eq}
use Rattle.std.specs.List.{AllByRecursion}
use Rattle.std.proofs.lemmas.Bool.{cases_Bool}
use Rattle.std.proofs.lemmas.Option.{none-some, same_Some}
use Rattle.subsetter_base.specs.Bytes.{range, first_number}
use Rattle.subsetter_cffdata.specs.Numerals.Numbers.{Number}
use Rattle.subsetter_cffdata.specs.Indexes.Index.{index_at, readable}
use Rattle.subsetter_cffdata.specs.Dicts.Dict.{Entry, entries, operand_limit}
use Rattle.subsetter_cffdata.specs.Dicts.Operands.{range_operands}
use Rattle.subsetter_type2.specs.Subroutines.{entry_at}
use Rattle.subsetter_cff.specs.Read.Entries.Lookup.{last_after, last_of, first_of, without}
use Rattle.subsetter_cff.specs.Read.Cff.{Cff, top_index, string_index, subroutine_index, top_dict, name_bytes, cff_parts, at_offset}
use Rattle.subsetter_cff.specs.Read.FdArray.FontDicts.{font_dicts}
use Rattle.subsetter_cff.specs.Read.FdArray.Private.{Private, local_subroutines, private_in, private_by, private_at}
use Rattle.subsetter_cff.specs.Read.Entries.Operators.{font_dicts_operator, private_operator}
use Rattle.subsetter_cffdata.proofs.Options.{step, when}
use Rattle.subsetter_cff.proofs.ReadLaws.EntriesLaws.ReadNumbers.{IsWritable, FitsNumber, all_writable, FitsEntry}
use Rattle.subsetter_cff.proofs.ReadLaws.EntriesLaws.EntriesFit.{entries_fit}

pub all_map : {A B : Type 0} (P : B → Type 0) (f : A → B) (xs : List A) → ((x : A) → P (f x)) → AllByRecursion P (map f xs)
all_map P f [] h = tt
all_map P f (x ∷ xs) h = (h x, all_map P f xs h)

-- ---- entries of dicts
abbrev pub Fitting : List Entry → Type 0
Fitting es = AllByRecursion FitsEntry es

pub record OperandsFit (xs : List Number) : Type 0 where
  pub each : AllByRecursion FitsNumber xs
  pub few : length xs ≤ operand_limit

-- numbers that can be written in one entry, unless a text is too long
pub record AreWritable (xs : List Number) : Type 0 where
  pub each : AllByRecursion IsWritable xs
  pub few : length xs ≤ operand_limit

last_read : (operator : List ℕ) (es : List Entry) (found : Option (List Number)) (xs : List Number) → Fitting es → ((ys : List Number) → found ≡ Some ys → OperandsFit ys) → last_after found operator es ≡ Some xs → OperandsFit xs
last_read operator [] found xs all before e = before xs e
last_read operator (d ∷ es) found xs all before e =
    elim (cases_Bool (bytes_eq d.operator operator)) [
      | inl same ↦ last_read operator es (Some d.operands) xs all.1 (λ ys h. subst OperandsFit (same_Some _ _ h) (record { each = all.0.operands; few = all.0.few })) (rw same at e)
      | inr other ↦ last_read operator es found xs all.1 before (rw other at e)
    ]

pub last_of_fits : (operator : List ℕ) (es : List Entry) (xs : List Number) → Fitting es → last_of operator es ≡ Some xs → OperandsFit xs
last_of_fits operator es xs all e = last_read operator es None xs all (λ ys h. absurd (none-some ys h)) e

pub last_of_read : (operator : List ℕ) (es : List Entry) (xs : List Number) → Fitting es → last_of operator es ≡ Some xs → AreWritable xs
last_of_read operator es xs all e = let f = last_of_fits operator es xs all e in record { each = all_writable xs f.each; few = f.few }

pub without_fits : (operator : List ℕ) (es : List Entry) → Fitting es → Fitting (without operator es)
without_fits operator [] all = tt
without_fits operator (e ∷ es) all =
    elim (cases_Bool (bytes_eq e.operator operator)) [
      | inl same ↦ rw same (without_fits operator es all.1)
      | inr other ↦ rw other (all.0, without_fits operator es all.1)
    ]

pub none_first : (operator : List ℕ) (es : List Entry) → first_of operator (without operator es) ≡ None
none_first operator [] = refl
none_first operator (e ∷ es) =
    elim (cases_Bool (bytes_eq e.operator operator)) [
      | inl same ↦ rw same (none_first operator es)
      | inr other ↦ rw (other, other) (none_first operator es)
    ]

-- ---- a source
pub record Source (bytes : List ℕ) (cff : Cff) : Type 0 where
  pub bytes_are : cff.bytes ≡ bytes
  pub names : name_bytes bytes ≡ Some cff.names
  pub top : top_dict bytes ≡ Some cff.top

source_made : (bytes names : List ℕ) (top : List Entry) (strings subroutines : List (Option (List ℕ))) (cff : Cff) → name_bytes bytes ≡ Some names → top_dict bytes ≡ Some top
    → record { bytes = bytes; names = names; top = top; strings = strings; subroutines = subroutines } ≡ cff → Source bytes cff
source_made bytes names top strings subroutines cff e f same =
    record { bytes_are = ap (λ (c : Cff). c.bytes) (sym same); names = e ∙ ap (λ (c : Cff). Some c.names) same; top = f ∙ ap (λ (c : Cff). Some c.top) same }

pub source_of : (bytes : List ℕ) (cff : Cff) → cff_parts bytes ≡ Some cff → Source bytes cff
unfolding cff_parts
source_of bytes cff e =
    let a = step (first_number bytes) _ cff e in
    let b = step (name_bytes bytes) _ cff a.1.1 in
    let c = step (top_dict bytes) _ cff b.1.1 in
    let d = step (string_index bytes) _ cff c.1.1 in
    let f = step (subroutine_index bytes) _ cff d.1.1 in
    let w = when (eqb a.0 1) _ cff f.1.1 in
    source_made bytes b.0 c.0 d.0.0 f.0.0 cff b.1.0 c.1.0 (same_Some _ _ w.1)

fitting_of : (o : Option (List ℕ)) (es : List Entry) → option_map entries o ≡ Some es → Fitting es
fitting_of None es e = absurd (none-some es e)
fitting_of (Some item) es e = subst Fitting (same_Some _ _ e) (entries_fit item)

pub top_fits : (bytes : List ℕ) (top : List Entry) → top_dict bytes ≡ Some top → Fitting top
unfolding top_dict
top_fits bytes top e = let t = step (top_index bytes) _ top e in fitting_of (entry_at t.0.0 0) top t.1.1

dicts_made : (o : Option (List (Option (List ℕ)) × List ℕ)) (dicts : List (List Entry)) → option_map (λ index. map entries (readable index.0)) o ≡ Some dicts → AllByRecursion Fitting dicts
dicts_made None dicts e = absurd (none-some dicts e)
dicts_made (Some x) dicts e = subst (AllByRecursion Fitting) (same_Some _ _ e) (all_map Fitting entries (readable x.0) entries_fit)

pub font_dicts_fit : (cff : Cff) (dicts : List (List Entry)) → font_dicts cff ≡ Some dicts → AllByRecursion Fitting dicts
unfolding font_dicts
font_dicts_fit cff dicts e = let a = step (at_offset cff font_dicts_operator) _ dicts e in dicts_made (index_at a.0) dicts a.1.1

-- a private dict
private_in_fits : (bytes : List ℕ) (place : ℕ × ℕ) (p : Private) → private_in bytes place ≡ Some p → Fitting p.entries
unfolding private_in
private_in_fits bytes place p e =
    let a = step (range bytes place.0 (place.1 - place.0)) _ p e in
    let b = step (local_subroutines (drop place.0 bytes) (entries a.0)) _ p a.1.1 in
    subst (λ (q : Private). Fitting q.entries) (same_Some _ _ b.1.1) (entries_fit a.0)

private_by_fits : (bytes : List ℕ) (o : Option (List Number)) (p : Private) → private_by bytes o ≡ Some p → Fitting p.entries
private_by_fits bytes None p e = subst (λ (q : Private). Fitting q.entries) (same_Some _ _ e) tt
private_by_fits bytes (Some xs) p e = let a = step (range_operands xs) (private_in bytes) p e in private_in_fits bytes a.0 p a.1.1

pub private_fits : (bytes : List ℕ) (dict : List Entry) (p : Private) → private_at bytes dict ≡ Some p → Fitting p.entries
unfolding private_at
private_fits bytes dict p e = private_by_fits bytes (last_of private_operator dict) p e
