-- StdVW of the private dicts of font dicts, by where they are in the table.
use Rattle.std.proofs.Common.{◌≡◌, ℕ, zero, suc, ◌+◌, ◌-◌, ◌<◌, ◌≤◌, Bool, true, false, cond, List, [], ◌∷◌, length, take, drop, Option, Some, None, refl, ap, ◌∙◌, sym, subst, arith, inl, inr}
use Rattle.std.specs.Prelude.{slice_get}
use Rattle.std.specs.Option.{option_map, option_or}
use Rattle.std.specs.Str.{bytes_eq}
use Rattle.std.proofs.lemmas.Bool.{cases_Bool, cases_lt, le-leb, lt-leb}
use Rattle.std.proofs.lemmas.Option.{none-some, same_Some}
use Rattle.subsetter_base.specs.Bytes.{range}
use Rattle.subsetter_base.specs.Options.{◌>>=◌}
use Rattle.subsetter_cffdata.specs.Numerals.Numbers.{Number}
use Rattle.subsetter_cffdata.specs.Dicts.Dict.{Entry, entries}
use Rattle.subsetter_cffdata.specs.Dicts.Operands.{range_operands}
use Rattle.subsetter_cff.specs.declared.read.fd_array.font_dict.FontDict.{FontDict}
use Rattle.subsetter_cff.specs.Read.Entries.FirstEntries.{only, first_said}
use Rattle.subsetter_cff.specs.Read.Entries.Lookup.{last_of}
use Rattle.subsetter_cff.specs.Read.Entries.Operators.{private_operator}
use Rattle.subsetter_cff.specs.Read.Entries.TopDicts.{last_range}
use Rattle.subsetter_cff.specs.Read.FdArray.FontDictFaults.{IsFontDictIn}
use Rattle.subsetter_cff.specs.Read.FdArray.FontDictList.{AreFontDicts}
use Rattle.subsetter_cff.specs.Read.FdArray.Private.{Private, no_private, private_at, private_by, private_in, local_subroutines}
use Rattle.subsetter_cff.specs.Read.FdArray.PrivateView.{private_view}
use Rattle.pdf_cff.specs.DictStems.{joined, stem_one, stem_saying, IsDictIn}
use Rattle.pdf_cff.specs.Stems.{stem_by, stem_in, stem_operator}

-- ---- what the first entry says
one_stem : (units : ℕ) (xs : List Number) → stem_one units (only xs) ≡ stem_by units xs
one_stem units [] = refl
one_stem units (x ∷ []) = refl
one_stem units (x ∷ y ∷ more) = refl

joined_or : (stem later : Option ℕ) (rest : Option (Option ℕ)) → joined rest ≡ later → joined (option_or (option_map Some stem) rest) ≡ option_or stem later
joined_or None later rest e = e
joined_or (Some x) later rest e = refl

pub stems_are : (units : ℕ) (es : List Entry) → joined (first_said (stem_saying units) es) ≡ stem_in units es
stems_are units [] = refl
stems_are units (e ∷ es) =
    elim (cases_Bool (bytes_eq e.operator stem_operator)) [
      | inl same ↦ rw (same, one_stem units e.operands) (joined_or (stem_by units e.operands) (stem_in units es) (first_said (stem_saying units) es) (stems_are units es))
      | inr other ↦ rw other (stems_are units es)
    ]

-- ---- where the private dict of a font dict is
abbrev Range : Type 0
Range = Option (ℕ × ℕ)

pub record IsPlaced (table : List ℕ) (p : Private) (start end : ℕ) : Type 0 where
  pub inside : end ≤ length table
  pub is : p.entries ≡ entries (take (end - start) (drop start table))

in_part : (dict : List ℕ) (o : Option (List (Option (List ℕ)))) (p : Private) → (o >>= λ subroutines. Some (record { entries = entries dict; subroutines = subroutines })) ≡ Some p → entries dict ≡ p.entries
in_part dict None p e = absurd (none-some p e)
in_part dict (Some s) p e = ap (λ (x : Private). x.entries) (same_Some _ _ e)

in_range : (table : List ℕ) (start end : ℕ) (p : Private) → start ≤ end → private_in table (start, end) ≡ Some p → IsPlaced table p start end
unfolding private_in
in_range table start end p order e =
    elim (cases_lt (length table) (start + (end - start))) [
      | inl lt ↦ absurd (none-some p (rw (lt-leb (start + (end - start)) (length table) lt) at e))
      | inr le ↦ (
          let there = rw (le-leb (start + (end - start)) (length table) le) at e in
          record { inside = omega (arith, order, le); is = sym (in_part (take (end - start) (drop start table)) (local_subroutines (drop start table) (entries (take (end - start) (drop start table)))) p there) })
    ]

by_operands : (table : List ℕ) (o : Option (List Number)) (start end : ℕ) (p : Private) → (o >>= range_operands) ≡ Some (start, end) → private_by table o ≡ Some p → private_in table (start, end) ≡ Some p
by_operands table None start end p e is = absurd (none-some _ e)
by_operands table (Some xs) start end p e is = rw e at is

no_operands : (table : List ℕ) (o : Option (List Number)) (p : Private) → (o >>= range_operands) ≡ None → private_by table o ≡ Some p → p.entries ≡ []
no_operands table None p e is = ap (λ (x : Private). x.entries) (sym (same_Some _ _ is))
no_operands table (Some xs) p e is = absurd (none-some p (rw e at is))

pub placed : (table : List ℕ) (es : List Entry) (f : FontDict) (start end : ℕ) → IsFontDictIn table es f → Some (start, end) ≡ last_range private_operator es → start ≤ end → IsPlaced table (private_view f.private) start end
unfolding private_at
placed table es f start end is e order = in_range table start end (private_view f.private) order (by_operands table (last_of private_operator es) start end (private_view f.private) (sym e) is.private)

pub unplaced : (table : List ℕ) (es : List Entry) (f : FontDict) → IsFontDictIn table es f → None ≡ last_range private_operator es → (private_view f.private).entries ≡ []
unfolding private_at
unplaced table es f is e = no_operands table (last_of private_operator es) (private_view f.private) (sym e) is.private

-- ---- one of the font dicts
pub one_of : (table : List ℕ) (ds : List (List ℕ)) (fs : List FontDict) (i : ℕ) (f : FontDict) → AreFontDicts table ds fs → slice_get fs i ≡ Some f → IsDictIn table f
one_of table [] [] i f are e = absurd (none-some f e)
one_of table (d ∷ ds) (g ∷ fs) zero f are e = (d, subst (λ (x : FontDict). IsFontDictIn table (entries d) x) (same_Some g f e) are.0)
one_of table (d ∷ ds) (g ∷ fs) (suc i) f are e = one_of table ds fs i f are.1 e
one_of table [] (g ∷ fs) i f are e = absurd are
one_of table (d ∷ ds) [] i f are e = absurd are
