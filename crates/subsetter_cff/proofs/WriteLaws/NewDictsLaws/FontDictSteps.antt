-- The new font dicts that the plain functions answer, each made of a font dict of the source.
use Rattle.std.proofs.Common.{◌≡◌, ℕ, zero, suc, true, false, List, [], ◌∷◌, length, Option, Some, refl, ap, inl, inr, ◌∙◌, sym}
use Rattle.std.specs.Prelude.{slice_get, Ok}
use Rattle.std.specs.Option.{ok_or, option_and_then}
use Rattle.std.proofs.lemmas.Bool.{cases_Bool}
use Rattle.std.proofs.lemmas.Option.{none-some, same_Some}
use Rattle.subsetter_base.specs.Bytes.{◌>>=◌}
use Rattle.subsetter_base.specs.declared.error.Error.TheVariants.{MalformedFont, SubsetError, OverflowError}
use Rattle.subsetter_cffdata.specs.Numerals.Numbers.{Number}
use Rattle.subsetter_cffdata.specs.Dicts.Dict.{Entry}
use Rattle.subsetter_cff.specs.Read.Entries.Lookup.{last_of}
use Rattle.subsetter_cff.specs.Read.Strings.{FontString, string_at}
use Rattle.subsetter_cff.specs.Read.Cff.{Cff, is_cid_keyed}
use Rattle.subsetter_cff.specs.Read.FdArray.FontDicts.{font_dicts, font_dict_number, font_dict_of}
use Rattle.subsetter_cff.specs.Read.FdArray.Private.{Private, own_entries, private_at, private_of}
use Rattle.subsetter_cff.specs.Read.Entries.Matrices.{own_matrix, font_dict_name}
use Rattle.subsetter_cff.specs.Read.Entries.Operators.{font_name_operator, font_matrix_operator}
use Rattle.subsetter_cff.specs.Write.Laying.Layout.{FontDict}
use Rattle.subsetter_cff.specs.Write.Made.{new_matrix}
use Rattle.subsetter_cff.specs.Write.Plain.{source_number, SourceDict, as_source_dict, source_dict, new_font_dict, new_font_dicts}
use Rattle.subsetter_cffdata.proofs.Options.{step}
use Rattle.subsetter_cff.proofs.ReadLaws.Results.{bind_ok, same_Ok, some_of}

-- ---- the new font dicts, one by one
pub record DictAt (cff : Cff) (number : ℕ) (dicts : List FontDict) (j : ℕ) : Type 0 where
  pub one : FontDict
  pub at : slice_get dicts j ≡ Some one
  pub made : new_font_dict cff number ≡ Ok one

pub dict_steps : (cff : Cff) (n : ℕ) (ns : List ℕ) (dicts : List FontDict) → new_font_dicts cff (n ∷ ns) ≡ Ok dicts
    → (first : FontDict) × ((new_font_dict cff n ≡ Ok first) × ((rest : List FontDict) × ((new_font_dicts cff ns ≡ Ok rest) × (first ∷ rest ≡ dicts))))
dict_steps cff n ns dicts e =
    let s = bind_ok (new_font_dict cff n) (λ first. new_font_dicts cff ns >>= λ rest. Ok (first ∷ rest)) dicts e in
    let t = bind_ok (new_font_dicts cff ns) (λ rest. Ok (s.0 ∷ rest)) dicts s.1.1 in
    (s.0, (s.1.0, (t.0, (t.1.0, same_Ok _ _ t.1.1))))

pub dict_at : (cff : Cff) (ns : List ℕ) (dicts : List FontDict) (j n : ℕ) → new_font_dicts cff ns ≡ Ok dicts → slice_get ns j ≡ Some n → DictAt cff n dicts j
dict_at cff [] dicts j n e at = absurd (none-some n at)
dict_at cff (m ∷ ns) dicts zero n e at =
    let s = dict_steps cff m ns dicts e in
    record { one = s.0; at = ap (λ (ds : List FontDict). slice_get ds 0) (sym s.1.1.1.1); made = ap (new_font_dict cff) (sym (same_Some _ _ at)) ∙ s.1.0 }
dict_at cff (m ∷ ns) dicts (suc j) n e at =
    let s = dict_steps cff m ns dicts e in
    let more = dict_at cff ns s.1.1.0 j n s.1.1.1.0 at in
    record { one = more.one; at = ap (λ (ds : List FontDict). slice_get ds (suc j)) (sym s.1.1.1.1) ∙ more.at; made = more.made }

-- ---- the source's font dict of a number is that of the glyph
pub record Agrees (cff : Cff) (glyph : ℕ) (dict : SourceDict) : Type 0 where
  pub private_is : private_of cff glyph ≡ Some dict.private
  pub own_is : own_matrix cff glyph ≡ Some dict.own
  pub name_is : font_dict_name cff glyph ≡ dict.name

agrees_sid : (cff : Cff) (glyph number : ℕ) (dict : SourceDict) → is_cid_keyed cff ≡ false → source_dict cff number ≡ Some dict → Agrees cff glyph dict
unfolding private_of own_matrix font_dict_name
agrees_sid cff glyph number dict sid e =
    let same = same_Some _ _ (rw sid at e) in
    record { private_is = rw (sid, ← same) refl; own_is = rw (sid, ← same) refl; name_is = rw (sid, ← same) refl }

pub dict_of : (cff : Cff) (glyph number : ℕ) (dicts : List (List Entry)) (d : List Entry) → font_dict_number cff glyph ≡ Some number → font_dicts cff ≡ Some dicts → slice_get dicts number ≡ Some d → font_dict_of cff glyph ≡ Some d
unfolding font_dict_of
dict_of cff glyph number dicts d e f g = rw (e, f) g

of_dict : (cff : Cff) (glyph : ℕ) (d : List Entry) (private : Private) (dict : SourceDict) → is_cid_keyed cff ≡ true → font_dict_of cff glyph ≡ Some d → private_at cff.bytes d ≡ Some private
    → record { own = last_of font_matrix_operator d; private = private; name = string_at cff.strings font_name_operator d } ≡ dict → Agrees cff glyph dict
unfolding private_of own_matrix font_dict_name
of_dict cff glyph d private dict cid there e same = rw (← same) (record { private_is = rw (cid, there) e; own_is = rw (cid, there) refl; name_is = rw (cid, there) refl })

agrees_cid : (cff : Cff) (glyph number : ℕ) (dict : SourceDict) → is_cid_keyed cff ≡ true → font_dict_number cff glyph ≡ Some number → source_dict cff number ≡ Some dict → Agrees cff glyph dict
agrees_cid cff glyph number dict cid numbered e =
    let a = step (option_and_then (λ dicts. slice_get dicts number) (font_dicts cff)) (as_source_dict cff) dict (rw cid at e) in
    let b = step (font_dicts cff) (λ dicts. slice_get dicts number) a.0 a.1.0 in
    let c = step (private_at cff.bytes a.0) _ dict a.1.1 in
    of_dict cff glyph a.0 c.0 dict cid (dict_of cff glyph number b.0 a.0 numbered b.1.0 b.1.1) c.1.0 (same_Some _ _ c.1.1)

pub agrees : (cff : Cff) (glyph number : ℕ) (dict : SourceDict) → source_number cff glyph ≡ Some number → source_dict cff number ≡ Some dict → Agrees cff glyph dict
agrees cff glyph number dict numbered e =
    elim (cases_Bool (is_cid_keyed cff)) [
      | inl cid ↦ agrees_cid cff glyph number dict cid (rw cid at numbered) e
      | inr sid ↦ agrees_sid cff glyph number dict sid e
    ]

pub record DictSteps (cff : Cff) (number : ℕ) (f : FontDict) : Type 0 where
  pub dict : SourceDict
  pub dict_is : source_dict cff number ≡ Some dict
  pub name : dict.name ≡ Some f.name
  pub matrix : new_matrix (last_of font_matrix_operator cff.top) dict.own ≡ Some f.matrix
  pub private : f.private ≡ own_entries dict.private

made_dict : (cff : Cff) (number : ℕ) (f : FontDict) (dict : SourceDict) (name : Option FontString) (matrix : List Number) → source_dict cff number ≡ Some dict → dict.name ≡ Some name
    → new_matrix (last_of font_matrix_operator cff.top) dict.own ≡ Some matrix → record { matrix = matrix; private = own_entries dict.private; name = name } ≡ f → DictSteps cff number f
made_dict cff number f dict name matrix a b c same =
    record { dict = dict; dict_is = a; name = b ∙ ap (λ (g : FontDict). Some g.name) same; matrix = c ∙ ap (λ (g : FontDict). Some g.matrix) same; private = ap (λ (g : FontDict). g.private) (sym same) }

pub dict_made : (cff : Cff) (number : ℕ) (f : FontDict) → new_font_dict cff number ≡ Ok f → DictSteps cff number f
unfolding new_font_dict
dict_made cff number f e =
    let a = bind_ok (ok_or (source_dict cff number) MalformedFont) _ f e in
    let b = bind_ok (ok_or a.0.name SubsetError) _ f a.1.1 in
    let c = bind_ok (ok_or (new_matrix (last_of font_matrix_operator cff.top) a.0.own) OverflowError) _ f b.1.1 in
    made_dict cff number f a.0 b.0 c.0 (some_of (source_dict cff number) MalformedFont a.0 a.1.0) (some_of a.0.name SubsetError b.0 b.1.0)
    (some_of (new_matrix (last_of font_matrix_operator cff.top) a.0.own) OverflowError c.0 c.1.0) (same_Ok _ _ c.1.1)

-- as many as numbers
pub length-dicts : (cff : Cff) (ns : List ℕ) (dicts : List FontDict) → new_font_dicts cff ns ≡ Ok dicts → length dicts ≡ length ns
length-dicts cff [] dicts e = ap length (sym (same_Ok _ _ e))
length-dicts cff (n ∷ ns) dicts e = let s = dict_steps cff n ns dicts e in ap length (sym s.1.1.1.1) ∙ ap suc (length-dicts cff ns s.1.1.0 s.1.1.1.0)
