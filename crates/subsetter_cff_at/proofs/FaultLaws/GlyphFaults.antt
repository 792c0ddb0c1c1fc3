-- What is refused of a requested glyph has a fault of that name.
use Rattle.std.proofs.Common.{◌≡◌, ℕ, zero, suc, ◌+◌, ◌<◌, pos, Bool, true, eqb, ltb, get_or, List, [], ◌∷◌, length, Option, Some, None, refl, ap, arith, ◌∙◌, sym, subst, inl, inr}
use Rattle.std.specs.Prelude.{nat_lt, slice_get, Result, Ok, Err}
use Rattle.std.specs.List.{filter, range_with_len}
use Rattle.std.specs.Option.{ok_or}
use Rattle.std.proofs.lemmas.Bool.{cases_Bool, eqb-true, ltb-false}
use Rattle.std.proofs.lemmas.Option.{none-some, same_Some, slice_get_within, slice_get-get_or}
use Rattle.subsetter_base.specs.Bytes.{◌>>=◌}
use Rattle.subsetter_base.specs.declared.error.Error.{Error}
use Rattle.subsetter_base.specs.declared.error.Error.TheVariants.{MalformedFont, OverflowError}
use Rattle.subsetter_base.specs.Indexes.{is_listed}
use Rattle.subsetter_cff.proofs.ReadLaws.Refusals.{bind_err, none_of, failed}
use Rattle.subsetter_cff.proofs.ReadLaws.Results.{bind_ok, same_Ok, some_of}
use Rattle.subsetter_cff2.specs.Cff2.{Cff2}
use Rattle.subsetter_cff2.specs.Made2.{NewDict, new_dict, new_dicts}
use Rattle.subsetter_cff2.specs.PrivateDicts.Private2.{font_dict_number, private_numbered, char_string}
use Rattle.subsetter_cff2.specs.PrivateDicts.PrivateText.{private_text}
use Rattle.subsetter_cff2.specs.Selection.UsedDicts.{counted_dicts, used_dicts}
use Rattle.subsetter_cff2.specs.Variation.{Variation}
use Rattle.subsetter_cff2.proofs.MadeFits.{new_dict_is_placed}
use Rattle.subsetter_cff_at.specs.Fault.{HasGlyphFault, no_number, no_font_dict, no_private, bad_private, no_char_string, stops, wide_advance}
use Rattle.subsetter_cff_at.specs.Plain.{dict_bound, dict_number, number_if, numbers_from, present, glyph_text, placed_text, text_if, texts_from, setting}
use Rattle.subsetter_cff_at.proofs.Found.{number_here, length-numbers, numbered, few_used}
use Rattle.subsetter_cff_at.proofs.FaultLaws.PrivateFaults.{private_refused}
use Rattle.subsetter_cff_at.proofs.FaultLaws.RunFaults.{charstring_refused}

-- ---- a requested glyph
pub number_refused : (cff : Cff2) (v : Option Variation) (tokens depth glyph advance : ℕ) (e : Error) → dict_number cff glyph ≡ Err e → HasGlyphFault cff v tokens depth glyph advance e
unfolding dict_number
number_refused cff v tokens depth glyph advance e h =
    let F = HasGlyphFault cff v tokens depth glyph advance in
    elim (bind_err (ok_or (font_dict_number cff glyph) MalformedFont) _ e h) [
      | inl a ↦ (let n = none_of (font_dict_number cff glyph) MalformedFont e a in subst F n.1 (no_number n.0))
      | inr a ↦ elim (failed (nat_lt a.0 (dict_bound cff)) MalformedFont e _ a.1.1) [
        | inl over ↦ subst F over.1 (no_font_dict a.0 (some_of (font_dict_number cff glyph) MalformedFont a.0 a.1.0) (ltb-false a.0 (dict_bound cff) over.0))
        | inr more ↦ absurd (let bad : ◌≡◌ {A = Result ℕ Error} (Ok a.0) (Err e) = more.1 in cc)
      ]
    ]

pub dict_refused : (cff : Cff2) (v : Option Variation) (tokens depth glyph advance number : ℕ) (e : Error) → font_dict_number cff glyph ≡ Some number → new_dict cff v number ≡ Err e → HasGlyphFault cff v tokens depth glyph advance e
unfolding new_dict
dict_refused cff v tokens depth glyph advance number e is h =
    let F = HasGlyphFault cff v tokens depth glyph advance in
    elim (bind_err (ok_or (private_numbered cff number) MalformedFont) _ e h) [
      | inl a ↦ (let n = none_of (private_numbered cff number) MalformedFont e a in subst F n.1 (no_private number is n.0))
      | inr a ↦ elim (bind_err (private_text v a.0.dict) _ e a.1.1) [
        | inl b ↦ bad_private number a.0 e is (some_of (private_numbered cff number) MalformedFont a.0 a.1.0) (private_refused v a.0.dict e b)
        | inr b ↦ absurd cc
      ]
    ]

-- a refused glyph of a list
pub record RefusedAt (glyphs : List (Option ℕ)) (F : ℕ → ℕ → Type 0) : Type 0 where
  pub glyph : ℕ
  pub advance : ℕ
  pub is : slice_get glyphs glyph ≡ Some (Some advance)
  pub fault : F glyph advance

later : (a : Option ℕ) (glyphs : List (Option ℕ)) (F G : ℕ → ℕ → Type 0) → ((i advance : ℕ) → F i advance → G (suc i) advance) → RefusedAt glyphs F → RefusedAt (a ∷ glyphs) G
later a glyphs F G f r = record { glyph = suc r.glyph; advance = r.advance; is = r.is; fault = f r.glyph r.advance r.fault }

pub numbers_refused : (cff : Cff2) (glyph : ℕ) (glyphs : List (Option ℕ)) (e : Error) → numbers_from cff glyph glyphs ≡ Err e → RefusedAt glyphs (λ i advance. dict_number cff (glyph + i) ≡ Err e)
numbers_refused cff glyph [] e h = absurd cc
numbers_refused cff glyph (None ∷ glyphs) e h =
    elim (bind_err (numbers_from cff (glyph + 1) glyphs) (λ rest. Ok (None ∷ rest)) e h) [
      | inl a ↦ later None glyphs _ _ (λ i advance f. ap (dict_number cff) (let z : glyph + suc i ≡ glyph + 1 + i = omega arith in z) ∙ f) (numbers_refused cff (glyph + 1) glyphs e a)
      | inr a ↦ absurd cc
    ]
numbers_refused cff glyph (Some advance ∷ glyphs) e h =
    elim (bind_err (number_if cff glyph (Some advance)) _ e h) [
      | inl a ↦ elim (bind_err (dict_number cff glyph) (λ n. Ok (Some n)) e a) [
        | inl b ↦ record { glyph = 0; advance = advance; is = refl; fault = ap (dict_number cff) (let z : glyph + 0 ≡ glyph = omega arith in z) ∙ b }
        | inr b ↦ absurd cc
      ]
      | inr a ↦ elim (bind_err (numbers_from cff (glyph + 1) glyphs) _ e a.1.1) [
        | inl b ↦ later (Some advance) glyphs _ _ (λ i more f. ap (dict_number cff) (let z : glyph + suc i ≡ glyph + 1 + i = omega arith in z) ∙ f) (numbers_refused cff (glyph + 1) glyphs e b)
        | inr b ↦ absurd cc
      ]
    ]

pub record DictRefused (cff : Cff2) (v : Option Variation) (ns : List ℕ) (e : Error) : Type 0 where
  pub at : ℕ
  pub number : ℕ
  pub is : slice_get ns at ≡ Some number
  pub refused : new_dict cff v number ≡ Err e

pub dicts_refused : (cff : Cff2) (v : Option Variation) (ns : List ℕ) (e : Error) → new_dicts cff v ns ≡ Err e → DictRefused cff v ns e
dicts_refused cff v [] e h = absurd cc
dicts_refused cff v (n ∷ ns) e h =
    elim (bind_err (new_dict cff v n) _ e h) [
      | inl a ↦ record { at = 0; number = n; is = refl; refused = a }
      | inr a ↦ elim (bind_err (new_dicts cff v ns) _ e a.1.1) [
        | inl b ↦ (let more = dicts_refused cff v ns e b in record { at = suc more.at; number = more.number; is = more.is; refused = more.refused })
        | inr b ↦ absurd cc
      ]
    ]

-- a used number is that of a requested glyph
first_or_later : (p : ℕ → Bool) (k x : ℕ) (more : List ℕ) (i : ℕ) → p k ≡ true → ((j : ℕ) → slice_get more j ≡ Some x → p x ≡ true) → slice_get (k ∷ more) i ≡ Some x → p x ≡ true
first_or_later p k x more zero holds ih at = ap p (sym (same_Some k x at)) ∙ holds
first_or_later p k x more (suc i) holds ih at = ih i at

filter_at : (p : ℕ → Bool) (k n i x : ℕ) → slice_get (filter p (range_with_len k n)) i ≡ Some x → p x ≡ true
filter_at p k zero i x at = absurd (none-some x at)
filter_at p k (suc n) i x at =
    elim (cases_Bool (p k)) [
      | inl holds ↦ first_or_later p k x (filter p (range_with_len (k + 1) n)) i holds (λ j. filter_at p (k + 1) n j x) (rw holds at at)
      | inr misses ↦ filter_at p (k + 1) n i x (rw misses at at)
    ]

record PresentAt (numbers : List (Option ℕ)) (n : ℕ) : Type 0 where
  index : ℕ
  is : slice_get numbers index ≡ Some (Some n)

present_later : (one : Option ℕ) (numbers : List (Option ℕ)) (n : ℕ) → PresentAt numbers n → PresentAt (one ∷ numbers) n
present_later one numbers n p = record { index = suc p.index; is = p.is }

present_at : (numbers : List (Option ℕ)) (n : ℕ) → is_listed (present numbers) n ≡ true → PresentAt numbers n
present_at [] n e = absurd cc
present_at (None ∷ numbers) n e = present_later None numbers n (present_at numbers n e)
present_at (Some m ∷ numbers) n e =
    elim (cases_Bool (eqb m n)) [
      | inl same ↦ record { index = 0; is = ap (λ (k : ℕ). Some (Some k)) (eqb-true m n same) }
      | inr other ↦ present_later (Some m) numbers n (present_at numbers n (rw other at e))
    ]

used_in : (bound : ℕ) (numbers : List (Option ℕ)) (used : List ℕ) (i n : ℕ) → counted_dicts bound (present numbers) ≡ Ok used → slice_get used i ≡ Some n → PresentAt numbers n
unfolding used_dicts
used_in bound numbers used i n e at =
    present_at numbers n (filter_at (is_listed (present numbers)) 0 bound i n (ap (λ (l : List ℕ). slice_get l i) (sym (few_used bound (present numbers) used e).0) ∙ at))

requested_by : (cff : Cff2) (glyph n : ℕ) (a : Option ℕ) → number_if cff glyph a ≡ Ok (Some n) → (advance : ℕ) × ((a ≡ Some advance) × (dict_number cff glyph ≡ Ok n))
requested_by cff glyph n None e = absurd (let bad : ◌≡◌ {A = Result (Option ℕ) Error} (Ok None) (Ok (Some n)) = e in cc)
requested_by cff glyph n (Some advance) e =
    let a = bind_ok (dict_number cff glyph) (λ m. Ok (Some m)) (Some n) e in
    (advance, (refl, a.1.0 ∙ ap Ok (same_Some _ _ (same_Ok _ _ a.1.1))))

pub record UserOf (cff : Cff2) (glyphs : List (Option ℕ)) (n : ℕ) : Type 0 where
  pub glyph : ℕ
  pub advance : ℕ
  pub is : slice_get glyphs glyph ≡ Some (Some advance)
  pub number_is : font_dict_number cff glyph ≡ Some n

pub user_of : (cff : Cff2) (glyphs numbers : List (Option ℕ)) (used : List ℕ) (i n : ℕ) → numbers_from cff 0 glyphs ≡ Ok numbers → counted_dicts (dict_bound cff) (present numbers) ≡ Ok used → slice_get used i ≡ Some n → UserOf cff glyphs n
user_of cff glyphs numbers used i n are counted at =
    let p = used_in (dict_bound cff) numbers used i n counted at in
    let lt : p.index < length glyphs = omega (arith, slice_get_within numbers p.index (Some n) p.is, length-numbers cff 0 glyphs numbers are) in
    let there = slice_get-get_or glyphs p.index None lt in
    let a = number_here cff glyphs p.index (get_or glyphs p.index None) numbers are there in
    let same : a.number ≡ Some n = same_Some _ _ (sym a.at ∙ p.is) in
    let b = requested_by cff p.index n (get_or glyphs p.index None) (a.is ∙ ap Ok same) in
    record { glyph = p.index; advance = b.0; is = there ∙ ap Some b.1.0; number_is = (numbered cff p.index n b.1.1).0 }

-- ---- charstrings
pub record TextRefused (cff : Cff2) (v : Option Variation) (tokens depth : ℕ) (dicts : List NewDict) (places : List ℕ) (e : Error) (i glyph advance : ℕ) : Type 0 where
  pub index : ℕ
  pub place_at : slice_get places i ≡ Some index
  pub refused : placed_text cff v tokens depth dicts index glyph advance ≡ Err e

module _ (cff : Cff2) (v : Option Variation) (tokens depth : ℕ) (dicts : List NewDict) (e : Error) where
  text_later : (p : ℕ) (places : List ℕ) (glyph i advance : ℕ) → TextRefused cff v tokens depth dicts places e i (glyph + 1 + i) advance → TextRefused cff v tokens depth dicts (p ∷ places) e (suc i) (glyph + suc i) advance
  text_later p places glyph i advance t = record {
    index = t.index;
    place_at = t.place_at;
    refused = ap (λ (n : ℕ). placed_text cff v tokens depth dicts t.index n advance) (let z : glyph + suc i ≡ glyph + 1 + i = omega arith in z) ∙ t.refused;
  }

  pub texts_refused : (places : List ℕ) (glyph : ℕ) (glyphs : List (Option ℕ)) → texts_from cff v tokens depth dicts places glyph glyphs ≡ Err e → RefusedAt glyphs (λ i advance. TextRefused cff v tokens depth dicts places e i (glyph + i) advance)
  texts_refused places glyph [] h = absurd cc
  texts_refused [] glyph (a ∷ glyphs) h = absurd cc
  texts_refused (p ∷ places) glyph (None ∷ glyphs) h =
      elim (bind_err (texts_from cff v tokens depth dicts places (glyph + 1) glyphs) (λ rest. Ok (None ∷ rest)) e h) [
        | inl a ↦ later None glyphs _ _ (text_later p places glyph) (texts_refused places (glyph + 1) glyphs a)
        | inr a ↦ absurd cc
      ]
  texts_refused (p ∷ places) glyph (Some advance ∷ glyphs) h =
      elim (bind_err (text_if cff v tokens depth dicts p glyph (Some advance)) _ e h) [
        | inl a ↦ elim (bind_err (placed_text cff v tokens depth dicts p glyph advance) (λ text. Ok (Some text)) e a) [
          | inl b ↦ record {
            glyph = 0;
            advance = advance;
            is = refl;
            fault = record { index = p; place_at = refl; refused = ap (λ (n : ℕ). placed_text cff v tokens depth dicts p n advance) (let z : glyph + 0 ≡ glyph = omega arith in z) ∙ b };
          }
          | inr b ↦ absurd cc
        ]
        | inr a ↦ elim (bind_err (texts_from cff v tokens depth dicts places (glyph + 1) glyphs) _ e a.1.1) [
          | inl b ↦ later (Some advance) glyphs _ _ (text_later p places glyph) (texts_refused places (glyph + 1) glyphs b)
          | inr b ↦ absurd cc
        ]
      ]

pub in_dicts : (cff : Cff2) (v : Option Variation) (tokens depth : ℕ) (dicts : List NewDict) (place glyph advance : ℕ) (dict : NewDict) (e : Error) → slice_get dicts place ≡ Some dict → placed_text cff v tokens depth dicts place glyph advance ≡ Err e
    → glyph_text cff v tokens depth dict glyph advance ≡ Err e
unfolding placed_text
in_dicts cff v tokens depth dicts place glyph advance dict e at h = rw at at h

pub text_refused : (cff : Cff2) (v : Option Variation) (tokens depth glyph advance number : ℕ) (dict : NewDict) (e : Error) → font_dict_number cff glyph ≡ Some number → new_dict cff v number ≡ Ok dict → glyph_text cff v tokens depth dict glyph advance ≡ Err e
    → HasGlyphFault cff v tokens depth glyph advance e
unfolding glyph_text
text_refused cff v tokens depth glyph advance number dict e is made h =
    let F = HasGlyphFault cff v tokens depth glyph advance in
    elim (failed (nat_lt advance 32768) OverflowError e _ h) [
      | inl over ↦ subst F over.1 (wide_advance (omega (arith, ltb-false advance 32768 over.0)))
      | inr a ↦ elim (bind_err (ok_or (char_string cff glyph) MalformedFont) _ e a.1) [
        | inl b ↦ (let n = none_of (char_string cff glyph) MalformedFont e b in subst F n.1 (no_char_string n.0))
        | inr b ↦ (
            let p = new_dict_is_placed cff v number dict made in
            stops number p.source p.at_location b.0 e is p.source_is p.at_location_is (some_of (char_string cff glyph) MalformedFont b.0 b.1.0)
            (charstring_refused (setting cff v p.source.subroutines) tokens depth p.at_location.data_index (pos advance) b.0 e (rw (← p.subroutines_are, ← p.data_index_is) b.1.1))
            )
      ]
    ]
