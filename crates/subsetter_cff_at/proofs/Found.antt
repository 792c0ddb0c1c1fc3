-- What was found of each glyph.
use Rattle.std.proofs.Common.{◌≡◌, ℕ, zero, suc, ◌+◌, ◌<◌, ◌≤◌, Bool, true, false, eqb, ◌||◌, List, [], ◌∷◌, length, map, Option, Some, None, refl, ap, arith, ◌∙◌, sym, subst, inl, inr}
use Rattle.std.specs.Prelude.{is_some, slice_get, unwrap_or, Ok}
use Rattle.std.specs.List.{AllByRecursion, filter, list_any, range_with_len}
use Rattle.std.specs.Option.{ok_or}
use Rattle.std.proofs.lemmas.Bool.{cases_Bool, cases_eq, eq-eqb, ltb-true}
use Rattle.std.proofs.lemmas.Option.{none-some, same_Some, slice_get_within}
use Rattle.subsetter_base.specs.Bytes.{◌>>=◌}
use Rattle.subsetter_base.specs.Indexes.{index_of, is_listed}
use Rattle.subsetter_base.specs.declared.error.Error.TheVariants.{MalformedFont, OverflowError}
use Rattle.subsetter_cff.proofs.ReadLaws.Results.{bind_ok, same_Ok, some_of, passed, In, in_head, in_tail, number_there}
use Rattle.subsetter_cff2.specs.Cff2.{Cff2}
use Rattle.subsetter_cff2.specs.Made2.{NewDict, new_dict, new_dicts}
use Rattle.subsetter_cff2.specs.PrivateDicts.Private2.{font_dict_number}
use Rattle.subsetter_cff2.specs.Selection.UsedDicts.{used_dicts, counted_dicts, index_in}
use Rattle.subsetter_cff2.specs.Variation.{Variation}
use Rattle.subsetter_cff_at.specs.Plain.{dict_bound, dict_number, number_if, numbers_from, with_number, present, text_if, texts_from, some_requested}

-- ---- the numbers of font dicts
pub record NumberAt (cff : Cff2) (glyph : ℕ) (a : Option ℕ) (numbers : List (Option ℕ)) (i : ℕ) : Type 0 where
  pub number : Option ℕ
  pub at : slice_get numbers i ≡ Some number
  pub is : number_if cff glyph a ≡ Ok number

pub record NumberSteps (cff : Cff2) (glyph : ℕ) (a : Option ℕ) (more : List (Option ℕ)) (numbers : List (Option ℕ)) : Type 0 where
  pub first : Option ℕ
  pub first_is : number_if cff glyph a ≡ Ok first
  pub rest : List (Option ℕ)
  pub rest_are : numbers_from cff (glyph + 1) more ≡ Ok rest
  pub same : first ∷ rest ≡ numbers

pub number_steps : (cff : Cff2) (glyph : ℕ) (a : Option ℕ) (more numbers : List (Option ℕ)) → numbers_from cff glyph (a ∷ more) ≡ Ok numbers → NumberSteps cff glyph a more numbers
number_steps cff glyph a more numbers e =
    let s = bind_ok (number_if cff glyph a) (λ first. numbers_from cff (glyph + 1) more >>= λ rest. Ok (first ∷ rest)) numbers e in
    let t = bind_ok (numbers_from cff (glyph + 1) more) (λ rest. Ok (s.0 ∷ rest)) numbers s.1.1 in
    record { first = s.0; first_is = s.1.0; rest = t.0; rest_are = t.1.0; same = same_Ok _ _ t.1.1 }

pub number_at : (cff : Cff2) (glyph : ℕ) (glyphs : List (Option ℕ)) (i : ℕ) (a : Option ℕ) (numbers : List (Option ℕ)) → numbers_from cff glyph glyphs ≡ Ok numbers → slice_get glyphs i ≡ Some a
    → NumberAt cff (glyph + i) a numbers i
number_at cff glyph [] i a numbers e at = absurd (none-some a at)
number_at cff glyph (b ∷ glyphs) zero a numbers e at =
    let s = number_steps cff glyph b glyphs numbers e in
    record {
      number = s.first;
      at = ap (λ (l : List (Option ℕ)). slice_get l 0) (sym s.same);
      is = ap (λ (n : ℕ). number_if cff n a) (let z : glyph + 0 ≡ glyph = omega arith in z) ∙ ap (number_if cff glyph) (sym (same_Some b a at)) ∙ s.first_is;
    }
number_at cff glyph (b ∷ glyphs) (suc i) a numbers e at =
    let s = number_steps cff glyph b glyphs numbers e in
    let more = number_at cff (glyph + 1) glyphs i a s.rest s.rest_are at in
    record {
      number = more.number;
      at = ap (λ (l : List (Option ℕ)). slice_get l (suc i)) (sym s.same) ∙ more.at;
      is = ap (λ (n : ℕ). number_if cff n a) (let z : glyph + suc i ≡ glyph + 1 + i = omega arith in z) ∙ more.is;
    }

pub number_here : (cff : Cff2) (glyphs : List (Option ℕ)) (i : ℕ) (a : Option ℕ) (numbers : List (Option ℕ)) → numbers_from cff 0 glyphs ≡ Ok numbers → slice_get glyphs i ≡ Some a → NumberAt cff i a numbers i
number_here cff glyphs i a numbers e at = subst (λ (n : ℕ). NumberAt cff n a numbers i) (let z : 0 + i ≡ i = omega arith in z) (number_at cff 0 glyphs i a numbers e at)

pub length-numbers : (cff : Cff2) (glyph : ℕ) (glyphs numbers : List (Option ℕ)) → numbers_from cff glyph glyphs ≡ Ok numbers → length numbers ≡ length glyphs
length-numbers cff glyph [] numbers e = ap length (sym (same_Ok _ _ e))
length-numbers cff glyph (b ∷ glyphs) numbers e =
    let s = number_steps cff glyph b glyphs numbers e in
    ap length (sym s.same) ∙ ap suc (length-numbers cff (glyph + 1) glyphs s.rest s.rest_are)

-- of a requested glyph
pub record HasNumber (cff : Cff2) (glyph : ℕ) (number : Option ℕ) : Type 0 where
  pub value : ℕ
  pub is : number ≡ Some value
  pub found : font_dict_number cff glyph ≡ Some value
  pub below : value < dict_bound cff

pub numbered : (cff : Cff2) (glyph value : ℕ) → dict_number cff glyph ≡ Ok value → (font_dict_number cff glyph ≡ Some value) × (value < dict_bound cff)
unfolding dict_number
numbered cff glyph value e =
    let a = bind_ok (ok_or (font_dict_number cff glyph) MalformedFont) _ value e in
    let b = passed _ MalformedFont (Ok a.0) value a.1.1 in
    let same : a.0 ≡ value = same_Ok _ _ b.1 in
    (some_of (font_dict_number cff glyph) MalformedFont a.0 a.1.0 ∙ ap Some same, subst (λ (n : ℕ). n < dict_bound cff) same (ltb-true a.0 (dict_bound cff) b.0))

pub has_number : (cff : Cff2) (glyph advance : ℕ) (number : Option ℕ) → number_if cff glyph (Some advance) ≡ Ok number → HasNumber cff glyph number
has_number cff glyph advance number e =
    let a = bind_ok (dict_number cff glyph) (λ n. Ok (Some n)) number e in
    let b = numbered cff glyph a.0 a.1.0 in
    record { value = a.0; is = sym (same_Ok _ _ a.1.1); found = b.0; below = b.1 }

-- ---- charstrings
pub record TextAt (cff : Cff2) (v : Option Variation) (tokens depth : ℕ) (dicts : List NewDict) (places : List ℕ) (glyph : ℕ) (a : Option ℕ) (texts : List (Option (List ℕ))) (i : ℕ) : Type 0 where
  pub index : ℕ
  pub place_at : slice_get places i ≡ Some index
  pub text : Option (List ℕ)
  pub at : slice_get texts i ≡ Some text
  pub is : text_if cff v tokens depth dicts index glyph a ≡ Ok text

module _ (cff : Cff2) (v : Option Variation) (tokens depth : ℕ) (dicts : List NewDict) where
  pub record TextSteps (index_of : ℕ) (places : List ℕ) (glyph : ℕ) (a : Option ℕ) (more : List (Option ℕ)) (texts : List (Option (List ℕ))) : Type 0 where
    pub first : Option (List ℕ)
    pub first_is : text_if cff v tokens depth dicts index_of glyph a ≡ Ok first
    pub rest : List (Option (List ℕ))
    pub rest_are : texts_from cff v tokens depth dicts places (glyph + 1) more ≡ Ok rest
    pub same : first ∷ rest ≡ texts

  pub text_steps : (index_of : ℕ) (places : List ℕ) (glyph : ℕ) (a : Option ℕ) (more : List (Option ℕ)) (texts : List (Option (List ℕ))) → texts_from cff v tokens depth dicts (index_of ∷ places) glyph (a ∷ more) ≡ Ok texts
      → TextSteps index_of places glyph a more texts
  text_steps index_of places glyph a more texts e =
      let s = bind_ok (text_if cff v tokens depth dicts index_of glyph a) (λ first. texts_from cff v tokens depth dicts places (glyph + 1) more >>= λ rest. Ok (first ∷ rest)) texts e in
      let t = bind_ok (texts_from cff v tokens depth dicts places (glyph + 1) more) (λ rest. Ok (s.0 ∷ rest)) texts s.1.1 in
      record { first = s.0; first_is = s.1.0; rest = t.0; rest_are = t.1.0; same = same_Ok _ _ t.1.1 }

  pub text_at : (places : List ℕ) (glyph : ℕ) (glyphs : List (Option ℕ)) (i : ℕ) (a : Option ℕ) (texts : List (Option (List ℕ))) → texts_from cff v tokens depth dicts places glyph glyphs ≡ Ok texts
      → length places ≡ length glyphs → slice_get glyphs i ≡ Some a → TextAt cff v tokens depth dicts places (glyph + i) a texts i
  text_at places glyph [] i a texts e len at = absurd (none-some a at)
  text_at [] glyph (b ∷ glyphs) i a texts e len at = absurd (omega (arith, len))
  text_at (p ∷ places) glyph (b ∷ glyphs) zero a texts e len at =
      let s = text_steps p places glyph b glyphs texts e in
      record {
        index = p;
        place_at = refl;
        text = s.first;
        at = ap (λ (l : List (Option (List ℕ))). slice_get l 0) (sym s.same);
        is = ap (λ (n : ℕ). text_if cff v tokens depth dicts p n a) (let z : glyph + 0 ≡ glyph = omega arith in z) ∙ ap (text_if cff v tokens depth dicts p glyph) (sym (same_Some b a at)) ∙ s.first_is;
      }
  text_at (p ∷ places) glyph (b ∷ glyphs) (suc i) a texts e len at =
      let s = text_steps p places glyph b glyphs texts e in
      let more = text_at places (glyph + 1) glyphs i a s.rest s.rest_are (omega (arith, len)) at in
      record {
        index = more.index;
        place_at = more.place_at;
        text = more.text;
        at = ap (λ (l : List (Option (List ℕ))). slice_get l (suc i)) (sym s.same) ∙ more.at;
        is = ap (λ (n : ℕ). text_if cff v tokens depth dicts more.index n a) (let z : glyph + suc i ≡ glyph + 1 + i = omega arith in z) ∙ more.is;
      }

  pub text_here : (places : List ℕ) (glyphs : List (Option ℕ)) (i : ℕ) (a : Option ℕ) (texts : List (Option (List ℕ))) → texts_from cff v tokens depth dicts places 0 glyphs ≡ Ok texts
      → length places ≡ length glyphs → slice_get glyphs i ≡ Some a → TextAt cff v tokens depth dicts places i a texts i
  text_here places glyphs i a texts e len at = subst (λ (n : ℕ). TextAt cff v tokens depth dicts places n a texts i) (let z : 0 + i ≡ i = omega arith in z) (text_at places 0 glyphs i a texts e len at)

  pub length-texts : (places : List ℕ) (glyph : ℕ) (glyphs : List (Option ℕ)) (texts : List (Option (List ℕ))) → texts_from cff v tokens depth dicts places glyph glyphs ≡ Ok texts → length places ≡ length glyphs → length texts ≡ length glyphs
  length-texts places glyph [] texts e len = ap length (sym (same_Ok _ _ e))
  length-texts [] glyph (b ∷ glyphs) texts e len = absurd (omega (arith, len))
  length-texts (p ∷ places) glyph (b ∷ glyphs) texts e len =
      let s = text_steps p places glyph b glyphs texts e in
      ap length (sym s.same) ∙ ap suc (length-texts places (glyph + 1) glyphs s.rest s.rest_are (omega (arith, len)))

-- ---- private dicts
pub record DictAt (cff : Cff2) (v : Option Variation) (number : ℕ) (dicts : List NewDict) (i : ℕ) : Type 0 where
  pub dict : NewDict
  pub at : slice_get dicts i ≡ Some dict
  pub is : new_dict cff v number ≡ Ok dict

pub record DictSteps (cff : Cff2) (v : Option Variation) (n : ℕ) (ns : List ℕ) (dicts : List NewDict) : Type 0 where
  pub first : NewDict
  pub first_is : new_dict cff v n ≡ Ok first
  pub rest : List NewDict
  pub rest_are : new_dicts cff v ns ≡ Ok rest
  pub same : first ∷ rest ≡ dicts

pub dict_steps : (cff : Cff2) (v : Option Variation) (n : ℕ) (ns : List ℕ) (dicts : List NewDict) → new_dicts cff v (n ∷ ns) ≡ Ok dicts → DictSteps cff v n ns dicts
dict_steps cff v n ns dicts e =
    let s = bind_ok (new_dict cff v n) (λ first. new_dicts cff v ns >>= λ rest. Ok (first ∷ rest)) dicts e in
    let t = bind_ok (new_dicts cff v ns) (λ rest. Ok (s.0 ∷ rest)) dicts s.1.1 in
    record { first = s.0; first_is = s.1.0; rest = t.0; rest_are = t.1.0; same = same_Ok _ _ t.1.1 }

pub dict_at : (cff : Cff2) (v : Option Variation) (ns : List ℕ) (dicts : List NewDict) (i n : ℕ) → new_dicts cff v ns ≡ Ok dicts → slice_get ns i ≡ Some n → DictAt cff v n dicts i
dict_at cff v [] dicts i n e at = absurd (none-some n at)
dict_at cff v (m ∷ ns) dicts zero n e at =
    let s = dict_steps cff v m ns dicts e in
    record { dict = s.first; at = ap (λ (l : List NewDict). slice_get l 0) (sym s.same); is = ap (new_dict cff v) (sym (same_Some m n at)) ∙ s.first_is }
dict_at cff v (m ∷ ns) dicts (suc i) n e at =
    let s = dict_steps cff v m ns dicts e in
    let more = dict_at cff v ns s.rest i n s.rest_are at in
    record { dict = more.dict; at = ap (λ (l : List NewDict). slice_get l (suc i)) (sym s.same) ∙ more.at; is = more.is }

pub length-dicts : (cff : Cff2) (v : Option Variation) (ns : List ℕ) (dicts : List NewDict) → new_dicts cff v ns ≡ Ok dicts → length dicts ≡ length ns
length-dicts cff v [] dicts e = ap length (sym (same_Ok _ _ e))
length-dicts cff v (n ∷ ns) dicts e =
    let s = dict_steps cff v n ns dicts e in
    ap length (sym s.same) ∙ ap suc (length-dicts cff v ns s.rest s.rest_are)

-- ---- the used numbers
in_filter : (p : ℕ → Bool) (k n i : ℕ) → k ≤ i → i < k + n → p i ≡ true → In (filter p (range_with_len k n)) i
in_filter p k zero i low high is = absurd (omega arith)
in_filter p k (suc n) i low high is =
    elim (cases_eq i k) [
      | inl here ↦ rw (ap p (sym here) ∙ is) (subst (λ (m : ℕ). In (k ∷ filter p (range_with_len (k + 1) n)) m) (sym here) (in_head k (filter p (range_with_len (k + 1) n))))
      | inr other ↦ (
          let more = in_filter p (k + 1) n i (omega arith) (omega arith) is in
          elim (cases_Bool (p k)) [
            | inl holds ↦ rw holds (in_tail k (filter p (range_with_len (k + 1) n)) i more)
            | inr misses ↦ rw misses more
          ]
          )
    ]

pub in_used : (bound : ℕ) (numbers : List ℕ) (n : ℕ) → n < bound → is_listed numbers n ≡ true → In (used_dicts bound numbers) n
unfolding used_dicts
in_used bound numbers n below is = in_filter (is_listed numbers) 0 bound n (omega arith) (omega arith) is

or_after : (b : Bool) → (b || true) ≡ true
or_after true = refl
or_after false = refl

used_after : (one : Option ℕ) (ns : List ℕ) (n : ℕ) → is_listed ns n ≡ true → is_listed (with_number one ns) n ≡ true
used_after None ns n is = is
used_after (Some m) ns n is = rw is (or_after (eqb m n))

pub used_of : (numbers : List (Option ℕ)) (i n : ℕ) → slice_get numbers i ≡ Some (Some n) → is_listed (present numbers) n ≡ true
used_of [] i n at = absurd (none-some (Some n) at)
used_of (m ∷ numbers) zero n at = rw (same_Some m (Some n) at, eq-eqb n n refl) refl
used_of (m ∷ numbers) (suc i) n at = used_after m (present numbers) n (used_of numbers i n at)

-- at most 255 are
pub few_used : (bound : ℕ) (numbers used : List ℕ) → counted_dicts bound numbers ≡ Ok used → (used ≡ used_dicts bound numbers) × (length used < 256)
unfolding counted_dicts
few_used bound numbers used e =
    let a = passed _ OverflowError (Ok (used_dicts bound numbers)) used e in
    let same : used_dicts bound numbers ≡ used = same_Ok _ _ a.1 in
    (sym same, subst (λ (l : List ℕ). length l < 256) same (ltb-true (length (used_dicts bound numbers)) 256 a.0))

-- ---- a requested glyph
pub record RequestedAt (glyphs : List (Option ℕ)) : Type 0 where
  pub glyph : ℕ
  pub advance : ℕ
  pub is : slice_get glyphs glyph ≡ Some (Some advance)

requested_in : (glyphs : List (Option ℕ)) → list_any is_some glyphs ≡ true → RequestedAt glyphs
requested_in [] e = absurd cc
requested_in (Some advance ∷ glyphs) e = record { glyph = 0; advance = advance; is = refl }
requested_in (None ∷ glyphs) e = let more = requested_in glyphs e in record { glyph = suc more.glyph; advance = more.advance; is = more.is }

pub requested_at : (glyphs : List (Option ℕ)) → some_requested glyphs ≡ true → RequestedAt glyphs
unfolding some_requested
requested_at glyphs e = requested_in glyphs e

-- ---- places
inside_of : (used : List ℕ) (n : ℕ) (o : Option ℕ) → index_of used n ≡ o → 0 < length used → unwrap_or o 0 < length used
inside_of used n None e some = some
inside_of used n (Some i) e some = slice_get_within used i n (number_there used n i e)

pub all_inside : (used : List ℕ) (numbers : List (Option ℕ)) → 0 < length used → AllByRecursion (λ n. n < length used) (map (index_in used) numbers)
all_inside used [] some = tt
all_inside used (None ∷ numbers) some = (some, all_inside used numbers some)
all_inside used (Some n ∷ numbers) some = (inside_of used n (index_of used n) refl some, all_inside used numbers some)
