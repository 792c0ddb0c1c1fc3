-- Glyphs, one after the other.
use Rattle.std.proofs.Common.{◌≡◌, ℕ, ◌+◌, ◌-◌, ◌^◌, ◌≤◌, List, [], ◌∷◌, ◌++◌, length, Option, Some, None, refl, ap, arith, ◌∙◌, sym, append_assoc, length-append, inl, inr}
use Rattle.std.specs.Prelude.{min, Result, Ok, Err}
use Rattle.std.specs.List.{concat}
use Rattle.std.proofs.lemmas.List.{append-nil}
use Rattle.subsetter_base.specs.Bytes.{◌>>=◌}
use Rattle.subsetter_base.specs.Gives.{Fails}
use Rattle.subsetter_base.specs.Within.{FailsWithin}
use Rattle.subsetter_base.specs.declared.error.Error.{Error}
use Rattle.subsetter_base.specs.declared.error.Error.TheVariants.{UnknownKind, MalformedFont, Unimplemented, SubsetError, OverflowError, CFFError, OutOfMemory}
use Rattle.subsetter_cffdata.specs.Indexes.Index.{offsets}
use Rattle.subsetter_cff.proofs.ReadLaws.Failing.{fails_on}
use Rattle.subsetter_cff.proofs.ReadLaws.Results.{bind_ok, same_Ok}
use Rattle.subsetter_boxes.specs.CharstringBox.{charstring_box}
use Rattle.subsetter_points.specs.declared.bounds.Bounds.{Bounds}
use Rattle.subsetter_cff2.specs.Cff2.{Cff2}
use Rattle.subsetter_cff2.specs.Made2.{NewDict}
use Rattle.subsetter_cff2.specs.Variation.{Variation}
use Rattle.subsetter_cff_at.specs.Plain.{number_if, numbers_from, with_number, present, text_if, texts_from, filled, all_filled, text_boxes, text_size, texts_size}
use Rattle.subsetter_cff_at.specs.View.{AreTexts, IsPut, counted_with, with_texts, with_numbers}
use Rattle.subsetter_cff_at.specs.declared.texts.Texts.{Texts}

-- ---- the numbers of font dicts
pub none_numbered : (r : Result (List (Option ℕ)) Error) → with_numbers [] r ≡ r
none_numbered (Ok xs) = refl
none_numbered (Err e) = refl

number_moved : (front : List (Option ℕ)) (x : Option ℕ) (r : Result (List (Option ℕ)) Error) → with_numbers front (r >>= λ rest. Ok (x ∷ rest)) ≡ with_numbers (front ++ x ∷ []) r
number_moved front x (Ok xs) = ap (λ (l : List (Option ℕ)). Ok l) (sym (append_assoc front (x ∷ []) xs))
number_moved front x (Err e) = refl

pub next_number : (cff : Cff2) (glyph : ℕ) (a : Option ℕ) (more : List (Option ℕ)) (front : List (Option ℕ)) (one : Option ℕ) (whole : Result (List (Option ℕ)) Error)
    → with_numbers front (numbers_from cff glyph (a ∷ more)) ≡ whole → number_if cff glyph a ≡ Ok one → with_numbers (front ++ one ∷ []) (numbers_from cff (glyph + 1) more) ≡ whole
next_number cff glyph a more front one whole same e = sym (number_moved front one (numbers_from cff (glyph + 1) more)) ∙ rw e at same

pub number_fails : (cff : Cff2) (glyph : ℕ) (a : Option ℕ) (more : List (Option ℕ)) (front : List (Option ℕ)) (e : Error) (whole : Result (List (Option ℕ)) Error)
    → with_numbers front (numbers_from cff glyph (a ∷ more)) ≡ whole → Fails e (number_if cff glyph a) → Fails e whole
number_fails cff glyph a more front e whole same h =
    fails_on (numbers_from cff glyph (a ∷ more)) (λ rest. Ok (front ++ rest)) whole e same
    (fails_on (number_if cff glyph a) (λ first. numbers_from cff (glyph + 1) more >>= λ rest. Ok (first ∷ rest)) (numbers_from cff glyph (a ∷ more)) e refl h)

pub as_fails : {Y : Type 0} (e : Error) (r : Result Y Error) → Err e ≡ r → Fails e r
as_fails OutOfMemory r h = tt
as_fails UnknownKind r h = sym h
as_fails MalformedFont r h = sym h
as_fails Unimplemented r h = sym h
as_fails SubsetError r h = sym h
as_fails OverflowError r h = sym h
as_fails CFFError r h = sym h

pub last_number : (cff : Cff2) (glyph : ℕ) (front : List (Option ℕ)) (whole : Result (List (Option ℕ)) Error) → with_numbers front (numbers_from cff glyph []) ≡ whole → whole ≡ Ok front
last_number cff glyph front whole same = sym same ∙ ap (λ (l : List (Option ℕ)). Ok l) (append-nil front)

-- ---- charstrings
texts_after : (xs : List (List ℕ)) (y : List ℕ) → concat (xs ++ y ∷ []) ≡ concat xs ++ y
texts_after [] y = append-nil y
texts_after (x ∷ xs) y = rw (texts_after xs y) (sym (append_assoc x (concat xs) y))

ends_after : (from : ℕ) (xs : List (List ℕ)) (y : List ℕ) → offsets from (xs ++ y ∷ []) ≡ offsets from xs ++ (from + length (concat xs) + length y) ∷ []
ends_after from [] y = ap (λ (n : ℕ). n ∷ []) (let e : from + length y ≡ from + 0 + length y = omega arith in e)
ends_after from (x ∷ xs) y =
    rw (ends_after (from + length x) xs y, length-append x (concat xs))
    (ap (λ (n : ℕ). (from + length x) ∷ (offsets (from + length x) xs ++ n ∷ [])) (let e : from + length x + length (concat xs) + length y ≡ from + (length x + length (concat xs)) + length y = omega arith in e))

filled_after : (xs : List (Option (List ℕ))) (x : Option (List ℕ)) → all_filled (xs ++ x ∷ []) ≡ all_filled xs ++ filled x ∷ []
filled_after [] x = refl
filled_after (y ∷ xs) x = ap (λ (l : List (List ℕ)). filled y ∷ l) (filled_after xs x)

boxes_after : (xs : List (Option (List ℕ))) (x : Option (List ℕ)) → text_boxes (xs ++ x ∷ []) ≡ text_boxes xs ++ charstring_box (filled x) ∷ []
boxes_after [] x = refl
boxes_after (y ∷ xs) x = ap (λ (l : List (Option Bounds)). charstring_box (filled y) ∷ l) (boxes_after xs x)

pub size_more : (front rest : List (Option (List ℕ))) (x : Option (List ℕ)) → texts_size (front ++ x ∷ rest) ≡ texts_size front + (text_size x + texts_size rest)
size_more [] rest x = omega arith
size_more (y ∷ front) rest x = omega (arith, size_more front rest x)

size_kept : (text : Option (List ℕ)) (old new total : ℕ) → new ≡ counted_with old text → old ≡ min total (2 ^ 64 - 1) → new ≡ min (total + (text_size text + 0)) (2 ^ 64 - 1)
size_kept None old new total e is = e ∙ is ∙ ap (λ (n : ℕ). min n (2 ^ 64 - 1)) (let z : total ≡ total + (0 + 0) = omega arith in z)
size_kept (Some text) old new total e is = omega (arith, e, is)

pub one_more : (before : List (Option (List ℕ))) (old new : Texts) (text : Option (List ℕ)) → AreTexts before old → IsPut old new text → AreTexts (before ++ text ∷ []) new
one_more before old new text are put = record {
  char_strings = put.char_strings ∙ ap (λ (l : List ℕ). l ++ filled text) are.char_strings ∙ sym (ap concat (filled_after before text) ∙ texts_after (all_filled before) (filled text));
  ends =
      let size : length new.char_strings.items + 1 ≡ 1 + length (concat (all_filled before)) + length (filled text) =
      omega (arith, ap length put.char_strings, length-append old.char_strings.items (filled text), ap length are.char_strings) in
      put.ends ∙ rw (are.ends, size) (sym (ap (offsets 1) (filled_after before text) ∙ ends_after 1 (all_filled before) (filled text)));
  boxes = put.boxes ∙ ap (λ (l : List (Option Bounds)). l ++ charstring_box (filled text) ∷ []) are.boxes ∙ sym (boxes_after before text);
  requested = size_kept text old.requested new.requested (texts_size before) put.requested are.requested ∙ ap (λ (n : ℕ). min n (2 ^ 64 - 1)) (sym (size_more before [] text));
}

pub none_drawn : (r : Result (List (Option (List ℕ))) Error) → with_texts [] r ≡ r
none_drawn (Ok xs) = refl
none_drawn (Err e) = refl

text_moved : (front : List (Option (List ℕ))) (x : Option (List ℕ)) (r : Result (List (Option (List ℕ))) Error) → with_texts front (r >>= λ rest. Ok (x ∷ rest)) ≡ with_texts (front ++ x ∷ []) r
text_moved front x (Ok xs) = ap (λ (l : List (Option (List ℕ))). Ok l) (sym (append_assoc front (x ∷ []) xs))
text_moved front x (Err e) = refl

module _ (cff : Cff2) (v : Option Variation) (tokens depth : ℕ) (dicts : List NewDict) where
  pub next_text : (place glyph : ℕ) (a : Option ℕ) (places : List ℕ) (more : List (Option ℕ)) (front : List (Option (List ℕ))) (one : Option (List ℕ)) (whole : Result (List (Option (List ℕ))) Error)
      → with_texts front (texts_from cff v tokens depth dicts (place ∷ places) glyph (a ∷ more)) ≡ whole → text_if cff v tokens depth dicts place glyph a ≡ Ok one
      → with_texts (front ++ one ∷ []) (texts_from cff v tokens depth dicts places (glyph + 1) more) ≡ whole
  next_text place glyph a places more front one whole same e = sym (text_moved front one (texts_from cff v tokens depth dicts places (glyph + 1) more)) ∙ rw e at same

  text_fails : (place glyph : ℕ) (a : Option ℕ) (places : List ℕ) (more : List (Option ℕ)) (front : List (Option (List ℕ))) (e : Error) (whole : Result (List (Option (List ℕ))) Error)
      → with_texts front (texts_from cff v tokens depth dicts (place ∷ places) glyph (a ∷ more)) ≡ whole → Fails e (text_if cff v tokens depth dicts place glyph a) → Fails e whole
  text_fails place glyph a places more front e whole same h =
      fails_on (texts_from cff v tokens depth dicts (place ∷ places) glyph (a ∷ more)) (λ rest. Ok (front ++ rest)) whole e same
      (fails_on (text_if cff v tokens depth dicts place glyph a) (λ first. texts_from cff v tokens depth dicts places (glyph + 1) more >>= λ rest. Ok (first ∷ rest))
      (texts_from cff v tokens depth dicts (place ∷ places) glyph (a ∷ more)) e refl h)

  pub text_past : (bound : Option ℕ) (place glyph : ℕ) (a : Option ℕ) (places : List ℕ) (more : List (Option ℕ)) (front : List (Option (List ℕ))) (requested : ℕ) (e : Error) (whole : Result (List (Option (List ℕ))) Error)
      → with_texts front (texts_from cff v tokens depth dicts (place ∷ places) glyph (a ∷ more)) ≡ whole → requested ≤ texts_size front
      → FailsWithin bound (λ text. requested + text_size text) e (text_if cff v tokens depth dicts place glyph a) → FailsWithin bound texts_size e whole
  text_past bound place glyph a places more front requested e whole same is h = elim h [
    | inl f ↦ inl (text_fails place glyph a places more front e whole same f)
    | inr p ↦ inr (
      p.0,
      record {
        most = p.1.most;
        is_set = p.1.is_set;
        longer = λ all k.
            let x = bind_ok (texts_from cff v tokens depth dicts (place ∷ places) glyph (a ∷ more)) (λ rest. Ok (front ++ rest)) all (same ∙ k) in
            let y = bind_ok (text_if cff v tokens depth dicts place glyph a) (λ first. texts_from cff v tokens depth dicts places (glyph + 1) more >>= λ rest. Ok (first ∷ rest)) x.0 x.1.0 in
            let z = bind_ok (texts_from cff v tokens depth dicts places (glyph + 1) more) (λ rest. Ok (y.0 ∷ rest)) x.0 y.1.1 in
            let here : front ++ y.0 ∷ z.0 ≡ all = ap (λ (l : List (Option (List ℕ))). front ++ l) (same_Ok (y.0 ∷ z.0) x.0 z.1.1) ∙ same_Ok (front ++ x.0) all x.1.1 in
            omega (arith, p.1.longer y.0 y.1.0, size_more front z.0 y.0, ap texts_size here, is);
      },
    )
  ]

  pub last_text : (glyph : ℕ) (places : List ℕ) (front : List (Option (List ℕ))) (whole : Result (List (Option (List ℕ))) Error) → with_texts front (texts_from cff v tokens depth dicts places glyph []) ≡ whole → whole ≡ Ok front
  last_text glyph places front whole same = sym same ∙ ap (λ (l : List (Option (List ℕ))). Ok l) (append-nil front)

-- ---- the numbers that are there
pub present_more : (front : List ℕ) (one : Option ℕ) (more : List (Option ℕ)) → front ++ present (one ∷ more) ≡ (front ++ with_number one []) ++ present more
present_more front None more = ap (λ (l : List ℕ). l ++ present more) (sym (append-nil front))
present_more front (Some n) more = sym (append_assoc front (n ∷ []) (present more))
