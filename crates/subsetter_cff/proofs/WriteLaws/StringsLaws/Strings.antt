-- The numbers that strings get, and the strings that these numbers name.
use Rattle.std.proofs.Common.{◌≡◌, ℕ, zero, suc, ◌+◌, ◌-◌, ◌<◌, ◌≤◌, Bool, true, false, cond, List, [], ◌∷◌, ◌++◌, map, length, Option, Some, None, refl, ap, arith, inl, inr, ◌∙◌, sym, append_assoc}
use Rattle.std.specs.Prelude.{slice_get, is_some}
use Rattle.std.specs.Option.{option_map}
use Rattle.std.specs.List.{flat_map}
use Rattle.std.specs.Str.{bytes_eq}
use Rattle.std.proofs.lemmas.Bool.{lt-ltb, le-ltb, cases_Bool}
use Rattle.std.proofs.lemmas.Option.{none-some, same_Some, slice_get-map, slice_get_within}
use Rattle.std.proofs.lemmas.List.{append-nil}
use Rattle.std.proofs.lemmas.Slice.Eq.{bytes_eq-Decides}
use Rattle.subsetter_base.specs.Remap.{with_value, index_by}
use Rattle.subsetter_cffdata.specs.Numerals.Numbers.{Number, as_i32, in_i32}
use Rattle.subsetter_cffdata.specs.Dicts.Operands.{string_operand}
use Rattle.subsetter_cff.specs.Read.Strings.{FontString, Standard, Custom, standard_strings, string_of, string_by}
use Rattle.subsetter_cff.specs.Write.Laying.Layout.{FontDict, Parts, custom_string, named_strings, with_strings, strings, number_of, integer}
use Rattle.subsetter_cff.specs.Write.Laying.Fits.{FitsString}

-- ---- places of strings
pub record Has (xs : List (List ℕ)) (x : List ℕ) : Type 0 where
  pub at : ℕ
  pub is : index_by bytes_eq xs x ≡ Some at

same_bytes : (x : List ℕ) → bytes_eq x x ≡ true
same_bytes x = (bytes_eq-Decides x x).1 refl

found_after : (y : List ℕ) (ys : List (List ℕ)) (x : List ℕ) (i : ℕ) (o : Option ℕ) → ((j : ℕ) → o ≡ Some j → slice_get ys j ≡ Some x)
    → option_map (λ i. i + 1) o ≡ Some i → slice_get (y ∷ ys) i ≡ Some x
found_after y ys x i None h e = absurd (none-some i e)
found_after y ys x i (Some j) h e = let step : suc j ≡ i = omega (arith, same_Some _ _ e) in rw (← step) (h j refl)

-- at its place is the string
pub place_found : (xs : List (List ℕ)) (x : List ℕ) (i : ℕ) → index_by bytes_eq xs x ≡ Some i → slice_get xs i ≡ Some x
place_found [] x i e = absurd (none-some i e)
place_found (y ∷ ys) x i e =
    elim (cases_Bool (bytes_eq y x)) [
      | inl same ↦ (let zero : 0 ≡ i = same_Some _ _ (rw same at e) in rw (← zero) (ap Some ((bytes_eq-Decides y x).0 same)))
      | inr other ↦ found_after y ys x i (index_by bytes_eq ys x) (λ j h. place_found ys x j h) (rw other at e)
    ]

stays_step : (b : Bool) (o o' : Option ℕ) (i : ℕ) → ((j : ℕ) → o ≡ Some j → o' ≡ Some j) → cond b (Some 0) (option_map (λ i. i + 1) o) ≡ Some i → cond b (Some 0) (option_map (λ i. i + 1) o') ≡ Some i
stays_step true o o' i h e = e
stays_step false None o' i h e = absurd (none-some i e)
stays_step false (Some j) o' i h e = rw (h j refl) e

stays : (xs ys : List (List ℕ)) (x : List ℕ) (i : ℕ) → index_by bytes_eq xs x ≡ Some i → index_by bytes_eq (xs ++ ys) x ≡ Some i
stays [] ys x i e = absurd (none-some i e)
stays (z ∷ xs) ys x i e = stays_step (bytes_eq z x) (index_by bytes_eq xs x) (index_by bytes_eq (xs ++ ys) x) i (λ j h. stays xs ys x j h) e

has_last : (xs : List (List ℕ)) (x : List ℕ) → Has (xs ++ x ∷ []) x
has_last [] x = record { at = 0; is = rw (same_bytes x) refl }
has_last (y ∷ ys) x =
    let more = has_last ys x in
    elim (cases_Bool (bytes_eq y x)) [
      | inl same ↦ record { at = 0; is = rw same refl }
      | inr other ↦ record { at = more.at + 1; is = rw (other, more.is) refl }
    ]

-- ---- strings that are added
has_added : (xs : List (List ℕ)) (x : List ℕ) (o : Option ℕ) → index_by bytes_eq xs x ≡ o → Has (cond (is_some o) xs (xs ++ x ∷ [])) x
has_added xs x None e = has_last xs x
has_added xs x (Some i) e = record { at = i; is = e }

still_has : (b : Bool) (xs : List (List ℕ)) (s x : List ℕ) → Has xs x → Has (cond b xs (xs ++ s ∷ [])) x
still_has true xs s x h = h
still_has false xs s x h = record { at = h.at; is = stays xs (s ∷ []) x h.at h.is }

keeps : (xs more : List (List ℕ)) (x : List ℕ) → Has xs x → Has (with_strings xs more) x
keeps xs [] x h = h
keeps xs (s ∷ more) x h = keeps (with_value bytes_eq xs s) more x (still_has (is_some (index_by bytes_eq xs s)) xs s x h)

in_order : (found a b : List (List ℕ)) → with_strings found (a ++ b) ≡ with_strings (with_strings found a) b
in_order found [] b = refl
in_order found (s ∷ a) b = in_order (with_value bytes_eq found s) a b

-- strings that were there stay in front
grows : (b : Bool) (xs front : List (List ℕ)) (s : List ℕ) → (more : List (List ℕ)) × (xs ≡ front ++ more) → (more : List (List ℕ)) × (cond b xs (xs ++ s ∷ []) ≡ front ++ more)
grows true xs front s h = h
grows false xs front s h = (h.0 ++ s ∷ [], ap (λ (l : List (List ℕ)). l ++ s ∷ []) h.1 ∙ append_assoc front h.0 (s ∷ []))

stay_after : (found front more : List (List ℕ)) → (rest : List (List ℕ)) × (found ≡ front ++ rest) → (rest : List (List ℕ)) × (with_strings found more ≡ front ++ rest)
stay_after found front [] h = h
stay_after found front (s ∷ more) h = stay_after (with_value bytes_eq found s) front more (grows (is_some (index_by bytes_eq found s)) found front s h)

pub stay_first : (found more : List (List ℕ)) → (rest : List (List ℕ)) × (with_strings found more ≡ found ++ rest)
stay_first found more = stay_after found found more ([], sym (append-nil found))

pub get_at : {A : Type 0} (xs : List A) (i : ℕ) → i < length xs → (x : A) × (slice_get xs i ≡ Some x)
get_at [] i lt = absurd (omega arith)
get_at (x ∷ xs) zero lt = (x, refl)
get_at (x ∷ xs) (suc i) lt = get_at xs i (omega arith)

pub record IsIn (x : List ℕ) (xs : List (List ℕ)) : Type 0 where
  pub front : List (List ℕ)
  pub back : List (List ℕ)
  pub is : xs ≡ front ++ (x ∷ back)

has_named : (found xs : List (List ℕ)) (x : List ℕ) → IsIn x xs → Has (with_strings found xs) x
has_named found xs x i =
    let start = with_strings found i.front in
    rw (i.is, in_order found i.front (x ∷ i.back)) (keeps (with_value bytes_eq start x) i.back x (has_added start x (index_by bytes_eq start x) refl))

pub in_first : (x : List ℕ) (ys : List (List ℕ)) → IsIn x (x ∷ ys)
in_first x ys = record { front = []; back = ys; is = refl }

pub in_left : (x : List ℕ) (xs ys : List (List ℕ)) → IsIn x xs → IsIn x (xs ++ ys)
in_left x xs ys i = record { front = i.front; back = i.back ++ ys; is = ap (λ (l : List (List ℕ)). l ++ ys) i.is ∙ append_assoc i.front (x ∷ i.back) ys }

pub in_right : (x : List ℕ) (xs ys : List (List ℕ)) → IsIn x ys → IsIn x (xs ++ ys)
in_right x xs ys i = record { front = xs ++ i.front; back = i.back; is = ap (λ (l : List (List ℕ)). xs ++ l) i.is ∙ sym (append_assoc xs i.front (x ∷ i.back)) }

-- ---- the strings of the parts
abbrev pub IsNamed : Parts → Option FontString → Type 0
IsNamed p o = (s : List ℕ) → o ≡ Some (Custom s) → IsIn s (named_strings p)

in_custom : (o : Option FontString) (s : List ℕ) → o ≡ Some (Custom s) → IsIn s (custom_string o)
in_custom o s e = rw e (in_first s [])

pub copyright_named : (p : Parts) → IsNamed p p.copyright
copyright_named p s e = in_right s (_ ∷ _ ∷ []) _ (in_left s (custom_string p.copyright) _ (in_custom p.copyright s e))

pub font_name_named : (p : Parts) → IsNamed p p.font_name
font_name_named p s e = in_right s (_ ∷ _ ∷ []) _ (in_right s (custom_string p.copyright) _ (in_left s (custom_string p.font_name) _ (in_custom p.font_name s e)))

pub notice_named : (p : Parts) → IsNamed p p.notice
notice_named p s e = in_right s (_ ∷ _ ∷ []) _ (in_right s (custom_string p.copyright) _ (in_right s (custom_string p.font_name) _ (in_left s (custom_string p.notice) _ (in_custom p.notice s e))))

in_font_dicts : (fs : List FontDict) (i : ℕ) (f : FontDict) (s : List ℕ) → slice_get fs i ≡ Some f → f.name ≡ Some (Custom s) → IsIn s (flat_map (λ (g : FontDict). custom_string g.name) fs)
in_font_dicts [] i f s at e = absurd (none-some f at)
in_font_dicts (g ∷ fs) zero f s at e = in_left s (custom_string g.name) _ (in_custom g.name s (ap (λ (h : FontDict). h.name) (same_Some _ _ at) ∙ e))
in_font_dicts (g ∷ fs) (suc i) f s at e = in_right s (custom_string g.name) _ (in_font_dicts fs i f s at e)

pub font_dict_named : (p : Parts) (i : ℕ) (f : FontDict) → slice_get p.font_dicts i ≡ Some f → IsNamed p f.name
font_dict_named p i f at s e =
    in_right s (_ ∷ _ ∷ []) _ (in_right s (custom_string p.copyright) _ (in_right s (custom_string p.font_name) _ (in_right s (custom_string p.notice) _ (in_font_dicts p.font_dicts i f s at e))))

-- ---- a number names its string
pub string_operand_is : (n : ℕ) → n < 65536 → string_operand (integer n ∷ []) ≡ Some n
unfolding string_operand as_i32 in_i32
string_operand_is n lt = rw (lt-ltb n 2147483648 (omega arith), lt-ltb n 65536 lt) refl

pub standard_again : (ss : List (List ℕ)) (n : ℕ) → n < standard_strings → string_of (map Some ss) n ≡ Some (Standard n)
unfolding string_of
standard_again ss n lt = rw (lt-ltb n standard_strings lt) refl

pub custom_again : (ss : List (List ℕ)) (s : List ℕ) (i : ℕ) → slice_get ss i ≡ Some s → string_of (map Some ss) (standard_strings + i) ≡ Some (Custom s)
unfolding string_of
custom_again ss s i at =
    let place : standard_strings + i - standard_strings ≡ i = omega arith in
    rw (le-ltb (standard_strings + i) standard_strings (omega arith), place, slice_get-map Some ss i, at) refl

abbrev written : List (List ℕ) → FontString → Option (List Number)
written ss t = Some (integer (number_of ss t) ∷ [])

read_string : (ss : List (List ℕ)) (t : FontString) (n : ℕ) → n < 65536 → string_of (map Some ss) n ≡ Some t → string_by (map Some ss) (Some (integer n ∷ [])) ≡ Some (Some t)
read_string ss t n lt e = rw (string_operand_is n lt, e) refl

pub string_again : (p : Parts) (t : FontString) → FitsString (Some t) → length (strings p) + standard_strings ≤ 65536 → IsNamed p (Some t)
    → string_by (map Some (strings p)) (written (strings p) t) ≡ Some (Some t)
unfolding strings
string_again p (Standard n) fits few named = read_string (strings p) (Standard n) n (omega arith) (standard_again (strings p) n fits)
string_again p (Custom s) fits few named =
    let has = has_named [] (named_strings p) s (named s refl) in
    let at = place_found (strings p) s has.at has.is in
    let inside = slice_get_within (strings p) has.at s at in
    rw has.is (read_string (strings p) (Custom s) (standard_strings + has.at) (omega arith) (custom_again (strings p) s has.at at))
