-- The name of a font off its default is one of at most 120 characters.
use Rattle.std.proofs.Common.{◌≡◌, ℕ, ℤ, zero, suc, ◌+◌, ◌/◌, ◌%◌, ◌^◌, ◌<◌, ◌≤◌, Bool, true, false, List, [], ◌∷◌, ◌++◌, Option, Some, None, length, take, refl, sym, subst, arith, length-append, length-take}
use Rattle.std.specs.Prelude.{◌==◌, if◌then◌else◌, nat_le, All, codes, decimal, unsigned_abs}
use Rattle.std.specs.Int.{is_negative}
use Rattle.std.specs.Option.{option_and_then, option_map_or}
use Rattle.std.specs.Ordering.{int_eq}
use Rattle.subsetter_base.specs.Bytes.{number}
use Rattle.subsetter_base.specs.declared.tag.Tag.{Tag}
use Rattle.subsetter_variation.specs.declared.locations.axes.Axis.{Axis}
use Rattle.std.proofs.lemmas.List.Elements.{All-nil, All-cons, All-append, All-take}
use Rattle.std.proofs.lemmas.Bool.Decides.{nat_tests}
use Rattle.subsetter_variation.specs.Locations.Axes.{clamped}
use Rattle.pdf_values.specs.Movement.{Movement}
use Rattle.pdf_text.specs.Numbers.{sign}
use Rattle.pdf_text.specs.SubsetName.{or_font, tag_of}
use Rattle.pdf_values.specs.Name.{postscript_name, table_name}
use Rattle.subsetter_base.specs.Texts.{or_else}
use Rattle.pdf_values.proofs.Characters.{table_passes}
use Rattle.pdf_names.specs.AxisTexts.{axes_text, axis_text, setting_text}
use Rattle.pdf_names.specs.Decimal.{decimal_text, decimals, digits, fraction, rounded, size_text, value_text}
use Rattle.pdf_names.specs.Instances.{hyphenated, instance_name, is_own, names_or, own_id, own_name, record_in, subfamily}
use Rattle.pdf_names.specs.Letters.{family, letters_and_digits, plain_name, prefix}
use Rattle.pdf_names.specs.MovedName.{name_at, shortened, whole_name, IsShortName}
use Rattle.pdf_names.proofs.Passing.{Passes, decimal_passes, digit_passes, letters_pass, tag_passes}

-- ---- choices

chosen : (t : Bool) (xs ys : List ℕ) → All Passes xs → All Passes ys → All Passes (if t then xs else ys)
chosen true xs ys p q = p
chosen false xs ys p q = q

or_passes : (text other : List ℕ) → All Passes text → All Passes other → All Passes (or_else text other)
or_passes [] other h g = g
or_passes (b ∷ bytes) other h g = h

one_passes : (b : ℕ) → Passes b → All Passes (b ∷ [])
one_passes b h = All-cons Passes b [] h (All-nil Passes)

two_pass : (a b : List ℕ) → All Passes a → All Passes b → All Passes (a ++ b)
two_pass a b p q = All-append Passes a b p q

-- ---- the prefix

plain_passes : (id : ℕ) (name : Option (List ℕ)) → All Passes (plain_name id name)
unfolding plain_name
plain_passes id name = letters_pass (table_name id name)

font_passes : (text : List ℕ) → All Passes text → All Passes (or_font text)
font_passes [] h = All-cons Passes 70 (111 ∷ 110 ∷ 116 ∷ []) refl (All-cons Passes 111 (110 ∷ 116 ∷ []) refl (All-cons Passes 110 (116 ∷ []) refl (one_passes 116 refl)))
font_passes (b ∷ bytes) h = h

prefix_passes : (name cff : Option (List ℕ)) → All Passes (prefix name cff)
unfolding prefix
prefix_passes name cff = font_passes (or_else (family name) (letters_and_digits (postscript_name name cff))) (or_passes (family name) (letters_and_digits (postscript_name name cff)) (or_passes (or_else (plain_name 25 name) (plain_name 16 name)) (plain_name 1 name) (or_passes (plain_name 25 name) (plain_name 16 name) (plain_passes 25 name) (plain_passes 16 name)) (plain_passes 1 name)) (letters_pass (postscript_name name cff)))

-- ---- coordinates

digits_pass : (k m : ℕ) → All Passes (digits k m)
unfolding digits
digits_pass zero m = All-nil Passes
digits_pass (suc k) m = All-cons Passes (48 + m / 10 ^ k % 10) (digits k m) (digit_passes (m / 10 ^ k % 10) (omega arith)) (digits_pass k m)

fraction_passes : (k m : ℕ) → All Passes (fraction k m)
fraction_passes k m = chosen (k == 0) [] (codes "." ++ digits k m) (All-nil Passes) (two_pass (codes ".") (digits k m) (one_passes 46 refl) (digits_pass k m))

text_passes : (k m : ℕ) → All Passes (decimal_text k m)
unfolding decimal_text
text_passes k m = two_pass (decimal (m / 10 ^ k)) (fraction k m) (decimal_passes (m / 10 ^ k)) (fraction_passes k m)

value_passes : (v : ℤ) → All Passes (value_text v)
unfolding value_text
value_passes v = two_pass (sign v) (size_text (unsigned_abs v)) (chosen (is_negative v) (codes "-") [] (one_passes 45 refl) (All-nil Passes)) (text_passes (decimals (unsigned_abs v)) (rounded (decimals (unsigned_abs v)) (unsigned_abs v)))

setting_passes : (a : Axis) (c : ℤ) → All Passes (setting_text a c)
unfolding setting_text
setting_passes a c = two_pass (codes "_") (value_text c ++ letters_and_digits a.tag.0) (one_passes 95 refl) (two_pass (value_text c) (letters_and_digits a.tag.0) (value_passes c) (letters_pass a.tag.0))

axis_passes : (a : Axis) (settings : List (Tag × ℤ)) → All Passes (axis_text a settings)
unfolding axis_text
axis_passes a settings = chosen (int_eq (clamped a settings) a.default) [] (setting_text a (clamped a settings)) (All-nil Passes) (setting_passes a (clamped a settings))

axes_pass : (axes : List Axis) (settings : List (Tag × ℤ)) → All Passes (axes_text axes settings)
axes_pass [] settings = All-nil Passes
axes_pass (a ∷ axes) settings = two_pass (axis_text a settings) (axes_text axes settings) (axis_passes a settings) (axes_pass axes settings)

-- ---- named instances

own_passes : (name : Option (List ℕ)) (id : Option ℕ) → All Passes (own_name name id)
unfolding own_name
own_passes name None = All-nil Passes
own_passes name (Some i) = chosen (is_own i) (table_name i name) [] (table_passes i name) (All-nil Passes)

family_passes : (name : Option (List ℕ)) (id : Option ℕ) → All Passes (option_map_or (λ i. plain_name i name) id [])
family_passes name None = All-nil Passes
family_passes name (Some i) = plain_passes i name

subfamily_passes : (name : Option (List ℕ)) (bytes : List ℕ) → All Passes (subfamily name bytes)
unfolding subfamily
subfamily_passes name bytes = family_passes name (number bytes 0 2)

hyphenated_passes : (front text : List ℕ) → All Passes front → All Passes text → All Passes (hyphenated front text)
hyphenated_passes front [] f t = All-nil Passes
hyphenated_passes front (b ∷ bytes) f t = two_pass front (codes "-" ++ (b ∷ bytes)) f (two_pass (codes "-") (b ∷ bytes) (one_passes 45 refl) t)

names_pass : (name : Option (List ℕ)) (front : List ℕ) (id : Option ℕ) (bytes : List ℕ) → All Passes front → All Passes (names_or name front id bytes)
unfolding names_or
names_pass name front id bytes f = or_passes (own_name name id) (hyphenated front (subfamily name bytes)) (own_passes name id) (hyphenated_passes front (subfamily name bytes) f (subfamily_passes name bytes))

found_passes : (g : List ℕ → List ℕ) (found : Option (List ℕ)) → ((bytes : List ℕ) → All Passes (g bytes)) → All Passes (option_map_or g found [])
found_passes g None h = All-nil Passes
found_passes g (Some bytes) h = h bytes

instance_passes : (name : Option (List ℕ)) (front : List ℕ) (axes : List Axis) (settings : List (Tag × ℤ)) (fvar : Option (List ℕ)) → All Passes front → All Passes (instance_name name front axes settings fvar)
instance_passes name front axes settings fvar f = found_passes (λ bytes. names_or name front (own_id axes settings bytes) bytes) (option_and_then (record_in axes settings) fvar) (λ bytes. names_pass name front (own_id axes settings bytes) bytes f)

-- ---- the whole

whole_passes : (front : List ℕ) (name fvar : Option (List ℕ)) (m : Movement) → All Passes front → All Passes (whole_name front name fvar m)
unfolding whole_name
whole_passes front name fvar m f = or_passes (instance_name name front m.axes m.settings fvar) (front ++ axes_text m.axes m.settings) (instance_passes name front m.axes m.settings fvar f) (two_pass front (axes_text m.axes m.settings) f (axes_pass m.axes m.settings))

abbrev cut : List ℕ → List ℕ → List ℕ
cut front text = take 110 front ++ (codes "-" ++ (tag_of text ++ codes "..."))

cut_passes : (front text : List ℕ) → All Passes front → All Passes (cut front text)
cut_passes front text f = two_pass (take 110 front) (codes "-" ++ (tag_of text ++ codes "...")) (All-take Passes 110 front f) (two_pass (codes "-") (tag_of text ++ codes "...") (one_passes 45 refl) (two_pass (tag_of text) (codes "...") (tag_passes text) (All-cons Passes 46 (46 ∷ 46 ∷ []) refl (All-cons Passes 46 (46 ∷ []) refl (one_passes 46 refl)))))

shortened_passes : (front text : List ℕ) → All Passes front → All Passes text → All Passes (shortened front text)
unfolding shortened
shortened_passes front text f t = chosen (nat_le (length text) 120) text (cut front text) t (cut_passes front text f)

-- ---- its length

following : List ℕ → List ℕ
following text = codes "-" ++ (tag_of text ++ codes "...")

ten : (text : List ℕ) → length (following text) ≡ 10
unfolding following
ten text = refl

cut_size : (front text : List ℕ) → length (cut front text) ≡ length (take 110 front) + 10
unfolding following
cut_size front text = let b = ten text in omega (arith, length-append (take 110 front) (following text))

cut_most : (front text : List ℕ) → length (cut front text) ≤ 120
cut_most front text = let s = cut_size front text in let t : length (take 110 front) ≤ 110 = simp length-take (omega arith) in omega arith

sized : (b : Bool) (xs ys : List ℕ) → (b ≡ true → length xs ≤ 120) → length ys ≤ 120 → length (if b then xs else ys) ≤ 120
sized true xs ys h g = h refl
sized false xs ys h g = g

is_short : (n : ℕ) → nat_le n 120 ≡ true → n ≤ 120
is_short n h = grind (arith, nat_tests)

shortened_most : (front text : List ℕ) → length (shortened front text) ≤ 120
unfolding shortened
shortened_most front text = sized (nat_le (length text) 120) text (cut front text) (is_short (length text)) (cut_most front text)

-- ---- it isn't empty

some_font : (text : List ℕ) → 0 < length (or_font text)
some_font [] = omega arith
some_font (b ∷ bytes) = omega arith

some_prefix : (name cff : Option (List ℕ)) → 0 < length (prefix name cff)
unfolding prefix
some_prefix name cff = some_font (or_else (family name) (letters_and_digits (postscript_name name cff)))

some_or : (text other : List ℕ) → 0 < length other → 0 < length (or_else text other)
some_or [] other h = h
some_or (b ∷ bytes) other h = omega arith

some_front : (front rest : List ℕ) → 0 < length front → 0 < length (front ++ rest)
some_front front rest h = omega (arith, length-append front rest)

some_whole : (front : List ℕ) (name fvar : Option (List ℕ)) (m : Movement) → 0 < length front → 0 < length (whole_name front name fvar m)
unfolding whole_name
some_whole front name fvar m h = some_or (instance_name name front m.axes m.settings fvar) (front ++ axes_text m.axes m.settings) (some_front front (axes_text m.axes m.settings) h)

some_chosen : (b : Bool) (xs ys : List ℕ) → 0 < length xs → 0 < length ys → 0 < length (if b then xs else ys)
some_chosen true xs ys h g = h
some_chosen false xs ys h g = g

some_shortened : (front text : List ℕ) → 0 < length text → 0 < length (shortened front text)
unfolding shortened
some_shortened front text h = some_chosen (nat_le (length text) 120) text (cut front text) h (let s = cut_size front text in omega arith)

-- ---- all of it

is_short_name : (name fvar : Option (List ℕ)) (m : Movement) (cff : Option (List ℕ)) → IsShortName (name_at name fvar m cff)
is_short_name name fvar m cff =
    let front = prefix_passes name cff in
    record {
      characters = shortened_passes (prefix name cff) (whole_name (prefix name cff) name fvar m) front (whole_passes (prefix name cff) name fvar m front);
      some = some_shortened (prefix name cff) (whole_name (prefix name cff) name fvar m) (some_whole (prefix name cff) name fvar m (some_prefix name cff));
      most = shortened_most (prefix name cff) (whole_name (prefix name cff) name fvar m);
    }

pub named : (name fvar : Option (List ℕ)) (m : Movement) (cff : Option (List ℕ)) (text : List ℕ) → text ≡ name_at name fvar m cff → IsShortName text
named name fvar m cff text e = subst IsShortName (sym e) (is_short_name name fvar m cff)
