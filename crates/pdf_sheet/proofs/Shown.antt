-- What a reader of a sheet's contents finds.
use Rattle.std.proofs.Common.{◌≡◌, ◌≤◌, ◌<◌, ℕ, suc, zero, ◌+◌, ◌-◌, ◌*◌, ◌/◌, ◌%◌, ◌^◌, Bool, true, false, List, [], ◌∷◌, ◌++◌, length, map, take, drop, refl, sym, ap, ◌∙◌, append_assoc, arith}
use Rattle.std.proofs.lemmas.Bool.Decides.{nat_tests}
use Rattle.std.specs.Prelude.{nat_lt, All, Option, Some, None, codes, decimal, ◌==◌, if◌then◌else◌}
use Rattle.std.specs.List.{flat_map}
use Rattle.std.specs.Str.{bytes_eq}
use Rattle.std.proofs.lemmas.List.{map-append, take-append-drop, length-drop}
use Rattle.std.proofs.lemmas.List.Elements.{All-nil, All-cons, All-head, All-tail, All-take, All-drop}
use Rattle.pdf_text.specs.Cmaps.Cmap.{hex_string, hex_in}
use Rattle.pdf_text.specs.Tokens.{tokens}
use Rattle.pdf_text.proofs.TokenLaws.Tokens.{first_token, digits_dark, decimal_digits, decimal_some, no_word}
use Rattle.pdf_text.proofs.CmapsLaws.CmapLaws.Tokens.{hex_dark}
use Rattle.pdf_text.proofs.CmapsLaws.CmapLaws.Units.{units_read}
use Rattle.pdf_sheet.specs.declared.glyphs.SheetGlyph.{SheetGlyph}
use Rattle.pdf_sheet.specs.declared.frame.Layout.{Layout}
use Rattle.pdf_sheet.specs.declared.frame.Layout.TheVariants.{Line, Grid}
use Rattle.pdf_sheet.specs.declared.frame.Frame.{Frame}
use Rattle.pdf_sheet.specs.Content.{code_text, span_begin, shown_text, position_text, cell_x, cell_y, line_position, glyph_position, frame_of, glyphs_text, content}
use Rattle.pdf_sheet.specs.Units.{units_of}
use Rattle.pdf_sheet.specs.Pages.{pages_by, page_count, pages_of}
use Rattle.pdf_sheet.specs.Read.{Showing, shown_from, shown_in, showing, IsShowable, AreShown}

-- a token that no ActualText follows
abbrev pub IsPlain : List ℕ → Type 0
IsPlain t = bytes_eq t (codes "/ActualText") ≡ false

-- ---- tokens

-- a token and a blank
hex_token : (us rest : List ℕ) → tokens (hex_string us ++ (codes " " ++ rest)) ≡ hex_string us ∷ tokens rest
hex_token us rest = first_token (hex_string us) 32 rest (hex_dark us) (omega arith) refl

number_token : (n : ℕ) (rest : List ℕ) → n < 2 ^ 64 → tokens (decimal n ++ (codes " " ++ rest)) ≡ decimal n ∷ tokens rest
number_token n rest l = first_token (decimal n) 32 rest (digits_dark (decimal n) (decimal_digits n l)) (decimal_some n l) refl

hex_read : (us : List ℕ) → All (λ u. u < 65536) us → hex_in (hex_string us) ≡ Some us
hex_read us h = units_read us h

-- ---- one token read

passed_by : (last t : List ℕ) (a : Option (List ℕ)) (ts : List (List ℕ)) → bytes_eq t (codes "Tj") ≡ false → bytes_eq t (codes "EMC") ≡ false → IsPlain last → shown_from last a (t ∷ ts) ≡ shown_from t a ts
passed_by last t a ts p q r = rw (p, q, r) refl

shown_by : (last : List ℕ) (a : Option (List ℕ)) (ts : List (List ℕ)) → shown_from last a (codes "Tj" ∷ ts) ≡ record { string = hex_in last; actual = a } ∷ shown_from (codes "Tj") a ts
shown_by last a ts = refl

number_passed : (last : List ℕ) (n : ℕ) (a : Option (List ℕ)) (ts : List (List ℕ)) → n < 2 ^ 64 → IsPlain last → shown_from last a (decimal n ∷ ts) ≡ shown_from (decimal n) a ts
number_passed last n a ts l r =
    passed_by last (decimal n) a ts (no_word (decimal n) (codes "Tj") (decimal_digits n l) refl) (no_word (decimal n) (codes "EMC") (decimal_digits n l) refl) r

number_plain : (n : ℕ) → n < 2 ^ 64 → IsPlain (decimal n)
number_plain n l = no_word (decimal n) (codes "/ActualText") (decimal_digits n l) refl

-- ---- a place

place_regrouped : (x y rest : List ℕ) → (codes "1 0 0 1 " ++ (x ++ (codes " " ++ (y ++ codes " Tm\n")))) ++ rest ≡ codes "1 0 0 1 " ++ (x ++ (codes " " ++ (y ++ (codes " " ++ (codes "Tm\n" ++ rest)))))
place_regrouped x y rest = simp append_assoc

front_token : (rest : List ℕ) → tokens (codes "1 0 0 1 " ++ rest) ≡ codes "1" ∷ codes "0" ∷ codes "0" ∷ codes "1" ∷ tokens rest
front_token rest = refl

back_token : (rest : List ℕ) → tokens (codes "Tm\n" ++ rest) ≡ codes "Tm" ∷ tokens rest
back_token rest = refl

place_tokens : (x y : ℕ) (rest : List ℕ) → x < 2 ^ 64 → y < 2 ^ 64 → tokens (position_text x y ++ rest) ≡ codes "1" ∷ codes "0" ∷ codes "0" ∷ codes "1" ∷ decimal x ∷ decimal y ∷ codes "Tm" ∷ tokens rest
place_tokens x y rest l m =
    ap tokens (place_regrouped (decimal x) (decimal y) rest) ∙ front_token (decimal x ++ (codes " " ++ (decimal y ++ (codes " " ++ (codes "Tm\n" ++ rest)))))
    ∙ ap (λ (ts : List (List ℕ)). codes "1" ∷ codes "0" ∷ codes "0" ∷ codes "1" ∷ ts)
    (number_token x (decimal y ++ (codes " " ++ (codes "Tm\n" ++ rest))) l ∙ ap (λ (ts : List (List ℕ)). decimal x ∷ ts)
    (number_token y (codes "Tm\n" ++ rest) m ∙ ap (λ (ts : List (List ℕ)). decimal y ∷ ts) (back_token rest)))

place_begun : (last : List ℕ) (a : Option (List ℕ)) (ts : List (List ℕ)) → IsPlain last → shown_from last a (codes "1" ∷ codes "0" ∷ codes "0" ∷ codes "1" ∷ ts) ≡ shown_from (codes "1") a ts
place_begun last a ts r = passed_by last (codes "1") a (codes "0" ∷ codes "0" ∷ codes "1" ∷ ts) refl refl r

-- nothing is shown by a place
place_passed : (last : List ℕ) (x y : ℕ) (rest : List ℕ) → x < 2 ^ 64 → y < 2 ^ 64 → IsPlain last → shown_from last None (tokens (position_text x y ++ rest)) ≡ shown_from (codes "Tm") None (tokens rest)
place_passed last x y rest l m r =
    ap (λ (ts : List (List ℕ)). shown_from last None ts) (place_tokens x y rest l m)
    ∙ place_begun last None (decimal x ∷ decimal y ∷ codes "Tm" ∷ tokens rest) r
    ∙ number_passed (codes "1") x None (decimal y ∷ codes "Tm" ∷ tokens rest) l refl
    ∙ number_passed (decimal x) y None (codes "Tm" ∷ tokens rest) m (number_plain x l)
    ∙ passed_by (decimal y) (codes "Tm") None (tokens rest) refl refl (number_plain y m)

-- ---- a code

code_regrouped : (h rest : List ℕ) → (h ++ codes " Tj\n") ++ rest ≡ h ++ (codes " " ++ (codes "Tj\n" ++ rest))
code_regrouped h rest = simp append_assoc

code_tokens : (c : ℕ) (rest : List ℕ) → tokens (code_text c ++ rest) ≡ hex_string (c ∷ []) ∷ codes "Tj" ∷ tokens rest
code_tokens c rest = ap tokens (code_regrouped (hex_string (c ∷ [])) rest) ∙ hex_token (c ∷ []) (codes "Tj\n" ++ rest)

code_shown : (last : List ℕ) (a : Option (List ℕ)) (c : ℕ) (rest : List ℕ) → c < 65536 → IsPlain last → shown_from last a (tokens (code_text c ++ rest)) ≡ record { string = Some (c ∷ []); actual = a } ∷ shown_from (codes "Tj") a (tokens rest)
code_shown last a c rest l r =
    ap (λ (ts : List (List ℕ)). shown_from last a ts) (code_tokens c rest)
    ∙ passed_by last (hex_string (c ∷ [])) a (codes "Tj" ∷ tokens rest) refl refl r
    ∙ shown_by (hex_string (c ∷ [])) a (tokens rest)
    ∙ ap (λ (s : Option (List ℕ)). record { string = s; actual = a } ∷ shown_from (codes "Tj") a (tokens rest)) (hex_read (c ∷ []) (All-cons (λ u. u < 65536) c [] l (All-nil (λ u. u < 65536))))

-- ---- a span

span_regrouped : (h rest : List ℕ) → (codes "/Span << /ActualText " ++ (h ++ codes " >> BDC\n")) ++ rest ≡ codes "/Span << /ActualText " ++ (h ++ (codes " " ++ (codes ">> BDC\n" ++ rest)))
span_regrouped h rest = simp append_assoc

span_front : (rest : List ℕ) → tokens (codes "/Span << /ActualText " ++ rest) ≡ codes "/Span" ∷ codes "<<" ∷ codes "/ActualText" ∷ tokens rest
span_front rest = refl

span_tokens : (us rest : List ℕ) → tokens (span_begin us ++ rest) ≡ codes "/Span" ∷ codes "<<" ∷ codes "/ActualText" ∷ hex_string (65279 ∷ us) ∷ codes ">>" ∷ codes "BDC" ∷ tokens rest
span_tokens us rest =
    ap tokens (span_regrouped (hex_string (65279 ∷ us)) rest) ∙ span_front (hex_string (65279 ∷ us) ++ (codes " " ++ (codes ">> BDC\n" ++ rest)))
    ∙ ap (λ (ts : List (List ℕ)). codes "/Span" ∷ codes "<<" ∷ codes "/ActualText" ∷ ts) (hex_token (65279 ∷ us) (codes ">> BDC\n" ++ rest))

span_read : (last : List ℕ) (us : List ℕ) (ts : List (List ℕ)) → IsPlain last → shown_from last None (codes "/Span" ∷ codes "<<" ∷ codes "/ActualText" ∷ hex_string (65279 ∷ us) ∷ codes ">>" ∷ codes "BDC" ∷ ts) ≡ shown_from (codes "BDC") (hex_in (hex_string (65279 ∷ us))) ts
span_read last us ts r = passed_by last (codes "/Span") None (codes "<<" ∷ codes "/ActualText" ∷ hex_string (65279 ∷ us) ∷ codes ">>" ∷ codes "BDC" ∷ ts) refl refl r

span_begun : (last us rest : List ℕ) → All (λ u. u < 65536) us → IsPlain last → shown_from last None (tokens (span_begin us ++ rest)) ≡ shown_from (codes "BDC") (Some (65279 ∷ us)) (tokens rest)
span_begun last us rest h r =
    ap (λ (ts : List (List ℕ)). shown_from last None ts) (span_tokens us rest) ∙ span_read last us (tokens rest) r
    ∙ ap (λ (a : Option (List ℕ)). shown_from (codes "BDC") a (tokens rest)) (hex_read (65279 ∷ us) (All-cons (λ u. u < 65536) 65279 us (omega arith) h))

span_ended : (a : Option (List ℕ)) (rest : List ℕ) → shown_from (codes "Tj") a (tokens (codes "EMC\n" ++ rest)) ≡ shown_from (codes "EMC") None (tokens rest)
span_ended a rest = refl

-- ---- a glyph

pair_small : (c : ℕ) (more : List ℕ) → c < 1114112 → All (λ u. u < 65536) more → (b : Bool) → nat_lt c 65536 ≡ b → All (λ u. u < 65536) ((if b then c ∷ [] else (55296 + (c - 65536) / 1024) ∷ (56320 + (c - 65536) % 1024) ∷ []) ++ more)
pair_small c more l h true e = All-cons (λ u. u < 65536) c more (grind (arith, nat_tests)) h
pair_small c more l h false e = All-cons (λ u. u < 65536) (55296 + (c - 65536) / 1024) ((56320 + (c - 65536) % 1024) ∷ more) (omega arith) (All-cons (λ u. u < 65536) (56320 + (c - 65536) % 1024) more (omega arith) h)

units_small : (cs : List ℕ) → All (λ c. c < 1114112) cs → All (λ u. u < 65536) (units_of cs)
units_small [] h = All-nil (λ u. u < 65536)
units_small (c ∷ cs) h = pair_small c (units_of cs) (All-head (λ x. x < 1114112) c cs h) (units_small cs (All-tail (λ x. x < 1114112) c cs h)) (nat_lt c 65536) refl

spanned_regrouped : (a b rest : List ℕ) → (a ++ (b ++ codes "EMC\n")) ++ rest ≡ a ++ (b ++ (codes "EMC\n" ++ rest))
spanned_regrouped a b rest = simp append_assoc

spanned : (last : List ℕ) (c : ℕ) (us rest : List ℕ) → c < 65536 → All (λ u. u < 65536) us → IsPlain last → shown_from last None (tokens ((span_begin us ++ (code_text c ++ codes "EMC\n")) ++ rest)) ≡ record { string = Some (c ∷ []); actual = Some (65279 ∷ us) } ∷ shown_from (codes "EMC") None (tokens rest)
spanned last c us rest l h r =
    ap (λ (t : List ℕ). shown_from last None (tokens t)) (spanned_regrouped (span_begin us) (code_text c) rest)
    ∙ span_begun last us (code_text c ++ (codes "EMC\n" ++ rest)) h r
    ∙ code_shown (codes "BDC") (Some (65279 ∷ us)) c (codes "EMC\n" ++ rest) l refl
    ∙ ap (λ (ss : List Showing). record { string = Some (c ∷ []); actual = Some (65279 ∷ us) } ∷ ss) (span_ended (Some (65279 ∷ us)) rest)

-- what is found in a text, from no matter which plain token on
abbrev pub Finds : List ℕ → List Showing → Type 0
Finds text ss = (last : List ℕ) → IsPlain last → shown_from last None (tokens text) ≡ ss

glyph_by : (b : Bool) (c : ℕ) (us rest : List ℕ) (ss : List Showing) → c < 65536 → All (λ u. u < 65536) us → Finds rest ss → Finds ((if b then code_text c else span_begin us ++ (code_text c ++ codes "EMC\n")) ++ rest) (record { string = Some (c ∷ []); actual = if b then None else Some (65279 ∷ us) } ∷ ss)
glyph_by true c us rest ss l h f last r = code_shown last None c rest l r ∙ ap (λ (more : List Showing). record { string = Some (c ∷ []); actual = None } ∷ more) (f (codes "Tj") refl)
glyph_by false c us rest ss l h f last r = spanned last c us rest l h r ∙ ap (λ (more : List Showing). record { string = Some (c ∷ []); actual = Some (65279 ∷ us) } ∷ more) (f (codes "EMC") refl)

glyph_found : (g : SheetGlyph) (rest : List ℕ) (ss : List Showing) → IsShowable g → Finds rest ss → Finds (shown_text g ++ rest) (showing g ∷ ss)
glyph_found g rest ss h f = glyph_by g.is_said g.code (units_of g.text.now) rest ss h.code (units_small g.text.now h.text) f

-- ---- places of glyphs

placed : (x y : ℕ) (rest : List ℕ) (ss : List Showing) → x < 2 ^ 64 → y < 2 ^ 64 → Finds rest ss → Finds (position_text x y ++ rest) ss
placed x y rest ss l m f last r = place_passed last x y rest l m r ∙ f (codes "Tm") refl

line_by : (b vertical : Bool) (height : ℕ) (rest : List ℕ) (ss : List Showing) → height < 2 ^ 64 → Finds rest ss → Finds ((if b then line_position vertical height else []) ++ rest) ss
line_by false vertical height rest ss l f = f
line_by true false height rest ss l f = placed 36 54 rest ss (omega arith) (omega arith) f
line_by true true height rest ss l f = placed 72 (height - 36) rest ss (omega arith) (omega arith) f

place_found : (layout : Layout) (vertical : Bool) (height k : ℕ) (rest : List ℕ) (ss : List Showing) → height < 2 ^ 64 → Finds rest ss → Finds (glyph_position layout vertical height k ++ rest) ss
place_found Grid false height k rest ss l f = placed (cell_x k) (cell_y k) rest ss (omega arith) (omega arith) f
place_found Grid true height k rest ss l f = placed (cell_x k + 18) (cell_y k + 32) rest ss (omega arith) (omega arith) f
place_found Line vertical height k rest ss l f = line_by (k == 0) vertical height rest ss l f

-- ---- a page

ends : Finds (codes "ET") []
ends last r = passed_by last (codes "ET") None [] refl refl r

page_regrouped : (a b c d : List ℕ) → ((a ++ b) ++ c) ++ d ≡ a ++ (b ++ (c ++ d))
page_regrouped a b c d = simp append_assoc

glyphs_found : (frame : Frame) (k : ℕ) (gs : List SheetGlyph) → frame.height < 2 ^ 64 → All IsShowable gs → Finds (glyphs_text frame k gs ++ codes "ET") (map showing gs)
glyphs_found frame k [] l h last r = ends last r
glyphs_found frame k (g ∷ gs) l h last r =
    let rest = glyphs_text frame (k + 1) gs ++ codes "ET" in
    ap (λ (t : List ℕ). shown_from last None (tokens t)) (page_regrouped (glyph_position frame.layout frame.vertical frame.height k) (shown_text g) (glyphs_text frame (k + 1) gs) (codes "ET"))
    ∙ place_found frame.layout frame.vertical frame.height k (shown_text g ++ rest) (showing g ∷ map showing gs) l
    (glyph_found g rest (map showing gs) (All-head IsShowable g gs h) (glyphs_found frame (k + 1) gs l (All-tail IsShowable g gs h))) last r

content_front : (rest : List ℕ) → tokens (codes "BT\n/F0 36 Tf\n" ++ rest) ≡ codes "BT" ∷ codes "/F0" ∷ codes "36" ∷ codes "Tf" ∷ tokens rest
content_front rest = refl

front_passed : (ts : List (List ℕ)) → shown_from [] None (codes "BT" ∷ codes "/F0" ∷ codes "36" ∷ codes "Tf" ∷ ts) ≡ shown_from (codes "Tf") None ts
front_passed ts = refl

pub page_found : (frame : Frame) (gs : List SheetGlyph) → frame.height < 2 ^ 64 → All IsShowable gs → shown_in (content frame gs) ≡ map showing gs
page_found frame gs l h =
    ap (λ (ts : List (List ℕ)). shown_from [] None ts) (content_front (glyphs_text frame 0 gs ++ codes "ET"))
    ∙ front_passed (tokens (glyphs_text frame 0 gs ++ codes "ET")) ∙ glyphs_found frame 0 gs l h (codes "Tf") refl

-- ---- all pages

pages_found : (frame : Frame) (count : ℕ) (gs : List SheetGlyph) → frame.height < 2 ^ 64 → length gs ≤ 192 * count → All IsShowable gs → flat_map (λ p. shown_in (content frame p)) (pages_by count gs) ≡ map showing gs
pages_found frame zero [] l m h = refl
pages_found frame zero (g ∷ gs) l m h = absurd (omega arith)
pages_found frame (suc count) gs l m h =
    let size : length (drop 192 gs) ≡ length gs - 192 = length-drop 192 gs in
    ap (λ (ss : List Showing). ss ++ flat_map (λ p. shown_in (content frame p)) (pages_by count (drop 192 gs))) (page_found frame (take 192 gs) l (All-take IsShowable 192 gs h))
    ∙ ap (λ (ss : List Showing). map showing (take 192 gs) ++ ss) (pages_found frame count (drop 192 gs) l (omega arith) (All-drop IsShowable 192 gs h))
    ∙ sym (map-append showing (take 192 gs) (drop 192 gs)) ∙ ap (λ (gs : List SheetGlyph). map showing gs) (take-append-drop 192 gs)

append_nothing : (ss : List Showing) → ss ++ [] ≡ ss
append_nothing [] = refl
append_nothing (s ∷ ss) = ap (λ (more : List Showing). s ∷ more) (append_nothing ss)

height_small : (layout : Layout) (vertical : Bool) (gs : List SheetGlyph) → (frame_of layout vertical gs).height < 2 ^ 64
height_small Grid vertical gs = omega arith
height_small Line false gs = omega arith
height_small Line true gs = omega arith

by_layout : (frame : Frame) (layout : Layout) (gs : List SheetGlyph) → frame.height < 2 ^ 64 → All IsShowable gs → flat_map (λ p. shown_in (content frame p)) (pages_of layout gs) ≡ map showing gs
by_layout frame Line gs l h = append_nothing (shown_in (content frame gs)) ∙ page_found frame gs l h
by_layout frame Grid gs l h = pages_found frame (page_count Grid (length gs)) gs l (omega arith) h

pub are_shown : AreShown
are_shown layout vertical gs h = by_layout (frame_of layout vertical gs) layout gs (height_small layout vertical gs) h
