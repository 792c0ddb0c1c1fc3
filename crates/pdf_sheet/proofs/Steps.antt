-- Texts and values that are made one after the other.
use Rattle.std.proofs.Common.{◌≡◌, ◌≤◌, ◌<◌, ℕ, zero, suc, ◌+◌, ◌-◌, ◌*◌, ◌/◌, Bool, true, false, List, [], ◌∷◌, ◌++◌, length, get_or, map, take, drop, decimal, refl, sym, ap, subst, ◌∙◌, append_assoc, ◌⊎◌, inl, inr, add-one, drop-cons, arith, length-append, length-drop, Result, Vec, Global}
use Rattle.std.specs.Prelude.{All, IfErr, IfOk, codes, is_some, min, if◌then◌else◌}
use Rattle.std.specs.List.{concat}
use Rattle.std.proofs.lemmas.List.{take_all, drop_all, map-append}
use Rattle.std.proofs.lemmas.List.Elements.{All-nil, All-cons}
use Rattle.std.proofs.lemmas.List.Folds.{concat-append}
use Rattle.subsetter_base.specs.declared.error.Error.{Error}
use Rattle.subsetter_base.specs.declared.error.Error.TheVariants.{OutOfMemory, OverflowError}
use Rattle.pdf_text.specs.Cmaps.Cmap.{words}
use Rattle.pdf_text.specs.Dictionaries.Entries.{reference}
use Rattle.pdf_text.specs.Objects.{object_text, objects_from, offsets_from, font_objects}
use Rattle.pdf_text.specs.declared.values.FontValues.{FontValues}
use Rattle.pdf_text.proofs.ObjectLaws.At.{one_more_offset}
use Rattle.pdf_text.proofs.MetricsLaws.WidthLaws.Read.{below_or_not}
use Rattle.pdf_text.proofs.Written.{one_more_written, three_written, five_written}
use Rattle.pdf_sheet.specs.Units.{units_of}
use Rattle.pdf_sheet.specs.Content.{code_text, span_begin, shown_text, content, frame_of}
use Rattle.pdf_sheet.specs.Lines.{line_objects, line_pages, lines_front, lines_values}
use Rattle.pdf_sheet.specs.Pages.{HasNoFile, kids, pages_value, stream_value, page_value, page_values, pages_by, pages_of, page_count, font_number, front_values, font_values, sheet_values}
use Rattle.pdf_sheet.specs.File.{AreInTable, header, body_of, offsets_of, file_of, digits, row, rows, table_front, trailer, table_and_trailer}
use Rattle.pdf_sheet.specs.View.{texts_view}
use Rattle.pdf_sheet.specs.declared.glyphs.SheetGlyph.{SheetGlyph}
use Rattle.pdf_sheet.specs.declared.lines.SheetLine.{SheetLine}
use Rattle.pdf_sheet.specs.declared.frame.Frame.{Frame}
use Rattle.pdf_sheet.specs.declared.frame.Layout.{Layout}
use Rattle.pdf_sheet.specs.declared.frame.Layout.TheVariants.{Line, Grid}

pages_regrouped : (a b c d e : List ℕ) → (a ++ (b ++ (c ++ d))) ++ e ≡ a ++ (b ++ (c ++ (d ++ e)))
pages_regrouped a b c d e = simp append_assoc

pub pages_written : (frame : Frame) (count : ℕ) (empty w1 w2 : List ℕ) → empty ≡ [] → w1 ≡ empty ++ (codes "<< /Type /Pages /Count " ++ (decimal count ++ (codes " /Kids [" ++ kids 3 count))) → w2 ≡ w1 ++ (codes "] /MediaBox [0 0 " ++ (decimal frame.width ++ (codes " " ++ (decimal frame.height ++ codes "] >>")))) → w2 ≡ pages_value frame count
pages_written frame count empty w1 w2 n f g =
    rw (g, f, n) (pages_regrouped (codes "<< /Type /Pages /Count ") (decimal count) (codes " /Kids [") (kids 3 count) (codes "] /MediaBox [0 0 " ++ (decimal frame.width ++ (codes " " ++ (decimal frame.height ++ codes "] >>")))))

stream_regrouped : (n bytes : List ℕ) → ((codes "<< /Length " ++ (n ++ codes " >>\nstream\n")) ++ bytes) ++ codes "\nendstream" ≡ codes "<< " ++ ((codes "/" ++ (codes "Length" ++ (codes " " ++ (n ++ codes " ")))) ++ (codes ">>\nstream\n" ++ (bytes ++ codes "\nendstream")))
stream_regrouped n bytes = simp append_assoc

pub stream_written : (bytes empty w1 w2 w3 : List ℕ) → empty ≡ [] → w1 ≡ empty ++ (codes "<< /Length " ++ (decimal (length bytes) ++ codes " >>\nstream\n")) → w2 ≡ w1 ++ bytes → w3 ≡ w2 ++ codes "\nendstream" → w3 ≡ stream_value bytes
stream_written bytes empty w1 w2 w3 n f g h = rw (h, g, f, n) (stream_regrouped (decimal (length bytes)) bytes)

-- ---- glyphs

pub span_written : (us w w1 w2 w3 : List ℕ) → w1 ≡ w ++ codes "/Span << /ActualText <FEFF" → w2 ≡ w1 ++ words us → w3 ≡ w2 ++ codes "> >> BDC\n" → w3 ≡ w ++ span_begin us
span_written us w w1 w2 w3 f g h =
    three_written w (codes "/Span << /ActualText <FEFF") (words us) (codes "> >> BDC\n") w1 w2 w3 f g h
    ∙ ap (λ (l : List ℕ). w ++ (codes "/Span << /ActualText <FEFF" ++ l)) (sym (append_assoc (words us) (codes ">") (codes " >> BDC\n")))

glyph_by : (b : Bool) (code : ℕ) (us w w3 : List ℕ) → b ≡ false → w3 ≡ w ++ (span_begin us ++ (code_text code ++ codes "EMC\n")) → w3 ≡ w ++ (if b then code_text code else span_begin us ++ (code_text code ++ codes "EMC\n"))
glyph_by true code us w w3 e f = absurd cc
glyph_by false code us w w3 e f = f

pub glyph_written : (g : SheetGlyph) (w w1 w2 w3 : List ℕ) → g.is_said ≡ false → w1 ≡ w ++ span_begin (units_of g.text.now) → w2 ≡ w1 ++ code_text g.code → w3 ≡ w2 ++ codes "EMC\n" → w3 ≡ w ++ shown_text g
glyph_written g w w1 w2 w3 e f h i =
    glyph_by g.is_said g.code (units_of g.text.now) w w3 e (three_written w (span_begin (units_of g.text.now)) (code_text g.code) (codes "EMC\n") w1 w2 w3 f h i)

-- ---- references to pages

pub kid_more : (w w1 : List ℕ) (n n1 left left1 : ℕ) (all : List ℕ) → left ≡ suc left1 → n1 ≡ n + 2 → w1 ≡ w ++ (reference n ++ codes " ") → w ++ kids n left ≡ all → w1 ++ kids n1 left1 ≡ all
kid_more w w1 n n1 left left1 all e f g h =
    ap (λ m. w1 ++ kids m left1) f
    ∙ one_more_written w (reference n ++ codes " ") (kids (n + 2) left1) all w1 g (ap (λ m. w ++ kids n m) (sym e) ∙ h)

-- ---- pages

list_assoc : (xs ys zs : List (List ℕ)) → (xs ++ ys) ++ zs ≡ xs ++ (ys ++ zs)
list_assoc xs ys zs = append_assoc xs ys zs

one_pushed : (vs vs1 : List (Vec ℕ Global)) (a : Vec ℕ Global) (x : List ℕ) → vs1 ≡ vs ++ a ∷ [] → a.items ≡ x → texts_view vs1 ≡ texts_view vs ++ x ∷ []
one_pushed vs vs1 a x e f =
    ap texts_view e ∙ map-append (λ (t : Vec ℕ Global). t.items) vs (a ∷ []) ∙ ap (λ (l : List ℕ). texts_view vs ++ l ∷ []) f

pub two_pushed : (vs vs1 vs2 : List (Vec ℕ Global)) (a b : Vec ℕ Global) (x y : List ℕ) → vs1 ≡ vs ++ a ∷ [] → vs2 ≡ vs1 ++ b ∷ [] → a.items ≡ x → b.items ≡ y → texts_view vs2 ≡ texts_view vs ++ (x ∷ y ∷ [])
two_pushed vs vs1 vs2 a b x y e f p q =
    one_pushed vs1 vs2 b y f q ∙ ap (λ (l : List (List ℕ)). l ++ y ∷ []) (one_pushed vs vs1 a x e p) ∙ list_assoc (texts_view vs) (x ∷ []) (y ∷ [])

pub front_pushed : (vs vs1 vs2 vs3 : List (Vec ℕ Global)) (a b : Vec ℕ Global) (x y : List ℕ) (rest : List (List ℕ)) → vs ≡ [] → vs1 ≡ vs ++ a ∷ [] → vs2 ≡ vs1 ++ b ∷ [] → a.items ≡ x → b.items ≡ y → texts_view vs3 ≡ texts_view vs2 ++ rest → texts_view vs3 ≡ x ∷ y ∷ rest
front_pushed vs vs1 vs2 vs3 a b x y rest n e f p q g =
    g ∙ ap (λ (l : List (List ℕ)). l ++ rest) (two_pushed vs vs1 vs2 a b x y e f p q ∙ ap (λ (l : List (Vec ℕ Global)). texts_view l ++ (x ∷ y ∷ [])) n)

-- one page more
page_more : (frame : Frame) (font : ℕ) (vs vs1 : List (List ℕ)) (n n1 left left1 : ℕ) (rest now later : List SheetGlyph) (all : List (List ℕ)) → left ≡ suc left1 → n1 ≡ n + 2 → now ≡ take 192 rest → later ≡ drop 192 rest → vs1 ≡ vs ++ (page_value font (n + 1) ∷ stream_value (content frame now) ∷ []) → vs ++ page_values frame font n (pages_by left rest) ≡ all → vs1 ++ page_values frame font n1 (pages_by left1 later) ≡ all
page_more frame font vs vs1 n n1 left left1 rest now later all e f p q g h =
    let X = page_values frame font (n + 2) (pages_by left1 (drop 192 rest)) in
    ap (λ m. vs1 ++ page_values frame font m (pages_by left1 later)) f
    ∙ ap (λ (r : List SheetGlyph). vs1 ++ page_values frame font (n + 2) (pages_by left1 r)) q
    ∙ ap (λ (l : List (List ℕ)). l ++ X) g
    ∙ list_assoc vs (page_value font (n + 1) ∷ stream_value (content frame now) ∷ []) X
    ∙ ap (λ (gs : List SheetGlyph). vs ++ (page_value font (n + 1) ∷ stream_value (content frame gs) ∷ X)) p
    ∙ ap (λ m. vs ++ page_values frame font n (pages_by m rest)) (sym e) ∙ h

first_glyphs : (size : ℕ) (gs : List SheetGlyph) → size ≡ min (length gs) 192 → (length gs < 192) ⊎ (192 ≤ length gs) → take size gs ≡ take 192 gs
first_glyphs size gs e (inl l) = take_all size gs (omega arith) ∙ sym (take_all 192 gs (omega arith))
first_glyphs size gs e (inr l) = let equal : size ≡ 192 = omega arith in ap (λ k. take k gs) equal

later_glyphs : (size : ℕ) (gs : List SheetGlyph) → size ≡ min (length gs) 192 → (length gs < 192) ⊎ (192 ≤ length gs) → drop size gs ≡ drop 192 gs
later_glyphs size gs e (inl l) = drop_all size gs (omega arith) ∙ sym (drop_all 192 gs (omega arith))
later_glyphs size gs e (inr l) = let equal : size ≡ 192 = omega arith in ap (λ k. drop k gs) equal

to_the_end : (size : ℕ) (gs : List SheetGlyph) → take (length gs - size) (drop size gs) ≡ drop size gs
to_the_end size gs =
    let left : length (drop size gs) ≡ length gs - size = length-drop size gs in
    take_all (length gs - size) (drop size gs) (omega arith)

pub page_cut : (frame : Frame) (font : ℕ) (vs vs1 : List (List ℕ)) (n n1 left left1 size : ℕ) (rest : List SheetGlyph) (all : List (List ℕ)) → left ≡ suc left1 → n1 ≡ n + 2 → size ≡ min (length rest) 192 → vs1 ≡ vs ++ (page_value font (n + 1) ∷ stream_value (content frame (take size rest)) ∷ []) → vs ++ page_values frame font n (pages_by left rest) ≡ all → vs1 ++ page_values frame font n1 (pages_by left1 (take (length rest - size) (drop size rest))) ≡ all
page_cut frame font vs vs1 n n1 left left1 size rest all e f s g h =
    page_more frame font vs vs1 n n1 left left1 rest (take size rest) (take (length rest - size) (drop size rest)) all e f
    (first_glyphs size rest s (below_or_not (length rest) 192)) (to_the_end size rest ∙ later_glyphs size rest s (below_or_not (length rest) 192)) g h

-- ---- objects

next_by : (values : List (Vec ℕ Global)) (i : ℕ) (d : Vec ℕ Global) → i < length values → texts_view (drop i values) ≡ (get_or values i d).items ∷ texts_view (drop (suc i) values)
next_by [] i d l = absurd (omega arith)
next_by (v ∷ values) zero d l = refl
next_by (v ∷ values) (suc i) d l = next_by values i d (omega arith)

pub value_next : (values : List (Vec ℕ Global)) (i : ℕ) (d : Vec ℕ Global) → i < length values → texts_view (drop i values) ≡ (get_or values i d).items ∷ texts_view (drop (i + 1) values)
value_next values i d l =
    let same : suc i ≡ i + 1 = omega arith in
    next_by values i d l ∙ ap (λ n. (get_or values i d).items ∷ texts_view (drop n values)) same

pub text_more : (w w1 : List ℕ) (n n1 : ℕ) (v : List ℕ) (vs vs1 : List (List ℕ)) (all : List ℕ) → vs ≡ v ∷ vs1 → n1 ≡ n + 1 → w1 ≡ w ++ object_text n v → w ++ concat (objects_from n vs) ≡ all → w1 ++ concat (objects_from n1 vs1) ≡ all
text_more w w1 n n1 v vs vs1 all e f g h =
    ap (λ m. w1 ++ concat (objects_from m vs1)) f
    ∙ one_more_written w (object_text n v) (concat (objects_from (n + 1) vs1)) all w1 g (ap (λ (l : List (List ℕ)). w ++ concat (objects_from n l)) (sym e) ∙ h)

pub offsets_more : (os os1 w w1 : List ℕ) (n n1 : ℕ) (v : List ℕ) (vs vs1 : List (List ℕ)) (all : List ℕ) → vs ≡ v ∷ vs1 → n1 ≡ n + 1 → os1 ≡ os ++ length w ∷ [] → w1 ≡ w ++ object_text n v → os ++ offsets_from (length w) (objects_from n vs) ≡ all → os1 ++ offsets_from (length w1) (objects_from n1 vs1) ≡ all
offsets_more os os1 w w1 n n1 v vs vs1 all e f p g h =
    ap (λ m. os1 ++ offsets_from (length w1) (objects_from m vs1)) f
    ∙ one_more_offset os os1 w w1 (object_text n v) (objects_from (n + 1) vs1) all p g (ap (λ (l : List (List ℕ)). os ++ offsets_from (length w) (objects_from n l)) (sym e) ∙ h)

-- ---- the font after the other objects

objects-append : (n : ℕ) (xs ys : List (List ℕ)) (m : ℕ) → m ≡ n + length xs → objects_from n (xs ++ ys) ≡ objects_from n xs ++ objects_from m ys
objects-append n [] ys m e = let same : n ≡ m = omega arith in ap (λ k. objects_from k ys) same
objects-append n (x ∷ xs) ys m e = ap (λ (ts : List (List ℕ)). object_text n x ∷ ts) (objects-append (n + 1) xs ys m (omega arith))

offsets-append : (b : ℕ) (ts us : List (List ℕ)) → offsets_from b (ts ++ us) ≡ offsets_from b ts ++ offsets_from (b + length (concat ts)) us
offsets-append b [] us = let same : b ≡ b + 0 = omega arith in ap (λ n. offsets_from n us) same
offsets-append b (t ∷ ts) us =
    let same : (b + length t) + length (concat ts) ≡ b + length (t ++ concat ts) = omega (arith, length-append t (concat ts)) in
    ap (λ (os : List ℕ). b ∷ os) (offsets-append (b + length t) ts us ∙ ap (λ n. offsets_from (b + length t) ts ++ offsets_from n us) same)

offsets_moved : (a b : ℕ) (ts : List (List ℕ)) → map (λ o. a + o) (offsets_from b ts) ≡ offsets_from (a + b) ts
offsets_moved a b [] = refl
offsets_moved a b (t ∷ ts) =
    let same : a + (b + length t) ≡ (a + b) + length t = omega arith in
    ap (λ (os : List ℕ). (a + b) ∷ os) (offsets_moved a (b + length t) ts ∙ ap (λ n. offsets_from n ts) same)

body_joined : (front font : List (List ℕ)) (first : ℕ) → first ≡ 1 + length front → body_of (front ++ font) ≡ body_of front ++ concat (objects_from first font)
body_joined front font first e =
    ap (λ (ts : List (List ℕ)). header ++ concat ts) (objects-append 1 front font first e)
    ∙ ap (λ (l : List ℕ). header ++ l) (concat-append (objects_from 1 front) (objects_from first font))
    ∙ sym (append_assoc header (concat (objects_from 1 front)) (concat (objects_from first font)))

offsets_joined : (front font : List (List ℕ)) (first : ℕ) → first ≡ 1 + length front → offsets_of (front ++ font) ≡ offsets_of front ++ map (λ o. length (body_of front) + o) (offsets_from 0 (objects_from first font))
offsets_joined front font first e =
    let same : length header + length (concat (objects_from 1 front)) ≡ length (body_of front) + 0 = omega (arith, length-append header (concat (objects_from 1 front))) in
    ap (λ (ts : List (List ℕ)). offsets_from (length header) ts) (objects-append 1 front font first e)
    ∙ offsets-append (length header) (objects_from 1 front) (objects_from first font)
    ∙ ap (λ n. offsets_of front ++ offsets_from n (objects_from first font)) same
    ∙ ap (λ (os : List ℕ). offsets_of front ++ os) (sym (offsets_moved (length (body_of front)) 0 (objects_from first font)))

length-pages_by : (count : ℕ) (gs : List SheetGlyph) → length (pages_by count gs) ≡ count
length-pages_by zero gs = refl
length-pages_by (suc count) gs = ap suc (length-pages_by count (drop 192 gs))

length-pages : (layout : Layout) (gs : List SheetGlyph) → length (pages_of layout gs) ≡ page_count layout (length gs)
length-pages Line gs = refl
length-pages Grid gs = length-pages_by (page_count Grid (length gs)) gs

length-page_values : (frame : Frame) (font n : ℕ) (ps : List (List SheetGlyph)) → length (page_values frame font n ps) ≡ 2 * length ps
length-page_values frame font n [] = refl
length-page_values frame font n (p ∷ ps) = let rest : length (page_values frame font (n + 2) ps) ≡ 2 * length ps = length-page_values frame font (n + 2) ps in omega arith

pub length-front : (layout : Layout) (frame : Frame) (gs : List SheetGlyph) → font_number (page_count layout (length gs)) ≡ 1 + length (front_values layout frame gs)
length-front layout frame gs =
    let font = font_number (page_count layout (length gs)) in
    let values : length (page_values frame font 3 (pages_of layout gs)) ≡ 2 * length (pages_of layout gs) = length-page_values frame font 3 (pages_of layout gs) in
    let pages : length (pages_of layout gs) ≡ page_count layout (length gs) = length-pages layout gs in
    omega arith

-- offsets of texts aren't above their length
offsets_within : (b : ℕ) (ts : List (List ℕ)) (most : ℕ) → b + length (concat ts) ≤ most → All (λ o. o ≤ most) (offsets_from b ts)
offsets_within b [] most l = All-nil (λ o. o ≤ most)
offsets_within b (t ∷ ts) most l =
    let size : length (t ++ concat ts) ≡ length t + length (concat ts) = length-append t (concat ts) in
    All-cons (λ o. o ≤ most) b (offsets_from (b + length t) ts) (omega arith) (offsets_within (b + length t) ts most (omega arith))

pub font_within : (text offsets : List ℕ) (ts : List (List ℕ)) → text ≡ concat ts → offsets ≡ offsets_from 0 ts → All (λ o. o ≤ length text) offsets
font_within text offsets ts e f =
    let size : length text ≡ length (concat ts) = ap length e in
    subst (λ (os : List ℕ). All (λ o. o ≤ length text) os) (sym f) (offsets_within 0 ts (length text) (omega arith))

pub joined_text : (front : List (List ℕ)) (v : FontValues) (first : ℕ) (old font new : List ℕ) → first ≡ 1 + length front → old ≡ body_of front → font ≡ concat (font_objects first v) → new ≡ old ++ font → new ≡ body_of (front ++ font_values first v)
joined_text front v first old font new e f g h =
    h ∙ ap (λ (l : List ℕ). l ++ font) f ∙ ap (λ (l : List ℕ). body_of front ++ l) g ∙ sym (body_joined front (font_values first v) first e)

pub joined_offsets : (front : List (List ℕ)) (v : FontValues) (first : ℕ) (text old font new : List ℕ) → first ≡ 1 + length front → text ≡ body_of front → old ≡ offsets_of front → font ≡ offsets_from 0 (font_objects first v) → new ≡ old ++ map (λ o. length text + o) font → new ≡ offsets_of (front ++ font_values first v)
joined_offsets front v first text old font new e t f g h =
    h ∙ ap (λ (l : List ℕ). l ++ map (λ o. length text + o) font) f
    ∙ ap (λ (l : List ℕ). offsets_of front ++ map (λ o. length l + o) font) t
    ∙ ap (λ (l : List ℕ). offsets_of front ++ map (λ o. length (body_of front) + o) l) g
    ∙ sym (offsets_joined front (font_values first v) first e)

length-view : (texts : List (Vec ℕ Global)) → length (texts_view texts) ≡ length texts
length-view [] = refl
length-view (t ∷ ts) = ap suc (length-view ts)

pub view_after : (texts : List (Vec ℕ Global)) → 1 + length texts ≡ 1 + length (texts_view texts)
view_after texts = ap (λ n. 1 + n) (sym (length-view texts))

pub sheet_first : (layout : Layout) (gs : List SheetGlyph) (frame : Frame) (front : List (Vec ℕ Global)) (first : ℕ) → texts_view front ≡ front_values layout frame gs → first ≡ font_number (page_count layout (length gs)) → first ≡ 1 + length front
sheet_first layout gs frame front first f e = e ∙ length-front layout frame gs ∙ ap (λ (vs : List (List ℕ)). 1 + length vs) (sym f) ∙ ap (λ n. 1 + n) (length-view front)

pub sheet_whole : (layout : Layout) (v : FontValues) (gs : List SheetGlyph) (frame : Frame) (front : List (List ℕ)) (first : ℕ) → frame ≡ frame_of layout (is_some v.columns) gs → front ≡ front_values layout frame gs → first ≡ font_number (page_count layout (length gs)) → front ++ font_values first v ≡ sheet_values layout v gs
sheet_whole layout v gs frame front first a b e =
    ap (λ (vs : List (List ℕ)). vs ++ font_values first v) b ∙ ap (λ n. front_values layout frame gs ++ font_values n v) e
    ∙ ap (λ (fr : Frame). front_values layout fr gs ++ font_values (font_number (page_count layout (length gs))) v) a

-- ---- lines

length-line_pages : (vertical : Bool) (font n : ℕ) (ls : List SheetLine) → length (line_pages vertical font n ls) ≡ 2 * length ls
length-line_pages vertical font n [] = refl
length-line_pages vertical font n (l ∷ ls) = let rest : length (line_pages vertical font (n + 2) ls) ≡ 2 * length ls = length-line_pages vertical font (n + 2) ls in omega arith

pub lines_first : (vertical : Bool) (ls : List SheetLine) (front : List (Vec ℕ Global)) (first : ℕ) → texts_view front ≡ lines_front vertical ls → first ≡ font_number (length ls) → first ≡ 1 + length front
lines_first vertical ls front first f e =
    let size : length (texts_view front) ≡ length (lines_front vertical ls) = ap length f in
    let same : length (texts_view front) ≡ length front = length-view front in
    let pages : length (line_pages vertical (font_number (length ls)) 3 ls) ≡ 2 * length ls = length-line_pages vertical (font_number (length ls)) 3 ls in
    omega arith

pub lines_whole : (v : FontValues) (ls : List SheetLine) (front : List (List ℕ)) (first : ℕ) → front ≡ lines_front (is_some v.columns) ls → first ≡ font_number (length ls) → front ++ font_values first v ≡ lines_values v ls
lines_whole v ls front first b e =
    ap (λ (vs : List (List ℕ)). vs ++ font_values first v) b ∙ ap (λ n. lines_front (is_some v.columns) ls ++ font_values n v) e

-- ---- a file under another name of its values

pub named_file : (r : Result (Vec ℕ Global) Error) (vs ws : List (List ℕ)) → vs ≡ ws → IfOk r (λ file. file.items ≡ file_of vs) → IfOk r (λ file. file.items ≡ file_of ws)
named_file r vs ws e h = subst (λ (us : List (List ℕ)). IfOk r (λ file. file.items ≡ file_of us)) e h

pub named_table : (r : Result (Vec ℕ Global) Error) (vs ws : List (List ℕ)) → vs ≡ ws → IfOk r (λ file. AreInTable file.items (length (body_of vs)) vs) → IfOk r (λ file. AreInTable file.items (length (body_of ws)) ws)
named_table r vs ws e h = subst (λ (us : List (List ℕ)). IfOk r (λ file. AreInTable file.items (length (body_of us)) us)) e h

pub named_fault : (r : Result (Vec ℕ Global) Error) (v : FontValues) (m n : ℕ) (vs ws : List (List ℕ)) → m ≡ n → vs ≡ ws → IfErr r (λ e. (e ≡ OutOfMemory) ⊎ ((e ≡ OverflowError) × HasNoFile m v vs)) → IfErr r (λ e. (e ≡ OutOfMemory) ⊎ ((e ≡ OverflowError) × HasNoFile n v ws))
named_fault r v m n vs ws d f h =
    let first : IfErr r (λ e. (e ≡ OutOfMemory) ⊎ ((e ≡ OverflowError) × HasNoFile n v vs)) = subst (λ k. IfErr r (λ e. (e ≡ OutOfMemory) ⊎ ((e ≡ OverflowError) × HasNoFile k v vs))) d h in
    subst (λ (us : List (List ℕ)). IfErr r (λ e. (e ≡ OutOfMemory) ⊎ ((e ≡ OverflowError) × HasNoFile n v us))) f first

line_by : (ls : List SheetLine) (i : ℕ) (d : SheetLine) → i < length ls → drop i ls ≡ get_or ls i d ∷ drop (suc i) ls
line_by [] i d l = absurd (omega arith)
line_by (x ∷ ls) zero d l = refl
line_by (x ∷ ls) (suc i) d l = line_by ls i d (omega arith)

-- one line more
pub line_more : (vertical : Bool) (font : ℕ) (vs vs1 : List (List ℕ)) (n : ℕ) (ls : List SheetLine) (i : ℕ) (d : SheetLine) (all : List (List ℕ)) → i < length ls → vs1 ≡ vs ++ line_objects vertical font n (get_or ls i d) → vs ++ line_pages vertical font n (drop i ls) ≡ all → vs1 ++ line_pages vertical font (n + 2) (drop (i + 1) ls) ≡ all
line_more vertical font vs vs1 n ls i d all l e f =
    let same : i + 1 ≡ suc i = omega arith in
    ap (λ m. vs1 ++ line_pages vertical font (n + 2) (drop m ls)) same
    ∙ ap (λ (t : List (List ℕ)). t ++ line_pages vertical font (n + 2) (drop (suc i) ls)) e
    ∙ list_assoc vs (line_objects vertical font n (get_or ls i d)) (line_pages vertical font (n + 2) (drop (suc i) ls))
    ∙ ap (λ (t : List SheetLine). vs ++ line_pages vertical font n t) (sym (line_by ls i d l)) ∙ f

-- ---- digits

pub ten_digits : (n : ℕ) → digits 5 (n / 100000) ++ digits 5 n ≡ digits 10 n
ten_digits n = let same : n / 100000 ≡ n / 10 / 10 / 10 / 10 / 10 = omega arith in ap (λ m. digits 5 m ++ digits 5 n) same

pub digits_written : (n : ℕ) (w w1 w2 a b : List ℕ) → a ≡ digits 5 (n / 100000) → b ≡ digits 5 n → w1 ≡ w ++ a → w2 ≡ w1 ++ b → w2 ≡ w ++ digits 10 n
digits_written n w w1 w2 a b e f g h =
    h ∙ ap (λ (l : List ℕ). l ++ b) g ∙ append_assoc w a b ∙ ap (λ (l : List ℕ). w ++ (l ++ b)) e ∙ ap (λ (l : List ℕ). w ++ (digits 5 (n / 100000) ++ l)) f
    ∙ ap (λ (l : List ℕ). w ++ l) (ten_digits n)

-- ---- the table

next_of : (os : List ℕ) (i : ℕ) → i < length os → drop i os ≡ get_or os i 0 ∷ drop (i + 1) os
next_of os i h = rw (add-one, drop-cons os i 0)

pub rows_more : (os : List ℕ) (i : ℕ) (w w1 all : List ℕ) → i < length os → w1 ≡ w ++ row (get_or os i 0) → w ++ rows (drop i os) ≡ all → w1 ++ rows (drop (i + 1) os) ≡ all
rows_more os i w w1 all l f h =
    one_more_written w (row (get_or os i 0)) (rows (drop (i + 1) os)) all w1 f (ap (λ (l : List ℕ). w ++ rows l) (sym (next_of os i l)) ∙ h)

pub offsets_pushed : (start : ℕ) (os : List ℕ) (i : ℕ) (w w1 all : List ℕ) → i < length os → w1 ≡ w ++ (start + get_or os i 0) ∷ [] → w ++ map (λ o. start + o) (drop i os) ≡ all → w1 ++ map (λ o. start + o) (drop (i + 1) os) ≡ all
offsets_pushed start os i w w1 all l f h =
    one_more_written w ((start + get_or os i 0) ∷ []) (map (λ o. start + o) (drop (i + 1) os)) all w1 f (ap (λ (l : List ℕ). w ++ map (λ o. start + o) l) (sym (next_of os i l)) ∙ h)

pub trailer_written : (size start : ℕ) (w w1 w2 w3 w4 w5 : List ℕ) → w1 ≡ w ++ codes "trailer\n<< /Size " → w2 ≡ w1 ++ decimal size → w3 ≡ w2 ++ codes " /Root 1 0 R >>\nstartxref\n" → w4 ≡ w3 ++ decimal start → w5 ≡ w4 ++ codes "\n%%EOF\n" → w5 ≡ w ++ trailer size start
trailer_written size start w w1 w2 w3 w4 w5 e f g h i =
    five_written w (codes "trailer\n<< /Size ") (decimal size) (codes " /Root 1 0 R >>\nstartxref\n") (decimal start) (codes "\n%%EOF\n") w1 w2 w3 w4 w5 e f g h i

pub table_written : (os : List ℕ) (start : ℕ) (w w1 w2 w3 : List ℕ) → start ≡ length w → w1 ≡ w ++ table_front (length os + 1) → w2 ≡ w1 ++ rows os → w3 ≡ w2 ++ trailer (length os + 1) start → w3 ≡ w ++ table_and_trailer os (length w)
table_written os start w w1 w2 w3 e f g h =
    three_written w (table_front (length os + 1)) (rows os) (trailer (length os + 1) start) w1 w2 w3 f g h
    ∙ ap (λ n. w ++ (table_front (length os + 1) ++ (rows os ++ trailer (length os + 1) n))) e
