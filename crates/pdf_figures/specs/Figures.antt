-- What draws the glyphs of a run: glyphs of the font, and own ones, which are glyphs of it, each at a place, with an
-- advance.
use Rattle.std.specs.Prelude.{ℕ, zero, suc, ◌+◌, ◌-◌, ◌*◌, ◌/◌, ◌==◌, ◌&&◌, ◌||◌, not, nat_lt, Bool, true, false}
use Rattle.std.specs.Prelude.{if◌then◌else◌, List, [], ◌∷◌, ◌++◌, length, map, take, get_or, flat_map, Option, None, ℤ}
use Rattle.std.specs.Prelude.{pos, negsuc, ◌-ℤ◌, unsigned_abs}
use Rattle.std.specs.Borrow.{Bor}
use Rattle.std.specs.List.{list_any}
use Rattle.std.specs.Ordering.{int_eq}
use Rattle.pdf_runs.specs.declared.items.Direction.{Direction}
use Rattle.pdf_runs.specs.declared.items.Direction.TheVariants.{LeftToRight, RightToLeft, TopToBottom}
use Rattle.pdf_runs.specs.declared.items.Item.{Item}
use Rattle.pdf_runs.specs.Clusters.{clusters}
use Rattle.pdf_runs.specs.Items.{in_reading, text_of, visual}
use Rattle.pdf_runs.specs.Laws.{Drawn, total, wanted}
use Rattle.pdf_runs.specs.Marks.{is_mark}
use Rattle.pdf_runs.specs.Shares.{first_count}
use Rattle.pdf_figures.specs.declared.choice.Choice.{Choice}

-- ---- figures

-- what is drawn: a glyph of the font, or an own one, of parts at places from its origin, with an advance; without parts
-- it is a blank
pub data Ink : Type 0 where
  glyph : ℕ → Ink
  own : List Drawn → ℕ → Ink

-- an item of a run that draws it
pub record Figured : Type 0 where
  pub ink : Ink
  pub text : Option (Bor (List ℕ))
  pub x_advance : ℤ
  pub y_advance : ℤ
  pub x_offset : ℤ
  pub y_offset : ℤ

-- an item as it is: one glyph of the font
abbrev pub plain : Item → Figured
plain i =
    record {
      ink = glyph i.glyph;
      text = i.text;
      x_advance = i.x_advance;
      y_advance = i.y_advance;
      x_offset = i.x_offset;
      y_offset = i.y_offset;
    }

-- without ink and without advance
abbrev pub blank : Option (Bor (List ℕ)) → Figured
blank t = record { ink = own [] 0; text = t; x_advance = pos 0; y_advance = pos 0; x_offset = pos 0; y_offset = pos 0 }

-- ---- which own glyphs there can be

-- from the origin by less than 2^14 units, or back by that: a box within 2^14 units, so moved, has 16 bits
abbrev pub is_place : ℤ → Bool
is_place (pos n) = nat_lt n 16384
is_place (negsuc n) = nat_lt n 16384

abbrev pub is_advance : ℤ → Bool
is_advance (pos n) = nat_lt n 65536
is_advance (negsuc n) = false

abbrev pub is_placed : Bool → Drawn → Bool
is_placed true p = int_eq p.x (pos 0) && int_eq p.y (pos 0)
is_placed false p = is_place p.x && is_place p.y

abbrev pub is_part : Choice → Drawn → Bool
is_part c p = get_or c.can_be_part.now p.glyph false && is_placed c.is_still p

-- whether all are parts, and no more than there is room for
abbrev pub are_parts : Choice → ℕ → List Drawn → Bool
are_parts c room [] = true
are_parts c zero (p ∷ ps) = false
are_parts c (suc room) (p ∷ ps) = is_part c p && are_parts c room ps

abbrev pub can_be_own : Choice → List Drawn → ℤ → Bool
can_be_own c ps a = are_parts c c.most_parts ps && is_advance a

-- ---- a cluster in one

-- it has an offset; one glyph that is only moved to the side is kerned
abbrev pub is_moved : Bool → Item → Bool
is_moved alone i =
    not (int_eq i.y_offset (pos 0)) || (not (int_eq i.x_offset (pos 0)) && (not alone || int_eq i.x_advance (pos 0)))

abbrev pub is_zeroth : Item → Bool
is_zeroth i = i.glyph == 0

-- it has a text and not glyph 0, and glyphs that are moved or are more than its characters
abbrev pub wants_one : List Item → Bool
wants_one is =
    (nat_lt 0 (length (text_of is)) && not (list_any is_zeroth is))
    && (list_any (is_moved (length is == 1)) is || (nat_lt 1 (length is) && nat_lt (length (text_of is)) (length is)))

-- its glyphs from its pen on, and how far the pen goes on
abbrev pub parts_of : Choice → List Item → List Drawn
parts_of c is = wanted c.inked.now (pos 0) (pos 0) is

abbrev pub x_total : List Item → ℤ
x_total is = total (λ (i : Item). i.x_advance) is

abbrev pub y_total : List Item → ℤ
y_total is = total (λ (i : Item). i.y_advance) is

abbrev pub title_of : List Item → Option (Bor (List ℕ))
title_of [] = None
title_of (i ∷ is) = i.text

abbrev pub whole : Choice → List Item → Figured
whole c is =
    record {
      ink = own (parts_of c is) (unsigned_abs (x_total is));
      text = title_of is;
      x_advance = x_total is;
      y_advance = pos 0;
      x_offset = pos 0;
      y_offset = pos 0;
    }

abbrev pub is_whole : Choice → List Item → Bool
is_whole c is = can_be_own c (parts_of c is) (x_total is) && int_eq (y_total is) (pos 0)

-- ---- a glyph far off its advance

-- aside by more than a tenth of the em, or with an advance so much less than the font's
abbrev pub is_back : Choice → Item → Bool
is_back c i =
    nat_lt c.units (10 * unsigned_abs i.x_offset)
    || nat_lt (c.units + 10 * unsigned_abs i.x_advance) (10 * get_or c.advances.now i.glyph 0)

abbrev pub aside : Item → List Drawn
aside i = record { glyph = i.glyph; x = i.x_offset; y = pos 0 } ∷ []

abbrev pub is_aside : Choice → Item → Bool
is_aside c i =
    (not (is_zeroth i) && get_or c.inked.now i.glyph true)
    && (int_eq i.y_offset (pos 0) && (is_back c i && can_be_own c (aside i) i.x_advance))

-- it becomes an own one with the run's advance
abbrev pub set_aside : Item → Figured
set_aside i =
    record {
      ink = own (aside i) (unsigned_abs i.x_advance);
      text = i.text;
      x_advance = i.x_advance;
      y_advance = i.y_advance;
      x_offset = pos 0;
      y_offset = pos 0;
    }

abbrev pub beside : Choice → Item → Figured
beside c i = if is_aside c i then set_aside i else plain i

-- a glyph as it is, or so
abbrev pub beside_unless : Bool → Choice → Item → Figured
beside_unless true c i = plain i
beside_unless false c i = beside c i

-- ---- a figure of several characters

abbrev pub ink_parts : Ink → List Drawn
ink_parts (glyph g) = record { glyph = g; x = pos 0; y = pos 0 } ∷ []
ink_parts (own ps a) = ps

-- a glyph's advance is the font's
abbrev pub ink_advance : Choice → Ink → ℕ
ink_advance c (glyph g) = get_or c.advances.now g 0
ink_advance c (own ps a) = a

-- a glyph without ink and without advance
abbrev pub is_bare : List Bool → Figured → ℕ → Bool
is_bare inked f g = not (get_or inked g true) && int_eq f.x_advance (pos 0) && int_eq f.y_advance (pos 0)

-- a glyph that can be a part, but not glyph 0, nor one without ink and advance; or an own glyph
abbrev pub is_divisible_ink : Choice → Figured → Ink → Bool
is_divisible_ink c f (glyph g) =
    (not (g == 0) && not (is_bare c.inked.now f g)) && is_part c (record { glyph = g; x = pos 0; y = pos 0 })
is_divisible_ink c f (own ps a) = true

-- the pen goes on by less than 2^30 units
abbrev pub is_short_way : ℤ → Bool
is_short_way z = nat_lt (unsigned_abs z) 1073741824

abbrev pub is_divisible : Choice → Figured → Bool
is_divisible c f = is_divisible_ink c f f.ink && is_short_way f.x_advance

-- how many characters are no marks
abbrev pub wide_count : List ℕ → ℕ
wide_count [] = 0
wide_count (c ∷ cs) = if is_mark c then wide_count cs else suc (wide_count cs)

-- how far the pen goes on at a part: at the last one all the way that is left
abbrev pub going : ℕ → ℤ → ℕ → ℤ
going zero way part = way
going (suc more) way part = pos part

-- the part of a character that is no mark, with `more` of these after it: the ink, and an equal part of what is left of
-- the advance
abbrev pub part_of : Figured → ℕ → ℕ → Figured
part_of f width more =
    record {
      ink = own (ink_parts f.ink) (width / (more + 1));
      text = f.text;
      x_advance = going more f.x_advance (width / (more + 1));
      y_advance = f.y_advance;
      x_offset = f.x_offset;
      y_offset = f.y_offset;
    }

-- what is left then has no ink
abbrev pub rest_of : Figured → ℕ → ℕ → Figured
rest_of f width more =
    record {
      ink = own [] 0;
      text = None;
      x_advance = f.x_advance -ℤ pos (width / (more + 1));
      y_advance = pos 0;
      x_offset = pos 0;
      y_offset = pos 0;
    }

abbrev pub untitled : Figured → Figured
untitled f =
    record {
      ink = f.ink;
      text = None;
      x_advance = f.x_advance;
      y_advance = f.y_advance;
      x_offset = f.x_offset;
      y_offset = f.y_offset;
    }

-- a figure for each of the characters as they are seen; marks have no width
abbrev pub cut : Figured → ℕ → List ℕ → List Figured
cut f width [] = []
cut f width (c ∷ cs) =
    if is_mark c then blank f.text ∷ cut (untitled f) width cs
    else part_of f width (wide_count cs)
    ∷ cut (rest_of f width (wide_count cs)) (width - width / (wide_count cs + 1)) cs

-- its ink as parts
abbrev pub in_parts : Figured → Figured
in_parts f =
    record {
      ink = own (ink_parts f.ink) 0;
      text = f.text;
      x_advance = f.x_advance;
      y_advance = f.y_advance;
      x_offset = f.x_offset;
      y_offset = f.y_offset;
    }

abbrev pub cut_one : Choice → List ℕ → Figured → List Figured
cut_one c cs f =
    if nat_lt 1 (wide_count cs) && is_divisible c f then cut (in_parts f) (ink_advance c f.ink) cs else f ∷ []

-- the figure at a place is put in parts
abbrev pub at_place : ℕ → (Figured → List Figured) → List Figured → List Figured
at_place k g [] = []
at_place zero g (f ∷ fs) = g f ++ fs
at_place (suc k) g (f ∷ fs) = f ∷ at_place k g fs

-- ---- clusters

abbrev pub is_across : Direction → Bool
is_across LeftToRight = true
is_across RightToLeft = true
is_across TopToBottom = false

abbrev pub figures : Choice → List Item → List Figured
figures c is = if wants_one is then (if is_whole c is then whole c is ∷ [] else map plain is) else map (beside c) is

-- the characters of the first of `count` figures in reading order, as they are seen
abbrev pub first_share : Direction → ℕ → List Item → List ℕ
first_share d count is = visual d (take (first_count count (text_of is)) (text_of is))

-- the first figure in reading order has the characters that are left over
abbrev pub divided : Direction → Choice → List Item → List Figured → List Figured
divided d c is fs = at_place (in_reading d (length fs) 0) (cut_one c (first_share d (length fs) is)) fs

-- in vertical writing, and where own glyphs have no parts, a cluster stays as it is
abbrev pub figured_cluster : Direction → Choice → List Item → List Figured
figured_cluster d c is = if is_across d && nat_lt 0 c.most_parts then divided d c is (figures c is) else map plain is

abbrev pub figured_run : Direction → Choice → List Item → List Figured
figured_run d c is = flat_map (figured_cluster d c) (clusters is)
