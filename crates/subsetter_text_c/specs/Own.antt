-- Own glyphs of a text, as C has them: of each one its advance, and how many parts there are up to the end of its own.
use Rattle.std.specs.Prelude.{ℕ, ◌+◌, ◌-◌, ◌&&◌, nat_le, nat_lt, Bool, true, List, [], ◌∷◌, ◌++◌, length, map, take}
use Rattle.std.specs.Prelude.{drop, ℤ, pos, negsuc}
use Rattle.std.specs.List.{list_all}
use Rattle.pdf_figures.specs.declared.ink.OwnInk.{OwnInk}
use Rattle.pdf_figures.specs.declared.ink.Placed.{Placed}
use Rattle.pdf_figures.specs.Figures.{Ink, own}
use Rattle.pdf_figures.specs.View.{drawn_of}
use Rattle.subsetter_text_c.specs.declared.own.TextOwn.{TextOwn}
use Rattle.subsetter_text_c.specs.declared.own.TextPart.{TextPart}

-- ---- from C

-- a number has 16 bits
abbrev pub is_short : ℤ → Bool
is_short (pos n) = nat_lt n 32768
is_short (negsuc n) = nat_lt n 32768

abbrev pub is_part : TextPart → Bool
is_part p = nat_lt p.glyph 65536 && (is_short p.x && is_short p.y)

abbrev pub place_in : TextPart → Placed
place_in p = record { glyph = p.glyph; x = p.x; y = p.y }

-- the parts of an own glyph, after `before` parts of others, are the first of the `left` that are left
abbrev pub is_own : ℕ → ℕ → TextOwn → Bool
is_own before left o = nat_lt o.advance 65536 && (nat_le before o.part_end && nat_le (o.part_end - before) left)

abbrev pub are_ends : ℕ → ℕ → List TextOwn → Bool
are_ends before left [] = true
are_ends before left (o ∷ os) = is_own before left o && are_ends o.part_end (left - (o.part_end - before)) os

abbrev pub are_own : List TextOwn → List TextPart → Bool
are_own os ps = list_all is_part ps && are_ends 0 (length ps) os

-- own glyphs whose parts, after `before` parts of others, are the first of these
abbrev pub own_in : ℕ → List TextOwn → List Placed → List Ink
own_in before [] ps = []
own_in before (o ∷ os) ps =
    own (map drawn_of (take (o.part_end - before) ps)) o.advance ∷ own_in o.part_end os (drop (o.part_end - before) ps)

abbrev pub inks_in : List TextOwn → List TextPart → List Ink
inks_in os ps = own_in 0 os (map place_in ps)

-- ---- to C

abbrev pub part_of : Placed → TextPart
part_of p = record { glyph = p.glyph; x = p.x; y = p.y }

abbrev pub parts_of : List OwnInk → List TextPart
parts_of [] = []
parts_of (o ∷ os) = map part_of o.parts.items ++ parts_of os

abbrev pub owns_of : ℕ → List OwnInk → List TextOwn
owns_of before [] = []
owns_of before (o ∷ os) =
    record { advance = o.advance; part_end = before + length o.parts.items }
    ∷ owns_of (before + length o.parts.items) os
