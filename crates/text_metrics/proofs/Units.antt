-- unitsPerEm of advances that are found isn't 0.
use Rattle.std.proofs.Common.{◌≡◌, ℕ, ◌<◌, List, Option, Ok, ℤ, subst, arith}
use Rattle.std.specs.Option.{ok_or}
use Rattle.std.specs.Prelude.{codes}
use Rattle.subsetter_base.specs.declared.tag.Tag.{Tag}
use Rattle.subsetter_base.specs.declared.error.Error.TheVariants.{MalformedFont}
use Rattle.subsetter_base.proofs.Results.{bind_ok, done_is}
use Rattle.subsetter_sfnt.specs.Fields.Head.{units_per_em}
use Rattle.subsetter_sfnt.specs.Read.{Font, table_in}
use Rattle.cid_embed.specs.Afresh.{if_units}
use Rattle.font_advances.specs.Advances.{Advances, advances_by, advances_of, opening, units_in}
use Rattle.font_advances.specs.Heights.{heights_in}
use Rattle.font_advances.specs.Widths.{widths_of}
use Rattle.font_advances.specs.declared.widths.Outlines.{Outlines}

divides : (found units : ℕ) → if_units found ≡ Ok units → 0 < units
divides found units h = grind arith

units_above : (find : List ℕ → Option (List ℕ)) (units : ℕ) → units_in find ≡ Ok units → 0 < units
unfolding units_in
units_above find units h =
    let (head, _, following) = bind_ok (ok_or (find (codes "head")) MalformedFont) _ units h in
    let (found, _, last) = bind_ok (ok_or (units_per_em head) MalformedFont) _ units following in
    divides found units last

found_above : (outlines : Outlines) (find : List ℕ → Option (List ℕ)) (settings : List (Tag × ℤ)) (steps : ℕ) (glyphs : List ℕ) (a : Advances) → advances_by outlines find settings steps glyphs ≡ Ok a → 0 < a.units_per_em
unfolding advances_by
found_above outlines find settings steps glyphs a h =
    let (units, is, following) = bind_ok (units_in find) _ a h in
    let (widths, _, last) = bind_ok (widths_of outlines find settings steps glyphs) _ a following in
    subst (λ (b : Advances). 0 < b.units_per_em) (done_is (record { units_per_em = units; widths = widths; heights = heights_in find settings units glyphs }) a last) (units_above find units is)

pub above : (font : Font) (settings : List (Tag × ℤ)) (steps : ℕ) (glyphs : List ℕ) (a : Advances) → advances_of font settings steps glyphs ≡ Ok a → 0 < a.units_per_em
unfolding advances_of
above font settings steps glyphs a h =
    let (o, _, following) = bind_ok (opening font) _ a h in
    found_above o.1 (table_in font.bytes o.0) settings steps glyphs a following
