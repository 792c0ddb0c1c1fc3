-- ToUnicode of a text is read.
use Rattle.std.proofs.Common.{◌≡◌, ℕ, ◌+◌, ◌-◌, ◌/◌, ◌%◌, ◌<◌, ◌≤◌, Bool, true, false, List, [], ◌∷◌, length, drop, Option, Some, None, refl, arith}
use Rattle.std.specs.Prelude.{All, nat_lt, if◌then◌else◌}
use Rattle.std.proofs.lemmas.Bool.{ltb-false, ltb-true}
use Rattle.std.proofs.lemmas.List.Elements.{All-cons, All-head, All-nil, All-tail}
use Rattle.subsetter_base.specs.Texts.{utf16}
use Rattle.pdf_text.specs.Cmaps.Cmap.{IsLine}
use Rattle.pdf_text.proofs.CmapsLaws.CmapLaws.Read.{cmap_is_read}
use Rattle.pdf_codes.specs.Units.{is_left_out}
use Rattle.pdf_runs.specs.declared.codes.Pair.{Pair}
use Rattle.pdf_text_font.specs.Laws.{TextsAreRead}
use Rattle.pdf_text_font.specs.Texts.{IsCharacter, line_of, lines_from, said_by}

-- ---- units

abbrev IsUnit : ℕ → Type 0
IsUnit u = u < 65536

pub record AreUnits (us : List ℕ) : Type 0 where
  pub some : 0 < length us
  pub units : All IsUnit us

one_unit : (c : ℕ) → c < 65536 → AreUnits (c ∷ [])
one_unit c lt = record { some = omega arith; units = All-cons IsUnit c [] lt (All-nil IsUnit) }

two_small : (d : ℕ) → d < 1048576 → AreUnits ((55296 + d / 1024) ∷ (56320 + d % 1024) ∷ [])
two_small d lt = record {
  some = omega arith;
  units = All-cons IsUnit (55296 + d / 1024) ((56320 + d % 1024) ∷ []) (omega arith) (All-cons IsUnit (56320 + d % 1024) [] (omega arith) (All-nil IsUnit));
}

by_test : (c : ℕ) (b : Bool) → nat_lt c 65536 ≡ b → c < 1114112 → AreUnits (if b then c ∷ [] else (55296 + (c - 65536) / 1024) ∷ (56320 + (c - 65536) % 1024) ∷ [])
by_test c true e lt = one_unit c (ltb-true c 65536 e)
by_test c false e lt = two_small (c - 65536) (omega (arith, ltb-false c 65536 e))

units_of : (c : ℕ) → c < 1114112 → AreUnits (utf16 c)
units_of c lt = by_test c (nat_lt c 65536) refl lt

-- ---- what is said

said_small : (b : Bool) (c : ℕ) → c < 1114112 → (if b then 8288 else c) < 1114112
said_small true c lt = omega arith
said_small false c lt = lt

said : (o : Option ℕ) → IsCharacter o → said_by o < 1114112
said None h = omega arith
said (Some c) lt = said_small (is_left_out c) c lt

is_line : (code : ℕ) (p : Pair) → code < 65536 → IsCharacter p.says → IsLine (line_of code p)
is_line code p lt h = let us = units_of (said_by p.says) (said p.says h) in record { code = lt; some = us.some; units = us.units }

abbrev Says : Pair → Type 0
Says p = IsCharacter p.says

lines_are : (code : ℕ) (ps : List Pair) → code + length ps ≤ 65536 → All Says ps → All IsLine (lines_from code ps)
lines_are code [] few h = All-nil IsLine
lines_are code (p ∷ ps) few h =
    All-cons IsLine (line_of code p) (lines_from (code + 1) ps) (is_line code p (omega arith) (All-head Says p ps h)) (lines_are (code + 1) ps (omega arith) (All-tail Says p ps h))

all_lines : (ps : List Pair) → length ps ≤ 65536 → All Says ps → All IsLine (lines_from 1 (drop 1 ps))
all_lines [] few h = All-nil IsLine
all_lines (p ∷ ps) few h = lines_are 1 ps (omega arith) (All-tail Says p ps h)

pub texts_are_read : TextsAreRead
texts_are_read ps few h = cmap_is_read (lines_from 1 (drop 1 ps)) (all_lines ps few h)
