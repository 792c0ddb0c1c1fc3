-- The glyphs of a run, as C has them: with the ranges of their texts among characters.
use Rattle.std.specs.Prelude.{ℕ, ◌==◌, ◌&&◌, ◌||◌, not, nat_le, nat_lt, Bool, if◌then◌else◌, List, Option, Some, None}
use Rattle.std.specs.List.{list_all}
use Rattle.pdf_runs.specs.Shaped.{Labelled, between}
use Rattle.subsetter_text_c.specs.declared.items.TextItem.{TextItem}

-- the text that begins at a glyph, if any does, is among `count` characters
abbrev pub is_ranged : ℕ → TextItem → Bool
is_ranged count i = not (i.continues == 0) || (nat_le i.start i.end && nat_le i.end count)

abbrev pub is_item : ℕ → TextItem → Bool
is_item count i = nat_lt i.glyph 65536 && is_ranged count i

abbrev pub are_items : ℕ → List TextItem → Bool
are_items count is = list_all (is_item count) is

abbrev pub text_in : List ℕ → TextItem → Option (List ℕ)
text_in cs i = if i.continues == 0 then Some (between cs i.start i.end) else None

abbrev pub labelled_in : List ℕ → TextItem → Labelled
labelled_in cs i =
    record {
      glyph = i.glyph;
      text = text_in cs i;
      x_advance = i.x_advance;
      y_advance = i.y_advance;
      x_offset = i.x_offset;
      y_offset = i.y_offset;
    }
