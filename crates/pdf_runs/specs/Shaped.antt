-- Items of glyphs that have cluster numbers.
use Rattle.std.specs.Prelude.{ℕ, ◌+◌, ◌-◌, ◌==◌, ◌&&◌, nat_le, nat_lt, Bool, true, false, if◌then◌else◌, List, [], ◌∷◌}
use Rattle.std.specs.Prelude.{length, map, take, drop, slice_get, unwrap_or, Option, Some, None, ℤ}
use Rattle.std.specs.Borrow.{Bor}
use Rattle.std.specs.List.{list_all, prefix_len}
use Rattle.std.specs.Option.{option_map}
use Rattle.pdf_runs.specs.declared.items.Direction.{Direction}
use Rattle.pdf_runs.specs.declared.items.Direction.TheVariants.{LeftToRight, RightToLeft, TopToBottom}
use Rattle.pdf_runs.specs.declared.items.Item.{Item}
use Rattle.pdf_runs.specs.declared.shaped.Shaped.{Shaped}
use Rattle.pdf_runs.specs.declared.shaped.Unit.{Unit as Counted}
use Rattle.pdf_runs.specs.declared.shaped.Unit.TheVariants.{Utf8, Utf16, Utf32}

-- ---- numbers of units

-- how many units a character has (Unicode, 3.9, "Unicode Encoding Forms")
abbrev pub width : Counted → ℕ → ℕ
width Utf8 c = if nat_lt c 0x80 then 1 else if nat_lt c 0x800 then 2 else if nat_lt c 0x10000 then 3 else 4
width Utf16 c = if nat_lt c 0x10000 then 1 else 2
width Utf32 c = 1

-- where characters begin, from a number of units on
abbrev pub starts : Counted → ℕ → List ℕ → List ℕ
starts u at [] = []
starts u at (c ∷ cs) = at ∷ starts u (at + width u c) cs

-- how many characters begin before a number of units
abbrev pub place_in : List ℕ → ℕ → ℕ
place_in ss n = prefix_len (λ s. nat_lt s n) ss

-- whether the next one begins there
abbrev pub is_at : Option ℕ → ℕ → Bool
is_at None n = false
is_at (Some s) n = s == n

abbrev pub is_start : List ℕ → ℕ → Bool
is_start ss n = is_at (slice_get ss (place_in ss n)) n

-- ---- places of clusters

-- the place in the text of each glyph's cluster
abbrev pub places : List ℕ → List Shaped → List ℕ
places ss gs = map (λ (g : Shaped). place_in ss g.cluster) gs

abbrev pub are_starts : List ℕ → List Shaped → Bool
are_starts ss gs = list_all (λ (g : Shaped). is_start ss g.cluster) gs

-- in reading order places don't fall
abbrev pub follows : Direction → Option ℕ → ℕ → Bool
follows d None p = true
follows LeftToRight (Some b) p = nat_le b p
follows RightToLeft (Some b) p = nat_le p b
follows TopToBottom (Some b) p = nat_le b p

abbrev pub are_ordered : Direction → Option ℕ → List ℕ → Bool
are_ordered d before [] = true
are_ordered d before (p ∷ ps) = follows d before p && are_ordered d (Some p) ps

-- ---- the text of a cluster

-- the next place, of `count` places, that is another one, or the end
abbrev pub next_place : ℕ → ℕ → List ℕ → ℕ
next_place count p [] = count
next_place count p (q ∷ qs) = if q == p then next_place count p qs else q

-- the next greater place in the run: after the glyph, or before it where the run is from right to left
abbrev pub end_of : Direction → ℕ → Option ℕ → ℕ → List ℕ → ℕ
end_of LeftToRight count before p later = next_place count p later
end_of RightToLeft count before p later = unwrap_or before count
end_of TopToBottom count before p later = next_place count p later

-- the characters from a place to another
abbrev pub between : List ℕ → ℕ → ℕ → List ℕ
between cs start end = take (end - start) (drop start cs)

-- the first glyph of a cluster has its text, which goes to the next greater place
abbrev pub label : Direction → List ℕ → Option ℕ → ℕ → List ℕ → Option (List ℕ)
label d cs before p later = if is_at before p then None else Some (between cs p (end_of d (length cs) before p later))

-- ---- items

-- an item, with its text as it is
pub record Labelled : Type 0 where
  pub glyph : ℕ
  pub text : Option (List ℕ)
  pub x_advance : ℤ
  pub y_advance : ℤ
  pub x_offset : ℤ
  pub y_offset : ℤ

abbrev pub text_seen : Option (Bor (List ℕ)) → Option (List ℕ)
text_seen t = option_map (λ (b : Bor (List ℕ)). b.now) t

abbrev pub seen : Item → Labelled
seen i =
    record {
      glyph = i.glyph;
      text = text_seen i.text;
      x_advance = i.x_advance;
      y_advance = i.y_advance;
      x_offset = i.x_offset;
      y_offset = i.y_offset;
    }

abbrev pub labelled : Shaped → Option (List ℕ) → Labelled
labelled g t =
    record {
      glyph = g.glyph;
      text = t;
      x_advance = g.x_advance;
      y_advance = g.y_advance;
      x_offset = g.x_offset;
      y_offset = g.y_offset;
    }

-- glyphs with their places after another
abbrev pub all_labelled : Direction → List ℕ → Option ℕ → List ℕ → List Shaped → List Labelled
all_labelled d cs before [] gs = []
all_labelled d cs before (p ∷ ps) [] = []
all_labelled d cs before (p ∷ ps) (g ∷ gs) = labelled g (label d cs before p ps) ∷ all_labelled d cs (Some p) ps gs

abbrev pub items_of : Direction → Counted → List ℕ → List Shaped → List Labelled
items_of d u cs gs = all_labelled d cs None (places (starts u 0 cs) gs) gs

-- glyphs have 16 bits
abbrev pub are_small : List Shaped → Bool
are_small gs = list_all (λ (g : Shaped). nat_lt g.glyph 65536) gs

-- whether glyphs are of a text: each cluster number is where a character begins, and in reading order they don't fall
abbrev pub is_shaped : Direction → Counted → List ℕ → List Shaped → Bool
is_shaped d u cs gs = are_starts (starts u 0 cs) gs && (are_ordered d None (places (starts u 0 cs) gs) && are_small gs)
