-- The glyphs of a shaped run, in visual order.
use Rattle.std.specs.Prelude.{ℕ, ◌-◌, Bool, true, ◌&&◌, nat_lt, is_some, List, [], ◌∷◌, reverse, Option, Some, None}
use Rattle.std.specs.Prelude.{pos}
use Rattle.std.specs.Borrow.{Bor}
use Rattle.std.specs.List.{list_all}
use Rattle.std.specs.Ordering.{int_eq}
use Rattle.pdf_runs.specs.declared.items.Direction.{Direction}
use Rattle.pdf_runs.specs.declared.items.Direction.TheVariants.{LeftToRight, RightToLeft, TopToBottom}
use Rattle.pdf_runs.specs.declared.items.Item.{Item}

-- a list in reading order as it is seen, from left to right or from top to bottom; and back
abbrev pub visual : {A : Type 0} → Direction → List A → List A
visual LeftToRight xs = xs
visual RightToLeft xs = reverse xs
visual TopToBottom xs = xs

-- the place in reading order of what is seen at a place, of `count` places
abbrev pub in_reading : Direction → ℕ → ℕ → ℕ
in_reading LeftToRight count place = place
in_reading RightToLeft count place = count - 1 - place
in_reading TopToBottom count place = place

-- a glyph that has a text is the first of a cluster
abbrev pub begins : Item → Bool
begins i = is_some i.text

abbrev pub text_in : Option (Bor (List ℕ)) → List ℕ
text_in None = []
text_in (Some t) = t.now

-- the text of a cluster
abbrev pub text_of : List Item → List ℕ
text_of [] = []
text_of (i ∷ is) = text_in i.text

-- the pen goes on along the line: no advance y in horizontal writing, no advance x in vertical writing
abbrev pub is_along : Direction → Item → Bool
is_along LeftToRight i = int_eq i.y_advance (pos 0)
is_along RightToLeft i = int_eq i.y_advance (pos 0)
is_along TopToBottom i = int_eq i.x_advance (pos 0)

abbrev pub is_begun : List Item → Bool
is_begun [] = true
is_begun (i ∷ is) = begins i

abbrev pub are_known : ℕ → List Item → Bool
are_known count is = list_all (λ (i : Item). nat_lt i.glyph count) is

abbrev pub are_along : Direction → List Item → Bool
are_along d is = list_all (is_along d) is

-- a run of a font with `count` glyphs
abbrev pub is_run : Direction → ℕ → List Item → Bool
is_run d count is = is_begun is && are_known count is && are_along d is
