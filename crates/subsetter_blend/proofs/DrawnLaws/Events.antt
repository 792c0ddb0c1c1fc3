-- One whole event draws what its exact event draws, rounded.
use Rattle.std.proofs.Common.{◌≡◌, ℕ, zero, suc, ◌+◌, ℤ, pos, ◌+ℤ◌, ◌-ℤ◌, Bool, true, false, List, [], ◌∷◌, ◌++◌, length, map, Option, Some, None, Ok, refl, sym, ap, subst, ◌∙◌}
use Rattle.std.specs.List.{AllByRecursion}
use Rattle.std.specs.Prelude.{◌==◌, nat_le, if◌then◌else◌}
use Rattle.std.proofs.lemmas.Int.{ints}
use Rattle.std.proofs.lemmas.Bool.{eqb-true}
use Rattle.std.proofs.lemmas.Bool.Decides.{nat_tests}
use Rattle.std.proofs.Common.{arith}
use Rattle.subsetter_cffdata.specs.declared.numerals.charstring_number.CharStringNumber.{CharStringNumber}
use Rattle.subsetter_cffdata.specs.declared.numerals.charstring_number.CharStringNumber.TheVariants.{Integer}
use Rattle.subsetter_cffdata.specs.declared.dicts.operator.Operator.{Operator}
use Rattle.subsetter_cffdata.specs.declared.dicts.operator.OperatorType.{OperatorType}
use Rattle.subsetter_cffdata.specs.declared.dicts.operator.OperatorType.TheVariants.{OneByteOperator, TwoByteOperator}
use Rattle.subsetter_type2.specs.Runs.Machine as type2
use Rattle.subsetter_type2.specs.Token.{one_byte, two_byte}
use Rattle.subsetter_variation.specs.Nearest.{nearest}
use Rattle.subsetter_blend.specs.declared.axes.Along.{Along}
use Rattle.subsetter_blend.specs.declared.axes.Along.TheVariants.{X}
use Rattle.subsetter_blend.specs.declared.writing.placing.Position.{Position}
use Rattle.subsetter_blend.specs.Axes.{along}
use Rattle.subsetter_blend.specs.Drawing.{path_of, path_drawn, type_drawn, event_drawn, IsAccepted}
use Rattle.subsetter_blend.specs.Drawn.{Segment, Move, Line, Curve, Path, Rmoveto, Hmoveto, Vmoveto, Rlineto, Hlineto, Vlineto, Rrcurveto, Rcurveline, Rlinecurve, Vvcurveto, Hhcurveto, Vhcurveto, Hvcurveto, Flex, code, drawn, rounded, rounded_segment, all_rounded, point_after}
use Rattle.subsetter_blend.specs.Writing.Flex.{opened_operator}
use Rattle.subsetter_blend.specs.Hint.{is_hint}
use Rattle.subsetter_blend.specs.Runs.Kind.{type_accepts, one_byte_accepts, accepts}
use Rattle.subsetter_blend.specs.Runs.Number.{whole}
use Rattle.subsetter_blend.specs.Writing.Placed.{position_after, Placed, placed, origin}
use Rattle.subsetter_blend.specs.Writing.Marks.{type_masks}
use Rattle.subsetter_blend.specs.Writing.Split.{piece_type, front_of, rest_of, next_cut, pieces}
use Rattle.subsetter_blend.specs.Writing.Stems.{edges_from, has_stems, type_stems, stems_of}
use Rattle.subsetter_blend.specs.Writing.Taking.{Event}
use Rattle.subsetter_blend.specs.Writing.Written.{Pen, Inked, width, start_point, end_point, inked, whole_piece}
use Rattle.subsetter_blend.proofs.DrawnLaws.Steps.{diff, diffs, placed_diffs}
use Rattle.subsetter_blend.proofs.DrawnLaws.Whole.{pieces_draw_rounded}
use Rattle.subsetter_blend.proofs.WritingLaws.FittingLaws.Inked.{ink_piece}
use Rattle.subsetter_blend.proofs.WritingLaws.FittingLaws.Opening.{IsOpen}

-- ---- rounded segments
pub after_rounded : (at : Position) (s : List Segment) → point_after (rounded at) (all_rounded s) ≡ rounded (point_after at s)
after_rounded at [] = refl
after_rounded at (Move to ∷ s) = after_rounded to s
after_rounded at (Line to ∷ s) = after_rounded to s
after_rounded at (Curve first second to ∷ s) = after_rounded to s

pub rounded_append : (s t : List Segment) → all_rounded (s ++ t) ≡ all_rounded s ++ all_rounded t
rounded_append [] t = refl
rounded_append (x ∷ s) t = ap (λ (l : List Segment). rounded_segment x ∷ l) (rounded_append s t)

pub after_append : (at : Position) (s t : List Segment) → point_after at (s ++ t) ≡ point_after (point_after at s) t
after_append at [] t = refl
after_append at (Move to ∷ s) t = after_append to s t
after_append at (Line to ∷ s) t = after_append to s t
after_append at (Curve first second to ∷ s) t = after_append to s t

-- ---- the operators that draw
code_if : (b : Bool) (op : Operator) (own path : Path) (rest : Option Path) → (b ≡ true → op ≡ code own) → (rest ≡ Some path → op ≡ code path) → (if b then Some own else rest) ≡ Some path → op ≡ code path
code_if true op own path rest here there e = let p : ◌≡◌ {A = Path} own path = cc in subst (λ (x : Path). op ≡ code x) p (here refl)
code_if false op own path rest here there e = there e

pub code_of : (b : ℕ) (path : Path) → path_of b ≡ Some path → one_byte b ≡ code path
code_of b path e =
    let is : (k : ℕ) → (b == k) ≡ true → one_byte b ≡ one_byte k = λ k h. ap one_byte (eqb-true b k h) in
    code_if (b == 21) (one_byte b) Rmoveto path _ (λ h. is 21 h)
    (λ e. code_if (b == 22) (one_byte b) Hmoveto path _ (λ h. is 22 h)
    (λ e. code_if (b == 4) (one_byte b) Vmoveto path _ (λ h. is 4 h)
    (λ e. code_if (b == 5) (one_byte b) Rlineto path _ (λ h. is 5 h)
    (λ e. code_if (b == 6) (one_byte b) Hlineto path _ (λ h. is 6 h)
    (λ e. code_if (b == 7) (one_byte b) Vlineto path _ (λ h. is 7 h)
    (λ e. code_if (b == 8) (one_byte b) Rrcurveto path _ (λ h. is 8 h)
    (λ e. code_if (b == 24) (one_byte b) Rcurveline path _ (λ h. is 24 h)
    (λ e. code_if (b == 25) (one_byte b) Rlinecurve path _ (λ h. is 25 h)
    (λ e. code_if (b == 26) (one_byte b) Vvcurveto path _ (λ h. is 26 h)
    (λ e. code_if (b == 27) (one_byte b) Hhcurveto path _ (λ h. is 27 h)
    (λ e. code_if (b == 30) (one_byte b) Vhcurveto path _ (λ h. is 30 h)
    (λ e. code_if (b == 31) (one_byte b) Hvcurveto path None (λ h. is 31 h) (λ e. absurd (cc)) e) e) e) e) e) e) e) e) e) e) e) e) e

-- an operator that takes operands draws or is a hint
pub hint_of : (b n : ℕ) → path_of b ≡ None → one_byte_accepts b n ≡ true → is_hint (OneByteOperator (b ∷ [])) ≡ true
hint_of b n e a = grind (arith, nat_tests)

-- ---- the edges of stems
pub no_stems : (vertical : Bool) (path : Path) (vs : List ℤ) → type_stems vertical (code path).0 vs ≡ []
no_stems true Rmoveto vs = refl
no_stems true Hmoveto vs = refl
no_stems true Vmoveto vs = refl
no_stems true Rlineto vs = refl
no_stems true Hlineto vs = refl
no_stems true Vlineto vs = refl
no_stems true Rrcurveto vs = refl
no_stems true Rcurveline vs = refl
no_stems true Rlinecurve vs = refl
no_stems true Vvcurveto vs = refl
no_stems true Hhcurveto vs = refl
no_stems true Vhcurveto vs = refl
no_stems true Hvcurveto vs = refl
no_stems true Flex vs = refl
no_stems false Rmoveto vs = refl
no_stems false Hmoveto vs = refl
no_stems false Vmoveto vs = refl
no_stems false Rlineto vs = refl
no_stems false Hlineto vs = refl
no_stems false Vlineto vs = refl
no_stems false Rrcurveto vs = refl
no_stems false Rcurveline vs = refl
no_stems false Rlinecurve vs = refl
no_stems false Vvcurveto vs = refl
no_stems false Hhcurveto vs = refl
no_stems false Vhcurveto vs = refl
no_stems false Hvcurveto vs = refl
no_stems false Flex vs = refl

onto : (a b : ℤ) → a +ℤ (b -ℤ a) ≡ b
onto a b = omega (arith, ints)

-- each edge is rounded once
edges_rounded : (axis : ℕ → Along) (i : ℕ) (at : Position) (vs : List ℤ) → ((k : ℕ) → axis k ≡ X) → edges_from (whole at.x) (diffs axis i at vs) ≡ map whole (edges_from at.x vs)
edges_rounded axis i at [] h = refl
edges_rounded axis i at (v ∷ vs) h =
    ap (λ (a : Along). edges_from (whole at.x) (diff a v at ∷ diffs axis (i + 1) (position_after a v at) vs)) (h i)
    ∙ ap (λ (z : ℤ). z ∷ edges_from z (diffs axis (i + 1) (position_after X v at) vs)) (onto (whole at.x) (whole (at.x +ℤ v)))
    ∙ ap (λ (l : List ℤ). whole (at.x +ℤ v) ∷ l) (edges_rounded axis (i + 1) (position_after X v at) vs h)

whole_none : whole (pos 0) ≡ pos 0
unfolding whole nearest
whole_none = refl

edges_from_none : (axis : ℕ → Along) (vs : List ℤ) → ((k : ℕ) → axis k ≡ X) → edges_from (pos 0) (diffs axis 0 origin vs) ≡ map whole (edges_from (pos 0) vs)
edges_from_none axis vs h = ap (λ (z : ℤ). edges_from z (diffs axis 0 origin vs)) (sym whole_none) ∙ edges_rounded axis 0 origin vs h

if_edges : (marks : Bool) (axis : ℕ → Along) (vs : List ℤ) → ((k : ℕ) → axis k ≡ X) → (if marks then edges_from (pos 0) (diffs axis 0 origin vs) else []) ≡ map whole (if marks then edges_from (pos 0) vs else [])
if_edges true axis vs h = edges_from_none axis vs h
if_edges false axis vs h = refl

-- stems lie along one axis
hint_along : (b n k : ℕ) → is_hint (OneByteOperator (b ∷ [])) ≡ true → along (one_byte b) n k ≡ X
unfolding along
hint_along b n k h = rw h refl

hint_stems : (vertical : Bool) (b : ℕ) (n : ℕ) (at : Position) (vs : List ℤ) → is_hint (OneByteOperator (b ∷ [])) ≡ true
    → type_stems vertical (OneByteOperator (b ∷ [])) (diffs (along (one_byte b) n) 0 (start_point (is_hint (OneByteOperator (b ∷ []))) at) vs) ≡ map whole (type_stems vertical (OneByteOperator (b ∷ [])) vs)
hint_stems vertical b n at vs h =
    ap (λ (t : Bool). type_stems vertical (OneByteOperator (b ∷ [])) (diffs (along (one_byte b) n) 0 (start_point t at) vs)) h
    ∙ if_edges (has_stems vertical b) (along (one_byte b) n) vs (λ k. hint_along b n k h)

-- an event that is open draws rounded
pub record IsSaid (x : Event) (pen : Pen) (i : Inked) : Type 0 where
  pub plain : Event
  pub event : i.event ≡ record { operator = plain.operator; operands = width pen.advance ++ map (λ v. Integer v) plain.operands; mask = plain.mask }
  pub draws : event_drawn plain (rounded pen.at) ≡ all_rounded (event_drawn x pen.at)
  pub ends : i.pen.at ≡ point_after pen.at (event_drawn x pen.at)
  pub advance : i.pen.advance ≡ None
  pub stems : (vertical : Bool) → stems_of vertical plain ≡ map whole (stems_of vertical x)
  pub masks : type_masks plain.operator.0 plain.mask ≡ type_masks x.operator.0 x.mask

pub event_same : (v : type2.Event) (operator : Operator) (operands : List CharStringNumber) (mask : List ℕ) → v.operator ≡ operator → v.operands ≡ operands → v.mask ≡ mask
    → v ≡ record { operator = operator; operands = operands; mask = mask }
event_same v operator operands mask e f g =
    let by_operator : Operator → type2.Event = λ (op : Operator). record { operator = op; operands = v.operands; mask = v.mask } in
    let by_operands : List CharStringNumber → type2.Event = λ (l : List CharStringNumber). record { operator = operator; operands = l; mask = v.mask } in
    let by_mask : List ℕ → type2.Event = λ (m : List ℕ). record { operator = operator; operands = operands; mask = m } in
    ap by_operator e ∙ ap by_operands f ∙ ap by_mask g

-- by an operator that draws
path_said : (path : Path) (x : Event) (pen : Pen) (i : Inked) → x.operator ≡ code path → accepts (code path) (length x.operands) ≡ true
    → ((at : Position) (vs : List ℤ) → type_drawn x.operator.0 at vs ≡ drawn path at vs) → whole_piece x pen ≡ Ok i → IsSaid x pen i
path_said path x pen i is count same h =
    let d = pieces_draw_rounded path x pen i is count h in
    let k = ink_piece x pen i h in
    record {
      plain = record { operator = x.operator; operands = d.numbers; mask = x.mask };
      event = event_same i.event x.operator (width pen.advance ++ map (λ v. Integer v) d.numbers) x.mask k.operator d.are k.mask;
      draws = same (rounded pen.at) d.numbers ∙ d.draws ∙ ap all_rounded (sym (same pen.at x.operands));
      ends = d.ends ∙ ap (point_after pen.at) (sym (same pen.at x.operands));
      advance = k.advance;
      stems = λ vertical.
          let none : (vs : List ℤ) → type_stems vertical x.operator.0 vs ≡ [] = λ vs. ap (λ (op : Operator). type_stems vertical op.0 vs) is ∙ no_stems vertical path vs in
          none d.numbers ∙ ap (map whole) (sym (none x.operands));
      masks = refl;
    }

-- by stems and masks
module _ (x : Event) (pen : Pen) (i : Inked) (hint : is_hint x.operator.0 ≡ true) (still : (at : Position) (vs : List ℤ) → type_drawn x.operator.0 at vs ≡ [])
    (edges : (vertical : Bool) → type_stems vertical x.operator.0 (diffs (along x.operator (length x.operands)) 0 (start_point (is_hint x.operator.0) pen.at) x.operands) ≡ map whole (stems_of vertical x)) where
  abbrev start : Placed
  start = record { at = start_point (is_hint x.operator.0) pen.at; numbers = width pen.advance }

  hint_of_placed : (o : Option Placed) → placed x.operator (length x.operands) 0 x.operands start ≡ o → whole_piece x pen ≡ Ok i → inked x pen o ≡ Ok i → IsSaid x pen i
  hint_of_placed None p w h = absurd (cc)
  hint_of_placed (Some q) p w h =
      let made : Inked = record { event = record { operator = x.operator; operands = q.numbers; mask = x.mask }; pen = record { at = end_point (is_hint x.operator.0) pen.at q.at; advance = None } } in
      let same : ◌≡◌ {A = Inked} made i = cc in
      let k = ink_piece x pen i w in
      let numbers : List ℤ = diffs (along x.operator (length x.operands)) 0 start.at x.operands in
      let are : i.event.operands ≡ width pen.advance ++ map (λ v. Integer v) numbers =
      ap (λ (y : Inked). y.event.operands) (sym same) ∙ placed_diffs x.operator (length x.operands) 0 x.operands start q p in
      record {
        plain = record { operator = x.operator; operands = numbers; mask = x.mask };
        event = event_same i.event x.operator (width pen.advance ++ map (λ v. Integer v) numbers) x.mask k.operator are k.mask;
        draws = still (rounded pen.at) numbers ∙ ap all_rounded (sym (still pen.at x.operands));
        ends = ap (λ (y : Inked). y.pen.at) (sym same) ∙ ap (λ (b : Bool). end_point b pen.at q.at) hint ∙ ap (point_after pen.at) (sym (still pen.at x.operands));
        advance = k.advance;
        stems = edges;
        masks = refl;
      }

  pub hint_said : whole_piece x pen ≡ Ok i → IsSaid x pen i
  hint_said h = hint_of_placed (placed x.operator (length x.operands) 0 x.operands start) refl h h

one_said : (b : ℕ) (vs : List ℤ) (mask : List ℕ) (pen : Pen) (i : Inked) (o : Option Path) → path_of b ≡ o → one_byte_accepts b (length vs) ≡ true
    → whole_piece (record { operator = one_byte b; operands = vs; mask = mask }) pen ≡ Ok i → IsSaid (record { operator = one_byte b; operands = vs; mask = mask }) pen i
unfolding accepts
one_said b vs mask pen i (Some path) e a h =
    let is = code_of b path e in
    path_said path (record { operator = one_byte b; operands = vs; mask = mask }) pen i is (subst (λ (op : Operator). accepts op (length vs) ≡ true) is a) (λ at ws. ap (λ (o : Option Path). path_drawn o at ws) e) h
one_said b vs mask pen i None e a h =
    hint_said (record { operator = one_byte b; operands = vs; mask = mask }) pen i (hint_of b (length vs) e a) (λ at ws. ap (λ (o : Option Path). path_drawn o at ws) e) (λ vertical. hint_stems vertical b (length vs) pen.at vs (hint_of b (length vs) e a)) h

open_said : (t : OperatorType) (vs : List ℤ) (mask : List ℕ) (pen : Pen) (i : Inked) → opened_operator t ≡ t → type_accepts t (length vs) ≡ true
    → whole_piece (record { operator = record { 0 = t }; operands = vs; mask = mask }) pen ≡ Ok i → IsSaid (record { operator = record { 0 = t }; operands = vs; mask = mask }) pen i
unfolding accepts
open_said (OneByteOperator []) vs mask pen i o a h = absurd (cc)
open_said (OneByteOperator (b ∷ [])) vs mask pen i o a h = one_said b vs mask pen i (path_of b) refl a h
open_said (OneByteOperator (c ∷ b ∷ bytes)) vs mask pen i o a h = absurd (cc)
open_said (TwoByteOperator code) vs mask pen i o a h =
    let P : OperatorType → Type 0 = λ (t : OperatorType). type_accepts t (length vs) ≡ true → whole_piece (record { operator = record { 0 = t }; operands = vs; mask = mask }) pen ≡ Ok i → IsSaid (record { operator = record { 0 = t }; operands = vs; mask = mask }) pen i in
    subst P o (λ count k. path_said Flex (record { operator = two_byte 35; operands = vs; mask = mask }) pen i refl count (λ at ws. refl) k) a h

pub is_said : (x : Event) (pen : Pen) (i : Inked) → IsOpen x → IsAccepted x → whole_piece x pen ≡ Ok i → IsSaid x pen i
unfolding accepts
is_said x pen i o a h = open_said x.operator.0 x.operands x.mask pen i o a h

-- ---- pieces of an event that is open
abbrev pub AreOpen : List Event → Type 0
AreOpen xs = AllByRecursion IsOpen xs

piece_open : (t : OperatorType) → opened_operator t ≡ t → opened_operator (piece_type t) ≡ piece_type t
piece_open (OneByteOperator []) o = refl
piece_open (OneByteOperator (b ∷ [])) o = refl
piece_open (OneByteOperator (c ∷ b ∷ bytes)) o = refl
piece_open (TwoByteOperator code) o = o

open_if : (b : Bool) (x front : Event) (more : List Event) → IsOpen x → IsOpen front → AreOpen more → AreOpen (if b then x ∷ [] else front ∷ more)
open_if true x front more o f m = (o, tt)
open_if false x front more o f m = (f, m)

pub pieces_open : (f width : ℕ) (x : Event) → IsOpen x → AreOpen (pieces f width x)
unfolding pieces
pieces_open zero width x o = (o, tt)
pieces_open (suc f) width x o =
    open_if (nat_le (width + length x.operands) 48) x (front_of (next_cut x) x) (pieces f 0 (rest_of (next_cut x) x)) o (piece_open x.operator.0 o) (pieces_open f 0 (rest_of (next_cut x) x) o)
