-- What readers of ToUnicode find of the codes of a text.
use Rattle.std.proofs.Common.{◌≡◌, ℕ, zero, suc, ◌+◌, ◌<◌, ◌≤◌, Bool, true, false, cond, List, [], ◌∷◌, ◌++◌, length, map, drop, get_or, Option, Some, None, refl, sym, ap, subst, ◌∙◌, arith}
use Rattle.std.specs.Option.{option_and_then}
use Rattle.std.specs.Prelude.{All, if◌then◌else◌, is_some}
use Rattle.std.proofs.lemmas.Bool.{eq-eqb, ne_eqb}
use Rattle.std.proofs.lemmas.List.Elements.{All-append, All-cons, All-head, All-nil, All-tail}
use Rattle.subsetter_base.specs.Remap.{index_by, with_value}
use Rattle.subsetter_base.specs.Texts.{utf16}
use Rattle.pdf_text.specs.Cmaps.Cmap.{Line, cmap_text}
use Rattle.pdf_codes.specs.Units.{is_left_out}
use Rattle.pdf_runs.specs.declared.codes.Pair.{Pair}
use Rattle.pdf_runs.specs.declared.pieces.Piece.{Piece}
use Rattle.pdf_runs.specs.Codes.{is_zeroth, pair_of, same, zeroth}
use Rattle.pdf_operators.specs.Content.{Mark, actual, code, ended, number, rise}
use Rattle.pdf_operators.specs.Reading.{extracted, text_in, text_of_pair, units_by}
use Rattle.pdf_text_font.specs.Laws.{TextsAreSaid, ZerothStays}
use Rattle.pdf_text_font.specs.Said.{AreSayable, HaveZeroth, may_say, sayable, says_in, text_by}
use Rattle.pdf_text_font.specs.Texts.{SayCharacters, line_of, lines_from, lines_of, said_by}
use Rattle.pdf_text_font.proofs.TextLaws.{texts_are_read}

abbrev IsOther : Pair → Type 0
IsOther p = is_zeroth p.figure ≡ false

-- ---- one code

units_if : (b : Bool) (c : ℕ) → units_by (if b then None else Some c) ≡ utf16 (if b then 8288 else c)
units_if true c = refl
units_if false c = refl

units_said : (o : Option ℕ) → units_by (may_say o) ≡ utf16 (said_by o)
units_said None = refl
units_said (Some c) = units_if (is_left_out c) c

text_said : (p : Pair) → IsOther p → text_of_pair (sayable p) ≡ Some (utf16 (said_by p.says))
text_said p e = rw e (ap Some (units_said p.says))

-- ---- the text of a code in lines

text_here : (l : Line) (rest : List Line) (k : ℕ) → l.code ≡ k → text_by (l ∷ rest) k ≡ Some l.units
text_here l rest k e = ap (λ b. cond b (Some l.units) (text_by rest k)) (eq-eqb l.code k e)

text_on : (l : Line) (rest : List Line) (k : ℕ) → (l.code ≡ k → ⊥) → text_by (l ∷ rest) k ≡ text_by rest k
text_on l rest k ne = ap (λ b. cond b (Some l.units) (text_by rest k)) (ne_eqb l.code k ne)

before : (from k : ℕ) (ps : List Pair) → k < from → text_by (lines_from from ps) k ≡ None
before from k [] lt = refl
before from k (p ∷ ps) lt = text_on (line_of from p) (lines_from (from + 1) ps) k (λ e. omega (arith, e)) ∙ before (from + 1) k ps (omega arith)

onwards : (from j : ℕ) (ps : List Pair) → All IsOther ps → text_by (lines_from from ps) (from + j) ≡ text_of_pair (get_or (map sayable ps) j zeroth)
onwards from j [] h = refl
onwards from zero (p ∷ ps) h = text_here (line_of from p) (lines_from (from + 1) ps) (from + zero) (omega arith) ∙ sym (text_said p (All-head IsOther p ps h))
onwards from (suc j) (p ∷ ps) h =
    let next : from + suc j ≡ from + 1 + j = omega arith in
    text_on (line_of from p) (lines_from (from + 1) ps) (from + suc j) (λ e. omega (arith, e))
    ∙ ap (text_by (lines_from (from + 1) ps)) next
    ∙ onwards (from + 1) j ps (All-tail IsOther p ps h)

each_by : (ps : List Pair) (k : ℕ) → All IsOther ps → text_by (lines_from 1 ps) k ≡ text_in (map sayable (zeroth ∷ ps)) k
each_by ps zero h = before 1 0 ps (omega arith)
each_by ps (suc j) h = let next : suc j ≡ 1 + j = omega arith in ap (text_by (lines_from 1 ps)) next ∙ onwards 1 j ps h

each_said : (ps : List Pair) → length ps ≤ 65536 → SayCharacters ps → HaveZeroth ps → (k : ℕ) → says_in (cmap_text (lines_of ps)) k ≡ text_in (map sayable ps) k
each_said ps few h z k =
    ap (option_and_then (λ (ls : List Line). text_by ls k)) (texts_are_read ps few h)
    ∙ each_by (drop 1 ps) k z.others
    ∙ ap (λ (qs : List Pair). text_in (map sayable qs) k) (sym z.first)

-- ---- all that operators show

module _ (f g : ℕ → Option (List ℕ)) (alike : (k : ℕ) → f k ≡ g k) where
  all_alike : (within : Bool) (ms : List Mark) → extracted f within ms ≡ extracted g within ms
  all_alike true [] = refl
  all_alike false [] = refl
  all_alike true (number z ∷ ms) = all_alike true ms
  all_alike false (number z ∷ ms) = all_alike false ms
  all_alike true (code c ∷ ms) = all_alike true ms
  all_alike false (code c ∷ ms) = ap (λ (o : Option (List ℕ)). o ∷ extracted f false ms) (alike c) ∙ ap (λ (l : List (Option (List ℕ))). g c ∷ l) (all_alike false ms)
  all_alike true (rise z ∷ ms) = all_alike true ms
  all_alike false (rise z ∷ ms) = all_alike false ms
  all_alike true (actual us ∷ ms) = ap (λ (l : List (Option (List ℕ))). Some us ∷ l) (all_alike true ms)
  all_alike false (actual us ∷ ms) = ap (λ (l : List (Option (List ℕ))). Some us ∷ l) (all_alike true ms)
  all_alike true (ended ∷ ms) = all_alike false ms
  all_alike false (ended ∷ ms) = all_alike false ms

abbrev IsSayable : Pair → Type 0
IsSayable p = may_say p.says ≡ p.says

same_pairs : (ps : List Pair) → AreSayable ps → map sayable ps ≡ ps
same_pairs [] h = refl
same_pairs (p ∷ ps) h =
    let one : sayable p ≡ p = ap (λ (o : Option ℕ). record { figure = p.figure; says = o }) (All-head IsSayable p ps h) in
    ap (λ (q : Pair). q ∷ map sayable ps) one ∙ ap (λ (l : List Pair). p ∷ l) (same_pairs ps (All-tail IsSayable p ps h))

pub texts_are_said : TextsAreSaid
texts_are_said ps few h z = record {
  each = each_said ps few h z;
  all = λ s within ms.
      all_alike (says_in (cmap_text (lines_of ps))) (text_in ps) (λ k. each_said ps few h z k ∙ ap (λ (qs : List Pair). text_in qs k) (same_pairs ps s)) within ms;
}

-- ---- pairs of runs

put_other : (ps : List Pair) (q : Pair) (found : Bool) → All IsOther ps → IsOther q → HaveZeroth (if found then zeroth ∷ ps else (zeroth ∷ ps) ++ q ∷ [])
put_other ps q true h e = record { first = refl; others = h }
put_other ps q false h e = record { first = refl; others = All-append IsOther ps (q ∷ []) h (All-cons IsOther q [] e (All-nil IsOther)) }

put_by : (ps : List Pair) (p : Piece) (b : Bool) → is_zeroth p.figure ≡ b → All IsOther ps → HaveZeroth (with_value same (zeroth ∷ ps) (if b then zeroth else record { figure = p.figure; says = p.says }))
put_by ps p true e h = record { first = refl; others = h }
put_by ps p false e h =
    let q : Pair = record { figure = p.figure; says = p.says } in
    put_other ps q (is_some (index_by same (zeroth ∷ ps) q)) h e

put : (ps : List Pair) (p : Piece) → HaveZeroth ps → HaveZeroth (with_value same ps (pair_of p))
put ps p z = subst (λ (qs : List Pair). HaveZeroth (with_value same qs (pair_of p))) (sym z.first) (put_by (drop 1 ps) p (is_zeroth p.figure) refl z.others)

pub zeroth_stays : ZerothStays
zeroth_stays ps [] z = z
zeroth_stays ps (p ∷ pieces) z = zeroth_stays (with_value same ps (pair_of p)) pieces (put ps p z)
