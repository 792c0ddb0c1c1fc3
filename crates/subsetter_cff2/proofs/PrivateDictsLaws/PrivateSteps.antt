-- A private dict at a place, written entry by entry.
use Rattle.std.proofs.Common.{◌≡◌, ℕ, ◌+◌, ◌<◌, List, ◌++◌, length, take, Option, Some, None, Ok, Err, Result, refl, ap, sym, ◌∙◌, inl, inr, arith, append_assoc}
use Rattle.std.specs.Option.{ok_or}
use Rattle.std.proofs.lemmas.Bool.{cases_lt, lt-leb}
use Rattle.std.proofs.lemmas.List.{take_all, length-take, append-nil}
use Rattle.subsetter_base.specs.Bytes.{◌>>=◌}
use Rattle.subsetter_base.specs.declared.error.Error.{Error}
use Rattle.subsetter_base.specs.declared.error.Error.TheVariants.{MalformedFont}
use Rattle.subsetter_cffdata.specs.Dicts.Dict.{Entry, entry_at}
use Rattle.subsetter_cffdata.specs.Numerals.Numbers.{Number}
use Rattle.subsetter_cffdata.specs.Dicts.Operands.{operands_at}
use Rattle.subsetter_cffdata.specs.Dicts.Tokens.{operator_part}
use Rattle.subsetter_cff2.specs.PrivateDicts.EntryLists.{entry_lists}
use Rattle.subsetter_cff2.specs.PrivateDicts.PrivateAt.{Registers, pushed}
use Rattle.subsetter_cff2.specs.PrivateDicts.PrivateText.{TextStep, PlacedText, operator_text, step_text, following, after_step, placed_text}
use Rattle.subsetter_cff2.specs.Variation.{Variation}
use Rattle.subsetter_cff2.proofs.PrivateDictsLaws.Entries2.{is_shown, no_more_lists}

-- ---- more operands than the stack holds are too many, however many there are
too_many : (r : Registers) (xs : List Number) → 513 < length r.defaults + length xs → pushed r xs ≡ None
unfolding pushed
too_many r xs h = rw (lt-leb (length r.defaults + length xs) 513 h) refl

pub one_more_tells : (r : Registers) (xs : List Number) → pushed r (take 514 xs) ≡ pushed r xs
one_more_tells r xs =
    elim (cases_lt 514 (length xs)) [
      | inl many ↦ too_many r (take 514 xs) (omega (arith, length-take 514 xs)) ∙ sym (too_many r xs (omega arith))
      | inr few ↦ ap (pushed r) (take_all 514 xs few)
    ]

same_step : (v : Option Variation) (r : Registers) (operator : List ℕ) (xs : List Number) → step_text v r operator (take 514 xs) ≡ step_text v r operator xs
unfolding step_text
same_step v r operator xs = ap (λ (o : Option Registers). ok_or o MalformedFont >>= λ here. operator_text v here operator) (one_more_tells r xs)

-- ---- an entry before others
abbrev pub on_from : Option Variation → List Entry → TextStep → Result PlacedText Error
on_from v es s = following s.text (placed_text v s.next es)

put_after : (front text : List ℕ) (o : Result PlacedText Error) → following front (following text o) ≡ following (front ++ text) o
put_after front text (Err e) = refl
put_after front text (Ok p) = ap (λ (l : List ℕ). Ok (record { text = l; data_index = p.data_index })) (sym (append_assoc front text p.text))

in_front : (front : List ℕ) (o : Result TextStep Error) (v : Option Variation) (es : List Entry) → following front (o >>= on_from v es) ≡ (after_step front o >>= on_from v es)
in_front front (Err e) v es = refl
in_front front (Ok s) v es = put_after front s.text (placed_text v s.next es)

-- the same, as the parser says it: the buffer's room, and the operands that it shows
pub entry_taken : (front : List ℕ) (v : Option Variation) (r : Registers) (bytes operator rest : List ℕ) (limit : ℕ) (xs : List Number) → operator_part (entry_at bytes) ≡ Some (operator, rest) → limit ≡ 514 → Some xs ≡ operands_at limit bytes
    → (after_step front (step_text v r operator xs) >>= on_from v (entry_lists rest)) ≡ following front (placed_text v r (entry_lists bytes))
entry_taken front v r bytes operator rest limit xs h room shown =
    let s = is_shown bytes operator rest limit xs h shown in
    let first : xs ≡ take 514 s.entry.operands = s.first ∙ ap (λ (n : ℕ). take n s.entry.operands) room in
    let here : step_text v r operator xs ≡ step_text v r s.entry.operator s.entry.operands =
    ap (step_text v r operator) first ∙ same_step v r operator s.entry.operands ∙ ap (λ (o : List ℕ). step_text v r o s.entry.operands) (sym s.same) in
    ap (λ (o : Result TextStep Error). after_step front o >>= on_from v (entry_lists rest)) here
    ∙ sym (in_front front (step_text v r s.entry.operator s.entry.operands) v (entry_lists rest))
    ∙ ap (λ (es : List Entry). following front (placed_text v r es)) (sym s.lists)

pub at_end : (front : List ℕ) (v : Option Variation) (r : Registers) (bytes : List ℕ) → operator_part (entry_at bytes) ≡ None
    → following front (placed_text v r (entry_lists bytes)) ≡ Ok (record { text = front; data_index = r.data_index })
at_end front v r bytes h =
    ap (λ (es : List Entry). following front (placed_text v r es)) (no_more_lists bytes h)
    ∙ ap (λ (l : List ℕ). Ok (record { text = l; data_index = r.data_index })) (append-nil front)
