-- An entry of a private dict that is written.
use Rattle.std.proofs.Common.{◌≡◌, ℕ, Bool, true, false, List, ◌++◌, take, map, min, Option, Ok, Err, Result, ℤ, inl, inr, refl, ap, sym, ◌∙◌, arith}
use Rattle.std.specs.Prelude.{OnOk, IfErr}
use Rattle.std.specs.Option.{ok_or}
use Rattle.std.proofs.lemmas.Bool.{cases_lt}
use Rattle.std.proofs.lemmas.List.{take-map, take-take, take_all, length-take}
use Rattle.subsetter_base.specs.Bytes.{◌>>=◌}
use Rattle.subsetter_base.specs.Gives.{Fails, Gives, following}
use Rattle.subsetter_base.specs.declared.error.Error.{Error}
use Rattle.subsetter_base.specs.declared.error.Error.TheVariants.{MalformedFont}
use Rattle.subsetter_cffdata.specs.Dicts.Dict.{entry_bytes}
use Rattle.subsetter_cffdata.specs.Numerals.Numbers.{Number}
use Rattle.subsetter_cffdata.specs.Views.{number_of}
use Rattle.subsetter_cffdata.specs.declared.numerals.number.Number.{Number as StoredNumber}
use Rattle.subsetter_cffdata.specs.Dicts.Plain.{plain_entry}
use Rattle.subsetter_cff.specs.Write.NewDicts.Rewritten.{written_entry}
use Rattle.subsetter_cff.specs.Write.Laying.TableLimits.{limit, short}
use Rattle.subsetter_cff.proofs.ReadLaws.Failing.{fails_on, goes_on}
use Rattle.subsetter_cff.proofs.WriteLaws.LayingLaws.Checked.{entry_checked}
use Rattle.subsetter_cff2.specs.PrivateDicts.PrivateAt.{Registers, cleared, placed_numbers, step_by}
use Rattle.subsetter_cff2.specs.PrivateDicts.PrivateKinds.{kind_by}
use Rattle.subsetter_cff2.specs.PrivateDicts.PrivateText.{TextStep, after_step, operator_text, step_text_of}
use Rattle.subsetter_cff2.specs.Variation.{Variation}
use Rattle.subsetter_cff2.specs.declared.private_dicts.kinds.PrivateOperator.{PrivateOperator}
use Rattle.subsetter_cff2.specs.declared.private_dicts.kinds.PrivateOperator.TheVariants.{Edges, Numbers}

pub written_ok : (front operator : List ℕ) (xs ys : List Number) (new : List ℕ) → xs ≡ ys → limit (short xs) ≡ Ok tt → new ≡ front ++ entry_bytes (plain_entry operator xs) → following front (written_entry operator ys) ≡ Ok new
written_ok front operator xs ys new same kept is =
    ap (λ (zs : List Number). following front (written_entry operator zs)) (sym same)
    ∙ sym (goes_on _ _ _ tt (entry_checked front operator xs) kept) ∙ ap (λ (l : List ℕ). Ok l) (sym is)

pub written_err : (front operator : List ℕ) (xs ys : List Number) (e : Error) → xs ≡ ys → Fails e (limit (short xs)) → Fails e (following front (written_entry operator ys))
written_err front operator xs ys e same fails = fails_on _ _ _ e (entry_checked front operator xs ∙ ap (λ (zs : List Number). following front (written_entry operator zs)) same) fails

first_is : {A : Type 0} (n len : ℕ) (xs : List A) → len ≡ min n 48 → take len xs ≡ take 48 (take n xs)
first_is {A} n len xs e =
    elim (cases_lt 48 n) [
      | inl more ↦ (let full : len ≡ 48 = omega arith in ap (λ (k : ℕ). take k xs) full ∙ sym (take-take 48 n xs (omega arith)))
      | inr few ↦ (let all : len ≡ n = omega arith in ap (λ (k : ℕ). take k xs) all ∙ sym (take_all 48 (take n xs) (omega (arith, length-take n xs))))
    ]

-- the first 48
pub placed_first : (is_array : Bool) (n len : ℕ) (numbers : List StoredNumber) (parts : List (Option ℤ)) → len ≡ min n 48
    → placed_numbers is_array (map number_of (take len numbers)) (take len parts) ≡ placed_numbers is_array (take 48 (map number_of (take n numbers))) (take 48 (take n parts))
placed_first is_array n len numbers parts few =
    ap (λ (xs : List Number). placed_numbers is_array xs (take len parts)) (ap (map number_of) (first_is n len numbers few) ∙ sym (take-map number_of 48 (take n numbers)))
    ∙ ap (placed_numbers is_array (take 48 (map number_of (take n numbers)))) (first_is n len parts few)

-- ---- a step that says an entry
abbrev pub kind_for : Bool → PrivateOperator
kind_for true = Edges
kind_for false = Numbers

abbrev with_next : Registers → Result (List ℕ) Error → Result TextStep Error
with_next next o = o >>= λ text. Ok (record { text = text; next = next })

step_after : (front : List ℕ) (next : Registers) (o : Result (List ℕ) Error) → with_next next (following front o) ≡ after_step front (with_next next o)
step_after front next (Ok text) = refl
step_after front next (Err e) = refl

abbrev numbers_in : Bool → Registers → List Number
numbers_in is_array r = placed_numbers is_array (take 48 r.defaults) (take 48 r.parts)

text_is : (is_array : Bool) (v : Option Variation) (r : Registers) (operator : List ℕ) → kind_for is_array ≡ kind_by operator → with_next (cleared r) (written_entry operator (numbers_in is_array r)) ≡ operator_text v r operator
text_is true v r operator h = ap (λ (k : PrivateOperator). ok_or (step_by k v operator r) MalformedFont >>= step_text_of) h
text_is false v r operator h = ap (λ (k : PrivateOperator). ok_or (step_by k v operator r) MalformedFont >>= step_text_of) h

whole_is : (is_array : Bool) (v : Option Variation) (r : Registers) (operator front : List ℕ) → kind_for is_array ≡ kind_by operator
    → with_next (cleared r) (following front (written_entry operator (numbers_in is_array r))) ≡ after_step front (operator_text v r operator)
whole_is is_array v r operator front h = step_after front (cleared r) (written_entry operator (numbers_in is_array r)) ∙ ap (after_step front) (text_is is_array v r operator h)

pub said_ok : {X : Type 0} (result : Result X Error) (is_array : Bool) (v : Option Variation) (r next : Registers) (operator front new : List ℕ) → kind_for is_array ≡ kind_by operator
    → OnOk result (next ≡ cleared r) → OnOk result (following front (written_entry operator (numbers_in is_array r)) ≡ Ok new)
    → OnOk result (after_step front (operator_text v r operator) ≡ Ok (record { text = new; next = next }))
said_ok (Err e) is_array v r next operator front new h registers written = tt
said_ok (Ok x) is_array v r next operator front new h registers written =
    sym (whole_is is_array v r operator front h) ∙ ap (with_next (cleared r)) written ∙ ap (λ (n : Registers). Ok (record { text = new; next = n })) (sym registers)

pub said_err : {X : Type 0} (result : Result X Error) (is_array : Bool) (v : Option Variation) (r : Registers) (operator front : List ℕ) → kind_for is_array ≡ kind_by operator
    → IfErr result (λ e. Fails e (following front (written_entry operator (numbers_in is_array r)))) → IfErr result (λ e. Fails e (after_step front (operator_text v r operator)))
said_err (Ok x) is_array v r operator front h fails = tt
said_err (Err e) is_array v r operator front h fails = fails_on _ _ _ e (whole_is is_array v r operator front h) fails

-- the same, of what the writer of numbers returns
pub all_ok : (result : Result (Unit {0}) Error) (front operator : List ℕ) (xs ys : List Number) (new : List ℕ) → xs ≡ ys → Gives (λ x. tt) result (limit (short xs)) → OnOk result (new ≡ front ++ entry_bytes (plain_entry operator xs))
    → OnOk result (following front (written_entry operator ys) ≡ Ok new)
all_ok (Ok x) front operator xs ys new same checked is = written_ok front operator xs ys new same checked is
all_ok (Err e) front operator xs ys new same checked is = tt

pub all_err : (result : Result (Unit {0}) Error) (front operator : List ℕ) (xs ys : List Number) → xs ≡ ys → Gives (λ x. tt) result (limit (short xs)) → IfErr result (λ e. Fails e (following front (written_entry operator ys)))
all_err (Ok x) front operator xs ys same checked = tt
all_err (Err e) front operator xs ys same checked = written_err front operator xs ys e same checked

-- what is known of the first numbers of a stack
pub first_ok : {X : Type 0} (result : Result X Error) (front operator new : List ℕ) (xs ys : List Number) → xs ≡ ys → OnOk result (following front (written_entry operator xs) ≡ Ok new) → OnOk result (following front (written_entry operator ys) ≡ Ok new)
first_ok result front operator new xs ys same h = rw (← same) h

pub first_err : (e : Error) (front operator : List ℕ) (xs ys : List Number) → xs ≡ ys → Fails e (following front (written_entry operator xs)) → Fails e (following front (written_entry operator ys))
first_err e front operator xs ys same h = rw (← same) h
