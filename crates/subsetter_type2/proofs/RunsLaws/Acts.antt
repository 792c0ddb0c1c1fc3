-- What an act leaves, and that the bytes of its event make it again, whatever the subroutines.
use Rattle.std.proofs.Common.{◌≡◌, ℕ, ◌+◌, ◌-◌, ◌/◌, ◌<◌, ◌≤◌, List, [], ◌∷◌, ◌++◌, length, take, Option, Some, None, Bool, true, false, refl, ap, ◌∙◌, arith, length-append}
use Rattle.std.proofs.lemmas.List.{take_at, drop_at, length-take, length-take-le}
use Rattle.std.proofs.lemmas.Bool.{le-leb}
use Rattle.std.proofs.lemmas.Bool.Decides.{nat_tests}
use Rattle.std.specs.Prelude.{nat_lt, nat_le, if◌then◌else◌, ◌==◌, ◌||◌}
use Rattle.subsetter_cffdata.specs.declared.numerals.charstring_number.CharStringNumber.{CharStringNumber}
use Rattle.subsetter_cffdata.specs.declared.dicts.operator.Operator.{Operator}
use Rattle.subsetter_cffdata.specs.declared.dicts.operator.OperatorType.{OperatorType}
use Rattle.subsetter_cffdata.specs.declared.dicts.operator.OperatorType.TheVariants.{OneByteOperator, TwoByteOperator}
use Rattle.subsetter_type2.specs.Token.{Token, Operand, Operation}
use Rattle.subsetter_type2.specs.declared.token.Effect.{Effect}
use Rattle.subsetter_type2.specs.declared.token.Effect.TheVariants.{CountsStems, Draws, CallsLocal, CallsGlobal, Returns, Ends, Masks}
use Rattle.subsetter_cffdata.specs.Numerals.CharStringNumber.{NumberFits, FitsIn, number_at}
use Rattle.subsetter_type2.specs.Token.{token_of, number_token, two_byte_token, effect_of, type_effect, one_byte_effect, two_byte_effect, one_byte}
use Rattle.subsetter_type2.specs.Runs.Machine.{Library, Registers, Event, Act, Does, Fails, Continuation, On, Into, Back, Over, emit, stems_after, take_mask, mask, enter, operate, act, act_on, act_at}
use Rattle.subsetter_cffdata.proofs.NumeralsLaws.CharStringNumbers.{number_fits}
use Rattle.subsetter_cffdata.specs.Views.{operator_of, type_bytes}
use Rattle.subsetter_type2.specs.Runs.OutputView.{AllFit}
use Rattle.subsetter_type2.proofs.RunsLaws.OutputLemmas.{fit_front, fit_more}

-- at most 48 operands, each of which can be written
pub record Sound (r : Registers) : Type 0 where
  pub few : length r.operands ≤ 48
  pub fit : AllFit r.operands

pub record Silent (r r' : Registers) : Type 0 where
  pub stems : r'.stems ≡ r.stems
  pub mask_len : r'.mask_len ≡ r.mask_len
  pub one_more : length r'.operands ≤ length r.operands + 1
  pub sound : Sound r'

abbrev pub lead_with : Continuation → List ℕ → Continuation
lead_with (On rest) x = On x
lead_with (Into body rest) x = Into body x
lead_with Back x = Back
lead_with Over x = Over

-- no event leads into a subroutine or back
abbrev pub IsOnward : Continuation → Type 0
IsOnward (On rest) = Unit {0}
IsOnward (Into body rest) = ⊥
IsOnward Back = ⊥
IsOnward Over = Unit {0}

pub record Loud (r : Registers) (e : Event) (r' : Registers) (lead : Continuation) : Type 0 where
  pub operands : e.operands ≡ r.operands
  pub emptied : r'.operands ≡ []
  pub onward : IsOnward lead
  pub again : (library : Library) (x : List ℕ) → act_at library (operator_of e.operator ++ (e.mask ++ x)) r ≡ Does (Some e) r' (lead_with lead x)

abbrev pub Class : Registers → Act → Type 0
Class r (Fails error) = Unit {0}
Class r (Does None r' lead) = Silent r r'
Class r (Does (Some e) r' lead) = Loud r e r' lead

if_class : (r : Registers) (b : Bool) (x y : Act) → (b ≡ true → Class r x) → (b ≡ false → Class r y) → Class r (if b then x else y)
if_class r true x y f g = f refl
if_class r false x y f g = g refl

token_of_one : (first : ℕ) (eff : Effect) (rest : List ℕ) → one_byte_effect first ≡ Some eff → token_of (first ∷ rest) ≡ Some (Operation (one_byte first), rest)
unfolding token_of
token_of_one first eff rest e = grind (arith, nat_tests)

is_mark : (mark second : ℕ) (eff : Effect) → two_byte_effect mark second ≡ Some eff → mark ≡ 12
is_mark mark second eff e = grind (arith, nat_tests)

token_of_two : (mark second : ℕ) (eff : Effect) (rest : List ℕ) → two_byte_effect mark second ≡ Some eff → token_of (mark ∷ second ∷ rest) ≡ Some (Operation (record { 0 = TwoByteOperator (mark ∷ second ∷ []) }), rest)
unfolding token_of
token_of_two mark second eff rest e = let m = is_mark mark second eff e in rw m refl

token_of_type : (o : OperatorType) (eff : Effect) (rest : List ℕ) → type_effect o ≡ Some eff → token_of (type_bytes o ++ rest) ≡ Some (Operation (record { 0 = o }), rest)
token_of_type (OneByteOperator []) eff rest e = absurd (cc)
token_of_type (OneByteOperator (first ∷ [])) eff rest e = token_of_one first eff rest e
token_of_type (OneByteOperator (a ∷ b ∷ bytes)) eff rest e = absurd (cc)
token_of_type (TwoByteOperator []) eff rest e = absurd (cc)
token_of_type (TwoByteOperator (a ∷ [])) eff rest e = absurd (cc)
token_of_type (TwoByteOperator (mark ∷ second ∷ [])) eff rest e = token_of_two mark second eff rest e
token_of_type (TwoByteOperator (a ∷ b ∷ c ∷ bytes)) eff rest e = absurd (cc)

pub token_operator : (op : Operator) (eff : Effect) (rest : List ℕ) → effect_of op ≡ Some eff → token_of (operator_of op ++ rest) ≡ Some (Operation op, rest)
unfolding effect_of
token_operator op eff rest e = token_of_type op.0 eff rest e

pub act_operator : (library : Library) (op : Operator) (eff : Effect) (rest : List ℕ) (r : Registers) → effect_of op ≡ Some eff → act_at library (operator_of op ++ rest) r ≡ operate library op (Some eff) rest r
unfolding act_at
act_operator library op eff rest r e = ap (λ t. act_on library t r) (token_operator op eff rest e) ∙ ap (λ f. operate library op f rest r) e

take_again : (op : Operator) (rest x : List ℕ) (r : Registers) → nat_le r.mask_len (length rest) ≡ true → take_mask op (take r.mask_len rest ++ x) r ≡ emit op (take r.mask_len rest) (On x) r
take_again op rest x r h =
    let within : r.mask_len ≤ length rest = grind (arith, nat_tests) in
    let n : length (take r.mask_len rest) ≡ r.mask_len = length-take-le r.mask_len rest within in
    let enough : r.mask_len ≤ length (take r.mask_len rest ++ x) = omega (arith, length-append (take r.mask_len rest) x) in
    rw (le-leb r.mask_len (length (take r.mask_len rest ++ x)) enough, take_at (take r.mask_len rest) x r.mask_len n, drop_at (take r.mask_len rest) x r.mask_len n) refl

mask_loud : (library : Library) (op : Operator) (rest : List ℕ) (r : Registers) → effect_of op ≡ Some Masks → Class r (mask op rest r)
mask_loud library op rest r e =
    if_class r (r.mask_len == 0) _ _
    (λ z. if_class r (nat_le (stems_after r) 65535) _ _
    (λ h. let r1 : Registers = record r { stems = stems_after r; mask_len = (stems_after r + 7) / 8 } in
    if_class r (nat_le r1.mask_len (length rest)) _ _
    (λ t. record { operands = refl; emptied = refl; onward = tt; again = λ l x. act_operator l op Masks _ r e ∙ rw (z, h) (take_again op rest x r1 t) })
    (λ _. tt))
    (λ _. tt))
    (λ z. if_class r (nat_le r.mask_len (length rest)) _ _
    (λ t. record { operands = refl; emptied = refl; onward = tt; again = λ l x. act_operator l op Masks _ r e ∙ rw z (take_again op rest x r t) })
    (λ _. tt))

class_call : (r : Registers) (entries : List (Option (List ℕ))) (rest : List ℕ) (body : Option (List ℕ)) → Sound r → Class r (enter body rest r)
class_call r entries rest None s = tt
class_call r entries rest (Some body) s = record {
  stems = refl;
  mask_len = refl;
  one_more = omega (arith, length-take {A = CharStringNumber});
  sound = record { few = omega (arith, s.few, length-take {A = CharStringNumber}); fit = fit_front r.operands (length r.operands - 1) s.fit };
}

class_operator : (library : Library) (op : Operator) (eff : Option Effect) (rest : List ℕ) (r : Registers) → effect_of op ≡ eff → Sound r → Class r (operate library op eff rest r)
class_operator library op None rest r e s = tt
class_operator library op (Some CountsStems) rest r e s =
    if_class r (nat_le (stems_after r) 65535) _ _
    (λ h. record { operands = refl; emptied = refl; onward = tt; again = λ l x. act_operator l op CountsStems x r e ∙ rw h refl })
    (λ h. tt)
class_operator library op (Some Draws) rest r e s = record { operands = refl; emptied = refl; onward = tt; again = λ l x. act_operator l op Draws x r e }
class_operator library op (Some CallsLocal) rest r e s = class_call r library.local rest _ s
class_operator library op (Some CallsGlobal) rest r e s = class_call r library.global rest _ s
class_operator library op (Some Returns) rest r e s = record { stems = refl; mask_len = refl; one_more = omega arith; sound = s }
class_operator library op (Some Ends) rest r e s =
    if_class r (nat_lt (length r.operands) 4) _ _
    (λ h. record { operands = refl; emptied = refl; onward = tt; again = λ l x. act_operator l op Ends x r e ∙ rw h refl })
    (λ h. tt)
class_operator library op (Some Masks) rest r e s = mask_loud library op rest r e

abbrev OperandFits : Token → Type 0
OperandFits (Operand n) = NumberFits n
OperandFits (Operation op) = Unit {0}

abbrev TokenFits : Option (Token × List ℕ) → Type 0
TokenFits None = Unit {0}
TokenFits (Some t) = OperandFits t.0

number_token_fits : (x : Option (CharStringNumber × List ℕ)) → FitsIn x → TokenFits (number_token x)
number_token_fits None f = tt
number_token_fits (Some n) f = f

two_fits : (bytes : List ℕ) → TokenFits (two_byte_token bytes)
two_fits [] = tt
two_fits (b ∷ bytes) = tt

by_token : (b : Bool) (x y : Option (Token × List ℕ)) → TokenFits x → TokenFits y → TokenFits (if b then x else y)
by_token true x y f g = f
by_token false x y f g = g

token_fits : (bytes : List ℕ) → TokenFits (token_of bytes)
unfolding token_of
token_fits [] = tt
token_fits (first ∷ rest) =
    by_token (first == 28 || nat_le 32 first) _ (if first == 12 then two_byte_token rest else Some (Operation (one_byte first), rest))
    (number_token_fits (number_at (first ∷ rest)) (number_fits (first ∷ rest)))
    (by_token (first == 12) (two_byte_token rest) (Some (Operation (one_byte first), rest)) (two_fits rest) tt)

class_token : (library : Library) (token : Token) (rest : List ℕ) (r : Registers) → OperandFits token → Sound r → Class r (act library token rest r)
class_token library (Operand n) rest r f s =
    if_class r (nat_lt (length r.operands) 48) _ _
    (λ h. let room : length r.operands < 48 = grind (arith, nat_tests) in record {
      stems = refl;
      mask_len = refl;
      one_more = omega (arith, length-append r.operands (n ∷ []));
      sound = record { few = omega (arith, length-append r.operands (n ∷ [])); fit = fit_more r.operands n s.fit f };
    })
    (λ h. tt)
class_token library (Operation op) rest r f s = class_operator library op (effect_of op) rest r refl s

class_on : (library : Library) (t : Option (Token × List ℕ)) (r : Registers) → TokenFits t → Sound r → Class r (act_on library t r)
class_on library None r f s = tt
class_on library (Some t) r f s = class_token library t.0 t.1 r f s

-- each act is silent, or it says an event whose bytes make it again
pub class_at : (library : Library) (bytes : List ℕ) (r : Registers) → Sound r → Class r (act_at library bytes r)
unfolding act_at
class_at library bytes r s = class_on library (token_of bytes) r (token_fits bytes) s
