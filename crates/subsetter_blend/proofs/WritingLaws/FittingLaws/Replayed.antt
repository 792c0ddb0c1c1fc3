-- What a CFF2 charstring says, as a token of the machine that runs Type 2 charstrings.
use Rattle.std.proofs.Common.{◌≡◌, ℕ, ◌+◌, ◌/◌, ◌%◌, ◌≤◌, ℤ, Bool, true, false, List, [], ◌∷◌, ◌++◌, length, take, drop, Option, Some, None, refl, sym, ap, subst, ◌∙◌, arith, length-append}
use Rattle.std.specs.Prelude.{◌==◌, nat_le, nat_lt, if◌then◌else◌}
use Rattle.std.specs.Option.{option_and_then}
use Rattle.std.proofs.lemmas.Bool.{le-leb, leb-true, eqb-true, false≢true}
use Rattle.std.proofs.lemmas.Bool.Decides.{nat_tests}
use Rattle.std.proofs.lemmas.List.{take_at, drop_at, length-take-le}
use Rattle.subsetter_cffdata.specs.declared.numerals.charstring_number.CharStringNumber.{CharStringNumber}
use Rattle.subsetter_cffdata.specs.declared.dicts.operator.Operator.{Operator}
use Rattle.subsetter_cffdata.specs.declared.dicts.operator.OperatorType.{OperatorType}
use Rattle.subsetter_cffdata.specs.declared.dicts.operator.OperatorType.TheVariants.{OneByteOperator, TwoByteOperator}
use Rattle.subsetter_cffdata.specs.Views.{operator_of}
use Rattle.subsetter_type2.specs.declared.token.Effect.{Effect}
use Rattle.subsetter_type2.specs.declared.token.Effect.TheVariants as effect
use Rattle.subsetter_type2.specs.Runs.Machine as type2
use Rattle.subsetter_type2.specs.Token.{Token, Operand, Operation, token_of, effect_of, type_effect, one_byte_effect, two_byte_effect}
use Rattle.subsetter_type2.proofs.RunsLaws.Acts.{act_operator}
use Rattle.subsetter_blend.specs.declared.runs.kind.Kind.{Kind}
use Rattle.subsetter_blend.specs.declared.runs.kind.Kind.TheVariants.{ChoosesData, Blends, CountsStems, Draws, CallsLocal, CallsGlobal, Masks}
use Rattle.subsetter_blend.specs.Drawing.{IsAccepted}
use Rattle.subsetter_blend.specs.Writing.Flex.{opened, opened_operator}
use Rattle.subsetter_blend.specs.Runs.Kind.{kind_of, type_kind, operator_kind, type_accepts, accepts}
use Rattle.subsetter_blend.specs.Runs.Machine.{Setting, Registers, Act, Does, Fails, emit, stems_after, count_stems, take_mask, mask, subroutine, last_operand, but_last, last_natural, blended_by, enter, stacked, if_there, chosen, choose, operate, act, act_on, act_at}
use Rattle.subsetter_blend.specs.Runs.Number.{are_within}
use Rattle.subsetter_blend.specs.Writing.Taking.{Event}
use Rattle.subsetter_blend.specs.Hint.{is_hint}

abbrev pub at : ℕ → ℕ → List CharStringNumber → type2.Registers
at stems mask_len numbers = record { operands = numbers; stems = stems; mask_len = mask_len }

-- the stems that pieces of the event counted, so that its last operands make the rest of them
pub record IsCounted (r : Registers) (e : Event) (stems n : ℕ) : Type 0 where
  pub hint : is_hint e.operator.0 ≡ true → stems + n / 2 ≡ r.stems + length e.operands / 2
  pub path : is_hint e.operator.0 ≡ false → stems ≡ r.stems
  pub none : length e.operands ≡ 0 → stems ≡ r.stems

-- the plain machine takes the opened operator with the last operands, up to a width before them
pub record Loud (r : Registers) (e : Event) (next : Registers) : Type 0 where
  pub accepted : IsAccepted e
  pub few : is_hint e.operator.0 ≡ true → (length e.operands ≡ 0 → ⊥) → r.stems + length e.operands / 2 ≤ 65535
  pub again : (library : type2.Library) (x : List ℕ) (stems : ℕ) (numbers : List CharStringNumber) → IsCounted r e stems (length numbers)
      → type2.act_at library (operator_of (opened e).operator ++ (e.mask ++ x)) (at stems r.mask_len numbers)
      ≡ type2.Does (Some (record { operator = (opened e).operator; operands = numbers; mask = e.mask })) (at next.stems next.mask_len []) (type2.On x)

abbrev pub Class : Registers → Act → Type 0
Class r (Fails error) = Unit {0}
Class r (Does None next lead) = (next.stems ≡ r.stems) × (next.mask_len ≡ r.mask_len)
Class r (Does (Some e) next lead) = Loud r e next

if_class : (r : Registers) (b : Bool) (x y : Act) → (b ≡ true → Class r x) → (b ≡ false → Class r y) → Class r (if b then x else y)
if_class r true x y f g = f refl
if_class r false x y f g = g refl

-- ---- operators
abbrev kind_back : Kind → Option Effect
kind_back ChoosesData = None
kind_back Blends = None
kind_back CountsStems = Some effect.CountsStems
kind_back Draws = Some effect.Draws
kind_back CallsLocal = Some effect.CallsLocal
kind_back CallsGlobal = Some effect.CallsGlobal
kind_back Masks = Some effect.Masks

of_kind : (o : Option Effect) (k : Kind) → kind_of o ≡ Some k → o ≡ kind_back k
of_kind None k e = absurd (cc)
of_kind (Some effect.CountsStems) k e = let p : ◌≡◌ {A = Kind} CountsStems k = cc in subst (λ (x : Kind). Some effect.CountsStems ≡ kind_back x) p refl
of_kind (Some effect.Draws) k e = let p : ◌≡◌ {A = Kind} Draws k = cc in subst (λ (x : Kind). Some effect.Draws ≡ kind_back x) p refl
of_kind (Some effect.CallsLocal) k e = let p : ◌≡◌ {A = Kind} CallsLocal k = cc in subst (λ (x : Kind). Some effect.CallsLocal ≡ kind_back x) p refl
of_kind (Some effect.CallsGlobal) k e = let p : ◌≡◌ {A = Kind} CallsGlobal k = cc in subst (λ (x : Kind). Some effect.CallsGlobal ≡ kind_back x) p refl
of_kind (Some effect.Returns) k e = absurd (cc)
of_kind (Some effect.Ends) k e = absurd (cc)
of_kind (Some effect.Masks) k e = let p : ◌≡◌ {A = Kind} Masks k = cc in subst (λ (x : Kind). Some effect.Masks ≡ kind_back x) p refl

abbrev IsShared : Kind → Type 0
IsShared ChoosesData = ⊥
IsShared Blends = ⊥
IsShared _ = Unit {0}

one_shared : (b : Bool) (k own : Kind) (rest : Option Kind) → (IsShared own → ⊥) → IsShared k → (if b then Some own else rest) ≡ Some k → rest ≡ Some k
one_shared true k own rest apart shared e = let p : ◌≡◌ {A = Kind} own k = cc in absurd (apart (subst IsShared (sym p) shared))
one_shared false k own rest apart shared e = e

type_effect_is : (t : OperatorType) (k : Kind) → IsShared k → type_kind t ≡ Some k → type_effect t ≡ kind_back k
type_effect_is (OneByteOperator []) k s e = absurd (cc)
type_effect_is (OneByteOperator (b ∷ [])) k s e =
    of_kind (one_byte_effect b) k (one_shared (b == 16) k Blends (kind_of (one_byte_effect b)) (λ h. h) s (one_shared (b == 15) k ChoosesData _ (λ h. h) s e))
type_effect_is (OneByteOperator (a ∷ b ∷ bytes)) k s e = absurd (cc)
type_effect_is (TwoByteOperator []) k s e = absurd (cc)
type_effect_is (TwoByteOperator (a ∷ [])) k s e = absurd (cc)
type_effect_is (TwoByteOperator (mark ∷ second ∷ [])) k s e = of_kind (two_byte_effect mark second) k e
type_effect_is (TwoByteOperator (a ∷ b ∷ c ∷ bytes)) k s e = absurd (cc)

effect_is : (operator : Operator) (k : Kind) → IsShared k → operator_kind operator ≡ Some k → effect_of operator ≡ kind_back k
unfolding operator_kind effect_of
effect_is operator k s e = type_effect_is operator.0 k s e

-- an operator that counts stems has one byte
type_hint : (t : OperatorType) → type_effect t ≡ Some effect.CountsStems → is_hint t ≡ true
type_hint (OneByteOperator []) e = absurd (cc)
type_hint (OneByteOperator (b ∷ [])) e = grind (arith, nat_tests)
type_hint (OneByteOperator (a ∷ b ∷ bytes)) e = absurd (cc)
type_hint (TwoByteOperator []) e = absurd (cc)
type_hint (TwoByteOperator (a ∷ [])) e = absurd (cc)
type_hint (TwoByteOperator (mark ∷ second ∷ [])) e = grind (arith, nat_tests)
type_hint (TwoByteOperator (a ∷ b ∷ c ∷ bytes)) e = absurd (cc)

type_mask : (t : OperatorType) → type_effect t ≡ Some effect.Masks → is_hint t ≡ true
type_mask (OneByteOperator []) e = absurd (cc)
type_mask (OneByteOperator (b ∷ [])) e = grind (arith, nat_tests)
type_mask (OneByteOperator (a ∷ b ∷ bytes)) e = absurd (cc)
type_mask (TwoByteOperator []) e = absurd (cc)
type_mask (TwoByteOperator (a ∷ [])) e = absurd (cc)
type_mask (TwoByteOperator (mark ∷ second ∷ [])) e = grind (arith, nat_tests)
type_mask (TwoByteOperator (a ∷ b ∷ c ∷ bytes)) e = absurd (cc)

hint_of_stems : (operator : Operator) → effect_of operator ≡ Some effect.CountsStems → is_hint operator.0 ≡ true
unfolding effect_of
hint_of_stems operator e = type_hint operator.0 e

hint_of_mask : (operator : Operator) → effect_of operator ≡ Some effect.Masks → is_hint operator.0 ≡ true
unfolding effect_of
hint_of_mask operator e = type_mask operator.0 e

type_path : (t : OperatorType) → type_effect t ≡ Some effect.Draws → is_hint t ≡ false
type_path (OneByteOperator []) e = refl
type_path (OneByteOperator (b ∷ [])) e = grind (arith, nat_tests)
type_path (OneByteOperator (a ∷ b ∷ bytes)) e = refl
type_path (TwoByteOperator code) e = refl

path_of_draws : (operator : Operator) → effect_of operator ≡ Some effect.Draws → is_hint operator.0 ≡ false
unfolding effect_of
path_of_draws operator e = type_path operator.0 e

type_even : (t : OperatorType) (n : ℕ) → is_hint t ≡ true → type_accepts t n ≡ true → n % 2 ≡ 0
type_even (OneByteOperator []) n h a = absurd (cc)
type_even (OneByteOperator (b ∷ [])) n h a = grind (arith, nat_tests)
type_even (OneByteOperator (c ∷ b ∷ bytes)) n h a = absurd (cc)
type_even (TwoByteOperator code) n h a = absurd (cc)

pub even_hint : (operator : Operator) (n : ℕ) → is_hint operator.0 ≡ true → accepts operator n ≡ true → n % 2 ≡ 0
unfolding accepts
even_hint operator n h a = type_even operator.0 n h a

-- what opening leaves
type_opened : (t : OperatorType) → is_hint t ≡ true → opened_operator t ≡ t
type_opened (OneByteOperator code) h = refl
type_opened (TwoByteOperator code) h = absurd (cc)

pub opened_hint : (e : Event) → is_hint e.operator.0 ≡ true → (opened e).operator ≡ e.operator
unfolding opened
opened_hint e h = ap (λ (t : OperatorType). record { 0 = t }) (type_opened e.operator.0 h)

type_draws : (t : OperatorType) → type_effect t ≡ Some effect.Draws → type_effect (opened_operator t) ≡ Some effect.Draws
type_draws (OneByteOperator code) h = h
type_draws (TwoByteOperator code) h = refl

opened_draws : (e : Event) → effect_of e.operator ≡ Some effect.Draws → effect_of (opened e).operator ≡ Some effect.Draws
unfolding opened effect_of
opened_draws e h = type_draws e.operator.0 h

-- ---- the acts
pub stems_done : (operator : Operator) (x : List ℕ) (numbers : List CharStringNumber) (stems mask_len after : ℕ) → stems + length numbers / 2 ≡ after → nat_le (stems + length numbers / 2) 65535 ≡ true
    → type2.count_stems operator x (at stems mask_len numbers) ≡ type2.Does (Some (record { operator = operator; operands = numbers; mask = [] })) (at after mask_len []) (type2.On x)
stems_done operator x numbers stems mask_len after e h = rw h (ap (λ (n : ℕ). type2.Does (Some (record { operator = operator; operands = numbers; mask = [] })) (at n mask_len []) (type2.On x)) e)

-- a mask whose length is `mask_len` and that comes before others
took_again : (operator : Operator) (rest x : List ℕ) (r : type2.Registers) → nat_le r.mask_len (length rest) ≡ true
    → type2.take_mask operator (take r.mask_len rest ++ x) r ≡ type2.emit operator (take r.mask_len rest) (type2.On x) r
took_again operator rest x r h =
    let within : r.mask_len ≤ length rest = grind (arith, nat_tests) in
    let n : length (take r.mask_len rest) ≡ r.mask_len = length-take-le r.mask_len rest within in
    let enough : r.mask_len ≤ length (take r.mask_len rest ++ x) = omega (arith, length-append (take r.mask_len rest) x) in
    rw (le-leb r.mask_len (length (take r.mask_len rest ++ x)) enough, take_at (take r.mask_len rest) x r.mask_len n, drop_at (take r.mask_len rest) x r.mask_len n) refl

-- the first mask counts its operands as stems
first_done : (operator : Operator) (rest x : List ℕ) (numbers : List CharStringNumber) (before mask_len stems : ℕ) → (mask_len == 0) ≡ true → before + length numbers / 2 ≡ stems
    → nat_le stems 65535 ≡ true → nat_le ((stems + 7) / 8) (length rest) ≡ true
    → type2.mask operator (take ((stems + 7) / 8) rest ++ x) (at before mask_len numbers)
    ≡ type2.Does (Some (record { operator = operator; operands = numbers; mask = take ((stems + 7) / 8) rest })) (at stems ((stems + 7) / 8) []) (type2.On x)
first_done operator rest x numbers before mask_len stems z e h t =
    rw (z, e, h) (took_again operator rest x (at stems ((stems + 7) / 8) numbers) t)

module _ (r0 : Registers) (operator : Operator) where
  emit_class : (code rest : List ℕ) (r : Registers) → (accepts operator (length r.operands) ≡ true → Loud r0 (record { operator = operator; operands = r.operands; mask = code }) (record r { operands = [] })) → Class r0 (emit operator code rest r)
  emit_class code rest r f = if_class r0 (accepts operator (length r.operands)) _ _ f (λ h. tt)

  stems_class : (rest : List ℕ) → effect_of operator ≡ Some effect.CountsStems → Class r0 (count_stems operator rest r0)
  stems_class rest e =
      if_class r0 (nat_le (stems_after r0) 65535) _ _
      (λ h. emit_class [] rest (record r0 { stems = stems_after r0 }) (λ a. record {
        accepted = a;
        few = λ hint some. leb-true (stems_after r0) 65535 h;
        again = λ library x stems numbers counted.
            let event : Event = record { operator = operator; operands = r0.operands; mask = [] } in
            let same : (opened event).operator ≡ operator = opened_hint event (hint_of_stems operator e) in
            let count : stems + length numbers / 2 ≡ stems_after r0 = counted.hint (hint_of_stems operator e) in
            let few : nat_le (stems + length numbers / 2) 65535 ≡ true = ap (λ (n : ℕ). nat_le n 65535) count ∙ h in
            subst (λ (op : Operator). type2.act_at library (operator_of op ++ ([] ++ x)) (at stems r0.mask_len numbers) ≡ type2.Does (Some (record { operator = op; operands = numbers; mask = [] })) (at (stems_after r0) r0.mask_len []) (type2.On x)) (sym same)
            (act_operator library operator effect.CountsStems x (at stems r0.mask_len numbers) e
            ∙ stems_done operator x numbers stems r0.mask_len (stems_after r0) count few);
      }))
      (λ h. tt)

  draws_class : (rest : List ℕ) → effect_of operator ≡ Some effect.Draws → Class r0 (emit operator [] rest r0)
  draws_class rest e = emit_class [] rest r0 (λ a. record {
    accepted = a;
    few = λ hint some. absurd (false≢true (sym (path_of_draws operator e) ∙ hint));
    again = λ library x stems numbers counted.
        let event : Event = record { operator = operator; operands = r0.operands; mask = [] } in
        act_operator library (opened event).operator effect.Draws x (at stems r0.mask_len numbers) (opened_draws event e)
        ∙ ap (λ (n : ℕ). type2.Does (Some (record { operator = (opened event).operator; operands = numbers; mask = [] })) (at n r0.mask_len []) (type2.On x)) (counted.path (path_of_draws operator e));
  })

  -- a mask whose length is known
  later_class : (rest : List ℕ) → (r0.mask_len == 0) ≡ false → length r0.operands ≡ 0 → effect_of operator ≡ Some effect.Masks → Class r0 (take_mask operator rest r0)
  later_class rest z none e =
      if_class r0 (nat_le r0.mask_len (length rest)) _ _
      (λ t. emit_class (take r0.mask_len rest) (drop r0.mask_len rest) r0 (λ a. record {
        accepted = a;
        few = λ hint some. absurd (some none);
        again = λ library x stems numbers counted.
            let code = take r0.mask_len rest in
            let event : Event = record { operator = operator; operands = r0.operands; mask = code } in
            let same : (opened event).operator ≡ operator = opened_hint event (hint_of_mask operator e) in
            subst (λ (op : Operator). type2.act_at library (operator_of op ++ (code ++ x)) (at stems r0.mask_len numbers) ≡ type2.Does (Some (record { operator = op; operands = numbers; mask = code })) (at r0.stems r0.mask_len []) (type2.On x)) (sym same)
            (act_operator library operator effect.Masks (code ++ x) (at stems r0.mask_len numbers) e
            ∙ rw z (took_again operator rest x (at stems r0.mask_len numbers) t)
            ∙ ap (λ (n : ℕ). type2.Does (Some (record { operator = operator; operands = numbers; mask = code })) (at n r0.mask_len []) (type2.On x)) (counted.none none));
      }))
      (λ t. tt)

  -- the first mask
  first_class : (rest : List ℕ) → (r0.mask_len == 0) ≡ true → nat_le (stems_after r0) 65535 ≡ true → effect_of operator ≡ Some effect.Masks
      → Class r0 (take_mask operator rest (record r0 { stems = stems_after r0; mask_len = (stems_after r0 + 7) / 8 }))
  first_class rest z h e =
      let stems = stems_after r0 in
      let len = (stems_after r0 + 7) / 8 in
      if_class r0 (nat_le len (length rest)) _ _
      (λ t. emit_class (take len rest) (drop len rest) (record r0 { stems = stems; mask_len = len }) (λ a. record {
        accepted = a;
        few = λ hint some. leb-true (stems_after r0) 65535 h;
        again = λ library x before numbers counted.
            let code = take len rest in
            let event : Event = record { operator = operator; operands = r0.operands; mask = code } in
            let same : (opened event).operator ≡ operator = opened_hint event (hint_of_mask operator e) in
            let count : before + length numbers / 2 ≡ stems = counted.hint (hint_of_mask operator e) in
            subst (λ (op : Operator). type2.act_at library (operator_of op ++ (code ++ x)) (at before r0.mask_len numbers) ≡ type2.Does (Some (record { operator = op; operands = numbers; mask = code })) (at stems len []) (type2.On x)) (sym same)
            (act_operator library operator effect.Masks (code ++ x) (at before r0.mask_len numbers) e
            ∙ first_done operator rest x numbers before r0.mask_len stems z count h t);
      }))
      (λ t. tt)

  mask_class : (rest : List ℕ) → effect_of operator ≡ Some effect.Masks → Class r0 (mask operator rest r0)
  mask_class rest e =
      if_class r0 (r0.mask_len == 0) _ _
      (λ z. if_class r0 (nat_le (stems_after r0) 65535) _ _ (λ h. first_class rest z h e) (λ h. tt))
      (λ z. if_class r0 (length r0.operands == 0) _ _ (λ h. later_class rest z (eqb-true (length r0.operands) 0 h) e) (λ h. tt))

class_call : (r : Registers) (rest : List ℕ) (body : Option (List ℕ)) → Class r (enter body rest r)
class_call r rest None = tt
class_call r rest (Some body) = (refl, refl)

class_stacked : (r : Registers) (rest : List ℕ) (o : Option (List ℤ)) → Class r (stacked o rest r)
class_stacked r rest None = tt
class_stacked r rest (Some operands) = if_class r (are_within operands) _ _ (λ h. (refl, refl)) (λ h. tt)

class_there : (r : Registers) (o : Option (List ℤ)) (a : Act) → Class r a → Class r (if_there o a)
class_there r None a h = tt
class_there r (Some scalars) a h = h

class_chosen : (r : Registers) (n : Option ℕ) (scalars : ℕ → Option (List ℤ)) (rest : List ℕ) → Class r (chosen n scalars rest r)
class_chosen r None scalars rest = tt
class_chosen r (Some n) scalars rest = class_there r (scalars n) _ (refl, refl)

class_choose : (r : Registers) (scalars : ℕ → Option (List ℤ)) (rest : List ℕ) → Class r (choose scalars rest r)
class_choose r scalars rest = if_class r r.settled _ _ (λ h. tt) (λ h. if_class r (length r.operands == 1) _ _ (λ l. class_chosen r _ scalars rest) (λ l. tt))

class_operator : (setting : Setting) (operator : Operator) (kind : Option Kind) (rest : List ℕ) (r : Registers) → operator_kind operator ≡ kind → Class r (operate setting operator kind rest r)
class_operator setting operator None rest r e = tt
class_operator setting operator (Some ChoosesData) rest r e = class_choose r setting.scalars rest
class_operator setting operator (Some Blends) rest r e = class_stacked r rest (blended_by (setting.scalars r.data_index) (last_natural r) (but_last r.operands))
class_operator setting operator (Some CountsStems) rest r e = stems_class r operator rest (effect_is operator CountsStems tt e)
class_operator setting operator (Some Draws) rest r e = draws_class r operator rest (effect_is operator Draws tt e)
class_operator setting operator (Some CallsLocal) rest r e = class_call r rest (option_and_then (subroutine setting.library.local) (last_operand r.operands))
class_operator setting operator (Some CallsGlobal) rest r e = class_call r rest (option_and_then (subroutine setting.library.global) (last_operand r.operands))
class_operator setting operator (Some Masks) rest r e = mask_class r operator rest (effect_is operator Masks tt e)

class_token : (setting : Setting) (token : Token) (rest : List ℕ) (r : Registers) → Class r (act setting token rest r)
class_token setting (Operand n) rest r = if_class r (nat_lt (length r.operands) 513) _ _ (λ h. (refl, refl)) (λ h. tt)
class_token setting (Operation operator) rest r = class_operator setting operator (operator_kind operator) rest r refl

class_on : (setting : Setting) (t : Option (Token × List ℕ)) (r : Registers) → Class r (act_on setting t r)
class_on setting None r = tt
class_on setting (Some t) r = class_token setting t.0 t.1 r

pub class_at : (setting : Setting) (bytes : List ℕ) (r : Registers) → Class r (act_at setting bytes r)
unfolding act_at
class_at setting bytes r = class_on setting (token_of bytes) r
