-- An event, opened.
use Rattle.std.proofs.Common.{◌≡◌, ℕ, ℤ, Bool, true, false, List, [], ◌∷◌, length, refl, sym, ap, subst}
use Rattle.std.specs.Prelude.{◌==◌, if◌then◌else◌}
use Rattle.std.proofs.lemmas.Bool.{eqb-true}
use Rattle.subsetter_cffdata.specs.declared.dicts.operator.OperatorType.{OperatorType}
use Rattle.subsetter_cffdata.specs.declared.dicts.operator.OperatorType.TheVariants.{OneByteOperator, TwoByteOperator}
use Rattle.subsetter_blend.specs.declared.writing.placing.Position.{Position}
use Rattle.subsetter_blend.specs.Drawing.{flex_drawn, event_drawn, IsAccepted}
use Rattle.subsetter_blend.specs.Drawn.{Segment, Flex, code, curves}
use Rattle.subsetter_blend.specs.Writing.Flex.{opened, opened_by, opened_operator, operand_at}
use Rattle.subsetter_blend.specs.Runs.Kind.{type_accepts, two_byte_accepts, accepts}
use Rattle.subsetter_blend.specs.Writing.Marks.{marks, event_marks}
use Rattle.subsetter_blend.specs.Writing.Stems.{stems_of}
use Rattle.subsetter_blend.specs.Writing.Taking.{Event}
use Rattle.subsetter_blend.proofs.DrawnLaws.Opened.{opens_flex}

-- ---- what opening leaves
module _ (mark : ℕ) (vs : List ℤ) (mask : List ℕ) where
  abbrev flex_event : ℕ → Event
  flex_event second = record { operator = record { 0 = TwoByteOperator (mark ∷ second ∷ []) }; operands = vs; mask = mask }

  pub record IsOpenedFlex (second : ℕ) : Type 0 where
    pub count : accepts (code Flex) (length (opened_by second vs)) ≡ true
    pub draws : (at : Position) → curves at (opened_by second vs) ≡ flex_drawn second at vs

  flex_34 : IsOpenedFlex 34
  unfolding accepts
  flex_34 = record { count = refl; draws = λ at. (opens_flex at (operand_at vs)).0 }

  flex_36 : IsOpenedFlex 36
  unfolding accepts
  flex_36 = record { count = refl; draws = λ at. (opens_flex at (operand_at vs)).1 }

  flex_37 : IsOpenedFlex 37
  unfolding accepts
  flex_37 = record { count = refl; draws = λ at. (opens_flex at (operand_at vs)).2 }

  flex_35 : (length vs == 13) ≡ true → IsOpenedFlex 35
  unfolding accepts
  flex_35 h = record { count = h; draws = λ at. refl }

  if_flex : (b : Bool) (here rest : Bool) (P : Type 0) → (b ≡ true → here ≡ true → P) → (rest ≡ true → P) → (if b then here else rest) ≡ true → P
  if_flex true here rest P f g h = f refl h
  if_flex false here rest P f g h = g h

  at_second : (second k : ℕ) → (second == k) ≡ true → IsOpenedFlex k → IsOpenedFlex second
  at_second second k e f = subst (λ (n : ℕ). IsOpenedFlex n) (sym (eqb-true second k e)) f

  pub opened_flex : (second : ℕ) → two_byte_accepts second (length vs) ≡ true → IsOpenedFlex second
  opened_flex second a =
      if_flex (second == 34) _ _ (IsOpenedFlex second) (λ e h. at_second second 34 e flex_34)
      (λ a. if_flex (second == 35) _ _ (IsOpenedFlex second) (λ e h. at_second second 35 e (flex_35 h))
      (λ a. if_flex (second == 36) _ _ (IsOpenedFlex second) (λ e h. at_second second 36 e flex_36)
      (λ a. if_flex (second == 37) _ false (IsOpenedFlex second) (λ e h. at_second second 37 e flex_37) (λ h. absurd (cc)) a) a) a) a

-- an event that is open, as all pieces are
abbrev pub IsOpen : Event → Type 0
IsOpen x = opened_operator x.operator.0 ≡ x.operator.0

pub record IsOpened (e : Event) : Type 0 where
  pub accepted : IsAccepted (opened e)
  pub draws : (at : Position) → event_drawn (opened e) at ≡ event_drawn e at
  pub is_open : IsOpen (opened e)
  pub stems : (vertical : Bool) → stems_of vertical (opened e) ≡ stems_of vertical e
  pub says : (at : Position) → event_marks (opened e) at ≡ event_marks e at

type_opened : (t : OperatorType) (vs : List ℤ) (mask : List ℕ) → type_accepts t (length vs) ≡ true → IsOpened (record { operator = record { 0 = t }; operands = vs; mask = mask })
unfolding accepts opened
type_opened (OneByteOperator []) vs mask a = absurd (cc)
type_opened (OneByteOperator (b ∷ [])) vs mask a = record { accepted = a; draws = λ at. refl; is_open = refl; stems = λ vertical. refl; says = λ at. refl }
type_opened (OneByteOperator (c ∷ b ∷ bytes)) vs mask a = absurd (cc)
type_opened (TwoByteOperator []) vs mask a = absurd (cc)
type_opened (TwoByteOperator (c ∷ [])) vs mask a = absurd (cc)
type_opened (TwoByteOperator (mark ∷ second ∷ [])) vs mask a =
    let f = opened_flex mark vs mask second a in
    record { accepted = f.count; draws = λ at. f.draws at; is_open = refl; stems = λ vertical. refl; says = λ at. ap (λ (d : List Segment). marks [] [] [] d) (f.draws at) }
type_opened (TwoByteOperator (c ∷ b ∷ d ∷ bytes)) vs mask a = absurd (cc)

pub is_opened : (e : Event) → IsAccepted e → IsOpened e
unfolding accepts
is_opened e a = type_opened e.operator.0 e.operands e.mask a
