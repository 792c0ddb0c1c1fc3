-- A private dict can't be placed exactly where it has such a fault.
use Rattle.std.proofs.Common.{◌≡◌, ℕ, ◌+◌, ◌-◌, ◌*◌, ◌<◌, ℤ, Bool, true, false, List, [], ◌∷◌, ◌++◌, length, take, Option, Some, None, refl, ap, ◌∙◌, sym, subst, inl, inr}
use Rattle.std.specs.Prelude.{Result, Ok, Err, nat_le, if◌then◌else◌}
use Rattle.std.specs.List.{list_any}
use Rattle.std.specs.Option.{ok_or, option_and_then, option_map}
use Rattle.std.proofs.lemmas.Bool.{leb-false, lt-leb}
use Rattle.std.proofs.lemmas.Option.{none-some}
use Rattle.subsetter_base.specs.Bytes.{◌>>=◌}
use Rattle.subsetter_base.specs.declared.error.Error.{Error}
use Rattle.subsetter_base.specs.declared.error.Error.TheVariants.{MalformedFont, OverflowError}
use Rattle.subsetter_cffdata.specs.Dicts.Dict.{Entry}
use Rattle.subsetter_cffdata.specs.Numerals.Numbers.{Number, is_too_long}
use Rattle.subsetter_cffdata.specs.Dicts.Operands.{offset_operand}
use Rattle.subsetter_cff.specs.Write.NewDicts.Rewritten.{written_entry}
use Rattle.subsetter_cff.proofs.ReadLaws.Refusals.{bind_err, none_of, none_or}
use Rattle.subsetter_cff.proofs.ReadLaws.Results.{some_of}
use Rattle.subsetter_cff2.specs.PrivateDicts.Blend.{blended}
use Rattle.subsetter_cff2.specs.PrivateDicts.EntryLists.{entry_lists}
use Rattle.subsetter_cff2.specs.PrivateDicts.PrivateAt.{Registers, Step, at_start, blended_by, chosen, last_natural, pushed, silent, step_by}
use Rattle.subsetter_cff2.specs.PrivateDicts.PrivateKinds.{kind_by}
use Rattle.subsetter_cff2.specs.PrivateDicts.PrivateText.{PlacedText, TextStep, following, placed_text, private_text, entry_text, step_text}
use Rattle.subsetter_cff2.specs.Variation.{Variation, data_scalars}
use Rattle.subsetter_cff2.specs.declared.private_dicts.kinds.PrivateOperator.{PrivateOperator}
use Rattle.subsetter_cff2.specs.declared.private_dicts.kinds.PrivateOperator.TheVariants.{Blends, ChoosesData, Edges, Numbers, Dropped}
use Rattle.subsetter_cff_at.specs.PrivateFault.{HasDictOperatorFault, HasEntryFault, HasPrivateFault, blend_without_store, blend_without_count, blend_without_data, few_blended, data_without_store, late_data, unnamed_data, no_data, full_stack, in_operator, long_real, later}

-- ---- blend and vsindex
few_by : (b : Bool) (need have : ℕ) (operands : List (Option ℤ)) → nat_le need have ≡ b → ◌≡◌ {A = Option (List (Option ℤ))} (if b then Some operands else None) None → have < need
few_by true need have operands is h = absurd (none-some _ (sym h))
few_by false need have operands is h = leb-false need have is

few_is : (scalars : List ℤ) (n : ℕ) (operands : List (Option ℤ)) → blended scalars n operands ≡ None → length operands < n * (length scalars + 1)
unfolding blended
few_is scalars n operands h = few_by _ (n * (length scalars + 1)) (length operands) _ refl h

is_few : (scalars : List ℤ) (n : ℕ) (operands : List (Option ℤ)) → length operands < n * (length scalars + 1) → blended scalars n operands ≡ None
unfolding blended
is_few scalars n operands h = rw (lt-leb (n * (length scalars + 1)) (length operands) h) refl

none_mapped : {A B : Type 0} (f : A → B) (o : Option A) → option_map f o ≡ None → o ≡ None
none_mapped f None h = refl
none_mapped f (Some x) h = absurd (none-some _ (sym h))

abbrev at_data : ℕ → Registers
at_data outer = record { defaults = []; parts = []; data_index = outer; settled = true }

module _ (operator : List ℕ) (r : Registers) where
  blend_refused : (v : Option Variation) → kind_by operator ≡ Blends → blended_by v r ≡ None → HasDictOperatorFault v operator r MalformedFont
  unfolding blended_by
  blend_refused None is h = blend_without_store is refl
  blend_refused (Some store) is h =
      elim (none_or (last_natural r.defaults) _ h) [
        | inl none ↦ blend_without_count is none
        | inr a ↦ elim (none_or (data_scalars store r.data_index) _ a.1.1) [
          | inl none ↦ blend_without_data store is refl none
          | inr b ↦ elim (none_or (blended b.0 a.0 (take (length r.parts - 1) r.parts)) _ b.1.1) [
            | inl none ↦ few_blended store b.0 a.0 is refl b.1.0 a.1.0 (few_is b.0 a.0 _ none)
            | inr c ↦ absurd (none-some _ (sym c.1.1))
          ]
        ]
      ]

  data_by : (late : Bool) (store : Variation) → kind_by operator ≡ ChoosesData → r.settled ≡ late
      → ◌≡◌ {A = Option Registers} (if late then None else option_and_then (λ outer. option_and_then (λ scalars. Some (at_data outer)) (data_scalars store outer)) (offset_operand r.defaults)) None
      → HasDictOperatorFault (Some store) operator r MalformedFont
  data_by true store is settled h = late_data is settled
  data_by false store is settled h =
      elim (none_or (offset_operand r.defaults) _ h) [
        | inl none ↦ unnamed_data is none
        | inr a ↦ elim (none_or (data_scalars store a.0) _ a.1.1) [
          | inl none ↦ no_data store a.0 is refl a.1.0 none
          | inr b ↦ absurd (none-some _ (sym b.1.1))
        ]
      ]

  data_refused : (v : Option Variation) → kind_by operator ≡ ChoosesData → chosen v r ≡ None → HasDictOperatorFault v operator r MalformedFont
  unfolding chosen
  data_refused None is h = data_without_store is refl
  data_refused (Some store) is h = data_by r.settled store is refl h

  operator_by : (kind : PrivateOperator) (v : Option Variation) → kind_by operator ≡ kind → step_by kind v operator r ≡ None → HasDictOperatorFault v operator r MalformedFont
  operator_by Blends v is h = blend_refused v is (none_mapped silent (blended_by v r) h)
  operator_by ChoosesData v is h = data_refused v is (none_mapped silent (chosen v r) h)
  operator_by Edges v is h = absurd (none-some _ (sym h))
  operator_by Numbers v is h = absurd (none-some _ (sym h))
  operator_by Dropped v is h = absurd (none-some _ (sym h))

  -- ---- and the other way
  unmapped : (v : Option Variation) (kind : PrivateOperator) (o : Option Registers) → kind_by operator ≡ kind → step_by kind v operator r ≡ option_map silent o → o ≡ None → step_by (kind_by operator) v operator r ≡ None
  unmapped v kind o is same none = ap (λ k. step_by k v operator r) is ∙ same ∙ ap (option_map silent) none

  unblended : (v : Option Variation) → kind_by operator ≡ Blends → blended_by v r ≡ None → step_by (kind_by operator) v operator r ≡ None
  unblended v is none = unmapped v Blends (blended_by v r) is refl none

  unnamed : (v : Option Variation) → kind_by operator ≡ ChoosesData → chosen v r ≡ None → step_by (kind_by operator) v operator r ≡ None
  unnamed v is none = unmapped v ChoosesData (chosen v r) is refl none

  uncounted : (v : Option Variation) → last_natural r.defaults ≡ None → blended_by v r ≡ None
  unfolding blended_by
  uncounted None none = refl
  uncounted (Some store) none = rw none refl

  without_data : (store : Variation) (n : Option ℕ) → last_natural r.defaults ≡ n → data_scalars store r.data_index ≡ None → blended_by (Some store) r ≡ None
  unfolding blended_by
  without_data store None count none = rw count refl
  without_data store (Some n) count none = rw (count, none) refl

  with_few : (store : Variation) (scalars : List ℤ) (n : ℕ) → data_scalars store r.data_index ≡ Some scalars → last_natural r.defaults ≡ Some n → blended scalars n (take (length r.parts - 1) r.parts) ≡ None → blended_by (Some store) r ≡ None
  unfolding blended_by
  with_few store scalars n there count none = rw (count, there, none) refl

  chosen_late : (v : Option Variation) → r.settled ≡ true → chosen v r ≡ None
  unfolding chosen
  chosen_late None late = refl
  chosen_late (Some store) late = rw late refl

  either : (b : Bool) → ◌≡◌ {A = Option Registers} (if b then None else None) None
  either true = refl
  either false = refl

  chosen_unnamed : (v : Option Variation) → offset_operand r.defaults ≡ None → chosen v r ≡ None
  unfolding chosen
  chosen_unnamed None none = refl
  chosen_unnamed (Some store) none = rw none (either r.settled)

  chosen_without : (store : Variation) (outer : ℕ) → offset_operand r.defaults ≡ Some outer → data_scalars store outer ≡ None → chosen (Some store) r ≡ None
  unfolding chosen
  chosen_without store outer number none = rw (number, none) (either r.settled)

  no_store : blended_by None r ≡ None
  unfolding blended_by
  no_store = refl

  no_choice : chosen None r ≡ None
  unfolding chosen
  no_choice = refl

  operator_stands : (v : Option Variation) (e : Error) → HasDictOperatorFault v operator r e → (step_by (kind_by operator) v operator r ≡ None) × (MalformedFont ≡ e)
  operator_stands v _ (blend_without_store is none) = (unblended v is (ap (λ w. blended_by w r) none ∙ no_store), refl)
  operator_stands v _ (blend_without_count is none) = (unblended v is (uncounted v none), refl)
  operator_stands v _ (blend_without_data store is there none) = (unblended v is (ap (λ w. blended_by w r) there ∙ without_data store (last_natural r.defaults) refl none), refl)
  operator_stands v _ (few_blended store scalars n is there data_is count few) =
      (unblended v is (ap (λ w. blended_by w r) there ∙ with_few store scalars n data_is count (is_few scalars n _ few)), refl)
  operator_stands v _ (data_without_store is none) = (unnamed v is (ap (λ w. chosen w r) none ∙ no_choice), refl)
  operator_stands v _ (late_data is late) = (unnamed v is (chosen_late v late), refl)
  operator_stands v _ (unnamed_data is none) = (unnamed v is (chosen_unnamed v none), refl)
  operator_stands v _ (no_data store outer is there number none) = (unnamed v is (ap (λ w. chosen w r) there ∙ chosen_without store outer number none), refl)

-- ---- an entry
full_by : (b : Bool) (n : ℕ) (r : Registers) → nat_le n 513 ≡ b → ◌≡◌ {A = Option Registers} (if b then Some r else None) None → 513 < n
full_by true n r is h = absurd (none-some _ (sym h))
full_by false n r is h = leb-false n 513 is

full_is : (r : Registers) (xs : List Number) → pushed r xs ≡ None → 513 < length r.defaults + length xs
unfolding pushed
full_is r xs h = full_by _ (length r.defaults + length xs) _ refl h

is_full : (r : Registers) (xs : List Number) → 513 < length r.defaults + length xs → pushed r xs ≡ None
unfolding pushed
is_full r xs h = rw (lt-leb (length r.defaults + length xs) 513 h) refl

long_by : (b : Bool) (xs : List Number) (text : List ℕ) (e : Error) → list_any is_too_long xs ≡ b → ◌≡◌ {A = Result (List ℕ) Error} (if b then Err OverflowError else Ok text) (Err e) → (list_any is_too_long xs ≡ true) × (OverflowError ≡ e)
long_by true xs text e is h = (is, cc)
long_by false xs text e is h = absurd cc

long_is : (operator : List ℕ) (xs : List Number) (e : Error) → written_entry operator xs ≡ Err e → (list_any is_too_long xs ≡ true) × (OverflowError ≡ e)
unfolding written_entry
long_is operator xs e h = long_by _ xs _ e refl h

is_long : (operator : List ℕ) (xs : List Number) → list_any is_too_long xs ≡ true → written_entry operator xs ≡ Err OverflowError
unfolding written_entry
is_long operator xs h = rw h refl

module _ (v : Option Variation) where
  said_refused : (r here : Registers) (entry : Entry) (more : List Entry) (s : Step) (said : Option Entry) (e : Error) → pushed r entry.operands ≡ Some here → step_by (kind_by entry.operator) v entry.operator here ≡ Some s
      → s.said ≡ said → entry_text said ≡ Err e → HasEntryFault v r (entry ∷ more) e
  said_refused r here entry more s None e pushes steps is h = absurd cc
  said_refused r here entry more s (Some kept) e pushes steps is h =
      (let a = long_is kept.operator kept.operands e h in subst (HasEntryFault v r (entry ∷ more)) a.1 (long_real r here entry kept more s pushes steps is a.0))

  entry_refused : (r : Registers) (entry : Entry) (more : List Entry) (e : Error) → step_text v r entry.operator entry.operands ≡ Err e → HasEntryFault v r (entry ∷ more) e
  unfolding step_text
  entry_refused r entry more e h =
      let F = HasEntryFault v r (entry ∷ more) in
      elim (bind_err (ok_or (pushed r entry.operands) MalformedFont) _ e h) [
        | inl a ↦ (let n = none_of (pushed r entry.operands) MalformedFont e a in subst F n.1 (full_stack r entry more (full_is r entry.operands n.0)))
        | inr a ↦ (
            let pushes = some_of (pushed r entry.operands) MalformedFont a.0 a.1.0 in
            elim (bind_err (ok_or (step_by (kind_by entry.operator) v entry.operator a.0) MalformedFont) _ e a.1.1) [
              | inl b ↦ (let n = none_of (step_by (kind_by entry.operator) v entry.operator a.0) MalformedFont e b in
                  subst F n.1 (in_operator r a.0 entry more pushes (operator_by entry.operator a.0 (kind_by entry.operator) v refl n.0)))
              | inr b ↦ (
                  let steps = some_of (step_by (kind_by entry.operator) v entry.operator a.0) MalformedFont b.0 b.1.0 in
                  elim (bind_err (entry_text b.0.said) _ e b.1.1) [
                    | inl c ↦ said_refused r a.0 entry more b.0 b.0.said e pushes steps refl c
                    | inr c ↦ absurd (let bad : ◌≡◌ {A = Result TextStep Error} (Ok (record { text = c.0; next = b.0.next })) (Err e) = c.1.1 in cc)
                  ]
                  )
            ]
            )
      ]

  entries_refused : (es : List Entry) (r : Registers) (e : Error) → placed_text v r es ≡ Err e → HasEntryFault v r es e
  entries_refused [] r e h = absurd cc
  entries_refused (entry ∷ more) r e h =
      elim (bind_err (step_text v r entry.operator entry.operands) _ e h) [
        | inl a ↦ entry_refused r entry more e a
        | inr a ↦ elim (bind_err (placed_text v a.0.next more) _ e a.1.1) [
          | inl b ↦ later r entry more a.0 a.1.0 (entries_refused more a.0.next e b)
          | inr b ↦ absurd (let bad : ◌≡◌ {A = Result PlacedText Error} (Ok (record { text = a.0.text ++ b.0.text; data_index = b.0.data_index })) (Err e) = b.1.1 in cc)
        ]
      ]

  -- ---- and the other way
  none_step : (r here : Registers) (entry : Entry) → pushed r entry.operands ≡ Some here → step_by (kind_by entry.operator) v entry.operator here ≡ None → step_text v r entry.operator entry.operands ≡ Err MalformedFont
  unfolding step_text
  none_step r here entry pushes none = rw (pushes, none) refl

  full_step : (r : Registers) (entry : Entry) → pushed r entry.operands ≡ None → step_text v r entry.operator entry.operands ≡ Err MalformedFont
  unfolding step_text
  full_step r entry none = rw none refl

  long_step : (r here : Registers) (entry kept : Entry) (s : Step) → pushed r entry.operands ≡ Some here → step_by (kind_by entry.operator) v entry.operator here ≡ Some s → s.said ≡ Some kept
      → written_entry kept.operator kept.operands ≡ Err OverflowError → step_text v r entry.operator entry.operands ≡ Err OverflowError
  unfolding step_text
  long_step r here entry kept s pushes steps said long = rw (pushes, steps, said, long) refl

  first_fails : (r : Registers) (entry : Entry) (more : List Entry) (e : Error) → step_text v r entry.operator entry.operands ≡ Err e → placed_text v r (entry ∷ more) ≡ Err e
  first_fails r entry more e h = ap (λ a. a >>= λ t. following t.text (placed_text v t.next more)) h

  entries_stand : (es : List Entry) (r : Registers) (e : Error) → HasEntryFault v r es e → placed_text v r es ≡ Err e
  entries_stand _ _ _ (full_stack r entry more full) = first_fails r entry more MalformedFont (full_step r entry (is_full r entry.operands full))
  entries_stand _ _ e (in_operator r here entry more pushes f) =
      (let a = operator_stands entry.operator here v e f in first_fails r entry more e (none_step r here entry pushes a.0 ∙ ap (λ (x : Error). Err x) a.1))
  entries_stand _ _ _ (long_real r here entry kept more s pushes steps said long) =
      first_fails r entry more OverflowError (long_step r here entry kept s pushes steps said (is_long kept.operator kept.operands long))
  entries_stand _ _ e (later r entry more s is f) =
      ap (λ a. a >>= λ t. following t.text (placed_text v t.next more)) is ∙ ap (following s.text) (entries_stand more s.next e f)

pub private_refused : (v : Option Variation) (dict : List ℕ) (e : Error) → private_text v dict ≡ Err e → HasPrivateFault v dict e
unfolding private_text
private_refused v dict e h = entries_refused v (entry_lists dict) at_start e h

pub private_stands : (v : Option Variation) (dict : List ℕ) (e : Error) → HasPrivateFault v dict e → private_text v dict ≡ Err e
unfolding private_text
private_stands v dict e f = entries_stand v (entry_lists dict) at_start e f
