-- What is read of a DICT can be written: integers of 32 bits, reals in their one form.
use Rattle.std.proofs.Common.{◌≡◌, ℕ, eqb, leb, Bool, true, false, cond, List, length, Option, Some, None, refl, subst, inl, inr}
use Rattle.std.proofs.lemmas.Bool.{cases_Bool, leb-true}
use Rattle.std.proofs.lemmas.Option.{none-some, same_Some}
use Rattle.subsetter_base.specs.Options.{◌>>=◌}
use Rattle.subsetter_cffdata.specs.Reals.Decimals.{Decimal, text_at, text_limit, real_of, real_at}
use Rattle.subsetter_cffdata.specs.Numerals.Numbers.{Number, integer_from, dict_number_from}
use Rattle.subsetter_cffdata.proofs.NumeralsLaws.BoundedNumbers.{number_bounded}
use Rattle.subsetter_cffdata.proofs.Options.{step, when}
use Rattle.subsetter_cff.proofs.ReadLaws.EntriesLaws.ReadNumbers.{IsWritable, FitsNumber}
use Rattle.subsetter_cff.proofs.ReadLaws.EntriesLaws.Plains.{PlainDecimal, real_plain}

-- what is read, if anything is, is of a kind
pub record Reads {X : Type 0} (Q : X → Type 0) (o : Option (X × List ℕ)) : Type 0 where
  pub each : (x : X × List ℕ) → o ≡ Some x → Q x.0

pub nothing : {X : Type 0} (Q : X → Type 0) → Reads Q None
nothing Q = record { each = λ x e. absurd (none-some x e) }

pub found : {X : Type 0} (Q : X → Type 0) (y : X) (rest : List ℕ) → Q y → Reads Q (Some (y, rest))
found {X} Q y rest q = record { each = λ x e. subst (λ (p : X × List ℕ). Q p.0) (same_Some (y, rest) x e) q }

pub choice : {X : Type 0} (Q : X → Type 0) (b : Bool) (o p : Option (X × List ℕ)) → (b ≡ true → Reads Q o) → (b ≡ false → Reads Q p) → Reads Q (cond b o p)
choice Q true o p l m = l refl
choice Q false o p l m = m refl

pub then : {X Y : Type 0} (P : X → Type 0) (Q : Y → Type 0) (o : Option (X × List ℕ)) (f : X × List ℕ → Option (Y × List ℕ)) → Reads P o → ((x : X × List ℕ) → P x.0 → Reads Q (f x)) → Reads Q (o >>= f)
then P Q None f l m = nothing Q
then P Q (Some x) f l m = m x (l.each x refl)

pub following : {A Y : Type 0} (Q : Y → Type 0) (o : Option A) (f : A → Option (Y × List ℕ)) → ((x : A) → Reads Q (f x)) → Reads Q (o >>= f)
following Q None f m = nothing Q
following Q (Some x) f m = m x

-- ---- numbers
real_at_plain : (bytes : List ℕ) (x : Decimal × List ℕ) → real_at bytes ≡ Some x → PlainDecimal x.0
unfolding real_at
real_at_plain bytes x e =
    let t = step (text_at bytes) _ x e in
    let w = when (leb (length t.0.0) text_limit) _ x t.1.1 in
    let d = step (real_of t.0.0) _ x w.1 in
    subst (λ (y : Decimal × List ℕ). PlainDecimal y.0) (same_Some _ _ d.1.1) (real_plain t.0.0 d.0 (leb-true (length t.0.0) text_limit w.0) d.1.0)

number_writable : (b : ℕ) (bytes : List ℕ) (x : Number × List ℕ) → dict_number_from b bytes ≡ Some x → IsWritable x.0
unfolding dict_number_from
number_writable b bytes x e =
    let bounded = number_bounded b bytes x e in
    elim (cases_Bool (eqb b 30)) [
      | inl is ↦ (let s = step (real_at bytes) _ x (rw is at e) in subst (λ (y : Number × List ℕ). IsWritable y.0) (same_Some _ _ s.1.1) (real_at_plain bytes s.0 s.1.0))
      | inr other ↦ (let s = step (integer_from b bytes) _ x (rw other at e) in rw (← same_Some _ _ s.1.1) (rw (← same_Some _ _ s.1.1) at bounded))
    ]

pub number_reads : (b : ℕ) (bytes : List ℕ) → Reads FitsNumber (dict_number_from b bytes)
number_reads b bytes = record { each = λ x e. record { writable = number_writable b bytes x e; bounded = number_bounded b bytes x e } }
