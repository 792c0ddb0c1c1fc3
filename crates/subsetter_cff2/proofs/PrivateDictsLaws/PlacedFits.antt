-- The entries of a private dict at a place can be written, and are read again.
use Rattle.std.proofs.Common.{◌≡◌, ℕ, zero, suc, ◌+◌, ◌-◌, ◌*◌, ◌<◌, ◌≤◌, ◌^◌, ℤ, pos, negsuc, ◌+ℤ◌, ◌-ℤ◌, unsigned_abs, FitsSigned, Bool, true, false, cond, leb, ltb, inl, inr, List, [], ◌∷◌, length, take, drop, map, Option, Some, None, refl, ap, sym, ◌∙◌, subst, arith, length-take}
use Rattle.std.specs.Prelude.{is_some, slice_index_or}
use Rattle.std.specs.Int.{w32}
use Rattle.std.specs.List.{AllByRecursion, list_all, range_with_len}
use Rattle.std.specs.Option.{option_map, option_map_or}
use Rattle.std.specs.Str.{bytes_eq}
use Rattle.std.proofs.lemmas.Bool.{cases_Bool, leb-true, ltb-true, false≢true}
use Rattle.std.proofs.lemmas.Int.{ints}
use Rattle.std.proofs.lemmas.List.{length-map}
use Rattle.std.proofs.lemmas.Option.{none-some, same_Some}
use Rattle.subsetter_base.proofs.Lists.{bytes_eq_is}
use Rattle.subsetter_cffdata.specs.Dicts.Dict.{Entry, IsOperator, entry_at}
use Rattle.subsetter_cffdata.specs.Numerals.Numbers.{Number, Integer, Real, Fixed}
use Rattle.subsetter_cffdata.specs.Dicts.Operands.{offset_operand}
use Rattle.subsetter_cffdata.proofs.Options.{when, unless}
use Rattle.subsetter_cffdata.proofs.Options as options
use Rattle.subsetter_cffdata.proofs.RealsLaws.Reals.{all_take, all_append}
use Rattle.subsetter_variation.proofs.Quotients.{nearest_within}
use Rattle.subsetter_cff.specs.Read.Entries.Operators.{subroutines_operator}
use Rattle.subsetter_cff.proofs.ReadLaws.EntriesLaws.EntriesFit.{Whole, entry_reads}
use Rattle.subsetter_cff.proofs.ReadLaws.EntriesLaws.ReadFits.{Reads}
use Rattle.subsetter_cff.proofs.ReadLaws.EntriesLaws.ReadNumbers.{IsWritable, all_writable}
use Rattle.subsetter_cff.proofs.ReadLaws.SourceBytes.{AreWritable, all_map}
use Rattle.subsetter_blend.specs.Runs.Number.{whole}
use Rattle.subsetter_cff2.specs.PrivateDicts.Blend.{in_parts, integer_in_parts, varied, held, result_at, results, blended, edges, edges_from}
use Rattle.subsetter_cff2.specs.PrivateDicts.EntryLists.{entry_lists_in, entry_lists}
use Rattle.subsetter_cff2.specs.PrivateDicts.Held.{IsHeld}
use Rattle.subsetter_cff2.specs.PrivateDicts.PrivateAt.{Registers, Step, Placed, pushed, chosen, blended_by, last_natural, known, rounded, placed_numbers, placed_entry, silent, saying, step_by, step, placed, at_start, with_entry, private_at_location}
use Rattle.subsetter_cff2.specs.PrivateDicts.PrivateKinds.{kind_by}
use Rattle.subsetter_cff2.specs.Variation.{Variation, data_scalars}
use Rattle.subsetter_cff2.specs.declared.private_dicts.kinds.PrivateOperator.{PrivateOperator}
use Rattle.subsetter_cff2.specs.declared.private_dicts.kinds.PrivateOperator.TheVariants.{Blends, ChoosesData, Edges, Numbers, Dropped}

-- ---- what is read
abbrev lists_of : ℕ → Option (Entry × List ℕ) → List Entry
lists_of steps o = option_map_or (λ e. e.0 ∷ entry_lists_in steps e.1) o []

wholes_more : (steps : ℕ) (o : Option (Entry × List ℕ)) → Reads Whole o → ((rest : List ℕ) → AllByRecursion Whole (entry_lists_in steps rest)) → AllByRecursion Whole (lists_of steps o)
wholes_more steps None r more = tt
wholes_more steps (Some e) r more = (r.each e refl, more e.1)

in_whole : (steps : ℕ) (bytes : List ℕ) → AllByRecursion Whole (entry_lists_in steps bytes)
unfolding entry_lists_in entry_at
in_whole zero bytes = tt
in_whole (suc steps) bytes = wholes_more steps (entry_at bytes) (entry_reads (length bytes) bytes) (λ rest. in_whole steps rest)

lists_whole : (bytes : List ℕ) → AllByRecursion Whole (entry_lists bytes)
unfolding entry_lists
lists_whole bytes = in_whole (length bytes) bytes

-- ---- numbers in parts
small_held : (b : Bool) (z : ℤ) → (b ≡ true → unsigned_abs z ≤ 2 ^ 45) → IsHeld (cond b (Some z) None)
small_held true z h = h refl
small_held false z h = tt

integer_held : (z : ℤ) → IsHeld (integer_in_parts z)
integer_held (pos n) = small_held (ltb n 32768) (pos (n * 1073741824)) (λ h. let less : n < 32768 = ltb-true n 32768 h in omega (arith, ints))
integer_held (negsuc n) = small_held (ltb n 32768) (pos 0 -ℤ pos ((n + 1) * 1073741824)) (λ h. let less : n < 32768 = ltb-true n 32768 h in omega (arith, ints))

parts_held : (x : Number) → IsHeld (in_parts x)
unfolding in_parts
parts_held (Integer z) = integer_held z
parts_held (Real d) = tt
parts_held (Fixed k) = tt

held_is : (o : Option ℤ) → IsHeld (held o)
held_is None = tt
held_is (Some z) = small_held (leb (unsigned_abs z) 35184372088832) z (λ h. leb-true (unsigned_abs z) 35184372088832 h)

result_held : (scalars : List ℤ) (defaults deltas : List (Option ℤ)) (i : ℕ) → IsHeld (result_at scalars defaults deltas i)
unfolding result_at
result_held scalars defaults deltas i = held_is (varied (slice_index_or defaults i None) scalars (drop (i * length scalars) deltas))

blended_held : (scalars : List ℤ) (n : ℕ) (operands parts : List (Option ℤ)) → AllByRecursion IsHeld operands → blended scalars n operands ≡ Some parts → AllByRecursion IsHeld parts
unfolding blended
blended_held scalars n operands parts all h =
    let base = length operands - n * (length scalars + 1) in
    let w = when (leb (n * (length scalars + 1)) (length operands)) _ parts h in
    let defaults = take n (drop base operands) in
    let deltas = drop n (drop base operands) in
    subst (AllByRecursion IsHeld) (same_Some _ _ w.1)
    (all_append IsHeld (take base operands) (results scalars defaults deltas) (all_take IsHeld base operands all) (all_map IsHeld (result_at scalars defaults deltas) (range_with_len 0 (length defaults)) (result_held scalars defaults deltas)))

-- ---- registers
record Good (r : Registers) : Type 0 where
  defaults : AllByRecursion IsWritable r.defaults
  parts : AllByRecursion IsHeld r.parts

pushed_good : (r next : Registers) (xs : List Number) → Good r → AllByRecursion IsWritable xs → pushed r xs ≡ Some next → Good next
unfolding pushed
pushed_good r next xs good each h =
    let w = when (leb (length r.defaults + length xs) 513) _ next h in
    subst Good (same_Some _ _ w.1) (record {
      defaults = all_append IsWritable r.defaults xs good.defaults each;
      parts = all_append IsHeld r.parts (map in_parts xs) good.parts (all_map IsHeld in_parts xs parts_held);
    })

blended_good : (v : Option Variation) (r next : Registers) → Good r → blended_by v r ≡ Some next → Good next
unfolding blended_by
blended_good None r next good h = absurd (none-some next h)
blended_good (Some v) r next good h =
    let a = options.step (last_natural r.defaults) _ next h in
    let b = options.step (data_scalars v r.data_index) _ next a.1.1 in
    let d = options.step (blended b.0 a.0 (take (length r.parts - 1) r.parts)) _ next b.1.1 in
    subst Good (same_Some _ _ d.1.1) (record {
      defaults = all_take IsWritable (length d.0) r.defaults good.defaults;
      parts = blended_held b.0 a.0 (take (length r.parts - 1) r.parts) d.0 (all_take IsHeld (length r.parts - 1) r.parts good.parts) d.1.0;
    })

empty_good : (outer : ℕ) (settled : Bool) → Good (record { defaults = []; parts = []; data_index = outer; settled = settled })
empty_good outer settled = record { defaults = tt; parts = tt }

chosen_good : (v : Option Variation) (r next : Registers) → chosen v r ≡ Some next → Good next
unfolding chosen
chosen_good None r next h = absurd (none-some next h)
chosen_good (Some v) r next h =
    let u = unless r.settled _ next h in
    let a = options.step (offset_operand r.defaults) _ next u.1 in
    let b = options.step (data_scalars v a.0) _ next a.1.1 in
    subst Good (same_Some _ _ b.1.1) (empty_good a.0 true)

-- ---- numbers that are placed
known_held : (o : Option ℤ) → IsHeld o → unsigned_abs (known o) ≤ 2 ^ 45
known_held None h = omega arith
known_held (Some z) h = h

all_known : (os : List (Option ℤ)) → AllByRecursion IsHeld os → AllByRecursion (λ z. unsigned_abs z ≤ 2 ^ 45) (map known os)
all_known [] all = tt
all_known (o ∷ os) all = (known_held o all.0, all_known os all.1)

whole_bound : (z : ℤ) (k : ℕ) → unsigned_abs z ≤ k * 1073741824 → unsigned_abs (whole z) ≤ k
unfolding whole
whole_bound z k h = nearest_within z 1073741824 k (omega arith) h

small_fits : (z : ℤ) → unsigned_abs z ≤ 2 ^ 30 → FitsSigned w32 z
small_fits (pos n) h = record { sfits = omega arith }
small_fits (negsuc n) h = record { sfits = omega arith }

step_fits : (a b : ℤ) → unsigned_abs a ≤ 2 ^ 21 → unsigned_abs b ≤ 2 ^ 21 → FitsSigned w32 (b -ℤ a)
step_fits a b p q = small_fits (b -ℤ a) (omega (arith, ints))

sum_bound : (a b : ℤ) (k : ℕ) → unsigned_abs a ≤ k * 2 ^ 45 → unsigned_abs b ≤ 2 ^ 45 → unsigned_abs (a +ℤ b) ≤ (k + 1) * 2 ^ 45
sum_bound a b k p q = omega (arith, ints)

edges_fit : (from : ℤ) (vs : List ℤ) (k : ℕ) → unsigned_abs from ≤ k * 2 ^ 45 → AllByRecursion (λ z. unsigned_abs z ≤ 2 ^ 45) vs → k + length vs ≤ 48 → AllByRecursion IsWritable (map Integer (edges_from from vs))
edges_fit from [] k p all few = tt
edges_fit from (v ∷ vs) k p all few =
    let next = sum_bound from v k p all.0 in (
      step_fits (whole from) (whole (from +ℤ v)) (whole_bound from (2 ^ 21) (omega (arith, p))) (whole_bound (from +ℤ v) (2 ^ 21) (omega (arith, next))),
      edges_fit (from +ℤ v) vs (k + 1) next all.1 (omega arith),
    )

whole_fits : (z : ℤ) → unsigned_abs z ≤ 2 ^ 45 → FitsSigned w32 (whole z)
whole_fits z h = let b = whole_bound z (2 ^ 15) (omega (arith, h)) in small_fits (whole z) (omega (arith, b))

wholes_fit : (vs : List ℤ) → AllByRecursion (λ z. unsigned_abs z ≤ 2 ^ 45) vs → AllByRecursion IsWritable (map Integer (map whole vs))
wholes_fit [] all = tt
wholes_fit (v ∷ vs) all = (whole_fits v all.0, wholes_fit vs all.1)

rounded_fit : (is_array : Bool) (vs : List ℤ) → AllByRecursion (λ z. unsigned_abs z ≤ 2 ^ 45) vs → length vs ≤ 48 → AllByRecursion IsWritable (map Integer (rounded is_array vs))
rounded_fit true vs all few = edges_fit (pos 0) vs 0 (omega arith) all (omega arith)
rounded_fit false vs all few = wholes_fit vs all

length-edges : (from : ℤ) (vs : List ℤ) → length (edges_from from vs) ≡ length vs
length-edges from [] = refl
length-edges from (v ∷ vs) = ap suc (length-edges (from +ℤ v) vs)

length-rounded : (is_array : Bool) (vs : List ℤ) → length (map Integer (rounded is_array vs)) ≡ length vs
length-rounded true vs = length-map (edges vs) Integer ∙ length-edges (pos 0) vs
length-rounded false vs = length-map (map whole vs) Integer ∙ length-map vs whole

numbers_placed : (is_array b : Bool) (defaults : List Number) (parts : List (Option ℤ)) → AllByRecursion IsWritable defaults → AllByRecursion IsHeld parts → length defaults ≤ 48 → length parts ≤ 48
    → AreWritable (cond b (map Integer (rounded is_array (map known parts))) defaults)
numbers_placed is_array true defaults parts ds ps few few' =
    let len = length-map parts known in
    record {
      each = rounded_fit is_array (map known parts) (all_known parts ps) (omega (arith, len));
      few = omega (arith, length-rounded is_array (map known parts), len);
    }
numbers_placed is_array false defaults parts ds ps few few' = record { each = ds; few = few }

entry_placed : (is_array : Bool) (r : Registers) → Good r → AreWritable (placed_numbers is_array (take 48 r.defaults) (take 48 r.parts))
unfolding placed_numbers
entry_placed is_array r good =
    numbers_placed is_array (list_all is_some (take 48 r.parts)) (take 48 r.defaults) (take 48 r.parts) (all_take IsWritable 48 r.defaults good.defaults) (all_take IsHeld 48 r.parts good.parts)
    (omega (arith, length-take 48 r.defaults)) (omega (arith, length-take 48 r.parts))

-- ---- entries that are said
pub record FitsPlaced (e : Entry) : Type 0 where
  pub operator : IsOperator e.operator
  pub operands : AreWritable e.operands
  pub other : bytes_eq e.operator subroutines_operator ≡ false

abbrev SaidFits : Option Entry → Type 0
SaidFits None = Unit {0}
SaidFits (Some e) = FitsPlaced e

dropped : (operator : List ℕ) → bytes_eq operator subroutines_operator ≡ true → kind_by operator ≡ Dropped
dropped operator h = rw (bytes_eq_is operator subroutines_operator h) refl

abbrev is_dropped : PrivateOperator → Bool
is_dropped Dropped = true
is_dropped Blends = false
is_dropped ChoosesData = false
is_dropped Edges = false
is_dropped Numbers = false

other_than : (operator : List ℕ) (kind : PrivateOperator) → kind_by operator ≡ kind → is_dropped kind ≡ false → bytes_eq operator subroutines_operator ≡ false
other_than operator kind h kept =
    elim (cases_Bool (bytes_eq operator subroutines_operator)) [
      | inl same ↦ absurd (false≢true (sym kept ∙ ap is_dropped (sym h ∙ dropped operator same)))
      | inr other ↦ other
    ]

record StepGood (s : Step) : Type 0 where
  next : Good s.next
  said : SaidFits s.said

quiet : (o : Option Registers) (s : Step) → ((next : Registers) → o ≡ Some next → Good next) → option_map silent o ≡ Some s → StepGood s
quiet None s good h = absurd (none-some s h)
quiet (Some next) s good h = subst StepGood (same_Some _ _ h) (record { next = good next refl; said = tt })

said_good : (is_array : Bool) (operator : List ℕ) (r : Registers) (s : Step) → Good r → IsOperator operator → bytes_eq operator subroutines_operator ≡ false
    → ◌≡◌ {A = Option Step} (Some (saying (placed_entry is_array operator r) r)) (Some s) → StepGood s
said_good is_array operator r s good is other h =
    subst StepGood (same_Some _ _ h) (record { next = empty_good r.data_index r.settled; said = record { operator = is; operands = entry_placed is_array r good; other = other } })

kind_good : (kind : PrivateOperator) (v : Option Variation) (operator : List ℕ) (r : Registers) (s : Step) → Good r → IsOperator operator → kind_by operator ≡ kind → step_by kind v operator r ≡ Some s → StepGood s
kind_good Blends v operator r s good is kind h = quiet (blended_by v r) s (λ next e. blended_good v r next good e) h
kind_good ChoosesData v operator r s good is kind h = quiet (chosen v r) s (λ next e. chosen_good v r next e) h
kind_good Edges v operator r s good is kind h = said_good true operator r s good is (other_than operator Edges kind refl) h
kind_good Numbers v operator r s good is kind h = said_good false operator r s good is (other_than operator Numbers kind refl) h
kind_good Dropped v operator r s good is kind h = subst StepGood (same_Some _ _ h) (record { next = empty_good r.data_index r.settled; said = tt })

step_good : (v : Option Variation) (r : Registers) (e : Entry) (s : Step) → Good r → Whole e → step v r e.operator e.operands ≡ Some s → StepGood s
unfolding step
step_good v r e s good read h =
    let a = options.step (pushed r e.operands) (step_by (kind_by e.operator) v e.operator) s h in
    kind_good (kind_by e.operator) v e.operator a.0 s (pushed_good r a.0 e.operands good (all_writable e.operands read.operands) a.1.0) read.operator refl a.1.1

with_said_fits : (said : Option Entry) (p : Placed) → SaidFits said → AllByRecursion FitsPlaced p.entries → AllByRecursion FitsPlaced (with_entry said p).entries
with_said_fits None p fits all = all
with_said_fits (Some e) p fits all = (fits, all)

after_said : (said : Option Entry) (o : Option Placed) (p : Placed) → SaidFits said → ((q : Placed) → o ≡ Some q → AllByRecursion FitsPlaced q.entries) → option_map (with_entry said) o ≡ Some p → AllByRecursion FitsPlaced p.entries
after_said said None p fits more h = absurd (none-some p h)
after_said said (Some q) p fits more h = subst (λ (x : Placed). AllByRecursion FitsPlaced x.entries) (same_Some _ _ h) (with_said_fits said q fits (more q refl))

placed_fit : (v : Option Variation) (r : Registers) (es : List Entry) (p : Placed) → Good r → AllByRecursion Whole es → placed v r es ≡ Some p → AllByRecursion FitsPlaced p.entries
placed_fit v r [] p good read h = subst (λ (x : Placed). AllByRecursion FitsPlaced x.entries) (same_Some _ _ h) tt
placed_fit v r (e ∷ es) p good read h =
    let a = options.step (step v r e.operator e.operands) (λ s. option_map (with_entry s.said) (placed v s.next es)) p h in
    let g = step_good v r e a.0 good read.0 a.1.0 in
    after_said a.0.said (placed v a.0.next es) p g.said (λ q k. placed_fit v a.0.next es q g.next read.1 k) a.1.1

pub private_fits : (v : Option Variation) (bytes : List ℕ) (p : Placed) → private_at_location v bytes ≡ Some p → AllByRecursion FitsPlaced p.entries
unfolding private_at_location
private_fits v bytes p h = placed_fit v at_start (entry_lists bytes) p (empty_good 0 false) (lists_whole bytes) h
