-- A blend on the stack.
use Rattle.std.proofs.Common.{◌≡◌, ℕ, ◌+◌, ◌-◌, ◌*◌, ◌≤◌, ℤ, Bool, true, List, ◌++◌, length, take, drop, map, All, Option, Some, None, refl, sym, ap, ◌∙◌, subst, arith, append_assoc, length-append}
use Rattle.std.specs.Option.{option_map}
use Rattle.std.proofs.lemmas.Option.{none-some, same_Some}
use Rattle.std.proofs.lemmas.List.{take-take, take_at, take-append-drop, take-map, length-take-le, length-take, length-drop}
use Rattle.std.proofs.lemmas.List.Elements.{All-append, All-take, All-drop}
use Rattle.std.proofs.lemmas.List.FromFn.{length-map-range_with_len}
use Rattle.std.proofs.lemmas.Slice.{between_is}
use Rattle.std.proofs.lemmas.Bool.{le-leb}
use borrow.Rule.Slice.PartMut.{put_mid, post_of}
use Rattle.subsetter_cffdata.specs.declared.numerals.number.Number.{Number as StoredNumber}
use Rattle.subsetter_cffdata.specs.Views.{number_of}
use Rattle.subsetter_blend.specs.Runs.Blend.{scalars_in}
use Rattle.subsetter_cff2.specs.PrivateDicts.Blend.{result_at, results, blended_from, blended}
use Rattle.subsetter_cff2.specs.PrivateDicts.Held.{IsHeld}
use Rattle.subsetter_cff2.specs.PrivateDicts.PrivateAt.{Registers, last_natural, blended_by}
use Rattle.subsetter_cff2.specs.Variation.{Variation, data_scalars}

-- a blend of as many operands as there are
blended_is : (ss : List ℤ) (old : List (Option ℤ)) (n count len : ℕ) → count ≡ length ss → length old ≡ len → n * (count + 1) ≤ len → blended ss n old ≡ Some (blended_from (len - n * (count + 1)) ss n old)
unfolding blended
blended_is ss old n count len e f h =
    let within : n * (length ss + 1) ≤ length old = subst (λ (k : ℕ). n * (k + 1) ≤ length old) e (omega arith) in
    rw (le-leb (n * (length ss + 1)) (length old) within)
    (ap (λ (k : ℕ). Some (blended_from (k - n * (length ss + 1)) ss n old)) f ∙ ap (λ (k : ℕ). Some (blended_from (len - n * (k + 1)) ss n old)) (sym e))

-- the front of what was written back
written_front : (base k n : ℕ) (items all : List (Option ℤ)) → base ≤ length items → n ≤ length all → take (base + n) (put_mid base k items all) ≡ take base items ++ take n all
written_front base k n items all h l =
    let post = post_of base k items in
    let split : take base items ++ (all ++ post) ≡ (take base items ++ take n all) ++ (drop n all ++ post) =
    ap (λ (y : List (Option ℤ)). take base items ++ (y ++ post)) (sym (take-append-drop n all))
    ∙ ap (λ (y : List (Option ℤ)). take base items ++ y) (append_assoc (take n all) (drop n all) post)
    ∙ sym (append_assoc (take base items) (take n all) (drop n all ++ post)) in
    ap (take (base + n)) split
    ∙ take_at (take base items ++ take n all) (drop n all ++ post) (base + n) (omega (arith, length-append (take base items) (take n all), length-take-le base items h, length-take-le n all l))

module _ (ss : List ℤ) (items all : List (Option ℤ)) (len n base : ℕ) (inside : base + n ≤ len) (room : len ≤ length items) where
  abbrev part : List (Option ℤ)
  part = take (len - base) (drop base items)

  abbrev old : List (Option ℤ)
  old = take len items

  part_is : part ≡ drop base old
  part_is = between_is items base len

  front_is : take base items ≡ take base old
  front_is = sym (take-take base len items (omega arith))

  count_is : length (results ss (take n part) (drop n part)) ≡ n
  count_is =
      length-map-range_with_len (result_at ss (take n part) (drop n part)) 0 (length (take n part))
      ∙ length-take-le n part (omega (arith, length-take {A = Option ℤ}, length-drop {A = Option ℤ}))

  -- the operands after a blend
  pub stacked_view : all ≡ results ss (take n part) (drop n part) ++ drop n part → take (base + n) (put_mid base (len - base) items all) ≡ blended_from base ss n old
  stacked_view e =
      let long : n ≤ length all = omega (arith, ap length e, length-append (results ss (take n part) (drop n part)) (drop n part), count_is) in
      written_front base (len - base) n items all (omega arith) long
      ∙ ap (λ (y : List (Option ℤ)). take base items ++ take n y) e
      ∙ ap (λ (y : List (Option ℤ)). take base items ++ y) (take_at (results ss (take n part) (drop n part)) (drop n part) n count_is)
      ∙ ap (λ (p : List (Option ℤ)). take base items ++ results ss (take n p) (drop n p)) part_is
      ∙ ap (λ (t : List (Option ℤ)). t ++ results ss (take n (drop base old)) (drop n (drop base old))) front_is

  -- how many there are
  pub blended_length : length (blended_from base ss n old) ≡ base + n
  blended_length =
      let front : length (take base old) ≡ base = length-take-le base old (omega (arith, length-take {A = Option ℤ})) in
      let following : length (results ss (take n (drop base old)) (drop n (drop base old))) ≡ n = ap (λ (p : List (Option ℤ)). length (results ss (take n p) (drop n p))) (sym part_is) ∙ count_is in
      omega (arith, length-append (take base old) (results ss (take n (drop base old)) (drop n (drop base old))), front, following)

-- what is written back is within bounds
pub held_in : (base k : ℕ) (items all : List (Option ℤ)) → All IsHeld items → All IsHeld all → All IsHeld (put_mid base k items all)
held_in base k items all h g =
    All-append IsHeld (take base items) (all ++ post_of base k items) (All-take IsHeld base items h)
    (All-append IsHeld all (post_of base k items) g (All-drop IsHeld k (drop base items) (All-drop IsHeld base items h)))

-- ---- the whole stack
pub record IsThere (o : Option (List ℤ)) (n : ℕ) : Type 0 where
  pub is : o ≡ Some (scalars_in o)
  pub count : n ≡ length (scalars_in o)

there : (o : Option (List ℤ)) (n : ℕ) → Some n ≡ option_map (λ (l : List ℤ). length l) o → IsThere o n
there None n h = absurd (none-some n (sym h))
there (Some ss) n h = record { is = refl; count = same_Some _ _ h }

abbrev pub registers_of : List StoredNumber → List (Option ℤ) → ℕ → ℕ → Bool → Registers
registers_of defaults parts len outer settled = record { defaults = map number_of (take len defaults); parts = take len parts; data_index = outer; settled = settled }

pub blend_is : (v : Variation) (outer count regions len : ℕ) (defaults : List StoredNumber) (parts new : List (Option ℤ)) (settled : Bool) → len ≤ length defaults → len ≤ length parts → 1 ≤ len
    → Some count ≡ last_natural (map number_of (take len defaults)) → Some regions ≡ option_map (λ (l : List ℤ). length l) (data_scalars v outer) → count * (regions + 1) ≤ len - 1
    → take (len - 1 - count * (regions + 1) + count) new ≡ blended_from (len - 1 - count * (regions + 1)) (scalars_in (data_scalars v outer)) count (take (len - 1) parts)
    → blended_by (Some v) (registers_of defaults parts len outer settled) ≡ Some (registers_of defaults new (len - 1 - count * (regions + 1) + count) outer true)
unfolding blended_by
blend_is v outer count regions len defaults parts new settled p q some last found enough same =
    let size = count * (regions + 1) in
    let base = len - 1 - size in
    let ss = scalars_in (data_scalars v outer) in
    let t = there (data_scalars v outer) regions found in
    let old : take (length (take len parts) - 1) (take len parts) ≡ take (len - 1) parts =
    ap (λ (k : ℕ). take (k - 1) (take len parts)) (length-take-le len parts q) ∙ take-take (len - 1) len parts (omega arith) in
    let blend = blended_is ss (take (len - 1) parts) count regions (len - 1) t.count (length-take-le (len - 1) parts (omega arith)) enough in
    let grows : count ≤ size = omega arith in
    let long = blended_length ss parts new (len - 1) count base (omega arith) (omega arith) in
    let numbers : take (base + count) (map number_of (take len defaults)) ≡ map number_of (take (base + count) defaults) =
    take-map number_of (base + count) (take len defaults) ∙ ap (map number_of) (take-take (base + count) len defaults (omega arith)) in
    rw (sym last, t.is, old, blend, long, numbers, same) refl
