-- A blend on the stack.
use Rattle.std.proofs.Common.{◌≡◌, ℕ, ◌+◌, ◌-◌, ◌*◌, ◌≤◌, ℤ, false, List, ◌++◌, length, take, drop, All, Some, sym, ap, ◌∙◌, subst, arith, append_assoc, length-append}
use Rattle.std.proofs.lemmas.List.{take-take, take_at, take-append-drop, length-take-le, length-take, length-drop}
use Rattle.std.proofs.lemmas.List.Elements.{All-append, All-take}
use Rattle.std.proofs.lemmas.List.FromFn.{length-map-range_with_len}
use Rattle.std.proofs.lemmas.Slice.{between_is}
use Rattle.std.proofs.lemmas.Bool.{le-leb}
use borrow.Rule.Slice.PartMut.{put_mid, post_of}
use Rattle.subsetter_blend.specs.Runs.Blend.{result_at, results, blended_from, blended}
use Rattle.subsetter_blend.specs.Runs.Number.{IsWithin, are_within}
use Rattle.subsetter_blend.specs.Runs.Operands.{AreHeld}
use Rattle.subsetter_blend.proofs.RunsLaws.Blends.{all_within, within_both}

-- a blend of as many operands as there are
pub blended_is : (ss old : List ℤ) (n count len : ℕ) → count ≡ length ss → length old ≡ len → n * (count + 1) ≤ len → blended ss n old ≡ Some (blended_from (len - n * (count + 1)) ss n old)
unfolding blended
blended_is ss old n count len e f h =
    let within : n * (length ss + 1) ≤ length old = subst (λ (k : ℕ). n * (k + 1) ≤ length old) e (omega arith) in
    rw (le-leb (n * (length ss + 1)) (length old) within)
    (ap (λ (k : ℕ). Some (blended_from (k - n * (length ss + 1)) ss n old)) f ∙ ap (λ (k : ℕ). Some (blended_from (len - n * (k + 1)) ss n old)) (sym e))

-- the front of what was written back
written_front : (base k n : ℕ) (items all : List ℤ) → base ≤ length items → n ≤ length all → take (base + n) (put_mid base k items all) ≡ take base items ++ take n all
written_front base k n items all h l =
    let post = post_of base k items in
    let split : take base items ++ (all ++ post) ≡ (take base items ++ take n all) ++ (drop n all ++ post) =
    ap (λ (y : List ℤ). take base items ++ (y ++ post)) (sym (take-append-drop n all))
    ∙ ap (λ (y : List ℤ). take base items ++ y) (append_assoc (take n all) (drop n all) post)
    ∙ sym (append_assoc (take base items) (take n all) (drop n all ++ post)) in
    ap (take (base + n)) split
    ∙ take_at (take base items ++ take n all) (drop n all ++ post) (base + n) (omega (arith, length-append (take base items) (take n all), length-take-le base items h, length-take-le n all l))

module _ (ss items old all : List ℤ) (len n base : ℕ) (view : take len items ≡ old) (inside : base + n ≤ len) (room : len ≤ length items) where
  abbrev part : List ℤ
  part = take (len - base) (drop base items)

  part_is : part ≡ drop base old
  part_is = between_is items base len ∙ ap (drop base) view

  front_is : take base items ≡ take base old
  front_is = sym (take-take base len items (omega arith)) ∙ ap (take base) view

  count_is : length (results ss (take n part) (drop n part)) ≡ n
  count_is =
      length-map-range_with_len (result_at ss (take n part) (drop n part)) 0 (length (take n part))
      ∙ length-take-le n part (omega (arith, length-take {A = ℤ}, length-drop {A = ℤ}))

  -- the operands after a blend
  pub stacked_view : all ≡ results ss (take n part) (drop n part) ++ drop n part → take (base + n) (put_mid base (len - base) items all) ≡ blended_from base ss n old
  stacked_view e =
      let long : n ≤ length all = omega (arith, ap length e, length-append (results ss (take n part) (drop n part)) (drop n part), count_is) in
      written_front base (len - base) n items all (omega arith) long
      ∙ ap (λ (y : List ℤ). take base items ++ take n y) e
      ∙ ap (λ (y : List ℤ). take base items ++ y) (take_at (results ss (take n part) (drop n part)) (drop n part) n count_is)
      ∙ ap (λ (p : List ℤ). take base items ++ results ss (take n p) (drop n p)) part_is
      ∙ ap (λ (t : List ℤ). t ++ results ss (take n (drop base old)) (drop n (drop base old))) front_is

  -- they are within bounds
  pub stacked_held : all ≡ results ss (take n part) (drop n part) ++ drop n part → All IsWithin all → AreHeld items len → AreHeld (put_mid base (len - base) items all) (base + n)
  stacked_held e h held =
      let long : n ≤ length all = omega (arith, ap length e, length-append (results ss (take n part) (drop n part)) (drop n part), count_is) in
      let below : All IsWithin (take base items) = subst (λ (t : List ℤ). All IsWithin t) (take-take base len items (omega arith)) (All-take IsWithin base (take len items) held.within) in
      record {
        few = omega (arith, held.few);
        within = subst (λ (t : List ℤ). All IsWithin t) (sym (written_front base (len - base) n items all (omega arith) long)) (All-append IsWithin (take base items) (take n all) below (All-take IsWithin n all h));
      }

  -- a result that isn't
  pub stacked_fault : AreHeld items len → are_within (results ss (take n part) (drop n part)) ≡ false → are_within (blended_from base ss n old) ≡ false
  stacked_fault held h =
      let below : All IsWithin (take base old) = All-take IsWithin base old (subst (λ (t : List ℤ). All IsWithin t) view held.within) in
      within_both (take base old) (results ss (take n (drop base old)) (drop n (drop base old))) (all_within (take base old) below)
      ∙ ap (λ (p : List ℤ). are_within (results ss (take n p) (drop n p))) (sym part_is)
      ∙ h
