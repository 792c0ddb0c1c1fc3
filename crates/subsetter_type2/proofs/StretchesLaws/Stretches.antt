-- Stretches of a charstring, one token longer.
use Rattle.std.proofs.Common.{◌≡◌, ℕ, zero, suc, ◌+◌, ◌-◌, ◌*◌, ◌/◌, ◌%◌, ◌<◌, ◌≤◌, Bool, true, false, List, [], ◌∷◌, ◌++◌, length, take, drop, get_or, Some, None, Ok, refl, sym, ap, ◌∙◌, subst, arith, append_assoc, append-nil, pos, ◌-ℤ◌, w16, to_z, nat_lt, drop-cons, add-one, length-drop, length-append}
use Rattle.std.specs.Prelude.{MatchBool, Option, reverse, ℤ, if◌then◌else◌, nat_le, ◌==◌}
use Rattle.std.specs.Borrow.{Bor}
use Rattle.std.proofs.lemmas.Int.{ints, to_z-of_z}
use Rattle.std.proofs.lemmas.Bool.Decides.{nat_tests}
use Rattle.std.proofs.lemmas.Bool.{le-leb, lt-leb}
use Rattle.std.proofs.lemmas.List.{length-take-le, length-map, length-reverse, take_all, drop-drop}
use Rattle.std.proofs.Math.Seq.{take-add}
use Rattle.std.proofs.lemmas.Grind.{take_at_read}
use Rattle.subsetter_cffdata.specs.declared.numerals.charstring_number.CharStringNumber.{CharStringNumber}
use Rattle.subsetter_cffdata.specs.declared.numerals.charstring_number.CharStringNumber.TheVariants.{Integer}
use Rattle.subsetter_cffdata.specs.Numerals.CharStringNumber.{FitsIn, NumberFits, number_at, middle_number, written, middle_value}
use Rattle.subsetter_cffdata.proofs.NumeralsLaws.CharStringNumbers.{number_fits}
use Rattle.subsetter_cffdata.proofs.NumeralsLaws.MiddleNumbers.{stored_written}
use Rattle.subsetter_type2.specs.Runs.Machine.{Library, Registers, Act, On, Outcome, unended, act_at}
use Rattle.subsetter_type2.specs.Runs.Following.{ReachedAfter}
use Rattle.subsetter_type2.specs.Flat.{flat_operands}
use Rattle.subsetter_type2.specs.Runs.Output.{Written}
use Rattle.subsetter_type2.specs.Runs.OutputView.{IsOutput, Holds, operands_offset, last_operand_offset, written_at}
use Rattle.subsetter_type2.specs.Stretches.Stretch.{Advances, Comes, Extends, registers_with}
use Rattle.subsetter_type2.specs.Token.{one_byte, one_byte_effect, effect_of}
use Rattle.subsetter_type2.specs.View.{done, rests_of}
use Rattle.subsetter_type2.specs.declared.stretches.stretch.Stretch.{Stretch}
use Rattle.subsetter_type2.specs.declared.token.Effect.{Effect}
use Rattle.subsetter_type2.specs.declared.token.Effect.TheVariants.{CountsStems, Draws, CallsLocal, CallsGlobal, Returns, Ends, Masks}
use Rattle.subsetter_type2.specs.Stretches.Plain.{draws, is_plain}
use Rattle.subsetter_type2.proofs.RunsLaws.Acts.{act_operator}
use Rattle.subsetter_type2.proofs.RunsLaws.AfterRuns.{after_more, after_same}
use Rattle.subsetter_type2.proofs.RunsLaws.OutputLemmas.{stands_more, stands_settled, settles, written_is, last_of_more}
use Rattle.subsetter_type2.proofs.RunsLaws.RecursionLemmas.{unended_front}
use Rattle.subsetter_type2.proofs.Replay.{act_push, token_number}

-- ---- numbers in their shortest form
-- a number of one byte
small_number : (first : ℕ) (rest : List ℕ) → 32 ≤ first → first < 247 → number_at (first ∷ rest) ≡ Some (Integer (pos first -ℤ pos 139), rest)
unfolding number_at
small_number first rest low high = grind (arith, nat_tests)

small_written : (first : ℕ) → 32 ≤ first → first < 247 → written (Integer (pos first -ℤ pos 139)) ≡ first ∷ []
unfolding written
small_written first low high = grind (arith, nat_tests, ints)

-- a number of two bytes
by_half : (b : Bool) (x y : ℤ) (rest : List ℕ) → ◌≡◌ {A = Option (CharStringNumber × List ℕ)} (if b then Some (Integer x, rest) else Some (Integer y, rest)) (Some (Integer (if b then x else y), rest))
by_half true x y rest = refl
by_half false x y rest = refl

middle_at : (first second : ℕ) (rest : List ℕ) → 247 ≤ first → first < 255 → second < 256 → number_at (first ∷ second ∷ rest) ≡ middle_number first (second ∷ rest)
unfolding number_at
middle_at first second rest low high small = grind (arith, nat_tests)

middle_is : (first second : ℕ) (rest : List ℕ) → second < 256 → middle_number first (second ∷ rest) ≡ Some (Integer (middle_value first second), rest)
middle_is first second rest small = rw (lt-leb 256 second small) (by_half (nat_lt first 251) _ _ rest)

middle_read : (first second : ℕ) (rest : List ℕ) → 247 ≤ first → first < 255 → second < 256 → number_at (first ∷ second ∷ rest) ≡ Some (Integer (middle_value first second), rest)
middle_read first second rest low high small = middle_at first second rest low high small ∙ middle_is first second rest small

middle_written : (first second : ℕ) → 247 ≤ first → first < 255 → second < 256 → written (Integer (middle_value first second)) ≡ first ∷ second ∷ []
middle_written first second low high small =
    let fits = subst FitsIn (middle_read first second [] low high small) (number_fits (first ∷ second ∷ [])) in
    ap (λ z. written (Integer z)) (sym (to_z-of_z w16 (middle_value first second) fits)) ∙ stored_written first second (middle_value first second) low high small refl

-- ---- a token longer
-- nothing is taken
pub leads_nowhere : (charstring : List ℕ) (len tokens mask_len : ℕ) (w : Written) → len ≡ 0 → tokens ≡ 0 → Advances charstring len tokens mask_len w w
leads_nowhere charstring len tokens mask_len w l t = rw (l, t)
    (λ front o library depth all left stems callers room e h.
    let same : all ≡ left = omega arith in
    subst (λ n. ReachedAfter front o library depth n (record { rests = charstring ∷ callers; registers = registers_with w stems mask_len }) w.settled) same h)

pub comes_at_start : (charstring : List ℕ) (mask_len count : ℕ) (bytes : List ℕ) (settled : ℕ) (w : Written) → IsOutput bytes settled count w
    → Comes charstring mask_len bytes settled w (record { len = 0; tokens = 0; settled = 0; count = count; last = 0 })
comes_at_start charstring mask_len count bytes settled w h = record {
  now = w;
  stands = subst (λ (b : List ℕ). IsOutput b settled count w) (sym (append-nil bytes)) h;
  leads = leads_nowhere charstring 0 0 mask_len w refl refl;
  last = λ some _. absurd (omega arith);
}

done_push : (library : Library) (bytes rest : List ℕ) (n : CharStringNumber) (r : Registers) (settled : List ℕ) → number_at bytes ≡ Some (n, rest) → length r.operands < 48
    → done (act_at library bytes r) settled ≡ Ok (record { registers = record r { operands = r.operands ++ n ∷ [] }; settled = settled; lead = On rest })
done_push library bytes rest n r settled e l =
    ap (λ (a : Act). done a settled) (act_push library bytes rest n r (token_number bytes n rest e) l)
    ∙ ap (λ (s : List ℕ). Ok (record { registers = record r { operands = r.operands ++ n ∷ [] }; settled = s; lead = On rest })) (append-nil settled)

module _ (charstring : List ℕ) (mask_len : ℕ) (bytes : List ℕ) (settled : ℕ) (w : Written) (s : Stretch) (h : Comes charstring mask_len bytes settled w s) (inside : s.len < length charstring) where
  abbrev here : List ℕ
  here = drop s.len charstring

  some : 0 < length here
  some = omega (arith, length-drop s.len charstring)

  pub comes_by_number : (n : CharStringNumber) (size : ℕ) → number_at here ≡ Some (n, drop (s.len + size) charstring) → take (s.len + size) charstring ≡ take s.len charstring ++ written n → s.count < 48
      → Comes charstring mask_len bytes settled w (record { len = s.len + size; tokens = s.tokens + 1; settled = s.settled; count = s.count + 1; last = s.len })
  comes_by_number n size e t few =
      let fits : NumberFits n = subst FitsIn e (number_fits here) in
      let rest = drop (s.len + size) charstring in
      record {
        now = record { settled = h.now.settled; operands = h.now.operands ++ n ∷ [] };
        stands = stands_more _ _ _ _ _ h.now n h.stands fits (ap (λ (b : List ℕ). bytes ++ b) t ∙ sym (append_assoc bytes _ _)) refl;
        leads = λ front o library depth all left stems callers room sum r.
            let before = h.leads front o library depth all (suc left) stems callers room (omega arith) r in
            let l : length h.now.operands < 48 = omega (arith, h.stands.many) in
            after_more front o library depth (suc left) _ h.now.settled before here callers left refl (unended_front here callers some) _ (rest ∷ callers)
            (done_push library here rest n (registers_with h.now stems mask_len) h.now.settled e l) refl (omega arith);
        last = λ _ _. last_of_more (bytes ++ take s.len charstring) _ s.count h.now n h.stands (length bytes + s.len) (omega (arith, length-append bytes (take s.len charstring), length-take-le s.len charstring (omega arith)));
      }

place_after : (n settled before : ℕ) → operands_offset (n + 1) settled before ≡ before + (n + 1)
place_after n settled before = rw (add-one n) refl

done_draw : (library : Library) (first : ℕ) (rest : List ℕ) (r : Registers) (settled : List ℕ) → one_byte_effect first ≡ Some Draws
    → done (act_at library (first ∷ rest) r) settled ≡ Ok (record { registers = record r { operands = [] }; settled = settled ++ (flat_operands r.operands ++ (first ∷ [])); lead = On rest })
unfolding effect_of
done_draw library first rest r settled e =
    ap (λ (a : Act). done a settled) (act_operator library (one_byte first) Draws rest r e)

module _ (charstring : List ℕ) (mask_len : ℕ) (bytes : List ℕ) (settled : ℕ) (w : Written) (s : Stretch) (h : Comes charstring mask_len bytes settled w s) (inside : s.len < length charstring) where
  pub comes_by_operator : (first : ℕ) (rest : List ℕ) → drop s.len charstring ≡ first ∷ rest → rest ≡ drop (s.len + 1) charstring → take (s.len + 1) charstring ≡ take s.len charstring ++ first ∷ [] → one_byte_effect first ≡ Some Draws
      → Comes charstring mask_len bytes settled w (record { len = s.len + 1; tokens = s.tokens + 1; settled = s.len + 1; count = 0; last = s.len })
  comes_by_operator first rest d r t e =
      let all = bytes ++ take (s.len + 1) charstring in
      let is : all ≡ h.now.settled ++ (flat_operands h.now.operands ++ (first ∷ [])) =
      ap (λ (b : List ℕ). bytes ++ b) t ∙ sym (append_assoc bytes _ _) ∙ settles _ (first ∷ []) _ _ h.now h.stands in
      record {
        now = record { settled = all; operands = [] };
        stands = stands_settled all (operands_offset (s.len + 1) settled (length bytes)) (place_after s.len settled (length bytes) ∙ omega (arith, length-append bytes (take (s.len + 1) charstring), length-take-le (s.len + 1) charstring (omega arith)));
        leads = λ front o library depth all_tokens left stems callers room sum reached.
            let before = subst (λ (b : List ℕ). ReachedAfter front o library depth (suc left) (record { rests = b ∷ callers; registers = registers_with h.now stems mask_len }) h.now.settled) d
            (h.leads front o library depth all_tokens (suc left) stems callers room (omega arith) reached) in
            let after = after_more front o library depth (suc left) _ h.now.settled before (first ∷ rest) callers left refl refl _ (rest ∷ callers)
            (done_draw library first rest (registers_with h.now stems mask_len) h.now.settled e) refl (omega arith) in
            rw (is, ← r) after;
        last = λ _ none. absurd (omega arith);
      }

done_mask : (library : Library) (first : ℕ) (rest : List ℕ) (r : Registers) (settled : List ℕ) → one_byte_effect first ≡ Some Masks → (r.mask_len == 0) ≡ false → nat_le r.mask_len (length rest) ≡ true
    → done (act_at library (first ∷ rest) r) settled ≡ Ok (record { registers = record r { operands = [] }; settled = settled ++ (flat_operands r.operands ++ (first ∷ take r.mask_len rest)); lead = On (drop r.mask_len rest) })
unfolding effect_of
done_mask library first rest r settled e z t =
    ap (λ (a : Act). done a settled) (act_operator library (one_byte first) Masks rest r e) ∙ rw (z, t) refl

some_len : (n : ℕ) → (n ≡ 0 → ⊥) → (n == 0) ≡ false
some_len n h = grind (arith, nat_tests)

module _ (charstring : List ℕ) (mask_len : ℕ) (bytes : List ℕ) (settled : ℕ) (w : Written) (s : Stretch) (h : Comes charstring mask_len bytes settled w s) (inside : s.len + 1 + mask_len ≤ length charstring) where
  pub comes_by_mask : (first : ℕ) (rest : List ℕ) → drop s.len charstring ≡ first ∷ rest → drop mask_len rest ≡ drop (s.len + 1 + mask_len) charstring → take (s.len + 1 + mask_len) charstring ≡ take s.len charstring ++ (first ∷ take mask_len rest) → one_byte_effect first ≡ Some Masks
      → (mask_len ≡ 0 → ⊥) → mask_len ≤ length rest
      → Comes charstring mask_len bytes settled w (record { len = s.len + 1 + mask_len; tokens = s.tokens + 1; settled = s.len + 1 + mask_len; count = 0; last = s.last })
  comes_by_mask first rest d r t e some room_for =
      let len = s.len + 1 + mask_len in
      let mask = take mask_len rest in
      let all = bytes ++ take len charstring in
      let is : all ≡ h.now.settled ++ (flat_operands h.now.operands ++ (first ∷ mask)) =
      ap (λ (b : List ℕ). bytes ++ b) t ∙ sym (append_assoc bytes _ _) ∙ settles _ (first ∷ mask) _ _ h.now h.stands in
      let len_is : s.len + mask_len + 1 ≡ len = omega arith in
      let place : operands_offset len settled (length bytes) ≡ length bytes + len = subst (λ (n : ℕ). operands_offset n settled (length bytes) ≡ length bytes + n) len_is (place_after (s.len + mask_len) settled (length bytes)) in
      record {
        now = record { settled = all; operands = [] };
        stands = stands_settled all (operands_offset len settled (length bytes)) (place ∙ omega (arith, length-append bytes (take len charstring), length-take-le len charstring (omega arith)));
        leads = λ front o library depth all_tokens left stems callers room sum reached.
            let before = subst (λ (b : List ℕ). ReachedAfter front o library depth (suc left) (record { rests = b ∷ callers; registers = registers_with h.now stems mask_len }) h.now.settled) d
            (h.leads front o library depth all_tokens (suc left) stems callers room (omega arith) reached) in
            let after = after_more front o library depth (suc left) _ h.now.settled before (first ∷ rest) callers left refl refl _ (drop mask_len rest ∷ callers)
            (done_mask library first rest (registers_with h.now stems mask_len) h.now.settled e (some_len mask_len some) (le-leb mask_len (length rest) room_for)) refl (omega arith) in
            rw (is, ← r) after;
        last = λ _ none. absurd (omega arith);
      }

-- ---- the steps of the scan
extends_small : (charstring : List ℕ) (mask_len : ℕ) (s : Stretch) → s.len < length charstring → 32 ≤ get_or charstring s.len 0 → get_or charstring s.len 0 < 247 → s.count < 48
    → Extends charstring mask_len s (record { len = s.len + 1; tokens = s.tokens + 1; settled = s.settled; count = s.count + 1; last = s.len })
extends_small charstring mask_len s inside low high few =
    let first = get_or charstring s.len 0 in
    let here : drop s.len charstring ≡ first ∷ drop (s.len + 1) charstring = drop-cons charstring s.len 0 inside ∙ ap (λ (k : ℕ). first ∷ drop k charstring) (sym (add-one s.len)) in
    let t = (take_at_read charstring s.len 0 inside).1 ∙ ap (λ (b : List ℕ). take s.len charstring ++ b) (sym (small_written first low high)) in
    record { step = λ bytes settled w h. comes_by_number charstring mask_len bytes settled w s h inside (Integer (pos first -ℤ pos 139)) 1 (ap number_at here ∙ small_number first (drop (s.len + 1) charstring) low high) t few }

extends_middle : (charstring : List ℕ) (mask_len : ℕ) (s : Stretch) → s.len + 1 < length charstring → 247 ≤ get_or charstring s.len 0 → get_or charstring s.len 0 < 255 → get_or charstring (s.len + 1) 0 < 256 → s.count < 48
    → Extends charstring mask_len s (record { len = s.len + 2; tokens = s.tokens + 1; settled = s.settled; count = s.count + 1; last = s.len })
extends_middle charstring mask_len s inside low high small few =
    let first = get_or charstring s.len 0 in
    let second = get_or charstring (s.len + 1) 0 in
    let within : s.len < length charstring = omega arith in
    let two : suc (s.len + 1) ≡ s.len + 2 = omega arith in
    let more : s.len + 1 + 1 ≡ s.len + 2 = omega arith in
    let here : drop s.len charstring ≡ first ∷ second ∷ drop (s.len + 2) charstring =
    drop-cons charstring s.len 0 within ∙ ap (λ (k : ℕ). first ∷ drop k charstring) (sym (add-one s.len)) ∙ ap (λ (l : List ℕ). first ∷ l) (drop-cons charstring (s.len + 1) 0 inside ∙ ap (λ (k : ℕ). second ∷ drop k charstring) two) in
    let t : take (s.len + 2) charstring ≡ take s.len charstring ++ written (Integer (middle_value first second)) =
    ap (λ (k : ℕ). take k charstring) (sym more) ∙ (take_at_read charstring (s.len + 1) 0 inside).1 ∙ ap (λ (b : List ℕ). b ++ second ∷ []) (take_at_read charstring s.len 0 within).1
    ∙ append_assoc (take s.len charstring) (first ∷ []) (second ∷ []) ∙ ap (λ (b : List ℕ). take s.len charstring ++ b) (sym (middle_written first second low high small)) in
    record { step = λ bytes settled w h. comes_by_number charstring mask_len bytes settled w s h within (Integer (middle_value first second)) 2 (ap number_at here ∙ middle_read first second (drop (s.len + 2) charstring) low high small) t few }

extends_drawn : (charstring : List ℕ) (mask_len : ℕ) (s : Stretch) → s.len < length charstring → one_byte_effect (get_or charstring s.len 0) ≡ Some Draws
    → Extends charstring mask_len s (record { len = s.len + 1; tokens = s.tokens + 1; settled = s.len + 1; count = 0; last = s.len })
extends_drawn charstring mask_len s inside e =
    let first = get_or charstring s.len 0 in
    let here : drop s.len charstring ≡ first ∷ drop (s.len + 1) charstring = drop-cons charstring s.len 0 inside ∙ ap (λ (k : ℕ). first ∷ drop k charstring) (sym (add-one s.len)) in
    record { step = λ bytes settled w h. comes_by_operator charstring mask_len bytes settled w s h inside first (drop (s.len + 1) charstring) here refl (take_at_read charstring s.len 0 inside).1 e }

draws_is : (effect : Option Effect) → draws effect ≡ true → effect ≡ Some Draws
draws_is None e = absurd (cc)
draws_is (Some CountsStems) e = absurd (cc)
draws_is (Some Draws) e = refl
draws_is (Some CallsLocal) e = absurd (cc)
draws_is (Some CallsGlobal) e = absurd (cc)
draws_is (Some Returns) e = absurd (cc)
draws_is (Some Ends) e = absurd (cc)
draws_is (Some Masks) e = absurd (cc)

plain_operator : (first : ℕ) → is_plain first ≡ true → nat_lt first 32 ≡ true → one_byte_effect first ≡ Some Draws
unfolding is_plain
plain_operator first e low = draws_is (one_byte_effect first) (let p : (if nat_lt first 32 then draws (one_byte_effect first) else nat_lt first 255) ≡ true = e in rw low at p)

short_at : (high low : ℕ) (rest : List ℕ) → number_at (28 ∷ high ∷ low ∷ rest) ≡ Some (Integer (to_z w16 (high * 256 + low)), rest)
unfolding number_at
short_at high low rest = refl

short_bits : (bits : ℕ) → 1132 ≤ bits → bits ≤ 64404 → written (Integer (to_z w16 bits)) ≡ 28 ∷ bits / 256 ∷ bits % 256 ∷ []
unfolding written
short_bits bits low high = grind (arith, nat_tests, ints)

short_written : (high low : ℕ) → low < 256 → 1132 ≤ high * 256 + low → high * 256 + low ≤ 64404 → written (Integer (to_z w16 (high * 256 + low))) ≡ 28 ∷ high ∷ low ∷ []
short_written high low small above below =
    let h : (high * 256 + low) / 256 ≡ high = omega arith in
    let l : (high * 256 + low) % 256 ≡ low = omega arith in
    short_bits (high * 256 + low) above below ∙ ap (λ (x : ℕ). 28 ∷ x ∷ (high * 256 + low) % 256 ∷ []) h ∙ ap (λ (x : ℕ). 28 ∷ high ∷ x ∷ []) l

extends_short : (charstring : List ℕ) (mask_len : ℕ) (s : Stretch) → s.len + 2 < length charstring → get_or charstring s.len 0 ≡ 28 → get_or charstring (s.len + 2) 0 < 256
    → 1132 ≤ get_or charstring (s.len + 1) 0 * 256 + get_or charstring (s.len + 2) 0 → get_or charstring (s.len + 1) 0 * 256 + get_or charstring (s.len + 2) 0 ≤ 64404 → s.count < 48
    → Extends charstring mask_len s (record { len = s.len + 3; tokens = s.tokens + 1; settled = s.settled; count = s.count + 1; last = s.len })
extends_short charstring mask_len s inside first small above below few =
    let high = get_or charstring (s.len + 1) 0 in
    let low = get_or charstring (s.len + 2) 0 in
    let n = Integer (to_z w16 (high * 256 + low)) in
    let within : s.len < length charstring = omega arith in
    let next : s.len + 1 < length charstring = omega arith in
    let one : suc s.len ≡ s.len + 1 = omega arith in
    let two : suc (s.len + 1) ≡ s.len + 2 = omega arith in
    let three : suc (s.len + 2) ≡ s.len + 3 = omega arith in
    let more : s.len + 1 + 1 ≡ s.len + 2 = omega arith in
    let most : s.len + 2 + 1 ≡ s.len + 3 = omega arith in
    let third : drop (s.len + 2) charstring ≡ low ∷ drop (s.len + 3) charstring = drop-cons charstring (s.len + 2) 0 inside ∙ ap (λ (k : ℕ). low ∷ drop k charstring) three in
    let second : drop (s.len + 1) charstring ≡ high ∷ low ∷ drop (s.len + 3) charstring = drop-cons charstring (s.len + 1) 0 next ∙ ap (λ (k : ℕ). high ∷ drop k charstring) two ∙ ap (λ (l : List ℕ). high ∷ l) third in
    let here : drop s.len charstring ≡ 28 ∷ high ∷ low ∷ drop (s.len + 3) charstring =
    drop-cons charstring s.len 0 within ∙ ap (λ (k : ℕ). get_or charstring s.len 0 ∷ drop k charstring) one ∙ ap (λ (l : List ℕ). get_or charstring s.len 0 ∷ l) second ∙ ap (λ (b : ℕ). b ∷ high ∷ low ∷ drop (s.len + 3) charstring) first in
    let t1 : take (s.len + 1) charstring ≡ take s.len charstring ++ 28 ∷ [] = (take_at_read charstring s.len 0 within).1 ∙ ap (λ (b : ℕ). take s.len charstring ++ b ∷ []) first in
    let t2 : take (s.len + 2) charstring ≡ (take s.len charstring ++ 28 ∷ []) ++ high ∷ [] = ap (λ (k : ℕ). take k charstring) (sym more) ∙ (take_at_read charstring (s.len + 1) 0 next).1 ∙ ap (λ (b : List ℕ). b ++ high ∷ []) t1 in
    let t3 : take (s.len + 3) charstring ≡ ((take s.len charstring ++ 28 ∷ []) ++ high ∷ []) ++ low ∷ [] = ap (λ (k : ℕ). take k charstring) (sym most) ∙ (take_at_read charstring (s.len + 2) 0 inside).1 ∙ ap (λ (b : List ℕ). b ++ low ∷ []) t2 in
    let t : take (s.len + 3) charstring ≡ take s.len charstring ++ written n =
    t3 ∙ append_assoc (take s.len charstring ++ 28 ∷ []) (high ∷ []) (low ∷ []) ∙ append_assoc (take s.len charstring) (28 ∷ []) (high ∷ low ∷ []) ∙ ap (λ (b : List ℕ). take s.len charstring ++ b) (sym (short_written high low small above below)) in
    record { step = λ bytes settled w h. comes_by_number charstring mask_len bytes settled w s h within n 3 (ap number_at here ∙ short_at high low (drop (s.len + 3) charstring)) t few }

extends_mask : (charstring : List ℕ) (mask_len : ℕ) (s : Stretch) → s.len + 1 + mask_len ≤ length charstring → one_byte_effect (get_or charstring s.len 0) ≡ Some Masks → (mask_len ≡ 0 → ⊥)
    → Extends charstring mask_len s (record { len = s.len + 1 + mask_len; tokens = s.tokens + 1; settled = s.len + 1 + mask_len; count = 0; last = s.last })
extends_mask charstring mask_len s inside e some =
    let first = get_or charstring s.len 0 in
    let within : s.len < length charstring = omega arith in
    let here : drop s.len charstring ≡ first ∷ drop (s.len + 1) charstring = drop-cons charstring s.len 0 within ∙ ap (λ (k : ℕ). first ∷ drop k charstring) (sym (add-one s.len)) in
    let r : drop mask_len (drop (s.len + 1) charstring) ≡ drop (s.len + 1 + mask_len) charstring = drop-drop mask_len (s.len + 1) charstring in
    let t : take (s.len + 1 + mask_len) charstring ≡ take s.len charstring ++ (first ∷ take mask_len (drop (s.len + 1) charstring)) =
    take-add (s.len + 1) mask_len charstring ∙ ap (λ (b : List ℕ). b ++ take mask_len (drop (s.len + 1) charstring)) (take_at_read charstring s.len 0 within).1 ∙ append_assoc (take s.len charstring) (first ∷ []) _ in
    record { step = λ bytes settled w h. comes_by_mask charstring mask_len bytes settled w s h inside first (drop (s.len + 1) charstring) here r t e some (omega (arith, length-drop (s.len + 1) charstring)) }

-- the same, for what the code's calls answer
pub by_short : (charstring : List ℕ) (mask_len : ℕ) (s longer : Stretch) (shortest : Bool) → longer ≡ record { len = s.len + 3; tokens = s.tokens + 1; settled = s.settled; count = s.count + 1; last = s.len } → s.len + 2 < length charstring → get_or charstring s.len 0 ≡ 28 → get_or charstring (s.len + 2) 0 < 256
    → MatchBool shortest ((1132 ≤ get_or charstring (s.len + 1) 0 * 256 + get_or charstring (s.len + 2) 0) × (get_or charstring (s.len + 1) 0 * 256 + get_or charstring (s.len + 2) 0 ≤ 64404)) (Unit {0}) → shortest ≡ true → s.count < 48
    → Extends charstring mask_len s longer
by_short charstring mask_len s longer true e inside first small bounds t few = rw e (extends_short charstring mask_len s inside first small bounds.0 bounds.1 few)
by_short charstring mask_len s longer false e inside first small bounds t few = absurd (cc)

plain_number : (first : ℕ) → is_plain first ≡ true → nat_lt first 32 ≡ false → nat_lt first 255 ≡ true
unfolding is_plain
plain_number first e low = let p : (if nat_lt first 32 then draws (one_byte_effect first) else nat_lt first 255) ≡ true = e in rw low at p

longer_as : (charstring : List ℕ) (mask_len : ℕ) (s : Stretch) (len size : ℕ) (drawn two : Bool)
    → nat_lt (get_or charstring s.len 0) 32 ≡ drawn → nat_lt (get_or charstring s.len 0) 247 ≡ two → s.len < length charstring → s.count < 48 → is_plain (get_or charstring s.len 0) ≡ true → len ≡ s.len + (if two then 1 else 2) → len ≤ length charstring → get_or charstring (s.len + 1) 0 < 256
    → Extends charstring mask_len s (record { len = len; tokens = s.tokens + 1; settled = (if drawn then len else s.settled); count = (if drawn then 0 else s.count + 1); last = s.len })
longer_as charstring mask_len s len size true true d t inside few plain e within small = rw e (extends_drawn charstring mask_len s inside (plain_operator (get_or charstring s.len 0) plain d))
longer_as charstring mask_len s len size true false d t inside few plain e within small =
    let low : get_or charstring s.len 0 < 32 = grind (arith, nat_tests) in
    let high : 247 ≤ get_or charstring s.len 0 = grind (arith, nat_tests) in
    absurd (omega arith)
longer_as charstring mask_len s len size false true d t inside few plain e within small =
    let low : 32 ≤ get_or charstring s.len 0 = grind (arith, nat_tests) in
    let high : get_or charstring s.len 0 < 247 = grind (arith, nat_tests) in
    rw e (extends_small charstring mask_len s inside low high few)
longer_as charstring mask_len s len size false false d t inside few plain e within small =
    let low : 247 ≤ get_or charstring s.len 0 = grind (arith, nat_tests) in
    let below = plain_number (get_or charstring s.len 0) plain d in
    let high : get_or charstring s.len 0 < 255 = grind (arith, nat_tests) in
    rw e (extends_middle charstring mask_len s (omega arith) low high small few)

-- the same, for what the code's calls answer
pub by_plain : (charstring : List ℕ) (mask_len : ℕ) (s longer : Stretch) (len size : ℕ) (drawn : Bool)
    → longer ≡ record { len = len; tokens = s.tokens + 1; settled = (if drawn then len else s.settled); count = (if drawn then 0 else s.count + 1); last = s.len } → drawn ≡ nat_lt (get_or charstring s.len 0) 32
    → size ≡ (if nat_lt (get_or charstring s.len 0) 247 then 1 else 2) → len ≡ s.len + size → s.len < length charstring → s.count < 48 → is_plain (get_or charstring s.len 0) ≡ true → len ≤ length charstring → get_or charstring (s.len + 1) 0 < 256
    → Extends charstring mask_len s longer
by_plain charstring mask_len s longer len size drawn l d z e inside few plain within small =
    rw (l, d) (longer_as charstring mask_len s len size (nat_lt (get_or charstring s.len 0) 32) (nat_lt (get_or charstring s.len 0) 247) refl refl inside few plain (e ∙ ap (λ (k : ℕ). s.len + k) z) within small)

pub by_mask : (charstring : List ℕ) (mask_len : ℕ) (s longer : Stretch) (masks : Bool) → longer ≡ record { len = s.len + 1 + mask_len; tokens = s.tokens + 1; settled = s.len + 1 + mask_len; count = 0; last = s.last } → s.len + 1 + mask_len ≤ length charstring
    → MatchBool masks (one_byte_effect (get_or charstring s.len 0) ≡ Some Masks) (Unit {0}) → masks ≡ true → (mask_len ≡ 0 → ⊥) → Extends charstring mask_len s longer
by_mask charstring mask_len s longer true l inside e t some = rw l (extends_mask charstring mask_len s inside e some)
by_mask charstring mask_len s longer false l inside e t some = absurd (cc)

-- what is written after a stretch, as the code joins it
pub stretch_stands : (charstring : List ℕ) (mask_len : ℕ) (bytes all : List ℕ) (settled before after : ℕ) (w : Written) (s : Stretch) (h : Comes charstring mask_len bytes settled w s)
    → all ≡ bytes ++ take s.len charstring → before ≡ length bytes → after ≡ operands_offset s.settled settled before → IsOutput all after s.count h.now
stretch_stands charstring mask_len bytes all settled before after w s h a b p = rw (a, p, b) h.stands

pub stretch_leads : (charstring : List ℕ) (mask_len : ℕ) (bytes all : List ℕ) (settled before after : ℕ) (w : Written) (s : Stretch) (h : Comes charstring mask_len bytes settled w s)
    → all ≡ bytes ++ take s.len charstring → before ≡ length bytes → after ≡ operands_offset s.settled settled before → Advances charstring s.len s.tokens mask_len w (written_at all after s.count)
stretch_leads charstring mask_len bytes all settled before after w s h a b p =
    subst (λ (x : Written). Advances charstring s.len s.tokens mask_len w x) (sym (written_is all after s.count h.now (stretch_stands charstring mask_len bytes all settled before after w s h a b p))) h.leads

pub stretch_holds : (charstring : List ℕ) (mask_len : ℕ) (bytes all : List ℕ) (settled before after last : ℕ) (w : Written) (s : Stretch) (h : Comes charstring mask_len bytes settled w s)
    → all ≡ bytes ++ take s.len charstring → before ≡ length bytes → after ≡ operands_offset s.settled settled before → last ≡ before + s.last → 1 ≤ s.tokens → Holds all after s.count last (written_at all after s.count)
stretch_holds charstring mask_len bytes all settled before after last w s h a b p l some =
    let stands = stretch_stands charstring mask_len bytes all settled before after w s h a b p in
    let known : 1 ≤ s.count → (last ≡ 0 → ⊥) → last ≡ last_operand_offset h.now = λ many _. l ∙ ap (λ (n : ℕ). n + s.last) b ∙ h.last some many in
    subst (λ (x : Written). Holds all after s.count last x) (sym (written_is all after s.count h.now stands)) (record { stands = stands; known = known })

pub some_tokens : (tokens len : ℕ) → (tokens ≡ 0 → len ≡ 0) → (len ≡ 0 → ⊥) → 1 ≤ tokens
some_tokens zero len moves some = absurd (some (moves refl))
some_tokens (suc tokens) len moves some = omega arith

-- ---- a stretch of a run
-- the innermost charstring that is not at its end stays that
pub unended_again : (rests : List (List ℕ)) (charstring : List ℕ) (callers : List (List ℕ)) → unended rests ≡ charstring ∷ callers → unended (charstring ∷ callers) ≡ charstring ∷ callers
unended_again [] charstring callers e = absurd (cc)
unended_again ([] ∷ rests) charstring callers e = unended_again rests charstring callers e
unended_again ((b ∷ bytes) ∷ rests) charstring callers e = subst (λ (l : List (List ℕ)). unended l ≡ l) e refl

some_text : (charstring : List ℕ) (callers : List (List ℕ)) (rests : List (List ℕ)) → unended rests ≡ charstring ∷ callers → 0 < length charstring
some_text [] callers [] e = absurd (cc)
some_text [] callers ([] ∷ rests) e = some_text [] callers rests e
some_text [] callers ((b ∷ bytes) ∷ rests) e = absurd (cc)
some_text (b ∷ bytes) callers rests e = omega arith

rest_of : (charstring : List ℕ) (len : ℕ) → take (length charstring - len) (drop len charstring) ≡ drop len charstring
rest_of charstring len = take_all (length charstring - len) (drop len charstring) (omega (arith, length-drop len charstring))

pub after_stretch : (front : List ℕ) (o : Outcome) (library : Library) (depth tokens stems mask_len : ℕ) (rests callers : List (List ℕ)) (charstring : List ℕ) (len n : ℕ) (w now : Written)
    → ReachedAfter front o library depth tokens (record { rests = rests; registers = registers_with w stems mask_len }) w.settled → unended rests ≡ charstring ∷ callers → Advances charstring len n mask_len w now → length callers < depth → n ≤ tokens
    → ReachedAfter front o library depth (tokens - n) (record { rests = take (length charstring - len) (drop len charstring) ∷ callers; registers = registers_with now stems mask_len }) now.settled
after_stretch front o library depth tokens stems mask_len rests callers charstring len n w now h e leads room few =
    rw (rest_of charstring len)
    (leads front o library depth tokens (tokens - n) stems callers room (omega arith)
    (after_same front o library depth tokens (registers_with w stems mask_len) rests (charstring ∷ callers) w.settled h (e ∙ sym (unended_again rests charstring callers e))))

-- each turn takes a token
pub fewer_tokens : (rests callers : List (List ℕ)) (charstring : List ℕ) (len n tokens : ℕ) → unended rests ≡ charstring ∷ callers → (n ≡ 0 → len ≡ 0) → n ≤ tokens → length (take (length charstring - len) (drop len charstring)) ≡ 0 → tokens - n < tokens
fewer_tokens rests callers charstring len zero tokens e moves few z =
    let some = some_text charstring callers rests e in
    let none : len ≡ 0 = moves refl in
    let left : length (drop len charstring) ≡ 0 = sym (ap length (rest_of charstring len)) ∙ z in
    absurd (omega (arith, length-drop len charstring))
fewer_tokens rests callers charstring len (suc n) tokens e moves few z = omega arith

pub length_rests : (rests : List (Bor (List ℕ))) → length (rests_of rests) ≡ length rests
length_rests rests = length-map (reverse rests) (λ r. r.now) ∙ length-reverse rests
