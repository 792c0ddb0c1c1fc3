-- Numbers of one byte each, one after the other.
use Rattle.std.proofs.Common.{◌≡◌, ℕ, zero, suc, ◌+◌, ◌-◌, ◌<◌, ◌≤◌, ℤ, pos, ◌-ℤ◌, List, [], ◌∷◌, ◌++◌, length, get_or, take, drop, map, All, false, None, Some, Ok, refl, sym, ap, ◌∙◌, subst, arith, append_assoc, append-nil, length-append}
use Rattle.std.specs.Prelude.{Result, ◌==◌}
use mathlib.Core.List.{map-append}
use Rattle.std.proofs.lemmas.Bool.{le-leb, lt-ltb, le-ltb, ne_eqb}
use Rattle.std.proofs.lemmas.List.{take_more}
use Rattle.std.proofs.lemmas.List.Elements.{All-append, All-cons, All-head, All-tail}
use Rattle.subsetter_base.specs.declared.error.Error.{Error}
use Rattle.subsetter_cffdata.specs.declared.numerals.charstring_number.CharStringNumber.TheVariants.{Integer}
use Rattle.subsetter_cffdata.specs.Numerals.CharStringNumber.{number_at}
use Rattle.subsetter_type2.specs.Runs.Machine.{On}
use Rattle.subsetter_type2.specs.Token.{Operand, token_of}
use Rattle.subsetter_blend.specs.Runs.Machine.{Setting, Registers, Act, Does, act_at, done, run}
use Rattle.subsetter_blend.specs.Runs.Small.{IsSmall, small, with_small}
use Rattle.subsetter_blend.specs.Writing.Taking.{Event}
use Rattle.subsetter_blend.proofs.RunsLaws.Runs.{run_on}

number_is : (b : ℕ) (bs : List ℕ) → IsSmall b → number_at (b ∷ bs) ≡ Some (Integer (pos b -ℤ pos 139), bs)
unfolding number_at
number_is b bs s =
    let other : (b == 28) ≡ false = ne_eqb b 28 (λ e. omega (arith, s.low)) in
    rw (other, le-ltb b 32 s.low, lt-ltb b 247 s.high) refl

token_is : (b : ℕ) (bs : List ℕ) → IsSmall b → token_of (b ∷ bs) ≡ Some (Operand (Integer (pos b -ℤ pos 139)), bs)
unfolding token_of
token_is b bs s =
    let other : (b == 28) ≡ false = ne_eqb b 28 (λ e. omega (arith, s.low)) in
    rw (other, le-leb 32 b s.low, number_is b bs s) refl

pub one_small : (setting : Setting) (b : ℕ) (bs : List ℕ) (r : Registers) → IsSmall b → length r.operands < 513 → act_at setting (b ∷ bs) r ≡ Does None (record r { operands = r.operands ++ small b ∷ [] }) (On bs)
unfolding act_at
one_small setting b bs r s room = rw (token_is b bs s, lt-ltb (length r.operands) 513 room) refl

map_put : (xs : List ℕ) (b : ℕ) → map small (xs ++ b ∷ []) ≡ map small xs ++ small b ∷ []
map_put xs b = map-append small xs (b ∷ [])

-- one more is pushed
pub small_more : (old now next : List ℤ) (bytes : List ℕ) (k b : ℕ) (z : ℤ) → k < length bytes → b ≡ get_or bytes k 0 → z ≡ small b → now ≡ old ++ map small (take k bytes) → next ≡ now ++ z ∷ []
    → next ≡ old ++ map small (take (k + 1) bytes)
small_more old now next bytes k b z less byte_is number_is so_far more =
    let regrouped : (xs : List ℕ) → (old ++ map small xs) ++ z ∷ [] ≡ old ++ map small (xs ++ b ∷ []) = λ (xs : List ℕ).
    append_assoc old (map small xs) (z ∷ []) ∙ ap (λ (l : List ℤ). old ++ l) (ap (λ (y : ℤ). map small xs ++ y ∷ []) number_is ∙ sym (map_put xs b)) in
    more ∙ ap (λ (l : List ℤ). l ++ z ∷ []) so_far ∙ regrouped (take k bytes)
    ∙ ap (λ (l : List ℕ). old ++ map small l) (ap (λ (y : ℕ). take k bytes ++ y ∷ []) byte_is ∙ sym (take_more bytes k 0 less))

pub smalls_more : (bytes : List ℕ) (k b : ℕ) → k < length bytes → b ≡ get_or bytes k 0 → IsSmall b → All IsSmall (take k bytes) → All IsSmall (take (k + 1) bytes)
smalls_more bytes k b less byte_is s all =
    subst (λ (l : List ℕ). All IsSmall l) (ap (λ (y : ℕ). take k bytes ++ y ∷ []) byte_is ∙ sym (take_more bytes k 0 less))
    (All-append IsSmall (take k bytes) (b ∷ []) all (All-cons IsSmall b [] s (λ k d l. absurd (omega arith))))

with_none : (r : Registers) → r ≡ with_small [] r
with_none r = ap (λ (l : List ℤ). record r { operands = l }) (sym (append-nil r.operands))

-- ---- the run
module _ {S : Type 0} (taken : Event → S → Result S Error) (setting : Setting) (depth : ℕ) where
  pub small_runs : (count tokens : ℕ) (s : S) (r : Registers) (bytes : List ℕ) (callers : List (List ℕ)) → count ≤ tokens → count ≤ length bytes → All IsSmall (take count bytes) → length r.operands + count ≤ 513 → length callers < depth
      → run taken setting depth tokens s (record { rests = bytes ∷ callers; registers = r }) ≡ run taken setting depth (tokens - count) s (record { rests = drop count bytes ∷ callers; registers = with_small (take count bytes) r })
  small_runs zero tokens s r bytes callers few inside all room deep =
      let all_left : tokens ≡ tokens - 0 = omega arith in
      ap (λ (q : Registers). run taken setting depth tokens s (record { rests = bytes ∷ callers; registers = q })) (with_none r)
      ∙ ap (λ (n : ℕ). run taken setting depth n s (record { rests = bytes ∷ callers; registers = with_small [] r })) all_left
  small_runs (suc count) zero s r bytes callers few inside all room deep = absurd (omega arith)
  small_runs (suc count) (suc tokens) s r [] callers few inside all room deep = absurd (omega arith)
  small_runs (suc count) (suc tokens) s r (b ∷ bs) callers few inside all room deep =
      let first : IsSmall b = All-head IsSmall b (take count bs) all in
      let left_over : tokens - count ≡ suc tokens - suc count = omega arith in
      let one : Registers = record r { operands = r.operands ++ small b ∷ [] } in
      let is : done taken (act_at setting (b ∷ bs) r) s ≡ Ok (record { registers = one; taken = s; lead = On bs }) =
      ap (λ (a : Act). done taken a s) (one_small setting b bs r first (omega arith)) in
      run_on taken setting depth (suc tokens) tokens s (record { rests = (b ∷ bs) ∷ callers; registers = r }) (b ∷ bs) callers (record { registers = one; taken = s; lead = On bs }) refl refl is (omega arith)
      ∙ small_runs count tokens s one bs callers (omega arith) (omega arith) (All-tail IsSmall b (take count bs) all) (omega (arith, length-append r.operands (small b ∷ []))) deep
      ∙ ap (λ (l : List ℤ). run taken setting depth (tokens - count) s (record { rests = drop count bs ∷ callers; registers = record r { operands = l } })) (append_assoc r.operands (small b ∷ []) (map small (take count bs)))
      ∙ ap (λ (n : ℕ). run taken setting depth n s (record { rests = drop count bs ∷ callers; registers = with_small (b ∷ take count bs) r })) left_over
