-- The operands at the end of the output.
use Rattle.std.proofs.Common.{◌≡◌, ℕ, zero, suc, ◌+◌, ◌-◌, ◌<◌, ◌≤◌, List, [], ◌∷◌, ◌++◌, length, take, drop, get_or, Option, Some, None, pos, refl, sym, ap, ◌∙◌, subst, arith, append_assoc, append-nil, length-append, length-drop}
use Rattle.std.proofs.lemmas.List.{take_at, drop_at, take-append-drop, length-take-le, take_all}
use Rattle.std.proofs.lemmas.Option.{slice_get-get_or, some_pair_parts}
use Rattle.std.proofs.lemmas.Grind.{flat_map-append}
use Rattle.subsetter_cffdata.specs.declared.numerals.charstring_number.CharStringNumber.{CharStringNumber}
use Rattle.subsetter_cffdata.specs.Numerals.CharStringNumber.{NumberFits, number_at, written}
use Rattle.subsetter_cffdata.specs.declared.numerals.charstring_number.CharStringNumber.TheVariants.{Integer}
use Rattle.subsetter_cffdata.proofs.NumeralsLaws.CharStringNumbers.{read_back}
use Rattle.subsetter_type2.specs.Flat.{flat_operands}
use Rattle.subsetter_type2.specs.Runs.Machine.{last_operand, but_last}
use Rattle.subsetter_type2.specs.Runs.Output.{Written}
use Rattle.subsetter_type2.specs.Runs.OutputView.{AllFit, numbers_of, written_at, last_operand_offset, IsOutput, Holds}

pub fit_front : (ns : List CharStringNumber) (k : ℕ) → AllFit ns → AllFit (take k ns)
fit_front [] zero f = tt
fit_front [] (suc k) f = tt
fit_front (n ∷ ns) zero f = tt
fit_front (n ∷ ns) (suc k) f = (f.0, fit_front ns k f.1)

pub fit_more : (ns : List CharStringNumber) (n : CharStringNumber) → AllFit ns → NumberFits n → AllFit (ns ++ n ∷ [])
fit_more [] n f g = (g, tt)
fit_more (m ∷ ns) n f g = (f.0, fit_more ns n f.1 g)

-- the bytes of some numbers spell them
numbers_are : (numbers : List CharStringNumber) → AllFit numbers → numbers_of (length numbers) (flat_operands numbers) ≡ numbers
unfolding numbers_of
numbers_are [] f = refl
numbers_are (n ∷ ns) f = rw (read_back n (flat_operands ns) f.0) (ap (λ l. n ∷ l) (numbers_are ns f.1))

module _ (bytes : List ℕ) (settled count : ℕ) (w : Written) (h : IsOutput bytes settled count w) where
  front_is : take settled bytes ≡ w.settled
  front_is = ap (take settled) h.bytes_are ∙ take_at w.settled _ settled (sym h.offset)

  rest_is : drop settled bytes ≡ flat_operands w.operands
  rest_is = ap (drop settled) h.bytes_are ∙ drop_at w.settled _ settled (sym h.offset)

  -- the same, as the code slices the bytes
  pub slice_is : (n : ℕ) → n ≡ length bytes → take (n - settled) (drop settled bytes) ≡ flat_operands w.operands
  slice_is n e = take_all (n - settled) (drop settled bytes) (omega (arith, length-drop settled bytes, e)) ∙ rest_is

  pub written_is : written_at bytes settled count ≡ w
  written_is =
      let spelled : numbers_of count (drop settled bytes) ≡ w.operands =
      ap (numbers_of count) rest_is ∙ ap (λ n. numbers_of n (flat_operands w.operands)) h.many ∙ numbers_are w.operands h.fit in
      ap (λ (s : List ℕ). record { settled = s; operands = numbers_of count (drop settled bytes) }) front_is
      ∙ ap (λ (l : List CharStringNumber). record { settled = w.settled; operands = l }) spelled

  -- in the form of the output's invariant
  pub stands_at : IsOutput bytes settled count (written_at bytes settled count)
  stands_at = subst (λ (x : Written). IsOutput bytes settled count x) (sym written_is) h

flat-operands-append : (xs ys : List CharStringNumber) → flat_operands (xs ++ ys) ≡ flat_operands xs ++ flat_operands ys
flat-operands-append xs ys = flat_map-append written xs ys

-- a number more
pub stands_more : (bytes all : List ℕ) (settled count more : ℕ) (w : Written) (n : CharStringNumber) → IsOutput bytes settled count w → NumberFits n → all ≡ bytes ++ written n → more ≡ count + 1
    → IsOutput all settled more (record { settled = w.settled; operands = w.operands ++ n ∷ [] })
stands_more bytes all settled count more w n h f e m = record {
  bytes_are = e ∙ ap (λ (b : List ℕ). b ++ written n) h.bytes_are ∙ append_assoc w.settled _ _
      ∙ ap (λ (b : List ℕ). w.settled ++ b) (ap (λ (b : List ℕ). flat_operands w.operands ++ b) (sym (append-nil (written n))) ∙ sym (flat-operands-append w.operands (n ∷ [])));
  offset = h.offset;
  many = omega (arith, m, h.many, length-append w.operands (n ∷ []));
  fit = fit_more w.operands n h.fit f;
}

-- all is settled
pub stands_settled : (bytes : List ℕ) (place : ℕ) → place ≡ length bytes → IsOutput bytes place 0 (record { settled = bytes; operands = [] })
stands_settled bytes place e = record { bytes_are = sym (append-nil bytes); offset = e; many = refl; fit = tt }

-- what is settled by an operator and its mask
pub settles : (bytes text : List ℕ) (settled count : ℕ) (w : Written) → IsOutput bytes settled count w → bytes ++ text ≡ w.settled ++ (flat_operands w.operands ++ text)
settles bytes text settled count w h = ap (λ (b : List ℕ). b ++ text) h.bytes_are ∙ append_assoc w.settled _ _

-- a number less
pub stands_less : (bytes : List ℕ) (settled count before : ℕ) (w : Written) → IsOutput bytes settled count w → before ≡ length (flat_operands (but_last w.operands)) → 1 ≤ count
    → IsOutput (take (settled + before) bytes) settled (count - 1) (record { settled = w.settled; operands = but_last w.operands })
stands_less bytes settled count before w h e some =
    let k = length w.operands - 1 in
    let numbers : flat_operands w.operands ≡ flat_operands (take k w.operands) ++ flat_operands (drop k w.operands) =
    ap flat_operands (sym (take-append-drop k w.operands)) ∙ flat-operands-append (take k w.operands) (drop k w.operands) in
    let whole : bytes ≡ (w.settled ++ flat_operands (take k w.operands)) ++ flat_operands (drop k w.operands) =
    h.bytes_are ∙ ap (λ (b : List ℕ). w.settled ++ b) numbers ∙ sym (append_assoc w.settled _ _) in
    let at : length (w.settled ++ flat_operands (take k w.operands)) ≡ settled + before =
    omega (arith, length-append w.settled (flat_operands (take k w.operands)), h.offset, e) in
    record {
      bytes_are = ap (take (settled + before)) whole ∙ take_at _ _ (settled + before) at;
      offset = h.offset;
      many = let n : length (take k w.operands) ≡ k = length-take-le k w.operands (omega arith) in omega (arith, n, h.many);
      fit = fit_front w.operands k h.fit;
    }

-- each of some numbers is read at its place
pub read_nth : (numbers : List CharStringNumber) (k : ℕ) (rest : List ℕ) (d : CharStringNumber) → AllFit numbers → k < length numbers → rest ≡ flat_operands (drop k numbers)
    → number_at rest ≡ Some (get_or numbers k d, flat_operands (drop (suc k) numbers))
read_nth [] k rest d f l e = absurd (omega arith)
read_nth (n ∷ ns) zero rest d f l e = ap number_at e ∙ read_back n (flat_operands ns) f.0
read_nth (n ∷ ns) (suc k) rest d f l e = read_nth ns k rest d f.1 (omega arith) e

pub stop_before : (numbers : List CharStringNumber) (k : ℕ) (rest : List ℕ) → AllFit numbers → k < length numbers → rest ≡ flat_operands (drop k numbers) → number_at rest ≡ None → ⊥
stop_before numbers k rest f l e n =
    let p : ◌≡◌ {A = Option (CharStringNumber × List ℕ)} None (Some (get_or numbers k (Integer (pos 0)), flat_operands (drop (suc k) numbers))) = sym n ∙ read_nth numbers k rest (Integer (pos 0)) f l e in
    absurd (cc)

-- the last of the operands is where the new one began
pub last_of_more : (bytes : List ℕ) (settled count : ℕ) (w : Written) (n : CharStringNumber) → IsOutput bytes settled count w → (place : ℕ) → place ≡ length bytes → place ≡ last_operand_offset (record { settled = w.settled; operands = w.operands ++ n ∷ [] })
last_of_more bytes settled count w n h place e =
    let k : length w.operands ≡ length (w.operands ++ n ∷ []) - 1 = omega (arith, length-append w.operands (n ∷ [])) in
    let b : take (length (w.operands ++ n ∷ []) - 1) (w.operands ++ n ∷ []) ≡ w.operands = take_at w.operands (n ∷ []) (length (w.operands ++ n ∷ []) - 1) k in
    e ∙ ap length h.bytes_are ∙ length-append w.settled (flat_operands w.operands) ∙ ap (λ (l : List CharStringNumber). length w.settled + length (flat_operands l)) (sym b)

-- nothing is known of the last one
pub holds_at : (bytes : List ℕ) (settled count last : ℕ) (w : Written) → IsOutput bytes settled count w → last ≡ 0 → Holds bytes settled count last (written_at bytes settled count)
holds_at bytes settled count last w h z = record { stands = stands_at bytes settled count w h; known = λ _ some. absurd (some z) }

-- there are none
pub holds_none : (bytes : List ℕ) (settled last : ℕ) (w : Written) → IsOutput bytes settled 0 w → Holds bytes settled 0 last (written_at bytes settled 0)
holds_none bytes settled last w h = record { stands = stands_at bytes settled 0 w h; known = λ some _. absurd (omega arith) }

module _ (bytes : List ℕ) (settled count : ℕ) (w : Written) (h : IsOutput bytes settled count w) (some : 1 ≤ count) (place : ℕ) (e : place ≡ last_operand_offset w) where
  last_rest : drop place bytes ≡ flat_operands (drop (length w.operands - 1) w.operands)
  last_rest =
      let k = length w.operands - 1 in
      let numbers : flat_operands w.operands ≡ flat_operands (take k w.operands) ++ flat_operands (drop k w.operands) =
      ap flat_operands (sym (take-append-drop k w.operands)) ∙ flat-operands-append (take k w.operands) (drop k w.operands) in
      let whole : bytes ≡ (w.settled ++ flat_operands (take k w.operands)) ++ flat_operands (drop k w.operands) =
      h.bytes_are ∙ ap (λ (b : List ℕ). w.settled ++ b) numbers ∙ sym (append_assoc w.settled _ _) in
      ap (drop place) whole ∙ drop_at _ _ place (length-append w.settled _ ∙ sym e)

  pub last_inside : place ≤ length bytes
  last_inside =
      let k = length w.operands - 1 in
      let numbers : flat_operands w.operands ≡ flat_operands (take k w.operands) ++ flat_operands (drop k w.operands) =
      ap flat_operands (sym (take-append-drop k w.operands)) ∙ flat-operands-append (take k w.operands) (drop k w.operands) in
      omega (arith, e, ap length h.bytes_are, length-append w.settled (flat_operands w.operands), ap length numbers, length-append (flat_operands (take k w.operands)) (flat_operands (drop k w.operands)))

  -- what is read there
  pub last_value : (text after : List ℕ) (number : CharStringNumber) → text ≡ drop place bytes → number_at text ≡ Some (number, after) → Some number ≡ last_operand w.operands
  last_value text after number t r =
      let k = length w.operands - 1 in
      let within : k < length w.operands = omega (arith, h.many) in
      let read : ◌≡◌ {A = Option (CharStringNumber × List ℕ)} (Some (get_or w.operands k number, flat_operands (drop (suc k) w.operands))) (Some (number, after)) = sym (read_nth w.operands k text number h.fit within (t ∙ last_rest)) ∙ r in
      let same : get_or w.operands k number ≡ number = (some_pair_parts _ _ _ _ read).0 in
      sym (slice_get-get_or w.operands k number within ∙ ap Some same)

  pub last_there : (text : List ℕ) → text ≡ drop place bytes → number_at text ≡ None → ⊥
  last_there text t n = stop_before w.operands (length w.operands - 1) text h.fit (omega (arith, h.many)) (t ∙ last_rest) n

  pub stands_before : IsOutput (take place bytes) settled (count - 1) (record { settled = w.settled; operands = but_last w.operands })
  stands_before =
      let before = length (flat_operands (but_last w.operands)) in
      let at : place ≡ settled + before = e ∙ ap (λ (n : ℕ). n + before) (sym h.offset) in
      subst (λ (p : ℕ). IsOutput (take p bytes) settled (count - 1) (record { settled = w.settled; operands = but_last w.operands })) (sym at) (stands_less bytes settled count before w h refl some)

-- the last of some numbers
pub last_is : (numbers : List CharStringNumber) (count : ℕ) (bytes last after : List ℕ) (number : CharStringNumber) → AllFit numbers → bytes ≡ flat_operands numbers → count ≡ length numbers → (count ≡ 0 → ⊥)
    → last ≡ flat_operands (drop (count - 1) numbers) → number_at last ≡ Some (number, after)
    → (last_operand numbers ≡ Some number) × (length bytes - length last ≡ length (flat_operands (but_last numbers)))
last_is numbers count bytes last after number f e n some l r =
    let k = length numbers - 1 in
    let within : k < length numbers = omega arith in
    let m : count - 1 ≡ k = omega arith in
    let at : last ≡ flat_operands (drop k numbers) = l ∙ ap (λ (i : ℕ). flat_operands (drop i numbers)) m in
    let read : ◌≡◌ {A = Option (CharStringNumber × List ℕ)} (Some (get_or numbers k number, flat_operands (drop (suc k) numbers))) (Some (number, after)) = sym (read_nth numbers k last number f within at) ∙ r in
    let same : get_or numbers k number ≡ number = (some_pair_parts _ _ _ _ read).0 in
    let split : bytes ≡ flat_operands (take k numbers) ++ flat_operands (drop k numbers) =
    e ∙ ap flat_operands (sym (take-append-drop k numbers)) ∙ flat-operands-append (take k numbers) (drop k numbers) in (
      slice_get-get_or numbers k number within ∙ ap Some same,
      omega (arith, ap length split, ap length at, length-append (flat_operands (take k numbers)) (flat_operands (drop k numbers))),
    )

pub past_is : (n m : CharStringNumber) (a b : List ℕ) → ◌≡◌ {A = Option (CharStringNumber × List ℕ)} (Some (n, a)) (Some (m, b)) → a ≡ b
past_is n m a b e = (some_pair_parts n m a b e).1

-- the code's slice from a place on
pub rest_from : (place : ℕ) (bytes all : List ℕ) → all ≡ bytes → take (length all - place) (drop place all) ≡ drop place bytes
rest_from place bytes all e = take_all (length all - place) (drop place all) (omega (arith, length-drop place all)) ∙ ap (drop place) e

-- the last operand of what is viewed
pub at_view : (w v : Written) (place : ℕ) → w ≡ v → (place ≡ last_operand_offset v) × (1 ≤ length v.operands) → (place ≡ last_operand_offset w) × (1 ≤ length w.operands)
at_view w v place e h = subst (λ (x : Written). (place ≡ last_operand_offset x) × (1 ≤ length x.operands)) (sym e) h
