-- The values of an array, one after another.
use Rattle.std.proofs.Common.{◌≡◌, ℕ, zero, suc, ◌+◌, ◌*◌, ◌<◌, ◌≤◌, Bool, true, false, cond, ltb, leb, List, [], ◌∷◌, length, take, drop, Option, Some, None, refl, ap, sym, ◌∙◌, arith}
use Rattle.std.specs.Prelude.{slice_get}
use Rattle.std.specs.Option.{option_and_then}
use Rattle.std.proofs.lemmas.Bool.{lt-ltb, ltb-true, leb-true}
use Rattle.std.proofs.Math.Nat.{suc-mul, zero-mul, add_comm}
use Rattle.subsetter_base.proofs.ByteLemmas.{range-drop}
use Rattle.subsetter_base.specs.Bytes.{range}
use Rattle.subsetter_base.specs.Items.{item, values_of}

-- the first value, and those after it
pub values_of-more : {A : Type 0} (size : ℕ) (value_of : List ℕ → Option A) (n count : ℕ) (bytes rest : List ℕ) (x : A)
    → n ≡ suc count → rest ≡ drop size bytes → Some x ≡ option_and_then value_of (range bytes 0 size)
    → values_of size value_of n bytes ≡ x ∷ values_of size value_of count rest
values_of-more {A} size value_of n count bytes rest x is after e =
    ap (λ (k : ℕ). values_of size value_of k bytes) is
    ∙ ap (λ (o : Option A). elim o [ None ↦ [] | Some y ↦ y ∷ values_of size value_of count (drop size bytes) ]) (sym e)
    ∙ ap (λ (l : List ℕ). x ∷ values_of size value_of count l) (sym after)

-- ---- each of the values is the item at its index

module _ {A : Type 0} (size : ℕ) (value_of : List ℕ → Option A) where
  read_if : (b : Bool) (o : Option (List ℕ)) (x : A) → option_and_then value_of (cond b o None) ≡ Some x → (b ≡ true) × (option_and_then value_of o ≡ Some x)
  read_if true o x e = (refl, e)
  read_if false o x e = absurd cc

  item_in : (bytes : List ℕ) (n i : ℕ) → i < n → item size (record { bytes = bytes; count = n }) i ≡ range bytes (i * size) size
  item_in bytes n i lt = ap (λ b. cond b (range bytes (i * size) size) None) (lt-ltb i n lt)

  -- where the values aren't empty, the first was read
  first_read : (o : Option A) (rest : List A) (i : ℕ) (x : A) → slice_get (elim o [ None ↦ [] | Some y ↦ y ∷ rest ]) i ≡ Some x → (y : A) × (o ≡ Some y) × (slice_get (y ∷ rest) i ≡ Some x)
  first_read None rest i x e = absurd cc
  first_read (Some y) rest i x e = (y, refl, e)

  pub values_of-item : (n : ℕ) (bytes : List ℕ) (i : ℕ) (x : A)
      → slice_get (values_of size value_of n bytes) i ≡ Some x → option_and_then value_of (item size (record { bytes = bytes; count = n }) i) ≡ Some x
  values_of-item zero bytes i x e = absurd cc
  values_of-item (suc n) bytes zero x e =
      let read = first_read (option_and_then value_of (range bytes 0 size)) (values_of size value_of n (drop size bytes)) 0 x e in
      ap (option_and_then value_of) (item_in bytes (suc n) 0 (omega arith) ∙ ap (λ (k : ℕ). range bytes k size) (zero-mul size)) ∙ read.1 ∙ read.2
  values_of-item (suc n) bytes (suc j) x e =
      let read = first_read (option_and_then value_of (range bytes 0 size)) (values_of size value_of n (drop size bytes)) (suc j) x e in
      let fits = leb-true (0 + size) (length bytes) (read_if (leb (0 + size) (length bytes)) (Some (take size (drop 0 bytes))) read.0 read.1).0 in
      let enough : size ≤ length bytes = omega (arith, fits) in
      let later = read_if (ltb j n) (range (drop size bytes) (j * size) size) x (values_of-item n (drop size bytes) j x read.2) in
      let place : size + j * size ≡ suc j * size = add_comm size (j * size) ∙ sym (suc-mul j size) in
      let below = ltb-true j n later.0 in
      ap (option_and_then value_of) (item_in bytes (suc n) (suc j) (omega (arith, below)) ∙ ap (λ (k : ℕ). range bytes k size) (sym place) ∙ sym (range-drop bytes size (j * size) size enough))
      ∙ later.1
