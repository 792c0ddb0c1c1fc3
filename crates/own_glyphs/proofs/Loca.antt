-- `loca` that was written is read back.
--   FitsEntry                    an offset fits its entry
--   offset_back                  an entry that was written
--   offset_fits, fits_longer     an offset that was read fits an entry, of another format too
use Rattle.std.proofs.Common.{◌≡◌, ℕ, zero, suc, ◌+◌, ◌*◌, ◌/◌, ◌%◌, ◌^◌, ◌<◌, Bool, true, false, List, [], ◌∷◌, ◌++◌, length, get_or, Some, refl, sym, ap, subst, ◌∙◌, append_assoc, arith}
use Rattle.std.specs.Option.{option_map}
use Rattle.std.proofs.lemmas.List.{length-append}
use Rattle.subsetter_base.specs.Bytes.{be, range, number, IsBytes}
use Rattle.subsetter_base.proofs.ByteLemmas.{be-fits, be-u16, be-u32, number-small, range-length, range-middle, IsBytes-range}
use Rattle.subsetter_base.proofs.Options.{map_some}
use Rattle.subsetter_sfnt.specs.Fields.Loca.{loca_bytes, loca_offset, offset_bytes}

-- long entries hold four bytes, the others two bytes of a half
abbrev pub FitsEntry : Bool → ℕ → Type 0
FitsEntry true n = n < 2 ^ 32
FitsEntry false n = (n < 2 ^ 17) × (n % 2 ≡ 0)

entry_back : (long : Bool) (k : ℕ) → ((n : ℕ) → length (offset_bytes long n) ≡ k) → (offsets : List ℕ) (i : ℕ) (pre bytes : List ℕ) (p : ℕ) → i < length offsets → bytes ≡ pre ++ loca_bytes long offsets → p ≡ length pre + k * i → range bytes p k ≡ Some (offset_bytes long (get_or offsets i 0))
entry_back long k wide [] i pre bytes p lt is at_p = absurd (omega arith)
entry_back long k wide (o ∷ offsets) zero pre bytes p lt is at_p = range-middle bytes pre (offset_bytes long o) (loca_bytes long offsets) p k is (omega arith) (sym (wide o))
entry_back long k wide (o ∷ offsets) (suc i) pre bytes p lt is at_p =
    let b = offset_bytes long o in
    let regrouped : bytes ≡ (pre ++ b) ++ loca_bytes long offsets = is ∙ sym (append_assoc pre b (loca_bytes long offsets)) in
    let there : p ≡ length (pre ++ b) + k * i = omega (arith, length-append pre b, wide o) in
    entry_back long k wide offsets i (pre ++ b) bytes p (omega arith) regrouped there

pub offset_back : (long : Bool) (offsets : List ℕ) (i : ℕ) → i < length offsets → FitsEntry long (get_or offsets i 0) → loca_offset (loca_bytes long offsets) long i ≡ Some (get_or offsets i 0)
offset_back true offsets i lt fit = ap (option_map be) (entry_back true 4 (λ n. refl) offsets i [] (loca_bytes true offsets) (4 * i) lt refl (omega arith)) ∙ ap Some (be-u32 (get_or offsets i 0) fit)
offset_back false offsets i lt fit =
    let o = get_or offsets i 0 in
    let even : 2 * (o / 2) ≡ o = omega (arith, fit.1) in
    ap (λ x. option_map (λ half. 2 * half) (option_map be x)) (entry_back false 2 (λ n. refl) offsets i [] (loca_bytes false offsets) (2 * i) lt refl (omega arith)) ∙ ap (λ n. Some (2 * n)) (be-u16 (o / 2) (omega (arith, fit.0))) ∙ ap Some even

-- a number of four bytes
long_small : (bytes : List ℕ) (at n : ℕ) → IsBytes bytes → number bytes at 4 ≡ Some n → n < 2 ^ 32
long_small bytes at n h e =
    let part = map_some be (range bytes at 4) n e in
    let fits : be part.0 < 256 ^ 4 = subst (λ k. be part.0 < 256 ^ k) (range-length bytes part.0 at 4 part.1) (be-fits part.0 (IsBytes-range bytes part.0 at 4 h part.1)) in
    omega (arith, part.2, fits)

pub offset_fits : (long : Bool) (loca : List ℕ) (i n : ℕ) → IsBytes loca → loca_offset loca long i ≡ Some n → FitsEntry long n
offset_fits true loca i n h e = long_small loca (4 * i) n h e
offset_fits false loca i n h e =
    let half = map_some (λ m. 2 * m) (number loca (2 * i) 2) n e in
    let small = number-small loca (2 * i) half.0 h half.1 in
    (omega (arith, half.2, small), omega (arith, half.2))

pub fits_longer : (old new : Bool) (n : ℕ) → (new ≡ false → old ≡ false) → FitsEntry old n → FitsEntry new n
fits_longer true true n h f = f
fits_longer false true n h f = omega (arith, f.0)
fits_longer false false n h f = f
fits_longer true false n h f = absurd (let e = h refl in cc)
