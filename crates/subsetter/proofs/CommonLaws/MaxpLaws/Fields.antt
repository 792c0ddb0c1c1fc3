-- The fields of `maxp` after numGlyphs, where hinting is asked for or not.
use Rattle.std.proofs.Common.{◌≡◌, ℕ, ◌+◌, ◌≤◌, Bool, true, false, cond, List, ◌++◌, length, take, drop, refl, ap, ◌∙◌, append_assoc, arith}
use Rattle.std.specs.Prelude.{nat_le}
use Rattle.std.specs.Int.{w16, w32, to_be_bytes}
use Rattle.std.proofs.lemmas.Bool.{leb-true}
use Rattle.std.proofs.lemmas.List.{drop_at, length-append, length-drop, length-take, length-take-le}
use Rattle.subsetter_sfnt.specs.declared.flavor.FontFlavor.{FontFlavor}
use Rattle.subsetter_sfnt.specs.declared.flavor.FontFlavor.TheVariants.{TrueType, Cff}
use Rattle.subsetter_sfnt.specs.Extras.{bare_fields, no_instructions, without_instructions}
use Rattle.subsetter.specs.Common.Maxp.Read.{version_of, further_fields}
use Rattle.subsetter.specs.Common.Maxp.Written.{hinted, hinted_fields, maxp_bytes}

bare_length : (fields : List ℕ) → length (bare_fields fields) ≡ length fields
bare_length fields = by (nat_le 22 (length fields)) refl
  where
    by : (b : Bool) → nat_le 22 (length fields) ≡ b → length (cond b (take 8 fields ++ no_instructions ++ drop 22 fields) fields) ≡ length fields
    by true e =
        let le : 22 ≤ length fields = leb-true 22 (length fields) e in
        let fourteen : length no_instructions ≡ 14 = refl in
        omega (arith, length-append (take 8 fields ++ no_instructions) (drop 22 fields), length-append (take 8 fields) no_instructions, length-take-le 8 fields (omega (arith, le)), length-drop 22 fields, fourteen, le)
    by false e = refl

-- no field is added
pub same_length : (maxp : List ℕ) → length (without_instructions maxp) ≡ length maxp
same_length maxp = omega (arith, length-append (take 6 maxp) (bare_fields (drop 6 maxp)), bare_length (drop 6 maxp), length-take 6 maxp, length-drop 6 maxp)

pub same_fields : (h : Bool) (flavor : FontFlavor) (maxp : List ℕ) → 6 ≤ length maxp → further_fields flavor (hinted h maxp) ≡ hinted_fields h (further_fields flavor maxp)
same_fields true flavor maxp long = refl
same_fields false TrueType maxp long = drop_at (take 6 maxp) (bare_fields (drop 6 maxp)) 6 (length-take-le 6 maxp long)
same_fields false Cff maxp long = refl

pub same_size : (h : Bool) (flavor : FontFlavor) (maxp : List ℕ) → 6 ≤ length maxp → length (further_fields flavor (hinted h maxp)) ≡ length (further_fields flavor maxp)
same_size h flavor maxp long = ap length (same_fields h flavor maxp long) ∙ kept h (further_fields flavor maxp)
  where
    kept : (h : Bool) (fields : List ℕ) → length (hinted_fields h fields) ≡ length fields
    kept true fields = refl
    kept false fields = bare_length fields

-- ---- written

pub maxp_parts : (flavor : FontFlavor) (n : ℕ) (maxp : List ℕ) → to_be_bytes w32 (version_of flavor) ++ to_be_bytes w16 n ++ further_fields flavor maxp ≡ maxp_bytes flavor n maxp
unfolding maxp_bytes
maxp_parts flavor n maxp = refl

pub maxp_size : (h : Bool) (flavor : FontFlavor) (n : ℕ) (maxp : List ℕ) → 6 ≤ length maxp → length (maxp_bytes flavor n (hinted h maxp)) ≡ 6 + length (further_fields flavor maxp)
maxp_size h flavor n maxp long =
    let v = to_be_bytes w32 (version_of flavor) in
    let c = to_be_bytes w16 n in
    omega (arith, ap length (maxp_parts flavor n (hinted h maxp)), length-append (v ++ c) (further_fields flavor (hinted h maxp)), length-append v c, same_size h flavor maxp long)

-- three parts in turn
pub three_written : (out a b c one two three : List ℕ) → one ≡ out ++ a → two ≡ one ++ b → three ≡ two ++ c → three ≡ out ++ (a ++ b ++ c)
three_written out a b c one two three p q r = rw (r, q, p) (simp append_assoc)
