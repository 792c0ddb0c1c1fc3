-- A subset of a CID-keyed font has no fault; and a glyph that it hasn't is one.
use Rattle.std.proofs.Common.{◌≡◌, ℕ, zero, suc, ◌≤◌, List, [], ◌∷◌, length, Option, None, refl, arith}
use Rattle.subsetter_cff.specs.Write.Again.{HasNoFaultAgain, UnknownIsFault}
use Rattle.subsetter_cff.proofs.WriteLaws.RefusalsLaws.Excluded.{answered_excludes}
use Rattle.subsetter_cff.proofs.WriteLaws.AgainLaws.Tables.{is_given_back}
use Rattle.subsetter_type2.specs.Subroutines.{entry_at}
use Rattle.subsetter_cff.specs.Read.Fault.{no_char_string}

pub has_no_fault_again : HasNoFaultAgain
has_no_fault_again bytes cff tokens depth first all out e asked read cid answered they fault =
    answered_excludes out tokens depth all out e (is_given_back bytes cff tokens depth first all out asked read cid answered they) fault

-- ---- a glyph that isn't there
nothing_there : (xs : List (Option (List ℕ))) (g : ℕ) → length xs ≤ g → entry_at xs g ≡ None
nothing_there [] g le = refl
nothing_there (x ∷ xs) zero le = absurd (omega (arith, le))
nothing_there (x ∷ xs) (suc g) le = nothing_there xs g (omega (arith, le))

pub unknown_is_fault : UnknownIsFault
unknown_is_fault font copy tokens depth glyph glyphs s le = no_char_string (rw s.charstrings_are (nothing_there s.charstrings glyph (omega (arith, le, s.count))))
