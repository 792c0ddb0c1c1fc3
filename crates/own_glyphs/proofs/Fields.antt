-- The headers that were written are read back.
use Rattle.std.proofs.Common.{◌≡◌, ℕ, ◌*◌, ◌<◌, ◌≤◌, ◌^◌, Bool, true, false, cond, ltb, List, [], ◌∷◌, ◌++◌, length, take, drop, Some, Ok, Err, refl, sym, ap, ◌∙◌, append_assoc, arith}
use Rattle.std.specs.Prelude.{◌==◌}
use Rattle.std.specs.Int.{w16, to_be_bytes}
use Rattle.std.proofs.lemmas.List.{length-append, length-take-le}
use Rattle.subsetter_base.specs.Bytes.{◌>>=◌}
use Rattle.subsetter_base.specs.declared.error.Error.TheVariants.{MalformedFont}
use Rattle.subsetter_base.proofs.ByteLemmas.{be-u16, number_at}
use Rattle.subsetter_base.proofs.Results.{bind_ok, done_is}
use Rattle.subsetter_sfnt.specs.Fields.Loca.{loca_bytes, offset_bytes}
use Rattle.subsetter_sfnt.specs.Fields.Maxp.{num_glyphs}
use Rattle.subsetter.specs.Common.Hmtx.Written.{hhea_bytes}
use Rattle.subsetter.specs.Glyf.Read.{entry_size}
use Rattle.subsetter.proofs.CommonLaws.HmtxLaws.Back.{header_after, header_before}
use Rattle.subsetter.proofs.CommonLaws.HmtxLaws.Written.{length-hhea}
use Rattle.own_glyphs.specs.Own.{KeepsAround}
use Rattle.own_glyphs.specs.Profile.{counted, limited, limits_of, maxp_with}
use Rattle.own_glyphs.specs.declared.profile.Limits.{Limits}

pub keeps_hhea : (n : ℕ) (hhea : List ℕ) → 36 ≤ length hhea → KeepsAround hhea (hhea_bytes n hhea) 34 36
keeps_hhea n hhea whole = record { same_length = length-hhea n hhea whole; before = header_before n hhea whole; after = header_after n hhea whole }

-- numGlyphs after a version of four bytes
count_at : (n : ℕ) (maxp rest : List ℕ) → 6 ≤ length maxp → n < 2 ^ 16 → num_glyphs (take 4 maxp ++ (to_be_bytes w16 n ++ rest)) ≡ Some n
count_at n maxp rest whole small = number_at (take 4 maxp ++ (to_be_bytes w16 n ++ rest)) (take 4 maxp) (to_be_bytes w16 n) rest 4 2 n refl (sym (length-take-le 4 maxp (omega arith))) refl (be-u16 n small)

counted_back : (n : ℕ) (maxp : List ℕ) → 6 ≤ length maxp → n < 2 ^ 16 → num_glyphs (counted n maxp) ≡ Some n
counted_back n maxp whole small = ap num_glyphs (append_assoc (take 4 maxp) (to_be_bytes w16 n) (drop 6 maxp)) ∙ count_at n maxp (drop 6 maxp) whole small

five : (a b c d e : List ℕ) → a ++ b ++ c ++ d ++ e ≡ a ++ (b ++ (c ++ d ++ e))
five a b c d e = simp append_assoc

limited_back : (n : ℕ) (l : Limits) (maxp : List ℕ) → 6 ≤ length maxp → n < 2 ^ 16 → num_glyphs (limited n l maxp) ≡ Some n
limited_back n l maxp whole small = ap num_glyphs (five (take 4 maxp) (to_be_bytes w16 n) _ _ _) ∙ count_at n maxp _ whole small

pub profile_back : (n parts : ℕ) (maxp new : List ℕ) → 6 ≤ length maxp → n < 2 ^ 16 → maxp_with n parts maxp ≡ Ok new → num_glyphs new ≡ Some n
unfolding maxp_with
profile_back n parts maxp new whole small h = by (parts == 0) (ltb (length maxp) 32) h
  where
    by : (a b : Bool) → cond a (Ok (counted n maxp)) (cond b (Err MalformedFont) (limits_of parts maxp >>= λ l. Ok (limited n l maxp))) ≡ Ok new → num_glyphs new ≡ Some n
    by true b k = ap num_glyphs (sym (done_is (counted n maxp) new k)) ∙ counted_back n maxp whole small
    by false true k = absurd cc
    by false false k =
        let a = bind_ok (limits_of parts maxp) (λ l. Ok (limited n l maxp)) new k in
        ap num_glyphs (sym (done_is (limited n a.0 maxp) new a.2)) ∙ limited_back n a.0 maxp whole small

pub length-loca : (long : Bool) (offsets : List ℕ) → length (loca_bytes long offsets) ≡ entry_size long * length offsets
length-loca true [] = refl
length-loca false [] = refl
length-loca true (o ∷ offsets) = omega (arith, length-append (offset_bytes true o) (loca_bytes true offsets), length-loca true offsets)
length-loca false (o ∷ offsets) = omega (arith, length-append (offset_bytes false o) (loca_bytes false offsets), length-loca false offsets)
