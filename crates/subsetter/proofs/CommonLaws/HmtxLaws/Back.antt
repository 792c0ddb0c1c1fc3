-- `hhea` that was written is read back.
use Rattle.std.proofs.Common.{◌≡◌, ℕ, ◌^◌, ◌<◌, ◌≤◌, List, ◌++◌, length, take, drop, Some, refl, sym, ap, ◌∙◌, append_assoc, arith}
use Rattle.std.specs.Int.{w16, to_be_bytes}
use Rattle.std.proofs.lemmas.List.{length-append, length-take-le, take_at, drop_at}
use Rattle.subsetter_base.proofs.ByteLemmas.{be-u16, number_at}
use Rattle.subsetter_sfnt.specs.Fields.Hhea.{number_of_h_metrics}
use Rattle.subsetter_sfnt.proofs.Laws.FieldsLaws.HheaLaws.{own_hhea}
use Rattle.subsetter.specs.Common.Hmtx.Written.{hhea_bytes}

pub count_back : (n : ℕ) (hhea : List ℕ) → n < 2 ^ 16 → 36 ≤ length hhea → number_of_h_metrics (hhea_bytes n hhea) ≡ Some n
unfolding hhea_bytes
count_back n hhea small long =
    ap number_of_h_metrics (own_hhea n hhea)
    ∙ number_at ((take 34 hhea ++ to_be_bytes w16 n) ++ drop 36 hhea) (take 34 hhea) (to_be_bytes w16 n) (drop 36 hhea) 34 2 n (append_assoc (take 34 hhea) (to_be_bytes w16 n) (drop 36 hhea)) (sym (length-take-le 34 hhea (omega arith))) refl (be-u16 n small)

pub header_before : (n : ℕ) (hhea : List ℕ) → 36 ≤ length hhea → take 34 (hhea_bytes n hhea) ≡ take 34 hhea
unfolding hhea_bytes
header_before n hhea long =
    ap (λ (l : List ℕ). take 34 l) (own_hhea n hhea ∙ append_assoc (take 34 hhea) (to_be_bytes w16 n) (drop 36 hhea)) ∙ take_at (take 34 hhea) (to_be_bytes w16 n ++ drop 36 hhea) 34 (length-take-le 34 hhea (omega arith))

pub header_after : (n : ℕ) (hhea : List ℕ) → 36 ≤ length hhea → drop 36 (hhea_bytes n hhea) ≡ drop 36 hhea
unfolding hhea_bytes
header_after n hhea long =
    ap (drop 36) (own_hhea n hhea) ∙ drop_at (take 34 hhea ++ to_be_bytes w16 n) (drop 36 hhea) 36 (omega (arith, length-append (take 34 hhea) (to_be_bytes w16 n), length-take-le 34 hhea (omega arith)))
