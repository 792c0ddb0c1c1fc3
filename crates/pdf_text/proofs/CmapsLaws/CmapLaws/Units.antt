-- Units in base 16, and counts, are read as they are written.
use Rattle.std.proofs.Common.{◌≡◌, ℕ, suc, zero, ◌+◌, ◌*◌, ◌/◌, ◌%◌, ◌<◌, ◌≤◌, true, List, [], ◌∷◌, ◌++◌, length, refl, ap, ◌∙◌, arith}
use Rattle.std.specs.Prelude.{nat_le, All, Some, codes, decimal}
use Rattle.std.proofs.lemmas.List.Elements.{All-nil, All-cons, All-head, All-tail}
use Rattle.std.proofs.lemmas.Bool.Decides.{nat_tests}
use Rattle.pdf_text.specs.Cmaps.Blocks.{Row, count_in}
use Rattle.pdf_text.specs.Cmaps.Cmap.{Line, IsLine, digit, words, hex_string, digit_value, units_in, hex_in, line_row, line_in}
use Rattle.pdf_text.specs.Cmaps.Encoding.{Pair, IsPair, pair_row, pair_in}
use Rattle.pdf_text.specs.Tokens.{number_in}
use Rattle.pdf_text.proofs.TokenLaws.Tokens.{number_read}

-- ---- a unit

below_sixteen : (P : ℕ → Type 0) → P 0 → P 1 → P 2 → P 3 → P 4 → P 5 → P 6 → P 7 → P 8 → P 9 → P 10 → P 11 → P 12 → P 13 → P 14 → P 15 → (n : ℕ) → n < 16 → P n
below_sixteen P a b c d e f g h i j k l m n o p zero q = a
below_sixteen P a b c d e f g h i j k l m n o p (suc zero) q = b
below_sixteen P a b c d e f g h i j k l m n o p (suc (suc zero)) q = c
below_sixteen P a b c d e f g h i j k l m n o p (suc (suc (suc zero))) q = d
below_sixteen P a b c d e f g h i j k l m n o p (suc (suc (suc (suc zero)))) q = e
below_sixteen P a b c d e f g h i j k l m n o p (suc (suc (suc (suc (suc zero))))) q = f
below_sixteen P a b c d e f g h i j k l m n o p (suc (suc (suc (suc (suc (suc zero)))))) q = g
below_sixteen P a b c d e f g h i j k l m n o p (suc (suc (suc (suc (suc (suc (suc zero))))))) q = h
below_sixteen P a b c d e f g h i j k l m n o p (suc (suc (suc (suc (suc (suc (suc (suc zero)))))))) q = i
below_sixteen P a b c d e f g h i j k l m n o p (suc (suc (suc (suc (suc (suc (suc (suc (suc zero))))))))) q = j
below_sixteen P a b c d e f g h i j k l m n o p (suc (suc (suc (suc (suc (suc (suc (suc (suc (suc zero)))))))))) q = k
below_sixteen P a b c d e f g h i j k l m n o p (suc (suc (suc (suc (suc (suc (suc (suc (suc (suc (suc zero))))))))))) q = l
below_sixteen P a b c d e f g h i j k l m n o p (suc (suc (suc (suc (suc (suc (suc (suc (suc (suc (suc (suc zero)))))))))))) q = m
below_sixteen P a b c d e f g h i j k l m n o p (suc (suc (suc (suc (suc (suc (suc (suc (suc (suc (suc (suc (suc zero))))))))))))) q = n
below_sixteen P a b c d e f g h i j k l m n o p (suc (suc (suc (suc (suc (suc (suc (suc (suc (suc (suc (suc (suc (suc zero)))))))))))))) q = o
below_sixteen P a b c d e f g h i j k l m n o p (suc (suc (suc (suc (suc (suc (suc (suc (suc (suc (suc (suc (suc (suc (suc zero))))))))))))))) q = p
below_sixteen P a b c d e f g h i j k l m n o p (suc (suc (suc (suc (suc (suc (suc (suc (suc (suc (suc (suc (suc (suc (suc (suc r)))))))))))))))) q = absurd (omega arith)

digit_read : (n : ℕ) → n < 16 → digit_value (digit n) ≡ Some n
digit_read = below_sixteen (λ n. digit_value (digit n) ≡ Some n) refl refl refl refl refl refl refl refl refl refl refl refl refl refl refl refl

four_read : (a b c d w x y z : ℕ) (rest us : List ℕ) → digit_value a ≡ Some w → digit_value b ≡ Some x → digit_value c ≡ Some y → digit_value d ≡ Some z → units_in rest ≡ Some us → units_in (a ∷ b ∷ c ∷ d ∷ rest) ≡ Some ((4096 * w + 256 * x + 16 * y + z) ∷ us)
four_read a b c d w x y z rest us p q r s t = rw (p, q, r, s, t) refl

same_unit : (u : ℕ) → u < 65536 → 4096 * (u / 4096 % 16) + 256 * (u / 256 % 16) + 16 * (u / 16 % 16) + u % 16 ≡ u
same_unit u l = omega arith

pub units_read : (us : List ℕ) → All (λ u. u < 65536) us → units_in (words us ++ codes ">") ≡ Some us
units_read [] h = refl
units_read (u ∷ us) h =
    four_read (digit (u / 4096 % 16)) (digit (u / 256 % 16)) (digit (u / 16 % 16)) (digit (u % 16)) (u / 4096 % 16) (u / 256 % 16) (u / 16 % 16) (u % 16) (words us ++ codes ">") us
    (digit_read (u / 4096 % 16) (omega arith)) (digit_read (u / 256 % 16) (omega arith)) (digit_read (u / 16 % 16) (omega arith)) (digit_read (u % 16) (omega arith))
    (units_read us (All-tail (λ v. v < 65536) u us h))
    ∙ ap (λ v. Some (v ∷ us)) (same_unit u (All-head (λ v. v < 65536) u us h))

-- ---- a line

hex_read : (us : List ℕ) → All (λ u. u < 65536) us → hex_in (hex_string us) ≡ Some us
hex_read us h = units_read us h

line_by : (r : Row) (c u : ℕ) (us : List ℕ) → hex_in r.code ≡ Some (c ∷ []) → hex_in r.target ≡ Some (u ∷ us) → line_in r ≡ Some (record { code = c; units = u ∷ us })
line_by r c u us p q = rw (p, q) refl

code_read : (c : ℕ) → c < 65536 → hex_in (hex_string (c ∷ [])) ≡ Some (c ∷ [])
code_read c l = hex_read (c ∷ []) (All-cons (λ v. v < 65536) c [] l (All-nil (λ v. v < 65536)))

line_read_units : (c : ℕ) (us : List ℕ) → c < 65536 → 0 < length us → All (λ u. u < 65536) us → line_in (line_row (record { code = c; units = us })) ≡ Some (record { code = c; units = us })
line_read_units c [] l m h = absurd (omega arith)
line_read_units c (u ∷ us) l m h = line_by (line_row (record { code = c; units = u ∷ us })) c u us (code_read c l) (hex_read (u ∷ us) h)

pub line_read : (l : Line) → IsLine l → line_in (line_row l) ≡ Some l
line_read l h = line_read_units l.code l.units h.code h.some h.units

-- ---- a pair

pair_by : (r : Row) (c n : ℕ) → hex_in r.code ≡ Some (c ∷ []) → number_in r.target ≡ Some n → pair_in r ≡ Some (record { code = c; cid = n })
pair_by r c n p q = rw (p, q) refl

pub pair_read : (p : Pair) → IsPair p → pair_in (pair_row p) ≡ Some p
pair_read p h =
    let small : p.cid < 65536 = h.cid in
    pair_by (pair_row p) p.code p.cid (code_read p.code h.code) (number_read p.cid (omega arith))

-- ---- a count

counted : (t : List ℕ) (n : ℕ) → number_in t ≡ Some n → nat_le n 100 ≡ true → count_in t ≡ Some n
counted t n p q = rw (p, q) refl

within_hundred : (n : ℕ) → n ≤ 100 → nat_le n 100 ≡ true
within_hundred n l = grind (arith, nat_tests)

pub count_read : (n : ℕ) → n ≤ 100 → count_in (decimal n) ≡ Some n
count_read n l = counted (decimal n) n (number_read n (omega arith)) (within_hundred n l)
