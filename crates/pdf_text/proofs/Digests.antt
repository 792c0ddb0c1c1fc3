-- A digest of several bytes at once: each byte counts by a power, and the remainder may be taken last.
use Rattle.std.proofs.Common.{◌≡◌, ◌<◌, ◌≤◌, ℕ, zero, suc, ◌+◌, ◌-◌, ◌*◌, ◌%◌, List, [], ◌∷◌, length, get_or, take, drop, sym, ap, ◌∙◌, arith}
use Rattle.std.specs.List.{fold}
use Rattle.std.proofs.Math.Nat.{mod-add-mod, mod-eq_of_lt}
use Rattle.std.proofs.lemmas.Nat.{mul-mod_first, mul-mod_second}
use Rattle.subsetter_base.proofs.Lists.{rest_of}

-- a power of c, without multiples of m
abbrev pub weight : ℕ → ℕ → ℕ → ℕ
weight m c zero = 1
weight m c (suc k) = weight m c k * c % m

abbrev pub weighed : ℕ → ℕ → List ℕ → ℕ
weighed m c [] = 0
weighed m c (b ∷ bs) = weight m c (length bs) * (b + 1) + weighed m c bs

opened : (w c h b s : ℕ) → w * (c * h + b + 1) + s ≡ w * c * h + (w * (b + 1) + s)
opened w c h b s = grind arith

once : (m w c h b s : ℕ) → (w * ((c * h + b + 1) % m) + s) % m ≡ (w * c % m * h + (w * (b + 1) + s)) % m
once m w c h b s =
    sym (mod-add-mod (w * ((c * h + b + 1) % m)) m s)
    ∙ ap (λ (n : ℕ). (n + s) % m) (mul-mod_second w (c * h + b + 1) m)
    ∙ mod-add-mod (w * (c * h + b + 1)) m s
    ∙ ap (λ (n : ℕ). n % m) (opened w c h b s)
    ∙ sym (mod-add-mod (w * c * h) m (w * (b + 1) + s))
    ∙ ap (λ (n : ℕ). (n + (w * (b + 1) + s)) % m) (sym (mul-mod_first (w * c) h m))
    ∙ mod-add-mod (w * c % m * h) m (w * (b + 1) + s)

pub many : (m c h : ℕ) (bs : List ℕ) → h < m → fold (λ h b. (c * h + b + 1) % m) h bs ≡ (weight m c (length bs) * h + weighed m c bs) % m
many m c h [] l =
    let plain : 1 * h + 0 ≡ h = omega arith in
    sym (ap (λ (n : ℕ). n % m) plain ∙ mod-eq_of_lt l)
many m c h (b ∷ bs) l = many m c ((c * h + b + 1) % m) bs (omega arith) ∙ once m (weight m c (length bs)) c h b (weighed m c bs)

-- the sixteen bytes at the front
steps : (bs : List ℕ) (h a b c d : ℕ) → 16 ≤ length bs → h < 4294967291 → a ≡ 412560925 * (get_or bs 0 0 + 1) + 1384565098 * (get_or bs 1 0 + 1) + 3943398063 * (get_or bs 2 0 + 1) + 2768719420 * (get_or bs 3 0 + 1) → b ≡ 647177936 * (get_or bs 4 0 + 1) + 990682743 * (get_or bs 5 0 + 1) + 3942737328 * (get_or bs 6 0 + 1) + 3220614473 * (get_or bs 7 0 + 1) → c ≡ 3002971012 * (get_or bs 8 0 + 1) + 3426381976 * (get_or bs 9 0 + 1) + 506879193 * (get_or bs 10 0 + 1) + 1222258819 * (get_or bs 11 0 + 1) → d ≡ 780915824 * (get_or bs 12 0 + 1) + 8261510 * (get_or bs 13 0 + 1) + 65599 * (get_or bs 14 0 + 1) + get_or bs 15 0 + 1 → fold (λ h b. (65599 * h + b + 1) % 4294967291) h bs ≡ fold (λ h b. (65599 * h + b + 1) % 4294967291) ((995218484 * h + (a + b) + (c + d)) % 4294967291) (drop 16 bs)
steps [] h a b c d lt l ea eb ec ed = absurd (omega arith)
steps (b0 ∷ []) h a b c d lt l ea eb ec ed = absurd (omega arith)
steps (b0 ∷ b1 ∷ []) h a b c d lt l ea eb ec ed = absurd (omega arith)
steps (b0 ∷ b1 ∷ b2 ∷ []) h a b c d lt l ea eb ec ed = absurd (omega arith)
steps (b0 ∷ b1 ∷ b2 ∷ b3 ∷ []) h a b c d lt l ea eb ec ed = absurd (omega arith)
steps (b0 ∷ b1 ∷ b2 ∷ b3 ∷ b4 ∷ []) h a b c d lt l ea eb ec ed = absurd (omega arith)
steps (b0 ∷ b1 ∷ b2 ∷ b3 ∷ b4 ∷ b5 ∷ []) h a b c d lt l ea eb ec ed = absurd (omega arith)
steps (b0 ∷ b1 ∷ b2 ∷ b3 ∷ b4 ∷ b5 ∷ b6 ∷ []) h a b c d lt l ea eb ec ed = absurd (omega arith)
steps (b0 ∷ b1 ∷ b2 ∷ b3 ∷ b4 ∷ b5 ∷ b6 ∷ b7 ∷ []) h a b c d lt l ea eb ec ed = absurd (omega arith)
steps (b0 ∷ b1 ∷ b2 ∷ b3 ∷ b4 ∷ b5 ∷ b6 ∷ b7 ∷ b8 ∷ []) h a b c d lt l ea eb ec ed = absurd (omega arith)
steps (b0 ∷ b1 ∷ b2 ∷ b3 ∷ b4 ∷ b5 ∷ b6 ∷ b7 ∷ b8 ∷ b9 ∷ []) h a b c d lt l ea eb ec ed = absurd (omega arith)
steps (b0 ∷ b1 ∷ b2 ∷ b3 ∷ b4 ∷ b5 ∷ b6 ∷ b7 ∷ b8 ∷ b9 ∷ b10 ∷ []) h a b c d lt l ea eb ec ed = absurd (omega arith)
steps (b0 ∷ b1 ∷ b2 ∷ b3 ∷ b4 ∷ b5 ∷ b6 ∷ b7 ∷ b8 ∷ b9 ∷ b10 ∷ b11 ∷ []) h a b c d lt l ea eb ec ed = absurd (omega arith)
steps (b0 ∷ b1 ∷ b2 ∷ b3 ∷ b4 ∷ b5 ∷ b6 ∷ b7 ∷ b8 ∷ b9 ∷ b10 ∷ b11 ∷ b12 ∷ []) h a b c d lt l ea eb ec ed = absurd (omega arith)
steps (b0 ∷ b1 ∷ b2 ∷ b3 ∷ b4 ∷ b5 ∷ b6 ∷ b7 ∷ b8 ∷ b9 ∷ b10 ∷ b11 ∷ b12 ∷ b13 ∷ []) h a b c d lt l ea eb ec ed = absurd (omega arith)
steps (b0 ∷ b1 ∷ b2 ∷ b3 ∷ b4 ∷ b5 ∷ b6 ∷ b7 ∷ b8 ∷ b9 ∷ b10 ∷ b11 ∷ b12 ∷ b13 ∷ b14 ∷ []) h a b c d lt l ea eb ec ed = absurd (omega arith)
steps (b0 ∷ b1 ∷ b2 ∷ b3 ∷ b4 ∷ b5 ∷ b6 ∷ b7 ∷ b8 ∷ b9 ∷ b10 ∷ b11 ∷ b12 ∷ b13 ∷ b14 ∷ b15 ∷ bs) h a b c d lt l ea eb ec ed =
    ap (λ (n : ℕ). fold (λ h b. (65599 * h + b + 1) % 4294967291) n bs) (many 4294967291 65599 h (b0 ∷ b1 ∷ b2 ∷ b3 ∷ b4 ∷ b5 ∷ b6 ∷ b7 ∷ b8 ∷ b9 ∷ b10 ∷ b11 ∷ b12 ∷ b13 ∷ b14 ∷ b15 ∷ []) l ∙ ap (λ (n : ℕ). n % 4294967291) (omega arith))

pub sixteen : (bs : List ℕ) (h a b c d : ℕ) → 16 ≤ length bs → h < 4294967291 → a ≡ 412560925 * (get_or bs 0 0 + 1) + 1384565098 * (get_or bs 1 0 + 1) + 3943398063 * (get_or bs 2 0 + 1) + 2768719420 * (get_or bs 3 0 + 1) → b ≡ 647177936 * (get_or bs 4 0 + 1) + 990682743 * (get_or bs 5 0 + 1) + 3942737328 * (get_or bs 6 0 + 1) + 3220614473 * (get_or bs 7 0 + 1) → c ≡ 3002971012 * (get_or bs 8 0 + 1) + 3426381976 * (get_or bs 9 0 + 1) + 506879193 * (get_or bs 10 0 + 1) + 1222258819 * (get_or bs 11 0 + 1) → d ≡ 780915824 * (get_or bs 12 0 + 1) + 8261510 * (get_or bs 13 0 + 1) + 65599 * (get_or bs 14 0 + 1) + get_or bs 15 0 + 1 → fold (λ h b. (65599 * h + b + 1) % 4294967291) ((995218484 * h + (a + b) + (c + d)) % 4294967291) (take (length bs - 16) (drop 16 bs)) ≡ fold (λ h b. (65599 * h + b + 1) % 4294967291) h bs
sixteen bs h a b c d lt l ea eb ec ed =
    ap (fold (λ h b. (65599 * h + b + 1) % 4294967291) ((995218484 * h + (a + b) + (c + d)) % 4294967291)) (rest_of 16 bs) ∙ sym (steps bs h a b c d lt l ea eb ec ed)
