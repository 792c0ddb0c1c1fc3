-- What was written, read afresh.
use Rattle.std.proofs.Common.{◌≡◌, ℕ, suc, ◌+◌, ◌-◌, ◌^◌, ◌<◌, ◌≤◌, Bool, true, false, List, [], ◌∷◌, ◌++◌, length, take, drop, Some, None, refl, sym, ap, ◌∙◌, append_assoc, lit<, arith, ℤ, pos, negsuc, w16}
use Rattle.std.specs.Prelude.{◌==◌, ◌&&◌, nat_lt, nat_le, if◌then◌else◌, ◌+ℤ◌, ◌-ℤ◌, neg_ℤ, IsTrue}
use Rattle.std.specs.List.{list_all}
use Rattle.std.specs.Int.{to_be_bytes, cast_signed, cast_unsigned}
use Rattle.std.proofs.lemmas.Bool.{eqb-true, ltb-true, lt-ltb, leb-true, le-leb, eq-eqb, ne_eqb}
use Rattle.std.proofs.lemmas.List.{take_at, drop_at, length-append, append-nil}
use Rattle.std.proofs.lemmas.Int.{to_z-of_z, to_z_pos, ints}
use mir.Val.{SFits}
use Rattle.subsetter_base.proofs.ByteLemmas.{be-u8, be-u16, number_at}
use Rattle.subsetter_base.specs.Options.{◌>>=◌}
use Rattle.subsetter_points.specs.declared.outline.Point.{Point}
use Rattle.subsetter_points.specs.declared.lists.flags.Run.{Run}
use Rattle.subsetter_points.specs.declared.lists.deltas.Encoding.{Encoding}
use Rattle.subsetter_points.specs.declared.lists.deltas.Encoding.TheVariants.{Same, Positive, Negative, Word}
use Rattle.subsetter_points.specs.Simple.{Outline, all_points, has_16_bits, byte, word, end_at, ends, count, contours, repeats_at, next, flags, encoding_of, delta_at, in_16_bits, coordinate, coordinates, xs, ys, points, points_at, body_at, after, parts_at, description_at, header_at, parts, simple, shortest_encoding, encoded_delta, flag_of, flag_bytes, delta_bytes, xs_of, ys_of, box, end_bytes, point_bytes, parts_bytes, ends_of, simple_bytes, deltas_fit, points_fit, fits, are_ends}
use Rattle.subsetter_base.specs.Bytes.{has_flag}
use Rattle.subsetter_points.proofs.ReadLemmas.{onto, flags_suc, ends_suc, coordinates_cons, parts_of_bytes}

-- ---- tests

pub both : (a b : Bool) → a && b ≡ true → (a ≡ true) × (b ≡ true)
both true b e = (refl, e)
both false b e = absurd cc

-- ---- bytes and words

pub byte_back : (b : ℕ) (rest : List ℕ) → byte (b ∷ rest) ≡ Some (b, rest)
byte_back b rest = ap (λ o. o >>= λ n. Some (n, rest)) (number_at (b ∷ rest) [] (b ∷ []) rest 0 1 b refl refl refl (be-u8 b))

pub word_back : (n : ℕ) (rest : List ℕ) → n < 2 ^ 16 → word (to_be_bytes w16 n ++ rest) ≡ Some (n, rest)
word_back n rest h = ap (λ o. o >>= λ m. Some (m, rest)) (number_at (to_be_bytes w16 n ++ rest) [] (to_be_bytes w16 n) rest 0 2 n refl refl refl (be-u16 n h))

-- ---- steps

fits_16 : (z : ℤ) → has_16_bits z ≡ true → SFits w16 z
fits_16 (pos n) e = record { sfits = ltb-true n 0x8000 e }
fits_16 (negsuc n) e = record { sfits = ltb-true n 0x8000 e }

positive_back : (n : ℕ) (rest : List ℕ) (a b : Bool) → (n == 0) ≡ a → n < 0x8000
    → delta_at (if a then Same else (if b then Positive else Word)) (encoded_delta (if a then Same else (if b then Positive else Word)) (pos n) ++ rest) ≡ Some (pos n, rest)
positive_back n rest true b e h = ap (λ k. Some (pos k, rest)) (sym (eqb-true n 0 e))
positive_back n rest false true e h = ap (λ o. o >>= λ s. Some (pos s.0, s.1)) (byte_back n rest)
positive_back n rest false false e h = ap (λ o. o >>= λ s. Some (cast_signed w16 s.0, s.1)) (word_back n rest (omega arith)) ∙ ap (λ z. Some (z, rest)) (to_z_pos w16 n h)

negative_back : (n : ℕ) (rest : List ℕ) (b : Bool) → SFits w16 (negsuc n)
    → delta_at (if b then Negative else Word) (encoded_delta (if b then Negative else Word) (negsuc n) ++ rest) ≡ Some (negsuc n, rest)
negative_back n rest true f = ap (λ o. o >>= λ s. Some (neg_ℤ (pos s.0), s.1)) (byte_back (suc n) rest)
negative_back n rest false f = ap (λ o. o >>= λ s. Some (cast_signed w16 s.0, s.1)) (word_back (cast_unsigned w16 (negsuc n)) rest (omega arith)) ∙ ap (λ z. Some (z, rest)) (to_z-of_z w16 (negsuc n) f)

pub delta_back : (d : ℤ) (rest : List ℕ) → has_16_bits d ≡ true → delta_at (shortest_encoding d) (encoded_delta (shortest_encoding d) d ++ rest) ≡ Some (d, rest)
delta_back (pos n) rest e = positive_back n rest (n == 0) (nat_lt n 256) refl (ltb-true n 0x8000 e)
delta_back (negsuc n) rest e = negative_back n rest (nat_lt n 255) (fits_16 (negsuc n) e)

-- ---- flags

-- what a flag that was written says
pub record Says (flag : ℕ) (on : Bool) (x y : Encoding) : Type 0 where
  pub single : has_flag flag 0x08 ≡ false
  pub curve : has_flag flag 0x01 ≡ on
  pub x_encoding : encoding_of 0x02 0x10 flag ≡ x
  pub y_encoding : encoding_of 0x04 0x20 flag ≡ y

pub flag_back : (overlap on : Bool) (x y : Encoding) → Says (flag_of overlap on x y) on x y
flag_back true true Same Same = record { single = refl; curve = refl; x_encoding = refl; y_encoding = refl }
flag_back true true Same Positive = record { single = refl; curve = refl; x_encoding = refl; y_encoding = refl }
flag_back true true Same Negative = record { single = refl; curve = refl; x_encoding = refl; y_encoding = refl }
flag_back true true Same Word = record { single = refl; curve = refl; x_encoding = refl; y_encoding = refl }
flag_back true true Positive Same = record { single = refl; curve = refl; x_encoding = refl; y_encoding = refl }
flag_back true true Positive Positive = record { single = refl; curve = refl; x_encoding = refl; y_encoding = refl }
flag_back true true Positive Negative = record { single = refl; curve = refl; x_encoding = refl; y_encoding = refl }
flag_back true true Positive Word = record { single = refl; curve = refl; x_encoding = refl; y_encoding = refl }
flag_back true true Negative Same = record { single = refl; curve = refl; x_encoding = refl; y_encoding = refl }
flag_back true true Negative Positive = record { single = refl; curve = refl; x_encoding = refl; y_encoding = refl }
flag_back true true Negative Negative = record { single = refl; curve = refl; x_encoding = refl; y_encoding = refl }
flag_back true true Negative Word = record { single = refl; curve = refl; x_encoding = refl; y_encoding = refl }
flag_back true true Word Same = record { single = refl; curve = refl; x_encoding = refl; y_encoding = refl }
flag_back true true Word Positive = record { single = refl; curve = refl; x_encoding = refl; y_encoding = refl }
flag_back true true Word Negative = record { single = refl; curve = refl; x_encoding = refl; y_encoding = refl }
flag_back true true Word Word = record { single = refl; curve = refl; x_encoding = refl; y_encoding = refl }
flag_back true false Same Same = record { single = refl; curve = refl; x_encoding = refl; y_encoding = refl }
flag_back true false Same Positive = record { single = refl; curve = refl; x_encoding = refl; y_encoding = refl }
flag_back true false Same Negative = record { single = refl; curve = refl; x_encoding = refl; y_encoding = refl }
flag_back true false Same Word = record { single = refl; curve = refl; x_encoding = refl; y_encoding = refl }
flag_back true false Positive Same = record { single = refl; curve = refl; x_encoding = refl; y_encoding = refl }
flag_back true false Positive Positive = record { single = refl; curve = refl; x_encoding = refl; y_encoding = refl }
flag_back true false Positive Negative = record { single = refl; curve = refl; x_encoding = refl; y_encoding = refl }
flag_back true false Positive Word = record { single = refl; curve = refl; x_encoding = refl; y_encoding = refl }
flag_back true false Negative Same = record { single = refl; curve = refl; x_encoding = refl; y_encoding = refl }
flag_back true false Negative Positive = record { single = refl; curve = refl; x_encoding = refl; y_encoding = refl }
flag_back true false Negative Negative = record { single = refl; curve = refl; x_encoding = refl; y_encoding = refl }
flag_back true false Negative Word = record { single = refl; curve = refl; x_encoding = refl; y_encoding = refl }
flag_back true false Word Same = record { single = refl; curve = refl; x_encoding = refl; y_encoding = refl }
flag_back true false Word Positive = record { single = refl; curve = refl; x_encoding = refl; y_encoding = refl }
flag_back true false Word Negative = record { single = refl; curve = refl; x_encoding = refl; y_encoding = refl }
flag_back true false Word Word = record { single = refl; curve = refl; x_encoding = refl; y_encoding = refl }
flag_back false true Same Same = record { single = refl; curve = refl; x_encoding = refl; y_encoding = refl }
flag_back false true Same Positive = record { single = refl; curve = refl; x_encoding = refl; y_encoding = refl }
flag_back false true Same Negative = record { single = refl; curve = refl; x_encoding = refl; y_encoding = refl }
flag_back false true Same Word = record { single = refl; curve = refl; x_encoding = refl; y_encoding = refl }
flag_back false true Positive Same = record { single = refl; curve = refl; x_encoding = refl; y_encoding = refl }
flag_back false true Positive Positive = record { single = refl; curve = refl; x_encoding = refl; y_encoding = refl }
flag_back false true Positive Negative = record { single = refl; curve = refl; x_encoding = refl; y_encoding = refl }
flag_back false true Positive Word = record { single = refl; curve = refl; x_encoding = refl; y_encoding = refl }
flag_back false true Negative Same = record { single = refl; curve = refl; x_encoding = refl; y_encoding = refl }
flag_back false true Negative Positive = record { single = refl; curve = refl; x_encoding = refl; y_encoding = refl }
flag_back false true Negative Negative = record { single = refl; curve = refl; x_encoding = refl; y_encoding = refl }
flag_back false true Negative Word = record { single = refl; curve = refl; x_encoding = refl; y_encoding = refl }
flag_back false true Word Same = record { single = refl; curve = refl; x_encoding = refl; y_encoding = refl }
flag_back false true Word Positive = record { single = refl; curve = refl; x_encoding = refl; y_encoding = refl }
flag_back false true Word Negative = record { single = refl; curve = refl; x_encoding = refl; y_encoding = refl }
flag_back false true Word Word = record { single = refl; curve = refl; x_encoding = refl; y_encoding = refl }
flag_back false false Same Same = record { single = refl; curve = refl; x_encoding = refl; y_encoding = refl }
flag_back false false Same Positive = record { single = refl; curve = refl; x_encoding = refl; y_encoding = refl }
flag_back false false Same Negative = record { single = refl; curve = refl; x_encoding = refl; y_encoding = refl }
flag_back false false Same Word = record { single = refl; curve = refl; x_encoding = refl; y_encoding = refl }
flag_back false false Positive Same = record { single = refl; curve = refl; x_encoding = refl; y_encoding = refl }
flag_back false false Positive Positive = record { single = refl; curve = refl; x_encoding = refl; y_encoding = refl }
flag_back false false Positive Negative = record { single = refl; curve = refl; x_encoding = refl; y_encoding = refl }
flag_back false false Positive Word = record { single = refl; curve = refl; x_encoding = refl; y_encoding = refl }
flag_back false false Negative Same = record { single = refl; curve = refl; x_encoding = refl; y_encoding = refl }
flag_back false false Negative Positive = record { single = refl; curve = refl; x_encoding = refl; y_encoding = refl }
flag_back false false Negative Negative = record { single = refl; curve = refl; x_encoding = refl; y_encoding = refl }
flag_back false false Negative Word = record { single = refl; curve = refl; x_encoding = refl; y_encoding = refl }
flag_back false false Word Same = record { single = refl; curve = refl; x_encoding = refl; y_encoding = refl }
flag_back false false Word Positive = record { single = refl; curve = refl; x_encoding = refl; y_encoding = refl }
flag_back false false Word Negative = record { single = refl; curve = refl; x_encoding = refl; y_encoding = refl }
flag_back false false Word Word = record { single = refl; curve = refl; x_encoding = refl; y_encoding = refl }

next_back : (old flag : ℕ) (rest : List ℕ) → has_flag flag 0x08 ≡ false → next (record { flag = old; repeats = 0 }) (flag ∷ rest) ≡ Some (record { flag = flag; repeats = 0 }, rest)
next_back old flag rest e =
    ap (λ o. o >>= λ f. repeats_at f.0 f.1 >>= λ a. Some (record { flag = f.0; repeats = a.0 }, a.1)) (byte_back flag rest)
    ∙ ap (λ b. (if b then byte rest else Some (0, rest)) >>= λ a. Some (record { flag = flag; repeats = a.0 }, a.1)) e

pub flags_back : (old : ℕ) (overlap : Bool) (x y : ℤ) (ps : List Point) (rest : List ℕ) → flags (length ps) (record { flag = old; repeats = 0 }) (flag_bytes overlap x y ps ++ rest) ≡ Some (flag_bytes overlap x y ps, rest)
unfolding flags flag_bytes
flags_back old overlap x y [] rest = refl
flags_back old overlap x y (p ∷ ps) rest =
    let f = flag_of overlap p.on_curve (shortest_encoding (p.x -ℤ x)) (shortest_encoding (p.y -ℤ y)) in
    let says = flag_back overlap p.on_curve (shortest_encoding (p.x -ℤ x)) (shortest_encoding (p.y -ℤ y)) in
    flags_suc (length ps) (record { flag = old; repeats = 0 }) (f ∷ (flag_bytes false p.x p.y ps ++ rest)) (record { flag = f; repeats = 0 }, flag_bytes false p.x p.y ps ++ rest) (next_back old f (flag_bytes false p.x p.y ps ++ rest) says.single)
    ∙ ap (onto f) (flags_back f false p.x p.y ps rest)

-- ---- coordinates

-- each flag says how the delta to its coordinate is encoded
abbrev AllSay : ℕ → ℕ → ℤ → List ℕ → List ℤ → Type 0
AllSay short same v [] [] = Unit {0}
AllSay short same v (flag ∷ flags) (x ∷ xs) = (encoding_of short same flag ≡ shortest_encoding (x -ℤ v)) × AllSay short same x flags xs
AllSay short same v _ _ = ⊥

there : (v x : ℤ) → v +ℤ (x -ℤ v) ≡ x
there v x = omega (arith, ints)

coordinate_back : (short same flag : ℕ) (v x : ℤ) (rest : List ℕ) → encoding_of short same flag ≡ shortest_encoding (x -ℤ v) → has_16_bits x ≡ true → has_16_bits (x -ℤ v) ≡ true
    → coordinate short same v flag (encoded_delta (shortest_encoding (x -ℤ v)) (x -ℤ v) ++ rest) ≡ Some (x, rest)
coordinate_back short same flag v x rest s a b =
    let d = x -ℤ v in
    ap (λ f. delta_at f (encoded_delta (shortest_encoding d) d ++ rest) >>= λ by. in_16_bits (v +ℤ by.0) >>= λ z. Some (z, by.1)) s
    ∙ ap (λ o. o >>= λ by. in_16_bits (v +ℤ by.0) >>= λ z. Some (z, by.1)) (delta_back d rest b)
    ∙ ap (λ w. in_16_bits w >>= λ z. Some (z, rest)) (there v x)
    ∙ ap (λ t. (if t then Some x else None) >>= λ z. Some (z, rest)) a

pub coordinates_back : (short same : ℕ) (v : ℤ) (fs : List ℕ) (zs : List ℤ) (rest : List ℕ) → AllSay short same v fs zs → deltas_fit v zs ≡ true
    → coordinates short same v fs (delta_bytes v zs ++ rest) ≡ Some (zs, rest)
unfolding coordinates delta_bytes deltas_fit
coordinates_back short same v [] [] rest says e = refl
coordinates_back short same v (f ∷ fs) (z ∷ zs) rest says e =
    let first = both (has_16_bits z) (has_16_bits (z -ℤ v) && deltas_fit z zs) e in
    let second = both (has_16_bits (z -ℤ v)) (deltas_fit z zs) first.1 in
    let d = z -ℤ v in
    ap (coordinates short same v (f ∷ fs)) (append_assoc (encoded_delta (shortest_encoding d) d) (delta_bytes z zs) rest)
    ∙ coordinates_cons short same f v fs (encoded_delta (shortest_encoding d) d ++ (delta_bytes z zs ++ rest)) (z, delta_bytes z zs ++ rest) (coordinate_back short same f v z (delta_bytes z zs ++ rest) says.0 first.0 second.0)
    ∙ ap (onto z) (coordinates_back short same z fs zs rest says.1 second.1)
coordinates_back short same v [] (z ∷ zs) rest says e = absurd says
coordinates_back short same v (f ∷ fs) [] rest says e = absurd says

say_xs : (overlap : Bool) (x y : ℤ) (ps : List Point) → AllSay 0x02 0x10 x (flag_bytes overlap x y ps) (xs_of ps)
unfolding flag_bytes
say_xs overlap x y [] = tt
say_xs overlap x y (p ∷ ps) = ((flag_back overlap p.on_curve (shortest_encoding (p.x -ℤ x)) (shortest_encoding (p.y -ℤ y))).x_encoding, say_xs false p.x p.y ps)

say_ys : (overlap : Bool) (x y : ℤ) (ps : List Point) → AllSay 0x04 0x20 y (flag_bytes overlap x y ps) (ys_of ps)
unfolding flag_bytes
say_ys overlap x y [] = tt
say_ys overlap x y (p ∷ ps) = ((flag_back overlap p.on_curve (shortest_encoding (p.x -ℤ x)) (shortest_encoding (p.y -ℤ y))).y_encoding, say_ys false p.x p.y ps)

-- ---- points

pub points_back : (overlap : Bool) (x y : ℤ) (ps : List Point) → points (flag_bytes overlap x y ps) (xs_of ps) (ys_of ps) ≡ ps
unfolding points flag_bytes
points_back overlap x y [] = refl
points_back overlap x y (p ∷ ps) =
    let says = flag_back overlap p.on_curve (shortest_encoding (p.x -ℤ x)) (shortest_encoding (p.y -ℤ y)) in
    ap (λ b. record { x = p.x; y = p.y; on_curve = b } ∷ points (flag_bytes false p.x p.y ps) (xs_of ps) (ys_of ps)) says.curve ∙ ap (λ l. p ∷ l) (points_back false p.x p.y ps)

pub points_at_back : (ps : List Point) (rest : List ℕ) → points_fit ps ≡ true → points_at (length ps) (point_bytes ps ++ rest) ≡ Some ps
unfolding points_at
points_at_back ps rest e =
    let fs = flag_bytes true (pos 0) (pos 0) ps in
    let sx = delta_bytes (pos 0) (xs_of ps) in
    let sy = delta_bytes (pos 0) (ys_of ps) in
    let a = both (nat_lt (length ps) 0x10000) (deltas_fit (pos 0) (xs_of ps) && deltas_fit (pos 0) (ys_of ps)) e in
    let b = both (deltas_fit (pos 0) (xs_of ps)) (deltas_fit (pos 0) (ys_of ps)) a.1 in
    let none : Run = record { flag = 0; repeats = 0 } in
    let parted : (fs ++ (sx ++ sy)) ++ rest ≡ fs ++ (sx ++ (sy ++ rest)) = append_assoc fs (sx ++ sy) rest ∙ ap (λ l. fs ++ l) (append_assoc sx sy rest) in
    ap (points_at (length ps)) parted
    ∙ ap (λ o. o >>= λ f. xs f.0 f.1 >>= λ x. ys f.0 x.1 >>= λ y. Some (points f.0 x.0 y.0)) (flags_back 0 true (pos 0) (pos 0) ps (sx ++ (sy ++ rest)))
    ∙ ap (λ o. o >>= λ x. ys fs x.1 >>= λ y. Some (points fs x.0 y.0)) (coordinates_back 0x02 0x10 (pos 0) fs (xs_of ps) (sy ++ rest) (say_xs true (pos 0) (pos 0) ps) b.0)
    ∙ ap (λ o. o >>= λ y. Some (points fs (xs_of ps) y.0)) (coordinates_back 0x04 0x20 (pos 0) fs (ys_of ps) rest (say_ys true (pos 0) (pos 0) ps) b.1)
    ∙ ap (λ l. Some l) (points_back true (pos 0) (pos 0) ps)

-- ---- ends

-- ends begin within the points, and their count is that of the points
pub are_ends_count : (from : ℕ) (es : List ℕ) (n : ℕ) → are_ends from es n ≡ true → (from ≤ n) × (count from es ≡ n)
unfolding are_ends
are_ends_count from [] n e =
    let same : from ≡ n = eqb-true from n e in
    (omega arith, same)
are_ends_count from (end ∷ es) n e =
    let a = both (nat_le from end) (are_ends (end + 1) es n) e in
    let le : from ≤ end = leb-true from end a.0 in
    let more = are_ends_count (end + 1) es n a.1 in
    let fits : from ≤ n = omega (arith, more.0) in
    (fits, more.1)

end_back : (from end : ℕ) (rest : List ℕ) → nat_le from end ≡ true → end < 2 ^ 16 → end_at from (to_be_bytes w16 end ++ rest) ≡ Some (end, rest)
end_back from end rest le h =
    ap (λ o. o >>= λ e. if nat_le from e.0 then Some e else None) (word_back end rest h) ∙ ap (λ b. if b then Some (end, rest) else None) le

pub ends_back : (from : ℕ) (es : List ℕ) (n : ℕ) (rest : List ℕ) → are_ends from es n ≡ true → n ≤ 2 ^ 16 → ends (length es) from (end_bytes es ++ rest) ≡ Some (es, rest)
unfolding are_ends ends
ends_back from [] n rest e h = refl
ends_back from (end ∷ es) n rest e h =
    let a = both (nat_le from end) (are_ends (end + 1) es n) e in
    let more = are_ends_count (end + 1) es n a.1 in
    let small : end < 2 ^ 16 = omega (arith, more.0) in
    ap (ends (suc (length es)) from) (append_assoc (to_be_bytes w16 end) (end_bytes es) rest)
    ∙ ends_suc (length es) from (to_be_bytes w16 end ++ (end_bytes es ++ rest)) (end, end_bytes es ++ rest) (end_back from end (end_bytes es ++ rest) a.0 small)
    ∙ ap (onto end) (ends_back (end + 1) es n rest a.1 h)

-- ---- parts

body_back : (rest : List ℕ) → body_at (0 ∷ 0 ∷ rest) ≡ Some rest
body_back rest = ap (λ o. o >>= λ s. after s.0 s.1) (word_back 0 rest (lit< tt)) ∙ ap (λ b. if b then Some rest else None) (le-leb 0 (length rest) (omega arith))

pub parts_at_back : (es : List ℕ) (ps : List Point) (rest : List ℕ) → are_ends 0 es (length ps) ≡ true → points_fit ps ≡ true
    → parts_at (length es) (end_bytes es ++ (0 ∷ 0 ∷ (point_bytes ps ++ rest))) ≡ Some (es, ps)
unfolding parts_at
parts_at_back es ps rest e f =
    let few = both (nat_lt (length ps) 0x10000) (deltas_fit (pos 0) (xs_of ps) && deltas_fit (pos 0) (ys_of ps)) f in
    let lt : length ps < 0x10000 = ltb-true (length ps) 0x10000 few.0 in
    let counted = are_ends_count 0 es (length ps) e in
    ap (λ o. o >>= λ a. body_at a.1 >>= λ body. points_at (count 0 a.0) body >>= λ p. Some (a.0, p)) (ends_back 0 es (length ps) (0 ∷ 0 ∷ (point_bytes ps ++ rest)) e (omega arith))
    ∙ ap (λ o. o >>= λ body. points_at (count 0 es) body >>= λ p. Some (es, p)) (body_back (point_bytes ps ++ rest))
    ∙ ap (λ n. points_at n (point_bytes ps ++ rest) >>= λ p. Some (es, p)) counted.1
    ∙ ap (λ o. o >>= λ p. Some (es, p)) (points_at_back ps rest f)

header_back : (n : ℕ) (p : Point) (ps : List Point) (rest : List ℕ) → n < 0x8000 → header_at (to_be_bytes w16 n ++ (box p ps ++ rest)) ≡ Some (n, rest)
header_back n p ps rest h =
    let bytes = to_be_bytes w16 n ++ (box p ps ++ rest) in
    let long : nat_le 10 (length bytes) ≡ true = le-leb 10 (length bytes) (omega arith) in
    ap (λ o. o >>= λ m. after 10 bytes >>= λ r. if nat_lt m 0x8000 then Some (m, r) else None) (number_at bytes [] (to_be_bytes w16 n) (box p ps ++ rest) 0 2 n refl refl refl (be-u16 n (omega arith)))
    ∙ ap (λ b. (if b then Some (drop 10 bytes) else None) >>= λ r. if nat_lt n 0x8000 then Some (n, r) else None) long
    ∙ ap (λ b. if b then Some (n, rest) else None) (lt-ltb n 0x8000 h)

-- an outline with a point has a contour
some_ends : (es : List ℕ) (n : ℕ) → are_ends 0 es (suc n) ≡ true → length es ≡ 0 → ⊥
unfolding are_ends
some_ends [] n e h = omega (arith, eqb-true 0 (suc n) e)
some_ends (end ∷ es) n e h = omega arith

pub parts_back : (es : List ℕ) (p : Point) (ps : List Point) (rest : List ℕ) → are_ends 0 es (length (p ∷ ps)) ≡ true → points_fit (p ∷ ps) ≡ true → length es < 0x8000
    → parts (parts_bytes es (p ∷ ps) ++ rest) ≡ Some (es, p ∷ ps)
unfolding parts_bytes
parts_back es p ps rest e f few =
    let end = 0 ∷ 0 ∷ (point_bytes (p ∷ ps) ++ rest) in
    let w = to_be_bytes w16 (length es) in
    let whole : parts_bytes es (p ∷ ps) ++ rest ≡ w ++ (box p ps ++ (end_bytes es ++ end)) =
    append_assoc w (box p ps ++ (end_bytes es ++ (0 ∷ 0 ∷ point_bytes (p ∷ ps)))) rest
    ∙ ap (λ l. w ++ l) (append_assoc (box p ps) (end_bytes es ++ (0 ∷ 0 ∷ point_bytes (p ∷ ps))) rest ∙ ap (λ l. box p ps ++ l) (append_assoc (end_bytes es) (0 ∷ 0 ∷ point_bytes (p ∷ ps)) rest)) in
    ap parts whole
    ∙ parts_of_bytes (w ++ (box p ps ++ (end_bytes es ++ end))) (omega (arith, length-append w (box p ps ++ (end_bytes es ++ end))))
    ∙ ap (λ o. o >>= λ h. description_at h.0 h.1) (header_back (length es) p ps (end_bytes es ++ end) few)
    ∙ ap (λ b. if b then Some ([], []) else parts_at (length es) (end_bytes es ++ end)) (ne_eqb (length es) 0 (some_ends es (length ps) e))
    ∙ parts_at_back es (p ∷ ps) rest e f

-- ---- contours

pub ends_of_length : (from : ℕ) (o : Outline) → length (ends_of from o) ≡ length o
unfolding ends_of
ends_of_length from [] = refl
ends_of_length from (c ∷ o) = ap suc (ends_of_length (from + length c) o)

following_end : (from n : ℕ) → 0 < n → from + n - 1 + 1 ≡ from + n
following_end from n h = omega arith

size_of : (from n : ℕ) → 0 < n → from + n - 1 + 1 - from ≡ n
size_of from n h = omega arith

abbrev has_points : List Point → Bool
has_points c = nat_lt 0 (length c)

pub contours_back : (from : ℕ) (o : Outline) → list_all has_points o ≡ true → contours from (ends_of from o) (all_points o) ≡ o
unfolding contours ends_of
contours_back from [] e = refl
contours_back from (c ∷ o) e =
    let a = both (has_points c) (list_all has_points o) e in
    let some : 0 < length c = ltb-true 0 (length c) a.0 in
    let rest = all_points o in
    ap (λ k. take k (c ++ rest) ∷ contours (from + length c - 1 + 1) (ends_of (from + length c) o) (drop k (c ++ rest))) (size_of from (length c) some)
    ∙ ap (λ l. l ∷ contours (from + length c - 1 + 1) (ends_of (from + length c) o) (drop (length c) (c ++ rest))) (take_at c rest (length c) refl)
    ∙ ap (λ l. c ∷ contours (from + length c - 1 + 1) (ends_of (from + length c) o) l) (drop_at c rest (length c) refl)
    ∙ ap (λ k. c ∷ contours k (ends_of (from + length c) o) rest) (following_end from (length c) some)
    ∙ ap (λ l. c ∷ l) (contours_back (from + length c) o a.1)

pub are_ends_of : (from n : ℕ) (o : Outline) → list_all has_points o ≡ true → from + length (all_points o) ≡ n → are_ends from (ends_of from o) n ≡ true
unfolding are_ends ends_of
are_ends_of from n [] e s = eq-eqb from n (omega (arith, s))
are_ends_of from n (c ∷ o) e s =
    let a = both (has_points c) (list_all has_points o) e in
    let some : 0 < length c = ltb-true 0 (length c) a.0 in
    let more : from + length c + length (all_points o) ≡ n = omega (arith, s, length-append c (all_points o)) in
    ap (λ b. b && are_ends (from + length c - 1 + 1) (ends_of (from + length c) o) n) (le-leb from (from + length c - 1) (omega arith))
    ∙ ap (λ k. are_ends k (ends_of (from + length c) o) n) (following_end from (length c) some)
    ∙ are_ends_of (from + length c) n o a.1 more

-- ---- the laws

from_parts : (bytes : List ℕ) (es : List ℕ) (ps : List Point) (o : Outline) → parts bytes ≡ Some (es, ps) → contours 0 es ps ≡ o → simple bytes ≡ Some o
from_parts bytes es ps o e s = ap (λ p. p >>= λ q. Some (contours 0 q.0 q.1)) e ∙ ap (λ l. Some l) s

law_of : (o : Outline) (points : List Point) (rest : List ℕ) → all_points o ≡ points → 0 < length points → length (ends_of 0 o) < 0x8000 → are_ends 0 (ends_of 0 o) (length points) ≡ true → points_fit points ≡ true → contours 0 (ends_of 0 o) points ≡ o
    → simple (parts_bytes (ends_of 0 o) points ++ rest) ≡ Some o
law_of o [] rest a some few e f c = absurd (omega arith)
law_of o (p ∷ ps) rest a some few e f c = from_parts (parts_bytes (ends_of 0 o) (p ∷ ps) ++ rest) (ends_of 0 o) (p ∷ ps) o (parts_back (ends_of 0 o) p ps rest e f few) c

-- an outline with points that fits, with anything after it
pub reads_back_before : (o : Outline) (rest : List ℕ) → IsTrue (fits o) → 0 < length o → simple (simple_bytes o ++ rest) ≡ Some o
reads_back_before [] rest h some = absurd (omega arith)
reads_back_before (c ∷ o) rest h some =
    let e : fits (c ∷ o) ≡ true = h in
    let a = both (nat_lt (length (c ∷ o)) 0x8000) (list_all has_points (c ∷ o) && points_fit (all_points (c ∷ o))) e in
    let b = both (list_all has_points (c ∷ o)) (points_fit (all_points (c ∷ o))) a.1 in
    let d = both (has_points c) (list_all has_points o) b.0 in
    let first : 0 < length c = ltb-true 0 (length c) d.0 in
    let few : length (c ∷ o) < 0x8000 = ltb-true (length (c ∷ o)) 0x8000 a.0 in
    law_of (c ∷ o) (all_points (c ∷ o)) rest refl (omega (arith, length-append c (all_points o))) (omega (arith, ends_of_length 0 (c ∷ o)))
    (are_ends_of 0 (length (all_points (c ∷ o))) (c ∷ o) b.0 (omega arith)) b.1 (contours_back 0 (c ∷ o) b.0)

pub reads_back : (o : Outline) → IsTrue (fits o) → simple (simple_bytes o) ≡ Some o
unfolding parts parts_bytes contours ends_of
reads_back [] h = refl
reads_back (c ∷ o) h = ap simple (sym (append-nil (simple_bytes (c ∷ o)))) ∙ reads_back_before (c ∷ o) [] h (omega arith)
