use Rattle.std.proofs.Common.{◌≡◌, ℕ, ◌+◌, ◌*◌, ◌<◌, ◌≤◌, ◌^◌, ◌+ℤ◌, ◌*ℤ◌, List, length, get_or, take, drop, map, arith, pos, ℤ, Option, Some, option_map, IfSome, ap, subst, sym, ◌∙◌, unsigned_abs, FitsSigned, w64}
use Rattle.std.specs.Int.{w8, w16, cast_signed}
use Rattle.std.proofs.lemmas.Int.{ints, to_z-of_z}
use Rattle.std.proofs.lemmas.List.{get_or-take, get_or-map, length-take, take_rest}
use Rattle.std.proofs.lemmas.Bool.{le-leb, lt-leb}
use Rattle.std.proofs.Math.IntN.{*ℤ-zero}
use Rattle.subsetter_variation.specs.Packing.Packed.{deltas_from}
use Rattle.subsetter_variation.proofs.PackingLaws.DeltaRuns.{run_of, zeros, words, zero_run, byte_run, word_run, zeros_at, words_at}
use Rattle.subsetter_variation.proofs.packing.packed_sums.add_run.Goals as goal

-- what a read gives
of_read : (P : List ℤ × List ℕ → Type 0) (o : Option (List ℤ × List ℕ)) (d : List ℤ × List ℕ) → o ≡ Some d → P d → IfSome o P
of_read P o d e p = subst (λ x. IfSome x P) (sym e) p

no_more : (x s z : ℤ) → z ≡ pos 0 → x ≡ x +ℤ s *ℤ z
no_more x s z e = rw e (rw (*ℤ-zero s) (omega (arith, ints)))

nothing : (s z : ℤ) → z ≡ pos 0 → unsigned_abs (s *ℤ z) ≤ 2 ^ 45
nothing s z e = rw e (rw (*ℤ-zero s) (omega (arith, ints)))

byte_there : (n k : ℕ) (bytes : List ℕ) → k < n → n ≤ length bytes → get_or (map (cast_signed w8) (take n bytes)) k (pos 0) ≡ cast_signed w8 (get_or (take n bytes) k 0)
byte_there n k bytes h l = get_or-map (cast_signed w8) (take n bytes) k 0 (pos 0) (omega (arith, length-take n bytes))

word_there : (n k : ℕ) (bytes : List ℕ) → k < n → n * 2 ≤ length bytes → get_or (words n bytes) k (pos 0) ≡ cast_signed w16 (get_or (take (n * 2) bytes) (k * 2) 0 * 256 + get_or (take (n * 2) bytes) (k * 2 + 1) 0)
word_there n k bytes h l =
    words_at n k bytes h l ∙ ap (λ x. cast_signed w16 (x * 256 + get_or bytes (k * 2 + 1) 0)) (sym (get_or-take (n * 2) bytes (k * 2) 0 (omega arith))) ∙ ap (λ x. cast_signed w16 (get_or (take (n * 2) bytes) (k * 2) 0 * 256 + x)) (sym (get_or-take (n * 2) bytes (k * 2 + 1) 0 (omega arith)))

-- the sum by a scalar and a delta under other names
same_sum : (x r s t d e : ℤ) → s ≡ t → e ≡ d → r ≡ x +ℤ s *ℤ d → r ≡ x +ℤ t *ℤ e
same_sum x r s t d e a b h = h ∙ ap (λ y. x +ℤ y *ℤ d) a ∙ ap (λ y. x +ℤ t *ℤ y) (sym b)

same_bound : (s t d e : ℤ) → s ≡ t → e ≡ d → unsigned_abs (s *ℤ d) ≤ 2 ^ 45 → unsigned_abs (t *ℤ e) ≤ 2 ^ 45
same_bound s t d e a b h = subst (λ y. unsigned_abs (t *ℤ y) ≤ 2 ^ 45) (sym b) (subst (λ y. unsigned_abs (y *ℤ d) ≤ 2 ^ 45) a h)

pub returns-then-control-ge-DELTAS_ARE_ZERO-clause-added : goal.returns-then-control-ge-DELTAS_ARE_ZERO-clause-added
returns-then-control-ge-DELTAS_ARE_ZERO-clause-added c =
    let n = length c.args.sums.now in
    of_read _ (deltas_from n (run_of n c.args.control c.args.bytes.now)) (zeros n, c.args.bytes.now) (zero_run n c.args.control c.args.bytes.now (le-leb 128 c.args.control c.if-control-ge-DELTAS_ARE_ZERO.true)) (λ k h. no_more (get_or c.args.sums.now k (pos 0)) c.args.scalar _ (zeros_at n k))

pub returns-then-control-ge-DELTAS_ARE_ZERO-clause-bound : goal.returns-then-control-ge-DELTAS_ARE_ZERO-clause-bound
returns-then-control-ge-DELTAS_ARE_ZERO-clause-bound c =
    let n = length c.args.sums.now in
    of_read _ (deltas_from n (run_of n c.args.control c.args.bytes.now)) (zeros n, c.args.bytes.now) (zero_run n c.args.control c.args.bytes.now (le-leb 128 c.args.control c.if-control-ge-DELTAS_ARE_ZERO.true)) (λ k h. nothing c.args.scalar _ (zeros_at n k))

pub returns-then-control-ge-DELTAS_ARE_WORDS-clause-added : goal.returns-then-control-ge-DELTAS_ARE_WORDS-clause-added
returns-then-control-ge-DELTAS_ARE_WORDS-clause-added c =
    let n = length c.args.sums.now in
    let f : FitsSigned w64 c.args.scalar = c.ranges.scalar in
    of_read _ (deltas_from n (run_of n c.args.control c.args.bytes.now)) (words n c.args.bytes.now, drop (n * 2) c.args.bytes.now) (word_run n c.args.control c.args.bytes.now (lt-leb 128 c.args.control c.if-control-ge-DELTAS_ARE_ZERO.false) (le-leb 64 c.args.control c.if-control-ge-DELTAS_ARE_WORDS.true) (omega arith)) (λ k h. same_sum _ _ _ c.args.scalar _ _ (to_z-of_z w64 c.args.scalar f) (word_there n k c.args.bytes.now h (omega arith)) (c.add_words.ensures.added k h))

pub returns-then-control-ge-DELTAS_ARE_WORDS-clause-bound : goal.returns-then-control-ge-DELTAS_ARE_WORDS-clause-bound
returns-then-control-ge-DELTAS_ARE_WORDS-clause-bound c =
    let n = length c.args.sums.now in
    let f : FitsSigned w64 c.args.scalar = c.ranges.scalar in
    of_read _ (deltas_from n (run_of n c.args.control c.args.bytes.now)) (words n c.args.bytes.now, drop (n * 2) c.args.bytes.now) (word_run n c.args.control c.args.bytes.now (lt-leb 128 c.args.control c.if-control-ge-DELTAS_ARE_ZERO.false) (le-leb 64 c.args.control c.if-control-ge-DELTAS_ARE_WORDS.true) (omega arith)) (λ k h. same_bound _ c.args.scalar _ _ (to_z-of_z w64 c.args.scalar f) (word_there n k c.args.bytes.now h (omega arith)) (c.add_words.ensures.bound k h))

pub returns-clause-added : goal.returns-clause-added
returns-clause-added c =
    let n = length c.args.sums.now in
    let f : FitsSigned w64 c.args.scalar = c.ranges.scalar in
    of_read _ (deltas_from n (run_of n c.args.control c.args.bytes.now)) (map (cast_signed w8) (take n c.args.bytes.now), drop n c.args.bytes.now) (byte_run n c.args.control c.args.bytes.now (lt-leb 128 c.args.control c.if-control-ge-DELTAS_ARE_ZERO.false) (lt-leb 64 c.args.control c.if-control-ge-DELTAS_ARE_WORDS.false) (omega arith)) (λ k h. same_sum _ _ _ c.args.scalar _ _ (to_z-of_z w64 c.args.scalar f) (byte_there n k c.args.bytes.now h (omega arith)) (c.add_bytes.ensures.added k h))

pub returns-clause-bound : goal.returns-clause-bound
returns-clause-bound c =
    let n = length c.args.sums.now in
    let f : FitsSigned w64 c.args.scalar = c.ranges.scalar in
    of_read _ (deltas_from n (run_of n c.args.control c.args.bytes.now)) (map (cast_signed w8) (take n c.args.bytes.now), drop n c.args.bytes.now) (byte_run n c.args.control c.args.bytes.now (lt-leb 128 c.args.control c.if-control-ge-DELTAS_ARE_ZERO.false) (lt-leb 64 c.args.control c.if-control-ge-DELTAS_ARE_WORDS.false) (omega arith)) (λ k h. same_bound _ c.args.scalar _ _ (to_z-of_z w64 c.args.scalar f) (byte_there n k c.args.bytes.now h (omega arith)) (c.add_bytes.ensures.bound k h))

pub returns-then-control-ge-DELTAS_ARE_WORDS-clause-rest : goal.returns-then-control-ge-DELTAS_ARE_WORDS-clause-rest
returns-then-control-ge-DELTAS_ARE_WORDS-clause-rest c =
    let n = length c.args.sums.now in
    ap Some (take_rest c.args.bytes.now (n * 2)) ∙ sym (ap (option_map (λ d. d.1)) (word_run n c.args.control c.args.bytes.now (lt-leb 128 c.args.control c.if-control-ge-DELTAS_ARE_ZERO.false) (le-leb 64 c.args.control c.if-control-ge-DELTAS_ARE_WORDS.true) (omega arith)))

pub returns-clause-rest : goal.returns-clause-rest
returns-clause-rest c =
    let n = length c.args.sums.now in
    ap Some (take_rest c.args.bytes.now n) ∙ sym (ap (option_map (λ d. d.1)) (byte_run n c.args.control c.args.bytes.now (lt-leb 128 c.args.control c.if-control-ge-DELTAS_ARE_ZERO.false) (lt-leb 64 c.args.control c.if-control-ge-DELTAS_ARE_WORDS.false) (omega arith)))
