-- What is read is sound: as many points as the ends say, each after the one before it.
use Rattle.std.proofs.Common.{◌≡◌, ℕ, zero, suc, ◌+◌, Bool, true, false, List, [], ◌∷◌, length, Option, Some, None, refl, sym, ap, ◌∙◌, arith, ℤ, pos}
use Rattle.std.specs.Prelude.{◌==◌, ◌&&◌, nat_le, if◌then◌else◌, IsTrue, IfSome}
use Rattle.std.specs.Option.{option_map}
use Rattle.std.proofs.lemmas.Bool.{eq-eqb}
use Rattle.subsetter_base.specs.Options.{◌>>=◌}
use Rattle.subsetter_points.specs.declared.outline.Point.{Point}
use Rattle.subsetter_points.specs.declared.outline.Outline as code
use Rattle.subsetter_points.specs.declared.lists.flags.Run.{Run}
use Rattle.subsetter_points.specs.declared.outline.Columns.{Columns}
use Rattle.subsetter_points.specs.View.{parts_of, parts_of_columns}
use Rattle.subsetter_points.specs.Simple.{word, end_at, ends, count, next, flags, coordinate, coordinates, xs, ys, points, points_at, body_at, header_at, parts_at, description_at, parts, are_ends}

-- a step that led to something began with something
came : {A B : Type 0} (o : Option A) (f : A → Option B) (b : B) → (o >>= f) ≡ Some b → (a : A) × (o ≡ Some a) × (f a ≡ Some b)
came None f b e = absurd cc
came (Some a) f b e = (a, refl, e)

put_in : {A : Type 0} (x : A) (more out : List A × List ℕ) → Some (x ∷ more.0, more.1) ≡ Some out → out.0 ≡ x ∷ more.0
put_in x more out e = cc

flags_length : (n : ℕ) (run : Run) (bytes : List ℕ) (out : List ℕ × List ℕ) → flags n run bytes ≡ Some out → length out.0 ≡ n
unfolding flags
flags_length zero run bytes out e = by (run.repeats == 0) e
  where
    by : (b : Bool) → (if b then Some ([], bytes) else None) ≡ Some out → length out.0 ≡ 0
    by true h = let same : out.0 ≡ [] = cc in ap length same
    by false h = absurd cc
flags_length (suc n) run bytes out e =
    let a = came (next run bytes) (λ f. flags n f.0 f.1 >>= λ m. Some (f.0.flag ∷ m.0, m.1)) out e in
    let b = came (flags n a.0.0 a.0.1) (λ m. Some (a.0.0.flag ∷ m.0, m.1)) out a.2 in
    ap length (put_in a.0.0.flag b.0 out b.2) ∙ ap suc (flags_length n a.0.0 a.0.1 b.0 b.1)

coordinates_length : (short same : ℕ) (v : ℤ) (fs bytes : List ℕ) (out : List ℤ × List ℕ) → coordinates short same v fs bytes ≡ Some out → length out.0 ≡ length fs
unfolding coordinates
coordinates_length short same v [] bytes out e = let none : out.0 ≡ [] = cc in ap length none
coordinates_length short same v (f ∷ fs) bytes out e =
    let a = came (coordinate short same v f bytes) (λ x. coordinates short same x.0 fs x.1 >>= λ m. Some (x.0 ∷ m.0, m.1)) out e in
    let b = came (coordinates short same a.0.0 fs a.0.1) (λ m. Some (a.0.0 ∷ m.0, m.1)) out a.2 in
    ap length (put_in a.0.0 b.0 out b.2) ∙ ap suc (coordinates_length short same a.0.0 fs a.0.1 b.0 b.1)

pub points_length : (fs : List ℕ) (us vs : List ℤ) → length us ≡ length fs → length vs ≡ length fs → length (points fs us vs) ≡ length fs
unfolding points
points_length [] us vs a b = refl
points_length (f ∷ fs) [] vs a b = absurd (omega arith)
points_length (f ∷ fs) (u ∷ us) [] a b = absurd (omega arith)
points_length (f ∷ fs) (u ∷ us) (v ∷ vs) a b = ap suc (points_length fs us vs (omega arith) (omega arith))

points_at_length : (n : ℕ) (bytes : List ℕ) (ps : List Point) → points_at n bytes ≡ Some ps → length ps ≡ n
unfolding points_at
points_at_length n bytes ps e =
    let none : Run = record { flag = 0; repeats = 0 } in
    let a = came (flags n none bytes) (λ f. xs f.0 f.1 >>= λ x. ys f.0 x.1 >>= λ y. Some (points f.0 x.0 y.0)) ps e in
    let b = came (xs a.0.0 a.0.1) (λ x. ys a.0.0 x.1 >>= λ y. Some (points a.0.0 x.0 y.0)) ps a.2 in
    let c = came (ys a.0.0 b.0.1) (λ y. Some (points a.0.0 b.0.0 y.0)) ps b.2 in
    let is : points a.0.0 b.0.0 c.0.0 ≡ ps = cc (c.2) in
    ap length (sym is) ∙ points_length a.0.0 b.0.0 c.0.0 (coordinates_length 0x02 0x10 (pos 0) a.0.0 a.0.1 b.0 b.1) (coordinates_length 0x04 0x20 (pos 0) a.0.0 b.0.1 c.0 c.1)
    ∙ flags_length n none bytes a.0 a.1

end_past : (from : ℕ) (bytes : List ℕ) (end : ℕ × List ℕ) → end_at from bytes ≡ Some end → nat_le from end.0 ≡ true
end_past from bytes end e =
    let a = came (word bytes) (λ f. if nat_le from f.0 then Some f else None) end e in by (nat_le from a.0.0) a.0 refl a.2
  where
    by : (b : Bool) (f : ℕ × List ℕ) → nat_le from f.0 ≡ b → (if b then Some f else None) ≡ Some end → nat_le from end.0 ≡ true
    by true f t h = let same : f ≡ end = cc in ap (λ (g : ℕ × List ℕ). nat_le from g.0) (sym same) ∙ t
    by false f t h = absurd cc

ends_sound : (n from : ℕ) (bytes : List ℕ) (out : List ℕ × List ℕ) → ends n from bytes ≡ Some out → are_ends from out.0 (count from out.0) ≡ true
unfolding ends are_ends
ends_sound zero from bytes out e =
    let none : out.0 ≡ [] = cc in
    ap (λ (l : List ℕ). are_ends from l (count from l)) none ∙ eq-eqb from from refl
ends_sound (suc n) from bytes out e =
    let a = came (end_at from bytes) (λ f. ends n (f.0 + 1) f.1 >>= λ m. Some (f.0 ∷ m.0, m.1)) out e in
    let b = came (ends n (a.0.0 + 1) a.0.1) (λ m. Some (a.0.0 ∷ m.0, m.1)) out a.2 in
    let rest = ends_sound n (a.0.0 + 1) a.0.1 b.0 b.1 in
    ap (λ (l : List ℕ). are_ends from l (count from l)) (put_in a.0.0 b.0 out b.2)
    ∙ ap (λ t. t && are_ends (a.0.0 + 1) b.0.0 (count (a.0.0 + 1) b.0.0)) (end_past from bytes a.0 a.1) ∙ rest

parts_at_sound : (n : ℕ) (bytes : List ℕ) (out : List ℕ × List Point) → parts_at n bytes ≡ Some out → are_ends 0 out.0 (length out.1) ≡ true
unfolding parts_at
parts_at_sound n bytes out e =
    let a = came (ends n 0 bytes) (λ f. body_at f.1 >>= λ body. points_at (count 0 f.0) body >>= λ p. Some (f.0, p)) out e in
    let b = came (body_at a.0.1) (λ body. points_at (count 0 a.0.0) body >>= λ p. Some (a.0.0, p)) out a.2 in
    let c = came (points_at (count 0 a.0.0) b.0) (λ p. Some (a.0.0, p)) out b.2 in
    let is : (a.0.0, c.0) ≡ out = cc (c.2) in
    ap (λ (o : List ℕ × List Point). are_ends 0 o.0 (length o.1)) (sym is)
    ∙ ap (are_ends 0 a.0.0) (points_at_length (count 0 a.0.0) b.0 c.0 c.1) ∙ ends_sound n 0 bytes a.0 a.1

description_sound : (n : ℕ) (bytes : List ℕ) (out : List ℕ × List Point) → description_at n bytes ≡ Some out → are_ends 0 out.0 (length out.1) ≡ true
unfolding are_ends
description_sound n bytes out e = by (n == 0) e
  where
    by : (b : Bool) → (if b then Some ([], []) else parts_at n bytes) ≡ Some out → are_ends 0 out.0 (length out.1) ≡ true
    by true h = let is : ([], []) ≡ out = cc in ap (λ (o : List ℕ × List Point). are_ends 0 o.0 (length o.1)) (sym is)
    by false h = parts_at_sound n bytes out h

pub parts_sound : (bytes : List ℕ) (out : List ℕ × List Point) → parts bytes ≡ Some out → are_ends 0 out.0 (length out.1) ≡ true
unfolding parts are_ends
parts_sound [] out e =
    let is : ([], []) ≡ out = cc in
    ap (λ (o : List ℕ × List Point). are_ends 0 o.0 (length o.1)) (sym is)
parts_sound (b ∷ bytes) out e =
    let a = came (header_at (b ∷ bytes)) (λ h. description_at h.0 h.1) out e in
    description_sound a.0.0 a.0.1 out a.2

-- of what the code read
pub sound_of_parts : (o : Option code.Outline) (bytes : List ℕ) → option_map parts_of o ≡ parts bytes → IfSome o (λ x. IsTrue (are_ends 0 x.ends.items (length x.points.items)))
sound_of_parts None bytes e = tt
sound_of_parts (Some o) bytes e = parts_sound bytes (parts_of o) (sym e)

pub sound_of_columns : (o : Option Columns) (bytes : List ℕ) → option_map parts_of_columns o ≡ parts bytes → IfSome o (λ c. length c.xs.items ≡ length c.flags.items) → IfSome o (λ c. length c.ys.items ≡ length c.flags.items)
    → IfSome o (λ c. IsTrue (are_ends 0 c.ends.items (length c.flags.items)))
sound_of_columns None bytes e a b = tt
sound_of_columns (Some c) bytes e a b =
    sym (ap (are_ends 0 c.ends.items) (points_length c.flags.items c.xs.items c.ys.items a b)) ∙ parts_sound bytes (parts_of_columns c) (sym e)
