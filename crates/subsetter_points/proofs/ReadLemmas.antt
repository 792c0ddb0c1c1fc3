-- What is left to read, after what was read: the step of each loop that reads.
use Rattle.std.proofs.Common.{◌≡◌, ℕ, suc, ◌+◌, ◌-◌, ◌<◌, List, [], ◌∷◌, ◌++◌, length, get_or, Option, Some, None, refl, sym, ap, ◌∙◌, append_assoc, arith, ℤ}
use Rattle.std.specs.Prelude.{Result, Ok, Err, IfOk, ◌==◌, if◌then◌else◌}
use Rattle.std.proofs.lemmas.List.{append-nil}
use Rattle.std.proofs.lemmas.Bool.{ne_eqb}
use Rattle.std.specs.Option.{option_map}
use Rattle.subsetter_base.specs.Options.{◌>>=◌}
use Rattle.subsetter_points.specs.declared.outline.Point.{Point}
use Rattle.subsetter_points.specs.declared.lists.flags.Run.{Run}
use Rattle.subsetter_points.specs.Simple.{next, flags, end_at, ends, count, coordinate, coordinates, points, contours, header_at, description_at, parts, simple}
use Rattle.subsetter_base.specs.Bytes.{has_flag}
use Rattle.subsetter_points.specs.View.{parts_of, contours_of}
use Rattle.subsetter_points.specs.declared.outline.Outline as code

-- what was read before is in front
abbrev pub with_front : {A : Type 0} → List A → Option (List A × List ℕ) → Option (List A × List ℕ)
with_front front None = None
with_front front (Some p) = Some (front ++ p.0, p.1)

abbrev pub onto : {A : Type 0} → A → Option (List A × List ℕ) → Option (List A × List ℕ)
onto x o = o >>= λ more. Some (x ∷ more.0, more.1)

pub push_front : {A : Type 0} (front : List A) (x : A) (o : Option (List A × List ℕ)) → with_front front (onto x o) ≡ with_front (front ++ x ∷ []) o
push_front front x None = refl
push_front front x (Some p) = ap (λ l. Some (l, p.1)) (sym (append_assoc front (x ∷ []) p.0))

pub no_front : {A : Type 0} (o : Option (List A × List ℕ)) → with_front [] o ≡ o
no_front None = refl
no_front (Some p) = refl

-- ---- flags

pub flags_start : (n : ℕ) (run : Run) (bytes : List ℕ) → flags n run bytes ≡ with_front [] (flags n run bytes)
flags_start n run bytes = sym (no_front (flags n run bytes))

pub flags_suc : (n : ℕ) (run : Run) (bytes : List ℕ) (first : Run × List ℕ) → next run bytes ≡ Some first → flags (suc n) run bytes ≡ onto first.0.flag (flags n first.0 first.1)
unfolding flags
flags_suc n run bytes first e = ap (λ o. o >>= λ f. onto f.0.flag (flags n f.0 f.1)) e

pub flags_more : (front : List ℕ) (n m : ℕ) (run : Run) (bytes : List ℕ) (first : Run × List ℕ) → n ≡ suc m → next run bytes ≡ Some first
    → with_front front (flags n run bytes) ≡ with_front (front ++ first.0.flag ∷ []) (flags m first.0 first.1)
flags_more front n m run bytes first s e =
    ap (λ k. with_front front (flags k run bytes)) s ∙ ap (with_front front) (flags_suc m run bytes first e) ∙ push_front front first.0.flag (flags m first.0 first.1)

pub flags_none : (front : List ℕ) (n m : ℕ) (run : Run) (bytes : List ℕ) → n ≡ suc m → next run bytes ≡ None → with_front front (flags n run bytes) ≡ None
unfolding flags
flags_none front n m run bytes s e = ap (λ k. with_front front (flags k run bytes)) s ∙ ap (λ o. with_front front (o >>= λ f. onto f.0.flag (flags m f.0 f.1))) e

pub flags_end : (front : List ℕ) (run : Run) (bytes : List ℕ) → run.repeats ≡ 0 → with_front front (flags 0 run bytes) ≡ Some (front, bytes)
unfolding flags
flags_end front run bytes e = ap (λ k. with_front front (if k == 0 then Some ([], bytes) else None)) e ∙ ap (λ l. Some (l, bytes)) (append-nil front)

pub flags_bad : (front : List ℕ) (run : Run) (bytes : List ℕ) → (run.repeats ≡ 0 → ⊥) → with_front front (flags 0 run bytes) ≡ None
unfolding flags
flags_bad front run bytes h = ap (λ b. with_front front (if b then Some ([], bytes) else None)) (ne_eqb run.repeats 0 h)

-- ---- ends

pub ends_suc : (n from : ℕ) (bytes : List ℕ) (end : ℕ × List ℕ) → end_at from bytes ≡ Some end → ends (suc n) from bytes ≡ onto end.0 (ends n (end.0 + 1) end.1)
unfolding ends
ends_suc n from bytes end e = ap (λ o. o >>= λ f. onto f.0 (ends n (f.0 + 1) f.1)) e

pub ends_more : (front : List ℕ) (n m from : ℕ) (bytes : List ℕ) (end : ℕ × List ℕ) → n ≡ suc m → end_at from bytes ≡ Some end
    → with_front front (ends n from bytes) ≡ with_front (front ++ end.0 ∷ []) (ends m (end.0 + 1) end.1)
ends_more front n m from bytes end s e =
    ap (λ k. with_front front (ends k from bytes)) s ∙ ap (with_front front) (ends_suc m from bytes end e) ∙ push_front front end.0 (ends m (end.0 + 1) end.1)

pub ends_none : (front : List ℕ) (n m from : ℕ) (bytes : List ℕ) → n ≡ suc m → end_at from bytes ≡ None → with_front front (ends n from bytes) ≡ None
unfolding ends
ends_none front n m from bytes s e = ap (λ k. with_front front (ends k from bytes)) s ∙ ap (λ o. with_front front (o >>= λ f. onto f.0 (ends m (f.0 + 1) f.1))) e

pub ends_end : (front : List ℕ) (n from : ℕ) (bytes : List ℕ) → n ≡ 0 → with_front front (ends n from bytes) ≡ Some (front, bytes)
unfolding ends
ends_end front n from bytes e = ap (λ k. with_front front (ends k from bytes)) e ∙ ap (λ l. Some (l, bytes)) (append-nil front)

-- ---- coordinates

pub coordinates_cons : (short same flag : ℕ) (v : ℤ) (flags bytes : List ℕ) (x : ℤ × List ℕ) → coordinate short same v flag bytes ≡ Some x
    → coordinates short same v (flag ∷ flags) bytes ≡ onto x.0 (coordinates short same x.0 flags x.1)
unfolding coordinates
coordinates_cons short same flag v flags bytes x e = ap (λ o. o >>= λ f. onto f.0 (coordinates short same f.0 flags f.1)) e

pub coordinates_more : (front : List ℤ) (short same flag : ℕ) (v : ℤ) (all flags bytes : List ℕ) (x : ℤ × List ℕ) → all ≡ flag ∷ flags → coordinate short same v flag bytes ≡ Some x
    → with_front front (coordinates short same v all bytes) ≡ with_front (front ++ x.0 ∷ []) (coordinates short same x.0 flags x.1)
coordinates_more front short same flag v all flags bytes x s e =
    ap (λ l. with_front front (coordinates short same v l bytes)) s ∙ ap (with_front front) (coordinates_cons short same flag v flags bytes x e) ∙ push_front front x.0 (coordinates short same x.0 flags x.1)

pub coordinates_none : (front : List ℤ) (short same flag : ℕ) (v : ℤ) (all flags bytes : List ℕ) → all ≡ flag ∷ flags → coordinate short same v flag bytes ≡ None
    → with_front front (coordinates short same v all bytes) ≡ None
unfolding coordinates
coordinates_none front short same flag v all flags bytes s e =
    ap (λ l. with_front front (coordinates short same v l bytes)) s ∙ ap (λ o. with_front front (o >>= λ f. onto f.0 (coordinates short same f.0 flags f.1))) e

pub coordinates_end : (front : List ℤ) (short same : ℕ) (v : ℤ) (all bytes : List ℕ) → all ≡ [] → with_front front (coordinates short same v all bytes) ≡ Some (front, bytes)
unfolding coordinates
coordinates_end front short same v all bytes e = ap (λ l. with_front front (coordinates short same v l bytes)) e ∙ ap (λ l. Some (l, bytes)) (append-nil front)

-- ---- points

pub points_cons : (flag : ℕ) (x y : ℤ) (flags : List ℕ) (xs ys : List ℤ) → points (flag ∷ flags) (x ∷ xs) (y ∷ ys) ≡ record { x = x; y = y; on_curve = has_flag flag 0x01 } ∷ points flags xs ys
unfolding points
points_cons flag x y flags xs ys = refl

pub points_more : (front : List Point) (flag : ℕ) (x y : ℤ) (fs gs : List ℕ) (us bs cs ds : List ℤ) → fs ≡ flag ∷ gs → us ≡ x ∷ bs → cs ≡ y ∷ ds
    → front ++ points fs us cs ≡ (front ++ record { x = x; y = y; on_curve = has_flag flag 0x01 } ∷ []) ++ points gs bs ds
points_more front flag x y fs gs us bs cs ds p q r =
    let one : Point = record { x = x; y = y; on_curve = has_flag flag 0x01 } in
    let e : points fs us cs ≡ one ∷ points gs bs ds = rw (p, q, r) (points_cons flag x y gs bs ds) in
    ap (λ l. front ++ l) e ∙ sym (append_assoc front (one ∷ []) (points gs bs ds))

pub points_end : (front : List Point) (fs : List ℕ) (us cs : List ℤ) → fs ≡ [] → front ++ points fs us cs ≡ front
unfolding points
points_end front fs us cs e = ap (λ l. front ++ points l us cs) e ∙ append-nil front

-- ---- how many points

-- the last of two or more
last_of : (end second : ℕ) (ends : List ℕ) → get_or (end ∷ second ∷ ends) (length (end ∷ second ∷ ends) - 1) 0 ≡ get_or (second ∷ ends) (length (second ∷ ends) - 1) 0
last_of end second ends =
    let a : length (end ∷ second ∷ ends) - 1 ≡ suc (length ends) = omega arith in
    let b : length (second ∷ ends) - 1 ≡ length ends = omega arith in
    ap (λ k. get_or (end ∷ second ∷ ends) k 0) a ∙ sym (ap (λ k. get_or (second ∷ ends) k 0) b)

pub count_last : (from : ℕ) (ends : List ℕ) → 0 < length ends → count from ends ≡ get_or ends (length ends - 1) 0 + 1
count_last from [] h = absurd (omega arith)
count_last from (end ∷ []) h = refl
count_last from (end ∷ second ∷ rest) h = count_last (end + 1) (second ∷ rest) (omega arith) ∙ ap (λ k. k + 1) (sym (last_of end second rest))

-- ---- a simple outline

pub parts_of_bytes : (bytes : List ℕ) → 0 < length bytes → parts bytes ≡ (header_at bytes >>= λ h. description_at h.0 h.1)
unfolding parts
parts_of_bytes [] h = absurd (omega arith)
parts_of_bytes (b ∷ bytes) h = refl

pub parts_of_none : (bytes : List ℕ) → length bytes ≡ 0 → parts bytes ≡ Some ([], [])
unfolding parts
parts_of_none [] h = refl
parts_of_none (b ∷ bytes) h = absurd (omega arith)

-- the contours of the parts that the code read
pub simple_of_parts : (o : Option code.Outline) (bytes : List ℕ) → option_map parts_of o ≡ parts bytes → option_map contours_of o ≡ simple bytes
simple_of_parts None bytes e = ap (λ p. p >>= λ q. Some (contours 0 q.0 q.1)) e
simple_of_parts (Some o) bytes e = ap (λ p. p >>= λ q. Some (contours 0 q.0 q.1)) e

-- what holds of an answer, so does what follows from it
pub if_ok : {X E : Type 0} {P Q : X → Type 0} (r : Result X E) → ((x : X) → P x → Q x) → IfOk r P → IfOk r Q
if_ok (Ok x) f h = f x h
if_ok (Err e) f h = tt

pub if_ok_three : {X E : Type 0} {P Q R S : X → Type 0} (r : Result X E) → ((x : X) → P x → Q x → R x → S x) → IfOk r P → IfOk r Q → IfOk r R → IfOk r S
if_ok_three (Ok x) f h i j = f x h i j
if_ok_three (Err e) f h i j = tt

pub no_columns : points [] [] [] ≡ []
unfolding points
no_columns = refl
