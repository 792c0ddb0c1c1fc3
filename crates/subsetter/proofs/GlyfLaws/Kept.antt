-- The outlines that are kept, one for each glyph of an order.
use Rattle.std.proofs.Common.{◌≡◌, ℕ, zero, suc, ◌<◌, Bool, true, false, List, [], ◌∷◌, length, get_or, Option, Some, None, Result, Ok, Err, refl, sym, ap, subst, ◌∙◌, ◌⊎◌, inl, inr, arith}
use Rattle.std.specs.Prelude.{Contains}
use Rattle.std.specs.Option.{option_map, ok_or}
use Rattle.subsetter_base.specs.Bytes.{◌>>=◌}
use Rattle.subsetter_base.specs.declared.error.Error.{Error}
use Rattle.subsetter_base.specs.declared.error.Error.TheVariants.{MalformedFont}
use Rattle.subsetter_base.proofs.Results.{bind_ok, bind_err, named_ok, named_err, done_is}
use Rattle.subsetter_base.proofs.Options.{map_some, map_none}
use Rattle.subsetter.specs.Glyf.Read.{Outlines, outline_in}
use Rattle.subsetter.specs.Glyf.BareOutlines.Bare.{requested_parts}
use Rattle.subsetter.specs.Glyf.Parts.{Parts, outline_parts, parts_bytes}
use Rattle.subsetter.specs.Glyf.Plain.{renumbered, rewritten, kept, kept_all}

-- ---- steps that gave something, and steps that failed

-- ---- one outline

-- an outline that is kept has parts, and is written under new numbers
pub record IsKept (t : Outlines) (order : List ℕ) (g : ℕ) (b : List ℕ) : Type 0 where
  pub bytes : List ℕ
  pub there : outline_in t g ≡ Some bytes
  pub parts : Parts
  pub parts_are : requested_parts t.hinting (outline_parts bytes) ≡ Some parts
  pub written : parts_bytes (renumbered order parts) ≡ b

pub is_kept : (t : Outlines) (order : List ℕ) (g : ℕ) (b : List ℕ) → kept t order g ≡ Ok b → IsKept t order g b
unfolding kept rewritten
is_kept t order g b h =
    let a = bind_ok (ok_or (outline_in t g) MalformedFont) (λ bytes. ok_or (option_map (λ p. parts_bytes (renumbered order p)) (requested_parts t.hinting (outline_parts bytes))) MalformedFont) b h in
    let m = map_some (λ p. parts_bytes (renumbered order p)) (requested_parts t.hinting (outline_parts a.0)) b (named_ok (option_map (λ p. parts_bytes (renumbered order p)) (requested_parts t.hinting (outline_parts a.0))) MalformedFont b a.2) in
    record { bytes = a.0; there = named_ok (outline_in t g) MalformedFont a.0 a.1; parts = m.0; parts_are = m.1; written = m.2 }

-- parts that aren't asked for are there
pub none_before : (hint : Bool) (o : Option Parts) → requested_parts hint o ≡ None → o ≡ None
none_before true o h = h
none_before false None h = refl
none_before false (Some p) h = absurd cc

-- and those that are come from some
pub some_before : (hint : Bool) (o : Option Parts) (p : Parts) → requested_parts hint o ≡ Some p → (q : Parts) × (o ≡ Some q)
some_before true o p h = (p, h)
some_before false None p h = absurd cc
some_before false (Some q) p h = (q, refl)

-- a glyph that isn't kept has no outline, or one without parts
pub not_kept : (t : Outlines) (order : List ℕ) (g : ℕ) (e : Error) → kept t order g ≡ Err e → (MalformedFont ≡ e) × ((outline_in t g ≡ None) ⊎ ((bytes : List ℕ) × (outline_in t g ≡ Some bytes) × (outline_parts bytes ≡ None)))
unfolding kept rewritten
not_kept t order g e h =
    elim (bind_err (ok_or (outline_in t g) MalformedFont) (λ bytes. ok_or (option_map (λ p. parts_bytes (renumbered order p)) (requested_parts t.hinting (outline_parts bytes))) MalformedFont) e h) [
      | inl k ↦ let u = named_err (outline_in t g) MalformedFont e k in (u.1, inl u.0)
      | inr k ↦
          let u = named_err (option_map (λ p. parts_bytes (renumbered order p)) (requested_parts t.hinting (outline_parts k.0))) MalformedFont e k.2 in
          (u.1, inr (k.0, named_ok (outline_in t g) MalformedFont k.0 k.1, none_before t.hinting (outline_parts k.0) (map_none (λ p. parts_bytes (renumbered order p)) (requested_parts t.hinting (outline_parts k.0)) u.0)))
    ]

-- ---- all of them

pub kept_at : (t : Outlines) (order gs : List ℕ) (bs : List (List ℕ)) (i : ℕ) → kept_all t order gs ≡ Ok bs → i < length gs → IsKept t order (get_or gs i 0) (get_or bs i [])
kept_at t order [] bs i h lt = absurd (omega arith)
kept_at t order (g ∷ gs) bs zero h lt =
    let a = bind_ok (kept t order g) (λ first. kept_all t order gs >>= λ rest. Ok (first ∷ rest)) bs h in
    let b = bind_ok (kept_all t order gs) (λ rest. Ok (a.0 ∷ rest)) bs a.2 in
    subst (λ (c : List (List ℕ)). IsKept t order g (get_or c 0 [])) (done_is (a.0 ∷ b.0) bs b.2) (is_kept t order g a.0 a.1)
kept_at t order (g ∷ gs) bs (suc i) h lt =
    let a = bind_ok (kept t order g) (λ first. kept_all t order gs >>= λ rest. Ok (first ∷ rest)) bs h in
    let b = bind_ok (kept_all t order gs) (λ rest. Ok (a.0 ∷ rest)) bs a.2 in
    subst (λ (c : List (List ℕ)). IsKept t order (get_or gs i 0) (get_or c (suc i) [])) (done_is (a.0 ∷ b.0) bs b.2) (kept_at t order gs b.0 i b.1 (omega arith))

pub length-kept_all : (t : Outlines) (order gs : List ℕ) (bs : List (List ℕ)) → kept_all t order gs ≡ Ok bs → length bs ≡ length gs
length-kept_all t order [] bs h = ap length (sym (done_is [] bs h))
length-kept_all t order (g ∷ gs) bs h =
    let a = bind_ok (kept t order g) (λ first. kept_all t order gs >>= λ rest. Ok (first ∷ rest)) bs h in
    let b = bind_ok (kept_all t order gs) (λ rest. Ok (a.0 ∷ rest)) bs a.2 in
    ap length (sym (done_is (a.0 ∷ b.0) bs b.2)) ∙ ap suc (length-kept_all t order gs b.0 b.1)

abbrev kept_more : List ℕ → List (List ℕ) → Result (List (List ℕ)) Error
kept_more b x = Ok (b ∷ x)

-- the first that is not kept
pub first_not_kept : (t : Outlines) (order gs : List ℕ) (e : Error) → kept_all t order gs ≡ Err e → (g : ℕ) × Contains gs g × (kept t order g ≡ Err e)
first_not_kept t order [] e h = absurd cc
first_not_kept t order (g ∷ gs) e h =
    elim (bind_err (kept t order g) (λ first. kept_all t order gs >>= λ rest. Ok (first ∷ rest)) e h) [
      | inl k ↦ (g, (0, omega arith, refl), k)
      | inr k ↦ later (λ x. first_not_kept t order gs e x) k.0 (bind_err (kept_all t order gs) (λ rest. Ok (k.0 ∷ rest)) e k.2)
    ]
  where
    later : (kept_all t order gs ≡ Err e → (q : ℕ) × Contains gs q × (kept t order q ≡ Err e)) → (b : List ℕ) → (kept_all t order gs ≡ Err e) ⊎ ((x : List (List ℕ)) × (kept_all t order gs ≡ Ok x) × (kept_more b x ≡ Err e)) → (q : ℕ) × Contains (g ∷ gs) q × (kept t order q ≡ Err e)
    later front b (inl k) = let n = front k in (n.0, (suc n.1.0, omega (arith, n.1.1), n.1.2), n.2)
    later front b (inr k) = absurd cc
