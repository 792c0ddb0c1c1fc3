-- `hhea` and `post` as they vary, and the angle of `post`.
use Rattle.std.proofs.Common.{◌≡◌, ℕ, ◌≤◌, Bool, true, false, cond, All, List, ◌++◌, get_or, length, take, drop, Option, Some, None, Ok, ℤ, pos, refl, sym, ap, subst, ◌∙◌, arith}
use Rattle.std.specs.Prelude.{codes, slice_range, IfSome}
use Rattle.std.specs.List.{list_all}
use Rattle.std.specs.Option.{ok_or}
use Rattle.std.specs.Ordering.{int_eq}
use Rattle.std.proofs.lemmas.Bool.Decides.{Decides-int_eq}
use Rattle.std.proofs.lemmas.List.Sums.{list_all-from_AllPass}
use Rattle.std.proofs.lemmas.List.{length-append, length-drop, length-take, length-take-le}
use Rattle.subsetter_base.specs.Bytes.{◌>>=◌}
use Rattle.subsetter_base.specs.declared.error.Error.TheVariants.{MalformedFont}
use Rattle.subsetter_base.specs.declared.tag.Tag.{Tag}
use Rattle.subsetter_base.proofs.Results.{done_is, bind_ok, named_ok}
use Rattle.subsetter_instance.specs.Tables.Lines.{Lines, line_bytes, lines_of, moved_hhea, slant, slant_by, slanted, three_lines, varied_hhea, varied_post_if}

-- what was read and made
pub record LineSteps (find : List ℕ → Option (List ℕ)) (settings : List (Tag × ℤ)) (at : List ℤ) (l : Lines) : Type 0 where
  pub hhea : List ℕ
  pub hhea_is : find (codes "hhea") ≡ Some hhea
  pub new_is : varied_hhea (find (codes "MVAR")) at hhea ≡ Ok l.hhea
  pub post : Option (List ℕ)
  pub post_is : varied_post_if (find (codes "MVAR")) at (find (codes "post")) ≡ Ok post
  pub slant_is : slanted (slant find settings at) post ≡ l.post

pub line_steps : (find : List ℕ → Option (List ℕ)) (settings : List (Tag × ℤ)) (at : List ℤ) (l : Lines) → lines_of find settings at ≡ Ok l → LineSteps find settings at l
unfolding lines_of
line_steps find settings at l h =
    let mvar = find (codes "MVAR") in
    let post = find (codes "post") in
    let made = λ (new : List ℕ) (p : Option (List ℕ)). let lines : Lines = record { hhea = new; post = slanted (slant find settings at) p } in lines in
    let a = bind_ok (ok_or (find (codes "hhea")) MalformedFont) (λ hhea. varied_hhea mvar at hhea >>= λ new. varied_post_if mvar at post >>= λ p. Ok (made new p)) l h in
    let b = bind_ok (varied_hhea mvar at a.0) (λ new. varied_post_if mvar at post >>= λ p. Ok (made new p)) l a.2 in
    let c = bind_ok (varied_post_if mvar at post) (λ p. Ok (made b.0 p)) l b.2 in
    let is = done_is (made b.0 c.0) l c.2 in
    record { hhea = a.0; hhea_is = named_ok (find (codes "hhea")) MalformedFont a.0 a.1; new_is = b.1 ∙ ap (λ (x : Lines). Ok x.hhea) is; post = c.0; post_is = c.1; slant_is = ap (λ (x : Lines). x.post) is }

six_bytes : (l : ℤ × ℤ × ℤ) → length (line_bytes l) ≡ 6
six_bytes l = refl

moved_length : (hhea : List ℕ) (a b : ℤ × ℤ × ℤ) → 36 ≤ length hhea → length (moved_hhea hhea a b) ≡ length hhea
moved_length hhea a b le =
    let x = take 4 hhea in
    let m = slice_range hhea 10 18 in
    omega (arith, length-append (x ++ line_bytes a ++ m ++ line_bytes b) (drop 24 hhea), length-append (x ++ line_bytes a ++ m) (line_bytes b), length-append (x ++ line_bytes a) m, length-append x (line_bytes a), six_bytes a, six_bytes b, length-take-le 4 hhea (omega (arith, le)), length-take 8 (drop 10 hhea), length-drop 10 hhea, length-drop 24 hhea)

-- as long as before
same_length : (mvar : Option (List ℕ)) (at : List ℤ) (hhea new : List ℕ) → 36 ≤ length hhea → varied_hhea mvar at hhea ≡ Ok new → length new ≡ length hhea
unfolding varied_hhea
same_length None at hhea new le h = ap length (sym (done_is hhea new h))
same_length (Some mvar) at hhea new le h =
    let caret = three_lines mvar at hhea 18 (codes "hcrs") (codes "hcrn") (codes "hcof") in
    let a = bind_ok (three_lines mvar at hhea 4 (codes "hasc") (codes "hdsc") (codes "hlgp")) (λ lines. caret >>= λ c. Ok (moved_hhea hhea lines c)) new h in
    let b = bind_ok caret (λ c. Ok (moved_hhea hhea a.0 c)) new a.2 in
    ap length (sym (done_is (moved_hhea hhea a.0 b.0) new b.2)) ∙ moved_length hhea a.0 b.0 le

pub lines_long : (find : List ℕ → Option (List ℕ)) (settings : List (Tag × ℤ)) (at : List ℤ) (l : Lines) → IfSome (find (codes "hhea")) (λ h. 36 ≤ length h) → lines_of find settings at ≡ Ok l → 36 ≤ length l.hhea
lines_long find settings at l long h =
    let s = line_steps find settings at l h in
    let le : 36 ≤ length s.hhea = subst (λ (o : Option (List ℕ)). IfSome o (λ x. 36 ≤ length x)) s.hhea_is long in
    omega (arith, same_length (find (codes "MVAR")) at s.hhea l.hhea le s.new_is, le)

-- ---- no slant

no_angle : (b : Bool) (o : Option ℤ) → o ≡ None → cond b None o ≡ None
no_angle true o is = refl
no_angle false o is = is

-- of a font without axes
pub no_slant : (find : List ℕ → Option (List ℕ)) (settings : List (Tag × ℤ)) (at : List ℤ) → find (codes "fvar") ≡ None → slant find settings at ≡ None
no_slant find settings at none = no_angle (list_all (λ c. int_eq c (pos 0)) at) (slant_by (find (codes "fvar")) settings) (ap (λ (o : Option (List ℕ)). slant_by o settings) none)

all_zero : (at : List ℤ) → All (λ c. c ≡ pos 0) at → list_all (λ c. int_eq c (pos 0)) at ≡ true
all_zero at zeros = list_all-from_AllPass (λ c. int_eq c (pos 0)) at (λ k d lt. (Decides-int_eq (get_or at k d) (pos 0)).1 (zeros k d lt))

-- and at the default
pub still_slant : (find : List ℕ → Option (List ℕ)) (settings : List (Tag × ℤ)) (at : List ℤ) → All (λ c. c ≡ pos 0) at → slant find settings at ≡ None
still_slant find settings at zeros = ap (λ (b : Bool). cond b None (slant_by (find (codes "fvar")) settings)) (all_zero at zeros)

-- without MVAR and fvar they are those that are found
pub still_lines : (find : List ℕ → Option (List ℕ)) (settings : List (Tag × ℤ)) (at : List ℤ) (l : Lines) → find (codes "MVAR") ≡ None → find (codes "fvar") ≡ None → lines_of find settings at ≡ Ok l → (find (codes "hhea") ≡ Some l.hhea) × (l.post ≡ find (codes "post"))
unfolding varied_hhea
still_lines find settings at l none still h =
    let s = line_steps find settings at l h in
    let same : s.hhea ≡ l.hhea = done_is s.hhea l.hhea (ap (λ (o : Option (List ℕ)). varied_hhea o at s.hhea) (sym none) ∙ s.new_is) in
    let post = by (find (codes "post")) s.post (ap (λ (o : Option (List ℕ)). varied_post_if o at (find (codes "post"))) (sym none) ∙ s.post_is) in
    (s.hhea_is ∙ ap (λ (x : List ℕ). Some x) same, sym s.slant_is ∙ ap (λ (angle : Option ℤ). slanted angle s.post) (no_slant find settings at still) ∙ post)
  where
    by : (o p : Option (List ℕ)) → varied_post_if None at o ≡ Ok p → p ≡ o
    by None p k = sym (done_is None p k)
    by (Some post) p k = sym (done_is (Some post) p k)
