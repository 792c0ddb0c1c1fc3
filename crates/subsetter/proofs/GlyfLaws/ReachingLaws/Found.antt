-- The order in which glyphs are found is one.
use Rattle.std.proofs.Common.{◌≡◌, ℕ, cond, List, [], ◌∷◌, ◌++◌, length, refl, sym, ap, subst, ◌∙◌, arith}
use Rattle.std.specs.Prelude.{is_some}
use Rattle.std.proofs.lemmas.List.{length_push}
use Rattle.subsetter_base.specs.Indexes.{index_of}
use Rattle.subsetter.specs.Glyf.Read.{Outlines, outline_in}
use Rattle.subsetter.specs.Glyf.Reaching.Closure.{components_in, others_in, IsVisited, Finds, all_found, follows, visits}

-- ---- lists with a last member

pub pushed_some : (xs : List ℕ) (x : ℕ) → [] ≡ xs ++ x ∷ [] → ⊥
pushed_some xs x h = omega (arith, ap length h, length_push xs x)

pub push_same : (xs ys : List ℕ) (x y : ℕ) → xs ++ x ∷ [] ≡ ys ++ y ∷ [] → (xs ≡ ys) × (x ≡ y)
push_same [] [] x y h = (refl, cc)
push_same [] (b ∷ ys) x y h = absurd (omega (arith, ap length h, length_push ys y))
push_same (a ∷ xs) [] x y h = absurd (omega (arith, ap length h, length_push xs x))
push_same (a ∷ xs) (b ∷ ys) x y h =
    let first : a ≡ b = cc in
    let rest : xs ++ x ∷ [] ≡ ys ++ y ∷ [] = cc in
    let both = push_same xs ys x y rest in
    (let front = both.0 in cc, both.1)

-- ---- one order

visited_same : (t : Outlines) (order rest : List ℕ) (g : ℕ) (longer after other later : List ℕ) → IsVisited t order rest g longer after → IsVisited t order rest g other later → (longer ≡ other) × (after ≡ later)
visited_same t order rest g longer after other later v w =
    let same : longer ≡ other = v.is_last ∙ sym w.is_last in
    (same, v.wait ∙ ap (λ (l : List ℕ). cond (is_some (index_of order g)) rest (rest ++ others_in l (components_in (outline_in t g)))) same ∙ sym w.wait)

pub same_found : (t : Outlines) (a b left waiting order : List ℕ) → Finds t a left waiting order → Finds t b left waiting order → a ≡ b
same_found t a b left waiting order (all_found l w is) (all_found m v k) = sym is ∙ k
same_found t a b left waiting order (all_found l w is) (follows rest g k none f) = absurd (pushed_some rest g (sym l ∙ k))
same_found t a b left waiting order (all_found l w is) (visits rest g longer after k v f) = absurd (pushed_some rest g (sym w ∙ k))
same_found t a b left waiting order (follows rest g k none f) (all_found l w is) = absurd (pushed_some rest g (sym l ∙ k))
same_found t a b left waiting order (follows rest g is none f) (follows others h k nothing e) =
    let both = push_same rest others g h (sym is ∙ k) in
    same_found t a b rest (others_in order (components_in (outline_in t g))) order f
    (subst (λ (n : ℕ). Finds t b rest (others_in order (components_in (outline_in t n))) order) (sym both.1) (subst (λ (l : List ℕ). Finds t b l (others_in order (components_in (outline_in t h))) order) (sym both.0) e))
same_found t a b left waiting order (follows rest g is none f) (visits others h longer after k v e) = absurd (pushed_some others h (sym none ∙ k))
same_found t a b left waiting order (visits rest g longer after is v f) (all_found l w k) = absurd (pushed_some rest g (sym w ∙ is))
same_found t a b left waiting order (visits rest g longer after is v f) (follows others h k nothing e) = absurd (pushed_some rest g (sym nothing ∙ is))
same_found t a b left waiting order (visits rest g longer after is v f) (visits others h other later k w e) =
    let both = push_same rest others g h (sym is ∙ k) in
    let u : IsVisited t order rest g other later = subst (λ (n : ℕ). IsVisited t order rest n other later) (sym both.1) (subst (λ (l : List ℕ). IsVisited t order l h other later) (sym both.0) w) in
    let same = visited_same t order rest g longer after other later v u in
    same_found t a b left after longer f (subst (λ (l : List ℕ). Finds t b left l longer) (sym same.1) (subst (λ (l : List ℕ). Finds t b left later l) (sym same.0) e))

-- ---- the steps, as the code takes them

-- what is found from here on is what the given glyphs find
abbrev pub FoundFrom : Outlines → List ℕ → List ℕ → List ℕ → List ℕ → Type 0
FoundFrom t glyphs left waiting order = (found : List ℕ) → Finds t found left waiting order → Finds t found glyphs [] glyphs

pub found_start : (t : Outlines) (glyphs left order : List ℕ) → left ≡ glyphs → order ≡ glyphs → FoundFrom t glyphs left [] order
found_start t glyphs left order a b found f = subst (λ (l : List ℕ). Finds t found glyphs [] l) b (subst (λ (l : List ℕ). Finds t found l [] order) a f)

pub found_followed : (t : Outlines) (glyphs before left waiting order : List ℕ) (g : ℕ) (after : List ℕ) → before ≡ left ++ g ∷ [] → waiting ≡ [] → after ≡ waiting ++ others_in order (components_in (outline_in t g)) → FoundFrom t glyphs before [] order → FoundFrom t glyphs left after order
found_followed t glyphs before left waiting order g after is none wait from found f =
    let new = others_in order (components_in (outline_in t g)) in
    from found (follows left g is refl (subst (λ (l : List ℕ). Finds t found left l order) (wait ∙ ap (λ (l : List ℕ). l ++ new) none) f))

pub found_visited : (t : Outlines) (glyphs left before waiting order : List ℕ) (g : ℕ) (longer after : List ℕ) → before ≡ waiting ++ g ∷ [] → IsVisited t order waiting g longer after → FoundFrom t glyphs left before order → FoundFrom t glyphs left after longer
found_visited t glyphs left before waiting order g longer after is v from found f = from found (visits waiting g longer after is v f)

pub found_last : (t : Outlines) (glyphs left order : List ℕ) → left ≡ [] → FoundFrom t glyphs left [] order → Finds t order glyphs [] glyphs
found_last t glyphs left order none from = from order (all_found none refl refl)
