-- What items vary by at the default and at a master.
use Rattle.std.proofs.Common.{◌≡◌, ℕ, zero, suc, ◌+◌, ◌*◌, ◌<◌, ◌≤◌, ◌==◌, ◌&&◌, Bool, true, false, cond, List, Some, Err, ◌^◌, ℤ, pos, negsuc, unsigned_abs, ◌+ℤ◌, ◌*ℤ◌, refl, sym, ap, subst, ◌∙◌, ◌≢◌, arith}
use Rattle.std.proofs.lemmas.Bool.{eqb-false, eqb-true, lt-ltb}
use Rattle.std.proofs.lemmas.Int.{ints, unsigned_abs-mul}
use Rattle.std.proofs.Math.IntN.{zero-*ℤ}
use Rattle.subsetter_base.specs.Bytes.{number}
use Rattle.subsetter_base.specs.Items.{Items}
use Rattle.subsetter_base.specs.declared.error.Error.TheVariants.{OverflowError}
use Rattle.subsetter_base.proofs.Results.{done}
use Rattle.subsetter_base.proofs.Options.{bind_some, just, just_is}
use Rattle.subsetter_base.specs.Options.{◌>>=◌}
use Rattle.subsetter_variation.specs.Nearest.{nearest}
use Rattle.subsetter_variation.specs.Region.{scalar, unit}
use Rattle.subsetter_variation.specs.Items.ItemVariations.{Row, Store, delta, item_delta, item_row, region_items, region_of, term, terms}
use Rattle.subsetter_variation.specs.Items.ItemLaws.{IsItemAtDefault, IsItemAtMaster, IsMaster, IsRegion, IsRoundedAsItIs}
use Rattle.subsetter_variation.proofs.Masters.{is_nothing_at_default}

-- ---- the parts of a term

record TermParts (s : Store) (at : List ℤ) (r : Row) (k : ℕ) (t : ℤ) : Type 0 where
  region : Items
  region_is : IsRegion s r k region
  d : ℤ
  d_is : delta r k ≡ Some d
  t_is : scalar (region_of region) at *ℤ d ≡ t

term_parts : (s : Store) (at : List ℤ) (r : Row) (k : ℕ) (t : ℤ) → term s at r k ≡ Some t → TermParts s at r k t
unfolding term
term_parts s at r k t h =
    let last = λ (region : Items) (d : ℤ). just (scalar (region_of region) at *ℤ d) in
    let a = bind_some (number r.indexes (k * 2) 2) (λ index. region_items s index >>= λ region. delta r k >>= last region) t h in
    let b = bind_some (region_items s a.0) (λ region. delta r k >>= last region) t a.2 in
    let c = bind_some (delta r k) (last b.0) t b.2 in
    record { region = b.0; region_is = record { index = a.0; index_is = a.1; region_is = b.1 }; d = c.0; d_is = c.1; t_is = just_is (scalar (region_of b.0) at *ℤ c.0) t c.2 }

of_nothing : (s : Store) (at : List ℤ) (r : Row) (k : ℕ) (t : ℤ) → ((region : Items) → IsRegion s r k region → scalar (region_of region) at ≡ pos 0) → term s at r k ≡ Some t → t ≡ pos 0
of_nothing s at r k t none h =
    let p = term_parts s at r k t h in
    sym p.t_is ∙ ap (λ z. z *ℤ p.d) (none p.region p.region_is) ∙ zero-*ℤ p.d

of_all : (s : Store) (at : List ℤ) (r : Row) (k : ℕ) (t d : ℤ) → ((region : Items) → IsRegion s r k region → scalar (region_of region) at ≡ unit) → delta r k ≡ Some d → term s at r k ≡ Some t → t ≡ unit *ℤ d
of_all s at r k t d full is h =
    let p = term_parts s at r k t h in
    let same : p.d ≡ d = just_is p.d d (sym p.d_is ∙ is) in
    sym p.t_is ∙ ap (λ z. z *ℤ p.d) (full p.region p.region_is) ∙ ap (λ z. unit *ℤ z) same

-- ---- sums

two_parts : (s : Store) (at : List ℤ) (r : Row) (n k : ℕ) (v : ℤ) → terms s at r (suc n) k ≡ Some v → (t : ℤ) × (term s at r k ≡ Some t) × ((rest : ℤ) × (terms s at r n (k + 1) ≡ Some rest) × (t +ℤ rest ≡ v))
two_parts s at r n k v h =
    let a = bind_some (term s at r k) (λ t. terms s at r n (k + 1) >>= λ rest. just (t +ℤ rest)) v h in
    let b = bind_some (terms s at r n (k + 1)) (λ rest. just (a.0 +ℤ rest)) v a.2 in
    (a.0, a.1, (b.0, b.1, just_is (a.0 +ℤ b.0) v b.2))

nothing_left : (t rest v : ℤ) → t ≡ pos 0 → rest ≡ pos 0 → t +ℤ rest ≡ v → v ≡ pos 0
nothing_left t rest v a b h = omega (arith, ints)

first_alone : (t rest v d : ℤ) → t ≡ d → rest ≡ pos 0 → t +ℤ rest ≡ v → v ≡ d
first_alone t rest v d a b h = omega (arith, ints)

rest_alone : (t rest v d : ℤ) → t ≡ pos 0 → rest ≡ d → t +ℤ rest ≡ v → v ≡ d
rest_alone t rest v d a b h = omega (arith, ints)

sum_of_nothing : (s : Store) (at : List ℤ) (r : Row) (n k : ℕ) (v : ℤ) → ((i : ℕ) (region : Items) → k ≤ i → IsRegion s r i region → scalar (region_of region) at ≡ pos 0) → terms s at r n k ≡ Some v → v ≡ pos 0
sum_of_nothing s at r zero k v none h = sym (just_is (pos 0) v h)
sum_of_nothing s at r (suc n) k v none h =
    let p = two_parts s at r n k v h in
    let first = of_nothing s at r k p.0 (λ region is. none k region (omega arith) is) p.1 in
    let rest = sum_of_nothing s at r n (k + 1) p.2.0 (λ i region le is. none i region (omega arith) is) p.2.1 in
    nothing_left p.0 p.2.0 v first rest p.2.2

sum_of_one : (s : Store) (at : List ℤ) (r : Row) (n j k : ℕ) (d v : ℤ) → IsMaster s at r k → delta r k ≡ Some d → j ≤ k → k < j + n → terms s at r n j ≡ Some v → v ≡ unit *ℤ d
sum_of_one s at r zero j k d v m is low high h = absurd (omega arith)
sum_of_one s at r (suc n) j k d v m is low high h = by (λ w lo hi e. sum_of_one s at r n (j + 1) k d w m is lo hi e) (j == k) refl
  where
    p : (t : ℤ) × (term s at r j ≡ Some t) × ((rest : ℤ) × (terms s at r n (j + 1) ≡ Some rest) × (t +ℤ rest ≡ v))
    p = two_parts s at r n j v h

    by : ((w : ℤ) → j + 1 ≤ k → k < (j + 1) + n → terms s at r n (j + 1) ≡ Some w → w ≡ unit *ℤ d) → (b : Bool) → (j == k) ≡ b → v ≡ unit *ℤ d
    by later true e =
        let same : j ≡ k = eqb-true j k e in
        let first = of_all s at r j p.0 d (λ region i. m.full region (subst (λ x. IsRegion s r x region) same i)) (ap (delta r) same ∙ is) p.1 in
        let rest = sum_of_nothing s at r n (j + 1) p.2.0 (λ i region le i_is. m.others i region (λ x. omega arith) i_is) p.2.1 in
        first_alone p.0 p.2.0 v (unit *ℤ d) first rest p.2.2
    by later false e =
        let other : j ≢ k = eqb-false j k e in
        let first = of_nothing s at r j p.0 (λ region i. m.others j region other i) p.1 in
        let rest = later p.2.0 (omega arith) (omega arith) p.2.1 in
        rest_alone p.0 p.2.0 v (unit *ℤ d) first rest p.2.2

-- ---- items

row_read : (s : Store) (at : List ℤ) (outer inner : ℕ) (r : Row) (v : ℤ) → item_row s outer inner ≡ Some r → (item_row s outer inner >>= λ q. terms s at q q.count 0) ≡ Some v → terms s at r r.count 0 ≡ Some v
row_read s at outer inner r v is h = sym (ap (λ o. o >>= λ q. terms s at q q.count 0) is) ∙ h

pub is_item_at_default : IsItemAtDefault
unfolding item_delta
is_item_at_default s at outer inner r v zeros is bound h = by (outer == 65535 && inner == 65535) h
  where
    by : (b : Bool) → cond b (just (pos 0)) (item_row s outer inner >>= λ q. terms s at q q.count 0) ≡ Some v → v ≡ pos 0
    by true k = sym (just_is (pos 0) v k)
    by false k = sum_of_nothing s at r r.count 0 v (λ i region le there. let b = bound i region there in is_nothing_at_default (region_of region) at b.1.0 b.1.1 b.0 zeros b.1.2 b.1.3) (row_read s at outer inner r v is k)

pub is_item_at_master : IsItemAtMaster
unfolding item_delta
is_item_at_master s at outer inner r k d v marked is m d_is h = by (outer == 65535 && inner == 65535) marked h
  where
    by : (b : Bool) → b ≡ false → cond b (just (pos 0)) (item_row s outer inner >>= λ q. terms s at q q.count 0) ≡ Some v → v ≡ unit *ℤ d
    by true e x = absurd cc
    by false e x = sum_of_one s at r r.count 0 k d v m d_is (omega arith) (let t = m.there in omega arith) (row_read s at outer inner r v is x)

-- ---- rounded

pub nearest_is : (d : ℤ) → nearest (unit *ℤ d) (2 ^ 30) ≡ d
unfolding nearest
nearest_is (pos n) = ap pos (omega arith)
nearest_is (negsuc n) = grind (arith, ints)

size_is : (d : ℤ) → unsigned_abs d < 2 ^ 32 → unsigned_abs (unit *ℤ d) < 2 ^ 62
size_is d h = omega (arith, unsigned_abs-mul unit d)

pub is_rounded_as_it_is : IsRoundedAsItIs
is_rounded_as_it_is d h =
    ap (λ b. cond b (done {A = ℤ} (nearest (unit *ℤ d) (2 ^ 30))) (Err OverflowError)) (lt-ltb (unsigned_abs (unit *ℤ d)) (2 ^ 62) (size_is d h))
    ∙ ap (λ z. done {A = ℤ} z) (nearest_is d)
