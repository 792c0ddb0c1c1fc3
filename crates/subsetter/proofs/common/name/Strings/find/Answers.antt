use Rattle.std.proofs.Common.{◌≡◌, ◌≤◌, cond, false, length, take, ap, sym, ◌∙◌, Some, None, List, ℕ, arith}
use Rattle.std.specs.HashMap.{get}
use Rattle.std.specs.Str.{bytes_eq}
use Rattle.std.specs.Borrow.{Bor}
use Rattle.std.proofs.lemmas.List.{length-take-le}
use Rattle.subsetter.specs.Common.Name.Read.{among, string_offset, joined}
use Rattle.subsetter.specs.Common.Name.View.{nows}
use Rattle.subsetter.proofs.CommonLaws.NameLaws.Written.{is_new, nows-take, joined-take, near_is}
use Rattle.subsetter.proofs.common.name.Strings.find.Goals as goal

pub linear_offset-requires : goal.linear_offset-requires
linear_offset-requires c = omega (arith, ap (λ (bs : List (Bor (List ℕ))). length (joined (nows bs))) c.as_slice-strings.ensures.value, c.self.invariant.size_is, c.self.invariant.fits)

pub slice_bounds-linear_offset-end : goal.slice_bounds-linear_offset-end
slice_bounds-linear_offset-end c =
    let within : 32 ≤ length c.as_slice-strings.result.now = omega (arith, c.if-strings-le-LINEAR_MAX.false) in
    sym (length-take-le 32 c.as_slice-strings.result.now within)

pub linear_offset-requires-2 : goal.linear_offset-requires-2
linear_offset-requires-2 c =
    let bs = c.as_slice-strings.result.now in
    omega (arith, ap (λ (x : List (Bor (List ℕ))). length (joined (nows x))) c.as_slice-strings.ensures.value, ap (λ (x : List (List ℕ)). length (joined x)) (nows-take 32 bs), joined-take 32 (nows bs), c.self.invariant.size_is, c.self.invariant.fits)

pub returns-in-Some : goal.returns-in-Some
returns-in-Some c =
    let s = c.args.string.now in
    let bs = c.as_slice-strings.result.now in
    let front : Some c.in-Some.place ≡ cond (among (take 32 (nows bs)) s) (Some (string_offset (take 32 (nows bs)) s)) None = c.in-Some.ensures ∙ ap (λ (l : List (List ℕ)). cond (among l s) (Some (string_offset l s)) None) (nows-take 32 bs) in
    near_is 32 (nows bs) s c.in-Some.place front ∙ ap (λ (l : List (List ℕ)). cond (among l s) (Some (string_offset l s)) None) (ap nows c.as_slice-strings.ensures.value ∙ c.self.view_is)

pub returns-in-Some-get : goal.returns-in-Some-get
returns-in-Some-get c =
    let s = c.args.string.now in
    let bs = c.as_slice-strings.result.now in
    let absent : among (take 32 (nows bs)) s ≡ false = ap (λ (l : List (List ℕ)). among l s) (sym (nows-take 32 bs)) ∙ is_new _ _ (sym c.in-None.ensures) in
    let near : among (take 32 (nows c.self.inside.strings.items)) s ≡ false = ap (λ (x : List (Bor (List ℕ))). among (take 32 (nows x)) s) (sym c.as_slice-strings.ensures.value) ∙ absent in
    ap Some c.from.ensures ∙ c.in-Some-get.ensures.value ∙ ap (λ (k : List ℕ). get bytes_eq c.self.inside.hashed k) c.new.ensures ∙ c.self.invariant.hashed_are s near ∙ ap (λ (l : List (List ℕ)). cond (among l s) (Some (string_offset l s)) None) c.self.view_is

pub returns-in-None-get : goal.returns-in-None-get
returns-in-None-get c =
    let s = c.args.string.now in
    let bs = c.as_slice-strings.result.now in
    let absent : among (take 32 (nows bs)) s ≡ false = ap (λ (l : List (List ℕ)). among l s) (sym (nows-take 32 bs)) ∙ is_new _ _ (sym c.in-None.ensures) in
    let near : among (take 32 (nows c.self.inside.strings.items)) s ≡ false = ap (λ (x : List (Bor (List ℕ))). among (take 32 (nows x)) s) (sym c.as_slice-strings.ensures.value) ∙ absent in
    c.in-None-get.ensures.value ∙ ap (λ (k : List ℕ). get bytes_eq c.self.inside.hashed k) c.new.ensures ∙ c.self.invariant.hashed_are s near ∙ ap (λ (l : List (List ℕ)). cond (among l s) (Some (string_offset l s)) None) c.self.view_is
