-- What is counted of one outline.
use Rattle.std.proofs.Common.{◌≡◌, ℕ, ◌≤◌, true, false, List, Option, Result, Some, None, Ok, Err, arith}
use Rattle.std.specs.Prelude.{IfOk}
use Rattle.subsetter.specs.declared.glyf.component.Count.{Count}
use Rattle.subsetter.specs.Glyf.Reaching.Closure.{LacksParts}
use Rattle.subsetter.specs.Glyf.Parts.{outline_parts}

pub size_at_most : {E : Type 0} (r : Result Count E) (a b : ℕ) → a ≡ b → IfOk r (λ n. n.cut ≡ false → n.bytes ≡ a) → IfOk r (λ n. n.cut ≡ false → n.bytes ≤ b)
size_at_most (Ok n) a b e h = λ c. omega (arith, e, h c)
size_at_most (Err x) a b e h = tt

pub cut_lacks : {E : Type 0} (r : Result Count E) (bytes : List ℕ) (o : Option (List ℕ)) → o ≡ Some bytes → IfOk r (λ n. n.cut ≡ true → outline_parts bytes ≡ None) → IfOk r (λ n. n.cut ≡ true → LacksParts o)
cut_lacks (Ok n) bytes o there h = λ c. record { bytes = bytes; there = there; faulty = h c }
cut_lacks (Err x) bytes o there h = tt
