use Rattle.std.proofs.Common.{◌≡◌, ◌-◌, ℕ, length, take, drop, Some, suc, sym, ap, ◌∙◌, arith}
use Rattle.std.specs.Option.{option_and_then}
use Rattle.subsetter_base.specs.Bytes.{range}
use Rattle.subsetter_base.specs.Items.{values}
use Rattle.subsetter_base.specs.Read.{Source}
use Rattle.subsetter_base.proofs.ItemLemmas.{values_of-more}
use Rattle.subsetter_base.proofs.Lists.{rest_of}
use Rattle.subsetter_base.proofs.lazy_array.LazyArrayIter16Iterator.next.Goals as goal

pub returns-clause-steps : goal.returns-clause-steps
returns-clause-steps g c =
    let S = g.T.Readable.SIZE in
    let V = g.T.Readable.value_of in
    let bytes = c.self.inside.rest.now in
    let some : Some c.in_ok-value.value ≡ option_and_then V (range bytes 0 S) = sym c.in_ok-value.was ∙ c.read.ensures.value ∙ ap (λ (s : Source). option_and_then V (range s.bytes s.offset S)) c.new.ensures in
    let one : c.self.inside.len ≡ suc (c.self.inside.len - 1) = omega arith in
    let after : take (length bytes - c.SIZE.result) (drop c.SIZE.result bytes) ≡ drop S bytes = rest_of c.SIZE.result bytes ∙ ap (λ (k : ℕ). drop k bytes) c.SIZE.ensures in
    ap (values S V) (sym c.self.view_is) ∙ values_of-more S V c.self.inside.len (c.self.inside.len - 1) bytes _ c.in_ok-value.value one after some

pub returns-clause-goes : goal.returns-clause-goes
returns-clause-goes g c =
    let fewer = ap length (returns-clause-steps g c) in
    record { on = λ _. (tt, tt, omega (arith, fewer)); keeps = tt; rests = λ _. tt }
