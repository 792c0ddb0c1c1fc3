use Rattle.std.proofs.Common.{◌≡◌, [], ◌∷◌, ◌++◌, cond, ap, sym, ◌∙◌, Some, None, ◌+◌, arith}
use Rattle.std.specs.Option.{option_map}
use Rattle.std.specs.HashMap.{get}
use Rattle.std.proofs.lemmas.List.{length_push}
use Rattle.std.proofs.lemmas.Map.Keys.{IsDistinct-push}
use Rattle.std.proofs.lemmas.Slice.{pushed}
use Rattle.subsetter_base.specs.Remap.{index_by}
use Rattle.subsetter_base.proofs.RemapLemmas.{index_by-push, index_by-pushed, any-has_index, sum_is, mapped_cond}
use Rattle.std.specs.Prelude.{is_some}
use Rattle.subsetter_base.proofs.remapper.Remapper.remap.Goals as goal

pub invariant_of-self-2 : goal.invariant_of-self-2
invariant_of-self-2 g c =
    let E = g.T.PartialEq.eq in
    let N = g.C.CheckedAdd.number in
    let laws = g.met.T.Eq.laws in
    let xs = c.self.inside.backward.items in
    let x = c.args.old in
    let absent : index_by E xs x ≡ None = sym (c.self.invariant.forward_is_index x) ∙ ap (option_map N) (sym c.in_default.ensures.value) in
    let now : c.push.new.self.items ≡ xs ++ x ∷ [] = pushed (x ∷ []) c.reserve.ensures.items c.unwrap.ensures c.push.ensures.items in
    let one : N c.from.result ≡ 1 = g.met.C.CheckedAdd.same_number 1 c.from.result c.from.ensures in
    let sum : N c.unwrap-next.result ≡ N c.self.inside.counter + N c.from.result = sum_is g.C.CheckedAdd.limit (N c.self.inside.counter) (N c.from.result) (N c.unwrap-next.result) (sym c.checked_add.ensures ∙ ap (option_map N) c.unwrap-next.ensures) in
    rw now (record {
      counted = omega (arith, sum, one, length_push xs x, c.self.invariant.counted);
      forward_is_index = λ q.
          ap (option_map N) (c.in_ok-insert.ensures.updates.0 q)
          ∙ mapped_cond N (E x q) c.self.inside.counter (get E c.self.inside.forward q)
          ∙ ap (cond (E x q) (Some (N c.self.inside.counter))) (c.self.invariant.forward_is_index q)
          ∙ sym (index_by-push laws xs x q (N c.self.inside.counter) absent c.self.invariant.counted);
      once = IsDistinct-push laws xs x c.self.invariant.once (any-has_index laws xs x ∙ ap is_some absent);
    })

pub returns-clause-number : goal.returns-clause-number
returns-clause-number g c =
    let E = g.T.PartialEq.eq in
    let N = g.C.CheckedAdd.number in
    let laws = g.met.T.Eq.laws in
    let xs = c.self.inside.backward.items in
    let x = c.args.old in
    let absent : index_by E xs x ≡ None = sym (c.self.invariant.forward_is_index x) ∙ ap (option_map N) (sym c.in_default.ensures.value) in
    let now : c.push.new.self.items ≡ xs ++ x ∷ [] = pushed (x ∷ []) c.reserve.ensures.items c.unwrap.ensures c.push.ensures.items in
    rw now (index_by-pushed laws xs x (N c.self.inside.counter) absent c.self.invariant.counted)
