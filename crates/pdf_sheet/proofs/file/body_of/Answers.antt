use Rattle.std.proofs.Common.{◌≡◌, ◌+◌, ◌++◌, ◌∷◌, [], List, ℕ, Vec, Global, length, drop, sym, ap, ◌∙◌, rules, arith}
use Rattle.pdf_sheet.specs.View.{texts_view}
use Rattle.pdf_sheet.proofs.Steps.{value_next, text_more, offsets_more}
use Rattle.pdf_sheet.proofs.file.body_of.Goals as goal

pub loop-value-preserved : goal.loop-value-preserved
loop-value-preserved c =
    let i = c.loop-value.value-index in
    let vs = c.args.values.now in
    let later = texts_view (drop (i + 1) vs) in
    let next : texts_view (drop i vs) ≡ c.deref.result.now ∷ later =
    value_next vs i c.value-item.result c.loop-value-test.true ∙ ap (λ (t : Vec ℕ Global). t.items ∷ later) (sym c.value-item.is) ∙ ap (λ (l : List ℕ). l ∷ later) (sym c.deref.ensures.value) in
    let size : c.len.result ≡ length c.loop-value.text.items = search rules in
    record {
      number = omega arith;
      text = text_more c.loop-value.text.items c.write_object.new.text.items c.loop-value.number (c.loop-value.number + 1) c.deref.result.now (texts_view (drop i vs)) later _
          next (omega arith) c.in_ok-write_object.ensures.ok c.loop-value.invariant.text;
      offsets = offsets_more c.loop-value.offsets.items c.push.new.self.items c.loop-value.text.items c.write_object.new.text.items c.loop-value.number (c.loop-value.number + 1) c.deref.result.now (texts_view (drop i vs)) later _
          next (omega arith) (c.in_ok-push.ensures.items ∙ ap (λ n. c.loop-value.offsets.items ++ n ∷ []) size) c.in_ok-write_object.ensures.ok c.loop-value.invariant.offsets;
    }
