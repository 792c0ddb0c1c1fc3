use Rattle.std.proofs.Common.{◌≡◌, ◌<◌, length, get_or, Some, refl, sym, ap, ◌∙◌, [], ◌∷◌, inr, arith}
use Rattle.std.proofs.lemmas.List.{length-append}
use Rattle.std.proofs.lemmas.Grind.{get_or_default_zero}
use Rattle.std.proofs.lemmas.Result.{err_from_is_err_and}
use Rattle.subsetter_base.specs.declared.error.Error.TheVariants.{MalformedFont}
use Rattle.subsetter_base.proofs.Results.{named_err, named_ok}
use Rattle.subsetter_sfnt.specs.Fields.Loca.{loca_offset}
use Rattle.own_glyphs.specs.Refused.{cut_loca}
use Rattle.own_glyphs.specs.View.{seen}
use Rattle.own_glyphs.proofs.Faults.{ends_elsewhere}
use Rattle.own_glyphs.proofs.Values.{pushed}
use Rattle.own_glyphs.proofs.source.Source.offsets.Goals as goal

pub returns-in_err-offset-clause-err : goal.returns-in_err-offset-clause-err
returns-in_err-offset-clause-err c =
    let p = err_from_is_err_and c.from_residual-in_err-offset.result c.from_residual-in_err-offset.ensures.1 in
    let n = named_err c.loca_offset.result MalformedFont c.in_err-offset.field-0.0 (sym c.in_err-offset.ensures.value) in
    rw (p.1, p.2) (inr (sym n.1, cut_loca c.loop-entry.entry (omega (arith, c.loop-entry-test.true, c.from-count.ensures)) (sym c.loca_offset.ensures.exact ∙ n.0)))

pub loop-entry-preserved : goal.loop-entry-preserved
loop-entry-preserved c =
    let t = c.args.self.now in
    let i = c.loop-entry.invariant in
    let found : loca_offset t.loca.now t.long c.loop-entry.entry ≡ Some c.in_ok-offset.offset = sym c.loca_offset.ensures.exact ∙ named_ok c.loca_offset.result MalformedFont c.in_ok-offset.offset (sym c.in_ok-offset.ensures.value) in
    record {
      each = pushed (loca_offset t.loca.now t.long) c.loop-entry.entry c.loop-entry.offsets.items c.push.new.self.items c.in_ok-offset.offset i.each i.count found c.in_ok-push.ensures.items;
      count = omega (arith, ap length c.in_ok-push.ensures.items, length-append c.loop-entry.offsets.items (c.in_ok-offset.offset ∷ []), i.count);
    }

pub returns-then-index-self-clause-err : goal.returns-then-index-self-clause-err
returns-then-index-self-clause-err c =
    let i = c.loop-entry.invariant in
    let same : c.from-count.result ≡ c.args.self.now.count = omega (arith, c.from-count.ensures) in
    let within : c.from-count.result < length c.loop-entry.offsets.items = omega (arith, i.count, c.loop-entry-test.false) in
    let last : c.index.result.now ≡ get_or c.loop-entry.offsets.items c.args.self.now.count 0 = c.index.ensures ∙ get_or_default_zero c.loop-entry.offsets.items c.from-count.result c.index.result.now within ∙ ap (λ n. get_or c.loop-entry.offsets.items n 0) same in
    inr (refl, ends_elsewhere (seen c.args.self.now) c.loop-entry.offsets.items i.each (omega (arith, i.count, c.loop-entry-test.false, c.loop-entry.auto.entry-end, c.from-count.ensures)) (λ e. c.if-index-self.true (last ∙ e)))
