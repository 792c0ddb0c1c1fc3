use Rattle.std.proofs.Common.{◌∙◌, ◌+◌, ◌-◌, List, Ok, length, sym, ap, arith}
use Rattle.std.proofs.lemmas.List.{length_push}
use Rattle.subsetter_instance.specs.declared.glyphs.components.Component.{Component}
use Rattle.subsetter_instance.specs.Glyphs.Components.{components_at}
use Rattle.subsetter_instance.proofs.GlyphsLaws.Chains.{chain_ends, chain_goes_on, following}
use Rattle.subsetter_instance.proofs.glyphs.components.read_components.Goals as goal

pub loop-read-preserved : goal.loop-read-preserved
loop-read-preserved c =
    let n = c.args.steps in
    let k = c.loop-read.read in
    let front = c.loop-read.components.items in
    let after = c.in-Some.following.now in
    record {
      all =
          ap (λ (l : List Component). following l (components_at (n - (k + 1)) after)) c.in_ok-push.ensures.items
          ∙ sym (chain_goes_on front n k c.loop-read.rest.now c.in-Some.component after c.loop-read-test.true (sym c.in-Some.ensures) (sym c.has.ensures ∙ c.if-not-has.false))
          ∙ c.loop-read.invariant.all;
      count = omega (arith, ap length c.in_ok-push.ensures.items, length_push front c.in-Some.component, c.loop-read.invariant.count);
    }

pub returns-then-not-has-clause-value : goal.returns-then-not-has-clause-value
returns-then-not-has-clause-value c =
    let n = c.args.steps in
    let k = c.loop-read.read in
    sym c.loop-read.invariant.all
    ∙ chain_ends c.loop-read.components.items n k c.loop-read.rest.now c.in-Some.component c.in-Some.following.now c.loop-read-test.true (sym c.in-Some.ensures) (sym c.has.ensures ∙ c.if-not-has.true)
    ∙ ap (λ (l : List Component). Ok (l, n - k - 1)) (sym c.in_ok-push.ensures.items)

pub returns-then-not-has-clause-count : goal.returns-then-not-has-clause-count
returns-then-not-has-clause-count c = omega (arith, ap length c.in_ok-push.ensures.items, length_push c.loop-read.components.items c.in-Some.component, c.loop-read.invariant.count, c.loop-read-test.true)
