use Rattle.std.proofs.Common.{◌≡◌, ◌+◌, ◌-◌, ◌++◌, suc, arith, ap, sym, ◌∙◌, List, ℕ, replicate, append_assoc}
use Rattle.subsetter_cffdata.specs.Reals.TextSteps.{shown}
use Rattle.subsetter_cffdata.proofs.reals.real_writing.put_zeros.Goals as goal

pub loop-preserved : goal.loop-preserved
loop-preserved c =
    let more = c.args.count - (c.loop.counter + 1) in
    let step : c.args.count - c.loop.counter ≡ suc more = omega arith in
    record {
      after = ap (λ (x : List ℕ). x ++ replicate more 0) c.put.ensures.after ∙ append_assoc (shown c.loop.text) _ (replicate more 0)
          ∙ ap (λ (n : ℕ). shown c.loop.text ++ replicate n 0) (sym step) ∙ c.loop.invariant.after;
      len = omega (arith, c.put.ensures.len, c.loop.invariant.len);
    }
