use Rattle.std.proofs.Common.{◌≡◌, ◌<◌, length, drop, ap, ◌∙◌, arith}
use Rattle.std.specs.Option.{option_copied}
use Rattle.std.specs.Prelude.{map}
use Rattle.std.proofs.lemmas.List.{take_rest}
use Rattle.subsetter.specs.Glyf.Reaching.Closure.{first_byte_in}
use Rattle.subsetter.proofs.GlyfLaws.ReachingLaws.Taken.{taken_read, taken_new, block_read, some_read}
use Rattle.subsetter.proofs.glyf.pop_first_byte.Goals as goal

pub returns-in-Some-clause-ok : goal.returns-in-Some-clause-ok
returns-in-Some-clause-ok c = taken_read (map (λ o. first_byte_in (option_copied o)) c.args.outlines.now) c.args.first_bytes.now.items c.pop.new.self.items c.in-Some.first c.in-Some.ensures.items c.requires.ends

pub returns-clause-ok : goal.returns-clause-ok
returns-clause-ok c =
    let outlines = c.args.outlines.now in
    let start = c.saturating_sub-start.result in
    let first_bytes = c.read_first_bytes.new.first_bytes.items in
    let before : start < length outlines = omega (arith, c.requires.some, c.saturating_sub-start.ensures) in
    let read : first_bytes ≡ map (λ o. first_byte_in (option_copied o)) (drop start outlines) = c.in_ok-read_first_bytes.ensures.ok ∙ ap (map (λ o. first_byte_in (option_copied o))) (take_rest outlines start) in
    taken_new (map (λ o. first_byte_in (option_copied o)) outlines) first_bytes c.pop-2.new.self.items c.pop-2.result c.unwrap_or.result 0 _ _ c.pop-2.ensures.items c.pop-2.ensures.rest c.pop-2.ensures.cases (some_read outlines start first_bytes read before) c.unwrap_or.ensures (block_read outlines start first_bytes read)
