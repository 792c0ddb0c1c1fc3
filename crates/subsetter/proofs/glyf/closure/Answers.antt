use Rattle.std.proofs.Common.{◌≡◌, ◌⊎◌, ℕ, ◌+◌, ◌-◌, ◌<◌, ◌≤◌, List, [], ◌++◌, length, take, get_or, refl, sym, ap, subst, ◌∙◌, arith}
use Rattle.std.specs.Prelude.{false, ◌||◌, map}
use Rattle.std.specs.Option.{option_copied}
use Rattle.std.proofs.lemmas.Result.{err_from_is_err_and}
use Rattle.std.proofs.lemmas.List.{append-nil, length-take-le}
use Rattle.std.proofs.Math.Seq.{take-length}
use Rattle.subsetter.specs.Glyf.Reaching.Closure.{first_byte_in, EndsWith, components_in, others_in, LacksParts}
use Rattle.subsetter_base.specs.declared.error.Error.TheVariants.{OutOfMemory, MalformedFont}
use Rattle.subsetter.specs.Glyf.Read.{outline_in}
use Rattle.subsetter.specs.Glyf.BareOutlines.Size.{requested_size}
use Rattle.subsetter.specs.Glyf.View.{seen}
use Rattle.subsetter.proofs.GlyfLaws.ReachingLaws.Closure.{Follows, start, followed, visited_next, finished, given_reached, waits_reached, stops_memory, stops_given, stops_visit}
use Rattle.subsetter.proofs.GlyfLaws.ReachingLaws.Found.{FoundFrom, found_start, found_followed, found_visited, found_last}
use Rattle.subsetter.proofs.GlyfLaws.BareOutlinesLaws.Sizes.{count_start, count_given, count_further, stops_long}
use Rattle.subsetter.proofs.GlyfLaws.ReachingLaws.Taken.{heads_in, outlines_left, heads_left, first_byte_taken, found_at, one_taken}
use Rattle.subsetter.proofs.glyf.closure.Goals as goal

pub returns-in_err-order-clause-err : goal.returns-in_err-order-clause-err
returns-in_err-order-clause-err c =
    let p = err_from_is_err_and c.from_residual.result c.from_residual.ensures.1 in
    rw (p.1, p.2) (stops_memory c.args.most (seen c.args.table.now) c.args.mapper.now c.in_err-order.field-0.0 c.in_err-order.ensures.err)

pub returns-in_err-outlines-clause-err : goal.returns-in_err-outlines-clause-err
returns-in_err-outlines-clause-err c =
    let p = err_from_is_err_and c.from_residual-in_err-outlines.result c.from_residual-in_err-outlines.ensures.1 in
    rw (p.1, p.2) (stops_memory c.args.most (seen c.args.table.now) c.args.mapper.now c.in_err-outlines.field-0.0 c.in_err-outlines.ensures.err)

pub loop-left-init : goal.loop-left-init
loop-left-init c =
    let t = seen c.args.table.now in
    let glyphs = c.args.mapper.now in
    let all : take c.num_gids-left.result glyphs ≡ glyphs = ap (λ n. take n glyphs) c.num_gids-left.ensures.count ∙ take-length glyphs in
    record {
      within = omega (arith, c.num_gids-left.ensures.count);
      first_bytes = record { front = heads_in t (take c.num_gids-left.result glyphs); is = sym (append-nil _) ∙ ap (λ (l : List ℕ). heads_in t (take c.num_gids-left.result glyphs) ++ l) (sym c.in_ok-first_bytes.ensures.items) };
      follows = start t glyphs _ c.in_ok-order.order all c.in_ok-order.ensures.ok c.num_gids-left.ensures.once (omega (arith, c.num_gids-left.ensures.few));
      none_waits = c.new-waiting.ensures.items;
      outlines = c.in_ok-outlines.ensures.ok ∙ ap (map (outline_in t)) (sym c.in_ok-order.ensures.ok);
      found = found_start t glyphs _ c.in_ok-order.order all c.in_ok-order.ensures.ok;
      within_most = omega arith;
      counted = count_start t glyphs (take c.num_gids-left.result glyphs) c.in_ok-order.order 0 false refl refl (all ∙ sym c.in_ok-order.ensures.ok);
    }

pub slice_bounds-pop_first_byte-end : goal.slice_bounds-pop_first_byte-end
slice_bounds-pop_first_byte-end c =
    let i = c.loop-left.invariant in
    sym (length-take-le c.loop-left.left c.deref.result.now (outlines_left (seen c.args.table.now) c.args.mapper.now i.follows.others c.loop-left.order c.loop-left.outlines.items c.deref.result.now c.loop-left.left i.outlines i.follows.begins i.within c.deref.ensures.value))

pub pop_first_byte-requires-clause-some : goal.pop_first_byte-requires-clause-some
pop_first_byte-requires-clause-some c =
    let i = c.loop-left.invariant in
    omega (arith, c.loop-left-test.true, length-take-le c.loop-left.left c.deref.result.now (outlines_left (seen c.args.table.now) c.args.mapper.now i.follows.others c.loop-left.order c.loop-left.outlines.items c.deref.result.now c.loop-left.left i.outlines i.follows.begins i.within c.deref.ensures.value))

pub pop_first_byte-requires-clause-ends : goal.pop_first_byte-requires-clause-ends
pop_first_byte-requires-clause-ends c =
    let i = c.loop-left.invariant in
    subst (λ (l : List ℕ). EndsWith l c.loop-left.first_bytes.items) (sym (heads_left (seen c.args.table.now) c.args.mapper.now i.follows.others c.loop-left.order c.loop-left.outlines.items _ c.loop-left.left (ap (take c.loop-left.left) c.deref.ensures.value) i.outlines i.follows.begins i.within)) i.first_bytes

pub returns-in_err-first-clause-err : goal.returns-in_err-first-clause-err
returns-in_err-first-clause-err c =
    let p = err_from_is_err_and c.from_residual-in_err-first.result c.from_residual-in_err-first.ensures.1 in
    rw (p.1, p.2) (stops_memory c.args.most (seen c.args.table.now) c.args.mapper.now c.in_err-first.field-0.0 c.in_err-first.ensures.err)

pub index-requires : goal.index-requires
index-requires c =
    let i = c.loop-left.invariant in
    omega (arith, c.loop-left-test.true, c.deref.ensures.len, outlines_left (seen c.args.table.now) c.args.mapper.now i.follows.others c.loop-left.order c.loop-left.outlines.items c.deref.result.now c.loop-left.left i.outlines i.follows.begins i.within c.deref.ensures.value)

pub follow-requires : goal.follow-requires
follow-requires c =
    let i = c.loop-left.invariant in
    let t = seen c.args.table.now in
    let glyphs = c.args.mapper.now in
    let n = c.loop-left.left - 1 in
    let lt : n < length glyphs = omega (arith, c.loop-left-test.true, i.within) in
    let all = heads_left t glyphs i.follows.others c.loop-left.order c.loop-left.outlines.items _ c.loop-left.left (ap (take c.loop-left.left) c.deref.ensures.value) i.outlines i.follows.begins i.within in
    let taken = first_byte_taken t glyphs _ c.pop_first_byte.new.first_bytes.items c.loop-left.left n c.in_ok-first.first lt (omega (arith, c.loop-left-test.true)) all c.in_ok-first.ensures.ok in
    let here = ap option_copied c.index.ensures ∙ found_at t glyphs i.follows.others c.loop-left.order c.loop-left.outlines.items n c.index.result.now i.outlines i.follows.begins lt in
    taken.0 ∙ ap first_byte_in (sym here)

pub returns-in_err-given-clause-err : goal.returns-in_err-given-clause-err
returns-in_err-given-clause-err c =
    let p = err_from_is_err_and c.from_residual-in_err-given.result c.from_residual-in_err-given.ensures.1 in
    let i = c.loop-left.invariant in
    let t = seen c.args.table.now in
    let glyphs = c.args.mapper.now in
    let n = c.loop-left.left - 1 in
    let lt : n < length glyphs = omega (arith, c.loop-left-test.true, i.within) in
    let parts = one_taken glyphs c.loop-left.left n lt (omega (arith, c.loop-left-test.true)) in
    let here = ap option_copied c.index.ensures ∙ found_at t glyphs i.follows.others c.loop-left.order c.loop-left.outlines.items n c.index.result.now i.outlines i.follows.begins lt in
    let e = c.in_err-given.field-0.0 in
    rw (p.1, p.2) (stops_given c.args.most t glyphs _ _ c.loop-left.order (get_or glyphs n 0) e parts i.follows (subst (λ o. (e ≡ OutOfMemory) ⊎ ((e ≡ MalformedFont) × LacksParts o)) here c.in_err-given.ensures.err))

pub loop-component-init : goal.loop-component-init
loop-component-init c =
    let i = c.loop-left.invariant in
    let t = seen c.args.table.now in
    let glyphs = c.args.mapper.now in
    let n = c.loop-left.left - 1 in
    let order = c.loop-left.order in
    let lt : n < length glyphs = omega (arith, c.loop-left-test.true, i.within) in
    let g = get_or glyphs n 0 in
    let parts = one_taken glyphs c.loop-left.left n lt (omega (arith, c.loop-left-test.true)) in
    let here = ap option_copied c.index.ensures ∙ found_at t glyphs i.follows.others order c.loop-left.outlines.items n c.index.result.now i.outlines i.follows.begins lt in
    let wait = subst (λ o. c.follow.new.waiting.items ≡ c.loop-left.waiting.items ++ others_in order (components_in o)) here c.in_ok-given.ensures.ok in
    record {
      follows = followed t glyphs _ _ c.loop-left.waiting.items order g c.follow.new.waiting.items parts i.none_waits wait i.follows;
      outlines = i.outlines;
      found = found_followed t glyphs _ _ c.loop-left.waiting.items order g c.follow.new.waiting.items parts i.none_waits wait i.found;
      within_most = c.in_ok-size.ensures.within;
      counted = count_given t glyphs _ _ order g c.loop-left.size.bytes c.in_ok-given.given.bytes _ c.loop-left.size.cut c.in_ok-given.given.cut _ parts (given_reached t glyphs _ _ [] order g parts i.follows)
          (λ e. subst (λ o. c.in_ok-given.given.bytes ≤ requested_size t.hinting o) here (c.in_ok-given.ensures.size e)) (λ e. subst LacksParts here (c.in_ok-given.ensures.cut e)) c.in_ok-size.ensures.bytes c.in_ok-size.ensures.cut i.counted;
    }

pub visit-requires : goal.visit-requires
visit-requires c = c.loop-component.invariant.outlines

pub loop-component-preserved : goal.loop-component-preserved
loop-component-preserved c = record {
  follows = visited_next (seen c.args.table.now) c.args.mapper.now _ c.loop-component.waiting.items c.pop.new.self.items c.loop-component.order c.in-Some.component c.visit.new.order c.visit.new.waiting.items c.in-Some.ensures.items c.in_ok-further.ensures.ok c.loop-component.invariant.follows;
  outlines = c.in_ok-further.ensures.found;
  within_most = c.in_ok-size-2.ensures.within;
  counted = count_further (seen c.args.table.now) c.args.mapper.now _ c.loop-component.order c.visit.new.order c.in-Some.component c.loop-component.size.bytes c.in_ok-further.further.bytes _ c.loop-component.size.cut c.in_ok-further.further.cut _
      (waits_reached (seen c.args.table.now) c.args.mapper.now _ c.loop-component.waiting.items c.pop.new.self.items c.loop-component.order c.in-Some.component c.in-Some.ensures.items c.loop-component.invariant.follows)
      c.in_ok-further.ensures.size c.in_ok-further.ensures.cut c.in_ok-size-2.ensures.bytes c.in_ok-size-2.ensures.cut c.loop-component.invariant.counted;
  found = found_visited (seen c.args.table.now) c.args.mapper.now _ c.loop-component.waiting.items c.pop.new.self.items c.loop-component.order c.in-Some.component c.visit.new.order c.visit.new.waiting.items c.in-Some.ensures.items c.in_ok-further.ensures.ok c.loop-component.invariant.found;
}

pub returns-in_err-further-clause-err : goal.returns-in_err-further-clause-err
returns-in_err-further-clause-err c =
    let p = err_from_is_err_and c.from_residual-in_err-further.result c.from_residual-in_err-further.ensures.1 in
    rw (p.1, p.2) (stops_visit c.args.most (seen c.args.table.now) c.args.mapper.now _ c.loop-component.waiting.items c.pop.new.self.items c.loop-component.order c.in-Some.component c.in_err-further.field-0.0 c.in-Some.ensures.items c.loop-component.invariant.follows c.in_err-further.ensures.err)

pub loop-left-preserved : goal.loop-left-preserved
loop-left-preserved c =
    let i = c.loop-left.invariant in
    let t = seen c.args.table.now in
    let glyphs = c.args.mapper.now in
    let n = c.loop-left.left - 1 in
    let lt : n < length glyphs = omega (arith, c.loop-left-test.true, i.within) in
    let all = heads_left t glyphs i.follows.others c.loop-left.order c.loop-left.outlines.items _ c.loop-left.left (ap (take c.loop-left.left) c.deref.ensures.value) i.outlines i.follows.begins i.within in
    let taken = first_byte_taken t glyphs _ c.pop_first_byte.new.first_bytes.items c.loop-left.left n c.in_ok-first.first lt (omega (arith, c.loop-left-test.true)) all c.in_ok-first.ensures.ok in
    let waiting = c.loop-component.waiting.items in
    let none : waiting ≡ [] = c.in_default.ensures.items ∙ ap (λ (l : List ℕ). l ++ []) (c.in_default.ensures.rest ∙ ap (λ k. take (k - 1) waiting) c.in_default.ensures.cases.0) in
    record {
      within = omega (arith, lt);
      first_bytes = taken.1;
      follows = subst (λ (l : List ℕ). Follows t glyphs (take n glyphs) l c.loop-component.order) none c.loop-component.invariant.follows;
      none_waits = c.in_default.ensures.rest ∙ ap (λ k. take (k - 1) waiting) c.in_default.ensures.cases.0;
      outlines = c.loop-component.invariant.outlines;
      found = subst (λ (l : List ℕ). FoundFrom t glyphs (take n glyphs) l c.loop-component.order) none c.loop-component.invariant.found;
      within_most = c.loop-component.invariant.within_most;
      counted = c.loop-component.invariant.counted;
    }

pub returns-clause-ok : goal.returns-clause-ok
returns-clause-ok c =
    let glyphs = c.args.mapper.now in
    let none : take c.loop-left.left glyphs ≡ [] = ap (λ n. take n glyphs) (let e : c.loop-left.left ≡ 0 = omega (arith, c.loop-left-test.false) in e) in
    finished (seen c.args.table.now) glyphs _ c.loop-left.order none c.loop-left.invariant.follows

pub returns-clause-found : goal.returns-clause-found
returns-clause-found c =
    let glyphs = c.args.mapper.now in
    let none : take c.loop-left.left glyphs ≡ [] = ap (λ n. take n glyphs) (let e : c.loop-left.left ≡ 0 = omega (arith, c.loop-left-test.false) in e) in
    found_last (seen c.args.table.now) glyphs _ c.loop-left.order none c.loop-left.invariant.found

pub returns-clause-outlines : goal.returns-clause-outlines
returns-clause-outlines c = c.loop-left.invariant.outlines

pub returns-in_err-first_bytes-clause-err : goal.returns-in_err-first_bytes-clause-err
returns-in_err-first_bytes-clause-err c =
    let p = err_from_is_err_and c.from_residual-in_err-first_bytes.result c.from_residual-in_err-first_bytes.ensures.1 in
    rw p.1 (stops_memory c.args.most (seen c.args.table.now) c.args.mapper.now p.0 p.2)

pub returns-in_err-size-clause-err : goal.returns-in_err-size-clause-err
returns-in_err-size-clause-err c =
    let p = err_from_is_err_and c.from_residual-in_err-size.result c.from_residual-in_err-size.ensures.1 in
    let i = c.loop-left.invariant in
    let t = seen c.args.table.now in
    let glyphs = c.args.mapper.now in
    let n = c.loop-left.left - 1 in
    let order = c.loop-left.order in
    let lt : n < length glyphs = omega (arith, c.loop-left-test.true, i.within) in
    let g = get_or glyphs n 0 in
    let parts = one_taken glyphs c.loop-left.left n lt (omega (arith, c.loop-left-test.true)) in
    let here = ap option_copied c.index.ensures ∙ found_at t glyphs i.follows.others order c.loop-left.outlines.items n c.index.result.now i.outlines i.follows.begins lt in
    let counted = count_given t glyphs _ (take n glyphs) order g c.loop-left.size.bytes c.in_ok-given.given.bytes (c.loop-left.size.bytes + c.in_ok-given.given.bytes) c.loop-left.size.cut c.in_ok-given.given.cut (c.loop-left.size.cut || c.in_ok-given.given.cut) parts (given_reached t glyphs _ _ [] order g parts i.follows)
    (λ e. subst (λ o. c.in_ok-given.given.bytes ≤ requested_size t.hinting o) here (c.in_ok-given.ensures.size e)) (λ e. subst LacksParts here (c.in_ok-given.ensures.cut e)) refl refl i.counted in
    let wait = subst (λ o. c.follow.new.waiting.items ≡ c.loop-left.waiting.items ++ others_in order (components_in o)) here c.in_ok-given.ensures.ok in
    let follows = followed t glyphs _ (take n glyphs) c.loop-left.waiting.items order g c.follow.new.waiting.items parts i.none_waits wait i.follows in
    rw (p.1, p.2) (stops_long c.args.most t glyphs _ c.follow.new.waiting.items order _ _ c.in_err-size.field-0.0 follows counted c.in_err-size.ensures.err)

pub returns-in_err-size-2-clause-err : goal.returns-in_err-size-2-clause-err
returns-in_err-size-2-clause-err c =
    let p = err_from_is_err_and c.from_residual-in_err-size-2.result c.from_residual-in_err-size-2.ensures.1 in
    let t = seen c.args.table.now in
    let glyphs = c.args.mapper.now in
    let f = visited_next t glyphs _ c.loop-component.waiting.items c.pop.new.self.items c.loop-component.order c.in-Some.component c.visit.new.order c.visit.new.waiting.items c.in-Some.ensures.items c.in_ok-further.ensures.ok c.loop-component.invariant.follows in
    let counted = count_further t glyphs _ c.loop-component.order c.visit.new.order c.in-Some.component c.loop-component.size.bytes c.in_ok-further.further.bytes (c.loop-component.size.bytes + c.in_ok-further.further.bytes) c.loop-component.size.cut c.in_ok-further.further.cut (c.loop-component.size.cut || c.in_ok-further.further.cut)
    (waits_reached t glyphs _ c.loop-component.waiting.items c.pop.new.self.items c.loop-component.order c.in-Some.component c.in-Some.ensures.items c.loop-component.invariant.follows) c.in_ok-further.ensures.size c.in_ok-further.ensures.cut refl refl c.loop-component.invariant.counted in
    rw (p.1, p.2) (stops_long c.args.most t glyphs _ c.visit.new.waiting.items c.visit.new.order _ _ c.in_err-size-2.field-0.0 f counted c.in_err-size-2.ensures.err)
