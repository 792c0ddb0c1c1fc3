use Rattle.std.proofs.Common.{◌≤◌, arith, length, refl, ap}
use Rattle.subsetter_type2.proofs.RunsLaws.OutputLemmas.{holds_at, last_inside, last_there, last_value, stands_before, written_is, rest_from, at_view}
use Rattle.subsetter_type2.proofs.runs.output.OutputSink.pop.Goals as goal

pub slice_bounds-read_number-count : goal.slice_bounds-read_number-count
slice_bounds-read_number-count c =
    let h = c.self.invariant.stands in
    let e = at_view _ _ _ c.self.view_is c.in_ok-place.ensures in
    let some : 1 ≤ c.self.inside.count = omega (arith, h.many, e.1) in
    omega (arith, last_inside _ _ _ _ h some _ e.0, ap length c.deref.ensures.value)

pub slice_bounds-read_number-start : goal.slice_bounds-read_number-start
slice_bounds-read_number-start c =
    let h = c.self.invariant.stands in
    let e = at_view _ _ _ c.self.view_is c.in_ok-place.ensures in
    let some : 1 ≤ c.self.inside.count = omega (arith, h.many, e.1) in
    omega (arith, last_inside _ _ _ _ h some _ e.0, ap length c.deref.ensures.value)

pub returns-in_err-value-clause-value : goal.returns-in_err-value-clause-value
returns-in_err-value-clause-value c =
    let h = c.self.invariant.stands in
    let e = at_view _ _ _ c.self.view_is c.in_ok-place.ensures in
    let some : 1 ≤ c.self.inside.count = omega (arith, h.many, e.1) in
    absurd (last_there _ _ _ _ h some _ e.0 _ (rest_from _ _ _ c.deref.ensures.value) c.in_err-value.ensures)

pub returns-in_err-value-clause-rest : goal.returns-in_err-value-clause-rest
returns-in_err-value-clause-rest c =
    let h = c.self.invariant.stands in
    let e = at_view _ _ _ c.self.view_is c.in_ok-place.ensures in
    let some : 1 ≤ c.self.inside.count = omega (arith, h.many, e.1) in
    absurd (last_there _ _ _ _ h some _ e.0 _ (rest_from _ _ _ c.deref.ensures.value) c.in_err-value.ensures)

pub invariant_of-self : goal.invariant_of-self
invariant_of-self c =
    let h = c.self.invariant.stands in
    let e = at_view _ _ _ c.self.view_is c.in_ok-place.ensures in
    let some : 1 ≤ c.self.inside.count = omega (arith, h.many, e.1) in
    rw c.truncate.ensures.items (holds_at _ _ _ _ _ (stands_before _ _ _ _ h some _ e.0) refl)

pub returns-clause-value : goal.returns-clause-value
returns-clause-value c =
    let h = c.self.invariant.stands in
    let e = at_view _ _ _ c.self.view_is c.in_ok-place.ensures in
    let some : 1 ≤ c.self.inside.count = omega (arith, h.many, e.1) in
    rw (← c.self.view_is) (last_value _ _ _ _ h some _ e.0 _ _ _ (rest_from _ _ _ c.deref.ensures.value) c.in_ok-value.ensures)

pub returns-clause-rest : goal.returns-clause-rest
returns-clause-rest c =
    let h = c.self.invariant.stands in
    let e = at_view _ _ _ c.self.view_is c.in_ok-place.ensures in
    let some : 1 ≤ c.self.inside.count = omega (arith, h.many, e.1) in
    rw (← c.self.view_is, c.truncate.ensures.items) (written_is _ _ _ _ (stands_before _ _ _ _ h some _ e.0))
