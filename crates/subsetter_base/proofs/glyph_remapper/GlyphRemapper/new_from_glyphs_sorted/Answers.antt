use Rattle.std.proofs.Common.{◌≡◌}
use Rattle.std.specs.List.Sorted.{IsPermutation, IsSorted}
use Rattle.std.specs.Ordering.{nat_cmp}
use Rattle.subsetter_base.proofs.GlyphResults.{ok_as, room_as, err_as}
use Rattle.subsetter_base.proofs.glyph_remapper.GlyphRemapper.new_from_glyphs_sorted.Goals as goal

pub returns-clause-ok : goal.returns-clause-ok
returns-clause-ok c =
    let glyphs = c.args.glyphs.now in
    let copied : c.in_ok-sorted.sorted.items ≡ glyphs = c.in_ok-sorted.ensures.items_if_clones_equal (λ x y h. h) in
    let same : IsPermutation glyphs c.deref.result.now = rw (c.deref.ensures.value, ← copied) c.sort_unstable.ensures.permutation in
    let order : IsSorted nat_cmp c.deref.result.now = rw c.deref.ensures.value c.sort_unstable.ensures.sorted in
    ok_as glyphs c.deref.result.now c.new_from_glyphs.result same order c.new_from_glyphs.ensures.ok

pub returns-clause-room : goal.returns-clause-room
returns-clause-room c =
    let glyphs = c.args.glyphs.now in
    let copied : c.in_ok-sorted.sorted.items ≡ glyphs = c.in_ok-sorted.ensures.items_if_clones_equal (λ x y h. h) in
    let same : IsPermutation glyphs c.deref.result.now = rw (c.deref.ensures.value, ← copied) c.sort_unstable.ensures.permutation in
    room_as glyphs c.deref.result.now c.new_from_glyphs.result same c.new_from_glyphs.ensures.room

pub returns-clause-err : goal.returns-clause-err
returns-clause-err c =
    let glyphs = c.args.glyphs.now in
    let copied : c.in_ok-sorted.sorted.items ≡ glyphs = c.in_ok-sorted.ensures.items_if_clones_equal (λ x y h. h) in
    let same : IsPermutation glyphs c.deref.result.now = rw (c.deref.ensures.value, ← copied) c.sort_unstable.ensures.permutation in
    err_as glyphs c.deref.result.now c.new_from_glyphs.result same c.new_from_glyphs.ensures.err
