use Rattle.std.proofs.Common.{◌≡◌, Bool, length, ap, sym, subst, ◌∙◌, arith}
use Rattle.subsetter_sfnt.specs.Fields.Loca.{loca_bytes}
use Rattle.subsetter_instance.specs.Tables.Requested.{IsOrder, offsets_by, outlines_by, starts_by}
use Rattle.subsetter_instance.specs.Tables.Written.{by_glyph, glyph_among, glyf_bytes, is_long, head_bytes}
use Rattle.subsetter_instance.proofs.TablesLaws.RequestedLemmas.{outlines_are, offsets_are, length-starts}
use Rattle.subsetter_instance.proofs.tables.file.new_tables.Goals as goal

pub returns-clause-glyf : goal.returns-clause-glyf
returns-clause-glyf c =
    c.in_ok-outlines.ensures.glyf
    ∙ outlines_are c.args.mapper.now c.args.drawn.now c.args.count c.deref.result.now (subst (IsOrder c.args.mapper.now c.args.count 0) (sym c.deref.ensures.value) c.in_ok-order.ensures.ok)

pub loca-requires : goal.loca-requires
loca-requires c =
    ap length (c.deref-5.ensures.value ∙ c.in_ok-outlines.ensures.starts)
    ∙ length-starts (glyph_among c.args.mapper.now c.args.drawn.now) 0 c.deref.result.now
    ∙ ap length (c.deref.ensures.value ∙ sym c.deref-4.ensures.value)

pub returns-clause-loca : goal.returns-clause-loca
returns-clause-loca c =
    let glyphs = c.args.mapper.now in
    let ds = c.args.drawn.now in
    let n = c.args.count in
    let among = glyph_among glyphs ds in
    let order = c.deref-4.result.now in
    let there : c.deref.result.now ≡ order = c.deref.ensures.value ∙ sym c.deref-4.ensures.value in
    let is_order = subst (IsOrder glyphs n 0) (sym c.deref-4.ensures.value) c.in_ok-order.ensures.ok in
    let starts : c.deref-5.result.now ≡ starts_by among 0 order = c.deref-5.ensures.value ∙ c.in_ok-outlines.ensures.starts ∙ ap (starts_by among 0) there in
    let outlines : c.in_ok-outlines.outlines.glyf.items ≡ outlines_by among order = c.in_ok-outlines.ensures.glyf ∙ ap (outlines_by among) there in
    let end : c.len-end.result ≡ length (outlines_by among order) = omega (arith, c.len-end.ensures, c.in_ok-outlines.outlines.glyf.ok.0, ap length outlines) in
    let long : c.is_long-long.result ≡ is_long (glyf_bytes (by_glyph glyphs ds n)) = c.is_long-long.ensures ∙ ap is_long (c.deref-3.ensures.value ∙ outlines ∙ outlines_are glyphs ds n order is_order) in
    c.in_ok-loca.ensures.ok
    ∙ ap (λ (l : Bool). loca_bytes l (offsets_by n c.len-end.result 0 order c.deref-5.result.now)) long
    ∙ ap (loca_bytes (is_long (glyf_bytes (by_glyph glyphs ds n)))) (offsets_are glyphs ds n c.len-end.result order c.deref-5.result.now is_order starts end)

pub returns-clause-head : goal.returns-clause-head
returns-clause-head c =
    let glyphs = c.args.mapper.now in
    let ds = c.args.drawn.now in
    let n = c.args.count in
    let is_order = subst (IsOrder glyphs n 0) (sym c.deref.ensures.value) c.in_ok-order.ensures.ok in
    let long : c.is_long-long.result ≡ is_long (glyf_bytes (by_glyph glyphs ds n)) = c.is_long-long.ensures ∙ ap is_long (c.deref-3.ensures.value ∙ c.in_ok-outlines.ensures.glyf ∙ outlines_are glyphs ds n c.deref.result.now is_order) in
    c.in_ok-head.ensures ∙ ap (λ (l : Bool). head_bytes l ds c.args.head.now) long
