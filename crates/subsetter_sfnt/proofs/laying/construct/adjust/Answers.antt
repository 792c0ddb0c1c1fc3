use Rattle.std.proofs.Common.{◌≡◌, ◌+◌, ◌∷◌, ◌++◌, take, drop, length, map, subst, ap, sym, ◌∙◌, arith}
use Rattle.std.specs.List.{AllByRecursion}
use Rattle.std.proofs.lemmas.List.{drop_more}
use Rattle.subsetter_base.specs.Bytes.{aligned}
use Rattle.subsetter_sfnt.specs.declared.laying.tables.NewTable.{NewTable}
use Rattle.subsetter_sfnt.specs.Laying.Written.{body, adjusted, fits, IsTable}
use Rattle.subsetter_sfnt.specs.View.{view, views}
use Rattle.subsetter_sfnt.proofs.Laws.LayingLaws.Written.{fitting, rounded, stands, past, length-adjusted}
use Rattle.subsetter_sfnt.proofs.laying.construct.adjust.Goals as goal

pub adjust_table-requires-clause-within : goal.adjust_table-requires-clause-within
adjust_table-requires-clause-within g c =
    let i = c.loop-table.table-index in
    let ts = c.args.tables.now in
    let t = c.table-item.result in
    let others = drop (i + 1) ts in
    let more : views g.T.TableBytes.bytes_of (drop i ts) ≡ view g.T.TableBytes.bytes_of t ∷ views g.T.TableBytes.bytes_of others = ap (views g.T.TableBytes.bytes_of) (drop_more ts i t c.loop-table-test.true ∙ ap (λ (x : NewTable g.row.T.Denot). x ∷ others) (sym c.table-item.is)) in
    (stands c.loop-table.out.items (view g.T.TableBytes.bytes_of t).bytes (body (views g.T.TableBytes.bytes_of others)) c.loop-table.at c.loop-table.invariant.within (c.loop-table.invariant.rest ∙ ap body more)).within

pub loop-table-preserved : goal.loop-table-preserved
loop-table-preserved g c =
    let i = c.loop-table.table-index in
    let at = c.loop-table.at in
    let ts = c.args.tables.now in
    let t = c.table-item.result in
    let others = drop (i + 1) ts in
    let word = c.args.word in
    let more : views g.T.TableBytes.bytes_of (drop i ts) ≡ view g.T.TableBytes.bytes_of t ∷ views g.T.TableBytes.bytes_of others = ap (views g.T.TableBytes.bytes_of) (drop_more ts i t c.loop-table-test.true ∙ ap (λ (x : NewTable g.row.T.Denot). x ∷ others) (sym c.table-item.is)) in
    let f = fitting at (view g.T.TableBytes.bytes_of t) (views g.T.TableBytes.bytes_of others) (ap (fits at) (sym more) ∙ c.loop-table.invariant.fit) in
    let len : c.len.result ≡ length (view g.T.TableBytes.bytes_of t).bytes = c.len.ensures.exact f.len in
    let next : at + c.aligned_len-at.result ≡ at + length (aligned 4 (view g.T.TableBytes.bytes_of t).bytes) = omega (arith, c.aligned_len-at.ensures, len, rounded (view g.T.TableBytes.bytes_of t).bytes) in
    let all = subst (AllByRecursion IsTable) more c.loop-table.invariant.tables in
    let p = past c.loop-table.out.items c.adjust_table.new.out.items (view g.T.TableBytes.bytes_of t).bytes (adjusted word (view g.T.TableBytes.bytes_of t)).bytes (body (views g.T.TableBytes.bytes_of others)) (body (map (adjusted word) (views g.T.TableBytes.bytes_of others))) _ at (at + c.aligned_len-at.result) c.loop-table.invariant.within
    (c.loop-table.invariant.rest ∙ ap body more) c.adjust_table.ensures (length-adjusted word (view g.T.TableBytes.bytes_of t) all.0) next
    (ap (λ v. take at c.loop-table.out.items ++ body (map (adjusted word) v)) (sym more) ∙ c.loop-table.invariant.done) in
    record {
      done = p.done;
      rest = p.rest_is;
      within = p.within;
      fit = ap (λ n. fits n (views g.T.TableBytes.bytes_of others)) next ∙ f.rest;
      tables = all.1;
    }
