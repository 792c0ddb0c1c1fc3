use Rattle.std.proofs.Common.{List, ℕ, ◌++◌, ap, ◌∙◌, arith}
use Rattle.subsetter.specs.Common.Post.Plain.{seen_post}
use Rattle.subsetter.proofs.CommonLaws.PostLaws.Indexes.{written}
use Rattle.subsetter.proofs.common.post.write.write_table.Goals as goal

pub returns : goal.returns
returns c =
    let is = c.args.indexes.now in
    written (seen_post c.args.table.now) c.args.names.now is c.args.count c.extend.new.self c.write.new.self c.write_indexes.new.w c.write_names.new.w c.shrink_to_fit.new.self.items
    c.requires.names c.requires.count (omega arith) (c.in_ok-extend.ensures.ok ∙ ap (λ (l : List ℕ). l ++ c.args.table.now.header.now) c.in_ok-w.ensures.ok) c.in_ok-write.ensures.ok c.in_ok-write_indexes.ensures.ok c.in_ok-write_names.ensures.ok (c.shrink_to_fit.ensures.items ∙ c.finish-bytes.ensures)
